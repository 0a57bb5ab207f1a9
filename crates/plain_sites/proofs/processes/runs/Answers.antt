use Rattle.std.proofs.Common.{subst, sym}
use Rattle.std.specs.Prelude.{◌↔◌, IfSome, IsSomeAnd, IsTrue}
use Rattle.eden_model.specs.Crew.{Runs}
use Rattle.epl_syntax.specs.Rules.OfTypes.{native_only}
use Rattle.active_part.specs.View.{coordination_of}
use Rattle.plain_sites.proofs.processes.runs.Goals as goal

pub returns-in-Some-clause-runs : goal.returns-in-Some-clause-runs
returns-in-Some-clause-runs c = subst (λ o. IsTrue c.runs.result ↔ IsSomeAnd o (λ it. Runs (coordination_of it).crew c.args.process))
    (sym c.in-Some.is) (c.runs.ensures native_only)

pub returns-in-Some-clause-may : goal.returns-in-Some-clause-may
returns-in-Some-clause-may c is = subst (λ o. IfSome o (λ it. Runs (coordination_of it).crew c.args.process))
    (sym c.in-Some.is) ((c.runs.ensures native_only).0 is)
