use Rattle.std.proofs.Common.{◌≡◌, sym, subst}
use Rattle.std.specs.Prelude.{IfSome}
use Rattle.std.specs.Option.{option_map}
use Rattle.active_part.specs.declared.part.Part.{Part}
use Rattle.journal.specs.Processes.{serving}
use Rattle.active_part.specs.Body.{active_of}
use Rattle.active_part.specs.View.{body_of}
use Rattle.plain_ejects.proofs.PlainEject.end.Goals as goal

pub returns-in-Some-clause-served : goal.returns-in-Some-clause-served
returns-in-Some-clause-served c ts = subst (λ o. IfSome (option_map (λ (p : Part). active_of (body_of ts p)) o)
    (λ a. c.end.result ≡ option_map (λ i. i.call) (serving a c.args.process))) (sym c.in-Some.is) (c.end.ensures.call ts)
