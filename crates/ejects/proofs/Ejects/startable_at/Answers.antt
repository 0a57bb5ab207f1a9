use Rattle.std.proofs.Common.{sym, ap, ◌∙◌}
use Rattle.std.specs.Prelude.{is_some}
use Rattle.std.specs.FinMap.{get}
use Rattle.ejects.specs.Parts.{body_at}
use Rattle.ejects.specs.View.{parts_of}
use Rattle.active_part.specs.View.{body_of}
use Rattle.ejects.specs.Marks.{may_start}
use Rattle.ejects.proofs.Leaving.{active-body, active-other}
use Rattle.ejects.proofs.Marked.{may-start-by}
use Rattle.ejects.proofs.Returning.{starts-found}
use Rattle.ejects.proofs.Ejects.startable_at.Goals as goal

pub returns-in-Some-clause-none : goal.returns-in-Some-clause-none
returns-in-Some-clause-none c ts =
    sym (may-start-by (body_at (parts_of ts c.args.self.now) c.args.uid) (body_of ts c.in-Some.part.now)
    (active-body ts (get c.args.self.now.table.standings c.args.uid) c.in-Some.part.now (sym c.in-Some.ensures)))
    ∙ sym (ap is_some (c.startable.ensures ts))

pub returns-in-None-clause-none : goal.returns-in-None-clause-none
returns-in-None-clause-none c ts =
    ap may_start (active-other ts (get c.args.self.now.table.standings c.args.uid) (sym c.in-None.ensures))

pub returns-in-Some-clause-starts : goal.returns-in-Some-clause-starts
returns-in-Some-clause-starts c =
    starts-found c.startable.result (λ ts. body_of ts c.in-Some.part.now) (λ ts. body_at (parts_of ts c.args.self.now) c.args.uid)
    c.startable.ensures
    (λ ts. active-body ts (get c.args.self.now.table.standings c.args.uid) c.in-Some.part.now (sym c.in-Some.ensures))
