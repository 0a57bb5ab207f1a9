use Rattle.std.proofs.Common.{sym, ap, ◌∙◌}
use Rattle.std.specs.Prelude.{is_some}
use Rattle.std.specs.FinMap.{get}
use Rattle.active_part.specs.View.{body_of}
use Rattle.ejects.specs.Parts.{body_at}
use Rattle.ejects.specs.View.{parts_of}
use Rattle.ejects.proofs.Leaving.{active-body}
use Rattle.ejects.proofs.Marked.{may-start-by, may-run-by}
use Rattle.ejects.proofs.Ejects.may.Goals as goal

pub returns-in-Some-clause-start : goal.returns-in-Some-clause-start
returns-in-Some-clause-start c = λ ts.
    c.is_some.ensures ∙ ap is_some (c.startable.ensures ts)
    ∙ may-start-by (body_at (parts_of ts c.args.self.now) c.args.uid) (body_of ts c.in-Some.part.now)
    (active-body ts (get c.args.self.now.table.standings c.args.uid) c.in-Some.part.now (sym c.in-Some.ensures))

pub returns-in-Some-clause-run : goal.returns-in-Some-clause-run
returns-in-Some-clause-run c = λ ts.
    c.is_some-in-Some.ensures ∙ ap is_some (c.next_ready.ensures.next ts)
    ∙ may-run-by (body_at (parts_of ts c.args.self.now) c.args.uid) (body_of ts c.in-Some.part.now)
    (active-body ts (get c.args.self.now.table.standings c.args.uid) c.in-Some.part.now (sym c.in-Some.ensures))
    (c.next_ready.ensures.ascend ts)
