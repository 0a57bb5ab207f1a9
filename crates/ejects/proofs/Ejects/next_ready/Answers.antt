use Rattle.std.proofs.Common.{None, sym, ap, subst, ◌∙◌}
use Rattle.std.specs.Prelude.{IfSome}
use Rattle.std.specs.FinMap.{get}
use Rattle.coordinator.specs.Ready.{AscendPast, next_ready}
use Rattle.eden_model.specs.Map.{with_item}
use Rattle.ejects.proofs.Leaving.{active-body}
use Rattle.ejects.proofs.Ejects.next_ready.Goals as goal

pub returns-in-Some-clause-next : goal.returns-in-Some-clause-next
returns-in-Some-clause-next c = λ ts.
    c.next_ready.ensures.next ts ∙ ap (λ o. with_item o (λ b. next_ready c.args.after b.crew.crew.processes) None)
    (sym (active-body ts (get c.args.self.now.table.standings c.args.uid) c.in-Some.part.now (sym c.in-Some.ensures)))

pub returns-in-Some-clause-ascend : goal.returns-in-Some-clause-ascend
returns-in-Some-clause-ascend c = λ ts.
    subst (λ o. IfSome o (λ b. AscendPast 0 b.crew.crew.processes))
    (sym (active-body ts (get c.args.self.now.table.standings c.args.uid) c.in-Some.part.now (sym c.in-Some.ensures)))
    (c.next_ready.ensures.ascend ts)
