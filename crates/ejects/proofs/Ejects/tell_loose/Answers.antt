use Rattle.std.proofs.Common.{◌≡◌, true, false, inl, inr, sym, subst, ◌∙◌}
use Rattle.std.specs.FinMap.{get}
use Rattle.eden_model.specs.Crew.{Waits, outside}
use Rattle.epl_syntax.specs.Rules.OfTypes.{native_only}
use Rattle.ejects.specs.Marks.{IsLoose, IsReady}
use Rattle.ejects.proofs.Active.{ready-runs}
use Rattle.ejects.proofs.Ejects.tell_loose.Goals as goal

pub answer_at-requires : goal.answer_at-requires
answer_at-requires c =
    ready-runs native_only (get c.args.self.now.table.standings c.args.uid) c.args.process
    ((c.is_ready.ensures native_only).0 c.if-is_ready.true)

pub returns-then-is_ready : goal.returns-then-is_ready
returns-then-is_ready c ts b at loose = c.answer_at.ensures ts b at

pub returns-else-is_ready : goal.returns-else-is_ready
returns-else-is_ready c ts b at loose = c.tell_at.ensures ts b at (go loose)
  where
    go : IsLoose b.crew.crew c.args.process → Waits b.crew.crew c.args.process outside
    go (inl waits) = waits
    go (inr runs) = absurd (let bad : true ≡ false =
        sym ((c.is_ready.ensures ts).1 (subst (λ o. IsReady o c.args.process) (sym at) runs)) ∙ c.if-is_ready.false in cc bad)
