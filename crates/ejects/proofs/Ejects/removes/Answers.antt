use Rattle.std.proofs.Common.{sym, ◌∙◌, ap, subst}
use Rattle.std.specs.FinMap.{get}
use Rattle.eden_model.specs.Lines.{Distinct}
use Rattle.eden_model.specs.Map.{value_at, uid_cmp}
use Rattle.eden_model.specs.Traffic.{all_replied}
use Rattle.eden_value.specs.declared.status.Status.TheVariants as status
use Rattle.invocation.specs.Carries.{Carries}
use Rattle.ejects.specs.Parts.{queue_of}
use Rattle.ejects.specs.Replies.{AreOut}
use Rattle.ejects.specs.StoreEnds.{WentAs}
use Rattle.ejects.specs.View.{parts_of}
use Rattle.ejects.proofs.Forgetting.{by-active, none-passive, forgotten-passive, there-none}
use Rattle.ejects.proofs.Leaving.{parts_with}
use Rattle.ejects.proofs.Ejects.removes.Goals as goal

pub returns-in_ok-sleeps-in-Active-clause-went : goal.returns-in_ok-sleeps-in-Active-clause-went
returns-in_ok-sleeps-in-Active-clause-went c ts there =
    by-active ts
    (λ o. WentAs o c.args.uid (parts_of ts c.args.self.now) (parts_of ts c.sleeps.new.self) c.args.calls.now c.sleeps.new.calls)
    (get c.args.self.now.table.standings c.args.uid) (sym c.find.ensures ∙ c.in-Active.is)
    (λ b at. c.in_ok-sleeps-in-Active.ensures.slept ts b at)

pub returns-in_ok-reply_all-in-Passive-clause-went : goal.returns-in_ok-reply_all-in-Passive-clause-went
returns-in_ok-reply_all-in-Passive-clause-went c ts there =
    let table = c.args.self.now.table in
    let waits = c.args.self.now.waiting.entries in
    let passive = sym c.find.ensures ∙ c.in-Passive.is in
    let none = none-passive ts (get table.standings c.args.uid) passive in
    let later = parts_with ts c.forget.new.self c.take_waiting-queued.new.waiting.entries in
    let queue = c.take_waiting-queued.ensures.calls ∙ sym (ap (λ o. queue_of o (value_at uid_cmp c.args.uid waits)) none) in
    subst (λ o. WentAs o c.args.uid (parts_of ts c.args.self.now) later c.args.calls.now c.reply_all.new.calls) (sym none)
    (record {
      parts = forgotten-passive ts table c.forget.new.self waits c.args.uid passive c.forget.ensures
          c.take_waiting-queued.new.waiting.entries c.take_waiting-queued.ensures.at;
      calls = λ t carries out once. subst (λ ks. Carries c.reply_all.new.calls (all_replied status.Gone ks t)) queue
          (c.in_ok-reply_all-in-Passive.ensures.model t carries (subst (AreOut t) (sym queue) out) (subst Distinct (sym queue) once));
    })

pub returns-in-Absent-clause-went : goal.returns-in-Absent-clause-went
returns-in-Absent-clause-went c ts there =
    absurd (there-none ts (get c.args.self.now.table.standings c.args.uid) (sym c.find.ensures ∙ c.in-Absent.is) there)
