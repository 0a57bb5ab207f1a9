use Rattle.std.proofs.Common.{◌≡◌, suc, ◌∷◌, ◌∙◌, subst, drop, get_or, drop-cons}
use Rattle.eden_model.specs.Traffic.{replied}
use Rattle.invocation.specs.Carries.{Carries}
use Rattle.ejects.proofs.Replying.{answering-at}
use Rattle.ejects.proofs.replies.reply_all.Goals as goal

pub loop-number-preserved : goal.loop-number-preserved
loop-number-preserved c =
    let items = c.deref-number-items.result.now in
    let i = c.loop-number.number-index in
    let k = get_or items i 0 in
    let same = c.deref-number-items.ensures.value ∙ c.numbers.view_is in
    let answering = answering-at c.args.status c.args.calls.now c.loop-number.calls c.reply.new.calls c.args.numbers.now i k
    (subst (λ l. drop i l ≡ k ∷ drop (suc i) l) same (drop-cons items i 0 c.loop-number-test.true)) c.loop-number.invariant.answering
    (λ t carries out. subst (λ rs. Carries c.reply.new.calls (replied c.args.status rs k t)) c.no_items.ensures
    (c.in_ok-reply.ensures.model t carries out)) in
    record { answering = answering; asks = c.in_ok-reply.ensures.asks ∙ c.loop-number.invariant.asks }
