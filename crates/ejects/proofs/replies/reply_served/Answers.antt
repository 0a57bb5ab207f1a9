use Rattle.std.proofs.Common.{ℕ, ◌∙◌, get_or, subst}
use Rattle.eden_model.specs.Traffic.{replied}
use Rattle.invocation.specs.Carries.{Carries}
use Rattle.ejects.specs.Replies.{seconds}
use Rattle.ejects.proofs.Replying.{answering-at, drop-map}
use Rattle.ejects.proofs.replies.reply_served.Goals as goal

pub loop-pair-preserved : goal.loop-pair-preserved
loop-pair-preserved c =
    let items = c.args.pairs.now in
    let i = c.loop-pair.pair-index in
    let k = (get_or items i (0, 0)).1 in
    let answering = answering-at c.args.status c.args.calls.now c.loop-pair.calls c.reply.new.calls (seconds items) i k
    (drop-map (λ (p : ℕ × ℕ). p.1) items i (0, 0) c.loop-pair-test.true) c.loop-pair.invariant.answering
    (λ t carries out. subst (λ rs. Carries c.reply.new.calls (replied c.args.status rs k t)) c.no_items.ensures
    (c.in_ok-reply.ensures.model t carries out)) in
    record { answering = answering; asks = c.in_ok-reply.ensures.asks ∙ c.loop-pair.invariant.asks }
