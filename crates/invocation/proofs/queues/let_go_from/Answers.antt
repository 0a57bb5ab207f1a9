use Rattle.std.proofs.Common.{◌≡◌, [], length, get_or, add-one, refl, sym, ◌∙◌, ap, arith}
use Rattle.invocation.specs.Mail.{let_go}
use Rattle.invocation.specs.Queues.{row, sent_from}
use Rattle.invocation.proofs.Index.{length-let_go, let_go-append}
use Rattle.invocation.proofs.Mails.{given-more, row-given, row-read}
use Rattle.invocation.proofs.queues.let_go_from.Goals as goal

pub let_go-requires : goal.let_go-requires
let_go-requires c =
    let cs = c.args.calls.now.items in
    let n : length c.loop-other.calls.items ≡ length cs = ap length c.loop-other.invariant
    ∙ length-let_go (sent_from c.args.node c.loop-other.other c.args.queues.now) cs in
    row-given c.loop-other.calls.items c.args.queues.now (given-more cs c.loop-other.calls.items (omega (arith, n)) c.args.queues.now
    c.requires.given)
    c.pair.result c.index-queues-pair.result c.index-queues-pair.is (omega (arith, c.pair.ensures.within, c.requires.pairs))

pub loop-other-preserved : goal.loop-other-preserved
loop-other-preserved c =
    let cs = c.args.calls.now.items in
    let before = sent_from c.args.node c.loop-other.other c.args.queues.now in
    let at : row c.args.node c.loop-other.other c.args.queues.now ≡ c.index-queues-pair.result =
    ap (λ i. get_or c.args.queues.now i []) (sym c.pair.ensures.place)
    ∙ row-read c.args.queues.now c.pair.result c.index-queues-pair.result c.index-queues-pair.is
    (omega (arith, c.pair.ensures.within, c.requires.pairs)) in
    rw add-one (c.let_go.ensures ∙ ap (let_go c.index-queues-pair.result) c.loop-other.invariant
    ∙ sym (let_go-append before c.index-queues-pair.result cs) ∙ rw at refl)
