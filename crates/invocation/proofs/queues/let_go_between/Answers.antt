use Rattle.std.proofs.Common.{◌≡◌, ◌==◌, false, [], length, get_or, refl, sym, ◌∙◌, ap, arith}
use Rattle.invocation.specs.Mail.{let_go}
use Rattle.invocation.specs.Queues.{row}
use Rattle.invocation.proofs.Index.{length-let_go, let_go-append}
use Rattle.invocation.proofs.Mails.{given-more, row-given, row-read}
use Rattle.invocation.proofs.queues.let_go_between.Goals as goal

pub let_go-requires : goal.let_go-requires
let_go-requires c = row-given c.args.calls.now.items c.args.queues.now c.requires.given c.pair.result c.index-queues-pair.result
    c.index-queues-pair.is (omega (arith, c.pair.ensures.within, c.requires.pairs))

pub let_go-requires-then-a-b : goal.let_go-requires-then-a-b
let_go-requires-then-a-b c =
    let cs = c.args.calls.now.items in
    let n : length c.let_go.new.calls.items ≡ length cs = ap length c.let_go.ensures ∙ length-let_go c.index-queues-pair.result cs in
    row-given c.let_go.new.calls.items c.args.queues.now (given-more cs c.let_go.new.calls.items (omega (arith, n)) c.args.queues.now
    c.requires.given)
    c.pair-then-a-b.result c.index-queues-pair-then-a-b.result c.index-queues-pair-then-a-b.is
    (omega (arith, c.pair-then-a-b.ensures.within, c.requires.pairs))

pub returns-then-a-b : goal.returns-then-a-b
returns-then-a-b c =
    let there = c.index-queues-pair.result in
    let back = c.index-queues-pair-then-a-b.result in
    let apart : (c.args.a == c.args.b) ≡ false = grind (arith, c.if-a-b.true) in
    let at : row c.args.a c.args.b c.args.queues.now ≡ there =
    ap (λ i. get_or c.args.queues.now i []) (sym c.pair.ensures.place)
    ∙ row-read c.args.queues.now c.pair.result there c.index-queues-pair.is (omega (arith, c.pair.ensures.within, c.requires.pairs)) in
    let at_back : row c.args.b c.args.a c.args.queues.now ≡ back =
    ap (λ i. get_or c.args.queues.now i []) (sym c.pair-then-a-b.ensures.place)
    ∙ row-read c.args.queues.now c.pair-then-a-b.result back c.index-queues-pair-then-a-b.is
    (omega (arith, c.pair-then-a-b.ensures.within, c.requires.pairs)) in
    c.let_go-then-a-b.ensures ∙ ap (let_go back) c.let_go.ensures ∙ sym (let_go-append there back c.args.calls.now.items)
    ∙ rw (apart, at, at_back) refl
