use Rattle.std.proofs.Common.{◌≡◌, ◌<◌, ◌∙◌, ap, arith, length, map}
use Rattle.plain_calls.specs.View.{call_of}
use Rattle.plain_calls.specs.Changes.{closed_by}
use Rattle.plain_calls.proofs.Lists.{changed_front, changed-all, one-more, length-map}
use Rattle.plain_calls.proofs.closing.close_each.Goals as goal

pub loop-i-preserved : goal.loop-i-preserved
loop-i-preserved c =
    let cs = c.args.calls.now.items in
    let less : c.loop-i.i < length cs = omega (arith, c.loop-i-test.true, c.len-i-end.ensures, c.args.calls.now.ok.0) in
    one-more call_of (closed_by c.args.cause) c.loop-i.i c.loop-i.calls.items cs c.index_mut.result.now c.close.new.call c.loop-i.invariant
    c.index_mut.ensures.value c.close.ensures less

pub returns : goal.returns
returns c =
    let cs = c.args.calls.now.items in
    let all : c.loop-i.i ≡ length (map call_of cs) =
    omega (arith, c.loop-i-test.false, c.loop-i.auto.i-end, c.len-i-end.ensures, c.args.calls.now.ok.0, length-map call_of cs) in
    c.loop-i.invariant ∙ (ap (λ n. changed_front n (closed_by c.args.cause) (map call_of cs)) all
    ∙ changed-all (closed_by c.args.cause) (map call_of cs))
