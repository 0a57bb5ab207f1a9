use Rattle.std.proofs.Common.{◌≡◌, ◌<◌, ◌∙◌, ap, arith, length, map}
use Rattle.plain_stores.specs.View.{freed, request_of}
use Rattle.plain_calls.proofs.Lists.{changed_front, changed-all, one-more, length-map}
use Rattle.plain_stores.proofs.Nodes.{length-set}
use Rattle.plain_stores.proofs.requests.leave_process.Goals as goal

pub loop-i-preserved : goal.loop-i-preserved
loop-i-preserved c =
    let rs = c.args.requests.now.items in
    let less : c.loop-i.i < length rs = omega (arith, c.loop-i-test.true, c.len-i-end.ensures, c.args.requests.now.ok.0) in (
      one-more request_of (freed c.args.uid) c.loop-i.i c.loop-i.requests.items rs c.index_mut.result.now c.free.new.request
          c.loop-i.invariant.0 c.index_mut.ensures.value c.free.ensures less,
      length-set c.loop-i.requests.items c.loop-i.i c.free.new.request ∙ c.loop-i.invariant.1,
    )

pub returns : goal.returns
returns c =
    let rs = c.args.requests.now.items in
    let all : c.loop-i.i ≡ length (map request_of rs) =
    omega (arith, c.loop-i-test.false, c.loop-i.auto.i-end, c.len-i-end.ensures, c.args.requests.now.ok.0, length-map request_of rs) in
    c.loop-i.invariant.0 ∙ (ap (λ n. changed_front n (freed c.args.uid) (map request_of rs)) all
    ∙ changed-all (freed c.args.uid) (map request_of rs))
