use Rattle.std.proofs.Common.{◌≡◌, ◌<◌, ◌+◌, ◌-◌, sym, suc, length, get_or, arith}
use Rattle.coordinator.specs.Queued.{invocations}
use Rattle.coordinator.proofs.Queues.{length-invocations, without-none, step-gone, step-kept}
use Rattle.coordinator.proofs.queue.remove_from.Goals as goal
use Rattle.coordinator.proofs.queue.remove_from.Goals.{then-index-call, else-index-call}

pub loop-done-preserved : goal.loop-done-preserved
loop-done-preserved c =
    let place = c.len-count.result - 1 - c.loop-done.done in
    let within : place < length c.loop-done.calls.items = omega (arith, c.loop-done-test.true, c.loop-done.invariant.enough) in
    let next : c.len-count.result - c.loop-done.done ≡ suc place = omega (arith, c.loop-done-test.true) in
    let now : c.len-count.result - (c.loop-done.done + 1) ≡ place = omega (arith, c.loop-done-test.true) in
    let was = invocations c.args.calls.now.items c.args.classes.now.items in
    let at : get_or c.loop-done.calls.items place c.index.result.now ≡ c.index.result.now = sym c.index.ensures in
    elim c.if-index-call.branch [
      | then-index-call w ↦
          let here : get_or c.loop-done.calls.items place c.args.call ≡ c.args.call = rw w.if-index-call.true at at in
          rw (now, w.calls-is, w.classes-is) (record {
            after = rw (w.remove.ensures.items, w.remove-then-index-call.ensures.items)
                (step-gone c.loop-done.calls.items c.loop-done.classes.items was place _ c.args.call c.loop-done.invariant.same within next
                c.loop-done.invariant.after here);
            same = omega (arith, w.remove.ensures.len, w.remove-then-index-call.ensures.len, c.loop-done.invariant.same);
            enough = omega (arith, w.remove.ensures.len, within);
          })
      | else-index-call w ↦ rw (now, w.calls-is, w.classes-is) (record {
        after = step-kept c.loop-done.calls.items c.loop-done.classes.items was place _ c.args.call c.index.result.now
            c.loop-done.invariant.same within next c.loop-done.invariant.after at w.if-index-call.false;
        same = c.loop-done.invariant.same;
        enough = omega (arith, within);
      })
    ]

pub loop-done-init : goal.loop-done-init
loop-done-init c =
    let was = invocations c.args.calls.now.items c.args.classes.now.items in
    let all : c.len-count.result - 0 ≡ length was =
    omega (arith, c.len-count.ensures, length-invocations c.args.calls.now.items c.args.classes.now.items c.requires) in
    record {
      after = rw all (sym (without-none c.args.call was));
      same = c.requires;
      enough = omega (arith, c.len-count.ensures);
    }
