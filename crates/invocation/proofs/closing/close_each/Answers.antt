use Rattle.std.proofs.Common.{◌≡◌, ◌-◌, length, take, get_or, sym, ◌∙◌, ap, arith}
use Rattle.std.specs.Prelude.{slice_set}
use Rattle.std.proofs.lemmas.List.{take_more}
use Rattle.eden_model.specs.Crew.{change}
use Rattle.invocation.specs.Numbers.{changed_at_all}
use Rattle.invocation.specs.Causes.{closed_by}
use Rattle.invocation.proofs.Numbers.{change-set, changed-push, length-changed}
use Rattle.invocation.proofs.Closed.{read-at}
use Rattle.invocation.proofs.closing.close_each.Goals as goal

pub index_mut-call-requires : goal.index_mut-call-requires
index_mut-call-requires c =
    let g = c.requires c.loop-i.i 0 c.loop-i-test.true in
    let n : length c.loop-i.calls.items ≡ length c.args.calls.now.items = ap length c.loop-i.invariant
    ∙ length-changed (closed_by c.args.cause) 1 (take c.loop-i.i c.args.index.now) c.args.calls.now.items in
    omega (arith, g.0, g.1, n)

pub loop-i-preserved : goal.loop-i-preserved
loop-i-preserved c =
    let k = get_or c.args.index.now c.loop-i.i 0 in
    let g = c.requires c.loop-i.i 0 c.loop-i-test.true in
    let n : length c.loop-i.calls.items ≡ length c.args.calls.now.items = ap length c.loop-i.invariant
    ∙ length-changed (closed_by c.args.cause) 1 (take c.loop-i.i c.args.index.now) c.args.calls.now.items in
    ap (slice_set c.loop-i.calls.items (k - 1)) c.close.ensures
    ∙ sym (change-set (closed_by c.args.cause) c.loop-i.calls.items (k - 1) c.index_mut-call.result.now
    (read-at c.loop-i.calls.items (k - 1) c.index_mut-call.result.now (omega (arith, g.0, g.1, n)) c.index_mut-call.ensures.value))
    ∙ ap (change (k - 1) (closed_by c.args.cause)) c.loop-i.invariant
    ∙ sym (changed-push (closed_by c.args.cause) 1 (take c.loop-i.i c.args.index.now) k c.args.calls.now.items)
    ∙ ap (λ ks. changed_at_all (closed_by c.args.cause) 1 ks c.args.calls.now.items)
    (sym (take_more c.args.index.now c.loop-i.i 0 c.loop-i-test.true))
