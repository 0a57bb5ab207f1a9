use Rattle.std.proofs.Common.{◌≡◌, ◌++◌, ◌∷◌, []}
use Rattle.std.proofs.lemmas.Result.{err_from_is_err_and}
use Rattle.std.proofs.lemmas.List.{map_push}
use Rattle.eden_value.specs.View.{datum, datums}
use Rattle.grammar.specs.Reading.{times}
use Rattle.eden_codec.specs.Reading.{value_at}
use Rattle.grammar.proofs.Loop.{goes_on, ends, is_done}
use Rattle.eden_codec.proofs.Deeper.{deeper}
use Rattle.eden_codec.proofs.value.+value.Goals as goal

pub values_of-returns-in_err-value : goal.values_of-returns-in_err-value
values_of-returns-in_err-value t c =
    let p = err_from_is_err_and c.from_residual.result c.from_residual.ensures.1 in
    let R = value_at c.args.depth in
    rw (p.1, p.2) (ends R c.in_err-value.field-0.0 (datums c.loop.values.items) c.args.count c.loop.counter c.loop.rest.now
    (times c.args.count R c.args.bytes.now) c.loop-test.true c.in_err-value.ensures c.loop.invariant)

pub values_of-loop-preserved : goal.values_of-loop-preserved
values_of-loop-preserved t c =
    let R = value_at c.args.depth in
    let v = c.in_ok-value.value in
    let e : datums c.push.new.self.items ≡ datums c.loop.values.items ++ datum v ∷ [] = rw c.in_ok-push.ensures.items
    (map_push datum c.loop.values.items v) in
    rw e (goes_on R (datums c.loop.values.items) c.args.count c.loop.counter c.loop.rest.now (datum v) c.in_ok-value.after.now
    (times c.args.count R c.args.bytes.now) c.loop-test.true c.in_ok-value.ensures c.loop.invariant)

pub values_of-returns : goal.values_of-returns
values_of-returns t c =
    let R = value_at c.args.depth in
    is_done R (datums c.loop.values.items) c.args.count c.loop.counter c.loop.rest.now
    (times c.args.count R c.args.bytes.now) c.loop-test.false c.loop.invariant

pub value_of-returns : goal.value_of-returns
value_of-returns t c = rw (deeper c.args.depth c.if-depth-eq0.false c.args.bytes.now, c.in_ok-kind.ensures) c.any_value.ensures
