use Rattle.std.proofs.Common.{◌+◌, ◌||◌, drop, sym, ap, ◌∙◌}
use Rattle.std.specs.List.{list_any}
use Rattle.eden_value.specs.View.{datum, datums}
use Rattle.epl_syntax.specs.Same.{same}
use Rattle.directory_eject.proofs.Compared.{compared}
use Rattle.directory_eject.proofs.Stored.{any_step}
use Rattle.directory_eject.proofs.condition.has.Goals as goal

pub returns-then-equal : goal.returns-then-equal
returns-then-equal c =
    let p = same (datum c.args.value.now) in
    let i = c.loop-other.other-index in
    let v = c.other-item.result in
    let e = sym c.if-equal.true ∙ compared c.args.value.now v c.equal.result c.equal.ensures in
    ap (λ b. b || list_any p (datums (drop (i + 1) c.args.values.now))) e
    ∙ sym (any_step p c.args.values.now i v c.loop-other-test.true c.other-item.is) ∙ c.loop-other.invariant

pub loop-other-preserved : goal.loop-other-preserved
loop-other-preserved c =
    let p = same (datum c.args.value.now) in
    let i = c.loop-other.other-index in
    let v = c.other-item.result in
    let e = sym c.if-equal.false ∙ compared c.args.value.now v c.equal.result c.equal.ensures in
    ap (λ b. b || list_any p (datums (drop (i + 1) c.args.values.now))) e
    ∙ sym (any_step p c.args.values.now i v c.loop-other-test.true c.other-item.is) ∙ c.loop-other.invariant
