use Rattle.std.proofs.Common.{sym, ◌∙◌}
use Rattle.edentypes.proofs.Outlines.{none_left}
use Rattle.edentypes.proofs.kinds.have_kinds.Goals as goal

pub returns : goal.returns
returns g c =
    c.is_empty.ensures
    ∙ sym (none_left c.loop-kind.rest.now g.K.Kinded.kind c.args.kinds.now c.loop-kind.kind-index c.loop-kind-test.false)
    ∙ c.loop-kind.invariant
