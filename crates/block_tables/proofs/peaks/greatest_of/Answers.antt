use Rattle.std.proofs.Common.{◌∙◌, arith}
use Rattle.block_tables.proofs.Greatest.{peak-none, peak-next, peak-all}
use Rattle.block_tables.proofs.peaks.greatest_of.Goals as goal
use Rattle.block_tables.proofs.peaks.greatest_of.Goals.{then-value-greatest, else-value-greatest}

pub loop-value-init : goal.loop-value-init
loop-value-init c = peak-none

pub loop-value-preserved : goal.loop-value-preserved
loop-value-preserved c =
    peak-next c.args.values.now c.loop-value.value-index c.loop-value.greatest c.if-value-greatest.greatest c.loop-value-test.true
    c.loop-value.invariant
    (elim c.if-value-greatest.branch [
      | then-value-greatest w ↦ omega (arith, w.if-value-greatest, w.greatest-is)
      | else-value-greatest w ↦ omega (arith, w.if-value-greatest, w.greatest-is)
    ])

pub returns : goal.returns
returns c = c.loop-value.invariant ∙ peak-all c.args.values.now c.loop-value.value-index c.loop-value-test.false
