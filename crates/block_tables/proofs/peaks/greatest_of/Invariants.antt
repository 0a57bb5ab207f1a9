use Rattle.std.proofs.Common.{◌≡◌, take}
use Rattle.block_tables.specs.Greatest.{peak}
use Rattle.block_tables.proofs.peaks.greatest_of.Given as goal

abbrev pub invariant-loop-value : goal.invariant-loop-value
invariant-loop-value l = l.greatest ≡ peak (take l.value-index l.values)
