use Rattle.std.proofs.Common.{◌≡◌, ◌++◌, ◌-◌, ◌*◌, drop}
use Rattle.std.specs.Prelude.{replicate}
use Rattle.passive_blocks.specs.Conversion.{heads_spelled}
use Rattle.passive_blocks.specs.Converting.{heads_planned}
use Rattle.passive_blocks.proofs.convert.block_bytes.Given as goal

abbrev pub invariant-loop-k : goal.invariant-loop-k
invariant-loop-k l = l.bytes ≡ heads_spelled l.k (drop l.first (heads_planned l.moved.items)) ++ replicate (1024 - 32 * l.k) 0
