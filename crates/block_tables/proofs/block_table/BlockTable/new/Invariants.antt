use Rattle.std.proofs.Common.{◌≡◌, ◌&&◌, ℕ, length}
use Rattle.std.specs.Prelude.{nat_lt}
use Rattle.block_tables.specs.Blocks.{is_data}
use Rattle.block_tables.specs.Members.{is_member}
use Rattle.block_tables.proofs.block_table.BlockTable.new.Given as goal

abbrev pub invariant-loop-number : goal.invariant-loop-number
invariant-loop-number l = (length l.free ≡ l.count) × ((k : ℕ) → is_member l.free k ≡ (nat_lt k l.number && is_data l.size k))
