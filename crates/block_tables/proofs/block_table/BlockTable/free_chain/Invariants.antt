use Rattle.std.proofs.Common.{◌-◌}
use Rattle.block_tables.specs.Blocks as blocks
use Rattle.block_tables.proofs.Walks.{Freeing}
use Rattle.block_tables.proofs.block_table.BlockTable.free_chain.Given as goal

abbrev pub invariant-loop : goal.invariant-loop
invariant-loop l = Freeing l.fn.self l.self l.fn.first (blocks.blocks_of l.fn.size) l.block (l.end - l.counter)
