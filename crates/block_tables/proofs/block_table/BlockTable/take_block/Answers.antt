use Rattle.std.proofs.Common.{rules}
use Rattle.block_tables.proofs.block_table.BlockTable.take_block.Goals as goal

pub returns-clause-taken : goal.returns-clause-taken
returns-clause-taken c = search rules
