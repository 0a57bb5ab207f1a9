use Rattle.std.proofs.Common.{rules}
use Rattle.block_tables.proofs.block_table.BlockTable.room.Goals as goal

pub returns-else-left-lt2 : goal.returns-else-left-lt2
returns-else-left-lt2 c = search rules
