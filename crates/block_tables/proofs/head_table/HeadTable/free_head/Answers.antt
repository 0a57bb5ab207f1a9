use Rattle.std.proofs.Common.{rules}
use Rattle.block_tables.proofs.head_table.HeadTable.free_head.Goals as goal

pub returns : goal.returns
returns c = search rules
