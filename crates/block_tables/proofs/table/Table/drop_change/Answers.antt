use Rattle.std.proofs.Common.{rules}
use Rattle.block_tables.proofs.table.Table.drop_change.Goals as goal

pub returns-clause-free : goal.returns-clause-free
returns-clause-free c = search rules
