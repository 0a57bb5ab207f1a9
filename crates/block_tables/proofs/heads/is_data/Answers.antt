use Rattle.std.proofs.Common.{rules}
use Rattle.block_tables.proofs.heads.is_data.Goals as goal

pub returns-then-block-size : goal.returns-then-block-size
returns-then-block-size c = search rules
