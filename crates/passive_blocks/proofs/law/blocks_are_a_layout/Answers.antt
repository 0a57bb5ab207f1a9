use Rattle.passive_blocks.proofs.BlockLaw.{block_is_layout}
use Rattle.passive_blocks.proofs.law.blocks_are_a_layout.Goals as goal

pub returns : goal.returns
returns c = block_is_layout c.log_layout_is_a_layout.ensures
