use Rattle.passive_store.specs.LogLayout.{log_layout}
use Rattle.passive_blocks.specs.BlockLayout.{block_layout}
use Rattle.equal_answers.proofs.Blank.{log_of_zeros}
use Rattle.equal_answers.proofs.BlankBlocks.{blocks_of_zeros}
use Rattle.equal_answers.proofs.Steps.{blank_stores}
use Rattle.equal_answers.proofs.law.logs_and_blocks_answer_alike.Goals as goal

pub returns : goal.returns
returns c = blank_stores log_layout block_layout log_of_zeros blocks_of_zeros
