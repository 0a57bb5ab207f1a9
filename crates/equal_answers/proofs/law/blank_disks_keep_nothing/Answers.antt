use Rattle.equal_answers.proofs.Blank.{log_of_zeros}
use Rattle.equal_answers.proofs.BlankBlocks.{blocks_of_zeros}
use Rattle.equal_answers.proofs.law.blank_disks_keep_nothing.Goals as goal

pub returns-clause-log : goal.returns-clause-log
returns-clause-log c = log_of_zeros

pub returns-clause-blocks : goal.returns-clause-blocks
returns-clause-blocks c = blocks_of_zeros
