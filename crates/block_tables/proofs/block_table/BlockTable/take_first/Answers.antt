use Rattle.std.proofs.Common.{refl}
use Rattle.block_tables.proofs.Taking.{takes_first, none_first}
use Rattle.block_tables.proofs.block_table.BlockTable.take_first.Goals as goal

pub returns-in_err-block-clause-none : goal.returns-in_err-block-clause-none
returns-in_err-block-clause-none c = λ is. (refl, none_first c.args.self.now c.in_err-block.ensures)

pub returns-clause-first : goal.returns-clause-first
returns-clause-first c = takes_first c.args.self.now c.remove.new.self c.in_ok-block.block c.requires c.in_ok-block.ensures
    c.remove.ensures.long c.remove.ensures.members
