use Rattle.std.proofs.Common.{◌∙◌}
use Rattle.passive_blocks.proofs.OpeningRoom.{told_is}
use Rattle.passive_blocks.proofs.opening.changes_told.Goals as goal

pub returns : goal.returns
returns c =
    c.told_by.ensures
    ∙ told_is c.args.table.now.blocks.size c.left.result c.greatest.result c.requires.0 c.args.table.now c.free_head.result
    c.requires.1 c.free_head.ensures c.left.ensures c.greatest.ensures

pub free_head-requires : goal.free_head-requires
free_head-requires c = c.requires.1.table.heads

pub left-requires : goal.left-requires
left-requires c = c.requires.1.table.blocks

pub greatest-requires : goal.greatest-requires
greatest-requires c = c.requires.1.table.heads
