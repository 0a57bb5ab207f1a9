use Rattle.plain_stores.proofs.LeftBlocks.{room-none, room-some}
use Rattle.plain_stores.proofs.PlainNode.room.Goals as goal

pub returns-then-left-ge2 : goal.returns-then-left-ge2
returns-then-left-ge2 c ts t order =
    room-some ts t c.args.self.now c.blocks_left-left.result order (c.blocks_left-left.ensures.left ts) c.if-left-ge2.true

pub returns-else-left-ge2 : goal.returns-else-left-ge2
returns-else-left-ge2 c ts t order =
    room-none ts t c.args.self.now c.blocks_left-left.result order (c.blocks_left-left.ensures.left ts) c.if-left-ge2.false
