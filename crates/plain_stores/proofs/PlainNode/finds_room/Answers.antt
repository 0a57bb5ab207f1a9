use Rattle.plain_stores.proofs.LeftBlocks.{finds-as}
use Rattle.plain_stores.proofs.PlainNode.finds_room.Goals as goal

pub returns-else-uid-eq0 : goal.returns-else-uid-eq0
returns-else-uid-eq0 c ts t order = finds-as _ c.args.uid c.args.wish.now _ c.length_of.result c.room.result c.is_within.result c.in-Put.is
    c.if-uid-eq0.false (c.room.ensures ts t order) c.length_of.ensures c.is_within.ensures
