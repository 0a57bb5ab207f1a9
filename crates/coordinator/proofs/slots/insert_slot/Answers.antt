use Rattle.std.proofs.Common.{refl}
use Rattle.coordinator.proofs.Table.{put-insert}
use Rattle.coordinator.proofs.slots.insert_slot.Goals as goal

pub returns-clause-slots : goal.returns-clause-slots
returns-clause-slots c =
    let place = rw c.deref.ensures.value at c.place_of-at.ensures in
    rw c.in_ok-insert.ensures.items (put-insert c.args.slots.now.items c.place_of-at.result c.args.number _ refl place.within place.before
    place.behind c.requires)
