use Rattle.std.proofs.Common.{◌≡◌, drop}
use Rattle.std.specs.Prelude.{IsTrue}
use Rattle.passive_store.specs.Seen.{disk_seen}
use Rattle.eden_world.specs.Breaking.{TellsPart}
use Rattle.eden_world.specs.InHand.{in_hand}
use Rattle.eden_world.specs.Seated.{FitsTogether}
use Rattle.eden_world.specs.Told.{SameDisks}
use Rattle.eden_world.proofs.World.tell_all.Given as goal

-- what is left to be told
abbrev pub invariant-loop-number : goal.invariant-loop-number
invariant-loop-number g l =
    let look = disk_seen g.St.Device.Disk.counts g.St.Device.Disk.told g.St.Device.Disk.due in
    FitsTogether g.St.Store.seen l.self
    × SameDisks (in_hand g.St.Store.seen look l.fn.self) (in_hand g.St.Store.seen look l.self)
    × (IsTrue g.St.Device.Disk.tells → TellsPart g.St.Store.layout g.St.Store.seen look l.broken (drop l.number-index l.broken)
    l.names.items
    l.fn.self l.self) × (l.self.calls ≡ l.fn.self.calls)
