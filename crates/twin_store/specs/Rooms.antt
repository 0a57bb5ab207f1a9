-- The room of a store, and when a put finds none.
use Rattle.std.specs.Prelude.{◌≡◌, ◌⊎◌, ℕ, ◌≤◌, List, length, Option, Some}
use Rattle.capability.specs.declared.Uid.{Uid}
use Rattle.passive_store.specs.Kept.{Layout, IsEject}
use Rattle.passive_store.specs.LogLayout.{within_room}
use Rattle.twin_store.specs.Sides.{SideSeen, InUse, Away, LacksRoom, HasLeft}
use Rattle.twin_store.specs.Twins.{TwinSeen}

-- The room of a layout is a length: the bytes of an Eject find room where they are no longer than the longest body that does.
abbrev pub RoomIsLength : Layout → Type 0
RoomIsLength layout = (node : ℕ) (uid : Uid) → IsEject node uid → (room : Option ℕ) (body : List ℕ)
    → layout.has_room room uid (Some body) ≡ within_room room (length body)

-- a disk in use tells its room
abbrev pub TellsRoom : SideSeen → Type 0
TellsRoom (InUse s) = 1 ≤ s.more
TellsRoom (Away d) = Unit {0}

-- the disks in use tell their room, and none of them leaves use
pub record AllTellRoom (old new : TwinSeen) : Type 0 where
  pub first : TellsRoom old.first
  pub second : TellsRoom old.second
  pub stays : HasLeft old.first new.first ⊎ HasLeft old.second new.second → ⊥

-- a disk in use tells its room, and has none for so many bytes
abbrev pub IsShort : Layout → ℕ → TwinSeen → Type 0
IsShort layout size t = LacksRoom layout size t.first ⊎ LacksRoom layout size t.second
