-- What an opening finds on a disk, and what its device calls leave there.
use Rattle.std.specs.Prelude.{◌≡◌, ◌⊎◌, ℕ, ◌+◌, ◌≤◌, ◌==◌, true, false, List, length, take, map, slice_index}
use Rattle.std.specs.BTreeMap.{BTreeMap}
use Rattle.std.specs.Prelude.{Option, Result, Ok, Err, IfSome}
use Rattle.capability.specs.declared.Uid.{Uid}
use Rattle.eden_disk.specs.Told.{Told, Contents, contents, at_rest, noted, Wrote}
use Rattle.eden_disk.specs.Calls.{End, Fine, AtFault, AtStop, ReadTold, SyncTold, WriteTold}
use Rattle.eden_disk.specs.Held.{Holds, Passes}
use Rattle.passive_store.specs.declared.index.Slot.{Slot}
use Rattle.passive_store.specs.declared.opening.Found.{Found}
use Rattle.passive_store.specs.declared.store.StoreRefusal.{StoreRefusal}
use Rattle.passive_store.specs.declared.store.StoreRefusal.TheVariants.{Failed, Stopped, Full, Damaged, OutOfMemory}
use Rattle.passive_store.specs.Kept.{StoreChange, Kept, Stands, IsDamagedFrom}
use Rattle.passive_store.specs.Log.{IsFront}
use Rattle.passive_store.specs.LogLayout.{log_kept, log_layout, records_before, used_by, body_length}
use Rattle.passive_store.specs.LogState.{IsIndex, slot_at}

-- The walk over these bytes has come to this tail, and the index has what the records before it keep.
pub record IsWalk (node size tail : ℕ) (bytes : List ℕ) (index : BTreeMap Uid (Option Slot)) : Type 0 where
  pub whole : length bytes ≡ size
  pub front : IsFront node (take tail bytes) (records_before node tail bytes)
  pub indexed : IsIndex index (log_kept node tail bytes) tail bytes
  pub sum : tail ≡ 16 + used_by (map body_length (records_before node tail bytes))

-- Whatever the disk tells: the walk stands at byte 16 or behind it, with a byte left, and the record of each slot before the walk.
pub record IsBounded (size tail : ℕ) (index : BTreeMap Uid (Option Slot)) : Type 0 where
  pub begins : 16 ≤ tail
  pub ends : tail + 1 ≤ size
  pub slots : (uid : Uid) → IfSome (slot_at index uid) (λ (s : Slot). s.gate + 15 + s.length ≤ tail)

-- the body of each slot is within the limit
abbrev pub AreWithinLimit : BTreeMap Uid (Option Slot) → Type 0
AreWithinLimit index = (uid : Uid) → IfSome (slot_at index uid) (λ (s : Slot). s.length ≤ 262144)

-- how many reads a walk made: one at each record, and one where it ended; at least one where the disk refused one
abbrev pub ReadsMade : ℕ → List ℕ → Result Found StoreRefusal → ℕ → Type 0
ReadsMade node bytes (Ok found) made = made ≡ length (records_before node found.tail bytes) + 1
ReadsMade node bytes (Err Failed) made = 1 ≤ made
ReadsMade node bytes (Err Stopped) made = 1 ≤ made
ReadsMade node bytes (Err Full) made = Unit {0}
ReadsMade node bytes (Err (Damaged place)) made = made ≡ length (records_before node place bytes) + 1
ReadsMade node bytes (Err OutOfMemory) made = Unit {0}

-- bytes were written, and the sync behind that ended so
abbrev pub IsThrough : ℕ → List ℕ → Told → Told → End → Type 0
IsThrough at bytes old new end = (mid : Told) × (wrote : ℕ) × (synced : ℕ) × (mid ≡ noted (Wrote wrote at bytes) old)
    × SyncTold synced mid new end

-- a write of bytes and a sync behind it, by how they ended: a refusal is that of the write, or that of the sync
abbrev pub ThroughTold : ℕ → List ℕ → Told → Told → End → Type 0
ThroughTold at bytes old new Fine = IsThrough at bytes old new Fine
ThroughTold at bytes old new AtFault = ((clock : ℕ) × WriteTold clock at bytes old new AtFault) ⊎ IsThrough at bytes old new AtFault
ThroughTold at bytes old new AtStop = ((clock : ℕ) × WriteTold clock at bytes old new AtStop) ⊎ IsThrough at bytes old new AtStop

-- an image with room for a log, on which none stands, or one without a record
abbrev pub IsEmptyImage : List ℕ → Type 0
IsEmptyImage image = (17 ≤ length image) × (((slice_index image 0 == 237) ≡ false) ⊎ ((slice_index image 16 == 225) ≡ false))

-- a disk at rest with room for a log, on which none stands
pub record IsBlank (c : Contents) : Type 0 where
  pub rest : c ≡ at_rest c.now
  pub long : 17 ≤ length c.now
  pub blank : (slice_index c.now 0 == 237) ≡ false

-- a disk at rest with a log that has no record
pub record IsNewLog (c : Contents) : Type 0 where
  pub rest : c ≡ at_rest c.now
  pub long : 17 ≤ length c.now
  pub header : slice_index c.now 0 ≡ 237
  pub shut : (slice_index c.now 16 == 225) ≡ false

-- this holds where no device call was refused
abbrev pub OnFine : End → Type 0 → Type 0
OnFine Fine P = P
OnFine AtFault P = Unit {0}
OnFine AtStop P = Unit {0}

-- A disk was looked at, and formatted where no log stood on it.
abbrev pub IsReadied : Told → Told → End → Type 0
IsReadied old new end =
    (((slice_index (contents old).now 0 == 237) ≡ true) × ((clock : ℕ) × ReadTold clock old new end))
    ⊎ (((slice_index (contents old).now 0 == 237) ≡ false) × Passes IsEmptyImage old new × OnFine end (IsNewLog (contents new)))

-- Whatever the images of a disk stood for, they stand for it at each moment of this stretch of time, and behind it.
pub record IsKeptThrough (node : ℕ) (old new : Told) : Type 0 where
  pub mapped : (told : ℕ) (kept : Kept) (changes : List StoreChange) → Holds (Stands log_layout node told kept changes) (contents old)
      → Passes (Stands log_layout node told kept changes) old new
  -- and a damaged disk stays damaged at its place
  pub unmapped : (place : ℕ) → Holds (IsDamagedFrom log_layout node place) (contents old)
      → Passes (IsDamagedFrom log_layout node place) old new
