-- The device calls of a store in their order, and what a telling disk notes of each.
use Rattle.std.specs.Prelude.{◌≡◌, ◌⊎◌, ℕ, Bool, true, false, List, [], ◌∷◌}
use Rattle.eden_disk.specs.Told.{Told}
use Rattle.eden_disk.specs.Calls.{End, Fine, AtFault, AtStop, ReadTold, SyncTold, WriteTold}

-- one device call: bytes that are written from a place on, a sync, or a read
pub data DiskCall : Type 0 where
  Write : ℕ → List ℕ → DiskCall
  Sync : DiskCall
  Read : DiskCall

-- what a telling disk notes of one device call, made at this clock, by how it ended; of a read nothing but the cut of a stop
abbrev pub CallTold : DiskCall → ℕ → Told → Told → End → Type 0
CallTold (Write at bytes) clock old new end = WriteTold clock at bytes old new end
CallTold Sync clock old new end = SyncTold clock old new end
CallTold Read clock old new end = ReadTold clock old new end

-- these calls were made one behind the other, and none was refused
abbrev pub AllTold : List DiskCall → Told → Told → Type 0
AllTold [] old new = new ≡ old
AllTold (call ∷ calls) old new = (mid : Told) × (clock : ℕ) × CallTold call clock old mid Fine × AllTold calls mid new

-- some of these calls were made, from the first on: the last of them ended so, and those before it were not refused
abbrev pub SomeTold : List DiskCall → Told → Told → End → Type 0
SomeTold [] old new end = ⊥
SomeTold (call ∷ calls) old new end = ((clock : ℕ) × CallTold call clock old new end)
    ⊎ ((mid : Told) × (clock : ℕ) × CallTold call clock old mid Fine × SomeTold calls mid new end)

-- what a telling disk notes of these calls, made in their order, by how the last of them ended
abbrev pub CallsTold : List DiskCall → Told → Told → End → Type 0
CallsTold calls old new Fine = AllTold calls old new
CallsTold calls old new AtFault = SomeTold calls old new AtFault
CallsTold calls old new AtStop = SomeTold calls old new AtStop

-- the next device call of a settling, by whether its sync is made: the sync, and then the read
abbrev pub settling_call : Bool → DiskCall
settling_call false = Sync
settling_call true = Read
