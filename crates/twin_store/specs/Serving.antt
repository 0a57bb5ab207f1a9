-- What one call of a store in use leaves, as its twin sees it.
use Rattle.std.specs.Prelude.{◌≡◌, ◌⊎◌, ℕ, ◌≤◌, Bool, false, IsTrue, List, length, Option, None, Some, Result, Ok, Err, IfErr}
use Rattle.std.specs.FinMap as map
use Rattle.capability.specs.declared.Uid.{Uid}
use Rattle.eden_disk.specs.Calls.{Counts, End, Fine, AtFault, AtStop, faults_after, stops_after, power_after, one_more}
use Rattle.passive_store.specs.declared.store.StoreRefusal.{StoreRefusal}
use Rattle.passive_store.specs.declared.store.StoreRefusal.TheVariants as store
use Rattle.passive_store.specs.Kept.{Layout, Idle}
use Rattle.passive_store.specs.LogLayout.{within_room}
use Rattle.passive_store.specs.Seen.{Seen, Asked, has_room_for}
use Rattle.twin_store.specs.declared.served.TwinRefusal.{TwinRefusal}
use Rattle.twin_store.specs.declared.served.TwinRefusal.TheVariants.{Lost, Stopped, Full, GenerationsSpent, OutOfMemory}
use Rattle.twin_store.specs.Vouched.{Bodies, changed_by}
use Rattle.twin_store.specs.Footings.{Finds, IsMapped}

-- what a store answered, or None where its disk failed; all other refusals are those of the twin
abbrev pub served_as : {T : Type 0} → Result T StoreRefusal → Result (Option T) TwinRefusal
served_as (Ok value) = Ok (Some value)
served_as (Err store.Failed) = Ok None
served_as (Err store.Stopped) = Err Stopped
served_as (Err store.Full) = Err Full
served_as (Err (store.Damaged place)) = Ok None
served_as (Err store.OutOfMemory) = Err OutOfMemory

-- how the last device call ended, by what the twin saw
abbrev pub end_of_served : {T : Type 0} → Result (Option T) TwinRefusal → End
end_of_served (Ok (Some value)) = Fine
end_of_served (Ok None) = AtFault
end_of_served (Err Lost) = Fine
end_of_served (Err Stopped) = AtStop
end_of_served (Err Full) = Fine
end_of_served (Err GenerationsSpent) = Fine
end_of_served (Err OutOfMemory) = Fine

-- the count of stops of a disk behind a refusal: a stop raises it, and nothing else
abbrev pub stops_at : TwinRefusal → ℕ → ℕ
stops_at Lost n = n
stops_at Stopped n = one_more n
stops_at Full n = n
stops_at GenerationsSpent n = n
stops_at OutOfMemory n = n

-- the same behind some calls that came to this
abbrev pub stops_by : {T : Type 0} → Result T TwinRefusal → ℕ → ℕ
stops_by (Ok value) n = n
stops_by (Err e) n = stops_at e n

-- A store of this node that has power, and no change under way or in doubt.
pub record IsReady (node : ℕ) (s : Seen) : Type 0 where
  pub node_is : s.node ≡ node
  pub idle : s.work ≡ Idle
  pub power : IsTrue s.disk.counts.power

-- the counts of a disk behind some device calls that ended so
pub record CountsBy (end : End) (old new : Counts) : Type 0 where
  pub size : new.size ≡ old.size
  pub faults : new.faults ≡ faults_after end old.faults
  pub stops : new.stops ≡ stops_after end old.stops
  pub power : new.power ≡ power_after end

-- two maps that have the same bytes under each uid
abbrev pub Same : Bodies → Bodies → Type 0
Same m n = (uid : Uid) → map.get m uid ≡ map.get n uid

-- what an image may keep behind a call that was served so and asked for this change: the map behind it, either, or the map before it
abbrev pub MayKeep : {T : Type 0} → Result (Option T) TwinRefusal → Option Asked → Bodies → Bodies → Type 0
MayKeep (Ok (Some value)) c old m = Same m (changed_by c old)
MayKeep (Ok None) c old m = Same m old ⊎ Same m (changed_by c old)
MayKeep (Err Lost) c old m = Same m old
MayKeep (Err Stopped) c old m = Same m old ⊎ Same m (changed_by c old)
MayKeep (Err Full) c old m = Same m old
MayKeep (Err GenerationsSpent) c old m = Same m old
MayKeep (Err OutOfMemory) c old m = Same m old

-- behind a call that was served the store is ready, and keeps the map behind the change
abbrev pub IsServed : {T : Type 0} → Bool → ℕ → Option Asked → Result (Option T) TwinRefusal → Seen → Seen → Type 0
IsServed tells node c (Ok (Some value)) old new = IsReady node new × (IsTrue tells → Same new.kept.bodies (changed_by c old.kept.bodies))
IsServed tells node c (Ok None) old new = Unit {0}
IsServed tells node c (Err e) old new = Unit {0}

-- whether a body of this length finds room, by what is kept
abbrev pub has_room_in : Layout → Seen → ℕ → Bool
has_room_in layout s size = within_room (layout.room_of s.disk.counts.size s.kept.bodies s.kept.ledger) size

-- the bytes that are put are longer than the longest body that finds room
abbrev pub IsTooLong : Layout → Seen → Option (List ℕ) → Type 0
IsTooLong layout s None = ⊥
IsTooLong layout s (Some body) = has_room_in layout s (length body) ≡ false

-- A store has no room for this change, as far as it tells its room; for none it is never so.
abbrev pub IsFullIn : Bool → Layout → Option Asked → Seen → Type 0
IsFullIn tells layout None s = ⊥
IsFullIn tells layout (Some ask) s =
    IsTrue tells → 1 ≤ s.more → (has_room_for layout s.disk.counts.size s.kept ask ≡ false) ⊎ IsTooLong layout s ask.body

-- the refusals of a store that a twin passes on
abbrev pub IsPassedOn : TwinRefusal → Type 0
IsPassedOn e = (e ≡ Stopped) ⊎ ((e ≡ Full) ⊎ (e ≡ OutOfMemory))

-- One call of a store that was ready, which asked for this change or for none.
pub record Serves {T : Type 0} (tells : Bool) (layout : Layout) (node : ℕ) (c : Option Asked) (result : Result (Option T) TwinRefusal)
    (old new : Seen) : Type 0 where
  pub only : IfErr result IsPassedOn
  pub full : IfErr result (λ e. e ≡ Full → IsFullIn tells layout c old)
  pub counts : CountsBy (end_of_served result) old.disk.counts new.disk.counts
  pub served : IsServed tells node c result old new
  -- what is found on the disk after a crash
  pub leaves : IsTrue tells → Finds layout node (IsMapped (MayKeep result c old.kept.bodies)) new.disk.told

-- a call that was served gave this
abbrev pub IfFound : {T : Type 0} → Result (Option T) TwinRefusal → T → Type 0
IfFound (Ok (Some value)) due = value ≡ due
IfFound (Ok None) due = Unit {0}
IfFound (Err e) due = Unit {0}
