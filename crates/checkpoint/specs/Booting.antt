-- A boot: what an opening leads to, and what a whole boot does.
use Rattle.std.specs.Prelude.{◌≡◌, ◌≢◌, ◌⊎◌, ℕ, ◌+◌, ◌≤◌, true, false, List, [], ◌∷◌, Option, None, Some, Result, Ok, Err, is_some, IsTrue}
use Rattle.std.specs.FinMap as finite
use Rattle.capability.specs.declared.Uid.{Uid}
use Rattle.eden_disk.specs.Told.{Told}
use Rattle.eden_disk.specs.Calls.{Counts}
use Rattle.passive_store.specs.declared.store.Pick.{Pick}
use Rattle.passive_store.specs.declared.store.Pick.TheVariants as pick
use Rattle.passive_store.specs.declared.store.Doubt.{Doubt}
use Rattle.passive_store.specs.declared.store.StoreRefusal.{StoreRefusal}
use Rattle.passive_store.specs.declared.store.StoreRefusal.TheVariants as refusal
use Rattle.passive_store.specs.Kept.{Layout, Kept, Idle, Unsettled, IsFresh, LeavesKept}
use Rattle.passive_store.specs.Kept.{StoreChange}
use Rattle.passive_store.specs.Seen.{Seen}
use Rattle.journal.specs.EjectChange.{EjectChange, body}
use Rattle.journal.specs.World.{Site}
use Rattle.journal.specs.Settling.{epoch_uid, epoch_bytes, in_doubt, settled, finds_room}
use Rattle.journal.specs.Boots.{boot_turn}
use Rattle.journal.specs.declared.event.BootEnd.TheVariants as end
use Rattle.journal.specs.Standing.{Stands, with_changes}
use Rattle.checkpoint.specs.StoreStands.{state_of, NodeOnDisk, MapStands}
use Rattle.checkpoint.specs.Turns.{with_clock, RestStands}

-- 1. The pick of a boot: by the mark that was noted

-- the uid of the noted doubt has its noted mark still, or another
abbrev pub PicksBy : Option Doubt → Kept → Option Pick → Type 0
PicksBy None kept p = p ≡ None
PicksBy (Some d) kept p = ((p ≡ Some pick.Old) × (finite.get kept.marks d.uid ≡ d.mark))
    ⊎ ((p ≡ Some pick.New) × (finite.get kept.marks d.uid ≢ d.mark))

-- 2. The store was opened

-- The pick is told exactly where something was in doubt; what is kept is the state that it says, and nothing is in doubt.
pub record OpensTo (layout : Layout) (n more : ℕ) (s : Site) (old : Told) (before : ℕ) (p : Option Pick) (y : Seen) : Type 0 where
  pub picked : is_some p ≡ in_doubt s.number s.node
  pub idle : y.work ≡ Idle
  pub keeps : MapStands n (settled p s) y.kept None
  pub its_size : s.node.size ≡ y.disk.counts.size
  -- and the room is told for as many changes
  pub told : more ≤ y.more
  pub stands : LeavesKept layout n y.more y.kept Idle y.disk.told
  pub disk : (put : List (Uid × EjectChange)) → NodeOnDisk layout n s.node put (settled p s).node old before y.disk.told y.disk.counts.clock
  -- what stands behind the pick stands before it
  pub back : (put : List (Uid × EjectChange)) (image : List ℕ) → Stands layout n (with_changes put (state_of n (settled p s).node)) image
      → Stands layout n (with_changes put (state_of n s.node)) image

-- or it was not: the disk refused a call, or there was no memory
pub record NotOpened (layout : Layout) (n more : ℕ) (s : Site) (noted : Option Doubt) (old : Told) (before : ℕ) (new : Told)
    (after : Counts) : Type 0 where
  pub rests : RestStands layout n more (with_clock after.clock s) noted after.size after.clock new
  pub disk : (put : List (Uid × EjectChange)) → NodeOnDisk layout n s.node put s.node old before new after.clock

-- a disk that stands for a node is not damaged and not overfull
abbrev pub RefusedTo : Layout → ℕ → ℕ → Site → Option Doubt → Told → ℕ → StoreRefusal → Told → Counts → Type 0
RefusedTo layout n more s noted old before refusal.Failed new after =
    IsTrue (layout.allows s.node.size) × NotOpened layout n more s noted old before new after
RefusedTo layout n more s noted old before refusal.Stopped new after =
    IsTrue (layout.allows s.node.size) × NotOpened layout n more s noted old before new after
RefusedTo layout n more s noted old before refusal.Full new after = ⊥
RefusedTo layout n more s noted old before (refusal.Damaged place) new after = ⊥
RefusedTo layout n more s noted old before refusal.OutOfMemory new after = NotOpened layout n more s noted old before new after

-- 3. The next epoch was put

-- the put of this epoch
abbrev pub epoch_entry : ℕ → ℕ → Uid × EjectChange
epoch_entry n e = (epoch_uid n, body (epoch_bytes e))

-- the store keeps what the node keeps that is up
pub record IsPut (layout : Layout) (n more : ℕ) (s : Site) (old : Told) (before : ℕ) (p : Option Pick) (e : ℕ) (y : Seen) : Type 0 where
  pub idle : y.work ≡ Idle
  pub keeps : MapStands n (boot_turn e end.Up p true s) y.kept None
  pub has_room : IsTrue (finds_room (epoch_uid n) (body (epoch_bytes e)) (settled p s))
  pub its_size : s.node.size ≡ y.disk.counts.size
  pub told : more ≤ y.more + 1
  pub stands : LeavesKept layout n y.more y.kept Idle y.disk.told
  pub disk : NodeOnDisk layout n s.node (epoch_entry n e ∷ []) (boot_turn e end.Up p true s).node old before y.disk.told y.disk.counts.clock

-- the epoch is in doubt, and the node is down
pub record IsPutInDoubt (layout : Layout) (n more : ℕ) (s : Site) (old : Told) (before : ℕ) (p : Option Pick) (e : ℕ)
    (y : Seen) : Type 0 where
  pub change : StoreChange
  pub work : y.work ≡ Unsettled change false
  pub keeps : MapStands n (boot_turn e end.DiskFault p true s) y.kept (Some change)
  pub has_room : IsTrue (finds_room (epoch_uid n) (body (epoch_bytes e)) (settled p s))
  pub its_size : s.node.size ≡ y.disk.counts.size
  pub fresh : IsFresh change y.kept
  pub told : more ≤ y.more + 1
  pub stands : LeavesKept layout n y.more y.kept (Unsettled change false) y.disk.told
  pub disk : NodeOnDisk layout n s.node (epoch_entry n e ∷ [])
      (boot_turn e end.DiskFault p true s).node old before y.disk.told y.disk.counts.clock

-- nothing changed
pub record IsUnput (layout : Layout) (n : ℕ) (s : Site) (p : Option Pick) (e : ℕ) (x y : Seen) : Type 0 where
  pub work : y.work ≡ x.work
  pub kept : y.kept ≡ x.kept
  pub counts : y.disk.counts ≡ x.disk.counts
  pub told : y.disk.told ≡ x.disk.told

-- it is kept; it was refused, and is in doubt; there is no room for it, or no memory
abbrev pub PutsTo : Layout → ℕ → ℕ → Site → Told → ℕ → Option Pick → ℕ → Seen → Result (Unit {0}) StoreRefusal → Seen → Type 0
PutsTo layout n more s old before p e x (Ok done) y = IsPut layout n more s old before p e y
PutsTo layout n more s old before p e x (Err refusal.Failed) y = IsPutInDoubt layout n more s old before p e y
PutsTo layout n more s old before p e x (Err refusal.Stopped) y = IsPutInDoubt layout n more s old before p e y
PutsTo layout n more s old before p e x (Err refusal.Full) y =
    IsUnput layout n s p e x y × (finds_room (epoch_uid n) (body (epoch_bytes e)) (settled p s) ≡ false)
PutsTo layout n more s old before p e x (Err (refusal.Damaged place)) y = ⊥
PutsTo layout n more s old before p e x (Err refusal.OutOfMemory) y = IsUnput layout n s p e x y
