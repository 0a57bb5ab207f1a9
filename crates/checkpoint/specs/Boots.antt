-- A whole boot: what it leaves of the site, of the store and of the disk.
use Rattle.std.specs.Prelude.{◌≡◌, ℕ, ◌+◌, ◌≤◌, false, List, [], Option, None, Some}
use Rattle.capability.specs.declared.Uid.{Uid}
use Rattle.eden_disk.specs.Told.{Told, EachMoment}
use Rattle.eden_disk.specs.Calls.{Counts}
use Rattle.eden_disk.specs.Timed.{Timed}
use Rattle.passive_store.specs.declared.store.Pick.{Pick}
use Rattle.passive_store.specs.declared.store.Doubt.{Doubt}
use Rattle.passive_store.specs.declared.store.StoreRefusal.{StoreRefusal}
use Rattle.passive_store.specs.declared.store.StoreRefusal.TheVariants as refusal
use Rattle.passive_store.specs.Kept.{Layout}
use Rattle.journal.specs.EjectChange.{EjectChange}
use Rattle.journal.specs.declared.event.BootEnd.{BootEnd}
use Rattle.journal.specs.declared.event.BootEnd.TheVariants as end
use Rattle.journal.specs.World.{Site}
use Rattle.journal.specs.Ejects.{stored_epoch}
use Rattle.journal.specs.Settling.{settled}
use Rattle.journal.specs.Boots.{AllowsBoot, boot_turn}
use Rattle.journal.specs.Standing.{Stands, put_behind, with_changes}
use Rattle.checkpoint.specs.StoreStands.{state_of, NodeOnDisk}
use Rattle.checkpoint.specs.Room.{KeepsRoom}
use Rattle.checkpoint.specs.Turns.{with_clock, RestStands}
use Rattle.passive_store.specs.Seen.{Seen}
use Rattle.journal.specs.Sites.{HasEpochs}
use Rattle.checkpoint.specs.Asked.{StandsNow}
use Rattle.checkpoint.specs.declared.up.BootNote.{BootNote}

-- how a refusal ends a boot; none where there is no memory
abbrev pub end_of_boot : StoreRefusal → Option BootEnd
end_of_boot refusal.Failed = Some end.DiskFault
end_of_boot refusal.Stopped = Some end.Stop
end_of_boot refusal.Full = Some end.Full
end_of_boot (refusal.Damaged place) = Some (end.Damaged place)
end_of_boot refusal.OutOfMemory = None

-- the epoch that a boot puts, or would put, after this pick
abbrev pub put_after : ℕ → Site → Option Pick → List (Uid × EjectChange)
put_after n s p = put_behind n (stored_epoch (settled p s).node)

-- the node is up
pub record BootsUp (layout : Layout) (n more : ℕ) (s : Site) (old : Told) (before : ℕ) (note : BootNote) (y : Seen) : Type 0 where
  pub allowed : AllowsBoot s note.epoch end.Up note.pick note.began
  -- of the changes for which the room is told it took one
  pub told : more ≤ y.more + 1
  pub stands : StandsNow layout n (with_clock y.disk.counts.clock (boot_turn note.epoch end.Up note.pick note.began s)) [] y
  pub disk : NodeOnDisk layout n s.node (put_after n s note.pick)
      (boot_turn note.epoch end.Up note.pick note.began s).node old before y.disk.told y.disk.counts.clock

-- it is not
pub record BootsDown (layout : Layout) (n more : ℕ) (s : Site) (old : Told) (before : ℕ) (how : BootEnd) (note : BootNote)
    (noted : Option Doubt) (left : ℕ) (new : Told) (after : Counts) : Type 0 where
  pub allowed : AllowsBoot s note.epoch how note.pick note.began
  pub told : more ≤ left + 1
  pub rests : RestStands layout n left
      (with_clock after.clock (boot_turn note.epoch how note.pick note.began s)) noted after.size after.clock new
  pub disk : NodeOnDisk layout n s.node (put_after n s note.pick)
      (boot_turn note.epoch how note.pick note.began s).node old before new after.clock

-- there was no memory for the boot: at each moment what stood goes on standing, whatever may be put besides
pub record BootsNot (layout : Layout) (n : ℕ) (s : Site) (old : Told) (before : ℕ) (new : Told) (after : ℕ) : Type 0 where
  pub timed : Timed before old after new
  pub moments : (put : List (Uid × EjectChange)) → EachMoment (Stands layout n (with_changes put (state_of n s.node))) old new

-- how a boot ended that did not bring its node up, and for how many more changes the room is told then
abbrev pub FallsTo : Layout → ℕ → ℕ → Site → Told → ℕ → Option BootEnd → BootNote → Option Doubt → Told → Counts → Type 0
FallsTo layout n more s old before None note noted new after = BootsNot layout n s old before new after.clock × KeepsRoom layout n more new
FallsTo layout n more s old before (Some how) note noted new after =
    (left : ℕ) × BootsDown layout n more s old before how note noted left new after

-- what is known of a site that is down, apart from its disk
pub record IsDownSite (layout : Layout) (n : ℕ) (s : Site) : Type 0 where
  pub number : s.number ≡ n
  pub its_layout : s.layout ≡ layout
  pub is_down : s.node.up ≡ false
  pub queue : s.node.requests ≡ []
  pub unsynced : s.node.synced ≡ false
  pub not_overfull : s.node.overfull ≡ false
  pub undamaged : s.node.damaged ≡ None
  pub not_untold : s.node.untold ≡ false
  pub epochs : HasEpochs s.node
