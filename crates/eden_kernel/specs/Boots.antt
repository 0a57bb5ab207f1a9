-- A node that comes up: its Ejects are passive, and its store keeps what the boot says.
use Rattle.std.specs.Prelude.{◌≡◌, ◌≢◌, ◌+◌, ◌*◌, ◌≤◌, ◌<◌, ℕ, Bool, true, false, cond, [], Option, None, Some, is_some, IfSome}
use Rattle.capability.specs.declared.Uid.{Uid}
use Rattle.capability.specs.Uids.{uid_cmp}
use Rattle.std.specs.Ordering.{is_lt}
use Rattle.eden_disk.specs.Told.{Told}
use Rattle.eden_disk.specs.Timed.{Timed}
use Rattle.eden_disk.specs.Told.{EachMoment}
use Rattle.epl_syntax.specs.Rules.OfTypes.{TypeList}
use Rattle.invocation.specs.Mail.{Mail}
use Rattle.passive_store.specs.Kept.{Layout, Kept, body_at}
use Rattle.journal.specs.World.{Eject, Site, eject_in}
use Rattle.journal.specs.Settling.{epoch_uid}
use Rattle.journal.specs.Boots.{AllowsBoot, boot_turn}
use Rattle.journal.specs.Standing.{Stands, with_changes}
use Rattle.journal.specs.declared.event.BootEnd.TheVariants as end
use Rattle.checkpoint.specs.Room.{KeepsRoom}
use Rattle.checkpoint.specs.Boots.{put_after}
use Rattle.checkpoint.specs.StoreStands.{NodeOnDisk, state_of}
use Rattle.checkpoint.specs.Turns.{with_clock}
use Rattle.checkpoint.specs.declared.up.BootNote.{BootNote}
use Rattle.active_part.specs.Body.{Body}
use Rattle.ejects.specs.Parts.{Parts}
use Rattle.eden_kernel.specs.Stands.{Held, NodeStands}
use Rattle.eden_kernel.specs.Turns.{clock_of}

-- a passive Eject with no queued call
pub record IsIdle (e : Eject) : Type 0 where
  pub passive : e.active ≡ None
  pub unasked : e.queued ≡ []

-- all Ejects of a node that is down are so
abbrev pub IsAsleep : Site → Type 0
IsAsleep s = (u : Uid) (e : Eject) → eject_in s u ≡ Some e → IsIdle e

-- how an Eject stands of which this is kept
abbrev pub standing_as : Kept → Uid → Option (Option Body)
standing_as kept u = cond (is_some (body_at kept u)) (Some None) None

-- the uid lies before another, or there is none
abbrev pub is_before : Uid → Option Uid → Bool
is_before u None = true
is_before u (Some v) = is_lt (uid_cmp u v)

-- its place among the uids of its node
abbrev pub rank_of : Uid → ℕ
rank_of u = u.epoch * 4294967296 + u.serial

-- the rank rises, within 64 bits
pub record IsLater (from : Option Uid) (v : Uid) : Type 0 where
  pub rises : IfSome from (λ u. rank_of u < rank_of v)
  pub fits : rank_of v < 18446744073709551616

-- the parts of a node whose Ejects up to a uid are noted: those of which something is kept are passive
pub record HasNoted (n : Parts) (k e : ℕ) (kept : Kept) (next : Option Uid) : Type 0 where
  pub number : n.number ≡ k
  pub epoch : n.epoch ≡ e
  pub serial : n.last_serial ≡ 0
  pub noted : (u : Uid) → u ≢ epoch_uid k → is_before u next ≡ true → n.standing u ≡ standing_as kept u
  pub others : (u : Uid) → is_before u next ≡ false → n.standing u ≡ None
  pub reserved : n.standing (epoch_uid k) ≡ None
  pub waiting : n.waiting ≡ []

-- the boot is allowed, the node and the calls stand for the site after it, and the disk did what it may
pub record NodeBoots (layout : Layout) (ts : TypeList) (n more : ℕ) (s : Site) (old : Told) (before : ℕ) (note : BootNote) (new : Held)
    (m : Mail) : Type 0 where
  pub allowed : AllowsBoot s note.epoch end.Up note.pick note.began
  -- of the changes for which the room is told it took one
  pub told : more ≤ new.seen.more + 1
  pub stands : NodeStands layout ts new m (with_clock (clock_of new) (boot_turn note.epoch end.Up note.pick note.began s))
  pub disk : NodeOnDisk layout n s.node (put_after n s note.pick) (boot_turn note.epoch end.Up note.pick note.began s).node old before
      new.seen.disk.told (clock_of new)

-- There was no memory for the Ejects behind the put of the epoch: at each moment what stood goes on standing, with the epoch put.
pub record BootsPut (layout : Layout) (n more : ℕ) (s : Site) (old : Told) (before : ℕ) (note : BootNote) (new : Told) (after : ℕ)
    : Type 0 where
  pub timed : Timed before old after new
  pub moments : EachMoment (Stands layout n (with_changes (put_after n s note.pick) (state_of n s.node))) old new
  pub room : KeepsRoom layout n more new
