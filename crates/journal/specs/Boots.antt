-- A node boots: the store is opened, the doubt is settled, the epoch is read and the next one put.
use Rattle.std.specs.Prelude.{◌≡◌, ◌⊎◌, ℕ, ◌+◌, ◌<◌, ◌&&◌, not, Bool, true, false, cond, [], Option, None, Some, is_some, IsTrue}
use Rattle.passive_store.specs.declared.store.Pick.{Pick}
use Rattle.journal.specs.EjectChange.{body}
use Rattle.journal.specs.declared.event.BootEnd.{BootEnd}
use Rattle.journal.specs.declared.event.BootEnd.TheVariants as end
use Rattle.journal.specs.World.{Node, Site, on_node}
use Rattle.journal.specs.Ejects.{stored_epoch}
use Rattle.journal.specs.Settling.{epoch_uid, epoch_bytes, in_doubt, settled, written_with, finds_room}

-- 1. How far a boot came

-- the last epoch that there is, 2^32 - 1
abbrev pub last_epoch : ℕ
last_epoch = 4294967295

-- what is kept leaves room for a put of this epoch
abbrev pub epoch_fits : Site → ℕ → Bool
epoch_fits s e = finds_room (epoch_uid s.number) (body (epoch_bytes e)) s

-- a put of this epoch finds room on the node's disk: what is kept leaves room, and the opening image is not untold
abbrev pub epoch_has_room : Site → ℕ → Bool
epoch_has_room s e = epoch_fits s e && not s.node.untold

-- the boot shows nothing past the opening of the store: no pick, no epoch, and no put as begun
pub record OpenedNothing (e : ℕ) (p : Option Pick) (began : Bool) : Type 0 where
  -- no settling came to a pick
  pub no_pick : p ≡ None
  -- the epoch that the boot shows is 0, for none
  pub no_epoch : e ≡ 0
  -- no put of an epoch was begun
  pub not_begun : began ≡ false

-- the store was opened, and a pick settled the doubt if there was one
pub record Opened (s : Site) (p : Option Pick) : Type 0 where
  -- no place of the node's opening image is damaged
  pub undamaged : s.node.damaged ≡ None
  -- nor does that image keep too much to be opened
  pub not_overfull : s.node.overfull ≡ false
  -- a settling picked, exactly where something was in doubt on the node
  pub picked : is_some p ≡ in_doubt s.number s.node

-- the store was opened and any doubt settled, but the put of the next epoch was not begun
pub record BeganNothing (s : Site) (e : ℕ) (p : Option Pick) (began : Bool) : Type 0 where
  -- the store was opened, and what was in doubt was settled
  pub opened : Opened s p
  -- the boot shows no next epoch, which is 0
  pub no_epoch : e ≡ 0
  -- nor that the put of one was begun
  pub not_begun : began ≡ false

-- the put of the next epoch was begun
pub record BeganNext (s : Site) (e : ℕ) (p : Option Pick) (began : Bool) : Type 0 where
  -- before that, the store was opened, and any doubt settled
  pub opened : Opened s p
  -- the stored epoch, as the settling left it, lies below the last one
  pub not_last : stored_epoch (settled p s).node < last_epoch
  -- the epoch that the boot shows is the one above it, 1 where none is stored
  pub next_one : e ≡ stored_epoch (settled p s).node + 1
  -- there is room for its put
  pub has_room : IsTrue (epoch_has_room (settled p s) e)
  -- the boot shows that the put was begun
  pub begun : began ≡ true

-- the epoch that is stored was to be read; where none is, no device call lies here
pub record ReadsEpoch (s : Site) (e : ℕ) (p : Option Pick) (began : Bool) : Type 0 where
  -- past the opening and the settling, no epoch is shown, and no put as begun
  pub nothing : BeganNothing s e p began
  -- an epoch is stored, as the settling left it
  pub stored : IsTrue (is_some (settled p s).node.epoch)

-- the store was to be opened, or a doubt settled; on a disk of a size that the layout does not allow, no device call lies here
pub record OpensStore (s : Site) (e : ℕ) (p : Option Pick) (began : Bool) : Type 0 where
  -- the layout allows a disk of this size
  pub allowed : IsTrue (s.layout.allows s.node.size)
  -- no pick is shown, as a settling that failed makes none, and no epoch and no begun put
  pub nothing : OpenedNothing e p began

-- a device call failed or stopped: as the store was opened, a doubt was settled, the epoch was read, or the next one was put
abbrev pub Failed : Site → ℕ → Option Pick → Bool → Type 0
Failed s e p began = OpensStore s e p began ⊎ (ReadsEpoch s e p began ⊎ BeganNext s e p began)

-- the boot found the opening image damaged, and came no further
pub record IsDamaged (s : Site) (place e : ℕ) (p : Option Pick) (began : Bool) : Type 0 where
  -- this is the first damaged place of the image
  pub at_place : s.node.damaged ≡ Some place
  -- the boot shows neither a pick nor an epoch, and no put as begun
  pub nothing : OpenedNothing e p began

-- the boot found that the image keeps too much to be opened, and came no further
pub record IsOverfull (s : Site) (e : ℕ) (p : Option Pick) (began : Bool) : Type 0 where
  -- no place of the image is damaged, which would count first
  pub undamaged : s.node.damaged ≡ None
  -- it was written by another layout, and keeps too much to be brought over
  pub overfull : s.node.overfull ≡ true
  -- no pick and no epoch are shown, and no put as begun
  pub nothing : OpenedNothing e p began

-- the boot found the last epoch stored, and came no further
pub record IsSpent (s : Site) (e : ℕ) (p : Option Pick) (began : Bool) : Type 0 where
  -- it settled a doubt, if there was one; it shows no epoch, and no put as begun
  pub nothing : BeganNothing s e p began
  -- the stored epoch, as the settling left it, is the last
  pub last : stored_epoch (settled p s).node ≡ last_epoch

-- the boot found no room for the next epoch, and came no further
pub record HasNoRoom (s : Site) (e : ℕ) (p : Option Pick) (began : Bool) : Type 0 where
  -- the store was opened and any doubt settled; no epoch is shown, and no put as begun
  pub nothing : BeganNothing s e p began
  -- there is an epoch past the stored one, as the settling left it
  pub not_last : stored_epoch (settled p s).node < last_epoch
  -- but no room for a put of it
  pub no_room : epoch_has_room (settled p s) (stored_epoch (settled p s).node + 1) ≡ false

-- how a boot may end, with the epoch, the pick and the begun put that it shows
abbrev pub BootsSo : Site → ℕ → BootEnd → Option Pick → Bool → Type 0
BootsSo s e end.Up p began = BeganNext s e p began
BootsSo s e end.DiskFault p began = Failed s e p began
BootsSo s e end.Stop p began = Failed s e p began
BootsSo s e (end.Damaged place) p began = IsDamaged s place e p began
BootsSo s e end.EpochsSpent p began = IsSpent s e p began
BootsSo s e end.Full p began = IsOverfull s e p began ⊎ HasNoRoom s e p began

-- a boot of the node may end so, and show this epoch, this pick, and whether the epoch's put was begun
pub record AllowsBoot (s : Site) (e : ℕ) (how : BootEnd) (p : Option Pick) (began : Bool) : Type 0 where
  -- before the boot it is down
  pub is_down : s.node.up ≡ false
  -- no request waits for its store
  pub no_requests : s.node.requests ≡ []
  -- its end agrees with what is on the disk, and with the epoch, the pick and the put that it shows
  pub boots : BootsSo s e how p began

-- 2. What it changes

-- a node that is up has the new epoch; one whose put began and did not succeed has it in doubt
abbrev pub booted_node : Site → ℕ → BootEnd → Bool → Node → Node
booted_node s e end.Up began it =
    record it { up = true; epoch = Some e; last_serial = 0; ledger = written_with s.layout (body (epoch_bytes e)) it.ledger }
booted_node s e how began it = record it { epoch_doubt = cond began (Some e) it.epoch_doubt }

-- the site behind a boot: what was picked is settled, and then the node is as the boot's end leaves it
abbrev pub boot_turn : ℕ → BootEnd → Option Pick → Bool → Site → Site
boot_turn e how p began s = on_node (booted_node s e how began) (settled p s)
