-- The boot of a node whose disk cannot be opened: what is kept there cannot be told, or is too much.
use Rattle.std.specs.Prelude.{◌≡◌, ℕ, ◌<◌, true, false, List, [], Option, None, Some}
use Rattle.std.specs.List.{All}
use Rattle.eden_disk.specs.Told.{Told, contents, LeavesOnly}
use Rattle.eden_disk.specs.Calls.{Counts}
use Rattle.passive_store.specs.Kept.{Layout, Kept, IsDamagedFrom, IsOverfull}
use Rattle.journal.specs.declared.event.BootEnd.{BootEnd}
use Rattle.journal.specs.World.{Site}
use Rattle.journal.specs.Boots.{AllowsBoot, boot_turn}
use Rattle.journal.specs.Opening.{node_of}
use Rattle.checkpoint.specs.StoreStands.{NodeOnDisk, MapStands}
use Rattle.checkpoint.specs.Turns.{with_clock, ClockStands}
use Rattle.checkpoint.specs.Boots.{put_after, BootsNot}
use Rattle.checkpoint.specs.declared.up.BootNote.{BootNote}

-- 1. Why a disk cannot be opened

-- its bytes are no record of the layout, from this place on; or another layout kept this there, and it is too much
pub data Bar : Type 0 where
  damaged : ℕ → Bar
  overfull : Kept → Bar

-- of an image
abbrev pub IsBarred : Bar → Layout → ℕ → List ℕ → Type 0
IsBarred (damaged place) layout n = IsDamagedFrom layout n place
IsBarred (overfull kept) layout n = IsOverfull layout n kept

-- of a site
abbrev pub KnowsBar : Bar → ℕ → Site → Type 0
KnowsBar (damaged place) n s = s.node.damaged ≡ Some place
KnowsBar (overfull kept) n s = (s.node.overfull ≡ true) × MapStands n s kept None

-- a disk without power that cannot be opened stands for a node that is down, which knows why
pub record BarStands (layout : Layout) (n : ℕ) (s : Site) (bar : Bar) (size clock : ℕ) (told : Told) : Type 0 where
  pub number : s.number ≡ n
  pub its_layout : s.layout ≡ layout
  pub is_down : s.node.up ≡ false
  pub queue : s.node.requests ≡ []
  pub its_size : s.node.size ≡ size
  pub its_clock : ClockStands s.node.clock clock
  pub known : KnowsBar bar n s
  pub stands : LeavesOnly (IsBarred bar layout n) (contents told)

-- 2. Its boot

-- nothing was picked, and no epoch begun
abbrev pub nothing_begun : BootNote
nothing_begun = record { epoch = 0; pick = None; began = false }

-- the node is down as before
pub record StaysBarred (layout : Layout) (n : ℕ) (s : Site) (bar : Bar) (old : Told) (before : ℕ) (how : BootEnd) (note : BootNote)
    (new : Told) (after : Counts) : Type 0 where
  pub allowed : AllowsBoot s note.epoch how note.pick note.began
  pub stands : BarStands layout n (with_clock after.clock (boot_turn note.epoch how note.pick note.began s)) bar after.size after.clock new
  pub disk : NodeOnDisk layout n s.node (put_after n s note.pick)
      (boot_turn note.epoch how note.pick note.began s).node old before new after.clock

-- how a boot of it ended, or that there was no memory
abbrev pub FallsBarred : Layout → ℕ → Site → Bar → Told → ℕ → Option BootEnd → BootNote → Told → Counts → Type 0
FallsBarred layout n s bar old before None note new after =
    BootsNot layout n s old before new after.clock × LeavesOnly (IsBarred bar layout n) (contents new)
FallsBarred layout n s bar old before (Some how) note new after = StaysBarred layout n s bar old before how note new after

-- 3. Before the first boot

-- a disk at rest that cannot be opened, and the site of its node before the first event
pub record IsBarredAtHand (layout : Layout) (n : ℕ) (s : Site) (bar : Bar) (told : Told) : Type 0 where
  pub number : s.number ≡ n
  pub its_layout : s.layout ≡ layout
  pub node : s.node ≡ node_of layout (n, (contents told).now)
  pub nothing_unsynced : (contents told).unsynced ≡ []
  pub same : (contents told).stable ≡ (contents told).now
  pub of_bytes : All (λ byte. byte < 256) (contents told).now
  pub barred : IsBarred bar layout n (contents told).now
