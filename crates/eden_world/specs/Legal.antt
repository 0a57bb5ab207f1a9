-- A whole run of a program over disks: what is taken for granted of it, and its disks as they were seen before it and are seen after it.
use Rattle.std.specs.Prelude.{◌≡◌, ◌≤◌, ℕ, Bool, false, List, [], ◌∷◌, length, None, IsTrue, IfSome, slice_get}
use Rattle.eden_disk.specs.Told.{contents}
use Rattle.passive_store.specs.Kept.{Layout}
use Rattle.passive_store.specs.Layout.{IsLayout}
use Rattle.passive_store.specs.Seen.{DiskSeen}
use Rattle.checkpoint.specs.Touches.{ReadsByCalls}
use Rattle.journal.specs.declared.command.Script.{Script}
use Rattle.journal.specs.Fit.{IsFit}
use Rattle.journal.specs.LegalRun.{AreHandedIn}
use Rattle.journal.specs.Opening.{most_changes}
use Rattle.journal.specs.Standing.{DiskRun}
use Rattle.runs.specs.Room.{most_entries}
use Rattle.runs.specs.declared.run.Run.{Run}
use Rattle.eden_world.specs.Seated.{Begins}
use Rattle.eden_world.specs.declared.World.{World as Program}

-- 1. Its disks

-- one disk
abbrev pub disk_run : Bool → DiskSeen → DiskSeen → DiskRun
disk_run obeys before after = record {
  obeys = obeys;
  due = before.due;
  before = before.told;
  first = before.counts;
  after = after.told;
  last = after.counts;
  left = after.due;
}

-- Those that were handed in, in the order of their nodes, each with the one that was given back in its place. Where one list is shorter
-- there are no more than it has.
abbrev pub disk_runs : {D : Type 0} → Bool → (D → DiskSeen) → List D → List D → List DiskRun
disk_runs obeys look [] after = []
disk_runs obeys look (b ∷ before) [] = []
disk_runs obeys look (b ∷ before) (a ∷ after) = disk_run obeys (look b) (look a) ∷ disk_runs obeys look before after

-- a disk of the size of its image
abbrev pub IsSized : DiskSeen → Type 0
IsSized d = length (contents d.told).now ≡ d.counts.size

-- each of them
abbrev pub AreSized : {D : Type 0} → (D → DiskSeen) → List D → Type 0
AreSized look disks = (m : ℕ) → IfSome (slice_get disks m) (λ d. IsSized (look d))

-- 2. What is taken for granted

-- The script is fit and gives no more entries than a run can change a disk by. There is a disk for each of its nodes, and there are eight
-- at most. They tell, are handed in as they have to be, and are of the size of their images; and as many are given back.
pub record IsInOrder {D : Type 0} (tells obeys : Bool) (layout : Layout) (look : D → DiskSeen) (script : Script)
    (before after : List D) : Type 0 where
  pub telling : IsTrue tells
  pub its_layout : IsLayout layout
  pub reads : ReadsByCalls layout
  pub fit : IsFit script
  pub few : most_entries script.nodes script.commands ≤ most_changes
  pub handed_in : AreHandedIn layout (disk_runs obeys look before after)
  pub enough : script.nodes ≤ length before
  pub places : length before ≤ 8
  pub given : length after ≡ length before
  pub sized : AreSized look before

-- The program begins over these disks, and nothing has happened yet.
pub record IsAtStart {T D : Type 0} (script : Script) (before : List D) (run : Run (Program T D)) : Type 0 where
  pub begins : Begins script.types before run.machine
  pub history : run.history.items ≡ []
  pub turns : run.turns ≡ 0
  pub last : run.last ≡ None
  pub again : run.again ≡ false
