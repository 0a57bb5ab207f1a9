-- The opening worlds for which a program stands that begins over the disks of a run.
use Rattle.std.specs.Prelude.{◌≡◌, ◌≤◌, ℕ, Bool, List, length, map, IsTrue}
use Rattle.eden_disk.specs.Told.{contents}
use Rattle.epl_syntax.specs.Rules.OfTypes.{TypeList}
use Rattle.passive_store.specs.Kept.{Layout}
use Rattle.passive_store.specs.Layout.{IsLayout}
use Rattle.passive_store.specs.Seen.{Seen, DiskSeen}
use Rattle.checkpoint.specs.Touches.{ReadsByCalls}
use Rattle.journal.specs.declared.command.Script.{Script}
use Rattle.journal.specs.LegalRun.{AreHandedIn, AreToldFor, EachDisk, opening_world}
use Rattle.journal.specs.Standing.{DiskRun}
use Rattle.eden_world.specs.InHand.{Stands}
use Rattle.eden_world.specs.Openings.{first_seen}
use Rattle.eden_world.specs.declared.World.{World as Program}

-- Disks that tell, of which there is one at least and eight at most, are handed in as they have to be, each as it is seen in the run and
-- of the size of its image.
pub record IsOpened {D : Type 0} (layout : Layout) (look : D → DiskSeen) (disks : List D) (runs : List DiskRun) : Type 0 where
  pub its_layout : IsLayout layout
  pub reads : ReadsByCalls layout
  pub handed_in : AreHandedIn layout runs
  pub some : 1 ≤ length runs
  pub few : length runs ≤ 8
  pub seen : map look disks ≡ map first_seen runs
  pub sized : EachDisk runs (λ n d. length (contents d.before).now ≡ d.first.size)

-- Then it stands for the opening world of each script with these types, with the room told for as many changes as that of each disk is.
abbrev pub StandsOpened : {T D : Type 0} → Bool → Layout → (T → Seen) → (D → DiskSeen) → TypeList → List D → Program T D → Type 0
StandsOpened tells layout seen look ts disks p = (script : Script) (runs : List DiskRun) (more : ℕ) → IsTrue tells → script.types ≡ ts
    → IsOpened layout look disks runs → AreToldFor layout more runs
    → Stands tells layout seen look p more (opening_world layout script runs)
