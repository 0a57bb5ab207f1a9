-- Each beginning of a script can be ended.
use Rattle.std.specs.Prelude.{◌≤◌, ℕ, IsSomeAnd, IsTrue, List, ◌++◌}
use Rattle.std.specs.List.{All}
use Rattle.passive_store.specs.Kept.{Layout}
use Rattle.passive_store.specs.Layout.{IsLayout}
use Rattle.journal.specs.declared.command.Script.{Script}
use Rattle.journal.specs.declared.event.Entry.{Entry}
use Rattle.journal.specs.Fit.{IsFit}
use Rattle.journal.specs.Standing.{DiskRun}
use Rattle.journal.specs.LegalRun.{AreHandedIn, opening_world}
use Rattle.journal.specs.Run.{Follows, FollowsSoFar}
use Rattle.journal.specs.World.{World, node_at}
use Rattle.trace_laws.specs.Determined.{HasClocks}

-- node n is there, and its disk is of a size that the layout allows
abbrev pub MayBoot : World → ℕ → Type 0
MayBoot w n = IsSomeAnd (node_at w n) (λ it. IsTrue (w.layout.allows it.size))

-- such a node is there for each that the script boots
abbrev pub NodesMayBoot : World → Script → Type 0
NodesMayBoot w script = (n : ℕ) → 1 ≤ n → n ≤ script.nodes → MayBoot w n

-- more entries with which a history comes to the end of its script
pub record HasEnding (w : World) (script : Script) (history : List Entry) : Type 0 where
  pub more : List Entry
  pub follows : Follows w script.nodes script.commands (history ++ more)
  pub clocks : All HasClocks (history ++ more)

-- Whatever begins a fit script, over disks that are handed in as they have to be, one for each node and of an allowed size, with clocks
-- of 64 bits, has an ending with such clocks.
abbrev pub BeginningsHaveEndings : Type 0
BeginningsHaveEndings = (layout : Layout) (script : Script) (disks : List DiskRun) (history : List Entry)
    → IsLayout layout → AreHandedIn layout disks → IsFit script → NodesMayBoot (opening_world layout script disks) script
    → FollowsSoFar (opening_world layout script disks) script.nodes script.commands history → All HasClocks history
    → HasEnding (opening_world layout script disks) script history
