-- Laws of the definitions: what a run may take for granted of its worlds, and how many entries it gives.
use Rattle.std.specs.Prelude.{◌≤◌, ◌*◌, ℕ, length, List}
use Rattle.std.specs.List.{All}
use Rattle.passive_store.specs.Kept.{Layout}
use Rattle.passive_store.specs.Layout.{IsLayout}
use Rattle.epl_syntax.specs.Rules.OfTypes.{names_of}
use Rattle.journal.specs.declared.command.Script.{Script}
use Rattle.journal.specs.declared.command.Command.{Command}
use Rattle.journal.specs.Fit.{IsFit, IsFitCommand}
use Rattle.runs.specs.Room.{entries_in}
use Rattle.journal.specs.Run.{beginning}
use Rattle.journal.specs.Standing.{DiskRun}
use Rattle.journal.specs.LegalRun.{AreHandedIn, opening_world}
use Rattle.runs.specs.Runs.{AreReachedFrom}

-- Each world on the way of a fit script, over disks that are handed in as they have to be, is as machines take it, and offers the types of
-- the script and the nodes that it boots. There is a disk for each of them.
abbrev pub RunsMayBegin : Type 0
RunsMayBegin = (layout : Layout) (script : Script) (disks : List DiskRun) → IsLayout layout → AreHandedIn layout disks → IsFit script
    → script.nodes ≤ length disks
    → AreReachedFrom (names_of script.types) script.nodes (beginning (opening_world layout script disks) script.nodes script.commands)

-- Fit commands give at most 1,025 entries each besides those of turns, since a path has at most 1,024 bytes.
abbrev pub EntriesAreFew : Type 0
EntriesAreFew = (types : List (List ℕ)) (nodes : ℕ) (cs : List Command) → All (IsFitCommand types nodes) cs
    → entries_in cs ≤ 1025 * length cs
