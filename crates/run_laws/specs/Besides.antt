-- What holds besides of a legal run of each script that was read: of its values, its monitors, its pipelines, of what is enabled and what
-- is down, and of what nodes ask of disks that neither failed nor stopped.
use Rattle.std.specs.Prelude.{◌≡◌, ◌≤◌, ℕ, true, false, ℤ, pos, List, [], Some, length}
use Rattle.std.specs.List.{All}
use Rattle.passive_store.specs.Kept.{Layout}
use Rattle.passive_blocks.specs.BlockLayout.{block_layout}
use Rattle.epl_syntax.specs.Meaning.{Turned}
use Rattle.journal.specs.declared.command.Script.{Script}
use Rattle.journal.specs.declared.event.Entry.{Entry}
use Rattle.journal.specs.World.{World, Node, node_at}
use Rattle.journal.specs.Enabled.{enabled}
use Rattle.journal.specs.Monitors.{AreInTheirMonitors, EventKeepsMonitors, LeavesVariables}
use Rattle.journal.specs.Run.{Step, EachStep}
use Rattle.journal.specs.Standing.{DiskRun}
use Rattle.journal.specs.LegalRun.{EachDisk, AreHandedIn, IsLegalRun, IsLegalSoFar, run_over}
use Rattle.journal.specs.Laws.{HasTurn, IsAtRest}
use Rattle.eden_script.specs.Script.{IsScript}
use Rattle.value_laws.specs.Worlds.{WorldLimited}
use Rattle.stream_laws.specs.Chains.{Chain, made_by, AreCreated, AreJoined}
use Rattle.stream_laws.specs.Streams.{Flows, ComesToTheEnd, PumpAnswers, items_held, list_kept, has_kept}
use Rattle.stream_laws.specs.Counts.{IsUndisturbed, AnswersZero, FirstPumpAnswers, HaveAsked}
use Rattle.undisturbed_runs.specs.Puts.{CheckpointEnds, EachWithRest}
use Rattle.undisturbed_runs.specs.Runs.{IsUndisturbedRun, IsComplete}

-- 1. Worlds and entries

-- what holds of every world of a run
pub record WorldHolds (w : World) : Type 0 where
  -- all values are within the limits of values
  pub values : WorldLimited w
  -- a process whose rest is inside of a monitor holds it, waits in its entry queue, or waits on one of its conditions; and no other does
  pub monitors : AreInTheirMonitors w
  -- each key that is enabled has a turn that the world allows
  pub turns : All (HasTurn w) (enabled w)
  -- a node that is down is at rest
  pub down : (n : ℕ) (it : Node) → node_at w n ≡ Some it → it.up ≡ false → IsAtRest w n it

-- what holds of every entry of a run, with the worlds before it and behind it
pub record EntryHolds (s : Step) : Type 0 where
  -- so it is with the world before it
  pub before : WorldHolds s.world
  -- and with the one behind it
  pub behind : WorldHolds s.later
  -- in its turn a process of a declared type neither changes nor reads a variable of a monitor that it does not hold
  pub touches : EventKeepsMonitors s.world s.entry.event
  -- and nothing else changes a variable of an active part
  pub leaves : LeavesVariables s.world s.entry.event s.later

-- 2. Pipelines

-- what holds of a pipeline behind an entry, with the steps before it
pub record PipelineHolds (c : Chain) (past : List Step) (s : Step) : Type 0 where
  -- its stages hand out, and its Sink holds, what its functions make of the list that its Lines has kept
  pub flows : Flows s.later c (list_kept s.later c.lines)
  -- that list stays, once the Lines has kept one
  pub list : has_kept s.world c.lines ≡ true → list_kept s.later c.lines ≡ list_kept s.world c.lines
  -- as a Pump answers that it came to the end, the Sink holds all of it
  pub whole : (t : Turned) (held : ℤ) → ComesToTheEnd c.sink s t held → items_held t.vars ≡ made_by c.filters (list_kept s.later c.lines)
  -- as one answers 0, where nothing disturbed it and each before did too, each item took one Transfer of the Sink and one of each filter
  pub counted : IsUndisturbed c past s → AnswersZero c.sink past → (t : Turned) (items : ℕ) → PumpAnswers c.sink s t (pos 0) (pos items)
      → HaveAsked c s.later.traffic items
  -- and so it is as the first that the Sink started answers 0
  pub first : IsUndisturbed c past s → (t : Turned) (items : ℕ) → FirstPumpAnswers c.sink past s t (pos 0) (pos items)
      → HaveAsked c s.later.traffic items

-- so it is with each chain whose stages are all created in the run, behind each entry where it is joined
abbrev pub PipelinesHold : List Step → Type 0
PipelinesHold run = (c : Chain) → AreCreated run c → EachStep (λ past s. AreJoined s.later.traffic c → PipelineHolds c past s) [] run

-- 3. Disks that neither failed nor stopped

-- what node n asks of its disk in a run comes to its end
pub record IsServed (n : ℕ) (run : List Step) : Type 0 where
  -- its requests are done, or lack room; its activations find what is kept; its boots bring it up, but for what is on the disk
  pub complete : EachStep (λ past s. IsComplete n s) [] run
  -- each checkpoint within size and room is answered 0 once its put has ended, unless its Eject lost its active part since it asked
  pub checkpoints : EachWithRest (CheckpointEnds n) run

-- 4. Runs

-- all of this, of the run of a script over these disks
pub record HoldsBesides (layout : Layout) (script : Script) (disks : List DiskRun) (history : List Entry) : Type 0 where
  -- of each entry, with its worlds
  pub entries : EachStep (λ past s. EntryHolds s) [] (run_over layout script disks history)
  -- of each pipeline
  pub pipelines : PipelinesHold (run_over layout script disks history)
  -- of each node whose disk neither failed nor stopped
  pub undisturbed : EachDisk disks (λ n d. IsUndisturbedRun d → IsServed n (run_over layout script disks history))

-- So it is of each script that was read, over eight disks with blocks at most, which are handed in as they have to be, where the run is legal.
abbrev pub LegalRunsHoldBesides : Type 0
LegalRunsHoldBesides = (bytes : List ℕ) (script : Script) (disks : List DiskRun) (history : List Entry) → IsScript bytes script
    → length disks ≤ 8 → AreHandedIn block_layout disks → IsLegalRun block_layout script disks history
    → HoldsBesides block_layout script disks history

-- and where want of memory ended it
abbrev pub LegalPartsHoldBesides : Type 0
LegalPartsHoldBesides = (bytes : List ℕ) (script : Script) (disks : List DiskRun) (history : List Entry) → IsScript bytes script
    → length disks ≤ 8 → AreHandedIn block_layout disks → IsLegalSoFar block_layout script disks history
    → HoldsBesides block_layout script disks history
