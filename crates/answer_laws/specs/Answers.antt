-- What holds besides of whatever the program answers.
use Rattle.std.specs.Prelude.{◌≡◌, ◌⊎◌, true, List, [], length, ℕ, IsTrue}
use Rattle.eden_disk.specs.SimDisk.{Simulated}
use Rattle.eden_io.specs.Causes.{Rose}
use Rattle.passive_blocks.specs.BlockLayout.{block_layout}
use Rattle.journal.specs.declared.command.Script.{Script}
use Rattle.journal.specs.declared.event.Entry.{Entry}
use Rattle.journal.specs.LegalRun.{AreHandedIn}
use Rattle.eden_world.specs.Legal.{disk_runs}
use Rattle.shell_answers.specs.Words.{Asks}
use Rattle.shell_answers.specs.Reading.{Reading, IsAsked}
use Rattle.shell_answers.specs.Answers.{Call, Writing, Answers, disks_of_nodes}
use Rattle.shell_answers.specs.declared.words.Job.{Job}
use Rattle.shell_answers.specs.declared.words.Job.TheVariants.{Gen}
use Rattle.shell_answers.specs.declared.further.Further.{Further}
use Rattle.shell_answers.specs.declared.outcome.Outcome.{Outcome}
use Rattle.shell_answers.specs.declared.outcome.Outcome.TheVariants.{Ran, OutOfMemory}
use Rattle.eden_shell.specs.Blank.{AreBlank, sim_seen}
use Rattle.run_laws.specs.Besides.{HoldsBesides}

-- 1. The script of a number

-- Whatever number `gen` is given, its script is carried out: where no write failed, the outcome is Ran or OutOfMemory.
abbrev pub EveryNumberRuns : Type 0
EveryNumberRuns = (c : Call) (outcome : Outcome) (history : List Entry) (more : Further) (number : ℕ) → Asks c.words (Gen number)
    → Answers c outcome history more → (Rose c.sink.faults c.sink.faults_after → ⊥) → (outcome ≡ Ran) ⊎ (outcome ≡ OutOfMemory)

-- 2. What holds besides of a run

-- The history is of the script that was asked for, and all that holds besides of its legal runs holds of it.
pub record HasBesides (c : Call) (history : List Entry) : Type 0 where
  -- the job that the words ask for
  pub job : Job
  -- the script that its bytes spell
  pub script : Script
  -- which they do
  pub asked : IsAsked c.words c.source job script
  -- what holds of its run, over the disks of its nodes
  pub besides : HoldsBesides c.disks.layout script (disks_of_nodes script c.disks.runs) history

-- there is no history, or so it is with the history
abbrev pub IsBesides : Call → List Entry → Type 0
IsBesides c history = (history ≡ []) ⊎ HasBesides c history

-- the disks of the nodes of the script that is asked for are handed in as they have to be
abbrev pub NodesAreHandedIn : Call → Type 0
NodesAreHandedIn c = (job : Job) (script : Script) → IsAsked c.words c.source job script
    → AreHandedIn c.disks.layout (disks_of_nodes script c.disks.runs)

-- So it is with whatever is answered over eight disks with blocks that tell, of which those of the nodes are handed in as they have to be.
abbrev pub AnswersHoldBesides : Type 0
AnswersHoldBesides = (c : Call) (outcome : Outcome) (history : List Entry) (more : Further) → c.disks.layout ≡ block_layout
    → length c.disks.runs ≡ 8 → IsTrue c.disks.tells → NodesAreHandedIn c → Answers c outcome history more
    → IsBesides c history

-- a call over eight disks in memory
abbrev pub call_over : List (List ℕ) → Reading → Writing → List Simulated → List Simulated → Call
call_over words source sink before after = record {
  words = words;
  source = source;
  sink = sink;
  disks = record { layout = block_layout; tells = true; runs = disk_runs true sim_seen before after };
}

-- And over blank disks nothing is left to be taken for granted.
abbrev pub BlankAnswersHoldBesides : Type 0
BlankAnswersHoldBesides = (words : List (List ℕ)) (source : Reading) (sink : Writing) (before after : List Simulated) (outcome : Outcome)
    (history : List Entry) (more : Further) → length before ≡ 8 → length after ≡ 8 → AreBlank before
    → Answers (call_over words source sink before after) outcome history more → IsBesides (call_over words source sink before after) history
