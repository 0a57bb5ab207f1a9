-- What the exit status of a run says.
use Rattle.std.specs.Prelude.{◌≡◌, ℕ, true, List, length}
use Rattle.eden_disk.specs.SimDisk.{Simulated}
use Rattle.passive_blocks.specs.BlockLayout.{block_layout}
use Rattle.journal.specs.declared.event.Entry.{Entry}
use Rattle.eden_world.specs.Legal.{disk_runs}
use Rattle.shell_answers.specs.Answers.{Answers, Call, Disks, Writing}
use Rattle.shell_answers.specs.Outcomes.{status_of}
use Rattle.shell_answers.specs.Reading.{Reading}
use Rattle.shell_answers.specs.declared.further.Further.{Further}
use Rattle.shell_answers.specs.declared.outcome.Outcome.{Outcome}
use Rattle.eden_shell.specs.Blank.{AreBlank, AreOfBlocks, sim_seen}
use Rattle.eden_shell.specs.Legally.{IsLegally}

-- a call of the program
abbrev pub call_of : List (List ℕ) → Reading → Writing → Disks → Call
call_of words source sink disks = record { words = words; source = source; sink = sink; disks = disks }

-- disks in memory, with what came of them
abbrev pub in_memory : List Simulated → List Simulated → Disks
in_memory before after = record { layout = block_layout; tells = true; runs = disk_runs true sim_seen before after }

-- A call with these words over these disks was answered, whatever it read and wrote, and this is the status of its outcome.
pub record IsStatus (words : List (List ℕ)) (disks : Disks) (status : ℕ) : Type 0 where
  pub source : Reading
  pub sink : Writing
  pub outcome : Outcome
  pub history : List Entry
  pub more : Further
  pub answers : Answers (call_of words source sink disks) outcome history more
  pub is_status : status ≡ status_of outcome

-- A call with these words over eight blank disks in memory, on each of which blocks may stand, was answered, and legally, and this is the
-- status of its outcome.
pub record IsLegalStatus (words : List (List ℕ)) (status : ℕ) : Type 0 where
  pub before : List Simulated
  pub after : List Simulated
  pub eight : length before ≡ 8
  pub blank : AreBlank before
  pub sized : AreOfBlocks (in_memory before after).runs
  pub source : Reading
  pub sink : Writing
  pub outcome : Outcome
  pub history : List Entry
  pub more : Further
  pub answers : Answers (call_of words source sink (in_memory before after)) outcome history more
  pub legally : IsLegally (call_of words source sink (in_memory before after)) outcome history more
  pub is_status : status ≡ status_of outcome
