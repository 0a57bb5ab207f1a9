-- What the program answers: which outcome is due for the words, for what was read and for the disks, and what of it was written.
use Rattle.std.specs.Prelude.{◌≡◌, ◌⊎◌, ℕ, Bool, true, Option, List, [], IsTrue, drop, length, map, take}
use Rattle.std.specs.List.{All}
use Rattle.std.specs.Io.KnownBytes.{Appends, Keeps}
use Rattle.eden_io.specs.Causes.{Rose}
use Rattle.eden_io.specs.Taken.{AppendsPart}
use Rattle.passive_store.specs.Kept.{Layout}
use Rattle.passive_store.specs.Seen.{DiskSeen}
use Rattle.journal.specs.declared.command.Script.{Script}
use Rattle.journal.specs.declared.event.Entry.{Entry}
use Rattle.journal.specs.Lines.{text_of}
use Rattle.journal.specs.Standing.{DiskRun}
use Rattle.journal.specs.Faults.{ShowsEach, ShowsNoMore}
use Rattle.journal.specs.LegalRun.{IsLegalRun, IsLegalSoFar, AreHandedIn, EachDisk}
use Rattle.move_world.specs.Commands.{Command}
use Rattle.move_world.specs.Counted.{CountsAsTold}
use Rattle.move_world.specs.Disks.{KeepNothing}
use Rattle.move_world.specs.Logs.{Log, IsLegalMove}
use Rattle.move_world.specs.Texts as moves
use Rattle.move_world.specs.View.{log_of}
use Rattle.move_world.specs.Worlds.{commands_of}
use Rattle.twin_world.specs.Commands as twin_commands
use Rattle.twin_world.specs.Disks as twin_disks
use Rattle.twin_world.specs.Logs as twin_logs
use Rattle.twin_world.specs.Scripts as twin_scripts
use Rattle.twin_world.specs.Texts as twins
use Rattle.twin_world.specs.View as twin_view
use Rattle.twin_world.specs.Worlds.{AllCounted, RunsOver}
use Rattle.shell_answers.specs.Words.{AsksFor, mode_of}
use Rattle.shell_answers.specs.Outcomes.{line_of}
use Rattle.shell_answers.specs.Reading.{Reading, IsAsked, IsMoved, IsTwinned, HasWire, Refuses}
use Rattle.shell_answers.specs.declared.words.Job.{Job}
use Rattle.shell_answers.specs.declared.words.Task.{Task}
use Rattle.shell_answers.specs.declared.words.Task.TheVariants.{History, Wire, Move, Twin}
use Rattle.shell_answers.specs.declared.further.Further.{Further}
use Rattle.shell_answers.specs.declared.further.Further.TheVariants as further
use Rattle.shell_answers.specs.declared.outcome.Outcome.{Outcome}
use Rattle.shell_answers.specs.declared.outcome.Outcome.TheVariants.{Ran, WriteFault, OutOfMemory}

-- 1. What a call touches

-- a sink before a call and behind it: what was written, where it tells that, and how often a write failed
pub record Writing : Type 0 where
  pub written : Option (List ℕ)
  pub written_after : Option (List ℕ)
  pub faults : ℕ
  pub faults_after : ℕ

-- what is seen of a sink of any type, in its old state and in its new one
abbrev pub writing : {K : Type 0} → (K → Option (List ℕ)) → (K → ℕ) → K → K → Writing
writing written faults old new = record {
  written = written old;
  written_after = written new;
  faults = faults old;
  faults_after = faults new;
}

-- the disks before a call and behind it, in the order of their nodes, with their layout, and whether they tell
pub record Disks : Type 0 where
  pub layout : Layout
  pub tells : Bool
  pub runs : List DiskRun

-- one call of the program: the words of its command line, with the source, the sink and the disks that it touches
pub record Call : Type 0 where
  pub words : List (List ℕ)
  pub source : Reading
  pub sink : Writing
  pub disks : Disks

-- 2. Disks

-- no device call was made, and no other call that a disk notes
pub record IsUntouched (d : DiskRun) : Type 0 where
  pub told : d.after ≡ d.before
  pub counts : d.last ≡ d.first
  pub due : d.left ≡ d.due

-- the count of device calls that found no memory is as it was
abbrev pub WantedNoMemory : DiskRun → Type 0
WantedNoMemory d = d.last.wants ≡ d.first.wants

-- a disk as it was seen before the call
abbrev pub seen_before : DiskRun → DiskSeen
seen_before d = record { counts = d.first; told = d.before; due = d.due }

-- the disks as they were handed in
abbrev pub handed_in : Disks → List DiskSeen
handed_in d = map seen_before d.runs

-- a disk as it was seen behind the call
abbrev pub seen_after : DiskRun → DiskSeen
seen_after d = record { counts = d.last; told = d.after; due = d.left }

-- the disks as they were given back
abbrev pub given_back : Disks → List DiskSeen
given_back d = map seen_after d.runs

-- 3. Histories

-- the disks of the nodes that a script boots, in their order: the first
abbrev pub disks_of_nodes : Script → List DiskRun → List DiskRun
disks_of_nodes script runs = take script.nodes runs

-- and those behind them, which no node of it has
abbrev pub other_disks : Script → List DiskRun → List DiskRun
other_disks script runs = drop script.nodes runs

-- The entries are the legal history of the script over the disks of its nodes, where these tell and were handed in as they have to be.
-- Whether they tell or not, each fault and each stop of such a disk is shown, and no other. The other disks, whatever they hold, are as
-- they were.
pub record IsLegalOver (d : Disks) (script : Script) (history : List Entry) : Type 0 where
  pub legal : IsTrue d.tells → AreHandedIn d.layout (disks_of_nodes script d.runs)
      → IsLegalRun d.layout script (disks_of_nodes script d.runs) history
  pub faults : EachDisk (disks_of_nodes script d.runs) (ShowsEach history)
  pub others : All IsUntouched (other_disks script d.runs)

-- They are those with which it begins, where want of memory ended the run.
pub record IsLegalPartOver (d : Disks) (script : Script) (history : List Entry) : Type 0 where
  pub legal : IsTrue d.tells → AreHandedIn d.layout (disks_of_nodes script d.runs)
      → IsLegalSoFar d.layout script (disks_of_nodes script d.runs) history
  pub faults : EachDisk (disks_of_nodes script d.runs) (ShowsNoMore history)
  pub others : All IsUntouched (other_disks script d.runs)

-- A script was carried out: to its end, or as far as there was memory. Where it is said to be whole, no disk wanted memory either.
pub record IsCarriedOut (d : Disks) (script : Script) (history : List Entry) (whole : Bool) : Type 0 where
  pub legal : IsLegalOver d script history ⊎ IsLegalPartOver d script history
  pub ended : whole ≡ true → IsLegalOver d script history
  pub no_wants : whole ≡ true → All WantedNoMemory d.runs

-- 4. Outcomes

-- What is told besides the text: the history of a run, and what there is further. Here is neither a history nor a log.
abbrev pub IsNothing : List Entry → Further → Type 0
IsNothing history more = (history ≡ []) × (more ≡ further.Nothing)

-- A run came to its end: the history is that of the script that was asked for, no disk wanted memory, and the text is the history's. There
-- is no log.
pub record HasRun (c : Call) (job : Job) (history : List Entry) (more : Further) (text : List ℕ) : Type 0 where
  pub script : Script
  pub asked : IsAsked c.words c.source job script
  pub legal : IsLegalOver c.disks script history
  pub no_wants : All WantedNoMemory c.disks.runs
  pub is_text : text ≡ text_of (mode_of job) history
  pub no_log : more ≡ further.Nothing

-- No run began: there is neither a history nor a log, and no disk was touched.
pub record IsNotBegun (c : Call) (history : List Entry) (more : Further) : Type 0 where
  pub nothing : IsNothing history more
  pub disks : All IsUntouched c.disks.runs

-- The script of a wire was run, and this is its text. There is neither a history nor a log, and no disk was touched.
pub record HasWired (c : Call) (history : List Entry) (more : Further) (text : List ℕ) : Type 0 where
  pub wire : HasWire c.source text
  pub not_begun : IsNotBegun c history more

-- A script of Ejects that wander was carried out, with this log: its commands are those that were read, the text is the log's, and where
-- the disks tell and none of them kept anything it is legal. Each disk counts as many more faults and stops as the log has answers of its
-- node that say so. There is no history.
pub record HasMoved (c : Call) (history : List Entry) (log : Log) (text : List ℕ) : Type 0 where
  pub asked : IsMoved c.words c.source log.nodes (commands_of log.entries)
  pub legal : IsTrue c.disks.tells → KeepNothing c.disks.layout (handed_in c.disks) → IsLegalMove log
  pub counts : CountsAsTold log (handed_in c.disks) (given_back c.disks)
  pub is_text : text ≡ moves.text_of log
  pub no_history : history ≡ []

-- A script of pairs of disks was carried out, with this log: its commands are those that were read, the text is the log's, and where the
-- disks tell, none of them kept anything, and their counts of faults can rise as often as there are commands, it is legal. It tells of a
-- run over these disks, in which an answer that no disk is left, or that there is no room for a change, has its cause; and the count of
-- faults of each disk of a node rises as often as entries mark it, those of stops of both together as often as answers say that one
-- stopped. There is no history.
pub record HasTwinned (c : Call) (history : List Entry) (log : twin_logs.Log) (text : List ℕ) : Type 0 where
  pub asked : IsTwinned c.words c.source (twin_scripts.commands_of log.entries)
  pub legal : IsTrue c.disks.tells → twin_disks.KeepNothing c.disks.layout (handed_in c.disks)
      → twin_disks.CanRise (length log.entries) (handed_in c.disks) → twin_logs.IsLegalTwin log
  pub runs : RunsOver c.disks.tells c.disks.layout log.entries (handed_in c.disks) (given_back c.disks)
  pub counts : AllCounted log.entries (handed_in c.disks) (given_back c.disks)
  pub is_text : text ≡ twins.text_of log
  pub no_history : history ≡ []

-- so it is with the log of Ejects that wander that there is further
abbrev pub HasMovedBy : Call → List Entry → Further → List ℕ → Type 0
HasMovedBy c history (further.Move log) text = HasMoved c history (log_of log) text
HasMovedBy c history _ text = ⊥

-- and with that of pairs of disks
abbrev pub HasTwinnedBy : Call → List Entry → Further → List ℕ → Type 0
HasTwinnedBy c history (further.Twin log) text = HasTwinned c history (twin_view.log_of log) text
HasTwinnedBy c history _ text = ⊥

-- what is due where a task came to its end, task by task
abbrev pub IsDone : Task → Call → List Entry → Further → List ℕ → Type 0
IsDone (History job) c history more text = HasRun c job history more text
IsDone Wire c history more text = HasWired c history more text
IsDone Move c history more text = HasMovedBy c history more text
IsDone Twin c history more text = HasTwinnedBy c history more text

-- the call was refused with this outcome, for which there is one line
pub record IsRefused (c : Call) (outcome : Outcome) (history : List Entry) (more : Further) (text : List ℕ) : Type 0 where
  pub refuses : Refuses c.words c.source outcome
  pub not_begun : IsNotBegun c history more
  pub is_line : text ≡ line_of outcome

-- The outcome that is due, with its history, what there is further, and the text that is to be written. A write that fails, and want of
-- memory, come in its place.
abbrev pub IsDue : Call → Outcome → List Entry → Further → List ℕ → Type 0
IsDue c Ran history more text = (task : Task) × AsksFor c.words task × IsDone task c history more text
IsDue c outcome history more text = IsRefused c outcome history more text

-- A run began: the history is that of the script, whole or so far, and a part of its text, from the front, was written. There is no log.
pub record HasBegun (c : Call) (job : Job) (history : List Entry) (more : Further) : Type 0 where
  pub script : Script
  pub asked : IsAsked c.words c.source job script
  pub legal : IsLegalOver c.disks script history ⊎ IsLegalPartOver c.disks script history
  pub written : AppendsPart c.sink.written c.sink.written_after (text_of (mode_of job) history)
  pub no_log : more ≡ further.Nothing

-- A script of Ejects that wander was begun: there is neither a history nor a log, and nothing was written.
pub record HasMoveBegun (c : Call) (history : List Entry) (more : Further) : Type 0 where
  pub nodes : ℕ
  pub commands : List Command
  pub asked : IsMoved c.words c.source nodes commands
  pub nothing : IsNothing history more
  pub unwritten : Keeps c.sink.written c.sink.written_after

-- A script of pairs of disks was begun: there is neither a history nor a log, and nothing was written.
pub record HasTwinBegun (c : Call) (history : List Entry) (more : Further) : Type 0 where
  pub commands : List twin_commands.Command
  pub asked : IsTwinned c.words c.source commands
  pub nothing : IsNothing history more
  pub unwritten : Keeps c.sink.written c.sink.written_after

-- what is there where want of memory ended a task that had begun, task by task; a wire touches nothing before its text is whole
abbrev pub IsBegun : Task → Call → List Entry → Further → Type 0
IsBegun (History job) c history more = HasBegun c job history more
IsBegun Wire c history more = ⊥
IsBegun Move c history more = HasMoveBegun c history more
IsBegun Twin c history more = HasTwinBegun c history more

-- 5. Answers

-- The text of the outcome that is due was written whole. Where a write failed, an outcome was due, and a part of its text was written.
-- Where memory was wanted, nothing was begun and nothing written, or what the words ask for began.
abbrev pub Answers : Call → Outcome → List Entry → Further → Type 0
Answers c WriteFault history more = Rose c.sink.faults c.sink.faults_after × ((due : Outcome) × (text : List ℕ)
    × IsDue c due history more text × AppendsPart c.sink.written c.sink.written_after text)
Answers c OutOfMemory history more = (IsNotBegun c history more × Keeps c.sink.written c.sink.written_after)
    ⊎ ((task : Task) × AsksFor c.words task × IsBegun task c history more)
Answers c outcome history more = (text : List ℕ) × IsDue c outcome history more text × Appends c.sink.written c.sink.written_after text

-- 6. One text

-- What comes of a text that is due. Where there is no memory, a part of it may have been written.
abbrev pub Delivers : Writing → Outcome → List ℕ → Outcome → Type 0
Delivers s due text WriteFault = Rose s.faults s.faults_after × AppendsPart s.written s.written_after text
Delivers s due text OutOfMemory = AppendsPart s.written s.written_after text
Delivers s due text outcome = (outcome ≡ due) × Appends s.written s.written_after text
