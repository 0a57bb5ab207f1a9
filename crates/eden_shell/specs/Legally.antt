-- What is answered where nothing is left to be taken for granted of the disks.
use Rattle.std.specs.Prelude.{◌≡◌, ◌⊎◌, List, []}
use Rattle.journal.specs.declared.command.Script.{Script}
use Rattle.journal.specs.declared.event.Entry.{Entry}
use Rattle.journal.specs.LegalRun.{IsLegalRun, IsLegalSoFar}
use Rattle.move_world.specs.Logs.{Log, IsLegalMove}
use Rattle.move_world.specs.View.{log_of}
use Rattle.move_world.specs.Worlds.{commands_of}
use Rattle.twin_world.specs.Logs as twin_logs
use Rattle.twin_world.specs.Scripts as twin_scripts
use Rattle.twin_world.specs.View as twin_view
use Rattle.shell_answers.specs.Answers.{Call, IsNothing, disks_of_nodes}
use Rattle.shell_answers.specs.Reading.{IsAsked, IsMoved, IsTwinned}
use Rattle.shell_answers.specs.Words.{AsksFor}
use Rattle.shell_answers.specs.declared.words.Job.{Job}
use Rattle.shell_answers.specs.declared.words.Task.{Task}
use Rattle.shell_answers.specs.declared.words.Task.TheVariants.{History, Wire, Move, Twin}
use Rattle.shell_answers.specs.declared.further.Further.{Further}
use Rattle.shell_answers.specs.declared.further.Further.TheVariants as further
use Rattle.shell_answers.specs.declared.outcome.Outcome.{Outcome}
use Rattle.shell_answers.specs.declared.outcome.Outcome.TheVariants.{Ran, WriteFault, OutOfMemory}
use Rattle.eden_shell.specs.Blank.{AreOfBlocks}

-- The history is a legal run of the script that was asked for, over the disks of its nodes.
pub record HasLegalRun (c : Call) (history : List Entry) : Type 0 where
  pub job : Job
  pub script : Script
  pub asked : IsAsked c.words c.source job script
  pub legal : IsLegalRun c.disks.layout script (disks_of_nodes script c.disks.runs) history

-- It is one, or a legal beginning of one.
pub record HasLegalPart (c : Call) (history : List Entry) : Type 0 where
  pub job : Job
  pub script : Script
  pub asked : IsAsked c.words c.source job script
  pub legal : IsLegalRun c.disks.layout script (disks_of_nodes script c.disks.runs) history
      ⊎ IsLegalSoFar c.disks.layout script (disks_of_nodes script c.disks.runs) history

-- The log is of the script of Ejects that wander that was asked for, and legal, where blocks may stand on each disk. There is no history.
pub record HasLegalMove (c : Call) (history : List Entry) (log : Log) : Type 0 where
  pub asked : IsMoved c.words c.source log.nodes (commands_of log.entries)
  pub legal : AreOfBlocks c.disks.runs → IsLegalMove log
  pub no_history : history ≡ []

-- so it is with the log that there is
abbrev pub HasLegalMoveBy : Call → List Entry → Further → Type 0
HasLegalMoveBy c history (further.Move log) = HasLegalMove c history (log_of log)
HasLegalMoveBy c history _ = ⊥

-- The log is of the script of pairs of disks that was asked for, and legal, where blocks may stand on each disk. There is no history.
pub record HasLegalTwin (c : Call) (history : List Entry) (log : twin_logs.Log) : Type 0 where
  pub asked : IsTwinned c.words c.source (twin_scripts.commands_of log.entries)
  pub legal : AreOfBlocks c.disks.runs → twin_logs.IsLegalTwin log
  pub no_history : history ≡ []

-- so it is with the log that there is
abbrev pub HasLegalTwinBy : Call → List Entry → Further → Type 0
HasLegalTwinBy c history (further.Twin log) = HasLegalTwin c history (twin_view.log_of log)
HasLegalTwinBy c history _ = ⊥

-- what is legal where a task came to its end, task by task: of a wire there is nothing
abbrev pub IsDoneLegally : Task → Call → List Entry → Further → Type 0
IsDoneLegally (History job) c history more = HasLegalRun c history × (more ≡ further.Nothing)
IsDoneLegally Wire c history more = IsNothing history more
IsDoneLegally Move c history more = HasLegalMoveBy c history more
IsDoneLegally Twin c history more = HasLegalTwinBy c history more

-- some task came to its end, and it was legal
abbrev pub HasBeenLegal : Call → List Entry → Further → Type 0
HasBeenLegal c history more = (task : Task) × AsksFor c.words task × IsDoneLegally task c history more

-- Where a task came to its end it was legal. Where a write failed, or there was no memory, nothing had begun, or it was legal up to there.
abbrev pub IsLegally : Call → Outcome → List Entry → Further → Type 0
IsLegally c Ran history more = HasBeenLegal c history more
IsLegally c WriteFault history more = IsNothing history more ⊎ HasBeenLegal c history more
IsLegally c OutOfMemory history more = IsNothing history more ⊎ HasLegalPart c history
IsLegally c outcome history more = IsNothing history more
