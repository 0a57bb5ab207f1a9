-- What a script of pairs of disks comes to.
use Rattle.std.specs.Prelude.{◌≡◌, ◌≢◌, List, length, IsTrue}
use Rattle.std.specs.Io.KnownBytes.{Keeps}
use Rattle.twin_world.specs.Commands.{Command}
use Rattle.twin_world.specs.Disks.{KeepNothing, CanRise}
use Rattle.twin_world.specs.Logs.{Log, IsLegalTwin}
use Rattle.twin_world.specs.Scripts.{commands_of}
use Rattle.twin_world.specs.Texts.{text_of}
use Rattle.twin_world.specs.View.{log_of}
use Rattle.twin_world.specs.Worlds.{AllCounted, RunsOver}
use Rattle.shell_answers.specs.Answers.{Disks, Writing, Delivers, given_back, handed_in}
use Rattle.shell_answers.specs.declared.further.Further.{Further}
use Rattle.shell_answers.specs.declared.further.Further.TheVariants as further
use Rattle.shell_answers.specs.declared.outcome.Outcome.{Outcome}
use Rattle.shell_answers.specs.declared.outcome.Outcome.TheVariants.{Ran, OutOfMemory}

-- It was carried out over these disks, with this log, whose text was written, or a part of it where a write failed.
pub record IsTold (d : Disks) (s : Writing) (commands : List Command) (log : Log) (outcome : Outcome) : Type 0 where
  pub same : commands_of log.entries ≡ commands
  pub legal : IsTrue d.tells → KeepNothing d.layout (handed_in d) → CanRise (length commands) (handed_in d) → IsLegalTwin log
  pub runs : RunsOver d.tells d.layout log.entries (handed_in d) (given_back d)
  pub counts : AllCounted log.entries (handed_in d) (given_back d)
  pub delivers : Delivers s Ran (text_of log) outcome
  pub memory : outcome ≢ OutOfMemory

-- So it is with the log that there is; where there is none, memory was wanted, and nothing was written.
abbrev pub IsTwinnedTo : Disks → Writing → List Command → Outcome → Further → Type 0
IsTwinnedTo d s commands outcome further.Nothing = (outcome ≡ OutOfMemory) × Keeps s.written s.written_after
IsTwinnedTo d s commands outcome (further.Move log) = ⊥
IsTwinnedTo d s commands outcome (further.Twin log) = IsTold d s commands (log_of log) outcome
