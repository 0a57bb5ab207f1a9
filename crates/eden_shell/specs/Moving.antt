-- What a script of Ejects that wander comes to.
use Rattle.std.specs.Prelude.{◌≡◌, ◌≢◌, ℕ, List, IsTrue}
use Rattle.std.specs.Io.KnownBytes.{Keeps}
use Rattle.move_world.specs.Commands.{Command}
use Rattle.move_world.specs.Counted.{CountsAsTold}
use Rattle.move_world.specs.Disks.{KeepNothing}
use Rattle.move_world.specs.Logs.{Log, IsLegalMove}
use Rattle.move_world.specs.Texts.{text_of}
use Rattle.move_world.specs.View.{log_of}
use Rattle.move_world.specs.Worlds.{commands_of}
use Rattle.shell_answers.specs.Answers.{Disks, Writing, Delivers, given_back, handed_in}
use Rattle.shell_answers.specs.declared.further.Further.{Further}
use Rattle.shell_answers.specs.declared.further.Further.TheVariants as further
use Rattle.shell_answers.specs.declared.outcome.Outcome.{Outcome}
use Rattle.shell_answers.specs.declared.outcome.Outcome.TheVariants.{Ran, OutOfMemory}

-- It was carried out over these disks, with this log, whose text was written, or a part of it where a write failed.
pub record IsTold (d : Disks) (s : Writing) (nodes : ℕ) (commands : List Command) (log : Log) (outcome : Outcome) : Type 0 where
  pub same_nodes : log.nodes ≡ nodes
  pub same : commands_of log.entries ≡ commands
  pub legal : IsTrue d.tells → KeepNothing d.layout (handed_in d) → IsLegalMove log
  pub counts : CountsAsTold log (handed_in d) (given_back d)
  pub delivers : Delivers s Ran (text_of log) outcome
  pub memory : outcome ≢ OutOfMemory

-- So it is with the log that there is; where there is none, memory was wanted, and nothing was written.
abbrev pub IsMovedTo : Disks → Writing → ℕ → List Command → Outcome → Further → Type 0
IsMovedTo d s nodes commands outcome further.Nothing = (outcome ≡ OutOfMemory) × Keeps s.written s.written_after
IsMovedTo d s nodes commands outcome (further.Move log) = IsTold d s nodes commands (log_of log) outcome
IsMovedTo d s nodes commands outcome (further.Twin log) = ⊥
