-- What is read before a run: the words, the source, and the script that its bytes spell.
use Rattle.std.specs.Prelude.{◌≡◌, ◌<◌, ◌≤◌, ◌+◌, ℕ, Bool, true, Option, List, length, map}
use Rattle.std.specs.Io.KnownBytes.{Consumes, IsAtEnd}
use Rattle.eden_io.specs.Causes.{Rose}
use Rattle.journal.specs.declared.command.Script.{Script}
use Rattle.eden_script.specs.Script.{IsScript, IsBadLine}
use Rattle.eden_gen.specs.Generated.{script_text}
use Rattle.runs.specs.Room.{entries_in}
use Rattle.lossy_wire.specs.Commands.{wire_kind}
use Rattle.lossy_wire.specs.Texts.{IsText}
use Rattle.line_forms.specs.Forms.{Kind, Row}
use Rattle.line_forms.specs.Scripts as lines
use Rattle.move_world.specs.Commands.{Command, move_kind}
use Rattle.move_world.specs.Scripts.{IsMoveScript}
use Rattle.move_world.specs.View.{meant}
use Rattle.twin_world.specs.Commands as twins
use Rattle.twin_world.specs.Scripts.{IsTwinScript}
use Rattle.twin_world.specs.View as twin_view
use Rattle.shell_answers.specs.Words.{Asks, AsksFor}
use Rattle.shell_answers.specs.declared.words.Job.{Job}
use Rattle.shell_answers.specs.declared.words.Job.TheVariants.{Run, Gen}
use Rattle.shell_answers.specs.declared.words.Task.{Task}
use Rattle.shell_answers.specs.declared.words.Task.TheVariants.{History, Wire, Move, Twin}
use Rattle.shell_answers.specs.declared.reading.Asked.{Asked}
use Rattle.shell_answers.specs.declared.reading.Asked.TheVariants as asked
use Rattle.shell_answers.specs.declared.outcome.Outcome.{Outcome}
use Rattle.shell_answers.specs.declared.outcome.Outcome.TheVariants.{Ran, BadWords, BadScript, ReadFault, WriteFault, OutOfMemory, TooLong}

-- 1. The source

-- a source before a call and behind it: what is left, where it tells that, whether a read has met the end, and how often a read failed
pub record Reading : Type 0 where
  pub left : Option (List ℕ)
  pub left_after : Option (List ℕ)
  pub ended : Bool
  pub ended_after : Bool
  pub faults : ℕ
  pub faults_after : ℕ

-- what is seen of a source of any type, in its old state and in its new one
abbrev pub reading : {S : Type 0} → (S → Option (List ℕ)) → (S → Bool) → (S → ℕ) → S → S → Reading
reading left ended faults old new = record {
  left = left old;
  left_after = left new;
  ended = ended old;
  ended_after = ended new;
  faults = faults old;
  faults_after = faults new;
}

-- It was read to its end: these bytes are all that was left, where it tells that.
pub record IsRead (s : Reading) (bytes : List ℕ) : Type 0 where
  pub taken : Consumes s.left s.left_after bytes
  pub whole : IsAtEnd s.left_after
  pub ended : s.ended_after ≡ true
  pub within : length bytes ≤ 1048576

-- More bytes than a script may have were taken from it.
pub record TookTooMany (s : Reading) : Type 0 where
  pub bytes : List ℕ
  pub taken : Consumes s.left s.left_after bytes
  pub more : 1048576 < length bytes

-- Nothing was read.
pub record IsUnread (s : Reading) : Type 0 where
  pub left : s.left_after ≡ s.left
  pub ended : s.ended_after ≡ s.ended
  pub faults : s.faults_after ≡ s.faults

-- 2. The script

-- where a job has the bytes of its script from: all that the source had, or those that belong to the number
abbrev pub HasBytesFrom : Reading → Job → List ℕ → Type 0
HasBytesFrom s (Run m) bytes = IsRead s bytes
HasBytesFrom s (Gen number) bytes = IsUnread s × (bytes ≡ script_text number)

-- the bytes of a job spell this script
abbrev pub HasScript : Reading → Job → Script → Type 0
HasScript s job script = (bytes : List ℕ) × HasBytesFrom s job bytes × IsScript bytes script

-- what was read is a script of a wire that writes this text
abbrev pub HasWire : Reading → List ℕ → Type 0
HasWire s text = (bytes : List ℕ) × IsRead s bytes × IsText bytes text

-- what was read is a script of Ejects that wander, with so many nodes and these commands
abbrev pub HasMoves : Reading → ℕ → List Command → Type 0
HasMoves s nodes commands = (bytes : List ℕ) × IsRead s bytes × IsMoveScript bytes nodes commands

-- what was read is a script of pairs of disks, with these commands
abbrev pub HasTwins : Reading → List twins.Command → Type 0
HasTwins s commands = (bytes : List ℕ) × IsRead s bytes × IsTwinScript bytes commands

-- the bytes spell a script of this kind
abbrev pub SpellsLines : Kind → List ℕ → Type 0
SpellsLines kind bytes = (most : ℕ) × (rows : List Row) × lines.IsScript kind bytes most rows

-- the bytes spell what a task reads: a script of a run, of a wire, of Ejects that wander, or of pairs of disks; `gen` reads none
abbrev pub SpellsFor : Task → List ℕ → Type 0
SpellsFor (History (Run m)) bytes = (script : Script) × IsScript bytes script
SpellsFor (History (Gen number)) bytes = ⊥
SpellsFor Wire bytes = SpellsLines wire_kind bytes
SpellsFor Move bytes = SpellsLines move_kind bytes
SpellsFor Twin bytes = SpellsLines twins.twin_kind bytes

-- The words ask for this job, and its bytes spell this script.
pub record IsAsked (words : List (List ℕ)) (s : Reading) (job : Job) (script : Script) : Type 0 where
  pub asks : Asks words job
  pub bytes : List ℕ
  pub has : HasBytesFrom s job bytes
  pub spells : IsScript bytes script

-- The words ask for a wire, and what was read is a script of one that writes this text.
pub record IsWired (words : List (List ℕ)) (s : Reading) (text : List ℕ) : Type 0 where
  pub asks : AsksFor words Wire
  pub wire : HasWire s text

-- The words ask for Ejects that wander, and what was read is a script of such, with so many nodes and these commands.
pub record IsMoved (words : List (List ℕ)) (s : Reading) (nodes : ℕ) (commands : List Command) : Type 0 where
  pub asks : AsksFor words Move
  pub moves : HasMoves s nodes commands

-- The words ask for pairs of disks, and what was read is a script of such, with these commands.
pub record IsTwinned (words : List (List ℕ)) (s : Reading) (commands : List twins.Command) : Type 0 where
  pub asks : AsksFor words Twin
  pub twins : HasTwins s commands

-- what the words ask for, with its script
abbrev pub IsAskedFor : List (List ℕ) → Reading → Asked → Type 0
IsAskedFor words s (asked.History job script) = IsAsked words s job script
IsAskedFor words s (asked.Wire text) = IsWired words s text.items
IsAskedFor words s (asked.Move script) = IsMoved words s script.nodes (map meant script.commands.items)
IsAskedFor words s (asked.Twin script) = IsTwinned words s (map twin_view.meant script.commands.items)

-- a script of a run is short enough for all that its boots and commands do
abbrev pub IsShort : Asked → Type 0
IsShort (asked.History job script) = script.nodes + entries_in script.commands ≤ 1048576
IsShort (asked.Wire text) = Unit {0}
IsShort (asked.Move script) = Unit {0}
IsShort (asked.Twin script) = Unit {0}

-- 3. Why there is none

-- why a source cannot be read whole: a read failed, or it has more bytes than a script may have
abbrev pub HindersRead : Reading → Outcome → Type 0
HindersRead s ReadFault = Rose s.faults s.faults_after
HindersRead s TooLong = TookTooMany s
HindersRead s _ = ⊥

-- why a job has no script
abbrev pub Hinders : Reading → Job → Outcome → Type 0
Hinders s job (BadScript line why) = (bytes : List ℕ) × HasBytesFrom s job bytes × IsBadLine bytes line why
Hinders s (Run m) outcome = HindersRead s outcome
Hinders s (Gen number) outcome = ⊥

-- why there is no script of a kind of lines
abbrev pub HindersLines : Kind → Reading → Outcome → Type 0
HindersLines kind s (BadScript line why) = (bytes : List ℕ) × IsRead s bytes × lines.IsBadLine kind bytes line why
HindersLines kind s outcome = HindersRead s outcome

-- why a task has no script
abbrev pub HindersTask : Reading → Task → Outcome → Type 0
HindersTask s (History job) outcome = Hinders s job outcome
HindersTask s Wire outcome = HindersLines wire_kind s outcome
HindersTask s Move outcome = HindersLines move_kind s outcome
HindersTask s Twin outcome = HindersLines twins.twin_kind s outcome

-- why a call ends before a run: the words ask for nothing, or for a task that has no script
abbrev pub Refuses : List (List ℕ) → Reading → Outcome → Type 0
Refuses words s BadWords = ((task : Task) → AsksFor words task → ⊥) × IsUnread s
-- these never come before a run
Refuses words s Ran = ⊥
Refuses words s WriteFault = ⊥
Refuses words s OutOfMemory = ⊥
Refuses words s outcome = (task : Task) × AsksFor words task × HindersTask s task outcome
