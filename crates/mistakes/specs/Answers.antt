-- The first mistake in a script.
use Rattle.std.specs.Prelude.{◌≡◌, ℕ, ◌-◌, List, [], take, map, Option, Some, None}
use Rattle.journal.specs.declared.command.Script.{Script}
use Rattle.script_words.specs.Lines.{lines_of}
use Rattle.eden_script.specs.Parts.{line_at}
use Rattle.eden_script.specs.Script.{IsScript, IsBadLine}
use Rattle.script_words.specs.declared.cause.ScriptCause.TheVariants.{BadEdentype}
use Rattle.mistakes.specs.TypePlaces.{IsBadType, column_of}
use Rattle.mistakes.specs.Wanted.{IsSifted, MayStand, samples}
use Rattle.mistakes.specs.Columns.{IsColumn}
use Rattle.mistakes.specs.declared.mistake.Mistake.{Mistake}
use Rattle.mistakes.specs.declared.mistake.TypeFault.{TypeFault}
use Rattle.mistakes.specs.declared.mistake.TypeFault.TheVariants.{BadToken}

-- the line of a script with a number, counted from 1; no bytes where there is none
abbrev pub line_numbered : List ℕ → ℕ → List ℕ
line_numbered bytes line = line_at (lines_of bytes) (line - 1)

-- What may stand at the place where a text is refused: of a bad token, all samples that go on with what is before it.
abbrev pub IsWanted : List ℕ → ℕ → TypeFault → List (List ℕ) → Type 0
IsWanted text place BadToken wanted = IsSifted (MayStand (take place text)) samples wanted
IsWanted text place _ wanted = wanted ≡ []

-- The place of a mistake in a type: it is that of the parser or of the checker.
pub record IsTypeMistake (bytes : List ℕ) (m : Mistake) (fault : TypeFault) : Type 0 where
  pub text : List ℕ
  pub place : ℕ
  pub refused : IsBadType bytes m.line text place fault
  pub column : m.column ≡ column_of text place
  pub wanted : IsWanted text place fault (map (λ w. w.now) m.wanted.items)

-- The place of a mistake: a bad type has a fault, and of other lines the column is that of the cause.
abbrev pub IsPlaced : List ℕ → Mistake → Option TypeFault → Type 0
IsPlaced bytes m (Some fault) = (m.cause ≡ BadEdentype) × IsTypeMistake bytes m fault
IsPlaced bytes m None = (m.cause ≡ BadEdentype → ⊥) × IsColumn m.cause (line_numbered bytes m.line) m.column

-- The first bad line of a script and its first cause, and where it is bad.
pub record IsMistake (bytes : List ℕ) (m : Mistake) : Type 0 where
  pub bad : IsBadLine bytes m.line m.cause
  pub place : IsPlaced bytes m m.fault

-- No mistake where the bytes spell a script, and else the first one.
abbrev pub IsAnswer : List ℕ → Option Mistake → Type 0
IsAnswer bytes None = (script : Script) × IsScript bytes script
IsAnswer bytes (Some m) = IsMistake bytes m
