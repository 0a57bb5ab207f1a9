-- What a script's bytes say, in a kind of script.
use Rattle.std.specs.Prelude.{◌≡◌, ◌⊎◌, ℕ, ◌+◌, true, false, List, [], ◌∷◌, ◌++◌, length}
use Rattle.script_words.specs.Lines.{lines_of}
use Rattle.script_words.specs.declared.cause.ScriptCause.{ScriptCause}
use Rattle.script_words.specs.declared.cause.ScriptCause.TheVariants.{NoEnd}
use Rattle.script_words.specs.declared.cause.ScriptRefusal.{ScriptRefusal}
use Rattle.script_words.specs.declared.cause.ScriptRefusal.TheVariants.{Bad, OutOfMemory}
use Rattle.line_forms.specs.Forms.{Kind, Row, Line, idle, begins, does, finish}
use Rattle.line_forms.specs.Tests.{Seen, at_first, IsSaid, IsCause}

-- the number of the first line: the first number in it, 0 where it has none
abbrev pub most_of : List ℕ → ℕ
most_of [] = 0
most_of (n ∷ ns) = n

-- what a line leaves
abbrev pub after : Seen → Line → Seen
after seen idle = seen
after seen (begins ns e) = record { begun = true; most = most_of ns; ended = seen.ended }
after seen (does r) = seen
after seen finish = record { begun = seen.begun; most = seen.most; ended = true }

-- the row of a line, if it has one
abbrev pub rows_of : Line → List Row
rows_of (does r) = r ∷ []
rows_of _ = []

-- Lines that pass all tests, the rows in them in order, and what they leave.
abbrev pub Says : Kind → Seen → List (List ℕ) → List Row → Seen → Type 0
Says kind seen [] rows end = (rows ≡ []) × (end ≡ seen)
Says kind seen (bytes ∷ lines) rows end =
    (l : Line) × (rest : List Row) × IsSaid kind seen bytes l × (rows ≡ rows_of l ++ rest) × Says kind (after seen l) lines rest end

-- The bytes spell a script of this kind with this number in its first line and these rows: every line says the first line, a
-- row, the end or nothing, and the last of these is `end`.
pub record IsScript (kind : Kind) (bytes : List ℕ) (most : ℕ) (rows : List Row) : Type 0 where
  pub end : Seen
  pub says : Says kind at_first (lines_of bytes) rows end
  pub number : end.most ≡ most
  pub ended : end.ended ≡ true

-- the first bad line of these lines, counted from 1, and its first cause: the first that does not pass all tests; where there
-- is none and `end` is missing, one behind the last line
pub record IsBadIn (kind : Kind) (seen : Seen) (lines : List (List ℕ)) (line : ℕ) (cause : ScriptCause) : Type 0 where
  pub before : List (List ℕ)
  pub rows : List Row
  pub end : Seen
  pub says : Says kind seen before rows end
  pub bad : ((bytes : List ℕ) × (behind : List (List ℕ)) × (lines ≡ before ++ bytes ∷ behind) × (line ≡ length before + 1)
      × IsCause kind end bytes cause)
      ⊎ ((lines ≡ before) × (line ≡ length before + 1) × (end.ended ≡ false) × (cause ≡ NoEnd))

-- the first bad line of a script's bytes and its first cause
abbrev pub IsBadLine : Kind → List ℕ → ℕ → ScriptCause → Type 0
IsBadLine kind bytes line cause = IsBadIn kind at_first (lines_of bytes) line cause

-- a refusal is the first bad line with its first cause, or want of memory
abbrev pub IsRefusal : Kind → List ℕ → ScriptRefusal → Type 0
IsRefusal kind bytes (Bad line cause) = IsBadLine kind bytes line cause
IsRefusal kind bytes OutOfMemory = Unit {0}
