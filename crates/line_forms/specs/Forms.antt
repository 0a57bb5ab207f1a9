-- Forms of lines, as data: what a kind of script has in place of a grammar of its own.
use Rattle.std.specs.Prelude.{ℕ, suc, List, [], ◌∷◌, codes, if◌then◌else◌}
use Rattle.std.specs.Str.{bytes_eq}
use Rattle.eden_value.specs.Datum.{Datum}
use Rattle.script_words.specs.Tree.{WrittenMode}
use Rattle.line_forms.specs.declared.form.Place.{Place}
use Rattle.line_forms.specs.declared.form.Ending.{Ending}

-- A word, the numbers behind it, each with its place, and what the line ends with.
pub record Form : Type 0 where
  pub word : List ℕ
  pub places : List Place
  pub ending : Ending

-- A kind of script: the form of its first line, and those of the lines behind it. The word `end` ends each script.
pub record Kind : Type 0 where
  pub first : Form
  pub others : List Form

-- what stands at the end of a line: nothing, a value, a text or a mode
pub data Last : Type 0 where
  nothing : Last
  datum : Datum → Last
  words : List ℕ → Last
  mode : WrittenMode → Last

-- What a line behind the first one says: the number of its form among those, counted from 0, its numbers and its end.
pub record Row : Type 0 where
  pub form : ℕ
  pub numbers : List ℕ
  pub last : Last

-- what a line says: nothing (a blank line or a comment), the first line with its numbers and its end, a row, or the end
pub data Line : Type 0 where
  idle : Line
  begins : (numbers : List ℕ) (last : Last) → Line
  does : Row → Line
  finish : Line

-- what a first word stands for: nothing, the first line, the end, or a form with its number
pub data Which : Type 0 where
  unknown : Which
  the_first : Which
  the_end : Which
  other : ℕ → Form → Which

-- what a word stands for among forms, of which the first has this number: the first form with the word
abbrev pub among : ℕ → List Form → List ℕ → Which
among i [] word = unknown
among i (f ∷ fs) word = if bytes_eq f.word word then other i f else among (suc i) fs word

-- what a word stands for in a kind of script
abbrev pub which : Kind → List ℕ → Which
which kind word =
    if bytes_eq kind.first.word word then the_first else (if bytes_eq (codes "end") word then the_end else among 0 kind.others word)
