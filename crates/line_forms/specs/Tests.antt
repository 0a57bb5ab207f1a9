-- Why a line is refused: the tests of a line, in order.
use Rattle.std.specs.Prelude.{◌≡◌, ◌≢◌, ◌⊎◌, ◌↔◌, ℕ, ◌≤◌, ◌<◌, Bool, true, false, List, [], ◌∷◌, length}
use Rattle.std.specs.List.{list_all}
use Rattle.script_words.specs.Form.{is_printable}
use Rattle.script_words.specs.Grammar.{Idle}
use Rattle.script_words.specs.Causes.{Within, HowFits, first_word, rank}
use Rattle.script_words.specs.Alone as alone
use Rattle.script_words.specs.declared.cause.ScriptCause.{ScriptCause}
use Rattle.script_words.specs.declared.cause.ScriptCause.TheVariants.{BadByte, LongLine, AfterEnd, NoCommand, Misplaced, BadForm, BadNumber}
use Rattle.line_forms.specs.Forms.{Form, Kind, Last, nothing, datum, words, mode, Line, idle, begins, does, finish, Which, unknown}
use Rattle.line_forms.specs.Forms.{the_first, other, which}
use Rattle.line_forms.specs.Spelling.{SpellsLine}
use Rattle.line_forms.specs.declared.form.Bound.{Bound}
use Rattle.line_forms.specs.declared.form.Bound.TheVariants.{UpTo, Node, Station}
use Rattle.line_forms.specs.declared.form.Place.{Place}

-- What the lines so far leave: whether the first line stood, the number in it (0 where it has none), and whether `end` stood.
pub record Seen : Type 0 where
  pub begun : Bool
  pub most : ℕ
  pub ended : Bool

-- before the first line
abbrev pub at_first : Seen
at_first = record { begun = false; most = 0; ended = false }

-- the greatest number that a bound lets through, where the first line has this number
abbrev pub top : ℕ → Bound → ℕ
top most (UpTo n) = n
top most Node = most
top most Station = most

-- each number is in the range of its place
abbrev pub NumbersFit : ℕ → List Place → List ℕ → Type 0
NumbersFit most [] ns = Unit {0}
NumbersFit most (p ∷ ps) [] = Unit {0}
NumbersFit most (p ∷ ps) (n ∷ ns) = Within p.low (top most p.high) n × NumbersFit most ps ns

-- the numbers in what a line ends with are in their ranges
abbrev pub LastFits : Last → Type 0
LastFits nothing = Unit {0}
LastFits (datum d) = alone.Fits d
LastFits (words t) = Unit {0}
LastFits (mode how) = HowFits how

-- so it is with all numbers of a line of this form
abbrev pub FormFits : ℕ → Form → List ℕ → Last → Type 0
FormFits most f ns e = NumbersFit most f.places ns × LastFits e

-- the places of the form that a first word stands for
abbrev pub places_of : Which → List Place
places_of (other i f) = f.places
places_of _ = []

-- all numbers of a line are in their ranges, where the first line has this number
abbrev pub LineFits : Kind → ℕ → List ℕ → Line → Type 0
LineFits kind most bytes idle = Unit {0}
LineFits kind most bytes (begins ns e) = FormFits 0 kind.first ns e
LineFits kind most bytes (does r) = NumbersFit most (places_of (which kind (first_word bytes))) r.numbers × LastFits r.last
LineFits kind most bytes finish = Unit {0}

-- a line says this, with its numbers in their ranges
abbrev pub LineTells : Kind → Seen → List ℕ → Line → Type 0
LineTells kind seen bytes l = SpellsLine kind l bytes × LineFits kind seen.most bytes l

-- Whether a line passes the test that a cause stands for.
abbrev pub LinePasses : ScriptCause → Kind → Seen → List ℕ → Type 0
LinePasses BadByte kind seen bytes = list_all is_printable bytes ≡ true
LinePasses LongLine kind seen bytes = length bytes ≤ 4096
LinePasses AfterEnd kind seen bytes = Idle bytes ⊎ (seen.ended ≡ false)
LinePasses NoCommand kind seen bytes = Idle bytes ⊎ (which kind (first_word bytes) ≢ unknown)
LinePasses Misplaced kind seen bytes = Idle bytes ⊎ ((which kind (first_word bytes) ≡ the_first) ↔ (seen.begun ≡ false))
LinePasses BadForm kind seen bytes = (l : Line) × SpellsLine kind l bytes
LinePasses BadNumber kind seen bytes = (l : Line) × LineTells kind seen bytes l
LinePasses _ kind seen bytes = Unit {0}

-- the line passes all tests, and says this
pub record IsSaid (kind : Kind) (seen : Seen) (bytes : List ℕ) (l : Line) : Type 0 where
  pub passes : (c : ScriptCause) → LinePasses c kind seen bytes
  pub tells : LineTells kind seen bytes l

-- the first test that a line does not pass
pub record IsCause (kind : Kind) (seen : Seen) (bytes : List ℕ) (cause : ScriptCause) : Type 0 where
  pub before : (c : ScriptCause) → rank c < rank cause → LinePasses c kind seen bytes
  pub fails : LinePasses cause kind seen bytes → ⊥
