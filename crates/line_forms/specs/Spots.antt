-- Where the rows of a script begin in its bytes.
use Rattle.std.specs.Prelude.{◌≡◌, ℕ, true, false, List, [], ◌∷◌, drop}
use Rattle.script_words.specs.Lines.{lines_of}
use Rattle.line_forms.specs.Forms.{Kind, Row, Line, does}
use Rattle.line_forms.specs.Tests.{Seen, IsSaid}

-- what the lines before a row leave, where the first line has this number
abbrev pub begun_with : ℕ → Seen
begun_with most = record { begun = true; most = most; ended = false }

-- The line that begins behind so many bytes says this row, where the first line has this number.
pub record IsRowAt (kind : Kind) (bytes : List ℕ) (most spot : ℕ) (r : Row) : Type 0 where
  pub line : List ℕ
  pub behind : List (List ℕ)
  pub cut : lines_of (drop spot bytes) ≡ line ∷ behind
  pub said : IsSaid kind (begun_with most) line (does r)

-- these rows begin at these spots, one by one
abbrev pub AreAt : Kind → List ℕ → ℕ → List ℕ → List Row → Type 0
AreAt kind bytes most [] [] = Unit {0}
AreAt kind bytes most [] (r ∷ rows) = ⊥
AreAt kind bytes most (spot ∷ spots) [] = ⊥
AreAt kind bytes most (spot ∷ spots) (r ∷ rows) = IsRowAt kind bytes most spot r × AreAt kind bytes most spots rows

-- the spot of a line, if it has a row
abbrev pub spots_of : ℕ → Line → List ℕ
spots_of spot (does r) = spot ∷ []
spots_of spot _ = []
