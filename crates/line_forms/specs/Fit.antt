-- What holds of the rows of every script, apart from how its lines are spelled.
use Rattle.std.specs.Prelude.{◌≡◌, ℕ, ◌≤◌, List, length, true, slice_get, Some}
use Rattle.std.specs.List.{All}
use Rattle.line_forms.specs.Forms.{Form, Kind, Last, nothing, datum, words, mode, Row}
use Rattle.line_forms.specs.One.{IsPlain}
use Rattle.line_forms.specs.Scripts.{IsScript, most_of}
use Rattle.line_forms.specs.Spelling.{stations, all_differ}
use Rattle.line_forms.specs.Tests.{NumbersFit, LastFits}
use Rattle.line_forms.specs.declared.form.Ending.{Ending}
use Rattle.line_forms.specs.declared.form.Ending.TheVariants.{Nothing, Value, Text, Mode, MaybeMode}

-- what stands at the end of a line is of the sort that its form ends with
abbrev pub IsOfSort : Ending → Last → Type 0
IsOfSort Nothing nothing = Unit {0}
IsOfSort Value (datum d) = Unit {0}
IsOfSort Text (words t) = Unit {0}
IsOfSort Mode (mode how) = Unit {0}
IsOfSort MaybeMode (mode how) = Unit {0}
IsOfSort _ _ = ⊥

-- Numbers and an end fit a form, where the first line has this number: there is a number for each place, in its range; the stations
-- differ; and the end is of the sort of the form, with its numbers in their ranges.
pub record FitsForm (most : ℕ) (f : Form) (numbers : List ℕ) (last : Last) : Type 0 where
  pub count : length numbers ≡ length f.places
  pub ranges : NumbersFit most f.places numbers
  pub apart : all_differ (stations f.places numbers) ≡ true
  pub sort : IsOfSort f.ending last
  pub last_range : LastFits last

-- a row fits the form that has its number
abbrev pub FitsKind : Kind → ℕ → Row → Type 0
FitsKind kind most r = (f : Form) × (slice_get kind.others r.form ≡ Some f) × FitsForm most f r.numbers r.last

-- A script whose first line has this number, with these rows: the first line fits the first form, each row fits its own, and there are at
-- most as many rows as bytes.
pub record AreFit (kind : Kind) (bytes : List ℕ) (most : ℕ) (rows : List Row) : Type 0 where
  pub first : (numbers : List ℕ) × (last : Last) × FitsForm 0 kind.first numbers last × (most ≡ most_of numbers)
  pub each : All (FitsKind kind most) rows
  pub few : length rows ≤ length bytes

-- So it is for every script of a kind whose words begin no blank line and no comment.
abbrev pub RowsAreFit : Type 0
RowsAreFit =
    (kind : Kind) (bytes : List ℕ) (most : ℕ) (rows : List Row) → IsPlain kind → IsScript kind bytes most rows
    → AreFit kind bytes most rows
