-- How lines are spelled, form by form.
use Rattle.std.specs.Prelude.{◌≡◌, ℕ, Bool, true, false, not, ◌&&◌, ◌==◌, List, [], ◌∷◌, codes, if◌then◌else◌}
use Rattle.std.specs.List.{list_any}
use Rattle.script_words.specs.Grammar.{◌⋅◌, Is, Number, Quoted, Idle}
use Rattle.script_words.specs.Grammar as grammar
use Rattle.script_words.specs.Alone.{SpellsDatum}
use Rattle.script_words.specs.Causes.{first_word}
use Rattle.line_forms.specs.Forms.{Form, Kind, Last, nothing, datum, words, mode, Line, idle, begins, does, finish, the_first, the_end}
use Rattle.line_forms.specs.Forms.{other, which}
use Rattle.line_forms.specs.declared.form.Bound.{Bound}
use Rattle.line_forms.specs.declared.form.Bound.TheVariants.{UpTo, Node, Station}
use Rattle.line_forms.specs.declared.form.Mark.{Mark}
use Rattle.line_forms.specs.declared.form.Mark.TheVariants.{Blank, Point}
use Rattle.line_forms.specs.declared.form.Place.{Place}
use Rattle.line_forms.specs.declared.form.Ending.{Ending}
use Rattle.line_forms.specs.declared.form.Ending.TheVariants.{Nothing, Value, Text, Mode, MaybeMode}

-- the byte of a mark
abbrev pub mark_word : Mark → List ℕ
mark_word Blank = codes " "
mark_word Point = codes "."

-- numbers at their places, each right behind its mark; then an end that passes P
abbrev pub Numbers : List Place → List ℕ → (List ℕ → Type 0) → List ℕ → Type 0
Numbers [] [] P bytes = P bytes
Numbers [] (n ∷ ns) P bytes = ⊥
Numbers (p ∷ ps) [] P bytes = ⊥
Numbers (p ∷ ps) (n ∷ ns) P bytes = (Is (mark_word p.mark) ⋅ Number n ⋅ Numbers ps ns P) bytes

-- what a line ends with: nothing, VALUE without a name in it, a text, a mode, or a mode that may be left out, each with the blank before it
abbrev pub Ends : Ending → Last → List ℕ → Type 0
Ends Nothing nothing bytes = bytes ≡ []
Ends Value (datum d) bytes = (grammar.Blank ⋅ (λ b. SpellsDatum b d)) bytes
Ends Text (words t) bytes = (grammar.Blank ⋅ Quoted t) bytes
Ends Mode (mode how) bytes = grammar.Mode how bytes
Ends MaybeMode (mode how) bytes = grammar.CrashMode how bytes
Ends _ _ bytes = ⊥

-- a place has a station of which no other place of its line has the number
abbrev pub is_station : Bound → Bool
is_station (UpTo most) = false
is_station Node = false
is_station Station = true

-- the numbers that stand at places of stations
abbrev pub stations : List Place → List ℕ → List ℕ
stations [] ns = []
stations (p ∷ ps) [] = []
stations (p ∷ ps) (n ∷ ns) = if is_station p.high then n ∷ stations ps ns else stations ps ns

-- no two of these numbers are the same
abbrev pub all_differ : List ℕ → Bool
all_differ [] = true
all_differ (n ∷ ns) = not (list_any (λ m. n == m) ns) && all_differ ns

-- a line of this form with these numbers and this end; its stations differ
pub record SpellsForm (f : Form) (ns : List ℕ) (e : Last) (bytes : List ℕ) : Type 0 where
  pub spelled : (Is f.word ⋅ Numbers f.places ns (Ends f.ending e)) bytes
  pub apart : all_differ (stations f.places ns) ≡ true

-- a line without its line feed says this; its first word decides which form it has to have
abbrev pub SpellsLine : Kind → Line → List ℕ → Type 0
SpellsLine kind idle bytes = Idle bytes
SpellsLine kind (begins ns e) bytes = (which kind (first_word bytes) ≡ the_first) × SpellsForm kind.first ns e bytes
SpellsLine kind (does r) bytes = (f : Form) × (which kind (first_word bytes) ≡ other r.form f) × SpellsForm f r.numbers r.last bytes
SpellsLine kind finish bytes = (which kind (first_word bytes) ≡ the_end) × (bytes ≡ codes "end")
