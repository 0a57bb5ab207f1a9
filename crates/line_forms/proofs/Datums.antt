-- A value alone, by what is promised of its reading.
use Rattle.std.proofs.Common.{◌≡◌, ◌∙◌, ap, refl, ℕ, List, Some, None, Ok, Err}
use Rattle.eden_value.specs.Datum.{Datum}
use Rattle.eden_value.specs.View.{datum}
use Rattle.eden_value.specs.declared.value.Value.{Value as CodeValue}
use Rattle.script_words.specs.Tree.{WrittenArg}
use Rattle.script_words.specs.Alone.{as_written, Fits, SpellsDatum, IsReading}
use Rattle.script_words.specs.View.{value_in}
use Rattle.script_words.specs.Reading.{Judged, ◌>>=◌, read_alone, in_range}
use Rattle.script_words.specs.Reading as words
use Rattle.script_words.specs.declared.cause.ScriptCause.{ScriptCause}
use Rattle.script_words.specs.declared.cause.ScriptCause.TheVariants.{BadForm, BadNumber}
use Rattle.script_words.proofs.ValueLaws.{Fitting}
use Rattle.script_words.proofs.Lone.{Says, alone_says, found_again, value_back}
use Rattle.line_forms.specs.Reading.{read_datum}

read_by : (found : words.Maybe) (d : Datum) → Fitting found (as_written d) → Fits d
    → (in_range found >>= λ g. Ok (value_in g)) ≡ Ok d
read_by None d f fit = absurd (f fit)
read_by (Some g) d f fit = ap (λ (d : Datum). Ok d) (ap value_in f.0 ∙ value_back d)

pub datum_read : (bytes : List ℕ) (v : CodeValue) → IsReading bytes (Ok v) → read_datum bytes ≡ Ok (datum v)
datum_read bytes v h =
    let a = found_again bytes (datum v) h.0 in
    ap (λ (r : Judged WrittenArg). r >>= λ g. Ok (value_in g)) a.read ∙ read_by a.found (datum v) a.fitting h.1

refused_form : (bytes : List ℕ) (r : Judged WrittenArg) → Says bytes r → ((d : Datum) → SpellsDatum bytes d → ⊥)
    → (r >>= λ g. Ok (value_in g)) ≡ Err BadForm
refused_form bytes (Ok g) says h = absurd (h (value_in g) says.0)
refused_form bytes (Err BadForm) says h = refl
refused_form bytes (Err BadNumber) says h = absurd (h says.0.0 says.0.1)
refused_form bytes (Err _) says h = absurd says

refused_number : (bytes : List ℕ) (r : Judged WrittenArg) → Says bytes r → (d : Datum) → SpellsDatum bytes d
    → ((d : Datum) → SpellsDatum bytes d → Fits d → ⊥) → (r >>= λ g. Ok (value_in g)) ≡ Err BadNumber
refused_number bytes (Ok g) says d s h = absurd (h (value_in g) says.0 says.1)
refused_number bytes (Err BadForm) says d s h = absurd (says d s)
refused_number bytes (Err BadNumber) says d s h = refl
refused_number bytes (Err _) says d s h = absurd says

pub datum_refused : (bytes : List ℕ) (c : ScriptCause) → IsReading bytes (Err c) → read_datum bytes ≡ Err c
datum_refused bytes BadForm h = refused_form bytes (read_alone bytes) (alone_says bytes) h
datum_refused bytes BadNumber h = refused_number bytes (read_alone bytes) (alone_says bytes) h.0.0 h.0.1 h.1
datum_refused bytes _ h = absurd h
