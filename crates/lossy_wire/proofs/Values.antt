-- Rows and values that are read again.
use Rattle.std.proofs.Common.{◌≡◌, ◌∙◌, ap, sym, refl, subst, ℕ, List}
use Rattle.eden_value.specs.Datum.{Datum}
use Rattle.eden_value.specs.View as value
use Rattle.eden_value.specs.declared.value.Value.{Value}
use Rattle.line_forms.specs.Forms.{Kind, Last, datum, Row}
use Rattle.line_forms.specs.Spots.{IsRowAt}
use Rattle.line_forms.specs.View.{last_of, row_of}
use Rattle.line_forms.specs.declared.form.Last.{Last as CodeLast}
use Rattle.line_forms.specs.declared.form.Last.TheVariants as code
use Rattle.line_forms.specs.declared.form.Row.{Row as CodeRow}
use Rattle.lossy_wire.specs.Commands.{wire_kind}

-- the row that is read again is the one that stands there
pub row_read : (k : Kind) → k ≡ wire_kind → (bytes : List ℕ) (most spot : ℕ) (q : Row)
    → ((r : Row) → IsRowAt k bytes most spot r → r ≡ q) → (r : Row) → IsRowAt wire_kind bytes most spot r → r ≡ q
row_read k same bytes most spot q h =
    subst (λ (k : Kind). (r : Row) → IsRowAt k bytes most spot r → r ≡ q) same h

abbrev datum_or : Datum → Last → Datum
datum_or z (datum d) = d
datum_or z _ = z

pub value_here : (row : CodeRow) (v : Value) (r : Row) (d : Datum) → row.last ≡ code.Datum v → r ≡ row_of row → r.last ≡ datum d
    → value.datum v ≡ d
value_here row v r d is same h =
    ap (datum_or d) (sym (ap last_of is) ∙ sym (ap (λ (r : Row). r.last) same) ∙ h)

value_in : (l : CodeLast) (d : Datum) → last_of l ≡ datum d → (v : Value) × (l ≡ code.Datum v)
value_in code.Nothing d h = absurd cc
value_in (code.Datum v) d h = (v, refl)
value_in (code.Text t) d h = absurd cc
value_in (code.Mode how) d h = absurd cc

pub value_missing : (row : CodeRow) (r : Row) (d : Datum) → ((v : Value) → row.last ≡ code.Datum v → ⊥) → r ≡ row_of row
    → r.last ≡ datum d → ⊥
value_missing row r d not same h =
    let v = value_in row.last d (sym (ap (λ (r : Row). r.last) same) ∙ h) in not v.0 v.1
