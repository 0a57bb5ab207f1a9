-- A result by its number, counted from 1.
use Rattle.std.proofs.Common.{◌≡◌, ℕ, zero, suc, ◌-◌, List, Option, slice_get, refl, sym, ap, ◌∙◌, arith}
use Rattle.std.specs.Option.{option_map}
use Rattle.std.proofs.lemmas.Option.{slice_get-map}
use Rattle.eden_value.specs.View.{datum, datums}
use Rattle.eden_value.specs.declared.value.Value.{Value}
use Rattle.journal.specs.World.{results}
use Rattle.journal.specs.References.{value_of_meaning}

pub result-is : (vs : List Value) (k : ℕ) (o : Option Value) → (k ≡ 0 → ⊥) → o ≡ slice_get vs (k - 1)
    → option_map datum o ≡ value_of_meaning (results (datums vs)) k
result-is vs zero o above is = absurd (above refl)
result-is vs (suc k) o above is =
    let less : suc k - 1 ≡ k = omega arith in
    ap (option_map datum) (is ∙ ap (slice_get vs) less) ∙ sym (slice_get-map datum vs k)
