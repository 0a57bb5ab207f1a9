use Rattle.std.proofs.Common.{◌≡◌, Bool, true, false, ◌&&◌, List, [], ◌∷◌, length, refl, sym, arith}
use Rattle.eden_value.specs.declared.value.Value.{Value}
use Rattle.eden_value.specs.View.{datum, datums}
use Rattle.eden_value.specs.Shape.{ints, has_shape}
use Rattle.epl_syntax.specs.Kinds.{have_shapes}
use Rattle.history_tests.proofs.checkpoint_tests.are_one_int.Goals as goal

and-false : (b : Bool) → (b && false) ≡ false
and-false true = refl
and-false false = refl

none-else : (vs : List Value) → (length vs ≡ 1 → ⊥) → false ≡ have_shapes (datums vs) (ints ∷ [])
none-else [] other = refl
none-else (v ∷ []) other = absurd (other refl)
none-else (v ∷ w ∷ vs) other = sym (and-false (has_shape (datum v) ints))

pub returns-then-len-ne1 : goal.returns-then-len-ne1
returns-then-len-ne1 c = rw (← c.values.view_is) (none-else c.values.inside.values.items (λ one. omega (arith, one)))
