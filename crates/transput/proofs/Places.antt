-- Values by their places.
use Rattle.std.proofs.Common.{◌≡◌, ℕ, zero, suc, ◌+◌, ◌<◌, ◌≤◌, List, [], ◌∷◌, length, take, drop, get_or, set, refl, ap, sym, ◌∙◌}
use Rattle.std.proofs.Common.{arith}
use Rattle.std.proofs.lemmas.List.{take-take, drop-take}
use Rattle.eden_value.specs.Datum.{Datum, cap}
use Rattle.eden_value.specs.Code.{items_of-data_of}
use Rattle.eden_value.specs.View.{datum, datums}
use Rattle.eden_value.specs.declared.value.Value.{Value}
use Rattle.eden_value.specs.declared.value.Value.TheVariants.{List as Listed}
use Rattle.std.specs.Prelude.{None}
use Rattle.epl_syntax.specs.Simple.{items_in, argument}

-- the items of a value of the code that is a list
pub items_are : (v : Value) (ds : List Datum) → v ≡ Listed ds → items_in (datum v) ≡ ds
items_are v ds e = ap (λ w. items_in (datum w)) e ∙ items_of-data_of ds

-- a value of the code by its place
pub argument_is : (vs : List Value) (i : ℕ) (v : Value) → i < length vs → v ≡ get_or vs i v → argument i (datums vs) ≡ datum v
argument_is [] i v h e = absurd (omega arith)
argument_is (x ∷ vs) zero v h e = ap datum (sym e)
argument_is (x ∷ vs) (suc i) v h e = argument_is vs i v (omega arith) e

-- and none behind them
pub argument_none : (vs : List Value) (i : ℕ) → length vs ≤ i → argument i (datums vs) ≡ cap None
argument_none [] i h = refl
argument_none (x ∷ vs) zero h = absurd (omega arith)
argument_none (x ∷ vs) (suc i) h = argument_none vs i (omega arith)

-- the values up to a place that was written
pub take_set : (vs : List Value) (i : ℕ) (v : Value) → take i (set vs i v) ≡ take i vs
take_set [] i v = refl
take_set (x ∷ vs) zero v = refl
take_set (x ∷ vs) (suc i) v = ap (λ ws. x ∷ ws) (take_set vs i v)

-- the values behind the first, up to a place, where those up to a later one are the same
pub middle_same : (n m : ℕ) (xs ys : List Datum) → n + 1 ≤ m → take m xs ≡ take m ys → drop 1 (take (n + 1) xs) ≡ take n (drop 1 ys)
middle_same n m xs ys h e =
    ap (drop 1) (sym (take-take (n + 1) m xs h) ∙ ap (take (n + 1)) e ∙ take-take (n + 1) m ys h)
    ∙ ap (λ k. drop 1 (take k ys)) (omega arith) ∙ drop-take 1 n ys
