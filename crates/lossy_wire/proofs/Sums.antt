-- The last lines, pair by pair.
use Rattle.std.proofs.Common.{◌≡◌, ◌∙◌, ap, sym, refl, ℕ, suc, ◌+◌, ◌<◌, ◌≤◌, List, [], ◌∷◌, ◌++◌, map, length, drop, drop-cons, append_assoc}
use Rattle.std.proofs.Common.{append-nil, drop_of_length-le, add-one}
use Rattle.lossy_wire.specs.Held.{Held, fresh, held, Keeps}
use Rattle.lossy_wire.specs.Sums.{held_in, held_sum, held_sums}
use Rattle.lossy_wire.specs.Texts.{sum_of, sums}
use Rattle.lossy_wire.specs.Wire.{Wire}

pub sums_step : (out now base : List ℕ) (k : ℕ) (es : List Held) → k < length es → now ≡ out ++ held_sum k (held_in es k)
    → out ++ held_sums k (drop k es) ≡ base → now ++ held_sums (k + 1) (drop (k + 1) es) ≡ base
sums_step out now base k es within same so_far =
    ap (λ (j : ℕ). now ++ held_sums j (drop j es)) (add-one k)
    ∙ ap (λ (l : List ℕ). l ++ held_sums (suc k) (drop (suc k) es)) same
    ∙ append_assoc out (held_sum k (held_in es k)) (held_sums (suc k) (drop (suc k) es))
    ∙ ap (λ (hs : List Held). out ++ held_sums k hs) (sym (drop-cons es k fresh within)) ∙ so_far

pub sums_end : (out base : List ℕ) (k : ℕ) (es : List Held) → length es ≤ k → out ++ held_sums k (drop k es) ≡ base → out ≡ base
sums_end out base k es past so_far =
    sym (append-nil out) ∙ ap (λ (hs : List Held). out ++ held_sums k hs) (sym (drop_of_length-le es past)) ∙ so_far

sums_by : (k : ℕ) (w : Wire) → held_sums k (map held w) ≡ sums k w
sums_by k [] = refl
sums_by k (p ∷ w) = ap (λ (l : List ℕ). sum_of k p ++ l) (sums_by (suc k) w)

pub sums_same : (es : List Held) (w : Wire) → Keeps es w → held_sums 0 es ≡ sums 0 w
sums_same es w k = ap (held_sums 0) k ∙ sums_by 0 w
