-- The first entry that a range keeps is the first whose key passes.
use Rattle.std.proofs.Common.{◌≡◌, Bool, true, false, cond, List, [], ◌∷◌, Some, refl, map}
use Rattle.std.specs.List.{filter, find}
use Rattle.capability.specs.declared.Uid.{Uid}
use Rattle.eden_model.specs.Map.{first}

pub first-kept : (q : Uid → Bool) (p : Uid × Bool → Bool) → ((e : Uid × Bool) → p e ≡ q e.0) → (es : List (Uid × Bool))
    → first (map (λ e. e.0) (filter p es)) ≡ find q (map (λ e. e.0) es)
first-kept q p same [] = refl
first-kept q p same (e ∷ es) = rw (same e) (go (q e.0) (first-kept q p same es))
  where
    go : (b : Bool) → first (map (λ e. e.0) (filter p es)) ≡ find q (map (λ e. e.0) es)
        → first (map (λ e. e.0) (cond b (e ∷ filter p es) (filter p es))) ≡ cond b (Some e.0) (find q (map (λ e. e.0) es))
    go true ih = refl
    go false ih = ih
