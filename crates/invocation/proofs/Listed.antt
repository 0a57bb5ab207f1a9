-- Lists of numbers by their places, as one of them changes.
use Rattle.std.proofs.Common.{◌≡◌, ◌≢◌, ◌<◌, ℕ, zero, suc, List, [], ◌∷◌, ◌++◌, length, get_or, Some, refl, ap, arith}
use Rattle.std.specs.Prelude.{slice_get, slice_set, Vec, vec_len, vec_capacity}
use Rattle.std.specs.declared.alloc.Global.{Global}
use Rattle.eden_model.specs.Map.{with_item}
use Rattle.invocation.specs.Listed.{Lists, numbers_at, HasRoom}
use Rattle.invocation.proofs.Closed.{read-at}

pub set-same : {X : Type 0} (xs : List X) (i : ℕ) (y : X) → i < length xs → slice_get (slice_set xs i y) i ≡ Some y
set-same [] i y less = absurd (omega (arith, less))
set-same (x ∷ xs) zero y less = refl
set-same (x ∷ xs) (suc i) y less = set-same xs i y (omega (arith, less))

pub set-other : {X : Type 0} (xs : List X) (i p : ℕ) (y : X) → p ≢ i → slice_get (slice_set xs i y) p ≡ slice_get xs p
set-other [] i p y apart = refl
set-other (x ∷ xs) zero zero y apart = absurd (apart refl)
set-other (x ∷ xs) zero (suc p) y apart = refl
set-other (x ∷ xs) (suc i) zero y apart = refl
set-other (x ∷ xs) (suc i) (suc p) y apart = set-other xs i p y (λ same. apart (ap suc same))

module _ (lists : Lists) (i : ℕ) (old new : Vec ℕ Global) (within : i < length lists) (is : old ≡ get_or lists i old) where
  -- the list at the place
  pub there : slice_get lists i ≡ Some old
  there = read-at lists i old within is

  pub numbers-there : numbers_at i lists ≡ old.items
  numbers-there = ap (λ o. with_item o (λ v. v.items) []) there

  pub numbers-now : numbers_at i (slice_set lists i new) ≡ new.items
  numbers-now = ap (λ o. with_item o (λ v. v.items) []) (set-same lists i new within)

  pub numbers-other : (p : ℕ) → p ≢ i → numbers_at p (slice_set lists i new) ≡ numbers_at p lists
  numbers-other p apart = ap (λ o. with_item o (λ v. v.items) []) (set-other lists i p new apart)

  pub room-there : HasRoom i lists → vec_len old < vec_capacity old
  room-there h = rw there at h

  pub room-now : vec_len new < vec_capacity new → HasRoom i (slice_set lists i new)
  room-now h = rw (set-same lists i new within) h

  pub room-other : (p : ℕ) → p ≢ i → HasRoom p lists → HasRoom p (slice_set lists i new)
  room-other p apart h = rw (set-other lists i p new apart) h

-- one more list without numbers
pub none-more : (lists : Lists) (v : Vec ℕ Global) → v.items ≡ [] → ((p : ℕ) → numbers_at p lists ≡ []) → (p : ℕ)
    → numbers_at p (lists ++ v ∷ []) ≡ []
none-more [] v e none zero = e
none-more [] v e none (suc p) = refl
none-more (x ∷ lists) v e none zero = none 0
none-more (x ∷ lists) v e none (suc p) = none-more lists v e (λ q. none (suc q)) p
