-- A place among keys that are listed one behind another.
use Rattle.std.proofs.Common.{◌≡◌, ◌<◌, ◌≤◌, ◌-◌, ℕ, zero, suc, List, [], ◌∷◌, ◌++◌, length, Continue, Break, refl, sym, ◌∙◌, ap, arith}
use Rattle.std.specs.declared.ops.ControlFlow.{ControlFlow}
use Rattle.journal.specs.declared.event.Key.{Key}
use Rattle.agenda.specs.Places.{at_place}

-- what is found so far, or else at the place that is left in a further list
abbrev pub then_at : List Key → ControlFlow Key ℕ → ControlFlow Key ℕ
then_at ks (Break k) = Break k
then_at ks (Continue left) = at_place ks left

pub at-append : (xs ys : List Key) (i : ℕ) → at_place (xs ++ ys) i ≡ then_at ys (at_place xs i)
at-append [] ys i = refl
at-append (x ∷ xs) ys zero = refl
at-append (x ∷ xs) ys (suc i) = at-append xs ys i

-- a list behind what was found in one before it
pub at-next : (xs ys : List Key) (i : ℕ) (r : ControlFlow Key ℕ) → r ≡ at_place xs i → at_place (xs ++ ys) i ≡ then_at ys r
at-next xs ys i r is = at-append xs ys i ∙ ap (then_at ys) (sym is)

-- past all keys of a list
pub past-all : (xs : List Key) (i : ℕ) → length xs ≤ i → at_place xs i ≡ Continue (i - length xs)
past-all [] i le = ap Continue (omega arith)
past-all (x ∷ xs) zero le = absurd (omega (arith, le))
past-all (x ∷ xs) (suc i) le = past-all xs i (omega (arith, le)) ∙ ap Continue (omega arith)

-- of a single key
pub first-place : (k : Key) (i : ℕ) → i < 1 → Break k ≡ at_place (k ∷ []) i
first-place k zero le = refl
first-place k (suc i) le = absurd (omega (arith, le))

pub later-place : (k : Key) (i : ℕ) → 1 ≤ i → Continue (i - 1) ≡ at_place (k ∷ []) i
later-place k zero le = absurd (omega (arith, le))
later-place k (suc i) le = ap Continue (omega arith)
