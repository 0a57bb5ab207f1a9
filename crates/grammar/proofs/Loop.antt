-- Reading values one behind another, as a loop does.
use Rattle.std.specs.Prelude.{◌≡◌, ℕ, suc, ◌-◌, ◌+◌, ◌≤◌, ◌<◌, List, [], ◌∷◌, ◌++◌, Ok, Err, refl}
use Rattle.std.proofs.Common.{sym, ap, ◌∙◌, append_assoc, arith, append-nil}
use Rattle.grammar.specs.declared.stop.Stop.{Stop}
use Rattle.grammar.specs.declared.stop.Stop.TheVariants.{Memory, At}
use Rattle.grammar.specs.Gives.{Fails}
use Rattle.grammar.specs.Reading.{Reading, Reader, read_then, times}

-- what was read before, and what is still read
abbrev pub with_front : {S A : Type 0} → List A → Reading S (List A) → Reading S (List A)
with_front front (Ok x) = Ok (front ++ x.0, x.1)
with_front front (Err left) = Err left

module _ {S A : Type 0} (R : Reader S A) where
  regroup : (front : List A) (a : A) (read : Reading S (List A))
      → with_front front (read_then read (λ more after. Ok (a ∷ more, after))) ≡ with_front (front ++ a ∷ []) read
  regroup front a (Ok x) = ap (λ (xs : List A). Ok (xs, x.1)) (sym (append_assoc front (a ∷ []) x.0))
  regroup front a (Err left) = refl

  step : (count i : ℕ) (symbols : List S) → i < count
      → times (count - i) R symbols ≡ read_then (R symbols)
      (λ a rest. read_then (times (count - (i + 1)) R rest) (λ more after. Ok (a ∷ more, after)))
  step count i symbols lt = let k : count - i ≡ suc (count - (i + 1)) = omega arith in ap (λ n. times n R symbols) k

  pub goes_on : (front : List A) (count i : ℕ) (symbols : List S) (a : A) (after : List S) (total : Reading S (List A)) → i < count
      → R symbols ≡ Ok (a, after)
      → with_front front (times (count - i) R symbols) ≡ total → with_front (front ++ a ∷ []) (times (count - (i + 1)) R after) ≡ total
  goes_on front count i symbols a after total lt h so_far =
      sym (ap (with_front front) (step count i symbols lt ∙ ap
      (λ r. read_then r (λ b rest. read_then (times (count - (i + 1)) R rest) (λ more after. Ok (b ∷ more, after)))) h)
      ∙ regroup front a (times (count - (i + 1)) R after))
      ∙ so_far

  pub ends : (e : Stop) (front : List A) (count i : ℕ) (symbols : List S) (total : Reading S (List A)) → i < count → Fails e (R symbols)
      → with_front front (times (count - i) R symbols) ≡ total → Fails e total
  ends Memory front count i symbols total lt h so_far = tt
  ends (At left) front count i symbols total lt h so_far =
      sym so_far ∙ ap (with_front front) (step count i symbols lt ∙ ap
      (λ r. read_then r (λ b rest. read_then (times (count - (i + 1)) R rest) (λ more after. Ok (b ∷ more, after)))) h)

  pub is_done : (front : List A) (count i : ℕ) (symbols : List S) (total : Reading S (List A)) → count ≤ i
      → with_front front (times (count - i) R symbols) ≡ total → total ≡ Ok (front, symbols)
  is_done front count i symbols total le so_far =
      let k : count - i ≡ 0 = omega arith in
      sym so_far ∙ ap (λ n. with_front front (times n R symbols)) k ∙ ap (λ (xs : List A). Ok (xs, symbols)) (append-nil front)
