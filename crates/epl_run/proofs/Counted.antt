-- Numbers of monitors and conditions.
use Rattle.std.proofs.Common.{◌≡◌, ℕ, suc, ◌+◌, ◌<◌, Bool, true, false, cond, List, [], ◌∷◌, map, length, Some}
use Rattle.std.proofs.Common.{refl, ap, ◌∙◌, arith}
use Rattle.std.specs.List.{position, position_from}
use Rattle.std.proofs.lemmas.Iterator.Adapters.{position_from-zero}
use Rattle.eden_model.specs.Map.{with_item, same_text}
use Rattle.epl_syntax.specs.declared.tree.Name.{Name}
use Rattle.epl_syntax.specs.declared.tree.CondDecl.{CondDecl}
use Rattle.epl_syntax.specs.Bindings.{place_of}

pub place_within : (t : Name → Bool) (ns : List Name) (n i : ℕ) → position_from t n ns ≡ Some i → i < n + length ns
place_within t [] n i h = absurd cc
place_within t (m ∷ ns) n i h = by (t m) h (place_within t ns (n + 1) i)
  where
    by : (b : Bool) → cond b (Some n) (position_from t (n + 1) ns) ≡ Some i
        → (position_from t (n + 1) ns ≡ Some i → i < n + 1 + length ns) → i < n + suc (length ns)
    by true h k = let e : n ≡ i = cc in omega (arith, e)
    by false h k = omega (arith, k h)

pub same_position : {X : Type 0} (f : X → Name) (t : Name → Bool) (xs : List X) (n : ℕ)
    → position_from (λ x. t (f x)) n xs ≡ position_from t n (map f xs)
same_position f t [] n = refl
same_position f t (x ∷ xs) n = ap (cond (t (f x)) (Some n)) (same_position f t xs (n + 1))

pub monitor_is : (ns : List Name) (text : List ℕ)
    → with_item (position (λ m. same_text m.text text) ns) (λ i. i + 1) 0 ≡ with_item (place_of (map (λ n. n) ns) text) (λ i. i + 1) 0
monitor_is ns text =
    ap (λ o. with_item o (λ i. i + 1) 0)
    (position_from-zero (λ m. same_text m.text text) ns ∙ same_position (λ n. n) (λ m. same_text m.text text) ns 0)

pub condition_is : (cs : List CondDecl) (text : List ℕ)
    → with_item (position (λ c. same_text c.name.text text) cs) (λ i. i) 0 ≡ with_item (place_of (map (λ c. c.name) cs) text) (λ i. i) 0
condition_is cs text =
    ap (λ o. with_item o (λ i. i) 0)
    (position_from-zero (λ c. same_text c.name.text text) cs ∙ same_position (λ c. c.name) (λ m. same_text m.text text) cs 0)

length_map : {Y : Type 0} (f : Y → Name) (ys : List Y) → length (map f ys) ≡ length ys
length_map f [] = refl
length_map f (y ∷ ys) = ap suc (length_map f ys)

-- a place is within its list
pub place_in : {X : Type 0} (f : X → Name) (xs : List X) (text : List ℕ) (i : ℕ) → place_of (map f xs) text ≡ Some i → i < length xs
place_in f xs text i h = let w = place_within (λ m. same_text m.text text) (map f xs) 0 i h in omega (arith, w, length_map f xs)
