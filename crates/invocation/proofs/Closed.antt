-- Items that are read by their numbers.
use Rattle.std.proofs.Common.{◌≡◌, ◌≤◌, ◌<◌, ℕ, zero, suc, ◌+◌, ◌-◌, Bool, false, cond, List, [], ◌∷◌, ◌++◌, take, length, Some, refl, sym}
use Rattle.std.proofs.Common.{◌∙◌, ap, arith}
use Rattle.std.specs.List.{filter}
use Rattle.std.proofs.lemmas.List.{take_more}
use Rattle.std.proofs.lemmas.List.Elements.{filter-append}
use Rattle.eden_model.specs.Map.{with_item}
use Rattle.invocation.specs.Numbers.{item_in, passes_at}
use Rattle.std.specs.Prelude.{slice_get}
use Rattle.std.proofs.lemmas.Option.{slice_get-get_or}
use Rattle.std.proofs.Common.{get_or}

pub read-at : {X : Type 0} (xs : List X) (i : ℕ) (x : X) → i < length xs → x ≡ get_or xs i x → slice_get xs i ≡ Some x
read-at xs i x h is = slice_get-get_or xs i x h ∙ ap Some (sym is)

-- the one of a number passes where the item there does
pub pass-is : {X : Type 0} (test : X → Bool) (xs : List X) (k : ℕ) (x : X) → 1 ≤ k → k ≤ length xs → x ≡ get_or xs (k - 1) x
    → passes_at test xs k ≡ test x
pass-is test xs zero x from to is = absurd (omega (arith, from))
pass-is test xs (suc k) x from to is =
    let e : suc k - 1 ≡ k = omega arith in
    ap (λ o. with_item o test false) (read-at xs k x (omega (arith, to)) (is ∙ ap (λ i. get_or xs i x) e))

-- a loop that looks at one more number
pub more-found : (t : ℕ → Bool) (ks : List ℕ) (i : ℕ) (b : Bool) → i < length ks → t (get_or ks i 0) ≡ b
    → filter t (take (i + 1) ks) ≡ filter t (take i ks) ++ cond b (get_or ks i 0 ∷ []) []
more-found t ks i b h is = ap (filter t) (take_more ks i 0 h) ∙ filter-append t (take i ks) (get_or ks i 0 ∷ []) ∙ rw is refl

pub item-read : {X : Type 0} (xs : List X) (k : ℕ) (x : X) → 1 ≤ k → k ≤ length xs → x ≡ get_or xs (k - 1) x → item_in k xs ≡ Some x
item-read xs zero x from to is = absurd (omega (arith, from))
item-read xs (suc k) x from to is =
    let e : suc k - 1 ≡ k = omega arith in
    read-at xs k x (omega (arith, to)) (is ∙ ap (λ i. get_or xs i x) e)
