-- What a look-up finds after a change.
use Rattle.std.proofs.Common.{◌≡◌, Bool, true, false, cond, List, [], ◌∷◌, Option, None, Some, refl, ap, ◌∙◌}
use Rattle.std.specs.declared.cmp.Ordering.{Ordering}
use Rattle.std.specs.declared.cmp.Ordering.TheVariants.{Less, Equal, Greater}
use Rattle.std.specs.Ordering.{eq_by_cmp, is_eq}
use Rattle.std.specs.Cmp.{IsTotalOrder}
use Rattle.std.proofs.lemmas.Cmp.{tied_itself}
use Rattle.std.specs.Option.{option_map}
use Rattle.std.specs.FinMap.{IsAntisymmetric}
use Rattle.std.specs.FinMap.Entries.{find-put}
use Rattle.eden_model.specs.Map.{value_at, put_at, changed_at, with_item}

pub eq-same : {K : Type 0} (R : K → K → Ordering) → IsAntisymmetric R → (q k : K) → eq_by_cmp R q k ≡ true → q ≡ k
eq-same R same q k e = go (R q k) refl e
  where
    go : (o : Ordering) → R q k ≡ o → is_eq o ≡ true → q ≡ k
    go Less is e = cc
    go Equal is e = same q k is
    go Greater is e = cc

-- a change of the value at a key
pub value-changed : {K X : Type 0} (R : K → K → Ordering) → IsTotalOrder R → IsAntisymmetric R → (q k : K) (f : X → X) (es : List (K × X))
    → value_at R q (changed_at R k f es) ≡ cond (eq_by_cmp R q k) (option_map f (value_at R q es)) (value_at R q es)
value-changed {X = X} R total same q k f es = go (value_at R k es) refl (eq_by_cmp R q k) refl
  where
    go : (o : Option X) → value_at R k es ≡ o → (b : Bool) → eq_by_cmp R q k ≡ b
        → value_at R q (with_item (value_at R k es) (λ x. put_at R k (f x) es) es) ≡ cond (eq_by_cmp R q k)
        (option_map f (value_at R q es)) (value_at R q es)
    go None is true b = rw (is, b) (let e : q ≡ k = eq-same R same q k b in rw (e, is) refl)
    go None is false b = rw (is, b) refl
    go (Some x) is true b = rw (is, find-put R total q k (f x) es, b) (let e : q ≡ k = eq-same R same q k b in rw (e, is) refl)
    go (Some x) is false b = rw (is, find-put R total q k (f x) es, b) refl

-- at one key, and at another
pub value-changed_same : {K X : Type 0} (R : K → K → Ordering) → IsTotalOrder R → IsAntisymmetric R
    → (k : K) (f : X → X) (es : List (K × X))
    → value_at R k (changed_at R k f es) ≡ option_map f (value_at R k es)
value-changed_same R total same k f es = value-changed R total same k k f es ∙ rw (tied_itself total k) refl

pub value-changed_other : {K X : Type 0} (R : K → K → Ordering) → IsTotalOrder R → IsAntisymmetric R
    → (q k : K) (f : X → X) (es : List (K × X)) → eq_by_cmp R q k ≡ false
    → value_at R q (changed_at R k f es) ≡ value_at R q es
value-changed_other R total same q k f es other = value-changed R total same q k f es ∙ rw other refl

-- a change, and a change of what it left
pub put-put : {K X : Type 0} (R : K → K → Ordering) → IsTotalOrder R → (k : K) (a b : X) (es : List (K × X))
    → put_at R k b (put_at R k a es) ≡ put_at R k b es
put-put R total k a b [] = rw (tied_itself total k) refl
put-put {X = X} R total k a b (e ∷ es) = go (put-put R total k a b es) (R k e.0) refl
  where
    go : put_at R k b (put_at R k a es) ≡ put_at R k b es → (o : Ordering) → R k e.0 ≡ o
        → put_at R k b (put_at R k a (e ∷ es)) ≡ put_at R k b (e ∷ es)
    go later Less is = rw (is, tied_itself total k) refl
    go later Equal is = rw is (rw is refl)
    go later Greater is = rw is (rw is (ap (λ l. e ∷ l) later))

pub changed-changed : {K X : Type 0} (R : K → K → Ordering) → IsTotalOrder R → (k : K) (f g : X → X) (es : List (K × X))
    → changed_at R k g (changed_at R k f es) ≡ changed_at R k (λ x. g (f x)) es
changed-changed {X = X} R total k f g es = go (value_at R k es) refl
  where
    go : (o : Option X) → value_at R k es ≡ o → changed_at R k g (changed_at R k f es) ≡ changed_at R k (λ x. g (f x)) es
    go None is = rw is (rw is refl)
    go (Some x) is = rw (is, find-put R total k k (f x) es, tied_itself total k) (put-put R total k (f x) (g (f x)) es)
