-- Lists of entries by number: what is written, put in and taken out at the place of a number.
use Rattle.std.proofs.Common.{◌≡◌, ◌≤◌, ◌<◌, ℕ, zero, suc, ◌==◌, Bool, true, false, cond, not, List, [], ◌∷◌, length}
use Rattle.std.proofs.Common.{Some, get_or, refl, sym, ◌∙◌, ap, arith}
use Rattle.std.specs.Prelude.{◌||◌, slice_set}
use Rattle.std.proofs.lemmas.Bool.Decides.{nat_tests}
use Rattle.std.specs.List.{filter, insert, list_any}
use Rattle.std.specs.Ordering.{nat_cmp}
use Rattle.std.specs.declared.cmp.Ordering.{Ordering}
use Rattle.std.specs.declared.cmp.Ordering.TheVariants.{Less, Equal, Greater}
use Rattle.std.specs.FinMap.Entries.{by_order}
use Rattle.eden_model.specs.Map.{value_at, put_at, changed_at, each_value, where_key, with_item}
use Rattle.active_part.specs.Places.{StandsAt}

is-less : (a b : ℕ) → a < b → nat_cmp a b ≡ Less
is-less a b h = grind (arith, nat_tests)

is-equal : (a b : ℕ) → b ≡ a → nat_cmp a b ≡ Equal
is-equal a b h = grind (arith, nat_tests)

is-greater : (a b : ℕ) → b < a → nat_cmp a b ≡ Greater
is-greater a b h = grind (arith, nat_tests)

module _ {X Y : Type 0} (f : X → Y) where
  later : (p i : ℕ) (e : ℕ × X) (es : List (ℕ × X)) → StandsAt p (suc i) (e ∷ es) → StandsAt p i es
  later p i e es h = record {
    within = let w : suc i < suc (length es) = h.within in omega arith;
    before = λ k d below. h.before (suc k) d (omega arith);
    here = λ d. h.here d;
  }

  -- the value that is looked up stands there
  pub found-at : (p i : ℕ) (e : ℕ × X) (es : List (ℕ × X)) → StandsAt p i es → e ≡ get_or es i e
      → value_at nat_cmp p (each_value f es) ≡ Some (f e.1)
  found-at p i e [] h is = absurd (let w : i < 0 = h.within in omega arith)
  found-at p zero e (x ∷ es) h is = rw (is-equal p x.0 (h.here e)) (ap (λ (y : ℕ × X). Some (f y.1)) (sym is))
  found-at p (suc i) e (x ∷ es) h is = rw (is-greater p x.0 (h.before 0 e (omega arith))) (found-at p i e es (later p i x es h) is)

  put-at : (p i : ℕ) (x : ℕ × X) (es : List (ℕ × X)) → StandsAt p i es → x.0 ≡ p
      → each_value f (slice_set es i x) ≡ put_at nat_cmp p (f x.1) (each_value f es)
  put-at p i x [] h is = absurd (let w : i < 0 = h.within in omega arith)
  put-at p zero x (e ∷ es) h is = let same : x.0 ≡ e.0 = is ∙ sym (h.here e) in
      rw (is-equal p e.0 (h.here e)) (ap (λ k. (k, f x.1) ∷ each_value f es) same)
  put-at p (suc i) x (e ∷ es) h is = rw (is-greater p e.0 (h.before 0 e (omega arith)))
      (ap (λ l. (e.0, f e.1) ∷ l) (put-at p i x es (later p i e es h) is))

  -- a value that is written there
  pub written-at : (p i : ℕ) (g : Y → Y) (e : ℕ × X) (w : X) (es new : List (ℕ × X)) → StandsAt p i es → e ≡ get_or es i e
      → new ≡ slice_set es i (e.0, w) → f w ≡ g (f e.1) → each_value f new ≡ changed_at nat_cmp p g (each_value f es)
  written-at p i g e w es new h is set same =
      let number : e.0 ≡ p = ap (λ (x : ℕ × X). x.0) is ∙ h.here e in
      ap (each_value f) set ∙ put-at p i (e.0, w) es h number ∙ ap (λ y. put_at nat_cmp p y (each_value f es)) same
      ∙ sym (ap (λ o. with_item o (λ y. put_at nat_cmp p (g y) (each_value f es)) (each_value f es)) (found-at p i e es h is))

  pub inserted-at : (p i : ℕ) (v : X) (es : List (ℕ × X)) → i ≤ length es
      → ((k : ℕ) (d : ℕ × X) → k < i → (get_or es k d).0 < p) → ((d : ℕ × X) → i < length es → p ≤ (get_or es i d).0)
      → list_any (λ e. e.0 == p) es ≡ false → each_value f (insert es i (p, v)) ≡ put_at nat_cmp p (f v) (each_value f es)
  inserted-at p zero v [] within before behind none = refl
  inserted-at p (suc i) v [] within before behind none = absurd (omega arith)
  inserted-at p zero v (e ∷ es) within before behind none = go (e.0 == p) refl none
    where
      go : (b : Bool) → (e.0 == p) ≡ b → (b || list_any (λ x. x.0 == p) es) ≡ false
          → (p, f v) ∷ each_value f (e ∷ es) ≡ put_at nat_cmp p (f v) (each_value f (e ∷ es))
      go true is n = absurd (let bad : true ≡ false = n in cc)
      go false is n = let below : p < e.0 = let most = behind e (omega arith) in grind (arith, nat_tests, is, most) in
          rw (is-less p e.0 below) refl
  inserted-at p (suc i) v (e ∷ es) within before behind none = go (e.0 == p) none
      (inserted-at p i v es (omega arith) (λ k d below. before (suc k) d (omega arith)) (λ d below. behind d (omega arith)))
    where
      go : (b : Bool) → (b || list_any (λ x. x.0 == p) es) ≡ false
          → (list_any (λ x. x.0 == p) es ≡ false → each_value f (insert es i (p, v)) ≡ put_at nat_cmp p (f v) (each_value f es))
          → (e.0, f e.1) ∷ each_value f (insert es i (p, v)) ≡ put_at nat_cmp p (f v) (each_value f (e ∷ es))
      go true n h = absurd (let bad : true ≡ false = n in cc)
      go false n h = rw (is-greater p e.0 (before 0 e (omega arith))) (ap (λ l. (e.0, f e.1) ∷ l) (h n))

  -- no entry has the number
  none-where : (p : ℕ) (es : List (ℕ × X)) → list_any (λ e. e.0 == p) es ≡ false
      → where_key nat_cmp (λ k. not (k == p)) (each_value f es) ≡ each_value f es
  none-where p [] none = refl
  none-where p (e ∷ es) none = go (e.0 == p) none (none-where p es)
    where
      go : (b : Bool) → (b || list_any (λ x. x.0 == p) es) ≡ false
          → (list_any (λ x. x.0 == p) es ≡ false → where_key nat_cmp (λ k. not (k == p)) (each_value f es) ≡ each_value f es)
          → cond (not b) ((e.0, f e.1) ∷ where_key nat_cmp (λ k. not (k == p)) (each_value f es))
          (where_key nat_cmp (λ k. not (k == p)) (each_value f es)) ≡ (e.0, f e.1) ∷ each_value f es
      go true n h = absurd (let bad : true ≡ false = n in cc)
      go false n h = ap (λ l. (e.0, f e.1) ∷ l) (h n)

  -- the others are kept
  pub kept-where : (p : ℕ) (es : List (ℕ × X))
      → each_value f (filter (λ e. not (e.0 == p)) es) ≡ where_key nat_cmp (λ k. not (k == p)) (each_value f es)
  kept-where p [] = refl
  kept-where p (e ∷ es) = go (e.0 == p) (kept-where p es)
    where
      go : (b : Bool)
          → each_value f (filter (λ x. not (x.0 == p)) es) ≡ where_key nat_cmp (λ k. not (k == p)) (each_value f es)
          → each_value f (cond (not b) (e ∷ filter (λ x. not (x.0 == p)) es) (filter (λ x. not (x.0 == p)) es))
          ≡ cond (not b) ((e.0, f e.1) ∷ where_key nat_cmp (λ k. not (k == p)) (each_value f es))
          (where_key nat_cmp (λ k. not (k == p)) (each_value f es))
      go true h = h
      go false h = ap (λ l. (e.0, f e.1) ∷ l) h

  self-number : (p : ℕ) → (p == p) ≡ true
  self-number p = grind (arith, nat_tests)

  -- an entry that was put and taken out again
  where-put : (p : ℕ) (y : Y) (ys : List (ℕ × Y)) → where_key nat_cmp (λ k. not (k == p)) (put_at nat_cmp p y ys)
      ≡ where_key nat_cmp (λ k. not (k == p)) ys
  where-put p y [] = rw (self-number p) refl
  where-put p y (e ∷ ys) = go (nat_cmp p e.0) refl (where-put p y ys)
    where
      go : (o : Ordering) → nat_cmp p e.0 ≡ o
          → where_key nat_cmp (λ k. not (k == p)) (put_at nat_cmp p y ys) ≡ where_key nat_cmp (λ k. not (k == p)) ys
          → where_key nat_cmp (λ k. not (k == p)) (by_order o ((p, y) ∷ e ∷ ys) ((e.0, y) ∷ ys) (e ∷ put_at nat_cmp p y ys))
          ≡ where_key nat_cmp (λ k. not (k == p)) (e ∷ ys)
      go Less is h = rw (self-number p) refl
      go Equal is h = let same : (e.0 == p) ≡ true = grind (arith, nat_tests, is) in rw same refl
      go Greater is h = ap (λ l. cond (not (e.0 == p)) (e ∷ l) l) h

  pub put-others : (p : ℕ) (v : X) (es new : List (ℕ × X)) → each_value f new ≡ put_at nat_cmp p (f v) (each_value f es)
      → list_any (λ e. e.0 == p) es ≡ false → where_key nat_cmp (λ k. not (k == p)) (each_value f new) ≡ each_value f es
  put-others p v es new put none =
      ap (where_key nat_cmp (λ k. not (k == p))) put ∙ where-put p (f v) (each_value f es) ∙ none-where p es none
