-- Items by their uids: what is found at the place of one, and what a change there comes to.
use Rattle.std.proofs.Common.{◌≡◌, ◌<◌, ◌&&◌, ℕ, zero, suc, Bool, true, false, T, List, [], ◌∷◌, map, None, Some, refl, sym, ◌∙◌}
use Rattle.std.proofs.Common.{◌≤◌, ◌+◌, length, nat_lt, slice_index_or, ap, subst, arith, slice_get, slice_set}
use Rattle.std.proofs.lemmas.Bool.Decides.{nat_tests}
use Rattle.std.proofs.lemmas.Option.{slice_get_read}
use Rattle.std.specs.declared.cmp.Ordering.{Ordering}
use Rattle.std.specs.declared.cmp.Ordering.TheVariants as ordering
use Rattle.std.specs.Ordering.{is_lt, is_eq, ordering_reverse}
use Rattle.std.specs.FinMap.Entries.{is_sorted, below_all, same_entries}
use Rattle.std.specs.FinMap as finite
use Rattle.capability.specs.declared.Uid.{Uid}
use Rattle.capability.proofs.Uids.{uid_cmp_total, uid_cmp-IsAntisymmetric}
use Rattle.eden_model.specs.Map.{value_at, put_at, changed_at, with_item, uid_cmp, same_uid}
use Rattle.plain_stores.specs.Places.{stands_at, IsFirstWith}

-- 1. Orders

equal : (o : Ordering) → is_eq o ≡ true → o ≡ ordering.Equal
equal ordering.Less is = absurd (cc is)
equal ordering.Equal is = refl
equal ordering.Greater is = absurd (cc is)

less : (o : Ordering) → T (is_lt o) → o ≡ ordering.Less
less ordering.Less p = refl
less ordering.Equal p = absurd p
less ordering.Greater p = absurd p

one : (a b : Bool) → T (a && b) → T a
one true b p = tt
one false b p = absurd p

two : (a b : Bool) → T (a && b) → T b
two true b p = p
two false b p = absurd p

-- the uid that stands behind another in an ascending list comes behind it
above : (u v : Uid) → uid_cmp v u ≡ ordering.Less → uid_cmp u v ≡ ordering.Greater
above u v is = uid_cmp_total.antisymm u v ∙ ap ordering_reverse is

-- 2. Where an item stands

module _ {E : Type 0} (uid_of : E → Uid) where
  -- there is an item where one with the uid stands
  pub item-there : (u : Uid) (es : List E) (i : ℕ) (d : E) → stands_at uid_of u es i ≡ true → slice_get es i ≡ Some (slice_index_or es i d)
  item-there u [] i d there = absurd (cc there)
  item-there u (x ∷ es) zero d there = refl
  item-there u (x ∷ es) (suc i) d there = item-there u es i d there

  -- past the end none stands
  pub none-past : (u : Uid) (es : List E) (i : ℕ) → length es ≤ i → stands_at uid_of u es i ≡ false
  none-past u [] i past = refl
  none-past u (x ∷ es) zero past = absurd (omega (arith, past))
  none-past u (x ∷ es) (suc i) past = none-past u es i (omega (arith, past))

  -- whether the item at a place has the uid
  pub stands-by : (u : Uid) (es : List E) (i : ℕ) (e : E) → i < length es → e ≡ slice_index_or es i e
      → stands_at uid_of u es i ≡ same_uid u (uid_of e)
  stands-by u es i e less read = ap (λ o. with_item o (λ x. same_uid u (uid_of x)) false)
      (slice_get_read es (length es) i e refl less read)

  -- no item so far, and not this one
  pub none-more : (u : Uid) (es : List E) (i : ℕ) → ((k : ℕ) → k < i → stands_at uid_of u es k ≡ false)
      → stands_at uid_of u es i ≡ false → (k : ℕ) → k < i + 1 → stands_at uid_of u es k ≡ false
  none-more u es i before this k less = go (nat_lt k i) refl
    where
      go : (b : Bool) → nat_lt k i ≡ b → stands_at uid_of u es k ≡ false
      go true is = before k (grind (arith, nat_tests, is))
      go false is = let same : k ≡ i = let more : i ≤ k = grind (arith, nat_tests, is) in omega (arith, more, less) in
          subst (λ n. stands_at uid_of u es n ≡ false) (sym same) this

  -- none at all
  pub none-all : (u : Uid) (es : List E) (i : ℕ) → length es ≤ i → ((k : ℕ) → k < i → stands_at uid_of u es k ≡ false)
      → (k : ℕ) → stands_at uid_of u es k ≡ false
  none-all u es i past before k = go (nat_lt k i) refl
    where
      go : (b : Bool) → nat_lt k i ≡ b → stands_at uid_of u es k ≡ false
      go true is = before k (grind (arith, nat_tests, is))
      go false is = none-past u es k (let more : i ≤ k = grind (arith, nat_tests, is) in omega (arith, more, past))

-- 3. What is found

module _ {E X : Type 0} (uid_of : E → Uid) (v : E → X) where
  -- the items as a map
  abbrev pub mapped : List E → List (Uid × X)
  mapped es = map (λ e. (uid_of e, v e)) es

  -- nothing is found under a uid that stands nowhere
  pub find-none : (u : Uid) (es : List E) → IsFirstWith uid_of u es None → value_at uid_cmp u (mapped es) ≡ None
  find-none u [] h = refl
  find-none u (e ∷ es) h = rw (h 0) (find-none u es (λ k. h (suc k)))

  -- what is found under a uid stands at its place
  pub find-some : (u : Uid) (es : List E) (i : ℕ) (e : E) → IsFirstWith uid_of u es (Some i) → slice_get es i ≡ Some e
      → value_at uid_cmp u (mapped es) ≡ Some (v e)
  find-some u [] i e h is = absurd (cc is)
  find-some u (x ∷ es) zero e h is = let same : x ≡ e = cc is in rw (h.0) (ap (λ y. Some (v y)) same)
  find-some u (x ∷ es) (suc i) e h is = rw (h.1 0 (omega arith))
      (find-some u es i e (h.0, λ k less. h.1 (suc k) (omega (arith, less))) is)

  -- 4. What is changed

  -- the uid of an item is that under which it is found
  same-there : (u : Uid) (es : List E) (i : ℕ) (e : E) → stands_at uid_of u es i ≡ true → slice_get es i ≡ Some e → u ≡ uid_of e
  same-there u es i e there is = uid_cmp-IsAntisymmetric u (uid_of e)
      (equal (uid_cmp u (uid_of e)) (subst (λ o. with_item o (λ x. same_uid u (uid_of x)) false ≡ true) is there))

  below-there : (w : Uid) (es : List E) (i : ℕ) (e : E) → T (below_all uid_cmp w (mapped es)) → slice_get es i ≡ Some e
      → uid_cmp w (uid_of e) ≡ ordering.Less
  below-there w [] i e below is = absurd (cc is)
  below-there w (x ∷ es) zero e below is = let same : x ≡ e = cc is in
      subst (λ y. uid_cmp w (uid_of y) ≡ ordering.Less) same (less _ (one _ _ below))
  below-there w (x ∷ es) (suc i) e below is = below-there w es i e (two _ _ below) is

  put-tied : (u w : Uid) (x y : X) (es : List (Uid × X)) → uid_cmp u w ≡ ordering.Equal → put_at uid_cmp u y ((w, x) ∷ es) ≡ (w, y) ∷ es
  put-tied u w x y es tied = rw tied refl

  put-past : (u w : Uid) (x y : X) (es : List (Uid × X)) → uid_cmp u w ≡ ordering.Greater
      → put_at uid_cmp u y ((w, x) ∷ es) ≡ (w, x) ∷ put_at uid_cmp u y es
  put-past u w x y es past = rw past refl

  -- another item at the place of a uid
  pub put-there : (u : Uid) (es : List E) (i : ℕ) (e new : E) → T (is_sorted uid_cmp (mapped es)) → stands_at uid_of u es i ≡ true
      → slice_get es i ≡ Some e → uid_of new ≡ uid_of e → mapped (slice_set es i new) ≡ put_at uid_cmp u (v new) (mapped es)
  put-there u [] i e new order there is named = absurd (cc is)
  put-there u (x ∷ es) zero e new order there is named = let same : x ≡ e = cc is in
      ap (λ w. (w, v new) ∷ mapped es) (named ∙ ap uid_of (sym same))
      ∙ sym (put-tied u (uid_of x) (v x) (v new) (mapped es) (equal _ there))
  put-there u (x ∷ es) (suc i) e new order there is named =
      let here : u ≡ uid_of e = same-there u es i e there is in
      let past : uid_cmp u (uid_of x) ≡ ordering.Greater = above u (uid_of x)
      (subst (λ w. uid_cmp (uid_of x) w ≡ ordering.Less) (sym here) (below-there (uid_of x) es i e (one _ _ order) is)) in
      ap (λ l. (uid_of x, v x) ∷ l) (put-there u es i e new (two _ _ order) there is named)
      ∙ sym (put-past u (uid_of x) (v x) (v new) (mapped es) past)

  -- a change of the item of a uid
  pub changed-there : (u : Uid) (es : List E) (i : ℕ) (e new : E) (g : X → X) → T (is_sorted uid_cmp (mapped es))
      → IsFirstWith uid_of u es (Some i) → slice_get es i ≡ Some e → uid_of new ≡ uid_of e → v new ≡ g (v e)
      → mapped (slice_set es i new) ≡ changed_at uid_cmp u g (mapped es)
  changed-there u es i e new g order h is named same = rw (find-some u es i e h is)
      (put-there u es i e new order h.0 is named ∙ ap (λ x. put_at uid_cmp u x (mapped es)) same)

  -- where no item has the uid, nothing is changed
  pub changed-nowhere : (u : Uid) (es : List E) (g : X → X) → IsFirstWith uid_of u es None
      → mapped es ≡ changed_at uid_cmp u g (mapped es)
  changed-nowhere u es g h = rw (find-none u es h) refl

-- 5. Finite maps from lists

-- an ascending list is what its map has
pub entries-same : {X : Type 0} (es : List (Uid × X)) → T (is_sorted uid_cmp es)
    → finite.entries (finite.from_entries {R = uid_cmp} es) ≡ es
entries-same es order = same_entries uid_cmp uid_cmp_total uid_cmp-IsAntisymmetric (finite.entries (finite.from_entries es)) es
    (finite.entries_sorted (finite.from_entries es)) order
    (λ q. sym (finite.get-entries (finite.from_entries es) q) ∙ finite.get-from_entries uid_cmp_total es q)
