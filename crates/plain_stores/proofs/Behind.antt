-- The place behind the items with lesser uids, and a new item there.
use Rattle.std.proofs.Common.{◌≡◌, ◌<◌, ◌≤◌, ◌+◌, ℕ, zero, suc, Bool, true, false, List, [], ◌∷◌, map, Option, None, Some, refl, sym}
use Rattle.std.proofs.Common.{◌∙◌, ap, subst, arith, length, nat_lt, cond, slice_index_or}
use Rattle.std.proofs.lemmas.Bool.Decides.{nat_tests}
use Rattle.std.proofs.lemmas.Option.{slice_get_read}
use Rattle.std.specs.declared.cmp.Ordering.{Ordering}
use Rattle.std.specs.declared.cmp.Ordering.TheVariants as ordering
use Rattle.std.specs.List.{insert}
use Rattle.std.specs.Ordering.{is_eq, is_lt, ordering_reverse}
use Rattle.capability.specs.declared.Uid.{Uid}
use Rattle.capability.proofs.Uids.{uid_cmp_total}
use Rattle.eden_model.specs.Map.{put_at, uid_cmp, value_at, with_item}
use Rattle.plain_stores.specs.Places.{IsBehindLesser, lesser_at}

-- 1. Where the items with lesser uids end

module _ {E : Type 0} (uid_of : E → Uid) where
  -- whether the item at a place has a lesser uid
  pub lesser-by : (u : Uid) (es : List E) (i : ℕ) (e : E) → i < length es → e ≡ slice_index_or es i e
      → lesser_at uid_of u es i ≡ is_lt (uid_cmp (uid_of e) u)
  lesser-by u es i e less read = ap (λ o. with_item o (λ x. is_lt (uid_cmp (uid_of x) u)) false)
      (slice_get_read es (length es) i e refl less read)

  -- one more item has a lesser uid
  pub lesser-more : (u : Uid) (es : List E) (i : ℕ) → ((k : ℕ) → k < i → lesser_at uid_of u es k ≡ true)
      → lesser_at uid_of u es i ≡ true → (k : ℕ) → k < i + 1 → lesser_at uid_of u es k ≡ true
  lesser-more u es i before this k less = go (nat_lt k i) refl
    where
      go : (b : Bool) → nat_lt k i ≡ b → lesser_at uid_of u es k ≡ true
      go true is = before k (grind (arith, nat_tests, is))
      go false is = let same : k ≡ i = let more : i ≤ k = grind (arith, nat_tests, is) in omega (arith, more, less) in
          subst (λ n. lesser_at uid_of u es n ≡ true) (sym same) this

  -- nothing stands past the end
  none-past : (u : Uid) (es : List E) (i : ℕ) → length es ≤ i → lesser_at uid_of u es i ≡ false
  none-past u [] i past = refl
  none-past u (x ∷ es) zero past = absurd (omega (arith, past))
  none-past u (x ∷ es) (suc i) past = none-past u es i (omega (arith, past))

  -- all have lesser uids
  pub none-behind : (u : Uid) (es : List E) (i n : ℕ) → (n ≡ length es) × (length es ≤ i) × (i ≤ length es)
      → ((k : ℕ) → k < i → lesser_at uid_of u es k ≡ true) → IsBehindLesser uid_of u es n
  none-behind u es i n at before =
      (λ k less. before k (omega (arith, less, at.0, at.1)), none-past u es n (omega (arith, at.0)))

-- 2. A new item

-- an order by its tests
pub order-by : (o : Ordering) → is_eq o ≡ false → is_lt (ordering_reverse o) ≡ false → o ≡ ordering.Less
order-by ordering.Less apart behind = refl
order-by ordering.Equal apart behind = absurd (cc apart)
order-by ordering.Greater apart behind = absurd (cc behind)

pub order-past : (o : Ordering) → is_lt (ordering_reverse o) ≡ true → o ≡ ordering.Greater
order-past ordering.Less past = absurd (cc past)
order-past ordering.Equal past = absurd (cc past)
order-past ordering.Greater past = refl

-- the first item has another uid, and what is behind it too
apart : {X : Type 0} (b : Bool) (x : X) (o : Option X) → cond b (Some x) o ≡ None → (b ≡ false) × (o ≡ None)
apart true x o none = absurd (cc none)
apart false x o none = (refl, none)

module _ {E X : Type 0} (uid_of : E → Uid) (v : E → X) where
  abbrev mapped : List E → List (Uid × X)
  mapped es = map (λ e. (uid_of e, v e)) es

  put-below : (u w : Uid) (x y : X) (es : List (Uid × X)) → uid_cmp u w ≡ ordering.Less
      → put_at uid_cmp u y ((w, x) ∷ es) ≡ (u, y) ∷ (w, x) ∷ es
  put-below u w x y es below = rw below refl

  put-past : (u w : Uid) (x y : X) (es : List (Uid × X)) → uid_cmp u w ≡ ordering.Greater
      → put_at uid_cmp u y ((w, x) ∷ es) ≡ (w, x) ∷ put_at uid_cmp u y es
  put-past u w x y es past = rw past refl

  -- a new item behind those with lesser uids
  pub added : (u : Uid) (es : List E) (i : ℕ) (new : E) → uid_of new ≡ u → value_at uid_cmp u (mapped es) ≡ None
      → IsBehindLesser uid_of u es i → mapped (insert es i new) ≡ put_at uid_cmp u (v new) (mapped es)
  added u [] zero new named none at = ap (λ w. (w, v new) ∷ []) named
  added u [] (suc i) new named none at = absurd (let bad : false ≡ true = at.0 0 (omega arith) in cc bad)
  added u (x ∷ es) zero new named none at =
      let other = apart (is_eq (uid_cmp u (uid_of x))) (v x) (value_at uid_cmp u (mapped es)) none in
      let behind : is_lt (ordering_reverse (uid_cmp u (uid_of x))) ≡ false =
      ap is_lt (sym (uid_cmp_total.antisymm (uid_of x) u)) ∙ at.1 in
      ap (λ w. (w, v new) ∷ (uid_of x, v x) ∷ mapped es) named
      ∙ sym (put-below u (uid_of x) (v x) (v new) (mapped es) (order-by (uid_cmp u (uid_of x)) other.0 behind))
  added u (x ∷ es) (suc i) new named none at =
      let other = apart (is_eq (uid_cmp u (uid_of x))) (v x) (value_at uid_cmp u (mapped es)) none in
      let past : is_lt (ordering_reverse (uid_cmp u (uid_of x))) ≡ true =
      ap is_lt (sym (uid_cmp_total.antisymm (uid_of x) u)) ∙ at.0 0 (omega arith) in
      ap (λ l. (uid_of x, v x) ∷ l) (added u es i new named other.1 (λ k less. at.0 (suc k) (omega (arith, less)), at.1))
      ∙ sym (put-past u (uid_of x) (v x) (v new) (mapped es) (order-past (uid_cmp u (uid_of x)) past))
