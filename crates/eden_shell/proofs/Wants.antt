-- What is learned of disks one by one.
use Rattle.std.proofs.Common.{◌≡◌, ◌<◌, ◌≤◌, ◌+◌, ℕ, zero, suc, List, [], ◌∷◌, ◌++◌, length, map, take, get_or, refl, sym, ◌∙◌, ap, subst}
use Rattle.std.proofs.Common.{arith, inl, inr}
use Rattle.std.specs.Prelude.{IfSome, slice_get, ◌⊎◌}
use Rattle.std.proofs.lemmas.List.{take_more, map-append}

-- one more of the disks was asked
pub asked-more : {D : Type 0} (f : D → ℕ) (disks : List D) (i : ℕ) (wants new : List ℕ) (d : D) → i < length disks
    → d ≡ get_or disks i d → wants ≡ map f (take i disks) → new ≡ wants ++ f d ∷ [] → new ≡ map f (take (i + 1) disks)
asked-more f disks i wants new d lt is front grew =
    grew ∙ ap (λ l. l ++ f d ∷ []) front ∙ ap (λ x. map f (take i disks) ++ f x ∷ []) is
    ∙ sym (ap (map f) (take_more disks i d lt) ∙ map-append f (take i disks) (get_or disks i d ∷ []))

below-one-more : (m i : ℕ) → m < i + 1 → (m < i) ⊎ (m ≡ i)
below-one-more zero zero le = inr refl
below-one-more zero (suc i) le = inl (omega arith)
below-one-more (suc m) zero le = absurd (omega (arith, le))
below-one-more (suc m) (suc i) le = go (below-one-more m i (omega (arith, le)))
  where
    go : (m < i) ⊎ (m ≡ i) → (suc m < suc i) ⊎ (suc m ≡ suc i)
    go (inl less) = inl (omega (arith, less))
    go (inr same) = inr (ap (λ n. suc n) same)

module _ {D : Type 0} (P : D → Type 0) where
  at-place : (disks : List D) (i : ℕ) (d : D) → i < length disks → P (get_or disks i d) → IfSome (slice_get disks i) P
  at-place [] i d lt p = absurd (omega (arith, lt))
  at-place (x ∷ disks) zero d lt p = p
  at-place (x ∷ disks) (suc i) d lt p = at-place disks i d (omega (arith, lt)) p

  -- so it holds of one more
  pub holds-more : (disks : List D) (i : ℕ) (d : D) → i < length disks → d ≡ get_or disks i d → P d
      → ((m : ℕ) → m < i → IfSome (slice_get disks m) P) → (m : ℕ) → m < i + 1 → IfSome (slice_get disks m) P
  holds-more disks i d lt is p front m le = go (below-one-more m i le)
    where
      go : (m < i) ⊎ (m ≡ i) → IfSome (slice_get disks m) P
      go (inl less) = front m less
      go (inr same) = subst (λ n. IfSome (slice_get disks n) P) (sym same) (at-place disks i d lt (subst P is p))

  within : (disks : List D) (m : ℕ) → (m < length disks → IfSome (slice_get disks m) P) → IfSome (slice_get disks m) P
  within [] m h = tt
  within (x ∷ disks) zero h = h (omega arith)
  within (x ∷ disks) (suc m) h = within disks m (λ lt. h (omega (arith, lt)))

  -- and in the end of all
  pub holds-all : (disks : List D) (i : ℕ) → length disks ≤ i → ((m : ℕ) → m < i → IfSome (slice_get disks m) P) → (m : ℕ)
      → IfSome (slice_get disks m) P
  holds-all disks i all front m = within disks m (λ lt. front m (omega (arith, lt, all)))
