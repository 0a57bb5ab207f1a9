-- Two sorted maps whose entries give the same, key by key, give the same list.
use Rattle.std.proofs.Common.{◌≡◌, Bool, true, false, cond, List, [], ◌∷◌, ◌++◌, Option, None, Some, refl, sym, ◌∙◌, ap, T, ◌&&◌, inl}
use Rattle.std.proofs.Common.{inr, ◌⊎◌}
use Rattle.std.specs.declared.cmp.Ordering.{Ordering}
use Rattle.std.specs.declared.cmp.Ordering.TheVariants.{Less, Equal, Greater}
use Rattle.std.specs.Ordering.{eq_by_cmp, is_lt, ordering_reverse}
use Rattle.std.specs.Cmp.{IsTotalOrder}
use Rattle.std.proofs.lemmas.Cmp.{tied_itself}
use Rattle.std.specs.List.{flat_map}
use Rattle.std.specs.FinMap.{IsAntisymmetric}
use Rattle.std.specs.FinMap.Entries.{below_all, is_sorted}
use Rattle.eden_model.specs.Map.{value_at}
use Rattle.eden_model.proofs.Laws.{eq-same}

abbrev pub gives : {K X Z : Type 0} → (K → X → List Z) → K → Option X → List Z
gives h q None = []
gives h q (Some x) = h q x

abbrev pub listed : {K X Z : Type 0} → (K → X → List Z) → List (K × X) → List Z
listed h es = flat_map (λ e. h e.0 e.1) es

left_part : (a b : Bool) → T (a && b) → T a
left_part true b p = tt
left_part false b p = p

right_part : (a b : Bool) → T (a && b) → T b
right_part true b p = p
right_part false b p = absurd p

is-less : (o : Ordering) → T (is_lt o) → o ≡ Less
is-less Less p = refl
is-less Equal p = absurd p
is-less Greater p = absurd p

module _ {K : Type 0} (R : K → K → Ordering) (total : IsTotalOrder R) (same : IsAntisymmetric R) where
  -- a key at most x is not among the keys past x
  absent : {X : Type 0} (x q : K) (es : List (K × X)) → T (below_all R x es) → (R q x ≡ Less) ⊎ (q ≡ x) → value_at R q es ≡ None
  absent x q [] below at = refl
  absent x q (e ∷ es) below at = rw less (absent x q es (right_part _ _ below) at)
    where
      past : R x e.0 ≡ Less
      past = is-less (R x e.0) (left_part (is_lt (R x e.0)) (below_all R x es) below)

      go : (R q x ≡ Less) ⊎ (q ≡ x) → R q e.0 ≡ Less
      go (inl l) = total.trans q x e.0 l past
      go (inr s) = rw s past

      less : R q e.0 ≡ Less
      less = go at

  module _ {X Z : Type 0} (h : K → X → List Z) where
    head-is : (e : K × X) (es : List (K × X)) → gives h e.0 (value_at R e.0 (e ∷ es)) ≡ h e.0 e.1
    head-is e es = rw (tied_itself total e.0) refl

    tail-is : (e : K × X) (es : List (K × X)) (q : K) (b : Bool) → eq_by_cmp R q e.0 ≡ b → T (below_all R e.0 es)
        → gives h q (value_at R q es) ≡ cond b [] (gives h q (value_at R q (e ∷ es)))
    tail-is e es q true is below = rw (absent e.0 q es below (inr (eq-same R same q e.0 is))) refl
    tail-is e es q false is below = rw is refl

    -- entries that give nothing
    none-listed : (es : List (K × X)) → T (is_sorted R es) → ((q : K) → gives h q (value_at R q es) ≡ []) → listed h es ≡ []
    none-listed [] sorted none = refl
    none-listed (e ∷ es) sorted none = rw (sym (head-is e es) ∙ none e.0)
        (none-listed es (right_part _ _ sorted) (λ q. rest q (eq_by_cmp R q e.0) refl))
      where
        rest : (q : K) (b : Bool) → eq_by_cmp R q e.0 ≡ b → gives h q (value_at R q es) ≡ []
        rest q true is = tail-is e es q true is (left_part _ _ sorted)
        rest q false is = tail-is e es q false is (left_part _ _ sorted) ∙ none q

  module _ {X Y Z : Type 0} (h : K → X → List Z) (g : K → Y → List Z) where
    -- the premise without the head, where the other side has nothing at that key
    drop-head : (e : K × X) (es : List (K × X)) (o : K → List Z) → T (is_sorted R (e ∷ es)) → o e.0 ≡ []
        → ((q : K) → gives h q (value_at R q (e ∷ es)) ≡ o q) → (q : K) → gives h q (value_at R q es) ≡ o q
    drop-head e es o sorted nothing alike q = go (eq_by_cmp R q e.0) refl
      where
        go : (b : Bool) → eq_by_cmp R q e.0 ≡ b → gives h q (value_at R q es) ≡ o q
        go true is = tail-is h e es q true is (left_part _ _ sorted) ∙ sym (ap o (eq-same R same q e.0 is) ∙ nothing)
        go false is = tail-is h e es q false is (left_part _ _ sorted) ∙ alike q

  -- a step past the same key on both sides
  both-tails : {X Y Z : Type 0} (h : K → X → List Z) (g : K → Y → List Z) (e : K × X) (es : List (K × X)) (f : K × Y) (fs : List (K × Y))
      → T (is_sorted R (e ∷ es)) → T (is_sorted R (f ∷ fs)) → e.0 ≡ f.0
      → ((q : K) → gives h q (value_at R q (e ∷ es)) ≡ gives g q (value_at R q (f ∷ fs))) → (q : K)
      → gives h q (value_at R q es) ≡ gives g q (value_at R q fs)
  both-tails h g e es f fs se sf k alike q = go (eq_by_cmp R q e.0) refl
    where
      go : (b : Bool) → eq_by_cmp R q e.0 ≡ b → gives h q (value_at R q es) ≡ gives g q (value_at R q fs)
      go b is = let other : eq_by_cmp R q f.0 ≡ b = rw k at is in
          tail-is h e es q b is (left_part _ _ se) ∙ ap (λ l. cond b [] l) (alike q) ∙ sym (tail-is g f fs q b other (left_part _ _ sf))

  pub same-listing : {X Y Z : Type 0} (h : K → X → List Z) (g : K → Y → List Z) (es : List (K × X)) (fs : List (K × Y))
      → T (is_sorted R es) → T (is_sorted R fs)
      → ((q : K) → gives h q (value_at R q es) ≡ gives g q (value_at R q fs)) → listed h es ≡ listed g fs
  same-listing h g [] fs se sf alike = sym (none-listed g fs sf (λ q. sym (alike q)))
  same-listing {X = X} {Y = Y} h g (e ∷ es) fs se sf alike = inner fs sf alike (λ fs. same-listing h g es fs (right_part _ _ se))
    where
      rest-of : (fs : List (K × Y)) → T (is_sorted R fs) → gives g e.0 (value_at R e.0 fs) ≡ []
          → ((q : K) → gives h q (value_at R q (e ∷ es)) ≡ gives g q (value_at R q fs))
          → (T (is_sorted R fs) → ((q : K) → gives h q (value_at R q es) ≡ gives g q (value_at R q fs)) → listed h es ≡ listed g fs)
          → h e.0 e.1 ++ listed h es ≡ listed g fs
      rest-of fs sf nothing alike ih = rw (sym (head-is h e es) ∙ alike e.0 ∙ nothing)
          (ih sf (drop-head h g e es (λ q. gives g q (value_at R q fs)) se nothing alike))

      inner : (fs : List (K × Y)) → T (is_sorted R fs)
          → ((q : K) → gives h q (value_at R q (e ∷ es)) ≡ gives g q (value_at R q fs))
          → ((fs : List (K × Y)) → T (is_sorted R fs) → ((q : K) → gives h q (value_at R q es) ≡ gives g q (value_at R q fs))
          → listed h es ≡ listed g fs)
          → h e.0 e.1 ++ listed h es ≡ listed g fs
      inner [] sf alike ih = rest-of [] sf refl alike (ih [])
      inner (f ∷ fs) sf alike ih = go (R e.0 f.0) refl (λ a. inner fs (right_part _ _ sf) a ih)
        where
          go : (o : Ordering) → R e.0 f.0 ≡ o
              → (((q : K) → gives h q (value_at R q (e ∷ es)) ≡ gives g q (value_at R q fs)) → h e.0 e.1 ++ listed h es ≡ listed g fs)
              → h e.0 e.1 ++ listed h es ≡ g f.0 f.1 ++ listed g fs
          go Less is later = rest-of (f ∷ fs) sf (rw (is, absent f.0 e.0 fs (left_part _ _ sf) (inl is)) refl) alike (ih (f ∷ fs))
          go Equal is later = let k : e.0 ≡ f.0 = same e.0 f.0 is in
              let heads : h e.0 e.1 ≡ g f.0 f.1 = sym (head-is h e es) ∙ alike e.0 ∙ ap (λ q. gives g q (value_at R q (f ∷ fs))) k
              ∙ head-is g f fs in
              let tails : listed h es ≡ listed g fs = ih fs (right_part _ _ sf) (both-tails h g e es f fs se sf k alike) in
              rw (heads, tails) refl
          go Greater is later =
              let less : R f.0 e.0 ≡ Less = total.antisymm f.0 e.0 ∙ ap ordering_reverse is in
              let nothing : gives h f.0 (value_at R f.0 (e ∷ es)) ≡ [] = rw (less, absent e.0 f.0 es (left_part _ _ se) (inl less)) refl in
              let heads : g f.0 f.1 ≡ [] = sym (head-is g f fs) ∙ sym (alike f.0) ∙ nothing in
              rw heads (later (λ q. sym (drop-head g h f fs (λ q. gives h q (value_at R q (e ∷ es))) sf nothing (λ q. sym (alike q)) q)))
