-- How many Ejects are there: as many in a node's table as at the site for which it stands.
use Rattle.std.proofs.Common.{◌≡◌, ℕ, suc, ◌+◌, Bool, true, false, cond, not, T, List, [], ◌∷◌, length, None, Some}
use Rattle.std.proofs.Common.{refl, sym, ◌∙◌, ap, subst, arith}
use Rattle.std.specs.Prelude.{is_some, ◌&&◌}
use Rattle.std.specs.List.{filter}
use Rattle.std.specs.Ordering.{eq_by_cmp, is_lt, is_eq}
use Rattle.std.specs.declared.cmp.Ordering.{Ordering}
use Rattle.std.specs.declared.cmp.Ordering.TheVariants.{Less, Equal, Greater}
use Rattle.std.specs.Cmp.{IsTotalOrder}
use Rattle.std.specs.FinMap.{FinMap, IsAntisymmetric, len, get, entries, get-entries, len-entries, entries_sorted}
use Rattle.std.specs.FinMap.Entries.{is_sorted, below_all, where_key, find, find-where_key, is_sorted-where_key, length_without}
use Rattle.std.proofs.lemmas.Cmp.{tied_itself}
use Rattle.eden_model.specs.Map.{with_item}
use Rattle.eden_model.proofs.Laws.{eq-same}

module _ {K : Type 0} (R : K → K → Ordering) (total : IsTotalOrder R) (same : IsAntisymmetric R) where
  tied : (k : K) → eq_by_cmp R k k ≡ true
  tied k = ap is_eq (tied_itself total k)

  both-true : (a b : Bool) → T (a && b) → T a × T b
  both-true true b h = (tt, h)
  both-true false b h = absurd h

  less-apart : (q k : K) → T (is_lt (R q k)) → eq_by_cmp R q k ≡ false
  less-apart q k less = go (R q k) less
    where
      go : (o : Ordering) → T (is_lt o) → is_eq o ≡ false
      go Less h = refl
      go Equal h = absurd h
      go Greater h = absurd h

  -- a key below all others is none of theirs
  none-below : {X : Type 0} (k : K) (es : List (K × X)) → T (below_all R k es) → find R k es ≡ None
  none-below k [] below = refl
  none-below k (e ∷ es) below =
      let h = both-true (is_lt (R k e.0)) (below_all R k es) below in
      rw (less-apart k e.0 h.0) (none-below k es h.1)

  abbrev pub Alike : {X Y : Type 0} → (X → Bool) → List (K × X) → List (K × Y) → Type 0
  Alike P es fs = (q : K) → with_item (find R q es) P false ≡ is_some (find R q fs)

  -- the entries that pass a test are as many as those of another list, where each key has one here exactly where it has one there
  pub as-many : {X Y : Type 0} (P : X → Bool) (es : List (K × X)) (fs : List (K × Y)) → T (is_sorted R es) → T (is_sorted R fs)
      → Alike P es fs → length (filter (λ e. P e.1) es) ≡ length fs
  as-many P [] [] sorted ordered alike = refl
  as-many P [] (f ∷ fs) sorted ordered alike =
      absurd (let bad : false ≡ true = alike f.0 ∙ ap (λ b. is_some (cond b (Some f.1) (find R f.0 fs))) (tied f.0) in cc bad)
  as-many P (e ∷ es) fs sorted ordered alike = go (P e.1) refl (λ h. as-many P es fs parts.1 ordered h)
      (as-many P es (where_key R (λ x. not (eq_by_cmp R e.0 x)) fs) parts.1
      (is_sorted-where_key R (λ x. not (eq_by_cmp R e.0 x)) fs ordered) taken)
    where
      parts : T (below_all R e.0 es) × T (is_sorted R es)
      parts = both-true (below_all R e.0 es) (is_sorted R es) sorted

      here : with_item (find R e.0 es) P false ≡ false
      here = ap (λ o. with_item o P false) (none-below e.0 es parts.0)

      turned : (q : K) → eq_by_cmp R q e.0 ≡ false → eq_by_cmp R e.0 q ≡ false
      turned q is = back (eq_by_cmp R e.0 q) refl
        where
          back : (b : Bool) → eq_by_cmp R e.0 q ≡ b → b ≡ false
          back false at = refl
          back true at =
              let one : e.0 ≡ q = eq-same R same e.0 q at in
              let bad : true ≡ false = sym (tied e.0) ∙ ap (λ x. eq_by_cmp R x e.0) one ∙ is in
              absurd (cc bad)

      first : (b : Bool) → P e.1 ≡ b → is_some (find R e.0 fs) ≡ b
      first b is = sym (alike e.0) ∙ ap (λ x. with_item (cond x (Some e.1) (find R e.0 es)) P false) (tied e.0) ∙ is

      others : (q : K) → eq_by_cmp R q e.0 ≡ false → with_item (find R q es) P false ≡ is_some (find R q fs)
      others q apart = ap (λ x. with_item (cond x (Some e.1) (find R q es)) P false) (sym apart) ∙ alike q

      skipped : P e.1 ≡ false → Alike P es fs
      skipped is q = each (eq_by_cmp R q e.0) refl
        where
          each : (b : Bool) → eq_by_cmp R q e.0 ≡ b → with_item (find R q es) P false ≡ is_some (find R q fs)
          each true at = subst (λ x. with_item (find R x es) P false ≡ is_some (find R x fs)) (sym (eq-same R same q e.0 at))
              (here ∙ sym (first false is))
          each false at = others q at

      found-left : (q : K) → find R q (where_key R (λ x. not (eq_by_cmp R e.0 x)) fs) ≡ cond (not (eq_by_cmp R e.0 q)) (find R q fs) None
      found-left q = find-where_key R (λ x. not (eq_by_cmp R e.0 x)) q (λ x tie. ap (λ y. not (eq_by_cmp R e.0 y)) (sym (same q x tie))) fs

      taken : Alike P es (where_key R (λ x. not (eq_by_cmp R e.0 x)) fs)
      taken q = each (eq_by_cmp R q e.0) refl
        where
          each : (b : Bool) → eq_by_cmp R q e.0 ≡ b → with_item (find R q es) P false
              ≡ is_some (find R q (where_key R (λ x. not (eq_by_cmp R e.0 x)) fs))
          each true at =
              let one : q ≡ e.0 = eq-same R same q e.0 at in
              let none : find R e.0 (where_key R (λ x. not (eq_by_cmp R e.0 x)) fs) ≡ None =
              found-left e.0 ∙ ap (λ x. cond (not x) (find R e.0 fs) None) (tied e.0) in
              subst (λ x. with_item (find R x es) P false ≡ is_some (find R x (where_key R (λ x. not (eq_by_cmp R e.0 x)) fs))) (sym one)
              (here ∙ ap is_some (sym none))
          each false at = others q at ∙ ap is_some (sym (found-left q ∙ ap (λ x. cond (not x) (find R q fs) None) (turned q at)))

      go : (b : Bool) → P e.1 ≡ b → (Alike P es fs → length (filter (λ x. P x.1) es) ≡ length fs)
          → length (filter (λ x. P x.1) es) ≡ length (where_key R (λ x. not (eq_by_cmp R e.0 x)) fs)
          → length (filter (λ x. P x.1) (e ∷ es)) ≡ length fs
      go false is all rest = ap (λ b. length (cond b (e ∷ filter (λ x. P x.1) es) (filter (λ x. P x.1) es))) is ∙ all (skipped is)
      go true is all rest =
          let one : 1 + length (where_key R (λ x. not (eq_by_cmp R e.0 x)) fs) ≡ length fs =
          ap (λ b. cond {A = ℕ} b 1 0 + length (where_key R (λ x. not (eq_by_cmp R e.0 x)) fs)) (sym (first true is))
          ∙ length_without R total e.0 fs ordered in
          let more : suc (length (where_key R (λ x. not (eq_by_cmp R e.0 x)) fs)) ≡ length fs = omega (arith, one) in
          ap (λ b. length (cond b (e ∷ filter (λ x. P x.1) es) (filter (λ x. P x.1) es))) is ∙ ap suc rest ∙ more

-- of a finite map
pub as-many-in : {K X Y : Type 0} (R : K → K → Ordering) (total : IsTotalOrder R) (same : IsAntisymmetric R) (P : X → Bool)
    (es : List (K × X)) (m : FinMap R Y) → T (is_sorted R es)
    → ((q : K) → with_item (find R q es) P false ≡ is_some (get m q)) → length (filter (λ e. P e.1) es) ≡ len m
as-many-in R total same P es m sorted alike =
    as-many R total same P es (entries m) sorted (entries_sorted m) (λ q. alike q ∙ ap is_some (get-entries m q)) ∙ sym (len-entries m)
