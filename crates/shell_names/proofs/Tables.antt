-- Look-ups in a map by text, as look-ups in the list of its entries.
use Rattle.std.specs.Prelude.{Vec}
use Rattle.std.specs.declared.alloc.Global.{Global}
use Rattle.std.proofs.Common.{◌≡◌, ℕ, Bool, true, false, cond, List, [], ◌∷◌, map, Option, None, Some, refl, sym, ap, ◌∙◌}
use Rattle.std.proofs.Common.{true≢false}
use Rattle.std.specs.BTreeMap.{insert_entry}
use Rattle.std.specs.Cmp.Lexicographic.{slice_cmp, bytes_decides, nat_list_eq_equiv}
use Rattle.std.specs.List.{find}
use Rattle.std.specs.Map.{lookup}
use Rattle.std.specs.Option.{option_map}
use Rattle.std.specs.Ordering.{is_eq, nat_cmp}
use Rattle.std.specs.declared.cmp.Ordering.{Ordering}
use Rattle.std.specs.declared.cmp.Ordering.TheVariants.{Less, Equal, Greater}
use Rattle.eden_model.specs.Map.{with_item, same_text}
use Rattle.std.proofs.lemmas.Map.Text.{is_eq-slice_cmp}
use Rattle.epl_syntax.proofs.SameText.{same_as_pointwise}

-- whether a key of the map has this text
abbrev pub named : List ℕ → Vec ℕ Global → Bool
named n k = is_eq (slice_cmp nat_cmp n k.items)

-- in which order two keys stand
abbrev pub in_order : Vec ℕ Global → Vec ℕ Global → Ordering
in_order x y = slice_cmp nat_cmp x.items y.items

-- the text of a key and what stands behind it, first at a text
abbrev pub first_at : {X : Type 0} → List (List ℕ × X) → List ℕ → Option X
first_at es name = with_item (find (λ e. same_text e.0 name) es) (λ e. Some e.1) None

either_way : (a b : List ℕ) → same_text a b ≡ is_eq (slice_cmp nat_cmp b a)
either_way a b = same_as_pointwise a b ∙ nat_list_eq_equiv.symm a b ∙ sym (is_eq-slice_cmp b a)

one_text : (a b : List ℕ) → same_text a b ≡ true → a ≡ b
one_text a b h = (bytes_decides a b).0 (sym (same_as_pointwise a b) ∙ h)

-- texts between which the order makes no difference
level : (a b : List ℕ) → slice_cmp nat_cmp a b ≡ Equal → a ≡ b
level a b h = (bytes_decides a b).0 (sym (is_eq-slice_cmp a b) ∙ ap is_eq h)

-- a text is level with itself
itself : (a : List ℕ) → is_eq (slice_cmp nat_cmp a a) ≡ true
itself a = is_eq-slice_cmp a a ∙ nat_list_eq_equiv.refl a

module _ {M X : Type 0} (f : M → X) where
  -- an entry of the map, as it is seen
  abbrev pub seen : List (Vec ℕ Global × M) → List (List ℕ × X)
  seen es = map (λ e. (e.0.items, f e.1)) es

  -- what the map finds is what stands first
  pub looked-up : (name : List ℕ) (es : List (Vec ℕ Global × M)) → option_map f (lookup (named name) es) ≡ first_at (seen es) name
  looked-up name [] = refl
  looked-up name (e ∷ es) = go (same_text e.0.items name) refl (looked-up name es)
    where
      go : (b : Bool) → same_text e.0.items name ≡ b → option_map f (lookup (named name) es) ≡ first_at (seen es) name
          → option_map f (lookup (named name) (e ∷ es)) ≡ first_at (seen (e ∷ es)) name
      go true h rest = rw (sym (either_way e.0.items name) ∙ h, h) refl
      go false h rest = rw (sym (either_way e.0.items name) ∙ h, h) rest

  -- what stands first at each text after an insertion
  pub inserted : (k : Vec ℕ Global) (m : M) (es : List (Vec ℕ Global × M)) (other : List ℕ)
      → first_at (seen (insert_entry in_order es k m)) other ≡ cond (same_text k.items other) (Some (f m)) (first_at (seen es) other)
  inserted k m [] other = go (same_text k.items other) refl
    where
      go : (b : Bool) → same_text k.items other ≡ b
          → first_at (seen ((k, m) ∷ [])) other ≡ cond (same_text k.items other) (Some (f m)) None
      go true h = rw h refl
      go false h = rw h refl
  inserted k m (e ∷ es) other = go (in_order k e.0) refl (inserted k m es other)
    where
      Rest : Type 0
      Rest = first_at (seen (insert_entry in_order es k m)) other ≡ cond (same_text k.items other) (Some (f m)) (first_at (seen es) other)

      Goal : List (Vec ℕ Global × M) → Type 0
      Goal found = first_at (seen found) other ≡ cond (same_text k.items other) (Some (f m)) (first_at (seen (e ∷ es)) other)

      before : (b : Bool) → same_text k.items other ≡ b → Goal ((k, m) ∷ e ∷ es)
      before true h = rw h refl
      before false h = rw h refl

      here : (b : Bool) → same_text k.items other ≡ b → k.items ≡ e.0.items → Goal ((e.0, m) ∷ es)
      here true h same = rw (sym (ap (λ t. same_text t other) same) ∙ h, h) refl
      here false h same = rw (sym (ap (λ t. same_text t other) same) ∙ h, h) refl

      later : (b c : Bool) → same_text e.0.items other ≡ b → same_text k.items other ≡ c → in_order k e.0 ≡ Greater → Rest
          → Goal (e ∷ insert_entry in_order es k m)
      later true true h g apart rest =
          let same : k.items ≡ e.0.items = one_text k.items other g ∙ sym (one_text e.0.items other h) in
          absurd (true≢false (sym (ap (λ t. is_eq (slice_cmp nat_cmp k.items t)) (sym same) ∙ itself k.items) ∙ ap is_eq apart))
      later true false h g apart rest = rw (h, g) refl
      later false c h g apart rest = rw h rest

      go : (o : Ordering) → in_order k e.0 ≡ o → Rest → Goal (insert_entry in_order (e ∷ es) k m)
      go Less h rest = rw h (before (same_text k.items other) refl)
      go Equal h rest = rw h (here (same_text k.items other) refl (level k.items e.0.items h))
      go Greater h rest = rw h (later (same_text e.0.items other) (same_text k.items other) refl refl h rest)
