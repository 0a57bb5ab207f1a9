-- How operations begin, and values of the kinds that they take.
use Rattle.std.proofs.Common.{◌≡◌, ℕ, Bool, true, false, cond, List, codes, refl, sym, ap, ◌∙◌, true≢false}
use Rattle.std.specs.Cmp.Lexicographic.{bytes_decides}
use Rattle.eden_value.specs.Datum.{Datum, number, truth, text, cap, list}
use Rattle.eden_value.specs.Shape.{has_shape, texts, caps}
use Rattle.eden_model.specs.Map.{same_text}
use Rattle.epl_syntax.specs.Simple.{argument, text_in, cap_in}
use Rattle.epl_syntax.specs.Directory as directory
use Rattle.epl_syntax.proofs.SameText.{same_as_pointwise}

-- two texts that compare as one are one
pub one_text : (a b : List ℕ) → same_text a b ≡ true → a ≡ b
one_text a b h = (bytes_decides a b).0 (sym (same_as_pointwise a b) ∙ h)

-- a value of the kind of texts is the text in it
pub text_again : (d : Datum) → has_shape d texts ≡ true → text (text_in d) ≡ d
text_again (text t) h = refl
text_again (number n) h = absurd (true≢false (sym h))
text_again (truth b) h = absurd (true≢false (sym h))
text_again (cap c) h = absurd (true≢false (sym h))
text_again (list ds) h = absurd (true≢false (sym h))

-- and one of the kind of capabilities is the capability in it
pub cap_again : (d : Datum) → has_shape d caps ≡ true → cap (cap_in d) ≡ d
cap_again (cap c) h = refl
cap_again (number n) h = absurd (true≢false (sym h))
cap_again (truth b) h = absurd (true≢false (sym h))
cap_again (text t) h = absurd (true≢false (sym h))
cap_again (list ds) h = absurd (true≢false (sym h))

-- what a test that holds chooses
pub chosen : {X : Type 0} (b : Bool) (x y : X) → b ≡ true → cond b x y ≡ x
chosen b x y h = ap (λ k. cond k x y) h

-- and one that fails
pub passed : {X : Type 0} (b : Bool) (x y : X) → b ≡ false → cond b x y ≡ y
passed b x y h = ap (λ k. cond k x y) h

module _ (name : List ℕ) (args : List Datum) where
  -- AddEntry begins
  pub adds_first : same_text name (codes "AddEntry") ≡ true
      → directory.adds (text_in (argument 0 args)) (cap_in (argument 1 args)) ≡ directory.first_stage name args
  adds_first h = sym (chosen (same_text name (codes "AddEntry")) _ _ h)

  -- LookUp begins
  pub looks_first : same_text name (codes "AddEntry") ≡ false → same_text name (codes "LookUp") ≡ true
      → directory.looks (text_in (argument 0 args)) ≡ directory.first_stage name args
  looks_first g h =
      sym (chosen (same_text name (codes "LookUp")) _ _ h) ∙ sym (passed (same_text name (codes "AddEntry")) _ _ g)

  -- DeleteEntry begins
  pub deletes_first : same_text name (codes "AddEntry") ≡ false → same_text name (codes "LookUp") ≡ false
      → same_text name (codes "DeleteEntry") ≡ true → directory.deletes (text_in (argument 0 args)) ≡ directory.first_stage name args
  deletes_first f g h =
      sym (chosen (same_text name (codes "DeleteEntry")) _ _ h) ∙ sym (passed (same_text name (codes "LookUp")) _ _ g)
      ∙ sym (passed (same_text name (codes "AddEntry")) _ _ f)
