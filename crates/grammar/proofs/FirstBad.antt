-- Laws of the definitions of specs/FirstBad.
use Rattle.std.specs.Prelude.{◌≡◌, ℕ, zero, suc, ◌+◌, ◌-◌, ◌<◌, ◌≤◌, List, [], ◌∷◌, ◌++◌, length, take, Ok, Err, refl}
use Rattle.std.proofs.Common.{ap, sym, ◌∙◌, arith, subst, append_assoc, append-nil, length-append, inl, inr}
use Rattle.std.proofs.lemmas.Bool.{cases_order}
use Rattle.grammar.specs.Reading.{Reading, Reader, whole}
use Rattle.grammar.specs.Grammar.{Grammar, Begins}
use Rattle.grammar.proofs.Exact.{Taken, Stays, Stopped, Exact, ok_first, ok_rest}
use Rattle.grammar.specs.FirstBad.{FirstBad}

take_front : {S : Type 0} (front rest : List S) → take (length front) (front ++ rest) ≡ front
take_front [] rest = refl
take_front (b ∷ front) rest = ap (λ l. b ∷ l) (take_front front rest)

take_more : {S : Type 0} (front : List S) (b : S) (rest : List S) → take (suc (length front)) (front ++ b ∷ rest) ≡ front ++ b ∷ []
take_more [] b rest = refl
take_more (c ∷ front) b rest = ap (λ l. c ∷ l) (take_more front b rest)

module _ {S A : Type 0} (G : Grammar S A) (R : Reader S A) (g : Exact G R) where
  -- a spelling is read whole
  pub whole_spelled : (symbols : List S) (a : A) → G symbols a → whole (R symbols) ≡ Ok a
  whole_spelled symbols a s = ap (λ l. whole (R l)) (sym (append-nil symbols)) ∙ ap whole (g.again symbols a [] s)

  whole_at : (symbols : List S) (r : Reading S A) → R symbols ≡ r → (a : A) → whole r ≡ Ok a → G symbols a
  whole_at symbols (Err left) e a f = absurd (cc)
  whole_at symbols (Ok (b, [])) e a f =
      let t : Taken G symbols b [] = g.takes symbols b [] e in
      let h : b ≡ a = cc in
      subst (λ x. G symbols x) h (subst (λ l. G l b) (sym (t.whole ∙ append-nil t.front)) t.spelled)
  whole_at symbols (Ok (b, c ∷ rest)) e a f = absurd (cc)

  pub spelled_whole : (symbols : List S) (a : A) → whole (R symbols) ≡ Ok a → G symbols a
  spelled_whole symbols a e = whole_at symbols (R symbols) refl a e

  -- one value for each spelling, and no spelling begins another
  pub one_value : (symbols : List S) (a b : A) → G symbols a → G symbols b → a ≡ b
  one_value symbols a b s t = ok_first a b [] [] (sym (g.again symbols a [] s) ∙ g.again symbols b [] t)

  pub no_prefix : (front more : List S) (a b : A) → G front a → G (front ++ more) b → more ≡ []
  no_prefix front more a b s t =
      ok_rest a b more [] (sym (g.again front a more s) ∙ ap R (sym (append-nil (front ++ more))) ∙ g.again (front ++ more) b [] t)

  no_next : (front : List S) (b : S) → Stays R front (b ∷ []) → Begins G (front ++ b ∷ []) → ⊥
  no_next front b stays u =
      let e : R (front ++ b ∷ u.more) ≡ Ok (u.value, []) =
      ap R (sym (append-nil (front ++ b ∷ u.more))) ∙ ap (λ l. R (l ++ [])) (sym (append_assoc front (b ∷ []) u.more))
      ∙ g.again ((front ++ b ∷ []) ++ u.more) u.value [] u.spelled in
      let f : R (front ++ b ∷ u.more) ≡ Err (suc (length u.more)) = stays u.more in
      absurd (cc)

  place_of : (front rest : List S) (left : ℕ) → length rest ≡ left → length (front ++ rest) - left ≡ length front
  place_of front rest left e = omega (arith, length-append front rest)

  -- the bad place is at the end of the front
  bad_at : (symbols front rest : List S) → symbols ≡ front ++ rest → Begins G front
      → ((b : S) (more : List S) → rest ≡ b ∷ more → Begins G (front ++ b ∷ []) → ⊥) → ((a : A) → G symbols a → ⊥)
      → FirstBad G symbols (length front)
  bad_at symbols front [] e begins next none = record {
    within = omega (arith, ap length e, length-append front []);
    before = subst (λ l. Begins G l) (sym (ap (λ l. take (length front) l) e ∙ take_front front [])) begins;
    there = λ h. absurd (let l : length symbols ≡ length front + 0 = ap length e ∙ length-append front [] in omega arith);
    no_spelling = none;
  }
  bad_at symbols front (b ∷ rest) e begins next none = record {
    within = omega (arith, ap length e, length-append front (b ∷ rest));
    before = subst (λ l. Begins G l) (sym (ap (λ l. take (length front) l) e ∙ take_front front (b ∷ rest))) begins;
    there = λ h u. next b rest refl (subst (λ l. Begins G l) (ap (λ l. take (suc (length front)) l) e ∙ take_more front b rest) u);
    no_spelling = none;
  }

  stays_next : (front rest : List S) → Stays R front rest → (b : S) (more : List S) → rest ≡ b ∷ more → Begins G (front ++ b ∷ []) → ⊥
  stays_next front rest stays b more e u = no_next front b (subst (λ l. Stays R front l) e stays) u

  after_next : (front : List S) (a : A) → G front a → (b : S) → Begins G (front ++ b ∷ []) → ⊥
  after_next front a s b u =
      let e : b ∷ u.more ≡ [] = no_prefix front (b ∷ u.more) a u.value s
      (subst (λ l. G l u.value) (append_assoc front (b ∷ []) u.more) u.spelled) in
      absurd (cc)

  bad_reading : (symbols : List S) (r : Reading S A) → R symbols ≡ r → (left : ℕ) → whole r ≡ Err left → ((a : A) → G symbols a → ⊥)
      → (left ≤ length symbols) × FirstBad G symbols (length symbols - left)
  bad_reading symbols (Err n) e left f none =
      let h : n ≡ left = cc in
      let t : Stopped G R symbols n = g.stops symbols n e in
      let l : length t.rest ≡ left = t.left_is ∙ h in (
        omega (arith, l, ap length t.whole, length-append t.front t.rest),
        subst (λ p. FirstBad G symbols p) (sym (ap (λ x. length x - left) t.whole ∙ place_of t.front t.rest left l))
            (bad_at symbols t.front t.rest t.whole t.begins (stays_next t.front t.rest t.stays) none),
      )
  bad_reading symbols (Ok (a, [])) e left f none = absurd (cc)
  bad_reading symbols (Ok (a, b ∷ rest)) e left f none =
      let h : suc (length rest) ≡ left = cc in
      let t : Taken G symbols a (b ∷ rest) = g.takes symbols a (b ∷ rest) e in (
        omega (arith, h, ap length t.whole, length-append t.front (b ∷ rest)),
        subst (λ p. FirstBad G symbols p) (sym (ap (λ x. length x - left) t.whole ∙ place_of t.front (b ∷ rest) left h))
            (bad_at symbols t.front (b ∷ rest) t.whole
            (record { more = []; value = a; spelled = subst (λ l. G l a) (sym (append-nil t.front)) t.spelled })
            (λ c more _ u. after_next t.front a t.spelled c u) none),
      )

  pub bad_whole : (symbols : List S) (left : ℕ) → whole (R symbols) ≡ Err left → (left ≤ length symbols)
      × FirstBad G symbols (length symbols - left)
  bad_whole symbols left e = bad_reading symbols (R symbols) refl left e
      (λ a s. let f : whole (R symbols) ≡ Ok a = whole_spelled symbols a s in absurd (cc))

-- ---- there is one such place
-- what is taken later goes on with what is taken before
take_further : {S : Type 0} (p q : ℕ) (symbols : List S) → p ≤ q → (rest : List S) × (take q symbols ≡ take p symbols ++ rest)
take_further zero q symbols h = (take q symbols, refl)
take_further (suc p) zero symbols h = absurd (omega arith)
take_further (suc p) (suc q) [] h = ([], refl)
take_further (suc p) (suc q) (s ∷ symbols) h =
    let further = take_further p q symbols (omega arith) in
    (further.0, ap (λ l. s ∷ l) further.1)

begins_before : {S A : Type 0} (G : Grammar S A) (p q : ℕ) (symbols : List S) → p ≤ q → Begins G (take q symbols)
    → Begins G (take p symbols)
begins_before G p q symbols h b =
    let further = take_further p q symbols h in
    record {
      more = further.0 ++ b.more;
      value = b.value;
      spelled = subst (λ l. G l b.value) (ap (λ l. l ++ b.more) further.1 ∙ append_assoc (take p symbols) further.0 b.more) b.spelled;
    }

not_before : {S A : Type 0} (G : Grammar S A) (symbols : List S) (p q : ℕ) → FirstBad G symbols p → FirstBad G symbols q → p < q → ⊥
not_before G symbols p q f g h = f.there (omega (arith, g.within)) (begins_before G (suc p) q symbols h g.before)

pub one_place : {S A : Type 0} (G : Grammar S A) (symbols : List S) (p q : ℕ) → FirstBad G symbols p → FirstBad G symbols q → p ≡ q
one_place G symbols p q f g = neither p q (not_before G symbols p q f g) (not_before G symbols q p g f)
  where
    neither : (m n : ℕ) → (m < n → ⊥) → (n < m → ⊥) → m ≡ n
    neither m n below above = elim (cases_order m n) [ inl e ↦ e | inr r ↦ absurd (elim r [ inl h ↦ below h | inr h ↦ above h ]) ]
