-- What may stand at a place of a type.
use Rattle.std.proofs.Common.{◌≡◌, ◌∙◌, ap, sym, refl, subst, ℕ, ◌+◌, ◌<◌, ◌≤◌, Bool, true, false, List, [], ◌∷◌, ◌++◌, length, map, drop}
use Rattle.std.proofs.Common.{cond, drop-cons, get_or, add-one, append_assoc, append-nil, drop_of_length-le, Err, inl, inr, arith}
use Rattle.std.specs.List.{list_all}
use Rattle.std.specs.Borrow.{Bor}
use Rattle.std.specs.Prelude.{nat_le}
use Rattle.std.proofs.lemmas.Bool.{and_parts, leb-true, leb-false}
use Rattle.std.proofs.lemmas.List.{map-append}
use Rattle.epl_syntax.specs.Tree.{TypeTree}
use Rattle.epl_syntax.specs.declared.token.ParseRefusal.{ParseRefusal}
use Rattle.epl_syntax.specs.declared.token.ParseRefusal.TheVariants.{BadToken, TooDeep}
use Rattle.epl_parser.specs.Program.{SpellsType, RefusesType, TypeIs}
use Rattle.mistakes.specs.Wanted.{trial, MayStand, Decides, IsSifted}

-- what the parser answers decides whether a word may stand
pub taken : ((text : List ℕ) (e : TypeTree) (p : ℕ) → SpellsType text e → RefusesType text p → ⊥)
    → (before word text : List ℕ) (e : TypeTree) → text ≡ trial before word → SpellsType text e → MayStand before word
taken never before word text e same spelled =
    λ place h. absurd (never text e place spelled (subst (λ (t : List ℕ). RefusesType t place) (sym same) h))

pub decided : ((text : List ℕ) (p q : ℕ) → RefusesType text p → RefusesType text q → p ≡ q)
    → (before word text : List ℕ) (place : ℕ) → text ≡ trial before word → RefusesType text place
    → Decides (MayStand before word) (nat_le (length text) place)
decided one before word text place same h = by (nat_le (length text) place) refl
  where
    long : length text ≡ length (trial before word)
    long = ap (λ (t : List ℕ). length t) same

    by : (b : Bool) → nat_le (length text) place ≡ b → Decides (MayStand before word) b
    by true e =
        λ q k. let s = one text q place (subst (λ (t : List ℕ). RefusesType t q) (sym same) k) h in
        omega (arith, leb-true (length text) place e, long, s)
    by false e =
        λ all. let l = all place (subst (λ (t : List ℕ). RefusesType t place) same h) in
        absurd (omega (arith, l, leb-false (length text) place e, long))

-- a word of the table, with what is told of it
abbrev pub Entry : Type 0
Entry = Bor (List ℕ) × Bor (List ℕ)

abbrev pub pair : Entry → List ℕ × List ℕ
pair s = (s.0.now, s.1.now)

abbrev pub told : Bor (List ℕ) → List ℕ
told w = w.now

-- what is told of the rest of a table is behind what was found so far
abbrev pub SoFar : (List ℕ → Type 0) → List Entry → List Entry → List (Bor (List ℕ)) → Type 0
SoFar P table rest found = (more : List (List ℕ)) → IsSifted P (map pair rest) more → IsSifted P (map pair table) (map told found ++ more)

pub sift_yes : (P : List ℕ → Type 0) (table : List Entry) (s : Entry) (rest : List Entry) (found : List (Bor (List ℕ)))
    → SoFar P table (s ∷ rest) found → P s.0.now → SoFar P table rest (found ++ s.1 ∷ [])
sift_yes P table s rest found so_far p more h =
    subst (λ (l : List (List ℕ)). IsSifted P (map pair table) l)
    (sym (ap (λ (l : List (List ℕ)). l ++ more) (map-append told found (s.1 ∷ [])) ∙ append_assoc (map told found) (told s.1 ∷ []) more))
    (so_far (told s.1 ∷ more) (inl (p, (more, refl, h))))

pub sift_no : (P : List ℕ → Type 0) (table : List Entry) (s : Entry) (rest : List Entry) (found : List (Bor (List ℕ)))
    → SoFar P table (s ∷ rest) found → (P s.0.now → ⊥) → SoFar P table rest found
sift_no P table s rest found so_far p more h = so_far more (inr (p, h))

pub sift_next : (P : List ℕ → Type 0) (table : List Entry) (i : ℕ) (d : Entry) (found next : List (Bor (List ℕ))) (b : Bool)
    → i < length table → SoFar P table (drop i table) found → Decides (P (get_or table i d).0.now) b
    → next ≡ cond b (found ++ (get_or table i d).1 ∷ []) found → SoFar P table (drop (i + 1) table) next
sift_next P table i d found next b within so_far decides same =
    let e : drop i table ≡ get_or table i d ∷ drop (i + 1) table =
    drop-cons table i d within ∙ ap (λ (n : ℕ). get_or table i d ∷ drop n table) (sym (add-one i)) in
    by b (subst (λ (l : List Entry). SoFar P table l found) e so_far) decides same
  where
    by : (b : Bool) → SoFar P table (get_or table i d ∷ drop (i + 1) table) found → Decides (P (get_or table i d).0.now) b
        → next ≡ cond b (found ++ (get_or table i d).1 ∷ []) found → SoFar P table (drop (i + 1) table) next
    by true h k w = subst (SoFar P table (drop (i + 1) table)) (sym w) (sift_yes P table (get_or table i d) (drop (i + 1) table) found h k)
    by false h k w = subst (SoFar P table (drop (i + 1) table)) (sym w) (sift_no P table (get_or table i d) (drop (i + 1) table) found h k)

short_by : (p : Entry → Bool) (table : List Entry) (i : ℕ) (d : Entry) → i < length table → list_all p (drop i table) ≡ true
    → list_all p (drop (i + 1) table) ≡ true
short_by p table i d within h =
    let e : drop i table ≡ get_or table i d ∷ drop (i + 1) table =
    drop-cons table i d within ∙ ap (λ (n : ℕ). get_or table i d ∷ drop n table) (sym (add-one i)) in
    (and_parts _ _ (ap (list_all p) (sym e) ∙ h)).1

pub short_next : (p : Entry → Bool) (table : List Entry) (i : ℕ) → i < length table → list_all p (drop i table) ≡ true
    → list_all p (drop (i + 1) table) ≡ true
short_next p [] i within h = absurd (omega (arith, within))
short_next p (d ∷ table) i within h = short_by p (d ∷ table) i d within h

pub sift_end : (P : List ℕ → Type 0) (table : List Entry) (i : ℕ) (found : List (Bor (List ℕ))) → length table ≤ i
    → SoFar P table (drop i table) found → IsSifted P (map pair table) (map told found)
sift_end P table i found past so_far =
    subst (λ (l : List (List ℕ)). IsSifted P (map pair table) l) (append-nil (map told found))
    (subst (λ (l : List Entry). SoFar P table l found) (drop_of_length-le table past) so_far [] refl)

-- what the parser answers, in the words of the code
pub decided_bad : ((text : List ℕ) (p q : ℕ) → RefusesType text p → RefusesType text q → p ≡ q)
    → (before word text : List ℕ) (n place : ℕ) (refusal : ParseRefusal) → text ≡ trial before word → n ≡ length text
    → refusal ≡ BadToken place → TypeIs text (Err refusal) → Decides (MayStand before word) (nat_le n place)
decided_bad one before word text n place refusal same long e h =
    subst (λ (k : ℕ). Decides (MayStand before word) (nat_le k place)) (sym long)
    (decided one before word text place same (inl (subst (λ (r : ParseRefusal). TypeIs text (Err r)) e h)))

pub decided_deep : ((text : List ℕ) (p q : ℕ) → RefusesType text p → RefusesType text q → p ≡ q)
    → (before word text : List ℕ) (n place : ℕ) (refusal : ParseRefusal) → text ≡ trial before word → n ≡ length text
    → refusal ≡ TooDeep place → TypeIs text (Err refusal) → Decides (MayStand before word) (nat_le n place)
decided_deep one before word text n place refusal same long e h =
    subst (λ (k : ℕ). Decides (MayStand before word) (nat_le k place)) (sym long)
    (decided one before word text place same (inr (subst (λ (r : ParseRefusal). TypeIs text (Err r)) e h)))
