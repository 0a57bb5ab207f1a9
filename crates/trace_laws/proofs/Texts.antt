-- Texts that begin alike.
use Rattle.std.proofs.Common.{◌≡◌, ◌==◌, ℕ, ◌<◌, ◌^◌, List, [], ◌∷◌, ◌++◌, refl, sym, ◌∙◌, arith, append_assoc, false}
use Rattle.std.proofs.Common.{Option, None, Some}
use Rattle.std.specs.Prelude.{◌≢◌, codes}
use Rattle.std.specs.Fmt.{decimal}
use Rattle.std.specs.Str.Parse.{AllDigits}
use Rattle.std.proofs.lemmas.Fmt.{decimal_is_IsNumeral, decimal_injective}
use Rattle.std.proofs.lemmas.Str.Parse.{tells_digits}
use Rattle.std.proofs.lemmas.List.{append_cancel_left}
use Rattle.passive_store.specs.declared.store.Pick.{Pick}
use Rattle.passive_store.specs.declared.store.Pick.TheVariants as pick
use Rattle.journal.specs.declared.event.Event.{Event}
use Rattle.journal.specs.Lines.{num, pick_word, pick_of, began_word, clock_text}

-- 1. A common front

pub past : (a r s : List ℕ) → a ++ r ≡ a ++ s → r ≡ s
past a r s e = append_cancel_left a r s e

pub flat2 : (a b r : List ℕ) → (a ++ b) ++ r ≡ a ++ (b ++ r)
flat2 a b r = append_assoc a b r

pub flat4 : (a b c d r : List ℕ) → (((a ++ b) ++ c) ++ d) ++ r ≡ a ++ (b ++ (c ++ (d ++ r)))
flat4 a b c d r = simp append_assoc

pub flat5 : (a b c d f r : List ℕ) → ((((a ++ b) ++ c) ++ d) ++ f) ++ r ≡ a ++ (b ++ (c ++ (d ++ (f ++ r))))
flat5 a b c d f r = simp append_assoc

pub flat6 : (a b c d f g r : List ℕ) → (((((a ++ b) ++ c) ++ d) ++ f) ++ g) ++ r ≡ a ++ (b ++ (c ++ (d ++ (f ++ (g ++ r)))))
flat6 a b c d f g r = simp append_assoc

flat8 : (a b c d f g h i r : List ℕ)
    → (((((((a ++ b) ++ c) ++ d) ++ f) ++ g) ++ h) ++ i) ++ r ≡ a ++ (b ++ (c ++ (d ++ (f ++ (g ++ (h ++ (i ++ r)))))))
flat8 a b c d f g h i r = simp append_assoc

-- 2. Up to a byte

abbrev pub NoByte : ℕ → List ℕ → Type 0
NoByte b [] = Unit {0}
NoByte b (c ∷ cs) = (c ≢ b) × NoByte b cs

pub up-to : (b : ℕ) (xs ys r s : List ℕ) → NoByte b xs → NoByte b ys → xs ++ (b ∷ r) ≡ ys ++ (b ∷ s) → (xs ≡ ys) × (r ≡ s)
up-to b [] [] r s n m e = (refl, cc e)
up-to b [] (y ∷ ys) r s n m e = absurd (m.0 (cc e))
up-to b (x ∷ xs) [] r s n m e = absurd (n.0 (cc e))
up-to b (x ∷ xs) (y ∷ ys) r s n m e =
    let front : x ≡ y = cc e in
    let back : xs ++ (b ∷ r) ≡ ys ++ (b ∷ s) = cc e in
    let h = up-to b xs ys r s n.1 m.1 back in
    let all : x ∷ xs ≡ y ∷ ys = cc (front, h.0) in
    (all, h.1)

-- 3. Numbers

-- no digit is a byte below 48, as a blank or a line feed is
no-byte : (b : ℕ) → b < 48 → (ds : List ℕ) → AllDigits 10 ds → NoByte b ds
no-byte b low [] h = tt
no-byte b low (d ∷ ds) h = let p = tells_digits.parts d ds h in (λ e. omega (arith, p.0, e, low), no-byte b low ds p.1)

pub same-number : (m n : ℕ) (r s : List ℕ) → m < 2 ^ 64 → n < 2 ^ 64 → decimal m ++ (32 ∷ r) ≡ decimal n ++ (32 ∷ s) → (m ≡ n) × (r ≡ s)
same-number m n r s below under e =
    let p = up-to 32 (decimal m) (decimal n) r s (no-byte 32 (omega arith) (decimal m) (decimal_is_IsNumeral m below).0.1)
    (no-byte 32 (omega arith) (decimal n) (decimal_is_IsNumeral n under).0.1) e in
    (decimal_injective m n below under p.0, p.1)

-- a blank, a number and a line feed
pub same-last : (m n : ℕ) (r s : List ℕ) → m < 2 ^ 64 → n < 2 ^ 64 → num m ++ (10 ∷ r) ≡ num n ++ (10 ∷ s) → m ≡ n
same-last m n r s below under e =
    let p = up-to 10 (decimal m) (decimal n) r s (no-byte 10 (omega arith) (decimal m) (decimal_is_IsNumeral m below).0.1)
    (no-byte 10 (omega arith) (decimal n) (decimal_is_IsNumeral n under).0.1)
    (past (codes " ") (decimal m ++ (10 ∷ r)) (decimal n ++ (10 ∷ s)) e) in
    decimal_injective m n below under p.0

-- a blank, a number and a blank
pub same-num : (m n : ℕ) (r s : List ℕ) → m < 2 ^ 64 → n < 2 ^ 64 → num m ++ (codes " " ++ r) ≡ num n ++ (codes " " ++ s)
    → (m ≡ n) × (r ≡ s)
same-num m n r s below under e =
    same-number m n r s below under (past (codes " ") (decimal m ++ (32 ∷ r)) (decimal n ++ (32 ∷ s)) e)

-- 4. The line of a disk

-- two texts whose first bytes differ
pub apart : {A : Type 0} (a b : ℕ) (r s : List ℕ) → (a == b) ≡ false → a ∷ r ≡ b ∷ s → A
apart a b r s other e = let h : a ≡ b = cc e in absurd (differ a b other h)
  where
    differ : (a b : ℕ) → (a == b) ≡ false → a ≡ b → ⊥
    differ a b other e = grind (arith, other, e)

pub same-pick : (p q : Option Pick) (r s : List ℕ) → pick_word p ++ (32 ∷ r) ≡ pick_word q ++ (32 ∷ s) → (p ≡ q) × (r ≡ s)
same-pick None None r s e = (refl, cc e)
same-pick (Some pick.Old) (Some pick.Old) r s e = (refl, cc e)
same-pick (Some pick.New) (Some pick.New) r s e = (refl, cc e)
same-pick None (Some pick.Old) r s e = apart 45 111 _ _ refl e
same-pick None (Some pick.New) r s e = apart 45 110 _ _ refl e
same-pick (Some pick.Old) None r s e = apart 111 45 _ _ refl e
same-pick (Some pick.New) None r s e = apart 110 45 _ _ refl e
same-pick (Some pick.Old) (Some pick.New) r s e = apart 111 110 _ _ refl e
same-pick (Some pick.New) (Some pick.Old) r s e = apart 110 111 _ _ refl e

-- of two lines of the disk of one node
pub same-disk : (n c d : ℕ) (e f : Event) (r s : List ℕ) → c < 2 ^ 64 → d < 2 ^ 64 → clock_text n c e ++ r ≡ clock_text n d f ++ s
    → (c ≡ d) × (pick_of e ≡ pick_of f) × (began_word e ++ (10 ∷ r) ≡ began_word f ++ (10 ∷ s))
same-disk n c d e f r s below under eq =
    let x = same-num c d (behind e r) (behind f s) below under (past (num n) (num c ++ (codes " " ++ behind e r))
    (num d ++ (codes " " ++ behind f s))
    (past (codes "+ disk") (num n ++ (num c ++ (codes " " ++ behind e r))) (num n ++ (num d ++ (codes " " ++ behind f s)))
    (sym (flat n c e r) ∙ (eq ∙ flat n d f s)))) in
    let z = same-pick (pick_of e) (pick_of f) (began_word e ++ (10 ∷ r)) (began_word f ++ (10 ∷ s)) x.1 in
    (x.0, z.0, z.1)
  where
    behind : Event → List ℕ → List ℕ
    behind e r = pick_word (pick_of e) ++ (32 ∷ (began_word e ++ (10 ∷ r)))

    flat : (n c : ℕ) (e : Event) (r : List ℕ) → clock_text n c e ++ r ≡ codes "+ disk" ++ (num n ++ (num c ++ (codes " " ++ behind e r)))
    flat n c e r = flat8 (codes "+ disk") (num n) (num c) (codes " ") (pick_word (pick_of e)) (codes " ") (began_word e) (codes "\n") r
