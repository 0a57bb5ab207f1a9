-- Lists and fronts of them, positions, and what comes for one.
use Rattle.std.proofs.Common.{◌≡◌, ℕ, zero, suc, ◌+◌, ℤ, pos, negsuc, Bool, true, false, not, ◌&&◌, ◌||◌, List, [], ◌∷◌}
use Rattle.std.proofs.Common.{◌++◌, map, length, cond, Option, None, Some, refl, ap, sym, ◌∙◌, subst, arith, length-append}
use Rattle.std.specs.Prelude.{slice_get, is_some, IfSome, IsSomeAnd}
use Rattle.std.specs.List.{find}
use Rattle.std.specs.Ordering.{int_eq}
use Rattle.std.specs.Cmp.Lexicographic.{bytes_decides}
use Rattle.eden_value.specs.Datum.{Datum, number, text}
use Rattle.eden_value.specs.declared.status.Status.TheVariants as status
use Rattle.eden_model.specs.Map.{same_text}
use Rattle.epl_syntax.specs.declared.effect.Answer.TheVariants.{Reply as Told}
use Rattle.epl_syntax.specs.Simple.{text_in}
use Rattle.epl_syntax.specs.Streams.{Came, an_item, the_end, nothing, came}
use Rattle.epl_syntax.proofs.SameText.{same_as_pointwise}
use Rattle.epl_syntax.specs.Pipelines.{IsFront, Sieve, sifted}
use Rattle.epl_syntax.proofs.Pipelines.{pipelines_keep_fronts}
use Rattle.stream_laws.specs.Streams.{item_in, IsAnswer}

pub append-nothing : {A : Type 0} (xs : List A) → xs ++ [] ≡ xs
append-nothing [] = refl
append-nothing (x ∷ xs) = ap (λ l. x ∷ l) (append-nothing xs)

pub append-three : {A : Type 0} (xs ys zs : List A) → (xs ++ ys) ++ zs ≡ xs ++ (ys ++ zs)
append-three [] ys zs = refl
append-three (x ∷ xs) ys zs = ap (λ l. x ∷ l) (append-three xs ys zs)

-- the element behind a front
pub behind : {A : Type 0} (xs ys : List A) (x : A) → slice_get (xs ++ x ∷ ys) (length xs) ≡ Some x
behind [] ys x = refl
behind (y ∷ xs) ys x = behind xs ys x

-- an element of a front stands in the whole too
pub in-front : {A : Type 0} (xs ys : List A) (i : ℕ) (x : A) → slice_get xs i ≡ Some x → slice_get (xs ++ ys) i ≡ Some x
in-front [] ys i x is = absurd (cc is)
in-front (y ∷ xs) ys zero x is = is
in-front (y ∷ xs) ys (suc i) x is = in-front xs ys i x is

-- a front and the element behind it are a front
pub front-more : (xs ys : List (List ℕ)) (x : List ℕ) → IsFront xs ys → slice_get ys (length xs) ≡ Some x → IsFront (xs ++ x ∷ []) ys
front-more xs ys x h is = go h.0 h.1
  where
    go : (rest : List (List ℕ)) → xs ++ rest ≡ ys → IsFront (xs ++ x ∷ []) ys
    go [] whole = absurd (let none : slice_get xs (length xs) ≡ Some x = subst (λ l. slice_get l (length xs) ≡ Some x)
        (sym whole ∙ append-nothing xs) is in none-there xs none)
      where
        none-there : (l : List (List ℕ)) → slice_get l (length l) ≡ Some x → ⊥
        none-there [] e = cc e
        none-there (y ∷ l) e = none-there l e
    go (y ∷ rest) whole =
        let at : Some y ≡ Some x = sym (behind xs rest y) ∙ ap (λ l. slice_get l (length xs)) whole ∙ is in
        let same : y ≡ x = cc at in
        (rest, append-three xs (x ∷ []) rest ∙ ap (λ z. xs ++ z ∷ rest) (sym same) ∙ whole)

-- a front of the length of the whole is the whole
pub whole-front : (xs ys : List (List ℕ)) → IsFront xs ys → length xs ≡ length ys → xs ≡ ys
whole-front xs ys h long = go h.0 h.1
  where
    go : (rest : List (List ℕ)) → xs ++ rest ≡ ys → xs ≡ ys
    go [] whole = sym (append-nothing xs) ∙ whole
    go (y ∷ rest) whole = absurd (let n : length xs + suc (length rest) ≡ length ys = sym (length-append xs (y ∷ rest)) ∙ ap length whole in
        omega (arith, n, long))

pub front-of-sifted : (s : Sieve) (xs ys : List (List ℕ)) → IsFront xs ys → IsFront (sifted s xs) (sifted s ys)
front-of-sifted s xs ys h = pipelines_keep_fronts (s ∷ []) xs ys h

-- an item of a front
pub item-of-front : (xs ys : List (List ℕ)) (p : ℤ) (t : List ℕ) → IsFront xs ys → item_in xs p ≡ Some t → item_in ys p ≡ Some t
item-of-front xs ys (pos i) t h is = subst (λ l. slice_get l i ≡ Some t) h.1 (in-front xs h.0 i t is)
item-of-front xs ys (negsuc i) t h is = absurd (cc is)

pub pos-same : (m n : ℕ) → pos m ≡ pos n → m ≡ n
pos-same m n e = cc e

pub same-some : {X : Type 0} {x y : X} → Some x ≡ Some y → x ≡ y
same-some e = cc e

-- what follows of what is there
pub if-map : {X : Type 0} {P Q : X → Type 0} (o : Option X) → ((x : X) → P x → Q x) → IfSome o P → IfSome o Q
if-map None f h = tt
if-map (Some x) f h = f x h

pub some-and : {X : Type 0} {P : X → Type 0} (o : Option X) → IsSomeAnd o P → (x : X) × (o ≡ Some x) × P x
some-and None h = absurd h
some-and (Some x) h = (x, refl, h)

pub there-some : {X : Type 0} (P : X → Type 0) (o : Option X) → IsSomeAnd o P → is_some o ≡ true
there-some P None h = absurd h
there-some P (Some x) h = refl

-- what a search finds passes its test
pub found-passes : {X : Type 0} (test : X → Bool) (xs : List X) (x : X) → find test xs ≡ Some x → test x ≡ true
found-passes test [] x is = absurd (cc is)
found-passes test (y ∷ xs) x is = go (test y) refl (found-passes test xs x) is
  where
    go : (b : Bool) → test y ≡ b → (find test xs ≡ Some x → test x ≡ true) → cond b (Some y) (find test xs) ≡ Some x → test x ≡ true
    go true holds later e = let same : y ≡ x = cc e in ap test (sym same) ∙ holds
    go false fails later e = later e

pub and-first : (a b : Bool) → (a && b) ≡ true → a ≡ true
and-first true b e = refl
and-first false b e = absurd (cc e)

pub and-second : (a b : Bool) → (a && b) ≡ true → b ≡ true
and-second true b e = e
and-second false b e = absurd (cc e)

pub or-first : (a b : Bool) → (a || b) ≡ false → a ≡ false
or-first true b e = absurd (cc e)
or-first false b e = refl

pub or-second : (a b : Bool) → (a || b) ≡ false → b ≡ false
or-second true b e = absurd (cc e)
or-second false b e = e

pub not-false : (a : Bool) → not a ≡ false → a ≡ true
not-false true e = refl
not-false false e = absurd (cc e)

pub int-same : (a b : ℤ) → int_eq a b ≡ true → a ≡ b
int-same a b e = grind (arith, e)

pub mapped-length : {A B : Type 0} (f : A → B) (xs : List A) → length (map f xs) ≡ length xs
mapped-length f [] = refl
mapped-length f (x ∷ xs) = ap suc (mapped-length f xs)

-- two texts that are told to be one are one
pub same-texts : (a b : List ℕ) → same_text a b ≡ true → a ≡ b
same-texts a b h = (bytes_decides a b).0 (sym (same_as_pointwise a b) ∙ h)

-- the texts of values that are texts
pub texts-back : (ts : List (List ℕ)) → map text_in (map text ts) ≡ ts
texts-back [] = refl
texts-back (t ∷ ts) = ap (λ l. t ∷ l) (texts-back ts)

-- What came for a position: an item is the one there, and the end comes right behind the last.
abbrev pub IsOf : List (List ℕ) → ℤ → Came → Type 0
IsOf items p (an_item t) = item_in items p ≡ Some t
IsOf items p the_end = p ≡ pos (length items)
IsOf items p nothing = Unit {0}

-- what stands beside a number in results is a text, and stands there alone
abbrev pub HasText : List Datum → Type 0
HasText (number n ∷ d ∷ more) = (t : List ℕ) × (d ∷ more ≡ text t ∷ [])
HasText _ = Unit {0}

-- results that come so answer so
pub answers-so : (items : List (List ℕ)) (p : ℤ) (results : List Datum) → IsOf items p (came (Told status.Ok results)) → HasText results
    → IsAnswer items p results
answers-so items p (number (pos zero) ∷ d ∷ more) h x = found (item_in items p)
    (subst (λ l. IsOf items p (came (Told status.Ok (number (pos zero) ∷ l)))) x.1 h)
  where
    found : (o : Option (List ℕ)) → o ≡ Some x.0 → IsSomeAnd o (λ t. d ∷ more ≡ text t ∷ [])
    found o is = subst (λ o. IsSomeAnd o (λ t. d ∷ more ≡ text t ∷ [])) (sym is) x.1
answers-so items p (number (pos (suc zero)) ∷ d ∷ more) h x =
    subst (λ l. IsOf items p (came (Told status.Ok (number (pos (suc zero)) ∷ l)))) x.1 h
answers-so items p _ h x = tt
