-- A reader is exact for a grammar: what it reads is spelled so, what is spelled so is read, and where it
-- stops the symbols before begin a spelling, and those with the symbol there begin none.
use Rattle.std.specs.Prelude.{◌≡◌, ℕ, suc, Bool, true, false, List, [], ◌∷◌, ◌++◌, length, Option, Some, None, Result, Ok, Err, refl}
use Rattle.std.specs.Prelude.{if◌then◌else◌}
use Rattle.std.proofs.Common.{ap, sym, ◌∙◌, subst, append_assoc, append-nil}
use Rattle.grammar.specs.Reading.{Reading, Reader, read_then, nothing, mapped, found_one, one, if_passing, one_of, choose}
use Rattle.grammar.specs.Grammar.{Grammar, Nothing, OneOf, Then, Mapped, Begins}
use Rattle.grammar.proofs.Grammar.{One, Choice}

pub ok_first : {S A B : Type 0} (a b : A) (m n : List S) → ◌≡◌ {A = Result (A × List S) B} (Ok (a, m)) (Ok (b, n)) → a ≡ b
ok_first {S} {A} {B} a b m n e = let p : ◌≡◌ {A = A × List S} (a, m) (b, n) = cc in ap (λ x. x.0) p

pub ok_rest : {S A B : Type 0} (a b : A) (m n : List S) → ◌≡◌ {A = Result (A × List S) B} (Ok (a, m)) (Ok (b, n)) → m ≡ n
ok_rest {S} {A} {B} a b m n e = let p : ◌≡◌ {A = A × List S} (a, m) (b, n) = cc in ap (λ x. x.1) p

pub err_same : {S A : Type 0} (m n : ℕ) → ◌≡◌ {A = Reading S A} (Err m) (Err n) → m ≡ n
err_same m n e = cc

-- a spelling of a stands in front of the rest
pub record Taken {S A : Type 0} (G : Grammar S A) (symbols : List S) (a : A) (rest : List S) : Type 0 where
  pub front : List S
  pub whole : symbols ≡ front ++ rest
  pub spelled : G front a

-- the reader stops at the first symbol of the rest, whatever follows it
abbrev pub Stays : {S A : Type 0} → Reader S A → List S → List S → Type 0
Stays R front [] = Unit {0}
Stays {S} R front (b ∷ rest) = (more : List S) → R (front ++ b ∷ more) ≡ Err (suc (length more))

-- where a reader stopped: the symbols before are begun right, and no symbol there goes on
pub record Stopped {S A : Type 0} (G : Grammar S A) (R : Reader S A) (symbols : List S) (left : ℕ) : Type 0 where
  pub front : List S
  pub rest : List S
  pub whole : symbols ≡ front ++ rest
  pub left_is : length rest ≡ left
  pub begins : Begins G front
  pub stays : Stays R front rest

-- a reader that reads what the grammar has and no more
pub record Exact {S A : Type 0} (G : Grammar S A) (R : Reader S A) : Type 0 where
  pub takes : (symbols : List S) (a : A) (rest : List S) → R symbols ≡ Ok (a, rest) → Taken G symbols a rest
  pub again : (front : List S) (a : A) (rest : List S) → G front a → R (front ++ rest) ≡ Ok (a, rest)
  pub stops : (symbols : List S) (left : ℕ) → R symbols ≡ Err left → Stopped G R symbols left

-- one behind another, where each grammar that may be chosen has a spelling
module _ {S A B : Type 0} (G : Grammar S A) (H : A → Grammar S B) (R : Reader S A) (T : A → Reader S B) (g : Exact G R)
    (h : (a : A) → Exact (H a) (T a)) (some : (a : A) → Begins (H a) []) where
  then_takes_at : (symbols : List S) (r : Reading S A) → R symbols ≡ r → (b : B) (rest : List S) → read_then r T ≡ Ok (b, rest)
      → Taken (Then G H) symbols b rest
  then_takes_at symbols (Err left) e b rest f = absurd (cc)
  then_takes_at symbols (Ok x) e b rest f =
      let t : Taken G symbols x.0 x.1 = g.takes symbols x.0 x.1 e in
      let u : Taken (H x.0) x.1 b rest = (h x.0).takes x.1 b rest f in
      record {
        front = t.front ++ u.front;
        whole = t.whole ∙ ap (λ l. t.front ++ l) u.whole ∙ sym (append_assoc t.front u.front rest);
        spelled = record { front = t.front; back = u.front; first = x.0; whole = refl; begins = t.spelled; goes_on = u.spelled };
      }

  then_again : (front : List S) (b : B) (rest : List S) → Then G H front b → read_then (R (front ++ rest)) T ≡ Ok (b, rest)
  then_again front b rest t =
      ap (λ l. read_then (R l) T) (ap (λ l. l ++ rest) t.whole ∙ append_assoc t.front t.back rest)
      ∙ ap (λ r. read_then r T) (g.again t.front t.first (t.back ++ rest) t.begins)
      ∙ (h t.first).again t.back b rest t.goes_on

  then_begins : (front : List S) → Begins G front → Begins (Then G H) front
  then_begins front t =
      let u : Begins (H t.value) [] = some t.value in
      record {
        more = t.more ++ u.more;
        value = u.value;
        spelled = record {
          front = front ++ t.more;
          back = u.more;
          first = t.value;
          whole = sym (append_assoc front t.more u.more);
          begins = t.spelled;
          goes_on = u.spelled;
        };
      }

  then_stays : (front rest : List S) → Stays R front rest → Stays (λ l. read_then (R l) T) front rest
  then_stays front [] stays = tt
  then_stays front (b ∷ rest) stays = λ more. ap (λ r. read_then r T) (stays more)

  later_stays : (first : List S) (a : A) → G first a → (front rest : List S) → Stays (T a) front rest
      → Stays (λ l. read_then (R l) T) (first ++ front) rest
  later_stays first a spelled front [] stays = tt
  later_stays first a spelled front (b ∷ rest) stays =
      λ more.
      ap (λ l. read_then (R l) T) (append_assoc first front (b ∷ more))
      ∙ ap (λ r. read_then r T) (g.again first a (front ++ b ∷ more) spelled)
      ∙ stays more

  then_stops_at : (symbols : List S) (r : Reading S A) → R symbols ≡ r → (left : ℕ) → read_then r T ≡ Err left
      → Stopped (Then G H) (λ l. read_then (R l) T) symbols left
  then_stops_at symbols (Err left') e left f =
      let t : Stopped G R symbols left = g.stops symbols left (e ∙ ap (λ n. Err n) (err_same {S = S} {A = B} left' left f)) in
      record {
        front = t.front;
        rest = t.rest;
        whole = t.whole;
        left_is = t.left_is;
        begins = then_begins t.front t.begins;
        stays = then_stays t.front t.rest t.stays;
      }
  then_stops_at symbols (Ok x) e left f =
      let t : Taken G symbols x.0 x.1 = g.takes symbols x.0 x.1 e in
      let u : Stopped (H x.0) (T x.0) x.1 left = (h x.0).stops x.1 left f in
      record {
        front = t.front ++ u.front;
        rest = u.rest;
        whole = t.whole ∙ ap (λ l. t.front ++ l) u.whole ∙ sym (append_assoc t.front u.front u.rest);
        left_is = u.left_is;
        begins = record {
          more = u.begins.more;
          value = u.begins.value;
          spelled = record {
            front = t.front;
            back = u.front ++ u.begins.more;
            first = x.0;
            whole = append_assoc t.front u.front u.begins.more;
            begins = t.spelled;
            goes_on = u.begins.spelled;
          };
        };
        stays = later_stays t.front x.0 t.spelled u.front u.rest u.stays;
      }

  pub then_exact : Exact (Then G H) (λ l. read_then (R l) T)
  then_exact = record {
    takes = λ symbols b rest e. then_takes_at symbols (R symbols) refl b rest e;
    again = then_again;
    stops = λ symbols left e. then_stops_at symbols (R symbols) refl left e;
  }

-- a reader is exact for each grammar that says the same
pub same_exact : {S A : Type 0} (G H : Grammar S A) (R : Reader S A) → Exact G R
    → ((symbols : List S) (a : A) → G symbols a → H symbols a) → ((symbols : List S) (a : A) → H symbols a → G symbols a) → Exact H R
same_exact G H R g to from = record {
  takes = λ symbols a rest e. let t : Taken G symbols a rest = g.takes symbols a rest e in
      record { front = t.front; whole = t.whole; spelled = to t.front a t.spelled };
  again = λ front a rest s. g.again front a rest (from front a s);
  stops = λ symbols left e. let t : Stopped G R symbols left = g.stops symbols left e in record {
    front = t.front;
    rest = t.rest;
    whole = t.whole;
    left_is = t.left_is;
    stays = t.stays;
    begins = record {
      more = t.begins.more;
      value = t.begins.value;
      spelled = to (t.front ++ t.begins.more) t.begins.value t.begins.spelled;
    };
  };
}

nothing_takes : {S A : Type 0} (a : A) (symbols : List S) (b : A) (rest : List S) → nothing a symbols ≡ Ok (b, rest)
    → Taken (Nothing a) symbols b rest
nothing_takes a symbols b rest e = record { front = []; whole = ok_rest _ _ _ _ e; spelled = (refl, sym (ok_first _ _ _ _ e)) }

pub nothing_exact : {S A : Type 0} (a : A) → Exact {S = S} (Nothing a) (nothing a)
nothing_exact {S} a = record {
  takes = nothing_takes a;
  again = λ front b rest s. ap (λ l. nothing a (l ++ rest)) s.0 ∙ ap (λ c. Ok (c, rest)) (sym s.1);
  stops = λ symbols left e. absurd (cc);
}

-- one symbol, if there is one that is read
module _ {S A : Type 0} (f : S → Option A) where
  found_takes : (b : S) (symbols : List S) (o : Option A) → f b ≡ o → (a : A) (rest : List S) → found_one o symbols ≡ Ok (a, rest)
      → Taken (One f) (b ∷ symbols) a rest
  found_takes b symbols None e a rest h = absurd (cc)
  found_takes b symbols (Some x) e a rest h =
      record { front = b ∷ []; whole = ap (λ l. b ∷ l) (ok_rest _ _ _ _ h); spelled = e ∙ ap (λ y. Some y) (ok_first _ _ _ _ h) }

  one_takes : (symbols : List S) (a : A) (rest : List S) → one f symbols ≡ Ok (a, rest) → Taken (One f) symbols a rest
  one_takes [] a rest e = absurd (cc)
  one_takes (b ∷ symbols) a rest e = found_takes b symbols (f b) refl a rest e

  one_again : (front : List S) (a : A) (rest : List S) → One f front a → one f (front ++ rest) ≡ Ok (a, rest)
  one_again [] a rest s = absurd s
  one_again (b ∷ []) a rest s = ap (λ o. found_one o rest) s
  one_again (b ∷ c ∷ symbols) a rest s = absurd s

  found_stops : (begins : Begins (One f) []) (b : S) (symbols : List S) (o : Option A) → f b ≡ o → (left : ℕ)
      → found_one o symbols ≡ Err left → Stopped (One f) (one f) (b ∷ symbols) left
  found_stops begins b symbols None e left h =
      record { front = []; rest = b ∷ symbols; whole = refl; left_is = cc; begins = begins; stays = λ more. ap (λ o. found_one o more) e }
  found_stops begins b symbols (Some x) e left h = absurd (cc)

  one_stops : (begins : Begins (One f) []) (symbols : List S) (left : ℕ) → one f symbols ≡ Err left → Stopped (One f) (one f) symbols left
  one_stops begins [] left e = record { front = []; rest = []; whole = refl; left_is = cc; begins = begins; stays = tt }
  one_stops begins (b ∷ symbols) left e = found_stops begins b symbols (f b) refl left e

  pub one_exact : (b : S) (a : A) → f b ≡ Some a → Exact (One f) (one f)
  one_exact b a e = record {
    takes = one_takes;
    again = one_again;
    stops = one_stops (record { more = b ∷ []; value = a; spelled = e });
  }

-- a value made of the one that is read
module _ {S A B : Type 0} (f : A → B) (G : Grammar S A) (R : Reader S A) (g : Exact G R) where
  to_mapped : (symbols : List S) (b : B) → Then G (λ a. Nothing (f a)) symbols b → Mapped f G symbols b
  to_mapped symbols b t = (
    t.first,
    subst (λ l. G l t.first)
        (sym (t.whole ∙ ap (λ l. t.front ++ l) t.goes_on.0 ∙ append-nil t.front)) t.begins,
    t.goes_on.1,
  )

  from_mapped : (symbols : List S) (b : B) → Mapped f G symbols b → Then G (λ a. Nothing (f a)) symbols b
  from_mapped symbols b m = record {
    front = symbols;
    back = [];
    first = m.0;
    whole = sym (append-nil symbols);
    begins = m.1;
    goes_on = (refl, m.2);
  }

  pub mapped_exact : Exact (Mapped f G) (mapped f R)
  mapped_exact =
      same_exact (Then G (λ a. Nothing (f a))) (Mapped f G) _
      (then_exact G (λ a. Nothing (f a)) R (λ a. nothing (f a)) g (λ a. nothing_exact (f a))
      (λ a. record { more = []; value = f a; spelled = (refl, refl) }))
      to_mapped from_mapped

-- one symbol, which chooses what stands behind it
pub choice_exact : {S A B : Type 0} (f : S → Option A) (H : A → Grammar S B) (T : A → Reader S B) (s : S) (a : A) → f s ≡ Some a
    → ((a : A) → Exact (H a) (T a)) → ((a : A) → Begins (H a) []) → Exact (Choice f H) (choose f T)
choice_exact f H T s a e h some = then_exact (One f) H (one f) T (one_exact f s a e) h some

-- one symbol that passes a test
passing-means : {S : Type 0} (is : S → Bool) (t s : S) (b : Bool) → is t ≡ b → (if b then Some t else None) ≡ Some s → (t ≡ s)
    × (is t ≡ true)
passing-means is t s true e f = (cc, e)
passing-means is t s false e f = absurd (cc)

to_one_of : {S : Type 0} (is : S → Bool) (symbols : List S) (s : S) → One (if_passing is) symbols s → OneOf is symbols s
to_one_of is [] s h = absurd h
to_one_of is (t ∷ []) s h = passing-means is t s (is t) refl h
to_one_of is (t ∷ u ∷ symbols) s h = absurd h

from_one_of : {S : Type 0} (is : S → Bool) (symbols : List S) (s : S) → OneOf is symbols s → One (if_passing is) symbols s
from_one_of is [] s h = absurd h
from_one_of is (t ∷ []) s h = ap (λ b. if b then Some t else None) h.1 ∙ ap (λ x. Some x) h.0
from_one_of is (t ∷ u ∷ symbols) s h = absurd h

pub one_of_exact : {S : Type 0} (is : S → Bool) (s : S) → is s ≡ true → Exact (OneOf is) (one_of is)
one_of_exact is s e = same_exact (One (if_passing is)) (OneOf is) _
    (one_exact (if_passing is) s s (ap (λ b. if b then Some s else None) e)) (to_one_of is) (from_one_of is)
