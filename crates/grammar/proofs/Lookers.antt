-- Readers with one symbol of lookahead compose: one behind another, a choice by the first symbol, and steps while
-- the first symbol chooses one.
use Rattle.std.specs.Prelude.{◌≡◌, ℕ, suc, ◌+◌, ◌≤◌, ◌<◌, List, [], ◌∷◌, ◌++◌, length, Ok, Err, refl}
use Rattle.std.proofs.Common.{ap, sym, ◌∙◌, subst, arith, append_assoc, length-append}
use Rattle.grammar.specs.Grammar.{Then}
use Rattle.grammar.specs.Depths.{Placed, bare, Shallow, Fault, bad, deep, spent, Look, Looker, look_then, look_both, SameHead, Took}
use Rattle.grammar.specs.Depths.{FaultAt, StaysAt, Stuck, PastBy, Passes, Reads}

-- ---- lists of symbols with depths
pub bare-append : {S : Type 0} (ps qs : List (Placed S)) → bare (ps ++ qs) ≡ bare ps ++ bare qs
bare-append [] qs = refl
bare-append (p ∷ ps) qs = ap (λ l. p.0 ∷ l) (bare-append ps qs)

pub length-bare : {S : Type 0} (ps : List (Placed S)) → length (bare ps) ≡ length ps
length-bare [] = refl
length-bare (p ∷ ps) = ap suc (length-bare ps)

pub bare_before : {S : Type 0} (ps qs : List (Placed S)) (v : List S) → bare (ps ++ qs) ++ v ≡ bare ps ++ (bare qs ++ v)
bare_before ps qs v = ap (λ l. l ++ v) (bare-append ps qs) ∙ append_assoc (bare ps) (bare qs) v

module _ {S : Type 0} (limit : ℕ) where
  pub shallow_both : (ps qs : List (Placed S)) → Shallow limit ps → Shallow limit qs → Shallow limit (ps ++ qs)
  shallow_both [] qs h k = k
  shallow_both (p ∷ ps) qs h k = (h.0, shallow_both ps qs h.1 k)

  pub shallow_front : (ps qs : List (Placed S)) → Shallow limit (ps ++ qs) → Shallow limit ps
  shallow_front [] qs h = tt
  shallow_front (p ∷ ps) qs h = (h.0, shallow_front ps qs h.1)

  pub shallow_back : (ps qs : List (Placed S)) → Shallow limit (ps ++ qs) → Shallow limit qs
  shallow_back [] qs h = h
  shallow_back (p ∷ ps) qs h = shallow_back ps qs h.1

  pub past_not_shallow : (ps : List (Placed S)) (left behind : ℕ) → PastBy limit ps left behind → Shallow limit ps → ⊥
  past_not_shallow ps left behind p h = p.past
      (shallow_front (p.front ++ p.symbol ∷ []) p.more
      (subst (λ l. Shallow limit l) (p.split ∙ sym (append_assoc p.front (p.symbol ∷ []) p.more)) h))

  pub past_later : (ps qs : List (Placed S)) (left behind : ℕ) → PastBy limit qs left behind → PastBy limit (ps ++ qs) left behind
  past_later ps qs left behind p = record {
    front = ps ++ p.front;
    symbol = p.symbol;
    more = p.more;
    split = ap (λ l. ps ++ l) p.split ∙ sym (append_assoc ps p.front (p.symbol ∷ p.more));
    place = p.place;
    past = λ h. p.past (shallow_back ps (p.front ++ p.symbol ∷ [])
        (subst (λ l. Shallow limit l) (append_assoc ps p.front (p.symbol ∷ [])) h));
  }

  pub past_sooner : (ps qs : List (Placed S)) (left between behind : ℕ) → between ≡ length qs + behind → PastBy limit ps left between
      → PastBy limit (ps ++ qs) left behind
  past_sooner ps qs left between behind e p = record {
    front = p.front;
    symbol = p.symbol;
    more = p.more ++ qs;
    split = ap (λ l. l ++ qs) p.split ∙ append_assoc p.front (p.symbol ∷ p.more) qs;
    place = omega (arith, e, p.place, length-append p.more qs);
    past = p.past;
  }

  fault_more : (f : Fault) (rest : List S) (more qs : List (Placed S)) → FaultAt limit f rest more → FaultAt limit f rest (more ++ qs)
  fault_more (bad left) rest more qs h = h
  fault_more (deep left) (s ∷ rest) (p ∷ more) qs h = h
  fault_more (deep left) [] more qs h = absurd h
  fault_more (deep left) (s ∷ rest) [] qs h = absurd h
  fault_more spent rest more qs h = absurd h

pub same_behind : {S : Type 0} (front w v : List S) → SameHead w v → SameHead (front ++ w) (front ++ v)
same_behind [] w v h = h
same_behind (s ∷ front) w v h = refl

pub same_itself : {S : Type 0} (w : List S) → SameHead w w
same_itself [] = tt
same_itself (s ∷ w) = refl

-- ---- one behind another
module _ {S A B : Type 0} (limit : ℕ) (R : Looker S A) (T : A → Looker S B) where
  passes_then : (fuel behind used : ℕ) (ps qs : List (Placed S)) (r : Look S A) (a : A) (u : List S) (b : B) (v : List S)
      → fuel ≤ used + behind → used ≤ length ps → length u ≡ length qs + length v
      → Passes limit fuel ps r a u → Passes limit behind qs (T a u) b v → Passes limit fuel (ps ++ qs) (look_then r T) b v
  passes_then fuel behind used ps qs (Ok x) a u b v enough long size h k = subst
      (λ (y : A × List S). Passes limit fuel (ps ++ qs) (T y.0 y.1) b v) (sym h) (later (T a u) k)
    where
      later : (r : Look S B) → Passes limit behind qs r b v → Passes limit fuel (ps ++ qs) r b v
      later (Ok y) e = e
      later (Err (bad left)) e = e
      later (Err (deep left)) e = past_later limit ps qs left (length v) e
      later (Err spent) e = omega (arith, length-append ps qs)
  passes_then fuel behind used ps qs (Err (bad left)) a u b v enough long size h k = h
  passes_then fuel behind used ps qs (Err (deep left)) a u b v enough long size h k = past_sooner limit ps qs left (length u)
      (length v) size h
  passes_then fuel behind used ps qs (Err spent) a u b v enough long size h k = omega (arith, length-append ps qs)

  -- what is read in front stays before what begins alike
  local_then : (w : List S) (a : A) (u : List S) (G : List (S × ℕ) → A → Type 0) (t : Took limit G R w a u) (qs : List (S × ℕ))
      (rest v : List S) → u ≡ bare qs ++ rest → SameHead rest v
      → look_both R T (bare (t.front ++ qs) ++ v) ≡ T a (bare qs ++ v)
  local_then w a u G t qs rest v e same =
      ap (look_both R T) (bare_before t.front qs v)
      ∙ ap (λ r. look_then r T) (t.local (bare qs ++ v)
      (subst (λ l. SameHead l (bare qs ++ v)) (sym e) (same_behind (bare qs) rest v same)))

  stays_then : (w : List S) (a : A) (u : List S) (G : List (S × ℕ) → A → Type 0) (t : Took limit G R w a u) (f : Fault)
      (qs : List (S × ℕ)) (rest : List S) → u ≡ bare qs ++ rest → StaysAt f (T a) (bare qs) rest
      → StaysAt f (look_both R T) (bare (t.front ++ qs)) rest
  stays_then w a u G t (bad left) qs [] e h = tt
  stays_then w a u G t (bad left) qs (s ∷ rest) e h = λ more. local_then w a u G t qs (s ∷ rest) (s ∷ more) e refl ∙ h more
  stays_then w a u G t (deep left) qs [] e h = tt
  stays_then w a u G t (deep left) qs (s ∷ rest) e h = λ more. local_then w a u G t qs (s ∷ rest) (s ∷ more) e refl ∙ h more
  stays_then w a u G t spent qs rest e h = tt

  stays_first : (f : Fault) (front rest : List S) → StaysAt f R front rest → StaysAt f (look_both R T) front rest
  stays_first (bad left) front [] h = tt
  stays_first (bad left) front (s ∷ rest) h = λ more. ap (λ r. look_then r T) (h more)
  stays_first (deep left) front [] h = tt
  stays_first (deep left) front (s ∷ rest) h = λ more. ap (λ r. look_then r T) (h more)
  stays_first spent front rest h = tt

-- The first reader takes at least so many symbols.
module _ {S A B : Type 0} (limit fuel behind used : ℕ) (G : List (S × ℕ) → A → Type 0) (H : A → List (S × ℕ) → B → Type 0)
    (n m : List S → Type 0) (R : Looker S A) (T : A → Looker S B)
    (g : Reads limit fuel G n R)
    (h : (ps : List (S × ℕ)) (a : A) → G ps a → Reads limit behind (H a) m (T a))
    (long : (ps : List (S × ℕ)) (a : A) → G ps a → used ≤ length ps)
    (enough : fuel ≤ used + behind)
    (fitting : (ps : List (S × ℕ)) (a : A) → G ps a → (qs : List (S × ℕ)) (b : B) → H a qs b → (v : List S) → m v → n (bare qs ++ v)) where
  then_member : (ps qs : List (S × ℕ)) (a : A) (b : B) → G ps a → H a qs b → Then G H (ps ++ qs) b
  then_member ps qs a b p q = record { front = ps; back = qs; first = a; whole = refl; begins = p; goes_on = q }

  shorter : (ps : List (S × ℕ)) (a : A) (w u : List S) → G ps a → w ≡ bare ps ++ u → length w < fuel → length u < behind
  shorter ps a w u p e few = omega (arith, ap length e, length-append (bare ps) u, length-bare ps, long ps a p, enough)

  then_takes : (w : List S) (r : Look S A) → R w ≡ r → (b : B) (rest : List S) → length w < fuel → look_then r T ≡ Ok (b, rest)
      → Took limit (Then G H) (look_both R T) w b rest
  then_takes w (Err f) e b rest few k = absurd (cc)
  then_takes w (Ok x) e b rest few k =
      let t : Took limit G R w x.0 x.1 = g.takes w x.0 x.1 few e in
      let u : Took limit (H x.0) (T x.0) x.1 b rest = (h t.front x.0 t.member).takes x.1 b rest
      (shorter t.front x.0 w x.1 t.member t.split few) k in
      record {
        front = t.front ++ u.front;
        split = t.split ∙ ap (λ l. bare t.front ++ l) u.split ∙ sym (bare_before t.front u.front rest);
        shallow = shallow_both limit t.front u.front t.shallow u.shallow;
        member = then_member t.front u.front x.0 b t.member u.member;
        local = λ v same. local_then limit R T w x.0 x.1 G t u.front rest v u.split same ∙ u.local v same;
      }

  then_stops : (w : List S) (r : Look S A) → R w ≡ r → (f : Fault) → length w < fuel → look_then r T ≡ Err f
      → Stuck limit (Then G H) (look_both R T) w f
  then_stops w (Err e') e f few k =
      let same : e' ≡ f = cc in
      let s : Stuck limit G R w f = g.stops w f few (e ∙ ap (λ x. Err x) same) in
      let made = (h (s.front ++ s.more) s.value s.goes_on).made in
      record {
        front = s.front;
        rest = s.rest;
        split = s.split;
        shallow = s.shallow;
        more = s.more ++ made.0;
        value = made.1;
        goes_on = subst (λ l. Then G H l made.1) (append_assoc s.front s.more made.0)
            (then_member (s.front ++ s.more) made.0 s.value made.1 s.goes_on made.2);
        fault = fault_more limit f s.rest s.more made.0 s.fault;
        stays = stays_first limit R T f (bare s.front) s.rest s.stays;
      }
  then_stops w (Ok x) e f few k =
      let t : Took limit G R w x.0 x.1 = g.takes w x.0 x.1 few e in
      let s : Stuck limit (H x.0) (T x.0) x.1 f = (h t.front x.0 t.member).stops x.1 f (shorter t.front x.0 w x.1 t.member t.split few) k in
      record {
        front = t.front ++ s.front;
        rest = s.rest;
        split = t.split ∙ ap (λ l. bare t.front ++ l) s.split ∙ sym (bare_before t.front s.front s.rest);
        shallow = shallow_both limit t.front s.front t.shallow s.shallow;
        more = s.more;
        value = s.value;
        goes_on = subst (λ l. Then G H l s.value) (sym (append_assoc t.front s.front s.more))
            (then_member t.front (s.front ++ s.more) x.0 s.value t.member s.goes_on);
        fault = s.fault;
        stays = stays_then limit R T w x.0 x.1 G t f s.front s.rest s.split s.stays;
      }

  then_again : (ps : List (S × ℕ)) (b : B) → Then G H ps b → (v : List S) → m v → Passes limit fuel ps (look_both R T (bare ps ++ v)) b v
  then_again ps b t v k =
      let p : Passes limit fuel t.front (R (bare t.front ++ (bare t.back ++ v))) t.first (bare t.back ++ v) =
      g.again t.front t.first t.begins (bare t.back ++ v) (fitting t.front t.first t.begins t.back b t.goes_on v k) in
      let q : Passes limit behind t.back (T t.first (bare t.back ++ v)) b v = (h t.front t.first t.begins).again t.back b t.goes_on v k in
      subst (λ l. Passes limit fuel l (look_both R T (bare l ++ v)) b v) (sym t.whole)
      (subst (λ l. Passes limit fuel (t.front ++ t.back) (look_both R T l) b v) (sym (bare_before t.front t.back v))
      (passes_then limit R T fuel behind used t.front t.back (R (bare t.front ++ (bare t.back ++ v))) t.first
      (bare t.back ++ v) b v enough (long t.front t.first t.begins)
      (length-append (bare t.back) v ∙ ap (λ n. n + length v) (length-bare t.back)) p q))

  pub then_reads : Reads limit fuel (Then G H) m (look_both R T)
  then_reads = record {
    made = let k = (h g.made.0 g.made.1 g.made.2).made in (g.made.0 ++ k.0, k.1, then_member g.made.0 k.0 g.made.1 k.1 g.made.2 k.2);
    takes = λ w b rest few e. then_takes w (R w) refl b rest few e;
    again = then_again;
    stops = λ w f few e. then_stops w (R w) refl f few e;
  }
