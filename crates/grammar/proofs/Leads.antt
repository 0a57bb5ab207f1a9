-- A symbol at a depth, and what it leads to. Behind a symbol past the limit nothing has to be read.
use Rattle.std.specs.Prelude.{◌≡◌, ℕ, suc, ◌≤◌, ◌<◌, Bool, true, false, nat_le, List, [], ◌∷◌, ◌++◌, length, Option, Some, None, Ok, Err}
use Rattle.std.specs.Prelude.{refl}
use Rattle.std.proofs.Common.{ap, sym, ◌∙◌, subst, arith, length-append}
use Rattle.grammar.specs.Grammar.{Then}
use Rattle.grammar.specs.Depths.{Placed, bare, At, Fault, bad, deep, spent, Look, Looker, look_then, look_both, fits, found_at, look_at}
use Rattle.grammar.specs.Depths.{Took, StaysAt, Stuck, Passes, Reads}
use Rattle.grammar.proofs.Lookers.{length-bare, past_later}

-- one symbol at a depth is one in a row
pub at_one : {S A : Type 0} (depth : A → ℕ) (f : S → Option A) (ps : List (Placed S)) (a : A) → At depth f ps a → (s : S) × (f s ≡ Some a)
    × (ps ≡ (s, depth a) ∷ [])
at_one depth f [] a h = absurd h
at_one depth f (p ∷ []) a h = (p.0, h.1, ap (λ d. (p.0, d) ∷ []) h.0)
at_one depth f (p ∷ q ∷ ps) a h = absurd h

module _ {S A B : Type 0} (limit fuel : ℕ) (depth : A → ℕ) (f : S → Option A) (H : A → List (S × ℕ) → B → Type 0) (m : List S → Type 0)
    (T : A → Looker S B)
    (some : (a : A) → (ps : List (S × ℕ)) × (b : B) × H a ps b)
    (t : S) (x : A) (i : f t ≡ Some x)
    (h : (a : A) → depth a ≤ limit → Reads limit fuel (H a) m (T a)) where
  member : (s : S) (a : A) → f s ≡ Some a → (back : List (S × ℕ)) (b : B) → H a back b → Then (At depth f) H ((s, depth a) ∷ back) b
  member s a e back b k = record { front = (s, depth a) ∷ []; back = back; first = a; whole = refl; begins = (refl, e); goes_on = k }

  fit_read : (s : S) (a : A) → f s ≡ Some a → nat_le (depth a) limit ≡ true → (v : List S)
      → look_both (look_at limit depth f) T (s ∷ v) ≡ T a v
  fit_read s a e c v = ap (λ o. look_then (found_at limit depth o v) T) e ∙ ap (λ b. look_then (fits b a v) T) c

  takes_fit : (s : S) (w : List S) (a : A) → f s ≡ Some a → (c : Bool) → nat_le (depth a) limit ≡ c → (b : B) (rest : List S)
      → length (s ∷ w) < fuel → look_then (fits c a w) T ≡ Ok (b, rest)
      → Took limit (Then (At depth f) H) (look_both (look_at limit depth f) T) (s ∷ w) b rest
  takes_fit s w a e false c b rest few k = absurd (cc)
  takes_fit s w a e true c b rest few k =
      let le : depth a ≤ limit = grind arith in
      let u : Took limit (H a) (T a) w b rest = (h a le).takes w b rest (omega arith) k in
      record {
        front = (s, depth a) ∷ u.front;
        split = ap (λ l. s ∷ l) u.split;
        shallow = (le, u.shallow);
        member = member s a e u.front b u.member;
        local = λ v same. fit_read s a e c (bare u.front ++ v) ∙ u.local v same;
      }

  takes_at : (s : S) (w : List S) (o : Option A) → f s ≡ o → (b : B) (rest : List S) → length (s ∷ w) < fuel
      → look_then (found_at limit depth o w) T ≡ Ok (b, rest)
      → Took limit (Then (At depth f) H) (look_both (look_at limit depth f) T) (s ∷ w) b rest
  takes_at s w None e b rest few k = absurd (cc)
  takes_at s w (Some a) e b rest few k = takes_fit s w a e (nat_le (depth a) limit) refl b rest few k

  stays_behind : (s : S) (a : A) → f s ≡ Some a → nat_le (depth a) limit ≡ true → (e : Fault) (front rest : List S)
      → StaysAt e (T a) front rest → StaysAt e (look_both (look_at limit depth f) T) (s ∷ front) rest
  stays_behind s a c d (bad left) front [] k = tt
  stays_behind s a c d (bad left) front (b ∷ rest) k = λ more. fit_read s a c d (front ++ b ∷ more) ∙ k more
  stays_behind s a c d (deep left) front [] k = tt
  stays_behind s a c d (deep left) front (b ∷ rest) k = λ more. fit_read s a c d (front ++ b ∷ more) ∙ k more
  stays_behind s a c d spent front rest k = tt

  stops_fit : (s : S) (w : List S) (a : A) → f s ≡ Some a → (c : Bool) → nat_le (depth a) limit ≡ c → (e : Fault) → length (s ∷ w) < fuel
      → look_then (fits c a w) T ≡ Err e
      → Stuck limit (Then (At depth f) H) (look_both (look_at limit depth f) T) (s ∷ w) e
  stops_fit s w a d false c e few k =
      let far : limit < depth a = grind arith in
      subst (λ y. Stuck limit (Then (At depth f) H) (look_both (look_at limit depth f) T) (s ∷ w) y)
      (let same : deep (suc (length w)) ≡ e = cc in same)
      (record {
        front = [];
        rest = s ∷ w;
        split = refl;
        shallow = tt;
        more = (s, depth a) ∷ (some a).0;
        value = (some a).1;
        goes_on = member s a d (some a).0 (some a).1 (some a).2;
        fault = (refl, refl, far);
        stays = λ more. ap (λ o. look_then (found_at limit depth o more) T) d ∙ ap (λ b. look_then (fits b a more) T) c;
      })
  stops_fit s w a d true c e few k =
      let le : depth a ≤ limit = grind arith in
      let u : Stuck limit (H a) (T a) w e = (h a le).stops w e (omega arith) k in
      record {
        front = (s, depth a) ∷ u.front;
        rest = u.rest;
        split = ap (λ l. s ∷ l) u.split;
        shallow = (le, u.shallow);
        more = u.more;
        value = u.value;
        goes_on = member s a d (u.front ++ u.more) u.value u.goes_on;
        fault = u.fault;
        stays = stays_behind s a d c e (bare u.front) u.rest u.stays;
      }

  stops_at : (s : S) (w : List S) (o : Option A) → f s ≡ o → (e : Fault) → length (s ∷ w) < fuel
      → look_then (found_at limit depth o w) T ≡ Err e
      → Stuck limit (Then (At depth f) H) (look_both (look_at limit depth f) T) (s ∷ w) e
  stops_at s w None c e few k =
      subst (λ y. Stuck limit (Then (At depth f) H) (look_both (look_at limit depth f) T) (s ∷ w) y)
      (let same : bad (suc (length w)) ≡ e = cc in same)
      (record {
        front = [];
        rest = s ∷ w;
        split = refl;
        shallow = tt;
        more = (t, depth x) ∷ (some x).0;
        value = (some x).1;
        goes_on = member t x i (some x).0 (some x).1 (some x).2;
        fault = refl;
        stays = λ more. ap (λ o. look_then (found_at limit depth o more) T) c;
      })
  stops_at s w (Some a) c e few k = stops_fit s w a c (nat_le (depth a) limit) refl e few k

  one_more : (p : Placed S) (ps : List (S × ℕ)) (r : Look S B) (b : B) (v : List S) → Passes limit fuel ps r b v
      → Passes limit fuel (p ∷ ps) r b v
  one_more p ps (Ok y) b v k = k
  one_more p ps (Err (bad left)) b v k = k
  one_more p ps (Err (deep left)) b v k = past_later limit (p ∷ []) ps left (length v) k
  one_more p ps (Err spent) b v k = omega arith

  passes_fit : (p : Placed S) (back : List (S × ℕ)) (a : A) (b : B) → p.1 ≡ depth a → H a back b → (v : List S) → m v → (c : Bool)
      → nat_le (depth a) limit ≡ c → Passes limit fuel (p ∷ back) (look_then (fits c a (bare back ++ v)) T) b v
  passes_fit p back a b d q v k false c = record {
    front = [];
    symbol = p;
    more = back;
    split = refl;
    place = omega (arith, length-append (bare back) v, length-bare back);
    past = λ s. let le : p.1 ≤ limit = s.0 in let far : limit < depth a = grind arith in absurd (omega arith);
  }
  passes_fit p back a b d q v k true c = let le : depth a ≤ limit = grind arith in
      one_more p back (T a (bare back ++ v)) b v ((h a le).again back b q v k)

  passes_at : (front back : List (S × ℕ)) (a : A) (b : B) → At depth f front a → H a back b → (v : List S) → m v
      → Passes limit fuel (front ++ back) (look_both (look_at limit depth f) T (bare (front ++ back) ++ v)) b v
  passes_at [] back a b p q v k = absurd p
  passes_at (p ∷ []) back a b d q v k =
      subst (λ o. Passes limit fuel (p ∷ back) (look_then (found_at limit depth o (bare back ++ v)) T) b v) (sym d.1)
      (passes_fit p back a b d.0 q v k (nat_le (depth a) limit) refl)
  passes_at (p ∷ o ∷ ps) back a b d q v k = absurd d

  pub lead_reads : Reads limit fuel (Then (At depth f) H) m (look_both (look_at limit depth f) T)
  lead_reads = record {
    made = ((t, depth x) ∷ (some x).0, (some x).1, member t x i (some x).0 (some x).1 (some x).2);
    takes = takes;
    again = λ ps b p v k. subst (λ l. Passes limit fuel l (look_both (look_at limit depth f) T (bare l ++ v)) b v) (sym p.whole)
        (passes_at p.front p.back p.first b p.begins p.goes_on v k);
    stops = stops;
  }
    where
      takes : (w : List S) (b : B) (rest : List S) → length w < fuel → look_both (look_at limit depth f) T w ≡ Ok (b, rest)
          → Took limit (Then (At depth f) H) (look_both (look_at limit depth f) T) w b rest
      takes [] b rest few e = absurd (cc)
      takes (s ∷ w) b rest few e = takes_at s w (f s) refl b rest few e

      stops : (w : List S) (e : Fault) → length w < fuel → look_both (look_at limit depth f) T w ≡ Err e
          → Stuck limit (Then (At depth f) H) (look_both (look_at limit depth f) T) w e
      stops [] e few k =
          subst (λ y. Stuck limit (Then (At depth f) H) (look_both (look_at limit depth f) T) [] y) (let same : bad 0 ≡ e = cc in same)
          (record {
            front = [];
            rest = [];
            split = refl;
            shallow = tt;
            more = (t, depth x) ∷ (some x).0;
            value = (some x).1;
            goes_on = member t x i (some x).0 (some x).1 (some x).2;
            fault = refl;
            stays = tt;
          })
      stops (s ∷ w) e few k = stops_at s w (f s) refl e few k
