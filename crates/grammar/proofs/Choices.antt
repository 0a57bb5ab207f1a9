-- Laws of the definitions of specs/Choices.
use Rattle.std.specs.Prelude.{◌≡◌, ℕ, suc, ◌≤◌, ◌<◌, Bool, true, false, nat_le, List, [], ◌∷◌, ◌++◌, length, Option, Some, None, Ok, Err}
use Rattle.std.specs.Prelude.{refl}
use Rattle.std.proofs.Common.{ap, sym, ◌∙◌, subst, arith, append-nil, inl, inr}
use Rattle.grammar.specs.Grammar.{Nothing, Then, Mapped}
use Rattle.grammar.specs.Depths.{Placed, bare, At, Perhaps, Fault, bad, deep, spent, Look, Looker, look_here, look_mapped, fits}
use Rattle.grammar.specs.Depths.{found_at, look_at, led, look_if, SameHead, Took, StaysAt, Stuck, Passes, Reads}
use Rattle.grammar.proofs.Lookers.{then_reads}
use Rattle.grammar.specs.Choices.{BeginsBy}

abbrev pub Anything : {S : Type 0} → List S → Type 0
Anything v = Unit {0}

-- ---- the same grammar in other words
module _ {S A : Type 0} (limit fuel : ℕ) (G H : List (S × ℕ) → A → Type 0) (n : List S → Type 0) (R : Looker S A)
    (to : (ps : List (S × ℕ)) (a : A) → G ps a → H ps a) (from : (ps : List (S × ℕ)) (a : A) → H ps a → G ps a) where
  pub took_same : (w : List S) (a : A) (rest : List S) → Took limit G R w a rest → Took limit H R w a rest
  took_same w a rest t = record { front = t.front; split = t.split; shallow = t.shallow; member = to t.front a t.member; local = t.local }

  pub stuck_same : (w : List S) (f : Fault) → Stuck limit G R w f → Stuck limit H R w f
  stuck_same w f s = record {
    front = s.front;
    rest = s.rest;
    split = s.split;
    shallow = s.shallow;
    more = s.more;
    value = s.value;
    goes_on = to (s.front ++ s.more) s.value s.goes_on;
    fault = s.fault;
    stays = s.stays;
  }

  pub same_reads : Reads limit fuel G n R → Reads limit fuel H n R
  same_reads g = record {
    made = (g.made.0, g.made.1, to g.made.0 g.made.1 g.made.2);
    takes = λ w a rest few e. took_same w a rest (g.takes w a rest few e);
    again = λ ps a p v k. g.again ps a (from ps a p) v k;
    stops = λ w f few e. stuck_same w f (g.stops w f few e);
  }

-- before less may follow it
pub before_less : {S A : Type 0} (limit fuel : ℕ) (G : List (S × ℕ) → A → Type 0) (n m : List S → Type 0) (R : Looker S A)
    → ((v : List S) → m v → n v) → Reads limit fuel G n R → Reads limit fuel G m R
before_less limit fuel G n m R h g = record {
  made = g.made;
  takes = g.takes;
  again = λ ps a p v k. g.again ps a p v (h v k);
  stops = g.stops;
}

-- with less fuel
pub on_less : {S A : Type 0} (limit fuel less : ℕ) (G : List (S × ℕ) → A → Type 0) (n : List S → Type 0) (R : Looker S A) → less ≤ fuel
    → Reads limit fuel G n R → Reads limit less G n R
on_less {S} {A} limit fuel less G n R h g = record {
  made = g.made;
  takes = λ w a rest few e. g.takes w a rest (omega arith) e;
  again = λ ps a p v k. less_passes ps (R (bare ps ++ v)) a v (g.again ps a p v k);
  stops = λ w f few e. g.stops w f (omega arith) e;
}
  where
    less_passes : (ps : List (S × ℕ)) (r : Look S A) (a : A) (v : List S) → Passes limit fuel ps r a v → Passes limit less ps r a v
    less_passes ps (Ok x) a v k = k
    less_passes ps (Err (bad left)) a v k = k
    less_passes ps (Err (deep left)) a v k = k
    less_passes ps (Err spent) a v k = omega arith

-- ---- nothing, for a value that is known
module _ {S A : Type 0} (limit fuel : ℕ) (a : A) where
  here_takes : (w : List S) (b : A) (rest : List S) → look_here a w ≡ Ok (b, rest)
      → Took limit (Nothing {S = S × ℕ} a) (look_here a) w b rest
  here_takes w b rest e =
      let p : ◌≡◌ {A = A × List S} (a, w) (b, rest) = cc in
      let h : a ≡ b = ap (λ x. x.0) p in
      record { front = []; split = ap (λ x. x.1) p; shallow = tt; member = (refl, sym h); local = λ v same. ap (λ x. Ok (x, v)) h }

  pub here_reads : Reads {S = S} limit fuel (Nothing a) Anything (look_here a)
  here_reads = record {
    made = ([], a, (refl, refl));
    takes = λ w b rest few e. here_takes w b rest e;
    again = λ ps b p v k. here_again ps b p v;
    stops = λ w f few e. absurd (cc);
  }
    where
      here_again : (ps : List (S × ℕ)) (b : A) → Nothing a ps b → (v : List S) → Passes limit fuel ps (look_here a (bare ps ++ v)) b v
      here_again [] b p v = ap (λ x. (x, v)) (sym p.1)
      here_again (q ∷ ps) b p v = absurd (cc (p.0))

-- ---- a value made of the one that is read
module _ {S A B : Type 0} (limit fuel : ℕ) (f : A → B) (G : List (S × ℕ) → A → Type 0) (n : List S → Type 0) (R : Looker S A)
    (g : Reads limit fuel G n R) where
  to_mapped : (ps : List (S × ℕ)) (b : B) → Then G (λ a. Nothing (f a)) ps b → Mapped f G ps b
  to_mapped ps b t = (
    t.first,
    subst (λ l. G l t.first)
        (sym (t.whole ∙ ap (λ l. t.front ++ l) t.goes_on.0 ∙ append-nil t.front)) t.begins,
    t.goes_on.1,
  )

  from_mapped : (ps : List (S × ℕ)) (b : B) → Mapped f G ps b → Then G (λ a. Nothing (f a)) ps b
  from_mapped ps b m = record { front = ps; back = []; first = m.0; whole = sym (append-nil ps); begins = m.1; goes_on = (refl, m.2) }

  no_more : (ps : List (S × ℕ)) (a : A) → G ps a → (qs : List (S × ℕ)) (b : B) → Nothing (f a) qs b → (v : List S) → n v → n (bare qs ++ v)
  no_more ps a q qs b p v k = subst (λ l. n (bare l ++ v)) (sym p.0) k

  pub mapped_reads : Reads limit fuel (Mapped f G) n (look_mapped f R)
  mapped_reads =
      same_reads limit fuel (Then G (λ a. Nothing (f a))) (Mapped f G) n (look_mapped f R) to_mapped from_mapped
      (then_reads limit fuel fuel 0 G (λ a. Nothing (f a)) n n R (λ a. look_here (f a)) g
      (λ ps a p. before_less limit fuel (Nothing (f a)) Anything n (look_here (f a)) (λ v k. tt) (here_reads limit fuel (f a)))
      (λ ps a p. omega arith) (omega arith) no_more)

-- ---- one symbol at a depth
module _ {S A : Type 0} (limit fuel : ℕ) (depth : A → ℕ) (f : S → Option A) where
  fits_takes : (s : S) (w : List S) (x : A) → f s ≡ Some x → (b : Bool) → nat_le (depth x) limit ≡ b → (a : A) (rest : List S)
      → fits b x w ≡ Ok (a, rest) → Took limit (At depth f) (look_at limit depth f) (s ∷ w) a rest
  fits_takes s w x e false c a rest h = absurd (cc)
  fits_takes s w x e true c a rest h =
      let p : ◌≡◌ {A = A × List S} (x, w) (a, rest) = cc in
      let same : x ≡ a = ap (λ y. y.0) p in
      let le : depth x ≤ limit = grind arith in
      record {
        front = (s, depth x) ∷ [];
        split = ap (λ l. s ∷ l) (ap (λ y. y.1) p);
        shallow = (le, tt);
        member = (ap depth same, e ∙ ap (λ y. Some y) same);
        local = λ v k. ap (λ o. found_at limit depth o v) e ∙ ap (λ b. fits b x v) c ∙ ap (λ y. Ok (y, v)) same;
      }

  found_takes : (s : S) (w : List S) (o : Option A) → f s ≡ o → (a : A) (rest : List S) → found_at limit depth o w ≡ Ok (a, rest)
      → Took limit (At depth f) (look_at limit depth f) (s ∷ w) a rest
  found_takes s w None e a rest h = absurd (cc)
  found_takes s w (Some x) e a rest h = fits_takes s w x e (nat_le (depth x) limit) refl a rest h

  at_takes : (w : List S) (a : A) (rest : List S) → look_at limit depth f w ≡ Ok (a, rest)
      → Took limit (At depth f) (look_at limit depth f) w a rest
  at_takes [] a rest h = absurd (cc)
  at_takes (s ∷ w) a rest h = found_takes s w (f s) refl a rest h

  fits_stops : (s : S) (w : List S) (x : A) → f s ≡ Some x → (b : Bool) → nat_le (depth x) limit ≡ b → (e : Fault) → fits b x w ≡ Err e
      → Stuck limit (At depth f) (look_at limit depth f) (s ∷ w) e
  fits_stops s w x c true d e h = absurd (cc)
  fits_stops s w x c false d e h =
      let far : limit < depth x = grind arith in
      subst (λ y. Stuck limit (At depth f) (look_at limit depth f) (s ∷ w) y) (let same : deep (suc (length w)) ≡ e = cc in same)
      (record {
        front = [];
        rest = s ∷ w;
        split = refl;
        shallow = tt;
        more = (s, depth x) ∷ [];
        value = x;
        goes_on = (refl, c);
        fault = (refl, refl, far);
        stays = λ more. ap (λ o. found_at limit depth o more) c ∙ ap (λ b. fits b x more) d;
      })

  found_stops : (t : S) (x : A) → f t ≡ Some x → (s : S) (w : List S) (o : Option A) → f s ≡ o → (e : Fault)
      → found_at limit depth o w ≡ Err e → Stuck limit (At depth f) (look_at limit depth f) (s ∷ w) e
  found_stops t x i s w None c e h =
      subst (λ y. Stuck limit (At depth f) (look_at limit depth f) (s ∷ w) y) (let same : bad (suc (length w)) ≡ e = cc in same)
      (record {
        front = [];
        rest = s ∷ w;
        split = refl;
        shallow = tt;
        more = (t, depth x) ∷ [];
        value = x;
        goes_on = (refl, i);
        fault = refl;
        stays = λ more. ap (λ o. found_at limit depth o more) c;
      })
  found_stops t x i s w (Some a) c e h = fits_stops s w a c (nat_le (depth a) limit) refl e h

  at_stops : (t : S) (x : A) → f t ≡ Some x → (w : List S) (e : Fault) → look_at limit depth f w ≡ Err e
      → Stuck limit (At depth f) (look_at limit depth f) w e
  at_stops t x i [] e h =
      subst (λ y. Stuck limit (At depth f) (look_at limit depth f) [] y) (let same : bad 0 ≡ e = cc in same)
      (record {
        front = [];
        rest = [];
        split = refl;
        shallow = tt;
        more = (t, depth x) ∷ [];
        value = x;
        goes_on = (refl, i);
        fault = refl;
        stays = tt;
      })
  at_stops t x i (s ∷ w) e h = found_stops t x i s w (f s) refl e h

  at_passes : (p : Placed S) (a : A) (v : List S) → p.1 ≡ depth a → (b : Bool) → nat_le (depth a) limit ≡ b
      → Passes limit fuel (p ∷ []) (fits b a v) a v
  at_passes p a v d true e = refl
  at_passes p a v d false e = record {
    front = [];
    symbol = p;
    more = [];
    split = refl;
    place = omega arith;
    past = λ s. let le : p.1 ≤ limit = s.0 in let far : limit < depth a = grind arith in absurd (omega arith);
  }

  at_again : (ps : List (S × ℕ)) (a : A) → At depth f ps a → (v : List S) → Passes limit fuel ps (look_at limit depth f (bare ps ++ v)) a v
  at_again [] a h v = absurd h
  at_again (p ∷ []) a h v = subst (λ o. Passes limit fuel (p ∷ []) (found_at limit depth o v) a v) (sym h.1)
      (at_passes p a v h.0 (nat_le (depth a) limit) refl)
  at_again (p ∷ q ∷ ps) a h v = absurd h

  pub at_reads : (t : S) (x : A) → f t ≡ Some x → Reads limit fuel (At depth f) Anything (look_at limit depth f)
  at_reads t x i = record {
    made = ((t, depth x) ∷ [], x, (refl, i));
    takes = λ w a rest few e. at_takes w a rest e;
    again = λ ps a p v k. at_again ps a p v;
    stops = λ w e few h. at_stops t x i w e h;
  }

  pub at-length : (ps : List (S × ℕ)) (a : A) → At depth f ps a → 1 ≤ length ps
  at-length [] a h = absurd h
  at-length (p ∷ []) a h = omega arith
  at-length (p ∷ q ∷ ps) a h = absurd h

-- ---- a spelling or nothing, told apart by the first symbol
-- f has no value for the first symbol
abbrev pub EndsBefore : {S K : Type 0} → (S → Option K) → List S → Type 0
EndsBefore f [] = Unit {0}
EndsBefore f (s ∷ symbols) = f s ≡ None

module _ {S A K : Type 0} (limit fuel : ℕ) (f : S → Option K) (a : A) (G : List (S × ℕ) → A → Type 0) (m : List S → Type 0)
    (R : Looker S A) where
  -- before what begins like symbols for which f has a value, it is the reader
  lead : (s : S) (w front rest v : List S) (k : K) → f s ≡ Some k → s ∷ w ≡ front ++ rest → SameHead rest v
      → look_if f a R (front ++ v) ≡ R (front ++ v)
  lead s w [] [] v k e split same = absurd (cc)
  lead s w [] (t ∷ rest) [] k e split same = absurd same
  lead s w [] (t ∷ rest) (u ∷ v) k e split same =
      let head : s ≡ t = cc in
      ap (λ o. led o R (Ok (a, u ∷ v)) (u ∷ v)) (ap f (sym (head ∙ same)) ∙ e)
  lead s w (t ∷ front) rest v k e split same =
      let head : s ≡ t = cc in
      ap (λ o. led o R (Ok (a, t ∷ (front ++ v))) (t ∷ (front ++ v))) (ap f (sym head) ∙ e)

  lead_stays : (s : S) (w front rest : List S) (k : K) → f s ≡ Some k → s ∷ w ≡ front ++ rest → (e : Fault) → StaysAt e R front rest
      → StaysAt e (look_if f a R) front rest
  lead_stays s w front [] k h split (bad left) t = tt
  lead_stays s w front (b ∷ rest) k h split (bad left) t = λ more. lead s w front (b ∷ rest) (b ∷ more) k h split refl ∙ t more
  lead_stays s w front [] k h split (deep left) t = tt
  lead_stays s w front (b ∷ rest) k h split (deep left) t = λ more. lead s w front (b ∷ rest) (b ∷ more) k h split refl ∙ t more
  lead_stays s w front rest k h split spent t = tt

  none_again : (s : S) (w : List S) → f s ≡ None → (v : List S) → SameHead (s ∷ w) v → look_if f a R v ≡ Ok (a, v)
  none_again s w e [] same = absurd same
  none_again s w e (t ∷ v) same = ap (λ o. led o R (Ok (a, t ∷ v)) (t ∷ v)) (ap f (sym same) ∙ e)

  end_again : (v : List S) → SameHead [] v → look_if f a R v ≡ Ok (a, v)
  end_again [] same = refl
  end_again (t ∷ v) same = absurd same

  nothing_took : (w : List S) (b : A) (rest : List S) → ((v : List S) → SameHead w v → look_if f a R v ≡ Ok (a, v))
      → ◌≡◌ {A = Look S A} (Ok (a, w)) (Ok (b, rest)) → Took limit (Perhaps a G) (look_if f a R) w b rest
  nothing_took w b rest again e =
      let p : ◌≡◌ {A = A × List S} (a, w) (b, rest) = cc in
      let h : a ≡ b = ap (λ x. x.0) p in
      let k : w ≡ rest = ap (λ x. x.1) p in
      record {
        front = [];
        split = k;
        shallow = tt;
        member = inl (refl, sym h);
        local = λ v same. again v (subst (λ l. SameHead l v) (sym k) same) ∙ ap (λ x. Ok (x, v)) h;
      }

  module _ (g : Reads limit fuel G m R) where
    if_takes_at : (s : S) (w : List S) (o : Option K) → f s ≡ o → (b : A) (rest : List S) → length (s ∷ w) < fuel
        → led o R (Ok (a, s ∷ w)) (s ∷ w) ≡ Ok (b, rest) → Took limit (Perhaps a G) (look_if f a R) (s ∷ w) b rest
    if_takes_at s w None e b rest few h = nothing_took (s ∷ w) b rest (none_again s w e) h
    if_takes_at s w (Some k) e b rest few h =
        let t : Took limit G R (s ∷ w) b rest = g.takes (s ∷ w) b rest few h in
        record {
          front = t.front;
          split = t.split;
          shallow = t.shallow;
          member = inr t.member;
          local = λ v same. lead s w (bare t.front) rest v k e t.split same ∙ t.local v same;
        }

    if_takes : (w : List S) (b : A) (rest : List S) → length w < fuel → look_if f a R w ≡ Ok (b, rest)
        → Took limit (Perhaps a G) (look_if f a R) w b rest
    if_takes [] b rest few h = nothing_took [] b rest end_again h
    if_takes (s ∷ w) b rest few h = if_takes_at s w (f s) refl b rest few h

    if_stops_at : (s : S) (w : List S) (o : Option K) → f s ≡ o → (e : Fault) → length (s ∷ w) < fuel
        → led o R (Ok (a, s ∷ w)) (s ∷ w) ≡ Err e → Stuck limit (Perhaps a G) (look_if f a R) (s ∷ w) e
    if_stops_at s w None c e few h = absurd (cc)
    if_stops_at s w (Some k) c e few h =
        let t : Stuck limit G R (s ∷ w) e = g.stops (s ∷ w) e few h in
        record {
          front = t.front;
          rest = t.rest;
          split = t.split;
          shallow = t.shallow;
          more = t.more;
          value = t.value;
          goes_on = inr t.goes_on;
          fault = t.fault;
          stays = lead_stays s w (bare t.front) t.rest k c t.split e t.stays;
        }

    if_stops : (w : List S) (e : Fault) → length w < fuel → look_if f a R w ≡ Err e → Stuck limit (Perhaps a G) (look_if f a R) w e
    if_stops [] e few h = absurd (cc)
    if_stops (s ∷ w) e few h = if_stops_at s w (f s) refl e few h

    nothing_passes : (b : A) (v : List S) → b ≡ a → EndsBefore f v → Passes limit fuel [] (look_if f a R v) b v
    nothing_passes b [] e h = ap (λ x. (x, [])) (sym e)
    nothing_passes b (s ∷ v) e h = subst (λ o. Passes limit fuel [] (led o R (Ok (a, s ∷ v)) (s ∷ v)) b (s ∷ v)) (sym h)
        (ap (λ x. (x, s ∷ v)) (sym e))

    some_passes : (ps : List (S × ℕ)) (b : A) → G ps b → BeginsBy f ps → (v : List S) → m v
        → Passes limit fuel ps (look_if f a R (bare ps ++ v)) b v
    some_passes [] b p h v k = absurd h
    some_passes (q ∷ ps) b p h v k =
        subst (λ o. Passes limit fuel (q ∷ ps) (led o R (Ok (a, q.0 ∷ (bare ps ++ v))) (q.0 ∷ (bare ps ++ v))) b v) (sym h.1)
        (g.again (q ∷ ps) b p v k)

    if_again : (begins : (ps : List (S × ℕ)) (b : A) → G ps b → BeginsBy f ps) (ps : List (S × ℕ)) (b : A) → Perhaps a G ps b
        → (v : List S) → m v → EndsBefore f v → Passes limit fuel ps (look_if f a R (bare ps ++ v)) b v
    if_again begins ps b (inl e) v k h = subst (λ l. Passes limit fuel l (look_if f a R (bare l ++ v)) b v) (sym e.0)
        (nothing_passes b v e.1 h)
    if_again begins ps b (inr p) v k h = some_passes ps b p (begins ps b p) v k

    pub if_reads : ((ps : List (S × ℕ)) (b : A) → G ps b → BeginsBy f ps) → ((v : List S) → m v → EndsBefore f v)
        → Reads limit fuel (Perhaps a G) m (look_if f a R)
    if_reads begins ends = record {
      made = ([], a, inl (refl, refl));
      takes = if_takes;
      again = λ ps b p v k. if_again begins ps b p v k (ends v k);
      stops = if_stops;
    }
