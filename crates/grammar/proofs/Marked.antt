-- Laws of the definitions of specs/Marked.
use Rattle.std.specs.Prelude.{◌≡◌, ℕ, ◌<◌, List, [], ◌∷◌, ◌++◌, length, Ok, Err, refl}
use Rattle.std.proofs.Common.{ap, sym, ◌∙◌, subst}
use Rattle.grammar.specs.Depths.{bare, Shallow, Fault, bad, deep, spent, Look, Looker, look_then, look_here, SameHead, Took, StaysAt}
use Rattle.grammar.specs.Depths.{Stuck, Passes, Reads}
use Rattle.grammar.specs.Marked.{Marked, first_mark, look_marked}

module _ {S A : Type 0} (limit fuel : ℕ) (mark : S → ℕ) (G : List (S × ℕ) → A → Type 0) (n : List S → Type 0) (R : Looker S A)
    (some : (a : A) → G [] a → ⊥) where
  to_marked : (ps : List (S × ℕ)) (a : A) → G ps a → Marked mark G ps (a, first_mark mark (bare ps))
  to_marked [] a g = absurd (some a g)
  to_marked (p ∷ ps) a g = (g, refl)

  took_marked : (w : List S) (a : A) (u : List S) (front : List (S × ℕ)) → w ≡ bare front ++ u → Shallow limit front → G front a
      → ((v : List S) → SameHead u v → R (bare front ++ v) ≡ Ok (a, v))
      → Took limit (Marked mark G) (look_marked mark R) w (a, first_mark mark w) u
  took_marked w a u [] split shallow g local = absurd (some a g)
  took_marked w a u (p ∷ ps) split shallow g local = record {
    front = p ∷ ps;
    split = split;
    shallow = shallow;
    member = (g, ap (first_mark mark) split);
    local = λ v same. ap (λ r. look_then r (λ b. look_here (b, mark p.0))) (local v same) ∙ ap (λ k. Ok ((a, k), v))
        (sym (ap (first_mark mark) split));
  }

  stays_marked : (f : Fault) (front rest : List S) → StaysAt f R front rest → StaysAt f (look_marked mark R) front rest
  stays_marked (bad left) front [] h = tt
  stays_marked (bad left) front (s ∷ rest) h = λ more. ap (λ r. look_then r (λ a. look_here (a, first_mark mark (front ++ s ∷ more))))
      (h more)
  stays_marked (deep left) front [] h = tt
  stays_marked (deep left) front (s ∷ rest) h = λ more. ap (λ r. look_then r (λ a. look_here (a, first_mark mark (front ++ s ∷ more))))
      (h more)
  stays_marked spent front rest h = tt

  pass_marked : (ps : List (S × ℕ)) (r : Look S A) (a : A) (v : List S) (k j : ℕ) → Passes limit fuel ps r a v → j ≡ k
      → Passes {S = S} {A = A × ℕ} limit fuel ps (look_then {B = A × ℕ} r (λ b. look_here (b, k))) (a, j) v
  pass_marked ps (Ok y) a v k j h e = ap (λ z. ((z.0, k), z.1)) h ∙ ap (λ i. ((a, i), v)) (sym e)
  pass_marked ps (Err (bad left)) a v k j h e = h
  pass_marked ps (Err (deep left)) a v k j h e = h
  pass_marked ps (Err spent) a v k j h e = h

  module _ (g : Reads limit fuel G n R) where
    takes_by : (w : List S) (r : Look S A) → R w ≡ r → (x : A × ℕ) (rest : List S) → length w < fuel
        → look_then {B = A × ℕ} r (λ a. look_here (a, first_mark mark w)) ≡ Ok (x, rest)
        → Took limit (Marked mark G) (look_marked mark R) w x rest
    takes_by w (Err f) e x rest few k = absurd (cc)
    takes_by w (Ok y) e x rest few k =
        let t : Took limit G R w y.0 y.1 = g.takes w y.0 y.1 few e in
        let p : ◌≡◌ {A = (A × ℕ) × List S} ((y.0, first_mark mark w), y.1) (x, rest) = cc in
        subst (λ (q : (A × ℕ) × List S). Took limit (Marked mark G) (look_marked mark R) w q.0 q.1) p
        (took_marked w y.0 y.1 t.front t.split t.shallow t.member t.local)

    stops_by : (w : List S) (r : Look S A) → R w ≡ r → (f : Fault) → length w < fuel
        → look_then {B = A × ℕ} r (λ a. look_here (a, first_mark mark w)) ≡ Err f → Stuck limit (Marked mark G) (look_marked mark R) w f
    stops_by w (Ok y) e f few k = absurd (cc)
    stops_by w (Err o) e f few k =
        let same : o ≡ f = cc in
        let s : Stuck limit G R w f = g.stops w f few (e ∙ ap (λ x. Err x) same) in
        record {
          front = s.front;
          rest = s.rest;
          split = s.split;
          shallow = s.shallow;
          more = s.more;
          value = (s.value, first_mark mark (bare (s.front ++ s.more)));
          goes_on = to_marked (s.front ++ s.more) s.value s.goes_on;
          fault = s.fault;
          stays = stays_marked f (bare s.front) s.rest s.stays;
        }

    marked_again : (ps : List (S × ℕ)) (x : A × ℕ) → Marked mark G ps x → (v : List S) → n v
        → Passes limit fuel ps (look_marked mark R (bare ps ++ v)) x v
    marked_again [] x m v k = absurd m
    marked_again (p ∷ ps) x m v k = pass_marked (p ∷ ps) (R (bare (p ∷ ps) ++ v)) x.0 v (mark p.0) x.1 (g.again (p ∷ ps) x.0 m.0 v k) m.1

    pub marked_reads : Reads limit fuel (Marked mark G) n (look_marked mark R)
    marked_reads = record {
      made = (g.made.0, (g.made.1, first_mark mark (bare g.made.0)), to_marked g.made.0 g.made.1 g.made.2);
      takes = λ w x rest few e. takes_by w (R w) refl x rest few e;
      again = marked_again;
      stops = λ w f few e. stops_by w (R w) refl f few e;
    }
