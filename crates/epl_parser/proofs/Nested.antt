-- A part that has a reader of its own is read like its steps one behind another.
use Rattle.std.proofs.Common.{◌≡◌, ℕ, List, [], ◌∷◌, ◌++◌, Result, Ok, Err, refl, sym, ◌∙◌, subst}
use Rattle.grammar.specs.Depths.{bare, Fault, bad, deep, spent, Look, Looker, look_then, look_both, look_here, StaysAt, Took, Stuck}
use Rattle.grammar.specs.Depths.{Passes, Reads}

-- two readers that read alike
pub record Alike {S A : Type 0} (R T : List S → Result (A × List S) Fault) : Type 0 where
  pub reads : (w : List S) → R w ≡ T w

pub alike : {S A : Type 0} {R T : List S → Result (A × List S) Fault} → ((w : List S) → R w ≡ T w) → Alike R T
alike same = record { reads = same }

-- ---- the first step of a part
pub in_step : {S A B C : Type 0} (R : Looker S A) (f : A → Looker S B) (g : B → Looker S C) {h : A → Looker S C}
    → ((a : A) → Alike (look_both (f a) g) (h a)) → Alike (look_both (look_both R f) g) (look_both R h)
in_step {S} {A} {B} {C} R f g {h} rest = record { reads = λ w. step (R w) }
  where
    step : (r : Look S A) → look_then (look_then r f) g ≡ look_then r h
    step (Ok x) = (rest x.0).reads x.1
    step (Err e) = refl

-- ---- all steps of a part, whose value is made of what they read
module _ {S A B D E : Type 0} (P : Looker S A) (Q : A → Looker S B) (v : A → B → D) (g : D → Looker S E) where
  pub two_steps : Alike (look_both (look_both P (λ a. look_both (Q a) (λ b. look_here (v a b)))) g)
      (look_both P (λ a. look_both (Q a) (λ b. g (v a b))))
  two_steps = in_step P (λ a. look_both (Q a) (λ b. look_here (v a b))) g
      (λ a. in_step (Q a) (λ b. look_here (v a b)) g (λ b. alike (λ w. refl)))

module _ {S A B C D E : Type 0} (P : Looker S A) (Q : A → Looker S B) (R : A → B → Looker S C) (v : A → B → C → D)
    (g : D → Looker S E) where
  pub three_steps : Alike (look_both (look_both P (λ a. look_both (Q a) (λ b. look_both (R a b) (λ c. look_here (v a b c))))) g)
      (look_both P (λ a. look_both (Q a) (λ b. look_both (R a b) (λ c. g (v a b c)))))
  three_steps = in_step P (λ a. look_both (Q a) (λ b. look_both (R a b) (λ c. look_here (v a b c)))) g
      (λ a. two_steps (Q a) (R a) (v a) g)

-- ---- what a reader owes, one owes that reads alike
module _ {S A : Type 0} (limit fuel : ℕ) {G : List (S × ℕ) → A → Type 0} {m : List S → Type 0} {R T : Looker S A}
    (g : Reads limit fuel G m R) (same : Alike T R) where
  stays_alike : (f : Fault) (front rest : List S) → StaysAt f R front rest → StaysAt f T front rest
  stays_alike (bad left) front [] h = tt
  stays_alike (bad left) front (s ∷ rest) h = λ more. same.reads (front ++ s ∷ more) ∙ h more
  stays_alike (deep left) front [] h = tt
  stays_alike (deep left) front (s ∷ rest) h = λ more. same.reads (front ++ s ∷ more) ∙ h more
  stays_alike spent front rest h = tt

  took_alike : (w : List S) (a : A) (rest : List S) → Took limit G R w a rest → Took limit G T w a rest
  took_alike w a rest t = record {
    front = t.front;
    split = t.split;
    shallow = t.shallow;
    member = t.member;
    local = λ v begins. same.reads (bare t.front ++ v) ∙ t.local v begins;
  }

  stuck_alike : (w : List S) (f : Fault) → Stuck limit G R w f → Stuck limit G T w f
  stuck_alike w f s = record {
    front = s.front;
    rest = s.rest;
    split = s.split;
    shallow = s.shallow;
    more = s.more;
    value = s.value;
    goes_on = s.goes_on;
    fault = s.fault;
    stays = stays_alike f (bare s.front) s.rest s.stays;
  }

  pub alike_reads : Reads limit fuel G m T
  alike_reads = record {
    made = g.made;
    takes = λ w a rest few e. took_alike w a rest (g.takes w a rest few (sym (same.reads w) ∙ e));
    again = λ ps a p v k. subst (λ r. Passes limit fuel ps r a v) (sym (same.reads (bare ps ++ v))) (g.again ps a p v k);
    stops = λ w f few e. stuck_alike w f (g.stops w f few (sym (same.reads w) ∙ e));
  }
