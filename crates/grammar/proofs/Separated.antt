-- Laws of the definitions of specs/Separated.
use Rattle.std.specs.Prelude.{◌≡◌, ℕ, List, [], ◌∷◌, ◌++◌, Option, Some, refl}
use Rattle.std.proofs.Common.{ap, sym, ◌∙◌, subst, arith, append_assoc, append-nil}
use Rattle.grammar.specs.Grammar.{Grammar, Then, Mapped}
use Rattle.grammar.specs.Depths.{Placed, bare, At, Steps, no_step, step_on, Looker, look_mapped, look_at, look_many, Reads}
use Rattle.grammar.proofs.Lookers.{then_reads}
use Rattle.grammar.specs.Choices.{BeginsBy}
use Rattle.grammar.proofs.Choices.{Anything, same_reads, mapped_reads, at_reads, EndsBefore}
use Rattle.grammar.proofs.InSteps.{many_reads}
use Rattle.grammar.proofs.Leads.{at_one}
use Rattle.grammar.specs.Separated.{Separated, alone, apart, look_closed, look_next, look_separated}

-- a spelling, and behind it a symbol at this depth for which f has a value
abbrev pub Closed : {S A K : Type 0} → ℕ → (S → Option K) → Grammar (Placed S) A → Grammar (Placed S) A
Closed place f G = Then G (λ a. Mapped (λ k. a) (At (λ k. place) f))

-- one more behind the symbol, with those before it
abbrev pub NextOf : {S A K : Type 0} → ℕ → (S → Option K) → Grammar (Placed S) A → List A → Grammar (Placed S) (List A)
NextOf place f G before = Then (At (λ k. place) f) (λ k. Mapped (λ a. before ++ a ∷ []) G)

-- ---- what is read
module _ {S A K : Type 0} (limit fuel place : ℕ) (f : S → Option K) (G : List (S × ℕ) → A → Type 0) (n : List S → Type 0) (R : Looker S A)
    (g : Reads limit fuel G n R)
    (goes : (s : S) (w : List S) (k : K) → f s ≡ Some k → n (s ∷ w)) (t : S) (x : K) (i : f t ≡ Some x) where
  closes : (ps : List (S × ℕ)) (a : A) → G ps a → (qs : List (S × ℕ)) (b : A) → Mapped (λ k. a) (At (λ k. place) f) qs b → (v : List S)
      → Anything v → n (bare qs ++ v)
  closes ps a p qs b q v m =
      let o = at_one (λ k. place) f qs q.0 q.1 in
      subst (λ l. n (bare l ++ v)) (sym o.2) (goes o.0 v q.0 o.1)

  pub closed_reads : Reads limit fuel (Closed place f G) Anything (look_closed limit place f R)
  closed_reads =
      then_reads limit fuel fuel 0 G (λ a. Mapped (λ k. a) (At (λ k. place) f)) n Anything R
      (λ a. look_mapped (λ k. a) (look_at limit (λ k. place) f)) g
      (λ ps a p. mapped_reads limit fuel (λ k. a) (At (λ k. place) f) Anything (look_at limit (λ k. place) f)
      (at_reads limit fuel (λ k. place) f t x i))
      (λ ps a p. omega arith) (omega arith) closes

module _ {S A K : Type 0} (place : ℕ) (f : S → Option K) (G : List (S × ℕ) → A → Type 0) where
  to_more : (before : List A) (qs : List (S × ℕ)) (all : List A) → Steps (NextOf place f G) before qs all → (ps : List (S × ℕ)) (a : A)
      → G ps a
      → (more : List A) × (all ≡ before ++ more) × Separated place f G (ps ++ qs) (a ∷ more)
  to_more before qs all no_step ps a g = (
    [],
    sym (append-nil before),
    subst (λ l. Separated place f G l (a ∷ [])) (sym (append-nil ps)) (alone g),
  )
  to_more before qs all (step_on {b = so_far} {front = front} {back = back} q steps) ps a g =
      let o = at_one (λ k. place) f q.front q.first q.begins in
      let b : A = q.goes_on.0 in
      let u = to_more so_far back all steps q.back b q.goes_on.1 in
      let whole : ps ++ (front ++ back) ≡ ps ++ (o.0, place) ∷ (q.back ++ back) =
      ap (λ l. ps ++ (l ++ back)) (q.whole ∙ ap (λ l. l ++ q.back) o.2) in (
        b ∷ u.0,
        u.1 ∙ ap (λ l. l ++ u.0) q.goes_on.2 ∙ append_assoc before (b ∷ []) u.0,
        subst (λ l. Separated place f G l (a ∷ b ∷ u.0)) (sym whole) (apart o.0 q.first g o.1 u.2),
      )

  pub to_separated : (ps : List (S × ℕ)) (all : List A) → Then G (λ a. Steps (NextOf place f G) (a ∷ [])) ps all
      → Separated place f G ps all
  to_separated ps all t =
      let u = to_more (t.first ∷ []) t.back all t.goes_on t.front t.first t.begins in
      subst (λ l. Separated place f G l all) (sym t.whole) (subst (λ l. Separated place f G (t.front ++ t.back) l) (sym u.1) u.2)

  record Split (ps : List (S × ℕ)) (all : List A) : Type 0 where
    front : List (S × ℕ)
    back : List (S × ℕ)
    first : A
    whole : ps ≡ front ++ back
    begins : G front first
    steps : (before : List A) → Steps (NextOf place f G) (before ++ first ∷ []) back (before ++ all)

  split : (ps : List (S × ℕ)) (all : List A) → Separated place f G ps all → Split ps all
  split ps all (alone {a = a} g) = record {
    front = ps;
    back = [];
    first = a;
    whole = sym (append-nil ps);
    begins = g;
    steps = λ before. no_step;
  }
  split ps all (apart {ps = front} {qs = qs} {a = a} {more = more} s k g e rest) =
      let u = split qs more rest in
      record {
        front = front;
        back = (s, place) ∷ qs;
        first = a;
        whole = refl;
        begins = g;
        steps = λ before.
            subst (λ l. Steps (NextOf place f G) (before ++ a ∷ []) ((s, place) ∷ l) (before ++ a ∷ more)) (sym u.whole)
            (step_on {front = (s, place) ∷ u.front}
            (record {
              front = (s, place) ∷ [];
              back = u.front;
              first = k;
              whole = refl;
              begins = (refl, e);
              goes_on = (u.first, u.begins, refl);
            })
            (subst (λ l. Steps (NextOf place f G) ((before ++ a ∷ []) ++ u.first ∷ []) u.back l) (append_assoc before (a ∷ []) more)
            (u.steps (before ++ a ∷ []))));
      }

  pub from_separated : (ps : List (S × ℕ)) (all : List A) → Separated place f G ps all
      → Then G (λ a. Steps (NextOf place f G) (a ∷ [])) ps all
  from_separated ps all s =
      let u = split ps all s in
      record { front = u.front; back = u.back; first = u.first; whole = u.whole; begins = u.begins; goes_on = u.steps [] }

-- What may follow an item is the symbol or what may follow all.
module _ {S A K : Type 0} (limit fuel place : ℕ) (f : S → Option K) (G : List (S × ℕ) → A → Type 0) (n m : List S → Type 0)
    (R : Looker S A) (g : Reads limit fuel G n R)
    (ends : (v : List S) → m v → EndsBefore f v)
    (last : (v : List S) → m v → n v)
    (goes : (s : S) (w : List S) (k : K) → f s ≡ Some k → n (s ∷ w))
    (t : S) (x : K) (i : f t ≡ Some x) where
  next_reads : (before : List A) → Reads limit fuel (NextOf place f G before) n (look_next limit place f R before)
  next_reads before =
      then_reads limit fuel fuel 0 (At (λ k. place) f) (λ k. Mapped (λ a. before ++ a ∷ []) G) Anything n (look_at limit (λ k. place) f)
      (λ k. look_mapped (λ a. before ++ a ∷ []) R)
      (at_reads limit fuel (λ k. place) f t x i)
      (λ ps k p. mapped_reads limit fuel (λ a. before ++ a ∷ []) G n R g)
      (λ ps k p. omega arith) (omega arith) (λ ps k p qs b q v j. tt)

  next_begins : (before : List A) (ps : List (S × ℕ)) (all : List A) → NextOf place f G before ps all → BeginsBy f ps
  next_begins before ps all q =
      let o = at_one (λ k. place) f q.front q.first q.begins in
      subst (λ l. BeginsBy f l) (sym (q.whole ∙ ap (λ l. l ++ q.back) o.2)) (q.first, o.1)

  more_reads : (before : List A) → Reads limit fuel (Steps (NextOf place f G) before) m
      (look_many f (look_next limit place f R) fuel before)
  more_reads before =
      many_reads limit fuel f (λ l. Unit {0}) (NextOf place f G) n m (look_next limit place f R)
      (λ l u. next_reads l) (λ l u ps b q. tt) (λ l u. next_begins l) ends last goes fuel (omega arith) before tt

  begin_next : (ps : List (S × ℕ)) (a : A) → G ps a → (qs : List (S × ℕ)) (all : List A) → Steps (NextOf place f G) (a ∷ []) qs all
      → (v : List S) → m v → n (bare qs ++ v)
  begin_next ps a p qs all no_step v k = last v k
  begin_next ps a p qs all (step_on {b = b} {front = front} {back = back} q steps) v k =
      let o = at_one (λ k. place) f q.front q.first q.begins in
      subst (λ l. n (bare (l ++ back) ++ v)) (sym (q.whole ∙ ap (λ l. l ++ q.back) o.2)) (goes o.0 (bare (q.back ++ back) ++ v) q.first o.1)

  pub separated_reads : Reads limit fuel (Separated place f G) m (look_separated limit place f fuel R)
  separated_reads =
      same_reads limit fuel (Then G (λ a. Steps (NextOf place f G) (a ∷ []))) (Separated place f G) m
      (look_separated limit place f fuel R) (to_separated place f G) (from_separated place f G)
      (then_reads limit fuel fuel 0 G (λ a. Steps (NextOf place f G) (a ∷ [])) n m R
      (λ a. look_many f (look_next limit place f R) fuel (a ∷ []))
      g (λ ps a p. more_reads (a ∷ [])) (λ ps a p. omega arith) (omega arith) begin_next)
