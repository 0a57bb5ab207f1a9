-- Laws of the definitions of specs/Sequences.
use Rattle.std.specs.Prelude.{◌≡◌, ℕ, ◌≤◌, List, [], ◌∷◌, ◌++◌, Option, Some, refl}
use Rattle.std.proofs.Common.{ap, sym, ◌∙◌, subst, arith, append_assoc, append-nil}
use Rattle.grammar.specs.Grammar.{Grammar, Nothing, Then, Mapped}
use Rattle.grammar.specs.Depths.{Placed, bare, At, Steps, no_step, step_on, Looker, look_both, look_here, look_mapped, look_at, Reads}
use Rattle.grammar.proofs.Lookers.{then_reads}
use Rattle.grammar.specs.Choices.{BeginsBy}
use Rattle.grammar.proofs.Choices.{Anything, same_reads, here_reads, mapped_reads, at_reads, before_less, EndsBefore}
use Rattle.grammar.proofs.InSteps.{begins_longer, begins_before, many_reads}
use Rattle.grammar.specs.Sequences.{Row, look_row, no_more, one_more}

-- ---- what they owe
-- A symbol that is known by f, and what comes behind it.
module _ {S A B : Type 0} (limit fuel : ℕ) (depth : A → ℕ) (f : S → Option A) (t : S) (x : A)
    (i : f t ≡ Some x) {H : A → List (S × ℕ) → B → Type 0} {m : List S → Type 0} {T : A → Looker S B} where
  pub symbol_reads : ((a : A) → Reads limit fuel (H a) m (T a))
      → Reads limit fuel (Then (At depth f) H) m (look_both (look_at limit depth f) T)
  symbol_reads g =
      then_reads limit fuel fuel 0 (At depth f) H Anything m (look_at limit depth f) T (at_reads limit fuel depth f t x i) (λ ps a p. g a)
      (λ ps a p. omega arith) (omega arith) (λ ps a p qs b q v k. tt)

-- what is read before anything, and what comes behind it
module _ {S A B : Type 0} (limit fuel : ℕ) {G : List (S × ℕ) → A → Type 0} {R : Looker S A} {H : A → List (S × ℕ) → B → Type 0}
    {m : List S → Type 0} {T : A → Looker S B} where
  pub and_reads : Reads limit fuel G Anything R → ((a : A) → Reads limit fuel (H a) m (T a)) → Reads limit fuel (Then G H) m (look_both R T)
  and_reads r g = then_reads limit fuel fuel 0 G H Anything m R T r (λ ps a p. g a) (λ ps a p. omega arith) (omega arith)
      (λ ps a p qs b q v k. tt)

-- a value and no more symbols
pub value_reads : {S A : Type 0} (limit fuel : ℕ) (a : A) {m : List S → Type 0} → Reads limit fuel (Nothing a) m (look_here a)
value_reads limit fuel a {m = m} = before_less limit fuel (Nothing a) Anything m (look_here a) (λ v k. tt) (here_reads limit fuel a)

-- ---- rows
abbrev Appended : {S A : Type 0} → Grammar S A → List A → List S → List A → Type 0
Appended G had = Mapped (λ a. had ++ a ∷ []) G

to_row : {S A : Type 0} (G : Grammar S A) (had : List A) (ps : List S) (bs : List A) → Steps (Appended G) had ps bs
    → Mapped (λ xs. had ++ xs) (Row G) ps bs
to_row G had ps bs no_step = ([], no_more, sym (append-nil had))
to_row G had ps bs (step_on {b = cs} {front = front} {back = back} g h) =
    let m = to_row G cs back bs h in
    let e : bs ≡ had ++ g.0 ∷ m.0 = m.2 ∙ ap (λ l. l ++ m.0) g.2 ∙ append_assoc had (g.0 ∷ []) m.0 in
    (g.0 ∷ m.0, one_more g.1 m.1, e)

from_row : {S A : Type 0} (G : Grammar S A) (had : List A) (ps : List S) (xs : List A) → Row G ps xs → Steps (Appended G) had ps (had ++ xs)
from_row G had ps xs no_more = subst (λ l. Steps (Appended G) had [] l) (sym (append-nil had)) no_step
from_row G had ps xs (one_more {front = front} {back = back} {a = a} {more = more} g h) =
    subst (λ l. Steps (Appended G) had (front ++ back) l) (append_assoc had (a ∷ []) more)
    (step_on (a, g, refl) (from_row G (had ++ a ∷ []) back more h))

from_mapped_row : {S A : Type 0} (G : Grammar S A) (had : List A) (ps : List S) (bs : List A) → Mapped (λ xs. had ++ xs) (Row G) ps bs
    → Steps (Appended G) had ps bs
from_mapped_row G had ps bs m = subst (λ l. Steps (Appended G) had ps l) (sym m.2) (from_row G had ps m.0 m.1)

-- What may follow one is what another begins with, or what may follow the row.
module _ {S A K : Type 0} (limit fuel : ℕ) (f : S → Option K) (G : List (S × ℕ) → A → Type 0) (n m : List S → Type 0) (R : Looker S A)
    (g : Reads limit fuel G n R)
    (begins : (ps : List (S × ℕ)) (a : A) → G ps a → BeginsBy f ps)
    (ends : (v : List S) → m v → EndsBefore f v)
    (last : (v : List S) → m v → n v)
    (goes : (s : S) (w : List S) (k : K) → f s ≡ Some k → n (s ∷ w)) where
  pub row_reads : (count : ℕ) → count ≤ fuel → (had : List A)
      → Reads limit count (Mapped (λ xs. had ++ xs) (Row G)) m (look_row f R count had)
  row_reads count le had =
      same_reads limit count (Steps (Appended G) had) (Mapped (λ xs. had ++ xs) (Row G)) m (look_row f R count had) (to_row G had)
      (from_mapped_row G had)
      (many_reads limit fuel f (λ had. Unit {0}) (Appended G) n m (λ had. look_mapped (λ a. had ++ a ∷ []) R)
      (λ had i. mapped_reads limit fuel (λ a. had ++ a ∷ []) G n R g)
      (λ had i ps bs p. tt)
      (λ had i ps bs p. begins ps p.0 p.1)
      ends last goes count le had tt)

-- what begins with a symbol that is known by f
pub at_begins : {S A : Type 0} (depth : A → ℕ) (f : S → Option A) (ps qs : List (Placed S)) (a : A) → At depth f ps a
    → BeginsBy f (ps ++ qs)
at_begins depth f [] qs a h = absurd h
at_begins depth f (p ∷ []) qs a h = (a, h.1)
at_begins depth f (p ∷ q ∷ ps) qs a h = absurd h

pub then_begins : {S A B : Type 0} (depth : A → ℕ) (f : S → Option A) (H : A → Grammar (Placed S) B) (ps : List (Placed S)) (b : B)
    → Then (At depth f) H ps b → BeginsBy f ps
then_begins depth f H ps b t = subst (λ l. BeginsBy f l) (sym t.whole) (at_begins depth f t.front t.back t.first t.begins)

pub row_follows : {S A K : Type 0} (f : S → Option K) (G : List (S × ℕ) → A → Type 0) (n : List S → Type 0)
    (begins : (ps : List (S × ℕ)) (a : A) → G ps a → BeginsBy f ps)
    (goes : (s : S) (w : List S) (k : K) → f s ≡ Some k → n (s ∷ w)) (ps : List (S × ℕ)) (xs : List A) → Row G ps xs → (v : List S) → n v
    → n (bare ps ++ v)
row_follows f G n begins goes ps xs no_more v k = k
row_follows f G n begins goes ps xs (one_more {front = front} {back = back} {a = a} g h) v k = begins_before f n goes (front ++ back) v
    (begins_longer f front back (begins front a g))

-- ---- a row from its beginning
module _ {S A K : Type 0} (limit fuel : ℕ) (f : S → Option K) (G : List (S × ℕ) → A → Type 0) (n m : List S → Type 0) (R : Looker S A)
    (g : Reads limit fuel G n R)
    (begins : (ps : List (S × ℕ)) (a : A) → G ps a → BeginsBy f ps)
    (ends : (v : List S) → m v → EndsBefore f v)
    (last : (v : List S) → m v → n v)
    (goes : (s : S) (w : List S) (k : K) → f s ≡ Some k → n (s ∷ w)) where
  pub all_reads : Reads limit fuel (Row G) m (look_row f R fuel [])
  all_reads =
      same_reads limit fuel (Mapped (λ xs. [] ++ xs) (Row G)) (Row G) m (look_row f R fuel [])
      (λ ps xs h. subst (λ l. Row G ps l) (sym h.2) h.1) (λ ps xs h. (xs, h, refl))
      (row_reads limit fuel f G n m R g begins ends last goes fuel (omega arith) [])
