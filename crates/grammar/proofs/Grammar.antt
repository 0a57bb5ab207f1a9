-- Laws of the definitions of specs/Grammar.
use Rattle.std.specs.Prelude.{◌≡◌, ℕ, zero, suc, Bool, true, List, [], ◌∷◌, ◌++◌, length, Option, Some, refl}
use Rattle.std.proofs.Common.{ap}
use Rattle.grammar.specs.Grammar.{Begins, Grammar, Mapped, OneOf, Then, Times}

-- one symbol, for which f has a value
abbrev pub One : {S A : Type 0} → (S → Option A) → Grammar S A
One f [] a = ⊥
One f (s ∷ []) a = f s ≡ Some a
One f (s ∷ t ∷ symbols) a = ⊥

-- one symbol, and behind it a spelling by a grammar that the symbol chooses
abbrev pub Choice : {S A B : Type 0} → (S → Option A) → (A → Grammar S B) → Grammar S B
Choice f H = Then (One f) H

-- ---- how a spelling begins
pub begins_then : {S A B : Type 0} (G : Grammar S A) (H : A → Grammar S B) → Begins G [] → ((a : A) → Begins (H a) [])
    → Begins (Then G H) []
begins_then G H g h =
    let u : Begins (H g.value) [] = h g.value in
    record {
      more = g.more ++ u.more;
      value = u.value;
      spelled = record { front = g.more; back = u.more; first = g.value; whole = refl; begins = g.spelled; goes_on = u.spelled };
    }

pub begins_mapped : {S A B : Type 0} (f : A → B) (G : Grammar S A) → Begins G [] → Begins (Mapped f G) []
begins_mapped f G g = record { more = g.more; value = f g.value; spelled = (g.value, g.spelled, refl) }

pub begins_one_of : {S : Type 0} (is : S → Bool) (s : S) → is s ≡ true → Begins (OneOf is) []
begins_one_of is s e = record { more = s ∷ []; value = s; spelled = (refl, e) }

pub begins_times : {S A : Type 0} (G : Grammar S A) → Begins G [] → (n : ℕ) → Begins (Times n G) []
begins_times G some zero = record { more = []; value = []; spelled = refl }
begins_times G some (suc n) =
    let u : Begins (Times n G) [] = begins_times G some n in
    record { more = some.more ++ u.more; value = some.value ∷ u.value; spelled = (some.more, u.more, refl, some.spelled, u.spelled) }

-- where every spelling by one grammar is one by the other
pub begins_same : {S A : Type 0} (G H : Grammar S A) → ((symbols : List S) (a : A) → G symbols a → H symbols a) → (front : List S)
    → Begins G front → Begins H front
begins_same G H to front g = record { more = g.more; value = g.value; spelled = to (front ++ g.more) g.value g.spelled }

-- a row is as long as its number says
pub length-times : {S A : Type 0} (G : Grammar S A) (n : ℕ) (symbols : List S) (xs : List A) → Times n G symbols xs → length xs ≡ n
length-times G zero symbols [] s = refl
length-times G zero symbols (a ∷ xs) s = absurd s
length-times G (suc n) symbols [] s = absurd s
length-times G (suc n) symbols (a ∷ xs) s = ap suc (length-times G n s.1 xs s.4)
