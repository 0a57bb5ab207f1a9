-- Spellings with a symbol between each two, as commas, and what is read in front of a closing symbol.
use Rattle.std.specs.Prelude.{◌≡◌, ℕ, List, [], ◌∷◌, ◌++◌, Option, Some}
use Rattle.grammar.specs.Depths.{Looker, look_both, look_mapped, look_at, look_many}

-- at least one spelling, with a symbol at this depth, for which f has a value, between each two
pub data Separated {S A K : Type 0} (place : ℕ) (f : S → Option K) (G : List (S × ℕ) → A → Type 0) : List (S × ℕ) → List A → Type 0 where
  alone : {ps : List (S × ℕ)} {a : A} → G ps a → Separated place f G ps (a ∷ [])
  apart : {ps qs : List (S × ℕ)} {a : A} {more : List A} (s : S) (k : K) → G ps a → f s ≡ Some k → Separated place f G qs more
      → Separated place f G (ps ++ (s, place) ∷ qs) (a ∷ more)

-- ---- reading
-- one spelling, and behind it a closing symbol at this depth, for which f has a value
abbrev pub look_closed : {S A K : Type 0} → ℕ → ℕ → (S → Option K) → Looker S A → Looker S A
look_closed limit place f read = look_both read (λ a. look_mapped (λ k. a) (look_at limit (λ k. place) f))

-- a symbol between, at this depth, for which f has a value, and then one value more, behind those before
abbrev pub look_next : {S A K : Type 0} → ℕ → ℕ → (S → Option K) → Looker S A → List A → Looker S (List A)
look_next limit place f read before = look_both (look_at limit (λ k. place) f) (λ k. look_mapped (λ a. before ++ a ∷ []) read)

-- at most so many values, with a symbol between each two
abbrev pub look_separated : {S A K : Type 0} → ℕ → ℕ → (S → Option K) → ℕ → Looker S A → Looker S (List A)
look_separated limit place f count read = look_both read (λ a. look_many f (look_next limit place f read) count (a ∷ []))
