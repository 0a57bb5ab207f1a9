-- What a reader of all symbols answers, by the grammar alone: the value, or the first symbol that does not go on or
-- is past the limit.
use Rattle.std.specs.Prelude.{◌≡◌, ℕ, suc, ◌<◌, List, [], ◌∷◌, ◌++◌, length, Ok, Err}
use Rattle.grammar.specs.Grammar.{Grammar}
use Rattle.grammar.specs.Depths.{Placed, bare, Shallow, bad, Looker, look_both}

-- The symbols spell the value, none of them past the limit.
pub record Spells {S A : Type 0} (limit : ℕ) (G : List (S × ℕ) → A → Type 0) (symbols : List S) (a : A) : Type 0 where
  pub placed : List (S × ℕ)
  pub whole : symbols ≡ bare placed
  pub shallow : Shallow limit placed
  pub member : G placed a

-- no spelling begins with these symbols and the first of the rest; where nothing is left, none has just these symbols
abbrev pub NoneGoesOn : {S A : Type 0} → Grammar (Placed S) A → List S → List S → Type 0
NoneGoesOn {S} {A} G front [] = (ps : List (S × ℕ)) (a : A) → G ps a → bare ps ≡ front → ⊥
NoneGoesOn {S} {A} G front (s ∷ rest) = (ps : List (S × ℕ)) (a : A) → G ps a → (more : List S) → bare ps ≡ front ++ s ∷ more → ⊥

-- Behind the front of a spelling, no symbol of it past the limit, comes the first symbol that no spelling with the
-- same symbols before it has, or the end.
pub record Breaks {S A : Type 0} (limit : ℕ) (G : List (S × ℕ) → A → Type 0) (symbols : List S) (left : ℕ) : Type 0 where
  pub front : List (S × ℕ)
  pub rest : List S
  pub split : symbols ≡ bare front ++ rest
  pub place : left ≡ length rest
  pub shallow : Shallow limit front
  pub more : List (S × ℕ)
  pub value : A
  pub goes_on : G (front ++ more) value
  pub none : NoneGoesOn G (bare front) rest

-- no spelling that begins with these symbols has them all within the limit
abbrev pub NoneWithin : {S A : Type 0} → ℕ → Grammar (Placed S) A → List S → Type 0
NoneWithin {S} {A} limit G front = (ps more : List (S × ℕ)) (a : A) → G (ps ++ more) a → bare ps ≡ front → Shallow limit ps → ⊥

-- Behind the front of a spelling, no symbol of it past the limit, comes the first symbol that is past it; and no spelling that
-- begins with the same symbols has them all within the limit.
pub record Deepens {S A : Type 0} (limit : ℕ) (G : List (S × ℕ) → A → Type 0) (symbols : List S) (left : ℕ) : Type 0 where
  pub front : List (S × ℕ)
  pub symbol : S
  pub depth : ℕ
  pub rest : List S
  pub split : symbols ≡ bare front ++ symbol ∷ rest
  pub place : left ≡ suc (length rest)
  pub shallow : Shallow limit front
  pub past : limit < depth
  pub more : List (S × ℕ)
  pub value : A
  pub goes_on : G (front ++ (symbol, depth) ∷ more) value
  pub none : NoneWithin limit G (bare front ++ symbol ∷ [])

-- nothing is left
abbrev pub look_end : {S A : Type 0} → A → Looker S A
look_end a [] = Ok (a, [])
look_end a (s ∷ symbols) = Err (bad (suc (length symbols)))

-- a reader that reads all symbols
abbrev pub look_whole : {S A : Type 0} → Looker S A → Looker S A
look_whole read = look_both read look_end
