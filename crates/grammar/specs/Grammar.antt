-- Grammars: which lists of symbols spell a value. They name no reader.
use Rattle.std.specs.Prelude.{◌≡◌, ℕ, zero, suc, Bool, true, List, [], ◌∷◌, ◌++◌, length}

-- which symbols spell which value
abbrev pub Grammar : Type 0 → Type 0 → Type 1
Grammar S A = List S → A → Type 0

-- no symbol, for a value that is known
abbrev pub Nothing : {S A : Type 0} → A → Grammar S A
Nothing a symbols b = (symbols ≡ []) × (b ≡ a)

-- one symbol that passes a test
abbrev pub OneOf : {S : Type 0} → (S → Bool) → Grammar S S
OneOf is [] s = ⊥
OneOf is (t ∷ []) s = (t ≡ s) × (is t ≡ true)
OneOf is (t ∷ u ∷ symbols) s = ⊥

-- a spelling of a value, and behind it one by a grammar that the value chooses
pub record Then {S A B : Type 0} (G : List S → A → Type 0) (H : A → List S → B → Type 0) (symbols : List S) (b : B) : Type 0 where
  pub front : List S
  pub back : List S
  pub first : A
  pub whole : symbols ≡ front ++ back
  pub begins : G front first
  pub goes_on : H first back b

-- the spelling of a value of which b is made
abbrev pub Mapped : {S A B : Type 0} → (A → B) → Grammar S A → Grammar S B
Mapped {S} {A} f G symbols b = (a : A) × G symbols a × (b ≡ f a)

-- n spellings, one behind another
abbrev pub Times : {S A : Type 0} → (n : ℕ) → Grammar S A → Grammar S (List A)
Times zero G symbols [] = symbols ≡ []
Times zero G symbols (a ∷ more) = ⊥
Times (suc n) G symbols [] = ⊥
Times {S} (suc n) G symbols (a ∷ more) = (front : List S) × (back : List S) × (symbols ≡ front ++ back) × G front a × Times n G back more

-- the spelling of a number, and so many spellings
abbrev pub Counted : {S A : Type 0} → Grammar S ℕ → Grammar S A → Grammar S (List A)
Counted {S} N G symbols xs = (size : List S) × (rest : List S) × (symbols ≡ size ++ rest) × N size (length xs) × Times (length xs) G rest xs

-- some spelling begins with these symbols
pub record Begins {S A : Type 0} (G : List S → A → Type 0) (front : List S) : Type 0 where
  pub more : List S
  pub value : A
  pub spelled : G (front ++ more) value
