-- Reading with one symbol of lookahead, where each symbol has a depth, and none may be past a limit.
use Rattle.std.specs.Prelude.{◌≡◌, ℕ, zero, suc, ◌+◌, ◌≤◌, ◌<◌, Bool, true, false, nat_le, List, [], ◌∷◌, ◌++◌, length, Option, Some}
use Rattle.std.specs.Prelude.{None, Result, Ok, Err, ◌⊎◌}
use Rattle.grammar.specs.Grammar.{Grammar}

-- a symbol and its depth
abbrev pub Placed : Type 0 → Type 0
Placed S = S × ℕ

-- the symbols without their depths
abbrev pub bare : {S : Type 0} → List (Placed S) → List S
bare [] = []
bare (p ∷ ps) = p.0 ∷ bare ps

-- no symbol is past the limit
abbrev pub Shallow : {S : Type 0} → ℕ → List (Placed S) → Type 0
Shallow limit [] = Unit {0}
Shallow limit (p ∷ ps) = (p.1 ≤ limit) × Shallow limit ps

-- ---- grammars that say at which depth a symbol stands
-- one symbol, which spells the value that f has for it, and stands at the depth of that value
abbrev pub At : {S A : Type 0} → (A → ℕ) → (S → Option A) → Grammar (Placed S) A
At depth f [] a = ⊥
At depth f (p ∷ []) a = (p.1 ≡ depth a) × (f p.0 ≡ Some a)
At depth f (p ∷ q ∷ ps) a = ⊥

-- a spelling, or nothing for a value that is known
abbrev pub Perhaps : {S A : Type 0} → A → Grammar S A → Grammar S A
Perhaps a G symbols b = ((symbols ≡ []) × (b ≡ a)) ⊎ G symbols b

-- steps one behind another, each from the value before it to the next
pub data Steps {S A : Type 0} (G : A → List S → A → Type 0) : A → List S → A → Type 0 where
  no_step : {a : A} → Steps G a [] a
  step_on : {a b c : A} {front back : List S} → G a front b → Steps G b back c → Steps G a (front ++ back) c

-- ---- readers
-- Why reading stops, and how many symbols are left there: a symbol that does not go on with those before it, one
-- that is past the limit, or a bound on steps that was too small.
pub data Fault : Type 0 where
  bad : (left : ℕ) → Fault
  deep : (left : ℕ) → Fault
  spent : Fault

-- what a reader with one symbol of lookahead found, and what is left, or why it stopped
abbrev pub Look : Type 0 → Type 0 → Type 0
Look S A = Result (A × List S) Fault

-- a reader with one symbol of lookahead
abbrev pub Looker : Type 0 → Type 0 → Type 0
Looker S A = List S → Look S A

-- what is read behind what was found
abbrev pub look_then : {S A B : Type 0} → Look S A → (A → Looker S B) → Look S B
look_then (Ok x) f = f x.0 x.1
look_then (Err e) f = Err e

-- one reader behind another
abbrev pub look_both : {S A B : Type 0} → Looker S A → (A → Looker S B) → Looker S B
look_both read f symbols = look_then (read symbols) f

-- a reader that takes nothing
abbrev pub look_here : {S A : Type 0} → A → Looker S A
look_here a symbols = Ok (a, symbols)

-- a reader whose value is changed
abbrev pub look_mapped : {S A B : Type 0} → (A → B) → Looker S A → Looker S B
look_mapped f read = look_both read (λ a. look_here (f a))

-- behind a symbol whose depth was tested: its value where the test was passed, else a stop at the symbol, as too deep
abbrev pub fits : {S A : Type 0} → Bool → A → Looker S A
fits true a symbols = Ok (a, symbols)
fits false a symbols = Err (deep (suc (length symbols)))

-- behind a symbol: its value, if it has one whose depth is not past the limit; else a stop at the symbol
abbrev pub found_at : {S A : Type 0} → ℕ → (A → ℕ) → Option A → Looker S A
found_at limit depth None symbols = Err (bad (suc (length symbols)))
found_at limit depth (Some a) symbols = fits (nat_le (depth a) limit) a symbols

-- a reader of one symbol, for which f has a value whose depth is not past the limit
abbrev pub look_at : {S A : Type 0} → ℕ → (A → ℕ) → (S → Option A) → Looker S A
look_at limit depth f [] = Err (bad 0)
look_at limit depth f (s ∷ symbols) = found_at limit depth (f s) symbols

-- by the value of the first symbol: what is read where it has one, and else the other answer
abbrev pub led : {S A K : Type 0} → Option K → Looker S A → Look S A → Looker S A
led None read other symbols = other
led (Some k) read other symbols = read symbols

-- what begins with a symbol for which f has a value, or nothing for a value that is known
abbrev pub look_if : {S A K : Type 0} → (S → Option K) → A → Looker S A → Looker S A
look_if f a read [] = Ok (a, [])
look_if f a read (s ∷ symbols) = led (f s) read (Ok (a, s ∷ symbols)) (s ∷ symbols)

-- steps while f has a value for the first symbol, fewer than so many: at 0 reading stops as spent, even where no step follows
abbrev pub look_many : {S A K : Type 0} → (S → Option K) → (A → Looker S A) → ℕ → A → Looker S A
look_many f read zero a symbols = Err spent
look_many f read (suc n) a symbols = look_if f a (look_both (read a) (look_many f read n)) symbols

-- ---- what a reader owes to a grammar
-- they begin alike, or both are empty
abbrev pub SameHead : {S : Type 0} → List S → List S → Type 0
SameHead [] [] = Unit {0}
SameHead (s ∷ symbols) (t ∷ more) = s ≡ t
SameHead [] (t ∷ more) = ⊥
SameHead (s ∷ symbols) [] = ⊥

-- A spelling of the value stands in front of the rest, no symbol of it past the limit;
-- and it is read so before all that begins like the rest.
pub record Took {S A : Type 0} (limit : ℕ) (G : List (S × ℕ) → A → Type 0) (R : List S → Result (A × List S) Fault) (symbols : List S)
    (a : A) (rest : List S) : Type 0 where
  pub front : List (S × ℕ)
  pub split : symbols ≡ bare front ++ rest
  pub shallow : Shallow limit front
  pub member : G front a
  pub local : (v : List S) → SameHead rest v → R (bare front ++ v) ≡ Ok (a, v)

-- where a fault lies, behind the front of a spelling that goes on with some symbols
abbrev pub FaultAt : {S : Type 0} → ℕ → Fault → List S → List (Placed S) → Type 0
FaultAt limit (bad left) rest more = left ≡ length rest
FaultAt limit (deep left) (s ∷ rest) (p ∷ more) = (left ≡ suc (length rest)) × (s ≡ p.0) × (limit < p.1)
FaultAt limit (deep left) [] more = ⊥
FaultAt limit (deep left) (s ∷ rest) [] = ⊥
FaultAt limit spent rest more = ⊥

-- a reader that stops at a symbol does so whatever follows it
abbrev pub StaysAt : {S A : Type 0} → Fault → Looker S A → List S → List S → Type 0
StaysAt (bad left) R front [] = Unit {0}
StaysAt {S} (bad left) R front (s ∷ rest) = (more : List S) → R (front ++ s ∷ more) ≡ Err (bad (suc (length more)))
StaysAt (deep left) R front [] = Unit {0}
StaysAt {S} (deep left) R front (s ∷ rest) = (more : List S) → R (front ++ s ∷ more) ≡ Err (deep (suc (length more)))
StaysAt spent R front rest = Unit {0}

-- The front of a spelling stands there, no symbol of it past the limit, and the fault is behind it.
pub record Stuck {S A : Type 0} (limit : ℕ) (G : List (S × ℕ) → A → Type 0) (R : List S → Result (A × List S) Fault) (symbols : List S)
    (f : Fault) : Type 0 where
  pub front : List (S × ℕ)
  pub rest : List S
  pub split : symbols ≡ bare front ++ rest
  pub shallow : Shallow limit front
  pub more : List (S × ℕ)
  pub value : A
  pub goes_on : G (front ++ more) value
  pub fault : FaultAt limit f rest more
  pub stays : StaysAt f R (bare front) rest

-- Where so many symbols are left, with some behind these, one of these is past the limit already.
pub record PastBy {S : Type 0} (limit : ℕ) (ps : List (S × ℕ)) (left behind : ℕ) : Type 0 where
  pub front : List (S × ℕ)
  pub symbol : S × ℕ
  pub more : List (S × ℕ)
  pub split : ps ≡ front ++ symbol ∷ more
  pub place : left ≡ suc (length more + behind)
  pub past : Shallow limit (front ++ symbol ∷ []) → ⊥

-- a spelling is read, or some symbol of it is found past the limit, or it has more symbols than the fuel
abbrev pub Passes : {S A : Type 0} → (limit fuel : ℕ) → List (Placed S) → Look S A → A → List S → Type 0
Passes limit fuel ps (Ok x) a rest = x ≡ (a, rest)
Passes limit fuel ps (Err (bad left)) a rest = ⊥
Passes limit fuel ps (Err (deep left)) a rest = PastBy limit ps left (length rest)
Passes limit fuel ps (Err spent) a rest = fuel ≤ length ps

-- A reader reads what is spelled and nothing else, of fewer symbols than its fuel and before what may follow, and
-- stops at the first symbol that does not go on or is past the limit.
pub record Reads {S A : Type 0} (limit fuel : ℕ) (G : List (S × ℕ) → A → Type 0) (follow : List S → Type 0)
    (R : List S → Result (A × List S) Fault) : Type 0 where
  pub made : (ps : List (S × ℕ)) × (a : A) × G ps a
  pub takes : (symbols : List S) (a : A) (rest : List S) → length symbols < fuel → R symbols ≡ Ok (a, rest) → Took limit G R symbols a rest
  pub again : (ps : List (S × ℕ)) (a : A) → G ps a → (v : List S) → follow v → Passes limit fuel ps (R (bare ps ++ v)) a v
  pub stops : (symbols : List S) (f : Fault) → length symbols < fuel → R symbols ≡ Err f → Stuck limit G R symbols f
