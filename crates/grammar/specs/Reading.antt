-- Reading symbols from left to right: a value and the symbols behind it, or how many symbols are left
-- from the first bad place on.
use Rattle.std.specs.Prelude.{ℕ, zero, suc, Bool, List, [], ◌∷◌, length, Option, Some, None, Result, Ok, Err, if◌then◌else◌}

-- the value that was read and what is left, or how much was left where reading stopped
abbrev pub Reading : Type 0 → Type 0 → Type 0
Reading S A = Result (A × List S) ℕ

-- a reader of symbols from left to right
abbrev pub Reader : Type 0 → Type 0 → Type 0
Reader S A = List S → Reading S A

-- a value, and then what reads on behind it
abbrev pub read_then : {S A B : Type 0} → Reading S A → (A → Reader S B) → Reading S B
read_then (Ok x) f = f x.0 x.1
read_then (Err left) f = Err left

-- nothing is read
abbrev pub nothing : {S A : Type 0} → A → Reader S A
nothing a symbols = Ok (a, symbols)

-- what is read, under a function
abbrev pub mapped : {S A B : Type 0} → (A → B) → Reader S A → Reader S B
mapped f read symbols = read_then (read symbols) (λ a. nothing (f a))

-- behind a symbol: the value that was found for it, or else a stop at the symbol
abbrev pub found_one : {S A : Type 0} → Option A → Reader S A
found_one None symbols = Err (suc (length symbols))
found_one (Some a) symbols = Ok (a, symbols)

-- one symbol, for which f has a value
abbrev pub one : {S A : Type 0} → (S → Option A) → Reader S A
one f [] = Err 0
one f (s ∷ symbols) = found_one (f s) symbols

-- a symbol that passes a test
abbrev pub if_passing : {S : Type 0} → (S → Bool) → S → Option S
if_passing is s = if is s then Some s else None

-- one symbol that passes a test
abbrev pub one_of : {S : Type 0} → (S → Bool) → Reader S S
one_of is symbols = one (if_passing is) symbols

-- one symbol, which chooses how to read on
abbrev pub choose : {S A B : Type 0} → (S → Option A) → (A → Reader S B) → Reader S B
choose f read symbols = read_then (one f symbols) read

-- n values in a row
abbrev pub times : {S A : Type 0} → (n : ℕ) → Reader S A → Reader S (List A)
times zero read symbols = Ok ([], symbols)
times (suc n) read symbols = read_then (read symbols) (λ a rest. read_then (times n read rest) (λ more after. Ok (a ∷ more, after)))

-- a number, and so many values
abbrev pub counted : {S A : Type 0} → Reader S ℕ → Reader S A → Reader S (List A)
counted count read symbols = read_then (count symbols) (λ n. times n read)

-- what a reader of all symbols answers
abbrev pub whole : {S A : Type 0} → Reading S A → Result A ℕ
whole (Err left) = Err left
whole (Ok (a, [])) = Ok a
whole (Ok (a, s ∷ rest)) = Err (suc (length rest))
