-- What may stand at a place of a type.
use Rattle.std.specs.Prelude.{◌≡◌, ◌⊎◌, ℕ, ◌≤◌, Bool, true, false, List, [], ◌∷◌, ◌++◌, length, codes}
use Rattle.epl_parser.specs.Program.{RefusesType}

-- some bytes, and a word behind them
abbrev pub trial : List ℕ → List ℕ → List ℕ
trial before word = before ++ 32 ∷ word

-- A word may stand behind these bytes: the parser refuses them with the word nowhere but at their end.
abbrev pub MayStand : List ℕ → List ℕ → Type 0
MayStand before word = (place : ℕ) → RefusesType (trial before word) place → length (trial before word) ≤ place

-- it is true exactly where a statement holds
abbrev pub Decides : Type 0 → Bool → Type 0
Decides P true = P
Decides P false = P → ⊥

-- Of some words, each with what is told of it, the second list has what is told of those for which a statement holds, in their order.
abbrev pub IsSifted : (List ℕ → Type 0) → List (List ℕ × List ℕ) → List (List ℕ) → Type 0
IsSifted P [] told = told ≡ []
IsSifted P (sample ∷ samples) told =
    (P sample.0 × ((more : List (List ℕ)) × (told ≡ sample.1 ∷ more) × IsSifted P samples more))
    ⊎ ((P sample.0 → ⊥) × IsSifted P samples told)

-- The words that are tried, each with what is told of it. A word with which only expressions begin stands for them all; so it is with
-- items, statements, constants and kinds, and with an operator that stands where the others do.
abbrev pub samples : List (List ℕ × List ℕ)
samples =
    (codes "edentype", codes "`edentype`")
    ∷ (codes "A", codes "a name that begins with a capital letter")
    ∷ (codes "a", codes "a name that begins with a small letter")
    ∷ (codes "0", codes "a number")
    ∷ (codes "process", codes "an item of a type")
    ∷ (codes "yield", codes "a statement")
    ∷ (codes "size", codes "an expression")
    ∷ (codes "none", codes "a constant")
    ∷ (codes "int", codes "a kind")
    ∷ (codes "mod", codes "an operator")
    ∷ (codes "version", codes "`version`")
    ∷ (codes "class", codes "`class`")
    ∷ (codes "limit", codes "`limit`")
    ∷ (codes "durable", codes "`durable` or `working`")
    ∷ (codes "condition", codes "`condition`")
    ∷ (codes "needs", codes "`needs`")
    ∷ (codes "returns", codes "`returns`")
    ∷ (codes "var", codes "`var`")
    ∷ (codes "upgrade", codes "`upgrade`")
    ∷ (codes "from", codes "`from`")
    ∷ (codes "of", codes "`of`")
    ∷ (codes "then", codes "`then`")
    ∷ (codes "else", codes "`else`")
    ∷ (codes "do", codes "`do`")
    ∷ (codes "self", codes "`self`")
    ∷ (codes "status", codes "`status`")
    ∷ (codes "gives", codes "`gives`")
    ∷ (codes "end", codes "`end`")
    ∷ (codes "endtype", codes "`endtype`")
    ∷ (codes ":=", codes "`:=`")
    ∷ (codes ":", codes "`:`")
    ∷ (codes "=", codes "`=`")
    ∷ (codes ",", codes "`,`")
    ∷ (codes ".", codes "`.`")
    ∷ (codes "(", codes "`(`")
    ∷ (codes ")", codes "`)`")
    ∷ (codes "[", codes "`[`")
    ∷ (codes "]", codes "`]`")
    ∷ []
