-- Streams as functions of lists. A filter of a stream, told by its type and its argument, makes a list of texts of the whole list that the
-- stage before it hands out, and a pipeline does so filter by filter.
use Rattle.std.specs.Prelude.{◌≡◌, ℕ, ◌+◌, ℤ, pos, negsuc, true, false, cond, List, [], ◌∷◌, ◌++◌, take, drop, length}
use Rattle.std.specs.List.{filter}
use Rattle.eden_value.specs.Datum.{Datum, number, text}
use Rattle.epl_syntax.specs.Filters.{Filter, Rule, take_rule, skip_rule, only_rule, number_rule, begins_with, numbered, handed_on}
use Rattle.epl_syntax.specs.Filters.{passed_over}

-- how many items a number stands for: none where it is negative
abbrev pub so_many : ℤ → ℕ
so_many (pos n) = n
so_many (negsuc n) = 0

-- Take: the first items, so many
abbrev pub first_items : ℤ → List (List ℕ) → List (List ℕ)
first_items count items = take (so_many count) items

-- Skip: the items behind the first, so many
abbrev pub later_items : ℤ → List (List ℕ) → List (List ℕ)
later_items count items = drop (so_many count) items

-- Only: the items that begin with a text
abbrev pub items_with : List ℕ → List (List ℕ) → List (List ℕ)
items_with front items = filter (begins_with front) items

-- Number: each item behind its number, counted on from so many before it
abbrev pub numbered_from : ℕ → List (List ℕ) → List (List ℕ)
numbered_from before [] = []
numbered_from before (item ∷ items) = numbered (pos (before + 1)) item ∷ numbered_from (before + 1) items

-- a filter: its type, with its argument
pub data Sieve : Type 0 where
  takes skips : (count : ℤ) → Sieve
  keeps : (front : List ℕ) → Sieve
  numbers : Sieve

-- what a filter makes of a list
abbrev pub sifted : Sieve → List (List ℕ) → List (List ℕ)
sifted (takes count) items = first_items count items
sifted (skips count) items = later_items count items
sifted (keeps front) items = items_with front items
sifted numbers items = numbered_from 0 items

-- what a pipeline of filters makes of a list, the filter next to the list first
abbrev pub piped : List Sieve → List (List ℕ) → List (List ℕ)
piped [] items = items
piped (s ∷ sieves) items = piped sieves (sifted s items)

-- ---- a filter that takes in a list item by item

-- the rule of the type of a filter
abbrev pub rule_of : Sieve → Rule
rule_of (takes count) = take_rule
rule_of (skips count) = skip_rule
rule_of (keeps front) = only_rule
rule_of numbers = number_rule

-- the argument of a filter, as values
abbrev pub argument_of : Sieve → List Datum
argument_of (takes count) = number count ∷ []
argument_of (skips count) = number count ∷ []
argument_of (keeps front) = text front ∷ []
argument_of numbers = []

-- what a filter holds once it has taken in a list: its argument, how many items these are, and how many it has made of them
pub record HasTaken (s : Sieve) (items : List (List ℕ)) (f : Filter) : Type 0 where
  pub argument : f.arg ≡ argument_of s
  pub got : f.got ≡ pos (length items)
  pub made : f.made ≡ pos (length (sifted s items))

-- what it holds with one item more
abbrev pub takes_in : Rule → List ℕ → Filter → Filter
takes_in r item f = cond (r.passes f item) (handed_on r item f) (passed_over f)

-- and what it hands on of that item
abbrev pub hands_on : Rule → List ℕ → Filter → List (List ℕ)
hands_on r item f = cond (r.passes f item) (r.becomes f item ∷ []) []

-- ---- the laws
-- one list is the beginning of another
abbrev pub IsFront : List (List ℕ) → List (List ℕ) → Type 0
IsFront xs ys = (rest : List (List ℕ)) × (xs ++ rest ≡ ys)

-- a filter that is not over hands on of one item more just what its function makes of it
abbrev pub FiltersMakeTheirFunctions : Type 0
FiltersMakeTheirFunctions = (s : Sieve) (items : List (List ℕ)) (item : List ℕ) (f : Filter)
    → HasTaken s items f → (rule_of s).is_over f ≡ false
    → (sifted s (items ++ item ∷ []) ≡ sifted s items ++ hands_on (rule_of s) item f)
    × HasTaken s (items ++ item ∷ []) (takes_in (rule_of s) item f)

-- a filter that is over has handed on all that its function makes, whatever items come
abbrev pub FiltersEndAsTheirFunctions : Type 0
FiltersEndAsTheirFunctions = (s : Sieve) (items more : List (List ℕ)) (f : Filter)
    → HasTaken s items f → (rule_of s).is_over f ≡ true → sifted s (items ++ more) ≡ sifted s items

-- of the beginning of a list a pipeline makes the beginning of what it makes of all
abbrev pub PipelinesKeepFronts : Type 0
PipelinesKeepFronts = (sieves : List Sieve) (xs ys : List (List ℕ)) → IsFront xs ys → IsFront (piped sieves xs) (piped sieves ys)
