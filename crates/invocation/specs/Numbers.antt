-- Numbers of the items of a list that pass a test, and changes at such numbers.
use Rattle.std.specs.Prelude.{ℕ, zero, suc, ◌+◌, ◌-◌, Bool, false, cond, List, [], ◌∷◌, Option, None, slice_get}
use Rattle.eden_model.specs.Map.{with_item}
use Rattle.eden_model.specs.Crew.{change}

-- the item of this number, where they are numbered from 1
abbrev pub item_in : {X : Type 0} → ℕ → List X → Option X
item_in zero xs = None
item_in (suc k) xs = slice_get xs k

-- whether there is an item of this number, and it passes
abbrev pub passes_at : {X : Type 0} → (X → Bool) → List X → ℕ → Bool
passes_at test xs k = with_item (item_in k xs) test false

-- the numbers of the items that pass, where the first has this number
abbrev pub numbers_where : {X : Type 0} → (X → Bool) → ℕ → List X → List ℕ
numbers_where test n [] = []
numbers_where test n (x ∷ xs) = cond (test x) (n ∷ numbers_where test (n + 1) xs) (numbers_where test (n + 1) xs)

-- the items of these numbers changed, where the first has this number
abbrev pub changed_at_all : {X : Type 0} → (X → X) → ℕ → List ℕ → List X → List X
changed_at_all f n [] xs = xs
changed_at_all f n (k ∷ ks) xs = changed_at_all f n ks (change (k - n) f xs)
