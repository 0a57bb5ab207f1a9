-- What the code keeps pair by pair: lists that only grow.
use Rattle.std.specs.Prelude.{ℕ, ◌-◌, List, [], ◌∷◌, ◌++◌, replicate, slice_set, slice_get, slice_index_or, Option, Some, None}
use Rattle.lossy_wire.specs.Wire.{slot}

-- nothing came yet
abbrev pub no_items : {T : Type 0} → List (List T)
no_items = replicate 64 []

-- the items from one station to another
abbrev pub items_at : {T : Type 0} → List (List T) → ℕ → ℕ → List T
items_at ls a b = slice_index_or ls (slot a b) []

-- an item more
abbrev pub with_item : {T : Type 0} → List (List T) → ℕ → ℕ → T → List (List T)
with_item ls a b x = slice_set ls (slot a b) (items_at ls a b ++ x ∷ [])

-- an item more, if there is one
abbrev pub with_item_by : {T : Type 0} → List (List T) → ℕ → ℕ → Option T → List (List T)
with_item_by ls a b None = ls
with_item_by ls a b (Some x) = with_item ls a b x

-- the item with a number from 1, if there is one
abbrev pub item_in : {T : Type 0} → List (List T) → ℕ → ℕ → ℕ → Option T
item_in ls a b i = slice_get (items_at ls a b) (i - 1)
