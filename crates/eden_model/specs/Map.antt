-- Finite maps as lists of entries in ascending order of keys, and what an `Option` holds.
use Rattle.std.specs.Prelude.{ℕ, Bool, true, false, List, [], ◌∷◌, map, Option, None, Some}
use Rattle.std.specs.declared.cmp.Ordering.{Ordering}
use Rattle.std.specs.Ordering.{nat_cmp, eq_by_cmp}
use Rattle.std.specs.Cmp.Lexicographic.{slice_cmp}
pub use Rattle.std.specs.FinMap.Entries.{find as value_at, put as put_at, where_key}
pub use Rattle.capability.specs.Uids.{uid_cmp}
use Rattle.capability.specs.declared.Uid.{Uid}

-- f of the item where there is one, else the other
abbrev pub with_item : {X Y : Type 0} → Option X → (X → Y) → Y → Y
with_item None f other = other
with_item (Some x) f other = f x

-- there is no item
abbrev pub is_none : {X : Type 0} → Option X → Bool
is_none None = true
is_none (Some x) = false

-- the first of two that is there
abbrev pub or_else : {X : Type 0} → Option X → Option X → Option X
or_else None other = other
or_else (Some x) other = Some x

-- the head of a queue, if there is one
abbrev pub first : {X : Type 0} → List X → Option X
first [] = None
first (x ∷ xs) = Some x

-- what is behind the head of a queue; an empty one stays empty
abbrev pub rest : {X : Type 0} → List X → List X
rest [] = []
rest (x ∷ xs) = xs

-- each value of a map changed
abbrev pub each_value : {K X Y : Type 0} → (X → Y) → List (K × X) → List (K × Y)
each_value f es = map (λ e. (e.0, f e.1)) es

-- the map with the value at a key changed, where it has the key
abbrev pub changed_at : {K X : Type 0} (R : K → K → Ordering) → K → (X → X) → List (K × X) → List (K × X)
changed_at R k f es = with_item (value_at R k es) (λ x. put_at R k (f x) es) es

-- whether both name one Eject
abbrev pub same_uid : Uid → Uid → Bool
same_uid a b = eq_by_cmp uid_cmp a b

-- whether both are one text
abbrev pub same_text : List ℕ → List ℕ → Bool
same_text a b = eq_by_cmp (slice_cmp nat_cmp) a b
