-- The limits of values: what a text may be, how deep lists nest, and what a value may be.
use Rattle.std.specs.Prelude.{true, ◌≡◌, ℕ, zero, suc, ◌≤◌, max, List, [], ◌∷◌, length, Some, None}
use Rattle.std.specs.List.{list_all}
use Rattle.capability.specs.Capability.{IsEject}
pub use Rattle.eden_value.specs.Bytes.{is_printable}
use Rattle.eden_value.specs.Datum.{Datum, Data, number, truth, text, cap, list, no_data, data_and, items_of}
use Rattle.eden_value.specs.declared.value.TheConstants.{TEXT_LIMIT, LIST_LIMIT}

-- what a text may be
pub record IsText (bytes : List ℕ) : Type 0 where
  pub printable : list_all is_printable bytes ≡ true
  pub short : length bytes ≤ TEXT_LIMIT

-- how deep lists nest
abbrev mutual
  -- of one value: 0 where it is no list, and else one more than its deepest item
  pub depth : Datum → ℕ
  depth (number n) = 0
  depth (truth b) = 0
  depth (text t) = 0
  depth (cap c) = 0
  depth (list ds) = suc (depths ds)

  -- the deepest of a list's items
  pub depths : Data → ℕ
  depths no_data = 0
  depths (data_and d ds) = max (depth d) (depths ds)

-- the deepest of values in a row
abbrev pub depth_of : List Datum → ℕ
depth_of [] = 0
depth_of (d ∷ ds) = max (depth d) (depth_of ds)

-- What an Eject may hold: texts and lists within their limits, at most so many lists in one another,
-- and no capability but of an Eject.
abbrev mutual
  -- one value; its numbers may be of any size, and the absent capability is one
  pub IsValue : (most_deep : ℕ) → Datum → Type 0
  IsValue most_deep (number n) = Unit {0}
  IsValue most_deep (truth b) = Unit {0}
  IsValue most_deep (text t) = IsText t
  IsValue most_deep (cap None) = Unit {0}
  IsValue most_deep (cap (Some c)) = IsEject c.uid
  IsValue zero (list ds) = ⊥
  IsValue (suc most_deep) (list ds) = (length (items_of ds) ≤ LIST_LIMIT) × DataAreValues most_deep ds

  -- each item of a list is one
  pub DataAreValues : (most_deep : ℕ) → Data → Type 0
  DataAreValues most_deep no_data = Unit {0}
  DataAreValues most_deep (data_and d ds) = IsValue most_deep d × DataAreValues most_deep ds

-- each of values in a row is one
abbrev pub AreValues : (most_deep : ℕ) → List Datum → Type 0
AreValues most_deep [] = Unit {0}
AreValues most_deep (d ∷ ds) = IsValue most_deep d × AreValues most_deep ds
