-- What a representation may be: a type's name and version, and values.
use Rattle.std.specs.Prelude.{ℕ, ◌<◌, ◌≤◌, ◌^◌, ◌≡◌, true, List, [], ◌∷◌, length}
use Rattle.std.specs.List.{list_all}
use Rattle.std.specs.Char.{is_ascii_uppercase}
use Rattle.eden_value.specs.Bytes.{is_name_byte}
use Rattle.eden_value.specs.Limits.{AreValues}
use Rattle.eden_value.specs.Range.{AllInRange}
use Rattle.eden_codec.specs.declared.rep.Rep.{Rep}

-- 1 to 32 bytes, of which the first is a capital letter
abbrev pub IsName : List ℕ → Type 0
IsName [] = ⊥
IsName (a ∷ more) = (is_ascii_uppercase a ≡ true) × (length more < 32) × (list_all is_name_byte more ≡ true)

-- a name, a version, and at most 64 values within the limits of values
pub record IsRep (r : Rep) : Type 0 where
  pub name : IsName r.type_name
  pub version : 1 ≤ r.version
  pub count : length r.values ≤ 64
  pub values : AreValues 4 r.values

-- the numbers are those of the code's types
pub record RepInRange (r : Rep) : Type 0 where
  pub version : r.version < 2 ^ 16
  pub values : AllInRange r.values
