-- The one spelling of each value and of each representation, as a function.
use Rattle.std.specs.Prelude.{ℕ, true, false, List, [], ◌∷◌, ◌++◌, length, Option, Some, None}
use Rattle.std.specs.Int.{w64, bytes_high_first}
use mir.Val.{of_z}
use Rattle.capability.specs.declared.Cap.{Cap}
use Rattle.eden_value.specs.Datum.{Datum, Data, number, truth, text, cap, list, no_data, data_and, items_of}
use Rattle.eden_codec.specs.declared.rep.Rep.{Rep}

-- a text: its length in two bytes, and its bytes
abbrev pub text_spelling : List ℕ → List ℕ
text_spelling t = bytes_high_first 2 (length t) ++ t

-- node in one byte, epoch and serial in four, rights in two
abbrev pub cap_spelling : Cap → List ℕ
cap_spelling c = bytes_high_first 1 c.uid.node
    ++ (bytes_high_first 4 c.uid.epoch ++ (bytes_high_first 4 c.uid.serial ++ bytes_high_first 2 c.rights.bits))

-- a capability or none, with the first byte that says which
abbrev pub option_spelling : Option Cap → List ℕ
option_spelling None = 4 ∷ []
option_spelling (Some c) = 5 ∷ cap_spelling c

abbrev mutual
  -- a value: one byte for what it is, from 1 to 6, and what it holds; a list has the number of its items in two bytes
  pub value_spelling : Datum → List ℕ
  value_spelling (number z) = 1 ∷ bytes_high_first 8 (of_z w64 z)
  value_spelling (truth true) = 2 ∷ 1 ∷ []
  value_spelling (truth false) = 2 ∷ 0 ∷ []
  value_spelling (text t) = 3 ∷ text_spelling t
  value_spelling (cap c) = option_spelling c
  value_spelling (list ds) = 6 ∷ (bytes_high_first 2 (length (items_of ds)) ++ data_spelling ds)

  -- the items of a list, one behind the other
  pub data_spelling : Data → List ℕ
  data_spelling no_data = []
  data_spelling (data_and d ds) = value_spelling d ++ data_spelling ds

-- values in a row, without their number
abbrev pub values_spelling : List Datum → List ℕ
values_spelling [] = []
values_spelling (d ∷ ds) = value_spelling d ++ values_spelling ds

-- a name: its length in one byte, and its bytes
abbrev pub name_spelling : List ℕ → List ℕ
name_spelling name = bytes_high_first 1 (length name) ++ name

-- the values of a representation: their number in one byte, and the values
abbrev pub row_spelling : List Datum → List ℕ
row_spelling ds = bytes_high_first 1 (length ds) ++ values_spelling ds

-- the bytes of a representation
abbrev pub spelling : Rep → List ℕ
spelling r =
    1 ∷ (name_spelling r.type_name ++ (bytes_high_first 2 r.version ++ row_spelling r.values))

-- how many bytes the values take in a message
abbrev pub values_size : List Datum → ℕ
values_size ds = length (values_spelling ds)
