-- Whether two values are one: `=` and `<>` of the language, and the names of a directory. Values of two kinds never are.
use Rattle.std.specs.Prelude.{Bool, true, false, ◌&&◌, ◌==◌, not, Option, None, Some}
use Rattle.std.specs.Ordering.{int_eq}
use Rattle.capability.specs.declared.Cap.{Cap}
use Rattle.eden_value.specs.Datum.{Datum, Data, number, truth, text, cap, list, no_data, data_and}
use Rattle.eden_model.specs.Map.{same_text, same_uid}

-- both true, or both false
abbrev pub same_truth : Bool → Bool → Bool
same_truth true b = b
same_truth false b = not b

-- both absent, or of one uid with the same rights
abbrev pub same_cap : Option Cap → Option Cap → Bool
same_cap None None = true
same_cap (Some a) (Some b) = same_uid a.uid b.uid && (a.rights.bits == b.rights.bits)
same_cap _ _ = false

abbrev mutual
  -- of numbers, truth values, texts and capabilities as said; of lists item by item
  pub same : Datum → Datum → Bool
  same (number a) (number b) = int_eq a b
  same (truth a) (truth b) = same_truth a b
  same (text a) (text b) = same_text a b
  same (cap a) (cap b) = same_cap a b
  same (list a) (list b) = same_data a b
  same _ _ = false

  -- as many items in both, and each the same as the one at its place in the other
  pub same_data : Data → Data → Bool
  same_data no_data no_data = true
  same_data (data_and a x) (data_and b y) = same a b && same_data x y
  same_data _ _ = false
