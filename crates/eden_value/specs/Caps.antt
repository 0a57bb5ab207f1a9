-- The capabilities that are present in a value, from left to right.
use Rattle.std.specs.Prelude.{List, [], ◌∷◌, ◌++◌, Some, None}
use Rattle.capability.specs.declared.Cap.{Cap}
use Rattle.eden_value.specs.Datum.{Datum, Data, number, truth, text, cap, list, no_data, data_and}

abbrev mutual
  -- those in a value
  pub caps : Datum → List Cap
  caps (number n) = []
  caps (truth b) = []
  caps (text t) = []
  caps (cap None) = []
  caps (cap (Some c)) = c ∷ []
  caps (list ds) = data_caps ds

  -- those in the items of a list
  pub data_caps : Data → List Cap
  data_caps no_data = []
  data_caps (data_and d ds) = caps d ++ data_caps ds

-- those in values in a row
abbrev pub caps_of : List Datum → List Cap
caps_of [] = []
caps_of (d ∷ ds) = caps d ++ caps_of ds
