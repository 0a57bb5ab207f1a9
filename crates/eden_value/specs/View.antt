-- The plain data that a value of the code stands for.
use Rattle.std.specs.Prelude.{List, map}
use Rattle.eden_value.specs.Datum.{Datum, number, truth, text, cap, list, data_of}
use Rattle.eden_value.specs.declared.value.Value.{Value}
use Rattle.eden_value.specs.declared.value.Value.TheVariants.{Int, Bool, Text, Cap, List as Listed}

-- a value, without where its parts lie in memory
abbrev pub datum : Value → Datum
datum (Int n) = number n
datum (Bool b) = truth b
datum (Text t) = text t
datum (Cap c) = cap c
datum (Listed items) = list (data_of items)

-- values in a row
abbrev pub datums : List Value → List Datum
datums vs = map datum vs

-- the list of these values
abbrev pub list_value : List Value → Value
list_value vs = Listed (datums vs)
