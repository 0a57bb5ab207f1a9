-- The ranges of the numbers in a value, which are those of the code's types.
use Rattle.std.specs.Prelude.{◌<◌, ◌^◌, List, [], ◌∷◌, Some, None, FitsSigned}
use Rattle.std.specs.Int.{w64}
use Rattle.capability.specs.declared.Cap.{Cap}
use Rattle.eden_value.specs.Datum.{Datum, Data, number, truth, text, cap, list, no_data, data_and}

-- epoch and serial fit into 32 bits, rights into 16
pub record CapInRange (c : Cap) : Type 0 where
  pub epoch : c.uid.epoch < 2 ^ 32
  pub serial : c.uid.serial < 2 ^ 32
  pub rights : c.rights.bits < 2 ^ 16

abbrev mutual
  -- integers fit into 64 bits with a sign, and capabilities are in range
  pub InRange : Datum → Type 0
  InRange (number n) = FitsSigned w64 n
  InRange (truth b) = Unit {0}
  InRange (text t) = Unit {0}
  InRange (cap None) = Unit {0}
  InRange (cap (Some c)) = CapInRange c
  InRange (list ds) = DataInRange ds

  -- each item of a list is in range
  pub DataInRange : Data → Type 0
  DataInRange no_data = Unit {0}
  DataInRange (data_and d ds) = InRange d × DataInRange ds

-- each of values in a row is in range
abbrev pub AllInRange : List Datum → Type 0
AllInRange [] = Unit {0}
AllInRange (d ∷ ds) = InRange d × AllInRange ds
