-- What is seen of a type from outside: its name, version, variables and operations, and with what its processes begin.
-- Native types and declared ones have one each, and all that is made of values of variables is said here for both.
use Rattle.std.specs.Prelude.{ℕ, Bool, cond, List, [], ◌∷◌, map}
use Rattle.eden_value.specs.Datum.{Datum}
use Rattle.eden_value.specs.Shape.{Shape}
use Rattle.eden_model.specs.Map.{with_item, first, rest}
use Rattle.eden_model.specs.Crew.{Setup}

-- an operation: its name, the rights that it needs as a word of bits, its class, and the kinds of its arguments
pub record Operation : Type 0 where
  pub name : List ℕ
  pub needs : ℕ
  pub class : ℕ
  pub params : List Shape

-- a variable of a type: its kind, whether a checkpoint keeps it, and what it holds at first
pub record Slot : Type 0 where
  pub kind : Shape
  pub durable : Bool
  pub start : Datum

-- all that is seen of a type
pub record Outline : Type 0 where
  pub name : List ℕ
  pub version : ℕ
  -- in order of declaration
  pub slots : List Slot
  pub operations : List Operation
  -- the limits of the classes, the number of declared processes and of monitors, and the monitors of the conditions
  pub setup : Setup

-- a variable that begins with a value, of a kind, durable or not
abbrev pub kept : Datum → Shape → Bool → Slot
kept start kind durable = record { kind = kind; durable = durable; start = start }

-- the values with which all variables begin
abbrev pub starts : List Slot → List Datum
starts slots = map (λ v. v.start) slots

-- the kinds of the durable variables
abbrev pub kinds_kept : List Slot → List Shape
kinds_kept [] = []
kinds_kept (v ∷ slots) = cond v.durable (v.kind ∷ kinds_kept slots) (kinds_kept slots)

-- of the values of all variables those of the durable ones
abbrev pub only_kept : List Slot → List Datum → List Datum
only_kept [] values = []
only_kept (v ∷ slots) [] = []
only_kept (v ∷ slots) (d ∷ values) = cond v.durable (d ∷ only_kept slots values) (only_kept slots values)

-- the values of all variables, where the durable ones have these: the working ones begin anew
abbrev pub with_kept : List Slot → List Datum → List Datum
with_kept [] durable = []
with_kept (v ∷ slots) durable =
    cond v.durable (with_item (first durable) (λ d. d) v.start ∷ with_kept slots (rest durable)) (v.start ∷ with_kept slots durable)
