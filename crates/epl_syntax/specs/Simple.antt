-- What native types share: the form of their outlines, and some of what they return and are told. Each has version 1, one class of which
-- one operation runs at a time, and no declared process.
use Rattle.std.specs.Prelude.{ℕ, ℤ, pos, Bool, true, false, List, [], ◌∷◌, Option, None, slice_get}
use Rattle.capability.specs.declared.Cap.{Cap}
use Rattle.eden_value.specs.Datum.{Datum, number, truth, text, cap, list, items_of}
use Rattle.eden_value.specs.Shape.{Shape}
use Rattle.eden_value.specs.declared.status.Status.TheVariants as status
use Rattle.eden_model.specs.Map.{with_item}
use Rattle.epl_syntax.specs.declared.effect.Answer.{Answer}
use Rattle.epl_syntax.specs.declared.effect.Answer.TheVariants.{Code}
use Rattle.epl_syntax.specs.declared.effect.Effect.{Effect}
use Rattle.epl_syntax.specs.declared.effect.Effect.TheVariants.{Return}
use Rattle.epl_syntax.specs.Outline.{Operation, Slot, Outline}

-- an operation: its name, the rights that it needs, and the kinds of its arguments
abbrev pub of_one_class : List ℕ → ℕ → List Shape → Operation
of_one_class name needs params = record { name = name; needs = needs; class = 0; params = params }

-- a native type: its name, variables and operations
abbrev pub outline : List ℕ → List Slot → List Operation → Outline
outline name slots operations = record {
  name = name;
  version = 1;
  slots = slots;
  operations = operations;
  setup = record { limits = 1 ∷ []; declared = 0; monitors = 0; conditions = [] };
}

-- an argument by its place; an operation begins only with as many as it takes
abbrev pub argument : ℕ → List Datum → Datum
argument i args = with_item (slice_get args i) (λ d. d) (cap None)

-- the number in a value; 0 for a value of another kind
abbrev pub number_in : Datum → ℤ
number_in (number n) = n
number_in _ = pos 0

-- the truth value in a value; false for a value of another kind
abbrev pub truth_in : Datum → Bool
truth_in (truth b) = b
truth_in _ = false

-- the text in a value; an empty one for a value of another kind
abbrev pub text_in : Datum → List ℕ
text_in (text t) = t
text_in _ = []

-- the capability in a value, if it is a present one
abbrev pub cap_in : Datum → Option Cap
cap_in (cap c) = c
cap_in _ = None

-- the items in a value; none where it is no list
abbrev pub items_in : Datum → List Datum
items_in (list ds) = items_of ds
items_in _ = []

-- one number is returned
abbrev pub returns_code : ℕ → Effect
returns_code n = Return (number (pos n) ∷ [])

-- a checkpoint was acknowledged
abbrev pub is_fine : Answer → Bool
is_fine (Code status.Ok) = true
is_fine _ = false
