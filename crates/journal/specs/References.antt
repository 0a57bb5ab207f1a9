-- What the names and arguments of a script stand for.
use Rattle.std.specs.Prelude.{ℕ, zero, suc, nat_le, cond, List, ◌∷◌, Option, None, Some, slice_get}
use Rattle.std.specs.List.{find}
use Rattle.capability.specs.declared.Cap.{Cap}
use Rattle.eden_value.specs.Datum.{Datum, Data, cap, list, no_data, data_and, items_of}
use Rattle.eden_value.specs.Limits.{depths}
use Rattle.eden_value.specs.declared.value.TheConstants.{DEPTH_LIMIT}
use Rattle.eden_model.specs.Map.{with_item, same_text}
use Rattle.journal.specs.declared.command.Ref.{Ref}
use Rattle.journal.specs.Argument.{Argument, Arguments, plain, named, several, no_arguments, argument_and, arguments_of}
use Rattle.journal.specs.World.{World, Meaning, capability, results}

-- what a name of the script stands for, by the meaning that it got last; None where it has none
abbrev pub meaning_of : World → List ℕ → Option Meaning
meaning_of w name = with_item (find (λ e. same_text e.0 name) w.names) (λ e. Some e.1) None

-- the world in which this name stands for that, whatever it stood for before
abbrev pub with_name : List ℕ → Meaning → World → World
with_name name m w = record w { names = (name, m) ∷ w.names }

-- the value of a name by its meaning: alone (k = 0), or of its k-th result
abbrev pub value_of_meaning : Meaning → ℕ → Option Datum
value_of_meaning (capability c) zero = Some (cap (Some c))
value_of_meaning (results ds) (suc k) = slice_get ds k
value_of_meaning _ k = None

-- the value that a name stands for alone (k = 0), or its k-th result, counted from 1; None where it has no such value
abbrev pub value_at_name : World → List ℕ → ℕ → Option Datum
value_at_name w name k = with_item (meaning_of w name) (λ m. value_of_meaning m k) None

-- the capability that a value is; None for the absent one and for other values
abbrev pub present_cap : Datum → Option Cap
present_cap (cap c) = c
present_cap _ = None

-- the capability for which a reference stands; None where that is the absent one, another value, or nothing
abbrev pub cap_at : World → Ref → Option Cap
cap_at w r = with_item (value_at_name w r.name r.result) present_cap None

-- the values of arguments; none where a name has no value
abbrev mutual
  -- the value of one argument: as it was written out, what its name stands for, or a list of such values
  pub value_of : World → Argument → Option Datum
  value_of w (plain d) = Some d
  value_of w (named name k) = value_at_name w name k
  value_of w (several gs) = with_item (values_of w gs) (λ ds. Some (list ds)) None

  -- the values of arguments in a row; None where one of them has none
  pub values_of : World → Arguments → Option Data
  values_of w no_arguments = Some no_data
  values_of w (argument_and g gs) = with_item (value_of w g) (λ d. with_item (values_of w gs) (λ ds. Some (data_and d ds)) None) None

-- the arguments of a call; none where a name has no value, or a list would be too deep
abbrev pub args_of : World → List Argument → Option (List Datum)
args_of w gs = with_item (values_of w (arguments_of gs)) (λ ds. cond (nat_le (depths ds) DEPTH_LIMIT) (Some (items_of ds)) None) None
