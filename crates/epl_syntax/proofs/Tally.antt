-- Versions of a type: a representation of the same version, and of an earlier one with an upgrade that fits, one that faults, and none.
use Rattle.std.proofs.Common.{◌≡◌, ℕ, pos, List, [], ◌∷◌, None, Some, refl, codes}
use Rattle.eden_value.specs.Datum.{Datum, number}
use Rattle.eden_codec.specs.declared.rep.Rep.{Rep}
use Rattle.epl_syntax.specs.declared.tree.Operator.{Operator}
use Rattle.epl_syntax.specs.declared.tree.Operator.TheVariants.{Divide, Multiply, Subtract}
use Rattle.epl_syntax.specs.Tree.{TypeTree, Upgrade, UpgradeAssignment, Expression}
use Rattle.epl_syntax.specs.Edentype.{declared}
use Rattle.epl_syntax.specs.Meaning.{durable_from}
use Rattle.epl_syntax.proofs.Written.{called, numeral, int, held_in, with_operator, durable_int, int_parameter, simple_type, me}

-- a representation of the type
abbrev kept_by : ℕ → List Datum → Rep
kept_by version values = record { type_name = codes "Tally"; version = version; values = values }

abbrev sets : List ℕ → Expression → UpgradeAssignment
sets name value = record { name = called name; value = value }

-- version 2, with this upgrade from version 1
abbrev second : List Upgrade → TypeTree
second upgrades = simple_type (codes "Tally") (Some (numeral 2)) (durable_int (codes "n") ∷ durable_int (codes "twice") ∷ []) [] upgrades

-- n := old, twice := an operator between old and a number
abbrev from_first : Operator → ℕ → Upgrade
from_first o by = record {
  from = numeral 1;
  params = int_parameter (codes "old") ∷ [];
  changes = sets (codes "n") (held_in (codes "old")) ∷ sets (codes "twice") (with_operator o (held_in (codes "old")) (int (pos by))) ∷ [];
  place = 0;
}

fits : durable_from (declared (second (from_first Multiply 2 ∷ []))) (kept_by 1 (number (pos 6) ∷ [])) me
    ≡ Some (number (pos 6) ∷ number (pos 12) ∷ [])
fits = refl

faults : durable_from (declared (second (from_first Divide 0 ∷ []))) (kept_by 1 (number (pos 6) ∷ [])) me ≡ None
faults = refl

is_not_there : durable_from (declared (second [])) (kept_by 1 (number (pos 6) ∷ [])) me ≡ None
is_not_there = refl

is_of_this_version : durable_from (declared (second [])) (kept_by 2 (number (pos 6) ∷ number (pos 7) ∷ [])) me
    ≡ Some (number (pos 6) ∷ number (pos 7) ∷ [])
is_of_this_version = refl

-- version 3 keeps what the first of two values is more than the second
abbrev third : TypeTree
third = simple_type (codes "Tally") (Some (numeral 3)) (durable_int (codes "more") ∷ []) [] (record {
  from = numeral 2;
  params = int_parameter (codes "a") ∷ int_parameter (codes "b") ∷ [];
  changes = sets (codes "more") (with_operator Subtract (held_in (codes "a")) (held_in (codes "b"))) ∷ [];
  place = 0;
} ∷ [])

in_order : durable_from (declared third) (kept_by 2 (number (pos 9) ∷ number (pos 4) ∷ [])) me ≡ Some (number (pos 5) ∷ [])
in_order = refl

one_value_fits_no_upgrade : durable_from (declared third) (kept_by 2 (number (pos 9) ∷ [])) me ≡ None
one_value_fits_no_upgrade = refl
