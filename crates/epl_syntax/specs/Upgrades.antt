-- How durable values of an earlier version of a type become those of this one. An upgrade names that version, takes its durable values as
-- parameters, and assigns values to durable variables.
use Rattle.std.specs.Prelude.{◌==◌, ◌&&◌, List, [], ◌∷◌, map, Option, None, Result, Ok}
use Rattle.std.specs.List.{find}
use Rattle.std.specs.Result.{result_ok}
use Rattle.capability.specs.declared.Uid.{Uid}
use Rattle.eden_value.specs.Datum.{Datum}
use Rattle.eden_codec.specs.declared.rep.Rep.{Rep}
use Rattle.epl_syntax.specs.declared.effect.FaultCause.{FaultCause}
use Rattle.eden_model.specs.Map.{with_item}
use Rattle.epl_syntax.specs.Kinds.{have_shapes}
use Rattle.epl_syntax.specs.Tree.{TypeTree, UpgradeAssignment, Upgrade}
use Rattle.epl_syntax.specs.Operators.{found}
use Rattle.epl_syntax.specs.Memory.{Memory, set, arguments, variables, value_of_constant}
use Rattle.epl_syntax.specs.Expressions.{value_of}
use Rattle.epl_syntax.specs.Turns.{values_in}

-- what is held once the assignments were made in order, or the first fault
abbrev pub assigned : List UpgradeAssignment → Memory → Result Memory FaultCause
assigned [] m = Ok m
assigned (c ∷ cs) m = found (value_of m c.value) (λ d. assigned cs (set c.name.text d m))

-- the variables begin as in a new Eject, and the parameters are the earlier values
abbrev pub before_upgrade : TypeTree → Upgrade → List Datum → Uid → Memory
before_upgrade t u old me = record {
  own = arguments u.params old;
  shared = variables t.vars (map (λ v. value_of_constant v.start.value) t.vars);
  me = me;
}

-- the values of all variables behind an upgrade, or its fault
abbrev pub made_by : TypeTree → Upgrade → List Datum → Uid → Result (List Datum) FaultCause
made_by t u old me = found (assigned u.changes (before_upgrade t u old me)) (λ m. Ok (values_in m.shared))

-- the upgrade from the version of a representation, where its values are of the kinds of the parameters
abbrev pub upgrade_for : TypeTree → Rep → Option Upgrade
upgrade_for t rep = find (λ u. (u.from.n == rep.version) && have_shapes rep.values (map (λ p. p.kind.shape) u.params)) t.upgrades

-- the values of all variables that an upgrade makes of a representation, if there is one and it does not fault
abbrev pub upgraded_by : TypeTree → Rep → Uid → Option (List Datum)
upgraded_by t rep me = with_item (upgrade_for t rep) (λ u. result_ok (made_by t u rep.values me)) None
