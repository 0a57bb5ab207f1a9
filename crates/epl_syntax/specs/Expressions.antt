-- The value of an expression. Its parts are looked at from left to right, and the first fault is its own.
use Rattle.std.specs.Prelude.{List, [], ◌∷◌, Some, Result, Ok}
use Rattle.capability.specs.Capability.{full}
use Rattle.eden_value.specs.Datum.{Datum, cap}
use Rattle.epl_syntax.specs.declared.effect.FaultCause.{FaultCause}
use Rattle.epl_syntax.specs.Tree.{Expression, Const_, Name_, Me, Unary, Binary, Index, ListOf, Apply, Expressions, no_expressions}
use Rattle.epl_syntax.specs.Tree.{expression_and}
use Rattle.epl_syntax.specs.Operators.{Found, found, before_operand, between, item_at, list_of, applied}
use Rattle.epl_syntax.specs.Memory.{Memory, value_of_constant, value_as}

abbrev mutual
  -- the value of one expression, or its fault
  pub value_of : Memory → Expression → Found
  value_of m (Const_ value place) = Ok (value_of_constant value)
  value_of m (Name_ name) = value_as m name.text
  value_of m (Me place) = Ok (cap (Some (full m.me)))
  value_of m (Unary prefix of place) = found (value_of m of) (before_operand prefix)
  value_of m (Binary operator left right place) = found (value_of m left) (λ d. between operator d (value_of m right))
  value_of m (Index of at place) = found (value_of m of) (λ d. found (value_of m at) (item_at d))
  value_of m (ListOf items place) = found (values_of m items) list_of
  value_of m (Apply builtin args place) = found (values_of m args) (applied builtin)

  -- the values of several expressions, or the first fault
  pub values_of : Memory → Expressions → Result (List Datum) FaultCause
  values_of m no_expressions = Ok []
  values_of m (expression_and e es) = found (value_of m e) (λ d. found (values_of m es) (λ ds. Ok (d ∷ ds)))
