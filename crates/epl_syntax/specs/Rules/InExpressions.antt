-- The rules that an expression breaks.
use Rattle.std.specs.Prelude.{ℕ, suc, Bool, false, ◌==◌, ◌||◌, not, nat_lt, List, [], ◌∷◌, ◌++◌, length, Option, Some, None}
use Rattle.eden_value.specs.Shape.{Shape, ints, truths, lists}
use Rattle.epl_syntax.specs.declared.tree.Name.{Name}
use Rattle.epl_syntax.specs.declared.tree.Operator.{Operator}
use Rattle.epl_syntax.specs.declared.tree.Operator.TheVariants.{Or, And, Equal, Different, Less, LessEqual, Greater, GreaterEqual, Add}
use Rattle.epl_syntax.specs.declared.tree.Operator.TheVariants.{Subtract, Join, Multiply, Divide, Modulo}
use Rattle.epl_syntax.specs.Tree.{PlacedShape, Constant, empty_list, Expression, Const_, Name_, Me, Unary, Binary, Index, ListOf, Apply}
use Rattle.epl_syntax.specs.Tree.{Expressions, no_expressions, expression_and}
use Rattle.epl_syntax.specs.declared.rule.Broken.{Broken}
use Rattle.epl_syntax.specs.declared.rule.Rule.TheVariants.{UnknownName, KindDiffers, Unguarded, BadLimit}
use Rattle.epl_syntax.specs.Rules.First.{broken_if, broken_at}
use Rattle.epl_syntax.specs.Rules.Scopes.{Scope, Seen, variable_named}
use Rattle.epl_syntax.specs.Rules.KindsOf.{same_shape, is_list, has_size, sized_kind, kind_of_prefix, kind_of, kind_of_first}
use Rattle.epl_syntax.specs.Rules.KindsOf.{argument_tests}

-- the place of an expression's first token
abbrev pub place_of : Expression → ℕ
place_of (Const_ value place) = place
place_of (Name_ name) = name.place
place_of (Me place) = place
place_of (Unary prefix of place) = place
place_of (Binary operator left right place) = place
place_of (Index of at place) = place
place_of (ListOf items place) = place
place_of (Apply builtin args place) = place

-- ---- kinds that do not fit; what is of unknown kind fits everywhere

-- a kind that does not pass a test
abbrev pub failing : (Shape → Bool) → Option Shape → ℕ → List Broken
failing test None place = []
failing test (Some s) place = broken_if (not (test s)) KindDiffers place

-- one kind in place of another
abbrev pub misfit : Shape → Option Shape → ℕ → List Broken
misfit wanted found place = failing (same_shape wanted) found place

-- the same, where the wanted kind may be unknown
abbrev pub misfit_known : Option Shape → Option Shape → ℕ → List Broken
misfit_known None found place = []
misfit_known (Some wanted) found place = misfit wanted found place

-- the right operand of `&`: of the left one's kind, where that is text or a list, and else text or a list
abbrev pub misjoined : Option Shape → Option Shape → ℕ → List Broken
misjoined None found place = failing has_size found place
misjoined (Some wanted) found place = misfit wanted found place

-- two operands, both of which have to be of the wanted kind
abbrev pub two_of : Shape → Option Shape → ℕ → Option Shape → ℕ → List Broken
two_of wanted left place right other_place = misfit wanted left place ++ misfit wanted right other_place

-- the operands that an operator does not take, by the kinds and the places of both, each told at its place;
-- `=` and `<>` take any two of one kind
abbrev pub misfit_operands : Operator → Option Shape → ℕ → Option Shape → ℕ → List Broken
misfit_operands Or left p right q = two_of truths left p right q
misfit_operands And left p right q = two_of truths left p right q
misfit_operands Equal left p right q = misfit_known left right q
misfit_operands Different left p right q = misfit_known left right q
misfit_operands Join left p right q = failing has_size left p ++ misjoined (sized_kind left) right q
misfit_operands Less left p right q = two_of ints left p right q
misfit_operands LessEqual left p right q = two_of ints left p right q
misfit_operands Greater left p right q = two_of ints left p right q
misfit_operands GreaterEqual left p right q = two_of ints left p right q
misfit_operands Add left p right q = two_of ints left p right q
misfit_operands Subtract left p right q = two_of ints left p right q
misfit_operands Multiply left p right q = two_of ints left p right q
misfit_operands Divide left p right q = two_of ints left p right q
misfit_operands Modulo left p right q = two_of ints left p right q

-- ---- limits: a kind that is written is at most 4 lists deep
-- how many lists deep a kind is
abbrev pub lists_in : Shape → ℕ
lists_in (lists s) = suc (lists_in s)
lists_in _ = 0

-- what a written kind breaks
abbrev pub broken_kind : PlacedShape → List Broken
broken_kind k = broken_if (nat_lt 4 (lists_in k.shape)) BadLimit k.place

-- what a constant breaks
abbrev pub broken_constant : Constant → List Broken
broken_constant (empty_list k) = broken_kind k
broken_constant _ = []

-- ---- variables: a use is of a declared name, and one in a monitor stands in a `with` of it
-- `held` is None outside of every `with`, and else has the number of the monitor in whose `with` an expression stands,
-- or 0 where no monitor has that name.

-- whether this monitor is the held one
abbrev pub stands_in : Option ℕ → ℕ → Bool
stands_in None monitor = false
stands_in (Some held) monitor = held == monitor

-- whether a variable of this monitor may be used here: the number is 0, for none, or that of the held one
abbrev pub is_guarded : Option ℕ → ℕ → Bool
is_guarded held monitor = (monitor == 0) || stands_in held monitor

-- what the use of a variable breaks, by what the look-up of its name gave
abbrev pub broken_use_of : Option ℕ → Option Seen → ℕ → List Broken
broken_use_of held None place = broken_at UnknownName place ∷ []
broken_use_of held (Some v) place = broken_if (not (is_guarded held v.monitor)) Unguarded place

-- what a name breaks that is used as a variable
abbrev pub broken_use : Scope → Option ℕ → Name → List Broken
broken_use scope held name = broken_use_of held (variable_named scope name.text) name.place

-- ---- expressions
-- how many expressions stand in a row
abbrev pub count : Expressions → ℕ
count no_expressions = 0
count (expression_and e es) = suc (count es)

abbrev mutual
  -- what an expression breaks, with all that stands in it
  pub broken_expression : Scope → Option ℕ → Expression → List Broken
  broken_expression scope held (Const_ value place) = broken_constant value
  broken_expression scope held (Name_ name) = broken_use scope held name
  broken_expression scope held (Me place) = []
  broken_expression scope held (Unary prefix of place) =
      broken_expression scope held of ++ misfit (kind_of_prefix prefix) (kind_of scope of) (place_of of)
  broken_expression scope held (Binary operator left right place) =
      broken_expression scope held left ++ broken_expression scope held right
      ++ misfit_operands operator (kind_of scope left) (place_of left) (kind_of scope right) (place_of right)
  broken_expression scope held (Index of at place) =
      broken_expression scope held of ++ failing is_list (kind_of scope of) (place_of of)
      ++ (broken_expression scope held at ++ misfit ints (kind_of scope at) (place_of at))
  broken_expression scope held (ListOf items place) = broken_items scope held (kind_of_first scope items) items
  broken_expression scope held (Apply builtin args place) =
      broken_if (not (count args == length (argument_tests builtin None))) KindDiffers place
      ++ broken_arguments scope held (argument_tests builtin (kind_of_first scope args)) args

  -- the items of a list are of the kind of the first one
  pub broken_items : Scope → Option ℕ → Option Shape → Expressions → List Broken
  broken_items scope held wanted no_expressions = []
  broken_items scope held wanted (expression_and e es) =
      broken_expression scope held e ++ misfit_known wanted (kind_of scope e) (place_of e) ++ broken_items scope held wanted es

  -- each argument passes its test; one too many has none
  pub broken_arguments : Scope → Option ℕ → List (Shape → Bool) → Expressions → List Broken
  broken_arguments scope held tests no_expressions = []
  broken_arguments scope held [] (expression_and e es) = broken_expression scope held e ++ broken_arguments scope held [] es
  broken_arguments scope held (test ∷ tests) (expression_and e es) =
      broken_expression scope held e ++ failing test (kind_of scope e) (place_of e) ++ broken_arguments scope held tests es
