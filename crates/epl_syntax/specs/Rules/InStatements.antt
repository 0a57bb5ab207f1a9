-- The rules that a statement breaks.
use Rattle.std.specs.Prelude.{ℕ, ◌==◌, not, is_some, List, [], ◌∷◌, ◌++◌, length, Option, Some, None}
use Rattle.std.specs.List.{flat_map}
use Rattle.eden_value.specs.Shape.{Shape, ints, truths, caps}
use Rattle.epl_syntax.specs.declared.tree.Name.{Name}
use Rattle.epl_syntax.specs.declared.tree.Target.{Target}
use Rattle.epl_syntax.specs.declared.tree.Target.TheVariants as target
use Rattle.epl_syntax.specs.Tree.{PlacedShape, Expression, Statement, Assign, If, While, With, Wait, Signal, Yield, Deactivate}
use Rattle.epl_syntax.specs.Tree.{Checkpoint, Destroy, Create, Invoke, Return, Statements, no_statements, statement_and}
use Rattle.epl_syntax.specs.declared.rule.Broken.{Broken}
use Rattle.epl_syntax.specs.declared.rule.Rule.TheVariants.{UnknownName, KindDiffers, Unguarded, Nested}
use Rattle.epl_syntax.specs.Rules.First.{broken_if, broken_at}
use Rattle.epl_syntax.specs.Rules.Scopes.{Scope, monitor_named, condition_named, is_type}
use Rattle.epl_syntax.specs.Rules.KindsOf.{kind_named, kind_of}
use Rattle.epl_syntax.specs.Rules.InExpressions.{place_of, misfit, misfit_known, stands_in, broken_use, broken_expression}

-- what an expression breaks that has to be of a kind
abbrev pub broken_as : Shape → Scope → Option ℕ → Expression → List Broken
broken_as wanted scope held e = broken_expression scope held e ++ misfit wanted (kind_of scope e) (place_of e)

-- what a variable breaks that has to be of a kind
abbrev pub broken_variable : Shape → Scope → Option ℕ → Name → List Broken
broken_variable wanted scope held name = broken_use scope held name ++ misfit wanted (kind_named scope name.text) name.place

-- an assignment: the value is of the variable's kind
abbrev pub broken_assignment : Scope → Option ℕ → Name → Expression → List Broken
broken_assignment scope held name value =
    broken_use scope held name ++ (broken_expression scope held value ++ misfit_known (kind_named scope name.text) (kind_of scope value)
    (place_of value))

-- whom an invocation goes to: the Eject itself, or a variable with a capability
abbrev pub broken_target : Scope → Option ℕ → Target → List Broken
broken_target scope held (target.Name name) = broken_variable caps scope held name
broken_target scope held (target.Me place) = []

-- what expressions in a row break
abbrev pub broken_expressions : Scope → Option ℕ → List Expression → List Broken
broken_expressions scope held es = flat_map (broken_expression scope held) es

-- what names that are used break
abbrev pub broken_uses : Scope → Option ℕ → List Name → List Broken
broken_uses scope held names = flat_map (broken_use scope held) names

-- what the name of a type breaks of which no Ejects may be created
abbrev pub broken_type : Scope → Name → List Broken
broken_type scope name = broken_if (not (is_type scope name.text)) UnknownName name.place

-- what a `wait` or `signal` breaks, by the number of its condition's monitor; None where the condition is not declared
abbrev pub broken_condition_of : Option ℕ → Option ℕ → ℕ → ℕ → List Broken
broken_condition_of held None name_place place = broken_at UnknownName name_place ∷ []
broken_condition_of held (Some monitor) name_place place = broken_if (not (stands_in held monitor)) Unguarded place

-- what a `wait` or `signal` at this place breaks that names this condition: it has to stand in a `with` of the condition's monitor
abbrev pub broken_condition : Scope → Option ℕ → Name → ℕ → List Broken
broken_condition scope held name place = broken_condition_of held (condition_named scope name.text) name.place place

-- what a name breaks for which nothing was found
abbrev pub unknown_if_none : Option ℕ → ℕ → List Broken
unknown_if_none None place = broken_at UnknownName place ∷ []
unknown_if_none (Some n) place = []

-- what the head of a `with` at this place breaks: it has to stand in no other, and to name a monitor
abbrev pub broken_with : Scope → Option ℕ → Name → ℕ → List Broken
broken_with scope held monitor place =
    broken_if (is_some held) Nested place ++ unknown_if_none (monitor_named scope monitor.text) monitor.place

-- a number that was found, or else 0
abbrev pub number_or_none : Option ℕ → ℕ
number_or_none None = 0
number_or_none (Some n) = n

-- what the body of a `with` holds that names this monitor: its number, or 0 where there is no such monitor
abbrev pub held_in : Scope → Name → Option ℕ
held_in scope monitor = Some (number_or_none (monitor_named scope monitor.text))

-- what a `return` breaks by the number of its values; with None for the results it stands in no operation
abbrev pub misreturned : Option (List PlacedShape) → ℕ → ℕ → List Broken
misreturned None found place = broken_at KindDiffers place ∷ []
misreturned (Some wanted) found place = broken_if (not (found == length wanted)) KindDiffers place

-- the kinds that the values of a `return` have to be of; outside of an operation there are none
abbrev pub wanted_of : Option (List PlacedShape) → List PlacedShape
wanted_of None = []
wanted_of (Some wanted) = wanted

-- what values in a row break, alone and by the kind wanted at their place; past the last kind each fits
abbrev pub broken_values : Scope → Option ℕ → List PlacedShape → List Expression → List Broken
broken_values scope held wanted [] = []
broken_values scope held [] (e ∷ es) = broken_expression scope held e ++ broken_values scope held [] es
broken_values scope held (k ∷ ks) (e ∷ es) = broken_as k.shape scope held e ++ broken_values scope held ks es

-- what a `return` at this place breaks: it has to stand in an operation, with as many values as that has results, of their kinds
abbrev pub broken_return : Scope → Option ℕ → List Expression → ℕ → List Broken
broken_return scope held values place =
    misreturned scope.results (length values) place ++ broken_values scope held (wanted_of scope.results) values

-- a `create`: Ejects of its type may be created, the status goes into a variable of kind int, what it gives into one of kind cap
abbrev pub broken_create : Scope → Option ℕ → Name → Name → Name → List Broken
broken_create scope held type_name status gives =
    broken_type scope type_name ++ broken_variable ints scope held status ++ broken_variable caps scope held gives

-- an `invoke`: whom it goes to, its arguments, the status of kind int, and the variables for results, of any kind
abbrev pub broken_invoke : Scope → Option ℕ → Target → List Expression → Name → List Name → List Broken
broken_invoke scope held to args status gives =
    broken_target scope held to ++ broken_expressions scope held args ++ broken_variable ints scope held status
    ++ broken_uses scope held gives

-- `held` is None outside of every `with`, and else has the number of the monitor in whose `with` the statement stands,
-- or 0 where no monitor has that name
abbrev mutual
  -- what a statement breaks, with all that stands in it
  pub broken_statement : Scope → Option ℕ → Statement → List Broken
  broken_statement scope held (Assign name value) = broken_assignment scope held name value
  broken_statement scope held (If test so otherwise place) =
      broken_as truths scope held test ++ broken_block scope held so ++ broken_block scope held otherwise
  broken_statement scope held (While test body place) = broken_as truths scope held test ++ broken_block scope held body
  broken_statement scope held (With monitor body place) =
      broken_with scope held monitor place ++ broken_block scope (held_in scope monitor) body
  broken_statement scope held (Wait condition place) = broken_condition scope held condition place
  broken_statement scope held (Signal condition place) = broken_condition scope held condition place
  broken_statement scope held (Yield place) = []
  broken_statement scope held (Deactivate place) = []
  broken_statement scope held (Checkpoint status place) = broken_variable ints scope held status
  broken_statement scope held (Destroy status place) = broken_variable ints scope held status
  broken_statement scope held (Create type_name status gives place) = broken_create scope held type_name status gives
  broken_statement scope held (Invoke to operation args status gives place) = broken_invoke scope held to args status gives
  broken_statement scope held (Return values place) = broken_return scope held values place

  -- what statements in a row break
  pub broken_block : Scope → Option ℕ → Statements → List Broken
  broken_block scope held no_statements = []
  broken_block scope held (statement_and s ss) = broken_statement scope held s ++ broken_block scope held ss
