-- What the names in the bodies of a type stand for, found once: a table has a binding for each place of the type's text.
use Rattle.std.specs.Prelude.{ℕ, Bool, true, false, ◌&&◌, ◌==◌, List, [], map, slice_get, Option, None, Some}
use Rattle.std.specs.List.{list_all, position_from}
use Rattle.eden_model.specs.Map.{with_item, same_text}
use Rattle.epl_syntax.specs.declared.tree.Name.{Name}
use Rattle.epl_syntax.specs.declared.tree.Target.{Target}
use Rattle.epl_syntax.specs.declared.tree.Target.TheVariants as target
use Rattle.epl_syntax.specs.declared.tree.Program.{Program}
use Rattle.epl_syntax.specs.declared.binding.Binding.{Binding}
use Rattle.epl_syntax.specs.declared.binding.Binding.TheVariants.{ByName, Parameter, Local, Variable, Monitor, Condition}
use Rattle.epl_syntax.specs.Tree.{Expression, Const_, Name_, Me, Unary, Binary, Index, ListOf, Apply, Expressions, no_expressions}
use Rattle.epl_syntax.specs.Tree.{expression_and, Statement, Assign, If, While, With, Wait, Signal, Yield, Deactivate, Checkpoint, Destroy}
use Rattle.epl_syntax.specs.Tree.{Create, Invoke, Return, Statements, no_statements, statement_and, TypeTree, type_tree}
use Rattle.epl_syntax.specs.Tree.{Operation, Process, Upgrade, Parameter as ParameterTree, Local as LocalTree}

-- what a name is used as
pub data Sort : Type 0 where
  variable : Sort
  monitor : Sort
  condition : Sort

-- the names that a body sees, each list in order of declaration
pub record Names : Type 0 where
  pub params : List Name
  pub locals : List Name
  pub vars : List Name
  pub monitors : List Name
  pub conditions : List Name

-- where a name stands first in a list of names, counted from 0
abbrev pub place_of : List Name → List ℕ → Option ℕ
place_of names text = position_from (λ n. same_text n.text text) 0 names

-- whether a name was found, and at this place
abbrev pub is_at : Option ℕ → ℕ → Bool
is_at None at = false
is_at (Some i) at = i == at

-- whether a name was not found
abbrev pub is_nowhere : Option ℕ → Bool
is_nowhere None = true
is_nowhere (Some i) = false

-- A binding is right for a name in a body that sees these names: a name stands for a parameter before a variable of the body,
-- and for that before one of the type. Where no binding is known, the name is looked up.
abbrev pub is_right : Names → Sort → List ℕ → Binding → Bool
is_right names sort text ByName = true
is_right names variable text (Parameter at) = is_at (place_of names.params text) at
is_right names variable text (Local at) = is_nowhere (place_of names.params text) && is_at (place_of names.locals text) at
is_right names variable text (Variable at) =
    is_nowhere (place_of names.params text) && is_nowhere (place_of names.locals text) && is_at (place_of names.vars text) at
is_right names monitor text (Monitor at) = is_at (place_of names.monitors text) at
is_right names condition text (Condition at) = is_at (place_of names.conditions text) at
is_right names sort text binding = false

-- ---- a test of each name that a body uses
abbrev mutual
  -- of the variables in an expression
  pub each_of_expression : (Sort → Name → Bool) → Expression → Bool
  each_of_expression test (Const_ value place) = true
  each_of_expression test (Name_ name) = test variable name
  each_of_expression test (Me place) = true
  each_of_expression test (Unary prefix of place) = each_of_expression test of
  each_of_expression test (Binary operator left right place) = each_of_expression test left && each_of_expression test right
  each_of_expression test (Index of at place) = each_of_expression test of && each_of_expression test at
  each_of_expression test (ListOf items place) = each_of_expressions test items
  each_of_expression test (Apply builtin args place) = each_of_expressions test args

  -- of the variables in expressions in a row
  pub each_of_expressions : (Sort → Name → Bool) → Expressions → Bool
  each_of_expressions test no_expressions = true
  each_of_expressions test (expression_and e es) = each_of_expression test e && each_of_expressions test es

-- of the variable that an invocation is sent to; the Eject itself has no name
abbrev pub each_of_target : (Sort → Name → Bool) → Target → Bool
each_of_target test (target.Name name) = test variable name
each_of_target test (target.Me place) = true

abbrev mutual
  -- of the names in a statement: what is awaited goes into variables, too
  pub each_of_statement : (Sort → Name → Bool) → Statement → Bool
  each_of_statement test (Assign name value) = test variable name && each_of_expression test value
  each_of_statement test (If asked so otherwise place) =
      each_of_expression test asked && each_of_block test so && each_of_block test otherwise
  each_of_statement test (While asked body place) = each_of_expression test asked && each_of_block test body
  each_of_statement test (With name body place) = test monitor name && each_of_block test body
  each_of_statement test (Wait name place) = test condition name
  each_of_statement test (Signal name place) = test condition name
  each_of_statement test (Yield place) = true
  each_of_statement test (Deactivate place) = true
  each_of_statement test (Checkpoint status place) = test variable status
  each_of_statement test (Destroy status place) = test variable status
  each_of_statement test (Create type_name status gives place) = test variable status && test variable gives
  each_of_statement test (Invoke to operation args status gives place) =
      each_of_target test to && list_all (each_of_expression test) args && test variable status && list_all (test variable) gives
  each_of_statement test (Return results place) = list_all (each_of_expression test) results

  -- of the names in a row of statements
  pub each_of_block : (Sort → Name → Bool) → Statements → Bool
  each_of_block test no_statements = true
  each_of_block test (statement_and s ss) = each_of_statement test s && each_of_block test ss

-- ---- the bodies of a type
-- the names that a body with these parameters and variables sees
abbrev pub names_seen : TypeTree → List ParameterTree → List LocalTree → Names
names_seen t params locals = record {
  params = map (λ p. p.name) params;
  locals = map (λ v. v.name) locals;
  vars = map (λ v. v.name) t.vars;
  monitors = t.monitors;
  conditions = map (λ c. c.name) t.conditions;
}

-- the binding at a place; behind the table's end none is known
abbrev pub binding_at : List Binding → ℕ → Binding
binding_at bindings place = with_item (slice_get bindings place) (λ s. s) ByName

-- the binding at a name's place is right for it
abbrev pub has_binding : List Binding → Names → Sort → Name → Bool
has_binding bindings names sort name = is_right names sort name.text (binding_at bindings name.place)

-- in the body of an operation, which sees its parameters and its own variables, the binding of each name is right
abbrev pub operation_resolved : List Binding → TypeTree → Operation → Bool
operation_resolved bindings t o = list_all (each_of_statement (has_binding bindings (names_seen t o.params o.locals))) o.body

-- the same of the body of a process, which has no parameters
abbrev pub process_resolved : List Binding → TypeTree → Process → Bool
process_resolved bindings t p = list_all (each_of_statement (has_binding bindings (names_seen t [] p.locals))) p.body

-- the same of the assignments of an upgrade, which sees its parameters and the variables of the type
abbrev pub upgrade_resolved : List Binding → TypeTree → Upgrade → Bool
upgrade_resolved bindings t u =
    let test = has_binding bindings (names_seen t u.params []) in
    list_all (λ c. test variable c.name && each_of_expression test c.value) u.changes

-- in each body of a type the binding of each name is right
abbrev pub bodies_resolved : List Binding → TypeTree → Bool
bodies_resolved bindings t =
    list_all (operation_resolved bindings t) t.operations
    && list_all (process_resolved bindings t) t.processes
    && list_all (upgrade_resolved bindings t) t.upgrades

-- the same of the table that stands beside a type
unfoldable pub is_resolved : Program → Bool
is_resolved p = bodies_resolved p.bindings.items (type_tree p)
