-- The constants that stand in a type are values: an integer fits into 64 bits with a sign, and a text is within the limits of texts.
use Rattle.std.specs.Prelude.{List}
use Rattle.std.specs.List.{AllByRecursion}
use Rattle.eden_value.specs.Limits.{IsValue}
use Rattle.eden_value.specs.Range.{InRange}
use Rattle.eden_value.specs.declared.value.TheConstants.{DEPTH_LIMIT}
use Rattle.epl_syntax.specs.Tree.{Constant, Expression, Const_, Name_, Me, Unary, Binary, Index, ListOf, Apply, Expressions}
use Rattle.epl_syntax.specs.Tree.{no_expressions, expression_and, Statement, Assign, If, While, With, Wait, Signal, Yield, Deactivate}
use Rattle.epl_syntax.specs.Tree.{Checkpoint, Destroy, Create, Invoke, Return, Statements, no_statements, statement_and, Local, Operation}
use Rattle.epl_syntax.specs.Tree.{Upgrade, Process, TypeTree, type_tree}
use Rattle.epl_syntax.specs.Memory.{value_of_constant}
use Rattle.epl_syntax.specs.Rules.OfTypes.{TypeList}

-- a constant whose value is within the limits of values
abbrev pub ConstantFits : Constant → Type 0
ConstantFits c = IsValue DEPTH_LIMIT (value_of_constant c) × InRange (value_of_constant c)

abbrev mutual
  -- each constant of an expression is so
  pub ExpressionFits : Expression → Type 0
  ExpressionFits (Const_ value place) = ConstantFits value
  ExpressionFits (Name_ name) = Unit {0}
  ExpressionFits (Me place) = Unit {0}
  ExpressionFits (Unary prefix of place) = ExpressionFits of
  ExpressionFits (Binary operator left right place) = ExpressionFits left × ExpressionFits right
  ExpressionFits (Index of at place) = ExpressionFits of × ExpressionFits at
  ExpressionFits (ListOf items place) = ExpressionsFit items
  ExpressionFits (Apply builtin args place) = ExpressionsFit args

  -- each constant of several expressions
  pub ExpressionsFit : Expressions → Type 0
  ExpressionsFit no_expressions = Unit {0}
  ExpressionsFit (expression_and e es) = ExpressionFits e × ExpressionsFit es

abbrev mutual
  -- each constant of a statement
  pub StatementFits : Statement → Type 0
  StatementFits (Assign name value) = ExpressionFits value
  StatementFits (If test so otherwise place) = ExpressionFits test × StatementsFit so × StatementsFit otherwise
  StatementFits (While test body place) = ExpressionFits test × StatementsFit body
  StatementFits (With monitor body place) = StatementsFit body
  StatementFits (Wait condition place) = Unit {0}
  StatementFits (Signal condition place) = Unit {0}
  StatementFits (Yield place) = Unit {0}
  StatementFits (Deactivate place) = Unit {0}
  StatementFits (Checkpoint status place) = Unit {0}
  StatementFits (Destroy status place) = Unit {0}
  StatementFits (Create type_name status gives place) = Unit {0}
  StatementFits (Invoke target operation args status gives place) = AllByRecursion ExpressionFits args
  StatementFits (Return results place) = AllByRecursion ExpressionFits results

  -- each constant of several statements
  pub StatementsFit : Statements → Type 0
  StatementsFit no_statements = Unit {0}
  StatementsFit (statement_and s ss) = StatementFits s × StatementsFit ss

-- the first values of locals
abbrev pub LocalsFit : List Local → Type 0
LocalsFit locals = AllByRecursion (λ v. ConstantFits v.start.value) locals

-- each constant of a type
pub record TreeFits (t : TypeTree) : Type 0 where
  -- the first values of its variables
  pub vars : AllByRecursion (λ v. ConstantFits v.start.value) t.vars
  -- those of its operations
  pub operations : AllByRecursion (λ (o : Operation). LocalsFit o.locals × AllByRecursion StatementFits o.body) t.operations
  -- those of its processes
  pub processes : AllByRecursion (λ (p : Process). LocalsFit p.locals × AllByRecursion StatementFits p.body) t.processes
  -- those of its upgrades
  pub upgrades : AllByRecursion (λ (u : Upgrade). AllByRecursion (λ c. ExpressionFits c.value) u.changes) t.upgrades

-- The constants of each type that the script declares are values.
abbrev pub HaveValues : TypeList → Type 0
HaveValues ts = AllByRecursion (λ t. TreeFits (type_tree t)) ts.declared
