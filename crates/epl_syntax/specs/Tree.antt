-- The tree that the text of a declared type spells, without where it lies in memory.
use Rattle.std.specs.Prelude.{ℕ, ℤ, Bool, List, [], ◌∷◌, map, Option}
use Rattle.eden_value.specs.Shape.{Shape, shape}
use Rattle.epl_syntax.specs.declared.tree.Name.{Name}
use Rattle.epl_syntax.specs.declared.tree.Number.{Number}
use Rattle.epl_syntax.specs.declared.tree.WrittenKind.{WrittenKind}
use Rattle.epl_syntax.specs.declared.tree.Prefix.{Prefix}
use Rattle.epl_syntax.specs.declared.tree.Operator.{Operator}
use Rattle.epl_syntax.specs.declared.tree.Builtin.{Builtin}
use Rattle.epl_syntax.specs.declared.tree.Const.{Const}
use Rattle.epl_syntax.specs.declared.tree.Const.TheVariants as const
use Rattle.epl_syntax.specs.declared.tree.Expr.{Expr}
use Rattle.epl_syntax.specs.declared.tree.Expr as expr
use Rattle.epl_syntax.specs.declared.tree.Target.{Target}
use Rattle.epl_syntax.specs.declared.tree.Stmt.{Stmt}
use Rattle.epl_syntax.specs.declared.tree.Stmt as stmt
use Rattle.epl_syntax.specs.declared.tree.ClassDecl.{ClassDecl}
use Rattle.epl_syntax.specs.declared.tree.CondDecl.{CondDecl}
use Rattle.epl_syntax.specs.declared.tree.Start.{Start}
use Rattle.epl_syntax.specs.declared.tree.VarDecl.{VarDecl}
use Rattle.epl_syntax.specs.declared.tree.LocalDecl.{LocalDecl}
use Rattle.epl_syntax.specs.declared.tree.ParDecl.{ParDecl}
use Rattle.epl_syntax.specs.declared.tree.OpDecl.{OpDecl}
use Rattle.epl_syntax.specs.declared.tree.ProcDecl.{ProcDecl}
use Rattle.epl_syntax.specs.declared.tree.Assignment.{Assignment}
use Rattle.epl_syntax.specs.declared.tree.UpgradeDecl.{UpgradeDecl}
use Rattle.epl_syntax.specs.declared.tree.Program.{Program}

-- a kind as it is written, and its place
pub record PlacedShape : Type 0 where
  pub shape : Shape
  pub place : ℕ

-- the kind, with its place, that a written one of the code is
abbrev pub written : WrittenKind → PlacedShape
written k = record { shape = shape k.kind; place = k.place }

-- a constant
pub data Constant : Type 0 where
  integer : ℤ → Constant
  text : List ℕ → Constant
  truth : Bool → Constant
  absent : Constant
  empty_list : PlacedShape → Constant

-- the constant that one of the code is
abbrev pub constant : Const → Constant
constant (const.Int n) = integer n
constant (const.Text t) = text t
constant (const.Bool b) = truth b
constant const.Absent = absent
constant (const.EmptyList k) = empty_list (written k)

-- ---- expressions
mutual
  -- an expression, with the place of its first token
  pub data Expression : Type 0 where
    Const_ : (value : Constant) (place : ℕ) → Expression
    Name_ : (name : Name) → Expression
    Me : (place : ℕ) → Expression
    Unary : (prefix : Prefix) (of : Expression) (place : ℕ) → Expression
    Binary : (operator : Operator) (left right : Expression) (place : ℕ) → Expression
    Index : (of at : Expression) (place : ℕ) → Expression
    ListOf : (items : Expressions) (place : ℕ) → Expression
    Apply : (builtin : Builtin) (args : Expressions) (place : ℕ) → Expression

  -- a row of expressions: none, or one in front of others
  pub data Expressions : Type 0 where
    no_expressions : Expressions
    expression_and : (first : Expression) (rest : Expressions) → Expressions

-- the expressions of a list, in order
abbrev pub in_order : List Expression → Expressions
in_order [] = no_expressions
in_order (e ∷ es) = expression_and e (in_order es)

abbrev mutual
  -- the expression that one of the code is
  pub expression : Expr → Expression
  expression (expr.Const value place) = Const_ (constant value) place
  expression (expr.Name name) = Name_ name
  expression (expr.Me place) = Me place
  expression (expr.Unary' prefix p of place) = Unary prefix (expression of) place
  expression (expr.Binary' operator p left q right place) = Binary operator (expression left) (expression right) place
  expression (expr.Index' p of q at place) = Index (expression of) (expression at) place
  expression (expr.ListOf' m items place) = ListOf (expression_row items) place
  expression (expr.Apply' builtin m args place) = Apply builtin (expression_row args) place

  -- the expressions of a row of the code, in order
  pub expression_row : {m : _} → expr.Row_of-Expr m → Expressions
  expression_row expr.end_of-Expr = no_expressions
  expression_row (expr.more_of-Expr e rest) = expression_and (expression e) (expression_row rest)

-- expressions in a row
abbrev pub expressions : List Expr → Expressions
expressions es = in_order (map expression es)

-- ---- statements
mutual
  -- a statement, with the place of its first token, which in an assignment is the name
  pub data Statement : Type 0 where
    Assign : (name : Name) (value : Expression) → Statement
    If : (test : Expression) (so otherwise : Statements) (place : ℕ) → Statement
    While : (test : Expression) (body : Statements) (place : ℕ) → Statement
    With : (monitor : Name) (body : Statements) (place : ℕ) → Statement
    Wait : (condition : Name) (place : ℕ) → Statement
    Signal : (condition : Name) (place : ℕ) → Statement
    Yield : (place : ℕ) → Statement
    Deactivate : (place : ℕ) → Statement
    Checkpoint : (status : Name) (place : ℕ) → Statement
    Destroy : (status : Name) (place : ℕ) → Statement
    Create : (type_name status gives : Name) (place : ℕ) → Statement
    Invoke : (target : Target) (operation : Name) (args : List Expression) (status : Name) (gives : List Name) (place : ℕ) → Statement
    Return : (results : List Expression) (place : ℕ) → Statement

  -- a row of statements: none, or one in front of others
  pub data Statements : Type 0 where
    no_statements : Statements
    statement_and : (first : Statement) (rest : Statements) → Statements

-- the statements of a list, in order
abbrev pub block_of : List Statement → Statements
block_of [] = no_statements
block_of (s ∷ ss) = statement_and s (block_of ss)

abbrev mutual
  -- the statement that one of the code is
  pub statement : Stmt → Statement
  statement (stmt.Assign name value) = Assign name (expression value)
  statement (stmt.If' test m so n otherwise place) = If (expression test) (statement_row so) (statement_row otherwise) place
  statement (stmt.While' test m body place) = While (expression test) (statement_row body) place
  statement (stmt.With' monitor m body place) = With monitor (statement_row body) place
  statement (stmt.Wait condition place) = Wait condition place
  statement (stmt.Signal condition place) = Signal condition place
  statement (stmt.Yield place) = Yield place
  statement (stmt.Deactivate place) = Deactivate place
  statement (stmt.Checkpoint status place) = Checkpoint status place
  statement (stmt.Destroy status place) = Destroy status place
  statement (stmt.Create type_name status gives place) = Create type_name status gives place
  statement (stmt.Invoke target operation args status gives place) =
      Invoke target operation (map expression args.items) status gives.items place
  statement (stmt.Return results place) = Return (map expression results.items) place

  -- the statements of a row of the code, in order
  pub statement_row : {m : _} → stmt.Row_of-Stmt m → Statements
  statement_row stmt.end_of-Stmt = no_statements
  statement_row (stmt.more_of-Stmt s rest) = statement_and (statement s) (statement_row rest)

-- statements in a row
abbrev pub statements : List Stmt → Statements
statements ss = block_of (map statement ss)

-- ---- declarations
-- the constant that a variable holds at first, and where it is written
pub record Beginning : Type 0 where
  pub value : Constant
  pub place : ℕ

-- what a variable starts with, and its place
abbrev pub beginning : Start → Beginning
beginning s = record { value = constant s.value; place = s.place }

-- a variable of a type
pub record Variable : Type 0 where
  pub name : Name
  pub kind : PlacedShape
  pub durable : Bool
  pub start : Beginning
  pub monitor : ℕ

-- the variable that a declaration of the code is
abbrev pub variable : VarDecl → Variable
variable v = record { name = v.name; kind = written v.kind; durable = v.durable; start = beginning v.start; monitor = v.monitor }

-- a variable of an operation or a process
pub record Local : Type 0 where
  pub name : Name
  pub kind : PlacedShape
  pub start : Beginning

-- the variable of a body that a declaration of the code is
abbrev pub local_of : LocalDecl → Local
local_of v = record { name = v.name; kind = written v.kind; start = beginning v.start }

-- a parameter of an operation or an upgrade
pub record Parameter : Type 0 where
  pub name : Name
  pub kind : PlacedShape

-- the parameter that a declaration of the code is
abbrev pub parameter : ParDecl → Parameter
parameter p = record { name = p.name; kind = written p.kind }

-- an operation
pub record Operation : Type 0 where
  pub name : Name
  pub needs : Number
  pub class : Name
  pub params : List Parameter
  pub results : List PlacedShape
  pub locals : List Local
  pub body : List Statement

-- the operation that a declaration of the code is
abbrev pub operation : OpDecl → Operation
operation o = record {
  name = o.name;
  needs = o.needs;
  class = o.class;
  params = map parameter o.params.items;
  results = map written o.results.items;
  locals = map local_of o.locals.items;
  body = map statement o.body.items;
}

-- a process
pub record Process : Type 0 where
  pub name : Name
  pub locals : List Local
  pub body : List Statement

-- the process that a declaration of the code is
abbrev pub process : ProcDecl → Process
process p = record { name = p.name; locals = map local_of p.locals.items; body = map statement p.body.items }

-- an assignment of an upgrade
pub record UpgradeAssignment : Type 0 where
  pub name : Name
  pub value : Expression

-- the assignment of an upgrade that one of the code is
abbrev pub change : Assignment → UpgradeAssignment
change a = record { name = a.name; value = expression a.value }

-- an upgrade from an earlier version
pub record Upgrade : Type 0 where
  pub from : Number
  pub params : List Parameter
  pub changes : List UpgradeAssignment
  pub place : ℕ

-- the upgrade that a declaration of the code is
abbrev pub upgrade : UpgradeDecl → Upgrade
upgrade u = record { from = u.from; params = map parameter u.params.items; changes = map change u.assignments.items; place = u.place }

-- a type, as it is written
pub record TypeTree : Type 0 where
  pub name : Name
  pub version : Option Number
  pub vars : List Variable
  pub classes : List ClassDecl
  pub monitors : List Name
  pub conditions : List CondDecl
  pub operations : List Operation
  pub processes : List Process
  pub upgrades : List Upgrade

-- the type that a program of the code is
abbrev pub type_tree : Program → TypeTree
type_tree p = record {
  name = p.name;
  version = p.version;
  vars = map variable p.vars.items;
  classes = p.classes.items;
  monitors = p.monitors.items;
  conditions = p.conditions.items;
  operations = map operation p.operations.items;
  processes = map process p.processes.items;
  upgrades = map upgrade p.upgrades.items;
}
