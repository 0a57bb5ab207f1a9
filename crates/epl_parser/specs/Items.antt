-- The grammar of an Edentype: its items and upgrades. Their tokens stand in no statement and no expression.
use Rattle.std.specs.Prelude.{ℕ, ◌+◌, Bool, true, false, List, [], ◌∷◌, ◌++◌, length, Option, Some, None}
use Rattle.grammar.specs.Grammar.{Grammar, Nothing}
use Rattle.grammar.specs.Depths.{Placed, Perhaps, Steps}
use Rattle.grammar.specs.Separated.{Separated}
use Rattle.grammar.specs.Sequences.{◌>>=◌, ◌>>◌, Row}
use Rattle.epl_syntax.specs.declared.token.Mark.TheVariants as mark
use Rattle.epl_syntax.specs.declared.token.Token.{Token}
use Rattle.epl_syntax.specs.declared.token.TokenKind.{TokenKind}
use Rattle.epl_syntax.specs.declared.token.TokenKind.TheVariants as kind
use Rattle.epl_syntax.specs.declared.tree.Name.{Name}
use Rattle.epl_syntax.specs.declared.tree.Number.{Number}
use Rattle.epl_syntax.specs.declared.tree.ClassDecl.{ClassDecl}
use Rattle.epl_syntax.specs.declared.tree.CondDecl.{CondDecl}
use Rattle.epl_syntax.specs.declared.word.Word.TheVariants as word
use Rattle.epl_parser.specs.declared.item.ItemHead.{ItemHead}
use Rattle.epl_parser.specs.declared.item.ItemHead.TheVariants as item
use Rattle.epl_parser.specs.declared.item.MemberHead.{MemberHead}
use Rattle.epl_parser.specs.declared.item.MemberHead.TheVariants as member
use Rattle.epl_syntax.specs.Tree.{Variable, Local, Parameter, Operation, Process, UpgradeAssignment, Upgrade, TypeTree}
use Rattle.epl_parser.specs.OneToken.{the_mark, the_word, the_lower, the_upper, the_number, OneAt}
use Rattle.epl_parser.specs.WrittenKinds.{IsWrittenKind}
use Rattle.epl_parser.specs.Constants.{IsConstant}
use Rattle.epl_parser.specs.Expressions.{IsExpression}
use Rattle.epl_parser.specs.Statements.{InParens, IsStatement}

-- ---- what a type has, with one more
-- a variable more, behind those of the type
abbrev pub with_variable : Variable → TypeTree → TypeTree
with_variable v e = record e { vars = e.vars ++ v ∷ [] }

-- a class more, behind its other classes
abbrev pub with_class : ClassDecl → TypeTree → TypeTree
with_class c e = record e { classes = e.classes ++ c ∷ [] }

-- a monitor more, whose number is the last
abbrev pub with_monitor : Name → TypeTree → TypeTree
with_monitor name e = record e { monitors = e.monitors ++ name ∷ [] }

-- a condition more, behind those of all monitors
abbrev pub with_condition : CondDecl → TypeTree → TypeTree
with_condition c e = record e { conditions = e.conditions ++ c ∷ [] }

-- an operation more, behind its other operations
abbrev pub with_operation : Operation → TypeTree → TypeTree
with_operation o e = record e { operations = e.operations ++ o ∷ [] }

-- a process more, behind its other processes
abbrev pub with_process : Process → TypeTree → TypeTree
with_process p e = record e { processes = e.processes ++ p ∷ [] }

-- the type with these upgrades in place of those that it has
abbrev pub with_upgrades : List Upgrade → TypeTree → TypeTree
with_upgrades upgrades e = record e { upgrades = upgrades }

-- a type without items
abbrev pub without_items : Name → Option Number → TypeTree
without_items name version =
    record {
      name = name;
      version = version;
      vars = [];
      classes = [];
      monitors = [];
      conditions = [];
      operations = [];
      processes = [];
      upgrades = [];
    }

-- a variable of the type, durable or working, in the monitor of this number or in none, which is 0
abbrev pub declared : Bool → ℕ → Local → Variable
declared durable monitor x = record { name = x.name; kind = x.kind; durable = durable; start = x.start; monitor = monitor }

-- ---- variables and parameters
-- LOWER ":" kind "=" const
abbrev pub IsBinding : List ℕ → Grammar (Placed Token) Local
IsBinding bytes = do
  name ← OneAt 0 (the_lower bytes)
  OneAt 0 (the_mark mark.Colon)
  of_kind ← IsWrittenKind 0
  OneAt 0 (the_mark mark.Equal)
  start ← IsConstant bytes 0
  Nothing (record { name = name; kind = of_kind; start = start })

-- var = "var" LOWER ":" kind "=" const
abbrev pub IsLocal : List ℕ → Grammar (Placed Token) Local
IsLocal bytes = do
  OneAt 0 (the_word word.Var)
  IsBinding bytes

-- par = LOWER ":" kind
abbrev pub IsParameter : List ℕ → Grammar (Placed Token) Parameter
IsParameter bytes = do
  name ← OneAt 0 (the_lower bytes)
  OneAt 0 (the_mark mark.Colon)
  of_kind ← IsWrittenKind 0
  Nothing (record { name = name; kind = of_kind })

-- "(" [ par { "," par } ] ")"
abbrev pub IsParameters : List ℕ → Grammar (Placed Token) (List Parameter)
IsParameters bytes = InParens 0 (Separated 0 (the_mark mark.Comma) (IsParameter bytes))

-- ---- items, each behind its first word
-- "class" LOWER "limit" INT
abbrev pub ClassRest : List ℕ → Grammar (Placed Token) ClassDecl
ClassRest bytes = do
  name ← OneAt 0 (the_lower bytes)
  OneAt 0 (the_word word.Limit)
  limit ← OneAt 0 the_number
  Nothing (record { name = name; limit = limit })

-- "operation" UPPER "needs" INT "class" LOWER "(" [ par { "," par } ] ")" "returns" "(" [ kind { "," kind } ] ")" { var } { stmt } "end"
abbrev pub OperationRest : List ℕ → Grammar (Placed Token) Operation
OperationRest bytes = do
  name ← OneAt 0 (the_upper bytes)
  OneAt 0 (the_word word.Needs)
  needs ← OneAt 0 the_number
  OneAt 0 (the_word word.Class)
  class ← OneAt 0 (the_lower bytes)
  params ← IsParameters bytes
  OneAt 0 (the_word word.Returns)
  results ← InParens 0 (Separated 0 (the_mark mark.Comma) (IsWrittenKind 0))
  locals ← Row (IsLocal bytes)
  body ← Row (IsStatement bytes 1)
  OneAt 0 (the_word word.End)
  Nothing (record { name = name; needs = needs; class = class; params = params; results = results; locals = locals; body = body })

-- "process" UPPER { var } { stmt } "end"
abbrev pub ProcessRest : List ℕ → Grammar (Placed Token) Process
ProcessRest bytes = do
  name ← OneAt 0 (the_upper bytes)
  locals ← Row (IsLocal bytes)
  body ← Row (IsStatement bytes 1)
  OneAt 0 (the_word word.End)
  Nothing (record { name = name; locals = locals; body = body })

-- which part of a monitor begins with a token of this kind
unfoldable pub member_head : TokenKind → Option MemberHead
member_head (kind.Word word.Durable) = Some member.Durable
member_head (kind.Word word.Working) = Some member.Working
member_head (kind.Word word.Condition) = Some member.Condition
member_head _ = None

-- decl | "condition" LOWER, in the monitor of this number
abbrev pub MemberRest : List ℕ → ℕ → TypeTree → MemberHead → Grammar (Placed Token) TypeTree
MemberRest bytes number e member.Durable = do
  x ← IsBinding bytes
  Nothing (with_variable (declared true number x) e)
MemberRest bytes number e member.Working = do
  x ← IsBinding bytes
  Nothing (with_variable (declared false number x) e)
MemberRest bytes number e member.Condition = do
  name ← OneAt 0 (the_lower bytes)
  Nothing (with_condition (record { name = name; monitor = number }) e)

-- what a type becomes by a part of the monitor of this number
abbrev pub IsMember : List ℕ → ℕ → TypeTree → Grammar (Placed Token) TypeTree
IsMember bytes number e = do
  h ← OneAt 0 (λ t. member_head t.kind)
  MemberRest bytes number e h

-- which item begins with a token of this kind
unfoldable pub item_head : TokenKind → Option ItemHead
item_head (kind.Word word.Durable) = Some item.Durable
item_head (kind.Word word.Working) = Some item.Working
item_head (kind.Word word.Class) = Some item.Class
item_head (kind.Word word.Monitor) = Some item.Monitor
item_head (kind.Word word.Operation) = Some item.Operation
item_head (kind.Word word.Process) = Some item.Process
item_head _ = None

-- what a type becomes by an item of this head, whose first word stands before
abbrev pub ItemRest : List ℕ → TypeTree → ItemHead → Grammar (Placed Token) TypeTree
-- ( "durable" | "working" ) LOWER ":" kind "=" const
ItemRest bytes e item.Durable = do
  x ← IsBinding bytes
  Nothing (with_variable (declared true 0 x) e)
ItemRest bytes e item.Working = do
  x ← IsBinding bytes
  Nothing (with_variable (declared false 0 x) e)
ItemRest bytes e item.Class = do
  c ← ClassRest bytes
  Nothing (with_class c e)
-- "monitor" UPPER { decl | "condition" LOWER } "end"
ItemRest bytes e item.Monitor = do
  name ← OneAt 0 (the_upper bytes)
  inside ← Steps (IsMember bytes (length e.monitors + 1)) (with_monitor name e)
  OneAt 0 (the_word word.End)
  Nothing inside
ItemRest bytes e item.Operation = do
  o ← OperationRest bytes
  Nothing (with_operation o e)
ItemRest bytes e item.Process = do
  p ← ProcessRest bytes
  Nothing (with_process p e)

-- what a type becomes by an item
abbrev pub IsItem : List ℕ → TypeTree → Grammar (Placed Token) TypeTree
IsItem bytes e = do
  h ← OneAt 0 (λ t. item_head t.kind)
  ItemRest bytes e h

-- ---- upgrades
-- LOWER ":=" expr
abbrev pub IsChange : List ℕ → Grammar (Placed Token) UpgradeAssignment
IsChange bytes = do
  name ← OneAt 0 (the_lower bytes)
  OneAt 0 (the_mark mark.Assign)
  value ← IsExpression bytes 0
  Nothing (record { name = name; value = value })

-- upgrade = "upgrade" "from" INT "(" [ par { "," par } ] ")" { LOWER ":=" expr } "end"
abbrev pub IsUpgrade : List ℕ → Grammar (Placed Token) Upgrade
IsUpgrade bytes = do
  first ← OneAt 0 (the_word word.Upgrade)
  OneAt 0 (the_word word.From)
  from ← OneAt 0 the_number
  params ← IsParameters bytes
  changes ← Row (IsChange bytes)
  OneAt 0 (the_word word.End)
  Nothing (record { from = from; params = params; changes = changes; place = first.start })

-- [ "version" INT ]
abbrev pub IsVersion : Grammar (Placed Token) (Option Number)
IsVersion =
    Perhaps None (do
      OneAt 0 (the_word word.Version)
      number ← OneAt 0 the_number
      Nothing (Some number))

-- edentype = "edentype" UPPER [ "version" INT ] { item } { upgrade } "endtype"
abbrev pub IsEdentype : List ℕ → Grammar (Placed Token) TypeTree
IsEdentype bytes = do
  OneAt 0 (the_word word.Edentype)
  name ← OneAt 0 (the_upper bytes)
  version ← IsVersion
  e ← Steps (IsItem bytes) (without_items name version)
  upgrades ← Row (IsUpgrade bytes)
  OneAt 0 (the_word word.Endtype)
  Nothing (with_upgrades upgrades e)
