-- How an Edentype is read: a reader for each rule of its items and upgrades.
use Rattle.std.specs.Prelude.{ℕ, ◌+◌, Bool, true, false, List, [], length, Option, Some, None}
use Rattle.grammar.specs.Blocks.{◌>>=◌, ◌>>◌}
use Rattle.grammar.specs.Depths.{Looker, look_here, look_if, look_many}
use Rattle.grammar.specs.FirstFault.{look_whole}
use Rattle.grammar.specs.Separated.{look_closed, look_separated}
use Rattle.grammar.specs.Sequences.{look_row}
use Rattle.epl_syntax.specs.declared.token.Mark.TheVariants as mark
use Rattle.epl_syntax.specs.declared.token.Token.{Token}
use Rattle.epl_syntax.specs.declared.token.TokenKind.{TokenKind}
use Rattle.epl_syntax.specs.declared.token.TokenKind.TheVariants as kind
use Rattle.epl_syntax.specs.declared.tree.Number.{Number}
use Rattle.epl_syntax.specs.declared.tree.ClassDecl.{ClassDecl}
use Rattle.epl_syntax.specs.declared.word.Word.TheVariants as word
use Rattle.epl_parser.specs.declared.item.ItemHead.{ItemHead}
use Rattle.epl_parser.specs.declared.item.ItemHead.TheVariants as item
use Rattle.epl_parser.specs.declared.item.MemberHead.{MemberHead}
use Rattle.epl_parser.specs.declared.item.MemberHead.TheVariants as member
use Rattle.epl_syntax.specs.Tree.{PlacedShape, Local, Parameter, Statement, Operation, Process, UpgradeAssignment, Upgrade, TypeTree}
use Rattle.epl_parser.specs.OneToken.{the_mark, the_word, the_lower, the_upper, look_one, lower_behind, number_behind}
use Rattle.epl_parser.specs.WrittenKinds.{read_written_kind}
use Rattle.epl_parser.specs.Constants.{read_constant}
use Rattle.epl_parser.specs.ExpressionReader.{read_expression}
use Rattle.epl_parser.specs.StatementReader.{look_in_parens, read_body}
use Rattle.epl_parser.specs.Items.{with_variable, with_class, with_monitor, with_condition, with_operation}
use Rattle.epl_parser.specs.Items.{with_process, with_upgrades, without_items, declared, member_head, item_head}

-- a value for the kind of names with a small first letter
unfoldable pub lower_kind : TokenKind → Option (Unit {0})
lower_kind kind.Lower = Some tt
lower_kind _ = None

-- a version behind its word, or none
unfoldable pub read_version : Looker Token (Option Number)
read_version =
    look_if (the_word word.Version) None (do
      number ← number_behind word.Version 0
      look_here (Some number))

module _ (bytes : List ℕ) (turns : ℕ) where
  -- ---- variables and parameters
  -- a parameter: a name and its kind
  unfoldable pub read_parameter : Looker Token Parameter
  read_parameter = do
    name ← look_one 0 (the_lower bytes)
    look_one 0 (the_mark mark.Colon)
    of_kind ← read_written_kind 0
    look_here (record { name = name; kind = of_kind })

  -- a name, its kind, and the constant that it holds at first
  unfoldable pub read_binding : Looker Token Local
  read_binding = do
    x ← read_parameter
    look_one 0 (the_mark mark.Equal)
    start ← read_constant bytes 0
    look_here (record { name = x.name; kind = x.kind; start = start })

  -- a variable of a body, with the word "var" before it
  unfoldable pub read_local : Looker Token Local
  read_local = do
    look_one 0 (the_word word.Var)
    read_binding

  -- the variables of a body, one behind another
  unfoldable pub read_locals : Looker Token (List Local)
  read_locals = look_row (the_word word.Var) read_local turns []

  -- at least one parameter, with commas between each two
  unfoldable pub read_parameters : Looker Token (List Parameter)
  read_parameters = look_separated 32 0 (the_mark mark.Comma) turns read_parameter

  -- parameters in parentheses, which may be empty
  unfoldable pub read_parameter_list : Looker Token (List Parameter)
  read_parameter_list = look_in_parens 0 read_parameters

  -- at least one kind, with commas between each two
  unfoldable pub read_kinds : Looker Token (List PlacedShape)
  read_kinds = look_separated 32 0 (the_mark mark.Comma) turns (read_written_kind 0)

  -- kinds in parentheses, which may be empty
  unfoldable pub read_results : Looker Token (List PlacedShape)
  read_results = look_in_parens 0 read_kinds

  -- ---- items, each behind its first word
  -- a class: its name and its limit
  unfoldable pub read_class : Looker Token ClassDecl
  read_class = do
    name ← look_one 0 (the_lower bytes)
    limit ← number_behind word.Limit 0
    look_here (record { name = name; limit = limit })

  -- parameters and results
  unfoldable pub read_signature : Looker Token (List Parameter × List PlacedShape)
  read_signature = do
    params ← read_parameter_list
    look_one 0 (the_word word.Returns)
    results ← read_results
    look_here (params, results)

  -- variables, statements and the end behind them
  unfoldable pub read_code : Looker Token (List Local × List Statement)
  read_code = do
    locals ← read_locals
    body ← read_body bytes turns
    look_one 0 (the_word word.End)
    look_here (locals, body)

  -- an operation: its name, the rights that it needs, its class, its signature and its code
  unfoldable pub read_operation : Looker Token Operation
  read_operation = do
    name ← look_one 0 (the_upper bytes)
    needs ← number_behind word.Needs 0
    class ← lower_behind bytes word.Class 0
    s ← read_signature
    c ← read_code
    look_here (record { name = name; needs = needs; class = class; params = s.0; results = s.1; locals = c.0; body = c.1 })

  -- a process: its name and its code
  unfoldable pub read_process : Looker Token Process
  read_process = do
    name ← look_one 0 (the_upper bytes)
    c ← read_code
    look_here (record { name = name; locals = c.0; body = c.1 })

  -- a variable, added to the type
  unfoldable pub read_variable : Bool → ℕ → TypeTree → Looker Token TypeTree
  read_variable durable number e = do
    x ← read_binding
    look_here (with_variable (declared durable number x) e)

  -- a condition of the monitor of this number, added to the type
  unfoldable pub read_condition : ℕ → TypeTree → Looker Token TypeTree
  read_condition number e = do
    name ← look_one 0 (the_lower bytes)
    look_here (with_condition (record { name = name; monitor = number }) e)

  -- a part of that monitor that has this head, behind its first word
  abbrev pub read_member_rest : ℕ → TypeTree → MemberHead → Looker Token TypeTree
  read_member_rest number e member.Durable = read_variable true number e
  read_member_rest number e member.Working = read_variable false number e
  read_member_rest number e member.Condition = read_condition number e

  -- a part of that monitor, added to the type
  unfoldable pub read_member : ℕ → TypeTree → Looker Token TypeTree
  read_member number e = do
    h ← look_one 0 (λ t. member_head t.kind)
    read_member_rest number e h

  -- the parts of that monitor, one behind another
  unfoldable pub read_members : ℕ → TypeTree → Looker Token TypeTree
  read_members number e = look_many (λ t. member_head t.kind) (read_member number) turns e

  -- a monitor, which takes the next number, with its parts, up to its end
  unfoldable pub read_monitor : TypeTree → Looker Token TypeTree
  read_monitor e = do
    name ← look_one 0 (the_upper bytes)
    look_closed 32 0 (the_word word.End) (read_members (length e.monitors + 1) (with_monitor name e))

  -- an item that has this head, behind its first word
  abbrev pub read_item_rest : TypeTree → ItemHead → Looker Token TypeTree
  read_item_rest e item.Durable = read_variable true 0 e
  read_item_rest e item.Working = read_variable false 0 e
  read_item_rest e item.Class = do
    c ← read_class
    look_here (with_class c e)
  read_item_rest e item.Monitor = read_monitor e
  read_item_rest e item.Operation = do
    o ← read_operation
    look_here (with_operation o e)
  read_item_rest e item.Process = do
    p ← read_process
    look_here (with_process p e)

  -- an item, added to the type
  unfoldable pub read_item : TypeTree → Looker Token TypeTree
  read_item e = do
    h ← look_one 0 (λ t. item_head t.kind)
    read_item_rest e h

  -- the items of a type, one behind another
  unfoldable pub read_items : TypeTree → Looker Token TypeTree
  read_items e = look_many (λ t. item_head t.kind) read_item turns e

  -- ---- upgrades
  -- an assignment: a name and the expression of its value
  unfoldable pub read_change : Looker Token UpgradeAssignment
  read_change = do
    name ← look_one 0 (the_lower bytes)
    look_one 0 (the_mark mark.Assign)
    value ← read_expression bytes turns 0
    look_here (record { name = name; value = value })

  -- the assignments of an upgrade, one behind another
  unfoldable pub read_changes : Looker Token (List UpgradeAssignment)
  read_changes = look_row (λ t. lower_kind t.kind) read_change turns []

  -- parameters, assignments and the end behind them
  unfoldable pub read_conversion : Looker Token (List Parameter × List UpgradeAssignment)
  read_conversion = do
    params ← read_parameter_list
    changes ← read_changes
    look_one 0 (the_word word.End)
    look_here (params, changes)

  -- an upgrade: the version from which it leads, its parameters and assignments
  unfoldable pub read_upgrade : Looker Token Upgrade
  read_upgrade = do
    first ← look_one 0 (the_word word.Upgrade)
    from ← number_behind word.From 0
    c ← read_conversion
    look_here (record { from = from; params = c.0; changes = c.1; place = first.start })

  -- the upgrades of a type, one behind another
  unfoldable pub read_upgrades : Looker Token (List Upgrade)
  read_upgrades = look_row (the_word word.Upgrade) read_upgrade turns []

  -- ---- the type
  -- a type, from "edentype" to "endtype"
  unfoldable pub read_edentype : Looker Token TypeTree
  read_edentype = do
    look_one 0 (the_word word.Edentype)
    name ← look_one 0 (the_upper bytes)
    version ← read_version
    e ← read_items (without_items name version)
    upgrades ← read_upgrades
    look_one 0 (the_word word.Endtype)
    look_here (with_upgrades upgrades e)

  -- a type, of all the tokens
  unfoldable pub read_program : Looker Token TypeTree
  read_program = look_whole read_edentype
