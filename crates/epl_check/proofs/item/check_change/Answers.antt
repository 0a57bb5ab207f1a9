use Rattle.std.proofs.Common.{None, map, sym, ap, ◌∙◌, rules}
use Rattle.epl_syntax.specs.Tree.{expression, variable}
use Rattle.epl_syntax.specs.Rules.KindsOf.{kind_of}
use Rattle.epl_syntax.specs.Rules.InExpressions.{place_of, broken_expression}
use Rattle.epl_syntax.specs.Rules.InItems.{durable_named}
use Rattle.epl_check.specs.View.{seen, is_past}
use Rattle.epl_check.proofs.Items.{change_past}
use Rattle.epl_check.proofs.Least.{least_append}
use Rattle.epl_check.proofs.item.check_change.Goals as goal

pub returns-then-is_past-2 : goal.returns-then-is_past-2
returns-then-is_past-2 c =
    let o = c.args.first.now in
    let name = c.args.change.now.name in
    let e = expression c.args.change.now.value in
    let scope = seen c.args.scope.now in
    change_past o c.check_expression.new.first (durable_named (map variable c.args.vars.now) name.text) (kind_of scope e)
    (broken_expression scope None e) name.place (place_of e)
    (sym c.if-is_past.ensures) (ap (is_past o) (sym c.place_of-place.ensures) ∙ sym c.if-is_past-2.ensures)
    c.in_ok-check_expression.ensures.told

pub returns : goal.returns
returns c = search (rules, least_append)
