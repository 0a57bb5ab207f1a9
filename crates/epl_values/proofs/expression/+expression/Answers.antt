use Rattle.std.proofs.Common.{◌≡◌, rules}
use Rattle.eden_value.specs.Datum.{number}
use Rattle.eden_value.specs.View.{datum}
use Rattle.epl_syntax.specs.declared.tree.Expr.TheViews.{the_lemmas}
use Rattle.epl_syntax.specs.Operators.{of_both}
use Rattle.epl_syntax.specs.Tree.{Binary, ListOf, Apply, type_tree, expression, expressions}
use Rattle.epl_syntax.proofs.TreeRows.{row_items}
use Rattle.epl_values.specs.Comes.{Comes}
use Rattle.epl_values.specs.Variables.{is_found, memory}
use Rattle.epl_values.proofs.Applied.{between_numbers}
use Rattle.epl_values.proofs.Places.{me_is}
use Rattle.epl_values.proofs.Bindings.{in_list, in_apply, each_item}
use Rattle.epl_values.proofs.expression.+expression.Goals as goal

pub value_of-returns-in_err-values-in-ListOf : goal.value_of-returns-in_err-values-in-ListOf
value_of-returns-in_err-values-in-ListOf t c = search (rules, the_lemmas, row_items)

pub value_of-returns-in_err-values-in-Apply : goal.value_of-returns-in_err-values-in-Apply
value_of-returns-in_err-values-in-Apply t c = search (rules, the_lemmas, row_items)

pub value_of-returns-in-Me : goal.value_of-returns-in-Me
value_of-returns-in-Me t c = search (rules, the_lemmas, me_is)

pub value_of-returns-in_ok-values-in-ListOf : goal.value_of-returns-in_ok-values-in-ListOf
value_of-returns-in_ok-values-in-ListOf t c = search (rules, the_lemmas, row_items)

pub value_of-returns-in_ok-values-in-Apply : goal.value_of-returns-in_ok-values-in-Apply
value_of-returns-in_ok-values-in-Apply t c = search (rules, the_lemmas, row_items)

pub value_of-returns-in-Some : goal.value_of-returns-in-Some
value_of-returns-in-Some t c =
    let left = expression c.deref-in-Binary.result.now in
    let right = expression c.deref-in-Binary-2.result.now in
    let is : expression c.args.e.now ≡ Binary c.in-Binary.operator left right c.in-Binary.place = search (rules, the_lemmas) in
    let found : Comes datum c.of_integers.result (of_both c.in-Binary.operator (number c.in-Some.a) (number c.in-Some.b)) = search rules in
    between_numbers (memory (type_tree c.args.program.now) c.args.vars.now) c.in-Binary.operator left right c.in-Binary.place
    (expression c.args.e.now) c.in-Some.a c.in-Some.b c.of_integers.result is c.in-Some.ensures.left c.in-Some.ensures.right
    found

pub value_of-values_of-requires : goal.value_of-values_of-requires
value_of-values_of-requires t c =
    let items = expressions c.deref-in-ListOf.result.now in
    let is : expression c.args.e.now ≡ ListOf items c.in-ListOf.place = search (rules, the_lemmas, row_items) in (
      search (rules, the_lemmas),
      in_list (is_found c.args.program.now c.args.vars.now.owner) (expression c.args.e.now) items c.in-ListOf.place is c.requires,
    )

pub value_of-values_of-requires-in-Apply : goal.value_of-values_of-requires-in-Apply
value_of-values_of-requires-in-Apply t c =
    let args = expressions c.deref-in-Apply.result.now in
    let is : expression c.args.e.now ≡ Apply c.in-Apply.builtin args c.in-Apply.place = search (rules, the_lemmas, row_items) in (
      search (rules, the_lemmas),
      in_apply (is_found c.args.program.now c.args.vars.now.owner) (expression c.args.e.now) c.in-Apply.builtin args c.in-Apply.place is
          c.requires,
    )

pub values_of-value_of-requires : goal.values_of-value_of-requires
values_of-value_of-requires t c = (
  search (rules, the_lemmas),
  each_item (is_found c.args.program.now c.args.vars.now.owner) c.args.es.now c.loop-e.e-index c.e-item.result c.requires
      c.loop-e-test.true c.e-item.is,
)
