use Rattle.std.proofs.Common.{rules, ap, ◌∙◌, sym}
use Rattle.epl_syntax.specs.declared.tree.Expr.TheViews.{the_lemmas}
use Rattle.epl_syntax.specs.Rules.KindsOf.{argument_tests}
use Rattle.epl_syntax.specs.Rules.First.{least}
use Rattle.epl_syntax.specs.Rules.InExpressions.{misfit_known, failing}
use Rattle.epl_check.specs.View.{seen, found, passes_at}
use Rattle.epl_check.proofs.Least.{least_append}
use Rattle.epl_syntax.proofs.TreeRows.{row_items}
use Rattle.epl_check.proofs.Rows.{count_is, items_step, arguments_step}
use Rattle.epl_check.proofs.expression.+expression.Goals as goal

pub check_items-loop-i-preserved : goal.check_items-loop-i-preserved
check_items-loop-i-preserved t c =
    let this = found c.in_ok-kind.kind in
    let o1 = c.check_expression.new.first in
    let now = c.first_at-known.ensures ∙ sym c.first_of-of_first.ensures in
    let fits =
    c.fit_known.ensures ∙ ap (λ n. least o1 (misfit_known n this c.place_of.result)) now
    ∙ ap (λ p. least o1 (misfit_known (found c.first_of-of_first.result) this p)) c.place_of.ensures in
    let s =
    items_step (seen c.args.scope.now) c.args.held c.args.items.now c.loop-i.i c.index-items-i.result (found c.loop-i.of_first) this
    (found c.first_of-of_first.result) c.loop-i.first o1 c.fit_known.new.first _ c.loop-i-test.true c.index-items-i.is
    c.loop-i.invariant.kind
    c.in_ok-kind.ensures.kind c.first_of-of_first.ensures c.in_ok-kind.ensures.told fits c.loop-i.invariant.told in
    record { kind = s.0; told = s.1 }

pub check_arguments-loop-i-preserved : goal.check_arguments-loop-i-preserved
check_arguments-loop-i-preserved t c =
    let this = found c.in_ok-kind.kind in
    let o1 = c.check_expression.new.first in
    let tests = argument_tests c.args.builtin in
    let now = c.first_at-known.ensures ∙ sym c.first_of-of_first.ensures in
    let fits =
    c.fit_argument.ensures ∙ ap (λ n. least o1 (failing (passes_at (tests n) c.loop-i.i) this c.place_of.result)) now
    ∙ ap (λ p. least o1 (failing (passes_at (tests (found c.first_of-of_first.result)) c.loop-i.i) this p)) c.place_of.ensures in
    let s =
    arguments_step (seen c.args.scope.now) c.args.held c.args.args.now c.loop-i.i c.index-args-i.result tests (found c.loop-i.of_first) this
    (found c.first_of-of_first.result) c.loop-i.first o1 c.fit_argument.new.first _ c.loop-i-test.true c.index-args-i.is
    c.loop-i.invariant.kind
    c.in_ok-kind.ensures.kind c.first_of-of_first.ensures c.in_ok-kind.ensures.told fits c.loop-i.invariant.told in
    record { kind = s.0; told = s.1 }

pub check_expression-returns-in_ok-item-in-ListOf-clause-kind : goal.check_expression-returns-in_ok-item-in-ListOf-clause-kind
check_expression-returns-in_ok-item-in-ListOf-clause-kind t c = search (rules, the_lemmas, row_items)

pub check_expression-returns-in_ok-item-in-ListOf-clause-told : goal.check_expression-returns-in_ok-item-in-ListOf-clause-told
check_expression-returns-in_ok-item-in-ListOf-clause-told t c = search (rules, the_lemmas, row_items)

pub check_expression-returns-in-Apply-clause-kind : goal.check_expression-returns-in-Apply-clause-kind
check_expression-returns-in-Apply-clause-kind t c = search (rules, the_lemmas, row_items)

pub check_expression-returns-in-Apply-clause-told : goal.check_expression-returns-in-Apply-clause-told
check_expression-returns-in-Apply-clause-told t c = search (rules, the_lemmas, row_items, count_is, least_append)

pub check_prefixed-returns-clause-told : goal.check_prefixed-returns-clause-told
check_prefixed-returns-clause-told t c = search (rules, least_append)

pub check_number-returns : goal.check_number-returns
check_number-returns t c = search (rules, least_append)

pub check_list-returns-clause-told : goal.check_list-returns-clause-told
check_list-returns-clause-told t c = search (rules, least_append)

pub check_expression-returns-in_ok-right_kind-in-Binary-clause-told : goal.check_expression-returns-in_ok-right_kind-in-Binary-clause-told
check_expression-returns-in_ok-right_kind-in-Binary-clause-told t c = search (rules, the_lemmas, least_append)

pub check_expression-returns-in_ok-check_number-in-Index-clause-told : goal.check_expression-returns-in_ok-check_number-in-Index-clause-told
check_expression-returns-in_ok-check_number-in-Index-clause-told t c = search (rules, the_lemmas, least_append)

pub check_application-returns-clause-told : goal.check_application-returns-clause-told
check_application-returns-clause-told t c = search (rules, least_append)
