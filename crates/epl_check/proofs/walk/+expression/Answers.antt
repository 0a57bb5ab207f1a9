use Rattle.std.proofs.Common.{rules}
use Rattle.epl_syntax.specs.declared.tree.Expr.TheViews.{the_lemmas}
use Rattle.epl_check.proofs.BindingTurns.{expression_items}
use Rattle.epl_check.proofs.walk.+expression.Goals as goal

pub note_expression-returns-in-ListOf : goal.note_expression-returns-in-ListOf
note_expression-returns-in-ListOf t c = search (rules, the_lemmas, expression_items)

pub note_expression-returns-in-Apply : goal.note_expression-returns-in-Apply
note_expression-returns-in-Apply t c = search (rules, the_lemmas, expression_items)
