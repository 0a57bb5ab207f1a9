use Rattle.std.proofs.Common.{rules}
use Rattle.epl_syntax.specs.declared.tree.Stmt.TheViews.{the_lemmas}
use Rattle.epl_check.specs.View.{seen}
use Rattle.epl_check.proofs.Least.{least_append}
use Rattle.epl_syntax.proofs.TreeRows.{statement_items}
use Rattle.epl_check.proofs.Rows.{block_turn}
use Rattle.epl_check.proofs.statement.+statement.Goals as goal

pub check_block-loop-s-preserved : goal.check_block-loop-s-preserved
check_block-loop-s-preserved t c =
    block_turn (seen c.args.scope.now) c.args.held c.args.statements.now c.loop-s.s-index c.s-item.result c.loop-s.first
    c.check_statement.new.first _ c.loop-s-test.true c.s-item.is c.in_ok-check_statement.ensures c.loop-s.invariant

pub check_statement-returns-in_ok-check_tested-in-If : goal.check_statement-returns-in_ok-check_tested-in-If
check_statement-returns-in_ok-check_tested-in-If t c = search (rules, the_lemmas, statement_items, least_append)

pub check_statement-returns-in-While : goal.check_statement-returns-in-While
check_statement-returns-in-While t c = search (rules, the_lemmas, statement_items, least_append)

pub check_statement-returns-in-With : goal.check_statement-returns-in-With
check_statement-returns-in-With t c = search (rules, the_lemmas, statement_items, least_append)
