use Rattle.std.proofs.Common.{rules}
use Rattle.epl_syntax.specs.declared.tree.Stmt.TheViews.{the_lemmas}
use Rattle.epl_check.proofs.BindingTurns.{block_items}
use Rattle.epl_check.proofs.walk.+statement.Goals as goal

pub note_statement-returns-in-If : goal.note_statement-returns-in-If
note_statement-returns-in-If t c = search (rules, the_lemmas, block_items)

pub note_statement-returns-in-While : goal.note_statement-returns-in-While
note_statement-returns-in-While t c = search (rules, the_lemmas, block_items)

pub note_statement-returns-in-With : goal.note_statement-returns-in-With
note_statement-returns-in-With t c = search (rules, the_lemmas, block_items)
