use Rattle.std.proofs.Common.{rules}
use Rattle.epl_syntax.proofs.TreeRows.{statement_items}
use Rattle.epl_syntax.specs.declared.tree.Stmt.TheViews.{the_lemmas}
use Rattle.epl_parser.proofs.build.make_with.Goals as goal

pub returns : goal.returns
returns c = search (rules, the_lemmas, statement_items)
