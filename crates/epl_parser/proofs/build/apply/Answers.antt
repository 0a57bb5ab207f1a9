use Rattle.std.proofs.Common.{rules}
use Rattle.epl_syntax.proofs.TreeRows.{row_items}
use Rattle.epl_syntax.specs.declared.tree.Expr.TheViews.{the_lemmas}
use Rattle.epl_parser.proofs.build.apply.Goals as goal

pub returns : goal.returns
returns c = search (rules, the_lemmas, row_items)
