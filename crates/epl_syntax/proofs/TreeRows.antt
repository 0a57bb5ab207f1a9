-- The rows of a tree, seen as lists.
use Rattle.std.proofs.Common.{◌≡◌, ap, refl, List, [], ◌∷◌, ◌++◌, map}
use Rattle.epl_syntax.specs.Tree.{expression_and, expression, expression_row, expressions, statement_and, statement, statement_row}
use Rattle.epl_syntax.specs.Tree.{statements}
use Rattle.epl_syntax.specs.declared.tree.Expr.{Expr, items-the_row-Expr}
use Rattle.epl_syntax.specs.declared.tree.Expr as expr
use Rattle.epl_syntax.specs.declared.tree.Stmt.{Stmt, items-the_row-Stmt}
use Rattle.epl_syntax.specs.declared.tree.Stmt as stmt
use mathlib.Core.Former.{Count}

pub row_items : (m : Count) (r : expr.Row_of-Expr m) → expression_row r ≡ expressions (items-the_row-Expr m r)
row_items m expr.end_of-Expr = refl
row_items m (expr.more_of-Expr e rest) = ap (expression_and (expression e)) (row_items _ rest)

pub expressions_push : (es : List Expr) (e : Expr) → map expression (es ++ e ∷ []) ≡ map expression es ++ (expression e ∷ [])
expressions_push [] e = refl
expressions_push (x ∷ es) e = ap (λ xs. expression x ∷ xs) (expressions_push es e)

pub statement_items : (m : Count) (r : stmt.Row_of-Stmt m) → statement_row r ≡ statements (items-the_row-Stmt m r)
statement_items m stmt.end_of-Stmt = refl
statement_items m (stmt.more_of-Stmt s rest) = ap (statement_and (statement s)) (statement_items _ rest)

pub statements_push : (ss : List Stmt) (s : Stmt) → map statement (ss ++ s ∷ []) ≡ map statement ss ++ (statement s ∷ [])
statements_push [] s = refl
statements_push (x ∷ ss) s = ap (λ xs. statement x ∷ xs) (statements_push ss s)
