-- Bindings that are noted in a table.
use mathlib.Core.Former.{Count}
use Rattle.std.proofs.Common.{◌≡◌, ℕ, zero, suc, ◌≤◌, Bool, true, List, [], ◌∷◌, map, length, refl, ap}
use Rattle.std.proofs.Common.{◌∙◌, arith, subst}
use Rattle.std.specs.Prelude.{◌&&◌, Vec}
use Rattle.std.specs.List.{list_all}
use Rattle.std.specs.declared.alloc.Global.{Global}
use Rattle.epl_syntax.specs.declared.binding.Binding.{Binding}
use Rattle.epl_syntax.specs.declared.binding.Binding.TheVariants.{ByName}
use Rattle.epl_syntax.specs.declared.tree.Assignment.{Assignment}
use Rattle.epl_syntax.specs.declared.tree.Expr.{items-the_row-Expr}
use Rattle.epl_syntax.specs.declared.tree.Expr as expr
use Rattle.epl_syntax.specs.declared.tree.Name.{Name}
use Rattle.epl_syntax.specs.declared.tree.Program.{Program}
use Rattle.epl_syntax.specs.declared.tree.Stmt.{Stmt, items-the_row-Stmt}
use Rattle.epl_syntax.specs.declared.tree.Stmt as stmt
use Rattle.epl_syntax.specs.Tree.{expression, expression_row, statement, statement_row, change, type_tree}
use Rattle.epl_syntax.specs.Bindings.{Sort, variable, Names, binding_at, has_binding, each_of_expression, each_of_expressions}
use Rattle.epl_syntax.specs.Bindings.{each_of_statement, each_of_block, bodies_resolved, is_resolved}
use Rattle.epl_syntax.proofs.Bindings.{row_of_expressions, row_of_statements, without_table}
use Rattle.epl_syntax.proofs.TreeRows.{row_items, statement_items}
use Rattle.epl_check.specs.Noted.{Noted}

-- behind the table's end no binding is known
pub behind : (bindings : List Binding) (place : ℕ) → length bindings ≤ place → binding_at bindings place ≡ ByName
behind [] place h = refl
behind (s ∷ bindings) zero h = absurd (omega arith)
behind (s ∷ bindings) (suc place) h = behind bindings place (omega arith)

-- ---- rows of a tree, seen as lists
pub expression_items : (test : Sort → Name → Bool) (m : Count) (r : expr.Row_of-Expr m)
    → each_of_expressions test (expression_row r) ≡ list_all (each_of_expression test) (map expression (items-the_row-Expr m r))
expression_items test m r =
    ap (each_of_expressions test) (row_items m r) ∙ row_of_expressions test (map expression (items-the_row-Expr m r))

pub block_items : (test : Sort → Name → Bool) (m : Count) (r : stmt.Row_of-Stmt m)
    → each_of_block test (statement_row r) ≡ list_all (each_of_statement test) (map statement (items-the_row-Stmt m r))
block_items test m r =
    ap (each_of_block test) (statement_items m r) ∙ row_of_statements test (map statement (items-the_row-Stmt m r))

-- ---- names of what is declared, before and behind the tree that is made of it
pub same_names : {A B : Type 0} (named : A → Name) (g : A → B) (of : B → Name) (xs : List A) → ((x : A) → named x ≡ of (g x))
    → map named xs ≡ map of (map g xs)
same_names named g of [] h = refl
same_names named g of (x ∷ xs) h = ap (λ n. n ∷ map named xs) (h x) ∙ ap (λ l. of (g x) ∷ l) (same_names named g of xs h)

-- ---- bodies
-- the same body, and the same names in another form
pub body_noted : (answer : Bool) (old new : List Binding) (names names' : Names) (body body' : List Stmt) → names ≡ names' → body ≡ body'
    → Noted answer old new (list_all (each_of_statement (has_binding old names)) (map statement body))
    → Noted answer old new (list_all (each_of_statement (has_binding old names')) (map statement body'))
body_noted answer old new names names' body body' n b h =
    subst (λ m. Noted answer old new (list_all (each_of_statement (has_binding old m)) (map statement body'))) n
    (subst (λ l. Noted answer old new (list_all (each_of_statement (has_binding old names)) (map statement l))) b h)

-- the same of the assignments of an upgrade
pub changes_noted : (answer : Bool) (old new : List Binding) (names names' : Names) (cs cs' : List Assignment) → names ≡ names' → cs ≡ cs'
    → Noted answer old new (list_all (λ c. has_binding old names variable c.name && each_of_expression (has_binding old names) c.value)
    (map change cs))
    → Noted answer old new (list_all (λ c. has_binding old names' variable c.name && each_of_expression (has_binding old names') c.value)
    (map change cs'))
changes_noted answer old new names names' cs cs' n b h =
    let all = λ (m : Names) (l : List Assignment).
    list_all (λ c. has_binding old m variable c.name && each_of_expression (has_binding old m) c.value) (map change l) in
    subst (λ m. Noted answer old new (all m cs')) n (subst (λ l. Noted answer old new (all names l)) b h)

-- without a table each body is resolved
pub empty_table : (p : Program) (bindings : Vec Binding Global) → bindings.items ≡ [] → bodies_resolved bindings.items (type_tree p) ≡ true
unfolding is_resolved
empty_table p bindings none =
    without_table (record {
      name = p.name;
      version = p.version;
      vars = p.vars;
      classes = p.classes;
      monitors = p.monitors;
      conditions = p.conditions;
      operations = p.operations;
      processes = p.processes;
      upgrades = p.upgrades;
      bindings = bindings;
    }) none
