-- What the names in statements stand for is found in the table of their type.
use Rattle.std.specs.Prelude.{◌≡◌, ◌&&◌, Bool, true, List, Option, None, Some}
use Rattle.std.specs.Borrow.{Bor}
use Rattle.std.specs.List.{list_all}
use Rattle.epl_syntax.specs.declared.tree.Name.{Name}
use Rattle.epl_syntax.specs.declared.tree.Program.{Program}
use Rattle.epl_syntax.specs.declared.tree.Stmt.{Stmt}
use Rattle.epl_syntax.specs.Bindings.{Sort, variable, each_of_expression, each_of_statement}
use Rattle.epl_syntax.specs.Tree.{UpgradeAssignment, statement}
use Rattle.epl_values.specs.declared.variables.Owner.{Owner}
use Rattle.epl_values.specs.Variables.{is_found}

-- a test of each name in statements of the code
abbrev pub each_in : (Sort → Name → Bool) → List Stmt → Bool
each_in test ss = list_all (λ s. each_of_statement test (statement s)) ss

-- and in one, if there is one
abbrev pub each_made : (Sort → Name → Bool) → Option (Bor Stmt) → Bool
each_made test None = true
each_made test (Some s) = each_of_statement test (statement s.now)

-- and in the assignments of an upgrade
abbrev pub each_change : (Sort → Name → Bool) → List UpgradeAssignment → Bool
each_change test cs = list_all (λ c. test variable c.name && each_of_expression test c.value) cs

-- the statements are of some body in which the binding of each of their names is right
abbrev pub AreOfBody : Program → List Stmt → Type 0
AreOfBody p ss = (owner : Owner) × (each_in (is_found p owner) ss ≡ true)
