-- The values that variables hold.
use Rattle.std.proofs.Common.{◌≡◌, List, [], ◌∷◌, map, take, length, refl, ap}
use Rattle.eden_value.specs.View.{datum, datums}
use Rattle.eden_value.specs.declared.value.Value.{Value}
use Rattle.epl_syntax.specs.declared.tree.VarDecl.{VarDecl}
use Rattle.epl_syntax.specs.Memory.{variables}
use Rattle.epl_syntax.specs.Tree.{variable}
use Rattle.epl_syntax.specs.Turns.{values_in}

-- as many as there are variables
pub held_values : (xs : List VarDecl) (vs : List Value) → datums (take (length xs) vs) ≡ values_in (variables (map variable xs) (datums vs))
held_values [] vs = refl
held_values (x ∷ xs) [] = refl
held_values (x ∷ xs) (v ∷ vs) = ap (λ ds. datum v ∷ ds) (held_values xs vs)
