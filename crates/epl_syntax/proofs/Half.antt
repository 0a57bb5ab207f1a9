-- A type that divides 10 by its argument: one result, and one fault.
use Rattle.std.proofs.Common.{◌≡◌, ℕ, pos, [], ◌∷◌, None, refl, codes}
use Rattle.eden_value.specs.Datum.{number}
use Rattle.epl_syntax.specs.declared.effect.Answer.TheVariants.{Go}
use Rattle.epl_syntax.specs.declared.effect.Effect.TheVariants as effect
use Rattle.epl_syntax.specs.declared.effect.FaultCause.TheVariants as fault
use Rattle.epl_syntax.specs.declared.tree.Operator.TheVariants.{Divide}
use Rattle.epl_syntax.specs.Tree.{TypeTree, Return}
use Rattle.epl_syntax.specs.Turns.{run}
use Rattle.epl_syntax.specs.Edentype.{declared}
use Rattle.epl_syntax.specs.Meaning.{Rest, begin}
use Rattle.epl_syntax.proofs.Written.{int, held_in, with_operator, int_parameter, operation, simple_type, effects}

abbrev half : TypeTree
half = simple_type (codes "Half") None []
    (operation (codes "Part") (int_parameter (codes "n") ∷ []) []
    (Return (with_operator Divide (int (pos 10)) (held_in (codes "n")) ∷ []) 0 ∷ []) ∷ [])
    []

abbrev part : ℕ → Rest
part n = begin (declared half) (codes "Part") (number (pos n) ∷ [])

by_two : effects (declared half) [] (part 2) (Go ∷ []) ≡ effect.Return (number (pos 5) ∷ []) ∷ []
unfolding run
by_two = refl

by_nothing : effects (declared half) [] (part 0) (Go ∷ []) ≡ effect.Fault fault.ZeroDivisor ∷ []
unfolding run
by_nothing = refl
