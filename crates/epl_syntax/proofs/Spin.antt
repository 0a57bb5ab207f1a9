-- A type that counts up to its argument, by two statements for each number: the budget of a turn just met, and passed.
use Rattle.std.proofs.Common.{◌≡◌, ℕ, pos, List, [], ◌∷◌, ◌++◌, replicate, None, refl, codes}
use Rattle.eden_value.specs.Datum.{number}
use Rattle.epl_syntax.specs.declared.effect.Answer.TheVariants.{Go}
use Rattle.epl_syntax.specs.declared.effect.Effect.{Effect}
use Rattle.epl_syntax.specs.declared.effect.Effect.TheVariants as effect
use Rattle.epl_syntax.specs.declared.effect.FaultCause.TheVariants as fault
use Rattle.epl_syntax.specs.declared.tree.Operator.TheVariants.{Add, Less}
use Rattle.epl_syntax.specs.Tree.{TypeTree, Assign, While, Return, block_of}
use Rattle.epl_syntax.specs.Turns.{run}
use Rattle.epl_syntax.specs.Edentype.{declared}
use Rattle.epl_syntax.specs.Meaning.{begin}
use Rattle.epl_syntax.proofs.Written.{called, int, held_in, with_operator, int_parameter, int_local, operation, simple_type, effects}

-- so many times i := 0, then while i < n do i := i + 1 end, return (i)
abbrev spin : ℕ → TypeTree
spin more = simple_type (codes "Spin") None []
    (operation (codes "Run") (int_parameter (codes "n") ∷ []) (int_local (codes "i") ∷ [])
    (replicate more (Assign (called (codes "i")) (int (pos 0))) ++ While (with_operator Less (held_in (codes "i")) (held_in (codes "n")))
    (block_of (Assign (called (codes "i")) (with_operator Add (held_in (codes "i")) (int (pos 1))) ∷ [])) 0
    ∷ Return (held_in (codes "i") ∷ []) 0 ∷ []) ∷ [])
    []

abbrev spins : ℕ → ℕ → List Effect
spins more n = effects (declared (spin more)) [] (begin (declared (spin more)) (codes "Run") (number (pos n) ∷ [])) (Go ∷ [])

-- 5,000 tests, 4,999 assignments and the return are 10,000
met : spins 0 4999 ≡ effect.Return (number (pos 4999) ∷ []) ∷ []
unfolding run
met = refl

-- and one more is the 10,001st
passed : spins 1 4999 ≡ effect.Fault fault.Budget ∷ []
unfolding run
passed = refl

far_passed : spins 0 5000 ≡ effect.Fault fault.Budget ∷ []
unfolding run
far_passed = refl
