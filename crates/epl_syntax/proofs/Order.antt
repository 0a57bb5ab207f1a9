-- Expressions are evaluated from left to right, and the first fault is told. `or` and `and` look at their right side where it is needed.
use Rattle.std.proofs.Common.{◌≡◌, pos, negsuc, Bool, true, false, [], ◌∷◌, None, Ok, Err, refl, codes}
use Rattle.eden_value.specs.Datum.{number, truth, cap}
use Rattle.eden_value.specs.Shape.{caps}
use Rattle.epl_syntax.specs.declared.effect.FaultCause.TheVariants.{Overflow, ZeroDivisor, BadIndex, BadMask, NoCapability}
use Rattle.epl_syntax.specs.declared.tree.Operator.TheVariants.{Or, And, Divide, Modulo, Add, Equal}
use Rattle.epl_syntax.specs.declared.tree.Builtin.TheVariants.{Part, Restrict}
use Rattle.epl_syntax.specs.declared.tree.Target.TheVariants as target
use Rattle.epl_syntax.specs.Tree.{Expression, Const_, truth as truth_constant, text as text_constant, Apply, Index, ListOf, Invoke}
use Rattle.epl_syntax.specs.Tree.{in_order}
use Rattle.epl_syntax.specs.Memory.{Memory}
use Rattle.epl_syntax.specs.Expressions.{value_of}
use Rattle.epl_syntax.specs.Statements.{does, faults, came_of}
use Rattle.epl_syntax.proofs.Written.{called, int, held_in, with_operator, simple_type, me}

-- a process that sees one variable, the absent capability
abbrev m : Memory
m = record { own = record { name = codes "c"; kind = caps; value = cap None } ∷ []; shared = []; me = me }

abbrev whether : Bool → Expression
whether b = Const_ (truth_constant b) 0

-- 1 / 0, which has no value
abbrev broken : Expression
broken = with_operator Divide (int (pos 1)) (int (pos 0))

-- ["a"][1], which has none either
abbrev outside : Expression
outside = Index (ListOf (in_order (Const_ (text_constant (codes "a")) 0 ∷ [])) 0) (int (pos 1)) 0

or_needs_no_right : value_of m (with_operator Or (whether true) (with_operator Equal broken broken)) ≡ Ok (truth true)
or_needs_no_right = refl

or_needs_its_right : value_of m (with_operator Or (whether false) (with_operator Equal broken broken)) ≡ Err ZeroDivisor
or_needs_its_right = refl

and_needs_no_right : value_of m (with_operator And (whether false) (with_operator Equal broken broken)) ≡ Ok (truth false)
and_needs_no_right = refl

and_needs_its_right : value_of m (with_operator And (whether true) (with_operator Equal broken broken)) ≡ Err ZeroDivisor
and_needs_its_right = refl

left_comes_first : value_of m (with_operator Add outside broken) ≡ Err BadIndex
left_comes_first = refl

and_not_right : value_of m (with_operator Add broken outside) ≡ Err ZeroDivisor
and_not_right = refl

arguments_come_first : value_of m (Apply Part (in_order (Const_ (text_constant (codes "ab")) 0 ∷ int (pos 9) ∷ broken ∷ [])) 0)
    ≡ Err ZeroDivisor
arguments_come_first = refl

a_mask_is_tested : value_of m (Apply Restrict (in_order (held_in (codes "c") ∷ int (pos 65536) ∷ [])) 0) ≡ Err BadMask
a_mask_is_tested = refl

absent_stays_absent : value_of m (Apply Restrict (in_order (held_in (codes "c") ∷ int (pos 65535) ∷ [])) 0) ≡ Ok (cap None)
absent_stays_absent = refl

least_by_less : value_of m (with_operator Divide (int (negsuc 0x7FFF_FFFF_FFFF_FFFF)) (int (negsuc 0))) ≡ Err Overflow
least_by_less = refl

least_modulo_less : value_of m (with_operator Modulo (int (negsuc 0x7FFF_FFFF_FFFF_FFFF)) (int (negsuc 0))) ≡ Ok (number (pos 0))
least_modulo_less = refl

modulo_has_the_sign_of_the_first : value_of m (with_operator Modulo (int (negsuc 1)) (int (pos 3))) ≡ Ok (number (negsuc 1))
modulo_has_the_sign_of_the_first = refl

-- an invocation looks at its target first
target_comes_first : came_of (simple_type (codes "A") None [] [] []) m
    (does (Invoke (target.Name (called (codes "c"))) (called (codes "Get")) (broken ∷ [])
    (called (codes "s")) [] 0)) [] ≡ faults m NoCapability
target_comes_first = refl
