-- Turns of one operation: the effects of its statements, one after the other, and what it makes of their answers.
use Rattle.std.proofs.Common.{◌≡◌, ℕ, pos, true, List, [], ◌∷◌, map, None, Some, refl, codes}
use Rattle.capability.specs.Capability.{full}
use Rattle.eden_value.specs.Datum.{number, truth, cap}
use Rattle.eden_value.specs.Shape.{caps}
use Rattle.eden_value.specs.declared.status.Status.TheVariants as status
use Rattle.epl_syntax.specs.declared.effect.Answer.{Answer}
use Rattle.epl_syntax.specs.declared.effect.Answer.TheVariants.{Go, Code, Created, Reply}
use Rattle.epl_syntax.specs.declared.effect.Effect.{Effect}
use Rattle.epl_syntax.specs.declared.effect.Effect.TheVariants as effect
use Rattle.epl_syntax.specs.declared.effect.FaultCause.TheVariants.{BadKind, NoReturn}
use Rattle.epl_syntax.specs.declared.tree.Target.TheVariants as target
use Rattle.epl_syntax.specs.Tree.{TypeTree, Local, Statement, absent, Checkpoint, Create, Invoke, Return, Wait, Signal, With, Yield}
use Rattle.epl_syntax.specs.Tree.{block_of}
use Rattle.epl_syntax.specs.Turns.{run}
use Rattle.epl_syntax.specs.Edentype.{declared}
use Rattle.epl_syntax.specs.Meaning.{begin}
use Rattle.epl_syntax.proofs.Written.{called, held_in, int_local, operation, simple_type, me, effects}

-- the locals of the operation: two integers, and a capability
abbrev its_locals : List Local
its_locals = int_local (codes "s") ∷ int_local (codes "r") ∷ record {
  name = called (codes "p");
  kind = record { shape = caps; place = 0 };
  start = record { value = absent; place = 0 };
} ∷ []

-- a type with one operation, two monitors, and a condition of each
abbrev with_body : List Statement → TypeTree
with_body body = record (simple_type (codes "A") None [] (operation (codes "Do") [] its_locals body ∷ []) []) {
  monitors = called (codes "M") ∷ called (codes "N") ∷ [];
  conditions = record { name = called (codes "c"); monitor = 1 } ∷ record { name = called (codes "d"); monitor = 2 } ∷ [];
}

abbrev doing : List Statement → List Answer → List Effect
doing body answers = effects (declared (with_body body)) [] (begin (declared (with_body body)) (codes "Do") []) answers

abbrev returns : List (List ℕ) → Statement
returns names = Return (map (λ t. held_in t) names) 0

abbrev s : List ℕ
s = codes "s"

abbrev r : List ℕ
r = codes "r"

abbrev p : List ℕ
p = codes "p"

-- ---- no return
the_end_is_no_return : doing (Yield 0 ∷ []) (Go ∷ Go ∷ []) ≡ effect.Yield ∷ effect.Fault NoReturn ∷ []
unfolding run
the_end_is_no_return = refl

-- ---- answers
a_code_is_set : doing (Checkpoint (called s) 0 ∷ returns (s ∷ []) ∷ []) (Go ∷ Code status.Full ∷ [])
    ≡ effect.Checkpoint ∷ effect.Return (number (pos 12) ∷ []) ∷ []
unfolding run
a_code_is_set = refl

-- invoke self.Get() status s, with these variables for the results, and then return (s, r)
abbrev asking : List (List ℕ) → Answer → List Effect
asking gives answer =
    doing (Invoke (target.Me 0) (called (codes "Get")) [] (called s) (map (λ t. called t) gives) 0 ∷ returns (s ∷ r ∷ []) ∷ [])
    (Go ∷ answer ∷ [])

abbrev asks : Effect
asks = effect.Invoke (full me) (codes "Get") []

results_are_set : asking (r ∷ []) (Reply status.Ok (number (pos 5) ∷ [])) ≡ asks ∷ effect.Return (number (pos 0) ∷ number (pos 5) ∷ []) ∷ []
unfolding run
results_are_set = refl

a_refusal_sets_its_status : asking (r ∷ []) (Reply status.Gone []) ≡ asks ∷ effect.Return (number (pos 4) ∷ number (pos 0) ∷ []) ∷ []
unfolding run
a_refusal_sets_its_status = refl

results_of_another_kind_fault : asking (r ∷ []) (Reply status.Ok (truth true ∷ [])) ≡ asks ∷ effect.Fault BadKind ∷ []
unfolding run
results_of_another_kind_fault = refl

results_that_are_not_taken_fault : asking [] (Reply status.Ok (number (pos 5) ∷ [])) ≡ asks ∷ effect.Fault BadKind ∷ []
unfolding run
results_that_are_not_taken_fault = refl

-- create Cell status s gives (p), and then return (s, p)
abbrev making : Answer → List Effect
making answer = doing (Create (called (codes "Cell")) (called s) (called p) 0 ∷ returns (s ∷ p ∷ []) ∷ []) (Go ∷ answer ∷ [])

a_creation_sets_both : making (Created status.Ok (Some (full me)))
    ≡ effect.Create (codes "Cell") ∷ effect.Return (number (pos 0) ∷ cap (Some (full me)) ∷ []) ∷ []
unfolding run
a_creation_sets_both = refl

a_refused_creation_sets_both : making (Created status.TooMany None)
    ≡ effect.Create (codes "Cell") ∷ effect.Return (number (pos 13) ∷ cap None ∷ []) ∷ []
unfolding run
a_refused_creation_sets_both = refl

-- ---- monitors are counted from 1, conditions from 0
a_with_locks_and_leaves : doing
    (With (called (codes "N")) (block_of (Wait (called (codes "d")) 0 ∷ Signal (called (codes "d")) 0 ∷ [])) 0 ∷ returns [] ∷ [])
    (Go ∷ Go ∷ Go ∷ Go ∷ Go ∷ []) ≡ effect.Lock 2 ∷ effect.Wait 1 ∷ effect.Signal 1 ∷ effect.Leave 2 ∷ effect.Return [] ∷ []
unfolding run
a_with_locks_and_leaves = refl
