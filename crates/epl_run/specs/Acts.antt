-- What comes of a step by the code, and by the meaning.
use Rattle.std.specs.Prelude.{◌≡◌, ℕ, Bool, true, false, List, ◌∷◌, ◌++◌, Result, Ok, Err}
use Rattle.eden_value.specs.Datum.{Datum, truth}
use Rattle.epl_syntax.specs.declared.effect.Effect.{Effect}
use Rattle.epl_syntax.specs.declared.effect.Effect.TheVariants as effect
use Rattle.epl_syntax.specs.declared.effect.FaultCause.{FaultCause}
use Rattle.epl_syntax.specs.declared.effect.FaultCause.TheVariants.{BadKind}
use Rattle.epl_syntax.specs.declared.tree.Target.{Target}
use Rattle.epl_syntax.specs.Tree.{TypeTree, Statement, Checkpoint, Destroy, Create, Invoke, Expressions}
use Rattle.epl_syntax.specs.Operators.{found}
use Rattle.epl_syntax.specs.Memory.{Memory}
use Rattle.epl_syntax.specs.Expressions.{values_of}
use Rattle.epl_syntax.specs.Statements.{Step, Came, goes_on, ends, faults, no_answer, target_of}
use Rattle.epl_values.specs.declared.stop.Stop.{Stop}
use Rattle.epl_values.specs.declared.stop.Stop.TheVariants as stop
use Rattle.epl_values.specs.declared.variables.Variables.{Variables}
use Rattle.epl_values.specs.Variables.{memory}
use Rattle.epl_run.specs.declared.act.Act.{Act}
use Rattle.epl_run.specs.declared.act.Act.TheVariants as act
use Rattle.epl_run.specs.declared.rest.Branch.TheVariants.{Held}
use Rattle.epl_run.specs.Blocks.{IsBranch, branch_steps, awaited_of}

-- the truth value that a test has to give
abbrev pub truth_in : Datum → Result Bool FaultCause
truth_in (truth b) = Ok b
truth_in _ = Err BadKind

-- the effect of an invocation
abbrev pub invocation : Memory → Target → List ℕ → Expressions → Result Effect FaultCause
invocation m to operation args = found (target_of m to) (λ c. found (values_of m args) (λ ds. Ok (effect.Invoke c operation ds)))

-- the effect of a return
abbrev pub returned : Memory → Expressions → Result Effect FaultCause
returned m results = found (values_of m results) (λ ds. Ok (effect.Return ds))

-- statements whose effect is answered
abbrev pub NeedsAnswer : Statement → Type 0
NeedsAnswer (Checkpoint status place) = Unit {0}
NeedsAnswer (Destroy status place) = Unit {0}
NeedsAnswer (Create type_name status gives place) = Unit {0}
NeedsAnswer (Invoke target operation args status gives place) = Unit {0}
NeedsAnswer _ = ⊥

-- the step once more, or the rest alone
abbrev pub again_before : Bool → Step → List Step → List Step
again_before true s rest = s ∷ rest
again_before false s rest = rest

-- what the code says of a step is what comes of it
abbrev pub Behind : TypeTree → Variables → Step → List Step → Result Act Stop → Came → Type 0
Behind t v s rest (Ok act.Next) came = came ≡ goes_on (memory t v) rest
Behind t v s rest (Ok (act.Enter b again)) came =
    IsBranch b × (came ≡ goes_on (memory t v) (branch_steps t b s ++ again_before again s rest))
Behind t v s rest (Ok (act.End e)) came = came ≡ ends e (memory t v) (awaited_of s) rest
Behind t v s rest (Ok (act.Lock k)) came = came ≡ ends (effect.Lock k) (memory t v) no_answer (branch_steps t Held s ++ rest)
Behind t v s rest (Err stop.Memory) came = Unit {0}
Behind t v s rest (Err (stop.Fault cause)) came = came ≡ faults (memory t v) cause
