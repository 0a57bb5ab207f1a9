-- A pipeline in the steps so far: what each of them has to do with its stages.
use Rattle.std.specs.Prelude.{◌≡◌, ℕ, List, [], ◌∷◌, None, Some}
use Rattle.capability.specs.declared.Uid.{Uid}
use Rattle.eden_value.specs.Datum.{Datum}
use Rattle.eden_value.specs.Limits.{AreValues}
use Rattle.eden_value.specs.Range.{AllInRange}
use Rattle.eden_value.specs.declared.value.TheConstants.{DEPTH_LIMIT}
use Rattle.eden_model.specs.Traffic.{Traffic}
use Rattle.epl_syntax.specs.declared.effect.Effect.TheVariants as effect
use Rattle.epl_syntax.specs.declared.types.Native.{Native}
use Rattle.epl_syntax.specs.declared.types.Native.TheVariants as native
use Rattle.epl_syntax.specs.Edentype.{native as of_native}
use Rattle.epl_syntax.specs.Meaning.{Turned, type_of, name_of, durable_of}
use Rattle.epl_syntax.specs.Pipelines.{argument_of}
use Rattle.journal.specs.declared.event.Event.TheVariants as event
use Rattle.journal.specs.declared.event.Shown.{Shown}
use Rattle.journal.specs.Processes.{turn_of}
use Rattle.journal.specs.Sites.{active_in}
use Rattle.journal.specs.World.{World, Active, eject_at}
use Rattle.journal.specs.LegalRun.{created_by}
use Rattle.journal.specs.Run.{Step}
use Rattle.stream_laws.specs.Chains.{Stage, Chain, type_of_sieve, last_of, EachFilter, type_at, OpensOnly}

-- what a turn of this Eject keeps in this step is within the limits of values
abbrev pub KeepsValues : Uid → Native → Step → Type 0
KeepsValues u n s = (p : ℕ) (said : Shown) (it : Active) (t : Turned) → s.entry.event ≡ event.Process u p said
    → active_in (eject_at s.world u) ≡ Some it → turn_of u it p ≡ Some t → t.effect ≡ effect.Checkpoint
    → AreValues DEPTH_LIMIT (durable_of (of_native n) t.vars) × AllInRange (durable_of (of_native n) t.vars)

-- What a step has to do with a stage u of this type: where it creates the Eject, it creates it of this type; and what a turn of the stage
-- keeps are values, within the limits of values.
pub record IsStepOf (u : Uid) (n : Native) (s : Step) : Type 0 where
  -- the type goes by its name
  pub known : type_of s.world.types (name_of (of_native n)) ≡ Some (of_native n)
  -- by a command or a process, if this step creates it at all
  pub typed : created_by s.entry.event ≡ Some u → type_at s.later u ≡ Some (of_native n)
  -- what it keeps
  pub values : KeepsValues u n s

-- each of these steps
abbrev pub AreStepsOf : Uid → Native → List Step → Type 0
AreStepsOf u n [] = Unit {0}
AreStepsOf u n (s ∷ past) = IsStepOf u n s × AreStepsOf u n past

-- a stage behind another: opened only so
pub record IsStage (past : List Step) (t : Traffic) (before u : Uid) (n : Native) (arg : List Datum) : Type 0 where
  pub steps : AreStepsOf u n past
  pub opened : OpensOnly t u before arg

-- the stages are a pipeline in these steps, behind which these are all calls
pub record IsPipeline (past : List Step) (t : Traffic) (c : Chain) : Type 0 where
  pub lines : AreStepsOf c.lines native.Lines past
  pub filters : EachFilter (λ before items f. IsStage past t before f.uid (type_of_sieve f.sieve)
      (argument_of f.sieve)) c.lines [] c.filters
  pub sink : IsStage past t (last_of c.lines c.filters) c.sink native.Sink []

-- no image holds one of the stages
abbrev pub AreNewIn : World → List Stage → Type 0
AreNewIn w [] = Unit {0}
AreNewIn w (f ∷ filters) = (eject_at w f.uid ≡ None) × AreNewIn w filters

pub record IsNewIn (w : World) (c : Chain) : Type 0 where
  pub lines : eject_at w c.lines ≡ None
  pub filters : AreNewIn w c.filters
  pub sink : eject_at w c.sink ≡ None
