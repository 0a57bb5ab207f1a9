-- A pipeline in a history: a Lines, filters behind it and a Sink, all created in the history, where every Open of one names the stage
-- before it and one and the same argument.
use Rattle.std.specs.Prelude.{◌⊎◌, ◌≡◌, ℕ, List, [], ◌∷◌, drop, Option, None, Some, codes}
use Rattle.capability.specs.declared.Uid.{Uid}
use Rattle.capability.specs.declared.Cap.{Cap}
use Rattle.eden_value.specs.Datum.{Datum}
use Rattle.eden_model.specs.Map.{with_item}
use Rattle.eden_model.specs.Traffic.{Traffic, Call, call_at}
use Rattle.epl_syntax.specs.declared.types.Native.{Native}
use Rattle.epl_syntax.specs.declared.types.Native.TheVariants as native
use Rattle.epl_syntax.specs.Edentype.{Edentype, native as of_native}
use Rattle.epl_syntax.specs.Simple.{argument, cap_in}
use Rattle.epl_syntax.specs.Pipelines.{Sieve, takes, skips, keeps, numbers, sifted, argument_of}
use Rattle.journal.specs.World.{World, eject_at}
use Rattle.journal.specs.Sites.{active_in}
use Rattle.journal.specs.LegalRun.{created_by}
use Rattle.journal.specs.Run.{Step}

-- 1. The stages

-- a filter of a pipeline: the Eject, and what it is to make of the items of the stage before
pub record Stage : Type 0 where
  -- the Eject
  pub uid : Uid
  -- its type, with its argument
  pub sieve : Sieve

-- a pipeline, by its Ejects
pub record Chain : Type 0 where
  -- the Lines, from which the items come
  pub lines : Uid
  -- the filters, the one next to the Lines first
  pub filters : List Stage
  -- the Sink, which keeps what comes
  pub sink : Uid

-- the native type of a filter
abbrev pub type_of_sieve : Sieve → Native
type_of_sieve (takes count) = native.Take
type_of_sieve (skips count) = native.Skip
type_of_sieve (keeps front) = native.Only
type_of_sieve numbers = native.Number

-- the last stage before the Sink: the last of the filters, or where there is none the stage before them
abbrev pub last_of : Uid → List Stage → Uid
last_of before [] = before
last_of before (f ∷ filters) = last_of f.uid filters

-- what the filters make of the items of the stage before them
abbrev pub made_by : List Stage → List (List ℕ) → List (List ℕ)
made_by [] items = items
made_by (f ∷ filters) items = made_by filters (sifted f.sieve items)

-- P holds of each filter, with the stage before it and the items that this hands out
abbrev pub EachFilter : (Uid → List (List ℕ) → Stage → Type 0) → Uid → List (List ℕ) → List Stage → Type 0
EachFilter P before items [] = Unit {0}
EachFilter P before items (f ∷ filters) = P before items f × EachFilter P f.uid (sifted f.sieve items) filters

-- 2. They are created in a history

-- the type of an Eject, where it is active
abbrev pub type_at : World → Uid → Option Edentype
type_at w u = with_item (active_in (eject_at w u)) (λ it. Some it.kind) None

-- one of these steps creates the Eject, and behind it the Eject is of this type
abbrev pub IsCreatedIn : List Step → Uid → Native → Type 0
IsCreatedIn [] u n = ⊥
IsCreatedIn (s ∷ run) u n = ((created_by s.entry.event ≡ Some u) × (type_at s.later u ≡ Some (of_native n))) ⊎ IsCreatedIn run u n

-- the same of each of these filters
abbrev pub FiltersAreCreated : List Step → List Stage → Type 0
FiltersAreCreated run [] = Unit {0}
FiltersAreCreated run (f ∷ filters) = IsCreatedIn run f.uid (type_of_sieve f.sieve) × FiltersAreCreated run filters

-- these steps create all stages of the chain, each of its type
pub record AreCreated (run : List Step) (c : Chain) : Type 0 where
  -- the first is a Lines
  pub lines : IsCreatedIn run c.lines native.Lines
  -- the filters are of the types of what they are to make
  pub filters : FiltersAreCreated run c.filters
  -- the last is a Sink
  pub sink : IsCreatedIn run c.sink native.Sink

-- 3. They are opened one to the other

-- a call opens a stage so: where it names a stage at all, that is the one before, and its argument is the one of the stage
abbrev pub OpensSo : Uid → List Datum → Call → Type 0
OpensSo before arg c = (named : Cap) → cap_in (argument 0 c.args) ≡ Some named → (named.uid ≡ before) × (drop 1 c.args ≡ arg)

-- every Open of the stage u does, of all calls ever made
abbrev pub OpensOnly : Traffic → Uid → Uid → List Datum → Type 0
OpensOnly t u before arg = (k : ℕ) (c : Call) → call_at t k ≡ Some c → c.target.uid ≡ u → c.operation ≡ codes "Open" → OpensSo before arg c

-- of these calls, those that open a stage of the chain open it to the stage before
pub record AreJoined (t : Traffic) (c : Chain) : Type 0 where
  -- each filter, with the argument of what it is to make
  pub filters : EachFilter (λ before items f. OpensOnly t f.uid before (argument_of f.sieve)) c.lines [] c.filters
  -- the Sink, which has no argument
  pub sink : OpensOnly t c.sink (last_of c.lines c.filters) []
