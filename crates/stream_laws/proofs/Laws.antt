-- The laws, of chains whose stages a history creates.
use Rattle.std.proofs.Common.{◌≡◌, ◌≤◌, List, [], ◌∷◌, length, Some}
use Rattle.capability.specs.declared.Uid.{Uid}
use Rattle.eden_model.specs.Traffic.{Traffic}
use Rattle.epl_syntax.specs.declared.types.Native.{Native}
use Rattle.epl_syntax.specs.declared.types.Native.TheVariants as native
use Rattle.epl_syntax.specs.Edentype.{native as of_native}
use Rattle.epl_syntax.specs.Meaning.{type_of, name_of}
use Rattle.epl_syntax.specs.Pipelines.{sifted, argument_of}
use Rattle.passive_store.specs.Kept.{Layout}
use Rattle.passive_store.specs.Layout.{IsLayout}
use Rattle.journal.specs.declared.command.Script.{Script}
use Rattle.journal.specs.declared.event.Entry.{Entry}
use Rattle.journal.specs.Standing.{DiskRun}
use Rattle.journal.specs.LegalRun.{created_by, AreHandedIn, opening_world, run_over}
use Rattle.journal.specs.Laws.{Begins}
use Rattle.journal.specs.Fit.{IsFit}
use Rattle.journal.specs.Run.{Step, EachStep}
use Rattle.stream_laws.specs.Chains.{Stage, Chain, type_of_sieve, EachFilter, type_at, IsCreatedIn, FiltersAreCreated, AreCreated}
use Rattle.stream_laws.specs.Chains.{OpensOnly, AreJoined}
use Rattle.stream_laws.specs.Streams.{OfEachPipeline, PipelinesFlow, ListsStay, SinksHoldAll}
use Rattle.stream_laws.proofs.Pipelines.{KeepsValues, AreStepsOf, IsStage, IsPipeline, AreNewIn, IsNewIn}
use Rattle.stream_laws.proofs.Created.{created-are-new}
use Rattle.stream_laws.proofs.Known.{types-known}
use Rattle.stream_laws.proofs.Limits.{stages-keep-values}
use Rattle.stream_laws.proofs.Flows.{OfNewPipelines}
use Rattle.stream_laws.proofs.Flows as flows

-- 1. The steps of one stage
abbrev OfStage : Uid → Native → List Step → List Step → Type 0
OfStage u n past run = EachStep (λ past s. AreStepsOf u n (s ∷ past)) past run

each-of : (u : Uid) (n : Native) (past run : List Step)
    → EachStep (λ past s. type_of s.world.types (name_of (of_native n)) ≡ Some (of_native n)) past run
    → EachStep (λ past s. created_by s.entry.event ≡ Some u → type_at s.later u ≡ Some (of_native n)) past run
    → EachStep (λ past s. KeepsValues u n s) past run → AreStepsOf u n past → OfStage u n past run
each-of u n past [] known typed values so = tt
each-of u n past (s ∷ run) known typed values so =
    let now : AreStepsOf u n (s ∷ past) = (record { known = known.0; typed = typed.0; values = values.0 }, so) in
    (now, each-of u n (s ∷ past) run known.1 typed.1 values.1 now)

-- 2. Those of all
abbrev AreFilters : List Step → List Stage → Type 0
AreFilters past [] = Unit {0}
AreFilters past (f ∷ filters) = AreStepsOf f.uid (type_of_sieve f.sieve) past × AreFilters past filters

record OfChain (c : Chain) (past : List Step) : Type 0 where
  lines : AreStepsOf c.lines native.Lines past
  filters : AreFilters past c.filters
  sink : AreStepsOf c.sink native.Sink past

both : (P Q : List Step → Step → Type 0) (past run : List Step) → EachStep P past run → EachStep Q past run
    → EachStep (λ past s. P past s × Q past s) past run
both P Q past [] a b = tt
both P Q past (s ∷ run) a b = ((a.0, b.0), both P Q (s ∷ past) run a.1 b.1)

joined : (past : List Step) (t : Traffic) (before : Uid) (any : List (List _)) (fs : List Stage) → AreFilters past fs
    → EachFilter (λ before items f. OpensOnly t f.uid before (argument_of f.sieve)) before any fs
    → EachFilter (λ before items f. IsStage past t before f.uid (type_of_sieve f.sieve) (argument_of f.sieve)) before any fs
joined past t before any [] steps opens = tt
joined past t before any (f ∷ fs) steps opens = (
  record { steps = steps.0; opened = opens.0 },
  joined past t f.uid (sifted f.sieve any) fs steps.1 opens.1,
)

pipeline : (c : Chain) (past : List Step) (t : Traffic) → OfChain c past → AreJoined t c → IsPipeline past t c
pipeline c past t steps opens = record {
  lines = steps.lines;
  filters = joined past t c.lines [] c.filters steps.filters opens.filters;
  sink = record { steps = steps.sink; opened = opens.sink };
}

-- 3. The laws
module _ (layout : Layout) (script : Script) (disks : List DiskRun) (history : List Entry) (lays : IsLayout layout)
    (fits : AreHandedIn layout disks) (few : length disks ≤ 8) (fit : IsFit script)
    (begins : Begins layout script disks history) where
  abbrev run : List Step
  run = run_over layout script disks history

  of-one : (u : Uid) (n : Native) → IsCreatedIn run u n → OfStage u n [] run
  of-one u n made = each-of u n [] run
      (types-known layout script disks history lays fits fit.keep_rules fit.have_monitors begins u n made)
      (created-are-new layout script disks history lays fits begins u n made).1
      (stages-keep-values layout script disks history lays fits few fit begins u n) tt

  of-filters : (fs : List Stage) → FiltersAreCreated run fs → EachStep (λ past s. AreFilters (s ∷ past) fs) [] run
  of-filters [] made = nothing [] run
    where
      nothing : (past run : List Step) → EachStep (λ past s. AreFilters (s ∷ past) []) past run
      nothing past [] = tt
      nothing past (s ∷ run) = (tt, nothing (s ∷ past) run)
  of-filters (f ∷ fs) made = both _ _ [] run (of-one f.uid (type_of_sieve f.sieve) made.0)
      (of-filters fs made.1)

  new-filters : (fs : List Stage) → FiltersAreCreated run fs → AreNewIn (opening_world layout script disks) fs
  new-filters [] made = tt
  new-filters (f ∷ fs) made = (
    (created-are-new layout script disks history lays fits begins f.uid (type_of_sieve f.sieve) made.0).0,
    new-filters fs made.1,
  )

  is-new : (c : Chain) → AreCreated run c → IsNewIn (opening_world layout script disks) c
  is-new c made = record {
    lines = (created-are-new layout script disks history lays fits begins c.lines native.Lines made.lines).0;
    filters = new-filters c.filters made.filters;
    sink = (created-are-new layout script disks history lays fits begins c.sink native.Sink made.sink).0;
  }

  steps-of : (c : Chain) → AreCreated run c → EachStep (λ past s. OfChain c (s ∷ past)) [] run
  steps-of c made = go [] run (of-one c.lines native.Lines made.lines)
      (of-filters c.filters made.filters)
      (of-one c.sink native.Sink made.sink)
    where
      go : (past more : List Step) → OfStage c.lines native.Lines past more → EachStep (λ past s. AreFilters (s ∷ past) c.filters) past more
          → OfStage c.sink native.Sink past more → EachStep (λ past s. OfChain c (s ∷ past)) past more
      go past [] a b d = tt
      go past (s ∷ more) a b d = (record { lines = a.0; filters = b.0; sink = d.0 }, go (s ∷ past) more a.1 b.1 d.1)

pub of-each : (P : Chain → List Step → Step → Type 0) → OfNewPipelines P → OfEachPipeline P
of-each P law layout script disks history lays fits few fit begins c made =
    go [] (run_over layout script disks history)
    (law layout script disks history lays fits fit.keep_rules fit.have_monitors begins c
    (is-new layout script disks history lays fits few fit begins c made))
    (steps-of layout script disks history lays fits few fit begins c made)
  where
    go : (past more : List Step) → EachStep (λ past s. IsPipeline (s ∷ past) s.later.traffic c → P c past s) past more
        → EachStep (λ past s. OfChain c (s ∷ past)) past more → EachStep (λ past s. AreJoined s.later.traffic c → P c past s) past more
    go past [] a b = tt
    go past (s ∷ more) a b = ((λ opens. a.0 (pipeline c (s ∷ past) s.later.traffic b.0 opens)), go (s ∷ past) more a.1 b.1)

pub pipelines-flow : PipelinesFlow
pipelines-flow = of-each _ flows.pipelines-flow

pub lists-stay : ListsStay
lists-stay = of-each _ flows.lists-stay

pub sinks-hold-all : SinksHoldAll
sinks-hold-all = of-each _ flows.sinks-hold-all
