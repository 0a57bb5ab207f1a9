-- The laws below joined, over one run.
use Rattle.std.proofs.Common.{◌≡◌, ◌≤◌, ℕ, true, false, List, [], ◌∷◌, ◌++◌, length, Some, sym, subst}
use Rattle.std.specs.Prelude.{ℤ, pos}
use Rattle.std.specs.List.{All}
use Rattle.epl_syntax.specs.Meaning.{Turned}
use Rattle.passive_store.specs.Kept.{Layout}
use Rattle.passive_store.specs.Layout.{IsLayout}
use Rattle.journal.specs.declared.command.Script.{Script}
use Rattle.journal.specs.declared.event.Entry.{Entry}
use Rattle.journal.specs.World.{World, Node, node_at}
use Rattle.journal.specs.Enabled.{enabled}
use Rattle.journal.specs.Fit.{IsFit}
use Rattle.journal.specs.Monitors.{AreInTheirMonitors, EventKeepsMonitors, LeavesVariables}
use Rattle.journal.specs.Run.{Step, EachStep, beginning}
use Rattle.journal.specs.Standing.{DiskRun}
use Rattle.journal.specs.LegalRun.{EachDisk, AreHandedIn, opening_world, last_world, run_over}
use Rattle.journal.specs.Laws.{Begins, HasTurn, IsAtRest, FirstPartsFollowSoFar, EnabledKeysHaveTurns, DownNodesRest}
use Rattle.journal.specs.SiteLaws.{MonitorsAreHeld, MonitorsKeepVariables, VariablesStay}
use Rattle.value_laws.specs.Worlds.{WorldLimited, HistoriesKeepLimits}
use Rattle.stream_laws.specs.Chains.{Chain, made_by, AreJoined}
use Rattle.stream_laws.specs.Streams.{Flows, ComesToTheEnd, PumpAnswers, items_held, list_kept, has_kept}
use Rattle.stream_laws.specs.Streams.{PipelinesFlow, ListsStay, SinksHoldAll}
use Rattle.stream_laws.specs.Counts.{IsUndisturbed, AnswersZero, FirstPumpAnswers, HaveAsked, PumpsTakeSoMany, FirstPumpTakesSoMany}
use Rattle.undisturbed_runs.specs.Puts.{CheckpointEnds, EachWithRest}
use Rattle.undisturbed_runs.specs.Runs.{IsUndisturbedRun, StepsAreComplete}
use Rattle.run_laws.specs.Besides.{WorldHolds, EntryHolds, PipelineHolds, PipelinesHold, HoldsBesides}
use Rattle.run_laws.proofs.Worlds.{around-each, joined}

-- the laws that are joined
pub record AreLaws : Type 0 where
  pub parts : FirstPartsFollowSoFar
  pub limits : HistoriesKeepLimits
  pub held : MonitorsAreHeld
  pub enabled_turns : EnabledKeysHaveTurns
  pub down : DownNodesRest
  pub touches : MonitorsKeepVariables
  pub leaves : VariablesStay
  pub flows : PipelinesFlow
  pub lists : ListsStay
  pub sinks : SinksHoldAll
  pub counts : PumpsTakeSoMany
  pub firsts : FirstPumpTakesSoMany

-- what is known of a world by the history that led to it
record IsReached (w : World) : Type 0 where
  monitors : AreInTheirMonitors w
  turns : All (HasTurn w) (enabled w)
  down : (n : ℕ) (it : Node) → node_at w n ≡ Some it → it.up ≡ false → IsAtRest w n it

holds : (w : World) → IsReached w → WorldLimited w → WorldHolds w
holds w r limited = record { values = limited; monitors = r.monitors; turns = r.turns; down = r.down }

-- what is said of a pipeline behind a step, where it is joined there
abbrev WhereJoined : Chain → (List Step → Step → Type 0) → List Step → Step → Type 0
WhereJoined c P past s = AreJoined s.later.traffic c → P past s

abbrev IsFlowing : Chain → List Step → Step → Type 0
IsFlowing c past s = Flows s.later c (list_kept s.later c.lines)

abbrev KeepsList : Chain → List Step → Step → Type 0
KeepsList c past s = has_kept s.world c.lines ≡ true → list_kept s.later c.lines ≡ list_kept s.world c.lines

abbrev HoldsAll : Chain → List Step → Step → Type 0
HoldsAll c past s =
    (t : Turned) (held : ℤ) → ComesToTheEnd c.sink s t held → items_held t.vars ≡ made_by c.filters (list_kept s.later c.lines)

abbrev IsCounted : Chain → List Step → Step → Type 0
IsCounted c past s =
    IsUndisturbed c past s → AnswersZero c.sink past → (t : Turned) (items : ℕ) → PumpAnswers c.sink s t (pos 0) (pos items)
    → HaveAsked c s.later.traffic items

abbrev IsFirstCounted : Chain → List Step → Step → Type 0
IsFirstCounted c past s =
    IsUndisturbed c past s → (t : Turned) (items : ℕ) → FirstPumpAnswers c.sink past s t (pos 0) (pos items) → HaveAsked c s.later.traffic items

module _ (laws : AreLaws) (layout : Layout) (script : Script) (disks : List DiskRun) (history : List Entry) (lays : IsLayout layout)
    (fits : AreHandedIn layout disks) (few : length disks ≤ 8) (fit : IsFit script) (begins : Begins layout script disks history) where
  abbrev run : List Step
  run = run_over layout script disks history

  reached : (part more : List Entry) → part ++ more ≡ history → IsReached (last_world (opening_world layout script disks) script part)
  reached part more is = record {
    monitors = laws.held layout script disks part lays fits fit.keep_rules fit.have_monitors so;
    turns = laws.enabled_turns layout script disks part lays fits fit.keep_rules fit.have_monitors so;
    down = laws.down layout script disks part lays fits so;
  }
    where
      so : Begins layout script disks part
      so = laws.parts (opening_world layout script disks) script.nodes script.commands part more
          (subst (Begins layout script disks) (sym is) begins)

  abbrev AreReached : List Step → Step → Type 0
  AreReached past s = IsReached s.world × IsReached s.later

  abbrev AreLimited : List Step → Step → Type 0
  AreLimited past s = WorldLimited s.world × WorldLimited s.later

  worlds : EachStep (λ past s. WorldHolds s.world × WorldHolds s.later) [] run
  worlds = joined AreReached AreLimited (λ past s. WorldHolds s.world × WorldHolds s.later)
      (λ past s r l. (holds s.world r.0 l.0, holds s.later r.1 l.1)) [] run
      (around-each IsReached (beginning (opening_world layout script disks) script.nodes script.commands) [] history reached)
      (laws.limits layout script disks history lays fits few fit begins)

  variables : EachStep (λ past s. EventKeepsMonitors s.world s.entry.event × LeavesVariables s.world s.entry.event s.later) [] run
  variables = joined (λ past s. EventKeepsMonitors s.world s.entry.event) (λ past s. LeavesVariables s.world s.entry.event s.later)
      (λ past s. EventKeepsMonitors s.world s.entry.event × LeavesVariables s.world s.entry.event s.later)
      (λ past s t l. (t, l)) [] run
      (laws.touches layout script disks history lays fits fit.keep_rules fit.have_monitors begins)
      (laws.leaves layout script disks history lays fits fit.keep_rules fit.have_monitors begins)

  entries : EachStep (λ past s. EntryHolds s) [] run
  entries = joined (λ past s. WorldHolds s.world × WorldHolds s.later)
      (λ past s. EventKeepsMonitors s.world s.entry.event × LeavesVariables s.world s.entry.event s.later) (λ past s. EntryHolds s)
      (λ past s w v. record { before = w.0; behind = w.1; touches = v.0; leaves = v.1 }) [] run worlds variables

  pipelines : PipelinesHold run
  pipelines c made = go [] run
      (laws.flows layout script disks history lays fits few fit begins c made)
      (laws.lists layout script disks history lays fits few fit begins c made)
      (laws.sinks layout script disks history lays fits few fit begins c made)
      (laws.counts layout script disks history lays fits few fit begins c made)
      (laws.firsts layout script disks history lays fits few fit begins c made)
    where
      go : (past more : List Step) → EachStep (WhereJoined c (IsFlowing c)) past more → EachStep (WhereJoined c (KeepsList c)) past more
          → EachStep (WhereJoined c (HoldsAll c)) past more → EachStep (WhereJoined c (IsCounted c)) past more
          → EachStep (WhereJoined c (IsFirstCounted c)) past more → EachStep (WhereJoined c (PipelineHolds c)) past more
      go past [] f l w n o = tt
      go past (s ∷ more) f l w n o = (
        (λ opens. record { flows = f.0 opens; list = l.0 opens; whole = w.0 opens; counted = n.0 opens; first = o.0 opens }),
        go (s ∷ past) more f.1 l.1 w.1 n.1 o.1,
      )

  pub besides : StepsAreComplete layout script disks history
      → EachDisk disks (λ n d. IsUndisturbedRun d → EachWithRest (CheckpointEnds n) run)
      → HoldsBesides layout script disks history
  besides complete checkpoints = record {
    entries = entries;
    pipelines = pipelines;
    undisturbed = λ n d is still. record { complete = complete n d is still; checkpoints = checkpoints n d is still };
  }
