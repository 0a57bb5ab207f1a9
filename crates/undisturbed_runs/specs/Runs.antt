-- A run over disks that neither failed nor stopped is complete: what their nodes ask of them comes to its end.
use Rattle.std.specs.Prelude.{◌≡◌, ◌<◌, ◌-◌, ◌^◌, ℕ, Bool, List, [], Option, Some, IsSomeAnd}
use Rattle.capability.specs.declared.Uid.{Uid}
use Rattle.eden_value.specs.declared.status.Status.TheVariants as status
use Rattle.passive_store.specs.declared.store.Pick.{Pick}
use Rattle.passive_store.specs.Kept.{Layout}
use Rattle.passive_store.specs.Layout.{IsLayout}
use Rattle.epl_syntax.specs.Rules.OfTypes.{KeepRules, HaveMonitors}
use Rattle.journal.specs.declared.command.Script.{Script}
use Rattle.journal.specs.declared.event.Event.TheVariants as event
use Rattle.journal.specs.declared.event.Entry.{Entry}
use Rattle.journal.specs.declared.event.BootEnd.{BootEnd}
use Rattle.journal.specs.declared.event.StartEnd.{StartEnd}
use Rattle.journal.specs.declared.event.RequestEnd.{RequestEnd}
use Rattle.journal.specs.declared.event.RequestEnd.TheVariants as request_end
use Rattle.journal.specs.EjectChange.{body}
use Rattle.journal.specs.World.{site_at}
use Rattle.journal.specs.Run.{Step, EachStep}
use Rattle.journal.specs.Standing.{DiskRun}
use Rattle.journal.specs.LegalRun.{EachDisk, AreHandedIn, IsLegalRun, IsLegalSoFar, run_over}
use Rattle.undisturbed_runs.specs.Turns.{EndsByRoom, Tells, FindsWhatIsKept, BootsByItsDisk}
use Rattle.undisturbed_runs.specs.Puts.{AtTheStore, CheckpointEnds, EachWithRest}

-- 1. The disk

-- No device call of it failed or stopped, from as it was handed in to as it was given back. Of a count that stands at the greatest
-- number of 64 bits it is not told whether it rose.
pub record IsUndisturbedRun (d : DiskRun) : Type 0 where
  pub no_fault : d.last.faults ≡ d.first.faults
  pub no_stop : d.last.stops ≡ d.first.stops
  pub faults_told : d.last.faults < 2 ^ 64 - 1
  pub stops_told : d.last.stops < 2 ^ 64 - 1

-- 2. A step

-- what a step shows of node n
pub record IsComplete (n : ℕ) (s : Step) : Type 0 where
  -- Each turn of its store makes a device call and leaves more of them, or is done, or ends for want of room, that exactly where there is
  -- none for the change of the request.
  pub store : (u : Uid) (clock : ℕ) (how : RequestEnd) (p : Option Pick) → s.entry.event ≡ event.Store u clock how p → u.node ≡ n
      → AtTheStore s.world n (λ site r. (u ≡ r.uid) × EndsByRoom site r how)
  -- Where a put is done, the process that asked for it is told 0. A request whose Eject has lost its active part since has no process.
  pub told : (u : Uid) (clock : ℕ) (p : Option Pick) → s.entry.event ≡ event.Store u clock request_end.Done p → u.node ≡ n
      → AtTheStore s.world n (λ site r. (q : ℕ) (bytes : List ℕ) → r.process ≡ Some q → r.change ≡ body bytes
      → Tells u q status.Ok s.world s.later)
  -- Each activation there finds what is kept.
  pub activation : (u : Uid) (how : StartEnd) (p : Option Pick) → s.entry.event ≡ event.Activate u how p → u.node ≡ n
      → FindsWhatIsKept s.world s.later u how p
  -- Each boot brings it up, unless its disk is damaged or holds too much, its epochs are spent, or the next one has no room.
  pub boot : (e : ℕ) (how : BootEnd) (p : Option Pick) (began : Bool) → s.entry.event ≡ event.Boot n e how p began
      → IsSomeAnd (site_at s.world n) (λ site. BootsByItsDisk site s.later how p)

-- 3. The laws

-- every step of a run is complete at each node whose disk is undisturbed
abbrev pub StepsAreComplete : Layout → Script → List DiskRun → List Entry → Type 0
StepsAreComplete layout script disks history = EachDisk disks (λ n d. IsUndisturbedRun d
    → EachStep (λ past s. IsComplete n s) [] (run_over layout script disks history))

-- over each disk that neither failed nor stopped in a legal run
abbrev pub UndisturbedRunsAreComplete : Type 0
UndisturbedRunsAreComplete = (layout : Layout) (script : Script) (disks : List DiskRun) (history : List Entry)
    → IsLegalRun layout script disks history → StepsAreComplete layout script disks history

-- and in one that want of memory ended
abbrev pub UndisturbedPartsAreComplete : Type 0
UndisturbedPartsAreComplete = (layout : Layout) (script : Script) (disks : List DiskRun) (history : List Entry)
    → IsLegalSoFar layout script disks history → StepsAreComplete layout script disks history

-- Over such a disk each checkpoint within size and room is answered 0 once its put has ended, unless the Eject lost its active part
-- since it asked; where the types of the script keep the rules, over disks that are handed in as they have to be.
abbrev pub CheckpointsAreAnswered : Type 0
CheckpointsAreAnswered = (layout : Layout) (script : Script) (disks : List DiskRun) (history : List Entry) → IsLayout layout
    → AreHandedIn layout disks → KeepRules script.types → HaveMonitors script.types → IsLegalRun layout script disks history
    → EachDisk disks (λ n d. IsUndisturbedRun d → EachWithRest (CheckpointEnds n) (run_over layout script disks history))

-- and in a run that want of memory ended
abbrev pub CheckpointsAreAnsweredSoFar : Type 0
CheckpointsAreAnsweredSoFar = (layout : Layout) (script : Script) (disks : List DiskRun) (history : List Entry) → IsLayout layout
    → AreHandedIn layout disks → KeepRules script.types → HaveMonitors script.types → IsLegalSoFar layout script disks history
    → EachDisk disks (λ n d. IsUndisturbedRun d → EachWithRest (CheckpointEnds n) (run_over layout script disks history))
