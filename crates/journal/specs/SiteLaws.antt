-- The laws of sites: what holds of every world that a history reaches, and of every event at a node.
use Rattle.std.specs.Prelude.{◌≡◌, ◌==◌, ℕ, Bool, true, false, List, [], Some, is_some}
use Rattle.passive_store.specs.Kept.{Layout}
use Rattle.passive_store.specs.Layout.{IsLayout}
use Rattle.epl_syntax.specs.Rules.OfTypes.{KeepRules, HaveMonitors}
use Rattle.journal.specs.declared.command.Script.{Script}
use Rattle.journal.specs.declared.event.Event.{Event}
use Rattle.journal.specs.declared.event.Entry.{Entry}
use Rattle.journal.specs.World.{World, Node, Site, node_at, site_of, at_node}
use Rattle.journal.specs.Crashes.{crashed, crash_by}
use Rattle.journal.specs.Step.{AllowsAt, site_turn, stopped_at}
use Rattle.journal.specs.Falls.{before_fall}
use Rattle.journal.specs.Kept.{crashes}
use Rattle.journal.specs.Run.{EachStep}
use Rattle.journal.specs.Standing.{DiskRun, state}
use Rattle.journal.specs.LegalRun.{AreHandedIn, opening_world, last_world, run_of}
use Rattle.journal.specs.Laws.{Begins}
use Rattle.journal.specs.Monitors.{AreInTheirMonitors, EventKeepsMonitors, LeavesVariables}
use Rattle.journal.specs.FitTurns.{TurnsAreFit}
use Rattle.journal.specs.Sites.{Everywhere, HasEpochs, SoundWorld, AllSound, IsSoundSite, HoldsItsWork, CallsGoOn, KeepsSite}

-- 1. Every world that is reached

-- P holds of an opening world, over disks that are handed in as they have to be, and of each world that a history reaches from it
abbrev pub OfEachReached : (World → World → Type 0) → Type 0
OfEachReached P = (layout : Layout) (script : Script) (disks : List DiskRun) (history : List Entry) → IsLayout layout
    → AreHandedIn layout disks → Begins layout script disks history
    → P (opening_world layout script disks) (last_world (opening_world layout script disks) script history)

-- the same, where the types of the script keep the rules, and each of their conditions is of a monitor
abbrev pub OfEachRuled : (World → World → Type 0) → Type 0
OfEachRuled P = (layout : Layout) (script : Script) (disks : List DiskRun) (history : List Entry) → IsLayout layout
    → AreHandedIn layout disks → KeepRules script.types → HaveMonitors script.types → Begins layout script disks history
    → P (opening_world layout script disks) (last_world (opening_world layout script disks) script history)

-- The nodes are those of the opening world, in order; of each the Ejects are in order and of it, each process has its task, and only
-- the first of the store's requests has made device calls and has one left; a call on its way goes to a node that is there.
abbrev pub WorldsAreSound : Type 0
WorldsAreSound = OfEachReached (λ opening w. SoundWorld (λ n. is_some (node_at opening n)) w)

-- Each call that an Eject runs or has queued is held at it, once; and who asked an open call or has a request at the store waits.
abbrev pub SitesAreSound : Type 0
SitesAreSound = OfEachRuled (λ opening w. AllSound w)

-- A call that is held at an Eject is one that it runs or has queued.
abbrev pub HeldCallsAreWork : Type 0
HeldCallsAreWork = OfEachRuled (λ opening w. Everywhere (λ n it. HoldsItsWork (site_of w n it)) w)

-- Each process whose rest is inside of a monitor holds it, waits in its entry queue, or waits on one of its conditions; and no other does.
abbrev pub MonitorsAreHeld : Type 0
MonitorsAreHeld = OfEachRuled (λ opening w. AreInTheirMonitors w)

-- Each process that waits for nothing has a turn that can be carried out: a type of which it creates an Eject is there, and a step at the
-- monitors is one that it may take.
abbrev pub EveryTurnIsFit : Type 0
EveryTurnIsFit = OfEachRuled (λ opening w. Everywhere (λ n it. TurnsAreFit (site_of w n it)) w)

-- The stored epoch of each node, and the one in doubt, are at most 4,294,967,295; and where an Eject is there, an epoch is stored.
abbrev pub EpochsAreBounded : Type 0
EpochsAreBounded = OfEachReached (λ opening w. Everywhere (λ n it. HasEpochs it) w)

-- 2. Stops and power cuts

-- an event that crashes its node changes what it changed before the node fell, and then the node falls
abbrev pub StopsAreFalls : Type 0
StopsAreFalls = (reach : ℕ → Bool) (e : Event) (s : Site) → AllowsAt s e → crashes s.number e ≡ true
    → site_turn reach e s ≡ crashed (before_fall e s)

-- in the world besides, the processes whose calls are broken are told behind both
abbrev pub FallsAreLast : Type 0
FallsAreLast = (w : World) (n : ℕ) (it : Node) (e : Event) → node_at w n ≡ Some it → AllowsAt (site_of w n it) e → crashes n e ≡ true
    → stopped_at w n e ≡ crash_by n crashed (at_node n (before_fall e) w)

-- 3. Every event at a node

-- an event at a node keeps the site's number, types and layout, and all fields of the node but those that its kind may change
abbrev pub EventsKeepSites : Type 0
EventsKeepSites = (reach : ℕ → Bool) (e : Event) (s : Site) → KeepsSite e s (site_turn reach e s)

-- around an event that is allowed at a sound site each call goes on, and what is new was asked by a process of the node
abbrev pub EventsKeepCalls : Type 0
EventsKeepCalls = (reach : ℕ → Bool) (e : Event) (s : Site) → IsSoundSite s → AllowsAt s e
    → CallsGoOn s.number s.traffic (site_turn reach e s).traffic

-- 4. The state of a node, which its disk stands for, is changed by no entry on another disk or on none.
abbrev pub StatesStayElsewhere : Type 0
StatesStayElsewhere = (layout : Layout) (script : Script) (disks : List DiskRun) (history : List Entry) → IsLayout layout
    → AreHandedIn layout disks → Begins layout script disks history
    → EachStep (λ past s. (n : ℕ) → (s.entry.node == n) ≡ false → state s.later n ≡ state s.world n) []
    (run_of (opening_world layout script disks) script history)

-- 5. In each turn of a process of a declared type each variable of a monitor that the process does not hold stays as it was, and is not
-- read, where the types of the script keep the rules and each of their conditions is of a monitor.
abbrev pub MonitorsKeepVariables : Type 0
MonitorsKeepVariables = (layout : Layout) (script : Script) (disks : List DiskRun) (history : List Entry) → IsLayout layout
    → AreHandedIn layout disks → KeepRules script.types → HaveMonitors script.types → Begins layout script disks history
    → EachStep (λ past s. EventKeepsMonitors s.world s.entry.event) [] (run_of (opening_world layout script disks) script history)

-- No entry changes a variable of an active part but the turn of one of its processes, and that none of a monitor that the process does not
-- hold. So a variable of a monitor changes in turns of its holder alone, until the active part ends.
abbrev pub VariablesStay : Type 0
VariablesStay = (layout : Layout) (script : Script) (disks : List DiskRun) (history : List Entry) → IsLayout layout
    → AreHandedIn layout disks → KeepRules script.types → HaveMonitors script.types → Begins layout script disks history
    → EachStep (λ past s. LeavesVariables s.world s.entry.event s.later) [] (run_of (opening_world layout script disks) script history)
