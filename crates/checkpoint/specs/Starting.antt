-- An activation reads what is kept, behind the settling of a doubt whose request has ended, and starts from it.
use Rattle.std.specs.Prelude.{◌≡◌, ◌⊎◌, ℕ, ◌≤◌, true, List, [], length, Option, None, Some, Result, Ok, Err, is_some, IsTrue, IfSome}
use Rattle.capability.specs.declared.Uid.{Uid}
use Rattle.eden_value.specs.Datum.{Datum}
use Rattle.eden_model.specs.Map.{first}
use Rattle.epl_syntax.specs.Edentype.{Edentype}
use Rattle.eden_disk.specs.Told.{Told}
use Rattle.eden_disk.specs.Calls.{End, Fine, AtFault, AtStop}
use Rattle.passive_store.specs.declared.store.Pick.{Pick}
use Rattle.passive_store.specs.declared.store.StoreRefusal.{StoreRefusal}
use Rattle.passive_store.specs.declared.store.StoreRefusal.TheVariants as refusal
use Rattle.passive_store.specs.Kept.{Layout, doubt_in}
use Rattle.passive_store.specs.Seen.{Seen}
use Rattle.journal.specs.declared.event.StartEnd.{StartEnd}
use Rattle.journal.specs.declared.event.StartEnd.TheVariants as end
use Rattle.journal.specs.World.{Eject, Site, StoreRequest, eject_in}
use Rattle.journal.specs.Settling.{to_settle}
use Rattle.journal.specs.Starts.{start_of, start_settled, AllowsActivate}
use Rattle.journal.specs.Crashes.{crashed}
use Rattle.journal.specs.Standing.{Stands, with_changes}
use Rattle.checkpoint.specs.Changes.{facts_in}
use Rattle.checkpoint.specs.Stretch.{Stretch}
use Rattle.checkpoint.specs.StoreStands.{state_of, NodeOnDisk}
use Rattle.checkpoint.specs.Turns.{with_clock, RestStands}
use Rattle.checkpoint.specs.Asked.{StandsNow, noted_in, pick_of}
use Rattle.checkpoint.specs.declared.worker.Settled.{Settled}
use Rattle.checkpoint.specs.declared.start.Find.{Find}
use Rattle.checkpoint.specs.declared.start.Find.TheVariants as find
use Rattle.checkpoint.specs.declared.start.Start.{Start}
use Rattle.checkpoint.specs.declared.start.Start.TheVariants.{Values, Gone, Fault, Damaged, Stopped}

-- 1. What is found

-- the node goes on from the site behind the settling
pub record StartsOn (layout : Layout) (n : ℕ) (s : Site) (requests : List StoreRequest) (old : Told) (before : ℕ) (p : Option Pick)
    (y : Seen)
    : Type 0 where
  pub stands : StandsNow layout n (with_clock y.disk.counts.clock (start_settled p s)) requests y
  pub disk : NodeOnDisk layout n s.node [] (start_settled p s).node old before y.disk.told y.disk.counts.clock
  -- what stands behind the settling stands before it
  pub back : (image : List ℕ) → Stands layout n (state_of n (start_settled p s).node) image
      → Stands layout n (with_changes [] (state_of n s.node)) image

-- or it went down there
pub record StartsDown (layout : Layout) (n : ℕ) (s : Site) (old : Told) (before : ℕ) (p : Option Pick) (y : Seen) : Type 0 where
  pub rests : RestStands layout n y.more (with_clock y.disk.counts.clock (crashed (start_settled p s))) (noted_in (doubt_in y.work) y.kept)
      y.disk.counts.size y.disk.counts.clock y.disk.told
  pub disk : NodeOnDisk layout n s.node [] (crashed (start_settled p s)).node old before y.disk.told y.disk.counts.clock

-- which state a settling found, whatever Eject it was of
abbrev pub picks_in : {E : Type 0} → Result (Option Settled) E → Result (Option Pick) E
picks_in (Ok found) = Ok (pick_of found)
picks_in (Err e) = Err e

-- a settling, where there is a doubt to settle; a pick comes exactly where it succeeds
abbrev pub SettlesTo : Layout → ℕ → Site → List StoreRequest → Seen → Result (Option Pick) StoreRefusal → Seen → Type 0
SettlesTo layout n s requests x (Ok p) y = (is_some p ≡ to_settle s) × StartsOn layout n s requests x.disk.told x.disk.counts.clock p y
SettlesTo layout n s requests x (Err refusal.Failed) y =
    (to_settle s ≡ true) × StartsOn layout n s requests x.disk.told x.disk.counts.clock None y
SettlesTo layout n s requests x (Err refusal.Stopped) y =
    (to_settle s ≡ true) × StartsDown layout n s x.disk.told x.disk.counts.clock None y
SettlesTo layout n s requests x (Err refusal.Full) y = ⊥
SettlesTo layout n s requests x (Err (refusal.Damaged place)) y = ⊥
SettlesTo layout n s requests x (Err refusal.OutOfMemory) y = ⊥

-- a read of what is kept, which changes nothing
pub record GoesOn (layout : Layout) (n : ℕ) (t : Site) (requests : List StoreRequest) (x y : Seen) : Type 0 where
  pub stands : StandsNow layout n (with_clock y.disk.counts.clock t) requests y
  pub disk : Stretch (Stands layout n (state_of n t.node)) (Stands layout n (state_of n t.node)) (Stands layout n (state_of n t.node))
      x.disk.told x.disk.counts.clock y.disk.told y.disk.counts.clock

-- or in which the disk stopped
pub record GoesDown (layout : Layout) (n : ℕ) (t : Site) (x y : Seen) : Type 0 where
  pub rests : RestStands layout n y.more (with_clock y.disk.counts.clock (crashed t)) (noted_in (doubt_in y.work) y.kept)
      y.disk.counts.size y.disk.counts.clock y.disk.told
  pub disk : Stretch (Stands layout n (state_of n t.node)) (Stands layout n (state_of n t.node))
      (Stands layout n (state_of n (crashed t).node))
      x.disk.told x.disk.counts.clock y.disk.told y.disk.counts.clock

-- what it found, and where it was refused something is kept
abbrev pub ReadsTo : Layout → ℕ → Site → List StoreRequest → Uid → Seen → Result (Option (List ℕ)) StoreRefusal → Seen → Type 0
ReadsTo layout n t requests u x (Ok found) y = (found ≡ (facts_in t u).0) × GoesOn layout n t requests x y
ReadsTo layout n t requests u x (Err refusal.Failed) y = IsTrue (is_some (facts_in t u).0) × GoesOn layout n t requests x y
ReadsTo layout n t requests u x (Err refusal.Stopped) y = IsTrue (is_some (facts_in t u).0) × GoesDown layout n t x y
ReadsTo layout n t requests u x (Err refusal.Full) y = ⊥
ReadsTo layout n t requests u x (Err (refusal.Damaged place)) y = ⊥
ReadsTo layout n t requests u x (Err refusal.OutOfMemory) y = GoesOn layout n t requests x y

-- a fault or a stop comes in the settling, or where something is kept
abbrev pub MayFail : Site → Uid → Option Pick → Type 0
MayFail s u p = ((p ≡ None) × (to_settle s ≡ true)) ⊎ ((is_some p ≡ to_settle s) × IsTrue (is_some (facts_in (start_settled p s) u).0))

-- a body is within its limit
abbrev pub IsShort : List ℕ → Type 0
IsShort bytes = length bytes ≤ 262144

-- what was found is
abbrev pub FindsShort : Find → Type 0
FindsShort (find.Bytes bytes) = IsShort bytes
FindsShort _ = Unit {0}

-- how the last device call ended of one that found so
abbrev pub call_of_find : Find → End
call_of_find (find.Bytes bytes) = Fine
call_of_find find.Nothing = Fine
call_of_find find.Fault = AtFault
call_of_find find.Stopped = AtStop

-- of one for which there was no memory none was refused
abbrev pub call_of_finding : {E : Type 0} → Result (Find × Option Settled) E → End
call_of_finding (Ok r) = call_of_find r.0
call_of_finding (Err e) = Fine

-- what was found, and what is left of the node
abbrev pub FindsTo : Layout → ℕ → Site → List StoreRequest → Uid → Seen → Find → Option Pick → Seen → Type 0
FindsTo layout n s requests u x (find.Bytes bytes) p y = (is_some p ≡ to_settle s) × ((facts_in (start_settled p s) u).0 ≡ Some bytes)
    × StartsOn layout n s requests x.disk.told x.disk.counts.clock p y
FindsTo layout n s requests u x find.Nothing p y = (is_some p ≡ to_settle s) × ((facts_in (start_settled p s) u).0 ≡ None)
    × StartsOn layout n s requests x.disk.told x.disk.counts.clock p y
FindsTo layout n s requests u x find.Fault p y = MayFail s u p × StartsOn layout n s requests x.disk.told x.disk.counts.clock p y
FindsTo layout n s requests u x find.Stopped p y = MayFail s u p × StartsDown layout n s x.disk.told x.disk.counts.clock p y

-- there was no memory for the bytes: the settling before the read, if there was one to make, found its state
abbrev pub StartsNot : Layout → ℕ → Site → List StoreRequest → Seen → Seen → Type 0
StartsNot layout n s requests x y =
    (p : Option Pick) × (is_some p ≡ to_settle s) × StartsOn layout n s requests x.disk.told x.disk.counts.clock p y

-- 2. An activation, in the words of a history

-- how it ended
abbrev pub end_of_start : {S : Type 0} → Start S → StartEnd
end_of_start (Values start) = end.Ok
end_of_start Gone = end.Gone
end_of_start Fault = end.Fault
end_of_start Damaged = end.Damaged
end_of_start Stopped = end.Stop

-- what starts, where something does
abbrev pub values_of : {S : Type 0} → (S → Edentype × List Datum) → Start S → Option (Edentype × List Datum)
values_of started (Values start) = Some (started start)
values_of started Gone = None
values_of started Fault = None
values_of started Damaged = None
values_of started Stopped = None

-- how its last device call ended
abbrev pub call_of_start : StartEnd → End
call_of_start end.Ok = Fine
call_of_start end.Gone = Fine
call_of_start end.Fault = AtFault
call_of_start end.Damaged = Fine
call_of_start end.Stop = AtStop

-- of one for which there was no memory none was refused
abbrev pub call_of_starting : {S E : Type 0} → Result (Start S × Option Settled) E → End
call_of_starting (Ok r) = call_of_start (end_of_start r.0)
call_of_starting (Err e) = Fine

-- the type and the durable values are those that the bytes say which are kept behind the settling
abbrev pub StartsWith : Site → Uid → Option Pick → Edentype × List Datum → Type 0
StartsWith s u p start =
    (bytes : List ℕ) × ((facts_in (start_settled p s) u).0 ≡ Some bytes) × (start_of s.types bytes u ≡ Some start)

-- the node goes on, or goes down where the disk stopped
abbrev pub LeavesNode : StartEnd → Layout → ℕ → Site → List StoreRequest → Told → ℕ → Option Pick → Seen → Type 0
LeavesNode end.Stop layout n s requests old before p y = StartsDown layout n s old before p y
LeavesNode _ layout n s requests old before p y = StartsOn layout n s requests old before p y

-- An activation of an Eject of the site: the world allows that it ends so, where the Eject is passive and has queued calls; what starts is
-- what is kept; and what is left of the node.
pub record StartsTo (layout : Layout) (n : ℕ) (s : Site) (requests : List StoreRequest) (u : Uid) (x : Seen) (how : StartEnd)
    (start : Option (Edentype × List Datum)) (p : Option Pick) (y : Seen) : Type 0 where
  pub allowed : (e : Eject) → eject_in s u ≡ Some e → e.active ≡ None → IsTrue (is_some (first e.queued)) → AllowsActivate s u how p e
  pub with_values : IfSome start (StartsWith s u p)
  pub leaves : LeavesNode how layout n s requests x.disk.told x.disk.counts.clock p y
