-- What the turns of a node show of its disk.
use Rattle.std.proofs.Common.{◌≡◌, ℕ, ◌≤◌, ◌<◌, ◌==◌, Bool, true, false, cond, ◌∷◌, List, Option, None, Some, refl, sym, ap, subst, ◌∙◌}
use Rattle.std.proofs.Common.{◌-◌, ◌^◌, [], arith}
use Rattle.std.proofs.lemmas.Bool.{eq-eqb, eqb-true}
use Rattle.std.specs.Prelude.{IsTrue}
use Rattle.capability.specs.declared.Uid.{Uid}
use Rattle.eden_disk.specs.declared.disk.Arm.{Arm}
use Rattle.eden_disk.specs.Calls.{Counts, Due, DeviceCalls, End, Fine, AtFault, AtStop, armed, is_due, IsAsDue}
use Rattle.eden_disk.specs.Calls.{faults_after, stops_after}
use Rattle.eden_disk.proofs.Held.{wants_rise}
use Rattle.passive_store.specs.declared.store.Pick.{Pick}
use Rattle.passive_store.specs.Seen.{DiskSeen}
use Rattle.journal.specs.Faults.{shows_fault, shows_stop}
use Rattle.journal.specs.declared.event.BootEnd.{BootEnd}
use Rattle.journal.specs.declared.event.BootEnd.TheVariants as boot_end
use Rattle.journal.specs.declared.event.Event.{Event}
use Rattle.journal.specs.declared.event.Event.TheVariants as event
use Rattle.journal.specs.declared.event.RequestEnd.{RequestEnd}
use Rattle.journal.specs.declared.event.RequestEnd.TheVariants as end
use Rattle.journal.specs.declared.event.StartEnd.{StartEnd}
use Rattle.journal.specs.declared.event.StartEnd.TheVariants as start_end
use Rattle.checkpoint.specs.Asked.{AllOfNode}
use Rattle.checkpoint.specs.Calls.{MakesCalls, call_of_fall, powered}
use Rattle.checkpoint.specs.Starting.{call_of_start}
use Rattle.checkpoint.specs.Touches.{ObeyedIn, RaisesClock}
use Rattle.checkpoint.specs.declared.up.BootNote.{BootNote}
use Rattle.checkpoint.specs.declared.worker.Request.{Request}
use Rattle.eden_kernel.specs.DiskTurns.{call_of_request, IsFirstAsked, StopsBy, behind_start, stops_behind}
use Rattle.disk_faults.specs.Shows.{count_behind, due_behind, HasFallen, IsLeftOf, ShowsCounts, NoneFalls}
use Rattle.eden_kernel.specs.Shows.{boot_event, FallShows}

-- 1. By how the device calls ended

abbrev pub is_fault : End → Bool
is_fault Fine = false
is_fault AtFault = true
is_fault AtStop = false

abbrev pub is_stop : End → Bool
is_stop Fine = false
is_stop AtFault = false
is_stop AtStop = true

fault-count : (end : End) (shown : Bool) (n : ℕ) → shown ≡ is_fault end → faults_after end n ≡ count_behind shown n
fault-count Fine shown n is = rw is refl
fault-count AtFault shown n is = rw is refl
fault-count AtStop shown n is = rw is refl

stop-count : (end : End) (shown : Bool) (n : ℕ) → shown ≡ is_stop end → stops_after end n ≡ count_behind shown n
stop-count Fine shown n is = rw is refl
stop-count AtFault shown n is = rw is refl
stop-count AtStop shown n is = rw is refl

due-at : (due : Option ℕ) (clock : ℕ) → is_due due clock ≡ true → due ≡ Some clock
due-at None clock is = absurd (cc is)
due-at (Some k) clock is = ap Some (eqb-true k clock is)

fallen-fault : (end : End) (due : Due) (before after : ℕ) → is_fault end ≡ true → IsAsDue (is_due due.stop after)
    (is_due due.failure after) end
    → RaisesClock end before after → after < 2 ^ 64 - 1 → HasFallen due.failure before after
fallen-fault Fine due before after is due_then rises below = absurd (cc is)
fallen-fault AtFault due before after is due_then rises below = record { at = due-at due.failure after due_then; rose = rises below }
fallen-fault AtStop due before after is due_then rises below = absurd (cc is)

fallen-stop : (end : End) (due : Due) (before after : ℕ) → is_stop end ≡ true → IsAsDue (is_due due.stop after)
    (is_due due.failure after) end
    → RaisesClock end before after → after < 2 ^ 64 - 1 → HasFallen due.stop before after
fallen-stop Fine due before after is due_then rises below = absurd (cc is)
fallen-stop AtFault due before after is due_then rises below = absurd (cc is)
fallen-stop AtStop due before after is due_then rises below = record { at = due-at due.stop after due_then; rose = rises below }

pub shows-made : (obeys : Bool) (n : ℕ) (e : Event) (old new : DiskSeen) (end : End) (made : ℕ) → shows_fault n e ≡ is_fault end
    → shows_stop n e ≡ is_stop end → due_behind n e old.counts.clock old.due ≡ old.due → DeviceCalls made old.counts new.counts end
    → ObeyedIn obeys old new end → RaisesClock end old.counts.clock new.counts.clock → ShowsCounts obeys n e old new
shows-made obeys n e old new end made fault stop still d o rises = record {
  faults = d.faults ∙ fault-count end (shows_fault n e) old.counts.faults fault;
  stops = d.stops ∙ stop-count end (shows_stop n e) old.counts.stops stop;
  clock = omega (arith, d.clock);
  wants = wants_rise old.counts.wants new.counts.wants end d.wants;
  due = λ does. (o does).kept ∙ sym still;
  fault_due = λ does t shown. fallen-fault end old.due old.counts.clock new.counts.clock (sym fault ∙ shown)
      ((o does).fell t.wants t.wants_told t.below) rises t.below;
  stop_due = λ does t shown. fallen-stop end old.due old.counts.clock new.counts.clock (sym stop ∙ shown)
      ((o does).fell t.wants t.wants_told t.below) rises t.below;
}

-- 2. A turn of the store

own-node : (m n : ℕ) → m ≡ n → (m == n) ≡ true
own-node m n same = eq-eqb m n same

store-fault : (n : ℕ) (u : Uid) (c : ℕ) (how : RequestEnd) (p : Option Pick) → u.node ≡ n
    → shows_fault n (event.Store u c how p) ≡ is_fault (call_of_request how)
store-fault n u c end.Part p own = refl
store-fault n u c end.Done p own = refl
store-fault n u c end.Fault p own = own-node u.node n own
store-fault n u c end.Full p own = refl
store-fault n u c end.Stop p own = refl

store-stop : (n : ℕ) (u : Uid) (c : ℕ) (how : RequestEnd) (p : Option Pick) → u.node ≡ n
    → shows_stop n (event.Store u c how p) ≡ is_stop (call_of_request how)
store-stop n u c end.Part p own = refl
store-stop n u c end.Done p own = refl
store-stop n u c end.Fault p own = refl
store-stop n u c end.Full p own = refl
store-stop n u c end.Stop p own = own-node u.node n own

pub shows-store : (obeys : Bool) (n : ℕ) (u : Uid) (c : ℕ) (how : RequestEnd) (p : Option Pick) (old new : DiskSeen) (made : ℕ) → u.node ≡ n
    → DeviceCalls made old.counts new.counts (call_of_request how)
    → ObeyedIn obeys old new (call_of_request how) → RaisesClock (call_of_request how) old.counts.clock new.counts.clock
    → ShowsCounts obeys n (event.Store u c how p) old new
shows-store obeys n u c how p old new made own d o rises = shows-made obeys n (event.Store u c how p) old new (call_of_request how) made
    (store-fault n u c how p own) (store-stop n u c how p own) refl d o rises

-- its request is of the node
pub first-own : (n : ℕ) (asked : List Request) (u : Uid) → AllOfNode n asked → IsFirstAsked asked u → u.node ≡ n
first-own n [] u all is = absurd is
first-own n (q ∷ qs) u all is = ap (λ (v : Uid). v.node) (sym is) ∙ all.0.0.0

pub ended-own : (n : ℕ) (asked left : List Request) (q : Request) → AllOfNode n asked → asked ≡ q ∷ left → q.uid.node ≡ n
ended-own n asked left q all is = (subst (AllOfNode n) is all).0.0.0

-- 3. An activation

start-fault : (n : ℕ) (u : Uid) (how : StartEnd) (p : Option Pick) → u.node ≡ n
    → shows_fault n (event.Activate u how p) ≡ is_fault (call_of_start how)
start-fault n u start_end.Ok p own = refl
start-fault n u start_end.Gone p own = refl
start-fault n u start_end.Fault p own = own-node u.node n own
start-fault n u start_end.Damaged p own = refl
start-fault n u start_end.Stop p own = refl

start-stop : (n : ℕ) (u : Uid) (how : StartEnd) (p : Option Pick) → u.node ≡ n
    → shows_stop n (event.Activate u how p) ≡ is_stop (call_of_start how)
start-stop n u start_end.Ok p own = refl
start-stop n u start_end.Gone p own = refl
start-stop n u start_end.Fault p own = refl
start-stop n u start_end.Damaged p own = refl
start-stop n u start_end.Stop p own = own-node u.node n own

stops-started : (how : StartEnd) (n : ℕ) → stops_after (call_of_start how) n ≡ stops_behind (behind_start how) n
stops-started start_end.Ok n = refl
stops-started start_end.Gone n = refl
stops-started start_end.Fault n = refl
stops-started start_end.Damaged n = refl
stops-started start_end.Stop n = refl

pub stops-start : (how : StartEnd) (before after : Counts) → MakesCalls before after (call_of_start how)
    → StopsBy (behind_start how) before after
stops-start how before after d = d.counts.stops ∙ stops-started how before.stops

pub shows-start : (obeys : Bool) (n : ℕ) (u : Uid) (how : StartEnd) (p : Option Pick) (old new : DiskSeen) → u.node ≡ n
    → MakesCalls old.counts new.counts (call_of_start how)
    → ObeyedIn obeys old new (call_of_start how) → RaisesClock (call_of_start how) old.counts.clock new.counts.clock
    → ShowsCounts obeys n (event.Activate u how p) old new
shows-start obeys n u how p old new own d o rises = shows-made obeys n (event.Activate u how p) old new (call_of_start how) d.made
    (start-fault n u how p own) (start-stop n u how p own) refl d.counts o rises

-- 4. A boot

boot-fault : (n e : ℕ) (how : BootEnd) (p : Option Pick) (began : Bool)
    → shows_fault n (event.Boot n e how p began) ≡ is_fault (call_of_fall (Some how))
boot-fault n e boot_end.Up p began = refl
boot-fault n e boot_end.DiskFault p began = own-node n n refl
boot-fault n e boot_end.Stop p began = refl
boot-fault n e (boot_end.Damaged place) p began = refl
boot-fault n e boot_end.EpochsSpent p began = refl
boot-fault n e boot_end.Full p began = refl

boot-stop : (n e : ℕ) (how : BootEnd) (p : Option Pick) (began : Bool)
    → shows_stop n (event.Boot n e how p began) ≡ is_stop (call_of_fall (Some how))
boot-stop n e boot_end.Up p began = refl
boot-stop n e boot_end.DiskFault p began = refl
boot-stop n e boot_end.Stop p began = own-node n n refl
boot-stop n e (boot_end.Damaged place) p began = refl
boot-stop n e boot_end.EpochsSpent p began = refl
boot-stop n e boot_end.Full p began = refl

unpowered : (made : ℕ) (before after : Counts) (end : End) → DeviceCalls made (powered before) after end → DeviceCalls made before after end
unpowered made before after end d = record {
  size = d.size;
  power = d.power;
  clock = d.clock;
  faults = d.faults;
  stops = d.stops;
  wants = d.wants;
  counted = d.counted;
}

pub none-falls : (made : ℕ) (before after : Counts) (end : End) → DeviceCalls made before after end → NoneFalls before after
none-falls made before after end d = record {
  clock = omega (arith, d.clock);
  faults = go end d.faults;
  stops = stop end d.stops;
  wants = wants_rise before.wants after.wants end d.wants;
}
  where
    go : (k : End) → after.faults ≡ faults_after k before.faults → before.faults ≤ after.faults
    go Fine is = omega (arith, is)
    go AtFault is = omega (arith, is)
    go AtStop is = omega (arith, is)

    stop : (k : End) → after.stops ≡ stops_after k before.stops → before.stops ≤ after.stops
    stop Fine is = omega (arith, is)
    stop AtFault is = omega (arith, is)
    stop AtStop is = omega (arith, is)

-- by device calls, none of which changes what is armed
pub left-behind : (obeys : Bool) (made : ℕ) (old new : DiskSeen) (end : End) → DeviceCalls made old.counts new.counts end
    → ObeyedIn obeys old new end → IsLeftOf obeys old new
left-behind obeys made old new end calls obeyed = record {
  counts = none-falls made old.counts new.counts end calls;
  due = λ does. (obeyed does).kept;
}

-- by none
pub left-still : (obeys : Bool) (old new : DiskSeen) → new ≡ old → IsLeftOf obeys old new
left-still obeys old new same = subst (IsLeftOf obeys old) (sym same) (record {
  counts = record { clock = omega arith; faults = omega arith; stops = omega arith; wants = omega arith };
  due = λ does. refl;
})

pub shows-boot : (obeys : Bool) (n : ℕ) (how : BootEnd) (note : BootNote) (old new : DiskSeen)
    → MakesCalls (powered old.counts) new.counts (call_of_fall (Some how))
    → ObeyedIn obeys old new (call_of_fall (Some how)) → RaisesClock (call_of_fall (Some how)) old.counts.clock new.counts.clock
    → ShowsCounts obeys n (boot_event n how note) old new
shows-boot obeys n how note old new d o rises = shows-made obeys n (boot_event n how note) old new (call_of_fall (Some how)) d.made
    (boot-fault n note.epoch how note.pick note.began) (boot-stop n note.epoch how note.pick note.began) refl
    (unpowered d.made old.counts new.counts (call_of_fall (Some how)) d.counts) o rises

pub shows-fall : (obeys : Bool) (n : ℕ) (how : Option BootEnd) (note : BootNote) (old new : DiskSeen)
    → MakesCalls (powered old.counts) new.counts (call_of_fall how)
    → ObeyedIn obeys old new (call_of_fall how) → RaisesClock (call_of_fall how) old.counts.clock new.counts.clock
    → FallShows obeys n how note old new
shows-fall obeys n None note old new d o rises =
    left-behind obeys d.made old new (call_of_fall None) (unpowered d.made old.counts new.counts (call_of_fall None) d.counts) o
shows-fall obeys n (Some how) note old new d o rises = shows-boot obeys n how note old new d o rises

-- 5. What makes no device call

-- an event that shows nothing of the disk, whose counts stay
pub shows-none : (obeys : Bool) (n : ℕ) (e : Event) (old new : DiskSeen) → shows_fault n e ≡ false → shows_stop n e ≡ false
    → new.counts.faults ≡ old.counts.faults → new.counts.stops ≡ old.counts.stops → new.counts.clock ≡ old.counts.clock
    → new.counts.wants ≡ old.counts.wants → (IsTrue obeys → new.due ≡ due_behind n e old.counts.clock old.due)
    → ShowsCounts obeys n e old new
shows-none obeys n e old new fault stop faults stops clock wants due = record {
  faults = faults ∙ ap (λ b. count_behind b old.counts.faults) (sym fault);
  stops = stops ∙ ap (λ b. count_behind b old.counts.stops) (sym stop);
  clock = omega (arith, clock);
  wants = omega (arith, wants);
  due = due;
  fault_due = λ does t shown. absurd (let bad : false ≡ true = sym fault ∙ shown in cc bad);
  stop_due = λ does t shown. absurd (let bad : false ≡ true = sym stop ∙ shown in cc bad);
}

pub shows-crash : (obeys : Bool) (n : ℕ) (old new : DiskSeen) → new.counts ≡ record old.counts { power = false } → new.due ≡ old.due
    → ShowsCounts obeys n (event.Crash n) old new
shows-crash obeys n old new counts due = shows-none obeys n (event.Crash n) old new refl refl (ap (λ (k : Counts). k.faults) counts)
    (ap (λ (k : Counts). k.stops) counts) (ap (λ (k : Counts). k.clock) counts) (ap (λ (k : Counts). k.wants) counts) (λ does. due)

pub shows-armed : (obeys : Bool) (n : ℕ) (what : Arm) (old new : DiskSeen) → new.counts ≡ old.counts
    → (IsTrue obeys → new.due ≡ armed what old.counts.clock old.due) → ShowsCounts obeys n (event.Armed n what) old new
shows-armed obeys n what old new counts due = shows-none obeys n (event.Armed n what) old new refl refl
    (ap (λ (k : Counts). k.faults) counts) (ap (λ (k : Counts). k.stops) counts)
    (ap (λ (k : Counts). k.clock) counts) (ap (λ (k : Counts). k.wants) counts)
    (λ does. due does ∙ ap (λ b. cond b (armed what old.counts.clock old.due) old.due) (sym (own-node n n refl)))
