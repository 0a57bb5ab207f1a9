-- What an event shows of the disk of a node: each of its faults and stops, and that it was due. No world is in it.
use Rattle.std.specs.Prelude.{◌≡◌, ◌<◌, ◌≤◌, ◌-◌, ◌^◌, ◌==◌, ℕ, Bool, false, cond, IsTrue, Option, Some}
use Rattle.eden_disk.specs.Calls.{Counts, Due, one_more, armed}
use Rattle.passive_store.specs.Seen.{DiskSeen}
use Rattle.journal.specs.Faults.{shows_fault, shows_stop}
use Rattle.journal.specs.declared.event.Event.{Event}
use Rattle.journal.specs.declared.event.Event.TheVariants as event

-- a count behind an event that shows one more, or none; at the greatest number it stands still
abbrev pub count_behind : Bool → ℕ → ℕ
count_behind shown count = cond shown (one_more count) count

-- an event that arms the disk of node n
abbrev pub arms : ℕ → Event → Bool
arms n (event.Armed m what) = m == n
arms n _ = false

-- what falls due behind an event: an arming of this disk asks for it, and nothing else asks or forgets
abbrev pub due_behind : ℕ → Event → ℕ → Due → Due
due_behind n (event.Armed m what) clock due = cond (m == n) (armed what clock due) due
due_behind n _ clock due = due

-- it was due at the later of two clocks
pub record HasFallen (due : Option ℕ) (before after : ℕ) : Type 0 where
  pub at : due ≡ Some after
  pub rose : before < after

-- no device call wanted memory, as far as can be told, and the clock is below its end
pub record IsTelling (before after : Counts) : Type 0 where
  pub wants : after.wants ≡ before.wants
  pub wants_told : before.wants < 2 ^ 64 - 1
  pub below : after.clock < 2 ^ 64 - 1

-- What happens to the disk of node n in an event, from what is seen of it before to what is seen of it behind. Its count of faults rises
-- by one exactly where the event shows a fault of n, and that of stops likewise; where the disk obeys, what is shown was due then.
pub record ShowsCounts (obeys : Bool) (n : ℕ) (e : Event) (old new : DiskSeen) : Type 0 where
  pub faults : new.counts.faults ≡ count_behind (shows_fault n e) old.counts.faults
  pub stops : new.counts.stops ≡ count_behind (shows_stop n e) old.counts.stops
  pub clock : old.counts.clock ≤ new.counts.clock
  pub wants : old.counts.wants ≤ new.counts.wants
  pub due : IsTrue obeys → new.due ≡ due_behind n e old.counts.clock old.due
  pub fault_due : IsTrue obeys → IsTelling old.counts new.counts → IsTrue (shows_fault n e)
      → HasFallen old.due.failure old.counts.clock new.counts.clock
  pub stop_due : IsTrue obeys → IsTelling old.counts new.counts → IsTrue (shows_stop n e)
      → HasFallen old.due.stop old.counts.clock new.counts.clock

-- No count falls. So it is where there was no memory for a turn, whose device calls may have been made.
pub record NoneFalls (before after : Counts) : Type 0 where
  pub clock : before.clock ≤ after.clock
  pub faults : before.faults ≤ after.faults
  pub stops : before.stops ≤ after.stops
  pub wants : before.wants ≤ after.wants

-- What is left of a disk where there was no memory for a turn of its node: no count fell, and if it obeys it is armed as before.
pub record IsLeftOf (obeys : Bool) (old new : DiskSeen) : Type 0 where
  pub counts : NoneFalls old.counts new.counts
  pub due : IsTrue obeys → new.due ≡ old.due
