-- What the turns of a node show of its disk.
use Rattle.std.specs.Prelude.{ℕ, Bool, Option, None, Some}
use Rattle.eden_disk.specs.Calls.{End, Fine}
use Rattle.passive_store.specs.Seen.{DiskSeen}
use Rattle.journal.specs.declared.event.BootEnd.{BootEnd}
use Rattle.journal.specs.declared.event.Event.{Event}
use Rattle.journal.specs.declared.event.Event.TheVariants as event
use Rattle.disk_faults.specs.Shows.{IsLeftOf, ShowsCounts}
use Rattle.checkpoint.specs.Starting.{call_of_start}
use Rattle.checkpoint.specs.declared.up.BootNote.{BootNote}
use Rattle.eden_kernel.specs.DiskTurns.{call_of_request}

-- the event of a boot, which its caller writes
abbrev pub boot_event : ℕ → BootEnd → BootNote → Event
boot_event n how note = event.Boot n note.epoch how note.pick note.began

-- what it shows of one that did not bring its node up; where there was no memory there is no event, and its disk is left
abbrev pub FallShows : Bool → ℕ → Option BootEnd → BootNote → DiskSeen → DiskSeen → Type 0
FallShows obeys n None note old new = IsLeftOf obeys old new
FallShows obeys n (Some how) note old new = ShowsCounts obeys n (boot_event n how note) old new

-- how the last device call of a turn ended, as its event shows it
abbrev pub call_of_event : Event → End
call_of_event (event.Store u clock how p) = call_of_request how
call_of_event (event.Activate u how p) = call_of_start how
call_of_event _ = Fine
