-- Which entries show a failed or a stopped device call of a node's disk, how many, and which command asked for it.
use Rattle.std.specs.Prelude.{◌≡◌, ℕ, ◌+◌, ◌-◌, ◌^◌, ◌==◌, ◌≤◌, ◌<◌, Bool, true, false, cond, List, [], ◌∷◌, Option, None, Some}
use Rattle.std.specs.Prelude.{IsSomeAnd, IfSome, IsTrue}
use Rattle.eden_model.specs.Map.{with_item, or_else}
use Rattle.eden_disk.specs.declared.disk.Arm.{Arm}
use Rattle.eden_disk.specs.declared.disk.Arm.TheVariants as arm
use Rattle.eden_disk.specs.Calls.{Due}
use Rattle.journal.specs.declared.event.Event.{Event}
use Rattle.journal.specs.declared.event.Event.TheVariants as event
use Rattle.journal.specs.declared.event.Entry.{Entry}
use Rattle.journal.specs.declared.event.BootEnd.TheVariants as boot_end
use Rattle.journal.specs.declared.event.StartEnd.TheVariants as start_end
use Rattle.journal.specs.declared.event.RequestEnd.TheVariants as request_end
use Rattle.journal.specs.Run.{Step, EachStep}
use Rattle.journal.specs.Standing.{DiskRun}

-- 1. Entries that show a failure or a stop, on node n

-- a boot, an activation or a store's turn of node n that a failed device call ended
abbrev pub shows_fault : ℕ → Event → Bool
shows_fault n (event.Boot m e boot_end.DiskFault p began) = m == n
shows_fault n (event.Activate u start_end.Fault p) = u.node == n
shows_fault n (event.Store u c request_end.Fault p) = u.node == n
shows_fault n _ = false

-- a boot, an activation or a store's turn of node n in which its disk stopped
abbrev pub shows_stop : ℕ → Event → Bool
shows_stop n (event.Boot m e boot_end.Stop p began) = m == n
shows_stop n (event.Activate u start_end.Stop p) = u.node == n
shows_stop n (event.Store u c request_end.Stop p) = u.node == n
shows_stop n _ = false

-- how many entries pass a test
abbrev pub number_of : (Event → Bool) → List Entry → ℕ
number_of test [] = 0
number_of test (e ∷ es) = cond (test e.event) 1 0 + number_of test es

-- 2. Their number, by the counts of the disk

-- a count that does not stand at the greatest number of 64 bits has risen by exactly so many
abbrev pub RoseBy : ℕ → ℕ → ℕ → Type 0
RoseBy shown before after = after < 2 ^ 64 - 1 → after ≡ before + shown

-- by so many or more
abbrev pub RoseByAtLeast : ℕ → ℕ → ℕ → Type 0
RoseByAtLeast shown before after = after < 2 ^ 64 - 1 → before + shown ≤ after

-- Each fault of the disk of node n is shown by an entry of its own, and each such entry shows one: none is made up, and none is hidden.
-- So it is with each stop.
pub record ShowsEach (history : List Entry) (n : ℕ) (d : DiskRun) : Type 0 where
  -- the count of faults rose by the number of entries that show one, unless it ended at its greatest number
  pub faults : RoseBy (number_of (shows_fault n) history) d.first.faults d.last.faults
  -- the count of stops by the number of those that show a stop, with the same exception
  pub stops : RoseBy (number_of (shows_stop n) history) d.first.stops d.last.stops

-- None is made up. One may be hidden: a device call that found no memory is a fault as well, and it may have ended the run.
pub record ShowsNoMore (history : List Entry) (n : ℕ) (d : DiskRun) : Type 0 where
  -- the count of faults rose by no fewer than the entries that show one, unless it ended at its greatest number
  pub faults : RoseByAtLeast (number_of (shows_fault n) history) d.first.faults d.last.faults
  -- the count of stops by no fewer than those that show a stop, with the same exception
  pub stops : RoseByAtLeast (number_of (shows_stop n) history) d.first.stops d.last.stops

-- 3. The command that asked for it; the past has the newest step first

-- how many device calls later a failure is asked for; none where it is a stop
abbrev pub fail_after : Arm → Option ℕ
fail_after (arm.Fail k) = Some k
fail_after (arm.Stop k mode) = None

-- how many device calls later a stop is asked for; none where it is a failure
abbrev pub stop_after : Arm → Option ℕ
stop_after (arm.Fail k) = None
stop_after (arm.Stop k mode) = Some k

-- the clock at which what the event arms on node n falls due; None where it arms nothing of this sort there
abbrev pub due_clock : (Arm → Option ℕ) → ℕ → Entry → Event → Option ℕ
due_clock after n e (event.Armed m what) = cond (m == n) (with_item (after what) (λ k. Some (e.clock + k)) None) None
due_clock after n e _ = None

-- that of the last request of this sort on node n
abbrev pub last_due : (Arm → Option ℕ) → ℕ → List Step → Option ℕ
last_due after n [] = None
last_due after n (s ∷ past) = or_else (due_clock after n s.entry s.entry.event) (last_due after n past)

-- the clock of the last entry on node n, or that with which the disk was handed in
abbrev pub clock_of : ℕ → ℕ → List Step → ℕ
clock_of n began [] = began
clock_of n began (s ∷ past) = cond (s.entry.node == n) s.entry.clock (clock_of n began past)

-- where an entry shows one (true), the last request of this sort fell due in it: past the clock before it, and at just the one it shows
abbrev pub IsAsked : (Arm → Option ℕ) → Bool → ℕ → ℕ → List Step → Step → Type 0
IsAsked after false n began past s = Unit {0}
IsAsked after true n began past s = IsSomeAnd (last_due after n past) (λ due. (clock_of n began past < due) × (due ≡ s.entry.clock))

-- a fault or a stop that the entry shows on node n has the command that asked for it; this is asked of obedient disks alone
pub record HasItsCommand (n began : ℕ) (past : List Step) (s : Step) : Type 0 where
  -- where the entry shows a fault, the last `fail` before it on this node fell due in it
  pub fault : IsAsked fail_after (shows_fault n s.entry.event) n began past s
  -- where it shows a stop, the last `stop` before it on this node did
  pub stop : IsAsked stop_after (shows_stop n s.entry.event) n began past s

-- An obedient disk: it does what is asked of it, nothing that was asked before it was handed in is still to come, its clock has not
-- reached its end, and no device call of it wanted memory.
pub record IsObedient (d : DiskRun) : Type 0 where
  -- the disk does what `fail` and `stop` ask
  pub obeys : IsTrue d.obeys
  -- a failure that was asked for before it was handed in was due by its first clock
  pub no_failure : IfSome d.due.failure (λ clock. clock ≤ d.first.clock)
  -- and so was a stop
  pub no_stop : IfSome d.due.stop (λ clock. clock ≤ d.first.clock)
  -- its clock did not come to 2^64 - 1, where it stands still
  pub below : d.last.clock < 2 ^ 64 - 1
  -- the count of device calls that found no memory did not rise
  pub no_wants : d.last.wants ≡ d.first.wants
  -- and it began below its end, at which it could not have risen
  pub wants_told : d.first.wants < 2 ^ 64 - 1

-- of an obedient disk each fault and each stop that an entry of its node shows has its command
abbrev pub EachHasItsCommand : List Step → ℕ → DiskRun → Type 0
EachHasItsCommand run n d = IsObedient d → EachStep (HasItsCommand n d.first.clock) [] run

-- a power cut of node n, or an arming of its disk: these make no device call
abbrev pub makes_no_call : ℕ → Event → Bool
makes_no_call n (event.Crash m) = m == n
makes_no_call n (event.Armed m what) = m == n
makes_no_call n _ = false

-- such an entry shows just the clock of the entry before it on the disk, so that what is asked for is counted from there
abbrev pub ShowsClockBefore : ℕ → ℕ → List Step → Step → Type 0
ShowsClockBefore n began past s = IsTrue (makes_no_call n s.entry.event) → s.entry.clock ≡ clock_of n began past

-- each of them
abbrev pub EachShowsClockBefore : List Step → ℕ → DiskRun → Type 0
EachShowsClockBefore run n d = EachStep (ShowsClockBefore n d.first.clock) [] run

-- 4. What is asked for at the end

-- the steps with the newest in front, before a past
abbrev pub past_of : List Step → List Step → List Step
past_of past [] = past
past_of past (s ∷ run) = past_of (s ∷ past) run

-- what falls due on node n behind these steps: what the last request of its sort asked for, or what was to come as the disk was handed in
abbrev pub due_left : ℕ → Due → List Step → Due
due_left n first run = record {
  failure = or_else (last_due fail_after n (past_of [] run)) first.failure;
  stop = or_else (last_due stop_after n (past_of [] run)) first.stop;
}

-- a disk that does what is asked of it is given back with what the entries asked, and with nothing else
abbrev pub IsLeftArmed : List Step → ℕ → DiskRun → Type 0
IsLeftArmed run n d = IsTrue d.obeys → d.left ≡ due_left n d.due run
