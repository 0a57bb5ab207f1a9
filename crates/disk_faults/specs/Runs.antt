-- What the entries of a run show of the disk of a node, one behind the other.
use Rattle.std.specs.Prelude.{◌≡◌, ◌==◌, ℕ, Bool, true, false, List, [], ◌∷◌, IsTrue}
use Rattle.passive_store.specs.Seen.{DiskSeen}
use Rattle.journal.specs.declared.event.Entry.{Entry}
use Rattle.journal.specs.Run.{Position, Step, steps}
use Rattle.journal.specs.Standing.{DiskRun}
use Rattle.journal.specs.Faults.{ShowsEach, ShowsNoMore, EachHasItsCommand, EachShowsClockBefore, IsLeftArmed, makes_no_call}
use Rattle.disk_faults.specs.Shows.{ShowsCounts, NoneFalls}

-- 1. The entries

-- an entry and the disk of node n, before it and behind it
pub record EntryShows (obeys : Bool) (n : ℕ) (e : Entry) (old new : DiskSeen) : Type 0 where
  pub shows : ShowsCounts obeys n e.event old new
  -- on the disk it shows its clock, and elsewhere it leaves that
  pub shown : (e.node == n) ≡ true → e.clock ≡ new.counts.clock
  pub elsewhere : (e.node == n) ≡ false → new.counts.clock ≡ old.counts.clock
  -- an arming shows the clock from which it is counted, and a power cut the clock that the disk has
  pub counted : IsTrue (makes_no_call n e.event) → e.clock ≡ old.counts.clock

-- all entries of a run, from what is seen of the disk at the first to what is seen of it at the end
abbrev pub RunShows : Bool → ℕ → List Step → DiskSeen → DiskSeen → Type 0
RunShows obeys n [] old new = new ≡ old
RunShows obeys n (s ∷ run) old new = (mid : DiskSeen) × EntryShows obeys n s.entry old mid × RunShows obeys n run mid new

-- 2. The laws

-- a disk as it was handed in
abbrev pub handed_in : DiskRun → DiskSeen
handed_in d = record { counts = d.first; told = d.before; due = d.due }

-- A disk given back behind the last entry: its faults are shown, and have their commands.
abbrev pub RunsShowFaults : Type 0
RunsShowFaults = (n : ℕ) (p : Position) (history : List Entry) (d : DiskRun) (last : DiskSeen)
    → RunShows d.obeys n (steps p history) (handed_in d) last → last.counts ≡ d.last
    → ShowsEach history n d × EachHasItsCommand (steps p history) n d

-- one with which something was done besides, where want of memory ended the run
abbrev pub RunsShowNoMore : Type 0
RunsShowNoMore = (n : ℕ) (p : Position) (history : List Entry) (d : DiskRun) (last : DiskSeen)
    → RunShows d.obeys n (steps p history) (handed_in d) last → NoneFalls last.counts d.last
    → ShowsNoMore history n d × EachHasItsCommand (steps p history) n d

-- An arming and a power cut show the clock of the disk before them, whatever became of it behind the last entry.
abbrev pub RunsShowClocks : Type 0
RunsShowClocks = (n : ℕ) (p : Position) (history : List Entry) (d : DiskRun) (last : DiskSeen)
    → RunShows d.obeys n (steps p history) (handed_in d) last → EachShowsClockBefore (steps p history) n d

-- A disk that is given back with what was to fall due behind the last entry is armed as the entries asked; of one that does not obey
-- nothing is asked.
abbrev pub RunsLeaveArmed : Type 0
RunsLeaveArmed = (n : ℕ) (p : Position) (history : List Entry) (d : DiskRun) (last : DiskSeen)
    → RunShows d.obeys n (steps p history) (handed_in d) last → (IsTrue d.obeys → last.due ≡ d.left)
    → IsLeftArmed (steps p history) n d
