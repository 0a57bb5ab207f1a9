-- What each entry of a run does to a node's disk, so that the disk stands for the run at every moment.
use Rattle.std.specs.Prelude.{◌≡◌, ℕ, ◌<◌, ◌≤◌, ◌==◌, true, false, List, [], ◌∷◌}
use Rattle.eden_disk.specs.Told.{Told, contents, LeavesOnly, EachMoment}
use Rattle.eden_disk.specs.Moments.{LeftAfter}
use Rattle.eden_disk.specs.Timed.{Timed}
use Rattle.passive_store.specs.Kept.{Layout}
use Rattle.journal.specs.declared.event.Entry.{Entry}
use Rattle.journal.specs.World.{World}
use Rattle.journal.specs.Run.{Position, Step, steps, end_of}
use Rattle.journal.specs.Standing.{Standing, Stands, StandsThroughout, DiskRun, Added, state, epoch_put, with_changes}

-- 1. One entry

-- the state of a node in the middle of a step: that before it, and the epoch that a boot puts may be there too
abbrev pub state_in : ℕ → Step → Standing
state_in n s = with_changes (epoch_put n s.world s.entry.event) (state s.world n)

-- What a step does to the disk of node n: from what it told at one clock to what it told at another.
pub record StepOnDisk (layout : Layout) (n : ℕ) (s : Step) (old : Told) (before : ℕ) (new : Told) (after : ℕ) : Type 0 where
  pub timed : Timed before old after new
  -- an entry on the disk shows its clock, and one elsewhere leaves it
  pub shown : (s.entry.node == n) ≡ true → s.entry.clock ≡ after
  pub elsewhere : (s.entry.node == n) ≡ false → after ≡ before
  -- with device calls: a crash at each moment of them leaves only what stands for the state in the step
  pub moments : before < after → EachMoment (Stands layout n (state_in n s)) old new
  -- and one behind the last of them only what stands for the state behind the step
  pub behind : before < after → (image : List ℕ) → LeftAfter old before new after image → Stands layout n (state s.later n) image
  -- without one, what stood goes on standing: all that may come then are power cuts
  pub level : after ≡ before → (image : List ℕ) → Stands layout n (state s.world n) image → Stands layout n (state s.later n) image

-- 2. All entries of a run, one behind the other

-- from what the disk told at one clock to what it told at another
abbrev pub RunOnDisk : Layout → ℕ → List Step → Told → ℕ → Told → ℕ → Type 0
RunOnDisk layout n [] old before new after = (new ≡ old) × (after ≡ before)
RunOnDisk layout n (s ∷ run) old before new after =
    (mid : Told) × (between : ℕ) × StepOnDisk layout n s old before mid between × RunOnDisk layout n run mid between new after

-- what comes behind the last entry, where want of memory ended the run: a crash at each moment of it leaves only what stands for
-- the last state, with what was added
pub record EndsOnDisk (layout : Layout) (n : ℕ) (last : World) (added : Added) (old : Told) (before : ℕ) (new : Told)
    (after : ℕ) : Type 0 where
  pub timed : Timed before old after new
  pub moments : (m : ℕ) → before < m → m ≤ after → EachMoment (Stands layout n (with_changes (added n m) (state last n))) old new

-- 3. The law: so the disk stands for the run throughout

-- at the start a crash leaves only what stands for the first state
abbrev pub StandsFirst : Layout → ℕ → World → Told → Type 0
StandsFirst layout n w told = LeavesOnly (Stands layout n (state w n)) (contents told)

-- where each entry does to the disk what its step says, and what comes behind the last one what the end says
abbrev pub RunsStand : Type 0
RunsStand = (layout : Layout) (n : ℕ) (p : Position) (history : List Entry) (added : Added) (d : DiskRun) (last : Told) (clock : ℕ)
    → StandsFirst layout n p.world d.before
    → RunOnDisk layout n (steps p history) d.before d.first.clock last clock
    → EndsOnDisk layout n (end_of p history).world added last clock d.after d.last.clock
    → StandsThroughout layout (end_of p history).world (steps p history) added n d
