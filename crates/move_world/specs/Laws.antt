-- What holds of every log.
use Rattle.std.specs.Prelude.{◌≢◌, ℕ, List, [], ◌∷◌, None}
use Rattle.capability.specs.declared.Uid.{Uid}
use Rattle.eden_value.specs.Datum.{Datum}
use Rattle.move_laws.specs.Wander.{IsFresh}
use Rattle.move_laws.specs.OneHolder.{OneHolder, NotLost}
use Rattle.move_laws.specs.World.{World, Run, view}
use Rattle.eden_move.specs.Records.{is_long}
use Rattle.move_world.specs.Commands.{Command, wakes}
use Rattle.move_world.specs.Logs.{Answer, Shows, Entry, Log, IsLegalMove, all_entries, blank_world}

-- The worlds of a log are a run from the blank world.
abbrev pub LogsAreRuns : Type 0
LogsAreRuns = (log : Log) (l : IsLegalMove log) → Run is_long blank_world l.worlds

-- In this world each Eject has at most one holder, and is kept wherever a node keeps a record of it.
pub record HoldsOnce (w : World Datum) : Type 0 where
  pub one : (u : Uid) → OneHolder (view u w)
  pub kept : (n : ℕ) (u : Uid) → ((view u w).site n).kept ≢ None → NotLost (view u w)

-- so it is in each of some worlds
abbrev pub AllHoldOnce : List (World Datum) → Type 0
AllHoldOnce [] = Unit {0}
AllHoldOnce (x ∷ xs) = HoldsOnce x × AllHoldOnce xs

-- in each world of a log, and so at each moment between two commands
abbrev pub LogsHoldOnce : Type 0
LogsHoldOnce = (log : Log) (l : IsLegalMove log) → AllHoldOnce l.worlds

-- each value that a waking gave is, in the world behind it, the last that was acknowledged, or one that was cut short since
abbrev pub ShowsFresh : Command → Answer → World Datum → Type 0
ShowsFresh (wakes n u) (Shows v) x = IsFresh (view u x) v
ShowsFresh _ a x = Unit {0}

abbrev pub AllShowFresh : List Entry → List (World Datum) → Type 0
AllShowFresh (e ∷ es) (x ∷ xs) = ShowsFresh e.command e.answer x × AllShowFresh es xs
AllShowFresh _ xs = Unit {0}

abbrev pub LogsShowFresh : Type 0
LogsShowFresh = (log : Log) (l : IsLegalMove log) → AllShowFresh (all_entries log) l.worlds
