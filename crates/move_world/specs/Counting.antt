-- How often the disks of nodes failed and stopped, by the answers of a log.
use Rattle.std.specs.Prelude.{ℕ, ◌+◌, ◌==◌, List, [], ◌∷◌, if◌then◌else◌}
use Rattle.eden_value.specs.Datum.{Datum}
use Rattle.eden_disk.specs.Calls.{End, Fine, AtFault, AtStop, Counts, faults_after, stops_after}
use Rattle.passive_store.specs.declared.store.StoreRefusal.TheVariants as store
use Rattle.move_laws.specs.World.{Ended, Refused, Answered, Fault, Stopped}
use Rattle.move_world.specs.Commands.{Command, makes, wakes, saves, moves, repeats, carries, crashes, restarts, fails, stops}
use Rattle.move_world.specs.Logs.{Answer, Ends, Shows, Comes, NoLetter, WrongState, Up, Down, Done, Entry}

-- 1. Answers

-- how the last device call of a call ended, by how the call did
abbrev pub end_how : Ended Datum → End
end_how (Refused Fault) = AtFault
end_how (Refused Stopped) = AtStop
end_how (Refused r) = Fine
end_how (Answered put post) = Fine

-- that of a command, by its answer
abbrev pub end_in : Answer → End
end_in (Ends how) = end_how how
end_in (Shows v) = Fine
end_in (Comes u l how) = end_how how
end_in NoLetter = Fine
end_in WrongState = Fine
end_in Up = Fine
end_in (Down store.Failed) = AtFault
end_in (Down store.Stopped) = AtStop
end_in (Down e) = Fine
end_in Done = Fine

-- the node on which a command is carried out
abbrev pub node_of : Command → ℕ
node_of (makes n serial v) = n
node_of (wakes n u) = n
node_of (saves n u v) = n
node_of (moves n u to) = n
node_of (repeats n u) = n
node_of (carries a b i) = b
node_of (crashes n how) = n
node_of (restarts n) = n
node_of (fails n after) = n
node_of (stops n after how) = n

-- how the last device call on the disk of a node ended; a command of another node leaves it alone
abbrev pub end_at : ℕ → Entry → End
end_at n e = if n == node_of e.command then end_in e.answer else Fine

-- 2. Counts of a disk

-- how often a disk failed, and how often it stopped
pub record Refusals : Type 0 where
  pub faults : ℕ
  pub stops : ℕ

abbrev pub refusals : ℕ → ℕ → Refusals
refusals f s = record { faults = f; stops = s }

abbrev pub refusals_in : Counts → Refusals
refusals_in c = refusals c.faults c.stops

-- behind a command that ended so
abbrev pub refusals_after : End → Refusals → Refusals
refusals_after end r = refusals (faults_after end r.faults) (stops_after end r.stops)

-- behind these commands, on the disk of node n
abbrev pub refusals_behind : ℕ → List Entry → Refusals → Refusals
refusals_behind n [] r = r
refusals_behind n (e ∷ es) r = refusals_behind n es (refusals_after (end_at n e) r)

-- 3. Counts of a log

abbrev pub fault_of : End → ℕ
fault_of Fine = 0
fault_of AtFault = 1
fault_of AtStop = 0

abbrev pub stop_of : End → ℕ
stop_of Fine = 0
stop_of AtFault = 0
stop_of AtStop = 1

-- how many of these commands were answered with a fault of the disk of node n
abbrev pub faults_told : ℕ → List Entry → ℕ
faults_told n [] = 0
faults_told n (e ∷ es) = fault_of (end_at n e) + faults_told n es

-- and how many with its stop
abbrev pub stops_told : ℕ → List Entry → ℕ
stops_told n [] = 0
stops_told n (e ∷ es) = stop_of (end_at n e) + stops_told n es
