-- Each process is in the monitor that it is inside of: it holds it, or waits to enter it, or waits on a condition of it. No other does.
-- And a turn touches no variable of a monitor that its process does not hold.
use Rattle.std.specs.Prelude.{◌≡◌, ℕ, suc, ◌-◌, ◌==◌, Bool, false, not, ◌||◌, List, [], ◌∷◌, Option, None, Some, cond, slice_get}
use Rattle.std.specs.Prelude.{IsSomeAnd, IfSome}
use Rattle.std.specs.Ordering.{nat_cmp}
use Rattle.capability.specs.declared.Uid.{Uid}
use Rattle.eden_value.specs.Datum.{Datum}
use Rattle.eden_model.specs.Map.{with_item, value_at, same_uid}
use Rattle.eden_model.specs.Crew.{Waiting, entry, condition, Monitor, Crew, Process as Worker, is_held_by, Holds}
use Rattle.epl_syntax.specs.Edentype.{declared}
use Rattle.epl_syntax.specs.Tree.{TypeTree, Variable}
use Rattle.epl_syntax.specs.Meaning.{Turned}
use Rattle.epl_syntax.specs.Monitors.{inside_rest, SameWhere}
use Rattle.journal.specs.declared.event.Event.{Event}
use Rattle.journal.specs.declared.event.Event.TheVariants as event
use Rattle.journal.specs.World.{World, Active, Task, eject_at}
use Rattle.journal.specs.Processes.{turn_of}

-- 1. Places

-- the number of the first of these monitors that process p holds, where they are numbered from n on; None where it holds none of them
abbrev pub held_from : ℕ → ℕ → List Monitor → Option ℕ
held_from p n [] = None
held_from p n (m ∷ ms) = cond (is_held_by p m.holder) (Some n) (held_from p (suc n) ms)

-- the monitor that a process holds, or is to hold once it goes on
abbrev pub monitor_for : Crew → ℕ → Waiting → Option ℕ
monitor_for crew p (entry m) = Some m
monitor_for crew p (condition c) = with_item (slice_get crew.conditions c) (λ it. Some it.monitor) None
monitor_for crew p _ = held_from p 1 crew.monitors

-- each process is inside of the monitor that it holds, or is to hold once it goes on, and of no other
pub record IsInItsMonitor (it : Active) : Type 0 where
  -- what is left to do of each process is inside of the monitor that it holds, or is to hold once it goes on; else of none
  pub each : (p : ℕ) (t : Task) (q : Worker) → value_at nat_cmp p it.tasks ≡ Some t → value_at nat_cmp p it.crew.processes ≡ Some q
      → inside_rest t.rest ≡ monitor_for it.crew p q.waits
  -- where a process holds a monitor, what is left to do of it is inside of that one
  pub only : (p m : ℕ) (t : Task) → Holds it.crew p m → value_at nat_cmp p it.tasks ≡ Some t → inside_rest t.rest ≡ Some m

-- so it is in each active part of a world
abbrev pub AreInTheirMonitors : World → Type 0
AreInTheirMonitors w = (u : Uid) → IfSome (eject_at w u) (λ e. IfSome e.active IsInItsMonitor)

-- 2. Turns

-- whether a process holds this monitor, of those that are counted from 1
abbrev pub holds : Crew → ℕ → ℕ → Bool
holds crew p m = with_item (slice_get crew.monitors (m - 1)) (λ it. is_held_by p it.holder) false

-- whether a process may touch a variable: it is of no monitor, or of one that the process holds
abbrev pub may_touch : Crew → ℕ → Variable → Bool
may_touch crew p v = (v.monitor == 0) || holds crew p v.monitor

-- whether it may not: it is of a monitor that the process does not hold
abbrev pub may_not_touch : Crew → ℕ → Variable → Bool
may_not_touch crew p v = not (may_touch crew p v)

-- the same active part with other values of its variables
abbrev pub with_vars : List Datum → Active → Active
with_vars vars it = record it { vars = vars }

-- From these other values of variables that it may not touch, a process comes to the same: the same rest and the same effect, the same
-- values of the variables that it may touch, and the others as they were.
pub record ComesToTheSame (crew : Crew) (p : ℕ) (t : TypeTree) (now : Turned) (others : List Datum) (instead : Turned) : Type 0 where
  -- the variables that the process may touch end with the same values
  pub touched : SameWhere (may_touch crew p) t.vars now.vars instead.vars
  -- the variables that it may not touch keep the other values from which it began
  pub untouched : SameWhere (may_not_touch crew p) t.vars others instead.vars
  -- the same is left to do
  pub rest : instead.rest ≡ now.rest
  -- the turn ends in the same effect
  pub effect : instead.effect ≡ now.effect

-- What this process of an active part comes to in its turn: each variable of a monitor that it does not hold is as it was, and was not
-- read, since from other values of such variables the process comes to the same.
pub record TouchesItsOwn (u : Uid) (p : ℕ) (it : Active) (t : TypeTree) (now : Turned) : Type 0 where
  -- the variables that the process may not touch have the values that they had before the turn
  pub changes_no_other : SameWhere (may_not_touch it.crew p) t.vars it.vars now.vars
  -- whatever other values those have before it, the turn comes to the same
  pub reads_no_other : (others : List Datum) → SameWhere (may_touch it.crew p) t.vars it.vars others
      → IsSomeAnd (turn_of u (with_vars others it) p) (ComesToTheSame it.crew p t now others)

-- in its turn this process of an active part touches no variable of a monitor that it does not hold, where its type is a declared one
abbrev pub KeepsMonitors : Uid → ℕ → Active → Type 0
KeepsMonitors u p it = (t : TypeTree) → it.kind ≡ declared t → IsSomeAnd (turn_of u it p) (TouchesItsOwn u p it t)

-- the active part of an Eject of a world, if it has one
abbrev pub active_at : World → Uid → Option Active
active_at w u = with_item (eject_at w u) (λ e. e.active) None

-- so it is with an event that is the turn of a process, by the world before it; of other events nothing is asked
abbrev pub EventKeepsMonitors : World → Event → Type 0
EventKeepsMonitors w (event.Process u p said) = IsSomeAnd (active_at w u) (KeepsMonitors u p)
EventKeepsMonitors w _ = Unit {0}

-- 3. Entries

-- the process of this Eject whose turn an event is, if it is one
abbrev pub whose_turn : Uid → Event → Option ℕ
whose_turn u (event.Process v p said) = cond (same_uid u v) (Some p) None
whose_turn u _ = None

-- What stays of the values of an active part: all of them, and in the turn of one of its processes those of the variables of monitors that
-- the process does not hold.
abbrev pub Leaves : Option ℕ → Active → List Datum → Type 0
Leaves None it later = later ≡ it.vars
Leaves (Some p) it later = (t : TypeTree) → it.kind ≡ declared t → SameWhere (may_not_touch it.crew p) t.vars it.vars later

-- and so of each Eject that is active before an event and after it
abbrev pub LeavesVariables : World → Event → World → Type 0
LeavesVariables w e later = (u : Uid) (it after : Active) → active_at w u ≡ Some it → active_at later u ≡ Some after
    → Leaves (whose_turn u e) it after.vars
