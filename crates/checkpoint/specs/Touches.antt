-- Where a call of this crate makes device calls, and what of its disk is due in them.
use Rattle.std.specs.Prelude.{◌↔◌, ℕ, ◌-◌, ◌^◌, ◌≤◌, ◌<◌, Bool, true, false, cond, IsTrue, is_some, List, Some}
use Rattle.capability.specs.declared.Uid.{Uid}
use Rattle.eden_disk.specs.Calls.{Counts, DeviceCalls, End, Fine, AtFault, AtStop, Obeyed}
use Rattle.passive_store.specs.Kept.{Layout, Kept, Work, is_unsettled, body_at}
use Rattle.passive_store.specs.Seen.{Seen, DiskSeen}
use Rattle.journal.specs.World.{Site, StoreRequest}
use Rattle.journal.specs.Step.{touches_start, touches_store}
use Rattle.checkpoint.specs.Asked.{StandsNow, requests_of, end_of_step}
use Rattle.checkpoint.specs.declared.worker.Request.{Request}
use Rattle.checkpoint.specs.declared.worker.StepEnd.{StepEnd}

-- 1. Where device calls are made

-- a device call that was refused was made
abbrev pub IsMade : End → ℕ → Type 0
IsMade Fine made = Unit {0}
IsMade AtFault made = 1 ≤ made
IsMade AtStop made = 1 ≤ made

-- Device calls were made exactly where `touches` says so. None of them but the last was refused, and without one none was. So it is at the
-- last clock too, where a device call raises no clock.
pub record Touches (touches : Bool) (before after : Counts) (end : End) : Type 0 where
  pub made : ℕ
  pub exactly : IsTrue touches ↔ (1 ≤ made)
  pub refused : IsMade end made
  pub counts : DeviceCalls made before after end

-- 2. A step

-- one, or none
abbrev pub calls_in : Bool → ℕ
calls_in true = 1
calls_in false = 0

-- one device call where `touches` says so, and none else
pub record TouchesOnce (touches : Bool) (before after : Counts) (end : End) : Type 0 where
  pub refused : IsMade end (calls_in touches)
  pub counts : DeviceCalls (calls_in touches) before after end

-- A step makes one exactly where the turn of the store does, at each site for which the store stands, while its room is told.
abbrev pub StepTouches : Layout → List Request → Seen → Seen → StepEnd → Type 0
StepTouches layout asked x y result = (s : Site) → 1 ≤ x.more → StandsNow layout x.node s (requests_of x.work asked) x
    → TouchesOnce (touches_store s) x.disk.counts y.disk.counts (end_of_step result)

-- 3. An activation

-- what is kept is read by a device call or more
abbrev pub ReadsByCalls : Layout → Type 0
ReadsByCalls layout = (body : List ℕ) → 1 ≤ layout.reading_calls (Some body)

-- a store makes some where it settles first, or where something is kept to be read
abbrev pub calls_to_start : Work → Kept → Uid → Bool
calls_to_start work kept u = cond (is_unsettled work) true (is_some (body_at kept u))

-- An activation makes some exactly where that of the node does, at each site for which the store stands.
abbrev pub StartTouches : Layout → Uid → Seen → Seen → End → Type 0
StartTouches layout u x y end = (s : Site) (requests : List StoreRequest) → StandsNow layout x.node s requests x
    → Touches (touches_start s u) x.disk.counts y.disk.counts end

-- 4. What was due

-- Of a disk that obeys: what was refused was due, at the clock of the last call; and nothing was asked of it or forgotten.
abbrev pub ObeyedIn : Bool → DiskSeen → DiskSeen → End → Type 0
ObeyedIn obeys old new end = IsTrue obeys → Obeyed old.due new.due old.counts new.counts end

-- A refusal is that of a device call, so below the last clock the clock rose.
abbrev pub RaisesClock : End → ℕ → ℕ → Type 0
RaisesClock Fine before after = Unit {0}
RaisesClock AtFault before after = after < 2 ^ 64 - 1 → before < after
RaisesClock AtStop before after = after < 2 ^ 64 - 1 → before < after
