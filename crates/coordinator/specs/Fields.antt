-- What the small functions of a coordinator do to its fields.
use Rattle.std.specs.Prelude.{ℕ, ◌==◌, ◌<◌, ◌&&◌, cond, Bool, false, nat_lt, List, Option, Some, None, length, slice_get, slice_index}
use Rattle.std.specs.Prelude.{count_by, IfSome}
use Rattle.std.specs.Option.{option_map}
use Rattle.eden_model.specs.Crew.{Process, Invocation, nothing}
use Rattle.coordinator.specs.declared.slots.Slot.{Slot}
use Rattle.coordinator.specs.declared.slots.Serving.{Serving}
use Rattle.coordinator.specs.declared.slots.Waits.{Waits}
use Rattle.coordinator.specs.declared.monitors.Monitor.{Monitor as MonitorParts}
use Rattle.coordinator.specs.View.{invocation_of, waiting_of}
use Rattle.coordinator.specs.Ready.{is_ready}

-- the slot of the process with what it waits for
abbrev pub with_slot : ℕ → Waits → Slot → Slot
with_slot p w s = cond (s.number == p) (record s { waits = w }) s

-- an invocation of this class is served
abbrev pub is_class : ℕ → Option Serving → Bool
is_class c None = false
is_class c (Some s) = s.class == c

-- the process serves an invocation of this class
abbrev pub slot_serves : ℕ → Slot → Bool
slot_serves c s = is_class c s.serves

-- fewer of its class run than the limit says
abbrev pub next_serving : List Slot → List ℕ → Invocation → Bool
next_serving slots limits i = nat_lt (count_by (slot_serves i.class) slots) (slice_index limits i.class)

-- a process that serves the invocation and waits for nothing
abbrev pub started_slot : Serving → Process
started_slot s = record { serves = Some (invocation_of s); waits = nothing }

-- the entry queue has a place
abbrev pub EntryRoom : List MonitorParts → ℕ → Type 0
EntryRoom monitors i = IfSome (slice_get monitors i) (λ g. length g.entering < 16)

-- a process that serves a call, with the call
abbrev pub slot_pair : Slot → Option (ℕ × ℕ)
slot_pair slot = option_map (λ (s : Serving). (slot.number, s.call)) slot.serves

-- the process has a number past n and waits for nothing
abbrev pub is_slot_past : ℕ → Slot → Bool
is_slot_past n s = nat_lt n s.number && is_ready (waiting_of s.waits)
