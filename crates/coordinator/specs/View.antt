-- A coordinator's fields as the crew and its queue.
use Rattle.std.specs.Prelude.{ℕ, List, map}
use Rattle.std.specs.Option.{option_map}
use Rattle.eden_model.specs.Crew.{Crew, Coordination, Process, Monitor, Condition, Invocation, Waiting, nothing, outside, entry, condition}
use Rattle.eden_model.specs.Crew.{Setup}
use Rattle.coordinator.specs.declared.slots.Slot.{Slot}
use Rattle.coordinator.specs.declared.slots.Serving.{Serving}
use Rattle.coordinator.specs.declared.slots.Waits.{Waits}
use Rattle.coordinator.specs.declared.slots.Waits.TheVariants as waits
use Rattle.coordinator.specs.declared.monitors.Monitor.{Monitor as MonitorParts}
use Rattle.coordinator.specs.declared.monitors.Condition.{Condition as ConditionParts}
use Rattle.coordinator.specs.declared.parts.Setup.{Setup as Layout}
use Rattle.coordinator.specs.declared.Coordinator.TheInside.{Inside}

-- what a process waits for
abbrev pub waiting_of : Waits → Waiting
waiting_of waits.Nothing = nothing
waiting_of waits.Outside = outside
waiting_of (waits.Entry m) = entry m
waiting_of (waits.Condition c) = condition c

-- an invocation that is queued or served
abbrev pub invocation_of : Serving → Invocation
invocation_of s = record { call = s.call; class = s.class }

-- a process under its number
abbrev pub process_of : Slot → ℕ × Process
process_of s = (s.number, record { serves = option_map invocation_of s.serves; waits = waiting_of s.waits })

-- a monitor, with its holder and its entry queue
abbrev pub monitor_of : MonitorParts → Monitor
monitor_of g = record { holder = g.holder; entering = g.entering }

-- a condition, with its monitor and its waiters
abbrev pub condition_of : ConditionParts → Condition
condition_of b = record { monitor = b.monitor; waiters = b.waiters }

-- the processes, monitors and conditions, and the limits of the classes
abbrev pub crew_of : List ℕ → List Condition → List Slot → List MonitorParts → Crew
crew_of limits conditions slots monitors = record {
  limits = limits;
  processes = map process_of slots;
  monitors = map monitor_of monitors;
  conditions = conditions;
}

-- all of a coordinator
abbrev pub view_of : Inside → Coordination
view_of a = record {
  crew = crew_of a.limits (map condition_of a.conditions.items) a.slots.items a.monitors.items;
  queued = a.queued;
}

-- how the active part is laid out
abbrev pub setup_of : Layout → Setup
setup_of s = record { limits = s.limits; declared = s.declared; monitors = s.monitors; conditions = s.conditions }
