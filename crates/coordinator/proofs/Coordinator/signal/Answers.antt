use Rattle.std.proofs.Common.{refl, sym, ◌∙◌, ◌≤◌, ◌-◌, ℕ, map, length}
use Rattle.std.specs.Prelude.{slice_set}
use Rattle.eden_model.specs.Crew.{condition}
use Rattle.eden_model.proofs.CrewLaws.{signalled-lines}
use Rattle.coordinator.specs.View.{view_of, condition_of}
use Rattle.coordinator.proofs.Crews.{found, condition-within, conditions-kept, signals-some, signals-none}
use Rattle.coordinator.proofs.Kept.{kept, entry-room, signalled-out}
use Rattle.coordinator.proofs.Order.{ascend-as, ascend-signalled}
use Rattle.coordinator.proofs.Coordinator.signal.Goals as goal

pub join-requires-clause-room : goal.join-requires-clause-room
join-requires-clause-room c =
    let a = c.self.inside in
    let within = rw (← c.self.view_is) at c.requires.within in
    let is = found a.conditions.items c.args.condition c.index_mut-target.result.now
    (condition-within a.limits a.slots.items a.monitors.items a.conditions.items c.args.condition within)
    c.index_mut-target.ensures.value in
    let two = signalled-out a c.self.invariant c.args.condition c.in-Some.next c.index_mut-target.result.now is
    (sym c.in-Some.ensures.first) in
    entry-room a c.self.invariant c.in-Some.next (condition c.args.condition) two.0 two.1 (c.index_mut-target.result.now.monitor - 1)

pub invariant_of-self : goal.invariant_of-self
invariant_of-self c =
    let a = c.self.inside in
    let within = rw (← c.self.view_is) at c.requires.within in
    let is = found a.conditions.items c.args.condition c.index_mut-target.result.now
    (condition-within a.limits a.slots.items a.monitors.items a.conditions.items c.args.condition within)
    c.index_mut-target.ensures.value in
    let crew = c.join.ensures.crew a.limits (map condition_of
    (slice_set a.conditions.items c.args.condition (record {
      monitor = c.index_mut-target.result.now.monitor;
      waiters =
          c.pop.new.self;
    })))
    ∙ signals-some a.limits a.slots.items a.monitors.items a.conditions.items c.index_mut-target.result.now
    (record { monitor = c.index_mut-target.result.now.monitor; waiters = c.pop.new.self }) c.args.condition c.in-Some.next is
    (sym c.in-Some.ensures.first) (rw (← c.in-Some.ensures.rest) refl) in
    kept a _ c.self.invariant refl c.join.ensures.slots c.join.ensures.monitors
    (conditions-kept a.limits a.slots.items a.monitors.items a.conditions.items (λ (m : ℕ). (1 ≤ m) × (m ≤ length a.monitors.items))
    c.index_mut-target.result.now _ c.args.condition is refl c.self.invariant.monitors)
    (rw crew (signalled-lines (view_of a).crew c.self.invariant.lines c.args.condition
    (λ it h. (c.self.invariant.monitors c.args.condition it h).0)))
    (ascend-as _ _ crew (ascend-signalled 0 c.args.condition (view_of a).crew c.self.invariant.ascend))

pub returns-in-Some : goal.returns-in-Some
returns-in-Some c =
    let a = c.self.inside in
    let within = rw (← c.self.view_is) at c.requires.within in
    let is = found a.conditions.items c.args.condition c.index_mut-target.result.now
    (condition-within a.limits a.slots.items a.monitors.items a.conditions.items c.args.condition within)
    c.index_mut-target.ensures.value in
    let crew = c.join.ensures.crew a.limits (map condition_of
    (slice_set a.conditions.items c.args.condition (record {
      monitor = c.index_mut-target.result.now.monitor;
      waiters =
          c.pop.new.self;
    })))
    ∙ signals-some a.limits a.slots.items a.monitors.items a.conditions.items c.index_mut-target.result.now
    (record { monitor = c.index_mut-target.result.now.monitor; waiters = c.pop.new.self }) c.args.condition c.in-Some.next is
    (sym c.in-Some.ensures.first) (rw (← c.in-Some.ensures.rest) refl) in
    rw (← c.self.view_is, crew) refl

pub returns-in_default : goal.returns-in_default
returns-in_default c =
    let a = c.self.inside in
    let within = rw (← c.self.view_is) at c.requires.within in
    let is = found a.conditions.items c.args.condition c.index_mut-target.result.now
    (condition-within a.limits a.slots.items a.monitors.items a.conditions.items c.args.condition within)
    c.index_mut-target.ensures.value in
    let crew = signals-none a.limits a.slots.items a.monitors.items a.conditions.items c.index_mut-target.result.now
    (record { monitor = c.index_mut-target.result.now.monitor; waiters = c.pop.new.self }) c.args.condition is
    (sym c.in_default.ensures.first) (rw (← c.in_default.ensures.rest) refl) in
    rw (← c.self.view_is, crew) refl
