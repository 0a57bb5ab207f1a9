use Rattle.std.proofs.Common.{refl, ◌≤◌, ℕ, map, length}
use Rattle.std.proofs.lemmas.List.{length-map}
use Rattle.eden_model.proofs.CrewLaws.{waited-lines}
use Rattle.coordinator.specs.View.{view_of, condition_of}
use Rattle.coordinator.proofs.Crews.{found, at-condition, condition-within, conditions-kept, waits-done}
use Rattle.coordinator.proofs.Kept.{kept, waiters-room}
use Rattle.coordinator.proofs.Order.{ascend-as, ascend-waited}
use Rattle.coordinator.proofs.Coordinator.wait.Goals as goal

pub push-requires : goal.push-requires
push-requires c =
    let a = c.self.inside in
    let runs = rw (← c.self.view_is) at c.requires.runs in
    let within = rw (← c.self.view_is) at c.requires.within in
    let is = found a.conditions.items c.args.condition c.index_mut-target.result.now
    (condition-within a.limits a.slots.items a.monitors.items a.conditions.items c.args.condition within)
    c.index_mut-target.ensures.value in
    waiters-room a c.self.invariant c.args.process runs c.args.condition c.index_mut-target.result.now is

pub pass_on-requires-clause-from : goal.pass_on-requires-clause-from
pass_on-requires-clause-from c =
    let a = c.self.inside in
    let within = rw (← c.self.view_is) at c.requires.within in
    let is = found a.conditions.items c.args.condition c.index_mut-target.result.now
    (condition-within a.limits a.slots.items a.monitors.items a.conditions.items c.args.condition within)
    c.index_mut-target.ensures.value in
    (c.self.invariant.monitors c.args.condition (condition_of c.index_mut-target.result.now)
    (at-condition a.limits a.slots.items a.monitors.items a.conditions.items c.index_mut-target.result.now c.args.condition is)).0

pub pass_on-requires-clause-to : goal.pass_on-requires-clause-to
pass_on-requires-clause-to c =
    let a = c.self.inside in
    let within = rw (← c.self.view_is) at c.requires.within in
    let is = found a.conditions.items c.args.condition c.index_mut-target.result.now
    (condition-within a.limits a.slots.items a.monitors.items a.conditions.items c.args.condition within)
    c.index_mut-target.ensures.value in
    (c.self.invariant.monitors c.args.condition (condition_of c.index_mut-target.result.now)
    (at-condition a.limits a.slots.items a.monitors.items a.conditions.items c.index_mut-target.result.now c.args.condition is)).1

pub invariant_of-self : goal.invariant_of-self
invariant_of-self c =
    let a = c.self.inside in
    let runs = rw (← c.self.view_is) at c.requires.runs in
    let within = rw (← c.self.view_is) at c.requires.within in
    let is = found a.conditions.items c.args.condition c.index_mut-target.result.now
    (condition-within a.limits a.slots.items a.monitors.items a.conditions.items c.args.condition within)
    c.index_mut-target.ensures.value in
    let crew = waits-done a.limits a.slots.items a.monitors.items a.conditions.items c.index_mut-target.result.now
    (record { monitor = c.index_mut-target.result.now.monitor; waiters = c.push.new.self }) c.args.process c.args.condition _ _ _
    is (rw c.push.ensures refl) (c.pass_on.ensures.crew a.limits (map condition_of a.conditions.items)) c.set_slots.ensures in
    kept a _ c.self.invariant refl (rw (c.set_slots.ensures, length-map) c.pass_on.ensures.slots) c.pass_on.ensures.monitors
    (conditions-kept a.limits a.slots.items a.monitors.items a.conditions.items (λ (m : ℕ). (1 ≤ m) × (m ≤ length a.monitors.items))
    c.index_mut-target.result.now _ c.args.condition is refl c.self.invariant.monitors)
    (rw crew (waited-lines (view_of a).crew c.self.invariant.lines c.args.process c.args.condition runs))
    (ascend-as _ _ crew (ascend-waited 0 c.args.process c.args.condition (view_of a).crew c.self.invariant.ascend))

pub returns : goal.returns
returns c =
    let a = c.self.inside in
    let within = rw (← c.self.view_is) at c.requires.within in
    let is = found a.conditions.items c.args.condition c.index_mut-target.result.now
    (condition-within a.limits a.slots.items a.monitors.items a.conditions.items c.args.condition within)
    c.index_mut-target.ensures.value in
    let crew = waits-done a.limits a.slots.items a.monitors.items a.conditions.items c.index_mut-target.result.now
    (record { monitor = c.index_mut-target.result.now.monitor; waiters = c.push.new.self }) c.args.process c.args.condition _ _ _
    is (rw c.push.ensures refl) (c.pass_on.ensures.crew a.limits (map condition_of a.conditions.items)) c.set_slots.ensures in
    rw (← c.self.view_is, crew) refl
