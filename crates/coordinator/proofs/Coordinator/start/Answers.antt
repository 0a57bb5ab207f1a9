use Rattle.std.proofs.Common.{◌≡◌, ◌<◌, ◌==◌, not, refl, map, length, arith}
use Rattle.std.proofs.lemmas.List.{length-map}
use Rattle.eden_model.specs.Crew.{Invocation, started}
use Rattle.eden_model.proofs.FreeNumbers.{least_free-free, started-lines}
use Rattle.coordinator.specs.View.{view_of, process_of, monitor_of, condition_of, invocation_of, crew_of}
use Rattle.coordinator.proofs.Order.{ascend-as, ascend-started}
use Rattle.coordinator.proofs.Table.{length-filter_le}
use Rattle.coordinator.proofs.Coordinator.start.Goals as goal

pub insert_slot-requires : goal.insert_slot-requires
insert_slot-requires c =
    let a = c.self.inside in
    let few : length a.slots.items < 16 = rw c.deref.ensures.value at c.in-Some.ensures.few in
    rw (c.least_free-process.ensures, c.deref-in-Some.ensures.value)
    (least_free-free (view_of a).crew (omega (arith, few, length-map a.slots.items process_of)))

pub invariant_of-self-in-Some : goal.invariant_of-self-in-Some
invariant_of-self-in-Some c =
    let a = c.self.inside in
    let few : length a.slots.items < 16 = rw c.deref.ensures.value at c.in-Some.ensures.few in
    let crew : crew_of a.limits (map condition_of a.conditions.items) c.insert_slot.new.slots.items a.monitors.items ≡ started
    (invocation_of c.in-Some.next) (view_of a).crew
    = rw (c.in_ok-insert_slot-in-Some.ensures.slots, c.least_free-process.ensures, c.deref-in-Some.ensures.value) refl in
    record {
      lines = rw crew (started-lines (view_of a).crew c.self.invariant.lines (invocation_of c.in-Some.next)
          (omega (arith, few, length-map a.slots.items process_of)));
      monitors = c.self.invariant.monitors;
      few_monitors = c.self.invariant.few_monitors;
      few_slots = omega (arith, c.in_ok-insert_slot-in-Some.ensures.len, few);
      few_queued = rw c.remove.ensures (omega (
        arith,
        length-filter_le (λ (i : Invocation). not (i.call == c.in-Some.next.call)) a.queued,
        c.self.invariant.few_queued,
      ));
      ascend = ascend-as _ _ crew (ascend-started (invocation_of c.in-Some.next) (view_of a).crew
          (omega (arith, few, length-map a.slots.items process_of)) c.self.invariant.ascend);
    }

pub returns-in_ok-insert_slot-in-Some-clause-after : goal.returns-in_ok-insert_slot-in-Some-clause-after
returns-in_ok-insert_slot-in-Some-clause-after c =
    let a = c.self.inside in
    let next = rw (c.deref.ensures.value, c.as_slice.ensures) at
    (c.in-Some.ensures.found (map monitor_of a.monitors.items) (map condition_of a.conditions.items)) in
    let crew : crew_of a.limits (map condition_of a.conditions.items) c.insert_slot.new.slots.items a.monitors.items ≡ started
    (invocation_of c.in-Some.next) (view_of a).crew
    = rw (c.in_ok-insert_slot-in-Some.ensures.slots, c.least_free-process.ensures, c.deref-in-Some.ensures.value) refl in
    rw (← c.self.view_is, ← next) (rw (crew, c.remove.ensures) refl)
