use Rattle.std.proofs.Common.{refl, map, ◌==◌, not, arith}
use Rattle.coordinator.specs.declared.slots.Slot.{Slot}
use Rattle.coordinator.proofs.Table.{length-filter_le}
use Rattle.coordinator.specs.View.{view_of, condition_of}
use Rattle.eden_model.proofs.FreeNumbers.{ended-lines}
use Rattle.coordinator.proofs.Kept.{kept-fewer}
use Rattle.coordinator.proofs.Order.{ascend-as, ascend-ended}
use Rattle.coordinator.proofs.Crews.{ended-done}
use Rattle.coordinator.proofs.Coordinator.end.Goals as goal

pub invariant_of-self : goal.invariant_of-self
invariant_of-self c =
    let a = c.self.inside in
    let runs = rw (← c.self.view_is) at c.requires in
    let crew = ended-done a.limits (map condition_of a.conditions.items) a.slots.items a.monitors.items c.args.process _ _ _
    (c.pass_on_all.ensures.crew a.limits (map condition_of a.conditions.items)) c.remove_slot.ensures in
    kept-fewer a _ c.self.invariant refl (rw c.remove_slot.ensures
    (omega (
      arith,
      length-filter_le (λ (s : Slot). not (s.number == c.args.process)) c.pass_on_all.new.slots.items,
      c.pass_on_all.ensures.slots,
    ))) c.pass_on_all.ensures.monitors c.self.invariant.monitors
    (rw crew (ended-lines (view_of a).crew c.self.invariant.lines c.args.process runs))
    (ascend-as _ _ crew (ascend-ended 0 c.args.process (view_of a).crew c.self.invariant.ascend))

pub returns : goal.returns
returns c =
    let a = c.self.inside in
    let crew = ended-done a.limits (map condition_of a.conditions.items) a.slots.items a.monitors.items c.args.process _ _ _
    (c.pass_on_all.ensures.crew a.limits (map condition_of a.conditions.items)) c.remove_slot.ensures in
    rw (← c.self.view_is, crew) refl
