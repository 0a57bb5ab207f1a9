use Rattle.std.proofs.Common.{refl, map}
use Rattle.eden_model.proofs.CrewLaws.{left-lines}
use Rattle.coordinator.specs.View.{view_of, condition_of}
use Rattle.coordinator.proofs.Kept.{kept}
use Rattle.coordinator.proofs.Order.{ascend-as, ascend-left}
use Rattle.coordinator.proofs.Coordinator.leave.Goals as goal

pub invariant_of-self : goal.invariant_of-self
invariant_of-self c =
    let a = c.self.inside in
    kept a _ c.self.invariant refl c.pass_on.ensures.slots c.pass_on.ensures.monitors c.self.invariant.monitors
    (rw (c.pass_on.ensures.crew a.limits (map condition_of a.conditions.items))
    (left-lines (view_of a).crew c.self.invariant.lines c.args.monitor))
    (ascend-as _ _ (c.pass_on.ensures.crew a.limits (map condition_of a.conditions.items))
    (ascend-left 0 c.args.monitor (view_of a).crew c.self.invariant.ascend))
