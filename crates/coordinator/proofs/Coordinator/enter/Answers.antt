use Rattle.std.proofs.Common.{refl, map, ◌-◌}
use Rattle.eden_model.specs.Crew.{nothing}
use Rattle.eden_model.proofs.CrewLaws.{locked-lines, out-runs}
use Rattle.coordinator.specs.View.{view_of, condition_of}
use Rattle.coordinator.proofs.Kept.{kept, entry-room}
use Rattle.coordinator.proofs.Order.{ascend-as, ascend-locked}
use Rattle.coordinator.proofs.Coordinator.enter.Goals as goal

pub admit-requires-clause-room : goal.admit-requires-clause-room
admit-requires-clause-room c =
    let a = c.self.inside in
    let runs = rw (← c.self.view_is) at c.requires.runs in
    entry-room a c.self.invariant c.args.process nothing (out-runs (view_of a).crew c.self.invariant.lines c.args.process runs).entering
    runs (c.args.monitor - 1)

pub invariant_of-self : goal.invariant_of-self
invariant_of-self c =
    let a = c.self.inside in
    let runs = rw (← c.self.view_is) at c.requires.runs in
    kept a _ c.self.invariant refl c.admit.ensures.slots c.admit.ensures.monitors c.self.invariant.monitors
    (rw (c.admit.ensures.crew a.limits (map condition_of a.conditions.items))
    (locked-lines (view_of a).crew c.self.invariant.lines c.args.process c.args.monitor runs c.requires.from))
    (ascend-as _ _ (c.admit.ensures.crew a.limits (map condition_of a.conditions.items))
    (ascend-locked 0 c.args.process c.args.monitor (view_of a).crew c.self.invariant.ascend))

pub returns-clause-held : goal.returns-clause-held
returns-clause-held c = rw (← c.self.view_is) (c.admit.ensures.held c.self.inside.limits (map condition_of c.self.inside.conditions.items))
