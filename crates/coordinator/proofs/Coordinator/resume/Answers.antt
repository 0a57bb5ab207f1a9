use Rattle.std.proofs.Common.{refl}
use Rattle.std.proofs.lemmas.List.{length-map}
use Rattle.eden_model.specs.Crew.{nothing}
use Rattle.eden_model.proofs.CrewLaws.{waits-changed, out-outside}
use Rattle.coordinator.specs.declared.slots.Waits.TheVariants as waits
use Rattle.coordinator.specs.View.{view_of}
use Rattle.coordinator.proofs.Table.{slots-wait}
use Rattle.coordinator.proofs.Kept.{kept}
use Rattle.coordinator.proofs.Order.{ascend-waits}
use Rattle.coordinator.proofs.Coordinator.resume.Goals as goal

pub invariant_of-self : goal.invariant_of-self
invariant_of-self c =
    let a = c.self.inside in
    let runs = rw (← c.self.view_is) at c.requires in
    let lines = waits-changed (view_of a).crew c.self.invariant.lines c.args.process nothing
    (out-outside (view_of a).crew c.self.invariant.lines c.args.process runs) in
    kept a _ c.self.invariant refl (rw (c.set_slots.ensures, length-map) refl) refl c.self.invariant.monitors
    (rw (c.set_slots.ensures, slots-wait c.args.process waits.Nothing a.slots.items) lines)
    (rw (c.set_slots.ensures, slots-wait c.args.process waits.Nothing a.slots.items)
    (ascend-waits c.args.process nothing 0 (view_of a).crew.processes c.self.invariant.ascend))

pub returns : goal.returns
returns c = rw (← c.self.view_is, c.set_slots.ensures, slots-wait c.args.process waits.Nothing c.self.inside.slots.items) refl
