use Rattle.std.proofs.Common.{rules, ◌∙◌, ap}
use Rattle.lossy_wire.specs.Held.{held_due}
use Rattle.lossy_wire.proofs.Keeping.{due_same}
use Rattle.lossy_wire.proofs.Slots.{at_slot}
use Rattle.lossy_wire.proofs.ends.Ends.again.Goals as goal

pub returns : goal.returns
returns c =
    let ends = c.self.inside.ends.items in
    let es = c.args.self.now in
    λ w k. c.due.ensures ∙ ap held_due (at_slot es ends c.args.a c.args.b c.slot.result _ _ (search rules) c.slot.ensures.place
    c.slot.ensures.within c.self.invariant c.index.ensures) ∙ due_same es w k c.args.a c.args.b
