use Rattle.std.proofs.Common.{◌-◌, length, ap, ◌∙◌, arith}
use Rattle.eden_disk.specs.Fronts.{Fronted}
use Rattle.eden_disk.proofs.Fronts.{padded}
use Rattle.eden_disk.proofs.front.Front.hold.Goals as goal

pub returns-clause-bytes : goal.returns-clause-bytes
returns-clause-bytes c =
    padded c.self.inside.bytes.items c.pad.new.bytes.items (c.args.upto - length c.self.inside.bytes.items) c.self.inside.size
    c.pad.ensures.items
    (omega (arith, c.requires, ap (λ (i : Fronted). i.reach) c.self.view_is, c.self.invariant.held_within, c.self.invariant.reach_within))
    ∙ ap (λ (i : Fronted). i.bytes) c.self.view_is
