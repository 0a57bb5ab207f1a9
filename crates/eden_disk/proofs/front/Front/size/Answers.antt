use Rattle.std.proofs.Common.{length, sym, ap, ◌∙◌, arith}
use Rattle.eden_disk.specs.Fronts.{Fronted}
use Rattle.eden_disk.proofs.Fronts.{length-with_zeros}
use Rattle.eden_disk.proofs.front.Front.size.Goals as goal

pub returns : goal.returns
returns c =
    sym (length-with_zeros c.self.inside.bytes.items c.self.inside.size
    (omega (arith, c.self.invariant.held_within, c.self.invariant.reach_within)))
    ∙ ap (λ (i : Fronted). length i.bytes) c.self.view_is
