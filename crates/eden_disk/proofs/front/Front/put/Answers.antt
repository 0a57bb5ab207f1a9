use Rattle.std.proofs.Common.{List, ℕ, ap, sym, refl, ◌∙◌, arith}
use Rattle.eden_disk.specs.Told.{overlay}
use Rattle.eden_disk.specs.Fronts.{Fronted}
use Rattle.eden_disk.proofs.Fronts.{zeros_written, zero_of}
use Rattle.eden_disk.proofs.front.Front.put.Goals as goal

pub returns-then-are_zeros-clause-bytes : goal.returns-then-are_zeros-clause-bytes
returns-then-are_zeros-clause-bytes c =
    let held : List ℕ = c.self.inside.bytes.items in
    let bytes : List ℕ = c.args.bytes.now in
    sym (ap (λ (i : Fronted). i.bytes) c.self.view_is)
    ∙ sym (zeros_written held bytes c.self.inside.size c.args.at
    (omega (arith, c.if-len-from.true, c.len.ensures, c.self.inside.bytes.ok.0))
    (omega (arith, c.requires, ap (λ (i : Fronted). i.reach) c.self.view_is, c.self.invariant.reach_within))
    (λ k. zero_of bytes k (c.if-are_zeros.ensures refl)))
    ∙ ap (λ (i : Fronted). overlay c.args.at bytes i.bytes) c.self.view_is
