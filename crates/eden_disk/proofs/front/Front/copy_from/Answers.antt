use Rattle.std.proofs.Common.{◌-◌, ◌+◌, length, ap, arith}
use Rattle.std.specs.Prelude.{drop}
use Rattle.std.proofs.lemmas.List.{length-take}
use Rattle.eden_disk.specs.Fronts.{Fronted}
use Rattle.eden_disk.proofs.Fronts.{piece_copied, length-with_zeros}
use Rattle.eden_disk.proofs.front.Front.copy_from.Goals as goal

pub returns-then-len-from-2-clause-bytes : goal.returns-then-len-from-2-clause-bytes
returns-then-len-from-2-clause-bytes c =
    piece_copied c.self.inside.bytes.items c.other.inside.bytes.items c.args.self.now.bytes c.args.other.now.bytes c.self.inside.size
    c.other.inside.size c.args.at c.args.len (ap (λ (i : Fronted). i.bytes) c.self.view_is) (ap (λ (i : Fronted). i.bytes) c.other.view_is)
    (omega (arith, c.if-len-from.true, c.len.ensures, c.self.inside.bytes.ok.0))
    (omega (arith, c.if-len-from-2.true, c.len-then-len-from.ensures, c.other.inside.bytes.ok.0))
    (omega (arith, c.requires.self_reach, ap (λ (i : Fronted). i.reach) c.self.view_is, c.self.invariant.reach_within))
    (omega (arith, c.requires.other_reach, ap (λ (i : Fronted). i.reach) c.other.view_is, c.other.invariant.reach_within))

pub read-requires : goal.read-requires
read-requires c = omega (
  arith,
  length-take (c.args.at + c.args.len - c.args.at) (drop c.args.at c.deref_mut.result.now),
  c.requires.other_reach,
  ap (λ (i : Fronted). i.reach) c.other.view_is,
  ap (λ (i : Fronted). length i.bytes) c.other.view_is,
  length-with_zeros c.other.inside.bytes.items c.other.inside.size
      (omega (arith, c.other.invariant.held_within, c.other.invariant.reach_within)),
  c.other.invariant.reach_within,
)
