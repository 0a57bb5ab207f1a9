use Rattle.std.proofs.Common.{length, ap, arith}
use Rattle.eden_disk.specs.Fronts.{Fronted}
use Rattle.eden_disk.proofs.Fronts.{length-with_zeros}
use Rattle.eden_disk.proofs.front.Front.reach.Goals as goal

pub invariant_of-self-then-self-upto : goal.invariant_of-self-then-self-upto
invariant_of-self-then-self-upto c = record {
  held_within = omega (arith, ap length c.in_ok-make_room.ensures.items, c.if-self-upto.true, c.self.invariant.held_within);
  reach_within = omega (
    arith,
    c.requires,
    ap (λ (i : Fronted). length i.bytes) c.self.view_is,
    length-with_zeros c.self.inside.bytes.items c.self.inside.size
        (omega (arith, c.self.invariant.held_within, c.self.invariant.reach_within)),
  );
  has_room = c.in_ok-make_room.ensures.room;
}
