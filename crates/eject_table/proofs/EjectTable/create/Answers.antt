use Rattle.std.proofs.Common.{refl, arith}
use Rattle.eject_table.proofs.Entries.{map-len}
use Rattle.eject_table.proofs.EjectTable.create.Goals as goal

pub returns-then-len-ge4096-clause-cases : goal.returns-then-len-ge4096-clause-cases
returns-then-len-ge4096-clause-cases g c = (
  refl,
  refl,
  rw (← c.self.view_is) (omega
      (arith, map-len c.self.inside.active c.self.inside.places.entries c.self.invariant.whole, c.len.ensures.len, c.if-len-ge4096.true)),
)

pub returns-in_default-clause-cases : goal.returns-in_default-clause-cases
returns-in_default-clause-cases g c = (
  refl,
  refl,
  rw (← c.self.view_is) (
    omega
        (arith, map-len c.self.inside.active c.self.inside.places.entries c.self.invariant.whole, c.len.ensures.len, c.if-len-ge4096.false),
    omega (arith, c.in_default.ensures),
  ),
)

pub returns-in-Ok-clause-cases : goal.returns-in-Ok-clause-cases
returns-in-Ok-clause-cases g c =
    let next = c.in-Some.ensures in
    rw (← c.self.view_is) (record {
      few = omega (
        arith,
        map-len c.self.inside.active c.self.inside.places.entries c.self.invariant.whole,
        c.len.ensures.len,
        c.if-len-ge4096.false,
      );
      serials = omega (arith, next.0, next.1);
      uid = rw next.1 refl;
      after = rw (c.in-Ok.ensures.after, next.1) refl;
    })

pub returns-in-Err-clause-cases : goal.returns-in-Err-clause-cases
returns-in-Err-clause-cases g c =
    let next = c.in-Some.ensures in (
      c.in-Err.ensures.after.0,
      rw (← c.self.view_is, c.in-Err.ensures.after.1) refl,
      rw (← c.self.view_is) (
        omega (
          arith,
          map-len c.self.inside.active c.self.inside.places.entries c.self.invariant.whole,
          c.len.ensures.len,
          c.if-len-ge4096.false,
        ),
        omega (arith, next.0),
      ),
    )
