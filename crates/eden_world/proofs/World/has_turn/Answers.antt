use Rattle.std.proofs.Common.{◌≤◌, sym, subst, arith}
use Rattle.std.specs.Prelude.{IsSomeAnd}
use Rattle.eden_kernel.specs.Stands.{held}
use Rattle.scheduled_node.specs.Keys.{HasTurn as NodeHasTurn}
use Rattle.eden_world.proofs.World.has_turn.Goals as goal

pub returns-in-Some : goal.returns-in-Some
returns-in-Some g c =
    let p = c.args.self.now in
    let some : 1 ≤ c.args.key.station = omega (arith, c.if-key-eq0.false) in (
      λ yes. record {
        shell = λ at. absurd (omega (arith, at, some));
        node = λ one. subst (λ o. IsSomeAnd o (λ s. NodeHasTurn p.types (held g.St.Store.seen s.node) p.calls c.args.key)) c.in-Some.ensures
            ((c.has_turn.ensures p.types).0 yes);
      },
      λ has. (c.has_turn.ensures p.types).1
          (subst (λ o. IsSomeAnd o (λ s. NodeHasTurn p.types (held g.St.Store.seen s.node) p.calls c.args.key)) (sym c.in-Some.ensures)
          (has.node some)),
    )
