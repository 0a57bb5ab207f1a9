use Rattle.std.proofs.Common.{◌≡◌, suc, true, false, refl, arith, sym, ap, subst, unwrap_or}
use Rattle.eden_world.specs.Seated.{TakesPlace}
use Rattle.eden_world.proofs.Seating.{with-seat, seat-taken, none-there, none-taken}
use Rattle.eden_world.proofs.World.swap.Goals as goal

pub returns-in-Some-get_mut-clause-takes : goal.returns-in-Some-get_mut-clause-takes
returns-in-Some-get_mut-clause-takes g c =
    let number : c.args.number ≡ suc c.from.result = grind (arith, c.checked_sub.ensures, c.in-Some.is, c.in-Some.ensures, c.from.ensures)
    in
    subst (λ x. TakesPlace c.args.number c.args.new c.args.self.now (with-seat c.args.self.now c.from.result x))
    (sym c.replace.ensures.after)
    (seat-taken c.args.self.now c.args.number c.from.result c.args.new number (c.in-Some-get_mut.ensures.variant.0 refl))

pub returns-in-None-clause-old : goal.returns-in-None-clause-old
returns-in-None-clause-old g c =
    let number : c.args.number ≡ suc c.from.result = grind (arith, c.checked_sub.ensures, c.in-Some.is, c.in-Some.ensures, c.from.ensures)
    in
    sym (ap (λ o. unwrap_or o c.args.new) (none-there c.args.self.now c.args.number c.from.result number
    (λ h. let bad : false ≡ true = c.in-None.ensures.variant.1 h in absurd (cc bad))))

pub returns-in-None-clause-takes : goal.returns-in-None-clause-takes
returns-in-None-clause-takes g c =
    let number : c.args.number ≡ suc c.from.result = grind (arith, c.checked_sub.ensures, c.in-Some.is, c.in-Some.ensures, c.from.ensures)
    in
    none-taken c.args.self.now c.args.number c.args.new
    (none-there c.args.self.now c.args.number c.from.result number
    (λ h. let bad : false ≡ true = c.in-None.ensures.variant.1 h in absurd (cc bad)))
