use Rattle.std.proofs.Common.{◌≡◌, suc, ◌-◌, Some, refl, arith, ap, subst, ◌∙◌}
use Rattle.std.specs.Prelude.{IsSomeAnd}
use Rattle.std.proofs.lemmas.Result.{IfOk-weaker, on_err_weaker}
use Rattle.passive_store.specs.Seen.{disk_seen}
use Rattle.eden_kernel.specs.Stands.{held}
use Rattle.scheduled_node.specs.Keys.{HasTurn as NodeHasTurn}
use Rattle.eden_world.specs.Seated.{station_in}
use Rattle.eden_world.proofs.InPlace.{was-there, turns-here, starves-here, keeps-here}
use Rattle.eden_world.proofs.World.turn_here.Goals as goal

pub turn_in-requires-clause-whole : goal.turn_in-requires-clause-whole
turn_in-requires-clause-whole g c = λ s is.
    let number : c.args.key.station ≡ suc (c.from.result - 1) = omega (arith, c.requires.node, c.from.ensures) in
    let was = was-there c.args.self.now c.args.key.station (c.from.result - 1) c.in-Some.seat.now number
    (c.in-Some.ensures.variant.0 refl) c.in-Some.ensures.value in
    (c.requires.whole.nodes c.args.key.station s (was ∙ ap (λ x. Some x) is)).whole

pub turn_in-requires-clause-has : goal.turn_in-requires-clause-has
turn_in-requires-clause-has g c =
    let p = c.args.self.now in
    let number : c.args.key.station ≡ suc (c.from.result - 1) = omega (arith, c.requires.node, c.from.ensures) in
    subst (λ o. IsSomeAnd (station_in o) (λ s. NodeHasTurn p.types (held g.St.Store.seen s.node) p.calls c.args.key))
    (was-there p c.args.key.station (c.from.result - 1) c.in-Some.seat.now number (c.in-Some.ensures.variant.0 refl)
    c.in-Some.ensures.value) c.requires.has

pub returns-clause-turns : goal.returns-clause-turns
returns-clause-turns g c =
    let number : c.args.key.station ≡ suc (c.from.result - 1) = omega (arith, c.requires.node, c.from.ensures) in
    let was = was-there c.args.self.now c.args.key.station (c.from.result - 1) c.in-Some.seat.now number
    (c.in-Some.ensures.variant.0 refl) c.in-Some.ensures.value in
    IfOk-weaker c.turn_in.result _ _ (λ t. turns-here g.St.Device.Disk.tells g.St.Device.Disk.obeys g.St.Store.layout g.St.Store.seen
    c.args.key (c.from.result - 1) t c.in-Some.seat.now c.turn_in.new.seat c.turn_in.new.calls c.args.self.now number
    (c.in-Some.ensures.variant.0 refl) was) c.turn_in.ensures.turns

pub returns-clause-starved : goal.returns-clause-starved
returns-clause-starved g c =
    let look = disk_seen g.St.Device.Disk.counts g.St.Device.Disk.told g.St.Device.Disk.due in
    let number : c.args.key.station ≡ suc (c.from.result - 1) = omega (arith, c.requires.node, c.from.ensures) in
    let was = was-there c.args.self.now c.args.key.station (c.from.result - 1) c.in-Some.seat.now number
    (c.in-Some.ensures.variant.0 refl) c.in-Some.ensures.value in
    on_err_weaker c.turn_in.result (starves-here g.St.Device.Disk.tells g.St.Device.Disk.obeys g.St.Store.layout g.St.Store.seen look c.args.key
    (c.from.result - 1) c.turn_in.new.calls c.args.self.now number (c.in-Some.ensures.variant.0 refl) c.requires.whole
    c.in-Some.seat.now c.turn_in.new.seat was) c.turn_in.ensures.starves

pub returns-clause-leaves : goal.returns-clause-leaves
returns-clause-leaves g c =
    let look = disk_seen g.St.Device.Disk.counts g.St.Device.Disk.told g.St.Device.Disk.due in
    let number : c.args.key.station ≡ suc (c.from.result - 1) = omega (arith, c.requires.node, c.from.ensures) in
    let was = was-there c.args.self.now c.args.key.station (c.from.result - 1) c.in-Some.seat.now number
    (c.in-Some.ensures.variant.0 refl) c.in-Some.ensures.value in
    on_err_weaker c.turn_in.result (keeps-here g.St.Device.Disk.tells g.St.Device.Disk.obeys g.St.Store.layout g.St.Store.seen look c.args.key
    (c.from.result - 1) c.turn_in.new.calls c.args.self.now number (c.in-Some.ensures.variant.0 refl) c.requires.whole
    c.in-Some.seat.now c.turn_in.new.seat was) c.turn_in.ensures.starves
