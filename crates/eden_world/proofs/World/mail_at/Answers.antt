use Rattle.std.proofs.Common.{◌+◌, drop, refl, sym, ◌∙◌, ap, arith}
use Rattle.agenda.specs.Places.{at_place}
use Rattle.agenda.proofs.AtPlaces.{then_at}
use Rattle.eden_world.specs.Listed.{keys_from, station_count}
use Rattle.eden_world.specs.Worlds.{numbers_from}
use Rattle.eden_world.proofs.Behind.{no-mail-keys}
use Rattle.eden_world.proofs.KeySteps.{delivery-at, deliveries-at-end}
use Rattle.eden_world.proofs.World.mail_at.Goals as goal

pub returns-then-not-may_have_mail : goal.returns-then-not-may_have_mail
returns-then-not-may_have_mail g c = sym (ap (λ ks. at_place ks c.args.place)
    (no-mail-keys c.args.self.now.calls c.args.to (station_count c.args.self.now)
    (omega (arith, c.requires.whole.places.seats)) (c.may_have_mail.ensures.none c.if-not-may_have_mail.true)))

pub loop-from-init : goal.loop-from-init
loop-from-init g c = refl

pub returns-in_err-left : goal.returns-in_err-left
returns-in_err-left g c =
    let m = c.args.self.now.calls in
    let count = station_count c.args.self.now in
    c.from_residual.ensures
    ∙ ap (then_at (keys_from m c.args.to (drop (c.loop-from.from + 1) (numbers_from 0 count)))) (sym c.in_err-left.was)
    ∙ delivery-at m c.args.to count c.loop-from.from c.loop-from.left c.delivery_at.result _
    (omega (arith, c.loop-from-test.true, c.stations-from-end.ensures)) c.delivery_at.ensures c.loop-from.invariant

pub loop-from-preserved : goal.loop-from-preserved
loop-from-preserved g c =
    let m = c.args.self.now.calls in
    let count = station_count c.args.self.now in
    ap (then_at (keys_from m c.args.to (drop (c.loop-from.from + 1) (numbers_from 0 count)))) (sym c.in_ok-left.was)
    ∙ delivery-at m c.args.to count c.loop-from.from c.loop-from.left c.delivery_at.result _
    (omega (arith, c.loop-from-test.true, c.stations-from-end.ensures)) c.delivery_at.ensures c.loop-from.invariant

pub returns : goal.returns
returns g c = deliveries-at-end c.args.self.now.calls c.args.to (station_count c.args.self.now) c.loop-from.from c.loop-from.left _
    (omega (arith, c.loop-from-test.false, c.stations-from-end.ensures)) c.loop-from.invariant
