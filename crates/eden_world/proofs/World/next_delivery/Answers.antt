use Rattle.std.proofs.Common.{◌≡◌, Some, false, ◌&&◌, refl, sym, ◌∙◌, ap, arith}
use Rattle.journal.specs.Enabled.{is_past, delivery}
use Rattle.invocation.specs.Mail.{is_waiting}
use Rattle.eden_world.specs.Listed.{station_count}
use Rattle.eden_world.specs.Worlds.{numbers_from}
use Rattle.eden_world.proofs.Behind.{no-delivery, no-mail}
use Rattle.eden_world.proofs.KeySteps.{delivery-found, delivery-none, deliveries-end, and-left, and-right}
use Rattle.eden_world.proofs.World.next_delivery.Goals as goal
use Rattle.eden_world.proofs.World.next_delivery.Goals.{else-waiting-via-then-waiting+else-is_past, else-waiting-via-else-waiting}

pub returns-then-is_behind_mail : goal.returns-then-is_behind_mail
returns-then-is_behind_mail g c = sym (no-delivery c.args.last c.args.self.now.calls c.args.to (numbers_from 0 (station_count c.args.self.now))
    (c.is_behind_mail.ensures c.if-is_behind_mail.true))

pub returns-then-not-may_have_mail : goal.returns-then-not-may_have_mail
returns-then-not-may_have_mail g c = sym (no-mail (is_past c.args.last) c.args.self.now.calls c.args.to (station_count c.args.self.now)
    (omega (arith, c.requires.whole.places.seats)) (c.may_have_mail.ensures.none c.if-not-may_have_mail.true))

pub loop-from-init : goal.loop-from-init
loop-from-init g c = refl

pub returns-then-is_past : goal.returns-then-is_past
returns-then-is_past g c =
    ap Some c.delivery-key.ensures ∙ delivery-found (is_past c.args.last) c.args.self.now.calls c.args.to (station_count c.args.self.now) c.loop-from.from _
    (omega (arith, c.loop-from-test.true, c.stations-from-end.ensures))
    (sym c.waiting.ensures ∙ c.if-waiting.true)
    (sym (ap (is_past c.args.last) c.delivery-key.ensures) ∙ sym c.is_past.ensures ∙ c.if-is_past.true) c.loop-from.invariant

pub loop-from-preserved : goal.loop-from-preserved
loop-from-preserved g c =
    let n = c.loop-from.from in
    let waits : c.waiting.result ≡ is_waiting n c.args.to c.args.self.now.calls = c.waiting.ensures in
    let past = ap (is_past c.args.last) c.delivery-key.ensures in
    let none : (is_waiting n c.args.to c.args.self.now.calls && is_past c.args.last (delivery c.args.to n)) ≡ false =
    elim c.else-waiting.branch [
      | else-waiting-via-then-waiting+else-is_past w ↦ and-right _ _ (sym past ∙ sym w.is_past.ensures ∙ w.if-is_past.false)
      | else-waiting-via-else-waiting w ↦ and-left _ _ (sym waits ∙ w.if-waiting.false)
    ] in
    delivery-none (is_past c.args.last) c.args.self.now.calls c.args.to (station_count c.args.self.now) n _ (omega (arith, c.loop-from-test.true, c.stations-from-end.ensures)) none c.loop-from.invariant

pub returns : goal.returns
returns g c = deliveries-end (is_past c.args.last) c.args.self.now.calls c.args.to (station_count c.args.self.now) c.loop-from.from _
    (omega (arith, c.loop-from-test.false, c.stations-from-end.ensures))
    c.loop-from.invariant
