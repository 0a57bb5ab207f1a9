use Rattle.std.proofs.Common.{◌≡◌, [], ◌∷◌, sym, ap, ◌∙◌}
use Rattle.epl_syntax.specs.Rules.OfTypes.{native_only}
use Rattle.journal.specs.Enabled.{activity}
use Rattle.journal.specs.declared.event.Key.{Key}
use Rattle.ejects.specs.Parts.{body_at}
use Rattle.ejects.specs.View.{parts_of}
use Rattle.agenda.specs.Places.{at_place}
use Rattle.agenda.proofs.Appended.{keys_past, keys_from, first-keys, next-keys, small-next, fewer-left, nothing-next}
use Rattle.agenda.proofs.AtPlaces.{then_at, at-next}
use Rattle.agenda.proofs.places.process_at.Goals as goal

pub loop-next-init : goal.loop-next-init
loop-next-init c = record {
  small = small-next (body_at (parts_of native_only c.args.ejects.now) c.args.uid) 0 c.next_ready-next.result
      (c.next_ready-next.ensures.ascend native_only) (c.next_ready-next.ensures.next native_only);
  all = λ ts.
      let b = body_at (parts_of ts c.args.ejects.now) c.args.uid in
      ap (λ ks. at_place ks c.args.place) (sym (next-keys c.args.uid b 0 c.next_ready-next.result (c.next_ready-next.ensures.ascend ts)
      (c.next_ready-next.ensures.next ts)) ∙ first-keys c.args.uid b (c.next_ready-next.ensures.ascend ts));
}

pub returns-in_err-left : goal.returns-in_err-left
returns-in_err-left c = λ ts.
    let u = c.args.uid in
    let b = body_at (parts_of ts c.args.ejects.now) u in
    let p = c.in-Some.process in
    let one : c.key_or_left.result ≡ at_place (activity u.node 4 u p ∷ []) c.loop-next.left =
    c.key_or_left.ensures ∙ ap (λ (k : Key). at_place (k ∷ []) c.loop-next.left) c.key_of.ensures in
    c.from_residual.ensures ∙ ap (then_at (keys_past u p b)) (sym c.in_err-left.was)
    ∙ sym (at-next (activity u.node 4 u p ∷ []) (keys_past u p b) c.loop-next.left c.key_or_left.result one)
    ∙ sym (ap (λ o. at_place (keys_from u o b) c.loop-next.left) c.in-Some.is) ∙ c.loop-next.invariant.all ts

pub loop-next-smaller : goal.loop-next-smaller
loop-next-smaller c = fewer-left (body_at (parts_of native_only c.args.ejects.now) c.args.uid) c.in-Some.process c.loop-next.next
    c.next_ready-next-in-Some.result (c.next_ready-next-in-Some.ensures.ascend native_only) c.in-Some.is c.loop-next.invariant.small
    (c.next_ready-next-in-Some.ensures.next native_only)

pub loop-next-preserved : goal.loop-next-preserved
loop-next-preserved c = record {
  small = small-next (body_at (parts_of native_only c.args.ejects.now) c.args.uid) c.in-Some.process c.next_ready-next-in-Some.result
      (c.next_ready-next-in-Some.ensures.ascend native_only) (c.next_ready-next-in-Some.ensures.next native_only);
  all = λ ts.
      let u = c.args.uid in
      let b = body_at (parts_of ts c.args.ejects.now) u in
      let p = c.in-Some.process in
      let one : c.key_or_left.result ≡ at_place (activity u.node 4 u p ∷ []) c.loop-next.left =
      c.key_or_left.ensures ∙ ap (λ (k : Key). at_place (k ∷ []) c.loop-next.left) c.key_of.ensures in
      ap (λ ks. at_place ks c.in_ok-left.left) (sym (next-keys u b p c.next_ready-next-in-Some.result
      (c.next_ready-next-in-Some.ensures.ascend ts) (c.next_ready-next-in-Some.ensures.next ts)))
      ∙ ap (then_at (keys_past u p b)) (sym c.in_ok-left.was)
      ∙ sym (at-next (activity u.node 4 u p ∷ []) (keys_past u p b) c.loop-next.left c.key_or_left.result one)
      ∙ sym (ap (λ o. at_place (keys_from u o b) c.loop-next.left) c.in-Some.is) ∙ c.loop-next.invariant.all ts;
}

pub returns : goal.returns
returns c = λ ts.
    let b = body_at (parts_of ts c.args.ejects.now) c.args.uid in
    sym (ap (λ o. at_place (keys_from c.args.uid o b) c.loop-next.left) (nothing-next c.loop-next.next c.in_default.not-Some))
    ∙ c.loop-next.invariant.all ts
