use Rattle.std.proofs.Common.{rules, ◌∙◌, ap, sym, subst, List, Option, Some}
use Rattle.lossy_wire.specs.Wire.{carried, taken}
use Rattle.lossy_wire.specs.Held.{Held, Keeps, held_at, held_next, held_delivered}
use Rattle.lossy_wire.specs.declared.packet.Header.{Header}
use Rattle.lossy_wire.specs.declared.packet.Header.TheVariants as code
use Rattle.lossy_wire.proofs.Keeping.{keeps_delivered, next_same, reply_same}
use Rattle.lossy_wire.proofs.Slots.{set_slot, at_slot}
use Rattle.lossy_wire.proofs.ends.Ends.take_value.Goals as goal

pub returns-clause-taken : goal.returns-clause-taken
returns-clause-taken c =
    let ends = c.self.inside.ends.items in
    let es = c.args.self.now in
    let a = c.args.a in
    let b = c.args.b in
    let n = c.args.number in
    λ w k d. subst (λ (l : List Held). Keeps l (taken w a b (carried n d)))
    (sym (set_slot es ends a b c.slot.result c.deliver-delivers.new.end (held_delivered (held_at es a b) n) (search rules) c.slot.ensures.place
    (c.deliver-delivers.ensures.end ∙ ap (λ x. held_delivered x n) (at_slot es ends a b c.slot.result _ _ (search rules) c.slot.ensures.place
    c.slot.ensures.within c.self.invariant c.index_mut-end.ensures.value)))) (keeps_delivered es w k a b n d)

pub returns-clause-delivers : goal.returns-clause-delivers
returns-clause-delivers c =
    let ends = c.self.inside.ends.items in
    let es = c.args.self.now in
    let a = c.args.a in
    let b = c.args.b in
    let n = c.args.number in
    λ w k d. c.deliver-delivers.ensures.delivers ∙ ap (λ x. held_next x n) (at_slot es ends a b c.slot.result _ _ (search rules) c.slot.ensures.place
    c.slot.ensures.within c.self.invariant c.index_mut-end.ensures.value)
    ∙ next_same es w k a b n d

pub returns-clause-reply : goal.returns-clause-reply
returns-clause-reply c =
    let ends = c.self.inside.ends.items in
    let es = c.args.self.now in
    let a = c.args.a in
    let b = c.args.b in
    let n = c.args.number in
    λ w k d. ap {B = Option Header} (λ (h : Held). Some (code.Known h.delivered)) (c.deliver-delivers.ensures.end ∙ ap (λ x. held_delivered x n)
    (at_slot es ends a b c.slot.result _ _ (search rules) c.slot.ensures.place
    c.slot.ensures.within c.self.invariant c.index_mut-end.ensures.value)) ∙ reply_same es w k a b n d
