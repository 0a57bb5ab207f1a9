use Rattle.std.proofs.Common.{rules, ◌∙◌, ap, sym, subst, List, ◌+◌}
use Rattle.lossy_wire.specs.Wire.{send}
use Rattle.lossy_wire.specs.Held.{Held, Keeps, held_at, held_sent}
use Rattle.lossy_wire.specs.declared.packet.Header.{Header}
use Rattle.lossy_wire.specs.declared.packet.Header.TheVariants as code
use Rattle.lossy_wire.proofs.Keeping.{keeps_send, held_same}
use Rattle.lossy_wire.proofs.Slots.{set_slot, at_slot}
use Rattle.lossy_wire.proofs.ends.Ends.send.Goals as goal

pub returns-clause-sent : goal.returns-clause-sent
returns-clause-sent c =
    let ends = c.self.inside.ends.items in
    let es = c.args.self.now in
    let a = c.args.a in
    let b = c.args.b in
    λ w k d. subst (λ (l : List Held). Keeps l (send w a b d))
    (sym (set_slot es ends a b c.slot.result c.send.new.end (held_sent (held_at es a b)) (search rules) c.slot.ensures.place
    (c.send.ensures.end ∙ ap held_sent (at_slot es ends a b c.slot.result _ _ (search rules) c.slot.ensures.place
    c.slot.ensures.within c.self.invariant c.index_mut.ensures.value)))) (keeps_send es w k a b d)

pub returns-clause-packet : goal.returns-clause-packet
returns-clause-packet c =
    let ends = c.self.inside.ends.items in
    let es = c.args.self.now in
    let a = c.args.a in
    let b = c.args.b in
    λ w k d. c.send.ensures.packet d ∙ ap {B = Header} (λ (h : Held). code.Carried (h.sent + 1))
    (at_slot es ends a b c.slot.result _ _ (search rules) c.slot.ensures.place c.slot.ensures.within c.self.invariant
    c.index_mut.ensures.value ∙ held_same es w k a b)
