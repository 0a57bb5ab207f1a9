use Rattle.std.proofs.Common.{rules, ◌∙◌, ap, sym, subst, List}
use Rattle.lossy_wire.specs.Wire.{heard, taken}
use Rattle.lossy_wire.specs.Held.{Held, Keeps, held_at, held_told}
use Rattle.lossy_wire.proofs.Keeping.{keeps_told}
use Rattle.lossy_wire.proofs.Slots.{set_slot, at_slot}
use Rattle.lossy_wire.proofs.ends.Ends.take_number.Goals as goal

pub returns : goal.returns
returns c =
    let ends = c.self.inside.ends.items in
    let es = c.args.self.now in
    let a = c.args.a in
    let b = c.args.b in
    let n = c.args.upto in
    λ w k. subst (λ (l : List Held). Keeps l (taken w a b (heard n)))
    (sym (set_slot es ends b a c.slot.result c.hear.new.end (held_told (held_at es b a) n) (search rules) c.slot.ensures.place
    (c.hear.ensures ∙ ap (λ x. held_told x n) (at_slot es ends b a c.slot.result _ _ (search rules) c.slot.ensures.place
    c.slot.ensures.within c.self.invariant c.index_mut.ensures.value)))) (keeps_told es w k a b n)
