use Rattle.std.proofs.Common.{rules, ◌∙◌, ap}
use Rattle.lossy_wire.specs.Lists.{with_item}
use Rattle.lossy_wire.proofs.Slots.{put_slot}
use Rattle.lossy_wire.proofs.lists.Lists.push.Goals as goal

pub returns : goal.returns
returns g c =
    put_slot c.self.inside.lists.items c.args.a c.args.b c.slot.result _ c.index_mut.result.now c.push.new.self c.args.item
    c.slot.ensures.place c.slot.ensures.within c.self.invariant c.index_mut.ensures.value c.in_ok-push.ensures.items
    ∙ ap (λ l. with_item l c.args.a c.args.b c.args.item) (search rules)
