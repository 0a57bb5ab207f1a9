use Rattle.std.proofs.Common.{◌∙◌, sym, subst, ℕ, Option}
use Rattle.eden_value.specs.View.{datum}
use Rattle.lossy_wire.specs.World.{Shows}
use Rattle.lossy_wire.proofs.Slots.{on_ok}
use Rattle.lossy_wire.proofs.Worlds.{shown}
use Rattle.lossy_wire.proofs.run.add_value.Goals as goal

pub returns : goal.returns
returns c =
    let old = c.args.out.now.items in
    let new = c.add_delivery.new.out.items in
    on_ok c.add_delivery.result _ _ (λ h. subst (λ (o : Option ℕ). Shows c.args.script c.args.sent.now c.args.a c.args.b o old new)
    (sym c.in-Some.is) (shown c.args.script c.args.sent.now c.args.a c.args.b c.in-Some.number c.in-Some-at.spot
    (datum c.in_ok-value.value) old new (sym c.in-Some-at.is ∙ c.at.ensures) c.in_ok-value.ensures h)) c.add_delivery.ensures
