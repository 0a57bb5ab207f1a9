use Rattle.std.proofs.Common.{None, sym, ◌∙◌, ap}
use Rattle.std.specs.Option.{option_map}
use Rattle.eden_model.specs.Map.{with_item}
use Rattle.coordinator.specs.declared.slots.Slot.{Slot}
use Rattle.coordinator.specs.declared.slots.Serving.{Serving}
use Rattle.coordinator.proofs.Table.{served-found}
use Rattle.coordinator.proofs.slots.call_of.Goals as goal

pub returns-in-Some : goal.returns-in-Some
returns-in-Some c = c.call.ensures ∙ sym (served-found c.args.process c.args.slots.now
    ∙ ap (λ o. with_item o (λ (s : Slot). option_map (λ (t : Serving). t.call) s.serves) None) (sym c.in-Some.ensures))

pub returns-in-None : goal.returns-in-None
returns-in-None c = sym (served-found c.args.process c.args.slots.now
    ∙ ap (λ o. with_item o (λ (s : Slot). option_map (λ (t : Serving). t.call) s.serves) None) (sym c.in-None.ensures))
