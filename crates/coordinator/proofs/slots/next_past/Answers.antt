use Rattle.std.proofs.Common.{sym, ◌∙◌, ap}
use Rattle.std.specs.Option.{option_map}
use Rattle.coordinator.specs.declared.slots.Slot.{Slot}
use Rattle.coordinator.proofs.Table.{ready-found}
use Rattle.coordinator.proofs.slots.next_past.Goals as goal

pub returns-in-Some : goal.returns-in-Some
returns-in-Some c = sym (ready-found c.args.after c.args.slots.now ∙ ap (option_map (λ (s : Slot). s.number)) (sym c.in-Some.ensures))

pub returns-in-None : goal.returns-in-None
returns-in-None c = sym (ready-found c.args.after c.args.slots.now ∙ ap (option_map (λ (s : Slot). s.number)) (sym c.in-None.ensures))
