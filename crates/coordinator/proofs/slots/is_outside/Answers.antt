use Rattle.std.proofs.Common.{Some, sym, ◌∙◌, ap}
use Rattle.std.specs.Option.{option_map}
use Rattle.coordinator.specs.declared.slots.Slot.{Slot}
use Rattle.coordinator.specs.View.{waiting_of}
use Rattle.coordinator.proofs.Table.{waits-found, is-outside}
use Rattle.coordinator.proofs.slots.is_outside.Goals as goal

pub returns-in-Some : goal.returns-in-Some
returns-in-Some c =
    let found = waits-found c.args.process c.args.slots.now
    ∙ ap (option_map (λ (s : Slot). waiting_of s.waits)) (sym c.in-Some.ensures) in (
      λ h. found ∙ ap (λ w. Some (waiting_of w)) (c.is_away.ensures.0 h),
      λ e. c.is_away.ensures.1 (is-outside _ (let both = sym found ∙ e in
          cc)),
    )

pub returns-in-None : goal.returns-in-None
returns-in-None c =
    let found = waits-found c.args.process c.args.slots.now
    ∙ ap (option_map (λ (s : Slot). waiting_of s.waits)) (sym c.in-None.ensures) in
    (λ h. cc, λ e. let both = sym found ∙ e in cc)
