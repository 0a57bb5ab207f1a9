use Rattle.std.proofs.Common.{◌≡◌, sym, ◌∙◌, ap, map, length, arith}
use Rattle.std.proofs.lemmas.List.{length-map, length-replicate}
use Rattle.eden_model.proofs.Fresh.{fresh-lines, fresh-monitors, length-declared}
use Rattle.coordinator.specs.View.{process_of, monitor_of, setup_of}
use Rattle.coordinator.proofs.Order.{ascend-declared}
use Rattle.coordinator.proofs.Coordinator.new.Goals as goal

pub invariant_of-result : goal.invariant_of-result
invariant_of-result c =
    let setup = c.args.setup in
    let conditions = c.in_ok-conditions.ensures ∙ ap (map _) c.as_slice.ensures in
    let monitors : length c.in_ok-monitors.monitors.items ≡ setup.monitors = sym (length-map c.in_ok-monitors.monitors.items monitor_of)
    ∙ ap length c.in_ok-monitors.ensures ∙ length-replicate setup.monitors _ in
    let slots : length c.in_ok-slots.slots.items ≡ setup.declared = sym (length-map c.in_ok-slots.slots.items process_of)
    ∙ ap length c.in_ok-slots.ensures ∙ length-declared 1 setup.declared in
    record {
      lines = rw (c.in_ok-slots.ensures, c.in_ok-monitors.ensures, conditions) (fresh-lines (setup_of setup));
      monitors = rw (conditions, monitors) (fresh-monitors setup.monitors setup.conditions c.requires.conditions);
      few_monitors = omega (arith, monitors, c.requires.monitors);
      few_slots = omega (arith, slots, c.requires.declared);
      few_queued = rw c.new.ensures (omega arith);
      ascend = rw c.in_ok-slots.ensures (ascend-declared setup.declared 0 (omega (arith, c.requires.declared)));
    }
