use Rattle.std.proofs.Common.{◌+◌, sym, ◌∙◌, ap, cond, arith}
use Rattle.std.specs.Option.{option_map}
use Rattle.eden_model.specs.Crew.{left}
use Rattle.coordinator.specs.View.{crew_of, monitor_of}
use Rattle.coordinator.proofs.Crews.{found, get-map, held-more}
use Rattle.coordinator.proofs.monitors.pass_on_all.Goals as goal
use Rattle.coordinator.proofs.monitors.pass_on_all.Goals.{then-is_held_by, else-is_held_by}

pub loop-i-preserved : goal.loop-i-preserved
loop-i-preserved c =
    let slots = c.loop-i.slots.items in
    let monitors = c.loop-i.monitors.items in
    let monitor = c.index.result.now in
    let at = get-map monitor_of monitors c.loop-i.i ∙ ap (option_map monitor_of)
    (found monitors c.loop-i.i monitor (omega (arith, c.loop-i-test.true, c.len-i-end.ensures, c.loop-i.invariant.monitors))
    c.index.ensures) in
    elim c.if-is_held_by.branch [
      | then-is_held_by w ↦ rw (w.slots-is, w.monitors-is) (record {
        crew = λ ls cs. w.pass_on.ensures.crew ls cs
            ∙ sym (held-more (crew_of ls cs c.args.slots.now.items c.args.monitors.now.items) (crew_of ls cs slots monitors) c.args.process
            c.loop-i.i (monitor_of monitor) (c.loop-i.invariant.crew ls cs) at
            ∙ ap (λ b. cond b (left (c.loop-i.i + 1) (crew_of ls cs slots monitors)) (crew_of ls cs slots monitors))
            (sym c.is_held_by.ensures ∙ w.if-is_held_by.true));
        slots = w.pass_on.ensures.slots ∙ c.loop-i.invariant.slots;
        monitors = w.pass_on.ensures.monitors ∙ c.loop-i.invariant.monitors;
      })
      | else-is_held_by w ↦ rw (w.slots-is, w.monitors-is) (record {
        crew = λ ls cs. sym (held-more (crew_of ls cs c.args.slots.now.items c.args.monitors.now.items)
            (crew_of ls cs slots monitors) c.args.process c.loop-i.i (monitor_of monitor) (c.loop-i.invariant.crew ls cs) at
            ∙ ap (λ b. cond b (left (c.loop-i.i + 1) (crew_of ls cs slots monitors)) (crew_of ls cs slots monitors))
            (sym c.is_held_by.ensures ∙ w.if-is_held_by.false));
        slots = c.loop-i.invariant.slots;
        monitors = c.loop-i.invariant.monitors;
      })
    ]
