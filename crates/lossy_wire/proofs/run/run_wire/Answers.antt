use Rattle.std.proofs.Common.{rules, ◌≡◌, ◌∙◌, sym, subst, ℕ, List, []}
use Rattle.std.proofs.lemmas.List.{nil_from_length}
use Rattle.line_forms.specs.View.{row_of}
use Rattle.lossy_wire.specs.View.{meant}
use Rattle.lossy_wire.specs.declared.commands.Script.{Script}
use Rattle.lossy_wire.proofs.Runs.{Going, going_first, going_row, going_held, going_meaning, going_command, going_step, going_room, going_end}
use Rattle.lossy_wire.proofs.run.run_wire.Goals as goal

pub loop-spot-init : goal.loop-spot-init
loop-spot-init c =
    let s : Script = record { bytes = c.args.bytes; stations = c.in_ok-most.field-0.most } in
    subst (λ (t : List ℕ). Going s c.in_ok-world.world t c.into_iter-spot-iterator.result.rest.items)
    (sym c.new-text.ensures.items)
    (going_first s c.in_ok-world.world c.into_iter-spot-iterator.result.rest.items (search rules) (c.in_ok-world.ensures s))

pub loop-spot-preserved : goal.loop-spot-preserved
loop-spot-preserved c =
    let s : Script = record { bytes = c.args.bytes; stations = c.in_ok-most.field-0.most } in
    going_step s c.loop-spot.world c.loop-spot.text.items c.loop-spot.spot-iterator.rest.items c.next.new.self.rest.items
    c.in-Some.spot c.loop-spot.invariant c.in-Some.ensures.steps.0 (row_of c.in_ok-row.row) c.in_ok-row.ensures c.step.new.world
    c.step.new.out.items (meant c.command.result) c.command.ensures.command c.command.ensures.reach (search rules) (search rules)

pub returns-clause-text : goal.returns-clause-text
returns-clause-text c =
    let s : Script = record { bytes = c.args.bytes; stations = c.in_ok-most.field-0.most } in
    let none : c.loop-spot.spot-iterator.rest.items ≡ [] =
    nil_from_length c.loop-spot.spot-iterator.rest.items (sym c.loop-spot.spot-iterator.rest.ok.0 ∙ c.in-None.ensures.steps.0) in
    going_end s c.loop-spot.world c.loop-spot.text.items c.add_sums.new.out.items c.loop-spot.spot-iterator.rest.items
    c.loop-spot.invariant none (search rules)

pub row-requires : goal.row-requires
row-requires c =
    let s : Script = record { bytes = c.args.bytes; stations = c.in_ok-most.field-0.most } in
    going_row s c.loop-spot.world c.loop-spot.text.items c.loop-spot.spot-iterator.rest.items c.next.new.self.rest.items
    c.in-Some.spot c.loop-spot.invariant c.in-Some.ensures.steps.0

pub command-requires : goal.command-requires
command-requires c =
    let s : Script = record { bytes = c.args.bytes; stations = c.in_ok-most.field-0.most } in
    going_meaning s c.loop-spot.world c.loop-spot.text.items c.loop-spot.spot-iterator.rest.items c.next.new.self.rest.items
    c.in-Some.spot c.loop-spot.invariant c.in-Some.ensures.steps.0 (row_of c.in_ok-row.row) c.in_ok-row.ensures

pub step-requires-clause-there : goal.step-requires-clause-there
step-requires-clause-there c =
    let s : Script = record { bytes = c.args.bytes; stations = c.in_ok-most.field-0.most } in
    going_command s c.loop-spot.world c.loop-spot.text.items c.loop-spot.spot-iterator.rest.items c.next.new.self.rest.items
    c.in-Some.spot c.loop-spot.invariant c.in-Some.ensures.steps.0 (row_of c.in_ok-row.row) c.in_ok-row.ensures
    (meant c.command.result) c.command.ensures.command

pub step-requires-clause-held : goal.step-requires-clause-held
step-requires-clause-held c =
    let s : Script = record { bytes = c.args.bytes; stations = c.in_ok-most.field-0.most } in
    going_held s c.loop-spot.world c.loop-spot.text.items c.loop-spot.spot-iterator.rest.items c.next.new.self.rest.items
    c.in-Some.spot c.loop-spot.invariant c.in-Some.ensures.steps.0

pub step-requires-clause-room : goal.step-requires-clause-room
step-requires-clause-room c =
    let s : Script = record { bytes = c.args.bytes; stations = c.in_ok-most.field-0.most } in
    going_room s c.loop-spot.world c.loop-spot.text.items c.loop-spot.spot-iterator.rest.items c.loop-spot.invariant c.requires
