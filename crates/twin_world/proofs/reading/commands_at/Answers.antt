use Rattle.std.proofs.Common.{rules, ◌≡◌, ◌∙◌, ap, sym, subst, List, [], map}
use Rattle.std.proofs.lemmas.List.{nil_from_length}
use Rattle.line_forms.specs.View.{row_of}
use Rattle.twin_world.specs.Commands.{Command}
use Rattle.twin_world.specs.View.{meant}
use Rattle.twin_world.proofs.Scripted.{Going, going_first, going_row, going_meaning, going_step, going_end, commands_more}
use Rattle.twin_world.proofs.reading.commands_at.Goals as goal

pub loop-spot-init : goal.loop-spot-init
loop-spot-init c =
    let spots = c.into_iter-spot-iterator.result.rest.items in
    subst (λ (l : List Command). Going c.args.bytes.now c.args.most l spots) (sym (ap (map meant) c.new-commands.ensures.items))
    (going_first c.args.bytes.now c.args.most spots (search rules))

pub loop-spot-preserved : goal.loop-spot-preserved
loop-spot-preserved c =
    going_step c.args.bytes.now c.args.most (map meant c.loop-spot.commands.items) c.loop-spot.spot-iterator.rest.items
    c.next.new.self.rest.items c.in-Some.spot c.loop-spot.invariant c.in-Some.ensures.steps.0 (row_of c.in_ok-row.row) c.in_ok-row.ensures
    (map meant c.push.new.self.items) (meant c.command.result) c.command.ensures
    (commands_more c.loop-spot.commands.items c.push.new.self.items c.command.result c.in_ok-push.ensures.items)

pub returns : goal.returns
returns c =
    let none : c.loop-spot.spot-iterator.rest.items ≡ [] =
    nil_from_length c.loop-spot.spot-iterator.rest.items (sym c.loop-spot.spot-iterator.rest.ok.0 ∙ c.in-None.ensures.steps.0) in
    going_end c.args.bytes.now c.args.most (map meant c.loop-spot.commands.items) c.loop-spot.spot-iterator.rest.items
    c.loop-spot.invariant none

pub row-requires : goal.row-requires
row-requires c =
    going_row c.args.bytes.now c.args.most (map meant c.loop-spot.commands.items) c.loop-spot.spot-iterator.rest.items
    c.next.new.self.rest.items c.in-Some.spot c.loop-spot.invariant c.in-Some.ensures.steps.0

pub command-requires : goal.command-requires
command-requires c =
    going_meaning c.args.bytes.now c.args.most (map meant c.loop-spot.commands.items) c.loop-spot.spot-iterator.rest.items
    c.next.new.self.rest.items c.in-Some.spot c.loop-spot.invariant c.in-Some.ensures.steps.0 (row_of c.in_ok-row.row) c.in_ok-row.ensures
