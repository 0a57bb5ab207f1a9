use Rattle.std.proofs.Common.{◌≤◌, length, arith}
use Rattle.active_part.proofs.Filling.{filling-on, few-left, not-yet}
use Rattle.active_part.proofs.fresh.first_tasks.Goals as goal

pub loop-rest-preserved : goal.loop-rest-preserved
loop-rest-preserved c =
    let now = c.pop.new.self.items in
    let few : length now ≤ 8 = few-left c.args.rests.items c.loop-rest.left.items now c.in-Some.rest c.loop-rest.tasks.entries.items
    c.loop-rest.invariant c.in-Some.ensures.items c.requires in
    filling-on c.args.rests.items c.loop-rest.left.items now c.in-Some.rest c.loop-rest.tasks.entries.items c.add.new.self.entries.items
    _ c.loop-rest.invariant c.in-Some.ensures.items (grind (arith, few, c.len-in-Some.ensures)) c.in_ok-add.ensures.after

pub add-requires : goal.add-requires
add-requires c =
    let now = c.pop.new.self.items in
    not-yet c.args.rests.items c.loop-rest.left.items now c.in-Some.rest c.loop-rest.tasks.entries.items _
    c.loop-rest.invariant c.in-Some.ensures.items (grind (arith, c.len-in-Some.ensures))
