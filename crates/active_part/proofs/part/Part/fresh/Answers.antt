use Rattle.active_part.proofs.Filling.{fresh-body, fresh-queue, fresh-tasks}
use Rattle.active_part.proofs.Rests.{fresh-fit}
use Rattle.edentypes.specs.View.{kind_in}
use Rattle.active_part.proofs.part.Part.fresh.Goals as goal

pub returns-clause-active : goal.returns-clause-active
returns-clause-active c =
    fresh-body c.args.types.now c.args.kind c.args.vars c.in_ok-tasks.tasks c.in_ok-crew.crew c.in_ok-setup.setup
    c.in_ok-rests.rests.items c.in_ok-crew.ensures c.in_ok-setup.ensures.same c.in_ok-tasks.ensures c.in_ok-rests.ensures.begin

pub returns-clause-queued : goal.returns-clause-queued
returns-clause-queued c = fresh-queue c.in_ok-crew.crew c.in_ok-setup.setup c.in_ok-crew.ensures

pub invariant_of-result : goal.invariant_of-result
invariant_of-result c =
    let t = kind_in c.args.types.now c.args.kind in
    record {
      tasks_are = fresh-tasks t c.in_ok-tasks.tasks.entries.items c.in_ok-crew.crew c.in_ok-setup.setup c.in_ok-rests.rests.items
          c.in_ok-crew.ensures c.in_ok-setup.ensures.same (c.in_ok-tasks.ensures t) c.in_ok-rests.ensures.begin;
      values_fit = c.requires;
      rests_fit = fresh-fit c.args.kind t c.in_ok-rests.rests.items c.in_ok-tasks.tasks.entries.items (c.in_ok-tasks.ensures t)
          c.in_ok-rests.ensures.fit;
    }
