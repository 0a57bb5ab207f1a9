use Rattle.std.proofs.Common.{◌-◌, refl, arith}
use Rattle.coordinator.proofs.Crews.{found, joined}
use Rattle.coordinator.proofs.monitors.join.Goals as goal

pub returns-clause-crew : goal.returns-clause-crew
returns-clause-crew c ls cs =
    joined ls cs c.args.slots.now.items c.args.monitors.now.items c.index_mut-entered.result.now _ c.args.process c.args.monitor _
    (found c.args.monitors.now.items (c.args.monitor - 1) c.index_mut-entered.result.now (omega (arith, c.requires.from, c.requires.to))
    c.index_mut-entered.ensures.value)
    (rw c.push.ensures refl) c.set_slots.ensures
