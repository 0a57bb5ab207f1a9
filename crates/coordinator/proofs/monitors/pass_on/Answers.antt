use Rattle.std.proofs.Common.{◌-◌, sym, arith}
use Rattle.coordinator.proofs.Crews.{found, pass-some, pass-none}
use Rattle.coordinator.proofs.monitors.pass_on.Goals as goal

pub returns-in-Some-clause-crew : goal.returns-in-Some-clause-crew
returns-in-Some-clause-crew c ls cs =
    pass-some ls cs c.args.slots.now.items c.args.monitors.now.items c.index_mut-entered.result.now _ c.args.monitor c.in-Some.next _
    (found c.args.monitors.now.items (c.args.monitor - 1) c.index_mut-entered.result.now (omega (arith, c.requires.from, c.requires.to))
    c.index_mut-entered.ensures.value)
    (sym c.in-Some.ensures.next) c.pass.ensures.monitor c.set_slots.ensures

pub returns-in_default-clause-crew : goal.returns-in_default-clause-crew
returns-in_default-clause-crew c ls cs =
    pass-none ls cs c.args.slots.now.items c.args.monitors.now.items c.index_mut-entered.result.now _ c.args.monitor
    (found c.args.monitors.now.items (c.args.monitor - 1) c.index_mut-entered.result.now (omega (arith, c.requires.from, c.requires.to))
    c.index_mut-entered.ensures.value)
    (sym c.in_default.ensures.next) c.pass.ensures.monitor
