use Rattle.std.proofs.Common.{◌≡◌, ◌-◌, sym, ◌∙◌, ap, arith}
use Rattle.eden_model.specs.Map.{is_none}
use Rattle.coordinator.specs.declared.monitors.Monitor.{Monitor as MonitorParts}
use Rattle.coordinator.proofs.Crews.{found, free-is, entered-free, entered-held, none-is, none-free}
use Rattle.coordinator.proofs.monitors.admit.Goals as goal

pub returns-then-is_none-clause-crew : goal.returns-then-is_none-clause-crew
returns-then-is_none-clause-crew c ls cs =
    let monitors = c.args.monitors.now.items in
    let at = found monitors (c.args.monitor - 1) c.index.result.now (omega (arith, c.requires.from, c.requires.to)) c.index.ensures in
    let is = found monitors (c.args.monitor - 1) c.index_mut-entered.result.now (omega (arith, c.requires.from, c.requires.to))
    c.index_mut-entered.ensures.value in
    let same : c.index.result.now ≡ c.index_mut-entered.result.now = (let both = sym at ∙ is in cc) in
    entered-free ls cs c.args.slots.now.items monitors c.index_mut-entered.result.now c.args.process c.args.monitor is
    (ap (λ (g : MonitorParts). is_none g.holder) (sym same) ∙ none-free _ c.if-is_none.ensures)

pub returns-else-is_none-clause-held : goal.returns-else-is_none-clause-held
returns-else-is_none-clause-held c ls cs =
    let monitors = c.args.monitors.now.items in
    let is = found monitors (c.args.monitor - 1) c.index.result.now (omega (arith, c.requires.from, c.requires.to)) c.index.ensures in
    sym (none-is _ c.if-is_none.ensures) ∙ free-is ls cs c.args.slots.now.items monitors c.index.result.now c.args.monitor is

pub returns-else-is_none-clause-crew : goal.returns-else-is_none-clause-crew
returns-else-is_none-clause-crew c ls cs =
    let monitors = c.args.monitors.now.items in
    let is = found monitors (c.args.monitor - 1) c.index.result.now (omega (arith, c.requires.from, c.requires.to)) c.index.ensures in
    c.join.ensures.crew ls cs ∙ entered-held ls cs c.args.slots.now.items monitors c.index.result.now c.args.process c.args.monitor is
    (none-is _ c.if-is_none.ensures)
