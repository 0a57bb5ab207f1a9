use Rattle.eden_model.specs.Crew.{Runs}
use Rattle.plain_sites.specs.Turns.{MayDo}
use Rattle.plain_sites.proofs.Turning.{not-run, part-and, part-if}
use Rattle.plain_sites.proofs.processes.act.Goals as goal

pub returns-then-runs : goal.returns-then-runs
returns-then-runs c ts it is runs may = c.carry.ensures ts
    (part-if ts c.args.eject.now it (λ a. MayDo c.args.deed c.args.process a.crew) is may)

pub returns-else-runs : goal.returns-else-runs
returns-else-runs c ts it is runs may = absurd (not-run c.runs.result _ c.runs.ensures.runs c.if-runs.false
    (part-and ts c.args.eject.now it (λ a. Runs a.crew c.args.process) is runs))

pub carry-requires : goal.carry-requires
carry-requires c = c.runs.ensures.may c.if-runs.true
