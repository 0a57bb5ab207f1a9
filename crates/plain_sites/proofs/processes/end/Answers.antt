use Rattle.eden_model.specs.Crew.{Runs}
use Rattle.plain_ejects.specs.View.{eject_of}
use Rattle.plain_sites.proofs.Turning.{if-and, not-run, part-and}
use Rattle.plain_sites.proofs.processes.end.Goals as goal

pub returns-then-runs-clause-served : goal.returns-then-runs-clause-served
returns-then-runs-clause-served c ts it is runs = if-and (eject_of ts c.args.eject.now).active it _ (c.end.ensures.served ts) is

pub returns-then-runs-clause-after : goal.returns-then-runs-clause-after
returns-then-runs-clause-after c ts it is runs = c.end.ensures.after ts

pub returns-else-runs-clause-served : goal.returns-else-runs-clause-served
returns-else-runs-clause-served c ts it is runs = absurd (not-run c.runs.result _ c.runs.ensures.runs c.if-runs.false
    (part-and ts c.args.eject.now it (λ a. Runs a.crew c.args.process) is runs))

pub returns-else-runs-clause-after : goal.returns-else-runs-clause-after
returns-else-runs-clause-after c ts it is runs = absurd (not-run c.runs.result _ c.runs.ensures.runs c.if-runs.false
    (part-and ts c.args.eject.now it (λ a. Runs a.crew c.args.process) is runs))
