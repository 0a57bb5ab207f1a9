use Rattle.journal.specs.Ejects.{on_active}
use Rattle.journal.specs.Processes.{without_process}
use Rattle.plain_sites.proofs.Turning.{on_eject-as}
use Rattle.plain_sites.proofs.effects.ends.Goals as goal

pub returns : goal.returns
returns c ts t e it h = on_eject-as ts c.args.node.now t c.args.uid (on_active (without_process c.args.process)) _
    (c.end_at-served.ensures.after ts e it h)
