use Rattle.journal.specs.Ejects.{on_active}
use Rattle.plain_sites.specs.Turns.{done_by}
use Rattle.plain_sites.proofs.Turning.{on_eject-as}
use Rattle.plain_sites.proofs.effects.act_on.Goals as goal

pub returns : goal.returns
returns c ts t e it h may = on_eject-as ts c.args.node.now t c.args.uid (on_active (done_by c.args.deed c.args.process)) _
    (c.act_at.ensures ts e it h may)
