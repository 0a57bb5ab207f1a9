use Rattle.std.proofs.Common.{◌∙◌}
use Rattle.plain_stores.proofs.Nodes.{epoch-none, epoch-some}
use Rattle.plain_stores.proofs.PlainNode.epoch_by.Goals as goal

pub returns-in-Some : goal.returns-in-Some
returns-in-Some c ts t =
    c.epoch_picked.ensures ts ∙ epoch-some ts t c.args.self.now c.args.pick c.in-Some.made c.in-Some.is

pub returns-in-None : goal.returns-in-None
returns-in-None c ts t = epoch-none ts t c.args.self.now c.args.pick c.in-None.is
