use Rattle.std.proofs.Common.{◌∙◌}
use Rattle.plain_stores.proofs.Nodes.{epoch-new}
use Rattle.plain_stores.proofs.PlainNode.epoch_picked.Goals as goal

pub returns-in-New : goal.returns-in-New
returns-in-New c ts = c.or.ensures ∙ epoch-new ts c.args.self.now c.args.pick c.in-New.is
