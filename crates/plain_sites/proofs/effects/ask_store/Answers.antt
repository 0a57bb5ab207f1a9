use Rattle.plain_ejects.specs.View.{change_of}
use Rattle.plain_sites.proofs.Turning.{asked-as}
use Rattle.plain_sites.proofs.effects.ask_store.Goals as goal

pub returns : goal.returns
returns c ts t e it h = asked-as ts c.args.node.now c.act_on.new.node c.ask.new.self t c.args.uid c.args.process (change_of c.args.wish)
    (c.act_on.ensures ts t e it h tt) c.in_ok-ask.ensures.number (c.in_ok-ask.ensures.node ts)
