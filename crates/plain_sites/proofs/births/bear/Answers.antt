use Rattle.plain_sites.proofs.Sites.{born-as}
use Rattle.plain_sites.proofs.births.bear.Goals as goal

pub returns : goal.returns
returns c ts t none empty = born-as ts c.args.node.now t c.args.uid _ _ _ none
    (c.created-eject.ensures ts empty) (c.in_ok-add.ensures ts none)
