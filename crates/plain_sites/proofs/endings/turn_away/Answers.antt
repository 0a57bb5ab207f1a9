use Rattle.std.proofs.Common.{◌∙◌, ap}
use Rattle.eden_model.specs.Traffic.{all_replied}
use Rattle.plain_calls.specs.View.{traffic_of}
use Rattle.plain_sites.proofs.Sites.{turned-as}
use Rattle.plain_sites.proofs.endings.turn_away.Goals as goal

pub returns : goal.returns
returns c ts order passive = turned-as ts c.args.node.now _ _ c.args.uid c.args.status _ _ (c.take_queue-queued.ensures.queued ts passive)
    (c.take_queue-queued.ensures.after ts order passive)
    (c.in_ok-reply_all.ensures ∙ ap (λ l. all_replied c.args.status l (traffic_of c.args.calls.now)) c.as_slice.ensures)
