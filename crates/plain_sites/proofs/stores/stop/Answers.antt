use Rattle.std.proofs.Common.{◌∙◌, ap}
use Rattle.journal.specs.Crashes.{crashed}
use Rattle.plain_calls.specs.View.{traffic_of}
use Rattle.plain_sites.proofs.StoreTurns.{for-first}
use Rattle.plain_sites.proofs.stores.stop.Goals as goal

pub returns : goal.returns
returns c ts r h = c.crash.ensures ts
    ∙ ap crashed (for-first _ _ r (c.in_ok-doubt_first.ensures ts (traffic_of c.args.calls.now) h.in_order) h.first)
