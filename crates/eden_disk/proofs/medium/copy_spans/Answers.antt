use Rattle.std.proofs.Common.{arith}
use Rattle.eden_disk.proofs.Kept.{spans_copied}
use Rattle.eden_disk.proofs.medium.copy_spans.Goals as goal

pub returns : goal.returns
returns c = spans_copied _ _ _ c.args.spans.now.items c.loop-span.span-index c.loop-span.invariant.after
    (omega (arith, c.loop-span.auto.span-index-end, c.deref-span-items.ensures.len, c.args.spans.now.ok)) c.requires.same c.requires.fit
    c.requires.elsewhere
