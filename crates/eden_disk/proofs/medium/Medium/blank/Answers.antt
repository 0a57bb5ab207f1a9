use Rattle.eden_disk.proofs.Kept.{blank_kept}
use Rattle.eden_disk.proofs.medium.Medium.blank.Goals as goal

pub invariant_of-result : goal.invariant_of-result
invariant_of-result c =
    blank_kept _ c.args.size _ _ _ _ _ c.tell.ensures c.blank.ensures c.blank-2.ensures c.new.ensures.items c.ranges.size.fits
