use Rattle.eden_value.specs.View.{datum, datums}
use Rattle.eden_value.specs.Limits.{depth, depth_of}
use Rattle.eden_value.proofs.Rows.{list_depth, shallow}
use Rattle.eden_value.proofs.limits.is_shallow.Goals as goal

pub returns-in-List : goal.returns-in-List
returns-in-List c =
    let raw = datums c.items.inside.values.value.items in
    shallow c.items.inside.depth (depth (datum c.args.value.now)) (depth_of raw) c.args.most c.items.invariant
    (list_depth c.args.value.now c.in-List.items raw c.in-List.is c.items.view_is) c.ranges.most.fits
