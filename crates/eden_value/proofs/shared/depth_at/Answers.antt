use Rattle.eden_value.specs.View.{datum, datums}
use Rattle.eden_value.specs.Limits.{depth, depth_of}
use Rattle.eden_value.proofs.Rows.{list_depth, one_deeper}
use Rattle.eden_value.proofs.shared.depth_at.Goals as goal

pub returns-in-List : goal.returns-in-List
returns-in-List c =
    let raw = datums c.items.inside.values.value.items in
    one_deeper c.saturating_add.result c.items.inside.depth (depth (datum c.args.value.now)) (depth_of raw) c.saturating_add.ensures
    c.items.invariant (list_depth c.args.value.now c.in-List.items raw c.in-List.is c.items.view_is)
