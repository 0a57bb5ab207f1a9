use Rattle.std.proofs.Common.{rules, ◌≡◌, ◌+◌, ◌/◌, arith, replicate}
use Rattle.block_tables.proofs.Greatest.{peaks-fresh}
use Rattle.block_tables.proofs.peaks.Peaks.new.Goals as goal

pub invariant_of-result : goal.invariant_of-result
invariant_of-result c =
    let values : c.in_ok-vec.field-0.items ≡ replicate c.args.count 0 = search rules in
    let groups : c.in_ok-vec-2.field-0.items ≡ replicate c.div_ceil.result 0 = search rules in
    let long : c.div_ceil.result ≡ (c.args.count + 63) / 64 = omega (arith, c.div_ceil.ensures) in
    peaks-fresh c.in_ok-vec-2.field-0.items c.in_ok-vec.field-0.items c.args.count c.div_ceil.result values groups long
