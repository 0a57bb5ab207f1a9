use Rattle.std.proofs.Common.{rules, ◌≡◌, ◌+◌, ◌/◌, arith, replicate}
use Rattle.block_tables.proofs.Marks.{marks-new}
use Rattle.block_tables.proofs.number_set.NumberSet.new.Goals as goal

pub invariant_of-result : goal.invariant_of-result
invariant_of-result c =
    let members : c.in_ok-vec.field-0.items ≡ replicate c.args.bound 0 = search rules in
    let groups : c.in_ok-vec-2.field-0.items ≡ replicate c.div_ceil.result 0 = search rules in
    let long : c.div_ceil.result ≡ (c.args.bound + 63) / 64 = omega (arith, c.div_ceil.ensures) in
    marks-new c.in_ok-vec-2.field-0.items c.in_ok-vec.field-0.items c.args.bound c.div_ceil.result members groups long c.ranges.bound.fits
