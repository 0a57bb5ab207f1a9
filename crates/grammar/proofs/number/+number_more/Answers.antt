use Rattle.std.proofs.Common.{◌<◌, ◌≤◌, ◌+◌, ◌-◌, ◌*◌, ◌^◌, arith}
use Rattle.grammar.proofs.Numbers.{pow_above}
use Rattle.grammar.proofs.Scale.{suc_of, scale_fits, next_fits, next_room, goes_on_at, stops_at}
use Rattle.grammar.proofs.number.+number_more.Goals as goal
use Rattle.grammar.proofs.number.+number_more.Goals.{else-next-most-via-then-next-most+else-least-scale, else-next-most-via-else-next-most}

pub pow-scale-requires : goal.pow-scale-requires
pow-scale-requires t c = scale_fits c.args.width c.args.begun c.if-width-eq0.false c.requires

pub overflow_mul-next : goal.overflow_mul-next
overflow_mul-next t c = omega (arith, next_fits c.args.width c.args.begun c.if-width-eq0.false c.requires)

pub overflow_add-next : goal.overflow_add-next
overflow_add-next t c =
    let b : c.from.result < 256 = omega (arith, c.type_inv.bytes 0) in
    omega (arith, next_fits c.args.width c.args.begun c.if-width-eq0.false c.requires)

pub nonzero_div-most : goal.nonzero_div-most
nonzero_div-most t c = omega (arith, pow_above (c.args.width - 1))

pub nonzero_div-least : goal.nonzero_div-least
nonzero_div-least t c = omega (arith, pow_above (c.args.width - 1))

pub number_more-requires : goal.number_more-requires
number_more-requires t c =
    let r : (c.args.begun * 256 + c.from.result + 1) * 256 ^ (c.args.width - 1) ≤ 2 ^ 64 =
    next_room c.args.width c.args.begun c.if-width-eq0.false c.requires c.from.result (omega (arith, c.type_inv.bytes 0)) in
    (omega (arith, suc_of c.args.width c.if-width-eq0.false, c.decreases), r)

pub returns-then-least-scale : goal.returns-then-least-scale
returns-then-least-scale t c =
    rw (goes_on_at c.args.least c.args.most c.args.width c.args.begun c.from.result c.pow-scale.result c.if-width-eq0.false
    c.pow-scale.ensures c.args.bytes.now c.in-len1-up.len_at_least c.from.ensures
    (omega (arith, c.type_inv.bytes 0)) c.if-next-most.true c.if-least-scale.true) c.number_more.ensures

pub returns-else-next-most : goal.returns-else-next-most
returns-else-next-most t c =
    stops_at c.args.least c.args.most c.args.width c.args.begun c.from.result c.pow-scale.result c.if-width-eq0.false c.pow-scale.ensures
    c.args.bytes.now c.in-len1-up.len_at_least c.from.ensures
    (λ high low. elim c.else-next-most.branch [
      | else-next-most-via-then-next-most+else-least-scale w ↦ omega
          (arith, w.if-least-scale.false)
      | else-next-most-via-else-next-most w ↦ omega (arith, w.if-next-most.false)
    ])
