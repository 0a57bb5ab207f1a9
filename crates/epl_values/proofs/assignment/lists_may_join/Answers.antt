use Rattle.std.specs.Vec.{vec_len}
use Rattle.std.proofs.Common.{◌≡◌, length, sym, ap, ◌∙◌, arith, nat_le}
use Rattle.eden_value.specs.Limits.{depth_of}
use Rattle.eden_value.specs.View.{datums}
use Rattle.epl_values.proofs.Growth.{too_long, left_too_deep, right_too_deep, within_limits}
use Rattle.epl_values.proofs.assignment.lists_may_join.Goals as goal

pub returns-then-len-gt-LIST_LIMIT : goal.returns-then-len-gt-LIST_LIMIT
returns-then-len-gt-LIST_LIMIT c =
    let n : c.len.result ≡ length c.a.inside.values.value.items
    = omega (arith, c.len.ensures, ap vec_len c.deref.ensures, c.a.inside.values.value.ok) in
    let k : c.len-2.result ≡ length c.b.inside.values.value.items
    = omega (arith, c.len-2.ensures, ap vec_len c.deref-2.ensures, c.b.inside.values.value.ok) in
    too_long c.a.inside.values.value.items c.b.inside.values.value.items c.args.a.now c.args.b.now c.len.result c.len-2.result
    c.a.view_is c.b.view_is
    n k
    (omega (arith, c.if-len-gt-LIST_LIMIT.true))

pub returns-then-not-are_shallow : goal.returns-then-not-are_shallow
returns-then-not-are_shallow c =
    let n : c.len.result ≡ length c.a.inside.values.value.items
    = omega (arith, c.len.ensures, ap vec_len c.deref.ensures, c.a.inside.values.value.ok) in
    let k : c.len-2.result ≡ length c.b.inside.values.value.items
    = omega (arith, c.len-2.ensures, ap vec_len c.deref-2.ensures, c.b.inside.values.value.ok) in
    left_too_deep c.a.inside.values.value.items c.b.inside.values.value.items c.args.a.now c.args.b.now c.len.result c.len-2.result
    c.a.view_is
    c.b.view_is
    n k (omega (arith, c.if-len-gt-LIST_LIMIT.false))
    (c.if-not-are_shallow.ensures ∙ ap (λ ds. nat_le (depth_of ds) 3) (c.as_slice.ensures ∙ sym c.a.view_is))

pub returns-then-not-are_shallow-2 : goal.returns-then-not-are_shallow-2
returns-then-not-are_shallow-2 c =
    let n : c.len.result ≡ length c.a.inside.values.value.items
    = omega (arith, c.len.ensures, ap vec_len c.deref.ensures, c.a.inside.values.value.ok) in
    let k : c.len-2.result ≡ length c.b.inside.values.value.items
    = omega (arith, c.len-2.ensures, ap vec_len c.deref-2.ensures, c.b.inside.values.value.ok) in
    right_too_deep c.a.inside.values.value.items c.b.inside.values.value.items c.args.a.now c.args.b.now c.len.result c.len-2.result
    c.a.view_is
    c.b.view_is
    n k (omega (arith, c.if-len-gt-LIST_LIMIT.false))
    (c.if-not-are_shallow-2.ensures ∙ ap (λ ds. nat_le (depth_of ds) 3) (c.as_slice-2.ensures ∙ sym c.b.view_is))

pub returns : goal.returns
returns c =
    let n : c.len.result ≡ length c.a.inside.values.value.items
    = omega (arith, c.len.ensures, ap vec_len c.deref.ensures, c.a.inside.values.value.ok) in
    let k : c.len-2.result ≡ length c.b.inside.values.value.items
    = omega (arith, c.len-2.ensures, ap vec_len c.deref-2.ensures, c.b.inside.values.value.ok) in
    within_limits c.a.inside.values.value.items c.b.inside.values.value.items c.args.a.now c.args.b.now c.len.result c.len-2.result
    c.a.view_is
    c.b.view_is
    n k (omega (arith, c.if-len-gt-LIST_LIMIT.false))
    (c.if-not-are_shallow.ensures ∙ ap (λ ds. nat_le (depth_of ds) 3) (c.as_slice.ensures ∙ sym c.a.view_is))
    (c.if-not-are_shallow-2.ensures ∙ ap (λ ds. nat_le (depth_of ds) 3) (c.as_slice-2.ensures ∙ sym c.b.view_is))
