use Rattle.std.specs.Vec.{vec_len}
use Rattle.std.proofs.Common.{◌≡◌, length, ap, arith}
use Rattle.epl_values.proofs.Growth.{texts_within}
use Rattle.epl_values.proofs.assignment.texts_may_join.Goals as goal

pub returns : goal.returns
returns c =
    let n : c.len.result ≡ length c.args.a.now
    = omega (arith, c.len.ensures, ap vec_len c.deref.ensures, c.a.inside.bytes.value.ok, ap length c.a.view_is) in
    let k : c.len-2.result ≡ length c.args.b.now
    = omega (arith, c.len-2.ensures, ap vec_len c.deref-2.ensures, c.b.inside.bytes.value.ok, ap length c.b.view_is) in
    texts_within c.args.a.now c.args.b.now (omega (arith, c.if-len-gt-TEXT_LIMIT.false, n, k))
