use Rattle.std.specs.Vec.{vec_len}
use Rattle.std.proofs.Common.{◌≡◌, length, ap, arith, rules}
use Rattle.std.proofs.lemmas.Int.{ints}
use Rattle.epl_values.proofs.Operands.{size_listed}
use Rattle.epl_values.proofs.builtin.size_of.Goals as goal

pub returns-in-List : goal.returns-in-List
returns-in-List c =
    let vs = c.items.inside.values.value.items in
    let size : c.len-in-List.result ≡ length vs
    = omega (arith, c.len-in-List.ensures, ap vec_len c.deref-in-List.ensures, c.items.inside.values.value.ok) in
    size_listed c.args.value.now c.in-List.items vs c.len-in-List.result _ c.in-List.is c.items.view_is size
    (omega (arith, ints, c.len-in-List.ensures, ap vec_len c.deref-in-List.ensures, c.items.inside.values.value.ok))
