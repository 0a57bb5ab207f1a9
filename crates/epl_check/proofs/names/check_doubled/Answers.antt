use Rattle.std.proofs.Common.{◌+◌, ◌-◌, map, take, drop, length, ap, ◌∙◌}
use Rattle.epl_syntax.specs.Rules.First.{least}
use Rattle.epl_syntax.specs.Rules.Scopes.{clashes}
use Rattle.epl_check.proofs.Doubled.{doubled_turn, behind}
use Rattle.epl_check.proofs.names.check_doubled.Goals as goal

pub loop-i-preserved : goal.loop-i-preserved
loop-i-preserved g c =
    let xs = c.args.a.now in
    let j = c.loop-i.i + 1 in
    let rest = take (length xs - j) (drop j xs) in
    let b = map g.B.Named.named c.args.b.now in
    let d = map g.C.Named.named c.args.c.now in
    let n = c.name-name.ensures in
    let o = c.loop-i.first in
    let o1 = c.check_clashes.new.first in
    let o2 = c.check_clashes-in-loop-i.new.first in
    let first = c.check_clashes.ensures ∙ ap (λ m. least o (clashes m (map g.A.Named.named rest))) n in
    let second = c.check_clashes-in-loop-i.ensures ∙ ap (λ m. least o1 (clashes m b)) n in
    let third = c.check_clashes-in-loop-i-2.ensures ∙ ap (λ m. least o2 (clashes m d)) n in
    doubled_turn g.A.Named.named xs rest b d c.loop-i.i c.index-a-i.result o o1 o2 c.check_clashes-in-loop-i-2.new.first _
    c.loop-i-test.true c.index-a-i.is (behind xs j) first second third c.loop-i.invariant
