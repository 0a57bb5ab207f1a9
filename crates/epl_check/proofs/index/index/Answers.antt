use Rattle.std.proofs.Common.{◌≡◌, ◌-◌, rules, arith}
use Rattle.epl_check.proofs.Named.{index_turn}
use Rattle.epl_check.proofs.index.index.Goals as goal

pub loop-i-preserved : goal.loop-i-preserved
loop-i-preserved g c =
    let i = c.loop-i.i in
    let x = c.index-items-i.result in
    let key : c.in_ok-bytes.bytes.items ≡ (g.T.Named.named x).text = search rules in
    let numbered =
    index_turn g.T.Named.named c.args.items.now i (i - 1) x c.loop-i.numbers c.insert.new.self c.in_ok-bytes.bytes
    (omega (arith, c.loop-i-test.true))
    (omega (arith, c.loop-i-test.true, c.loop-i.invariant.placed)) c.index-items-i.is key c.in_ok-insert.ensures.entries
    c.loop-i.invariant.numbered in
    record { placed = omega (arith, c.loop-i.invariant.placed); numbered = numbered }
