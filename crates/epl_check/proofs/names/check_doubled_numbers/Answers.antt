use Rattle.std.proofs.Common.{◌≡◌, ◌+◌, ◌-◌, ◌<◌, length, get_or, ap, arith}
use Rattle.epl_check.proofs.DoubledNumbers.{numbers_turn, places_turn}
use Rattle.epl_check.proofs.names.check_doubled_numbers.Goals as goal

pub loop-i-preserved : goal.loop-i-preserved
loop-i-preserved c =
    let xs = c.args.upgrades.now in
    let i = c.loop-i.i in
    let x = get_or xs (i - 1) c.index-upgrades-i.result in
    let here : x ≡ get_or xs (i - 1) x = ap (get_or xs (i - 1)) c.index-upgrades-i.is in
    let v = c.loop-i.invariant in
    let told = c.in_ok-check_same_number.ensures in
    let down : i ≡ (i - 1) + 1 = omega (arith, c.loop-i-test.true) in
    let below : i - 1 < length xs = omega (arith, c.loop-i-test.true, v.placed) in
    record {
      placed = omega (arith, v.placed);
      places = places_turn (λ u. u.from) xs i (i - 1) x c.loop-i.places c.check_same_number.new.places down below here v.places told.placed;
      told = numbers_turn (λ u. u.from) xs i (i - 1) x c.loop-i.places c.args.first.now c.loop-i.first c.check_same_number.new.first
          down below here v.places v.told told.told;
    }
