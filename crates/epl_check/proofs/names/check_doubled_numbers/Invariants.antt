use Rattle.std.proofs.Common.{◌≡◌, ◌≤◌, length, drop, map}
use Rattle.epl_syntax.specs.Rules.First.{least}
use Rattle.epl_syntax.specs.Rules.Scopes.{doubled_numbers}
use Rattle.epl_check.specs.Numbered.{HasPlaces}
use Rattle.epl_check.proofs.names.check_doubled_numbers.Given as goal

abbrev pub invariant-loop-i : goal.invariant-loop-i
invariant-loop-i l = record {
  placed : l.i ≤ length l.upgrades;
  places : HasPlaces l.places (map (λ u. u.from) (drop l.i l.upgrades));
  told : l.first ≡ least l.fn.first (doubled_numbers (map (λ u. u.from) (drop l.i l.upgrades)));
}

abbrev pub decreases-loop-i : goal.decreases-loop-i
decreases-loop-i l = l.i
