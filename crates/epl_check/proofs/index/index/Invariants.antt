use Rattle.std.proofs.Common.{◌≡◌, ◌≤◌, ℕ, List, length, drop, map}
use Rattle.epl_syntax.specs.Rules.Scopes.{number_in}
use Rattle.epl_check.specs.Numbered.{at}
use Rattle.epl_check.proofs.index.index.Given as goal

abbrev pub invariant-loop-i : goal.invariant-loop-i
invariant-loop-i g l = record {
  placed : l.i ≤ length l.items;
  numbered : (text : List ℕ) → at l.numbers text ≡ number_in (map g.T.Named.named (drop l.i l.items)) text l.i;
}

abbrev pub decreases-loop-i : goal.decreases-loop-i
decreases-loop-i g l = l.i
