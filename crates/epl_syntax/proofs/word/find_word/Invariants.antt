use Rattle.std.proofs.Common.{◌≡◌, length, map}
use Rattle.epl_syntax.specs.Words.{word_in}
use Rattle.epl_syntax.proofs.word.find_word.Given as goal

abbrev pub invariant-loop-table : goal.invariant-loop-table
invariant-loop-table l = word_in (map (λ k. (k.0.now, k.1)) l.table) l.name ≡ word_in (map (λ k. (k.0.now, k.1)) l.initial.table) l.name

abbrev pub decreases-loop-table : goal.decreases-loop-table
decreases-loop-table l = length l.table
