use Rattle.std.proofs.Common.{◌≡◌, drop, map}
use Rattle.mistakes.specs.Words.{is_covered}
use Rattle.mistakes.proofs.told.is_covered.Given as goal

abbrev pub invariant-loop-entry : goal.invariant-loop-entry
invariant-loop-entry l =
    is_covered (map (λ e. (e.0.now, e.1.now)) (drop l.entry-index l.table)) (map (λ w. w.now) l.wanted) l.word
    ≡ is_covered (map (λ e. (e.0.now, e.1.now)) l.table) (map (λ w. w.now) l.wanted) l.word
