use Rattle.std.proofs.Common.{◌≡◌, drop, map}
use Rattle.mistakes.specs.Words.{look_up}
use Rattle.mistakes.proofs.told.look_up.Given as goal

abbrev pub invariant-loop-entry : goal.invariant-loop-entry
invariant-loop-entry l =
    look_up (map (λ e. (e.0.now, e.1.now)) (drop l.entry-index l.table)) l.word ≡ look_up (map (λ e. (e.0.now, e.1.now)) l.table) l.word
