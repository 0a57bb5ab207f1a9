use Rattle.std.proofs.Common.{◌≡◌, ◌++◌, drop, map}
use Rattle.std.specs.List.{filter}
use Rattle.mistakes.specs.Words.{is_kept}
use Rattle.mistakes.proofs.told.kept.Given as goal

abbrev pub invariant-loop-word : goal.invariant-loop-word
invariant-loop-word l =
    map (λ w. w.now) l.found.items ++ filter (is_kept (map (λ w. w.now) l.wanted)) (map (λ w. w.now) (drop l.word-index l.wanted))
    ≡ filter (is_kept (map (λ w. w.now) l.wanted)) (map (λ w. w.now) l.wanted)
