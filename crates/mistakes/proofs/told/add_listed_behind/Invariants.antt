use Rattle.std.proofs.Common.{◌≡◌, ◌++◌, drop, map}
use Rattle.mistakes.specs.Words.{listed_behind}
use Rattle.mistakes.proofs.told.add_listed_behind.Given as goal

abbrev pub invariant-loop-text : goal.invariant-loop-text
invariant-loop-text l =
    l.out.items ++ listed_behind (map (λ w. w.now) (drop l.text-index l.texts))
    ≡ l.fn.out.items ++ listed_behind (map (λ w. w.now) l.texts)
