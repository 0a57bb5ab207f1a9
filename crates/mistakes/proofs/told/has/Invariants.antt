use Rattle.std.proofs.Common.{◌≡◌, drop, map}
use Rattle.script_words.specs.Form.{is_among}
use Rattle.mistakes.proofs.told.has.Given as goal

abbrev pub invariant-loop-one : goal.invariant-loop-one
invariant-loop-one l = is_among (map (λ w. w.now) (drop l.one-index l.words)) l.word ≡ is_among (map (λ w. w.now) l.words) l.word
