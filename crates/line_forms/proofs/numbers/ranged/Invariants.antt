use Rattle.std.proofs.Common.{◌≡◌, ◌++◌, drop, Ok}
use Rattle.script_words.specs.Reading.{◌>>=◌}
use Rattle.line_forms.specs.Reading.{ranged}
use Rattle.line_forms.specs.Words.{nows}
use Rattle.line_forms.proofs.numbers.ranged.Given as goal

abbrev pub invariant-loop-i : goal.invariant-loop-i
invariant-loop-i l =
    ranged l.most l.places (nows l.words)
    ≡ (ranged l.most (drop l.i l.places) (nows (drop l.i l.words)) >>= λ ns. Ok (l.numbers.items ++ ns))
