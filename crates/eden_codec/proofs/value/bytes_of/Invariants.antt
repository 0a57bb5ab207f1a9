use Rattle.std.proofs.Common.{◌≡◌, ◌-◌}
use Rattle.grammar.specs.Reading.{times}
use Rattle.eden_codec.specs.Alphabet.{in_alphabet}
use Rattle.grammar.specs.Reading.{one_of}
use Rattle.grammar.proofs.Loop.{with_front}
use Rattle.eden_codec.proofs.value.bytes_of.Given as goal

abbrev pub invariant-loop : goal.invariant-loop
invariant-loop l = with_front l.found.items (times (l.count - l.counter) (one_of (in_alphabet l.alphabet)) l.rest) ≡ times l.count
    (one_of (in_alphabet l.alphabet)) l.bytes
