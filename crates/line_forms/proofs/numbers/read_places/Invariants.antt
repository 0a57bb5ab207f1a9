use Rattle.std.proofs.Common.{◌≡◌, ◌++◌, drop, length, Ok}
use Rattle.script_words.specs.Reading.{◌>>=◌}
use Rattle.line_forms.specs.Reading.{read_places}
use Rattle.line_forms.specs.Words.{nows, AllDigits}
use Rattle.line_forms.proofs.numbers.read_places.Given as goal

abbrev pub invariant-loop-place : goal.invariant-loop-place
invariant-loop-place l = record {
  read : read_places l.places l.bytes
      ≡ (read_places (drop l.place-index l.places) l.rest >>= λ found. Ok (nows l.words.items ++ found.0, found.1));
  digits : AllDigits l.words.items;
  count : length l.words.items ≡ l.place-index;
}
