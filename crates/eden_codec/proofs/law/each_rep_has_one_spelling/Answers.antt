use Rattle.grammar.proofs.FirstBad.{one_value, no_prefix, one_place}
use Rattle.eden_codec.specs.Spells.{SpellsRep}
use Rattle.eden_codec.specs.Reading.{rep_at}
use Rattle.eden_codec.proofs.Whole.{rep_exact, reading_spelled, spelled_reading}
use Rattle.eden_codec.proofs.OneSpelling.{spelled, spelled_has_form, spelling_is, one_spelling}
use Rattle.eden_codec.proofs.law.each_rep_has_one_spelling.Goals as goal

pub returns : goal.returns
returns c = record {
  spelled = spelled;
  only = spelled_has_form;
  one = one_spelling;
  own = one_value SpellsRep rep_at rep_exact;
  apart = no_prefix SpellsRep rep_at rep_exact;
  computed = spelling_is;
  place = one_place SpellsRep;
  read = λ bytes r. (reading_spelled bytes r, spelled_reading bytes r);
}
