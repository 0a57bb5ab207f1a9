use Rattle.std.proofs.Common.{sym, ◌∙◌}
use Rattle.grammar.proofs.Numbers.{number_is, number_spelled}
use Rattle.grammar.proofs.Same.{same_number, no_longer}
use Rattle.grammar.proofs.law.numbers_have_one_spelling.Goals as goal

pub returns : goal.returns
returns c = record {
  spelled = number_spelled;
  one = λ width least most n x y s t. number_is width least most x n s ∙ sym (number_is width least most y n t);
  own = same_number;
  apart = no_longer;
}
