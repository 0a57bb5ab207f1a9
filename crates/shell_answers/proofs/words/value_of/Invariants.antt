use Rattle.std.proofs.Common.{◌≡◌, ◌^◌, ◌<◌, drop}
use Rattle.shell_answers.specs.Words.{number_from}
use Rattle.shell_answers.proofs.words.value_of.Given as goal

abbrev pub invariant-loop-digit : goal.invariant-loop-digit
invariant-loop-digit l = record {
  so_far : number_from l.value (drop l.digit-index l.digits) ≡ number_from 0 l.digits;
  fits : l.value < 10 ^ l.digit-index;
}
