use Rattle.std.proofs.Common.{◌≡◌, ◌≤◌, drop}
use Rattle.epl_syntax.specs.Form.{decimal_from}
use Rattle.epl_syntax.proofs.lexer.number.Given as goal

abbrev pub invariant-loop-d : goal.invariant-loop-d
invariant-loop-d l = record {
  so_far : decimal_from l.value (drop l.d-index l.digits) ≡ decimal_from 0 l.digits;
  small : l.value ≤ 9223372036854775807;
}
