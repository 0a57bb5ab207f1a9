use Rattle.std.proofs.Common.{◌≡◌, ◌≤◌, drop, false}
use Rattle.epl_syntax.specs.Form.{text_body, with_front}
use Rattle.epl_syntax.proofs.lexer.text_body.Given as goal

abbrev pub invariant-loop-i : goal.invariant-loop-i
invariant-loop-i l = record {
  so_far : with_front l.i l.stands (text_body l.escaped (drop l.i l.bytes)) ≡ text_body false l.bytes;
  few : l.stands ≤ l.i;
}
