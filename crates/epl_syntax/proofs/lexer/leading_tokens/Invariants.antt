use Rattle.std.proofs.Common.{◌≤◌, ◌-◌, length}
use Rattle.epl_syntax.specs.Token.{Leads}
use Rattle.epl_syntax.proofs.lexer.leading_tokens.Given as goal

abbrev pub invariant-loop-kind : goal.invariant-loop-kind
invariant-loop-kind l = record {
  leads : Leads l.text 0 l.found.items l.at;
  within : l.at ≤ length l.text;
}

abbrev pub decreases-loop-kind : goal.decreases-loop-kind
decreases-loop-kind l = length l.text - l.at
