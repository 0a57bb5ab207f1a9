use Rattle.std.proofs.Common.{◌≡◌, ℕ, ◌<◌, ◌≤◌, ◌-◌, length, true}
use Rattle.std.specs.Prelude.{slice_index}
use Rattle.epl_syntax.specs.Form.{is_blank}
use Rattle.epl_syntax.proofs.lexer.blanks_end.Given as goal

abbrev pub invariant-loop-at : goal.invariant-loop-at
invariant-loop-at l = record {
  forward : l.from ≤ l.at;
  within : l.at ≤ length l.text;
  blank : (k : ℕ) → l.from ≤ k → k < l.at → is_blank (slice_index l.text k) ≡ true;
}

abbrev pub decreases-loop-at : goal.decreases-loop-at
decreases-loop-at l = length l.text - l.at
