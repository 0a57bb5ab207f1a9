use Rattle.std.proofs.Common.{◌≡◌, ◌≤◌, ◌+◌, length}
use Rattle.script_words.specs.Lines.{lines_of}
use Rattle.eden_script.specs.Flaws.{line_flaw}
use Rattle.eden_script.proofs.flaw.line_flaw.Given as goal

abbrev pub invariant-loop-rest : goal.invariant-loop-rest
invariant-loop-rest l = record {
  told : line_flaw l.line (lines_of l.rest) ≡ line_flaw 0 (lines_of l.bytes);
  counted : l.line + length l.rest ≤ length l.bytes;
}

abbrev pub decreases-loop-rest : goal.decreases-loop-rest
decreases-loop-rest l = length l.rest
