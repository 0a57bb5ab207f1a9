use Rattle.std.proofs.Common.{◌≡◌, ◌≤◌, length}
use Rattle.eden_script.specs.Parts.{line_at}
use Rattle.script_words.specs.Lines.{lines_of}
use Rattle.mistakes.proofs.cut.line_behind.Given as goal

abbrev pub invariant-loop-line : goal.invariant-loop-line
invariant-loop-line l = record {
  same : line_at (lines_of l.rest) l.left ≡ line_at (lines_of l.bytes) l.count;
  short : length l.rest ≤ length l.bytes;
}

abbrev pub decreases-loop-line : goal.decreases-loop-line
decreases-loop-line l = length l.rest
