use Rattle.std.proofs.Common.{◌≤◌, ◌+◌, map, length}
use Rattle.eden_script.specs.Meaning.{written_command}
use Rattle.eden_script.specs.View.{IsCounted, seen_of}
use Rattle.eden_script.proofs.Run.{Run}
use Rattle.eden_script.proofs.parse.parse_script.Given as goal

abbrev pub invariant-loop-rest : goal.invariant-loop-rest
invariant-loop-rest l = record {
  run : Run l.bytes l.rest (map written_command l.commands.items) (seen_of l.seen) l.lines;
  counted : l.lines + length l.rest ≤ length l.bytes;
  room : IsCounted l.seen;
}

abbrev pub decreases-loop-rest : goal.decreases-loop-rest
decreases-loop-rest l = length l.rest
