use Rattle.std.proofs.Common.{◌≤◌, length}
use Rattle.eden_script.proofs.Cutting.{Cut}
use Rattle.mistakes.proofs.cut.declaration.Given as goal

abbrev pub invariant-loop-rest : goal.invariant-loop-rest
invariant-loop-rest l = record {
  cut : Cut l.bytes l.rest;
  short : length l.rest ≤ length l.bytes;
}

abbrev pub decreases-loop-rest : goal.decreases-loop-rest
decreases-loop-rest l = length l.rest
