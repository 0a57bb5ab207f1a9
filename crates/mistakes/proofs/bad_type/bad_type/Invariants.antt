use Rattle.std.proofs.Common.{◌≤◌, length}
use Rattle.mistakes.proofs.TypeParts.{Going}
use Rattle.mistakes.proofs.bad_type.bad_type.Given as goal

abbrev pub invariant-loop-rest : goal.invariant-loop-rest
invariant-loop-rest l = record {
  going : Going l.bytes l.rest l.line l.types l.room;
  short : length l.rest ≤ length l.bytes;
}

abbrev pub decreases-loop-rest : goal.decreases-loop-rest
decreases-loop-rest l = length l.rest
