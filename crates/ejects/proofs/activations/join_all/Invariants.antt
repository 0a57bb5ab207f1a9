use Rattle.std.proofs.Common.{◌+◌, ◌≤◌, drop, length}
use Rattle.active_part.specs.View.{body_of, coordination_of}
use Rattle.ejects.specs.Counts.{AsksNone}
use Rattle.ejects.proofs.Joining.{IsJoining}
use Rattle.ejects.proofs.activations.join_all.Given as goal

abbrev pub invariant-loop-number : goal.invariant-loop-number
invariant-loop-number l = record {
  joining : IsJoining l.fn.calls l.calls (body_of l.types l.fn.part) (body_of l.types l.part) l.numbers (drop l.number-index l.numbers);
  asks : AsksNone l.fn.calls l.calls;
  room : length (coordination_of l.part).queued ≤ length (coordination_of l.fn.part).queued + l.number-index;
}
