use Rattle.std.proofs.Common.{◌≡◌, ◌+◌, ◌≤◌, drop, length}
use Rattle.active_part.specs.View.{body_of, coordination_of}
use Rattle.plain_calls.specs.View.{traffic_of}
use Rattle.plain_sites.specs.Activations.{joined_all}
use Rattle.plain_sites.proofs.wakings.join_all.Given as goal

-- with the calls that are left, all have joined or are answered, and no more have joined than were looked at
abbrev pub invariant-loop-number : goal.invariant-loop-number
invariant-loop-number l = record {
  joining : joined_all (drop l.number-index l.numbers) (body_of l.types l.part, traffic_of l.calls)
      ≡ joined_all l.numbers (body_of l.types l.fn.part, traffic_of l.fn.calls);
  room : length (coordination_of l.part).queued ≤ length (coordination_of l.fn.part).queued + l.number-index;
}
