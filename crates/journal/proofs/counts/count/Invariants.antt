use Rattle.std.proofs.Common.{◌≡◌, ◌+◌, ◌*◌, ◌^◌, ◌≤◌, drop}
use Rattle.journal.specs.Lines.{calls_of, ok_of, refused_of, turns_of}
use Rattle.journal.proofs.counts.count.Given as goal

abbrev pub invariant-loop-entry : goal.invariant-loop-entry
invariant-loop-entry l = (l.calls + calls_of (drop l.entry-index l.entries) ≡ calls_of l.entries)
    × (l.ok + ok_of (drop l.entry-index l.entries) ≡ ok_of l.entries)
    × (l.refused + refused_of (drop l.entry-index l.entries) ≡ refused_of l.entries)
    × (l.turns + turns_of (drop l.entry-index l.entries) ≡ turns_of l.entries)
    × (l.calls ≤ l.entry-index) × (l.ok ≤ l.entry-index) × (l.turns ≤ l.entry-index)
    × (l.refused ≤ l.entry-index * 2 ^ 64)
