use Rattle.std.specs.Prelude.{IsTrue}
use Rattle.eden_move.specs.Shown.{IsOpen}
use Rattle.move_tests.proofs.eden_move_calls.says.Given as goal

-- the node can be called
abbrev pub invariant-loop-row : goal.invariant-loop-row
invariant-loop-row g l = record {
  power : IsTrue (g.St.Store.seen l.node.store).disk.counts.power;
  of : IsOpen l.node.number (g.St.Store.seen l.node.store);
}
