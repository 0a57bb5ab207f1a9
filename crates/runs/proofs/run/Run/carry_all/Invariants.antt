use Rattle.std.proofs.Common.{◌+◌, ◌-◌, drop}
use Rattle.runs.specs.Room.{entries_in}
use Rattle.runs.specs.Runs.{KeepsShown, SparesNumbers}
use Rattle.runs.proofs.Carrying.{IsBooting, IsCarrying}
use Rattle.runs.proofs.run.Run.carry_all.Given as goal

abbrev pub invariant-loop-node : goal.invariant-loop-node
invariant-loop-node g l = record {
  booting : IsBooting g.M.Machine.stands g.M.Machine.did g.M.Machine.starved l.fn.self l.nodes l.commands l.self l.node;
  shown : KeepsShown g.M.Machine.shows l.fn.self l.self;
  asks : SparesNumbers g.M.Machine.asked l.fn.self (l.nodes + entries_in l.commands) l.self ((l.nodes - l.node) + entries_in l.commands);
  whole : g.M.Machine.whole l.self.machine;
}

abbrev pub invariant-loop-command : goal.invariant-loop-command
invariant-loop-command g l = record {
  carrying : IsCarrying g.M.Machine.stands g.M.Machine.did g.M.Machine.starved l.fn.self l.nodes l.commands l.self
      (drop l.command-index l.commands);
  shown : KeepsShown g.M.Machine.shows l.fn.self l.self;
  asks : SparesNumbers g.M.Machine.asked l.fn.self (l.nodes + entries_in l.commands) l.self (entries_in (drop l.command-index l.commands));
  whole : g.M.Machine.whole l.self.machine;
}
