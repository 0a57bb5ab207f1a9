use Rattle.std.proofs.Common.{◌≡◌, ◌-◌, subst, arith}
use Rattle.std.proofs.lemmas.List.{drop_all}
use Rattle.runs.proofs.Leading.{on-err, shown-then}
use Rattle.runs.proofs.Carrying.{IsBooting, IsCarrying, booting-start, booting-on, booting-fails, carrying-start, carrying-at}
use Rattle.runs.proofs.Carrying.{carrying-fails, carrying-end}
use Rattle.journal.specs.Run.{most_turns}
use Rattle.runs.specs.Room.{entries_in}
use Rattle.runs.proofs.Asked.{all-left, entries-at}
use Rattle.runs.proofs.run.Run.carry_all.Goals as goal

pub loop-node-init : goal.loop-node-init
loop-node-init g c = record {
  booting = booting-start g.M.Machine.stands g.M.Machine.did g.M.Machine.starved c.args.self.now c.args.nodes c.args.commands.now;
  shown = λ first all. all;
  asks = omega arith;
  whole = c.requires.whole;
}

pub returns-in_err-booted-clause-part : goal.returns-in_err-booted-clause-part
returns-in_err-booted-clause-part g c = on-err c.from_residual.result _
    (booting-fails g.M.Machine.stands g.M.Machine.did g.M.Machine.starved c.args.self.now c.args.nodes c.args.commands.now
    c.loop-node.self c.command-booted.new.self
    c.loop-node.node c.loop-node-test.true c.loop-node.invariant.booting c.in_err-booted.ensures.fails c.in_err-booted.ensures.history)

pub loop-node-preserved : goal.loop-node-preserved
loop-node-preserved g c = record {
  booting = booting-on g.M.Machine.stands g.M.Machine.did g.M.Machine.starved c.args.self.now c.args.nodes c.args.commands.now
      c.loop-node.self c.command-booted.new.self
      c.loop-node.node c.loop-node-test.true c.loop-node.invariant.booting c.in_ok-booted.ensures.done;
  shown = shown-then g.M.Machine.shows c.args.self.now c.loop-node.self c.command-booted.new.self c.loop-node.invariant.shown
      c.in_ok-booted.ensures.shown;
  asks = omega (arith, c.loop-node-test.true, c.loop-node.invariant.asks, c.in_ok-booted.ensures.asks);
  whole = c.in_ok-booted.ensures.whole;
}

pub loop-command-init : goal.loop-command-init
loop-command-init g c =
    let end : c.loop-node.node ≡ c.args.nodes = omega (arith, c.loop-node-test.false, c.loop-node.auto.node-end) in record {
      carrying = carrying-start g.M.Machine.stands g.M.Machine.did g.M.Machine.starved c.args.self.now c.args.nodes c.args.commands.now
          c.loop-node.self
          (subst (IsBooting g.M.Machine.stands g.M.Machine.did g.M.Machine.starved c.args.self.now c.args.nodes c.args.commands.now
          c.loop-node.self) end
          c.loop-node.invariant.booting);
      shown = c.loop-node.invariant.shown;
      asks = all-left (g.M.Machine.asked c.args.self.now.machine) (g.M.Machine.asked c.loop-node.self.machine)
          (most_turns - c.loop-node.self.turns) (most_turns - c.args.self.now.turns) c.args.nodes c.loop-node.node
          (entries_in c.args.commands.now) end c.loop-node.invariant.asks;
      whole = c.loop-node.invariant.whole;
    }

pub returns-in_err-carry_out-clause-part : goal.returns-in_err-carry_out-clause-part
returns-in_err-carry_out-clause-part g c = on-err c.from_residual-in_err-carry_out.result _
    (carrying-fails g.M.Machine.stands g.M.Machine.did g.M.Machine.starved c.args.self.now c.args.nodes c.args.commands.now
    c.loop-command.self c.carry_out.new.self
    c.loop-command.command-index c.command-item.result c.loop-command-test.true c.command-item.is c.loop-command.invariant.carrying
    c.in_err-carry_out.ensures.part)

pub loop-command-preserved : goal.loop-command-preserved
loop-command-preserved g c = record {
  carrying = carrying-at g.M.Machine.stands g.M.Machine.did g.M.Machine.starved c.args.self.now c.args.nodes c.args.commands.now
      c.loop-command.self c.carry_out.new.self
      c.loop-command.command-index c.command-item.result c.loop-command-test.true c.command-item.is c.loop-command.invariant.carrying
      c.in_ok-carry_out.ensures.done;
  shown = shown-then g.M.Machine.shows c.args.self.now c.loop-command.self c.carry_out.new.self c.loop-command.invariant.shown
      c.in_ok-carry_out.ensures.shown;
  asks = omega (
    arith,
    c.loop-command.invariant.asks,
    c.in_ok-carry_out.ensures.asks,
    entries-at c.args.commands.now
        c.loop-command.command-index c.command-item.result c.loop-command-test.true c.command-item.is,
  );
  whole = c.in_ok-carry_out.ensures.whole;
}

pub returns-clause-done : goal.returns-clause-done
returns-clause-done g c =
    let none = drop_all c.loop-command.command-index c.args.commands.now c.loop-command-test.false in
    carrying-end g.M.Machine.stands g.M.Machine.did g.M.Machine.starved c.args.self.now c.args.nodes c.args.commands.now c.loop-command.self
    (subst (IsCarrying g.M.Machine.stands g.M.Machine.did g.M.Machine.starved c.args.self.now c.args.nodes c.args.commands.now
    c.loop-command.self) none
    c.loop-command.invariant.carrying)

pub command-booted-requires-clause-calls : goal.command-booted-requires-clause-calls
command-booted-requires-clause-calls g c = omega (arith, c.loop-node-test.true, c.loop-node.invariant.asks, c.requires.calls)

pub carry_out-requires-clause-calls : goal.carry_out-requires-clause-calls
carry_out-requires-clause-calls g c = omega (
  arith,
  c.loop-command.invariant.asks,
  c.requires.calls,
  entries-at c.args.commands.now
      c.loop-command.command-index c.command-item.result c.loop-command-test.true c.command-item.is,
)
