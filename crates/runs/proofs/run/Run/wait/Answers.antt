use Rattle.std.proofs.Common.{subst, arith}
use Rattle.runs.specs.Runs.{TakesTurn}
use Rattle.runs.specs.declared.run.Choice.TheVariants.{Following}
use Rattle.runs.proofs.Leading.{on-err, shown-then}
use Rattle.runs.proofs.Walking.{waiting-start, waiting-on, waiting-came, waiting-ended, waiting-fails}
use Rattle.runs.proofs.run.Run.wait.Goals as goal

pub loop-init : goal.loop-init
loop-init g c = record {
  waiting = waiting-start g.M.Machine.stands g.M.Machine.did c.args.self.now c.args.name.now c.args.call;
  shown = λ first all. all;
  asks = omega arith;
  whole = c.requires.whole;
}

pub returns-in_err-take_turn-clause-part : goal.returns-in_err-take_turn-clause-part
returns-in_err-take_turn-clause-part g c = on-err c.from_residual.result _
    (waiting-fails g.M.Machine.stands g.M.Machine.did c.args.self.now c.args.name.now c.args.call g.M.Machine.starved c.loop.self
    c.take_turn.new.self
    c.loop.invariant.waiting c.in_err-take_turn.ensures.fails c.in_err-take_turn.ensures.history)

pub returns-then-not-is_open-clause-done : goal.returns-then-not-is_open-clause-done
returns-then-not-is_open-clause-done g c =
    waiting-came g.M.Machine.stands g.M.Machine.did c.args.self.now c.args.name.now c.args.call c.loop.self c.take_turn.new.self
    c.loop.invariant.waiting
    (subst (TakesTurn g.M.Machine.stands g.M.Machine.did c.loop.self c.take_turn.new.self Following) c.if-branch.true
    c.in_ok-take_turn.ensures.done)
    c.if-not-is_open.ensures

pub loop-preserved : goal.loop-preserved
loop-preserved g c = record {
  waiting = waiting-on g.M.Machine.stands g.M.Machine.did c.args.self.now c.args.name.now c.args.call c.loop.self c.take_turn.new.self
      c.loop.invariant.waiting
      (subst (TakesTurn g.M.Machine.stands g.M.Machine.did c.loop.self c.take_turn.new.self Following) c.if-branch.true
      c.in_ok-take_turn.ensures.done)
      c.if-not-is_open.ensures;
  shown = shown-then g.M.Machine.shows c.args.self.now c.loop.self c.take_turn.new.self c.loop.invariant.shown
      c.in_ok-take_turn.ensures.shown;
  asks = omega (arith, c.loop.invariant.asks, c.in_ok-take_turn.ensures.asks);
  whole = c.in_ok-take_turn.ensures.whole;
}

pub returns-clause-done : goal.returns-clause-done
returns-clause-done g c =
    waiting-ended g.M.Machine.stands g.M.Machine.did c.args.self.now c.args.name.now c.args.call c.loop.self c.take_turn.new.self
    c.loop.invariant.waiting
    (subst (TakesTurn g.M.Machine.stands g.M.Machine.did c.loop.self c.take_turn.new.self Following) c.if-branch.false
    c.in_ok-take_turn.ensures.done)

pub take_turn-requires-clause-calls : goal.take_turn-requires-clause-calls
take_turn-requires-clause-calls g c = omega (arith, c.loop.invariant.asks, c.requires.calls)

pub returns-then-not-is_open-clause-asks : goal.returns-then-not-is_open-clause-asks
returns-then-not-is_open-clause-asks g c = omega (arith, c.loop.invariant.asks, c.in_ok-take_turn.ensures.asks)

pub returns-clause-asks : goal.returns-clause-asks
returns-clause-asks g c = omega (arith, c.loop.invariant.asks, c.in_ok-take_turn.ensures.asks)
