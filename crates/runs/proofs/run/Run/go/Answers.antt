use Rattle.std.proofs.Common.{◌≡◌, ◌-◌, ◌+◌, suc, subst, arith}
use Rattle.runs.specs.Runs.{TakesTurn}
use Rattle.runs.specs.declared.run.Choice.TheVariants.{Following}
use Rattle.runs.proofs.Leading.{on-err, shown-then, shown-fails}
use Rattle.runs.proofs.Going.{IsGoing, going-start, going-on, going-stop, going-end, going-fails}
use Rattle.runs.proofs.run.Run.go.Goals as goal

pub loop-init : goal.loop-init
loop-init g c = let all : c.args.n ≡ c.args.n - 0 = omega arith in record {
  going = λ some. subst (IsGoing g.M.Machine.stands g.M.Machine.did c.args.self.now c.args.self.now c.args.n) all
      (going-start g.M.Machine.stands g.M.Machine.did c.args.self.now c.args.n some);
  shown = λ first all. all;
  asks = omega arith;
  whole = c.requires.whole;
}

pub returns-in_err-take_turn-clause-part : goal.returns-in_err-take_turn-clause-part
returns-in_err-take_turn-clause-part g c = on-err c.from_residual.result _ (λ some.
    let left : c.args.n - c.loop.counter ≡ suc (c.args.n - (c.loop.counter + 1)) = omega (arith, c.loop-test.true) in
    going-fails g.M.Machine.stands g.M.Machine.did c.args.self.now c.args.n g.M.Machine.starved c.loop.self c.take_turn.new.self
    (c.args.n - (c.loop.counter + 1))
    (subst (IsGoing g.M.Machine.stands g.M.Machine.did c.args.self.now c.loop.self c.args.n) left (c.loop.invariant.going some))
    c.in_err-take_turn.ensures.fails c.in_err-take_turn.ensures.history)

pub returns-in_err-take_turn-clause-shown_part : goal.returns-in_err-take_turn-clause-shown_part
returns-in_err-take_turn-clause-shown_part g c = on-err c.from_residual.result _
    (shown-fails g.M.Machine.shows g.M.Machine.whole g.M.Machine.leaves c.args.self.now c.loop.self c.take_turn.new.self
    c.loop.invariant.shown c.in_err-take_turn.ensures.history c.in_err-take_turn.ensures.left)

pub returns-then-not-branch-clause-done : goal.returns-then-not-branch-clause-done
returns-then-not-branch-clause-done g c some =
    let left : c.args.n - c.loop.counter ≡ suc (c.args.n - (c.loop.counter + 1)) = omega (arith, c.loop-test.true) in
    going-stop g.M.Machine.stands g.M.Machine.did c.args.self.now c.args.n c.loop.self c.take_turn.new.self (c.args.n -
    (c.loop.counter + 1))
    (subst (IsGoing g.M.Machine.stands g.M.Machine.did c.args.self.now c.loop.self c.args.n) left (c.loop.invariant.going some))
    (subst (TakesTurn g.M.Machine.stands g.M.Machine.did c.loop.self c.take_turn.new.self Following) c.if-not-branch.true
    c.in_ok-take_turn.ensures.done)

pub returns-then-not-branch-clause-shown : goal.returns-then-not-branch-clause-shown
returns-then-not-branch-clause-shown g c = shown-then g.M.Machine.shows c.args.self.now c.loop.self c.take_turn.new.self
    c.loop.invariant.shown c.in_ok-take_turn.ensures.shown

pub loop-preserved : goal.loop-preserved
loop-preserved g c =
    let left : c.args.n - c.loop.counter ≡ suc (c.args.n - (c.loop.counter + 1)) = omega (arith, c.loop-test.true) in record {
      going = λ some. going-on g.M.Machine.stands g.M.Machine.did c.args.self.now c.args.n c.loop.self c.take_turn.new.self (c.args.n -
          (c.loop.counter + 1))
          (subst (IsGoing g.M.Machine.stands g.M.Machine.did c.args.self.now c.loop.self c.args.n) left (c.loop.invariant.going some))
          (subst (TakesTurn g.M.Machine.stands g.M.Machine.did c.loop.self c.take_turn.new.self Following) c.if-not-branch.false
          c.in_ok-take_turn.ensures.done);
      shown = shown-then g.M.Machine.shows c.args.self.now c.loop.self c.take_turn.new.self c.loop.invariant.shown
          c.in_ok-take_turn.ensures.shown;
      asks = omega (arith, c.loop.invariant.asks, c.in_ok-take_turn.ensures.asks);
      whole = c.in_ok-take_turn.ensures.whole;
    }

pub returns-clause-done : goal.returns-clause-done
returns-clause-done g c some =
    let none : c.args.n - c.loop.counter ≡ 0 = omega (arith, c.loop-test.false) in
    going-end g.M.Machine.stands g.M.Machine.did c.args.self.now c.args.n c.loop.self
    (subst (IsGoing g.M.Machine.stands g.M.Machine.did c.args.self.now c.loop.self c.args.n) none (c.loop.invariant.going some))

pub take_turn-requires-clause-calls : goal.take_turn-requires-clause-calls
take_turn-requires-clause-calls g c = omega (arith, c.loop.invariant.asks, c.requires.calls)

pub returns-then-not-branch-clause-asks : goal.returns-then-not-branch-clause-asks
returns-then-not-branch-clause-asks g c = omega (arith, c.loop.invariant.asks, c.in_ok-take_turn.ensures.asks)
