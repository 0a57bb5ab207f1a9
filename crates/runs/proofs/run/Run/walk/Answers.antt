use Rattle.std.proofs.Common.{◌≡◌, ◌≤◌, ◌-◌, ℕ, List, length, subst, arith}
use Rattle.std.proofs.lemmas.List.{drop_all}
use Rattle.journal.specs.Run.{components, most_turns}
use Rattle.runs.specs.Walks.{Asks, Waits}
use Rattle.runs.proofs.Leading.{on-err, shown-then}
use Rattle.runs.proofs.Walking.{IsLooking, at-part, looking-start, looking-fails, looking-over, waits-part, waits-over, walk-lost, walk-on}
use Rattle.runs.proofs.Walking.{looking-end}
use Rattle.runs.proofs.Asked.{number-of-part, part-spares, part-waits, spares-less}
use Rattle.runs.proofs.run.Run.walk.Goals as goal

pub loop-part-init : goal.loop-part-init
loop-part-init g c = record {
  looking = looking-start g.M.Machine.stands g.M.Machine.did g.M.Machine.starved c.args.self.now c.args.name.now c.args.target.now
      c.args.path.now c.capability-directory.result c.capability-directory.ensures;
  shown = λ first all. all;
  asks = omega arith;
  whole = c.requires.whole;
}

pub returns-in_err-call-clause-part : goal.returns-in_err-call-clause-part
returns-in_err-call-clause-part g c =
    let a = c.deref-part-items.ensures.value in
    let b = c.in_ok-parts.ensures in
    let d = c.as_slice.ensures in
    let same : c.deref-part-items.result.now ≡ components c.args.path.now = cc in
    let it = at-part c.deref-part-items.result.now c.args.path.now c.loop-part.part-index c.part-item.result same c.loop-part-test.true
    c.part-item.is in
    on-err c.from_residual-in_err-call.result _ (looking-fails g.M.Machine.stands g.M.Machine.did g.M.Machine.starved c.args.self.now
    c.args.name.now c.args.target.now c.args.path.now c.loop-part.self c.loop-part.directory c.loop-part.part-index c.part-item.result
    it.0 it.1 c.loop-part.invariant.looking
    c.ask.new.self c.in_err-call.ensures.fails c.in_err-call.ensures.history)

pub returns-in_default-clause-done : goal.returns-in_default-clause-done
returns-in_default-clause-done g c =
    let a = c.deref-part-items.ensures.value in
    let b = c.in_ok-parts.ensures in
    let d = c.as_slice.ensures in
    let same : c.deref-part-items.result.now ≡ components c.args.path.now = cc in
    let it = at-part c.deref-part-items.result.now c.args.path.now c.loop-part.part-index c.part-item.result same c.loop-part-test.true
    c.part-item.is in
    looking-over g.M.Machine.stands g.M.Machine.did g.M.Machine.starved c.args.self.now c.args.name.now c.args.target.now c.args.path.now
    c.loop-part.self c.loop-part.directory c.loop-part.part-index c.part-item.result it.0 it.1 c.loop-part.invariant.looking
    c.ask.new.self (subst (Asks g.M.Machine.stands g.M.Machine.did c.loop-part.self c.ask.new.self c.args.name.now c.loop-part.directory
    c.part-item.result) c.in_default.is c.in_ok-call.ensures.done)

pub returns-in_err-wait-clause-part : goal.returns-in_err-wait-clause-part
returns-in_err-wait-clause-part g c =
    let a = c.deref-part-items.ensures.value in
    let b = c.in_ok-parts.ensures in
    let d = c.as_slice.ensures in
    let same : c.deref-part-items.result.now ≡ components c.args.path.now = cc in
    let it = at-part c.deref-part-items.result.now c.args.path.now c.loop-part.part-index c.part-item.result same c.loop-part-test.true
    c.part-item.is in
    on-err c.from_residual-in_err-wait.result _ (waits-part g.M.Machine.stands g.M.Machine.did g.M.Machine.starved c.args.self.now
    c.args.name.now c.args.target.now c.args.path.now c.loop-part.self c.loop-part.directory c.loop-part.part-index c.part-item.result
    it.0 it.1 c.loop-part.invariant.looking
    c.ask.new.self c.in-Some.call (subst (Asks g.M.Machine.stands g.M.Machine.did c.loop-part.self c.ask.new.self c.args.name.now
    c.loop-part.directory c.part-item.result) c.in-Some.is c.in_ok-call.ensures.done)
    c.wait.new.self c.in_err-wait.ensures.part)

pub returns-then-not-branch-clause-done : goal.returns-then-not-branch-clause-done
returns-then-not-branch-clause-done g c =
    let a = c.deref-part-items.ensures.value in
    let b = c.in_ok-parts.ensures in
    let d = c.as_slice.ensures in
    let same : c.deref-part-items.result.now ≡ components c.args.path.now = cc in
    let it = at-part c.deref-part-items.result.now c.args.path.now c.loop-part.part-index c.part-item.result same c.loop-part-test.true
    c.part-item.is in
    waits-over g.M.Machine.stands g.M.Machine.did g.M.Machine.starved c.args.self.now c.args.name.now c.args.target.now c.args.path.now
    c.loop-part.self c.loop-part.directory c.loop-part.part-index c.part-item.result it.0 it.1 c.loop-part.invariant.looking
    c.ask.new.self c.in-Some.call (subst (Asks g.M.Machine.stands g.M.Machine.did c.loop-part.self c.ask.new.self c.args.name.now
    c.loop-part.directory c.part-item.result) c.in-Some.is c.in_ok-call.ensures.done)
    c.wait.new.self (subst (Waits g.M.Machine.stands g.M.Machine.did c.ask.new.self c.wait.new.self c.args.name.now c.in-Some.call)
    c.if-not-branch.true c.in_ok-wait.ensures.done)

pub returns-then-not-found-clause-done : goal.returns-then-not-found-clause-done
returns-then-not-found-clause-done g c =
    let a = c.deref-part-items.ensures.value in
    let b = c.in_ok-parts.ensures in
    let d = c.as_slice.ensures in
    let same : c.deref-part-items.result.now ≡ components c.args.path.now = cc in
    let it = at-part c.deref-part-items.result.now c.args.path.now c.loop-part.part-index c.part-item.result same c.loop-part-test.true
    c.part-item.is in
    walk-lost g.M.Machine.stands g.M.Machine.did g.M.Machine.starved c.args.self.now c.args.name.now c.args.target.now c.args.path.now
    c.loop-part.self c.loop-part.directory c.loop-part.part-index c.part-item.result it.0 it.1 c.loop-part.invariant.looking
    c.ask.new.self c.in-Some.call (subst (Asks g.M.Machine.stands g.M.Machine.did c.loop-part.self c.ask.new.self c.args.name.now
    c.loop-part.directory c.part-item.result) c.in-Some.is c.in_ok-call.ensures.done)
    c.wait.new.self (subst (Waits g.M.Machine.stands g.M.Machine.did c.ask.new.self c.wait.new.self c.args.name.now c.in-Some.call)
    c.if-not-branch.false c.in_ok-wait.ensures.done) c.if-not-found.ensures

pub loop-part-preserved : goal.loop-part-preserved
loop-part-preserved g c =
    let a = c.deref-part-items.ensures.value in
    let b = c.in_ok-parts.ensures in
    let d = c.as_slice.ensures in
    let same : c.deref-part-items.result.now ≡ components c.args.path.now = cc in
    let it = at-part c.deref-part-items.result.now c.args.path.now c.loop-part.part-index c.part-item.result same c.loop-part-test.true
    c.part-item.is in
    record {
      looking = walk-on g.M.Machine.stands g.M.Machine.did g.M.Machine.starved c.args.self.now c.args.name.now c.args.target.now
          c.args.path.now c.loop-part.self c.loop-part.directory c.loop-part.part-index c.part-item.result it.0 it.1
          c.loop-part.invariant.looking
          c.ask.new.self c.in-Some.call (subst (Asks g.M.Machine.stands g.M.Machine.did c.loop-part.self c.ask.new.self c.args.name.now
          c.loop-part.directory c.part-item.result) c.in-Some.is c.in_ok-call.ensures.done)
          c.wait.new.self (subst (Waits g.M.Machine.stands g.M.Machine.did c.ask.new.self c.wait.new.self c.args.name.now c.in-Some.call)
          c.if-not-branch.false c.in_ok-wait.ensures.done) c.next_directory-directory.result c.if-not-found.ensures
          c.next_directory-directory.ensures;
      shown = shown-then g.M.Machine.shows c.args.self.now c.ask.new.self c.wait.new.self
          (shown-then g.M.Machine.shows c.args.self.now c.loop-part.self c.ask.new.self c.loop-part.invariant.shown
          c.in_ok-call.ensures.shown) c.in_ok-wait.ensures.shown;
      asks = part-waits (g.M.Machine.asked c.args.self.now.machine) (g.M.Machine.asked c.loop-part.self.machine)
          (g.M.Machine.asked c.ask.new.self.machine) (g.M.Machine.asked c.wait.new.self.machine) (most_turns - c.loop-part.self.turns)
          (most_turns - c.args.self.now.turns) (most_turns - c.ask.new.self.turns) (most_turns - c.wait.new.self.turns)
          (length (components c.args.path.now)) c.loop-part.part-index it.0 c.loop-part.invariant.asks c.in_ok-call.ensures.asks
          c.in_ok-wait.ensures.asks;
      whole = c.in_ok-wait.ensures.whole;
    }

pub returns-clause-done : goal.returns-clause-done
returns-clause-done g c =
    let a = c.deref-part-items.ensures.value in
    let b = c.in_ok-parts.ensures in
    let d = c.as_slice.ensures in
    let same : c.deref-part-items.result.now ≡ components c.args.path.now = cc in
    let all = c.loop-part-test.false in
    let none = drop_all c.loop-part.part-index (components c.args.path.now)
    (subst (λ (x : List (List ℕ)). length x ≤ c.loop-part.part-index) same all) in
    looking-end g.M.Machine.stands g.M.Machine.did g.M.Machine.starved c.args.self.now c.args.name.now c.args.target.now c.args.path.now
    c.loop-part.self c.loop-part.directory
    (subst (IsLooking g.M.Machine.stands g.M.Machine.did g.M.Machine.starved c.args.self.now c.args.name.now c.args.target.now
    c.args.path.now c.loop-part.self c.loop-part.directory) none c.loop-part.invariant.looking)

pub ask-requires-clause-calls : goal.ask-requires-clause-calls
ask-requires-clause-calls g c =
    let a = c.deref-part-items.ensures.value in
    let b = c.in_ok-parts.ensures in
    let d = c.as_slice.ensures in
    let same : c.deref-part-items.result.now ≡ components c.args.path.now = cc in
    let it = at-part c.deref-part-items.result.now c.args.path.now c.loop-part.part-index c.part-item.result same c.loop-part-test.true
    c.part-item.is in
    number-of-part (g.M.Machine.asked c.args.self.now.machine) (g.M.Machine.asked c.loop-part.self.machine)
    (most_turns - c.loop-part.self.turns) (most_turns - c.args.self.now.turns) (length (components c.args.path.now))
    c.loop-part.part-index it.0 c.loop-part.invariant.asks c.requires.calls

pub wait-requires-clause-calls : goal.wait-requires-clause-calls
wait-requires-clause-calls g c =
    let a = c.deref-part-items.ensures.value in
    let b = c.in_ok-parts.ensures in
    let d = c.as_slice.ensures in
    let same : c.deref-part-items.result.now ≡ components c.args.path.now = cc in
    let it = at-part c.deref-part-items.result.now c.args.path.now c.loop-part.part-index c.part-item.result same c.loop-part-test.true
    c.part-item.is in
    omega (
      arith,
      c.requires.calls,
      part-spares (g.M.Machine.asked c.args.self.now.machine) (g.M.Machine.asked c.loop-part.self.machine)
          (g.M.Machine.asked c.ask.new.self.machine) (most_turns - c.loop-part.self.turns) (most_turns - c.args.self.now.turns)
          (most_turns - c.ask.new.self.turns) (length (components c.args.path.now)) c.loop-part.part-index it.0 c.loop-part.invariant.asks
          c.in_ok-call.ensures.asks,
    )

pub returns-in_default-clause-asks : goal.returns-in_default-clause-asks
returns-in_default-clause-asks g c =
    let a = c.deref-part-items.ensures.value in
    let b = c.in_ok-parts.ensures in
    let d = c.as_slice.ensures in
    let same : c.deref-part-items.result.now ≡ components c.args.path.now = cc in
    let it = at-part c.deref-part-items.result.now c.args.path.now c.loop-part.part-index c.part-item.result same c.loop-part-test.true
    c.part-item.is in
    omega (
      arith,
      part-spares (g.M.Machine.asked c.args.self.now.machine) (g.M.Machine.asked c.loop-part.self.machine)
          (g.M.Machine.asked c.ask.new.self.machine) (most_turns - c.loop-part.self.turns) (most_turns - c.args.self.now.turns)
          (most_turns - c.ask.new.self.turns) (length (components c.args.path.now)) c.loop-part.part-index it.0 c.loop-part.invariant.asks
          c.in_ok-call.ensures.asks,
    )

pub returns-then-not-branch-clause-asks : goal.returns-then-not-branch-clause-asks
returns-then-not-branch-clause-asks g c =
    let a = c.deref-part-items.ensures.value in
    let b = c.in_ok-parts.ensures in
    let d = c.as_slice.ensures in
    let same : c.deref-part-items.result.now ≡ components c.args.path.now = cc in
    let it = at-part c.deref-part-items.result.now c.args.path.now c.loop-part.part-index c.part-item.result same c.loop-part-test.true
    c.part-item.is in
    omega (
      arith,
      c.in_ok-wait.ensures.asks,
      part-spares (g.M.Machine.asked c.args.self.now.machine) (g.M.Machine.asked c.loop-part.self.machine)
          (g.M.Machine.asked c.ask.new.self.machine) (most_turns - c.loop-part.self.turns) (most_turns - c.args.self.now.turns)
          (most_turns - c.ask.new.self.turns) (length (components c.args.path.now)) c.loop-part.part-index it.0 c.loop-part.invariant.asks
          c.in_ok-call.ensures.asks,
    )

pub returns-then-not-found-clause-asks : goal.returns-then-not-found-clause-asks
returns-then-not-found-clause-asks g c =
    let a = c.deref-part-items.ensures.value in
    let b = c.in_ok-parts.ensures in
    let d = c.as_slice.ensures in
    let same : c.deref-part-items.result.now ≡ components c.args.path.now = cc in
    let it = at-part c.deref-part-items.result.now c.args.path.now c.loop-part.part-index c.part-item.result same c.loop-part-test.true
    c.part-item.is in
    omega (
      arith,
      c.in_ok-wait.ensures.asks,
      part-spares (g.M.Machine.asked c.args.self.now.machine) (g.M.Machine.asked c.loop-part.self.machine)
          (g.M.Machine.asked c.ask.new.self.machine) (most_turns - c.loop-part.self.turns) (most_turns - c.args.self.now.turns)
          (most_turns - c.ask.new.self.turns) (length (components c.args.path.now)) c.loop-part.part-index it.0 c.loop-part.invariant.asks
          c.in_ok-call.ensures.asks,
    )

pub returns-clause-asks : goal.returns-clause-asks
returns-clause-asks g c = spares-less (g.M.Machine.asked c.args.self.now.machine) (g.M.Machine.asked c.loop-part.self.machine)
    (most_turns - c.loop-part.self.turns) (most_turns - c.args.self.now.turns) (length (components c.args.path.now))
    (length (components c.args.path.now) - c.loop-part.part-index) c.loop-part.invariant.asks
