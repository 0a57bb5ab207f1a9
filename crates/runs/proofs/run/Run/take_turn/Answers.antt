use Rattle.std.proofs.Common.{List, refl, ap, sym, ◌∙◌, arith, inl, inr}
use Rattle.journal.specs.declared.event.Entry.{Entry}
use Rattle.runs.specs.Runs.{chosen_by}
use Rattle.journal.specs.Enabled.{enabled}
use Rattle.runs.proofs.Repeating.{repeats-next}
use Rattle.runs.proofs.Leading.{took-spent, took-quiet, took-key, turn-starved, on-reached, chosen-Contains, shown-push, on-err}
use Rattle.runs.proofs.Asked.{number-of-turn, turn-spares}
use Rattle.runs.proofs.run.Run.take_turn.Goals as goal

pub returns-then-self-ge-MOST_TURNS-clause-done : goal.returns-then-self-ge-MOST_TURNS-clause-done
returns-then-self-ge-MOST_TURNS-clause-done g c o others p on = took-spent g.M.Machine.stands g.M.Machine.did o others c.args.self.now _ p
    (chosen_by c.args.choice p.world) on c.if-self-ge-MOST_TURNS.true (rw
    (c.push_reserved.ensures.items, c.reserve.ensures.items, c.plain.ensures) refl)
    refl refl refl refl

pub returns-then-self-ge-MOST_TURNS-clause-shown : goal.returns-then-self-ge-MOST_TURNS-clause-shown
returns-then-self-ge-MOST_TURNS-clause-shown g c = shown-push g.M.Machine.shows c.args.self.now c.plain.result
    c.push_reserved.new.self.items c.args.self.now.machine
    (rw (c.push_reserved.ensures.items, c.reserve.ensures.items) refl) (rw c.plain.ensures (inr (refl, refl)))

pub returns-in_err-entry-in-Some-clause-fails : goal.returns-in_err-entry-in-Some-clause-fails
returns-in_err-entry-in-Some-clause-fails g c = on-err c.from_residual-in_err-entry-in-Some.result _ (λ o others p on.
    let here = on-reached g.M.Machine.stands g.M.Machine.did o others c.args.self.now p on in
    let chosen = sym c.in-Some.is ∙ c.choose.ensures.chosen on.machine.0 p.world here on.machine.2 on.last on.again in
    turn-starved g.M.Machine.stands g.M.Machine.did g.M.Machine.starved o others c.args.self.now c.take.new.self p on
    (omega (arith, c.if-self-ge-MOST_TURNS.false)) (λ more at. c.in_err-entry-in-Some.ensures.starved more p.world here at
    (chosen-Contains c.args.choice p.world c.in-Some.key (sym chosen))))

pub returns-in_ok-entry-in-Some-clause-done : goal.returns-in_ok-entry-in-Some-clause-done
returns-in_ok-entry-in-Some-clause-done g c o others p on =
    let here = on-reached g.M.Machine.stands g.M.Machine.did o others c.args.self.now p on in
    let chosen = sym c.in-Some.is ∙ c.choose.ensures.chosen on.machine.0 p.world here on.machine.2 on.last on.again in
    took-key g.M.Machine.stands g.M.Machine.did o others c.args.self.now _ p (chosen_by c.args.choice p.world) on
    (omega (arith, c.if-self-ge-MOST_TURNS.false)) c.in-Some.key c.in_ok-entry-in-Some.entry chosen
    (λ more at. c.in_ok-entry-in-Some.ensures.taken more p.world here at (chosen-Contains c.args.choice p.world c.in-Some.key (sym chosen)))
    (rw (c.push_reserved-in-Some.ensures.items, c.reserve.ensures.items) refl) refl refl
    (λ allowed takes is. let r = c.repeats-self.ensures is in
    repeats-next p.world c.in_ok-entry-in-Some.entry c.in-Some.key here allowed takes (on.last ∙ r.1)
    (ap (λ d. chosen_by d p.world (enabled p.world)) (sym r.0) ∙ sym chosen) r.2)

pub returns-in_ok-entry-in-Some-clause-shown : goal.returns-in_ok-entry-in-Some-clause-shown
returns-in_ok-entry-in-Some-clause-shown g c = shown-push g.M.Machine.shows c.args.self.now c.in_ok-entry-in-Some.entry
    c.push_reserved-in-Some.new.self.items c.take.new.self
    (rw (c.push_reserved-in-Some.ensures.items, c.reserve.ensures.items) refl) (inl c.in_ok-entry-in-Some.ensures.shows)

pub returns-in-None-clause-done : goal.returns-in-None-clause-done
returns-in-None-clause-done g c o others p on =
    let here = on-reached g.M.Machine.stands g.M.Machine.did o others c.args.self.now p on in
    took-quiet g.M.Machine.stands g.M.Machine.did o others c.args.self.now _ p (chosen_by c.args.choice p.world) on
    (omega (arith, c.if-self-ge-MOST_TURNS.false)) (sym c.in-None.is ∙ c.choose.ensures.chosen on.machine.0 p.world here
    on.machine.2 on.last on.again)
    (rw (c.push_reserved-in-None.ensures.items, c.reserve.ensures.items, c.plain-in-None.ensures) (refl {A = List Entry}))
    refl refl refl refl

pub returns-in-None-clause-shown : goal.returns-in-None-clause-shown
returns-in-None-clause-shown g c = shown-push g.M.Machine.shows c.args.self.now c.plain-in-None.result
    c.push_reserved-in-None.new.self.items
    c.args.self.now.machine
    (rw (c.push_reserved-in-None.ensures.items, c.reserve.ensures.items) refl) (rw c.plain-in-None.ensures (inr (refl, refl)))

pub take-requires-clause-calls : goal.take-requires-clause-calls
take-requires-clause-calls g c = number-of-turn (g.M.Machine.asked c.args.self.now.machine) c.args.self.now.turns c.requires.calls
    (omega (arith, c.if-self-ge-MOST_TURNS.false))

pub returns-in_ok-entry-in-Some-clause-asks : goal.returns-in_ok-entry-in-Some-clause-asks
returns-in_ok-entry-in-Some-clause-asks g c = turn-spares (g.M.Machine.asked c.args.self.now.machine) (g.M.Machine.asked c.take.new.self)
    c.args.self.now.turns (omega (arith, c.if-self-ge-MOST_TURNS.false)) c.in_ok-entry-in-Some.ensures.asks
