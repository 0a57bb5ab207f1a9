use Rattle.std.proofs.Common.{◌-◌, refl, inl}
use Rattle.journal.specs.Run.{most_turns}
use Rattle.runs.proofs.Leading.{begun-starved, on-reached, shown-push, on-err}
use Rattle.runs.proofs.Walking.{asked-on}
use Rattle.runs.proofs.Asked.{number-of-entry, entry-spares}
use Rattle.runs.proofs.run.Run.ask.Goals as goal

pub returns-in_err-entry-clause-fails : goal.returns-in_err-entry-clause-fails
returns-in_err-entry-clause-fails g c = on-err c.from_residual-in_err-entry.result _ (λ o others w more cs named text on.
    let here = on-reached g.M.Machine.stands g.M.Machine.did o _ c.args.self.now _ on in
    begun-starved g.M.Machine.stands g.M.Machine.did g.M.Machine.starved o others c.args.self.now c.look_up.new.self _ on
    (λ n at. c.in_err-entry.ensures.starved n w here at named text))

pub returns-clause-done : goal.returns-clause-done
returns-clause-done g c o others w more cs named text on =
    let here = on-reached g.M.Machine.stands g.M.Machine.did o _ c.args.self.now _ on in
    rw c.sent-call.ensures (asked-on g.M.Machine.stands g.M.Machine.did o others c.args.self.now _ w c.args.name.now c.args.directory
    c.args.component.now more cs on
    c.in_ok-entry.entry (λ n at. c.in_ok-entry.ensures.looked n w here at named text)
    (rw (c.push_reserved.ensures.items, c.reserve.ensures.items) refl) refl refl refl)

pub returns-clause-shown : goal.returns-clause-shown
returns-clause-shown g c = shown-push g.M.Machine.shows c.args.self.now c.in_ok-entry.entry c.push_reserved.new.self.items
    c.look_up.new.self
    (rw (c.push_reserved.ensures.items, c.reserve.ensures.items) refl) (inl c.in_ok-entry.ensures.shows)

pub look_up-requires-clause-calls : goal.look_up-requires-clause-calls
look_up-requires-clause-calls g c = number-of-entry (g.M.Machine.asked c.args.self.now.machine) (most_turns - c.args.self.now.turns)
    c.requires.calls

pub returns-clause-asks : goal.returns-clause-asks
returns-clause-asks g c = entry-spares (g.M.Machine.asked c.args.self.now.machine) (g.M.Machine.asked c.look_up.new.self)
    (most_turns - c.args.self.now.turns) c.in_ok-entry.ensures.asks
