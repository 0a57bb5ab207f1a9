use Rattle.std.proofs.Common.{◌-◌, refl, inl}
use Rattle.journal.specs.Run.{most_turns}
use Rattle.runs.proofs.Leading.{took-command, begun-starved, on-reached, on-fit, shown-push, on-err}
use Rattle.runs.proofs.Asked.{number-of-entry, entry-spares}
use Rattle.runs.proofs.run.Run.command.Goals as goal

pub returns-in_err-entry-clause-fails : goal.returns-in_err-entry-clause-fails
returns-in_err-entry-clause-fails g c = on-err c.from_residual-in_err-entry.result _ (λ o others p fit on.
    let here = on-reached g.M.Machine.stands g.M.Machine.did o _ c.args.self.now p on in
    begun-starved g.M.Machine.stands g.M.Machine.did g.M.Machine.starved o others c.args.self.now c.carry_out.new.self p on
    (λ more at. c.in_err-entry.ensures.starved more p.world here at
    (on-fit g.M.Machine.stands g.M.Machine.did o _ c.args.self.now p c.args.command.now on fit)))

pub returns-clause-done : goal.returns-clause-done
returns-clause-done g c o others p fit on =
    let here = on-reached g.M.Machine.stands g.M.Machine.did o _ c.args.self.now p on in (
      c.in_ok-entry.entry,
      took-command g.M.Machine.stands g.M.Machine.did o others c.args.self.now _ p c.args.command.now on c.in_ok-entry.entry
          (λ more at. c.in_ok-entry.ensures.carried more p.world here at
          (on-fit g.M.Machine.stands g.M.Machine.did o _ c.args.self.now p c.args.command.now on fit))
          (rw (c.push_reserved.ensures.items, c.reserve.ensures.items) refl) refl refl refl,
    )

pub returns-clause-shown : goal.returns-clause-shown
returns-clause-shown g c = shown-push g.M.Machine.shows c.args.self.now c.in_ok-entry.entry c.push_reserved.new.self.items
    c.carry_out.new.self
    (rw (c.push_reserved.ensures.items, c.reserve.ensures.items) refl) (inl c.in_ok-entry.ensures.shows)

pub carry_out-requires-clause-calls : goal.carry_out-requires-clause-calls
carry_out-requires-clause-calls g c = number-of-entry (g.M.Machine.asked c.args.self.now.machine) (most_turns - c.args.self.now.turns)
    c.requires.calls

pub returns-clause-asks : goal.returns-clause-asks
returns-clause-asks g c = entry-spares (g.M.Machine.asked c.args.self.now.machine) (g.M.Machine.asked c.carry_out.new.self)
    (most_turns - c.args.self.now.turns) c.in_ok-entry.ensures.asks
