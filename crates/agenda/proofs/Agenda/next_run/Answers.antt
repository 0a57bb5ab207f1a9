use Rattle.std.proofs.Common.{◌≡◌, Some, sym, ap, ◌∙◌, subst}
use Rattle.std.specs.Prelude.{IfSome, None}
use Rattle.eden_model.specs.Map.{with_item, first}
use Rattle.journal.specs.Enabled.{is_past}
use Rattle.ejects.specs.Parts.{body_at}
use Rattle.ejects.specs.View.{parts_of}
use Rattle.agenda.specs.Keys.{run_keys_of}
use Rattle.agenda.specs.Indexed.{uids_of, comes}
use Rattle.agenda.proofs.Runs.{all-runs, no-runs, run-here, run-later}
use Rattle.agenda.proofs.Agenda.next_run.Goals as goal

pub returns-in-All : goal.returns-in-All
returns-in-All c = λ ts index at.
    let n = parts_of ts c.args.ejects.now in
    let us = uids_of c.args.self.now.run in
    let got = all-runs c.args.station n us index (is_past c.args.last) at
    (λ u q. c.keys_behind.ensures u q ∙ ap (λ b. comes b u q) c.in-All.is) in
    c.first_run.ensures ts (subst (λ o. IfSome o (λ u. u.node ≡ c.args.station)) (sym c.first.ensures) got.0)
    ∙ ap (λ o. with_item o (λ u. first (run_keys_of u (body_at n u))) None) c.first.ensures ∙ got.1

pub returns-in-Some : goal.returns-in-Some
returns-in-Some c = λ ts index at.
    ap Some c.key_of.ensures
    ∙ run-here c.args.station (parts_of ts c.args.ejects.now) (uids_of c.args.self.now.run) index (is_past c.args.last) at c.in-Past.uid
    c.in-Past.process (λ u q. c.keys_behind.ensures u q ∙ ap (λ b. comes b u q) c.in-Past.is) c.in-Some.next
    (sym (c.next_ready.ensures.next ts) ∙ c.in-Some.is)

pub returns-in-None : goal.returns-in-None
returns-in-None c = λ ts index at.
    let n = parts_of ts c.args.ejects.now in
    let got = run-later c.args.station n (uids_of c.args.self.now.run) index (is_past c.args.last) at c.in-Past.uid c.in-Past.process
    (λ u q. c.keys_behind.ensures u q ∙ ap (λ b. comes b u q) c.in-Past.is) (sym (c.next_ready.ensures.next ts) ∙ c.in-None.is) in
    c.first_run-in-None.ensures ts (subst (λ o. IfSome o (λ u. u.node ≡ c.args.station)) (sym c.past.ensures) got.0)
    ∙ ap (λ o. with_item o (λ u. first (run_keys_of u (body_at n u))) None) c.past.ensures ∙ got.1

pub returns-in-Nothing : goal.returns-in-Nothing
returns-in-Nothing c = λ ts index at.
    no-runs c.args.station (parts_of ts c.args.ejects.now) (uids_of c.args.self.now.run) index (is_past c.args.last) at
    (λ u q. c.keys_behind.ensures u q ∙ ap (λ b. comes b u q) c.in-Nothing.is)
