use Rattle.std.proofs.Common.{◌≡◌, ◌≤◌, ◌-◌, ℕ, Continue, length, sym, ap, ◌∙◌, subst}
use Rattle.std.proofs.lemmas.List.{length-map}
use Rattle.capability.specs.declared.Uid.{Uid}
use Rattle.journal.specs.Enabled.{activity}
use Rattle.agenda.specs.Indexed.{uids_of}
use Rattle.agenda.specs.Keys.{start_keys}
use Rattle.agenda.proofs.AtPlaces.{past-all}
use Rattle.agenda.proofs.places.start_at.Goals as goal

pub returns-then-number-place : goal.returns-then-number-place
returns-then-number-place c =
    let us = uids_of c.args.index.now in
    let many : c.len-number.result ≡ length (start_keys c.args.station us) =
    c.len-number.ensures ∙ sym (length-map us (λ (u : Uid). activity c.args.station 3 u 0)) in
    ap (λ (n : ℕ). Continue (c.args.place - n)) many
    ∙ sym (past-all (start_keys c.args.station us) c.args.place (subst (λ (n : ℕ). n ≤ c.args.place) many c.if-number-place.true))
