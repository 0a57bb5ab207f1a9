use Rattle.std.proofs.Common.{◌≡◌, ◌≤◌, ◌-◌, ℕ, suc, Bool, true, false, not, Option}
use Rattle.std.proofs.Common.{None, Some, is_some, Continue, List, [], ◌∷◌, length, sym, ap, ◌∙◌, subst, refl}
use Rattle.capability.specs.declared.Uid.{Uid}
use Rattle.agenda.specs.Indexed.{uids_of, wake_keys_but}
use Rattle.agenda.proofs.AtPlaces.{past-all}
use Rattle.agenda.proofs.places.wake_at.Goals as goal

-- with no Eject on which the store works there is a key for each
all-wake : (station : ℕ) (us : List Uid) → length (wake_keys_but station None us) ≡ length us
all-wake station [] = refl
all-wake station (u ∷ us) = ap suc (all-wake station us)

is-none : (o : Option Uid) (b : Bool) → is_some o ≡ not b → b ≡ true → o ≡ None
is-none None b some is = refl
is-none (Some u) true some is = absurd (let bad : true ≡ false = some in cc bad)
is-none (Some u) false some is = absurd (let bad : false ≡ true = is in cc bad)

pub returns-then-number-place : goal.returns-then-number-place
returns-then-number-place c =
    let us = uids_of c.args.index.now in
    let none : c.args.worked ≡ None = is-none c.args.worked c.is_none.result c.is_none.ensures c.if-is_none.true in
    let ks = wake_keys_but c.args.station c.args.worked us in
    let many : c.len-number.result ≡ length ks =
    c.len-number.ensures ∙ sym (ap (λ (o : Option Uid). length (wake_keys_but c.args.station o us)) none ∙ all-wake c.args.station us) in
    ap (λ (n : ℕ). Continue (c.args.place - n)) many
    ∙ sym (past-all ks c.args.place (subst (λ (n : ℕ). n ≤ c.args.place) many c.if-number-place.true))
