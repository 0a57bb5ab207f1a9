use Rattle.std.proofs.Common.{◌≡◌, ◌∙◌, None, Some, ap, sym}
use Rattle.std.specs.Prelude.{option_copied}
use Rattle.std.specs.Option.{option_map}
use Rattle.plain_ejects.specs.View.{eject_of}
use Rattle.plain_sites.proofs.Turning.{if-and}
use Rattle.plain_sites.proofs.processes.encoded_at.Goals as goal

pub returns-in_ok-bytes-in-Some-clause-bytes : goal.returns-in_ok-bytes-in-Some-clause-bytes
returns-in_ok-bytes-in-Some-clause-bytes c e it there is =
    let ts = c.args.types.now in
    let same : eject_of ts c.in-Some.eject.now ≡ e =
    let both : Some (eject_of ts c.in-Some.eject.now) ≡ Some e =
    sym (ap (λ o. option_map (eject_of ts) (option_copied o)) c.in-Some.is) ∙ (c.find.ensures ts ∙ there) in cc both in
    if-and (eject_of ts c.in-Some.eject.now).active it _ c.in_ok-bytes-in-Some.ensures.bytes (ap (λ x. x.active) same ∙ is)

pub returns-in-None-clause-bytes : goal.returns-in-None-clause-bytes
returns-in-None-clause-bytes c e it there is =
    let ts = c.args.types.now in
    absurd (let bad : None ≡ Some e =
    sym (ap (λ o. option_map (eject_of ts) (option_copied o)) c.in-None.is) ∙ (c.find.ensures ts ∙ there) in cc bad)
