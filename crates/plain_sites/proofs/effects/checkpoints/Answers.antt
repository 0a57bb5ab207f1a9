use Rattle.std.proofs.Common.{◌≡◌, ◌∙◌, Some, ap, subst, sym}
use Rattle.eden_codec.specs.Spelling.{spelling}
use Rattle.eden_model.specs.Map.{uid_cmp, value_at}
use Rattle.eden_value.specs.declared.status.Status.TheVariants as status
use Rattle.epl_syntax.specs.declared.effect.Answer.TheVariants.{Code}
use Rattle.epl_syntax.specs.Meaning.{rep_of}
use Rattle.active_part.specs.View.{IsEncoded}
use Rattle.journal.specs.EjectChange.{body}
use Rattle.journal.specs.Ejects.{tells}
use Rattle.journal.specs.Processes.{asks_store}
use Rattle.journal.specs.World.{Site}
use Rattle.plain_sites.proofs.Turning.{past-limit, within-limit}
use Rattle.plain_stores.specs.View.{ejects_of, site_of}
use Rattle.plain_sites.proofs.effects.checkpoints.Goals as goal

pub returns-in_ok-ask_store-in-Some : goal.returns-in_ok-ask_store-in-Some
returns-in_ok-ask_store-in-Some c t e it h =
    let ts = c.args.types.now in
    let s = site_of ts t c.args.node.now in
    let bytes = spelling (rep_of it.kind it.vars) in
    let encoded = subst (IsEncoded bytes) c.in-Some.is (c.in_ok-encoded.ensures.bytes e it
    (subst (λ l. value_at uid_cmp c.args.uid (ejects_of ts l) ≡ Some e) (sym c.deref.ensures.value) h.is_there) h.is_active) in
    c.in_ok-ask_store-in-Some.ensures ts t e it h
    ∙ (ap (λ b. asks_store c.args.uid c.args.process (body b) s) encoded.0
    ∙ sym (within-limit bytes Site (asks_store c.args.uid c.args.process (body bytes) s)
    (tells c.args.uid c.args.process (Code status.TooLarge) s) encoded.1))

pub returns-in-None : goal.returns-in-None
returns-in-None c t e it h =
    let ts = c.args.types.now in
    let s = site_of ts t c.args.node.now in
    let bytes = spelling (rep_of it.kind it.vars) in
    let encoded = subst (IsEncoded bytes) c.in-None.is (c.in_ok-encoded.ensures.bytes e it
    (subst (λ l. value_at uid_cmp c.args.uid (ejects_of ts l) ≡ Some e) (sym c.deref.ensures.value) h.is_there) h.is_active) in
    c.act_on.ensures ts t e it h tt
    ∙ sym (past-limit bytes Site (asks_store c.args.uid c.args.process (body bytes) s)
    (tells c.args.uid c.args.process (Code status.TooLarge) s) encoded)
