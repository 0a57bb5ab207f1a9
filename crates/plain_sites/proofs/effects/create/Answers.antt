use Rattle.std.proofs.Common.{◌∙◌, Some, ap, subst, sym}
use Rattle.edentypes.specs.View.{kind_in}
use Rattle.active_part.specs.Body.{active_of}
use Rattle.active_part.specs.View.{body_of}
use Rattle.journal.specs.Processes.{creates, shown_creation}
use Rattle.plain_sites.specs.Turns.{RunsAt}
use Rattle.plain_sites.proofs.Turning.{created-as, runs-born}
use Rattle.plain_stores.specs.View.{site_of}
use Rattle.plain_sites.proofs.effects.create.Goals as goal

pub returns-in_ok-bear-in-Ok-clause-shows : goal.returns-in_ok-bear-in-Ok-clause-shows
returns-in_ok-bear-in-Ok-clause-shows c t = ap shown_creation (sym c.in-Ok.is ∙ c.next_uid.ensures c.args.types.now t)

pub returns-in_ok-bear-in-Ok-clause-changes : goal.returns-in_ok-bear-in-Ok-clause-changes
returns-in_ok-bear-in-Ok-clause-changes c t e it h new =
    let ts = c.args.types.now in
    let s = site_of ts t c.args.node.now in
    let v = c.in-Ok.created in
    let next = sym c.in-Ok.is ∙ c.next_uid.ensures ts t in
    let none = new v (sym next) in
    let a = active_of (body_of ts c.in_ok-part-in-Ok.part) in
    let mid = c.in_ok-bear-in-Ok.ensures ts t none c.in_ok-part-in-Ok.ensures.queued in
    created-as s _ _ c.args.uid v c.args.process (kind_in ts c.args.kind) a c.mint.result mid c.in_ok-part-in-Ok.ensures.active
    (c.tell_created.ensures ts t e it
    (subst (λ x. RunsAt x.node.ejects c.args.uid c.args.process e it) (sym mid) (runs-born s c.args.uid v c.args.process e it a h none)))
    c.mint.ensures.exact next

pub returns-in-Err-clause-shows : goal.returns-in-Err-clause-shows
returns-in-Err-clause-shows c t = ap shown_creation (sym c.in-Err.is ∙ c.next_uid.ensures c.args.types.now t)

pub returns-in-Err-clause-changes : goal.returns-in-Err-clause-changes
returns-in-Err-clause-changes c t e it h new =
    let ts = c.args.types.now in
    c.tell_created-in-Err.ensures ts t e it h
    ∙ ap (λ r. creates c.args.uid c.args.process (Some (kind_in ts c.args.kind)) r (site_of ts t c.args.node.now))
    (sym c.in-Err.is ∙ c.next_uid.ensures ts t)
