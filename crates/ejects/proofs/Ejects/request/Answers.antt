use Rattle.std.proofs.Common.{None, Some, sym, subst}
use Rattle.eden_model.specs.Traffic.{replied}
use Rattle.invocation.specs.Carries.{Carries}
use Rattle.journal.specs.declared.event.Event.TheVariants as event
use Rattle.ejects.specs.Parts.{IsStep}
use Rattle.ejects.specs.View.{parts_of, IsAdmission}
use Rattle.ejects.proofs.Admitting.{room-at, room-passive}
use Rattle.ejects.proofs.Requested.{request-refused, request-joined, request-passive}
use Rattle.ejects.proofs.Ejects.request.Goals as goal

pub join_active-requires : goal.join_active-requires
join_active-requires c =
    let x = c.in-Some.asked.now in
    room-at c.args.types.now c.args.self.now x c.in-Active.class
    (subst (IsAdmission (parts_of c.args.types.now c.args.self.now) x) c.in-Active.is c.admission.ensures)

pub join_passive-requires : goal.join_passive-requires
join_passive-requires c =
    let x = c.in-Some.asked.now in
    room-passive (parts_of c.args.types.now c.args.self.now) x
    (subst (IsAdmission (parts_of c.args.types.now c.args.self.now) x) c.in-Passive.is c.admission.ensures)

pub returns-in_ok-join_active-in-Active-clause-steps : goal.returns-in_ok-join_active-in-Active-clause-steps
returns-in_ok-join_active-in-Active-clause-steps c reach s stands came =
    let x = c.in-Some.asked.now in
    let a = subst (IsAdmission (parts_of c.args.types.now c.args.self.now) x) c.in-Active.is c.admission.ensures in
    subst (λ to. IsStep reach (parts_of c.args.types.now c.join_active.new.self) c.args.calls.now s
    (event.Request c.args.call c.args.from to None)) (sym c.node-to.ensures.value)
    (request-joined reach (parts_of c.args.types.now c.args.self.now) c.args.calls.now s c.args.from c.args.call x stands came (sym
    c.in-Some.ensures) (parts_of c.args.types.now c.join_active.new.self) c.in-Active.class a.0 a.1
    (λ b at few. c.in_ok-join_active-in-Active.ensures c.args.types.now b at))

pub returns-in_ok-join_passive-in-Passive-clause-steps : goal.returns-in_ok-join_passive-in-Passive-clause-steps
returns-in_ok-join_passive-in-Passive-clause-steps c reach s stands came =
    let x = c.in-Some.asked.now in
    let a = subst (IsAdmission (parts_of c.args.types.now c.args.self.now) x) c.in-Passive.is c.admission.ensures in
    subst (λ to. IsStep reach (parts_of c.args.types.now c.join_passive.new.self) c.args.calls.now s
    (event.Request c.args.call c.args.from to None)) (sym c.node-to.ensures.value)
    (request-passive reach (parts_of c.args.types.now c.args.self.now) c.args.calls.now s c.args.from c.args.call x stands came (sym
    c.in-Some.ensures) (parts_of c.args.types.now c.join_passive.new.self) a.0 a.1 a.2
    (c.in_ok-join_passive-in-Passive.ensures c.args.types.now))

pub returns-in_ok-reply-in-Refused-clause-steps : goal.returns-in_ok-reply-in-Refused-clause-steps
returns-in_ok-reply-in-Refused-clause-steps c reach s stands came =
    let x = c.in-Some.asked.now in
    let a = subst (IsAdmission (parts_of c.args.types.now c.args.self.now) x) c.in-Refused.is c.admission.ensures in
    subst (λ to. IsStep reach (parts_of c.args.types.now c.args.self.now) c.reply.new.calls s
    (event.Request c.args.call c.args.from to (Some c.in-Refused.status))) (sym c.node-to.ensures.value)
    (request-refused reach (parts_of c.args.types.now c.args.self.now) c.args.calls.now s c.args.from c.args.call x stands came (sym
    c.in-Some.ensures) c.reply.new.calls c.in-Refused.status a
    (λ t carries out. subst (λ rs. Carries c.reply.new.calls (replied c.in-Refused.status rs c.args.call t)) c.no_items.ensures
    (c.in_ok-reply-in-Refused.ensures.model t carries out)))
