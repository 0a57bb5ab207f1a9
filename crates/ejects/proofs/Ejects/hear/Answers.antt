use Rattle.std.proofs.Common.{◌∙◌, None, Some, ap, subst, sym}
use Rattle.epl_syntax.specs.declared.effect.Answer.TheVariants.{Reply as Told}
use Rattle.invocation.specs.Carries.{CarriesDelivery}
use Rattle.invocation.specs.declared.call.Delivery.TheVariants.{Reply}
use Rattle.active_part.specs.Bodies.{told_body}
use Rattle.journal.specs.declared.event.Event.TheVariants as event
use Rattle.ejects.specs.Parts.{IsStep}
use Rattle.ejects.specs.View.{parts_of, with_body}
use Rattle.ejects.proofs.Hearing.{reply-closed, reply-open}
use Rattle.ejects.proofs.Ejects.hear.Goals as goal

pub returns-then-not-was_open-clause-steps : goal.returns-then-not-was_open-clause-steps
returns-then-not-was_open-clause-steps c ts reach later s sound stands came =
    subst (λ to. IsStep reach (parts_of ts c.args.self.now) later s
    (event.Reply c.args.call c.args.from to None c.args.status c.args.results)) (sym c.node-to.ensures.value)
    (reply-closed reach (parts_of ts c.args.self.now) (parts_of ts c.args.self.now) later s c.args.from c.args.call c.args.status
    c.args.results c.args.asker.0 c.args.asker.1
    stands (subst (λ x. CarriesDelivery c.args.from c.args.self.now.table.node
    (Some (Reply c.args.call c.args.status c.args.results x (Some c.args.asker))) later s.traffic)
    c.if-not-was_open.true came))

pub returns-clause-steps : goal.returns-clause-steps
returns-clause-steps c ts reach later s sound stands came =
    subst (λ to. IsStep reach (parts_of ts c.tell_at.new.self) later s
    (event.Reply c.args.call c.args.from to None c.args.status c.args.results)) (sym c.node-to.ensures.value)
    (reply-open reach (parts_of ts c.args.self.now) (parts_of ts c.tell_at.new.self) later s c.args.from c.args.call c.args.status
    c.args.results c.args.asker.0 c.args.asker.1
    stands sound (subst (λ x. CarriesDelivery c.args.from c.args.self.now.table.node
    (Some (Reply c.args.call c.args.status c.args.results x (Some c.args.asker))) later s.traffic)
    c.if-not-was_open.false came)
    (λ b at waits. c.tell_at.ensures ts b at waits ∙ ap
    (λ rs. with_body c.args.asker.0 (told_body c.args.asker.1 (Told c.args.status rs) b) (parts_of ts c.args.self.now))
    c.in_ok-told.ensures))
