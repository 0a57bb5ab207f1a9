use Rattle.std.proofs.Common.{◌∙◌, ap, subst}
use Rattle.edentypes.specs.View.{kind_in}
use Rattle.journal.specs.Ejects.{fresh}
use Rattle.active_part.specs.View.{body_of}
use Rattle.ejects.specs.Activations.{JoinsAll}
use Rattle.ejects.specs.View.{parts_of}
use Rattle.ejects.proofs.Waking.{wakes}
use Rattle.ejects.proofs.Ejects.wake.Goals as goal

pub returns-clause-turn : goal.returns-clause-turn
returns-clause-turn c reach s p sound allowed starts at =
    let ts = c.args.types.now in
    let kind = kind_in ts c.args.begun.now.kind in
    let first = body_of ts c.in_ok-part.part in
    let later = body_of ts c.join_all.new.part in
    wakes reach (parts_of ts c.args.self.now) (parts_of ts c.enter.new.self) c.take_waiting-queued.new.waiting.entries c.args.calls.now
    c.join_all.new.calls s c.args.uid p kind c.args.begun.now.durable first later sound allowed starts at c.take_waiting-queued.ensures.at
    (c.in_ok-part.ensures.active ∙ ap (fresh kind) c.in_ok-vars.ensures.same) c.in_ok-part.ensures.queued
    (subst (λ ks. JoinsAll first later ks c.args.calls.now c.join_all.new.calls) c.take_waiting-queued.ensures.calls
    c.in_ok-join_all.ensures.joins)
    (c.in_ok-enter.ensures ts)
