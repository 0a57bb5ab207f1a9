use Rattle.std.proofs.Common.{◌≡◌, None, ap}
use Rattle.std.specs.Prelude.{option_copied}
use Rattle.journal.specs.Deliveries.{misfit}
use Rattle.journal.specs.Processes.{class_of}
use Rattle.plain_calls.specs.View.{call_of}
use Rattle.plain_sites.proofs.Deliveries.{part-as}
use Rattle.plain_sites.proofs.messages.class_at.Goals as goal

pub returns-in-Some-part : goal.returns-in-Some-part
returns-in-Some-part c = part-as c.args.types.now (option_copied c.args.eject) c.in-Some.eject.now c.in-Some-part.part
    (λ it. misfit it.kind (call_of c.args.call.now) ≡ None → c.class_by.result ≡ class_of it.kind (call_of c.args.call.now))
    (ap option_copied c.in-Some.is) c.in-Some-part.is c.class_by.ensures
