use Rattle.std.proofs.Common.{◌∙◌, ap, length}
use Rattle.invocation.specs.Mail.{Mail}
use Rattle.ejects.proofs.Counting.{any-on_ok, cut_link-none}
use Rattle.eden_world.proofs.World.cut.Goals as goal

pub returns-clause-asks : goal.returns-clause-asks
returns-clause-asks g c = any-on_ok c.tell_all.result
    (ap (λ (m : Mail). length m.calls) c.tell_all.ensures.calls
    ∙ cut_link-none c.args.a c.args.b c.args.self.now.calls c.break_link.new.self c.in_ok-broken.ensures.cases.1)
