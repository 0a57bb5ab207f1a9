use Rattle.std.proofs.Common.{rules, ◌∙◌, ap, length}
use Rattle.invocation.specs.Mail.{Mail}
use Rattle.ejects.proofs.Counting.{any-on_ok, cut_node-none}
use Rattle.eden_world.proofs.World.lose.Goals as goal

pub returns-clause-told : goal.returns-clause-told
returns-clause-told g c = search rules

pub returns-clause-asks : goal.returns-clause-asks
returns-clause-asks g c = any-on_ok c.tell_all.result
    (ap (λ (m : Mail). length m.calls) c.tell_all.ensures.calls
    ∙ cut_node-none c.args.number c.args.self.now.calls c.break_node.new.self c.in_ok-broken.ensures.cases.1)
