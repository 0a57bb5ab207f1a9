use Rattle.std.proofs.Common.{◌∙◌, ap}
use Rattle.plain_calls.specs.View.{calls_of}
use Rattle.plain_calls.proofs.Changed.{both, shut-call}
use Rattle.plain_calls.proofs.PlainCalls.receive.Goals as goal

pub returns : goal.returns
returns c = both _ _ _ _ (ap calls_of c.shut_at.ensures ∙ shut-call c.args.number c.args.self.now.calls.items) c.let_go.ensures
