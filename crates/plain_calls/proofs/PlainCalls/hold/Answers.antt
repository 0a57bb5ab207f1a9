use Rattle.std.proofs.Common.{◌∙◌, ap}
use Rattle.plain_calls.specs.declared.call.Place.TheVariants.{Held}
use Rattle.plain_calls.specs.View.{calls_of}
use Rattle.plain_calls.proofs.Changed.{both, placed-call}
use Rattle.plain_calls.proofs.PlainCalls.hold.Goals as goal

pub returns : goal.returns
returns c = both _ _ _ _ (ap calls_of c.put_at.ensures ∙ placed-call c.args.number Held c.args.self.now.calls.items) c.let_go.ensures
