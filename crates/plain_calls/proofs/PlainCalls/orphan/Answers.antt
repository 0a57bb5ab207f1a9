use Rattle.std.proofs.Common.{refl}
use Rattle.plain_calls.specs.declared.closing.Cause.TheVariants.{Lost}
use Rattle.plain_calls.specs.Changes.{closed_by}
use Rattle.plain_calls.proofs.Changed.{both, calls-each}
use Rattle.plain_calls.proofs.PlainCalls.orphan.Goals as goal

pub returns : goal.returns
returns c = both _ _ _ _
    (calls-each (closed_by (Lost c.args.uid)) c.args.self.now.calls.items c.close_each.new.calls.items c.close_each.ensures) refl
