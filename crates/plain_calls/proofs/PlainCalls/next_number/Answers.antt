use Rattle.std.proofs.Common.{arith}
use Rattle.plain_calls.proofs.Changed.{length-calls}
use Rattle.plain_calls.proofs.PlainCalls.next_number.Goals as goal

pub returns : goal.returns
returns c = omega (arith, c.len.ensures, length-calls c.args.self.now.calls.items, c.args.self.now.calls.ok.0)
