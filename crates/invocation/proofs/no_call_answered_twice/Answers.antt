use Rattle.invocation.proofs.Once.{answered-once}
use Rattle.invocation.proofs.no_call_answered_twice.Goals as goal

pub returns : goal.returns
returns c m cs = answered-once cs m
