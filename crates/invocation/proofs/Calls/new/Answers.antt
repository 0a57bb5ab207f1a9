use Rattle.invocation.proofs.Mails.{none-whole}
use Rattle.invocation.proofs.Carried.{none-carried}
use Rattle.invocation.proofs.Calls.new.Goals as goal

pub invariant_of-result : goal.invariant_of-result
invariant_of-result c = rw (c.in_ok-queues.ensures, c.new-2.ensures.items) (none-whole _ _ c.in_ok-index.ensures c.new-3.ensures.empty)

pub returns-clause-model : goal.returns-clause-model
returns-clause-model c = rw (c.in_ok-queues.ensures, c.new-2.ensures.items) none-carried
