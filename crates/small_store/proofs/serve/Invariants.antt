use Rattle.small_store.specs.Ready.{IsReady}
use Rattle.small_store.proofs.serve.Given as goal

abbrev pub invariant-loop-line : goal.invariant-loop-line
invariant-loop-line g l =
    (goal.iterator-loop-line g).can_next l.line-iterator ×
    (goal.iterator-loop-line g).is_finite l.line-iterator ×
    IsReady (g.St.Store.seen l.store)
