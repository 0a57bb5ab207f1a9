use Rattle.passive_blocks.proofs.PlanningLoop.{Planning}
use Rattle.passive_blocks.proofs.convert.plan_heads.Given as goal

-- the values so far, and those of the entries that are left, are all values
abbrev pub invariant-loop-uid : goal.invariant-loop-uid
invariant-loop-uid l = Planning l.index l.uid-iterator l.moved.items l.number l.first
