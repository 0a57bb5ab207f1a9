use Rattle.std.proofs.Common.{◌≡◌, drop, map}
use Rattle.epl_syntax.specs.Tree.{variable}
use Rattle.epl_syntax.specs.Rules.InItems.{durable_named}
use Rattle.epl_check.proofs.item.durable_named.Given as goal

abbrev pub invariant-loop-v : goal.invariant-loop-v
invariant-loop-v l = durable_named (map variable (drop l.v-index l.vars)) l.text ≡ durable_named (map variable l.vars) l.text
