use Rattle.std.proofs.Common.{◌≡◌, drop, map}
use Rattle.epl_syntax.specs.Rules.First.{least}
use Rattle.epl_syntax.specs.Rules.Scopes.{as_variables}
use Rattle.epl_check.proofs.names.check_as_variables.Given as goal

abbrev pub invariant-loop-item : goal.invariant-loop-item
invariant-loop-item g l =
    least l.first (as_variables (map (λ v. v.name) l.vars.items.now) (map g.T.Named.named (drop l.item-index l.items)))
    ≡ least l.fn.first (as_variables (map (λ v. v.name) l.vars.items.now) (map g.T.Named.named l.items))
