use Rattle.std.proofs.Common.{◌≡◌, drop, map}
use Rattle.epl_syntax.specs.Rules.Scopes.{is_among}
use Rattle.epl_check.proofs.names.is_among.Given as goal

abbrev pub invariant-loop-item : goal.invariant-loop-item
invariant-loop-item g l = is_among (map g.T.Named.named (drop l.item-index l.items)) l.text ≡ is_among (map g.T.Named.named l.items) l.text
