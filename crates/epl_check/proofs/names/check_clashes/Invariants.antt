use Rattle.std.proofs.Common.{◌≡◌, drop, map}
use Rattle.epl_syntax.specs.Rules.First.{least}
use Rattle.epl_syntax.specs.Rules.Scopes.{clashes}
use Rattle.epl_check.proofs.names.check_clashes.Given as goal

abbrev pub invariant-loop-other : goal.invariant-loop-other
invariant-loop-other g l =
    least l.first (clashes l.name (map g.T.Named.named (drop l.other-index l.others)))
    ≡ least l.fn.first (clashes l.name (map g.T.Named.named l.others))
