use Rattle.std.proofs.Common.{◌≡◌, ◌++◌, drop, map}
use Rattle.epl_syntax.specs.Rules.First.{least}
use Rattle.epl_check.specs.View.{doubled_before}
use Rattle.epl_check.proofs.names.check_doubled.Given as goal

abbrev pub invariant-loop-i : goal.invariant-loop-i
invariant-loop-i g l =
    least l.first (doubled_before (map g.A.Named.named (drop l.i l.a)) (map g.B.Named.named l.b ++ map g.C.Named.named l.c))
    ≡ least l.fn.first (doubled_before (map g.A.Named.named l.a) (map g.B.Named.named l.b ++ map g.C.Named.named l.c))
