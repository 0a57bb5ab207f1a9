use Rattle.std.proofs.Common.{◌≡◌, ◌++◌, drop, false}
use Rattle.epl_parser.specs.Heads.{stands_for}
use Rattle.epl_parser.proofs.constant_parser.unescaped.Given as goal

abbrev pub invariant-loop-b : goal.invariant-loop-b
invariant-loop-b l = l.bytes.items ++ stands_for l.escaped (drop l.b-index l.body) ≡ stands_for false l.body
