use Rattle.std.proofs.Common.{◌≡◌, map, take}
use Rattle.eden_value.specs.View.{datums}
use Rattle.epl_syntax.specs.Tree.{local_of}
use Rattle.epl_run.specs.Begins.{local_starts}
use Rattle.epl_run.proofs.beginning.local_starts.Given as goal

abbrev pub invariant-loop-local : goal.invariant-loop-local
invariant-loop-local l = datums l.values.items ≡ local_starts (map local_of (take l.local-index l.locals))
