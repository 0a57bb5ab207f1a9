use Rattle.std.proofs.Common.{◌≡◌, drop}
use Rattle.journal.specs.Argument.{arguments_of}
use Rattle.journal.specs.ArgumentView.{givens}
use Rattle.journal.specs.References.{values_of}
use Rattle.journal.specs.World.{World}
use Rattle.shell_names.specs.Names.{NamesStand}
use Rattle.shell_names.specs.Shallow.{shallow_all}
use Rattle.shell_names.proofs.Depths.{before}
use Rattle.shell_names.proofs.arguments.+read.Given as goal

abbrev pub invariant-read_all-loop-arg : goal.invariant-read_all-loop-arg
invariant-read_all-loop-arg l = (w : World) → NamesStand l.names w
    → before l.made.items (shallow_all l.most (values_of w (arguments_of (givens (drop l.arg-index l.args)))))
    ≡ shallow_all l.most (values_of w (arguments_of (givens l.args)))
