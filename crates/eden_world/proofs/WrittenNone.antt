-- A fit script writes out no capability.
use Rattle.std.proofs.Common.{◌≡◌, ℕ, zero, suc, List, [], ◌∷◌, ◌++◌, refl, ◌∙◌, ap}
use Rattle.std.specs.List.{All}
use Rattle.std.proofs.lemmas.List.Elements.{All-head, All-tail}
use Rattle.eden_value.specs.declared.value.TheConstants.{DEPTH_LIMIT}
use Rattle.journal.specs.Argument.{Argument, Arguments, plain, named, several, no_arguments, argument_and, arguments_of}
use Rattle.journal.specs.Fit.{ArgumentsFit, AreArguments, IsArgument, IsFitCommand}
use Rattle.journal.specs.Laws.{WriteNone, WritesNone, written_in, written_in_each}
use Rattle.journal.specs.declared.command.Command.{Command}
use Rattle.journal.specs.declared.command.Command.TheVariants as command

mutual
  bare : (deep : ℕ) (g : Argument) → IsArgument deep g → written_in g ≡ []
  bare deep (plain d) fit = fit.no_capability
  bare deep (named name k) fit = refl
  bare zero (several gs) fit = absurd fit
  bare (suc deep) (several gs) fit = bare-each deep gs fit.1

  bare-each : (deep : ℕ) (gs : Arguments) → AreArguments deep gs → written_in_each gs ≡ []
  bare-each deep no_arguments fit = refl
  bare-each deep (argument_and g gs) fit = ap (λ cs. cs ++ written_in_each gs) (bare deep g fit.0) ∙ bare-each deep gs fit.1

by-arguments : (c : Command) → ArgumentsFit c → WritesNone c
by-arguments (command.Create name n t) fit = tt
by-arguments (command.Hold name uid) fit = tt
by-arguments (command.Call name target operation args) fit = bare-each DEPTH_LIMIT (arguments_of args) fit
by-arguments (command.Restrict name target mask) fit = tt
by-arguments (command.Walk name target path) fit = tt
by-arguments (command.Turn i) fit = tt
by-arguments (command.Go n) fit = tt
by-arguments (command.Crash n mode) fit = tt
by-arguments (command.Restart n) fit = tt
by-arguments (command.Cut a b) fit = tt
by-arguments (command.Join a b) fit = tt
by-arguments (command.Fail n after) fit = tt
by-arguments (command.Stop n after mode) fit = tt
by-arguments command.End fit = tt

pub write-none : (types : List (List ℕ)) (nodes : ℕ) (cs : List Command) → All (IsFitCommand types nodes) cs → WriteNone cs
write-none types nodes [] fit = tt
write-none types nodes (c ∷ cs) fit = (
  by-arguments c (All-head (IsFitCommand types nodes) c cs fit).arguments,
  write-none types nodes cs (All-tail (IsFitCommand types nodes) c cs fit),
)
