-- A command gives few entries besides those of turns.
use Rattle.std.proofs.Common.{◌≤◌, ◌+◌, ◌==◌, ℕ, Bool, true, false, cond, List, [], ◌∷◌, length, arith}
use Rattle.std.proofs.lemmas.List.Elements.{All-head, All-tail}
use Rattle.journal.specs.declared.command.Command.{Command}
use Rattle.journal.specs.declared.command.Command.TheVariants as command
use Rattle.journal.specs.Fit.{IsFitCommand}
use Rattle.journal.specs.Run.{components, joined_to}
use Rattle.runs.specs.Room.{entries_of}
use Rattle.runs.specs.Laws.{EntriesAreFew}

pub components-few : (path : List ℕ) → length (components path) ≤ length path + 1
components-few [] = omega arith
components-few (b ∷ bs) = go (b == 47) (components bs) (components-few bs)
  where
    go : (slash : Bool) (cs : List (List ℕ)) → length cs ≤ length bs + 1
        → length (cond slash ([] ∷ cs) (joined_to b cs)) ≤ length (b ∷ bs) + 1
    go true cs le = omega (arith, le)
    go false [] le = omega arith
    go false (c ∷ cs) le = omega (arith, le)

of-command : (types : List (List ℕ)) (nodes : ℕ) (c : Command) → IsFitCommand types nodes c → entries_of c ≤ 1025
of-command types nodes (command.Walk name target path) fit = let short : length path ≤ 1024 = fit.path.short in omega
    (arith, components-few path, short)
of-command types nodes (command.Go n) fit = omega arith
of-command types nodes (command.Turn i) fit = omega arith
of-command types nodes _ fit = omega arith

pub entries-are-few : EntriesAreFew
entries-are-few types nodes [] all = omega arith
entries-are-few types nodes (c ∷ cs) all = omega (
  arith,
  of-command types nodes c (All-head (IsFitCommand types nodes) c cs all),
  entries-are-few types nodes cs (All-tail (IsFitCommand types nodes) c cs all),
)
