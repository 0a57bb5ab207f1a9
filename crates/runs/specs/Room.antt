-- How many entries a script gives at most.
use Rattle.std.specs.Prelude.{ℕ, ◌+◌, Bool, true, false, List, [], ◌∷◌, length}
use Rattle.journal.specs.declared.command.Command.{Command}
use Rattle.journal.specs.declared.command.Command.TheVariants as command
use Rattle.journal.specs.Run.{most_turns, components}

-- the command gives one entry, which is of no turn
abbrev pub is_single : Command → Bool
is_single (command.Go n) = false
is_single (command.Turn i) = false
is_single (command.Walk name target path) = false
is_single _ = true

-- how many entries a command gives besides those of turns: a walk one for each component of its path
abbrev pub entries_of : Command → ℕ
entries_of (command.Go n) = 0
entries_of (command.Turn i) = 0
entries_of (command.Walk name target path) = length (components path)
entries_of _ = 1

-- how many entries these commands give at most besides those of turns
abbrev pub entries_in : List Command → ℕ
entries_in [] = 0
entries_in (c ∷ cs) = entries_of c + entries_in cs

-- how many calls can have numbers
abbrev pub most_calls : ℕ
most_calls = 4294967295

-- Those of a whole script that boots so many nodes, but for turns that take no key, which need no room.
abbrev pub most_entries : ℕ → List Command → ℕ
most_entries nodes cs = most_turns + (nodes + entries_in cs)
