-- A command of a script, as it is written.
use Rattle.std.specs.Prelude.{List, map}
use Rattle.journal.specs.declared.command.Command.{Command}
use Rattle.journal.specs.declared.command.Command.TheVariants as command
use Rattle.script_words.specs.Tree.{row_of}
use Rattle.eden_script.specs.Tree.{WrittenCommand, create, hold, call, restrict, walk, turn, go, crash, restart, cut, join, fail, stop}
use Rattle.eden_script.specs.Tree.{finish}
use Rattle.script_words.specs.Meaning.{reference_of, written_arg, written_mode}

-- a command of the code, as it is written
abbrev pub written_command : Command → WrittenCommand
written_command (command.Create name n t) = create name n t
written_command (command.Hold name uid) = hold name uid.node uid.epoch uid.serial
written_command (command.Call name r op args) = call name (reference_of r) op (row_of (map written_arg args))
written_command (command.Restrict name r mask) = restrict name (reference_of r) mask.bits
written_command (command.Walk name r path) = walk name (reference_of r) path
written_command (command.Turn i) = turn i
written_command (command.Go n) = go n
written_command (command.Crash n how) = crash n (written_mode how)
written_command (command.Restart n) = restart n
written_command (command.Cut a b) = cut a b
written_command (command.Join a b) = join a b
written_command (command.Fail n k) = fail n k
written_command (command.Stop n k how) = stop n k (written_mode how)
written_command command.End = finish

-- commands of the code, each as it is written
abbrev pub written_commands : List Command → List WrittenCommand
written_commands cs = map written_command cs
