-- What the code's values are.
use Rattle.std.specs.Prelude.{map}
use Rattle.std.specs.Option.{option_map}
use Rattle.eden_value.specs.View.{datum}
use Rattle.script_words.specs.Meaning.{written_mode}
use Rattle.move_laws.specs.World as world
use Rattle.eden_move.specs.Calls.{uid_of, seen_letter, seen_refusal}
use Rattle.eden_value.specs.Datum.{Datum}
use Rattle.move_world.specs.Commands.{Command, makes, wakes, saves, moves, repeats, carries, crashes, restarts, fails, stops}
use Rattle.move_world.specs.Logs as logs
use Rattle.move_world.specs.declared.commands.MoveCommand.{MoveCommand}
use Rattle.move_world.specs.declared.commands.MoveCommand.TheVariants as command
use Rattle.move_world.specs.declared.answer.Ended.{Ended}
use Rattle.move_world.specs.declared.answer.Ended.TheVariants as ended
use Rattle.move_world.specs.declared.answer.Answer.{Answer}
use Rattle.move_world.specs.declared.answer.Answer.TheVariants as answer
use Rattle.move_world.specs.declared.answer.Entry.{Entry}
use Rattle.move_world.specs.declared.answer.Log.{Log}

-- a command of the code
abbrev pub meant : MoveCommand → Command
meant (command.Make n serial v) = makes n serial (datum v)
meant (command.Wake n u) = wakes n u
meant (command.Save n u v) = saves n u (datum v)
meant (command.Move n u to) = moves n u to
meant (command.Again n u) = repeats n u
meant (command.Carry a b i) = carries a b i
meant (command.Crash n mode) = crashes n (written_mode mode)
meant (command.Restart n) = restarts n
meant (command.Fail n after) = fails n after
meant (command.Stop n after mode) = stops n after (written_mode mode)

-- how a call ended, in the code
abbrev pub how_of : Ended → world.Ended Datum
how_of (ended.Refused r) = world.Refused (seen_refusal r)
how_of (ended.Answered put post) = world.Answered put (option_map seen_letter post)

-- an answer of the code
abbrev pub answer_of : Answer → logs.Answer
answer_of (answer.Ends how) = logs.Ends (how_of how)
answer_of (answer.Shows v) = logs.Shows (datum v)
answer_of (answer.Comes l how) = logs.Comes (uid_of l) (seen_letter l) (how_of how)
answer_of answer.NoLetter = logs.NoLetter
answer_of answer.WrongState = logs.WrongState
answer_of answer.Up = logs.Up
answer_of (answer.Down refusal) = logs.Down refusal
answer_of answer.Done = logs.Done

abbrev pub entry_of : Entry → logs.Entry
entry_of e = record { command = meant e.command; answer = answer_of e.answer }

-- a log of the code
abbrev pub log_of : Log → logs.Log
log_of l = record { nodes = l.nodes; openings = map entry_of l.openings.items; entries = map entry_of l.entries.items }
