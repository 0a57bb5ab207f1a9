-- What the code's values are.
use Rattle.std.specs.Prelude.{map}
use Rattle.script_words.specs.Meaning.{written_mode}
use Rattle.twin_world.specs.Commands.{Command, opens, puts, gets, deletes, closes, blanks, fails, stops}
use Rattle.twin_world.specs.Logs as logs
use Rattle.twin_world.specs.declared.commands.TwinCommand.{TwinCommand}
use Rattle.twin_world.specs.declared.commands.TwinCommand.TheVariants as command
use Rattle.twin_world.specs.declared.answer.Answer.{Answer}
use Rattle.twin_world.specs.declared.answer.Answer.TheVariants as answer
use Rattle.twin_world.specs.declared.answer.Done.{Done}
use Rattle.twin_world.specs.declared.answer.Entry.{Entry}
use Rattle.twin_world.specs.declared.answer.Log.{Log}

-- a command of the code
abbrev pub meant : TwinCommand → Command
meant (command.Open n) = opens n
meant (command.Put n serial text) = puts n serial text
meant (command.Get n serial) = gets n serial
meant (command.Delete n serial) = deletes n serial
meant (command.Close n) = closes n
meant (command.Blank disk) = blanks disk
meant (command.Fail disk after) = fails disk after
meant (command.Stop disk after mode) = stops disk after (written_mode mode)

-- an answer of the code
abbrev pub answer_of : Answer → logs.Answer
answer_of answer.WrongState = logs.WrongState
answer_of (answer.Opened first second) = logs.Opened first second
answer_of answer.Made = logs.Made
answer_of (answer.Found text) = logs.Found text
answer_of answer.NoRoom = logs.NoRoom
answer_of (answer.Refused r) = logs.Refused r
answer_of (answer.CutShort stopped) = logs.CutShort stopped

-- the entry of a command that was answered so
abbrev pub entry_by : Command → Done → logs.Entry
entry_by c d = record { command = c; answer = answer_of d.answer; first_failed = d.first_failed; second_failed = d.second_failed }

abbrev pub entry_of : Entry → logs.Entry
entry_of e = record {
  command = meant e.command;
  answer = answer_of e.answer;
  first_failed = e.first_failed;
  second_failed = e.second_failed;
}

-- a log of the code
abbrev pub log_of : Log → logs.Log
log_of l = record { entries = map entry_of l.entries.items }
