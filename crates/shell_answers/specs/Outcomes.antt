-- The exit status of each outcome, and the line that is written for one that comes before a run.
use Rattle.std.specs.Prelude.{ℕ, List, [], ◌++◌, codes}
use Rattle.std.specs.Fmt.{decimal}
use Rattle.script_words.specs.declared.cause.ScriptCause.{ScriptCause}
use Rattle.script_words.specs.declared.cause.ScriptCause.TheVariants as cause
use Rattle.shell_answers.specs.declared.outcome.Outcome.{Outcome}
use Rattle.shell_answers.specs.declared.outcome.Outcome.TheVariants.{Ran, BadWords, BadScript, ReadFault, WriteFault, OutOfMemory, TooLong}

-- the exit status of the program for an outcome, 0 for a run that came to its end
abbrev pub status_of : Outcome → ℕ
status_of Ran = 0
status_of BadWords = 2
status_of (BadScript line cause) = 3
status_of ReadFault = 4
status_of WriteFault = 5
status_of OutOfMemory = 6
status_of TooLong = 7

-- the words for the cause for which a line of a script is refused
abbrev pub cause_text : ScriptCause → List ℕ
cause_text cause.BadByte = codes "bad byte"
cause_text cause.LongLine = codes "long line"
cause_text cause.AfterEnd = codes "after end"
cause_text cause.NoCommand = codes "no command"
cause_text cause.Misplaced = codes "misplaced"
cause_text cause.BadForm = codes "bad form"
cause_text cause.BadNumber = codes "bad number"
cause_text cause.UnknownName = codes "unknown name"
cause_text cause.UnknownType = codes "unknown type"
cause_text cause.DoubledName = codes "doubled name"
cause_text cause.BadEdentype = codes "bad edentype"
cause_text cause.NoEnd = codes "no end"

-- what is written of a refused script: the number of its bad line, and the cause
abbrev pub bad_script_line : ℕ → ScriptCause → List ℕ
bad_script_line line why = codes "bad script line " ++ decimal line ++ codes ": " ++ cause_text why ++ codes "\n"

-- the line that is written where an outcome comes before a run, with its line feed
abbrev pub line_of : Outcome → List ℕ
line_of BadWords = codes "usage: eden run [--trace] | host DIR [--trace] | gen N | wire | twin | run --full | move\n"
line_of (BadScript line why) = bad_script_line line why
line_of ReadFault = codes "read fault\n"
line_of TooLong = codes "script too long\n"
-- these have no line of their own
line_of Ran = []
line_of WriteFault = []
line_of OutOfMemory = []
