-- What a log of pairs of disks writes.
use Rattle.std.specs.Prelude.{ℕ, List, [], ◌∷◌, ◌++◌, codes, Bool, true, false, Option, None, Some}
use Rattle.std.specs.Fmt.{decimal}
use Rattle.eden_value.specs.Datum.{text}
use Rattle.eden_value.specs.Printed.{printed}
use Rattle.twin_store.specs.declared.served.TwinRefusal.{TwinRefusal}
use Rattle.twin_store.specs.declared.served.TwinRefusal.TheVariants.{Lost, Stopped, Full, GenerationsSpent, OutOfMemory}
use Rattle.twin_world.specs.Commands.{Command, opens, puts, gets, deletes, closes, blanks, fails, stops}
use Rattle.twin_world.specs.Logs.{Answer, WrongState, Opened, Made, Found, NoRoom, Refused, CutShort, Entry, Log}

-- 1. Words

-- why a call was refused; want of memory is never written
abbrev pub refusal_words : TwinRefusal → List ℕ
refusal_words Lost = codes "lost"
refusal_words Stopped = codes "stop"
refusal_words Full = codes "full"
refusal_words GenerationsSpent = codes "spent"
refusal_words OutOfMemory = []

-- which disks are in use
abbrev pub used_words : Bool → Bool → List ℕ
used_words true true = codes "both"
used_words true false = codes "first"
used_words false true = codes "second"
used_words false false = []

-- what was found
abbrev pub found_words : Option (List ℕ) → List ℕ
found_words None = codes "none"
found_words (Some body) = printed (text body)

-- what is said behind the numbers of a line, each word behind a blank
abbrev pub said : Answer → List ℕ
said WrongState = codes " state"
said (Opened first second) = codes " " ++ used_words first second
said Made = codes " ok"
said (Found found) = codes " " ++ found_words found
said NoRoom = codes " full"
said (Refused r) = codes " " ++ refusal_words r
said (CutShort true) = codes " stop"
said (CutShort false) = codes " fault"

-- the same of a closing and a blanking, of which nothing is said where it was done
abbrev pub said_if_not_done : Answer → List ℕ
said_if_not_done Made = []
said_if_not_done a = said a

-- 2. Lines

-- a word, a number, and what is said
abbrev pub short_line : List ℕ → ℕ → List ℕ → List ℕ
short_line word n what = word ++ (decimal n ++ (what ++ codes "\n"))

-- a word, a node and a serial, and what is said
abbrev pub long_line : List ℕ → ℕ → ℕ → Answer → List ℕ
long_line word n serial a = short_line word n (codes " " ++ (decimal serial ++ said a))

-- the line of a command with its answer; asking for a failure or a stop writes none
abbrev pub line_of : Command → Answer → List ℕ
line_of (opens n) a = short_line (codes "open ") n (said a)
line_of (puts n serial body) a = long_line (codes "put ") n serial a
line_of (gets n serial) a = long_line (codes "get ") n serial a
line_of (deletes n serial) a = long_line (codes "delete ") n serial a
line_of (closes n) a = short_line (codes "close ") n (said_if_not_done a)
line_of (blanks d) a = short_line (codes "blank ") d (said_if_not_done a)
line_of (fails d after) a = []
line_of (stops d after how) a = []

-- 3. Texts

-- the lines of commands with their answers
abbrev pub lines_of : List Entry → List ℕ
lines_of [] = []
lines_of (e ∷ es) = line_of e.command e.answer ++ lines_of es

-- the text of a log
abbrev pub text_of : Log → List ℕ
text_of l = lines_of l.entries
