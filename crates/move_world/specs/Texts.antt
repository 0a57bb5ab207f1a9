-- What a log writes.
use Rattle.std.specs.Prelude.{ℕ, List, [], ◌∷◌, ◌++◌, codes, Bool, true, false}
use Rattle.std.specs.Fmt.{decimal}
use Rattle.capability.specs.declared.Uid.{Uid}
use Rattle.eden_value.specs.Datum.{Datum}
use Rattle.eden_value.specs.Printed.{printed, printed_uid}
use Rattle.passive_store.specs.declared.store.StoreRefusal.{StoreRefusal}
use Rattle.passive_store.specs.declared.store.StoreRefusal.TheVariants as store
use Rattle.move_laws.specs.Wander.{Letter, Take, Known}
use Rattle.move_laws.specs.World as world
use Rattle.move_laws.specs.World.{Refusal, Ended, Refused, Answered}
use Rattle.eden_move.specs.Calls.{own_uid}
use Rattle.move_world.specs.Commands.{Command, makes, wakes, saves, moves, repeats, carries, crashes, restarts, fails, stops}
use Rattle.move_world.specs.Logs.{Answer, Ends, Shows, Comes, NoLetter, WrongState, Up, Down, Done, Entry, Log}

-- 1. Words

-- the word of a number of a node, behind a blank
abbrev pub with_node : List ℕ → ℕ → List ℕ
with_node word n = word ++ (codes " " ++ decimal n)

-- why a call was refused; want of memory and a stop have other lines
abbrev pub refusal_words : Refusal → List ℕ
refusal_words world.There = codes "there"
refusal_words (world.IsLent to) = with_node (codes "lent") to
refusal_words (world.IsGone to) = with_node (codes "gone") to
refusal_words world.Unknown = codes "unknown"
refusal_words world.Asleep = codes "asleep"
refusal_words world.TooLarge = codes "too large"
refusal_words world.GenerationsSpent = codes "spent"
refusal_words world.Damaged = codes "damaged"
refusal_words world.Fault = codes "fault"
refusal_words world.Full = codes "full"
refusal_words world.Stopped = []
refusal_words world.OutOfMemory = []

-- why a disk was not opened
abbrev pub store_words : StoreRefusal → List ℕ
store_words store.Failed = codes "disk fault"
store_words store.Stopped = codes "stop"
store_words store.Full = codes "full"
store_words (store.Damaged place) = with_node (codes "damaged") place
store_words store.OutOfMemory = []

-- 2. Lines

-- `N U` and these words
abbrev pub eject_line : ℕ → Uid → List ℕ → List ℕ
eject_line n u said = decimal n ++ (codes " " ++ (printed_uid u ++ (codes " " ++ (said ++ codes "\n"))))

-- `node N` and these words
abbrev pub node_line : ℕ → List ℕ → List ℕ
node_line n said = codes "node " ++ (decimal n ++ (codes " " ++ (said ++ codes "\n")))

-- a call that was refused; a stop takes the node down
abbrev pub refused_line : ℕ → Uid → Refusal → List ℕ
refused_line n u world.Stopped = node_line n (codes "down stop")
refused_line n u r = eject_line n u (codes "refused " ++ refusal_words r)

-- a call on an Eject at a node, with the words of one that is answered
abbrev pub call_line : ℕ → Uid → List ℕ → Ended Datum → List ℕ
call_line n u said (Refused r) = refused_line n u r
call_line n u said (Answered put post) = eject_line n u said

-- what came of a letter from a node: a record was put, or not
abbrev pub letter_words : ℕ → Letter Datum → Bool → List ℕ
letter_words from (Take to g v) true = codes "here"
letter_words from (Take to g v) false = codes "ignored"
letter_words from (Known to g) true = with_node (codes "gone") from
letter_words from (Known to g) false = codes "ignored"

-- a letter that came from a node to another
abbrev pub letter_line : (a b : ℕ) → Uid → Letter Datum → Ended Datum → List ℕ
letter_line a b u l (Refused r) = refused_line b u r
letter_line a b u l (Answered put post) = eject_line b u (letter_words a l put)

-- what any answer but that of a call writes
abbrev pub other_line : ℕ → Answer → List ℕ
other_line n WrongState = node_line n (codes "state")
other_line n NoLetter = codes "no packet\n"
other_line n Up = node_line n (codes "up")
other_line n (Down e) = node_line n (codes "down " ++ store_words e)
other_line n _ = []

-- the line of a call on an Eject at a node
abbrev pub answer_line : ℕ → Uid → List ℕ → Answer → List ℕ
answer_line n u said (Ends how) = call_line n u said how
answer_line n u said (Shows v) = eject_line n u (codes "active " ++ printed v)
answer_line n u said a = other_line n a

-- the line of a letter
abbrev pub carried_line : (a b : ℕ) → Answer → List ℕ
carried_line a b (Comes u l how) = letter_line a b u l how
carried_line a b answer = other_line b answer

-- the line of a crash
abbrev pub crashed_line : ℕ → Answer → List ℕ
crashed_line n Done = node_line n (codes "down crash")
crashed_line n a = other_line n a

-- the line of a command with its answer, if it has one
abbrev pub line_of : Command → Answer → List ℕ
line_of (makes n s v) a = answer_line n (own_uid n s) (codes "made") a
line_of (wakes n u) a = answer_line n u [] a
line_of (saves n u v) a = answer_line n u (codes "saved") a
line_of (moves n u to) a = answer_line n u (with_node (codes "lent") to) a
line_of (repeats n u) a = answer_line n u (codes "sent") a
line_of (carries b to i) a = carried_line b to a
line_of (crashes n how) a = crashed_line n a
line_of (restarts n) a = other_line n a
line_of (fails n after) a = other_line n a
line_of (stops n after how) a = other_line n a

-- the line of the opening of a node before the first command: none where it opens
abbrev pub opening_line : Command → Answer → List ℕ
opening_line c Up = []
opening_line c a = line_of c a

-- 3. Texts

-- the lines of openings
abbrev pub opening_lines : List Entry → List ℕ
opening_lines [] = []
opening_lines (e ∷ es) = opening_line e.command e.answer ++ opening_lines es

-- the lines of commands with their answers
abbrev pub lines_of : List Entry → List ℕ
lines_of [] = []
lines_of (e ∷ es) = line_of e.command e.answer ++ lines_of es

-- the text of a log
abbrev pub text_of : Log → List ℕ
text_of l = opening_lines l.openings ++ lines_of l.entries
