-- The words of an answer.
use Rattle.std.specs.Prelude.{ℕ, ◌-◌, ◌||◌, ◌&&◌, Bool, false, not, List, [], ◌∷◌, ◌++◌, map, replicate, codes, Option, Some, None}
use Rattle.std.specs.Prelude.{if◌then◌else◌, zero, suc}
use Rattle.std.specs.Fmt.{decimal}
use Rattle.std.specs.List.{filter}
use Rattle.std.specs.Str.{bytes_eq}
use Rattle.epl_check.specs.declared.difference.Difference.{Difference}
use Rattle.epl_check.specs.declared.difference.Difference.TheVariants as difference
use Rattle.epl_check.specs.declared.difference.Plain.{Plain}
use Rattle.epl_check.specs.declared.difference.Plain.TheVariants as plain
use Rattle.epl_check.specs.declared.difference.Shape.{Shape}
use Rattle.epl_syntax.specs.declared.rule.Rule.{Rule}
use Rattle.epl_syntax.specs.declared.rule.Rule.TheVariants as rule
use Rattle.script_words.specs.Form.{is_printable}
use Rattle.script_words.specs.Form.{is_among}
use Rattle.script_words.specs.Causes.{first_word}
use Rattle.script_words.specs.declared.cause.ScriptCause.{ScriptCause}
use Rattle.script_words.specs.declared.cause.ScriptCause.TheVariants as cause
use Rattle.mistakes.specs.Answers.{line_numbered}
use Rattle.mistakes.specs.declared.mistake.Mistake.{Mistake}
use Rattle.mistakes.specs.declared.mistake.TypeFault.{TypeFault}
use Rattle.mistakes.specs.declared.mistake.TypeFault.TheVariants.{TooMany, BadToken, TooDeep, Broken}

-- ## Causes and faults

-- the words for a cause, which are those of the program `eden`
abbrev pub cause_text : ScriptCause → List ℕ
cause_text cause.BadByte = codes "bad byte"
cause_text cause.LongLine = codes "long line"
cause_text cause.AfterEnd = codes "after end"
cause_text cause.NoCommand = codes "no command"
cause_text cause.Misplaced = codes "misplaced"
cause_text cause.BadForm = codes "bad form"
cause_text cause.BadNumber = codes "bad number"
cause_text cause.UnknownName = codes "unknown name"
cause_text cause.UnknownType = codes "unknown type"
cause_text cause.DoubledName = codes "doubled name"
cause_text cause.BadEdentype = codes "bad edentype"
cause_text cause.NoEnd = codes "no end"

-- the words for a rule
abbrev pub rule_text : Rule → List ℕ
rule_text rule.UnknownName = codes "unknown name"
rule_text rule.KindDiffers = codes "kind differs"
rule_text rule.Unguarded = codes "unguarded"
rule_text rule.Nested = codes "nested"
rule_text rule.Doubled = codes "doubled"
rule_text rule.BadLimit = codes "bad limit"

-- the words for a fault of a type, behind the cause; nothing where there is none
abbrev pub fault_text : Option TypeFault → List ℕ
fault_text None = []
fault_text (Some TooMany) = codes ": too many types"
fault_text (Some BadToken) = codes ": bad token"
fault_text (Some TooDeep) = codes ": too deep"
fault_text (Some (Broken r d)) = codes ": " ++ rule_text r

-- ## What was wanted

-- what a table has for a word; nothing where the word is not in it
abbrev pub look_up : List (List ℕ × List ℕ) → List ℕ → List ℕ
look_up [] word = []
look_up (entry ∷ entries) word = if bytes_eq word entry.0 then entry.1 else look_up entries word

-- the form of each command, by its word
abbrev pub forms : List (List ℕ × List ℕ)
forms =
    (codes "nodes", codes "nodes N, with N from 1 to 8")
    ∷ (codes "create", codes "create NAME N TYPE, with N a node")
    ∷ (codes "hold", codes "hold NAME N.E.S, with N a node, E and S from 1 to 4294967295")
    ∷ (codes "call", codes "call NAME REF.OP(VALUE, VALUE), with any number of values")
    ∷ (codes "restrict", codes "restrict NAME REF MASK, with MASK from 0 to 65535")
    ∷ (codes "walk", codes "walk NAME REF \"PATH\"")
    ∷ (codes "turn", codes "turn I, with I from 0 to 1000000")
    ∷ (codes "go", codes "go N, with N from 1 to 1000000")
    ∷ (codes "crash", codes "crash N or crash N MODE, with N a node and MODE keep, lose or garble B")
    ∷ (codes "restart", codes "restart N, with N a node")
    ∷ (codes "cut", codes "cut A B, with A and B two stations from 0 to the number of nodes")
    ∷ (codes "join", codes "join A B, with A and B two stations from 0 to the number of nodes")
    ∷ (codes "fail", codes "fail N K, with N a node and K from 1 to 1000000")
    ∷ (codes "stop", codes "stop N K MODE, with N a node, K from 1 to 1000000, and MODE keep, lose or garble B")
    ∷ (codes "end", codes "end")
    ∷ []

-- words that may stand wherever others may, each with one of those: the second is told for both
abbrev pub covered : List (List ℕ × List ℕ)
covered =
    (codes "a name that begins with a small letter", codes "an expression")
    ∷ (codes "a name that begins with a small letter", codes "a statement")
    ∷ (codes "a number", codes "a constant")
    ∷ (codes "a constant", codes "an expression")
    ∷ (codes "`self`", codes "an expression")
    ∷ (codes "`(`", codes "an expression")
    ∷ (codes "`[`", codes "an expression")
    ∷ (codes "`[`", codes "an operator")
    ∷ (codes "`=`", codes "an operator")
    ∷ (codes "`class`", codes "an item of a type")
    ∷ (codes "`durable` or `working`", codes "an item of a type")
    ∷ []

-- whether some words are told by others among these
abbrev pub is_covered : List (List ℕ × List ℕ) → List (List ℕ) → List ℕ → Bool
is_covered [] wanted word = false
is_covered (entry ∷ entries) wanted word = (bytes_eq entry.0 word && is_among wanted entry.1) || is_covered entries wanted word

-- whether no others among these tell some words
abbrev pub is_kept : List (List ℕ) → List ℕ → Bool
is_kept wanted word = not (is_covered covered wanted word)

-- those that no others tell
abbrev pub kept : List (List ℕ) → List (List ℕ)
kept wanted = filter (is_kept wanted) wanted

-- texts behind the first one, with a comma and a blank before each
abbrev pub listed_behind : List (List ℕ) → List ℕ
listed_behind [] = []
listed_behind (text ∷ texts) = codes ", " ++ text ++ listed_behind texts

-- texts with a comma and a blank between each two; where there are none, that nothing more may stand
abbrev pub listed : List (List ℕ) → List ℕ
listed [] = codes "nothing more"
listed (text ∷ texts) = text ++ listed_behind texts

-- what a rule asks for
abbrev pub rule_wanted : Rule → List ℕ
rule_wanted rule.UnknownName = codes "a name that is declared for this place; of a type: a native one, one that stands before, or this one"
rule_wanted rule.KindDiffers = codes "the kind that is declared for this place; at `return` the kinds behind `returns`, and none in a process"
rule_wanted rule.Unguarded = codes "a `with` of its monitor around it"
rule_wanted rule.Nested = codes "no `with` inside a `with`"
rule_wanted rule.Doubled = codes "a name or a number that does not stand before in the same scope"
rule_wanted rule.BadLimit = codes "a number within its limits, a kind at most 4 lists deep, and no more of these than a type may have"

-- a kind as a type writes it
abbrev pub plain_text : Plain → List ℕ
plain_text plain.Int = codes "int"
plain_text plain.Bool = codes "bool"
plain_text plain.Text = codes "text"
plain_text plain.Cap = codes "cap"

-- so many lists, each of those behind it
abbrev pub lists_text : ℕ → List ℕ
lists_text zero = []
lists_text (suc n) = lists_text n ++ codes "list of "

abbrev pub shape_text : Shape → List ℕ
shape_text s = lists_text s.lists ++ plain_text s.plain

-- words, and a number
unfoldable pub count_text : List ℕ → ℕ → List ℕ
count_text front n = front ++ decimal n

-- how many values were wanted, and how many are there
abbrev pub counts_text : ℕ → ℕ → List ℕ
counts_text wanted found = count_text (codes "values in the parentheses: ") wanted ++ count_text (codes "; here: ") found

-- what was wanted where kinds, or numbers of values, differ, and what is there
abbrev pub difference_text : Difference → List ℕ
difference_text (difference.Kind wanted found) = shape_text wanted ++ codes "; this is " ++ shape_text found
difference_text (difference.List found) = codes "a list; this is " ++ shape_text found
difference_text (difference.Sized found) = codes "text or a list; this is " ++ shape_text found
difference_text (difference.Count wanted found) = counts_text wanted found
difference_text difference.Return = codes "no `return`: only an operation returns values"

-- what was wanted where a type breaks a rule
abbrev pub broken_wanted : Rule → Option Difference → List ℕ
broken_wanted r None = rule_wanted r
broken_wanted r (Some d) = difference_text d

-- what was wanted where a type is refused
abbrev pub fault_wanted : TypeFault → List (List ℕ) → List ℕ
fault_wanted TooMany wanted = codes "at most 64 types"
fault_wanted BadToken wanted = listed (kept wanted)
fault_wanted TooDeep wanted = codes "at most 32 statements, kinds or expressions in one another"
fault_wanted (Broken r d) wanted = broken_wanted r d

-- what was wanted of a line that is bad for a cause other than its form
abbrev pub whole_line_wanted : ScriptCause → List ℕ
whole_line_wanted cause.BadByte = codes "bytes from 0x20 to 0x7E alone"
whole_line_wanted cause.LongLine = codes "at most 4096 bytes"
whole_line_wanted cause.AfterEnd = codes "nothing behind `end` but empty lines and comments"
whole_line_wanted cause.NoCommand = codes "nodes, create, hold, call, restrict, walk, turn, go, crash, restart, cut, join, fail, stop or end"
whole_line_wanted cause.Misplaced = codes "the types first, then `nodes` once, and then the other commands"
whole_line_wanted cause.UnknownName = codes "a name that a line before introduces"
whole_line_wanted cause.UnknownType = codes "Cell, Directory, Lines, Take, Skip, Only, Number, Sink, or a type that is declared before"
whole_line_wanted cause.DoubledName = codes "a name that no line before introduces, and that no type has where it is a type's"
whole_line_wanted cause.NoEnd = codes "`endtype` behind each type, and `end` as the last line"
whole_line_wanted _ = []

-- what was wanted of a line with this word in front: of a bad form or number the form of the command
abbrev pub line_wanted : ScriptCause → List ℕ → List ℕ
line_wanted cause.BadForm word = look_up forms word
line_wanted cause.BadNumber word = look_up forms word
line_wanted why word = whole_line_wanted why

-- what was wanted at the place of a mistake
abbrev pub wanted_text : Mistake → Option TypeFault → List ℕ → List ℕ
wanted_text m (Some fault) text = fault_wanted fault (map (λ w. w.now) m.wanted.items)
wanted_text m None text = line_wanted m.cause (first_word text)

-- ## The whole answer

-- the place and the cause of a mistake
abbrev pub place_text : Mistake → List ℕ
place_text m =
    codes "line " ++ decimal m.line ++ codes ", column " ++ decimal m.column ++ codes ": " ++ cause_text m.cause ++ fault_text m.fault
    ++ codes "\n"

-- a byte as it is shown: a question mark for one that is none of a line's
abbrev pub shown_byte : ℕ → ℕ
shown_byte b = if is_printable b then b else 63

-- a line as it is shown
abbrev pub shown : List ℕ → List ℕ
shown text = map shown_byte text

-- a line, and a mark under its column
abbrev pub line_and_mark : List ℕ → ℕ → List ℕ
line_and_mark text column = shown text ++ codes "\n" ++ replicate (column - 1) 32 ++ codes "^\n"

-- the line with its mark; nothing where no line is bad but the end is missing
abbrev pub marked : ScriptCause → List ℕ → ℕ → List ℕ
marked cause.NoEnd text column = []
marked why text column = line_and_mark text column

-- the answer for a mistake in a script: the place and the cause, the line with the mark, and what was wanted
abbrev pub text_of : List ℕ → Mistake → List ℕ
text_of bytes m =
    place_text m ++ marked m.cause (line_numbered bytes m.line) m.column ++ codes "wanted: "
    ++ wanted_text m m.fault (line_numbered bytes m.line) ++ codes "\n"

-- the answer for a script: that there is no mistake, or what is wrong
abbrev pub answer_text : List ℕ → Option Mistake → List ℕ
answer_text bytes None = codes "no mistake\n"
answer_text bytes (Some m) = text_of bytes m
