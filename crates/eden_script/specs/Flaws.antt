-- Where the lines of a part fail a test.
use Rattle.std.specs.Prelude.{◌≡◌, ℕ, suc, ◌+◌, ◌<◌, ◌≤◌, ◌==◌, ◌||◌, ◌&&◌, not, nat_lt, nat_le, Bool, List, [], ◌∷◌, length, Option, Some}
use Rattle.std.specs.Prelude.{None, if◌then◌else◌}
use Rattle.std.specs.List.{list_all}
use Rattle.script_words.specs.Form.{is_printable, is_among}
use Rattle.eden_script.specs.Parts.{Part, parts_of, lines_in, line_of_place}
use Rattle.script_words.specs.Lines.{lines_of}
use Rattle.eden_script.specs.Declarations.{Types, type_names, declared_name}
use Rattle.eden_script.specs.Tree.{Line}
use Rattle.eden_script.specs.Causes.{Seen, IsCause, IsSaid}
use Rattle.script_words.specs.Causes.{rank}
use Rattle.script_words.specs.declared.cause.ScriptCause.{ScriptCause}
use Rattle.script_words.specs.declared.cause.ScriptCause.TheVariants.{BadByte, LongLine, AfterEnd, Misplaced, DoubledName, BadEdentype}

-- a line of a part, counted from 0, and a test that it fails
abbrev pub Place : Type 0
Place = ℕ × ScriptCause

-- the first line, from line i on, that has a bad byte or is too long
abbrev pub line_flaw : ℕ → List (List ℕ) → Option Place
line_flaw i [] = None
line_flaw i (bytes ∷ lines) =
    if not (list_all is_printable bytes) then Some (i, BadByte)
    else (if nat_lt 4096 (length bytes) then Some (i, LongLine)
    else line_flaw (suc i) lines)

-- an Edentype behind `end` or `nodes`
abbrev pub place_flaw : Seen → Option Place
place_flaw seen = if seen.ended then Some (0, AfterEnd) else (if seen.nodes == 0 then None else Some (0, Misplaced))

-- the flaw of the name that was found at a place, if it is one of those that are known
abbrev pub name_flaw' : List (List ℕ) → List ℕ → Option (ℕ × List ℕ) → Option Place
name_flaw' known text None = None
name_flaw' known text (Some found) = if is_among known found.1 then Some (line_of_place text found.0, DoubledName) else None

-- the flaw of a text whose type has the name of one that is there
abbrev pub name_flaw : Types → List ℕ → Option Place
name_flaw types text = name_flaw' (type_names types) text (declared_name text)

-- on an earlier line, or on the same one by a test that is not later
abbrev pub is_earlier : Place → Place → Bool
is_earlier a b = nat_lt a.0 b.0 || (a.0 == b.0 && nat_le (rank a.1) (rank b.1))

-- the earlier one of two, if any
abbrev pub earlier : Option Place → Option Place → Option Place
earlier None b = b
earlier (Some a) None = Some a
earlier (Some a) (Some b) = if is_earlier a b then Some a else Some b

-- the first flaw of an Edentype's text that is found before it is read as one
abbrev pub outer_flaw : Seen → List ℕ → Option Place
outer_flaw seen text = earlier (line_flaw 0 (lines_of text)) (earlier (place_flaw seen) (name_flaw seen.types text))

-- the earlier one of a flaw and of a bad text at a line
abbrev pub with_text : Option Place → ℕ → Place
with_text None line = (line, BadEdentype)
with_text (Some a) line = if is_earlier a (line, BadEdentype) then a else (line, BadEdentype)

-- The first part of some bytes says this, has so many lines, and these bytes stand behind it.
abbrev pub FirstSays : Seen → List ℕ → Line → ℕ → List ℕ → Type 0
FirstSays seen bytes l count behind =
    (p : Part) × (parts_of (lines_of bytes) ≡ p ∷ parts_of (lines_of behind)) × IsSaid seen p l × (count ≡ length (lines_in p))
    × (0 < count) × (count + length behind ≤ length bytes)

-- The first part of some bytes has its first cause at this line, counted from 0.
abbrev pub FirstFails : Seen → List ℕ → ℕ → ScriptCause → Type 0
FirstFails seen bytes i cause =
    (p : Part) × (behind : List Part) × (parts_of (lines_of bytes) ≡ p ∷ behind) × IsCause seen p i cause × (i ≤ length bytes)
