-- Reading a line from left to right, by its form.
use Rattle.std.specs.Prelude.{ℕ, not, nat_lt, List, [], ◌∷◌, length, map, codes, Option, Some, None, Ok, Err}
use Rattle.std.specs.Prelude.{if◌then◌else◌}
use Rattle.std.specs.List.{list_all}
use Rattle.eden_value.specs.Datum.{Datum}
use Rattle.script_words.specs.Form.{is_printable, number_of}
use Rattle.script_words.specs.Tree.{WrittenMode}
use Rattle.script_words.specs.Causes.{first_word}
use Rattle.script_words.specs.Reading.{Judged, Reading, ◌>>=◌, read_word, read_end, read_digits, within, in_range, read_quoted, read_mode}
use Rattle.script_words.specs.Reading.{read_crash_mode, read_alone, is_idle}
use Rattle.script_words.specs.View.{value_in}
use Rattle.script_words.specs.declared.cause.ScriptCause.TheVariants.{BadByte, LongLine, AfterEnd, NoCommand, Misplaced, BadForm, BadNumber}
use Rattle.line_forms.specs.Forms.{Form, Kind, Last, nothing, datum, words, mode, Line, idle, begins, does, finish, Which, unknown}
use Rattle.line_forms.specs.Forms.{the_first, the_end, other, which}
use Rattle.line_forms.specs.Spelling.{mark_word, stations, all_differ}
use Rattle.line_forms.specs.Tests.{Seen, top}
use Rattle.line_forms.specs.declared.form.Place.{Place}
use Rattle.line_forms.specs.declared.form.Ending.{Ending}
use Rattle.line_forms.specs.declared.form.Ending.TheVariants.{Nothing, Value, Text, Mode, MaybeMode}

-- ## Numbers

-- the digits at a place, and what stands behind them
abbrev pub read_place : Place → List ℕ → Reading (List ℕ)
read_place p bytes = read_word (mark_word p.mark) bytes >>= λ rest. read_digits rest

-- some words, and one more in front
abbrev pub word_and : List ℕ → List (List ℕ) × List ℕ → Reading (List (List ℕ))
word_and d found = Ok (d ∷ found.0, found.1)

-- the digits at each place, and what stands behind the last
abbrev pub read_places : List Place → List ℕ → Reading (List (List ℕ))
read_places [] bytes = Ok ([], bytes)
read_places (p ∷ ps) bytes = read_place p bytes >>= λ d. read_places ps d.1 >>= λ found. word_and d.0 found

-- the stations among these words differ
abbrev pub apart : List Place → List (List ℕ) → Judged (Unit {0})
apart ps ws = if all_differ (stations ps (map number_of ws)) then Ok tt else Err BadForm

-- the numbers of some words, each in the range of its place
abbrev pub ranged : ℕ → List Place → List (List ℕ) → Judged (List ℕ)
ranged most [] ws = Ok []
ranged most (p ∷ ps) [] = Ok []
ranged most (p ∷ ps) (w ∷ ws) = within p.low (top most p.high) w >>= λ n. ranged most ps ws >>= λ ns. Ok (n ∷ ns)

-- ## What a line ends with

-- What a line ends with is read whole, and is none where a number in it is out of its range.
abbrev pub Maybe : Type 0
Maybe = Option Last

-- a value that was read, or none
abbrev pub as_datum : Judged Datum → Judged Maybe
as_datum (Ok d) = Ok (Some (datum d))
as_datum (Err BadNumber) = Ok None
as_datum (Err e) = Err e

-- a value alone
abbrev pub read_datum : List ℕ → Judged Datum
read_datum bytes = read_alone bytes >>= λ g. Ok (value_in g)

-- a mode that was read, or none
abbrev pub as_mode : Option WrittenMode → Maybe
as_mode None = None
as_mode (Some how) = Some (mode how)

-- nothing more
abbrev pub read_no_ending : List ℕ → Judged Maybe
read_no_ending bytes = read_end bytes >>= λ u. Ok (Some nothing)

-- a value behind a blank
abbrev pub read_value_ending : List ℕ → Judged Maybe
read_value_ending bytes = read_word (codes " ") bytes >>= λ rest. as_datum (read_datum rest)

-- a text behind a blank
abbrev pub read_text_ending : List ℕ → Judged Maybe
read_text_ending bytes =
    read_word (codes " ") bytes >>= λ rest. read_quoted rest >>= λ t. read_end t.1 >>= λ u. Ok (Some (words t.0))

-- a mode
abbrev pub read_mode_ending : List ℕ → Judged Maybe
read_mode_ending bytes = read_mode bytes >>= λ how. Ok (as_mode how)

-- a mode, or nothing
abbrev pub read_maybe_mode_ending : List ℕ → Judged Maybe
read_maybe_mode_ending bytes = read_crash_mode bytes >>= λ how. Ok (as_mode how)

-- what a line ends with
abbrev pub read_ending : Ending → List ℕ → Judged Maybe
read_ending Nothing bytes = read_no_ending bytes
read_ending Value bytes = read_value_ending bytes
read_ending Text bytes = read_text_ending bytes
read_ending Mode bytes = read_mode_ending bytes
read_ending MaybeMode bytes = read_maybe_mode_ending bytes

-- ## Forms

-- what stands behind the word of a form
abbrev pub read_behind : ℕ → Form → List ℕ → Judged (List ℕ × Last)
read_behind most f bytes =
    read_places f.places bytes >>= λ ws. read_ending f.ending ws.1 >>= λ e. apart f.places ws.0 >>= λ u.
    ranged most f.places ws.0 >>= λ ns. in_range e >>= λ e. Ok (ns, e)

-- a line of a form
abbrev pub read_form : ℕ → Form → List ℕ → Judged (List ℕ × Last)
read_form most f bytes = read_word f.word bytes >>= λ rest. read_behind most f rest

-- ## Lines

-- the first line
abbrev pub read_first : Kind → List ℕ → Judged Line
read_first kind bytes = read_form 0 kind.first bytes >>= λ r. Ok (begins r.0 r.1)

-- a line behind it, whose form has this number
abbrev pub read_row : ℕ → ℕ → Form → List ℕ → Judged Line
read_row most i f bytes = read_form most f bytes >>= λ r. Ok (does (record { form = i; numbers = r.0; last = r.1 }))

-- the last line
abbrev pub read_finish : List ℕ → Judged Line
read_finish bytes = read_word (codes "end") bytes >>= λ rest. read_end rest >>= λ u. Ok finish

-- a line by what its first word stands for
abbrev pub judge_word : Kind → Seen → Which → List ℕ → Judged Line
judge_word kind seen unknown bytes = Err NoCommand
judge_word kind seen the_first bytes = if seen.begun then Err Misplaced else read_first kind bytes
judge_word kind seen the_end bytes = if seen.begun then read_finish bytes else Err Misplaced
judge_word kind seen (other i f) bytes = if seen.begun then read_row seen.most i f bytes else Err Misplaced

-- what a line says, or its first cause
abbrev pub judge : Kind → Seen → List ℕ → Judged Line
judge kind seen bytes =
    if not (list_all is_printable bytes) then Err BadByte
    else (if nat_lt 4096 (length bytes) then Err LongLine
    else (if is_idle bytes then Ok idle
    else (if seen.ended then Err AfterEnd
    else judge_word kind seen (which kind (first_word bytes)) bytes)))
