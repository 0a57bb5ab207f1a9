-- Reading a line from left to right.
use Rattle.std.specs.Prelude.{ℕ, true, ◌==◌, not, nat_lt, List, length}
use Rattle.std.specs.Prelude.{codes, Option, Some, None, Ok, Err, if◌then◌else◌}
use Rattle.std.specs.List.{list_all, list_any}
use Rattle.std.specs.Str.{bytes_eq}
use Rattle.script_words.specs.Form.{is_printable, number_of, is_among}
use Rattle.script_words.specs.Tree.{row_of}
use Rattle.eden_script.specs.Tree.{WrittenCommand, create, hold, call}
use Rattle.eden_script.specs.Tree.{restrict, walk, turn, go, crash, restart, cut, join, fail, stop, finish, Line, idle, nodes, does}
use Rattle.eden_script.specs.Causes.{Seen, uses, types, brings, command_words}
use Rattle.script_words.specs.Causes.{first_word}
use Rattle.eden_script.specs.Declarations.{type_names}
use Rattle.script_words.specs.declared.cause.ScriptCause.TheVariants.{BadByte, LongLine, AfterEnd, NoCommand, Misplaced, BadForm}
use Rattle.script_words.specs.declared.cause.ScriptCause.TheVariants.{UnknownName, UnknownType, DoubledName}
use Rattle.script_words.specs.Reading.{◌>>=◌, Judged, behind, in_range, is_idle, read_crash_mode, read_digits, read_digits_and, read_end, read_last_digits, read_lower_and_blank, read_mode, read_quoted, read_ref, read_two_digits, read_upper, read_value, read_values, read_word, reference, within}

-- ## Commands, behind their words

-- behind `create `
abbrev pub read_create : ℕ → List ℕ → Judged WrittenCommand
read_create most bytes =
    read_lower_and_blank bytes >>= λ n. read_digits_and (codes " ") n.1 >>= λ d. read_upper d.1 >>= λ t. read_end t.1 >>= λ _.
    within 1 most d.0 >>= λ node. Ok (create n.0 node t.0)

-- behind `hold `
abbrev pub read_hold : ℕ → List ℕ → Judged WrittenCommand
read_hold most bytes =
    read_lower_and_blank bytes >>= λ n. read_digits_and (codes ".") n.1 >>= λ d. read_digits_and (codes ".") d.1 >>= λ e.
    read_last_digits e.1 >>= λ s.
    within 1 most d.0 >>= λ node. within 1 4294967295 e.0 >>= λ epoch. within 1 4294967295 s >>= λ serial. Ok (hold n.0 node epoch serial)

-- behind `call `
abbrev pub read_call : List ℕ → Judged WrittenCommand
read_call bytes =
    read_lower_and_blank bytes >>= λ n. read_ref n.1 >>= λ r. read_word (codes ".") r.1 >>= λ rest. read_upper rest >>= λ op.
    read_word (codes "(") op.1 >>= λ rest.
    read_values (read_value true 4) (codes ")") 4096 rest >>= λ vs. read_end vs.1 >>= λ _.
    reference r.0 >>= λ target. in_range vs.0 >>= λ args. Ok (call n.0 target op.0 (row_of args))

-- behind `restrict `
abbrev pub read_restrict : List ℕ → Judged WrittenCommand
read_restrict bytes =
    read_lower_and_blank bytes >>= λ n. read_ref n.1 >>= λ r. read_word (codes " ") r.1 >>= λ rest. read_last_digits rest >>= λ d.
    reference r.0 >>= λ target. within 0 65535 d >>= λ mask. Ok (restrict n.0 target mask)

-- behind `walk `
abbrev pub read_walk : List ℕ → Judged WrittenCommand
read_walk bytes =
    read_lower_and_blank bytes >>= λ n. read_ref n.1 >>= λ r. read_word (codes " ") r.1 >>= λ rest. read_quoted rest >>= λ path.
    read_end path.1 >>= λ _.
    reference r.0 >>= λ target. Ok (walk n.0 target path.0)

-- behind `turn `
abbrev pub read_turn : List ℕ → Judged WrittenCommand
read_turn bytes = read_last_digits bytes >>= λ d. within 0 1000000 d >>= λ i. Ok (turn i)

-- behind `go `
abbrev pub read_go : List ℕ → Judged WrittenCommand
read_go bytes = read_last_digits bytes >>= λ d. within 1 1000000 d >>= λ n. Ok (go n)

-- behind `crash `
abbrev pub read_crash : ℕ → List ℕ → Judged WrittenCommand
read_crash most bytes =
    read_digits bytes >>= λ d. read_crash_mode d.1 >>= λ how. within 1 most d.0 >>= λ node. in_range how >>= λ how. Ok (crash node how)

-- behind `restart `
abbrev pub read_restart : ℕ → List ℕ → Judged WrittenCommand
read_restart most bytes = read_last_digits bytes >>= λ d. within 1 most d >>= λ node. Ok (restart node)

-- the digits of two stations, which have to differ
abbrev pub two_stations : List ℕ × List ℕ → Judged (List ℕ × List ℕ)
two_stations words = if number_of words.0 == number_of words.1 then Err BadForm else Ok words

-- the two stations of a link, which differ
abbrev pub read_stations : ℕ → List ℕ → Judged (ℕ × ℕ)
read_stations most bytes =
    read_two_digits bytes >>= λ words. two_stations words >>= λ words.
    within 0 most words.0 >>= λ a. within 0 most words.1 >>= λ b. Ok (a, b)

-- behind `cut `
abbrev pub read_cut : ℕ → List ℕ → Judged WrittenCommand
read_cut most bytes = read_stations most bytes >>= λ s. Ok (cut s.0 s.1)

-- behind `join `
abbrev pub read_join : ℕ → List ℕ → Judged WrittenCommand
read_join most bytes = read_stations most bytes >>= λ s. Ok (join s.0 s.1)

-- behind `fail `
abbrev pub read_fail : ℕ → List ℕ → Judged WrittenCommand
read_fail most bytes =
    read_two_digits bytes >>= λ words. within 1 most words.0 >>= λ node. within 1 1000000 words.1 >>= λ k. Ok (fail node k)

-- behind `stop `
abbrev pub read_stop : ℕ → List ℕ → Judged WrittenCommand
read_stop most bytes =
    read_digits_and (codes " ") bytes >>= λ d. read_digits d.1 >>= λ k. read_mode k.1 >>= λ how.
    within 1 most d.0 >>= λ node. within 1 1000000 k.0 >>= λ after. in_range how >>= λ how. Ok (stop node after how)

-- what is read behind a word, if it was found, or else the other reading
abbrev pub when : Option (List ℕ) → (List ℕ → Judged WrittenCommand) → Judged WrittenCommand → Judged WrittenCommand
when None read else_ = else_
when (Some rest) read else_ = read rest

-- a command on links or disks, or the last one
abbrev pub read_link_or_fault : ℕ → List ℕ → Judged WrittenCommand
read_link_or_fault most bytes =
    when (behind (codes "cut ") bytes) (read_cut most) (
    when (behind (codes "join ") bytes) (read_join most) (
    when (behind (codes "fail ") bytes) (read_fail most) (
    when (behind (codes "stop ") bytes) (read_stop most) (
    if bytes_eq bytes (codes "end") then Ok finish else Err BadForm))))

-- a command on turns or nodes, or one of those
abbrev pub read_run : ℕ → List ℕ → Judged WrittenCommand
read_run most bytes =
    when (behind (codes "turn ") bytes) read_turn (
    when (behind (codes "go ") bytes) read_go (
    when (behind (codes "crash ") bytes) (read_crash most) (
    when (behind (codes "restart ") bytes) (read_restart most) (
    read_link_or_fault most bytes))))

-- a command behind `nodes`
abbrev pub read_command : ℕ → List ℕ → Judged WrittenCommand
read_command most bytes =
    when (behind (codes "create ") bytes) (read_create most) (
    when (behind (codes "hold ") bytes) (read_hold most) (
    when (behind (codes "call ") bytes) read_call (
    when (behind (codes "restrict ") bytes) read_restrict (
    when (behind (codes "walk ") bytes) read_walk (
    read_run most bytes)))))

-- the command `nodes`
abbrev pub read_nodes : List ℕ → Judged Line
read_nodes bytes = read_word (codes "nodes ") bytes >>= λ rest. read_last_digits rest >>= λ d. within 1 8 d >>= λ n. Ok (nodes n)

-- ## Lines

-- a command that was read, or the first cause by its names
abbrev pub named_in : Seen → Line → Judged Line
named_in seen l =
    if not (list_all (is_among seen.names) (uses l)) then Err UnknownName
    else (if not (list_all (is_among (type_names seen.types)) (types l)) then Err UnknownType
    else (if list_any (is_among seen.names) (brings l) then Err DoubledName
    else Ok l))

-- a command whose names are known and new as they have to be
abbrev pub judge_command : Seen → List ℕ → Judged Line
judge_command seen bytes = read_command seen.nodes bytes >>= λ o. named_in seen (does o)

-- a line by its first word
abbrev pub judge_word : Seen → List ℕ → List ℕ → Judged Line
judge_word seen word bytes =
    if bytes_eq word (codes "nodes") then (if seen.nodes == 0 then read_nodes bytes else Err Misplaced)
    else (if is_among command_words word then (if seen.nodes == 0 then Err Misplaced else judge_command seen bytes)
    else Err NoCommand)

-- what a line says, or its first cause
abbrev pub judge : Seen → List ℕ → Judged Line
judge seen bytes =
    if not (list_all is_printable bytes) then Err BadByte
    else (if nat_lt 4096 (length bytes) then Err LongLine
    else (if is_idle bytes then Ok idle
    else (if seen.ended then Err AfterEnd
    else judge_word seen (first_word bytes) bytes)))
