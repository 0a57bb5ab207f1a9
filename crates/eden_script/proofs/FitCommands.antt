-- Each command of a script is fit for itself.
use Rattle.std.proofs.Common.{◌≡◌, ap, refl, ℕ, ◌≤◌, true, false, Bool, List, [], ◌∷◌, length, arith}
use Rattle.std.specs.Prelude.{nat_le, ◌&&◌}
use Rattle.std.specs.Char.{is_ascii_lowercase, is_ascii_uppercase}
use Rattle.std.specs.List.{All, Contains, list_all}
use Rattle.std.proofs.lemmas.Bool.{and_parts, leb-true}
use Rattle.std.proofs.lemmas.List.Elements.{All-nil, All-cons}
use Rattle.eden_disk.specs.declared.disk.ImageMode.{ImageMode}
use Rattle.eden_disk.specs.declared.disk.ImageMode.TheVariants as image
use Rattle.journal.specs.Argument.{arguments_of}
use Rattle.journal.specs.Laws.{WritesNone}
use Rattle.journal.specs.declared.command.Command.{Command}
use Rattle.journal.specs.declared.command.Command.TheVariants as command
use Rattle.journal.specs.Fit.{IsWord, ModeFits, introduced, referred, operation_named, type_named, NumbersFit, StationsDiffer, PathFits}
use Rattle.journal.specs.Fit.{ArgumentsFit, IsFitCommand}
use Rattle.script_words.specs.Form.{is_name_byte, starts_with, is_named}
use Rattle.eden_script.specs.Tree.{does}
use Rattle.eden_script.specs.Grammar as grammar
use Rattle.eden_script.specs.Grammar.{Holds}
use Rattle.script_words.specs.Grammar.{Lower, Upper}
use Rattle.eden_script.specs.Causes.{Fits, uses, brings, types}
use Rattle.script_words.specs.Causes.{HowFits}
use Rattle.eden_script.specs.Meaning.{written_command}
use Rattle.script_words.specs.Meaning.{written_mode}
use Rattle.eden_script.proofs.FitArguments.{result_fits, arguments_fit, names_of_arguments, bare_arguments}

-- ## Words

no_start : false ≡ true → ⊥
no_start e = cc

some_bytes : (first : ℕ → Bool) (word : List ℕ) → starts_with first word ≡ true → 1 ≤ length word
some_bytes first [] h = absurd (no_start h)
some_bytes first (b ∷ word) h = omega arith

is_word : (first : ℕ → Bool) (word : List ℕ) → is_named first word ≡ true → IsWord word
is_word first word h =
    let start = and_parts (starts_with first word) (list_all is_name_byte word && nat_le (length word) 32) h in
    let rest = and_parts (list_all is_name_byte word) (nat_le (length word) 32) start.1 in
    record { bytes = rest.0; length_ = (some_bytes first word start.0, leb-true (length word) 32 rest.1) }

lower_word : (name bytes : List ℕ) → Lower name bytes → All IsWord (name ∷ [])
lower_word name bytes h = All-cons IsWord name [] (is_word is_ascii_lowercase name h.1) (All-nil IsWord)

upper_word : (name bytes : List ℕ) → Upper name bytes → All IsWord (name ∷ [])
upper_word name bytes h = All-cons IsWord name [] (is_word is_ascii_uppercase name h.1) (All-nil IsWord)

-- ## What a command names, as it is written

pub same_brings : (c : Command) → brings (does (written_command c)) ≡ introduced c
same_brings (command.Create name n t) = refl
same_brings (command.Hold name uid) = refl
same_brings (command.Call name r op args) = refl
same_brings (command.Restrict name r mask) = refl
same_brings (command.Walk name r path) = refl
same_brings (command.Turn i) = refl
same_brings (command.Go n) = refl
same_brings (command.Crash n how) = refl
same_brings (command.Restart n) = refl
same_brings (command.Cut a b) = refl
same_brings (command.Join a b) = refl
same_brings (command.Fail n k) = refl
same_brings (command.Stop n k how) = refl
same_brings command.End = refl

pub same_uses : (c : Command) → uses (does (written_command c)) ≡ referred c
same_uses (command.Create name n t) = refl
same_uses (command.Hold name uid) = refl
same_uses (command.Call name r op args) = ap (λ (l : List (List ℕ)). r.name ∷ l) (names_of_arguments args)
same_uses (command.Restrict name r mask) = refl
same_uses (command.Walk name r path) = refl
same_uses (command.Turn i) = refl
same_uses (command.Go n) = refl
same_uses (command.Crash n how) = refl
same_uses (command.Restart n) = refl
same_uses (command.Cut a b) = refl
same_uses (command.Join a b) = refl
same_uses (command.Fail n k) = refl
same_uses (command.Stop n k how) = refl
same_uses command.End = refl

pub same_types : (c : Command) → types (does (written_command c)) ≡ type_named c
same_types (command.Create name n t) = refl
same_types (command.Hold name uid) = refl
same_types (command.Call name r op args) = refl
same_types (command.Restrict name r mask) = refl
same_types (command.Walk name r path) = refl
same_types (command.Turn i) = refl
same_types (command.Go n) = refl
same_types (command.Crash n how) = refl
same_types (command.Restart n) = refl
same_types (command.Cut a b) = refl
same_types (command.Join a b) = refl
same_types (command.Fail n k) = refl
same_types (command.Stop n k how) = refl
same_types command.End = refl

-- ## The parts of a fit command

mode_fits : (how : ImageMode) → HowFits (written_mode how) → ModeFits how
mode_fits image.Keep f = tt
mode_fits image.Lose f = tt
mode_fits (image.Garble b) f = f.1

numbers_fit : (nodes : ℕ) (c : Command) → Fits nodes (written_command c) → NumbersFit nodes c
numbers_fit nodes (command.Create name n t) f = f
numbers_fit nodes (command.Hold name uid) f = f
numbers_fit nodes (command.Call name r op args) f = result_fits r.result f.0
numbers_fit nodes (command.Restrict name r mask) f = (result_fits r.result f.0, f.1.1)
numbers_fit nodes (command.Walk name r path) f = result_fits r.result f
numbers_fit nodes (command.Turn i) f = f.1
numbers_fit nodes (command.Go n) f = f
numbers_fit nodes (command.Crash n how) f = (f.0, mode_fits how f.1)
numbers_fit nodes (command.Restart n) f = f
numbers_fit nodes (command.Cut a b) f = (f.0.1, f.1.1)
numbers_fit nodes (command.Join a b) f = (f.0.1, f.1.1)
numbers_fit nodes (command.Fail n k) f = f
numbers_fit nodes (command.Stop n k how) f = (f.0, f.1, mode_fits how f.2)
numbers_fit nodes command.End f = tt

stations_differ : (c : Command) → Holds (written_command c) → StationsDiffer c
stations_differ (command.Create name n t) h = tt
stations_differ (command.Hold name uid) h = tt
stations_differ (command.Call name r op args) h = tt
stations_differ (command.Restrict name r mask) h = tt
stations_differ (command.Walk name r path) h = tt
stations_differ (command.Turn i) h = tt
stations_differ (command.Go n) h = tt
stations_differ (command.Crash n how) h = tt
stations_differ (command.Restart n) h = tt
stations_differ (command.Cut a b) h = h
stations_differ (command.Join a b) h = h
stations_differ (command.Fail n k) h = tt
stations_differ (command.Stop n k how) h = tt
stations_differ command.End h = tt

name_fits : (c : Command) (bytes : List ℕ) → grammar.Command (written_command c) bytes → All IsWord (introduced c)
name_fits (command.Create name n t) bytes h = lower_word name h.3.0 h.3.2
name_fits (command.Hold name uid) bytes h = lower_word name h.3.0 h.3.2
name_fits (command.Call name r op args) bytes h = lower_word name h.3.0 h.3.2
name_fits (command.Restrict name r mask) bytes h = lower_word name h.3.0 h.3.2
name_fits (command.Walk name r path) bytes h = lower_word name h.3.0 h.3.2
name_fits (command.Turn i) bytes h = All-nil IsWord
name_fits (command.Go n) bytes h = All-nil IsWord
name_fits (command.Crash n how) bytes h = All-nil IsWord
name_fits (command.Restart n) bytes h = All-nil IsWord
name_fits (command.Cut a b) bytes h = All-nil IsWord
name_fits (command.Join a b) bytes h = All-nil IsWord
name_fits (command.Fail n k) bytes h = All-nil IsWord
name_fits (command.Stop n k how) bytes h = All-nil IsWord
name_fits command.End bytes h = All-nil IsWord

operation_fits : (c : Command) (bytes : List ℕ) → grammar.Command (written_command c) bytes → All IsWord (operation_named c)
operation_fits (command.Create name n t) bytes h = All-nil IsWord
operation_fits (command.Hold name uid) bytes h = All-nil IsWord
operation_fits (command.Call name r op args) bytes h = upper_word op h.3.3.3.3.3.0 h.3.3.3.3.3.2
operation_fits (command.Restrict name r mask) bytes h = All-nil IsWord
operation_fits (command.Walk name r path) bytes h = All-nil IsWord
operation_fits (command.Turn i) bytes h = All-nil IsWord
operation_fits (command.Go n) bytes h = All-nil IsWord
operation_fits (command.Crash n how) bytes h = All-nil IsWord
operation_fits (command.Restart n) bytes h = All-nil IsWord
operation_fits (command.Cut a b) bytes h = All-nil IsWord
operation_fits (command.Join a b) bytes h = All-nil IsWord
operation_fits (command.Fail n k) bytes h = All-nil IsWord
operation_fits (command.Stop n k how) bytes h = All-nil IsWord
operation_fits command.End bytes h = All-nil IsWord

path_fits : (c : Command) (bytes : List ℕ) → grammar.Command (written_command c) bytes → PathFits c
path_fits (command.Create name n t) bytes h = tt
path_fits (command.Hold name uid) bytes h = tt
path_fits (command.Call name r op args) bytes h = tt
path_fits (command.Restrict name r mask) bytes h = tt
path_fits (command.Walk name r path) bytes h = h.3.3.3.3.3.1
path_fits (command.Turn i) bytes h = tt
path_fits (command.Go n) bytes h = tt
path_fits (command.Crash n how) bytes h = tt
path_fits (command.Restart n) bytes h = tt
path_fits (command.Cut a b) bytes h = tt
path_fits (command.Join a b) bytes h = tt
path_fits (command.Fail n k) bytes h = tt
path_fits (command.Stop n k how) bytes h = tt
path_fits command.End bytes h = tt

call_fits : (c : Command) (nodes : ℕ) (bytes : List ℕ) → grammar.Command (written_command c) bytes → Holds (written_command c)
    → Fits nodes (written_command c)
    → ArgumentsFit c
call_fits (command.Create name n t) nodes bytes h shallow f = tt
call_fits (command.Hold name uid) nodes bytes h shallow f = tt
call_fits (command.Call name r op args) nodes bytes h shallow f = arguments_fit args h.3.3.3.3.3.3.3.0 h.3.3.3.3.3.3.3.2 f.1 shallow
call_fits (command.Restrict name r mask) nodes bytes h shallow f = tt
call_fits (command.Walk name r path) nodes bytes h shallow f = tt
call_fits (command.Turn i) nodes bytes h shallow f = tt
call_fits (command.Go n) nodes bytes h shallow f = tt
call_fits (command.Crash n how) nodes bytes h shallow f = tt
call_fits (command.Restart n) nodes bytes h shallow f = tt
call_fits (command.Cut a b) nodes bytes h shallow f = tt
call_fits (command.Join a b) nodes bytes h shallow f = tt
call_fits (command.Fail n k) nodes bytes h shallow f = tt
call_fits (command.Stop n k how) nodes bytes h shallow f = tt
call_fits command.End nodes bytes h shallow f = tt

-- a command that is spelled, whose numbers fit and whose type is known
pub command_fits : (known : List (List ℕ)) (nodes : ℕ) (c : Command) (bytes : List ℕ) → grammar.Command (written_command c) bytes
    → Holds (written_command c) → Fits nodes (written_command c) → All (Contains known) (type_named c) → IsFitCommand known nodes c
command_fits known nodes c bytes h shallow f typed = record {
  numbers = numbers_fit nodes c f;
  stations = stations_differ c shallow;
  name = name_fits c bytes h;
  operation = operation_fits c bytes h;
  path = path_fits c bytes h;
  arguments = call_fits c nodes bytes h shallow f;
  type_is_known = typed;
}

-- a fit command writes out no capability
pub writes_none : (known : List (List ℕ)) (nodes : ℕ) (c : Command) → IsFitCommand known nodes c → WritesNone c
writes_none known nodes c h = by_arguments c h.arguments
  where
    by_arguments : (c : Command) → ArgumentsFit c → WritesNone c
    by_arguments (command.Create name n t) a = tt
    by_arguments (command.Hold name uid) a = tt
    by_arguments (command.Call name r op args) a = bare_arguments 4 (arguments_of args) a
    by_arguments (command.Restrict name r mask) a = tt
    by_arguments (command.Walk name r path) a = tt
    by_arguments (command.Turn i) a = tt
    by_arguments (command.Go n) a = tt
    by_arguments (command.Crash n how) a = tt
    by_arguments (command.Restart n) a = tt
    by_arguments (command.Cut a b) h = tt
    by_arguments (command.Join a b) h = tt
    by_arguments (command.Fail n k) a = tt
    by_arguments (command.Stop n k how) a = tt
    by_arguments command.End a = tt
