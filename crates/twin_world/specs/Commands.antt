-- Scripts of pairs of disks.
use Rattle.std.specs.Prelude.{ℕ, ◌≤◌, ◌==◌, ◌+◌, ◌/◌, ◌%◌, Bool, List, [], ◌∷◌, length, Option, Some, None, codes, if◌then◌else◌}
use Rattle.script_words.specs.Tree.{WrittenMode}
use Rattle.line_forms.specs.Forms.{Kind, Last, nothing, words, mode, Row}
use Rattle.line_forms.specs.declared.form.Place.{Place}
use Rattle.line_forms.specs.declared.form.Mark.TheVariants.{Blank}
use Rattle.line_forms.specs.declared.form.Bound.TheVariants.{UpTo}
use Rattle.line_forms.specs.declared.form.Ending.TheVariants.{Nothing, Text, Mode}

-- 1. Commands

-- what a line asks for, of a node or of a disk
pub data Command : Type 0 where
  opens : (n : ℕ) → Command
  puts : (n serial : ℕ) → List ℕ → Command
  gets : (n serial : ℕ) → Command
  deletes : (n serial : ℕ) → Command
  closes : (n : ℕ) → Command
  blanks : (d : ℕ) → Command
  fails : (d after : ℕ) → Command
  stops : (d after : ℕ) → WrittenMode → Command

-- node N has the disks 2N - 1 and 2N
abbrev pub node_of_disk : ℕ → ℕ
node_of_disk d = (d + 1) / 2

-- whether a disk is the second one of its node
abbrev pub is_second : ℕ → Bool
is_second d = d % 2 == 0

-- the node of a command
abbrev pub node_of : Command → ℕ
node_of (opens n) = n
node_of (puts n serial text) = n
node_of (gets n serial) = n
node_of (deletes n serial) = n
node_of (closes n) = n
node_of (blanks d) = node_of_disk d
node_of (fails d after) = node_of_disk d
node_of (stops d after how) = node_of_disk d

-- the number of a node, and of a disk, of the script
abbrev pub IsNode : ℕ → Type 0
IsNode n = (1 ≤ n) × (n ≤ 4)

abbrev pub IsDisk : ℕ → Type 0
IsDisk d = (1 ≤ d) × (d ≤ 8)

-- nodes are from 1 to 4, disks from 1 to 8, and a text is no longer than texts are
abbrev pub IsInReach : Command → Type 0
IsInReach (opens n) = IsNode n
IsInReach (puts n serial text) = IsNode n × (1 ≤ serial) × (length text ≤ 1024)
IsInReach (gets n serial) = IsNode n × (1 ≤ serial)
IsInReach (deletes n serial) = IsNode n × (1 ≤ serial)
IsInReach (closes n) = IsNode n
IsInReach (blanks d) = IsDisk d
IsInReach (fails d after) = IsDisk d × (1 ≤ after)
IsInReach (stops d after how) = IsDisk d × (1 ≤ after)

-- 2. Forms of lines

-- a place for the number of a node
abbrev pub a_node : Place
a_node = record { mark = Blank; low = 1; high = UpTo 4 }

-- a place for the number of a disk
abbrev pub a_disk : Place
a_disk = record { mark = Blank; low = 1; high = UpTo 8 }

-- a place for the serial of a uid
abbrev pub a_serial : Place
a_serial = record { mark = Blank; low = 1; high = UpTo 4294967295 }

-- a place for the number of device calls until one is refused
abbrev pub a_delay : Place
a_delay = record { mark = Blank; low = 1; high = UpTo 1000000 }

-- The forms of lines: `twins`, then `open N`, `put N S TEXT`, `get N S`, `delete N S`, `close N`, `blank D`, `fail D K` and
-- `stop D K MODE`.
abbrev pub twin_kind : Kind
twin_kind = record {
  first = record { word = codes "twins"; places = []; ending = Nothing };
  others =
      record { word = codes "open"; places = a_node ∷ []; ending = Nothing }
      ∷ record { word = codes "put"; places = a_node ∷ a_serial ∷ []; ending = Text }
      ∷ record { word = codes "get"; places = a_node ∷ a_serial ∷ []; ending = Nothing }
      ∷ record { word = codes "delete"; places = a_node ∷ a_serial ∷ []; ending = Nothing }
      ∷ record { word = codes "close"; places = a_node ∷ []; ending = Nothing }
      ∷ record { word = codes "blank"; places = a_disk ∷ []; ending = Nothing }
      ∷ record { word = codes "fail"; places = a_disk ∷ a_delay ∷ []; ending = Nothing }
      ∷ record { word = codes "stop"; places = a_disk ∷ a_delay ∷ []; ending = Mode }
      ∷ [];
}

-- 3. The commands of rows

-- the command of a row of each form, by its numbers and its end
abbrev pub open_row : List ℕ → Last → Option Command
open_row (n ∷ []) nothing = Some (opens n)
open_row _ l = None

abbrev pub put_row : List ℕ → Last → Option Command
put_row (n ∷ s ∷ []) (words text) = Some (puts n s text)
put_row _ l = None

abbrev pub get_row : List ℕ → Last → Option Command
get_row (n ∷ s ∷ []) nothing = Some (gets n s)
get_row _ l = None

abbrev pub delete_row : List ℕ → Last → Option Command
delete_row (n ∷ s ∷ []) nothing = Some (deletes n s)
delete_row _ l = None

abbrev pub close_row : List ℕ → Last → Option Command
close_row (n ∷ []) nothing = Some (closes n)
close_row _ l = None

abbrev pub blank_row : List ℕ → Last → Option Command
blank_row (d ∷ []) nothing = Some (blanks d)
blank_row _ l = None

abbrev pub fail_row : List ℕ → Last → Option Command
fail_row (d ∷ k ∷ []) nothing = Some (fails d k)
fail_row _ l = None

abbrev pub stop_row : List ℕ → Last → Option Command
stop_row (d ∷ k ∷ []) (mode how) = Some (stops d k how)
stop_row _ l = None

-- the command of a row by its form, its numbers and its end
abbrev pub command_by : ℕ → List ℕ → Last → Option Command
command_by form ns l =
    if form == 0 then open_row ns l
    else (if form == 1 then put_row ns l
    else (if form == 2 then get_row ns l
    else (if form == 3 then delete_row ns l
    else (if form == 4 then close_row ns l
    else (if form == 5 then blank_row ns l
    else (if form == 6 then fail_row ns l
    else (if form == 7 then stop_row ns l
    else None)))))))

-- the command of a row; each row of a script has one
abbrev pub command_of : Row → Option Command
command_of r = command_by r.form r.numbers r.last
