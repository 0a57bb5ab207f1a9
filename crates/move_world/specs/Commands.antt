-- Scripts of Ejects that wander.
use Rattle.std.specs.Prelude.{◌≢◌, ℕ, ◌≤◌, ◌==◌, List, [], ◌∷◌, Option, Some, None, codes, if◌then◌else◌}
use Rattle.capability.specs.declared.Uid.{Uid}
use Rattle.eden_value.specs.Datum.{Datum}
use Rattle.eden_value.specs.Limits.{IsValue}
use Rattle.script_words.specs.Tree.{WrittenMode}
use Rattle.line_forms.specs.Forms.{Kind, Last, nothing, datum, mode, Row}
use Rattle.line_forms.specs.declared.form.Place.{Place}
use Rattle.line_forms.specs.declared.form.Mark.TheVariants.{Blank, Point}
use Rattle.line_forms.specs.declared.form.Bound.TheVariants.{UpTo, Node, Station}
use Rattle.line_forms.specs.declared.form.Ending.TheVariants.{Nothing, Value, Mode, MaybeMode}
use Rattle.eden_move.specs.Shown.{IsWanderer}

-- 1. Commands

-- what a line asks for; the number that comes first is that of a node
pub data Command : Type 0 where
  makes : (n serial : ℕ) → Datum → Command
  wakes : (n : ℕ) → Uid → Command
  saves : (n : ℕ) → Uid → Datum → Command
  moves : (n : ℕ) → Uid → (to : ℕ) → Command
  repeats : (n : ℕ) → Uid → Command
  -- the letter with a number, from 1, of those from a node to another, comes
  carries : (a b i : ℕ) → Command
  crashes : (n : ℕ) → WrittenMode → Command
  restarts : (n : ℕ) → Command
  fails : (n after : ℕ) → Command
  stops : (n after : ℕ) → WrittenMode → Command

-- the number of a node of the script
abbrev pub IsNode : ℕ → Type 0
IsNode n = (1 ≤ n) × (n ≤ 8)

-- nodes are from 1 to 8, Ejects can wander, values are within their limits, and a node lends and sends to another one
abbrev pub IsInReach : Command → Type 0
IsInReach (makes n serial v) = IsNode n × (1 ≤ serial) × IsValue 4 v
IsInReach (wakes n u) = IsNode n × IsWanderer u
IsInReach (saves n u v) = IsNode n × IsWanderer u × IsValue 4 v
IsInReach (moves n u to) = IsNode n × IsWanderer u × IsNode to × (to ≢ n)
IsInReach (repeats n u) = IsNode n × IsWanderer u
IsInReach (carries a b i) = IsNode a × IsNode b × (1 ≤ i)
IsInReach (crashes n how) = IsNode n
IsInReach (restarts n) = IsNode n
IsInReach (fails n after) = IsNode n × (1 ≤ after)
IsInReach (stops n after how) = IsNode n × (1 ≤ after)

-- 2. Forms of lines

-- a place for the number of a node
abbrev pub a_node : Place
a_node = record { mark = Blank; low = 1; high = Node }

-- a place for the number of a node that is not the other one of its line
abbrev pub station : Place
station = record { mark = Blank; low = 1; high = Station }

-- a place for a number from 1 to 4,294,967,295
abbrev pub a_number : Place
a_number = record { mark = Blank; low = 1; high = UpTo 4294967295 }

-- places for epoch and serial of a uid, behind its node; the epoch is 1
abbrev pub epoch_one : Place
epoch_one = record { mark = Point; low = 1; high = UpTo 1 }

abbrev pub a_serial : Place
a_serial = record { mark = Point; low = 1; high = UpTo 4294967295 }

-- a place for the number of device calls until one is refused
abbrev pub a_delay : Place
a_delay = record { mark = Blank; low = 1; high = UpTo 1000000 }

-- The forms of lines: `nodes N`, then `make N S VALUE`, `wake N U`, `save N U VALUE`, `move N U B`, `again N U`, `carry A B I`,
-- `crash N [MODE]`, `restart N`, `fail N K` and `stop N K MODE`. A uid U is node, epoch and serial with points between them.
abbrev pub move_kind : Kind
move_kind = record {
  first = record { word = codes "nodes"; places = record { mark = Blank; low = 1; high = UpTo 8 } ∷ []; ending = Nothing };
  others =
      record { word = codes "make"; places = a_node ∷ a_number ∷ []; ending = Value }
      ∷ record { word = codes "wake"; places = a_node ∷ a_node ∷ epoch_one ∷ a_serial ∷ []; ending = Nothing }
      ∷ record { word = codes "save"; places = a_node ∷ a_node ∷ epoch_one ∷ a_serial ∷ []; ending = Value }
      ∷ record { word = codes "move"; places = station ∷ a_node ∷ epoch_one ∷ a_serial ∷ station ∷ []; ending = Nothing }
      ∷ record { word = codes "again"; places = a_node ∷ a_node ∷ epoch_one ∷ a_serial ∷ []; ending = Nothing }
      ∷ record { word = codes "carry"; places = station ∷ station ∷ a_number ∷ []; ending = Nothing }
      ∷ record { word = codes "crash"; places = a_node ∷ []; ending = MaybeMode }
      ∷ record { word = codes "restart"; places = a_node ∷ []; ending = Nothing }
      ∷ record { word = codes "fail"; places = a_node ∷ a_delay ∷ []; ending = Nothing }
      ∷ record { word = codes "stop"; places = a_node ∷ a_delay ∷ []; ending = Mode }
      ∷ [];
}

-- 3. The commands of rows

-- the uid with these numbers
abbrev pub uid_at : (node epoch serial : ℕ) → Uid
uid_at node epoch serial = record { node = node; epoch = epoch; serial = serial }

-- the command of a row of each form, by its numbers and its end
abbrev pub make_row : List ℕ → Last → Option Command
make_row (n ∷ s ∷ []) (datum v) = Some (makes n s v)
make_row _ l = None

abbrev pub wake_row : List ℕ → Last → Option Command
wake_row (n ∷ a ∷ e ∷ s ∷ []) nothing = Some (wakes n (uid_at a e s))
wake_row _ l = None

abbrev pub save_row : List ℕ → Last → Option Command
save_row (n ∷ a ∷ e ∷ s ∷ []) (datum v) = Some (saves n (uid_at a e s) v)
save_row _ l = None

abbrev pub move_row : List ℕ → Last → Option Command
move_row (n ∷ a ∷ e ∷ s ∷ to ∷ []) nothing = Some (moves n (uid_at a e s) to)
move_row _ l = None

abbrev pub again_row : List ℕ → Last → Option Command
again_row (n ∷ a ∷ e ∷ s ∷ []) nothing = Some (repeats n (uid_at a e s))
again_row _ l = None

abbrev pub carry_row : List ℕ → Last → Option Command
carry_row (a ∷ b ∷ i ∷ []) nothing = Some (carries a b i)
carry_row _ l = None

abbrev pub crash_row : List ℕ → Last → Option Command
crash_row (n ∷ []) (mode how) = Some (crashes n how)
crash_row _ l = None

abbrev pub restart_row : List ℕ → Last → Option Command
restart_row (n ∷ []) nothing = Some (restarts n)
restart_row _ l = None

abbrev pub fail_row : List ℕ → Last → Option Command
fail_row (n ∷ k ∷ []) nothing = Some (fails n k)
fail_row _ l = None

abbrev pub stop_row : List ℕ → Last → Option Command
stop_row (n ∷ k ∷ []) (mode how) = Some (stops n k how)
stop_row _ l = None

-- the command of a row by its form, its numbers and its end
abbrev pub command_by : ℕ → List ℕ → Last → Option Command
command_by form ns l =
    if form == 0 then make_row ns l
    else (if form == 1 then wake_row ns l
    else (if form == 2 then save_row ns l
    else (if form == 3 then move_row ns l
    else (if form == 4 then again_row ns l
    else (if form == 5 then carry_row ns l
    else (if form == 6 then crash_row ns l
    else (if form == 7 then restart_row ns l
    else (if form == 8 then fail_row ns l
    else (if form == 9 then stop_row ns l
    else None)))))))))

-- the command of a row; each row of a script has one
abbrev pub command_of : Row → Option Command
command_of r = command_by r.form r.numbers r.last
