-- What commands are answered, and which lists of them can be.
use Rattle.std.specs.Prelude.{◌≡◌, ◌≢◌, ◌⊎◌, ℕ, zero, suc, ◌-◌, ◌==◌, ◌&&◌, Bool, true, false, List, [], ◌∷◌, ◌++◌, map, Option, None, Some}
use Rattle.std.specs.Prelude.{if◌then◌else◌, slice_get}
use Rattle.capability.specs.declared.Uid.{Uid}
use Rattle.eden_value.specs.Datum.{Datum}
use Rattle.passive_store.specs.declared.store.StoreRefusal.{StoreRefusal}
use Rattle.passive_store.specs.declared.store.StoreRefusal.TheVariants.{Failed, Stopped}
use Rattle.move_laws.specs.Wander.{Letter, Take, Known}
use Rattle.move_laws.specs.World.{Node, World, Post, Call, Make, Wake, Save, Lend, Again, TakeIt, CloseIt, Ended, Refused, Answered}
use Rattle.move_laws.specs.World.{OutOfMemory, Pick, SettlesAs, settled_by, fallen, at_node, behind, Carried}
use Rattle.eden_move.specs.Records.{is_long}
use Rattle.eden_move.specs.Calls.{own_uid}
use Rattle.move_world.specs.Commands.{Command, makes, wakes, saves, moves, repeats, carries, crashes, restarts, fails, stops, IsInReach}

-- 1. Letters by their numbers

-- the node to which a letter goes
abbrev pub receiver : {V : Type 0} → Letter V → ℕ
receiver (Take to g v) = to
receiver (Known to g) = to

-- whether a letter goes from node a to node b
abbrev pub goes_between : {V : Type 0} → (a b : ℕ) → Post V → Bool
goes_between a b p = p.from == a && receiver p.letter == b

-- the letters from node a to node b, in the order in which they were sent; the newest of all comes first in the list
abbrev pub letters_between : {V : Type 0} → (a b : ℕ) → List (Post V) → List (Post V)
letters_between a b [] = []
letters_between a b (p ∷ ps) = if goes_between a b p then letters_between a b ps ++ p ∷ [] else letters_between a b ps

-- the letter with a number, from 1, of those from a to b
abbrev pub letter_at : {V : Type 0} → (a b i : ℕ) → List (Post V) → Option (Post V)
letter_at a b i ps = slice_get (letters_between a b ps) (i - 1)

-- what a letter asks of the node to which it comes
abbrev pub call_by : {V : Type 0} → ℕ → Letter V → Call V
call_by from (Take to g v) = TakeIt from g v
call_by from (Known to g) = CloseIt from g

-- 2. Answers

-- what a command is answered
pub data Answer : Type 0 where
  -- the call of the node ended so
  Ends : Ended Datum → Answer
  -- a waking gave this value
  Shows : Datum → Answer
  -- this letter came about this Eject, and the call to which it led ended so
  Comes : Uid → Letter Datum → Ended Datum → Answer
  -- there is no letter with that number
  NoLetter : Answer
  -- the node is not in the state that the command needs
  WrongState : Answer
  -- the node is up
  Up : Answer
  -- its disk was not opened
  Down : StoreRefusal → Answer
  -- the node crashed, or its disk was asked for a failure or a stop
  Done : Answer

-- a command with its answer
pub record Entry : Type 0 where
  pub command : Command
  pub answer : Answer

-- 3. What each command does to the world

-- Node n was called so about an Eject, and the call ended so: the node did what its rule says over its records.
pub record Calls (n : ℕ) (u : Uid) (c : Call Datum) (how : Ended Datum) (w x : World Datum) : Type 0 where
  pub node : Node Datum
  pub carried : Carried is_long u c (w.node n) how node
  pub world : x ≡ behind n u c how node w
  -- want of memory ends the script
  pub memory : how ≢ Refused OutOfMemory

-- a node in another state than the command needs does nothing
pub record IsMisplaced (n : ℕ) (needs : Bool) (a : Answer) (w x : World Datum) : Type 0 where
  pub state : (w.node n).up ≢ needs
  pub answer : a ≡ WrongState
  pub same : x ≡ w

-- a node in the state that the command needs does this, and any other nothing
abbrev pub AtNode : ℕ → Bool → Answer → World Datum → World Datum → Type 0 → Type 0
AtNode n needs a w x P = IsMisplaced n needs a w x ⊎ (((w.node n).up ≡ needs) × P)

-- the call is answered by how it ended
abbrev pub IsCalled : ℕ → Uid → Call Datum → Answer → World Datum → World Datum → Type 0
IsCalled n u c a w x = AtNode n true a w x ((how : Ended Datum) × (a ≡ Ends how) × Calls n u c how w x)

-- a waking that was not refused gives the value that is in memory from then on
abbrev pub IsWakingOf : Option (ℕ × Datum) → Ended Datum → Answer → Type 0
IsWakingOf memory (Refused r) a = a ≡ Ends (Refused r)
IsWakingOf memory (Answered put post) a = (g : ℕ) × (v : Datum) × (memory ≡ Some (g, v)) × (a ≡ Shows v)

-- the letter comes, if there is one
abbrev pub IsCarried : ℕ → Option (Post Datum) → Answer → World Datum → World Datum → Type 0
IsCarried b None a w x = (a ≡ NoLetter) × (x ≡ w)
IsCarried b (Some p) a w x =
    (how : Ended Datum) × (a ≡ Comes p.uid p.letter how) × Calls b p.uid (call_by p.from p.letter) how w x

-- a node that went up: its doubt was settled, and nothing is in its memory
abbrev pub risen : {V : Type 0} → Option Pick → Node V → Node V
risen pick n = record (fallen (settled_by pick n)) { up = true }

-- a node is opened, or a device call of that was refused, and nothing is settled
abbrev pub IsOpened : ℕ → Answer → World Datum → World Datum → Type 0
IsOpened n a w x =
    ((a ≡ Up) × (pick : Option Pick) × SettlesAs pick (w.node n) × (x ≡ at_node n (risen pick (w.node n)) w))
    ⊎ (((a ≡ Down Failed) ⊎ (a ≡ Down Stopped)) × (x ≡ w))

-- The command led from world w to world x, and was answered so.
abbrev pub Leads : Command → Answer → World Datum → World Datum → Type 0
Leads (makes n s v) a w x = IsCalled n (own_uid n s) (Make v) a w x
Leads (wakes n u) a w x =
    AtNode n true a w x ((how : Ended Datum) × Calls n u Wake how w x × IsWakingOf ((x.node n).memory u) how a)
Leads (saves n u v) a w x = IsCalled n u (Save v) a w x
Leads (moves n u to) a w x = IsCalled n u (Lend to) a w x
Leads (repeats n u) a w x = IsCalled n u Again a w x
Leads (carries b to i) a w x = AtNode to true a w x (IsCarried to (letter_at b to i w.posted) a w x)
Leads (crashes n how) a w x = AtNode n true a w x ((a ≡ Done) × (x ≡ at_node n (fallen (w.node n)) w))
Leads (restarts n) a w x = AtNode n false a w x (IsOpened n a w x)
Leads (fails n after) a w x = AtNode n true a w x ((a ≡ Done) × (x ≡ w))
Leads (stops n after how) a w x = AtNode n true a w x ((a ≡ Done) × (x ≡ w))

-- 4. Logs

-- the worlds behind some commands, each of which led from the one before
abbrev pub Follows : World Datum → List Entry → List (World Datum) → Type 0
Follows w [] [] = Unit {0}
Follows w [] (x ∷ xs) = ⊥
Follows w (e ∷ es) [] = ⊥
Follows w (e ∷ es) (x ∷ xs) = Leads e.command e.answer w x × Follows x es xs

-- the numbers and values of all commands are within their limits
abbrev pub AllInReach : List Entry → Type 0
AllInReach [] = Unit {0}
AllInReach (e ∷ es) = IsInReach e.command × AllInReach es

-- the commands that open so many nodes, from this one on
abbrev pub openings_from : (n count : ℕ) → List Command
openings_from n zero = []
openings_from n (suc count) = restarts n ∷ openings_from (suc n) count

-- how many nodes there are, their openings, in order, and the commands behind them, each with its answer
pub record Log : Type 0 where
  pub nodes : ℕ
  pub openings : List Entry
  pub entries : List Entry

abbrev pub all_entries : Log → List Entry
all_entries l = l.openings ++ l.entries

-- a node that is down, over a blank disk
abbrev pub blank_node : Node Datum
blank_node = record { up = false; kept = λ u. None; doubt = None; active = λ u. false; memory = λ u. None }

-- the world in which each node is so, and nothing was sent
abbrev pub blank_world : World Datum
blank_world = record { node = λ n. blank_node; posted = []; last = λ u. None; cut = λ u. [] }

-- The nodes were opened in order. Each command of the log, the openings first, was answered by its rule, over what the nodes had then;
-- these are the worlds behind them.
pub record IsLegalMove (l : Log) : Type 0 where
  pub worlds : List (World Datum)
  pub opened : map (λ e. e.command) l.openings ≡ openings_from 1 l.nodes
  pub follows : Follows blank_world (all_entries l) worlds
  pub reach : AllInReach (all_entries l)
