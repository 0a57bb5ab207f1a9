-- What commands on pairs of disks are answered, and which lists of them can be.
use Rattle.std.specs.Prelude.{◌≡◌, ◌≢◌, ◌⊎◌, ℕ, ◌==◌, ◌&&◌, ◌||◌, not, Bool, true, false, IsTrue, is_some, List, [], ◌∷◌}
use Rattle.std.specs.Prelude.{Option, None, Some, if◌then◌else◌}
use Rattle.twin_store.specs.declared.served.TwinRefusal.{TwinRefusal}
use Rattle.twin_store.specs.declared.served.TwinRefusal.TheVariants.{Lost, OutOfMemory}
use Rattle.twin_world.specs.Commands.{Command, opens, puts, gets, deletes, closes, blanks, fails, stops, node_of, is_second, IsInReach}

-- 1. Answers

-- what a command is answered
pub data Answer : Type 0 where
  -- the node is not in the state that the command needs
  WrongState : Answer
  -- which of the disks are in use
  Opened : (first second : Bool) → Answer
  -- it was done
  Made : Answer
  -- the text under the uid, or none
  Found : Option (List ℕ) → Answer
  -- a disk in use has no room for the change: nothing is asked of it
  NoRoom : Answer
  Refused : TwinRefusal → Answer
  -- a call failed, or was stopped, as the disk was blanked
  CutShort : (stopped : Bool) → Answer

-- A command with its answer, and of which disks of its node the count of faults rose in it.
pub record Entry : Type 0 where
  pub command : Command
  pub answer : Answer
  pub first_failed : Bool
  pub second_failed : Bool

-- the commands of a script with their answers, in order
pub record Log : Type 0 where
  pub entries : List Entry

-- 2. What is held

-- the text under each serial
abbrev pub Texts : Type 0
Texts = ℕ → Option (List ℕ)

-- under each serial the same
abbrev pub SameTexts : Texts → Texts → Type 0
SameTexts m k = (serial : ℕ) → m serial ≡ k serial

-- a change by its serial, and its new text or none
pub record Change : Type 0 where
  pub serial : ℕ
  pub text : Option (List ℕ)

abbrev pub change : ℕ → Option (List ℕ) → Change
change serial text = record { serial = serial; text = text }

-- the texts behind a change, if there is one
abbrev pub texts_after : Option Change → Texts → Texts
texts_after None m = m
texts_after (Some c) m = λ serial. if serial == c.serial then c.text else m serial

-- 3. What is known of a pair of disks

-- What is known of the two disks of a node, from the commands and their answers.
pub record Pair : Type 0 where
  pub is_open : Bool
  -- whether each disk is in use
  pub first : Bool
  pub second : Bool
  -- the change that was begun and refused since the last opening or acknowledgement
  pub begun : Option Change
  -- whether each disk was in use at the last opening or acknowledgement, and was neither blanked nor met a fault since
  pub first_vouches : Bool
  pub second_vouches : Bool
  -- whether a blanking since then was cut short
  pub spoiled : Bool
  -- whether an opening left both disks in use, and each successful one since was covered
  pub sure : Bool

-- two blank disks
abbrev pub blank_pair : Pair
blank_pair = record {
  is_open = false;
  first = true;
  second = true;
  begun = None;
  first_vouches = true;
  second_vouches = true;
  spoiled = false;
  sure = true;
}

-- a disk is in use, or vouches, behind an entry as it did before it, but where it met a fault
abbrev pub left_by : Bool → Bool → Bool
left_by before failed = before && not failed

-- an opening is covered: a disk that vouches meets no fault in it, and no blanking was cut short
abbrev pub is_covered : Pair → Entry → Bool
is_covered p e = not p.spoiled && (left_by p.first_vouches e.first_failed || left_by p.second_vouches e.second_failed)

-- an opening is claimed to give what is held: it is covered, and so was each since both disks were in use
abbrev pub is_claimed : Pair → Entry → Bool
is_claimed p e = p.sure && is_covered p e

-- the pair behind a refusal, which closes it; the change begun is this one
abbrev pub closed_by : Option Change → Entry → Pair → Pair
closed_by begun e p = record {
  is_open = false;
  first = false;
  second = false;
  begun = begun;
  first_vouches = left_by p.first_vouches e.first_failed;
  second_vouches = left_by p.second_vouches e.second_failed;
  spoiled = p.spoiled;
  sure = p.sure;
}

-- the pair behind a call that was not refused
abbrev pub served_by : Entry → Pair → Pair
served_by e p = record {
  is_open = true;
  first = left_by p.first e.first_failed;
  second = left_by p.second e.second_failed;
  begun = None;
  first_vouches = left_by p.first e.first_failed;
  second_vouches = left_by p.second e.second_failed;
  spoiled = false;
  sure = p.sure;
}

-- the pair behind an opening that left these disks in use
abbrev pub opened_by : Bool → Bool → Entry → Pair → Pair
opened_by first second e p = record {
  is_open = true;
  first = first;
  second = second;
  begun = None;
  first_vouches = first;
  second_vouches = second;
  spoiled = false;
  sure = (first && second) || is_claimed p e;
}

-- a disk that was blanked vouches no more
abbrev pub blanked : Bool → Bool → Pair → Pair
blanked second spoiled p =
    record p {
      first_vouches = p.first_vouches && second;
      second_vouches = p.second_vouches && not second;
      spoiled = p.spoiled || spoiled;
    }

-- what a change leaves of the pair, by its answer: one for which there is no room leaves it as it was
abbrev pub changed_by : Option Change → Answer → Entry → Pair → Pair
changed_by c (Refused r) e p = closed_by c e p
changed_by c Made e p = served_by e p
changed_by c _ e p = p

-- what an opening, a look, a closing and a blanking leave of the pair
abbrev pub open_by : Answer → Entry → Pair → Pair
open_by (Opened first second) e p = opened_by first second e p
open_by (Refused r) e p = closed_by p.begun e p
open_by _ e p = p

abbrev pub looked_by : Answer → Entry → Pair → Pair
looked_by (Found text) e p = served_by e p
looked_by (Refused r) e p = closed_by None e p
looked_by _ e p = p

abbrev pub shut_by : Answer → Pair → Pair
shut_by Made p = record p { is_open = false }
shut_by _ p = p

abbrev pub blanked_by : Bool → Answer → Pair → Pair
blanked_by second Made p = blanked second false p
blanked_by second (CutShort stopped) p = blanked second true p
blanked_by second _ p = p

-- the change for which a put or a delete asks
abbrev pub put_of : ℕ → List ℕ → Option Change
put_of serial text = Some (change serial (Some text))

abbrev pub delete_of : ℕ → Option Change
delete_of serial = Some (change serial None)

-- the pair behind an entry
abbrev pub behind : Command → Answer → Entry → Pair → Pair
behind (opens n) a e p = open_by a e p
behind (puts n serial text) a e p = changed_by (put_of serial text) a e p
behind (gets n serial) a e p = looked_by a e p
behind (deletes n serial) a e p = changed_by (delete_of serial) a e p
behind (closes n) a e p = shut_by a p
behind (blanks d) a e p = blanked_by (is_second d) a p
behind (fails d after) a e p = p
behind (stops d after how) a e p = p

-- 4. What each entry does to what is held

-- A refusal that may be written: want of memory ends the script, and Lost comes only where each disk in use met a fault.
pub record MayRefuse (r : TwinRefusal) (e : Entry) (p : Pair) : Type 0 where
  pub memory : r ≢ OutOfMemory
  pub lost : r ≡ Lost → (left_by p.first e.first_failed ≡ false) × (left_by p.second e.second_failed ≡ false)

-- An opening is refused for want of both disks only where it is not claimed: a disk that vouches and meets no fault is not lost.
pub record MayShut (r : TwinRefusal) (e : Entry) (p : Pair) : Type 0 where
  pub memory : r ≢ OutOfMemory
  pub lost : r ≡ Lost → is_claimed p e ≡ false

-- where an opening is claimed, it gives what is held, with or without the change begun, and a disk that vouches and met no fault is in use
pub record GivesHeld (first second : Bool) (e : Entry) (p : Pair) (m x : Texts) : Type 0 where
  pub held : SameTexts x m ⊎ SameTexts x (texts_after p.begun m)
  pub first_used : left_by p.first_vouches e.first_failed ≡ true → first ≡ true
  pub second_used : left_by p.second_vouches e.second_failed ≡ true → second ≡ true

-- An opening leaves a disk in use; one that met a fault is not.
pub record Opens (first second : Bool) (e : Entry) (p : Pair) (m x : Texts) : Type 0 where
  pub some : (first ≡ true) ⊎ (second ≡ true)
  pub first_met : first ≡ true → e.first_failed ≡ false
  pub second_met : second ≡ true → e.second_failed ≡ false
  pub given : is_claimed p e ≡ true → GivesHeld first second e p m x

-- the command needs the node in this state: in the other nothing is done
abbrev pub InState : Bool → Bool → Answer → Texts → Texts → Type 0 → Type 0
InState needs is WrongState m x P = (is ≢ needs) × SameTexts x m
InState needs is _ m x P = (is ≡ needs) × P

-- what an opening gives
abbrev pub OpensSo : Answer → Entry → Pair → Texts → Texts → Type 0
OpensSo (Opened first second) e p m x = Opens first second e p m x
OpensSo (Refused r) e p m x = MayShut r e p × SameTexts x m
OpensSo _ e p m x = ⊥

-- whether a change gives a text: a removal does not, and wants no room
abbrev pub gives_text : Option Change → Bool
gives_text None = false
gives_text (Some c) = is_some c.text

-- behind a change that is acknowledged, it is held
abbrev pub ChangesSo : Option Change → Answer → Entry → Pair → Texts → Texts → Type 0
ChangesSo c Made e p m x = SameTexts x (texts_after c m)
ChangesSo c (Refused r) e p m x = MayRefuse r e p × SameTexts x m
ChangesSo c NoRoom e p m x = IsTrue (gives_text c) × SameTexts x m
ChangesSo c _ e p m x = ⊥

-- a look that is not refused gives what is held
abbrev pub LooksSo : ℕ → Answer → Entry → Pair → Texts → Texts → Type 0
LooksSo serial (Found text) e p m x = (text ≡ m serial) × SameTexts x m
LooksSo serial (Refused r) e p m x = MayRefuse r e p × SameTexts x m
LooksSo serial _ e p m x = ⊥

-- a closing, and an asking for a failure or a stop, is done
abbrev pub IsDone : Answer → Texts → Texts → Type 0
IsDone Made m x = SameTexts x m
IsDone _ m x = ⊥

-- a blanking is done or cut short
abbrev pub BlanksSo : Answer → Texts → Texts → Type 0
BlanksSo Made m x = SameTexts x m
BlanksSo (CutShort stopped) m x = SameTexts x m
BlanksSo _ m x = ⊥

-- The command was answered so on a pair of which this is known and under which this was held, and behind it that is held.
abbrev pub Leads : Command → Answer → Entry → Pair → Texts → Texts → Type 0
Leads (opens n) a e p m x = InState false p.is_open a m x (OpensSo a e p m x)
Leads (puts n serial text) a e p m x = InState true p.is_open a m x (ChangesSo (put_of serial text) a e p m x)
Leads (gets n serial) a e p m x = InState true p.is_open a m x (LooksSo serial a e p m x)
Leads (deletes n serial) a e p m x = InState true p.is_open a m x (ChangesSo (delete_of serial) a e p m x)
Leads (closes n) a e p m x = InState true p.is_open a m x (IsDone a m x)
Leads (blanks d) a e p m x = InState false p.is_open a m x (BlanksSo a m x)
Leads (fails d after) a e p m x = IsDone a m x
Leads (stops d after how) a e p m x = IsDone a m x

-- 5. Logs

-- what is known of a node's pair behind an entry, which may be one of another node
abbrev pub known_behind : Bool → Entry → Pair → Pair
known_behind true e p = behind e.command e.answer e p
known_behind false e p = p

-- an entry of the node leads from what is held to what is held behind it, and one of another node leaves it
abbrev pub Steps : Bool → Entry → Pair → Texts → Texts → Type 0
Steps true e p m x = Leads e.command e.answer e p m x
Steps false e p m x = SameTexts x m

-- whether an entry is one of the node
abbrev pub is_of : ℕ → Entry → Bool
is_of n e = node_of e.command == n

-- the entries lead on from what is known of a node's pair and what is held on it
abbrev pub Follows : ℕ → List Entry → Pair → Texts → Type 0
Follows n [] p m = Unit {0}
Follows n (e ∷ es) p m = (x : Texts) × Steps (is_of n e) e p m x × Follows n es (known_behind (is_of n e) e p) x

-- the numbers of all commands are within their limits
abbrev pub AllInReach : List Entry → Type 0
AllInReach [] = Unit {0}
AllInReach (e ∷ es) = IsInReach e.command × AllInReach es

-- nothing is held
abbrev pub no_texts : Texts
no_texts = λ serial. None

-- Of each node the entries lead on from two blank disks.
pub record IsLegalTwin (l : Log) : Type 0 where
  pub follows : (n : ℕ) → Follows n l.entries blank_pair no_texts
  pub reach : AllInReach l.entries
