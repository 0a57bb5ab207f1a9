-- What stands at the place of a node, and what a command does there.
use Rattle.std.specs.Prelude.{◌≡◌, ◌⊎◌, ℕ, Bool, true, false, IsTrue, List, [], ◌∷◌, length, replicate, Option, None, Some}
use Rattle.std.specs.Prelude.{Result, Ok, Err, IfOk}
use Rattle.std.specs.declared.alloc.AllocError.{AllocError}
use Rattle.eden_disk.specs.declared.disk.DiskRefusal.{DiskRefusal}
use Rattle.eden_disk.specs.declared.disk.DiskRefusal.TheVariants.{Failed, Stopped}
use Rattle.eden_disk.specs.Calls.{IsCut, end_of, faults_after, stops_after}
use Rattle.eden_disk.specs.Told.{contents, at_rest, Left}
use Rattle.passive_store.specs.Kept.{Layout}
use Rattle.passive_store.specs.Layout.{IsLayout}
use Rattle.passive_store.specs.Seen.{Seen, DiskSeen, Asked as AskedOf, asked}
use Rattle.twin_store.specs.declared.served.TwinRefusal.{TwinRefusal}
use Rattle.twin_store.specs.declared.served.TwinRefusal.TheVariants.{OutOfMemory, Full, Lost}
use Rattle.twin_store.specs.Sides.{SideSeen, is_in_use, disk_of, bodies_on, IsSideReady, RoseOnce, IsShortOn, IsFullOn, IsUnmapped}
use Rattle.twin_world.specs.Causes.{IsTold}
use Rattle.twin_store.specs.Twins.{TwinSeen, twin_seen, IsTwinReady}
use Rattle.twin_world.specs.Commands.{Command, puts, gets, deletes, node_of}
use Rattle.twin_world.specs.Logs.{Answer, Made, NoRoom, Refused, CutShort, Entry, Pair, Texts, Leads, behind}
use Rattle.twin_world.specs.Disks.{ZerosKeepNothing, CanRise}
use Rattle.twin_world.specs.InHand.{Serves, Rests, uid_of}
use Rattle.twin_world.specs.View.{answer_of, entry_by}
use Rattle.twin_world.specs.declared.answer.Done.{Done}
use Rattle.twin_world.specs.declared.ask.Asked.{Asked}
use Rattle.twin_world.specs.declared.place.Place.{Place}
use Rattle.twin_world.specs.declared.place.Place.TheVariants as place

-- 1. What stands there

-- what is seen of a place: two disks that are open, two that are closed, or nothing
pub data Standing : Type 0 where
  Serving : TwinSeen → Standing
  Resting : (first second : DiskSeen) → Standing
  Away : Standing

-- by what is seen of stores and of disks
abbrev pub standing : {T D : Type 0} → (T → Seen) → (D → DiskSeen) → Place T D → Standing
standing seen look (place.Open t) = Serving (twin_seen seen look t)
standing seen look (place.Rest first second) = Resting (look first) (look second)
standing seen look place.Away = Away

-- Two disks stand there; those that are open are of the node of this number, and ready.
abbrev pub IsSound : ℕ → Standing → Type 0
IsSound n (Serving t) = (t.node ≡ n) × IsTwinReady t
IsSound n (Resting first second) = Unit {0}
IsSound n Away = ⊥

-- what stands there stands for what is known of a pair and what is held on it
abbrev pub StandsFor : Layout → ℕ → Pair → Texts → Standing → Type 0
StandsFor layout n p m (Serving t) = Serves layout n p m t
StandsFor layout n p m (Resting first second) = Rests layout n p m first second
StandsFor layout n p m Away = ⊥

-- the disks there
abbrev pub disks_at : Standing → List DiskSeen
disks_at (Serving t) = disk_of t.first ∷ disk_of t.second ∷ []
disks_at (Resting first second) = first ∷ second ∷ []
disks_at Away = []

-- the count of faults of each disk is as it was, or rose by one
abbrev pub AllRoseOnce : List DiskSeen → List DiskSeen → Type 0
AllRoseOnce [] [] = Unit {0}
AllRoseOnce [] (e ∷ es) = ⊥
AllRoseOnce (d ∷ ds) [] = ⊥
AllRoseOnce (d ∷ ds) (e ∷ es) = RoseOnce d e × AllRoseOnce ds es

-- 2. What a command does there

-- From whatever is known of a pair, and held on it, an entry leads to what stands there behind it.
abbrev pub Turns : Layout → ℕ → Entry → Standing → Standing → Type 0
Turns layout n e old new = (p : Pair) (m : Texts) → StandsFor layout n p m old
    → (x : Texts) × Leads e.command e.answer e p m x × StandsFor layout n (behind e.command e.answer e p) x new

-- a disk in use there has no room for the text of a put, as far as its store tells its room
abbrev pub LacksRoom : Bool → Layout → Command → Standing → Type 0
LacksRoom tells layout (puts n serial text) (Serving t) =
    IsShortOn tells layout (length text) t.first ⊎ IsShortOn tells layout (length text) t.second
LacksRoom tells layout _ _ = ⊥

-- what a command asks of a store
abbrev pub asked_for : Command → Option AskedOf
asked_for (puts n serial text) = Some (asked (uid_of n serial) (Some text))
asked_for (deletes n serial) = Some (asked (uid_of n serial) None)
asked_for _ = None

-- A disk in use has no room for what is asked, as far as its store tells its room, or a disk met a fault, so that the other had to take a
-- generation first. Of openings nothing is said.
abbrev pub IsFullHere : Bool → Layout → Entry → Standing → Type 0
IsFullHere tells layout e (Serving t) =
    (IsFullOn tells layout (asked_for e.command) t.first ⊎ IsFullOn tells layout (asked_for e.command) t.second)
    ⊎ ((e.first_failed ≡ true) ⊎ (e.second_failed ≡ true))
IsFullHere tells layout e (Resting first second) = Unit {0}
IsFullHere tells layout e Away = ⊥

-- a disk of a pair that is open met a fault, or was out of use; one that is opened met a fault, or its image has no map
abbrev pub IsLostSide : Bool → SideSeen → Type 0
IsLostSide failed side = (failed ≡ true) ⊎ (is_in_use side ≡ false)

abbrev pub IsLostImage : Bool → Layout → ℕ → Bool → DiskSeen → Type 0
IsLostImage tells layout n failed d = (failed ≡ true) ⊎ (IsTrue tells → IsUnmapped layout n d)

-- so it is of both disks
abbrev pub AreLost : Bool → Layout → Entry → Standing → Type 0
AreLost tells layout e (Serving t) = IsLostSide e.first_failed t.first × IsLostSide e.second_failed t.second
AreLost tells layout e (Resting first second) =
    IsLostImage tells layout (node_of e.command) e.first_failed first × IsLostImage tells layout (node_of e.command) e.second_failed second
AreLost tells layout e Away = ⊥

-- Answers that say that there is no room, or no disk, have their cause in what stands there.
pub record IsCaused (tells : Bool) (layout : Layout) (e : Entry) (old : Standing) : Type 0 where
  pub room : e.answer ≡ NoRoom → LacksRoom tells layout e.command old
  pub full : e.answer ≡ Refused Full → IsFullHere tells layout e old
  pub lost : e.answer ≡ Refused Lost → AreLost tells layout e old

-- A command was carried out there. Want of memory is no answer.
pub record Acts (tells : Bool) (layout : Layout) (n : ℕ) (c : Command) (r : Result Done AllocError) (old new : Standing) : Type 0 where
  pub sound : IsSound n old → IsSound n new
  pub rose : AllRoseOnce (disks_at old) (disks_at new)
  pub told : IfOk r (λ d. IsTold (entry_by c d) (disks_at old) (disks_at new))
  pub caused : IfOk r (λ d. IsCaused tells layout (entry_by c d) old)
  pub turns : IsTrue tells → IsLayout layout → ZerosKeepNothing layout → CanRise 0 (disks_at old)
      → IfOk r (λ d. Turns layout n (entry_by c d) old new)

-- 3. Disks between two states

-- A disk that is handed on is as it was, or lost its power.
pub record IsLeft (tells : Bool) (old new : DiskSeen) : Type 0 where
  pub faults : new.counts.faults ≡ old.counts.faults
  pub stops : new.counts.stops ≡ old.counts.stops
  pub told : IsTrue tells → (new.told ≡ old.told) ⊎ IsCut old.counts.clock old.told new.told

-- Two disks were closed, with a power cut of both or without.
pub record AreLeft (tells : Bool) (first second : DiskSeen) (new : Standing) : Type 0 where
  pub one : DiskSeen
  pub two : DiskSeen
  pub is : new ≡ Resting one two
  pub first_left : IsLeft tells first one
  pub second_left : IsLeft tells second two

-- Behind a call of an open pair that was not refused, the pair goes on; behind one that was, its disks are closed.
abbrev pub GoesOnAs : {T : Type 0} → Bool → Result T TwinRefusal → TwinSeen → Standing → Type 0
GoesOnAs tells (Ok value) t new = new ≡ Serving t
GoesOnAs tells (Err r) t new = AreLeft tells (disk_of t.first) (disk_of t.second) new

-- A disk that is to be opened has power, and a crash may leave what a read sees.
pub record IsWoken (tells : Bool) (old new : DiskSeen) : Type 0 where
  pub faults : new.counts.faults ≡ old.counts.faults
  pub stops : new.counts.stops ≡ old.counts.stops
  pub told : new.told ≡ old.told
  pub power : IsTrue new.counts.power
  pub whole : IsTrue tells → Left (contents new.told) (contents new.told).now

-- A disk was overwritten with zeros.
abbrev pub IsZeroed : Bool → DiskSeen → Type 0
IsZeroed tells new = IsTrue tells → (size : ℕ) × (contents new.told ≡ at_rest (replicate size 0))

-- A command is answered as the call was, with its faults; want of memory is no answer.
pub record IsDoneAs {T : Type 0} (by : Result T TwinRefusal → Answer) (asked : Asked T) (d : Done) : Type 0 where
  pub answer : answer_of d.answer ≡ by asked.answer
  pub first : d.first_failed ≡ asked.first_failed
  pub second : d.second_failed ≡ asked.second_failed
  pub memory : asked.answer ≡ Err OutOfMemory → ⊥

-- A disk was asked for a failure or a stop, or was not: nothing else changed.
pub record IsAskedDisk (old new : DiskSeen) : Type 0 where
  pub counts : new.counts ≡ old.counts
  pub told : new.told ≡ old.told

-- The same of a disk of a pair that is open.
pub record IsAskedSide (tells : Bool) (old new : SideSeen) : Type 0 where
  pub used : is_in_use new ≡ is_in_use old
  pub disk : IsAskedDisk (disk_of old) (disk_of new)
  pub kept : IsTrue tells → bodies_on new ≡ bodies_on old
  pub ready : (node : ℕ) → IsSideReady node old → IsSideReady node new

-- The same of both disks of a node.
abbrev pub IsAsked : Bool → Standing → Standing → Type 0
IsAsked tells (Serving t) (Serving u) = (u.node ≡ t.node) × (u.generation ≡ t.generation) × IsAskedSide tells t.first u.first
    × IsAskedSide tells t.second u.second
IsAsked tells (Resting first second) (Resting one two) = IsAskedDisk first one × IsAskedDisk second two
IsAsked tells Away Away = Unit {0}
IsAsked tells _ _ = ⊥

-- the count of faults of a disk behind a blanking, by how it ended; want of memory leaves it
abbrev pub IsBlankedOnce : Result (Result (Unit {0}) DiskRefusal) AllocError → ℕ → ℕ → Type 0
IsBlankedOnce (Ok how) old new = new ≡ faults_after (end_of how) old
IsBlankedOnce (Err e) old new = new ≡ old

-- the same of the count of stops
abbrev pub IsStoppedOnce : Result (Result (Unit {0}) DiskRefusal) AllocError → ℕ → ℕ → Type 0
IsStoppedOnce (Ok how) old new = new ≡ stops_after (end_of how) old
IsStoppedOnce (Err e) old new = new ≡ old

-- whether a blanking marks its disk
abbrev pub is_failed : Result (Unit {0}) DiskRefusal → Bool
is_failed (Ok done) = false
is_failed (Err Failed) = true
is_failed (Err Stopped) = false

-- the disks of a place that were given back
abbrev pub given_by : Option (DiskSeen × DiskSeen) → List DiskSeen
given_by None = []
given_by (Some p) = p.0 ∷ p.1 ∷ []

-- what a blanking is answered, by how its device calls ended
abbrev pub blanked_as : Result (Unit {0}) DiskRefusal → Answer
blanked_as (Ok done) = Made
blanked_as (Err Failed) = CutShort false
blanked_as (Err Stopped) = CutShort true

-- a command that is about no text
abbrev pub IsNoText : Command → Type 0
IsNoText (puts n serial text) = ⊥
IsNoText (gets n serial) = ⊥
IsNoText (deletes n serial) = ⊥
IsNoText _ = Unit {0}
