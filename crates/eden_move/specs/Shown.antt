-- What is seen of a node in which Ejects wander: its store and its memory, as a node of the world.
use Rattle.std.specs.Prelude.{◌≡◌, ◌⊎◌, ℕ, ◌≤◌, Bool, true, false, IsTrue, List, length, Option, None, Some, IfSome, Result, Ok, Err}
use Rattle.std.specs.Option.{option_map}
use Rattle.capability.specs.declared.Uid.{Uid}
use Rattle.eden_value.specs.Datum.{Datum}
use Rattle.eden_value.specs.Limits.{IsValue}
use Rattle.eden_disk.specs.Calls.{End, Fine, AtFault, AtStop, faults_after, stops_after, power_after, more_by}
use Rattle.passive_store.specs.declared.store.Pick.{Pick as StorePick}
use Rattle.passive_store.specs.Kept.{StoreChange, Layout, LeavesKept, doubt_in, body_at, is_busy, settling_calls, settled}
use Rattle.passive_store.specs.Seen.{Seen, asked, has_room_for}
use Rattle.move_laws.specs.Wander.{Record, Letter, Take, Known}
use Rattle.move_laws.specs.World.{Node, Pick, SettlesAs, settled_by, Harm, harmed, refusal_of, Ended, Call, Make, Wake, Save, Lend}
use Rattle.move_laws.specs.World.{Again, TakeIt, reads, due}
use Rattle.move_laws.specs.World.{CloseIt, Due, Refuses, Gives, Puts, Mind, Forgotten, Same, Learnt, Acted, Carried}
use Rattle.eden_move.specs.declared.refusal.MoveRefusal.{MoveRefusal}
use Rattle.eden_move.specs.declared.refusal.MoveRefusal.TheVariants.{Fault, Stopped, Full}
use Rattle.eden_move.specs.Records.{record_in, record_bytes, in_bounds, is_long, IsRecord}
use Rattle.eden_move.specs.Minds.{Remembered, as_memory, as_active}
use Rattle.eden_move.specs.Calls.{seen_refusal, Finds}
use Rattle.eden_move.specs.declared.due.Found.{Found}

-- 1. A node

-- the uid under which the record of an Eject is kept on node n
abbrev pub key : ℕ → Uid → Uid
key n u = record { node = n; epoch = u.node; serial = u.serial }

-- an Eject that may wander: of epoch 1
pub record IsWanderer (u : Uid) : Type 0 where
  pub node_least : 1 ≤ u.node
  pub node_most : u.node ≤ 8
  pub epoch : u.epoch ≡ 1
  pub serial : 1 ≤ u.serial

-- a change of the store puts this record
pub record PutsRecord (n : ℕ) (c : StoreChange) (u : Uid) (r : Record Datum) : Type 0 where
  pub wanderer : IsWanderer u
  pub uid : c.uid ≡ key n u
  pub body : List ℕ
  pub body_is : c.body ≡ Some body
  pub spells : record_in body ≡ Some r

-- the change in doubt of a store is that of the node: the put of a record
abbrev pub ShowsDoubt : ℕ → Option StoreChange → Option (Uid × Record Datum) → Type 0
ShowsDoubt n None None = Unit {0}
ShowsDoubt n None (Some d) = ⊥
ShowsDoubt n (Some c) None = ⊥
ShowsDoubt n (Some c) (Some d) = PutsRecord n c d.0 d.1

-- generation and value are within their limits
abbrev pub IsFitMemory : ℕ → Datum → Type 0
IsFitMemory g v = (in_bounds g 0 ≡ true) × IsValue 4 v

-- what a store and a memory stand for, as a node: what is kept under each key, the change in doubt, and, while it is up, its memory
pub record Shows (s : Seen) (m : Uid → Option Remembered) (x : Node Datum) : Type 0 where
  pub kept : (u : Uid) → IsWanderer u → x.kept u ≡ option_map record_in (body_at s.kept (key s.node u))
  pub doubt : ShowsDoubt s.node (doubt_in s.work) x.doubt
  pub active : x.up ≡ true → (u : Uid) → x.active u ≡ as_active (m u)
  pub memory : x.up ≡ true → (u : Uid) → x.memory u ≡ as_memory (m u)
  pub fit : (u : Uid) → IfSome (m u) (λ k. IsFitMemory k.generation k.value)

-- the node behind an opening: what its store keeps, no doubt, and nothing in memory
abbrev pub opened_node : Seen → Node Datum
opened_node s = record {
  up = true;
  kept = λ u. option_map record_in (body_at s.kept (key s.node u));
  doubt = None;
  active = λ u. false;
  memory = λ u. None;
}

-- 2. Calls

-- a letter of which a call may be made: its generation and its value are within their limits
abbrev pub IsFitPost : Option (Letter Datum) → Type 0
IsFitPost None = Unit {0}
IsFitPost (Some (Take to g v)) = IsFitMemory g v
IsFitPost (Some (Known to g)) = in_bounds g 0 ≡ true

-- a call with values and numbers within their limits
abbrev pub IsFitCall : Call Datum → Type 0
IsFitCall (Make v) = IsValue 4 v
IsFitCall Wake = Unit {0}
IsFitCall (Save v) = IsValue 4 v
IsFitCall (Lend to) = to ≤ 8
IsFitCall Again = Unit {0}
IsFitCall (TakeIt from g v) = IsFitMemory g v
IsFitCall (CloseIt from g) = in_bounds g 0 ≡ true

abbrev pub IsFitMind : Mind Datum → Type 0
IsFitMind Forgotten = Unit {0}
IsFitMind Same = Unit {0}
IsFitMind (Learnt active g v) = IsFitMemory g v

-- what is due is within the limits
abbrev pub IsFitDue : Due Datum → Type 0
IsFitDue (Refuses r) = Unit {0}
IsFitDue (Gives m post) = IsFitMind m × IsFitPost post
IsFitDue (Puts r m post) = IsRecord r × IsFitMind m × IsFitPost post

-- The node was left so by a call that ended so.
abbrev pub Went : Uid → Call Datum → Node Datum → Ended Datum → Seen → (Uid → Option Remembered) → Type 0
Went u c x how s m = (y : Node Datum) × Carried is_long u c x how y × Shows s m y

-- From whatever node is seen before it, the call, which ended so, led to one that is seen behind it.
abbrev pub Carries : Uid → Call Datum → Ended Datum → Seen → (Uid → Option Remembered) → Seen → (Uid → Option Remembered) → Type 0
Carries u c how s m t n = IsFitCall c → (x : Node Datum) → x.up ≡ true → Shows s m x → Went u c x how t n

-- 3. The parts of a call

-- a failure or a stop came to this node, in a call on this Eject
abbrev pub IsHarmed : Uid → Node Datum → MoveRefusal → Seen → (Uid → Option Remembered) → Type 0
IsHarmed u x e s m = (h : Harm) × (seen_refusal e ≡ refusal_of h) × Shows s m (harmed h u x)

-- the node is settled
pub record IsSettled (x : Node Datum) (s : Seen) (m : Uid → Option Remembered) : Type 0 where
  pub pick : Option Pick
  pub settles : SettlesAs pick x
  pub none : (settled_by pick x).doubt ≡ None
  pub up : (settled_by pick x).up ≡ x.up
  pub shows : Shows s m (settled_by pick x)

-- the node did what was due, or not
abbrev pub Acts : Uid → Due Datum → Node Datum → Ended Datum → Seen → (Uid → Option Remembered) → Type 0
Acts u d x how s m = (y : Node Datum) × Acted is_long u d x how y × Shows s m y

-- the store was settled, and this was found of the Eject
abbrev pub FoundIn : Uid → Node Datum → Found → Seen → (Uid → Option Remembered) → Type 0
FoundIn u x found s m = (z : IsSettled x s m) × Finds found ((settled_by z.pick x).kept u)

-- 4. What a call needs of a node, and keeps

-- the number of the node is that of its store, which has no job
pub record IsOpen (number : ℕ) (s : Seen) : Type 0 where
  pub of : number ≡ s.node
  pub idle : is_busy s.work ≡ false
  pub least : 1 ≤ number
  pub most : number ≤ 8

-- 5. Device calls

-- a crash leaves only images that stand for what is kept, with or without the change in doubt
abbrev pub Stands : Layout → Seen → Type 0
Stands layout s = LeavesKept layout s.node s.more s.kept s.work s.disk.told

-- Of so many device calls these were made: all or none of them, or the first ones, where the disk refused the last of these.
abbrev pub MadeOf : End → ℕ → ℕ → Type 0
MadeOf Fine all made = (made ≡ 0) ⊎ (made ≡ all)
MadeOf AtFault all made = made ≤ all
MadeOf AtStop all made = made ≤ all

-- so many are of the device calls that read what is kept under a uid
abbrev pub AreOfReading : Layout → End → ℕ → Type 0
AreOfReading layout end made = (body : Option (List ℕ)) × MadeOf end (layout.reading_calls body) made

-- so many are of the device calls of the job of a put, on what a disk held then
abbrev pub AreOfJob : Layout → End → ℕ → Type 0
AreOfJob layout end made =
    (node : ℕ) × (at : Option ℕ) × (image : List ℕ) × (uid : Uid) × (body : List ℕ)
    × MadeOf end (length (layout.job_calls node at image uid (Some body))) made

-- How many device calls were made: of a settling, then of the reading of a record, then of the put of one; none of a part that is not made.
pub record Made (settling reading putting tells : Bool) (layout : Layout) (end : End) (old new : Seen) : Type 0 where
  pub settles : ℕ
  pub reads : ℕ
  pub puts : ℕ
  pub clock : new.disk.counts.clock ≡ more_by puts (more_by reads (more_by settles old.disk.counts.clock))
  pub of_settling : MadeOf end (settling_calls old.work) settles
  pub of_reading : IsTrue tells → AreOfReading layout end reads
  pub of_job : IsTrue tells → AreOfJob layout end puts
  pub unsettled : settling ≡ false → settles ≡ 0
  pub unread : reading ≡ false → reads ≡ 0
  pub unput : putting ≡ false → puts ≡ 0

-- What each call does to the disk: its count of faults rises by one exactly where the call ends in a fault, and that of stops likewise;
-- behind it a crash leaves what it may; and it makes no device calls but those of the parts that it may have.
pub record Goes (settling reading putting tells : Bool) (layout : Layout) (end : End) (old new : Seen) : Type 0 where
  pub made : Made settling reading putting tells layout end old new
  pub size : new.disk.counts.size ≡ old.disk.counts.size
  pub power : new.disk.counts.power ≡ power_after end
  pub faults : new.disk.counts.faults ≡ faults_after end old.disk.counts.faults
  pub stops : new.disk.counts.stops ≡ stops_after end old.disk.counts.stops
  pub stands : IsTrue tells → Stands layout old → Stands layout new

-- whether a call may put a record
abbrev pub may_put : Call Datum → Bool
may_put (Make v) = true
may_put Wake = false
may_put (Save v) = true
may_put (Lend to) = true
may_put Again = false
may_put (TakeIt from g v) = true
may_put (CloseIt from g) = true

-- What a call does to the disk, by what is in memory of its Eject: it may settle; it reads the record only where its rule says so, which
-- for a save and a lending is where nothing is in memory; and it puts one only where it is a call that may.
abbrev pub CallGoes : Bool → Layout → Call Datum → Option Remembered → End → Seen → Seen → Type 0
CallGoes tells layout c m end old new = Goes true (reads c (as_memory m)) (may_put c) tells layout end old new

-- whether it is due to put a record
abbrev pub is_put : Due Datum → Bool
is_put (Refuses r) = false
is_put (Gives m post) = false
is_put (Puts r m post) = true

-- 6. Room

-- whether bytes find room under the key of an Eject, by what a store keeps
abbrev pub finds_room : Layout → Seen → Uid → List ℕ → Bool
finds_room layout s u body = has_room_for layout s.disk.counts.size s.kept (asked (key s.node u) (Some body))

-- what is due has so much room: where it puts a record, this finds room or finds none
abbrev pub HasRoom : Layout → Seen → Uid → Due Datum → Bool → Type 0
HasRoom layout s u (Refuses r) room = Unit {0}
HasRoom layout s u (Gives m post) room = Unit {0}
HasRoom layout s u (Puts r m post) room = finds_room layout s u (record_bytes r) ≡ room

-- whether there was room for a put that was refused so, if that is known: Full comes before its first device call
abbrev pub room_by_put : MoveRefusal → Option Bool
room_by_put Fault = Some true
room_by_put Stopped = Some true
room_by_put Full = Some false
room_by_put e = None

-- whether there was room for a put that ended so
abbrev pub room_of_put : {T : Type 0} → Result T MoveRefusal → Option Bool
room_of_put (Ok done) = Some true
room_of_put (Err e) = room_by_put e

-- the same of a whole call, of which a fault and a stop may have come before the put
abbrev pub room_by_call : MoveRefusal → Option Bool
room_by_call Full = Some false
room_by_call e = None

abbrev pub room_of_call : {T : Type 0} → Result T MoveRefusal → Option Bool
room_of_call (Ok done) = Some true
room_of_call (Err e) = room_by_call e

-- from one store to another at most a settling came between: what is kept is what this pick makes of it, and the room is told as long
pub record KeepsRoom (old new : Seen) : Type 0 where
  pub node : new.node ≡ old.node
  pub size : new.disk.counts.size ≡ old.disk.counts.size
  pub more : new.more ≡ old.more
  pub pick : Option StorePick
  pub kept : new.kept ≡ settled pick old.work old.kept

-- once the node is settled, what the call is due to do has so much room
pub record RoomBehind (layout : Layout) (u : Uid) (c : Call Datum) (x : Node Datum) (s : Seen) (m : Uid → Option Remembered) (room : Bool)
    : Type 0 where
  pub store : Seen
  pub keeps : KeepsRoom s store
  pub settles : IsSettled x store m
  pub has : HasRoom layout store u (due u c (settled_by settles.pick x)) room

-- As long as the room is told, the call is refused as Full exactly where what it is due to put finds no room.
abbrev pub IsFullCall : {T : Type 0} → Bool → Layout → Uid → Call Datum → Result T MoveRefusal → Seen → (Uid → Option Remembered) → Type 0
IsFullCall tells layout u c result s m = IsTrue tells → 1 ≤ s.more → (x : Node Datum) → x.up ≡ true → Shows s m x
    → IfSome (room_of_call result) (RoomBehind layout u c x s m)
