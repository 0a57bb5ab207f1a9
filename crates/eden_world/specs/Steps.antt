-- What an entry does to what a program has in hand: it stands for the world after it, and each disk did what it may.
use Rattle.std.specs.Prelude.{◌≡◌, ◌⊎◌, ◌≤◌, ◌==◌, ◌+◌, ◌||◌, ℕ, suc, Bool, true, false, cond, not, List, []}
use Rattle.std.specs.Prelude.{Option, None, Some, is_some, IfSome, IsSomeAnd}
use Rattle.capability.specs.declared.Cap.{Cap}
use Rattle.eden_disk.specs.Calls.{Counts, DeviceCalls}
use Rattle.eden_disk.specs.Told.{contents, LeavesOnly}
use Rattle.eden_model.specs.Map.{same_text}
use Rattle.invocation.specs.Mail.{Mail}
use Rattle.passive_store.specs.Kept.{Layout}
use Rattle.passive_store.specs.Seen.{DiskSeen}
use Rattle.passive_store.specs.declared.store.Pick.{Pick}
use Rattle.journal.specs.declared.command.Command.{Command}
use Rattle.journal.specs.declared.event.Event.{Event}
use Rattle.journal.specs.declared.event.Event.TheVariants as event
use Rattle.journal.specs.declared.event.Entry.{Entry}
use Rattle.journal.specs.declared.event.RequestEnd.{RequestEnd}
use Rattle.journal.specs.declared.event.StartEnd.{StartEnd}
use Rattle.journal.specs.declared.event.RequestEnd.TheVariants as request_end
use Rattle.journal.specs.declared.event.StartEnd.TheVariants as start_end
use Rattle.journal.specs.World.{World, Site, Node, Meaning, node_at, site_of, reaches}
use Rattle.journal.specs.Sites.{AllSound, IsSoundSite}
use Rattle.journal.specs.Step.{Allows, StoreClock, next, touched, touches_store}
use Rattle.journal.specs.Run.{Step, AllowsLookUp, IsPlain, looked_up}
use Rattle.journal.specs.Opening.{IsToldFor}
use Rattle.journal.specs.Standing.{unfinished}
use Rattle.checkpoint.specs.Throughout.{StepOnDisk, EndsOnDisk}
use Rattle.eden_kernel.specs.DiskTurns.{call_of_request}
use Rattle.eden_kernel.specs.Stands.{Held, IsWhole, NodeStands}
use Rattle.eden_kernel.specs.Turns.{Turns, clock_of}
use Rattle.eden_world.specs.Worlds.{Seat, up, down, InHand, IsNumber, WorldStands}

-- 1. What changed in hand

-- what is seen of the disk at a place
abbrev pub disk_of : Seat → DiskSeen
disk_of (up h) = h.seen.disk
disk_of (down noted d) = d

-- Another stands at the place of node n, and the calls went on; the types, the links and the names are as they were.
pub record TakesSeat (n : ℕ) (seat : Seat) (later : Mail) (old new : InHand) : Type 0 where
  pub types : new.types ≡ old.types
  pub here : new.seats n ≡ Some seat
  pub others : (m : ℕ) → (m == n) ≡ false → new.seats m ≡ old.seats m
  pub mail : new.mail ≡ later
  pub places : new.places ≡ old.places
  pub names : (name : List ℕ) → new.names name ≡ old.names name

-- The calls went on, and the names may stand for something else; no node changed, and no link.
pub record TakesMail (later : Mail) (old new : InHand) : Type 0 where
  pub types : new.types ≡ old.types
  pub seats : (m : ℕ) → new.seats m ≡ old.seats m
  pub mail : new.mail ≡ later
  pub places : new.places ≡ old.places

-- a name stands for something else at most
pub record TakesNames (old new : InHand) : Type 0 where
  pub types : new.types ≡ old.types
  pub seats : (m : ℕ) → new.seats m ≡ old.seats m
  pub mail : new.mail ≡ old.mail
  pub places : new.places ≡ old.places

-- no name stands for something else
abbrev pub SameNames : InHand → InHand → Type 0
SameNames old new = (name : List ℕ) → new.names name ≡ old.names name

-- this name stands for something now, and all others for what they did
abbrev pub Names : List ℕ → Meaning → InHand → InHand → Type 0
Names name m old new = (other : List ℕ) → new.names other ≡ cond (same_text name other) (Some m) (old.names other)

-- 2. What an entry shows of a node's disk

-- It touched the disk, and shows its clock; or it touched none, and the clock is as it was.
abbrev pub Shows : Entry → ℕ → ℕ → ℕ → Type 0
Shows e n before after = ((e.node ≡ n) × (e.clock ≡ after)) ⊎ ((e.node ≡ 0) × (e.clock ≡ 0) × (after ≡ before))

-- it touched none, and broke no call of the shell
pub record TouchesNone (e : Entry) : Type 0 where
  pub disk : e.node ≡ 0
  pub clock : e.clock ≡ 0
  pub broken : e.broken ≡ []

-- An activation touches the disk, unless there was nothing to settle and nothing is kept.
abbrev pub start_touches : StartEnd → Option Pick → Bool
start_touches start_end.Gone p = is_some p
start_touches _ p = true

-- A turn of the store touches it where its device call did not succeed, where more are left, and where the clock rose.
abbrev pub store_touches : RequestEnd → ℕ → ℕ → Bool
store_touches request_end.Done before after = not (before == after)
store_touches request_end.Full before after = false
store_touches _ before after = true

-- whether a turn touched the disk, by its event
abbrev pub event_touches : Event → ℕ → ℕ → Bool
event_touches (event.Activate u how p) before after = start_touches how p
event_touches (event.Store u clock how p) before after = store_touches how before after
event_touches _ before after = false

-- by its event and the clocks of the disk: whose clock rose was touched
abbrev pub turn_touches : Event → ℕ → ℕ → Bool
turn_touches e before after = not (before == after) || event_touches e before after

-- The entry shows the node of a disk that was touched, and its clock.
abbrev pub ShowsIf : Bool → ℕ → ℕ → Entry → Type 0
ShowsIf true n clock e = (e.node ≡ n) × (e.clock ≡ clock)
ShowsIf false n clock e = (e.node ≡ 0) × (e.clock ≡ 0)

-- it made its device call, or none
abbrev pub CallsSo : Bool → RequestEnd → Counts → Counts → Type 0
CallsSo true how before after = DeviceCalls 1 before after (call_of_request how)
CallsSo false how before after = after.clock ≡ before.clock

-- exactly where the work of the site's store makes one
abbrev pub CallsAsDue : Site → RequestEnd → Counts → Counts → Type 0
CallsAsDue s how before after = CallsSo (touches_store s) how before after

-- 3. An entry

-- the step of an entry: the worlds before and after it
abbrev pub step_by : World → Option Command → Entry → Step
step_by w c e = record { world = w; entry = e; later = next w c e }

-- what it did to the disk of a place, if there is such a place, by what was seen of it before and after
abbrev pub SeatStep : Layout → ℕ → Step → Option Seat → Option Seat → Type 0
SeatStep layout n s old new = IfSome old (λ a. IsSomeAnd new (λ b.
    StepOnDisk layout n s (disk_of a).told (disk_of a).counts.clock (disk_of b).told (disk_of b).counts.clock))

-- to each of them
abbrev pub EachDisk : Layout → Step → InHand → InHand → Type 0
EachDisk layout s old new = (n : ℕ) → IsNumber n → SeatStep layout n s (old.seats n) (new.seats n)

-- The entry is allowed, what is in hand then stands for the world after it, and each disk did what it may.
pub record Goes (layout : Layout) (more : ℕ) (w : World) (c : Option Command) (e : Entry) (old new : InHand) : Type 0 where
  pub allowed : Allows w c e
  pub stands : WorldStands layout more new (next w c e)
  pub disks : EachDisk layout (step_by w c e) old new

-- The same of the call of a walk, which stands in no command.
pub record LooksUp (layout : Layout) (more : ℕ) (w : World) (name : List ℕ) (target : Option Cap) (components : List (List ℕ)) (e : Entry)
    (old new : InHand) : Type 0 where
  pub allowed : AllowsLookUp w name target components e.event
  pub plain : IsPlain e
  pub stands : WorldStands layout more new (looked_up w name target components e.event)
  pub disks : EachDisk layout (record { world = w; entry = e; later = looked_up w name target components e.event }) old new

-- 4. A turn of a node

-- the node goes on behind an activation that ended so
abbrev pub GoesOnFrom : StartEnd → Type 0
GoesOnFrom start_end.Stop = ⊥
GoesOnFrom _ = Unit {0}

-- and behind a turn of its store
abbrev pub GoesOnBy : RequestEnd → Type 0
GoesOnBy request_end.Stop = ⊥
GoesOnBy _ = Unit {0}

-- the event is a turn of this node, which goes on behind it
abbrev pub IsTurnAt : ℕ → Event → Type 0
IsTurnAt n (event.Request k a b refused) = b ≡ n
IsTurnAt n (event.Reply k a b name why values) = (b ≡ n) × (name ≡ None)
IsTurnAt n (event.Activate u how p) = (u.node ≡ n) × GoesOnFrom how
IsTurnAt n (event.Start k u p) = u.node ≡ n
IsTurnAt n (event.Process u p said) = u.node ≡ n
IsTurnAt n (event.Store u clock how p) = (u.node ≡ n) × GoesOnBy how
IsTurnAt n _ = ⊥

-- it is the turn of the node's site, where what is in hand stands
abbrev pub TurnsIn : Layout → InHand → World → ℕ → Held → Held → Mail → Event → Type 0
TurnsIn layout old w n h x later e = (it : Node) → node_at w n ≡ Some it → IsSoundSite (site_of w n it)
    → NodeStands layout old.types h old.mail (site_of w n it) → Turns layout old.types x later (reaches w n) h (site_of w n it) e

-- What its caller knows of a turn of node n: which node was there and which is there now, that it took the turn of its site, and the entry.
pub record TakesTurn (layout : Layout) (old new : InHand) (w : World) (n : ℕ) (h x : Held) (later : Mail) (e : Entry) : Type 0 where
  pub number : IsNumber n
  pub sits : old.seats n ≡ Some (up h)
  pub takes : TakesSeat n (up x) later old new
  pub whole : IsWhole x
  -- of the changes for which the room is told it took one at most
  pub room : h.seen.more ≤ x.seen.more + 1
  pub is_turn : IsTurnAt n e.event
  pub turns : TurnsIn layout old w n h x later e.event
  -- the entry breaks no call, and shows the disk where the turn touched it
  pub broken : e.broken ≡ []
  pub disk : e.node ≡ touched w e.event
  pub shows : Shows e n (clock_of h) (clock_of x)
  pub store_clock : StoreClock w e.event e.clock

-- each such turn is a step of the world
abbrev pub TurnsGo : Type 0
TurnsGo = (layout : Layout) (more : ℕ) (old new : InHand) (w : World) (n : ℕ) (h x : Held) (later : Mail) (e : Entry) → AllSound w
    → WorldStands layout (suc more) old w → TakesTurn layout old new w n h x later e → Goes layout more w None e old new

-- 5. Want of memory: there is no entry, and the run ends

-- what the disk of node n did behind the last entry, and the room of what a crash leaves of it, which is told for so many changes
pub record DiskEnds (layout : Layout) (more n : ℕ) (last : World) (old new : DiskSeen) : Type 0 where
  pub ends : EndsOnDisk layout n last (unfinished last) old.told old.counts.clock new.told new.counts.clock
  pub room : LeavesOnly (IsToldFor layout n more) (contents new.told)

-- the disk of a place, if there is such a place
abbrev pub SeatEnds : Layout → ℕ → ℕ → World → Option Seat → Option Seat → Type 0
SeatEnds layout more n last old new = IfSome old (λ a. IsSomeAnd new (λ b. DiskEnds layout more n last (disk_of a) (disk_of b)))

-- each of them
abbrev pub EachEnds : Layout → ℕ → World → InHand → InHand → Type 0
EachEnds layout more last old new = (n : ℕ) → IsNumber n → SeatEnds layout more n last (old.seats n) (new.seats n)
