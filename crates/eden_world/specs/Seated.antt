-- What stands at the places of a program, and what its calls do to one of them.
use Rattle.std.specs.Prelude.{◌≡◌, ◌≢◌, ◌==◌, ◌≤◌, ℕ, zero, suc, Bool, true, false, cond, List, length, Option, None, Some, IsTrue}
use Rattle.std.specs.Prelude.{slice_get, IsSomeAnd}
use Rattle.std.specs.Option.{option_map}
use Rattle.eden_disk.specs.declared.disk.ImageMode.{ImageMode}
use Rattle.eden_model.specs.Map.{with_item}
use Rattle.epl_syntax.specs.Rules.OfTypes.{TypeList}
use Rattle.invocation.specs.Mail.{Mail}
use Rattle.invocation.specs.Carries.{Carries, no_traffic}
use Rattle.locator.specs.Reach.{up_at, joined_at}
use Rattle.passive_store.specs.Kept.{Layout, doubt_in}
use Rattle.passive_store.specs.Seen.{Seen, DiskSeen}
use Rattle.passive_store.specs.declared.store.Doubt.{Doubt}
use Rattle.journal.specs.World.{Site}
use Rattle.journal.specs.declared.event.Entry.{Entry}
use Rattle.journal.specs.declared.event.Event.TheVariants as event
use Rattle.checkpoint.specs.Asked.{noted_in}
use Rattle.disk_faults.specs.Shows.{IsLeftOf, ShowsCounts}
use Rattle.disk_faults.specs.Runs.{EntryShows}
use Rattle.eden_kernel.specs.Stands.{Held, held, NodeStands}
use Rattle.eden_kernel.specs.Turns.{Crashes}
use Rattle.scheduled_node.specs.declared.ScheduledNode.{ScheduledNode}
use Rattle.shell_names.specs.Names.{meanings}
use Rattle.eden_world.specs.Steps.{disk_of}
use Rattle.eden_world.specs.Worlds.{Seat, IsNumber}
use Rattle.eden_world.specs.InHand.{place_at, seen_at, AreWhole}
use Rattle.eden_world.specs.declared.seats.Seat.{Seat as Place}
use Rattle.eden_world.specs.declared.seats.Seat.TheVariants as place
use Rattle.eden_world.specs.declared.World.{World as Program}

-- 1. What stands at a place

-- the node that is up there, if one is
abbrev pub station_in : {T D : Type 0} → Option (Place T D) → Option (ScheduledNode T D)
station_in None = None
station_in (Some (place.Up s)) = Some s
station_in (Some (place.Down d doubt)) = None
station_in (Some place.Moving) = None

-- the node that is up at the place of this number, if one is
abbrev pub station_at : {T D : Type 0} → Program T D → ℕ → Option (ScheduledNode T D)
station_at p n = station_in (place_at p n)

-- the clock of the disk there; 0 where there is none
abbrev pub clock_in : Option Seat → ℕ
clock_in s = with_item s (λ (x : Seat). (disk_of x).counts.clock) 0

-- at no place does a node come up or go down
abbrev pub AreSeated : {T D : Type 0} → Program T D → Type 0
AreSeated p = (n : ℕ) → place_at p n ≢ Some place.Moving

-- what is seen of the disk there
abbrev pub shown_in : {T D : Type 0} → (T → Seen) → (D → DiskSeen) → Place T D → Option DiskSeen
shown_in seen look s = option_map disk_of (seen_at seen look (Some s))

-- how many calls were asked
abbrev pub asked_in : {T D : Type 0} → Program T D → ℕ
asked_in p = length p.calls.calls

-- 2. What becomes of one place

-- there are eight places at most, and the links know of eight
pub record HasPlaces {T D : Type 0} (p : Program T D) : Type 0 where
  pub seats : length p.seats.items ≤ 8
  pub nodes : p.places.nodes ≡ 8

-- Nothing changed but what stands at the places, and there are as many.
pub record KeepsRest {T D : Type 0} (old new : Program T D) : Type 0 where
  pub count : length new.seats.items ≡ length old.seats.items
  pub types : new.types ≡ old.types
  pub calls : new.calls ≡ old.calls
  pub places : new.places ≡ old.places
  pub names : new.names ≡ old.names

-- where there is a place, this stands there in the place of what did
abbrev pub instead : {T D : Type 0} → Place T D → Option (Place T D) → Option (Place T D)
instead new None = None
instead new (Some old) = Some new

-- This stands at the place of the number from now on, if there is such a place, and nothing else changed.
pub record TakesPlace {T D : Type 0} (n : ℕ) (new_seat : Place T D) (old new : Program T D) : Type 0 where
  pub here : place_at new n ≡ instead new_seat (place_at old n)
  pub others : (m : ℕ) → (m == n) ≡ false → place_at new m ≡ place_at old m
  pub rest : KeepsRest old new

-- 3. A node goes down

-- by a crash: the disk without power, and what was in doubt there
pub record IsCrashed (tells obeys : Bool) (layout : Layout) (h : Held) (noted : Option Doubt) (d : DiskSeen) : Type 0 where
  pub counts : d.counts ≡ record h.seen.disk.counts { power = false }
  pub due : d.due ≡ h.seen.disk.due
  pub shows : ShowsCounts obeys h.number (event.Crash h.number) h.seen.disk d
  pub turn : IsTrue tells → (ts : TypeList) (m : Mail) (s : Site) → NodeStands layout ts h m s → Crashes layout h s noted d.counts d.told

-- as its disk stopped: the disk as it is, and what was in doubt there
pub record IsClosed (tells : Bool) (h : Held) (noted : Option Doubt) (d : DiskSeen) : Type 0 where
  pub disk : d ≡ h.seen.disk
  pub doubt : IsTrue tells → noted ≡ noted_in (doubt_in h.seen.work) h.seen.kept

-- one or the other
abbrev pub IsLeft : Bool → Bool → Layout → Option ImageMode → Held → Option Doubt → DiskSeen → Type 0
IsLeft tells obeys layout None h noted d = IsClosed tells h noted d
IsLeft tells obeys layout (Some mode) h noted d = IsCrashed tells obeys layout h noted d

-- what stands at the place of a node that went down
pub record Vacates {T D : Type 0} (tells obeys : Bool) (layout : Layout) (seen : T → Seen) (look : D → DiskSeen) (mode : Option ImageMode)
    (s : ScheduledNode T D) (after : Option (Place T D)) : Type 0 where
  pub disk : D
  pub noted : Option Doubt
  pub there : after ≡ Some (place.Down disk noted)
  pub left : IsLeft tells obeys layout mode (held seen s.node) noted (look disk)

-- 4. Before the first event

-- the disk that was handed in for the number
abbrev pub first_place : {T D : Type 0} → List D → ℕ → Option (Place T D)
first_place disks zero = None
first_place disks (suc n) = option_map (λ d. place.Down d None) (slice_get disks n)

-- These types, no call and no name; all nodes down, each with the disk that was handed in for it; and all links joined.
pub record Begins {T D : Type 0} (ts : TypeList) (disks : List D) (p : Program T D) : Type 0 where
  pub types : p.types ≡ ts
  pub seats : (n : ℕ) → place_at p n ≡ first_place disks n
  pub calls : Carries p.calls no_traffic
  pub ups : (n : ℕ) → up_at p.places n ≡ (n == 0)
  pub links : (a b : ℕ) → a ≤ 8 → b ≤ 8 → joined_at p.places a b ≡ true
  pub names : (name : List ℕ) → meanings p.names name ≡ None

-- 5. At the end

-- the disks in the order of their places, each as it was seen there
abbrev pub AreGiven : {T D : Type 0} → (T → Seen) → (D → DiskSeen) → Program T D → List D → Type 0
AreGiven seen look p disks = (n : ℕ) → option_map look (slice_get disks n) ≡ option_map disk_of (seen_at seen look (place_at p (suc n)))

-- 6. The whole, and what an entry shows of the disks

-- its parts fit together: eight places at most, at none of which a node comes up or goes down, and nodes whose parts fit together
pub record FitsTogether {T D : Type 0} (seen : T → Seen) (p : Program T D) : Type 0 where
  pub nodes : AreWhole seen p
  pub places : HasPlaces p
  pub seated : AreSeated p

-- each of its places, of which there are eight at most, has its disk
pub record IsSeated {T D : Type 0} (p : Program T D) : Type 0 where
  pub places : HasPlaces p
  pub seated : AreSeated p

-- of what stands at a place before and behind: where there is a disk there is one behind, of which this holds; and there is no other
abbrev pub StaysSo : (DiskSeen → DiskSeen → Type 0) → Option Seat → Option Seat → Type 0
StaysSo P None new = new ≡ None
StaysSo P (Some a) new = IsSomeAnd new (λ b. P (disk_of a) (disk_of b))

-- No memory was found: each disk is at its place, no count of it fell, and if it obeys it is armed as before.
pub record KeepsDisks {T D : Type 0} (obeys : Bool) (seen : T → Seen) (look : D → DiskSeen) (old new : Program T D) : Type 0 where
  pub places : HasPlaces new
  pub seated : AreSeated new
  pub left : (n : ℕ) → IsNumber n → StaysSo (IsLeftOf obeys) (seen_at seen look (place_at old n)) (seen_at seen look (place_at new n))

-- what is shown of a disk was due, if it tells and obeys
abbrev pub heeds : Bool → Bool → Bool
heeds tells obeys = cond tells obeys false

-- of the disk at each place, by what is seen of it before and behind it
abbrev pub EachShows : {T D : Type 0} → Bool → (T → Seen) → (D → DiskSeen) → Program T D → Entry → Program T D → Type 0
EachShows obeys seen look old e new = (n : ℕ) → IsNumber n
    → StaysSo (EntryShows obeys n e) (seen_at seen look (place_at old n)) (seen_at seen look (place_at new n))
