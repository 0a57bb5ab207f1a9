-- What the program has in hand, as it is seen, and for which worlds it stands.
use Rattle.std.specs.Prelude.{◌≡◌, ℕ, zero, suc, Bool, IsTrue, Option, None, Some, slice_get}
use Rattle.passive_store.specs.Kept.{Layout}
use Rattle.passive_store.specs.Layout.{IsLayout}
use Rattle.passive_store.specs.Seen.{Seen, DiskSeen}
use Rattle.checkpoint.specs.Touches.{ReadsByCalls}
use Rattle.journal.specs.World.{World}
use Rattle.journal.specs.Run.{Step}
use Rattle.ejects.specs.View.{parts_of}
use Rattle.agenda.specs.Keys.{IsAgenda}
use Rattle.agenda.specs.Indexed.{indices_of}
use Rattle.eden_kernel.specs.Stands.{held, IsWhole}
use Rattle.scheduled_node.specs.declared.ScheduledNode.{ScheduledNode}
use Rattle.shell_names.specs.Names.{meanings}
use Rattle.eden_world.specs.Steps.{EachDisk, EachEnds}
use Rattle.eden_world.specs.Worlds.{Seat, up, down, InHand, WorldStands}
use Rattle.eden_world.specs.declared.seats.Seat.{Seat as Place}
use Rattle.eden_world.specs.declared.seats.Seat.TheVariants as place
use Rattle.eden_world.specs.declared.World.{World as Program}

-- 1. The places

-- what stands at the place of a number, counted from 1
abbrev pub place_at : {T D : Type 0} → Program T D → ℕ → Option (Place T D)
place_at p zero = None
place_at p (suc n) = slice_get p.seats.items n

-- as it is seen; nothing while a node comes up or goes down
abbrev pub seen_at : {T D : Type 0} → (T → Seen) → (D → DiskSeen) → Option (Place T D) → Option Seat
seen_at seen disk None = None
seen_at seen disk (Some (place.Up s)) = Some (up (held seen s.node))
seen_at seen disk (Some (place.Down d doubt)) = Some (down doubt (disk d))
seen_at seen disk (Some place.Moving) = None

-- 2. The whole

-- the program by what is seen of it: the places and the names by look-up, its types, calls and stations as they are
abbrev pub in_hand : {T D : Type 0} → (T → Seen) → (D → DiskSeen) → Program T D → InHand
in_hand seen disk p = record {
  types = p.types;
  seats = λ n. seen_at seen disk (place_at p n);
  mail = p.calls;
  places = p.places;
  names = meanings p.names;
}

-- the parts of this node fit together, and its number is that of its place
pub record IsWholeAt {T D : Type 0} (seen : T → Seen) (n : ℕ) (s : ScheduledNode T D) : Type 0 where
  pub whole : IsWhole (held seen s.node)
  pub number : s.node.number ≡ n

-- every node that is up has parts that fit together, and stands at its own place
abbrev pub AreWhole : {T D : Type 0} → (T → Seen) → Program T D → Type 0
AreWhole seen p = (n : ℕ) (s : ScheduledNode _ _) → place_at p n ≡ Some (place.Up s) → IsWholeAt seen n s

-- each node that is up has the agenda of its turns
abbrev pub HaveAgendas : {T D : Type 0} → Program T D → Type 0
HaveAgendas p = (n : ℕ) (s : ScheduledNode _ _) → place_at p n ≡ Some (place.Up s)
    → IsAgenda (indices_of s.agenda) (parts_of p.types s.node.ejects)

-- It stands for the world, over disks that tell, with the room of each store told for so many more changes.
pub record Stands {T D : Type 0} (tells : Bool) (layout : Layout) (seen : T → Seen) (disk : D → DiskSeen) (p : Program T D) (more : ℕ)
    (w : World) : Type 0 where
  pub telling : IsTrue tells
  pub its_layout : IsLayout layout
  pub reads : ReadsByCalls layout
  pub world : WorldStands layout more (in_hand seen disk p) w
  pub agendas : HaveAgendas p

-- 3. What an entry did to its disks, and shows of them

-- each disk did what it may in a step
abbrev pub Did : {T D : Type 0} → Layout → (T → Seen) → (D → DiskSeen) → Program T D → Step → Program T D → Type 0
Did layout seen disk old s new = EachDisk layout s (in_hand seen disk old) (in_hand seen disk new)

-- and behind the last entry, where memory was wanting; the room of what is left is told for so many changes
abbrev pub Ends : {T D : Type 0} → Layout → (T → Seen) → (D → DiskSeen) → Program T D → ℕ → World → Program T D → Type 0
Ends layout seen disk old more w new = EachEnds layout more w (in_hand seen disk old) (in_hand seen disk new)
