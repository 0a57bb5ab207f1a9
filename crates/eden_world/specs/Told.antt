-- A node fell, or a link was cut: the processes elsewhere whose calls broke are told, one behind the other.
use Rattle.std.specs.Prelude.{◌≡◌, ◌==◌, ◌≤◌, ℕ, Bool, false, cond, List, ◌++◌, map, Option, None, Some, IsSomeAnd}
use Rattle.std.specs.List.{filter_map, AllByRecursion}
use Rattle.std.specs.Option.{option_map}
use Rattle.capability.specs.declared.Uid.{Uid}
use Rattle.epl_syntax.specs.Rules.OfTypes.{TypeList}
use Rattle.eden_model.specs.Map.{with_item}
use Rattle.eden_model.specs.Traffic.{Traffic, waiting_process, shell_name, numbers_of, broken_by_node, broken_by_link, without_node}
use Rattle.eden_model.specs.Traffic.{without_link}
use Rattle.invocation.specs.Mail.{Mail}
use Rattle.invocation.specs.Carries.{Carries}
use Rattle.invocation.specs.Numbers.{item_in}
use Rattle.locator.specs.Reach.{Stations, up_at, joined_at, same_link}
use Rattle.passive_store.specs.declared.store.Doubt.{Doubt}
use Rattle.passive_store.specs.Kept.{Layout}
use Rattle.passive_store.specs.Seen.{DiskSeen}
use Rattle.journal.specs.declared.event.Entry.{Entry}
use Rattle.journal.specs.declared.event.Key.{Key}
use Rattle.journal.specs.World.{World, Site, Node, Eject, node_at, site_of, eject_in}
use Rattle.journal.specs.Crashes.{tells_each}
use Rattle.journal.specs.Sites.{active_in}
use Rattle.journal.specs.Step.{counted, clocked}
use Rattle.ejects.specs.Marks.{IsLoose, IsLooseIn}
use Rattle.ejects.specs.Parts.{body_at}
use Rattle.ejects.specs.View.{parts_of}
use Rattle.eden_kernel.specs.Stands.{Held, IsWhole, NodeStands}
use Rattle.eden_kernel.specs.Turns.{told_broken}
use Rattle.eden_world.specs.Worlds.{Seat, up, down, InHand, WorldStands, AreNumbers}
use Rattle.eden_world.specs.Steps.{disk_of}

-- 1. What changed in hand

-- Another stands at the place of node n; the types and the names are as they were.
pub record Reseats (n : ℕ) (seat : Seat) (old new : InHand) : Type 0 where
  pub types : new.types ≡ old.types
  pub here : new.seats n ≡ Some seat
  pub others : (m : ℕ) → (m == n) ≡ false → new.seats m ≡ old.seats m
  pub names : (name : List ℕ) → new.names name ≡ old.names name

-- the node is known to be up, or down, from now on, and no link is changed
pub record SetsUp (n : ℕ) (up : Bool) (old new : Stations) : Type 0 where
  pub ups : (m : ℕ) → up_at new m ≡ cond (m == n) up (up_at old m)
  pub joined : new.joined ≡ old.joined

-- no disk was touched
abbrev pub SameDisks : InHand → InHand → Type 0
SameDisks old new = (m : ℕ) → option_map disk_of (new.seats m) ≡ option_map disk_of (old.seats m)

-- 2. The calls that broke, by their numbers

-- the process that waits for the call of this number, if one does
abbrev pub waiting_at : Mail → ℕ → Option (Uid × ℕ)
waiting_at m k = with_item (item_in k m.calls) (λ c. waiting_process c.asker) None

-- the name under which the shell made it, if it did
abbrev pub name_at : Mail → ℕ → Option (List ℕ)
name_at m k = with_item (item_in k m.calls) (λ c. shell_name c.asker) None

-- 3. A node goes down

-- What a fall of a node that was up leaves in hand before anybody is told: its disk with what was noted of its doubt, the places that know
-- it, and the calls without the node; and the numbers of the calls that broke.
pub record Fell (n : ℕ) (a : Held) (noted : Option Doubt) (d : DiskSeen) (numbers : List ℕ) (old new : InHand) : Type 0 where
  pub was_up : old.seats n ≡ Some (up a)
  pub seats : Reseats n (down noted d) old new
  pub places : SetsUp n false old.places new.places
  pub calls : (t : Traffic) → Carries old.mail t → (numbers ≡ numbers_of (broken_by_node n) t) × Carries new.mail (without_node n t)

-- What an entry shows: whose disk it touched (0 for none), the clock of that disk, and the names of the shell's calls that it broke.
pub record EntryShows (n shown : ℕ) (names : List (List ℕ)) (e : Entry) : Type 0 where
  pub node : e.node ≡ n
  pub clock : e.clock ≡ shown
  pub broken : e.broken ≡ names

-- What a cut of a link leaves in hand before anybody is told: the places that know it, and the calls without the link; and the numbers of
-- the calls that broke.
pub record Cuts (a b : ℕ) (numbers : List ℕ) (old new : InHand) : Type 0 where
  pub types : new.types ≡ old.types
  pub seats : (m : ℕ) → new.seats m ≡ old.seats m
  pub names : (name : List ℕ) → new.names name ≡ old.names name
  pub up : new.places.up ≡ old.places.up
  pub links : (x y : ℕ) → x ≤ 8 → y ≤ 8 → joined_at new.places x y ≡ cond (same_link a b x y) false (joined_at old.places x y)
  pub calls : (t : Traffic) → Carries old.mail t → (numbers ≡ numbers_of (broken_by_link a b) t) × Carries new.mail (without_link a b t)

-- 4. One process is told

-- The Eject is active, and this process of it stands in no queue of a monitor or a condition.
abbrev pub IsLooseAt : Option Eject → ℕ → Type 0
IsLooseAt o p = IsSomeAnd (active_in o) (λ it. IsLoose it.crew p)

-- It is of no node that fell, and where it has a node its Eject is active there, and it stands in no queue.
abbrev pub CanBeTold : ℕ → World → Uid × ℕ → Type 0
CanBeTold n w q = (it : Node) → node_at w q.0.node ≡ Some it
    → ((q.0.node == n) ≡ false) × IsLooseAt (eject_in (site_of w q.0.node it) q.0) q.1

-- the node was told, and nothing else of it changed
pub record IsToldNode (layout : Layout) (u : Uid) (p : ℕ) (old new : Held) : Type 0 where
  pub whole : IsWhole new
  pub seen : new.seen ≡ old.seen
  pub stands : (ts : TypeList) (m : Mail) (s : Site) → IsLooseIn (body_at (parts_of ts old.ejects) u) p → NodeStands layout ts old m s
      → NodeStands layout ts new m (told_broken u p s)

-- 5. All of them

-- the world once the turn of an entry is counted and its clock is noted
abbrev pub marked : Option Key → ℕ → ℕ → World → World
marked key n clock w = counted key (clocked n clock w)

-- On the way from a fall of node n, or from a cut (n is 0 then): the askers of the calls of these numbers are still to be told. What is in
-- hand stands for a world in which those before them were told, and once they are told too the world is the last one.
pub record IsTelling (layout : Layout) (more : ℕ) (key : Option Key) (n clock : ℕ) (last : World) (h : InHand) (left : List ℕ) : Type 0
  where
    pub world : World
    pub numbers : AreNumbers (map (λ e. e.0) world.nodes)
    pub stands : WorldStands layout more h (marked key n clock world)
    pub can : AllByRecursion (CanBeTold n world) (filter_map (waiting_at h.mail) left)
    pub ends : tells_each (filter_map (waiting_at h.mail) left) world ≡ last

-- The loop over the numbers of the calls that broke: from what was in hand at its start, these are left, and these names of the shell's
-- calls were listed. No disk was touched.
pub record Tells (layout : Layout) (start now : InHand) (numbers left : List ℕ) (names : List (List ℕ)) : Type 0 where
  pub on : (more : ℕ) (key : Option Key) (n clock : ℕ) (last : World) → IsTelling layout more key n clock last start numbers
      → IsTelling layout more key n clock last now left
  pub mail : now.mail ≡ start.mail
  pub disks : SameDisks start now
  pub listed : names ++ filter_map (name_at start.mail) left ≡ filter_map (name_at start.mail) numbers
