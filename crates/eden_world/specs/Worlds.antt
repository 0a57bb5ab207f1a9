-- When the nodes, the calls and the names that a program has in hand stand for a world.
use Rattle.std.specs.Prelude.{◌≡◌, ◌⊎◌, ◌≤◌, ◌+◌, ℕ, zero, suc, ◌∷◌, [], List, map, not, Option, None, Some, IsSomeAnd}
use Rattle.epl_syntax.specs.Rules.OfTypes.{TypeList}
use Rattle.epl_syntax.specs.Meaning.{types_in}
use Rattle.invocation.specs.Mail.{Mail}
use Rattle.invocation.specs.Carries.{Carries}
use Rattle.locator.specs.Reach.{Stations, node_up_at, joined_at}
use Rattle.passive_store.specs.Kept.{Layout}
use Rattle.passive_store.specs.Seen.{DiskSeen}
use Rattle.passive_store.specs.declared.store.Doubt.{Doubt}
use Rattle.journal.specs.World.{World, Meaning, Site, Node, node_at, site_of, is_up, is_cut}
use Rattle.journal.specs.References.{meaning_of}
use Rattle.checkpoint.specs.Turns.{RestStands}
use Rattle.checkpoint.specs.BarredBoots.{Bar, BarStands}
use Rattle.eden_kernel.specs.Boots.{IsAsleep}
use Rattle.eden_kernel.specs.Stands.{Held, IsWhole, NodeStands}

-- 1. The places

-- what stands at a place: a node that is up, or the disk of one that is down, with what was in doubt there
pub data Seat : Type 0 where
  up : Held → Seat
  down : Option Doubt → DiskSeen → Seat

-- A node that is up, with the room of its store told for so many more changes.
pub record UpStands (layout : Layout) (ts : TypeList) (m : Mail) (more : ℕ) (s : Site) (h : Held) : Type 0 where
  pub number : h.number ≡ s.number
  pub whole : IsWhole h
  pub stands : NodeStands layout ts h m s
  pub told : more ≤ h.seen.more

-- the disk of one that is down can be opened, or there is a bar
abbrev pub DiskStands : Layout → ℕ → Site → Option Doubt → DiskSeen → Type 0
DiskStands layout more s noted d =
    ((told : ℕ) × (more ≤ told) × RestStands layout s.number told s noted d.counts.size d.counts.clock d.told)
    ⊎ ((bar : Bar) × (noted ≡ None) × BarStands layout s.number s bar d.counts.size d.counts.clock d.told)

-- A node that is down: none of its Ejects is active or has a queued call, and its disk can be opened or is barred.
pub record DownStands (layout : Layout) (more : ℕ) (s : Site) (noted : Option Doubt) (d : DiskSeen) : Type 0 where
  pub asleep : IsAsleep s
  pub disk : DiskStands layout more s noted d

-- what stands at a place stands for a site: a node that is up, or the disk of one that is down
abbrev pub SeatStands : Layout → TypeList → Mail → ℕ → Site → Seat → Type 0
SeatStands layout ts m more s (up h) = UpStands layout ts m more s h
SeatStands layout ts m more s (down noted d) = DownStands layout more s noted d

-- 2. The world

-- by the number of the node, from 1 to 8
abbrev pub Seats : Type 0
Seats = ℕ → Option Seat

-- what a program has in hand
pub record InHand : Type 0 where
  pub types : TypeList
  pub seats : Seats
  pub mail : Mail
  pub places : Stations
  pub names : List ℕ → Option Meaning

-- the number is that of a node
pub record IsNumber (n : ℕ) : Type 0 where
  pub first : 1 ≤ n
  pub last : n ≤ 8

-- so many numbers from one on, in ascending order
abbrev pub numbers_from : ℕ → ℕ → List ℕ
numbers_from k zero = []
numbers_from k (suc c) = k ∷ numbers_from (k + 1) c

-- these are the numbers of nodes, from 1 on, in ascending order: of one at least, and of eight at most
pub record AreNumbers (ns : List ℕ) : Type 0 where
  pub count : ℕ
  pub some : 1 ≤ count
  pub few : count ≤ 8
  pub are : ns ≡ numbers_from 1 count

-- It stands for the world, with the room of each store told for so many more changes.
pub record WorldStands (layout : Layout) (more : ℕ) (h : InHand) (w : World) : Type 0 where
  pub its_layout : w.layout ≡ layout
  pub its_types : w.types ≡ types_in h.types
  pub numbers : AreNumbers (map (λ e. e.0) w.nodes)
  pub nodes : (n : ℕ) (it : Node) → node_at w n ≡ Some it → IsSomeAnd (h.seats n) (SeatStands layout h.types h.mail more (site_of w n it))
  -- where the world has no node there is no place
  pub no_more : (n : ℕ) → node_at w n ≡ None → h.seats n ≡ None
  pub calls : Carries h.mail w.traffic
  -- which nodes are up, and which links are joined
  pub ups : (n : ℕ) → node_up_at h.places n ≡ is_up w n
  pub links : (a b : ℕ) → a ≤ 8 → b ≤ 8 → joined_at h.places a b ≡ not (is_cut w a b)
  pub names : (name : List ℕ) → meaning_of w name ≡ h.names name
