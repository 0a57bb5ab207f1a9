-- What a node keeps in hand of its Ejects, and when that stands for its part of a world.
use Rattle.std.specs.Prelude.{◌≡◌, ℕ, Bool, false, List, [], Option, None, Some, is_some, IsSomeAnd}
use Rattle.std.specs.List.{AllByRecursion}
use Rattle.std.specs.Option.{option_map}
use Rattle.capability.specs.declared.Uid.{Uid}
use Rattle.eden_model.specs.Map.{value_at, uid_cmp}
use Rattle.eden_model.specs.Crew.{Invocation}
use Rattle.eden_model.specs.Traffic.{Traffic, call_at}
use Rattle.epl_syntax.specs.Edentype.{Edentype}
use Rattle.eject_table.specs.Table.{active_in}
use Rattle.active_part.specs.Body.{Body, active_of, calls_of}
use Rattle.invocation.specs.Mail.{Mail}
use Rattle.invocation.specs.Carries.{Carries}
use Rattle.journal.specs.World.{Active, Eject, Site, eject_in}
use Rattle.journal.specs.Ejects.{is_there, stored_epoch}
use Rattle.journal.specs.Processes.{class_of}
use Rattle.journal.specs.declared.event.Event.{Event}
use Rattle.journal.specs.Step.{AllowsAt, site_turn}
use Rattle.journal.specs.Sites.{IsSoundSite}

-- A node in one epoch, with the types of its script and the last serial that it gave. How each Eject stands, with its active part,
-- with none where it is passive, or not at all; and the queues of the passive ones.
pub record Parts : Type 0 where
  pub number : ℕ
  pub types : List Edentype
  pub epoch : ℕ
  pub last_serial : ℕ
  pub standing : Uid → Option (Option Body)
  pub waiting : List (Uid × List ℕ)

-- both are of the same node, types, epoch and last serial
pub record SameNode (n new : Parts) : Type 0 where
  pub number : new.number ≡ n.number
  pub types : new.types ≡ n.types
  pub epoch : new.epoch ≡ n.epoch
  pub last_serial : new.last_serial ≡ n.last_serial

-- what is known of an Eject apart from what its disk keeps; one that is gone is as one that never was
pub record Known : Type 0 where
  pub active : Option Active
  pub queued : List ℕ
  pub there : Bool

-- what is known by the Eject that a world has; of none, that it is not active, has no queue and is not there
abbrev pub known : Option Eject → Known
known None = record { active = None; queued = []; there = false }
known (Some e) = record { active = e.active; queued = e.queued; there = is_there e }

-- the active part of an Eject, if it has one
abbrev pub body_at : Parts → Uid → Option Body
body_at n u = active_in (n.standing u)

-- the queue that was looked up, empty where none was found
abbrev pub queue_in : Option (List ℕ) → List ℕ
queue_in None = []
queue_in (Some ks) = ks

-- the calls in the queue of an active part; where there is none, those that wait for an activation
abbrev pub queue_of : Option Body → Option (List ℕ) → List ℕ
queue_of (Some b) waiting = calls_of b.crew.queued
queue_of None waiting = queue_in waiting

-- the calls that are queued at an Eject of the node
abbrev pub queue_at : Parts → Uid → List ℕ
queue_at n u = queue_of (body_at n u) (value_at uid_cmp u n.waiting)

-- what the parts know of an Eject; it is there where it stands active or passive
abbrev pub held_of : Parts → Uid → Known
held_of n u = record { active = option_map active_of (body_at n u); queued = queue_at n u; there = is_some (n.standing u) }

-- each queued invocation has the class of its call's operation
abbrev pub HasClass : Traffic → Edentype → Invocation → Type 0
HasClass t kind i = IsSomeAnd (call_at t i.call) (λ c. i.class ≡ class_of kind c)

-- so has each invocation in the queue of an active part, where there is one
abbrev pub HasClasses : Traffic → Option Body → Type 0
HasClasses t None = Unit {0}
HasClasses t (Some b) = AllByRecursion (HasClass t b.kind) b.crew.queued

-- The parts stand for the site, whatever its disk keeps.
pub record Stands (n : Parts) (s : Site) : Type 0 where
  pub number : s.number ≡ n.number
  pub types : s.types ≡ n.types
  pub epoch : stored_epoch s.node ≡ n.epoch
  pub serial : s.node.last_serial ≡ n.last_serial
  pub ejects : (u : Uid) → known (eject_in s u) ≡ held_of n u
  pub classes : (u : Uid) → HasClasses s.traffic (body_at n u)

-- The parts and the calls stand for the site.
pub record IsAt (n : Parts) (m : Mail) (s : Site) : Type 0 where
  pub parts : Stands n s
  pub calls : Carries m s.traffic

-- At every sound site for which the old parts and calls stand, the event is allowed, and the new ones stand for the site after it.
pub record IsStep (reach : ℕ → Bool) (new : Parts) (later : Mail) (s : Site) (e : Event) : Type 0 where
  pub allowed : AllowsAt s e
  pub is_at : IsAt new later (site_turn reach e s)

-- the event takes the old parts and calls to the new ones, at each sound site for which the old ones stand
abbrev pub Steps : (ℕ → Bool) → Parts → Mail → Parts → Mail → Event → Type 0
Steps reach old m new later e = (s : Site) → IsSoundSite s → IsAt old m s → IsStep reach new later s e
