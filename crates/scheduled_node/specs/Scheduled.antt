-- A node with the agenda of its turns: when both stand for a site, and what a turn does.
use Rattle.std.specs.Prelude.{◌≡◌, ℕ, Bool, Option, None, Some, Result, Ok, Err}
use Rattle.epl_syntax.specs.Edentype.{Edentype}
use Rattle.capability.specs.declared.Uid.{Uid}
use Rattle.eden_value.specs.declared.status.Status.{Status}
use Rattle.epl_syntax.specs.Rules.OfTypes.{TypeList}
use Rattle.invocation.specs.Mail.{Mail}
use Rattle.passive_store.specs.Kept.{Layout}
use Rattle.passive_store.specs.Seen.{Seen}
use Rattle.journal.specs.declared.event.Event.{Event}
use Rattle.journal.specs.declared.event.Key.{Key}
use Rattle.journal.specs.World.{Site}
use Rattle.journal.specs.Step.{key_of}
use Rattle.ejects.specs.View.{parts_of}
use Rattle.agenda.specs.Keys.{Indices, IsAgenda}
use Rattle.agenda.specs.Indexed.{indices_of}
use Rattle.eden_kernel.specs.Stands.{Held, held, NodeStands}
use Rattle.eden_kernel.specs.Creations.{NodeCreates}
use Rattle.eden_kernel.specs.DiskTurns.{EndsTurn, Stops}
use Rattle.eden_kernel.specs.Turns.{Turns}
use Rattle.eden_kernel.specs.declared.stores.TurnEnd.{TurnEnd}
use Rattle.eden_kernel.specs.declared.stores.TurnEnd.TheVariants.{Up, Down}
use Rattle.scheduled_node.specs.declared.ScheduledNode.{ScheduledNode}

-- a node as it is held, with the indices of its agenda
pub record Manned : Type 0 where
  pub node : Held
  pub agenda : Indices

-- by what is seen of a store of its type
abbrev pub manned : {T D : Type 0} → (T → Seen) → ScheduledNode T D → Manned
manned seen s = record { node = held seen s.node; agenda = indices_of s.agenda }

-- The node and the calls stand for the site, and the agenda has exactly the Ejects that may take a turn of their own.
pub record ScheduledStands (layout : Layout) (ts : TypeList) (h : Manned) (m : Mail) (s : Site) : Type 0 where
  pub node : NodeStands layout ts h.node m s
  pub agenda : IsAgenda h.agenda (parts_of ts h.node.ejects)

-- The event is the node's turn at the site, and the agenda stands behind it.
pub record ScheduledTurns (layout : Layout) (ts : TypeList) (new : Manned) (later : Mail) (reach : ℕ → Bool) (old : Manned) (s : Site)
    (e : Event) : Type 0 where
  pub turn : Turns layout ts new.node later reach old.node s e
  pub agenda : IsAgenda new.agenda (parts_of ts new.node.ejects)

-- a turn in which the disk is called: the node goes on, or its disk stopped
abbrev pub EndsScheduledTurn : TurnEnd → Layout → TypeList → Manned → Mail → (ℕ → Bool) → Manned → Site → Event → Type 0
EndsScheduledTurn Up layout ts new later reach old s e = ScheduledTurns layout ts new later reach old s e
EndsScheduledTurn Down layout ts new later reach old s e = Stops layout new.node reach old.node s e

-- The turn of a key at the node, whose event has that key.
pub record KeyEnds (how : TurnEnd) (layout : Layout) (ts : TypeList) (new : Held) (later : Mail) (reach : ℕ → Bool) (old : Held)
    (s : Site) (e : Event) (k : Key) : Type 0 where
  pub turn : EndsTurn how layout ts new later reach old s e
  pub key : key_of e ≡ Some k

-- The turn of a key, whose event has that key.
pub record KeyTurns (how : TurnEnd) (layout : Layout) (ts : TypeList) (new : Manned) (later : Mail) (reach : ℕ → Bool) (old : Manned)
    (s : Site) (e : Event) (k : Key) : Type 0 where
  pub turn : EndsScheduledTurn how layout ts new later reach old s e
  pub key : key_of e ≡ Some k

-- an Eject was created, and the agenda stands behind it
pub record ScheduledCreates (layout : Layout) (ts : TypeList) (old new : Manned) (m : Mail) (t : Edentype) (made : Result Uid Status)
    (s : Site) : Type 0 where
  pub creation : NodeCreates layout ts old.node new.node m t made s
  pub agenda : IsAgenda new.agenda (parts_of ts new.node.ejects)

-- the uid of a new Eject, if there is one
abbrev pub uid_made : Result Uid Status → Option Uid
uid_made (Ok u) = Some u
uid_made (Err why) = None
