-- A node takes the turn of a key in its place.
use Rattle.std.specs.Prelude.{◌≡◌, ◌==◌, ◌≤◌, ◌+◌, ℕ, Bool, false, length, IsTrue, None, Some}
use Rattle.epl_syntax.specs.Rules.OfTypes.{TypeList}
use Rattle.invocation.specs.Mail.{Mail}
use Rattle.locator.specs.Reach.{Stations}
use Rattle.passive_store.specs.Kept.{Layout}
use Rattle.passive_store.specs.Layout.{IsLayout}
use Rattle.passive_store.specs.Seen.{Seen}
use Rattle.journal.specs.declared.event.Event.{Event}
use Rattle.journal.specs.declared.event.Key.{Key}
use Rattle.journal.specs.Sites.{IsSoundSite}
use Rattle.journal.specs.World.{Site}
use Rattle.checkpoint.specs.Touches.{ReadsByCalls}
use Rattle.disk_faults.specs.Shows.{IsLeftOf, ShowsCounts}
use Rattle.ejects.specs.Creations.{MayTurn}
use Rattle.ejects.specs.Replies.{Reaches}
use Rattle.eden_kernel.specs.DiskTurns.{IsWholeBehind, Starves}
use Rattle.eden_kernel.specs.Stands.{held, NodeStands}
use Rattle.eden_kernel.specs.Turns.{clock_of}
use Rattle.eden_kernel.specs.declared.stores.TurnEnd.{TurnEnd}
use Rattle.eden_kernel.specs.declared.stores.TurnEnd.TheVariants as turn_end
use Rattle.scheduled_node.specs.Keys.{IsKeyOf}
use Rattle.scheduled_node.specs.Scheduled.{manned, ScheduledStands, KeyTurns}
use Rattle.scheduled_node.specs.Touched.{IsNodeTurn, TurnTouches, ShowsClock}
use Rattle.scheduled_node.specs.declared.ScheduledNode.{ScheduledNode}
use Rattle.eden_world.specs.InHand.{place_at}
use Rattle.eden_world.specs.Seated.{station_in}
use Rattle.eden_world.specs.declared.World.{World as Program}
use Rattle.eden_world.specs.declared.seats.Seat.{Seat as Place}
use Rattle.eden_world.specs.declared.seats.Seat.TheVariants as place
use Rattle.eden_world.specs.declared.turns.TurnTaken.{TurnTaken}

-- 1. What the node says of its turn

-- of the room, of its device calls, and of the site
pub record TurnSays {T D : Type 0} (how : TurnEnd) (tells : Bool) (layout : Layout) (seen : T → Seen) (s t : ScheduledNode T D)
    (ts : TypeList) (m : Mail) (places : Stations) (later : Mail) (key : Key) (ev : Event) : Type 0 where
  pub whole : IsWholeBehind how (held seen t.node)
  pub room : IsTrue tells → (site : Site) → 1 ≤ (seen s.node.store).more → NodeStands layout ts (held seen s.node) m site
      → (seen s.node.store).more ≤ (seen t.node.store).more + 1
  pub touches : IsTrue tells → ReadsByCalls layout → (site : Site) → 1 ≤ (seen s.node.store).more
      → NodeStands layout ts (held seen s.node) m site
      → TurnTouches site ev (seen s.node.store).disk (seen t.node.store).disk
  pub clock : ShowsClock ev (seen t.node.store).disk.counts.clock
  pub turn : IsTrue tells → IsLayout layout → (reach : ℕ → Bool) (site : Site) → IsKeyOf site.number key
      → Reaches reach places site.number → IsSoundSite site → MayTurn site → 1 ≤ (seen s.node.store).more
      → ScheduledStands layout ts (manned seen s) m site
      → KeyTurns how layout ts (manned seen t) later reach (manned seen s) site ev key

-- The turn took the node from s to t, and the calls to those that are later.
pub record NodeTurned {T D : Type 0} (tells obeys : Bool) (layout : Layout) (seen : T → Seen) (s t : ScheduledNode T D) (ts : TypeList)
    (m : Mail) (places : Stations) (later : Mail) (key : Key) (taken : TurnTaken) : Type 0 where
  pub says : TurnSays taken.end tells layout seen s t ts m places later key taken.event
  pub number : t.node.number ≡ s.node.number
  pub event : IsNodeTurn s.node.number taken.event
  pub shows : ShowsCounts obeys s.node.number taken.event (seen s.node.store).disk (seen t.node.store).disk
  -- no call knows yet of a disk that stopped
  pub calls : taken.end ≡ turn_end.Down → later ≡ m
  -- the clocks of its disk
  pub before : taken.before ≡ clock_of (held seen s.node)
  pub after : taken.after ≡ clock_of (held seen t.node)

-- 2. At a place

-- a node that was up there took its turn, and stands there
pub record TurnsThere {T D : Type 0} (tells obeys : Bool) (layout : Layout) (seen : T → Seen) (ts : TypeList) (places : Stations)
    (key : Key) (taken : TurnTaken) (old : Place T D) (m : Mail) (new : Place T D) (later : Mail) : Type 0 where
  pub was : ScheduledNode T D
  pub now : ScheduledNode T D
  pub stood : old ≡ place.Up was
  pub stands : new ≡ place.Up now
  pub turned : NodeTurned tells obeys layout seen was now ts m places later key taken

-- there was no memory for the turn of the node that was up there: it stands there, and its disk is left
pub record StarvesUp {T D : Type 0} (tells obeys : Bool) (layout : Layout) (seen : T → Seen) (ts : TypeList) (m : Mail) (s : ScheduledNode T D)
    (new : Place T D) : Type 0 where
  pub now : ScheduledNode T D
  pub stands : new ≡ place.Up now
  pub left : IsLeftOf obeys (seen s.node.store).disk (seen now.node.store).disk
  pub starves : IsTrue tells → IsLayout layout → (site : Site) → IsSoundSite site → 1 ≤ (seen s.node.store).more
      → NodeStands layout ts (held seen s.node) m site → Starves layout site (seen s.node.store) (seen now.node.store)

-- or no node was up there, and nothing changed
pub record StarvesThere {T D : Type 0} (tells obeys : Bool) (layout : Layout) (seen : T → Seen) (ts : TypeList) (m : Mail)
    (old new : Place T D) : Type 0 where
  pub up : (s : ScheduledNode T D) → old ≡ place.Up s → StarvesUp tells obeys layout seen ts m s new
  pub idle : station_in (Some old) ≡ None → new ≡ old

-- 3. In a program

-- at place n stood the one, and the other stands there now; the calls went on, and nothing else changed
pub record Swaps {T D : Type 0} (n : ℕ) (a b : Place T D) (later : Mail) (old new : Program T D) : Type 0 where
  pub was : place_at old n ≡ Some a
  pub here : place_at new n ≡ Some b
  pub others : (m : ℕ) → (m == n) ≡ false → place_at new m ≡ place_at old m
  pub count : length new.seats.items ≡ length old.seats.items
  pub types : new.types ≡ old.types
  pub calls : new.calls ≡ later
  pub places : new.places ≡ old.places
  pub names : new.names ≡ old.names

-- the node at the place of the key took its turn there
pub record TurnsHere {T D : Type 0} (tells obeys : Bool) (layout : Layout) (seen : T → Seen) (key : Key) (taken : TurnTaken)
    (old new : Program T D) : Type 0 where
  pub was : ScheduledNode T D
  pub now : ScheduledNode T D
  pub swaps : Swaps key.station (place.Up was) (place.Up now) new.calls old new
  pub turned : NodeTurned tells obeys layout seen was now old.types old.calls old.places new.calls key taken
