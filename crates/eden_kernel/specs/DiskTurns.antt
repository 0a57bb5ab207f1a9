-- Turns in which a node calls its disk: it goes on, or the disk stopped and the node is down.
use Rattle.std.specs.Prelude.{◌≡◌, ◌≤◌, ℕ, Bool, true, false, List, [], IsSomeAnd}
use Rattle.capability.specs.declared.Uid.{Uid}
use Rattle.eden_disk.specs.Calls.{Counts, DeviceCalls, End, Fine, AtFault, AtStop, one_more}
use Rattle.eden_value.specs.Datum.{Datum}
use Rattle.edentypes.specs.View.{kind_in}
use Rattle.epl_syntax.specs.Edentype.{Edentype}
use Rattle.eden_disk.specs.Told.{EachMoment}
use Rattle.eden_disk.specs.Timed.{Timed}
use Rattle.passive_store.specs.Seen.{Seen}
use Rattle.journal.specs.Standing.{Stands, with_changes}
use Rattle.checkpoint.specs.StoreStands.{state_of}
use Rattle.epl_syntax.specs.Rules.OfTypes.{TypeList}
use Rattle.invocation.specs.Mail.{Mail}
use Rattle.eden_model.specs.Map.{first}
use Rattle.passive_store.specs.Kept.{Layout, doubt_in}
use Rattle.journal.specs.declared.event.Event.{Event}
use Rattle.journal.specs.declared.event.Event.TheVariants as event
use Rattle.journal.specs.declared.event.RequestEnd.{RequestEnd}
use Rattle.journal.specs.declared.event.RequestEnd.TheVariants as end
use Rattle.journal.specs.declared.event.StartEnd.{StartEnd}
use Rattle.journal.specs.declared.event.StartEnd.TheVariants as start_end
use Rattle.journal.specs.World.{Site}
use Rattle.journal.specs.Step.{AllowsAt, site_turn}
use Rattle.checkpoint.specs.Asked.{noted_in}
use Rattle.checkpoint.specs.Calls.{MakesCalls}
use Rattle.checkpoint.specs.Queues.{left_in}
use Rattle.checkpoint.specs.Room.{KeepsRoom}
use Rattle.checkpoint.specs.Starting.{call_of_start}
use Rattle.checkpoint.specs.Turns.{with_clock}
use Rattle.checkpoint.specs.declared.worker.Request.{Request}
use Rattle.checkpoint.specs.declared.worker.Wish.{Wish}
use Rattle.checkpoint.specs.declared.worker.Wish.TheVariants.{Put, Delete}
use Rattle.checkpoint.specs.declared.worker.StoreEnd.{StoreEnd}
use Rattle.checkpoint.specs.declared.worker.StoreEnd.TheVariants as store_end
use Rattle.eden_kernel.specs.Boots.{IsAsleep}
use Rattle.eden_kernel.specs.Stands.{Held, IsWhole}
use Rattle.eden_kernel.specs.Turns.{Turns, Falls, clock_of}
use Rattle.edentypes.specs.declared.starting.Begun.{Begun}
use Rattle.eden_kernel.specs.declared.stores.TurnEnd.{TurnEnd}
use Rattle.eden_kernel.specs.declared.stores.TurnEnd.TheVariants.{Up, Down}

-- 1. A turn

-- The disk stopped: the event is allowed, all of the node's Ejects are passive, and its disk is all that is left, with the doubt that is
-- noted as it is closed.
pub record Stops (layout : Layout) (new : Held) (reach : ℕ → Bool) (old : Held) (s : Site) (e : Event) : Type 0 where
  pub allowed : AllowsAt s e
  pub falls : Falls layout old s (site_turn reach e s) new.seen.more (noted_in (doubt_in new.seen.work) new.seen.kept)
      new.seen.disk.counts new.seen.disk.told
  pub asleep : IsAsleep (with_clock (clock_of new) (site_turn reach e s))

-- the node goes on, or stops
abbrev pub EndsTurn : TurnEnd → Layout → TypeList → Held → Mail → (ℕ → Bool) → Held → Site → Event → Type 0
EndsTurn Up layout ts new later reach old s e = Turns layout ts new later reach old s e
EndsTurn Down layout ts new later reach old s e = Stops layout new reach old s e

-- the parts of a node that goes on fit together
abbrev pub IsWholeBehind : TurnEnd → Held → Type 0
IsWholeBehind Up h = IsWhole h
IsWholeBehind Down h = Unit {0}

-- The count of the disk's stops behind a turn: one more where the node is down, and else as it was. At the greatest number it stands still.
abbrev pub stops_behind : TurnEnd → ℕ → ℕ
stops_behind Up n = n
stops_behind Down n = one_more n

-- The disk stopped in the turn exactly where the node is down behind it.
abbrev pub StopsBy : TurnEnd → Counts → Counts → Type 0
StopsBy how before after = after.stops ≡ stops_behind how before.stops

-- There was no memory in the turn: a crash leaves at each moment of it what stood at the site before it, and behind it there is room for
-- all but one of the changes for which it was told.
pub record Starves (layout : Layout) (s : Site) (old new : Seen) : Type 0 where
  pub timed : Timed old.disk.counts.clock old.disk.told new.disk.counts.clock new.disk.told
  pub moments : EachMoment (Stands layout old.node (with_changes [] (state_of old.node s.node))) old.disk.told new.disk.told
  pub room : KeepsRoom layout old.node old.more new.disk.told

-- 2. A request of the store

-- how its last device call ended
abbrev pub call_of_request : RequestEnd → End
call_of_request end.Part = Fine
call_of_request end.Done = Fine
call_of_request end.Full = Fine
call_of_request end.Fault = AtFault
call_of_request end.Stop = AtStop

-- at most one device call, which ended so
pub record OneCallEnds (before after : Counts) (how : End) : Type 0 where
  pub made : ℕ
  pub most : made ≤ 1
  pub counts : DeviceCalls made before after how

-- The event of a turn of the store: it shows the clock of the disk, and a fault or a stop exactly where its device call ended so.
abbrev pub IsStoreTurn : Counts → Counts → Event → Type 0
IsStoreTurn before after (event.Store u clock how p) = (clock ≡ after.clock) × OneCallEnds before after (call_of_request how)
IsStoreTurn before after _ = ⊥

-- how an event shows the end of a request
abbrev pub shown_as : StoreEnd → RequestEnd
shown_as store_end.Done = end.Done
shown_as store_end.Full = end.Full
shown_as store_end.Fault = end.Fault
shown_as store_end.Stopped = end.Stop

-- the node goes on behind it
abbrev pub goes_on : StoreEnd → Bool
goes_on store_end.Done = true
goes_on store_end.Full = true
goes_on store_end.Fault = true
goes_on store_end.Stopped = false

-- nothing is to be kept
abbrev pub asks_removal : Wish → Bool
asks_removal (Put bytes) = false
asks_removal Delete = true

-- the first of these requests is of this Eject
abbrev pub IsFirstAsked : List Request → Uid → Type 0
IsFirstAsked qs u = IsSomeAnd (first qs) (λ q. q.uid ≡ u)

-- the requests of an Eject that goes with its active part go too
abbrev pub left_behind : Bool → Bool → Uid → List Request → List Request
left_behind true begun u qs = left_in begun u qs
left_behind false begun u qs = qs

-- 3. An activation

-- whether its node goes on behind it
abbrev pub behind_start : StartEnd → TurnEnd
behind_start start_end.Ok = Up
behind_start start_end.Gone = Up
behind_start start_end.Fault = Up
behind_start start_end.Damaged = Up
behind_start start_end.Stop = Down

-- what starts of an Eject, by the types of the script
abbrev pub begun_as : TypeList → Begun → Edentype × List Datum
begun_as ts b = (kind_in ts b.kind, b.durable)

-- The event of an activation of this Eject: it shows a fault or a stop exactly where the last device call ended so.
abbrev pub IsActivation : Uid → Counts → Counts → Event → Type 0
IsActivation u before after (event.Activate v how p) = (v ≡ u) × MakesCalls before after (call_of_start how)
IsActivation u before after _ = ⊥
