-- What a turn does to the disk where its key tells it, and where there was no memory.
use Rattle.std.proofs.Common.{◌≡◌, ap}
use Rattle.epl_syntax.specs.Rules.OfTypes.{TypeList}
use Rattle.invocation.specs.Mail.{Mail}
use Rattle.passive_store.specs.Kept.{Layout}
use Rattle.passive_store.specs.Seen.{DiskSeen, Seen}
use Rattle.journal.specs.declared.event.Event.{Event}
use Rattle.journal.specs.declared.event.Event.TheVariants as event
use Rattle.journal.specs.Step.{touches_store}
use Rattle.journal.specs.World.{Site}
use Rattle.checkpoint.specs.Touches.{TouchesOnce}
use Rattle.eden_kernel.specs.DiskTurns.{IsStoreTurn, Starves}
use Rattle.eden_kernel.specs.Shows.{call_of_event}
use Rattle.eden_kernel.specs.Stands.{Held, NodeStands, requests_in}
use Rattle.eden_kernel.proofs.Starving.{starves-still}
use Rattle.scheduled_node.specs.Touched.{TurnTouches}

-- the event of the store's turn
pub touches-stored : (s : Site) (e : Event) (old new : DiskSeen) → IsStoreTurn old.counts new.counts e
    → TouchesOnce (touches_store s) old.counts new.counts (call_of_event e) → TurnTouches s e old new
touches-stored s (event.Store u clock how p) old new is once = once
touches-stored s _ old new is once = absurd is

-- the store is as it was
pub starves-same : (layout : Layout) (ts : TypeList) (m : Mail) (s : Site) (old : Held) (y : Seen) → NodeStands layout ts old m s
    → y ≡ old.seen → Starves layout s old.seen y
starves-same layout ts m s old y h same =
    starves-still layout s (requests_in old) old.seen y h.disk (ap (λ (x : Seen). x.disk) same)
