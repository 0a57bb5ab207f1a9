-- Which device calls the turn of a key makes, by its event.
use Rattle.std.specs.Prelude.{◌≡◌, ℕ}
use Rattle.passive_store.specs.Seen.{DiskSeen}
use Rattle.journal.specs.declared.event.Event.{Event}
use Rattle.journal.specs.declared.event.Event.TheVariants as event
use Rattle.journal.specs.Step.{touches_start, touches_store}
use Rattle.journal.specs.World.{Site}
use Rattle.checkpoint.specs.Starting.{call_of_start}
use Rattle.checkpoint.specs.Touches.{Touches, TouchesOnce}
use Rattle.eden_kernel.specs.DiskTurns.{call_of_request}

-- An activation makes some exactly where that of the site does, and a turn of the store one exactly where that of the site's store does.
-- Any other event leaves the disk as it was.
abbrev pub TurnTouches : Site → Event → DiskSeen → DiskSeen → Type 0
TurnTouches s (event.Activate u how p) old new = Touches (touches_start s u) old.counts new.counts (call_of_start how)
TurnTouches s (event.Store u clock how p) old new = TouchesOnce (touches_store s) old.counts new.counts (call_of_request how)
TurnTouches s _ old new = new ≡ old

-- the event of a turn of the store shows the clock behind it
abbrev pub ShowsClock : Event → ℕ → Type 0
ShowsClock (event.Store u clock how p) now = clock ≡ now
ShowsClock _ now = Unit {0}

-- the event is a turn's, and one in which a disk is called is of this node
abbrev pub IsNodeTurn : ℕ → Event → Type 0
IsNodeTurn n (event.Request k a b refused) = Unit {0}
IsNodeTurn n (event.Reply k a b name why values) = Unit {0}
IsNodeTurn n (event.Start k u p) = Unit {0}
IsNodeTurn n (event.Process u p said) = Unit {0}
IsNodeTurn n (event.Activate u how p) = u.node ≡ n
IsNodeTurn n (event.Store u clock how p) = u.node ≡ n
IsNodeTurn n _ = ⊥
