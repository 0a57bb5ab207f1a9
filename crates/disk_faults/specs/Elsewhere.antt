-- Of which node's disk an event may show something.
use Rattle.std.specs.Prelude.{ℕ}
use Rattle.journal.specs.declared.event.Event.{Event}
use Rattle.journal.specs.declared.event.Event.TheVariants as event

-- the node of whose disk it may show a fault, a stop, an arming or a power cut; 0 for none
abbrev pub shown_of : Event → ℕ
shown_of (event.Boot m e how p began) = m
shown_of (event.Activate u how p) = u.node
shown_of (event.Store u c how p) = u.node
shown_of (event.Armed m what) = m
shown_of (event.Crash m) = m
shown_of _ = 0
