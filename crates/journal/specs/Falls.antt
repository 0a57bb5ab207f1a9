-- An event that crashes a node, as a stop or a power cut: what it changed before the node fell.
use Rattle.eden_model.specs.Map.{with_item}
use Rattle.journal.specs.declared.event.Event.{Event}
use Rattle.journal.specs.declared.event.Event.TheVariants as event
use Rattle.journal.specs.World.{StoreRequest, Site}
use Rattle.journal.specs.Settling.{first_request}
use Rattle.journal.specs.Stores.{Work, calls, work_of, doubted}
use Rattle.journal.specs.Starts.{start_settled}

-- a device call of the request's own brings its change in doubt
abbrev pub begun_by_call : Work → StoreRequest → Site → Site
begun_by_call calls r s = doubted r s
begun_by_call _ r s = s

-- the site as an event leaves it before its node falls: an activation may have settled a doubt, or begun its settling anew, and a turn of
-- the store may have brought a change in doubt; for other events it is as it was
abbrev pub before_fall : Event → Site → Site
before_fall (event.Activate u how p) s = start_settled p s
before_fall (event.Store u clock how p) s = with_item (first_request s.node) (λ r. begun_by_call (work_of s r) r s) s
before_fall _ s = s
