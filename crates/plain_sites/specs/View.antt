-- A node and the calls of the code as a site of the definitions.
use Rattle.std.specs.Prelude.{◌≡◌, ℕ, Bool, false, cond, not, List, [], ◌∷◌, ◌++◌, Option, None, Some, IfSome}
use Rattle.std.specs.Option.{option_map}
use Rattle.capability.specs.declared.Uid.{Uid}
use Rattle.eden_model.specs.Crew.{serving_pairs}
use Rattle.eden_model.specs.Map.{with_item}
use Rattle.eden_model.specs.Traffic.{Call, waiting_process}
use Rattle.epl_syntax.specs.Rules.OfTypes.{TypeList}
use Rattle.journal.specs.Ejects.{is_there}
use Rattle.journal.specs.Settling.{first_request}
use Rattle.journal.specs.Sites.{InOrder}
use Rattle.journal.specs.Stores.{more_made}
use Rattle.journal.specs.World.{Eject, Site, StoreRequest, on_node}
use Rattle.plain_calls.specs.declared.PlainCalls.{PlainCalls}
use Rattle.plain_calls.specs.View.{traffic_of}
use Rattle.plain_stores.specs.declared.PlainNode.{PlainNode}
use Rattle.plain_stores.specs.View.{AnswersWaiting, site_of}

-- 1. A site

-- the site of a node, with all calls beside it
abbrev pub site_at : TypeList → PlainNode → PlainCalls → Site
site_at ts node calls = site_of ts (traffic_of calls) node

-- 2. An Eject that is there, or none

-- the calls that run, each with the process that serves it; None where there is no active part
abbrev pub ran_in : Option Eject → Option (List (ℕ × ℕ))
ran_in o = with_item o (λ e. option_map (λ it. serving_pairs it.crew.processes) e.active) None

-- the calls that are queued
abbrev pub queue_in : Option Eject → List ℕ
queue_in o = with_item o (λ e. e.queued) []

-- it has no active part
abbrev pub IsPassive : Option Eject → Type 0
IsPassive o = IfSome o (λ e. e.active ≡ None)

-- there is one, but it is not active, and nothing is kept of it or may be kept
abbrev pub is_unkept : Option Eject → Bool
is_unkept o = with_item o (λ e. not (is_there e)) false

-- the Eject with one call more in its queue
abbrev pub joined : ℕ → Eject → Eject
joined k e = record e { queued = e.queued ++ k ∷ [] }

-- 3. A call

-- the process that waits for its answer, if one does
abbrev pub waiter_of : Call → Option (Uid × ℕ)
waiter_of c = cond c.open_ (waiting_process c.asker) None

-- 4. A request to the store

-- the store of the node serves this request: it is the first, the Ejects stand in order, and the process that it answers waits
pub record Serves (s : Site) (r : StoreRequest) : Type 0 where
  -- it is the first request
  pub first : first_request s.node ≡ Some r
  -- the Ejects stand in ascending order of their uids
  pub in_order : InOrder s.node.ejects
  -- the process that it answers waits for what is outside
  pub answers : AnswersWaiting s

-- the site with one more device call made by the first request
abbrev pub called_again : Site → Site
called_again s = on_node (λ it. record it { requests = more_made it.requests }) s
