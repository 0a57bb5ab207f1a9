-- A node's store takes a turn: at most one device call of its first request, or of the settling before it.
use Rattle.std.specs.Prelude.{◌≡◌, ℕ, ◌+◌, ◌*◌, ◌/◌, ◌==◌, ◌≤◌, Bool, true, false, cond, List, [], ◌∷◌, Option, None, Some, is_some, IsTrue}
use Rattle.capability.specs.declared.Uid.{Uid}
use Rattle.eden_value.specs.declared.status.Status.{Status}
use Rattle.eden_value.specs.declared.status.Status.TheVariants as status
use Rattle.eden_model.specs.Map.{with_item, rest}
use Rattle.epl_syntax.specs.declared.effect.Answer.TheVariants.{Code}
use Rattle.passive_store.specs.declared.store.Pick.{Pick}
use Rattle.journal.specs.EjectChange.{EjectChange, body, removal, kept_of}
use Rattle.journal.specs.declared.event.RequestEnd.{RequestEnd}
use Rattle.journal.specs.declared.event.RequestEnd.TheVariants as end
use Rattle.journal.specs.World.{StoreRequest, Node, Site, eject_in, on_eject, on_node}
use Rattle.journal.specs.Ejects.{tells, deactivated, turned_away}
use Rattle.journal.specs.Settling.{first_request, in_doubt, settled, unsynced, written_with, finds_room}
use Rattle.journal.specs.Crashes.{crashed}

-- 1. What the turn is about

-- what a turn is about: the settling's sync, its read; a removal of what is not kept; a change without room; a device call of the request
pub data Work : Type 0 where
  syncs reads unkept without_room calls : Work

-- whether something is kept of this Eject; what may be kept instead is not asked
abbrev pub is_kept_in : Site → Uid → Bool
is_kept_in s u = with_item (eject_in s u) (λ e. is_some e.kept) false

-- whether a request needs device calls: a removal of what is not kept needs none
abbrev pub needs_calls : Site → StoreRequest → Bool
needs_calls s r = cond (is_some (kept_of r.change)) true (is_kept_in s r.uid)

-- what the turn is about, for a request that has made no device call, where nothing is in doubt
abbrev pub first_work : Site → StoreRequest → Work
first_work s r = cond (needs_calls s r) (cond (finds_room r.uid r.change s) calls without_room) unkept

-- the same for any request: while it has made no device call, what is in doubt is settled first
abbrev pub work_of : Site → StoreRequest → Work
work_of s r = cond (r.made == 0) (cond (in_doubt s.number s.node) (cond s.node.synced reads syncs) (first_work s r)) calls

-- a request makes at most so many device calls of its own
abbrev pub most_calls : Node → ℕ
most_calls it = 2 * (it.size / 1024) + 4

-- which ends each work may have, and whether it picks
abbrev pub EndsSo : Work → RequestEnd → Option Pick → Type 0
EndsSo syncs end.Part p = p ≡ None
EndsSo reads end.Part p = IsTrue (is_some p)
EndsSo calls end.Part p = p ≡ None
EndsSo calls end.Done p = p ≡ None
EndsSo unkept end.Done p = p ≡ None
EndsSo without_room end.Full p = p ≡ None
EndsSo unkept _ p = ⊥
EndsSo without_room _ p = ⊥
EndsSo _ end.Fault p = p ≡ None
EndsSo _ end.Stop p = p ≡ None
EndsSo _ _ p = ⊥

-- whether the work makes a device call, as the sync and the read of a settling do too
abbrev pub makes_call : Work → Bool
makes_call unkept = false
makes_call without_room = false
makes_call _ = true

-- whether the device call is the request's own, and none of a settling
abbrev pub makes_own_call : Work → Bool
makes_own_call calls = true
makes_own_call _ = false

-- how many device calls of its own the request needs at least, this one among them: a part is not the last
abbrev pub calls_needed : RequestEnd → ℕ → ℕ
calls_needed end.Part made = made + 2
calls_needed how made = made + 1

-- a call of the request's own is one of those that it may make, and a part leaves one more; of other work nothing is asked
abbrev pub HasCallLeft : Bool → RequestEnd → StoreRequest → Node → Type 0
HasCallLeft true how r it = calls_needed how r.made ≤ most_calls it
HasCallLeft false how r it = Unit {0}

-- a turn of the store for the request r may come so: of this Eject, with this end and this pick
pub record AllowsStore (s : Site) (u : Uid) (how : RequestEnd) (p : Option Pick) (r : StoreRequest) : Type 0 where
  -- the Eject is that of the request
  pub of_uid : u ≡ r.uid
  -- what the turn is about may end so; there is a pick where the read of a settling succeeds, and nowhere else
  pub ends : EndsSo (work_of s r) how p
  -- the request's own device calls, with one to come after a part, are no more than it may make
  pub call_left : HasCallLeft (makes_own_call (work_of s r)) how r s.node

-- 2. What it changes

-- the first request has made one more call
abbrev pub more_made : List StoreRequest → List StoreRequest
more_made [] = []
more_made (r ∷ rs) = record r { made = r.made + 1 } ∷ rs

-- the change of the request is in doubt at its Eject
abbrev pub doubted : StoreRequest → Site → Site
doubted r s = on_eject r.uid (λ e. record e { doubt = Some r.change }) s

-- the process, where there is one, is told the status
abbrev pub tells_code : Uid → Option ℕ → Status → Site → Site
tells_code u None status s = s
tells_code u (Some p) status s = tells u p (Code status) s

-- the first request leaves the queue, and its process, where one still waits, is told this status
abbrev pub request_ended : StoreRequest → Status → Site → Site
request_ended r status s = tells_code r.uid r.process status (on_node (λ it. record it { requests = rest it.requests }) s)

-- behind a removal that succeeded the active part ends, and what is queued is answered `gone`; a put leaves all as it was
abbrev pub removed : EjectChange → Uid → Site → Site
removed (body bytes) u s = s
removed removal u s = turned_away u status.Gone (deactivated u s)

-- of the request's Eject what was put is kept, or nothing is, and nothing is in doubt; the ledger has what that adds to it
abbrev pub stored : StoreRequest → Site → Site
stored r s = on_node (λ it. record it { ledger = written_with s.layout r.change it.ledger })
    (on_eject r.uid (λ e. record e { kept = kept_of r.change; doubt = None }) s)

-- a request is over and succeeded: its process is told `ok`, and a removal leaves no active part and no queued calls
abbrev pub done : StoreRequest → Site → Site
done r s = removed r.change r.uid (request_ended r status.Ok s)

-- what a turn changes, by what it is about, how it ended, and the pick of a settling's read
abbrev pub worked : Work → StoreRequest → RequestEnd → Option Pick → Site → Site
worked syncs r end.Part p s = on_node (λ it. record it { synced = true }) s
worked reads r end.Part p s = settled p s
worked syncs r end.Fault p s = request_ended r status.StoreFault (unsynced s)
worked reads r end.Fault p s = request_ended r status.StoreFault (unsynced s)
worked syncs r end.Stop p s = crashed s
worked reads r end.Stop p s = crashed s
worked unkept r how p s = done r s
worked without_room r how p s = request_ended r status.Full s
worked calls r end.Part p s = on_node (λ it. record it { requests = more_made it.requests }) (doubted r s)
worked calls r end.Done p s = done r (stored r s)
worked calls r end.Fault p s = request_ended r status.StoreFault (doubted r s)
worked calls r end.Stop p s = crashed (doubted r s)
worked _ r how p s = s

-- the turn of the store, for its first request; without a request nothing changes
abbrev pub store_turn : RequestEnd → Option Pick → Site → Site
store_turn how p s = with_item (first_request s.node) (λ r. worked (work_of s r) r how p s) s
