-- All calls ever asked, and one queue of messages for each ordered pair of stations.
use Rattle.std.specs.Prelude.{◌≡◌, ℕ, ◌+◌, ◌-◌, ◌≤◌, ◌==◌, ◌&&◌, ◌||◌, Bool, true, false, cond, not, nat_le, List, [], ◌∷◌, ◌++◌, Option}
use Rattle.std.specs.Prelude.{None, Some, is_some, replicate, length, map}
use Rattle.capability.specs.declared.Uid.{Uid}
use Rattle.capability.specs.declared.Cap.{Cap}
use Rattle.eden_value.specs.Datum.{Datum}
use Rattle.eden_value.specs.declared.status.Status.{Status}
use Rattle.eden_value.specs.declared.status.Status.TheVariants.{TooLarge, Unreachable}
use Rattle.eden_codec.specs.Spelling.{values_size}
use Rattle.eden_model.specs.Map.{first, with_item}
use Rattle.eden_model.specs.Crew.{change}
use Rattle.eden_model.specs.Traffic.{asking_station, asks, is_link, waiting_process}
use Rattle.eden_model.specs.declared.Asker.{Asker}
use Rattle.locator.specs.Reach.{Stations, reaches}
use Rattle.invocation.specs.Queues.{row, with_row, sent_to, cut_between, cleared, on_way, sent_from}
use Rattle.invocation.specs.Numbers.{item_in, numbers_where, passes_at}
use Rattle.invocation.specs.declared.call.Asked.{Asked}
use Rattle.invocation.specs.declared.call.Call.{Call}
use Rattle.invocation.specs.declared.call.Delivery.{Delivery}
use Rattle.invocation.specs.declared.call.Delivery.TheVariants as delivery
use Rattle.invocation.specs.declared.call.Message.{Message}
use Rattle.invocation.specs.declared.call.Message.TheVariants.{Request, Reply}

-- calls are numbered from 1 in the order of asking
pub record Mail : Type 0 where
  pub calls : List Call
  pub queues : List (List Message)

-- no call was asked
abbrev pub no_mail : Mail
no_mail = record { calls = []; queues = replicate 81 [] }

-- the messages from a to b, in the order of sending
abbrev pub queue_at : ℕ → ℕ → Mail → List Message
queue_at a b m = row a b m.queues

-- a message from a to b is on its way
abbrev pub is_waiting : ℕ → ℕ → Mail → Bool
is_waiting a b m = is_some (first (queue_at a b m))

-- the number of the call that a message is of
abbrev pub number_of : Message → ℕ
number_of (Request k) = k
number_of (Reply k s results) = k

-- a number that was given
abbrev pub IsGiven : List Call → ℕ → Type 0
IsGiven calls k = (1 ≤ k) × (k ≤ length calls)

-- an answer is still waited for
abbrev pub is_open : Call → Bool
is_open c = not c.closed

-- the station of the target
abbrev pub target_of : Call → ℕ
target_of c = c.target.uid.node

-- 1. Deliveries

-- the arguments are let go
abbrev pub spent : Call → Call
spent c = record c { args = [] }

-- the call is closed, and its arguments are let go
abbrev pub over : Call → Call
over c = record c { args = []; closed = true }

-- a reply closes its call
abbrev pub received : Message → List Call → List Call
received (Request k) calls = calls
received (Reply k s results) calls = change (k - 1) over calls

-- what is told of a message as it arrives: with a reply, whether its call was open until now, and which process waits for it
abbrev pub delivery_of : Message → List Call → Delivery
delivery_of (Request k) calls = delivery.Request k
delivery_of (Reply k s results) calls =
    delivery.Reply k s results (passes_at is_open calls k) (with_item (item_in k calls) (λ c. waiting_process c.asker) None)

-- the call of what has arrived
abbrev pub call_of : Delivery → ℕ
call_of (delivery.Request k) = k
call_of (delivery.Reply k s results was_open process) = k

-- the first message from a to b leaves its queue and is received
abbrev pub DeliversFirst : ℕ → ℕ → List Message → Mail → Option Delivery → Mail → Type 0
DeliversFirst a b [] old result new = (result ≡ None) × (new ≡ old)
DeliversFirst a b (m ∷ ms) old result new =
    (result ≡ Some (delivery_of m old.calls)) × (new ≡ record { calls = received m old.calls; queues = with_row a b ms old.queues })

-- the same of the queue from a to b, whether it is empty or not
abbrev pub Delivers : ℕ → ℕ → Mail → Option Delivery → Mail → Type 0
Delivers a b old result new = DeliversFirst a b (queue_at a b old) old result new

-- 2. A new call

-- the status that answers a call as it is sent, if any: too large comes before unreachable
abbrev pub refused_at_once : Bool → List Datum → Option Status
refused_at_once reached args =
    cond (nat_le (values_size args) 65536) (cond reached None (Some Unreachable)) (Some TooLarge)

-- a new call; one that is refused is closed and keeps no arguments
abbrev pub asked_call : Asker → Cap → List ℕ → List Datum → Bool → Call
asked_call asker target operation args refused = record {
  asker = asker;
  target = target;
  operation = operation;
  args = cond refused [] args;
  closed = refused;
}

-- the request is sent, unless the call is answered at once
abbrev pub with_asked : Asker → Cap → List ℕ → List Datum → Option Status → Mail → Mail
with_asked asker target operation args None m = record {
  calls = m.calls ++ asked_call asker target operation args false ∷ [];
  queues = sent_to (asking_station asker) target.uid.node (Request (length m.calls + 1)) m.queues;
}
with_asked asker target operation args (Some s) m = record m {
  calls = m.calls ++ asked_call asker target operation args true ∷ [];
}

-- a call is asked: its number, the status that answers it at once, and the mail afterwards
pub record Asks (asker : Asker) (target : Cap) (operation : List ℕ) (args : List Datum) (places : Stations)
    (old new : Mail) (it : Asked) : Type 0 where
  pub number : it.call ≡ length old.calls + 1
  pub at_once : it.at_once ≡ refused_at_once (reaches places (asking_station asker) target.uid.node) args
  pub after : new ≡ with_asked asker target operation args it.at_once old

-- 3. Replies

-- a reply is sent where the call is open; in either case the arguments are let go; a number that was never given changes nothing
abbrev pub with_reply : ℕ → Status → List Datum → Mail → Mail
with_reply k s results m = with_item (item_in k m.calls)
    (λ c. record {
      calls = change (k - 1) spent m.calls;
      queues = cond (is_open c) (sent_to (target_of c) (asking_station c.asker) (Reply k s results) m.queues) m.queues;
    }) m

-- 4. What closes calls

-- an Eject with this uid made the call
abbrev pub asked_by : Uid → Call → Bool
asked_by u c = asks u c.asker

-- the call goes over the link between a and b
abbrev pub crosses : ℕ → ℕ → Call → Bool
crosses a b c = is_link a b (asking_station c.asker) (target_of c)

-- the call goes to the node or comes from it
abbrev pub touches : ℕ → Call → Bool
touches n c = (target_of c == n) || (asking_station c.asker == n)

-- the call goes to the node from another station
abbrev pub enters : ℕ → Call → Bool
enters n c = (target_of c == n) && not (asking_station c.asker == n)

-- the call is closed where the test says so
abbrev pub closed_if : Bool → Call → Call
closed_if b c = cond b (record c { closed = true }) c

-- the calls that pass are closed
abbrev pub closed_where : (Call → Bool) → List Call → List Call
closed_where test calls = map (λ c. closed_if (test c) c) calls

-- a node has crashed: calls to it are over, and calls from it are closed
abbrev pub crashed_call : ℕ → Call → Call
crashed_call n c = cond (target_of c == n) (over c) (closed_if (touches n c) c)

-- the open calls that pass, ascending: those that are answered `broken`
abbrev pub broken_where : (Call → Bool) → Mail → List ℕ
broken_where test m = numbers_where (λ c. is_open c && test c) 1 m.calls

-- the calls of these messages let their arguments go
abbrev pub let_go : List Message → List Call → List Call
let_go [] calls = calls
let_go (m ∷ ms) calls = let_go ms (change (number_of m - 1) spent calls)

-- an Eject lost its active part: its calls are closed
abbrev pub orphaned : Uid → Mail → Mail
orphaned u m = record m { calls = closed_where (asked_by u) m.calls }

-- a link is cut: the calls over it are closed, and the messages on it are lost, with the arguments that they carried
abbrev pub cut_link : ℕ → ℕ → Mail → Mail
cut_link a b m = record {
  calls = let_go (on_way a b m.queues) (closed_where (crosses a b) m.calls);
  queues = cut_between a b m.queues;
}

-- a node has crashed: the messages to it and from it are lost, with the arguments that they carried
abbrev pub cut_node : ℕ → Mail → Mail
cut_node n m = record {
  calls = let_go (sent_from n 9 m.queues) (map (crashed_call n) m.calls);
  queues = cleared n 9 m.queues;
}
