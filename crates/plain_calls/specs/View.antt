-- The calls of the code as those of the definitions.
use Rattle.std.specs.Prelude.{ℕ, zero, suc, Bool, List, [], ◌∷◌, map, Option, None, slice_get}
use Rattle.eden_model.specs.Traffic as traffic
use Rattle.plain_calls.specs.declared.call.Among.{Among}
use Rattle.plain_calls.specs.declared.call.Among.TheVariants.{ToNode, OverLink, Open}
use Rattle.plain_calls.specs.declared.call.Place.{Place}
use Rattle.plain_calls.specs.declared.call.Place.TheVariants.{Asked, Held, Answered, Done}
use Rattle.plain_calls.specs.declared.call.Call.{Call}
use Rattle.plain_calls.specs.declared.PlainCalls.{PlainCalls}

-- where a call stands
abbrev pub place_of : Place → traffic.Place
place_of Asked = traffic.asked
place_of Held = traffic.held
place_of (Answered s results) = traffic.answered s results
place_of Done = traffic.done

-- the call
abbrev pub call_of : Call → traffic.Call
call_of c = record {
  asker = c.asker;
  target = c.target;
  operation = c.operation;
  args = c.args;
  open_ = c.open;
  place = place_of c.place;
}

-- these items, each with its number, from n on
abbrev pub numbered : {X : Type 0} → ℕ → List X → List (ℕ × X)
numbered n [] = []
numbered n (x ∷ xs) = (n, x) ∷ numbered (suc n) xs

-- the calls by their numbers, from 1 on
abbrev pub calls_of : List Call → List (ℕ × traffic.Call)
calls_of cs = numbered 1 (map call_of cs)

-- all calls, and the messages on their way
abbrev pub traffic_of : PlainCalls → traffic.Traffic
traffic_of it = record { calls = calls_of it.calls.items; transit = it.transit.items }

-- no call, and no message
abbrev pub no_traffic : traffic.Traffic
no_traffic = record { calls = []; transit = [] }

-- which calls are among these
abbrev pub hits_of : Among → traffic.Call → Bool
hits_of (ToNode n) = traffic.broken_by_node n
hits_of (OverLink a b) = traffic.broken_by_link a b
hits_of Open = traffic.is_open

-- the item of a number, counted from 1
abbrev pub at_number : {X : Type 0} → ℕ → List X → Option X
at_number zero xs = None
at_number (suc n) xs = slice_get xs n
