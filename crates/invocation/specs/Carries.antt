-- The calls and queues as the traffic of the model, which has all calls with their places, and one list of what is on its way.
use Rattle.std.specs.Prelude.{◌≡◌, ℕ, ◌+◌, ◌≤◌, Bool, true, false, not, List, [], ◌∷◌, Option, None, Some, map}
use Rattle.std.specs.Option.{option_map}
use Rattle.capability.specs.declared.Uid.{Uid}
use Rattle.eden_model.specs.Map.{with_item}
use Rattle.eden_model.specs.Lines.{has, Distinct}
use Rattle.eden_model.specs.Traffic.{Traffic, Place, asked, held, answered, done, call_at, queue, in_transit, next_message, taken}
use Rattle.eden_model.specs.Traffic.{changed_call, at_place, closed, waiting_process}
use Rattle.eden_model.specs.Traffic as traffic
use Rattle.invocation.specs.declared.call.Call.{Call}
use Rattle.invocation.specs.declared.call.Message.{Message}
use Rattle.invocation.specs.declared.call.Message.TheVariants as message
use Rattle.invocation.specs.declared.call.Delivery.{Delivery}
use Rattle.invocation.specs.declared.call.Delivery.TheVariants.{Request, Reply}
use Rattle.invocation.specs.Mail.{Mail, queue_at}

-- the arguments are still to be read
abbrev pub is_awaited : Place → Bool
is_awaited asked = true
is_awaited held = true
is_awaited (answered s results) = false
is_awaited done = false

-- a call of the code and the same call of the model; the arguments only while they are still to be read
pub record Same (c : Call) (d : traffic.Call) : Type 0 where
  pub asker : d.asker ≡ c.asker
  pub target : d.target ≡ c.target
  pub operation : d.operation ≡ c.operation
  pub open_ : d.open_ ≡ not c.closed
  pub args : is_awaited d.place ≡ true → d.args ≡ c.args

-- the same calls under the numbers from n on
abbrev pub Agree : ℕ → List Call → List (ℕ × traffic.Call) → Type 0
Agree n [] [] = Unit {0}
Agree n (c ∷ cs) (e ∷ es) = (e.0 ≡ n) × Same c e.1 × Agree (n + 1) cs es
Agree n [] (e ∷ es) = ⊥
Agree n (c ∷ cs) [] = ⊥

-- the message of a call at this place
abbrev pub message_at : ℕ → Place → Message
message_at k asked = message.Request k
message_at k (answered s results) = message.Reply k s results
message_at k held = message.Request k
message_at k done = message.Request k

-- the message of a call that is on its way
abbrev pub message_of : Traffic → ℕ → Message
message_of t k = with_item (call_at t k) (λ c. message_at k c.place) (message.Request k)

-- the request or the reply of the call is on its way
abbrev pub is_sent : Traffic → ℕ → Bool
is_sent t k = with_item (call_at t k) (λ c. in_transit c.place) false

-- The same calls, and the same messages in each queue. The order between two queues is the model's alone.
pub record Carries (m : Mail) (t : Traffic) : Type 0 where
  pub calls : Agree 1 m.calls t.calls
  pub queues : (a b : ℕ) → a ≤ 8 → b ≤ 8 → map (message_of t) (queue t a b) ≡ queue_at a b m
  pub once : Distinct t.transit
  pub sent : (k : ℕ) → has k t.transit ≡ true → is_sent t k ≡ true

-- no call was made
abbrev pub no_traffic : Traffic
no_traffic = record { calls = []; transit = [] }

-- the place of a call
abbrev pub IsAt : Traffic → ℕ → Place → Type 0
IsAt t k place = option_map (λ (c : traffic.Call). c.place) (call_at t k) ≡ Some place

-- what the model tells of a call that was asked: whether it is open, and which process waits for it
abbrev pub IsAskedBy : Traffic → ℕ → Bool → Option (Uid × ℕ) → Type 0
IsAskedBy t k was_open process =
    (option_map (λ (c : traffic.Call). c.open_) (call_at t k) ≡ Some was_open)
    × (option_map (λ (c : traffic.Call). waiting_process c.asker) (call_at t k) ≡ Some process)

-- a message is delivered in the model too: a request is held at its target, and a reply closes its call
abbrev pub CarriesDelivery : ℕ → ℕ → Option Delivery → Mail → Traffic → Type 0
CarriesDelivery a b None new t = (next_message t a b ≡ None) × Carries new t
CarriesDelivery a b (Some (Request k)) new t =
    (next_message t a b ≡ Some k) × IsAt t k asked × Carries new (taken k t) × Carries new (changed_call k (at_place held) (taken k t))
CarriesDelivery a b (Some (Reply k s results was_open process)) new t =
    (next_message t a b ≡ Some k) × IsAt t k (answered s results) × IsAskedBy t k was_open process
    × Carries new (changed_call k closed (taken k t))
