-- Changes of calls, by the lists of the code.
use Rattle.std.specs.Prelude.{ℕ, zero, suc, Bool, false, cond, ◌==◌, ◌||◌, List, [], ◌∷◌, Option, None, Some, slice_get, slice_set}
use Rattle.capability.specs.declared.Uid.{Uid}
use Rattle.eden_model.specs.Map.{with_item}
use Rattle.eden_model.specs.Traffic as traffic
use Rattle.plain_calls.specs.declared.call.Among.{Among}
use Rattle.plain_calls.specs.declared.call.Place.{Place}
use Rattle.plain_calls.specs.declared.call.Place.TheVariants.{Done}
use Rattle.plain_calls.specs.declared.call.Call.{Call}
use Rattle.plain_calls.specs.declared.closing.Cause.{Cause}
use Rattle.plain_calls.specs.declared.closing.Cause.TheVariants.{Lost, Crash, Cut}
use Rattle.plain_calls.specs.View.{call_of, at_number, hits_of}

-- 1. What messages do to calls

-- the reply of a call has come: it is no longer on its way, and the call is over
abbrev pub received : ℕ → traffic.Traffic → traffic.Traffic
received k t = traffic.changed_call k traffic.closed (traffic.taken k t)

-- the request of a call has come, and is held where it goes
abbrev pub delivered : ℕ → traffic.Traffic → traffic.Traffic
delivered k t = traffic.changed_call k (traffic.at_place traffic.held) (traffic.taken k t)

-- the calls with the one at a place changed, where there is one
abbrev pub changed_in : ℕ → (Call → Call) → List Call → Option Call → List Call
changed_in n f cs None = cs
changed_in n f cs (Some c) = slice_set cs n (f c)

-- the calls with that of this number at another place, where there is one
abbrev pub placed : ℕ → Place → List Call → List Call
placed zero place cs = cs
placed (suc n) place cs = changed_in n (λ c. record c { place = place }) cs (slice_get cs n)

-- the calls with that of this number over, where there is one
abbrev pub shut : ℕ → List Call → List Call
shut zero cs = cs
shut (suc n) cs = changed_in n (λ c. record c { «open» = false; place = Done }) cs (slice_get cs n)

-- 2. What closes calls

-- whether the cause closes this call
abbrev pub hits_by : Cause → traffic.Call → Bool
hits_by (Lost u) c = traffic.asks u c.asker
hits_by (Crash n) c = traffic.touches n c
hits_by (Cut a b) c = traffic.on_link a b c

-- whether a call that the cause closes is over with it
abbrev pub ends_by : Cause → traffic.Call → Bool
ends_by (Lost u) c = false
ends_by (Crash n) c = (traffic.target_station c == n) || traffic.in_transit c.place
ends_by (Cut a b) c = traffic.in_transit c.place

-- the call as the cause leaves it
abbrev pub closed_by : Cause → traffic.Call → traffic.Call
closed_by cause c = cond (hits_by cause c) (record c { open_ = false; place = cond (ends_by cause c) traffic.done c.place }) c

-- whether the cause closes the call of this number
abbrev pub hits_number : Cause → List Call → ℕ → Bool
hits_number cause cs k = with_item (at_number k cs) (λ c. hits_by cause (call_of c)) false

-- 3. Which messages go from one station to another

abbrev pub goes_by_call : ℕ → ℕ → traffic.Call → Bool
goes_by_call a b c = traffic.goes_by c.place (traffic.asking_station c.asker) (traffic.target_station c) a b

abbrev pub goes_number : ℕ → ℕ → List Call → ℕ → Bool
goes_number a b cs k = with_item (at_number k cs) (λ c. goes_by_call a b (call_of c)) false

-- 4. Lists of some calls

-- an item where there is one
abbrev pub listed : {X : Type 0} → Option X → List X
listed None = []
listed (Some x) = x ∷ []

-- the name under which the shell made the call, where it is among these
abbrev pub name_among : Among → traffic.Call → Option (List ℕ)
name_among among c = cond (hits_of among c) (traffic.shell_name c.asker) None

-- the process that made the call, with its Eject, where it is among these
abbrev pub process_among : Among → traffic.Call → Option (Uid × ℕ)
process_among among c = cond (hits_of among c) (traffic.waiting_process c.asker) None
