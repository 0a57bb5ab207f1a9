-- All calls ever made, and the messages on their way.
use Rattle.std.specs.Prelude.{ℕ, ◌+◌, ◌==◌, Bool, true, false, cond, not, ◌&&◌, ◌||◌, List, [], ◌∷◌, ◌++◌, length, Option, None, Some}
use Rattle.std.specs.Ordering.{nat_cmp}
use Rattle.std.specs.List.{filter, filter_map}
use Rattle.capability.specs.declared.Uid.{Uid}
use Rattle.capability.specs.declared.Cap.{Cap}
use Rattle.eden_model.specs.declared.Asker.{Asker}
use Rattle.eden_model.specs.declared.Asker.TheVariants.{Shell, Eject}
use Rattle.eden_value.specs.Datum.{Datum}
use Rattle.eden_value.specs.declared.status.Status.{Status}
use Rattle.eden_model.specs.Map.{each_value, with_item, is_none, first, changed_at, value_at, put_at, same_uid}

-- Where a call stands: its request on its way, at its target (queued or running, as the Eject tells), its reply on its way, or over.
pub data Place : Type 0 where
  asked held : Place
  answered : Status → List Datum → Place
  done : Place

-- a call: its asker, the capability by which it asks, the operation and its arguments, whether it is open, and where it stands
pub record Call : Type 0 where
  pub asker : Asker
  pub target : Cap
  pub operation : List ℕ
  pub args : List Datum
  pub open_ : Bool
  pub place : Place

-- Calls are numbered from 1. `transit` has the numbers of the calls whose request or reply is on its way, in the order of sending.
pub record Traffic : Type 0 where
  pub calls : List (ℕ × Call)
  pub transit : List ℕ

-- 1. Queues

-- the call of this number, if there is one
abbrev pub call_at : Traffic → ℕ → Option Call
call_at t k = value_at nat_cmp k t.calls

-- the station of an asker: 0 for the shell, else the node of its Eject
abbrev pub asking_station : Asker → ℕ
asking_station (Shell name) = 0
asking_station (Eject u p) = u.node

-- the node of the Eject that is called
abbrev pub target_station : Call → ℕ
target_station c = c.target.uid.node

-- whether a message goes from a to b, of a call whose asker is at one station and whose target at another
abbrev pub goes_by : Place → ℕ → ℕ → ℕ → ℕ → Bool
goes_by asked asker target a b = (asker == a) && (target == b)
goes_by (answered s results) asker target a b = (asker == b) && (target == a)
goes_by _ asker target a b = false

-- the message of call k goes from station a to station b, by where the call stands
abbrev pub goes : Traffic → ℕ → ℕ → ℕ → Bool
goes t a b k = with_item (call_at t k) (λ c. goes_by c.place (asking_station c.asker) (target_station c) a b) false

-- the messages from a to b, in the order of sending
abbrev pub queue : Traffic → ℕ → ℕ → List ℕ
queue t a b = filter (goes t a b) t.transit

-- the number that the next call gets
abbrev pub next_call : Traffic → ℕ
next_call t = length t.calls + 1

-- the message that is delivered next from a to b
abbrev pub next_message : Traffic → ℕ → ℕ → Option ℕ
next_message t a b = first (queue t a b)

-- 2. Changes

-- the call of this number is changed, and all else is as it was
abbrev pub changed_call : ℕ → (Call → Call) → Traffic → Traffic
changed_call k f t = record t { calls = changed_at nat_cmp k f t.calls }

-- the call stands at this place
abbrev pub at_place : Place → Call → Call
at_place place c = record c { place = place }

-- the call is over, and nobody waits for it
abbrev pub closed : Call → Call
closed c = record c { open_ = false; place = done }

-- the call's message is sent
abbrev pub sent : ℕ → Place → Traffic → Traffic
sent k place t = record (changed_call k (at_place place) t) { transit = t.transit ++ k ∷ [] }

-- the call's message is no longer on its way
abbrev pub taken : ℕ → Traffic → Traffic
taken k t = record t { transit = filter (λ j. not (j == k)) t.transit }

-- a reply is sent where the call is open; else the call is over and nothing is sent
abbrev pub replied : Status → List Datum → ℕ → Traffic → Traffic
replied s results k t = with_item (call_at t k) (λ c. cond c.open_ (sent k (answered s results) t) (changed_call k (at_place done) t)) t

-- the same to each of these calls, in order
abbrev pub all_replied : Status → List ℕ → Traffic → Traffic
all_replied s [] t = t
all_replied s (k ∷ ks) t = all_replied s ks (replied s [] k t)

-- a new call: it is asked, or over at once where a status is given
abbrev pub new_call : Asker → Cap → List ℕ → List Datum → Option Status → Call
new_call asker target operation args None =
    record { asker = asker; target = target; operation = operation; args = args; open_ = true; place = asked }
new_call asker target operation args (Some s) =
    record { asker = asker; target = target; operation = operation; args = args; open_ = false; place = done }

-- the call joins the others under this number, and its request is sent where no status is given
abbrev pub with_call : ℕ → Asker → Cap → List ℕ → List Datum → Option Status → Traffic → Traffic
with_call k asker target operation args at_once t = record {
  calls = put_at nat_cmp k (new_call asker target operation args at_once) t.calls;
  transit = cond (is_none at_once) (t.transit ++ k ∷ []) t.transit;
}

-- 3. What closes calls

-- the asker is a process of this Eject
abbrev pub asks : Uid → Asker → Bool
asks u (Shell name) = false
asks u (Eject v p) = same_uid v u

-- no reply to a call of this Eject is waited for any more
abbrev pub orphaned : Uid → Traffic → Traffic
orphaned u t = record t { calls = each_value (λ c. cond (asks u c.asker) (record c { open_ = false }) c) t.calls }

-- a request or a reply is on its way
abbrev pub in_transit : Place → Bool
in_transit asked = true
in_transit (answered s results) = true
in_transit _ = false

-- the call goes to this node, or was asked there
abbrev pub touches : ℕ → Call → Bool
touches n c = (target_station c == n) || (asking_station c.asker == n)

-- a call once a node has crashed: one to it or from it is closed, and over where it goes there or is on its way
abbrev pub crashed_call : ℕ → Call → Call
crashed_call n c = cond (touches n c)
    (record c { open_ = false; place = cond ((target_station c == n) || in_transit c.place) done c.place }) c

-- x and y are the two ends of the link between a and b; no link leads from a station to itself
abbrev pub is_link : ℕ → ℕ → ℕ → ℕ → Bool
is_link a b x y = not (x == y) && (((x == a) && (y == b)) || ((x == b) && (y == a)))

-- asker and target of the call are at the two ends of this link
abbrev pub on_link : ℕ → ℕ → Call → Bool
on_link a b c = is_link a b (asking_station c.asker) (target_station c)

-- a call once a link is cut: one across it is closed, and over where it is on its way
abbrev pub cut_call : ℕ → ℕ → Call → Call
cut_call a b c = cond (on_link a b c) (record c { open_ = false; place = cond (in_transit c.place) done c.place }) c

-- the calls are changed, and the messages of those that pass the test are lost
abbrev pub lost : (Call → Bool) → (Call → Call) → Traffic → Traffic
lost hits f t = record { calls = each_value f t.calls; transit = filter (λ k. not (with_item (call_at t k) hits false)) t.transit }

-- a node has crashed: the calls to it and from it are closed, and their messages are lost
abbrev pub without_node : ℕ → Traffic → Traffic
without_node n t = lost (touches n) (crashed_call n) t

-- a link is cut: the calls across it are closed, and their messages are lost
abbrev pub without_link : ℕ → ℕ → Traffic → Traffic
without_link a b t = lost (on_link a b) (cut_call a b) t

-- 4. Who is told that a call is broken

-- the open calls to a target on a node, from another station
abbrev pub broken_by_node : ℕ → Call → Bool
broken_by_node n c = c.open_ && ((target_station c == n) && not (asking_station c.asker == n))

-- the open calls across a link
abbrev pub broken_by_link : ℕ → ℕ → Call → Bool
broken_by_link a b c = c.open_ && on_link a b c

-- the calls that pass the test, ascending
abbrev pub numbers_of : (Call → Bool) → Traffic → List ℕ
numbers_of hits t = filter_map (λ e. cond (hits e.1) (Some e.0) None) t.calls

-- the name under which the shell made the call
abbrev pub shell_name : Asker → Option (List ℕ)
shell_name (Shell name) = Some name
shell_name (Eject u p) = None

-- the names of the shell's calls among those that pass the test, by call number
abbrev pub names_of : (Call → Bool) → Traffic → List (List ℕ)
names_of hits t = filter_map (λ e. cond (hits e.1) (shell_name e.1.asker) None) t.calls

-- the process that made a call, with its Eject; none where the shell did
abbrev pub waiting_process : Asker → Option (Uid × ℕ)
waiting_process (Shell name) = None
waiting_process (Eject u p) = Some (u, p)

-- the processes that made the calls which pass the test, by call number
abbrev pub processes_of : (Call → Bool) → Traffic → List (Uid × ℕ)
processes_of hits t = filter_map (λ e. cond (hits e.1) (waiting_process e.1.asker) None) t.calls

-- somebody still waits for the call's answer
abbrev pub is_open : Call → Bool
is_open c = c.open_
