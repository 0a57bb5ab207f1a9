-- Invocations start, and processes take their turns.
use Rattle.std.specs.Prelude.{◌≡◌, ℕ, ◌==◌, nat_le, Bool, cond, not, List, [], ◌∷◌, ◌++◌, map, length, Option, None, Some, Result, Ok}
use Rattle.std.specs.Prelude.{Err, is_some, IsSomeAnd, IsTrue}
use Rattle.std.specs.Ordering.{nat_cmp}
use Rattle.std.specs.List.{filter}
use Rattle.capability.specs.declared.Uid.{Uid}
use Rattle.capability.specs.declared.Cap.{Cap}
use Rattle.capability.specs.Capability.{full}
use Rattle.capability.specs.declared.TheConstants.{BODY_LIMIT, MESSAGE_LIMIT}
use Rattle.eden_value.specs.Datum.{Datum}
use Rattle.eden_value.specs.declared.status.Status.{Status}
use Rattle.eden_value.specs.declared.status.Status.TheVariants as status
use Rattle.eden_codec.specs.Spelling.{spelling, values_size}
use Rattle.eden_model.specs.Map.{with_item, changed_at, value_at, put_at, where_key}
use Rattle.eden_model.specs.declared.Asker.TheVariants.{Eject as Process}
use Rattle.eden_model.specs.Traffic.{Traffic, Call, call_at, next_call, replied, with_call}
use Rattle.eden_model.specs.Crew.{Invocation, Process as Worker, nothing, outside, set_waits, locked, left, waited, signalled, startable}
use Rattle.eden_model.specs.Crew.{started, ended, least_free}
use Rattle.epl_syntax.specs.declared.effect.Answer.TheVariants.{Go, Reply as Told, Code, Created as Made}
use Rattle.epl_syntax.specs.declared.effect.Effect.{Effect}
use Rattle.epl_syntax.specs.declared.effect.Effect.TheVariants as effect
use Rattle.epl_syntax.specs.Edentype.{Edentype}
use Rattle.epl_syntax.specs.Meaning.{Turned, turn, begin, operation_of, rep_of, type_of, first_values}
use Rattle.journal.specs.EjectChange.{EjectChange, body, removal}
use Rattle.journal.specs.declared.event.Shown.{Shown}
use Rattle.journal.specs.declared.event.Shown.TheVariants as shown
use Rattle.journal.specs.World.{Active, Eject, Site, eject_in, on_eject, on_node, on_traffic}
use Rattle.journal.specs.Ejects.{on_active, on_crew, told, tells, deactivated, turned_away, gone_if_unkept, fresh, next_uid, born}

-- 1. Starts

-- the class of the operation that a call asks for, counted from 0; 0 as well where the type has no such operation
abbrev pub class_of : Edentype → Call → ℕ
class_of t c = with_item (operation_of t c.operation) (λ o. o.class) 0

-- a call with the class of its operation
abbrev pub invocation : Edentype → Traffic → ℕ → Invocation
invocation t traffic k = record { call = k; class = with_item (call_at traffic k) (class_of t) 0 }

-- the earliest queued invocation that may start
abbrev pub next_start : Traffic → Eject → Active → Option Invocation
next_start traffic e it = startable it.crew (map (invocation it.kind traffic) e.queued)

-- call k may start as process p of the Eject e with this active part
pub record AllowsStart (traffic : Traffic) (k p : ℕ) (e : Eject) (it : Active) : Type 0 where
  -- call k is the earliest of the queued ones that may start
  pub earliest : next_start traffic e it ≡ Some (invocation it.kind traffic k)
  -- p is the least number from 1 on that no process has
  pub number : p ≡ least_free it.crew

-- the active part with call k started: process p has its operation to do, and the crew one process more, which serves the call
abbrev pub with_start : Traffic → ℕ → ℕ → Call → Active → Active
with_start traffic k p c it = record it {
  tasks = put_at nat_cmp p (record { rest = begin it.kind c.operation c.args; answer = Go }) it.tasks;
  crew = started (invocation it.kind traffic k) it.crew;
}

-- the invocation leaves the queue and runs
abbrev pub start : Uid → ℕ → ℕ → Site → Site
start u k p s = with_item (call_at s.traffic k)
    (λ c. on_eject u (λ e. record (on_active (with_start s.traffic k p c) e) { queued = filter (λ j. not (j == k)) e.queued }) s) s

-- 2. Turns

-- what the next turn of process p comes to, of the Eject u with this active part; None where p has no task
abbrev pub turn_of : Uid → Active → ℕ → Option Turned
turn_of u it p = with_item (value_at nat_cmp p it.tasks) (λ t. Some (turn it.kind it.vars t.rest t.answer u)) None

-- what process p serves and waits for; None where the active part has no such process
abbrev pub worker_at : Active → ℕ → Option Worker
worker_at it p = value_at nat_cmp p it.crew.processes

-- the values and what is left to do, after a turn
abbrev pub turned : ℕ → Turned → Active → Active
turned p t it = record it { vars = t.vars; tasks = changed_at nat_cmp p (λ old. record { rest = t.rest; answer = Go }) it.tasks }

-- process p has ended: it is gone with its task, and the monitors that it held are left
abbrev pub without_process : ℕ → Active → Active
without_process p it = record it { tasks = where_key nat_cmp (λ k. not (k == p)) it.tasks; crew = ended p it.crew }

-- a change of u joins the requests to the store, and process p waits for it
abbrev pub asks_store : Uid → ℕ → EjectChange → Site → Site
asks_store u p change s =
    on_node (λ it. record it { requests = it.requests ++ record { uid = u; process = Some p; change = change; made = 0 } ∷ [] })
    (on_eject u (on_active (on_crew (set_waits p outside))) s)

-- the call that was served, if one was, is answered with these results, or refused where they are too large
abbrev pub answers : Option Invocation → List Datum → Traffic → Traffic
answers None results traffic = traffic
answers (Some i) results traffic = cond (nat_le (values_size results) MESSAGE_LIMIT) (replied status.Ok results i.call traffic)
    (replied status.TooLarge [] i.call traffic)

-- the status that answers a call as it is sent, if one does: its arguments are too large, or the node of its target is not reached
abbrev pub refused_at_once : Bool → List Datum → Option Status
refused_at_once reached args = cond (nat_le (values_size args) MESSAGE_LIMIT) (cond reached None (Some status.Unreachable))
    (Some status.TooLarge)

-- a process that made a call waits for what is outside, or is told the status that refused the call at once
abbrev pub waits_or_told : ℕ → Option Status → Active → Active
waits_or_told p None it = on_crew (set_waits p outside) it
waits_or_told p (Some status) it = told p (Told status []) it

-- process p of u makes a call, which gets the next number, and waits for the reply unless it was refused at once
abbrev pub invokes : Uid → ℕ → Cap → List ℕ → List Datum → Option Status → Site → Site
invokes u p target operation args at_once s = on_traffic (λ t. with_call (next_call t) (Process u p) target operation args at_once t)
    (on_eject u (on_active (waits_or_told p at_once)) s)

-- an Eject of this type is created for a process, which is told its capability, or why there is none
abbrev pub creates : Uid → ℕ → Option Edentype → Result Uid Status → Site → Site
creates u p (Some t) (Ok new) s = tells u p (Made status.Ok (Some (full new))) (born new (fresh t (first_values t)) s)
creates u p (Some t) (Err why) s = tells u p (Made why None) s
creates u p None made s = s

-- a put of these bytes joins the requests, where they are not too long; else the process is told so at once
abbrev pub checkpoints : Uid → ℕ → List ℕ → Site → Site
checkpoints u p bytes s = cond (nat_le (length bytes) BODY_LIMIT) (asks_store u p (body bytes) s) (tells u p (Code status.TooLarge) s)

-- what an effect changes; `reach` says which nodes are reached
abbrev pub effected : (ℕ → Bool) → Uid → ℕ → Option Invocation → Edentype → List Datum → Effect → Site → Site
effected reach u p i t vars (effect.Return results) s = on_traffic (answers i results) (on_eject u (on_active (without_process p)) s)
effected reach u p i t vars effect.End s = on_eject u (on_active (without_process p)) s
effected reach u p i t vars effect.Checkpoint s = checkpoints u p (spelling (rep_of t vars)) s
effected reach u p i t vars effect.Destroy s = asks_store u p removal s
effected reach u p i t vars effect.Deactivate s = gone_if_unkept u (deactivated u s)
effected reach u p i t vars (effect.Fault cause) s = turned_away u status.Dropped (deactivated u s)
effected reach u p i t vars (effect.Create type_name) s = creates u p (type_of s.types type_name) (next_uid s) s
effected reach u p i t vars (effect.Invoke target operation args) s =
    invokes u p target operation args (refused_at_once (reach target.uid.node) args) s
effected reach u p i t vars (effect.Lock m) s = on_eject u (on_active (on_crew (locked p m))) s
effected reach u p i t vars (effect.Leave m) s = on_eject u (on_active (on_crew (left m))) s
effected reach u p i t vars (effect.Wait c) s = on_eject u (on_active (on_crew (waited p c))) s
effected reach u p i t vars (effect.Signal c) s = on_eject u (on_active (on_crew (signalled c))) s
effected reach u p i t vars effect.Yield s = s

-- the invocation that process p serves, if there is such a process and it serves one
abbrev pub serving : Active → ℕ → Option Invocation
serving it p = with_item (worker_at it p) (λ q. q.serves) None

-- the values and what is left to do, and then the effect
abbrev pub turn_taken : (ℕ → Bool) → Uid → ℕ → Active → Turned → Site → Site
turn_taken reach u p it t s = effected reach u p (serving it p) it.kind t.vars t.effect (on_eject u (on_active (turned p t)) s)

-- a process of this active part takes its turn, up to its effect
abbrev pub active_turn : (ℕ → Bool) → Uid → ℕ → Active → Site → Site
active_turn reach u p it s = with_item (turn_of u it p) (λ t. turn_taken reach u p it t s) s

-- the site after a turn of process p of u; where there is no such process, as it was
abbrev pub process_turn : (ℕ → Bool) → Uid → ℕ → Site → Site
process_turn reach u p s = with_item (eject_in s u) (λ e. with_item e.active (λ it. active_turn reach u p it s) s) s

-- 3. What is shown of an effect

-- of a return: the call that it answers; where the process serves none, that it ended
abbrev pub shown_return : Option Invocation → Shown
shown_return None = shown.End
shown_return (Some i) = shown.Return i.call

-- of a creation: the uid of the new Eject, or the status that refused it
abbrev pub shown_creation : Result Uid Status → Shown
shown_creation (Ok u) = shown.Created u
shown_creation (Err why) = shown.Refused why

-- what the line of a turn shows of its effect, by the site before the turn and the invocation that the process serves
abbrev pub shown_of : Site → Option Invocation → Effect → Shown
shown_of s i (effect.Return results) = shown_return i
shown_of s i effect.Checkpoint = shown.Checkpoint
shown_of s i effect.Deactivate = shown.Deactivate
shown_of s i effect.Destroy = shown.Destroy
shown_of s i (effect.Create type_name) = shown_creation (next_uid s)
shown_of s i (effect.Lock m) = shown.Lock
shown_of s i (effect.Leave m) = shown.Leave
shown_of s i (effect.Wait c) = shown.Wait
shown_of s i (effect.Signal c) = shown.Signal
shown_of s i effect.Yield = shown.Yield
shown_of s i effect.End = shown.End
shown_of s i (effect.Fault cause) = shown.Fault cause
shown_of s i (effect.Invoke target operation args) = shown.Invoke (next_call s.traffic)

-- an effect that creates an Eject names a type that there is
abbrev pub CreatesKnown : List Edentype → Effect → Type 0
CreatesKnown types (effect.Create type_name) = IsTrue (is_some (type_of types type_name))
CreatesKnown types _ = Unit {0}

-- process p of the Eject u may take its turn, and this is shown of it
pub record AllowsTurn (s : Site) (u : Uid) (p : ℕ) (said : Shown) (it : Active) (q : Worker) : Type 0 where
  -- the process waits for nothing
  pub ready : q.waits ≡ nothing
  -- it has a turn to take, which creates no Eject but of a type that there is
  pub known : IsSomeAnd (turn_of u it p) (λ t. CreatesKnown s.types t.effect)
  -- the event shows the effect in which this turn ends
  pub shows : IsSomeAnd (turn_of u it p) (λ t. said ≡ shown_of s q.serves t.effect)
