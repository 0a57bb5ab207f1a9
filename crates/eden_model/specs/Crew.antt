-- The processes of an active Eject, as lists: who waits for what, who holds which monitor, and which invocation may start.
-- Classes and conditions are counted from 0, monitors and processes from 1.
use Rattle.std.specs.Prelude.{◌≡◌, ◌≤◌, ℕ, zero, suc, ◌+◌, ◌-◌, ◌==◌, nat_lt, Bool, true, false, cond, not, List, [], ◌∷◌, ◌++◌, map}
use Rattle.std.specs.Prelude.{length, Option, None, Some, slice_get, slice_set, slice_index, replicate}
use Rattle.std.specs.Ordering.{nat_cmp}
use Rattle.eden_model.specs.Map.{with_item, is_none, first, rest, put_at, where_key, value_at}
use Rattle.std.specs.List.{count_by, find, filter, filter_map, list_any}
use Rattle.std.specs.Option.{option_map}

-- what a process waits for
pub data Waiting : Type 0 where
  nothing : Waiting
  outside : Waiting
  entry : ℕ → Waiting
  condition : ℕ → Waiting

-- an invocation with the class of its operation
pub record Invocation : Type 0 where
  pub call : ℕ
  pub class : ℕ

-- a process: the invocation that it serves, if it serves one, and what it waits for
pub record Process : Type 0 where
  pub serves : Option Invocation
  pub waits : Waiting

-- a monitor: the process that holds it, if one does, and its entry queue, the front first
pub record Monitor : Type 0 where
  pub holder : Option ℕ
  pub entering : List ℕ

-- a condition: the number of its monitor, and the processes that wait on it, the longest first
pub record Condition : Type 0 where
  pub monitor : ℕ
  pub waiters : List ℕ

-- of an active Eject: the limits of its classes, its processes by number, its monitors and its conditions
pub record Crew : Type 0 where
  pub limits : List ℕ
  pub processes : List (ℕ × Process)
  pub monitors : List Monitor
  pub conditions : List Condition

-- the processes, and the invocations that are queued
pub record Coordination : Type 0 where
  pub crew : Crew
  pub queued : List Invocation

-- the list with the element at a place changed
abbrev pub change : {X : Type 0} → ℕ → (X → X) → List X → List X
change i f [] = []
change zero f (x ∷ xs) = f x ∷ xs
change (suc i) f (x ∷ xs) = x ∷ change i f xs

-- by the holder of a monitor, which comes first: `free` where there is none, else `held`, which come behind it in this order
abbrev pub match_holder : {Y : Type 0} → Option ℕ → Y → Y → Y
match_holder None free held = free
match_holder (Some h) free held = held

-- there is an invocation, and it is of this class
abbrev pub class_is : ℕ → Option Invocation → Bool
class_is c None = false
class_is c (Some i) = i.class == c

-- there is a holder, and it is this process
abbrev pub is_held_by : ℕ → Option ℕ → Bool
is_held_by p None = false
is_held_by p (Some h) = h == p

-- 1. Who waits

-- what a process waits for, where there is one of this number
abbrev pub waits_at : ℕ → List (ℕ × Process) → Option Waiting
waits_at p processes = option_map (λ (it : Process). it.waits) (value_at nat_cmp p processes)

-- the process waits for this
abbrev pub Waits : Crew → ℕ → Waiting → Type 0
Waits crew p w = waits_at p crew.processes ≡ Some w

-- the process is there and waits for nothing
abbrev pub Runs : Crew → ℕ → Type 0
Runs crew p = Waits crew p nothing

-- a process with its number: it waits for this where the number is p, and is as it was where it is another
abbrev pub with_waits : ℕ → Waiting → ℕ × Process → ℕ × Process
with_waits p w e = (e.0, cond (e.0 == p) (record e.1 { waits = w }) e.1)

-- the process of this number waits for this, and all else is as it was
abbrev pub set_waits : ℕ → Waiting → Crew → Crew
set_waits p w crew = record crew { processes = map (with_waits p w) crew.processes }

-- the same where there is such a process
abbrev pub set_waits_of : Option ℕ → Waiting → Crew → Crew
set_waits_of None w crew = crew
set_waits_of (Some p) w crew = set_waits p w crew

-- 2. Monitors

-- the crew with this in place of its monitor of this number
abbrev pub set_monitor : ℕ → Monitor → Crew → Crew
set_monitor m it crew = record crew { monitors = slice_set crew.monitors (m - 1) it }

-- the crew with this in place of its condition of this number
abbrev pub set_condition : ℕ → Condition → Crew → Crew
set_condition c it crew = record crew { conditions = slice_set crew.conditions c it }

-- the process p holds the monitor `it` of the number m if that is free; else it goes to the back of its entry queue
abbrev pub locked_by : ℕ → ℕ → Monitor → Crew → Crew
locked_by p m it crew = match_holder it.holder
    (set_monitor m (record it { holder = Some p }) crew)
    (set_waits p (entry m) (set_monitor m (record it { entering = it.entering ++ p ∷ [] }) crew))

-- the same of the process p and the monitor of the number m; past the last monitor nothing changes
abbrev pub locked : ℕ → ℕ → Crew → Crew
locked p m crew = with_item (slice_get crew.monitors (m - 1)) (λ it. locked_by p m it crew) crew

-- nobody holds the monitor
abbrev pub is_free : Crew → ℕ → Bool
is_free crew m = with_item (slice_get crew.monitors (m - 1)) (λ it. is_none it.holder) false

-- the process holds the monitor
pub record Holds (crew : Crew) (p m : ℕ) : Type 0 where
  pub from : 1 ≤ m
  pub holder : option_map (λ (it : Monitor). it.holder) (slice_get crew.monitors (m - 1)) ≡ Some (Some p)

-- a monitor is left, which is given by its number and then as it is: the head of its entry queue holds it next, or nobody if that is empty
abbrev pub left_free : ℕ → Monitor → Crew → Crew
left_free m it crew =
    set_waits_of (first it.entering) nothing (set_monitor m (record { holder = first it.entering; entering = rest it.entering }) crew)

-- the monitor of this number is left, and whoever is first in its entry queue holds it; past the last monitor nothing changes
abbrev pub left : ℕ → Crew → Crew
left m crew = with_item (slice_get crew.monitors (m - 1)) (λ it. left_free m it crew) crew

-- the process p waits on the condition of the number c behind the others, and leaves the condition's monitor
abbrev pub waited : ℕ → ℕ → Crew → Crew
waited p c crew = with_item (slice_get crew.conditions c)
    (λ it. set_waits p (condition c) (set_condition c (record it { waiters = it.waiters ++ p ∷ [] }) (left it.monitor crew))) crew

-- the process, if there is one, goes to the back of the entry queue of the monitor of the number m
abbrev pub queued_at : Option ℕ → ℕ → Crew → Crew
queued_at None m crew = crew
queued_at (Some p) m crew = with_item (slice_get crew.monitors (m - 1))
    (λ it. set_waits p (entry m) (set_monitor m (record it { entering = it.entering ++ p ∷ [] }) crew)) crew

-- the process that has waited longest on the condition of the number c goes to the back of the entry queue of the condition's monitor
abbrev pub signalled : ℕ → Crew → Crew
signalled c crew = with_item (slice_get crew.conditions c)
    (λ it. queued_at (first it.waiters) it.monitor (set_condition c (record it { waiters = rest it.waiters }) crew)) crew

-- 3. Starts and ends

-- the process serves an invocation of this class
abbrev pub serves_class : ℕ → Process → Bool
serves_class c p = class_is c p.serves

-- fewer invocations of its class run than the class's limit says
abbrev pub may_start : Crew → Invocation → Bool
may_start crew i = nat_lt (count_by (λ e. serves_class i.class e.1) crew.processes) (slice_index crew.limits i.class)

-- the earliest invocation whose class is below its limit, while fewer than 16 processes exist
abbrev pub startable : Crew → List Invocation → Option Invocation
startable crew queued = cond (nat_lt (length crew.processes) 16) (find (may_start crew) queued) None

-- the queue without this call
abbrev pub without_call : ℕ → List Invocation → List Invocation
without_call k queued = filter (λ j. not (j.call == k)) queued

-- a process has this number
abbrev pub is_taken : ℕ → List (ℕ × Process) → Bool
is_taken n processes = list_any (λ e. e.0 == n) processes

-- the least number from n on that no process has, looked for among so many; else the one behind these
abbrev pub free_from : ℕ → ℕ → List (ℕ × Process) → ℕ
free_from zero n processes = n
free_from (suc more) n processes = elim (is_taken n processes) [ true ↦ free_from more (n + 1) processes | false ↦ n ]

-- the least number from 1 to 16 that no process has; else 17
unfoldable pub least_number : List (ℕ × Process) → ℕ
least_number processes = free_from 16 1 processes

-- the number of the process that starts next
abbrev pub least_free : Crew → ℕ
least_free crew = least_number crew.processes

-- a process of the least free number serves the invocation, and waits for nothing
abbrev pub started : Invocation → Crew → Crew
started i crew = record crew { processes = put_at nat_cmp (least_free crew) (record { serves = Some i; waits = nothing }) crew.processes }

-- the monitors up to the n-th that the process holds are left
abbrev pub leave_held : ℕ → ℕ → Crew → Crew
leave_held p zero crew = crew
leave_held p (suc n) crew =
    with_item (slice_get crew.monitors n) (λ it. cond (is_held_by p it.holder) (left (n + 1) (leave_held p n crew)) (leave_held p n crew))
    (leave_held p n crew)

-- the monitors that the process holds are left, and the process is gone
abbrev pub ended : ℕ → Crew → Crew
ended p crew = record (leave_held p (length crew.monitors) crew) {
  processes = where_key nat_cmp (λ k. not (k == p))
      (leave_held p (length crew.monitors) crew).processes;
}

-- the invocation starts
abbrev pub started_in : Invocation → Coordination → Coordination
started_in i all = record { crew = started i all.crew; queued = without_call i.call all.queued }

-- 4. A crew as an Eject becomes active: the declared processes are 1 upward, the monitors are free, and nobody waits

-- so many declared processes, numbered from n on: they serve no invocation, and wait for nothing
abbrev pub declared_from : ℕ → ℕ → List (ℕ × Process)
declared_from n zero = []
declared_from n (suc more) = (n, record { serves = None; waits = nothing }) ∷ declared_from (n + 1) more

-- how an active part is laid out: the limits of the classes, the number of declared processes and that of monitors,
-- and the monitor of each condition
pub record Setup : Type 0 where
  pub limits : List ℕ
  pub declared : ℕ
  pub monitors : ℕ
  pub conditions : List ℕ

-- so many monitors that nobody holds, with empty entry queues
abbrev pub free_monitors : ℕ → List Monitor
free_monitors n = replicate n (record { holder = None; entering = [] })

-- the condition of this monitor, on which nobody waits
abbrev pub quiet_at : ℕ → Condition
quiet_at m = record { monitor = m; waiters = [] }

-- the crew of an active part that is laid out so
abbrev pub fresh_crew : Setup → Crew
fresh_crew s = record {
  limits = s.limits;
  processes = declared_from 1 s.declared;
  monitors = free_monitors s.monitors;
  conditions = map quiet_at s.conditions;
}

-- the processes of a fresh crew, and an empty queue
abbrev pub fresh : Setup → Coordination
fresh s = record { crew = fresh_crew s; queued = [] }

-- 5. What is left of a crew that is given up

-- the call that a process serves, if it serves one
abbrev pub call_of : ℕ × Process → Option ℕ
call_of e = with_item e.1.serves (λ i. Some i.call) None

-- the calls that run, by process number
abbrev pub running : Crew → List ℕ
running crew = filter_map call_of crew.processes

-- the number of a process with the call that it serves, if it serves one
abbrev pub pair_of : ℕ × Process → Option (ℕ × ℕ)
pair_of e = option_map (λ (i : Invocation). (e.0, i.call)) (e.1).serves

-- the numbers of those processes of a list that serve a call, each with the call, in its order
abbrev pub serving_pairs : List (ℕ × Process) → List (ℕ × ℕ)
serving_pairs processes = filter_map pair_of processes
