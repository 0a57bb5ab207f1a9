-- What holds of every world that a history reaches: of each node, of each Eject there, and of the calls.
use Rattle.std.specs.Prelude.{◌≡◌, ◌⊎◌, ◌≤◌, ℕ, ◌+◌, ◌*◌, ◌/◌, Bool, true, false, cond, ◌&&◌, T, List, [], ◌∷◌, ◌++◌, Option, None, Some}
use Rattle.std.specs.Prelude.{is_some, IsSomeAnd, IfSome, slice_get}
use Rattle.std.specs.List.{AllByRecursion}
use Rattle.std.specs.Ordering.{nat_cmp, eq_by_cmp}
use Rattle.std.specs.FinMap.Entries.{is_sorted}
use Rattle.capability.specs.declared.Uid.{Uid}
use Rattle.eden_model.specs.Map.{with_item, first, rest, value_at, uid_cmp, same_uid}
use Rattle.eden_model.specs.Crew.{Crew, Condition, running, outside, Waits}
use Rattle.eden_model.specs.Lines.{has, Distinct, AreLines}
use Rattle.eden_model.specs.declared.Asker.{Asker}
use Rattle.eden_model.specs.declared.Asker.TheVariants.{Shell, Eject as Process}
use Rattle.eden_model.specs.Traffic.{Traffic, Call, asked, held, done as over, in_transit, call_at, target_station}
use Rattle.journal.specs.declared.event.Event.{Event}
use Rattle.journal.specs.declared.event.Event.TheVariants as event
use Rattle.journal.specs.declared.event.StartEnd.TheVariants as start_end
use Rattle.journal.specs.declared.event.RequestEnd.TheVariants as request_end
use Rattle.journal.specs.Boots.{last_epoch}
use Rattle.journal.specs.World.{World, Active, Eject, StoreRequest, Node, Site, node_at, site_of, eject_in}

-- 1. Ejects

-- the Ejects stand in ascending order of their uids
abbrev pub InOrder : List (Uid × Eject) → Type 0
InOrder es = T (is_sorted uid_cmp es)

-- the processes stand in ascending order of their numbers, and each has its task
pub record IsManned (it : Active) : Type 0 where
  -- the numbers of the processes rise from each to the next
  pub numbered : T (is_sorted nat_cmp it.crew.processes)
  -- under the number of each process there is a task
  pub tasked : (p : ℕ) → is_some (value_at nat_cmp p it.crew.processes) ≡ true → is_some (value_at nat_cmp p it.tasks) ≡ true

-- where the Eject is active, its processes have their tasks
abbrev pub MannedEject : Eject → Type 0
MannedEject e = IfSome e.active IsManned

-- the queues of the processes are in order, and no condition names 0 as its monitor
pub record IsLaid (crew : Crew) : Type 0 where
  -- whoever stands in a queue of a monitor or a condition waits for just that, and stands there once
  pub lines : AreLines crew
  -- the monitor that a condition names is not 0, since monitors are counted from 1
  pub monitors : (i : ℕ) (it : Condition) → slice_get crew.conditions i ≡ Some it → 1 ≤ it.monitor

-- the calls that the processes of an active part serve, by process number; none without an active part
abbrev pub runs_of : Option Active → List ℕ
runs_of None = []
runs_of (Some it) = running it.crew

-- the calls that an Eject has: those that it runs, and behind them those in its queue
abbrev pub work_of : Eject → List ℕ
work_of e = runs_of e.active ++ e.queued

-- the active part, where there is an Eject and it has one
abbrev pub active_in : Option Eject → Option Active
active_in o = with_item o (λ e. e.active) None

-- the process is there and waits for what is outside
abbrev pub WaitsIn : Option Eject → ℕ → Type 0
WaitsIn o p = IsSomeAnd (active_in o) (λ it. Waits it.crew p outside)

-- 2. The store's requests

-- none of them has made a device call
abbrev pub AllUnmade : List StoreRequest → Type 0
AllUnmade [] = Unit {0}
AllUnmade (r ∷ rs) = (r.made ≡ 0) × AllUnmade rs

-- each is of an Eject of the node
abbrev pub AllThere : List StoreRequest → List (Uid × Eject) → Type 0
AllThere [] es = Unit {0}
AllThere (r ∷ rs) es = (is_some (value_at uid_cmp r.uid es) ≡ true) × AllThere rs es

-- the first has a device call left, by the size of the disk
abbrev pub HasLeft : ℕ → List StoreRequest → Type 0
HasLeft size rs = IfSome (first rs) (λ r. r.made + 1 ≤ 2 * (size / 1024) + 4)

-- whether a request answers a process, and one of this number
abbrev pub is_number : ℕ → Option ℕ → Bool
is_number p None = false
is_number p (Some q) = eq_by_cmp nat_cmp q p

-- the number of requests that are of this Eject and answer this process of it
abbrev pub at_store : Uid → ℕ → List StoreRequest → ℕ
at_store u p [] = 0
at_store u p (r ∷ rs) = cond (same_uid r.uid u && is_number p r.process) (at_store u p rs + 1) (at_store u p rs)

-- 3. A node, by its number and the size of its disk, its requests and its Ejects

-- each Eject is of the node and has its tasks; each request is of one of them, the first has a call left, the others made none
pub record IsSound (n size : ℕ) (rs : List StoreRequest) (es : List (Uid × Eject)) : Type 0 where
  -- the Ejects stand in ascending order of uids
  pub in_order : InOrder es
  -- the uid of each Eject names this node
  pub of_node : (u : Uid) → is_some (value_at uid_cmp u es) ≡ true → u.node ≡ n
  -- each process of an Eject that is active has its task
  pub manned : (u : Uid) (e : Eject) → value_at uid_cmp u es ≡ Some e → MannedEject e
  -- each request is of one of these Ejects
  pub there : AllThere rs es
  -- only the first request has made device calls
  pub unmade : AllUnmade (rest rs)
  -- the first request, where there is one, may make one more device call
  pub call_left : HasLeft size rs

-- the node of this number is sound, with the requests to its store and its Ejects
abbrev pub Sound : ℕ → Node → Type 0
Sound n it = IsSound n it.size it.requests it.ejects

-- the stored epoch and the one in doubt, where there are such, are at most the last epoch, 4,294,967,295; and before one is stored
-- no Eject is there
pub record HasEpochs (it : Node) : Type 0 where
  -- what is stored is at most the last epoch there is
  pub stored : IfSome it.epoch (λ e. e ≤ last_epoch)
  -- and so is the one of which it is not known whether it is stored
  pub doubted : IfSome it.epoch_doubt (λ e. e ≤ last_epoch)
  -- where an Eject is there, an epoch is stored
  pub stored_first : (u : Uid) → is_some (value_at uid_cmp u it.ejects) ≡ true → is_some it.epoch ≡ true

-- 4. Calls

-- the calls are numbered one behind another, from n on
abbrev pub AreNumbered : ℕ → List (ℕ × Call) → Type 0
AreNumbered n [] = Unit {0}
AreNumbered n (e ∷ es) = (e.0 ≡ n) × AreNumbered (n + 1) es

-- the call is held at this Eject
abbrev pub IsHeldAt : Traffic → Uid → ℕ → Type 0
IsHeldAt t u k = IsSomeAnd (call_at t k) (λ c. (c.place ≡ held) × (c.target.uid ≡ u))

-- the call is open, and this process asked it
abbrev pub IsOpenOf : Traffic → Uid → ℕ → ℕ → Type 0
IsOpenOf t u p k = IsSomeAnd (call_at t k) (λ c. (c.open_ ≡ true) × (c.asker ≡ Process u p))

-- 5. A site

-- an Eject that is there: what it runs and what it has queued is held at it, and it has each call once
pub record IsSoundEject (t : Traffic) (u : Uid) (e : Eject) : Type 0 where
  -- each call that it runs or has queued is held at it
  pub held : AllByRecursion (IsHeldAt t u) (work_of e)
  -- no call is run or queued twice, nor both run and queued
  pub once : Distinct (work_of e)
  -- where it is active, its queues of processes are in order, and none of its conditions names 0 as its monitor
  pub laid : IfSome e.active (λ it. IsLaid it.crew)

-- A process that asked an open call, or has a request at the store, is there and waits for what is outside: for that alone.
pub record IsSoundProcess (t : Traffic) (rs : List StoreRequest) (u : Uid) (p : ℕ) (o : Option Eject) : Type 0 where
  -- while a call that it asked is open, it is there, waits for what is outside, and has no request at the store
  pub asks : (k : ℕ) → IsOpenOf t u p k → WaitsIn o p × (at_store u p rs ≡ 0)
  -- no two calls that it asked are open
  pub single : (j k : ℕ) → IsOpenOf t u p j → IsOpenOf t u p k → j ≡ k
  -- while it has a request at the store, it is there and waits for what is outside
  pub stores : 1 ≤ at_store u p rs → WaitsIn o p
  -- it has at most one request at the store
  pub alone : at_store u p rs ≤ 1

-- the node is sound, the calls are numbered from 1, and what its Ejects run and its processes wait for agrees with them
pub record IsSoundSite (s : Site) : Type 0 where
  -- the node is sound by itself
  pub node : Sound s.number s.node
  -- the calls have the numbers from 1 on, none left out
  pub numbered : AreNumbered 1 s.traffic.calls
  -- each Eject of the node runs and has queued only what is held at it, each call once
  pub ejects : (u : Uid) (e : Eject) → eject_in s u ≡ Some e → IsSoundEject s.traffic u e
  -- under any uid of this node, a process that asked an open call or has a request at the store waits for that alone
  pub processes : (u : Uid) (p : ℕ) → u.node ≡ s.number → IsSoundProcess s.traffic s.node.requests u p (eject_in s u)

-- and the other way round: a call that is held at an Eject of the site is one that it runs or has queued
abbrev pub HoldsItsWork : Site → Type 0
HoldsItsWork s = (u : Uid) (k : ℕ) → u.node ≡ s.number → IsHeldAt s.traffic u k → IsSomeAnd (eject_in s u) (λ e. has k (work_of e) ≡ true)

-- 6. A world

-- F holds of every node
abbrev pub Everywhere : (ℕ → Node → Type 0) → World → Type 0
Everywhere F w = (n : ℕ) (it : Node) → node_at w n ≡ Some it → F n it

-- the nodes stand in ascending order, and are those that H names
pub record InPlace (H : ℕ → Bool) (ns : List (ℕ × Node)) : Type 0 where
  -- the numbers of the nodes rise from each to the next
  pub ordered : T (is_sorted nat_cmp ns)
  -- there is a node of a number where H says so, and nowhere else
  pub present : (n : ℕ) → is_some (value_at nat_cmp n ns) ≡ H n

-- Q holds of the node of each call that is asked
pub record AskedAll (Q : ℕ → Type 0) (t : Traffic) : Type 0 where
  -- where the request of a call is on its way, Q holds of the node of its target
  pub at : (k : ℕ) (c : Call) → call_at t k ≡ Some c → c.place ≡ asked → Q (target_station c)

-- the nodes are those that H names, and a call on its way goes to one of them
pub record SoundWorld (H : ℕ → Bool) (w : World) : Type 0 where
  -- the nodes that H names are there, in order, and no others
  pub place : InPlace H w.nodes
  -- each node is sound
  pub nodes : Everywhere Sound w
  -- each request on its way goes to a node that H names
  pub asked : AskedAll (λ n. H n ≡ true) w.traffic

-- each node of the world, with the calls, is a sound site
abbrev pub AllSound : World → Type 0
AllSound w = Everywhere (λ n it. IsSoundSite (site_of w n it)) w

-- 7. Calls around an event

-- A call goes on: who asked it, what of whom and with which arguments stays. Once it is closed it stays so, nothing more is sent of
-- it, and once it is over besides it stays over.
pub record GoesOn (c d : Call) : Type 0 where
  -- who asked is as it was
  pub asker : d.asker ≡ c.asker
  -- the capability by which the call was made is as it was
  pub target : d.target ≡ c.target
  -- the name of the operation is as it was
  pub operation : d.operation ≡ c.operation
  -- the arguments are as they were
  pub args : d.args ≡ c.args
  -- what was closed stays closed
  pub closed : c.open_ ≡ false → d.open_ ≡ false
  -- where it was closed and no message of it was on its way, none is now
  pub quiet : c.open_ ≡ false → in_transit c.place ≡ false → in_transit d.place ≡ false
  -- where it was closed and over, it is over still
  pub ended : c.open_ ≡ false → c.place ≡ over → d.place ≡ over

-- the call is new: a process of node n asked it, and it is on its way or was refused as it was sent
pub record IsNewFrom (n : ℕ) (d : Call) : Type 0 where
  -- the Eject of the process that asked it
  pub uid : Uid
  -- the number of that process
  pub process : ℕ
  -- it was asked by this process of this Eject
  pub asker : d.asker ≡ Process uid process
  -- its Eject is of node n
  pub of_node : uid.node ≡ n
  -- its request is on its way; or it is over and closed, as one that was refused at once
  pub place : (d.place ≡ asked) ⊎ ((d.place ≡ over) × (d.open_ ≡ false))

-- the calls around an event at node n: each goes on, and each other is new from there
pub record CallsGoOn (n : ℕ) (t new : Traffic) : Type 0 where
  -- no call of before is lost, and each goes on under its number
  pub goes : (k : ℕ) (c : Call) → call_at t k ≡ Some c → IsSomeAnd (call_at new k) (GoesOn c)
  -- a call that is there now was there before, or is new from node n
  pub comes : (k : ℕ) (d : Call) → call_at new k ≡ Some d → (is_some (call_at t k) ≡ true) ⊎ IsNewFrom n d

-- a process of node n asked the call
abbrev pub IsAskedAt : ℕ → Asker → Type 0
IsAskedAt n (Shell name) = ⊥
IsAskedAt n (Process u p) = u.node ≡ n

-- the call goes to node n, or was asked there
abbrev pub Concerns : ℕ → Call → Type 0
Concerns n c = (target_station c ≡ n) ⊎ IsAskedAt n c.asker

-- nobody waits for the call, and nothing of it is on its way; and if it went to node n, it is over
pub record IsCutOff (n : ℕ) (c : Call) : Type 0 where
  -- its answer matters to nobody any more
  pub closed : c.open_ ≡ false
  -- neither its request nor its reply is on its way
  pub quiet : in_transit c.place ≡ false
  -- where its target is on node n, it is over
  pub ended : target_station c ≡ n → c.place ≡ over

-- 8. Which fields of its node an event may change: of the first node with those fields of the second

-- by a delivery or the start of an invocation: the Ejects
abbrev pub with_ejects : Node → Node → Node
with_ejects it new = record it { ejects = new.ejects }

-- where an active part ends: the Ejects and the requests to the store
abbrev pub with_work : Node → Node → Node
with_work it new = record it { ejects = new.ejects; requests = new.requests }

-- by the turn of a process: the Ejects, the requests, and the serial that was given last
abbrev pub with_births : Node → Node → Node
with_births it new = record it { ejects = new.ejects; requests = new.requests; last_serial = new.last_serial }

-- by an activation that does not stop: the Ejects, the epoch and its doubt, the settling's sync, and the ledger
abbrev pub with_doubts : Node → Node → Node
with_doubts it new = record it {
  ejects = new.ejects;
  epoch = new.epoch;
  epoch_doubt = new.epoch_doubt;
  synced = new.synced;
  ledger = new.ledger;
}

-- by a turn of the store that does not stop: what such an activation may change, and the requests
abbrev pub with_store : Node → Node → Node
with_store it new = record (with_doubts it new) { requests = new.requests }

-- by a power cut, or a turn of the store that stops: the Ejects, the requests, whether it is up, and the settling's sync
abbrev pub with_fall : Node → Node → Node
with_fall it new = record it { ejects = new.ejects; requests = new.requests; up = new.up; synced = new.synced }

-- by an activation that stops: what one that does not may change, the requests, and whether it is up
abbrev pub with_start : Node → Node → Node
with_start it new = record (with_doubts it new) { requests = new.requests; up = new.up }

-- by a boot: what an activation that does not stop may change, the serial that was given last, and whether it is up
abbrev pub with_boot : Node → Node → Node
with_boot it new = record (with_doubts it new) { last_serial = new.last_serial; up = new.up }

-- by the event; the size of the disk, what is damaged on it or too much, and the clock are changed by none
abbrev pub with_changes_of : Event → Node → Node → Node
with_changes_of (event.Request k a b refused) = with_ejects
with_changes_of (event.Reply k a b name status values) = with_ejects
with_changes_of (event.Activate u start_end.Stop p) = with_start
with_changes_of (event.Activate u how p) = with_doubts
with_changes_of (event.Start k u p) = with_ejects
with_changes_of (event.Process u p said) = with_births
with_changes_of (event.Store u clock request_end.Stop p) = with_fall
with_changes_of (event.Store u clock how p) = with_store
with_changes_of (event.Boot n e how p began) = with_boot
with_changes_of (event.Crash n) = with_fall
with_changes_of _ = λ it new. it

-- what an event at a node leaves of its site
pub record KeepsSite (e : Event) (s new : Site) : Type 0 where
  -- it is the site of the same node
  pub number : new.number ≡ s.number
  -- the types of the script are the same
  pub types : new.types ≡ s.types
  -- the layout of the disk is the same
  pub layout : new.layout ≡ s.layout
  -- the node differs only in what an event of this kind may change
  pub node : new.node ≡ with_changes_of e s.node new.node
