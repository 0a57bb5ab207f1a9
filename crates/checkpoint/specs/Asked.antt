-- The requests of a worker as those of a node, and what a step of it leaves.
use Rattle.std.specs.Prelude.{◌≡◌, ℕ, ◌+◌, ◌≤◌, Bool, false, IsTrue, List, [], ◌∷◌, map, length, Option, None, Some, IfSome}
use Rattle.std.specs.Option.{option_map}
use Rattle.std.specs.FinMap as finite
use Rattle.eden_model.specs.Map.{first}
use Rattle.eden_disk.specs.Calls.{Counts, DeviceCalls, End, Fine, AtFault, AtStop}
use Rattle.capability.specs.declared.Uid.{Uid}
use Rattle.passive_store.specs.declared.store.Doubt.{Doubt}
use Rattle.passive_store.specs.declared.store.Pick.{Pick}
use Rattle.passive_store.specs.Kept.{Layout, Kept, Work, Idle, Busy, Unsettled, doubt_in, IsEject}
use Rattle.passive_store.specs.Kept.{StoreChange}
use Rattle.passive_store.specs.Seen.{Seen, Asked}
use Rattle.journal.specs.declared.event.RequestEnd.TheVariants as end
use Rattle.journal.specs.World.{Site, StoreRequest}
use Rattle.checkpoint.specs.Found.{change_of}
use Rattle.checkpoint.specs.StoreStands.{StoreStands}
use Rattle.checkpoint.specs.Turns.{TurnsStore, TurnsDown, IsNextCall}
use Rattle.checkpoint.specs.declared.worker.Wish.{Wish}
use Rattle.checkpoint.specs.declared.worker.Wish.TheVariants.{Put, Delete}
use Rattle.checkpoint.specs.declared.worker.Request.{Request}
use Rattle.checkpoint.specs.declared.worker.StoreEnd.{StoreEnd}
use Rattle.checkpoint.specs.declared.worker.StoreEnd.TheVariants as store_end
use Rattle.checkpoint.specs.declared.worker.Settled.{Settled}
use Rattle.checkpoint.specs.declared.worker.StepEnd.{StepEnd}
use Rattle.checkpoint.specs.declared.worker.StepEnd.TheVariants.{Going, Ended}

-- 1. Requests

-- the bytes that are to be kept, or nothing
abbrev pub body_asked : Wish → Option (List ℕ)
body_asked (Put bytes) = Some bytes
body_asked Delete = None

-- what it asks of the store
abbrev pub ask_of : Request → Asked
ask_of q = record { uid = q.uid; body = body_asked q.wish }

-- a request that has made so many device calls, as the node has it
abbrev pub request_of : ℕ → Request → StoreRequest
request_of made q = record { uid = q.uid; process = q.process; change = change_of (body_asked q.wish); made = made }

-- how many device calls the job of the first request has made
abbrev pub made_in : Work → ℕ
made_in Idle = 0
made_in (Busy c made left) = made
made_in (Unsettled c synced) = 0

-- the requests of a worker as those of its node: the first alone has made device calls
abbrev pub requests_of : Work → List Request → List StoreRequest
requests_of work [] = []
requests_of work (q ∷ qs) = request_of (made_in work) q ∷ map (request_of 0) qs

-- a body is within its limit
abbrev pub IsSizedWish : Wish → Type 0
IsSizedWish (Put bytes) = length bytes ≤ 262144
IsSizedWish Delete = Unit {0}

-- each request is of an Eject of this node, with a body within its limit
abbrev pub IsOfNode : ℕ → Request → Type 0
IsOfNode n q = IsEject n q.uid × IsSizedWish q.wish

-- all of these requests
abbrev pub AllOfNode : ℕ → List Request → Type 0
AllOfNode n [] = Unit {0}
AllOfNode n (q ∷ qs) = IsOfNode n q × AllOfNode n qs

-- 2. A store at one time

-- what is seen of it stands for the node
abbrev pub StandsNow : Layout → ℕ → Site → List StoreRequest → Seen → Type 0
StandsNow layout n s requests x = StoreStands layout n s requests x.work x.kept x.more x.disk.counts.size x.disk.counts.clock x.disk.told

-- the doubt as it may be noted before the store goes
abbrev pub noted_in : Option StoreChange → Kept → Option Doubt
noted_in None kept = None
noted_in (Some c) kept = Some (record { uid = c.uid; mark = finite.get kept.marks c.uid })

-- 3. What a settling found

-- which of the two states
abbrev pub pick_of : Option Settled → Option Pick
pick_of found = option_map (λ x. x.pick) found

-- it is told of the Eject that was in doubt
abbrev pub IsOfDoubted : Option Uid → Option Settled → Type 0
IsOfDoubted doubted found = IfSome found (λ x. doubted ≡ Some x.uid)

-- and in a step
abbrev pub TellsWhose : Option Uid → StepEnd → Type 0
TellsWhose doubted (Going found) = IsOfDoubted doubted found
TellsWhose doubted (Ended q e) = Unit {0}

-- 4. A step

-- the first request ended so, or goes on, and may have picked: the node's turn
abbrev pub StepsTo : Layout → ℕ → Site → List Request → Seen → List Request → Seen → StepEnd → Type 0
StepsTo layout n s asked x left y (Going found) = IfSome (first asked) (λ q. TurnsStore layout n s (request_of (made_in x.work) q) end.Part
    (pick_of found) x.disk.told x.disk.counts.clock (requests_of y.work left) y.work y.kept y.more y.disk.counts.size y.disk.told
    y.disk.counts.clock)
StepsTo layout n s asked x left y (Ended q store_end.Done) = TurnsStore layout n s (request_of (made_in x.work) q) end.Done None
    x.disk.told x.disk.counts.clock (requests_of y.work left) y.work y.kept y.more y.disk.counts.size y.disk.told y.disk.counts.clock
StepsTo layout n s asked x left y (Ended q store_end.Full) = TurnsStore layout n s (request_of (made_in x.work) q) end.Full None
    x.disk.told x.disk.counts.clock (requests_of y.work left) y.work y.kept y.more y.disk.counts.size y.disk.told y.disk.counts.clock
StepsTo layout n s asked x left y (Ended q store_end.Fault) = TurnsStore layout n s (request_of (made_in x.work) q) end.Fault None
    x.disk.told x.disk.counts.clock (requests_of y.work left) y.work y.kept y.more y.disk.counts.size y.disk.told y.disk.counts.clock
StepsTo layout n s asked x left y (Ended q store_end.Stopped) = TurnsDown layout n s (request_of (made_in x.work) q)
    x.disk.told x.disk.counts.clock y.more (noted_in (doubt_in y.work) y.kept) y.disk.counts.size y.disk.told y.disk.counts.clock

-- the next call of a job, at a site for which the store stood before the job was begun, or stands
abbrev pub IsNextOf : Layout → Site → List StoreRequest → Work → Work → Kept → ℕ → Type 0
IsNextOf layout s [] work w kept size = ⊥
IsNextOf layout s (r ∷ rs) Idle w kept size = ⊥
IsNextOf layout s (r ∷ rs) (Busy c made left) w kept size = IsNextCall layout s r rs c made left w kept size
IsNextOf layout s (r ∷ rs) (Unsettled c synced) w kept size = ⊥

-- what is known before a job's next call: the store stood for the site with this work
pub record IsUnderJob (layout : Layout) (n : ℕ) (s : Site) (asked : List Request) (x : Seen) (w : Work) (more : ℕ) : Type 0 where
  pub stood : StoreStands layout n s (requests_of x.work asked) w x.kept more x.disk.counts.size x.disk.counts.clock x.disk.told
  pub next : IsNextOf layout s (requests_of x.work asked) x.work w x.kept x.disk.counts.size

-- A step is the turn of each node for which the store stands, while its room is told; and of the changes for which it is told it takes
-- one at most.
abbrev pub TakesStep : Layout → List Request → Seen → List Request → Seen → StepEnd → Type 0
TakesStep layout asked x left y result = (s : Site) → 1 ≤ x.more → StandsNow layout x.node s (requests_of x.work asked) x
    → StepsTo layout x.node s asked x left y result × (x.more ≤ y.more + 1)

-- the same of a job's next call
abbrev pub MakesCall : Layout → List Request → Seen → List Request → Seen → StepEnd → Type 0
MakesCall layout asked x left y result = (s : Site) (w : Work) (more : ℕ) → IsUnderJob layout x.node s asked x w more
    → StepsTo layout x.node s asked x left y result

-- 5. How the queue of a worker goes on

-- the first request ended so
abbrev pub EndsFirst : List Request → List Request → StoreEnd → StepEnd → Type 0
EndsFirst old new how (Going p) = ⊥
EndsFirst old new how (Ended q e) = (old ≡ q ∷ new) × (e ≡ how)

-- the request that ended was the first, or none ended
abbrev pub QueueGoes : List Request → List Request → StepEnd → Type 0
QueueGoes old new (Going p) = new ≡ old
QueueGoes old new (Ended q e) = old ≡ q ∷ new

-- the disk has power, unless it stopped
abbrev pub PowerBehind : StoreEnd → Counts → Type 0
PowerBehind store_end.Done counts = IsTrue counts.power
PowerBehind store_end.Full counts = IsTrue counts.power
PowerBehind store_end.Fault counts = IsTrue counts.power
PowerBehind store_end.Stopped counts = Unit {0}

-- the same behind a step
abbrev pub KeepsPower : Counts → StepEnd → Type 0
KeepsPower counts (Going p) = IsTrue counts.power
KeepsPower counts (Ended q e) = PowerBehind e counts

-- a job that has begun goes on until its request ends
abbrev pub StaysBegun : Bool → StepEnd → Type 0
StaysBegun begun (Going p) = IsTrue begun
StaysBegun begun (Ended q e) = Unit {0}

-- behind the end of the first request no job goes on
abbrev pub EndsJob : Bool → StepEnd → Type 0
EndsJob busy (Going p) = Unit {0}
EndsJob busy (Ended q e) = busy ≡ false

-- 6. Its device call

-- how the last device call ended of a request that ended so
abbrev pub call_end : StoreEnd → End
call_end store_end.Done = Fine
call_end store_end.Full = Fine
call_end store_end.Fault = AtFault
call_end store_end.Stopped = AtStop

-- and in a step
abbrev pub end_of_step : StepEnd → End
end_of_step (Going p) = Fine
end_of_step (Ended q e) = call_end e

-- A step makes at most one device call. It ends in a fault or a stop exactly where that call did, so where that count rose.
pub record OneCall (before after : Counts) (result : StepEnd) : Type 0 where
  pub made : ℕ
  pub most : made ≤ 1
  pub counts : DeviceCalls made before after (end_of_step result)
