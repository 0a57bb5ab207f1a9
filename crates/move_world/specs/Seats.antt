-- What stands at the places of nodes, and what commands do there.
use Rattle.std.specs.Prelude.{◌≡◌, ◌≢◌, ◌⊎◌, ℕ, Bool, true, false, IsTrue, Option}
use Rattle.capability.specs.declared.Uid.{Uid}
use Rattle.eden_value.specs.Datum.{Datum}
use Rattle.eden_disk.specs.Told.{Told, contents, Left}
use Rattle.eden_disk.specs.Calls.{IsCut}
use Rattle.passive_store.specs.Kept.{Layout}
use Rattle.passive_store.specs.Seen.{Seen, DiskSeen}
use Rattle.move_laws.specs.World.{Node, World, Call, Wake, Ended, fallen, at_node}
use Rattle.eden_move.specs.Shown.{IsOpen}
use Rattle.move_world.specs.Logs.{Answer, Ends, Done, Calls, IsMisplaced, IsWakingOf, IsOpened}
use Rattle.move_world.specs.InHand.{Rests, Serves, ArePostsFit}
use Rattle.move_world.specs.Asking.{Manned, manned, how_in}
use Rattle.move_world.specs.declared.seat.Seat.{Seat}
use Rattle.move_world.specs.declared.seat.Seat.TheVariants as seat

-- what is seen of a place: a node that is up, the disk of one that is down, or nothing
pub data Standing : Type 0 where
  Serving : Manned → Standing
  Resting : DiskSeen → Standing
  Away : Standing

abbrev pub opened_as : Bool → Manned → Standing
opened_as true m = Serving m
opened_as false m = Resting m.seen.disk

-- by what is seen of stores and of disks
abbrev pub standing : {T D : Type 0} → (T → Seen) → (D → DiskSeen) → Seat T D → Standing
standing seen look (seat.Opened n up) = opened_as up (manned seen n)
standing seen look (seat.Shut d) = Resting (look d)
standing seen look seat.Moving = Away

abbrev pub is_serving : Standing → Bool
is_serving (Serving m) = true
is_serving (Resting d) = false
is_serving Away = false

-- a node that is up has its number, no job, and a disk with power
pub record IsManned (n : ℕ) (m : Manned) : Type 0 where
  pub of : IsOpen m.number m.seen
  pub number : m.number ≡ n
  pub power : IsTrue m.seen.disk.counts.power

-- something stands at the place of this number
abbrev pub IsSound : ℕ → Standing → Type 0
IsSound n (Serving m) = IsManned n m
IsSound n (Resting d) = Unit {0}
IsSound n Away = ⊥

-- it stands for this node
abbrev pub StandsFor : Layout → ℕ → Standing → Node Datum → Type 0
StandsFor layout n (Serving m) x = Serves layout n m.seen m.mind x
StandsFor layout n (Resting d) x = Rests layout n d.told x
StandsFor layout n Away x = ⊥

-- a disk lost its power between two calls; what a read saw before is an image that a crash may leave
abbrev pub IsCutFrom : ℕ → Told → Told → Type 0
IsCutFrom clock old new = Left (contents old) (contents old).now × IsCut clock old new

-- how a call ended is its answer; a waking that was not refused gives the value in memory
abbrev pub IsReplyOf : Call Datum → Option (ℕ × Datum) → Ended Datum → Answer → Type 0
IsReplyOf Wake memory how a = IsWakingOf memory how a
IsReplyOf c memory how a = a ≡ Ends how

-- from one world to another nothing changed but one node, for which this stands
pub record Turned (layout : Layout) (n : ℕ) (new : Standing) (w x : World Datum) : Type 0 where
  pub others : (k : ℕ) → k ≢ n → x.node k ≡ w.node k
  pub stands : StandsFor layout n new (x.node n)

-- the node was called, and answered so
pub record Asked (layout : Layout) (n : ℕ) (u : Uid) (c : Call Datum) (a : Answer) (new : Standing) (w : World Datum) : Type 0 where
  pub up : (w.node n).up ≡ true
  pub how : Ended Datum
  pub named : how ≡ how_in a
  pub world : World Datum
  pub calls : Calls n u c how w world
  pub reply : IsReplyOf c ((world.node n).memory u) how a
  pub turned : Turned layout n new w world
  pub fit : ArePostsFit world.posted

-- the node was in another state than the command needs, and stands there as it did
pub record Passed (layout : Layout) (n : ℕ) (needs : Bool) (a : Answer) (new : Standing) (w : World Datum) : Type 0 where
  pub misplaced : IsMisplaced n needs a w w
  pub stands : StandsFor layout n new (w.node n)

-- one or the other
abbrev pub AskedAt : Layout → ℕ → Uid → Call Datum → Answer → Standing → World Datum → Type 0
AskedAt layout n u c a new w = Passed layout n true a new w ⊎ Asked layout n u c a new w

-- the node crashed, if it was up
abbrev pub CrashedAt : Layout → ℕ → Answer → Standing → World Datum → Type 0
CrashedAt layout n a new w =
    Passed layout n true a new w
    ⊎ (((w.node n).up ≡ true) × (a ≡ Done) × Turned layout n new w (at_node n (fallen (w.node n)) w))

-- the disk of the node was opened, if it was down
abbrev pub OpenedAt : Layout → ℕ → Answer → Standing → World Datum → Type 0
OpenedAt layout n a new w =
    Passed layout n false a new w
    ⊎ (((w.node n).up ≡ false) × (x : World Datum) × IsOpened n a w x × Turned layout n new w x × (x.posted ≡ w.posted))

-- the disk of a node that is up was asked for a failure or a stop
abbrev pub ArmedAt : Layout → ℕ → Answer → Standing → World Datum → Type 0
ArmedAt layout n a new w =
    Passed layout n true a new w ⊎ (((w.node n).up ≡ true) × (a ≡ Done) × StandsFor layout n new (w.node n))
