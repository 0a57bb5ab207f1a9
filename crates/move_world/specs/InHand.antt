-- What a script has in hand: of each node its store and its memory, or its disk, as a node of the world.
use Rattle.std.specs.Prelude.{◌≡◌, ◌≢◌, ◌⊎◌, ℕ, true, false, List, [], ◌∷◌, Option, Some, Result, Ok, Err}
use Rattle.std.specs.Option.{option_map}
use Rattle.capability.specs.declared.Uid.{Uid}
use Rattle.eden_value.specs.Datum.{Datum}
use Rattle.eden_disk.specs.Told.{Told}
use Rattle.passive_store.specs.declared.store.StoreRefusal.{StoreRefusal}
use Rattle.passive_store.specs.declared.store.StoreRefusal.TheVariants.{Failed, Stopped as StoreStopped, OutOfMemory as StoreOutOfMemory}
use Rattle.passive_store.specs.Kept.{Kept, Layout, Work, LeavesKept, doubt_in, body_at}
use Rattle.passive_store.specs.Seen.{Seen}
use Rattle.move_laws.specs.World.{Node, World, Post, Call, Ended, Refused, Stopped, Pick, SettlesAs}
use Rattle.eden_move.specs.Records.{record_in}
use Rattle.eden_move.specs.Minds.{Remembered}
use Rattle.eden_move.specs.Shown.{key, IsWanderer, ShowsDoubt, Shows, Stands, IsFitPost}
use Rattle.move_world.specs.Logs.{Calls, risen}

-- A disk at rest stands for a node that is down: each image that a crash may leave keeps what the node keeps, with or without the
-- change in doubt.
pub record Rests (layout : Layout) (n : ℕ) (told : Told) (x : Node Datum) : Type 0 where
  pub down : x.up ≡ false
  pub kept : Kept
  pub more : ℕ
  pub work : Work
  pub stands : LeavesKept layout n more kept work told
  pub same : (u : Uid) → IsWanderer u → x.kept u ≡ option_map record_in (body_at kept (key n u))
  pub doubt : ShowsDoubt n (doubt_in work) x.doubt

-- A store and a memory stand for a node that is up, and a crash of it leaves only images that stand for what is kept.
pub record Serves (layout : Layout) (n : ℕ) (s : Seen) (m : Uid → Option Remembered) (x : Node Datum) : Type 0 where
  pub up : x.up ≡ true
  pub node : s.node ≡ n
  pub shows : Shows s m x
  pub stands : Stands layout s

-- a node that answered goes on serving; one that stopped rests
abbrev pub Stays : Layout → ℕ → Ended Datum → Seen → (Uid → Option Remembered) → Node Datum → Type 0
Stays layout n (Refused Stopped) s m x = Rests layout n s.disk.told x
Stays layout n how s m x = Serves layout n s m x

-- what letters carry is within its limits
abbrev pub ArePostsFit : List (Post Datum) → Type 0
ArePostsFit [] = Unit {0}
ArePostsFit (p ∷ ps) = IsFitPost (Some p.letter) × ArePostsFit ps

-- A call of a node that serves led from this world to one in which it goes on or rests; the others are as they were.
pub record Led (layout : Layout) (n : ℕ) (u : Uid) (c : Call Datum) (how : Ended Datum) (s : Seen) (m : Uid → Option Remembered)
    (w : World Datum) : Type 0 where
  pub world : World Datum
  pub calls : Calls n u c how w world
  pub others : (k : ℕ) → k ≢ n → world.node k ≡ w.node k
  pub stays : Stays layout n how s m (world.node n)
  pub fit : ArePostsFit world.posted

-- The disk of a node that rests was opened, and the node is up, with its doubt settled; or a device call of that was refused, or memory
-- was wanting, and it goes on resting.
abbrev pub OpensNode : Layout → ℕ → Result Seen StoreRefusal → (Uid → Option Remembered) → Told → Node Datum → Type 0
OpensNode layout n (Ok s) m told x = (pick : Option Pick) × SettlesAs pick x × Serves layout n s m (risen pick x)
OpensNode layout n (Err e) m told x =
    ((e ≡ Failed) ⊎ ((e ≡ StoreStopped) ⊎ (e ≡ StoreOutOfMemory))) × Rests layout n told x
