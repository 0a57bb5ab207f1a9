-- A turn of the store at a site: what it leaves of the site, of the store and of the disk.
use Rattle.std.specs.Prelude.{◌≡◌, ℕ, ◌+◌, ◌*◌, ◌/◌, ◌≤◌, false, List, [], length, Option, None, Some, IfSome}
use Rattle.std.specs.FinMap as finite
use Rattle.eden_disk.specs.Told.{Told, contents, LeavesOnly}
use Rattle.passive_store.specs.declared.store.Pick.{Pick}
use Rattle.passive_store.specs.declared.store.Doubt.{Doubt}
use Rattle.passive_store.specs.Kept.{Layout, Kept, Work, Busy, doubt_in, changes_in, IsFresh}
use Rattle.passive_store.specs.Acts.{DiskCall}
use Rattle.passive_store.specs.Kept.{StoreChange, Stands as StandsKept}
use Rattle.journal.specs.declared.event.RequestEnd.{RequestEnd}
use Rattle.journal.specs.World.{Site, StoreRequest, on_node}
use Rattle.journal.specs.Sites.{AllUnmade}
use Rattle.journal.specs.declared.event.RequestEnd.TheVariants as end
use Rattle.journal.specs.Stores.{AllowsStore, store_turn, removed, calls, work_of}
use Rattle.checkpoint.specs.Found.{change_of}
use Rattle.checkpoint.specs.StoreStands.{NodeOnDisk, MapStands, StoreStands}

-- the site once its entry is written: its disk's clock is that of the entry
abbrev pub with_clock : ℕ → Site → Site
with_clock c s = on_node (λ it. record it { clock = Some c }) s

-- 1. A node that goes on

-- what is left to do once a request is done: where that was a removal, the Eject goes
abbrev pub with_removal : RequestEnd → StoreRequest → Site → Site
with_removal end.Done r s = removed r.change r.uid s
with_removal _ r s = s

-- The turn is allowed; but for a removal it leads to the next site, for which the store stands; and the disk did what it may.
pub record TurnsStore (layout : Layout) (n : ℕ) (s : Site) (r : StoreRequest) (how : RequestEnd) (p : Option Pick) (old : Told) (before : ℕ)
    (later : List StoreRequest) (work : Work) (kept : Kept) (more size : ℕ) (new : Told) (after : ℕ) : Type 0 where
  pub next : Site
  pub allowed : AllowsStore s r.uid how p r
  pub leads : store_turn how p s ≡ with_removal how r next
  pub stands : StoreStands layout n (with_clock after next) later work kept more size after new
  pub disk : NodeOnDisk layout n s.node [] next.node old before new after

-- 2. A node that is down: its disk, and what was noted of the change in doubt before the store went

-- its uid, with the mark that it had then
abbrev pub IsNoted : Kept → Option StoreChange → Option Doubt → Type 0
IsNoted kept None noted = noted ≡ None
IsNoted kept (Some c) noted = noted ≡ Some (record { uid = c.uid; mark = finite.get kept.marks c.uid })

-- before the first entry on the disk there is no clock
abbrev pub ClockStands : Option ℕ → ℕ → Type 0
ClockStands its clock = IfSome its (λ c. c ≡ clock)

-- a disk without power stands for a node that is down
pub record RestStands (layout : Layout) (n more : ℕ) (s : Site) (noted : Option Doubt) (size clock : ℕ) (told : Told) : Type 0 where
  pub number : s.number ≡ n
  pub its_layout : s.layout ≡ layout
  pub is_down : s.node.up ≡ false
  pub queue : s.node.requests ≡ []
  pub unsynced : s.node.synced ≡ false
  pub its_size : s.node.size ≡ size
  pub its_clock : ClockStands s.node.clock clock
  pub not_overfull : s.node.overfull ≡ false
  pub kept : Kept
  pub doubt : Option StoreChange
  pub keeps : MapStands n s kept doubt
  pub is_noted : IsNoted kept doubt noted
  pub fresh : IfSome doubt (λ c. IsFresh c kept)
  pub stands : LeavesOnly (StandsKept layout n more kept (changes_in doubt)) (contents told)

-- the node stopped in the turn
pub record TurnsDown (layout : Layout) (n : ℕ) (s : Site) (r : StoreRequest) (old : Told) (before more : ℕ) (noted : Option Doubt)
    (size : ℕ)
    (new : Told) (after : ℕ) : Type 0 where
  pub allowed : AllowsStore s r.uid end.Stop None r
  pub rests : RestStands layout n more (with_clock after (store_turn end.Stop None s)) noted size after new
  pub disk : NodeOnDisk layout n s.node [] (store_turn end.Stop None s).node old before new after

-- 3. A device call of a request's job

-- A job that was begun, or goes on: what of it stands before its next call. The store stood for the site before it was begun.
pub record IsNextCall (layout : Layout) (s : Site) (r : StoreRequest) (rs : List StoreRequest) (c : StoreChange) (made : ℕ)
    (left : List DiskCall) (w : Work) (kept : Kept) (size : ℕ) : Type 0 where
  pub same_doubt : doubt_in (Busy c made left) ≡ doubt_in w
  pub uid : r.uid ≡ c.uid
  pub change : r.change ≡ change_of c.body
  pub wrote : c.wrote ≡ layout.grows c.body
  pub at : work_of s r ≡ calls
  pub calls_made : r.made ≡ made
  pub some_left : 1 ≤ length left
  pub bounded : made + length left ≤ 2 * (size / 1024) + 4
  pub others : AllUnmade rs
  pub fresh : IsFresh c kept
  pub unsynced : s.node.synced ≡ false
