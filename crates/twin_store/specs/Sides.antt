-- What is seen of one of the two disks of a twin, and what calls leave of it.
use Rattle.std.specs.Prelude.{◌≡◌, ◌⊎◌, ℕ, ◌≤◌, Bool, true, false, IsTrue, is_some, List, length, Option, None, Some}
use Rattle.std.specs.Prelude.{Result, Ok, Err, OnOk, IfErr}
use Rattle.std.specs.FinMap as map
use Rattle.capability.specs.declared.Uid.{Uid}
use Rattle.eden_disk.specs.Calls.{one_more, armed}
use Rattle.eden_disk.specs.declared.disk.Arm.{Arm}
use Rattle.eden_disk.specs.Told.{contents}
use Rattle.passive_store.specs.Kept.{Layout, IsEject, IsOwn, IsNextOf, reserved_uid}
use Rattle.passive_store.specs.Layout.{IsLayout}
use Rattle.passive_store.specs.Seen.{Seen, DiskSeen, Asked}
use Rattle.twin_store.specs.declared.served.TwinRefusal.{TwinRefusal}
use Rattle.twin_store.specs.declared.served.TwinRefusal.TheVariants.{Full}
use Rattle.twin_store.specs.declared.side.Side.{Side}
use Rattle.twin_store.specs.declared.side.Side.TheVariants as side
use Rattle.twin_store.specs.Vouched.{Bodies, changed_by, generation_in, bodies_found}
use Rattle.twin_store.specs.Footings.{Footing, MayFind, IsFooted, Finds, IsMapped}
use Rattle.twin_store.specs.Serving.{IsReady, MayKeep, Same, IsPassedOn, stops_by, has_room_in, IsFullIn}

-- what is seen of a disk of a pair: of its store where it is in use, and else of the disk
pub data SideSeen : Type 0 where
  InUse : Seen → SideSeen
  Away : DiskSeen → SideSeen

-- by whether its store is in use
abbrev pub opened_side : Bool → Seen → SideSeen
opened_side true s = InUse s
opened_side false s = Away s.disk

-- what is seen of a disk of a pair, by what is seen of stores and of disks
abbrev pub side_seen : {S D : Type 0} → (S → Seen) → (D → DiskSeen) → Side S D → SideSeen
side_seen seen look (side.Opened store used) = opened_side used (seen store)
side_seen seen look (side.Shut disk) = Away (look disk)

abbrev pub is_in_use : SideSeen → Bool
is_in_use (InUse s) = true
is_in_use (Away d) = false

abbrev pub disk_of : SideSeen → DiskSeen
disk_of (InUse s) = s.disk
disk_of (Away d) = d

-- the bytes that a store in use keeps; of a disk out of use none are seen
abbrev pub bodies_on : SideSeen → Bodies
bodies_on (InUse s) = s.kept.bodies
bodies_on (Away d) = map.empty

-- a store in use is ready
abbrev pub IsSideReady : ℕ → SideSeen → Type 0
IsSideReady node (InUse s) = IsReady node s
IsSideReady node (Away d) = Unit {0}

-- what is found on the disk of a store in use is what the store keeps
abbrev pub IsKept : Layout → ℕ → SideSeen → Type 0
IsKept layout node side = Finds layout node (IsMapped (λ m. Same m (bodies_on side))) (disk_of side).told

-- A store in use keeps a map that has P, which is what is found on its disk after a crash; what is found on the disk of another has P.
pub record Bears (layout : Layout) (node : ℕ) (P : Bodies → Type 0) (side : SideSeen) : Type 0 where
  pub finds : Finds layout node (IsMapped P) (disk_of side).told
  pub has : is_in_use side ≡ true → P (bodies_on side)
  pub kept : is_in_use side ≡ true → IsKept layout node side

-- What a layout lets images keep: what is kept is kept under uids of the node, and no body is longer than the limit.
abbrev pub IsSound : ℕ → Bodies → Type 0
IsSound node m = (uid : Uid) (body : List ℕ) → map.get m uid ≡ Some body → IsOwn node uid (length body) × (length body ≤ 262144)

-- A disk leaves use only where its count of faults rose, and comes back into use only at an opening.
pub record SideGoes (old new : SideSeen) : Type 0 where
  pub size : (disk_of new).counts.size ≡ (disk_of old).counts.size
  pub left : is_in_use new ≡ true → is_in_use old ≡ true
  pub rose : is_in_use old ≡ true → is_in_use new ≡ false → (disk_of new).counts.faults ≡ one_more (disk_of old).counts.faults
  pub same : is_in_use new ≡ is_in_use old → (disk_of new).counts.faults ≡ (disk_of old).counts.faults
  -- a disk out of use is left as it is
  pub still : is_in_use old ≡ false → new ≡ old

-- the count of stops of a disk rose by one where these calls were stopped on it, and is as it was else
abbrev pub StopsBy : {T : Type 0} → Result T TwinRefusal → DiskSeen → DiskSeen → Type 0
StopsBy result old new = new.counts.stops ≡ stops_by result old.counts.stops

-- Some calls on two disks: a stop raised the count of stops of one of them, and nothing else raised any.
abbrev pub StopsOne : {T : Type 0} → Result T TwinRefusal → (old new from to : DiskSeen) → Type 0
StopsOne result old new from to =
    (StopsBy result old new × (to.counts.stops ≡ from.counts.stops)) ⊎ ((new.counts.stops ≡ old.counts.stops) × StopsBy result from to)

-- the same of a refusal
abbrev pub StopsAt : TwinRefusal → (old new from to : DiskSeen) → Type 0
StopsAt e old new from to = StopsOne {T = Unit {0}} (Err e) old new from to

-- a disk in use has no room for this change, as far as its store tells its room
abbrev pub IsFullOn : Bool → Layout → Option Asked → SideSeen → Type 0
IsFullOn tells layout c (InUse s) = IsFullIn tells layout c s
IsFullOn tells layout c (Away d) = ⊥

-- a disk in use has no room for a body of this length, as far as its store tells its room
abbrev pub IsShortOn : Bool → Layout → ℕ → SideSeen → Type 0
IsShortOn tells layout size (InUse s) = IsTrue tells → 1 ≤ s.more → has_room_in layout s size ≡ false
IsShortOn tells layout size (Away d) = ⊥

-- a disk in use tells its room, and has none for a body of this length
abbrev pub LacksRoom : Layout → ℕ → SideSeen → Type 0
LacksRoom layout size (InUse s) = (1 ≤ s.more) × (has_room_in layout s size ≡ false)
LacksRoom layout size (Away d) = ⊥

-- a disk that is in use and tells its room has room for a body of this length
abbrev pub HasRoomOn : Bool → Layout → ℕ → SideSeen → Type 0
HasRoomOn tells layout size (InUse s) = IsTrue tells → 1 ≤ s.more → has_room_in layout s size ≡ true
HasRoomOn tells layout size (Away d) = Unit {0}

-- a disk left use
abbrev pub HasLeft : SideSeen → SideSeen → Type 0
HasLeft old new = (is_in_use old ≡ true) × (is_in_use new ≡ false)

-- a call that was served, or refused, leaves the disk in use, and one that failed does not
abbrev pub UsedBy : {T : Type 0} → Result (Option T) TwinRefusal → SideSeen → Type 0
UsedBy (Ok (Some value)) new = is_in_use new ≡ true
UsedBy (Ok None) new = is_in_use new ≡ false
UsedBy (Err e) new = is_in_use new ≡ true

-- behind a call that was served, a store keeps what it kept with the change
abbrev pub KeptBy : {T : Type 0} → Option Asked → Result (Option T) TwinRefusal → SideSeen → SideSeen → Type 0
KeptBy c (Ok (Some value)) old new = Same (bodies_on new) (changed_by c (bodies_on old))
KeptBy c (Ok None) old new = Unit {0}
KeptBy c (Err e) old new = Unit {0}

abbrev pub IsReadyBy : {T : Type 0} → ℕ → Result T TwinRefusal → SideSeen → Type 0
IsReadyBy node (Ok value) new = IsSideReady node new
IsReadyBy node (Err e) new = Unit {0}

-- One call on one disk of a pair.
pub record SideServes {T : Type 0} (tells : Bool) (layout : Layout) (node : ℕ) (c : Option Asked) (result : Result (Option T) TwinRefusal)
    (old new : SideSeen) : Type 0 where
  pub only : IfErr result IsPassedOn
  pub full : IfErr result (λ e. e ≡ Full → IsFullOn tells layout c old)
  pub goes : SideGoes old new
  pub stops : StopsBy result (disk_of old) (disk_of new)
  pub used : UsedBy result new
  pub ready : IsReadyBy node result new
  pub kept : IsTrue tells → KeptBy c result old new
  pub leaves : IsTrue tells → is_in_use old ≡ true → Finds layout node (IsMapped (MayKeep result c (bodies_on old))) (disk_of new).told

-- The image of a disk has no map.
abbrev pub IsUnmapped : Layout → ℕ → DiskSeen → Type 0
IsUnmapped layout node d = (place : ℕ) × (layout.map_of node (contents d.told).now ≡ Err place)

-- A disk is lost at an opening: its count of faults rose in it, or its image has no map.
abbrev pub IsLostDisk : Bool → Layout → ℕ → DiskSeen → DiskSeen → Type 0
IsLostDisk tells layout node old new =
    (new.counts.faults ≡ one_more old.counts.faults)
    ⊎ ((new.counts.faults ≡ old.counts.faults) × (IsTrue tells → IsUnmapped layout node old))

-- An image that keeps too much to be opened is not opened: where nothing else refused it, its disk met a fault.
abbrev pub FitsOrFailed : Layout → ℕ → DiskSeen → DiskSeen → Type 0
FitsOrFailed layout node old new =
    layout.is_overfull node (contents old.told).now ≡ true → new.counts.faults ≡ one_more old.counts.faults

-- What an opening leaves of a disk of which this may be found: a store in use keeps one of these maps, and else all stands as it was.
abbrev pub IsOpenedOn : Layout → ℕ → Footing → SideSeen → Type 0
IsOpenedOn layout node footing (InUse s) = MayFind footing (Ok s.kept)
IsOpenedOn layout node footing (Away d) = IsFooted layout node footing d.told

-- A disk is in use behind an opening, met no fault in it, and its image does not keep too much to be opened; or it is lost.
pub record IsOpenedBy (tells : Bool) (layout : Layout) (node : ℕ) (old : DiskSeen) (new : SideSeen) : Type 0 where
  pub size : (disk_of new).counts.size ≡ old.counts.size
  pub used : is_in_use new ≡ true → (disk_of new).counts.faults ≡ old.counts.faults
  pub away : is_in_use new ≡ false → IsLostDisk tells layout node old (disk_of new)
  pub fits : IsTrue tells → is_in_use new ≡ true → layout.is_overfull node (contents old.told).now ≡ false

-- A disk was opened.
pub record IsOpenedSide (tells : Bool) (layout : Layout) (node : ℕ) (old : DiskSeen) (new : SideSeen) : Type 0 where
  pub by : IsOpenedBy tells layout node old new
  pub stops : (disk_of new).counts.stops ≡ old.counts.stops
  pub ready : IsSideReady node new
  pub kept : IsTrue tells → is_in_use new ≡ true → IsKept layout node new
  pub stands : IsTrue tells → (footing : Footing) → IsFooted layout node footing old.told → IsOpenedOn layout node footing new
  pub found : IsTrue tells → (footing : Footing) → IsFooted layout node footing old.told
      → MayFind footing (layout.map_of node (contents old.told).now)
  pub sound : IsTrue tells → IsLayout layout → is_in_use new ≡ true → IsSound node (bodies_on new)
  pub map : IsTrue tells → is_in_use new ≡ true → bodies_found (layout.map_of node (contents old.told).now) ≡ Some (bodies_on new)

-- Some calls on one disk of a pair.
pub record SideMoves {T : Type 0} (node : ℕ) (result : Result T TwinRefusal) (old new : SideSeen) : Type 0 where
  pub only : IfErr result IsPassedOn
  pub goes : SideGoes old new
  pub stops : StopsBy result (disk_of old) (disk_of new)
  pub ready : IsReadyBy node result new

-- Some calls on both disks of a pair.
pub record BothMove {T : Type 0} (node : ℕ) (result : Result T TwinRefusal) (old new from to : SideSeen) : Type 0 where
  pub only : IfErr result IsPassedOn
  pub source : SideGoes old new
  pub target : SideGoes from to
  pub stops : StopsOne result (disk_of old) (disk_of new) (disk_of from) (disk_of to)
  pub source_ready : IsReadyBy node result new
  pub target_ready : IsReadyBy node result to

-- What is found on a disk after a crash has P behind some calls, and so has what its store keeps where none of them was refused.
pub record Bore {T : Type 0} (layout : Layout) (node : ℕ) (P : Bodies → Type 0) (result : Result T TwinRefusal)
    (side : SideSeen) : Type 0 where
  pub finds : Finds layout node (IsMapped P) (disk_of side).told
  pub bears : OnOk result (Bears layout node P side)

-- A map that is on its way from one map to another: it has a generation, and under each uid of an Eject what the first has, or the
-- second, or where all is copied anew nothing.
pub record IsCopying (all : Bool) (node generation : ℕ) (source target m : Bodies) : Type 0 where
  pub generation_is : generation_in node m ≡ generation
  pub bodies : (uid : Uid) → IsEject node uid
      → (map.get m uid ≡ map.get source uid) ⊎ ((map.get m uid ≡ map.get target uid) ⊎ (IsTrue all × (map.get m uid ≡ None)))

-- nothing is kept under the uid of an Eject, unless not all is copied anew and the source keeps something there
abbrev pub IsClear : Bool → Bodies → Uid → Bodies → Type 0
IsClear all source uid m = (map.get m uid ≡ None) ⊎ ((all ≡ false) × IsTrue (is_some (map.get source uid)))

abbrev pub AllClear : Bool → ℕ → Bodies → Bodies → Type 0
AllClear all node source m = (uid : Uid) → IsEject node uid → IsClear all source uid m

-- The next uid of an Eject behind this one, or the first, under which something is kept.
abbrev pub IsNextOn : ℕ → SideSeen → Option Uid → Option Uid → Type 0
IsNextOn node side from next = IsNextOf (λ uid. is_some (map.get (bodies_on side) uid)) (reserved_uid node) from next

-- A disk was asked for a failure or a stop, and nothing else: all that changes is what falls due.
pub record SideArms (tells obeys : Bool) (what : Arm) (old new : SideSeen) : Type 0 where
  pub used : is_in_use new ≡ is_in_use old
  pub counts : (disk_of new).counts ≡ (disk_of old).counts
  pub told : (disk_of new).told ≡ (disk_of old).told
  pub due : IsTrue obeys → (disk_of new).due ≡ armed what (disk_of old).counts.clock (disk_of old).due
  pub kept : IsTrue tells → bodies_on new ≡ bodies_on old
  pub ready : (node : ℕ) → IsSideReady node old → IsSideReady node new

-- the count of faults of a disk is as it was, or rose by one
abbrev pub RoseOnce : DiskSeen → DiskSeen → Type 0
RoseOnce old new = (new.counts.faults ≡ old.counts.faults) ⊎ (new.counts.faults ≡ one_more old.counts.faults)
