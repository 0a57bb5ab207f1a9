-- What a store shows: a finite map from uids to bytes, and at most one change that is under way or in doubt.
use Rattle.std.specs.Prelude.{◌≡◌, ◌≢◌, ◌⊎◌, ℕ, suc, zero, ◌+◌, ◌*◌, ◌≤◌, Bool, true, false, IsTrue, is_some, List, [], ◌∷◌, ◌++◌}
use Rattle.std.specs.Prelude.{length, replicate, take, drop, Option, None, Some, Result, Ok, Err}
use Rattle.std.specs.FinMap as map
use Rattle.std.specs.FinMap.{FinMap}
use Rattle.capability.specs.declared.Uid.{Uid}
use Rattle.capability.specs.Uids.{uid_cmp}
use Rattle.std.specs.declared.cmp.Ordering.TheVariants.{Less}
use Rattle.passive_store.specs.declared.store.Pick.{Pick}
use Rattle.passive_store.specs.declared.store.Pick.TheVariants.{Old, New}
use Rattle.passive_store.specs.declared.store.Progress.{Progress}
use Rattle.passive_store.specs.declared.store.Progress.TheVariants.{Going, Done}
use Rattle.passive_store.specs.declared.store.StoreRefusal.{StoreRefusal}
use Rattle.passive_store.specs.declared.store.StoreRefusal.TheVariants.{Failed, Stopped, Full, Damaged, OutOfMemory}
use Rattle.eden_disk.specs.declared.disk.DiskRefusal.{DiskRefusal}
use Rattle.eden_disk.specs.declared.disk.DiskRefusal.TheVariants.{Failed as DiskFailed, Stopped as DiskStopped}
use Rattle.eden_disk.specs.Told.{Told, contents, EachMoment, LeavesOnly}
use Rattle.eden_disk.specs.Calls.{End, Fine, AtFault, AtStop, Counts, DeviceCalls}
use Rattle.passive_store.specs.Acts.{DiskCall, Write, Sync, Read, CallTold, AllTold, SomeTold}

-- new bytes of a uid, or its removal, under a mark: of a log the place of the record, of blocks the sequence of the head
pub record StoreChange : Type 0 where
  pub uid : Uid
  pub body : Option (List ℕ)
  pub mark : ℕ
  -- what it adds to the ledger
  pub wrote : List ℕ

-- what is kept: under each uid its bytes, with the mark of the change that gave it these
pub record Kept : Type 0 where
  pub bodies : FinMap uid_cmp (List ℕ)
  pub marks : FinMap uid_cmp ℕ
  -- what else decides the room, in the words of the layout: of a log the lengths of all bodies written, of blocks nothing
  pub ledger : List ℕ

-- what is kept before the first change: nothing, with an empty ledger
abbrev pub nothing_kept : Kept
nothing_kept = record { bodies = map.empty; marks = map.empty; ledger = [] }

-- the bodies behind a change of this uid: it has this body, or with None no body at all
abbrev pub bodies_after : Uid → Option (List ℕ) → FinMap uid_cmp (List ℕ) → FinMap uid_cmp (List ℕ)
bodies_after uid None m = map.remove m uid
bodies_after uid (Some body) m = map.insert m uid body

-- the marks behind the same change: its uid has this mark, or none where it was removed
abbrev pub marks_after : Uid → Option (List ℕ) → ℕ → FinMap uid_cmp ℕ → FinMap uid_cmp ℕ
marks_after uid None mark m = map.remove m uid
marks_after uid (Some body) mark m = map.insert m uid mark

-- what is kept behind a change: of its uid the new body and mark, or neither; and a ledger longer by what the change wrote
abbrev pub kept_after : StoreChange → Kept → Kept
kept_after c k = record {
  bodies = bodies_after c.uid c.body k.bodies;
  marks = marks_after c.uid c.body c.mark k.marks;
  ledger = k.ledger ++ c.wrote;
}

-- what is kept after these changes, the first of them first
abbrev pub kept_from : Kept → List StoreChange → Kept
kept_from kept [] = kept
kept_from kept (c ∷ cs) = kept_from (kept_after c kept) cs

-- what these changes leave where nothing was kept before; or, where they cannot be told, the damaged place
abbrev pub kept_by : Result (List StoreChange) ℕ → Result Kept ℕ
kept_by (Ok cs) = Ok (kept_from nothing_kept cs)
kept_by (Err place) = Err place

-- the change gives its uid another mark, None being that of an absent one
abbrev pub IsFresh : StoreChange → Kept → Type 0
IsFresh c k = map.get (marks_after c.uid c.body c.mark k.marks) c.uid ≢ map.get k.marks c.uid

-- what a store has under way: nothing, the job of a change, or a change that waits to be settled
pub data Work : Type 0 where
  Idle : Work
  -- a job goes on: how many device calls it made, and those that it has left, in their order
  Busy : StoreChange → ℕ → List DiskCall → Work
  -- a device call of a job was refused: the change is made or not; and whether the sync of its settling is made
  Unsettled : StoreChange → Bool → Work

-- the change in doubt, if there is one: that of a job once its first device call is made, or the one that waits to be settled
abbrev pub doubt_in : Work → Option StoreChange
doubt_in Idle = None
doubt_in (Busy c zero left) = None
doubt_in (Busy c (suc made) left) = Some c
doubt_in (Unsettled c synced) = Some c

-- the change of a job, also of one that has made no device call yet, or the one that waits to be settled
abbrev pub change_in : Work → Option StoreChange
change_in Idle = None
change_in (Busy c made left) = Some c
change_in (Unsettled c synced) = Some c

-- the uid that is changed, if there is a change
abbrev pub uid_of_change : Option StoreChange → Option Uid
uid_of_change None = None
uid_of_change (Some c) = Some c.uid

-- the uid of the change in doubt, if there is one
abbrev pub unsure_in : Work → Option Uid
unsure_in work = uid_of_change (doubt_in work)

-- the uid of a job that goes on, from its begin to its end; none where its change waits to be settled
abbrev pub worked_on : Work → Option Uid
worked_on Idle = None
worked_on (Busy c made left) = Some c.uid
worked_on (Unsettled c synced) = None

-- whether a job goes on
abbrev pub is_busy : Work → Bool
is_busy Idle = false
is_busy (Busy c made left) = true
is_busy (Unsettled c synced) = false

-- whether a change waits to be settled, since a device call of its job was refused
abbrev pub is_unsettled : Work → Bool
is_unsettled Idle = false
is_unsettled (Busy c made left) = false
is_unsettled (Unsettled c synced) = true

-- whether a change waits to be settled, and the sync of its settling is made
abbrev pub is_synced : Work → Bool
is_synced Idle = false
is_synced (Busy c made left) = false
is_synced (Unsettled c synced) = synced

-- how many device calls a job has left, 0 where none goes on
abbrev pub calls_left : Work → ℕ
calls_left Idle = 0
calls_left (Busy c made left) = length left
calls_left (Unsettled c synced) = 0

-- the device calls that a job has left, in their order
abbrev pub job_left : Work → List DiskCall
job_left Idle = []
job_left (Busy c made left) = left
job_left (Unsettled c synced) = []

-- the device calls of a whole settling, in their order; none where no change waits for one
abbrev pub settling_of : Work → List DiskCall
settling_of Idle = []
settling_of (Busy c made left) = []
settling_of (Unsettled c synced) = Sync ∷ Read ∷ []

-- how many device calls a whole settling makes, 0 where no change waits for one
abbrev pub settling_calls : Work → ℕ
settling_calls Idle = 0
settling_calls (Busy c made left) = 0
settling_calls (Unsettled c synced) = 2

-- What a layout of disks says: what images keep, the room on them, and the device calls that open, change and read them.
pub record Layout : Type 0 where
  -- whether a disk of this size can hold it
  pub allows : ℕ → Bool
  -- what an image keeps as one of this node, or its first damaged place
  pub map_of : ℕ → List ℕ → Result Kept ℕ
  -- whether an image, which was written by another layout, keeps too much to be brought over, so that it is not opened
  pub is_overfull : ℕ → List ℕ → Bool
  -- what a put of this body, or a removal, adds to the ledger
  pub grows : Option (List ℕ) → List ℕ
  -- the longest body that finds room, or none: by the size of the disk, what is kept and the ledger
  pub room_of : ℕ → FinMap uid_cmp (List ℕ) → List ℕ → Option ℕ
  -- whether this change finds room, where that is the room
  pub has_room : Option ℕ → Uid → Option (List ℕ) → Bool
  -- for how many more changes the room of an image is what room_of and has_room say
  pub changes_told : ℕ → List ℕ → ℕ
  -- The device calls of the job of a put of this body, or of a removal, on this image, in their order. The number, where there
  -- is one, is the place of a byte that a write was refused and that has neither been read nor written since.
  pub job_calls : ℕ → Option ℕ → List ℕ → Uid → Option (List ℕ) → List DiskCall
  -- whether the job of a put of this body, or of a removal, may have so many device calls
  pub is_job : Option (List ℕ) → ℕ → Bool
  -- the device calls that open an image, or find that it cannot be opened, in their order
  pub opening_calls : ℕ → List ℕ → List DiskCall
  -- how many device calls read what is kept under a uid
  pub reading_calls : Option (List ℕ) → ℕ

-- What is found in an image is what is kept with any of these changes made, in their order, each of which gives its uid another mark.
abbrev pub IsAnyOf : Kept → List StoreChange → Result Kept ℕ → Type 0
IsAnyOf kept [] found = found ≡ Ok kept
IsAnyOf kept (c ∷ cs) found = IsAnyOf kept cs found ⊎ (IsFresh c kept × IsAnyOf (kept_after c kept) cs found)

-- a list of this change, or an empty one where there is none
abbrev pub changes_in : Option StoreChange → List StoreChange
changes_in None = []
changes_in (Some c) = c ∷ []

-- An image that a store leaves: it can be opened, and stands for what is kept with any of these changes; and for so many
-- more changes its room is told.
pub record Stands (layout : Layout) (node more : ℕ) (kept : Kept) (changes : List StoreChange) (image : List ℕ) : Type 0 where
  pub found : IsAnyOf kept changes (layout.map_of node image)
  pub opens : layout.is_overfull node image ≡ false
  pub told : more ≤ layout.changes_told node image

-- an image that keeps nothing that can be told, damaged first at this place
abbrev pub IsDamagedFrom : Layout → ℕ → ℕ → List ℕ → Type 0
IsDamagedFrom layout node place image = layout.map_of node image ≡ Err place

-- an image that keeps this, and too much of it to be opened
abbrev pub IsOverfull : Layout → ℕ → Kept → List ℕ → Type 0
IsOverfull layout node kept image = (layout.map_of node image ≡ Ok kept) × (layout.is_overfull node image ≡ true)

-- A crash leaves only images that stand for what is kept, with or without the change in doubt.
abbrev pub LeavesKept : Layout → ℕ → ℕ → Kept → Work → Told → Type 0
LeavesKept layout node more kept work told = LeavesOnly (Stands layout node more kept (changes_in (doubt_in work))) (contents told)

-- At each moment from one state of the disk to another, in or between any two device calls, a crash leaves only images
-- that stand for what is kept, with any of these changes made.
abbrev pub StandsThrough : Layout → ℕ → ℕ → Kept → List StoreChange → Told → Told → Type 0
StandsThrough layout node more kept changes old new = EachMoment (Stands layout node more kept changes) old new

-- whether a change finds room on a disk of this size
abbrev pub finds_room : Layout → ℕ → Kept → Uid → Option (List ℕ) → Bool
finds_room layout size k uid body = layout.has_room (layout.room_of size k.bodies k.ledger) uid body

-- what is kept once the doubt is settled by what was found
abbrev pub settled : Option Pick → Work → Kept → Kept
settled None work s = s
settled (Some Old) work s = s
settled (Some New) Idle s = s
settled (Some New) (Busy c made left) s = s
settled (Some New) (Unsettled c synced) s = kept_after c s

-- the work behind a whole settling: with a pick the doubt has ended, without one its sync is to be made again; a job is as it was
abbrev pub work_settled : Option Pick → Work → Work
work_settled pick Idle = Idle
work_settled pick (Busy c made left) = Busy c made left
work_settled None (Unsettled c synced) = Unsettled c false
work_settled (Some pick) (Unsettled c synced) = Idle

-- the work with its settling begun anew, so that the sync is to be made again; where no change waits for one it is as it was
abbrev pub unsynced : Work → Work
unsynced Idle = Idle
unsynced (Busy c made left) = Busy c made left
unsynced (Unsettled c synced) = Unsettled c false

-- the work behind one call of a settling: the read is next, or the doubt has ended; with a refusal the settling begins anew
abbrev pub work_stepped : Work → Result Progress StoreRefusal → Work
work_stepped Idle r = Idle
work_stepped (Busy c made left) r = Busy c made left
work_stepped (Unsettled c synced) (Ok Going) = Unsettled c true
work_stepped (Unsettled c synced) (Ok Done) = Idle
work_stepped (Unsettled c synced) (Err e) = Unsettled c false

-- the work behind one call of a job: one call fewer is left, or the job has ended; with a refusal its change waits to be settled
abbrev pub work_advanced : Work → Result Progress StoreRefusal → Work
work_advanced Idle r = Idle
work_advanced (Busy c made left) (Ok Going) = Busy c (made + 1) (drop 1 left)
work_advanced (Busy c made left) (Ok Done) = Idle
work_advanced (Busy c made left) (Err e) = Unsettled c false
work_advanced (Unsettled c synced) r = Unsettled c synced

-- what is kept behind one call of a job: the last, which answers Done, makes the change
abbrev pub kept_advanced : Work → Kept → Result Progress StoreRefusal → Kept
kept_advanced Idle s r = s
kept_advanced (Busy c made left) s (Ok Going) = s
kept_advanced (Busy c made left) s (Ok Done) = kept_after c s
kept_advanced (Busy c made left) s (Err e) = s
kept_advanced (Unsettled c synced) s r = s

-- a job that was begun has all the device calls of its layout left, by what its disk held then, and adds to the ledger what that says
abbrev pub HasJob : Layout → ℕ → Option ℕ → List ℕ → Work → Type 0
HasJob layout node refused image Idle = Unit {0}
HasJob layout node refused image (Busy c made left) =
    (left ≡ layout.job_calls node refused image c.uid c.body) × (c.wrote ≡ layout.grows c.body)
HasJob layout node refused image (Unsettled c synced) = Unit {0}

-- the place of a write; a sync and a read have none
abbrev pub place_of : DiskCall → Option ℕ
place_of (Write at bytes) = Some at
place_of Sync = None
place_of Read = None

-- what may be noted behind these calls as the place of a refused write: that of one of them, the one noted before, or none
abbrev pub IsRefusedIn : List DiskCall → Option ℕ → Option ℕ → Type 0
IsRefusedIn [] old new = (new ≡ None) ⊎ (new ≡ old)
IsRefusedIn (call ∷ calls) old new = (new ≡ place_of call) ⊎ IsRefusedIn calls old new

-- the same behind the next call of a job, the first of these: its own place is noted only where it was refused
abbrev pub IsRefusedAfter : List DiskCall → Result Progress StoreRefusal → Option ℕ → Option ℕ → Type 0
IsRefusedAfter calls (Ok progress) old new = IsRefusedIn [] old new
IsRefusedAfter calls (Err e) old new = IsRefusedIn (take 1 calls) old new

-- a telling disk has noted the first of the device calls that a job had left, and nothing else
abbrev pub NextTold : Work → ℕ → Told → Told → End → Type 0
NextTold Idle clock old new end = Unit {0}
NextTold (Busy c made []) clock old new end = Unit {0}
NextTold (Busy c made (call ∷ left)) clock old new end = CallTold call clock old new end
NextTold (Unsettled c synced) clock old new end = Unit {0}

-- what a call answers, by whether it is the last: Done, and else Going
abbrev pub progress_at : Bool → Progress
progress_at true = Done
progress_at false = Going

-- how a store says that its disk refused a call
abbrev pub refused : DiskRefusal → StoreRefusal
refused DiskFailed = Failed
refused DiskStopped = Stopped

-- how the device calls of a store's call ended
abbrev pub end_of_store : {T : Type 0} → Result T StoreRefusal → End
end_of_store (Ok done) = Fine
end_of_store (Err Failed) = AtFault
end_of_store (Err Stopped) = AtStop
end_of_store (Err Full) = Fine
end_of_store (Err (Damaged place)) = Fine
end_of_store (Err OutOfMemory) = Fine

-- a refusal of the disk, and no other
abbrev pub IsDiskRefusal : StoreRefusal → Type 0
IsDiskRefusal e = (e ≡ Failed) ⊎ (e ≡ Stopped)

-- a refusal that comes before the first device call of a job: for want of room, or of memory
abbrev pub IsEarlyRefusal : StoreRefusal → Type 0
IsEarlyRefusal e = (e ≡ Full) ⊎ (e ≡ OutOfMemory)

-- So many device calls were made: all of the settling and of what comes behind it; where the disk refused one, some of these;
-- and with any other refusal those of the settling alone.
abbrev pub CallsMade : {T : Type 0} → ℕ → ℕ → Result T StoreRefusal → ℕ → Type 0
CallsMade settling calls (Ok done) made = made ≡ settling + calls
CallsMade settling calls (Err Failed) made = (1 ≤ made) × (made ≤ settling + calls)
CallsMade settling calls (Err Stopped) made = (1 ≤ made) × (made ≤ settling + calls)
CallsMade settling calls (Err Full) made = made ≡ settling
CallsMade settling calls (Err (Damaged place)) made = made ≡ settling
CallsMade settling calls (Err OutOfMemory) made = made ≡ settling

-- the device calls of one call of a store: how many were made, and what they left of the counts of the disk
pub record Ran {T : Type 0} (settling calls : ℕ) (result : Result T StoreRefusal) (before after : Counts) : Type 0 where
  pub made : ℕ
  pub number : CallsMade settling calls result made
  pub counts : DeviceCalls made before after (end_of_store result)

-- The number of device calls of a job: at most so many, by the size of the disk; and more than one, since a crash in the
-- first leaves the change not made.
abbrev pub IsJobOf : ℕ → ℕ → Type 0
IsJobOf size calls = (2 ≤ calls) × ((kib : ℕ) × (kib * 1024 ≤ size) × (calls ≤ 2 * kib + 4))

-- the work once a job was asked for: it has all its device calls left; where it was refused, the work as it was
abbrev pub work_begun : {T : Type 0} → StoreChange → List DiskCall → Work → Result T StoreRefusal → Work
work_begun c calls old (Ok done) = Busy c 0 calls
work_begun c calls old (Err e) = old

-- Where the disk refused a call: a change whose settling failed has not begun, and the old doubt stays; any other is in doubt.
abbrev pub work_refused : Option Pick → StoreChange → Work → Work
work_refused (Some pick) c old = Unsettled c false
work_refused None c Idle = Unsettled c false
work_refused None c (Busy d made left) = Unsettled c false
work_refused None c (Unsettled d synced) = Unsettled d false

-- the work behind a whole put or removal that settled with this pick; with Damaged or OutOfMemory it is as it was
abbrev pub work_changed : {T : Type 0} → Option Pick → StoreChange → Work → Result T StoreRefusal → Work
work_changed pick c old (Ok done) = Idle
work_changed pick c old (Err Failed) = work_refused pick c old
work_changed pick c old (Err Stopped) = work_refused pick c old
work_changed pick c old (Err Full) = Idle
work_changed pick c old (Err (Damaged place)) = old
work_changed pick c old (Err OutOfMemory) = old

-- what is kept behind a whole put or removal: the doubt is settled by this pick, and the change is made where it was done
abbrev pub kept_changed : {T : Type 0} → Option Pick → StoreChange → Work → Kept → Result T StoreRefusal → Kept
kept_changed pick c work s (Ok done) = kept_after c (settled pick work s)
kept_changed pick c work s (Err e) = settled pick work s

-- a call that settles first has a pick where a change waited to be settled, and nowhere else; where the disk refused it, it may have none
abbrev pub SettlesFirst : {T : Type 0} → Option Pick → Work → Result T StoreRefusal → Type 0
SettlesFirst pick work (Ok done) = is_some pick ≡ is_unsettled work
SettlesFirst pick work (Err Failed) = IsTrue (is_some pick) → IsTrue (is_unsettled work)
SettlesFirst pick work (Err Stopped) = IsTrue (is_some pick) → IsTrue (is_unsettled work)
SettlesFirst pick work (Err Full) = is_some pick ≡ is_unsettled work
SettlesFirst pick work (Err (Damaged place)) = is_some pick ≡ is_unsettled work
SettlesFirst pick work (Err OutOfMemory) = is_some pick ≡ is_unsettled work

-- the same of a call that takes its memory before it settles: where that is wanting it has no pick
abbrev pub SettlesAfterMemory : {T : Type 0} → Option Pick → Work → Result T StoreRefusal → Type 0
SettlesAfterMemory pick work (Ok done) = is_some pick ≡ is_unsettled work
SettlesAfterMemory pick work (Err Failed) = IsTrue (is_some pick) → IsTrue (is_unsettled work)
SettlesAfterMemory pick work (Err Stopped) = IsTrue (is_some pick) → IsTrue (is_unsettled work)
SettlesAfterMemory pick work (Err Full) = is_some pick ≡ is_unsettled work
SettlesAfterMemory pick work (Err (Damaged place)) = is_some pick ≡ is_unsettled work
SettlesAfterMemory pick work (Err OutOfMemory) = pick ≡ None

-- A change is refused as Full only where, settled, there is no room. One that was done had room, and so had one that the disk
-- refused once it was settled.
abbrev pub IsFullBy : {T : Type 0} → Bool → Option Pick → Work → Result T StoreRefusal → Type 0
IsFullBy room pick work (Ok done) = IsTrue room
IsFullBy room pick work (Err Failed) = is_some pick ≡ is_unsettled work → IsTrue room
IsFullBy room pick work (Err Stopped) = is_some pick ≡ is_unsettled work → IsTrue room
IsFullBy room pick work (Err Full) = room ≡ false
IsFullBy room pick work (Err (Damaged place)) = Unit {0}
IsFullBy room pick work (Err OutOfMemory) = Unit {0}

-- how many device calls the settling of a whole put or removal makes; with OutOfMemory or Damaged none
abbrev pub settling_before : {T : Type 0} → Work → Result T StoreRefusal → ℕ
settling_before work (Ok done) = settling_calls work
settling_before work (Err Failed) = settling_calls work
settling_before work (Err Stopped) = settling_calls work
settling_before work (Err Full) = settling_calls work
settling_before work (Err (Damaged place)) = 0
settling_before work (Err OutOfMemory) = 0

-- the device calls of a whole put or removal, in their order: the settling and the job; with Full no job, with OutOfMemory or Damaged none
abbrev pub calls_due : {T : Type 0} → Work → List DiskCall → Result T StoreRefusal → List DiskCall
calls_due work calls (Ok done) = settling_of work ++ calls
calls_due work calls (Err Failed) = settling_of work ++ calls
calls_due work calls (Err Stopped) = settling_of work ++ calls
calls_due work calls (Err Full) = settling_of work
calls_due work calls (Err (Damaged place)) = []
calls_due work calls (Err OutOfMemory) = []

-- the device calls of a removal of what is not kept: the settling, or none where the answer is OutOfMemory or Damaged
abbrev pub settling_due : {T : Type 0} → Work → Result T StoreRefusal → List DiskCall
settling_due work (Ok done) = settling_of work
settling_due work (Err Failed) = settling_of work
settling_due work (Err Stopped) = settling_of work
settling_due work (Err Full) = settling_of work
settling_due work (Err (Damaged place)) = []
settling_due work (Err OutOfMemory) = []

-- the device calls of a get, in their order: the settling and so many reads; with Full, Damaged or OutOfMemory no read
abbrev pub reads_due : {T : Type 0} → Work → ℕ → Result T StoreRefusal → List DiskCall
reads_due work reads (Ok done) = settling_of work ++ replicate reads Read
reads_due work reads (Err Failed) = settling_of work ++ replicate reads Read
reads_due work reads (Err Stopped) = settling_of work ++ replicate reads Read
reads_due work reads (Err Full) = settling_of work
reads_due work reads (Err (Damaged place)) = settling_of work
reads_due work reads (Err OutOfMemory) = settling_of work

-- The changes that a crash at some moment of a whole put or removal may show that the disk refused: what was in doubt, and the new
-- change where its job was begun.
abbrev pub changes_refused : Option Pick → StoreChange → Work → List StoreChange
changes_refused (Some pick) c old = changes_in (doubt_in old) ++ c ∷ []
changes_refused None c Idle = c ∷ []
changes_refused None c (Busy d made left) = changes_in (doubt_in (Busy d made left)) ++ c ∷ []
changes_refused None c (Unsettled d synced) = d ∷ []

-- the same by the answer: where that is Full, Damaged or OutOfMemory the job was not begun, and only the old doubt may show
abbrev pub changes_begun : {T : Type 0} → Option Pick → StoreChange → Work → Result T StoreRefusal → List StoreChange
changes_begun pick c old (Ok done) = changes_in (doubt_in old) ++ c ∷ []
changes_begun pick c old (Err Failed) = changes_refused pick c old
changes_begun pick c old (Err Stopped) = changes_refused pick c old
changes_begun pick c old (Err Full) = changes_in (doubt_in old)
changes_begun pick c old (Err (Damaged place)) = changes_in (doubt_in old)
changes_begun pick c old (Err OutOfMemory) = changes_in (doubt_in old)

-- the work behind a removal of what is not kept, which is done with the settling; with OutOfMemory or Damaged it is as it was
abbrev pub work_unchanged : {T : Type 0} → Option Pick → Work → Result T StoreRefusal → Work
work_unchanged pick old (Ok done) = work_settled pick old
work_unchanged pick old (Err Failed) = work_settled pick old
work_unchanged pick old (Err Stopped) = work_settled pick old
work_unchanged pick old (Err Full) = work_settled pick old
work_unchanged pick old (Err (Damaged place)) = old
work_unchanged pick old (Err OutOfMemory) = old

-- the uid of an Eject of this node
abbrev pub IsEject : ℕ → Uid → Type 0
IsEject node uid = (uid.node ≡ node) × (1 ≤ uid.epoch) × (1 ≤ uid.serial)

-- a uid under which a store of this node keeps so many bytes: that of an Eject, or the reserved one with four
abbrev pub IsOwn : ℕ → Uid → ℕ → Type 0
IsOwn node uid size = (uid.node ≡ node) × (((1 ≤ uid.epoch) × (1 ≤ uid.serial)) ⊎ ((uid.epoch ≡ 0) × (uid.serial ≡ 0) × (size ≡ 4)))

-- the uid under which a node's epoch is kept, with 0 for epoch and serial
abbrev pub reserved_uid : ℕ → Uid
reserved_uid node = record { node = node; epoch = 0; serial = 0 }

-- the bytes that are kept under a uid, or None
abbrev pub body_at : Kept → Uid → Option (List ℕ)
body_at s uid = map.get s.bodies uid

-- behind a put under the reserved uid the room goes on being told: something is kept there already, or nothing is kept at all
abbrev pub KeepsTelling : ℕ → Kept → Type 0
KeepsTelling node s = IsTrue (is_some (body_at s (reserved_uid node))) ⊎ ((uid : Uid) → body_at s uid ≡ None)

-- How many device calls an opening made: all that its image takes, unless the disk or want of memory ended it before.
abbrev pub OpeningMade : {S : Type 0} → ℕ → Result S StoreRefusal → ℕ → Type 0
OpeningMade calls (Ok store) made = made ≡ calls
OpeningMade calls (Err Failed) made = 1 ≤ made
OpeningMade calls (Err Stopped) made = 1 ≤ made
OpeningMade calls (Err Full) made = made ≡ calls
OpeningMade calls (Err (Damaged place)) made = made ≡ calls
OpeningMade calls (Err OutOfMemory) made = Unit {0}

-- what a telling disk notes of these calls of an opening: of all, or of those up to where the disk or want of memory ended it
abbrev pub OpeningTold : {S : Type 0} → List DiskCall → Told → Told → Result S StoreRefusal → Type 0
OpeningTold calls old new (Ok store) = AllTold calls old new
OpeningTold calls old new (Err Failed) = SomeTold calls old new AtFault
OpeningTold calls old new (Err Stopped) = SomeTold calls old new AtStop
OpeningTold calls old new (Err Full) = AllTold calls old new
OpeningTold calls old new (Err (Damaged place)) = AllTold calls old new
OpeningTold calls old new (Err OutOfMemory) =
    (done : List DiskCall) × (rest : List DiskCall) × (calls ≡ done ++ rest) × AllTold done old new

-- an opening is refused as Full only where its image is overfull, and no such image is opened, or found damaged
abbrev pub IsOverfullBy : {S : Type 0} → Bool → Result S StoreRefusal → Type 0
IsOverfullBy overfull (Ok store) = overfull ≡ false
IsOverfullBy overfull (Err Failed) = Unit {0}
IsOverfullBy overfull (Err Stopped) = Unit {0}
IsOverfullBy overfull (Err Full) = overfull ≡ true
IsOverfullBy overfull (Err (Damaged place)) = overfull ≡ false
IsOverfullBy overfull (Err OutOfMemory) = Unit {0}

-- a layout for which no image keeps too much to be opened
abbrev pub NeverOverfull : Layout → Type 0
NeverOverfull layout = (node : ℕ) (image : List ℕ) → layout.is_overfull node image ≡ false

-- the uid comes behind this one in the order of uids; behind None each does
abbrev pub IsBehind : Option Uid → Uid → Type 0
IsBehind None uid = Unit {0}
IsBehind (Some from) uid = uid_cmp from uid ≡ Less

-- the next of the uids that `is_one` picks, but for the reserved one, behind a given uid or of all; or there is none
abbrev pub IsNextOf : (Uid → Bool) → Uid → Option Uid → Option Uid → Type 0
IsNextOf is_one reserved from None = (uid : Uid) → IsBehind from uid → IsTrue (is_one uid) → uid ≢ reserved → ⊥
IsNextOf is_one reserved from (Some next) =
    IsBehind from next × IsTrue (is_one next) × (next ≢ reserved)
    × ((uid : Uid) → IsBehind from uid → IsTrue (is_one uid) → uid ≢ reserved → (uid ≡ next) ⊎ (uid_cmp next uid ≡ Less))

-- the next kept uid of an Eject behind a given one, or of all; or there is none
abbrev pub IsNextKept : ℕ → Kept → Option Uid → Option Uid → Type 0
IsNextKept node s from next = IsNextOf (λ uid. is_some (body_at s uid)) (reserved_uid node) from next

-- the work behind the rest of a job: none is left, or with a refusal its change waits to be settled
abbrev pub work_finished : {T : Type 0} → Work → Result T StoreRefusal → Work
work_finished Idle r = Idle
work_finished (Busy c made left) (Ok done) = Idle
work_finished (Busy c made left) (Err e) = Unsettled c false
work_finished (Unsettled c synced) r = Unsettled c synced

-- what is kept behind the rest of a job, which makes the change unless a call of it is refused
abbrev pub kept_finished : {T : Type 0} → Work → Kept → Result T StoreRefusal → Kept
kept_finished Idle s r = s
kept_finished (Busy c made left) s (Ok done) = kept_after c s
kept_finished (Busy c made left) s (Err e) = s
kept_finished (Unsettled c synced) s r = s
