-- What is seen of a store, and what each of its calls leaves of it.
use Rattle.std.specs.Prelude.{◌≡◌, ◌≢◌, ◌⊎◌, ℕ, ◌+◌, ◌≤◌, Bool, false, IsTrue, IsSome, is_some, is_ok, ◌&&◌, nat_le, List, length}
use Rattle.std.specs.Prelude.{Option, None, Result, Ok, Err, OnOk, OnErr, IfOk, IfErr, IfSome}
use Rattle.capability.specs.declared.Uid.{Uid}
use Rattle.eden_disk.specs.Told.{Told, contents, EachMoment}
use Rattle.eden_disk.specs.declared.disk.Arm.{Arm}
use Rattle.eden_disk.specs.Calls.{Counts, Due, DeviceCalls, Obeyed, armed}
use Rattle.eden_disk.specs.Held.{Holds}
use Rattle.eden_disk.specs.Timed.{Timed}
use Rattle.passive_store.specs.declared.store.Pick.{Pick}
use Rattle.passive_store.specs.declared.store.Progress.{Progress}
use Rattle.passive_store.specs.declared.store.StoreRefusal.{StoreRefusal}
use Rattle.passive_store.specs.declared.store.StoreRefusal.TheVariants.{Full, Damaged, OutOfMemory}
use Rattle.passive_store.specs.Acts.{DiskCall, CallTold, CallsTold, settling_call}
use Rattle.passive_store.specs.Kept.{StoreChange, Kept, Layout, Work, Idle, IsFresh, Stands, IsDamagedFrom, IsOverfull, IsRefusedIn}
use Rattle.passive_store.specs.Kept.{IsRefusedAfter, LeavesKept, StandsThrough, HasJob, NextTold, Ran, IsJobOf, changes_in, doubt_in}
use Rattle.passive_store.specs.Kept.{change_in, is_unsettled, is_synced, calls_left, job_left, settling_of, settling_calls}
use Rattle.passive_store.specs.Kept.{settling_before, settling_due, settled, finds_room, calls_due, reads_due, progress_at, end_of_store}
use Rattle.passive_store.specs.Kept.{work_begun, work_settled, work_stepped, work_advanced, work_finished, work_changed, work_unchanged}
use Rattle.passive_store.specs.Kept.{kept_advanced, kept_finished, kept_changed, changes_begun, SettlesFirst, SettlesAfterMemory}
use Rattle.passive_store.specs.Kept.{IsFullBy, IsDiskRefusal, IsEarlyRefusal, KeepsTelling, reserved_uid, body_at, OpeningMade, OpeningTold}
use Rattle.passive_store.specs.Kept.{IsOverfullBy, NeverOverfull}

-- what is seen of a disk
pub record DiskSeen : Type 0 where
  -- its size, its power, and how often it was called and refused
  pub counts : Counts
  -- the image that it began with, and what has changed it since
  pub told : Told
  -- when what was armed falls due
  pub due : Due

-- what is seen of a disk, by the ghost members of its type
abbrev pub disk_seen : {D : Type 0} → (D → Counts) → (D → Told) → (D → Due) → D → DiskSeen
disk_seen counts told due disk = record { counts = counts disk; told = told disk; due = due disk }

-- what is seen of a store
pub record Seen : Type 0 where
  -- the node whose Ejects are kept
  pub node : ℕ
  -- the change that is worked on or in doubt
  pub work : Work
  -- what the last call that settles found, or None
  pub picked : Option Pick
  -- what is kept, with the old state of a uid in doubt; where the disk tells
  pub kept : Kept
  -- for so many more changes the room is told
  pub more : ℕ
  -- the place of a byte that a write was refused, and that nothing has read or written since; a job writes it again
  pub refused_at : Option ℕ
  -- its disk
  pub disk : DiskSeen

-- The disk was asked for a failure or a stop, and nothing else.
pub record Arms (tells obeys : Bool) (what : Arm) (old new : Seen) : Type 0 where
  pub node : new.node ≡ old.node
  pub work : new.work ≡ old.work
  pub picked : new.picked ≡ old.picked
  pub more : new.more ≡ old.more
  pub at : new.refused_at ≡ old.refused_at
  pub counts : new.disk.counts ≡ old.disk.counts
  pub told : new.disk.told ≡ old.disk.told
  pub due : IsTrue obeys → new.disk.due ≡ armed what old.disk.counts.clock old.disk.due
  pub kept : IsTrue tells → new.kept ≡ old.kept

-- What each call that may make device calls leaves.
pub record Goes {T : Type 0} (tells obeys : Bool) (layout : Layout) (result : Result T StoreRefusal) (old new : Seen) : Type 0 where
  pub node : new.node ≡ old.node
  -- what the disk was refused was armed, and due then
  pub obeyed : IsTrue obeys → Obeyed old.disk.due new.disk.due old.disk.counts new.disk.counts (end_of_store result)
  -- what changed on the disk changed between the clocks
  pub timed : IsTrue tells → Timed old.disk.counts.clock old.disk.told new.disk.counts.clock new.disk.told
  -- a crash leaves what is kept, with or without the change in doubt
  pub stands : IsTrue tells → LeavesKept layout new.node new.more new.kept new.work new.disk.told

-- One device call of a settling.
pub record SettlesOneCall (tells obeys : Bool) (layout : Layout) (result : Result Progress StoreRefusal) (old new : Seen) : Type 0 where
  pub goes : Goes tells obeys layout result old new
  pub only : IfErr result IsDiskRefusal
  pub counts : DeviceCalls 1 old.disk.counts new.disk.counts (end_of_store result)
  pub last : IfOk result (λ progress. progress ≡ progress_at (is_synced old.work))
  pub told : IsTrue tells
      → CallTold (settling_call (is_synced old.work)) new.disk.counts.clock old.disk.told new.disk.told (end_of_store result)
  pub work : new.work ≡ work_stepped old.work result
  pub picked : is_some new.picked ≡ (is_ok result && is_synced old.work)
  pub more : new.more ≡ old.more
  pub at : new.refused_at ≡ old.refused_at
  pub kept : IsTrue tells → new.kept ≡ settled new.picked old.work old.kept
  -- the change in doubt gives its uid a mark of its own, so that its mark tells which state was found
  pub fresh : IsTrue tells → IfSome (doubt_in old.work) (λ c. IsFresh c old.kept)
  pub moments : IsTrue tells → StandsThrough layout old.node old.more old.kept (changes_in (doubt_in old.work)) old.disk.told new.disk.told

-- A whole settling. Without a change in doubt, or while a job goes on, it makes no device call.
pub record Settled (tells obeys : Bool) (layout : Layout) (result : Result (Unit {0}) StoreRefusal) (old new : Seen) : Type 0 where
  pub goes : Goes tells obeys layout result old new
  pub only : IfErr result IsDiskRefusal
  pub refused : OnErr result (IsTrue (is_unsettled old.work))
  pub ran : Ran (settling_calls old.work) 0 result old.disk.counts new.disk.counts
  pub order : IsTrue tells → CallsTold (settling_of old.work) old.disk.told new.disk.told (end_of_store result)
  pub work : new.work ≡ work_settled new.picked old.work
  pub picked : is_some new.picked ≡ (is_ok result && is_unsettled old.work)
  pub more : new.more ≡ old.more
  pub at : new.refused_at ≡ old.refused_at
  pub kept : IsTrue tells → new.kept ≡ settled new.picked old.work old.kept
  pub fresh : IsTrue tells → IfSome (doubt_in old.work) (λ c. IsFresh c old.kept)
  pub moments : IsTrue tells → StandsThrough layout old.node old.more old.kept (changes_in (doubt_in old.work)) old.disk.told new.disk.told

-- what a put or a removal asks: a uid, and its new bytes, or None
pub record Asked : Type 0 where
  pub uid : Uid
  pub body : Option (List ℕ)

-- a uid and its new bytes, or None, as one value
abbrev pub asked : Uid → Option (List ℕ) → Asked
asked uid body = record { uid = uid; body = body }

-- the change that is asked, under this mark; it adds to the ledger what the layout says
abbrev pub change_asked : Layout → Asked → ℕ → StoreChange
change_asked layout ask mark = record { uid = ask.uid; body = ask.body; mark = mark; wrote = layout.grows ask.body }

-- whether what is asked finds room on a disk of this size
abbrev pub has_room_for : Layout → ℕ → Kept → Asked → Bool
has_room_for layout size kept ask = finds_room layout size kept ask.uid ask.body

-- A job was begun, or refused. It makes no device call, and a refusal leaves all as it was.
pub record Begins (tells : Bool) (layout : Layout) (ask : Asked) (result : Result (Unit {0}) StoreRefusal) (old new : Seen) : Type 0 where
  pub node : new.node ≡ old.node
  pub disk : new.disk ≡ old.disk
  pub only : IfErr result IsEarlyRefusal
  pub picked : new.picked ≡ old.picked
  pub at : new.refused_at ≡ old.refused_at
  -- the mark of the change
  pub mark : ℕ
  -- all device calls of its job
  pub calls : List DiskCall
  pub bounded : IsJobOf old.disk.counts.size (length calls)
  pub job : IsTrue (layout.is_job ask.body (length calls))
  pub work : new.work ≡ work_begun (change_asked layout ask mark) calls old.work result
  pub by_layout : IsTrue tells → HasJob layout new.node new.refused_at (contents new.disk.told).now new.work
  -- behind each change the room goes on being told, but for a put under the reserved uid, which may take the last block
  pub one : ask.uid ≢ reserved_uid old.node → old.more ≤ new.more + 1
  -- and so it does behind that one where something is kept there already, or nothing is kept
  pub first : IsTrue tells → KeepsTelling old.node old.kept → old.more ≤ new.more + 1
  pub same : OnErr result (new.more ≡ old.more)
  pub room : IsTrue tells → 1 ≤ old.more → OnOk result (IsTrue (has_room_for layout old.disk.counts.size old.kept ask))
  pub full : IsTrue tells → 1 ≤ old.more → IfErr result (λ e. e ≡ Full → has_room_for layout old.disk.counts.size old.kept ask ≡ false)
  pub kept : IsTrue tells → new.kept ≡ old.kept
  pub fresh : IsTrue tells → IfSome (change_in new.work) (λ c. IsFresh c new.kept)

-- One device call of a job. The last makes the change, and a refused one ends the job in doubt.
pub record Advances (tells obeys : Bool) (layout : Layout) (result : Result Progress StoreRefusal) (old new : Seen) : Type 0 where
  pub goes : Goes tells obeys layout result old new
  pub only : IfErr result IsDiskRefusal
  pub counts : DeviceCalls 1 old.disk.counts new.disk.counts (end_of_store result)
  pub last : IfOk result (λ progress. progress ≡ progress_at (nat_le (calls_left old.work) 1))
  pub told : IsTrue tells → NextTold old.work new.disk.counts.clock old.disk.told new.disk.told (end_of_store result)
  pub work : new.work ≡ work_advanced old.work result
  pub picked : new.picked ≡ old.picked
  pub more : new.more ≡ old.more
  pub at : IsRefusedAfter (job_left old.work) result old.refused_at new.refused_at
  pub kept : IsTrue tells → new.kept ≡ kept_advanced old.work old.kept result
  pub moments : IsTrue tells → StandsThrough layout old.node old.more old.kept (changes_in (doubt_in old.work)) old.disk.told new.disk.told

-- All device calls that a job has left.
pub record Finishes (tells obeys : Bool) (layout : Layout) (result : Result (Unit {0}) StoreRefusal) (old new : Seen) : Type 0 where
  pub goes : Goes tells obeys layout result old new
  pub only : IfErr result IsDiskRefusal
  pub ran : Ran 0 (calls_left old.work) result old.disk.counts new.disk.counts
  pub order : IsTrue tells → CallsTold (job_left old.work) old.disk.told new.disk.told (end_of_store result)
  pub work : new.work ≡ work_finished old.work result
  pub picked : new.picked ≡ old.picked
  pub more : new.more ≡ old.more
  pub kept : IsTrue tells → new.kept ≡ kept_finished old.work old.kept result
  pub moments : IsTrue tells → StandsThrough layout old.node old.more old.kept (changes_in (change_in old.work)) old.disk.told new.disk.told

-- A settling and a job: its device calls, what is kept and in doubt behind it, and what a crash at any moment of it leaves.
-- Its calls are those of the layout, by the place of a refused write that was noted before.
pub record Changes (tells : Bool) (layout : Layout) (ask : Asked) (result : Result (Unit {0}) StoreRefusal) (old new : Seen) : Type 0 where
  pub mark : ℕ
  pub calls : List DiskCall
  pub bounded : IsJobOf old.disk.counts.size (length calls)
  pub job : IsTrue (layout.is_job ask.body (length calls))
  pub ran : Ran (settling_before old.work result) (length calls) result old.disk.counts new.disk.counts
  pub by_layout : IsTrue tells → calls ≡ layout.job_calls old.node old.refused_at (contents old.disk.told).now ask.uid ask.body
  pub at : IsRefusedIn calls old.refused_at new.refused_at
  pub order : IsTrue tells → CallsTold (calls_due old.work calls result) old.disk.told new.disk.told (end_of_store result)
  pub work : new.work ≡ work_changed new.picked (change_asked layout ask mark) old.work result
  pub kept : IsTrue tells → new.kept ≡ kept_changed new.picked (change_asked layout ask mark) old.work old.kept result
  pub moments : IsTrue tells
      → StandsThrough layout old.node new.more old.kept
      (changes_begun new.picked (change_asked layout ask mark) old.work result) old.disk.told new.disk.told

-- A settling alone, of a removal of what is not kept.
pub record Settles (tells : Bool) (layout : Layout) (result : Result (Unit {0}) StoreRefusal) (old new : Seen) : Type 0 where
  pub ran : Ran (settling_before old.work result) 0 result old.disk.counts new.disk.counts
  pub order : IsTrue tells → CallsTold (settling_due old.work result) old.disk.told new.disk.told (end_of_store result)
  pub work : new.work ≡ work_unchanged new.picked old.work result
  pub kept : IsTrue tells → new.kept ≡ settled new.picked old.work old.kept
  pub moments : IsTrue tells → StandsThrough layout old.node new.more old.kept (changes_in (doubt_in old.work)) old.disk.told new.disk.told

-- What a whole put or removal leaves in any case.
pub record Whole (tells obeys : Bool) (layout : Layout) (ask : Asked)
    (result : Result (Unit {0}) StoreRefusal) (old new : Seen) : Type 0 where
  pub goes : Goes tells obeys layout result old new
  pub picked : SettlesAfterMemory new.picked old.work result
  pub undamaged : IfErr result (λ e. IsDiskRefusal e ⊎ IsEarlyRefusal e)
  pub unchanged : IfErr result (λ e. e ≡ OutOfMemory → new.disk ≡ old.disk)
  -- behind each change the room goes on being told, but for a put under the reserved uid
  pub one : ask.uid ≢ reserved_uid old.node → old.more ≤ new.more + 1
  -- and so it does behind that one where, settled, something is kept there already, or nothing is kept
  pub first : IsTrue tells → KeepsTelling old.node (settled new.picked old.work old.kept) → old.more ≤ new.more + 1
  -- the change that a refusal leaves in doubt gives its uid a mark of its own
  pub fresh : IsTrue tells → IfSome (doubt_in new.work) (λ c. IsFresh c new.kept)

-- A whole put: it takes its memory, settles, looks for room, and makes all device calls of the job.
pub record Puts (tells obeys : Bool) (layout : Layout) (ask : Asked)
    (result : Result (Unit {0}) StoreRefusal) (old new : Seen) : Type 0 where
  pub whole : Whole tells obeys layout ask result old new
  pub changes : Changes tells layout ask result old new
  pub full : IsTrue tells → 1 ≤ old.more
      → IsFullBy (has_room_for layout old.disk.counts.size (settled new.picked old.work old.kept) ask) new.picked old.work result

-- a removal of what is kept, once the doubt is settled
pub record Removes (tells : Bool) (layout : Layout) (ask : Asked) (result : Result (Unit {0}) StoreRefusal) (old new : Seen) : Type 0 where
  pub changes : Changes tells layout ask result old new
  pub some : IsTrue tells → IsSome (body_at (settled new.picked old.work old.kept) ask.uid)
  pub full : IsTrue tells → 1 ≤ old.more
      → IsFullBy (has_room_for layout old.disk.counts.size (settled new.picked old.work old.kept) ask) new.picked old.work result

-- a removal of what is not kept, once the doubt is settled, which wants no room
pub record FindsNothing (tells : Bool) (layout : Layout) (ask : Asked)
    (result : Result (Unit {0}) StoreRefusal) (old new : Seen) : Type 0 where
  pub settles : Settles tells layout result old new
  pub room : IfErr result (λ e. e ≢ Full)
  pub none : IsTrue tells → OnOk result (body_at (settled new.picked old.work old.kept) ask.uid ≡ None)

-- A whole removal. Where nothing is kept, it is done with the settling, whatever the room.
pub record Deletes (tells obeys : Bool) (layout : Layout) (ask : Asked)
    (result : Result (Unit {0}) StoreRefusal) (old new : Seen) : Type 0 where
  pub whole : Whole tells obeys layout ask result old new
  pub at : OnOk result ((new.refused_at ≡ None) ⊎ (new.refused_at ≡ old.refused_at))
  pub changes : FindsNothing tells layout ask result old new ⊎ Removes tells layout ask result old new

-- What is kept under a uid, once the doubt is settled. Behind the settling device calls are made for what is kept alone, and
-- the layout says how many.
pub record Gets (tells obeys : Bool) (layout : Layout) (uid : Uid)
    (result : Result (Option (List ℕ)) StoreRefusal) (old new : Seen) : Type 0 where
  pub goes : Goes tells obeys layout result old new
  pub only : IfErr result (λ e. IsDiskRefusal e ⊎ (e ≡ OutOfMemory))
  pub calls : ℕ
  pub ran : Ran (settling_calls old.work) calls result old.disk.counts new.disk.counts
  pub found : IfOk result (λ body. calls ≡ layout.reading_calls body)
  pub by_layout : IsTrue tells → calls ≡ layout.reading_calls (body_at new.kept uid)
  pub order : IsTrue tells → CallsTold (reads_due old.work calls result) old.disk.told new.disk.told (end_of_store result)
  -- what is refused behind the settling is the read of what is kept
  pub reads : IsTrue tells
      → IfErr result (λ e. IsDiskRefusal e → is_some new.picked ≡ is_unsettled old.work → IsSome (body_at new.kept uid))
  pub picked : SettlesFirst new.picked old.work result
  pub work : new.work ≡ work_settled new.picked old.work
  pub more : new.more ≡ old.more
  pub at : new.refused_at ≡ old.refused_at
  pub kept : IsTrue tells → new.kept ≡ settled new.picked old.work old.kept
  pub body : IsTrue tells → IfOk result (λ body. body ≡ body_at new.kept uid)
  pub moments : IsTrue tells → StandsThrough layout old.node old.more old.kept (changes_in (doubt_in old.work)) old.disk.told new.disk.told

-- what is seen of the store that was opened, or how it was refused
abbrev pub opened : {S D : Type 0} → (S → Seen) → Result S (D × StoreRefusal) → Result Seen StoreRefusal
opened seen (Ok store) = Ok (seen store)
opened seen (Err refusal) = Err refusal.1

-- what is seen of the disk behind an opening, which a refusal hands back
abbrev pub disk_opened : {S D : Type 0} → (S → Seen) → (D → DiskSeen) → Result S (D × StoreRefusal) → DiskSeen
disk_opened seen of (Ok store) = (seen store).disk
disk_opened seen of (Err refusal) = of refusal.0

-- A disk was opened, or refused.
pub record Opens (tells obeys : Bool) (layout : Layout) (node : ℕ) (result : Result Seen StoreRefusal) (old new : DiskSeen) : Type 0 where
  -- contents are as long as the disk is
  pub whole : IsTrue tells → length (contents old.told).now ≡ old.counts.size
  pub made : ℕ
  pub counts : DeviceCalls made old.counts new.counts (end_of_store result)
  pub number : IsTrue tells → OpeningMade (length (layout.opening_calls node (contents old.told).now)) result made
  pub order : IsTrue tells → OpeningTold (layout.opening_calls node (contents old.told).now) old.told new.told result
  pub obeyed : IsTrue obeys → Obeyed old.due new.due old.counts new.counts (end_of_store result)
  pub timed : IsTrue tells → Timed old.counts.clock old.told new.counts.clock new.told
  pub node_is : IfOk result (λ s. s.node ≡ node)
  pub idle : IfOk result (λ s. (s.work ≡ Idle) × (s.picked ≡ None) × (s.refused_at ≡ None))
  pub map : IsTrue tells → IfOk result (λ s. layout.map_of node (contents old.told).now ≡ Ok s.kept)
  pub damaged : IsTrue tells → IfErr result (λ e. (place : ℕ) → e ≡ Damaged place → layout.map_of node (contents old.told).now ≡ Err place)
  pub full : IsTrue tells → IsOverfullBy (layout.is_overfull node (contents old.told).now) result
  pub never_full : NeverOverfull layout → IfErr result (λ e. e ≢ Full)
  pub more : IsTrue tells → IfOk result (λ s. s.more ≡ layout.changes_told node (contents old.told).now)
  pub stands : IsTrue tells → IfOk result (λ s. LeavesKept layout node s.more s.kept Idle new.told)
  -- whatever the images stood for, they go on standing for it at each moment of the opening
  pub moments : IsTrue tells
      → (told : ℕ) (then : Kept) (changes : List StoreChange) → Holds (Stands layout node told then changes) (contents old.told)
      → EachMoment (Stands layout node told then changes) old.told new.told
  pub overfull : IsTrue tells
      → (then : Kept) → Holds (IsOverfull layout node then) (contents old.told) → EachMoment (IsOverfull layout node then) old.told new.told
  pub unmapped : IsTrue tells → (place : ℕ) → Holds (IsDamagedFrom layout node place) (contents old.told)
      → EachMoment (IsDamagedFrom layout node place) old.told new.told
