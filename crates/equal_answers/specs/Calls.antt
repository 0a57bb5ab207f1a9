-- Calls of a store, one behind the other: how each is answered and what it leaves, by the contracts of the trait.
use Rattle.std.specs.Prelude.{◌≡◌, ◌≢◌, ◌<◌, ◌-◌, ◌^◌, ℕ, suc, zero, Bool, true, is_some, List, [], ◌∷◌, Option, None, Some}
use Rattle.std.specs.Prelude.{Result, Ok, Err, IfErr, OnErr, All}
use Rattle.capability.specs.declared.Uid.{Uid}
use Rattle.eden_disk.specs.Told.{contents, Left}
use Rattle.eden_disk.specs.Calls.{Counts}
use Rattle.passive_store.specs.declared.store.Pick.{Pick}
use Rattle.passive_store.specs.declared.store.Progress.{Progress}
use Rattle.passive_store.specs.declared.store.Progress.TheVariants.{Going, Done}
use Rattle.passive_store.specs.declared.store.StoreRefusal.{StoreRefusal}
use Rattle.passive_store.specs.declared.store.StoreRefusal.TheVariants.{Full, OutOfMemory}
use Rattle.passive_store.specs.Kept.{Layout, worked_on, unsure_in, body_at, IsNextKept}
use Rattle.passive_store.specs.Seen.{Seen, DiskSeen, Opens, asked, Puts, Deletes, Gets, Settled, Begins, Advances}

-- A call of a store: each one but those of its room, its marks and its disk. A settling by steps is none, since there is no doubt.
pub data Call : Type 0 where
  Put : Uid → List ℕ → Call
  Delete : Uid → Call
  Get : Uid → Call
  Settle : Call
  BeginPut : Uid → List ℕ → Call
  BeginDelete : Uid → Call
  -- `advance` up to the end of the job: each layout has device calls of its own, and as many as it takes
  Finish : Call
  Holds : Uid → Call
  After : Option Uid → Call
  WorkingOn : Call
  Unsure : Call
  Picked : Call
  -- `close`, and `open_disk` of the disk that it gives back
  Reopen : Call

-- what it answers
pub data Answer : Type 0 where
  -- a change, a settling, a begin, the rest of a job, or an opening: that it is done, or how it is refused
  Made : Result (Unit {0}) StoreRefusal → Answer
  -- `get`
  Read : Result (Option (List ℕ)) StoreRefusal → Answer
  -- `holds`
  Held : Bool → Answer
  -- `after`, `working_on` and `unsure`
  Named : Option Uid → Answer
  -- `picked`
  Settling : Option Pick → Answer

-- an answer of a kind, of which P holds
abbrev pub Says : {T : Type 0} → (T → Answer) → Answer → (T → Type 0) → Type 0
Says {T} kind answer P = (value : T) × (answer ≡ kind value) × P value

-- how the last device call of a job ends, by how the job does
abbrev pub last_progress : Result (Unit {0}) StoreRefusal → Result Progress StoreRefusal
last_progress (Ok done) = Ok Done
last_progress (Err e) = Err e

-- so many calls of `advance` go on, and the one behind them ends the job
abbrev pub Advanced : Bool → Layout → ℕ → Result (Unit {0}) StoreRefusal → Seen → Seen → Type 0
Advanced obeys layout zero result old new = Advances true obeys layout (last_progress result) old new
Advanced obeys layout (suc n) result old new =
    (mid : Seen) × Advances true obeys layout (Ok Going) old mid × Advanced obeys layout n result mid new

-- what is seen of the store that was opened again, or how it was refused
abbrev pub reopened : Result (Unit {0}) StoreRefusal → Seen → Result Seen StoreRefusal
reopened (Ok done) new = Ok new
reopened (Err e) new = Err e

-- A store was closed, and its disk opened again. In between the power may have gone and come back: the disk holds an image that a crash
-- may have left of it. Of a refusal the disk is handed back, which is all that is seen then.
pub record IsReopened (obeys : Bool) (layout : Layout) (result : Result (Unit {0}) StoreRefusal) (old new : Seen) : Type 0 where
  pub disk : DiskSeen
  pub faults : disk.counts.faults ≡ old.disk.counts.faults
  pub stops : disk.counts.stops ≡ old.disk.counts.stops
  pub image : Left (contents old.disk.told) (contents disk.told).now
  pub opens : Opens true obeys layout old.node (reopened result new) disk new.disk

-- A call was made of a store whose disk tells its contents: it was answered so, and left this, as the trait promises.
abbrev pub Answered : Bool → Layout → Call → Answer → Seen → Seen → Type 0
Answered obeys layout (Put uid body) answer old new =
    Says Made answer (λ result. Puts true obeys layout (asked uid (Some body)) result old new)
Answered obeys layout (Delete uid) answer old new = Says Made answer (λ result. Deletes true obeys layout (asked uid None) result old new)
Answered obeys layout (Get uid) answer old new = Says Read answer (λ result. Gets true obeys layout uid result old new)
Answered obeys layout Settle answer old new = Says Made answer (λ result. Settled true obeys layout result old new)
Answered obeys layout (BeginPut uid body) answer old new =
    Says Made answer (λ result. Begins true layout (asked uid (Some body)) result old new)
Answered obeys layout (BeginDelete uid) answer old new = Says Made answer (λ result. Begins true layout (asked uid None) result old new)
Answered obeys layout Finish answer old new = Says Made answer (λ result. (n : ℕ) × Advanced obeys layout n result old new)
Answered obeys layout (Holds uid) answer old new = Says Held answer (λ held. (held ≡ is_some (body_at old.kept uid)) × (new ≡ old))
Answered obeys layout (After from) answer old new = Says Named answer (λ next. IsNextKept old.node old.kept from next × (new ≡ old))
Answered obeys layout WorkingOn answer old new = Says Named answer (λ uid. (uid ≡ worked_on old.work) × (new ≡ old))
Answered obeys layout Unsure answer old new = Says Named answer (λ uid. (uid ≡ unsure_in old.work) × (new ≡ old))
Answered obeys layout Picked answer old new = Says Settling answer (λ pick. (pick ≡ old.picked) × (new ≡ old))
Answered obeys layout Reopen answer old new = Says Made answer (λ result. IsReopened obeys layout result old new)

-- These calls were made one behind the other, and answered so.
abbrev pub Answers : Bool → Layout → Seen → List Call → List Answer → Seen → Type 0
Answers obeys layout old [] [] new = new ≡ old
Answers obeys layout old [] (answer ∷ answers) new = ⊥
Answers obeys layout old (call ∷ calls) [] new = ⊥
Answers obeys layout old (call ∷ calls) (answer ∷ answers) new =
    (mid : Seen) × Answered obeys layout call answer old mid × Answers obeys layout mid calls answers new

-- No count of a disk rose: neither that of its faults, of which each want of memory is one, nor that of its stops. Of a count that
-- stands at the greatest number of 64 bits it is not told whether it rose.
pub record IsUndisturbed (old new : Counts) : Type 0 where
  pub no_fault : new.faults ≡ old.faults
  pub no_stop : new.stops ≡ old.stops
  pub faults_told : new.faults < 2 ^ 64 - 1
  pub stops_told : new.stops < 2 ^ 64 - 1

-- neither room nor memory was wanting
abbrev pub HasSpace : {T : Type 0} → Result T StoreRefusal → Type 0
HasSpace result = IfErr result (λ e. (e ≢ Full) × (e ≢ OutOfMemory))

-- an answer that says so of neither
abbrev pub WantsNothing : Answer → Type 0
WantsNothing (Made result) = HasSpace result
WantsNothing (Read result) = HasSpace result
WantsNothing (Held b) = Unit {0}
WantsNothing (Named uid) = Unit {0}
WantsNothing (Settling pick) = Unit {0}

-- an answer that is no refusal
abbrev pub IsFine : Answer → Type 0
IsFine (Made result) = OnErr result ⊥
IsFine (Read result) = OnErr result ⊥
IsFine (Held b) = Unit {0}
IsFine (Named uid) = Unit {0}
IsFine (Settling pick) = Unit {0}

-- These calls were answered so, no count of the disk rose from the first to the last of them, and none wanted room or memory.
pub record GoWell (obeys : Bool) (layout : Layout) (old : Seen) (calls : List Call) (answers : List Answer) (new : Seen) : Type 0 where
  pub answered : Answers obeys layout old calls answers new
  pub undisturbed : IsUndisturbed old.disk.counts new.disk.counts
  pub want_nothing : All WantsNothing answers
