-- The work of a log, told from the stage of its pending record, and the log through a call of its job or of its settling.
use Rattle.std.proofs.Common.{◌≡◌, ℕ, Bool, true, false, IsTrue, List, refl, sym, ap, subst, ◌∙◌, inl, inr}
use Rattle.std.specs.Prelude.{Option, Some, None, Result, Ok, Err, IfErr, OnErr, IfSome, ◌⊎◌, ◌&&◌, is_some, is_ok, nat_le}
use Rattle.std.specs.BTreeMap.{BTreeMap}
use Rattle.std.proofs.lemmas.Bool.{false≢true}
use Rattle.capability.specs.declared.Uid.{Uid}
use Rattle.eden_disk.specs.Told.{Told, contents, LeavesOnly, EachMoment}
use Rattle.eden_disk.specs.Calls.{Counts, Obeyed, end_of}
use Rattle.eden_disk.specs.Timed.{Timed}
use Rattle.eden_disk.specs.declared.disk.DiskRefusal.{DiskRefusal}
use Rattle.eden_disk.specs.declared.disk.DiskRefusal.TheVariants.{Failed as DiskFailed, Stopped as DiskStopped}
use Rattle.passive_store.specs.Kept.{StoreChange, Work, Unsettled, is_unsettled, unsynced, IsDiskRefusal, refused, end_of_store}
use Rattle.passive_store.specs.Kept.{Kept, Stands, Idle, Busy, changes_in, doubt_in, is_busy, calls_left, progress_at, work_advanced}
use Rattle.passive_store.specs.Kept.{IsFresh, Ran, settled, settling_calls, settling_of, work_settled}
use Rattle.passive_store.specs.Acts.{CallsTold}
use Rattle.passive_store.specs.Seen.{Seen, DiskSeen, Settled}
use Rattle.passive_store.specs.declared.store.Pick.{Pick}
use Rattle.passive_store.specs.declared.store.Pick.TheVariants.{Old, New}
use Rattle.passive_store.proofs.Joining.{as_before}
use Rattle.passive_store.specs.declared.store.StoreRefusal.{StoreRefusal}
use Rattle.passive_store.specs.declared.store.StoreRefusal.TheVariants.{Full, Damaged}
use Rattle.passive_store.specs.LogLayout.{log_layout, log_changes}
use Rattle.passive_store.specs.declared.store.Progress.TheVariants.{Going, Done}
use Rattle.passive_store.specs.declared.index.Slot.{Slot}
use Rattle.passive_store.specs.declared.log_store.Pending.{Pending}
use Rattle.passive_store.specs.declared.log_store.Stage.{Stage}
use Rattle.passive_store.specs.declared.log_store.Stage.TheVariants.{Begun, Written, Synced, Opened, Ended}
use Rattle.passive_store.specs.LogState.{pending_work, staged, stage_ended, stage_synced, change_of, IsPlaced, IsLog, IsStaged}
use Rattle.passive_store.specs.LogState.{IsUntouched, stage_after}
use Rattle.passive_store.proofs.Pendings.{Keeps, keeps_log, with_stage}

staged_unsettled : (tail : ℕ) (bytes : List ℕ) (c : StoreChange) (stage : Stage)
    → is_unsettled (staged tail bytes c stage) ≡ stage_ended stage
staged_unsettled tail bytes c Begun = refl
staged_unsettled tail bytes c Written = refl
staged_unsettled tail bytes c Synced = refl
staged_unsettled tail bytes c Opened = refl
staged_unsettled tail bytes c (Ended synced) = refl

-- whether the pending record is in doubt
pub unsettled_pending : (tail : ℕ) (q : Option Pending) (p : Pending) → q ≡ Some p
    → is_unsettled (pending_work tail q) ≡ stage_ended p.stage
unsettled_pending tail q p e = ap (λ x. is_unsettled (pending_work tail x)) e
    ∙ staged_unsettled tail p.bytes.items (change_of tail p) p.stage

staged_going : (tail : ℕ) (bytes : List ℕ) (c : StoreChange) (stage : Stage) → stage_ended stage ≡ false
    → staged tail bytes c stage ≡ unsynced (staged tail bytes c stage)
staged_going tail bytes c Begun going = refl
staged_going tail bytes c Written going = refl
staged_going tail bytes c Synced going = refl
staged_going tail bytes c Opened going = refl
staged_going tail bytes c (Ended synced) going = absurd (false≢true (sym going))

-- a job that goes on has no sync of a settling
pub unsynced_pending : (tail : ℕ) (q : Option Pending) (p : Pending) → q ≡ Some p → stage_ended p.stage ≡ false
    → pending_work tail (Some p) ≡ unsynced (pending_work tail q)
unsynced_pending tail q p e going = staged_going tail p.bytes.items (change_of tail p) p.stage going
    ∙ ap (λ x. unsynced (pending_work tail x)) (sym e)

staged_ended : (tail : ℕ) (bytes : List ℕ) (c : StoreChange) (stage : Stage) → stage_ended stage ≡ true
    → staged tail bytes c stage ≡ Unsettled c (stage_synced stage)
staged_ended tail bytes c Begun over = absurd (false≢true over)
staged_ended tail bytes c Written over = absurd (false≢true over)
staged_ended tail bytes c Synced over = absurd (false≢true over)
staged_ended tail bytes c Opened over = absurd (false≢true over)
staged_ended tail bytes c (Ended synced) over = refl

-- the work of a record in doubt
pub in_doubt : (tail : ℕ) (q : Option Pending) (p : Pending) → q ≡ Some p → stage_ended p.stage ≡ true
    → pending_work tail q ≡ Unsettled (change_of tail p) (stage_synced p.stage)
in_doubt tail q p e over = ap (pending_work tail) e ∙ staged_ended tail p.bytes.items (change_of tail p) p.stage over

-- its settling begins anew
pub ended_pending : (tail : ℕ) (q : Option Pending) (p : Pending) → q ≡ Some p → stage_ended p.stage ≡ true
    → Unsettled (change_of tail p) false ≡ unsynced (pending_work tail q)
ended_pending tail q p e over = ap unsynced (sym (in_doubt tail q p e over))

-- and where its sync is done, or not
pub in_doubt_at : (tail : ℕ) (q : Option Pending) (p : Pending) (synced : Bool) → q ≡ Some p → is_unsettled (pending_work tail q) ≡ true
    → stage_synced p.stage ≡ synced → pending_work tail q ≡ Unsettled (change_of tail p) synced
in_doubt_at tail q p synced e unsettled at = in_doubt tail q p e (sym (unsettled_pending tail q p e) ∙ unsettled)
    ∙ ap (Unsettled (change_of tail p)) at

-- a refusal of the disk, as a store passes it on
pub refused_only : (e : DiskRefusal) → IsDiskRefusal (refused e)
refused_only DiskFailed = inl refl
refused_only DiskStopped = inr refl

pub refused_undamaged : (e : DiskRefusal) (place : ℕ) → refused e ≡ Damaged place → ⊥
refused_undamaged DiskFailed place is = cc
refused_undamaged DiskStopped place is = cc

pub refused_end : (T U : Type 0) (e : DiskRefusal) → end_of {T = T} (Err e) ≡ end_of_store {T = U} (Err (refused e))
refused_end T U DiskFailed = refl
refused_end T U DiskStopped = refl

-- a log whose pending record is as it was
pub same_pending : (tells power : Bool) (node size tail : ℕ) (told : Told) (counts : Counts) (index : BTreeMap Uid (Option Slot))
    (q r : Option Pending) → q ≡ r → IsPlaced size tail counts index q → (IsTrue tells → IsLog node size tail (contents told) index q)
    → (IsTrue tells → IsTrue power → IsStaged tail (contents told) q) →
    IsPlaced size tail counts index r × (IsTrue tells → IsLog node size tail (contents told) index r)
    × (IsTrue tells → IsTrue power → IsStaged tail (contents told) r)
same_pending tells power node size tail told counts index q r e placed log at = (
  subst (IsPlaced size tail counts index) e placed,
  λ so. subst (IsLog node size tail (contents told) index) e (log so),
  λ so on. subst (IsStaged tail (contents told)) e (at so on),
)

-- a log whose pending record has another stage behind a device call
pub restaged_log : (tells power : Bool) (node size tail : ℕ) (old new : Told) (before after : Counts) (index : BTreeMap Uid (Option Slot))
    (q : Option Pending) (p : Pending) (stage : Stage) → q ≡ Some p → IsPlaced size tail before index q → after.size ≡ before.size
    → (IsTrue tells → Keeps node size tail old new before after index q p) → (IsTrue tells → IsUntouched tail (contents new) stage)
    → (IsTrue tells → IsTrue power → IsStaged tail (contents new) (Some (with_stage p stage))) →
    IsPlaced size tail after index (Some (with_stage p stage))
    × (IsTrue tells → IsLog node size tail (contents new) index (Some (with_stage p stage)))
    × (IsTrue tells → IsTrue power → IsStaged tail (contents new) (Some (with_stage p stage)))
restaged_log tells power node size tail old new before after index q p stage e placed sized keeps untouched at =
    let now : IsPlaced size tail before index (Some p) = subst (IsPlaced size tail before index) e placed in (
      record { sized = sized ∙ now.sized; begins = now.begins; ends = now.ends; slots = now.slots; placed = now.placed },
      λ told. keeps_log node size tail old new before after index q p stage (keeps told) (untouched told),
      at,
    )

staged_next : (tail : ℕ) (bytes : List ℕ) (c : StoreChange) (stage next : Stage) → stage_after stage ≡ Some next
    → (staged tail bytes c next ≡ work_advanced (staged tail bytes c stage) (Ok Going))
    × (Going ≡ progress_at (nat_le (calls_left (staged tail bytes c stage)) 1))
staged_next tail bytes c Begun next e =
    let is : Written ≡ next = cc in (ap (staged tail bytes c) (sym is), refl)
staged_next tail bytes c Written next e =
    let is : Synced ≡ next = cc in (ap (staged tail bytes c) (sym is), refl)
staged_next tail bytes c Synced next e =
    let is : Opened ≡ next = cc in (ap (staged tail bytes c) (sym is), refl)
staged_next tail bytes c Opened next e = absurd cc
staged_next tail bytes c (Ended synced) next e = absurd cc

-- a call of a job, behind which it goes on
pub next_work : (tail : ℕ) (q : Option Pending) (p : Pending) (next : Stage) → q ≡ Some p → stage_after p.stage ≡ Some next
    → (pending_work tail (Some (with_stage p next)) ≡ work_advanced (pending_work tail q) (Ok Going))
    × (Going ≡ progress_at (nat_le (calls_left (pending_work tail q)) 1))
next_work tail q p next e after =
    let staged_as = staged_next tail p.bytes.items (change_of tail p) p.stage next after in (
      staged_as.0 ∙ ap (λ x. work_advanced (pending_work tail x) (Ok Going)) (sym e),
      staged_as.1 ∙ ap (λ x. progress_at (nat_le (calls_left (pending_work tail x)) 1)) (sym e),
    )

staged_over : (tail : ℕ) (bytes : List ℕ) (c : StoreChange) (stage : Stage) → stage_after stage ≡ None
    → is_busy (staged tail bytes c stage) ≡ true →
    (Idle ≡ work_advanced (staged tail bytes c stage) (Ok Done)) × (Done ≡ progress_at (nat_le (calls_left (staged tail bytes c stage)) 1))
staged_over tail bytes c Begun e busy = absurd cc
staged_over tail bytes c Written e busy = absurd cc
staged_over tail bytes c Synced e busy = absurd cc
staged_over tail bytes c Opened e busy = (refl, refl)
staged_over tail bytes c (Ended synced) e busy = absurd (false≢true busy)

-- the last call of a job
pub last_work : (tail : ℕ) (q : Option Pending) (p : Pending) → q ≡ Some p → stage_after p.stage ≡ None
    → is_busy (pending_work tail q) ≡ true →
    (Idle ≡ work_advanced (pending_work tail q) (Ok Done)) × (Done ≡ progress_at (nat_le (calls_left (pending_work tail q)) 1))
last_work tail q p e after busy =
    let over = staged_over tail p.bytes.items (change_of tail p) p.stage after (ap (λ x. is_busy (pending_work tail x)) (sym e) ∙ busy) in (
      over.0 ∙ ap (λ x. work_advanced (pending_work tail x) (Ok Done)) (sym e),
      over.1 ∙ ap (λ x. progress_at (nat_le (calls_left (pending_work tail x)) 1)) (sym e),
    )

staged_refused : (tail : ℕ) (bytes : List ℕ) (c : StoreChange) (stage : Stage) (refusal : StoreRefusal)
    → is_busy (staged tail bytes c stage) ≡ true → Unsettled c false ≡ work_advanced (staged tail bytes c stage) (Err refusal)
staged_refused tail bytes c Begun refusal busy = refl
staged_refused tail bytes c Written refusal busy = refl
staged_refused tail bytes c Synced refusal busy = refl
staged_refused tail bytes c Opened refusal busy = refl
staged_refused tail bytes c (Ended synced) refusal busy = absurd (false≢true busy)

-- a call of a job that is refused
pub refused_call_work : (tail : ℕ) (q : Option Pending) (p : Pending) (refusal : StoreRefusal) → q ≡ Some p
    → is_busy (pending_work tail q) ≡ true → Unsettled (change_of tail p) false ≡ work_advanced (pending_work tail q) (Err refusal)
refused_call_work tail q p refusal e busy =
    staged_refused tail p.bytes.items (change_of tail p) p.stage refusal (ap (λ x. is_busy (pending_work tail x)) (sym e) ∙ busy)
    ∙ ap (λ x. work_advanced (pending_work tail x) (Err refusal)) (sym e)

-- what a crash leaves, where nothing that is seen of the store has changed
pub leaves_as_before : (n m : ℕ) (s t : Kept) (w v : Work) (old new : Told) → m ≡ n → t ≡ s → v ≡ w → new ≡ old
    → LeavesOnly (Stands log_layout n log_changes s (changes_in (doubt_in w))) (contents old)
    → LeavesOnly (Stands log_layout m log_changes t (changes_in (doubt_in v))) (contents new)
leaves_as_before n m s t w v old new nodes kept works told leaves =
    subst (λ x. LeavesOnly (Stands log_layout m log_changes t (changes_in (doubt_in v))) (contents x)) (sym told)
    (subst (λ x. LeavesOnly (Stands log_layout m log_changes t (changes_in (doubt_in x))) (contents old)) (sym works)
    (subst (λ (x : Kept). LeavesOnly (Stands log_layout m log_changes x (changes_in (doubt_in w))) (contents old)) (sym kept)
    (subst (λ x. LeavesOnly (Stands log_layout x log_changes s (changes_in (doubt_in w))) (contents old)) (sym nodes) leaves)))

-- a refusal that only the disk makes
pub disk_or_full : (T : Type 0) (r : Result T StoreRefusal) → IfErr r IsDiskRefusal → IfErr r (λ e. IsDiskRefusal e ⊎ (e ≡ Full))
disk_or_full T (Ok done) only = tt
disk_or_full T (Err e) only = inl only

-- what is not there
pub none_there : {A : Type 0} (x : Option A) → is_some x ≡ false → x ≡ None
none_there None e = refl
none_there (Some a) e = absurd (false≢true (sym e))

-- A settling that begins anew is settled as the one before it.
anew_same : {A : Type 0} (f : Work → A) (w v : Work) → ((c : StoreChange) (synced : Bool) → f (Unsettled c false) ≡ f (Unsettled c synced))
    → v ≡ unsynced w → f v ≡ f w
anew_same f Idle v same e = ap f e
anew_same f (Busy c made left) v same e = ap f e
anew_same f (Unsettled c synced) v same e = ap f e ∙ same c synced

settled_same : (pick : Option Pick) (kept : Kept) (c : StoreChange) (synced : Bool)
    → settled pick (Unsettled c false) kept ≡ settled pick (Unsettled c synced) kept
settled_same None kept c synced = refl
settled_same (Some Old) kept c synced = refl
settled_same (Some New) kept c synced = refl

work_same : (pick : Option Pick) (c : StoreChange) (synced : Bool)
    → work_settled pick (Unsettled c false) ≡ work_settled pick (Unsettled c synced)
work_same None c synced = refl
work_same (Some pick) c synced = refl

pub settled_anew : (tells obeys : Bool) (r : Result (Unit {0}) StoreRefusal) (old begun new : Seen) → begun.node ≡ old.node
    → begun.disk ≡ old.disk → begun.more ≡ old.more → begun.refused_at ≡ old.refused_at → (IsTrue tells → begun.kept ≡ old.kept)
    → begun.work ≡ unsynced old.work → (IsTrue tells → IfSome (doubt_in old.work) (λ c. IsFresh c old.kept)) →
    Settled tells obeys log_layout r begun new → Settled tells obeys log_layout r old new
settled_anew tells obeys r old begun new nodes disk mores ats kept work fresh s =
    let doubts : doubt_in begun.work ≡ doubt_in old.work = anew_same doubt_in old.work begun.work (λ c synced. refl) work in
    let unsettled : is_unsettled begun.work ≡ is_unsettled old.work =
    anew_same is_unsettled old.work begun.work (λ c synced. refl) work in
    record {
      goes = record {
        node = s.goes.node ∙ nodes;
        obeyed = λ so. subst (λ (d : DiskSeen). Obeyed d.due new.disk.due d.counts new.disk.counts (end_of_store r)) disk
            (s.goes.obeyed so);
        timed = λ so. subst (λ (d : DiskSeen). Timed d.counts.clock d.told new.disk.counts.clock new.disk.told) disk (s.goes.timed so);
        stands = s.goes.stands;
      };
      only = s.only;
      refused = subst (λ b. OnErr r (IsTrue b)) unsettled s.refused;
      ran = subst (λ (d : DiskSeen). Ran (settling_calls old.work) 0 r d.counts new.disk.counts) disk
          (subst (λ n. Ran n 0 r begun.disk.counts new.disk.counts)
          (anew_same settling_calls old.work begun.work (λ c synced. refl) work) s.ran);
      order = λ so. subst (λ (d : DiskSeen). CallsTold (settling_of old.work) d.told new.disk.told (end_of_store r)) disk
          (subst (λ l. CallsTold l begun.disk.told new.disk.told (end_of_store r))
          (anew_same settling_of old.work begun.work (λ c synced. refl) work) (s.order so));
      work = s.work ∙ anew_same (work_settled new.picked) old.work begun.work (work_same new.picked) work;
      picked = subst (λ b. is_some new.picked ≡ (is_ok r && b)) unsettled s.picked;
      more = s.more ∙ mores;
      at = s.at ∙ ats;
      kept = λ so. s.kept so ∙ anew_same (λ w. settled new.picked w begun.kept) old.work begun.work
          (settled_same new.picked begun.kept) work
          ∙ ap (settled new.picked old.work) (kept so);
      fresh = fresh;
      moments = λ so. subst (λ (d : DiskSeen). EachMoment (Stands log_layout old.node old.more old.kept (changes_in (doubt_in old.work)))
          d.told new.disk.told) disk
          (as_before log_layout old.node begun.node old.more begun.more old.kept begun.kept (doubt_in old.work) (doubt_in begun.work)
          begun.disk.told new.disk.told nodes mores (kept so) doubts (s.moments so));
    }
