-- A log with a pending record, through one device call.
use Rattle.std.proofs.Common.{◌≡◌, ℕ, suc, zero, ◌+◌, ◌≤◌, ◌<◌, Bool, true, false, cond, List, [], ◌∷◌, ◌++◌, length, take, drop, refl}
use Rattle.std.proofs.Common.{sym, ap, subst, ◌∙◌, inl, arith, length-append, length-drop}
use Rattle.std.specs.Prelude.{◌==◌, not, Option, None, Some, Result, Ok, Err, IfSome, IsSome, slice_index, slice_range, map}
use Rattle.std.specs.Prelude.{if◌then◌else◌, nat_le}
use Rattle.std.proofs.Common.{◌-◌}
use Rattle.std.proofs.lemmas.Bool.Decides.{nat_tests}
use Rattle.std.specs.Option.{option_map}
use Rattle.std.specs.FinMap as finite
use Rattle.std.specs.Cmp.{eq_by_cmp_equiv}
use Rattle.std.specs.BTreeMap.{BTreeMap}
use Rattle.std.proofs.lemmas.List.{length-take-le, take-append-drop, drop_more}
use Rattle.std.proofs.lemmas.Bool.{false≢true}
use Rattle.capability.specs.declared.Uid.{Uid}
use Rattle.capability.proofs.Uids.{uid_cmp_total}
use Rattle.eden_disk.specs.Told.{Told, Contents, contents, at_rest, EachMoment, LeavesOnly}
use Rattle.eden_disk.specs.declared.disk.DiskRefusal.{DiskRefusal}
use Rattle.eden_disk.specs.declared.disk.DiskRefusal.TheVariants.{Failed as DiskFailed, Stopped as DiskStopped}
use Rattle.eden_disk.specs.Calls.{Counts, End, ReadTold, SyncTold, end_of}
use Rattle.passive_store.specs.Acts.{DiskCall, CallTold}
use Rattle.eden_disk.specs.Held.{Holds, Passes}
use Rattle.eden_disk.proofs.Held.{holds_at_rest, passes_read, passes_sync}
use Rattle.passive_store.specs.declared.store.Pick.TheVariants.{New}
use Rattle.passive_store.specs.declared.index.Slot.{Slot}
use Rattle.passive_store.specs.declared.log_store.Pending.{Pending}
use Rattle.passive_store.specs.declared.log_store.Stage.{Stage}
use Rattle.passive_store.specs.declared.log_store.Stage.TheVariants.{Begun, Written, Synced, Opened, Ended}
use Rattle.passive_store.specs.Kept.{StoreChange, Kept, Work, Idle, Busy, Unsettled, nothing_kept, kept_after, kept_from, kept_advanced}
use Rattle.passive_store.specs.Kept.{IsFresh, Stands, changes_in, change_in, doubt_in, is_busy, settled, is_unsettled, is_synced}
use Rattle.passive_store.specs.Kept.{unsynced, settling_calls, NextTold, HasJob, IsJobOf, work_begun, end_of_store, refused}
use Rattle.passive_store.specs.declared.store.StoreRefusal.{StoreRefusal}
use Rattle.passive_store.specs.declared.store.Progress.TheVariants.{Going, Done}
use Rattle.passive_store.specs.Log.{HalfWritten, Unwritten, log_grows}
use Rattle.passive_store.specs.LogLayout.{log_layout, log_changes, log_kept, records_before, body_length, within_room, record_job}
use Rattle.passive_store.specs.LogLayout.{log_job, log_tail, bytes_for, used_by}
use Rattle.passive_store.specs.LogState.{slot_of, SetsSlot, IsPendingOf, IsLog, IsPlaced, IsUntouched, IsAtStage, IsStaged, IsShut}
use Rattle.passive_store.specs.LogState.{IsOpened, IsJobAfter, JobFacts, made_at, stage_after, stage_synced, staged, change_of}
use Rattle.passive_store.specs.LogState.{pending_work, IsRecordOf, IsIndex, slot_at, WhereBegun, stage_call}
use Rattle.passive_store.proofs.Walk.{kept_from_more}
use Rattle.passive_store.proofs.Tails.{moved, half_front, same_records, placed_more, log_stands, writing_moments, unwritten_moments}
use Rattle.passive_store.proofs.Tails.{whole_records, written_log, is_half, found_shut, found_open, fresh_value, rest_is}

abbrev pub with_stage : Pending → Stage → Pending
with_stage p s = record { uid = p.uid; removal = p.removal; length = p.length; bytes = p.bytes; stage = s }

pub restaged : (node tail : ℕ) (kept : Kept) (p : Pending) (s : Stage) → IsPendingOf node tail kept p
    → IsPendingOf node tail kept (with_stage p s)
restaged node tail kept p s i = record { bytes = i.bytes; is = i.is; spells = i.spells; size = i.size; long = i.long; fresh = i.fresh }

-- A device call kept the pending record half written.
pub record Keeps (node size tail : ℕ) (old new : Told) (before after : Counts) (index : BTreeMap Uid (Option Slot)) (q : Option Pending)
    (p : Pending) : Type 0 where
  pub is : q ≡ Some p
  pub placed : IsPlaced size tail before index q
  pub log : IsLog node size tail (contents old) index q
  pub passes : Passes (HalfWritten size (take tail (contents old).now) p.bytes.items) old new
  pub sized : after.size ≡ before.size

pub pending_is : (node size tail : ℕ) (c : Contents) (index : BTreeMap Uid (Option Slot)) (q : Option Pending) (p : Pending) → q ≡ Some p
    → IsLog node size tail c index q → IsLog node size tail c index (Some p)
pending_is node size tail c index q p e l = subst (IsLog node size tail c index) e l

pub keeps_placed : (node size tail : ℕ) (old new : Told) (before after : Counts) (index : BTreeMap Uid (Option Slot)) (q : Option Pending)
    (p : Pending) (s : Stage) → Keeps node size tail old new before after index q p →
    IsPlaced size tail after index (Some (with_stage p s))
keeps_placed node size tail old new before after index q p s k =
    let placed : IsPlaced size tail before index (Some p) = subst (IsPlaced size tail before index) k.is k.placed in
    record { sized = k.sized ∙ placed.sized; begins = placed.begins; ends = placed.ends; slots = placed.slots; placed = placed.placed }

pub keeps_log : (node size tail : ℕ) (old new : Told) (before after : Counts) (index : BTreeMap Uid (Option Slot)) (q : Option Pending)
    (p : Pending) (s : Stage) → Keeps node size tail old new before after index q p →
    IsUntouched tail (contents new) s → IsLog node size tail (contents new) index (Some (with_stage p s))
keeps_log node size tail old new before after index q p s k untouched =
    let l : IsLog node size tail (contents old) index (Some p) = subst (IsLog node size tail (contents old) index) k.is k.log in
    moved node size tail (contents old) (contents new) index q
    (with_stage p s) k.placed.begins k.placed.ends k.placed.slots k.log k.passes.after
    (restaged node tail (kept_from nothing_kept (records_before node tail (contents old).now)) p s l.end.1) untouched

pub keeps_records : (node size tail : ℕ) (old new : Told) (before after : Counts) (index : BTreeMap Uid (Option Slot))
    (q : Option Pending) (p : Pending) → Keeps node size tail old new before after index q p →
    records_before node tail (contents new).now ≡ records_before node tail (contents old).now
keeps_records node size tail old new before after index q p k = same_records node size tail (contents old) (contents new) p
    (omega (arith, k.log.whole, k.placed.ends)) k.passes.after.now

pub keeps_shown : (node size tail : ℕ) (old new : Told) (before after : Counts) (index : BTreeMap Uid (Option Slot)) (q : Option Pending)
    (p : Pending) → Keeps node size tail old new before after index q p →
    log_kept node tail (contents new).now ≡ log_kept node tail (contents old).now
keeps_shown node size tail old new before after index q p k =
    ap (λ rs. kept_from nothing_kept rs) (keeps_records node size tail old new before after index q p k)

staged_change : (tail : ℕ) (bytes : List ℕ) (c : StoreChange) (s : Stage) → change_in (staged tail bytes c s) ≡ Some c
staged_change tail bytes c Begun = refl
staged_change tail bytes c Written = refl
staged_change tail bytes c Synced = refl
staged_change tail bytes c Opened = refl
staged_change tail bytes c (Ended synced) = refl

pub keeps_moments : (node size tail : ℕ) (old new : Told) (before after : Counts) (index : BTreeMap Uid (Option Slot))
    (q : Option Pending) (p : Pending) → Keeps node size tail old new before after index q p →
    EachMoment (Stands log_layout node log_changes (kept_from nothing_kept (records_before node tail (contents old).now))
    (changes_in (change_in (pending_work tail q)))) old new
keeps_moments node size tail old new before after index q p k =
    let l : IsLog node size tail (contents old) index (Some p) = subst (IsLog node size tail (contents old) index) k.is k.log in
    let change : change_in (pending_work tail q) ≡ Some (change_of tail p) = ap (λ x. change_in (pending_work tail x)) k.is
    ∙ staged_change tail p.bytes.items (change_of tail p) p.stage in
    subst (λ x. EachMoment (Stands log_layout node log_changes (kept_from nothing_kept (records_before node tail (contents old).now))
    (changes_in x)) old new) (sym change)
    (writing_moments node size tail old new before index q p k.placed k.log l.end.1 k.passes.moments)

where_begun : (P Q : Type 0) (stage : Stage) → (P → Q) → WhereBegun stage P → WhereBegun stage Q
where_begun P Q Begun f p = f p
where_begun P Q Written f p = tt
where_begun P Q Synced f p = tt
where_begun P Q Opened f p = tt
where_begun P Q (Ended synced) f p = tt

by_stage : (P : List StoreChange → Type 0) (tail : ℕ) (bytes : List ℕ) (c : StoreChange) (stage : Stage) → WhereBegun stage (P [])
    → P (c ∷ []) → P (changes_in (doubt_in (staged tail bytes c stage)))
by_stage P tail bytes c Begun first any = first
by_stage P tail bytes c Written first any = any
by_stage P tail bytes c Synced first any = any
by_stage P tail bytes c Opened first any = any
by_stage P tail bytes c (Ended synced) first any = any

-- In the first call of its job a record does not count.
pub step_moments : (node size tail : ℕ) (old new : Told) (before after : Counts) (index : BTreeMap Uid (Option Slot)) (q : Option Pending)
    (p : Pending) → Keeps node size tail old new before after index q p →
    WhereBegun p.stage (Passes (Unwritten before.size (take tail (contents old).now)) old new) →
    EachMoment (Stands log_layout node log_changes (kept_from nothing_kept (records_before node tail (contents old).now))
    (changes_in (doubt_in (pending_work tail q)))) old new
step_moments node size tail old new before after index q p k first =
    let P : List StoreChange → Type 0 = λ changes. EachMoment
    (Stands log_layout node log_changes (kept_from nothing_kept (records_before node tail (contents old).now)) changes) old new in
    let l : IsLog node size tail (contents old) index (Some p) = subst (IsLog node size tail (contents old) index) k.is k.log in
    subst (λ x. P (changes_in (doubt_in (pending_work tail x)))) (sym k.is)
    (by_stage P tail p.bytes.items (change_of tail p) p.stage
    (where_begun (Passes (Unwritten before.size (take tail (contents old).now)) old new) (P []) p.stage
    (λ passes. unwritten_moments node size tail old new before index q k.placed k.log
    (subst (λ n. EachMoment (Unwritten n (take tail (contents old).now)) old new) k.placed.sized passes.moments)) first)
    (writing_moments node size tail old new before index q p k.placed k.log l.end.1 k.passes.moments))

-- what is told of the next call of a job, by its stage
staged_told : (tail : ℕ) (bytes : List ℕ) (c : StoreChange) (stage : Stage) (clock : ℕ) (old new : Told) (end : End)
    → CallTold (stage_call tail bytes stage) clock old new end → NextTold (staged tail bytes c stage) clock old new end
staged_told tail bytes c Begun clock old new end told = told
staged_told tail bytes c Written clock old new end told = told
staged_told tail bytes c Synced clock old new end told = told
staged_told tail bytes c Opened clock old new end told = told
staged_told tail bytes c (Ended synced) clock old new end told = tt

pub next_told : (tail : ℕ) (q : Option Pending) (p : Pending) (items : List ℕ) (clock : ℕ) (old new : Told) (end : End) → q ≡ Some p
    → items ≡ p.bytes.items → CallTold (stage_call tail items p.stage) clock old new end → NextTold (pending_work tail q) clock old new end
next_told tail q p items clock old new end e same told =
    subst (λ x. NextTold (pending_work tail x) clock old new end) (sym e)
    (staged_told tail p.bytes.items (change_of tail p) p.stage clock old new end
    (subst (λ w. CallTold (stage_call tail w p.stage) clock old new end) same told))

pub told_refused : (T U : Type 0) (call : DiskCall) (clock : ℕ) (old new : Told) (e : DiskRefusal)
    → CallTold call clock old new (end_of {T = T} (Err e)) → CallTold call clock old new (end_of_store {T = U} (Err (refused e)))
told_refused T U call clock old new DiskFailed told = told
told_refused T U call clock old new DiskStopped told = told

-- the bounds of a job
pub job_bounded : (size tail : ℕ) (bytes : List ℕ) → IsJobOf size (length (record_job tail bytes))
job_bounded size tail bytes = (omega arith, (0, omega arith, omega arith))

-- a job that begins is the one of its layout
pub begins_job : (node tail mark : ℕ) (image items : List ℕ) (uid : Uid) (body : Option (List ℕ)) (old v : Work)
    (r : Result (Unit {0}) StoreRefusal) → old ≡ Idle →
    v ≡ work_begun (record { uid = uid; body = body; mark = mark; wrote = log_grows body }) (record_job tail items) old r
    → tail ≡ log_tail node image → items ≡ bytes_for node uid body → HasJob log_layout node None image v
begins_job node tail mark image items uid body old v (Ok done) idle is at same =
    subst (HasJob log_layout node None image) (sym is) (ap (λ t. record_job t items) at ∙ ap (record_job (log_tail node image)) same, refl)
begins_job node tail mark image items uid body old v (Err e) idle is at same = subst (HasJob log_layout node None image)
    (sym (is ∙ idle)) tt

-- a job at the tail is the one of its layout
pub log_job_is : (node m tail : ℕ) (image other items : List ℕ) (uid : Uid) (body : Option (List ℕ)) → m ≡ node → other ≡ image
    → tail ≡ log_tail m other → items ≡ bytes_for node uid body → record_job tail items ≡ log_job node None image uid body
log_job_is node m tail image other items uid body nodes images at same =
    ap (λ t. record_job t items) (at ∙ ap (λ n. log_tail n other) nodes ∙ ap (log_tail node) images) ∙ ap
    (record_job (log_tail node image)) same

-- the log of an image ends where the store says
pub tail_is : (node size tail : ℕ) (c : Contents) (counts : Counts) (index : BTreeMap Uid (Option Slot)) (q : Option Pending) → q ≡ None
    → IsPlaced size tail counts index q → IsLog node size tail c index q → tail ≡ log_tail node c.now
tail_is node size tail c counts index q none placed l =
    let n : IsLog node size tail c index None = subst (IsLog node size tail c index) none l in
    l.sum ∙ ap (λ rs. 16 + used_by (map body_length rs))
    (sym (whole_records node size tail c index None placed.begins placed.ends n n.end.1))

-- what the pending record's stage says of its job
at_stage : (size tail : ℕ) (c : Contents) (items : List ℕ) (stage : Stage) → length c.now ≡ size → tail + 1 + length items ≤ size
    → IsUntouched tail c stage → IsAtStage tail items c stage → JobFacts (take tail c.now) items (made_at stage) c
at_stage size tail c items Begun whole fits untouched at =
    let here : tail < length c.now = omega (arith, whole) in (
      untouched.0,
      (
        slice_index c.now tail,
        drop (tail + 1) c.now,
        untouched.1,
        sym (take-append-drop tail c.now) ∙ ap (λ r. take tail c.now ++ r) (drop_more c.now tail 0 here),
        omega (arith, whole, length-drop (tail + 1) c.now),
      ),
    )
at_stage size tail c items Written whole fits untouched at = at
at_stage size tail c items Synced whole fits untouched at = at
at_stage size tail c items Opened whole fits untouched at = at
at_stage size tail c items (Ended synced) whole fits untouched at = tt

pub job_at : (node size tail : ℕ) (c : Contents) (counts : Counts) (index : BTreeMap Uid (Option Slot)) (q : Option Pending) (p : Pending)
    (items : List ℕ) → q ≡ Some p → items ≡ p.bytes.items →
    IsPlaced size tail counts index q → IsLog node size tail c index q → IsStaged tail c q
    → IsJobAfter counts.size (take tail c.now) items (made_at p.stage) c
job_at node size tail c counts index q p items e same placed l staged =
    let lp : IsLog node size tail c index (Some p) = subst (IsLog node size tail c index) e l in
    let pp : IsPlaced size tail counts index (Some p) = subst (IsPlaced size tail counts index) e placed in
    let sp : IsStaged tail c (Some p) = subst (IsStaged tail c) e staged in
    subst (λ n. IsJobAfter n (take tail c.now) items (made_at p.stage) c) (sym placed.sized)
    (subst (λ w. IsJobAfter size (take tail c.now) w (made_at p.stage) c) (sym same)
    (lp.end.0, at_stage size tail c p.bytes.items p.stage lp.whole pp.placed.0 lp.end.2 sp))

pub front_long : (node size tail : ℕ) (c : Contents) (counts : Counts) (index : BTreeMap Uid (Option Slot)) (q : Option Pending)
    → IsPlaced size tail counts index q → IsLog node size tail c index q → length (take tail c.now) ≡ tail
front_long node size tail c counts index q placed l = length-take-le tail c.now (omega (arith, l.whole, placed.ends))

-- a call of the job, with the bytes that it was given
pub keeps_of : (node size tail : ℕ) (old new : Told) (before after : Counts) (index : BTreeMap Uid (Option Slot)) (q : Option Pending)
    (p : Pending) (items : List ℕ) → q ≡ Some p → items ≡ p.bytes.items →
    IsPlaced size tail before index q → IsLog node size tail (contents old) index q → after.size ≡ before.size
    → Passes (HalfWritten before.size (take tail (contents old).now) items) old new →
    Keeps node size tail old new before after index q p
keeps_of node size tail old new before after index q p items e same placed l sized passes =
    record {
      is = e;
      placed = placed;
      log = l;
      sized = sized;
      passes = subst (λ n. Passes (HalfWritten n (take tail (contents old).now) p.bytes.items) old new) placed.sized
          (subst (λ w. Passes (HalfWritten before.size (take tail (contents old).now) w) old new) same passes);
    }

-- the front is still there
pub same_front : (node size tail : ℕ) (old new : Told) (before after : Counts) (index : BTreeMap Uid (Option Slot)) (q : Option Pending)
    (p : Pending) → Keeps node size tail old new before after index q p →
    take tail (contents old).now ≡ take tail (contents new).now
same_front node size tail old new before after index q p k =
    sym (subst (λ n. take n (contents new).now ≡ take tail (contents old).now)
    (front_long node size tail (contents old) before index q k.placed k.log)
    (half_front size (take tail (contents old).now) p.bytes.items (contents new).now k.passes.after.now))

next_facts : (tail : ℕ) (front items : List ℕ) (c : Contents) (stage next : Stage) → stage_after stage ≡ Some next
    → front ≡ take tail c.now → JobFacts front items (made_at stage + 1) c → IsUntouched tail c next × IsAtStage tail items c next
next_facts tail front items c Begun next e same facts =
    let is : Written ≡ next = cc in subst (λ s. IsUntouched tail c s × IsAtStage tail items c s) is
    (tt, subst (λ f. IsShut f items c.now) same facts)
next_facts tail front items c Written next e same facts =
    let is : Synced ≡ next = cc in subst (λ s. IsUntouched tail c s × IsAtStage tail items c s) is
    (tt, subst (λ f. (c ≡ at_rest c.now) × IsShut f items c.now) same facts)
next_facts tail front items c Synced next e same facts =
    let is : Opened ≡ next = cc in subst (λ s. IsUntouched tail c s × IsAtStage tail items c s) is
    (tt, subst (λ f. IsOpened f items c.now) same facts)
next_facts tail front items c Opened next e same facts = absurd cc
next_facts tail front items c (Ended synced) next e same facts = absurd cc

-- the job goes on with its next stage
pub keeps_next : (node size tail : ℕ) (old new : Told) (before after : Counts) (index : BTreeMap Uid (Option Slot)) (q : Option Pending)
    (p : Pending) (items : List ℕ) (next : Stage) → Keeps node size tail old new before after index q p →
    items ≡ p.bytes.items → stage_after p.stage ≡ Some next
    → IsJobAfter before.size (take tail (contents old).now) items (made_at p.stage + 1) (contents new) →
    IsUntouched tail (contents new) next × IsAtStage tail p.bytes.items (contents new) next
keeps_next node size tail old new before after index q p items next k same e job =
    next_facts tail (take tail (contents old).now) p.bytes.items (contents new) p.stage next e
    (same_front node size tail old new before after index q p k)
    (subst (λ w. JobFacts (take tail (contents old).now) w (made_at p.stage + 1) (contents new)) same job.1)

last_facts : (front items : List ℕ) (c d : Contents) (tail : ℕ) (bytes : List ℕ) (change : StoreChange) (stage : Stage)
    → stage_after stage ≡ None → is_busy (staged tail bytes change stage) ≡ true → JobFacts front items (made_at stage + 1) d →
    (rest : List ℕ) × (d ≡ at_rest (front ++ 225 ∷ (items ++ rest)))
last_facts front items c d tail bytes change Begun e busy facts = absurd cc
last_facts front items c d tail bytes change Written e busy facts = absurd cc
last_facts front items c d tail bytes change Synced e busy facts = absurd cc
last_facts front items c d tail bytes change Opened e busy facts = (facts.1.0, facts.0 ∙ ap at_rest facts.1.1)
last_facts front items c d tail bytes change (Ended synced) e busy facts = absurd (false≢true busy)

-- the job is done
pub job_done : (node size tail : ℕ) (old new : Told) (before after : Counts) (index more : BTreeMap Uid (Option Slot))
    (q : Option Pending) (p : Pending) (items : List ℕ) (slot : Option Slot) → Keeps node size tail old new before after index q p →
    items ≡ p.bytes.items → stage_after p.stage ≡ None → is_busy (pending_work tail q) ≡ true
    → IsJobAfter before.size (take tail (contents old).now) items (made_at p.stage + 1) (contents new) →
    slot ≡ slot_of p.removal tail p.length → SetsSlot index more p.uid slot →
    IsPlaced size (tail + p.length + 15) after more None × IsLog node size (tail + p.length + 15) (contents new) more None
    × (log_kept node (tail + p.length + 15) (contents new).now ≡ kept_after (change_of tail p) (log_kept node tail (contents old).now))
job_done node size tail old new before after index more q p items slot k same e busy job slots sets =
    let l : IsLog node size tail (contents old) index (Some p) = subst (IsLog node size tail (contents old) index) k.is k.log in
    let placed : IsPlaced size tail before index (Some p) = subst (IsPlaced size tail before index) k.is k.placed in
    let set : SetsSlot index more p.uid (slot_of p.removal tail p.length) = subst (SetsSlot index more p.uid) slots sets in
    let facts : JobFacts (take tail (contents old).now) p.bytes.items (made_at p.stage + 1) (contents new) = subst
    (λ w. JobFacts (take tail (contents old).now) w (made_at p.stage + 1) (contents new)) same job.1 in
    let rest = last_facts (take tail (contents old).now) p.bytes.items (contents old) (contents new) tail p.bytes.items
    (change_of tail p) p.stage e (ap (λ x. is_busy (pending_work tail x)) (sym k.is) ∙ busy) facts in
    let done = written_log node size tail (contents old)
    (contents new) rest.0 before index more q p k.placed k.log l.end.1 rest.1 k.passes.after.now.0 set in (
      placed_more size tail p.length before after index more q p.uid p.removal k.placed k.sized
          (omega (arith, placed.placed.0, placed.placed.2)) set,
      done.0,
      ap (λ rs. kept_from nothing_kept rs) done.1
          ∙ kept_from_more nothing_kept (records_before node tail (contents old).now) (change_of tail p),
    )

pub shown_refused : (w : Work) (s : Kept) (e : StoreRefusal) → s ≡ kept_advanced w s (Err e)
shown_refused Idle s e = refl
shown_refused (Busy c made left) s e = refl
shown_refused (Unsettled c synced) s e = refl

pub shown_going : (w : Work) (s : Kept) → s ≡ kept_advanced w s (Ok Going)
shown_going Idle s = refl
shown_going (Busy c made left) s = refl
shown_going (Unsettled c synced) s = refl

staged_done : (tail : ℕ) (bytes : List ℕ) (c : StoreChange) (stage : Stage) (s : Kept) → is_busy (staged tail bytes c stage) ≡ true
    → kept_after c s ≡ kept_advanced (staged tail bytes c stage) s (Ok Done)
staged_done tail bytes c Begun s busy = refl
staged_done tail bytes c Written s busy = refl
staged_done tail bytes c Synced s busy = refl
staged_done tail bytes c Opened s busy = refl
staged_done tail bytes c (Ended synced) s busy = absurd (false≢true busy)

pub shown_done : (tail : ℕ) (q : Option Pending) (p : Pending) (s : Kept) → q ≡ Some p → is_busy (pending_work tail q) ≡ true
    → kept_after (change_of tail p) s ≡ kept_advanced (pending_work tail q) s (Ok Done)
shown_done tail q p s e busy =
    subst (λ x. is_busy (pending_work tail x) ≡ true → kept_after (change_of tail p) s ≡ kept_advanced (pending_work tail x) s (Ok Done))
    (sym e) (λ b. staged_done tail p.bytes.items (change_of tail p) p.stage s b) busy

-- a sync, and a read of the gate
pub keeps_sync : (node size tail clock : ℕ) (old new : Told) (before after : Counts) (index : BTreeMap Uid (Option Slot))
    (q : Option Pending) (p : Pending) (end : End) → q ≡ Some p →
    IsPlaced size tail before index q → IsLog node size tail (contents old) index q → after.size ≡ before.size
    → SyncTold clock old new end → Keeps node size tail old new before after index q p
keeps_sync node size tail clock old new before after index q p end e placed l sized told =
    record {
      is = e;
      placed = placed;
      log = l;
      sized = sized;
      passes = passes_sync (HalfWritten size (take tail (contents old).now) p.bytes.items) clock old new end
          (is_half node size tail (contents old) index q p e l) told;
    }

pub keeps_read : (node size tail clock : ℕ) (old new : Told) (before after : Counts) (index : BTreeMap Uid (Option Slot))
    (q : Option Pending) (p : Pending) (end : End) → q ≡ Some p →
    IsPlaced size tail before index q → IsLog node size tail (contents old) index q → after.size ≡ before.size
    → ReadTold clock old new end → Keeps node size tail old new before after index q p
keeps_read node size tail clock old new before after index q p end e placed l sized told =
    record {
      is = e;
      placed = placed;
      log = l;
      sized = sized;
      passes = passes_read (HalfWritten size (take tail (contents old).now) p.bytes.items) clock old new end
          (is_half node size tail (contents old) index q p e l) told;
    }

unsettled_doubt : (w : Work) → is_unsettled w ≡ true → doubt_in w ≡ change_in w
unsettled_doubt Idle u = refl
unsettled_doubt (Busy c made left) u = absurd (false≢true u)
unsettled_doubt (Unsettled c synced) u = refl

pub doubt_moments : (node size tail : ℕ) (old new : Told) (before after : Counts) (index : BTreeMap Uid (Option Slot))
    (q : Option Pending) (p : Pending) → Keeps node size tail old new before after index q p → is_unsettled (pending_work tail q) ≡ true →
    EachMoment (Stands log_layout node log_changes (kept_from nothing_kept (records_before node tail (contents old).now))
    (changes_in (doubt_in (pending_work tail q)))) old new
doubt_moments node size tail old new before after index q p k u =
    subst (λ x. EachMoment (Stands log_layout node log_changes (kept_from nothing_kept (records_before node tail (contents old).now))
    (changes_in x)) old new) (sym (unsettled_doubt (pending_work tail q) u))
    (keeps_moments node size tail old new before after index q p k)

synced_rest : (tail : ℕ) (items : List ℕ) (c : Contents) (stage : Stage) → stage_synced stage ≡ true → IsAtStage tail items c stage
    → c ≡ at_rest c.now
synced_rest tail items c Begun e at = absurd (false≢true e)
synced_rest tail items c Written e at = absurd (false≢true e)
synced_rest tail items c Synced e at = absurd (false≢true e)
synced_rest tail items c Opened e at = absurd (false≢true e)
synced_rest tail items c (Ended true) e at = at
synced_rest tail items c (Ended false) e at = absurd (false≢true e)

pub read_rest : (tail : ℕ) (c : Contents) (q : Option Pending) (p : Pending) → q ≡ Some p → stage_synced p.stage ≡ true
    → IsStaged tail c q → c ≡ at_rest c.now
read_rest tail c q p e synced staged = synced_rest tail p.bytes.items c p.stage synced (subst (IsStaged tail c) e staged)

pub settled_old : (node size tail : ℕ) (old new : Told) (before after : Counts) (index : BTreeMap Uid (Option Slot)) (q : Option Pending)
    (p : Pending) → Keeps node size tail old new before after index q p →
    new ≡ old → contents old ≡ at_rest (contents old).now → (slice_index (contents old).now tail == 225) ≡ false
    → IsPlaced size tail after index None × IsLog node size tail (contents new) index None
settled_old node size tail old new before after index q p k same rest shut = (
  record { sized = k.sized ∙ k.placed.sized; begins = k.placed.begins; ends = k.placed.ends; slots = k.placed.slots; placed = tt },
  subst (λ d. IsLog node size tail d index None) (sym (ap contents same ∙ rest))
      (found_shut node size tail (contents old) index q k.log shut),
)

pub settled_new : (node size tail : ℕ) (old new : Told) (before after : Counts) (index more : BTreeMap Uid (Option Slot))
    (q : Option Pending) (p : Pending) (slot : Option Slot) → Keeps node size tail old new before after index q p →
    new ≡ old → contents old ≡ at_rest (contents old).now → (slice_index (contents old).now tail == 225) ≡ true
    → slot ≡ slot_of p.removal tail p.length → SetsSlot index more p.uid slot →
    IsPlaced size (tail + p.length + 15) after more None × IsLog node size (tail + p.length + 15) (contents new) more None
    × (log_kept node (tail + p.length + 15) (contents new).now ≡ kept_after (change_of tail p) (log_kept node tail (contents old).now))
settled_new node size tail old new before after index more q p slot k same rest is_open slots sets =
    let placed : IsPlaced size tail before index (Some p) = subst (IsPlaced size tail before index) k.is k.placed in
    let set : SetsSlot index more p.uid (slot_of p.removal tail p.length) = subst (SetsSlot index more p.uid) slots sets in
    let found = found_open node size tail (contents old) before index more q p k.is k.placed k.log is_open set in
    let at : contents new ≡ at_rest (contents old).now = ap contents same ∙ rest in (
      placed_more size tail p.length before after index more q p.uid p.removal k.placed k.sized
          (omega (arith, placed.placed.0, placed.placed.2)) set,
      subst (λ d. IsLog node size (tail + p.length + 15) d more None) (sym at) found.0,
      ap (λ (d : Contents). log_kept node (tail + p.length + 15) d.now) at
          ∙ ap (λ rs. kept_from nothing_kept rs) found.1
          ∙ kept_from_more nothing_kept (records_before node tail (contents old).now) (change_of tail p),
    )

staged_new : (tail : ℕ) (bytes : List ℕ) (c : StoreChange) (stage : Stage) (s : Kept) → is_unsettled (staged tail bytes c stage) ≡ true
    → kept_after c s ≡ settled (Some New) (staged tail bytes c stage) s
staged_new tail bytes c Begun s u = absurd (false≢true u)
staged_new tail bytes c Written s u = absurd (false≢true u)
staged_new tail bytes c Synced s u = absurd (false≢true u)
staged_new tail bytes c Opened s u = absurd (false≢true u)
staged_new tail bytes c (Ended synced) s u = refl

pub shown_new : (tail : ℕ) (q : Option Pending) (p : Pending) (s : Kept) → q ≡ Some p → is_unsettled (pending_work tail q) ≡ true
    → kept_after (change_of tail p) s ≡ settled (Some New) (pending_work tail q) s
shown_new tail q p s e u =
    subst (λ x. is_unsettled (pending_work tail x) ≡ true → kept_after (change_of tail p) s ≡ settled (Some New) (pending_work tail x) s)
    (sym e) (λ b. staged_new tail p.bytes.items (change_of tail p) p.stage s b) u

pub unless_not : (b : Bool) → not b ≡ false → b ≡ true
unless_not true e = refl
unless_not false e = absurd (false≢true (sym e))

none_marked : (slot : Option Slot) (part : Slot → List ℕ) → IsSome (option_map part slot) → None ≡ option_map (λ (s : Slot). s.gate) slot
    → ⊥
none_marked None part some e = false≢true some
none_marked (Some s) part some e = cc

-- a removal of what is kept has a mark of its own, which is none
fresh_removal : (index : BTreeMap Uid (Option Slot)) (kept : Kept) (tail : ℕ) (bytes : List ℕ) (uid : Uid) → IsIndex index kept tail bytes
    → IsSome (finite.get kept.bodies uid) → IsFresh (record { uid = uid; body = None; mark = tail; wrote = log_grows None }) kept
fresh_removal index kept tail bytes uid i some = λ same. none_marked (slot_at index uid)
    (λ x. slice_range bytes (x.gate + 15) (x.gate + 15 + x.length)) (subst IsSome (i.bodies uid) some)
    (sym (finite.get-remove uid_cmp_total kept.marks uid uid ∙ ap (λ b. cond b None (finite.get kept.marks uid))
    ((eq_by_cmp_equiv uid_cmp_total).refl uid)) ∙ same ∙ i.marks uid)

slice_long : (n : ℕ) (items : List ℕ) → 14 + n ≤ length items → length (slice_range items 14 (14 + n)) ≡ n
slice_long n items fits = ap (λ m. length (take m (drop 14 items))) (omega arith) ∙ length-take-le n (drop 14 items)
    (omega (arith, fits, length-drop 14 items))

body_long : (tail : ℕ) (uid : Uid) (removal : Bool) (n : ℕ) (items : List ℕ) → (removal ≡ true → n ≡ 0) → 14 + n ≤ length items →
    body_length (record {
      uid = uid;
      body = cond removal None (Some (slice_range items 14 (14 + n)));
      mark = tail;
      wrote = log_grows (cond removal None (Some (slice_range items 14 (14 + n))));
    }) ≡ n
body_long tail uid true n items empty fits = sym (empty refl)
body_long tail uid false n items empty fits = slice_long n items fits

fresh_change : (index : BTreeMap Uid (Option Slot)) (kept : Kept) (tail : ℕ) (bytes body : List ℕ) (uid : Uid) (removal : Bool)
    → ((u : Uid) → IfSome (slot_at index u) (λ (s : Slot). s.gate + 15 + s.length ≤ tail)) → IsIndex index kept tail bytes →
    (removal ≡ true → IsSome (finite.get kept.bodies uid))
    → IsFresh (record {
      uid = uid;
      body = cond removal None (Some body);
      mark = tail;
      wrote = log_grows (cond removal None (Some body));
    }) kept
fresh_change index kept tail bytes body uid true within i some = fresh_removal index kept tail bytes uid i (some refl)
fresh_change index kept tail bytes body uid false within i some = fresh_value index kept tail bytes body uid within i

-- a record that is begun is a pending one
pub pending_of : (node size tail : ℕ) (c : Contents) (counts : Counts) (index : BTreeMap Uid (Option Slot)) (q : Option Pending)
    (p : Pending) →
    IsPlaced size tail counts index q → IsLog node size tail c index q → IsRecordOf node p.bytes.items p.uid p.removal p.length →
    (p.removal ≡ true → IsSome (finite.get (kept_from nothing_kept (records_before node tail c.now)).bodies p.uid)) →
    IsPendingOf node tail (kept_from nothing_kept (records_before node tail c.now)) p
pending_of node size tail c counts index q p placed l r some = record {
  bytes = r.bytes;
  is = r.is;
  spells = r.spells;
  size = r.long;
  long = body_long tail p.uid p.removal p.length p.bytes.items r.empty
      (omega (arith, ap length r.is, length-append r.bytes (0 ∷ []), r.long));
  fresh = fresh_change index (kept_from nothing_kept (records_before node tail c.now)) tail c.now
      (slice_range p.bytes.items 14 (14 + p.length)) p.uid p.removal placed.slots l.indexed some;
}

-- a job begins
pub begun_log : (node size tail : ℕ) (c : Contents) (counts : Counts) (index : BTreeMap Uid (Option Slot)) (q : Option Pending)
    (p : Pending) → q ≡ None → p.stage ≡ Begun →
    IsPlaced size tail counts index q → IsLog node size tail c index q
    → IsPendingOf node tail (kept_from nothing_kept (records_before node tail c.now)) p → IsLog node size tail c index (Some p)
begun_log node size tail c counts index q p none stage placed l is =
    let n : IsLog node size tail c index None = subst (IsLog node size tail c index) none l in
    let split : c.now ≡ take tail c.now ++ slice_index c.now tail ∷ drop (tail + 1) c.now = rest_is node size tail c counts index
    (subst (IsPlaced size tail counts index) none placed) n in
    record {
      whole = l.whole;
      header = l.header;
      front = l.front;
      indexed = l.indexed;
      sum = l.sum;
      end = (
        subst (Holds (HalfWritten size (take tail c.now) p.bytes.items)) (sym n.end.0)
            (holds_at_rest (HalfWritten size (take tail c.now) p.bytes.items) c.now
            (l.whole, inl (slice_index c.now tail, drop (tail + 1) c.now, n.end.1, split))),
        is,
        subst (IsUntouched tail c) (sym stage) n.end,
      );
    }

within_yes : (room len : ℕ) → len ≤ room → within_room (Some room) len ≡ true
within_yes room len fits = grind (arith, nat_tests)

pub room_yes : (size used len : ℕ) → 32 + used + len ≤ size
    → within_room (if nat_le (32 + used) size then Some (size - (32 + used)) else None) len ≡ true
room_yes size used len fits =
    let t : nat_le (32 + used) size ≡ true = grind (arith, nat_tests) in
    ap (λ b. within_room (if b then Some (size - (32 + used)) else None) len) t ∙ within_yes (size - (32 + used)) len (omega arith)

within_no : (room len : ℕ) → room < len → within_room (Some room) len ≡ false
within_no room len over = grind (arith, nat_tests)

room_by : (b : Bool) (size used len : ℕ) → nat_le (32 + used) size ≡ b → size < 32 + used + len
    → within_room (if b then Some (size - (32 + used)) else None) len ≡ false
room_by true size used len t over = let fits : 32 + used ≤ size = grind (arith, nat_tests) in
    within_no (size - (32 + used)) len (omega (arith, fits, over))
room_by false size used len t over = refl

pub room_no : (size used len : ℕ) → size < 32 + used + len
    → within_room (if nat_le (32 + used) size then Some (size - (32 + used)) else None) len ≡ false
room_no size used len over = room_by (nat_le (32 + used) size) size used len refl over

-- the room of a log, by where it ends
pub no_room : (size used : ℕ) → size < 32 + used → (if nat_le (32 + used) size then Some (size - (32 + used)) else None) ≡ None
no_room size used over =
    let t : nat_le (32 + used) size ≡ false = grind (arith, nat_tests) in
    ap (λ b. if b then Some (size - (32 + used)) else None) t

pub some_room : (size used : ℕ) → 32 + used ≤ size
    → (if nat_le (32 + used) size then Some (size - (32 + used)) else None) ≡ Some (size - (32 + used))
some_room size used fits =
    let t : nat_le (32 + used) size ≡ true = grind (arith, nat_tests) in
    ap (λ b. if b then Some (size - (32 + used)) else None) t

-- the same of a pending record that is equal, and of one whose settling begins anew
pub stands_at : (node size tail : ℕ) (c : Contents) (counts : Counts) (index : BTreeMap Uid (Option Slot)) (q r : Option Pending) → q ≡ r
    → IsPlaced size tail counts index q → IsLog node size tail c index q →
    LeavesOnly (Stands log_layout node log_changes (kept_from nothing_kept (records_before node tail c.now))
    (changes_in (doubt_in (pending_work tail r)))) c
stands_at node size tail c counts index q r e placed l =
    subst (λ x. LeavesOnly (Stands log_layout node log_changes (kept_from nothing_kept (records_before node tail c.now))
    (changes_in (doubt_in (pending_work tail x)))) c) e (log_stands node size tail c counts index q placed l)

-- the log of a record in doubt, whose settling begins anew
pub anew_log : (node size tail : ℕ) (c : Contents) (index : BTreeMap Uid (Option Slot)) (q : Option Pending) (p : Pending) → q ≡ Some p
    → IsLog node size tail c index q → IsLog node size tail c index (Some (with_stage p (Ended false)))
anew_log node size tail c index q p e l =
    let lp : IsLog node size tail c index (Some p) = subst (IsLog node size tail c index) e l in
    record {
      whole = lp.whole;
      header = lp.header;
      front = lp.front;
      indexed = lp.indexed;
      sum = lp.sum;
      end = (lp.end.0, restaged node tail (kept_from nothing_kept (records_before node tail c.now)) p (Ended false) lp.end.1, tt);
    }

pub anew_placed : (size tail : ℕ) (counts : Counts) (index : BTreeMap Uid (Option Slot)) (q : Option Pending) (p : Pending) → q ≡ Some p
    → IsPlaced size tail counts index q → IsPlaced size tail counts index (Some (with_stage p (Ended false)))
anew_placed size tail counts index q p e placed =
    let pp : IsPlaced size tail counts index (Some p) = subst (IsPlaced size tail counts index) e placed in
    record { sized = pp.sized; begins = pp.begins; ends = pp.ends; slots = pp.slots; placed = pp.placed }

pub stands_anew : (node size tail : ℕ) (c : Contents) (counts : Counts) (index : BTreeMap Uid (Option Slot)) (q : Option Pending)
    (p : Pending) → q ≡ Some p → IsPlaced size tail counts index q → IsLog node size tail c index q →
    LeavesOnly (Stands log_layout node log_changes (kept_from nothing_kept (records_before node tail c.now))
    (changes_in (doubt_in (pending_work tail (Some (with_stage p (Ended false))))))) c
stands_anew node size tail c counts index q p e placed l =
    log_stands node size tail c counts index (Some (with_stage p (Ended false))) (anew_placed size tail counts index q p e placed)
    (anew_log node size tail c index q p e l)

pub anew_doubt : (w v : Work) → v ≡ unsynced w → doubt_in v ≡ doubt_in w
anew_doubt Idle v e = ap doubt_in e
anew_doubt (Busy c zero left) v e = ap doubt_in e
anew_doubt (Busy c (suc made) left) v e = ap doubt_in e
anew_doubt (Unsettled c synced) v e = ap doubt_in e

pub two_calls : (w : Work) → is_unsettled w ≡ true → settling_calls w ≡ 2
two_calls Idle u = absurd (false≢true u)
two_calls (Busy c made left) u = absurd (false≢true u)
two_calls (Unsettled c synced) u = refl

pub anew_unsettled : (w v : Work) → v ≡ unsynced w → is_unsettled w ≡ true → (is_unsettled v ≡ true) × (is_synced v ≡ false)
anew_unsettled Idle v e u = absurd (false≢true u)
anew_unsettled (Busy c made left) v e u = absurd (false≢true u)
anew_unsettled (Unsettled c synced) v e u = (ap is_unsettled e, ap is_synced e)

staged_fresh : (tail : ℕ) (bytes : List ℕ) (c : StoreChange) (stage : Stage) (kept : Kept) → IsFresh c kept
    → IfSome (doubt_in (staged tail bytes c stage)) (λ d. IsFresh d kept)
staged_fresh tail bytes c Begun kept fresh = tt
staged_fresh tail bytes c Written kept fresh = fresh
staged_fresh tail bytes c Synced kept fresh = fresh
staged_fresh tail bytes c Opened kept fresh = fresh
staged_fresh tail bytes c (Ended synced) kept fresh = fresh

-- the change in doubt gives its uid another mark
pub doubt_fresh : (node size tail : ℕ) (c : Contents) (index : BTreeMap Uid (Option Slot)) (q : Option Pending)
    → IsLog node size tail c index q → IfSome (doubt_in (pending_work tail q)) (λ d. IsFresh d (log_kept node tail c.now))
doubt_fresh node size tail c index None l = tt
doubt_fresh node size tail c index (Some p) l = staged_fresh tail p.bytes.items (change_of tail p) p.stage
    (log_kept node tail c.now) l.end.1.fresh
