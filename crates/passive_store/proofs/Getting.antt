-- A read, whatever is pending.
use Rattle.std.proofs.Common.{◌≡◌, ℕ, ◌+◌, ◌≤◌, Bool, true, List, [], ◌∷◌, take, refl, sym, ap, subst, ◌∙◌, inl, inr, arith}
use Rattle.std.specs.Prelude.{Option, None, Some, Result, Ok, Err, IfOk, IfErr, IsSome, is_some, slice_range}
use Rattle.std.specs.Option.{option_map}
use Rattle.std.specs.FinMap as finite
use Rattle.std.specs.BTreeMap.{BTreeMap}
use Rattle.capability.specs.declared.Uid.{Uid}
use Rattle.std.proofs.lemmas.List.{length-take-le, get_or-take}
use Rattle.eden_disk.specs.Told.{Told, Contents, contents, at_rest, Left, EachMoment}
use Rattle.eden_disk.specs.Calls.{Counts, End, Fine, AtFault, AtStop, ReadTold, DeviceCall, power_after, end_of}
use Rattle.eden_disk.specs.Held.{Passes}
use Rattle.eden_disk.proofs.Held.{only_now, passes_read, calls_one}
use Rattle.std.proofs.lemmas.Bool.{false≢true}
use Rattle.eden_disk.specs.declared.disk.DiskRefusal.{DiskRefusal}
use Rattle.eden_disk.specs.declared.disk.DiskRefusal.TheVariants.{Failed as DiskFailed, Stopped as DiskStopped}
use Rattle.passive_store.specs.declared.index.Slot.{Slot}
use Rattle.passive_store.specs.declared.log_store.Pending.{Pending}
use Rattle.passive_store.specs.declared.log_store.Stage.{Stage}
use Rattle.passive_store.specs.declared.log_store.Stage.TheVariants.{Begun, Written, Synced, Opened, Ended}
use Rattle.passive_store.specs.Kept.{Kept, nothing_kept, kept_from, Stands, changes_in, doubt_in, Ran, IsDiskRefusal, refused}
use Rattle.passive_store.specs.declared.store.StoreRefusal.{StoreRefusal}
use Rattle.passive_store.specs.Log.{HalfWritten}
use Rattle.passive_store.specs.LogLayout.{log_layout, log_changes, log_kept, records_before, reads_for}
use Rattle.passive_store.specs.LogState.{IsIndex, slot_at, IsStaged, IsLog, IsPlaced, IsUntouched, staged, change_of, pending_work}
use Rattle.passive_store.proofs.Tails.{log_image, moved, same_records, log_stands, half_stands, rest_stands, whole_map}

-- of a disk with nothing unsynced a read changes nothing, however it ends
pub rest_read : (old new : Told) (clock : ℕ) (end : End) → contents old ≡ at_rest (contents old).now → ReadTold clock old new end
    → contents new ≡ contents old
rest_read old new clock Fine rest told = ap contents told
rest_read old new clock AtFault rest told = ap contents told
rest_read old new clock AtStop rest (inl cut) =
    let same : cut.0 ≡ (contents old).now = only_now (contents old).now cut.0 (subst (λ d. Left d cut.0) rest cut.1) in
    ap contents cut.2 ∙ ap at_rest same ∙ sym rest
rest_read old new clock AtStop rest (inr same) = ap contents same.1

untouched_by_read : (tail : ℕ) (old new : Told) (clock : ℕ) (end : End) (stage : Stage) → ReadTold clock old new end
    → IsUntouched tail (contents old) stage → IsUntouched tail (contents new) stage
untouched_by_read tail old new clock end Begun told u = subst (λ d. IsUntouched tail d Begun) (sym (rest_read old new clock end u.0 told)) u
untouched_by_read tail old new clock end Written told u = tt
untouched_by_read tail old new clock end Synced told u = tt
untouched_by_read tail old new clock end Opened told u = tt
untouched_by_read tail old new clock end (Ended synced) told u = tt

pub read_log : (node size tail : ℕ) (old new : Told) (counts : Counts) (index : BTreeMap Uid (Option Slot)) (q : Option Pending)
    (clock : ℕ) (end : End) → IsPlaced size tail counts index q → IsLog node size tail (contents old) index q → ReadTold clock old new end →
    IsLog node size tail (contents new) index q × (log_kept node tail (contents new).now ≡ log_kept node tail (contents old).now)
read_log node size tail old new counts index None clock end placed l told =
    let same : contents new ≡ contents old = rest_read old new clock end l.end.0 told in
    (subst (λ d. IsLog node size tail d index None) (sym same) l, ap (λ (d : Contents). log_kept node tail d.now) same)
read_log node size tail old new counts index (Some p) clock end placed l told =
    let run : Passes (HalfWritten size (take tail (contents old).now) p.bytes.items) old new = passes_read
    (HalfWritten size (take tail (contents old).now) p.bytes.items) clock old new end l.end.0 told in (
      moved node size tail (contents old) (contents new) index (Some p) p placed.begins placed.ends placed.slots l run.after l.end.1
          (untouched_by_read tail old new clock end p.stage told l.end.2),
      ap (λ rs. kept_from nothing_kept rs) (same_records node size tail (contents old) (contents new) p
          (omega (arith, l.whole, placed.ends)) run.after.now),
    )

half_now : (node size tail : ℕ) (c : Contents) (index : BTreeMap Uid (Option Slot)) (p : Pending) → 16 ≤ tail → tail + 1 ≤ size
    → IsLog node size tail c index (Some p) →
    Stands log_layout node log_changes (kept_from nothing_kept (records_before node tail c.now)) (change_of tail p ∷ []) c.now
half_now node size tail c index p begins ends l =
    half_stands node size tail (take tail c.now) (records_before node tail c.now) p c.now
    (length-take-le tail c.now (omega (arith, l.whole))) begins
    (get_or-take tail c.now 0 0 (omega arith) ∙ l.header) l.front l.end.1 l.end.0.now

now_or_not : (node size tail : ℕ) (c : Contents) (index : BTreeMap Uid (Option Slot)) (p : Pending) (stage : Stage) → 16 ≤ tail
    → tail + 1 ≤ size → IsLog node size tail c index (Some p) → IsUntouched tail c stage →
    Stands log_layout node log_changes (kept_from nothing_kept (records_before node tail c.now))
    (changes_in (doubt_in (staged tail p.bytes.items (change_of tail p) stage))) c.now
now_or_not node size tail c index p Begun begins ends l u = log_image node
    (kept_from nothing_kept (records_before node tail c.now)) [] c.now (whole_map node size tail c index (Some p) begins ends l u.1)
now_or_not node size tail c index p Written begins ends l u = half_now node size tail c index p begins ends l
now_or_not node size tail c index p Synced begins ends l u = half_now node size tail c index p begins ends l
now_or_not node size tail c index p Opened begins ends l u = half_now node size tail c index p begins ends l
now_or_not node size tail c index p (Ended synced) begins ends l u = half_now node size tail c index p begins ends l

log_now : (node size tail : ℕ) (c : Contents) (counts : Counts) (index : BTreeMap Uid (Option Slot)) (q : Option Pending)
    → IsPlaced size tail counts index q → IsLog node size tail c index q →
    Stands log_layout node log_changes (kept_from nothing_kept (records_before node tail c.now))
    (changes_in (doubt_in (pending_work tail q))) c.now
log_now node size tail c counts index None placed l = log_image node (kept_from nothing_kept (records_before node tail c.now)) [] c.now
    (rest_stands node size tail c index placed.begins placed.ends l)
log_now node size tail c counts index (Some p) placed l = now_or_not node size tail c index p p.stage placed.begins placed.ends l l.end.2

pub read_moments : (node size tail : ℕ) (old new : Told) (counts : Counts) (index : BTreeMap Uid (Option Slot)) (q : Option Pending)
    (clock : ℕ) (end : End) → IsPlaced size tail counts index q → IsLog node size tail (contents old) index q → ReadTold clock old new end →
    EachMoment (Stands log_layout node log_changes (kept_from nothing_kept (records_before node tail (contents old).now))
    (changes_in (doubt_in (pending_work tail q)))) old new
read_moments node size tail old new counts index q clock end placed l told =
    let P : List ℕ → Type 0 = Stands log_layout node log_changes (kept_from nothing_kept (records_before node tail (contents old).now))
    (changes_in (doubt_in (pending_work tail q))) in
    (passes_read P clock old new end (record {
      now = log_now node size tail (contents old) counts index q placed l;
      left = log_stands node size tail (contents old) counts index q placed l;
    }) told).moments

-- no time passes
pub still_moments : (node size tail : ℕ) (t : Told) (counts : Counts) (index : BTreeMap Uid (Option Slot)) (q : Option Pending)
    → IsPlaced size tail counts index q → IsLog node size tail (contents t) index q →
    EachMoment (Stands log_layout node log_changes (kept_from nothing_kept (records_before node tail (contents t).now))
    (changes_in (doubt_in (pending_work tail q)))) t t
still_moments node size tail t counts index q placed l =
    record { acts = []; image = refl; since = refl; leaves = log_stands node size tail (contents t) counts index q placed l }

-- where the disk still has power, a read changed nothing
pub staged_by_read : (tail : ℕ) (old new : Told) (q : Option Pending) (clock : ℕ) (end : End) (power : Bool) → ReadTold clock old new end
    → power ≡ power_after end → power ≡ true → IsStaged tail (contents old) q → IsStaged tail (contents new) q
staged_by_read tail old new q clock Fine power told is on staged = subst (λ d. IsStaged tail d q) (sym (ap contents told)) staged
staged_by_read tail old new q clock AtFault power told is on staged = subst (λ d. IsStaged tail d q) (sym (ap contents told)) staged
staged_by_read tail old new q clock AtStop power told is on staged = absurd (false≢true (sym is ∙ on))

pub refused_read : (T U : Type 0) (refusal : DiskRefusal) (before after : Counts) → DeviceCall before after (end_of {T = T} (Err refusal))
    → Ran {T = U} 0 1 (Err (refused refusal)) before after
refused_read T U DiskFailed before after d =
    record { made = 1; number = (omega arith, omega arith); counts = calls_one before after AtFault d }
refused_read T U DiskStopped before after d =
    record { made = 1; number = (omega arith, omega arith); counts = calls_one before after AtStop d }

-- nothing is kept where the index has no slot
pub body_none : (index : BTreeMap Uid (Option Slot)) (kept : Kept) (tail : ℕ) (bytes : List ℕ) (uid : Uid)
    → IsIndex index kept tail bytes → slot_at index uid ≡ None → finite.get kept.bodies uid ≡ None
body_none index kept tail bytes uid i none = i.bodies uid
    ∙ ap (option_map (λ (s : Slot). slice_range bytes (s.gate + 15) (s.gate + 15 + s.length))) none

-- nothing is read there, and one read is made where it has one
pub reads_none : (index : BTreeMap Uid (Option Slot)) (kept : Kept) (tail : ℕ) (bytes : List ℕ) (uid : Uid)
    → IsIndex index kept tail bytes → slot_at index uid ≡ None → reads_for (finite.get kept.bodies uid) ≡ 0
reads_none index kept tail bytes uid i none = ap reads_for (body_none index kept tail bytes uid i none)

pub reads_some : (index : BTreeMap Uid (Option Slot)) (kept : Kept) (tail : ℕ) (bytes : List ℕ) (uid : Uid) (slot : Slot)
    → IsIndex index kept tail bytes → slot_at index uid ≡ Some slot →
    (reads_for (finite.get kept.bodies uid) ≡ 1) × IsSome (finite.get kept.bodies uid)
reads_some index kept tail bytes uid slot i some =
    let is : finite.get kept.bodies uid ≡ Some (slice_range bytes (slot.gate + 15) (slot.gate + 15 + slot.length)) = i.bodies uid ∙ ap
    (option_map (λ (s : Slot). slice_range bytes (s.gate + 15) (s.gate + 15 + s.length))) some in
    (ap reads_for is, ap is_some is)

-- what holds where the disk refused a read holds where it was not its settling that was refused
pub reads_then : (T A B C : Type 0) (r : Result T StoreRefusal) → (A → B) → IfErr r (λ e. IsDiskRefusal e → A)
    → IfErr r (λ e. IsDiskRefusal e → C → B)
reads_then T A B C (Ok x) f h = tt
reads_then T A B C (Err e) f h = λ refusal c. f (h refusal)

-- what was found is what is kept
pub found_then : {T : Type 0} {P Q : T → Type 0} (r : Result T StoreRefusal) → ((x : T) → P x → Q x) → IfOk r P → IfOk r Q
found_then (Ok x) f h = f x h
found_then (Err e) f h = tt
