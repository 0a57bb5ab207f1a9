-- The values that are planned by the index of a log are those that the log keeps.
use Rattle.std.specs.Prelude.{◌≡◌, ◌⊎◌, ℕ, ◌+◌, ◌≤◌, ◌<◌, ◌==◌, Bool, true, false, IsTrue, List, length, slice_index, All}
use Rattle.std.specs.Prelude.{Option, None, Some, IfSome, Ok, Err}
use Rattle.std.proofs.Common.{sym, ap, subst, ◌∙◌, inl, inr, arith}
use Rattle.std.proofs.lemmas.List.{length-take-le, get_or-take}
use Rattle.std.specs.BTreeMap as tree
use Rattle.std.specs.BTreeMap.{BTreeMap}
use Rattle.capability.specs.declared.Uid.{Uid}
use Rattle.capability.specs.Uids.{uid_cmp}
use Rattle.eden_disk.specs.Told.{contents}
use Rattle.eden_disk.specs.Timed.{Timed}
use Rattle.eden_disk.specs.Calls.{Fine, DeviceCalls, Obeyed, ReadTold}
use Rattle.passive_store.specs.declared.index.Slot.{Slot}
use Rattle.passive_store.specs.declared.store.StoreRefusal.{StoreRefusal}
use Rattle.passive_store.specs.declared.store.StoreRefusal.TheVariants.{Full, OutOfMemory}
use Rattle.passive_store.specs.declared.opening.Found.{Found}
use Rattle.passive_store.specs.Kept.{Kept, kept_by}
use Rattle.passive_store.specs.Layout.{IsLayout}
use Rattle.passive_store.specs.Log.{records_of}
use Rattle.passive_store.specs.LogLayout.{log_layout, log_kept, records_before}
use Rattle.passive_store.specs.LogState.{slot_at}
use Rattle.passive_store.specs.Opening.{IsWalk, IsBounded, ReadsMade}
use Rattle.passive_store.specs.Seen.{DiskSeen}
use Rattle.passive_store.proofs.Walk.{log_stands_there}
use Rattle.passive_store.proofs.Walking.{walk_closed}
use Rattle.passive_blocks.specs.declared.convert.Moved.{Moved}
use Rattle.passive_blocks.specs.Conversion.{old_log, moved, is_too_much}
use Rattle.passive_blocks.specs.Converting.{IsMovable, all_moved_in, planned, slots_in, blocks_together}
use Rattle.passive_blocks.specs.BlockLayout.{walk_reads}
use Rattle.passive_blocks.specs.Making.{Runs}
use Rattle.passive_blocks.specs.Preparing.{log_found}
use Rattle.passive_blocks.proofs.Planning.{moved_on, good_entries, too_much, not_too_much}
use Rattle.passive_blocks.proofs.StagingLog.{ArePlannedFor, StagesLog, walk_runs, plan_wanting, plan_full}

-- each slot's body stands in the log
slot_within : (tail size : ℕ) (slot : Option Slot) → tail ≤ size → IfSome slot (λ (s : Slot). s.gate + 15 + s.length ≤ tail)
    → IfSome slot (λ (s : Slot). s.gate + 15 + s.length ≤ size)
slot_within tail size None less within = tt
slot_within tail size (Some s) less within = omega (arith, less, within)

pub slots_within : (size tail : ℕ) (index : BTreeMap Uid (Option Slot)) → IsBounded size tail index
    → (uid : Uid) → IfSome (slot_at index uid) (λ (s : Slot). s.gate + 15 + s.length ≤ size)
slots_within size tail index b uid = slot_within tail size (slot_at index uid) (omega (arith, b.ends)) (b.slots uid)

-- the index of a log that was read to its end
pub record IsIndexed (node : ℕ) (image : List ℕ) (tail : ℕ) (index : BTreeMap Uid (Option Slot)) : Type 0 where
  pub long : length image ≡ 4194304
  pub bounded : IsBounded 1048576 tail index
  pub walk : IsWalk node 1048576 tail (old_log image) index
  pub shut : (slice_index (old_log image) tail == 225) ≡ false
  pub ordered : tree.IsOrdered uid_cmp index

pub records_are : (node tail : ℕ) (image : List ℕ) (index : BTreeMap Uid (Option Slot)) → IsBounded 1048576 tail index
    → IsWalk node 1048576 tail (old_log image) index → (slice_index (old_log image) tail == 225) ≡ false
    → records_of node (old_log image) ≡ Ok (records_before node tail (old_log image))
records_are node tail image index b walk shut = walk_closed node 1048576 tail (old_log image) index (omega (arith, b.ends)) walk shut

found_is : (node tail : ℕ) (image : List ℕ) (index : BTreeMap Uid (Option Slot)) → IsIndexed node image tail index
    → log_found node image ≡ Ok (log_kept node tail (old_log image))
found_is node tail image index i = ap (λ r. kept_by r) (records_are node tail image index i.bounded i.walk i.shut)

values_are : (node tail : ℕ) (image : List ℕ) (index : BTreeMap Uid (Option Slot)) → IsIndexed node image tail index
    → moved (log_kept node tail (old_log image)) ≡ all_moved_in image (planned index)
values_are node tail image index i =
    moved_on index (log_kept node tail (old_log image)) tail 1048576 image i.ordered i.walk.indexed (omega (arith, i.long))
    (slots_within 1048576 tail index i.bounded)

pub planned_for : (node tail : ℕ) (image : List ℕ) (index : BTreeMap Uid (Option Slot)) (values : List Moved) → IsLayout log_layout
    → IsIndexed node image tail index → values ≡ planned index → All IsMovable values → blocks_together (slots_in index.entries) ≤ 2944
    → ArePlannedFor node image values
planned_for node tail image index values layout i is movable few =
    let log : List ℕ = old_log image in
    let kept : Kept = log_kept node tail log in
    record {
      kept = kept;
      log = found_is node tail image index i;
      fits = not_too_much index kept image (values_are node tail image index i) few;
      same = ap (λ vs. all_moved_in image vs) is ∙ sym (values_are node tail image index i);
      good = λ header. good_entries node tail log index kept layout
          (log_stands_there node log (omega (arith, length-take-le 1048576 image (omega (arith, i.long))))
          (get_or-take 1048576 image 0 0 (omega arith) ∙ header) ∙ found_is node tail image index i)
          i.ordered i.walk.indexed (subst (λ vs. All IsMovable vs) is movable);
    }

pub too_much_for : (node tail : ℕ) (image : List ℕ) (index : BTreeMap Uid (Option Slot)) → IsIndexed node image tail index
    → 2944 < blocks_together (slots_in index.entries) → is_too_much (log_found node image) ≡ true
too_much_for node tail image index i more =
    ap (λ l. is_too_much l) (found_is node tail image index i)
    ∙ too_much index (log_kept node tail (old_log image)) image (values_are node tail image index i) more

-- what the walk over a log leaves, and finds
pub indexed_by : (node : ℕ) (image : List ℕ) (f : Found) → length image ≡ 4194304 → f.size ≡ 1048576 → IsBounded f.size f.tail f.index
    → IsWalk node f.size f.tail (old_log image) f.index → (slice_index (old_log image) f.tail == 225) ≡ false
    → tree.IsOrdered uid_cmp f.index → IsIndexed node image f.tail f.index
indexed_by node image f long size b walk shut ordered = record {
  long = long;
  bounded = subst (λ n. IsBounded n f.tail f.index) size b;
  walk = subst (λ n. IsWalk node n f.tail (old_log image) f.index) size walk;
  shut = shut;
  ordered = ordered;
}

pub walked : (tells obeys : Bool) (node made : ℕ) (f : Found) (old mid : DiskSeen) → DeviceCalls made old.counts mid.counts Fine
    → (IsTrue tells → ReadsMade node (old_log (contents old.told).now) (Ok f) made)
    → (IsTrue obeys → Obeyed old.due mid.due old.counts mid.counts Fine)
    → (IsTrue tells → Timed old.counts.clock old.told mid.counts.clock mid.told)
    → (IsTrue tells → ReadTold mid.counts.clock old.told mid.told Fine) → f.size ≡ 1048576 → IsBounded f.size f.tail f.index
    → (IsTrue tells → IsWalk node f.size f.tail (old_log (contents old.told).now) f.index)
    → (IsTrue tells → (slice_index (old_log (contents old.told).now) f.tail == 225) ≡ false)
    → Runs tells obeys (walk_reads node (old_log (contents old.told).now)) old mid (Ok f)
walked tells obeys node made f old mid counts reads obeyed timed told size b walk shut =
    walk_runs tells obeys node made old mid (Ok f) counts reads obeyed timed told (tt {0})
    (λ so. records_are node f.tail (contents old.told).now f.index (subst (λ n. IsBounded n f.tail f.index) size b)
    (subst (λ n. IsWalk node n f.tail (old_log (contents old.told).now) f.index) size (walk so)) (shut so))

pub plan_refused : (tells obeys : Bool) (node : ℕ) (f : Found) (old mid : DiskSeen) (e : StoreRefusal)
    → (e ≡ OutOfMemory) ⊎ ((e ≡ Full) × (2944 < blocks_together (slots_in f.index.entries)))
    → Runs tells obeys (walk_reads node (old_log (contents old.told).now)) old mid (Ok f)
    → (IsTrue tells → ReadTold mid.counts.clock old.told mid.told Fine)
    → (IsTrue tells → IsIndexed node (contents old.told).now f.tail f.index) → StagesLog tells obeys node old mid (Err e)
plan_refused tells obeys node f old mid e (inl is) a told indexed =
    subst (λ r. StagesLog tells obeys node old mid (Err r)) (sym is) (plan_wanting tells obeys node mid.counts.clock f old mid a told)
plan_refused tells obeys node f old mid e (inr much) a told indexed =
    subst (λ r. StagesLog tells obeys node old mid (Err r)) (sym much.0) (plan_full tells obeys node mid.counts.clock f old mid a told
    (λ so. too_much_for node f.tail (contents old.told).now f.index (indexed so) much.1))
