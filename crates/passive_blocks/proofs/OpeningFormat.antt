-- New blocks on a blank disk: what its device calls leave.
use Rattle.std.proofs.Common.{◌≡◌, ℕ, suc, zero, ◌+◌, ◌-◌, ◌*◌, ◌/◌, ◌≤◌, ◌<◌, Bool, true, ◌==◌, List, [], ◌∷◌, ◌++◌}
use Rattle.std.proofs.Common.{length, map, replicate, IsTrue, refl, sym, ap, subst, ◌∙◌, arith, inl, inr}
use Rattle.std.specs.Prelude.{slice_index, Result, Ok, Err, OnOk}
use Rattle.std.proofs.lemmas.Bool.{cases_lt}
use Rattle.std.proofs.lemmas.Bool.Decides.{nat_tests}
use Rattle.std.proofs.lemmas.List.{length-replicate, map-append}
use Rattle.eden_disk.specs.declared.disk.DiskRefusal.{DiskRefusal}
use Rattle.eden_disk.specs.declared.disk.DiskRefusal.TheVariants.{Failed, Stopped}
use Rattle.eden_disk.specs.Told.{Told, Contents, contents, overlay}
use Rattle.eden_disk.specs.Timed.{Timed}
use Rattle.eden_disk.specs.Calls.{Counts, Due, End, DeviceCalls, Obeyed, Fine, WriteTold, SyncTold, end_of}
use Rattle.eden_disk.specs.Held.{Holds, Passes}
use Rattle.eden_disk.proofs.Held.{calls_more, obeyed_more, holds_at_rest, passes_read, passes_sync, passes_join}
use Rattle.eden_disk.proofs.Held.{passes_weaker}
use Rattle.eden_disk.proofs.Timed.{timed_join}
use Rattle.eden_disk.proofs.Overlay.{length-overlay, overlay_outside, overlay_inside}
use Rattle.passive_store.specs.Acts.{DiskCall, Write, Sync, CallTold, AllTold, CallsTold}
use Rattle.passive_store.proofs.Joining.{timed_still, all_more, call_done, calls_told_more, call_ended}
use Rattle.block_tables.specs.Blocks.{numbers, head_place, is_block_size}
use Rattle.passive_blocks.specs.Fits.{Fits}
use Rattle.passive_blocks.specs.NewBlocks.{MayBlank, MayEmpty, IsEmptyImage, IsBlankDisk, IsClearedDisk, IsNewBlocks, AreCleared}
use Rattle.passive_blocks.specs.NewBlocks.{clearing_calls}
use Rattle.passive_blocks.proofs.Fitting.{fits_write}

-- a size of blocks
pub size_parts : (size : ℕ) → is_block_size size ≡ true → (32768 ≤ size) × (size ≤ 67108864) × (size ≡ size / 32768 * 32768)
size_parts size is = grind (arith, nat_tests)

pub numbers_split : (from i count : ℕ) → i ≤ count → numbers from count ≡ numbers from i ++ numbers (from + i) (count - i)
unfolding numbers
numbers_split from zero count few =
    let all : count ≡ count - 0 = omega arith in
    let first : from ≡ from + 0 = omega arith in
    ap (numbers from) all ∙ ap (λ f. numbers f (count - 0)) first
numbers_split from (suc i) zero few = absurd (omega (arith, few))
numbers_split from (suc i) (suc count) few =
    let next : from + 1 + i ≡ from + suc i = omega arith in
    let left : count - i ≡ suc count - suc i = omega arith in
    ap (λ ns. from ∷ ns) (numbers_split (from + 1) i count (omega (arith, few))
    ∙ ap (λ f. numbers (from + 1) i ++ numbers f (count - i)) next ∙ ap (λ m. numbers (from + 1) i ++ numbers (from + suc i) m) left)

one_number : (n : ℕ) → numbers n 1 ≡ n ∷ []
unfolding numbers
one_number n = refl

numbers_more : (from i : ℕ) → numbers from (i + 1) ≡ numbers from i ++ (from + i) ∷ []
numbers_more from i =
    let one : i + 1 - i ≡ 1 = omega arith in
    numbers_split from i (i + 1) (omega arith) ∙ ap (λ m. numbers from i ++ numbers (from + i) m) one
    ∙ ap (λ ns. numbers from i ++ ns) (one_number (from + i))

first_number : (from count : ℕ) → 1 ≤ count → numbers from count ≡ from ∷ numbers (from + 1) (count - 1)
first_number from count some = numbers_split from 1 count some ∙ ap (λ ns. ns ++ numbers (from + 1) (count - 1)) (one_number from)

zero_at : (n k : ℕ) → slice_index (replicate n 0) k ≡ 0
zero_at zero k = refl
zero_at (suc n) zero = refl
zero_at (suc n) (suc k) = zero_at n k

-- So many blocks of heads were cleared, and no device call was refused.
pub record Clearing (tells obeys : Bool) (size : ℕ) (start here : Told) (before after : Counts) (due_then due_now : Due)
    (i : ℕ) : Type 0 where
  pub counts : DeviceCalls i before after Fine
  pub obeyed : IsTrue obeys → Obeyed due_then due_now before after Fine
  pub timed : IsTrue tells → Timed before.clock start after.clock here
  pub order : IsTrue tells → AllTold (clearing_calls i) start here
  pub blank : IsTrue tells → Holds (Fits MayBlank size) (contents start) → Passes (Fits MayBlank size) start here
  pub cleared : IsTrue tells → length (contents start).now ≡ size → AreCleared size i (contents here).now

pub clearing_none : (tells obeys : Bool) (size : ℕ) (start : Told) (before : Counts) (due : Due) → DeviceCalls 0 before before Fine
    → Obeyed due due before before Fine → Clearing tells obeys size start start before before due due 0
unfolding numbers
clearing_none tells obeys size start before due counts obeyed = record {
  counts = counts;
  obeyed = λ so. obeyed;
  timed = λ so. timed_still before.clock before.clock start start (omega arith) refl;
  order = λ so. refl;
  blank = λ so holds. passes_read (Fits MayBlank size) 0 start start Fine holds refl;
  cleared = λ so long. record { long = long; zeros = λ k above below. absurd (omega (arith, above, below)) };
}

may_blank : (k b i : ℕ) → (i + 1) * 1024 ≤ k → MayBlank k b
may_blank k b i above = record { log = λ is. absurd (omega (arith, above, is)); format = λ is. absurd (omega (arith, above, is)) }

-- a write of zeros keeps a disk blank
pub blank_write : (size clock i : ℕ) (old new : Told) (end : End) → (i + 1) * 1024 + 1024 ≤ size → Holds (Fits MayBlank size) (contents old)
    → WriteTold clock ((i + 1) * 1024) (replicate 1024 0) old new end → Passes (Fits MayBlank size) old new
blank_write size clock i old new end fits holds told =
    let long : length {A = ℕ} (replicate 1024 0) ≡ 1024 = length-replicate {A = ℕ} 1024 0 in
    fits_write MayBlank size clock ((i + 1) * 1024) (replicate 1024 0) old new end holds (λ k b above below. may_blank k b i above)
    (omega (arith, fits, long)) told

-- and clears one block more
cleared_more : (size i : ℕ) (now : List ℕ) → (i + 1) * 1024 + 1024 ≤ size → AreCleared size i now
    → AreCleared size (i + 1) (overlay ((i + 1) * 1024) (replicate 1024 0) now)
cleared_more size i now fits c =
    let zeros : List ℕ = replicate 1024 0 in
    let many : length zeros ≡ 1024 = length-replicate {A = ℕ} 1024 0 in
    let inside : (i + 1) * 1024 + length zeros ≤ length now = omega (arith, fits, many, c.long) in
    record {
      long = length-overlay ((i + 1) * 1024) zeros now inside ∙ c.long;
      zeros = λ k above below. elim (cases_lt k ((i + 1) * 1024)) [
        | inl less ↦ overlay_outside ((i + 1) * 1024) k zeros now inside (inl less) ∙ c.zeros k above (omega (arith, less))
        | inr more ↦ overlay_inside ((i + 1) * 1024) k zeros now inside more (omega (arith, below, many)) ∙ zero_at 1024 (k -
            (i + 1) * 1024)
      ];
    }

pub clearing_more : (tells obeys : Bool) (size : ℕ) (start here there : Told) (before between after : Counts)
    (due_then due_now due_next : Due)
    (i clock : ℕ) → Clearing tells obeys size start here before between due_then due_now i → (i + 1) * 1024 + 1024 ≤ size
    → DeviceCalls 1 between after Fine → (IsTrue obeys → Obeyed due_now due_next between after Fine)
    → (IsTrue tells → Timed between.clock here after.clock there)
    → (IsTrue tells → WriteTold clock ((i + 1) * 1024) (replicate 1024 0) here there Fine)
    → Clearing tells obeys size start there before after due_then due_next (i + 1)
clearing_more tells obeys size start here there before between after due_then due_now due_next i clock c fits counts obeyed timed told =
    let one : i + 1 ≡ 1 + i = omega arith in
    let calls : clearing_calls (i + 1) ≡ clearing_calls i ++ Write ((i + 1) * 1024) (replicate 1024 0) ∷ [] =
    ap (map (λ block. Write (block * 1024) (replicate 1024 0))) (numbers_more 1 i)
    ∙ map-append (λ block. Write (block * 1024) (replicate 1024 0)) (numbers 1 i) ((1 + i) ∷ [])
    ∙ ap (λ n. clearing_calls i ++ Write (n * 1024) (replicate 1024 0) ∷ []) (sym one) in
    record {
      counts = calls_more i 1 before between after Fine c.counts counts;
      obeyed = λ so. obeyed_more i 1 due_then due_now due_next before between after Fine c.counts counts (c.obeyed so) (obeyed so);
      timed = λ so. timed_join before.clock between.clock after.clock start here there (c.timed so) (timed so);
      order = λ so. subst (λ l. AllTold l start there) (sym calls)
          (all_more (clearing_calls i) (Write ((i + 1) * 1024) (replicate 1024 0) ∷ []) start here there (c.order so)
          (call_done (Write ((i + 1) * 1024) (replicate 1024 0)) clock here there (told so)));
      blank = λ so holds. let first = c.blank so holds in
          passes_join (Fits MayBlank size) start here there first (blank_write size clock i here there Fine fits first.after (told so));
      cleared = λ so long. subst (λ t. AreCleared size (i + 1) (contents t).now) (sym (told so))
          (cleared_more size i (contents here).now fits (c.cleared so long));
    }

some_of : (call : DiskCall) (rest : List DiskCall) (clock : ℕ) (old new : Told) (e : DiskRefusal)
    → CallTold call clock old new (end_of {T = Unit {0}} (Err e)) → CallsTold (call ∷ rest) old new (end_of {T = Unit {0}} (Err e))
some_of call rest clock old new Failed told = inl (clock, told)
some_of call rest clock old new Stopped told = inl (clock, told)

-- a write of zeros was refused
pub clearing_refused : (tells obeys : Bool) (size : ℕ) (start here there : Told) (before between : Counts) (due_then due_now : Due)
    (i count clock : ℕ) (e : DiskRefusal) → Clearing tells obeys size start here before between due_then due_now i → i < count
    → IsTrue tells
    → WriteTold clock ((i + 1) * 1024) (replicate 1024 0) here there (end_of {T = Unit {0}} (Err e))
    → CallsTold (clearing_calls count) start there (end_of {T = Unit {0}} (Err e))
clearing_refused tells obeys size start here there before between due_then due_now i count clock e c below so told =
    let one : i + 1 ≡ 1 + i = omega arith in
    let rest : List DiskCall = map (λ block. Write (block * 1024) (replicate 1024 0)) (numbers (1 + i + 1) (count - i - 1)) in
    let calls : clearing_calls count ≡ clearing_calls i ++ Write ((i + 1) * 1024) (replicate 1024 0) ∷ rest =
    ap (map (λ block. Write (block * 1024) (replicate 1024 0))) (numbers_split 1 i count (omega (arith, below))
    ∙ ap (λ ns. numbers 1 i ++ ns) (first_number (1 + i) (count - i) (omega (arith, below))))
    ∙ map-append (λ block. Write (block * 1024) (replicate 1024 0)) (numbers 1 i) ((1 + i) ∷ numbers (1 + i + 1) (count - i - 1))
    ∙ ap (λ n. clearing_calls i ++ Write (n * 1024) (replicate 1024 0) ∷ rest) (sym one) in
    subst (λ l. CallsTold l start there (end_of {T = Unit {0}} (Err e))) (sym calls)
    (calls_told_more (clearing_calls i) (Write ((i + 1) * 1024) (replicate 1024 0) ∷ rest) start here there (end_of {T = Unit {0}} (Err e))
    (c.order so) (some_of (Write ((i + 1) * 1024) (replicate 1024 0)) rest clock here there e told))

-- Behind the sync of cleared heads any byte may stand at the second place.
any_at_one : (size k b : ℕ) → 1 ≤ k → k < 2 → MayEmpty size k b
any_at_one size k b above below = record {
  log = λ is. absurd (omega (arith, above, is));
  gate = λ n on is. absurd (omega (arith, below, is));
}

cleared_fits : (size : ℕ) (now : List ℕ) → 32768 ≤ size → size ≡ size / 32768 * 32768 → Fits MayBlank size now → AreCleared size
    (size / 32768) now
    → Fits (MayEmpty size) size now
cleared_fits size now least whole f c = record {
  long = f.long;
  bytes = λ k. record {
    log = (f.bytes k).log;
    gate = λ n on is.
        let zero_there : slice_index now k ≡ 0 = c.zeros k (omega (arith, is)) (omega (arith, is, on, whole)) in
        ap (λ b. b == 225) zero_there;
  };
}

-- what fits is an empty image
pub blank_is_empty : (size : ℕ) (image : List ℕ) → Fits MayBlank size image → IsEmptyImage size image
blank_is_empty size image f = record { long = f.long; log = (f.bytes 0).log refl; heads = inl ((f.bytes 1).format refl) }

pub shut_is_empty : (size : ℕ) (image : List ℕ) → Fits (MayEmpty size) size image → IsEmptyImage size image
shut_is_empty size image f = record {
  long = f.long;
  log = (f.bytes 0).log refl;
  heads = inr (λ n on. (f.bytes (head_place n)).gate n on refl);
}

pub blank_fits : (size : ℕ) (c : Contents) → IsBlankDisk size c → Holds (Fits MayBlank size) c
blank_fits size c b =
    subst (Holds (Fits MayBlank size)) (sym b.rest) (holds_at_rest (Fits MayBlank size) c.now (record {
      long = b.long;
      bytes = λ k. record {
        log = λ is. ap (λ j. slice_index c.now j == 237) is ∙ b.log;
        format = λ is. ap (λ j. slice_index c.now j == 235) is ∙ b.format;
      };
    }))

-- The heads are cleared. A sync, the byte that says that blocks stand there, and a sync.
pub sync_passes : (size clock : ℕ) (old new : Told) (end : End) → Holds (Fits MayBlank size) (contents old) → SyncTold clock old new end
    → Passes (IsEmptyImage size) old new
sync_passes size clock old new end holds told =
    passes_weaker (Fits MayBlank size) (IsEmptyImage size) old new (blank_is_empty size)
    (passes_sync (Fits MayBlank size) clock old new end holds told)

pub synced_fits : (size clock : ℕ) (old new : Told) → 32768 ≤ size → size ≡ size / 32768 * 32768 → Holds (Fits MayBlank size) (contents old)
    → AreCleared size (size / 32768) (contents old).now → SyncTold clock old new Fine → Holds (Fits (MayEmpty size) size) (contents new)
synced_fits size clock old new least whole holds cleared told =
    subst (Holds (Fits (MayEmpty size) size)) (sym (ap contents told))
    (holds_at_rest (Fits (MayEmpty size) size) (contents old).now (cleared_fits size (contents old).now least whole holds.now cleared))

pub mark_passes : (size clock : ℕ) (old new : Told) (end : End) → 32768 ≤ size → Holds (Fits (MayEmpty size) size) (contents old)
    → WriteTold clock 1 (235 ∷ []) old new end → Passes (Fits (MayEmpty size) size) old new
mark_passes size clock old new end least holds told =
    fits_write (MayEmpty size) size clock 1 (235 ∷ []) old new end holds (λ k b above below. any_at_one size k b above (omega
    (arith, below)))
    (omega (arith, least)) told

pub empty_weaker : (size : ℕ) (old new : Told) → Passes (Fits (MayEmpty size) size) old new → Passes (IsEmptyImage size) old new
empty_weaker size old new p = passes_weaker (Fits (MayEmpty size) size) (IsEmptyImage size) old new (shut_is_empty size) p

pub new_blocks : (size wrote clock : ℕ) (old mid new : Told) → 32768 ≤ size → Holds (Fits (MayEmpty size) size) (contents mid)
    → length (contents old).now ≡ size → WriteTold wrote 1 (235 ∷ []) old mid Fine → SyncTold clock mid new Fine
    → IsNewBlocks size (contents new)
new_blocks size wrote clock old mid new least holds long written synced =
    let now_is : (contents mid).now ≡ overlay 1 (235 ∷ []) (contents old).now = ap (λ t. (contents t).now) written in
    subst (IsNewBlocks size) (sym (ap contents synced)) (record {
      rest = refl;
      long = holds.now.long;
      format = ap (λ x. slice_index x 1) now_is
          ∙ overlay_inside 1 1 (235 ∷ []) (contents old).now (omega (arith, long, least)) (omega arith) (omega arith);
      shut = λ n on. (holds.now.bytes (head_place n)).gate n on refl;
    })

pub always_ok : {T E P : Type 0} (r : Result T E) → P → OnOk r P
always_ok (Ok x) p = p
always_ok (Err e) p = tt

pub ok_new : (size wrote clock : ℕ) (old mid new : Told) (r : Result (Unit {0}) DiskRefusal) → 32768 ≤ size
    → Holds (Fits (MayEmpty size) size) (contents mid) → length (contents old).now ≡ size → WriteTold wrote 1 (235 ∷ []) old mid Fine
    → SyncTold clock mid new (end_of r) → OnOk r (IsNewBlocks size (contents new))
ok_new size wrote clock old mid new (Ok x) least holds long written synced = new_blocks size wrote clock old mid new least holds long
    written synced
ok_new size wrote clock old mid new (Err e) least holds long written synced = tt

-- the calls that say that blocks stand there, as far as they came
pub marked_first : (clock : ℕ) (t0 t1 : Told) (e : DiskRefusal) → SyncTold clock t0 t1 (end_of {T = Unit {0}} (Err e))
    → CallsTold (Sync ∷ Write 1 (235 ∷ []) ∷ Sync ∷ []) t0 t1 (end_of {T = Unit {0}} (Err e))
marked_first clock t0 t1 e told = some_of Sync (Write 1 (235 ∷ []) ∷ Sync ∷ []) clock t0 t1 e told

pub marked_second : (clock wrote : ℕ) (t0 t1 t2 : Told) (e : DiskRefusal) → SyncTold clock t0 t1 Fine
    → WriteTold wrote 1 (235 ∷ []) t1 t2 (end_of {T = Unit {0}} (Err e))
    → CallsTold (Sync ∷ Write 1 (235 ∷ []) ∷ Sync ∷ []) t0 t2 (end_of {T = Unit {0}} (Err e))
marked_second clock wrote t0 t1 t2 e synced told =
    calls_told_more (Sync ∷ []) (Write 1 (235 ∷ []) ∷ Sync ∷ []) t0 t1 t2 (end_of {T = Unit {0}} (Err e))
    (call_done Sync clock t0 t1 synced)
    (some_of (Write 1 (235 ∷ [])) (Sync ∷ []) wrote t1 t2 e told)

pub marked_third : (clock wrote later : ℕ) (t0 t1 t2 t3 : Told) (end : End) → SyncTold clock t0 t1 Fine → WriteTold wrote 1
    (235 ∷ []) t1 t2 Fine
    → SyncTold later t2 t3 end → CallsTold (Sync ∷ Write 1 (235 ∷ []) ∷ Sync ∷ []) t0 t3 end
marked_third clock wrote later t0 t1 t2 t3 end synced written told =
    calls_told_more (Sync ∷ Write 1 (235 ∷ []) ∷ []) (Sync ∷ []) t0 t2 t3 end
    (all_more (Sync ∷ []) (Write 1 (235 ∷ []) ∷ []) t0 t1 t2 (call_done Sync clock t0 t1 synced)
    (call_done (Write 1 (235 ∷ [])) wrote t1 t2 written))
    (call_ended Sync later t2 t3 end told)

-- and what they leave
pub mark_empty_write : (size clock wrote : ℕ) (t0 t1 t2 : Told) (end : End) → is_block_size size ≡ true → IsClearedDisk size (contents t0)
    → SyncTold clock t0 t1 Fine → WriteTold wrote 1 (235 ∷ []) t1 t2 end
    → Passes (IsEmptyImage size) t0 t2 × Passes (Fits (MayEmpty size) size) t1 t2
mark_empty_write size clock wrote t0 t1 t2 end allowed cleared synced written =
    let whole = size_parts size allowed in
    let holds = synced_fits size clock t0 t1 whole.0 whole.2 cleared.holds cleared.cleared synced in
    let second = mark_passes size wrote t1 t2 end whole.0 holds written in (
      passes_join (IsEmptyImage size) t0 t1 t2 (sync_passes size clock t0 t1 Fine cleared.holds synced)
          (empty_weaker size t1 t2 second),
      second,
    )

pub mark_empty : (size clock wrote later : ℕ) (t0 t1 t2 t3 : Told) (end : End) → is_block_size size ≡ true → IsClearedDisk size
    (contents t0)
    → SyncTold clock t0 t1 Fine → WriteTold wrote 1 (235 ∷ []) t1 t2 Fine → SyncTold later t2 t3 end → Passes (IsEmptyImage size) t0 t3
mark_empty size clock wrote later t0 t1 t2 t3 end allowed cleared synced written told =
    let first = mark_empty_write size clock wrote t0 t1 t2 Fine allowed cleared synced written in
    passes_join (IsEmptyImage size) t0 t2 t3 first.0
    (empty_weaker size t2 t3 (passes_sync (Fits (MayEmpty size) size) later t2 t3 end first.1.after told))

pub mark_new : (size clock wrote later : ℕ) (t0 t1 t2 t3 : Told) (r : Result (Unit {0}) DiskRefusal) → is_block_size size ≡ true
    → IsClearedDisk size (contents t0) → SyncTold clock t0 t1 Fine → WriteTold wrote 1 (235 ∷ []) t1 t2 Fine
    → SyncTold later t2 t3 (end_of r) → OnOk r (IsNewBlocks size (contents t3))
mark_new size clock wrote later t0 t1 t2 t3 r allowed cleared synced written told =
    let whole = size_parts size allowed in
    let first = mark_empty_write size clock wrote t0 t1 t2 Fine allowed cleared synced written in
    let long : length (contents t1).now ≡ size = ap (λ t. length (contents t).now) synced ∙ cleared.holds.now.long in
    ok_new size wrote later t1 t2 t3 r whole.0 first.1.after long written told

-- a blank disk whose heads were cleared
pub cleared_disk : (size : ℕ) (old new : Told) → IsBlankDisk size (contents old)
    → (Holds (Fits MayBlank size) (contents old) → Passes (Fits MayBlank size) old new)
    → (length (contents old).now ≡ size → AreCleared size (size / 32768) (contents new).now)
    → IsClearedDisk size (contents new) × Passes (IsEmptyImage size) old new
cleared_disk size old new blank passes cleared =
    let p = passes (blank_fits size (contents old) blank) in (
      record { holds = p.after; cleared = cleared blank.long },
      passes_weaker (Fits MayBlank size) (IsEmptyImage size) old new (blank_is_empty size) p,
    )
