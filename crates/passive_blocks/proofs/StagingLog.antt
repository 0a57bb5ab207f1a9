-- A log that is read, copied and staged: what each end of it leaves.
use Rattle.std.specs.Prelude.{◌≡◌, ◌≢◌, ℕ, suc, zero, ◌+◌, Bool, true, false, IsTrue, List, [], ◌∷◌, ◌++◌}
use Rattle.std.specs.Prelude.{length, map, flat_map, replicate, slice_index, Result, Ok, Err, OnOk, IfErr, if◌then◌else◌}
use Rattle.std.specs.List.{AllByRecursion}
use Rattle.std.proofs.Common.{refl, sym, ap, subst, ◌∙◌, inl, arith}
use Rattle.std.proofs.lemmas.List.{append-nil, length-replicate}
use Rattle.std.specs.FinMap as finite
use Rattle.capability.specs.declared.Uid.{Uid}
use Rattle.eden_disk.specs.declared.disk.DiskRefusal.{DiskRefusal}
use Rattle.eden_disk.specs.Told.{Told, contents}
use Rattle.eden_disk.specs.Timed.{Timed}
use Rattle.eden_disk.specs.Calls.{End, Fine, AtFault, AtStop, DeviceCalls, Obeyed, ReadTold, end_of}
use Rattle.eden_disk.specs.Held.{Holds, Passes}
use Rattle.eden_disk.proofs.Held.{holds_at_rest, passes_read}
use Rattle.passive_store.specs.declared.opening.Found.{Found}
use Rattle.passive_store.specs.declared.store.StoreRefusal.{StoreRefusal}
use Rattle.passive_store.specs.declared.store.StoreRefusal.TheVariants.{Failed, Stopped, Full, Damaged, OutOfMemory}
use Rattle.passive_store.specs.Acts.{DiskCall, Read, AllTold, SomeTold, CallsTold}
use Rattle.passive_store.specs.Kept.{Kept, OpeningMade, OpeningTold, IsOverfullBy, kept_by, refused, end_of_store}
use Rattle.passive_store.specs.Log.{records_of}
use Rattle.passive_store.specs.LogLayout.{records_before, records_up_to}
use Rattle.passive_store.specs.Opening.{ReadsMade}
use Rattle.passive_store.specs.Seen.{DiskSeen}
use Rattle.passive_store.proofs.Joining.{calls_told_more}
use Rattle.passive_blocks.specs.declared.convert.Moved.{Moved}
use Rattle.passive_blocks.specs.BlockLayout.{walk_reads}
use Rattle.passive_blocks.specs.Conversion.{Moved as Value, old_log, moved, moved_heads, is_too_much, move_calls, staged_calls}
use Rattle.passive_blocks.specs.Conversion.{staging_calls}
use Rattle.passive_blocks.specs.Conversion.{heads_spelled, blocks_moved}
use Rattle.passive_blocks.specs.Converting.{SaysSame, IsOldLog, IsGoodEntry, heads_planned, moved_in, all_moved_in}
use Rattle.passive_blocks.specs.Making.{Makes, Runs}
use Rattle.passive_blocks.specs.Preparing.{IsLogDisk, AreStagedFor, log_found, staging_of, log_calls}
use Rattle.passive_blocks.proofs.ConvertStages.{may_copy}
use Rattle.passive_blocks.proofs.ConvertMoments.{EachMay, copying_keeps}
use Rattle.passive_blocks.proofs.StagedSays.{moved_sum, not_more, reads_staged}
use Rattle.passive_blocks.proofs.StagingMoments.{copies_may, staging_keeps, AreStagedOn, staged_told}
use Rattle.passive_blocks.proofs.Running.{EndsEarly, AllowsRest, runs_whole, runs_up_to, runs_wanting, runs_join, runs_rest, runs_refused}
use Rattle.passive_blocks.proofs.Running.{runs_full, runs_as, refused_early}
use Rattle.passive_blocks.proofs.Bringing.{old_there, log_is}

-- 1. What is left of it

pub record StagesLog (tells obeys : Bool) (node : ℕ) (old new : DiskSeen) (result : Result (Unit {0}) StoreRefusal) : Type 0 where
  pub runs : Runs tells obeys (log_calls node (contents old.told).now) old new result
  pub damaged : IsTrue tells → IfErr result (λ e. (place : ℕ) → e ≡ Damaged place → log_found node (contents old.told).now ≡ Err place)
  pub full : IsTrue tells → IsOverfullBy (is_too_much (log_found node (contents old.told).now)) result
  pub staged : IsTrue tells → IsLogDisk false (contents old.told)
      → OnOk result (AreStagedFor node (contents old.told).now (contents new.told))
  pub says : IsTrue tells → IsLogDisk false (contents old.told)
      → Passes (λ image. SaysSame node image (contents old.told).now) old.told new.told

-- 2. The log is read

-- what a walk over it found
abbrev pub RecordsFound : ℕ → List ℕ → Result Found StoreRefusal → Type 0
RecordsFound node log (Ok f) = records_of node log ≡ Ok (records_before node f.tail log)
RecordsFound node log (Err e) = (place : ℕ) → e ≡ Damaged place → records_of node log ≡ Err place

reads_count : (n : ℕ) → length (replicate n Read) ≡ n
reads_count n = length-replicate n Read

up_to : (node : ℕ) (log : List ℕ) (place : ℕ) → records_of node log ≡ Err place
    → records_up_to node log (records_of node log) ≡ records_before node place log
up_to node log place is = ap (λ r. records_up_to node log r) is

whole_walk : (node : ℕ) (log : List ℕ) (tail : ℕ) → records_of node log ≡ Ok (records_before node tail log)
    → records_up_to node log (records_of node log) ≡ records_before node tail log
whole_walk node log tail is = ap (λ r. records_up_to node log r) is

walk_made : (node made : ℕ) (log : List ℕ) (r : Result Found StoreRefusal) → IfErr r (λ e. e ≢ Full) → RecordsFound node log r
    → ReadsMade node log r made → OpeningMade (length (walk_reads node log)) r made
walk_made node made log (Ok f) full found m = omega (
  arith,
  m,
  reads_count (length (records_up_to node log (records_of node log)) + 1),
  ap (λ rs. length rs) (whole_walk node log f.tail found),
)
walk_made node made log (Err Failed) full found m = m
walk_made node made log (Err Stopped) full found m = m
walk_made node made log (Err Full) full found m = absurd (full refl)
walk_made node made log (Err (Damaged place)) full found m = omega (
  arith,
  m,
  reads_count (length (records_up_to node log (records_of node log)) + 1),
  ap (λ rs. length rs) (up_to node log place (found place refl)),
)
walk_made node made log (Err OutOfMemory) full found m = tt

all_reads : (n clock : ℕ) (old new : Told) → new ≡ old → AllTold (replicate n Read) old new
all_reads zero clock old new same = same
all_reads (suc n) clock old new same = (old, clock, refl, all_reads n clock old new same)

more_than_none : (n : ℕ) → n + 1 ≡ suc n
more_than_none n = omega arith

walk_told : (n clock : ℕ) (old new : Told) (r : Result Found StoreRefusal) → ReadTold clock old new (end_of_store r)
    → OpeningTold (replicate (n + 1) Read) old new r
walk_told n clock old new (Ok f) told = all_reads (n + 1) clock old new told
walk_told n clock old new (Err Failed) told =
    subst (λ m. SomeTold (replicate m Read) old new AtFault) (sym (more_than_none n)) (inl (clock, told))
walk_told n clock old new (Err Stopped) told =
    subst (λ m. SomeTold (replicate m Read) old new AtStop) (sym (more_than_none n)) (inl (clock, told))
walk_told n clock old new (Err Full) told = all_reads (n + 1) clock old new told
walk_told n clock old new (Err (Damaged place)) told = all_reads (n + 1) clock old new told
walk_told n clock old new (Err OutOfMemory) told = ([], replicate (n + 1) Read, refl, told)

pub walk_runs : (tells obeys : Bool) (node made : ℕ) (old new : DiskSeen) (r : Result Found StoreRefusal)
    → DeviceCalls made old.counts new.counts (end_of_store r)
    → (IsTrue tells → ReadsMade node (old_log (contents old.told).now) r made)
    → (IsTrue obeys → Obeyed old.due new.due old.counts new.counts (end_of_store r))
    → (IsTrue tells → Timed old.counts.clock old.told new.counts.clock new.told)
    → (IsTrue tells → ReadTold new.counts.clock old.told new.told (end_of_store r)) → IfErr r (λ e. e ≢ Full)
    → (IsTrue tells → RecordsFound node (old_log (contents old.told).now) r)
    → Runs tells obeys (walk_reads node (old_log (contents old.told).now)) old new r
walk_runs tells obeys node made old new r counts reads obeyed timed told full found = record {
  made = made;
  counts = counts;
  number = λ so. walk_made node made (old_log (contents old.told).now) r full (found so) (reads so);
  obeyed = obeyed;
  timed = timed;
  order = λ so. walk_told (length (records_up_to node (old_log (contents old.told).now)
      (records_of node (old_log (contents old.told).now))))
      new.counts.clock old.told new.told r (told so);
}

says_itself : (node : ℕ) (image : List ℕ) → SaysSame node image image
says_itself node image = record { found = refl; overfull = refl; told = refl }

-- while the disk is read an opening finds the same
pub read_says : (node clock : ℕ) (staged : Bool) (old new : Told) (end : End) → IsLogDisk staged (contents old) → ReadTold clock old new end
    → Passes (λ image. SaysSame node image (contents old).now) old new
read_says node clock staged old new end log told =
    passes_read (λ image. SaysSame node image (contents old).now) clock old new end
    (subst (λ c. Holds (λ image. SaysSame node image (contents old).now) c) (sym log.rest)
    (holds_at_rest (λ image. SaysSame node image (contents old).now) (contents old).now (says_itself node (contents old).now))) told

never_full : (e : StoreRefusal) (rest : List DiskCall) → e ≢ Full → ((place : ℕ) → e ≡ Damaged place → rest ≡ []) → AllowsRest e rest
never_full Failed rest full damaged = tt
never_full Stopped rest full damaged = tt
never_full Full rest full damaged = absurd (full refl)
never_full (Damaged place) rest full damaged = damaged place refl
never_full OutOfMemory rest full damaged = tt

not_overfull : (e : StoreRefusal) (log : Result Kept ℕ) → e ≢ Full → ((place : ℕ) → e ≡ Damaged place → log ≡ Err place)
    → IsOverfullBy {S = Unit {0}} (is_too_much log) (Err e)
not_overfull Failed log full damaged = tt
not_overfull Stopped log full damaged = tt
not_overfull Full log full damaged = absurd (full refl)
not_overfull (Damaged place) log full damaged = ap (λ l. is_too_much l) (damaged place refl)
not_overfull OutOfMemory log full damaged = tt

pub walk_refused : (tells obeys : Bool) (node clock : ℕ) (old new : DiskSeen) (e : StoreRefusal) → e ≢ Full
    → Runs {T = Found} tells obeys (walk_reads node (old_log (contents old.told).now)) old new (Err e)
    → (IsTrue tells → RecordsFound node (old_log (contents old.told).now) (Err e))
    → (IsTrue tells → ReadTold clock old.told new.told (end_of_store {T = Found} (Err e))) → StagesLog tells obeys node old new (Err e)
walk_refused tells obeys node clock old new e full a found told =
    let damaged : IsTrue tells → (place : ℕ) → e ≡ Damaged place → log_found node (contents old.told).now ≡ Err place =
    λ so place is. ap (λ r. kept_by r) (found so place is) in
    record {
      runs = runs_rest Found (Unit {0}) tells obeys (walk_reads node (old_log (contents old.told).now))
          (staging_of (log_found node (contents old.told).now)) old new e
          (λ so. never_full e (staging_of (log_found node (contents old.told).now)) full
          (λ place is. ap (λ l. staging_of l) (damaged so place is))) a;
      damaged = damaged;
      full = λ so. not_overfull e (log_found node (contents old.told).now) full (damaged so);
      staged = λ so log. tt;
      says = λ so log. read_says node clock false old.told new.told (end_of_store {T = Found} (Err e)) log (told so);
    }

-- 3. Its values are planned

-- memory was wanting, or they are too much
pub plan_wanting : (tells obeys : Bool) (node clock : ℕ) (f : Found) (old mid : DiskSeen)
    → Runs tells obeys (walk_reads node (old_log (contents old.told).now)) old mid (Ok f)
    → (IsTrue tells → ReadTold clock old.told mid.told Fine) → StagesLog tells obeys node old mid (Err OutOfMemory)
plan_wanting tells obeys node clock f old mid a told = record {
  runs = runs_join Found (Unit {0}) f tells obeys (walk_reads node (old_log (contents old.told).now))
      (staging_of (log_found node (contents old.told).now)) old mid mid (Err OutOfMemory) a
      (runs_wanting (Unit {0}) tells obeys (staging_of (log_found node (contents old.told).now)) mid a.counts.power);
  damaged = λ so place is. absurd (let bad : OutOfMemory ≡ Damaged place = is in cc);
  full = λ so. tt;
  staged = λ so log. tt;
  says = λ so log. read_says node clock false old.told mid.told Fine log (told so);
}

none_staged : (log : Result Kept ℕ) → is_too_much log ≡ true → staging_of log ≡ []
none_staged (Ok kept) much = ap (λ b. if b then [] else staging_calls kept) much
none_staged (Err place) much = refl

pub plan_full : (tells obeys : Bool) (node clock : ℕ) (f : Found) (old mid : DiskSeen)
    → Runs tells obeys (walk_reads node (old_log (contents old.told).now)) old mid (Ok f)
    → (IsTrue tells → ReadTold clock old.told mid.told Fine) → (IsTrue tells → is_too_much (log_found node (contents old.told).now) ≡ true)
    → StagesLog tells obeys node old mid (Err Full)
plan_full tells obeys node clock f old mid a told much = record {
  runs = runs_as (Unit {0}) tells obeys (walk_reads node (old_log (contents old.told).now)) (log_calls node (contents old.told).now) old mid
      (Err Full)
      (λ so. sym (append-nil (walk_reads node (old_log (contents old.told).now)))
      ∙ ap (λ l. walk_reads node (old_log (contents old.told).now) ++ l)
      (sym (none_staged (log_found node (contents old.told).now) (much so))))
      (runs_full Found (Unit {0}) f tells obeys (walk_reads node (old_log (contents old.told).now)) old mid a);
  damaged = λ so place is. absurd (let bad : Full ≡ Damaged place = is in cc);
  full = much;
  staged = λ so log. tt;
  says = λ so log. read_says node clock false old.told mid.told Fine log (told so);
}

-- what is known of the values that are to be moved
pub record ArePlannedFor (node : ℕ) (image : List ℕ) (values : List Moved) : Type 0 where
  pub kept : Kept
  pub log : log_found node image ≡ Ok kept
  pub fits : is_too_much (Ok kept) ≡ false
  pub same : all_moved_in image values ≡ moved kept
  pub good : slice_index image 0 ≡ 237
      → AllByRecursion (λ (e : Uid × List ℕ). IsGoodEntry node e.0 (length e.1)) (finite.entries kept.bodies)

heads_in_values : (image : List ℕ) (values : List Moved) → map (λ (v : Value). v.head) (all_moved_in image values) ≡ heads_planned values
heads_in_values image [] = refl
heads_in_values image (m ∷ ms) = ap (λ hs. (moved_in image m).head ∷ hs) (heads_in_values image ms)

-- the calls that copy these values and stage their heads
abbrev copies : List ℕ → List Moved → List DiskCall
copies image values = flat_map move_calls (all_moved_in image values)

abbrev stages : List Moved → List DiskCall
stages values = staged_calls (heads_spelled 4096 (heads_planned values))

heads_are : (node : ℕ) (image : List ℕ) (values : List Moved) (p : ArePlannedFor node image values) → heads_planned values ≡ moved_heads
    p.kept
heads_are node image values p = sym (heads_in_values image values) ∙ ap (λ vs. map (λ (v : Value). v.head) vs) p.same

calls_are : (node : ℕ) (image : List ℕ) (values : List Moved) (p : ArePlannedFor node image values)
    → copies image values ++ stages values ≡ staging_calls p.kept
calls_are node image values p =
    ap (λ vs. flat_map move_calls vs ++ stages values) p.same
    ∙ ap (λ hs. flat_map move_calls (moved p.kept) ++ staged_calls (heads_spelled 4096 hs)) (heads_are node image values p)

calls_of_log : (node : ℕ) (image : List ℕ) (values : List Moved) (p : ArePlannedFor node image values)
    → walk_reads node (old_log image) ++ (copies image values ++ stages values) ≡ log_calls node image
calls_of_log node image values p =
    ap (λ l. walk_reads node (old_log image) ++ l)
    (calls_are node image values p
    ∙ sym (ap (λ l. staging_of l) p.log ∙ ap (λ b. if b then [] else staging_calls p.kept) p.fits))

not_too_much : (node : ℕ) (image : List ℕ) (values : List Moved) → ArePlannedFor node image values → is_too_much (log_found node image)
    ≡ false
not_too_much node image values p = ap (λ l. is_too_much l) p.log ∙ p.fits

-- 4. They are copied

first_may : (may : ℕ → ℕ → Type 0) (size : ℕ) (xs ys : List DiskCall) → EachMay may size (xs ++ ys) → EachMay may size xs
first_may may size [] ys each = tt
first_may may size (x ∷ xs) ys each = (each.0, first_may may size xs ys each.1)

-- at each moment of the copying, up to where it ended, an opening finds the same
copying_ends : (node : ℕ) (calls : List DiskCall) (old new : Told) (e : StoreRefusal) → EndsEarly e → IsLogDisk false (contents old)
    → IsOldLog (contents old).now → EachMay (may_copy (contents old).now) 4194304 calls → OpeningTold {S = Unit {0}} calls old new (Err e)
    → Passes (λ image. SaysSame node image (contents old).now) old new
copying_ends node calls old new Failed early log is may told =
    copying_keeps node (contents old).now calls old new AtFault log.rest is may told
copying_ends node calls old new Stopped early log is may told =
    copying_keeps node (contents old).now calls old new AtStop log.rest is may told
copying_ends node calls old new Full early log is may told = absurd early
copying_ends node calls old new (Damaged place) early log is may told = absurd early
copying_ends node calls old new OutOfMemory early log is may told =
    copying_keeps node (contents old).now told.0 old new Fine log.rest is
    (first_may (may_copy (contents old).now) 4194304 told.0 told.1
    (subst (λ l. EachMay (may_copy (contents old).now) 4194304 l) told.2 may)) told.3

copies_fit : (node : ℕ) (image : List ℕ) (values : List Moved) → ArePlannedFor node image values
    → EachMay (may_copy image) 4194304 (copies image values)
copies_fit node image values p =
    subst (λ vs. EachMay (may_copy image) 4194304 (flat_map move_calls vs)) (sym p.same)
    (copies_may image 0 1024 (finite.entries p.kept.bodies) (omega arith)
    (omega (arith, moved_sum 0 1024 (finite.entries p.kept.bodies), not_more 2944 (blocks_moved p.kept) p.fits)))

early_fits : (b : Bool) (e : StoreRefusal) → EndsEarly e → IsOverfullBy {S = Unit {0}} b (Err e)
early_fits b Failed early = tt
early_fits b Stopped early = tt
early_fits b Full early = absurd early
early_fits b (Damaged place) early = absurd early
early_fits b OutOfMemory early = tt

early_whole : (e : StoreRefusal) (place : ℕ) → EndsEarly e → e ≡ Damaged place → ⊥
early_whole e place early is = subst (λ r. EndsEarly r) is early

pub copying_refused : (tells obeys : Bool) (node clock : ℕ) (f : Found) (values : List Moved) (old mid new : DiskSeen) (e : StoreRefusal)
    → EndsEarly e → (IsTrue tells → length (contents old.told).now ≡ 4194304)
    → Runs tells obeys (walk_reads node (old_log (contents old.told).now)) old mid (Ok f)
    → (IsTrue tells → ReadTold clock old.told mid.told Fine)
    → (IsTrue tells → ArePlannedFor node (contents old.told).now values)
    → Runs {T = Unit {0}} tells obeys (flat_map move_calls (all_moved_in (contents mid.told).now values)) mid new (Err e)
    → StagesLog tells obeys node old new (Err e)
copying_refused tells obeys node clock f values old mid new e early long a told planned b =
    let image : List ℕ = (contents old.told).now in
    let walk : List DiskCall = walk_reads node (old_log image) in
    let same : IsTrue tells → (contents mid.told).now ≡ image = λ so. ap (λ t. (contents t).now) (told so) in
    record {
      runs = runs_as (Unit {0}) tells obeys (walk ++ (copies (contents mid.told).now values ++ stages values)) (log_calls node image) old
          new
          (Err e)
          (λ so. ap (λ xs. walk ++ (copies xs values ++ stages values)) (same so) ∙ calls_of_log node image values (planned so))
          (runs_join Found (Unit {0}) f tells obeys walk (copies (contents mid.told).now values ++ stages values) old mid new (Err e) a
          (runs_refused (Unit {0}) (Unit {0}) tells obeys (copies (contents mid.told).now values) (stages values) mid new e early b));
      damaged = λ so place is. absurd (early_whole e place early is);
      full = λ so. early_fits (is_too_much (log_found node image)) e early;
      staged = λ so log. tt;
      says = λ so log. copying_ends node (copies image values) old.told new.told e early log
          (old_there (contents old.told) log (long so)) (copies_fit node image values (planned so))
          (subst (λ t. OpeningTold {S = Unit {0}} (copies (contents t).now values) t new.told (Err e)) (told so) (b.order so));
    }

-- 5. Their heads are staged

staged_ends : (node : ℕ) (values : List Moved) (old new : Told) (end : End) → IsLogDisk false (contents old)
    → IsOldLog (contents old).now
    → (p : ArePlannedFor node (contents old).now values) → CallsTold (copies (contents old).now values ++ stages values) old new end
    → Passes (λ image. SaysSame node image (contents old).now) old new
staged_ends node values old new end log is p told =
    staging_keeps node (contents old).now p.kept old new end log.rest is (log_is node (contents old).now is ∙ p.log) p.fits (p.good is.log)
    (subst (λ l. CallsTold l old new end) (calls_are node (contents old).now values p) told)

-- all calls of both, from the disk that was read on
both_told : (values : List Moved) (old mid here new : Told) (end : End) → mid ≡ old
    → AllTold (copies (contents mid).now values) mid here → CallsTold (stages values) here new end
    → CallsTold (copies (contents old).now values ++ stages values) old new end
both_told values old mid here new end same all told =
    calls_told_more (copies (contents old).now values) (stages values) old here new end
    (subst (λ t. AllTold (copies (contents t).now values) t here) same all) told

pub stage_refused : (T : Type 0) (tells obeys : Bool) (node clock : ℕ) (f : Found) (values : List Moved) (old mid here new : DiskSeen)
    (e : DiskRefusal) → (IsTrue tells → length (contents old.told).now ≡ 4194304)
    → Runs tells obeys (walk_reads node (old_log (contents old.told).now)) old mid (Ok f)
    → (IsTrue tells → ReadTold clock old.told mid.told Fine)
    → (IsTrue tells → ArePlannedFor node (contents old.told).now values)
    → Runs {T = Unit {0}} tells obeys (flat_map move_calls (all_moved_in (contents mid.told).now values)) mid here (Ok tt)
    → Makes tells obeys (staged_calls (heads_spelled 4096 (heads_planned values))) here new (end_of {T = T} (Err e))
    → StagesLog tells obeys node old new (Err (refused e))
stage_refused T tells obeys node clock f values old mid here new e long a told planned b m =
    let image : List ℕ = (contents old.told).now in
    let walk : List DiskCall = walk_reads node (old_log image) in
    let same : IsTrue tells → (contents mid.told).now ≡ image = λ so. ap (λ t. (contents t).now) (told so) in
    record {
      runs = runs_as (Unit {0}) tells obeys (walk ++ (copies (contents mid.told).now values ++ stages values)) (log_calls node image) old
          new
          (Err (refused e))
          (λ so. ap (λ xs. walk ++ (copies xs values ++ stages values)) (same so) ∙ calls_of_log node image values (planned so))
          (runs_join Found (Unit {0}) f tells obeys walk (copies (contents mid.told).now values ++ stages values) old mid new
          (Err (refused e)) a
          (runs_join (Unit {0}) (Unit {0}) tt tells obeys (copies (contents mid.told).now values) (stages values) mid here new
          (Err (refused e)) b (runs_up_to T (Unit {0}) tells obeys (stages values) here new e m)));
      damaged = λ so place is. absurd (early_whole (refused e) place (refused_early e) is);
      full = λ so. early_fits (is_too_much (log_found node image)) (refused e) (refused_early e);
      staged = λ so log. tt;
      says = λ so log. staged_ends node values old.told new.told (end_of {T = T} (Err e)) log (old_there (contents old.told) log (long so))
          (planned so)
          (both_told values old.told mid.told here.told new.told (end_of {T = T} (Err e)) (told so) (b.order so) (m.order so));
    }

pub staged_whole : (tells obeys : Bool) (node clock : ℕ) (f : Found) (values : List Moved) (old mid here new : DiskSeen)
    → (IsTrue tells → length (contents old.told).now ≡ 4194304)
    → Runs tells obeys (walk_reads node (old_log (contents old.told).now)) old mid (Ok f)
    → (IsTrue tells → ReadTold clock old.told mid.told Fine)
    → (IsTrue tells → ArePlannedFor node (contents old.told).now values)
    → Runs {T = Unit {0}} tells obeys (flat_map move_calls (all_moved_in (contents mid.told).now values)) mid here (Ok tt)
    → Makes tells obeys (staged_calls (heads_spelled 4096 (heads_planned values))) here new Fine
    → StagesLog tells obeys node old new (Ok tt)
staged_whole tells obeys node clock f values old mid here new long a told planned b m =
    let image : List ℕ = (contents old.told).now in
    let walk : List DiskCall = walk_reads node (old_log image) in
    let same : IsTrue tells → (contents mid.told).now ≡ image = λ so. ap (λ t. (contents t).now) (told so) in
    let both : IsTrue tells → AllTold (copies image values ++ stages values) old.told new.told =
    λ so. both_told values old.told mid.told here.told new.told Fine (told so) (b.order so) (m.order so) in
    record {
      runs = runs_as (Unit {0}) tells obeys (walk ++ (copies (contents mid.told).now values ++ stages values)) (log_calls node image) old
          new
          (Ok tt)
          (λ so. ap (λ xs. walk ++ (copies xs values ++ stages values)) (same so) ∙ calls_of_log node image values (planned so))
          (runs_join Found (Unit {0}) f tells obeys walk (copies (contents mid.told).now values ++ stages values) old mid new (Ok tt) a
          (runs_join (Unit {0}) (Unit {0}) tt tells obeys (copies (contents mid.told).now values) (stages values) mid here new (Ok tt) b
          (runs_whole (Unit {0}) tt tells obeys (stages values) here new m)));
      damaged = λ so. tt;
      full = λ so. not_too_much node image values (planned so);
      staged = λ so log. for_log (planned so) (old_there (contents old.told) log (long so)) log
          (staged_told image (planned so).kept old.told new.told log.rest (old_there (contents old.told) log (long so)) (planned so).fits
          (subst (λ l. AllTold l old.told new.told) (calls_are node image values (planned so)) (both so)));
      says = λ so log. staged_ends node values old.told new.told Fine log (old_there (contents old.told) log (long so)) (planned so)
          (both so);
    }
  where
    for_log : (p : ArePlannedFor node (contents old.told).now values) → IsOldLog (contents old.told).now → IsLogDisk false
        (contents old.told)
        → AreStagedOn p.kept (contents new.told) → AreStagedFor node (contents old.told).now (contents new.told)
    for_log p is log on = record {
      kept = p.kept;
      log = p.log;
      fits = p.fits;
      rest = on.rest;
      staged = on.staged;
      spelled = on.spelled;
      reads = reads_staged node (contents new.told).now p.kept p.fits on.staged (p.good is.log) on.spelled on.written;
    }
