-- A log that is brought over: what each end of it leaves.
use Rattle.std.specs.Prelude.{◌≡◌, ◌≢◌, ℕ, ◌+◌, ◌≤◌, ◌==◌, Bool, true, false, IsTrue, List, [], ◌++◌, length, replicate}
use Rattle.std.specs.Prelude.{slice_index, slice_range, Result, Ok, Err, OnOk, IfErr, if◌then◌else◌}
use Rattle.std.proofs.Common.{refl, sym, ap, subst, ◌∙◌, arith}
use Rattle.std.proofs.lemmas.Bool.{eqb-true}
use Rattle.std.proofs.lemmas.List.{append_assoc, length-take-le, get_or-take}
use Rattle.eden_disk.specs.declared.disk.DiskRefusal.{DiskRefusal}
use Rattle.eden_disk.specs.Told.{Told, Contents, contents, at_rest}
use Rattle.eden_disk.specs.Timed.{Timed}
use Rattle.eden_disk.specs.Calls.{End, Fine, DeviceCalls, Obeyed, end_of}
use Rattle.eden_disk.specs.Held.{Passes}
use Rattle.eden_disk.proofs.Held.{passes_join, passes_weaker}
use Rattle.passive_store.specs.declared.store.StoreRefusal.{StoreRefusal}
use Rattle.passive_store.specs.declared.store.StoreRefusal.TheVariants.{Failed, Stopped, Full, Damaged, OutOfMemory}
use Rattle.passive_store.specs.Acts.{DiskCall, Read, AllTold, CallsTold}
use Rattle.passive_store.specs.Kept.{StoreChange, Kept, Stands, IsAnyOf, IsOverfull, IsDamagedFrom, OpeningMade, OpeningTold, IsOverfullBy}
use Rattle.passive_store.specs.Kept.{refused, end_of_store}
use Rattle.passive_store.specs.Log.{log_map}
use Rattle.passive_store.specs.Seen.{DiskSeen}
use Rattle.passive_store.proofs.Walk.{log_stands_there}
use Rattle.block_tables.specs.Blocks.{heads_of, is_block_size}
use Rattle.passive_blocks.specs.Conversion.{finished, moved_map, is_too_much, old_log, staging_calls, finishing_calls, staged_bytes}
use Rattle.passive_blocks.specs.Conversion.{blocks_moved}
use Rattle.passive_blocks.specs.BlockLayout.{Staged, OldLog, Foreign, Blocks, Blank, format_of, block_map, block_layout}
use Rattle.passive_blocks.specs.BlockLayout.{overfull_by}
use Rattle.passive_blocks.specs.BlockLayout.{opening_by, map_by, walk_reads, conversion_calls, reads_of_blocks}
use Rattle.passive_blocks.specs.Converting.{SaysSame, IsOldLog, IsStagedLog}
use Rattle.passive_blocks.specs.Making.{Makes, Runs}
use Rattle.passive_blocks.specs.Preparing.{IsPrepared, AreReady, IsLogDisk, KeepsThrough, AreStagedFor, making_by, moving_calls, log_found}
use Rattle.passive_blocks.specs.Preparing.{staging_of, log_calls, BringingMade, BringingTold}
use Rattle.passive_blocks.proofs.ConvertMoments.{finishing_keeps, same_trans}
use Rattle.passive_blocks.proofs.Converting.{old_format, staged_format, log_says}
use Rattle.passive_blocks.proofs.Finishing.{finished_told, finished_byte}
use Rattle.passive_blocks.proofs.OpeningEmpty.{keeps_none}
use Rattle.passive_blocks.proofs.OpeningPrepare.{refused_undamaged, refused_fits}
use Rattle.passive_blocks.proofs.Running.{runs_whole, runs_up_to, runs_damaged, runs_join, made_rest, told_rest, AllowsRest, refused_allows}
use Rattle.passive_blocks.proofs.StagedSays.{finished_long}

-- 1. What is found the same is kept

says_stands : (node told : ℕ) (kept : Kept) (changes : List StoreChange) (xs ys : List ℕ) → SaysSame node xs ys
    → Stands block_layout node told kept changes ys → Stands block_layout node told kept changes xs
says_stands node told kept changes xs ys same s = record {
  found = subst (λ m. IsAnyOf kept changes m) (sym same.found) s.found;
  opens = same.overfull ∙ s.opens;
  told = subst (λ n. told ≤ n) (sym same.told) s.told;
}

pub keeps_same : (node : ℕ) (old new : Told) → Passes (λ image. SaysSame node image (contents old).now) old new → KeepsThrough node old new
keeps_same node old new p = record {
  mapped = λ told kept changes h. passes_weaker (λ image. SaysSame node image (contents old).now)
      (Stands block_layout node told kept changes) old new
      (λ image s. says_stands node told kept changes image (contents old).now s h.now) p;
  overfull = λ kept h. passes_weaker (λ image. SaysSame node image (contents old).now) (IsOverfull block_layout node kept) old new
      (λ image s. (s.found ∙ h.now.0, s.overfull ∙ h.now.1)) p;
  unmapped = λ place h. passes_weaker (λ image. SaysSame node image (contents old).now) (IsDamagedFrom block_layout node place) old new
      (λ image s. s.found ∙ h.now) p;
}

-- 2. What stands on the disk

pub staged_there : (c : Contents) → IsLogDisk true c → length c.now ≡ 4194304 → IsStagedLog c.now
staged_there c log long = record {
  long = long;
  log = eqb-true (slice_index c.now 0) 237 log.log;
  none = log.format;
  staged = eqb-true (slice_index c.now 2) 234 (sym log.byte);
}

pub old_there : (c : Contents) → IsLogDisk false c → length c.now ≡ 4194304 → IsOldLog c.now
old_there c log long = record {
  long = long;
  log = eqb-true (slice_index c.now 0) 237 log.log;
  none = log.format;
  unstaged = sym log.byte;
}

-- its log is found as its map says
pub log_is : (node : ℕ) (image : List ℕ) → IsOldLog image → log_map node (old_log image) ≡ log_found node image
log_is node image is =
    log_stands_there node (old_log image)
    (omega (arith, is.long, length-take-le 1048576 image (omega (arith, is.long))))
    (get_or-take 1048576 image 0 0 (omega arith) ∙ is.log)

other_format : (c : Contents) (staged : Bool) → IsLogDisk staged c → (length c.now == 4194304) ≡ false → format_of c.now ≡ Foreign
other_format c staged log other =
    ap (λ b. if b then Blocks else (if slice_index c.now 0 == 237
    then (if length c.now == 4194304 then (if slice_index c.now 2 == 234 then Staged else OldLog) else Foreign) else Blank)) log.format
    ∙ ap (λ b. if b then (if length c.now == 4194304 then (if slice_index c.now 2 == 234 then Staged else OldLog) else Foreign)
    else Blank) log.log
    ∙ ap (λ b. if b then (if slice_index c.now 2 == 234 then Staged else OldLog) else Foreign) other

-- 3. What is left of it

pub record Brought (tells obeys : Bool) (node : ℕ) (staged : Bool) (old new : DiskSeen) (result : Result (Unit {0}) StoreRefusal) : Type 0
  where
    pub ran : (made : ℕ) × (DeviceCalls made old.counts new.counts (end_of_store result)
        × (IsTrue tells → IsLogDisk staged (contents old.told) → BringingMade node (contents old.told).now result made))
    pub obeyed : IsTrue obeys → Obeyed old.due new.due old.counts new.counts (end_of_store result)
    pub timed : IsTrue tells → Timed old.counts.clock old.told new.counts.clock new.told
    pub order : IsTrue tells → IsLogDisk staged (contents old.told) → BringingTold node (contents old.told).now old.told new.told result
    pub ready : IsTrue tells → IsLogDisk staged (contents old.told)
        → OnOk result (AreReady node (contents old.told).now (contents new.told))
    pub damaged : IsTrue tells → IsLogDisk staged (contents old.told)
        → IfErr result (λ e. (place : ℕ) → e ≡ Damaged place → block_map node (contents old.told).now ≡ Err place)
    pub full : IsTrue tells → IsLogDisk staged (contents old.told)
        → IsOverfullBy (overfull_by (format_of (contents old.told).now) node (contents old.told).now) result
    pub keeps : IsTrue tells → IsLogDisk staged (contents old.told) → KeepsThrough node old.told new.told

-- all calls were made
brought_whole : (tells obeys : Bool) (node : ℕ) (staged : Bool) (calls : List DiskCall) (old new : DiskSeen)
    → Runs {T = Unit {0}} tells obeys calls old new (Ok tt)
    → (IsTrue tells → IsLogDisk staged (contents old.told)
    → calls ≡ making_by (format_of (contents old.told).now) node (contents old.told).now)
    → (IsTrue tells → IsLogDisk staged (contents old.told) → AreReady node (contents old.told).now (contents new.told))
    → (IsTrue tells → IsLogDisk staged (contents old.told) → KeepsThrough node old.told new.told)
    → Brought tells obeys node staged old new (Ok tt)
brought_whole tells obeys node staged calls old new a same ready keeps = record {
  ran = (a.made, (a.counts, λ so log. subst (λ (l : List DiskCall). a.made ≡ length l) (same so log) (a.number so)));
  obeyed = a.obeyed;
  timed = a.timed;
  order = λ so log. subst (λ l. AllTold l old.told new.told) (same so log) (a.order so);
  ready = ready;
  damaged = λ so log. tt {0};
  full = λ so log. (ready so log).prepared.fits;
  keeps = keeps;
}

-- or the first of them
brought_refused : (tells obeys : Bool) (node : ℕ) (staged : Bool) (calls : List DiskCall) (old new : DiskSeen) (e : StoreRefusal)
    → Runs {T = Unit {0}} tells obeys calls old new (Err e)
    → (IsTrue tells → IsLogDisk staged (contents old.told) → (rest : List DiskCall) × (AllowsRest e rest)
    × (calls ++ rest ≡ opening_by (format_of (contents old.told).now) node (contents old.told).now))
    → (IsTrue tells → IsLogDisk staged (contents old.told) → (place : ℕ) → e ≡ Damaged place
    → block_map node (contents old.told).now ≡ Err place)
    → (IsTrue tells → IsLogDisk staged (contents old.told)
    → IsOverfullBy {S = Unit {0}} (overfull_by (format_of (contents old.told).now) node (contents old.told).now) (Err e))
    → (IsTrue tells → IsLogDisk staged (contents old.told) → KeepsThrough node old.told new.told)
    → Brought tells obeys node staged old new (Err e)
brought_refused tells obeys node staged calls old new e a same damaged full keeps = record {
  ran = (
    a.made,
    (
      a.counts,
      λ so log. let s = same so log in
          subst (λ (l : List DiskCall). OpeningMade {S = Unit {0}} (length l) (Err e) a.made) s.2
          (made_rest (Unit {0}) (Unit {0}) calls s.0 a.made e s.1 (a.number so)),
    ),
  );
  obeyed = a.obeyed;
  timed = a.timed;
  order = λ so log. let s = same so log in
      subst (λ l. OpeningTold {S = Unit {0}} l old.told new.told (Err e)) s.2
      (told_rest (Unit {0}) (Unit {0}) calls s.0 old.told new.told e s.1 (a.order so));
  ready = λ so log. tt {0};
  damaged = damaged;
  full = full;
  keeps = keeps;
}

-- 4. A disk of another size

foreign_map : (node : ℕ) (image : List ℕ) → format_of image ≡ Foreign → block_map node image ≡ Err 0
foreign_map node image is = by_size (is_block_size (length image))
  where
    by_size : (b : Bool) → (if b then map_by (format_of image) node image else Err 0) ≡ Err 0
    by_size true = ap (λ f. map_by f node image) is
    by_size false = refl

damaged_at : (n place : ℕ) → Damaged n ≡ Damaged place → place ≡ n
damaged_at n place is = let same : n ≡ place = cc in sym same

pub other_size : (n m : ℕ) → n ≡ m → m ≢ 4194304 → (n == 4194304) ≡ false
other_size n m same other = by_test (n == 4194304) refl
  where
    by_test : (b : Bool) → (n == 4194304) ≡ b → (n == 4194304) ≡ false
    by_test true is = absurd (other (sym same ∙ eqb-true n 4194304 is))
    by_test false is = is

pub brought_foreign : (tells obeys : Bool) (node : ℕ) (staged : Bool) (s : DiskSeen) → s.counts.power ≡ true
    → (IsTrue tells → (length (contents s.told).now == 4194304) ≡ false) → Brought tells obeys node staged s s (Err (Damaged 0))
brought_foreign tells obeys node staged s power other =
    let format : IsTrue tells → IsLogDisk staged (contents s.told) → format_of (contents s.told).now ≡ Foreign =
    λ so log. other_format (contents s.told) staged log (other so) in
    brought_refused tells obeys node staged [] s s (Damaged 0) (runs_damaged 0 tells obeys s power)
    (λ so log. ([], refl, sym (ap (λ f. opening_by f node (contents s.told).now) (format so log))))
    (λ so log place is. foreign_map node (contents s.told).now (format so log) ∙ sym (ap (λ n. Err n) (damaged_at 0 place is)))
    (λ so log. ap (λ f. overfull_by f node (contents s.told).now) (format so log))
    (λ so log. keeps_none node s.told)

-- 5. The staged heads are moved

finished_says : (node : ℕ) (start : List ℕ) (old new : Told) → contents old ≡ at_rest start → IsStagedLog start
    → AllTold (finishing_calls (slice_range start 4063232 4194304)) old new → SaysSame node (finished start) start
finished_says node start old new rest is told =
    subst (λ (c : Contents). SaysSame node c.now start) (finished_told start old new rest is told)
    (finishing_keeps node start old new Fine rest is told).after.now

-- what is found of the image of an opening, and of that which its staged heads are on
ready_from : (node : ℕ) (image start : List ℕ) (c : Contents) → c ≡ at_rest (finished start) → length image ≡ 4194304 → IsStagedLog start
    → SaysSame node (finished start) image → overfull_by (format_of image) node image ≡ false
    → opening_by (format_of image) node image
    ≡ making_by (format_of image) node image ++ replicate (reads_of_blocks (finished start) (heads_of node (finished start))) Read
    → AreReady node image c
ready_from node image start c rest long is same fits calls = record {
  rest = rest ∙ sym (ap (λ xs. at_rest xs) now);
  prepared = subst (λ xs. IsPrepared node image xs) (sym now) (record {
    format = finished_byte start is.long;
    long = finished_long start is.long ∙ sym long;
    map = same.found;
    told = same.told;
    fits = fits;
    calls = calls;
  });
}
  where
    now : c.now ≡ finished start
    now = ap (λ (d : Contents). d.now) rest

pub brought_staged : (tells obeys : Bool) (node : ℕ) (old new : DiskSeen) → (IsTrue tells → length (contents old.told).now ≡ 4194304)
    → Makes tells obeys (finishing_calls (slice_range (contents old.told).now 4063232 4194304)) old new Fine
    → Brought tells obeys node true old new (Ok tt)
brought_staged tells obeys node old new long m =
    let image : List ℕ = (contents old.told).now in
    let calls : List DiskCall = finishing_calls (slice_range image 4063232 4194304) in
    let is : IsTrue tells → IsLogDisk true (contents old.told) → IsStagedLog image =
    λ so log. staged_there (contents old.told) log (long so) in
    let format : IsTrue tells → IsLogDisk true (contents old.told) → format_of image ≡ Staged =
    λ so log. staged_format image (is so log) in
    brought_whole tells obeys node true calls old new (runs_whole (Unit {0}) tt tells obeys calls old new m)
    (λ so log. sym (ap (λ f. making_by f node image) (format so log)))
    (λ so log. ready_from node image image (contents new.told) (finished_told image old.told new.told log.rest (is so log) (m.order so))
    (long so) (is so log) (finished_says node image old.told new.told log.rest (is so log) (m.order so))
    (ap (λ f. overfull_by f node image) (format so log))
    (ap (λ f. opening_by f node image) (format so log)
    ∙ sym (ap (λ f. making_by f node image ++ replicate (reads_of_blocks (finished image) (heads_of node (finished image))) Read)
    (format so log))))
    (λ so log. keeps_same node old.told new.told
    (finishing_keeps node image old.told new.told Fine log.rest (is so log) (m.order so)))

pub staged_refused : (T : Type 0) (tells obeys : Bool) (node : ℕ) (old new : DiskSeen) (e : DiskRefusal)
    → (IsTrue tells → length (contents old.told).now ≡ 4194304)
    → Makes tells obeys (finishing_calls (slice_range (contents old.told).now 4063232 4194304)) old new (end_of {T = T} (Err e))
    → Brought tells obeys node true old new (Err (refused e))
staged_refused T tells obeys node old new e long m =
    let image : List ℕ = (contents old.told).now in
    let calls : List DiskCall = finishing_calls (slice_range image 4063232 4194304) in
    let is : IsTrue tells → IsLogDisk true (contents old.told) → IsStagedLog image =
    λ so log. staged_there (contents old.told) log (long so) in
    let rest : List DiskCall = replicate (reads_of_blocks (finished image) (heads_of node (finished image))) Read in
    brought_refused tells obeys node true calls old new (refused e) (runs_up_to T (Unit {0}) tells obeys calls old new e m)
    (λ so log. (rest, refused_allows e rest, sym (ap (λ f. opening_by f node image) (staged_format image (is so log)))))
    (λ so log place at. absurd (refused_undamaged e place at))
    (λ so log. refused_fits (Unit {0}) _ e)
    (λ so log. keeps_same node old.told new.told
    (finishing_keeps node image old.told new.told (end_of {T = T} (Err e)) log.rest (is so log) (m.order so)))

-- 6. The log is staged, and then the staged heads are moved

-- what is left to be done behind the staging
rest_of : Result Kept ℕ → List DiskCall
rest_of (Ok kept) =
    if is_too_much (Ok kept) then []
    else (finishing_calls (staged_bytes kept) ++ replicate (4096 + blocks_moved kept) Read)
rest_of (Err place) = []

in_parts : (log : Result Kept ℕ) → staging_of log ++ rest_of log ≡ conversion_calls log
unfolding rest_of
in_parts (Err place) = refl
in_parts (Ok kept) = by_room (is_too_much (Ok kept))
  where
    by_room : (b : Bool) → (if b then [] else staging_calls kept)
        ++ (if b then [] else (finishing_calls (staged_bytes kept) ++ replicate (4096 + blocks_moved kept) Read))
        ≡ (if b then [] else (staging_calls kept ++ (finishing_calls (staged_bytes kept) ++ replicate (4096 + blocks_moved kept) Read)))
    by_room true = refl
    by_room false = refl

opening_parts : (node : ℕ) (image : List ℕ) → IsOldLog image
    → log_calls node image ++ rest_of (log_found node image) ≡ opening_by (format_of image) node image
opening_parts node image is =
    append_assoc (walk_reads node (old_log image)) (staging_of (log_found node image)) (rest_of (log_found node image))
    ∙ ap (λ l. walk_reads node (old_log image) ++ l) (in_parts (log_found node image))
    ∙ ap (λ l. walk_reads node (old_log image) ++ conversion_calls l) (sym (log_is node image is))
    ∙ sym (ap (λ f. opening_by f node image) (old_format image is))

-- a refusal that comes behind all calls leaves none
none_left : (e : StoreRefusal) (log : Result Kept ℕ) → ((place : ℕ) → e ≡ Damaged place → log ≡ Err place)
    → IsOverfullBy {S = Unit {0}} (is_too_much log) (Err e) → AllowsRest e (rest_of log)
unfolding rest_of
none_left Failed log damaged full = tt
none_left Stopped log damaged full = tt
none_left Full (Ok kept) damaged full =
    ap (λ b. if b then [] else (finishing_calls (staged_bytes kept) ++ replicate (4096 + blocks_moved kept) Read)) full
none_left Full (Err place) damaged full = refl
none_left (Damaged place) log damaged full = ap (λ l. rest_of l) (damaged place refl)
none_left OutOfMemory log damaged full = tt

moved_damaged : (node place : ℕ) (image : List ℕ) → IsOldLog image → log_found node image ≡ Err place → block_map node image ≡ Err place
moved_damaged node place image is bad =
    (log_says node image is).found ∙ ap (λ l. moved_map l) (log_is node image is ∙ bad)

overfull_is : (node : ℕ) (image : List ℕ) → IsOldLog image
    → overfull_by (format_of image) node image ≡ is_too_much (log_found node image)
overfull_is node image is =
    ap (λ f. overfull_by f node image) (old_format image is) ∙ ap (λ l. is_too_much l) (log_is node image is)

-- the staging was refused
pub staging_refused : (tells obeys : Bool) (node : ℕ) (old new : DiskSeen) (e : StoreRefusal)
    → (IsTrue tells → length (contents old.told).now ≡ 4194304)
    → Runs {T = Unit {0}} tells obeys (log_calls node (contents old.told).now) old new (Err e)
    → (IsTrue tells → (place : ℕ) → e ≡ Damaged place → log_found node (contents old.told).now ≡ Err place)
    → (IsTrue tells → IsOverfullBy {S = Unit {0}} (is_too_much (log_found node (contents old.told).now)) (Err e))
    → (IsTrue tells → IsLogDisk false (contents old.told)
    → Passes (λ image. SaysSame node image (contents old.told).now) old.told new.told)
    → Brought tells obeys node false old new (Err e)
staging_refused tells obeys node old new e long a damaged full says =
    let image : List ℕ = (contents old.told).now in
    let is : IsTrue tells → IsLogDisk false (contents old.told) → IsOldLog image =
    λ so log. old_there (contents old.told) log (long so) in
    brought_refused tells obeys node false (log_calls node image) old new e a
    (λ so log. (
      rest_of (log_found node image),
      none_left e (log_found node image) (damaged so) (full so),
      opening_parts node image (is so log),
    ))
    (λ so log place at. moved_damaged node place image (is so log) (damaged so place at))
    (λ so log. subst (λ b. IsOverfullBy {S = Unit {0}} b (Err e)) (sym (overfull_is node image (is so log))) (full so))
    (λ so log. keeps_same node old.told new.told (says so log))

-- the calls of both
whole_staging : (kept : Kept) (log : Result Kept ℕ) → log ≡ Ok kept → is_too_much (Ok kept) ≡ false → staging_of log ≡ staging_calls kept
whole_staging kept log is fits = ap (λ l. staging_of l) is ∙ ap (λ b. if b then [] else staging_calls kept) fits

whole_rest : (kept : Kept) (log : Result Kept ℕ) → log ≡ Ok kept → is_too_much (Ok kept) ≡ false
    → rest_of log ≡ finishing_calls (staged_bytes kept) ++ replicate (4096 + blocks_moved kept) Read
unfolding rest_of
whole_rest kept log is fits =
    ap (λ l. rest_of l) is
    ∙ ap (λ b. if b then [] else (finishing_calls (staged_bytes kept) ++ replicate (4096 + blocks_moved kept) Read)) fits

making_parts : (node : ℕ) (image : List ℕ) (kept : Kept) → IsOldLog image → log_found node image ≡ Ok kept → is_too_much (Ok kept) ≡ false
    → log_calls node image ++ finishing_calls (staged_bytes kept) ≡ making_by (format_of image) node image
making_parts node image kept is log fits =
    ap (λ l. (walk_reads node (old_log image) ++ l) ++ finishing_calls (staged_bytes kept))
    (whole_staging kept (log_found node image) log fits)
    ∙ append_assoc (walk_reads node (old_log image)) (staging_calls kept) (finishing_calls (staged_bytes kept))
    ∙ ap (λ l. walk_reads node (old_log image) ++ moving_calls l) (sym (log_is node image is ∙ log))
    ∙ sym (ap (λ f. making_by f node image) (old_format image is))

-- and of the reading behind them
opening_whole : (node : ℕ) (image : List ℕ) (kept : Kept) → IsOldLog image → log_found node image ≡ Ok kept → is_too_much (Ok kept) ≡ false
    → (log_calls node image ++ finishing_calls (staged_bytes kept)) ++ replicate (4096 + blocks_moved kept) Read
    ≡ opening_by (format_of image) node image
opening_whole node image kept is log fits =
    append_assoc (log_calls node image) (finishing_calls (staged_bytes kept)) (replicate (4096 + blocks_moved kept) Read)
    ∙ ap (λ l. log_calls node image ++ l) (sym (whole_rest kept (log_found node image) log fits))
    ∙ opening_parts node image is

-- the heads that are moved are those that were staged
moved_are_staged : (kept : Kept) (c : Contents) → slice_range c.now 4063232 4194304 ≡ staged_bytes kept
    → finishing_calls (slice_range c.now 4063232 4194304) ≡ finishing_calls (staged_bytes kept)
moved_are_staged kept c spelled = ap (λ bytes. finishing_calls bytes) spelled

-- at each moment of the moving an opening finds what it found of the log
moving_passes : (node : ℕ) (image : List ℕ) (mid new : Told) (end : End) → contents mid ≡ at_rest (contents mid).now
    → IsStagedLog (contents mid).now
    → CallsTold (finishing_calls (slice_range (contents mid).now 4063232 4194304)) mid new end → SaysSame node (contents mid).now image
    → Passes (λ now. SaysSame node now image) mid new
moving_passes node image mid new end rest is told same =
    passes_weaker (λ now. SaysSame node now (contents mid).now) (λ now. SaysSame node now image) mid new
    (λ now s. same_trans node now (contents mid).now image s same) (finishing_keeps node (contents mid).now mid new end rest is told)

pub brought_log : (tells obeys : Bool) (node : ℕ) (old mid new : DiskSeen) → (IsTrue tells → length (contents old.told).now ≡ 4194304)
    → Runs {T = Unit {0}} tells obeys (log_calls node (contents old.told).now) old mid (Ok tt)
    → (IsTrue tells → IsLogDisk false (contents old.told) → AreStagedFor node (contents old.told).now (contents mid.told))
    → (IsTrue tells → IsLogDisk false (contents old.told)
    → Passes (λ image. SaysSame node image (contents old.told).now) old.told mid.told)
    → Makes tells obeys (finishing_calls (slice_range (contents mid.told).now 4063232 4194304)) mid new Fine
    → Brought tells obeys node false old new (Ok tt)
brought_log tells obeys node old mid new long a staged says m =
    let image : List ℕ = (contents old.told).now in
    let now : List ℕ = (contents mid.told).now in
    let moves : List DiskCall = finishing_calls (slice_range now 4063232 4194304) in
    let is : IsTrue tells → IsLogDisk false (contents old.told) → IsOldLog image =
    λ so log. old_there (contents old.told) log (long so) in
    let passes : IsTrue tells → IsLogDisk false (contents old.told) → Passes (λ i. SaysSame node i image) old.told new.told =
    λ so log. passes_join (λ i. SaysSame node i image) old.told mid.told new.told (says so log)
    (moving_passes node image mid.told new.told Fine (staged so log).rest (staged so log).staged (m.order so) (says so log).after.now) in
    brought_whole tells obeys node false (log_calls node image ++ moves) old new
    (runs_join (Unit {0}) (Unit {0}) tt tells obeys (log_calls node image) moves old mid new (Ok tt) a
    (runs_whole (Unit {0}) tt tells obeys moves mid new m))
    (λ so log. let s = staged so log in
    ap (λ l. log_calls node image ++ l) (moved_are_staged s.kept (contents mid.told) s.spelled)
    ∙ making_parts node image s.kept (is so log) s.log s.fits)
    (λ so log. let s = staged so log in
    let there : contents new.told ≡ at_rest (finished now) = finished_told now mid.told new.told s.rest s.staged (m.order so) in
    ready_from node image now (contents new.told) there (long so) s.staged
    (subst (λ (c : Contents). SaysSame node c.now image) there (passes so log).after.now)
    (overfull_is node image (is so log) ∙ ap (λ l. is_too_much l) s.log ∙ s.fits)
    (sym (opening_whole node image s.kept (is so log) s.log s.fits)
    ∙ ap (λ l. l ++ replicate (4096 + blocks_moved s.kept) Read) (making_parts node image s.kept (is so log) s.log s.fits)
    ∙ ap (λ n. making_by (format_of image) node image ++ replicate n Read) (sym s.reads)))
    (λ so log. keeps_same node old.told new.told (passes so log))

pub moving_refused : (T : Type 0) (tells obeys : Bool) (node : ℕ) (old mid new : DiskSeen) (e : DiskRefusal)
    → (IsTrue tells → length (contents old.told).now ≡ 4194304)
    → Runs {T = Unit {0}} tells obeys (log_calls node (contents old.told).now) old mid (Ok tt)
    → (IsTrue tells → IsLogDisk false (contents old.told) → AreStagedFor node (contents old.told).now (contents mid.told))
    → (IsTrue tells → IsLogDisk false (contents old.told)
    → Passes (λ image. SaysSame node image (contents old.told).now) old.told mid.told)
    → Makes tells obeys (finishing_calls (slice_range (contents mid.told).now 4063232 4194304)) mid new (end_of {T = T} (Err e))
    → Brought tells obeys node false old new (Err (refused e))
moving_refused T tells obeys node old mid new e long a staged says m =
    let image : List ℕ = (contents old.told).now in
    let moves : List DiskCall = finishing_calls (slice_range (contents mid.told).now 4063232 4194304) in
    let is : IsTrue tells → IsLogDisk false (contents old.told) → IsOldLog image =
    λ so log. old_there (contents old.told) log (long so) in
    brought_refused tells obeys node false (log_calls node image ++ moves) old new (refused e)
    (runs_join (Unit {0}) (Unit {0}) tt tells obeys (log_calls node image) moves old mid new (Err (refused e)) a
    (runs_up_to T (Unit {0}) tells obeys moves mid new e m))
    (λ so log. let s = staged so log in
    let rest : List DiskCall = replicate (4096 + blocks_moved s.kept) Read in (
      rest,
      refused_allows e rest,
      ap (λ l. (log_calls node image ++ l) ++ rest) (moved_are_staged s.kept (contents mid.told) s.spelled)
          ∙ opening_whole node image s.kept (is so log) s.log s.fits,
    ))
    (λ so log place at. absurd (refused_undamaged e place at))
    (λ so log. refused_fits (Unit {0}) _ e)
    (λ so log. keeps_same node old.told new.told (passes_join (λ i. SaysSame node i image) old.told mid.told new.told (says so log)
    (moving_passes node image mid.told new.told (end_of {T = T} (Err e)) (staged so log).rest (staged so log).staged (m.order so)
    (says so log).after.now)))
