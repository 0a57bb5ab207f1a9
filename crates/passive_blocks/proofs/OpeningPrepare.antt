-- What stands on a disk is made ready to be read.
use Rattle.std.proofs.Common.{◌≡◌, ℕ, suc, zero, ◌+◌, ◌*◌, ◌/◌, ◌≤◌, Bool, true, false, ◌==◌, List, [], ◌∷◌, ◌++◌}
use Rattle.std.proofs.Common.{length, map, replicate, refl, sym, ap, subst, ◌∙◌, arith, inl, inr, length-append}
use Rattle.std.specs.Prelude.{slice_index, Result, Ok, Err, if◌then◌else◌}
use Rattle.std.proofs.lemmas.Bool.{eqb-true}
use Rattle.std.proofs.lemmas.List.{length-map}
use Rattle.eden_disk.specs.declared.disk.DiskRefusal.{DiskRefusal}
use Rattle.eden_disk.specs.declared.disk.DiskRefusal.TheVariants.{Failed as DiskFailed, Stopped as DiskStopped}
use Rattle.eden_disk.specs.Told.{Told, Contents, contents, at_rest}
use Rattle.eden_disk.specs.Calls.{Fine, AtFault, AtStop, ReadTold, end_of}
use Rattle.eden_disk.specs.Held.{Passes}
use Rattle.passive_store.specs.declared.store.StoreRefusal.{StoreRefusal}
use Rattle.passive_store.specs.declared.store.StoreRefusal.TheVariants.{Failed, Stopped, Full, Damaged, OutOfMemory}
use Rattle.passive_store.specs.Acts.{DiskCall, Read, Write, Sync, AllTold, CallsTold}
use Rattle.passive_store.specs.Kept.{OpeningMade, OpeningTold, IsOverfullBy, refused}
use Rattle.passive_store.proofs.Joining.{some_more}
use Rattle.passive_blocks.specs.declared.opening.Format.{Format as Found}
use Rattle.passive_blocks.specs.declared.opening.Format.TheVariants.{Blocks as FoundBlocks, Log as FoundLog, Blank as FoundBlank}
use Rattle.block_tables.specs.Blocks.{numbers, is_block_size, heads_of}
use Rattle.passive_blocks.specs.BlockLayout.{Blocks, Staged, OldLog, Foreign, Blank, format_of, overfull_by, opening_by}
use Rattle.passive_blocks.specs.BlockLayout.{reads_of_blocks}
use Rattle.passive_blocks.specs.BlockLayout.{format_calls}
use Rattle.passive_blocks.specs.NewBlocks.{IsEmptyImage, IsBlankDisk, IsNewBlocks}
use Rattle.passive_blocks.specs.Looks.{looked}
use Rattle.passive_blocks.specs.Preparing.{AreReady, IsSynced, IsLogDisk, KeepsThrough, making_by, calls_to_blocks}
use Rattle.passive_blocks.specs.Preparing.{calls_behind_sync}
use Rattle.passive_blocks.specs.Preparing.{PreparingMade, PreparingTold, BringingMade, BringingTold}
use Rattle.passive_blocks.proofs.OpeningEmpty.{keeps_empty, keeps_read, keeps_join, made_new, blank_image}

choice : Bool → Bool → Bool → Found
choice b l s = if b then FoundBlocks else (if l then FoundLog s else FoundBlank)

found_blocks : (b l s : Bool) → FoundBlocks ≡ (if b then FoundBlocks else (if l then FoundLog s else FoundBlank)) → b ≡ true
found_blocks true l s is = refl
found_blocks false true s is = absurd (let bad : FoundBlocks ≡ FoundLog s = is in cc)
found_blocks false false s is = absurd (let bad : FoundBlocks ≡ FoundBlank = is in cc)

found_blank : (b l s : Bool) → FoundBlank ≡ (if b then FoundBlocks else (if l then FoundLog s else FoundBlank)) → (b ≡ false) × (l ≡ false)
found_blank true l s is = absurd (let bad : FoundBlank ≡ FoundBlocks = is in cc)
found_blank false true s is = absurd (let bad : FoundBlank ≡ FoundLog s = is in cc)
found_blank false false s is = (refl, refl)

found_log : (b l s staged : Bool) → FoundLog staged ≡ (if b then FoundBlocks else (if l then FoundLog s else FoundBlank))
    → (b ≡ false) × (l ≡ true) × (staged ≡ s)
found_log true l s staged is = absurd (let bad : FoundLog staged ≡ FoundBlocks = is in cc)
found_log false true s staged is = (refl, refl, (let both : FoundLog staged ≡ FoundLog s = is in let same : staged ≡ s = cc in same))
found_log false false s staged is = absurd (let bad : FoundLog staged ≡ FoundBlank = is in cc)

pub blocks_there : (image : List ℕ) (f : Found) → f ≡ looked image → f ≡ FoundBlocks → (slice_index image 1 == 235) ≡ true
blocks_there image f found is = found_blocks (slice_index image 1 == 235) (slice_index image 0 == 237) (slice_index image 2 == 234)
    (sym is ∙ found)

pub blank_there : (image : List ℕ) (f : Found) → f ≡ looked image → f ≡ FoundBlank
    → ((slice_index image 1 == 235) ≡ false) × ((slice_index image 0 == 237) ≡ false)
blank_there image f found is = found_blank (slice_index image 1 == 235) (slice_index image 0 == 237) (slice_index image 2 == 234)
    (sym is ∙ found)

pub log_there : (size : ℕ) (c : Contents) (f : Found) (staged : Bool) → IsSynced size c → f ≡ looked c.now → f ≡ FoundLog staged
    → IsLogDisk staged c
log_there size c f staged s found is =
    let p = found_log (slice_index c.now 1 == 235) (slice_index c.now 0 == 237) (slice_index c.now 2 == 234) staged (sym is ∙ found) in
    record { rest = s.rest; format = p.0; log = p.1; byte = p.2 }

format_blocks : (image : List ℕ) → (slice_index image 1 == 235) ≡ true → format_of image ≡ Blocks
format_blocks image is =
    ap (λ b. if b then Blocks else (if slice_index image 0 == 237
    then (if length image == 4194304 then (if slice_index image 2 == 234 then Staged else OldLog) else Foreign) else Blank)) is

format_blank : (image : List ℕ) → (slice_index image 1 == 235) ≡ false → (slice_index image 0 == 237) ≡ false → format_of image ≡ Blank
format_blank image is no_log =
    ap (λ b. if b then Blocks else (if slice_index image 0 == 237
    then (if length image == 4194304 then (if slice_index image 2 == 234 then Staged else OldLog) else Foreign) else Blank)) is
    ∙ ap (λ b. if b then (if length image == 4194304 then (if slice_index image 2 == 234 then Staged else OldLog) else Foreign) else
    Blank) no_log

-- Blocks stand there: they are ready.
pub ready_blocks : (node : ℕ) (c : Contents) → c ≡ at_rest c.now → (slice_index c.now 1 == 235) ≡ true → AreReady node c.now c
ready_blocks node c rest is =
    let f : format_of c.now ≡ Blocks = format_blocks c.now is in
    record {
      rest = rest;
      prepared = record {
        format = eqb-true (slice_index c.now 1) 235 is;
        long = refl;
        map = refl;
        told = refl;
        fits = ap (λ x. overfull_by x node c.now) f;
        calls = ap (λ x. opening_by x node c.now) f
            ∙ sym (ap (λ x. making_by x node c.now ++ replicate (reads_of_blocks c.now (heads_of node c.now)) Read) f);
      };
    }

pub blocks_made : (node : ℕ) (image : List ℕ) → (slice_index image 1 == 235) ≡ true → 1 ≡ length (calls_to_blocks node image)
blocks_made node image is = sym (ap (λ f. length (Read ∷ making_by f node image)) (format_blocks image is))

pub blocks_told : (node clock : ℕ) (image : List ℕ) (old new : Told) → (slice_index image 1 == 235) ≡ true → ReadTold clock old new Fine
    → AllTold (calls_to_blocks node image) old new
blocks_told node clock image old new is told =
    subst (λ f. AllTold (Read ∷ making_by f node image) old new) (sym (format_blocks image is)) (new, clock, told, refl)

pub blocks_fit : (node : ℕ) (image : List ℕ) → (slice_index image 1 == 235) ≡ true → overfull_by (format_of image) node image ≡ false
blocks_fit node image is = ap (λ f. overfull_by f node image) (format_blocks image is)

pub blank_fit : (node : ℕ) (image : List ℕ) → (slice_index image 1 == 235) ≡ false → (slice_index image 0 == 237) ≡ false
    → overfull_by (format_of image) node image ≡ false
blank_fit node image is no_log = ap (λ f. overfull_by f node image) (format_blank image is no_log)

-- the calls of a format
count_numbers : (from n : ℕ) → length (numbers from n) ≡ n
unfolding numbers
count_numbers from zero = refl
count_numbers from (suc n) = ap suc (count_numbers (from + 1) n)

format_count : (size : ℕ) → length (format_calls size) ≡ size / 32768 + 3
format_count size = omega (
  arith,
  length-append (map (λ block. Write (block * 1024) (replicate 1024 0)) (numbers 1 (size / 32768))) (Sync ∷ Write 1 (235 ∷ []) ∷ Sync ∷ []),
  length-map (numbers 1 (size / 32768)) (λ block. Write (block * 1024) (replicate 1024 0)),
  count_numbers 1 (size / 32768),
)

pub blank_made : (node size made : ℕ) (image : List ℕ) → length image ≡ size → (slice_index image 1 == 235) ≡ false
    → (slice_index image 0 == 237) ≡ false → made ≡ size / 32768 + 3 → 1 + made ≡ length (calls_to_blocks node image)
blank_made node size made image long is no_log count =
    (let n : 1 + made ≡ length (Read ∷ format_calls (length image)) = omega (arith, count, format_count (length image), long) in n)
    ∙ sym (ap (λ f. length (Read ∷ making_by f node image)) (format_blank image is no_log))

pub blank_told : (node size clock : ℕ) (image : List ℕ) (t0 t1 t2 : Told) → length image ≡ size → (slice_index image 1 == 235) ≡ false
    → (slice_index image 0 == 237) ≡ false → ReadTold clock t0 t1 Fine → AllTold (format_calls size) t1 t2
    → AllTold (calls_to_blocks node image) t0 t2
blank_told node size clock image t0 t1 t2 long is no_log told all =
    subst (λ f. AllTold (Read ∷ making_by f node image) t0 t2) (sym (format_blank image is no_log))
    (t1, clock, told, subst (λ n. AllTold (format_calls n) t1 t2) (sym long) all)

pub blank_refused : (node size clock : ℕ) (image : List ℕ) (t0 t1 t2 : Told) (e : DiskRefusal) → length image ≡ size
    → (slice_index image 1 == 235) ≡ false → (slice_index image 0 == 237) ≡ false → ReadTold clock t0 t1 Fine
    → CallsTold (format_calls size) t1 t2 (end_of {T = Unit {0}} (Err e))
    → OpeningTold {S = Unit {0}} (calls_behind_sync node image) t0 t2 (Err (refused e))
blank_refused node size clock image t0 t1 t2 e long is no_log told some =
    subst (λ f. OpeningTold {S = Unit {0}} (Read ∷ opening_by f node image) t0 t2 (Err (refused e))) (sym (format_blank image is no_log))
    (go e (subst (λ n. CallsTold (format_calls n) t1 t2 (end_of {T = Unit {0}} (Err e))) (sym long) some))
  where
    go : (r : DiskRefusal) → CallsTold (format_calls (length image)) t1 t2 (end_of {T = Unit {0}} (Err r))
        → OpeningTold {S = Unit {0}} (Read ∷ (format_calls (length image) ++ replicate (length image / 1024) Read)) t0 t2 (Err (refused r))
    go DiskFailed s = inr (t1, clock, told, some_more (format_calls (length image)) (replicate (length image / 1024) Read) t1 t2 AtFault s)
    go DiskStopped s = inr (t1, clock, told, some_more (format_calls (length image)) (replicate (length image / 1024) Read) t1 t2 AtStop s)

pub look_refused : (rest : List DiskCall) (clock : ℕ) (old new : Told) (e : DiskRefusal) → ReadTold clock old new (end_of {T = Found}
    (Err e))
    → OpeningTold {S = Unit {0}} (Read ∷ rest) old new (Err (refused e))
look_refused rest clock old new DiskFailed told = inl (clock, told)
look_refused rest clock old new DiskStopped told = inl (clock, told)

pub refused_made : (S : Type 0) (calls made : ℕ) (e : DiskRefusal) → 1 ≤ made → OpeningMade {S = S} calls (Err (refused e)) made
refused_made S calls made DiskFailed some = some
refused_made S calls made DiskStopped some = some

pub refused_undamaged : (e : DiskRefusal) (place : ℕ) → refused e ≡ Damaged place → ⊥
refused_undamaged DiskFailed place is = let bad : Failed ≡ Damaged place = is in cc
refused_undamaged DiskStopped place is = let bad : Stopped ≡ Damaged place = is in cc

pub refused_fits : (S : Type 0) (b : Bool) (e : DiskRefusal) → IsOverfullBy {S = S} b (Err (refused e))
refused_fits S b DiskFailed = tt
refused_fits S b DiskStopped = tt

-- a log is brought over behind the look
pub bringing_made : (node made : ℕ) (image : List ℕ) (r : Result (Unit {0}) StoreRefusal) → BringingMade node image r made
    → PreparingMade node image r (1 + made)
bringing_made node made image (Ok x) m = let n : 1 + made ≡ length (calls_to_blocks node image) = omega (arith, m) in n
bringing_made node made image (Err Failed) m = omega (arith, m)
bringing_made node made image (Err Stopped) m = omega (arith, m)
bringing_made node made image (Err Full) m = let n : 1 + made ≡ length (calls_behind_sync node image) = omega (arith, m) in n
bringing_made node made image (Err (Damaged place)) m = let n : 1 + made ≡ length (calls_behind_sync node image) = omega (arith, m) in n
bringing_made node made image (Err OutOfMemory) m = tt

pub bringing_told : (node clock : ℕ) (image : List ℕ) (t0 t1 t2 : Told) (r : Result (Unit {0}) StoreRefusal) → ReadTold clock t0 t1 Fine
    → BringingTold node image t1 t2 r → PreparingTold node image t0 t2 r
bringing_told node clock image t0 t1 t2 (Ok x) told b = (t1, clock, told, b)
bringing_told node clock image t0 t1 t2 (Err Failed) told b = inr (t1, clock, told, b)
bringing_told node clock image t0 t1 t2 (Err Stopped) told b = inr (t1, clock, told, b)
bringing_told node clock image t0 t1 t2 (Err Full) told b = (t1, clock, told, b)
bringing_told node clock image t0 t1 t2 (Err (Damaged place)) told b = (t1, clock, told, b)
bringing_told node clock image t0 t1 t2 (Err OutOfMemory) told b =
    (Read ∷ b.0, b.1, ap (λ l. Read ∷ l) b.2, (t1, clock, told, b.3))

-- A blank disk is made ready.
pub ready_blank : (node size : ℕ) (old new : Told) → is_block_size size ≡ true → IsSynced size (contents old)
    → (slice_index (contents old).now 1 == 235) ≡ false → (slice_index (contents old).now 0 == 237) ≡ false
    → Passes (IsEmptyImage size) old new → IsNewBlocks size (contents new) → AreReady node (contents old).now (contents new)
ready_blank node size old new allowed s format no_log p made = record {
  rest = made.rest;
  prepared = made_new node size (contents old).now (contents new) allowed s.long no_log format p.after.now made;
}

pub blank_disk : (size : ℕ) (c : Contents) → IsSynced size c → (slice_index c.now 1 == 235) ≡ false → (slice_index c.now 0 == 237) ≡ false
    → IsBlankDisk size c
blank_disk size c s format no_log = record { rest = s.rest; long = s.long; log = no_log; format = format }

pub keeps_blank : (node size clock : ℕ) (t0 t1 t2 : Told) → is_block_size size ≡ true → IsBlankDisk size (contents t0)
    → ReadTold clock t0 t1 Fine → Passes (IsEmptyImage size) t1 t2 → KeepsThrough node t0 t2
keeps_blank node size clock t0 t1 t2 allowed blank told p =
    keeps_join node t0 t1 t2 (keeps_read node clock t0 t1 Fine told)
    (keeps_empty node size t1 t2 allowed (subst (λ t. IsEmptyImage size (contents t).now) (sym told) (blank_image size
    (contents t0) blank)) p)
