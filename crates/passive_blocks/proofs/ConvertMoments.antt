-- Device calls that write only where any byte may stand, and the calls of a conversion: at each moment an opening finds the same.
use Rattle.std.specs.Prelude.{◌≡◌, ◌⊎◌, ℕ, suc, zero, ◌+◌, ◌-◌, ◌*◌, ◌≤◌, ◌<◌, ◌==◌, List, [], ◌∷◌, ◌++◌, length, take, drop}
use Rattle.std.specs.Prelude.{flat_map, slice_index, slice_range}
use Rattle.std.proofs.Common.{refl, sym, ap, subst, ◌∙◌, inl, inr, arith}
use Rattle.std.proofs.lemmas.Bool.Decides.{nat_tests}
use Rattle.std.proofs.lemmas.List.{append_assoc, get_or-take, get_or-drop, length-take-le, length-drop}
use Rattle.eden_disk.specs.Told.{Told, Contents, contents, at_rest, overlay, noted, Wrote, Synced}
use Rattle.eden_disk.specs.Calls.{End, Fine, AtFault, AtStop}
use Rattle.eden_disk.specs.Held.{Holds, Passes}
use Rattle.eden_disk.proofs.Held.{holds_at_rest, passes_join, passes_weaker, passes_read, passes_sync}
use Rattle.eden_disk.proofs.Overlay.{length-overlay, overlay_outside, overlay_inside}
use Rattle.passive_store.specs.Acts.{DiskCall, Write, Sync, Read, CallTold, CallsTold, AllTold, SomeTold}
use Rattle.block_tables.specs.Blocks.{numbers}
use Rattle.passive_blocks.specs.Conversion.{part_of, finishing_calls}
use Rattle.passive_blocks.specs.Fits.{Fits}
use Rattle.passive_blocks.specs.Converting.{SaysSame, IsOldLog, IsStagedLog}
use Rattle.passive_blocks.proofs.ConvertStages.{may_copy, may_write, may_move}
use Rattle.passive_blocks.proofs.Fitting.{fits_write}
use Rattle.passive_blocks.proofs.Moving.{moving_calls, moved_join, numbers_at}
use Rattle.passive_blocks.proofs.Converting.{copying_says, moving_says, ending_says}
use Rattle.passive_blocks.proofs.SameParts.{same_part}

-- 1. Calls that write only where any byte may stand

abbrev pub CallMay : (ℕ → ℕ → Type 0) → ℕ → DiskCall → Type 0
CallMay may size (Write at bytes) = (at + length bytes ≤ size) × ((k b : ℕ) → at ≤ k → k < at + length bytes → may k b)
CallMay may size Sync = Unit {0}
CallMay may size Read = Unit {0}

abbrev pub EachMay : (ℕ → ℕ → Type 0) → ℕ → List DiskCall → Type 0
EachMay may size [] = Unit {0}
EachMay may size (call ∷ calls) = CallMay may size call × EachMay may size calls

call_passes : (may : ℕ → ℕ → Type 0) (size : ℕ) (call : DiskCall) (clock : ℕ) (old new : Told) (end : End) → CallMay may size call
    → Holds (Fits may size) (contents old) → CallTold call clock old new end → Passes (Fits may size) old new
call_passes may size (Write at bytes) clock old new end any h told = fits_write may size clock at bytes old new end h any.1 any.0 told
call_passes may size Sync clock old new end any h told = passes_sync (Fits may size) clock old new end h told
call_passes may size Read clock old new end any h told = passes_read (Fits may size) clock old new end h told

pub all_pass : (may : ℕ → ℕ → Type 0) (size : ℕ) (calls : List DiskCall) (old new : Told) → EachMay may size calls
    → Holds (Fits may size) (contents old) → AllTold calls old new → Passes (Fits may size) old new
all_pass may size [] old new each h told = passes_read (Fits may size) 0 old new Fine h told
all_pass may size (call ∷ calls) old new each h told =
    let one : Passes (Fits may size) old told.0 = call_passes may size call told.1 old told.0 Fine each.0 h told.2 in
    passes_join (Fits may size) old told.0 new one (all_pass may size calls told.0 new each.1 one.after told.3)

pub some_pass : (may : ℕ → ℕ → Type 0) (size : ℕ) (calls : List DiskCall) (old new : Told) (end : End) → EachMay may size calls
    → Holds (Fits may size) (contents old) → SomeTold calls old new end → Passes (Fits may size) old new
some_pass may size [] old new end each h told = absurd told
some_pass may size (call ∷ calls) old new end each h (inl here) = call_passes may size call here.0 old new end each.0 h here.1
some_pass may size (call ∷ calls) old new end each h (inr past) =
    let one : Passes (Fits may size) old past.0 = call_passes may size call past.1 old past.0 Fine each.0 h past.2 in
    passes_join (Fits may size) old past.0 new one (some_pass may size calls past.0 new end each.1 one.after past.3)

pub calls_pass : (may : ℕ → ℕ → Type 0) (size : ℕ) (calls : List DiskCall) (old new : Told) (end : End) → EachMay may size calls
    → Holds (Fits may size) (contents old) → CallsTold calls old new end → Passes (Fits may size) old new
calls_pass may size calls old new Fine each h told = all_pass may size calls old new each h told
calls_pass may size calls old new AtFault each h told = some_pass may size calls old new AtFault each h told
calls_pass may size calls old new AtStop each h told = some_pass may size calls old new AtStop each h told

-- 2. Calls in two parts: one of the first was refused, or all of them were made

abbrev pub Parted : List DiskCall → List DiskCall → Told → Told → End → Type 0
Parted xs ys old new end = SomeTold xs old new end ⊎ ((mid : Told) × AllTold xs old mid × CallsTold ys mid new end)

pub all_parted : (xs ys : List DiskCall) (old new : Told) → AllTold (xs ++ ys) old new
    → (mid : Told) × AllTold xs old mid × AllTold ys mid new
all_parted [] ys old new told = (old, refl, told)
all_parted (x ∷ xs) ys old new told =
    let rest = all_parted xs ys told.0 new told.3 in
    (rest.0, (told.0, told.1, told.2, rest.1), rest.2)

-- one more call before those of the first part
one_before : (x : DiskCall) (xs ys : List DiskCall) (old mid new : Told) (clock : ℕ) (end : End) → CallTold x clock old mid Fine
    → (SomeTold xs mid new end) ⊎ ((m : Told) × AllTold xs mid m × SomeTold ys m new end)
    → (SomeTold (x ∷ xs) old new end) ⊎ ((m : Told) × AllTold (x ∷ xs) old m × SomeTold ys m new end)
one_before x xs ys old mid new clock end call (inl some) = inl (inr (mid, clock, call, some))
one_before x xs ys old mid new clock end call (inr all) = inr (all.0, (mid, clock, call, all.1), all.2)

some_parted : (xs ys : List DiskCall) (old new : Told) (end : End) → SomeTold (xs ++ ys) old new end
    → (SomeTold xs old new end) ⊎ ((mid : Told) × AllTold xs old mid × SomeTold ys mid new end)
some_parted [] ys old new end told = inr (old, refl, told)
some_parted (x ∷ xs) ys old new end (inl here) = inl (inl here)
some_parted (x ∷ xs) ys old new end (inr past) =
    one_before x xs ys old past.0 new past.1 end past.2 (some_parted xs ys past.0 new end past.3)

pub parted : (xs ys : List DiskCall) (old new : Told) (end : End) → CallsTold (xs ++ ys) old new end → Parted xs ys old new end
parted xs ys old new Fine told = inr (all_parted xs ys old new told)
parted xs ys old new AtFault told = some_parted xs ys old new AtFault told
parted xs ys old new AtStop told = some_parted xs ys old new AtStop told

-- 3. Copies and staged heads are written behind the log

pub rest_fits : (may : ℕ → ℕ → Type 0) (size : ℕ) (now : List ℕ) (old : Told) → contents old ≡ at_rest now → Fits may size now
    → Holds (Fits may size) (contents old)
rest_fits may size now old rest fits = subst (λ c. Holds (Fits may size) c) (sym rest) (holds_at_rest (Fits may size) now fits)

pub copying_keeps : (node : ℕ) (now : List ℕ) (calls : List DiskCall) (old new : Told) (end : End) → contents old ≡ at_rest now
    → IsOldLog now
    → EachMay (may_copy now) 4194304 calls → CallsTold calls old new end → Passes (λ image. SaysSame node image now) old new
copying_keeps node now calls old new end rest is each told =
    passes_weaker (Fits (may_copy now) 4194304) (λ image. SaysSame node image now) old new
    (λ image fits. copying_says node now image is fits)
    (calls_pass (may_copy now) 4194304 calls old new end each
    (rest_fits (may_copy now) 4194304 now old rest (record { long = is.long; bytes = λ k below. refl })) told)

-- 4. The heads that are moved stand behind their moving where the staged ones stand

pub take_equals : (n : ℕ) (xs ys : List ℕ) → length ys ≡ n → n ≤ length xs → ((k : ℕ) → k < n → slice_index xs k ≡ slice_index ys k)
    → take n xs ≡ ys
take_equals zero xs [] long fits same = refl
take_equals zero xs (y ∷ ys) long fits same = absurd (omega (arith, long))
take_equals (suc n) [] ys long fits same = absurd (omega (arith, fits))
take_equals (suc n) (x ∷ xs) [] long fits same = absurd (omega (arith, long))
take_equals (suc n) (x ∷ xs) (y ∷ ys) long fits same =
    ap (λ z. z ∷ take n xs) (same 0 (omega arith))
    ∙ ap (λ zs. y ∷ zs) (take_equals n xs ys (omega (arith, long)) (omega (arith, fits)) (λ k below. same (suc k) (omega (arith, below))))

-- what is known of an image on which so many blocks of heads were moved
pub record AreMoved (bytes : List ℕ) (n : ℕ) (now : List ℕ) : Type 0 where
  pub long : length now ≡ 4194304
  pub same : (k : ℕ) → k < 1024 * n → slice_index now (1024 + k) ≡ slice_index bytes k

before_or_in : (k n : ℕ) → (k < 1024 * n) ⊎ (1024 * n ≤ k)
before_or_in k n = grind (arith, nat_tests)

index_at : (xs : List ℕ) (a b : ℕ) → a ≡ b → slice_index xs a ≡ slice_index xs b
index_at xs a b same = ap (λ i. slice_index xs i) same

moved_once : (bytes now : List ℕ) (n : ℕ) → n < 128 → length bytes ≡ 131072 → AreMoved bytes n now
    → AreMoved bytes (suc n) (overlay ((1 + n) * 1024) (part_of bytes n) now)
moved_once bytes now n below long m = record {
  long = length-overlay at part now fits ∙ m.long;
  same = λ k within. by_place k within (before_or_in k n);
}
  where
    at : ℕ
    at = (1 + n) * 1024

    part : List ℕ
    part = part_of bytes n

    few : n * 1024 + 1024 - n * 1024 ≤ length (drop (n * 1024) bytes)
    few = omega (arith, below, long, length-drop (n * 1024) bytes)

    size : length part ≡ n * 1024 + 1024 - n * 1024
    size = length-take-le (n * 1024 + 1024 - n * 1024) (drop (n * 1024) bytes) few

    fits : at + length part ≤ length now
    fits = omega (arith, below, size, m.long)

    by_place : (k : ℕ) → k < 1024 * suc n → (k < 1024 * n) ⊎ (1024 * n ≤ k)
        → slice_index (overlay at part now) (1024 + k) ≡ slice_index bytes k
    by_place k within (inl early) = overlay_outside at (1024 + k) part now fits (inl (omega (arith, early))) ∙ m.same k early
    by_place k within (inr here) =
        overlay_inside at (1024 + k) part now fits (omega (arith, here)) (omega (arith, within, size))
        ∙ get_or-take (n * 1024 + 1024 - n * 1024) (drop (n * 1024) bytes) (1024 + k - at) 0 (omega (arith, within, here))
        ∙ get_or-drop (n * 1024) bytes (1024 + k - at) 0
        ∙ index_at bytes (n * 1024 + (1024 + k - at)) k (omega (arith, here))

moved_two : (bytes : List ℕ) (n : ℕ) (old new : Told) → n < 128 → length bytes ≡ 131072 → AreMoved bytes n (contents old).now
    → AllTold (moving_calls bytes n) old new → AreMoved bytes (suc n) (contents new).now
moved_two bytes n old new below long m told =
    let write = told.3 in
    subst (λ t. AreMoved bytes (suc n) (contents t).now) (sym (write.3 ∙ write.2
    ∙ ap (λ t. noted (Wrote write.1 ((1 + n) * 1024) (part_of bytes n)) t) told.2))
    (moved_once bytes (contents old).now n below long m)

joined : (bytes : List ℕ) (n : ℕ) → flat_map (moving_calls bytes) (numbers 0 (suc n))
    ≡ flat_map (moving_calls bytes) (numbers 0 n) ++ moving_calls bytes n
joined bytes n = ap (λ ns. flat_map (moving_calls bytes) ns) (numbers_at 0 (suc n) (n + 1) (omega arith)) ∙ moved_join bytes n

pub moved_all : (bytes : List ℕ) (n : ℕ) (old new : Told) → n ≤ 128 → length bytes ≡ 131072 → length (contents old).now ≡ 4194304
    → AllTold (flat_map (moving_calls bytes) (numbers 0 n)) old new → AreMoved bytes n (contents new).now
unfolding numbers
moved_all bytes zero old new few long size told = record {
  long = ap (λ t. length (contents t).now) told ∙ size;
  same = λ k below. absurd (omega (arith, below));
}
moved_all bytes (suc n) old new few long size told =
    let two = all_parted (flat_map (moving_calls bytes) (numbers 0 n)) (moving_calls bytes n) old new
    (subst (λ calls. AllTold calls old new) (joined bytes n) told) in
    moved_two bytes n two.0 new (omega (arith, few)) long
    (moved_all bytes n old two.0 (omega (arith, few)) long size two.1) two.2

-- 5. The finishing of a conversion

blocks_may : (now bytes : List ℕ) (n : ℕ) → n < 128 → length bytes ≡ 131072 → EachMay (may_move now) 4194304 (moving_calls bytes n)
blocks_may now bytes n below long =
    let few : n * 1024 + 1024 - n * 1024 ≤ length (drop (n * 1024) bytes) = omega (arith, below, long, length-drop (n * 1024) bytes) in
    let size : length (part_of bytes n) ≡ n * 1024 + 1024 - n * 1024 =
    length-take-le (n * 1024 + 1024 - n * 1024) (drop (n * 1024) bytes) few in (
      tt,
      (
        (
          omega (arith, below, size),
          λ k b from to outside. absurd (apart k n (length (part_of bytes n)) from to (omega
              (arith, size)) below outside),
        ),
        tt,
      ),
    )
  where
    apart : (k n size : ℕ) → (1 + n) * 1024 ≤ k → k < (1 + n) * 1024 + size → size ≤ 1024 → n < 128 → (k < 1024) ⊎ (132096 ≤ k) → ⊥
    apart k n size from to few below (inl low) = omega (arith, from, low)
    apart k n size from to few below (inr high) = omega (arith, to, few, below, high)

pub each_append : (may : ℕ → ℕ → Type 0) (size : ℕ) (xs ys : List DiskCall) → EachMay may size xs → EachMay may size ys
    → EachMay may size (xs ++ ys)
each_append may size [] ys a b = b
each_append may size (x ∷ xs) ys a b = (a.0, each_append may size xs ys a.1 b)

pub all_may : (now bytes : List ℕ) (n : ℕ) → n ≤ 128 → length bytes ≡ 131072
    → EachMay (may_move now) 4194304 (flat_map (moving_calls bytes) (numbers 0 n))
unfolding numbers
all_may now bytes zero few long = tt
all_may now bytes (suc n) few long =
    subst (λ calls. EachMay (may_move now) 4194304 calls) (sym (joined bytes n))
    (each_append (may_move now) 4194304 (flat_map (moving_calls bytes) (numbers 0 n)) (moving_calls bytes n)
    (all_may now bytes n (omega (arith, few)) long) (blocks_may now bytes n (omega (arith, few)) long))

pub staged_long : (now : List ℕ) → length now ≡ 4194304 → length (slice_range now 4063232 4194304) ≡ 131072
staged_long now long = length-take-le 131072 (drop 4063232 now) (omega (arith, long, length-drop 4063232 now))

-- the image behind all these moves
pub record IsMovedFrom (start now : List ℕ) : Type 0 where
  pub staged : IsStagedLog now
  pub moved : slice_range now 1024 132096 ≡ slice_range now 4063232 4194304
  pub says : (node : ℕ) → SaysSame node now start

pub moved_from_is : (start now : List ℕ) → IsStagedLog start → Fits (may_move start) 4194304 now
    → AreMoved (slice_range start 4063232 4194304) 128 now → IsMovedFrom start now
moved_from_is start now is fits m = record {
  staged = record {
    long = fits.long;
    log = fits.bytes 0 (inl (omega arith)) ∙ is.log;
    none = ap (λ b. b == 235) (fits.bytes 1 (inl (omega arith))) ∙ is.none;
    staged = fits.bytes 2 (inl (omega arith)) ∙ is.staged;
  };
  moved = take_equals 131072 (drop 1024 now) (slice_range start 4063232 4194304) (staged_long start is.long)
      (omega (arith, fits.long, length-drop 1024 now)) (λ k below. get_or-drop 1024 now k 0 ∙ m.same k (omega (arith, below)))
      ∙ sym (same_part 4063232 131072 now start (fits.long ∙ sym is.long) (λ k from below. fits.bytes k (inr (omega (arith, from)))));
  says = λ node. moving_says node start now is fits;
}

pub same_trans : (node : ℕ) (xs ys zs : List ℕ) → SaysSame node xs ys → SaysSame node ys zs → SaysSame node xs zs
same_trans node xs ys zs a b = record {
  found = a.found ∙ b.found;
  overfull = a.overfull ∙ b.overfull;
  told = a.told ∙ b.told;
}

end_may : (now : List ℕ) → EachMay (may_write 1 now) 4194304 (Write 1 (235 ∷ []) ∷ Sync ∷ [])
end_may now = ((omega arith, λ k b from to other. absurd (other (omega (arith, from, to)))), (tt, tt))

ending_keeps : (node : ℕ) (start now : List ℕ) (old new : Told) (end : End) → contents old ≡ at_rest now → IsMovedFrom start now
    → CallsTold (Write 1 (235 ∷ []) ∷ Sync ∷ []) old new end → Passes (λ image. SaysSame node image start) old new
ending_keeps node start now old new end rest m told =
    passes_weaker (Fits (may_write 1 now) 4194304) (λ image. SaysSame node image start) old new
    (λ image fits. same_trans node image now start (ending_says node now image m.staged m.moved fits) (m.says node))
    (calls_pass (may_write 1 now) 4194304 (Write 1 (235 ∷ []) ∷ Sync ∷ []) old new end (end_may now)
    (rest_fits (may_write 1 now) 4194304 now old rest (record { long = m.staged.long; bytes = λ k other. refl })) told)

moving_part : (node : ℕ) (start : List ℕ) (calls : List DiskCall) (old new : Told) (end : End) → contents old ≡ at_rest start
    → IsStagedLog start
    → EachMay (may_move start) 4194304 calls → CallsTold calls old new end → Passes (Fits (may_move start) 4194304) old new
moving_part node start calls old new end rest is each told =
    calls_pass (may_move start) 4194304 calls old new end each
    (rest_fits (may_move start) 4194304 start old rest (record { long = is.long; bytes = λ k outside. refl })) told

says_so : (node : ℕ) (start : List ℕ) (old new : Told) → IsStagedLog start → Passes (Fits (may_move start) 4194304) old new
    → Passes (λ image. SaysSame node image start) old new
says_so node start old new is passes =
    passes_weaker (Fits (may_move start) 4194304) (λ image. SaysSame node image start) old new
    (λ image fits. moving_says node start image is fits) passes

pub finishing_keeps : (node : ℕ) (start : List ℕ) (old new : Told) (end : End) → contents old ≡ at_rest start → IsStagedLog start
    → CallsTold (finishing_calls (slice_range start 4063232 4194304)) old new end → Passes (λ image. SaysSame node image start) old new
finishing_keeps node start old new end rest is told =
    by_parts (parted (moves ++ Sync ∷ []) (Write 1 (235 ∷ []) ∷ Sync ∷ []) old new end
    (subst (λ calls. CallsTold calls old new end) (sym (append_assoc moves (Sync ∷ []) (Write 1 (235 ∷ []) ∷ Sync ∷ []))) told))
  where
    bytes : List ℕ
    bytes = slice_range start 4063232 4194304

    moves : List DiskCall
    moves = flat_map (moving_calls bytes) (numbers 0 128)

    may : EachMay (may_move start) 4194304 (moves ++ Sync ∷ [])
    may = each_append (may_move start) 4194304 moves (Sync ∷ []) (all_may start bytes 128 (omega arith) (staged_long start is.long))
        (tt, tt)

    refused : (e : End) → SomeTold (moves ++ Sync ∷ []) old new e → Passes (λ image. SaysSame node image start) old new
    refused e some = says_so node start old new is (some_pass (may_move start) 4194304 (moves ++ Sync ∷ []) old new e may
        (rest_fits (may_move start) 4194304 start old rest (record { long = is.long; bytes = λ k outside. refl })) some)

    -- behind the sync
    made : (mid : Told) → AllTold (moves ++ Sync ∷ []) old mid → CallsTold (Write 1 (235 ∷ []) ∷ Sync ∷ []) mid new end
        → Passes (λ image. SaysSame node image start) old new
    made mid all end_told =
        let first : Passes (Fits (may_move start) 4194304) old mid =
        moving_part node start (moves ++ Sync ∷ []) old mid Fine rest is may all in
        let two = all_parted moves (Sync ∷ []) old mid all in
        let sync = two.2 in
        let synced : mid ≡ noted (Synced sync.1) two.0 = sync.3 ∙ sync.2 in
        let still : contents mid ≡ at_rest (contents two.0).now = ap (λ t. contents t) synced in
        let same : (contents mid).now ≡ (contents two.0).now = ap (λ t. (contents t).now) synced in
        let at : contents mid ≡ at_rest (contents mid).now = still ∙ ap (λ xs. at_rest xs) (sym same) in
        let size : length (contents old).now ≡ 4194304 = ap (λ (c : Contents). length c.now) rest ∙ is.long in
        let there : AreMoved bytes 128 (contents mid).now = subst (λ xs. AreMoved bytes 128 xs) (sym same)
        (moved_all bytes 128 old two.0 (omega arith) (staged_long start is.long) size two.1) in
        passes_join (λ image. SaysSame node image start) old mid new (says_so node start old mid is first)
        (ending_keeps node start (contents mid).now mid new end at (moved_from_is start (contents mid).now is first.after.now there)
        end_told)

    by_parts : Parted (moves ++ Sync ∷ []) (Write 1 (235 ∷ []) ∷ Sync ∷ []) old new end → Passes (λ image. SaysSame node image start) old
        new
    by_parts (inl some) = refused end some
    by_parts (inr all) = made all.0 all.1 all.2
