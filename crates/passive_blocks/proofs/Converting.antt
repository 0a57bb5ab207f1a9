-- An opening finds the same of each image that is left while a log becomes blocks.
use Rattle.std.specs.Prelude.{◌≡◌, ◌⊎◌, ℕ, suc, zero, ◌+◌, ◌^◌, ◌≤◌, ◌<◌, ◌==◌, ◌&&◌, Bool, true, false, nat_lt, min, List, [], ◌∷◌, ◌++◌}
use Rattle.std.specs.Prelude.{length, take, drop, slice_index, slice_range, Result, Ok, Err, if◌then◌else◌}
use Rattle.std.proofs.Common.{refl, sym, ap, subst, ◌∙◌, inl, inr, arith}
use Rattle.std.proofs.lemmas.Bool.Decides.{nat_tests}
use Rattle.std.proofs.lemmas.List.{take-append-drop, length-take, get_or-take}
use Rattle.std.proofs.Math.Seq.{drop-cons}
use Rattle.passive_store.specs.Kept.{Kept, nothing_kept, kept_by}
use Rattle.passive_store.specs.Log.{log_map, records_behind, records_of}
use Rattle.block_tables.specs.Blocks.{is_block_size, heads_of, heads_or_none, blocks_map}
use Rattle.passive_blocks.specs.Conversion.{old_log, finished, moved_map, is_too_much}
use Rattle.passive_blocks.specs.BlockLayout.{Format, Blocks, Staged, OldLog, Foreign, Blank, format_of, map_by, overfull_by, heads_by}
use Rattle.passive_blocks.specs.BlockLayout.{heads_moved}
use Rattle.passive_blocks.specs.BlockLayout.{block_layout, block_map, block_changes, changes_left}
use Rattle.passive_blocks.specs.Fits.{Fits}
use Rattle.passive_blocks.specs.Converting.{SaysSame, IsOldLog, IsStagedLog}
use Rattle.passive_blocks.proofs.ConvertStages.{IsConverted, may_copy, may_write, may_move}
use Rattle.passive_blocks.proofs.SameParts.{same_all, same_take, same_drop, same_part, same_behind, drop_more}

is_byte : (n m : ℕ) → (n == m) ≡ true → n ≡ m
is_byte n m same = grind (arith, nat_tests)

beside : (j k : ℕ) → (j ≡ k) ⊎ ((j < k) ⊎ (k + 1 ≤ j))
beside j k = grind (arith, nat_tests)

apart : (j k : ℕ) → (j < k) ⊎ (k + 1 ≤ j) → j ≡ k → ⊥
apart j k (inl below) same = omega (arith, below, same)
apart j k (inr above) same = omega (arith, above, same)

same_or_not : (j k : ℕ) → (j ≡ k) ⊎ (j ≡ k → ⊥)
same_or_not j k = elim (beside j k) [ inl same ↦ inl same | inr other ↦ inr (apart j k other) ]

-- 1. Which format an image has

format_by : Bool → Bool → Bool → Bool → Format
format_by blocks log long staged = if blocks then Blocks else (if log then (if long then
    (if staged then Staged else OldLog) else Foreign) else Blank)

pub old_format : (image : List ℕ) → IsOldLog image → format_of image ≡ OldLog
unfolding format_by
old_format image is =
    ap (λ b. format_by b (slice_index image 0 == 237) (length image == 4194304) (slice_index image 2 == 234)) is.none
    ∙ ap (λ n. format_by false (n == 237) (length image == 4194304) (slice_index image 2 == 234)) is.log
    ∙ ap (λ n. format_by false true (n == 4194304) (slice_index image 2 == 234)) is.long
    ∙ ap (λ b. format_by false true true b) is.unstaged

pub staged_format : (image : List ℕ) → IsStagedLog image → format_of image ≡ Staged
unfolding format_by
staged_format image is =
    ap (λ b. format_by b (slice_index image 0 == 237) (length image == 4194304) (slice_index image 2 == 234)) is.none
    ∙ ap (λ n. format_by false (n == 237) (length image == 4194304) (slice_index image 2 == 234)) is.log
    ∙ ap (λ n. format_by false true (n == 4194304) (slice_index image 2 == 234)) is.long
    ∙ ap (λ n. format_by false true true (n == 234)) is.staged

block_format : (image : List ℕ) → IsConverted image → format_of image ≡ Blocks
unfolding format_by
block_format image is =
    ap (λ n. format_by (n == 235) (slice_index image 0 == 237) (length image == 4194304) (slice_index image 2 == 234)) is.blocks

-- 2. What an opening finds of it

allowed : (image : List ℕ) → length image ≡ 4194304 → is_block_size (length image) ≡ true
allowed image long = ap (λ n. is_block_size n) long

map_of_format : (node : ℕ) (image : List ℕ) (f : Format) → length image ≡ 4194304 → format_of image ≡ f
    → block_map node image ≡ map_by f node image
map_of_format node image f long is =
    ap (λ b. if b then map_by (format_of image) node image else Err 0) (allowed image long) ∙ ap (λ g. map_by g node image) is

overfull_of_format : (node : ℕ) (image : List ℕ) (f : Format) → length image ≡ 4194304 → format_of image ≡ f
    → block_layout.is_overfull node image ≡ overfull_by f node image
overfull_of_format node image f long is =
    ap (λ b. b && overfull_by (format_of image) node image) (allowed image long) ∙ ap (λ g. overfull_by g node image) is

changes_of_format : (node : ℕ) (image : List ℕ) (f : Format) → length image ≡ 4194304 → format_of image ≡ f
    → block_changes node image ≡ (if overfull_by f node image then 2 ^ 63 else changes_left 4194304 (heads_by f node image)
    (map_by f node image))
changes_of_format node image f long is =
    ap (λ g. if overfull_by g node image then 2 ^ 63 else changes_left (length image) (heads_by g node image)
    (block_map node image)) is
    ∙ ap (λ n. if overfull_by f node image then 2 ^ 63 else changes_left n (heads_by f node image) (block_map node image)) long
    ∙ ap (λ m. if overfull_by f node image then 2 ^ 63 else changes_left 4194304 (heads_by f node image) m)
    (map_of_format node image f long is)

-- an opening finds this log
pub record SaysLog (node : ℕ) (image : List ℕ) (log : Result Kept ℕ) : Type 0 where
  pub found : block_map node image ≡ moved_map log
  pub overfull : block_layout.is_overfull node image ≡ is_too_much log
  pub told : block_changes node image ≡ (if is_too_much log then 2 ^ 63 else changes_left 4194304 (heads_moved log) (moved_map log))

-- an opening finds these blocks
pub record SaysBlocks (node : ℕ) (image blocks : List ℕ) : Type 0 where
  pub found : block_map node image ≡ blocks_map node blocks
  pub overfull : block_layout.is_overfull node image ≡ false
  pub told : block_changes node image ≡ changes_left 4194304 (heads_or_none (heads_of node blocks)) (blocks_map node blocks)

pub log_says : (node : ℕ) (image : List ℕ) → IsOldLog image → SaysLog node image (log_map node (old_log image))
log_says node image is = record {
  found = map_of_format node image OldLog is.long (old_format image is);
  overfull = overfull_of_format node image OldLog is.long (old_format image is);
  told = changes_of_format node image OldLog is.long (old_format image is);
}

pub staged_says : (node : ℕ) (image : List ℕ) → IsStagedLog image → SaysBlocks node image (finished image)
staged_says node image is = record {
  found = map_of_format node image Staged is.long (staged_format image is);
  overfull = overfull_of_format node image Staged is.long (staged_format image is);
  told = changes_of_format node image Staged is.long (staged_format image is);
}

pub converted_says : (node : ℕ) (image : List ℕ) → IsConverted image → SaysBlocks node image image
converted_says node image is = record {
  found = map_of_format node image Blocks is.long (block_format image is);
  overfull = overfull_of_format node image Blocks is.long (block_format image is);
  told = changes_of_format node image Blocks is.long (block_format image is);
}

pub same_logs : (node : ℕ) (xs ys : List ℕ) (log : Result Kept ℕ) → SaysLog node xs log → SaysLog node ys log → SaysSame node xs ys
same_logs node xs ys log x y = record {
  found = x.found ∙ sym y.found;
  overfull = x.overfull ∙ sym y.overfull;
  told = x.told ∙ sym y.told;
}

pub same_blocks : (node : ℕ) (xs ys blocks : List ℕ) → SaysBlocks node xs blocks → SaysBlocks node ys blocks → SaysSame node xs ys
same_blocks node xs ys blocks x y = record {
  found = x.found ∙ sym y.found;
  overfull = x.overfull ∙ sym y.overfull;
  told = x.told ∙ sym y.told;
}

-- 3. What a log keeps does not depend on the bytes from 1 to 15

passed : (node skip place : ℕ) (xs ys : List ℕ) → length xs ≡ length ys → drop skip xs ≡ drop skip ys
    → records_behind node skip place xs ≡ records_behind node skip place ys
unfolding records_behind
passed node zero place xs ys long same = ap (λ zs. records_behind node 0 place zs) same
passed node (suc skip) place [] [] long same = refl
passed node (suc skip) place [] (y ∷ ys) long same = absurd (omega (arith, long))
passed node (suc skip) place (x ∷ xs) [] long same = absurd (omega (arith, long))
passed node (suc skip) place (x ∷ xs) (y ∷ ys) long same = passed node skip (place + 1) xs ys (omega (arith, long)) same

log_by : ℕ → ℕ → Result Kept ℕ → Result Kept ℕ
log_by size first found = if nat_lt size 17 then Err 0 else (if first == 237 then found else Ok nothing_kept)

pub same_log : (node : ℕ) (xs ys : List ℕ) → length xs ≡ length ys → slice_index xs 0 ≡ slice_index ys 0 → drop 16 xs ≡ drop 16 ys
    → log_map node xs ≡ log_map node ys
unfolding log_by
same_log node xs ys long first rest =
    ap (λ n. log_by n (slice_index xs 0) (kept_by (records_of node xs))) long
    ∙ ap (λ n. log_by (length ys) n (kept_by (records_of node xs))) first
    ∙ ap (λ r. log_by (length ys) (slice_index ys 0) (kept_by r)) (passed node 16 0 xs ys long rest)

-- 4. While values are copied and heads staged, the log says what it said

pub copying_says : (node : ℕ) (start image : List ℕ) → IsOldLog start → Fits (may_copy start) 4194304 image → SaysSame node image start
copying_says node start image is fits =
    let long : length image ≡ length start = fits.long ∙ sym is.long in
    let same : old_log image ≡ old_log start = same_take 1048576 image start long (λ k below. fits.bytes k below) in
    let there : IsOldLog image = record {
      long = fits.long;
      log = fits.bytes 0 (omega arith) ∙ is.log;
      none = ap (λ b. b == 235) (fits.bytes 1 (omega arith)) ∙ is.none;
      unstaged = ap (λ b. b == 234) (fits.bytes 2 (omega arith)) ∙ is.unstaged;
    } in
    let says : SaysLog node image (log_map node (old_log image)) = log_says node image there in
    let l : log_map node (old_log image) ≡ log_map node (old_log start) = ap (λ xs. log_map node xs) same in
    record {
      found = says.found ∙ ap (λ m. moved_map m) l ∙ sym (log_says node start is).found;
      overfull = says.overfull ∙ ap (λ m. is_too_much m) l ∙ sym (log_says node start is).overfull;
      told = says.told
          ∙ ap (λ (m : Result Kept ℕ). if is_too_much m then 2 ^ 63 else changes_left 4194304 (heads_moved m) (moved_map m)) l
          ∙ sym (log_says node start is).told;
    }

-- 5. While the heads are moved, the staged ones say what they said

pub same_finished : (xs ys : List ℕ) → length xs ≡ length ys → ((k : ℕ) → (k < 1) ⊎ ((2 ≤ k) × (k < 1024))
    → slice_index xs k ≡ slice_index ys k)
    → ((k : ℕ) → 132096 ≤ k → slice_index xs k ≡ slice_index ys k) → finished xs ≡ finished ys
same_finished xs ys long low high =
    ap (λ a. a ++ 235 ∷ (slice_range xs 2 1024 ++ (slice_range xs 4063232 4194304 ++ drop 132096 xs)))
    (same_take 1 xs ys long (λ k below. low k (inl below)))
    ∙ ap (λ b. take 1 ys ++ 235 ∷ (b ++ (slice_range xs 4063232 4194304 ++ drop 132096 xs)))
    (same_part 2 1022 xs ys long (λ k from below. low k (inr (from, below))))
    ∙ ap (λ c. take 1 ys ++ 235 ∷ (slice_range ys 2 1024 ++ (c ++ drop 132096 xs)))
    (same_part 4063232 131072 xs ys long (λ k from below. high k (omega (arith, from))))
    ∙ ap (λ d. take 1 ys ++ 235 ∷ (slice_range ys 2 1024 ++ (slice_range ys 4063232 4194304 ++ d)))
    (same_drop 132096 xs ys long high)

low_moved : (k : ℕ) → (k < 1) ⊎ ((2 ≤ k) × (k < 1024)) → k < 1024
low_moved k (inl below) = omega (arith, below)
low_moved k (inr within) = within.1

pub moving_says : (node : ℕ) (start image : List ℕ) → IsStagedLog start → Fits (may_move start) 4194304 image → SaysSame node image start
moving_says node start image is fits =
    let there : IsStagedLog image = record {
      long = fits.long;
      log = fits.bytes 0 (inl (omega arith)) ∙ is.log;
      none = ap (λ b. b == 235) (fits.bytes 1 (inl (omega arith))) ∙ is.none;
      staged = fits.bytes 2 (inl (omega arith)) ∙ is.staged;
    } in
    let same : finished image ≡ finished start = same_finished image start (fits.long ∙ sym is.long)
    (λ k low. fits.bytes k (inl (low_moved k low))) (λ k high. fits.bytes k (inr high)) in
    same_blocks node image start (finished start)
    (let says = staged_says node image there in record {
      found = says.found ∙ ap (λ xs. blocks_map node xs) same;
      overfull = says.overfull;
      told = says.told ∙ ap (λ xs. changes_left 4194304 (heads_or_none (heads_of node xs)) (blocks_map node xs)) same;
    })
    (staged_says node start is)

-- 6. While the last byte is written, the heads that stand in their places say what the staged ones do

-- so many from a place on, and what is behind them
parted : (from n : ℕ) (xs : List ℕ) → drop from xs ≡ take n (drop from xs) ++ drop (from + n) xs
parted from n xs =
    sym (take-append-drop n (drop from xs)) ∙ ap (λ rest. take n (drop from xs) ++ rest) (drop_more from n xs)

pub finished_is : (image : List ℕ) → length image ≡ 4194304 → slice_index image 1 ≡ 235
    → slice_range image 1024 132096 ≡ slice_range image 4063232 4194304 → finished image ≡ image
finished_is image long here moved =
    ap (λ b. take 1 image ++ b ∷ (slice_range image 2 1024 ++ (slice_range image 4063232 4194304 ++ drop 132096 image))) (sym here)
    ∙ ap (λ part. take 1 image ++ slice_index image 1 ∷ (slice_range image 2 1024 ++ (part ++ drop 132096 image))) (sym moved)
    ∙ ap (λ rest. take 1 image ++ slice_index image 1 ∷ (slice_range image 2 1024 ++ rest)) (sym (parted 1024 131072 image))
    ∙ ap (λ rest. take 1 image ++ slice_index image 1 ∷ rest) (sym (parted 2 1022 image))
    ∙ ap (λ rest. take 1 image ++ rest) (sym (drop-cons image 1 0 (omega (arith, long))))
    ∙ take-append-drop 1 image

not_first : (k : ℕ) → (k < 1) ⊎ ((2 ≤ k) × (k < 1024)) → k ≡ 1 → ⊥
not_first k (inl below) is = omega (arith, below, is)
not_first k (inr within) is = omega (arith, within, is)

pub same_moved : (start image : List ℕ) → length image ≡ length start → slice_range start 1024 132096 ≡ slice_range start 4063232 4194304
    → ((k : ℕ) → (k ≡ 1 → ⊥) → slice_index image k ≡ slice_index start k)
    → slice_range image 1024 132096 ≡ slice_range image 4063232 4194304
same_moved start image long moved same =
    same_part 1024 131072 image start long (λ k from below. same k (λ is. omega (arith, from, is)))
    ∙ moved
    ∙ sym (same_part 4063232 131072 image start long (λ k from below. same k (λ is. omega (arith, from, is))))

pub ending_says : (node : ℕ) (start image : List ℕ) → IsStagedLog start → slice_range start 1024 132096 ≡ slice_range start 4063232 4194304
    → Fits (may_write 1 start) 4194304 image → SaysSame node image start
ending_says node start image is moved fits = by_byte (slice_index image 1 == 235) refl where
  long : length image ≡ length start
  long = fits.long ∙ sym is.long

  same : finished image ≡ finished start
  same = same_finished image start long (λ k low. fits.bytes k (not_first k low)) (λ k high. fits.bytes k (λ at. omega (arith, high, at)))

  here : SaysBlocks node image (finished image) → SaysSame node image start
  here says = same_blocks node image start (finished start)
      (record {
        found = says.found ∙ ap (λ xs. blocks_map node xs) same;
        overfull = says.overfull;
        told = says.told ∙ ap (λ xs. changes_left 4194304 (heads_or_none (heads_of node xs)) (blocks_map node xs)) same;
      })
      (staged_says node start is)

  by_byte : (b : Bool) → (slice_index image 1 == 235) ≡ b → SaysSame node image start
  by_byte true at =
      let byte : slice_index image 1 ≡ 235 = is_byte (slice_index image 1) 235 at in
      let whole : finished image ≡ image = finished_is image fits.long byte (same_moved start image long moved
      (λ k other. fits.bytes k other)) in
      here (subst (λ xs. SaysBlocks node image xs) (sym whole) (converted_says node image (record { long = fits.long; blocks = byte })))
  by_byte false at = here (staged_says node image (record {
    long = fits.long;
    log = fits.bytes 0 (λ is0. omega (arith, is0)) ∙ is.log;
    none = at;
    staged = fits.bytes 2 (λ is2. omega (arith, is2)) ∙ is.staged;
  }))

-- 7. While the byte is written that says that heads are staged, the log says what it said, once the staged ones say the same

pub staging_says : (node : ℕ) (start staged image : List ℕ) → IsOldLog start → IsStagedLog staged → Fits (may_write 2 start) 4194304 staged
    → SaysSame node staged start → Fits (may_write 2 start) 4194304 image → SaysSame node image start
staging_says node start staged image is set there says fits = by_byte (slice_index image 2 == 234) refl where
  long : length image ≡ length start
  long = fits.long ∙ sym is.long

  by_place : (k : ℕ) → slice_index image 2 ≡ 234 → (k ≡ 2) ⊎ (k ≡ 2 → ⊥) → slice_index image k ≡ slice_index staged k
  by_place k byte (inl at) = ap (λ i. slice_index image i) at ∙ byte ∙ sym set.staged ∙ ap (λ i. slice_index staged i) (sym at)
  by_place k byte (inr other) = fits.bytes k other ∙ sym (there.bytes k other)

  behind : drop 16 (old_log image) ≡ drop 16 (old_log start)
  behind = same_behind 16 1048576 image start long (λ k from. fits.bytes k (λ at. omega (arith, from, at)))

  size : length (old_log image) ≡ length (old_log start)
  size = length-take 1048576 image ∙ ap (λ n. min 1048576 n) long ∙ sym (length-take 1048576 start)

  first : slice_index (old_log image) 0 ≡ slice_index (old_log start) 0
  first = get_or-take 1048576 image 0 0 (omega arith) ∙ fits.bytes 0 (λ at. omega (arith, at))
      ∙ sym (get_or-take 1048576 start 0 0 (omega arith))

  by_byte : (b : Bool) → (slice_index image 2 == 234) ≡ b → SaysSame node image start
  by_byte true at =
      let byte : slice_index image 2 ≡ 234 = is_byte (slice_index image 2) 234 at in
      let same : image ≡ staged = same_all image staged (fits.long ∙ sym there.long) (λ k. by_place k byte (same_or_not k 2)) in
      subst (λ xs. SaysSame node xs start) (sym same) says
  by_byte false at =
      let old : IsOldLog image = record {
        long = fits.long;
        log = fits.bytes 0 (λ is0. omega (arith, is0)) ∙ is.log;
        none = ap (λ b. b == 235) (fits.bytes 1 (λ is1. omega (arith, is1))) ∙ is.none;
        unstaged = at;
      } in
      same_logs node image start (log_map node (old_log start))
      (subst (λ l. SaysLog node image l)
      (same_log node (old_log image) (old_log start) size first behind)
      (log_says node image old))
      (log_says node start is)
