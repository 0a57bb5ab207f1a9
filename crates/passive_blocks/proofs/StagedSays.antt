-- An image on which the heads of a conversion are staged, and its values copied, says what the log says.
use Rattle.std.specs.Prelude.{◌≡◌, ℕ, suc, zero, ◌+◌, ◌-◌, ◌*◌, ◌^◌, ◌≤◌, false, nat_lt, List, [], ◌∷◌, ◌++◌}
use Rattle.std.specs.Prelude.{length, take, drop, map, sum_by, slice_index, slice_range, Result, Ok, if◌then◌else◌}
use Rattle.std.specs.List.{AllByRecursion}
use Rattle.std.proofs.Common.{refl, sym, ap, subst, ◌∙◌, arith, length-append}
use Rattle.std.proofs.lemmas.Bool.Decides.{nat_tests}
use Rattle.std.proofs.lemmas.List.Sums.{sum_by-cons}
use Rattle.std.proofs.lemmas.List.{append_assoc, length-take-le, length-drop, get_or-drop}
use Rattle.std.specs.Int.{w16, from_be_bytes}
use Rattle.std.specs.FinMap as finite
use Rattle.capability.specs.declared.Uid.{Uid}
use Rattle.passive_store.specs.Kept.{Kept}
use Rattle.passive_store.specs.Log.{log_map}
use Rattle.block_tables.specs.Blocks.{blocks_of, heads_of, heads_or_none, blocks_map}
use Rattle.passive_blocks.specs.Conversion.{Moved, moved, moved_from, moved_heads, moved_map, blocks_moved, is_too_much, old_log}
use Rattle.passive_blocks.specs.Conversion.{finished, staged_bytes}
use Rattle.passive_blocks.specs.BlockLayout.{changes_left, heads_moved, reads_of_blocks}
use Rattle.passive_blocks.specs.Converting.{SaysSame, IsOldLog, IsStagedLog, IsGoodEntry}
use Rattle.passive_blocks.proofs.ConvertStages.{IsWritten, AreWritten, AreGoodHeads, blocks_for_all}
use Rattle.passive_blocks.proofs.SameParts.{same_part, drop_front, take_front}
use Rattle.passive_blocks.proofs.Converting.{log_says, staged_says}
use Rattle.passive_blocks.proofs.StagedGood.{good_heads}
use Rattle.passive_blocks.proofs.StagedHeads.{heads_stand}
use Rattle.passive_blocks.proofs.StagedChains.{values_stand, reads_stand}

-- 1. The image in which staged heads stand in their places

first_parts : List ℕ → List ℕ
first_parts image = take 1 image ++ 235 ∷ slice_range image 2 1024

finished_parts : (image : List ℕ)
    → finished image ≡ first_parts image ++ (slice_range image 4063232 4194304 ++ drop 132096 image)
unfolding first_parts
finished_parts image =
    sym (append_assoc (take 1 image) (235 ∷ slice_range image 2 1024) (slice_range image 4063232 4194304 ++ drop 132096 image))

first_long : (image : List ℕ) → length image ≡ 4194304 → length (first_parts image) ≡ 1024
unfolding first_parts
first_long image long = omega (
  arith,
  length-append (take 1 image) (235 ∷ slice_range image 2 1024),
  length-take-le 1 image (omega (arith, long)),
  length-take-le 1022 (drop 2 image) (omega (arith, long, length-drop 2 image)),
)

staged_size : (image : List ℕ) → length image ≡ 4194304 → length (slice_range image 4063232 4194304) ≡ 131072
staged_size image long = length-take-le 131072 (drop 4063232 image) (omega (arith, long, length-drop 4063232 image))

pub finished_long : (image : List ℕ) → length image ≡ 4194304 → length (finished image) ≡ 4194304
finished_long image long =
    ap (λ xs. length xs) (finished_parts image)
    ∙ sum_of (length (first_parts image ++ (slice_range image 4063232 4194304 ++ drop 132096 image)))
    (length (slice_range image 4063232 4194304 ++ drop 132096 image)) (length (drop 132096 image))
    (length-append (first_parts image) (slice_range image 4063232 4194304 ++ drop 132096 image)
    ∙ ap (λ n. n + length (slice_range image 4063232 4194304 ++ drop 132096 image)) (first_long image long))
    (length-append (slice_range image 4063232 4194304) (drop 132096 image)
    ∙ ap (λ n. n + length (drop 132096 image)) (staged_size image long))
    (length-drop 132096 image ∙ ap (λ n. n - 132096) long)
  where
    sum_of : (all some rest : ℕ) → all ≡ 1024 + some → some ≡ 131072 + rest → rest ≡ 4194304 - 132096 → all ≡ 4194304
    sum_of all some rest a b c = omega (arith, a, b, c)

pub finished_heads : (image : List ℕ) → length image ≡ 4194304
    → slice_range (finished image) 1024 132096 ≡ slice_range image 4063232 4194304
finished_heads image long =
    ap (λ xs. take 131072 (drop 1024 xs)) (finished_parts image)
    ∙ ap (λ xs. take 131072 xs)
    (drop_front 1024 (first_parts image) (slice_range image 4063232 4194304 ++ drop 132096 image) (sym (first_long image long)))
    ∙ take_front 131072 (slice_range image 4063232 4194304) (drop 132096 image) (sym (staged_size image long))

finished_rest : (image : List ℕ) → length image ≡ 4194304 → drop 132096 (finished image) ≡ drop 132096 image
finished_rest image long =
    ap (λ xs. drop 132096 xs) (finished_parts image ∙ sym (append_assoc (first_parts image) (slice_range image 4063232 4194304)
    (drop 132096 image)))
    ∙ drop_front 132096 (first_parts image ++ slice_range image 4063232 4194304) (drop 132096 image)
    (front (length (first_parts image ++ slice_range image 4063232 4194304)) (length (first_parts image))
    (length (slice_range image 4063232 4194304)) (length-append (first_parts image) (slice_range image 4063232 4194304))
    (first_long image long)
    (staged_size image long))
  where
    front : (all a b : ℕ) → all ≡ a + b → a ≡ 1024 → b ≡ 131072 → 132096 ≡ all
    front all a b sum x y = omega (arith, sum, x, y)

index_at : (xs : List ℕ) (a b : ℕ) → a ≡ b → slice_index xs a ≡ slice_index xs b
index_at xs a b same = ap (λ i. slice_index xs i) same

finished_at : (image : List ℕ) → length image ≡ 4194304 → (k : ℕ) → 132096 ≤ k → slice_index (finished image) k ≡ slice_index image k
finished_at image long k from =
    index_at (finished image) k (132096 + (k - 132096)) (omega (arith, from))
    ∙ sym (get_or-drop 132096 (finished image) (k - 132096) 0)
    ∙ ap (λ xs. slice_index xs (k - 132096)) (finished_rest image long)
    ∙ get_or-drop 132096 image (k - 132096) 0
    ∙ index_at image (132096 + (k - 132096)) k (omega (arith, from))

-- 2. Values are written on both images alike

written_same : (xs ys : List ℕ) (block count : ℕ) (body : List ℕ) → length xs ≡ length ys → 129 ≤ block
    → ((k : ℕ) → 132096 ≤ k → slice_index xs k ≡ slice_index ys k) → IsWritten ys block count body → IsWritten xs block count body
written_same xs ys block zero body long from same w = tt
written_same xs ys block (suc more) body long from same w = (
  ap (λ b. from_be_bytes w16 b)
      (part_at (block * 1024) 2 (omega (arith, from)) (block * 1024 + 2) (omega arith)) ∙ w.0,
  ap (λ b. take (length (take 1022 body)) b)
      (part_at (block * 1024 + 2) 1022 (omega (arith, from)) (block * 1024 + 1024) (omega arith)) ∙ w.1,
  written_same xs ys (block + 1) more (drop 1022 body) long (omega (arith, from)) same w.2,
)
  where
    part_at : (at n : ℕ) → 132096 ≤ at → (to : ℕ) → to - at ≡ n → slice_range xs at to ≡ slice_range ys at to
    part_at at n past to size =
        ap (λ m. take m (drop at xs)) size ∙ same_part at n xs ys long (λ k above below. same k (omega (arith, above, past)))
        ∙ sym (ap (λ m. take m (drop at ys)) size)

all_written : (xs ys : List ℕ) (number first : ℕ) (es : List (Uid × List ℕ)) → length xs ≡ length ys → 129 ≤ first
    → ((k : ℕ) → 132096 ≤ k → slice_index xs k ≡ slice_index ys k) → AreWritten ys (moved_from number first es)
    → AreWritten xs (moved_from number first es)
unfolding moved_from
all_written xs ys number first [] long from same w = tt
all_written xs ys number first (e ∷ es) long from same w = (
  written_same xs ys first (blocks_of (length e.1)) e.1 long from same w.0,
  all_written xs ys (number + 1) (first + blocks_of (length e.1)) es long (omega (arith, from)) same w.1,
)

-- 3. What the staged heads say

pub staged_for_log : (node : ℕ) (start staged : List ℕ) (kept : Kept) → IsOldLog start → log_map node (old_log start) ≡ Ok kept
    → is_too_much (Ok kept) ≡ false → IsStagedLog staged → heads_of node (finished staged) ≡ Ok (moved_heads kept)
    → blocks_map node (finished staged) ≡ moved_map (Ok kept) → SaysSame node staged start
staged_for_log node start staged kept old log fits is heads values =
    let x = staged_says node staged is in
    let y = log_says node start old in
    record {
      found = x.found ∙ values ∙ sym (ap (λ l. moved_map l) log) ∙ sym y.found;
      overfull = x.overfull ∙ sym fits ∙ sym (ap (λ l. is_too_much l) log) ∙ sym y.overfull;
      told = x.told
          ∙ ap (λ hs. changes_left 4194304 (heads_or_none hs) (blocks_map node (finished staged))) heads
          ∙ ap (λ m. changes_left 4194304 (moved_heads kept) m) values
          ∙ ap (λ b. if b then 2 ^ 63 else changes_left 4194304 (moved_heads kept) (moved_map (Ok kept))) (sym fits)
          ∙ sym (ap (λ (l : Result Kept ℕ). if is_too_much l then 2 ^ 63 else changes_left 4194304 (heads_moved l) (moved_map l)) log)
          ∙ sym y.told;
    }

pub moved_sum : (number first : ℕ) (es : List (Uid × List ℕ))
    → sum_by (λ (m : Moved). blocks_of m.head.size) (moved_from number first es) ≡ blocks_for_all es
unfolding moved_from
moved_sum number first [] = refl
moved_sum number first (e ∷ es) =
    sum_by-cons (λ (m : Moved). blocks_of m.head.size)
    (record {
      head = record { number = number; uid = e.0; removal = false; sequence = number + 1; size = length e.1; first = first };
      body = e.1;
    })
    (moved_from (number + 1) (first + blocks_of (length e.1)) es)
    ∙ ap (λ n. blocks_of (length e.1) + n) (moved_sum (number + 1) (first + blocks_of (length e.1)) es)

pub not_more : (n m : ℕ) → nat_lt n m ≡ false → m ≤ n
not_more n m is = grind (arith, nat_tests)

block_least : (n : ℕ) → 1 ≤ blocks_of n
block_least n = omega arith

moved_few : (number first : ℕ) (es : List (Uid × List ℕ)) → length (map (λ (m : Moved). m.head)
    (moved_from number first es)) ≤ blocks_for_all es
unfolding moved_from
moved_few number first [] = omega arith
moved_few number first (e ∷ es) = omega (
  arith,
  block_least (length e.1),
  moved_few (number + 1) (first + blocks_of (length e.1)) es,
)

few_blocks : (kept : Kept) → is_too_much (Ok kept) ≡ false → blocks_for_all (finite.entries kept.bodies) ≤ 2944
few_blocks kept fits = omega (arith, moved_sum 0 1024 (finite.entries kept.bodies), not_more 2944 (blocks_moved kept) fits)

-- the heads that an opening finds once the staged ones stand in their places
pub heads_staged : (node : ℕ) (staged : List ℕ) (kept : Kept) → is_too_much (Ok kept) ≡ false → IsStagedLog staged
    → AllByRecursion (λ (e : Uid × List ℕ). IsGoodEntry node e.0 (length e.1)) (finite.entries kept.bodies)
    → slice_range staged 4063232 4194304 ≡ staged_bytes kept → heads_of node (finished staged) ≡ Ok (moved_heads kept)
heads_staged node staged kept fits is good spelled =
    let long : length (finished staged) ≡ 4194304 = finished_long staged is.long in
    let es : List (Uid × List ℕ) = finite.entries kept.bodies in
    let some : blocks_for_all es ≤ 2944 = few_blocks kept fits in
    heads_stand node (finished staged) (moved_heads kept) long (omega (arith, some, moved_few 0 1024 es))
    (subst (λ n. AreGoodHeads node n 0 (moved_heads kept)) (sym long) (good_heads node 0 1024 es good (omega (arith, some)) (omega arith)
    (omega (arith, some)))) (finished_heads staged is.long ∙ spelled)

-- and how many reads that takes
pub reads_staged : (node : ℕ) (staged : List ℕ) (kept : Kept) → is_too_much (Ok kept) ≡ false → IsStagedLog staged
    → AllByRecursion (λ (e : Uid × List ℕ). IsGoodEntry node e.0 (length e.1)) (finite.entries kept.bodies)
    → slice_range staged 4063232 4194304 ≡ staged_bytes kept → AreWritten staged (moved kept)
    → reads_of_blocks (finished staged) (heads_of node (finished staged)) ≡ 4096 + blocks_moved kept
reads_staged node staged kept fits is good spelled written =
    let long : length (finished staged) ≡ 4194304 = finished_long staged is.long in
    let es : List (Uid × List ℕ) = finite.entries kept.bodies in
    let some : blocks_for_all es ≤ 2944 = few_blocks kept fits in
    reads_stand node (finished staged) es long (finite.entries_sorted kept.bodies) (omega (arith, some))
    (all_written (finished staged) staged 0 1024 es (long ∙ sym is.long) (omega arith) (finished_at staged is.long) written)
    (heads_staged node staged kept fits is good spelled)
    ∙ ap (λ n. 4096 + n) (sym (moved_sum 0 1024 es))

pub staged_says_log : (node : ℕ) (start staged : List ℕ) (kept : Kept) → IsOldLog start → log_map node (old_log start) ≡ Ok kept
    → is_too_much (Ok kept) ≡ false → IsStagedLog staged
    → AllByRecursion (λ (e : Uid × List ℕ). IsGoodEntry node e.0 (length e.1)) (finite.entries kept.bodies)
    → slice_range staged 4063232 4194304 ≡ staged_bytes kept → AreWritten staged (moved kept) → SaysSame node staged start
staged_says_log node start staged kept old log fits is good spelled written =
    let long : length (finished staged) ≡ 4194304 = finished_long staged is.long in
    let es : List (Uid × List ℕ) = finite.entries kept.bodies in
    let some : blocks_for_all es ≤ 2944 = few_blocks kept fits in
    let heads : heads_of node (finished staged) ≡ Ok (moved_heads kept) = heads_staged node staged kept fits is good spelled in
    staged_for_log node start staged kept old log fits is heads
    (values_stand node (finished staged) es long (finite.entries_sorted kept.bodies) (omega (arith, some))
    (all_written (finished staged) staged 0 1024 es (long ∙ sym is.long) (omega arith) (finished_at staged is.long) written)
    heads)
