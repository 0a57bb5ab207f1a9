-- What stands on a disk behind the device calls that copy values and stage their heads.
use Rattle.std.specs.Prelude.{◌≡◌, ◌⊎◌, ℕ, suc, zero, ◌+◌, ◌-◌, ◌*◌, ◌^◌, ◌≤◌, ◌<◌, List, [], ◌∷◌, ◌++◌, length, take, drop, map, flat_map}
use Rattle.std.specs.Prelude.{slice_index, slice_range}
use Rattle.std.proofs.Common.{refl, sym, ap, subst, ◌∙◌, inl, inr, arith, length-append}
use Rattle.std.proofs.lemmas.List.{map-append, get_or-take, get_or-drop, length-take, length-take-le, length-drop}
use Rattle.std.proofs.lemmas.Bool.Decides.{nat_tests}
use Rattle.std.proofs.lemmas.Nat.{from_be_bytes-to_be_bytes_2}
use Rattle.std.specs.Int.{w16, from_be_bytes, to_be_bytes}
use Rattle.capability.specs.declared.Uid.{Uid}
use Rattle.eden_disk.specs.Told.{Told, contents, overlay}
use Rattle.eden_disk.proofs.Overlay.{length-overlay, overlay_outside, overlay_inside}
use Rattle.passive_store.specs.Acts.{AllTold}
use Rattle.block_tables.specs.Blocks.{Head, numbers, blocks_of}
use Rattle.block_tables.specs.Changes.{chain_writes, first_or_zero}
use Rattle.passive_blocks.specs.Conversion.{Moved, moved_from, move_calls, part_of, heads_spelled}
use Rattle.passive_blocks.proofs.ConvertStages.{IsCopied, IsWritten, AreWritten, blocks_for_all}
use Rattle.passive_blocks.proofs.SameParts.{same_part}
use Rattle.passive_blocks.proofs.Moving.{take_less, stage_call, numbers_more, numbers_at}
use Rattle.passive_blocks.proofs.ConvertMoments.{all_parted, take_equals}

-- 1. A part of what was written

overlay_part : (at m n : ℕ) (bytes now : List ℕ) → at + length bytes ≤ length now → m + n ≤ length bytes
    → take n (drop (at + m) (overlay at bytes now)) ≡ take n (drop m bytes)
overlay_part at m n bytes now fits within =
    take_equals n (drop (at + m) (overlay at bytes now)) (take n (drop m bytes))
    (length-take-le n (drop m bytes) (omega (arith, within, length-drop m bytes)))
    (omega (arith, fits, within, length-drop (at + m) (overlay at bytes now), length-overlay at bytes now fits))
    (λ k below. by_place k below)
  where
    at_place : (xs : List ℕ) (a b : ℕ) → a ≡ b → slice_index xs a ≡ slice_index xs b
    at_place xs a b same = ap (λ i. slice_index xs i) same

    by_place : (k : ℕ) → k < n → slice_index (drop (at + m) (overlay at bytes now)) k ≡ slice_index (take n (drop m bytes)) k
    by_place k below =
        get_or-drop (at + m) (overlay at bytes now) k 0
        ∙ overlay_inside at (at + m + k) bytes now fits (omega arith) (omega (arith, below, within))
        ∙ at_place bytes (at + m + k - at) (m + k) (omega arith)
        ∙ sym (get_or-drop m bytes k 0)
        ∙ sym (get_or-take n (drop m bytes) k 0 below)

-- 2. A body is written on blocks

pub part_long : (body : List ℕ) → length (take 1022 body) ≤ 1022
part_long body = omega (arith, length-take 1022 body)

next_small : (block m : ℕ) → block + m < 65536 → first_or_zero (numbers block m) < 2 ^ 16
unfolding numbers
next_small block zero small = omega arith
next_small block (suc m) small = omega (arith, small)

plus_none : (n : ℕ) → n ≡ n + 0
plus_none n = omega arith

one_copied : (block m : ℕ) (body now new : List ℕ) → block + suc m < 65536 → (block + suc m) * 1024 ≤ length now
    → IsCopied (block + 1) m (drop 1022 body)
    (overlay (block * 1024) (to_be_bytes w16 (first_or_zero (numbers (block + 1) m)) ++ take 1022 body) now) new
    → IsCopied block (suc m) body now new
one_copied block m body now new small fits rest = record {
  long = rest.long ∙ length-overlay at bytes now room;
  outside = λ k out. far k out;
  written = (next, part, rest.written);
}
  where
    at : ℕ
    at = block * 1024

    bytes : List ℕ
    bytes = to_be_bytes w16 (first_or_zero (numbers (block + 1) m)) ++ take 1022 body

    size : length bytes ≡ 2 + length (take 1022 body)
    size = length-append (to_be_bytes w16 (first_or_zero (numbers (block + 1) m))) (take 1022 body)

    room : at + length bytes ≤ length now
    room = omega (arith, fits, size, part_long body)

    far : (k : ℕ) → (k < block * 1024) ⊎ ((block + suc m) * 1024 ≤ k) → slice_index new k ≡ slice_index now k
    far k (inl low) = rest.outside k (inl (omega (arith, low))) ∙ overlay_outside at k bytes now room (inl low)
    far k (inr high) = rest.outside k (inr (omega (arith, high)))
        ∙ overlay_outside at k bytes now room (inr (omega (arith, high, size, part_long body)))

    here : (from n : ℕ) → at ≤ from → from + n ≤ at + 1024 → take n (drop from new) ≡ take n (drop from (overlay at bytes now))
    here from n above below = same_part from n new (overlay at bytes now) rest.long
        (λ k low high. rest.outside k (inl (omega (arith, high, below))))

    sized : (from to n : ℕ) → to - from ≡ n → slice_range new from to ≡ take n (drop from new)
    sized from to n is = ap (λ c. take c (drop from new)) is

    next : from_be_bytes w16 (slice_range new at (at + 2)) ≡ first_or_zero (numbers (block + 1) m)
    next = ap (λ b. from_be_bytes w16 b)
        (sized at (at + 2) 2 (omega arith) ∙ here at 2 (omega arith) (omega arith) ∙ zeroth
        ∙ overlay_part at 0 2 bytes now room (omega (arith, size)))
        ∙ from_be_bytes-to_be_bytes_2 (first_or_zero (numbers (block + 1) m)) (next_small (block + 1) m (omega (arith, small)))
      where
        zeroth : take 2 (drop at (overlay at bytes now)) ≡ take 2 (drop (at + 0) (overlay at bytes now))
        zeroth = ap (λ n. take 2 (drop n (overlay at bytes now))) (plus_none at)

    part : take (length (take 1022 body)) (slice_range new (block * 1024 + 2) (block * 1024 + 1024)) ≡ take 1022 body
    part = ap (λ xs. take (length (take 1022 body)) xs) (sized (at + 2) (at + 1024) 1022 (omega arith))
        ∙ take_less (length (take 1022 body)) 1022 (drop (at + 2) new) (part_long body)
        ∙ here (at + 2) (length (take 1022 body)) (omega arith) (omega (arith, part_long body))
        ∙ overlay_part at 2 (length (take 1022 body)) bytes now room (omega (arith, size))
        ∙ whole (length (take 1022 body)) (take 1022 body) refl
      where
        whole : (n : ℕ) (xs : List ℕ) → n ≡ length xs → take n xs ≡ xs
        whole n xs is = ap (λ k. take k xs) is ∙ all xs
          where
            all : (ys : List ℕ) → take (length ys) ys ≡ ys
            all [] = refl
            all (y ∷ ys) = ap (λ zs. y ∷ zs) (all ys)

pub chain_told : (block count : ℕ) (body : List ℕ) (old new : Told) → block + count < 65536
    → (block + count) * 1024 ≤ length (contents old).now
    → AllTold (chain_writes (numbers block count) body) old new → IsCopied block count body (contents old).now (contents new).now
unfolding numbers chain_writes
chain_told block zero body old new small fits told = record {
  long = ap (λ t. length (contents t).now) told;
  outside = λ k out. ap (λ t. slice_index (contents t).now k) told;
  written = tt;
}
chain_told block (suc m) body old new small fits told =
    let bytes : List ℕ = to_be_bytes w16 (first_or_zero (numbers (block + 1) m)) ++ take 1022 body in
    let mid : (contents told.0).now ≡ overlay (block * 1024) bytes (contents old).now = ap (λ t. (contents t).now) told.2 in
    let size : length bytes ≡ 2 + length (take 1022 body) =
    length-append (to_be_bytes w16 (first_or_zero (numbers (block + 1) m))) (take 1022 body) in
    let long : length (contents told.0).now ≡ length (contents old).now = ap (λ xs. length xs) mid
    ∙ length-overlay (block * 1024) bytes (contents old).now (omega (arith, fits, size, part_long body)) in
    one_copied block m body (contents old).now (contents new).now small fits
    (subst (λ xs. IsCopied (block + 1) m (drop 1022 body) xs (contents new).now) mid
    (chain_told (block + 1) m (drop 1022 body) told.0 new (omega (arith, small)) (omega (arith, fits, long)) told.3))

-- 3. All values are copied

pub record AreCopied (first : ℕ) (ms : List Moved) (total : ℕ) (old new : List ℕ) : Type 0 where
  pub long : length new ≡ length old
  pub outside : (k : ℕ) → (k < first * 1024) ⊎ ((first + total) * 1024 ≤ k) → slice_index new k ≡ slice_index old k
  pub written : AreWritten new ms

part_at : (xs ys : List ℕ) (from to n : ℕ) → to - from ≡ n → length xs ≡ length ys
    → ((k : ℕ) → from ≤ k → k < from + n → slice_index xs k ≡ slice_index ys k) → slice_range xs from to ≡ slice_range ys from to
part_at xs ys from to n size long same =
    ap (λ m. take m (drop from xs)) size ∙ same_part from n xs ys long same ∙ sym (ap (λ m. take m (drop from ys)) size)

pub written_on : (xs ys : List ℕ) (block count : ℕ) (body : List ℕ) → length xs ≡ length ys
    → ((k : ℕ) → block * 1024 ≤ k → k < (block + count) * 1024 → slice_index xs k ≡ slice_index ys k)
    → IsWritten ys block count body → IsWritten xs block count body
written_on xs ys block zero body long same w = tt
written_on xs ys block (suc more) body long same w = (
  ap (λ b. from_be_bytes w16 b)
      (part_at xs ys (block * 1024) (block * 1024 + 2) 2 (omega arith) long (λ k low high. same k low (omega (arith, high)))) ∙ w.0,
  ap (λ b. take (length (take 1022 body)) b)
      (part_at xs ys (block * 1024 + 2) (block * 1024 + 1024) 1022 (omega arith) long
      (λ k low high. same k (omega (arith, low)) (omega (arith, high)))) ∙ w.1,
  written_on xs ys (block + 1) more (drop 1022 body) long (λ k low high. same k (omega (arith, low)) (omega (arith, high))) w.2,
)

outside_both : (first count total : ℕ) (old mid new : List ℕ)
    → ((k : ℕ) → (k < first * 1024) ⊎ ((first + count) * 1024 ≤ k) → slice_index mid k ≡ slice_index old k)
    → ((k : ℕ) → (k < (first + count) * 1024) ⊎ ((first + count + total) * 1024 ≤ k) → slice_index new k ≡ slice_index mid k)
    → (k : ℕ) → (k < first * 1024) ⊎ ((first + (count + total)) * 1024 ≤ k) → slice_index new k ≡ slice_index old k
outside_both first count total old mid new one rest k (inl low) = rest k (inl (omega (arith, low))) ∙ one k (inl low)
outside_both first count total old mid new one rest k (inr high) = rest k (inr (omega (arith, high))) ∙ one k (inr (omega (arith, high)))

pub copies_told : (number first : ℕ) (es : List (Uid × List ℕ)) (old new : Told) → first + blocks_for_all es < 65536
    → (first + blocks_for_all es) * 1024 ≤ length (contents old).now → AllTold (flat_map move_calls (moved_from number first es)) old new
    → AreCopied first (moved_from number first es) (blocks_for_all es) (contents old).now (contents new).now
unfolding moved_from
copies_told number first [] old new small fits told = record {
  long = ap (λ t. length (contents t).now) told;
  outside = λ k out. ap (λ t. slice_index (contents t).now k) told;
  written = tt;
}
copies_told number first (e ∷ es) old new small fits told =
    let count : ℕ = blocks_of (length e.1) in
    let two = all_parted (chain_writes (numbers first count) e.1) (flat_map move_calls (moved_from (number + 1)
    (first + count) es)) told.0 new
    told.3 in
    let same : (contents told.0).now ≡ (contents old).now = ap (λ t. (contents t).now) told.2 in
    let one : IsCopied first count e.1 (contents old).now (contents two.0).now =
    subst (λ xs. IsCopied first count e.1 xs (contents two.0).now) same
    (chain_told first count e.1 told.0 two.0 (omega (arith, small)) (omega (arith, fits, ap (λ xs. length xs) same)) two.1) in
    let rest : AreCopied (first + count) (moved_from (number + 1) (first + count) es) (blocks_for_all es) (contents two.0).now
    (contents new).now =
    copies_told (number + 1) (first + count) es two.0 new (omega (arith, small)) (omega (arith, fits, one.long)) two.2 in
    record {
      long = rest.long ∙ one.long;
      outside = outside_both first count (blocks_for_all es) (contents old).now (contents two.0).now
          (contents new).now one.outside rest.outside;
      written = (
        written_on (contents new).now (contents two.0).now first count e.1 rest.long
            (λ k low high. rest.outside k (inl (omega (arith, high)))) one.written,
        rest.written,
      );
    }

-- 4. The heads are staged

pub record AreStaged (heads : List Head) (n : ℕ) (old now : List ℕ) : Type 0 where
  pub long : length now ≡ length old
  pub below : (k : ℕ) → k < 4063232 → slice_index now k ≡ slice_index old k
  pub same : (k : ℕ) → k < 1024 * n → slice_index now (4063232 + k) ≡ slice_index (heads_spelled 4096 heads) k

before_or_in : (k n : ℕ) → (k < 1024 * n) ⊎ (1024 * n ≤ k)
before_or_in k n = grind (arith, nat_tests)

staged_once : (heads : List Head) (old now : List ℕ) (n : ℕ) → n < 128 → length old ≡ 4194304 → length (heads_spelled 4096 heads) ≡ 131072
    → AreStaged heads n old now → AreStaged heads (suc n) old (overlay ((3968 + n) * 1024) (part_of (heads_spelled 4096 heads) n) now)
staged_once heads old now n few whole long s = record {
  long = length-overlay at part now fits ∙ s.long;
  below = λ k low. overlay_outside at k part now fits (inl (omega (arith, low))) ∙ s.below k low;
  same = λ k within. by_place k within (before_or_in k n);
}
  where
    bytes : List ℕ
    bytes = heads_spelled 4096 heads

    at : ℕ
    at = (3968 + n) * 1024

    part : List ℕ
    part = part_of bytes n

    size : length part ≡ n * 1024 + 1024 - n * 1024
    size = length-take-le (n * 1024 + 1024 - n * 1024) (drop (n * 1024) bytes) (omega (arith, few, long, length-drop (n * 1024) bytes))

    fits : at + length part ≤ length now
    fits = omega (arith, few, size, s.long, whole)

    place : (xs : List ℕ) (a b : ℕ) → a ≡ b → slice_index xs a ≡ slice_index xs b
    place xs a b is = ap (λ i. slice_index xs i) is

    by_place : (k : ℕ) → k < 1024 * suc n → (k < 1024 * n) ⊎ (1024 * n ≤ k)
        → slice_index (overlay at part now) (4063232 + k) ≡ slice_index bytes k
    by_place k within (inl early) = overlay_outside at (4063232 + k) part now fits (inl (omega (arith, early))) ∙ s.same k early
    by_place k within (inr here) =
        overlay_inside at (4063232 + k) part now fits (omega (arith, here)) (omega (arith, within, size))
        ∙ get_or-take (n * 1024 + 1024 - n * 1024) (drop (n * 1024) bytes) (4063232 + k - at) 0 (omega (arith, within, here))
        ∙ get_or-drop (n * 1024) bytes (4063232 + k - at) 0
        ∙ place bytes (n * 1024 + (4063232 + k - at)) k (omega (arith, here))

pub joined : (heads : List Head) (n : ℕ) → map (stage_call heads) (numbers 0 (suc n))
    ≡ map (stage_call heads) (numbers 0 n) ++ stage_call heads n ∷ []
joined heads n =
    ap (λ ns. map (stage_call heads) ns) (numbers_at 0 (suc n) (n + 1) (omega arith) ∙ numbers_more 0 n
    ∙ ap (λ k. numbers 0 n ++ k ∷ []) (zeroth n))
    ∙ map-append (stage_call heads) (numbers 0 n) (n ∷ [])
  where
    zeroth : (m : ℕ) → 0 + m ≡ m
    zeroth m = omega arith

pub stages_told : (heads : List Head) (n : ℕ) (old new : Told) → n ≤ 128 → length (contents old).now ≡ 4194304
    → length (heads_spelled 4096 heads) ≡ 131072 → AllTold (map (stage_call heads) (numbers 0 n)) old new
    → AreStaged heads n (contents old).now (contents new).now
unfolding numbers
stages_told heads zero old new few whole long told = record {
  long = ap (λ t. length (contents t).now) told;
  below = λ k low. ap (λ t. slice_index (contents t).now k) told;
  same = λ k within. absurd (omega (arith, within));
}
stages_told heads (suc n) old new few whole long told =
    let two = all_parted (map (stage_call heads) (numbers 0 n)) (stage_call heads n ∷ []) old new
    (subst (λ calls. AllTold calls old new) (joined heads n) told) in
    let last = two.2 in
    let now : (contents new).now ≡ overlay ((3968 + n) * 1024) (part_of (heads_spelled 4096 heads) n) (contents two.0).now =
    ap (λ t. (contents t).now) (last.3 ∙ last.2) in
    subst (λ xs. AreStaged heads (suc n) (contents old).now xs) (sym now)
    (staged_once heads (contents old).now (contents two.0).now n (omega (arith, few)) whole long
    (stages_told heads n old two.0 (omega (arith, few)) whole long two.1))
