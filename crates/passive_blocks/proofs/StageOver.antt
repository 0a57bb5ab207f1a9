-- Images over which a call of a job has written.
use Rattle.std.specs.Prelude.{◌≡◌, ◌⊎◌, ℕ, suc, zero, ◌+◌, ◌-◌, ◌*◌, ◌≤◌, ◌<◌, true, List, ◌++◌}
use Rattle.std.specs.Prelude.{length, take, drop, slice_index, slice_range}
use Rattle.std.proofs.Common.{refl, sym, ap, subst, ◌∙◌, inl, inr, arith, get_or, eq-eqb}
use Rattle.std.specs.Int.{w16, from_be_bytes, to_be_bytes}
use Rattle.std.proofs.lemmas.Bool.{false≢true, cases_eq, cases_lt}
use Rattle.std.proofs.lemmas.Nat.{from_be_bytes-to_be_bytes_2}
use Rattle.std.proofs.lemmas.List.{ext_get_or, length-take, length-drop, length-append, take_all}
use Rattle.std.proofs.Math.Seq.{take-append_seam, drop-append_seam}
use Rattle.eden_disk.specs.Told.{Told, contents, overlay}
use Rattle.eden_disk.specs.Calls.{End, Fine, AtFault, AtStop, WriteTold, power_after}
use Rattle.eden_disk.proofs.Overlay.{length-overlay, overlay_outside, overlay_inside}
use Rattle.block_tables.specs.Blocks.{has}
use Rattle.block_tables.specs.BlockState.{walk}
use Rattle.passive_blocks.specs.HeldState.{behind_walk, times, one_if}
use Rattle.passive_blocks.specs.StageState.{HasPart, IsWritten, part_of_body}
use Rattle.passive_blocks.proofs.Agreeing.{SameBlock}
use Rattle.passive_blocks.proofs.Spans.{at_part, same_part}
use Rattle.passive_blocks.proofs.StageChains.{times_cons, has_times}
use Rattle.passive_blocks.proofs.StageLate.{walk_has, part_else, short_part}

-- what a write leaves to be seen, where the disk keeps its power: what was there, or some bytes over it
pub seen_after : (clock at : ℕ) (bytes : List ℕ) (old new : Told) (end : End) → WriteTold clock at bytes old new end → power_after end
    ≡ true
    → ((contents new).now ≡ (contents old).now)
    ⊎ ((left : List ℕ) × (length left ≡ length bytes) × ((contents new).now ≡ overlay at left (contents old).now))
seen_after clock at bytes old new Fine told power = inr (bytes, refl, ap (λ t. (contents t).now) told)
seen_after clock at bytes old new AtFault (inl same) power = inl (ap (λ t. (contents t).now) same)
seen_after clock at bytes old new AtFault (inr some) power = inr (some.0, some.1, ap (λ t. (contents t).now) some.2)
seen_after clock at bytes old new AtStop told power = absurd (false≢true power)

-- outside of the range nothing differs
pub seen_else : (clock at : ℕ) (bytes : List ℕ) (old new : Told) (end : End) → WriteTold clock at bytes old new end → power_after end ≡ true
    → at + length bytes ≤ length (contents old).now
    → (length (contents new).now ≡ length (contents old).now)
    × ((k : ℕ) → (k < at) ⊎ (at + length bytes ≤ k) → slice_index (contents new).now k ≡ slice_index (contents old).now k)
seen_else clock at bytes old new end told power fits = elim (seen_after clock at bytes old new end told power) [
  | inl same ↦ (ap length same, λ k outside. ap (λ xs. slice_index xs k) same)
  | inr some ↦ (
    ap length some.2 ∙ length-overlay at some.0 (contents old).now (omega (arith, fits, some.1)),
    λ k outside. ap (λ xs. slice_index xs k) some.2
        ∙ overlay_outside at k some.0 (contents old).now (omega (arith, fits, some.1))
        (subst (λ n. (k < at) ⊎ (at + n ≤ k)) (sym some.1) outside),
  )
]

-- a part of what was written
pub over_part : (at d m : ℕ) (bytes old : List ℕ) → at + length bytes ≤ length old → d + m ≤ length bytes
    → slice_range (overlay at bytes old) (at + d) (at + d + m) ≡ slice_range bytes d (d + m)
over_part at d m bytes old fits within =
    let new : List ℕ = overlay at bytes old in
    let long_new : length new ≡ length old = length-overlay at bytes old fits in
    let many : length (slice_range new (at + d) (at + d + m)) ≡ m = omega (
      arith,
      length-take (at + d + m - (at + d)) (drop (at + d) new),
      length-drop (at + d) new,
      long_new,
      fits,
      within,
    ) in
    let there : length (slice_range bytes d (d + m)) ≡ m = omega (
      arith,
      length-take (d + m - d) (drop d bytes),
      length-drop d bytes,
      within,
    ) in
    ext_get_or 0 (slice_range new (at + d) (at + d + m)) (slice_range bytes d (d + m)) (many ∙ sym there) (λ k small.
    at_part new (at + d) (at + d + m) k (omega (arith, small, many))
    ∙ overlay_inside at (at + d + k) bytes old fits (omega arith) (omega (arith, within, small, many))
    ∙ ap (λ i. get_or bytes i 0) (let e : at + d + k - at ≡ d + k = omega arith in e)
    ∙ sym (at_part bytes d (d + m) k (omega (arith, small, many))))

first_part : (xs ys : List ℕ) → slice_range (xs ++ ys) 0 (0 + length xs) ≡ xs
first_part xs ys =
    ap (λ n. take n (xs ++ ys)) (let e : 0 + length xs - 0 ≡ length xs = omega arith in e) ∙ take-append_seam xs ys

second_part : (xs ys : List ℕ) → slice_range (xs ++ ys) (length xs) (length xs + length ys) ≡ ys
second_part xs ys =
    ap (take (length xs + length ys - length xs)) (drop-append_seam xs ys)
    ∙ take_all (length xs + length ys - length xs) ys (omega arith)

two_bytes : (n : ℕ) → length (to_be_bytes w16 n) ≡ 2
two_bytes n = refl

-- A block that was written has its part.
pub has_written : (image next part : List ℕ) (c : ℕ) → c * 1024 + 1024 ≤ length image → length part ≤ 1022 → slice_index next c < 65536
    → HasPart (overlay (c * 1024) (to_be_bytes w16 (slice_index next c) ++ part) image) next c part
has_written image next part c within short small =
    let b : List ℕ = to_be_bytes w16 (slice_index next c) in
    let long : length (b ++ part) ≡ 2 + length part = length-append b part ∙ ap (λ n. n + length part) (two_bytes (slice_index next c)) in
    let new : List ℕ = overlay (c * 1024) (b ++ part) image in (
      ap (from_be_bytes w16)
          (ap (λ k. slice_range new k (k + 2)) (let e : c * 1024 ≡ c * 1024 + 0 = omega arith in e)
          ∙ over_part (c * 1024) 0 2 (b ++ part) image (omega (arith, long, within, short)) (omega (arith, long))
          ∙ first_part b part)
          ∙ from_be_bytes-to_be_bytes_2 (slice_index next c) small,
      over_part (c * 1024) 2 (length part) (b ++ part) image (omega (arith, long, within, short)) (omega (arith, long))
          ∙ second_part b part,
    )

-- no block stands twice on a walk
pub walk_apart : (next : List ℕ) (block n i j : ℕ) → ((k : ℕ) → times k (walk next block n) ≤ 1) → i < j → j < n
    → behind_walk next block i ≡ behind_walk next block j → ⊥
unfolding walk behind_walk
walk_apart next block zero i j once less within same = omega (arith, within)
walk_apart next block (suc n) i zero once less within same = omega (arith, less)
walk_apart next block (suc n) zero (suc j) once less within same =
    let there : has block (walk next (slice_index next block) n) ≡ true =
    ap (λ b. has b (walk next (slice_index next block) n)) same ∙ walk_has next (slice_index next block) n j (omega (arith, within)) in
    omega (
      arith,
      has_times block (walk next (slice_index next block) n) there,
      times_cons block block (walk next (slice_index next block) n),
      ap one_if (eq-eqb block block refl),
      once block,
    )
walk_apart next block (suc n) (suc i) (suc j) once less within same =
    walk_apart next (slice_index next block) n i j
    (λ k. omega (arith, once k, times_cons k block (walk next (slice_index next block) n))) (omega (arith, less)) (omega (arith, within))
    same

-- the blocks of a change that were written before are as they were
pub other_block : (old new : List ℕ) (c len b : ℕ) → length new ≡ length old
    → ((k : ℕ) → (k < c * 1024) ⊎ (c * 1024 + len ≤ k) → slice_index new k ≡ slice_index old k) → len ≤ 1024 → (b ≡ c → ⊥) → SameBlock old
    new b
other_block old new c len b long same short other = (
  ap (from_be_bytes w16) (same_part old new (b * 1024) (b * 1024 + 2) (sym long)
      (λ k from to. sym (same k (beside k from (omega (arith, to)))))),
  same_part old new (b * 1024 + 2) (b * 1024 + 1024) (sym long) (λ k from to. sym (same k (beside k (omega (arith, from)) to))),
)
  where
    beside : (k : ℕ) → b * 1024 ≤ k → k < b * 1024 + 1024 → (k < c * 1024) ⊎ (c * 1024 + len ≤ k)
    beside k from to = elim (cases_lt b c) [
      | inl less ↦ inl (omega (arith, less, to))
      | inr more ↦ inr (let above : c < b = apart_more more in omega (arith, above, from, short))
    ]
      where
        apart_more : c ≤ b → c < b
        apart_more more = elim (cases_eq b c) [ inl same ↦ absurd (other same) | inr differ ↦ omega (arith, more, differ) ]

-- One more part is written.
pub written_more : (old next body : List ℕ) (first count : ℕ) → ((k : ℕ) → times k (walk next first (count + 1)) ≤ 1)
    → behind_walk next first count * 1024 + 1024 ≤ length old → slice_index next (behind_walk next first count) < 65536
    → IsWritten old next first body count
    → IsWritten (overlay (behind_walk next first count * 1024)
    (to_be_bytes w16 (slice_index next (behind_walk next first count)) ++ part_of_body body count) old) next first body (count + 1)
written_more old next body first count once within small written i less = elim (cases_eq i count) [
  | inl same ↦ subst (λ n. HasPart new next (behind_walk next first n) (part_of_body body n)) (sym same)
      (has_written old next (part_of_body body count) c within (short_part body count) small)
  | inr other ↦
      let before : i < count = omega (arith, less, other) in
      part_else old new next (part_of_body body i) (behind_walk next first i)
      (other_block old new c (length bytes) (behind_walk next first i) (length-overlay (c * 1024) bytes old fits)
      (λ k outside. overlay_outside (c * 1024) k bytes old fits outside) (omega (arith, long, short_part body count))
      (λ e. walk_apart next first (count + 1) i count once before (omega arith) e))
      (short_part body i) (written i before)
]
  where
    c : ℕ
    c = behind_walk next first count

    bytes : List ℕ
    bytes = to_be_bytes w16 (slice_index next (behind_walk next first count)) ++ part_of_body body count

    new : List ℕ
    new = overlay (behind_walk next first count * 1024)
        (to_be_bytes w16 (slice_index next (behind_walk next first count)) ++ part_of_body body count) old

    long : length (to_be_bytes w16 (slice_index next (behind_walk next first count)) ++ part_of_body body count) ≡ 2 + length
        (part_of_body body count)
    long = length-append (to_be_bytes w16 (slice_index next (behind_walk next first count))) (part_of_body body count)
        ∙ ap (λ n. n + length (part_of_body body count)) (two_bytes (slice_index next (behind_walk next first count)))

    fits : behind_walk next first count * 1024
        + length (to_be_bytes w16 (slice_index next (behind_walk next first count)) ++ part_of_body body count) ≤ length old
    fits = omega (arith, long, within, short_part body count)
