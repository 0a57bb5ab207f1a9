-- A body whose parts stand on the blocks of a chain is what the chain keeps.
use Rattle.std.specs.Prelude.{◌≡◌, ℕ, zero, suc, ◌+◌, ◌-◌, ◌*◌, ◌≤◌, ◌<◌, true, List, [], ◌∷◌, ◌++◌, length, take, drop, flat_map}
use Rattle.std.specs.Prelude.{slice_index}
use Rattle.std.proofs.Common.{refl, sym, ap, subst, ◌∙◌, inl, inr, arith}
use Rattle.std.proofs.lemmas.Bool.{cases_lt}
use Rattle.std.proofs.lemmas.List.{take_all, length-take-le, length-drop, drop-drop, take-append-le, take-append-drop, take-take}
use Rattle.std.proofs.Math.Seq.{take-append-add}
use Rattle.block_tables.specs.Blocks.{has}
use Rattle.block_tables.specs.BlockState.{walk}
use Rattle.passive_blocks.specs.HeldState.{behind_walk}
use Rattle.passive_blocks.specs.StageState.{HasPart, part_of_body, IsWritten}
use Rattle.passive_blocks.proofs.StageHeads.{has_first, has_later}
use Rattle.passive_blocks.proofs.BlocksKept.{data_on, long_block}

-- the bytes of a part stand at the front of its block
part_front : (image next part : List ℕ) (block : ℕ) → length part ≤ 1022 → HasPart image next block part → take (length part)
    (data_on image block) ≡ part
part_front image next part block short has =
    let x : ℕ = block * 1024 + 2 in
    ap (λ n. take (length part) (take n (drop x image))) (let e : block * 1024 + 1024 - x ≡ 1022 = omega arith in e)
    ∙ take-take (length part) 1022 (drop x image) short
    ∙ ap (λ n. take n (drop x image)) (let e : length part ≡ x + length part - x = omega arith in e)
    ∙ has.1

shifted : (image next body : List ℕ) (block n : ℕ)
    → ((i : ℕ) → i < suc n → HasPart image next (behind_walk next block i) (part_of_body body i))
    → (i : ℕ) → i < n → HasPart image next (behind_walk next (slice_index next block) i) (part_of_body (drop 1022 body) i)
unfolding behind_walk
shifted image next body block n written i within =
    subst (λ part. HasPart image next (behind_walk next (slice_index next block) i) part)
    (ap (take 1022) (ap (λ k. drop k body) (let e : 1022 * suc i ≡ 1022 + 1022 * i = omega arith in e) ∙ sym
    (drop-drop (1022 * i) 1022 body)))
    (written (suc i) (omega (arith, within)))

first_part : (body : List ℕ) → take 1022 (drop (1022 * 0) body) ≡ take 1022 body
first_part body = ap (λ n. take 1022 (drop n body)) (let e : 1022 * 0 ≡ 0 = omega arith in e)

whole_part : (image next body rest : List ℕ) (block : ℕ) → length body ≤ 1022 → block * 1024 + 1024 ≤ length image
    → HasPart image next block (take 1022 body) → take (length body) (data_on image block ++ rest) ≡ body
whole_part image next body rest block short within has =
    let all : take 1022 body ≡ body = take_all 1022 body short in
    take-append-le (length body) (data_on image block) rest (omega (arith, short, long_block image block within))
    ∙ part_front image next body block short (subst (HasPart image next block) all has)

full_part : (image next body rest : List ℕ) (block : ℕ) → 1022 ≤ length body → block * 1024 + 1024 ≤ length image
    → HasPart image next block (take 1022 body) → take (length body - 1022) rest ≡ drop 1022 body
    → take (length body) (data_on image block ++ rest) ≡ body
full_part image next body rest block long within has behind =
    let size : length (take 1022 body) ≡ 1022 = length-take-le 1022 body long in
    let data_is : data_on image block ≡ take 1022 body =
    sym (take_all (length (take 1022 body)) (data_on image block) (omega (arith, size, long_block image block within)))
    ∙ part_front image next (take 1022 body) block (omega (arith, size)) has in
    ap (λ n. take n (data_on image block ++ rest))
    (let e : length body ≡ length (data_on image block) + (length body - 1022) = omega (arith, long, long_block image block within) in e)
    ∙ take-append-add (data_on image block) rest (length body - 1022)
    ∙ ap (λ xs. xs ++ take (length body - 1022) rest) data_is
    ∙ ap (λ ys. take 1022 body ++ ys) behind
    ∙ take-append-drop 1022 body

pub body_stands : (image next : List ℕ) (n block : ℕ) (body : List ℕ) → length body ≤ 1022 * n
    → ((b : ℕ) → has b (walk next block n) ≡ true → b * 1024 + 1024 ≤ length image)
    → IsWritten image next block body n → take (length body) (flat_map (data_on image) (walk next block n)) ≡ body
unfolding walk behind_walk
body_stands image next zero block [] fits within written = refl
body_stands image next zero block (x ∷ xs) fits within written = absurd (let bad : ⊥ = omega (arith, fits) in bad)
body_stands image next (suc n) block body fits within written =
    let here : HasPart image next block (take 1022 body) = subst (HasPart image next block) (first_part body) (written 0 (omega arith)) in
    let at : block * 1024 + 1024 ≤ length image = within block (has_first block (walk next (slice_index next block) n)) in
    let rest : List ℕ = flat_map (data_on image) (walk next (slice_index next block) n) in
    elim (cases_lt 1022 (length body)) [
      | inr short ↦ whole_part image next body rest block short at here
      | inl long ↦ full_part image next body rest block (omega (arith, long)) at here
          (ap (λ k. take k rest) (sym (length-drop 1022 body))
          ∙ body_stands image next n (slice_index next block) (drop 1022 body) (omega (arith, fits, length-drop 1022 body))
          (λ b there. within b (has_later block b (walk next (slice_index next block) n) there))
          (shifted image next body block n written))
    ]
