-- Parts of images that agree byte by byte.
use Rattle.std.proofs.Common.{◌≡◌, ℕ, ◌+◌, ◌-◌, ◌≤◌, ◌<◌, List, length, drop, sym, ap, ◌∙◌, arith, min}
use Rattle.std.specs.Prelude.{slice_index, slice_range, ◌==◌}
use Rattle.std.proofs.lemmas.List.{ext_get_or, length-take, length-drop, get_or-take, get_or-drop}
use Rattle.block_tables.specs.Blocks.{head_place, head_bytes}
use Rattle.passive_blocks.specs.StageState.{gate_open}
use Rattle.passive_blocks.proofs.StageHeads.{opened}

pub at_part : (xs : List ℕ) (from to k : ℕ) → k < to - from → slice_index (slice_range xs from to) k ≡ slice_index xs (from + k)
at_part xs from to k within = get_or-take (to - from) (drop from xs) k 0 within ∙ get_or-drop from xs k 0

long_part : (xs : List ℕ) (from to : ℕ) → length (slice_range xs from to) ≡ min (to - from) (length xs - from)
long_part xs from to = length-take (to - from) (drop from xs) ∙ ap (min (to - from)) (length-drop from xs)

pub same_part : (xs ys : List ℕ) (from to : ℕ) → length xs ≡ length ys
    → ((k : ℕ) → from ≤ k → k < to → slice_index xs k ≡ slice_index ys k) → slice_range xs from to ≡ slice_range ys from to
same_part xs ys from to long same =
    ext_get_or 0 (slice_range xs from to) (slice_range ys from to)
    (long_part xs from to ∙ ap (λ n. min (to - from) (n - from)) long ∙ sym (long_part ys from to))
    (λ k within.
    let inside : k < to - from = omega (arith, within, long_part xs from to) in
    at_part xs from to k inside ∙ same (from + k) (omega arith) (omega (arith, inside)) ∙ sym (at_part ys from to k inside))

pub gate_is : (image : List ℕ) (n : ℕ) → slice_index (head_bytes image n) 0 ≡ slice_index image (head_place n)
gate_is image n =
    at_part image (head_place n) (head_place n + 32) 0 (omega arith)
    ∙ ap (slice_index image) (let e : head_place n + 0 ≡ head_place n = omega arith in e)

pub opened_is : (image : List ℕ) (n : ℕ) → opened image n ≡ gate_open image n
opened_is image n = ap (λ b. b == 225) (gate_is image n)

-- images that agree on all bytes of a head have one head there
pub same_head : (xs ys : List ℕ) (n : ℕ) → length xs ≡ length ys
    → ((o : ℕ) → o < 32 → slice_index xs (head_place n + o) ≡ slice_index ys (head_place n + o)) → head_bytes xs n ≡ head_bytes ys n
same_head xs ys n long same =
    same_part xs ys (head_place n) (head_place n + 32) long
    (λ k from to.
    let at : head_place n + (k - head_place n) ≡ k = omega (arith, from) in
    sym (ap (slice_index xs) at) ∙ same (k - head_place n) (omega (arith, from, to)) ∙ ap (slice_index ys) at)
