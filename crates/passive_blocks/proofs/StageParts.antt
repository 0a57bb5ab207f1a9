-- The write of a part as the code makes it.
use Rattle.std.specs.Prelude.{◌≡◌, ℕ, ◌+◌, ◌-◌, ◌*◌, ◌/◌, ◌≤◌, ◌<◌, true, List, length, take, drop, min, Some}
use Rattle.std.proofs.Common.{ap, ◌∙◌, arith}
use Rattle.std.proofs.lemmas.Bool.Decides.{nat_tests}
use Rattle.std.proofs.lemmas.List.{take_min, length-drop, length-take}
use Rattle.eden_disk.specs.Calls.{Counts}
use Rattle.block_tables.specs.declared.table.Table.{Table}
use Rattle.passive_blocks.specs.declared.block_store.Pending.{Pending}
use Rattle.block_tables.specs.Blocks.{is_block_size, is_data}
use Rattle.passive_blocks.specs.HeldState.{IsHeld}
use Rattle.passive_blocks.specs.StageState.{IsPartNext}
use Rattle.passive_blocks.proofs.StageSteps.{next_data}

-- the block of the next part is on the disk
pub part_on_disk : (size : ℕ) (counts : Counts) (t : Table) (p : Pending) (block from : ℕ) → IsHeld size counts t (Some p)
    → IsPartNext t p block from → (block < t.blocks.size / 1024) × (block * 1024 + 1024 ≤ size) × (block < 65536)
part_on_disk size counts t p block from held part =
    let at = next_data t p block from held.planned part in
    let data_block : is_data t.blocks.size block ≡ true = at.1 in
    let sized : is_block_size t.blocks.size ≡ true = held.table.blocks.sized in
    let below : block < t.blocks.size / 1024 = grind (arith, nat_tests, data_block) in
    let small : t.blocks.size ≤ 67108864 = grind (arith, nat_tests, sized) in
    (below, omega (arith, below, held.same), omega (arith, below, small))

pub part_from : (t : Table) (p : Pending) (block from : ℕ) → IsPartNext t p block from → from ≤ length p.body.items
part_from t p block from part = omega (arith, part.before, part.more)

-- the bytes that the code takes of the body
pub part_taken : (body : List ℕ) (from to : ℕ) → to ≡ min (from + 1022) (length body) → from ≤ length body
    → take (to - from) (drop from body) ≡ take 1022 (drop from body)
part_taken body from to is within =
    ap (λ n. take n (drop from body)) (let e : to - from ≡ min 1022 (length (drop from body)) = omega
    (arith, is, within, length-drop from body) in e)
    ∙ take_min 1022 (drop from body)

pub part_short : (body : List ℕ) (from to : ℕ) → to ≡ min (from + 1022) (length body) → length (take (to - from) (drop from body)) ≤ 1022
part_short body from to is = omega (arith, is, length-take (to - from) (drop from body))
