-- From one stage of a job to the next, and to its refusal.
use Rattle.std.specs.Prelude.{◌≡◌, ℕ, suc, zero, ◌+◌, ◌*◌, ◌/◌, ◌≤◌, ◌<◌, Bool, true, false, not, ◌&&◌, ◌==◌, List}
use Rattle.std.specs.Prelude.{[], ◌∷◌, ◌++◌, min}
use Rattle.std.specs.Prelude.{length, take, drop, slice_index, Some, if◌then◌else◌}
use Rattle.std.proofs.Common.{refl, sym, ap, subst, ◌∙◌, inl, inr, arith, eq-eqb}
use Rattle.std.specs.Int.{w16, to_be_bytes}
use Rattle.std.proofs.lemmas.Bool.{false≢true, cases_lt, ne_eqb}
use Rattle.std.proofs.lemmas.Bool.Decides.{nat_tests}
use Rattle.std.proofs.lemmas.List.{length-append, length-take}
use Rattle.eden_disk.specs.Told.{Told, contents, overlay}
use Rattle.eden_disk.specs.Calls.{Counts, End, Fine, WriteTold, power_after}
use Rattle.eden_disk.specs.Held.{Passes}
use Rattle.block_tables.specs.declared.table.Table.{Table}
use Rattle.passive_blocks.specs.declared.block_store.Pending.{Pending}
use Rattle.passive_blocks.specs.declared.block_store.Stage.{Stage}
use Rattle.passive_blocks.specs.declared.block_store.Stage.TheVariants.{Close, Write as WritePart, Head as WriteHead}
use Rattle.block_tables.specs.Members.{is_member}
use Rattle.block_tables.specs.Blocks.{head_place, has, is_data, blocks_of}
use Rattle.block_tables.specs.BlockState.{walk}
use Rattle.passive_blocks.specs.HeldState.{IsHeld, IsPlanned, behind_walk, times, one_if, planned_blocks}
use Rattle.passive_blocks.specs.StoreState.{IsTableOf}
use Rattle.passive_blocks.specs.StageState.{IsEarly, IsRefusedAt, IsStageOn}
use Rattle.passive_blocks.specs.StageState.{IsWritten, IsPartNext, IsClosedBy, IsBehindClosing}
use Rattle.passive_blocks.specs.StageState.{behind_part, part_bytes, part_of_body}
use Rattle.passive_blocks.proofs.HeldFacts.{planned_times}
use Rattle.passive_blocks.proofs.StageLate.{walk_has}
use Rattle.passive_blocks.proofs.StageChains.{times_cons}
use Rattle.passive_blocks.proofs.StageOrder.{behind_more}
use Rattle.passive_blocks.proofs.StageOver.{written_more}
use Rattle.passive_blocks.proofs.StageCalls.{EarlyImages, early_after, close_passes, block_passes}
use Rattle.passive_blocks.proofs.StageCalls.{block_table, refused_own, close_refused, close_made}

-- what waits is held
abbrev Held : ℕ → Counts → Table → Pending → Type 0
Held size counts t p = IsHeld size counts t (Some p)

-- A head was closed.
pub step_closed : (node size more : ℕ) (counts : Counts) (t new_table : Table) (p : Pending) (n clock : ℕ) (old new : Told) (stage : Stage)
    → Held size counts t p → IsStageOn node more t p (contents old) true Close → is_member t.heads.closing n ≡ true
    → WriteTold clock (head_place n) (0 ∷ []) old new Fine → IsClosedBy t new_table n → IsBehindClosing new_table p.head stage
    → IsStageOn node more new_table p (contents new) true stage
step_closed node size more counts t new_table p n clock old new stage held on closing told by behind =
    let passes = close_passes node size more counts t p n clock old new Fine held on.0 closing told in
    let early = early_after node more t p old new on.0 passes in
    let made = close_made node size more counts t new_table p n clock old new held early (on.1 refl).0 closing told by.items by.blocks
    (λ k is. closed_before (k == n) (is_member t.heads.closing k) (sym (by.closing k) ∙ is)) in
    elim behind [
      | inl again ↦ subst (IsStageOn node more new_table p (contents new) true) (sym again.0) (made.0, λ power. (made.1, tt))
      | inr last ↦ subst (IsStageOn node more new_table p (contents new) true) (sym last.0) (go p.head.removal refl made)
    ]
  where
    closed_before : (a b : Bool) → (not a && b) ≡ true → b ≡ true
    closed_before true b h = absurd (false≢true h)
    closed_before false b h = h

    go : (b : Bool) → p.head.removal ≡ b → IsEarly node more new_table p (contents new) × IsTableOf node (contents new).now new_table
        → IsStageOn node more new_table p (contents new) true (if b then WriteHead else WritePart p.head.first 0)
    go true removal made = (made.0, λ power. (made.1, λ value. absurd (false≢true (sym value ∙ removal))))
    go false value made = (made.0, λ power. (made.1, λ i less. absurd (let bad : ⊥ = omega (arith, less) in bad)))

-- The closing of one was refused.
pub refuse_closing : (node size more : ℕ) (counts : Counts) (t : Table) (p : Pending) (n clock : ℕ) (old new : Told) (end : End)
    → Held size counts t p → IsStageOn node more t p (contents old) true Close → is_member t.heads.closing n ≡ true
    → WriteTold clock (head_place n) (0 ∷ []) old new end → IsRefusedAt node more t p (contents new) (power_after end) n
refuse_closing node size more counts t p n clock old new end held on closing told =
    let early = early_after node more t p old new on.0 (close_passes node size more counts t p n clock old new end held on.0 closing told)
    in
    inl (early, λ power. close_refused node size more counts t p n clock old new end held early (on.1 refl).0 closing told power)

-- the block of the next part
pub next_data : (t : Table) (p : Pending) (block from : ℕ) → IsPlanned t p → (part : IsPartNext t p block from)
    → (has block (walk t.blocks.next.items p.head.first (blocks_of p.head.size)) ≡ true) × (is_data t.blocks.size block ≡ true)
next_data t p block from plan part =
    let less : part.count < blocks_of p.head.size = subst (λ n. part.count < blocks_of n) plan.bytes part.more in
    let there : has block (walk t.blocks.next.items p.head.first (blocks_of p.head.size)) ≡ true =
    ap (λ b. has b (walk t.blocks.next.items p.head.first (blocks_of p.head.size))) part.place
    ∙ walk_has t.blocks.next.items p.head.first (blocks_of p.head.size) part.count less in
    (there, plan.chain part.value block there)

planned_value : (t : Table) (p : Pending) (b : ℕ) → p.head.removal ≡ false
    → has b (walk t.blocks.next.items p.head.first (blocks_of p.head.size)) ≡ true → has b (planned_blocks t.blocks.next.items (Some p))
    ≡ true
planned_value t p b value there =
    ap (λ r. has b (if r then [] else walk t.blocks.next.items p.head.first (blocks_of p.head.size))) value ∙ there

short_bytes : (t : Table) (p : Pending) (block from : ℕ) → length (part_bytes t p block from) ≤ 1024
short_bytes t p block from =
    omega (
      arith,
      length-append (to_be_bytes w16 (slice_index t.blocks.next.items block)) (take 1022 (drop from p.body.items)),
      length-take 1022 (drop from p.body.items),
      two_bytes (slice_index t.blocks.next.items block),
    )
  where
    two_bytes : (n : ℕ) → length (to_be_bytes w16 n) ≡ 2
    two_bytes n = refl

pub part_passes : (node size more : ℕ) (counts : Counts) (t : Table) (p : Pending) (block from clock : ℕ) (old new : Told) (end : End)
    → Held size counts t p → (e : IsEarly node more t p (contents old)) → IsPartNext t p block from
    → WriteTold clock (block * 1024) (part_bytes t p block from) old new end → Passes (EarlyImages node more t p (contents old) e) old new
part_passes node size more counts t p block from clock old new end held e part told =
    let at = next_data t p block from held.planned part in
    block_passes node size more counts t p block clock (part_bytes t p block from) old new end held e
    (planned_value t p block part.value at.0) at.1 (short_bytes t p block from) told

-- The write of a part was refused.
pub refuse_part : (node size more : ℕ) (counts : Counts) (t : Table) (p : Pending) (block from clock : ℕ) (old new : Told) (end : End)
    → Held size counts t p → IsStageOn node more t p (contents old) true (WritePart block from) → IsPartNext t p block from
    → WriteTold clock (block * 1024) (part_bytes t p block from) old new end
    → IsRefusedAt node more t p (contents new) (power_after end) p.head.number
refuse_part node size more counts t p block from clock old new end held on part told =
    let early = early_after node more t p old new on.0 (part_passes node size more counts t p block from clock old new end held on.0 part
    told) in
    let at = next_data t p block from held.planned part in
    inl (
      early,
      λ power. refused_own node size counts t p (contents new).now held
          (block_table node size more counts t p block clock (part_bytes t p block from) old new end held early (on.1 refl).0 at.1
          (short_bytes t p block from) told power),
    )

once_planned : (size : ℕ) (counts : Counts) (t : Table) (p : Pending) (k : ℕ) → Held size counts t p → p.head.removal ≡ false
    → times k (walk t.blocks.next.items p.head.first (blocks_of p.head.size)) ≤ 1
once_planned size counts t p k held value =
    omega (
      arith,
      held.places k,
      planned_times t.blocks.next.items k p.head,
      ap (λ r. if r then 0 else times k (walk t.blocks.next.items p.head.first (blocks_of p.head.size))) value,
      at_most (is_data size k),
    )
  where
    at_most : (b : Bool) → one_if b ≤ 1
    at_most true = omega arith
    at_most false = omega arith

-- the first blocks of a walk stand on it no more often
fewer_times : (next : List ℕ) (block m n k : ℕ) → m ≤ n → times k (walk next block m) ≤ times k (walk next block n)
unfolding walk
fewer_times next block zero n k less = omega arith
fewer_times next block (suc m) zero k less = absurd (let bad : ⊥ = omega (arith, less) in bad)
fewer_times next block (suc m) (suc n) k less =
    omega (
      arith,
      fewer_times next (slice_index next block) m n k (omega (arith, less)),
      times_cons k block (walk next (slice_index next block) m),
      times_cons k block (walk next (slice_index next block) n),
    )

part_is : (p : Pending) (from count : ℕ) → from ≡ 1022 * count → take 1022 (drop from p.body.items) ≡ part_of_body p.body.items count
part_is p from count is = ap (λ n. take 1022 (drop n p.body.items)) is

-- A part was written.
pub step_written : (node size more : ℕ) (counts : Counts) (t : Table) (p : Pending) (block from clock : ℕ) (old new : Told)
    → Held size counts t p → IsStageOn node more t p (contents old) true (WritePart block from) → IsPartNext t p block from
    → WriteTold clock (block * 1024) (part_bytes t p block from) old new Fine
    → IsStageOn node more t p (contents new) true (behind_part t.blocks.next.items p.body.items block from)
step_written node size more counts t p block from clock old new held on part told =
    let next : List ℕ = t.blocks.next.items in
    let body : List ℕ = p.body.items in
    let plan : IsPlanned t p = held.planned in
    let early = early_after node more t p old new on.0 (part_passes node size more counts t p block from clock old new Fine held on.0 part
    told) in
    let at = next_data t p block from plan part in
    let table = block_table node size more counts t p block clock (part_bytes t p block from) old new Fine held early (on.1 refl).0 at.1
    (short_bytes t p block from) told refl in
    let less : part.count < blocks_of p.head.size = subst (λ n. part.count < blocks_of n) plan.bytes part.more in
    let inside : block < t.blocks.size / 1024 = grind (arith, nat_tests, at.1) in
    let before : IsWritten (contents old).now next p.head.first body part.count =
    subst (IsWritten (contents old).now next p.head.first body) (let e : from / 1022 ≡ part.count = omega (arith, part.before) in e)
    (on.1 refl).1 in
    let over : (contents new).now ≡ overlay (behind_walk next p.head.first part.count * 1024)
    (to_be_bytes w16 (slice_index next (behind_walk next p.head.first part.count)) ++ part_of_body body part.count) (contents old).now =
    ap (λ t. (contents t).now) told
    ∙ ap (λ b. overlay (b * 1024) (to_be_bytes w16 (slice_index next b) ++ take 1022 (drop from body)) (contents old).now) part.place
    ∙ ap (λ xs. overlay (behind_walk next p.head.first part.count * 1024)
    (to_be_bytes w16 (slice_index next (behind_walk next p.head.first part.count)) ++ xs) (contents old).now)
    (part_is p from part.count part.before) in
    let written : IsWritten (contents new).now next p.head.first body (part.count + 1) =
    subst (λ now. IsWritten now next p.head.first body (part.count + 1)) (sym over)
    (written_more (contents old).now next body p.head.first part.count
    (λ k. omega (
      arith,
      fewer_times next p.head.first (part.count + 1) (blocks_of p.head.size) k (omega (arith, less)),
      once_planned size counts t p k held part.value,
    ))
    (omega (arith, (on.1 refl).0.long, inside, part.place)) (held.table.blocks.short (behind_walk next p.head.first part.count)) before) in
    (elim (cases_lt (part.count + 1) (blocks_of (length body))) [
      | inl further ↦ subst (IsStageOn node more t p (contents new) true)
          (sym (ap (λ c. if c then WriteHead else WritePart (slice_index next block) (min (from + 1022) (length body)))
          (ne_eqb (slice_index next block) 0 (λ none. absurd (let bad : ⊥ = omega (arith, none, some_next further) in bad))))) (
            early,
            λ power. (
              table,
              subst (IsWritten (contents new).now next p.head.first body)
                  (let e : part.count + 1 ≡ min (from + 1022) (length body) / 1022 = omega (arith, part.before, further) in e) written,
            ),
          )
      | inr last ↦ subst (IsStageOn node more t p (contents new) true)
          (sym (ap (λ c. if c then WriteHead else WritePart (slice_index next block) (min (from + 1022) (length body)))
          (eq-eqb (slice_index next block) 0 (no_next (let e : part.count + 1 ≡ blocks_of (length body) = omega (arith, last, part.more) in
          e))))) (
            early,
            λ power. (
              table,
              λ value. subst (IsWritten (contents new).now next p.head.first body)
                  (let e : part.count + 1 ≡ blocks_of (length body) = omega (arith, last, part.more) in e) written,
            ),
          )
    ])
  where
    link : slice_index t.blocks.next.items block ≡ behind_walk t.blocks.next.items p.head.first (part.count + 1)
    link = ap (slice_index t.blocks.next.items) part.place ∙ sym (behind_more t.blocks.next.items p.head.first part.count)

    some_next : part.count + 1 < blocks_of (length p.body.items) → 1 ≤ slice_index t.blocks.next.items block
    some_next further =
        let there : has (slice_index t.blocks.next.items block) (walk t.blocks.next.items p.head.first (blocks_of p.head.size)) ≡ true =
        ap (λ i. has i (walk t.blocks.next.items p.head.first (blocks_of p.head.size))) link
        ∙ walk_has t.blocks.next.items p.head.first (blocks_of p.head.size) (part.count + 1)
        (subst (λ n. part.count + 1 < blocks_of n) held.planned.bytes further) in
        let data_block : is_data t.blocks.size (slice_index t.blocks.next.items block) ≡ true =
        held.planned.chain part.value (slice_index t.blocks.next.items block) there in
        grind (arith, nat_tests, data_block)

    no_next : part.count + 1 ≡ blocks_of (length p.body.items) → slice_index t.blocks.next.items block ≡ 0
    no_next all = link ∙ ap (behind_walk t.blocks.next.items p.head.first) (all ∙ ap blocks_of held.planned.bytes)
        ∙ held.planned.ends part.value
