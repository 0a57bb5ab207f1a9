-- The device calls that a job has left, and how each call shortens them.
use Rattle.std.specs.Prelude.{◌≡◌, ℕ, suc, zero, ◌+◌, ◌-◌, ◌*◌, ◌≤◌, ◌<◌, Bool, true, false, List, [], ◌∷◌}
use Rattle.std.specs.Prelude.{◌++◌, min}
use Rattle.std.specs.Prelude.{length, map, take, drop, slice_index, Some, if◌then◌else◌}
use Rattle.std.proofs.Common.{refl, sym, ap, subst, ◌∙◌, inl, inr, arith, eq-eqb}
use Rattle.std.specs.Int.{w16, to_be_bytes}
use Rattle.std.proofs.lemmas.Bool.{ne_eqb, cases_lt}
use Rattle.std.proofs.lemmas.Bool.Decides.{nat_tests}
use Rattle.std.proofs.lemmas.List.{length-drop, drop-drop}
use Rattle.passive_store.specs.Acts.{Write}
use Rattle.block_tables.specs.declared.table.Table.{Table}
use Rattle.passive_blocks.specs.declared.block_store.Pending.{Pending}
use Rattle.passive_blocks.specs.declared.block_store.Stage.TheVariants.{Close, Write as WritePart, Head as WriteHead}
use Rattle.block_tables.specs.Members.{is_member, IsFirstOf}
use Rattle.block_tables.specs.Blocks.{head_place, blocks_of, is_data, has}
use Rattle.block_tables.specs.Changes.{chain_writes, first_or_zero}
use Rattle.block_tables.specs.BlockState.{walk}
use Rattle.passive_blocks.specs.HeldState.{behind_walk, IsPlanned}
use Rattle.passive_blocks.specs.StoreState.{members_of, last_calls, calls_from, calls_behind, calls_at}
use Rattle.passive_blocks.specs.StageState.{IsPartNext, NoneCloses, IsClosedBy, behind_closing, behind_part, part_bytes}
use Rattle.block_tables.proofs.Taking.{first_of, none_passes}
use Rattle.passive_blocks.proofs.StageLate.{walk_has}

-- the first member, and the others
pub members_first : (t new : Table) (n : ℕ) → IsFirstOf t.heads.closing (Some n) → IsClosedBy t new n
    → members_of t.heads.closing ≡ n ∷ members_of new.heads.closing
members_first t new n first closed =
    first_of t.heads.closing new.heads.closing n first.0 first.1 first.2 closed.long closed.closing

pub no_members : (t : Table) → NoneCloses t → members_of t.heads.closing ≡ []
no_members t none = none_passes (is_member t.heads.closing) 0 (length t.heads.closing) none

-- The calls at the first stage begin with the closing of the first head,
pub close_first : (t new : Table) (p : Pending) (n : ℕ) → IsFirstOf t.heads.closing (Some n) → IsClosedBy t new n
    → calls_at t p Close ≡ Write (head_place n) (0 ∷ []) ∷ calls_at new p Close
close_first t new p n first closed =
    ap (λ ns. map (λ number. Write (head_place number) (0 ∷ [])) ns ++ calls_behind t.blocks p) (members_first t new n first closed)
    ∙ ap (λ b. Write (head_place n) (0 ∷ []) ∷ (map (λ number. Write (head_place number) (0 ∷ [])) (members_of new.heads.closing)
    ++ calls_behind b p))
    (sym closed.blocks)

-- and behind the last one they are those behind all.
pub closed_all : (t : Table) (p : Pending) → NoneCloses t → calls_at t p Close ≡ calls_at t p (behind_closing p.head)
closed_all t p none =
    ap (λ ns. map (λ number. Write (head_place number) (0 ∷ [])) ns ++ calls_behind t.blocks p) (no_members t none)
    ∙ go p.head.removal
  where
    go : (b : Bool) → (if b then last_calls p.head else calls_from t.blocks p.head p.head.first p.body.items)
        ≡ calls_at t p (if b then WriteHead else WritePart p.head.first 0)
    go true = refl
    go false = refl

-- a walk goes on from one of its blocks
pub behind_more : (next : List ℕ) (block i : ℕ) → behind_walk next block (i + 1) ≡ slice_index next (behind_walk next block i)
unfolding behind_walk
behind_more next block zero = ap (λ n. behind_walk next block n) (let e : 0 + 1 ≡ 1 = omega arith in e)
behind_more next block (suc i) =
    ap (λ n. behind_walk next block n) (let e : suc i + 1 ≡ suc (i + 1) = omega arith in e) ∙ behind_more next (slice_index next block) i

-- how many parts are left
left_parts : (len count : ℕ) → count < blocks_of len → blocks_of (len - 1022 * count) ≡ blocks_of len - count
left_parts len count more = omega (arith, more)

chain_first : (next : List ℕ) (block r : ℕ) (rest : List ℕ)
    → chain_writes (walk next block (suc r)) rest
    ≡ Write (block * 1024) (to_be_bytes w16 (first_or_zero (walk next (slice_index next block) r)) ++ take 1022 rest)
    ∷ chain_writes (walk next (slice_index next block) r) (drop 1022 rest)
unfolding walk chain_writes
chain_first next block r rest = refl

first_next : (next : List ℕ) (block r : ℕ) → (r ≡ 0 → block ≡ 0) → first_or_zero (walk next block r) ≡ block
unfolding walk
first_next next block zero ends = sym (ends refl)
first_next next block (suc r) ends = refl

no_chain : (next : List ℕ) (block : ℕ) (rest : List ℕ) → chain_writes (walk next block 0) rest ≡ []
unfolding walk chain_writes
no_chain next block rest = refl

-- The calls from the write of a block on begin with it.
pub part_first : (t : Table) (p : Pending) (block from : ℕ) → IsPlanned t p → IsPartNext t p block from
    → calls_at t p (WritePart block from)
    ≡ Write (block * 1024) (part_bytes t p block from) ∷ calls_at t p (behind_part t.blocks.next.items p.body.items block from)
part_first t p block from plan part =
    let next : List ℕ = t.blocks.next.items in
    let body : List ℕ = p.body.items in
    let len : ℕ = length body in
    let count : ℕ = part.count in
    let rest : List ℕ = drop from body in
    let left : blocks_of (length rest) ≡ suc (blocks_of len - count - 1) =
    ap blocks_of (length-drop from body ∙ ap (λ k. len - k) part.before) ∙ left_parts len count part.more ∙ omega (arith, part.more) in
    let sized : blocks_of p.head.size ≡ blocks_of len = ap blocks_of (sym plan.bytes) in
    let end : behind_walk next p.head.first (blocks_of len) ≡ 0 =
    ap (behind_walk next p.head.first) (sym sized) ∙ plan.ends part.value in
    let link : slice_index next block ≡ behind_walk next p.head.first (count + 1) =
    ap (slice_index next) part.place ∙ sym (behind_more next p.head.first count) in
    let follow : first_or_zero (walk next (slice_index next block) (blocks_of len - count - 1)) ≡ slice_index next block =
    first_next next (slice_index next block) (blocks_of len - count - 1) (λ none.
    link ∙ ap (behind_walk next p.head.first) (let e : count + 1 ≡ blocks_of len = omega (arith, none, part.more) in e) ∙ end) in
    ap (λ m. chain_writes (walk next block m) rest ++ last_calls p.head) left
    ∙ ap (λ cs. cs ++ last_calls p.head) (chain_first next block (blocks_of len - count - 1) rest)
    ∙ ap (λ f. Write (block * 1024) (to_be_bytes w16 f ++ take 1022 rest)
    ∷ (chain_writes (walk next (slice_index next block) (blocks_of len - count - 1)) (drop 1022 rest) ++ last_calls p.head)) follow
    ∙ ap (λ cs. Write (block * 1024) (to_be_bytes w16 (slice_index next block) ++ take 1022 rest) ∷ cs)
    (elim (cases_lt (count + 1) (blocks_of len)) [
      | inl more ↦ going t p block from plan part more link
      | inr last ↦ ended t p block from plan part
          (let e : count + 1 ≡ blocks_of len = omega (arith, last, part.more) in e)
          (link ∙ ap (behind_walk next p.head.first) (let e : count + 1 ≡ blocks_of len = omega (arith, last, part.more) in e) ∙ end)
    ])
  where
    ended : (t : Table) (p : Pending) (block from : ℕ) → IsPlanned t p → (part : IsPartNext t p block from)
        → part.count + 1 ≡ blocks_of (length p.body.items) → slice_index t.blocks.next.items block ≡ 0
        → chain_writes (walk t.blocks.next.items (slice_index t.blocks.next.items block) (blocks_of (length p.body.items) - part.count - 1))
        (drop 1022 (drop from p.body.items)) ++ last_calls p.head
        ≡ calls_at t p (behind_part t.blocks.next.items p.body.items block from)
    ended t p block from plan part all none =
        let next : List ℕ = t.blocks.next.items in
        let b : ℕ = slice_index next block in
        ap (λ m. chain_writes (walk next b m) (drop 1022 (drop from p.body.items)) ++ last_calls p.head)
        (let e : blocks_of (length p.body.items) - part.count - 1 ≡ 0 = omega (arith, all) in e)
        ∙ ap (λ cs. cs ++ last_calls p.head) (no_chain next b (drop 1022 (drop from p.body.items)))
        ∙ sym (ap (λ c. calls_at t p (if c then WriteHead else WritePart b (min (from + 1022) (length p.body.items)))) (eq-eqb b 0 none))

    going : (t : Table) (p : Pending) (block from : ℕ) → IsPlanned t p → (part : IsPartNext t p block from)
        → part.count + 1 < blocks_of (length p.body.items)
        → slice_index t.blocks.next.items block ≡ behind_walk t.blocks.next.items p.head.first (part.count + 1)
        → chain_writes (walk t.blocks.next.items (slice_index t.blocks.next.items block) (blocks_of (length p.body.items) - part.count - 1))
        (drop 1022 (drop from p.body.items)) ++ last_calls p.head
        ≡ calls_at t p (behind_part t.blocks.next.items p.body.items block from)
    going t p block from plan part more link =
        let next : List ℕ = t.blocks.next.items in
        let body : List ℕ = p.body.items in
        let b : ℕ = slice_index next block in
        let there : has b (walk next p.head.first (blocks_of p.head.size)) ≡ true =
        ap (λ i. has i (walk next p.head.first (blocks_of p.head.size))) link
        ∙ walk_has next p.head.first (blocks_of p.head.size) (part.count + 1)
        (subst (λ n. part.count + 1 < blocks_of n) plan.bytes more) in
        let data_block : is_data t.blocks.size b ≡ true = plan.chain part.value b there in
        let some : 1 ≤ b = grind (arith, nat_tests, data_block) in
        let to : min (from + 1022) (length body) ≡ 1022 * (part.count + 1) = omega (arith, part.before, more) in
        sym (ap (λ c. calls_at t p (if c then WriteHead else WritePart b (min (from + 1022) (length body))))
        (ne_eqb b 0 (λ e. absurd (let bad : ⊥ = omega (arith, e, some) in bad)))
        ∙ ap (λ k. chain_writes (walk next b (blocks_of (length (drop k body)))) (drop k body) ++ last_calls p.head) to
        ∙ ap (λ m. chain_writes (walk next b m) (drop (1022 * (part.count + 1)) body) ++ last_calls p.head)
        (ap blocks_of (length-drop (1022 * (part.count + 1)) body) ∙ left_parts (length body) (part.count + 1) more
        ∙ (let e : blocks_of (length body) - (part.count + 1) ≡ blocks_of (length body) - part.count - 1 = omega (arith, more) in e))
        ∙ ap (λ xs. chain_writes (walk next b (blocks_of (length body) - part.count - 1)) xs ++ last_calls p.head)
        (ap (λ k. drop k body) (let e : 1022 * (part.count + 1) ≡ from + 1022 = omega (arith, part.before) in e)
        ∙ sym (drop-drop 1022 from body)))
