-- What is known of blocks where a store's memory is held.
use Rattle.std.proofs.Common.{◌≡◌, ℕ, suc, zero, ◌+◌, ◌≤◌, ◌/◌, Bool, true, false, List, [], ◌∷◌}
use Rattle.std.proofs.Common.{length, map, refl, ap, ◌∙◌, arith, Option, None, Some}
use Rattle.std.specs.Prelude.{if◌then◌else◌, filter, sum_by, IfSome, slice_index}
use Rattle.std.proofs.lemmas.Bool.{false_from_ne_true}
use Rattle.capability.specs.declared.Uid.{Uid}
use Rattle.eden_disk.specs.Calls.{Counts}
use Rattle.block_tables.specs.declared.heads.HeadFields.{HeadFields}
use Rattle.block_tables.specs.declared.table.Table.{Table}
use Rattle.block_tables.specs.declared.block_table.BlockTable.{BlockTable}
use Rattle.passive_blocks.specs.declared.block_store.Pending.{Pending}
use Rattle.block_tables.specs.Members.{is_member}
use Rattle.block_tables.specs.Blocks.{Head, blocks_of, data_count, is_data, keeping, numbers, has}
use Rattle.block_tables.specs.HeadState.{heads_in, slot_at, entry_at, IsLatest}
use Rattle.block_tables.specs.BlockState.{walk, free_in}
use Rattle.block_tables.specs.TableState.{IsTable, IsKeptOn, keeper, blocks_under, blocks_kept}
use Rattle.passive_blocks.specs.HeldState.{IsHeld, AreApart, times, one_if, chain_by, times_kept, planned_blocks, behind_walk}
use Rattle.passive_blocks.specs.HeldState.{blocks_planned}
use Rattle.passive_blocks.proofs.HeldSums.{weight_of}
use Rattle.passive_blocks.proofs.HeldKeepers.{kept_within}
use Rattle.passive_blocks.proofs.HeldCounts.{some_times, sum_same, sum_two, sum_ones, sum_times, count_data, chains_count}
use Rattle.passive_blocks.proofs.HeldCounts.{behind_stays}
use Rattle.block_tables.proofs.Walks.{on_disk}

pub one_true : (b : Bool) → 1 ≤ one_if b → b ≡ true
one_true true some = refl
one_true false some = absurd (omega (arith, some))

pub few_one : (b : Bool) → one_if b ≤ 1
few_one true = omega arith
few_one false = omega arith

pub times_under : (b : BlockTable) (k : ℕ) (o : Option HeadFields)
    → times k (blocks_under b o) ≡ weight_of (λ (h : Head). times k (chain_by b.next.items h)) o
times_under b k None = refl
times_under b k (Some s) = refl

pub size_under : (o : Option HeadFields) → blocks_kept o ≡ weight_of (λ (h : Head). blocks_of h.size) o
size_under None = refl
size_under (Some s) = refl

pub planned_times : (next : List ℕ) (k : ℕ) (x : HeadFields)
    → times k (blocks_planned next x) ≡ (if x.removal then 0 else times k (walk next x.first (blocks_of x.size)))
planned_times next k x = go x.removal
  where
    go : (b : Bool) → times k (if b then [] else walk next x.first (blocks_of x.size))
        ≡ (if b then 0 else times k (walk next x.first (blocks_of x.size)))
    go true = refl
    go false = refl

-- the head that counts of a uid
pub latest_held : (t : Table) (uid : Uid) → IsTable t → IsLatest t.heads.slots.items uid (entry_at t.heads.index uid).latest
latest_held t uid is = (is.heads.entries uid).0

-- The chain of a kept value is among the chains of all.
pub keeper_times : (t : Table) (uid : Uid) (k : ℕ) → IsTable t → AreApart t.heads.slots.items
    → times k (blocks_under t.blocks (keeper t uid)) ≤ times_kept t.blocks.next.items (heads_in t.heads.slots.items) k
keeper_times t uid k is apart =
    omega (
      arith,
      times_under t.blocks k (keeper t uid),
      kept_within (λ (h : Head). times k (chain_by t.blocks.next.items h)) t.heads.slots.items uid (entry_at t.heads.index uid).latest apart
          (latest_held t uid is),
    )

pub keeper_size : (t : Table) (uid : Uid) → IsTable t → AreApart t.heads.slots.items
    → blocks_kept (keeper t uid) ≤ sum_by (λ (h : Head). blocks_of h.size) (keeping (heads_in t.heads.slots.items))
keeper_size t uid is apart =
    omega (
      arith,
      size_under (keeper t uid),
      kept_within (λ (h : Head). blocks_of h.size) t.heads.slots.items uid (entry_at t.heads.index uid).latest apart (latest_held t uid is),
    )

kept_on : (b : BlockTable) (o : Option HeadFields) → ((k : ℕ) → times k (blocks_under b o) ≤ one_if (is_data b.size k))
    → blocks_kept o ≤ b.needed
    → IfSome o (IsKeptOn b)
kept_on b None few needed = tt
kept_on b (Some s) few needed = record {
  chain = λ k there. one_true (is_data b.size k) (omega (arith, few k, some_times k (walk b.next.items s.first (blocks_of s.size)) there));
  needed = needed;
}

-- Where each block for data is free or stands once on the chains, each value is kept on blocks for data.
pub kept_by_places : (size : ℕ) (t : Table) (more : ℕ → ℕ) → IsTable t → t.blocks.size ≡ size → AreApart t.heads.slots.items
    → t.blocks.needed ≡ sum_by (λ (h : Head). blocks_of h.size) (keeping (heads_in t.heads.slots.items))
    → ((k : ℕ) → one_if (is_member t.blocks.free k)
    + (times_kept t.blocks.next.items (heads_in t.heads.slots.items) k + more k) ≡ one_if (is_data size k))
    → (uid : Uid) → IfSome (keeper t uid) (IsKeptOn t.blocks)
kept_by_places size t more is same apart needed places uid =
    kept_on t.blocks (keeper t uid)
    (λ k. omega (arith, keeper_times t uid k is apart, places k, ap (λ s. one_if (is_data s k)) same))
    (omega (arith, keeper_size t uid is apart, needed))

-- a block of a kept value is not free, and on no chain of a change that waits
pub kept_not_free : (size : ℕ) (counts : Counts) (t : Table) (pending : Option Pending) (uid : Uid) (k : ℕ) → IsHeld size counts t pending
    → has k (blocks_under t.blocks (keeper t uid)) ≡ true → is_member t.blocks.free k ≡ false
kept_not_free size counts t pending uid k held there =
    false_from_ne_true (is_member t.blocks.free k) (λ free.
    omega (
      arith,
      held.places k,
      ap one_if free,
      few_one (is_data size k),
      keeper_times t uid k held.table held.apart,
      some_times k (blocks_under t.blocks (keeper t uid)) there,
    ))

pub kept_not_planned : (size : ℕ) (counts : Counts) (t : Table) (pending : Option Pending) (uid : Uid) (k : ℕ)
    → IsHeld size counts t pending
    → has k (blocks_under t.blocks (keeper t uid)) ≡ true → has k (planned_blocks t.blocks.next.items pending) ≡ false
kept_not_planned size counts t pending uid k held there =
    false_from_ne_true (has k (planned_blocks t.blocks.next.items pending)) (λ planned.
    omega (
      arith,
      held.places k,
      few_one (is_data size k),
      keeper_times t uid k held.table held.apart,
      some_times k (blocks_under t.blocks (keeper t uid)) there,
      some_times k (planned_blocks t.blocks.next.items pending) planned,
    ))

pub planned_not_free : (size : ℕ) (counts : Counts) (t : Table) (pending : Option Pending) (k : ℕ) → IsHeld size counts t pending
    → has k (planned_blocks t.blocks.next.items pending) ≡ true → is_member t.blocks.free k ≡ false
planned_not_free size counts t pending k held there =
    false_from_ne_true (is_member t.blocks.free k) (λ free.
    omega (
      arith,
      held.places k,
      ap one_if free,
      few_one (is_data size k),
      some_times k (planned_blocks t.blocks.next.items pending) there,
    ))

-- The blocks for data are those that are free, those of the values that are kept, and those of the change that waits.
pub free_left : (size : ℕ) (counts : Counts) (t : Table) (pending : Option Pending) → IsHeld size counts t pending
    → length (free_in t.blocks) + (t.blocks.needed + length (planned_blocks t.blocks.next.items pending)) ≡ data_count size
free_left size counts t pending held =
    let next : List ℕ = t.blocks.next.items in
    let heads : List Head = heads_in t.heads.slots.items in
    let planned : List ℕ = planned_blocks next pending in
    let all : List ℕ = numbers 0 (size / 1024) in
    let on = λ (k : ℕ) (some : 1 ≤ times_kept next heads k).
    on_disk size k (one_true (is_data size k) (omega (arith, some, held.places k))) in
    let on_planned = λ (k : ℕ) (some : 1 ≤ times k planned).
    on_disk size k (one_true (is_data size k) (omega (arith, some, held.places k))) in
    let long : length t.blocks.free ≡ size / 1024 = held.table.blocks.free ∙ ap (λ s. s / 1024) held.same in
    let free : length (free_in t.blocks) ≡ length (filter (is_member t.blocks.free) all) =
    ap (λ n. length (filter (is_member t.blocks.free) (numbers 0 n))) long in
    omega (
      arith,
      free,
      sum_same (λ k. one_if (is_member t.blocks.free k) + (times_kept next heads k + times k planned)) (λ k. one_if (is_data size k)) all
          held.places,
      sum_two (λ k. one_if (is_member t.blocks.free k)) (λ k. times_kept next heads k + times k planned) all,
      sum_two (times_kept next heads) (λ k. times k planned) all,
      sum_ones (is_member t.blocks.free) all,
      sum_ones (is_data size) all,
      count_data size,
      chains_count next (keeping heads) (size / 1024) on,
      sum_times planned (size / 1024) on_planned,
      held.needed,
    )

-- where chains go on as before, they end as before
pub ends_stay : (next new : List ℕ) (o : Option HeadFields)
    → ((k : ℕ) → 1 ≤ weight_of (λ (h : Head). times k (chain_by next h)) o → slice_index new k ≡ slice_index next k)
    → IfSome o (λ (h : HeadFields). behind_walk next h.first (blocks_of h.size) ≡ 0)
    → IfSome o (λ (h : HeadFields). behind_walk new h.first (blocks_of h.size) ≡ 0)
ends_stay next new None same ends = tt
ends_stay next new (Some s) same ends =
    behind_stays next new s.first (blocks_of s.size)
    (λ k there. same k (some_times k (walk next s.first (blocks_of s.size)) there)) ∙ ends

pub sequence_at : (slots : List HeadFields) (k : ℕ) → slice_index (map (λ (s : HeadFields). s.sequence) slots) k
    ≡ (slot_at slots k).sequence
sequence_at [] k = refl
sequence_at (s ∷ slots) zero = refl
sequence_at (s ∷ slots) (suc k) = sequence_at slots k
