-- For how many more changes the room is told, once a disk was read.
use Rattle.std.proofs.Common.{◌≡◌, ℕ, suc, zero, ◌+◌, ◌-◌, ◌/◌, ◌^◌, ◌≤◌, ◌<◌, Bool, true, false, ◌||◌, ◌&&◌, not, ◌==◌, List, [], ◌∷◌}
use Rattle.std.proofs.Common.{length, map, refl, sym, ap, ◌∙◌, arith, Option, None, Some}
use Rattle.std.specs.Prelude.{filter, find, is_some, nat_le, sum_by, if◌then◌else◌}
use Rattle.std.specs.List.{list_any, list_all}
use Rattle.std.specs.Ordering.{eq_by_cmp}
use Rattle.std.specs.Cmp.{eq_by_cmp_equiv}
use Rattle.std.proofs.lemmas.Bool.{false≢true, ne_eqb}
use Rattle.std.proofs.lemmas.List.Sums.{sum_by-cons}
use Rattle.capability.specs.declared.Uid.{Uid}
use Rattle.capability.specs.Uids.{uid_cmp}
use Rattle.capability.proofs.Uids.{uid_cmp_total}
use Rattle.eden_disk.specs.Calls.{Counts}
use Rattle.passive_store.specs.Kept.{reserved_uid}
use Rattle.block_tables.specs.declared.heads.HeadFields.{HeadFields}
use Rattle.block_tables.specs.declared.table.Table.{Table}
use Rattle.block_tables.specs.Greatest.{peak}
use Rattle.block_tables.specs.Members.{IsFirstOf}
use Rattle.block_tables.specs.Blocks.{Head, numbers, keeping, blocks_of, data_count}
use Rattle.block_tables.specs.Changes.{is_taken, free_head}
use Rattle.block_tables.specs.HeadState.{heads_in, slot_at, entry_at, is_open}
use Rattle.block_tables.specs.TableState.{keeper}
use Rattle.passive_blocks.specs.HeldState.{IsHeld}
use Rattle.passive_blocks.specs.StoreState.{changes_known}
use Rattle.passive_blocks.proofs.HeldSums.{heads_under}
use Rattle.passive_blocks.proofs.HeldKeepers.{keeper_listed}
use Rattle.passive_blocks.proofs.HeldFacts.{latest_held}
use Rattle.passive_blocks.proofs.HeldJob.{taken_is, free_head_is, greatest_is}

find_none : (p : ℕ → Bool) (from n : ℕ) → ((k : ℕ) → from ≤ k → k < from + n → p k ≡ false) → find p (numbers from n) ≡ None
unfolding numbers
find_none p from zero none = refl
find_none p from (suc n) none =
    ap (λ b. if b then Some from else find p (numbers (from + 1) n)) (none from (omega arith) (omega arith))
    ∙ find_none p (from + 1) n (λ k above below. none k (omega (arith, above)) (omega (arith, below)))

by_not : (b : Bool) → not b ≡ false → b ≡ true
by_not true is = refl
by_not false is = absurd (false≢true (sym is))

-- a head is free
free_known : (size : ℕ) (counts : Counts) (t : Table) (found : Option ℕ) → IsHeld size counts t None → IsFirstOf t.heads.free found
    → is_some found ≡ is_some (free_head size (heads_in t.heads.slots.items))
free_known size counts t None h is =
    sym (ap is_some (find_none (λ number. not (is_taken (heads_in t.heads.slots.items) number)) 0 (size / 1024) (λ k above below.
    let within : k < length t.heads.slots.items = omega (arith, below, h.table.count, ap (λ s. s / 1024) h.same) in
    ap not (taken_is t.heads.slots.items k h.table.heads.numbered
    ∙ by_not (is_open (slot_at t.heads.slots.items k)) (sym (h.table.heads.free k within) ∙ is k)))))
free_known size counts t (Some n) h is =
    let within : n < length t.heads.slots.items = omega (arith, is.0, h.table.heads.free_long) in
    let shut : is_open (slot_at t.heads.slots.items n) ≡ false = flip (is_open (slot_at t.heads.slots.items n))
    (sym (h.table.heads.free n within) ∙ is.1) in
    sym (ap is_some (free_head_is size counts t None n h within shut (λ k below.
    by_not (is_open (slot_at t.heads.slots.items k)) (sym (h.table.heads.free k (omega (arith, below, within))) ∙ is.2 k below))))
  where
    flip : (b : Bool) → not b ≡ true → b ≡ false
    flip true same = absurd (false≢true same)
    flip false same = refl

pub told_is : (size left big : ℕ) (counts : Counts) (t : Table) (found : Option ℕ) → IsHeld size counts t None
    → IsFirstOf t.heads.free found → left ≡ data_count t.blocks.size - t.blocks.needed
    → big ≡ peak (map (λ (slot : HeadFields). slot.sequence) t.heads.slots.items)
    → (if is_some found && nat_le 1 left then 2 ^ 63 - big else 0)
    ≡ changes_known t.blocks.size t.blocks.needed (heads_in t.heads.slots.items)
told_is size left big counts t found h first left_is big_is =
    let heads : List Head = heads_in t.heads.slots.items in
    let free : is_some found ≡ is_some (free_head t.blocks.size heads) =
    free_known size counts t found h first ∙ ap (λ n. is_some (free_head n heads)) (sym h.same) in
    ap (λ b. if b && nat_le 1 left then 2 ^ 63 - big else 0) free
    ∙ ap (λ n. if is_some (free_head t.blocks.size heads) && nat_le 1 n then 2 ^ 63 - big else 0) left_is
    ∙ ap (λ n. if is_some (free_head t.blocks.size heads) && nat_le 1 (data_count t.blocks.size - t.blocks.needed)
    then 2 ^ 63 - n else 0) (big_is ∙ sym (greatest_is t.heads.slots.items))
