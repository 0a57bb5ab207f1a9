-- What an opening hands on: what is held in memory on any disk.
use Rattle.std.proofs.Common.{◌≡◌, ℕ, ◌+◌, ◌/◌, ◌<◌, true, false, ◌||◌, ◌&&◌, not, List, [], ◌∷◌, suc, zero}
use Rattle.std.proofs.Common.{length, sym, ap, subst, ◌∙◌, arith, None}
use Rattle.std.specs.Prelude.{sum_by}
use Rattle.std.proofs.lemmas.Bool.{false≢true}
use Rattle.eden_disk.specs.Calls.{Counts}
use Rattle.block_tables.specs.declared.heads.HeadFields.{HeadFields}
use Rattle.block_tables.specs.declared.table.Table.{Table}
use Rattle.block_tables.specs.declared.head_table.HeadTable.{HeadTable}
use Rattle.block_tables.specs.Members.{is_member}
use Rattle.block_tables.specs.Blocks.{Head, keeping, blocks_of, is_data}
use Rattle.block_tables.specs.HeadState.{AreHeads, slot_at, entry_at, is_open, is_it, is_lone, heads_in}
use Rattle.passive_blocks.specs.HeldState.{IsHeld, AreApart, times, one_if, behind_walk, chain_by}
use Rattle.passive_blocks.specs.OpeningState.{AreCounted, IsLinkedTo, kept_to, keeps_value}
use Rattle.passive_blocks.proofs.HeldOpened.{held_when_opened}
use Rattle.passive_blocks.proofs.OpeningLinked.{kept_all}

-- a head that is open stands under a number of the disk
open_within : (slots : List HeadFields) (k : ℕ) → is_open (slot_at slots k) ≡ true → k < length slots
open_within [] k there = absurd (false≢true there)
open_within (s ∷ slots) zero there = omega arith
open_within (s ∷ slots) (suc k) there = omega (arith, open_within slots k there)

-- the head that counts keeps a value where it is none of a removal
keeps_there : (h : HeadTable) (k : ℕ) → AreHeads h → is_open (slot_at h.slots.items k) ≡ true
    → is_it k (entry_at h.index (slot_at h.slots.items k).uid).latest ≡ true → (slot_at h.slots.items k).removal ≡ false
    → keeps_value h (slot_at h.slots.items k) ≡ true
keeps_there h k are opened latest value =
    let s : HeadFields = slot_at h.slots.items k in
    ap (λ b. b && (is_it s.number (entry_at h.index s.uid).latest && not s.removal)) opened
    ∙ ap (λ n. is_it n (entry_at h.index s.uid).latest && not s.removal) (are.numbered k opened)
    ∙ ap (λ b. b && not s.removal) latest
    ∙ ap not value

-- All heads and chains were read: what is held in memory.
pub held_opened : (size : ℕ) (counts : Counts) (t0 t1 : Table) (heads : HeadTable) → AreCounted t0 → t1.heads ≡ t0.heads
    → t0.blocks.size ≡ size → t1.blocks.size ≡ size → counts.size ≡ size → IsLinkedTo t1 (length t0.heads.slots.items)
    → AreHeads heads
    → ((k : ℕ) → is_member heads.closing k ≡
    (is_lone t1.heads.slots.items k (entry_at t1.heads.index (slot_at t1.heads.slots.items k).uid) || is_member t1.heads.closing k))
    → heads.lone ≡ t1.heads.lone → heads.index ≡ t1.heads.index → heads.slots ≡ t1.heads.slots
    → IsHeld size counts (record { heads = heads; blocks = t1.blocks }) None
held_opened size counts t0 t1 heads counted same size0 size1 sized l are closes lone index slots =
    let slots_are : heads.slots ≡ t0.heads.slots = slots ∙ ap (λ (h : HeadTable). h.slots) same in
    let items : heads.slots.items ≡ t0.heads.slots.items = ap (λ s. s.items) slots_are in
    let index_is : heads.index ≡ t0.heads.index = index ∙ ap (λ (h : HeadTable). h.index) same in
    let long : length heads.slots.items ≡ length t0.heads.slots.items = ap length items in
    let kept : kept_to t1 (length t0.heads.slots.items) ≡ keeping (heads_in heads.slots.items) =
    kept_all t0 t1 (length t0.heads.slots.items) counted same (omega arith) ∙ sym (ap (λ s. keeping (heads_in s)) items) in
    held_when_opened size counts (record { heads = heads; blocks = t1.blocks })
    (record { heads = are; blocks = l.blocks; count = long ∙ counted.table.count ∙ ap (λ s. s / 1024) (size0 ∙ sym size1) })
    sized size1 (subst AreApart (sym items) counted.apart)
    (l.needed ∙ ap (sum_by (λ (h : Head). blocks_of h.size)) kept)
    (λ k. ap (λ n. one_if (is_member t1.blocks.free k) + n) (sym (ap (sum_by (λ (h : Head). times k
    (chain_by t1.blocks.next.items h))) kept))
    ∙ l.places k ∙ ap (λ s. one_if (is_data s k)) size1)
    (λ k opened latest value.
    let at : slot_at heads.slots.items k ≡ slot_at t1.heads.slots.items k = ap (λ s. slot_at s.items k) slots in
    let keeps : keeps_value t1.heads (slot_at t1.heads.slots.items k) ≡ true =
    sym (ap (λ i. is_open (slot_at heads.slots.items k) && (is_it (slot_at heads.slots.items k).number
    (entry_at i (slot_at heads.slots.items k).uid).latest && not (slot_at heads.slots.items k).removal)) index
    ∙ ap (λ (s : HeadFields). is_open s && (is_it s.number (entry_at t1.heads.index s.uid).latest && not s.removal)) at)
    ∙ keeps_there heads k are opened latest value in
    ap (λ (s : HeadFields). behind_walk t1.blocks.next.items s.first (blocks_of s.size)) at
    ∙ l.ends k (omega (arith, open_within heads.slots.items k opened, long)) keeps)
    (λ k. closes k
    ∙ ap (λ (h : HeadTable). is_lone h.slots.items k (entry_at h.index (slot_at h.slots.items k).uid) || is_member h.closing k) same
    ∙ ap (λ b. is_lone t0.heads.slots.items k (entry_at t0.heads.index (slot_at t0.heads.slots.items k).uid) || b) (counted.closing k)
    ∙ sym (ap (λ s. is_lone s.items k (entry_at heads.index (slot_at s.items k).uid)
    || (is_open (slot_at s.items k) && not (is_it k (entry_at heads.index (slot_at s.items k).uid).latest))) slots_are
    ∙ ap (λ i. is_lone t0.heads.slots.items k (entry_at i (slot_at t0.heads.slots.items k).uid)
    || (is_open (slot_at t0.heads.slots.items k) && not (is_it k (entry_at i (slot_at t0.heads.slots.items k).uid).latest))) index_is))
    (λ k. ap (λ x. is_member x k) (lone ∙ ap (λ (h : HeadTable). h.lone) same) ∙ counted.lone k)
