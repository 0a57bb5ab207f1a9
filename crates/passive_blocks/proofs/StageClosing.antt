-- A head is closed while a job is under way.
use Rattle.std.specs.Prelude.{◌≡◌, ℕ, suc, ◌+◌, ◌<◌, Bool, true, false, not, ◌&&◌, ◌||◌, ◌==◌, List}
use Rattle.std.specs.Prelude.{[], ◌∷◌, ◌++◌}
use Rattle.std.specs.Prelude.{length, map, filter, take, drop, if◌then◌else◌}
use Rattle.std.proofs.Common.{refl, sym, ap, ◌∙◌, inl, inr, arith, set, eq-eqb}
use Rattle.std.specs.List.{list_all}
use Rattle.std.proofs.lemmas.Bool.{cases_eq, ne_eqb}
use Rattle.std.proofs.lemmas.List.{length-take, get_or-take, get_or-drop}
use Rattle.std.proofs.lemmas.List.Elements.{filter-append}
use Rattle.block_tables.specs.declared.heads.HeadFields.{HeadFields}
use Rattle.block_tables.specs.declared.table.Table.{Table}
use Rattle.block_tables.specs.Members.{is_member}
use Rattle.block_tables.specs.Blocks.{Head, keeping}
use Rattle.block_tables.specs.HeadSeen.{head_of}
use Rattle.block_tables.specs.HeadState.{heads_in, slot_at, is_open, closed_slot}
use Rattle.passive_blocks.specs.StoreState.{chain_in}
use Rattle.passive_blocks.specs.StageState.{IsBegun, may_close, closes}
use Rattle.passive_blocks.proofs.Among.{In, all_in, in_all, filter_alike, filter_twice}
use Rattle.block_tables.proofs.Slots.{slot_same, slot_other}
use Rattle.passive_blocks.proofs.HeldSums.{heads_at_open, heads_with_shut, front_of, back_of}
use Rattle.passive_blocks.proofs.StageHeads.{are_numbered}
use Rattle.passive_blocks.proofs.StageImages.{closes_one}
use Rattle.passive_blocks.proofs.StageSlots.{slot_of_head}

filter_all : (q : Head → Bool) (hs : List Head) → ((h : Head) → In h hs → q h ≡ true) → filter q hs ≡ hs
filter_all q [] each = refl
filter_all q (x ∷ xs) each =
    ap (λ b. if b then x ∷ filter q xs else filter q xs) (each x (inl refl)) ∙ ap (λ ys. x ∷ ys)
    (filter_all q xs (λ h there. each h (inr there)))

abbrev AreNumberedSlots : List HeadFields → Type 0
AreNumberedSlots slots = (k : ℕ) → is_open (slot_at slots k) ≡ true → (slot_at slots k).number ≡ k

front_other : (slots : List HeadFields) (n : ℕ) → AreNumberedSlots slots → (h : Head) → In h (front_of slots n) → not (h.number == n) ≡ true
front_other slots n numbered h there =
    let at = slot_of_head (take n slots) h there in
    let below : at.0 < n = omega (arith, at.1, length-take n slots) in
    let same : slot_at (take n slots) at.0 ≡ slot_at slots at.0 = get_or-take n slots at.0 closed_slot below in
    let number : h.number ≡ at.0 =
    ap (λ (g : Head). g.number) at.3 ∙ ap (λ (s : HeadFields). s.number) same ∙ numbered at.0 (sym (ap is_open same) ∙ at.2) in
    ap not (ne_eqb h.number n (λ e. absurd (let bad : ⊥ = omega (arith, e, number, below) in bad)))

back_other : (slots : List HeadFields) (n : ℕ) → AreNumberedSlots slots → (h : Head) → In h (back_of slots n) → not (h.number == n) ≡ true
back_other slots n numbered h there =
    let at = slot_of_head (drop (suc n) slots) h there in
    let same : slot_at (drop (suc n) slots) at.0 ≡ slot_at slots (suc n + at.0) = get_or-drop (suc n) slots at.0 closed_slot in
    let number : h.number ≡ suc n + at.0 =
    ap (λ (g : Head). g.number) at.3 ∙ ap (λ (s : HeadFields). s.number) same ∙ numbered (suc n + at.0) (sym (ap is_open same) ∙ at.2) in
    ap not (ne_eqb h.number n (λ e. absurd (let bad : ⊥ = omega (arith, e, number) in bad)))

-- The open heads once one is closed.
pub heads_closed : (slots : List HeadFields) (n : ℕ) → AreNumberedSlots slots → n < length slots → is_open (slot_at slots n) ≡ true
    → heads_in (set slots n closed_slot) ≡ filter (λ (h : Head). not (h.number == n)) (heads_in slots)
heads_closed slots n numbered within opened =
    let q : Head → Bool = λ h. not (h.number == n) in
    let x : Head = head_of (slot_at slots n) in
    let out : q x ≡ false = ap not (eq-eqb (slot_at slots n).number n (numbered n opened)) in
    heads_with_shut slots n closed_slot within refl
    ∙ sym (ap (filter q) (heads_at_open slots n within opened)
    ∙ filter-append q (front_of slots n) (x ∷ back_of slots n)
    ∙ ap (λ hs. filter q (front_of slots n) ++ hs) (ap (λ b. if b then x ∷ filter q (back_of slots n) else filter q (back_of slots n)) out)
    ∙ ap (λ hs. hs ++ filter q (back_of slots n)) (filter_all q (front_of slots n) (front_other slots n numbered))
    ∙ ap (λ hs. front_of slots n ++ hs) (filter_all q (back_of slots n) (back_other slots n numbered)))

open_then : (slots : List HeadFields) (n k : ℕ) → n < length slots
    → (is_open (slot_at slots k) && not (k == n)) ≡ is_open (slot_at (set slots n closed_slot) k)
open_then slots n k within = elim (cases_eq k n) [
  | inl same ↦
      ap (λ b. is_open (slot_at slots k) && not b) (eq-eqb k n same) ∙ and_false (is_open (slot_at slots k))
      ∙ sym (ap (λ i. is_open (slot_at (set slots n closed_slot) i)) same ∙ ap is_open (slot_same slots n closed_slot within))
  | inr other ↦
      ap (λ b. is_open (slot_at slots k) && not b) (ne_eqb k n other) ∙ and_true (is_open (slot_at slots k))
      ∙ sym (ap is_open (slot_other slots n k closed_slot other))
]
  where
    and_false : (b : Bool) → (b && false) ≡ false
    and_false true = refl
    and_false false = refl

    and_true : (b : Bool) → (b && true) ≡ b
    and_true true = refl
    and_true false = refl

-- What holds by the image at which a job began holds once one of the heads that it closes is closed in memory.
pub begun_closed : (node : ℕ) (began : List ℕ) (heads : List Head) (t new : Table) (n : ℕ) → IsBegun node began heads t
    → ((k : ℕ) → is_open (slot_at t.heads.slots.items k) ≡ true → (slot_at t.heads.slots.items k).number ≡ k)
    → n < length t.heads.slots.items → is_open (slot_at t.heads.slots.items n) ≡ true → closes heads n ≡ true
    → new.heads.slots.items ≡ set t.heads.slots.items n closed_slot → new.blocks ≡ t.blocks
    → ((k : ℕ) → is_member new.heads.closing k ≡ true → is_member t.heads.closing k ≡ true)
    → IsBegun node began heads new
begun_closed node began heads t new n b numbered within opened closed items blocks fewer =
    let slots : List HeadFields = t.heads.slots.items in
    let after : List HeadFields = set slots n closed_slot in
    record {
      format = b.format;
      long = b.long ∙ sym (ap (λ v. v.size) blocks);
      found = b.found;
      chains = b.chains ∙ ap (λ v. map (chain_in v.next.items) (keeping heads)) (sym blocks);
      left = ap heads_in items ∙ heads_closed slots n numbered within opened
          ∙ ap (filter (λ (h : Head). not (h.number == n))) b.left
          ∙ filter_twice (λ (h : Head). is_open (slot_at slots h.number)) (λ (h : Head). not (h.number == n)) heads
          ∙ filter_alike (λ (h : Head). is_open (slot_at slots h.number) && not (h.number == n))
          (λ (h : Head). is_open (slot_at after h.number)) heads (λ h there. open_then slots n h.number within)
          ∙ ap (λ s. filter (λ (h : Head). is_open (slot_at s h.number)) heads) (sym items);
      closed = ap (λ s. list_all (λ (h : Head). is_open (slot_at s h.number) || may_close heads h) heads) items
          ∙ in_all (λ (h : Head). is_open (slot_at after h.number) || may_close heads h) heads (λ h there. elim (cases_eq h.number n) [
            | inl same ↦
                let one = closes_one heads heads n closed in
                let e : one.0 ≡ h = are_numbered node began heads b.found one.0 h one.1 there (one.2 ∙ sym same) in
                ap (λ c. is_open (slot_at after h.number) || c) (ap (may_close heads) (sym e) ∙ one.3) ∙ or_true
                (is_open (slot_at after h.number))
            | inr other ↦ ap (λ s. is_open s || may_close heads h) (slot_other slots n h.number closed_slot other)
                ∙ all_in (λ (h : Head). is_open (slot_at slots h.number) || may_close heads h) heads h b.closed there
          ]);
      closing = λ k is. b.closing k (fewer k is);
    }
  where
    or_true : (b : Bool) → (b || true) ≡ true
    or_true true = refl
    or_true false = refl
