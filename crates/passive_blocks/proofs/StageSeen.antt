-- While a job is under way the table is that of what is seen, where the gates are as memory says.
use Rattle.std.specs.Prelude.{◌≡◌, ℕ, ◌/◌, ◌≤◌, ◌<◌, Bool, true, false, ◌==◌, List}
use Rattle.std.specs.Prelude.{length, map, flat_map, Option, None, Some}
use Rattle.std.specs.Prelude.{if◌then◌else◌}
use Rattle.std.proofs.Common.{refl, sym, ap, ◌∙◌, inl, inr, arith, set}
use Rattle.std.proofs.lemmas.Bool.{cases_eq}
use Rattle.std.proofs.lemmas.List.{length-set}
use Rattle.eden_disk.specs.Calls.{Counts}
use Rattle.block_tables.specs.declared.heads.HeadFields.{HeadFields}
use Rattle.block_tables.specs.declared.table.Table.{Table}
use Rattle.passive_blocks.specs.declared.block_store.Pending.{Pending}
use Rattle.block_tables.specs.Blocks.{Head, keeping, has, is_data, taken_by, chains_of}
use Rattle.passive_blocks.specs.Fits.{Fits}
use Rattle.block_tables.specs.HeadSeen.{IsHeadThere}
use Rattle.block_tables.specs.HeadState.{heads_in, slot_at, is_open, closed_slot}
use Rattle.passive_blocks.specs.HeldState.{IsHeld, one_if, times, times_kept, chain_by, planned_blocks}
use Rattle.passive_blocks.specs.StoreState.{IsTableOf, chain_in}
use Rattle.passive_blocks.specs.StageState.{MayStand, IsBegun, gate_open}
use Rattle.passive_blocks.proofs.Among.{filter_alike}
use Rattle.block_tables.proofs.Slots.{slot_same, slot_other}
use Rattle.passive_blocks.proofs.Spans.{opened_is}
use Rattle.passive_blocks.proofs.StageHeads.{opened, left_on, found, head_found, are_numbered}
use Rattle.passive_blocks.proofs.StageKeeping.{keeping_left}
use Rattle.passive_blocks.proofs.StageSlots.{AreThere, slots_by_heads}
use Rattle.passive_blocks.proofs.StageChains.{has_times, times_flat, one_true, taken_chains}
use Rattle.passive_blocks.proofs.StageImages.{fits_heads, fits_chains}
use Rattle.passive_blocks.proofs.StageHeld.{once_held}
use Rattle.passive_blocks.proofs.StageWrites.{TakenData}

-- the gates of an image are open where memory says so
abbrev pub GatesAs : List ℕ → List HeadFields → Type 0
GatesAs image slots = (n : ℕ) → n < length slots → gate_open image n ≡ is_open (slot_at slots n)

gate_there : (node : ℕ) (image : List ℕ) (n : ℕ) (slot : HeadFields) (b : Bool) → is_open slot ≡ b
    → IsHeadThere node image n (if b then Some slot else None) → gate_open image n ≡ is_open slot
gate_there node image n slot true is there = sym (opened_is image n) ∙ ap (λ byte. byte == 225) there.0 ∙ sym is
gate_there node image n slot false is there = sym (opened_is image n) ∙ there ∙ sym is

pub gates_there : (node : ℕ) (image : List ℕ) (slots : List HeadFields) → AreThere node image slots → GatesAs image slots
gates_there node image slots there n within = gate_there node image n (slot_at slots n) (is_open (slot_at slots n)) refl (there n within)

-- the table has so many slots as there are heads
pub many_slots : (node size : ℕ) (counts : Counts) (image : List ℕ) (t : Table) (pending : Option Pending) → IsHeld size counts t pending
    → length image ≡ t.blocks.size → length t.heads.slots.items ≡ length image / 1024
many_slots node size counts image t pending held long = held.table.count ∙ ap (λ n. n / 1024) (sym long)

pub gates_of_table : (node size : ℕ) (counts : Counts) (image : List ℕ) (t : Table) (pending : Option Pending) → IsHeld size counts t
    pending
    → IsTableOf node image t → GatesAs image t.heads.slots.items
gates_of_table node size counts image t pending held is =
    gates_there node image t.heads.slots.items
    (slots_by_heads node image t.heads.slots.items (many_slots node size counts image t pending held is.long) held.table.heads.numbered
    is.heads)

-- what is kept was kept when the job began
pub keeping_begun : (node : ℕ) (began : List ℕ) (heads : List Head) (t : Table) → IsBegun node began heads t
    → keeping (heads_in t.heads.slots.items) ≡ keeping heads
keeping_begun node began heads t b =
    ap keeping b.left
    ∙ keeping_left (λ (h : Head). is_open (slot_at t.heads.slots.items h.number)) heads (are_numbered node began heads b.found) b.closed

-- From the gates to the table.
pub table_by_gates : (node : ℕ) (began image : List ℕ) (heads : List Head) (t : Table)
    → length t.heads.slots.items ≡ length began / 1024 → IsBegun node began heads t → Fits (MayStand heads began) (length began) image
    → GatesAs image t.heads.slots.items → IsTableOf node image t
table_by_gates node began image heads t long b fit gates =
    let slots : List HeadFields = t.heads.slots.items in
    let some : left_on image heads ≡ heads_in slots =
    filter_alike (λ (h : Head). opened image h.number) (λ (h : Head). is_open (slot_at slots h.number)) heads (λ h there.
    opened_is image h.number ∙ gates h.number (omega (arith, (head_found node began heads h b.found there).within, long)))
    ∙ sym b.left in
    let same : keeping (heads_in slots) ≡ keeping heads = keeping_begun node began heads t b in
    record {
      format = (fit.bytes 1).format refl;
      long = fit.long ∙ b.long;
      heads = fits_heads node began image heads b.found fit ∙ ap found some;
      chains = fits_chains began image heads (heads_in slots) fit same ∙ b.chains
          ∙ ap (map (chain_in t.blocks.next.items)) (sym same);
    }

-- what is kept stands on blocks for data, and the blocks of the change and the free ones are others
pub taken_begun : (node size : ℕ) (counts : Counts) (began : List ℕ) (heads : List Head) (t : Table) (pending : Option Pending) (k : ℕ)
    → IsHeld size counts t pending → IsBegun node began heads t → has k (taken_by (chains_of began heads)) ≡ true
    → 1 ≤ times_kept t.blocks.next.items (heads_in t.heads.slots.items) k
taken_begun node size counts began heads t pending k held b there =
    let flat : has k (flat_map (chain_by t.blocks.next.items) (keeping heads)) ≡ true =
    sym (ap (has k) (ap taken_by b.chains ∙ taken_chains t.blocks.next.items (keeping heads))) ∙ there in
    let same : keeping (heads_in t.heads.slots.items) ≡ keeping heads = keeping_begun node began heads t b in
    omega (
      arith,
      has_times k (flat_map (chain_by t.blocks.next.items) (keeping heads)) flat,
      times_flat t.blocks.next.items k (keeping (heads_in t.heads.slots.items)),
      ap (λ hs. times k (flat_map (chain_by t.blocks.next.items) hs)) same,
    )

pub taken_data : (node size : ℕ) (counts : Counts) (began : List ℕ) (heads : List Head) (t : Table) (pending : Option Pending)
    → IsHeld size counts t pending → IsBegun node began heads t → TakenData began heads
taken_data node size counts began heads t pending held b k there =
    ap (λ s. is_data s k) (b.long ∙ held.same)
    ∙ one_true (is_data size k) (omega (
      arith,
      taken_begun node size counts began heads t pending k held b there,
      once_held size counts t pending held k,
    ))

pub planned_apart : (node size : ℕ) (counts : Counts) (began : List ℕ) (heads : List Head) (t : Table) (pending : Option Pending) (k : ℕ)
    → IsHeld size counts t pending → IsBegun node began heads t → has k (planned_blocks t.blocks.next.items pending) ≡ true
    → has k (taken_by (chains_of began heads)) ≡ false
planned_apart node size counts began heads t pending k held b there = go (has k (taken_by (chains_of began heads))) refl
  where
    at_most : (c : Bool) → one_if c ≤ 1
    at_most true = omega arith
    at_most false = omega arith

    go : (c : Bool) → has k (taken_by (chains_of began heads)) ≡ c → c ≡ false
    go false is = refl
    go true is = absurd (let bad : ⊥ = omega (
      arith,
      taken_begun node size counts began heads t pending k held b is,
      has_times k (planned_blocks t.blocks.next.items pending) there,
      held.places k,
      at_most (is_data size k),
    ) in bad)

-- the slots once a head is closed are those of what is seen, where its gate is shut and all others are as they were
pub gates_closed : (now image : List ℕ) (slots : List HeadFields) (n : ℕ) → GatesAs now slots → n < length slots
    → gate_open image n ≡ false → ((k : ℕ) → k < length slots → (k ≡ n → ⊥) → gate_open image k ≡ gate_open now k)
    → GatesAs image (set slots n closed_slot)
gates_closed now image slots n gates on shut same k within = elim (cases_eq k n) [
  | inl e ↦ ap (gate_open image) e ∙ shut ∙ sym (ap (λ i. is_open (slot_at (set slots n closed_slot) i)) e
      ∙ ap is_open (slot_same slots n closed_slot on))
  | inr other ↦
      let inside : k < length slots = omega (arith, within, length-set slots n closed_slot) in
      same k inside other ∙ gates k inside ∙ sym (ap is_open (slot_other slots n k closed_slot other))
]
