-- The reading of the blocks that stand on a disk: its device calls, and what it finds.
use Rattle.std.proofs.Common.{◌≡◌, ℕ, ◌+◌, ◌/◌, List, length, map, refl, sym, ap, ◌∙◌, arith}
use Rattle.std.specs.Prelude.{slice_index, Result, Ok, Err}
use Rattle.eden_disk.specs.Told.{Told, contents}
use Rattle.passive_store.specs.declared.store.StoreRefusal.{StoreRefusal}
use Rattle.passive_store.specs.declared.store.StoreRefusal.TheVariants.{Failed, Stopped, Full, Damaged, OutOfMemory}
use Rattle.passive_store.specs.Kept.{OpeningMade, kept_by}
use Rattle.block_tables.specs.declared.table.Table.{Table}
use Rattle.block_tables.specs.declared.head_table.HeadTable.{HeadTable}
use Rattle.block_tables.specs.Blocks.{Head, chains_of, taken_by, heads_of, changes_on, keeping, kept_in_blocks, blocks_map}
use Rattle.passive_blocks.specs.BlockLayout.{reads_of_blocks}
use Rattle.block_tables.specs.HeadState.{heads_in}
use Rattle.passive_blocks.specs.StoreState.{IsTableOf}
use Rattle.passive_blocks.specs.OpeningState.{heads_read}
use Rattle.passive_blocks.specs.StoreState.{chain_in}

pub made_heads : (S T : Type 0) (image : List ℕ) (found : Result (List Head) ℕ) (count made : ℕ) (e : StoreRefusal)
    → OpeningMade {S = S} (heads_read count found) (Err e) made → ((place : ℕ) → e ≡ Damaged place → found ≡ Err place) → (e ≡ Full → ⊥)
    → OpeningMade {S = T} (reads_of_blocks image found) (Err e) made
made_heads S T image found count made Failed m damaged full = m
made_heads S T image found count made Stopped m damaged full = m
made_heads S T image found count made Full m damaged full = absurd (full refl)
made_heads S T image found count made (Damaged place) m damaged full =
    m ∙ ap (heads_read count) (damaged place refl) ∙ sym (ap (reads_of_blocks image) (damaged place refl))
made_heads S T image found count made OutOfMemory m damaged full = tt

pub made_all : (image : List ℕ) (found : Result (List Head) ℕ) (heads : List Head) (count first second : ℕ) → found ≡ Ok heads
    → count ≡ length image / 1024 → first ≡ heads_read count found → second ≡ length (taken_by (chains_of image heads))
    → first + second ≡ reads_of_blocks image found
made_all image found heads count first second is whole one two =
    (let sum : first + second ≡ length image / 1024 + length (taken_by (chains_of image heads)) =
    omega (arith, whole, one, two, ap (heads_read count) is) in sum) ∙ sym (ap (reads_of_blocks image) is)

pub made_both : (S T : Type 0) (image : List ℕ) (found : Result (List Head) ℕ) (heads : List Head) (count first second : ℕ)
    (e : StoreRefusal)
    → found ≡ Ok heads → count ≡ length image / 1024 → first ≡ heads_read count found → (e ≡ Full → ⊥)
    → OpeningMade {S = S} (length (taken_by (chains_of image heads))) (Err e) second
    → OpeningMade {S = T} (reads_of_blocks image found) (Err e) (first + second)
made_both S T image found heads count first second Failed is whole one full m = omega (arith, m)
made_both S T image found heads count first second Stopped is whole one full m = omega (arith, m)
made_both S T image found heads count first second Full is whole one full m = absurd (full refl)
made_both S T image found heads count first second (Damaged place) is whole one full m = made_all image found heads count first second is
    whole one m
made_both S T image found heads count first second OutOfMemory is whole one full m = tt

-- A telling disk has the table.
pub table_opened : (node : ℕ) (image : List ℕ) (t0 t1 : Table) (heads : HeadTable) → t1.heads ≡ t0.heads → heads.slots ≡ t1.heads.slots
    → slice_index image 1 ≡ 235 → length image ≡ t1.blocks.size → heads_of node image ≡ Ok (heads_in t0.heads.slots.items)
    → chains_of image (heads_in t0.heads.slots.items) ≡ map (chain_in t1.blocks.next.items) (keeping (heads_in t0.heads.slots.items))
    → IsTableOf node image (record { heads = heads; blocks = t1.blocks })
table_opened node image t0 t1 heads same slots format long found chains =
    let is : heads.slots.items ≡ t0.heads.slots.items = ap (λ s. s.items) slots ∙ ap (λ (h : HeadTable). h.slots.items) same in
    record {
      format = format;
      long = long;
      heads = found ∙ sym (ap (λ s. Ok (heads_in s)) is);
      chains = ap (λ s. chains_of image (heads_in s)) is ∙ chains
          ∙ sym (ap (λ s. map (chain_in t1.blocks.next.items) (keeping (heads_in s))) is);
    }

pub chains_damaged : (node place : ℕ) (start mid : Told) (heads : List Head) → mid ≡ start
    → heads_of node (contents start).now ≡ Ok heads
    → changes_on (contents mid).now (chains_of (contents mid).now heads) ≡ Err place → blocks_map node (contents start).now ≡ Err place
chains_damaged node place start mid heads same found bad =
    ap (kept_in_blocks (contents start).now) found
    ∙ ap kept_by (sym (ap (λ t. changes_on (contents t).now (chains_of (contents t).now heads)) same) ∙ bad)
