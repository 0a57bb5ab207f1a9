-- A store over blocks that was opened, and what is seen of it.
use Rattle.std.proofs.Common.{◌≡◌, ℕ, ◌≤◌, ◌^◌, Bool, true, List, length, sym, ap, ◌∙◌, arith, None}
use Rattle.std.specs.Prelude.{Ok, Err, if◌then◌else◌}
use Rattle.eden_disk.specs.Told.{Contents}
use Rattle.eden_disk.specs.Calls.{Counts}
use Rattle.passive_store.specs.declared.store.StoreRefusal.{StoreRefusal}
use Rattle.passive_store.specs.declared.store.StoreRefusal.TheVariants.{Failed, Stopped, Full, Damaged, OutOfMemory}
use Rattle.passive_store.specs.Kept.{Kept, IsOverfullBy}
use Rattle.block_tables.specs.declared.table.Table.{Table}
use Rattle.block_tables.specs.Blocks.{Head, is_block_size, is_data, heads_or_none, kept_in_blocks}
use Rattle.passive_blocks.specs.BlockLayout.{overfull_by, heads_by, block_map, block_changes, changes_left}
use Rattle.block_tables.specs.HeadState.{heads_in}
use Rattle.passive_blocks.specs.HeldState.{IsHeld, times_kept, one_if}
use Rattle.passive_blocks.specs.StoreState.{IsTableOf, changes_known, kept_or_none}
use Rattle.passive_blocks.specs.Preparing.{AreReady}
use Rattle.passive_blocks.proofs.KeptRoom.{changes_kept}
use Rattle.passive_blocks.proofs.OpeningShown.{format_there, kept_found, map_shown}

-- the size of the disk is allowed
pub size_allowed : (size : ℕ) (counts : Counts) (image : List ℕ) (t : Table) → IsHeld size counts t None → length image ≡ size
    → is_block_size (length image) ≡ true
size_allowed size counts image t h long = ap is_block_size (long ∙ sym h.same) ∙ h.table.blocks.sized

-- The room is told for as many more changes as memory says.
pub more_shown : (node size more : ℕ) (counts : Counts) (image : List ℕ) (c : Contents) (t : Table) → IsHeld size counts t None
    → length image ≡ size → AreReady node image c → IsTableOf node c.now t
    → more ≡ changes_known t.blocks.size t.blocks.needed (heads_in t.heads.slots.items) → more ≡ block_changes node image
more_shown node size more counts image c t h long ready is told =
    let allowed : is_block_size (length image) ≡ true = size_allowed size counts image t h long in
    let heads : List Head = heads_in t.heads.slots.items in
    let kept : Kept = kept_or_none (kept_in_blocks c.now (Ok heads)) in
    let map_is : block_map node c.now ≡ Ok kept = ready.prepared.map ∙ map_shown node image c t allowed ready is in
    let found : kept_in_blocks c.now (Ok heads) ≡ Ok kept = kept_found node image c t allowed ready is in
    let on : (k : ℕ) → times_kept t.blocks.next.items heads k ≤ one_if (is_data (length c.now) k) =
    λ k. omega (arith, h.places k, ap (λ n. one_if (is_data n k)) (is.long ∙ h.same)) in
    told
    ∙ ap (λ n. changes_known n t.blocks.needed heads) (sym is.long)
    ∙ sym (changes_kept (length c.now) c.now t kept h.table h.apart is.chains on h.needed found)
    ∙ sym (ap (λ f. if overfull_by f node c.now then 2 ^ 63 else changes_left (length c.now) (heads_by f node c.now)
    (block_map node c.now))
    (format_there c.now ready.prepared.format)
    ∙ ap (λ hs. changes_left (length c.now) (heads_or_none hs) (block_map node c.now)) is.heads
    ∙ ap (changes_left (length c.now) heads) map_is)
    ∙ ready.prepared.told

pub full_alike : (S T : Type 0) (b : Bool) (e : StoreRefusal) → IsOverfullBy {S = S} b (Err e) → IsOverfullBy {S = T} b (Err e)
full_alike S T b Failed h = tt
full_alike S T b Stopped h = tt
full_alike S T b Full h = h
full_alike S T b (Damaged place) h = h
full_alike S T b OutOfMemory h = tt
