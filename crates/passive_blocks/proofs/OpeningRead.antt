-- A chain that was followed, and its value kept.
use Rattle.std.proofs.Common.{◌≡◌, ◌⊎◌, ℕ, ◌+◌, ◌*◌, ◌/◌, ◌≤◌, Bool, true, false, List}
use Rattle.std.proofs.Common.{length, filter, refl, sym, ap, ◌∙◌, arith, inl, inr}
use Rattle.std.specs.Prelude.{slice_index, Err}
use Rattle.std.proofs.lemmas.Bool.Decides.{nat_tests}
use Rattle.eden_disk.specs.declared.disk.DiskRefusal.{DiskRefusal}
use Rattle.eden_disk.specs.declared.disk.DiskRefusal.TheVariants.{Failed as DiskFailed, Stopped as DiskStopped}
use Rattle.eden_disk.specs.Told.{Told}
use Rattle.eden_disk.specs.Calls.{Counts, DeviceCalls, Due, Obeyed, ReadTold, end_of}
use Rattle.passive_store.specs.declared.store.StoreRefusal.{StoreRefusal}
use Rattle.passive_store.specs.declared.store.StoreRefusal.TheVariants.{Failed, Stopped, Full, Damaged, OutOfMemory}
use Rattle.passive_store.specs.Kept.{refused, end_of_store, IsDiskRefusal, OpeningMade}
use Rattle.block_tables.specs.declared.heads.HeadFields.{HeadFields}
use Rattle.block_tables.specs.declared.block_table.BlockTable.{BlockTable}
use Rattle.block_tables.specs.Members.{is_member}
use Rattle.block_tables.specs.Blocks.{Chain, numbers, is_block_size, blocks_of, chain_of, data_count, head_place}
use Rattle.block_tables.specs.HeadSeen.{head_of}
use Rattle.block_tables.specs.BlockState.{AreBlocks, walk, free_in}
use Rattle.passive_blocks.specs.HeldState.{times, one_if, behind_walk}
use Rattle.passive_blocks.specs.OpeningState.{AreTaken, IsFollowed, IsChainOn, IsChainRead, ChainRead}
use Rattle.passive_blocks.proofs.HeldCounts.{walk_long}
use Rattle.passive_blocks.proofs.OpeningLinks.{all_counted}

-- a size of blocks
pub size_parts : (size : ℕ) → is_block_size size ≡ true → (32768 ≤ size) × (size ≤ 67108864) × (size ≡ size / 32768 * 32768)
size_parts size is = grind (arith, nat_tests)

-- the value of a whole chain finds its blocks among those that are left
pub fits_chain : (b0 mid : BlockTable) (value : HeadFields) (whole : Bool) (made : ℕ) → AreBlocks b0 → IsFollowed b0 mid value whole made
    → whole ≡ true → b0.needed + length (free_in b0) ≤ data_count b0.size → mid.needed + blocks_of value.size ≤ data_count mid.size
fits_chain b0 mid value whole made are f is room =
    omega (
      arith,
      room,
      all_counted b0 mid value.first f.taken are (f.are is),
      f.long is,
      f.needed,
      ap data_count (f.are is).size,
    )

pub chain_read : (b0 mid b : BlockTable) (value : HeadFields) (whole : Bool) (made : ℕ) → AreBlocks b0 → IsFollowed b0 mid value whole made
    → whole ≡ true → b0.needed + length (free_in b0) ≤ data_count b0.size → AreBlocks b → b.needed ≡ mid.needed + blocks_of value.size
    → b.size ≡ mid.size → b.free ≡ mid.free → b.next ≡ mid.next → IsChainRead b0 b value made
chain_read b0 mid b value whole made are0 f is room are needed size free next =
    let t : AreTaken b0 mid value.first f.taken = f.are is in
    let free_is : free_in b ≡ free_in mid = ap (λ l. filter (is_member l) (numbers 0 (length l))) free in
    let next_is : b.next.items ≡ mid.next.items = ap (λ n. n.items) next in
    record {
      taken = f.taken;
      reads = f.reads;
      are = record {
        blocks = are;
        size = size ∙ t.size;
        free = free_is ∙ t.free;
        places = λ k. ap (λ l. one_if (is_member l k) + times k f.taken) free ∙ t.places k;
        others = λ k none. ap (λ l. slice_index l k) next_is ∙ t.others k none;
        chain = ap (λ l. walk l value.first (length f.taken)) next_is ∙ t.chain;
      };
      long = f.long is;
      ends = ap (λ l. behind_walk l value.first (blocks_of value.size)) next_is ∙ f.ends is;
      needed = needed ∙ ap (λ n. n + blocks_of value.size) f.needed;
      room = omega (
        arith,
        room,
        all_counted b0 mid value.first f.taken are0 t,
        f.long is,
        f.needed,
        needed,
        ap length free_is,
        ap data_count (size ∙ t.size),
      );
    }

pub chain_there : (image : List ℕ) (b0 mid b : BlockTable) (value : HeadFields) (whole : Bool) (made : ℕ)
    → IsChainOn image b0 mid value whole made
    → whole ≡ true → b.next ≡ mid.next → IsChainOn image b0 b value true made
chain_there image b0 mid b value whole made on is next =
    on ∙ ap (λ w. record { head = head_of value; blocks = walk mid.next.items value.first made; whole = w }) is
    ∙ sym (ap (λ l. record { head = head_of value; blocks = walk l.items value.first made; whole = true }) next)

pub chain_broken : (image : List ℕ) (b0 mid : BlockTable) (value : HeadFields) (whole : Bool) (made : ℕ)
    → IsChainOn image b0 mid value whole made
    → whole ≡ false → ((chain_of image (free_in b0) (head_of value)).whole ≡ false)
    × (made ≡ length (chain_of image (free_in b0) (head_of value)).blocks)
chain_broken image b0 mid value whole made on is = (
  ap (λ (c : Chain). c.whole) on ∙ is,
  sym (ap (λ (c : Chain). length c.blocks) on ∙ walk_long mid.next.items value.first made),
)

-- a refusal of the disk, as the store says it
pub chain_refused : (image : List ℕ) (b0 b : BlockTable) (value : HeadFields) (made : ℕ) (e : DiskRefusal) → 1 ≤ made
    → ChainRead image b0 b value (Err (refused e)) made
chain_refused image b0 b value made DiskFailed some = some
chain_refused image b0 b value made DiskStopped some = some

pub refused_is : (e : DiskRefusal) → IsDiskRefusal (refused e)
refused_is DiskFailed = inl refl
refused_is DiskStopped = inr refl

pub refused_calls : (T U : Type 0) (e : DiskRefusal) (made : ℕ) (before after : Counts)
    → DeviceCalls made before after (end_of {T = T} (Err e)) → DeviceCalls made before after (end_of_store {T = U} (Err (refused e)))
refused_calls T U DiskFailed made before after d = d
refused_calls T U DiskStopped made before after d = d

pub refused_obeyed : (T U : Type 0) (e : DiskRefusal) (old new : Due) (before after : Counts)
    → Obeyed old new before after (end_of {T = T} (Err e)) → Obeyed old new before after (end_of_store {T = U} (Err (refused e)))
refused_obeyed T U DiskFailed old new before after d = d
refused_obeyed T U DiskStopped old new before after d = d

pub refused_told : (T U : Type 0) (e : DiskRefusal) (clock : ℕ) (old new : Told)
    → ReadTold clock old new (end_of {T = T} (Err e)) → ReadTold clock old new (end_of_store {T = U} (Err (refused e)))
refused_told T U DiskFailed clock old new d = d
refused_told T U DiskStopped clock old new d = d

-- how many reads were made, where the last of them was refused or found damage
pub chains_made : (S : Type 0) (image : List ℕ) (b0 b : BlockTable) (value : HeadFields) (before made total : ℕ) (e : StoreRefusal)
    → IsDiskRefusal e ⊎ (e ≡ Damaged (head_place value.number)) → ChainRead image b0 b value (Err e) made
    → ((place : ℕ) → e ≡ Damaged place → before + made ≡ total) → OpeningMade {S = S} total (Err e) (before + made)
chains_made S image b0 b value before made total Failed only read damaged = omega (arith, read)
chains_made S image b0 b value before made total Stopped only read damaged = omega (arith, read)
chains_made S image b0 b value before made total Full (inl (inl f)) read damaged = absurd (let bad : Full ≡ Failed = f in cc)
chains_made S image b0 b value before made total Full (inl (inr s)) read damaged = absurd (let bad : Full ≡ Stopped = s in cc)
chains_made S image b0 b value before made total Full (inr d) read damaged = absurd (let bad : Full ≡ Damaged
    (head_place value.number) = d in cc)
chains_made S image b0 b value before made total (Damaged place) only read damaged = damaged place refl
chains_made S image b0 b value before made total OutOfMemory only read damaged = tt
