-- The device calls of a change on any image are so many as those of a job may be.
use Rattle.std.proofs.Common.{◌≡◌, ℕ, suc, ◌+◌, ◌*◌, ◌/◌, ◌≤◌, Bool, true, false, ◌&&◌, ◌==◌, IsTrue, List, [], ◌∷◌, ◌++◌, length}
use Rattle.std.proofs.Common.{map, take}
use Rattle.std.proofs.Common.{refl, arith}
use Rattle.std.specs.Prelude.{if◌then◌else◌, filter, not, slice_index, Option, None, Result, Ok, Err}
use Rattle.std.specs.List.{list_any}
use Rattle.std.proofs.lemmas.Bool.{false≢true, le-leb}
use Rattle.std.proofs.lemmas.List.{length-append, length-map, length-take}
use Rattle.capability.specs.declared.Uid.{Uid}
use Rattle.eden_disk.specs.Told.{contents}
use Rattle.passive_store.specs.declared.store.Pick.{Pick}
use Rattle.passive_store.specs.Acts.{DiskCall, Write, Sync}
use Rattle.passive_store.specs.Kept.{Kept, Work}
use Rattle.passive_store.specs.Seen.{Asked, DiskSeen}
use Rattle.block_tables.specs.Blocks.{Head, head_numbers, data_count, data_blocks, blocks_for, head_place, head_bytes, head_in, is_head}
use Rattle.block_tables.specs.Blocks.{joined_head, heads_among, heads_of, heads_or_none, closing, has, taken_by, chains_of}
use Rattle.block_tables.specs.Changes.{blocks_job, bytes_of, chain_writes, free_blocks, new_head, spelled_head}
use Rattle.passive_blocks.specs.BlockLayout.{block_layout}
use Rattle.passive_blocks.proofs.HeldBegun.{few_members, numbers_long, writes_long}
use Rattle.passive_blocks.proofs.StageAdvances.{seen_with}
use Rattle.passive_blocks.proofs.StoreChanges.{IsJobAsked}

-- an image has at most so many open heads as it has heads
heads_few : (node : ℕ) (image before ns : List ℕ) → length (heads_or_none (heads_among node image before ns)) ≤ length ns
unfolding heads_among
heads_few node image before [] = omega arith
heads_few node image before (n ∷ ns) =
    let bytes = head_bytes image n in
    let h : Head = head_in n bytes in
    joined (slice_index bytes 0 == 225) (is_head node (length image) bytes h && not (list_any (λ s. s == h.sequence) before)) h
    (heads_among node image (if slice_index bytes 0 == 225 then h.sequence ∷ before else before) ns) (length ns)
    (heads_few node image (if slice_index bytes 0 == 225 then h.sequence ∷ before else before) ns)
  where
    joined : (b c : Bool) (h : Head) (rest : Result (List Head) ℕ) (m : ℕ) → length (heads_or_none rest) ≤ m
        → length (heads_or_none (joined_head b c h rest)) ≤ suc m
    joined false c h rest m less = omega (arith, less)
    joined true false h rest m less = omega arith
    joined true true h (Ok hs) m less = omega (arith, less)
    joined true true h (Err place) m less = omega arith

few_heads : (q : Head → Bool) (hs : List Head) → length (filter q hs) ≤ length hs
few_heads q [] = omega arith
few_heads q (h ∷ hs) = go (q h) (few_heads q hs)
  where
    go : (b : Bool) → length (filter q hs) ≤ length hs → length (if b then h ∷ filter q hs else filter q hs) ≤ suc (length hs)
    go true less = omega (arith, less)
    go false less = omega (arith, less)

-- and at most so many free blocks as it has blocks
free_few : (image : List ℕ) (heads : List Head) → length (free_blocks image heads) ≤ length image / 1024
free_few image heads =
    omega (
      arith,
      few_members (λ b. not (has b (taken_by (chains_of image heads)))) (data_blocks (length image)),
      numbers_long (1 + length image / 32768) (data_count (length image)),
    )

closing_few : (node : ℕ) (image : List ℕ) → length (closing (heads_or_none (heads_of node image))) ≤ length image / 1024
closing_few node image =
    let heads : List Head = heads_or_none (heads_of node image) in
    omega (
      arith,
      few_closing heads,
      heads_few node image [] (head_numbers (length image)),
      numbers_long 0 (length image / 1024),
    )
  where
    few_closing : (hs : List Head) → length (closing hs) ≤ length hs
    few_closing hs = few_heads _ hs

taken_few : (count : ℕ) (blocks : List ℕ) → length (take count blocks) ≤ length blocks
taken_few count blocks = omega (arith, length-take count blocks)

job_long : (node : ℕ) (image : List ℕ) (uid : Uid) (body : Option (List ℕ))
    → (4 ≤ length (blocks_job node None image uid body)) × (length (blocks_job node None image uid body) ≤ 2 * (length image / 1024) + 4)
job_long node image uid body =
    let heads : List Head = heads_or_none (heads_of node image) in
    let blocks : List ℕ = take (blocks_for body) (free_blocks image heads) in
    let h : Head = new_head (length image) heads blocks uid body in
    let closes : List DiskCall = map (λ (c : Head). Write (head_place c.number) (0 ∷ [])) (closing heads) in
    let writes : List DiskCall = chain_writes blocks (bytes_of body) in
    let last : List DiskCall = Write (head_place h.number + 1) (spelled_head h) ∷ Sync
    ∷ Write (head_place h.number) (225 ∷ []) ∷ Sync ∷ [] in
    let all = length-append closes (writes ++ last) in
    let behind = length-append writes last in
    let made = writes_long blocks (bytes_of body) in
    let closed = length-map (closing heads) (λ (c : Head). Write (head_place c.number) (0 ∷ [])) in (
      omega (arith, all, behind),
      omega (
        arith,
        all,
        behind,
        made,
        closed,
        closing_few node image,
        taken_few (blocks_for body) (free_blocks image heads),
        free_few image heads,
      ),
    )

-- The job of a change on a disk as it is seen, or any one where the disk does not tell.
pub job_asked : (tells : Bool) (node : ℕ) (work : Work) (picked : Option Pick) (kept : Kept) (more : ℕ) (d : DiskSeen) (ask : Asked)
    → (IsTrue tells → length (contents d.told).now ≡ d.counts.size)
    → IsJobAsked tells block_layout ask (seen_with node work picked kept more d)
job_asked true node work picked kept more d ask long =
    let image = (contents d.told).now in
    let job = job_long node image ask.uid ask.body in
    record {
      calls = blocks_job node None image ask.uid ask.body;
      bounded = (omega (arith, job.0), (length image / 1024, omega (arith, long refl), job.1));
      job = le-leb 4 (length (blocks_job node None image ask.uid ask.body)) job.0;
      by_layout = λ so. refl;
    }
job_asked false node work picked kept more d ask long = record {
  calls = Sync ∷ Sync ∷ Sync ∷ Sync ∷ [];
  bounded = (omega arith, (0, omega arith, omega arith));
  job = refl;
  by_layout = λ so. absurd (false≢true so);
}
