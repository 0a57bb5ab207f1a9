-- What is shown of a store that was opened.
use Rattle.std.proofs.Common.{◌≡◌, ℕ, ◌==◌, ◌&&◌, Bool, true, false, List, [], ◌∷◌, length, map, refl, sym, ap, subst, ◌∙◌, arith}
use Rattle.std.specs.Prelude.{slice_index, Ok, Err, if◌then◌else◌}
use Rattle.std.proofs.lemmas.Bool.{eq-eqb}
use Rattle.eden_disk.specs.Told.{Told, Contents, contents, Left}
use Rattle.eden_disk.proofs.Held.{only_now}
use Rattle.passive_store.specs.Log.{with_record}
use Rattle.passive_store.specs.Kept.{Kept, Stands, LeavesKept, Idle, kept_by}
use Rattle.block_tables.specs.declared.table.Table.{Table}
use Rattle.block_tables.specs.Blocks.{Head, is_block_size, keeping, chains_of, changes_on, change_on, kept_in_blocks}
use Rattle.block_tables.specs.Blocks.{blocks_map}
use Rattle.passive_blocks.specs.BlockLayout.{Blocks, Staged, OldLog, Foreign, Blank, format_of, map_by, block_map, block_layout}
use Rattle.passive_blocks.specs.BlockLayout.{block_changes}
use Rattle.passive_blocks.specs.BlockLayout.{overfull_by}
use Rattle.block_tables.specs.HeadState.{heads_in}
use Rattle.passive_blocks.specs.StoreState.{IsTableOf, chain_in, kept_or_none}
use Rattle.passive_blocks.specs.Preparing.{AreReady}

-- the format of an image on which blocks stand
pub format_there : (image : List ℕ) → slice_index image 1 ≡ 235 → format_of image ≡ Blocks
format_there image is =
    ap (λ b. if b then Blocks else (if slice_index image 0 == 237
    then (if length image == 4194304 then (if slice_index image 2 == 234 then Staged else OldLog) else Foreign) else Blank))
    (eq-eqb (slice_index image 1) 235 is)

pub map_there : (node : ℕ) (image : List ℕ) → is_block_size (length image) ≡ true → slice_index image 1 ≡ 235 → block_map node image
    ≡ blocks_map node image
map_there node image on is =
    ap (λ b. if b then map_by (format_of image) node image else Err 0) on ∙ ap (λ f. map_by f node image) (format_there image is)

pub fits_there : (node : ℕ) (image : List ℕ) → slice_index image 1 ≡ 235 → block_layout.is_overfull node image ≡ false
fits_there node image is =
    ap (λ f. is_block_size (length image) && overfull_by f node image) (format_there image is) ∙ never (is_block_size (length image))
  where
    never : (b : Bool) → (b && false) ≡ false
    never true = refl
    never false = refl

-- whole chains keep values
all_whole : (image next : List ℕ) (hs : List Head) → changes_on image (map (chain_in next) hs) ≡ Ok (map (λ h. change_on image
    (chain_in next h)) hs)
all_whole image next [] = refl
all_whole image next (h ∷ hs) = ap (with_record (change_on image (chain_in next h))) (all_whole image next hs)

-- the blocks keep something, with a table
pub kept_found : (node : ℕ) (image : List ℕ) (c : Contents) (t : Table) → is_block_size (length image) ≡ true → AreReady node image c
    → IsTableOf node c.now t
    → kept_in_blocks c.now (Ok (heads_in t.heads.slots.items)) ≡ Ok (kept_or_none
    (kept_in_blocks c.now (Ok (heads_in t.heads.slots.items))))
kept_found node image c t allowed ready is =
    let hs : List Head = heads_in t.heads.slots.items in
    let found : kept_in_blocks c.now (Ok hs) ≡ kept_by (Ok (map (λ h. change_on c.now (chain_in t.blocks.next.items h)) (keeping hs))) =
    ap kept_by (ap (changes_on c.now) is.chains ∙ all_whole c.now t.blocks.next.items (keeping hs)) in
    found ∙ sym (ap (λ k. Ok (kept_or_none k)) found)

-- What is shown is what stood on the disk.
pub map_shown : (node : ℕ) (image : List ℕ) (c : Contents) (t : Table) → is_block_size (length image) ≡ true → AreReady node image c
    → IsTableOf node c.now t → block_map node image ≡ Ok (kept_or_none (kept_in_blocks c.now (Ok (heads_in t.heads.slots.items))))
map_shown node image c t allowed ready is =
    let hs : List Head = heads_in t.heads.slots.items in
    let whole : changes_on c.now (chains_of c.now hs) ≡ Ok (map (λ h. change_on c.now (chain_in t.blocks.next.items h)) (keeping hs)) =
    ap (changes_on c.now) is.chains ∙ all_whole c.now t.blocks.next.items (keeping hs) in
    let found : kept_in_blocks c.now (Ok hs) ≡ kept_by (Ok (map (λ h. change_on c.now (chain_in t.blocks.next.items h)) (keeping hs))) =
    ap kept_by whole in
    sym ready.prepared.map
    ∙ map_there node c.now (ap is_block_size ready.prepared.long ∙ allowed) ready.prepared.format
    ∙ ap (kept_in_blocks c.now) is.heads
    ∙ found ∙ sym (ap (λ k. Ok (kept_or_none k)) found)

-- A crash leaves what is shown.
pub stands_shown : (node more : ℕ) (image : List ℕ) (new : Told) (t : Table) → is_block_size (length image) ≡ true
    → AreReady node image (contents new) → IsTableOf node (contents new).now t → more ≡ block_changes node image
    → LeavesKept block_layout node more (kept_or_none (kept_in_blocks (contents new).now (Ok (heads_in t.heads.slots.items)))) Idle new
stands_shown node more image new t allowed ready is told = λ left l.
    let c : Contents = contents new in
    let kept : Kept = kept_or_none (kept_in_blocks c.now (Ok (heads_in t.heads.slots.items))) in
    let same : left ≡ c.now = only_now c.now left (subst (λ x. Left x left) ready.rest l) in
    subst (Stands block_layout node more kept []) (sym same) (record {
      found = ready.prepared.map ∙ map_shown node image c t allowed ready is;
      opens = fits_there node c.now ready.prepared.format;
      told = omega (arith, told, ready.prepared.told);
    })
