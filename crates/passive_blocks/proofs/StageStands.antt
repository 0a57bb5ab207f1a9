-- At each stage of a job a crash leaves only images that stand for what is kept, with or without the change.
use Rattle.std.specs.Prelude.{◌≡◌, ℕ, ◌≤◌, true, List, [], ◌∷◌, length, map, Some, Ok}
use Rattle.std.proofs.Common.{sym, ap, subst, ◌∙◌, inl}
use Rattle.eden_disk.specs.Told.{Contents, Told, at_rest, contents, LeavesOnly, EachMoment}
use Rattle.eden_disk.specs.Calls.{Counts}
use Rattle.eden_disk.specs.Held.{Holds, Passes}
use Rattle.eden_disk.proofs.Held.{moments_weaker, holds_at_rest}
use Rattle.passive_store.specs.Kept.{Kept, StoreChange, Stands, IsFresh, kept_from, nothing_kept}
use Rattle.block_tables.specs.declared.table.Table.{Table}
use Rattle.passive_blocks.specs.declared.block_store.Pending.{Pending}
use Rattle.block_tables.specs.Blocks.{keeping, kept_in_blocks, blocks_map, is_block_size}
use Rattle.passive_blocks.specs.BlockLayout.{block_layout, block_changes}
use Rattle.passive_blocks.specs.Fits.{Fits}
use Rattle.block_tables.specs.HeadState.{heads_in}
use Rattle.passive_blocks.specs.HeldState.{IsHeld}
use Rattle.passive_blocks.specs.StoreState.{IsTableOf, change_of}
use Rattle.passive_blocks.specs.StageState.{MayOpen, IsEarly, IsLate, IsSpelled}
use Rattle.passive_blocks.proofs.StageChains.{kept_by_chains, value_on}
use Rattle.passive_blocks.proofs.StageImages.{fits_stands, fits_kept, changes_is, blocks_map_is, never_overfull}
use Rattle.passive_blocks.proofs.StageLate.{late_stands, late_kept}
use Rattle.passive_blocks.proofs.StageSeen.{keeping_begun}
use Rattle.passive_blocks.proofs.StageCalls.{EarlyImages}
use Rattle.passive_blocks.proofs.StageSettling.{late_waits}

sized_began : (node size more : ℕ) (counts : Counts) (t : Table) (p : Pending) (c : Contents) → IsHeld size counts t (Some p)
    → (e : IsEarly node more t p c) → is_block_size (length e.began) ≡ true
sized_began node size more counts t p c held e = ap is_block_size e.begun.long ∙ held.table.blocks.sized

-- What is kept is what was kept when the job began.
pub early_kept : (node more : ℕ) (t : Table) (p : Pending) (c : Contents) (image : List ℕ) → (e : IsEarly node more t p c)
    → EarlyImages node more t p c e image
    → kept_in_blocks image (Ok (heads_in t.heads.slots.items)) ≡ kept_in_blocks e.began (Ok e.heads)
early_kept node more t p c image e fit =
    fits_kept e.began image e.heads (heads_in t.heads.slots.items) fit (keeping_begun node e.began e.heads t e.begun)

pub early_is_kept : (node more : ℕ) (t : Table) (p : Pending) (c : Contents) (e : IsEarly node more t p c)
    → kept_in_blocks e.began (Ok e.heads) ≡ Ok (kept_from nothing_kept (map (value_on e.began t.blocks.next.items) (keeping e.heads)))
early_is_kept node more t p c e = kept_by_chains e.began t.blocks.next.items e.heads e.begun.chains

-- Each image of an early stage stands for it,
pub early_stands : (node size more : ℕ) (counts : Counts) (t : Table) (p : Pending) (c : Contents) (kept : Kept) (image : List ℕ)
    → IsHeld size counts t (Some p) → (e : IsEarly node more t p c)
    → kept_in_blocks c.now (Ok (heads_in t.heads.slots.items)) ≡ Ok kept
    → EarlyImages node more t p c e image → Stands block_layout node more kept [] image
early_stands node size more counts t p c kept image held e is fit =
    let sized : is_block_size (length e.began) ≡ true = sized_began node size more counts t p c held e in
    let then_kept : kept_in_blocks e.began (Ok e.heads) ≡ Ok kept = sym (early_kept node more t p c c.now e e.fits.now) ∙ is in
    let map_is : blocks_map node e.began ≡ Ok kept = ap (kept_in_blocks e.began) e.begun.found ∙ then_kept in
    fits_stands node more e.began image e.heads kept sized e.begun.format e.begun.found map_is
    (subst (λ n. more ≤ n) (changes_is node e.began e.heads kept sized e.begun.format e.begun.found map_is) e.told) fit

-- also with the change in doubt,
pub stands_with : (node more : ℕ) (kept : Kept) (c : StoreChange) (image : List ℕ) → Stands block_layout node more kept [] image
    → Stands block_layout node more kept (c ∷ []) image
stands_with node more kept c image s = record { found = inl s.found; opens = s.opens; told = s.told }

-- and so does each image of a late stage.
pub late_all_stand : (node size more : ℕ) (counts : Counts) (t : Table) (p : Pending) (c : Contents) (kept : Kept) (image : List ℕ)
    → IsHeld size counts t (Some p) → IsSpelled node t.blocks.size p.head → (l : IsLate node more t p c)
    → kept_in_blocks c.now (Ok (heads_in t.heads.slots.items)) ≡ Ok kept → IsFresh (change_of p) kept
    → Fits (MayOpen l.ready p.head.number) (length l.ready) image → Stands block_layout node more kept (change_of p ∷ []) image
late_all_stand node size more counts t p c kept image held spelled l is fresh fit =
    let w = late_waits node size more counts t p c held spelled l in
    let sized : is_block_size (length l.ready) ≡ true = ap is_block_size l.is.table.long ∙ held.table.blocks.sized in
    let ready_kept : kept_in_blocks l.ready (Ok (heads_in t.heads.slots.items)) ≡ Ok kept =
    sym (late_kept node size counts l.ready c.now t p w l.fits.now) ∙ is in
    let map_is : blocks_map node l.ready ≡ Ok kept = ap (kept_in_blocks l.ready) l.is.table.heads ∙ ready_kept in
    late_stands node size more counts l.ready image t p kept w ready_kept fresh
    (subst (λ n. more ≤ n) (changes_is node l.ready (heads_in t.heads.slots.items) kept sized l.is.table.format l.is.table.heads map_is)
    l.told.now)
    (l.told.behind kept ready_kept) fit

-- The moments of a call at an early stage, and at a late one.
pub early_moments : (node size more : ℕ) (counts : Counts) (t : Table) (p : Pending) (kept : Kept) (old new : Told)
    → IsHeld size counts t (Some p) → (e : IsEarly node more t p (contents old))
    → kept_in_blocks (contents old).now (Ok (heads_in t.heads.slots.items)) ≡ Ok kept
    → Passes (EarlyImages node more t p (contents old) e) old new → EachMoment (Stands block_layout node more kept []) old new
early_moments node size more counts t p kept old new held e is passes =
    moments_weaker (EarlyImages node more t p (contents old) e) (Stands block_layout node more kept []) old new
    (λ image fit. early_stands node size more counts t p (contents old) kept image held e is fit) passes.moments

pub early_moments_with : (node size more : ℕ) (counts : Counts) (t : Table) (p : Pending) (kept : Kept) (old new : Told)
    → IsHeld size counts t (Some p) → (e : IsEarly node more t p (contents old))
    → kept_in_blocks (contents old).now (Ok (heads_in t.heads.slots.items)) ≡ Ok kept
    → Passes (EarlyImages node more t p (contents old) e) old new → EachMoment (Stands block_layout node more kept (change_of p ∷ [])) old
    new
early_moments_with node size more counts t p kept old new held e is passes =
    moments_weaker (EarlyImages node more t p (contents old) e) (Stands block_layout node more kept (change_of p ∷ [])) old new
    (λ image fit. stands_with node more kept (change_of p) image
    (early_stands node size more counts t p (contents old) kept image held e is fit)) passes.moments

pub late_moments : (node size more : ℕ) (counts : Counts) (t : Table) (p : Pending) (kept : Kept) (old new : Told)
    → IsHeld size counts t (Some p) → IsSpelled node t.blocks.size p.head → (l : IsLate node more t p (contents old))
    → kept_in_blocks (contents old).now (Ok (heads_in t.heads.slots.items)) ≡ Ok kept → IsFresh (change_of p) kept
    → Passes (Fits (MayOpen l.ready p.head.number) (length l.ready)) old new
    → EachMoment (Stands block_layout node more kept (change_of p ∷ [])) old new
late_moments node size more counts t p kept old new held spelled l is fresh passes =
    moments_weaker (Fits (MayOpen l.ready p.head.number) (length l.ready)) (Stands block_layout node more kept (change_of p ∷ [])) old new
    (λ image fit. late_all_stand node size more counts t p (contents old) kept image held spelled l is fresh fit) passes.moments

-- Where nothing waits the one image that there is stands for what is kept.
pub idle_stands : (node more : ℕ) (t : Table) (c : Contents) (kept : Kept) → is_block_size t.blocks.size ≡ true
    → c ≡ at_rest c.now → IsTableOf node c.now t → more ≤ block_changes node c.now
    → kept_in_blocks c.now (Ok (heads_in t.heads.slots.items)) ≡ Ok kept → LeavesOnly (Stands block_layout node more kept []) c
idle_stands node more t c kept sized rest is told kept_is =
    let stands : Stands block_layout node more kept [] c.now = record {
      found = blocks_map_is node c.now (ap is_block_size is.long ∙ sized) is.format ∙ ap (kept_in_blocks c.now) is.heads ∙ kept_is;
      opens = never_overfull node c.now is.format;
      told = told;
    } in
    (subst (Holds (Stands block_layout node more kept [])) (sym rest) (holds_at_rest (Stands block_layout node more kept []) c.now
    stands)).left
