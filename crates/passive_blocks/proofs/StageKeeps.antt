-- What is kept stays what it is through a call of a job, up to the last.
use Rattle.std.specs.Prelude.{◌≡◌, ℕ, true, List, length, Some, Ok}
use Rattle.std.proofs.Common.{refl, sym, ap, ◌∙◌}
use Rattle.std.proofs.lemmas.Bool.{false≢true}
use Rattle.eden_disk.specs.Told.{Told, contents}
use Rattle.eden_disk.specs.Calls.{Counts, End, Fine, SyncTold}
use Rattle.eden_disk.specs.Held.{Passes}
use Rattle.passive_store.specs.Acts.{CallTold}
use Rattle.passive_store.specs.Kept.{Kept, kept_after, kept_by}
use Rattle.block_tables.specs.declared.table.Table.{Table}
use Rattle.passive_blocks.specs.declared.block_store.Pending.{Pending}
use Rattle.passive_blocks.specs.declared.block_store.Stage.{Stage}
use Rattle.passive_blocks.specs.declared.block_store.Stage.TheVariants.{Close, Write as WritePart, Head as WriteHead, SyncHead, Open}
use Rattle.passive_blocks.specs.declared.block_store.Stage.TheVariants.{SyncOpen}
use Rattle.passive_blocks.specs.declared.block_store.Stage.TheVariants.{Ended}
use Rattle.block_tables.specs.Members.{is_member}
use Rattle.block_tables.specs.Blocks.{Head, keeping, kept_in_blocks, chains_among, changes_on, data_blocks}
use Rattle.block_tables.specs.Changes.{spelled_head}
use Rattle.passive_blocks.specs.Fits.{Fits}
use Rattle.block_tables.specs.HeadSeen.{head_of}
use Rattle.block_tables.specs.HeadState.{heads_in}
use Rattle.passive_blocks.specs.HeldState.{IsHeld}
use Rattle.passive_blocks.specs.StoreState.{change_of}
use Rattle.passive_blocks.specs.StageState.{MayOpen, IsEarly, IsLate, IsStageOn, IsStaged, IsSpelled, is_going, stage_call, first_closed}
use Rattle.passive_blocks.proofs.StageLate.{late_kept, slots_with}
use Rattle.passive_blocks.proofs.StageCalls.{EarlyImages, close_passes, head_passes, sync_passes}
use Rattle.passive_blocks.proofs.StageSteps.{part_passes}
use Rattle.passive_blocks.proofs.StageOpens.{long_head, open_passes, last_passes, late_ready}
use Rattle.passive_blocks.proofs.StageSettling.{late_waits, settled_kept}
use Rattle.passive_blocks.proofs.StageStands.{early_kept}

-- heads that keep the same give the same
pub same_keepers : (image : List ℕ) (some more : List Head) → keeping some ≡ keeping more
    → kept_in_blocks image (Ok some) ≡ kept_in_blocks image (Ok more)
same_keepers image some more same = ap (λ hs. kept_by (changes_on image (chains_among image (data_blocks (length image)) hs))) same

pub early_keeps : (node more : ℕ) (t : Table) (p : Pending) (kept : Kept) (old new : Told) → (e : IsEarly node more t p (contents old))
    → Passes (EarlyImages node more t p (contents old) e) old new
    → kept_in_blocks (contents old).now (Ok (heads_in t.heads.slots.items)) ≡ Ok kept
    → kept_in_blocks (contents new).now (Ok (heads_in t.heads.slots.items)) ≡ Ok kept
early_keeps node more t p kept old new e passes is =
    early_kept node more t p (contents old) (contents new).now e passes.after.now
    ∙ sym (early_kept node more t p (contents old) (contents old).now e e.fits.now) ∙ is

pub late_keeps : (node size more : ℕ) (counts : Counts) (t : Table) (p : Pending) (kept : Kept) (old new : Told) → IsHeld size counts t
    (Some p)
    → IsSpelled node t.blocks.size p.head → (l : IsLate node more t p (contents old))
    → Passes (Fits (MayOpen l.ready p.head.number) (length l.ready)) old new
    → kept_in_blocks (contents old).now (Ok (heads_in t.heads.slots.items)) ≡ Ok kept
    → kept_in_blocks (contents new).now (Ok (heads_in t.heads.slots.items)) ≡ Ok kept
late_keeps node size more counts t p kept old new held spelled l passes is =
    let w = late_waits node size more counts t p (contents old) held spelled l in
    late_kept node size counts l.ready (contents new).now t p w passes.after.now
    ∙ sym (late_kept node size counts l.ready (contents old).now t p w l.fits.now) ∙ is

-- By the table before the call, however it ends.
pub call_keeps : (node size more : ℕ) (counts : Counts) (t : Table) (p : Pending) (clock : ℕ) (kept : Kept) (old new : Told) (stage : Stage)
    (end : End) → IsHeld size counts t (Some p) → IsStaged t p stage → IsSpelled node t.blocks.size p.head
    → IsStageOn node more t p (contents old) true stage → is_going stage ≡ true
    → (stage ≡ Close → is_member t.heads.closing (first_closed t) ≡ true)
    → CallTold (stage_call t p stage) clock old new end
    → kept_in_blocks (contents old).now (Ok (heads_in t.heads.slots.items)) ≡ Ok kept
    → kept_in_blocks (contents new).now (Ok (heads_in t.heads.slots.items)) ≡ Ok kept
call_keeps node size more counts t p clock kept old new Close end held staged spelled on going first told is =
    early_keeps node more t p kept old new on.0 (close_passes node size more counts t p (first_closed t) clock old new end held on.0
    (first refl) told) is
call_keeps node size more counts t p clock kept old new (WritePart block from) end held staged spelled on going first told is =
    early_keeps node more t p kept old new on.0 (part_passes node size more counts t p block from clock old new end held on.0 staged told)
    is
call_keeps node size more counts t p clock kept old new WriteHead end held staged spelled on going first told is =
    early_keeps node more t p kept old new on.0
    (head_passes node size more counts t p clock (spelled_head (head_of p.head)) old new end held on.0 (long_head (head_of p.head)) told) is
call_keeps node size more counts t p clock kept old new SyncHead end held staged spelled on going first told is =
    early_keeps node more t p kept old new on.0 (sync_passes node more t p clock old new end on.0 told) is
call_keeps node size more counts t p clock kept old new Open end held staged spelled on going first told is =
    late_keeps node size more counts t p kept old new held spelled
    (record { ready = (contents old).now; is = on.1; told = on.2; fits = late_ready node more t p (contents old) on })
    (open_passes node size more counts t p clock old new end held on told) is
call_keeps node size more counts t p clock kept old new SyncOpen end held staged spelled on going first told is =
    late_keeps node size more counts t p kept old new held spelled on.0 (last_passes node more t p clock old new end on.0 told) is
call_keeps node size more counts t p clock kept old new (Ended gate synced) end held staged spelled on going first told is =
    absurd (false≢true going)

-- Behind the last call the change is made.
pub last_keeps : (node size more : ℕ) (counts : Counts) (t : Table) (p : Pending) (clock : ℕ) (kept : Kept) (old new : Told)
    → IsHeld size counts t (Some p) → IsSpelled node t.blocks.size p.head → IsStageOn node more t p (contents old) true SyncOpen
    → SyncTold clock old new Fine → kept_in_blocks (contents old).now (Ok (heads_in t.heads.slots.items)) ≡ Ok kept
    → kept_in_blocks (contents new).now (Ok (heads_in (slots_with t p))) ≡ Ok (kept_after (change_of p) kept)
last_keeps node size more counts t p clock kept old new held spelled on told is =
    ap (λ t2. kept_in_blocks (contents t2).now (Ok (heads_in (slots_with t p)))) told
    ∙ settled_kept node size more counts t p (contents old) kept held spelled on.0 is
