-- One call of a settling: what is seen of it.
use Rattle.std.specs.Prelude.{◌≡◌, ℕ, Bool, true, false, IsTrue, List, [], ◌∷◌}
use Rattle.std.specs.Prelude.{Option, None, Some, Ok, Err}
use Rattle.std.proofs.Common.{refl, subst, inl, inr}
use Rattle.eden_disk.specs.Told.{Contents, Told, contents, LeavesOnly, EachMoment}
use Rattle.eden_disk.specs.Calls.{Counts, Fine}
use Rattle.eden_disk.specs.Held.{Holds, Passes}
use Rattle.passive_store.specs.declared.store.Pick.{Pick}
use Rattle.passive_store.specs.declared.store.Progress.{Progress}
use Rattle.passive_store.specs.declared.store.Progress.TheVariants.{Going, Done}
use Rattle.passive_store.specs.declared.store.StoreRefusal.{StoreRefusal}
use Rattle.passive_store.specs.Acts.{DiskCall, Sync, Read, CallTold, settling_call}
use Rattle.passive_store.specs.Kept.{Kept, StoreChange, Idle, Unsettled, Stands, IsFresh, IsDiskRefusal, end_of_store}
use Rattle.passive_store.specs.Kept.{settled}
use Rattle.passive_store.specs.Seen.{DiskSeen, SettlesOneCall}
use Rattle.block_tables.specs.declared.table.Table.{Table}
use Rattle.passive_blocks.specs.declared.block_store.Pending.{Pending}
use Rattle.block_tables.specs.Blocks.{kept_in_blocks}
use Rattle.passive_blocks.specs.BlockLayout.{block_layout}
use Rattle.block_tables.specs.HeadState.{heads_in}
use Rattle.passive_blocks.specs.HeldState.{IsHeld}
use Rattle.passive_blocks.specs.StoreState.{change_of, kept_or_none}
use Rattle.passive_blocks.specs.StageState.{IsRefusedAt, IsSpelled, IsWaiting}
use Rattle.passive_blocks.proofs.StageStands.{early_moments_with, late_moments}
use Rattle.passive_blocks.proofs.StageKeeps.{early_keeps, late_keeps}
use Rattle.passive_blocks.proofs.StageAdvances.{OneCall, seen_with}
use Rattle.passive_blocks.proofs.StageGoes.{early_known, late_known}

-- a call that keeps all that holds
abbrev pub KeepsAll : Told → Told → Type 1
KeepsAll old new = (P : List ℕ → Type 0) → Holds P (contents old) → Passes P old new

-- what is kept is known in doubt as well
pub refused_known : (node size more : ℕ) (counts : Counts) (t : Table) (p : Pending) (c : Contents) (power : Bool) (gate : ℕ)
    → IsHeld size counts t (Some p) → IsWaiting node size t p → IsRefusedAt node more t p c power gate
    → kept_in_blocks c.now (Ok (heads_in t.heads.slots.items)) ≡ Ok (kept_or_none
    (kept_in_blocks c.now (Ok (heads_in t.heads.slots.items))))
refused_known node size more counts t p c power gate held waits (inl early) = early_known node more t p c early.0
refused_known node size more counts t p c power gate held waits (inr late) = late_known node size more counts t p c held waits late.0

-- and stays through a call of the settling,
pub settle_keeps : (node size more : ℕ) (counts : Counts) (t : Table) (p : Pending) (power : Bool) (gate : ℕ) (kept : Kept) (old new : Told)
    → IsHeld size counts t (Some p) → IsSpelled node t.blocks.size p.head → IsRefusedAt node more t p (contents old) power gate → KeepsAll
    old new
    → kept_in_blocks (contents old).now (Ok (heads_in t.heads.slots.items)) ≡ Ok kept
    → kept_in_blocks (contents new).now (Ok (heads_in t.heads.slots.items)) ≡ Ok kept
settle_keeps node size more counts t p power gate kept old new held spelled (inl early) keeps is =
    early_keeps node more t p kept old new early.0 (keeps _ early.0.fits) is
settle_keeps node size more counts t p power gate kept old new held spelled (inr late) keeps is =
    late_keeps node size more counts t p kept old new held spelled late.0 (keeps _ late.0.fits) is

-- at whose moments a crash leaves it, with or without the change.
pub settle_moments : (node size more : ℕ) (counts : Counts) (t : Table) (p : Pending) (power : Bool) (gate : ℕ) (kept : Kept)
    (old new : Told)
    → IsHeld size counts t (Some p) → IsSpelled node t.blocks.size p.head → IsRefusedAt node more t p (contents old) power gate → KeepsAll
    old new
    → kept_in_blocks (contents old).now (Ok (heads_in t.heads.slots.items)) ≡ Ok kept → IsFresh (change_of p) kept
    → EachMoment (Stands block_layout node more kept (change_of p ∷ [])) old new
settle_moments node size more counts t p power gate kept old new held spelled (inl early) keeps is fresh =
    early_moments_with node size more counts t p kept old new held early.0 is (keeps _ early.0.fits)
settle_moments node size more counts t p power gate kept old new held spelled (inr late) keeps is fresh =
    late_moments node size more counts t p kept old new held spelled late.0 is fresh (keeps _ late.0.fits)

-- A call of it that was refused,
pub settle_failed : (tells obeys : Bool) (node more : ℕ) (c : StoreChange) (synced : Bool) (call : DiskCall) (picked : Option Pick)
    (kept then_kept : Kept) (old new : DiskSeen) (e : StoreRefusal) → call ≡ settling_call synced → IsDiskRefusal e
    → OneCall tells obeys call (end_of_store {T = Progress} (Err e)) old new → (IsTrue tells → then_kept ≡ kept)
    → (IsTrue tells → IsFresh c kept)
    → (IsTrue tells → LeavesOnly (Stands block_layout node more then_kept (c ∷ [])) (contents new.told))
    → (IsTrue tells → EachMoment (Stands block_layout node more kept (c ∷ [])) old.told new.told)
    → SettlesOneCall tells obeys block_layout (Err e) (seen_with node (Unsettled c synced) picked kept more old)
    (seen_with node (Unsettled c false) None then_kept more new)
settle_failed tells obeys node more c synced call picked kept then_kept old new e is refusal one same fresh stands moments = record {
  goes = record { node = refl; obeyed = one.obeyed; timed = one.timed; stands = stands };
  only = refusal;
  counts = one.counts;
  last = tt;
  told = λ telling. subst (λ k. CallTold k new.counts.clock old.told new.told (end_of_store {T = Progress} (Err e))) is (one.told telling);
  work = refl;
  picked = refl;
  more = refl;
  at = refl;
  kept = same;
  fresh = fresh;
  moments = moments;
}

-- its sync,
pub settle_synced : (tells obeys : Bool) (node more : ℕ) (c : StoreChange) (picked : Option Pick) (kept then_kept : Kept)
    (old new : DiskSeen)
    → OneCall tells obeys Sync Fine old new → (IsTrue tells → then_kept ≡ kept) → (IsTrue tells → IsFresh c kept)
    → (IsTrue tells → LeavesOnly (Stands block_layout node more then_kept (c ∷ [])) (contents new.told))
    → (IsTrue tells → EachMoment (Stands block_layout node more kept (c ∷ [])) old.told new.told)
    → SettlesOneCall tells obeys block_layout (Ok Going) (seen_with node (Unsettled c false) picked kept more old)
    (seen_with node (Unsettled c true) None then_kept more new)
settle_synced tells obeys node more c picked kept then_kept old new one same fresh stands moments = record {
  goes = record { node = refl; obeyed = one.obeyed; timed = one.timed; stands = stands };
  only = tt;
  counts = one.counts;
  last = refl;
  told = one.told;
  work = refl;
  picked = refl;
  more = refl;
  at = refl;
  kept = same;
  fresh = fresh;
  moments = moments;
}

-- and its read, which ends it.
pub settle_done : (tells obeys : Bool) (node more : ℕ) (c : StoreChange) (picked : Option Pick) (pick : Pick) (kept then_kept : Kept)
    (old new : DiskSeen)
    → OneCall tells obeys Read Fine old new → (IsTrue tells → then_kept ≡ settled (Some pick) (Unsettled c true) kept)
    → (IsTrue tells → IsFresh c kept)
    → (IsTrue tells → LeavesOnly (Stands block_layout node more then_kept []) (contents new.told))
    → (IsTrue tells → EachMoment (Stands block_layout node more kept (c ∷ [])) old.told new.told)
    → SettlesOneCall tells obeys block_layout (Ok Done) (seen_with node (Unsettled c true) picked kept more old)
    (seen_with node Idle (Some pick) then_kept more new)
settle_done tells obeys node more c picked pick kept then_kept old new one after fresh stands moments = record {
  goes = record { node = refl; obeyed = one.obeyed; timed = one.timed; stands = stands };
  only = tt;
  counts = one.counts;
  last = refl;
  told = one.told;
  work = refl;
  picked = refl;
  more = refl;
  at = refl;
  kept = after;
  fresh = fresh;
  moments = moments;
}
