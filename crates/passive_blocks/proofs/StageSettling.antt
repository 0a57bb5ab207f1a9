-- The settling of a job that was refused: a sync, and the read of the gate in doubt.
use Rattle.std.specs.Prelude.{◌≡◌, ℕ, true, false, IsTrue, length, Some, Ok}
use Rattle.std.proofs.Common.{refl, sym, ap, subst, ◌∙◌, inl, inr}
use Rattle.std.proofs.lemmas.Bool.{false≢true}
use Rattle.eden_disk.specs.Told.{Contents, Told, contents}
use Rattle.eden_disk.specs.Calls.{Counts, End, Fine, AtFault, AtStop, SyncTold, ReadTold, power_after}
use Rattle.eden_disk.proofs.Held.{passes_sync, passes_read}
use Rattle.passive_store.specs.Kept.{Kept, kept_after}
use Rattle.block_tables.specs.declared.table.Table.{Table}
use Rattle.passive_blocks.specs.declared.block_store.Pending.{Pending}
use Rattle.block_tables.specs.Blocks.{kept_in_blocks}
use Rattle.passive_blocks.specs.Fits.{Fits}
use Rattle.block_tables.specs.HeadState.{heads_in}
use Rattle.passive_blocks.specs.HeldState.{IsHeld}
use Rattle.passive_blocks.specs.StoreState.{IsTableOf, IsImageOf, change_of}
use Rattle.passive_blocks.specs.StageState.{MayOpen, IsLate, IsRefusedAt, IsSeenRefused, IsSpelled, slots_without, gate_open}
use Rattle.passive_blocks.proofs.StageLate.{Waits, slots_with, late_is_old, late_is_new, late_kept, new_kept}
use Rattle.passive_blocks.proofs.StageCalls.{EarlyImages, early_after, sync_passes}

pub late_waits : (node size more : ℕ) (counts : Counts) (t : Table) (p : Pending) (c : Contents) → IsHeld size counts t (Some p)
    → IsSpelled node t.blocks.size p.head → (l : IsLate node more t p c) → Waits node size counts l.ready t p
late_waits node size more counts t p c held spelled l = record {
  held = held;
  ready_is = l.is;
  spelled = subst (λ n. IsSpelled node n p.head) (sym l.is.table.long) spelled;
}

-- A sync leaves the doubt as it was.
pub settle_syncs : (node more : ℕ) (t : Table) (p : Pending) (gate clock : ℕ) (old new : Told) (end : End)
    → IsRefusedAt node more t p (contents old) true gate → SyncTold clock old new end → IsRefusedAt node more t p (contents new)
    (power_after end) gate
settle_syncs node more t p gate clock old new end (inl early) told =
    inl (early_after node more t p old new early.0 (sync_passes node more t p clock old new end early.0 told), seen end told)
  where
    seen : (end : End) → SyncTold clock old new end → IsTrue (power_after end) → IsSeenRefused node (contents new).now t p gate
    seen Fine told power = subst (λ now. IsSeenRefused node now t p gate) (sym (ap (λ t. (contents t).now) told)) (early.1 refl)
    seen AtFault told power = subst (λ now. IsSeenRefused node now t p gate) (sym (ap (λ t. (contents t).now) told)) (early.1 refl)
    seen AtStop told power = absurd (false≢true power)
settle_syncs node more t p gate clock old new end (inr late) told =
    inr (
      record {
        ready = late.0.ready;
        is = late.0.is;
        told = late.0.told;
        fits = (passes_sync (Fits (MayOpen late.0.ready p.head.number) (length late.0.ready)) clock old new end late.0.fits told).after;
      },
      late.1,
    )

-- And so does a read.
pub settle_reads : (node more : ℕ) (t : Table) (p : Pending) (gate clock : ℕ) (old new : Told) (end : End)
    → IsRefusedAt node more t p (contents old) true gate → ReadTold clock old new end → IsRefusedAt node more t p (contents new)
    (power_after end) gate
settle_reads node more t p gate clock old new end (inl early) told =
    inl (
      early_after node more t p old new early.0 (passes_read (EarlyImages node more t p (contents old) early.0) clock old new end
          early.0.fits told),
      seen end told,
    )
  where
    seen : (end : End) → ReadTold clock old new end → IsTrue (power_after end) → IsSeenRefused node (contents new).now t p gate
    seen Fine told power = subst (λ now. IsSeenRefused node now t p gate) (sym (ap (λ t. (contents t).now) told)) (early.1 refl)
    seen AtFault told power = subst (λ now. IsSeenRefused node now t p gate) (sym (ap (λ t. (contents t).now) told)) (early.1 refl)
    seen AtStop told power = absurd (false≢true power)
settle_reads node more t p gate clock old new end (inr late) told =
    inr (
      record {
        ready = late.0.ready;
        is = late.0.is;
        told = late.0.told;
        fits = (passes_read (Fits (MayOpen late.0.ready p.head.number) (length late.0.ready)) clock old new end late.0.fits told).after;
      },
      late.1,
    )

-- What a gate tells: that of the change is open, and it was made;
pub settles_new : (node size more : ℕ) (counts : Counts) (t : Table) (p : Pending) (c : Contents) (gate : ℕ) → IsHeld size counts t (Some p)
    → IsSpelled node t.blocks.size p.head → IsRefusedAt node more t p c true gate → gate ≡ p.head.number → gate_open c.now gate ≡ true
    → IsImageOf node c.now (slots_with t p) t.blocks.next.items t.blocks.size
settles_new node size more counts t p c gate held spelled (inl early) own opens =
    absurd (false≢true (sym (early.1 refl).shut ∙ ap (gate_open c.now) (sym own) ∙ opens))
settles_new node size more counts t p c gate held spelled (inr late) own opens =
    late_is_new node size counts late.0.ready c.now t p (late_waits node size more counts t p c held spelled late.0) late.0.fits.now
    (ap (gate_open c.now) (sym own) ∙ opens)

-- or it is shut, and it was not;
pub settles_old : (node size more : ℕ) (counts : Counts) (t : Table) (p : Pending) (c : Contents) (gate : ℕ) → IsHeld size counts t (Some p)
    → IsSpelled node t.blocks.size p.head → IsRefusedAt node more t p c true gate → gate ≡ p.head.number → gate_open c.now gate ≡ false
    → IsTableOf node c.now t
settles_old node size more counts t p c gate held spelled (inl early) own shut = (early.1 refl).own own
settles_old node size more counts t p c gate held spelled (inr late) own shut =
    late_is_old node size counts late.0.ready c.now t p (late_waits node size more counts t p c held spelled late.0) late.0.fits.now
    (ap (gate_open c.now) (sym own) ∙ shut)

-- or that of a head which it was to close is open still, or closed.
pub settles_open : (node more : ℕ) (t : Table) (p : Pending) (c : Contents) (gate : ℕ) → IsRefusedAt node more t p c true gate
    → (gate ≡ p.head.number → ⊥) → gate_open c.now gate ≡ true → IsTableOf node c.now t
settles_open node more t p c gate (inl early) other opens = (early.1 refl).still_open other opens
settles_open node more t p c gate (inr late) other opens = absurd (other late.1)

pub settles_closed : (node more : ℕ) (t : Table) (p : Pending) (c : Contents) (gate : ℕ) → IsRefusedAt node more t p c true gate
    → (gate ≡ p.head.number → ⊥) → gate_open c.now gate ≡ false
    → IsImageOf node c.now (slots_without t gate) t.blocks.next.items t.blocks.size
settles_closed node more t p c gate (inl early) other shut = (early.1 refl).closed other shut
settles_closed node more t p c gate (inr late) other shut = absurd (other late.1)

-- A change that was made gives what was kept, with it.
pub settled_kept : (node size more : ℕ) (counts : Counts) (t : Table) (p : Pending) (c : Contents) (kept : Kept) → IsHeld size counts t
    (Some p)
    → IsSpelled node t.blocks.size p.head → IsLate node more t p c → kept_in_blocks c.now (Ok (heads_in t.heads.slots.items)) ≡ Ok kept
    → kept_in_blocks c.now (Ok (heads_in (slots_with t p))) ≡ Ok (kept_after (change_of p) kept)
settled_kept node size more counts t p c kept held spelled l is =
    let w = late_waits node size more counts t p c held spelled l in
    new_kept node size counts l.ready c.now t p kept w l.fits.now (sym (late_kept node size counts l.ready c.now t p w l.fits.now) ∙ is)
