-- What a settling leaves of a store.
use Rattle.std.specs.Prelude.{◌≡◌, ◌⊎◌, ℕ, ◌≤◌, Bool, true, false, ◌&&◌, ◌==◌, List}
use Rattle.std.specs.Prelude.{Some, Ok, slice_set, if◌then◌else◌}
use Rattle.std.proofs.Common.{refl, sym, ap, subst, ◌∙◌, inl, inr, eq-eqb}
use Rattle.std.proofs.lemmas.Bool.{false≢true, ne_eqb, cases_eq}
use Rattle.eden_disk.specs.Told.{Contents}
use Rattle.eden_disk.specs.Calls.{Counts}
use Rattle.passive_store.specs.declared.store.Pick.{Pick}
use Rattle.passive_store.specs.declared.store.Pick.TheVariants.{Old, New}
use Rattle.passive_store.specs.Kept.{Kept, IsFresh, Unsettled, settled, kept_after}
use Rattle.block_tables.specs.declared.heads.HeadFields.{HeadFields}
use Rattle.block_tables.specs.declared.table.Table.{Table}
use Rattle.passive_blocks.specs.declared.block_store.Pending.{Pending}
use Rattle.block_tables.specs.Members.{is_member}
use Rattle.block_tables.specs.Blocks.{keeping, kept_in_blocks}
use Rattle.passive_blocks.specs.BlockLayout.{block_changes}
use Rattle.block_tables.specs.HeadState.{heads_in, slot_at, entry_at}
use Rattle.passive_blocks.specs.HeldState.{IsHeld}
use Rattle.passive_blocks.specs.StoreState.{IsImageOf, change_of}
use Rattle.passive_blocks.specs.StageState.{IsRefusedAt, IsSpelled, settled_slots, settled_pick, slots_without, gate_open}
use Rattle.passive_blocks.proofs.HeldKeepers.{keeping_when_closed}
use Rattle.passive_blocks.proofs.StageLate.{slots_with}
use Rattle.passive_blocks.proofs.StageSettling.{settles_new, settles_old, settles_open, settles_closed, settled_kept}
use Rattle.passive_blocks.proofs.StageStands.{early_stands, late_all_stand}
use Rattle.passive_blocks.proofs.StageKeeps.{same_keepers}

-- For so many more changes the room is told of what is seen.
pub refused_told : (node size more : ℕ) (counts : Counts) (t : Table) (p : Pending) (c : Contents) (power : Bool) (gate : ℕ) (kept : Kept)
    → IsHeld size counts t (Some p) → IsSpelled node t.blocks.size p.head → IsRefusedAt node more t p c power gate
    → kept_in_blocks c.now (Ok (heads_in t.heads.slots.items)) ≡ Ok kept → IsFresh (change_of p) kept → more ≤ block_changes node c.now
refused_told node size more counts t p c power gate kept held spelled (inl early) is fresh =
    (early_stands node size more counts t p c kept c.now held early.0 is early.0.fits.now).told
refused_told node size more counts t p c power gate kept held spelled (inr late) is fresh =
    (late_all_stand node size more counts t p c kept c.now held spelled late.0 is fresh late.0.fits.now).told

-- By what the gate says, the image and what is kept on it.
pub record IsFoundBy (node : ℕ) (t : Table) (p : Pending) (c : Contents) (kept : Kept) (slots : List HeadFields) (pick : Pick) : Type 0
  where
    pub image : IsImageOf node c.now slots t.blocks.next.items t.blocks.size
    pub keeps : kept_in_blocks c.now (Ok (heads_in slots)) ≡ Ok (settled (Some pick) (Unsettled (change_of p) true) kept)

closed_keeping : (size : ℕ) (counts : Counts) (t : Table) (p : Pending) (gate : ℕ) → IsHeld size counts t (Some p)
    → is_member t.heads.closing gate ≡ true → keeping (heads_in (slots_without t gate)) ≡ keeping (heads_in t.heads.slots.items)
closed_keeping size counts t p gate held closing =
    let may = held.closing gate closing in
    let slots = t.heads.slots.items in
    let entry = entry_at t.heads.index (slot_at slots gate).uid in
    keeping_when_closed slots gate entry.latest entry.others held.apart may.on may.opened
    (held.table.heads.entries (slot_at slots gate).uid)
    may.alone may.removal

made_late : (node size more : ℕ) (counts : Counts) (t : Table) (p : Pending) (c : Contents) (gate : ℕ) (kept : Kept) → IsHeld size counts t
    (Some p)
    → IsSpelled node t.blocks.size p.head → IsRefusedAt node more t p c true gate → gate ≡ p.head.number → gate_open c.now gate ≡ true
    → kept_in_blocks c.now (Ok (heads_in t.heads.slots.items)) ≡ Ok kept
    → kept_in_blocks c.now (Ok (heads_in (slots_with t p))) ≡ Ok (kept_after (change_of p) kept)
made_late node size more counts t p c gate kept held spelled (inl early) own opens is =
    absurd (false≢true (sym (early.1 refl).shut ∙ ap (gate_open c.now) (sym own) ∙ opens))
made_late node size more counts t p c gate kept held spelled (inr late) own opens is =
    settled_kept node size more counts t p c kept held spelled late.0 is

pub found_by_gate : (node size more : ℕ) (counts : Counts) (t : Table) (p : Pending) (c : Contents) (gate : ℕ) (kept : Kept) (opened : Bool)
    → IsHeld size counts t (Some p) → IsSpelled node t.blocks.size p.head → IsRefusedAt node more t p c true gate
    → (gate ≡ p.head.number) ⊎ (is_member t.heads.closing gate ≡ true) → gate_open c.now gate ≡ opened
    → kept_in_blocks c.now (Ok (heads_in t.heads.slots.items)) ≡ Ok kept
    → IsFoundBy node t p c kept (settled_slots t p gate opened) (settled_pick p gate opened)
found_by_gate node size more counts t p c gate kept opened held spelled on staged says is = go opened says (cases_eq gate p.head.number)
  where
    at : (b : Bool) (opened : Bool) → (gate == p.head.number) ≡ b
        → IsFoundBy node t p c kept
        (if b then (if opened then slice_set t.heads.slots.items p.head.number p.head else t.heads.slots.items)
        else (if opened then t.heads.slots.items else slots_without t gate)) (if b && opened then New else Old)
        → IsFoundBy node t p c kept (settled_slots t p gate opened) (settled_pick p gate opened)
    at b opened same found = subst (λ b. IsFoundBy node t p c kept
        (if b then (if opened then slice_set t.heads.slots.items p.head.number p.head else t.heads.slots.items)
        else (if opened then t.heads.slots.items else slots_without t gate)) (if b && opened then New else Old)) (sym same) found

    go : (opened : Bool) → gate_open c.now gate ≡ opened → (gate ≡ p.head.number) ⊎ (gate ≡ p.head.number → ⊥)
        → IsFoundBy node t p c kept (settled_slots t p gate opened) (settled_pick p gate opened)
    go true says (inl own) = at true true (eq-eqb gate p.head.number own) (record {
      image = settles_new node size more counts t p c gate held spelled on own says;
      keeps = made_late node size more counts t p c gate kept held spelled on own says is;
    })
    go false says (inl own) = at true false (eq-eqb gate p.head.number own) (record {
      image = settles_old node size more counts t p c gate held spelled on own says;
      keeps = is;
    })
    go true says (inr other) = at false true (ne_eqb gate p.head.number other) (record {
      image = settles_open node more t p c gate on other says;
      keeps = is;
    })
    go false says (inr other) = at false false (ne_eqb gate p.head.number other) (record {
      image = settles_closed node more t p c gate on other says;
      keeps = elim staged [
        | inl own ↦ absurd (other own)
        | inr closing ↦ same_keepers c.now (heads_in (slots_without t gate)) (heads_in t.heads.slots.items)
            (closed_keeping size counts t p gate held closing) ∙ is
      ];
    })
