-- The last stages of a job: its head is written, and opened between two syncs.
use Rattle.std.specs.Prelude.{◌≡◌, ℕ, ◌+◌, ◌-◌, ◌*◌, ◌/◌, ◌%◌, ◌≤◌, ◌<◌, Bool, true, ◌==◌, List, [], ◌∷◌}
use Rattle.std.specs.Prelude.{length, slice_range, Some}
use Rattle.std.proofs.Common.{refl, sym, ap, subst, ◌∙◌, inl, inr, arith, get_or}
use Rattle.std.specs.Int.{w16, from_be_bytes}
use Rattle.std.proofs.lemmas.Bool.{false≢true}
use Rattle.std.proofs.lemmas.Bool.Decides.{nat_tests}
use Rattle.std.proofs.lemmas.List.{take_all}
use Rattle.eden_disk.specs.Told.{Contents, Told, at_rest, contents, overlay, noted, Synced}
use Rattle.eden_disk.specs.Calls.{Counts, End, Fine, AtFault, AtStop, WriteTold, SyncTold, power_after}
use Rattle.eden_disk.specs.Held.{Holds, Passes}
use Rattle.eden_disk.proofs.Held.{holds_at_rest, passes_sync}
use Rattle.eden_disk.proofs.Overlay.{overlay_inside}
use Rattle.block_tables.specs.declared.table.Table.{Table}
use Rattle.passive_blocks.specs.declared.block_store.Pending.{Pending}
use Rattle.passive_blocks.specs.declared.block_store.Stage.TheVariants.{Head as WriteHead, SyncHead, Open}
use Rattle.passive_blocks.specs.declared.block_store.Stage.TheVariants.{SyncOpen}
use Rattle.block_tables.specs.Blocks.{Head, head_place, is_data, blocks_of}
use Rattle.block_tables.specs.Changes.{spelled_head}
use Rattle.passive_blocks.specs.Fits.{Fits}
use Rattle.block_tables.specs.HeadSeen.{head_of}
use Rattle.passive_blocks.specs.HeldState.{IsHeld, behind_walk}
use Rattle.passive_blocks.specs.StoreState.{IsTableOf, IsImageOf}
use Rattle.passive_blocks.specs.StageState.{MayOpen, IsReady, IsToldReady, IsLate, IsRefusedAt, IsStageOn}
use Rattle.passive_blocks.specs.StageState.{gate_open}
use Rattle.passive_blocks.specs.StageState.{IsSpelled, part_of_body}
use Rattle.passive_blocks.proofs.Agreeing.{SameBlock}
use Rattle.passive_blocks.proofs.Fitting.{fits_write}
use Rattle.passive_blocks.proofs.Spans.{same_part}
use Rattle.passive_blocks.proofs.StageLate.{Waits, late_is_new, slots_with, walk_has, short_part, part_else, whole_size}
use Rattle.passive_blocks.proofs.StageSeen.{gates_of_table}
use Rattle.passive_blocks.proofs.StageOver.{over_part, seen_else}
use Rattle.passive_blocks.proofs.StageCalls.{early_after, head_passes, sync_passes, head_table, refused_own}

-- the bytes of a head behind its gate
pub long_head : (h : Head) → length (spelled_head h) ≡ 31
long_head h = refl

-- a block for data is not where heads are written
block_beside : (size n b k : ℕ) → size % 32768 ≡ 0 → n < size / 1024 → size / 32768 < b → b * 1024 ≤ k → head_place n + 32 ≤ k
block_beside size n b k whole within above from = omega (arith, whole, within, above, from)

head_leaves : (node size : ℕ) (counts : Counts) (t : Table) (p : Pending) (clock : ℕ) (old new : Told) (b : ℕ)
    → IsHeld size counts t (Some p) → IsTableOf node (contents old).now t
    → WriteTold clock (head_place p.head.number + 1) (spelled_head (head_of p.head)) old new Fine → is_data t.blocks.size b ≡ true
    → SameBlock (contents old).now (contents new).now b
head_leaves node size counts t p clock old new b held is told data_block =
    let whole : t.blocks.size % 32768 ≡ 0 = whole_size t.blocks.size held.table.blocks.sized in
    let inside : p.head.number < t.blocks.size / 1024 = omega (arith, held.planned.number, held.table.count) in
    let above : t.blocks.size / 32768 < b = grind (arith, nat_tests, data_block) in
    let else_same = seen_else clock (head_place p.head.number + 1) (spelled_head (head_of p.head)) old new Fine told refl
    (omega (arith, is.long, inside, whole, long_head (head_of p.head))) in
    let same = λ (k : ℕ) (from : b * 1024 ≤ k). sym (else_same.1 k (inr (omega (
      arith,
      block_beside t.blocks.size p.head.number b k whole inside above from,
      long_head (head_of p.head),
    )))) in (
      ap (from_be_bytes w16) (same_part (contents old).now (contents new).now (b * 1024) (b * 1024 + 2) (sym else_same.0)
          (λ k from to. same k from)),
      same_part (contents old).now (contents new).now (b * 1024 + 2) (b * 1024 + 1024) (sym else_same.0)
          (λ k from to. same k (omega (arith, from))),
    )

-- The head was written behind its gate.
pub step_head : (node size more : ℕ) (counts : Counts) (t : Table) (p : Pending) (clock : ℕ) (old new : Told)
    → IsHeld size counts t (Some p) → IsStageOn node more t p (contents old) true WriteHead
    → WriteTold clock (head_place p.head.number + 1) (spelled_head (head_of p.head)) old new Fine
    → IsStageOn node more t p (contents new) true SyncHead
step_head node size more counts t p clock old new held on told =
    let next : List ℕ = t.blocks.next.items in
    let is = (on.1 refl).0 in
    let long = long_head (head_of p.head) in
    let whole : t.blocks.size % 32768 ≡ 0 = whole_size t.blocks.size held.table.blocks.sized in
    let inside : p.head.number < t.blocks.size / 1024 = omega (arith, held.planned.number, held.table.count) in
    let early = early_after node more t p old new on.0
    (head_passes node size more counts t p clock (spelled_head (head_of p.head)) old new Fine held on.0 long told) in
    let table = head_table node size more counts t p clock (spelled_head (head_of p.head)) old new Fine held early is long told refl in (
      early,
      λ power. (
        table,
        (
          λ value i less.
              let b : ℕ = behind_walk next p.head.first i in
              let within : i < blocks_of p.head.size = subst (λ n. i < blocks_of n) held.planned.bytes less in
              part_else (contents old).now (contents new).now next (part_of_body p.body.items i) b
              (head_leaves node size counts t p clock old new b held is told
              (held.planned.chain value b (walk_has next p.head.first (blocks_of p.head.size) i within)))
              (short_part p.body.items i) ((on.1 refl).1 value i less),
          ap (λ now. slice_range now (head_place p.head.number + 1) (head_place p.head.number + 32)) (ap (λ t. (contents t).now) told)
              ∙ head_there p.head.number (spelled_head (head_of p.head)) (contents old).now long (omega (arith, is.long, inside, whole)),
        ),
      ),
    )
  where
    head_there : (n : ℕ) (bytes now : List ℕ) → length bytes ≡ 31 → head_place n + 32 ≤ length now
        → slice_range (overlay (head_place n + 1) bytes now) (head_place n + 1) (head_place n + 32) ≡ bytes
    head_there n bytes now long fits =
        let new : List ℕ = overlay (head_place n + 1) bytes now in
        ap (λ from. slice_range new from (head_place n + 32)) (let e : head_place n + 1 ≡ head_place n + 1 + 0 = omega arith in e)
        ∙ ap (slice_range new (head_place n + 1 + 0)) (let e : head_place n + 32 ≡ head_place n + 1 + 0 + 31 = omega arith in e)
        ∙ over_part (head_place n + 1) 0 31 bytes now (omega (arith, long, fits)) (omega (arith, long))
        ∙ take_all (0 + 31 - 0) bytes (omega (arith, long))

pub refuse_head : (node size more : ℕ) (counts : Counts) (t : Table) (p : Pending) (clock : ℕ) (old new : Told) (end : End)
    → IsHeld size counts t (Some p) → IsStageOn node more t p (contents old) true WriteHead
    → WriteTold clock (head_place p.head.number + 1) (spelled_head (head_of p.head)) old new end
    → IsRefusedAt node more t p (contents new) (power_after end) p.head.number
refuse_head node size more counts t p clock old new end held on told =
    let long = long_head (head_of p.head) in
    let early = early_after node more t p old new on.0
    (head_passes node size more counts t p clock (spelled_head (head_of p.head)) old new end held on.0 long told) in
    inl (
      early,
      λ power. refused_own node size counts t p (contents new).now held
          (head_table node size more counts t p clock (spelled_head (head_of p.head)) old new end held early (on.1 refl).0 long told power),
    )

rest_after : (clock : ℕ) (old new : Told) → new ≡ noted (Synced clock) old → contents new ≡ at_rest (contents old).now
rest_after clock old new told = ap contents told

rests : (c d : Contents) → d ≡ at_rest c.now → d ≡ at_rest d.now
rests c d e = e ∙ sym (ap (λ (x : Contents). at_rest x.now) e)

-- The first sync was made.
pub step_ready : (node size more : ℕ) (counts : Counts) (t : Table) (p : Pending) (clock : ℕ) (old new : Told)
    → IsHeld size counts t (Some p) → IsStageOn node more t p (contents old) true SyncHead → SyncTold clock old new Fine
    → IsToldReady node more (contents old).now t p → IsStageOn node more t p (contents new) true Open
step_ready node size more counts t p clock old new held on told enough =
    let e : contents new ≡ at_rest (contents old).now = rest_after clock old new told in
    let seen = on.1 refl in
    let ready : IsReady node (contents old).now t p = record {
      table = seen.0;
      body = seen.1.0;
      head = seen.1.1;
      shut = gates_of_table node size counts (contents old).now t (Some p) held seen.0 p.head.number held.planned.number
          ∙ held.planned.shut;
    } in
    let same : (contents new).now ≡ (contents old).now = ap (λ (x : Contents). x.now) e in (
      rests (contents old) (contents new) e,
      subst (λ now. IsReady node now t p) (sym same) ready,
      subst (λ now. IsToldReady node more now t p) (sym same) enough,
    )

pub refuse_ready : (node size more : ℕ) (counts : Counts) (t : Table) (p : Pending) (clock : ℕ) (old new : Told) (end : End)
    → IsHeld size counts t (Some p) → IsStageOn node more t p (contents old) true SyncHead → SyncTold clock old new end
    → (end ≡ Fine → ⊥) → IsRefusedAt node more t p (contents new) (power_after end) p.head.number
refuse_ready node size more counts t p clock old new Fine held on told refused = absurd (refused refl)
refuse_ready node size more counts t p clock old new AtFault held on told refused =
    let early = early_after node more t p old new on.0 (sync_passes node more t p clock old new AtFault on.0 told) in
    inl (
      early,
      λ power. refused_own node size counts t p (contents new).now held
          (subst (λ t2. IsTableOf node (contents t2).now t) (sym told) (on.1 refl).0),
    )
refuse_ready node size more counts t p clock old new AtStop held on told refused =
    let early = early_after node more t p old new on.0 (sync_passes node more t p clock old new AtStop on.0 told) in
    inl (early, λ power. absurd (false≢true power))

-- the image behind the first sync is one of those that a crash may leave from then on
pub ready_fits : (ready : List ℕ) (n : ℕ) → Fits (MayOpen ready n) (length ready) ready
ready_fits ready n = record { long = refl; bytes = λ k. inr refl }

pub late_ready : (node more : ℕ) (t : Table) (p : Pending) (c : Contents) → IsStageOn node more t p c true Open
    → Holds (Fits (MayOpen c.now p.head.number) (length c.now)) c
late_ready node more t p c on =
    subst (Holds (Fits (MayOpen c.now p.head.number) (length c.now))) (sym on.0)
    (holds_at_rest (Fits (MayOpen c.now p.head.number) (length c.now)) c.now (ready_fits c.now p.head.number))

-- The gate is written.
pub open_passes : (node size more : ℕ) (counts : Counts) (t : Table) (p : Pending) (clock : ℕ) (old new : Told) (end : End)
    → IsHeld size counts t (Some p) → IsStageOn node more t p (contents old) true Open
    → WriteTold clock (head_place p.head.number) (225 ∷ []) old new end
    → Passes (Fits (MayOpen (contents old).now p.head.number) (length (contents old).now)) old new
open_passes node size more counts t p clock old new end held on told =
    let whole : t.blocks.size % 32768 ≡ 0 = whole_size t.blocks.size held.table.blocks.sized in
    let inside : p.head.number < t.blocks.size / 1024 = omega (arith, held.planned.number, held.table.count) in
    fits_write (MayOpen (contents old).now p.head.number) (length (contents old).now) clock (head_place p.head.number) (225 ∷ []) old new
    end
    (late_ready node more t p (contents old) on)
    (λ k b from to. inl (let e : k ≡ head_place p.head.number = omega (arith, from, to) in e))
    (omega (arith, on.1.table.long, inside, whole)) told

pub late_after : (node more : ℕ) (t : Table) (p : Pending) (old new : Told) → IsStageOn node more t p (contents old) true Open
    → Passes (Fits (MayOpen (contents old).now p.head.number) (length (contents old).now)) old new → IsLate node more t p (contents new)
late_after node more t p old new on passes = record { ready = (contents old).now; is = on.1; told = on.2; fits = passes.after }

pub step_open : (node size more : ℕ) (counts : Counts) (t : Table) (p : Pending) (clock : ℕ) (old new : Told)
    → IsHeld size counts t (Some p) → IsStageOn node more t p (contents old) true Open
    → WriteTold clock (head_place p.head.number) (225 ∷ []) old new Fine → IsStageOn node more t p (contents new) true SyncOpen
step_open node size more counts t p clock old new held on told =
    let whole : t.blocks.size % 32768 ≡ 0 = whole_size t.blocks.size held.table.blocks.sized in
    let inside : p.head.number < t.blocks.size / 1024 = omega (arith, held.planned.number, held.table.count) in
    let n : ℕ = p.head.number in (
      late_after node more t p old new on (open_passes node size more counts t p clock old new Fine held on told),
      λ power. ap (λ t. gate_open (contents t).now n) told
          ∙ ap (λ byte. byte == 225) (overlay_inside (head_place n) (head_place n) (225 ∷ []) (contents old).now
          (omega (arith, on.1.table.long, inside, whole)) (omega arith) (omega arith)
          ∙ ap (λ i. get_or (225 ∷ []) i 0) (let z : head_place n - head_place n ≡ 0 = omega arith in z)),
    )

pub refuse_open : (node size more : ℕ) (counts : Counts) (t : Table) (p : Pending) (clock : ℕ) (old new : Told) (end : End)
    → IsHeld size counts t (Some p) → IsStageOn node more t p (contents old) true Open
    → WriteTold clock (head_place p.head.number) (225 ∷ []) old new end
    → IsRefusedAt node more t p (contents new) (power_after end) p.head.number
refuse_open node size more counts t p clock old new end held on told =
    inr (late_after node more t p old new on (open_passes node size more counts t p clock old new end held on told), refl)

-- The last sync.
pub last_passes : (node more : ℕ) (t : Table) (p : Pending) (clock : ℕ) (old new : Told) (end : End)
    → (l : IsLate node more t p (contents old))
    → SyncTold clock old new end → Passes (Fits (MayOpen l.ready p.head.number) (length l.ready)) old new
last_passes node more t p clock old new end l told = passes_sync (Fits (MayOpen l.ready p.head.number) (length l.ready)) clock old new end
    l.fits told

pub refuse_last : (node more : ℕ) (t : Table) (p : Pending) (clock : ℕ) (old new : Told) (end : End) (power : Bool)
    → IsStageOn node more t p (contents old) true SyncOpen → SyncTold clock old new end → IsRefusedAt node more t p (contents new) power
    p.head.number
refuse_last node more t p clock old new end power on told =
    inr (
      record {
        ready = on.0.ready;
        is = on.0.is;
        told = on.0.told;
        fits = (last_passes node more t p clock old new end on.0 told).after;
      },
      refl,
    )

-- Behind it the change is made.
pub step_made : (node size more : ℕ) (counts : Counts) (t : Table) (p : Pending) (clock : ℕ) (old new : Told)
    → IsHeld size counts t (Some p) → IsSpelled node t.blocks.size p.head → IsStageOn node more t p (contents old) true SyncOpen
    → SyncTold clock old new Fine
    → (contents new ≡ at_rest (contents new).now)
    × IsImageOf node (contents new).now (slots_with t p) t.blocks.next.items t.blocks.size
step_made node size more counts t p clock old new held spelled on told =
    let l : IsLate node more t p (contents old) = on.0 in
    let e : contents new ≡ at_rest (contents old).now = rest_after clock old new told in
    let w : Waits node size counts l.ready t p = record {
      held = held;
      ready_is = l.is;
      spelled = subst (λ n. IsSpelled node n p.head) (sym l.is.table.long) spelled;
    } in (
      rests (contents old) (contents new) e,
      subst (λ now. IsImageOf node now (slots_with t p) t.blocks.next.items t.blocks.size) (sym (ap (λ (x : Contents). x.now) e))
          (late_is_new node size counts l.ready (contents old).now t p w l.fits.now (on.1 refl)),
    )
