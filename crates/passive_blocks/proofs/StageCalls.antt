-- What each device call of a job leaves, however it ends.
use Rattle.std.specs.Prelude.{◌≡◌, ◌⊎◌, ℕ, ◌+◌, ◌-◌, ◌*◌, ◌/◌, ◌%◌, ◌≤◌, ◌<◌, true, false, ◌==◌, List, [], ◌∷◌}
use Rattle.std.specs.Prelude.{length, slice_index, Some}
use Rattle.std.proofs.Common.{refl, sym, ap, subst, ◌∙◌, inl, inr, arith, set, get_or}
use Rattle.std.proofs.lemmas.Bool.{false≢true, cases_lt, cases_eq}
use Rattle.std.proofs.lemmas.Bool.Decides.{nat_tests}
use Rattle.eden_disk.specs.Told.{Contents, Told, contents}
use Rattle.eden_disk.specs.Calls.{Counts, End, Fine, WriteTold, SyncTold, power_after}
use Rattle.eden_disk.specs.Held.{Passes}
use Rattle.eden_disk.proofs.Overlay.{overlay_inside}
use Rattle.std.proofs.lemmas.List.{length-set}
use Rattle.eden_disk.proofs.Held.{passes_sync}
use Rattle.block_tables.specs.declared.table.Table.{Table}
use Rattle.passive_blocks.specs.declared.block_store.Pending.{Pending}
use Rattle.block_tables.specs.Members.{is_member}
use Rattle.block_tables.specs.Blocks.{head_place, has, is_data, is_block_size}
use Rattle.passive_blocks.specs.Fits.{Fits}
use Rattle.block_tables.specs.HeadState.{slot_at, is_open, closed_slot}
use Rattle.passive_blocks.specs.HeldState.{IsHeld, IsPlanned, planned_blocks}
use Rattle.passive_blocks.specs.StoreState.{IsTableOf, IsImageOf}
use Rattle.passive_blocks.specs.StageState.{MayStand, IsBegun, IsEarly, IsSeenRefused, slots_without, gate_open}
use Rattle.passive_blocks.proofs.Spans.{opened_is}
use Rattle.passive_blocks.proofs.StageHeads.{head_found}
use Rattle.passive_blocks.proofs.StageImages.{closes_one}
use Rattle.passive_blocks.proofs.StageLate.{whole_size}
use Rattle.passive_blocks.proofs.StageWrites.{closes_head, writes_block, writes_head}
use Rattle.passive_blocks.proofs.StageSeen.{gates_of_table, many_slots, table_by_gates, taken_data, planned_apart, gates_closed}
use Rattle.passive_blocks.proofs.StageClosing.{begun_closed}
use Rattle.passive_blocks.proofs.StageOver.{seen_else}

-- the images of an early stage
abbrev pub EarlyImages : (node more : ℕ) (t : Table) (p : Pending) (c : Contents) → IsEarly node more t p c → List ℕ → Type 0
EarlyImages node more t p c e image = Fits (MayStand e.heads e.began) (length e.began) image

pub early_after : (node more : ℕ) (t : Table) (p : Pending) (old new : Told) (e : IsEarly node more t p (contents old))
    → Passes (EarlyImages node more t p (contents old) e) old new → IsEarly node more t p (contents new)
early_after node more t p old new e passes = record {
  began = e.began;
  heads = e.heads;
  begun = e.begun;
  shut = e.shut;
  told = e.told;
  fits
      = passes.after;
}

whole_began : (node size more : ℕ) (counts : Counts) (t : Table) (p : Pending) (c : Contents) → IsHeld size counts t (Some p)
    → (e : IsEarly node more t p c) → length e.began % 32768 ≡ 0
whole_began node size more counts t p c held e = whole_size (length e.began) (ap is_block_size e.begun.long ∙ held.table.blocks.sized)

many_began : (node size more : ℕ) (counts : Counts) (t : Table) (p : Pending) (c : Contents) → IsHeld size counts t (Some p)
    → (e : IsEarly node more t p c) → length t.heads.slots.items ≡ length e.began / 1024
many_began node size more counts t p c held e = many_slots node size counts e.began t (Some p) held e.begun.long

-- a head that is closed next was open when the job began
was_open : (node more : ℕ) (t : Table) (p : Pending) (c : Contents) (n : ℕ) (e : IsEarly node more t p c) → is_member t.heads.closing n
    ≡ true
    → gate_open e.began n ≡ true
was_open node more t p c n e closing =
    let one = closes_one e.heads e.heads n (e.begun.closing n closing) in
    ap (gate_open e.began) (sym one.2) ∙ sym (opened_is e.began one.0.number)
    ∙ (head_found node e.began e.heads one.0 e.begun.found one.1).open_there

-- A head is closed.
pub close_passes : (node size more : ℕ) (counts : Counts) (t : Table) (p : Pending) (n clock : ℕ) (old new : Told) (end : End)
    → IsHeld size counts t (Some p) → (e : IsEarly node more t p (contents old)) → is_member t.heads.closing n ≡ true
    → WriteTold clock (head_place n) (0 ∷ []) old new end → Passes (EarlyImages node more t p (contents old) e) old new
close_passes node size more counts t p n clock old new end held e closing told =
    closes_head e.began e.heads n clock (0 ∷ []) old new end e.fits (whole_began node size more counts t p (contents old) held e)
    (omega (arith, (held.closing n closing).on, many_began node size more counts t p (contents old) held e))
    (taken_data node size counts e.began e.heads t (Some p) held e.begun) (was_open node more t p (contents old) n e closing)
    (e.begun.closing n closing) refl told

-- A block of a body is written.
pub block_passes : (node size more : ℕ) (counts : Counts) (t : Table) (p : Pending) (c clock : ℕ) (bytes : List ℕ) (old new : Told)
    (end : End)
    → IsHeld size counts t (Some p) → (e : IsEarly node more t p (contents old)) → has c (planned_blocks t.blocks.next.items (Some p))
    ≡ true
    → is_data t.blocks.size c ≡ true → length bytes ≤ 1024 → WriteTold clock (c * 1024) bytes old new end
    → Passes (EarlyImages node more t p (contents old) e) old new
block_passes node size more counts t p c clock bytes old new end held e planned data_block short told =
    writes_block e.began e.heads c clock bytes old new end e.fits (whole_began node size more counts t p (contents old) held e)
    (taken_data node size counts e.began e.heads t (Some p) held e.begun) (ap (λ s. is_data s c) e.begun.long ∙ data_block)
    (planned_apart node size counts e.began e.heads t (Some p) c held e.begun planned) short told

-- The head is written behind its gate.
pub head_passes : (node size more : ℕ) (counts : Counts) (t : Table) (p : Pending) (clock : ℕ) (bytes : List ℕ) (old new : Told) (end : End)
    → IsHeld size counts t (Some p) → (e : IsEarly node more t p (contents old)) → length bytes ≡ 31
    → WriteTold clock (head_place p.head.number + 1) bytes old new end → Passes (EarlyImages node more t p (contents old) e) old new
head_passes node size more counts t p clock bytes old new end held e long told =
    writes_head e.began e.heads p.head.number clock bytes old new end e.fits (whole_began node size more counts t p (contents old) held e)
    (omega (arith, held.planned.number, many_began node size more counts t p (contents old) held e))
    (taken_data node size counts e.began e.heads t (Some p) held e.begun) e.shut long told

-- A sync.
pub sync_passes : (node more : ℕ) (t : Table) (p : Pending) (clock : ℕ) (old new : Told) (end : End)
    → (e : IsEarly node more t p (contents old))
    → SyncTold clock old new end → Passes (EarlyImages node more t p (contents old) e) old new
sync_passes node more t p clock old new end e told = passes_sync (EarlyImages node more t p (contents old) e) clock old new end e.fits told

-- The table stays that of what is seen where no gate has changed.
pub table_stays : (node size more : ℕ) (counts : Counts) (t : Table) (p : Pending) (old new : Contents) → IsHeld size counts t (Some p)
    → (e : IsEarly node more t p new) → IsTableOf node old.now t
    → ((k : ℕ) → k < length t.heads.slots.items → gate_open new.now k ≡ gate_open old.now k) → IsTableOf node new.now t
table_stays node size more counts t p old new held e is same =
    table_by_gates node e.began new.now e.heads t (many_began node size more counts t p new held e) e.begun e.fits.now
    (λ k within. same k within ∙ gates_of_table node size counts old.now t (Some p) held is k within)

-- gates outside of what was written
pub gates_else : (t : Table) (at len : ℕ) (old new : List ℕ)
    → ((k : ℕ) → (k < at) ⊎ (at + len ≤ k) → slice_index new k ≡ slice_index old k)
    → (n : ℕ) → (head_place n < at) ⊎ (at + len ≤ head_place n) → gate_open new n ≡ gate_open old n
gates_else t at len old new same n outside = ap (λ byte. byte == 225) (same (head_place n) outside)

pub above_heads : (size c k : ℕ) → is_block_size size ≡ true → is_data size c ≡ true → k < size / 1024 → head_place k < c * 1024
above_heads size c k sized data_block within =
    let above : size / 32768 < c = grind (arith, nat_tests, data_block) in
    omega (arith, whole_size size sized, above, within)

pub block_table : (node size more : ℕ) (counts : Counts) (t : Table) (p : Pending) (c clock : ℕ) (bytes : List ℕ) (old new : Told)
    (end : End)
    → IsHeld size counts t (Some p) → IsEarly node more t p (contents new) → IsTableOf node (contents old).now t
    → is_data t.blocks.size c ≡ true → length bytes ≤ 1024
    → WriteTold clock (c * 1024) bytes old new end → power_after end ≡ true → IsTableOf node (contents new).now t
block_table node size more counts t p c clock bytes old new end held e is data_block short told power =
    let inside : c < t.blocks.size / 1024 = grind (arith, nat_tests, data_block) in
    let else_same = seen_else clock (c * 1024) bytes old new end told power (omega (arith, is.long, short, inside)) in
    table_stays node size more counts t p (contents old) (contents new) held e is (λ k within.
    gates_else t (c * 1024) (length bytes) (contents old).now (contents new).now else_same.1 k
    (inl (above_heads t.blocks.size c k held.table.blocks.sized data_block (omega (arith, within, held.table.count)))))

pub head_table : (node size more : ℕ) (counts : Counts) (t : Table) (p : Pending) (clock : ℕ) (bytes : List ℕ) (old new : Told) (end : End)
    → IsHeld size counts t (Some p) → IsEarly node more t p (contents new) → IsTableOf node (contents old).now t → length bytes ≡ 31
    → WriteTold clock (head_place p.head.number + 1) bytes old new end → power_after end ≡ true → IsTableOf node (contents new).now t
head_table node size more counts t p clock bytes old new end held e is long told power =
    let whole : t.blocks.size % 32768 ≡ 0 = whole_size t.blocks.size held.table.blocks.sized in
    let inside : p.head.number < t.blocks.size / 1024 = omega (arith, held.planned.number, held.table.count) in
    let else_same = seen_else clock (head_place p.head.number + 1) bytes old new end told power
    (omega (arith, is.long, long, inside, whole)) in
    table_stays node size more counts t p (contents old) (contents new) held e is (λ k within.
    gates_else t (head_place p.head.number + 1) (length bytes) (contents old).now (contents new).now else_same.1 k
    (elim (cases_lt p.head.number k) [
      | inl above ↦ inr (omega (arith, above, long))
      | inr below ↦ inl (omega (arith, below))
    ]))

-- A job that was refused with its own gate shut leaves the table that of what is seen.
pub refused_own : (node size : ℕ) (counts : Counts) (t : Table) (p : Pending) (now : List ℕ) → IsHeld size counts t (Some p)
    → IsTableOf node now t → IsSeenRefused node now t p p.head.number
refused_own node size counts t p now held is = record {
  shut = gates_of_table node size counts now t (Some p) held is p.head.number held.planned.number ∙ held.planned.shut;
  own = λ e. is;
  still_open = λ other. absurd (other refl);
  closed = λ other. absurd (other refl);
}

-- The gate of a head that was to be closed is shut or not, all others are as they were.
gate_else : (n k : ℕ) → (k ≡ n → ⊥) → (head_place k < head_place n) ⊎ (head_place n + 1 ≤ head_place k)
gate_else n k other = elim (cases_lt n k) [
  | inl above ↦ inr (omega (arith, above))
  | inr below ↦ inl (omega (arith, below, other))
]

-- the table once a head is closed in it
abbrev pub closed_table : Table → ℕ → Table
closed_table t n = record t {
  heads = record t.heads {
    slots = record t.heads.slots {
      items = set t.heads.slots.items n closed_slot;
      ok = (t.heads.slots.ok.0 ∙ sym (length-set t.heads.slots.items n closed_slot), t.heads.slots.ok.1);
    };
  };
}

begun_without : (node size more : ℕ) (counts : Counts) (t : Table) (p : Pending) (c : Contents) (n : ℕ) → IsHeld size counts t (Some p)
    → (e : IsEarly node more t p c) → is_member t.heads.closing n ≡ true → IsBegun node e.began e.heads (closed_table t n)
begun_without node size more counts t p c n held e closing =
    begun_closed node e.began e.heads t (closed_table t n) n e.begun held.table.heads.numbered (held.closing n closing).on
    (held.closing n closing).opened (e.begun.closing n closing) refl refl (λ k is. is)

-- so that the slots without it are those of what is seen where it is shut
image_without : (node size more : ℕ) (counts : Counts) (t : Table) (p : Pending) (old new : Contents) (n : ℕ) → IsHeld size counts t
    (Some p)
    → (e : IsEarly node more t p new) → IsTableOf node old.now t → is_member t.heads.closing n ≡ true → gate_open new.now n ≡ false
    → ((k : ℕ) → (k ≡ n → ⊥) → gate_open new.now k ≡ gate_open old.now k)
    → IsImageOf node new.now (slots_without t n) t.blocks.next.items t.blocks.size
image_without node size more counts t p old new n held e is closing shut same =
    table_by_gates node e.began new.now e.heads (closed_table t n)
    (length-set t.heads.slots.items n closed_slot ∙ many_began node size more counts t p new held e)
    (begun_without node size more counts t p new n held e closing) e.fits.now
    (gates_closed old.now new.now t.heads.slots.items n (gates_of_table node size counts old.now t (Some p) held is)
    (held.closing n closing).on shut (λ k within other. same k other))

table_with : (node size more : ℕ) (counts : Counts) (t : Table) (p : Pending) (old new : Contents) (n : ℕ) → IsHeld size counts t (Some p)
    → (e : IsEarly node more t p new) → IsTableOf node old.now t → is_member t.heads.closing n ≡ true → gate_open new.now n ≡ true
    → ((k : ℕ) → (k ≡ n → ⊥) → gate_open new.now k ≡ gate_open old.now k) → IsTableOf node new.now t
table_with node size more counts t p old new n held e is closing opens same =
    table_stays node size more counts t p old new held e is (λ k within. elim (cases_eq k n) [
      | inl e ↦ ap (gate_open new.now) e ∙ opens
          ∙ sym (ap (gate_open old.now) e ∙ gates_of_table node size counts old.now t (Some p) held is n (held.closing n closing).on
          ∙ (held.closing n closing).opened)
      | inr other ↦ same k other
    ])

close_else : (node size : ℕ) (counts : Counts) (t : Table) (p : Pending) (n clock : ℕ) (old new : Told) (end : End)
    → IsHeld size counts t (Some p) → IsTableOf node (contents old).now t → is_member t.heads.closing n ≡ true
    → WriteTold clock (head_place n) (0 ∷ []) old new end → power_after end ≡ true
    → (k : ℕ) → (k ≡ n → ⊥) → gate_open (contents new).now k ≡ gate_open (contents old).now k
close_else node size counts t p n clock old new end held is closing told power k other =
    let whole : t.blocks.size % 32768 ≡ 0 = whole_size t.blocks.size held.table.blocks.sized in
    let inside : n < t.blocks.size / 1024 = omega (arith, (held.closing n closing).on, held.table.count) in
    let else_same = seen_else clock (head_place n) (0 ∷ []) old new end told power (omega (arith, is.long, inside, whole)) in
    gates_else t (head_place n) 1 (contents old).now (contents new).now else_same.1 k (gate_else n k other)

not_own : (t : Table) (p : Pending) (n : ℕ) → IsPlanned t p → is_open (slot_at t.heads.slots.items n) ≡ true → n ≡ p.head.number → ⊥
not_own t p n plan opened same = false≢true (sym plan.shut ∙ ap (λ i. is_open (slot_at t.heads.slots.items i)) (sym same) ∙ opened)

-- What a refused closing leaves to be seen,
pub close_refused : (node size more : ℕ) (counts : Counts) (t : Table) (p : Pending) (n clock : ℕ) (old new : Told) (end : End)
    → IsHeld size counts t (Some p) → IsEarly node more t p (contents new) → IsTableOf node (contents old).now t
    → is_member t.heads.closing n ≡ true → WriteTold clock (head_place n) (0 ∷ []) old new end → power_after end ≡ true
    → IsSeenRefused node (contents new).now t p n
close_refused node size more counts t p n clock old new end held e is closing told power =
    let other = not_own t p n held.planned (held.closing n closing).opened in
    let same = close_else node size counts t p n clock old new end held is closing told power in
    record {
      shut = same p.head.number (λ at. other (sym at))
          ∙ gates_of_table node size counts (contents old).now t (Some p) held is p.head.number held.planned.number ∙ held.planned.shut;
      own = λ at. absurd (other at);
      still_open = λ o opens. table_with node size more counts t p (contents old) (contents new) n held e is closing opens same;
      closed = λ o shut. image_without node size more counts t p (contents old) (contents new) n held e is closing shut same;
    }

-- and one that was made.
pub close_made : (node size more : ℕ) (counts : Counts) (t new_table : Table) (p : Pending) (n clock : ℕ) (old new : Told)
    → IsHeld size counts t (Some p) → (e : IsEarly node more t p (contents new)) → IsTableOf node (contents old).now t
    → is_member t.heads.closing n ≡ true → WriteTold clock (head_place n) (0 ∷ []) old new Fine
    → new_table.heads.slots.items ≡ set t.heads.slots.items n closed_slot → new_table.blocks ≡ t.blocks
    → ((k : ℕ) → is_member new_table.heads.closing k ≡ true → is_member t.heads.closing k ≡ true)
    → IsEarly node more new_table p (contents new) × IsTableOf node (contents new).now new_table
close_made node size more counts t new_table p n clock old new held e is closing told items blocks fewer =
    let same = close_else node size counts t p n clock old new Fine held is closing told refl in
    let whole : t.blocks.size % 32768 ≡ 0 = whole_size t.blocks.size held.table.blocks.sized in
    let inside : n < t.blocks.size / 1024 = omega (arith, (held.closing n closing).on, held.table.count) in
    let shut : gate_open (contents new).now n ≡ false =
    ap (λ t. gate_open (contents t).now n) told
    ∙ ap (λ byte. byte == 225) (overlay_inside (head_place n) (head_place n) (0 ∷ []) (contents old).now
    (omega (arith, is.long, inside, whole)) (omega arith) (omega arith)
    ∙ ap (λ i. get_or (0 ∷ []) i 0) (let z : head_place n - head_place n ≡ 0 = omega arith in z)) in
    let image = image_without node size more counts t p (contents old) (contents new) n held e is closing shut same in (
      record {
        began = e.began;
        heads = e.heads;
        begun = begun_closed node e.began e.heads t new_table n e.begun held.table.heads.numbered (held.closing n closing).on
            (held.closing n closing).opened (e.begun.closing n closing) items blocks fewer;
        shut = e.shut;
        told = e.told;
        fits = e.fits;
      },
      subst (λ s. IsImageOf node (contents new).now s new_table.blocks.next.items new_table.blocks.size) (sym items)
          (subst (λ v. IsImageOf node (contents new).now (set t.heads.slots.items n closed_slot) v.next.items v.size) (sym blocks) image),
    )
