-- One device call of a job, by its stage.
use Rattle.std.specs.Prelude.{◌≡◌, ◌⊎◌, ℕ, ◌≤◌, true, List, [], ◌∷◌}
use Rattle.std.specs.Prelude.{Option, None, Some, Ok}
use Rattle.std.proofs.Common.{refl, sym, ap, subst, ◌∙◌, inl, inr}
use Rattle.std.proofs.lemmas.Bool.{false≢true}
use Rattle.eden_disk.specs.Told.{Contents, Told, at_rest, contents, EachMoment}
use Rattle.eden_disk.specs.Calls.{Counts, End, Fine, power_after}
use Rattle.eden_disk.specs.Held.{Passes}
use Rattle.passive_store.specs.Acts.{DiskCall, CallTold}
use Rattle.passive_store.specs.Kept.{Kept, StoreChange, Stands, IsFresh}
use Rattle.block_tables.specs.declared.table.Table.{Table}
use Rattle.passive_blocks.specs.declared.block_store.Pending.{Pending}
use Rattle.passive_blocks.specs.declared.block_store.Stage.{Stage}
use Rattle.passive_blocks.specs.declared.block_store.Stage.TheVariants.{Close, Write as WritePart, Head as WriteHead, SyncHead, Open}
use Rattle.passive_blocks.specs.declared.block_store.Stage.TheVariants.{SyncOpen}
use Rattle.passive_blocks.specs.declared.block_store.Stage.TheVariants.{Ended}
use Rattle.block_tables.specs.Members.{is_member, IsFirstOf}
use Rattle.block_tables.specs.Blocks.{kept_in_blocks}
use Rattle.block_tables.specs.Changes.{spelled_head}
use Rattle.block_tables.specs.HeadSeen.{head_of}
use Rattle.passive_blocks.specs.BlockLayout.{block_layout}
use Rattle.block_tables.specs.HeadState.{heads_in}
use Rattle.passive_blocks.specs.HeldState.{IsHeld}
use Rattle.passive_blocks.specs.StoreState.{IsImageOf, calls_at, change_of}
use Rattle.passive_blocks.specs.StageState.{IsEarly, IsRefusedAt, IsStageOn, IsStaged, IsSpelled, IsNext}
use Rattle.passive_blocks.specs.StageState.{IsBehindClosing}
use Rattle.passive_blocks.specs.StageState.{first_closed, stage_call, gate_of, is_going, TellsBehindSync, behind_part}
use Rattle.passive_blocks.proofs.StageLate.{slots_with}
use Rattle.passive_blocks.proofs.StageCalls.{EarlyImages, close_passes, head_passes, sync_passes}
use Rattle.passive_blocks.proofs.StageSteps.{step_closed, refuse_closing, step_written, refuse_part, part_passes}
use Rattle.passive_blocks.proofs.StageOpens.{step_head, refuse_head, step_ready, refuse_ready, step_open, refuse_open, step_made}
use Rattle.passive_blocks.proofs.StageOpens.{refuse_last}
use Rattle.passive_blocks.proofs.StageOpens.{long_head, open_passes, last_passes, late_ready}
use Rattle.passive_blocks.proofs.StageOrder.{close_first, closed_all, part_first}
use Rattle.passive_blocks.proofs.StageStands.{early_moments, early_moments_with, late_moments}

-- What a call leaves that was made: the next stage, or behind the last the image with the change.
abbrev pub IsBehind : ℕ → ℕ → Table → Pending → Contents → Option Stage → Type 0
IsBehind node more t p c None = (c ≡ at_rest c.now) × IsImageOf node c.now (slots_with t p) t.blocks.next.items t.blocks.size
IsBehind node more t p c (Some stage) = IsStageOn node more t p c true stage

next_stage : (node more : ℕ) (t new_table : Table) (p : Pending) (c : Contents) (stage : Stage) (next : Option Stage)
    → next ≡ Some stage → new_table ≡ t → IsStageOn node more t p c true stage → IsBehind node more new_table p c next
next_stage node more t new_table p c stage next is same on =
    subst (IsBehind node more new_table p c) (sym is) (subst (λ v. IsStageOn node more v p c true stage) (sym same) on)

-- A call that was made.
pub advance_made : (node size more : ℕ) (counts : Counts) (t new_table : Table) (p : Pending) (clock : ℕ) (old new : Told) (stage : Stage)
    (next : Option Stage) → IsHeld size counts t (Some p) → IsStaged t p stage → IsSpelled node t.blocks.size p.head
    → IsStageOn node more t p (contents old) true stage → TellsBehindSync node more t p (contents old) stage → is_going stage ≡ true
    → (stage ≡ Close → is_member t.heads.closing (first_closed t) ≡ true)
    → CallTold (stage_call t p stage) clock old new Fine → IsNext t new_table p stage next → IsBehind node more new_table p (contents new)
    next
advance_made node size more counts t new_table p clock old new Close None held staged spelled on tells going first told next = absurd next
advance_made node size more counts t new_table p clock old new Close (Some stage) held staged spelled on tells going first told next =
    step_closed node size more counts t new_table p (first_closed t) clock old new stage held on (first refl) told next.0 next.1
advance_made node size more counts t new_table p clock old new (WritePart block from) next held staged spelled on tells going first told is
    =
    next_stage node more t new_table p (contents new) (behind_part t.blocks.next.items p.body.items block from) next is.0 is.1
    (step_written node size more counts t p block from clock old new held on staged told)
advance_made node size more counts t new_table p clock old new WriteHead next held staged spelled on tells going first told is =
    next_stage node more t new_table p (contents new) SyncHead next is.0 is.1
    (step_head node size more counts t p clock old new held on told)
advance_made node size more counts t new_table p clock old new SyncHead next held staged spelled on tells going first told is =
    next_stage node more t new_table p (contents new) Open next is.0 is.1
    (step_ready node size more counts t p clock old new held on told tells)
advance_made node size more counts t new_table p clock old new Open next held staged spelled on tells going first told is =
    next_stage node more t new_table p (contents new) SyncOpen next is.0 is.1
    (step_open node size more counts t p clock old new held on told)
advance_made node size more counts t new_table p clock old new SyncOpen next held staged spelled on tells going first told is =
    subst (IsBehind node more new_table p (contents new)) (sym is.0)
    (subst (λ v. IsBehind node more v p (contents new) None) (sym is.1)
    (step_made node size more counts t p clock old new held spelled on told))
advance_made node size more counts t new_table p clock old new (Ended gate synced) next held staged spelled on tells going first told is =
    absurd (false≢true going)

-- A call that was refused.
pub advance_refused : (node size more : ℕ) (counts : Counts) (t : Table) (p : Pending) (clock : ℕ) (old new : Told) (stage : Stage)
    (end : End)
    → IsHeld size counts t (Some p) → IsStaged t p stage → IsStageOn node more t p (contents old) true stage → is_going stage ≡ true
    → (stage ≡ Close → is_member t.heads.closing (first_closed t) ≡ true)
    → CallTold (stage_call t p stage) clock old new end → (end ≡ Fine → ⊥)
    → IsRefusedAt node more t p (contents new) (power_after end) (gate_of t p stage)
advance_refused node size more counts t p clock old new Close end held staged on going first told refused =
    refuse_closing node size more counts t p (first_closed t) clock old new end held on (first refl) told
advance_refused node size more counts t p clock old new (WritePart block from) end held staged on going first told refused =
    refuse_part node size more counts t p block from clock old new end held on staged told
advance_refused node size more counts t p clock old new WriteHead end held staged on going first told refused =
    refuse_head node size more counts t p clock old new end held on told
advance_refused node size more counts t p clock old new SyncHead end held staged on going first told refused =
    refuse_ready node size more counts t p clock old new end held on told refused
advance_refused node size more counts t p clock old new Open end held staged on going first told refused =
    refuse_open node size more counts t p clock old new end held on told
advance_refused node size more counts t p clock old new SyncOpen end held staged on going first told refused =
    refuse_last node more t p clock old new end (power_after end) on told
advance_refused node size more counts t p clock old new (Ended gate synced) end held staged on going first told refused =
    absurd (false≢true going)

-- The moments of a call: the change is in doubt from the second one on. The first is of an early stage.
abbrev pub IsFirstEarly : ℕ → Stage → Type 0
IsFirstEarly made Open = 1 ≤ made
IsFirstEarly made SyncOpen = 1 ≤ made
IsFirstEarly made Close = Unit {0}
IsFirstEarly made (WritePart block from) = Unit {0}
IsFirstEarly made WriteHead = Unit {0}
IsFirstEarly made SyncHead = Unit {0}
IsFirstEarly made (Ended gate synced) = Unit {0}

early_either : (node size more : ℕ) (counts : Counts) (t : Table) (p : Pending) (kept : Kept) (old new : Told) (cs : List StoreChange)
    → (cs ≡ []) ⊎ (cs ≡ change_of p ∷ []) → IsHeld size counts t (Some p) → (e : IsEarly node more t p (contents old))
    → kept_in_blocks (contents old).now (Ok (heads_in t.heads.slots.items)) ≡ Ok kept
    → Passes (EarlyImages node more t p (contents old) e) old new → EachMoment (Stands block_layout node more kept cs) old new
early_either node size more counts t p kept old new cs (inl none) held e is passes =
    subst (λ cs. EachMoment (Stands block_layout node more kept cs) old new) (sym none)
    (early_moments node size more counts t p kept old new held e is passes)
early_either node size more counts t p kept old new cs (inr one) held e is passes =
    subst (λ cs. EachMoment (Stands block_layout node more kept cs) old new) (sym one)
    (early_moments_with node size more counts t p kept old new held e is passes)

pub advance_moments : (node size more : ℕ) (counts : Counts) (t : Table) (p : Pending) (clock : ℕ) (kept : Kept) (old new : Told)
    (stage : Stage) (end : End) (cs : List StoreChange) → (cs ≡ []) ⊎ (cs ≡ change_of p ∷ [])
    → IsHeld size counts t (Some p) → IsStaged t p stage → IsSpelled node t.blocks.size p.head
    → IsStageOn node more t p (contents old) true stage → is_going stage ≡ true
    → (stage ≡ Close → is_member t.heads.closing (first_closed t) ≡ true)
    → (stage ≡ Open → cs ≡ change_of p ∷ []) → (stage ≡ SyncOpen → cs ≡ change_of p ∷ [])
    → kept_in_blocks (contents old).now (Ok (heads_in t.heads.slots.items)) ≡ Ok kept → IsFresh (change_of p) kept
    → CallTold (stage_call t p stage) clock old new end → EachMoment (Stands block_layout node more kept cs) old new
advance_moments node size more counts t p clock kept old new Close end cs which held staged spelled on going first at_open at_last is fresh
    told =
    early_either node size more counts t p kept old new cs which held on.0 is
    (close_passes node size more counts t p (first_closed t) clock old new end held on.0 (first refl) told)
advance_moments node size more counts t p clock kept old new (WritePart block from) end cs which held staged spelled on going first at_open
    at_last is fresh told =
    early_either node size more counts t p kept old new cs which held on.0 is
    (part_passes node size more counts t p block from clock old new end held on.0 staged told)
advance_moments node size more counts t p clock kept old new WriteHead end cs which held staged spelled on going first at_open at_last is
    fresh told =
    early_either node size more counts t p kept old new cs which held on.0 is
    (head_passes node size more counts t p clock (spelled_head (head_of p.head)) old new end held on.0 (long_head (head_of p.head)) told)
advance_moments node size more counts t p clock kept old new SyncHead end cs which held staged spelled on going first at_open at_last is
    fresh told =
    early_either node size more counts t p kept old new cs which held on.0 is (sync_passes node more t p clock old new end on.0 told)
advance_moments node size more counts t p clock kept old new Open end cs which held staged spelled on going first at_open at_last is fresh
    told =
    subst (λ cs. EachMoment (Stands block_layout node more kept cs) old new) (sym (at_open refl))
    (late_moments node size more counts t p kept old new held spelled
    (record { ready = (contents old).now; is = on.1; told = on.2; fits = late_ready node more t p (contents old) on }) is fresh
    (open_passes node size more counts t p clock old new end held on told))
advance_moments node size more counts t p clock kept old new SyncOpen end cs which held staged spelled on going first at_open at_last is
    fresh told =
    subst (λ cs. EachMoment (Stands block_layout node more kept cs) old new) (sym (at_last refl))
    (late_moments node size more counts t p kept old new held spelled on.0 is fresh (last_passes node more t p clock old new end on.0 told))
advance_moments node size more counts t p clock kept old new (Ended gate synced) end cs which held staged spelled on going first at_open
    at_last is fresh told =
    absurd (false≢true going)

some_same : (s q : Stage) → Option.Some s ≡ Some q → s ≡ q
some_same s q e = cc

-- The calls that a job has left begin with that of its stage.
pub stage_first : (size : ℕ) (counts : Counts) (t new_table : Table) (p : Pending) (stage : Stage) (next : Option Stage)
    → IsHeld size counts t (Some p) → IsStaged t p stage → is_going stage ≡ true
    → (stage ≡ Close → IsFirstOf t.heads.closing (Some (first_closed t))) → IsNext t new_table p stage next
    → (rest : List DiskCall) × (calls_at t p stage ≡ stage_call t p stage ∷ rest)
    × ((s : Stage) → next ≡ Some s → rest ≡ calls_at new_table p s) × (next ≡ None → rest ≡ [])
stage_first size counts t new_table p Close None held staged going first next = absurd next
stage_first size counts t new_table p Close (Some s) held staged going first next = (
  calls_at new_table p Close,
  close_first t new_table p (first_closed t) (first refl) next.0,
  λ q same. behind q (some_same s q same) next.1,
  λ none. absurd (let bad : Option.Some s ≡ None = none in cc),
)
  where
    behind : (q : Stage) → s ≡ q → IsBehindClosing new_table p.head s → calls_at new_table p Close ≡ calls_at new_table p q
    behind q same (inl more) = ap (calls_at new_table p) (sym more.0 ∙ same)
    behind q same (inr last) = closed_all new_table p last.1 ∙ ap (calls_at new_table p) (sym last.0 ∙ same)
stage_first size counts t new_table p (WritePart block from) next held staged going first is = (
  calls_at t p (behind_part t.blocks.next.items p.body.items block from),
  part_first t p block from held.planned staged,
  λ q same. ap (calls_at t p) (some_same (behind_part t.blocks.next.items p.body.items block from) q (sym is.0 ∙ same))
      ∙ ap (λ v. calls_at v p q) (sym is.1),
  λ none. absurd (let bad : Option.Some (behind_part t.blocks.next.items p.body.items block from) ≡ None = sym is.0 ∙ none in cc),
)
stage_first size counts t new_table p WriteHead next held staged going first is = (
  calls_at t p SyncHead,
  refl,
  λ q same. ap (calls_at t p) (some_same SyncHead q (sym is.0 ∙ same)) ∙ ap (λ v. calls_at v p q) (sym is.1),
  λ none. absurd (let bad : Option.Some SyncHead ≡ None = sym is.0 ∙ none in cc),
)
stage_first size counts t new_table p SyncHead next held staged going first is = (
  calls_at t p Open,
  refl,
  λ q same. ap (calls_at t p) (some_same Open q (sym is.0 ∙ same)) ∙ ap (λ v. calls_at v p q) (sym is.1),
  λ none. absurd (let bad : Option.Some Open ≡ None = sym is.0 ∙ none in cc),
)
stage_first size counts t new_table p Open next held staged going first is = (
  calls_at t p SyncOpen,
  refl,
  λ q same. ap (calls_at t p) (some_same SyncOpen q (sym is.0 ∙ same)) ∙ ap (λ v. calls_at v p q) (sym is.1),
  λ none. absurd (let bad : Option.Some SyncOpen ≡ None = sym is.0 ∙ none in cc),
)
stage_first size counts t new_table p SyncOpen next held staged going first is = (
  [],
  refl,
  λ q same. absurd (let bad : Option.Some q ≡ None = sym same ∙ is.0 in cc),
  λ none. refl,
)
stage_first size counts t new_table p (Ended gate synced) next held staged going first is = absurd (false≢true going)
