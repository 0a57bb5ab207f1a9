-- What one call of a job leaves of what is seen of a store.
use Rattle.std.specs.Prelude.{◌≡◌, ℕ, ◌+◌, ◌≤◌, Bool, true, false, List, []}
use Rattle.std.specs.Prelude.{◌∷◌, ◌++◌, ◌==◌, min, slice_index, length, map}
use Rattle.std.specs.Prelude.{Option, None, Some, Ok, if◌then◌else◌}
use Rattle.std.proofs.Common.{refl, ap, ◌∙◌, inl, inr, arith}
use Rattle.std.proofs.lemmas.Bool.{false≢true}
use Rattle.std.proofs.lemmas.List.{length-append}
use Rattle.eden_disk.specs.Told.{Contents, LeavesOnly}
use Rattle.eden_disk.specs.Calls.{Counts}
use Rattle.passive_store.specs.Acts.{DiskCall, Write}
use Rattle.passive_store.specs.Kept.{Kept, Busy, Stands, IsFresh}
use Rattle.block_tables.specs.declared.table.Table.{Table}
use Rattle.passive_blocks.specs.declared.block_store.Pending.{Pending}
use Rattle.passive_blocks.specs.declared.block_store.Stage.{Stage}
use Rattle.passive_blocks.specs.declared.block_store.Stage.TheVariants.{Close, Write as WritePart, Head as WriteHead, SyncHead, Open}
use Rattle.passive_blocks.specs.declared.block_store.Stage.TheVariants.{SyncOpen}
use Rattle.passive_blocks.specs.declared.block_store.Stage.TheVariants.{Ended}
use Rattle.block_tables.specs.Blocks.{head_place, kept_in_blocks}
use Rattle.passive_blocks.specs.BlockLayout.{block_layout}
use Rattle.block_tables.specs.HeadState.{heads_in}
use Rattle.passive_blocks.specs.HeldState.{IsHeld}
use Rattle.passive_blocks.specs.StoreState.{members_of, calls_behind, last_calls, calls_from, calls_at, work_at, change_of}
use Rattle.passive_blocks.specs.StageState.{IsEarly, IsLate, IsRefusedAt, IsStageOn, IsSpelled, IsNext, is_going}
use Rattle.passive_blocks.specs.StageState.{behind_part}
use Rattle.passive_blocks.proofs.StageStands.{early_stands, stands_with, late_all_stand}
use Rattle.passive_blocks.proofs.StageOpens.{late_ready}

-- the work of a job that goes on
pub work_going : (t : Table) (p : Pending) (stage : Stage) → is_going stage ≡ true
    → work_at t p stage ≡ Busy (change_of p) p.made (calls_at t p stage)
work_going t p Close going = refl
work_going t p (WritePart block from) going = refl
work_going t p WriteHead going = refl
work_going t p SyncHead going = refl
work_going t p Open going = refl
work_going t p SyncOpen going = refl
work_going t p (Ended gate synced) going = absurd (false≢true going)

-- at each stage of it there is a call left
four_more : (cs : List DiskCall) (p : Pending) → 1 ≤ length (cs ++ last_calls p.head)
four_more cs p = omega (arith, length-append cs (last_calls p.head))

behind_some : (t : Table) (p : Pending) → 1 ≤ length (calls_behind t.blocks p)
behind_some t p = go p.head.removal
  where
    go : (b : Bool) → 1 ≤ length (if b then last_calls p.head else calls_from t.blocks p.head p.head.first p.body.items)
    go true = omega arith
    go false = four_more _ p

pub calls_some : (t : Table) (p : Pending) (stage : Stage) → is_going stage ≡ true → 1 ≤ length (calls_at t p stage)
calls_some t p Close going =
    omega (
      arith,
      length-append (map (λ number. Write (head_place number) (0 ∷ [])) (members_of t.heads.closing)) (calls_behind t.blocks p),
      behind_some t p,
    )
calls_some t p (WritePart block from) going = four_more _ p
calls_some t p WriteHead going = omega arith
calls_some t p SyncHead going = omega arith
calls_some t p Open going = omega arith
calls_some t p SyncOpen going = omega arith
calls_some t p (Ended gate synced) going = absurd (false≢true going)

some_stage : (s q : Stage) → Option.Some s ≡ Some q → s ≡ q
some_stage s q e = cc

going_part : (next body : List ℕ) (block from : ℕ) → is_going (behind_part next body block from) ≡ true
going_part next body block from = go (slice_index next block == 0)
  where
    go : (b : Bool) → is_going (if b then WriteHead else WritePart (slice_index next block) (min (from + 1022) (length body))) ≡ true
    go true = refl
    go false = refl

-- what follows goes on
pub next_going : (t new_table : Table) (p : Pending) (stage s : Stage) → is_going stage ≡ true → IsNext t new_table p stage (Some s)
    → is_going s ≡ true
next_going t new_table p Close s going next = elim next.1 [
  | inl more ↦ ap is_going more.0
  | inr last ↦ ap is_going last.0 ∙ go p.head.removal
]
  where
    go : (b : Bool) → is_going (if b then WriteHead else WritePart p.head.first 0) ≡ true
    go true = refl
    go false = refl
next_going t new_table p (WritePart block from) s going next =
    ap is_going (some_stage s (behind_part t.blocks.next.items p.body.items block from) next.0)
    ∙ going_part t.blocks.next.items p.body.items block from
next_going t new_table p WriteHead s going next = ap is_going (some_stage s SyncHead next.0)
next_going t new_table p SyncHead s going next = ap is_going (some_stage s Open next.0)
next_going t new_table p Open s going next = ap is_going (some_stage s SyncOpen next.0)
next_going t new_table p SyncOpen s going next = absurd (let bad : Option.Some s ≡ None = next.0 in cc)
next_going t new_table p (Ended gate synced) s going next = absurd (false≢true going)

-- a job by its head and body, at another stage
abbrev pub at_stage : Pending → Stage → ℕ → Pending
at_stage p stage made = record p { stage = stage; made = made }

pub calls_alike : (t : Table) (p : Pending) (stage s : Stage) (made : ℕ) → calls_at t (at_stage p stage made) s ≡ calls_at t p s
calls_alike t p stage Close made = refl
calls_alike t p stage (WritePart block from) made = refl
calls_alike t p stage WriteHead made = refl
calls_alike t p stage SyncHead made = refl
calls_alike t p stage Open made = refl
calls_alike t p stage SyncOpen made = refl
calls_alike t p stage (Ended gate synced) made = refl

pub stage_alike : (node more : ℕ) (t : Table) (p : Pending) (c : Contents) (power : Bool) (stage s : Stage) (made : ℕ)
    → IsStageOn node more t p c power s → IsStageOn node more t (at_stage p stage made) c power s
stage_alike node more t p c power stage Close made on =
    (record { began = on.0.began; heads = on.0.heads; begun = on.0.begun; shut = on.0.shut; told = on.0.told; fits = on.0.fits }, on.1)
stage_alike node more t p c power stage (WritePart block from) made on =
    (record { began = on.0.began; heads = on.0.heads; begun = on.0.begun; shut = on.0.shut; told = on.0.told; fits = on.0.fits }, on.1)
stage_alike node more t p c power stage WriteHead made on =
    (record { began = on.0.began; heads = on.0.heads; begun = on.0.begun; shut = on.0.shut; told = on.0.told; fits = on.0.fits }, on.1)
stage_alike node more t p c power stage SyncHead made on =
    (record { began = on.0.began; heads = on.0.heads; begun = on.0.begun; shut = on.0.shut; told = on.0.told; fits = on.0.fits }, on.1)
stage_alike node more t p c power stage Open made on = (
  on.0,
  record { table = on.1.table; body = on.1.body; head = on.1.head; shut = on.1.shut },
  record { now = on.2.now; behind = on.2.behind },
)
stage_alike node more t p c power stage SyncOpen made on = (
  record {
    ready = on.0.ready;
    is = record { table = on.0.is.table; body = on.0.is.body; head = on.0.is.head; shut = on.0.is.shut };
    told = record { now = on.0.told.now; behind = on.0.told.behind };
    fits = on.0.fits;
  },
  on.1,
)
stage_alike node more t p c power stage (Ended gate synced) made on = (
  elim on.0 [
    | inl early ↦ inl (
      record {
        began = early.0.began;
        heads = early.0.heads;
        begun = early.0.begun;
        shut = early.0.shut;
        told = early.0.told;
        fits = early.0.fits;
      },
      λ power.
          let s = early.1 power in
          record { shut = s.shut; own = s.own; still_open = s.still_open; closed = s.closed },
    )
    | inr late ↦ inr (
      record {
        ready = late.0.ready;
        is = record { table = late.0.is.table; body = late.0.is.body; head = late.0.is.head; shut = late.0.is.shut };
        told = record { now = late.0.told.now; behind = late.0.told.behind };
        fits = late.0.fits;
      },
      late.1,
    )
  ],
  on.1,
)

-- What a crash may leave at a stage stands for what is kept, with or without the change;
pub early_leaves : (node size more : ℕ) (counts : Counts) (t : Table) (p : Pending) (c : Contents) (kept : Kept)
    → IsHeld size counts t (Some p) → IsEarly node more t p c → kept_in_blocks c.now (Ok (heads_in t.heads.slots.items)) ≡ Ok kept
    → LeavesOnly (Stands block_layout node more kept (change_of p ∷ [])) c
early_leaves node size more counts t p c kept held e is image left =
    stands_with node more kept (change_of p) image
    (early_stands node size more counts t p c kept image held e is (e.fits.left image left))

pub late_leaves : (node size more : ℕ) (counts : Counts) (t : Table) (p : Pending) (c : Contents) (kept : Kept)
    → IsHeld size counts t (Some p) → IsSpelled node t.blocks.size p.head → IsLate node more t p c
    → kept_in_blocks c.now (Ok (heads_in t.heads.slots.items)) ≡ Ok kept → IsFresh (change_of p) kept
    → LeavesOnly (Stands block_layout node more kept (change_of p ∷ [])) c
late_leaves node size more counts t p c kept held spelled l is fresh image left =
    late_all_stand node size more counts t p c kept image held spelled l is fresh (l.fits.left image left)

pub refused_leaves : (node size more : ℕ) (counts : Counts) (t : Table) (p : Pending) (c : Contents) (power : Bool) (gate : ℕ) (kept : Kept)
    → IsHeld size counts t (Some p) → IsSpelled node t.blocks.size p.head → IsRefusedAt node more t p c power gate
    → kept_in_blocks c.now (Ok (heads_in t.heads.slots.items)) ≡ Ok kept → IsFresh (change_of p) kept
    → LeavesOnly (Stands block_layout node more kept (change_of p ∷ [])) c
refused_leaves node size more counts t p c power gate kept held spelled (inl early) is fresh =
    early_leaves node size more counts t p c kept held early.0 is
refused_leaves node size more counts t p c power gate kept held spelled (inr late) is fresh =
    late_leaves node size more counts t p c kept held spelled late.0 is fresh

pub stage_leaves : (node size more : ℕ) (counts : Counts) (t : Table) (p : Pending) (c : Contents) (power : Bool) (stage : Stage)
    (kept : Kept)
    → IsHeld size counts t (Some p) → IsSpelled node t.blocks.size p.head → IsStageOn node more t p c power stage
    → kept_in_blocks c.now (Ok (heads_in t.heads.slots.items)) ≡ Ok kept → IsFresh (change_of p) kept
    → LeavesOnly (Stands block_layout node more kept (change_of p ∷ [])) c
stage_leaves node size more counts t p c power Close kept held spelled on is fresh =
    early_leaves node size more counts t p c kept held on.0 is
stage_leaves node size more counts t p c power (WritePart block from) kept held spelled on is fresh =
    early_leaves node size more counts t p c kept held on.0 is
stage_leaves node size more counts t p c power WriteHead kept held spelled on is fresh =
    early_leaves node size more counts t p c kept held on.0 is
stage_leaves node size more counts t p c power SyncHead kept held spelled on is fresh =
    early_leaves node size more counts t p c kept held on.0 is
stage_leaves node size more counts t p c power Open kept held spelled on is fresh =
    late_leaves node size more counts t p c kept held spelled
    (record { ready = c.now; is = on.1; told = on.2; fits = late_ready node more t p c on }) is fresh
stage_leaves node size more counts t p c power SyncOpen kept held spelled on is fresh =
    late_leaves node size more counts t p c kept held spelled on.0 is fresh
stage_leaves node size more counts t p c power (Ended gate synced) kept held spelled on is fresh =
    refused_leaves node size more counts t p c power gate kept held spelled on.0 is fresh
