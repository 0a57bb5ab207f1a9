-- A call of a settling as the store makes it: what holds behind it, and what is seen of it, by its result.
use Rattle.std.specs.Prelude.{◌≡◌, ◌⊎◌, ℕ, ◌+◌, ◌≤◌, Bool, true, false, IsTrue, [], ◌∷◌, length, Option, None, Some}
use Rattle.std.specs.Prelude.{Ok, Err}
use Rattle.std.proofs.Common.{refl, sym, ap, subst, ◌∙◌}
use Rattle.eden_disk.specs.Told.{Contents, at_rest, contents, LeavesOnly, EachMoment}
use Rattle.eden_disk.specs.Calls.{End, Fine}
use Rattle.eden_disk.proofs.Held.{passes_sync, passes_read}
use Rattle.passive_store.specs.declared.store.Pick.{Pick}
use Rattle.passive_store.specs.declared.store.Progress.{Progress}
use Rattle.passive_store.specs.declared.store.Progress.TheVariants.{Going, Done}
use Rattle.passive_store.specs.declared.store.StoreRefusal.{StoreRefusal}
use Rattle.passive_store.specs.Acts.{Sync, Read, CallTold, settling_call}
use Rattle.passive_store.specs.Kept.{Stands, IsFresh, IsDiskRefusal, end_of_store, settled, Idle, Unsettled}
use Rattle.passive_store.specs.Seen.{DiskSeen, SettlesOneCall}
use Rattle.passive_blocks.specs.StageState.{TellsBehind}
use Rattle.block_tables.specs.declared.table.Table.{Table}
use Rattle.passive_blocks.specs.declared.block_store.Pending.{Pending}
use Rattle.passive_blocks.specs.declared.block_store.Stage.{Stage}
use Rattle.passive_blocks.specs.declared.block_store.Stage.TheVariants.{Open, SyncOpen, Ended}
use Rattle.block_tables.specs.Members.{is_member}
use Rattle.block_tables.specs.Blocks.{kept_in_blocks}
use Rattle.passive_blocks.specs.BlockLayout.{block_layout, block_changes}
use Rattle.block_tables.specs.HeadState.{heads_in}
use Rattle.passive_blocks.specs.HeldState.{IsHeld}
use Rattle.passive_blocks.specs.StoreState.{IsTableOf, IsImageOf, change_of, kept_or_none, pending_work, work_at, calls_at}
use Rattle.passive_blocks.specs.StageState.{IsStore, IsStageOn, IsRefusedAt, IsWaiting, IsStaged, IsSettledBy, settled_slots}
use Rattle.passive_blocks.specs.StageState.{gate_open}
use Rattle.passive_blocks.proofs.HeldMaking.{held_at_stage, held_by_counts}
use Rattle.passive_blocks.proofs.StageSettling.{settle_syncs, settle_reads}
use Rattle.passive_blocks.proofs.StageStands.{idle_stands}
use Rattle.passive_blocks.proofs.StageRecords.{at_stage, stage_alike, refused_leaves}
use Rattle.passive_blocks.proofs.StageTold.{telling_alike}
use Rattle.passive_blocks.proofs.StageAdvances.{OneCall, seen_with}
use Rattle.passive_blocks.proofs.StageGoes.{kept_seen, spelled_here}
use Rattle.passive_blocks.proofs.StageSettles.{KeepsAll, refused_known, settle_keeps, settle_moments, settle_failed, settle_synced}
use Rattle.passive_blocks.proofs.StageSettles.{settle_done}
use Rattle.passive_blocks.proofs.StageSettled.{refused_told, found_by_gate}

-- a store whose job was refused
pub record IsDoubt (tells : Bool) (node size more : ℕ) (old : DiskSeen) (t : Table) (p : Pending) (gate : ℕ) (synced : Bool) : Type 0 where
  pub store : IsStore tells node size more old.counts old.told t (Some p)
  pub stage : p.stage ≡ Ended gate synced
  pub power : old.counts.power ≡ true

pub on_of : (tells : Bool) (node size more : ℕ) (old : DiskSeen) (t : Table) (p : Pending) (gate : ℕ) (synced : Bool)
    → IsDoubt tells node size more old t p gate synced → IsTrue tells → IsStageOn node more t p (contents old.told) true (Ended gate synced)
on_of tells node size more old t p gate synced d telling =
    subst (IsStageOn node more t p (contents old.told) true) d.stage
    (subst (λ w. IsStageOn node more t p (contents old.told) w p.stage) d.power (d.store.on telling))

known_of : (tells : Bool) (node size more : ℕ) (old : DiskSeen) (t : Table) (p : Pending) (gate : ℕ) (synced : Bool)
    → IsDoubt tells node size more old t p gate synced → IsTrue tells
    → kept_in_blocks (contents old.told).now (Ok (heads_in t.heads.slots.items)) ≡ Ok (kept_seen old.told t)
known_of tells node size more old t p gate synced d telling =
    refused_known node size more old.counts t p (contents old.told) true gate d.store.held d.store.staged
    (on_of tells node size more old t p gate synced d telling).0

still_of : (tells : Bool) (node size more : ℕ) (old new : DiskSeen) (t : Table) (p : Pending) (gate : ℕ) (synced : Bool)
    → IsDoubt tells node size more old t p gate synced → (IsTrue tells → KeepsAll old.told new.told) → IsTrue tells
    → kept_in_blocks (contents new.told).now (Ok (heads_in t.heads.slots.items)) ≡ Ok (kept_seen old.told t)
still_of tells node size more old new t p gate synced d keeps telling =
    settle_keeps node size more old.counts t p true gate (kept_seen old.told t) old.told new.told d.store.held
    (spelled_here node size old.counts t p d.store.held d.store.staged) (on_of tells node size more old t p gate synced d telling).0
    (keeps telling) (known_of tells node size more old t p gate synced d telling)

-- The doubt stays, with its sync made or not.
pub doubt_store : (tells : Bool) (node size more : ℕ) (old new : DiskSeen) (t : Table) (p : Pending) (gate : ℕ) (synced flag : Bool)
    → IsDoubt tells node size more old t p gate synced → new.counts.size ≡ old.counts.size → (IsTrue tells → KeepsAll old.told new.told)
    → (IsTrue tells → IsRefusedAt node more t p (contents new.told) new.counts.power gate)
    → (IsTrue tells → flag ≡ true → contents new.told ≡ at_rest (contents new.told).now)
    → IsStore tells node size more new.counts new.told t (Some (at_stage p (Ended gate flag) p.made))
doubt_store tells node size more old new t p gate synced flag d sized keeps on rest =
    let q : Pending = at_stage p (Ended gate flag) p.made in
    let waits : IsWaiting node size t p = d.store.staged in
    let still = still_of tells node size more old new t p gate synced d keeps in
    record {
      held = held_at_stage size new.counts t p q (held_by_counts size old.counts new.counts t (Some p) d.store.held sized) refl refl;
      staged = record {
        staged = subst (IsStaged t p) d.stage waits.staged;
        spelled = waits.spelled;
        short = waits.short;
        limit = waits.limit;
        few = subst (λ s. p.made + length (calls_at t p s) ≤ 131072) d.stage waits.few;
        later = (
          λ is. absurd (let bad : Stage.Ended gate flag ≡ Open = is in cc),
          λ is. absurd
              (let bad : Stage.Ended gate flag ≡ SyncOpen = is in cc),
        );
      };
      on = λ telling. stage_alike node more t p (contents new.told) new.counts.power (Ended gate flag) (Ended gate flag) p.made
          (on telling, rest telling);
      fresh = λ telling. subst (IsFresh (change_of p)) (sym (ap kept_or_none (still telling))) (d.store.fresh telling);
      telling = λ tell. telling_alike node more t p (Ended gate flag) p.made (d.store.telling tell);
      first = λ telling some. subst (λ k. TellsBehind node k p.head.uid) (sym (ap kept_or_none (still telling)))
          (d.store.first telling some);
    }

-- What is found by the gate settles it.
pub settled_store : (tells : Bool) (node size more : ℕ) (old new : DiskSeen) (t made : Table) (p : Pending) (gate : ℕ) (opened : Bool)
    (pick : Pick)
    → IsDoubt tells node size more old t p gate true → (IsTrue tells → new.told ≡ old.told) → IsHeld size new.counts made None
    → IsSettledBy t made p gate opened pick
    → (IsTrue tells → gate_open (contents old.told).now gate ≡ opened) → (gate ≡ p.head.number) ⊎ (is_member t.heads.closing gate ≡ true)
    → IsStore tells node size more new.counts new.told made None
    × (IsTrue tells → kept_in_blocks (contents new.told).now (Ok (heads_in made.heads.slots.items))
    ≡ Ok (settled (Some pick) (Unsettled (change_of p) true) (kept_seen old.told t)))
settled_store tells node size more old new t made p gate opened pick d same held by says staged =
    let spelled = spelled_here node size old.counts t p d.store.held d.store.staged in
    let found = λ (telling : IsTrue tells). found_by_gate node size more old.counts t p (contents old.told) gate (kept_seen old.told t)
    opened
    d.store.held spelled (on_of tells node size more old t p gate true d telling).0 staged (says telling)
    (known_of tells node size more old t p gate true d telling) in
    let still = λ (telling : IsTrue tells). sym (same telling) in (
      record {
        held = held;
        staged = by.lone;
        on = λ telling. subst (λ v. (contents v ≡ at_rest (contents v).now) × IsTableOf node (contents v).now made
            × (more ≤ block_changes node (contents v).now))
            (still telling) (
              (on_of tells node size more old t p gate true d telling).1 refl,
              subst (λ s. IsImageOf node (contents old.told).now s made.blocks.next.items made.blocks.size) (sym by.items)
                  (subst (λ v. IsImageOf node (contents old.told).now (settled_slots t p gate opened) v.items made.blocks.size)
                  (sym by.next)
                  (subst (λ n. IsImageOf node (contents old.told).now (settled_slots t p gate opened) t.blocks.next.items n) (sym by.size)
                  (found telling).image)),
              refused_told node size more old.counts t p (contents old.told) true gate (kept_seen old.told t) d.store.held spelled
                  (on_of tells node size more old t p gate true d telling).0 (known_of tells node size more old t p gate true d telling)
                  (d.store.fresh telling),
            );
        fresh = λ telling. tt;
        telling = λ tell. tt;
        first = λ telling. tt;
      },
      λ telling. subst (λ v. kept_in_blocks (contents v).now (Ok (heads_in made.heads.slots.items))
          ≡ Ok (settled (Some pick) (Unsettled (change_of p) true) (kept_seen old.told t))) (still telling)
          (ap (λ s. kept_in_blocks (contents old.told).now (Ok (heads_in s))) by.items
          ∙ (found telling).keeps
          ∙ ap (λ k. Ok (settled (Some k) (Unsettled (change_of p) true) (kept_seen old.told t))) (sym by.pick)),
    )

-- A sync and a read keep all that holds of the images,
pub sync_keeps : (tells : Bool) (old new : DiskSeen) (end : End) → (IsTrue tells → CallTold Sync new.counts.clock old.told new.told end)
    → IsTrue tells → KeepsAll old.told new.told
sync_keeps tells old new end told telling P h = passes_sync P new.counts.clock old.told new.told end h (told telling)

pub read_keeps : (tells : Bool) (old new : DiskSeen) (end : End) → (IsTrue tells → CallTold Read new.counts.clock old.told new.told end)
    → IsTrue tells → KeepsAll old.told new.told
read_keeps tells old new end told telling P h = passes_read P new.counts.clock old.told new.told end h (told telling)

-- and the doubt.
pub sync_on : (tells obeys : Bool) (node size more : ℕ) (old new : DiskSeen) (t : Table) (p : Pending) (gate : ℕ) (synced : Bool)
    (end : End)
    → IsDoubt tells node size more old t p gate synced → OneCall tells obeys Sync end old new → IsTrue tells
    → IsRefusedAt node more t p (contents new.told) new.counts.power gate
sync_on tells obeys node size more old new t p gate synced end d one telling =
    subst (λ w. IsRefusedAt node more t p (contents new.told) w gate) (sym one.counts.power)
    (settle_syncs node more t p gate new.counts.clock old.told new.told end (on_of tells node size more old t p gate synced d telling).0
    (one.told telling))

pub read_on : (tells obeys : Bool) (node size more : ℕ) (old new : DiskSeen) (t : Table) (p : Pending) (gate : ℕ) (synced : Bool)
    (end : End)
    → IsDoubt tells node size more old t p gate synced → OneCall tells obeys Read end old new → IsTrue tells
    → IsRefusedAt node more t p (contents new.told) new.counts.power gate
read_on tells obeys node size more old new t p gate synced end d one telling =
    subst (λ w. IsRefusedAt node more t p (contents new.told) w gate) (sym one.counts.power)
    (settle_reads node more t p gate new.counts.clock old.told new.told end (on_of tells node size more old t p gate synced d telling).0
    (one.told telling))

work_doubt : (t : Table) (p : Pending) (gate : ℕ) (synced : Bool) → p.stage ≡ Ended gate synced → pending_work t (Some p) ≡ Unsettled
    (change_of p) synced
work_doubt t p gate synced is = ap (work_at t p) is

moments_doubt : (tells : Bool) (node size more : ℕ) (old new : DiskSeen) (t : Table) (p : Pending) (gate : ℕ) (synced : Bool)
    → IsDoubt tells node size more old t p gate synced → (IsTrue tells → KeepsAll old.told new.told) → IsTrue tells
    → EachMoment (Stands block_layout node more (kept_seen old.told t) (change_of p ∷ [])) old.told new.told
moments_doubt tells node size more old new t p gate synced d keeps telling =
    settle_moments node size more old.counts t p true gate (kept_seen old.told t) old.told new.told d.store.held
    (spelled_here node size old.counts t p d.store.held d.store.staged) (on_of tells node size more old t p gate synced d telling).0
    (keeps telling)
    (known_of tells node size more old t p gate synced d telling) (d.store.fresh telling)

leaves_doubt : (tells : Bool) (node size more : ℕ) (old new : DiskSeen) (t : Table) (p : Pending) (gate : ℕ) (synced : Bool)
    → IsDoubt tells node size more old t p gate synced → new.counts.size ≡ old.counts.size → (IsTrue tells → KeepsAll old.told new.told)
    → (IsTrue tells → IsRefusedAt node more t p (contents new.told) new.counts.power gate) → IsTrue tells
    → LeavesOnly (Stands block_layout node more (kept_seen new.told t) (change_of p ∷ [])) (contents new.told)
leaves_doubt tells node size more old new t p gate synced d sized keeps on telling =
    let still = still_of tells node size more old new t p gate synced d keeps telling in
    refused_leaves node size more new.counts t p (contents new.told) new.counts.power gate (kept_seen new.told t)
    (held_by_counts size old.counts new.counts t (Some p) d.store.held sized)
    (spelled_here node size old.counts t p d.store.held d.store.staged) (on telling)
    (still ∙ ap (λ k. Ok k) (sym (ap kept_or_none still))) (subst (IsFresh (change_of p)) (sym (ap kept_or_none still))
    (d.store.fresh telling))

-- What is seen of a refused call,
pub failed_seen : (tells obeys : Bool) (node size more : ℕ) (old new : DiskSeen) (t : Table) (p : Pending) (gate : ℕ) (synced : Bool)
    (picked : Option Pick) (e : StoreRefusal) → IsDoubt tells node size more old t p gate synced → IsDiskRefusal e
    → OneCall tells obeys (settling_call synced) (end_of_store {T = Progress} (Err e)) old new → (IsTrue tells → KeepsAll old.told new.told)
    → (IsTrue tells → IsRefusedAt node more t p (contents new.told) new.counts.power gate)
    → SettlesOneCall tells obeys block_layout (Err e) (seen_with node (pending_work t (Some p)) picked (kept_seen old.told t) more old)
    (seen_with node (pending_work t (Some (at_stage p (Ended gate false) p.made))) None (kept_seen new.told t) more new)
failed_seen tells obeys node size more old new t p gate synced picked e d refusal one keeps on =
    subst (λ w. SettlesOneCall tells obeys block_layout (Err e) (seen_with node w picked (kept_seen old.told t) more old)
    (seen_with node (Unsettled (change_of p) false) None (kept_seen new.told t) more new)) (sym (work_doubt t p gate synced d.stage))
    (settle_failed tells obeys node more (change_of p) synced (settling_call synced) picked (kept_seen old.told t) (kept_seen new.told t)
    old new e
    refl refusal one (λ telling. ap kept_or_none (still_of tells node size more old new t p gate synced d keeps telling)) d.store.fresh
    (leaves_doubt tells node size more old new t p gate synced d one.counts.size keeps on)
    (moments_doubt tells node size more old new t p gate synced d keeps))

-- of the sync,
pub synced_seen : (tells obeys : Bool) (node size more : ℕ) (old new : DiskSeen) (t : Table) (p : Pending) (gate : ℕ) (picked : Option Pick)
    → IsDoubt tells node size more old t p gate false → OneCall tells obeys Sync Fine old new
    → SettlesOneCall tells obeys block_layout (Ok Going) (seen_with node (pending_work t (Some p)) picked (kept_seen old.told t) more old)
    (seen_with node (pending_work t (Some (at_stage p (Ended gate true) p.made))) None (kept_seen new.told t) more new)
synced_seen tells obeys node size more old new t p gate picked d one =
    let keeps = sync_keeps tells old new Fine one.told in
    let on = sync_on tells obeys node size more old new t p gate false Fine d one in
    subst (λ w. SettlesOneCall tells obeys block_layout (Ok Going) (seen_with node w picked (kept_seen old.told t) more old)
    (seen_with node (Unsettled (change_of p) true) None (kept_seen new.told t) more new)) (sym (work_doubt t p gate false d.stage))
    (settle_synced tells obeys node more (change_of p) picked (kept_seen old.told t) (kept_seen new.told t) old new one
    (λ telling. ap kept_or_none (still_of tells node size more old new t p gate false d keeps telling)) d.store.fresh
    (leaves_doubt tells node size more old new t p gate false d one.counts.size keeps on)
    (moments_doubt tells node size more old new t p gate false d keeps))

pub synced_store : (tells obeys : Bool) (node size more : ℕ) (old new : DiskSeen) (t : Table) (p : Pending) (gate : ℕ)
    → IsDoubt tells node size more old t p gate false → OneCall tells obeys Sync Fine old new
    → IsStore tells node size more new.counts new.told t (Some (at_stage p (Ended gate true) p.made))
synced_store tells obeys node size more old new t p gate d one =
    doubt_store tells node size more old new t p gate false true d one.counts.size (sync_keeps tells old new Fine one.told)
    (sync_on tells obeys node size more old new t p gate false Fine d one)
    (λ telling is. let e : contents new.told ≡ at_rest (contents old.told).now = ap contents (one.told telling) in
    e ∙ sym (ap (λ (x : Contents). at_rest x.now) e))

-- and of the read.
pub read_seen : (tells obeys : Bool) (node size more : ℕ) (old new : DiskSeen) (t made : Table) (p : Pending) (gate : ℕ) (opened : Bool)
    (pick : Pick)
    (picked : Option Pick) → IsDoubt tells node size more old t p gate true → OneCall tells obeys Read Fine old new
    → IsHeld size new.counts made None → IsSettledBy t made p gate opened pick
    → (IsTrue tells → gate_open (contents old.told).now gate ≡ opened) → (gate ≡ p.head.number) ⊎ (is_member t.heads.closing gate ≡ true)
    → SettlesOneCall tells obeys block_layout (Ok Done) (seen_with node (pending_work t (Some p)) picked (kept_seen old.told t) more old)
    (seen_with node (pending_work made None) (Some pick) (kept_seen new.told made) more new)
read_seen tells obeys node size more old new t made p gate opened pick picked d one held by says staged =
    let s = settled_store tells node size more old new t made p gate opened pick d one.told held by says staged in
    subst (λ w. SettlesOneCall tells obeys block_layout (Ok Done) (seen_with node w picked (kept_seen old.told t) more old)
    (seen_with node Idle (Some pick) (kept_seen new.told made) more new)) (sym (work_doubt t p gate true d.stage))
    (settle_done tells obeys node more (change_of p) picked pick (kept_seen old.told t) (kept_seen new.told made) old new one
    (λ telling. ap kept_or_none (s.1 telling)) d.store.fresh
    (λ telling. let on = s.0.on telling in
    idle_stands node more made (contents new.told) (kept_seen new.told made) (s.0.held.table.blocks.sized) on.0 on.1 on.2
    (s.1 telling ∙ ap (λ k. Ok k) (sym (ap kept_or_none (s.1 telling)))))
    (moments_doubt tells node size more old new t p gate true d (read_keeps tells old new Fine one.told)))
