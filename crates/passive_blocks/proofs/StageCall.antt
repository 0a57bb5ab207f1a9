-- A call of a job as the store makes it: what holds behind it, and what is seen of it, by its result.
use Rattle.std.specs.Prelude.{◌≡◌, ℕ, ◌+◌, Bool, true, false, IfOk, IfErr}
use Rattle.std.specs.Prelude.{Option, None, Some, Result, Ok, Err}
use Rattle.std.proofs.Common.{refl, sym, ap, subst, ◌∙◌, inl, inr}
use Rattle.std.proofs.lemmas.Bool.{false≢true}
use Rattle.eden_disk.specs.declared.disk.DiskRefusal.{DiskRefusal}
use Rattle.eden_disk.specs.declared.disk.DiskRefusal.TheVariants.{Failed, Stopped}
use Rattle.eden_disk.specs.Calls.{Fine, AtFault, AtStop, end_of}
use Rattle.passive_store.specs.declared.store.Pick.{Pick}
use Rattle.passive_store.specs.declared.store.Progress.{Progress}
use Rattle.passive_store.specs.declared.store.Progress.TheVariants.{Going, Done}
use Rattle.passive_store.specs.declared.store.StoreRefusal.{StoreRefusal}
use Rattle.passive_store.specs.Kept.{IsDiskRefusal, is_busy, end_of_store, refused}
use Rattle.passive_store.specs.Seen.{DiskSeen, Advances}
use Rattle.block_tables.specs.declared.table.Table.{Table}
use Rattle.passive_blocks.specs.declared.block_store.Pending.{Pending}
use Rattle.passive_blocks.specs.declared.block_store.Stage.{Stage}
use Rattle.passive_blocks.specs.declared.block_store.Stage.TheVariants.{Close, Write as WritePart, Head as WriteHead, SyncHead, Open}
use Rattle.passive_blocks.specs.declared.block_store.Stage.TheVariants.{SyncOpen}
use Rattle.passive_blocks.specs.declared.block_store.Stage.TheVariants.{Ended}
use Rattle.block_tables.specs.Members.{is_member}
use Rattle.passive_blocks.specs.BlockLayout.{block_layout}
use Rattle.passive_blocks.specs.HeldState.{IsHeld}
use Rattle.passive_blocks.specs.StoreState.{work_at, pending_work, kept_or_none}
use Rattle.passive_blocks.specs.StageState.{IsStore, IsNext, stage_call, gate_of, is_going}
use Rattle.passive_blocks.proofs.StageLate.{slots_with}
use Rattle.passive_blocks.proofs.StageRecords.{at_stage}
use Rattle.passive_blocks.proofs.StageAdvances.{OneCall, seen_with}
use Rattle.passive_blocks.proofs.StageGoes.{Before, kept_seen, call_refused, call_done, call_made}
use Rattle.passive_blocks.proofs.StageStore.{before_call, store_refused, store_going, store_done, done_kept, done_leaves, next_keeping}
use Rattle.passive_blocks.proofs.StageStore.{none_is_last}

pub record IsCall (tells obeys : Bool) (node size more : ℕ) (old new : DiskSeen) (t new_table : Table) (pending : Option Pending)
    (p : Pending)
    (result : Result (Option Stage) DiskRefusal) : Type 0 where
  pub store : IsStore tells node size more old.counts old.told t pending
  pub is : pending ≡ Some p
  pub power : old.counts.power ≡ true
  pub busy : is_busy (pending_work t pending) ≡ true
  pub one : OneCall tells obeys (stage_call t p p.stage) (end_of result) old new
  pub held : IsHeld new.counts.size new.counts new_table (Some p)
  pub same : IfErr result (λ e. new_table ≡ t)
  pub next : IfOk result (IsNext t new_table p p.stage)

busy_going : (t : Table) (p : Pending) (stage : Stage) → is_busy (work_at t p stage) ≡ true → is_going stage ≡ true
busy_going t p Close busy = refl
busy_going t p (WritePart block from) busy = refl
busy_going t p WriteHead busy = refl
busy_going t p SyncHead busy = refl
busy_going t p Open busy = refl
busy_going t p SyncOpen busy = refl
busy_going t p (Ended gate synced) busy = absurd (false≢true busy)

before_of : (tells obeys : Bool) (node size more : ℕ) (old new : DiskSeen) (t new_table : Table) (pending : Option Pending) (p : Pending)
    (result : Result (Option Stage) DiskRefusal) → IsCall tells obeys node size more old new t new_table pending p result
    → Before tells node size more old new t p
before_of tells obeys node size more old new t new_table pending p result c =
    before_call tells node size more old new t p (subst (IsStore tells node size more old.counts old.told t) c.is c.store) c.power
    (busy_going t p p.stage (subst (λ o. is_busy (pending_work t o) ≡ true) c.is c.busy))

pub held_of : (tells obeys : Bool) (node size more : ℕ) (old new : DiskSeen) (t new_table : Table) (pending : Option Pending) (p : Pending)
    (result : Result (Option Stage) DiskRefusal) → IsCall tells obeys node size more old new t new_table pending p result
    → IsHeld size new.counts new_table (Some p)
held_of tells obeys node size more old new t new_table pending p result c =
    subst (λ n. IsHeld n new.counts new_table (Some p)) (c.one.counts.size ∙ c.store.held.sized) c.held

-- how a refusal of the disk is one of the store
pub refused_end : (r : DiskRefusal) → end_of_store {T = Progress} (Err (refused r)) ≡ end_of {T = Option Stage} (Err r)
refused_end Failed = refl
refused_end Stopped = refl

pub refused_is : (r : DiskRefusal) → IsDiskRefusal (refused r)
refused_is Failed = inl refl
refused_is Stopped = inr refl

not_fine : (r : DiskRefusal) → end_of_store {T = Progress} (Err (refused r)) ≡ Fine → ⊥
not_fine Failed e = absurd (let bad : AtFault ≡ Fine = e in cc)
not_fine Stopped e = absurd (let bad : AtStop ≡ Fine = e in cc)

one_refused : (tells obeys : Bool) (node size more : ℕ) (old new : DiskSeen) (t new_table : Table) (pending : Option Pending) (p : Pending)
    (result : Result (Option Stage) DiskRefusal) (r : DiskRefusal) → IsCall tells obeys node size more old new t new_table pending p result
    → result ≡ Err r → OneCall tells obeys (stage_call t p p.stage) (end_of_store {T = Progress} (Err (refused r))) old new
one_refused tells obeys node size more old new t new_table pending p result r c is =
    subst (λ e. OneCall tells obeys (stage_call t p p.stage) e old new) (sym (refused_end r))
    (subst (λ v. OneCall tells obeys (stage_call t p p.stage) (end_of v) old new) is c.one)

same_of : (tells obeys : Bool) (node size more : ℕ) (old new : DiskSeen) (t new_table : Table) (pending : Option Pending) (p : Pending)
    (result : Result (Option Stage) DiskRefusal) (r : DiskRefusal) → IsCall tells obeys node size more old new t new_table pending p result
    → result ≡ Err r → new_table ≡ t
same_of tells obeys node size more old new t new_table pending p result r c is =
    subst (λ v. IfErr v (λ e. new_table ≡ t)) is c.same

gate_alike : (t : Table) (p : Pending) (stage : Stage) (made : ℕ) → gate_of t (record p { made = made }) stage ≡ gate_of t p stage
gate_alike t p Close made = refl
gate_alike t p (WritePart block from) made = refl
gate_alike t p WriteHead made = refl
gate_alike t p SyncHead made = refl
gate_alike t p Open made = refl
gate_alike t p SyncOpen made = refl
gate_alike t p (Ended gate synced) made = refl

-- A refused call.
pub refused_store : (tells obeys : Bool) (node size more : ℕ) (old new : DiskSeen) (t new_table : Table) (pending : Option Pending)
    (p : Pending)
    (result : Result (Option Stage) DiskRefusal) (r : DiskRefusal) (gate : ℕ)
    → IsCall tells obeys node size more old new t new_table pending p result → result ≡ Err r
    → gate ≡ gate_of new_table (record p { made = p.made + 1 }) p.stage
    → IsStore tells node size more new.counts new.told new_table (Some (at_stage p (Ended gate false) (p.made + 1)))
refused_store tells obeys node size more old new t new_table pending p result r gate c is at =
    let same = same_of tells obeys node size more old new t new_table pending p result r c is in
    subst (λ v. IsStore tells node size more new.counts new.told v (Some (at_stage p (Ended gate false) (p.made + 1)))) (sym same)
    (store_refused tells obeys node size more old new t p gate (refused r)
    (before_of tells obeys node size more old new t new_table pending p result c) (refused_is r)
    (subst (λ v. IsHeld size new.counts v (Some p)) same (held_of tells obeys node size more old new t new_table pending p result c))
    (one_refused tells obeys node size more old new t new_table pending p result r c is) (not_fine r)
    (at ∙ ap (λ v. gate_of v (record p { made = p.made + 1 }) p.stage) same ∙ gate_alike t p p.stage (p.made + 1)))

pub refused_seen : (tells obeys : Bool) (node size more : ℕ) (old new : DiskSeen) (t new_table : Table) (pending : Option Pending)
    (p : Pending)
    (result : Result (Option Stage) DiskRefusal) (r : DiskRefusal) (gate : ℕ) (picked : Option Pick) (e : StoreRefusal)
    → IsCall tells obeys node size more old new t new_table pending p result → result ≡ Err r → e ≡ refused r
    → Advances tells obeys block_layout (Err e) (seen_with node (pending_work t pending) picked (kept_seen old.told t) more old)
    (seen_with node (pending_work new_table (Some (at_stage p (Ended gate false) (p.made + 1)))) picked (kept_seen new.told new_table) more
    new)
refused_seen tells obeys node size more old new t new_table pending p result r gate picked e c is refusal =
    let same = same_of tells obeys node size more old new t new_table pending p result r c is in
    subst (λ e. Advances tells obeys block_layout (Err e) (seen_with node (pending_work t pending) picked (kept_seen old.told t) more old)
    (seen_with node (pending_work new_table (Some (at_stage p (Ended gate false) (p.made + 1)))) picked (kept_seen new.told new_table) more
    new))
    (sym refusal)
    (subst (λ v. Advances tells obeys block_layout (Err (refused r)) (seen_with node (pending_work t pending) picked (kept_seen old.told t)
    more old)
    (seen_with node (pending_work v (Some (at_stage p (Ended gate false) (p.made + 1)))) picked (kept_seen new.told v) more new)) (sym same)
    (subst (λ o. Advances tells obeys block_layout (Err (refused r)) (seen_with node (pending_work t o) picked (kept_seen old.told t) more
    old)
    (seen_with node (pending_work t (Some (at_stage p (Ended gate false) (p.made + 1)))) picked (kept_seen new.told t) more new)) (sym c.is)
    (call_refused tells obeys node size more old new t p picked (refused r)
    (before_of tells obeys node size more old new t new_table pending p result c) (refused_is r)
    (subst (λ v. IsHeld size new.counts v (Some p)) same (held_of tells obeys node size more old new t new_table pending p result c))
    (one_refused tells obeys node size more old new t new_table pending p result r c is) (not_fine r))))

one_made : (tells obeys : Bool) (node size more : ℕ) (old new : DiskSeen) (t new_table : Table) (pending : Option Pending) (p : Pending)
    (result : Result (Option Stage) DiskRefusal) (o : Option Stage) → IsCall tells obeys node size more old new t new_table pending p result
    → result ≡ Ok o → OneCall tells obeys (stage_call t p p.stage) Fine old new × IsNext t new_table p p.stage o
one_made tells obeys node size more old new t new_table pending p result o c is = (
  subst (λ v. OneCall tells obeys (stage_call t p p.stage) (end_of v) old new) is c.one,
  subst (λ v. IfOk v (IsNext t new_table p p.stage)) is c.next,
)

-- One that is not the last.
pub going_store : (tells obeys : Bool) (node size more : ℕ) (old new : DiskSeen) (t new_table : Table) (pending : Option Pending)
    (p : Pending)
    (result : Result (Option Stage) DiskRefusal) (s : Stage) → IsCall tells obeys node size more old new t new_table pending p result
    → result ≡ Ok (Some s)
    → IsStore tells node size more new.counts new.told new_table (Some (at_stage p s (p.made + 1)))
going_store tells obeys node size more old new t new_table pending p result s c is =
    let b = before_of tells obeys node size more old new t new_table pending p result c in
    let one = one_made tells obeys node size more old new t new_table pending p result (Some s) c is in
    store_going tells obeys node size more old new t new_table p s b one.0
    (held_of tells obeys node size more old new t new_table pending p result c)
    one.1 (next_keeping size old.counts t new_table p p.stage (Some s) b.held b.waits.staged one.1 b.going)

pub going_seen : (tells obeys : Bool) (node size more : ℕ) (old new : DiskSeen) (t new_table : Table) (pending : Option Pending)
    (p : Pending)
    (result : Result (Option Stage) DiskRefusal) (s : Stage) (picked : Option Pick)
    → IsCall tells obeys node size more old new t new_table pending p result → result ≡ Ok (Some s)
    → Advances tells obeys block_layout (Ok Going) (seen_with node (pending_work t pending) picked (kept_seen old.told t) more old)
    (seen_with node (pending_work new_table (Some (at_stage p s (p.made + 1)))) picked (kept_seen new.told new_table) more new)
going_seen tells obeys node size more old new t new_table pending p result s picked c is =
    let b = before_of tells obeys node size more old new t new_table pending p result c in
    let one = one_made tells obeys node size more old new t new_table pending p result (Some s) c is in
    subst (λ o. Advances tells obeys block_layout (Ok Going) (seen_with node (pending_work t o) picked (kept_seen old.told t) more old)
    (seen_with node (pending_work new_table (Some (at_stage p s (p.made + 1)))) picked (kept_seen new.told new_table) more new)) (sym c.is)
    (call_made tells obeys node size more old new t new_table p s picked b one.0
    (held_of tells obeys node size more old new t new_table pending p result c) one.1
    (next_keeping size old.counts t new_table p p.stage (Some s) b.held b.waits.staged one.1 b.going))

-- The last: the table with the change made.
pub record IsMadeFrom (size : ℕ) (new : DiskSeen) (t made : Table) (p : Pending) : Type 0 where
  pub held : IsHeld size new.counts made None
  pub lone : (k : ℕ) → is_member made.heads.lone k ≡ false
  pub items : made.heads.slots.items ≡ slots_with t p
  pub next : made.blocks.next ≡ t.blocks.next
  pub sized : made.blocks.size ≡ t.blocks.size

made_from : (size : ℕ) (new : DiskSeen) (t new_table made : Table) (p : Pending) → new_table ≡ t → IsMadeFrom size new new_table made p
    → IsMadeFrom size new t made p
made_from size new t new_table made p same m = subst (λ v. IsMadeFrom size new v made p) same m

pub done_store : (tells obeys : Bool) (node size more : ℕ) (old new : DiskSeen) (t new_table made : Table) (pending : Option Pending)
    (p : Pending)
    (result : Result (Option Stage) DiskRefusal) → IsCall tells obeys node size more old new t new_table pending p result
    → result ≡ Ok None → IsMadeFrom size new new_table made p → IsStore tells node size more new.counts new.told made None
done_store tells obeys node size more old new t new_table made pending p result c is from =
    let b = before_of tells obeys node size more old new t new_table pending p result c in
    let one = one_made tells obeys node size more old new t new_table pending p result None c is in
    let last = none_is_last t new_table p p.stage b.going one.1 in
    let m = made_from size new t new_table made p last.1 from in
    store_done tells obeys node size more old new t made p b one.0 last.0 m.held m.lone m.items m.next m.sized

pub done_seen : (tells obeys : Bool) (node size more : ℕ) (old new : DiskSeen) (t new_table made : Table) (pending : Option Pending)
    (p : Pending)
    (result : Result (Option Stage) DiskRefusal) (picked : Option Pick) → IsCall tells obeys node size more old new t new_table pending p
    result
    → result ≡ Ok None → IsMadeFrom size new new_table made p
    → Advances tells obeys block_layout (Ok Done) (seen_with node (pending_work t pending) picked (kept_seen old.told t) more old)
    (seen_with node (pending_work made None) picked (kept_seen new.told made) more new)
done_seen tells obeys node size more old new t new_table made pending p result picked c is from =
    let b = before_of tells obeys node size more old new t new_table pending p result c in
    let one = one_made tells obeys node size more old new t new_table pending p result None c is in
    let last = none_is_last t new_table p p.stage b.going one.1 in
    let m = made_from size new t new_table made p last.1 from in
    subst (λ o. Advances tells obeys block_layout (Ok Done) (seen_with node (pending_work t o) picked (kept_seen old.told t) more old)
    (seen_with node (pending_work made None) picked (kept_seen new.told made) more new)) (sym c.is)
    (call_done tells obeys node size more old new t made p picked (kept_seen new.told made) b one.0 last.0
    (λ telling. ap kept_or_none (done_kept tells obeys node size more old new t made p b one.0 last.0 m.items telling))
    (done_leaves tells obeys node size more old new t made p b one.0 last.0 m.items m.next m.sized))
