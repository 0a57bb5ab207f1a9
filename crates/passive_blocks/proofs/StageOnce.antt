-- One call of a settling as the store makes it: what holds at each exit of it.
use Rattle.std.specs.Prelude.{◌≡◌, ◌⊎◌, ℕ, ◌≤◌, ◌-◌, ◌^◌, Bool, true, false, IsTrue, Option, None, Some, Ok, Err}
use Rattle.std.proofs.Common.{refl, sym, ap, subst, ◌∙◌}
use Rattle.std.proofs.lemmas.Bool.{false≢true}
use Rattle.eden_disk.specs.declared.disk.DiskRefusal.{DiskRefusal}
use Rattle.eden_disk.specs.declared.disk.DiskRefusal.TheVariants.{Failed, Stopped}
use Rattle.eden_disk.specs.Told.{contents}
use Rattle.eden_disk.specs.Calls.{End, Fine, DeviceCall, Obeys, IsSpent, SyncTold, end_of}
use Rattle.eden_disk.proofs.Held.{calls_one, obeyed_one}
use Rattle.eden_disk.proofs.Timed.{timed_sync}
use Rattle.passive_store.specs.declared.store.Pick.{Pick}
use Rattle.passive_store.specs.declared.store.Progress.{Progress}
use Rattle.passive_store.specs.declared.store.Progress.TheVariants.{Going, Done}
use Rattle.passive_store.specs.declared.store.StoreRefusal.{StoreRefusal}
use Rattle.passive_store.specs.Acts.{Sync, Read, settling_call}
use Rattle.passive_store.specs.Kept.{end_of_store, refused, is_unsettled}
use Rattle.passive_store.specs.Seen.{DiskSeen, SettlesOneCall}
use Rattle.block_tables.specs.declared.table.Table.{Table}
use Rattle.passive_blocks.specs.declared.block_store.Pending.{Pending}
use Rattle.passive_blocks.specs.declared.block_store.Stage.{Stage}
use Rattle.passive_blocks.specs.declared.block_store.Stage.TheVariants.{Close, Write as WritePart, Head as WriteHead}
use Rattle.passive_blocks.specs.declared.block_store.Stage.TheVariants.{SyncHead, Open, SyncOpen}
use Rattle.passive_blocks.specs.declared.block_store.Stage.TheVariants.{Ended}
use Rattle.block_tables.specs.Members.{is_member}
use Rattle.passive_blocks.specs.BlockLayout.{block_layout}
use Rattle.passive_blocks.specs.HeldState.{IsHeld}
use Rattle.passive_blocks.specs.StoreState.{work_at, pending_work}
use Rattle.passive_blocks.specs.StageState.{IsStore, IsStaged, IsSettledBy, gate_open}
use Rattle.passive_blocks.proofs.HeldMaking.{held_by_counts}
use Rattle.passive_blocks.proofs.StageRecords.{at_stage}
use Rattle.passive_blocks.proofs.StageAdvances.{OneCall, seen_with}
use Rattle.passive_blocks.proofs.StageGoes.{kept_seen}
use Rattle.passive_blocks.proofs.StageCall.{refused_is}
use Rattle.passive_blocks.proofs.StageDoubt.{IsDoubt, doubt_store, failed_seen, synced_seen, synced_store, settled_store, read_seen}
use Rattle.passive_blocks.proofs.StageDoubt.{sync_keeps, sync_on, read_keeps, read_on}

-- a change in doubt, as memory has it
pub record IsOnce (tells : Bool) (node size more : ℕ) (old : DiskSeen) (t : Table) (pending : Option Pending) (p : Pending) (gate : ℕ)
    (synced : Bool) : Type 0 where
  pub store : IsStore tells node size more old.counts old.told t pending
  pub is : pending ≡ Some p
  pub stage : p.stage ≡ Ended gate synced
  pub power : old.counts.power ≡ true

doubt_of : (tells : Bool) (node size more : ℕ) (old : DiskSeen) (t : Table) (pending : Option Pending) (p : Pending) (gate : ℕ)
    (synced flag : Bool) → IsOnce tells node size more old t pending p gate synced → synced ≡ flag
    → IsDoubt tells node size more old t p gate flag
doubt_of tells node size more old t pending p gate synced flag o is = record {
  store = subst (IsStore tells node size more old.counts old.told t) o.is o.store;
  stage = o.stage ∙ ap (λ b. Ended gate b) is;
  power = o.power;
}

-- its gate is that of the change, or of a head that is to be closed
pub once_staged : (tells : Bool) (node size more : ℕ) (old : DiskSeen) (t : Table) (pending : Option Pending) (p : Pending) (gate : ℕ)
    (synced : Bool) → IsOnce tells node size more old t pending p gate synced
    → (gate ≡ p.head.number) ⊎ (is_member t.heads.closing gate ≡ true)
once_staged tells node size more old t pending p gate synced o =
    let store : IsStore tells node size more old.counts old.told t (Some p) =
    subst (IsStore tells node size more old.counts old.told t) o.is o.store in
    subst (IsStaged t p) o.stage store.staged.staged

refused_end_of : (T : Type 0) (r : DiskRefusal) → end_of_store {T = Progress} (Err (refused r)) ≡ end_of {T = T} (Err r)
refused_end_of T Failed = refl
refused_end_of T Stopped = refl

-- a sync, as a disk makes it
pub one_sync : (tells obeys : Bool) (end : End) (old new : DiskSeen) → DeviceCall old.counts new.counts end
    → (IsTrue obeys → Obeys old.due new.due old.counts new.counts end)
    → (IsTrue tells → 2 ^ 64 - 1 ≤ old.counts.clock → IsSpent old.counts new.counts old.told new.told end)
    → (IsTrue tells → SyncTold new.counts.clock old.told new.told end) → OneCall tells obeys Sync end old new
one_sync tells obeys end old new counts obeyed spent told = record {
  counts = calls_one old.counts new.counts end counts;
  obeyed = λ so. obeyed_one old.due new.due old.counts new.counts end counts (obeyed so);
  timed = λ so. timed_sync old.counts new.counts old.told new.told end counts.clock (spent so) (told so);
  told = told;
}

one_refused : (T : Type 0) (tells obeys : Bool) (synced : Bool) (r : DiskRefusal) (old new : DiskSeen)
    → OneCall tells obeys (settling_call synced) (end_of {T = T} (Err r)) old new
    → OneCall tells obeys (settling_call synced) (end_of_store {T = Progress} (Err (refused r))) old new
one_refused T tells obeys synced r old new one =
    subst (λ e. OneCall tells obeys (settling_call synced) e old new) (sym (refused_end_of T r)) one

-- The sync was made,
pub once_synced_store : (tells obeys : Bool) (node size more : ℕ) (old new : DiskSeen) (t : Table) (pending : Option Pending) (p : Pending)
    (gate : ℕ) (synced : Bool) → IsOnce tells node size more old t pending p gate synced → synced ≡ false
    → OneCall tells obeys Sync Fine old new
    → IsStore tells node size more new.counts new.told t (Some (at_stage p (Ended gate true) p.made))
once_synced_store tells obeys node size more old new t pending p gate synced o is one =
    synced_store tells obeys node size more old new t p gate (doubt_of tells node size more old t pending p gate synced false o is) one

pub once_synced_seen : (tells obeys : Bool) (node size more : ℕ) (old new : DiskSeen) (t : Table) (pending : Option Pending) (p : Pending)
    (gate : ℕ) (synced : Bool) (picked : Option Pick) → IsOnce tells node size more old t pending p gate synced → synced ≡ false
    → OneCall tells obeys Sync Fine old new
    → SettlesOneCall tells obeys block_layout (Ok Going) (seen_with node (pending_work t pending) picked (kept_seen old.told t) more old)
    (seen_with node (pending_work t (Some (at_stage p (Ended gate true) p.made))) None (kept_seen new.told t) more new)
once_synced_seen tells obeys node size more old new t pending p gate synced picked o is one =
    subst (λ w. SettlesOneCall tells obeys block_layout (Ok Going) (seen_with node (pending_work t w) picked (kept_seen old.told t) more
    old)
    (seen_with node (pending_work t (Some (at_stage p (Ended gate true) p.made))) None (kept_seen new.told t) more new)) (sym o.is)
    (synced_seen tells obeys node size more old new t p gate picked (doubt_of tells node size more old t pending p gate synced false o
    is) one)

-- or refused.
pub unsynced_store : (T : Type 0) (tells obeys : Bool) (node size more : ℕ) (old new : DiskSeen) (t : Table) (pending : Option Pending)
    (p : Pending) (gate : ℕ) (synced : Bool) (r : DiskRefusal) → IsOnce tells node size more old t pending p gate synced → synced ≡ false
    → OneCall tells obeys Sync (end_of {T = T} (Err r)) old new
    → IsStore tells node size more new.counts new.told t (Some (at_stage p (Ended gate false) p.made))
unsynced_store T tells obeys node size more old new t pending p gate synced r o is one =
    let d = doubt_of tells node size more old t pending p gate synced false o is in
    doubt_store tells node size more old new t p gate false false d one.counts.size
    (sync_keeps tells old new (end_of {T = T} (Err r)) one.told)
    (sync_on tells obeys node size more old new t p gate false (end_of {T = T} (Err r)) d one)
    (λ telling never. absurd (false≢true never))

pub unsynced_seen : (T : Type 0) (tells obeys : Bool) (node size more : ℕ) (old new : DiskSeen) (t : Table) (pending : Option Pending)
    (p : Pending) (gate : ℕ) (synced : Bool) (r : DiskRefusal) (picked : Option Pick) (e : StoreRefusal)
    → IsOnce tells node size more old t pending p gate synced → synced ≡ false → e ≡ refused r
    → OneCall tells obeys Sync (end_of {T = T} (Err r)) old new
    → SettlesOneCall tells obeys block_layout (Err e) (seen_with node (pending_work t pending) picked (kept_seen old.told t) more old)
    (seen_with node (pending_work t (Some (at_stage p (Ended gate false) p.made))) None (kept_seen new.told t) more new)
unsynced_seen T tells obeys node size more old new t pending p gate synced r picked e o is refusal one =
    let d = doubt_of tells node size more old t pending p gate synced false o is in
    subst (λ e. SettlesOneCall tells obeys block_layout (Err e) (seen_with node (pending_work t pending) picked (kept_seen old.told t)
    more old)
    (seen_with node (pending_work t (Some (at_stage p (Ended gate false) p.made))) None (kept_seen new.told t) more new)) (sym refusal)
    (subst (λ w. SettlesOneCall tells obeys block_layout (Err (refused r)) (seen_with node (pending_work t w) picked (kept_seen old.told
    t) more old)
    (seen_with node (pending_work t (Some (at_stage p (Ended gate false) p.made))) None (kept_seen new.told t) more new)) (sym o.is)
    (failed_seen tells obeys node size more old new t p gate false picked (refused r) d (refused_is r)
    (one_refused T tells obeys false r old new one)
    (sync_keeps tells old new (end_of {T = T} (Err r)) one.told)
    (sync_on tells obeys node size more old new t p gate false (end_of {T = T} (Err r)) d one)))

-- The read was refused,
pub unread_store : (T : Type 0) (tells obeys : Bool) (node size more : ℕ) (old new : DiskSeen) (t : Table) (pending : Option Pending)
    (p : Pending) (gate : ℕ) (synced : Bool) (r : DiskRefusal) → IsOnce tells node size more old t pending p gate synced → synced ≡ true
    → OneCall tells obeys Read (end_of {T = T} (Err r)) old new
    → IsStore tells node size more new.counts new.told t (Some (at_stage p (Ended gate false) p.made))
unread_store T tells obeys node size more old new t pending p gate synced r o is one =
    let d = doubt_of tells node size more old t pending p gate synced true o is in
    doubt_store tells node size more old new t p gate true false d one.counts.size
    (read_keeps tells old new (end_of {T = T} (Err r)) one.told)
    (read_on tells obeys node size more old new t p gate true (end_of {T = T} (Err r)) d one)
    (λ telling never. absurd (false≢true never))

pub unread_seen : (T : Type 0) (tells obeys : Bool) (node size more : ℕ) (old new : DiskSeen) (t : Table) (pending : Option Pending)
    (p : Pending) (gate : ℕ) (synced : Bool) (r : DiskRefusal) (picked : Option Pick) (e : StoreRefusal)
    → IsOnce tells node size more old t pending p gate synced → synced ≡ true → e ≡ refused r
    → OneCall tells obeys Read (end_of {T = T} (Err r)) old new
    → SettlesOneCall tells obeys block_layout (Err e) (seen_with node (pending_work t pending) picked (kept_seen old.told t) more old)
    (seen_with node (pending_work t (Some (at_stage p (Ended gate false) p.made))) None (kept_seen new.told t) more new)
unread_seen T tells obeys node size more old new t pending p gate synced r picked e o is refusal one =
    let d = doubt_of tells node size more old t pending p gate synced true o is in
    subst (λ e. SettlesOneCall tells obeys block_layout (Err e) (seen_with node (pending_work t pending) picked (kept_seen old.told t)
    more old)
    (seen_with node (pending_work t (Some (at_stage p (Ended gate false) p.made))) None (kept_seen new.told t) more new)) (sym refusal)
    (subst (λ w. SettlesOneCall tells obeys block_layout (Err (refused r)) (seen_with node (pending_work t w) picked (kept_seen old.told
    t) more old)
    (seen_with node (pending_work t (Some (at_stage p (Ended gate false) p.made))) None (kept_seen new.told t) more new)) (sym o.is)
    (failed_seen tells obeys node size more old new t p gate true picked (refused r) d (refused_is r)
    (one_refused T tells obeys true r old new one)
    (read_keeps tells old new (end_of {T = T} (Err r)) one.told)
    (read_on tells obeys node size more old new t p gate true (end_of {T = T} (Err r)) d one)))

-- or it tells what is there.
pub record IsFound (tells : Bool) (old new : DiskSeen) (t made : Table) (p : Pending) (gate : ℕ) (opened : Bool) (pick : Pick) : Type 0
  where
    pub held : (size : ℕ) → IsHeld size new.counts t (Some p) → IsHeld size new.counts made None
    pub by : IsSettledBy t made p gate opened pick
    pub says : IsTrue tells → gate_open (contents old.told).now gate ≡ opened

found_held : (tells obeys : Bool) (node size more : ℕ) (old new : DiskSeen) (t made : Table) (pending : Option Pending) (p : Pending)
    (gate : ℕ) (synced opened : Bool) (pick : Pick) → IsOnce tells node size more old t pending p gate synced
    → OneCall tells obeys Read Fine old new → IsFound tells old new t made p gate opened pick → IsHeld size new.counts made None
found_held tells obeys node size more old new t made pending p gate synced opened pick o one f =
    let store : IsStore tells node size more old.counts old.told t (Some p) =
    subst (IsStore tells node size more old.counts old.told t) o.is o.store in
    f.held size (held_by_counts size old.counts new.counts t (Some p) store.held one.counts.size)

pub found_store : (tells obeys : Bool) (node size more : ℕ) (old new : DiskSeen) (t made : Table) (pending : Option Pending) (p : Pending)
    (gate : ℕ) (synced opened : Bool) (pick : Pick) → IsOnce tells node size more old t pending p gate synced → synced ≡ true
    → OneCall tells obeys Read Fine old new → IsFound tells old new t made p gate opened pick
    → IsStore tells node size more new.counts new.told made None
found_store tells obeys node size more old new t made pending p gate synced opened pick o is one f =
    (settled_store tells node size more old new t made p gate opened pick
    (doubt_of tells node size more old t pending p gate synced true o is) one.told
    (found_held tells obeys node size more old new t made pending p gate synced opened pick o one f) f.by f.says
    (once_staged tells node size more old t pending p gate synced o)).0

pub found_seen : (tells obeys : Bool) (node size more : ℕ) (old new : DiskSeen) (t made : Table) (pending : Option Pending) (p : Pending)
    (gate : ℕ) (synced opened : Bool) (pick : Pick) (picked : Option Pick) → IsOnce tells node size more old t pending p gate synced
    → synced ≡ true → OneCall tells obeys Read Fine old new → IsFound tells old new t made p gate opened pick
    → SettlesOneCall tells obeys block_layout (Ok Done) (seen_with node (pending_work t pending) picked (kept_seen old.told t) more old)
    (seen_with node (pending_work made None) (Some pick) (kept_seen new.told made) more new)
found_seen tells obeys node size more old new t made pending p gate synced opened pick picked o is one f =
    subst (λ w. SettlesOneCall tells obeys block_layout (Ok Done) (seen_with node (pending_work t w) picked (kept_seen old.told t) more old)
    (seen_with node (pending_work made None) (Some pick) (kept_seen new.told made) more new)) (sym o.is)
    (read_seen tells obeys node size more old new t made p gate opened pick picked
    (doubt_of tells node size more old t pending p gate synced true o is) one
    (found_held tells obeys node size more old new t made pending p gate synced opened pick o one f) f.by f.says
    (once_staged tells node size more old t pending p gate synced o))

-- a change that is not settled has a gate that tells
pub no_gate : (t : Table) (p : Pending) (stage : Stage) → is_unsettled (work_at t p stage) ≡ true
    → ((gate : ℕ) (synced : Bool) → stage ≡ Ended gate synced → ⊥) → ⊥
no_gate t p Close unsettled none = absurd (false≢true unsettled)
no_gate t p (WritePart block from) unsettled none = absurd (false≢true unsettled)
no_gate t p WriteHead unsettled none = absurd (false≢true unsettled)
no_gate t p SyncHead unsettled none = absurd (false≢true unsettled)
no_gate t p Open unsettled none = absurd (false≢true unsettled)
no_gate t p SyncOpen unsettled none = absurd (false≢true unsettled)
no_gate t p (Ended gate synced) unsettled none = none gate synced refl
