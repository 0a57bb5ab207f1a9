-- A whole put and a whole removal of a store over blocks, by what holds of it before.
use Rattle.std.proofs.Common.{◌≡◌, ℕ, ◌+◌, ◌≤◌, Bool, true, false, IsTrue, List, length, refl, sym, ap, subst, ◌∙◌, arith}
use Rattle.std.specs.Prelude.{Option, None, Some, IsSome, Result, Ok, Err, is_some}
use Rattle.std.proofs.lemmas.Bool.{false≢true}
use Rattle.std.specs.BTreeMap as tree
use Rattle.capability.specs.declared.Uid.{Uid}
use Rattle.capability.specs.Uids.{uid_cmp}
use Rattle.passive_store.specs.declared.store.Pick.{Pick}
use Rattle.passive_store.specs.declared.store.StoreRefusal.{StoreRefusal}
use Rattle.passive_store.specs.declared.store.StoreRefusal.TheVariants.{Full}
use Rattle.passive_store.specs.Acts.{DiskCall}
use Rattle.passive_store.specs.Kept.{Kept, Idle, IsOwn, IsRefusedIn, body_at, calls_left, is_busy}
use Rattle.passive_store.specs.Seen.{Asked, DiskSeen, Seen, Settled, Begins, Finishes, Puts, Deletes, asked}
use Rattle.passive_store.proofs.Joining.{none_refused}
use Rattle.block_tables.specs.declared.table.Table.{Table}
use Rattle.passive_blocks.specs.declared.block_store.Pending.{Pending}
use Rattle.passive_blocks.specs.BlockLayout.{block_layout}
use Rattle.block_tables.specs.HeadState.{entry_at}
use Rattle.block_tables.specs.TableState.{IsTable}
use Rattle.passive_blocks.specs.StoreState.{pending_work}
use Rattle.passive_blocks.specs.StageState.{IsStore}
use Rattle.passive_blocks.proofs.StageGoes.{kept_seen}
use Rattle.passive_blocks.proofs.StoreChanges.{IsJobAsked}
use Rattle.passive_blocks.proofs.StoreEntry.{entry_store, entry_idle, waiting_seen}
use Rattle.passive_blocks.proofs.StoreJobs.{job_asked}
use Rattle.passive_blocks.proofs.StoreReads.{store_long}
use Rattle.passive_blocks.proofs.StoreWhole.{settled_anew, settled_idle, begun_puts, refused_puts, full_puts}
use Rattle.passive_blocks.proofs.StoreWhole.{begun_deletes, refused_deletes, full_deletes, nothing_deletes}

-- What is known of a store that settles before a change; what it found before does not matter.
pub record Settling (tells obeys : Bool) (result : Result (Unit {0}) StoreRefusal) (node size more : ℕ) (d : DiskSeen) (t : Table)
    (pending : Option Pending) (mid : Seen) : Type 0 where
  pub store : IsStore tells node size more d.counts d.told t pending
  pub idle : is_busy (pending_work t pending) ≡ false
  pub settled : Settled tells obeys block_layout result (waiting_seen node more d t pending None) mid

-- An entry was made before it.
pub settling_entry : (tells obeys : Bool) (result : Result (Unit {0}) StoreRefusal) (node size more : ℕ) (d : DiskSeen) (t new : Table)
    (pending : Option Pending) (mid : Seen) → IsStore tells node size more d.counts d.told t pending → IsTable new
    → new.heads.slots ≡ t.heads.slots → ((q : Uid) → entry_at new.heads.index q ≡ entry_at t.heads.index q)
    → ((q : Uid) → IsSome (tree.get uid_cmp t.heads.index q) → IsSome (tree.get uid_cmp new.heads.index q))
    → new.heads.closing ≡ t.heads.closing → new.heads.lone ≡ t.heads.lone → new.blocks ≡ t.blocks
    → is_busy (pending_work t pending) ≡ false
    → Settled tells obeys block_layout result (waiting_seen node more d new pending None) mid
    → Settling tells obeys result node size more d new pending mid
settling_entry tells obeys result node size more d t new pending mid store is slots entries keys closing lone blocks idle settled = record {
  store = entry_store tells node size more d.counts d.told t new pending store is slots entries keys closing lone blocks;
  idle = entry_idle t new pending idle;
  settled = settled;
}

none_at : (new : Option ℕ) (calls : List DiskCall) → new ≡ None → IsRefusedIn calls None new
none_at new calls none = subst (λ r. IsRefusedIn calls None r) (sym none) (none_refused calls)

job_of : (tells obeys : Bool) (result : Result (Unit {0}) StoreRefusal) (node size more : ℕ) (d : DiskSeen) (t : Table)
    (pending : Option Pending) (mid : Seen) (picked : Option Pick) (ask : Asked)
    → Settling tells obeys result node size more d t pending mid
    → IsJobAsked tells block_layout ask (waiting_seen node more d t pending picked)
job_of tells obeys result node size more d t pending mid picked ask k =
    job_asked tells node (pending_work t pending) picked (kept_seen d.told t) more d ask
    (store_long tells node size more d t pending k.store)

anew : (tells obeys : Bool) (result : Result (Unit {0}) StoreRefusal) (node size more : ℕ) (d : DiskSeen) (t : Table)
    (pending : Option Pending) (mid : Seen) (picked : Option Pick) → Settling tells obeys result node size more d t pending mid
    → Settled tells obeys block_layout result (waiting_seen node more d t pending picked) mid
anew tells obeys result node size more d t pending mid picked k =
    settled_anew tells obeys block_layout result (waiting_seen node more d t pending picked) mid None k.settled

-- Behind the settling nothing waits, and the disk has power.
pub settling_idle : (tells obeys : Bool) (node size more : ℕ) (d : DiskSeen) (t : Table) (pending : Option Pending) (mid : Seen)
    → Settling tells obeys (Ok tt) node size more d t pending mid → mid.work ≡ Idle
settling_idle tells obeys node size more d t pending mid k =
    settled_idle tells obeys block_layout (waiting_seen node more d t pending None) mid k.idle k.settled

-- the uid is one of the node then as well
pub settling_own : (tells obeys : Bool) (node size more : ℕ) (d : DiskSeen) (t : Table) (pending : Option Pending) (mid : Seen) (uid : Uid)
    (long : ℕ) → Settling tells obeys (Ok tt) node size more d t pending mid → IsOwn node uid long → IsOwn mid.node uid long
settling_own tells obeys node size more d t pending mid uid long k own = subst (λ n. IsOwn n uid long) (sym k.settled.goes.node) own

-- A job that was begun is under way, on a disk with power.
pub begun_power : (tells obeys : Bool) (node size more : ℕ) (d : DiskSeen) (t : Table) (pending : Option Pending) (mid began : Seen)
    (ask : Asked) → Settling tells obeys (Ok tt) node size more d t pending mid → Begins tells block_layout ask (Ok tt) mid began
    → IsTrue began.disk.counts.power
begun_power tells obeys node size more d t pending mid began ask k b =
    ap (λ (x : DiskSeen). x.counts.power) b.disk ∙ k.settled.ran.counts.power

pub begun_busy : (tells : Bool) (mid began : Seen) (ask : Asked) → Begins tells block_layout ask (Ok tt) mid began
    → IsTrue (is_busy began.work)
begun_busy tells mid began ask b = ap is_busy b.work

pub begun_some : (tells : Bool) (mid began : Seen) (ask : Asked) → Begins tells block_layout ask (Ok tt) mid began
    → 1 ≤ calls_left began.work
begun_some tells mid began ask b = omega (arith, ap calls_left b.work, b.bounded.0)

-- A put whose job was begun.
pub put_done : (tells obeys : Bool) (node size more : ℕ) (d : DiskSeen) (t : Table) (pending : Option Pending) (picked : Option Pick)
    (uid : Uid) (bytes : List ℕ) (result : Result (Unit {0}) StoreRefusal) (mid began new : Seen)
    → Settling tells obeys (Ok tt) node size more d t pending mid → began.more ≤ mid.more → new.refused_at ≡ None
    → Begins tells block_layout (asked uid (Some bytes)) (Ok tt) mid began → Finishes tells obeys block_layout result began new
    → Puts tells obeys block_layout (asked uid (Some bytes)) result (waiting_seen node more d t pending picked) new
put_done tells obeys node size more d t pending picked uid bytes result mid began new k fewer none b f =
    begun_puts tells obeys block_layout (asked uid (Some bytes)) result (waiting_seen node more d t pending picked)
    mid began new k.idle (λ calls. none_at new.refused_at calls none) fewer
    (anew tells obeys (Ok tt) node size more d t pending mid picked k) b f

-- One whose settling was refused, and one that had no room.
pub put_refused : (tells obeys : Bool) (node size more : ℕ) (d : DiskSeen) (t : Table) (pending : Option Pending) (picked : Option Pick)
    (uid : Uid)
    (bytes : List ℕ) (e : StoreRefusal) (new : Seen) → Settling tells obeys (Err e) node size more d t pending new → new.refused_at ≡ None
    → Puts tells obeys block_layout (asked uid (Some bytes)) (Err e) (waiting_seen node more d t pending picked) new
put_refused tells obeys node size more d t pending picked uid bytes e new k none =
    refused_puts tells obeys block_layout (asked uid (Some bytes)) e (waiting_seen node more d t pending picked)
    new (λ calls. none_at new.refused_at calls none)
    (job_of tells obeys (Err e) node size more d t pending new picked (asked uid (Some bytes)) k)
    (anew tells obeys (Err e) node size more d t pending new picked k)

pub put_full : (tells obeys : Bool) (node size more : ℕ) (d : DiskSeen) (t : Table) (pending : Option Pending) (picked : Option Pick)
    (uid : Uid) (bytes : List ℕ) (mid new : Seen) → Settling tells obeys (Ok tt) node size more d t pending mid → new.refused_at ≡ None
    → Begins tells block_layout (asked uid (Some bytes)) (Err Full) mid new
    → Puts tells obeys block_layout (asked uid (Some bytes)) (Err Full) (waiting_seen node more d t pending picked) new
put_full tells obeys node size more d t pending picked uid bytes mid new k none b =
    full_puts tells obeys block_layout (asked uid (Some bytes)) (waiting_seen node more d t pending picked)
    mid new k.idle (λ calls. none_at new.refused_at calls none)
    (job_of tells obeys (Ok tt) node size more d t pending mid picked (asked uid (Some bytes)) k)
    (anew tells obeys (Ok tt) node size more d t pending mid picked k) b

-- A removal of what is kept.
pub delete_done : (tells obeys : Bool) (node size more : ℕ) (d : DiskSeen) (t : Table) (pending : Option Pending) (picked : Option Pick)
    (uid : Uid) (result : Result (Unit {0}) StoreRefusal) (mid began new : Seen)
    → Settling tells obeys (Ok tt) node size more d t pending mid → (IsTrue tells → IsSome (body_at mid.kept uid))
    → began.more ≤ mid.more → new.refused_at ≡ None
    → Begins tells block_layout (asked uid None) (Ok tt) mid began → Finishes tells obeys block_layout result began new
    → Deletes tells obeys block_layout (asked uid None) result (waiting_seen node more d t pending picked) new
delete_done tells obeys node size more d t pending picked uid result mid began new k there fewer none b f =
    begun_deletes tells obeys block_layout (asked uid None) result (waiting_seen node more d t pending picked)
    mid began new k.idle (λ calls. none_at new.refused_at calls none) none fewer there
    (anew tells obeys (Ok tt) node size more d t pending mid picked k) b f

pub delete_full : (tells obeys : Bool) (node size more : ℕ) (d : DiskSeen) (t : Table) (pending : Option Pending) (picked : Option Pick)
    (uid : Uid)
    (mid new : Seen) → Settling tells obeys (Ok tt) node size more d t pending mid → (IsTrue tells → IsSome (body_at mid.kept uid))
    → new.refused_at ≡ None → Begins tells block_layout (asked uid None) (Err Full) mid new
    → Deletes tells obeys block_layout (asked uid None) (Err Full) (waiting_seen node more d t pending picked) new
delete_full tells obeys node size more d t pending picked uid mid new k there none b =
    full_deletes tells obeys block_layout (asked uid None) (waiting_seen node more d t pending picked)
    mid new k.idle (λ calls. none_at new.refused_at calls none)
    (job_of tells obeys (Ok tt) node size more d t pending mid picked (asked uid None) k) there
    (anew tells obeys (Ok tt) node size more d t pending mid picked k) b

-- One whose settling was refused, and one of what is not kept.
pub delete_refused : (tells obeys : Bool) (node size more : ℕ) (d : DiskSeen) (t : Table) (pending : Option Pending)
    (picked : Option Pick) (uid : Uid) (e : StoreRefusal) (new : Seen) → Settling tells obeys (Err e) node size more d t pending new
    → Deletes tells obeys block_layout (asked uid None) (Err e) (waiting_seen node more d t pending picked) new
delete_refused tells obeys node size more d t pending picked uid e new k =
    refused_deletes tells obeys block_layout (asked uid None) e (waiting_seen node more d t pending picked) new
    (anew tells obeys (Err e) node size more d t pending new picked k)

absent : (b : Bool) (o : Option (List ℕ)) → b ≡ is_some o → b ≡ false → o ≡ None
absent b None is none = refl
absent b (Some x) is none = absurd (false≢true (sym none ∙ is))

pub delete_nothing : (tells obeys : Bool) (node size more : ℕ) (d : DiskSeen) (t : Table) (pending : Option Pending)
    (picked : Option Pick) (uid : Uid) (new : Seen) (found : Bool) → Settling tells obeys (Ok tt) node size more d t pending new
    → (IsTrue tells → found ≡ is_some (body_at new.kept uid)) → found ≡ false
    → Deletes tells obeys block_layout (asked uid None) (Ok tt) (waiting_seen node more d t pending picked) new
delete_nothing tells obeys node size more d t pending picked uid new found k is none =
    nothing_deletes tells obeys block_layout (asked uid None) (waiting_seen node more d t pending picked) new
    (λ so. absent found (body_at new.kept uid) (is so) none)
    (anew tells obeys (Ok tt) node size more d t pending new picked k)
