-- What a put and a removal rest on before they settle: what a refusal for want of memory leaves, and that the room goes on being told.
use Rattle.std.proofs.Common.{◌≡◌, ℕ, suc, zero, ◌≤◌, Bool, true, false, cond, ◌==◌, IsTrue, List, length, refl, sym, ap}
use Rattle.std.proofs.Common.{◌∙◌, inl, inr, arith, eq-eqb}
use Rattle.std.specs.Prelude.{Option, None, Some, Err, IfSome, if◌then◌else◌, is_some}
use Rattle.std.specs.FinMap as finite
use Rattle.std.specs.FinMap.{FinMap}
use Rattle.std.specs.Ordering.{eq_by_cmp}
use Rattle.std.proofs.lemmas.Bool.{false≢true, or_left, or_right}
use Rattle.capability.specs.declared.Uid.{Uid}
use Rattle.capability.specs.Uids.{uid_cmp}
use Rattle.capability.proofs.Uids.{uid_cmp_total}
use Rattle.eden_disk.specs.Told.{contents}
use Rattle.eden_disk.proofs.Held.{calls_none, obeyed_none}
use Rattle.passive_store.specs.declared.store.Pick.{Pick}
use Rattle.passive_store.specs.declared.store.Pick.TheVariants.{Old, New}
use Rattle.passive_store.specs.declared.store.StoreRefusal.TheVariants.{OutOfMemory}
use Rattle.passive_store.specs.Acts.{DiskCall}
use Rattle.passive_store.specs.Kept.{StoreChange, Kept, Work, Idle, Busy, Unsettled, IsFresh, IsOwn, bodies_after, body_at, change_in}
use Rattle.passive_store.specs.Kept.{doubt_in, reserved_uid, settled}
use Rattle.passive_store.specs.Seen.{Asked, DiskSeen, Changes, Whole, Puts, Deletes}
use Rattle.passive_store.proofs.Joining.{none_refused, timed_still}
use Rattle.passive_store.proofs.Changing.{memory_is_not_room}
use Rattle.block_tables.specs.declared.table.Table.{Table}
use Rattle.passive_blocks.specs.declared.block_store.Pending.{Pending}
use Rattle.passive_blocks.specs.declared.block_store.Stage.{Stage}
use Rattle.passive_blocks.specs.declared.block_store.Stage.TheVariants.{Close, Write as WritePart, Head as WriteHead, SyncHead, Open}
use Rattle.passive_blocks.specs.declared.block_store.Stage.TheVariants.{SyncOpen, Ended}
use Rattle.passive_blocks.specs.BlockLayout.{block_layout}
use Rattle.passive_blocks.specs.StoreState.{calls_at, change_of, pending_work, work_at}
use Rattle.block_tables.specs.TableState.{IsTable, keeper}
use Rattle.passive_blocks.specs.HeldState.{AreApart}
use Rattle.passive_blocks.specs.StageState.{IsStore}
use Rattle.passive_blocks.proofs.StageGoes.{kept_seen}
use Rattle.passive_blocks.proofs.StoreChanges.{IsJobAsked}
use Rattle.passive_blocks.proofs.StoreEntry.{waiting_seen}
use Rattle.passive_blocks.proofs.StoreJobs.{job_asked}
use Rattle.passive_blocks.proofs.StoreReads.{store_chains, store_long, store_stands, store_still}

-- A change in doubt gives its uid a mark of its own.
doubt_made : (c : StoreChange) (made : ℕ) (left : List DiskCall) (kept : Kept) → IsFresh c kept
    → IfSome (doubt_in (Busy c made left)) (λ x. IsFresh x kept)
doubt_made c zero left kept fresh = tt
doubt_made c (suc made) left kept fresh = fresh

doubt_at : (t : Table) (p : Pending) (stage : Stage) (kept : Kept) → IsFresh (change_of p) kept
    → IfSome (doubt_in (work_at t p stage)) (λ x. IsFresh x kept)
doubt_at t p Close kept fresh = doubt_made (change_of p) p.made (calls_at t p Close) kept fresh
doubt_at t p (WritePart block from) kept fresh = doubt_made (change_of p) p.made (calls_at t p (WritePart block from)) kept fresh
doubt_at t p WriteHead kept fresh = doubt_made (change_of p) p.made (calls_at t p WriteHead) kept fresh
doubt_at t p SyncHead kept fresh = doubt_made (change_of p) p.made (calls_at t p SyncHead) kept fresh
doubt_at t p Open kept fresh = doubt_made (change_of p) p.made (calls_at t p Open) kept fresh
doubt_at t p SyncOpen kept fresh = doubt_made (change_of p) p.made (calls_at t p SyncOpen) kept fresh
doubt_at t p (Ended gate synced) kept fresh = fresh

doubt_fresh : (tells : Bool) (node size more : ℕ) (d : DiskSeen) (t : Table) (pending : Option Pending)
    → IsStore tells node size more d.counts d.told t pending → IsTrue tells
    → IfSome (doubt_in (pending_work t pending)) (λ c. IsFresh c (kept_seen d.told t))
doubt_fresh tells node size more d t None store so = tt
doubt_fresh tells node size more d t (Some p) store so = doubt_at t p p.stage (kept_seen d.told t) (store.fresh so)

-- A change that found no memory leaves all as it was.
memory_whole : (tells obeys : Bool) (node size more : ℕ) (d : DiskSeen) (t : Table) (pending : Option Pending) (picked : Option Pick)
    (ask : Asked) → IsStore tells node size more d.counts d.told t pending
    → Whole tells obeys block_layout ask (Err OutOfMemory) (waiting_seen node more d t pending picked)
    (waiting_seen node more d t pending None)
memory_whole tells obeys node size more d t pending picked ask store = record {
  goes = record {
    node = refl;
    obeyed = λ so. obeyed_none _ _;
    timed = λ so. timed_still _ _ _ _ (omega arith) refl;
    stands = store_stands tells node size more d t pending store;
  };
  picked = refl;
  undamaged = inr (inr refl);
  unchanged = λ is. refl;
  one = λ other. omega arith;
  first = λ so keeps. omega arith;
  fresh = doubt_fresh tells node size more d t pending store;
}

memory_changes : (tells : Bool) (node size more : ℕ) (d : DiskSeen) (t : Table) (pending : Option Pending) (picked : Option Pick)
    (ask : Asked) → IsStore tells node size more d.counts d.told t pending → IsTrue d.counts.power
    → Changes tells block_layout ask (Err OutOfMemory) (waiting_seen node more d t pending picked)
    (waiting_seen node more d t pending None)
memory_changes tells node size more d t pending picked ask store power =
    let j : IsJobAsked tells block_layout ask (waiting_seen node more d t pending picked) =
    job_asked tells node (pending_work t pending) picked (kept_seen d.told t) more d ask
    (store_long tells node size more d t pending store) in
    record {
      mark = 0;
      calls = j.calls;
      bounded = j.bounded;
      job = j.job;
      ran = record { made = 0; number = refl; counts = calls_none d.counts power };
      by_layout = j.by_layout;
      at = none_refused j.calls;
      order = λ so. refl;
      work = refl;
      kept = λ so. refl;
      moments = store_still tells node size more d t pending store;
    }

pub memory_puts : (tells obeys : Bool) (node size more : ℕ) (d : DiskSeen) (t : Table) (pending : Option Pending) (picked : Option Pick)
    (ask : Asked) → IsStore tells node size more d.counts d.told t pending → IsTrue d.counts.power
    → Puts tells obeys block_layout ask (Err OutOfMemory) (waiting_seen node more d t pending picked)
    (waiting_seen node more d t pending None)
memory_puts tells obeys node size more d t pending picked ask store power = record {
  whole = memory_whole tells obeys node size more d t pending picked ask store;
  changes = memory_changes tells node size more d t pending picked ask store power;
  full = λ so some. tt;
}

pub memory_deletes : (tells obeys : Bool) (node size more : ℕ) (d : DiskSeen) (t : Table) (pending : Option Pending) (picked : Option Pick)
    (ask : Asked) → IsStore tells node size more d.counts d.told t pending → IsTrue d.counts.power
    → Deletes tells obeys block_layout ask (Err OutOfMemory) (waiting_seen node more d t pending picked)
    (waiting_seen node more d t pending None)
memory_deletes tells obeys node size more d t pending picked ask store power = record {
  whole = memory_whole tells obeys node size more d t pending picked ask store;
  at = tt;
  changes = inl (record {
    settles = record {
      ran = record { made = 0; number = refl; counts = calls_none d.counts power };
      order = λ so. refl;
      work = refl;
      kept = λ so. refl;
      moments = store_still tells node size more d t pending store;
    };
    room = memory_is_not_room;
    none = λ so. tt;
  });
}
