-- A settling that begins anew, and what a whole settling is with its calls behind that.
use Rattle.std.specs.Prelude.{◌≡◌, ℕ, suc, zero, ◌+◌, ◌≤◌, ◌&&◌, Bool}
use Rattle.std.specs.Prelude.{true, false, IsTrue, IfSome, OnErr, List, [], is_ok, is_some}
use Rattle.std.specs.Prelude.{Option, None, Some, Result, Ok}
use Rattle.std.proofs.Common.{refl, sym, ap, subst, ◌∙◌, arith}
use Rattle.std.proofs.lemmas.Bool.{false≢true}
use Rattle.eden_disk.specs.Told.{Told, Contents, contents, LeavesOnly, EachMoment}
use Rattle.eden_disk.specs.Calls.{Counts, DeviceCalls, Obeyed, Fine}
use Rattle.eden_disk.specs.Timed.{Timed}
use Rattle.eden_disk.proofs.Held.{calls_none, obeyed_none}
use Rattle.passive_store.specs.declared.store.Pick.{Pick}
use Rattle.passive_store.specs.declared.store.Pick.TheVariants.{Old, New}
use Rattle.passive_store.specs.declared.store.StoreRefusal.{StoreRefusal}
use Rattle.passive_store.specs.Acts.{DiskCall, CallsTold}
use Rattle.passive_store.specs.Kept.{Layout, Kept, StoreChange, Work, Idle, Busy}
use Rattle.passive_store.specs.Kept.{Unsettled, Stands, Ran, IsFresh, changes_in, doubt_in, end_of_store}
use Rattle.passive_store.specs.Kept.{is_unsettled, is_synced, unsynced, settling_calls, settling_of, settled, work_settled}
use Rattle.passive_store.specs.Seen.{Seen, DiskSeen, Settled}
use Rattle.passive_store.proofs.Joining.{as_before, timed_still}
use Rattle.block_tables.specs.declared.table.Table.{Table}
use Rattle.passive_blocks.specs.declared.block_store.Pending.{Pending}
use Rattle.passive_blocks.specs.declared.block_store.Stage.{Stage}
use Rattle.passive_blocks.specs.declared.block_store.Stage.TheVariants.{Close, Write as WritePart, Head as WriteHead}
use Rattle.passive_blocks.specs.declared.block_store.Stage.TheVariants.{SyncHead, Open, SyncOpen}
use Rattle.passive_blocks.specs.declared.block_store.Stage.TheVariants.{Ended}
use Rattle.block_tables.specs.Blocks.{kept_in_blocks}
use Rattle.passive_blocks.specs.BlockLayout.{block_layout}
use Rattle.block_tables.specs.HeadState.{heads_in}
use Rattle.passive_blocks.specs.HeldState.{IsHeld}
use Rattle.passive_blocks.specs.StoreState.{change_of, pending_work, work_at, calls_at}
use Rattle.passive_blocks.specs.StageState.{IsStore, IsStageOn, IsWaiting, IsSpelled, IsEarly}
use Rattle.passive_blocks.specs.StageAnew.{IsAnew}
use Rattle.passive_blocks.proofs.KeptLooks.{shown_found}
use Rattle.passive_blocks.proofs.StageStands.{early_stands, stands_with, idle_stands}
use Rattle.passive_blocks.proofs.StageRecords.{at_stage, stage_leaves}
use Rattle.passive_blocks.proofs.StageAdvances.{seen_with}
use Rattle.passive_blocks.proofs.StageGoes.{kept_seen, stage_known, spelled_here}
use Rattle.passive_blocks.proofs.StageSettles.{refused_known}
use Rattle.passive_blocks.proofs.StageDoubt.{IsDoubt, doubt_store, on_of}

same_unsettled : (w : Work) → is_unsettled (unsynced w) ≡ is_unsettled w
same_unsettled Idle = refl
same_unsettled (Busy c made left) = refl
same_unsettled (Unsettled c synced) = refl

same_calls : (w : Work) → settling_calls (unsynced w) ≡ settling_calls w
same_calls Idle = refl
same_calls (Busy c made left) = refl
same_calls (Unsettled c synced) = refl

same_order : (w : Work) → settling_of (unsynced w) ≡ settling_of w
same_order Idle = refl
same_order (Busy c made left) = refl
same_order (Unsettled c synced) = refl

same_doubt : (w : Work) → doubt_in (unsynced w) ≡ doubt_in w
same_doubt Idle = refl
same_doubt (Busy c made left) = refl
same_doubt (Unsettled c synced) = refl

same_work : (pick : Option Pick) (w : Work) → work_settled pick (unsynced w) ≡ work_settled pick w
same_work pick Idle = refl
same_work pick (Busy c made left) = refl
same_work None (Unsettled c synced) = refl
same_work (Some pick) (Unsettled c synced) = refl

same_kept : (pick : Option Pick) (w : Work) (kept : Kept) → settled pick (unsynced w) kept ≡ settled pick w kept
same_kept None Idle kept = refl
same_kept (Some Old) Idle kept = refl
same_kept (Some New) Idle kept = refl
same_kept None (Busy c made left) kept = refl
same_kept (Some Old) (Busy c made left) kept = refl
same_kept (Some New) (Busy c made left) kept = refl
same_kept None (Unsettled c synced) kept = refl
same_kept (Some Old) (Unsettled c synced) kept = refl
same_kept (Some New) (Unsettled c synced) kept = refl

same_anew : (w : Work) → is_unsettled w ≡ false → w ≡ unsynced w
same_anew Idle none = refl
same_anew (Busy c made left) none = refl
same_anew (Unsettled c synced) none = absurd (false≢true (sym none))

anew_synced : (w : Work) → is_synced (unsynced w) ≡ false
anew_synced Idle = refl
anew_synced (Busy c made left) = refl
anew_synced (Unsettled c synced) = refl

-- what waits for both calls of its settling
pub anew_waits : (tells : Bool) (layout : Layout) (unsettled : Bool) (old new : Seen) → IsAnew tells layout unsettled old new → unsettled
    ≡ true
    → (is_unsettled new.work ≡ true) × (is_synced new.work ≡ false)
anew_waits tells layout unsettled old new a is =
    (ap is_unsettled a.work ∙ same_unsettled old.work ∙ sym a.unsettled_is ∙ is, ap is_synced a.work ∙ anew_synced old.work)

-- A settling that begins anew is one of what was there before.
pub settled_anew : (tells obeys : Bool) (layout : Layout) (unsettled : Bool) (r : Result (Unit {0}) StoreRefusal) (old anew new : Seen)
    → IsAnew tells layout unsettled old anew → Settled tells obeys layout r anew new → Settled tells obeys layout r old new
settled_anew tells obeys layout unsettled r old anew new a s = record {
  goes = record {
    node = s.goes.node ∙ a.node;
    obeyed = λ so. subst (λ (d : DiskSeen). Obeyed d.due new.disk.due d.counts new.disk.counts (end_of_store r)) a.disk (s.goes.obeyed so);
    timed = λ so. subst (λ (d : DiskSeen). Timed d.counts.clock d.told new.disk.counts.clock new.disk.told) a.disk (s.goes.timed so);
    stands = s.goes.stands;
  };
  only = s.only;
  refused = subst (λ b. OnErr r (IsTrue b)) (ap is_unsettled a.work ∙ same_unsettled old.work) s.refused;
  ran = subst (λ n. Ran n 0 r old.disk.counts new.disk.counts) (ap settling_calls a.work ∙ same_calls old.work)
      (subst (λ (d : DiskSeen). Ran (settling_calls anew.work) 0 r d.counts new.disk.counts) a.disk s.ran);
  order = λ so. subst (λ cs. CallsTold cs old.disk.told new.disk.told (end_of_store r)) (ap settling_of a.work ∙ same_order old.work)
      (subst (λ (d : DiskSeen). CallsTold (settling_of anew.work) d.told new.disk.told (end_of_store r)) a.disk (s.order so));
  work = s.work ∙ ap (work_settled new.picked) a.work ∙ same_work new.picked old.work;
  picked = s.picked ∙ ap (λ b. is_ok r && b) (ap is_unsettled a.work ∙ same_unsettled old.work);
  more = s.more ∙ a.more;
  at = s.at ∙ a.at;
  kept = λ so. s.kept so ∙ ap (settled new.picked anew.work) (a.kept so) ∙ ap (λ w. settled new.picked w old.kept) a.work
      ∙ same_kept new.picked old.work old.kept;
  fresh = a.fresh;
  moments = λ so. as_before layout old.node anew.node old.more anew.more old.kept anew.kept (doubt_in old.work) (doubt_in anew.work)
      old.disk.told new.disk.told a.node a.more (a.kept so) (ap doubt_in a.work ∙ same_doubt old.work)
      (subst (λ (d : DiskSeen). EachMoment (Stands layout anew.node anew.more anew.kept (changes_in (doubt_in anew.work))) d.told
      new.disk.told)
      a.disk (s.moments so));
}

no_calls : (w : Work) → is_unsettled w ≡ false → 0 ≡ settling_calls w + 0
no_calls Idle none = refl
no_calls (Busy c made left) none = refl
no_calls (Unsettled c synced) none = absurd (false≢true (sym none))

no_order : (w : Work) (told : Told) → is_unsettled w ≡ false → CallsTold (settling_of w) told told Fine
no_order Idle told none = refl
no_order (Busy c made left) told none = refl
no_order (Unsettled c synced) told none = absurd (false≢true (sym none))

no_work : (w : Work) → is_unsettled w ≡ false → unsynced w ≡ work_settled None w
no_work Idle none = refl
no_work (Busy c made left) none = refl
no_work (Unsettled c synced) none = absurd (false≢true (sym none))

stands_then : (tells : Bool) (layout : Layout) (unsettled : Bool) (old new : Seen) → IsAnew tells layout unsettled old new → IsTrue tells
    → LeavesOnly (Stands layout old.node old.more old.kept (changes_in (doubt_in old.work))) (contents old.disk.told)
stands_then tells layout unsettled old new a so =
    subst (λ n. LeavesOnly (Stands layout n old.more old.kept (changes_in (doubt_in old.work))) (contents old.disk.told)) a.node
    (subst (λ m. LeavesOnly (Stands layout new.node m old.kept (changes_in (doubt_in old.work))) (contents old.disk.told)) a.more
    (subst (λ (k : Kept). LeavesOnly (Stands layout new.node new.more k (changes_in (doubt_in old.work))) (contents old.disk.told))
    (a.kept so)
    (subst (λ d. LeavesOnly (Stands layout new.node new.more new.kept (changes_in d)) (contents old.disk.told))
    (ap doubt_in a.work ∙ same_doubt old.work)
    (subst (λ (d : DiskSeen). LeavesOnly (Stands layout new.node new.more new.kept (changes_in (doubt_in new.work))) (contents d.told))
    a.disk
    (a.stands so)))))

-- Where nothing is unsettled it makes no call.
pub settled_none : (tells obeys : Bool) (layout : Layout) (unsettled : Bool) (old new : Seen) → old.disk.counts.power ≡ true → unsettled
    ≡ false
    → IsAnew tells layout unsettled old new → Settled tells obeys layout (Ok tt) old new
settled_none tells obeys layout unsettled old new power is a =
    let none : is_unsettled old.work ≡ false = sym a.unsettled_is ∙ is in
    record {
      goes = record {
        node = a.node;
        obeyed = λ so. subst (λ (d : DiskSeen). Obeyed old.disk.due d.due old.disk.counts d.counts Fine) (sym a.disk)
            (obeyed_none old.disk.due old.disk.counts);
        timed = λ so. subst (λ (d : DiskSeen). Timed old.disk.counts.clock old.disk.told d.counts.clock d.told) (sym a.disk)
            (timed_still old.disk.counts.clock old.disk.counts.clock old.disk.told old.disk.told (omega arith) refl);
        stands = a.stands;
      };
      only = tt;
      refused = tt;
      ran = record {
        made = 0;
        number = no_calls old.work none;
        counts = subst (λ (d : DiskSeen). DeviceCalls 0 old.disk.counts d.counts Fine) (sym a.disk) (calls_none old.disk.counts power);
      };
      order = λ so. subst (λ (d : DiskSeen). CallsTold (settling_of old.work) old.disk.told d.told Fine) (sym a.disk)
          (no_order old.work old.disk.told none);
      work = a.work ∙ no_work old.work none ∙ sym (ap (λ k. work_settled k old.work) a.picked);
      picked = ap is_some a.picked ∙ sym none;
      more = a.more;
      at = a.at;
      kept = λ so. a.kept so ∙ sym (ap (λ k. settled k old.work old.kept) a.picked);
      fresh = a.fresh;
      moments = λ so. subst (λ (d : DiskSeen). EachMoment (Stands layout old.node old.more old.kept (changes_in (doubt_in old.work)))
          old.disk.told d.told) (sym a.disk) (record {
            acts = [];
            image = refl;
            since = refl;
            leaves = stands_then tells layout unsettled old new a so;
          });
    }

-- A store over blocks: what a crash leaves of it at any stage.
either_stands : (node more made : ℕ) (kept : Kept) (c : StoreChange) (left : List DiskCall) (image : List ℕ)
    → Stands block_layout node more kept [] image → Stands block_layout node more kept (changes_in (doubt_in (Busy c made left))) image
either_stands node more zero kept c left image s = s
either_stands node more (suc made) kept c left image s = stands_with node more kept c image s

doubt_some : (c : StoreChange) (made : ℕ) (left : List DiskCall) → 1 ≤ made → doubt_in (Busy c made left) ≡ Some c
doubt_some c zero left some = absurd (let bad : ⊥ = omega (arith, some) in bad)
doubt_some c (suc made) left some = refl

early_either : (node size more made : ℕ) (counts : Counts) (t : Table) (p : Pending) (c : Contents) (kept : Kept) (left : List DiskCall)
    → IsHeld size counts t (Some p) → IsEarly node more t p c → kept_in_blocks c.now (Ok (heads_in t.heads.slots.items)) ≡ Ok kept
    → LeavesOnly (Stands block_layout node more kept (changes_in (doubt_in (Busy (change_of p) made left)))) c
early_either node size more made counts t p c kept left held e is image there =
    either_stands node more made kept (change_of p) left image
    (early_stands node size more counts t p c kept image held e is (e.fits.left image there))

late_some : (node size more : ℕ) (counts : Counts) (t : Table) (p : Pending) (c : Contents) (stage : Stage) (kept : Kept) (left : List
    DiskCall)
    → IsHeld size counts t (Some p) → IsSpelled node t.blocks.size p.head → IsStageOn node more t p c true stage
    → kept_in_blocks c.now (Ok (heads_in t.heads.slots.items)) ≡ Ok kept → IsFresh (change_of p) kept → 1 ≤ p.made
    → LeavesOnly (Stands block_layout node more kept (changes_in (doubt_in (Busy (change_of p) p.made left)))) c
late_some node size more counts t p c stage kept left held spelled on is fresh some =
    subst (λ d. LeavesOnly (Stands block_layout node more kept (changes_in d)) c) (sym (doubt_some (change_of p) p.made left some))
    (stage_leaves node size more counts t p c true stage kept held spelled on is fresh)

stage_stands : (node size more : ℕ) (counts : Counts) (t : Table) (p : Pending) (c : Contents) (stage : Stage) (kept : Kept)
    → IsHeld size counts t (Some p) → IsSpelled node t.blocks.size p.head → IsStageOn node more t p c true stage
    → kept_in_blocks c.now (Ok (heads_in t.heads.slots.items)) ≡ Ok kept → IsFresh (change_of p) kept
    → (stage ≡ Open → 1 ≤ p.made) × (stage ≡ SyncOpen → 1 ≤ p.made)
    → LeavesOnly (Stands block_layout node more kept (changes_in (doubt_in (work_at t p stage)))) c
stage_stands node size more counts t p c Close kept held spelled on is fresh later =
    early_either node size more p.made counts t p c kept (calls_at t p Close) held on.0 is
stage_stands node size more counts t p c (WritePart block from) kept held spelled on is fresh later =
    early_either node size more p.made counts t p c kept (calls_at t p (WritePart block from)) held on.0 is
stage_stands node size more counts t p c WriteHead kept held spelled on is fresh later =
    early_either node size more p.made counts t p c kept (calls_at t p WriteHead) held on.0 is
stage_stands node size more counts t p c SyncHead kept held spelled on is fresh later =
    early_either node size more p.made counts t p c kept (calls_at t p SyncHead) held on.0 is
stage_stands node size more counts t p c Open kept held spelled on is fresh later =
    late_some node size more counts t p c Open kept (calls_at t p Open) held spelled on is fresh (later.0 refl)
stage_stands node size more counts t p c SyncOpen kept held spelled on is fresh later =
    late_some node size more counts t p c SyncOpen kept (calls_at t p SyncOpen) held spelled on is fresh (later.1 refl)
stage_stands node size more counts t p c (Ended gate synced) kept held spelled on is fresh later =
    stage_leaves node size more counts t p c true (Ended gate synced) kept held spelled on is fresh

known_at : (node size more : ℕ) (counts : Counts) (t : Table) (p : Pending) (c : Contents) (stage : Stage) → (told : Told) → c ≡ contents
    told
    → IsHeld size counts t (Some p) → IsWaiting node size t p → IsStageOn node more t p (contents told) true stage
    → kept_in_blocks (contents told).now (Ok (heads_in t.heads.slots.items)) ≡ Ok (kept_seen told t)
known_at node size more counts t p c Close told e held waits on = stage_known node size more counts t p (contents told) Close held waits
    on refl
known_at node size more counts t p c (WritePart block from) told e held waits on =
    stage_known node size more counts t p (contents told) (WritePart block from) held waits on refl
known_at node size more counts t p c WriteHead told e held waits on =
    stage_known node size more counts t p (contents told) WriteHead held waits on refl
known_at node size more counts t p c SyncHead told e held waits on =
    stage_known node size more counts t p (contents told) SyncHead held waits on refl
known_at node size more counts t p c Open told e held waits on = stage_known node size more counts t p (contents told) Open held waits on
    refl
known_at node size more counts t p c SyncOpen told e held waits on =
    stage_known node size more counts t p (contents told) SyncOpen held waits on refl
known_at node size more counts t p c (Ended gate synced) told e held waits on =
    refused_known node size more counts t p (contents told) true gate held waits on.0

pub store_stands : (tells : Bool) (node size more : ℕ) (old : DiskSeen) (t : Table) (pending : Option Pending)
    → IsStore tells node size more old.counts old.told t pending → old.counts.power ≡ true → IsTrue tells
    → LeavesOnly (Stands block_layout node more (kept_seen old.told t) (changes_in (doubt_in (pending_work t pending)))) (contents old.told)
store_stands tells node size more old t None store power so =
    let on = store.on so in
    idle_stands node more t (contents old.told) (kept_seen old.told t) store.held.table.blocks.sized on.0 on.1 on.2
    (shown_found (contents old.told).now t on.1.chains)
store_stands tells node size more old t (Some p) store power so =
    let on : IsStageOn node more t p (contents old.told) true p.stage =
    subst (λ w. IsStageOn node more t p (contents old.told) w p.stage) power (store.on so) in
    stage_stands node size more old.counts t p (contents old.told) p.stage (kept_seen old.told t) store.held
    (spelled_here node size old.counts t p store.held store.staged) on
    (known_at node size more old.counts t p (contents old.told) p.stage old.told refl store.held store.staged on) (store.fresh so)
    store.staged.later

-- the change in doubt gives its uid a mark of its own
busy_fresh : (c : StoreChange) (made : ℕ) (left : List DiskCall) (kept : Kept) → IsFresh c kept
    → IfSome (doubt_in (Busy c made left)) (λ d. IsFresh d kept)
busy_fresh c zero left kept fresh = tt
busy_fresh c (suc made) left kept fresh = fresh

stage_fresh : (t : Table) (p : Pending) (stage : Stage) (kept : Kept) → IsFresh (change_of p) kept
    → IfSome (doubt_in (work_at t p stage)) (λ d. IsFresh d kept)
stage_fresh t p Close kept fresh = busy_fresh (change_of p) p.made (calls_at t p Close) kept fresh
stage_fresh t p (WritePart block from) kept fresh = busy_fresh (change_of p) p.made (calls_at t p (WritePart block from)) kept fresh
stage_fresh t p WriteHead kept fresh = busy_fresh (change_of p) p.made (calls_at t p WriteHead) kept fresh
stage_fresh t p SyncHead kept fresh = busy_fresh (change_of p) p.made (calls_at t p SyncHead) kept fresh
stage_fresh t p Open kept fresh = busy_fresh (change_of p) p.made (calls_at t p Open) kept fresh
stage_fresh t p SyncOpen kept fresh = busy_fresh (change_of p) p.made (calls_at t p SyncOpen) kept fresh
stage_fresh t p (Ended gate synced) kept fresh = fresh

store_fresh : (tells : Bool) (node size more : ℕ) (old : DiskSeen) (t : Table) (pending : Option Pending)
    → IsStore tells node size more old.counts old.told t pending → IsTrue tells
    → IfSome (doubt_in (pending_work t pending)) (λ c. IsFresh c (kept_seen old.told t))
store_fresh tells node size more old t None store so = tt
store_fresh tells node size more old t (Some p) store so = stage_fresh t p p.stage (kept_seen old.told t) (store.fresh so)

-- Where nothing is unsettled all stays.
pub anew_same : (tells : Bool) (node size more : ℕ) (old : DiskSeen) (t : Table) (pending then_pending : Option Pending) (picked : Option
    Pick)
    → IsStore tells node size more old.counts old.told t pending → old.counts.power ≡ true → then_pending ≡ pending
    → is_unsettled (pending_work t pending) ≡ false
    → IsAnew tells block_layout false (seen_with node (pending_work t pending) picked (kept_seen old.told t) more old)
    (seen_with node (pending_work t then_pending) None (kept_seen old.told t) more old)
anew_same tells node size more old t pending then_pending picked store power same none =
    subst (λ o. IsAnew tells block_layout false (seen_with node (pending_work t pending) picked (kept_seen old.told t) more old)
    (seen_with node (pending_work t o) None (kept_seen old.told t) more old)) (sym same) (record {
      node = refl;
      disk = refl;
      unsettled_is = sym none;
      work = same_anew (pending_work t pending) none;
      picked = refl;
      more = refl;
      at = refl;
      kept = λ so. refl;
      fresh = store_fresh tells node size more old t pending store;
      stands = store_stands tells node size more old t pending store power;
    })

-- nothing that waits is unsettled where the job has not ended
pub goes_on : (t : Table) (p : Pending) (stage : Stage) → ((gate : ℕ) (synced : Bool) → stage ≡ Ended gate synced → ⊥)
    → is_unsettled (work_at t p stage) ≡ false
goes_on t p Close none = refl
goes_on t p (WritePart block from) none = refl
goes_on t p WriteHead none = refl
goes_on t p SyncHead none = refl
goes_on t p Open none = refl
goes_on t p SyncOpen none = refl
goes_on t p (Ended gate synced) none = absurd (none gate synced refl)

-- Where its job has, it wants its sync again.
pub anew_store : (tells : Bool) (node size more : ℕ) (old : DiskSeen) (t : Table) (p : Pending) (gate : ℕ) (synced : Bool)
    → IsDoubt tells node size more old t p gate synced
    → IsStore tells node size more old.counts old.told t (Some (at_stage p (Ended gate false) p.made))
anew_store tells node size more old t p gate synced d =
    doubt_store tells node size more old old t p gate synced false d refl (λ so P h. record {
      after = h;
      moments = record {
        acts = [];
        image = refl;
        since = refl;
        leaves = h.left;
      };
    })
    (λ so. (subst (λ w. IsStageOn node more t p (contents old.told) w (Ended gate synced)) (sym d.power)
    (on_of tells node size more old t p gate synced d so)).0)
    (λ so never. absurd (false≢true never))

pub anew_ended : (tells : Bool) (node size more : ℕ) (old : DiskSeen) (t : Table) (pending : Option Pending) (p : Pending) (gate : ℕ)
    (synced : Bool) (picked : Option Pick) → pending ≡ Some p → IsDoubt tells node size more old t p gate synced
    → IsAnew tells block_layout true (seen_with node (pending_work t pending) picked (kept_seen old.told t) more old)
    (seen_with node (pending_work t (Some (at_stage p (Ended gate false) p.made))) None (kept_seen old.told t) more old)
anew_ended tells node size more old t pending p gate synced picked is d =
    subst (λ w. IsAnew tells block_layout true (seen_with node w picked (kept_seen old.told t) more old)
    (seen_with node (Unsettled (change_of p) false) None (kept_seen old.told t) more old))
    (sym (ap (pending_work t) is ∙ ap (work_at t p) d.stage)) (record {
      node = refl;
      disk = refl;
      unsettled_is = refl;
      work = refl;
      picked = refl;
      more = refl;
      at = refl;
      kept = λ so. refl;
      fresh = d.store.fresh;
      stands = store_stands tells node size more old t (Some (at_stage p (Ended gate false) p.made)) (anew_store tells node size more old
          t p gate synced d)
          d.power;
    })
