-- What the calls of a store leave, for a twin.
use Rattle.std.specs.Prelude.{◌≡◌, ◌⊎◌, ℕ, ◌≤◌, Bool, true, false, IsTrue, List, [], ◌∷◌, Option, None, Some, Result, Ok, Err}
use Rattle.std.specs.Prelude.{IfErr, IfOk, OnOk, ◌≢◌}
use Rattle.std.proofs.Common.{refl, sym, ap, subst, ◌∙◌, inl, inr, cond, arith}
use Rattle.std.specs.FinMap as map
use Rattle.std.specs.Ordering.{eq_by_cmp}
use Rattle.capability.specs.declared.Uid.{Uid}
use Rattle.capability.specs.Uids.{uid_cmp}
use Rattle.capability.proofs.Uids.{uid_cmp_total}
use Rattle.eden_disk.specs.Told.{Told}
use Rattle.eden_disk.specs.Calls.{Counts, DeviceCalls, End, Fine, AtFault, AtStop}
use Rattle.passive_store.specs.declared.store.Pick.{Pick}
use Rattle.passive_store.specs.declared.store.Pick.TheVariants.{Old, New}
use Rattle.passive_store.specs.declared.store.StoreRefusal.{StoreRefusal}
use Rattle.passive_store.specs.declared.store.StoreRefusal.TheVariants.{Failed, Stopped, Full, Damaged, OutOfMemory}
use Rattle.passive_store.specs.Kept.{Kept, Layout, StoreChange, Stands, Work, Idle, Unsettled, LeavesKept, kept_after, settled}
use Rattle.passive_store.specs.Kept.{work_changed, kept_changed, IsFullBy}
use Rattle.passive_store.specs.Kept.{work_unchanged, work_settled, IsDiskRefusal, IsEarlyRefusal, end_of_store, bodies_after, body_at}
use Rattle.passive_store.specs.Seen.{Seen, Asked, asked, change_asked, has_room_for, Whole, Changes, Puts, Deletes, Gets, Goes}
use Rattle.twin_store.specs.declared.served.TwinRefusal.TheVariants.{Full as TwinFull, Stopped as TwinStopped}
use Rattle.twin_store.specs.declared.served.TwinRefusal.TheVariants.{OutOfMemory as TwinOutOfMemory}
use Rattle.twin_store.specs.Vouched.{Bodies, changed_by, bodies_found}
use Rattle.twin_store.specs.Footings.{Finds, IsMapped, Standing}
use Rattle.twin_store.specs.Serving.{served_as, end_of_served, IsReady, CountsBy, Same, MayKeep, IsServed, Serves, IfFound, IsPassedOn}
use Rattle.twin_store.specs.Serving.{IsFullIn}
use Rattle.twin_store.proofs.Vouching.{one_of, same_or_not}

-- 1. What images keep

-- an image of whose room nothing is said
untold : (layout : Layout) (node more : ℕ) (kept : Kept) (changes : List StoreChange) (image : List ℕ)
    → Stands layout node more kept changes image → Stands layout node 0 kept changes image
untold layout node more kept changes image s = record { found = s.found; opens = s.opens; told = omega arith }

-- nothing is in doubt
pub leaves_sure : (layout : Layout) (node more : ℕ) (kept : Kept) (P : Bodies → Type 0) (told : Told)
    → LeavesKept layout node more kept Idle told
    → P kept.bodies → Finds layout node (IsMapped P) told
leaves_sure layout node more kept P told h f = record {
  footing = Standing kept [];
  is = λ image left. untold layout node more kept [] image (h image left);
  only = λ found e. subst (λ x. IsMapped P (bodies_found x)) (sym e) f;
  found = Ok kept;
  there = refl;
}

-- a change is in doubt
leaves_doubt : (layout : Layout) (node more : ℕ) (kept : Kept) (c : StoreChange) (P : Bodies → Type 0) (told : Told)
    → LeavesKept layout node more kept (Unsettled c false) told → P kept.bodies → P (kept_after c kept).bodies
    → Finds layout node (IsMapped P) told
leaves_doubt layout node more kept c P told h f g = record {
  footing = Standing kept (c ∷ []);
  is = λ image left. untold layout node more kept (c ∷ []) image (h image left);
  only = λ found may. one_of may (λ e. subst (λ x. IsMapped P (bodies_found x)) (sym e) f)
      (λ e. subst (λ x. IsMapped P (bodies_found x)) (sym e.1) g);
  found = Ok kept;
  there = inl refl;
}

settled_idle : (pick : Option Pick) (k : Kept) → settled pick Idle k ≡ k
settled_idle None k = refl
settled_idle (Some Old) k = refl
settled_idle (Some New) k = refl

same_settled : (pick : Option Pick) (k : Kept) → Same (settled pick Idle k).bodies k.bodies
same_settled pick k uid = ap (λ (x : Kept). map.get x.bodies uid) (settled_idle pick k)

same_changed : (pick : Option Pick) (c : StoreChange) (k : Kept)
    → Same (kept_after c (settled pick Idle k)).bodies (bodies_after c.uid c.body k.bodies)
same_changed pick c k uid = ap (λ (x : Kept). map.get (bodies_after c.uid c.body x.bodies) uid) (settled_idle pick k)

-- behind a whole change of a store that was idle
leaves_changed : (layout : Layout) (node more : ℕ) (kept : Kept) (pick : Option Pick) (c : StoreChange) (r : Result (Unit {0}) StoreRefusal)
    (told : Told) → LeavesKept layout node more (kept_changed pick c Idle kept r) (work_changed pick c Idle r) told
    → Finds layout node (IsMapped (MayKeep (served_as r) (Some (asked c.uid c.body)) kept.bodies)) told
leaves_changed layout node more kept pick c (Ok done) told h =
    leaves_sure layout node more (kept_after c (settled pick Idle kept)) _ told h (same_changed pick c kept)
leaves_changed layout node more kept None c (Err Failed) told h =
    leaves_doubt layout node more kept c _ told h (inl (λ uid. refl)) (inr (λ uid. refl))
leaves_changed layout node more kept (Some Old) c (Err Failed) told h =
    leaves_doubt layout node more kept c _ told h (inl (λ uid. refl)) (inr (λ uid. refl))
leaves_changed layout node more kept (Some New) c (Err Failed) told h =
    leaves_doubt layout node more kept c _ told h (inl (λ uid. refl)) (inr (λ uid. refl))
leaves_changed layout node more kept None c (Err Stopped) told h =
    leaves_doubt layout node more kept c _ told h (inl (λ uid. refl)) (inr (λ uid. refl))
leaves_changed layout node more kept (Some Old) c (Err Stopped) told h =
    leaves_doubt layout node more kept c _ told h (inl (λ uid. refl)) (inr (λ uid. refl))
leaves_changed layout node more kept (Some New) c (Err Stopped) told h =
    leaves_doubt layout node more kept c _ told h (inl (λ uid. refl)) (inr (λ uid. refl))
leaves_changed layout node more kept pick c (Err Full) told h =
    leaves_sure layout node more (settled pick Idle kept) _ told h (same_settled pick kept)
leaves_changed layout node more kept pick c (Err (Damaged place)) told h =
    leaves_sure layout node more (settled pick Idle kept) _ told h (inl (same_settled pick kept))
leaves_changed layout node more kept pick c (Err OutOfMemory) told h =
    leaves_sure layout node more (settled pick Idle kept) _ told h (same_settled pick kept)

-- a call that leaves what is kept may keep just that
may_keep : {T : Type 0} (r : Result T StoreRefusal) (c : Option Asked) (old m : Bodies) → Same m old
    → (OnOk r (Same m (changed_by c old))) → MayKeep (served_as r) c old m
may_keep (Ok value) c old m same done = done
may_keep (Err Failed) c old m same done = inl same
may_keep (Err Stopped) c old m same done = inl same
may_keep (Err Full) c old m same done = same
may_keep (Err (Damaged place)) c old m same done = inl same
may_keep (Err OutOfMemory) c old m same done = same

-- the removal of what is not there
either_none : {A : Type 0} (b : Bool) (x : Option A) → x ≡ None → cond b None x ≡ None
either_none true x e = refl
either_none false x e = e

gone : (uid : Uid) (m : Bodies) → map.get m uid ≡ None → map.get (map.remove m uid) uid ≡ None
gone uid m none = map.get-remove uid_cmp_total m uid uid ∙ either_none (eq_by_cmp uid_cmp uid uid) (map.get m uid) none

none_to_remove : (uid : Uid) (m : Bodies) → map.get m uid ≡ None → Same m (bodies_after uid None m)
none_to_remove uid m none q =
    one_of (same_or_not q uid)
    (λ e. subst (λ u. map.get m u ≡ map.get (map.remove m uid) u) (sym e) (none ∙ sym (gone uid m none)))
    (λ e. sym (map.get-remove uid_cmp_total m uid q ∙ ap (λ b. cond b None (map.get m q)) e))

-- 2. Counts

not_damaged : (place : ℕ) → IsDiskRefusal (Damaged place) ⊎ IsEarlyRefusal (Damaged place) → ⊥
not_damaged place (inl (inl e)) = cc
not_damaged place (inl (inr e)) = cc
not_damaged place (inr (inl e)) = cc
not_damaged place (inr (inr e)) = cc

only_by : {T : Type 0} (r : Result T StoreRefusal) → IfErr (served_as r) IsPassedOn
only_by (Ok value) = tt
only_by (Err Failed) = tt
only_by (Err Stopped) = inl refl
only_by (Err Full) = inr (inl refl)
only_by (Err (Damaged place)) = tt
only_by (Err OutOfMemory) = inr (inr refl)

calls_by : (made : ℕ) (old new : Counts) (end : End) → DeviceCalls made old new end → CountsBy end old new
calls_by made old new end d = record { size = d.size; faults = d.faults; stops = d.stops; power = d.power }

counts_by : {T : Type 0} (r : Result T StoreRefusal) (made : ℕ) (old new : Counts) → IfErr r (λ e. IsDiskRefusal e ⊎ IsEarlyRefusal e)
    → DeviceCalls made old new (end_of_store r) → CountsBy (end_of_served (served_as r)) old new
counts_by (Ok value) made old new only d = calls_by made old new Fine d
counts_by (Err Failed) made old new only d = calls_by made old new AtFault d
counts_by (Err Stopped) made old new only d = calls_by made old new AtStop d
counts_by (Err Full) made old new only d = calls_by made old new Fine d
counts_by (Err (Damaged place)) made old new only d = absurd (not_damaged place only)
counts_by (Err OutOfMemory) made old new only d = calls_by made old new Fine d

-- 3. The calls

is_served : {T : Type 0} (tells : Bool) (node : ℕ) (c : Option Asked) (r : Result T StoreRefusal) (old new : Seen)
    → OnOk r (IsReady node new) → (IsTrue tells → OnOk r (Same new.kept.bodies (changed_by c old.kept.bodies)))
    → IsServed tells node c (served_as r) old new
is_served tells node c (Ok value) old new ready same = (ready, same)
is_served tells node c (Err Failed) old new ready same = tt
is_served tells node c (Err Stopped) old new ready same = tt
is_served tells node c (Err Full) old new ready same = tt
is_served tells node c (Err (Damaged place)) old new ready same = tt
is_served tells node c (Err OutOfMemory) old new ready same = tt

-- a store whose last call was done is ready
ready_again : {T : Type 0} (node made : ℕ) (r : Result T StoreRefusal) (old new : Seen) → IsReady node old → new.node ≡ old.node
    → OnOk r (new.work ≡ Idle) → DeviceCalls made old.disk.counts new.disk.counts (end_of_store r) → OnOk r (IsReady node new)
ready_again node made (Ok value) old new ready same idle d = record { node_is = same ∙ ready.node_is; idle = idle; power = d.power }
ready_again node made (Err e) old new ready same idle d = tt

done_changed : (pick : Option Pick) (c : StoreChange) (r : Result (Unit {0}) StoreRefusal) (work : Work) → work ≡ work_changed pick c Idle r
    → OnOk r (work ≡ Idle)
done_changed pick c (Ok done) work e = e
done_changed pick c (Err refusal) work e = tt

kept_done : (pick : Option Pick) (c : StoreChange) (r : Result (Unit {0}) StoreRefusal) (old new : Kept)
    → new ≡ kept_changed pick c Idle old r
    → OnOk r (Same new.bodies (bodies_after c.uid c.body old.bodies))
kept_done pick c (Ok done) old new e = λ uid. ap (λ (x : Kept). map.get x.bodies uid) e ∙ same_changed pick c old uid
kept_done pick c (Err refusal) old new e = tt

stopped_not_full : TwinStopped ≡ TwinFull → ⊥
stopped_not_full is = cc

memory_not_full : TwinOutOfMemory ≡ TwinFull → ⊥
memory_not_full is = cc

-- a change is refused for want of room only where there is none
full_by : (tells : Bool) (layout : Layout) (ask : Asked) (r : Result (Unit {0}) StoreRefusal) (pick : Option Pick) (old : Seen)
    → old.work ≡ Idle
    → (IsTrue tells → 1 ≤ old.more
    → IsFullBy (has_room_for layout old.disk.counts.size (settled pick old.work old.kept) ask) pick old.work r)
    → IfErr (served_as r) (λ e. e ≡ TwinFull → IsFullIn tells layout (Some ask) old)
full_by tells layout ask (Ok done) pick old idle h = tt
full_by tells layout ask (Err Failed) pick old idle h = tt
full_by tells layout ask (Err Stopped) pick old idle h = λ is. absurd (stopped_not_full is)
full_by tells layout ask (Err Full) pick old idle h = λ is so told.
    inl (ap (λ k. has_room_for layout old.disk.counts.size k ask)
    (sym (ap (λ w. settled pick w old.kept) idle ∙ settled_idle pick old.kept)) ∙ h so told)
full_by tells layout ask (Err (Damaged place)) pick old idle h = tt
full_by tells layout ask (Err OutOfMemory) pick old idle h = λ is. absurd (memory_not_full is)

-- a call that is never refused so
never_full : {T : Type 0} (P : Type 0) (r : Result T StoreRefusal) → IfErr r (λ e. e ≢ Full)
    → IfErr (served_as r) (λ e. e ≡ TwinFull → P)
never_full P (Ok value) h = tt
never_full P (Err Failed) h = tt
never_full P (Err Stopped) h = λ is. absurd (stopped_not_full is)
never_full P (Err Full) h = absurd (h refl)
never_full P (Err (Damaged place)) h = tt
never_full P (Err OutOfMemory) h = λ is. absurd (memory_not_full is)

pub serves_changes : (tells obeys : Bool) (layout : Layout) (node : ℕ) (ask : Asked) (r : Result (Unit {0}) StoreRefusal) (old new : Seen)
    → IsReady node old → Whole tells obeys layout ask r old new → Changes tells layout ask r old new
    → (IsTrue tells → 1 ≤ old.more
    → IsFullBy (has_room_for layout old.disk.counts.size (settled new.picked old.work old.kept) ask) new.picked old.work r)
    → Serves tells layout node (Some ask) (served_as r) old new
serves_changes tells obeys layout node ask r old new ready whole changes full =
    let c : StoreChange = change_asked layout ask changes.mark in
    let work : new.work ≡ work_changed new.picked c Idle r = changes.work ∙ ap (λ w. work_changed new.picked c w r) ready.idle in
    let kept : IsTrue tells → new.kept ≡ kept_changed new.picked c Idle old.kept r =
    λ so. changes.kept so ∙ ap (λ w. kept_changed new.picked c w old.kept r) ready.idle in
    record {
      only = only_by r;
      full = full_by tells layout ask r new.picked old ready.idle full;
      counts = counts_by r changes.ran.made old.disk.counts new.disk.counts whole.undamaged changes.ran.counts;
      served = is_served tells node (Some ask) r old new
          (ready_again node changes.ran.made r old new ready whole.goes.node (done_changed new.picked c r new.work work) changes.ran.counts)
          (λ so. kept_done new.picked c r old.kept new.kept (kept so));
      leaves = λ so. leaves_changed layout node new.more old.kept new.picked c r new.disk.told
          (subst (λ n. LeavesKept layout n new.more (kept_changed new.picked c Idle old.kept r) (work_changed new.picked c Idle r)
          new.disk.told)
          (whole.goes.node ∙ ready.node_is)
          (subst (λ k. LeavesKept layout new.node new.more k (work_changed new.picked c Idle r) new.disk.told) (kept so)
          (subst (λ w. LeavesKept layout new.node new.more new.kept w new.disk.told) work (whole.goes.stands so))));
    }

pub serves_put : (tells obeys : Bool) (layout : Layout) (node : ℕ) (ask : Asked) (r : Result (Unit {0}) StoreRefusal) (old new : Seen)
    → IsReady node old → Puts tells obeys layout ask r old new → Serves tells layout node (Some ask) (served_as r) old new
serves_put tells obeys layout node ask r old new ready p =
    serves_changes tells obeys layout node ask r old new ready p.whole p.changes p.full

on_ok : {T P : Type 0} (r : Result T StoreRefusal) → P → OnOk r P
on_ok (Ok value) p = p
on_ok (Err e) p = tt

-- a call behind which the store is idle and keeps what it kept
serves_still : {T : Type 0} (tells obeys : Bool) (layout : Layout) (node made : ℕ) (c : Option Asked) (r : Result T StoreRefusal)
    (old new : Seen)
    → IsReady node old → Goes tells obeys layout r old new → IfErr r (λ e. IsDiskRefusal e ⊎ IsEarlyRefusal e) → IfErr r (λ e. e ≢ Full)
    → DeviceCalls made old.disk.counts new.disk.counts (end_of_store r) → new.work ≡ Idle → (IsTrue tells → new.kept ≡ old.kept)
    → (IsTrue tells → OnOk r (Same old.kept.bodies (changed_by c old.kept.bodies))) → Serves tells layout node c (served_as r) old new
serves_still tells obeys layout node made c r old new ready goes only roomy calls idle kept same = record {
  only = only_by r;
  full = never_full (IsFullIn tells layout c old) r roomy;
  counts = counts_by r made old.disk.counts new.disk.counts only calls;
  served = is_served tells node c r old new (ready_again node made r old new ready goes.node (on_ok r idle) calls)
      (λ so. subst (λ (k : Kept). OnOk r (Same k.bodies (changed_by c old.kept.bodies))) (sym (kept so)) (same so));
  leaves = λ so. leaves_sure layout node new.more old.kept _ new.disk.told
      (subst (λ n. LeavesKept layout n new.more old.kept Idle new.disk.told) (goes.node ∙ ready.node_is)
      (subst (λ k. LeavesKept layout new.node new.more k Idle new.disk.told) (kept so)
      (subst (λ w. LeavesKept layout new.node new.more new.kept w new.disk.told) idle (goes.stands so))))
      (may_keep r c old.kept.bodies old.kept.bodies (λ uid. refl) (same so));
}

settled_work : (pick : Option Pick) (work : Work) → work ≡ Idle → work_settled pick work ≡ Idle
settled_work pick work e = ap (work_settled pick) e

unchanged_work : (pick : Option Pick) (r : Result (Unit {0}) StoreRefusal) → work_unchanged pick Idle r ≡ Idle
unchanged_work pick (Ok done) = refl
unchanged_work pick (Err Failed) = refl
unchanged_work pick (Err Stopped) = refl
unchanged_work pick (Err Full) = refl
unchanged_work pick (Err (Damaged place)) = refl
unchanged_work pick (Err OutOfMemory) = refl

kept_still : (pick : Option Pick) (work : Work) (old new : Kept) → work ≡ Idle → new ≡ settled pick work old → new ≡ old
kept_still pick work old new idle e = e ∙ (ap (λ w. settled pick w old) idle ∙ settled_idle pick old)

nothing_there : (r : Result (Unit {0}) StoreRefusal) (uid : Uid) (old k : Kept) → k ≡ old → OnOk r (body_at k uid ≡ None)
    → OnOk r (Same old.bodies (bodies_after uid None old.bodies))
nothing_there (Ok done) uid old k e none = none_to_remove uid old.bodies (ap (λ (x : Kept). body_at x uid) (sym e) ∙ none)
nothing_there (Err refusal) uid old k e none = tt

pub serves_delete : (tells obeys : Bool) (layout : Layout) (node : ℕ) (uid : Uid) (r : Result (Unit {0}) StoreRefusal) (old new : Seen)
    → IsReady node old → Deletes tells obeys layout (asked uid None) r old new
    → Serves tells layout node (Some (asked uid None)) (served_as r) old new
serves_delete tells obeys layout node uid r old new ready d =
    one_of d.changes
    (λ f. serves_still tells obeys layout node f.settles.ran.made (Some (asked uid None)) r old new ready d.whole.goes d.whole.undamaged
    f.room f.settles.ran.counts (f.settles.work ∙ (ap (λ w. work_unchanged new.picked w r) ready.idle ∙ unchanged_work new.picked r))
    (λ so. kept_still new.picked old.work old.kept new.kept ready.idle (f.settles.kept so))
    (λ so. nothing_there r uid old.kept (settled new.picked old.work old.kept)
    (ap (λ w. settled new.picked w old.kept) ready.idle ∙ settled_idle new.picked old.kept) (f.none so)))
    (λ f. serves_changes tells obeys layout node (asked uid None) r old new ready d.whole f.changes f.full)

get_refusal : {T : Type 0} (r : Result T StoreRefusal) → IfErr r (λ e. IsDiskRefusal e ⊎ (e ≡ OutOfMemory))
    → IfErr r (λ e. IsDiskRefusal e ⊎ IsEarlyRefusal e)
get_refusal (Ok value) h = tt
get_refusal (Err e) (inl h) = inl h
get_refusal (Err e) (inr h) = inr (inr h)

get_not_full : {T : Type 0} (r : Result T StoreRefusal) → IfErr r (λ e. IsDiskRefusal e ⊎ (e ≡ OutOfMemory)) → IfErr r (λ e. e ≢ Full)
get_not_full (Ok value) h = tt
get_not_full (Err e) (inl (inl h)) = λ is. failed_not_full (sym h ∙ is)
  where
    failed_not_full : Failed ≡ Full → ⊥
    failed_not_full is = cc
get_not_full (Err e) (inl (inr h)) = λ is. stop_not_full (sym h ∙ is)
  where
    stop_not_full : Stopped ≡ Full → ⊥
    stop_not_full is = cc
get_not_full (Err e) (inr h) = λ is. want_not_full (sym h ∙ is)
  where
    want_not_full : OutOfMemory ≡ Full → ⊥
    want_not_full is = cc

pub serves_get : (tells obeys : Bool) (layout : Layout) (node : ℕ) (uid : Uid) (r : Result (Option (List ℕ)) StoreRefusal) (old new : Seen)
    → IsReady node old → Gets tells obeys layout uid r old new → Serves tells layout node None (served_as r) old new
serves_get tells obeys layout node uid r old new ready d =
    serves_still tells obeys layout node d.ran.made None r old new ready d.goes (get_refusal r d.only) (get_not_full r d.only) d.ran.counts
    (d.work ∙ settled_work new.picked old.work ready.idle) (λ so. kept_still new.picked old.work old.kept new.kept ready.idle (d.kept so))
    (λ so. on_ok r (λ uid. refl))

found_by : {T : Type 0} (r : Result T StoreRefusal) (due now : T) → IfOk r (λ value. value ≡ now) → now ≡ due → IfFound (served_as r) due
found_by (Ok value) due now h e = h ∙ e
found_by (Err Failed) due now h e = tt
found_by (Err Stopped) due now h e = tt
found_by (Err Full) due now h e = tt
found_by (Err (Damaged place)) due now h e = tt
found_by (Err OutOfMemory) due now h e = tt

pub finds : (tells obeys : Bool) (layout : Layout) (node : ℕ) (uid : Uid) (r : Result (Option (List ℕ)) StoreRefusal) (old new : Seen)
    → IsReady node old → Gets tells obeys layout uid r old new → IsTrue tells → IfFound (served_as r) (map.get old.kept.bodies uid)
finds tells obeys layout node uid r old new ready d so =
    found_by r (map.get old.kept.bodies uid) (map.get new.kept.bodies uid) (d.body so)
    (ap (λ (k : Kept). map.get k.bodies uid) (kept_still new.picked old.work old.kept new.kept ready.idle (d.kept so)))
