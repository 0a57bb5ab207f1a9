-- One call of each of two stores that are alike, and many of them.
use Rattle.std.specs.Prelude.{◌≡◌, ◌⊎◌, ℕ, zero, suc, Bool, true, false, IsSome, is_some, List, [], ◌∷◌, Option, None, Some, Result, Ok}
use Rattle.std.specs.Prelude.{Err, IfOk, OnOk}
use Rattle.std.proofs.Common.{refl, sym, subst, ap, ◌∙◌, inl, inr}
use Rattle.std.proofs.lemmas.List.Elements.{All-cons, All-nil}
use Rattle.std.specs.FinMap as map
use Rattle.std.specs.FinMap.{FinMap}
use Rattle.capability.specs.declared.Uid.{Uid}
use Rattle.capability.specs.Uids.{uid_cmp}
use Rattle.eden_disk.specs.Told.{contents, Left}
use Rattle.eden_disk.specs.Calls.{Counts}
use Rattle.passive_store.specs.declared.store.Progress.{Progress}
use Rattle.passive_store.specs.declared.store.Progress.TheVariants.{Going}
use Rattle.passive_store.specs.declared.store.StoreRefusal.{StoreRefusal}
use Rattle.passive_store.specs.declared.store.StoreRefusal.TheVariants.{Failed, Stopped, Full, Damaged, OutOfMemory}
use Rattle.passive_store.specs.Kept.{Layout, Work, Idle, is_unsettled, bodies_after, work_settled, work_begun, work_finished}
use Rattle.passive_store.specs.Kept.{kept_finished, work_advanced, doubt_in, changes_in, IsAnyOf, LeavesKept}
use Rattle.passive_store.specs.Seen.{Seen, asked, change_asked, Puts, Deletes, Gets, Settled, Begins, Advances, FindsNothing, Removes}
use Rattle.equal_answers.specs.Calls.{Call, Put, Delete, Get, Settle, BeginPut, BeginDelete, Finish, Holds, After, WorkingOn, Unsure}
use Rattle.equal_answers.specs.Calls.{Picked, Reopen, IsReopened}
use Rattle.equal_answers.specs.Calls.{Answer, Made, Read, Held, Named, Settling, last_progress, Advanced, Answered, IsUndisturbed}
use Rattle.equal_answers.specs.Calls.{HasSpace, WantsNothing, IsFine}
use Rattle.equal_answers.specs.Alike.{LeavesWhatIsKept, AreAlikeWorks, AreAlike, AnsweredAlike, KeepsNothingInZeros, IsOpenedBlank}
use Rattle.equal_answers.specs.Alike.{StoresAnswerAlike, AlikeStoresAnswerAlike}
use Rattle.equal_answers.proofs.Refused.{IsDone, not_of_disk, done_of_both, done_of_get, done_of_disk, done_of_begin}
use Rattle.equal_answers.proofs.Works.{left_sure, right_sure, left_settled, right_settled, same_worked, same_unsure, settled_alike}
use Rattle.equal_answers.proofs.Works.{idle_alike, alike_by}
use Rattle.equal_answers.proofs.Works.{begun_alike, finished_alike, finished_bodies, none_after_memory, none_first, none_settled}
use Rattle.equal_answers.proofs.Works.{settled_keeps, changed_bodies, changed_work, unchanged_work, last_work, last_kept, going_work}
use Rattle.equal_answers.proofs.Works.{going_kept}
use Rattle.equal_answers.proofs.Counts.{EachGoesWell, each_goes_well}
use Rattle.equal_answers.proofs.Nexts.{same_next}
use Rattle.equal_answers.proofs.Blank.{bodies_in}

-- 1. What one store leaves

-- a call that is done left this work and these bodies
record Leaves {T : Type 0} (layout : Layout) (result : Result T StoreRefusal) (then : Work) (kept : FinMap uid_cmp (List ℕ))
    (old new : Seen) : Type 0 where
  pub done : IsDone result
  pub node : new.node ≡ old.node
  pub work : new.work ≡ then
  pub bodies : new.kept.bodies ≡ kept
  pub picked : new.picked ≡ None
  pub left : doubt_in new.work ≡ None → LeavesWhatIsKept layout new

through_a_crash : (layout : Layout) (s : Seen) → LeavesKept layout s.node s.more s.kept s.work s.disk.told → doubt_in s.work ≡ None
    → LeavesWhatIsKept layout s
through_a_crash layout s stands none image left =
    subst (λ d. IsAnyOf s.kept (changes_in d) (layout.map_of s.node image)) none (stands image left).found

put_leaves : (obeys : Bool) (layout : Layout) (uid : Uid) (body : List ℕ) (r : Result (Unit {0}) StoreRefusal) (old new : Seen)
    → Puts true obeys layout (asked uid (Some body)) r old new → IsUndisturbed old.disk.counts new.disk.counts → HasSpace r
    → is_unsettled old.work ≡ false → Leaves layout r Idle (bodies_after uid (Some body) old.kept.bodies) old new
put_leaves obeys layout uid body r old new p still space sure = record {
  done = done;
  node = p.whole.goes.node;
  work = p.changes.work ∙ changed_work new.picked (change_asked layout (asked uid (Some body)) p.changes.mark) old.work r done;
  bodies = ap (λ k. k.bodies) (p.changes.kept refl)
      ∙ changed_bodies new.picked (change_asked layout (asked uid (Some body)) p.changes.mark) old.work old.kept r none done;
  picked = none;
  left = through_a_crash layout new (p.whole.goes.stands refl);
}
  where
    done : IsDone r
    done = done_of_both r p.whole.undamaged
        (not_of_disk p.changes.ran.made old.disk.counts new.disk.counts r p.changes.ran.counts still) space

    none : new.picked ≡ None
    none = none_after_memory new.picked old.work r done p.whole.picked sure

-- nothing was kept under the uid, and all stays; or something was, which is gone
abbrev DeleteLeaves : Layout → Uid → Result (Unit {0}) StoreRefusal → Seen → Seen → Type 0
DeleteLeaves layout uid r old new =
    ((map.get old.kept.bodies uid ≡ None) × Leaves layout r (work_settled new.picked old.work) old.kept.bodies old new)
    ⊎ (IsSome (map.get old.kept.bodies uid) × Leaves layout r Idle (bodies_after uid None old.kept.bodies) old new)

on_done : {T : Type 0} {P : Type 0} (r : Result T StoreRefusal) → IsDone r → OnOk r P → P
on_done (Ok done) h p = p
on_done (Err e) h p = absurd h

nothing_leaves : (obeys : Bool) (layout : Layout) (uid : Uid) (r : Result (Unit {0}) StoreRefusal) (old new : Seen)
    → Deletes true obeys layout (asked uid None) r old new → FindsNothing true layout (asked uid None) r old new
    → IsUndisturbed old.disk.counts new.disk.counts → HasSpace r → is_unsettled old.work ≡ false → DeleteLeaves layout uid r old new
nothing_leaves obeys layout uid r old new d f still space sure = inl (
  ap (λ k. map.get k.bodies uid) (sym (settled_keeps new.picked old.work old.kept none)) ∙ on_done r done (f.none refl),
  record {
    done = done;
    node = d.whole.goes.node;
    work = f.settles.work ∙ unchanged_work new.picked old.work r done;
    bodies = ap (λ k. k.bodies) (f.settles.kept refl ∙ settled_keeps new.picked old.work old.kept none);
    picked = none;
    left = through_a_crash layout new (d.whole.goes.stands refl);
  },
)
  where
    done : IsDone r
    done = done_of_both r d.whole.undamaged
        (not_of_disk f.settles.ran.made old.disk.counts new.disk.counts r f.settles.ran.counts still) space

    none : new.picked ≡ None
    none = none_after_memory new.picked old.work r done d.whole.picked sure

removal_leaves : (obeys : Bool) (layout : Layout) (uid : Uid) (r : Result (Unit {0}) StoreRefusal) (old new : Seen)
    → Deletes true obeys layout (asked uid None) r old new → Removes true layout (asked uid None) r old new
    → IsUndisturbed old.disk.counts new.disk.counts → HasSpace r → is_unsettled old.work ≡ false → DeleteLeaves layout uid r old new
removal_leaves obeys layout uid r old new d m still space sure = inr (
  subst (λ k. IsSome (map.get k.bodies uid)) (settled_keeps new.picked old.work old.kept none) (m.some refl),
  record {
    done = done;
    node = d.whole.goes.node;
    work = m.changes.work ∙ changed_work new.picked (change_asked layout (asked uid None) m.changes.mark) old.work r done;
    bodies = ap (λ k. k.bodies) (m.changes.kept refl)
        ∙ changed_bodies new.picked (change_asked layout (asked uid None) m.changes.mark) old.work old.kept r none done;
    picked = none;
    left = through_a_crash layout new (d.whole.goes.stands refl);
  },
)
  where
    done : IsDone r
    done = done_of_both r d.whole.undamaged
        (not_of_disk m.changes.ran.made old.disk.counts new.disk.counts r m.changes.ran.counts still) space

    none : new.picked ≡ None
    none = none_after_memory new.picked old.work r done d.whole.picked sure

delete_leaves : (obeys : Bool) (layout : Layout) (uid : Uid) (r : Result (Unit {0}) StoreRefusal) (old new : Seen)
    → Deletes true obeys layout (asked uid None) r old new → IsUndisturbed old.disk.counts new.disk.counts → HasSpace r
    → is_unsettled old.work ≡ false → DeleteLeaves layout uid r old new
delete_leaves obeys layout uid r old new d still space sure = elim (d.changes) [
  | inl f ↦ nothing_leaves obeys layout uid r old new d f still space sure
  | inr m ↦ removal_leaves obeys layout uid r old new d m still space sure
]

get_leaves : (obeys : Bool) (layout : Layout) (uid : Uid) (r : Result (Option (List ℕ)) StoreRefusal) (old new : Seen)
    → Gets true obeys layout uid r old new → IsUndisturbed old.disk.counts new.disk.counts → HasSpace r → is_unsettled old.work ≡ false
    → Leaves layout r (work_settled new.picked old.work) old.kept.bodies old new
get_leaves obeys layout uid r old new g still space sure = record {
  done = done;
  node = g.goes.node;
  work = g.work;
  bodies = ap (λ k. k.bodies) (g.kept refl ∙ settled_keeps new.picked old.work old.kept none);
  picked = none;
  left = through_a_crash layout new (g.goes.stands refl);
}
  where
    done : IsDone r
    done = done_of_get r g.only (not_of_disk g.ran.made old.disk.counts new.disk.counts r g.ran.counts still) space

    none : new.picked ≡ None
    none = none_first new.picked old.work r done g.picked sure

settle_leaves : (obeys : Bool) (layout : Layout) (r : Result (Unit {0}) StoreRefusal) (old new : Seen)
    → Settled true obeys layout r old new → IsUndisturbed old.disk.counts new.disk.counts → is_unsettled old.work ≡ false
    → Leaves layout r (work_settled new.picked old.work) old.kept.bodies old new
settle_leaves obeys layout r old new s still sure = record {
  done = done_of_disk r s.only (not_of_disk s.ran.made old.disk.counts new.disk.counts r s.ran.counts still);
  node = s.goes.node;
  work = s.work;
  bodies = ap (λ k. k.bodies) (s.kept refl ∙ settled_keeps new.picked old.work old.kept none);
  picked = none;
  left = through_a_crash layout new (s.goes.stands refl);
}
  where
    none : new.picked ≡ None
    none = none_settled new.picked old.work r s.picked sure

begin_leaves : (layout : Layout) (uid : Uid) (body : Option (List ℕ)) (r : Result (Unit {0}) StoreRefusal) (old new : Seen)
    → (b : Begins true layout (asked uid body) r old new) → HasSpace r → old.picked ≡ None → LeavesWhatIsKept layout old
    → Leaves layout r (work_begun (change_asked layout (asked uid body) b.mark) b.calls old.work r) old.kept.bodies old new
begin_leaves layout uid body r old new b space none left = record {
  done = done_of_begin r b.only space;
  node = b.node;
  work = b.work;
  bodies = ap (λ k. k.bodies) (b.kept refl);
  picked = b.picked ∙ none;
  left = λ sure. λ image there. ap (λ n. layout.map_of n image) b.node
      ∙ left image (subst (λ d. Left (contents d.told) image) b.disk there) ∙ ap Ok (sym (b.kept refl));
}

last_leaves : (obeys : Bool) (layout : Layout) (r : Result (Unit {0}) StoreRefusal) (old new : Seen)
    → Advances true obeys layout (last_progress r) old new → IsUndisturbed old.disk.counts new.disk.counts → old.picked ≡ None
    → Leaves layout r (work_finished old.work r) (kept_finished old.work old.kept r).bodies old new
last_leaves obeys layout (Ok done) old new a still none = record {
  done = tt;
  node = a.goes.node;
  work = a.work ∙ last_work old.work done;
  bodies = ap (λ k. k.bodies) (a.kept refl ∙ last_kept old.work old.kept done);
  picked = a.picked ∙ none;
  left = through_a_crash layout new (a.goes.stands refl);
}
last_leaves obeys layout (Err e) old new a still none =
    absurd (not_of_disk {T = Progress} 1 old.disk.counts new.disk.counts (Err e) a.counts still a.only)

finish_leaves : (obeys : Bool) (layout : Layout) (n : ℕ) (r : Result (Unit {0}) StoreRefusal) (old new : Seen)
    → Advanced obeys layout n r old new → IsUndisturbed old.disk.counts new.disk.counts → old.picked ≡ None
    → Leaves layout r (work_finished old.work r) (kept_finished old.work old.kept r).bodies old new
finish_leaves obeys layout zero r old new a still none = last_leaves obeys layout r old new a still none
finish_leaves obeys layout (suc n) r old new (mid, a, behind) still none =
    let later = finish_leaves obeys layout n r mid new behind (record {
      no_fault = still.no_fault ∙ sym a.counts.faults;
      no_stop = still.no_stop ∙ sym a.counts.stops;
      faults_told = still.faults_told;
      stops_told = still.stops_told;
    }) (a.picked ∙ none) in
    record {
      done = later.done;
      node = later.node ∙ a.goes.node;
      work = later.work ∙ ap (λ w. work_finished w r) a.work ∙ going_work old.work r;
      bodies = later.bodies ∙ ap (λ w. (kept_finished w mid.kept r).bodies) a.work
          ∙ ap (λ k. (kept_finished (work_advanced old.work (Ok Going)) k r).bodies) (a.kept refl)
          ∙ ap (λ k. k.bodies) (going_kept old.work old.kept r);
      picked = later.picked;
      left = later.left;
    }

opened_left : (layout : Layout) (node : ℕ) (s : Seen) → s.node ≡ node → LeavesKept layout node s.more s.kept Idle s.disk.told
    → LeavesWhatIsKept layout s
opened_left layout node s is stands image left = ap (λ n. layout.map_of n image) is ∙ (stands image left).found

opened_still : (old mid new : Counts) → mid.faults ≡ old.faults → mid.stops ≡ old.stops → IsUndisturbed old new → IsUndisturbed mid new
opened_still old mid new faults stops still = record {
  no_fault = still.no_fault ∙ sym faults;
  no_stop = still.no_stop ∙ sym stops;
  faults_told = still.faults_told;
  stops_told = still.stops_told;
}

reopen_leaves : (obeys : Bool) (layout : Layout) (r : Result (Unit {0}) StoreRefusal) (old new : Seen) → IsReopened obeys layout r old new
    → IsUndisturbed old.disk.counts new.disk.counts → HasSpace r → LeavesWhatIsKept layout old
    → Leaves layout r Idle old.kept.bodies old new
reopen_leaves obeys layout (Ok done) old new h still space left = record {
  done = tt;
  node = h.opens.node_is;
  work = h.opens.idle.0;
  bodies = ap bodies_in (sym (h.opens.map refl) ∙ left (contents h.disk.told).now h.image);
  picked = h.opens.idle.1;
  left = λ sure. opened_left layout old.node new h.opens.node_is (h.opens.stands refl);
}
reopen_leaves obeys layout (Err (Damaged place)) old new h still space left =
    absurd (cc (sym (h.opens.damaged refl place refl) ∙ left (contents h.disk.told).now h.image))
reopen_leaves obeys layout (Err Full) old new h still space left = absurd (space.0 refl)
reopen_leaves obeys layout (Err OutOfMemory) old new h still space left = absurd (space.1 refl)
reopen_leaves obeys layout (Err Failed) old new h still space left = absurd (not_of_disk {T = Seen} h.opens.made h.disk.counts
    new.disk.counts (Err Failed) h.opens.counts (opened_still old.disk.counts h.disk.counts new.disk.counts h.faults h.stops still)
    (inl refl))
reopen_leaves obeys layout (Err Stopped) old new h still space left = absurd (not_of_disk {T = Seen} h.opens.made h.disk.counts
    new.disk.counts (Err Stopped) h.opens.counts (opened_still old.disk.counts h.disk.counts new.disk.counts h.faults h.stops still)
    (inr refl))

-- 2. One call of both

-- both answers are the same and no refusal, and both stores are alike behind them
abbrev BothAlike : Layout → Layout → Answer → Answer → Seen → Seen → Type 0
BothAlike layout layout_b answer other a b = (answer ≡ other) × IsFine answer × AreAlike layout layout_b a b

same_made : (answer other : Answer) (r q : Result (Unit {0}) StoreRefusal) → answer ≡ Made r → other ≡ Made q → IsDone r → IsDone q
    → answer ≡ other
same_made answer other (Ok done) (Ok too) e f h k = e ∙ sym f
same_made answer other (Err w) q e f h k = absurd h
same_made answer other r (Err w) e f h k = absurd k

alike_behind : {T : Type 0} (layout layout_b : Layout) (r q : Result T StoreRefusal) (w v : Work) (m n : FinMap uid_cmp (List ℕ))
    (a b new_a new_b : Seen) → AreAlike layout layout_b a b → Leaves layout r w m a new_a → Leaves layout_b q v n b new_b
    → AreAlikeWorks w v → m ≡ n → AreAlike layout layout_b new_a new_b
alike_behind layout layout_b r q w v m n a b new_a new_b alike left right works bodies = record {
  node = left.node ∙ alike.node ∙ sym right.node;
  bodies = left.bodies ∙ bodies ∙ sym right.bodies;
  works = behind;
  picked = left.picked;
  other_picked = right.picked;
  left = left.left (left_sure new_a.work new_b.work behind);
  other_left = right.left (right_sure new_a.work new_b.work behind);
}
  where
    behind : AreAlikeWorks new_a.work new_b.work
    behind = alike_by new_a.work new_b.work w v left.work right.work works

joined : (layout layout_b : Layout) (answer other : Answer) (r q : Result (Unit {0}) StoreRefusal) (w v : Work)
    (m n : FinMap uid_cmp (List ℕ)) (a b new_a new_b : Seen) → answer ≡ Made r → other ≡ Made q → AreAlike layout layout_b a b
    → Leaves layout r w m a new_a → Leaves layout_b q v n b new_b → AreAlikeWorks w v → m ≡ n
    → BothAlike layout layout_b answer other new_a new_b
joined layout layout_b answer other r q w v m n a b new_a new_b e f alike left right works bodies = (
  same_made answer other r q e f left.done right.done,
  subst IsFine (sym e) left.done,
  alike_behind layout layout_b r q w v m n a b new_a new_b alike left right works bodies,
)

none_and_some : {X : Type 0} (o : Option X) → o ≡ None → IsSome o → ⊥
none_and_some None e h = absurd (cc h)
none_and_some (Some x) e h = absurd (cc e)

both_deleted : (layout layout_b : Layout) (answer other : Answer) (r q : Result (Unit {0}) StoreRefusal) (uid : Uid)
    (a b new_a new_b : Seen) → answer ≡ Made r → other ≡ Made q → AreAlike layout layout_b a b → DeleteLeaves layout uid r a new_a
    → DeleteLeaves layout_b uid q b new_b → BothAlike layout layout_b answer other new_a new_b
both_deleted layout layout_b answer other r q uid a b new_a new_b e f alike (inl h) (inl k) =
    joined layout layout_b answer other r q (work_settled new_a.picked a.work) (work_settled new_b.picked b.work) a.kept.bodies
    b.kept.bodies a b new_a new_b e f alike h.1 k.1 (settled_alike new_a.picked new_b.picked a.work b.work alike.works) alike.bodies
both_deleted layout layout_b answer other r q uid a b new_a new_b e f alike (inr h) (inr k) =
    joined layout layout_b answer other r q Idle Idle (bodies_after uid None a.kept.bodies) (bodies_after uid None b.kept.bodies)
    a b new_a new_b e f alike h.1 k.1 idle_alike (ap (bodies_after uid None) alike.bodies)
both_deleted layout layout_b answer other r q uid a b new_a new_b e f alike (inl h) (inr k) =
    absurd (none_and_some (map.get b.kept.bodies uid) (ap (λ m. map.get m uid) (sym alike.bodies) ∙ h.0) k.0)
both_deleted layout layout_b answer other r q uid a b new_a new_b e f alike (inr h) (inl k) =
    absurd (none_and_some (map.get a.kept.bodies uid) (ap (λ m. map.get m uid) alike.bodies ∙ k.0) h.0)

same_read : (answer other : Answer) (r q : Result (Option (List ℕ)) StoreRefusal) (m n : FinMap uid_cmp (List ℕ)) (uid : Uid)
    → answer ≡ Read r → other ≡ Read q → IsDone r → IsDone q → IfOk r (λ body. body ≡ map.get m uid)
    → IfOk q (λ body. body ≡ map.get n uid) → m ≡ n → answer ≡ other
same_read answer other (Ok x) (Ok y) m n uid e f h k is was bodies =
    e ∙ ap (λ body. Read (Ok body)) (is ∙ ap (λ m. map.get m uid) bodies ∙ sym was) ∙ sym f
same_read answer other (Err w) q m n uid e f h k is was bodies = absurd h
same_read answer other r (Err w) m n uid e f h k is was bodies = absurd k

space_of : {T : Type 0} (kind : Result T StoreRefusal → Answer) (answer : Answer) (r : Result T StoreRefusal) → answer ≡ kind r
    → WantsNothing answer → WantsNothing (kind r)
space_of kind answer r e space = subst WantsNothing e space

both_looked : {T : Type 0} (layout layout_b : Layout) (kind : T → Answer) → ((t : T) → IsFine (kind t)) → (answer other : Answer)
    (x y : T) (a b new_a new_b : Seen)
    → answer ≡ kind x
    → other ≡ kind y → x ≡ y → new_a ≡ a → new_b ≡ b → AreAlike layout layout_b a b
    → BothAlike layout layout_b answer other new_a new_b
both_looked layout layout_b kind fine answer other x y a b new_a new_b e f same at_a at_b alike = (
  e ∙ ap kind same ∙ sym f,
  subst IsFine (sym e) (fine x),
  subst (λ s. AreAlike layout layout_b s new_b) (sym at_a) (subst (AreAlike layout layout_b a) (sym at_b) alike),
)

both_begun : (layout layout_b : Layout) (uid : Uid) (body : Option (List ℕ)) (x y : Answer) (r q : Result (Unit {0}) StoreRefusal)
    (a b new_a new_b : Seen) → x ≡ Made r → y ≡ Made q → AreAlike layout layout_b a b → Begins true layout (asked uid body) r a new_a
    → Begins true layout_b (asked uid body) q b new_b → HasSpace r → HasSpace q → BothAlike layout layout_b x y new_a new_b
both_begun layout layout_b uid body x y r q a b new_a new_b e f alike h k space roomy =
    let left = begin_leaves layout uid body r a new_a h space alike.picked alike.left in
    let right = begin_leaves layout_b uid body q b new_b k roomy alike.other_picked alike.other_left in
    joined layout layout_b x y r q (work_begun (change_asked layout (asked uid body) h.mark) h.calls a.work r)
    (work_begun (change_asked layout_b (asked uid body) k.mark) k.calls b.work q) a.kept.bodies b.kept.bodies a b new_a new_b e f alike
    left right (begun_alike (change_asked layout (asked uid body) h.mark) (change_asked layout_b (asked uid body) k.mark) h.calls k.calls
    a.work b.work r q left.done right.done refl refl) alike.bodies

step : (obeys other_obeys : Bool) (layout layout_b : Layout) (call : Call) (answer answer_b : Answer) (a b new_a new_b : Seen)
    → AreAlike layout layout_b a b → Answered obeys layout call answer a new_a → IsUndisturbed a.disk.counts new_a.disk.counts
    → WantsNothing answer → Answered other_obeys layout_b call answer_b b new_b → IsUndisturbed b.disk.counts new_b.disk.counts
    → WantsNothing answer_b → BothAlike layout layout_b answer answer_b new_a new_b
step o p l m (Put uid body) x y a b new_a new_b alike (r, e, h) still space (q, f, k) quiet roomy =
    joined l m x y r q Idle Idle (bodies_after uid (Some body) a.kept.bodies) (bodies_after uid (Some body) b.kept.bodies)
    a b new_a new_b e f alike
    (put_leaves o l uid body r a new_a h still (space_of Made x r e space) (left_settled a.work b.work alike.works))
    (put_leaves p m uid body q b new_b k quiet (space_of Made y q f roomy) (right_settled a.work b.work alike.works))
    idle_alike (ap (bodies_after uid (Some body)) alike.bodies)
step o p l m (Delete uid) x y a b new_a new_b alike (r, e, h) still space (q, f, k) quiet roomy =
    both_deleted l m x y r q uid a b new_a new_b e f alike
    (delete_leaves o l uid r a new_a h still (space_of Made x r e space) (left_settled a.work b.work alike.works))
    (delete_leaves p m uid q b new_b k quiet (space_of Made y q f roomy) (right_settled a.work b.work alike.works))
step o p l m (Get uid) x y a b new_a new_b alike (r, e, h) still space (q, f, k) quiet roomy =
    let left = get_leaves o l uid r a new_a h still (space_of Read x r e space) (left_settled a.work b.work alike.works) in
    let right = get_leaves p m uid q b new_b k quiet (space_of Read y q f roomy) (right_settled a.work b.work alike.works) in (
      same_read x y r q new_a.kept.bodies new_b.kept.bodies uid e f left.done right.done (h.body refl) (k.body refl)
          (left.bodies ∙ alike.bodies ∙ sym right.bodies),
      subst IsFine (sym e) left.done,
      alike_behind l m r q (work_settled new_a.picked a.work) (work_settled new_b.picked b.work) a.kept.bodies b.kept.bodies a b new_a new_b
          alike left right (settled_alike new_a.picked new_b.picked a.work b.work alike.works) alike.bodies,
    )
step o p l m Settle x y a b new_a new_b alike (r, e, h) still space (q, f, k) quiet roomy =
    joined l m x y r q (work_settled new_a.picked a.work) (work_settled new_b.picked b.work) a.kept.bodies b.kept.bodies a b new_a new_b
    e f alike (settle_leaves o l r a new_a h still (left_settled a.work b.work alike.works))
    (settle_leaves p m q b new_b k quiet (right_settled a.work b.work alike.works))
    (settled_alike new_a.picked new_b.picked a.work b.work alike.works) alike.bodies
step o p l m (BeginPut uid body) x y a b new_a new_b alike (r, e, h) still space (q, f, k) quiet roomy =
    both_begun l m uid (Some body) x y r q a b new_a new_b e f alike h k (space_of Made x r e space) (space_of Made y q f roomy)
step o p l m (BeginDelete uid) x y a b new_a new_b alike (r, e, h) still space (q, f, k) quiet roomy =
    both_begun l m uid None x y r q a b new_a new_b e f alike h k (space_of Made x r e space) (space_of Made y q f roomy)
step o p l m Finish x y a b new_a new_b alike (r, e, h) still space (q, f, k) quiet roomy =
    let left = finish_leaves o l h.0 r a new_a h.1 still alike.picked in
    let right = finish_leaves p m k.0 q b new_b k.1 quiet alike.other_picked in
    joined l m x y r q (work_finished a.work r) (work_finished b.work q) (kept_finished a.work a.kept r).bodies
    (kept_finished b.work b.kept q).bodies a b new_a new_b e f alike left right
    (finished_alike a.work b.work r q left.done right.done alike.works)
    (finished_bodies a.work b.work a.kept b.kept r q left.done right.done alike.works alike.bodies)
step o p l m (Holds uid) x y a b new_a new_b alike (held, e, h) still space (other, f, k) quiet roomy =
    both_looked l m Held (λ t. tt) x y held other a b new_a new_b e f
    (h.0 ∙ ap (λ m. is_some (map.get m uid)) alike.bodies ∙ sym k.0) h.1 k.1 alike
step o p l m (After from) x y a b new_a new_b alike (next, e, h) still space (other, f, k) quiet roomy =
    both_looked l m Named (λ t. tt) x y next other a b new_a new_b e f
    (same_next a.node b.node a.kept b.kept from next other alike.node alike.bodies h.0 k.0) h.1 k.1 alike
step o p l m WorkingOn x y a b new_a new_b alike (uid, e, h) still space (other, f, k) quiet roomy =
    both_looked l m Named (λ t. tt) x y uid other a b new_a new_b e f (h.0 ∙ same_worked a.work b.work alike.works ∙ sym k.0) h.1 k.1 alike
step o p l m Unsure x y a b new_a new_b alike (uid, e, h) still space (other, f, k) quiet roomy =
    both_looked l m Named (λ t. tt) x y uid other a b new_a new_b e f (h.0 ∙ same_unsure a.work b.work alike.works ∙ sym k.0) h.1 k.1 alike
step o p l m Picked x y a b new_a new_b alike (pick, e, h) still space (other, f, k) quiet roomy =
    both_looked l m Settling (λ t. tt) x y pick other a b new_a new_b e f
    (h.0 ∙ alike.picked ∙ sym alike.other_picked ∙ sym k.0) h.1 k.1 alike
step o p l m Reopen x y a b new_a new_b alike (r, e, h) still space (q, f, k) quiet roomy =
    joined l m x y r q Idle Idle a.kept.bodies b.kept.bodies a b new_a new_b e f alike
    (reopen_leaves o l r a new_a h still (space_of Made x r e space) alike.left)
    (reopen_leaves p m q b new_b k quiet (space_of Made y q f roomy) alike.other_left) idle_alike alike.bodies

-- 3. Many calls

many : (obeys other_obeys : Bool) (layout other : Layout) (calls : List Call) (answers others : List Answer) (a b new_a new_b : Seen)
    → AreAlike layout other a b → EachGoesWell obeys layout a calls answers new_a → EachGoesWell other_obeys other b calls others new_b
    → AnsweredAlike layout other new_a new_b answers others
many o p l m [] [] [] a b new_a new_b alike h k = record {
  same = refl;
  fine = All-nil IsFine;
  alike = subst (λ s. AreAlike l m s new_b) (sym h) (subst (AreAlike l m a) (sym k) alike);
}
many o p l m [] [] (y ∷ ys) a b new_a new_b alike h k = absurd k
many o p l m [] (x ∷ xs) ys a b new_a new_b alike h k = absurd h
many o p l m (call ∷ calls) [] ys a b new_a new_b alike h k = absurd h
many o p l m (call ∷ calls) (x ∷ xs) [] a b new_a new_b alike h k = absurd k
many o p l m (call ∷ calls) (x ∷ xs) (y ∷ ys) a b new_a new_b alike h k =
    let first = step o p l m call x y a b h.0 k.0 alike h.1 h.2 h.3 k.1 k.2 k.3 in
    let later = many o p l m calls xs ys h.0 k.0 new_a new_b first.2 h.4 k.4 in
    record {
      same = λ i. first.0 i ∷ later.same i;
      fine = All-cons IsFine x xs first.1 later.fine;
      alike = later.alike;
    }

pub alike_stores : AlikeStoresAnswerAlike
alike_stores layout other a b alike o p calls answers others new_a new_b h k =
    many o p layout other calls answers others a b new_a new_b alike
    (each_goes_well o layout calls answers a new_a h) (each_goes_well p other calls others b new_b k)

-- 4. Stores on blank disks

opened_empty : (layout : Layout) (node size : ℕ) (s : Seen) → KeepsNothingInZeros layout → IsOpenedBlank layout node size s
    → s.kept.bodies ≡ map.empty
opened_empty layout node size s nothing o = nothing node size s.kept (sym (ap (layout.map_of node) o.blank) ∙ o.opens.map refl)

opened_alike : (layout other : Layout) (node size other_size : ℕ) (a b : Seen) → KeepsNothingInZeros layout → KeepsNothingInZeros other
    → IsOpenedBlank layout node size a → IsOpenedBlank other node other_size b → AreAlike layout other a b
opened_alike layout other node size other_size a b nothing none x y = record {
  node = x.opens.node_is ∙ sym y.opens.node_is;
  bodies = opened_empty layout node size a nothing x ∙ sym (opened_empty other node other_size b none y);
  works = alike_by a.work b.work Idle Idle x.opens.idle.0 y.opens.idle.0 idle_alike;
  picked = x.opens.idle.1;
  other_picked = y.opens.idle.1;
  left = opened_left layout node a x.opens.node_is (x.opens.stands refl);
  other_left = opened_left other node b y.opens.node_is (y.opens.stands refl);
}

pub blank_stores : StoresAnswerAlike
blank_stores layout other nothing none node size other_size a b x y =
    alike_stores layout other a b (opened_alike layout other node size other_size a b nothing none x y)
