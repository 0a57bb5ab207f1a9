-- What calls that are done leave of the work of a store and of what it keeps, where no change is in doubt.
use Rattle.std.specs.Prelude.{◌≡◌, zero, false, ◌&&◌, is_some, is_ok, List, Option, None, Some, Result, Ok, Err}
use Rattle.std.proofs.Common.{refl, sym, subst, ap, ◌∙◌}
use Rattle.passive_store.specs.declared.store.Pick.{Pick}
use Rattle.passive_store.specs.declared.store.Progress.TheVariants.{Going, Done}
use Rattle.passive_store.specs.declared.store.StoreRefusal.{StoreRefusal}
use Rattle.passive_store.specs.Acts.{DiskCall}
use Rattle.passive_store.specs.Kept.{StoreChange, doubt_in, Kept, Work, Idle, Busy, Unsettled, is_unsettled, worked_on, unsure_in, settled}
use Rattle.passive_store.specs.Kept.{work_settled}
use Rattle.passive_store.specs.Kept.{work_changed, work_unchanged, kept_changed, work_begun, work_advanced, kept_advanced, work_finished}
use Rattle.passive_store.specs.Kept.{kept_finished, bodies_after, SettlesFirst, SettlesAfterMemory}
use Rattle.equal_answers.specs.Alike.{AreAlikeWorks}
use Rattle.equal_answers.proofs.Refused.{IsDone}

-- 1. Two works that are alike

pub left_settled : (w v : Work) → AreAlikeWorks w v → is_unsettled w ≡ false
left_settled Idle Idle h = refl
left_settled (Busy c zero left) (Busy d zero rest) h = refl
left_settled _ _ h = absurd h

pub right_settled : (w v : Work) → AreAlikeWorks w v → is_unsettled v ≡ false
right_settled Idle Idle h = refl
right_settled (Busy c zero left) (Busy d zero rest) h = refl
right_settled _ _ h = absurd h

pub left_sure : (w v : Work) → AreAlikeWorks w v → doubt_in w ≡ None
left_sure Idle Idle h = refl
left_sure (Busy c zero left) (Busy d zero rest) h = refl
left_sure _ _ h = absurd h

pub right_sure : (w v : Work) → AreAlikeWorks w v → doubt_in v ≡ None
right_sure Idle Idle h = refl
right_sure (Busy c zero left) (Busy d zero rest) h = refl
right_sure _ _ h = absurd h

pub same_worked : (w v : Work) → AreAlikeWorks w v → worked_on w ≡ worked_on v
same_worked Idle Idle h = refl
same_worked (Busy c zero left) (Busy d zero rest) h = ap Some h.0
same_worked _ _ h = absurd h

pub same_unsure : (w v : Work) → AreAlikeWorks w v → unsure_in w ≡ unsure_in v
same_unsure Idle Idle h = refl
same_unsure (Busy c zero left) (Busy d zero rest) h = refl
same_unsure _ _ h = absurd h

pub settled_alike : (p q : Option Pick) (w v : Work) → AreAlikeWorks w v → AreAlikeWorks (work_settled p w) (work_settled q v)
settled_alike p q Idle Idle h = tt
settled_alike p q (Busy c zero left) (Busy d zero rest) h = h
settled_alike p q _ _ h = absurd h

pub idle_alike : AreAlikeWorks Idle Idle
idle_alike = tt

pub alike_by : (w v x y : Work) → w ≡ x → v ≡ y → AreAlikeWorks x y → AreAlikeWorks w v
alike_by w v x y e f h = subst (λ u. AreAlikeWorks u v) (sym e) (subst (AreAlikeWorks x) (sym f) h)

pub begun_alike : (c d : StoreChange) (calls others : List DiskCall) (w v : Work) (r q : Result (Unit {0}) StoreRefusal) → IsDone r
    → IsDone q → c.uid ≡ d.uid → c.body ≡ d.body → AreAlikeWorks (work_begun c calls w r) (work_begun d others v q)
begun_alike c d calls others w v (Ok done) (Ok too) h k uid body = (uid, body)
begun_alike c d calls others w v (Err e) q h k uid body = absurd h
begun_alike c d calls others w v r (Err e) h k uid body = absurd k

pub finished_alike : (w v : Work) (r q : Result (Unit {0}) StoreRefusal) → IsDone r → IsDone q → AreAlikeWorks w v
    → AreAlikeWorks (work_finished w r) (work_finished v q)
finished_alike w v (Err e) q h k alike = absurd h
finished_alike w v r (Err e) h k alike = absurd k
finished_alike Idle Idle (Ok done) (Ok too) h k alike = tt
finished_alike (Busy c zero left) (Busy d zero rest) (Ok done) (Ok too) h k alike = tt
finished_alike _ _ (Ok done) (Ok too) h k alike = absurd alike

pub finished_bodies : (w v : Work) (k j : Kept) (r q : Result (Unit {0}) StoreRefusal) → IsDone r → IsDone q → AreAlikeWorks w v
    → k.bodies ≡ j.bodies → (kept_finished w k r).bodies ≡ (kept_finished v j q).bodies
finished_bodies w v k j (Err e) q a b alike same = absurd a
finished_bodies w v k j r (Err e) a b alike same = absurd b
finished_bodies Idle Idle k j (Ok done) (Ok too) a b alike same = same
finished_bodies (Busy c zero left) (Busy d zero rest) k j (Ok done) (Ok too) a b alike same =
    λ i. bodies_after (alike.0 i) (alike.1 i) (same i)
finished_bodies _ _ k j (Ok done) (Ok too) a b alike same = absurd alike

-- 2. What a settling found where nothing was in doubt

pub none_found : (p : Option Pick) → is_some p ≡ false → p ≡ None
none_found None e = refl
none_found (Some pick) e = absurd (cc e)

pub none_after_memory : {T : Type 0} (p : Option Pick) (w : Work) (r : Result T StoreRefusal) → IsDone r → SettlesAfterMemory p w r
    → is_unsettled w ≡ false → p ≡ None
none_after_memory p w (Ok done) h first sure = none_found p (first ∙ sure)
none_after_memory p w (Err e) h first sure = absurd h

pub none_first : {T : Type 0} (p : Option Pick) (w : Work) (r : Result T StoreRefusal) → IsDone r → SettlesFirst p w r
    → is_unsettled w ≡ false → p ≡ None
none_first p w (Ok done) h first sure = none_found p (first ∙ sure)
none_first p w (Err e) h first sure = absurd h

pub none_settled : {T : Type 0} (p : Option Pick) (w : Work) (r : Result T StoreRefusal) → is_some p ≡ (is_ok r && is_unsettled w)
    → is_unsettled w ≡ false → p ≡ None
none_settled p w (Ok done) is sure = none_found p (is ∙ sure)
none_settled p w (Err e) is sure = none_found p is

-- 3. What a call that is done leaves

pub settled_keeps : (p : Option Pick) (w : Work) (k : Kept) → p ≡ None → settled p w k ≡ k
settled_keeps p w k none = ap (λ x. settled x w k) none

pub changed_bodies : {T : Type 0} (p : Option Pick) (c : StoreChange) (w : Work) (k : Kept) (r : Result T StoreRefusal) → p ≡ None
    → IsDone r → (kept_changed p c w k r).bodies ≡ bodies_after c.uid c.body k.bodies
changed_bodies p c w k (Ok done) none h = ap (λ x. bodies_after c.uid c.body (settled x w k).bodies) none
changed_bodies p c w k (Err e) none h = absurd h

pub changed_work : {T : Type 0} (p : Option Pick) (c : StoreChange) (w : Work) (r : Result T StoreRefusal) → IsDone r
    → work_changed p c w r ≡ Idle
changed_work p c w (Ok done) h = refl
changed_work p c w (Err e) h = absurd h

pub unchanged_work : {T : Type 0} (p : Option Pick) (w : Work) (r : Result T StoreRefusal) → IsDone r
    → work_unchanged p w r ≡ work_settled p w
unchanged_work p w (Ok done) h = refl
unchanged_work p w (Err e) h = absurd h

-- 4. The calls of a job

pub last_work : (w : Work) (done : Unit {0}) → work_advanced w (Ok Done) ≡ work_finished w (Ok done)
last_work Idle done = refl
last_work (Busy c made left) done = refl
last_work (Unsettled c synced) done = refl

pub last_kept : (w : Work) (k : Kept) (done : Unit {0}) → kept_advanced w k (Ok Done) ≡ kept_finished w k (Ok done)
last_kept Idle k done = refl
last_kept (Busy c made left) k done = refl
last_kept (Unsettled c synced) k done = refl

pub going_work : (w : Work) (r : Result (Unit {0}) StoreRefusal) → work_finished (work_advanced w (Ok Going)) r ≡ work_finished w r
going_work Idle r = refl
going_work (Busy c made left) (Ok done) = refl
going_work (Busy c made left) (Err e) = refl
going_work (Unsettled c synced) r = refl

pub going_kept : (w : Work) (k : Kept) (r : Result (Unit {0}) StoreRefusal)
    → kept_finished (work_advanced w (Ok Going)) (kept_advanced w k (Ok Going)) r ≡ kept_finished w k r
going_kept Idle k r = refl
going_kept (Busy c made left) k (Ok done) = refl
going_kept (Busy c made left) k (Err e) = refl
going_kept (Unsettled c synced) k r = refl
