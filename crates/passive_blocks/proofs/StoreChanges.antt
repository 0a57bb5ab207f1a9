-- A whole change, made of a settling, a beginning and the calls of its job, by what is seen of each.
use Rattle.std.proofs.Common.{◌≡◌, ℕ, ◌≤◌, Bool, false, IsTrue, List, [], ◌∷◌, ◌++◌, length, sym, ap, subst, ◌∙◌, arith}
use Rattle.std.specs.Prelude.{Some, Result, Ok, Err}
use Rattle.eden_disk.specs.Told.{contents, EachMoment}
use Rattle.eden_disk.proofs.Held.{moments_join, moments_weaker}
use Rattle.passive_store.specs.declared.store.StoreRefusal.{StoreRefusal}
use Rattle.passive_store.specs.Acts.{DiskCall, AllTold, CallsTold}
use Rattle.passive_store.specs.declared.store.StoreRefusal.TheVariants.{Full}
use Rattle.passive_store.specs.Kept.{Kept, StoreChange, Layout, Busy, Stands, Ran, IsAnyOf, HasJob, IsJobOf, settling_of, job_left}
use Rattle.passive_store.specs.Kept.{end_of_store, changes_begun, changes_in, change_in, doubt_in, settled, settling_calls, calls_left}
use Rattle.passive_store.specs.Kept.{work_finished, kept_finished}
use Rattle.passive_store.specs.Kept.{work_changed, kept_changed, is_busy, IsRefusedIn}
use Rattle.passive_store.specs.Seen.{Seen, Asked, Settled, Begins, Finishes, Changes, change_asked}
use Rattle.passive_store.proofs.Joining.{as_before, stands_weaker, stands_fewer, settled_now, calls_told_more}
use Rattle.passive_store.proofs.Changing.{begun_order, moments_more, begun_moments, settled_then, work_then, shown_then, match_disk}
use Rattle.passive_store.proofs.Changing.{done_ran}
use Rattle.passive_store.proofs.Changing.{refused_changes, refused_order, refused_work, refused_more, full_ran, idle_then}

-- A change whose job was begun, once the doubt was settled.
pub begun_changes : (tells obeys : Bool) (layout : Layout) (ask : Asked) (result : Result (Unit {0}) StoreRefusal)
    (old mid began new : Seen)
    → is_busy old.work ≡ false → ((calls : List DiskCall) → IsRefusedIn calls old.refused_at new.refused_at)
    → Settled tells obeys layout (Ok tt) old mid → Begins tells layout ask (Ok tt) mid began → began.more ≤ mid.more
    → Finishes tells obeys layout result began new → Changes tells layout ask result old new
begun_changes tells obeys layout ask result old mid began new idle at s b fewer f =
    let w = old.work in
    let c : StoreChange = change_asked layout ask b.mark in
    let job : List DiskCall = b.calls in
    let busy : began.work ≡ Busy c 0 job = b.work in
    let pk : new.picked ≡ mid.picked = f.picked ∙ b.picked in
    let only = match_disk result f.only in
    let P : List ℕ → Type 0 = Stands layout old.node new.more old.kept (changes_in (doubt_in w) ++ c ∷ []) in
    let less : new.more ≤ old.more = omega (arith, fewer, f.more, s.more) in
    record {
      mark = b.mark;
      calls = job;
      bounded = subst (λ n. IsJobOf n (length job)) s.ran.counts.size b.bounded;
      job = b.job;
      at = at job;
      ran = done_ran w (length job) result old.disk.counts mid.disk.counts new.disk.counts only s.ran
          (subst (λ d. Ran {T = Unit {0}} 0 (length job) result d.counts new.disk.counts) b.disk
          (subst (λ n. Ran {T = Unit {0}} 0 n result began.disk.counts new.disk.counts) (ap calls_left busy) f.ran));
      by_layout = λ so.
          (subst (HasJob layout began.node began.refused_at (contents began.disk.told).now) busy (b.by_layout so)).0
          ∙ ap (λ n. layout.job_calls n began.refused_at (contents began.disk.told).now ask.uid ask.body) (b.node ∙ s.goes.node)
          ∙ ap (λ r. layout.job_calls old.node r (contents began.disk.told).now ask.uid ask.body) (b.at ∙ s.at)
          ∙ ap (λ i. layout.job_calls old.node old.refused_at i ask.uid ask.body)
          (ap (λ d. (contents d.told).now) b.disk ∙ settled_now w old.disk.told mid.disk.told (s.order so));
      order = λ so. begun_order w job result old.disk.told new.disk.told only
          (calls_told_more (settling_of w) job old.disk.told mid.disk.told new.disk.told (end_of_store result) (s.order so)
          (subst (λ d. CallsTold job d.told new.disk.told (end_of_store result)) b.disk
          (subst (λ l. CallsTold l began.disk.told new.disk.told (end_of_store result)) (ap job_left busy) (f.order so))));
      work = subst (λ x. new.work ≡ work_changed x c w result) (sym pk)
          (work_then mid.picked w new.work c job result idle s.picked only (f.work ∙ ap (λ x. work_finished x result) busy));
      kept = λ so. subst (λ x. new.kept ≡ kept_changed x c w old.kept result) (sym pk)
          (shown_then mid.picked w old.kept new.kept mid.kept c job result (s.kept so)
          (f.kept so ∙ ap (λ x. kept_finished x began.kept result) busy
          ∙ ap (λ (x : Kept). kept_finished (Busy c 0 job) x result) (b.kept so)));
      moments = λ so.
          subst (λ x. EachMoment (Stands layout old.node new.more old.kept (changes_begun {T = Unit {0}} x c w result)) old.disk.told
          new.disk.told)
          (sym pk)
          (begun_moments layout old.node new.more old.kept mid.picked w c result old.disk.told new.disk.told only s.picked
          (moments_join P old.disk.told mid.disk.told new.disk.told
          (moments_more layout old.node new.more old.kept (changes_in (doubt_in w)) c old.disk.told mid.disk.told
          (moments_weaker (Stands layout old.node old.more old.kept (changes_in (doubt_in w)))
          (Stands layout old.node new.more old.kept (changes_in (doubt_in w))) old.disk.told mid.disk.told
          (λ image h. stands_fewer layout old.node old.more new.more old.kept (changes_in (doubt_in w)) image less h) (s.moments so)))
          (moments_weaker (Stands layout old.node new.more mid.kept (c ∷ [])) P mid.disk.told new.disk.told
          (λ image h. stands_weaker layout old.node new.more mid.kept old.kept (c ∷ []) (changes_in (doubt_in w) ++ c ∷ []) image
          (λ is. settled_then mid.picked w old.kept c (layout.map_of old.node image) idle s.picked (s.fresh so)
          (subst (λ (x : Kept). IsAnyOf x (c ∷ []) (layout.map_of old.node image)) (s.kept so) is)) h)
          (subst (λ d. EachMoment (Stands layout old.node new.more mid.kept (c ∷ [])) d.told new.disk.told) b.disk
          (as_before layout old.node began.node new.more began.more mid.kept began.kept (Some c) (change_in began.work) began.disk.told
          new.disk.told (b.node ∙ s.goes.node) (sym f.more) (b.kept so) (ap change_in busy) (f.moments so))))));
    }

-- Some device calls that a job of the layout may have: where the disk tells, those that it has.
pub record IsJobAsked (tells : Bool) (layout : Layout) (ask : Asked) (old : Seen) : Type 0 where
  pub calls : List DiskCall
  pub bounded : IsJobOf old.disk.counts.size (length calls)
  pub job : IsTrue (layout.is_job ask.body (length calls))
  pub by_layout : IsTrue tells → calls ≡ layout.job_calls old.node old.refused_at (contents old.disk.told).now ask.uid ask.body

-- The settling of a change was refused.
pub unsettled_changes : (tells obeys : Bool) (layout : Layout) (ask : Asked) (e : StoreRefusal) (old new : Seen)
    → ((calls : List DiskCall) → IsRefusedIn calls old.refused_at new.refused_at) → IsJobAsked tells layout ask old
    → Settled tells obeys layout (Err e) old new → Changes tells layout ask (Err e) old new
unsettled_changes tells obeys layout ask e old new at j s =
    let w = old.work in
    let c : StoreChange = change_asked layout ask 0 in
    record {
      mark = 0;
      calls = j.calls;
      bounded = j.bounded;
      job = j.job;
      ran = refused_more w (length j.calls) e old.disk.counts new.disk.counts s.only s.ran;
      by_layout = j.by_layout;
      at = at j.calls;
      order = λ so. refused_order w j.calls e old.disk.told new.disk.told s.only (s.order so);
      work = refused_work new.picked w new.work c e s.only s.picked s.refused s.work;
      kept = s.kept;
      moments = λ so. subst (λ n. EachMoment (Stands layout old.node n old.kept (changes_begun {T = Unit {0}} new.picked c w (Err e)))
          old.disk.told new.disk.told) (sym s.more)
          (subst (λ cs. EachMoment (Stands layout old.node old.more old.kept cs) old.disk.told new.disk.told)
          (refused_changes new.picked w c e s.only s.picked s.refused) (s.moments so));
    }

-- It had no room.
pub full_changes : (tells obeys : Bool) (layout : Layout) (ask : Asked) (old mid new : Seen)
    → is_busy old.work ≡ false → ((calls : List DiskCall) → IsRefusedIn calls old.refused_at new.refused_at) → IsJobAsked tells layout ask
    old
    → Settled tells obeys layout (Ok tt) old mid → Begins tells layout ask (Err Full) mid new → Changes tells layout ask (Err Full) old new
full_changes tells obeys layout ask old mid new idle at j s b =
    let w = old.work in
    record {
      mark = 0;
      calls = j.calls;
      bounded = j.bounded;
      job = j.job;
      ran = subst (λ d. Ran {T = Unit {0}} (settling_calls w) (length j.calls) (Err Full) old.disk.counts d.counts) (sym b.disk)
          (full_ran w (length j.calls) old.disk.counts mid.disk.counts s.ran);
      by_layout = j.by_layout;
      at = at j.calls;
      order = λ so. subst (λ d. AllTold (settling_of w) old.disk.told d.told) (sym b.disk) (s.order so);
      work = b.work ∙ idle_then mid.picked w mid.work idle s.picked s.work;
      kept = λ so. b.kept so ∙ s.kept so ∙ ap (λ x. settled x w old.kept) (sym b.picked);
      moments = λ so. subst (λ n. EachMoment (Stands layout old.node n old.kept (changes_in (doubt_in w))) old.disk.told new.disk.told)
          (sym (b.same ∙ s.more))
          (subst (λ d. EachMoment (Stands layout old.node old.more old.kept (changes_in (doubt_in w))) old.disk.told d.told) (sym b.disk)
          (s.moments so));
    }
