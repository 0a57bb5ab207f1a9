-- The settling before an activation.
use Rattle.std.proofs.Common.{◌≡◌, ◌≢◌, ◌⊎◌, inl, inr, ℕ, ◌<◌, ◌≤◌, nat_lt, Bool, true, false, cond, not, ◌&&◌, List, [], ◌∷◌, Option}
use Rattle.std.proofs.Common.{None, Some, Result, Ok, Err, is_some, refl, sym, ap, subst, ◌∙◌, arith}
use Rattle.std.specs.Prelude.{IfSome}
use Rattle.std.proofs.lemmas.Bool.Decides.{nat_tests}
use Rattle.eden_model.specs.Map.{with_item, first}
use Rattle.eden_disk.specs.Told.{Told, EachMoment}
use Rattle.eden_disk.specs.Calls.{End, Fine, AtFault, AtStop}
use Rattle.eden_disk.proofs.Held.{moments_weaker}
use Rattle.eden_disk.specs.Timed.{Timed}
use Rattle.passive_store.specs.Acts.{DiskCall, CallsTold}
use Rattle.passive_store.specs.declared.store.Pick.{Pick}
use Rattle.passive_store.specs.declared.store.Pick.TheVariants as pick
use Rattle.passive_store.specs.declared.store.StoreRefusal.{StoreRefusal}
use Rattle.passive_store.specs.declared.store.StoreRefusal.TheVariants as refusal
use Rattle.passive_store.specs.Kept.{Layout, Kept, Work, Idle, Busy, Unsettled, LeavesKept, StandsThrough, doubt_in, change_in}
use Rattle.passive_store.specs.Kept.{changes_in, is_unsettled, is_synced, IsDiskRefusal, body_at, settled as settled_kept, work_settled}
use Rattle.passive_store.specs.Kept.{settling_of, settling_calls, Ran, IsFresh, unsure_in}
use Rattle.passive_store.specs.Kept.{StoreChange}
use Rattle.capability.specs.declared.Uid.{Uid}
use Rattle.journal.specs.World.{Site, StoreRequest, on_node, on_traffic}
use Rattle.journal.specs.Settling.{epoch_uid, in_doubt, is_working, to_settle, settled, unsynced}
use Rattle.journal.specs.Starts.{start_settled}
use Rattle.journal.specs.Crashes.{crashed}
use Rattle.journal.specs.Standing.{Stands, with_changes}
use Rattle.journal.specs.Sites.{AllUnmade}
use Rattle.checkpoint.specs.Changes.{Facts, facts_in}
use Rattle.checkpoint.specs.Stretch.{Stretch}
use Rattle.checkpoint.specs.Found.{standing_of}
use Rattle.checkpoint.proofs.Found.{kept-moments, kept-left}
use Rattle.checkpoint.specs.StoreStands.{state_of, NodeOnDisk, MapStands, RequestsStand, IsUnderWay, StoreStands}
use Rattle.checkpoint.specs.Turns.{with_clock, RestStands}
use Rattle.passive_store.specs.Seen.{Seen}
use Rattle.checkpoint.specs.Asked.{StandsNow, noted_in}
use Rattle.checkpoint.specs.Starting.{StartsOn, StartsDown, SettlesTo, GoesOn, GoesDown, ReadsTo, FindsTo, StartsNot}
use Rattle.checkpoint.specs.declared.start.Find.TheVariants.{Bytes, Nothing, Fault, Stopped}
use Rattle.checkpoint.proofs.Throughout.{stands-more}
use Rattle.checkpoint.proofs.CallStretches.{some-calls}
use Rattle.checkpoint.proofs.MapStands.{state-is}
use Rattle.checkpoint.proofs.Changed.{picked_kept, map-synced}
use Rattle.checkpoint.proofs.Picks.{picked-back}
use Rattle.checkpoint.proofs.Crashing.{noted-is, fresh-doubt}
use Rattle.checkpoint.proofs.StoreCalls.{SettlesWhole, ReadsOnce}
use Rattle.checkpoint.proofs.Stretches.{stretch-join, no-call}
use Rattle.checkpoint.proofs.Frames.{framed-then, framed-synced, framed-same, doubted-is}
use Rattle.checkpoint.proofs.StoreTurns.{none-more, node-quiet, stands-next, framed-settled, kept-picked, map-crashed, rests}

-- 1. Whether there is a doubt to settle

pub no-pick : (o : Option Pick) → is_some o ≡ false → o ≡ None
no-pick None e = refl
no-pick (Some k) e = absurd (cc e)

unsynced-number : (s : Site) → (unsynced s).number ≡ s.number
unfolding on_node
unsynced-number s = refl

unsynced-layout : (s : Site) → (unsynced s).layout ≡ s.layout
unfolding on_node
unsynced-layout s = refl

unsynced-size : (s : Site) → (unsynced s).node.size ≡ s.node.size
unfolding on_node
unsynced-size s = refl

unsynced-overfull : (s : Site) → (unsynced s).node.overfull ≡ s.node.overfull
unfolding on_node
unsynced-overfull s = refl

unsynced-epoch : (s : Site) → s.node.epoch_doubt ≡ None → (unsynced s).node.epoch_doubt ≡ None
unfolding on_node
unsynced-epoch s is = is

and-false : (b : Bool) → (b && false) ≡ false
and-false true = refl
and-false false = refl

pub unmade-first : (rs : List StoreRequest) → AllUnmade rs → with_item (first rs) (λ (r : StoreRequest). nat_lt 0 r.made) false ≡ false
unmade-first [] all = refl
unmade-first (r ∷ rs) all = let none : r.made ≡ 0 = all.0 in grind (arith, nat_tests, none)

pub to-settle-is : (layout : Layout) (n : ℕ) (s : Site) (requests : List StoreRequest) (x : Seen) → StandsNow layout n s requests x
    → to_settle s ≡ is_unsettled x.work
to-settle-is layout n s requests x h = go x.work refl (doubted-is layout n s x.kept (doubt_in x.work) h.number h.keeps) h.stand
  where
    working : is_working s.node ≡ with_item (first requests) (λ (r : StoreRequest). nat_lt 0 r.made) false
    working = ap (λ l. with_item (first l) (λ (r : StoreRequest). nat_lt 0 r.made) false) h.queue

    go : (w : Work) → x.work ≡ w → in_doubt s.number s.node ≡ is_some (doubt_in x.work) → RequestsStand x.work x.disk.counts.size requests
        → to_settle s ≡ is_unsettled x.work
    go Idle is doubt stand = ap (λ b. b && not (is_working s.node)) (doubt ∙ ap (λ w. is_some (doubt_in w)) is) ∙ sym (ap is_unsettled is)
    go (Busy c made left) is doubt stand =
        let under : IsUnderWay c made left x.disk.counts.size requests = subst (λ w. RequestsStand w x.disk.counts.size requests) is stand
        in
        let works : is_working s.node ≡ true = working ∙ ap (λ o. with_item o (λ (r : StoreRequest). nat_lt 0 r.made) false) under.is_first
        ∙ (let calls : under.request.made ≡ made = under.calls in let some : 1 ≤ made = under.some_made in grind
        (arith, nat_tests, calls, some)) in
        ap (λ b. in_doubt s.number s.node && not b) works ∙ and-false (in_doubt s.number s.node) ∙ sym (ap is_unsettled is)
    go (Unsettled c b) is doubt stand =
        let idle : is_working s.node ≡ false = working
        ∙ unmade-first requests (subst (λ w. RequestsStand w x.disk.counts.size requests) is stand) in
        ap (λ z. z && not (is_working s.node)) (doubt ∙ ap (λ w. is_some (doubt_in w)) is) ∙ ap not idle ∙ sym (ap is_unsettled is)

pub start-settles : (p : Option Pick) (s : Site) → to_settle s ≡ true → start_settled p s ≡ settled p (unsynced s)
start-settles p s is = ap (λ b. cond b (settled p (unsynced s)) s) is

pub start-stays : (p : Option Pick) (s : Site) → to_settle s ≡ false → start_settled p s ≡ s
start-stays p s is = ap (λ b. cond b (settled p (unsynced s)) s) is

-- 2. Several device calls, seen from the node

pub node-calls : (layout : Layout) (n more after_more : ℕ) (s next : Site) (kept later : Kept) (w v : Work) (calls : List DiskCall)
    (old new : Told)
    (before after : ℕ) (end : End)
    → MapStands n s kept (doubt_in w) → MapStands n next later (doubt_in v)
    → Timed before old after new → (after ≡ before → (later ≡ kept) × ((doubt_in w ≡ None) ⊎ (doubt_in v ≡ doubt_in w)))
    → CallsTold calls old new end
    → StandsThrough layout n more kept (changes_in (doubt_in w)) old new → LeavesKept layout n after_more later v new
    → (end ≡ AtStop → (later ≡ kept) × ((doubt_in w ≡ None) ⊎ (doubt_in v ≡ doubt_in w)))
    → NodeOnDisk layout n s.node [] next.node old before new after
node-calls layout n more after_more s next kept later w v calls old new before after end m k timed level told moments stands stopped =
    some-calls (Stands layout n (state_of n s.node)) (Stands layout n (with_changes [] (state_of n s.node)))
    (Stands layout n (state_of n next.node))
    calls old new before after end timed told
    (moments_weaker (Stands layout n (standing_of kept (changes_in (doubt_in w))))
    (Stands layout n (with_changes [] (state_of n s.node))) old new
    (λ image is. stands-more layout n [] (state_of n s.node) image (subst (λ x. Stands layout n x image) (sym here) is))
    (kept-moments layout n more kept (changes_in (doubt_in w)) old new moments))
    (λ image left. subst (λ x. Stands layout n x image) (sym there)
    (kept-left layout n after_more later (changes_in (doubt_in v)) new stands image left))
    (λ stop image is. keeps (stopped stop) image is)
    (λ same image is. keeps (level same) image (stands-more layout n [] (state_of n s.node) image is))
  where
    here : state_of n s.node ≡ standing_of kept (changes_in (doubt_in w))
    here = state-is n s kept (doubt_in w) m

    there : state_of n next.node ≡ standing_of later (changes_in (doubt_in v))
    there = state-is n next later (doubt_in v) k

    keeps : (later ≡ kept) × ((doubt_in w ≡ None) ⊎ (doubt_in v ≡ doubt_in w)) → (image : List ℕ)
        → Stands layout n (with_changes [] (state_of n s.node)) image
        → Stands layout n (state_of n next.node) image
    keeps x image is = subst (λ y. Stands layout n y image) (sym there)
        (subst (λ (y : Kept). Stands layout n (standing_of y (changes_in (doubt_in v))) image) (sym x.0)
        (none-more layout n kept (doubt_in w) (doubt_in v) image x.1 (subst (λ y. Stands layout n (with_changes [] y) image) here is)))

-- 3. The settling of a doubt

settled-queue : (p : Option Pick) (s : Site) → (settled p (unsynced s)).node.requests ≡ s.node.requests
unfolding on_node
settled-queue None s = refl
settled-queue (Some k) s = refl

settled-unsynced : (p : Option Pick) (s : Site) → (settled p (unsynced s)).node.synced ≡ false
unfolding on_node
settled-unsynced None s = refl
settled-unsynced (Some k) s = refl

picked-same : (k : Pick) (c : StoreChange) (b : Bool) (kept : Kept) → settled_kept (Some k) (Unsettled c b) kept ≡ picked_kept k c kept
picked-same pick.Old c b kept = refl
picked-same pick.New c b kept = refl

-- it found its state
settles-ok : {T : Type 0} (layout : Layout) (n : ℕ) (s : Site) (requests : List StoreRequest) (x y : Seen) (c : StoreChange) (b : Bool)
    (k : Pick) (done : T) → StandsNow layout n s requests x → x.work ≡ Unsettled c b → SettlesWhole layout n x y (Ok done) (Some k)
    → StartsOn layout n s requests x.disk.told x.disk.counts.clock (Some k) y
settles-ok layout n s requests x y c b k done h is f = record {
  stands = subst (λ z. StandsNow layout n (with_clock y.disk.counts.clock z) requests y) (sym at)
      (subst (λ size. StoreStands layout n
      (with_clock y.disk.counts.clock next) requests y.work y.kept y.more size y.disk.counts.clock y.disk.told) (sym f.ran.counts.size)
      (subst (λ w. StoreStands layout n
      (with_clock y.disk.counts.clock next) requests w y.kept y.more x.disk.counts.size y.disk.counts.clock y.disk.told) (sym now)
      (stands-next layout n s next requests requests
      (Unsettled c b) Idle x.kept y.kept x.more y.more x.disk.counts.size x.disk.counts.clock y.disk.counts.clock x.disk.told y.disk.told
      here
      (framed-then s (unsynced s) next (framed-synced false s) (framed-settled k (unsynced s) (unsynced-epoch s h.epoch_settled))) keeps
      (settled-queue (Some k) s ∙ h.queue) here.stand here.there (settled-unsynced (Some k) s) tt
      (subst (λ w. LeavesKept layout n y.more y.kept w y.disk.told) now f.stands))));
  disk = subst (λ (z : Site). NodeOnDisk layout n s.node [] z.node x.disk.told x.disk.counts.clock y.disk.told y.disk.counts.clock) (sym at)
      (node-calls layout n x.more y.more s next x.kept y.kept (Unsettled c b) Idle
      (settling_of (Unsettled c b)) x.disk.told y.disk.told x.disk.counts.clock y.disk.counts.clock Fine here.keeps keeps f.timed
      (λ level. absurd (omega (arith, level, rises)))
      (subst (λ w. CallsTold (settling_of w) x.disk.told y.disk.told Fine) is f.order)
      (subst (λ w. StandsThrough layout n x.more x.kept (changes_in (doubt_in w)) x.disk.told y.disk.told) is f.moments)
      (subst (λ w. LeavesKept layout n y.more y.kept w y.disk.told) now f.stands) (λ stop. absurd (cc stop)));
  back = λ image stood. subst (λ w. Stands layout n (with_changes [] w) image) (sym (state-is n s x.kept (Some c) here.keeps))
      (picked-back layout n k c x.kept [] image
      (subst (λ w. Stands layout n (with_changes [] (standing_of w [])) image) (same ∙ picked-same k c b x.kept)
      (stands-more layout n [] (standing_of y.kept []) image
      (subst (λ w. Stands layout n w image) (ap (λ (w : Site). state_of n w.node) at ∙ state-is n next y.kept None keeps) stood))));
}
  where
    next : Site
    next = settled (Some k) (unsynced s)

    at : start_settled (Some k) s ≡ settled (Some k) (unsynced s)
    at = start-settles (Some k) s (to-settle-is layout n s requests x h ∙ ap is_unsettled is)

    here : StoreStands layout n s requests (Unsettled c b) x.kept x.more x.disk.counts.size x.disk.counts.clock x.disk.told
    here = subst (λ w. StoreStands layout n s requests w x.kept x.more x.disk.counts.size x.disk.counts.clock x.disk.told) is h

    now : y.work ≡ Idle
    now = f.work ∙ ap (work_settled (Some k)) is

    same : y.kept ≡ settled_kept (Some k) (Unsettled c b) x.kept
    same = f.kept ∙ ap (λ w. settled_kept (Some k) w x.kept) is

    keeps : MapStands n (settled (Some k) (unsynced s)) y.kept None
    keeps = subst (λ (z : Kept). MapStands n (settled (Some k) (unsynced s)) z None) (sym same)
        (kept-picked layout n k c b (unsynced s) x.kept (unsynced-number s ∙ h.number) (unsynced-layout s ∙ h.its_layout)
        (map-synced n false s x.kept (Some c) here.keeps))

    rises : x.disk.counts.clock < y.disk.counts.clock
    rises = let ran : Ran 2 0 (Ok done) x.disk.counts y.disk.counts =
        subst (λ w. Ran (settling_calls w) 0 (Ok done) x.disk.counts y.disk.counts) is f.ran in omega
        (arith, ran.counts.counted, ran.number, ran.counts.clock)

-- it failed, and begins anew
refused-shown : {T : Type 0} (layout : Layout) (n : ℕ) (x y : Seen) (e : StoreRefusal) (p : Option Pick) (c : StoreChange) (b : Bool)
    → x.work ≡ Unsettled c b → SettlesWhole {T = T} layout n x y (Err e) p → (y.kept ≡ x.kept) × (y.work ≡ Unsettled c false)
refused-shown layout n x y e p c b is f =
    (f.kept ∙ ap (λ o. settled_kept o x.work x.kept) none, f.work ∙ ap (λ o. work_settled o x.work) none ∙ ap (work_settled None) is)
  where
    none : p ≡ None
    none = no-pick p f.found

settles-failed : {T : Type 0} (layout : Layout) (n : ℕ) (s : Site) (requests : List StoreRequest) (x y : Seen) (c : StoreChange) (b : Bool)
    (p : Option Pick) → StandsNow layout n s requests x → x.work ≡ Unsettled c b → SettlesWhole {T = T} layout n x y (Err refusal.Failed) p
    → StartsOn layout n s requests x.disk.told x.disk.counts.clock None y
settles-failed {T = T} layout n s requests x y c b p h is f = record {
  stands = subst (λ z. StandsNow layout n (with_clock y.disk.counts.clock z) requests y) (sym at)
      (subst (λ size. StoreStands layout n
      (with_clock y.disk.counts.clock (unsynced s)) requests y.work y.kept y.more size y.disk.counts.clock y.disk.told)
      (sym f.ran.counts.size)
      (subst (λ w. StoreStands layout n
      (with_clock y.disk.counts.clock (unsynced s)) requests w y.kept y.more x.disk.counts.size y.disk.counts.clock y.disk.told) (sym z.1)
      (stands-next layout n s (unsynced s) requests requests (Unsettled c b)
      (Unsettled c false) x.kept y.kept x.more y.more x.disk.counts.size x.disk.counts.clock y.disk.counts.clock x.disk.told y.disk.told
      here (framed-synced false s) keeps
      (settled-queue None s ∙ h.queue) here.stand here.there (settled-unsynced None s)
      (subst (λ (sh : Kept). IsFresh c sh) (sym z.0) here.fresh)
      (subst (λ w. LeavesKept layout n y.more y.kept w y.disk.told) z.1 f.stands))));
  disk = subst (λ (w : Site). NodeOnDisk layout n s.node [] w.node x.disk.told x.disk.counts.clock y.disk.told y.disk.counts.clock) (sym at)
      (node-calls layout n x.more y.more s (unsynced s) x.kept y.kept (Unsettled c b) (Unsettled c false)
      (settling_of (Unsettled c b)) x.disk.told y.disk.told x.disk.counts.clock y.disk.counts.clock AtFault here.keeps keeps f.timed
      (λ level. (z.0, inr refl))
      (subst (λ w. CallsTold (settling_of w) x.disk.told y.disk.told AtFault) is f.order)
      (subst (λ w. StandsThrough layout n x.more x.kept (changes_in (doubt_in w)) x.disk.told y.disk.told) is f.moments)
      (subst (λ w. LeavesKept layout n y.more y.kept w y.disk.told) z.1 f.stands) (λ stop. absurd (cc stop)));
  back = λ image stood. stands-more layout n [] (state_of n s.node) image (subst (λ w. Stands layout n w image)
      (ap (λ (w : Site). state_of n w.node) at ∙ state-is n (unsynced s) y.kept (Some c) keeps
      ∙ ap (λ (sh : Kept). standing_of sh (c ∷ [])) z.0 ∙ sym (state-is n s x.kept (Some c) here.keeps)) stood);
}
  where
    at : start_settled None s ≡ settled None (unsynced s)
    at = start-settles None s (to-settle-is layout n s requests x h ∙ ap is_unsettled is)

    here : StoreStands layout n s requests (Unsettled c b) x.kept x.more x.disk.counts.size x.disk.counts.clock x.disk.told
    here = subst (λ w. StoreStands layout n s requests w x.kept x.more x.disk.counts.size x.disk.counts.clock x.disk.told) is h

    z : (y.kept ≡ x.kept) × (y.work ≡ Unsettled c false)
    z = refused-shown layout n x y refusal.Failed p c b is f

    keeps : MapStands n (unsynced s) y.kept (Some c)
    keeps = subst (λ (sh : Kept). MapStands n (unsynced s) sh (Some c)) (sym z.0) (map-synced n false s x.kept (Some c) here.keeps)

settles-stopped : {T : Type 0} (layout : Layout) (n : ℕ) (s : Site) (requests : List StoreRequest) (x y : Seen) (c : StoreChange) (b : Bool)
    (p : Option Pick) → StandsNow layout n s requests x → x.work ≡ Unsettled c b → SettlesWhole {T = T} layout n x y (Err refusal.Stopped) p
    → StartsDown layout n s x.disk.told x.disk.counts.clock None y
settles-stopped {T = T} layout n s requests x y c b p h is f = record {
  rests = subst (λ w. RestStands layout n y.more (with_clock y.disk.counts.clock (crashed w))
      (noted_in (doubt_in y.work) y.kept) y.disk.counts.size y.disk.counts.clock y.disk.told) (sym at)
      (subst (λ size. RestStands layout n y.more (with_clock y.disk.counts.clock (crashed (unsynced s)))
      (noted_in (doubt_in y.work) y.kept) size y.disk.counts.clock y.disk.told) (sym f.ran.counts.size)
      (rests layout n y.more (unsynced s) y.kept (Some c)
      (noted_in (doubt_in y.work) y.kept) x.disk.counts.size y.disk.counts.clock y.disk.told
      (unsynced-number s ∙ h.number) (unsynced-layout s ∙ h.its_layout) (unsynced-size s ∙ h.its_size)
      (unsynced-overfull s ∙ h.not_overfull) keeps
      (ap (λ w. noted_in (doubt_in w) y.kept) z.1) (subst (λ (sh : Kept). IsFresh c sh) (sym z.0) here.fresh)
      (subst (λ w. LeavesKept layout n y.more y.kept w y.disk.told) z.1 f.stands)));
  disk = subst (λ (w : Site). NodeOnDisk layout n s.node []
      (crashed w).node x.disk.told x.disk.counts.clock y.disk.told y.disk.counts.clock) (sym at)
      (node-calls layout n x.more y.more s (crashed (unsynced s)) x.kept y.kept (Unsettled c b) (Unsettled c false)
      (settling_of (Unsettled c b)) x.disk.told y.disk.told x.disk.counts.clock y.disk.counts.clock AtStop here.keeps
      (map-crashed n (unsynced s) y.kept (Some c) keeps) f.timed (λ level. (z.0, inr refl))
      (subst (λ w. CallsTold (settling_of w) x.disk.told y.disk.told AtStop) is f.order)
      (subst (λ w. StandsThrough layout n x.more x.kept (changes_in (doubt_in w)) x.disk.told y.disk.told) is f.moments)
      (subst (λ w. LeavesKept layout n y.more y.kept w y.disk.told) z.1 f.stands) (λ stop. (z.0, inr refl)));
}
  where
    at : start_settled None s ≡ settled None (unsynced s)
    at = start-settles None s (to-settle-is layout n s requests x h ∙ ap is_unsettled is)

    here : StoreStands layout n s requests (Unsettled c b) x.kept x.more x.disk.counts.size x.disk.counts.clock x.disk.told
    here = subst (λ w. StoreStands layout n s requests w x.kept x.more x.disk.counts.size x.disk.counts.clock x.disk.told) is h

    z : (y.kept ≡ x.kept) × (y.work ≡ Unsettled c false)
    z = refused-shown layout n x y refusal.Stopped p c b is f

    keeps : MapStands n (unsynced s) y.kept (Some c)
    keeps = subst (λ (sh : Kept). MapStands n (unsynced s) sh (Some c)) (sym z.0) (map-synced n false s x.kept (Some c) here.keeps)

-- 4. Nothing is to settle: no call is made

settles-none : {T : Type 0} (layout : Layout) (n : ℕ) (s : Site) (requests : List StoreRequest) (x y : Seen) (p : Option Pick) (done : T)
    → StandsNow layout n s requests x → is_unsettled x.work ≡ false → SettlesWhole layout n x y (Ok done) p
    → (is_some p ≡ false) × StartsOn layout n s requests x.disk.told x.disk.counts.clock p y
settles-none layout n s requests x y p done h settled_is f = (
  none,
  record {
    stands = subst (λ z. StandsNow layout n (with_clock y.disk.counts.clock z) requests y) (sym at)
        (subst (λ size. StoreStands layout n
        (with_clock y.disk.counts.clock s) requests y.work y.kept y.more size y.disk.counts.clock y.disk.told) (sym f.ran.counts.size)
        (stands-next layout n s s requests requests x.work y.work x.kept y.kept x.more y.more x.disk.counts.size x.disk.counts.clock
        y.disk.counts.clock x.disk.told y.disk.told h (framed-same s)
        (subst (λ w. MapStands n s y.kept (doubt_in w)) (sym work)
        (subst (λ (sh : Kept). MapStands n s sh (doubt_in x.work)) (sym shown) h.keeps)) h.queue
        (subst (λ w. RequestsStand w x.disk.counts.size requests) (sym work) h.stand) h.there (h.synced ∙ sym (ap is_synced work))
        (subst (λ w. IfSome (change_in w) (λ c. IsFresh c y.kept)) (sym work)
        (subst (λ (sh : Kept). IfSome (change_in x.work) (λ c. IsFresh c sh)) (sym shown) h.fresh)) f.stands));
    disk = subst (λ (z : Site). NodeOnDisk layout n s.node [] z.node x.disk.told x.disk.counts.clock y.disk.told y.disk.counts.clock)
        (sym at)
        (subst (λ t. NodeOnDisk layout n s.node [] s.node x.disk.told x.disk.counts.clock t y.disk.counts.clock) (sym told)
        (subst (λ k. NodeOnDisk layout n s.node [] s.node x.disk.told x.disk.counts.clock x.disk.told k) (sym clock)
        (node-quiet layout n x.more s s x.kept x.work x.disk.told x.disk.counts.clock h.keeps h.keeps h.stands)));
    back = λ image stood. stands-more layout n [] (state_of n s.node) image
        (subst (λ (w : Site). Stands layout n (state_of n w.node) image) at stood);
  },
)
  where
    none : is_some p ≡ false
    none = f.found ∙ settled_is

    at : start_settled p s ≡ s
    at = start-stays p s (to-settle-is layout n s requests x h ∙ settled_is)

    same-work : (w : Work) (o : Option Pick) → is_unsettled w ≡ false → work_settled o w ≡ w
    same-work Idle o is = refl
    same-work (Busy c made left) o is = refl
    same-work (Unsettled c b) o is = absurd (cc is)

    work : y.work ≡ x.work
    work = f.work ∙ same-work x.work p settled_is

    shown : y.kept ≡ x.kept
    shown = f.kept ∙ ap (λ o. settled_kept o x.work x.kept) (no-pick p none)

    no-calls : (w : Work) → is_unsettled w ≡ false → CallsTold (settling_of w) x.disk.told y.disk.told Fine → y.disk.told ≡ x.disk.told
    no-calls Idle is told = told
    no-calls (Busy c made left) is told = told
    no-calls (Unsettled c b) is told = absurd (cc is)

    none-made : (w : Work) → is_unsettled w ≡ false → settling_calls w ≡ 0
    none-made Idle is = refl
    none-made (Busy c made left) is = refl
    none-made (Unsettled c b) is = absurd (cc is)

    told : y.disk.told ≡ x.disk.told
    told = no-calls x.work settled_is f.order

    clock : y.disk.counts.clock ≡ x.disk.counts.clock
    clock = omega (arith, none-made x.work settled_is, f.ran.number, f.ran.counts.clock)

-- 5. All ends of a settling

-- where nothing is in doubt no state is found
pub unpicked : (w : Work) (o : Option Pick) → unsure_in w ≡ None → is_some o ≡ is_unsettled w → o ≡ None
unpicked Idle o none is = no-pick o is
unpicked (Busy c made left) o none is = no-pick o is
unpicked (Unsettled c b) o none is = absurd (cc none)

pub settles-to : {T : Type 0} (layout : Layout) (n : ℕ) (s : Site) (requests : List StoreRequest) (x y : Seen) (p : Option Pick) (done : T)
    → StandsNow layout n s requests x → SettlesWhole layout n x y (Ok done) p → SettlesTo layout n s requests x (Ok p) y
settles-to layout n s requests x y p done h f = go x.work refl p f
  where
    go : (w : Work) → x.work ≡ w → (p : Option Pick) → SettlesWhole layout n x y (Ok done) p → (is_some p ≡ to_settle s)
        × StartsOn layout n s requests x.disk.told x.disk.counts.clock p y
    go Idle is p f = let z = settles-none layout n s requests x y p done h
        (ap is_unsettled is) f in (z.0 ∙ sym (to-settle-is layout n s requests x h ∙ ap is_unsettled is), z.1)
    go (Busy c made left) is p f = let z = settles-none layout n s requests x y p done h
        (ap is_unsettled is) f in (z.0 ∙ sym (to-settle-is layout n s requests x h ∙ ap is_unsettled is), z.1)
    go (Unsettled c b) is None f = absurd (let bad : false ≡ true = f.found ∙ ap is_unsettled is in cc bad)
    go (Unsettled c b) is (Some k) f = (
      sym (to-settle-is layout n s requests x h ∙ ap is_unsettled is),
      settles-ok layout n s requests x y c b k done h is f,
    )

pub settles-not : {T : Type 0} (layout : Layout) (n : ℕ) (s : Site) (requests : List StoreRequest) (x y : Seen) (p : Option Pick)
    (e : StoreRefusal) → StandsNow layout n s requests x → SettlesWhole {T = T} layout n x y (Err e) p
    → SettlesTo layout n s requests x (Err e) y
settles-not {T = T} layout n s requests x y p e h f = go x.work refl e f
  where
    settles : (w : Work) → x.work ≡ w → is_unsettled w ≡ true → to_settle s ≡ true
    settles w is u = to-settle-is layout n s requests x h ∙ ap is_unsettled is ∙ u

    go : (w : Work) → x.work ≡ w → (e : StoreRefusal) → SettlesWhole {T = T} layout n x y (Err e) p
        → SettlesTo layout n s requests x (Err e) y
    go Idle is e f = absurd (let bad : false ≡ true = ap is_unsettled (sym is) ∙ f.refused in cc bad)
    go (Busy c made left) is e f = absurd (let bad : false ≡ true = ap is_unsettled (sym is) ∙ f.refused in cc bad)
    go (Unsettled c b) is refusal.Failed f = (settles (Unsettled c b) is refl, settles-failed layout n s requests x y c b p h is f)
    go (Unsettled c b) is refusal.Stopped f = (settles (Unsettled c b) is refl, settles-stopped layout n s requests x y c b p h is f)
    go (Unsettled c b) is refusal.Full f = absurd (elim f.only [ inl bad ↦ cc bad | inr bad ↦ cc bad ])
    go (Unsettled c b) is (refusal.Damaged place) f = absurd (elim f.only [ inl bad ↦ cc bad | inr bad ↦ cc bad ])
    go (Unsettled c b) is refusal.OutOfMemory f = absurd (elim f.only [ inl bad ↦ cc bad | inr bad ↦ cc bad ])

-- 6. The read

pub same-doubt : (w : Work) (o : Option Pick) → is_unsettled w ≡ false → work_settled o w ≡ w
same-doubt Idle o is = refl
same-doubt (Busy c made left) o is = refl
same-doubt (Unsettled c b) o is = absurd (cc is)

pub same-sight : (w : Work) (o : Option Pick) (sh : Kept) → is_unsettled w ≡ false → settled_kept o w sh ≡ sh
same-sight w None sh is = refl
same-sight w (Some pick.Old) sh is = refl
same-sight Idle (Some pick.New) sh is = refl
same-sight (Busy c made left) (Some pick.New) sh is = refl
same-sight (Unsettled c b) (Some pick.New) sh is = absurd (cc is)

read-on : (layout : Layout) (n : ℕ) (t : Site) (requests : List StoreRequest) (x y : Seen) → StandsNow layout n t requests x
    → is_unsettled x.work ≡ false → ReadsOnce layout n x y → GoesOn layout n t requests x y
read-on layout n t requests x y h settled_is r = record {
  stands = subst (λ size. StoreStands layout n
      (with_clock y.disk.counts.clock t) requests y.work y.kept y.more size y.disk.counts.clock y.disk.told) (sym r.size)
      (stands-next layout n t t requests requests x.work y.work x.kept y.kept x.more y.more x.disk.counts.size x.disk.counts.clock
      y.disk.counts.clock x.disk.told y.disk.told h (framed-same t)
      (subst (λ w. MapStands n t y.kept (doubt_in w)) (sym work)
      (subst (λ (sh : Kept). MapStands n t sh (doubt_in x.work)) (sym shown) h.keeps)) h.queue
      (subst (λ w. RequestsStand w x.disk.counts.size requests) (sym work) h.stand) h.there (h.synced ∙ sym (ap is_synced work))
      (subst (λ w. IfSome (change_in w) (λ c. IsFresh c y.kept)) (sym work)
      (subst (λ (sh : Kept). IfSome (change_in x.work) (λ c. IsFresh c sh)) (sym shown) h.fresh)) r.stands);
  disk = some-calls _ _ _ r.calls x.disk.told y.disk.told x.disk.counts.clock y.disk.counts.clock r.ended r.timed r.told
      (subst (λ w. EachMoment (Stands layout n w) x.disk.told y.disk.told) (sym here)
      (kept-moments layout n x.more x.kept (changes_in (doubt_in x.work)) x.disk.told y.disk.told r.moments))
      (λ image left. subst (λ w. Stands layout n w image) (sym here)
      (kept-left layout n y.more x.kept (changes_in (doubt_in x.work)) y.disk.told
      (subst (λ w. LeavesKept layout n y.more x.kept w y.disk.told) work
      (subst (λ sh. LeavesKept layout n y.more sh y.work y.disk.told) shown r.stands)) image left))
      (λ stop image is. is) (λ level image is. is);
}
  where
    work : y.work ≡ x.work
    work = r.work ∙ same-doubt x.work r.found settled_is

    shown : y.kept ≡ x.kept
    shown = r.kept ∙ same-sight x.work r.found x.kept settled_is

    here : state_of n t.node ≡ standing_of x.kept (changes_in (doubt_in x.work))
    here = state-is n t x.kept (doubt_in x.work) h.keeps

read-down : (layout : Layout) (n : ℕ) (t : Site) (requests : List StoreRequest) (x y : Seen) → StandsNow layout n t requests x
    → GoesOn layout n t requests x y → GoesDown layout n t x y
unfolding on_node on_traffic
read-down layout n t requests x y h g = record {
  rests = rests layout n y.more t y.kept (doubt_in y.work)
      (noted_in (doubt_in y.work) y.kept) y.disk.counts.size y.disk.counts.clock y.disk.told g.stands.number g.stands.its_layout
      g.stands.its_size g.stands.not_overfull keeps
      (noted-is (doubt_in y.work) y.kept) (fresh-doubt y.work y.kept g.stands.fresh) g.stands.stands;
  disk = subst (λ w. Stretch (Stands layout n (state_of n t.node)) (Stands layout n (state_of n t.node))
      (Stands layout n w) x.disk.told x.disk.counts.clock y.disk.told y.disk.counts.clock)
      (state-is n t y.kept (doubt_in y.work) keeps
      ∙ sym (state-is n (crashed t) y.kept (doubt_in y.work) (map-crashed n t y.kept (doubt_in y.work) keeps))) g.disk;
}
  where
    k : MapStands n (with_clock y.disk.counts.clock t) y.kept (doubt_in y.work)
    k = g.stands.keeps

    keeps : MapStands n t y.kept (doubt_in y.work)
    keeps = record {
      undamaged = k.undamaged;
      not_untold = k.not_untold;
      ordered = k.ordered;
      facts = k.facts;
      epoch = k.epoch;
      epoch_doubt = k.epoch_doubt;
      ledger = k.ledger;
      wrote = k.wrote;
    }

pub kept-at : (layout : Layout) (n : ℕ) (t : Site) (requests : List StoreRequest) (x : Seen) (u : Uid) → StandsNow layout n t requests x
    → u ≢ epoch_uid n → body_at x.kept u ≡ (facts_in t u).0
kept-at layout n t requests x u h other = sym (ap (λ (f : Facts). f.0) (h.keeps.facts u other))

pub reads-found : (layout : Layout) (n : ℕ) (t : Site) (requests : List StoreRequest) (x y : Seen) (u : Uid) (found : Option (List ℕ))
    → StandsNow layout n t requests x → u ≢ epoch_uid n → is_unsettled x.work ≡ false → ReadsOnce layout n x y → found ≡ body_at y.kept u
    → ReadsTo layout n t requests u x (Ok found) y
reads-found layout n t requests x y u found h other settled_is r is = (
  is ∙ ap (λ sh. body_at sh u) (r.kept ∙ same-sight x.work r.found x.kept settled_is)
      ∙ kept-at layout n t requests x u h other,
  read-on layout n t requests x y h settled_is r,
)

pub reads-not : (layout : Layout) (n : ℕ) (t : Site) (requests : List StoreRequest) (x y : Seen) (u : Uid) (e : StoreRefusal)
    → StandsNow layout n t requests x → u ≢ epoch_uid n → is_unsettled x.work ≡ false → ReadsOnce layout n x y → IsDiskRefusal e
    ⊎ (e ≡ refusal.OutOfMemory)
    → is_some (body_at x.kept u) ≡ true → ReadsTo layout n t requests u x (Err e) y
reads-not layout n t requests x y u refusal.Failed h other settled_is r only held = (
  ap (λ (o : Option (List ℕ)). is_some o) (sym (kept-at layout n t requests x u h other))
      ∙ held,
  read-on layout n t requests x y h settled_is r,
)
reads-not layout n t requests x y u refusal.Stopped h other settled_is r only held = (
  ap (λ (o : Option (List ℕ)). is_some o) (sym (kept-at layout n t requests x u h other))
      ∙ held,
  read-down layout n t requests x y h (read-on layout n t requests x y h settled_is r),
)
reads-not layout n t requests x y u refusal.Full h other settled_is r only held = absurd
    (elim only [ inl a ↦ elim a [ inl bad ↦ cc bad | inr bad ↦ cc bad ] | inr bad ↦ cc bad ])
reads-not layout n t requests x y u (refusal.Damaged place) h other settled_is r only held = absurd
    (elim only [ inl a ↦ elim a [ inl bad ↦ cc bad | inr bad ↦ cc bad ] | inr bad ↦ cc bad ])
reads-not layout n t requests x y u refusal.OutOfMemory h other settled_is r only held = read-on layout n t requests x y h settled_is r

pub reads-none : (layout : Layout) (n : ℕ) (t : Site) (requests : List StoreRequest) (x : Seen) (u : Uid) → StandsNow layout n t requests x
    → u ≢ epoch_uid n → is_some (body_at x.kept u) ≡ false → ReadsTo layout n t requests u x (Ok None) x
reads-none layout n t requests x u h other none = (
  sym (no-body (body_at x.kept u) none) ∙ kept-at layout n t requests x u h other,
  record {
    stands = stands-next layout n t t requests requests x.work x.work x.kept x.kept x.more x.more x.disk.counts.size x.disk.counts.clock
        x.disk.counts.clock x.disk.told x.disk.told h (framed-same t) h.keeps h.queue h.stand h.there h.synced h.fresh h.stands;
    disk = no-call _ _ _ x.disk.told x.disk.told x.disk.counts.clock x.disk.counts.clock refl refl
        (λ image left. subst (λ w. Stands layout n w image) (sym (state-is n t x.kept (doubt_in x.work) h.keeps))
        (kept-left layout n x.more x.kept (changes_in (doubt_in x.work)) x.disk.told h.stands image left)) (λ image is. is);
  },
)
  where
    no-body : (o : Option (List ℕ)) → is_some o ≡ false → o ≡ None
    no-body None e = refl
    no-body (Some b) e = absurd (cc e)

-- 7. Both, one behind the other

joined-on : (layout : Layout) (n : ℕ) (s : Site) (requests : List StoreRequest) (old : Told) (before : ℕ) (p : Option Pick) (x y : Seen)
    → StartsOn layout n s requests old before p x → GoesOn layout n (with_clock x.disk.counts.clock (start_settled p s)) requests x y
    → StartsOn layout n s requests old before p y
unfolding on_node
joined-on layout n s requests old before p x y a b = record {
  stands = b.stands;
  disk = stretch-join (Stands layout n (state_of n s.node)) (Stands layout n (with_changes [] (state_of n s.node))) Q Q Q
      (Stands layout n (with_changes [] (state_of n s.node))) old x.disk.told y.disk.told before x.disk.counts.clock y.disk.counts.clock
      a.disk b.disk (λ image is. is) a.back;
  back = a.back;
}
  where
    Q : List ℕ → Type 0
    Q = Stands layout n (state_of n (start_settled p s).node)

joined-down : (layout : Layout) (n : ℕ) (s : Site) (requests : List StoreRequest) (old : Told) (before : ℕ) (p : Option Pick) (x y : Seen)
    → StartsOn layout n s requests old before p x → GoesDown layout n (with_clock x.disk.counts.clock (start_settled p s)) x y
    → StartsDown layout n s old before p y
unfolding on_node on_traffic
joined-down layout n s requests old before p x y a b = record {
  rests = b.rests;
  disk = stretch-join (Stands layout n (state_of n s.node)) (Stands layout n (with_changes [] (state_of n s.node)))
      (Stands layout n (state_of n (start_settled p s).node)) (Stands layout n (state_of n (start_settled p s).node))
      (Stands layout n (state_of n (crashed (start_settled p s)).node)) (Stands layout n (with_changes [] (state_of n s.node)))
      old x.disk.told y.disk.told before x.disk.counts.clock y.disk.counts.clock a.disk b.disk (λ image is. is) a.back;
}

-- the bytes, or nothing
pub starts-kept : (layout : Layout) (n : ℕ) (s : Site) (requests : List StoreRequest) (u : Uid) (x m y : Seen) (p : Option Pick)
    (bytes : List ℕ) → SettlesTo layout n s requests x (Ok p) m
    → ReadsTo layout n (with_clock m.disk.counts.clock (start_settled p s)) requests u m (Ok (Some bytes)) y
    → FindsTo layout n s requests u x (Bytes bytes) p y
unfolding on_node
starts-kept layout n s requests u x m y p bytes a b =
    (a.0, sym b.0, joined-on layout n s requests x.disk.told x.disk.counts.clock p m y a.1 b.1)

pub starts-gone : (layout : Layout) (n : ℕ) (s : Site) (requests : List StoreRequest) (u : Uid) (x m y : Seen) (p : Option Pick)
    → SettlesTo layout n s requests x (Ok p) m
    → ReadsTo layout n (with_clock m.disk.counts.clock (start_settled p s)) requests u m (Ok None) y
    → FindsTo layout n s requests u x Nothing p y
unfolding on_node
starts-gone layout n s requests u x m y p a b = (a.0, sym b.0, joined-on layout n s requests x.disk.told x.disk.counts.clock p m y a.1 b.1)

-- a fault or a stop, in the settling and in the read
pub starts-unsettled : (layout : Layout) (n : ℕ) (s : Site) (requests : List StoreRequest) (u : Uid) (x y : Seen)
    → SettlesTo layout n s requests x (Err refusal.Failed) y → FindsTo layout n s requests u x Fault None y
starts-unsettled layout n s requests u x y a = (inl (refl, a.0), a.1)

pub starts-stopped : (layout : Layout) (n : ℕ) (s : Site) (requests : List StoreRequest) (u : Uid) (x y : Seen)
    → SettlesTo layout n s requests x (Err refusal.Stopped) y → FindsTo layout n s requests u x Stopped None y
starts-stopped layout n s requests u x y a = (inl (refl, a.0), a.1)

pub starts-unread : (layout : Layout) (n : ℕ) (s : Site) (requests : List StoreRequest) (u : Uid) (x m y : Seen) (p : Option Pick)
    → SettlesTo layout n s requests x (Ok p) m
    → ReadsTo layout n (with_clock m.disk.counts.clock (start_settled p s)) requests u m (Err refusal.Failed) y
    → FindsTo layout n s requests u x Fault p y
unfolding on_node
starts-unread layout n s requests u x m y p a b =
    (inr (a.0, b.0), joined-on layout n s requests x.disk.told x.disk.counts.clock p m y a.1 b.1)

pub starts-stopped-later : (layout : Layout) (n : ℕ) (s : Site) (requests : List StoreRequest) (u : Uid) (x m y : Seen) (p : Option Pick)
    → SettlesTo layout n s requests x (Ok p) m
    → ReadsTo layout n (with_clock m.disk.counts.clock (start_settled p s)) requests u m (Err refusal.Stopped) y
    → FindsTo layout n s requests u x Stopped p y
unfolding on_node
starts-stopped-later layout n s requests u x m y p a b =
    (inr (a.0, b.0), joined-down layout n s requests x.disk.told x.disk.counts.clock p m y a.1 b.1)

-- a read at the node of the store, which is the same
pub read-at : (layout : Layout) (n m : ℕ) (t : Site) (requests : List StoreRequest) (u : Uid) (x : Seen)
    (r : Result (Option (List ℕ)) StoreRefusal) (y : Seen) → m ≡ n → u ≢ epoch_uid n → StandsNow layout n t requests x
    → (u ≢ epoch_uid m → StandsNow layout m t requests x → ReadsTo layout m t requests u x r y) → ReadsTo layout n t requests u x r y
read-at layout n m t requests u x r y same other h f =
    subst (λ k. ReadsTo layout k t requests u x r y) same
    (f (λ e. other (e ∙ ap epoch_uid same)) (subst (λ k. StandsNow layout k t requests x) (sym same) h))

-- no memory for the bytes
pub starts-not : (layout : Layout) (n : ℕ) (s : Site) (requests : List StoreRequest) (u : Uid) (x m y : Seen) (p : Option Pick)
    → SettlesTo layout n s requests x (Ok p) m
    → ReadsTo layout n (with_clock m.disk.counts.clock (start_settled p s)) requests u m (Err refusal.OutOfMemory) y
    → StartsNot layout n s requests x y
unfolding on_node
starts-not layout n s requests u x m y p a b = (p, a.0, joined-on layout n s requests x.disk.told x.disk.counts.clock p m y a.1 b)
