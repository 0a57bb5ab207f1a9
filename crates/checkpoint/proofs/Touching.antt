-- Where a step of a worker and an activation make device calls.
use Rattle.std.proofs.Common.{◌≡◌, ◌≢◌, ℕ, zero, suc, ◌+◌, ◌≤◌, ◌<◌, Bool, true, false, cond, ◌||◌, List, [], ◌∷◌, length, Option, None}
use Rattle.std.proofs.Common.{Some, Result}
use Rattle.std.proofs.Common.{Ok, Err, is_some, refl, sym, ap, subst, ◌∙◌, inl, inr, arith}
use Rattle.std.proofs.Common.{◌⊎◌}
use Rattle.std.specs.Prelude.{◌↔◌, IsTrue, IfErr, OnErr, MatchResult, slice_index_or}
use Rattle.eden_model.specs.Map.{with_item, first}
use Rattle.capability.specs.declared.Uid.{Uid}
use Rattle.eden_disk.specs.Told.{Told}
use Rattle.eden_disk.specs.Calls.{Counts, DeviceCalls, End, Fine, AtFault, AtStop, Due, Obeyed}
use Rattle.eden_disk.proofs.Held.{calls_none, calls_more, obeyed_none, obeyed_more}
use Rattle.passive_store.specs.declared.store.Progress.{Progress}
use Rattle.passive_store.specs.declared.store.StoreRefusal.{StoreRefusal}
use Rattle.passive_store.specs.declared.store.StoreRefusal.TheVariants as refusal
use Rattle.passive_store.specs.Kept.{Layout, Kept, Work, Idle, Busy, Unsettled, IsDiskRefusal, end_of_store, is_busy, is_unsettled}
use Rattle.passive_store.specs.Kept.{is_synced}
use Rattle.passive_store.specs.Kept.{unsure_in}
use Rattle.passive_store.specs.Kept.{doubt_in, body_at, Ran, CallsMade, OpeningMade, settling_calls}
use Rattle.passive_store.specs.Kept.{finds_room as finds_shown_room}
use Rattle.passive_store.specs.Seen.{Seen, DiskSeen, Gets}
use Rattle.passive_store.proofs.Joining.{end_alike}
use Rattle.journal.specs.EjectChange.{kept_of}
use Rattle.journal.specs.World.{Site, StoreRequest}
use Rattle.journal.specs.Settling.{epoch_uid}
use Rattle.journal.specs.Step.{touches_start, touches_store}
use Rattle.journal.specs.Stores.{work_of, makes_call, reads, syncs, is_kept_in, needs_calls}
use Rattle.checkpoint.specs.Found.{change_of}
use Rattle.checkpoint.specs.StoreStands.{StoreStands, MapStands}
use Rattle.checkpoint.specs.StoreCalls.{end_of_refusal}
use Rattle.checkpoint.specs.Asked.{StandsNow, IsNextOf, IsUnderJob, EndsFirst, body_asked, request_of, made_in, requests_of, end_of_step}
use Rattle.checkpoint.specs.Asked.{call_end}
use Rattle.journal.specs.declared.event.BootEnd.{BootEnd}
use Rattle.checkpoint.specs.Calls.{MakesCalls, call_of_refusal, call_of_fall, powered}
use Rattle.checkpoint.specs.Touches.{ReadsByCalls, IsMade, Touches, TouchesOnce, calls_to_start, ObeyedIn, RaisesClock}
use Rattle.checkpoint.specs.declared.worker.Request.{Request}
use Rattle.checkpoint.specs.declared.worker.StoreEnd.{StoreEnd}
use Rattle.checkpoint.specs.declared.worker.StepEnd.{StepEnd}
use Rattle.checkpoint.proofs.Frames.{doubted-is, work-first, work-settles, room-is, kept-in-is, first-full, first-unkept}
use Rattle.checkpoint.proofs.Changed.{kept-change}
use Rattle.checkpoint.proofs.OneCalls.{ended-call, refused-end}
use Rattle.checkpoint.proofs.Starting.{to-settle-is, same-sight}
use Rattle.checkpoint.proofs.WorkerSteps.{head-rest}

-- 1. Device calls, one behind the other

pub one-made : (end : End) → IsMade end 1
one-made Fine = tt
one-made AtFault = omega arith
one-made AtStop = omega arith

pub once-made : (touches : Bool) (before after : Counts) (end : End) → touches ≡ true → DeviceCalls 1 before after end
    → TouchesOnce touches before after end
once-made touches before after end is d = subst (λ b. TouchesOnce b before after end) (sym is)
    (record { refused = one-made end; counts = d })

pub none-made : (touches : Bool) (before after : Counts) (end : End) → touches ≡ false → end ≡ Fine → after ≡ before → IsTrue before.power
    → TouchesOnce touches before after end
none-made touches before after end is fine same power =
    subst (λ b. TouchesOnce b before after end) (sym is) (subst (λ k. TouchesOnce false before after k) (sym fine)
    (record { refused = tt; counts = subst (λ k. DeviceCalls 0 before k Fine) (sym same) (calls_none before power) }))

pub raises-made : (made : ℕ) (before after : Counts) (end : End) → IsMade end made → DeviceCalls made before after end
    → RaisesClock end before.clock after.clock
raises-made made before after Fine some d = tt
raises-made made before after AtFault some d = λ below. omega (arith, below, some, d.clock)
raises-made made before after AtStop some d = λ below. omega (arith, below, some, d.clock)

pub raises-one : (before after : Counts) (end : End) → DeviceCalls 1 before after end → RaisesClock end before.clock after.clock
raises-one before after end d = raises-made 1 before after end (one-made end) d

pub raises-then : (before mid after : ℕ) (end : End) → before ≤ mid → RaisesClock end mid after → RaisesClock end before after
raises-then before mid after Fine h r = tt
raises-then before mid after AtFault h r = λ below. let then : mid < after = r below in omega (arith, h, then)
raises-then before mid after AtStop h r = λ below. let then : mid < after = r below in omega (arith, h, then)

pub clock-more : (made : ℕ) (before after : Counts) (end : End) → DeviceCalls made before after end → before.clock ≤ after.clock
clock-more made before after end d = omega (arith, d.clock)

made-more : (made more : ℕ) (end : End) → IsMade end more → IsMade end (made + more)
made-more made more Fine h = tt
made-more made more AtFault h = omega (arith, h)
made-more made more AtStop h = omega (arith, h)

pub touches-then : (a b c : Bool) (before mid after : Counts) (end : End) → Touches a before mid Fine → Touches b mid after end
    → (a ≡ false → b ≡ c) → Touches (cond a true c) before after end
touches-then true b c before mid after end x y same = record {
  made = x.made + y.made;
  exactly = (λ is. let some : 1 ≤ x.made = x.exactly.0 refl in omega (arith, some), λ some. refl);
  refused = made-more x.made y.made end y.refused;
  counts = calls_more x.made y.made before mid after end x.counts y.counts;
}
touches-then false b c before mid after end x y same = record {
  made = x.made + y.made;
  exactly = (
    λ is. let some : 1 ≤ y.made = y.exactly.0 (same refl ∙ is) in omega (arith, some),
    λ some. sym (same refl) ∙ y.exactly.1 (unmade (x.made) refl some),
  );
  refused = made-more x.made y.made end y.refused;
  counts = calls_more x.made y.made before mid after end x.counts y.counts;
}
  where
    unmade : (made : ℕ) → x.made ≡ made → 1 ≤ x.made + y.made → 1 ≤ y.made
    unmade zero is some = omega (arith, is, some)
    unmade (suc made) is some = absurd (let bad : false ≡ true = x.exactly.1 (omega (arith, is)) in cc bad)

pub touches-refused : (a c : Bool) (before after : Counts) (end : End) → end ≢ Fine → Touches a before after end
    → Touches (cond a true c) before after end
touches-refused true c before after end fails t = t
touches-refused false c before after Fine fails t = absurd (fails refl)
touches-refused false c before after AtFault fails t = absurd (let bad : false ≡ true = t.exactly.1 t.refused in cc bad)
touches-refused false c before after AtStop fails t = absurd (let bad : false ≡ true = t.exactly.1 t.refused in cc bad)

-- 2. The end of a step, by its device call

pub end-refused : (old new : List Request) (how : StoreEnd) (result : StepEnd) (e : StoreRefusal) → how ≡ end_of_refusal e → IsDiskRefusal e
    → EndsFirst old new how result → end_of_step result ≡ end_of_store {T = Progress} (Err e)
end-refused old new how result e is only ends = ended-call old new how result ends ∙ ap call_end is ∙ refused-end e only

pub one-refused-so : (old new : List Request) (how : StoreEnd) (result : StepEnd) (e : StoreRefusal) (before after : Counts)
    → how ≡ end_of_refusal e
    → IsDiskRefusal e → EndsFirst old new how result → DeviceCalls 1 before after (end_of_store {T = Progress} (Err e))
    → DeviceCalls 1 before after (end_of_step result)
one-refused-so old new how result e before after is only ends d =
    subst (λ k. DeviceCalls 1 before after k) (sym (end-refused old new how result e is only ends)) d

pub one-ended-so : (old new : List Request) (how : StoreEnd) (result : StepEnd) (before after : Counts) → call_end how ≡ Fine
    → EndsFirst old new how result → DeviceCalls 1 before after Fine → DeviceCalls 1 before after (end_of_step result)
one-ended-so old new how result before after fine ends d =
    subst (λ k. DeviceCalls 1 before after k) (sym (ended-call old new how result ends ∙ fine)) d

-- of a disk that obeys, by what falls due and the counts
abbrev pub Met : Bool → Due → Due → Counts → Counts → End → Type 0
Met obeys d f before after end = IsTrue obeys → Obeyed d f before after end

pub obeyed-refused : (obeys : Bool) (old new : List Request) (how : StoreEnd) (result : StepEnd) (e : StoreRefusal) (d f : Due)
    (before after : Counts)
    → how ≡ end_of_refusal e
    → IsDiskRefusal e → EndsFirst old new how result → Met obeys d f before after (end_of_store {T = Progress} (Err e))
    → Met obeys d f before after (end_of_step result)
obeyed-refused obeys old new how result e d f before after is only ends o =
    subst (λ k. Met obeys d f before after k) (sym (end-refused old new how result e is only ends)) o

pub obeyed-ended : (obeys : Bool) (old new : List Request) (how : StoreEnd) (result : StepEnd) (d f : Due) (before after : Counts)
    → call_end how ≡ Fine
    → EndsFirst old new how result → Met obeys d f before after Fine → Met obeys d f before after (end_of_step result)
obeyed-ended obeys old new how result d f before after fine ends o =
    subst (λ k. Met obeys d f before after k) (sym (ended-call old new how result ends ∙ fine)) o

pub obeyed-still : (obeys : Bool) (old new : List Request) (how : StoreEnd) (result : StepEnd) (x y : DiskSeen) → call_end how ≡ Fine
    → EndsFirst old new how result → y ≡ x → ObeyedIn obeys x y (end_of_step result)
obeyed-still obeys old new how result x y fine ends same = obeyed-ended obeys old new how result x.due y.due x.counts y.counts fine ends
    (λ does. subst (λ (k : DiskSeen). Obeyed x.due k.due x.counts k.counts Fine) (sym same) (obeyed_none x.due x.counts))

pub raises-ended : (old new : List Request) (how : StoreEnd) (result : StepEnd) (before after : ℕ) → call_end how ≡ Fine
    → EndsFirst old new how result → RaisesClock (end_of_step result) before after
raises-ended old new how result before after fine ends =
    subst (λ k. RaisesClock k before after) (sym (ended-call old new how result ends ∙ fine)) tt

pub obeyed-from : (obeys : Bool) (x m : DiskSeen) (f : Due) (after : Counts) (end : End) → m ≡ x → Met obeys m.due f m.counts after end
    → Met obeys x.due f x.counts after end
obeyed-from obeys x m f after end same o = subst (λ (k : DiskSeen). Met obeys k.due f k.counts after end) same o

-- 3. Where the turn of the store makes a device call

touched-head : (layout : Layout) (n : ℕ) (s : Site) (q : Request) (qs : List Request) (w v : Work) (kept : Kept) (more size clock : ℕ)
    (told : Told) → StoreStands layout n s (requests_of v (q ∷ qs)) w kept more size clock told
    → touches_store s ≡ makes_call (work_of s (request_of (made_in v) q))
touched-head layout n s q qs w v kept more size clock told h =
    ap (λ l. with_item (first l) (λ r. makes_call (work_of s r)) false) h.queue

-- a job goes on, or was begun now
pub touched-job : (layout : Layout) (n : ℕ) (s : Site) (asked : List Request) (x : Seen) (w : Work) (more : ℕ)
    → IsUnderJob layout n s asked x w more → touches_store s ≡ true
touched-job layout n s [] x w more u = absurd u.next
touched-job layout n s (q ∷ qs) x w more u = touched-head layout n s q qs w x.work x.kept more x.disk.counts.size x.disk.counts.clock
    x.disk.told u.stood ∙ go x.work refl u.next
  where
    go : (v : Work) → x.work ≡ v → IsNextOf layout s (requests_of x.work (q ∷ qs)) v w x.kept x.disk.counts.size
        → makes_call (work_of s (request_of (made_in x.work) q)) ≡ true
    go Idle is next = absurd next
    go (Busy c made left) is next = ap makes_call next.at
    go (Unsettled c b) is next = absurd next

-- a doubt is settled
pub touched-settling : (layout : Layout) (n : ℕ) (s : Site) (asked : List Request) (x : Seen) → 1 ≤ length asked
    → is_unsettled x.work ≡ true → StandsNow layout n s (requests_of x.work asked) x → touches_store s ≡ true
touched-settling layout n s [] x some unsettled h = absurd (omega (arith, some))
touched-settling layout n s (q ∷ qs) x some unsettled h = touched-head layout n s q qs x.work x.work x.kept x.more x.disk.counts.size
    x.disk.counts.clock x.disk.told h ∙ go x.work refl
  where
    both : (b : Bool) → makes_call (cond b reads syncs) ≡ true
    both true = refl
    both false = refl

    go : (w : Work) → x.work ≡ w → makes_call (work_of s (request_of (made_in x.work) q)) ≡ true
    go Idle is = absurd (let bad : false ≡ true = ap is_unsettled (sym is) ∙ unsettled in cc bad)
    go (Busy c made left) is = absurd (let bad : false ≡ true = ap is_unsettled (sym is) ∙ unsettled in cc bad)
    go (Unsettled c b) is = ap makes_call (work-settles s (request_of (made_in x.work) q) b (ap made_in is)
        (doubted-is layout n s x.kept (doubt_in x.work) h.number h.keeps ∙ ap (λ w. is_some (doubt_in w)) is)
        (h.synced ∙ ap is_synced is)) ∙ both b

pub unsettled-some : (w : Work) → is_busy w ≡ false → is_some (unsure_in w) ≡ true → is_unsettled w ≡ true
unsettled-some Idle busy is = absurd (cc is)
unsettled-some (Busy c made left) busy is = absurd (cc busy)
unsettled-some (Unsettled c b) busy is = refl

-- a request that has begun nothing, where nothing is in doubt
needs-is : (n : ℕ) (s : Site) (q : Request) (kept : Kept) → q.uid ≢ epoch_uid n → MapStands n s kept None
    → needs_calls s (request_of 0 q) ≡ (is_some (body_asked q.wish) || is_some (body_at kept q.uid))
needs-is n s q kept apart m = go (body_asked q.wish)
  where
    go : (w : Option (List ℕ)) → cond (is_some (kept_of (change_of w))) true (is_kept_in s q.uid)
        ≡ (is_some w || is_some (body_at kept q.uid))
    go (Some bytes) = refl
    go None = kept-in-is n s kept None q.uid apart m

idle-stands : (layout : Layout) (n : ℕ) (s : Site) (asked : List Request) (q : Request) (qs : List Request) (x : Seen) → x.work ≡ Idle
    → asked ≡ q ∷ qs
    → StandsNow layout n s (requests_of x.work asked) x
    → StoreStands layout n s (requests_of Idle (q ∷ qs)) Idle x.kept x.more x.disk.counts.size x.disk.counts.clock x.disk.told
idle-stands layout n s asked q qs x idle is h =
    subst (λ l. StoreStands layout n s (requests_of Idle l) Idle x.kept x.more x.disk.counts.size x.disk.counts.clock x.disk.told) is
    (subst (λ w. StoreStands layout n s (requests_of w asked) w x.kept x.more x.disk.counts.size x.disk.counts.clock x.disk.told) idle h)

pub touched-unkept : (layout : Layout) (n : ℕ) (s : Site) (asked : List Request) (r : Request) (x : Seen) → 1 ≤ length asked
    → r ≡ slice_index_or asked 0 r → x.work ≡ Idle → (is_some (body_asked r.wish) || is_some (body_at x.kept r.uid)) ≡ false
    → StandsNow layout n s (requests_of x.work asked) x → touches_store s ≡ false
touched-unkept layout n s asked r x some at idle none h =
    let z = head-rest asked r some at in
    let here = idle-stands layout n s asked r z.0 x idle z.1 h in
    touched-head layout n s r z.0 Idle Idle x.kept x.more x.disk.counts.size x.disk.counts.clock x.disk.told here
    ∙ ap makes_call (work-first s (request_of 0 r) refl (doubted-is layout n s x.kept None here.number here.keeps)
    ∙ first-unkept s (request_of 0 r)
    (needs-is n s r x.kept (here.keeps.ordered.not_reserved r.uid (here.there.0)) here.keeps ∙ none))

pub touched-full : (layout : Layout) (n : ℕ) (s : Site) (asked : List Request) (r : Request) (x : Seen) → 1 ≤ length asked
    → r ≡ slice_index_or asked 0 r → x.work ≡ Idle → (is_some (body_asked r.wish) || is_some (body_at x.kept r.uid)) ≡ true
    → finds_shown_room layout x.disk.counts.size x.kept r.uid (body_asked r.wish) ≡ false
    → StandsNow layout n s (requests_of x.work asked) x → touches_store s ≡ false
touched-full layout n s asked r x some at idle needs none h =
    let z = head-rest asked r some at in
    let here = idle-stands layout n s asked r z.0 x idle z.1 h in
    touched-head layout n s r z.0 Idle Idle x.kept x.more x.disk.counts.size x.disk.counts.clock x.disk.told here
    ∙ ap makes_call (work-first s (request_of 0 r) refl (doubted-is layout n s x.kept None here.number here.keeps)
    ∙ first-full s (request_of 0 r)
    (needs-is n s r x.kept (here.keeps.ordered.not_reserved r.uid (here.there.0)) here.keeps ∙ needs)
    (room-is layout n x.disk.counts.size s x.kept None r.uid (change_of (body_asked r.wish)) here.number here.its_layout here.its_size
    here.keeps ∙ ap (finds_shown_room layout x.disk.counts.size x.kept r.uid) (kept-change (body_asked r.wish)) ∙ none))

pub none-ended : (touches : Bool) (old new : List Request) (how : StoreEnd) (result : StepEnd) (before after : Counts) → touches ≡ false
    → call_end how ≡ Fine → EndsFirst old new how result → after ≡ before → IsTrue before.power
    → TouchesOnce touches before after (end_of_step result)
none-ended touches old new how result before after is fine ends same power =
    none-made touches before after (end_of_step result) is (ended-call old new how result ends ∙ fine) same power

-- 4. Where an activation makes device calls

pub touched-start : (layout : Layout) (n : ℕ) (s : Site) (requests : List StoreRequest) (x : Seen) (u : Uid) → u ≢ epoch_uid n
    → StandsNow layout n s requests x → touches_start s u ≡ calls_to_start x.work x.kept u
touched-start layout n s requests x u apart h = ap (λ b. cond b true (is_kept_in s u)) (to-settle-is layout n s requests x h)
    ∙ ap (λ b. cond (is_unsettled x.work) true b) (kept-in-is n s x.kept (doubt_in x.work) u apart h.keeps)

exactly-of : (b : Bool) (made : ℕ) → (b ≡ true → 1 ≤ made) → (b ≡ false → made ≡ 0) → IsTrue b ↔ (1 ≤ made)
exactly-of true made some none = (λ is. some refl, λ is. refl)
exactly-of false made some none = (
  λ bad. absurd (let worse : false ≡ true = bad in cc worse),
  λ is. absurd (let zeroed : made ≡ 0 = none refl in omega
      (arith, zeroed, is)),
)

settling-some : (w : Work) → is_unsettled w ≡ true → settling_calls w ≡ 2
settling-some Idle is = absurd (cc is)
settling-some (Busy c made left) is = absurd (cc is)
settling-some (Unsettled c b) is = refl

pub settling-none : (w : Work) → is_unsettled w ≡ false → settling_calls w ≡ 0
settling-none Idle is = refl
settling-none (Busy c made left) is = refl
settling-none (Unsettled c b) is = absurd (cc is)

-- what was refused was made
ran-made : (T : Type 0) (settling calls made : ℕ) (result : Result T StoreRefusal) → CallsMade settling calls result made
    → IsMade (end_of_store result) made
ran-made T settling due made (Ok done) ran = tt
ran-made T settling due made (Err refusal.Failed) ran = ran.0
ran-made T settling due made (Err refusal.Stopped) ran = ran.0
ran-made T settling due made (Err refusal.Full) ran = tt
ran-made T settling due made (Err (refusal.Damaged place)) ran = tt
ran-made T settling due made (Err refusal.OutOfMemory) ran = tt

pub raises-ran : (T : Type 0) (settling calls : ℕ) (result : Result T StoreRefusal) (before after : Counts)
    → Ran settling calls result before after
    → RaisesClock (end_of_store result) before.clock after.clock
raises-ran T settling due result before after ran =
    raises-made ran.made before after (end_of_store result) (ran-made T settling due ran.made result ran.number) ran.counts

-- a settling makes some exactly where there is a doubt
pub settle-touches : (T : Type 0) (w : Work) (result : Result T StoreRefusal) (before after : Counts)
    → Ran (settling_calls w) 0 result before after → IfErr result IsDiskRefusal → OnErr result (IsTrue (is_unsettled w))
    → Touches (is_unsettled w) before after (end_of_store result)
settle-touches T w result before after ran only refused = record {
  made = ran.made;
  exactly = go result ran.number only refused;
  refused = ran-made T (settling_calls w) 0 ran.made result ran.number;
  counts = ran.counts;
}
  where
    go : (r : Result T StoreRefusal) → CallsMade (settling_calls w) 0 r ran.made → IfErr r IsDiskRefusal → OnErr r (IsTrue (is_unsettled w))
        → IsTrue (is_unsettled w) ↔ (1 ≤ ran.made)
    go (Ok done) number one fails = exactly-of (is_unsettled w) ran.made
        (λ is. let two : settling_calls w ≡ 2 = settling-some w is in omega (arith, two, number))
        (λ is. let none : settling_calls w ≡ 0 = settling-none w is in omega (arith, none, number))
    go (Err refusal.Failed) number one fails = (λ is. number.0, λ is. fails)
    go (Err refusal.Stopped) number one fails = (λ is. number.0, λ is. fails)
    go (Err refusal.Full) number one fails = absurd (elim one [ inl bad ↦ cc bad | inr bad ↦ cc bad ])
    go (Err (refusal.Damaged place)) number one fails = absurd (elim one [ inl bad ↦ cc bad | inr bad ↦ cc bad ])
    go (Err refusal.OutOfMemory) number one fails = absurd (elim one [ inl bad ↦ cc bad | inr bad ↦ cc bad ])

-- a read makes some exactly where something is kept
pub read-touches : (tells obeys : Bool) (layout : Layout) (u : Uid) (result : Result (Option (List ℕ)) StoreRefusal) (x y : Seen)
    → IsTrue tells → ReadsByCalls layout → is_unsettled x.work ≡ false → is_some (body_at x.kept u) ≡ true
    → Gets tells obeys layout u result x y → result ≢ Err refusal.OutOfMemory
    → Touches (is_some (body_at x.kept u)) x.disk.counts y.disk.counts (end_of_store result)
read-touches tells obeys layout u result x y so law settled some g found = record {
  made = g.ran.made;
  exactly = (λ is. go result g.only g.ran.number found, λ is. some);
  refused = ran-made (Option (List ℕ)) (settling_calls x.work) g.calls g.ran.made result g.ran.number;
  counts = g.ran.counts;
}
  where
    kept : y.kept ≡ x.kept
    kept = g.kept so ∙ same-sight x.work y.picked x.kept settled

    at-least : (o : Option (List ℕ)) → is_some o ≡ true → 1 ≤ layout.reading_calls o
    at-least None is = absurd (cc is)
    at-least (Some body) is = law body

    called : 1 ≤ g.calls
    called = subst (λ k. 1 ≤ k) (sym (g.by_layout so))
        (subst (λ (k : Kept). 1 ≤ layout.reading_calls (body_at k u)) (sym kept) (at-least (body_at x.kept u) some))

    go : (r : Result (Option (List ℕ)) StoreRefusal) → IfErr r (λ e. IsDiskRefusal e ⊎ (e ≡ refusal.OutOfMemory))
        → CallsMade (settling_calls x.work) g.calls r g.ran.made → r ≢ Err refusal.OutOfMemory → 1 ≤ g.ran.made
    go (Ok body) one number other = omega (arith, called, number)
    go (Err refusal.Failed) one number other = number.0
    go (Err refusal.Stopped) one number other = number.0
    go (Err refusal.Full) one number other =
        absurd (elim one [ inl bad ↦ elim bad [ inl worse ↦ cc worse | inr worse ↦ cc worse ] | inr bad ↦ cc bad ])
    go (Err (refusal.Damaged place)) one number other =
        absurd (elim one [ inl bad ↦ elim bad [ inl worse ↦ cc worse | inr worse ↦ cc worse ] | inr bad ↦ cc bad ])
    go (Err refusal.OutOfMemory) one number other = absurd (other refl)

pub none-touched : (touches : Bool) (before : Counts) → touches ≡ false → IsTrue before.power → Touches touches before before Fine
none-touched touches before is power = record {
  made = 0;
  exactly = exactly-of touches 0 (λ bad. absurd (let worse : false ≡ true = sym is ∙ bad in cc worse)) (λ is. refl);
  refused = tt;
  counts = calls_none before power;
}

-- 5. What was due, in one call behind another

pub obeyed-then : (obeys : Bool) (d f g : Due) (before mid after : Counts) (end : End) → MakesCalls before mid Fine
    → MakesCalls mid after end
    → Met obeys d f before mid Fine → Met obeys f g mid after end → Met obeys d g before after end
obeyed-then obeys d f g before mid after end a b o q = λ does. obeyed_more a.made b.made d f g before mid after end a.counts b.counts
    (o does) (q does)

pub raises-behind : (before mid : Counts) (after : ℕ) (end : End) → MakesCalls before mid Fine → RaisesClock end mid.clock after
    → RaisesClock end before.clock after
raises-behind before mid after end a r = raises-then before.clock mid.clock after end (clock-more a.made before mid Fine a.counts) r

pub obeyed-none : (obeys : Bool) (x y : DiskSeen) (end : End) → y ≡ x → end ≡ Fine → ObeyedIn obeys x y end
obeyed-none obeys x y end same fine = λ does. subst (λ k. Obeyed x.due y.due x.counts y.counts k) (sym fine)
    (subst (λ (k : DiskSeen). Obeyed x.due k.due x.counts k.counts Fine) (sym same) (obeyed_none x.due x.counts))

pub raises-none : (before after : ℕ) (end : End) → end ≡ Fine → RaisesClock end before after
raises-none before after end fine = subst (λ k. RaisesClock k before after) (sym fine) tt

-- the same by another name of the end
pub obeyed-is : (obeys : Bool) (d f : Due) (before after : Counts) (one other : End) → other ≡ one → Met obeys d f before after one
    → Met obeys d f before after other
obeyed-is obeys d f before after one other same o = subst (λ k. Met obeys d f before after k) (sym same) o

pub raises-is : (before after : ℕ) (one other : End) → other ≡ one → RaisesClock one before after → RaisesClock other before after
raises-is before after one other same r = subst (λ k. RaisesClock k before after) (sym same) r

-- a refusal of a call that would have answered something else
refused-as : (T : Type 0) (e why : StoreRefusal) → e ≡ why → call_of_refusal why ≡ end_of_store {T = T} (Err e)
refused-as T e why is = ap call_of_refusal (sym is) ∙ end_alike (Unit {0}) T e

pub obeyed-as : (T : Type 0) (obeys : Bool) (d f : Due) (before after : Counts) (e why : StoreRefusal) → e ≡ why
    → Met obeys d f before after (end_of_store {T = T} (Err e))
    → Met obeys d f before after (call_of_refusal why)
obeyed-as T obeys d f before after e why is o =
    obeyed-is obeys d f before after (end_of_store {T = T} (Err e)) (call_of_refusal why) (refused-as T e why is) o

pub raises-as : (T : Type 0) (before after : ℕ) (e why : StoreRefusal) → e ≡ why → RaisesClock (end_of_store {T = T} (Err e)) before after
    → RaisesClock (call_of_refusal why) before after
raises-as T before after e why is r =
    raises-is before after (end_of_store {T = T} (Err e)) (call_of_refusal why) (refused-as T e why is) r

pub touches-as : (T : Type 0) (touches : Bool) (before after : Counts) (e why : StoreRefusal) → e ≡ why
    → Touches touches before after (end_of_store {T = T} (Err e)) → Touches touches before after (call_of_refusal why)
touches-as T touches before after e why is t = subst (λ k. Touches touches before after k) (sym (refused-as T e why is)) t

abbrev pub refused_as : (T : Type 0) → StoreRefusal → Result T StoreRefusal
refused_as T e = Err e

pub not-memory : (T : Type 0) (e why : StoreRefusal) → e ≡ why → why ≢ refusal.OutOfMemory
    → refused_as T e ≢ refused_as T refusal.OutOfMemory
not-memory T e why is other = λ bad. other (sym is ∙ (let same : e ≡ refusal.OutOfMemory = cc bad in same))

-- an opening
pub opening-made : (S : Type 0) (calls made : ℕ) (result : Result S StoreRefusal) → OpeningMade calls result made
    → IsMade (end_of_store result) made
opening-made S due made (Ok store) number = tt
opening-made S due made (Err refusal.Failed) number = number
opening-made S due made (Err refusal.Stopped) number = number
opening-made S due made (Err refusal.Full) number = tt
opening-made S due made (Err (refusal.Damaged place)) number = tt
opening-made S due made (Err refusal.OutOfMemory) number = tt

-- 6. Boots

pub obeyed-alike : (T U : Type 0) (obeys : Bool) (d f : Due) (before after : Counts) (e : StoreRefusal)
    → Met obeys d f before after (end_of_store {T = T} (Err e))
    → Met obeys d f before after (end_of_store {T = U} (Err e))
obeyed-alike T U obeys d f before after e o =
    obeyed-is obeys d f before after (end_of_store {T = T} (Err e)) (end_of_store {T = U} (Err e)) (end_alike U T e) o

pub raises-alike : (T U : Type 0) (before after : ℕ) (e : StoreRefusal) → RaisesClock (end_of_store {T = T} (Err e)) before after
    → RaisesClock (end_of_store {T = U} (Err e)) before after
raises-alike T U before after e r = raises-is before after (end_of_store {T = T} (Err e)) (end_of_store {T = U} (Err e)) (end_alike U T e) r

pub raises-from : (x m : DiskSeen) (after : ℕ) (end : End) → m ≡ x → RaisesClock end m.counts.clock after
    → RaisesClock end x.counts.clock after
raises-from x m after end same r = subst (λ (k : DiskSeen). RaisesClock end k.counts.clock after) same r

pub obeyed-fell : (obeys : Bool) (d : Due) (before : Counts) (m y : DiskSeen) (how : Option BootEnd) (end : End) → y ≡ m
    → call_of_fall how ≡ end → Met obeys d m.due before m.counts end
    → Met obeys d y.due before y.counts (call_of_fall how)
obeyed-fell obeys d before m y how end same is o =
    subst (λ (k : DiskSeen). Met obeys d k.due before k.counts (call_of_fall how)) (sym same)
    (obeyed-is obeys d m.due before m.counts end (call_of_fall how) is o)

pub raises-fell : (before : ℕ) (m y : DiskSeen) (how : Option BootEnd) (end : End) → y ≡ m → call_of_fall how ≡ end
    → RaisesClock end before m.counts.clock → RaisesClock (call_of_fall how) before y.counts.clock
raises-fell before m y how end same is r =
    subst (λ (k : DiskSeen). RaisesClock (call_of_fall how) before k.counts.clock) (sym same)
    (raises-is before m.counts.clock end (call_of_fall how) is r)

-- a disk that was given power knows what falls due
pub obeyed-restarted : (obeys : Bool) (x r : DiskSeen) (f : Due) (after : Counts) (end : End) → r.due ≡ x.due → r.counts ≡ powered x.counts
    → Met obeys r.due f r.counts after end
    → Met obeys x.due f x.counts after end
obeyed-restarted obeys x r f after end same is o = λ does.
    let one : Obeyed r.due f (powered x.counts) after end = subst (λ k. Obeyed r.due f k after end) is (o does) in
    let two : Obeyed x.due f (powered x.counts) after end = subst (λ k. Obeyed k f (powered x.counts) after end) same one in
    record { kept = two.kept; fell = two.fell }

pub obeyed-booted : (A E : Type 0) (obeys : Bool) (x r m : DiskSeen) (up : A → DiskSeen) (down : E → DiskSeen) (how : E → Option BootEnd)
    (result : Result A E)
    → r.due ≡ x.due → r.counts ≡ powered x.counts → MakesCalls r.counts m.counts Fine → ObeyedIn obeys r m Fine
    → MatchResult result (λ a. MakesCalls m.counts (up a).counts Fine) (λ e. MakesCalls m.counts (down e).counts (call_of_fall (how e)))
    → MatchResult result (λ a. ObeyedIn obeys m (up a) Fine) (λ e. ObeyedIn obeys m (down e) (call_of_fall (how e)))
    → MatchResult result (λ a. ObeyedIn obeys x (up a) Fine) (λ e. ObeyedIn obeys x (down e) (call_of_fall (how e)))
obeyed-booted A E obeys x r m up down how (Ok a) same is first one then two = obeyed-restarted obeys x r (up a).due
    (up a).counts Fine same is
    (obeyed-then obeys r.due m.due (up a).due r.counts m.counts (up a).counts Fine first then one two)
obeyed-booted A E obeys x r m up down how (Err e) same is first one then two = obeyed-restarted obeys x r (down e).due (down e).counts
    (call_of_fall (how e)) same is
    (obeyed-then obeys r.due m.due (down e).due r.counts m.counts (down e).counts (call_of_fall (how e)) first then one two)

pub raises-booted : (x r m after : Counts) (end : End) → r ≡ powered x → MakesCalls r m Fine → RaisesClock end m.clock after.clock
    → RaisesClock end x.clock after.clock
raises-booted x r m after end is first raises =
    subst (λ (k : Counts). RaisesClock end k.clock after.clock) is (raises-behind r m after.clock end first raises)
