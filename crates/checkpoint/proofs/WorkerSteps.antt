-- The steps of a worker: what the store says of its call leads to the next site.
use Rattle.std.proofs.Common.{◌≡◌, ◌≢◌, inl, inr, ℕ, zero, suc, ◌+◌, ◌*◌, ◌/◌, ◌<◌, ◌≤◌, nat_le, Bool, true, false, cond, ◌&&◌, ◌||◌}
use Rattle.std.proofs.Common.{List, [], ◌∷◌, length, map, drop, Option, None, Some, Ok, Err, is_some, refl, sym, ap, subst, ◌∙◌, arith}
use Rattle.std.specs.Prelude.{IsTrue, IfSome, slice_index_or}
use Rattle.std.proofs.lemmas.Bool.Decides.{nat_tests}
use Rattle.capability.specs.declared.Uid.{Uid}
use Rattle.eden_disk.specs.Told.{Told}
use Rattle.eden_disk.specs.Calls.{Counts, DeviceCalls, End, Fine, AtFault, AtStop}
use Rattle.passive_store.specs.Acts.{DiskCall, CallTold, settling_call}
use Rattle.passive_store.specs.declared.store.Pick.{Pick}
use Rattle.passive_store.specs.declared.store.Progress.{Progress}
use Rattle.passive_store.specs.declared.store.Progress.TheVariants as progress
use Rattle.passive_store.specs.declared.store.StoreRefusal.{StoreRefusal}
use Rattle.passive_store.specs.declared.store.StoreRefusal.TheVariants as refusal
use Rattle.passive_store.specs.Kept.{Layout, Kept, Work, Idle, Busy, Unsettled, LeavesKept, StandsThrough, doubt_in, changes_in}
use Rattle.passive_store.specs.Kept.{is_synced, is_unsettled, is_busy, progress_at, settled, work_stepped, work_advanced, kept_advanced}
use Rattle.passive_store.specs.Kept.{kept_after, NextTold, calls_left, change_in, unsure_in, body_at, IsFresh, IsJobOf, KeepsTelling}
use Rattle.passive_store.specs.Kept.{finds_room as finds_shown_room}
use Rattle.passive_store.specs.Kept.{StoreChange}
use Rattle.journal.specs.declared.event.RequestEnd.{RequestEnd}
use Rattle.journal.specs.declared.event.RequestEnd.TheVariants as end
use Rattle.journal.specs.EjectChange.{kept_of}
use Rattle.journal.specs.World.{Site, StoreRequest}
use Rattle.journal.specs.Settling.{epoch_uid}
use Rattle.journal.specs.Stores.{calls, work_of, is_kept_in}
use Rattle.checkpoint.specs.Found.{change_of}
use Rattle.eden_model.specs.Map.{first}
use Rattle.checkpoint.specs.declared.worker.Request.{Request}
use Rattle.checkpoint.specs.declared.worker.StoreEnd.{StoreEnd}
use Rattle.checkpoint.specs.declared.worker.StoreEnd.TheVariants as store_end
use Rattle.checkpoint.specs.declared.worker.Settled.{Settled}
use Rattle.checkpoint.specs.declared.worker.StepEnd.{StepEnd}
use Rattle.checkpoint.specs.declared.worker.StepEnd.TheVariants.{Going, Ended}
use Rattle.checkpoint.specs.StoreStands.{StoreStands, Wrote, IsUnderWay, bytes_of_epoch}
use Rattle.checkpoint.specs.Turns.{TurnsStore, TurnsDown, IsNextCall}
use Rattle.passive_store.specs.Seen.{Seen, DiskSeen, Asked, Begins}
use Rattle.checkpoint.specs.Asked.{StandsNow, StepsTo, IsNextOf, IsUnderJob, EndsFirst, body_asked, request_of, made_in, requests_of}
use Rattle.checkpoint.specs.Asked.{noted_in, pick_of}
use Rattle.checkpoint.specs.StoreCalls.{end_of_refusal}
use Rattle.checkpoint.proofs.StoreCalls.{SettlesOnce, AdvancesOnce}
use Rattle.checkpoint.proofs.StoreTurns.{turn-synced, turn-settled, turn-unsettled, turn-settling-stopped, turn-advanced, turn-done}
use Rattle.checkpoint.proofs.StoreTurns.{turn-failed, turn-stopped, turn-unkept, turn-full}
use Rattle.checkpoint.proofs.Frames.{doubted-is, work-first, work-goes-on, room-is, kept-in-is, first-calls, first-full, first-unkept}
use Rattle.checkpoint.proofs.Changed.{kept-change}

-- 1. The same turn, in the words of what the store is now

as-turn : (layout : Layout) (n : ℕ) (s : Site) (q : Request) (how : RequestEnd) (p : Option Pick) (x y : Seen) (w v : Work) (sh : Kept)
    (size : ℕ) (left : List Request) → x.work ≡ w → y.work ≡ v → y.kept ≡ sh → y.disk.counts.size ≡ size
    → TurnsStore layout n s (request_of (made_in w) q) how p x.disk.told x.disk.counts.clock
    (requests_of v left) v sh y.more size y.disk.told y.disk.counts.clock
    → TurnsStore layout n s (request_of (made_in x.work) q) how p x.disk.told x.disk.counts.clock
    (requests_of y.work left) y.work y.kept y.more y.disk.counts.size y.disk.told y.disk.counts.clock
as-turn layout n s q how p x y w v sh size left a b c d t =
    subst (λ k. TurnsStore layout n s (request_of (made_in x.work) q) how p x.disk.told x.disk.counts.clock
    (requests_of y.work left) y.work y.kept y.more k y.disk.told y.disk.counts.clock) (sym d)
    (subst (λ z. TurnsStore layout n s (request_of (made_in x.work) q) how p x.disk.told x.disk.counts.clock
    (requests_of y.work left) y.work z y.more size y.disk.told y.disk.counts.clock) (sym c)
    (subst (λ z. TurnsStore layout n s (request_of (made_in x.work) q) how p x.disk.told x.disk.counts.clock
    (requests_of z left) z sh y.more size y.disk.told y.disk.counts.clock) (sym b)
    (subst (λ z. TurnsStore layout n s (request_of (made_in z) q) how p x.disk.told x.disk.counts.clock
    (requests_of v left) v sh y.more size y.disk.told y.disk.counts.clock) (sym a) t)))

as-down : (layout : Layout) (n : ℕ) (s : Site) (q : Request) (x y : Seen) (w v : Work) (sh : Kept) (size : ℕ) → x.work ≡ w → y.work ≡ v
    → y.kept ≡ sh → y.disk.counts.size ≡ size
    → TurnsDown layout n s (request_of (made_in w) q) x.disk.told x.disk.counts.clock y.more
    (noted_in (doubt_in v) sh) size y.disk.told y.disk.counts.clock
    → TurnsDown layout n s (request_of (made_in x.work) q) x.disk.told x.disk.counts.clock y.more
    (noted_in (doubt_in y.work) y.kept) y.disk.counts.size y.disk.told y.disk.counts.clock
as-down layout n s q x y w v sh size a b c d t =
    subst (λ k. TurnsDown layout n s (request_of (made_in x.work) q) x.disk.told x.disk.counts.clock y.more
    (noted_in (doubt_in y.work) y.kept) k y.disk.told y.disk.counts.clock) (sym d)
    (subst (λ z. TurnsDown layout n s (request_of (made_in x.work) q) x.disk.told x.disk.counts.clock y.more
    (noted_in (doubt_in y.work) z) size y.disk.told y.disk.counts.clock) (sym c)
    (subst (λ z. TurnsDown layout n s (request_of (made_in x.work) q) x.disk.told x.disk.counts.clock y.more
    (noted_in (doubt_in z) sh) size y.disk.told y.disk.counts.clock) (sym b)
    (subst (λ z. TurnsDown layout n s (request_of (made_in z) q) x.disk.told x.disk.counts.clock y.more
    (noted_in (doubt_in v) sh) size y.disk.told y.disk.counts.clock) (sym a) t)))

-- a call that did not fail raises the clock
rises-fine : (before after : Counts) → DeviceCalls 1 before after Fine → before.clock < after.clock
rises-fine before after d = omega (arith, d.clock, d.counted)

rises-stopped : (before after : Counts) → DeviceCalls 1 before after AtStop → before.clock < after.clock
rises-stopped before after d = omega (arith, d.clock, d.counted)

-- the requests behind the first, where no job has begun
waiting : (w : Work) (qs : List Request) → made_in w ≡ 0 → requests_of w qs ≡ map (request_of 0) qs
waiting w [] none = refl
waiting w (q ∷ qs) none = ap (λ k. request_of k q ∷ map (request_of 0) qs) none

-- 2. A settling's call

no-pick : (o : Option Pick) → is_some o ≡ false → o ≡ None
no-pick None e = refl
no-pick (Some k) e = absurd (cc e)

abbrev WithWork : Layout → ℕ → Site → List Request → Seen → Work → Type 0
WithWork layout n s asked x w = StoreStands layout n s
    (requests_of w asked) w x.kept x.more x.disk.counts.size x.disk.counts.clock x.disk.told

pub settle-going : (layout : Layout) (n : ℕ) (s : Site) (q : Request) (qs : List Request) (x y : Seen) (p : Option Pick)
    → StandsNow layout n s (requests_of x.work (q ∷ qs)) x → SettlesOnce layout n x y (Ok progress.Going) p
    → StepsTo layout n s (q ∷ qs) x (q ∷ qs) y (Going None)
settle-going layout n s q qs x y p h f = go x.work refl
  where
    go : (w : Work) → x.work ≡ w → TurnsStore layout n s (request_of (made_in x.work) q) end.Part None x.disk.told x.disk.counts.clock
        (requests_of y.work (q ∷ qs)) y.work y.kept y.more y.disk.counts.size y.disk.told y.disk.counts.clock
    go Idle is = absurd (let bad : false ≡ true = ap is_unsettled (sym is) ∙ f.unsettled in cc bad)
    go (Busy c made left) is = absurd (let bad : false ≡ true = ap is_unsettled (sym is) ∙ f.unsettled in cc bad)
    go (Unsettled c true) is = absurd (let bad : progress.Going ≡ progress.Done = f.last ∙ ap (λ w. progress_at (is_synced w)) is in cc bad)
    go (Unsettled c false) is =
        let here : WithWork layout n s (q ∷ qs) x (Unsettled c false) = subst (WithWork layout n s (q ∷ qs) x) is h in
        let none : p ≡ None = no-pick p (f.found ∙ ap (λ w. true && is_synced w) is) in
        let same : y.kept ≡ x.kept = f.kept ∙ ap (λ o. settled o x.work x.kept) none in
        let now : y.work ≡ Unsettled c true = f.work ∙ ap (λ w. work_stepped w (Ok progress.Going)) is in
        as-turn layout n s q end.Part None x y (Unsettled c false) (Unsettled c true) x.kept x.disk.counts.size
        (q ∷ qs) is now same f.counts.size
        (turn-synced layout n s (request_of 0 q)
        (map (request_of 0) qs) c x.kept x.more y.more x.disk.counts.size x.disk.counts.clock y.disk.counts.clock x.disk.told y.disk.told
        here f.timed (rises-fine x.disk.counts y.disk.counts f.counts)
        (subst (λ w. CallTold (settling_call (is_synced w)) y.disk.counts.clock x.disk.told y.disk.told Fine) is f.told)
        (subst (λ w. StandsThrough layout n x.more x.kept (changes_in (doubt_in w)) x.disk.told y.disk.told) is f.moments)
        (subst (λ sh. LeavesKept layout n y.more sh (Unsettled c true) y.disk.told) same
        (subst (λ w. LeavesKept layout n y.more y.kept w y.disk.told) now f.stands)))

pub settle-done : (layout : Layout) (n : ℕ) (s : Site) (q : Request) (qs : List Request) (x y : Seen) (p : Option Pick)
    → StandsNow layout n s (requests_of x.work (q ∷ qs)) x → SettlesOnce layout n x y (Ok progress.Done) p
    → TurnsStore layout n s (request_of (made_in x.work) q) end.Part p x.disk.told x.disk.counts.clock
    (requests_of y.work (q ∷ qs)) y.work y.kept y.more y.disk.counts.size y.disk.told y.disk.counts.clock
settle-done layout n s q qs x y p h f = go x.work refl p refl
  where
    go : (w : Work) → x.work ≡ w → (o : Option Pick) → p ≡ o
        → TurnsStore layout n s (request_of (made_in x.work) q) end.Part p x.disk.told x.disk.counts.clock
        (requests_of y.work (q ∷ qs)) y.work y.kept y.more y.disk.counts.size y.disk.told y.disk.counts.clock
    go Idle is o eq = absurd (let bad : false ≡ true = ap is_unsettled (sym is) ∙ f.unsettled in cc bad)
    go (Busy c made left) is o eq = absurd (let bad : false ≡ true = ap is_unsettled (sym is) ∙ f.unsettled in cc bad)
    go (Unsettled c false) is o eq = absurd (let bad : progress.Done ≡ progress.Going = f.last
        ∙ ap (λ w. progress_at (is_synced w)) is in cc bad)
    go (Unsettled c true) is None eq = absurd
        (let bad : false ≡ true = ap (λ (z : Option Pick). is_some z) (sym eq) ∙ f.found ∙ ap (λ w. true && is_synced w) is in cc bad)
    go (Unsettled c true) is (Some k) eq =
        let here : WithWork layout n s (q ∷ qs) x (Unsettled c true) = subst (WithWork layout n s (q ∷ qs) x) is h in
        let same : y.kept ≡ settled (Some k) (Unsettled c true) x.kept = f.kept ∙ ap (λ o. settled o x.work x.kept) eq
        ∙ ap (λ w. settled (Some k) w x.kept) is in
        let now : y.work ≡ Idle = f.work ∙ ap (λ w. work_stepped w (Ok progress.Done)) is in
        subst (λ o. TurnsStore layout n s (request_of (made_in x.work) q) end.Part o x.disk.told x.disk.counts.clock
        (requests_of y.work (q ∷ qs)) y.work y.kept y.more y.disk.counts.size y.disk.told y.disk.counts.clock) (sym eq)
        (as-turn layout n s q end.Part (Some k) x y (Unsettled c true) Idle (settled (Some k) (Unsettled c true) x.kept) x.disk.counts.size
        (q ∷ qs) is now same f.counts.size
        (turn-settled layout n s (request_of 0 q)
        (map (request_of 0) qs) c k x.kept x.more y.more x.disk.counts.size x.disk.counts.clock y.disk.counts.clock x.disk.told y.disk.told
        here f.timed (rises-fine x.disk.counts y.disk.counts f.counts)
        (subst (λ w. CallTold (settling_call (is_synced w)) y.disk.counts.clock x.disk.told y.disk.told Fine) is f.told)
        (subst (λ w. StandsThrough layout n x.more x.kept (changes_in (doubt_in w)) x.disk.told y.disk.told) is f.moments)
        (subst (λ sh. LeavesKept layout n y.more sh Idle y.disk.told) same
        (subst (λ w. LeavesKept layout n y.more y.kept w y.disk.told) now f.stands))))

settling-refused : (layout : Layout) (n : ℕ) (x y : Seen) (e : StoreRefusal) (p : Option Pick) (c : StoreChange) (b : Bool)
    → SettlesOnce layout n x y (Err e) p → x.work ≡ Unsettled c b
    → (y.kept ≡ x.kept) × (y.work ≡ Unsettled c false)
settling-refused layout n x y e p c b f is =
    (f.kept ∙ ap (λ o. settled o x.work x.kept) (no-pick p f.found), f.work ∙ ap (λ w. work_stepped w (Err e)) is)

pub settle-refused : (layout : Layout) (n : ℕ) (s : Site) (asked left : List Request) (x y : Seen) (p : Option Pick) (e : StoreRefusal)
    (result : StepEnd) → EndsFirst asked left (end_of_refusal e) result
    → StandsNow layout n s (requests_of x.work asked) x → SettlesOnce layout n x y (Err e) p → StepsTo layout n s asked x left y result
settle-refused layout n s asked left x y p e (Going k) ends h f = absurd ends
settle-refused layout n s asked left x y p e (Ended q how) ends h f = go x.work refl e f how (ends.1)
  where
    go : (w : Work) → x.work ≡ w → (e : StoreRefusal) → SettlesOnce layout n x y (Err e) p → (how : StoreEnd) → how ≡ end_of_refusal e
        → StepsTo layout n s asked x left y (Ended q how)
    go Idle is e f how at = absurd (let bad : false ≡ true = ap is_unsettled (sym is) ∙ f.unsettled in cc bad)
    go (Busy c made l) is e f how at = absurd (let bad : false ≡ true = ap is_unsettled (sym is) ∙ f.unsettled in cc bad)
    go (Unsettled c b) is refusal.Full f how at = absurd (elim f.only [ inl bad ↦ cc bad | inr bad ↦ cc bad ])
    go (Unsettled c b) is (refusal.Damaged place) f how at = absurd (elim f.only [ inl bad ↦ cc bad | inr bad ↦ cc bad ])
    go (Unsettled c b) is refusal.OutOfMemory f how at = absurd (elim f.only [ inl bad ↦ cc bad | inr bad ↦ cc bad ])
    go (Unsettled c b) is refusal.Failed f how at = subst (λ k. StepsTo layout n s asked x left y (Ended q k)) (sym at)
        (let here : StoreStands layout n s (request_of 0 q ∷ map (request_of 0) left)
        (Unsettled c b) x.kept x.more x.disk.counts.size x.disk.counts.clock x.disk.told =
        subst (λ l. WithWork layout n s l x (Unsettled c b)) (ends.0) (subst (WithWork layout n s asked x) is h) in
        let z = settling-refused layout n x y refusal.Failed p c b f is in
        as-turn layout n s q end.Fault None x y (Unsettled c b) (Unsettled c false) x.kept x.disk.counts.size left is z.1 z.0 f.counts.size
        (subst (λ rs. TurnsStore layout n s (request_of 0 q) end.Fault None x.disk.told x.disk.counts.clock rs
        (Unsettled c false) x.kept y.more x.disk.counts.size y.disk.told y.disk.counts.clock) (sym (waiting (Unsettled c false) left refl))
        (turn-unsettled layout n s (request_of 0 q)
        (map (request_of 0) left) c b x.kept x.more y.more x.disk.counts.size x.disk.counts.clock y.disk.counts.clock x.disk.told
        y.disk.told here f.timed
        (subst (λ w. CallTold (settling_call (is_synced w)) y.disk.counts.clock x.disk.told y.disk.told AtFault) is f.told)
        (subst (λ w. StandsThrough layout n x.more x.kept (changes_in (doubt_in w)) x.disk.told y.disk.told) is f.moments)
        (subst (λ sh. LeavesKept layout n y.more sh (Unsettled c false) y.disk.told) z.0
        (subst (λ w. LeavesKept layout n y.more y.kept w y.disk.told) z.1 f.stands)))))
    go (Unsettled c b) is refusal.Stopped f how at = subst (λ k. StepsTo layout n s asked x left y (Ended q k)) (sym at)
        (let here : StoreStands layout n s (request_of 0 q ∷ map (request_of 0) left)
        (Unsettled c b) x.kept x.more x.disk.counts.size x.disk.counts.clock x.disk.told =
        subst (λ l. WithWork layout n s l x (Unsettled c b)) (ends.0) (subst (WithWork layout n s asked x) is h) in
        let z = settling-refused layout n x y refusal.Stopped p c b f is in
        as-down layout n s q x y (Unsettled c b) (Unsettled c false) x.kept x.disk.counts.size is z.1 z.0 f.counts.size
        (turn-settling-stopped layout n s (request_of 0 q)
        (map (request_of 0) left) c b x.kept x.more y.more x.disk.counts.size x.disk.counts.clock y.disk.counts.clock x.disk.told
        y.disk.told (noted_in (Some c) x.kept) here f.timed (rises-stopped x.disk.counts y.disk.counts f.counts)
        (subst (λ w. CallTold (settling_call (is_synced w)) y.disk.counts.clock x.disk.told y.disk.told AtStop) is f.told)
        (subst (λ w. StandsThrough layout n x.more x.kept (changes_in (doubt_in w)) x.disk.told y.disk.told) is f.moments)
        (subst (λ sh. LeavesKept layout n y.more sh (Unsettled c false) y.disk.told) z.0
        (subst (λ w. LeavesKept layout n y.more y.kept w y.disk.told) z.1 f.stands)) refl))

-- the same of any requests, of which there is one
pub settle-goes-on : (layout : Layout) (n : ℕ) (s : Site) (asked : List Request) (x y : Seen) (p : Option Pick) (r : Progress)
    → 1 ≤ length asked → r ≡ progress.Going → StandsNow layout n s (requests_of x.work asked) x → SettlesOnce layout n x y (Ok r) p
    → StepsTo layout n s asked x asked y (Going None)
settle-goes-on layout n s [] x y p r some at h f = absurd (omega (arith, some))
settle-goes-on layout n s (q ∷ qs) x y p r some at h f = settle-going layout n s q qs x y p h
    (subst (λ k. SettlesOnce layout n x y (Ok k) p) at f)

pub settle-picks : (layout : Layout) (n : ℕ) (s : Site) (asked : List Request) (x y : Seen) (p : Option Pick) (o : Option Settled)
    (r : Progress) → 1 ≤ length asked → r ≡ progress.Done → pick_of o ≡ p → StandsNow layout n s (requests_of x.work asked) x
    → SettlesOnce layout n x y (Ok r) p → StepsTo layout n s asked x asked y (Going o)
settle-picks layout n s [] x y p o r some at same h f = absurd (omega (arith, some))
settle-picks layout n s (q ∷ qs) x y p o r some at same h f =
    subst (λ k. TurnsStore layout n s (request_of (made_in x.work) q) end.Part k x.disk.told x.disk.counts.clock
    (requests_of y.work (q ∷ qs)) y.work y.kept y.more y.disk.counts.size y.disk.told y.disk.counts.clock) (sym same)
    (settle-done layout n s q qs x y p h (subst (λ k. SettlesOnce layout n x y (Ok k) p) at f))

-- 3. A job's call

-- the job of a store that is busy
pub busy-advanced : (w v : Work) (r : Progress) → is_busy w ≡ true → r ≡ progress.Going → v ≡ work_advanced w (Ok r) → is_busy v ≡ true
busy-advanced Idle v r busy at is = absurd (cc busy)
busy-advanced (Busy c made left) v r busy at is = ap is_busy (is ∙ ap (λ k. work_advanced (Busy c made left) (Ok k)) at)
busy-advanced (Unsettled c synced) v r busy at is = absurd (cc busy)

pub done-advanced : (w v : Work) (r : Progress) → r ≡ progress.Done → v ≡ work_advanced w (Ok r) → is_busy v ≡ false
done-advanced Idle v r at is = ap is_busy is
done-advanced (Busy c made left) v r at is = ap is_busy (is ∙ ap (λ k. work_advanced (Busy c made left) (Ok k)) at)
done-advanced (Unsettled c synced) v r at is = ap is_busy is

pub refused-advanced : (w v : Work) (e : StoreRefusal) → v ≡ work_advanced w (Err e) → is_busy v ≡ false
refused-advanced Idle v e is = ap is_busy is
refused-advanced (Busy c made left) v e is = ap is_busy is
refused-advanced (Unsettled c synced) v e is = ap is_busy is

first-call : (left : List DiskCall) → 1 ≤ length left → (call : DiskCall) × (rest : List DiskCall) × (left ≡ call ∷ rest)
first-call [] some = absurd (omega (arith, some))
first-call (call ∷ rest) some = (call, rest, refl)

told-first : (w : Work) (c : StoreChange) (made : ℕ) (call : DiskCall) (rest : List DiskCall) (clock : ℕ) (old new : Told) (e : End)
    → w ≡ Busy c made (call ∷ rest) → NextTold w clock old new e → CallTold call clock old new e
told-first w c made call rest clock old new e is told = subst (λ v. NextTold v clock old new e) is told

two-left : (left : List DiskCall) → 1 ≤ length left → progress.Going ≡ progress_at (nat_le (length left) 1) → 2 ≤ length left
two-left left some at = go (nat_le (length left) 1) refl at
  where
    go : (b : Bool) → nat_le (length left) 1 ≡ b → progress.Going ≡ progress_at b → 2 ≤ length left
    go true is e = absurd (cc e)
    go false is e = grind (arith, nat_tests, is)

pub advance-goes-on : (layout : Layout) (n : ℕ) (s : Site) (asked : List Request) (x y : Seen) (w : Work) (more : ℕ) (r : Progress)
    → 1 ≤ length asked → r ≡ progress.Going → IsUnderJob layout n s asked x w more → AdvancesOnce layout n x y (Ok r)
    → StepsTo layout n s asked x asked y (Going None)
advance-goes-on layout n s [] x y w more r some at before f = absurd (omega (arith, some))
advance-goes-on layout n s (q ∷ qs) x y w more r some at before g = go x.work refl
  where
    f : AdvancesOnce layout n x y (Ok progress.Going)
    f = subst (λ k. AdvancesOnce layout n x y (Ok k)) at g

    go : (v : Work) → x.work ≡ v → TurnsStore layout n s (request_of (made_in x.work) q) end.Part None x.disk.told x.disk.counts.clock
        (requests_of y.work (q ∷ qs)) y.work y.kept y.more y.disk.counts.size y.disk.told y.disk.counts.clock
    go Idle is = absurd (let bad : false ≡ true = ap is_busy (sym is) ∙ f.busy in cc bad)
    go (Unsettled c b) is = absurd (let bad : false ≡ true = ap is_busy (sym is) ∙ f.busy in cc bad)
    go (Busy c made left) is =
        let job : IsNextCall layout s (request_of made q)
        (map (request_of 0) qs) c made left w x.kept x.disk.counts.size =
        subst (λ z. IsNextOf layout s (requests_of z (q ∷ qs)) z w x.kept x.disk.counts.size) is before.next in
        let stood : StoreStands layout n s
        (request_of made q ∷ map (request_of 0) qs) w x.kept more x.disk.counts.size x.disk.counts.clock x.disk.told =
        subst (λ z. StoreStands layout n s (requests_of z (q ∷ qs)) w x.kept more x.disk.counts.size x.disk.counts.clock x.disk.told) is
        before.stood in
        let call = first-call left job.some_left in
        let same : y.kept ≡ x.kept = f.kept ∙ ap (λ z. kept_advanced z x.kept (Ok progress.Going)) is in
        let now : y.work ≡ Busy c (made + 1) (drop 1 left) = f.work ∙ ap (λ z. work_advanced z (Ok progress.Going)) is in
        as-turn layout n s q end.Part None x y (Busy c made left) (Busy c (made + 1) (drop 1 left)) x.kept x.disk.counts.size
        (q ∷ qs) is now same f.counts.size
        (turn-advanced layout n s (request_of made q)
        (map (request_of 0) qs) c made left call.0 w x.kept more x.more y.more x.disk.counts.size x.disk.counts.clock y.disk.counts.clock
        x.disk.told y.disk.told stood job
        (two-left left job.some_left (f.last ∙ ap (λ z. progress_at (nat_le (calls_left z) 1)) is)) f.timed
        (rises-fine x.disk.counts y.disk.counts f.counts)
        (told-first x.work c made call.0 call.1 y.disk.counts.clock x.disk.told y.disk.told Fine
        (is ∙ ap (λ l. Busy c made l) call.2) f.told)
        (subst (λ z. StandsThrough layout n x.more x.kept (changes_in (doubt_in z)) x.disk.told y.disk.told) is f.moments)
        (subst (λ sh. LeavesKept layout n y.more sh (Busy c (made + 1) (drop 1 left)) y.disk.told) same
        (subst (λ z. LeavesKept layout n y.more y.kept z y.disk.told) now f.stands)))

pub advance-ends : (layout : Layout) (n : ℕ) (s : Site) (asked rest : List Request) (x y : Seen) (w : Work) (more : ℕ) (r : Progress)
    (result : StepEnd) → EndsFirst asked rest store_end.Done result → r ≡ progress.Done → IsUnderJob layout n s asked x w more
    → AdvancesOnce layout n x y (Ok r)
    → StepsTo layout n s asked x rest y result
advance-ends layout n s asked rest x y w more r (Going p) ends at before g = absurd ends
advance-ends layout n s asked rest x y w more r (Ended q how) ends at before g = subst (λ k. StepsTo layout n s asked x rest y (Ended q k))
    (sym (ends.1)) (go x.work refl)
  where
    f : AdvancesOnce layout n x y (Ok progress.Done)
    f = subst (λ k. AdvancesOnce layout n x y (Ok k)) at g

    go : (v : Work) → x.work ≡ v → TurnsStore layout n s (request_of (made_in x.work) q) end.Done None x.disk.told x.disk.counts.clock
        (requests_of y.work rest) y.work y.kept y.more y.disk.counts.size y.disk.told y.disk.counts.clock
    go Idle is = absurd (let bad : false ≡ true = ap is_busy (sym is) ∙ f.busy in cc bad)
    go (Unsettled c b) is = absurd (let bad : false ≡ true = ap is_busy (sym is) ∙ f.busy in cc bad)
    go (Busy c made left) is =
        let next = subst (λ l. IsNextOf layout s (requests_of x.work l) x.work w x.kept x.disk.counts.size) (ends.0) before.next in
        let all = subst (λ l. StoreStands layout n s
        (requests_of x.work l) w x.kept more x.disk.counts.size x.disk.counts.clock x.disk.told) (ends.0) before.stood in
        let job : IsNextCall layout s (request_of made q)
        (map (request_of 0) rest) c made left w x.kept x.disk.counts.size =
        subst (λ z. IsNextOf layout s (requests_of z (q ∷ rest)) z w x.kept x.disk.counts.size) is next in
        let stood : StoreStands layout n s
        (request_of made q ∷ map (request_of 0) rest) w x.kept more x.disk.counts.size x.disk.counts.clock x.disk.told =
        subst (λ z. StoreStands layout n s (requests_of z (q ∷ rest)) w x.kept more x.disk.counts.size x.disk.counts.clock x.disk.told)
        is all in
        let call = first-call left job.some_left in
        let same : y.kept ≡ kept_after c x.kept = f.kept ∙ ap (λ z. kept_advanced z x.kept (Ok progress.Done)) is in
        let now : y.work ≡ Idle = f.work ∙ ap (λ z. work_advanced z (Ok progress.Done)) is in
        as-turn layout n s q end.Done None x y (Busy c made left) Idle
        (kept_after c x.kept) x.disk.counts.size rest is now same f.counts.size
        (subst (λ rs. TurnsStore layout n s (request_of made q) end.Done None x.disk.told x.disk.counts.clock rs Idle
        (kept_after c x.kept) y.more x.disk.counts.size y.disk.told y.disk.counts.clock) (sym (waiting Idle rest refl))
        (turn-done layout n s (request_of made q)
        (map (request_of 0) rest) c made left call.0 w x.kept more x.more y.more x.disk.counts.size x.disk.counts.clock y.disk.counts.clock
        x.disk.told y.disk.told stood job f.timed (rises-fine x.disk.counts y.disk.counts f.counts)
        (told-first x.work c made call.0 call.1 y.disk.counts.clock x.disk.told y.disk.told Fine
        (is ∙ ap (λ l. Busy c made l) call.2) f.told)
        (subst (λ z. StandsThrough layout n x.more x.kept (changes_in (doubt_in z)) x.disk.told y.disk.told) is f.moments)
        (subst (λ sh. LeavesKept layout n y.more sh Idle y.disk.told) same
        (subst (λ z. LeavesKept layout n y.more y.kept z y.disk.told) now f.stands))))

pub advance-refused : (layout : Layout) (n : ℕ) (s : Site) (asked rest : List Request) (x y : Seen) (w : Work) (more : ℕ) (e : StoreRefusal)
    (result : StepEnd) → EndsFirst asked rest (end_of_refusal e) result → IsUnderJob layout n s asked x w more
    → AdvancesOnce layout n x y (Err e)
    → StepsTo layout n s asked x rest y result
advance-refused layout n s asked rest x y w more e (Going p) ends before f = absurd ends
advance-refused layout n s asked rest x y w more e (Ended q how) ends before f = go x.work refl e f how (ends.1)
  where
    next : IsNextOf layout s (requests_of x.work (q ∷ rest)) x.work w x.kept x.disk.counts.size
    next = subst (λ l. IsNextOf layout s (requests_of x.work l) x.work w x.kept x.disk.counts.size) (ends.0) before.next

    all : StoreStands layout n s (requests_of x.work (q ∷ rest)) w x.kept more x.disk.counts.size x.disk.counts.clock x.disk.told
    all = subst (λ l. StoreStands layout n s (requests_of x.work l) w x.kept more x.disk.counts.size x.disk.counts.clock x.disk.told)
        (ends.0) before.stood

    go : (v : Work) → x.work ≡ v → (e : StoreRefusal) → AdvancesOnce layout n x y (Err e) → (how : StoreEnd) → how ≡ end_of_refusal e
        → StepsTo layout n s asked x rest y (Ended q how)
    go Idle is e f how at = absurd (let bad : false ≡ true = ap is_busy (sym is) ∙ f.busy in cc bad)
    go (Unsettled c b) is e f how at = absurd (let bad : false ≡ true = ap is_busy (sym is) ∙ f.busy in cc bad)
    go (Busy c made left) is refusal.Full f how at = absurd (elim f.only [ inl bad ↦ cc bad | inr bad ↦ cc bad ])
    go (Busy c made left) is (refusal.Damaged place) f how at = absurd (elim f.only [ inl bad ↦ cc bad | inr bad ↦ cc bad ])
    go (Busy c made left) is refusal.OutOfMemory f how at = absurd (elim f.only [ inl bad ↦ cc bad | inr bad ↦ cc bad ])
    go (Busy c made left) is refusal.Failed f how at = subst (λ k. StepsTo layout n s asked x rest y (Ended q k)) (sym at)
        (let job : IsNextCall layout s (request_of made q)
        (map (request_of 0) rest) c made left w x.kept x.disk.counts.size =
        subst (λ z. IsNextOf layout s (requests_of z (q ∷ rest)) z w x.kept x.disk.counts.size) is next in
        let stood : StoreStands layout n s
        (request_of made q ∷ map (request_of 0) rest) w x.kept more x.disk.counts.size x.disk.counts.clock x.disk.told =
        subst (λ z. StoreStands layout n s (requests_of z (q ∷ rest)) w x.kept more x.disk.counts.size x.disk.counts.clock x.disk.told)
        is all in
        let call = first-call left job.some_left in
        let same : y.kept ≡ x.kept = f.kept ∙ ap (λ z. kept_advanced z x.kept (Err refusal.Failed)) is in
        let now : y.work ≡ Unsettled c false = f.work ∙ ap (λ z. work_advanced z (Err refusal.Failed)) is in
        as-turn layout n s q end.Fault None x y (Busy c made left)
        (Unsettled c false) x.kept x.disk.counts.size rest is now same f.counts.size
        (subst (λ rs. TurnsStore layout n s (request_of made q) end.Fault None x.disk.told x.disk.counts.clock rs
        (Unsettled c false) x.kept y.more x.disk.counts.size y.disk.told y.disk.counts.clock) (sym (waiting (Unsettled c false) rest refl))
        (turn-failed layout n s (request_of made q)
        (map (request_of 0) rest) c made left call.0 w x.kept more x.more y.more x.disk.counts.size x.disk.counts.clock y.disk.counts.clock
        x.disk.told y.disk.told stood job f.timed
        (told-first x.work c made call.0 call.1 y.disk.counts.clock x.disk.told y.disk.told AtFault
        (is ∙ ap (λ l. Busy c made l) call.2) f.told)
        (subst (λ z. StandsThrough layout n x.more x.kept (changes_in (doubt_in z)) x.disk.told y.disk.told) is f.moments)
        (subst (λ sh. LeavesKept layout n y.more sh (Unsettled c false) y.disk.told) same
        (subst (λ z. LeavesKept layout n y.more y.kept z y.disk.told) now f.stands)))))
    go (Busy c made left) is refusal.Stopped f how at = subst (λ k. StepsTo layout n s asked x rest y (Ended q k)) (sym at)
        (let job : IsNextCall layout s (request_of made q)
        (map (request_of 0) rest) c made left w x.kept x.disk.counts.size =
        subst (λ z. IsNextOf layout s (requests_of z (q ∷ rest)) z w x.kept x.disk.counts.size) is next in
        let stood : StoreStands layout n s
        (request_of made q ∷ map (request_of 0) rest) w x.kept more x.disk.counts.size x.disk.counts.clock x.disk.told =
        subst (λ z. StoreStands layout n s (requests_of z (q ∷ rest)) w x.kept more x.disk.counts.size x.disk.counts.clock x.disk.told)
        is all in
        let call = first-call left job.some_left in
        let same : y.kept ≡ x.kept = f.kept ∙ ap (λ z. kept_advanced z x.kept (Err refusal.Stopped)) is in
        let now : y.work ≡ Unsettled c false = f.work ∙ ap (λ z. work_advanced z (Err refusal.Stopped)) is in
        as-down layout n s q x y (Busy c made left) (Unsettled c false) x.kept x.disk.counts.size is now same f.counts.size
        (turn-stopped layout n s (request_of made q)
        (map (request_of 0) rest) c made left call.0 w x.kept more x.more y.more x.disk.counts.size x.disk.counts.clock y.disk.counts.clock
        x.disk.told y.disk.told (noted_in (Some c) x.kept) stood job f.timed (rises-stopped x.disk.counts y.disk.counts f.counts)
        (told-first x.work c made call.0 call.1 y.disk.counts.clock x.disk.told y.disk.told AtStop
        (is ∙ ap (λ l. Busy c made l) call.2) f.told)
        (subst (λ z. StandsThrough layout n x.more x.kept (changes_in (doubt_in z)) x.disk.told y.disk.told) is f.moments)
        (subst (λ sh. LeavesKept layout n y.more sh (Unsettled c false) y.disk.told) same
        (subst (λ z. LeavesKept layout n y.more y.kept z y.disk.told) now f.stands)) refl))

-- 4. The job of a turn: one that goes on, and one that is begun

-- what a job that has made a call adds to the ledger
under-wrote : (layout : Layout) (c : StoreChange) (made : ℕ) (left : List DiskCall) (its : Layout) → 1 ≤ made → its ≡ layout
    → Wrote its (doubt_in (Busy c made left))
    → c.wrote ≡ layout.grows c.body
under-wrote layout c zero left its some same w = absurd (omega (arith, some))
under-wrote layout c (suc made) left its some same w = subst (λ (l : Layout). c.wrote ≡ l.grows c.body) same w

same-first : (r t : StoreRequest) → Some r ≡ Some t → t ≡ r
same-first r t e = cc e

-- it goes on
pub goes-on : (layout : Layout) (n : ℕ) (s : Site) (asked : List Request) (x : Seen) → 1 ≤ length asked → is_busy x.work ≡ true
    → StandsNow layout n s (requests_of x.work asked) x → IsUnderJob layout n s asked x x.work x.more
goes-on layout n s [] x some busy h = absurd (omega (arith, some))
goes-on layout n s (q ∷ qs) x some busy h = record { stood = h; next = go x.work refl }
  where
    go : (v : Work) → x.work ≡ v → IsNextOf layout s (requests_of x.work (q ∷ qs)) x.work x.work x.kept x.disk.counts.size
    go Idle is = absurd (let bad : false ≡ true = ap is_busy (sym is) ∙ busy in cc bad)
    go (Unsettled c b) is = absurd (let bad : false ≡ true = ap is_busy (sym is) ∙ busy in cc bad)
    go (Busy c made left) is =
        let here : StoreStands layout n s (request_of made q ∷ map (request_of 0) qs)
        (Busy c made left) x.kept x.more x.disk.counts.size x.disk.counts.clock x.disk.told = subst (WithWork layout n s (q ∷ qs) x) is
        h in
        let under : IsUnderWay c made left x.disk.counts.size (request_of made q ∷ map (request_of 0) qs) = here.stand in
        let r : under.request ≡ request_of made q = same-first (request_of made q) under.request under.is_first in
        subst (λ z. IsNextOf layout s (requests_of z (q ∷ qs)) z z x.kept x.disk.counts.size) (sym is) (record {
          same_doubt = refl;
          uid = ap (λ (t : StoreRequest). t.uid) (sym r) ∙ under.uid;
          change = ap (λ (t : StoreRequest). t.change) (sym r) ∙ under.change;
          wrote = under-wrote layout c made left s.layout under.some_made here.its_layout here.keeps.wrote;
          at = work-goes-on s (request_of made q) under.some_made;
          calls_made = refl;
          some_left = under.some_left;
          bounded = under.bounded;
          others = under.others;
          fresh = here.fresh;
          unsynced = here.synced;
        })

most : (size made : ℕ) → IsJobOf size made → 0 + made ≤ 2 * (size / 1024) + 4
most size made job = omega (arith, job.1.1, job.1.2)

-- it is begun: so it was allowed to be
pub begun-now : (layout : Layout) (n : ℕ) (s : Site) (asked : List Request) (q : Request) (qs : List Request) (old x : Seen) (mark : ℕ)
    (job : List DiskCall)
    → asked ≡ q ∷ qs → old.work ≡ Idle → StandsNow layout n s (requests_of old.work asked) old
    → x.work ≡ Busy (record { uid = q.uid; body = body_asked q.wish; mark = mark; wrote = layout.grows (body_asked q.wish) }) 0 job
    → IsJobOf old.disk.counts.size (length job)
    → x.kept ≡ old.kept → x.disk.counts ≡ old.disk.counts → x.disk.told ≡ old.disk.told
    → IfSome (change_in x.work) (λ c. IsFresh c x.kept)
    → (is_some (body_asked q.wish) || is_some (body_at old.kept q.uid)) ≡ true
    → finds_shown_room layout old.disk.counts.size old.kept q.uid (body_asked q.wish) ≡ true
    → IsUnderJob layout n s asked x Idle old.more
begun-now layout n s asked q qs old x mark job asked_is idle h work bounded shown counts told fresh needs room = record {
  stood = moved (subst (WithWork layout n s (q ∷ qs) old) idle first_of);
  next = subst (λ l. IsNextOf layout s (requests_of x.work l) x.work Idle x.kept x.disk.counts.size) (sym asked_is)
      (subst (λ z. IsNextOf layout s (requests_of z (q ∷ qs)) z Idle x.kept x.disk.counts.size) (sym work) call);
}
  where
    c : StoreChange
    c = record { uid = q.uid; body = body_asked q.wish; mark = mark; wrote = layout.grows (body_asked q.wish) }

    first_of : WithWork layout n s (q ∷ qs) old old.work
    first_of = subst (λ l. WithWork layout n s l old old.work) asked_is h

    at_idle : StoreStands layout n s
        (request_of 0 q ∷ map (request_of 0) qs) Idle old.kept old.more old.disk.counts.size old.disk.counts.clock old.disk.told
    at_idle = subst (WithWork layout n s (q ∷ qs) old) idle first_of

    moved : StoreStands layout n s (request_of 0 q ∷ map (request_of 0) qs) Idle old.kept old.more old.disk.counts.size
        old.disk.counts.clock old.disk.told
        → StoreStands layout n s (requests_of x.work asked) Idle x.kept old.more x.disk.counts.size x.disk.counts.clock x.disk.told
    moved z = subst (λ l. StoreStands layout n s
        (requests_of x.work l) Idle x.kept old.more x.disk.counts.size x.disk.counts.clock x.disk.told) (sym asked_is)
        (subst (λ v. StoreStands layout n s
        (requests_of v (q ∷ qs)) Idle x.kept old.more x.disk.counts.size x.disk.counts.clock x.disk.told) (sym work)
        (subst (λ sh. StoreStands layout n s
        (request_of 0 q ∷ map (request_of 0) qs) Idle sh old.more x.disk.counts.size x.disk.counts.clock x.disk.told) (sym shown)
        (subst (λ (k : Counts). StoreStands layout n s
        (request_of 0 q ∷ map (request_of 0) qs) Idle old.kept old.more k.size k.clock x.disk.told) (sym counts)
        (subst (λ t. StoreStands layout n s
        (request_of 0 q ∷ map (request_of 0) qs) Idle old.kept old.more old.disk.counts.size old.disk.counts.clock t) (sym told) z))))

    reserved : q.uid ≢ epoch_uid n
    reserved = at_idle.keeps.ordered.not_reserved q.uid (at_idle.there.0)

    asks : (w : Option (List ℕ)) → (is_some w || is_some (body_at old.kept q.uid)) ≡ true
        → cond (is_some (kept_of (change_of w))) true (is_kept_in s q.uid) ≡ true
    asks (Some bytes) e = refl
    asks None e = kept-in-is n s old.kept None q.uid reserved at_idle.keeps ∙ e

    starts : work_of s (request_of 0 q) ≡ calls
    starts = work-first s (request_of 0 q) refl (doubted-is layout n s old.kept None at_idle.number at_idle.keeps)
        ∙ first-calls s (request_of 0 q) (asks (body_asked q.wish) needs)
        (room-is layout n old.disk.counts.size s old.kept None q.uid
        (change_of (body_asked q.wish)) at_idle.number at_idle.its_layout at_idle.its_size at_idle.keeps
        ∙ ap (finds_shown_room layout old.disk.counts.size old.kept q.uid) (kept-change (body_asked q.wish)) ∙ room)

    call : IsNextCall layout s (request_of 0 q) (map (request_of 0) qs) c 0 job Idle x.kept x.disk.counts.size
    call = record {
      same_doubt = refl;
      uid = refl;
      change = refl;
      wrote = refl;
      at = starts;
      calls_made = refl;
      some_left = omega (arith, bounded.0);
      bounded = subst (λ k. 0 + length job ≤ 2 * (k / 1024) + 4) (sym (ap (λ (k : Counts). k.size) counts))
          (most old.disk.counts.size (length job) bounded);
      others = at_idle.stand.1;
      fresh = subst (λ z. IfSome (change_in z) (λ d. IsFresh d x.kept)) work fresh;
      unsynced = at_idle.synced;
    }

-- 5. What a worker that has begun nothing finds

pub idle-of : (w : Work) → is_busy w ≡ false → unsure_in w ≡ None → w ≡ Idle
idle-of Idle busy none = refl
idle-of (Busy c made left) busy none = absurd (cc busy)
idle-of (Unsettled c b) busy none = absurd (cc none)

pub unsettled-of : (w : Work) (u : Uid) → is_busy w ≡ false → unsure_in w ≡ Some u → is_unsettled w ≡ true
unsettled-of Idle u busy some = absurd (cc some)
unsettled-of (Busy c made left) u busy some = absurd (cc busy)
unsettled-of (Unsettled c b) u busy some = refl

-- 6. Turns without a device call

pub quiet-done : (layout : Layout) (n : ℕ) (s : Site) (asked rest : List Request) (x : Seen) (result : StepEnd)
    → EndsFirst asked rest store_end.Done result → x.work ≡ Idle → StandsNow layout n s (requests_of x.work asked) x
    → ((q : Request) → asked ≡ q ∷ rest → (is_some (body_asked q.wish) || is_some (body_at x.kept q.uid)) ≡ false)
    → StepsTo layout n s asked x rest x result
quiet-done layout n s asked rest x (Going p) ends idle h none = absurd ends
quiet-done layout n s asked rest x (Ended q how) ends idle h none = subst (λ k. StepsTo layout n s asked x rest x (Ended q k))
    (sym (ends.1))
    (as-turn layout n s q end.Done None x x Idle Idle x.kept x.disk.counts.size rest idle idle refl refl
    (subst (λ rs. TurnsStore layout n s
    (request_of 0 q) end.Done None x.disk.told x.disk.counts.clock rs Idle x.kept x.more x.disk.counts.size x.disk.told x.disk.counts.clock)
    (sym (waiting Idle rest refl))
    (turn-unkept layout n s (request_of 0 q) (map (request_of 0) rest) x.kept x.more x.disk.counts.size x.disk.counts.clock x.disk.told here
    (work-first s (request_of 0 q) refl (doubted-is layout n s x.kept None here.number here.keeps)
    ∙ first-unkept s (request_of 0 q) (unasked (body_asked q.wish) (none q (ends.0)))))))
  where
    here : StoreStands layout n s (request_of 0 q ∷ map (request_of 0) rest) Idle x.kept x.more x.disk.counts.size x.disk.counts.clock
        x.disk.told
    here = subst (λ l. WithWork layout n s l x Idle) (ends.0) (subst (WithWork layout n s asked x) idle h)

    unasked : (w : Option (List ℕ)) → (is_some w || is_some (body_at x.kept q.uid)) ≡ false
        → cond (is_some (kept_of (change_of w))) true (is_kept_in s q.uid) ≡ false
    unasked (Some bytes) e = absurd (cc e)
    unasked None e = kept-in-is n s x.kept None q.uid (here.keeps.ordered.not_reserved q.uid (here.there.0)) here.keeps ∙ e

pub quiet-full : (layout : Layout) (n : ℕ) (s : Site) (asked rest : List Request) (x y : Seen) (result : StepEnd)
    → EndsFirst asked rest store_end.Full result → x.work ≡ Idle → y.work ≡ Idle → StandsNow layout n s (requests_of x.work asked) x
    → y.kept ≡ x.kept → y.disk.counts ≡ x.disk.counts → y.disk.told ≡ x.disk.told → y.more ≡ x.more
    → ((q : Request) → asked ≡ q ∷ rest → (is_some (body_asked q.wish) || is_some (body_at x.kept q.uid)) ≡ true)
    → ((q : Request) → asked ≡ q ∷ rest → finds_shown_room layout x.disk.counts.size x.kept q.uid (body_asked q.wish) ≡ false)
    → StepsTo layout n s asked x rest y result
quiet-full layout n s asked rest x y (Going p) ends idle then_idle h shown counts told same_more needs none = absurd ends
quiet-full layout n s asked rest x y
    (Ended q how) ends idle then_idle h shown counts told same_more needs none = subst (λ k. StepsTo layout n s asked x rest y (Ended q k))
    (sym (ends.1))
    (as-turn layout n s q end.Full None x y Idle Idle x.kept x.disk.counts.size rest idle then_idle shown
    (ap (λ (k : Counts). k.size) counts)
    (subst (λ rs. TurnsStore layout n s
    (request_of 0 q) end.Full None x.disk.told x.disk.counts.clock rs Idle x.kept y.more x.disk.counts.size y.disk.told y.disk.counts.clock)
    (sym (waiting Idle rest refl))
    (subst (λ (k : Counts). TurnsStore layout n s (request_of 0 q) end.Full None x.disk.told x.disk.counts.clock
    (map (request_of 0) rest) Idle x.kept y.more x.disk.counts.size y.disk.told k.clock) (sym counts)
    (subst (λ t. TurnsStore layout n s (request_of 0 q) end.Full None x.disk.told x.disk.counts.clock
    (map (request_of 0) rest) Idle x.kept y.more x.disk.counts.size t x.disk.counts.clock) (sym told)
    (subst (λ m. TurnsStore layout n s (request_of 0 q) end.Full None x.disk.told x.disk.counts.clock
    (map (request_of 0) rest) Idle x.kept m x.disk.counts.size x.disk.told x.disk.counts.clock) (sym same_more)
    (turn-full layout n s (request_of 0 q) (map (request_of 0) rest) x.kept x.more x.disk.counts.size x.disk.counts.clock x.disk.told here
    (work-first s (request_of 0 q) refl (doubted-is layout n s x.kept None here.number here.keeps)
    ∙ first-full s (request_of 0 q) (asks (body_asked q.wish) (needs q (ends.0)))
    (room-is layout n x.disk.counts.size s x.kept None q.uid
    (change_of (body_asked q.wish)) here.number here.its_layout here.its_size here.keeps
    ∙ ap (finds_shown_room layout x.disk.counts.size x.kept q.uid) (kept-change (body_asked q.wish)) ∙ none q (ends.0)))))))))
  where
    here : StoreStands layout n s (request_of 0 q ∷ map (request_of 0) rest) Idle x.kept x.more x.disk.counts.size x.disk.counts.clock
        x.disk.told
    here = subst (λ l. WithWork layout n s l x Idle) (ends.0) (subst (WithWork layout n s asked x) idle h)

    asks : (w : Option (List ℕ)) → (is_some w || is_some (body_at x.kept q.uid)) ≡ true
        → cond (is_some (kept_of (change_of w))) true (is_kept_in s q.uid) ≡ true
    asks (Some bytes) e = refl
    asks None e = kept-in-is n s x.kept None q.uid (here.keeps.ordered.not_reserved q.uid (here.there.0)) here.keeps ∙ e

-- the room goes on being told while the epoch is kept
pub keeps-telling : (layout : Layout) (n : ℕ) (s : Site) (asked : List Request) (x : Seen)
    → StandsNow layout n s (requests_of x.work asked) x → KeepsTelling n x.kept
keeps-telling layout n s asked x h = inl (subst (λ o. IsTrue (is_some o)) (sym h.keeps.epoch) (stored s.node.epoch h.epoch_stored))
  where
    stored : (o : Option ℕ) → IsTrue (is_some o) → IsTrue (is_some (bytes_of_epoch o))
    stored None e = e
    stored (Some k) e = refl

-- 7. The first of a queue

same-head : (asked rest : List Request) (q r : Request) → asked ≡ q ∷ rest → r ≡ slice_index_or asked 0 r → r ≡ q
same-head asked rest q r is at = at ∙ ap (λ l. slice_index_or l 0 r) is

-- whether it needs device calls
pub head-needs : (asked : List Request) (shown : Kept) (b : Bool) (r : Request) → r ≡ slice_index_or asked 0 r
    → b ≡ (is_some (body_asked r.wish) || is_some (body_at shown r.uid))
    → (rest : List Request) (q : Request) → asked ≡ q ∷ rest → (is_some (body_asked q.wish) || is_some (body_at shown q.uid)) ≡ b
head-needs asked shown b r at needs rest q is = subst (λ (k : Request). (is_some (body_asked k.wish) || is_some (body_at shown k.uid)) ≡ b)
    (same-head asked rest q r is at) (sym needs)

pub head-room : (layout : Layout) (size : ℕ) (asked : List Request) (shown : Kept) (r : Request) → r ≡ slice_index_or asked 0 r
    → finds_shown_room layout size shown r.uid (body_asked r.wish) ≡ false
    → (rest : List Request) (q : Request) → asked ≡ q ∷ rest → finds_shown_room layout size shown q.uid (body_asked q.wish) ≡ false
head-room layout size asked shown r at none rest q is =
    subst (λ (k : Request). finds_shown_room layout size shown k.uid (body_asked k.wish) ≡ false) (same-head asked rest q r is at) none

pub head-rest : (asked : List Request) (r : Request) → 1 ≤ length asked → r ≡ slice_index_or asked 0 r → (qs : List Request)
    × (asked ≡ r ∷ qs)
head-rest [] r some at = absurd (omega (arith, some))
head-rest (q ∷ qs) r some at = (qs, ap (λ k. k ∷ qs) (sym at))

-- the first was begun
pub head-begun : (tells : Bool) (layout : Layout) (n : ℕ) (s : Site) (asked : List Request) (r : Request) (done : Unit {0}) (old x : Seen)
    → IsTrue tells
    → 1 ≤ length asked → r ≡ slice_index_or asked 0 r → old.work ≡ Idle → StandsNow layout n s (requests_of old.work asked) old
    → 1 ≤ old.more → Begins tells layout (record { uid = r.uid; body = body_asked r.wish }) (Ok done) old x
    → (is_some (body_asked r.wish) || is_some (body_at old.kept r.uid)) ≡ true
    → IsUnderJob layout n s asked x Idle old.more
head-begun tells layout n s asked r done old x so some at idle h told b needs =
    let z = head-rest asked r some at in
    begun-now layout n s asked r z.0 old x b.mark b.calls z.1 idle h b.work b.bounded (b.kept so) (ap (λ (d : DiskSeen). d.counts) b.disk)
    (ap (λ (d : DiskSeen). d.told) b.disk) (b.fresh so) needs (b.room so told)

-- 8. A step that began a job, seen from before it was begun

if-some : {X : Type 0} (P Q : X → Type 0) (o : Option X) → ((q : X) → P q → Q q) → IfSome o P → IfSome o Q
if-some P Q None f h = h
if-some P Q (Some q) f h = f q h

turn-from : (layout : Layout) (n : ℕ) (s : Site) (q : Request) (how : RequestEnd) (p : Option Pick) (x y z : Seen) (left : List Request)
    → made_in y.work ≡ made_in x.work → y.disk.told ≡ x.disk.told → y.disk.counts ≡ x.disk.counts
    → TurnsStore layout n s (request_of (made_in y.work) q) how p y.disk.told y.disk.counts.clock
    (requests_of z.work left) z.work z.kept z.more z.disk.counts.size z.disk.told z.disk.counts.clock
    → TurnsStore layout n s (request_of (made_in x.work) q) how p x.disk.told x.disk.counts.clock
    (requests_of z.work left) z.work z.kept z.more z.disk.counts.size z.disk.told z.disk.counts.clock
turn-from layout n s q how p x y z left made told counts t =
    subst (λ k. TurnsStore layout n s (request_of k q) how p x.disk.told x.disk.counts.clock
    (requests_of z.work left) z.work z.kept z.more z.disk.counts.size z.disk.told z.disk.counts.clock) made
    (subst (λ k. TurnsStore layout n s (request_of (made_in y.work) q) how p k x.disk.counts.clock
    (requests_of z.work left) z.work z.kept z.more z.disk.counts.size z.disk.told z.disk.counts.clock) told
    (subst (λ (k : Counts). TurnsStore layout n s (request_of (made_in y.work) q) how p y.disk.told k.clock
    (requests_of z.work left) z.work z.kept z.more z.disk.counts.size z.disk.told z.disk.counts.clock) counts t))

down-from : (layout : Layout) (n : ℕ) (s : Site) (q : Request) (x y z : Seen) → made_in y.work ≡ made_in x.work → y.disk.told ≡ x.disk.told
    → y.disk.counts ≡ x.disk.counts
    → TurnsDown layout n s (request_of (made_in y.work) q) y.disk.told y.disk.counts.clock z.more
    (noted_in (doubt_in z.work) z.kept) z.disk.counts.size z.disk.told z.disk.counts.clock
    → TurnsDown layout n s (request_of (made_in x.work) q) x.disk.told x.disk.counts.clock z.more
    (noted_in (doubt_in z.work) z.kept) z.disk.counts.size z.disk.told z.disk.counts.clock
down-from layout n s q x y z made told counts t =
    subst (λ k. TurnsDown layout n s (request_of k q) x.disk.told x.disk.counts.clock z.more
    (noted_in (doubt_in z.work) z.kept) z.disk.counts.size z.disk.told z.disk.counts.clock) made
    (subst (λ k. TurnsDown layout n s (request_of (made_in y.work) q) k x.disk.counts.clock z.more
    (noted_in (doubt_in z.work) z.kept) z.disk.counts.size z.disk.told z.disk.counts.clock) told
    (subst (λ (k : Counts). TurnsDown layout n s (request_of (made_in y.work) q) y.disk.told k.clock z.more
    (noted_in (doubt_in z.work) z.kept) z.disk.counts.size z.disk.told z.disk.counts.clock) counts t))

pub steps-from : (layout : Layout) (n : ℕ) (s : Site) (asked left : List Request) (x y z : Seen) (result : StepEnd)
    → made_in y.work ≡ made_in x.work → y.disk.told ≡ x.disk.told → y.disk.counts ≡ x.disk.counts
    → StepsTo layout n s asked y left z result → StepsTo layout n s asked x left z result
steps-from layout n s asked left x y z (Going p) made told counts t = if-some _ _ (first asked)
    (λ q. turn-from layout n s q end.Part (pick_of p) x y z left made told counts) t
steps-from layout n s asked left x y z
    (Ended q store_end.Done) made told counts t = turn-from layout n s q end.Done None x y z left made told counts t
steps-from layout n s asked left x y z
    (Ended q store_end.Full) made told counts t = turn-from layout n s q end.Full None x y z left made told counts t
steps-from layout n s asked left x y z
    (Ended q store_end.Fault) made told counts t = turn-from layout n s q end.Fault None x y z left made told counts t
steps-from layout n s asked left x y z (Ended q store_end.Stopped) made told counts t = down-from layout n s q x y z made told counts t

-- a job that was begun has made no call
pub made-none : (tells : Bool) (layout : Layout) (ask : Asked) (done : Unit {0}) (old x : Seen) → old.work ≡ Idle
    → Begins tells layout ask (Ok done) old x
    → made_in x.work ≡ made_in old.work
made-none tells layout ask done old x idle b = ap made_in b.work ∙ sym (ap made_in idle)
