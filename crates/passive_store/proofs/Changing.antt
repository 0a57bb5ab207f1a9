-- A whole change, made of a settling, a beginning and the calls of its job.
use Rattle.std.proofs.Common.{◌≡◌, ◌⊎◌, ℕ, Bool, true, false, IsTrue, List, [], ◌∷◌, ◌++◌, refl, sym, ap, subst, ◌∙◌, inl, inr, arith}
use Rattle.std.specs.Prelude.{Option, None, Some, Result, Ok, Err, is_some, IfSome, IfErr, OnOk, OnErr, ◌&&◌}
use Rattle.std.proofs.lemmas.Bool.{false≢true}
use Rattle.eden_disk.specs.Told.{Told, EachMoment}
use Rattle.eden_disk.specs.Calls.{Counts}
use Rattle.eden_disk.proofs.Held.{moments_weaker}
use Rattle.passive_store.specs.declared.store.StoreRefusal.{StoreRefusal}
use Rattle.passive_store.specs.declared.store.StoreRefusal.TheVariants.{Failed, Stopped, Full, Damaged, OutOfMemory}
use Rattle.passive_store.specs.declared.store.Pick.{Pick}
use Rattle.passive_store.specs.declared.store.Pick.TheVariants.{Old, New}
use Rattle.passive_store.proofs.Joining.{stands_weaker, ran_join, refused_told_more}
use Rattle.passive_store.specs.Seen.{Seen, Asked, Changes, Settles}
use Rattle.passive_store.specs.Kept.{IsEarlyRefusal, Layout, Work, Idle, Busy, Unsettled, StoreChange, Kept, Stands, Ran, IsDiskRefusal}
use Rattle.passive_store.specs.Kept.{IsAnyOf, IsFresh, changes_in, doubt_in, is_busy, is_unsettled, settling_calls, settling_before}
use Rattle.passive_store.specs.Kept.{settled, work_settled, work_changed, work_finished, kept_finished, kept_changed, kept_after}
use Rattle.passive_store.specs.Kept.{SettlesFirst, SettlesAfterMemory, IsFullBy, changes_refused, changes_begun, calls_due, settling_due}
use Rattle.passive_store.specs.Kept.{settling_of, work_unchanged, end_of_store, change_in}
use Rattle.passive_store.specs.Acts.{DiskCall, CallsTold}

-- whose changes a crash may show, where the settling of a change was refused, and where its job was begun
pub refused_changes : (pick : Option Pick) (w : Work) (c : StoreChange) (e : StoreRefusal) → IsDiskRefusal e → is_some pick ≡ false
    → is_unsettled w ≡ true → changes_in (doubt_in w) ≡ changes_begun {T = Unit {0}} pick c w (Err e)
refused_changes (Some pick) w c e only p u = absurd (false≢true (sym p))
refused_changes None Idle c e only p u = absurd (false≢true u)
refused_changes None (Busy d made left) c e only p u = absurd (false≢true u)
refused_changes None (Unsettled d synced) c e (inl f) p u =
    ap (λ x. changes_begun {T = Unit {0}} None c (Unsettled d synced) (Err x)) (sym f)
refused_changes None (Unsettled d synced) c e (inr f) p u =
    ap (λ x. changes_begun {T = Unit {0}} None c (Unsettled d synced) (Err x)) (sym f)

changes_stopped : (pick : Option Pick) (w : Work) (c : StoreChange) → is_some pick ≡ is_unsettled w → changes_in (doubt_in w) ++ c
    ∷ [] ≡ changes_refused pick c w
changes_stopped (Some pick) w c p = refl
changes_stopped None Idle c p = refl
changes_stopped None (Busy d made left) c p = refl
changes_stopped None (Unsettled d synced) c p = absurd (false≢true p)

pub any_more : (kept : Kept) (cs : List StoreChange) (c : StoreChange) (found : Result Kept ℕ) → IsAnyOf kept cs found
    → IsAnyOf kept (cs ++ c ∷ []) found
any_more kept [] c found is = inl is
any_more kept (d ∷ cs) c found (inl old) = inl (any_more kept cs c found old)
any_more kept (d ∷ cs) c found (inr new) = inr (new.0, any_more (kept_after d kept) cs c found new.1)

pub moments_more : (layout : Layout) (n f : ℕ) (kept : Kept) (cs : List StoreChange) (c : StoreChange) (old new : Told)
    → EachMoment (Stands layout n f kept cs) old new → EachMoment (Stands layout n f kept (cs ++ c ∷ [])) old new
moments_more layout n f kept cs c old new m =
    moments_weaker (Stands layout n f kept cs) (Stands layout n f kept (cs ++ c ∷ [])) old new
    (λ image h. stands_weaker layout n f kept kept cs (cs ++ c ∷ []) image (any_more kept cs c (layout.map_of n image)) h) m

pub settled_then : (pick : Option Pick) (w : Work) (s : Kept) (c : StoreChange) (found : Result Kept ℕ) → is_busy w ≡ false
    → is_some pick ≡ is_unsettled w → IfSome (doubt_in w) (λ d. IsFresh d s) →
    IsAnyOf (settled pick w s) (c ∷ []) found → IsAnyOf s (changes_in (doubt_in w) ++ c ∷ []) found
settled_then None Idle s c found idle p fresh is = is
settled_then (Some pick) Idle s c found idle p fresh is = absurd (false≢true (sym p))
settled_then pick (Busy d made left) s c found idle p fresh is = absurd (false≢true (sym idle))
settled_then None (Unsettled d synced) s c found idle p fresh is = absurd (false≢true p)
settled_then (Some Old) (Unsettled d synced) s c found idle p fresh is = inl is
settled_then (Some New) (Unsettled d synced) s c found idle p fresh is = inr (fresh, is)

pub idle_then : (pick : Option Pick) (w v : Work) → is_busy w ≡ false → is_some pick ≡ is_unsettled w → v ≡ work_settled pick w → v ≡ Idle
idle_then None Idle v idle p e = e
idle_then (Some pick) Idle v idle p e = e
idle_then pick (Busy d made left) v idle p e = absurd (false≢true (sym idle))
idle_then None (Unsettled d synced) v idle p e = absurd (false≢true p)
idle_then (Some pick) (Unsettled d synced) v idle p e = e

-- how the calls of a job may end
abbrev pub MatchDisk : Result (Unit {0}) StoreRefusal → Type 0
MatchDisk (Ok done) = Unit {0}
MatchDisk (Err Failed) = Unit {0}
MatchDisk (Err Stopped) = Unit {0}
MatchDisk (Err Full) = ⊥
MatchDisk (Err (Damaged place)) = ⊥
MatchDisk (Err OutOfMemory) = ⊥

match_refusal : (e : StoreRefusal) → IsDiskRefusal e → MatchDisk (Err e)
match_refusal Failed only = tt
match_refusal Stopped only = tt
match_refusal Full (inl e) = absurd cc
match_refusal Full (inr e) = absurd cc
match_refusal (Damaged place) (inl e) = absurd cc
match_refusal (Damaged place) (inr e) = absurd cc
match_refusal OutOfMemory (inl e) = absurd cc
match_refusal OutOfMemory (inr e) = absurd cc

-- the device calls of a change whose job was begun, in their order, and of one whose settling was refused
pub begun_order : (w : Work) (calls : List DiskCall) (r : Result (Unit {0}) StoreRefusal) (old new : Told) → MatchDisk r
    → CallsTold (settling_of w ++ calls) old new (end_of_store r) → CallsTold (calls_due w calls r) old new (end_of_store r)
begun_order w calls (Ok done) old new only told = told
begun_order w calls (Err Failed) old new only told = told
begun_order w calls (Err Stopped) old new only told = told
begun_order w calls (Err Full) old new only told = absurd only
begun_order w calls (Err (Damaged place)) old new only told = absurd only
begun_order w calls (Err OutOfMemory) old new only told = absurd only

pub refused_order : (w : Work) (calls : List DiskCall) (e : StoreRefusal) (old new : Told) → IsDiskRefusal e
    → CallsTold (settling_of w) old new (end_of_store {T = Unit {0}} (Err e))
    → CallsTold (calls_due {T = Unit {0}} w calls (Err e)) old new (end_of_store {T = Unit {0}} (Err e))
refused_order w calls e old new only told =
    begun_order w calls (Err e) old new (match_refusal e only)
    (refused_told_more (Unit {0}) (Unit {0}) (settling_of w) calls old new e only told)

pub unchanged_work : (pick : Option Pick) (w v : Work) (e : StoreRefusal) → IsDiskRefusal e → v ≡ work_settled pick w
    → v ≡ work_unchanged {T = Unit {0}} pick w (Err e)
unchanged_work pick w v e (inl f) is = is ∙ ap (λ x. work_unchanged {T = Unit {0}} pick w (Err x)) (sym f)
unchanged_work pick w v e (inr f) is = is ∙ ap (λ x. work_unchanged {T = Unit {0}} pick w (Err x)) (sym f)

pub settling_order : (w : Work) (e : StoreRefusal) (old new : Told) → IsDiskRefusal e
    → CallsTold (settling_of w) old new (end_of_store {T = Unit {0}} (Err e))
    → CallsTold (settling_due {T = Unit {0}} w (Err e)) old new (end_of_store {T = Unit {0}} (Err e))
settling_order w Failed old new only told = told
settling_order w Stopped old new only told = told
settling_order w Full old new only told = told
settling_order w (Damaged place) old new (inl e) told = absurd cc
settling_order w (Damaged place) old new (inr e) told = absurd cc
settling_order w OutOfMemory old new (inl e) told = absurd cc
settling_order w OutOfMemory old new (inr e) told = absurd cc

-- the same moments of a change whose job was begun
pub begun_moments : (layout : Layout) (n f : ℕ) (kept : Kept) (pick : Option Pick) (w : Work) (c : StoreChange)
    (r : Result (Unit {0}) StoreRefusal) (old new : Told) → MatchDisk r → is_some pick ≡ is_unsettled w →
    EachMoment (Stands layout n f kept (changes_in (doubt_in w) ++ c ∷ [])) old new
    → EachMoment (Stands layout n f kept (changes_begun pick c w r)) old new
begun_moments layout n f kept pick w c (Ok done) old new only p each = each
begun_moments layout n f kept pick w c (Err Failed) old new only p each =
    subst (λ cs. EachMoment (Stands layout n f kept cs) old new) (changes_stopped pick w c p) each
begun_moments layout n f kept pick w c (Err Stopped) old new only p each =
    subst (λ cs. EachMoment (Stands layout n f kept cs) old new) (changes_stopped pick w c p) each
begun_moments layout n f kept pick w c (Err Full) old new only p each = absurd only
begun_moments layout n f kept pick w c (Err (Damaged place)) old new only p each = absurd only
begun_moments layout n f kept pick w c (Err OutOfMemory) old new only p each = absurd only

pub work_then : (pick : Option Pick) (w v : Work) (c : StoreChange) (left : List DiskCall) (r : Result (Unit {0}) StoreRefusal)
    → is_busy w ≡ false → is_some pick ≡ is_unsettled w → MatchDisk r → v ≡ work_finished (Busy c 0 left) r → v ≡ work_changed pick c w r
work_then pick w v c left (Ok done) idle p only e = e
work_then None Idle v c left (Err Failed) idle p only e = e
work_then (Some pick) Idle v c left (Err Failed) idle p only e = e
work_then None (Unsettled d synced) v c left (Err Failed) idle p only e = absurd (false≢true p)
work_then (Some pick) (Unsettled d synced) v c left (Err Failed) idle p only e = e
work_then None (Busy d made more) v c left (Err Failed) idle p only e = e
work_then (Some pick) (Busy d made more) v c left (Err Failed) idle p only e = e
work_then None Idle v c left (Err Stopped) idle p only e = e
work_then (Some pick) Idle v c left (Err Stopped) idle p only e = e
work_then None (Unsettled d synced) v c left (Err Stopped) idle p only e = absurd (false≢true p)
work_then (Some pick) (Unsettled d synced) v c left (Err Stopped) idle p only e = e
work_then None (Busy d made more) v c left (Err Stopped) idle p only e = e
work_then (Some pick) (Busy d made more) v c left (Err Stopped) idle p only e = e
work_then pick w v c left (Err Full) idle p only e = absurd only
work_then pick w v c left (Err (Damaged place)) idle p only e = absurd only
work_then pick w v c left (Err OutOfMemory) idle p only e = absurd only

pub shown_then : (pick : Option Pick) (w : Work) (s t mid : Kept) (c : StoreChange) (left : List DiskCall)
    (r : Result (Unit {0}) StoreRefusal) → mid ≡ settled pick w s → t ≡ kept_finished (Busy c 0 left) mid r → t ≡ kept_changed pick c w s r
shown_then pick w s t mid c left (Ok done) m e = e ∙ ap (kept_after c) m
shown_then pick w s t mid c left (Err x) m e = e ∙ m

-- the settling of a change was refused
pub refused_work : (pick : Option Pick) (w v : Work) (c : StoreChange) (e : StoreRefusal) → IsDiskRefusal e → is_some pick ≡ false
    → is_unsettled w ≡ true → v ≡ work_settled pick w → v ≡ work_changed {T = Unit {0}} pick c w (Err e)
refused_work (Some pick) w v c e only p u is = absurd (false≢true (sym p))
refused_work None Idle v c e only p u is = absurd (false≢true u)
refused_work None (Busy d made left) v c e only p u is = absurd (false≢true u)
refused_work None (Unsettled d synced) v c e (inl f) p u is = is
    ∙ ap (λ x. work_changed {T = Unit {0}} None c (Unsettled d synced) (Err x)) (sym f)
refused_work None (Unsettled d synced) v c e (inr f) p u is = is
    ∙ ap (λ x. work_changed {T = Unit {0}} None c (Unsettled d synced) (Err x)) (sym f)

pub match_disk : (r : Result (Unit {0}) StoreRefusal) → IfErr r IsDiskRefusal → MatchDisk r
match_disk (Ok done) only = tt
match_disk (Err Failed) only = tt
match_disk (Err Stopped) only = tt
match_disk (Err Full) (inl e) = cc
match_disk (Err Full) (inr e) = cc
match_disk (Err (Damaged place)) (inl e) = cc
match_disk (Err (Damaged place)) (inr e) = cc
match_disk (Err OutOfMemory) (inl e) = cc
match_disk (Err OutOfMemory) (inr e) = cc

pub refused_more : (w : Work) (calls : ℕ) (e : StoreRefusal) (before after : Counts) → IsDiskRefusal e
    → Ran {T = Unit {0}} (settling_calls w) 0 (Err e) before after
    → Ran {T = Unit {0}} (settling_before {T = Unit {0}} w (Err e)) calls (Err e) before after
refused_more w calls Failed before after only r =
    record { made = r.made; number = (r.number.0, omega (arith, r.number.1)); counts = r.counts }
refused_more w calls Stopped before after only r =
    record { made = r.made; number = (r.number.0, omega (arith, r.number.1)); counts = r.counts }
refused_more w calls Full before after (inl e) r = absurd cc
refused_more w calls Full before after (inr e) r = absurd cc
refused_more w calls (Damaged place) before after (inl e) r = absurd cc
refused_more w calls (Damaged place) before after (inr e) r = absurd cc
refused_more w calls OutOfMemory before after (inl e) r = absurd cc
refused_more w calls OutOfMemory before after (inr e) r = absurd cc

pub full_ran : (w : Work) (calls : ℕ) (before after : Counts) → Ran {T = Unit {0}} (settling_calls w) 0 (Ok tt) before after
    → Ran {T = Unit {0}} (settling_calls w) calls (Err Full) before after
full_ran w calls before after r = record { made = r.made; number = omega (arith, r.number); counts = r.counts }

pub done_ran : (w : Work) (calls : ℕ) (r : Result (Unit {0}) StoreRefusal) (before between after : Counts) → MatchDisk r
    → Ran {T = Unit {0}} (settling_calls w) 0 (Ok tt) before between → Ran {T = Unit {0}} 0 calls r between after
    → Ran {T = Unit {0}} (settling_before w r) calls r before after
done_ran w calls (Ok done) before between after only a b =
    ran_join (Unit {0}) (Unit {0}) (settling_calls w) calls tt (Ok done) before between after a b
done_ran w calls (Err Failed) before between after only a b =
    ran_join (Unit {0}) (Unit {0}) (settling_calls w) calls tt (Err Failed) before between after a b
done_ran w calls (Err Stopped) before between after only a b =
    ran_join (Unit {0}) (Unit {0}) (settling_calls w) calls tt (Err Stopped) before between after a b
done_ran w calls (Err Full) before between after only a b = absurd only
done_ran w calls (Err (Damaged place)) before between after only a b = absurd only
done_ran w calls (Err OutOfMemory) before between after only a b = absurd only

-- what was found, by how the call ended
pub first_settled : (pick : Option Pick) (w : Work) (r : Result (Unit {0}) StoreRefusal) → MatchDisk r → is_some pick ≡ is_unsettled w
    → SettlesFirst pick w r
first_settled pick w (Ok done) only e = e
first_settled pick w (Err Failed) only e = λ some. sym e ∙ some
first_settled pick w (Err Stopped) only e = λ some. sym e ∙ some
first_settled pick w (Err Full) only e = e
first_settled pick w (Err (Damaged place)) only e = e
first_settled pick w (Err OutOfMemory) only e = e

-- a refusal that is the disk's, or for want of room, was none for want of memory
pub room_refused : (e : StoreRefusal) → IsDiskRefusal e ⊎ (e ≡ Full) → e ≡ OutOfMemory → ⊥
room_refused Failed only e = cc
room_refused Stopped only e = cc
room_refused Full only e = cc
room_refused (Damaged place) (inl (inl f)) e = cc
room_refused (Damaged place) (inl (inr f)) e = cc
room_refused (Damaged place) (inr f) e = cc
room_refused OutOfMemory (inl (inl f)) e = cc
room_refused OutOfMemory (inl (inr f)) e = cc
room_refused OutOfMemory (inr f) e = cc

pub after_memory : (pick : Option Pick) (w : Work) (r : Result (Unit {0}) StoreRefusal) → IfErr r (λ e. IsDiskRefusal e ⊎ (e ≡ Full))
    → SettlesFirst pick w r → SettlesAfterMemory pick w r
after_memory pick w (Ok done) only s = s
after_memory pick w (Err Failed) only s = s
after_memory pick w (Err Stopped) only s = s
after_memory pick w (Err Full) only s = s
after_memory pick w (Err (Damaged place)) only s = s
after_memory pick w (Err OutOfMemory) only s = absurd (room_refused OutOfMemory only refl)

pub unless_memory : (P : Type 0) (r : Result (Unit {0}) StoreRefusal) → IfErr r (λ e. IsDiskRefusal e ⊎ (e ≡ Full))
    → IfErr r (λ e. e ≡ OutOfMemory → P)
unless_memory P (Ok done) only = tt
unless_memory P (Err e) only = λ is. absurd (room_refused e only is)

pub never_full : (r : Result (Unit {0}) StoreRefusal) → IfErr r IsDiskRefusal → IfErr r (λ e. e ≡ Full → ⊥)
never_full (Ok done) only = tt
never_full (Err e) (inl f) = λ is. let bad : Failed ≡ Full = sym f ∙ is in cc
never_full (Err e) (inr f) = λ is. let bad : Stopped ≡ Full = sym f ∙ is in cc

-- a job that was begun had room
pub room_had : (room : Bool) (pick : Option Pick) (w : Work) (r : Result (Unit {0}) StoreRefusal) → MatchDisk r → IsTrue room
    → IsFullBy room pick w r
room_had room pick w (Ok done) only h = h
room_had room pick w (Err Failed) only h = λ e. h
room_had room pick w (Err Stopped) only h = λ e. h
room_had room pick w (Err Full) only h = absurd only
room_had room pick w (Err (Damaged place)) only h = tt
room_had room pick w (Err OutOfMemory) only h = tt

room_refused_disk : (e : StoreRefusal) → IsDiskRefusal e → e ≡ Full → ⊥
room_refused_disk e (inl f) is = let bad : Failed ≡ Full = sym f ∙ is in cc
room_refused_disk e (inr f) is = let bad : Stopped ≡ Full = sym f ∙ is in cc

-- the settling was refused, so that nothing is said of the room
pub room_unknown : (room : Bool) (pick : Option Pick) (w : Work) (e : StoreRefusal) → IsDiskRefusal e → is_some pick ≡ false
    → is_unsettled w ≡ true → IsFullBy {T = Unit {0}} room pick w (Err e)
room_unknown room pick w Failed only p u = λ e. absurd (false≢true (sym p ∙ e ∙ u))
room_unknown room pick w Stopped only p u = λ e. absurd (false≢true (sym p ∙ e ∙ u))
room_unknown room pick w Full only p u = absurd (room_refused_disk Full only refl)
room_unknown room pick w (Damaged place) only p u = tt
room_unknown room pick w OutOfMemory only p u = tt

pub memory_is_not_room : OutOfMemory ≡ Full → ⊥
memory_is_not_room e = cc

settled_fresh : (pick : Option Pick) (w : Work) (s : Kept) → IfSome (doubt_in w) (λ c. IsFresh c s)
    → IfSome (doubt_in (work_settled pick w)) (λ c. IsFresh c (settled pick w s))
settled_fresh None Idle s fresh = tt
settled_fresh (Some pick) Idle s fresh = tt
settled_fresh None (Busy c made left) s fresh = fresh
settled_fresh (Some Old) (Busy c made left) s fresh = fresh
settled_fresh (Some New) (Busy c made left) s fresh = fresh
settled_fresh None (Unsettled c synced) s fresh = fresh
settled_fresh (Some pick) (Unsettled c synced) s fresh = tt

finished_fresh : (T : Type 0) (w : Work) (s : Kept) (r : Result T StoreRefusal) → IfSome (change_in w) (λ c. IsFresh c s)
    → IfSome (doubt_in (work_finished w r)) (λ c. IsFresh c (kept_finished w s r))
finished_fresh T Idle s r fresh = tt
finished_fresh T (Busy c made left) s (Ok done) fresh = tt
finished_fresh T (Busy c made left) s (Err e) fresh = fresh
finished_fresh T (Unsettled c synced) s r fresh = fresh

-- a change in doubt stays fresh through a settling that was refused, and none is in doubt behind one that was not
pub fresh_settled : (pick : Option Pick) (w v : Work) (s t : Kept) → v ≡ work_settled pick w → t ≡ settled pick w s
    → IfSome (doubt_in w) (λ c. IsFresh c s) → IfSome (doubt_in v) (λ c. IsFresh c t)
fresh_settled pick w v s t is kept fresh =
    subst (λ x. IfSome (doubt_in x) (λ c. IsFresh c t)) (sym is)
    (subst (λ (k : Kept). IfSome (doubt_in (work_settled pick w)) (λ c. IsFresh c k)) (sym kept) (settled_fresh pick w s fresh))

-- so does one whose job was refused
pub fresh_finished : (T : Type 0) (w v : Work) (s t : Kept) (r : Result T StoreRefusal) → v ≡ work_finished w r → t ≡ kept_finished w s r
    → IfSome (change_in w) (λ c. IsFresh c s) → IfSome (doubt_in v) (λ c. IsFresh c t)
fresh_finished T w v s t r is kept fresh =
    subst (λ x. IfSome (doubt_in x) (λ c. IsFresh c t)) (sym is)
    (subst (λ (k : Kept). IfSome (doubt_in (work_finished w r)) (λ c. IsFresh c k)) (sym kept) (finished_fresh T w s r fresh))

-- nothing is in doubt where nothing is worked on
pub fresh_idle : (v : Work) (t : Kept) → v ≡ Idle → IfSome (doubt_in v) (λ c. IsFresh c t)
fresh_idle v t is = subst (λ x. IfSome (doubt_in x) (λ c. IsFresh c t)) (sym is) tt

-- a call that was refused in its settling found nothing
pub first_refused : (T : Type 0) (pick : Option Pick) (w : Work) (e : StoreRefusal) → IsDiskRefusal e → is_some pick ≡ false
    → SettlesFirst {T = T} pick w (Err e)
first_refused T pick w Failed only none = λ some. absurd (false≢true (sym none ∙ some))
first_refused T pick w Stopped only none = λ some. absurd (false≢true (sym none ∙ some))
first_refused T pick w Full (inl e) none = absurd cc
first_refused T pick w Full (inr e) none = absurd cc
first_refused T pick w (Damaged place) (inl e) none = absurd cc
first_refused T pick w (Damaged place) (inr e) none = absurd cc
first_refused T pick w OutOfMemory (inl e) none = absurd cc
first_refused T pick w OutOfMemory (inr e) none = absurd cc

first_any : (T : Type 0) (pick : Option Pick) (w : Work) (r : Result T StoreRefusal) → is_some pick ≡ is_unsettled w → SettlesFirst pick w r
first_any T pick w (Ok x) e = e
first_any T pick w (Err Failed) e = λ some. sym e ∙ some
first_any T pick w (Err Stopped) e = λ some. sym e ∙ some
first_any T pick w (Err Full) e = e
first_any T pick w (Err (Damaged place)) e = e
first_any T pick w (Err OutOfMemory) e = e

-- what a whole settling found stays behind what comes then
pub picked_first : {T : Type 0} (found pick : Option Pick) (w : Work) (r : Result T StoreRefusal) → found ≡ pick
    → is_some pick ≡ (true && is_unsettled w) → SettlesFirst found w r
picked_first {T} found pick w r same e = first_any T found w r (ap is_some same ∙ e)

-- what was found before does not matter to a change, nor to a settling
pub changes_anew : (tells : Bool) (layout : Layout) (ask : Asked) (result : Result (Unit {0}) StoreRefusal) (old new : Seen)
    (pick : Option Pick) → Changes tells layout ask result (record old { picked = pick }) new → Changes tells layout ask result old new
changes_anew tells layout ask result old new pick k = record {
  mark = k.mark;
  calls = k.calls;
  bounded = k.bounded;
  job = k.job;
  ran = k.ran;
  by_layout = k.by_layout;
  at = k.at;
  order = k.order;
  work = k.work;
  kept = k.kept;
  moments = k.moments;
}

pub settles_anew : (tells : Bool) (layout : Layout) (result : Result (Unit {0}) StoreRefusal) (old new : Seen) (pick : Option Pick)
    → Settles tells layout result (record old { picked = pick }) new → Settles tells layout result old new
settles_anew tells layout result old new pick k = record { ran = k.ran; order = k.order; work = k.work; kept = k.kept; moments = k.moments }

-- refusals of a whole change that made its memory first
pub undamaged_whole : (r : Result (Unit {0}) StoreRefusal) → IfErr r (λ e. IsDiskRefusal e ⊎ (e ≡ Full))
    → IfErr r (λ e. IsDiskRefusal e ⊎ IsEarlyRefusal e)
undamaged_whole (Ok done) only = tt
undamaged_whole (Err e) (inl disk) = inl disk
undamaged_whole (Err e) (inr full) = inr (inl full)

-- of a job that begins, what its refusal says
pub early_full : (r : Result (Unit {0}) StoreRefusal) → IfErr r (λ e. e ≡ Full) → IfErr r IsEarlyRefusal
early_full (Ok done) only = tt
early_full (Err e) only = inl only

pub on_refusal : (P : Type 0) (r : Result (Unit {0}) StoreRefusal) → P → OnErr r P
on_refusal P (Ok done) p = tt
on_refusal P (Err e) p = p

pub full_then : (P : Type 0) (r : Result (Unit {0}) StoreRefusal) → OnErr r P → IfErr r (λ e. e ≡ Full → P)
full_then P (Ok done) p = tt
full_then P (Err e) p = λ is. p

pub on_done : (P : Type 0) (r : Result (Unit {0}) StoreRefusal) → P → OnOk r P
on_done P (Ok done) p = p
on_done P (Err e) p = tt
