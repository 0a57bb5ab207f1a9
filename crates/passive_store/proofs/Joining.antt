-- Calls of a store one behind another.
use Rattle.std.proofs.Common.{◌≡◌, ◌⊎◌, ℕ, suc, zero, ◌+◌, ◌≤◌, Bool, true, false, IsTrue, List, [], ◌∷◌, ◌++◌, refl, sym, ap, subst}
use Rattle.std.proofs.Common.{◌∙◌, inl, inr, arith, append_assoc, length, replicate}
use Rattle.std.specs.Prelude.{◌-◌, ◌^◌, Option, None, Some, Result, Ok, Err, nat_le, is_some, ◌&&◌, IfSome, OnOk, take}
use Rattle.std.proofs.lemmas.Bool.{false≢true}
use Rattle.std.proofs.lemmas.Bool.Decides.{nat_tests}
use Rattle.eden_disk.specs.Told.{Told, contents, EachMoment}
use Rattle.eden_disk.specs.Calls.{Counts, Due, DeviceCalls, Obeyed, end_of, End, Fine, AtFault, AtStop}
use Rattle.passive_store.specs.Acts.{DiskCall, Sync, Read, settling_call, CallTold, AllTold, SomeTold, CallsTold}
use Rattle.eden_disk.specs.declared.disk.DiskRefusal.{DiskRefusal}
use Rattle.eden_disk.specs.declared.disk.DiskRefusal.TheVariants.{Failed as DiskFailed, Stopped as DiskStopped}
use Rattle.eden_disk.specs.Timed.{Timed}
use Rattle.eden_disk.proofs.Timed.{timed_join}
use Rattle.eden_disk.proofs.Held.{moments_join, moments_weaker, calls_more, obeyed_more}
use Rattle.passive_store.specs.declared.store.StoreRefusal.{StoreRefusal}
use Rattle.passive_store.specs.declared.store.StoreRefusal.TheVariants.{Failed, Stopped, Full, Damaged, OutOfMemory}
use Rattle.passive_store.specs.declared.store.Progress.{Progress}
use Rattle.passive_store.specs.declared.store.Progress.TheVariants.{Going, Done}
use Rattle.passive_store.specs.declared.store.Pick.{Pick}
use Rattle.passive_store.specs.declared.store.Pick.TheVariants.{Old, New}
use Rattle.passive_store.specs.Seen.{Seen, SettlesOneCall, Settled, Advances, Finishes}
use Rattle.passive_store.specs.Kept.{OpeningMade, OpeningTold, IsOverfullBy, kept_after, kept_finished, work_finished, settling_calls}
use Rattle.passive_store.specs.Kept.{Layout, Work, Idle, Busy, Unsettled, StoreChange, Kept, Stands, Ran, IsDiskRefusal, changes_in}
use Rattle.passive_store.specs.Kept.{change_in, doubt_in, is_busy, is_unsettled, is_synced, calls_left, job_left, settling_of, reads_due}
use Rattle.passive_store.specs.Kept.{refused, NextTold, progress_at, end_of_store, work_stepped, work_advanced, kept_advanced, settled}
use Rattle.passive_store.specs.Kept.{work_settled, IsAnyOf, IsFresh, IsRefusedIn, IsRefusedAfter}

-- the same moments, under equal names
pub as_before : (layout : Layout) (n m f h : ℕ) (s t : Kept) (d e : Option StoreChange) (mid new : Told) → m ≡ n → h ≡ f → t ≡ s → e ≡ d →
    EachMoment (Stands layout m h t (changes_in e)) mid new → EachMoment (Stands layout n f s (changes_in d)) mid new
as_before layout n m f h s t d e mid new nodes mores kept doubts each =
    subst (λ x. EachMoment (Stands layout n f s (changes_in x)) mid new) doubts
    (subst (λ (x : Kept). EachMoment (Stands layout n f x (changes_in e)) mid new) kept
    (subst (λ x. EachMoment (Stands layout n x t (changes_in e)) mid new) mores
    (subst (λ x. EachMoment (Stands layout x h t (changes_in e)) mid new) nodes each)))

-- an image that stands for what is kept with some changes stands for it with others that allow what was found
pub stands_weaker : (layout : Layout) (n f : ℕ) (s t : Kept) (cs ds : List StoreChange) (image : List ℕ)
    → (IsAnyOf s cs (layout.map_of n image) → IsAnyOf t ds (layout.map_of n image)) →
    Stands layout n f s cs image → Stands layout n f t ds image
stands_weaker layout n f s t cs ds image weaker h = record { found = weaker h.found; opens = h.opens; told = h.told }

-- and for fewer changes more
pub stands_fewer : (layout : Layout) (n f g : ℕ) (s : Kept) (cs : List StoreChange) (image : List ℕ) → g ≤ f → Stands layout n f s cs image
    → Stands layout n g s cs image
stands_fewer layout n f g s cs image fewer h = record { found = h.found; opens = h.opens; told = omega (arith, fewer, h.told) }

-- the first call of a settling keeps the doubt
pub sync_keeps : (w v : Work) (progress : Progress) → is_unsettled w ≡ true → is_synced w ≡ false → progress ≡ progress_at (is_synced w)
    → v ≡ work_stepped w (Ok progress) → doubt_in v ≡ doubt_in w
sync_keeps Idle v progress u s p e = absurd (false≢true u)
sync_keeps (Busy c made left) v progress u s p e = absurd (false≢true u)
sync_keeps (Unsettled c synced) v progress u s p e =
    ap doubt_in (e ∙ ap (λ x. work_stepped (Unsettled c synced) (Ok x)) (p ∙ ap progress_at s))

-- and keeps all else
pub none_settled : (pick : Option Pick) (w : Work) (s t : Kept) → is_some pick ≡ (true && is_synced w) → is_synced w ≡ false
    → t ≡ settled pick w s → t ≡ s
none_settled None w s t found unsynced e = e
none_settled (Some pick) w s t found unsynced e = absurd (false≢true (sym unsynced ∙ sym found))

pub refused_ran : (T U : Type 0) → (settling calls made : ℕ) (e : StoreRefusal) (before after : Counts) → IsDiskRefusal e → 1 ≤ made
    → made ≤ settling + calls →
    DeviceCalls made before after (end_of_store {T = T} (Err e)) → Ran {T = U} settling calls (Err e) before after
refused_ran T U settling calls made Failed before after r some most d = record { made = made; number = (some, most); counts = d }
refused_ran T U settling calls made Stopped before after r some most d = record { made = made; number = (some, most); counts = d }
refused_ran T U settling calls made Full before after (inl e) some most d = absurd cc
refused_ran T U settling calls made Full before after (inr e) some most d = absurd cc
refused_ran T U settling calls made (Damaged place) before after (inl e) some most d = absurd cc
refused_ran T U settling calls made (Damaged place) before after (inr e) some most d = absurd cc
refused_ran T U settling calls made OutOfMemory before after (inl e) some most d = absurd cc
refused_ran T U settling calls made OutOfMemory before after (inr e) some most d = absurd cc

-- while nothing changes
pub timed_still : (before after : ℕ) (old new : Told) → before ≤ after → new ≡ old → Timed before old after new
timed_still before after old new h same =
    subst (Timed before old after) (sym same) (record { acts = []; image = refl; since = refl; order = h })

-- a place where a write was refused does not come up where none ever does
pub none_refused : (calls : List DiskCall) → IsRefusedIn calls None None
none_refused [] = inl refl
none_refused (c ∷ cs) = inr (none_refused cs)

pub none_refused_after : (calls : List DiskCall) (r : Result Progress StoreRefusal) → IsRefusedAfter calls r None None
none_refused_after calls (Ok progress) = inl refl
none_refused_after calls (Err e) = none_refused (take 1 calls)

-- at the last clock no call is made without a refusal
pub none_at_last : (T : Type 0) (made : ℕ) (before after : Counts) (r : Result T StoreRefusal) → 1 ≤ made → 2 ^ 64 - 1 ≤ before.clock
    → DeviceCalls made before after (end_of_store r) → OnOk r ⊥
none_at_last T made before after (Ok done) some last calls = omega (arith, some, last, calls.counted)
none_at_last T made before after (Err e) some last calls = tt

-- calls one behind another
pub all_more : (xs ys : List DiskCall) (old mid new : Told) → AllTold xs old mid → AllTold ys mid new → AllTold (xs ++ ys) old new
all_more [] ys old mid new a b = subst (λ t. AllTold ys t new) a b
all_more (x ∷ xs) ys old mid new a b = (a.0, a.1, a.2, all_more xs ys a.0 mid new a.3 b)

pub all_some : (xs ys : List DiskCall) (old mid new : Told) (end : End) → AllTold xs old mid → SomeTold ys mid new end
    → SomeTold (xs ++ ys) old new end
all_some [] ys old mid new end a b = subst (λ t. SomeTold ys t new end) a b
all_some (x ∷ xs) ys old mid new end a b = inr (a.0, a.1, a.2, all_some xs ys a.0 mid new end a.3 b)

pub some_more : (xs ys : List DiskCall) (old new : Told) (end : End) → SomeTold xs old new end → SomeTold (xs ++ ys) old new end
some_more [] ys old new end a = absurd a
some_more (x ∷ xs) ys old new end (inl here) = inl here
some_more (x ∷ xs) ys old new end (inr past) = inr (past.0, past.1, past.2, some_more xs ys past.0 new end past.3)

pub calls_told_more : (xs ys : List DiskCall) (old mid new : Told) (end : End) → AllTold xs old mid → CallsTold ys mid new end
    → CallsTold (xs ++ ys) old new end
calls_told_more xs ys old mid new Fine a b = all_more xs ys old mid new a b
calls_told_more xs ys old mid new AtFault a b = all_some xs ys old mid new AtFault a b
calls_told_more xs ys old mid new AtStop a b = all_some xs ys old mid new AtStop a b

-- of more calls the same one was refused
pub refused_told_more : (T U : Type 0) (xs ys : List DiskCall) (old new : Told) (e : StoreRefusal) → IsDiskRefusal e
    → CallsTold xs old new (end_of_store {T = T} (Err e)) → CallsTold (xs ++ ys) old new (end_of_store {T = U} (Err e))
refused_told_more T U xs ys old new Failed only told = some_more xs ys old new AtFault told
refused_told_more T U xs ys old new Stopped only told = some_more xs ys old new AtStop told
refused_told_more T U xs ys old new Full (inl e) told = absurd cc
refused_told_more T U xs ys old new Full (inr e) told = absurd cc
refused_told_more T U xs ys old new (Damaged place) (inl e) told = absurd cc
refused_told_more T U xs ys old new (Damaged place) (inr e) told = absurd cc
refused_told_more T U xs ys old new OutOfMemory (inl e) told = absurd cc
refused_told_more T U xs ys old new OutOfMemory (inr e) told = absurd cc

-- one call, however it ended
call_told : (T U : Type 0) (call : DiskCall) (clock : ℕ) (old new : Told) (e : StoreRefusal) → IsDiskRefusal e
    → CallTold call clock old new (end_of_store {T = T} (Err e)) → CallsTold (call ∷ []) old new (end_of_store {T = U} (Err e))
call_told T U call clock old new Failed only told = inl (clock, told)
call_told T U call clock old new Stopped only told = inl (clock, told)
call_told T U call clock old new Full (inl e) told = absurd cc
call_told T U call clock old new Full (inr e) told = absurd cc
call_told T U call clock old new (Damaged place) (inl e) told = absurd cc
call_told T U call clock old new (Damaged place) (inr e) told = absurd cc
call_told T U call clock old new OutOfMemory (inl e) told = absurd cc
call_told T U call clock old new OutOfMemory (inr e) told = absurd cc

pub call_done : (call : DiskCall) (clock : ℕ) (old new : Told) → CallTold call clock old new Fine → AllTold (call ∷ []) old new
call_done call clock old new told = (new, clock, told, refl)

-- the same of calls that a disk answers itself
pub call_ended : (call : DiskCall) (clock : ℕ) (old new : Told) (end : End) → CallTold call clock old new end
    → CallsTold (call ∷ []) old new end
call_ended call clock old new Fine told = call_done call clock old new told
call_ended call clock old new AtFault told = inl (clock, told)
call_ended call clock old new AtStop told = inl (clock, told)

pub disk_refused_more : (T U : Type 0) (xs ys : List DiskCall) (old new : Told) (e : DiskRefusal)
    → CallsTold xs old new (end_of {T = T} (Err e)) → CallsTold (xs ++ ys) old new (end_of {T = U} (Err e))
disk_refused_more T U xs ys old new DiskFailed told = some_more xs ys old new AtFault told
disk_refused_more T U xs ys old new DiskStopped told = some_more xs ys old new AtStop told

-- a get is a settling, and then its reads
pub reads_behind : (T : Type 0) (w : Work) (reads : ℕ) (r : Result T StoreRefusal) (old mid new : Told) → AllTold (settling_of w) old mid
    → CallsTold (reads_due Idle reads r) mid new (end_of_store r) → CallsTold (reads_due w reads r) old new (end_of_store r)
reads_behind T w reads (Ok done) old mid new first told = all_more (settling_of w) (replicate reads Read) old mid new first told
reads_behind T w reads (Err Failed) old mid new first told = all_some (settling_of w) (replicate reads Read) old mid new AtFault first told
reads_behind T w reads (Err Stopped) old mid new first told = all_some (settling_of w) (replicate reads Read) old mid new AtStop first told
reads_behind T w reads (Err Full) old mid new first told = subst (AllTold (settling_of w) old) (sym told) first
reads_behind T w reads (Err (Damaged place)) old mid new first told = subst (AllTold (settling_of w) old) (sym told) first
reads_behind T w reads (Err OutOfMemory) old mid new first told = subst (AllTold (settling_of w) old) (sym told) first

pub reads_refused : (T U : Type 0) (w : Work) (reads : ℕ) (e : StoreRefusal) (old new : Told) → IsDiskRefusal e
    → CallsTold (settling_of w) old new (end_of_store {T = T} (Err e))
    → CallsTold (reads_due {T = U} w reads (Err e)) old new (end_of_store {T = U} (Err e))
reads_refused T U w reads Failed old new only told = some_more (settling_of w) (replicate reads Read) old new AtFault told
reads_refused T U w reads Stopped old new only told = some_more (settling_of w) (replicate reads Read) old new AtStop told
reads_refused T U w reads Full old new only told = told
reads_refused T U w reads (Damaged place) old new (inl e) told = absurd cc
reads_refused T U w reads (Damaged place) old new (inr e) told = absurd cc
reads_refused T U w reads OutOfMemory old new (inl e) told = absurd cc
reads_refused T U w reads OutOfMemory old new (inr e) told = absurd cc

pub ran_refused_as : (T U : Type 0) (settling calls : ℕ) (e : StoreRefusal) (before after : Counts)
    → Ran {T = T} settling calls (Err e) before after → Ran {T = U} settling calls (Err e) before after
ran_refused_as T U settling calls Failed before after r = record { made = r.made; number = r.number; counts = r.counts }
ran_refused_as T U settling calls Stopped before after r = record { made = r.made; number = r.number; counts = r.counts }
ran_refused_as T U settling calls Full before after r = record { made = r.made; number = r.number; counts = r.counts }
ran_refused_as T U settling calls (Damaged place) before after r = record { made = r.made; number = r.number; counts = r.counts }
ran_refused_as T U settling calls OutOfMemory before after r = record { made = r.made; number = r.number; counts = r.counts }

-- a call that was refused in its settling may be one of more calls
pub ran_refused_more : (T U : Type 0) (settling calls : ℕ) (e : StoreRefusal) (before after : Counts) → IsDiskRefusal e
    → Ran {T = T} settling 0 (Err e) before after → Ran {T = U} settling calls (Err e) before after
ran_refused_more T U settling calls Failed before after only r =
    record { made = r.made; number = (r.number.0, omega (arith, r.number.1)); counts = r.counts }
ran_refused_more T U settling calls Stopped before after only r =
    record { made = r.made; number = (r.number.0, omega (arith, r.number.1)); counts = r.counts }
ran_refused_more T U settling calls Full before after (inl e) r = absurd cc
ran_refused_more T U settling calls Full before after (inr e) r = absurd cc
ran_refused_more T U settling calls (Damaged place) before after (inl e) r = absurd cc
ran_refused_more T U settling calls (Damaged place) before after (inr e) r = absurd cc
ran_refused_more T U settling calls OutOfMemory before after (inl e) r = absurd cc
ran_refused_more T U settling calls OutOfMemory before after (inr e) r = absurd cc

pub read_stopped : (T U : Type 0) (clock : ℕ) (e : DiskRefusal) (old new : Told) → CallTold Read clock old new (end_of {T = T} (Err e))
    → CallsTold (reads_due {T = U} Idle 1 (Err (refused e))) old new (end_of_store {T = U} (Err (refused e)))
read_stopped T U clock DiskFailed old new told = inl (clock, told)
read_stopped T U clock DiskStopped old new told = inl (clock, told)

-- A settling leaves what a read sees, and makes no call where there is none.
pub settled_now : (w : Work) (old new : Told) → AllTold (settling_of w) old new → (contents new).now ≡ (contents old).now
settled_now Idle old new told = ap (λ t. (contents t).now) told
settled_now (Busy c made left) old new told = ap (λ t. (contents t).now) told
settled_now (Unsettled c synced) old new (mid, clock, sync, (last, later, read, same)) = ap (λ t. (contents t).now) same
    ∙ ap (λ t. (contents t).now) read ∙ ap (λ t. (contents t).now) sync

pub none_to_settle : (w : Work) → is_unsettled w ≡ false → settling_of w ≡ []
none_to_settle Idle u = refl
none_to_settle (Busy c made left) u = refl
none_to_settle (Unsettled c synced) u = absurd (false≢true (sym u))

two_to_settle : (w : Work) → is_unsettled w ≡ true → settling_of w ≡ Sync ∷ Read ∷ []
two_to_settle Idle u = absurd (false≢true u)
two_to_settle (Busy c made left) u = absurd (false≢true u)
two_to_settle (Unsettled c synced) u = refl

-- after its first call a settling has synced
pub has_synced : (w v : Work) (progress : Progress) → is_unsettled w ≡ true → is_synced w ≡ false → progress ≡ progress_at (is_synced w)
    → v ≡ work_stepped w (Ok progress) → is_synced v ≡ true
has_synced Idle v progress u s p e = absurd (false≢true u)
has_synced (Busy c made left) v progress u s p e = absurd (false≢true u)
has_synced (Unsettled c synced) v progress u s p e =
    ap is_synced (e ∙ ap (λ x. work_stepped (Unsettled c synced) (Ok x)) (p ∙ ap progress_at s))

-- a settling that was refused its sync, or its read, and a whole one
pub sync_was_refused : (w v : Work) (clock : ℕ) (old new : Told) (e : StoreRefusal) → is_unsettled w ≡ true → is_synced v ≡ false
    → IsDiskRefusal e →
    CallTold (settling_call (is_synced v)) clock old new (end_of_store {T = Progress} (Err e))
    → CallsTold (settling_of w) old new (end_of_store {T = Unit {0}} (Err e))
sync_was_refused w v clock old new e u unsynced only told =
    subst (λ l. CallsTold l old new (end_of_store {T = Unit {0}} (Err e))) (sym (two_to_settle w u))
    (refused_told_more (Unit {0}) (Unit {0}) (Sync ∷ []) (Read ∷ []) old new e only
    (call_told Progress (Unit {0}) Sync clock old new e only
    (subst (λ b. CallTold (settling_call b) clock old new (end_of_store {T = Progress} (Err e))) unsynced told)))

pub read_was_refused : (w v x : Work) (clock later : ℕ) (old mid new : Told) (e : StoreRefusal) → is_unsettled w ≡ true
    → is_synced v ≡ false → is_synced x ≡ true → IsDiskRefusal e →
    CallTold (settling_call (is_synced v)) clock old mid Fine
    → CallTold (settling_call (is_synced x)) later mid new (end_of_store {T = Progress} (Err e))
    → CallsTold (settling_of w) old new (end_of_store {T = Unit {0}} (Err e))
read_was_refused w v x clock later old mid new e u unsynced synced only first told =
    subst (λ l. CallsTold l old new (end_of_store {T = Unit {0}} (Err e))) (sym (two_to_settle w u))
    (calls_told_more (Sync ∷ []) (Read ∷ []) old mid new (end_of_store {T = Unit {0}} (Err e))
    (call_done Sync clock old mid (subst (λ b. CallTold (settling_call b) clock old mid Fine) unsynced first))
    (call_told Progress (Unit {0}) Read later mid new e only
    (subst (λ b. CallTold (settling_call b) later mid new (end_of_store {T = Progress} (Err e))) synced told)))

pub both_were_made : (w v x : Work) (clock later : ℕ) (old mid new : Told) → is_unsettled w ≡ true → is_synced v ≡ false
    → is_synced x ≡ true →
    CallTold (settling_call (is_synced v)) clock old mid Fine → CallTold (settling_call (is_synced x)) later mid new Fine
    → AllTold (settling_of w) old new
both_were_made w v x clock later old mid new u unsynced synced first told =
    subst (λ l. AllTold l old new) (sym (two_to_settle w u))
    (all_more (Sync ∷ []) (Read ∷ []) old mid new
    (call_done Sync clock old mid (subst (λ b. CallTold (settling_call b) clock old mid Fine) unsynced first))
    (call_done Read later mid new (subst (λ b. CallTold (settling_call b) later mid new Fine) synced told)))

-- A job has made some device calls, none of which was refused.
pub record Underway (tells obeys : Bool) (layout : Layout) (start here : Seen) : Type 0 where
  pub made : ℕ
  pub counts : DeviceCalls made start.disk.counts here.disk.counts Fine
  pub obeyed : IsTrue obeys → Obeyed start.disk.due here.disk.due start.disk.counts here.disk.counts Fine
  pub timed : IsTrue tells → Timed start.disk.counts.clock start.disk.told here.disk.counts.clock here.disk.told
  pub done : List DiskCall
  pub order : job_left start.work ≡ done ++ job_left here.work
  pub told : IsTrue tells → AllTold done start.disk.told here.disk.told
  pub node : here.node ≡ start.node
  pub picked : here.picked ≡ start.picked
  pub more : here.more ≡ start.more
  pub busy : is_busy here.work ≡ true
  pub change : change_in here.work ≡ change_in start.work
  pub left : calls_left start.work ≡ made + calls_left here.work
  pub some : 1 ≤ calls_left here.work
  pub kept : IsTrue tells → here.kept ≡ start.kept
  pub moments : IsTrue tells → (here.disk.told ≡ start.disk.told)
      ⊎ EachMoment (Stands layout start.node start.more start.kept (changes_in (change_in start.work))) start.disk.told here.disk.told

join_on : (P : List ℕ → Type 0) (old mid new : Told) → (mid ≡ old) ⊎ EachMoment P old mid → EachMoment P mid new → EachMoment P old new
join_on P old mid new (inl same) each = subst (λ x. EachMoment P x new) same each
join_on P old mid new (inr before) each = moments_join P old mid new before each

-- what is in doubt in a call of a job is its change, or nothing yet
doubt_or_change : (layout : Layout) (n f : ℕ) (kept : Kept) (w : Work) (old new : Told)
    → EachMoment (Stands layout n f kept (changes_in (doubt_in w))) old new
    → EachMoment (Stands layout n f kept (changes_in (change_in w))) old new
doubt_or_change layout n f kept Idle old new each = each
doubt_or_change layout n f kept (Busy c zero left) old new each =
    moments_weaker (Stands layout n f kept []) (Stands layout n f kept (c ∷ [])) old new
    (λ image h. stands_weaker layout n f kept kept [] (c ∷ []) image (λ is. inl is) h) each
doubt_or_change layout n f kept (Busy c (suc made) left) old new each = each
doubt_or_change layout n f kept (Unsettled c synced) old new each = each

-- one more call of the job
pub on_moments : (tells obeys : Bool) (layout : Layout) (start here : Seen) (new : Told) → IsTrue tells
    → Underway tells obeys layout start here →
    EachMoment (Stands layout here.node here.more here.kept (changes_in (doubt_in here.work))) here.disk.told new →
    EachMoment (Stands layout start.node start.more start.kept (changes_in (change_in start.work))) start.disk.told new
on_moments tells obeys layout start here new so u each =
    join_on (Stands layout start.node start.more start.kept (changes_in (change_in start.work))) start.disk.told here.disk.told new
    (u.moments so)
    (as_before layout start.node here.node start.more here.more start.kept here.kept (change_in start.work) (change_in here.work)
    here.disk.told new u.node u.more (u.kept so) u.change
    (doubt_or_change layout here.node here.more here.kept here.work here.disk.told new each))

pub on_ran : (T U : Type 0) → (tells obeys : Bool) (layout : Layout) (start here : Seen) (after : Counts) (e : StoreRefusal)
    → Underway tells obeys layout start here →
    IsDiskRefusal e → DeviceCalls 1 here.disk.counts after (end_of_store {T = T} (Err e))
    → Ran {T = U} 0 (calls_left start.work) (Err e) start.disk.counts after
on_ran T U tells obeys layout start here after e u r d =
    refused_ran T U 0 (calls_left start.work) (u.made + 1) e start.disk.counts after r (omega arith) (omega (arith, u.left, u.some))
    (calls_more u.made 1 start.disk.counts here.disk.counts after _ u.counts d)

-- the work after a call that is not the last
advanced_on : (v x : Work) → is_busy v ≡ true → 1 ≤ calls_left v → Going ≡ progress_at (nat_le (calls_left v) 1)
    → x ≡ work_advanced v (Ok Going) →
    (is_busy x ≡ true) × (change_in x ≡ change_in v) × (calls_left v ≡ 1 + calls_left x) × (1 ≤ calls_left x)
advanced_on Idle x busy some last e = absurd (false≢true busy)
advanced_on (Busy c made []) x busy some last e = absurd (omega (arith, some))
advanced_on (Busy c made (call ∷ [])) x busy some last e = absurd cc
advanced_on (Busy c made (call ∷ (next ∷ left))) x busy some last e =
    (ap is_busy e, ap change_in e, omega (arith, ap calls_left e), omega (arith, ap calls_left e))
advanced_on (Unsettled c synced) x busy some last e = absurd (false≢true busy)

-- the call that it made is the next of those that the job had left
advanced_call : (v x : Work) (clock : ℕ) (old new : Told) → is_busy v ≡ true → 1 ≤ calls_left v
    → Going ≡ progress_at (nat_le (calls_left v) 1) → x ≡ work_advanced v (Ok Going) →
    (call : DiskCall) × (job_left v ≡ call ∷ job_left x) × (NextTold v clock old new Fine → CallTold call clock old new Fine)
advanced_call Idle x clock old new busy some last e = absurd (false≢true busy)
advanced_call (Busy c made []) x clock old new busy some last e = absurd (omega (arith, some))
advanced_call (Busy c made (call ∷ [])) x clock old new busy some last e = absurd cc
advanced_call (Busy c made (call ∷ (next ∷ left))) x clock old new busy some last e =
    (call, ap (λ l. call ∷ l) (sym (ap job_left e)), λ told. told)
advanced_call (Unsettled c synced) x clock old new busy some last e = absurd (false≢true busy)

two_is_more : (n : ℕ) → nat_le (suc (suc n)) 1 ≡ true → ⊥
two_is_more n e = let t : nat_le (suc (suc n)) 1 ≡ false = grind (arith, nat_tests) in false≢true (sym t ∙ e)

-- the last call of a job
last_call : (v : Work) (clock : ℕ) (old new : Told) → is_busy v ≡ true → 1 ≤ calls_left v → nat_le (calls_left v) 1 ≡ true
    → NextTold v clock old new Fine → AllTold (job_left v) old new
last_call Idle clock old new busy some last told = absurd (false≢true busy)
last_call (Busy c made []) clock old new busy some last told = absurd (omega (arith, some))
last_call (Busy c made (call ∷ [])) clock old new busy some last told = call_done call clock old new told
last_call (Busy c made (call ∷ (next ∷ left))) clock old new busy some last told = absurd (two_is_more (length left) last)
last_call (Unsettled c synced) clock old new busy some last told = absurd (false≢true busy)

-- a call of a job that was refused
stopped_call : (T U : Type 0) (v : Work) (clock : ℕ) (old new : Told) (e : StoreRefusal) → is_busy v ≡ true → 1 ≤ calls_left v
    → IsDiskRefusal e → NextTold v clock old new (end_of_store {T = T} (Err e))
    → CallsTold (job_left v) old new (end_of_store {T = U} (Err e))
stopped_call T U Idle clock old new e busy some only told = absurd (false≢true busy)
stopped_call T U (Busy c made []) clock old new e busy some only told = absurd (omega (arith, some))
stopped_call T U (Busy c made (call ∷ left)) clock old new e busy some only told =
    refused_told_more U U (call ∷ []) left old new e only (call_told T U call clock old new e only told)
stopped_call T U (Unsettled c synced) clock old new e busy some only told = absurd (false≢true busy)

by_last : (b : Bool) → Done ≡ progress_at b → b ≡ true
by_last true p = refl
by_last false p = absurd cc

done_last : (n : ℕ) → Done ≡ progress_at (nat_le n 1) → nat_le n 1 ≡ true
done_last n e = by_last (nat_le n 1) e

-- all calls of a job that went on to its end, and those of one that was refused
pub all_told : (tells obeys : Bool) (layout : Layout) (start here : Seen) (clock : ℕ) (new : Told) → IsTrue tells
    → Underway tells obeys layout start here →
    Done ≡ progress_at (nat_le (calls_left here.work) 1) → NextTold here.work clock here.disk.told new Fine
    → AllTold (job_left start.work) start.disk.told new
all_told tells obeys layout start here clock new so u last told =
    subst (λ l. AllTold l start.disk.told new) (sym u.order)
    (all_more u.done (job_left here.work) start.disk.told here.disk.told new (u.told so)
    (last_call here.work clock here.disk.told new u.busy u.some (done_last (calls_left here.work) last) told))

pub stopped_told : (T U : Type 0) (tells obeys : Bool) (layout : Layout) (start here : Seen) (clock : ℕ) (new : Told) (e : StoreRefusal)
    → IsTrue tells → Underway tells obeys layout start here →
    IsDiskRefusal e → NextTold here.work clock here.disk.told new (end_of_store {T = T} (Err e))
    → CallsTold (job_left start.work) start.disk.told new (end_of_store {T = U} (Err e))
stopped_told T U tells obeys layout start here clock new e so u only told =
    subst (λ l. CallsTold l start.disk.told new (end_of_store {T = U} (Err e))) (sym u.order)
    (calls_told_more u.done (job_left here.work) start.disk.told here.disk.told new (end_of_store {T = U} (Err e)) (u.told so)
    (stopped_call T U here.work clock here.disk.told new e u.busy u.some only told))

same_shown : (v : Work) (s : Kept) → kept_advanced v s (Ok Going) ≡ s
same_shown Idle s = refl
same_shown (Busy c made left) s = refl
same_shown (Unsettled c synced) s = refl

-- the job goes on
pub goes_on : (tells obeys : Bool) (layout : Layout) (start here next : Seen) → Underway tells obeys layout start here
    → Advances tells obeys layout (Ok Going) here next → Underway tells obeys layout start next
goes_on tells obeys layout start here next u a =
    let b = advanced_on here.work next.work u.busy u.some a.last a.work in
    let call = advanced_call here.work next.work next.disk.counts.clock here.disk.told next.disk.told u.busy u.some a.last a.work in
    record {
      made = u.made + 1;
      counts = calls_more u.made 1 start.disk.counts here.disk.counts next.disk.counts Fine u.counts a.counts;
      done = u.done ++ call.0 ∷ [];
      order = u.order ∙ ap (λ l. u.done ++ l) call.1 ∙ sym (append_assoc u.done (call.0 ∷ []) (job_left next.work));
      told = λ so. all_more u.done (call.0 ∷ []) start.disk.told here.disk.told next.disk.told (u.told so)
          (call_done call.0 next.disk.counts.clock here.disk.told next.disk.told (call.2 (a.told so)));
      timed = λ so. timed_join start.disk.counts.clock here.disk.counts.clock next.disk.counts.clock start.disk.told here.disk.told
          next.disk.told (u.timed so) (a.goes.timed so);
      obeyed = λ so. obeyed_more u.made 1 start.disk.due here.disk.due next.disk.due start.disk.counts here.disk.counts next.disk.counts
          Fine u.counts a.counts (u.obeyed so) (a.goes.obeyed so);
      node = a.goes.node ∙ u.node;
      picked = a.picked ∙ u.picked;
      more = a.more ∙ u.more;
      busy = b.0;
      change = b.1 ∙ u.change;
      left = omega (arith, u.left, b.2);
      some = b.3;
      kept = λ so. a.kept so ∙ same_shown here.work here.kept ∙ u.kept so;
      moments = λ so. inr (on_moments tells obeys layout start here next.disk.told so u (a.moments so));
    }

last_left : (n : ℕ) → 1 ≤ n → Done ≡ progress_at (nat_le n 1) → n ≡ 1
last_left n some last = let t : nat_le n 1 ≡ true = done_last n last in grind (arith, nat_tests)

done_work : (v w : Work) → is_busy v ≡ true → is_busy w ≡ true → work_advanced v (Ok Done) ≡ work_finished {T = Unit {0}} w (Ok tt)
done_work (Busy c made left) (Busy d more rest) v w = refl
done_work (Busy c made left) Idle v w = absurd (false≢true w)
done_work (Busy c made left) (Unsettled d synced) v w = absurd (false≢true w)
done_work Idle x v w = absurd (false≢true v)
done_work (Unsettled c synced) x v w = absurd (false≢true v)

stopped_work : (v w : Work) (e : StoreRefusal) → is_busy v ≡ true → is_busy w ≡ true → change_in v ≡ change_in w
    → work_advanced v (Err e) ≡ work_finished {T = Unit {0}} w (Err e)
stopped_work (Busy c made left) (Busy d more rest) e v w same = let one : c ≡ d = cc in ap (λ x. Unsettled x false) one
stopped_work (Busy c made left) Idle e v w same = absurd (false≢true w)
stopped_work (Busy c made left) (Unsettled d synced) e v w same = absurd (false≢true w)
stopped_work Idle x e v w same = absurd (false≢true v)
stopped_work (Unsettled c synced) x e v w same = absurd (false≢true v)

done_kept : (v w : Work) (t s : Kept) → is_busy v ≡ true → is_busy w ≡ true → change_in v ≡ change_in w → t ≡ s
    → kept_advanced v t (Ok Done) ≡ kept_finished {T = Unit {0}} w s (Ok tt)
done_kept (Busy c made left) (Busy d more rest) t s v w same kept = let one : c ≡ d = cc in ap (λ x. kept_after x t) one
    ∙ ap (kept_after d) kept
done_kept (Busy c made left) Idle t s v w same kept = absurd (false≢true w)
done_kept (Busy c made left) (Unsettled d synced) t s v w same kept = absurd (false≢true w)
done_kept Idle x t s v w same kept = absurd (false≢true v)
done_kept (Unsettled c synced) x t s v w same kept = absurd (false≢true v)

stopped_kept : (v w : Work) (t s : Kept) (e : StoreRefusal) → is_busy v ≡ true → is_busy w ≡ true → t ≡ s
    → kept_advanced v t (Err e) ≡ kept_finished {T = Unit {0}} w s (Err e)
stopped_kept (Busy c made left) (Busy d more rest) t s e v w kept = kept
stopped_kept (Busy c made left) Idle t s e v w kept = absurd (false≢true w)
stopped_kept (Busy c made left) (Unsettled d synced) t s e v w kept = absurd (false≢true w)
stopped_kept Idle x t s e v w kept = absurd (false≢true v)
stopped_kept (Unsettled c synced) x t s e v w kept = absurd (false≢true v)

-- a refusal ends a call alike, whatever the call would have answered
pub end_alike : (T U : Type 0) (e : StoreRefusal) → end_of_store {T = T} (Err e) ≡ end_of_store {T = U} (Err e)
end_alike T U Failed = refl
end_alike T U Stopped = refl
end_alike T U Full = refl
end_alike T U (Damaged place) = refl
end_alike T U OutOfMemory = refl

pub obeyed_alike : (T U : Type 0) (e : StoreRefusal) (old new : Due) (before after : Counts)
    → Obeyed old new before after (end_of_store {T = T} (Err e)) → Obeyed old new before after (end_of_store {T = U} (Err e))
obeyed_alike T U e old new before after o = subst (Obeyed old new before after) (end_alike T U e) o

pub counts_alike : (T U : Type 0) (e : StoreRefusal) (made : ℕ) (before after : Counts)
    → DeviceCalls made before after (end_of_store {T = T} (Err e)) → DeviceCalls made before after (end_of_store {T = U} (Err e))
counts_alike T U e made before after d = subst (DeviceCalls made before after) (end_alike T U e) d

pub made_alike : (T U : Type 0) (e : StoreRefusal) (calls made : ℕ) → OpeningMade {S = T} calls (Err e) made
    → OpeningMade {S = U} calls (Err e) made
made_alike T U Failed calls made m = m
made_alike T U Stopped calls made m = m
made_alike T U Full calls made m = m
made_alike T U (Damaged place) calls made m = m
made_alike T U OutOfMemory calls made m = m

pub opening_alike : (T U : Type 0) (e : StoreRefusal) (calls : List DiskCall) (old new : Told) → OpeningTold {S = T} calls old new (Err e)
    → OpeningTold {S = U} calls old new (Err e)
opening_alike T U Failed calls old new told = told
opening_alike T U Stopped calls old new told = told
opening_alike T U Full calls old new told = told
opening_alike T U (Damaged place) calls old new told = told
opening_alike T U OutOfMemory calls old new told = told

-- an image that is not overfull is not refused as one
pub unless_full : (T : Type 0) (e : StoreRefusal) → (e ≡ Full → ⊥) → IsOverfullBy {S = T} false (Err e)
unless_full T Failed never = tt
unless_full T Stopped never = tt
unless_full T Full never = absurd (never refl)
unless_full T (Damaged place) never = refl
unless_full T OutOfMemory never = tt

-- the last call of the job
pub last_done : (tells obeys : Bool) (layout : Layout) (start here next : Seen) → is_busy start.work ≡ true
    → Underway tells obeys layout start here → Advances tells obeys layout (Ok Done) here next
    → Finishes tells obeys layout (Ok tt) start next
last_done tells obeys layout start here next busy u a = record {
  goes = record {
    node = a.goes.node ∙ u.node;
    obeyed = λ so. obeyed_more u.made 1 start.disk.due here.disk.due next.disk.due start.disk.counts here.disk.counts next.disk.counts Fine
        u.counts a.counts (u.obeyed so) (a.goes.obeyed so);
    timed = λ so. timed_join start.disk.counts.clock here.disk.counts.clock next.disk.counts.clock start.disk.told here.disk.told
        next.disk.told (u.timed so) (a.goes.timed so);
    stands = a.goes.stands;
  };
  only = tt;
  ran = record {
    made = u.made + 1;
    number = omega (arith, u.left, last_left (calls_left here.work) u.some a.last);
    counts =
        calls_more u.made 1 start.disk.counts here.disk.counts next.disk.counts Fine u.counts a.counts;
  };
  order = λ so. all_told tells obeys layout start here next.disk.counts.clock next.disk.told so u a.last (a.told so);
  work = a.work ∙ done_work here.work start.work u.busy busy;
  picked = a.picked ∙ u.picked;
  more = a.more ∙ u.more;
  kept = λ so. a.kept so ∙ done_kept here.work start.work here.kept start.kept u.busy busy u.change (u.kept so);
  moments = λ so. on_moments tells obeys layout start here next.disk.told so u (a.moments so);
}

-- a call of the job that was refused
pub last_refused : (tells obeys : Bool) (layout : Layout) (start here next : Seen) (e : StoreRefusal) → is_busy start.work ≡ true
    → Underway tells obeys layout start here → Advances tells obeys layout (Err e) here next
    → Finishes tells obeys layout (Err e) start next
last_refused tells obeys layout start here next e busy u a = record {
  goes = record {
    node = a.goes.node ∙ u.node;
    obeyed = λ so. obeyed_alike Progress (Unit {0}) e start.disk.due next.disk.due start.disk.counts next.disk.counts
        (obeyed_more u.made 1 start.disk.due here.disk.due next.disk.due start.disk.counts here.disk.counts next.disk.counts _ u.counts
        a.counts (u.obeyed so) (a.goes.obeyed so));
    timed = λ so. timed_join start.disk.counts.clock here.disk.counts.clock next.disk.counts.clock start.disk.told here.disk.told
        next.disk.told (u.timed so) (a.goes.timed so);
    stands = a.goes.stands;
  };
  only = a.only;
  ran = on_ran Progress (Unit {0}) tells obeys layout start here next.disk.counts e u a.only a.counts;
  order = λ so. stopped_told Progress (Unit {0}) tells obeys layout start here next.disk.counts.clock next.disk.told e so u a.only
      (a.told so);
  work = a.work ∙ stopped_work here.work start.work e u.busy busy u.change;
  picked = a.picked ∙ u.picked;
  more = a.more ∙ u.more;
  kept = λ so. a.kept so ∙ stopped_kept here.work start.work here.kept start.kept e u.busy busy (u.kept so);
  moments = λ so. on_moments tells obeys layout start here next.disk.told so u (a.moments so);
}

pub ran_join : (T U : Type 0) (settling calls : ℕ) (done : U) (r : Result T StoreRefusal) (before between after : Counts)
    → Ran {T = U} settling 0 (Ok done) before between → Ran {T = T} 0 calls r between after → Ran {T = T} settling calls r before after
ran_join T U settling calls done (Ok x) before between after a b =
    record {
      made = a.made + b.made;
      number = omega (arith, a.number, b.number);
      counts =
          calls_more a.made b.made before between after _ a.counts b.counts;
    }
ran_join T U settling calls done (Err Failed) before between after a b =
    record {
      made = a.made + b.made;
      number = (omega (arith, a.number, b.number.0), omega (arith, a.number, b.number.1));
      counts =
          calls_more a.made b.made before between after _ a.counts b.counts;
    }
ran_join T U settling calls done (Err Stopped) before between after a b =
    record {
      made = a.made + b.made;
      number = (omega (arith, a.number, b.number.0), omega (arith, a.number, b.number.1));
      counts =
          calls_more a.made b.made before between after _ a.counts b.counts;
    }
ran_join T U settling calls done (Err Full) before between after a b =
    record {
      made = a.made + b.made;
      number = omega (arith, a.number, b.number);
      counts =
          calls_more a.made b.made before between after _ a.counts b.counts;
    }
ran_join T U settling calls done (Err (Damaged place)) before between after a b =
    record {
      made = a.made + b.made;
      number = omega (arith, a.number, b.number);
      counts =
          calls_more a.made b.made before between after _ a.counts b.counts;
    }
ran_join T U settling calls done (Err OutOfMemory) before between after a b =
    record {
      made = a.made + b.made;
      number = omega (arith, a.number, b.number);
      counts =
          calls_more a.made b.made before between after _ a.counts b.counts;
    }

-- what stands for the settled state stands for the one before it
pub settled_back : (pick : Option Pick) (w : Work) (s : Kept) (found : Result Kept ℕ) → IfSome (doubt_in w) (λ c. IsFresh c s) →
    IsAnyOf (settled pick w s) (changes_in (doubt_in (work_settled pick w))) found → IsAnyOf s (changes_in (doubt_in w)) found
settled_back None Idle s found fresh is = is
settled_back (Some Old) Idle s found fresh is = is
settled_back (Some New) Idle s found fresh is = is
settled_back None (Busy c made left) s found fresh is = is
settled_back (Some Old) (Busy c made left) s found fresh is = is
settled_back (Some New) (Busy c made left) s found fresh is = is
settled_back None (Unsettled c synced) s found fresh is = is
settled_back (Some Old) (Unsettled c synced) s found fresh is = inl is
settled_back (Some New) (Unsettled c synced) s found fresh is = inr (fresh, is)

-- a settling has two calls
settling_two : (w : Work) → is_unsettled w ≡ true → settling_calls w ≡ 2
settling_two Idle u = absurd (false≢true u)
settling_two (Busy c made left) u = absurd (false≢true u)
settling_two (Unsettled c synced) u = refl

stepped_refused : (w v : Work) (pick : Option Pick) (e : StoreRefusal) → is_unsettled w ≡ true → is_some pick ≡ false
    → v ≡ work_stepped w (Err e) → v ≡ work_settled pick w
stepped_refused Idle v pick e u none is = absurd (false≢true u)
stepped_refused (Busy c made left) v pick e u none is = absurd (false≢true u)
stepped_refused (Unsettled c synced) v None e u none is = is
stepped_refused (Unsettled c synced) v (Some pick) e u none is = absurd (false≢true (sym none))

-- after its sync the same change is in doubt
stepped_on : (w v : Work) (p : Progress) → is_unsettled w ≡ true → is_synced w ≡ false → p ≡ progress_at (is_synced w)
    → v ≡ work_stepped w (Ok p) → (c : StoreChange) × (w ≡ Unsettled c false) × (v ≡ Unsettled c true)
stepped_on Idle v p u n last is = absurd (false≢true u)
stepped_on (Busy c made left) v p u n last is = absurd (false≢true u)
stepped_on (Unsettled c synced) v p u n last is =
    (c, ap (λ b. Unsettled c b) n, is ∙ ap (λ x. work_stepped (Unsettled c synced) (Ok x)) (last ∙ ap progress_at n))

stepped_done : (c : StoreChange) (w v x : Work) (q : Progress) (pick : Option Pick) → w ≡ Unsettled c false → v ≡ Unsettled c true
    → q ≡ progress_at (is_synced v) → is_some pick ≡ (true && is_synced v) → x ≡ work_stepped v (Ok q) → x ≡ work_settled pick w
stepped_done c w v x q None ew ev last found is = absurd (false≢true (found ∙ ap is_synced ev))
stepped_done c w v x q (Some pick) ew ev last found is =
    is ∙ ap (λ y. work_stepped v (Ok y)) (last ∙ ap (λ (y : Work). progress_at (is_synced y)) ev)
    ∙ ap (λ (y : Work). work_stepped y (Ok Done)) ev ∙ sym (ap (work_settled (Some pick)) ew)

stepped_stopped : (c : StoreChange) (w v x : Work) (e : StoreRefusal) (pick : Option Pick) → w ≡ Unsettled c false → v ≡ Unsettled c true
    → is_some pick ≡ false → x ≡ work_stepped v (Err e) → x ≡ work_settled pick w
stepped_stopped c w v x e None ew ev none is = is ∙ ap (λ (y : Work). work_stepped y (Err e)) ev ∙ sym (ap (work_settled None) ew)
stepped_stopped c w v x e (Some pick) ew ev none is = absurd (false≢true (sym none))

same_settled : (pick : Option Pick) (c : StoreChange) (a b : Bool) (s : Kept)
    → settled pick (Unsettled c a) s ≡ settled pick (Unsettled c b) s
same_settled None c a b s = refl
same_settled (Some Old) c a b s = refl
same_settled (Some New) c a b s = refl

stepped_kept : (c : StoreChange) (w v : Work) (pick : Option Pick) (s t : Kept) → w ≡ Unsettled c false → v ≡ Unsettled c true → t ≡ s
    → settled pick v t ≡ settled pick w s
stepped_kept c w v pick s t ew ev kept = ap (settled pick v) kept ∙ ap (λ (x : Work). settled pick x s) ev
    ∙ same_settled pick c true false s ∙ sym (ap (λ (x : Work). settled pick x s) ew)

-- a settling that was refused its sync
pub sync_refused : (tells obeys : Bool) (layout : Layout) (old new : Seen) (e : StoreRefusal) → is_unsettled old.work ≡ true
    → is_synced old.work ≡ false → SettlesOneCall tells obeys layout (Err e) old new → Settled tells obeys layout (Err e) old new
sync_refused tells obeys layout old new e u n a = record {
  goes = record {
    node = a.goes.node;
    obeyed =
        λ so. obeyed_alike Progress (Unit {0}) e old.disk.due new.disk.due old.disk.counts new.disk.counts (a.goes.obeyed so);
    timed =
        a.goes.timed;
    stands = a.goes.stands;
  };
  only = a.only;
  refused = u;
  ran = subst (λ m. Ran {T = Unit {0}} m 0 (Err e) old.disk.counts new.disk.counts) (sym (settling_two old.work u))
      (refused_ran Progress (Unit {0}) 2 0 1 e old.disk.counts new.disk.counts a.only (omega arith) (omega arith) a.counts);
  order = λ so. sync_was_refused old.work old.work new.disk.counts.clock old.disk.told new.disk.told e u n a.only (a.told so);
  work = stepped_refused old.work new.work new.picked e u a.picked a.work;
  picked = a.picked;
  more = a.more;
  at = a.at;
  kept = a.kept;
  fresh = a.fresh;
  moments = a.moments;
}

-- one that was refused its read
pub read_refused : (tells obeys : Bool) (layout : Layout) (old mid new : Seen) (p : Progress) (e : StoreRefusal)
    → is_unsettled old.work ≡ true → is_synced old.work ≡ false →
    SettlesOneCall tells obeys layout (Ok p) old mid → SettlesOneCall tells obeys layout (Err e) mid new
    → Settled tells obeys layout (Err e) old new
read_refused tells obeys layout old mid new p e u n a b =
    let on = stepped_on old.work mid.work p u n a.last a.work in
    let same : IsTrue tells → mid.kept ≡ old.kept = λ so. none_settled mid.picked old.work old.kept mid.kept a.picked n (a.kept so) in
    record {
      goes = record {
        node = b.goes.node ∙ a.goes.node;
        obeyed = λ so. obeyed_alike Progress (Unit {0}) e old.disk.due new.disk.due old.disk.counts new.disk.counts
            (obeyed_more 1 1 old.disk.due mid.disk.due new.disk.due old.disk.counts mid.disk.counts new.disk.counts _ a.counts b.counts
            (a.goes.obeyed so) (b.goes.obeyed so));
        timed = λ so. timed_join old.disk.counts.clock mid.disk.counts.clock new.disk.counts.clock old.disk.told mid.disk.told
            new.disk.told (a.goes.timed so) (b.goes.timed so);
        stands = b.goes.stands;
      };
      only = b.only;
      refused = u;
      ran = subst (λ m. Ran {T = Unit {0}} m 0 (Err e) old.disk.counts new.disk.counts) (sym (settling_two old.work u))
          (refused_ran Progress (Unit {0}) 2 0 2 e old.disk.counts new.disk.counts b.only (omega arith) (omega arith)
          (calls_more 1 1 old.disk.counts mid.disk.counts new.disk.counts _ a.counts b.counts));
      order = λ so. read_was_refused old.work old.work mid.work mid.disk.counts.clock new.disk.counts.clock old.disk.told mid.disk.told
          new.disk.told e u n (ap is_synced on.2) b.only (a.told so) (b.told so);
      work = stepped_stopped on.0 old.work mid.work new.work e new.picked on.1 on.2 b.picked b.work;
      picked = b.picked;
      more = b.more ∙ a.more;
      at = b.at ∙ a.at;
      kept = λ so. b.kept so ∙ stepped_kept on.0 old.work mid.work new.picked old.kept mid.kept on.1 on.2 (same so);
      fresh = a.fresh;
      moments = λ so. moments_join (Stands layout old.node old.more old.kept (changes_in (doubt_in old.work))) old.disk.told mid.disk.told
          new.disk.told (a.moments so)
          (as_before layout old.node mid.node old.more mid.more old.kept mid.kept (doubt_in old.work) (doubt_in mid.work) mid.disk.told
          new.disk.told a.goes.node a.more (same so) (ap doubt_in on.2 ∙ sym (ap doubt_in on.1)) (b.moments so));
    }

-- and a whole one
pub both_settled : (tells obeys : Bool) (layout : Layout) (old mid new : Seen) (p q : Progress) → is_unsettled old.work ≡ true
    → is_synced old.work ≡ false →
    SettlesOneCall tells obeys layout (Ok p) old mid → SettlesOneCall tells obeys layout (Ok q) mid new
    → Settled tells obeys layout (Ok tt) old new
both_settled tells obeys layout old mid new p q u n a b =
    let on = stepped_on old.work mid.work p u n a.last a.work in
    let same : IsTrue tells → mid.kept ≡ old.kept = λ so. none_settled mid.picked old.work old.kept mid.kept a.picked n (a.kept so) in
    record {
      goes = record {
        node = b.goes.node ∙ a.goes.node;
        obeyed = λ so. obeyed_more 1 1 old.disk.due mid.disk.due new.disk.due old.disk.counts mid.disk.counts new.disk.counts Fine a.counts
            b.counts (a.goes.obeyed so) (b.goes.obeyed so);
        timed = λ so. timed_join old.disk.counts.clock mid.disk.counts.clock new.disk.counts.clock old.disk.told mid.disk.told
            new.disk.told (a.goes.timed so) (b.goes.timed so);
        stands = b.goes.stands;
      };
      only = tt;
      refused = tt;
      ran = record {
        made = 2;
        number = omega (arith, settling_two old.work u);
        counts =
            calls_more 1 1 old.disk.counts mid.disk.counts new.disk.counts Fine a.counts b.counts;
      };
      order = λ so. both_were_made old.work old.work mid.work mid.disk.counts.clock new.disk.counts.clock old.disk.told mid.disk.told
          new.disk.told u n (ap is_synced on.2) (a.told so) (b.told so);
      work = stepped_done on.0 old.work mid.work new.work q new.picked on.1 on.2 b.last b.picked b.work;
      picked = b.picked ∙ ap (λ x. true && x) (ap is_synced on.2 ∙ sym u);
      more = b.more ∙ a.more;
      at = b.at ∙ a.at;
      kept = λ so. b.kept so ∙ stepped_kept on.0 old.work mid.work new.picked old.kept mid.kept on.1 on.2 (same so);
      fresh = a.fresh;
      moments = λ so. moments_join (Stands layout old.node old.more old.kept (changes_in (doubt_in old.work))) old.disk.told mid.disk.told
          new.disk.told (a.moments so)
          (as_before layout old.node mid.node old.more mid.more old.kept mid.kept (doubt_in old.work) (doubt_in mid.work) mid.disk.told
          new.disk.told a.goes.node a.more (same so) (ap doubt_in on.2 ∙ sym (ap doubt_in on.1)) (b.moments so));
    }
