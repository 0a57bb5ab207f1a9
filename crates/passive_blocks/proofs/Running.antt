-- Device calls that are made one behind the other, and may end where memory is wanting.
use Rattle.std.specs.Prelude.{◌≡◌, ◌⊎◌, ℕ, ◌+◌, Bool, true, IsTrue, List, [], ◌++◌, length, Result, Ok, Err}
use Rattle.std.proofs.Common.{refl, sym, ap, subst, ◌∙◌, inl, inr, arith, length-append}
use Rattle.std.proofs.lemmas.List.{append_assoc, append-nil}
use Rattle.eden_disk.specs.declared.disk.DiskRefusal.{DiskRefusal}
use Rattle.eden_disk.specs.declared.disk.DiskRefusal.TheVariants.{Failed as DiskFailed, Stopped as DiskStopped}
use Rattle.eden_disk.specs.Told.{Told}
use Rattle.eden_disk.specs.Calls.{Fine, AtFault, AtStop, end_of}
use Rattle.eden_disk.proofs.Held.{calls_none, calls_more, obeyed_none, obeyed_more}
use Rattle.eden_disk.proofs.Timed.{timed_join}
use Rattle.passive_store.specs.declared.store.StoreRefusal.{StoreRefusal}
use Rattle.passive_store.specs.declared.store.StoreRefusal.TheVariants.{Failed, Stopped, Full, Damaged, OutOfMemory}
use Rattle.passive_store.specs.Acts.{DiskCall, AllTold}
use Rattle.passive_store.specs.Kept.{OpeningMade, OpeningTold, IsDiskRefusal, refused}
use Rattle.passive_store.specs.Seen.{DiskSeen}
use Rattle.passive_store.proofs.Joining.{all_more, all_some, some_more, timed_still, counts_alike, obeyed_alike}
use Rattle.passive_blocks.specs.Making.{Makes, Runs}

-- 1. How they end

-- a refusal behind which calls may be left
abbrev pub EndsEarly : StoreRefusal → Type 0
EndsEarly Failed = Unit {0}
EndsEarly Stopped = Unit {0}
EndsEarly Full = ⊥
EndsEarly (Damaged place) = ⊥
EndsEarly OutOfMemory = Unit {0}

pub ends_early : (e : StoreRefusal) → IsDiskRefusal e ⊎ (e ≡ OutOfMemory) → EndsEarly e
ends_early Failed only = tt
ends_early Stopped only = tt
ends_early Full (inl (inl is)) = absurd cc
ends_early Full (inl (inr is)) = absurd cc
ends_early Full (inr is) = absurd cc
ends_early (Damaged place) (inl (inl is)) = absurd cc
ends_early (Damaged place) (inl (inr is)) = absurd cc
ends_early (Damaged place) (inr is) = absurd cc
ends_early OutOfMemory only = tt

pub refused_early : (e : DiskRefusal) → EndsEarly (refused e)
refused_early DiskFailed = tt
refused_early DiskStopped = tt

pub refused_is : (e : DiskRefusal) → IsDiskRefusal (refused e)
refused_is DiskFailed = inl refl
refused_is DiskStopped = inr refl

made_more : (T : Type 0) (m n made more : ℕ) (r : Result T StoreRefusal) → made ≡ m → OpeningMade n r more
    → OpeningMade (m + n) r (made + more)
made_more T m n made more (Ok x) a b = omega (arith, a, b)
made_more T m n made more (Err Failed) a b = omega (arith, b)
made_more T m n made more (Err Stopped) a b = omega (arith, b)
made_more T m n made more (Err Full) a b = omega (arith, a, b)
made_more T m n made more (Err (Damaged place)) a b = omega (arith, a, b)
made_more T m n made more (Err OutOfMemory) a b = tt

told_more : (T : Type 0) (xs ys : List DiskCall) (old mid new : Told) (r : Result T StoreRefusal) → AllTold xs old mid
    → OpeningTold ys mid new r → OpeningTold (xs ++ ys) old new r
told_more T xs ys old mid new (Ok x) a b = all_more xs ys old mid new a b
told_more T xs ys old mid new (Err Failed) a b = all_some xs ys old mid new AtFault a b
told_more T xs ys old mid new (Err Stopped) a b = all_some xs ys old mid new AtStop a b
told_more T xs ys old mid new (Err Full) a b = all_more xs ys old mid new a b
told_more T xs ys old mid new (Err (Damaged place)) a b = all_more xs ys old mid new a b
told_more T xs ys old mid new (Err OutOfMemory) a b =
    (xs ++ b.0, b.1, ap (λ l. xs ++ l) b.2 ∙ sym (append_assoc xs b.0 b.1), all_more xs b.0 old mid new a b.3)

-- 2. Calls of a disk, none, and those behind others

pub runs_whole : (T : Type 0) (x : T) (tells obeys : Bool) (calls : List DiskCall) (old new : DiskSeen) → Makes tells obeys calls old new
    Fine
    → Runs tells obeys calls old new (Ok x)
runs_whole T x tells obeys calls old new m = record {
  made = m.made;
  counts = m.counts;
  number = λ so. m.number;
  obeyed = m.obeyed;
  timed = m.timed;
  order = m.order;
}

pub runs_up_to : (T U : Type 0) (tells obeys : Bool) (calls : List DiskCall) (old new : DiskSeen) (e : DiskRefusal)
    → Makes tells obeys calls old new (end_of {T = T} (Err e)) → Runs {T = U} tells obeys calls old new (Err (refused e))
runs_up_to T U tells obeys calls old new DiskFailed m = record {
  made = m.made;
  counts = m.counts;
  number = λ so. m.number;
  obeyed = m.obeyed;
  timed = m.timed;
  order = m.order;
}
runs_up_to T U tells obeys calls old new DiskStopped m = record {
  made = m.made;
  counts = m.counts;
  number = λ so. m.number;
  obeyed = m.obeyed;
  timed = m.timed;
  order = m.order;
}

pub runs_none : (T : Type 0) (x : T) (tells obeys : Bool) (s : DiskSeen) → s.counts.power ≡ true → Runs tells obeys [] s s (Ok x)
runs_none T x tells obeys s power = record {
  made = 0;
  counts = calls_none s.counts power;
  number = λ so. refl;
  obeyed = λ so. obeyed_none s.due s.counts;
  timed = λ so. timed_still s.counts.clock s.counts.clock s.told s.told (omega arith) refl;
  order = λ so. refl;
}

-- memory was wanting before any of them
pub runs_wanting : (T : Type 0) (tells obeys : Bool) (calls : List DiskCall) (s : DiskSeen) → s.counts.power ≡ true
    → Runs {T = T} tells obeys calls s s (Err OutOfMemory)
runs_wanting T tells obeys calls s power = record {
  made = 0;
  counts = calls_none s.counts power;
  number = λ so. tt;
  obeyed = λ so. obeyed_none s.due s.counts;
  timed = λ so. timed_still s.counts.clock s.counts.clock s.told s.told (omega arith) refl;
  order = λ so. ([], calls, refl, refl);
}

-- nothing could be made
pub runs_damaged : (place : ℕ) (tells obeys : Bool) (s : DiskSeen) → s.counts.power ≡ true
    → Runs {T = Unit {0}} tells obeys [] s s (Err (Damaged place))
runs_damaged place tells obeys s power = record {
  made = 0;
  counts = calls_none s.counts power;
  number = λ so. refl;
  obeyed = λ so. obeyed_none s.due s.counts;
  timed = λ so. timed_still s.counts.clock s.counts.clock s.told s.told (omega arith) refl;
  order = λ so. refl;
}

pub runs_join : (T U : Type 0) (x : T) (tells obeys : Bool) (xs ys : List DiskCall) (old mid new : DiskSeen) (r : Result U StoreRefusal)
    → Runs tells obeys xs old mid (Ok x) → Runs tells obeys ys mid new r → Runs tells obeys (xs ++ ys) old new r
runs_join T U x tells obeys xs ys old mid new r a b = record {
  made = a.made + b.made;
  counts = calls_more a.made b.made old.counts mid.counts new.counts _ a.counts b.counts;
  number = λ so. subst (λ n. OpeningMade n r (a.made + b.made)) (sym (length-append xs ys))
      (made_more U (length xs) (length ys) a.made b.made r (a.number so) (b.number so));
  obeyed = λ so. obeyed_more a.made b.made old.due mid.due new.due old.counts mid.counts new.counts _ a.counts b.counts (a.obeyed so)
      (b.obeyed so);
  timed = λ so. timed_join old.counts.clock mid.counts.clock new.counts.clock old.told mid.told new.told (a.timed so) (b.timed so);
  order = λ so. told_more U xs ys old.told mid.told new.told r (a.order so) (b.order so);
}

-- a refusal behind which these calls may be left: one that comes behind all calls leaves none
abbrev pub AllowsRest : StoreRefusal → List DiskCall → Type 0
AllowsRest Failed rest = Unit {0}
AllowsRest Stopped rest = Unit {0}
AllowsRest Full rest = rest ≡ []
AllowsRest (Damaged place) rest = rest ≡ []
AllowsRest OutOfMemory rest = Unit {0}

pub refused_allows : (e : DiskRefusal) (rest : List DiskCall) → AllowsRest (refused e) rest
refused_allows DiskFailed rest = tt
refused_allows DiskStopped rest = tt

no_rest : (xs ys : List DiskCall) → ys ≡ [] → xs ≡ xs ++ ys
no_rest xs ys none = sym (append-nil xs) ∙ ap (λ l. xs ++ l) (sym none)

pub made_rest : (T U : Type 0) (xs ys : List DiskCall) (made : ℕ) (e : StoreRefusal) → AllowsRest e ys
    → OpeningMade {S = T} (length xs) (Err e) made → OpeningMade {S = U} (length (xs ++ ys)) (Err e) made
made_rest T U xs ys made Failed rest a = a
made_rest T U xs ys made Stopped rest a = a
made_rest T U xs ys made Full rest a = subst (λ (l : List DiskCall). made ≡ length l) (no_rest xs ys rest) a
made_rest T U xs ys made (Damaged place) rest a = subst (λ (l : List DiskCall). made ≡ length l) (no_rest xs ys rest) a
made_rest T U xs ys made OutOfMemory rest a = tt

pub told_rest : (T U : Type 0) (xs ys : List DiskCall) (old new : Told) (e : StoreRefusal) → AllowsRest e ys
    → OpeningTold {S = T} xs old new (Err e) → OpeningTold {S = U} (xs ++ ys) old new (Err e)
told_rest T U xs ys old new Failed rest a = some_more xs ys old new AtFault a
told_rest T U xs ys old new Stopped rest a = some_more xs ys old new AtStop a
told_rest T U xs ys old new Full rest a = subst (λ l. AllTold l old new) (no_rest xs ys rest) a
told_rest T U xs ys old new (Damaged place) rest a = subst (λ l. AllTold l old new) (no_rest xs ys rest) a
told_rest T U xs ys old new OutOfMemory rest a = (a.0, a.1 ++ ys, ap (λ l. l ++ ys) a.2 ∙ append_assoc a.0 a.1 ys, a.3)

pub runs_rest : (T U : Type 0) (tells obeys : Bool) (xs ys : List DiskCall) (old new : DiskSeen) (e : StoreRefusal)
    → (IsTrue tells → AllowsRest e ys) → Runs {T = T} tells obeys xs old new (Err e) → Runs {T = U} tells obeys (xs ++ ys) old new (Err e)
runs_rest T U tells obeys xs ys old new e rest a = record {
  made = a.made;
  counts = counts_alike T U e a.made old.counts new.counts a.counts;
  number = λ so. made_rest T U xs ys a.made e (rest so) (a.number so);
  obeyed = λ so. obeyed_alike T U e old.due new.due old.counts new.counts (a.obeyed so);
  timed = a.timed;
  order = λ so. told_rest T U xs ys old.told new.told e (rest so) (a.order so);
}

pub early_allows : (e : StoreRefusal) (rest : List DiskCall) → EndsEarly e → AllowsRest e rest
early_allows Failed rest early = tt
early_allows Stopped rest early = tt
early_allows Full rest early = absurd early
early_allows (Damaged place) rest early = absurd early
early_allows OutOfMemory rest early = tt

-- of more calls the same one was refused
pub runs_refused : (T U : Type 0) (tells obeys : Bool) (xs ys : List DiskCall) (old new : DiskSeen) (e : StoreRefusal) → EndsEarly e
    → Runs {T = T} tells obeys xs old new (Err e) → Runs {T = U} tells obeys (xs ++ ys) old new (Err e)
runs_refused T U tells obeys xs ys old new e early a = runs_rest T U tells obeys xs ys old new e (λ so. early_allows e ys early) a

-- another refusal came behind all of them
pub runs_full : (T U : Type 0) (x : T) (tells obeys : Bool) (calls : List DiskCall) (old new : DiskSeen)
    → Runs tells obeys calls old new (Ok x) → Runs {T = U} tells obeys calls old new (Err Full)
runs_full T U x tells obeys calls old new a = record {
  made = a.made;
  counts = a.counts;
  number = a.number;
  obeyed = a.obeyed;
  timed = a.timed;
  order = a.order;
}

-- by other words for the same calls, and for the same result of another type
pub runs_as : (T : Type 0) (tells obeys : Bool) (xs ys : List DiskCall) (old new : DiskSeen) (r : Result T StoreRefusal)
    → (IsTrue tells → xs ≡ ys) → Runs tells obeys xs old new r → Runs tells obeys ys old new r
runs_as T tells obeys xs ys old new r same a = record {
  made = a.made;
  counts = a.counts;
  number = λ so. subst (λ calls. OpeningMade (length calls) r a.made) (same so) (a.number so);
  obeyed = a.obeyed;
  timed = a.timed;
  order = λ so. subst (λ calls. OpeningTold calls old.told new.told r) (same so) (a.order so);
}
