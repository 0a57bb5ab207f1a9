-- How the disks count, place by place and command by command.
use Rattle.std.proofs.Common.{◌≡◌, ◌≢◌, ℕ, ◌+◌, ◌-◌, Bool, true, false, List, [], ◌∷◌, ◌++◌, Option}
use Rattle.std.proofs.Common.{None, Some, refl, sym, ap, subst, ◌∙◌, arith}
use Rattle.std.specs.Prelude.{◌==◌, if◌then◌else◌, slice_get, Result, Ok, Err, IfOk}
use Rattle.std.specs.Option.{option_map}
use Rattle.std.proofs.lemmas.Bool.{eqb-true, eqb-false}
use Rattle.std.specs.declared.alloc.AllocError.{AllocError}
use Rattle.capability.specs.declared.Uid.{Uid}
use Rattle.eden_value.specs.Datum.{Datum}
use Rattle.eden_disk.specs.Calls.{End, Fine, AtFault, AtStop, Counts, DeviceCalls, faults_after, stops_after, one_more, more_by}
use Rattle.passive_store.specs.Kept.{Layout, end_of_store}
use Rattle.passive_store.specs.Seen.{Seen, DiskSeen}
use Rattle.passive_store.specs.declared.store.StoreRefusal.{StoreRefusal}
use Rattle.passive_store.specs.declared.store.StoreRefusal.TheVariants as store
use Rattle.move_laws.specs.World.{Call}
use Rattle.move_laws.specs.Wander.{Letter as AnyLetter}
use Rattle.move_world.specs.Commands.{IsNode}
use Rattle.move_world.specs.Logs.{Answer, Ends, Down, Entry, Log, all_entries}
use Rattle.move_world.specs.View.{answer_of}
use Rattle.move_world.specs.Asking.{Manned, Heard}
use Rattle.move_world.specs.Seats.{Standing, Resting, opened_as}
use Rattle.move_world.specs.Worlds.{standing_at, came_as}
use Rattle.move_world.specs.Counting.{Refusals, refusals, refusals_in, refusals_after, refusals_behind, end_in, end_at, node_of, fault_of}
use Rattle.move_world.specs.Counting.{stop_of, faults_told, stops_told}
use Rattle.move_world.specs.Counted.{refusals_at, Counted, CountedAt, AllCounted, AreTheDisks, CountsAsTold}
use Rattle.move_world.specs.declared.answer.Answer.{Answer as CodedAnswer}
use Rattle.move_world.proofs.Beginning.{shown_opened}

-- 1. One place

-- nothing was counted
pub counted-same : (s : Standing) → Counted Fine s s
counted-same s = go (refusals_at s)
  where
    go : (o : Option Refusals) → o ≡ option_map (refusals_after Fine) o
    go None = refl
    go (Some r) = refl

refused-opened : (b : Bool) (m : Manned) → refusals_at (opened_as b m) ≡ Some (refusals_in m.seen.disk.counts)
refused-opened b m = ap (option_map (λ (d : DiskSeen). refusals_in d.counts)) (shown_opened b m)

counted-opened : (end : End) (old new : Manned) (up on : Bool)
    → refusals_in new.seen.disk.counts ≡ refusals_after end (refusals_in old.seen.disk.counts)
    → Counted end (opened_as up old) (opened_as on new)
counted-opened end old new up on is =
    refused-opened on new ∙ ap Some is ∙ sym (ap (option_map (refusals_after end)) (refused-opened up old))

pub counted-asked : (tells : Bool) (layout : Layout) (u : Uid) (c : Call Datum) (r : Result CodedAnswer AllocError) (old new : Manned)
    (up on : Bool) → Heard tells layout u c r old new
    → IfOk r (λ a. Counted (end_in (answer_of a)) (opened_as up old) (opened_as on new))
counted-asked tells layout u c (Ok a) old new up on h = counted-opened (end_in (answer_of a)) old new up on h.counts
counted-asked tells layout u c (Err e) old new up on h = tt

-- a node, or its disk, with the same counts
pub counted-disk : (up : Bool) (old : Manned) (new : DiskSeen) → refusals_in new.counts ≡ refusals_in old.seen.disk.counts
    → Counted Fine (opened_as up old) (Resting new)
counted-disk up old new is = ap Some is ∙ sym (ap (option_map (refusals_after Fine)) (refused-opened up old))

pub counted-armed : (old new : Manned) (up on : Bool) → new.seen.disk.counts ≡ old.seen.disk.counts
    → Counted Fine (opened_as up old) (opened_as on new)
counted-armed old new up on is = counted-opened Fine old new up on (ap refusals_in is)

-- 2. An opening

both : (end : End) (old new : Counts) → new.faults ≡ faults_after end old.faults → new.stops ≡ stops_after end old.stops
    → refusals_in new ≡ refusals_after end (refusals_in old)
both end old new f s = ap (λ (n : ℕ). refusals n new.stops) f ∙ ap (λ (n : ℕ). refusals (faults_after end old.faults) n) s

pub counted-up : (made : ℕ) (d mid : DiskSeen) (m : Manned) → refusals_in mid.counts ≡ refusals_in d.counts
    → DeviceCalls made mid.counts m.seen.disk.counts Fine → Counted Fine (Resting d) (opened_as true m)
counted-up made d mid m same calls =
    refused-opened true m ∙ ap Some (both Fine mid.counts m.seen.disk.counts calls.faults calls.stops ∙ ap (refusals_after Fine) same)

end-down : (e : StoreRefusal) → end_in (Down e) ≡ end_of_store {T = Seen} (Err e)
end-down store.Failed = refl
end-down store.Stopped = refl
end-down store.Full = refl
end-down (store.Damaged place) = refl
end-down store.OutOfMemory = refl

pub counted-down : (made : ℕ) (e : StoreRefusal) (r : Result CodedAnswer AllocError) (d mid new : DiskSeen)
    → refusals_in mid.counts ≡ refusals_in d.counts → DeviceCalls made mid.counts new.counts (end_of_store {T = Seen} (Err e))
    → IfOk r (λ a. (answer_of a ≡ Down e) × (e ≢ store.OutOfMemory))
    → IfOk r (λ a. Counted (end_in (answer_of a)) (Resting d) (Resting new))
counted-down made e (Err x) d mid new same calls is = tt
counted-down made e (Ok a) d mid new same calls is =
    subst (λ end. Counted end (Resting d) (Resting new)) (sym (ap end_in is.0 ∙ end-down e))
    (ap Some (both (end_of_store {T = Seen} (Err e)) mid.counts new.counts calls.faults calls.stops
    ∙ ap (refusals_after (end_of_store {T = Seen} (Err e))) same))

-- 3. All places

pub counted-at : (ss ts : List Standing) (m : ℕ) (end : End) → Counted end (standing_at ss m) (standing_at ts m)
    → ((n : ℕ) → IsNode n → n ≢ m → standing_at ts n ≡ standing_at ss n) → CountedAt m end ss ts
counted-at ss ts m end own others n is = go (n == m) refl
  where
    go : (b : Bool) → (n == m) ≡ b
        → refusals_at (standing_at ts n) ≡ option_map (refusals_after (if b then end else Fine)) (refusals_at (standing_at ss n))
    go true e = subst (λ k. Counted end (standing_at ss k) (standing_at ts k)) (sym (eqb-true n m e)) own
    go false e = ap refusals_at (others n is (eqb-false n m e)) ∙ counted-same (standing_at ss n)

pub counted-none : (ss : List Standing) (m : ℕ) → CountedAt m Fine ss ss
counted-none ss m = counted-at ss ss m Fine (counted-same (standing_at ss m)) (λ n is d. refl)

-- a letter that came ends as the call to which it led
pub came-end : (u : Uid) (l : AnyLetter Datum) (a : Answer) → end_in (came_as u l a) ≡ end_in a
came-end u l (Ends how) = refl
came-end u l a = refl

pub counted-came : (r : CodedAnswer) (u : Uid) (l : AnyLetter Datum) (a : CodedAnswer) (m : ℕ) (ss ts : List Standing)
    → answer_of r ≡ came_as u l (answer_of a) → CountedAt m (end_in (answer_of a)) ss ts → CountedAt m (end_in (answer_of r)) ss ts
counted-came r u l a m ss ts is h = subst (λ end. CountedAt m end ss ts) (sym (ap end_in is ∙ came-end u l (answer_of a))) h

-- 4. Commands one behind the other

behind-more : (n : ℕ) (es : List Entry) (e : Entry) (r : Refusals)
    → refusals_behind n (es ++ e ∷ []) r ≡ refusals_after (end_at n e) (refusals_behind n es r)
behind-more n [] e r = refl
behind-more n (d ∷ es) e r = behind-more n es e (refusals_after (end_at n d) r)

behind-both : (n : ℕ) (es ds : List Entry) (r : Refusals) → refusals_behind n (es ++ ds) r ≡ refusals_behind n ds (refusals_behind n es r)
behind-both n [] ds r = refl
behind-both n (e ∷ es) ds r = behind-both n es ds (refusals_after (end_at n e) r)

map-map : (f g h : Refusals → Refusals) (o : Option Refusals) → ((r : Refusals) → h r ≡ g (f r))
    → option_map g (option_map f o) ≡ option_map h o
map-map f g h None e = refl
map-map f g h (Some r) e = ap Some (sym (e r))

pub counted-first : (ss : List Standing) → AllCounted [] ss ss
counted-first ss n is = go (refusals_at (standing_at ss n))
  where
    go : (o : Option Refusals) → o ≡ option_map (refusals_behind n []) o
    go None = refl
    go (Some r) = refl

pub counted-more : (es : List Entry) (e : Entry) (ss ts us : List Standing) → AllCounted es ss ts
    → CountedAt (node_of e.command) (end_in e.answer) ts us → AllCounted (es ++ e ∷ []) ss us
counted-more es e ss ts us h k n is =
    k n is ∙ ap (option_map (refusals_after (end_at n e))) (h n is)
    ∙ map-map (refusals_behind n es) (refusals_after (end_at n e)) (refusals_behind n (es ++ e ∷ [])) (refusals_at (standing_at ss n))
    (behind-more n es e)

pub counted-both : (es ds : List Entry) (ss ts us : List Standing) → AllCounted es ss ts → AllCounted ds ts us → AllCounted (es ++ ds) ss us
counted-both es ds ss ts us h k n is =
    k n is ∙ ap (option_map (refusals_behind n ds)) (h n is)
    ∙ map-map (refusals_behind n es) (refusals_behind n ds) (refusals_behind n (es ++ ds)) (refusals_at (standing_at ss n))
    (behind-both n es ds)

-- 5. Numbers

one-then : (k n : ℕ) → more_by k (one_more n) ≡ more_by (1 + k) n
one-then k n = omega arith

told-faults : (n : ℕ) (es : List Entry) (r : Refusals) → (refusals_behind n es r).faults ≡ more_by (faults_told n es) r.faults
told-faults n [] r = omega arith
told-faults n (e ∷ es) r = told-faults n es (refusals_after (end_at n e) r) ∙ go (end_at n e)
  where
    go : (end : End) → more_by (faults_told n es) (faults_after end r.faults) ≡ more_by (fault_of end + faults_told n es) r.faults
    go Fine = omega arith
    go AtFault = one-then (faults_told n es) r.faults
    go AtStop = omega arith

told-stops : (n : ℕ) (es : List Entry) (r : Refusals) → (refusals_behind n es r).stops ≡ more_by (stops_told n es) r.stops
told-stops n [] r = omega arith
told-stops n (e ∷ es) r = told-stops n es (refusals_after (end_at n e) r) ∙ go (end_at n e)
  where
    go : (end : End) → more_by (stops_told n es) (stops_after end r.stops) ≡ more_by (stop_of end + stops_told n es) r.stops
    go Fine = omega arith
    go AtFault = omega arith
    go AtStop = one-then (stops_told n es) r.stops

some-is : {A : Type 0} (a b : A) → Some a ≡ Some b → a ≡ b
some-is a b e = cc e

-- what the disks of a whole log count
pub counts-told : (l : Log) (old new : List DiskSeen) (ss ts : List Standing) → AreTheDisks old ss → AreTheDisks new ts
    → AllCounted (all_entries l) ss ts → CountsAsTold l old new
counts-told l old new ss ts first last h n d e is before behind = (
  ap (λ (r : Refusals). r.faults) same ∙ told-faults n (all_entries l) (refusals_in d.counts),
  ap (λ (r : Refusals). r.stops) same ∙ told-stops n (all_entries l) (refusals_in d.counts),
)
  where
    at : (o : List DiskSeen) (zs : List Standing) (x : DiskSeen) → AreTheDisks o zs → slice_get o (n - 1) ≡ Some x
        → refusals_at (standing_at zs n) ≡ Some (refusals_in x.counts)
    at o zs x are there = ap (option_map (λ (y : DiskSeen). refusals_in y.counts)) (sym (are n is) ∙ there)

    same : refusals_in e.counts ≡ refusals_behind n (all_entries l) (refusals_in d.counts)
    same = some-is _ _ (sym (at new ts e last behind) ∙ h n is
        ∙ ap (option_map (refusals_behind n (all_entries l))) (at old ss d first before))

pub counts-told-ok : {T E : Type 0} (r : Result T E) (log : T → Log) (old new : List DiskSeen) (ss ts : List Standing) → AreTheDisks old ss
    → AreTheDisks new ts → IfOk r (λ done. AllCounted (all_entries (log done)) ss ts) → IfOk r (λ done. CountsAsTold (log done) old new)
counts-told-ok (Ok done) log old new ss ts first last h = counts-told (log done) old new ss ts first last h
counts-told-ok (Err e) log old new ss ts first last h = tt
