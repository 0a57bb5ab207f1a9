-- Which disk of a pair was stopped.
use Rattle.std.specs.Prelude.{◌≡◌, ℕ, Option, None, Some, Result, Ok, Err}
use Rattle.std.proofs.Common.{refl, ap, ◌∙◌, inl, inr}
use Rattle.eden_disk.specs.Calls.{stops_after}
use Rattle.passive_store.specs.Seen.{DiskSeen}
use Rattle.twin_store.specs.declared.served.TwinRefusal.{TwinRefusal}
use Rattle.twin_store.specs.declared.served.TwinRefusal.TheVariants.{Lost, Stopped, Full, GenerationsSpent, OutOfMemory}
use Rattle.twin_store.specs.Serving.{end_of_served, stops_at, stops_by}
use Rattle.twin_store.specs.Sides.{SideSeen, disk_of, StopsBy, StopsOne, StopsAt}
use Rattle.twin_store.proofs.Vouching.{one_of}

pub stops_end : {T : Type 0} (r : Result (Option T) TwinRefusal) (n : ℕ) → stops_after (end_of_served r) n ≡ stops_by r n
stops_end (Ok (Some value)) n = refl
stops_end (Ok None) n = refl
stops_end (Err Lost) n = refl
stops_end (Err Stopped) n = refl
stops_end (Err Full) n = refl
stops_end (Err GenerationsSpent) n = refl
stops_end (Err OutOfMemory) n = refl

stops : DiskSeen → ℕ
stops d = d.counts.stops

-- 1. One disk

pub stops_on : {T U : Type 0} (value : T) (r : Result U TwinRefusal) (a b c : DiskSeen) → StopsBy {T = T} (Ok value) a b → StopsBy r b c
    → StopsBy r a c
stops_on value r a b c p q = q ∙ ap (stops_by r) p

-- 2. Two disks

pub first_by : {T : Type 0} (r : Result T TwinRefusal) (a b d : DiskSeen) → StopsBy r a b → StopsOne r a b d d
first_by r a b d p = inl (p, refl)

pub second_by : {T : Type 0} (r : Result T TwinRefusal) (a d e : DiskSeen) → StopsBy r d e → StopsOne r a a d e
second_by r a d e p = inr (refl, p)

-- no disk was stopped
pub none_by : {T : Type 0} (value : T) (a b d e : DiskSeen) → StopsOne {T = T} (Ok value) a b d e
    → StopsBy {T = T} (Ok value) a b × StopsBy {T = T} (Ok value) d e
none_by value a b d e h = one_of h (λ p. p) (λ p. p)

pub stopped_on : {T U : Type 0} (value : T) (r : Result U TwinRefusal) (a b c d e f : DiskSeen) → StopsOne {T = T} (Ok value) a b d e
    → StopsOne r b c e f → StopsOne r a c d f
stopped_on value r a b c d e f h k = let p : _ = none_by value a b d e h in one_of k
    (λ q. inl (q.0 ∙ ap (stops_by r) p.0, q.1 ∙ p.1)) (λ q. inr (q.0 ∙ p.0, q.1 ∙ ap (stops_by r) p.1))

-- the first disk was called, and was not stopped, then the second
pub first_then_second : {T U : Type 0} (value : T) (r : Result U TwinRefusal) (a b d e : DiskSeen) → StopsBy {T = T} (Ok value) a b
    → StopsBy r d e → StopsOne r a b d e
first_then_second value r a b d e p q = inr (p, q)

-- and the other way round
pub second_then_first : {T U : Type 0} (value : T) (r : Result U TwinRefusal) (a b d e : DiskSeen) → StopsBy {T = T} (Ok value) d e
    → StopsBy r a b → StopsOne r a b d e
second_then_first value r a b d e p q = inl (q, p)

pub turned : {T : Type 0} (r : Result T TwinRefusal) (a b d e : DiskSeen) → StopsOne r a b d e → StopsOne r d e a b
turned r a b d e h = one_of h (λ p. inr (p.1, p.0)) (λ p. inl (p.1, p.0))

-- 3. Openings

-- the second disk was refused, the first being opened and given back
pub second_unopened : (x : TwinRefusal) (first one second two : DiskSeen) (a : SideSeen) → one ≡ disk_of a
    → (disk_of a).counts.stops ≡ first.counts.stops → two.counts.stops ≡ stops_at x second.counts.stops → StopsAt x first one second two
second_unopened x first one second two a is p q = inr (ap stops_of_disk is ∙ p, q)
  where
    stops_of_disk : DiskSeen → ℕ
    stops_of_disk d = d.counts.stops

-- both were opened and given back
pub opened_then : (x : TwinRefusal) (first one second two : DiskSeen) (a b new to : SideSeen) → one ≡ disk_of new → two ≡ disk_of to
    → (disk_of a).counts.stops ≡ first.counts.stops → (disk_of b).counts.stops ≡ second.counts.stops
    → StopsOne {T = Unit {0}} (Err x) (disk_of a) (disk_of new) (disk_of b) (disk_of to) → StopsAt x first one second two
opened_then x first one second two a b new to is too p q h =
    one_of h (λ r. inl (ap of_disk is ∙ (r.0 ∙ ap (stops_at x) p), ap of_disk too ∙ (r.1 ∙ q)))
    (λ r. inr (ap of_disk is ∙ (r.0 ∙ p), ap of_disk too ∙ (r.1 ∙ ap (stops_at x) q)))
  where
    of_disk : DiskSeen → ℕ
    of_disk d = d.counts.stops
