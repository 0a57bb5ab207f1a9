-- What an entry tells of the disks of its node.
use Rattle.std.proofs.Common.{◌≡◌, ◌⊎◌, inl, inr, ℕ, ◌<◌, ◌≤◌, Bool, true, false, List, [], ◌∷◌, refl, sym, ap, subst, ◌∙◌}
use Rattle.std.proofs.Common.{arith}
use Rattle.std.proofs.Common.{Option}
use Rattle.std.specs.Prelude.{not, nat_lt, ◌&&◌, Result, Ok, Err}
use Rattle.std.proofs.lemmas.Bool.{ltb-true, ltb-false}
use Rattle.eden_disk.specs.declared.disk.DiskRefusal.{DiskRefusal}
use Rattle.eden_disk.specs.declared.disk.DiskRefusal.TheVariants as disk
use Rattle.eden_disk.specs.Calls.{Counts, one_more, faults_after, stops_after, end_of}
use Rattle.passive_store.specs.Seen.{DiskSeen}
use Rattle.twin_store.specs.declared.served.TwinRefusal.{TwinRefusal}
use Rattle.twin_store.specs.declared.served.TwinRefusal.TheVariants.{Lost, Stopped, Full, GenerationsSpent, OutOfMemory}
use Rattle.twin_store.specs.Sides.{SideSeen, is_in_use, disk_of, SideGoes, RoseOnce, StopsOne}
use Rattle.twin_store.specs.Twins.{TwinSeen, TwinGoes}
use Rattle.twin_store.proofs.Vouching.{one_of}
use Rattle.twin_world.specs.Causes.{faults_marked, is_stopped, is_stop, OneStopped, IsTold}
use Rattle.twin_world.specs.InHand.{has_left, made_by, found_by}
use Rattle.twin_world.specs.Logs.{Answer, Entry}
use Rattle.twin_world.specs.Places.{Standing, Serving, Resting, Away, disks_at, AreLeft, GoesOnAs, IsAsked, is_failed}
use Rattle.twin_world.specs.Places.{blanked_as}

-- 1. Counts of faults

marked-by : (x y : Bool) (n : ℕ) → x ≡ y → faults_marked y n ≡ faults_marked x n
marked-by x y n e = ap (λ k. faults_marked k n) (sym e)

-- a disk is marked where it left use
pub goes-marked : (a b : SideSeen) → SideGoes a b
    → (disk_of b).counts.faults ≡ faults_marked (has_left a b) (disk_of a).counts.faults
goes-marked a b g = go (is_in_use a) (is_in_use b) refl refl
  where
    n : ℕ
    n = (disk_of a).counts.faults

    left-is : (x y : Bool) → is_in_use a ≡ x → is_in_use b ≡ y → has_left a b ≡ (x && not y)
    left-is x y e f = ap (λ k. k && not (is_in_use b)) e ∙ ap (λ k. x && not k) f

    go : (x y : Bool) → is_in_use a ≡ x → is_in_use b ≡ y → (disk_of b).counts.faults ≡ faults_marked (has_left a b) n
    go true true e f = g.same (f ∙ sym e) ∙ marked-by (has_left a b) false n (left-is true true e f)
    go true false e f = g.rose e f ∙ marked-by (has_left a b) true n (left-is true false e f)
    go false false e f = g.same (f ∙ sym e) ∙ marked-by (has_left a b) false n (left-is false false e f)
    go false true e f = absurd (cc (sym e ∙ g.left f))

-- a disk is marked where its count is not below the next one
rose-marked : (old new : ℕ) → (new ≡ old) ⊎ (new ≡ one_more old) → new ≡ faults_marked (not (nat_lt new (one_more old))) old
rose-marked old new h = go (nat_lt new (one_more old)) refl
  where
    marks-is : (x : Bool) → nat_lt new (one_more old) ≡ x → not (nat_lt new (one_more old)) ≡ not x
    marks-is x e = ap not e

    below : (new ≡ old) ⊎ (new ≡ one_more old) → new < one_more old → new ≡ old
    below (inl e) less = e
    below (inr e) less = absurd (omega (arith, e, less))

    at : (new ≡ old) ⊎ (new ≡ one_more old) → one_more old ≤ new → new ≡ one_more old
    at (inl e) most = omega (arith, e, most)
    at (inr e) most = e

    go : (x : Bool) → nat_lt new (one_more old) ≡ x → new ≡ faults_marked (not (nat_lt new (one_more old))) old
    go true e = below h (ltb-true new (one_more old) e) ∙ marked-by (not (nat_lt new (one_more old))) false old (marks-is true e)
    go false e = at h (ltb-false new (one_more old) e) ∙ marked-by (not (nat_lt new (one_more old))) true old (marks-is false e)

pub risen-marked : (x : Bool) (a one new : DiskSeen) → one.counts.faults ≡ a.counts.faults → RoseOnce one new
    → x ≡ not (nat_lt new.counts.faults (one_more one.counts.faults)) → new.counts.faults ≡ faults_marked x a.counts.faults
risen-marked x a one new same rose is =
    rose-marked one.counts.faults new.counts.faults rose ∙ marked-by x (not (nat_lt new.counts.faults (one_more one.counts.faults)))
    one.counts.faults is
    ∙ ap (faults_marked x) same

-- 2. Counts of stops

-- whether a call was stopped
abbrev pub stopped-in : {T : Type 0} → Result T TwinRefusal → Bool
stopped-in (Ok value) = false
stopped-in (Err e) = is_stopped e

pub one-stopped : {T : Type 0} (r : Result T TwinRefusal) (a b c d : DiskSeen) → StopsOne r a b c d → OneStopped (stopped-in r) a b c d
one-stopped (Ok value) a b c d h = one_of h (λ p. p) (λ p. p)
one-stopped (Err Lost) a b c d h = one_of h (λ p. p) (λ p. p)
one-stopped (Err Stopped) a b c d h = h
one-stopped (Err Full) a b c d h = one_of h (λ p. p) (λ p. p)
one-stopped (Err GenerationsSpent) a b c d h = one_of h (λ p. p) (λ p. p)
one-stopped (Err OutOfMemory) a b c d h = one_of h (λ p. p) (λ p. p)

-- two disks that go before, and two that come behind, with the same counts
pub stopped-between : (x : Bool) (z a b b2 w c d d2 : DiskSeen) → a.counts.stops ≡ z.counts.stops → c.counts.stops ≡ w.counts.stops
    → b2.counts.stops ≡ b.counts.stops → d2.counts.stops ≡ d.counts.stops → OneStopped x a b c d → OneStopped x z b2 w d2
stopped-between true z a b b2 w c d d2 e f g h (inl p) = inl (g ∙ p.0 ∙ ap one_more e, h ∙ p.1 ∙ f)
stopped-between true z a b b2 w c d d2 e f g h (inr p) = inr (g ∙ p.0 ∙ e, h ∙ p.1 ∙ ap one_more f)
stopped-between false z a b b2 w c d d2 e f g h p = (g ∙ p.0 ∙ e, h ∙ p.1 ∙ f)

-- an answer says so as the call did
pub made-stops : (r : Result (Unit {0}) TwinRefusal) → is_stop (made_by r) ≡ stopped-in r
made-stops (Ok done) = refl
made-stops (Err e) = refl

pub found-stops : (r : Result (Option (List ℕ)) TwinRefusal) → is_stop (found_by r) ≡ stopped-in r
found-stops (Ok body) = refl
found-stops (Err e) = refl

-- 3. Places

-- nothing became of the counts
pub same-told : (e : Entry) (s : Standing) → e.first_failed ≡ false → e.second_failed ≡ false → is_stop e.answer ≡ false
    → IsTold e (disks_at s) (disks_at s)
same-told e (Serving t) first second none = record {
  first_marked = marked-by e.first_failed false (disk_of t.first).counts.faults first;
  second_marked = marked-by e.second_failed false (disk_of t.second).counts.faults second;
  stopped = subst (λ x. OneStopped x (disk_of t.first) (disk_of t.first) (disk_of t.second) (disk_of t.second)) (sym none) (refl, refl);
}
same-told e (Resting a b) first second none = record {
  first_marked = marked-by e.first_failed false a.counts.faults first;
  second_marked = marked-by e.second_failed false b.counts.faults second;
  stopped = subst (λ x. OneStopped x a a b b) (sym none) (refl, refl);
}
same-told e Away first second none = tt

-- behind a call of an open pair
pub goes-told : {T : Type 0} (tells : Bool) (r : Result T TwinRefusal) (old t : TwinSeen) (new : Standing) (e : Entry) → TwinGoes r old t
    → GoesOnAs tells r t new → e.first_failed ≡ has_left old.first t.first → e.second_failed ≡ has_left old.second t.second
    → is_stop e.answer ≡ stopped-in r → IsTold e (disks_at (Serving old)) (disks_at new)
goes-told tells (Ok value) old t new e g go first second is =
    subst (λ (z : Standing). IsTold e (disks_at (Serving old)) (disks_at z)) (sym go) (record {
      first_marked = goes-marked old.first t.first g.first
          ∙ marked-by e.first_failed (has_left old.first t.first) (disk_of old.first).counts.faults first;
      second_marked = goes-marked old.second t.second g.second
          ∙ marked-by e.second_failed (has_left old.second t.second) (disk_of old.second).counts.faults second;
      stopped = subst (λ x. OneStopped x (disk_of old.first) (disk_of t.first) (disk_of old.second) (disk_of t.second)) (sym is)
          (one-stopped (Ok value) (disk_of old.first) (disk_of t.first) (disk_of old.second) (disk_of t.second) g.stopped);
    })
goes-told {T} tells (Err r) old t new e g go first second is =
    subst (λ (z : Standing). IsTold e (disks_at (Serving old)) (disks_at z)) (sym go.is) (record {
      first_marked = go.first_left.faults ∙ goes-marked old.first t.first g.first
          ∙ marked-by e.first_failed (has_left old.first t.first) (disk_of old.first).counts.faults first;
      second_marked = go.second_left.faults ∙ goes-marked old.second t.second g.second
          ∙ marked-by e.second_failed (has_left old.second t.second) (disk_of old.second).counts.faults second;
      stopped = subst (λ x. OneStopped x (disk_of old.first) go.one (disk_of old.second) go.two) (sym is)
          (stopped-between (is_stopped r) (disk_of old.first) (disk_of old.first) (disk_of t.first) go.one (disk_of old.second)
          (disk_of old.second) (disk_of t.second) go.two refl refl go.first_left.stops go.second_left.stops
          (one-stopped {T = T} (Err r) (disk_of old.first) (disk_of t.first) (disk_of old.second) (disk_of t.second) g.stopped));
    })

-- behind some calls on two disks that are closed, by the counts
pub left-told-by : (tells : Bool) (e : Entry) (a b one two : DiskSeen) (new : Standing) → AreLeft tells one two new
    → one.counts.faults ≡ faults_marked e.first_failed a.counts.faults → two.counts.faults ≡ faults_marked e.second_failed b.counts.faults
    → OneStopped (is_stop e.answer) a one b two → IsTold e (a ∷ b ∷ []) (disks_at new)
left-told-by tells e a b one two new l first second stopped =
    subst (λ (z : Standing). IsTold e (a ∷ b ∷ []) (disks_at z)) (sym l.is) (record {
      first_marked = l.first_left.faults ∙ first;
      second_marked = l.second_left.faults ∙ second;
      stopped = stopped-between (is_stop e.answer) a a one l.one b b two l.two refl refl l.first_left.stops l.second_left.stops stopped;
    })

-- a disk was asked for a failure or a stop
pub asked-told : (tells : Bool) (e : Entry) (old new : Standing) → IsAsked tells old new → e.first_failed ≡ false
    → e.second_failed ≡ false → is_stop e.answer ≡ false → IsTold e (disks_at old) (disks_at new)
asked-told tells e (Serving t) (Serving u) l first second none = record {
  first_marked = ap (λ (k : Counts). k.faults) l.2.disk.counts ∙ marked-by e.first_failed false (disk_of t.first).counts.faults first;
  second_marked = ap (λ (k : Counts). k.faults) l.3.disk.counts ∙ marked-by e.second_failed false (disk_of t.second).counts.faults second;
  stopped = subst (λ x. OneStopped x (disk_of t.first) (disk_of u.first) (disk_of t.second) (disk_of u.second)) (sym none)
      (ap (λ (k : Counts). k.stops) l.2.disk.counts, ap (λ (k : Counts). k.stops) l.3.disk.counts);
}
asked-told tells e (Serving t) (Resting c d) l first second none = absurd l
asked-told tells e (Serving t) Away l first second none = absurd l
asked-told tells e (Resting a b) (Serving u) l first second none = absurd l
asked-told tells e (Resting a b) (Resting c d) l first second none = record {
  first_marked = ap (λ (k : Counts). k.faults) l.0.counts ∙ marked-by e.first_failed false a.counts.faults first;
  second_marked = ap (λ (k : Counts). k.faults) l.1.counts ∙ marked-by e.second_failed false b.counts.faults second;
  stopped = subst (λ x. OneStopped x a c b d) (sym none)
      (ap (λ (k : Counts). k.stops) l.0.counts, ap (λ (k : Counts). k.stops) l.1.counts);
}
asked-told tells e (Resting a b) Away l first second none = absurd l
asked-told tells e Away (Serving u) l first second none = absurd l
asked-told tells e Away (Resting c d) l first second none = absurd l
asked-told tells e Away Away l first second none = tt

-- 4. Blankings

pub blank-marked : (how : Result (Unit {0}) DiskRefusal) (x : Bool) (a b : DiskSeen) → x ≡ is_failed how
    → b.counts.faults ≡ faults_after (end_of how) a.counts.faults → b.counts.faults ≡ faults_marked x a.counts.faults
blank-marked (Ok done) x a b is e = e ∙ marked-by x false a.counts.faults is
blank-marked (Err disk.Failed) x a b is e = e ∙ marked-by x true a.counts.faults is
blank-marked (Err disk.Stopped) x a b is e = e ∙ marked-by x false a.counts.faults is

pub unmarked : (x : Bool) (a : DiskSeen) → x ≡ false → a.counts.faults ≡ faults_marked x a.counts.faults
unmarked x a is = marked-by x false a.counts.faults is

pub blank-stopped-first : (how : Result (Unit {0}) DiskRefusal) (a one b : DiskSeen)
    → one.counts.stops ≡ stops_after (end_of how) a.counts.stops → OneStopped (is_stop (blanked_as how)) a one b b
blank-stopped-first (Ok done) a one b e = (e, refl)
blank-stopped-first (Err disk.Failed) a one b e = (e, refl)
blank-stopped-first (Err disk.Stopped) a one b e = inl (e, refl)

pub blank-stopped-second : (how : Result (Unit {0}) DiskRefusal) (a b two : DiskSeen)
    → two.counts.stops ≡ stops_after (end_of how) b.counts.stops → OneStopped (is_stop (blanked_as how)) a a b two
blank-stopped-second (Ok done) a b two e = (refl, e)
blank-stopped-second (Err disk.Failed) a b two e = (refl, e)
blank-stopped-second (Err disk.Stopped) a b two e = inr (refl, e)

-- an answer by what it is said to be
pub stop-as : (x a : Answer) (b : Bool) → x ≡ a → is_stop a ≡ b → is_stop x ≡ b
stop-as x a b is says = ap is_stop is ∙ says
