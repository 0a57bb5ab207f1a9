-- How often counts rise in a run.
use Rattle.std.proofs.Common.{◌≡◌, inl, inr, ℕ, suc, ◌+◌, Bool, true, false, List, [], ◌∷◌, ◌++◌, length}
use Rattle.std.proofs.Common.{refl, sym, ap, subst, ◌∙◌, arith}
use Rattle.std.specs.Prelude.{◌&&◌, Result, Ok, Err, IfOk}
use Rattle.std.specs.declared.alloc.AllocError.{AllocError}
use Rattle.eden_disk.specs.Calls.{one_more, more_by}
use Rattle.passive_store.specs.Kept.{Layout}
use Rattle.passive_store.specs.Seen.{DiskSeen}
use Rattle.twin_world.specs.Causes.{faults_marked, is_stop, OneStopped, TellsCounts, IsTold, one_if, times, marks_first, marks_second}
use Rattle.twin_world.specs.Causes.{says_stop}
use Rattle.twin_world.specs.Causes.{AreStops, AreCounted, IsCounted}
use Rattle.twin_world.specs.Commands.{IsNode}
use Rattle.twin_world.specs.Logs.{Entry, is_of}
use Rattle.twin_world.specs.Places.{Standing, Serving, Resting, Away, IsSound, disks_at}
use Rattle.twin_world.specs.Worlds.{standing_at, IsWorld, IsToldAt, Runs, RunsOver, all_disks, disks_of_node, AllCounted}
use Rattle.twin_world.proofs.Beginning.{by-node}

-- 1. One count

more-none : (n : ℕ) → n ≡ more_by 0 n
more-none n = omega arith

more-one : (k n : ℕ) → more_by k (one_more n) ≡ more_by (suc k) n
more-one k n = omega arith

more-nothing : (k n : ℕ) → more_by k n ≡ more_by (0 + k) n
more-nothing k n = omega arith

more-after : (k n : ℕ) → more_by (suc k) n ≡ more_by (1 + k) n
more-after k n = omega arith

plus-none : (k : ℕ) → k ≡ 0 + k
plus-none k = omega arith

more-marked : (x : Bool) (k n : ℕ) → more_by k (faults_marked x n) ≡ more_by (one_if x + k) n
more-marked true k n = more-one k n ∙ more-after k n
more-marked false k n = more-nothing k n

marked-on : (x b : Bool) (k a c d : ℕ) → b ≡ true → c ≡ faults_marked x a → d ≡ more_by k c → d ≡ more_by (one_if (b && x) + k) a
marked-on x b k a c d own first rest =
    rest ∙ ap (more_by k) first ∙ more-marked x k a ∙ ap (λ z. more_by (one_if (z && x) + k) a) (sym own)

other-on : (x b : Bool) (k a d : ℕ) → b ≡ false → d ≡ more_by k a → d ≡ more_by (one_if (b && x) + k) a
other-on x b k a d other rest = rest ∙ more-nothing k a ∙ ap (λ z. more_by (one_if (z && x) + k) a) (sym other)

-- 2. The stops of two disks

stops-on : (x : Bool) (all : ℕ) (a b c d : DiskSeen) (p q : ℕ) → OneStopped x a b c d
    → AreStops all b.counts.stops p d.counts.stops q → AreStops (one_if x + all) a.counts.stops p c.counts.stops q
stops-on true all a b c d p q (inl h) r = let sum : r.first_stops + r.second_stops ≡ all = r.together in record {
  first_stops = suc r.first_stops;
  second_stops = r.second_stops;
  together = omega (arith, sum);
  first_stopped = r.first_stopped ∙ ap (more_by r.first_stops) h.0 ∙ more-one r.first_stops a.counts.stops;
  second_stopped = r.second_stopped ∙ ap (more_by r.second_stops) h.1;
}
stops-on true all a b c d p q (inr h) r = let sum : r.first_stops + r.second_stops ≡ all = r.together in record {
  first_stops = r.first_stops;
  second_stops = suc r.second_stops;
  together = omega (arith, sum);
  first_stopped = r.first_stopped ∙ ap (more_by r.first_stops) h.0;
  second_stopped = r.second_stopped ∙ ap (more_by r.second_stops) h.1 ∙ more-one r.second_stops c.counts.stops;
}
stops-on false all a b c d p q h r = let sum : r.first_stops + r.second_stops ≡ all = r.together in record {
  first_stops = r.first_stops;
  second_stops = r.second_stops;
  together = omega (arith, sum);
  first_stopped = r.first_stopped ∙ ap (more_by r.first_stops) h.0;
  second_stopped = r.second_stopped ∙ ap (more_by r.second_stops) h.1;
}

-- 3. One entry more

own-counted : (n : ℕ) (e : Entry) (es : List Entry) (a b p c d q : DiskSeen) → is_of n e ≡ true → TellsCounts e a b c d
    → AreCounted n es b p d q → AreCounted n (e ∷ es) a p c q
own-counted n e es a b p c d q own t r = record {
  first_marked = marked-on e.first_failed (is_of n e) (times (marks_first n) es) a.counts.faults b.counts.faults p.counts.faults own
      t.first_marked r.first_marked;
  second_marked = marked-on e.second_failed (is_of n e) (times (marks_second n) es) c.counts.faults d.counts.faults q.counts.faults own
      t.second_marked r.second_marked;
  stopped = subst (λ z. AreStops (one_if (z && is_stop e.answer) + times (says_stop n) es) a.counts.stops p.counts.stops c.counts.stops
      q.counts.stops) (sym own)
      (stops-on (is_stop e.answer) (times (says_stop n) es) a b c d p.counts.stops q.counts.stops t.stopped r.stopped);
}

other-counted : (n : ℕ) (e : Entry) (es : List Entry) (a p c q : DiskSeen) → is_of n e ≡ false → AreCounted n es a p c q
    → AreCounted n (e ∷ es) a p c q
other-counted n e es a p c q other r = record {
  first_marked = other-on e.first_failed (is_of n e) (times (marks_first n) es) a.counts.faults p.counts.faults other r.first_marked;
  second_marked = other-on e.second_failed (is_of n e) (times (marks_second n) es) c.counts.faults q.counts.faults other r.second_marked;
  stopped = subst (λ z. AreStops (one_if (z && is_stop e.answer) + times (says_stop n) es) a.counts.stops p.counts.stops c.counts.stops
      q.counts.stops) (sym other)
      (subst (λ k. AreStops k a.counts.stops p.counts.stops c.counts.stops q.counts.stops) (plus-none (times (says_stop n) es)) r.stopped);
}

own-all : (n : ℕ) (e : Entry) (es : List Entry) (x y z : List DiskSeen) → is_of n e ≡ true → IsTold e x y → IsCounted n es y z
    → IsCounted n (e ∷ es) x z
own-all n e es [] [] [] own t r = tt
own-all n e es [] [] (p ∷ []) own t r = absurd r
own-all n e es [] [] (p ∷ p2 ∷ []) own t r = absurd r
own-all n e es [] [] (p ∷ p2 ∷ p3 ∷ prest) own t r = absurd r
own-all n e es [] (b ∷ []) z own t r = absurd t
own-all n e es [] (b ∷ b2 ∷ []) z own t r = absurd t
own-all n e es [] (b ∷ b2 ∷ b3 ∷ brest) z own t r = absurd t
own-all n e es (a ∷ []) [] z own t r = absurd t
own-all n e es (a ∷ []) (b ∷ []) z own t r = absurd t
own-all n e es (a ∷ []) (b ∷ b2 ∷ []) z own t r = absurd t
own-all n e es (a ∷ []) (b ∷ b2 ∷ b3 ∷ brest) z own t r = absurd t
own-all n e es (a ∷ a2 ∷ []) [] z own t r = absurd t
own-all n e es (a ∷ a2 ∷ []) (b ∷ []) z own t r = absurd t
own-all n e es (a ∷ a2 ∷ []) (b ∷ b2 ∷ []) [] own t r = absurd r
own-all n e es (a ∷ a2 ∷ []) (b ∷ b2 ∷ []) (p ∷ []) own t r = absurd r
own-all n e es (a ∷ c ∷ []) (b ∷ d ∷ []) (p ∷ q ∷ []) own t r = own-counted n e es a b p c d q own t r
own-all n e es (a ∷ a2 ∷ []) (b ∷ b2 ∷ []) (p ∷ p2 ∷ p3 ∷ prest) own t r = absurd r
own-all n e es (a ∷ a2 ∷ []) (b ∷ b2 ∷ b3 ∷ brest) z own t r = absurd t
own-all n e es (a ∷ a2 ∷ a3 ∷ arest) [] z own t r = absurd t
own-all n e es (a ∷ a2 ∷ a3 ∷ arest) (b ∷ []) z own t r = absurd t
own-all n e es (a ∷ a2 ∷ a3 ∷ arest) (b ∷ b2 ∷ []) z own t r = absurd t
own-all n e es (a ∷ a2 ∷ a3 ∷ arest) (b ∷ b2 ∷ b3 ∷ brest) z own t r = absurd t

other-all : (n : ℕ) (e : Entry) (es : List Entry) (x z : List DiskSeen) → is_of n e ≡ false → IsCounted n es x z
    → IsCounted n (e ∷ es) x z
other-all n e es [] [] other r = tt
other-all n e es [] (p ∷ []) other r = absurd r
other-all n e es [] (p ∷ p2 ∷ []) other r = absurd r
other-all n e es [] (p ∷ p2 ∷ p3 ∷ prest) other r = absurd r
other-all n e es (a ∷ []) [] other r = absurd r
other-all n e es (a ∷ []) (p ∷ []) other r = absurd r
other-all n e es (a ∷ []) (p ∷ p2 ∷ []) other r = absurd r
other-all n e es (a ∷ []) (p ∷ p2 ∷ p3 ∷ prest) other r = absurd r
other-all n e es (a ∷ a2 ∷ []) [] other r = absurd r
other-all n e es (a ∷ a2 ∷ []) (p ∷ []) other r = absurd r
other-all n e es (a ∷ c ∷ []) (p ∷ q ∷ []) other r = other-counted n e es a p c q other r
other-all n e es (a ∷ a2 ∷ []) (p ∷ p2 ∷ p3 ∷ prest) other r = absurd r
other-all n e es (a ∷ a2 ∷ a3 ∷ arest) [] other r = absurd r
other-all n e es (a ∷ a2 ∷ a3 ∷ arest) (p ∷ []) other r = absurd r
other-all n e es (a ∷ a2 ∷ a3 ∷ arest) (p ∷ p2 ∷ []) other r = absurd r
other-all n e es (a ∷ a2 ∷ a3 ∷ arest) (p ∷ p2 ∷ p3 ∷ prest) other r = absurd r

one-counted : (n : ℕ) (e : Entry) (es : List Entry) (x y z : List DiskSeen) (b : Bool) → is_of n e ≡ b → IsToldAt b e x y
    → IsCounted n es y z → IsCounted n (e ∷ es) x z
one-counted n e es x y z true own t r = own-all n e es x y z own t r
one-counted n e es x y z false other t r = other-all n e es x z other (subst (λ k. IsCounted n es k z) t r)

-- 4. A run

none-counted : (n : ℕ) (s : Standing) → IsCounted n [] (disks_at s) (disks_at s)
none-counted n (Serving t) = record {
  first_marked = more-none _;
  second_marked = more-none _;
  stopped = record { first_stops = 0; second_stops = 0; together = refl; first_stopped = more-none _; second_stopped = more-none _ };
}
none-counted n (Resting a b) = record {
  first_marked = more-none _;
  second_marked = more-none _;
  stopped = record { first_stops = 0; second_stops = 0; together = refl; first_stopped = more-none _; second_stopped = more-none _ };
}
none-counted n Away = tt

run-counted : (tells : Bool) (layout : Layout) (n : ℕ) (es : List Entry) (ss ss2 : List Standing) → IsNode n → Runs tells layout es ss ss2
    → IsCounted n es (disks_at (standing_at ss n)) (disks_at (standing_at ss2 n))
run-counted tells layout n [] ss ss2 is h =
    subst (λ z. IsCounted n [] (disks_at (standing_at ss n)) (disks_at (standing_at z n))) (sym h) (none-counted n (standing_at ss n))
run-counted tells layout n (e ∷ es) ss ss2 is h =
    one-counted n e es (disks_at (standing_at ss n)) (disks_at (standing_at h.0 n)) (disks_at (standing_at ss2 n)) (is_of n e) refl
    (h.1 n is) (run-counted tells layout n es h.0 ss2 is h.3)

-- 5. The disks of four places

-- two disks stand at a place
record Two (s : Standing) : Type 0 where
  a : DiskSeen
  b : DiskSeen
  are : disks_at s ≡ a ∷ b ∷ []

two-at : (n : ℕ) (s : Standing) → IsSound n s → Two s
two-at n (Serving t) h = record { a = _; b = _; are = refl }
two-at n (Resting a b) h = record { a = a; b = b; are = refl }
two-at n Away h = absurd h

four-disks : (s t u v : Standing) → Two s → Two t → Two u → Two v → (n : ℕ) → IsNode n
    → disks_of_node (all_disks (s ∷ t ∷ u ∷ v ∷ [])) n ≡ disks_at (standing_at (s ∷ t ∷ u ∷ v ∷ []) n)
four-disks s t u v w x y z n is =
    ap (λ l. disks_of_node l n) all ∙ by-node (λ k. disks_of_node seen k ≡ disks_at (standing_at (s ∷ t ∷ u ∷ v ∷ []) k)) (sym w.are)
    (sym x.are) (sym y.are) (sym z.are) n is
  where
    seen : List DiskSeen
    seen = w.a ∷ w.b ∷ x.a ∷ x.b ∷ y.a ∷ y.b ∷ z.a ∷ z.b ∷ []

    all : all_disks (s ∷ t ∷ u ∷ v ∷ []) ≡ seen
    all = ap (λ l. l ++ (disks_at t ++ (disks_at u ++ (disks_at v ++ [])))) w.are
        ∙ ap (λ l. w.a ∷ w.b ∷ (l ++ (disks_at u ++ (disks_at v ++ [])))) x.are
        ∙ ap (λ l. w.a ∷ w.b ∷ x.a ∷ x.b ∷ (l ++ (disks_at v ++ []))) y.are
        ∙ ap (λ l. w.a ∷ w.b ∷ x.a ∷ x.b ∷ y.a ∷ y.b ∷ (l ++ [])) z.are

node-disks : (ss : List Standing) → IsWorld ss → (n : ℕ) → IsNode n → disks_of_node (all_disks ss) n ≡ disks_at (standing_at ss n)
node-disks ss w = go ss w.places (w.sound 1 (omega arith, omega arith)) (w.sound 2 (omega arith, omega arith))
    (w.sound 3 (omega arith, omega arith)) (w.sound 4 (omega arith, omega arith))
  where
    go : (ss : List Standing) → length ss ≡ 4 → IsSound 1 (standing_at ss 1) → IsSound 2 (standing_at ss 2) → IsSound 3 (standing_at ss 3)
        → IsSound 4 (standing_at ss 4) → (n : ℕ) → IsNode n → disks_of_node (all_disks ss) n ≡ disks_at (standing_at ss n)
    go [] four o p q r = absurd (cc four)
    go (a ∷ []) four o p q r = absurd (omega (arith, four))
    go (a ∷ b ∷ []) four o p q r = absurd (omega (arith, four))
    go (a ∷ b ∷ c ∷ []) four o p q r = absurd (omega (arith, four))
    go (a ∷ b ∷ c ∷ d ∷ []) four o p q r = four-disks a b c d (two-at 1 a o) (two-at 2 b p) (two-at 3 c q) (two-at 4 d r)
    go (a ∷ b ∷ c ∷ d ∷ e ∷ ss) four o p q r = absurd (omega (arith, four))

pub over-counted : (tells : Bool) (layout : Layout) (es : List Entry) (old new : List DiskSeen) → RunsOver tells layout es old new
    → AllCounted es old new
over-counted tells layout es old new r n is =
    subst (λ l. IsCounted n es (disks_of_node l n) (disks_of_node new n)) r.begins
    (subst (λ l. IsCounted n es (disks_of_node (all_disks r.first) n) (disks_of_node l n)) r.ends
    (subst (λ l. IsCounted n es l (disks_of_node (all_disks r.last) n)) (sym (node-disks r.first r.world n is))
    (subst (λ l. IsCounted n es (disks_at (standing_at r.first n)) l) (sym (node-disks r.last r.world_left n is))
    (run-counted tells layout n es r.first r.last is r.runs))))

-- 6. The whole

pub all-over : {A : Type 0} (tells : Bool) (layout : Layout) (entries : A → List Entry) (r : Result A AllocError) (ss ss2 : List Standing)
    (old new : List DiskSeen) → IsWorld ss → IsWorld ss2 → all_disks ss ≡ old → all_disks ss2 ≡ new
    → IfOk r (λ a. Runs tells layout (entries a) ss ss2) → IfOk r (λ a. RunsOver tells layout (entries a) old new)
all-over tells layout entries (Ok a) ss ss2 old new world left begins ends runs =
    record { first = ss; last = ss2; world = world; world_left = left; begins = begins; ends = ends; runs = runs }
all-over tells layout entries (Err e) ss ss2 old new world left begins ends runs = tt

pub all-counted : {A : Type 0} (tells : Bool) (layout : Layout) (entries : A → List Entry) (r : Result A AllocError)
    (old new : List DiskSeen)
    → IfOk r (λ a. RunsOver tells layout (entries a) old new) → IfOk r (λ a. AllCounted (entries a) old new)
all-counted tells layout entries (Ok a) old new h = over-counted tells layout (entries a) old new h
all-counted tells layout entries (Err e) old new h = tt
