-- Each step keeps the invariant.
use Rattle.std.proofs.Common.{◌≡◌, ◌≢◌, ◌⊎◌, inl, inr, ℕ, suc, ◌≤◌, false, Option, None, Some}
use Rattle.std.proofs.Common.{refl, sym, ◌∙◌, ap, subst, le_refl}
use Rattle.move_laws.specs.Wander.{Record, Here, Lent, Gone, generation, Site, View, Turns}
use Rattle.move_laws.specs.Wander.{settled_new, settled_old}
use Rattle.move_laws.specs.Wander.{Settles}
use Rattle.move_laws.proofs.Holding.{Each, PastRecord, PastDoubt, Rests, PastLetter, HolderDoubt, Held, Waits, OnWay}
use Rattle.move_laws.proofs.Holding.{NewDoubt, Nowhere, Holding, AtNone, AtOne, Between, Moves, from-turns, same?}
use Rattle.move_laws.proofs.Holding.{at-each}
use Rattle.move_laws.proofs.Held.{held-elsewhere, held-own, held-lent, way-elsewhere, way-own, way-got}

-- 1. Who may have which record

-- what is kept as here is the holder's
pub held-here : {V : Type 0} (home : ℕ) (w : View V) (n g : ℕ) (v : V) (m h : ℕ) (u : V) → Held home w n g v
    → (w.site m).kept ≡ Some (Here h u) → (m ≡ n) × (h ≡ g) × (u ≡ v)
held-here home w n g v m h u s is = go (same? m n)
  where
    go : (m ≡ n) ⊎ (m ≢ n) → (m ≡ n) × (h ≡ g) × (u ≡ v)
    go (inl e) = let same : (w.site n).kept ≡ Some (Here h u) = subst (λ k. (w.site k).kept ≡ Some (Here h u)) e is in
        (e, cc (same, s.kept), cc (same, s.kept))
    go (inr d) = absurd (subst (PastRecord w g) is (Rests.kept (s.rest m d)))

-- nothing is kept as here while it is on its way
pub way-not-here : {V : Type 0} (home : ℕ) (w : View V) (a b t : ℕ) (v : V) (m h : ℕ) (u : V) → OnWay home w a b t v
    → (w.site m).kept ≡ Some (Here h u) → ⊥
way-not-here home w a b t v m h u s is = go (same? m a)
  where
    go : (m ≡ a) ⊎ (m ≢ a) → ⊥
    go (inl e) = let same : (w.site a).kept ≡ Some (Here h u) = subst (λ k. (w.site k).kept ≡ Some (Here h u)) e is in
        absurd (cc (same, s.kept))
    go (inr d) = absurd (subst (PastRecord w t) is (Waits.kept (s.rest m d)))

-- what is kept as lent while it is held is of the past
pub held-lent-past : {V : Type 0} (home : ℕ) (w : View V) (n g : ℕ) (v : V) (m h to : ℕ) (u : V) → Held home w n g v
    → (w.site m).kept ≡ Some (Lent h to u) → (m ≢ n) × (h ≤ g) × (h ≤ generation (w.site to).kept)
held-lent-past home w n g v m h to u s is = go (same? m n)
  where
    go : (m ≡ n) ⊎ (m ≢ n) → (m ≢ n) × (h ≤ g) × (h ≤ generation (w.site to).kept)
    go (inl e) = let same : (w.site n).kept ≡ Some (Lent h to u) = subst (λ k. (w.site k).kept ≡ Some (Lent h to u)) e is in
        absurd (cc (same, s.kept))
    go (inr d) = let p = subst (PastRecord w g) is (Rests.kept (s.rest m d)) in (d, p.0, p.1)

-- while it is on its way it is of the past, or the lender's
pub way-lent : {V : Type 0} (home : ℕ) (w : View V) (a b t : ℕ) (v : V) (m h to : ℕ) (u : V) → OnWay home w a b t v
    → (w.site m).kept ≡ Some (Lent h to u)
    → ((m ≡ a) × (to ≡ b) × (h ≡ suc t) × (u ≡ v)) ⊎ ((m ≢ a) × (h ≤ t) × (h ≤ generation (w.site to).kept))
way-lent home w a b t v m h to u s is = go (same? m a)
  where
    go : (m ≡ a) ⊎ (m ≢ a) → ((m ≡ a) × (to ≡ b) × (h ≡ suc t) × (u ≡ v)) ⊎ ((m ≢ a) × (h ≤ t) × (h ≤ generation (w.site to).kept))
    go (inl e) = let same : (w.site a).kept ≡ Some (Lent h to u) = subst (λ k. (w.site k).kept ≡ Some (Lent h to u)) e is in
        inl (e, cc (same, s.kept), cc (same, s.kept), cc (same, s.kept))
    go (inr d) = let p = subst (PastRecord w t) is (Waits.kept (s.rest m d)) in inr (d, p.0, p.1)

-- 2. Settling

settle-held-own : {V : Type 0} (home : ℕ) (w x : View V) (n g : ℕ) (v : V) → Held home w n g v → Settles n w x → Holding home x
settle-held-own {V} home w x n g v h (inl t) = AtOne n g v (held-own home w x n g v v (settled_old (w.site n)) h (from-turns t) h.kept
    (Moves.fresh (from-turns t) v h.fresh) tt (inl refl) h.memory)
settle-held-own {V} home w x n g v h (inr q) = go q.0 q.1 q.2 (subst (HolderDoubt w n g v) q.1 h.doubt)
  where
    mind : (r : Record V) → (w.site n).doubt ≡ Some r → ((w.site n).active ≡ false) × ((w.site n).memory ≡ None)
    mind r is = elim h.mind [ inl none ↦ absurd (cc (none, is)) | inr p ↦ p ]

    go : (r : Record V) → (w.site n).doubt ≡ Some r → Turns n (settled_new (w.site n) r) w x → HolderDoubt w n g v (Some r) → Holding home x
    go (Here k u) is t p = AtOne n g u (held-own home w x n g v u (settled_new (w.site n) (Here k u)) h (from-turns t)
        (ap (λ k. Some (Here k u)) p.0) (Moves.fresh (from-turns t) u p.1) tt (inl refl) (inl (mind (Here k u) is).1))
    go (Lent k to u) is t p = Between n to g v (held-lent home w x n g to v (settled_new (w.site n) (Lent k to u)) h (from-turns t)
        (cc (p.0, p.2)) refl (mind (Lent k to u) is).0 (mind (Lent k to u) is).1 p.1)
    go (Gone k to) is t p = absurd p

-- the doubt of a node that rests settles to a record of the past
settle-rests : {V : Type 0} (w : View V) (t : ℕ) (s : Site V) (r : Record V) → Rests w t s → s.doubt ≡ Some r
    → Rests w t (settled_new s r) × (generation s.kept ≤ generation (Some r))
settle-rests {V} w t s r h is = go r (subst (PastDoubt s.kept t) is h.doubt)
  where
    go : (r : Record V) → PastDoubt s.kept t (Some r) → Rests w t (settled_new s r) × (generation s.kept ≤ generation (Some r))
    go (Here k u) p = absurd p
    go (Lent k to u) p = absurd p
    go (Gone k to) p = (record { kept = p.0; doubt = tt; active = h.active; memory = h.memory }, p.1)

settle-held-else : {V : Type 0} (home : ℕ) (w x : View V) (n g : ℕ) (v : V) (m : ℕ) → Held home w n g v → m ≢ n → Settles m w x
    → Held home x n g v
settle-held-else {V} home w x n g v m h d (inl t) = held-elsewhere home w x n g v m (settled_old (w.site m)) h d (from-turns t)
    (record { kept = r.kept; doubt = tt; active = r.active; memory = r.memory }) (le_refl _) (λ has. has)
  where
    r : Rests w g (w.site m)
    r = h.rest m d
settle-held-else {V} home w x n g v m h d (inr q) = held-elsewhere home w x n g v m (settled_new (w.site m) q.0) h d (from-turns q.2)
    both.0 both.1 (λ has none. absurd (cc none))
  where
    both : Rests w g (settled_new (w.site m) q.0) × (generation (w.site m).kept ≤ generation (Some q.0))
    both = settle-rests w g (w.site m) q.0 (h.rest m d) q.1

settle-way-own : {V : Type 0} (home : ℕ) (w x : View V) (a b t : ℕ) (v : V) → OnWay home w a b t v → Settles a w x → OnWay home x a b t v
settle-way-own home w x a b t v h (inl s) = way-own home w x a b t v (settled_old (w.site a)) h (from-turns s) refl refl h.active h.memory
settle-way-own home w x a b t v h (inr q) = absurd (cc (h.doubt, q.1))

settle-way-else : {V : Type 0} (home : ℕ) (w x : View V) (a b t : ℕ) (v : V) (m : ℕ) → OnWay home w a b t v → m ≢ a → Settles m w x
    → Holding home x
settle-way-else {V} home w x a b t v m h d (inl s) = Between a b t v (way-elsewhere home w x a b t v m (settled_old (w.site m)) h d
    (from-turns s) (record { kept = r.kept; doubt = inl tt; active = r.active; memory = r.memory }) (le_refl _) (λ has. has))
  where
    r : Waits w b t v m (w.site m)
    r = h.rest m d
settle-way-else {V} home w x a b t v m h d (inr q) = go r.doubt
  where
    r : Waits w b t v m (w.site m)
    r = h.rest m d

    go : PastDoubt (w.site m).kept t (w.site m).doubt ⊎ ((m ≡ b) × ((w.site m).doubt ≡ Some (Here (suc t) v))) → Holding home x
    go (inl p) = let both = settle-rests w t (w.site m) q.0 (record { kept = r.kept; doubt = p; active = r.active; memory = r.memory })
        q.1 in
        Between a b t v (way-elsewhere home w x a b t v m (settled_new (w.site m) q.0) h d (from-turns q.2)
        (record { kept = Rests.kept both.0; doubt = inl tt; active = r.active; memory = r.memory }) both.1 (λ has none. absurd (cc none)))
    go (inr p) = let came : q.0 ≡ Here (suc t) v = cc (q.1, p.1) in
        AtOne b (suc t) v (subst (λ k. Moves k (settled_new (w.site m) q.0) w x → Held home x b (suc t) v) (sym p.0)
        (λ c. way-got home w x a b t v (settled_new (w.site m) q.0) h c (ap Some came) refl r.active r.memory) (from-turns q.2))

settle-none : {V : Type 0} (home : ℕ) (w x : View V) (m : ℕ) → Nowhere home w → Settles m w x → Holding home x
settle-none {V} home w x m h (inl t) = AtNone (record {
  kept = at-each (λ k (z : Site V). z.kept ≡ None) c (h.kept m) (λ k d. h.kept k);
  doubt = at-each (λ k (z : Site V). k ≡ home → NewDoubt x z.doubt) c (λ e. tt)
      (λ k d e. new (w.site k).doubt (subst (λ k. NewDoubt w (w.site k).doubt) (sym e) h.doubt)) home refl;
  doubts = at-each (λ k (z : Site V). k ≢ home → z.doubt ≡ None) c (λ d. refl) (λ k d. h.doubts k);
  active = at-each (λ k (z : Site V). z.active ≡ false) c (h.active m) (λ k d. h.active k);
  memory = at-each (λ k (z : Site V). z.memory ≡ None) c (h.memory m) (λ k d. h.memory k);
  sent = c.sent ∙ h.sent;
})
  where
    c : Moves m (settled_old (w.site m)) w x
    c = from-turns t

    new : (r : Option (Record V)) → NewDoubt w r → NewDoubt x r
    new None p = tt
    new (Some (Here g v)) p = (p.0, c.fresh v p.1)
    new (Some (Lent g to v)) p = p
    new (Some (Gone g to)) p = p
settle-none {V} home w x m h (inr q) = go (same? m home)
  where
    made : (r : Record V) → Moves home (settled_new (w.site home) r) w x → NewDoubt w (Some r) → Holding home x
    made (Here g v) c p = AtOne home 1 v (record {
      kept = subst (λ (z : Site V). z.kept ≡ Some (Here 1 v)) (sym c.own) (ap (λ g. Some (Here g v)) p.0);
      fresh = c.fresh v p.1;
      doubt = subst (λ (z : Site V). HolderDoubt x home 1 v z.doubt) (sym c.own) tt;
      mind = inl (subst (λ (z : Site V). z.doubt ≡ None) (sym c.own) refl);
      memory = inl (subst (λ (z : Site V). z.memory ≡ None) (sym c.own) (h.memory home));
      rest = at-each (λ k z. k ≢ home → Rests x 1 z) c (λ d. absurd (d refl)) (λ k d d2. record {
        kept = subst (PastRecord x 1) (sym (h.kept k)) tt;
        doubt = subst (PastDoubt (w.site k).kept 1) (sym (h.doubts k d2)) tt;
        active = h.active k;
        memory = h.memory k;
      });
      letters = subst (Each (PastLetter x 1)) (sym (c.sent ∙ h.sent)) tt;
      home_has = subst (λ (z : Site V). z.kept ≢ None) (sym c.own) (λ none. absurd (cc none));
    })
    made (Lent g to v) c p = absurd p
    made (Gone g to) c p = absurd p

    go : (m ≡ home) ⊎ (m ≢ home) → Holding home x
    go (inl e) = made q.0 (subst (λ k. Moves k (settled_new (w.site k) q.0) w x) e (from-turns q.2))
        (subst (NewDoubt w) (subst (λ k. (w.site k).doubt ≡ Some q.0) e q.1) h.doubt)
    go (inr d) = absurd (cc (h.doubts m d, q.1))

pub keeps-settle : {V : Type 0} (home : ℕ) (w x : View V) (m : ℕ) → Holding home w → Settles m w x → Holding home x
keeps-settle home w x m (AtNone h) s = settle-none home w x m h s
keeps-settle home w x m (AtOne n g v h) s = go (same? m n)
  where
    go : (m ≡ n) ⊎ (m ≢ n) → Holding home x
    go (inl e) = settle-held-own home w x n g v h (subst (λ k. Settles k w x) e s)
    go (inr d) = AtOne n g v (settle-held-else home w x n g v m h d s)
keeps-settle home w x m (Between a b t v h) s = go (same? m a)
  where
    go : (m ≡ a) ⊎ (m ≢ a) → Holding home x
    go (inl e) = Between a b t v (settle-way-own home w x a b t v h (subst (λ k. Settles k w x) e s))
    go (inr d) = settle-way-else home w x a b t v m h d s
