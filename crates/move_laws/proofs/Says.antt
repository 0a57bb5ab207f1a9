-- What the invariant says.
use Rattle.std.proofs.Common.{◌≡◌, ◌≢◌, ◌⊎◌, inl, inr, ℕ, suc, ◌≤◌, Bool, true, false, None, Some}
use Rattle.std.proofs.Common.{sym, ◌∙◌, ap, subst, arith, le_refl}
use Rattle.move_laws.specs.Wander.{Record, Here, Lent, Gone, generation, Site, View, IsFresh, last_of}
use Rattle.move_laws.specs.OneHolder.{MayHave, IsHere, OneHolder, NotLost, AlwaysOneHolder, NeverLost}
use Rattle.move_laws.proofs.Holding.{PastRecord, PastDoubt, Rests, HolderDoubt, Held, Waits, OnWay, NewDoubt, Nowhere, Holding, AtNone}
use Rattle.move_laws.proofs.Holding.{AtOne}
use Rattle.move_laws.proofs.Holding.{Between, same?, past-bound}
use Rattle.move_laws.proofs.KeptToo.{keeps-all, at-first}

-- a record of the past is not here, and no later
past-says : {V : Type 0} (w : View V) (t : ℕ) (s : Site V) (r : Record V) → PastRecord w t s.kept → PastDoubt s.kept t s.doubt → MayHave s r
    → (IsHere r → ⊥) × (generation (Some r) ≤ t)
past-says {V} w t s r kept doubt (inl is) = go r (subst (PastRecord w t) is kept)
  where
    go : (r : Record V) → PastRecord w t (Some r) → (IsHere r → ⊥) × (generation (Some r) ≤ t)
    go (Here g v) p = absurd p
    go (Lent g to v) p = (λ h. h, p.0)
    go (Gone g to) p = (λ h. h, p)
past-says {V} w t s r kept doubt (inr is) = go r (subst (PastDoubt s.kept t) is doubt)
  where
    go : (r : Record V) → PastDoubt s.kept t (Some r) → (IsHere r → ⊥) × (generation (Some r) ≤ t)
    go (Here g v) p = absurd p
    go (Lent g to v) p = absurd p
    go (Gone g to) p = (λ h. h, p.0)

not-both : {A : Type 0} (b : Bool) → b ≡ false → b ≡ true → A
not-both b off on = absurd (cc (off, on))

-- 1. Held

held-may : {V : Type 0} (home : ℕ) (w : View V) (n g : ℕ) (v : V) (m h : ℕ) (u : V) → Held home w n g v → MayHave (w.site m) (Here h u)
    → (m ≡ n) × (h ≡ g) × IsFresh w u
held-may {V} home w n g v m h u s may = go (same? m n)
  where
    own : MayHave (w.site n) (Here h u) → (h ≡ g) × IsFresh w u
    own (inl is) = let e : v ≡ u = cc (is, s.kept) in (cc (is, s.kept), subst (IsFresh w) e s.fresh)
    own (inr is) = subst (HolderDoubt w n g v) is s.doubt

    go : (m ≡ n) ⊎ (m ≢ n) → (m ≡ n) × (h ≡ g) × IsFresh w u
    go (inl e) = let o = own (subst (λ k. MayHave (w.site k) (Here h u)) e may) in (e, o.0, o.1)
    go (inr d) = absurd ((past-says w g (w.site m) (Here h u) (Rests.kept (s.rest m d)) (Rests.doubt (s.rest m d)) may).0 tt)

held-active : {V : Type 0} (home : ℕ) (w : View V) (n g : ℕ) (v : V) (m : ℕ) → Held home w n g v → (w.site m).active ≡ true → m ≡ n
held-active home w n g v m s is = go (same? m n)
  where
    go : (m ≡ n) ⊎ (m ≢ n) → m ≡ n
    go (inl e) = e
    go (inr d) = not-both (w.site m).active (Rests.active (s.rest m d)) is

held-says : {V : Type 0} (home : ℕ) (w : View V) (n g : ℕ) (v : V) → Held home w n g v → OneHolder w
held-says {V} home w n g v s = record {
  one_active = λ k m a b. held-active home w n g v k s a ∙ sym (held-active home w n g v m s b);
  one_here = λ k m h u r here other apart. here-one k m h u r here other apart;
  active_is_here = λ k a. let e = held-active home w n g v k s a in
      subst (λ j. (g : ℕ) × (v : V) × ((w.site j).kept ≡ Some (Here g v)) × ((w.site j).doubt ≡ None)) (sym e)
      (g, v, s.kept, no-doubt (subst (λ j. (w.site j).active ≡ true) e a));
  memory = λ k h u is. memory-is k h u is (same? k n);
  fresh = λ k h u may. (held-may home w n g v k h u s may).2;
}
  where
    no-doubt : (w.site n).active ≡ true → (w.site n).doubt ≡ None
    no-doubt a = elim s.mind [ inl none ↦ none | inr p ↦ not-both (w.site n).active p.0 a ]

    here-one : (k m h : ℕ) (u : V) (r : Record V) → MayHave (w.site k) (Here h u) → MayHave (w.site m) r → m ≢ k
        → (IsHere r → ⊥) × (generation (Some r) ≤ h)
    here-one k m h u r here other apart = let e = held-may home w n g v k h u s here in
        let d : m ≢ n = λ f. apart (f ∙ sym e.0) in
        subst (λ j. (IsHere r → ⊥) × (generation (Some r) ≤ j)) (sym e.1)
        (past-says w g (w.site m) r (Rests.kept (s.rest m d)) (Rests.doubt (s.rest m d)) other)

    own : (h : ℕ) (u : V) → (w.site n).memory ≡ Some (h, u) → ((w.site n).kept ≡ Some (Here h u)) × ((w.site n).doubt ≡ None)
    own h u is = elim s.memory [
      | inl none ↦ absurd (cc (none, is))
      | inr has ↦ both (cc (is, has)) is
    ]
      where
        both : ◌≡◌ {A = ℕ × V} (h, u) (g, v) → (w.site n).memory ≡ Some (h, u)
            → ((w.site n).kept ≡ Some (Here h u)) × ((w.site n).doubt ≡ None)
        both e is = (
          s.kept ∙ sym (ap (λ (p : ℕ × V). Some (Here p.0 p.1)) e),
          elim s.mind [
            | inl none ↦ none
            | inr p ↦ absurd (cc
                (p.1, is))
          ],
        )

    memory-is : (k h : ℕ) (u : V) → (w.site k).memory ≡ Some (h, u) → (k ≡ n) ⊎ (k ≢ n)
        → ((w.site k).kept ≡ Some (Here h u)) × ((w.site k).doubt ≡ None)
    memory-is k h u is (inl e) = subst (λ j. ((w.site j).kept ≡ Some (Here h u)) × ((w.site j).doubt ≡ None)) (sym e)
        (own h u (subst (λ j. (w.site j).memory ≡ Some (h, u)) e is))
    memory-is k h u is (inr d) = absurd (cc (Rests.memory (s.rest k d), is))

held-kept : {V : Type 0} (home : ℕ) (w : View V) (n g : ℕ) (v : V) → Held home w n g v → NotLost w
held-kept home w n g v s = record {
  node = n;
  generation_is = g;
  value = v;
  fresh = s.fresh;
  kept = inl s.kept;
  latest = λ m d. past-bound w g (w.site m).kept (Rests.kept (s.rest m d));
}

-- 2. On its way

way-active : {V : Type 0} (home : ℕ) (w : View V) (a b t : ℕ) (v : V) (m : ℕ) → OnWay home w a b t v → (w.site m).active ≡ false
way-active home w a b t v m s = go (same? m a)
  where
    go : (m ≡ a) ⊎ (m ≢ a) → (w.site m).active ≡ false
    go (inl e) = subst (λ k. (w.site k).active ≡ false) (sym e) s.active
    go (inr d) = Waits.active (s.rest m d)

way-memory : {V : Type 0} (home : ℕ) (w : View V) (a b t : ℕ) (v : V) (m : ℕ) → OnWay home w a b t v → (w.site m).memory ≡ None
way-memory home w a b t v m s = go (same? m a)
  where
    go : (m ≡ a) ⊎ (m ≢ a) → (w.site m).memory ≡ None
    go (inl e) = subst (λ k. (w.site k).memory ≡ None) (sym e) s.memory
    go (inr d) = Waits.memory (s.rest m d)

-- the record of any node is the lender's, or of the past, or has come to the one to which it was lent
way-may : {V : Type 0} (home : ℕ) (w : View V) (a b t : ℕ) (v : V) (m : ℕ) (r : Record V) → OnWay home w a b t v → MayHave (w.site m) r
    → ((m ≡ a) × (r ≡ Lent (suc t) b v)) ⊎ ((m ≢ a) × (IsHere r → ⊥) × (generation (Some r) ≤ t)) ⊎ ((m ≡ b) × (r ≡ Here (suc t) v))
way-may {V} home w a b t v m r s may = go (same? m a)
  where
    own : MayHave (w.site a) r → r ≡ Lent (suc t) b v
    own (inl is) = cc (is, s.kept)
    own (inr is) = absurd (cc (is, s.doubt))

    go : (m ≡ a) ⊎ (m ≢ a)
        → ((m ≡ a) × (r ≡ Lent (suc t) b v)) ⊎ ((m ≢ a) × (IsHere r → ⊥) × (generation (Some r) ≤ t)) ⊎ ((m ≡ b) × (r ≡ Here (suc t) v))
    go (inl e) = inl (e, own (subst (λ k. MayHave (w.site k) r) e may))
    go (inr d) = inr (other (s.rest m d))
      where
        past : PastDoubt (w.site m).kept t (w.site m).doubt → Waits w b t v m (w.site m)
            → ((m ≢ a) × (IsHere r → ⊥) × (generation (Some r) ≤ t)) ⊎ ((m ≡ b) × (r ≡ Here (suc t) v))
        past p z = let q = past-says w t (w.site m) r z.kept p may in inl (d, q.0, q.1)

        come : MayHave (w.site m) r → (m ≡ b) × ((w.site m).doubt ≡ Some (Here (suc t) v)) → Waits w b t v m (w.site m)
            → ((m ≢ a) × (IsHere r → ⊥) × (generation (Some r) ≤ t)) ⊎ ((m ≡ b) × (r ≡ Here (suc t) v))
        come (inl is) p z = let q = past-says w t (record {
          kept =
              (w.site m).kept;
          doubt = None;
          active = false;
          memory = None;
        }) r z.kept tt (inl is) in
            inl (d, q.0, q.1)
        come (inr is) p z = inr (p.0, cc (is, p.1))

        other : Waits w b t v m (w.site m) → ((m ≢ a) × (IsHere r → ⊥) × (generation (Some r) ≤ t)) ⊎ ((m ≡ b) × (r ≡ Here (suc t) v))
        other z = elim z.doubt [ inl p ↦ past p z | inr p ↦ come may p z ]

way-says : {V : Type 0} (home : ℕ) (w : View V) (a b t : ℕ) (v : V) → OnWay home w a b t v → OneHolder w
way-says {V} home w a b t v s = record {
  one_active = λ k m x y. not-both (w.site k).active (way-active home w a b t v k s) x;
  one_here = λ k m h u r here other apart. here-one k m h u r (way-may home w a b t v k (Here h u) s here)
      (way-may home w a b t v m r s other) apart;
  active_is_here = λ k x. not-both (w.site k).active (way-active home w a b t v k s) x;
  memory = λ k h u is. absurd (cc (way-memory home w a b t v k s, is));
  fresh = λ k h u may. is-fresh k h u (way-may home w a b t v k (Here h u) s may);
}
  where
    is-fresh : (k h : ℕ) (u : V) → ((k ≡ a) × (Here h u ≡ Lent (suc t) b v))
        ⊎ ((k ≢ a) × (IsHere (Here h u) → ⊥) × (h ≤ t)) ⊎ ((k ≡ b) × (Here h u ≡ Here (suc t) v)) → IsFresh w u
    is-fresh k h u (inl p) = absurd (cc p.1)
    is-fresh k h u (inr (inl p)) = absurd (p.1 tt)
    is-fresh k h u (inr (inr p)) = let e : v ≡ u = cc p.1 in subst (IsFresh w) e s.fresh

    here-one : (k m h : ℕ) (u : V) (r : Record V) → ((k ≡ a) × (Here h u ≡ Lent (suc t) b v))
        ⊎ ((k ≢ a) × (IsHere (Here h u) → ⊥) × (h ≤ t)) ⊎ ((k ≡ b) × (Here h u ≡ Here (suc t) v))
        → ((m ≡ a) × (r ≡ Lent (suc t) b v)) ⊎ ((m ≢ a) × (IsHere r → ⊥) × (generation (Some r) ≤ t)) ⊎ ((m ≡ b) × (r ≡ Here (suc t) v))
        → m ≢ k → (IsHere r → ⊥) × (generation (Some r) ≤ h)
    here-one k m h u r (inl p) q apart = absurd (cc p.1)
    here-one k m h u r (inr (inl p)) q apart = absurd (p.1 tt)
    here-one k m h u r (inr (inr p)) (inl q) apart = let e : h ≡ suc t = cc p.1 in
        subst (λ z. (IsHere z → ⊥) × (generation (Some z) ≤ h)) (sym q.1) (λ x. x, subst (λ j. suc t ≤ j) (sym e) (le_refl (suc t)))
    here-one k m h u r (inr (inr p)) (inr (inl q)) apart = let e : h ≡ suc t = cc p.1 in (q.1, omega (arith, e, q.2))
    here-one k m h u r (inr (inr p)) (inr (inr q)) apart = absurd (apart (q.0 ∙ sym p.0))

way-kept : {V : Type 0} (home : ℕ) (w : View V) (a b t : ℕ) (v : V) → OnWay home w a b t v → NotLost w
way-kept home w a b t v s = record {
  node = a;
  generation_is = suc t;
  value = v;
  fresh = s.fresh;
  kept = inr (b, s.kept, s.doubt);
  latest = λ m d. let p = past-bound w t (w.site m).kept (Waits.kept (s.rest m d)) in omega (arith, p);
}

-- 3. Nowhere

none-may : {V : Type 0} (home : ℕ) (w : View V) (m : ℕ) (r : Record V) → Nowhere home w → MayHave (w.site m) r
    → (m ≡ home) × NewDoubt w (Some r)
none-may home w m r s (inl is) = absurd (cc (s.kept m, is))
none-may home w m r s (inr is) = go (same? m home)
  where
    go : (m ≡ home) ⊎ (m ≢ home) → (m ≡ home) × NewDoubt w (Some r)
    go (inl e) = (e, subst (NewDoubt w) (subst (λ k. (w.site k).doubt ≡ Some r) e is) s.doubt)
    go (inr d) = absurd (cc (s.doubts m d, is))

none-says : {V : Type 0} (home : ℕ) (w : View V) → Nowhere home w → OneHolder w
none-says home w s = record {
  one_active = λ k m x y. not-both (w.site k).active (s.active k) x;
  one_here = λ k m h u r here other apart. absurd (apart ((none-may home w m r s other).0 ∙ sym (none-may home w k (Here h u) s here).0));
  active_is_here = λ k x. not-both (w.site k).active (s.active k) x;
  memory = λ k h u is. absurd (cc (s.memory k, is));
  fresh = λ k h u may. (none-may home w k (Here h u) s may).1.1;
}

-- 4. All

pub says : {V : Type 0} (home : ℕ) (w : View V) → Holding home w → OneHolder w
says home w (AtNone s) = none-says home w s
says home w (AtOne n g v s) = held-says home w n g v s
says home w (Between a b t v s) = way-says home w a b t v s

pub not-lost : {V : Type 0} (home : ℕ) (w : View V) → Holding home w → (n : ℕ) → (w.site n).kept ≢ None → NotLost w
not-lost home w (AtNone s) n has = absurd (has (s.kept n))
not-lost home w (AtOne n g v s) k has = held-kept home w n g v s
not-lost home w (Between a b t v s) k has = way-kept home w a b t v s

pub always-one-holder : AlwaysOneHolder
always-one-holder home w xs blank steps = says home (last_of w xs) (keeps-all home w xs (at-first home w blank) steps)

pub never-lost : NeverLost
never-lost home w xs blank steps n has = not-lost home (last_of w xs) (keeps-all home w xs (at-first home w blank) steps) n has
