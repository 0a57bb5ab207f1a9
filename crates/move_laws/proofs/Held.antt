-- What the change of one node leaves of the invariant.
use Rattle.std.proofs.Common.{◌≡◌, ◌≢◌, ◌⊎◌, inl, inr, ℕ, suc, ◌≤◌, false, None, Some}
use Rattle.std.proofs.Common.{refl, sym, ◌∙◌, subst, arith, le_trans, le_refl}
use Rattle.move_laws.specs.Wander.{Here, Lent, generation, Site, View, Letter, Take, Known, IsFresh}
use Rattle.move_laws.proofs.Holding.{Each, each-where, PastRecord, PastDoubt, Rests, PastLetter, HolderDoubt, Held, WayLetter, Waits, OnWay}
use Rattle.move_laws.proofs.Holding.{Moves, same?, Grows, grows, past-grows}
use Rattle.move_laws.proofs.Holding.{rests-grow, letter-grows, way-grows, holder-fresh, past-bound, at-each, waits-grow, waits-rest}

-- 1. It is held

-- a node that rests goes on resting
pub held-elsewhere : {V : Type 0} (home : ℕ) (w x : View V) (n g : ℕ) (v : V) (m : ℕ) (s : Site V) → Held home w n g v → m ≢ n
    → Moves m s w x → Rests w g s → generation (w.site m).kept ≤ generation s.kept → ((w.site m).kept ≢ None → s.kept ≢ None)
    → Held home x n g v
held-elsewhere {V} home w x n g v m s h d c r le keeps = record {
  kept = subst (λ (z : Site V). z.kept ≡ Some (Here g v)) (sym at-n) h.kept;
  fresh = c.fresh v h.fresh;
  doubt = subst (λ (z : Site V). HolderDoubt x n g v z.doubt) (sym at-n) (holder-fresh w x n g v c.fresh (w.site n).doubt h.doubt);
  mind = subst (λ (z : Site V). (z.doubt ≡ None) ⊎ ((z.active ≡ false) × (z.memory ≡ None))) (sym at-n) h.mind;
  memory = subst (λ (z : Site V). (z.memory ≡ None) ⊎ (z.memory ≡ Some (g, v))) (sym at-n) h.memory;
  rest = at-each (λ k z. k ≢ n → Rests x g z) c (λ _. rests-grow w x g g s up (le_refl g) r)
      (λ k d2 d3. rests-grow w x g g (w.site k) up (le_refl g) (h.rest k d3));
  letters = subst (Each (PastLetter x g)) (sym c.sent)
      (each-where (PastLetter w g) (PastLetter x g) (letter-grows w x g g up (le_refl g)) w.sent h.letters);
  home_has = at-each (λ k (z : Site V). k ≡ home → z.kept ≢ None) c
      (λ e. keeps (subst (λ k. (w.site k).kept ≢ None) (sym e) h.home_has))
      (λ k d2 e. subst (λ k. (w.site k).kept ≢ None) (sym e) h.home_has) home refl;
}
  where
    at-n : x.site n ≡ w.site n
    at-n = c.others n (λ e. d (sym e))

    up : Grows w x
    up = grows c le

-- the holder goes on holding it, maybe with another value
pub held-own : {V : Type 0} (home : ℕ) (w x : View V) (n g : ℕ) (v u : V) (s : Site V) → Held home w n g v → Moves n s w x
    → s.kept ≡ Some (Here g u) → IsFresh x u → HolderDoubt x n g u s.doubt
    → (s.doubt ≡ None) ⊎ ((s.active ≡ false) × (s.memory ≡ None)) → (s.memory ≡ None) ⊎ (s.memory ≡ Some (g, u)) → Held home x n g u
held-own {V} home w x n g v u s h c kept fresh doubt mind memory = record {
  kept = subst (λ (z : Site V). z.kept ≡ Some (Here g u)) (sym c.own) kept;
  fresh = fresh;
  doubt = subst (λ (z : Site V). HolderDoubt x n g u z.doubt) (sym c.own) doubt;
  mind = subst (λ (z : Site V). (z.doubt ≡ None) ⊎ ((z.active ≡ false) × (z.memory ≡ None))) (sym c.own) mind;
  memory = subst (λ (z : Site V). (z.memory ≡ None) ⊎ (z.memory ≡ Some (g, u))) (sym c.own) memory;
  rest = at-each (λ k z. k ≢ n → Rests x g z) c (λ d. absurd (d refl))
      (λ k d2 d3. rests-grow w x g g (w.site k) up (le_refl g) (h.rest k d3));
  letters = subst (Each (PastLetter x g)) (sym c.sent)
      (each-where (PastLetter w g) (PastLetter x g) (letter-grows w x g g up (le_refl g)) w.sent h.letters);
  home_has = at-each (λ k (z : Site V). k ≡ home → z.kept ≢ None) c
      (λ e none. absurd (cc (kept, none)))
      (λ k d2 e. subst (λ k. (w.site k).kept ≢ None) (sym e) h.home_has) home refl;
}
  where
    up : Grows w x
    up = grows c (subst (λ r. generation (w.site n).kept ≤ generation r) (sym kept)
        (subst (λ r. generation r ≤ g) (sym h.kept) (le_refl g)))

-- the holder has lent it
pub held-lent : {V : Type 0} (home : ℕ) (w x : View V) (n g b : ℕ) (v : V) (s : Site V) → Held home w n g v → Moves n s w x
    → s.kept ≡ Some (Lent (suc g) b v) → s.doubt ≡ None → s.active ≡ false → s.memory ≡ None → b ≢ n → OnWay home x n b g v
held-lent {V} home w x n g b v s h c kept doubt active memory apart = record {
  kept = subst (λ (z : Site V). z.kept ≡ Some (Lent (suc g) b v)) (sym c.own) kept;
  doubt = subst (λ (z : Site V). z.doubt ≡ None) (sym c.own) doubt;
  active = subst (λ (z : Site V). z.active ≡ false) (sym c.own) active;
  memory = subst (λ (z : Site V). z.memory ≡ None) (sym c.own) memory;
  apart = apart;
  fresh = c.fresh v h.fresh;
  rest = at-each (λ k z. k ≢ n → Waits x b g v k z) c (λ d. absurd (d refl)) (λ k d2 d3. waits k (h.rest k d3));
  letters = subst (Each (WayLetter x b g v)) (sym c.sent) (each-where (PastLetter w g) (WayLetter x b g v) letter w.sent h.letters);
  home_has = at-each (λ k (z : Site V). k ≡ home → z.kept ≢ None) c
      (λ e none. absurd (cc (kept, none)))
      (λ k d2 e. subst (λ k. (w.site k).kept ≢ None) (sym e) h.home_has) home refl;
}
  where
    up : Grows w x
    up = grows c (subst (λ r. generation (w.site n).kept ≤ generation r) (sym kept)
        (subst (λ r. generation r ≤ suc g) (sym h.kept) (omega arith)))

    waits : (k : ℕ) → Rests w g (w.site k) → Waits x b g v k (w.site k)
    waits k r = record {
      kept = past-grows w x g g up (le_refl g) (w.site k).kept r.kept;
      doubt = inl r.doubt;
      active = r.active;
      memory = r.memory;
    }

    letter : (l : Letter V) → PastLetter w g l → WayLetter x b g v l
    letter (Take to h2 u) p = inl (le_trans p.0 (up to), p.1)
    letter (Known to h2) p = p

-- 2. It is on its way

-- any node but the lender goes on waiting
pub way-elsewhere : {V : Type 0} (home : ℕ) (w x : View V) (a b t : ℕ) (v : V) (m : ℕ) (s : Site V) → OnWay home w a b t v → m ≢ a
    → Moves m s w x → Waits w b t v m s → generation (w.site m).kept ≤ generation s.kept → ((w.site m).kept ≢ None → s.kept ≢ None)
    → OnWay home x a b t v
way-elsewhere {V} home w x a b t v m s h d c r le keeps = record {
  kept = subst (λ (z : Site V). z.kept ≡ Some (Lent (suc t) b v)) (sym at-a) h.kept;
  doubt = subst (λ (z : Site V). z.doubt ≡ None) (sym at-a) h.doubt;
  active = subst (λ (z : Site V). z.active ≡ false) (sym at-a) h.active;
  memory = subst (λ (z : Site V). z.memory ≡ None) (sym at-a) h.memory;
  apart = h.apart;
  fresh = c.fresh v h.fresh;
  rest = at-each (λ k z. k ≢ a → Waits x b t v k z) c (λ _. waits-grow w x b t v m s up r)
      (λ k d2 d3. waits-grow w x b t v k (w.site k) up (h.rest k d3));
  letters = subst (Each (WayLetter x b t v)) (sym c.sent)
      (each-where (WayLetter w b t v) (WayLetter x b t v) (way-grows w x b t v up) w.sent h.letters);
  home_has = at-each (λ k (z : Site V). k ≡ home → z.kept ≢ None) c
      (λ e. keeps (subst (λ k. (w.site k).kept ≢ None) (sym e) h.home_has))
      (λ k d2 e. subst (λ k. (w.site k).kept ≢ None) (sym e) h.home_has) home refl;
}
  where
    at-a : x.site a ≡ w.site a
    at-a = c.others a (λ e. d (sym e))

    up : Grows w x
    up = grows c le

-- the lender stays as it is, but for its memory, in which there was nothing
pub way-own : {V : Type 0} (home : ℕ) (w x : View V) (a b t : ℕ) (v : V) (s : Site V) → OnWay home w a b t v
    → Moves a s w x → s.kept ≡ (w.site a).kept → s.doubt ≡ None → s.active ≡ false → s.memory ≡ None → OnWay home x a b t v
way-own {V} home w x a b t v s h c kept doubt active memory = record {
  kept = subst (λ (z : Site V). z.kept ≡ Some (Lent (suc t) b v)) (sym c.own) (kept ∙ h.kept);
  doubt = subst (λ (z : Site V). z.doubt ≡ None) (sym c.own) doubt;
  active = subst (λ (z : Site V). z.active ≡ false) (sym c.own) active;
  memory = subst (λ (z : Site V). z.memory ≡ None) (sym c.own) memory;
  apart = h.apart;
  fresh = c.fresh v h.fresh;
  rest = at-each (λ k z. k ≢ a → Waits x b t v k z) c (λ d. absurd (d refl))
      (λ k d2 d3. waits-grow w x b t v k (w.site k) up (h.rest k d3));
  letters = subst (Each (WayLetter x b t v)) (sym c.sent)
      (each-where (WayLetter w b t v) (WayLetter x b t v) (way-grows w x b t v up) w.sent h.letters);
  home_has = at-each (λ k (z : Site V). k ≡ home → z.kept ≢ None) c
      (λ e none. absurd (cc (h.kept, kept, none)))
      (λ k d2 e. subst (λ k. (w.site k).kept ≢ None) (sym e) h.home_has) home refl;
}
  where
    up : Grows w x
    up = grows c (subst (λ r. generation (w.site a).kept ≤ generation r) (sym kept) (le_refl _))

-- it has come
pub way-got : {V : Type 0} (home : ℕ) (w x : View V) (a b t : ℕ) (v : V) (s : Site V) → OnWay home w a b t v
    → Moves b s w x → s.kept ≡ Some (Here (suc t) v) → s.doubt ≡ None → s.active ≡ false → s.memory ≡ None → Held home x b (suc t) v
way-got {V} home w x a b t v s h c kept doubt active memory = record {
  kept = own;
  fresh = c.fresh v h.fresh;
  doubt = subst (HolderDoubt x b (suc t) v) (sym no_doubt) tt;
  mind = inl no_doubt;
  memory = inl (subst (λ (z : Site V). z.memory ≡ None) (sym c.own) memory);
  rest = at-each (λ k z. k ≢ b → Rests x (suc t) z) c (λ d. absurd (d refl)) (λ k d2 d3. rests k d3 (same? k a));
  letters = subst (Each (PastLetter x (suc t))) (sym c.sent) (each-where (WayLetter w b t v) (PastLetter x
      (suc t)) letter w.sent h.letters);
  home_has = at-each (λ k (z : Site V). k ≡ home → z.kept ≢ None) c
      (λ e none. absurd (cc (kept, none)))
      (λ k d2 e. subst (λ k. (w.site k).kept ≢ None) (sym e) h.home_has) home refl;
}
  where
    own : (x.site b).kept ≡ Some (Here (suc t) v)
    own = subst (λ (z : Site V). z.kept ≡ Some (Here (suc t) v)) (sym c.own) kept

    no_doubt : (x.site b).doubt ≡ None
    no_doubt = subst (λ (z : Site V). z.doubt ≡ None) (sym c.own) doubt

    old : generation (w.site b).kept ≤ t
    old = past-bound w t (w.site b).kept (Waits.kept (h.rest b h.apart))

    up : Grows w x
    up = grows c (subst (λ r. generation (w.site b).kept ≤ generation r) (sym kept) (omega (arith, old)))

    now : suc t ≤ generation (x.site b).kept
    now = subst (λ r. suc t ≤ generation r) (sym own) (le_refl (suc t))

    letter : (l : Letter V) → WayLetter w b t v l → PastLetter x (suc t) l
    letter (Take to g u) (inl p) = (le_trans p.0 (up to), omega (arith, p.1))
    letter (Take to g u) (inr p) = (
      subst (λ k. g ≤ generation (x.site k).kept) (sym p.0) (subst (λ k. k ≤ generation (x.site b).kept)
          (sym p.1) now),
      omega (arith, p.1),
    )
    letter (Known to g) p = omega (arith, p)

    rests : (k : ℕ) → k ≢ b → (k ≡ a) ⊎ (k ≢ a) → Rests x (suc t) (w.site k)
    rests k d (inl e) = subst (λ k. Rests x (suc t) (w.site k)) (sym e) (record {
      kept = subst (PastRecord x (suc t)) (sym h.kept) (le_refl (suc t), now);
      doubt = subst (PastDoubt (w.site a).kept (suc t)) (sym h.doubt) tt;
      active = h.active;
      memory = h.memory;
    })
    rests k d (inr e) = rests-grow w x t (suc t) (w.site k) up (omega arith) (waits-rest w b t v k (w.site k) d (h.rest k e))
