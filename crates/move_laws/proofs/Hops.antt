-- How a change of one node looks to one Eject.
use Rattle.std.proofs.Common.{◌≡◌, ◌≢◌, ◌⊎◌, inl, inr, ℕ, Bool, true, false, Option, None, Some}
use Rattle.std.proofs.Common.{is_some, refl, sym, ◌∙◌, ap, subst}
use Rattle.std.specs.Prelude.{if◌then◌else◌, ◌==◌, ◌&&◌}
use Rattle.capability.specs.declared.Uid.{Uid}
use Rattle.capability.specs.Uids.{uid_eq}
use Rattle.std.proofs.lemmas.Bool.{eqb-true, eqb-false}
use Rattle.move_laws.specs.Wander.{Record, Site, Turns}
use Rattle.move_laws.specs.Wander.{settled_new, settled_old, asleep}
use Rattle.move_laws.specs.Wander.{Settle, Forget}
use Rattle.move_laws.specs.World.{at_one, changed, Node, Pick, Old, New, keeping, doubting, minding, made_of, settled_by, SettlesAs}
use Rattle.move_laws.specs.World.{fallen, World, at_node}
use Rattle.move_laws.specs.World.{flat, doubt_of, site_of, letters_of, view}
use Rattle.move_laws.proofs.Holding.{Holding, same?}
use Rattle.move_laws.proofs.KeptToo.{keeps}

eq-same : (n : ℕ) → (n == n) ≡ true
eq-same n = go (n == n) refl
  where
    go : (b : Bool) → (n == n) ≡ b → b ≡ true
    go true e = refl
    go false e = absurd (eqb-false n n e refl)

eq-other : (m n : ℕ) → m ≢ n → (m == n) ≡ false
eq-other m n d = go (m == n) refl
  where
    go : (b : Bool) → (m == n) ≡ b → b ≡ false
    go true e = absurd (d (eqb-true m n e))
    go false e = refl

both-true : (a b : Bool) → (a && b) ≡ true → (a ≡ true) × (b ≡ true)
both-true true b e = (refl, e)
both-true false b e = absurd (cc e)

-- each uid is itself
pub own-uid : (u : Uid) → uid_eq u u ≡ true
own-uid u = ap (λ b. b && ((u.epoch == u.epoch) && (u.serial == u.serial))) (eq-same u.node)
    ∙ ap (λ b. b && (u.serial == u.serial)) (eq-same u.epoch) ∙ eq-same u.serial

-- uids of which the test says so are one
pub one-uid : (u v : Uid) → uid_eq u v ≡ true → u ≡ v
one-uid u v e =
    let p = both-true (u.node == v.node) ((u.epoch == v.epoch) && (u.serial == v.serial)) e in
    let q = both-true (u.epoch == v.epoch) (u.serial == v.serial) p.1 in
    λ i. record {
      node = eqb-true u.node v.node p.0 i;
      epoch = eqb-true u.epoch v.epoch q.0 i;
      serial = eqb-true u.serial v.serial q.1 i;
    }

-- two uids are one, or the test says that they are not
pub uids? : (u v : Uid) → (u ≡ v) ⊎ (uid_eq u v ≡ false)
uids? u v = go (uid_eq u v) refl
  where
    go : (b : Bool) → uid_eq u v ≡ b → (u ≡ v) ⊎ (uid_eq u v ≡ false)
    go true e = inl (one-uid u v e)
    go false e = inr e

at-own : {X : Type 0} (n : ℕ) (x : X) (f : ℕ → X) → at_one n x f n ≡ x
at-own {X} n x f = ap (λ b. if b then x else f n) (eq-same n)

at-other : {X : Type 0} (n : ℕ) (x : X) (f : ℕ → X) (m : ℕ) → m ≢ n → at_one n x f m ≡ f m
at-other {X} n x f m d = ap (λ b. if b then x else f m) (eq-other m n d)

pub changed-own : {X : Type 0} (u : Uid) (x : X) (f : Uid → X) → changed u x f u ≡ x
changed-own {X} u x f = ap (λ b. if b then x else f u) (own-uid u)

-- node n in the view
pub own-site : {V : Type 0} (q : Uid) (n : ℕ) (s : Node V) (w : World V) → (view q (at_node n s w)).site n ≡ site_of q s
own-site q n s w = ap (site_of q) (at-own n s w.node)

pub other-site : {V : Type 0} (q : Uid) (n : ℕ) (s t : Node V) (w : World V) (m : ℕ) → m ≢ n
    → (view q (at_node n t w)).site m ≡ (view q (at_node n s w)).site m
other-site q n s t w m d = ap (site_of q) (at-other n t w.node m d ∙ sym (at-other n s w.node m d))

-- the node turns from one state to another, by what is seen of it
pub hop : {V : Type 0} (q : Uid) (n : ℕ) (s t : Node V) (w : World V) (F : Site V → Site V) → site_of q t ≡ F (site_of q s)
    → Turns n (F ((view q (at_node n s w)).site n)) (view q (at_node n s w)) (view q (at_node n t w))
hop q n s t w F e = record {
  own = own-site q n t w ∙ e ∙ ap F (sym (own-site q n s w));
  others = other-site q n s t w;
  sent = refl;
  last = refl;
  cut = refl;
}

-- where nothing seen of it changes, nothing changes
pub stay : {V : Type 0} (home : ℕ) (q : Uid) (n : ℕ) (s t : Node V) (w : World V) → site_of q t ≡ site_of q s
    → Holding home (view q (at_node n s w))
    → Holding home (view q (at_node n t w))
stay {V} home q n s t w e h = subst (λ (f : ℕ → Site V). Holding home (record {
  site = f;
  sent = letters_of q w.posted;
  last = w.last q;
  cut = w.cut q;
})) (λ i m. sites m i) h
  where
    sites : (m : ℕ) → site_of q (at_one n s w.node m) ≡ site_of q (at_one n t w.node m)
    sites m = go (same? m n)
      where
        go : (m ≡ n) ⊎ (m ≢ n) → site_of q (at_one n s w.node m) ≡ site_of q (at_one n t w.node m)
        go (inl d) = subst (λ k. site_of q (at_one n s w.node k) ≡ site_of q (at_one n t w.node k)) (sym d)
            (own-site q n s w ∙ sym e ∙ sym (own-site q n t w))
        go (inr d) = sym (other-site q n s t w m d)

-- the node as it is
pub as-it-is : {V : Type 0} (home : ℕ) (q : Uid) (n : ℕ) (w : World V) → Holding home (view q w)
    → Holding home (view q (at_node n (w.node n) w))
as-it-is {V} home q n w h = subst (λ (f : ℕ → Site V). Holding home (record {
  site = f;
  sent = letters_of q w.posted;
  last = w.last q;
  cut = w.cut q;
})) (λ i m. sites m i) h
  where
    sites : (m : ℕ) → site_of q (w.node m) ≡ site_of q (at_one n (w.node n) w.node m)
    sites m = go (same? m n)
      where
        go : (m ≡ n) ⊎ (m ≢ n) → site_of q (w.node m) ≡ site_of q (at_one n (w.node n) w.node m)
        go (inl d) = subst (λ k. site_of q (w.node k) ≡ site_of q (at_one n (w.node n) w.node k)) (sym d) (sym (own-site q n (w.node n) w))
        go (inr d) = ap (site_of q) (sym (at-other n (w.node n) w.node m d))

-- 1. A settling

pub settles : {V : Type 0} (home : ℕ) (q : Uid) (n : ℕ) (s : Node V) (p : Option Pick) (w : World V) → SettlesAs p s
    → Holding home (view q (at_node n s w))
    → Holding home (view q (at_node n (settled_by p s) w))
settles home q n s None w fits h = h
settles home q n s (Some Old) w fits h = keeps home (view q (at_node n s w)) (view q (at_node n (doubting None s) w)) h
    (Settle n (inl (hop q n s (doubting None s) w settled_old refl)))
settles {V} home q n s (Some New) w fits h = go s.doubt refl
  where
    go : (d : Option (Uid × Record V)) → s.doubt ≡ d → Holding home (view q (at_node n (made_of d s) w))
    go None e = h
    go (Some c) e = own (uid_eq q c.0) refl
      where
        t : Node V
        t = doubting None (keeping c.0 c.1 s)

        own : (b : Bool) → (uid_eq q c.0) ≡ b → Holding home (view q (at_node n t w))
        own true is = keeps home (view q (at_node n s w)) (view q (at_node n t w)) h (Settle n (inr (
          c.1,
          in-doubt,
          hop q n s t w (λ z. settled_new z c.1) seen,
        )))
          where
            in-doubt : ((view q (at_node n s w)).site n).doubt ≡ Some c.1
            in-doubt = ap (λ (z : Site V). z.doubt) (own-site q n s w) ∙ ap (doubt_of q) e ∙ ap (λ b. if b then Some c.1 else None) is

            seen : site_of q t ≡ settled_new (site_of q s) c.1
            seen i = record {
              kept = flat (if is i then Some (Some c.1) else s.kept q);
              doubt = None;
              active = s.active q;
              memory = s.memory q;
            }
        own false is = keeps home (view q (at_node n s w)) (view q (at_node n t w)) h (Settle n (inl (hop q n s t w settled_old seen)))
          where
            seen : site_of q t ≡ settled_old (site_of q s)
            seen i = record {
              kept = flat (if is i then Some (Some c.1) else s.kept q);
              doubt = None;
              active = s.active q;
              memory = s.memory q;
            }

pub settled-none : {V : Type 0} (s : Node V) (p : Option Pick) → SettlesAs p s → (settled_by p s).doubt ≡ None
settled-none {V} s None fits = go s.doubt refl fits
  where
    go : (d : Option (Uid × Record V)) → s.doubt ≡ d → false ≡ is_some d → s.doubt ≡ None
    go None e b = e
    go (Some c) e b = absurd (cc b)
settled-none s (Some Old) fits = refl
settled-none {V} s (Some New) fits = go s.doubt refl fits
  where
    go : (d : Option (Uid × Record V)) → s.doubt ≡ d → true ≡ is_some d → (made_of d s).doubt ≡ None
    go None e b = absurd (cc b)
    go (Some c) e b = refl

-- 2. Memory that goes

pub forgets : {V : Type 0} (home : ℕ) (q : Uid) (n : ℕ) (u : Uid) (s : Node V) (w : World V) → Holding home (view q (at_node n s w))
    → Holding home (view q (at_node n (minding u false None s) w))
forgets {V} home q n u s w h = go (uid_eq q u) refl
  where
    t : Node V
    t = minding u false None s

    go : (b : Bool) → (uid_eq q u) ≡ b → Holding home (view q (at_node n t w))
    go true is = keeps home (view q (at_node n s w)) (view q (at_node n t w)) h (Forget n (hop q n s t w asleep seen))
      where
        seen : site_of q t ≡ asleep (site_of q s)
        seen i = record {
          kept = flat (s.kept q);
          doubt = doubt_of q s.doubt;
          active = if is i then false else s.active q;
          memory = if is i then None else s.memory q;
        }
    go false is = stay home q n s t w seen h
      where
        seen : site_of q t ≡ site_of q s
        seen i = record {
          kept = flat (s.kept q);
          doubt = doubt_of q s.doubt;
          active = if is i then false else s.active q;
          memory = if is i then None else s.memory q;
        }

pub falls : {V : Type 0} (home : ℕ) (q : Uid) (n : ℕ) (s : Node V) (w : World V) → Holding home (view q (at_node n s w))
    → Holding home (view q (at_node n (fallen s) w))
falls home q n s w h = keeps home (view q (at_node n s w)) (view q (at_node n (fallen s) w)) h (Forget n (hop q n s
    (fallen s) w asleep refl))

-- 3. What is done to another Eject is not seen

pub kept-else : {V : Type 0} (home : ℕ) (q : Uid) (n : ℕ) (u : Uid) (r : Record V) (s : Node V) (w : World V) → (uid_eq q u) ≡ false
    → Holding home (view q (at_node n s w)) → Holding home (view q (at_node n (keeping u r s) w))
kept-else {V} home q n u r s w is h = stay home q n s (keeping u r s) w seen h
  where
    seen : site_of q (keeping u r s) ≡ site_of q s
    seen i = record {
      kept = flat (if is i then Some (Some r) else s.kept q);
      doubt = doubt_of q s.doubt;
      active = s.active q;
      memory = s.memory q;
    }

pub doubt-else : {V : Type 0} (home : ℕ) (q : Uid) (n : ℕ) (u : Uid) (r : Record V) (s : Node V) (w : World V) → (uid_eq q u) ≡ false
    → s.doubt ≡ None
    → Holding home (view q (at_node n s w)) → Holding home (view q (at_node n (doubting (Some (u, r)) s) w))
doubt-else {V} home q n u r s w is none h = stay home q n s (doubting (Some (u, r)) s) w seen h
  where
    same : doubt_of q (Some (u, r)) ≡ doubt_of q s.doubt
    same = ap (λ b. if b then Some r else None) is ∙ sym (ap (doubt_of q) none)

    seen : site_of q (doubting (Some (u, r)) s) ≡ site_of q s
    seen i = record {
      kept = flat (s.kept q);
      doubt = same i;
      active = s.active q;
      memory = s.memory q;
    }

pub mind-else : {V : Type 0} (home : ℕ) (q : Uid) (n : ℕ) (u : Uid) (a : Bool) (m : Option (ℕ × V)) (s : Node V) (w : World V)
    → (uid_eq q u) ≡ false
    → Holding home (view q (at_node n s w)) → Holding home (view q (at_node n (minding u a m s) w))
mind-else {V} home q n u a m s w is h = stay home q n s (minding u a m s) w seen h
  where
    seen : site_of q (minding u a m s) ≡ site_of q s
    seen i = record {
      kept = flat (s.kept q);
      doubt = doubt_of q s.doubt;
      active = if is i then a else s.active q;
      memory = if is i then m else s.memory q;
    }
