-- The invariant of an Eject that wanders: it is nowhere yet, or held by one node, or on its way between two.
use Rattle.std.proofs.Common.{◌≡◌, ◌≢◌, ◌⊎◌, inl, inr, ℕ, suc, ◌≤◌, eqb, Bool, true, false, List, [], ◌∷◌, Option, None, Some}
use Rattle.std.proofs.Common.{refl, sym, ◌∙◌, subst, arith, le_trans, le_refl}
use Rattle.std.proofs.lemmas.Bool.{eqb-true, eqb-false}
use Rattle.move_laws.specs.Wander.{Record, Here, Lent, Gone, generation, Site, View, Letter, Take, Known, Contains, IsFresh}
use Rattle.move_laws.specs.Wander.{OthersSame, Turns}

-- 1. What is said of each list's items

abbrev pub Each : {X : Type 0} → (X → Type 0) → List X → Type 0
Each P [] = Unit {0}
Each P (x ∷ xs) = P x × Each P xs

pub each-at : {X : Type 0} (P : X → Type 0) (xs : List X) (x : X) → Each P xs → Contains xs x → P x
each-at P [] x all there = absurd there
each-at P (y ∷ ys) x all (inl e) = subst P e all.0
each-at P (y ∷ ys) x all (inr there) = each-at P ys x all.1 there

pub each-where : {X : Type 0} (P Q : X → Type 0) → ((x : X) → P x → Q x) → (xs : List X) → Each P xs → Each Q xs
each-where P Q f [] all = tt
each-where P Q f (x ∷ xs) all = (f x all.0, each-where P Q f xs all.1)

-- 2. The invariant

-- a record of the past: it is not here, its generation is none beyond this one, and what was lent has been taken
abbrev pub PastRecord : {V : Type 0} → View V → ℕ → Option (Record V) → Type 0
PastRecord w top None = Unit {0}
PastRecord w top (Some (Here g v)) = ⊥
PastRecord w top (Some (Lent g to v)) = (g ≤ top) × (g ≤ generation (w.site to).kept)
PastRecord w top (Some (Gone g to)) = g ≤ top

-- a doubt of such a record: it may be closed
abbrev pub PastDoubt : {V : Type 0} → Option (Record V) → ℕ → Option (Record V) → Type 0
PastDoubt kept top None = Unit {0}
PastDoubt kept top (Some (Here g v)) = ⊥
PastDoubt kept top (Some (Lent g to v)) = ⊥
PastDoubt kept top (Some (Gone g to)) = (g ≤ top) × (generation kept ≤ g)

-- a node that has it no more, or not yet
pub record Rests {V : Type 0} (w : View V) (top : ℕ) (s : Site V) : Type 0 where
  pub kept : PastRecord w top s.kept
  pub doubt : PastDoubt s.kept top s.doubt
  pub active : s.active ≡ false
  pub memory : s.memory ≡ None

-- a letter that has been taken, or the answer to one
abbrev pub PastLetter : {V : Type 0} → View V → ℕ → Letter V → Type 0
PastLetter w top (Take to g v) = (g ≤ generation (w.site to).kept) × (g ≤ top)
PastLetter w top (Known to g) = g ≤ top

-- what the holder may have in doubt: another value of the same generation, or that it is lent
abbrev pub HolderDoubt : {V : Type 0} → View V → ℕ → ℕ → V → Option (Record V) → Type 0
HolderDoubt w n g v None = Unit {0}
HolderDoubt w n g v (Some (Here h u)) = (h ≡ g) × IsFresh w u
HolderDoubt w n g v (Some (Lent h to u)) = (h ≡ suc g) × (to ≢ n) × (u ≡ v)
HolderDoubt w n g v (Some (Gone h to)) = ⊥

-- node n holds it
pub record Held {V : Type 0} (home : ℕ) (w : View V) (n g : ℕ) (v : V) : Type 0 where
  pub kept : (w.site n).kept ≡ Some (Here g v)
  pub fresh : IsFresh w v
  pub doubt : HolderDoubt w n g v (w.site n).doubt
  pub mind : ((w.site n).doubt ≡ None) ⊎ (((w.site n).active ≡ false) × ((w.site n).memory ≡ None))
  pub memory : ((w.site n).memory ≡ None) ⊎ ((w.site n).memory ≡ Some (g, v))
  pub rest : (m : ℕ) → m ≢ n → Rests w g (w.site m)
  pub letters : Each (PastLetter w g) w.sent
  pub home_has : (w.site home).kept ≢ None

-- a letter of the past, or the one that is on its way
abbrev pub WayLetter : {V : Type 0} → View V → ℕ → ℕ → V → Letter V → Type 0
WayLetter w b t v (Take to g u) = ((g ≤ generation (w.site to).kept) × (g ≤ t)) ⊎ ((to ≡ b) × (g ≡ suc t) × (u ≡ v))
WayLetter w b t v (Known to g) = g ≤ t

-- a node that has it no more or not yet, while it is on its way: it may have in doubt what came
pub record Waits {V : Type 0} (w : View V) (b t : ℕ) (v : V) (m : ℕ) (s : Site V) : Type 0 where
  pub kept : PastRecord w t s.kept
  pub doubt : PastDoubt s.kept t s.doubt ⊎ ((m ≡ b) × (s.doubt ≡ Some (Here (suc t) v)))
  pub active : s.active ≡ false
  pub memory : s.memory ≡ None

-- node a has lent it to node b, which has not got it
pub record OnWay {V : Type 0} (home : ℕ) (w : View V) (a b t : ℕ) (v : V) : Type 0 where
  pub kept : (w.site a).kept ≡ Some (Lent (suc t) b v)
  pub doubt : (w.site a).doubt ≡ None
  pub active : (w.site a).active ≡ false
  pub memory : (w.site a).memory ≡ None
  pub apart : b ≢ a
  pub fresh : IsFresh w v
  pub rest : (m : ℕ) → m ≢ a → Waits w b t v m (w.site m)
  pub letters : Each (WayLetter w b t v) w.sent
  pub home_has : (w.site home).kept ≢ None

-- the doubt of a first record
abbrev pub NewDoubt : {V : Type 0} → View V → Option (Record V) → Type 0
NewDoubt w None = Unit {0}
NewDoubt w (Some (Here g v)) = (g ≡ 1) × IsFresh w v
NewDoubt w (Some (Lent g to v)) = ⊥
NewDoubt w (Some (Gone g to)) = ⊥

-- it is nowhere yet
pub record Nowhere {V : Type 0} (home : ℕ) (w : View V) : Type 0 where
  pub kept : (m : ℕ) → (w.site m).kept ≡ None
  pub doubt : NewDoubt w (w.site home).doubt
  pub doubts : (m : ℕ) → m ≢ home → (w.site m).doubt ≡ None
  pub active : (m : ℕ) → (w.site m).active ≡ false
  pub memory : (m : ℕ) → (w.site m).memory ≡ None
  pub sent : w.sent ≡ []

pub data Holding {V : Type 0} (home : ℕ) (w : View V) : Type 0 where
  AtNone : Nowhere home w → Holding home w
  AtOne : (n g : ℕ) (v : V) → Held home w n g v → Holding home w
  Between : (a b t : ℕ) (v : V) → OnWay home w a b t v → Holding home w

-- 3. A change of one node

-- node n is now so, no letter was sent, and each value that was fresh still is
pub record Moves {V : Type 0} (n : ℕ) (s : Site V) (w x : View V) : Type 0 where
  pub own : x.site n ≡ s
  pub others : OthersSame n w x
  pub sent : x.sent ≡ w.sent
  pub fresh : (u : V) → IsFresh w u → IsFresh x u

pub from-turns : {V : Type 0} {n : ℕ} {s : Site V} {w x : View V} → Turns n s w x → Moves n s w x
from-turns {w = w} {x = x} t = record {
  own = t.own;
  others = t.others;
  sent = t.sent;
  fresh = λ u f. go u f;
}
  where
    go : (u : _) → IsFresh w u → IsFresh x u
    go u (inl e) = inl (t.last ∙ e)
    go u (inr c) = inr (subst (λ l. Contains l u) (sym t.cut) c)

-- two numbers are equal, or not
pub same? : (m n : ℕ) → (m ≡ n) ⊎ (m ≢ n)
same? m n = go (eqb m n) refl
  where
    go : (b : Bool) → eqb m n ≡ b → (m ≡ n) ⊎ (m ≢ n)
    go true e = inl (eqb-true m n e)
    go false e = inr (eqb-false m n e)

-- no generation becomes smaller
abbrev pub Grows : {V : Type 0} → View V → View V → Type 0
Grows w x = (m : ℕ) → generation (w.site m).kept ≤ generation (x.site m).kept

pub grows : {V : Type 0} {n : ℕ} {s : Site V} {w x : View V} → Moves n s w x → generation (w.site n).kept ≤ generation s.kept → Grows w x
grows {n = n} {s = s} {w = w} {x = x} c le m = go (same? m n)
  where
    go : (m ≡ n) ⊎ (m ≢ n) → generation (w.site m).kept ≤ generation (x.site m).kept
    go (inl e) = subst (λ k. generation (w.site k).kept ≤ generation (x.site k).kept) (sym e)
        (subst (λ (z : Site _). generation (w.site n).kept ≤ generation z.kept) (sym c.own) le)
    go (inr d) = subst (λ (z : Site _). generation (w.site m).kept ≤ generation z.kept) (sym (c.others m d)) (le_refl _)

pub past-grows : {V : Type 0} (w x : View V) (t u : ℕ) → Grows w x → t ≤ u → (r : Option (Record V)) → PastRecord w t r → PastRecord x u r
past-grows w x t u g le None p = p
past-grows w x t u g le (Some (Here h v)) p = p
past-grows w x t u g le (Some (Lent h to v)) p = (le_trans p.0 le, le_trans p.1 (g to))
past-grows w x t u g le (Some (Gone h to)) p = le_trans p le

pub doubt-grows : {V : Type 0} (kept : Option (Record V)) (t u : ℕ) → t ≤ u → (r : Option (Record V)) → PastDoubt kept t r
    → PastDoubt kept u r
doubt-grows kept t u le None p = p
doubt-grows kept t u le (Some (Here h v)) p = p
doubt-grows kept t u le (Some (Lent h to v)) p = p
doubt-grows kept t u le (Some (Gone h to)) p = (le_trans p.0 le, p.1)

pub rests-grow : {V : Type 0} (w x : View V) (t u : ℕ) (s : Site V) → Grows w x → t ≤ u → Rests w t s → Rests x u s
rests-grow w x t u s g le r = record {
  kept = past-grows w x t u g le s.kept r.kept;
  doubt = doubt-grows s.kept t u le s.doubt r.doubt;
  active = r.active;
  memory = r.memory;
}

pub letter-grows : {V : Type 0} (w x : View V) (t u : ℕ) → Grows w x → t ≤ u → (l : Letter V) → PastLetter w t l → PastLetter x u l
letter-grows w x t u g le (Take to h v) p = (le_trans p.0 (g to), le_trans p.1 le)
letter-grows w x t u g le (Known to h) p = le_trans p le

pub way-grows : {V : Type 0} (w x : View V) (b t : ℕ) (v : V) → Grows w x → (l : Letter V) → WayLetter w b t v l → WayLetter x b t v l
way-grows w x b t v g (Take to h u) (inl p) = inl (le_trans p.0 (g to), p.1)
way-grows w x b t v g (Take to h u) (inr p) = inr p
way-grows w x b t v g (Known to h) p = p

pub holder-fresh : {V : Type 0} (w x : View V) (n g : ℕ) (v : V) → ((u : V) → IsFresh w u → IsFresh x u) → (r : Option (Record V))
    → HolderDoubt w n g v r → HolderDoubt x n g v r
holder-fresh w x n g v f None p = p
holder-fresh w x n g v f (Some (Here h u)) p = (p.0, f u p.1)
holder-fresh w x n g v f (Some (Lent h to u)) p = p
holder-fresh w x n g v f (Some (Gone h to)) p = p

pub past-bound : {V : Type 0} (w : View V) (t : ℕ) (r : Option (Record V)) → PastRecord w t r → generation r ≤ t
past-bound w t None p = omega arith
past-bound w t (Some (Here h v)) p = absurd p
past-bound w t (Some (Lent h to v)) p = p.0
past-bound w t (Some (Gone h to)) p = p

-- what holds of the site that moved and of the others holds of all
pub at-each : {V : Type 0} (P : ℕ → Site V → Type 0) {n : ℕ} {s : Site V} {w x : View V} → Moves n s w x → P n s
    → ((m : ℕ) → m ≢ n → P m (w.site m)) → (m : ℕ) → P m (x.site m)
at-each P {n = n} {s = s} {w = w} {x = x} c p others m = go (same? m n)
  where
    go : (m ≡ n) ⊎ (m ≢ n) → P m (x.site m)
    go (inl e) = subst (λ k. P k (x.site k)) (sym e) (subst (P n) (sym c.own) p)
    go (inr d) = subst (P m) (sym (c.others m d)) (others m d)

pub waits-grow : {V : Type 0} (w x : View V) (b t : ℕ) (v : V) (m : ℕ) (s : Site V) → Grows w x → Waits w b t v m s → Waits x b t v m s
waits-grow w x b t v m s g r = record {
  kept = past-grows w x t t g (le_refl t) s.kept r.kept;
  doubt = r.doubt;
  active = r.active;
  memory = r.memory;
}

-- a waiting node that is not the one to which it is on its way rests
pub waits-rest : {V : Type 0} (w : View V) (b t : ℕ) (v : V) (m : ℕ) (s : Site V) → m ≢ b → Waits w b t v m s → Rests w t s
waits-rest w b t v m s d r = record {
  kept = r.kept;
  doubt = go r.doubt;
  active = r.active;
  memory = r.memory;
}
  where
    go : PastDoubt s.kept t s.doubt ⊎ ((m ≡ b) × (s.doubt ≡ Some (Here (suc t) v))) → PastDoubt s.kept t s.doubt
    go (inl p) = p
    go (inr p) = absurd (d p.0)
