-- What is due, by what is found.
use Rattle.std.proofs.Common.{◌≡◌, ◌⊎◌, inl, inr, ℕ, suc, ◌≤◌, ◌<◌, Bool, true, false, Option, None, Some}
use Rattle.std.proofs.Common.{refl, ap, arith}
use Rattle.std.specs.Prelude.{if◌then◌else◌, ◌==◌, nat_lt}
use Rattle.std.proofs.lemmas.Bool.{eqb-true, ltb-true, ltb-false}
use Rattle.move_laws.specs.Wander.{Record, Here, Lent, Gone, generation, Letter, Take, Known}
use Rattle.move_laws.specs.World.{Refuses, Gives, Puts, Mind, Forgotten, Same, Learnt, needing_here, make_by, save_by, lend_by, again_by}
use Rattle.move_laws.specs.World.{take_by, close_by, wake_by, GenerationsSpent, flat}

-- 1. Puts

pub make-puts : {V : Type 0} (v : V) (o : Option (Option (Record V))) (r : Record V) (m : Mind V) (l : Option (Letter V))
    → make_by v o ≡ Puts r m l
    → (o ≡ None) × (r ≡ Here 1 v) × (m ≡ Learnt false 1 v) × (l ≡ None)
make-puts v None r m l e = (refl, cc e, cc e, cc e)
make-puts v (Some o) r m l e = absurd (cc e)

-- what is needed here is in memory, or in the record
abbrev pub FoundHere : {V : Type 0} → Option (Option (Record V)) → Option (ℕ × V) → ℕ → V → Type 0
FoundHere o m g v = (m ≡ Some (g, v)) ⊎ (o ≡ Some (Some (Here g v)))

save-one : {V : Type 0} (v : V) (a : Bool) (g : ℕ) (old : V) (r : Record V) (m : Mind V) (l : Option (Letter V))
    → save_by v a g old ≡ Puts r m l
    → (r ≡ Here g v) × (m ≡ Learnt true g v) × (l ≡ None)
save-one v true g old r m l e = (cc e, cc e, cc e)
save-one v false g old r m l e = absurd (cc e)

pub save-puts : {V : Type 0} (v : V) (a : Bool) (o : Option (Option (Record V))) (k : Option (ℕ × V)) (r : Record V) (m : Mind V)
    (l : Option (Letter V)) → needing_here o k (save_by v a) ≡ Puts r m l
    → (g : ℕ) × (old : V) × FoundHere o k g old × (r ≡ Here g v) × (m ≡ Learnt true g v) × (l ≡ None)
save-puts v a None k r m l e = absurd (cc e)
save-puts v a (Some o) (Some k) r m l e = let x = save-one v a k.0 k.1 r m l e in (k.0, k.1, inl refl, x.0, x.1, x.2)
save-puts v a (Some None) None r m l e = absurd (cc e)
save-puts v a (Some (Some (Here g u))) None r m l e = let x = save-one v a g u r m l e in (g, u, inr refl, x.0, x.1, x.2)
save-puts v a (Some (Some (Lent g to u))) None r m l e = absurd (cc e)
save-puts v a (Some (Some (Gone g to))) None r m l e = absurd (cc e)

lend-one : {V : Type 0} (to g : ℕ) (v : V) (r : Record V) (m : Mind V) (l : Option (Letter V)) → lend_by to g v ≡ Puts r m l
    → (r ≡ Lent (suc g) to v) × (m ≡ Forgotten) × (l ≡ Some (Take to (suc g) v))
lend-one {V} to g v r m l e = go (g == 4294967295) e
  where
    go : (b : Bool) → (if b then Refuses GenerationsSpent else Puts (Lent (suc g) to v) Forgotten (Some (Take to (suc g) v))) ≡ Puts r m l
        → (r ≡ Lent (suc g) to v) × (m ≡ Forgotten) × (l ≡ Some (Take to (suc g) v))
    go true e = absurd (cc e)
    go false e = (cc e, cc e, cc e)

pub lend-puts : {V : Type 0} (to : ℕ) (o : Option (Option (Record V))) (k : Option (ℕ × V)) (r : Record V) (m : Mind V)
    (l : Option (Letter V)) → needing_here o k (lend_by to) ≡ Puts r m l
    → (g : ℕ) × (v : V) × FoundHere o k g v × (r ≡ Lent (suc g) to v) × (m ≡ Forgotten) × (l ≡ Some (Take to (suc g) v))
lend-puts to None k r m l e = absurd (cc e)
lend-puts to (Some o) (Some k) r m l e = let x = lend-one to k.0 k.1 r m l e in (k.0, k.1, inl refl, x.0, x.1, x.2)
lend-puts to (Some None) None r m l e = absurd (cc e)
lend-puts to (Some (Some (Here g u))) None r m l e = let x = lend-one to g u r m l e in (g, u, inr refl, x.0, x.1, x.2)
lend-puts to (Some (Some (Lent g b u))) None r m l e = absurd (cc e)
lend-puts to (Some (Some (Gone g b))) None r m l e = absurd (cc e)

pub take-puts : {V : Type 0} (from g : ℕ) (v : V) (o : Option (Option (Record V))) (r : Record V) (m : Mind V) (l : Option (Letter V))
    → 1 ≤ g → take_by from g v o ≡ Puts r m l
    → (generation (flat o) < g) × (r ≡ Here g v) × (m ≡ Forgotten) × (l ≡ Some (Known from g))
take-puts from g v None r m l one e = (omega (arith, one), cc e, cc e, cc e)
take-puts from g v (Some None) r m l one e = absurd (cc e)
take-puts from g v (Some (Some k)) r m l one e = go (nat_lt (generation (Some k)) g) refl e
  where
    go : (b : Bool) → nat_lt (generation (Some k)) g ≡ b
        → (if b then Puts (Here g v) Forgotten (Some (Known from g)) else Gives Same (Some (Known from g))) ≡ Puts r m l
        → (generation (Some k) < g) × (r ≡ Here g v) × (m ≡ Forgotten) × (l ≡ Some (Known from g))
    go true is e = (ltb-true (generation (Some k)) g is, cc e, cc e, cc e)
    go false is e = absurd (cc e)

pub close-puts : {V : Type 0} (g : ℕ) (o : Option (Option (Record V))) (r : Record V) (m : Mind V) (l : Option (Letter V))
    → close_by g o ≡ Puts r m l
    → (to : ℕ) × (v : V) × (o ≡ Some (Some (Lent g to v))) × (r ≡ Gone g to) × (m ≡ Forgotten) × (l ≡ None)
close-puts g None r m l e = absurd (cc e)
close-puts g (Some None) r m l e = absurd (cc e)
close-puts g (Some (Some (Here h v))) r m l e = absurd (cc e)
close-puts {V} g (Some (Some (Lent h to v))) r m l e = go (h == g) refl e
  where
    go : (b : Bool) → (h == g) ≡ b → (if b then Puts (Gone h to) Forgotten None else Gives Same None) ≡ Puts r m l
        → (t : ℕ) × (u : V) × (Some (Some (Lent h to v)) ≡ Some (Some (Lent g t u))) × (r ≡ Gone g t) × (m ≡ Forgotten) × (l ≡ None)
    go true is e = let same = eqb-true h g is in (to, v, ap (λ k. Some (Some (Lent k to v))) same, cc (same, e), cc e, cc e)
    go false is e = absurd (cc e)
close-puts g (Some (Some (Gone h to))) r m l e = absurd (cc e)

-- 2. Answers without a put

pub make-gives : {V A : Type 0} (v : V) (o : Option (Option (Record V))) (m : Mind V) (l : Option (Letter V)) → make_by v o ≡ Gives m l → A
make-gives v None m l e = absurd (cc e)
make-gives v (Some o) m l e = absurd (cc e)

save-none : {V A : Type 0} (v : V) (a : Bool) (g : ℕ) (old : V) (m : Mind V) (l : Option (Letter V)) → save_by v a g old ≡ Gives m l → A
save-none v true g old m l e = absurd (cc e)
save-none v false g old m l e = absurd (cc e)

pub save-gives : {V A : Type 0} (v : V) (a : Bool) (o : Option (Option (Record V))) (k : Option (ℕ × V)) (m : Mind V) (l : Option
    (Letter V))
    → needing_here o k (save_by v a) ≡ Gives m l → A
save-gives v a None k m l e = absurd (cc e)
save-gives v a (Some o) (Some k) m l e = save-none v a k.0 k.1 m l e
save-gives v a (Some None) None m l e = absurd (cc e)
save-gives v a (Some (Some (Here g u))) None m l e = save-none v a g u m l e
save-gives v a (Some (Some (Lent g to u))) None m l e = absurd (cc e)
save-gives v a (Some (Some (Gone g to))) None m l e = absurd (cc e)

lend-none : {V A : Type 0} (to g : ℕ) (v : V) (m : Mind V) (l : Option (Letter V)) → lend_by to g v ≡ Gives m l → A
lend-none {V} {A} to g v m l e = go (g == 4294967295) e
  where
    go : (b : Bool) → (if b then Refuses GenerationsSpent else Puts (Lent (suc g) to v) Forgotten (Some (Take to
        (suc g) v))) ≡ Gives m l → A
    go true e = absurd (cc e)
    go false e = absurd (cc e)

pub lend-gives : {V A : Type 0} (to : ℕ) (o : Option (Option (Record V))) (k : Option (ℕ × V)) (m : Mind V) (l : Option (Letter V))
    → needing_here o k (lend_by to) ≡ Gives m l → A
lend-gives to None k m l e = absurd (cc e)
lend-gives to (Some o) (Some k) m l e = lend-none to k.0 k.1 m l e
lend-gives to (Some None) None m l e = absurd (cc e)
lend-gives to (Some (Some (Here g u))) None m l e = lend-none to g u m l e
lend-gives to (Some (Some (Lent g b u))) None m l e = absurd (cc e)
lend-gives to (Some (Some (Gone g b))) None m l e = absurd (cc e)

pub wake-gives : {V : Type 0} (o : Option (Option (Record V))) (m : Mind V) (l : Option (Letter V))
    → needing_here o None wake_by ≡ Gives m l
    → (g : ℕ) × (v : V) × (o ≡ Some (Some (Here g v))) × (m ≡ Learnt true g v) × (l ≡ None)
wake-gives None m l e = absurd (cc e)
wake-gives (Some None) m l e = absurd (cc e)
wake-gives (Some (Some (Here g u))) m l e = (g, u, refl, cc e, cc e)
wake-gives (Some (Some (Lent g b u))) m l e = absurd (cc e)
wake-gives (Some (Some (Gone g b))) m l e = absurd (cc e)

wake-one : {V A : Type 0} (g : ℕ) (v : V) (r : Record V) (m : Mind V) (l : Option (Letter V)) → wake_by g v ≡ Puts r m l → A
wake-one g v r m l e = absurd (cc e)

pub wake-puts : {V A : Type 0} (o : Option (Option (Record V))) (r : Record V) (m : Mind V) (l : Option (Letter V))
    → needing_here o None wake_by ≡ Puts r m l → A
wake-puts None r m l e = absurd (cc e)
wake-puts (Some None) r m l e = absurd (cc e)
wake-puts (Some (Some (Here g u))) r m l e = absurd (cc e)
wake-puts (Some (Some (Lent g b u))) r m l e = absurd (cc e)
wake-puts (Some (Some (Gone g b))) r m l e = absurd (cc e)

pub again-gives : {V : Type 0} (o : Option (Option (Record V))) (m : Mind V) (l : Option (Letter V)) → again_by o ≡ Gives m l
    → (g : ℕ) × (to : ℕ) × (v : V) × (o ≡ Some (Some (Lent g to v))) × (m ≡ Same) × (l ≡ Some (Take to g v))
again-gives None m l e = absurd (cc e)
again-gives (Some None) m l e = absurd (cc e)
again-gives (Some (Some (Here g u))) m l e = absurd (cc e)
again-gives (Some (Some (Lent g b u))) m l e = (g, b, u, refl, cc e, cc e)
again-gives (Some (Some (Gone g b))) m l e = absurd (cc e)

pub again-puts : {V A : Type 0} (o : Option (Option (Record V))) (r : Record V) (m : Mind V) (l : Option (Letter V))
    → again_by o ≡ Puts r m l → A
again-puts None r m l e = absurd (cc e)
again-puts (Some None) r m l e = absurd (cc e)
again-puts (Some (Some (Here g u))) r m l e = absurd (cc e)
again-puts (Some (Some (Lent g b u))) r m l e = absurd (cc e)
again-puts (Some (Some (Gone g b))) r m l e = absurd (cc e)

pub take-gives : {V : Type 0} (from g : ℕ) (v : V) (o : Option (Option (Record V))) (m : Mind V) (l : Option (Letter V))
    → take_by from g v o ≡ Gives m l → (g ≤ generation (flat o)) × (m ≡ Same) × (l ≡ Some (Known from g))
take-gives from g v None m l e = absurd (cc e)
take-gives from g v (Some None) m l e = absurd (cc e)
take-gives from g v (Some (Some k)) m l e = go (nat_lt (generation (Some k)) g) refl e
  where
    go : (b : Bool) → nat_lt (generation (Some k)) g ≡ b
        → (if b then Puts (Here g v) Forgotten (Some (Known from g)) else Gives Same (Some (Known from g))) ≡ Gives m l
        → (g ≤ generation (Some k)) × (m ≡ Same) × (l ≡ Some (Known from g))
    go true is e = absurd (cc e)
    go false is e = (ltb-false (generation (Some k)) g is, cc e, cc e)

pub close-gives : {V : Type 0} (g : ℕ) (o : Option (Option (Record V))) (m : Mind V) (l : Option (Letter V))
    → close_by g o ≡ Gives m l → (m ≡ Same) × (l ≡ None)
close-gives g None m l e = (cc e, cc e)
close-gives g (Some None) m l e = absurd (cc e)
close-gives g (Some (Some (Here h v))) m l e = (cc e, cc e)
close-gives {V} g (Some (Some (Lent h to v))) m l e = go (h == g) e
  where
    go : (b : Bool) → (if b then Puts (Gone h to) Forgotten None else Gives Same None) ≡ Gives m l → (m ≡ Same) × (l ≡ None)
    go true e = absurd (cc e)
    go false e = (cc e, cc e)
close-gives g (Some (Some (Gone h to))) m l e = (cc e, cc e)
