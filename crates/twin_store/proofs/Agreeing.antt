-- One disk is left in use, or both agree.
use Rattle.std.specs.Prelude.{◌≡◌, ℕ, ◌+◌, ◌≤◌, ◌<◌, Bool, true, false, IsTrue, Option, None, Some, Result, Ok, Err}
use Rattle.std.proofs.Common.{refl, sym, subst, ◌∙◌, inr, arith}
use Rattle.std.proofs.lemmas.Bool.{false≢true}
use Rattle.passive_store.specs.Kept.{Layout}
use Rattle.twin_store.specs.declared.served.TwinRefusal.{TwinRefusal}
use Rattle.twin_store.specs.Vouched.{Bodies, generation_in, Vow, IsVouched, VouchBy}
use Rattle.twin_store.specs.Footings.{Finds, IsMapped, IfMapped, AreVouched}
use Rattle.twin_store.specs.Sides.{SideSeen, InUse, Away, is_in_use, disk_of, bodies_on, SideGoes, Bears}
use Rattle.twin_store.specs.Twins.{pair, TwinSeen, SideHas, IsSure, Claims, SidesVouched, IsLevel, Levels}
use Rattle.twin_store.specs.Twins.{Agrees, Raises, IsRaised}
use Rattle.twin_store.proofs.Vouching.{one_of, one_raised}
use Rattle.twin_store.proofs.Going.{both_ways, used_or_not}
use Rattle.twin_store.proofs.Finding.{finds_weaker}
use Rattle.twin_store.proofs.Siding.{sides_told, first_changed, second_changed, first_found, second_found, first_alike, second_alike}

not_true : (b : Bool) → (b ≡ true → ⊥) → b ≡ false
not_true true h = absurd (h refl)
not_true false h = refl

-- a vow that claims nothing of a disk out of use
unclaimed : (v : Vow) (t : TwinSeen) → Claims v t → is_in_use t.first ≡ false → v.first ≡ false
unclaimed v t c off = not_true v.first (λ on. both_ways (is_in_use t.first) (c.first on) off)

unclaimed_second : (v : Vow) (t : TwinSeen) → Claims v t → is_in_use t.second ≡ false → v.second ≡ false
unclaimed_second v t c off = not_true v.second (λ on. both_ways (is_in_use t.second) (c.second on) off)

-- what becomes of a disk left alone may be raised
second_raised : (v : Vow) (n : ℕ) (old m : Bodies) (x : Option Bodies) → v.first ≡ false → generation_in v.node old < n
    → IsRaised v.node n old m
    → IsVouched v x (Some old) → IsVouched v x (Some m)
second_raised v n old m x off less h vouched =
    one_of h.generation_is (λ e. second_alike v old m x (record { same = h.same; generation_is = e }) vouched)
    (λ e. (one_raised v x old m (subst (λ k. generation_in v.node old < k) (sym e) less) h.same).1 off vouched)

first_raised : (v : Vow) (n : ℕ) (old m : Bodies) (y : Option Bodies) → v.second ≡ false → generation_in v.node old < n
    → IsRaised v.node n old m
    → IsVouched v (Some old) y → IsVouched v (Some m) y
first_raised v n old m y off less h vouched =
    one_of h.generation_is (λ e. first_alike v old m y (record { same = h.same; generation_is = e }) vouched)
    (λ e. (one_raised v y old m (subst (λ k. generation_in v.node old < k) (sym e) less) h.same).0 off vouched)

below_next : (a g : ℕ) → a ≤ g → a < g + 1
below_next a g h = omega arith

gives_below : (v : Vow) (a b : Bool) (g n : ℕ) (x : Option Bodies) (m : Bodies) → a ≡ false → b ≡ true → generation_in v.node m ≤ g → g < n
    → VouchBy a b v x (Some m) → IfMapped (λ k. generation_in v.node k < n) x
gives_below v true b g n x m off on le lt h = absurd (false≢true (sym off))
gives_below v false false g n x m off on le lt h = absurd (false≢true on)
gives_below v false true g n None m off on le lt h = tt
gives_below v false true g n (Some k) m off on le lt h =
    one_of h.1 (λ less. omega arith) (λ same. let is : generation_in v.node k ≡ generation_in v.node m = same.0 in omega arith)

gives_within : (v : Vow) (a b : Bool) (g n : ℕ) (y : Option Bodies) (m : Bodies) → a ≡ true → b ≡ false → generation_in v.node m ≤ g → g < n
    → VouchBy a b v (Some m) y → IfMapped (λ k. generation_in v.node k ≤ n) y
gives_within v true true g n y m on off le lt h = absurd (false≢true (sym off))
gives_within v false b g n y m on off le lt h = absurd (false≢true on)
gives_within v true false g n None m on off le lt h = tt
gives_within v true false g n (Some k) m on off le lt h =
    one_of h.1 (λ within. omega arith) (λ bare. let is : generation_in v.node k ≡ generation_in v.node m + 1 = bare.1 in omega arith)

-- what is found on the disk out of use gives way
away_below : (layout : Layout) (v : Vow) (g n : ℕ) (a b : SideSeen) → is_in_use a ≡ false → is_in_use b ≡ true → v.first ≡ false
    → v.second ≡ true
    → generation_in v.node (bodies_on b) ≤ g → g < n → SidesVouched layout v a b
    → Finds layout v.node (IfMapped (λ k. generation_in v.node k < n)) (disk_of a).told
away_below layout v g n (InUse s) b off on f t le lt h = absurd (false≢true (sym off))
away_below layout v g n (Away d) (Away e) off on f t le lt h = absurd (false≢true on)
away_below layout v g n (Away d) (InUse b) off on f t le lt h =
    finds_weaker layout v.node _ _ d.told (λ x q. gives_below v v.first v.second g n x b.kept.bodies f t le lt q) h.1

away_within : (layout : Layout) (v : Vow) (g n : ℕ) (a b : SideSeen) → is_in_use a ≡ true → is_in_use b ≡ false → v.first ≡ true
    → v.second ≡ false
    → generation_in v.node (bodies_on a) ≤ g → g < n → SidesVouched layout v a b
    → Finds layout v.node (IfMapped (λ k. generation_in v.node k ≤ n)) (disk_of b).told
away_within layout v g n (Away d) b on off f t le lt h = absurd (false≢true on)
away_within layout v g n (InUse a) (InUse b) on off f t le lt h = absurd (false≢true (sym off))
away_within layout v g n (InUse a) (Away e) on off f t le lt h =
    finds_weaker layout v.node _ _ e.told (λ y q. gives_within v v.first v.second g n y a.kept.bodies f t le lt q) h.1

module _ (tells : Bool) (layout : Layout) (node g : ℕ) (so : IsTrue tells) (a b : SideSeen) (l : IsLevel layout (pair node g a b)) where
  within_second : (v : Vow) → v.node ≡ node → is_in_use b ≡ true → generation_in v.node (bodies_on b) ≤ g
  within_second v e on = subst (λ k. generation_in k (bodies_on b) ≤ g) (sym e) (l.second on).1

  within_first : (v : Vow) → v.node ≡ node → is_in_use a ≡ true → generation_in v.node (bodies_on a) ≤ g
  within_first v e on = subst (λ k. generation_in k (bodies_on a) ≤ g) (sym e) (l.first on).1

  -- the second is alone
  second_told : (r : Result ℕ TwinRefusal) (to : SideSeen) → Raises tells layout node g r b to → (v : Vow) → v.node ≡ node → v.first ≡ false
      → SidesVouched layout v a b → AreVouched layout v (disk_of a).told (disk_of to).told
  second_told r to s v e off h =
      one_of (used_or_not (is_in_use b))
      (λ on. second_found layout v (IsRaised v.node (g + 1) (bodies_on b)) a b to on h
      (λ m x beside p q. second_raised v (g + 1) (bodies_on b) m x off
      (below_next (generation_in v.node (bodies_on b)) g (within_second v e on)) p q)
      (subst (λ k. Finds layout k (IsMapped (IsRaised k (g + 1) (bodies_on b))) (disk_of to).told) (sym e)
      (s.leaves so on (l.second on).0)))
      (λ gone. subst (λ x. AreVouched layout v (disk_of a).told (disk_of x).told) (sym (s.goes.still gone)) (sides_told layout v a b h))

  first_told : (r : Result ℕ TwinRefusal) (to : SideSeen) → Raises tells layout node g r a to → (v : Vow) → v.node ≡ node → v.second ≡ false
      → SidesVouched layout v a b → AreVouched layout v (disk_of to).told (disk_of b).told
  first_told r to s v e off h =
      one_of (used_or_not (is_in_use a))
      (λ on. first_found layout v (IsRaised v.node (g + 1) (bodies_on a)) a to b on h
      (λ m y beside p q. first_raised v (g + 1) (bodies_on a) m y off
      (below_next (generation_in v.node (bodies_on a)) g (within_first v e on)) p q)
      (subst (λ k. Finds layout k (IsMapped (IsRaised k (g + 1) (bodies_on a))) (disk_of to).told) (sym e)
      (s.leaves so on (l.first on).0)))
      (λ gone. subst (λ x. AreVouched layout v (disk_of x).told (disk_of b).told) (sym (s.goes.still gone)) (sides_told layout v a b h))

  pub second_left_refused : (e : TwinRefusal) (to : SideSeen) → is_in_use a ≡ false → Raises tells layout node g (Err e) b to
      → Agrees {T = Unit {0}} layout (Err e) (pair node g a b) (pair node g a to)
  second_left_refused e to off s = record {
    told = λ v c h. second_told (Err e) to s v c.node (unclaimed v (pair node g a to) c off) h;
    holds = tt;
    sure = tt;
    covered = tt;
  }

  pub first_left_refused : (e : TwinRefusal) (to : SideSeen) → is_in_use b ≡ false → Raises tells layout node g (Err e) a to
      → Agrees {T = Unit {0}} layout (Err e) (pair node g a b) (pair node g to b)
  first_left_refused e to off s = record {
    told = λ v c h. first_told (Err e) to s v c.node (unclaimed_second v (pair node g to b) c off) h;
    holds = tt;
    sure = tt;
    covered = tt;
  }

  pub second_left : (n : ℕ) (to : SideSeen) → is_in_use a ≡ false → Raises tells layout node g (Ok n) b to
      → Agrees {T = Unit {0}} layout (Ok tt) (pair node g a b) (pair node n a to)
  second_left n to off s = record {
    told = λ v c h. second_told (Ok n) to s v c.node (unclaimed v (pair node n a to) c off) h;
    holds = (
      bodies_on b,
      record {
        generation = omega (arith, next);
        first = λ on. absurd (both_ways (is_in_use a) on off);
        second = λ on. s.has so;
      },
    );
    sure = λ on. absurd (both_ways (is_in_use a) on off);
    covered = λ v c h covers. let no_first : v.first ≡ false = unclaimed v (pair node n a to) c off in
        let on : is_in_use b ≡ true = s.goes.left s.used in (
          record {
            first = λ gone. subst (λ k. Finds layout k (IfMapped (λ m. generation_in k m < n)) (disk_of a).told) c.node
                (away_below layout v g n a b off on no_first
                (one_of covers (λ claims. absurd (both_ways v.first claims no_first)) (λ claims. claims)) (within_second v c.node on)
                (omega (arith, next)) h);
            second = λ gone. absurd (both_ways (is_in_use to) s.used gone);
          },
          second_changed layout v (IsRaised v.node (g + 1) (bodies_on b)) a b to on h
              (λ m x beside p q. second_raised v (g + 1) (bodies_on b) m x no_first
              (below_next (generation_in v.node (bodies_on b)) g (within_second v c.node on)) p q)
              (subst (λ k. Bears layout k (IsRaised k (g + 1) (bodies_on b)) to) (sym c.node) (bears on)),
        );
  }
    where
      next : n ≡ g + 1
      next = s.next

      bears : is_in_use b ≡ true → Bears layout node (IsRaised node (g + 1) (bodies_on b)) to
      bears on = let h : SideHas layout node n (bodies_on b) to = s.has so in record {
        finds = s.leaves so on (l.second on).0;
        has = λ used. record { same = h.same; generation_is = inr (h.generation_is ∙ next) };
        kept = λ used. h.kept;
      }

  pub first_left : (n : ℕ) (to : SideSeen) → is_in_use b ≡ false → Raises tells layout node g (Ok n) a to
      → Agrees {T = Unit {0}} layout (Ok tt) (pair node g a b) (pair node n to b)
  first_left n to off s = record {
    told = λ v c h. first_told (Ok n) to s v c.node (unclaimed_second v (pair node n to b) c off) h;
    holds = (
      bodies_on a,
      record {
        generation = omega (arith, next);
        first = λ on. s.has so;
        second = λ on. absurd (both_ways (is_in_use b) on off);
      },
    );
    sure = λ on on_too. absurd (both_ways (is_in_use b) on_too off);
    covered = λ v c h covers. let no_second : v.second ≡ false = unclaimed_second v (pair node n to b) c off in
        let on : is_in_use a ≡ true = s.goes.left s.used in (
          record {
            first = λ gone. absurd (both_ways (is_in_use to) s.used gone);
            second = λ gone. subst (λ k. Finds layout k (IfMapped (λ m. generation_in k m ≤ n)) (disk_of b).told) c.node
                (away_within layout v g n a b on off
                (one_of covers (λ claims. claims) (λ claims. absurd (both_ways v.second claims no_second)))
                no_second (within_first v c.node on)
                (omega (arith, next)) h);
          },
          first_changed layout v (IsRaised v.node (g + 1) (bodies_on a)) a to b on h
              (λ m y beside p q. first_raised v (g + 1) (bodies_on a) m y no_second
              (below_next (generation_in v.node (bodies_on a)) g (within_first v c.node on)) p q)
              (subst (λ k. Bears layout k (IsRaised k (g + 1) (bodies_on a)) to) (sym c.node) (bears on)),
        );
  }
    where
      next : n ≡ g + 1
      next = s.next

      bears : is_in_use a ≡ true → Bears layout node (IsRaised node (g + 1) (bodies_on a)) to
      bears on = let h : SideHas layout node n (bodies_on a) to = s.has so in record {
        finds = s.leaves so on (l.first on).0;
        has = λ used. record { same = h.same; generation_is = inr (h.generation_is ∙ next) };
        kept = λ used. h.kept;
      }

  pub both_left : is_in_use a ≡ true → is_in_use b ≡ true → Agrees {T = Unit {0}} layout (Ok tt) (pair node g a b) (pair node g a b)
  both_left on on_too = record {
    told = λ v c h. sides_told layout v a b h;
    holds = l.both on on_too;
    sure = λ used used_too. sure;
    covered = λ v c h covers. (sure, h);
  }
    where
      sure : IsSure layout (pair node g a b)
      sure = record { first = λ off. absurd (both_ways (is_in_use a) on off); second = λ off. absurd (both_ways (is_in_use b) on_too off) }

-- the whole
pub claims_before : (v : Vow) (mid new : TwinSeen) → new.node ≡ mid.node → SideGoes mid.first new.first → SideGoes mid.second new.second
    → Claims v new → Claims v mid
claims_before v mid new e f s c =
    record { node = c.node ∙ e; own = c.own; first = λ on. f.left (c.first on); second = λ on. s.left (c.second on) }

pub agrees_on : (layout : Layout) (r : Result (Unit {0}) TwinRefusal) (old mid new : TwinSeen) → new.node ≡ mid.node
    → SideGoes mid.first new.first
    → SideGoes mid.second new.second → Levels {T = Unit {0}} layout (Ok tt) old mid → Agrees layout r mid new → Agrees layout r old new
agrees_on layout (Ok done) old mid new e f s l a = record {
  told = λ v c h. a.told v c (l.steps.sides v (claims_before v mid new e f s c) h);
  holds = a.holds;
  sure = a.sure;
  covered = λ v c h covers. a.covered v c (l.steps.sides v (claims_before v mid new e f s c) h) covers;
}
agrees_on layout (Err x) old mid new e f s l a = record {
  told = λ v c h. a.told v c (l.steps.sides v (claims_before v mid new e f s c) h);
  holds = tt;
  sure = tt;
  covered = tt;
}

pub agrees_refused : (layout : Layout) (e : TwinRefusal) (old new : TwinSeen) → Levels {T = Unit {0}} layout (Err e) old new
    → Agrees {T = Unit {0}} layout (Err e) old new
agrees_refused layout e old new l = record { told = l.steps.told; holds = tt; sure = tt; covered = tt }
