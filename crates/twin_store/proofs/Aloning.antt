-- The generation of a disk that is left alone.
use Rattle.std.specs.Prelude.{◌≡◌, ℕ, ◌+◌, ◌≤◌, ◌<◌, max, unwrap_or, Bool, true, false, IsTrue, List, Option, None, Some, Result}
use Rattle.std.specs.Prelude.{Ok, Err, OnOk, IfErr}
use Rattle.std.proofs.Common.{refl, sym, ap, subst, ◌∙◌, inl, inr, arith}
use Rattle.std.specs.FinMap as map
use Rattle.capability.specs.Uids.{uid_cmp}
use Rattle.passive_store.specs.Kept.{Layout, reserved_uid}
use Rattle.passive_store.specs.Layout.{IsLayout}
use Rattle.passive_store.specs.Seen.{DiskSeen}
use Rattle.twin_store.specs.declared.served.TwinRefusal.{TwinRefusal}
use Rattle.twin_store.specs.declared.served.TwinRefusal.TheVariants.{GenerationsSpent}
use Rattle.twin_store.specs.Serving.{IsPassedOn}
use Rattle.twin_store.specs.Vouched.{generation_in, generation_by, generation_of}
use Rattle.twin_store.specs.Sides.{SideSeen, InUse, Away, is_in_use, disk_of, bodies_on, SideGoes, IsOpenedSide, IsLostDisk}
use Rattle.twin_store.specs.Twins.{TwinSeen, pair, IsUsedBy, IsGenerationOf, ReadsBoth, TwinMoves, TwinGoes, AreAtRest, Raises, IsAlone}
use Rattle.twin_store.specs.Twins.{IsGenerationKept, Gathers, RaisesAlone, AgreesAlone, generation_on, IsSpared, IsSpentOpening}
use Rattle.twin_store.specs.Twins.{IsLeftAlone}
use Rattle.twin_store.proofs.Vouching.{one_of}
use Rattle.twin_store.proofs.Going.{both_ways}
use Rattle.twin_store.proofs.Raising.{not_spent}
use Rattle.twin_store.proofs.Opened.{opened_behind, lost_behind}

-- 1. Generations that were read

-- a generation that was read was that of the disk before; where none was read it is 0
read_was : (answer : Option ℕ) (node k : ℕ) (side : SideSeen) → IsUsedBy answer side → IsGenerationOf node answer side
    → (is_in_use side ≡ true → generation_in node (bodies_on side) ≡ k) → unwrap_or answer 0 ≤ k
read_was None node k side used is same = omega arith
read_was (Some n) node k side used is same = let e : n ≡ k = is ∙ same used in omega (arith, e)

read_at_most : (answer : Option ℕ) (node g k : ℕ) (side : SideSeen) → IsUsedBy answer side → IsGenerationOf node answer side
    → (is_in_use side ≡ true → generation_in node (bodies_on side) ≡ k) → unwrap_or answer 0 ≤ g → is_in_use side ≡ true → k ≤ g
read_at_most None node g k side used is same le on = absurd (both_ways (is_in_use side) on used)
read_at_most (Some n) node g k side used is same le on = let e : n ≡ k = is ∙ same on in omega (arith, e, le)

within_max : (g a b x y : ℕ) → g ≡ max a b → a ≤ x → b ≤ y → g ≤ max 1 (max x y)
within_max g a b x y e h k = omega (arith, e, h, k)

left_of_max : (g a b : ℕ) → g ≡ max a b → a ≤ g
left_of_max g a b e = omega (arith, e)

right_of_max : (g a b : ℕ) → g ≡ max a b → b ≤ g
right_of_max g a b e = omega (arith, e)

pub gathers_read : (layout : Layout) (first second : Option ℕ) (old mid : TwinSeen) → ReadsBoth layout (Ok (first, second)) old mid
    → Gathers old mid
gathers_read layout first second old mid r = record {
  first = read_at_most first mid.node mid.generation (generation_in old.node (bodies_on old.first)) mid.first r.read.first_used
      r.read.first_is same_first (left_of_max mid.generation (unwrap_or first 0) (unwrap_or second 0) r.read.greatest);
  second = read_at_most second mid.node mid.generation (generation_in old.node (bodies_on old.second)) mid.second
      r.read.second_used r.read.second_is same_second
      (right_of_max mid.generation (unwrap_or first 0) (unwrap_or second 0) r.read.greatest);
  within = within_max mid.generation (unwrap_or first 0) (unwrap_or second 0) (generation_in old.node (bodies_on old.first))
      (generation_in old.node (bodies_on old.second)) r.read.greatest
      (read_was first mid.node (generation_in old.node (bodies_on old.first)) mid.first r.read.first_used r.read.first_is same_first)
      (read_was second mid.node (generation_in old.node (bodies_on old.second)) mid.second r.read.second_used r.read.second_is
      same_second);
}
  where
    same_first : is_in_use mid.first ≡ true → generation_in mid.node (bodies_on mid.first) ≡ generation_in old.node (bodies_on old.first)
    same_first on = subst (λ n. generation_in n (bodies_on mid.first) ≡ generation_in old.node (bodies_on old.first)) (sym r.stays.node)
        (ap (λ (x : Option (List ℕ)). generation_by x) (r.stays.first on (reserved_uid old.node)))

    same_second : is_in_use mid.second ≡ true
        → generation_in mid.node (bodies_on mid.second) ≡ generation_in old.node (bodies_on old.second)
    same_second on = subst (λ n. generation_in n (bodies_on mid.second) ≡ generation_in old.node (bodies_on old.second))
        (sym r.stays.node) (ap (λ (x : Option (List ℕ)). generation_by x) (r.stays.second on (reserved_uid old.node)))

kept_least : (k g n : ℕ) → IsGenerationKept g n → k ≤ g → k ≤ n
kept_least k g n (inl e) h = omega (arith, e, h)
kept_least k g n (inr e) h = let was : g ≡ 0 = e.0 in omega (arith, was, h)

kept_within : (g n m : ℕ) → IsGenerationKept g n → g ≤ max 1 m → n ≤ max 1 m
kept_within g n m (inl e) h = omega (arith, e, h)
kept_within g n m (inr e) h = let is : n ≡ 1 = e.1 in omega (arith, is)

pub gathers_on : (r : Result (Unit {0}) TwinRefusal) (old mid new : TwinSeen) → Gathers old mid
    → IsGenerationKept mid.generation new.generation → SideGoes mid.first new.first → SideGoes mid.second new.second
    → OnOk r (Gathers old new)
gathers_on (Err e) old mid new g k f s = tt
gathers_on (Ok done) old mid new g k f s = record {
  first = λ on. kept_least (generation_in old.node (bodies_on old.first)) mid.generation new.generation k (g.first (f.left on));
  second = λ on. kept_least (generation_in old.node (bodies_on old.second)) mid.generation new.generation k (g.second (s.left on));
  within = kept_within mid.generation new.generation
      (max (generation_in old.node (bodies_on old.first)) (generation_in old.node (bodies_on old.second))) k g.within;
}

-- 2. A disk that is left alone

module _ (tells : Bool) (layout : Layout) (node g : ℕ) (a b : SideSeen) where
  pub second_unraised : (e : TwinRefusal) (to : SideSeen) → is_in_use a ≡ false → Raises tells layout node g (Err e) b to
      → RaisesAlone {T = Unit {0}} (Err e) (pair node g a b) (pair node g a to)
  second_unraised e to off r =
      record { spent = λ is. let last : (g ≡ 4294967295) × (is_in_use to ≡ true) = r.spent.0 is in (last.0, inr (off, last.1)); next = tt }

  pub first_unraised : (e : TwinRefusal) (to : SideSeen) → is_in_use b ≡ false → Raises tells layout node g (Err e) a to
      → RaisesAlone {T = Unit {0}} (Err e) (pair node g a b) (pair node g to b)
  first_unraised e to off r =
      record { spent = λ is. let last : (g ≡ 4294967295) × (is_in_use to ≡ true) = r.spent.0 is in (last.0, inl (last.1, off)); next = tt }

  pub second_raised_alone : (n : ℕ) (to : SideSeen) → Raises tells layout node g (Ok n) b to
      → RaisesAlone {T = Unit {0}} (Ok tt) (pair node g a b) (pair node n a to)
  second_raised_alone n to r = record { spent = tt; next = λ alone. (r.next, r.small) }

  pub first_raised_alone : (n : ℕ) (to : SideSeen) → Raises tells layout node g (Ok n) a to
      → RaisesAlone {T = Unit {0}} (Ok tt) (pair node g a b) (pair node n to b)
  first_raised_alone n to r = record { spent = tt; next = λ alone. (r.next, r.small) }

  pub none_alone : is_in_use a ≡ true → is_in_use b ≡ true
      → RaisesAlone {T = Unit {0}} (Ok tt) (pair node g a b) (pair node g a b)
  none_alone on on_too = record {
    spent = tt;
    next = λ alone. absurd (one_of alone (λ h. both_ways (is_in_use b) on_too h.1) (λ h. both_ways (is_in_use a) on h.0));
  }

-- 3. Both

above_last : (g m : ℕ) → g ≡ 4294967295 → g ≤ max 1 m → 4294967295 ≤ m
above_last g m e h = omega (arith, e, h)

below_last : (k g n : ℕ) → k ≤ g → n ≡ g + 1 → n ≤ 4294967295 → k < 4294967295
below_last k g n h e small = omega (arith, h, e, small)

pub agrees_alone : (r : Result (Unit {0}) TwinRefusal) (old mid new : TwinSeen) → Gathers old mid → RaisesAlone r mid new
    → SideGoes mid.first new.first → SideGoes mid.second new.second → AgreesAlone r old new
agrees_alone (Ok done) old mid new g r f s = record {
  spent = tt;
  first = λ alone on. below_last (generation_in old.node (bodies_on old.first)) mid.generation new.generation (g.first (f.left on))
      (r.next alone).0 (r.next alone).1;
  second = λ alone on. below_last (generation_in old.node (bodies_on old.second)) mid.generation new.generation (g.second (s.left on))
      (r.next alone).0 (r.next alone).1;
}
agrees_alone (Err e) old mid new g r f s = record {
  spent = λ is. above_last mid.generation
      (max (generation_in old.node (bodies_on old.first)) (generation_in old.node (bodies_on old.second))) (r.spent is).0 g.within;
  first = tt;
  second = tt;
}

pub alone_by : (r : Result (Unit {0}) TwinRefusal) (mid new : TwinSeen) → RaisesAlone r mid new
    → IfErr r (λ e. e ≡ GenerationsSpent → IsAlone new)
alone_by (Ok done) mid new r = tt
alone_by (Err e) mid new r = λ is. (r.spent is).1

pub agrees_early : (e : TwinRefusal) (old new : TwinSeen) → TwinMoves {T = Unit {0}} (Err e) old new
    → AgreesAlone {T = Unit {0}} (Err e) old new
agrees_early e old new m = record { spent = λ is. absurd (not_spent e m.only is); first = tt; second = tt }

-- a refusal of a store that is passed on is none of these
pub unopened_spent : {P : Type 0} (e : TwinRefusal) → IsPassedOn e → e ≡ GenerationsSpent → P
unopened_spent e passed is = absurd (not_spent e passed is)

-- 4. Openings

-- a disk in use has the generation of its image
generation_used : (tells : Bool) (layout : Layout) (node : ℕ) (old : DiskSeen) (side : SideSeen)
    → IsOpenedSide tells layout node old side → IsTrue tells → is_in_use side ≡ true
    → generation_on layout node old ≡ generation_in node (bodies_on side)
generation_used tells layout node old side o so on = ap (generation_of node) (o.map so on)

generation_most : (tells : Bool) (layout : Layout) (node : ℕ) (old : DiskSeen) (side : SideSeen)
    → IsOpenedSide tells layout node old side → IsTrue tells → generation_in node (bodies_on side) ≤ generation_on layout node old
generation_most tells layout node old (InUse s) o so =
    let e : generation_on layout node old ≡ generation_in node s.kept.bodies = generation_used tells layout node old (InUse s) o so refl in
    omega (arith, e)
generation_most tells layout node old (Away d) o so =
    let e : generation_in node map.empty ≡ 0 = ap (λ (x : Option (List ℕ)). generation_by x) (map.get-empty uid_cmp (reserved_uid node)) in
    omega (arith, e)

greater_most : (a b x y : ℕ) → a ≤ x → b ≤ y → 4294967295 ≤ max a b → 4294967295 ≤ max x y
greater_most a b x y h k last = omega (arith, h, k, last)

module _ (tells : Bool) (layout : Layout) (node g : ℕ) (old one : DiskSeen) (a b : SideSeen) (p : IsOpenedSide tells layout node old a)
    (q : IsOpenedSide tells layout node one b) (new : TwinSeen) where
  at_rest_then : IsTrue tells → IsLayout layout → AreAtRest layout (pair node g a b)
  at_rest_then so l = record { first = λ on. (p.kept so on, p.sound so l on); second = λ on. (q.kept so on, q.sound so l on) }

  pub left_alone : (IsTrue tells → AreAtRest layout (pair node g a b) → AgreesAlone {T = Unit {0}} (Ok tt) (pair node g a b) new)
      → SideGoes a new.first → SideGoes b new.second → IsTrue tells → IsLayout layout → IsLeftAlone layout node old one new
  left_alone agrees f s so l =
      let h : AgreesAlone {T = Unit {0}} (Ok tt) (pair node g a b) new = agrees so (at_rest_then so l) in record {
        first_left = λ on off. subst (λ k. k < 4294967295) (sym (generation_used tells layout node old a p so (f.left on)))
            (h.first (inl (on, off)) on);
        second_left = λ off on. subst (λ k. k < 4294967295) (sym (generation_used tells layout node one b q so (s.left on)))
            (h.second (inr (off, on)) on);
      }

  spared_by : (d then : DiskSeen) (x y : SideSeen) → IsOpenedSide tells layout node d x → SideGoes x y → then ≡ disk_of y
      → is_in_use y ≡ true → IsSpared tells layout node d then
  spared_by d then x y o goes is on = record {
    faults = ap (λ (z : DiskSeen). z.counts.faults) is ∙ (opened_behind tells layout node d x y o.by goes).used on;
    mapped = λ so. (bodies_on x, o.map so (goes.left on));
  }

  lost_by : (d then : DiskSeen) (x y : SideSeen) → IsOpenedSide tells layout node d x → SideGoes x y → then ≡ disk_of y
      → is_in_use y ≡ false → IsLostDisk tells layout node d then
  lost_by d then x y o goes is off =
      subst (IsLostDisk tells layout node d) (sym is) (lost_behind tells layout node d x y o.by goes off)

  pub spent_opening : (e : TwinRefusal) (d f : DiskSeen) → d ≡ disk_of new.first → f ≡ disk_of new.second
      → TwinGoes {T = Unit {0}} (Err e) (pair node g a b) new → (e ≡ GenerationsSpent → IsAlone new)
      → (IsTrue tells → AreAtRest layout (pair node g a b) → AgreesAlone {T = Unit {0}} (Err e) (pair node g a b) new)
      → e ≡ GenerationsSpent → IsSpentOpening tells layout node old d one f
  spent_opening e d f is too goes alone agrees said = record {
    alone = one_of (alone said)
        (λ h. inl (spared_by old d a new.first p goes.first is h.0, lost_by one f b new.second q goes.second too h.1))
        (λ h. inr (lost_by old d a new.first p goes.first is h.0, spared_by one f b new.second q goes.second too h.1));
    greatest = λ so l. greater_most (generation_in node (bodies_on a)) (generation_in node (bodies_on b)) (generation_on layout node old)
        (generation_on layout node one) (generation_most tells layout node old a p so) (generation_most tells layout node one b q so)
        ((agrees so (at_rest_then so l)).spent said);
  }
