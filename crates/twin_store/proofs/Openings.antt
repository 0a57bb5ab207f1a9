-- An opening of two disks.
use Rattle.std.specs.Prelude.{◌≡◌, ℕ, ◌<◌, ◌&&◌, nat_lt, Bool, true, false, IsTrue, Option, None, Some, Ok, Err}
use Rattle.std.proofs.Common.{refl, sym, subst, ◌∙◌, arith}
use Rattle.std.proofs.lemmas.Bool.{false≢true, ltb-true}
use Rattle.eden_disk.specs.Told.{Told, contents}
use Rattle.eden_disk.specs.Calls.{one_more}
use Rattle.passive_store.specs.Kept.{Layout}
use Rattle.passive_store.specs.Layout.{IsLayout}
use Rattle.passive_store.specs.Seen.{DiskSeen}
use Rattle.twin_store.specs.declared.served.TwinRefusal.{TwinRefusal}
use Rattle.twin_store.specs.Vouched.{Bodies, SameEjects, Vow, IsHeld, IsOwnChange, VouchBy, IsVouched, bodies_found}
use Rattle.twin_store.specs.Footings.{Footing, MayFind, IsFooted, AreVouched}
use Rattle.twin_store.specs.Sides.{SideSeen, InUse, Away, is_in_use, disk_of, bodies_on, SideGoes, IsOpenedSide, IsOpenedBy}
use Rattle.twin_store.specs.Twins.{TwinSeen, pair, vow, spared, is_spared, Holds, Claims, SidesVouched, IsCovered, IsRight, Agrees}
use Rattle.twin_store.specs.Twins.{AreAtRest, AgreesAlone}
use Rattle.twin_store.specs.Twins.{TwinGoes, IsOpenedTwin, StaysVouched}
use Rattle.twin_store.proofs.Vouching.{one_of, fault_by, held_alike}
use Rattle.twin_store.proofs.Going.{used_or_not}
use Rattle.twin_store.proofs.Finding.{finds_weaker}
use Rattle.twin_store.proofs.Siding.{first_same}
use Rattle.twin_store.proofs.Opened.{opened_behind, fits_in}
use Rattle.twin_store.proofs.Stopping.{none_by}
use Rattle.twin_store.proofs.Aloning.{left_alone}

-- 1. A vow with fewer disks

abbrev pub less_vow : Vow → Bool → Bool → Vow
less_vow v c d = vow v.node v.held v.begun c d

weaker_by : (v : Vow) (a b c d : Bool) (x y : Option Bodies) → (c ≡ true → a ≡ true) → (d ≡ true → b ≡ true) → VouchBy a b v x y
    → VouchBy c d (less_vow v c d) x y
weaker_by v a b false false x y f g h = tt
weaker_by v true true true true x y f g h = h
weaker_by v true false true true x y f g h = absurd (false≢true (g refl))
weaker_by v false b true d x y f g h = absurd (false≢true (f refl))
weaker_by v true true true false x y f g h = (fault_by v true true x y h).1
weaker_by v true false true false x y f g h = h
weaker_by v true true false true x y f g h = (fault_by v true true x y h).0
weaker_by v false true false true x y f g h = h
weaker_by v a false false true x y f g h = absurd (false≢true (g refl))

pub weaker : (v : Vow) (c d : Bool) (x y : Option Bodies) → (c ≡ true → v.first ≡ true) → (d ≡ true → v.second ≡ true) → IsVouched v x y
    → IsVouched (less_vow v c d) x y
weaker v c d x y f g h = weaker_by v v.first v.second c d x y f g h

pub told_weaker : (layout : Layout) (v : Vow) (c d : Bool) (one two : Told) → (c ≡ true → v.first ≡ true) → (d ≡ true → v.second ≡ true)
    → AreVouched layout v one two → AreVouched layout (less_vow v c d) one two
told_weaker layout v c d one two f g h = record {
  first = h.first;
  second = h.second;
  first_is = h.first_is;
  second_is = h.second_is;
  vouched = λ p q m n. weaker v c d (bodies_found p) (bodies_found q) f g (h.vouched p q m n);
}

pub sides_weaker : (layout : Layout) (v : Vow) (c d : Bool) (a b : SideSeen) → (c ≡ true → v.first ≡ true) → (d ≡ true → v.second ≡ true)
    → SidesVouched layout v a b → SidesVouched layout (less_vow v c d) a b
sides_weaker layout v c d (InUse a) (InUse b) f g h = (h.0, h.1, weaker v c d (Some a.kept.bodies) (Some b.kept.bodies) f g h.2)
sides_weaker layout v c d (InUse a) (Away e) f g h =
    (h.0, finds_weaker layout v.node _ _ e.told (λ y q. weaker v c d (Some a.kept.bodies) y f g q) h.1)
sides_weaker layout v c d (Away e) (InUse b) f g h =
    (h.0, finds_weaker layout v.node _ _ e.told (λ x q. weaker v c d x (Some b.kept.bodies) f g q) h.1)
sides_weaker layout v c d (Away e) (Away k) f g h = told_weaker layout v c d e.told k.told f g h

and_left : (a b : Bool) → (a && b) ≡ true → a ≡ true
and_left true b e = refl
and_left false b e = e

and_right : (a b : Bool) → (a && b) ≡ true → b ≡ true
and_right true b e = e
and_right false b e = absurd (false≢true e)

-- 2. Both disks

opened_at : (tells : Bool) (layout : Layout) (v : Vow) (old one : DiskSeen) (a b : SideSeen) → IsTrue tells
    → AreVouched layout v old.told one.told
    → IsOpenedSide tells layout v.node old a → IsOpenedSide tells layout v.node one b → SidesVouched layout v a b
opened_at tells layout v old one (InUse s) (InUse t) so h p q =
    (p.kept so refl, q.kept so refl, h.vouched (Ok s.kept) (Ok t.kept) (p.stands so h.first h.first_is) (q.stands so h.second h.second_is))
opened_at tells layout v old one (InUse s) (Away e) so h p q = (
  p.kept so refl,
  record {
    footing = h.second;
    is = q.stands so h.second h.second_is;
    found = layout.map_of v.node (contents one.told).now;
    there = q.found so h.second h.second_is;
    only = λ found may. h.vouched (Ok s.kept) found (p.stands so h.first h.first_is) may;
  },
)
opened_at tells layout v old one (Away d) (InUse t) so h p q = (
  q.kept so refl,
  record {
    footing = h.first;
    is = p.stands so h.first h.first_is;
    found = layout.map_of v.node (contents old.told).now;
    there = p.found so h.first h.first_is;
    only = λ found may. h.vouched found (Ok t.kept) may (q.stands so h.second h.second_is);
  },
)
opened_at tells layout v old one (Away d) (Away e) so h p q = record {
  first = h.first;
  second = h.second;
  first_is = p.stands so h.first h.first_is;
  second_is = q.stands so h.second h.second_is;
  vouched =
      h.vouched;
}

not_less : (n : ℕ) → nat_lt n n ≡ true → ⊥
not_less n e = let lt : n < n = ltb-true n n e in omega arith

-- a disk that vouched and met no fault is in use
vouched_map : (v : Vow) (a b : Bool) (y : Option Bodies) → a ≡ true → VouchBy a b v None y → ⊥
vouched_map v true true y e h = h.0
vouched_map v true false y e h = h.0
vouched_map v false b y e h = false≢true e

vouched_map_second : (v : Vow) (a b : Bool) (x : Option Bodies) → b ≡ true → VouchBy a b v x None → ⊥
vouched_map_second v true true x e h = h.1
vouched_map_second v false true x e h = h.0
vouched_map_second v a false x e h = false≢true e

module _ (tells : Bool) (layout : Layout) (v : Vow) (old one : DiskSeen) (a b : SideSeen) (so : IsTrue tells)
    (h : AreVouched layout v old.told one.told)
    (p : IsOpenedSide tells layout v.node old a) (q : IsOpenedSide tells layout v.node one b) where
  first_in_use : (new : SideSeen) → IsOpenedBy tells layout v.node old new → v.first ≡ true
      → is_spared old.counts (disk_of new).counts ≡ true
      → is_in_use new ≡ true
  first_in_use new by vouches spare = one_of (used_or_not (is_in_use new)) (λ on. on) (λ off. absurd (one_of (by.away off)
      (λ e. not_less (one_more old.counts.faults) (subst (λ n. nat_lt n (one_more old.counts.faults) ≡ true) e spare))
      (λ r. let place : (place : ℕ) × (layout.map_of v.node (contents old.told).now ≡ Err place) = r.1 so in
      vouched_map v v.first v.second (bodies_found (layout.map_of v.node (contents one.told).now)) vouches
      (h.vouched (Err place.0) (layout.map_of v.node (contents one.told).now)
      (subst (MayFind h.first) place.1 (p.found so h.first h.first_is))
      (q.found so h.second h.second_is)))))

  second_in_use : (new : SideSeen) → IsOpenedBy tells layout v.node one new → v.second ≡ true
      → is_spared one.counts (disk_of new).counts ≡ true
      → is_in_use new ≡ true
  second_in_use new by vouches spare = one_of (used_or_not (is_in_use new)) (λ on. on) (λ off. absurd (one_of (by.away off)
      (λ e. not_less (one_more one.counts.faults) (subst (λ n. nat_lt n (one_more one.counts.faults) ≡ true) e spare))
      (λ r. let place : (place : ℕ) × (layout.map_of v.node (contents one.told).now ≡ Err place) = r.1 so in
      vouched_map_second v v.first v.second (bodies_found (layout.map_of v.node (contents old.told).now)) vouches
      (h.vouched (layout.map_of v.node (contents old.told).now) (Err place.0) (p.found so h.first h.first_is)
      (subst (MayFind h.second) place.1 (q.found so h.second h.second_is))))))

  module _ (new : TwinSeen) (node_is : v.node ≡ new.node) (own : IsOwnChange v.node v.begun)
      (first_by : IsOpenedBy tells layout v.node old new.first)
      (second_by : IsOpenedBy tells layout v.node one new.second) where
    claims : Claims (spared v old (disk_of new.first) one (disk_of new.second)) new
    claims = record {
      node = node_is;
      own = own;
      first = λ on. first_in_use new.first first_by (and_left v.first (is_spared old.counts (disk_of new.first).counts) on)
          (and_right v.first (is_spared old.counts (disk_of new.first).counts) on);
      second = λ on. second_in_use new.second second_by (and_left v.second (is_spared one.counts (disk_of new.second).counts) on)
          (and_right v.second (is_spared one.counts (disk_of new.second).counts) on);
    }

    sides : SidesVouched layout (spared v old (disk_of new.first) one (disk_of new.second)) a b
    sides = sides_weaker layout v (v.first && is_spared old.counts (disk_of new.first).counts)
        (v.second && is_spared one.counts (disk_of new.second).counts) a b
        (λ on. and_left v.first (is_spared old.counts (disk_of new.first).counts) on)
        (λ on. and_left v.second (is_spared one.counts (disk_of new.second).counts) on) (opened_at tells layout v old one a b so h p q)

-- 3. What is held

vouches_first : (v : Vow) (a b : Bool) (m : Bodies) (y : Option Bodies) → a ≡ true → VouchBy a b v (Some m) y → IsHeld v m
vouches_first v true true m y e h = h.0.0
vouches_first v true false m y e h = h.0.0
vouches_first v false b m y e h = absurd (false≢true e)

vouches_second : (v : Vow) (a b : Bool) (m : Bodies) (x : Option Bodies) → b ≡ true → VouchBy a b v x (Some m) → IsHeld v m
vouches_second v true true m x e h = h.1.0
vouches_second v false true m x e h = h.0.0
vouches_second v a false m x e h = absurd (false≢true e)

held_first : (layout : Layout) (v : Vow) (a b : SideSeen) → is_in_use a ≡ true → v.first ≡ true → SidesVouched layout v a b
    → IsHeld v (bodies_on a)
held_first layout v (Away d) b on vouches h = absurd (false≢true on)
held_first layout v (InUse s) (InUse t) on vouches h = vouches_first v v.first v.second s.kept.bodies (Some t.kept.bodies) vouches h.2
held_first layout v (InUse s) (Away e) on vouches h =
    vouches_first v v.first v.second s.kept.bodies (bodies_found h.1.found) vouches (h.1.only h.1.found h.1.there)

held_second : (layout : Layout) (v : Vow) (a b : SideSeen) → is_in_use b ≡ true → v.second ≡ true → SidesVouched layout v a b
    → IsHeld v (bodies_on b)
held_second layout v a (Away d) on vouches h = absurd (false≢true on)
held_second layout v (InUse s) (InUse t) on vouches h = vouches_second v v.first v.second t.kept.bodies (Some s.kept.bodies) vouches h.2
held_second layout v (Away d) (InUse t) on vouches h =
    vouches_second v v.first v.second t.kept.bodies (bodies_found h.1.found) vouches (h.1.only h.1.found h.1.there)

held_by : (layout : Layout) (v : Vow) (t : TwinSeen) (has : Bodies) → Claims v t → Holds layout has t
    → SidesVouched layout v t.first t.second
    → IsCovered v → IsHeld v has
held_by layout v t has k h s covers = one_of covers
    (λ vouches. let on : is_in_use t.first ≡ true = k.first vouches in
    held_alike v (bodies_on t.first) has
    (λ uid own. sym (subst (λ n. SameEjects n (bodies_on t.first) has) (sym k.node) (h.first on).same uid own))
    (held_first layout v t.first t.second on vouches s))
    (λ vouches. let on : is_in_use t.second ≡ true = k.second vouches in
    held_alike v (bodies_on t.second) has
    (λ uid own. sym (subst (λ n. SameEjects n (bodies_on t.second) has) (sym k.node) (h.second on).same uid own))
    (held_second layout v t.first t.second on vouches s))

-- 4. The whole

module _ (tells : Bool) (layout : Layout) (node g : ℕ) (so : IsTrue tells) (old one : DiskSeen) (a b : SideSeen)
    (p : IsOpenedSide tells layout node old a)
    (q : IsOpenedSide tells layout node one b) (new : TwinSeen) (e : new.node ≡ node) (f : SideGoes a new.first)
    (s : SideGoes b new.second) where
  side_at : (v : Vow) → v.node ≡ node → (d : DiskSeen) (x : SideSeen) → IsOpenedSide tells layout node d x
      → IsOpenedSide tells layout v.node d x
  side_at v k d x h = subst (λ n. IsOpenedSide tells layout n d x) (sym k) h

  by_at : (v : Vow) → v.node ≡ node → (d : DiskSeen) (x y : SideSeen) → IsOpenedSide tells layout node d x → SideGoes x y
      → IsOpenedBy tells layout v.node d y
  by_at v k d x y h goes = subst (λ n. IsOpenedBy tells layout n d y) (sym k) (opened_behind tells layout node d x y h.by goes)

  pub right_opened : Agrees {T = Unit {0}} layout (Ok tt) (pair node g a b) new → IsRight layout node old one new
  right_opened r = record {
    has = r.holds.0;
    holds = r.holds.1;
    sure = r.sure;
    covered = λ v k own h covers.
        let own_at : IsOwnChange v.node v.begun = subst (λ n. IsOwnChange n v.begun) (sym k) own in
        let w : Claims (spared v old (disk_of new.first) one (disk_of new.second)) new =
        claims tells layout v old one a b so h (side_at v k old a p) (side_at v k one b q) new (k ∙ sym e) own_at
        (by_at v k old a new.first p f) (by_at v k one b new.second q s) in
        let r2 : _ = r.covered (spared v old (disk_of new.first) one (disk_of new.second)) w
        (sides tells layout v old one a b so h (side_at v k old a p) (side_at v k one b q) new (k ∙ sym e) own_at
        (by_at v k old a new.first p f)
        (by_at v k one b new.second q s)) covers in
        (held_by layout (spared v old (disk_of new.first) one (disk_of new.second)) new r.holds.0 w r.holds.1 r2.1 covers, r2.0);
  }

  pub stays_vouched : (x : TwinRefusal) → Agrees {T = Unit {0}} layout (Err x) (pair node g a b) new → (v : Vow) → v.node ≡ node
      → IsOwnChange node v.begun
      → AreVouched layout v old.told one.told
      → AreVouched layout (spared v old (disk_of new.first) one (disk_of new.second)) (disk_of new.first).told (disk_of new.second).told
  stays_vouched x r v k own h =
      let own_at : IsOwnChange v.node v.begun = subst (λ n. IsOwnChange n v.begun) (sym k) own in
      r.told (spared v old (disk_of new.first) one (disk_of new.second))
      (claims tells layout v old one a b so h (side_at v k old a p) (side_at v k one b q) new (k ∙ sym e) own_at
      (by_at v k old a new.first p f) (by_at v k one b new.second q s))
      (sides tells layout v old one a b so h (side_at v k old a p) (side_at v k one b q) new (k ∙ sym e) own_at
      (by_at v k old a new.first p f)
      (by_at v k one b new.second q s))

-- a refusal of the first disk
pub first_unopened : (layout : Layout) (node : ℕ) (old one two : DiskSeen) (v : Vow) → v.node ≡ node
    → ((footing : Footing) → IsFooted layout node footing old.told → IsFooted layout node footing one.told)
    → AreVouched layout v old.told two.told
    → AreVouched layout (spared v old one two two) one.told two.told
first_unopened layout node old one two v k keeps h =
    told_weaker layout v (v.first && is_spared old.counts one.counts) (v.second && is_spared two.counts two.counts) one.told two.told
    (λ on. and_left v.first (is_spared old.counts one.counts) on) (λ on. and_left v.second (is_spared two.counts two.counts) on)
    (record {
      first = h.first;
      second = h.second;
      second_is = h.second_is;
      vouched = h.vouched;
      first_is = subst (λ n. IsFooted layout n h.first one.told) (sym k)
          (keeps h.first (subst (λ n. IsFooted layout n h.first old.told) k h.first_is));
    })

-- a refusal of the second disk, the first being opened
pub second_unopened : (tells : Bool) (layout : Layout) (node : ℕ) (so : IsTrue tells) (old two behind : DiskSeen) (a : SideSeen) (v : Vow)
    → v.node ≡ node
    → IsOpenedSide tells layout node old a
    → ((footing : Footing) → IsFooted layout node footing two.told → IsFooted layout node footing behind.told)
    → AreVouched layout v old.told two.told
    → AreVouched layout (spared v old (disk_of a) two behind) (disk_of a).told behind.told
second_unopened tells layout node so old two behind a v k p keeps h =
    told_weaker layout v (v.first && is_spared old.counts (disk_of a).counts) (v.second && is_spared two.counts behind.counts)
    (disk_of a).told behind.told
    (λ on. and_left v.first (is_spared old.counts (disk_of a).counts) on) (λ on. and_left v.second (is_spared two.counts behind.counts) on)
    (go a (subst (λ n. IsOpenedSide tells layout n old a) (sym k) p))
  where
    second_is : IsFooted layout v.node h.second behind.told
    second_is = subst (λ n. IsFooted layout n h.second behind.told) (sym k)
        (keeps h.second (subst (λ n. IsFooted layout n h.second two.told) k h.second_is))

    go : (a : SideSeen) → IsOpenedSide tells layout v.node old a → AreVouched layout v (disk_of a).told behind.told
    go (Away d) p = record {
      first = h.first;
      second = h.second;
      first_is = p.stands so h.first h.first_is;
      second_is = second_is;
      vouched = h.vouched;
    }
    go (InUse s) p = let kept = p.kept so refl in record {
      first = kept.footing;
      second = h.second;
      first_is = kept.is;
      second_is = second_is;
      vouched = λ x y m n. first_same v s.kept.bodies (bodies_found x) (bodies_found y) (kept.only x m)
          (h.vouched (Ok s.kept) y (p.stands so h.first h.first_is) n);
    }

-- 5. What the calls of an opening leave

module _ (tells : Bool) (layout : Layout) (node g : ℕ) (old one : DiskSeen) (a b : SideSeen) (p : IsOpenedSide tells layout node old a)
    (q : IsOpenedSide tells layout node one b) (new : TwinSeen) where
  at_rest_at_first : IsTrue tells → IsLayout layout → AreAtRest layout (pair node g a b)
  at_rest_at_first so l = record { first = λ on. (p.kept so on, p.sound so l on); second = λ on. (q.kept so on, q.sound so l on) }

  pub opened_twin : TwinGoes {T = Unit {0}} (Ok tt) (pair node g a b) new
      → (IsTrue tells → AreAtRest layout (pair node g a b) → Agrees {T = Unit {0}} layout (Ok tt) (pair node g a b) new)
      → (IsTrue tells → AreAtRest layout (pair node g a b) → AgreesAlone {T = Unit {0}} (Ok tt) (pair node g a b) new)
      → IsOpenedTwin tells layout node old one new
  opened_twin m agrees greatest = record {
    ready = m.ready;
    node_is = m.node;
    first_stops = (none_by {T = Unit {0}} tt (disk_of a) (disk_of new.first) (disk_of b) (disk_of new.second) m.stopped).0 ∙ p.stops;
    second_stops = (none_by {T = Unit {0}} tt (disk_of a) (disk_of new.first) (disk_of b) (disk_of new.second) m.stopped).1 ∙ q.stops;
    first_opened = opened_behind tells layout node old a new.first p.by m.first;
    second_opened = opened_behind tells layout node one b new.second q.by m.second;
    right = λ so l. right_opened tells layout node g so old one a b p q new m.node m.first m.second (agrees so (at_rest_at_first so l));
    alone = left_alone tells layout node g old one a b p q new greatest m.first m.second;
    fits = λ so l. (
      fits_in tells layout node old (disk_of new.first) a new.first refl so l p.by m.first,
      fits_in tells layout node one (disk_of new.second) b new.second refl so l q.by m.second,
    );
  }

  pub closed_vouched : (x : TwinRefusal) (d e : DiskSeen) → d ≡ disk_of new.first → e ≡ disk_of new.second
      → TwinGoes {T = Unit {0}} (Err x) (pair node g a b) new
      → (IsTrue tells → AreAtRest layout (pair node g a b) → Agrees {T = Unit {0}} layout (Err x) (pair node g a b) new)
      → StaysVouched tells layout node old d one e
  closed_vouched x d e is too m agrees = λ so l v k own h.
      subst (λ y. AreVouched layout (spared v old y one e) y.told e.told) (sym is)
      (subst (λ y. AreVouched layout (spared v old (disk_of new.first) one y) (disk_of new.first).told y.told) (sym too)
      (stays_vouched tells layout node g so old one a b p q new m.node m.first m.second x (agrees so (at_rest_at_first so l)) v k own h))

pub second_refused : (tells : Bool) (layout : Layout) (node : ℕ) (old two behind d : DiskSeen) (a : SideSeen) → d ≡ disk_of a
    → IsOpenedSide tells layout node old a
    → (IsTrue tells → (footing : Footing) → IsFooted layout node footing two.told → IsFooted layout node footing behind.told)
    → StaysVouched tells layout node old d two behind
second_refused tells layout node old two behind d a is p keeps = λ so l v k own h.
    subst (λ y. AreVouched layout (spared v old y two behind) y.told behind.told) (sym is)
    (second_unopened tells layout node so old two behind a v k p (keeps so) h)
