-- One disk is made to keep what the other keeps, and what both vouch for meanwhile.
use Rattle.std.specs.Prelude.{◌≡◌, ℕ, ◌≤◌, ◌<◌, ◌^◌, Bool, true, false, IsTrue, List, Option, None, Some, Result, Ok, Err}
use Rattle.std.proofs.Common.{refl, sym, ap, subst, ◌∙◌, inl, inr, arith}
use Rattle.std.specs.Int.{w32, to_be_bytes}
use Rattle.std.proofs.lemmas.Bool.{false≢true}
use Rattle.passive_store.specs.Kept.{Layout, reserved_uid}
use Rattle.passive_store.specs.Seen.{asked}
use Rattle.twin_store.specs.declared.served.TwinRefusal.{TwinRefusal}
use Rattle.twin_store.specs.Vouched.{Bodies, SameEjects, generation_in, generation_by, Vow, IsOwnChange, IsVouched}
use Rattle.twin_store.specs.VouchedLaws.{IsPartOf, IsMixed}
use Rattle.twin_store.specs.Footings.{IsMapped, AreVouched}
use Rattle.twin_store.specs.Serving.{Same}
use Rattle.twin_store.specs.Sides.{SideSeen, InUse, Away, is_in_use, disk_of, bodies_on, IsKept, SideGoes, SideServes, Bears}
use Rattle.twin_store.specs.Sides.{IsCopying}
use Rattle.twin_store.specs.Copies.{IsCopied}
use Rattle.twin_store.specs.Twins.{pair, SideHas, SidesVouched, IsLevel, IsLess, IsEven}
use Rattle.twin_store.specs.Twins.{Levels, IsRaised}
use Rattle.twin_store.proofs.Vouching.{one_of, second_brought, lesser_refilled, lesser_raised, second_begins}
use Rattle.twin_store.proofs.Going.{both_ways, used_or_not}
use Rattle.twin_store.proofs.Raising.{leaves_raised, has_raised}
use Rattle.twin_store.proofs.Siding.{beside_used, sides_told, first_changed, second_changed, first_found, second_found}
use Rattle.twin_store.proofs.Siding.{first_alike, second_alike}
use Rattle.twin_store.proofs.Siding.{first_stays, second_stays, first_same, second_same}
use Rattle.twin_store.proofs.Changing.{pair_up}

-- 1. A map on its way

part_of : (node g : ℕ) (source target m : Bodies) → IsCopying true node g source target m → IsPartOf node source target m
part_of node g source target m h uid own = one_of (h.bodies uid own) (λ e. inl e) (λ r. inr (one_of r (λ e. inl e) (λ n. inr n.1)))

part_of_back : (node g : ℕ) (source target m : Bodies) → IsCopying true node g source target m → IsPartOf node target source m
part_of_back node g source target m h uid own =
    one_of (h.bodies uid own) (λ e. inr (inl e)) (λ r. one_of r (λ e. inl e) (λ n. inr (inr n.1)))

mixed_of : (node g : ℕ) (source target m : Bodies) → IsCopying false node g source target m → IsMixed node source target m
mixed_of node g source target m h uid own =
    one_of (h.bodies uid own) (λ e. inl e) (λ r. one_of r (λ e. inr e) (λ n. absurd (false≢true n.0)))

first_on_way : (v : Vow) (first second m : Bodies) (y : Option Bodies) → y ≡ Some second
    → generation_in v.node first < generation_in v.node second
    → IsCopying true v.node (generation_in v.node first) second first m → IsVouched v (Some first) y → IsVouched v (Some m) y
first_on_way v first second m y is less h vouched =
    subst (λ x. IsVouched v (Some m) x) (sym is)
    ((lesser_refilled v first second m (subst (λ x. IsVouched v (Some first) x) is vouched)).1 less h.generation_is
    (part_of_back v.node (generation_in v.node first) second first m h))

second_on_way : (v : Vow) (first second m : Bodies) (x : Option Bodies) → x ≡ Some first
    → generation_in v.node second < generation_in v.node first
    → IsCopying true v.node (generation_in v.node second) first second m → IsVouched v x (Some second) → IsVouched v x (Some m)
second_on_way v first second m x is less h vouched =
    subst (λ y. IsVouched v y (Some m)) (sym is)
    ((lesser_refilled v first second m (subst (λ y. IsVouched v y (Some second)) is vouched)).0 less h.generation_is
    (part_of v.node (generation_in v.node second) first second m h))

second_mixed : (v : Vow) (first second m : Bodies) (x : Option Bodies) → x ≡ Some first → IsOwnChange v.node v.begun
    → generation_in v.node first ≡ generation_in v.node second
    → IsCopying false v.node (generation_in v.node second) first second m → IsVouched v x (Some second) → IsVouched v x (Some m)
second_mixed v first second m x is own same h vouched =
    subst (λ y. IsVouched v y (Some m)) (sym is)
    (second_brought v first second m own (subst (λ y. IsVouched v y (Some second)) is vouched) same h.generation_is
    (mixed_of v.node (generation_in v.node second) first second m h))

-- 2. The copy of the lesser disk, the first, from the second

-- what is said of a node is said of the vow's
pub copied_at : {T : Type 0} (layout : Layout) (all : Bool) (node : ℕ) (v : Vow) (r : Result T TwinRefusal)
    (source target new to : SideSeen) → v.node ≡ node
    → IsCopied layout all node r source target new to → IsCopied layout all v.node r source target new to
copied_at layout all node v r source target new to e h = subst (λ k. IsCopied layout all k r source target new to) (sym e) h

pub less_at : (layout : Layout) (node g : ℕ) (v : Vow) (lesser right : SideSeen) → v.node ≡ node → IsLess layout node g lesser right
    → IsLess layout v.node g lesser right
less_at layout node g v lesser right e h = subst (λ k. IsLess layout k g lesser right) (sym e) h

pub even_at : (layout : Layout) (node g : ℕ) (v : Vow) (first second : SideSeen) → v.node ≡ node → IsEven layout node g first second
    → IsEven layout v.node g first second
even_at layout node g v first second e h = subst (λ k. IsEven layout k g first second) (sym e) h

pub first_copied : {T : Type 0} (layout : Layout) (g : ℕ) (v : Vow) (value : T) (first second to new : SideSeen)
    → IsLess layout v.node g first second
    → SideGoes second new → IsCopied layout true v.node (Ok value) second first new to → SidesVouched layout v first second
    → SidesVouched layout v to new
first_copied layout g v value first second to new l goes c h =
    second_stays layout v value to second new goes (λ on. c.source_stays)
    (first_changed layout v _ first to second l.lesser_rests.used h
    (λ m y beside p q. first_on_way v (bodies_on first) (bodies_on second) m y (beside_used second y l.right_rests.used beside) l.less p q)
    c.on_its_way.bears)

pub second_copied : {T : Type 0} (layout : Layout) (g : ℕ) (v : Vow) (value : T) (first second to new : SideSeen)
    → IsLess layout v.node g second first
    → SideGoes first new → IsCopied layout true v.node (Ok value) first second new to → SidesVouched layout v first second
    → SidesVouched layout v new to
second_copied layout g v value first second to new l goes c h =
    first_stays layout v value first new to goes (λ on. c.source_stays)
    (second_changed layout v _ first second to l.lesser_rests.used h
    (λ m x beside p q. second_on_way v (bodies_on first) (bodies_on second) m x (beside_used first x l.right_rests.used beside) l.less p q)
    c.on_its_way.bears)

pub second_brought_over : {T : Type 0} (layout : Layout) (g : ℕ) (v : Vow) (value : T) (first second to new : SideSeen)
    → IsOwnChange v.node v.begun
    → IsEven layout v.node g first second → SideGoes first new → IsCopied layout false v.node (Ok value) first second new to
    → SidesVouched layout v first second → SidesVouched layout v new to
second_brought_over layout g v value first second to new own l goes c h =
    first_stays layout v value first new to goes (λ on. c.source_stays)
    (second_changed layout v _ first second to l.second_rests.used h
    (λ m x beside p q. second_mixed v (bodies_on first) (bodies_on second) m x (beside_used first x l.first_rests.used beside) own
    (l.first_is ∙ sym l.second_is) p q) c.on_its_way.bears)

both_vouched : (layout : Layout) (v : Vow) (a b : SideSeen) → is_in_use a ≡ true → is_in_use b ≡ true → SidesVouched layout v a b
    → IsVouched v (Some (bodies_on a)) (Some (bodies_on b))
both_vouched layout v (InUse a) (InUse b) on on_too h = h.2
both_vouched layout v (InUse a) (Away e) on off h = absurd (false≢true off)
both_vouched layout v (Away d) b off on h = absurd (false≢true off)

pub first_copied_told : {T : Type 0} (layout : Layout) (g : ℕ) (v : Vow) (r : Result T TwinRefusal) (first second to new : SideSeen)
    → IsLess layout v.node g first second → IsCopied layout true v.node r second first new to → SidesVouched layout v first second
    → AreVouched layout v (disk_of to).told (disk_of new).told
first_copied_told layout g v r first second to new l c h =
    pair_up layout v _ _ (disk_of to).told (disk_of new).told c.on_its_way.finds c.source_stays.finds go
  where
    go : (x y : Option Bodies) → IsMapped
        (IsCopying true v.node (generation_in v.node (bodies_on first)) (bodies_on second) (bodies_on first)) x
        → IsMapped (λ m. Same m (bodies_on second)) y → IsVouched v x y
    go None y p q = absurd p
    go (Some m) y p q = second_same v (bodies_on second) (Some m) y q
        (first_on_way v (bodies_on first) (bodies_on second) m (Some (bodies_on second)) refl l.less p
        (both_vouched layout v first second l.lesser_rests.used l.right_rests.used h))

pub second_copied_told : {T : Type 0} (layout : Layout) (g : ℕ) (v : Vow) (r : Result T TwinRefusal) (first second to new : SideSeen)
    → IsLess layout v.node g second first → IsCopied layout true v.node r first second new to → SidesVouched layout v first second
    → AreVouched layout v (disk_of new).told (disk_of to).told
second_copied_told layout g v r first second to new l c h =
    pair_up layout v _ _ (disk_of new).told (disk_of to).told c.source_stays.finds c.on_its_way.finds go
  where
    go : (x y : Option Bodies) → IsMapped (λ m. Same m (bodies_on first)) x
        → IsMapped (IsCopying true v.node (generation_in v.node (bodies_on second)) (bodies_on first) (bodies_on second)) y
        → IsVouched v x y
    go x None p q = absurd q
    go x (Some m) p q = first_same v (bodies_on first) x (Some m) p
        (second_on_way v (bodies_on first) (bodies_on second) m (Some (bodies_on first)) refl l.less q
        (both_vouched layout v first second l.right_rests.used l.lesser_rests.used h))

pub second_brought_told : {T : Type 0} (layout : Layout) (g : ℕ) (v : Vow) (r : Result T TwinRefusal) (first second to new : SideSeen)
    → IsOwnChange v.node v.begun → IsEven layout v.node g first second → IsCopied layout false v.node r first second new to
    → SidesVouched layout v first second → AreVouched layout v (disk_of new).told (disk_of to).told
second_brought_told layout g v r first second to new own l c h =
    pair_up layout v _ _ (disk_of new).told (disk_of to).told c.source_stays.finds c.on_its_way.finds go
  where
    go : (x y : Option Bodies) → IsMapped (λ m. Same m (bodies_on first)) x
        → IsMapped (IsCopying false v.node (generation_in v.node (bodies_on second)) (bodies_on first) (bodies_on second)) y
        → IsVouched v x y
    go x None p q = absurd q
    go x (Some m) p q = first_same v (bodies_on first) x (Some m) p
        (second_mixed v (bodies_on first) (bodies_on second) m (Some (bodies_on first)) refl own (l.first_is ∙ sym l.second_is) q
        (both_vouched layout v first second l.first_rests.used l.second_rests.used h))

-- 3. The generation is put last

-- behind a put of a generation that was served or failed
raise_bears : (tells : Bool) (layout : Layout) (node n : ℕ) (answer : Option (Unit {0})) (old new : SideSeen) → n < 2 ^ 32
    → SideServes {T = Unit {0}} tells layout node (Some (asked (reserved_uid node) (Some (to_be_bytes w32 n)))) (Ok answer) old new
    → IsTrue tells
    → is_in_use old ≡ true → Bears layout node (IsRaised node n (bodies_on old)) new
raise_bears tells layout node n None old new small s so on = record {
  finds = leaves_raised {T = Unit {0}} tells layout node n (Ok None) old new small s so on;
  has = λ used. absurd (both_ways (is_in_use new) used s.used);
  kept = λ used. absurd (both_ways (is_in_use new) used s.used);
}
raise_bears tells layout node n (Some done) old new small s so on =
    let h : SideHas layout node n (bodies_on old) new = has_raised tells layout node n done old new small s so in record {
      finds = leaves_raised {T = Unit {0}} tells layout node n (Ok (Some done)) old new small s so on;
      has = λ used. record { same = h.same; generation_is = inr h.generation_is };
      kept = λ used. h.kept;
    }

-- a disk of a lesser generation with what the other has
pub record IsReady (node n : ℕ) (lesser right : SideSeen) : Type 0 where
  pub right_used : is_in_use right ≡ true
  pub is : generation_in node (bodies_on right) ≡ n
  pub less : is_in_use lesser ≡ true → generation_in node (bodies_on lesser) < n
  pub same : is_in_use lesser ≡ true → SameEjects node (bodies_on lesser) (bodies_on right)

first_raised_by : (v : Vow) (n : ℕ) (first second : SideSeen) (m : Bodies) (y : Option Bodies) → IsReady v.node n first second
    → is_in_use first ≡ true
    → y ≡ Some (bodies_on second) → IsRaised v.node n (bodies_on first) m → IsVouched v (Some (bodies_on first)) y → IsVouched v (Some m) y
first_raised_by v n first second m y r on is h vouched =
    one_of h.generation_is (λ e. first_alike v (bodies_on first) m y (record { same = h.same; generation_is = e }) vouched)
    (λ e. subst (λ x. IsVouched v (Some m) x) (sym is)
    ((lesser_raised v (bodies_on first) (bodies_on second) m (subst (λ x. IsVouched v (Some (bodies_on first)) x) is vouched)).1
    (subst (λ k. generation_in v.node (bodies_on first) < k) (sym r.is) (r.less on)) (e ∙ sym r.is) (λ uid own. h.same uid own
    ∙ r.same on uid own)))

second_raised_by : (v : Vow) (n : ℕ) (first second : SideSeen) (m : Bodies) (x : Option Bodies) → IsReady v.node n second first
    → is_in_use second ≡ true
    → x ≡ Some (bodies_on first) → IsRaised v.node n (bodies_on second) m → IsVouched v x (Some (bodies_on second)) → IsVouched v x (Some m)
second_raised_by v n first second m x r on is h vouched =
    one_of h.generation_is (λ e. second_alike v (bodies_on second) m x (record { same = h.same; generation_is = e }) vouched)
    (λ e. subst (λ y. IsVouched v y (Some m)) (sym is)
    ((lesser_raised v (bodies_on first) (bodies_on second) m (subst (λ y. IsVouched v y (Some (bodies_on second))) is vouched)).0
    (subst (λ k. generation_in v.node (bodies_on second) < k) (sym r.is) (r.less on)) (e ∙ sym r.is) (λ uid own. h.same uid own
    ∙ r.same on uid own)))

pub first_put : (tells : Bool) (layout : Layout) (v : Vow) (n : ℕ) (answer : Option (Unit {0})) (first second to : SideSeen) → n < 2 ^ 32
    → SideServes {T = Unit {0}} tells layout v.node (Some (asked (reserved_uid v.node) (Some (to_be_bytes w32 n)))) (Ok answer) first to
    → IsTrue tells
    → IsReady v.node n first second → SidesVouched layout v first second → SidesVouched layout v to second
first_put tells layout v n answer first second to small s so r h =
    one_of (used_or_not (is_in_use first))
    (λ on. first_changed layout v _ first to second on h
    (λ m y beside p q. first_raised_by v n first second m y r on (beside_used second y r.right_used beside) p q)
    (raise_bears tells layout v.node n answer first to small s so on))
    (λ off. subst (λ x. SidesVouched layout v x second) (sym (s.goes.still off)) h)

pub first_put_told : (tells : Bool) (layout : Layout) (v : Vow) (n : ℕ) (e : TwinRefusal) (first second to : SideSeen) → n < 2 ^ 32
    → SideServes {T = Unit {0}} tells layout v.node (Some (asked (reserved_uid v.node) (Some (to_be_bytes w32 n)))) (Err e) first to
    → IsTrue tells
    → IsReady v.node n first second → SidesVouched layout v first second → AreVouched layout v (disk_of to).told (disk_of second).told
first_put_told tells layout v n e first second to small s so r h =
    let on : is_in_use first ≡ true = s.goes.left s.used in
    first_found layout v _ first to second on h
    (λ m y beside p q. first_raised_by v n first second m y r on (beside_used second y r.right_used beside) p q)
    (leaves_raised {T = Unit {0}} tells layout v.node n (Err e) first to small s so on)

pub second_put : (tells : Bool) (layout : Layout) (v : Vow) (n : ℕ) (answer : Option (Unit {0})) (first second to : SideSeen) → n < 2 ^ 32
    → SideServes {T = Unit {0}} tells layout v.node (Some (asked (reserved_uid v.node) (Some (to_be_bytes w32 n)))) (Ok answer) second to
    → IsTrue tells
    → IsReady v.node n second first → SidesVouched layout v first second → SidesVouched layout v first to
second_put tells layout v n answer first second to small s so r h =
    one_of (used_or_not (is_in_use second))
    (λ on. second_changed layout v _ first second to on h
    (λ m x beside p q. second_raised_by v n first second m x r on (beside_used first x r.right_used beside) p q)
    (raise_bears tells layout v.node n answer second to small s so on))
    (λ off. subst (λ x. SidesVouched layout v first x) (sym (s.goes.still off)) h)

pub second_put_told : (tells : Bool) (layout : Layout) (v : Vow) (n : ℕ) (e : TwinRefusal) (first second to : SideSeen) → n < 2 ^ 32
    → SideServes {T = Unit {0}} tells layout v.node (Some (asked (reserved_uid v.node) (Some (to_be_bytes w32 n)))) (Err e) second to
    → IsTrue tells
    → IsReady v.node n second first → SidesVouched layout v first second → AreVouched layout v (disk_of first).told (disk_of to).told
second_put_told tells layout v n e first second to small s so r h =
    let on : is_in_use second ≡ true = s.goes.left s.used in
    second_found layout v _ first second to on h
    (λ m x beside p q. second_raised_by v n first second m x r on (beside_used first x r.right_used beside) p q)
    (leaves_raised {T = Unit {0}} tells layout v.node n (Err e) second to small s so on)

-- 4. Where neither has a generation

-- both disks have the same, and neither has a generation
pub record AreNew (node : ℕ) (first second : SideSeen) : Type 0 where
  pub first_used : is_in_use first ≡ true
  pub second_used : is_in_use second ≡ true
  pub first_is : generation_in node (bodies_on first) ≡ 0
  pub second_is : generation_in node (bodies_on second) ≡ 0
  pub same : SameEjects node (bodies_on second) (bodies_on first)

second_begun_by : (v : Vow) (first second : SideSeen) (m : Bodies) (x : Option Bodies) → AreNew v.node first second
    → x ≡ Some (bodies_on first) → IsRaised v.node 1 (bodies_on second) m → IsVouched v x (Some (bodies_on second)) → IsVouched v x (Some m)
second_begun_by v first second m x n is h vouched =
    one_of h.generation_is (λ e. second_alike v (bodies_on second) m x (record { same = h.same; generation_is = e }) vouched)
    (λ e. subst (λ y. IsVouched v y (Some m)) (sym is)
    (second_begins v (bodies_on first) (bodies_on second) m (subst (λ y. IsVouched v y (Some (bodies_on second))) is vouched) n.same
    n.first_is n.second_is e h.same))

one_small : 1 < 2 ^ 32
one_small = omega arith

pub second_begun : (tells : Bool) (layout : Layout) (v : Vow) (answer : Option (Unit {0})) (first second to : SideSeen)
    → SideServes {T = Unit {0}} tells layout v.node (Some (asked (reserved_uid v.node) (Some (to_be_bytes w32 1)))) (Ok answer) second to
    → IsTrue tells
    → AreNew v.node first second → SidesVouched layout v first second → SidesVouched layout v first to
second_begun tells layout v answer first second to s so n h =
    second_changed layout v _ first second to n.second_used h
    (λ m x beside p q. second_begun_by v first second m x n (beside_used first x n.first_used beside) p q)
    (raise_bears tells layout v.node 1 answer second to one_small s so n.second_used)

pub second_begun_told : (tells : Bool) (layout : Layout) (v : Vow) (e : TwinRefusal) (first second to : SideSeen)
    → SideServes {T = Unit {0}} tells layout v.node (Some (asked (reserved_uid v.node) (Some (to_be_bytes w32 1)))) (Err e) second to
    → IsTrue tells
    → AreNew v.node first second → SidesVouched layout v first second → AreVouched layout v (disk_of first).told (disk_of to).told
second_begun_told tells layout v e first second to s so n h =
    second_found layout v _ first second to n.second_used h
    (λ m x beside p q. second_begun_by v first second m x n (beside_used first x n.first_used beside) p q)
    (leaves_raised {T = Unit {0}} tells layout v.node 1 (Err e) second to one_small s so n.second_used)

-- 5. Level disks

pub level_by : (layout : Layout) (node g : ℕ) (a b : SideSeen)
    → (is_in_use a ≡ true → IsKept layout node a × (generation_in node (bodies_on a) ≤ g))
    → (is_in_use b ≡ true → IsKept layout node b × (generation_in node (bodies_on b) ≤ g))
    → (is_in_use a ≡ true → is_in_use b ≡ true → SameEjects node (bodies_on b) (bodies_on a)
    × (generation_in node (bodies_on a) ≡ g) × (generation_in node (bodies_on b) ≡ g) × (1 ≤ g)) → IsLevel layout (pair node g a b)
level_by layout node g a b f h both = record {
  first = f;
  second = h;
  both = λ on on_too. let p : SameEjects node (bodies_on b) (bodies_on a) × (generation_in node (bodies_on a) ≡ g)
      × (generation_in node (bodies_on b) ≡ g)
      × (1 ≤ g) = both on on_too in (
        bodies_on a,
        record {
          generation = p.3;
          first = λ used. record { same = λ uid own. refl; generation_is = p.1; kept = (f on).0 };
          second = λ used. record { same = p.0; generation_is = p.2; kept = (h on_too).0 };
        },
      );
}

pub serves_at : {T : Type 0} (tells : Bool) (layout : Layout) (node n : ℕ) (v : Vow) (r : Result (Option T) TwinRefusal)
    (old new : SideSeen) → v.node ≡ node
    → SideServes {T = T} tells layout node (Some (asked (reserved_uid node) (Some (to_be_bytes w32 n)))) r old new
    → SideServes {T = T} tells layout v.node (Some (asked (reserved_uid v.node) (Some (to_be_bytes w32 n)))) r old new
serves_at {T} tells layout node n v r old new e s =
    subst (λ k. SideServes {T = T} tells layout k (Some (asked (reserved_uid k) (Some (to_be_bytes w32 n)))) r old new) (sym e) s

-- what a put of the generation leaves of a disk
pub put_level : (tells : Bool) (layout : Layout) (node n : ℕ) (answer : Option (Unit {0})) (old new : SideSeen) → n < 2 ^ 32
    → SideServes {T = Unit {0}} tells layout node (Some (asked (reserved_uid node) (Some (to_be_bytes w32 n)))) (Ok answer) old new
    → IsTrue tells
    → is_in_use new ≡ true → SideHas layout node n (bodies_on old) new
put_level tells layout node n None old new small s so on = absurd (both_ways (is_in_use new) on s.used)
put_level tells layout node n (Some done) old new small s so on = has_raised tells layout node n done old new small s so

module _ (tells : Bool) (layout : Layout) (node g : ℕ) (so : IsTrue tells) (lesser right to new : SideSeen)
    (l : IsLess layout node g lesser right)
    (c : IsCopied {T = Unit {0}} layout true node (Ok tt) right lesser new to) where
  pub copied_ready : is_in_use new ≡ true → IsReady node g to new
  copied_ready on = record {
    right_used = on;
    is = ap (λ (x : Option (List ℕ)). generation_by x) (c.source_stays.bears.has on (reserved_uid node)) ∙ l.greatest;
    less = λ used. let is : generation_in node (bodies_on to) ≡ generation_in node (bodies_on lesser) =
        (c.on_its_way.bears.has used).generation_is in
        omega (arith, is, l.less, l.greatest);
    same = λ used uid own. c.same on used uid own ∙ sym (c.source_stays.bears.has on uid);
  }

  right_kept : is_in_use new ≡ true → IsKept layout node new × (generation_in node (bodies_on new) ≤ g)
  right_kept on = (c.source_stays.bears.kept on, omega (arith, (copied_ready on).is))

  lesser_kept : is_in_use to ≡ true → IsKept layout node to × (generation_in node (bodies_on to) ≤ g)
  lesser_kept on = let is : generation_in node (bodies_on to) ≡ generation_in node (bodies_on lesser) =
      (c.on_its_way.bears.has on).generation_is in
      (c.on_its_way.bears.kept on, omega (arith, is, l.less, l.greatest))

  some_generation : 1 ≤ g
  some_generation = omega (arith, l.less, l.greatest)

-- 6. The first is filled from the second

pub refilled_first_refused : (layout : Layout) (node g : ℕ) (e : TwinRefusal) (first second to new : SideSeen)
    → IsLess layout node g first second
    → IsCopied {T = Unit {0}} layout true node (Err e) second first new to
    → Levels {T = Unit {0}} layout (Err e) (pair node g first second) (pair node g to new)
refilled_first_refused layout node g e first second to new l c = record {
  steps = record {
    told = λ v k h. first_copied_told layout g v (Err e) first second to new (less_at layout node g v first second k.node l)
        (copied_at layout true node v (Err e) second first new to k.node c) h;
    sides = tt;
  };
  level = tt;
}

module _ (tells : Bool) (layout : Layout) (node g : ℕ) (so : IsTrue tells) (first second to new : SideSeen)
    (l : IsLess layout node g first second)
    (goes : SideGoes second new) (c : IsCopied {T = Unit {0}} layout true node (Ok tt) second first new to) where
  sides_first : (v : Vow) → v.node ≡ node → SidesVouched layout v first second → SidesVouched layout v to new
  sides_first v e h = first_copied layout g v tt first second to new (less_at layout node g v first second e l) goes
      (copied_at layout true node v (Ok tt) second first new to e c) h

  ready_first : (v : Vow) → v.node ≡ node → is_in_use new ≡ true → IsReady v.node g to new
  ready_first v e on = subst (λ k. IsReady k g to new) (sym e) (copied_ready tells layout node g so first second to new l c on)

  pub refilled_first_alone : is_in_use new ≡ false → Levels {T = Unit {0}} layout (Ok tt) (pair node g first second) (pair node g to new)
  refilled_first_alone off = record {
    steps = record { told = λ v k h. sides_told layout v to new (sides_first v k.node h); sides = λ v k h. sides_first v k.node h };
    level = level_by layout node g to new (lesser_kept tells layout node g so first second to new l c)
        (λ on. absurd (both_ways (is_in_use new) on off))
        (λ on on_too. absurd (both_ways (is_in_use new) on_too off));
  }

  pub refilled_first_unput : (e : TwinRefusal) (behind : SideSeen) → is_in_use new ≡ true → g < 2 ^ 32
      → SideServes {T = Unit {0}} tells layout node (Some (asked (reserved_uid node) (Some (to_be_bytes w32 g)))) (Err e) to behind
      → Levels {T = Unit {0}} layout (Err e) (pair node g first second) (pair node g behind new)
  refilled_first_unput e behind on small s = record {
    steps = record {
      told = λ v k h. first_put_told tells layout v g e to new behind small (serves_at tells layout node g v (Err e) to behind k.node s) so
          (ready_first v k.node on) (sides_first v k.node h);
      sides = tt;
    };
    level = tt;
  }

  pub refilled_first : (answer : Option (Unit {0})) (behind : SideSeen) → is_in_use new ≡ true → g < 2 ^ 32
      → SideServes {T = Unit {0}} tells layout node (Some (asked (reserved_uid node) (Some (to_be_bytes w32 g)))) (Ok answer) to behind
      → Levels {T = Unit {0}} layout (Ok tt) (pair node g first second) (pair node g behind new)
  refilled_first answer behind on small s = record {
    steps = record { told = λ v k h. sides_told layout v behind new (sides v k.node h); sides = λ v k h. sides v k.node h };
    level = level_by layout node g behind new (λ used. let h : SideHas layout node g (bodies_on to) behind = has used in
        (h.kept, omega (arith, h.generation_is)))
        (right_kept tells layout node g so first second to new l c)
        (λ used on_too. let h : SideHas layout node g (bodies_on to) behind = has used in (
          λ uid own. sym (h.same uid own
              ∙ (copied_ready tells layout node g so first second to new l c on).same (s.goes.left used) uid own),
          h.generation_is,
          (copied_ready tells layout node g so first second to new l c on).is,
          some_generation tells layout node g so first second to new l
              c,
        ));
  }
    where
      has : is_in_use behind ≡ true → SideHas layout node g (bodies_on to) behind
      has used = put_level tells layout node g answer to behind small s so used

      sides : (v : Vow) → v.node ≡ node → SidesVouched layout v first second → SidesVouched layout v behind new
      sides v e h = first_put tells layout v g answer to new behind small (serves_at tells layout node g v (Ok answer) to behind e s) so
          (ready_first v e on) (sides_first v e h)

-- 7. The second is filled from the first

pub refilled_second_refused : (layout : Layout) (node g : ℕ) (e : TwinRefusal) (first second to new : SideSeen)
    → IsLess layout node g second first
    → IsCopied {T = Unit {0}} layout true node (Err e) first second new to
    → Levels {T = Unit {0}} layout (Err e) (pair node g first second) (pair node g new to)
refilled_second_refused layout node g e first second to new l c = record {
  steps = record {
    told = λ v k h. second_copied_told layout g v (Err e) first second to new (less_at layout node g v second first k.node l)
        (copied_at layout true node v (Err e) first second new to k.node c) h;
    sides = tt;
  };
  level = tt;
}

module _ (tells : Bool) (layout : Layout) (node g : ℕ) (so : IsTrue tells) (first second to new : SideSeen)
    (l : IsLess layout node g second first)
    (goes : SideGoes first new) (c : IsCopied {T = Unit {0}} layout true node (Ok tt) first second new to) where
  sides_second : (v : Vow) → v.node ≡ node → SidesVouched layout v first second → SidesVouched layout v new to
  sides_second v e h = second_copied layout g v tt first second to new (less_at layout node g v second first e l) goes
      (copied_at layout true node v (Ok tt) first second new to e c) h

  ready_second : (v : Vow) → v.node ≡ node → is_in_use new ≡ true → IsReady v.node g to new
  ready_second v e on = subst (λ k. IsReady k g to new) (sym e) (copied_ready tells layout node g so second first to new l c on)

  pub refilled_second_alone : is_in_use new ≡ false → Levels {T = Unit {0}} layout (Ok tt) (pair node g first second) (pair node g new to)
  refilled_second_alone off = record {
    steps = record { told = λ v k h. sides_told layout v new to (sides_second v k.node h); sides = λ v k h. sides_second v k.node h };
    level = level_by layout node g new to (λ on. absurd (both_ways (is_in_use new) on off))
        (lesser_kept tells layout node g so second first to new l c)
        (λ on on_too. absurd (both_ways (is_in_use new) on off));
  }

  pub refilled_second_unput : (e : TwinRefusal) (behind : SideSeen) → is_in_use new ≡ true → g < 2 ^ 32
      → SideServes {T = Unit {0}} tells layout node (Some (asked (reserved_uid node) (Some (to_be_bytes w32 g)))) (Err e) to behind
      → Levels {T = Unit {0}} layout (Err e) (pair node g first second) (pair node g new behind)
  refilled_second_unput e behind on small s = record {
    steps = record {
      told = λ v k h. second_put_told tells layout v g e new to behind small (serves_at tells layout node g v (Err e) to behind k.node s) so
          (ready_second v k.node on) (sides_second v k.node h);
      sides = tt;
    };
    level = tt;
  }

  pub refilled_second : (answer : Option (Unit {0})) (behind : SideSeen) → is_in_use new ≡ true → g < 2 ^ 32
      → SideServes {T = Unit {0}} tells layout node (Some (asked (reserved_uid node) (Some (to_be_bytes w32 g)))) (Ok answer) to behind
      → Levels {T = Unit {0}} layout (Ok tt) (pair node g first second) (pair node g new behind)
  refilled_second answer behind on small s = record {
    steps = record { told = λ v k h. sides_told layout v new behind (sides v k.node h); sides = λ v k h. sides v k.node h };
    level = level_by layout node g new behind (right_kept tells layout node g so second first to new l c)
        (λ used. let h : SideHas layout node g (bodies_on to) behind = has used in (h.kept, omega (arith, h.generation_is)))
        (λ on_too used. let h : SideHas layout node g (bodies_on to) behind = has used in (
          λ uid own. h.same uid own ∙ (copied_ready tells layout node g so second first to new l c on).same (s.goes.left used) uid own,
          (copied_ready tells layout node g so second first to new l c on).is,
          h.generation_is,
          some_generation tells layout node g so second first to new l c,
        ));
  }
    where
      has : is_in_use behind ≡ true → SideHas layout node g (bodies_on to) behind
      has used = put_level tells layout node g answer to behind small s so used

      sides : (v : Vow) → v.node ≡ node → SidesVouched layout v first second → SidesVouched layout v new behind
      sides v e h = second_put tells layout v g answer new to behind small (serves_at tells layout node g v (Ok answer) to behind e s) so
          (ready_second v e on) (sides_second v e h)
