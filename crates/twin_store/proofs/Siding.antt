-- What two disks vouch for while one of them changes.
use Rattle.std.specs.Prelude.{◌≡◌, ℕ, ◌+◌, ◌≤◌, ◌<◌, Bool, true, false, Option, None, Some, Result, Ok}
use Rattle.std.proofs.Common.{refl, sym, ap, subst, ◌∙◌, inl, inr}
use Rattle.std.proofs.lemmas.Bool.{false≢true}
use Rattle.passive_store.specs.Kept.{Layout}
use Rattle.twin_store.specs.Vouched.{Bodies, SameEjects, generation_in, Vow, IsHeld, Vouches, VouchBy}
use Rattle.twin_store.specs.Vouched.{IsVouched, FirstGivesWay}
use Rattle.twin_store.specs.Vouched.{SecondGivesWay, Agree, generation_of}
use Rattle.twin_store.specs.Footings.{Finds, IsMapped, AreVouched}
use Rattle.twin_store.specs.Serving.{Same}
use Rattle.twin_store.specs.declared.served.TwinRefusal.{TwinRefusal}
use Rattle.twin_store.specs.Sides.{SideSeen, InUse, Away, is_in_use, disk_of, bodies_on, SideGoes, Bears, Bore}
use Rattle.twin_store.specs.Twins.{SidesVouched}
use Rattle.twin_store.proofs.Vouching.{one_of, held_alike, bare_alike}
use Rattle.twin_store.specs.Copies.{IsAlike}
use Rattle.twin_store.proofs.Finding.{finds_weaker, same_alike}
use Rattle.twin_store.proofs.Going.{used_or_not}
use Rattle.twin_store.proofs.Changing.{pair_up}

-- 1. A map with the same Ejects and the same generation

module _ (v : Vow) (m n : Bodies) (ejects : SameEjects v.node n m) (numbers : generation_in v.node n ≡ generation_in v.node m) where
  still_held : IsHeld v m → IsHeld v n
  still_held h = held_alike v m n ejects h

  still_vouches : Vouches v (Some m) → Vouches v (Some n)
  still_vouches h = (still_held h.0, one_of h.1 (λ some. inl (subst (λ k. 1 ≤ k) (sym numbers) some)) (λ new. inr new))

  first_agrees : (y : Option Bodies) → Agree v (Some m) y → Agree v (Some n) y
  first_agrees None h = tt
  first_agrees (Some l) h = one_of h (λ e. inl (numbers ∙ e)) (λ p. inr (p.0, p.1 ∙ ap (λ k. k + 1) (sym numbers)))

  second_agrees : (x : Option Bodies) → Agree v x (Some m) → Agree v x (Some n)
  second_agrees None h = tt
  second_agrees (Some k) h = one_of h (λ e. inl (e ∙ sym numbers)) (λ p. inr (p.0, numbers ∙ p.1))

  first_gives : (g : ℕ) → FirstGivesWay v (Some m) g → FirstGivesWay v (Some n) g
  first_gives g h = one_of h (λ lt. inl (subst (λ k. k < g) (sym numbers) lt)) (λ p. inr (numbers ∙ p.0, still_held p.1))

  second_gives : (g : ℕ) → SecondGivesWay v (Some m) g → SecondGivesWay v (Some n) g
  second_gives g h = one_of h (λ le. inl (subst (λ k. k ≤ g) (sym numbers) le)) (λ p. inr (bare_alike v m n ejects p.0, numbers ∙ p.1))

  first_alike_by : (a b : Bool) (y : Option Bodies) → VouchBy a b v (Some m) y → VouchBy a b v (Some n) y
  first_alike_by true true y h = (still_vouches h.0, h.1, first_agrees y h.2)
  first_alike_by true false y h = (still_vouches h.0, subst (λ k. SecondGivesWay v y k) (sym numbers) h.1)
  first_alike_by false true y h = (h.0, first_gives (generation_of v.node y) h.1)
  first_alike_by false false y h = tt

  second_alike_by : (a b : Bool) (x : Option Bodies) → VouchBy a b v x (Some m) → VouchBy a b v x (Some n)
  second_alike_by true true x h = (h.0, still_vouches h.1, second_agrees x h.2)
  second_alike_by true false x h = (h.0, second_gives (generation_of v.node x) h.1)
  second_alike_by false true x h = (still_vouches h.0, subst (λ k. FirstGivesWay v x k) (sym numbers) h.1)
  second_alike_by false false x h = tt

pub first_alike : (v : Vow) (m n : Bodies) (y : Option Bodies) → IsAlike v.node m n → IsVouched v (Some m) y → IsVouched v (Some n) y
first_alike v m n y a h = first_alike_by v m n a.same a.generation_is v.first v.second y h

pub second_alike : (v : Vow) (m n : Bodies) (x : Option Bodies) → IsAlike v.node m n → IsVouched v x (Some m) → IsVouched v x (Some n)
second_alike v m n x a h = second_alike_by v m n a.same a.generation_is v.first v.second x h

pub first_same : (v : Vow) (m : Bodies) (x y : Option Bodies) → IsMapped (λ n. Same n m) x → IsVouched v (Some m) y → IsVouched v x y
first_same v m (Some n) y same h = first_alike v m n y (same_alike v.node n m same) h
first_same v m None y same h = absurd same

pub second_same : (v : Vow) (m : Bodies) (x y : Option Bodies) → IsMapped (λ n. Same n m) y → IsVouched v x (Some m) → IsVouched v x y
second_same v m x (Some n) same h = second_alike v m n x (same_alike v.node n m same) h
second_same v m x None same h = absurd same

-- 2. What is found

pub sides_told : (layout : Layout) (v : Vow) (a b : SideSeen) → SidesVouched layout v a b
    → AreVouched layout v (disk_of a).told (disk_of b).told
sides_told layout v (InUse a) (InUse b) h =
    pair_up layout v _ _ a.disk.told b.disk.told h.0 h.1
    (λ x y p q. second_same v b.kept.bodies x y q (first_same v a.kept.bodies x (Some b.kept.bodies) p h.2))
sides_told layout v (InUse a) (Away e) h = pair_up layout v _ _ a.disk.told e.told h.0 h.1 (λ x y p q. first_same v a.kept.bodies x y p q)
sides_told layout v (Away d) (InUse b) h = pair_up layout v _ _ d.told b.disk.told h.1 h.0 (λ x y p q. second_same v b.kept.bodies x y q p)
sides_told layout v (Away d) (Away e) h = h

-- 3. One disk changes

-- what is to be found beside a change of the other disk: the map of a store in use, or whatever may be there
abbrev pub IsBeside : SideSeen → Option Bodies → Type 0
IsBeside (InUse s) x = x ≡ Some s.kept.bodies
IsBeside (Away d) x = Unit {0}

-- what may become of the first disk, whatever is found on the second
pub first_changed : (layout : Layout) (v : Vow) (P : Bodies → Type 0) (a to b : SideSeen) → is_in_use a ≡ true → SidesVouched layout v a b
    → ((m : Bodies) (y : Option Bodies) → IsBeside b y → P m → IsVouched v (Some (bodies_on a)) y → IsVouched v (Some m) y)
    → Bears layout v.node P to
    → SidesVouched layout v to b
first_changed layout v P (Away d) to b on h f p = absurd (false≢true on)
first_changed layout v P (InUse a) (InUse s) (InUse b) on h f p =
    (p.kept refl, h.1, f s.kept.bodies (Some b.kept.bodies) refl (p.has refl) h.2)
first_changed layout v P (InUse a) (InUse s) (Away e) on h f p =
    (p.kept refl, finds_weaker layout v.node _ _ e.told (λ y q. f s.kept.bodies y tt (p.has refl) q) h.1)
first_changed layout v P (InUse a) (Away d) (InUse b) on h f p = (h.1, finds_weaker layout v.node _ _ d.told go p.finds)
  where
    go : (x : Option Bodies) → IsMapped P x → IsVouched v x (Some b.kept.bodies)
    go None q = absurd q
    go (Some m) q = f m (Some b.kept.bodies) refl q h.2
first_changed layout v P (InUse a) (Away d) (Away e) on h f p = pair_up layout v _ _ d.told e.told p.finds h.1 go
  where
    go : (x y : Option Bodies) → IsMapped P x → IsVouched v (Some a.kept.bodies) y → IsVouched v x y
    go None y q r = absurd q
    go (Some m) y q r = f m y tt q r

-- the same of the second
pub second_changed : (layout : Layout) (v : Vow) (P : Bodies → Type 0) (a b to : SideSeen) → is_in_use b ≡ true → SidesVouched layout v a b
    → ((m : Bodies) (x : Option Bodies) → IsBeside a x → P m → IsVouched v x (Some (bodies_on b)) → IsVouched v x (Some m))
    → Bears layout v.node P to
    → SidesVouched layout v a to
second_changed layout v P a (Away d) to on h f p = absurd (false≢true on)
second_changed layout v P (InUse a) (InUse b) (InUse s) on h f p =
    (h.0, p.kept refl, f s.kept.bodies (Some a.kept.bodies) refl (p.has refl) h.2)
second_changed layout v P (InUse a) (InUse b) (Away e) on h f p = (h.0, finds_weaker layout v.node _ _ e.told go p.finds)
  where
    go : (y : Option Bodies) → IsMapped P y → IsVouched v (Some a.kept.bodies) y
    go None q = absurd q
    go (Some m) q = f m (Some a.kept.bodies) refl q h.2
second_changed layout v P (Away d) (InUse b) (InUse s) on h f p =
    (p.kept refl, finds_weaker layout v.node _ _ d.told (λ x q. f s.kept.bodies x tt (p.has refl) q) h.1)
second_changed layout v P (Away d) (InUse b) (Away e) on h f p = pair_up layout v _ _ d.told e.told h.1 p.finds go
  where
    go : (x y : Option Bodies) → IsVouched v x (Some b.kept.bodies) → IsMapped P y → IsVouched v x y
    go x None q r = absurd r
    go x (Some m) q r = f m x tt r q

-- what is found on the first disk, however its calls ended
pub first_found : (layout : Layout) (v : Vow) (P : Bodies → Type 0) (a to b : SideSeen) → is_in_use a ≡ true → SidesVouched layout v a b
    → ((m : Bodies) (y : Option Bodies) → IsBeside b y → P m → IsVouched v (Some (bodies_on a)) y → IsVouched v (Some m) y)
    → Finds layout v.node (IsMapped P) (disk_of to).told → AreVouched layout v (disk_of to).told (disk_of b).told
first_found layout v P (Away d) to b on h f p = absurd (false≢true on)
first_found layout v P (InUse a) to (InUse b) on h f p = pair_up layout v _ _ (disk_of to).told b.disk.told p h.1 go
  where
    go : (x y : Option Bodies) → IsMapped P x → IsMapped (λ n. Same n b.kept.bodies) y → IsVouched v x y
    go None y q r = absurd q
    go (Some m) y q r = second_same v b.kept.bodies (Some m) y r (f m (Some b.kept.bodies) refl q h.2)
first_found layout v P (InUse a) to (Away e) on h f p = pair_up layout v _ _ (disk_of to).told e.told p h.1 go
  where
    go : (x y : Option Bodies) → IsMapped P x → IsVouched v (Some a.kept.bodies) y → IsVouched v x y
    go None y q r = absurd q
    go (Some m) y q r = f m y tt q r

-- and on the second
pub second_found : (layout : Layout) (v : Vow) (P : Bodies → Type 0) (a b to : SideSeen) → is_in_use b ≡ true → SidesVouched layout v a b
    → ((m : Bodies) (x : Option Bodies) → IsBeside a x → P m → IsVouched v x (Some (bodies_on b)) → IsVouched v x (Some m))
    → Finds layout v.node (IsMapped P) (disk_of to).told → AreVouched layout v (disk_of a).told (disk_of to).told
second_found layout v P a (Away d) to on h f p = absurd (false≢true on)
second_found layout v P (InUse a) (InUse b) to on h f p = pair_up layout v _ _ a.disk.told (disk_of to).told h.0 p go
  where
    go : (x y : Option Bodies) → IsMapped (λ n. Same n a.kept.bodies) x → IsMapped P y → IsVouched v x y
    go x None q r = absurd r
    go x (Some m) q r = first_same v a.kept.bodies x (Some m) q (f m (Some a.kept.bodies) refl r h.2)
second_found layout v P (Away d) (InUse b) to on h f p = pair_up layout v _ _ d.told (disk_of to).told h.1 p go
  where
    go : (x y : Option Bodies) → IsVouched v x (Some b.kept.bodies) → IsMapped P y → IsVouched v x y
    go x None q r = absurd r
    go x (Some m) q r = f m x tt r q

pub beside_used : (s : SideSeen) (x : Option Bodies) → is_in_use s ≡ true → IsBeside s x → x ≡ Some (bodies_on s)
beside_used (InUse s) x on h = h
beside_used (Away d) x on h = absurd (false≢true on)

-- 4. A disk that keeps what it kept, or leaves use

pub first_stays : {T : Type 0} (layout : Layout) (v : Vow) (value : T) (a to b : SideSeen) → SideGoes a to
    → (is_in_use a ≡ true → Bore layout v.node (λ m. Same m (bodies_on a)) (Ok value) to) → SidesVouched layout v a b
    → SidesVouched layout v to b
first_stays layout v value a to b goes bore h =
    one_of (used_or_not (is_in_use a))
    (λ on. first_changed layout v (λ m. Same m (bodies_on a)) a to b on h
    (λ m y beside p q. first_alike v (bodies_on a) m y (same_alike v.node m (bodies_on a) p) q) (bore on).bears)
    (λ off. subst (λ s. SidesVouched layout v s b) (sym (goes.still off)) h)

pub second_stays : {T : Type 0} (layout : Layout) (v : Vow) (value : T) (a b to : SideSeen) → SideGoes b to
    → (is_in_use b ≡ true → Bore layout v.node (λ m. Same m (bodies_on b)) (Ok value) to) → SidesVouched layout v a b
    → SidesVouched layout v a to
second_stays layout v value a b to goes bore h =
    one_of (used_or_not (is_in_use b))
    (λ on. second_changed layout v (λ m. Same m (bodies_on b)) a b to on h
    (λ m x beside p q. second_alike v (bodies_on b) m x (same_alike v.node m (bodies_on b) p) q) (bore on).bears)
    (λ off. subst (λ s. SidesVouched layout v a s) (sym (goes.still off)) h)

pub first_stays_told : {T : Type 0} (layout : Layout) (v : Vow) (r : Result T TwinRefusal) (a to b : SideSeen) → SideGoes a to
    → (is_in_use a ≡ true → Bore layout v.node (λ m. Same m (bodies_on a)) r to) → SidesVouched layout v a b
    → AreVouched layout v (disk_of to).told (disk_of b).told
first_stays_told layout v r a to b goes bore h =
    one_of (used_or_not (is_in_use a))
    (λ on. first_found layout v (λ m. Same m (bodies_on a)) a to b on h
    (λ m y beside p q. first_alike v (bodies_on a) m y (same_alike v.node m (bodies_on a) p) q) (bore on).finds)
    (λ off. subst (λ s. AreVouched layout v (disk_of s).told (disk_of b).told) (sym (goes.still off)) (sides_told layout v a b h))

pub second_stays_told : {T : Type 0} (layout : Layout) (v : Vow) (r : Result T TwinRefusal) (a b to : SideSeen) → SideGoes b to
    → (is_in_use b ≡ true → Bore layout v.node (λ m. Same m (bodies_on b)) r to) → SidesVouched layout v a b
    → AreVouched layout v (disk_of a).told (disk_of to).told
second_stays_told layout v r a b to goes bore h =
    one_of (used_or_not (is_in_use b))
    (λ on. second_found layout v (λ m. Same m (bodies_on b)) a b to on h
    (λ m x beside p q. second_alike v (bodies_on b) m x (same_alike v.node m (bodies_on b) p) q) (bore on).finds)
    (λ off. subst (λ s. AreVouched layout v (disk_of a).told (disk_of s).told) (sym (goes.still off)) (sides_told layout v a b h))
