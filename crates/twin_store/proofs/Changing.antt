-- A change of what a pair of disks keeps.
use Rattle.std.specs.Prelude.{◌≡◌, ◌⊎◌, ℕ, ◌+◌, ◌≤◌, ◌<◌, Bool, true, false, IsTrue, List, Option, None, Some, Result, Ok, Err}
use Rattle.std.specs.Prelude.{length}
use Rattle.std.proofs.Common.{refl, sym, ap, subst, ◌∙◌, inl, inr, arith}
use Rattle.std.proofs.lemmas.Bool.{cases_lt}
use Rattle.capability.specs.declared.Uid.{Uid}
use Rattle.eden_disk.specs.Told.{Told}
use Rattle.passive_store.specs.Kept.{Layout, reserved_uid}
use Rattle.passive_store.specs.Seen.{Asked, asked}
use Rattle.twin_store.specs.declared.served.TwinRefusal.{TwinRefusal}
use Rattle.twin_store.specs.declared.served.TwinRefusal.TheVariants.{Lost, Full, GenerationsSpent}
use Rattle.twin_store.specs.Vouched.{Bodies, SameEjects, changed_by, generation_in, generation_by, Vow, IsOwnChange, IsVouched}
use Rattle.twin_store.specs.Vouched.{bodies_found}
use Rattle.twin_store.specs.Footings.{Finds, IsMapped, IfMapped, AreVouched}
use Rattle.twin_store.specs.Serving.{Same, has_room_in}
use Rattle.twin_store.specs.Sides.{SideSeen, InUse, Away, is_in_use, disk_of, bodies_on, IsKept, SideGoes, SideServes}
use Rattle.twin_store.specs.Sides.{IsFullOn, IsShortOn, LacksRoom, HasRoomOn, HasLeft}
use Rattle.twin_store.specs.Twins.{TwinSeen, pair, IsTwinReady, SideHas, Holds, IsSure, vow, LeavesVouched, TwinChanges}
use Rattle.twin_store.specs.Twins.{ChangesFirst, IsFullTwin, IsSpent}
use Rattle.twin_store.specs.Twins.{ChangesSecond, Raises, IsRaised}
use Rattle.twin_store.proofs.Vouching.{one_of}
use Rattle.twin_store.proofs.Going.{both_ways, goes_none, goes_on, used_or_not}
use Rattle.twin_store.proofs.Finding.{finds_weaker, maps_weaker, may_keep_either, generation_changed}
use Rattle.twin_store.proofs.Sided.{changed_alike}
use Rattle.twin_store.proofs.Stopping.{stopped_on}
use Rattle.twin_store.proofs.Raising.{not_lost, not_spent}
use Rattle.twin_store.proofs.Clearing.{kept_again}

-- 1. What vouches

pub pair_up : (layout : Layout) (v : Vow) (S T : Option Bodies → Type 0) (one two : Told) → Finds layout v.node S one
    → Finds layout v.node T two
    → ((x y : Option Bodies) → S x → T y → IsVouched v x y) → AreVouched layout v one two
pair_up layout v S T one two f g h = record {
  first = f.footing;
  second = g.footing;
  first_is = f.is;
  second_is = g.is;
  vouched = λ a b p q. h (bodies_found a) (bodies_found b) (f.only a p) (g.only b q);
}

-- what a disk that vouches may keep: what is held, or that with the change begun, under a generation
pub record MayHold (node : ℕ) (held : Bodies) (c : Option Asked) (generation : ℕ) (m : Bodies) : Type 0 where
  pub held_is : SameEjects node m held ⊎ SameEjects node m (changed_by c held)
  pub generation_is : generation_in node m ≡ generation

-- or under the next one
pub record MayRaise (node : ℕ) (held : Bodies) (c : Option Asked) (generation : ℕ) (m : Bodies) : Type 0 where
  pub held_is : SameEjects node m held ⊎ SameEjects node m (changed_by c held)
  pub within : generation ≤ generation_in node m

pub above : (layout : Layout) (node : ℕ) (held : Bodies) (c : Option Asked) (g : ℕ) (told : Told)
    → Finds layout node (IsMapped (MayHold node held c g)) told
    → Finds layout node (IsMapped (MayRaise node held c g)) told
above layout node held c g told f =
    maps_weaker layout node _ _ told (λ m h. record { held_is = h.held_is; within = omega (arith, h.generation_is) }) f

pub below : (layout : Layout) (node : ℕ) (held : Bodies) (c : Option Asked) (g : ℕ) (told : Told)
    → Finds layout node (IsMapped (MayHold node held c g)) told
    → Finds layout node (IfMapped (λ m. generation_in node m ≤ g)) told
below layout node held c g told f = finds_weaker layout node _ _ told go f
  where
    go : (x : Option Bodies) → IsMapped (MayHold node held c g) x → IfMapped (λ m. generation_in node m ≤ g) x
    go None h = absurd h
    go (Some m) h = omega (arith, h.generation_is)

both_hold : (node : ℕ) (held : Bodies) (c : Option Asked) (g : ℕ) (x y : Option Bodies) → 1 ≤ g → IsMapped (MayHold node held c g) x
    → IsMapped (MayHold node held c g) y → IsVouched (vow node held c true true) x y
both_hold node held c g None y one p q = absurd p
both_hold node held c g (Some m) None one p q = absurd q
both_hold node held c g (Some m) (Some n) one p q = (
  (p.held_is, inl (omega (arith, one, p.generation_is))),
  (q.held_is, inl (omega (arith, one, q.generation_is))),
  inl (p.generation_is ∙ sym q.generation_is),
)

first_holds : (node : ℕ) (held : Bodies) (c : Option Asked) (g : ℕ) (x y : Option Bodies) → 1 ≤ g → IsMapped (MayRaise node held c g) x
    → IfMapped (λ m. generation_in node m ≤ g) y → IsVouched (vow node held c true false) x y
first_holds node held c g None y one p q = absurd p
first_holds node held c g (Some m) None one p q = ((p.held_is, inl (omega (arith, one, p.within))), tt)
first_holds node held c g (Some m) (Some n) one p q = ((p.held_is, inl (omega (arith, one, p.within))), inl (omega (arith, q, p.within)))

-- the first disk gives way to a second that may have this: it is of a lesser generation, or of the same, and has what is held
abbrev pub FirstMay : ℕ → Bodies → Option Asked → ℕ → Bodies → Type 0
FirstMay node held c g m = (generation_in node m < g) ⊎ MayHold node held c g m

same_of : (a b : ℕ) → a ≤ b → b ≤ a → a ≡ b
same_of a b h k = omega arith

gives_way : (node : ℕ) (held : Bodies) (c : Option Asked) (g : ℕ) (m n : Bodies) → FirstMay node held c g m → g ≤ generation_in node n
    → (generation_in node m < generation_in node n) ⊎ ((generation_in node m ≡ generation_in node n)
    × (SameEjects node m held ⊎ SameEjects node m (changed_by c held)))
gives_way node held c g m n (inl less) within = inl (omega arith)
gives_way node held c g m n (inr p) within =
    let is : generation_in node m ≡ g = p.generation_is in
    one_of (cases_lt (generation_in node m) (generation_in node n)) (λ lt. inl lt)
    (λ le. inr (same_of (generation_in node m) (generation_in node n) (omega arith) le, p.held_is))

second_holds : (node : ℕ) (held : Bodies) (c : Option Asked) (g : ℕ) (x y : Option Bodies) → 1 ≤ g → IsMapped (MayRaise node held c g) y
    → IfMapped (FirstMay node held c g) x → IsVouched (vow node held c false true) x y
second_holds node held c g x None one p q = absurd p
second_holds node held c g None (Some n) one p q = ((p.held_is, inl (omega (arith, one, p.within))), tt)
second_holds node held c g (Some m) (Some n) one p q =
    ((p.held_is, inl (omega (arith, one, p.within))), gives_way node held c g m n q p.within)

pub lesser_may : (layout : Layout) (node : ℕ) (held : Bodies) (c : Option Asked) (g : ℕ) (told : Told)
    → Finds layout node (IfMapped (λ m. generation_in node m < g)) told → Finds layout node (IfMapped (FirstMay node held c g)) told
lesser_may layout node held c g told f = finds_weaker layout node _ _ told go f
  where
    go : (x : Option Bodies) → IfMapped (λ m. generation_in node m < g) x → IfMapped (FirstMay node held c g) x
    go None h = tt
    go (Some m) h = inl h

pub hold_may : (layout : Layout) (node : ℕ) (held : Bodies) (c : Option Asked) (g : ℕ) (told : Told)
    → Finds layout node (IsMapped (MayHold node held c g)) told → Finds layout node (IfMapped (FirstMay node held c g)) told
hold_may layout node held c g told f = finds_weaker layout node _ _ told go f
  where
    go : (x : Option Bodies) → IsMapped (MayHold node held c g) x → IfMapped (FirstMay node held c g) x
    go None h = absurd h
    go (Some m) h = inr h

pub leaves_both : (layout : Layout) (node : ℕ) (held : Bodies) (c : Option Asked) (g : ℕ) (one two : Told) → 1 ≤ g
    → Finds layout node (IsMapped (MayHold node held c g)) one → Finds layout node (IsMapped (MayHold node held c g)) two
    → AreVouched layout (vow node held c true true) one two
leaves_both layout node held c g one two some f h =
    pair_up layout (vow node held c true true) _ _ one two f h (λ x y p q. both_hold node held c g x y some p q)

pub leaves_first : (layout : Layout) (node : ℕ) (held : Bodies) (c : Option Asked) (g : ℕ) (one two : Told) → 1 ≤ g
    → Finds layout node (IsMapped (MayRaise node held c g)) one → Finds layout node (IfMapped (λ m. generation_in node m ≤ g)) two
    → AreVouched layout (vow node held c true false) one two
leaves_first layout node held c g one two some f h =
    pair_up layout (vow node held c true false) _ _ one two f h (λ x y p q. first_holds node held c g x y some p q)

pub leaves_second : (layout : Layout) (node : ℕ) (held : Bodies) (c : Option Asked) (g : ℕ) (one two : Told) → 1 ≤ g
    → Finds layout node (IfMapped (FirstMay node held c g)) one → Finds layout node (IsMapped (MayRaise node held c g)) two
    → AreVouched layout (vow node held c false true) one two
leaves_second layout node held c g one two some f h =
    pair_up layout (vow node held c false true) _ _ one two f h (λ x y p q. second_holds node held c g x y some q p)

pub leaves_none : (layout : Layout) (node : ℕ) (held : Bodies) (c : Option Asked) (S T : Option Bodies → Type 0) (one two : Told)
    → Finds layout node S one → Finds layout node T two → AreVouched layout (vow node held c false false) one two
leaves_none layout node held c S T one two f h = pair_up layout (vow node held c false false) S T one two f h (λ x y p q. tt)

-- 2. One disk

-- what a disk that has what is held may keep
pub holds_may : (layout : Layout) (node g : ℕ) (held : Bodies) (c : Option Asked) (side : SideSeen) → SideHas layout node g held side
    → Finds layout node (IsMapped (MayHold node held c g)) (disk_of side).told
holds_may layout node g held c side h =
    maps_weaker layout node _ _ (disk_of side).told
    (λ m same. record {
      held_is = inl (λ uid own. same uid ∙ h.same uid own);
      generation_is = ap generation_by (same (reserved_uid node))
          ∙ h.generation_is;
    }) h.kept

pub changed_may : (layout : Layout) (node g : ℕ) (held : Bodies) (c : Option Asked) (side : SideSeen)
    → SideHas layout node g (changed_by c held) side
    → Finds layout node (IsMapped (MayHold node held c g)) (disk_of side).told
changed_may layout node g held c side h =
    maps_weaker layout node _ _ (disk_of side).told
    (λ m same. record {
      held_is = inr (λ uid own. same uid ∙ h.same uid own);
      generation_is = ap generation_by (same (reserved_uid node))
          ∙ h.generation_is;
    }) h.kept

served_may : (node g : ℕ) (held old m : Bodies) (c : Option Asked) → IsOwnChange node c → SameEjects node old held
    → generation_in node old ≡ g
    → Same m old ⊎ Same m (changed_by c old) → MayHold node held c g m
served_may node g held old m c own same is (inl e) = record {
  held_is = inl (λ uid o. e uid ∙ same uid o);
  generation_is = ap generation_by (e (reserved_uid node)) ∙ is;
}
served_may node g held old m c own same is (inr e) = record {
  held_is = inr (λ uid o. e uid ∙ changed_alike c old held uid (same uid o));
  generation_is = ap generation_by (e (reserved_uid node)) ∙ (generation_changed node c old own ∙ is);
}

-- what a call may keep on a disk that has what is held
pub call_may : {T : Type 0} (tells : Bool) (layout : Layout) (node g : ℕ) (held : Bodies) (c : Option Asked)
    (r : Result (Option T) TwinRefusal)
    (old new : SideSeen) → SideServes {T = T} tells layout node c r old new → IsTrue tells → IsOwnChange node c → is_in_use old ≡ true
    → SideHas layout node g held old → Finds layout node (IsMapped (MayHold node held c g)) (disk_of new).told
call_may tells layout node g held c r old new s so own on h =
    maps_weaker layout node _ _ (disk_of new).told
    (λ m k. served_may node g held (bodies_on old) m c own h.same h.generation_is (may_keep_either r c (bodies_on old) m k))
    (s.leaves so on)

pub call_has : {T : Type 0} (tells : Bool) (layout : Layout) (node g : ℕ) (held : Bodies) (c : Option Asked) (done : T) (old new : SideSeen)
    → SideServes {T = T} tells layout node c (Ok (Some done)) old new → IsTrue tells → IsOwnChange node c → SideHas layout node g held old
    → SideHas layout node g (changed_by c held) new
call_has tells layout node g held c done old new s so own h = record {
  same = λ uid o. s.kept so uid ∙ changed_alike c (bodies_on old) held uid (h.same uid o);
  generation_is = ap generation_by (s.kept so (reserved_uid node)) ∙ (generation_changed node c (bodies_on old) own ∙ h.generation_is);
  kept = kept_again tells layout node c (Some done) old new s so s.used;
}

raised_may : (node g : ℕ) (held old m : Bodies) (c : Option Asked) → SameEjects node old held ⊎ SameEjects node old (changed_by c held)
    → generation_in node old ≡ g → IsRaised node (g + 1) old m → MayRaise node held c g m
raised_may node g held old m c same is r = record {
  held_is = one_of same (λ h. inl (λ uid o. r.same uid o ∙ h uid o)) (λ h. inr (λ uid o. r.same uid o ∙ h uid o));
  within = one_of r.generation_is (λ e. omega (arith, e, is)) (λ e. omega (arith, e));
}

pub raise_may : (tells : Bool) (layout : Layout) (node g : ℕ) (held : Bodies) (c : Option Asked) (r : Result ℕ TwinRefusal)
    (old new : SideSeen)
    → Raises tells layout node g r old new → IsTrue tells → is_in_use old ≡ true
    → SameEjects node (bodies_on old) held ⊎ SameEjects node (bodies_on old) (changed_by c held) → generation_in node (bodies_on old) ≡ g
    → IsKept layout node old → Finds layout node (IsMapped (MayRaise node held c g)) (disk_of new).told
raise_may tells layout node g held c r old new s so on same is kept =
    maps_weaker layout node _ _ (disk_of new).told (λ m k. raised_may node g held (bodies_on old) m c same is k) (s.leaves so on kept)

-- 3. Flags

pub vouched_as : (layout : Layout) (node : ℕ) (held : Bodies) (c : Option Asked) (a b x y : Bool) (one two : Told) → x ≡ a → y ≡ b
    → AreVouched layout (vow node held c a b) one two → AreVouched layout (vow node held c x y) one two
vouched_as layout node held c a b x y one two e f h =
    subst (λ p. AreVouched layout (vow node held c p y) one two) (sym e)
    (subst (λ q. AreVouched layout (vow node held c a q) one two) (sym f) h)

-- a disk that is as it was has not left use, nor has one that is in use
stayed : (s : SideSeen) → HasLeft s s → ⊥
stayed s h = both_ways (is_in_use s) h.0 h.1

used_still : (old new : SideSeen) → is_in_use new ≡ true → HasLeft old new → ⊥
used_still old new used h = both_ways (is_in_use new) used h.1

-- where neither disk has left use no generation is raised
unspent : (a b : TwinSeen) → (HasLeft a.first b.first → ⊥) → (HasLeft a.second b.second → ⊥) → IsSpent a b → ⊥
unspent a b f g q = one_of q.1 (λ h. f h.0) (λ h. g h.0)

module _ (tells : Bool) (layout : Layout) (c : Option Asked) (node generation : ℕ) (own : IsOwnChange node c) where
  -- what both disks vouch for where each may have what is held or the change
  both_by : (held : Bodies) (a b : SideSeen) → 1 ≤ generation → is_in_use a ≡ true
      → Finds layout node (IsMapped (MayHold node held c generation)) (disk_of a).told
      → (is_in_use b ≡ true → Finds layout node (IsMapped (MayHold node held c generation)) (disk_of b).told)
      → (is_in_use b ≡ false → Finds layout node (IfMapped (λ m. generation_in node m ≤ generation)) (disk_of b).told)
      → AreVouched layout (vow node held c (is_in_use a) (is_in_use b)) (disk_of a).told (disk_of b).told
  both_by held a b one on f g h =
      one_of (used_or_not (is_in_use b))
      (λ on_too. vouched_as layout node held c true true (is_in_use a) (is_in_use b) (disk_of a).told (disk_of b).told on on_too
      (leaves_both layout node held c generation (disk_of a).told (disk_of b).told one f (g on_too)))
      (λ off. vouched_as layout node held c true false (is_in_use a) (is_in_use b) (disk_of a).told (disk_of b).told on off
      (leaves_first layout node held c generation (disk_of a).told (disk_of b).told one
      (above layout node held c generation (disk_of a).told f) (h off)))

  -- the same where the second is in use
  second_by : (held : Bodies) (a b : SideSeen) → 1 ≤ generation → is_in_use b ≡ true
      → Finds layout node (IsMapped (MayHold node held c generation)) (disk_of b).told
      → (is_in_use a ≡ true → Finds layout node (IsMapped (MayHold node held c generation)) (disk_of a).told)
      → (is_in_use a ≡ false → Finds layout node (IfMapped (λ m. generation_in node m < generation)) (disk_of a).told)
      → AreVouched layout (vow node held c (is_in_use a) (is_in_use b)) (disk_of a).told (disk_of b).told
  second_by held a b one on f g h =
      one_of (used_or_not (is_in_use a))
      (λ on_too. vouched_as layout node held c true true (is_in_use a) (is_in_use b) (disk_of a).told (disk_of b).told on_too on
      (leaves_both layout node held c generation (disk_of a).told (disk_of b).told one (g on_too) f))
      (λ off. vouched_as layout node held c false true (is_in_use a) (is_in_use b) (disk_of a).told (disk_of b).told off on
      (leaves_second layout node held c generation (disk_of a).told (disk_of b).told one
      (lesser_may layout node held c generation (disk_of a).told (h off)) (above layout node held c generation (disk_of b).told f)))

  -- 4. The first disk

  pub first_out : {U : Type 0} (value : U) (first second : SideSeen) → IsTwinReady (pair node generation first second)
      → is_in_use first ≡ false
      → ChangesFirst {T = U} tells layout c (Ok value) (pair node generation first second) (pair node generation first second)
  first_out value first second ready off = record {
    goes = record
        { node = refl; first = goes_none first; second = goes_none second; ready = ready; lost = tt; stopped = inl (refl, refl) };
    full = tt;
    spent = unspent (pair node generation first second) (pair node generation first second) (stayed first) (stayed second);
    other = λ same. (refl, refl);
    held = λ so held h. record { generation = h.generation; first = λ on. absurd (both_ways (is_in_use first) on off); second = h.second };
    sure = λ so held h s. s;
    vouched = λ so. tt;
  }

  pub first_refused : {T U : Type 0} (e : TwinRefusal) (old new second : SideSeen) → is_in_use old ≡ true
      → SideServes {T = T} tells layout node c (Err e) old new
      → ChangesFirst {T = U} tells layout c (Err e) (pair node generation old second) (pair node generation new second)
  first_refused e old new second on s = record {
    goes = record {
      node = refl;
      first = s.goes;
      second = goes_none second;
      ready = tt;
      lost = λ is. absurd (not_lost e s.only is);
      stopped = inl (s.stops, refl);
    };
    full = λ is. inl (inl (s.full is));
    spent = (
      λ is. absurd (not_spent e s.only is),
      λ q. absurd (unspent (pair node generation old second) (pair node generation new second) (used_still old new s.used)
          (stayed second) q),
    );
    other = tt;
    held = λ so. tt;
    sure = λ so. tt;
    vouched = λ so held h sure. both_by held new second h.generation s.used
        (call_may tells layout node generation held c (Err e) old new s so own on (h.first on))
        (λ on_too. holds_may layout node generation held c second (h.second on_too)) sure.second;
  }

  pub first_done : {T U : Type 0} (done : T) (value : U) (old new second : SideSeen) → IsTwinReady (pair node generation old second)
      → SideServes {T = T} tells layout node c (Ok (Some done)) old new
      → ChangesFirst {T = U} tells layout c (Ok value) (pair node generation old second) (pair node generation new second)
  first_done done value old new second ready s = record {
    goes = record {
      node = refl;
      first = s.goes;
      second = goes_none second;
      lost = tt;
      stopped = inl (s.stops, refl);
      ready = record { number = ready.number; first = s.ready; second = ready.second; some = inl s.used };
    };
    full = tt;
    spent = unspent (pair node generation old second) (pair node generation new second) (used_still old new s.used) (stayed second);
    other = λ same. (refl, refl);
    held = λ so held h. record {
      generation = h.generation;
      second = h.second;
      first = λ on. call_has tells layout node generation held c done old new s so own (h.first (s.goes.left on));
    };
    sure = λ so held h sure. record { first = λ off. absurd (both_ways (is_in_use new) s.used off); second = sure.second };
    vouched = λ so. tt;
  }

  pub first_spent : {T U : Type 0} (e : TwinRefusal) (old new second behind : SideSeen) → is_in_use old ≡ true
      → SideServes {T = T} tells layout node c (Ok None) old new → Raises tells layout node generation (Err e) second behind
      → ChangesFirst {T = U} tells layout c (Err e) (pair node generation old second) (pair node generation new behind)
  first_spent {T} e old new second behind on s r = record {
    goes = record
        { node = refl; first = s.goes; second = r.goes; ready = tt; lost = λ is. (s.used, r.lost is); stopped = inr (s.stops, r.stops) };
    full = λ is. inr (inl (on, s.used));
    spent = (
      λ is. let last : (generation ≡ 4294967295) × (is_in_use behind ≡ true) = r.spent.0 is in (last.0, inl ((on, s.used), last.1)),
      λ q. one_of q.1 (λ h. r.spent.1 (q.0, h.1)) (λ h. absurd (both_ways (is_in_use new) h.1 s.used)),
    );
    other = tt;
    held = λ so. tt;
    sure = λ so. tt;
    vouched = λ so held h sure.
        let may : Finds layout node (IsMapped (MayHold node held c generation)) (disk_of new).told =
        call_may {T = T} tells layout node generation held c (Ok None) old new s so own on (h.first on) in
        one_of (used_or_not (is_in_use second))
        (λ on_too. let has : SideHas layout node generation held second = h.second on_too in
        let found : Finds layout node (IsMapped (MayRaise node held c generation)) (disk_of behind).told =
        raise_may tells layout node generation held c (Err e) second behind r so on_too (inl has.same) has.generation_is has.kept in
        one_of (used_or_not (is_in_use behind))
        (λ stays. vouched_as layout node held c false true (is_in_use new) (is_in_use behind) (disk_of new).told (disk_of behind).told
        s.used stays
        (leaves_second layout node held c generation (disk_of new).told (disk_of behind).told h.generation
        (hold_may layout node held c generation (disk_of new).told may) found))
        (λ gone. vouched_as layout node held c false false (is_in_use new) (is_in_use behind) (disk_of new).told (disk_of behind).told
        s.used gone
        (leaves_none layout node held c _ _ (disk_of new).told (disk_of behind).told may found)))
        (λ off. let back : behind ≡ second = r.goes.still off in
        vouched_as layout node held c false false (is_in_use new) (is_in_use behind) (disk_of new).told (disk_of behind).told s.used
        (ap is_in_use back ∙ off)
        (leaves_none layout node held c _ _ (disk_of new).told (disk_of behind).told may
        (subst (λ (x : SideSeen). Finds layout node (IfMapped (λ m. generation_in node m ≤ generation)) (disk_of x).told) (sym back)
        (sure.second off))));
  }

  pub first_left : {T U : Type 0} (n : ℕ) (value : U) (old new second behind : SideSeen) → IsTwinReady (pair node generation old second)
      → is_in_use old ≡ true
      → SideServes {T = T} tells layout node c (Ok None) old new → Raises tells layout node generation (Ok n) second behind
      → ChangesFirst {T = U} tells layout c (Ok value) (pair node generation old second) (pair node n new behind)
  first_left {T} n value old new second behind ready on s r = record {
    goes = record {
      node = refl;
      first = s.goes;
      second = r.goes;
      lost = tt;
      stopped = inl (s.stops, r.stops);
      ready = record { number = ready.number; first = s.ready; second = r.ready; some = inr r.used };
    };
    full = tt;
    spent = λ q. one_of q.1 (λ h. r.spent (q.0, h.1)) (λ h. both_ways (is_in_use new) h.1 s.used);
    other = λ same. absurd (both_ways (is_in_use new) (same ∙ on) s.used);
    held = λ so held h.
        let new_has : SideHas layout node n (bodies_on second) behind = r.has so in
        let next : n ≡ generation + 1 = r.next in record {
          generation = omega (arith, next);
          first = λ used. absurd (both_ways (is_in_use new) used s.used);
          second = λ used. record {
            same = λ uid o. new_has.same uid o ∙ (h.second (r.goes.left used)).same uid o;
            generation_is = new_has.generation_is;
            kept = new_has.kept;
          };
        };
    sure = λ so held h sure. record {
      first = λ off. finds_weaker layout node _ _ (disk_of new).told (less held)
          (call_may {T = T} tells layout node generation held c (Ok None) old new s so own on (h.first on));
      second = λ off. absurd (both_ways (is_in_use behind) r.used off);
    };
    vouched = λ so. tt;
  }
    where
      less : (held : Bodies) (x : Option Bodies) → IsMapped (MayHold node held c generation) x → IfMapped (λ m. generation_in node m < n) x
      less held None h = absurd h
      less held (Some m) h = let next : n ≡ generation + 1 = r.next in omega (arith, h.generation_is, next)

  -- 5. The second disk

  pub second_out : {U : Type 0} (value : U) (first second : SideSeen) → IsTwinReady (pair node generation first second)
      → is_in_use second ≡ false
      → ChangesSecond {T = U} tells layout c (Ok value) (pair node generation first second) (pair node generation first second)
  second_out value first second ready off = record {
    goes = record
        { node = refl; first = goes_none first; second = goes_none second; ready = ready; lost = tt; stopped = inl (refl, refl) };
    full = tt;
    spent = unspent (pair node generation first second) (pair node generation first second) (stayed first) (stayed second);
    held = λ so held h. record { generation = h.generation; first = h.first; second = λ on. absurd (both_ways (is_in_use second) on off) };
    sure = λ so held h s. s;
    vouched = λ so. tt;
  }

  pub second_refused : {T U : Type 0} (e : TwinRefusal) (first old new : SideSeen) → is_in_use old ≡ true
      → SideServes {T = T} tells layout node c (Err e) old new
      → ChangesSecond {T = U} tells layout c (Err e) (pair node generation first old) (pair node generation first new)
  second_refused e first old new on s = record {
    goes = record {
      node = refl;
      first = goes_none first;
      second = s.goes;
      ready = tt;
      lost = λ is. absurd (not_lost e s.only is);
      stopped = inr (refl, s.stops);
    };
    full = λ is. inl (s.full is);
    spent = (
      λ is. absurd (not_spent e s.only is),
      λ q. absurd (unspent (pair node generation first old) (pair node generation first new) (stayed first) (used_still old new s.used) q),
    );
    held = λ so. tt;
    sure = λ so. tt;
    vouched = λ so held h sure. second_by held first new h.generation s.used
        (call_may tells layout node generation held c (Err e) old new s so own on (h.second on))
        (λ on_too. changed_may layout node generation held c first (h.first on_too)) sure.first;
  }

  pub second_done : {T U : Type 0} (done : T) (value : U) (first old new : SideSeen) → IsTwinReady (pair node generation first old)
      → SideServes {T = T} tells layout node c (Ok (Some done)) old new
      → ChangesSecond {T = U} tells layout c (Ok value) (pair node generation first old) (pair node generation first new)
  second_done done value first old new ready s = record {
    goes = record {
      node = refl;
      first = goes_none first;
      second = s.goes;
      lost = tt;
      stopped = inr (refl, s.stops);
      ready = record { number = ready.number; first = ready.first; second = s.ready; some = inr s.used };
    };
    full = tt;
    spent = unspent (pair node generation first old) (pair node generation first new) (stayed first) (used_still old new s.used);
    held = λ so held h. record {
      generation = h.generation;
      first = h.first;
      second = λ on. call_has tells layout node generation held c done old new s so own (h.second (s.goes.left on));
    };
    sure = λ so held h sure. record { first = sure.first; second = λ off. absurd (both_ways (is_in_use new) s.used off) };
    vouched = λ so. tt;
  }

  pub second_spent : {T U : Type 0} (e : TwinRefusal) (first behind old new : SideSeen) → is_in_use old ≡ true
      → SideServes {T = T} tells layout node c (Ok None) old new → Raises tells layout node generation (Err e) first behind
      → ChangesSecond {T = U} tells layout c (Err e) (pair node generation first old) (pair node generation behind new)
  second_spent {T} e first behind old new on s r = record {
    goes = record
        { node = refl; first = r.goes; second = s.goes; ready = tt; lost = λ is. (r.lost is, s.used); stopped = inl (r.stops, s.stops) };
    full = λ is. inr (on, s.used);
    spent = (
      λ is. let last : (generation ≡ 4294967295) × (is_in_use behind ≡ true) = r.spent.0 is in (last.0, inr ((on, s.used), last.1)),
      λ q. one_of q.1 (λ h. absurd (both_ways (is_in_use new) h.1 s.used)) (λ h. r.spent.1 (q.0, h.1)),
    );
    held = λ so. tt;
    sure = λ so. tt;
    vouched = λ so held h sure.
        let may : Finds layout node (IsMapped (MayHold node held c generation)) (disk_of new).told =
        call_may {T = T} tells layout node generation held c (Ok None) old new s so own on (h.second on) in
        one_of (used_or_not (is_in_use first))
        (λ on_too. let has : SideHas layout node generation (changed_by c held) first = h.first on_too in
        let found : Finds layout node (IsMapped (MayRaise node held c generation)) (disk_of behind).told =
        raise_may tells layout node generation held c (Err e) first behind r so on_too (inr has.same) has.generation_is has.kept in
        one_of (used_or_not (is_in_use behind))
        (λ stays. vouched_as layout node held c true false (is_in_use behind) (is_in_use new) (disk_of behind).told (disk_of new).told stays
        s.used
        (leaves_first layout node held c generation (disk_of behind).told (disk_of new).told h.generation found
        (below layout node held c generation (disk_of new).told may)))
        (λ gone. vouched_as layout node held c false false (is_in_use behind) (is_in_use new) (disk_of behind).told (disk_of new).told gone
        s.used
        (leaves_none layout node held c _ _ (disk_of behind).told (disk_of new).told found may)))
        (λ off. let back : behind ≡ first = r.goes.still off in
        vouched_as layout node held c false false (is_in_use behind) (is_in_use new) (disk_of behind).told (disk_of new).told
        (ap is_in_use back ∙ off) s.used
        (leaves_none layout node held c _ _ (disk_of behind).told (disk_of new).told
        (subst (λ (x : SideSeen). Finds layout node (IfMapped (λ m. generation_in node m < generation)) (disk_of x).told) (sym back)
        (sure.first off)) may));
  }

  pub second_left : {T U : Type 0} (n : ℕ) (value : U) (first behind old new : SideSeen) → IsTwinReady (pair node generation first old)
      → is_in_use old ≡ true
      → SideServes {T = T} tells layout node c (Ok None) old new → Raises tells layout node generation (Ok n) first behind
      → ChangesSecond {T = U} tells layout c (Ok value) (pair node generation first old) (pair node n behind new)
  second_left {T} n value first behind old new ready on s r = record {
    goes = record {
      node = refl;
      first = r.goes;
      second = s.goes;
      lost = tt;
      stopped = inl (r.stops, s.stops);
      ready = record { number = ready.number; first = r.ready; second = s.ready; some = inl r.used };
    };
    full = tt;
    spent = λ q. one_of q.1 (λ h. both_ways (is_in_use new) h.1 s.used) (λ h. r.spent (q.0, h.1));
    held = λ so held h.
        let new_has : SideHas layout node n (bodies_on first) behind = r.has so in
        let next : n ≡ generation + 1 = r.next in record {
          generation = omega (arith, next);
          first = λ used. record {
            same = λ uid o. new_has.same uid o ∙ (h.first (r.goes.left used)).same uid o;
            generation_is = new_has.generation_is;
            kept = new_has.kept;
          };
          second = λ used. absurd (both_ways (is_in_use new) used s.used);
        };
    sure = λ so held h sure. record {
      first = λ off. absurd (both_ways (is_in_use behind) r.used off);
      second = λ off. finds_weaker layout node _ _ (disk_of new).told (within held)
          (call_may {T = T} tells layout node generation held c (Ok None) old new s so own on (h.second on));
    };
    vouched = λ so. tt;
  }
    where
      within : (held : Bodies) (x : Option Bodies) → IsMapped (MayHold node held c generation) x
          → IfMapped (λ m. generation_in node m ≤ n) x
      within held None h = absurd h
      within held (Some m) h = let next : n ≡ generation + 1 = r.next in omega (arith, h.generation_is, next)

-- 6. Both

full_not_lost : Full ≡ Lost → ⊥
full_not_lost is = cc

full_not_spent : Full ≡ GenerationsSpent → ⊥
full_not_spent is = cc

pub still_vouched : (layout : Layout) (c : Option Asked) (t : TwinSeen) (held : Bodies) → Holds layout held t → IsSure layout t
    → LeavesVouched layout held c t
still_vouched layout c t held h sure =
    one_of (used_or_not (is_in_use t.first))
    (λ on. one_of (used_or_not (is_in_use t.second))
    (λ on_too. vouched_as layout t.node held c true true (is_in_use t.first) (is_in_use t.second) (disk_of t.first).told
    (disk_of t.second).told on on_too
    (leaves_both layout t.node held c t.generation (disk_of t.first).told (disk_of t.second).told h.generation
    (holds_may layout t.node t.generation held c t.first (h.first on))
    (holds_may layout t.node t.generation held c t.second (h.second on_too))))
    (λ off. vouched_as layout t.node held c true false (is_in_use t.first) (is_in_use t.second) (disk_of t.first).told
    (disk_of t.second).told on off
    (leaves_first layout t.node held c t.generation (disk_of t.first).told (disk_of t.second).told h.generation
    (above layout t.node held c t.generation (disk_of t.first).told (holds_may layout t.node t.generation held c t.first (h.first on)))
    (sure.second off))))
    (λ off. one_of (used_or_not (is_in_use t.second))
    (λ on_too. vouched_as layout t.node held c false true (is_in_use t.first) (is_in_use t.second) (disk_of t.first).told
    (disk_of t.second).told off on_too
    (leaves_second layout t.node held c t.generation (disk_of t.first).told (disk_of t.second).told h.generation
    (lesser_may layout t.node held c t.generation (disk_of t.first).told (sure.first off))
    (above layout t.node held c t.generation (disk_of t.second).told
    (holds_may layout t.node t.generation held c t.second (h.second on_too)))))
    (λ off_too. vouched_as layout t.node held c false false (is_in_use t.first) (is_in_use t.second) (disk_of t.first).told
    (disk_of t.second).told off off_too
    (leaves_none layout t.node held c _ _ (disk_of t.first).told (disk_of t.second).told (sure.first off) (sure.second off_too))))

-- what is too long for a disk finds no room there
short_full : (tells : Bool) (layout : Layout) (uid : Uid) (body : List ℕ) (side : SideSeen) → IsShortOn tells layout (length body) side
    → IsFullOn tells layout (Some (asked uid (Some body))) side
short_full tells layout uid body (InUse s) h = λ so told. inr (h so told)
short_full tells layout uid body (Away d) h = h

-- a disk in use has room and lacks it
room_lacked : (tells : Bool) (layout : Layout) (size : ℕ) (side : SideSeen) → IsTrue tells → HasRoomOn tells layout size side
    → LacksRoom layout size side → ⊥
room_lacked tells layout size (InUse s) so has lacks = both_ways (has_room_in layout s size) (has so lacks.0) lacks.1
room_lacked tells layout size (Away d) so has lacks = lacks

pub room_there : {P : Type 0} (tells : Bool) (layout : Layout) (body : List ℕ) (t : TwinSeen) → IsTrue tells
    → HasRoomOn tells layout (length body) t.first → HasRoomOn tells layout (length body) t.second
    → LacksRoom layout (length body) t.first ⊎ LacksRoom layout (length body) t.second → P
room_there tells layout body t so first second lacks =
    absurd (one_of lacks (λ h. room_lacked tells layout (length body) t.first so first h)
    (λ h. room_lacked tells layout (length body) t.second so second h))

pub full_before : {U : Type 0} (tells : Bool) (layout : Layout) (uid : Uid) (body : List ℕ) (t : TwinSeen)
    → IsShortOn tells layout (length body) t.first ⊎ IsShortOn tells layout (length body) t.second
    → TwinChanges {T = U} tells layout (Some (asked uid (Some body))) (Err Full) t t
full_before tells layout uid body t short = record {
  goes = record {
    node = refl;
    first = goes_none t.first;
    second = goes_none t.second;
    ready = tt;
    lost = λ is. absurd (full_not_lost is);
    stopped = inl (refl, refl);
  };
  full = λ is. inl (one_of short (λ h. inl (short_full tells layout uid body t.first h))
      (λ h. inr (short_full tells layout uid body t.second h)));
  spent = (λ is. absurd (full_not_spent is), λ q. absurd (unspent t t (stayed t.first) (stayed t.second) q));
  held = λ so. tt;
  sure = λ so. tt;
  vouched = λ so held h sure. still_vouched layout (Some (asked uid (Some body))) t held h sure;
}

pub refused_first : {T U : Type 0} (tells : Bool) (layout : Layout) (c : Option Asked) (e : TwinRefusal) (a b : TwinSeen)
    → ChangesFirst {T = T} tells layout c (Err e) a b → TwinChanges {T = U} tells layout c (Err e) a b
refused_first tells layout c e a b f = record {
  goes = record
      { node = f.goes.node; first = f.goes.first; second = f.goes.second; ready = tt; lost = f.goes.lost; stopped = f.goes.stopped };
  full = f.full;
  spent = f.spent;
  held = λ so. tt;
  sure = λ so. tt;
  vouched = f.vouched;
}

-- a disk that leaves use later, left it from the start on
pub left_from : (a b d : SideSeen) → SideGoes a b → HasLeft b d → HasLeft a d
left_from a b d goes left = (goes.left left.0, left.1)

-- what the second disk had no room for behind the first
full_behind : {T : Type 0} (tells : Bool) (layout : Layout) (c : Option Asked) (value : T) (a b d : TwinSeen)
    → ChangesFirst {T = T} tells layout c (Ok value) a b → SideGoes b.first d.first
    → IsFullOn tells layout c b.second ⊎ HasLeft b.second d.second → IsFullTwin tells layout c a d
full_behind tells layout c value a b d f goes (inr left) = inr (inr (left_from a.second b.second d.second f.goes.second left))
full_behind tells layout c value a b d f goes (inl full) =
    one_of (used_or_not (is_in_use b.first))
    (λ on. inl (inr (subst (IsFullOn tells layout c) (f.other (on ∙ sym (f.goes.first.left on))).0 full)))
    (λ off. one_of (used_or_not (is_in_use a.first))
    (λ on. inr (inl (on, subst (λ s. is_in_use s ≡ false) (sym (goes.still off)) off)))
    (λ out. inl (inr (subst (IsFullOn tells layout c) (f.other (off ∙ sym out)).0 full))))

-- what is spent behind both disks is what is spent on the second, where nothing was on the first
module _ {T U : Type 0} (tells : Bool) (layout : Layout) (c : Option Asked) (value : T) (r : Result U TwinRefusal) (a b d : TwinSeen)
    (f : ChangesFirst {T = T} tells layout c (Ok value) a b) (s : ChangesSecond {T = U} tells layout c r b d) where
  left_as : is_in_use b.first ≡ true → is_in_use b.first ≡ is_in_use a.first
  left_as on = on ∙ sym (f.goes.first.left on)

  spent_on : IsSpent b d → IsSpent a d
  spent_on q = one_of q.1
      (λ h. let on : is_in_use b.first ≡ true = h.0.0 in
      (sym (f.other (left_as on)).1 ∙ q.0, inl ((f.goes.first.left on, h.0.1), h.1)))
      (λ h. let on : is_in_use b.first ≡ true = s.goes.first.left h.1 in
      (sym (f.other (left_as on)).1 ∙ q.0, inr ((f.goes.second.left h.0.0, h.0.1), h.1)))

  spent_back : IsSpent a d → IsSpent b d
  spent_back q = one_of q.1
      (λ h. one_of (used_or_not (is_in_use b.first)) (λ on. ((f.other (left_as on)).1 ∙ q.0, inl ((on, h.0.1), h.1)))
      (λ off. absurd (f.spent (q.0, inl ((h.0.0, off), s.goes.second.left h.1)))))
      (λ h. let on : is_in_use b.first ≡ true = s.goes.first.left h.1 in
      let same : b.second ≡ a.second = (f.other (left_as on)).0 in
      ((f.other (left_as on)).1 ∙ q.0, inr ((ap is_in_use same ∙ h.0.0, h.0.1), h.1)))

pub changed_both : {T U : Type 0} (tells : Bool) (layout : Layout) (c : Option Asked) (value : T) (r : Result U TwinRefusal)
    (a b d : TwinSeen)
    → ChangesFirst {T = T} tells layout c (Ok value) a b → ChangesSecond tells layout c r b d → TwinChanges tells layout c r a d
changed_both tells layout c value (Ok done) a b d f s = record {
  goes = record {
    node = s.goes.node ∙ f.goes.node;
    first = goes_on a.first b.first d.first f.goes.first s.goes.first;
    second = goes_on a.second b.second d.second f.goes.second s.goes.second;
    ready = s.goes.ready;
    lost = tt;
    stopped = stopped_on value (Ok done) (disk_of a.first) (disk_of b.first) (disk_of d.first) (disk_of a.second) (disk_of b.second)
        (disk_of d.second) f.goes.stopped s.goes.stopped;
  };
  full = tt;
  spent = λ q. s.spent (spent_back tells layout c value (Ok done) a b d f s q);
  held = λ so held h. s.held so held (f.held so held h);
  sure = λ so held h sure. s.sure so held (f.held so held h) (f.sure so held h sure);
  vouched = λ so. tt;
}
changed_both {T} {U} tells layout c value (Err e) a b d f s = record {
  goes = record {
    node = s.goes.node ∙ f.goes.node;
    first = goes_on a.first b.first d.first f.goes.first s.goes.first;
    second = goes_on a.second b.second d.second f.goes.second s.goes.second;
    ready = tt;
    lost = s.goes.lost;
    stopped = stopped_on {T = T} {U = U} value (Err e) (disk_of a.first) (disk_of b.first) (disk_of d.first) (disk_of a.second)
        (disk_of b.second) (disk_of d.second) f.goes.stopped s.goes.stopped;
  };
  full = λ is. full_behind tells layout c value a b d f s.goes.first (s.full is);
  spent = (
    λ is. spent_on tells layout c value (Err e) a b d f s (s.spent.0 is),
    λ q. s.spent.1 (spent_back tells layout c value (Err e) a b d f s q),
  );
  held = λ so. tt;
  sure = λ so. tt;
  vouched = λ so held h sure. s.vouched so held (f.held so held h) (f.sure so held h sure);
}
