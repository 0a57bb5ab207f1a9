-- The target of a copy is cleared, uid after uid.
use Rattle.std.specs.Prelude.{◌≡◌, ◌⊎◌, ℕ, ◌<◌, ◌&&◌, not, Bool, true, false, IsTrue, is_some, List, Option, None, Some, Result, Ok, Err}
use Rattle.std.specs.Prelude.{IfSome}
use Rattle.std.proofs.Common.{refl, sym, ap, subst, ◌∙◌, inl, inr}
use Rattle.std.specs.FinMap as map
use Rattle.std.proofs.lemmas.Bool.{false≢true}
use Rattle.capability.specs.declared.Uid.{Uid}
use Rattle.capability.specs.Uids.{uid_cmp}
use Rattle.std.specs.Ordering.{eq_by_cmp}
use Rattle.passive_store.specs.Kept.{Layout, IsEject, bodies_after, reserved_uid}
use Rattle.passive_store.specs.Seen.{Asked, asked}
use Rattle.twin_store.specs.declared.served.TwinRefusal.{TwinRefusal}
use Rattle.twin_store.specs.Ranks.{rank_of}
use Rattle.twin_store.specs.Vouched.{Bodies, changed_by, generation_in, generation_by}
use Rattle.twin_store.specs.Footings.{Finds, IsMapped}
use Rattle.twin_store.specs.Serving.{Same}
use Rattle.twin_store.specs.Sides.{SideSeen, is_in_use, disk_of, bodies_on, IsSideReady, IsKept, SideGoes, SideServes, Bears}
use Rattle.twin_store.specs.Sides.{IsCopying, IsClear, IsNextOn}
use Rattle.twin_store.specs.Copies.{IsAtRest, Clears}
use Rattle.twin_store.proofs.Vouching.{one_of, same_or_not, other}
use Rattle.twin_store.proofs.Going.{both_ways, goes_none, goes_on, used_or_not}
use Rattle.twin_store.proofs.Finding.{maps_weaker, may_keep_either, same_on, same_back, at_change, generation_stays}
use Rattle.twin_store.proofs.Walking.{AllBefore, walk_first, walk_more}

-- 1. One call on a disk that bears P

-- P stands whatever a call may keep
abbrev pub IsClosed : (Bodies → Type 0) → Option Asked → SideSeen → Type 0
IsClosed P c side = is_in_use side ≡ true → (m : Bodies) → Same m (bodies_on side) ⊎ Same m (changed_by c (bodies_on side)) → P m

pub kept_again : {T : Type 0} (tells : Bool) (layout : Layout) (node : ℕ) (c : Option Asked) (answer : Option T) (old new : SideSeen)
    → SideServes {T = T} tells layout node c (Ok answer) old new → IsTrue tells → is_in_use new ≡ true → IsKept layout node new
kept_again tells layout node c None old new s so on = absurd (both_ways (is_in_use new) on s.used)
kept_again tells layout node c (Some done) old new s so on =
    maps_weaker layout node _ _ (disk_of new).told
    (λ m h. same_on m (changed_by c (bodies_on old)) (bodies_on new) h
    (same_back (bodies_on new) (changed_by c (bodies_on old)) (s.kept so)))
    (s.leaves so (s.goes.left on))

has_again : {T : Type 0} (tells : Bool) (layout : Layout) (node : ℕ) (c : Option Asked) (P : Bodies → Type 0) (answer : Option T)
    (old new : SideSeen)
    → SideServes {T = T} tells layout node c (Ok answer) old new → IsTrue tells → IsClosed P c old → is_in_use new ≡ true
    → P (bodies_on new)
has_again tells layout node c P None old new s so close on = absurd (both_ways (is_in_use new) on s.used)
has_again tells layout node c P (Some done) old new s so close on = close (s.goes.left on) (bodies_on new) (inr (s.kept so))

pub finds_served : {T : Type 0} (tells : Bool) (layout : Layout) (node : ℕ) (c : Option Asked) (P : Bodies → Type 0)
    (r : Result (Option T) TwinRefusal)
    (old new : SideSeen) → SideServes {T = T} tells layout node c r old new → IsTrue tells → IsClosed P c old
    → Finds layout node (IsMapped P) (disk_of old).told → Finds layout node (IsMapped P) (disk_of new).told
finds_served tells layout node c P r old new s so close h =
    one_of (used_or_not (is_in_use old))
    (λ on. maps_weaker layout node _ P (disk_of new).told (λ m k. close on m (may_keep_either r c (bodies_on old) m k)) (s.leaves so on))
    (λ off. subst (λ (x : SideSeen). Finds layout node (IsMapped P) (disk_of x).told) (sym (s.goes.still off)) h)

pub bears_served : {T : Type 0} (tells : Bool) (layout : Layout) (node : ℕ) (c : Option Asked) (P : Bodies → Type 0) (answer : Option T)
    (old new : SideSeen) → SideServes {T = T} tells layout node c (Ok answer) old new → IsTrue tells → IsClosed P c old
    → Finds layout node (IsMapped P) (disk_of old).told → Bears layout node P new
bears_served tells layout node c P answer old new s so close h = record {
  finds = finds_served tells layout node c P (Ok answer) old new s so close h;
  has = λ on. has_again tells layout node c P answer old new s so close on;
  kept = λ on. kept_again tells layout node c answer old new s so on;
}

-- 2. A map on its way

pub copying_with : (all : Bool) (node g : ℕ) (source target x y : Bodies) (uid : Uid) (body : Option (List ℕ)) → IsEject node uid
    → (body ≡ map.get source uid) ⊎ (IsTrue all × (body ≡ None)) → IsCopying all node g source target x
    → Same y (bodies_after uid body x) → IsCopying all node g source target y
copying_with all node g source target x y uid body own how h same = record {
  generation_is = ap generation_by (same (reserved_uid node)) ∙ (generation_stays node uid body x own ∙ h.generation_is);
  bodies = λ q is. go q is (same_or_not q uid);
}
  where
    here : (body ≡ map.get source uid) ⊎ (IsTrue all × (body ≡ None)) → map.get y uid ≡ body
        → (map.get y uid ≡ map.get source uid) ⊎ ((map.get y uid ≡ map.get target uid) ⊎ (IsTrue all × (map.get y uid ≡ None)))
    here (inl e) at = inl (at ∙ e)
    here (inr e) at = inr (inr (e.0, at ∙ e.1))

    go : (q : Uid) → IsEject node q → (q ≡ uid) ⊎ (eq_by_cmp uid_cmp q uid ≡ false)
        → (map.get y q ≡ map.get source q) ⊎ ((map.get y q ≡ map.get target q) ⊎ (IsTrue all × (map.get y q ≡ None)))
    go q is (inl e) =
        subst (λ u. (map.get y u ≡ map.get source u) ⊎ ((map.get y u ≡ map.get target u) ⊎ (IsTrue all × (map.get y u ≡ None)))) (sym e)
        (here how (same uid ∙ at_change uid body x))
    go q is (inr e) =
        let there : map.get y q ≡ map.get x q = same q ∙ other uid body x q e in
        one_of (h.bodies q is) (λ a. inl (there ∙ a)) (λ b. inr (one_of b (λ a. inl (there ∙ a)) (λ n. inr (n.0, there ∙ n.1))))

pub copying_same : (all : Bool) (node g : ℕ) (source target x y : Bodies) → IsCopying all node g source target x → Same y x
    → IsCopying all node g source target y
copying_same all node g source target x y h same = record {
  generation_is = ap generation_by (same (reserved_uid node)) ∙ h.generation_is;
  bodies = λ q is. one_of (h.bodies q is) (λ a. inl (same q ∙ a))
      (λ b. inr (one_of b (λ a. inl (same q ∙ a)) (λ n. inr (n.0, same q ∙ n.1))));
}

pub copying_begun : (all : Bool) (node : ℕ) (source m : Bodies) → IsCopying all node (generation_in node m) source m m
copying_begun all node source m = record { generation_is = refl; bodies = λ q is. inr (inl refl) }

clear_with : (all : Bool) (source x y : Bodies) (uid q : Uid) → Same y (bodies_after uid None x) → IsClear all source q x
    → IsClear all source q y
clear_with all source x y uid q same (inr h) = inr h
clear_with all source x y uid q same (inl h) =
    one_of (same_or_not q uid) (λ e. inl (subst (λ u. map.get y u ≡ None) (sym e) (same uid ∙ at_change uid None x)))
    (λ e. inl (same q ∙ (other uid None x q e ∙ h)))

-- 3. The loop

pub record IsClearing (tells : Bool) (layout : Layout) (all : Bool) (node : ℕ) (source old now : SideSeen)
    (next : Option Uid) : Type 0 where
  pub goes : SideGoes old now
  pub stops : (disk_of now).counts.stops ≡ (disk_of old).counts.stops
  pub ready : IsSideReady node now
  pub own : IfSome next (IsEject node)
  pub fits : IfSome next (λ uid. rank_of uid < 18446744073709551616)
  pub bears : IsTrue tells → is_in_use source ≡ true → IsAtRest layout node old
      → Bears layout node (IsCopying all node (generation_in node (bodies_on old)) (bodies_on source) (bodies_on old)) now
  pub clear : IsTrue tells → is_in_use source ≡ true → is_in_use now ≡ true
      → AllBefore node next (λ uid. IsClear all (bodies_on source) uid (bodies_on now))

pub clearing_first : (tells : Bool) (layout : Layout) (all : Bool) (node : ℕ) (source old : SideSeen) (next : Option Uid)
    → IsSideReady node old
    → IfSome next (IsEject node) → IfSome next (λ uid. rank_of uid < 18446744073709551616)
    → (IsTrue tells → is_in_use old ≡ true → IsNextOn node old None next) → IsClearing tells layout all node source old old next
clearing_first tells layout all node source old next ready own fits walk = record {
  goes = goes_none old;
  stops = refl;
  ready = ready;
  own = own;
  fits = fits;
  bears = λ so on rest. record {
    finds = maps_weaker layout node _ _ (disk_of old).told
        (λ m h. copying_same all node _ (bodies_on source) (bodies_on old) (bodies_on old) m
        (copying_begun all node (bodies_on source) (bodies_on old)) h) rest.kept;
    has = λ used. copying_begun all node (bodies_on source) (bodies_on old);
    kept = λ used. rest.kept;
  };
  clear = λ so on used. walk_first node old next (λ uid. IsClear all (bodies_on source) uid (bodies_on old)) (walk so used)
      (λ uid is none. inl none);
}

pub clearing_spared : (tells : Bool) (layout : Layout) (all : Bool) (node : ℕ) (source old now : SideSeen) (at : Uid) (next : Option Uid)
    → IsClearing tells layout all node source old now (Some at)
    → (IsTrue tells → is_in_use source ≡ true → IsClear all (bodies_on source) at (bodies_on now))
    → IfSome next (IsEject node) → IfSome next (λ uid. rank_of uid < 18446744073709551616)
    → (IsTrue tells → is_in_use now ≡ true → IsNextOn node now (Some at) next) → IsClearing tells layout all node source old now next
clearing_spared tells layout all node source old now at next l here own fits walk = record {
  goes = l.goes;
  stops = l.stops;
  ready = l.ready;
  own = own;
  fits = fits;
  bears = l.bears;
  clear = λ so on used. walk_more node now at next (λ uid. IsClear all (bodies_on source) uid (bodies_on now)) (walk so used)
      (l.clear so on used)
      (here so on) (λ uid is none. inl none);
}

-- what is removed is on its way
pub closed_removed : (all : Bool) (node g : ℕ) (source target : Bodies) (uid : Uid) (now : SideSeen) → IsEject node uid
    → (None ≡ map.get source uid) ⊎ (IsTrue all) → (is_in_use now ≡ true → IsCopying all node g source target (bodies_on now))
    → IsClosed (IsCopying all node g source target) (Some (asked uid None)) now
closed_removed all node g source target uid now own how h on m (inl same) =
    copying_same all node g source target (bodies_on now) m (h on) same
closed_removed all node g source target uid now own how h on m (inr same) =
    copying_with all node g source target (bodies_on now) m uid None own (one_of how (λ e. inl e) (λ a. inr (a, refl))) (h on) same

removed_clear : (tells : Bool) (layout : Layout) (all : Bool) (node : ℕ) (source now to : SideSeen) (at : Uid) (next : Option Uid)
    (answer : Option (Unit {0})) → SideServes {T = Unit {0}} tells layout node (Some (asked at None)) (Ok answer) now to → IsTrue tells
    → is_in_use to ≡ true → IsNextOn node to (Some at) next
    → AllBefore node (Some at) (λ uid. IsClear all (bodies_on source) uid (bodies_on now))
    → AllBefore node next (λ uid. IsClear all (bodies_on source) uid (bodies_on to))
removed_clear tells layout all node source now to at next None s so used walk h = absurd (both_ways (is_in_use to) used s.used)
removed_clear tells layout all node source now to at next (Some done) s so used walk h =
    walk_more node to at next (λ uid. IsClear all (bodies_on source) uid (bodies_on to)) walk
    (λ uid is before. clear_with all (bodies_on source) (bodies_on now) (bodies_on to) at uid (s.kept so) (h uid is before))
    (inl (s.kept so at ∙ at_change at None (bodies_on now))) (λ uid is none. inl none)

pub clearing_removed : (tells : Bool) (layout : Layout) (all : Bool) (node : ℕ) (source old now to : SideSeen) (at : Uid)
    (next : Option Uid)
    (answer : Option (Unit {0})) → IsClearing tells layout all node source old now (Some at)
    → SideServes {T = Unit {0}} tells layout node (Some (asked at None)) (Ok answer) now to
    → (IsTrue tells → is_in_use source ≡ true → (None ≡ map.get (bodies_on source) at) ⊎ (IsTrue all))
    → IfSome next (IsEject node) → IfSome next (λ uid. rank_of uid < 18446744073709551616)
    → (IsTrue tells → is_in_use to ≡ true → IsNextOn node to (Some at) next) → IsClearing tells layout all node source old to next
clearing_removed tells layout all node source old now to at next answer l s how own fits walk = record {
  goes = goes_on old now to l.goes s.goes;
  stops = s.stops ∙ l.stops;
  ready = s.ready;
  own = own;
  fits = fits;
  bears = λ so on rest.
      let b : Bears layout node (IsCopying all node (generation_in node (bodies_on old)) (bodies_on source) (bodies_on old)) now =
      l.bears so on rest in
      bears_served tells layout node (Some (asked at None)) _ answer now to s so
      (closed_removed all node (generation_in node (bodies_on old)) (bodies_on source) (bodies_on old) at now l.own (how so on) b.has)
      b.finds;
  clear = λ so on used. removed_clear tells layout all node source now to at next answer s so used (walk so used)
      (l.clear so on (s.goes.left used));
}

pub cleared_refused : (tells : Bool) (layout : Layout) (all : Bool) (node : ℕ) (source old now to : SideSeen) (at : Uid) (e : TwinRefusal)
    → IsClearing tells layout all node source old now (Some at)
    → SideServes {T = Unit {0}} tells layout node (Some (asked at None)) (Err e) now to
    → (IsTrue tells → is_in_use source ≡ true → (None ≡ map.get (bodies_on source) at) ⊎ (IsTrue all))
    → IsTrue tells → is_in_use source ≡ true → Clears {T = Unit {0}} layout all node (Err e) source old to
cleared_refused tells layout all node source old now to at e l s how so on = record {
  bore = λ rest.
      let b : Bears layout node (IsCopying all node (generation_in node (bodies_on old)) (bodies_on source) (bodies_on old)) now =
      l.bears so on rest in record {
        finds = finds_served tells layout node (Some (asked at None)) _ (Err e) now to s so
            (closed_removed all node (generation_in node (bodies_on old)) (bodies_on source) (bodies_on old) at now l.own (how so on) b.has)
            b.finds;
        bears = tt;
      };
  clear = tt;
}

pub cleared_whole : (tells : Bool) (layout : Layout) (all : Bool) (node : ℕ) (source old now : SideSeen)
    → IsClearing tells layout all node source old now None → IsTrue tells → is_in_use source ≡ true
    → Clears {T = Unit {0}} layout all node (Ok tt) source old now
cleared_whole tells layout all node source old now l so on = record {
  bore = λ rest. let b : Bears layout node (IsCopying all node (generation_in node (bodies_on old)) (bodies_on source) (bodies_on old))
      now = l.bears so on rest in
      record { finds = b.finds; bears = b };
  clear = λ used uid own. l.clear so on used uid own tt;
}

-- by whether a uid is spared
pub spared_clear : (all : Bool) (body : Option (List ℕ)) → (not all && is_some body) ≡ true → (all ≡ false) × IsTrue (is_some body)
spared_clear true body e = absurd (false≢true e)
spared_clear false body e = (refl, e)

pub removed_how : (all : Bool) (body : Option (List ℕ)) → (not all && is_some body) ≡ false → (None ≡ body) ⊎ (IsTrue all)
removed_how true body e = inr refl
removed_how false None e = inl refl
removed_how false (Some bytes) e = absurd (false≢true (sym e))

pub at_some : (tells : Bool) (layout : Layout) (all : Bool) (node : ℕ) (source old now : SideSeen) (next : Option Uid) (at : Uid)
    → next ≡ Some at
    → IsClearing tells layout all node source old now next → IsClearing tells layout all node source old now (Some at)
at_some tells layout all node source old now next at e l = subst (IsClearing tells layout all node source old now) e l

pub at_none : (tells : Bool) (layout : Layout) (all : Bool) (node : ℕ) (source old now : SideSeen) (next : Option Uid)
    → ((at : Uid) → next ≡ Some at → ⊥) → IsClearing tells layout all node source old now next
    → IsClearing tells layout all node source old now None
at_none tells layout all node source old now None f l = l
at_none tells layout all node source old now (Some at) f l = absurd (f at refl)
