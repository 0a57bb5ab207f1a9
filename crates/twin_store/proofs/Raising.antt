-- A disk of a pair gets a generation.
use Rattle.std.specs.Prelude.{◌≡◌, ◌⊎◌, ℕ, ◌+◌, ◌<◌, ◌^◌, Bool, true, false, IsTrue, is_some, List, Option, None, Some}
use Rattle.std.specs.Prelude.{Result, Ok, Err}
use Rattle.std.proofs.Common.{refl, sym, ap, subst, ◌∙◌, inl, inr, arith}
use Rattle.std.specs.FinMap as map
use Rattle.std.specs.Int.{w32, to_be_bytes}
use Rattle.std.proofs.lemmas.Bool.{false≢true}
use Rattle.passive_store.specs.Kept.{Layout, reserved_uid, bodies_after}
use Rattle.passive_store.specs.Seen.{asked}
use Rattle.twin_store.specs.declared.served.TwinRefusal.{TwinRefusal}
use Rattle.twin_store.specs.declared.served.TwinRefusal.TheVariants.{Lost, Stopped, Full, GenerationsSpent, OutOfMemory}
use Rattle.twin_store.specs.Vouched.{Bodies, SameEjects, generation_in, generation_by}
use Rattle.twin_store.specs.Footings.{Finds, IsMapped}
use Rattle.twin_store.specs.Serving.{IsPassedOn, Same}
use Rattle.twin_store.specs.Sides.{SideSeen, is_in_use, disk_of, bodies_on, IsKept, SideServes, Bore}
use Rattle.twin_store.specs.Copies.{IsAtRest, IsAlike, BeginsFilling}
use Rattle.twin_store.specs.Twins.{Raises, IsRaised, SideHas, ReadsGeneration}
use Rattle.twin_store.proofs.Going.{both_ways, goes_none}
use Rattle.twin_store.proofs.Finding.{maps_weaker, may_keep_either, may_keep_same, same_alike, same_on, same_back, generation_put}
use Rattle.twin_store.proofs.Finding.{ejects_stay}

pub not_lost : (e : TwinRefusal) → IsPassedOn e → e ≡ Lost → ⊥
not_lost Lost (inl p) is = cc
not_lost Lost (inr (inl p)) is = cc
not_lost Lost (inr (inr p)) is = cc
not_lost Stopped p is = cc
not_lost Full p is = cc
not_lost GenerationsSpent p is = cc
not_lost OutOfMemory p is = cc

pub not_spent : (e : TwinRefusal) → IsPassedOn e → e ≡ GenerationsSpent → ⊥
not_spent GenerationsSpent (inl p) is = cc
not_spent GenerationsSpent (inr (inl p)) is = cc
not_spent GenerationsSpent (inr (inr p)) is = cc
not_spent Stopped p is = cc
not_spent Full p is = cc
not_spent Lost p is = cc
not_spent OutOfMemory p is = cc

pub lost_spent : Lost ≡ GenerationsSpent → ⊥
lost_spent is = cc

-- there is a next generation
not_last : (generation n : ℕ) → n ≡ generation + 1 → n < 2 ^ 32 → generation ≡ 4294967295 → ⊥
not_last generation n next small last = omega arith

spent_lost : GenerationsSpent ≡ Lost → ⊥
spent_lost is = cc

-- 1. What is put as a generation

-- behind a put of a number the Ejects are the same, and the number is the generation
numbered : (node n : ℕ) (old m : Bodies) → n < 2 ^ 32 → Same m (bodies_after (reserved_uid node) (Some (to_be_bytes w32 n)) old)
    → SameEjects node m old × (generation_in node m ≡ n)
numbered node n old m small same = (
  λ uid own. same uid ∙ ejects_stay node (Some (to_be_bytes w32 n)) old uid own,
  ap generation_by (same (reserved_uid node)) ∙ generation_put node n old small,
)

raised_by : (node n : ℕ) (old m : Bodies) → n < 2 ^ 32
    → Same m old ⊎ Same m (bodies_after (reserved_uid node) (Some (to_be_bytes w32 n)) old) → IsRaised node n old m
raised_by node n old m small (inl same) =
    let a : IsAlike node old m = same_alike node m old same in record { same = a.same; generation_is = inl a.generation_is }
raised_by node n old m small (inr same) =
    let p : SameEjects node m old × (generation_in node m ≡ n) =
    numbered node n old m small same in record { same = p.0; generation_is = inr p.1 }

pub leaves_raised : {T : Type 0} (tells : Bool) (layout : Layout) (node n : ℕ) (r : Result (Option T) TwinRefusal) (old new : SideSeen)
    → n < 2 ^ 32
    → SideServes {T = T} tells layout node (Some (asked (reserved_uid node) (Some (to_be_bytes w32 n)))) r old new → IsTrue tells
    → is_in_use old ≡ true → Finds layout node (IsMapped (IsRaised node n (bodies_on old))) (disk_of new).told
leaves_raised tells layout node n r old new small s so on =
    maps_weaker layout node _ _ (disk_of new).told
    (λ m h. raised_by node n (bodies_on old) m small
    (may_keep_either r (Some (asked (reserved_uid node) (Some (to_be_bytes w32 n)))) (bodies_on old) m h))
    (s.leaves so on)

pub has_raised : {T : Type 0} (tells : Bool) (layout : Layout) (node n : ℕ) (done : T) (old new : SideSeen) → n < 2 ^ 32
    → SideServes {T = T} tells layout node (Some (asked (reserved_uid node) (Some (to_be_bytes w32 n)))) (Ok (Some done)) old new
    → IsTrue tells
    → SideHas layout node n (bodies_on old) new
has_raised tells layout node n done old new small s so =
    let p : SameEjects node (bodies_on new) (bodies_on old) × (generation_in node (bodies_on new) ≡ n) =
    numbered node n (bodies_on old) (bodies_on new) small (s.kept so) in
    record {
      same = p.0;
      generation_is = p.1;
      kept = maps_weaker layout node _ _ (disk_of new).told (λ m h. same_on m _ (bodies_on new) h (same_back (bodies_on new) _ (s.kept so)))
          (s.leaves so (s.goes.left s.used));
    }

-- 2. The next generation

pub raise_out : (tells : Bool) (layout : Layout) (node generation : ℕ) (side : SideSeen) → is_in_use side ≡ false
    → Raises tells layout node generation (Err Lost) side side
raise_out tells layout node generation side off = record {
  goes = goes_none side;
  stops = refl;
  ready = tt;
  used = tt;
  next = tt;
  small = tt;
  lost = λ is. off;
  spent = (λ is. absurd (lost_spent is), λ q. absurd (both_ways (is_in_use side) q.1 off));
  leaves = λ so on. absurd (both_ways (is_in_use side) on off);
  has = λ so. tt;
}

pub raise_spent : (tells : Bool) (layout : Layout) (node generation : ℕ) (side : SideSeen) → is_in_use side ≡ true
    → generation ≡ 4294967295
    → Raises tells layout node generation (Err GenerationsSpent) side side
raise_spent tells layout node generation side on is_last = record {
  goes = goes_none side;
  stops = refl;
  ready = tt;
  used = tt;
  next = tt;
  small = tt;
  lost = λ is. absurd (spent_lost is);
  spent = (λ is. (is_last, on), λ q. refl);
  leaves = λ so on kept. maps_weaker layout node _ _ (disk_of side).told
      (λ m h. let a : IsAlike node (bodies_on side) m = same_alike node m (bodies_on side) h in
      record { same = a.same; generation_is = inl a.generation_is }) kept;
  has = λ so. tt;
}

pub raise_refused : (tells : Bool) (layout : Layout) (node generation n : ℕ) (e : TwinRefusal) (old new : SideSeen) → n ≡ generation + 1
    → n < 2 ^ 32
    → SideServes {T = Unit {0}} tells layout node (Some (asked (reserved_uid node) (Some (to_be_bytes w32 n)))) (Err e) old new
    → Raises tells layout node generation (Err e) old new
raise_refused tells layout node generation n e old new next small s = record {
  goes = s.goes;
  stops = s.stops;
  ready = tt;
  used = tt;
  next = tt;
  small = tt;
  lost = λ is. absurd (not_lost e s.only is);
  spent = (λ is. absurd (not_spent e s.only is), λ q. absurd (not_last generation n next small q.0));
  leaves = λ so on kept. subst (λ k. Finds layout node (IsMapped (IsRaised node k (bodies_on old))) (disk_of new).told) next
      (leaves_raised tells layout node n (Err e) old new small s so on);
  has = λ so. tt;
}

pub raise_failed : (tells : Bool) (layout : Layout) (node generation n : ℕ) (old new : SideSeen) → n ≡ generation + 1 → n < 2 ^ 32
    → SideServes {T = Unit {0}} tells layout node (Some (asked (reserved_uid node) (Some (to_be_bytes w32 n)))) (Ok None) old new
    → Raises tells layout node generation (Err Lost) old new
raise_failed tells layout node generation n old new next small s = record {
  goes = s.goes;
  stops = s.stops;
  ready = tt;
  used = tt;
  next = tt;
  small = tt;
  lost = λ is. s.used;
  spent = (λ is. absurd (lost_spent is), λ q. absurd (both_ways (is_in_use new) q.1 s.used));
  leaves = λ so on kept. subst (λ k. Finds layout node (IsMapped (IsRaised node k (bodies_on old))) (disk_of new).told) next
      (leaves_raised tells layout node n (Ok None) old new small s so on);
  has = λ so. tt;
}

pub raised : (tells : Bool) (layout : Layout) (node generation n : ℕ) (done : Unit {0}) (old new : SideSeen) → n ≡ generation + 1
    → n < 2 ^ 32
    → SideServes {T = Unit {0}} tells layout node (Some (asked (reserved_uid node) (Some (to_be_bytes w32 n)))) (Ok (Some done)) old new
    → Raises tells layout node generation (Ok n) old new
raised tells layout node generation n done old new next small s = record {
  goes = s.goes;
  stops = s.stops;
  ready = s.ready;
  used = s.used;
  next = next;
  small = omega (arith, small);
  lost = tt;
  spent = λ q. not_last generation n next small q.0;
  leaves = λ so on kept. subst (λ k. Finds layout node (IsMapped (IsRaised node k (bodies_on old))) (disk_of new).told) next
      (leaves_raised tells layout node n (Ok (Some done)) old new small s so on);
  has = λ so. has_raised tells layout node n done old new small s so;
}

-- 3. A look at the generation

pub stays_bore : {T U : Type 0} (tells : Bool) (layout : Layout) (node : ℕ) (answer : Option T) (value : U) (old new : SideSeen)
    → SideServes {T = T} tells layout node None (Ok answer) old new → IsTrue tells → is_in_use old ≡ true
    → Bore {T = U} layout node (λ m. Same m (bodies_on old)) (Ok value) new
stays_bore {T} tells layout node (Some found) value old new s so on =
    let finds : Finds layout node (IsMapped (λ m. Same m (bodies_on old))) (disk_of new).told = s.leaves so on in record {
      finds = finds;
      bears = record {
        finds = finds;
        has = λ used. s.kept so;
        kept = λ used. maps_weaker layout node _ _ (disk_of new).told
            (λ m h. same_on m (bodies_on old) (bodies_on new) h (same_back (bodies_on new) (bodies_on old) (s.kept so))) finds;
      };
    }
stays_bore {T} tells layout node None value old new s so on =
    let finds : Finds layout node (IsMapped (λ m. Same m (bodies_on old))) (disk_of new).told =
    maps_weaker layout node _ _ (disk_of new).told (λ m h. may_keep_same {T = T} (Ok None) (bodies_on old) m h) (s.leaves so on) in
    record {
      finds = finds;
      bears = record {
        finds = finds;
        has = λ used. absurd (both_ways (is_in_use new) used s.used);
        kept = λ used. absurd (both_ways (is_in_use new) used s.used);
      };
    }

pub stays_refused : {T U : Type 0} (tells : Bool) (layout : Layout) (node : ℕ) (e : TwinRefusal) (old new : SideSeen)
    → SideServes {T = T} tells layout node None (Err e) old new → IsTrue tells → is_in_use old ≡ true
    → Bore {T = U} layout node (λ m. Same m (bodies_on old)) (Err e) new
stays_refused {T} tells layout node e old new s so on = record {
  finds = maps_weaker layout node _ _ (disk_of new).told (λ m h. may_keep_same {T = T} (Err e) (bodies_on old) m h) (s.leaves so on);
  bears = tt;
}

pub read_refused : (tells : Bool) (layout : Layout) (node : ℕ) (e : TwinRefusal) (old new : SideSeen)
    → SideServes {T = Option (List ℕ)} tells layout node None (Err e) old new → ReadsGeneration tells layout node (Err e) old new
read_refused tells layout node e old new s = record {
  moves = record { only = s.only; goes = s.goes; stops = s.stops; ready = tt };
  used = tt;
  kept = λ so on. stays_refused tells layout node e old new s so on;
  is = λ so. tt;
}

pub read_away : (tells : Bool) (layout : Layout) (node : ℕ) (old new : SideSeen)
    → SideServes {T = Option (List ℕ)} tells layout node None (Ok None) old new → ReadsGeneration tells layout node (Ok None) old new
read_away tells layout node old new s = record {
  moves = record { only = tt; goes = s.goes; stops = s.stops; ready = s.ready };
  used = s.used;
  kept = λ so on. stays_bore tells layout node None None old new s so on;
  is = λ so. tt;
}

pub read_there : (tells : Bool) (layout : Layout) (node n : ℕ) (found : Option (List ℕ)) (old new : SideSeen)
    → SideServes {T = Option (List ℕ)} tells layout node None (Ok (Some found)) old new
    → (IsTrue tells → is_in_use old ≡ true → found ≡ map.get (bodies_on old) (reserved_uid node)) → n ≡ generation_by found
    → ReadsGeneration tells layout node (Ok (Some n)) old new
read_there tells layout node n found old new s get is = record {
  moves = record { only = tt; goes = s.goes; stops = s.stops; ready = s.ready };
  used = s.used;
  kept = λ so on. stays_bore tells layout node (Some found) (Some n) old new s so on;
  is = λ so. is ∙ (ap generation_by (get so (s.goes.left s.used)) ∙ sym (ap generation_by (s.kept so (reserved_uid node))));
}

-- 4. A disk that is to be filled

alike_by : (node n : ℕ) (old m : Bodies) → n < 2 ^ 32 → n ≡ generation_in node old
    → Same m old ⊎ Same m (bodies_after (reserved_uid node) (Some (to_be_bytes w32 n)) old) → IsAlike node old m
alike_by node n old m small is (inl same) = same_alike node m old same
alike_by node n old m small is (inr same) =
    let p : SameEjects node m old × (generation_in node m ≡ n) =
    numbered node n old m small same in record { same = p.0; generation_is = p.1 ∙ is }

none_is_zero : (node : ℕ) (m : Bodies) → is_some (map.get m (reserved_uid node)) ≡ false → 0 ≡ generation_in node m
none_is_zero node m none = go (map.get m (reserved_uid node)) none
  where
    go : (body : Option (List ℕ)) → is_some body ≡ false → 0 ≡ generation_by body
    go None e = refl
    go (Some bytes) e = absurd (false≢true (sym e))

zero_small : 0 < 2 ^ 32
zero_small = omega arith

pub begin_there : (tells : Bool) (layout : Layout) (node : ℕ) (side : SideSeen) → BeginsFilling {T = Unit {0}} layout node (Ok tt) side side
begin_there tells layout node side = record {
  bore = λ rest. let finds : Finds layout node (IsMapped (IsAlike node (bodies_on side))) (disk_of side).told =
      maps_weaker layout node _ _ (disk_of side).told (λ m h. same_alike node m (bodies_on side) h) rest.kept in record {
        finds = finds;
        bears = record { finds = finds; has = λ on. record { same = λ uid own. refl; generation_is = refl }; kept = λ on. rest.kept };
      };
}

pub begin_served : (tells : Bool) (layout : Layout) (node : ℕ) (answer : Option (Unit {0})) (old new : SideSeen)
    → SideServes {T = Unit {0}} tells layout node (Some (asked (reserved_uid node) (Some (to_be_bytes w32 0)))) (Ok answer) old new
    → IsTrue tells
    → (is_in_use old ≡ true → is_some (map.get (bodies_on old) (reserved_uid node)) ≡ false)
    → BeginsFilling {T = Unit {0}} layout node (Ok tt) old new
begin_served tells layout node answer old new s so none = record { bore = λ rest. go answer s rest }
  where
    go : (answer : Option (Unit {0}))
        → SideServes {T = Unit {0}} tells layout node (Some (asked (reserved_uid node) (Some (to_be_bytes w32 0)))) (Ok answer) old new
        → IsAtRest layout node old → Bore {T = Unit {0}} layout node (IsAlike node (bodies_on old)) (Ok tt) new
    go answer s rest =
        let finds : Finds layout node (IsMapped (IsAlike node (bodies_on old))) (disk_of new).told =
        maps_weaker layout node _ _ (disk_of new).told
        (λ m h. alike_by node 0 (bodies_on old) m zero_small (none_is_zero node (bodies_on old) (none rest.used))
        (may_keep_either {T = Unit {0}} (Ok answer) (Some (asked (reserved_uid node) (Some (to_be_bytes w32 0)))) (bodies_on old) m h))
        (s.leaves so rest.used) in
        record { finds = finds; bears = record { finds = finds; has = λ on. has answer s rest on; kept = λ on. kept answer s rest on } }
      where
        has : (answer : Option (Unit {0}))
            → SideServes {T = Unit {0}} tells layout node (Some (asked (reserved_uid node) (Some (to_be_bytes w32 0)))) (Ok answer) old new
            → IsAtRest layout node old → is_in_use new ≡ true → IsAlike node (bodies_on old) (bodies_on new)
        has None s rest on = absurd (both_ways (is_in_use new) on s.used)
        has (Some done) s rest on = alike_by node 0 (bodies_on old) (bodies_on new) zero_small
            (none_is_zero node (bodies_on old) (none rest.used)) (inr (s.kept so))

        kept : (answer : Option (Unit {0}))
            → SideServes {T = Unit {0}} tells layout node (Some (asked (reserved_uid node) (Some (to_be_bytes w32 0)))) (Ok answer) old new
            → IsAtRest layout node old → is_in_use new ≡ true → IsKept layout node new
        kept None s rest on = absurd (both_ways (is_in_use new) on s.used)
        kept (Some done) s rest on = (has_raised tells layout node 0 done old new zero_small s so).kept

pub begin_refused : (tells : Bool) (layout : Layout) (node : ℕ) (e : TwinRefusal) (old new : SideSeen)
    → SideServes {T = Unit {0}} tells layout node (Some (asked (reserved_uid node) (Some (to_be_bytes w32 0)))) (Err e) old new
    → IsTrue tells
    → (is_in_use old ≡ true → is_some (map.get (bodies_on old) (reserved_uid node)) ≡ false)
    → BeginsFilling {T = Unit {0}} layout node (Err e) old new
begin_refused tells layout node e old new s so none = record {
  bore = λ rest. record {
    finds = maps_weaker layout node _ _ (disk_of new).told
        (λ m h. alike_by node 0 (bodies_on old) m zero_small (none_is_zero node (bodies_on old) (none rest.used))
        (may_keep_either {T = Unit {0}} (Err e) (Some (asked (reserved_uid node) (Some (to_be_bytes w32 0)))) (bodies_on old) m h))
        (s.leaves so rest.used);
    bears = tt;
  };
}
