-- Disks that are handed on, cut, asked for a failure, or overwritten stand for what they stood for.
use Rattle.std.proofs.Common.{◌≡◌, ◌⊎◌, inl, inr, ℕ, Bool, true, false, List, [], ◌∷◌, Option, None, Some, refl, sym, ap, subst, ◌∙◌, arith}
use Rattle.std.specs.Prelude.{◌&&◌, ◌||◌, not, IsTrue, replicate, Result, Ok, Err}
use Rattle.std.specs.FinMap as map
use Rattle.eden_disk.specs.Calls.{IsCut}
use Rattle.eden_disk.specs.Told.{Told, Contents, contents, at_rest, LeavesOnly}
use Rattle.passive_store.specs.Kept.{Kept, Layout, StoreChange, IsAnyOf}
use Rattle.eden_disk.proofs.Held.{only_now}
use Rattle.passive_store.specs.Seen.{DiskSeen, Asked}
use Rattle.twin_store.specs.Vouched.{Bodies, bodies_found, Vow, VouchBy, IsVouched}
use Rattle.twin_store.specs.VouchedLaws.{without_first, without_second}
use Rattle.twin_store.proofs.Vouching.{blank_leaves_other}
use Rattle.twin_store.specs.Footings.{Footing, Standing, Damaged, TooMuch, MayFind, IsOn, IsFooted, AreVouched}
use Rattle.twin_store.specs.Twins.{vow}
use Rattle.twin_world.specs.Disks.{ZerosKeepNothing}
use Rattle.twin_world.specs.Logs.{Pair, Texts, blanked}
use Rattle.twin_world.specs.InHand.{asked_by, Rests}
use Rattle.twin_world.specs.Places.{IsLeft}

-- 1. Power cuts

leaves-cut : (P : List ℕ → Type 0) (clock : ℕ) (old new : Told) → IsCut clock old new → LeavesOnly P (contents old)
    → LeavesOnly P (contents new)
leaves-cut P clock old new (inl c) h =
    subst (λ (t : Told). LeavesOnly P (contents t)) (sym c.2)
    (λ other l. h other (record { size = l.size ∙ c.1.size; outside = λ k off. l.outside k refl ∙ c.1.outside k off }))
leaves-cut P clock old new (inr c) h = subst (λ (t : Told). LeavesOnly P (contents t)) (sym c.1) h

footed-left : (tells : Bool) (layout : Layout) (node : ℕ) (f : Footing) (old new : DiskSeen) → IsTrue tells → IsLeft tells old new
    → IsFooted layout node f old.told → IsFooted layout node f new.told
footed-left tells layout node f old new so l h = go (l.told so)
  where
    go : (new.told ≡ old.told) ⊎ IsCut old.counts.clock old.told new.told → IsFooted layout node f new.told
    go (inl e) = subst (λ (t : Told). IsFooted layout node f t) (sym e) h
    go (inr c) = leaves-cut (IsOn layout node f) old.counts.clock old.told new.told c h

-- 2. Two disks at rest

vouched-left : (tells : Bool) (layout : Layout) (v : Vow) (a b one two : DiskSeen) → IsTrue tells → IsLeft tells a one → IsLeft tells b two
    → AreVouched layout v a.told b.told → AreVouched layout v one.told two.told
vouched-left tells layout v a b one two so l k h = record {
  first = h.first;
  second = h.second;
  first_is = footed-left tells layout v.node h.first a one so l h.first_is;
  second_is = footed-left tells layout v.node h.second b two so k h.second_is;
  vouched = h.vouched;
}

pub rests-left : (tells : Bool) (layout : Layout) (n : ℕ) (p : Pair) (m : Texts) (a b one two : DiskSeen) → IsTrue tells
    → IsLeft tells a one → IsLeft tells b two → Rests layout n p m a b → Rests layout n p m one two
rests-left tells layout n p m a b one two so l k r = record {
  down = r.down;
  bodies = r.bodies;
  texts = r.texts;
  vouching = λ sure still. let v = r.vouching sure still in record {
    own = v.own;
    vouched = vouched-left tells layout (vow n r.bodies (asked_by n p.begun) p.first_vouches p.second_vouches) a b one two so l k
        v.vouched;
  };
}

pub left-same : (tells : Bool) (d : DiskSeen) → IsLeft tells d d
left-same tells d = record { faults = refl; stops = refl; told = λ so. inl refl }

pub left-told : (tells : Bool) (a b : DiskSeen) → b.counts.faults ≡ a.counts.faults → b.counts.stops ≡ a.counts.stops → b.told ≡ a.told
    → IsLeft tells a b
left-told tells a b faults stops same = record { faults = faults; stops = stops; told = λ so. inl same }

-- 3. Blankings

-- what is found on zeros
record Zeros (layout : Layout) (node : ℕ) (told : Told) : Type 0 where
  footing : Footing
  is : IsFooted layout node footing told
  bare : (found : Result Kept ℕ) → MayFind footing found → (bodies_found found ≡ None) ⊎ (bodies_found found ≡ Some map.empty)

-- a crash leaves just the zeros
leaves-zeros : (P : List ℕ → Type 0) (image : List ℕ) (c : Contents) → c ≡ at_rest image → P image → LeavesOnly P c
leaves-zeros P image c is h = subst (LeavesOnly P) (sym is) (λ other l. subst P (sym (only_now image other l)) h)

zeros-found : (layout : Layout) (node size : ℕ) (told : Told) → ZerosKeepNothing layout → contents told ≡ at_rest (replicate size 0)
    → Zeros layout node told
zeros-found layout node size told none is = go (layout.map_of node image) refl (layout.is_overfull node image) refl
  where
    image : List ℕ
    image = replicate size 0

    go : (r : Result Kept ℕ) → layout.map_of node image ≡ r → (b : Bool) → layout.is_overfull node image ≡ b → Zeros layout node told
    go (Err place) e b o = record {
      footing = Damaged place;
      is = leaves-zeros (IsOn layout node (Damaged place)) image (contents told) is e;
      bare = λ found f. inl (ap bodies_found f);
    }
    go (Ok kept) e false o = record {
      footing = Standing kept [];
      is = leaves-zeros (IsOn layout node (Standing kept [])) image (contents told) is
          (record { found = e; opens = o; told = omega arith });
      bare = λ found f. inr (ap bodies_found f ∙ ap (λ (m : Bodies). Some m) (none node size kept e));
    }
    go (Ok kept) e true o = record {
      footing = TooMuch kept;
      is = leaves-zeros (IsOn layout node (TooMuch kept)) image (contents told) is (e, o);
      bare = λ found f. inr (ap bodies_found f ∙ ap (λ (m : Bodies). Some m) (none node size kept e));
    }

-- something may be found
any-first : (kept : Kept) (cs : List StoreChange) → IsAnyOf kept cs (Ok kept)
any-first kept [] = refl
any-first kept (c ∷ cs) = inl (any-first kept cs)

some-found : (f : Footing) → (found : Result Kept ℕ) × MayFind f found
some-found (Standing kept cs) = (Ok kept, any-first kept cs)
some-found (Damaged place) = (Err place, refl)
some-found (TooMuch kept) = (Ok kept, refl)

to-none-first : (w : Vow) (b : Bool) (m : Bodies) (y : Option Bodies) → VouchBy false b w (Some m) y → VouchBy false b w None y
to-none-first w true m y h = (h.0, tt)
to-none-first w false m y h = tt

to-none-second : (w : Vow) (a : Bool) (m : Bodies) (x : Option Bodies) → VouchBy a false w x (Some m) → VouchBy a false w x None
to-none-second w true m x h = (h.0, tt)
to-none-second w false m x h = tt

bare-first : (v : Vow) (x y found : Option Bodies) → IsVouched v x y → (found ≡ None) ⊎ (found ≡ Some map.empty)
    → IsVouched (without_first v) found y
bare-first v x y found h (inl e) =
    subst (λ o. IsVouched (without_first v) o y) (sym e)
    (to-none-first (without_first v) v.second map.empty y (blank_leaves_other v x y h).0)
bare-first v x y found h (inr e) = subst (λ o. IsVouched (without_first v) o y) (sym e) (blank_leaves_other v x y h).0

bare-second : (v : Vow) (x y found : Option Bodies) → IsVouched v x y → (found ≡ None) ⊎ (found ≡ Some map.empty)
    → IsVouched (without_second v) x found
bare-second v x y found h (inl e) =
    subst (λ o. IsVouched (without_second v) x o) (sym e)
    (to-none-second (without_second v) v.first map.empty x (blank_leaves_other v x y h).1)
bare-second v x y found h (inr e) = subst (λ o. IsVouched (without_second v) x o) (sym e) (blank_leaves_other v x y h).1

zeroed-first : (layout : Layout) (v : Vow) (a b one : DiskSeen) → Zeros layout v.node one.told → AreVouched layout v a.told b.told
    → AreVouched layout (without_first v) one.told b.told
zeroed-first layout v a b one z h = record {
  first = z.footing;
  second = h.second;
  first_is = z.is;
  second_is = h.second_is;
  vouched = λ x y fx fy.
      let some = some-found h.first in
      bare-first v (bodies_found some.0) (bodies_found y) (bodies_found x) (h.vouched some.0 y some.1 fy) (z.bare x fx);
}

zeroed-second : (layout : Layout) (v : Vow) (a b two : DiskSeen) → Zeros layout v.node two.told → AreVouched layout v a.told b.told
    → AreVouched layout (without_second v) a.told two.told
zeroed-second layout v a b two z h = record {
  first = h.first;
  second = z.footing;
  first_is = h.first_is;
  second_is = z.is;
  vouched = λ x y fx fy.
      let some = some-found h.second in
      bare-second v (bodies_found x) (bodies_found some.0) (bodies_found y) (h.vouched x some.0 fx some.1) (z.bare y fy);
}

and-false : (a : Bool) → (a && false) ≡ false
and-false true = refl
and-false false = refl

and-true : (a : Bool) → (a && true) ≡ a
and-true true = refl
and-true false = refl

not-spoiled : (a b : Bool) → (a || b) ≡ false → a ≡ false
not-spoiled true b e = absurd (cc e)
not-spoiled false b e = refl

or-true : (b : Bool) → (b || true) ≡ false → ⊥
or-true true e = cc e
or-true false e = cc e

same-vow : (layout : Layout) (n : ℕ) (held : Bodies) (c : Option Asked) (a b x y : Bool) (one two : Told) → x ≡ a → y ≡ b
    → AreVouched layout (vow n held c a b) one two → AreVouched layout (vow n held c x y) one two
same-vow layout n held c a b x y one two first second h =
    subst (λ k. AreVouched layout (vow n held c k y) one two) (sym first)
    (subst (λ k. AreVouched layout (vow n held c a k) one two) (sym second) h)

-- the first disk was overwritten
pub rests-zeroed-first : (layout : Layout) (n size : ℕ) (p : Pair) (m : Texts) (a b one : DiskSeen) → ZerosKeepNothing layout
    → contents one.told ≡ at_rest (replicate size 0) → Rests layout n p m a b → Rests layout n (blanked false false p) m one b
rests-zeroed-first layout n size p m a b one none is r = record {
  down = r.down;
  bodies = r.bodies;
  texts = r.texts;
  vouching = λ sure still.
      let v = r.vouching sure (not-spoiled p.spoiled false still) in
      record {
        own = v.own;
        vouched = same-vow layout n r.bodies (asked_by n p.begun) false p.second_vouches (p.first_vouches && false)
            (p.second_vouches && not false) one.told b.told (and-false p.first_vouches) (and-true p.second_vouches)
            (zeroed-first layout (vow n r.bodies (asked_by n p.begun) p.first_vouches p.second_vouches) a b one
            (zeros-found layout n size one.told none is) v.vouched);
      };
}

-- the second was
pub rests-zeroed-second : (layout : Layout) (n size : ℕ) (p : Pair) (m : Texts) (a b two : DiskSeen) → ZerosKeepNothing layout
    → contents two.told ≡ at_rest (replicate size 0) → Rests layout n p m a b → Rests layout n (blanked true false p) m a two
rests-zeroed-second layout n size p m a b two none is r = record {
  down = r.down;
  bodies = r.bodies;
  texts = r.texts;
  vouching = λ sure still.
      let v = r.vouching sure (not-spoiled p.spoiled false still) in
      record {
        own = v.own;
        vouched = same-vow layout n r.bodies (asked_by n p.begun) p.first_vouches false (p.first_vouches && true)
            (p.second_vouches && not true) a.told two.told (and-true p.first_vouches) (and-false p.second_vouches)
            (zeroed-second layout (vow n r.bodies (asked_by n p.begun) p.first_vouches p.second_vouches) a b two
            (zeros-found layout n size two.told none is) v.vouched);
      };
}

-- a blanking was cut short: of what is left nothing is said until the next covered opening
pub rests-spoiled : (layout : Layout) (n : ℕ) (second : Bool) (p : Pair) (m : Texts) (a b one two : DiskSeen) → Rests layout n p m a b
    → Rests layout n (blanked second true p) m one two
rests-spoiled layout n second p m a b one two r = record {
  down = r.down;
  bodies = r.bodies;
  texts = r.texts;
  vouching = λ sure still. absurd (or-true p.spoiled still);
}
