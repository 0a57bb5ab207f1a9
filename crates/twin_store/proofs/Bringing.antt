-- The second disk is brought to the first's values, and both get a generation where neither has one.
use Rattle.std.specs.Prelude.{◌≡◌, ◌⊎◌, ℕ, ◌≤◌, ◌<◌, ◌^◌, Bool, true, false, IsTrue, List, Option, Some, Result, Ok, Err}
use Rattle.std.proofs.Common.{refl, sym, ap, subst, ◌∙◌, arith, zero, suc}
use Rattle.std.specs.Int.{w32, to_be_bytes}
use Rattle.passive_store.specs.Kept.{Layout, reserved_uid}
use Rattle.passive_store.specs.Seen.{asked}
use Rattle.twin_store.specs.declared.served.TwinRefusal.{TwinRefusal}
use Rattle.twin_store.specs.Vouched.{generation_in, generation_by, Vow}
use Rattle.twin_store.specs.Sides.{SideSeen, is_in_use, bodies_on, SideGoes, SideServes}
use Rattle.twin_store.specs.Copies.{IsCopied}
use Rattle.twin_store.specs.Twins.{pair, TwinSeen, SideHas, Claims, SidesVouched, IsEven, Levels, IsBrought}
use Rattle.twin_store.proofs.Vouching.{one_of}
use Rattle.twin_store.proofs.Going.{both_ways}
use Rattle.twin_store.proofs.Siding.{sides_told}
use Rattle.twin_store.proofs.Levelling.{IsReady, AreNew, level_by, put_level, serves_at, even_at, copied_at, second_brought_over}
use Rattle.twin_store.proofs.Levelling.{second_brought_told}
use Rattle.twin_store.proofs.Levelling.{second_begun, second_begun_told, first_put, first_put_told}
use Rattle.twin_store.proofs.Agreeing.{claims_before}

-- 1. The copy

pub brought_refused : (layout : Layout) (node g : ℕ) (e : TwinRefusal) (first second to new : SideSeen) → IsEven layout node g first second
    → IsCopied {T = Unit {0}} layout false node (Err e) first second new to
    → Levels {T = Unit {0}} layout (Err e) (pair node g first second) (pair node g new to)
brought_refused layout node g e first second to new l c = record {
  steps = record {
    told = λ v k h. second_brought_told layout g v (Err e) first second to new k.own (even_at layout node g v first second k.node l)
        (copied_at layout false node v (Err e) first second new to k.node c) h;
    sides = tt;
  };
  level = tt;
}

pub brought_sides : (layout : Layout) (node g : ℕ) (first second to new : SideSeen) → IsEven layout node g first second → SideGoes first new
    → IsCopied {T = Unit {0}} layout false node (Ok tt) first second new to → (v : Vow) → Claims v (pair node g new to)
    → SidesVouched layout v first second → SidesVouched layout v new to
brought_sides layout node g first second to new l goes c v k h =
    second_brought_over layout g v tt first second to new k.own (even_at layout node g v first second k.node l) goes
    (copied_at layout false node v (Ok tt) first second new to k.node c) h

pub brought : (layout : Layout) (node g : ℕ) (first second to new : SideSeen) → IsEven layout node g first second
    → IsCopied {T = Unit {0}} layout false node (Ok tt) first second new to → IsBrought layout (pair node g new to)
brought layout node g first second to new l c = record {
  first = λ on. (
    c.source_stays.bears.kept on,
    ap (λ (x : Option (List ℕ)). generation_by x)
        (c.source_stays.bears.has on (reserved_uid node)) ∙ l.first_is,
  );
  second = λ on. (c.on_its_way.bears.kept on, (c.on_its_way.bears.has on).generation_is ∙ l.second_is);
  same = λ on on_too uid own. c.same on on_too uid own ∙ sym (c.source_stays.bears.has on uid);
}

same_within : (a g : ℕ) → a ≡ g → a ≤ g
same_within a g e = omega arith

zero_or_more : (g : ℕ) → (g ≡ 0 → ⊥) → 1 ≤ g
zero_or_more zero h = absurd (h refl)
zero_or_more (suc n) h = omega arith

-- both have a generation
pub brought_level : (layout : Layout) (node g : ℕ) (first second to new : SideSeen) → IsEven layout node g first second → SideGoes first new
    → IsCopied {T = Unit {0}} layout false node (Ok tt) first second new to → (g ≡ 0 → ⊥)
    → Levels {T = Unit {0}} layout (Ok tt) (pair node g first second) (pair node g new to)
brought_level layout node g first second to new l goes c some =
    let b : IsBrought layout (pair node g new to) = brought layout node g first second to new l c in record {
      steps = record {
        told = λ v k h. sides_told layout v new to (brought_sides layout node g first second to new l goes c v k h);
        sides = λ v k h. brought_sides layout node g first second to new l goes c v k h;
      };
      level = level_by layout node g new to
          (λ on. ((b.first on).0, same_within (generation_in node (bodies_on new)) g (b.first on).1))
          (λ on. ((b.second on).0, same_within (generation_in node (bodies_on to)) g (b.second on).1))
          (λ on on_too. (b.same on on_too, (b.first on).1, (b.second on_too).1, zero_or_more g some));
    }

-- what comes behind it
pub brought_on : (layout : Layout) (node g : ℕ) (r : Result (Unit {0}) TwinRefusal) (first second to new : SideSeen) (end : TwinSeen)
    → IsEven layout node g first second → SideGoes first new → IsCopied {T = Unit {0}} layout false node (Ok tt) first second new to
    → end.node ≡ node → SideGoes new end.first → SideGoes to end.second
    → Levels layout r (pair node g new to) end → Levels layout r (pair node g first second) end
brought_on layout node g (Ok done) first second to new end l goes c e f s b = record {
  steps = record {
    told = λ v k h. b.steps.told v k
        (brought_sides layout node g first second to new l goes c v (claims_before v (pair node g new to) end e f s k) h);
    sides = λ v k h. b.steps.sides v k
        (brought_sides layout node g first second to new l goes c v (claims_before v (pair node g new to) end e f s k) h);
  };
  level = b.level;
}
brought_on layout node g (Err x) first second to new end l goes c e f s b = record {
  steps = record {
    told = λ v k h. b.steps.told v k
        (brought_sides layout node g first second to new l goes c v (claims_before v (pair node g new to) end e f s k) h);
    sides = tt;
  };
  level = tt;
}

-- 2. The first generation

module _ (tells : Bool) (layout : Layout) (node : ℕ) (so : IsTrue tells) (a b : SideSeen) (h : IsBrought layout (pair node 0 a b)) where
  -- a disk has left use
  pub begun_without : (is_in_use a ≡ false) ⊎ (is_in_use b ≡ false)
      → Levels {T = Unit {0}} layout (Ok tt) (pair node 0 a b) (pair node 0 a b)
  begun_without off = record {
    steps = record { told = λ v k s. sides_told layout v a b s; sides = λ v k s. s };
    level = level_by layout node 0 a b
        (λ on. ((h.first on).0, same_within (generation_in node (bodies_on a)) 0 (h.first on).1))
        (λ on. ((h.second on).0, same_within (generation_in node (bodies_on b)) 0 (h.second on).1))
        (λ on on_too. absurd (one_of off (λ x. both_ways (is_in_use a) on x) (λ x. both_ways (is_in_use b) on_too x)));
  }

  new_at : is_in_use a ≡ true → is_in_use b ≡ true → (v : Vow) → v.node ≡ node → AreNew v.node a b
  new_at on on_too v e = subst (λ k. AreNew k a b) (sym e) (record {
    first_used = on;
    second_used = on_too;
    first_is = (h.first on).1;
    second_is = (h.second on_too).1;
    same = h.same on on_too;
  })

  module _ (on : is_in_use a ≡ true) (on_too : is_in_use b ≡ true) where
    pub begun_refused : (e : TwinRefusal) (to : SideSeen)
        → SideServes {T = Unit {0}} tells layout node (Some (asked (reserved_uid node) (Some (to_be_bytes w32 1)))) (Err e) b to
        → Levels {T = Unit {0}} layout (Err e) (pair node 0 a b) (pair node 1 a to)
    begun_refused e to s = record {
      steps = record {
        told = λ v k w. second_begun_told tells layout v e a b to (serves_at tells layout node 1 v (Err e) b to k.node s) so
            (new_at on on_too v k.node) w;
        sides = tt;
      };
      level = tt;
    }

    module _ (answer : Option (Unit {0})) (to : SideSeen)
        (s : SideServes {T = Unit {0}} tells layout node (Some (asked (reserved_uid node) (Some (to_be_bytes w32 1)))) (Ok answer) b
        to) where
      sides : (v : Vow) → v.node ≡ node → SidesVouched layout v a b → SidesVouched layout v a to
      sides v e w = second_begun tells layout v answer a b to (serves_at tells layout node 1 v (Ok answer) b to e s) so
          (new_at on on_too v e) w

      one_small : 1 < 2 ^ 32
      one_small = omega arith

      has : is_in_use to ≡ true → SideHas layout node 1 (bodies_on b) to
      has used = put_level tells layout node 1 answer b to one_small s so used

      first_within : (is : ℕ) → is ≡ 0 → is ≤ 1
      first_within is e = omega arith

      -- the second has left use
      pub begun_alone : is_in_use to ≡ false → Levels {T = Unit {0}} layout (Ok tt) (pair node 0 a b) (pair node 1 a to)
      begun_alone off = record {
        steps = record { told = λ v k w. sides_told layout v a to (sides v k.node w); sides = λ v k w. sides v k.node w };
        level = level_by layout node 1 a to (λ used. ((h.first on).0, first_within (generation_in node (bodies_on a)) (h.first on).1))
            (λ used. absurd (both_ways (is_in_use to) used off)) (λ used used_too. absurd (both_ways (is_in_use to) used_too off));
      }

      ready : is_in_use to ≡ true → (v : Vow) → v.node ≡ node → IsReady v.node 1 a to
      ready used v e = subst (λ k. IsReady k 1 a to) (sym e) (record {
        right_used = used;
        is = (has used).generation_is;
        less = λ x. first_less (generation_in node (bodies_on a)) (h.first on).1;
        same = λ x uid own. sym ((has used).same uid own ∙ h.same on on_too uid own);
      })
        where
          first_less : (is : ℕ) → is ≡ 0 → is < 1
          first_less is e = omega arith

      pub begun_unput : (e : TwinRefusal) (behind : SideSeen) → is_in_use to ≡ true
          → SideServes {T = Unit {0}} tells layout node (Some (asked (reserved_uid node) (Some (to_be_bytes w32 1)))) (Err e) a behind
          → Levels {T = Unit {0}} layout (Err e) (pair node 0 a b) (pair node 1 behind to)
      begun_unput e behind used p = record {
        steps = record {
          told = λ v k w. first_put_told tells layout v 1 e a to behind one_small
              (serves_at tells layout node 1 v (Err e) a behind k.node p) so
              (ready used v k.node) (sides v k.node w);
          sides = tt;
        };
        level = tt;
      }

      pub begun_both : (last : Option (Unit {0})) (behind : SideSeen) → is_in_use to ≡ true
          → SideServes {T = Unit {0}} tells layout node (Some (asked (reserved_uid node) (Some (to_be_bytes w32 1)))) (Ok last) a behind
          → Levels {T = Unit {0}} layout (Ok tt) (pair node 0 a b) (pair node 1 behind to)
      begun_both last behind used p = record {
        steps = record { told = λ v k w. sides_told layout v behind to (both v k.node w); sides = λ v k w. both v k.node w };
        level = level_by layout node 1 behind to
            (λ x. let f : SideHas layout node 1 (bodies_on a) behind = put_level tells layout node 1 last a behind one_small p so x in
            (f.kept, same_within (generation_in node (bodies_on behind)) 1 f.generation_is))
            (λ x. ((has used).kept, same_within (generation_in node (bodies_on to)) 1 (has used).generation_is))
            (λ x y. let f : SideHas layout node 1 (bodies_on a) behind = put_level tells layout node 1 last a behind one_small p so x in (
              λ uid own. (has used).same uid own
                  ∙ (h.same on on_too uid own ∙ sym (f.same uid own)),
              f.generation_is,
              (has used).generation_is,
              omega arith,
            ));
      }
        where
          both : (v : Vow) → v.node ≡ node → SidesVouched layout v a b → SidesVouched layout v behind to
          both v e w = first_put tells layout v 1 last a to behind one_small (serves_at tells layout node 1 v (Ok last) a behind e p) so
              (ready used v e) (sides v e w)
