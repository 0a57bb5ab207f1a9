-- The disk of the greater generation is right, and at equal ones the first.
use Rattle.std.specs.Prelude.{◌≡◌, ◌⊎◌, ℕ, ◌≤◌, ◌<◌, unwrap_or, true, false, Option, None, Some, Result, Ok, Err}
use Rattle.std.proofs.Common.{sym, subst, ◌∙◌, arith}
use Rattle.std.proofs.Math.Nat.{max-eq_left, max-eq_right, le-max_left, le-max_right}
use Rattle.passive_store.specs.Kept.{Layout}
use Rattle.twin_store.specs.declared.served.TwinRefusal.{TwinRefusal}
use Rattle.twin_store.specs.Vouched.{generation_in}
use Rattle.twin_store.specs.Sides.{SideSeen, is_in_use, bodies_on, SideGoes}
use Rattle.twin_store.specs.Twins.{TwinSeen, IsUsedBy, IsGenerationOf, AreAtRest, AreRead, ReadsBoth, IsLess, IsEven, Levels}
use Rattle.twin_store.proofs.Vouching.{one_of}
use Rattle.twin_store.proofs.Going.{both_ways}
use Rattle.twin_store.proofs.Agreeing.{claims_before}

within_by : (a b c : ℕ) → a ≡ b → b ≤ c → a ≤ c
within_by a b c e h = omega (arith, e, h)

below_by : (a b n m : ℕ) → n ≡ a → m ≡ b → n < m → a < b
below_by a b n m p q h = omega (arith, p, q, h)

at_most : (n m : ℕ) → n < m → n ≤ m
at_most n m h = omega (arith, h)

tied : (n m : ℕ) → m ≤ n → n ≤ m → n ≡ m
tied n m f g = omega (arith, f, g)

pub levels_unread : (layout : Layout) (e : TwinRefusal) (old new : TwinSeen) → ReadsBoth layout (Err e) old new
    → Levels {T = Unit {0}} layout (Err e) old new
levels_unread layout e old new r = record { steps = record { told = r.steps.told; sides = tt }; level = tt }

pub levels_on : (layout : Layout) (first second : Option ℕ) (r : Result (Unit {0}) TwinRefusal) (old mid new : TwinSeen)
    → new.node ≡ mid.node
    → SideGoes mid.first new.first → SideGoes mid.second new.second → ReadsBoth layout (Ok (first, second)) old mid
    → Levels layout r mid new → Levels layout r old new
levels_on layout first second (Ok done) old mid new e f s r l = record {
  steps = record {
    told = λ v c h. l.steps.told v c (r.steps.sides v (claims_before v mid new e f s c) h);
    sides = λ v c h. l.steps.sides v c (r.steps.sides v (claims_before v mid new e f s c) h);
  };
  level = l.level;
}
levels_on layout first second (Err x) old mid new e f s r l = record {
  steps = record {
    told = λ v c h. l.steps.told v c (r.steps.sides v (claims_before v mid new e f s c) h);
    sides = tt;
  };
  level = tt;
}

pub first_less : (layout : Layout) (n m : ℕ) (mid : TwinSeen) → AreAtRest layout mid → AreRead mid (Some n) (Some m) → n < m
    → IsLess layout mid.node mid.generation mid.first mid.second
first_less layout n m mid rest r less = record {
  lesser_rests = record { used = r.first_used; kept = (rest.first r.first_used).0 };
  right_rests = record { used = r.second_used; kept = (rest.second r.second_used).0 };
  sound = (rest.second r.second_used).1;
  less = below_by (generation_in mid.node (bodies_on mid.first)) (generation_in mid.node (bodies_on mid.second)) n m
      r.first_is r.second_is less;
  greatest = sym r.second_is ∙ sym (r.greatest ∙ max-eq_right (at_most n m less));
}

pub second_less : (layout : Layout) (n m : ℕ) (mid : TwinSeen) → AreAtRest layout mid → AreRead mid (Some n) (Some m) → m < n
    → IsLess layout mid.node mid.generation mid.second mid.first
second_less layout n m mid rest r less = record {
  lesser_rests = record { used = r.second_used; kept = (rest.second r.second_used).0 };
  right_rests = record { used = r.first_used; kept = (rest.first r.first_used).0 };
  sound = (rest.first r.first_used).1;
  less = below_by (generation_in mid.node (bodies_on mid.second)) (generation_in mid.node (bodies_on mid.first)) m n
      r.second_is r.first_is less;
  greatest = sym r.first_is ∙ sym (r.greatest ∙ max-eq_left (at_most m n less));
}

pub both_even : (layout : Layout) (n m : ℕ) (mid : TwinSeen) → AreAtRest layout mid → AreRead mid (Some n) (Some m) → m ≤ n
    → n ≤ m
    → IsEven layout mid.node mid.generation mid.first mid.second
both_even layout n m mid rest r f g = let same : n ≡ m = tied n m f g in
    let first : mid.generation ≡ n = r.greatest ∙ max-eq_left (within_by m n n (sym same) (at_most_same n)) in record {
      first_rests = record { used = r.first_used; kept = (rest.first r.first_used).0 };
      second_rests = record { used = r.second_used; kept = (rest.second r.second_used).0 };
      sound = (rest.first r.first_used).1;
      first_is = sym r.first_is ∙ sym first;
      second_is = sym r.second_is ∙ sym same ∙ sym first;
    }
  where
    at_most_same : (n : ℕ) → n ≤ n
    at_most_same n = omega arith

-- where one disk is out of use
read_within : (answer : Option ℕ) (node g : ℕ) (side : SideSeen) → IsUsedBy answer side → IsGenerationOf node answer side
    → unwrap_or answer 0 ≤ g → is_in_use side ≡ true → generation_in node (bodies_on side) ≤ g
read_within None node g side used is le on = absurd (both_ways (is_in_use side) on used)
read_within (Some n) node g side used is le on = within_by (generation_in node (bodies_on side)) n g (sym is) le

pub level_alone : (layout : Layout) (first second : Option ℕ) (old mid : TwinSeen) → ReadsBoth layout (Ok (first, second)) old mid
    → (is_in_use mid.first ≡ false) ⊎ (is_in_use mid.second ≡ false) → Levels {T = Unit {0}} layout (Ok tt) old mid
level_alone layout first second old mid r off = record {
  steps = record { told = r.steps.told; sides = r.steps.sides };
  level = record {
    first = λ on. (
      (r.rest.first on).0,
      read_within first mid.node mid.generation mid.first r.read.first_used r.read.first_is
          (subst (λ k. unwrap_or first 0 ≤ k) (sym r.read.greatest) (le-max_left (unwrap_or first 0) (unwrap_or second 0))) on,
    );
    second = λ on. (
      (r.rest.second on).0,
      read_within second mid.node mid.generation mid.second r.read.second_used r.read.second_is
          (subst (λ k. unwrap_or second 0 ≤ k) (sym r.read.greatest) (le-max_right (unwrap_or first 0) (unwrap_or second 0))) on,
    );
    both = λ on on_too. absurd (one_of off (λ x. both_ways (is_in_use mid.first) on x) (λ x. both_ways (is_in_use mid.second) on_too x));
  };
}
