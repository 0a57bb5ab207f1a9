-- A text or a list that grows behind its own value.
use Rattle.std.proofs.Common.{◌≡◌, ℕ, ◌+◌, ◌-◌, ◌<◌, ◌≤◌, Bool, true, false, ◌++◌, refl, ap, sym, ◌∙◌, arith}
use Rattle.std.proofs.Common.{List, [], ◌∷◌, length, Option, None, Some, Ok, Err, nat_lt, nat_le, length-append, cond}
use Rattle.std.specs.Prelude.{max, ◌||◌}
use Rattle.std.specs.List.{list_any}
use Rattle.std.specs.Option.{option_map}
use Rattle.std.proofs.lemmas.Bool.Decides.{nat_tests}
use Rattle.eden_value.specs.Datum.{Datum, text, list, items_of, data_of}
use Rattle.eden_value.specs.Limits.{depth, depth_of}
use Rattle.eden_value.specs.View.{datums}
use Rattle.eden_value.specs.declared.value.Value.{Value}
use Rattle.eden_value.specs.declared.value.TheConstants.{TEXT_LIMIT, LIST_LIMIT, DEPTH_LIMIT}
use Rattle.eden_model.specs.Map.{with_item}
use Rattle.epl_syntax.specs.declared.effect.FaultCause.TheVariants as fault
use Rattle.epl_syntax.specs.Memory.{Memory, Held, is_called, held_as, value_as, put_into, set}
use Rattle.epl_syntax.specs.Operators.{found, joined, list_of, text_of}
use Rattle.epl_values.specs.Comes.{setting}
use Rattle.epl_values.specs.Variables.{value_as_named}
use Rattle.epl_values.proofs.Operands.{listed, length_datums}

-- ---- whether lists may be joined
joined_is : (a b : List Datum) → joined (list (data_of a)) (list (data_of b)) ≡ list_of (a ++ b)
joined_is a b = ap (λ x. list_of (x ++ items_of (data_of b))) (listed a) ∙ ap (λ x. list_of (a ++ x)) (listed b)

long_false : (n : ℕ) → LIST_LIMIT < n → nat_le n LIST_LIMIT ≡ false
long_false n h = grind (arith, nat_tests)

short_true : (n : ℕ) → n ≤ LIST_LIMIT → nat_le n LIST_LIMIT ≡ true
short_true n h = grind (arith, nat_tests)

depth_append : (a b : List Datum) → depth_of (a ++ b) ≡ max (depth_of a) (depth_of b)
depth_append [] b = omega arith
depth_append (d ∷ a) b = ap (max (depth d)) (depth_append a b) ∙ omega arith

-- one level less than the limit is below it
below : (n : ℕ) → nat_le n (DEPTH_LIMIT - 1) ≡ nat_lt n DEPTH_LIMIT
below n = grind (arith, nat_tests)

max_left : (x y n : ℕ) → nat_lt x n ≡ false → nat_lt (max x y) n ≡ false
max_left x y n h = grind (arith, nat_tests)

max_right : (x y n : ℕ) → nat_lt y n ≡ false → nat_lt (max x y) n ≡ false
max_right x y n h = grind (arith, nat_tests)

max_both : (x y n : ℕ) → nat_lt x n ≡ true → nat_lt y n ≡ true → nat_lt (max x y) n ≡ true
max_both x y n h k = grind (arith, nat_tests)

-- by the two tests
by_tests : (ds : List Datum) (a b : Bool) → nat_le (length ds) LIST_LIMIT ≡ a → nat_lt (depth_of ds) DEPTH_LIMIT ≡ b
    → list_of ds ≡ cond a (cond b (Ok (list (data_of ds))) (Err fault.TooDeep)) (Err fault.TooLong)
by_tests ds a b h k =
    ap (λ x. cond x (cond (nat_lt (depth_of ds) DEPTH_LIMIT) (Ok (list (data_of ds))) (Err fault.TooDeep)) (Err fault.TooLong)) h
    ∙ ap (λ x. cond a (cond x (Ok (list (data_of ds))) (Err fault.TooDeep)) (Err fault.TooLong)) k

module _ (vs ws : List Value) (a b : List Datum) (n k : ℕ) (left : datums vs ≡ a) (right : datums ws ≡ b)
    (size : n ≡ length vs) (more : k ≡ length ws) where
  sizes : length (a ++ b) ≡ n + k
  sizes =
      length-append a b ∙ ap (λ x. x + length b) (sym (ap length left) ∙ length_datums vs ∙ sym size)
      ∙ ap (λ x. n + x) (sym (ap length right) ∙ length_datums ws ∙ sym more)

  pub too_long : LIST_LIMIT < n + k → joined (list (data_of a)) (list (data_of b)) ≡ Err fault.TooLong
  too_long h =
      joined_is a b
      ∙ by_tests (a ++ b) false (nat_lt (depth_of (a ++ b)) DEPTH_LIMIT) (ap (λ x. nat_le x LIST_LIMIT) sizes ∙ long_false (n + k) h) refl

  pub left_too_deep : n + k ≤ LIST_LIMIT → false ≡ nat_le (depth_of (datums vs)) (DEPTH_LIMIT - 1)
      → joined (list (data_of a)) (list (data_of b)) ≡ Err fault.TooDeep
  left_too_deep h d =
      joined_is a b
      ∙ by_tests (a ++ b) true false (ap (λ x. nat_le x LIST_LIMIT) sizes ∙ short_true (n + k) h)
      (ap (λ x. nat_lt x DEPTH_LIMIT) (depth_append a b)
      ∙ max_left (depth_of a) (depth_of b) DEPTH_LIMIT (ap (λ x. nat_lt (depth_of x) DEPTH_LIMIT) (sym left)
      ∙ sym (below (depth_of (datums vs))) ∙ sym d))

  pub right_too_deep : n + k ≤ LIST_LIMIT → false ≡ nat_le (depth_of (datums ws)) (DEPTH_LIMIT - 1)
      → joined (list (data_of a)) (list (data_of b)) ≡ Err fault.TooDeep
  right_too_deep h d =
      joined_is a b
      ∙ by_tests (a ++ b) true false (ap (λ x. nat_le x LIST_LIMIT) sizes ∙ short_true (n + k) h)
      (ap (λ x. nat_lt x DEPTH_LIMIT) (depth_append a b)
      ∙ max_right (depth_of a) (depth_of b) DEPTH_LIMIT (ap (λ x. nat_lt (depth_of x) DEPTH_LIMIT) (sym right)
      ∙ sym (below (depth_of (datums ws))) ∙ sym d))

  pub within_limits : n + k ≤ LIST_LIMIT → true ≡ nat_le (depth_of (datums vs)) (DEPTH_LIMIT - 1)
      → true ≡ nat_le (depth_of (datums ws)) (DEPTH_LIMIT - 1)
      → (d : Datum) × (joined (list (data_of a)) (list (data_of b)) ≡ Ok d)
  within_limits h d e = (
    list (data_of (a ++ b)),
    joined_is a b
        ∙ by_tests (a ++ b) true true (ap (λ x. nat_le x LIST_LIMIT) sizes ∙ short_true (n + k) h)
        (ap (λ x. nat_lt x DEPTH_LIMIT) (depth_append a b)
        ∙ max_both (depth_of a) (depth_of b) DEPTH_LIMIT (ap (λ x. nat_lt (depth_of x) DEPTH_LIMIT) (sym left)
        ∙ sym (below (depth_of (datums vs))) ∙ sym d)
        (ap (λ x. nat_lt (depth_of x) DEPTH_LIMIT) (sym right) ∙ sym (below (depth_of (datums ws))) ∙ sym e)),
  )

-- ---- texts
short_text : (n : ℕ) → n ≤ TEXT_LIMIT → nat_le n TEXT_LIMIT ≡ true
short_text n h = grind (arith, nat_tests)

pub texts_within : (a b : List ℕ) → length a + length b ≤ TEXT_LIMIT → (d : Datum) × (text_of (a ++ b) ≡ Ok d)
texts_within a b h = (
  text (a ++ b),
  ap (λ c. cond c (Ok (text (a ++ b))) (Err fault.TooLong))
      (ap (λ n. nat_le n TEXT_LIMIT) (length-append a b) ∙ short_text (length a + length b) h),
)

-- ---- a variable that is set twice
put_twice : (name : List ℕ) (d e : Datum) (vs : List Held) → put_into name e (put_into name d vs) ≡ put_into name e vs
put_twice name d e [] = refl
put_twice name d e (v ∷ vs) = by (is_called name v) refl (put_twice name d e vs)
  where
    by : (b : Bool) → is_called name v ≡ b → put_into name e (put_into name d vs) ≡ put_into name e vs
        → put_into name e (cond b (record v { value = d } ∷ vs) (v ∷ put_into name d vs))
        ≡ cond b (record v { value = e } ∷ vs) (v ∷ put_into name e vs)
    by true is h =
        ap (λ c. cond c (record v { value = e } ∷ vs) (record v { value = d } ∷ put_into name e vs)) is
    by false is h =
        ap (λ c. cond c (record v { value = e } ∷ put_into name d vs) (v ∷ put_into name e (put_into name d vs))) is
        ∙ ap (λ xs. v ∷ xs) h

any_put : (name : List ℕ) (d : Datum) (vs : List Held) → list_any (is_called name) (put_into name d vs) ≡ list_any (is_called name) vs
any_put name d [] = refl
any_put name d (v ∷ vs) = by (is_called name v) refl (any_put name d vs)
  where
    by : (b : Bool) → is_called name v ≡ b → list_any (is_called name) (put_into name d vs) ≡ list_any (is_called name) vs
        → list_any (is_called name) (cond b (record v { value = d } ∷ vs) (v ∷ put_into name d vs)) ≡ list_any (is_called name) (v ∷ vs)
    by true is h = refl
    by false is h = ap (λ x. is_called name v || x) h

set_twice : (name : List ℕ) (d e : Datum) (m : Memory) → set name e (set name d m) ≡ set name e m
set_twice name d e m = by (list_any (is_called name) m.own) refl
  where
    by : (b : Bool) → list_any (is_called name) m.own ≡ b
        → set name e (cond b (record m { own = put_into name d m.own }) (record m { shared = put_into name d m.shared }))
        ≡ cond b (record m { own = put_into name e m.own }) (record m { shared = put_into name e m.shared })
    by true is =
        ap (λ c. cond c (record m { own = put_into name e (put_into name d m.own) })
        (record m { own = put_into name d m.own; shared = put_into name e m.shared })) (any_put name d m.own ∙ is)
        ∙ ap (λ vs. record m { own = vs }) (put_twice name d e m.own)
    by false is =
        ap (λ c. cond c (record m { own = put_into name e m.own; shared = put_into name d m.shared })
        (record m { shared = put_into name e (put_into name d m.shared) })) is
        ∙ ap (λ vs. record m { shared = vs }) (put_twice name d e m.shared)

value_named : (m : Memory) (name : List ℕ) (d : Datum) → Some d ≡ value_as_named m name → value_as m name ≡ Ok d
value_named m name d h = by (held_as m name) h
  where
    by : (o : Option Held) → Some d ≡ option_map (λ v. v.value) o → with_item o (λ v. Ok v.value) (Err fault.BadKind) ≡ Ok d
    by None k = absurd cc
    by (Some v) k = let same : d ≡ v.value = cc in ap (λ x. Ok x) (sym same)

-- a variable whose value was taken, and has grown
pub grown : (m mid new : Memory) (name : List ℕ) (taken left right longer : Datum) → Some left ≡ value_as_named m name
    → mid ≡ set name taken m → joined left right ≡ Ok longer → new ≡ set name longer mid
    → found (found (value_as m name) (λ d. joined d right)) (setting name m) ≡ Ok new
grown m mid new name taken left right longer was took grows sets =
    ap (λ r. found (found r (λ d. joined d right)) (setting name m)) (value_named m name left was)
    ∙ ap (λ r. found r (setting name m)) grows
    ∙ ap (λ x. Ok x) (sym (sets ∙ ap (set name longer) took ∙ set_twice name taken longer m))
