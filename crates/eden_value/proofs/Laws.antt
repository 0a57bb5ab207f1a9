-- Laws of the definitions: on a list of values they say the same as on the values in a row, and what
-- is true of values is true of lists made of them.
use Rattle.std.specs.Prelude.{◌≡◌, ℕ, zero, suc, ◌≤◌, ◌&&◌, max, List, [], ◌∷◌, ◌++◌, length, map, Some, None, refl}
use Rattle.std.proofs.Common.{ap, sym, ◌∙◌, arith, subst, append_assoc}
use Rattle.capability.specs.declared.Cap.{Cap}
use Rattle.capability.specs.Capability.{IsEject}
use Rattle.eden_value.specs.Datum.{Datum, Data, number, truth, text, cap, list, no_data, data_and, items_of, data_of}
use Rattle.eden_value.specs.Code.{items_of-data_of}
use Rattle.eden_value.specs.View.{datum, datums}
use Rattle.eden_value.specs.Limits.{depth, depths, depth_of, IsValue, DataAreValues, AreValues}
use Rattle.eden_value.specs.Range.{DataInRange, AllInRange}
use Rattle.eden_value.specs.Caps.{caps, data_caps, caps_of}
use Rattle.eden_value.specs.Shape.{Shape, has_shape, data_shape, have_shape}
use Rattle.eden_value.specs.declared.value.Value.{Value}
use Rattle.eden_value.specs.declared.value.Value.TheVariants.{Int, Bool, Text, Cap as Capability, List as Listed}
use Rattle.eden_value.specs.declared.value.TheConstants.{LIST_LIMIT}

-- ---- values in a row, and the same values in a list
pub data_of-items_of : (ds : Data) → data_of (items_of ds) ≡ ds
data_of-items_of no_data = refl
data_of-items_of (data_and d ds) = ap (λ es. data_and d es) (data_of-items_of ds)

pub depths-data_of : (ds : List Datum) → depths (data_of ds) ≡ depth_of ds
depths-data_of [] = refl
depths-data_of (d ∷ ds) = ap (λ n. max (depth d) n) (depths-data_of ds)

pub caps-data_of : (ds : List Datum) → data_caps (data_of ds) ≡ caps_of ds
caps-data_of [] = refl
caps-data_of (d ∷ ds) = ap (λ l. caps d ++ l) (caps-data_of ds)

pub shape-data_of : (ds : List Datum) (s : Shape) → data_shape (data_of ds) s ≡ have_shape ds s
shape-data_of [] s = refl
shape-data_of (d ∷ ds) s = ap (λ b. has_shape d s && b) (shape-data_of ds s)

pub values_in_list : (most : ℕ) (ds : List Datum) → AreValues most ds → DataAreValues most (data_of ds)
values_in_list most [] h = h
values_in_list most (d ∷ ds) h = (h.0, values_in_list most ds h.1)

pub values_of_list : (most : ℕ) (ds : Data) → DataAreValues most ds → AreValues most (items_of ds)
values_of_list most no_data h = h
values_of_list most (data_and d ds) h = (h.0, values_of_list most ds h.1)

pub range_in_list : (ds : List Datum) → AllInRange ds → DataInRange (data_of ds)
range_in_list [] h = h
range_in_list (d ∷ ds) h = (h.0, range_in_list ds h.1)

pub range_of_list : (ds : Data) → DataInRange ds → AllInRange (items_of ds)
range_of_list no_data h = h
range_of_list (data_and d ds) h = (h.0, range_of_list ds h.1)

-- ---- a value of the code and its data determine each other
abbrev pub value_of : Datum → Value
value_of (number n) = Int n
value_of (truth b) = Bool b
value_of (text t) = Text t
value_of (cap c) = Capability c
value_of (list ds) = Listed (items_of ds)

pub value_of-datum : (v : Value) → value_of (datum v) ≡ v
value_of-datum (Int n) = refl
value_of-datum (Bool b) = refl
value_of-datum (Text t) = refl
value_of-datum (Capability c) = refl
value_of-datum (Listed items) = ap Listed (items_of-data_of items)

pub values_of-datums : (vs : List Value) → map value_of (datums vs) ≡ vs
values_of-datums [] = refl
values_of-datums (v ∷ vs) = ap (λ w. w ∷ map value_of (datums vs)) (value_of-datum v) ∙ ap (λ ws. v ∷ ws) (values_of-datums vs)

pub same_value : (v w : Value) → datum v ≡ datum w → v ≡ w
same_value v w e = sym (value_of-datum v) ∙ ap value_of e ∙ value_of-datum w

pub same_values : (vs ws : List Value) → datums vs ≡ datums ws → vs ≡ ws
same_values vs ws e = sym (values_of-datums vs) ∙ ap (λ ds. map value_of ds) e ∙ values_of-datums ws

-- ---- what a value may be
mutual
  -- lists nest as deep as is allowed, at most
  pub depth-value : (most : ℕ) (d : Datum) → IsValue most d → depth d ≤ most
  depth-value most (number n) h = omega arith
  depth-value most (truth b) h = omega arith
  depth-value most (text t) h = omega arith
  depth-value most (cap c) h = omega arith
  depth-value zero (list ds) h = absurd h
  depth-value (suc most) (list ds) h = omega (arith, depths-values most ds h.1)

  pub depths-values : (most : ℕ) (ds : Data) → DataAreValues most ds → depths ds ≤ most
  depths-values most no_data h = omega arith
  depths-values most (data_and d ds) h = omega (arith, depth-value most d h.0, depths-values most ds h.1)

pub depth_of-values : (most : ℕ) (ds : List Datum) → AreValues most ds → depth_of ds ≤ most
depth_of-values most [] h = omega arith
depth_of-values most (d ∷ ds) h = omega (arith, depth-value most d h.0, depth_of-values most ds h.1)

max_le-left : (a b n : ℕ) → max a b ≤ n → a ≤ n
max_le-left a b n h = omega (arith, h)

max_le-right : (a b n : ℕ) → max a b ≤ n → b ≤ n
max_le-right a b n h = omega (arith, h)

mutual
  -- the depth that a value has is the one that it needs
  pub value_at_depth : (most other : ℕ) (d : Datum) → IsValue most d → depth d ≤ other → IsValue other d
  value_at_depth most other (number n) h e = h
  value_at_depth most other (truth b) h e = h
  value_at_depth most other (text t) h e = h
  value_at_depth most other (cap None) h e = h
  value_at_depth most other (cap (Some c)) h e = h
  value_at_depth zero other (list ds) h e = absurd h
  value_at_depth (suc most) zero (list ds) h e = absurd (omega (arith, e))
  value_at_depth (suc most) (suc other) (list ds) h e = (h.0, data_at_depth most other ds h.1 (omega (arith, e)))

  pub data_at_depth : (most other : ℕ) (ds : Data) → DataAreValues most ds → depths ds ≤ other → DataAreValues other ds
  data_at_depth most other no_data h e = h
  data_at_depth most other (data_and d ds) h e = (
    value_at_depth most other d h.0 (max_le-left (depth d) (depths ds) other e),
    data_at_depth most other ds h.1 (max_le-right (depth d) (depths ds) other e),
  )

pub values_at_depth : (most other : ℕ) (ds : List Datum) → AreValues most ds → depth_of ds ≤ other → AreValues other ds
values_at_depth most other [] h e = h
values_at_depth most other (d ∷ ds) h e = (
  value_at_depth most other d h.0 (max_le-left (depth d) (depth_of ds) other e),
  values_at_depth most other ds h.1 (max_le-right (depth d) (depth_of ds) other e),
)

-- a list of values is a value, where its length and its depth are within the limits
pub list_is_value : (most other : ℕ) (ds : List Datum) → AreValues most ds → length ds ≤ LIST_LIMIT → depth_of ds ≤ other
    → IsValue (suc other) (list (data_of ds))
list_is_value most other ds h short shallow = (
  subst (λ l. length l ≤ LIST_LIMIT) (sym (items_of-data_of ds)) short,
  values_in_list other ds (values_at_depth most other ds h shallow),
)

pub values-append : (most : ℕ) (ds es : List Datum) → AreValues most ds → AreValues most es → AreValues most (ds ++ es)
values-append most [] es h k = k
values-append most (d ∷ ds) es h k = (h.0, values-append most ds es h.1 k)

-- ---- capabilities
pub caps_of-append : (ds es : List Datum) → caps_of (ds ++ es) ≡ caps_of ds ++ caps_of es
caps_of-append [] es = refl
caps_of-append (d ∷ ds) es = ap (λ l. caps d ++ l) (caps_of-append ds es) ∙ sym (append_assoc (caps d) (caps_of ds) (caps_of es))

-- each of them is the capability of an Eject
abbrev pub AreOfEjects : List Cap → Type 0
AreOfEjects [] = Unit {0}
AreOfEjects (c ∷ cs) = IsEject c.uid × AreOfEjects cs

pub ejects-append : (cs more : List Cap) → AreOfEjects cs → AreOfEjects more → AreOfEjects (cs ++ more)
ejects-append [] more h k = k
ejects-append (c ∷ cs) more h k = (h.0, ejects-append cs more h.1 k)

mutual
  pub caps-value : (most : ℕ) (d : Datum) → IsValue most d → AreOfEjects (caps d)
  caps-value most (number n) h = tt
  caps-value most (truth b) h = tt
  caps-value most (text t) h = tt
  caps-value most (cap None) h = tt
  caps-value most (cap (Some c)) h = (h, tt)
  caps-value zero (list ds) h = absurd h
  caps-value (suc most) (list ds) h = caps-data most ds h.1

  pub caps-data : (most : ℕ) (ds : Data) → DataAreValues most ds → AreOfEjects (data_caps ds)
  caps-data most no_data h = tt
  caps-data most (data_and d ds) h = ejects-append (caps d) (data_caps ds) (caps-value most d h.0) (caps-data most ds h.1)

pub caps_of-values : (most : ℕ) (ds : List Datum) → AreValues most ds → AreOfEjects (caps_of ds)
caps_of-values most [] h = tt
caps_of-values most (d ∷ ds) h = ejects-append (caps d) (caps_of ds) (caps-value most d h.0) (caps_of-values most ds h.1)
