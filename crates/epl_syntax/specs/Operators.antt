-- What operators and built-in functions give of values, and why they fault. In a type that keeps the rules all operands are of the
-- kinds that they take; elsewhere most of them fault by BadKind, so that each has one meaning.
use Rattle.std.specs.Prelude.{ℕ, ◌+◌, nat_lt, nat_le, ℤ, pos, negsuc, neg_ℤ, ◌+ℤ◌, ◌-ℤ◌, ◌*ℤ◌, int_lt, int_le, int_div, int_rem, true}
use Rattle.std.specs.Prelude.{false, not, ◌&&◌, if◌then◌else◌, List, [], ◌∷◌, ◌++◌, length, take, drop, slice_get, slice_set, Option}
use Rattle.std.specs.Prelude.{Result, Ok, Err}
use Rattle.std.specs.Ordering.{int_eq}
use Rattle.std.specs.Option.{option_map}
use Rattle.std.specs.Fmt.{signed_decimal}
use Rattle.capability.specs.declared.Cap.{Cap}
use Rattle.capability.specs.Capability.{restricted}
use Rattle.eden_value.specs.Datum.{Datum, number, truth, text, cap, list, items_of, data_of}
use Rattle.eden_value.specs.Limits.{depth_of}
use Rattle.eden_value.specs.declared.value.TheConstants.{TEXT_LIMIT, LIST_LIMIT, DEPTH_LIMIT}
use Rattle.eden_model.specs.Map.{with_item}
use Rattle.epl_syntax.specs.declared.effect.FaultCause.{FaultCause}
use Rattle.epl_syntax.specs.declared.effect.FaultCause.TheVariants as fault
use Rattle.epl_syntax.specs.declared.tree.Prefix.{Prefix}
use Rattle.epl_syntax.specs.declared.tree.Prefix.TheVariants.{Not, Negate}
use Rattle.epl_syntax.specs.declared.tree.Operator.{Operator}
use Rattle.epl_syntax.specs.declared.tree.Operator.TheVariants.{Or, And, Equal, Different, Less, LessEqual, Greater, GreaterEqual, Add}
use Rattle.epl_syntax.specs.declared.tree.Operator.TheVariants.{Subtract, Join, Multiply, Divide, Modulo}
use Rattle.epl_syntax.specs.declared.tree.Builtin.{Builtin}
use Rattle.epl_syntax.specs.declared.tree.Builtin.TheVariants.{Size, Str, Put, Cut, Part, Restrict}
use Rattle.epl_syntax.specs.Same.{same}

-- what comes of an expression: a value, or a fault
abbrev pub Found : Type 0
Found = Result Datum FaultCause

-- f of what was found, or the fault
abbrev pub found : {X Y : Type 0} → Result X FaultCause → (X → Result Y FaultCause) → Result Y FaultCause
found (Ok x) f = f x
found (Err cause) f = Err cause

-- ---- numbers have 64 bits, with a sign
-- the least of them
abbrev pub least : ℤ
least = negsuc 0x7FFF_FFFF_FFFF_FFFF

-- and the greatest
abbrev pub greatest : ℤ
greatest = pos 0x7FFF_FFFF_FFFF_FFFF

-- a result, which faults outside of these
abbrev pub in_64_bits : ℤ → Found
in_64_bits n = if int_le least n && int_le n greatest then Ok (number n) else Err fault.Overflow

-- f of two numbers, the second not 0: division rounds toward 0, and what is left over has the sign of the first
abbrev pub divided : (ℤ → ℤ → ℤ) → ℤ → ℤ → Found
divided f a b = if int_eq b (pos 0) then Err fault.ZeroDivisor else in_64_bits (f a b)

-- what an operator gives of two numbers
abbrev pub of_numbers : Operator → ℤ → ℤ → Found
of_numbers Less a b = Ok (truth (int_lt a b))
of_numbers LessEqual a b = Ok (truth (int_le a b))
of_numbers Greater a b = Ok (truth (int_lt b a))
of_numbers GreaterEqual a b = Ok (truth (int_le b a))
of_numbers Add a b = in_64_bits (a +ℤ b)
of_numbers Subtract a b = in_64_bits (a -ℤ b)
of_numbers Multiply a b = in_64_bits (a *ℤ b)
of_numbers Divide a b = divided int_div a b
of_numbers Modulo a b = divided int_rem a b
of_numbers _ a b = Err fault.BadKind

-- f of two values that have to be numbers
abbrev pub numbers : Datum → Datum → (ℤ → ℤ → Found) → Found
numbers (number a) (number b) f = f a b
numbers _ _ f = Err fault.BadKind

-- ---- texts and lists have at most so many bytes and values, and lists are at most so deep
-- a text of these bytes, unless they are too many
abbrev pub text_of : List ℕ → Found
text_of bytes = if nat_le (length bytes) TEXT_LIMIT then Ok (text bytes) else Err fault.TooLong

-- a list of these values: their number is tested first, then the depth, which is one more than that of the deepest
abbrev pub list_of : List Datum → Found
list_of ds = if nat_le (length ds) LIST_LIMIT
    then (if nat_lt (depth_of ds) DEPTH_LIMIT then Ok (list (data_of ds)) else Err fault.TooDeep) else Err fault.TooLong

-- `&`: two texts, or two lists, one behind the other
abbrev pub joined : Datum → Datum → Found
joined (text a) (text b) = text_of (a ++ b)
joined (list a) (list b) = list_of (items_of a ++ items_of b)
joined _ _ = Err fault.BadKind

-- the place in so many items that a number points at
abbrev pub place_in : ℕ → ℤ → Result ℕ FaultCause
place_in size (pos i) = if nat_lt i size then Ok i else Err fault.BadIndex
place_in size (negsuc i) = Err fault.BadIndex

-- f of the items of a list and of a place in it
abbrev pub at_place : Datum → Datum → (List Datum → ℕ → Found) → Found
at_place (list ds) (number i) f = found (place_in (length (items_of ds)) i) (f (items_of ds))
at_place _ _ f = Err fault.BadKind

-- `l[i]`: the item at a place, counted from 0
abbrev pub item_at : Datum → Datum → Found
item_at of at = at_place of at (λ ds i. with_item (slice_get ds i) Ok (Err fault.BadIndex))

-- ---- operators
-- `not` and the sign
abbrev pub before_operand : Prefix → Datum → Found
before_operand Not (truth b) = Ok (truth (not b))
before_operand Negate (number n) = in_64_bits (neg_ℤ n)
before_operand _ d = Err fault.BadKind

-- An operator between two values. Of `or` and `and` the right value is all that is left to look at.
abbrev pub of_both : Operator → Datum → Datum → Found
of_both Or a b = Ok b
of_both And a b = Ok b
of_both Equal a b = Ok (truth (same a b))
of_both Different a b = Ok (truth (not (same a b)))
of_both Join a b = joined a b
of_both operator a b = numbers a b (of_numbers operator)

-- between a value and what comes of the right side, which `or` and `and` look at only where it is needed
abbrev pub between : Operator → Datum → Found → Found
between Or (truth true) right = Ok (truth true)
between And (truth false) right = Ok (truth false)
between operator left right = found right (of_both operator left)

-- ---- built-in functions
-- `size`: the bytes of a text, or the items of a list
abbrev pub size_of : Datum → Found
size_of (text bytes) = Ok (number (pos (length bytes)))
size_of (list ds) = Ok (number (pos (length (items_of ds))))
size_of _ = Err fault.BadKind

-- `part`: so many bytes of a text, from a place on, all of which have to be there
abbrev pub part_of : List ℕ → ℤ → ℤ → Found
part_of bytes (pos from) (pos count) =
    if nat_le (from + count) (length bytes) then Ok (text (take count (drop from bytes))) else Err fault.BadIndex
part_of bytes _ _ = Err fault.BadIndex

-- `restrict`: a capability, if there is one, with the rights that are also in the mask, a word of 16 bits
abbrev pub masked : Option Cap → ℤ → Found
masked c (pos mask) =
    if nat_le mask 65535 then Ok (cap (option_map (λ it. restricted it (record { bits = mask })) c)) else Err fault.BadMask
masked c (negsuc mask) = Err fault.BadMask

-- a built-in function of its arguments: `put` is a list with another item at a place, `cut` one without the item there
abbrev pub applied : Builtin → List Datum → Found
applied Size (d ∷ []) = size_of d
applied Str (number n ∷ []) = Ok (text (signed_decimal n))
applied Put (ds ∷ i ∷ d ∷ []) = at_place ds i (λ items k. list_of (slice_set items k d))
applied Cut (ds ∷ i ∷ []) = at_place ds i (λ items k. list_of (take k items ++ drop (k + 1) items))
applied Part (text bytes ∷ number from ∷ number count ∷ []) = part_of bytes from count
applied Restrict (cap c ∷ number mask ∷ []) = masked c mask
applied _ args = Err fault.BadKind
