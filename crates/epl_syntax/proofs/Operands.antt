-- Operators and built-in functions make no capabilities.
use Rattle.std.proofs.Common.{inl, inr, ℕ, ◌+◌, ℤ, pos, negsuc, nat_le, nat_lt, Bool, true, false, if◌then◌else◌, List, [], ◌∷◌, ◌++◌}
use Rattle.std.proofs.Common.{take, drop, length, slice_get, slice_set, Option, None, Some, Result, Ok, Err}
use Rattle.std.specs.Prelude.{IfOk, IfSome, int_le, int_div, int_rem, ◌&&◌, ◌+ℤ◌, ◌-ℤ◌, ◌*ℤ◌, neg_ℤ}
use Rattle.std.specs.Ordering.{int_eq}
use Rattle.capability.specs.declared.Cap.{Cap}
use Rattle.capability.specs.declared.Rights.{Rights}
use Rattle.capability.specs.Capability.{restricted, IsBelow}
use Rattle.capability.proofs.Laws.{below_through, restricted_below}
use Rattle.eden_value.specs.Datum.{Datum, number, truth, text, cap, list, items_of, data_of}
use Rattle.epl_syntax.specs.declared.effect.FaultCause.{FaultCause}
use Rattle.epl_syntax.specs.declared.tree.Prefix.{Prefix}
use Rattle.epl_syntax.specs.declared.tree.Prefix.TheVariants.{Not, Negate}
use Rattle.epl_syntax.specs.declared.tree.Operator.{Operator}
use Rattle.epl_syntax.specs.declared.tree.Operator.TheVariants.{Or, And, Equal, Different, Less, LessEqual, Greater, GreaterEqual, Add}
use Rattle.epl_syntax.specs.declared.tree.Operator.TheVariants.{Subtract, Join, Multiply, Divide, Modulo}
use Rattle.epl_syntax.specs.declared.tree.Builtin.{Builtin}
use Rattle.epl_syntax.specs.declared.tree.Builtin.TheVariants.{Size, Str, Put, Cut, Part, Restrict}
use Rattle.eden_model.specs.Map.{with_item}
use Rattle.eden_value.specs.Limits.{depth_of}
use Rattle.eden_value.specs.declared.value.TheConstants.{TEXT_LIMIT, LIST_LIMIT, DEPTH_LIMIT}
use Rattle.epl_syntax.specs.declared.effect.FaultCause.TheVariants as fault
use Rattle.epl_syntax.specs.Operators.{least, greatest, Found, in_64_bits, divided, of_numbers, numbers, list_of, joined, place_in}
use Rattle.epl_syntax.specs.Operators.{at_place, item_at, before_operand, of_both, between, size_of, part_of, masked, applied}
use Rattle.epl_syntax.specs.Authority.{IsBelowOne}
use Rattle.epl_syntax.proofs.Owned.{Owned, AllOwned, list_owned, items_owned, append_owned, take_owned, drop_owned, item_owned}
use Rattle.epl_syntax.proofs.Owned.{set_owned, found_through}

-- what comes of an expression has only capabilities that are held
abbrev pub FoundOwned : List Cap → Found → Type 0
FoundOwned held r = IfOk r (Owned held)

choice : (held : List Cap) (b : Bool) (x y : Found) → FoundOwned held x → FoundOwned held y → FoundOwned held (if b then x else y)
choice held true x y h k = h
choice held false x y h k = k

bits_owned : (held : List Cap) (n : ℤ) → FoundOwned held (in_64_bits n)
bits_owned held n = choice held (int_le least n && int_le n greatest) (Ok (number n)) (Err fault.Overflow) tt tt

divided_owned : (held : List Cap) (f : ℤ → ℤ → ℤ) (a b : ℤ) → FoundOwned held (divided f a b)
divided_owned held f a b = choice held (int_eq b (pos 0)) (Err fault.ZeroDivisor) (in_64_bits (f a b)) tt (bits_owned held (f a b))

of_numbers_owned : (held : List Cap) (operator : Operator) (a b : ℤ) → FoundOwned held (of_numbers operator a b)
of_numbers_owned held Less a b = tt
of_numbers_owned held LessEqual a b = tt
of_numbers_owned held Greater a b = tt
of_numbers_owned held GreaterEqual a b = tt
of_numbers_owned held Add a b = bits_owned held (a +ℤ b)
of_numbers_owned held Subtract a b = bits_owned held (a -ℤ b)
of_numbers_owned held Multiply a b = bits_owned held (a *ℤ b)
of_numbers_owned held Divide a b = divided_owned held int_div a b
of_numbers_owned held Modulo a b = divided_owned held int_rem a b
of_numbers_owned held _ a b = tt

numbers_owned : (held : List Cap) (a b : Datum) (f : ℤ → ℤ → Found) → ((x y : ℤ) → FoundOwned held (f x y))
    → FoundOwned held (numbers a b f)
numbers_owned held (number a) (number b) f h = h a b
numbers_owned held _ _ f h = tt

pub list_of_owned : (held : List Cap) (ds : List Datum) → AllOwned held ds → FoundOwned held (list_of ds)
list_of_owned held ds h = choice held (nat_le (length ds) LIST_LIMIT)
    (if nat_lt (depth_of ds) DEPTH_LIMIT then Ok (list (data_of ds)) else Err fault.TooDeep) (Err fault.TooLong)
    (choice held (nat_lt (depth_of ds) DEPTH_LIMIT) (Ok (list (data_of ds))) (Err fault.TooDeep) (list_owned held ds h) tt) tt

joined_owned : (held : List Cap) (a b : Datum) → Owned held a → Owned held b → FoundOwned held (joined a b)
joined_owned held (text a) (text b) h k = choice held (nat_le (length (a ++ b)) TEXT_LIMIT) (Ok (text (a ++ b))) (Err fault.TooLong) tt tt
joined_owned held (list a) (list b) h k = list_of_owned held (items_of a ++ items_of b)
    (append_owned held (items_of a) (items_of b) (items_owned held a h) (items_owned held b k))
joined_owned held _ _ h k = tt

at_place_owned : (held : List Cap) (of at : Datum) (f : List Datum → ℕ → Found) → Owned held of
    → ((ds : List Datum) (i : ℕ) → AllOwned held ds → FoundOwned held (f ds i)) → FoundOwned held (at_place of at f)
at_place_owned held (list ds) (number i) f h k =
    found_through (λ n. Unit {0}) (Owned held) (place_in (length (items_of ds)) i) (f (items_of ds))
    (anything (place_in (length (items_of ds)) i)) (λ n x. k (items_of ds) n (items_owned held ds h))
  where
    anything : (r : Result ℕ FaultCause) → IfOk r (λ n. Unit {0})
    anything (Ok n) = tt
    anything (Err c) = tt
at_place_owned held _ _ f h k = tt

picked_owned : (held : List Cap) (o : Option Datum) (other : FaultCause) → IfSome o (Owned held)
    → FoundOwned held (with_item o Ok (Err other))
picked_owned held None other h = tt
picked_owned held (Some d) other h = h

pub item_at_owned : (held : List Cap) (of at : Datum) → Owned held of → FoundOwned held (item_at of at)
item_at_owned held of at h = at_place_owned held of at (λ ds i. with_item (slice_get ds i) Ok (Err fault.BadIndex)) h
    (λ ds i k. picked_owned held (slice_get ds i) fault.BadIndex (item_owned held ds i k))

pub before_owned : (held : List Cap) (prefix : Prefix) (d : Datum) → FoundOwned held (before_operand prefix d)
before_owned held Not (truth b) = tt
before_owned held Negate (number n) = bits_owned held (neg_ℤ n)
before_owned held _ d = tt

of_both_owned : (held : List Cap) (operator : Operator) (a b : Datum) → Owned held a → Owned held b → FoundOwned held (of_both operator a b)
of_both_owned held Or a b h k = k
of_both_owned held And a b h k = k
of_both_owned held Equal a b h k = tt
of_both_owned held Different a b h k = tt
of_both_owned held Join a b h k = joined_owned held a b h k
of_both_owned held operator a b h k = numbers_owned held a b (of_numbers operator) (of_numbers_owned held operator)

pub between_owned : (held : List Cap) (operator : Operator) (d : Datum) (right : Found) → Owned held d → FoundOwned held right
    → FoundOwned held (between operator d right)
between_owned held Or (truth true) right h k = tt
between_owned held And (truth false) right h k = tt
between_owned held operator left right h k =
    found_through (Owned held) (Owned held) right (of_both operator left) k (λ d x. of_both_owned held operator left d h x)

size_owned : (held : List Cap) (d : Datum) → FoundOwned held (size_of d)
size_owned held (text t) = tt
size_owned held (list ds) = tt
size_owned held _ = tt

part_owned : (held : List Cap) (bytes : List ℕ) (from count : ℤ) → FoundOwned held (part_of bytes from count)
part_owned held bytes (pos from) (pos count) =
    choice held (nat_le (from + count) (length bytes)) (Ok (text (take count (drop from bytes)))) (Err fault.BadIndex) tt tt
part_owned held bytes _ _ = tt

below_below : (a b : Cap) (held : List Cap) → IsBelow a b → IsBelowOne b held → IsBelowOne a held
below_below a b [] h k = k
below_below a b (c ∷ cs) h (inl k) = inl (below_through a b c h k)
below_below a b (c ∷ cs) h (inr k) = inr (below_below a b cs h k)

masked_owned : (held : List Cap) (c : Option Cap) (mask : ℤ) → Owned held (cap c) → FoundOwned held (masked c mask)
masked_owned held None (pos mask) h = choice held (nat_le mask 65535) (Ok (cap None)) (Err fault.BadMask) tt tt
masked_owned held (Some c) (pos mask) h =
    let r : Rights = record { bits = mask } in choice held (nat_le mask 65535) (Ok (cap (Some (restricted c r)))) (Err fault.BadMask)
    (below_below (restricted c r) c held (restricted_below c r) h.0, tt) tt
masked_owned held c (negsuc mask) h = tt

pub applied_owned : (held : List Cap) (builtin : Builtin) (args : List Datum) → AllOwned held args → FoundOwned held (applied builtin args)
applied_owned held Size (d ∷ []) h = size_owned held d
applied_owned held Str (number n ∷ []) h = tt
applied_owned held Put (ds ∷ i ∷ d ∷ []) h = at_place_owned held ds i (λ items k. list_of (slice_set items k d)) h.0
    (λ items k x. list_of_owned held (slice_set items k d) (set_owned held items k d x h.1.1.0))
applied_owned held Cut (ds ∷ i ∷ []) h =
    at_place_owned held ds i (λ items k. list_of (take k items ++ drop (k + 1) items)) h.0
    (λ items k x. list_of_owned held (take k items ++ drop (k + 1) items)
    (append_owned held (take k items) (drop (k + 1) items) (take_owned held k items x) (drop_owned held (k + 1) items x)))
applied_owned held Part (text bytes ∷ number from ∷ number count ∷ []) h = part_owned held bytes from count
applied_owned held Restrict (cap c ∷ number mask ∷ []) h = masked_owned held c mask h.0
applied_owned held _ args h = tt
