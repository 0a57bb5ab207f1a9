-- The definitions at a value of the code that is a list.
use Rattle.std.proofs.Common.{◌≡◌, ◌↔◌, Bool as Truth, true, false, ℕ, suc, ◌+◌, ◌-◌, ◌<◌, min, nat_le, nat_lt, ap, refl, sym, ◌∙◌}
use Rattle.std.proofs.Common.{List, [], ◌∷◌, ◌++◌}
use Rattle.std.proofs.Common.{arith}
use Rattle.std.proofs.lemmas.Bool.Decides.{nat_tests}
use Rattle.eden_value.specs.Datum.{Datum, list, data_of}
use Rattle.eden_value.specs.View.{datum, datums}
use Rattle.eden_value.specs.Shape.{Shape, lists, has_shape, have_shape}
use Rattle.eden_value.specs.Printed.{printed, printed_items, printed_more, row_behind, printed_row}
use Rattle.eden_value.specs.Limits.{depth, depths, depth_of}
use Rattle.eden_value.specs.Caps.{caps, caps_of}
use Rattle.eden_value.proofs.Laws.{depths-data_of, caps-data_of, shape-data_of, same_values}
use Rattle.eden_value.specs.declared.value.Value.{Value}
use Rattle.eden_value.specs.declared.value.Value.TheVariants.{List as Listed}

-- the list is within the limit where its items are within one less
list_within : (ds : List Datum) (most : ℕ) → 0 < most
    → nat_le (depth_of ds) (most - 1) ≡ nat_le (depth (list (data_of ds))) most
list_within ds most h = within (depth_of ds) (depths (data_of ds)) most (depths-data_of ds) h
  where
    within : (a b m : ℕ) → b ≡ a → 0 < m → nat_le a (m - 1) ≡ nat_le (suc b) m
    within a b m e h = grind (arith, nat_tests)

-- a value v that is a list, of the code's values ws
module _ (v : Value) (items : List Datum) (ws : List Value) (is : v ≡ Listed items) (items_are : datums ws ≡ items) where
  datum_is : datum v ≡ list (data_of (datums ws))
  datum_is = ap datum is ∙ ap (λ ds. list (data_of ds)) (sym items_are)

  pub value_within : (most : ℕ) → 0 < most → (r : Truth) → r ≡ nat_le (depth_of (datums ws)) (most - 1)
      → r ≡ nat_le (depth (datum v)) most
  value_within most h r e = e ∙ list_within (datums ws) most h ∙ ap (λ d. nat_le (depth d) most) (sym datum_is)

  pub value_caps : caps (datum v) ≡ caps_of (datums ws)
  value_caps = ap caps datum_is ∙ caps-data_of (datums ws)

  pub value_shape : (s t : Shape) → t ≡ lists s → have_shape (datums ws) s ≡ has_shape (datum v) t
  value_shape s t e = sym (ap (λ k. has_shape (datum v) k) e ∙ ap (λ d. has_shape d (lists s)) datum_is ∙ shape-data_of (datums ws) s)

  pub value_printed : printed (datum v) ≡ 91 ∷ (printed_row (datums ws) ++ 93 ∷ [])
  value_printed = ap printed datum_is ∙ ap (λ l. 91 ∷ (l ++ 93 ∷ [])) (row (datums ws))
    where
      behind : (ds : List Datum) → printed_more (data_of ds) ≡ row_behind ds
      behind [] = refl
      behind (d ∷ ds) = ap (λ l. 44 ∷ 32 ∷ (printed d ++ l)) (behind ds)

      row : (ds : List Datum) → printed_items (data_of ds) ≡ printed_row ds
      row [] = refl
      row (d ∷ ds) = ap (λ l. printed d ++ l) (behind ds)

-- how deep lists nest in a value v that is a list of these values
pub list_depth : (v : Value) (items raw : List Datum) → v ≡ Listed items → raw ≡ items → depth (datum v) ≡ suc (depth_of raw)
list_depth v items raw is view = ap (λ w. depth (datum w)) is ∙ ap suc (depths-data_of items ∙ ap depth_of (sym view))

-- the depth that is kept tells whether the list is within a limit
pub shallow : (kept deep raw most : ℕ) → kept ≡ min raw 255 → deep ≡ suc raw → most < 256 → nat_lt kept most ≡ nat_le deep most
shallow kept deep raw most e f h = grind (arith, nat_tests)

-- the depth of a list from the one that is kept
pub one_deeper : (sum kept deep raw : ℕ) → sum ≡ min (kept + 1) 255 → kept ≡ min raw 255 → deep ≡ suc raw → sum ≡ min deep 255
one_deeper sum kept deep raw e f g = omega (arith, e, f, g)

-- two lists are one value where their items are the same
pub same_lists : (a b : Value) (x y : List Datum) (ws zs : List Value) → a ≡ Listed x → datums ws ≡ x → b ≡ Listed y
    → datums zs ≡ y → (ws ≡ zs) ↔ (a ≡ b)
same_lists a b x y ws zs p q s t = (
  λ e. p ∙ ap Listed (sym q ∙ ap datums e ∙ t) ∙ sym s,
  λ e. let f : x ≡ y = cc (p, s, e) in same_values ws zs (q ∙ f ∙ sym t),
)

-- what is left of a row to print, which has no comma before its first value
abbrev pub printed_from : Truth → List Datum → List ℕ
printed_from true ds = printed_row ds
printed_from false ds = row_behind ds
