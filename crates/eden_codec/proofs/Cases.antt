-- The spelling of a value of the code that is a list.
use Rattle.std.proofs.Common.{◌≡◌, ℕ, ◌+◌, ◌++◌, List, [], ◌∷◌, length, refl, ap, sym, ◌∙◌, arith, subst, append_assoc}
use Rattle.std.specs.Int.{bytes_high_first}
use Rattle.eden_value.specs.Datum.{Datum, list, data_of}
use Rattle.eden_value.specs.Code.{items_of-data_of}
use Rattle.eden_value.specs.View.{datum, datums}
use Rattle.eden_value.specs.Range.{InRange, AllInRange}
use Rattle.eden_value.proofs.Laws.{range_in_list}
use Rattle.eden_value.specs.declared.value.Value.{Value}
use Rattle.eden_value.specs.declared.value.Value.TheVariants.{List as Listed}
use Rattle.eden_codec.specs.Spelling.{value_spelling, data_spelling, values_spelling}

data_are : (ds : List Datum) → data_spelling (data_of ds) ≡ values_spelling ds
data_are [] = refl
data_are (d ∷ ds) = ap (λ l. value_spelling d ++ l) (data_are ds)

length_of : (vs : List Value) → length (datums vs) ≡ length vs
length_of [] = refl
length_of (v ∷ vs) = omega (arith, length_of vs)

-- a value v that is a list of the code's values ws
module _ (v : Value) (items : List Datum) (vs ws : List Value) (is : v ≡ Listed items) (view : datums vs ≡ items) (slice : ws ≡ vs) where
  datum_is : datum v ≡ list (data_of (datums ws))
  datum_is = ap datum is ∙ ap (λ ds. list (data_of ds)) (sym (ap datums slice ∙ view))

  pub list_range : AllInRange (datums ws) → InRange (datum v)
  list_range r = subst (λ d. InRange d) (sym datum_is) (range_in_list (datums ws) r)

  pub list_spelling : value_spelling (datum v) ≡ 6 ∷ (bytes_high_first 2 (length ws) ++ values_spelling (datums ws))
  list_spelling =
      ap value_spelling datum_is
      ∙ ap (λ n. 6 ∷ (bytes_high_first 2 n ++ data_spelling (data_of (datums ws))))
      (ap length (items_of-data_of (datums ws)) ∙ length_of ws)
      ∙ ap (λ l. 6 ∷ (bytes_high_first 2 (length ws) ++ l)) (data_are (datums ws))

  pub list_size : length (value_spelling (datum v)) ≡ 3 + length (values_spelling (datums ws))
  list_size = ap length list_spelling ∙ (let e : length (values_spelling (datums ws)) ≡ length (values_spelling (datums ws)) = refl in
      omega arith)

pub five : (o a b c d : List ℕ) → (((o ++ a) ++ b) ++ c) ++ d ≡ o ++ (a ++ (b ++ (c ++ d)))
five o a b c d = append_assoc ((o ++ a) ++ b) c d ∙ append_assoc (o ++ a) b (c ++ d) ∙ append_assoc o a (b ++ (c ++ d))
