-- The native type Lines, the first stage of a stream: a list of texts that is filled once.
--
--   Fill      needs right 1, takes a list of texts, returns 1 where it is filled, else keeps them and returns 0, or 3 where they were not
--             saved
--   Transfer  needs 2, takes a position, returns a code and an item as all stages do; 3 where it is not filled
use Rattle.std.specs.Prelude.{ℕ, ◌==◌, ℤ, pos, negsuc, Bool, true, false, cond, List, [], ◌∷◌, length, slice_get, codes}
use Rattle.eden_value.specs.Datum.{Datum, truth, list, no_data, data_of}
use Rattle.eden_value.specs.Shape.{ints, truths, texts, lists}
use Rattle.eden_model.specs.Map.{with_item, same_text}
use Rattle.epl_syntax.specs.declared.effect.Answer.{Answer}
use Rattle.epl_syntax.specs.declared.effect.Effect.{Effect}
use Rattle.epl_syntax.specs.declared.effect.Effect.TheVariants.{Checkpoint}
use Rattle.epl_syntax.specs.Outline.{Outline, kept}
use Rattle.epl_syntax.specs.Simple.{of_one_class, outline, argument, items_in, number_in, truth_in, returns_code, is_fine}
use Rattle.epl_syntax.specs.Streams.{saved_slot, end_code, out_of_reach, trouble, returns_item, returns_none}

-- its variables and operations
abbrev pub lines : Outline
lines = outline (codes "Lines") (kept (truth false) truths true ∷ kept (list no_data) (lists texts) true ∷ saved_slot ∷ [])
    (of_one_class (codes "Fill") 1 (lists texts ∷ []) ∷ of_one_class (codes "Transfer") 2 (ints ∷ []) ∷ [])

-- what is in the variables
pub record Source : Type 0 where
  pub filled : Bool
  pub items : List Datum
  pub saved : Bool

-- what is in variables with these values
abbrev pub source : List Datum → Source
source vars = record { filled = truth_in (argument 0 vars); items = items_in (argument 1 vars); saved = truth_in (argument 2 vars) }

-- the values of variables in which this is
abbrev pub values_of : Source → List Datum
values_of s = truth s.filled ∷ list (data_of s.items) ∷ truth s.saved ∷ []

-- what is left to do of an operation
pub data Stage : Type 0 where
  -- it is filled with items, and then saved
  fills : (items : List Datum) → Stage
  fill_saved : Stage
  -- it hands out the item at a position, saved before where it was not
  transfers transfer_saved : (position : ℤ) → Stage

-- how an operation begins
abbrev pub first_stage : List ℕ → List Datum → Stage
first_stage name args = cond (same_text name (codes "Fill")) (fills (items_in (argument 0 args))) (transfers (number_in (argument 0 args)))

-- the item at a position is returned; right behind the last one the end, and elsewhere that it is out of reach
abbrev pub item_at : List Datum → ℤ → Effect
item_at items (pos i) = with_item (slice_get items i) returns_item (returns_none (cond (i == length items) end_code out_of_reach))
item_at items (negsuc i) = returns_none out_of_reach

-- it is saved, and goes on so
abbrev pub saves : Source → Stage → List Datum × Stage × Effect
saves s then_ = (values_of (record s { saved = false }), then_, Checkpoint)

-- a turn: the values after it, what is left to do, and the effect
abbrev pub lines_turn : List Datum → Stage → Answer → List Datum × Stage × Effect
lines_turn vars (fills items) answer = let s = source vars in
    cond s.filled (vars, fill_saved, returns_code 1) (saves (record s { filled = true; items = items }) fill_saved)
lines_turn vars fill_saved answer = let s = source vars in
    cond (is_fine answer) (values_of (record s { saved = true }), fill_saved, returns_code 0) (vars, fill_saved, returns_code trouble)
lines_turn vars (transfers p) answer = let s = source vars in
    cond s.filled (cond s.saved (vars, fill_saved, item_at s.items p) (saves s (transfer_saved p))) (vars, fill_saved, returns_none trouble)
lines_turn vars (transfer_saved p) answer = let s = source vars in
    cond (is_fine answer) (values_of (record s { saved = true }), fill_saved, item_at s.items p) (vars, fill_saved, returns_none trouble)
