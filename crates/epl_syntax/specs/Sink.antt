-- The native type Sink, the last stage of a stream: it keeps the items of the stage before, at most 256.
--
--   Open  needs right 1, takes a capability of the stage before, returns 1 where it is open or the capability is absent, else keeps it and
--         returns 0, or 3 where it was not saved
--   Pump  needs 2, takes a number of items to take, returns a code and how many are held: 0 where so many were taken, 1 at the end of the
--         stream, 2 where 256 are held, 3 where there is trouble or it is not open
--   Read  needs 4, returns the items
use Rattle.std.specs.Prelude.{ℕ, ◌+◌, ◌==◌, ℤ, pos, int_le, Bool, true, false, not, cond, ◌||◌, List, [], ◌∷◌, ◌++◌, length, Option}
use Rattle.std.specs.Prelude.{None, is_some, codes}
use Rattle.capability.specs.declared.Cap.{Cap}
use Rattle.eden_value.specs.Datum.{Datum, number, truth, text, cap, list, no_data, data_of}
use Rattle.eden_value.specs.Shape.{ints, texts, caps, lists}
use Rattle.eden_value.specs.declared.value.TheConstants.{LIST_LIMIT}
use Rattle.eden_model.specs.Map.{with_item, is_none, same_text}
use Rattle.epl_syntax.specs.declared.effect.Answer.{Answer}
use Rattle.epl_syntax.specs.declared.effect.Effect.{Effect}
use Rattle.epl_syntax.specs.declared.effect.Effect.TheVariants.{Return, Checkpoint}
use Rattle.epl_syntax.specs.Outline.{Outline, kept}
use Rattle.epl_syntax.specs.Simple.{of_one_class, outline, argument, items_in, number_in, truth_in, cap_in, returns_code, is_fine}
use Rattle.epl_syntax.specs.Streams.{saved_slot, item_code, end_code, out_of_reach, trouble, asks_for, Came, an_item, the_end, nothing}
use Rattle.epl_syntax.specs.Streams.{came}

-- its variables and operations
abbrev pub sink : Outline
sink = outline (codes "Sink") (kept (cap None) caps true ∷ kept (list no_data) (lists texts) true ∷ saved_slot ∷ [])
    (of_one_class (codes "Open") 1 (caps ∷ []) ∷ of_one_class (codes "Pump") 2 (ints ∷ []) ∷ of_one_class (codes "Read") 4 [] ∷ [])

-- what is in the variables
pub record Drain : Type 0 where
  pub src : Option Cap
  pub items : List Datum
  pub saved : Bool

-- what is in variables with these values
abbrev pub drain : List Datum → Drain
drain vars = record { src = cap_in (argument 0 vars); items = items_in (argument 1 vars); saved = truth_in (argument 2 vars) }

-- the values of variables in which this is
abbrev pub values_of : Drain → List Datum
values_of s = cap s.src ∷ list (data_of s.items) ∷ truth s.saved ∷ []

-- what is left to do of an operation
pub data Stage : Type 0 where
  -- it is opened with a capability, and then saved
  opens : (src : Option Cap) → Stage
  open_saved : Stage
  -- it takes so many items, of which so many were taken: the stage before was asked, or the last item was saved
  pumps : (wanted : ℤ) → Stage
  asked item_saved : (wanted : ℤ) (taken : ℕ) → Stage
  -- it returns the items
  reads : Stage

-- how an operation begins
abbrev pub first_stage : List ℕ → List Datum → Stage
first_stage name args =
    cond (same_text name (codes "Open")) (opens (cap_in (argument 0 args)))
    (cond (same_text name (codes "Pump")) (pumps (number_in (argument 0 args))) reads)

-- what a turn comes to: the values after it, what is left to do, and the effect
abbrev pub Moved : Type 0
Moved = List Datum × Stage × Effect

-- the turn ends in an answer
abbrev pub answers : Drain → Effect → Moved
answers s effect = (values_of s, reads, effect)

-- a code, and how many items are held
abbrev pub counts : Drain → ℕ → Moved
counts s code = answers s (Return (number (pos code) ∷ number (pos (length s.items)) ∷ []))

-- it is saved, and goes on so
abbrev pub saves : Drain → Stage → Moved
saves s then_ = (values_of (record s { saved = false }), then_, Checkpoint)

-- where so many items were taken: it is saved, or all was taken, or it is full, or the stage before is asked for the next item
abbrev pub goes_on : Drain → ℤ → ℕ → Moved
goes_on s wanted taken =
    cond (not s.saved) (saves s (item_saved wanted taken))
    (cond (int_le wanted (pos taken)) (counts s item_code)
    (cond (length s.items == LIST_LIMIT) (counts s out_of_reach)
    (with_item s.src (λ c. (values_of s, asked wanted taken, asks_for c (pos (length s.items)))) (counts s trouble))))

-- what the stage before answered is taken: an item is added last, and not saved yet
abbrev pub after_asking : Drain → ℤ → ℕ → Came → Moved
after_asking s wanted taken (an_item item) = goes_on (record s { items = s.items ++ text item ∷ []; saved = false }) wanted (taken + 1)
after_asking s wanted taken the_end = counts s end_code
after_asking s wanted taken nothing = counts s trouble

-- a turn: the values after it, what is left to do, and the effect
abbrev pub sink_turn : List Datum → Stage → Answer → Moved
sink_turn vars (opens src) answer = let s = drain vars in
    cond (is_some s.src || is_none src) (answers s (returns_code 1)) (saves (record s { src = src }) open_saved)
sink_turn vars open_saved answer = let s = drain vars in
    cond (is_fine answer) (answers (record s { saved = true }) (returns_code 0)) (answers s (returns_code trouble))
sink_turn vars (pumps wanted) answer = let s = drain vars in cond (is_none s.src) (counts s trouble) (goes_on s wanted 0)
sink_turn vars (asked wanted taken) answer = after_asking (drain vars) wanted taken (came answer)
sink_turn vars (item_saved wanted taken) answer = let s = drain vars in
    cond (is_fine answer) (goes_on (record s { saved = true }) wanted taken) (counts s trouble)
sink_turn vars reads answer = (vars, reads, Return (argument 1 vars ∷ []))
