-- The native type Cell: it holds an integer, which is 0 at first.
--
--   Set    needs right 1 (bit 0), takes an integer, returns nothing: the value is that integer
--   Get    needs 2, returns the value
--   Save   needs 4, makes a checkpoint and returns the number of its status
--   Sleep  needs 8, deactivates the Cell
--   Kill   needs 16, destroys the Cell and returns the number of the status, where that is not 0
use Rattle.std.specs.Prelude.{ℕ, ℤ, pos, true, cond, List, [], ◌∷◌, codes}
use Rattle.eden_value.specs.Datum.{Datum, number}
use Rattle.eden_value.specs.Shape.{ints}
use Rattle.eden_value.specs.Status.{status_number}
use Rattle.eden_model.specs.Map.{same_text}
use Rattle.epl_syntax.specs.declared.effect.Answer.{Answer}
use Rattle.epl_syntax.specs.declared.effect.Answer.TheVariants.{Code}
use Rattle.epl_syntax.specs.declared.effect.Effect.{Effect}
use Rattle.epl_syntax.specs.declared.effect.Effect.TheVariants.{Return, Checkpoint, Deactivate, Destroy}
use Rattle.epl_syntax.specs.Outline.{Outline, kept}
use Rattle.epl_syntax.specs.Simple.{of_one_class, outline}

-- its variables and operations
abbrev pub cell : Outline
cell = outline (codes "Cell") (kept (number (pos 0)) ints true ∷ [])
    (of_one_class (codes "Set") 1 (ints ∷ []) ∷ of_one_class (codes "Get") 2 [] ∷ of_one_class (codes "Save") 4 []
    ∷ of_one_class (codes "Sleep") 8 [] ∷ of_one_class (codes "Kill") 16 [] ∷ [])

-- What is left to do of an operation. Of one that has returned or has lost its active part it is never looked at again.
pub data Stage : Type 0 where
  -- it sets the value and returns
  sets : ℤ → Stage
  -- it returns the value
  gets : Stage
  -- it makes a checkpoint, and then returns the status
  saves saved : Stage
  -- it deactivates the Cell
  sleeps : Stage
  -- it destroys the Cell, and then returns the status
  kills killed : Stage

-- the argument of Set is one integer; an operation begins only with arguments of its kinds
abbrev pub sets_to : List Datum → Stage
sets_to (number n ∷ []) = sets n
sets_to _ = gets

-- how an operation begins
abbrev pub first_stage : List ℕ → List Datum → Stage
first_stage name args =
    cond (same_text name (codes "Set")) (sets_to args)
    (cond (same_text name (codes "Get")) gets
    (cond (same_text name (codes "Save")) saves
    (cond (same_text name (codes "Sleep")) sleeps kills)))

-- the number of a checkpoint's or a destroy's status, as a result
abbrev pub code_of : Answer → List Datum
code_of (Code s) = number (pos (status_number s)) ∷ []
code_of _ = []

-- a turn: the values after it, what is left to do, and the effect
abbrev pub cell_turn : List Datum → Stage → Answer → List Datum × Stage × Effect
cell_turn vars (sets n) answer = (number n ∷ [], sets n, Return [])
cell_turn vars gets answer = (vars, gets, Return vars)
cell_turn vars saves answer = (vars, saved, Checkpoint)
cell_turn vars saved answer = (vars, saved, Return (code_of answer))
cell_turn vars sleeps answer = (vars, sleeps, Deactivate)
cell_turn vars kills answer = (vars, killed, Destroy)
cell_turn vars killed answer = (vars, killed, Return (code_of answer))
