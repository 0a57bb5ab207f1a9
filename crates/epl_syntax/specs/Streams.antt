-- What stages of streams share. Each hands its items out by Transfer, which takes a position, and returns a code and a text:
-- 0 with the item there, 1 at the end, 2 where the position is out of reach, 3 where there is trouble and it may be tried again.
-- Beside a code that is not 0 the text is empty. What a stage has taken in it saves before it answers: `saved`, its last variable, is
-- working and true at first, and false from a change until a checkpoint is acknowledged.
use Rattle.std.specs.Prelude.{ℕ, ℤ, zero, suc, pos, true, false, List, [], ◌∷◌, codes}
use Rattle.capability.specs.declared.Cap.{Cap}
use Rattle.eden_value.specs.Datum.{Datum, number, truth, text}
use Rattle.eden_value.specs.Shape.{truths}
use Rattle.eden_value.specs.declared.status.Status.TheVariants as status
use Rattle.epl_syntax.specs.declared.effect.Answer.{Answer}
use Rattle.epl_syntax.specs.declared.effect.Answer.TheVariants.{Reply}
use Rattle.epl_syntax.specs.declared.effect.Effect.{Effect}
use Rattle.epl_syntax.specs.declared.effect.Effect.TheVariants.{Return, Invoke}
use Rattle.epl_syntax.specs.Outline.{Slot, kept}

-- the variable `saved`
abbrev pub saved_slot : Slot
saved_slot = kept (truth true) truths false

-- code 0: an item
abbrev pub item_code : ℕ
item_code = 0

-- code 1: the end
abbrev pub end_code : ℕ
end_code = 1

-- code 2: the position is out of reach, or a Sink is full
abbrev pub out_of_reach : ℕ
out_of_reach = 2

-- code 3: trouble, try again
abbrev pub trouble : ℕ
trouble = 3

-- an item is returned
abbrev pub returns_item : Datum → Effect
returns_item item = Return (number (pos item_code) ∷ item ∷ [])

-- another code is returned, and no item
abbrev pub returns_none : ℕ → Effect
returns_none code = Return (number (pos code) ∷ text [] ∷ [])

-- the stage before is asked for the item at a position
abbrev pub asks_for : Cap → ℤ → Effect
asks_for src position = Invoke src (codes "Transfer") (number position ∷ [])

-- what it answered: an item, that there is none left, or anything else
pub data Came : Type 0 where
  an_item : List ℕ → Came
  the_end : Came
  nothing : Came

-- an item and the end come with status 0, a code and a text, and nothing behind them
abbrev pub came : Answer → Came
came (Reply status.Ok (number (pos zero) ∷ text t ∷ [])) = an_item t
came (Reply status.Ok (number (pos (suc zero)) ∷ text t ∷ [])) = the_end
came _ = nothing
