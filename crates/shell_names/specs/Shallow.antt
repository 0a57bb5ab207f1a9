-- Values in which lists nest at most so deep.
use Rattle.std.specs.Prelude.{ℕ, nat_le, cond, List, Option, None, Some}
use Rattle.eden_value.specs.Datum.{Datum, Data, items_of}
use Rattle.eden_value.specs.Limits.{depth, depths}
use Rattle.eden_model.specs.Map.{with_item}

-- the value, if lists nest in it at most so deep
abbrev pub shallow : ℕ → Option Datum → Option Datum
shallow most o = with_item o (λ d. cond (nat_le (depth d) most) (Some d) None) None

-- values in a row, if lists nest in each of them at most so deep
abbrev pub shallow_all : ℕ → Option Data → Option (List Datum)
shallow_all most o = with_item o (λ ds. cond (nat_le (depths ds) most) (Some (items_of ds)) None) None
