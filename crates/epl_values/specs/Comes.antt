-- What a function of the code comes to is what the meaning gives, unless memory ran out.
use Rattle.std.specs.Prelude.{◌≡◌, ℕ, ℤ, List, Bool, true, false, Result, Ok, Err}
use Rattle.eden_value.specs.Datum.{Datum, number}
use Rattle.epl_syntax.specs.declared.effect.FaultCause.{FaultCause}
use Rattle.epl_syntax.specs.declared.tree.Operator.{Operator}
use Rattle.epl_syntax.specs.Expressions.{value_of}
use Rattle.epl_syntax.specs.Memory.{Memory, set}
use Rattle.epl_syntax.specs.Tree.{Expression}
use Rattle.epl_syntax.specs.Operators.{Found, found, between, of_both}
use Rattle.epl_values.specs.declared.stop.Stop.{Stop}
use Rattle.epl_values.specs.declared.stop.Stop.TheVariants as stop

-- it stopped by the fault that the meaning has, or for want of memory
abbrev pub Stops : {Y : Type 0} → Stop → Result Y FaultCause → Type 0
Stops stop.Memory meant = Unit {0}
Stops (stop.Fault cause) meant = meant ≡ Err cause

-- it came to the value that is meant
abbrev pub Comes : {X Y : Type 0} → (X → Y) → Result X Stop → Result Y FaultCause → Type 0
Comes view (Ok x) meant = meant ≡ Ok (view x)
Comes view (Err e) meant = Stops e meant

-- whether the left value of an operator is that of the whole, whatever the right side comes to
abbrev pub Decided : Bool → Operator → Datum → Type 0
Decided true operator left = (right : Found) → between operator left right ≡ Ok left
Decided false operator left = (right : Found) → between operator left right ≡ found right (of_both operator left)

-- an expression that comes to a number
abbrev pub IsNumber : Memory → Expression → ℤ → Type 0
IsNumber m e n = value_of m e ≡ Ok (number n)

-- two values that may be joined, or the fault of it
abbrev pub Joins : Result (Unit {0}) FaultCause → Found → Type 0
Joins (Ok done) meant = (d : Datum) × (meant ≡ Ok d)
Joins (Err cause) meant = meant ≡ Err cause

-- a variable gets the value
abbrev pub setting : List ℕ → Memory → Datum → Result Memory FaultCause
setting name m d = Ok (set name d m)

-- The variables of the code have become those that are meant; where the meaning faults they stay.
abbrev pub Moves : Result (Unit {0}) Stop → Memory → Memory → Result Memory FaultCause → Type 0
Moves (Ok done) new old meant = meant ≡ Ok new
Moves (Err stop.Memory) new old meant = Unit {0}
Moves (Err (stop.Fault cause)) new old meant = (meant ≡ Err cause) × (new ≡ old)
