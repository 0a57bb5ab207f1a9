-- What a function of the code read is what a reader gives, unless memory ran out.
use Rattle.std.specs.Prelude.{◌≡◌, ℕ, Result, Ok, Err}
use Rattle.grammar.specs.declared.stop.Stop.{Stop}
use Rattle.grammar.specs.declared.stop.Stop.TheVariants.{Memory, At}

-- a reader of the code failed as the definition does, or for want of memory
abbrev pub Fails : {Y : Type 0} → Stop → Result Y ℕ → Type 0
Fails Memory read = Unit {0}
Fails (At left) read = read ≡ Err left

-- a reader of the code gives what the definition gives
abbrev pub Gives : {X Y : Type 0} → (X → Y) → Result X Stop → Result Y ℕ → Type 0
Gives view (Ok x) read = read ≡ Ok (view x)
Gives view (Err e) read = Fails e read
