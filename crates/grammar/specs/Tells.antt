-- What a function of the code read is what a reader with one symbol of lookahead gives, unless memory ran out.
use Rattle.std.specs.Prelude.{◌≡◌, Result, Ok, Err}
use Rattle.grammar.specs.Depths.{Fault, bad, deep}
use Rattle.grammar.specs.declared.halt.Halt.{Halt}
use Rattle.grammar.specs.declared.halt.Halt.TheVariants.{Memory, Bad, Deep}

-- a reader of the code halts where the definition does, or for want of memory
abbrev pub Halts : {Y : Type 0} → Halt → Result Y Fault → Type 0
Halts Memory look = Unit {0}
Halts (Bad left) look = look ≡ Err (bad left)
Halts (Deep left) look = look ≡ Err (deep left)

-- a reader of the code tells what the definition tells
abbrev pub Tells : {X Y : Type 0} → (X → Y) → Result X Halt → Result Y Fault → Type 0
Tells view (Ok x) look = look ≡ Ok (view x)
Tells view (Err e) look = Halts e look
