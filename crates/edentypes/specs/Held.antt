-- The values of an Eject's variables, whatever holds them.
use Rattle.std.specs.Prelude.{List}
use Rattle.eden_value.specs.Datum.{Datum}
use Rattle.edentypes.specs.declared.held.Held.{Held}
use Rattle.edentypes.specs.declared.held.Held.TheVariants.{Plain, Entries}

-- in order of declaration
abbrev pub held_values : Held → List Datum
held_values (Plain items) = items
held_values (Entries directory) = directory
