-- Where the rows of a script of a wire begin, and the values in them.
use Rattle.std.specs.Prelude.{◌≡◌, ℕ, ◌≤◌, List, [], ◌∷◌, length, Some}
use Rattle.std.specs.List.{All}
use Rattle.eden_value.specs.Datum.{Datum}
use Rattle.line_forms.specs.Forms.{Row, datum}
use Rattle.line_forms.specs.Scripts.{IsScript}
use Rattle.line_forms.specs.Spots.{IsRowAt, AreAt}
use Rattle.lossy_wire.specs.Commands.{Command, wire_kind, command_of, HasMeaning}
use Rattle.lossy_wire.specs.declared.commands.Script.{Script}

-- The bytes spell a script of a wire with so many stations, whose rows begin at these spots; each row has a command, and there are at most
-- as many as bytes.
pub record IsReadAs (bytes : List ℕ) (stations : ℕ) (spots : List ℕ) : Type 0 where
  pub rows : List Row
  pub script : IsScript wire_kind bytes stations rows
  pub at : AreAt wire_kind bytes stations spots rows
  pub meaning : All HasMeaning rows
  pub few : length rows ≤ length bytes

-- at this spot begins a row of a script
abbrev pub IsRowOf : Script → ℕ → Row → Type 0
IsRowOf script spot r = IsRowAt wire_kind script.bytes.now script.stations spot r

-- at this spot begins a row with this command
abbrev pub IsCommandAt : Script → ℕ → Command → Type 0
IsCommandAt script spot c = (r : Row) × IsRowOf script spot r × (command_of r ≡ Some c)

-- at this spot begins a row with this value
abbrev pub IsValueAt : Script → ℕ → Datum → Type 0
IsValueAt script spot d = (r : Row) × IsRowOf script spot r × (r.last ≡ datum d)

-- at these spots begin rows with these values, one by one
abbrev pub AreValuesAt : Script → List ℕ → List Datum → Type 0
AreValuesAt script [] [] = Unit {0}
AreValuesAt script [] (d ∷ ds) = ⊥
AreValuesAt script (spot ∷ spots) [] = ⊥
AreValuesAt script (spot ∷ spots) (d ∷ ds) = IsValueAt script spot d × AreValuesAt script spots ds

-- so it is of each pair of stations
abbrev pub AllValuesAt : Script → List (List ℕ) → List (List Datum) → Type 0
AllValuesAt script [] [] = Unit {0}
AllValuesAt script [] (ds ∷ all) = ⊥
AllValuesAt script (spots ∷ lists) [] = ⊥
AllValuesAt script (spots ∷ lists) (ds ∷ all) = AreValuesAt script spots ds × AllValuesAt script lists all
