-- Scripts of a wire.
use Rattle.std.specs.Prelude.{ℕ, zero, suc, ◌≤◌, List, [], ◌∷◌, Option, Some, None, codes}
use Rattle.eden_value.specs.Datum.{Datum}
use Rattle.line_forms.specs.Forms.{Kind, Last, nothing, datum, Row}
use Rattle.line_forms.specs.declared.form.Place.{Place}
use Rattle.line_forms.specs.declared.form.Mark.TheVariants.{Blank}
use Rattle.line_forms.specs.declared.form.Bound.TheVariants.{UpTo, Station}
use Rattle.line_forms.specs.declared.form.Ending.TheVariants.{Nothing, Value}
use Rattle.lossy_wire.specs.Wire.{IsStation}

-- what a line asks for
pub data Command : Type 0 where
  sends : (a b : ℕ) → Datum → Command
  repeats : (a b : ℕ) → Command
  carries : (a b i : ℕ) → Command

-- a place for the number of a station
abbrev pub station : Place
station = record { mark = Blank; low = 1; high = Station }

-- a place for the number of a packet
abbrev pub packet_number : Place
packet_number = record { mark = Blank; low = 1; high = UpTo 4294967295 }

-- the forms of lines: `stations N`, then `send A B VALUE`, `again A B` and `carry A B I`
abbrev pub wire_kind : Kind
wire_kind = record {
  first = record { word = codes "stations"; places = record { mark = Blank; low = 2; high = UpTo 8 } ∷ []; ending = Nothing };
  others =
      record { word = codes "send"; places = station ∷ station ∷ []; ending = Value }
      ∷ record { word = codes "again"; places = station ∷ station ∷ []; ending = Nothing }
      ∷ record { word = codes "carry"; places = station ∷ station ∷ packet_number ∷ []; ending = Nothing }
      ∷ [];
}

-- the command of a row by its form, its numbers and its end
abbrev pub command_by : ℕ → List ℕ → Last → Option Command
command_by zero (a ∷ b ∷ []) (datum d) = Some (sends a b d)
command_by (suc zero) (a ∷ b ∷ []) nothing = Some (repeats a b)
command_by (suc (suc zero)) (a ∷ b ∷ i ∷ []) nothing = Some (carries a b i)
command_by _ ns l = None

-- the command of a row; each row of a script has one
abbrev pub command_of : Row → Option Command
command_of r = command_by r.form r.numbers r.last

-- the stations of a command are from 1 to 8, and its packet has a number from 1
abbrev pub IsInReach : Command → Type 0
IsInReach (sends a b d) = IsStation a × IsStation b
IsInReach (repeats a b) = IsStation a × IsStation b
IsInReach (carries a b i) = IsStation a × IsStation b × (1 ≤ i)

-- there is a command, and it is in reach
abbrev pub IsMeant : Option Command → Type 0
IsMeant None = ⊥
IsMeant (Some c) = IsInReach c

-- the row has a command, which is in reach
abbrev pub HasMeaning : Row → Type 0
HasMeaning r = IsMeant (command_of r)

-- so it is with all of these commands
abbrev pub AllInReach : List Command → Type 0
AllInReach [] = Unit {0}
AllInReach (c ∷ cs) = IsInReach c × AllInReach cs
