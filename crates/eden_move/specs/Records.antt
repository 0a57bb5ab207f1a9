-- Records of Ejects that wander, and the bytes in which they are kept.
use Rattle.std.specs.Prelude.{◌≡◌, ℕ, ℤ, pos, ◌==◌, ◌&&◌, Bool, true, nat_le, nat_lt, List, [], ◌∷◌, length, Option, None, Some}
use Rattle.std.specs.Prelude.{if◌then◌else◌}
use Rattle.std.specs.Bool.{nat_eq}
use Rattle.std.specs.Cmp.Lexicographic.{pointwise}
use Rattle.eden_value.specs.Datum.{Datum, number}
use Rattle.eden_value.specs.Limits.{IsValue}
use Rattle.eden_value.specs.View.{datum}
use Rattle.capability.specs.declared.TheConstants.{BODY_LIMIT}
use Rattle.eden_codec.specs.declared.rep.Rep.{Rep}
use Rattle.eden_codec.specs.Spelling.{spelling}
use Rattle.eden_codec.specs.Reading.{reading}
use Rattle.move_laws.specs.Wander.{Record, Here, Lent, Gone}
use Rattle.eden_move.specs.declared.record.Record.{Record as Coded}
use Rattle.eden_move.specs.declared.record.Record.TheVariants.{Here as CodedHere, Lent as CodedLent, Gone as CodedGone}

-- the name of their type: Record
abbrev pub record_name : List ℕ
record_name = 82 ∷ 101 ∷ 99 ∷ 111 ∷ 114 ∷ 100 ∷ []

-- a number as a value
abbrev pub int_value : ℕ → Datum
int_value n = number (pos n)

-- state, generation and another node; and the value, where there is one
abbrev pub record_values : Record Datum → List Datum
record_values (Here g v) = number (pos 0) ∷ number (pos g) ∷ number (pos 0) ∷ v ∷ []
record_values (Lent g to v) = number (pos 1) ∷ number (pos g) ∷ number (pos to) ∷ v ∷ []
record_values (Gone g to) = number (pos 2) ∷ number (pos g) ∷ number (pos to) ∷ []

-- a record as a representation
abbrev pub record_rep : Record Datum → Rep
record_rep r = record { type_name = record_name; version = 1; values = record_values r }

-- the bytes in which it is kept
abbrev pub record_bytes : Record Datum → List ℕ
record_bytes r = spelling (record_rep r)

-- generation and other node are those of a record
abbrev pub in_bounds : ℕ → ℕ → Bool
in_bounds g other = nat_le 1 g && (nat_le g 4294967295 && nat_le other 8)

-- the one of a row of one
abbrev pub only_one : List Datum → Option Datum
only_one (v ∷ []) = Some v
only_one _ = None

-- the record that ends in these values: a value, where the Eject has not gone
abbrev pub with_value : (Datum → Record Datum) → List Datum → Option (Record Datum)
with_value f (v ∷ []) = Some (f v)
with_value f _ = None

abbrev pub with_none : Record Datum → List Datum → Option (Record Datum)
with_none r [] = Some r
with_none r (v ∷ vs) = None

-- the record of this state, if it is one
abbrev pub record_at : ℕ → ℕ → ℕ → List Datum → Option (Record Datum)
record_at state g other vs =
    if state == 0 then with_value (Here g) vs
    else (if state == 1 then with_value (Lent g other) vs
    else (if state == 2 then with_none (Gone g other) vs
    else None))

-- what values say, if they say a record
abbrev pub record_by : List Datum → Option (Record Datum)
record_by (number (pos state) ∷ number (pos g) ∷ number (pos other) ∷ vs) = if in_bounds g other then record_at state g other vs else None
record_by _ = None

-- the first of values, where it is an integer, and the rest
abbrev pub int_first : List Datum → Option (ℤ × List Datum)
int_first (number z ∷ ds) = Some (z, ds)
int_first _ = None

-- the record of a representation, if it is one
abbrev pub record_of : Option Rep → Option (Record Datum)
record_of None = None
record_of (Some r) = if pointwise nat_eq r.type_name record_name && r.version == 1 then record_by r.values else None

-- the record that the bytes spell, if they spell one; what is longer than a representation may be spells none
abbrev pub record_in : List ℕ → Option (Record Datum)
record_in bytes = if nat_lt BODY_LIMIT (length bytes) then None else record_of (reading bytes)

-- whether a record is longer than a representation may be
abbrev pub is_long : Record Datum → Bool
is_long r = nat_lt BODY_LIMIT (length (record_bytes r))

-- a record whose numbers and value are within their limits
abbrev pub IsRecord : Record Datum → Type 0
IsRecord (Here g v) = (in_bounds g 0 ≡ true) × IsValue 4 v
IsRecord (Lent g to v) = (in_bounds g to ≡ true) × IsValue 4 v
IsRecord (Gone g to) = in_bounds g to ≡ true

-- a record of the code, as plain data
abbrev pub seen_record : Coded → Record Datum
seen_record (CodedHere g v) = Here g (datum v)
seen_record (CodedLent g to v) = Lent g to (datum v)
seen_record (CodedGone g to) = Gone g to
