-- Reading values and representations from left to right.
use Rattle.std.specs.Prelude.{ℕ, zero, suc, ◌-◌, ℤ, Bool, true, false, List, [], ◌∷◌, Option, Some, None, Ok, Err}
use Rattle.std.specs.Int.{w64}
use mir.Val.{to_z}
use Rattle.capability.specs.declared.Cap.{Cap}
use Rattle.eden_value.specs.Datum.{Datum, number, truth, text, cap, list, data_of}
use Rattle.eden_value.specs.Bytes.{is_printable}
use Rattle.grammar.specs.Reading.{Reading, Reader, read_then, nothing, mapped, one, one_of, choose, times, counted}
use Rattle.grammar.specs.Numbers.{number_at}
use Rattle.eden_codec.specs.declared.rep.Rep.{Rep}
use Rattle.eden_codec.specs.declared.value.Plain.{Plain}
use Rattle.eden_codec.specs.declared.value.Plain.TheVariants.{Integer as is_int, Truth as is_truth, Text as is_text, Absent as is_none}
use Rattle.eden_codec.specs.declared.value.Plain.TheVariants.{Capability as is_cap}
use Rattle.std.specs.Char.{is_ascii_uppercase}
use Rattle.eden_value.specs.Bytes.{is_name_byte}

-- an integer of 64 bits
abbrev pub int_at : Reader ℕ ℤ
int_at bytes = mapped (to_z w64) (number_at 8 0 18446744073709551615) bytes

-- the truth value of a byte
abbrev pub truth_of : ℕ → Option Bool
truth_of zero = Some false
truth_of (suc zero) = Some true
truth_of (suc (suc b)) = None

-- a truth value
abbrev pub truth_at : Reader ℕ Bool
truth_at bytes = one truth_of bytes

-- a text, behind its length
abbrev pub text_at : Reader ℕ (List ℕ)
text_at bytes = counted (number_at 2 0 1024) (one_of is_printable) bytes

-- a capability: node, epoch, serial and rights
abbrev pub cap_at : Reader ℕ Cap
cap_at bytes =
    read_then (number_at 1 1 8 bytes) (λ node rest.
    read_then (number_at 4 1 4294967295 rest) (λ epoch rest.
    read_then (number_at 4 1 4294967295 rest) (λ serial rest.
    read_then (number_at 2 0 65535 rest) (λ rights.
    nothing (record { uid = record { node = node; epoch = epoch; serial = serial }; rights = record { bits = rights } })))))

-- the values of a representation, behind their number
abbrev pub row_at : Reader ℕ Datum → Reader ℕ (List Datum)
row_at read bytes = counted (number_at 1 0 64) read bytes

-- the items of a list, behind their number
abbrev pub items_at : Reader ℕ Datum → Reader ℕ (List Datum)
items_at read bytes = counted (number_at 2 0 256) read bytes

-- what the first byte says of a value that is no list
abbrev pub plain_of : ℕ → Option Plain
plain_of zero = None
plain_of (suc zero) = Some is_int
plain_of (suc (suc zero)) = Some is_truth
plain_of (suc (suc (suc zero))) = Some is_text
plain_of (suc (suc (suc (suc zero)))) = Some is_none
plain_of (suc (suc (suc (suc (suc zero))))) = Some is_cap
plain_of (suc (suc (suc (suc (suc (suc b)))))) = None

-- what stands behind the first byte of a value that is no list
abbrev pub plain_at : Plain → Reader ℕ Datum
plain_at is_int bytes = mapped number int_at bytes
plain_at is_truth bytes = mapped truth truth_at bytes
plain_at is_text bytes = mapped text text_at bytes
plain_at is_none bytes = nothing (cap None) bytes
plain_at is_cap bytes = mapped (λ c. cap (Some c)) cap_at bytes

-- what the first byte says of a value; None is a list
abbrev pub kind_of : ℕ → Option (Option Plain)
kind_of zero = None
kind_of (suc zero) = Some (Some is_int)
kind_of (suc (suc zero)) = Some (Some is_truth)
kind_of (suc (suc (suc zero))) = Some (Some is_text)
kind_of (suc (suc (suc (suc zero)))) = Some (Some is_none)
kind_of (suc (suc (suc (suc (suc zero))))) = Some (Some is_cap)
kind_of (suc (suc (suc (suc (suc (suc zero)))))) = Some None
kind_of (suc (suc (suc (suc (suc (suc (suc b))))))) = None

-- what stands behind the first byte of a value
abbrev pub any_at : (Reader ℕ Datum) → Option Plain → Reader ℕ Datum
any_at inner None bytes = mapped (λ ds. list (data_of ds)) (items_at inner) bytes
any_at inner (Some p) bytes = plain_at p bytes

-- a value in which lists nest at most so deep
abbrev pub value_at : (depth : ℕ) → Reader ℕ Datum
value_at zero bytes = choose plain_of plain_at bytes
value_at (suc depth) bytes = choose kind_of (any_at (value_at depth)) bytes

-- a type's name, behind its length
abbrev pub name_at : Reader ℕ (List ℕ)
name_at bytes =
    read_then (number_at 1 1 32 bytes) (λ n rest.
    read_then (one_of is_ascii_uppercase rest) (λ a.
    mapped (λ more. a ∷ more) (times (n - 1) (one_of is_name_byte))))

-- a representation
abbrev pub rep_at : Reader ℕ Rep
rep_at bytes =
    read_then (number_at 1 1 1 bytes) (λ _ rest.
    read_then (name_at rest) (λ name rest.
    read_then (number_at 2 1 65535 rest) (λ version.
    mapped (λ values. record { type_name = name; version = version; values = values }) (row_at (value_at 4)))))

-- the representation that all of the bytes spell, if they spell one
abbrev pub if_read : {A : Type 0} → Reading ℕ A → Option A
if_read (Ok (a, [])) = Some a
if_read (Ok (a, b ∷ rest)) = None
if_read (Err left) = None

-- the representation that bytes spell, all of them
abbrev pub reading : List ℕ → Option Rep
reading bytes = if_read (rep_at bytes)
