-- The forms of tokens, on lists of bytes.
use Rattle.std.specs.Prelude.{ℕ, ◌+◌, ◌-◌, ◌*◌, Bool, true, false, ◌||◌, ◌&&◌, ◌==◌, List, [], ◌∷◌, length, Option, Some, None, nat_le}
use Rattle.std.specs.Prelude.{if◌then◌else◌}
use Rattle.std.specs.List.{take_while}
pub use Rattle.eden_value.specs.Bytes.{is_name_byte}
use Rattle.eden_value.specs.Bytes.{is_printable}

-- a space or a line feed
abbrev pub is_blank : ℕ → Bool
is_blank b = b == 32 || b == 10

-- 0 to 9
abbrev pub is_digit : ℕ → Bool
is_digit b = nat_le 48 b && nat_le b 57

-- how many bytes a name in front takes: as many as it can
abbrev pub name_length : List ℕ → ℕ
name_length bytes = length (take_while is_name_byte bytes)

-- how many bytes a number in front takes: as many as it can
abbrev pub digit_count : List ℕ → ℕ
digit_count bytes = length (take_while is_digit bytes)

-- the number that has the digits of this one and then these digits
abbrev pub decimal_from : ℕ → List ℕ → ℕ
decimal_from value [] = value
decimal_from value (d ∷ ds) = decimal_from (value * 10 + (d - 48)) ds

-- the number that digits stand for, if it is not past the greatest that may be written
abbrev pub number_of : List ℕ → Option ℕ
number_of digits = if nat_le (decimal_from 0 digits) 9223372036854775807 then Some (decimal_from 0 digits) else None

-- how many bytes of a text are left and how many they stand for, with one byte more in front, which stands for so many
abbrev pub with_byte : ℕ → Option (ℕ × ℕ) → Option (ℕ × ℕ)
with_byte stands None = None
with_byte stands (Some found) = Some (found.0 + 1, found.1 + stands)

-- How many bytes of a text are left up to and with its closing quote, and how many they stand for, right behind a backslash or not.
-- A quote and a backslash stand behind a backslash, and alone they do not. None where no quote closes the text or a byte may not stand.
abbrev pub text_body : Bool → List ℕ → Option (ℕ × ℕ)
text_body escaped [] = None
text_body true (b ∷ bytes) = if b == 34 || b == 92 then with_byte 1 (text_body false bytes) else None
text_body false (b ∷ bytes) =
    if b == 34 then Some (1, 0)
    else (if b == 92 then with_byte 0 (text_body true bytes)
    else (if is_printable b then with_byte 1 (text_body false bytes) else None))

-- both counts with a front of so many bytes more, which stand for so many
abbrev pub with_front : ℕ → ℕ → Option (ℕ × ℕ) → Option (ℕ × ℕ)
with_front taken stands None = None
with_front taken stands (Some found) = Some (taken + found.0, stands + found.1)
