-- The bytes of the alphabets.
use Rattle.std.specs.Prelude.{ℕ, Bool}
use Rattle.eden_codec.specs.declared.field.Alphabet.{Alphabet}
use Rattle.eden_codec.specs.declared.field.Alphabet.TheVariants.{Printable, Upper, Name}
use Rattle.std.specs.Char.{is_ascii_uppercase}
use Rattle.eden_value.specs.Bytes.{is_printable, is_name_byte}

-- the bytes of an alphabet
abbrev pub in_alphabet : Alphabet → ℕ → Bool
in_alphabet Printable = is_printable
in_alphabet Upper = is_ascii_uppercase
in_alphabet Name = is_name_byte
