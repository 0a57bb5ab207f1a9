-- Classes of bytes that texts and names are made of.
use Rattle.std.specs.Prelude.{ℕ, ◌&&◌, ◌||◌, ◌==◌, Bool, nat_le}
use Rattle.std.specs.Char.{is_ascii_alphanumeric}

-- a space, or a character of ASCII that is seen
abbrev pub is_printable : ℕ → Bool
is_printable b = nat_le 0x20 b && nat_le b 0x7E

-- the byte of _
abbrev pub underscore : ℕ
underscore = 95

-- a letter, a digit or an underscore
abbrev pub is_name_byte : ℕ → Bool
is_name_byte b = is_ascii_alphanumeric b || b == underscore
