-- Where a line is bad for a cause.
use Rattle.std.specs.Prelude.{◌≡◌, ℕ, ◌+◌, ◌-◌, ◌≤◌, ◌==◌, Bool, not, List, [], ◌∷◌, length, reverse, codes, if◌then◌else◌}
use Rattle.std.specs.Char.{is_ascii_uppercase}
use Rattle.std.specs.List.{take_while}
use Rattle.script_words.specs.Form.{is_printable}
use Rattle.script_words.specs.Form.{is_among}
use Rattle.script_words.specs.Causes.{first_word}
use Rattle.script_words.specs.declared.cause.ScriptCause.{ScriptCause}
use Rattle.script_words.specs.declared.cause.ScriptCause.TheVariants.{BadByte, LongLine, AfterEnd, NoCommand, Misplaced, BadForm}
use Rattle.script_words.specs.declared.cause.ScriptCause.TheVariants.{BadNumber, UnknownName, UnknownType, DoubledName, BadEdentype}
use Rattle.script_words.specs.declared.cause.ScriptCause.TheVariants.{NoEnd}

-- how many bytes stand behind the last byte of this value, or all of them where it stands nowhere
abbrev pub length_behind : ℕ → List ℕ → ℕ
length_behind b bytes = length (take_while (λ c. not (c == b)) (reverse bytes))

-- any byte but a capital letter
abbrev pub is_no_capital : ℕ → Bool
is_no_capital b = not (is_ascii_uppercase b)

-- the words of the commands that introduce a name
abbrev pub naming_words : List (List ℕ)
naming_words = codes "create" ∷ codes "hold" ∷ codes "call" ∷ codes "restrict" ∷ codes "walk" ∷ []

-- how many bytes stand before a name that is introduced a second time: the word of the command and a blank, or, in an Edentype, what
-- stands before the first capital letter
abbrev pub doubled_place : List ℕ → ℕ
doubled_place text =
    if is_among naming_words (first_word text) then length (first_word text) + 1 else length (take_while is_no_capital text)

-- it is the column of a byte of the line, or of its end
pub record IsWithin (text : List ℕ) (column : ℕ) : Type 0 where
  pub first : 1 ≤ column
  pub last : column ≤ length text + 1

-- The column, counted from 1, at which a line is bad for a cause: the first byte that is none of a line's, the first byte too many, the
-- name of a type that is not known, a name that is introduced a second time. A cause that is of the whole line is told at its beginning.
abbrev pub IsColumn : ScriptCause → List ℕ → ℕ → Type 0
IsColumn BadByte text column = column ≡ length (take_while is_printable text) + 1
IsColumn LongLine text column = column ≡ 4097
IsColumn AfterEnd text column = column ≡ 1
IsColumn NoCommand text column = column ≡ 1
IsColumn Misplaced text column = column ≡ 1
IsColumn BadForm text column = IsWithin text column
IsColumn BadNumber text column = IsWithin text column
IsColumn UnknownName text column = IsWithin text column
IsColumn UnknownType text column = column ≡ length text - length_behind 32 text + 1
IsColumn DoubledName text column = column ≡ doubled_place text + 1
IsColumn BadEdentype text column = column ≡ 1
IsColumn NoEnd text column = column ≡ 1
