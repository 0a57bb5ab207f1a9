-- Reading a line from left to right.
use Rattle.std.specs.Prelude.{ℕ, zero, suc, pos, Bool, true, false, ◌||◌, ◌&&◌, ◌==◌, nat_le, List, [], ◌∷◌, ◌++◌, length}
use Rattle.std.specs.Prelude.{take, drop, codes, Option, Some, None, Result, Ok, Err, if◌then◌else◌, slice_index}
use Rattle.std.specs.List.{take_while}
use Rattle.std.specs.Str.{bytes_eq}
use Rattle.script_words.specs.Form.{is_printable, is_digit, is_name_byte, is_lower, is_upper, is_number, number_of, is_constant}
use Rattle.script_words.specs.Tree.{WrittenRef, WrittenMode, keep, lose, garble, WrittenArg, plain, named, several, row_of}
use Rattle.eden_value.specs.Datum.{number, truth, text, cap}
use Rattle.script_words.specs.Grammar.{minus}
use Rattle.script_words.specs.declared.cause.ScriptCause.{ScriptCause}
use Rattle.script_words.specs.declared.cause.ScriptCause.TheVariants.{BadForm, BadNumber}

-- a value, or the cause
abbrev pub Judged : Type 0 → Type 0
Judged A = Result A ScriptCause

-- a value and the bytes behind it
abbrev pub Reading : Type 0 → Type 0
Reading A = Result (A × List ℕ) ScriptCause

infixl 10 ◌>>=◌
-- what reading on makes of a value; a cause stays as it is
abbrev pub ◌>>=◌ : {A B : Type 0} → Judged A → (A → Judged B) → Judged B
(Ok x) >>= f = f x
(Err e) >>= f = Err e

-- ## Words, names and numbers

-- what stands behind a word, where the bytes begin with it
abbrev pub behind : List ℕ → List ℕ → Option (List ℕ)
behind word bytes = if bytes_eq (take (length word) bytes) word then Some (drop (length word) bytes) else None

-- nothing found is a bad form
abbrev pub form_of : {A : Type 0} → Option A → Judged A
form_of None = Err BadForm
form_of (Some x) = Ok x

-- what stands behind a word that has to stand there
abbrev pub read_word : List ℕ → List ℕ → Judged (List ℕ)
read_word word bytes = form_of (behind word bytes)

-- nothing more stands there
abbrev pub read_end : List ℕ → Judged (Unit {0})
read_end [] = Ok tt
read_end (b ∷ bytes) = Err BadForm

-- as many bytes as pass, where they are a whole word
abbrev pub read_while : (ℕ → Bool) → (List ℕ → Bool) → List ℕ → Reading (List ℕ)
read_while p whole bytes =
    if whole (take_while p bytes) then Ok (take_while p bytes, drop (length (take_while p bytes)) bytes) else Err BadForm

-- a name that begins with a small letter
abbrev pub read_lower : List ℕ → Reading (List ℕ)
read_lower bytes = read_while is_name_byte is_lower bytes

-- a name that begins with a great letter
abbrev pub read_upper : List ℕ → Reading (List ℕ)
read_upper bytes = read_while is_name_byte is_upper bytes

-- digits, at least one
abbrev pub read_digits : List ℕ → Reading (List ℕ)
read_digits bytes = read_while is_digit is_number bytes

-- the number of some digits, where it is at most so great
abbrev pub up_to : ℕ → List ℕ → Option ℕ
up_to most digits = if nat_le (number_of digits) most then Some (number_of digits) else None

-- a number that was not too great, where it is at least so great
abbrev pub at_least : ℕ → Option ℕ → Judged ℕ
at_least low None = Err BadNumber
at_least low (Some n) = if nat_le low n then Ok n else Err BadNumber

-- the number of some digits, from one bound to the other
abbrev pub within : ℕ → ℕ → List ℕ → Judged ℕ
within low high digits = at_least low (up_to high digits)

-- ## Texts

-- the text that was found, with a front before it, and what stands behind it
abbrev pub with_front : List ℕ → Option (List ℕ × List ℕ) → Option (List ℕ × List ℕ)
with_front front None = None
with_front front (Some found) = Some (front ++ found.0, found.1)

-- one byte more in front of the text that is found
abbrev pub text_and : ℕ → Option (List ℕ × List ℕ) → Option (List ℕ × List ℕ)
text_and b None = None
text_and b (Some found) = Some (b ∷ found.0, found.1)

-- behind the first quote, right behind a backslash or not: the text up to its last quote, and the bytes behind that, if it is a text
abbrev pub text_body : Bool → List ℕ → Option (List ℕ × List ℕ)
text_body escaped [] = None
text_body true (b ∷ bytes) = if b == 34 || b == 92 then text_and b (text_body false bytes) else None
text_body false (b ∷ bytes) =
    if b == 34 then Some ([], bytes)
    else (if b == 92 then text_body true bytes
    else (if is_printable b then text_and b (text_body false bytes) else None))

-- a text of at most 1,024 bytes
abbrev pub short_text : List ℕ × List ℕ → Reading (List ℕ)
short_text found = if nat_le (length found.0) 1024 then Ok found else Err BadForm

-- a text behind its first quote
abbrev pub read_text : List ℕ → Reading (List ℕ)
read_text bytes = form_of (text_body false bytes) >>= short_text

-- a text with both quotes
abbrev pub read_quoted : List ℕ → Reading (List ℕ)
read_quoted bytes = read_word (codes "\"") bytes >>= read_text

-- ## References

-- a point and a digit stand there
abbrev pub has_result : List ℕ → Bool
has_result bytes = (slice_index bytes 0 == 46) && is_digit (slice_index bytes 1)

-- NAME, and the digits of K, or none
abbrev pub read_result : List ℕ → List ℕ → Reading (List ℕ × Option (List ℕ))
read_result name rest =
    if has_result rest then (read_digits (drop 1 rest) >>= λ k. Ok ((name, Some k.0), k.1)) else Ok ((name, None), rest)

-- NAME, or NAME.K
abbrev pub read_ref : List ℕ → Reading (List ℕ × Option (List ℕ))
read_ref bytes = read_lower bytes >>= λ name. read_result name.0 name.1

-- a reference to a result in its range
abbrev pub result_within : List ℕ → Judged ℕ → Judged WrittenRef
result_within name (Err e) = Err e
result_within name (Ok k) = Ok (record { name = name; result = Some k })

-- a reference; the result that it names, if it names one, is from 1 to 8
abbrev pub reference : List ℕ × Option (List ℕ) → Judged WrittenRef
reference (name, None) = Ok (record { name = name; result = None })
reference (name, Some digits) = result_within name (within 1 8 digits)

-- ## Values

-- A value is read whole, and is none where a number in it is out of its range.
abbrev pub Maybe : Type 0
Maybe = Option WrittenArg

-- an integer without a sign, in its range
abbrev pub positive : Option ℕ → Maybe
positive None = None
positive (Some n) = Some (plain (number (pos n)))

-- an integer behind a minus, in its range
abbrev pub negative : Option ℕ → Maybe
negative None = None
negative (Some n) = Some (plain (number (minus n)))

-- an integer without a sign
abbrev pub read_positive : List ℕ → Reading Maybe
read_positive bytes = read_digits bytes >>= λ d. Ok (positive (up_to 9223372036854775807 d.0), d.1)

-- an integer behind its minus
abbrev pub read_negative : List ℕ → Reading Maybe
read_negative bytes = read_digits bytes >>= λ d. Ok (negative (up_to 9223372036854775808 d.0), d.1)

-- the value of a word of values
abbrev pub constant : List ℕ → Maybe
constant word =
    if bytes_eq word (codes "true") then Some (plain (truth true))
    else (if bytes_eq word (codes "false") then Some (plain (truth false))
    else (if bytes_eq word (codes "none") then Some (plain (cap None))
    else None))

-- a reference to the result of this number, if that is in its range and not 0
abbrev pub result_value' : List ℕ → Option ℕ → Maybe
result_value' name None = None
result_value' name (Some k) = if k == 0 then None else Some (named (record { name = name; result = Some k }))

-- a reference to the result that some digits number
abbrev pub result_value : List ℕ → List ℕ → Maybe
result_value name digits = result_value' name (up_to 8 digits)

-- a name alone that is a word of values stands for that value
abbrev pub name_value' : List ℕ → Maybe → Maybe
name_value' name (Some g) = Some g
name_value' name None = Some (named (record { name = name; result = None }))

-- the value that a name alone stands for, or a reference to it
abbrev pub name_value : List ℕ → Maybe
name_value name = name_value' name (constant name)

-- a value by its name
abbrev pub named_value : List ℕ × Option (List ℕ) → Maybe
named_value (name, None) = name_value name
named_value (name, Some digits) = result_value name digits

-- whether a name alone is a word of values
abbrev pub is_value_word : List ℕ × Option (List ℕ) → Bool
is_value_word (name, None) = is_constant name
is_value_word (name, Some digits) = false

-- where names are not read, only words of values are
abbrev pub allowed : Bool → List ℕ × Option (List ℕ) → Judged (Unit {0})
allowed names words = if names || is_value_word words then Ok tt else Err BadForm

-- a value by its name, where names are read, or a word of values
abbrev pub read_named : Bool → List ℕ → Reading Maybe
read_named names bytes = read_ref bytes >>= λ r. allowed names r.0 >>= λ _. Ok (named_value r.0, r.1)

-- a text as a value
abbrev pub read_text_value : List ℕ → Reading Maybe
read_text_value bytes = read_text bytes >>= λ t. Ok (Some (plain (text t.0)), t.1)

-- a value that is no list
abbrev pub read_flat : Bool → List ℕ → Reading Maybe
read_flat names [] = Err BadForm
read_flat names (b ∷ bytes) =
    if b == 34 then read_text_value bytes
    else (if b == 45 then read_negative bytes
    else (if is_digit b then read_positive (b ∷ bytes)
    else read_named names (b ∷ bytes)))

-- one value more at the end, if none was out of range
abbrev pub added : Option (List WrittenArg) → Maybe → Option (List WrittenArg)
added None g = None
added (Some gs) None = None
added (Some gs) (Some g) = Some (gs ++ g ∷ [])

-- the end of some values
abbrev pub read_close : List ℕ → Option (List WrittenArg) → List ℕ → Reading (Option (List WrittenArg))
read_close close so_far bytes = read_word close bytes >>= λ rest. Ok (so_far, rest)

-- what is read on behind a comma, if one was found, or else the other reading
abbrev pub more_by : Option (List ℕ) → Reading (Option (List WrittenArg)) → (List ℕ → Reading (Option (List WrittenArg)))
    → Reading (Option (List WrittenArg))
more_by None else_ then_ = else_
more_by (Some rest) else_ then_ = then_ rest

-- the values behind the first, at most so many
abbrev pub more_values : (List ℕ → Reading Maybe) → List ℕ → ℕ → Option (List WrittenArg) → List ℕ → Reading (Option (List WrittenArg))
more_values value close zero so_far bytes = read_close close so_far bytes
more_values value close (suc n) so_far bytes =
    more_by (behind (codes ", ") bytes) (read_close close so_far bytes)
    (λ rest. value rest >>= λ x. more_values value close n (added so_far x.0) x.1)

-- no values, if what closes them was found, or else the other reading
abbrev pub closed_by : Option (List ℕ) → Reading (Option (List WrittenArg)) → Reading (Option (List WrittenArg))
closed_by None else_ = else_
closed_by (Some rest) else_ = Ok (Some [], rest)

-- values up to and with what closes them, at most one more than so many
abbrev pub read_values : (List ℕ → Reading Maybe) → List ℕ → ℕ → List ℕ → Reading (Option (List WrittenArg))
read_values value close most bytes =
    closed_by (behind close bytes) (value bytes >>= λ x. more_values value close most (added (Some []) x.0) x.1)

-- a list of these values
abbrev pub listed : Option (List WrittenArg) → Maybe
listed None = None
listed (Some gs) = Some (several (row_of gs))

-- a list, if its beginning was found, or else the other reading
abbrev pub list_by : Option (List ℕ) → Reading Maybe → (List ℕ → Reading Maybe) → Reading Maybe
list_by None else_ then_ = else_
list_by (Some rest) else_ then_ = then_ rest

-- a value in which lists stand at most so deep, with names in it or without
abbrev pub read_value : Bool → ℕ → List ℕ → Reading Maybe
read_value names zero bytes = read_flat names bytes
read_value names (suc n) bytes =
    list_by (behind (codes "[") bytes) (read_flat names bytes)
    (λ rest. read_values (read_value names n) (codes "]") 255 rest >>= λ x. Ok (listed x.0, x.1))

-- ## Commands, behind their words

-- a name and a blank
abbrev pub read_lower_and_blank : List ℕ → Reading (List ℕ)
read_lower_and_blank bytes = read_lower bytes >>= λ n. read_word (codes " ") n.1 >>= λ rest. Ok (n.0, rest)

-- digits and a word behind them
abbrev pub read_digits_and : List ℕ → List ℕ → Reading (List ℕ)
read_digits_and mark bytes = read_digits bytes >>= λ d. read_word mark d.1 >>= λ rest. Ok (d.0, rest)

-- digits, and nothing more
abbrev pub read_last_digits : List ℕ → Judged (List ℕ)
read_last_digits bytes = read_digits bytes >>= λ d. read_end d.1 >>= λ _. Ok d.0

-- two numbers parted by a blank, and nothing more
abbrev pub read_two_digits : List ℕ → Judged (List ℕ × List ℕ)
read_two_digits bytes = read_digits_and (codes " ") bytes >>= λ a. read_last_digits a.1 >>= λ b. Ok (a.0, b)

-- what is none is out of its range
abbrev pub in_range : {A : Type 0} → Option A → Judged A
in_range None = Err BadNumber
in_range (Some x) = Ok x

-- a value alone, with no name in it
abbrev pub read_alone : List ℕ → Judged WrittenArg
read_alone bytes = read_value false 4 bytes >>= λ v. read_end v.1 >>= λ _. in_range v.0

-- a byte in place of unsynced ones
abbrev pub garbled : Option ℕ → Option WrittenMode
garbled None = None
garbled (Some b) = Some (garble b)

-- a mode, with the blank before; none where its byte is out of its range
abbrev pub read_mode : List ℕ → Judged (Option WrittenMode)
read_mode bytes =
    if bytes_eq bytes (codes " keep") then Ok (Some keep)
    else (if bytes_eq bytes (codes " lose") then Ok (Some lose)
    else (read_word (codes " garble ") bytes >>= λ rest. read_last_digits rest >>= λ d. Ok (garbled (up_to 255 d))))

-- what a crash leaves, which may be left out
abbrev pub read_crash_mode : List ℕ → Judged (Option WrittenMode)
read_crash_mode [] = Ok (Some lose)
read_crash_mode (b ∷ bytes) = read_mode (b ∷ bytes)

-- ## Lines

-- a blank line or a comment
abbrev pub is_idle : List ℕ → Bool
is_idle [] = true
is_idle (b ∷ bytes) = b == 35
