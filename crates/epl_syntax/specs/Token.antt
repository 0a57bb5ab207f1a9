-- What a text's tokens are.
use Rattle.std.specs.Prelude.{◌≡◌, ℕ, ◌+◌, ◌-◌, ◌<◌, ◌≤◌, Bool, true, false, ◌==◌, List, [], ◌∷◌, length, take, drop, Option, Some, None}
use Rattle.std.specs.Prelude.{Result, Ok, Err, option_and_then, nat_le, if◌then◌else◌, slice_index}
use Rattle.std.specs.Char.{is_ascii_uppercase, is_ascii_lowercase}
use Rattle.std.specs.declared.vec.Vec.{Vec}
use Rattle.std.specs.declared.alloc.Global.{Global}
use Rattle.epl_syntax.specs.Form.{is_blank, is_digit, name_length, digit_count, number_of, text_body}
use Rattle.epl_syntax.specs.Words.{word_of}
use Rattle.epl_syntax.specs.declared.token.Mark.{Mark}
use Rattle.epl_syntax.specs.declared.token.Mark.TheVariants as mark
use Rattle.epl_syntax.specs.declared.word.Word.{Word}
use Rattle.epl_syntax.specs.declared.token.Token.{Token}
use Rattle.epl_syntax.specs.declared.token.TokenKind.{TokenKind}
use Rattle.epl_syntax.specs.declared.token.TokenKind.TheVariants as kind
use Rattle.epl_syntax.specs.declared.token.ParseRefusal.{ParseRefusal}
use Rattle.epl_syntax.specs.declared.token.ParseRefusal.TheVariants.{BadToken, TooDeep, OutOfMemory}

-- the mark that begins with this byte, where the other is behind it, and how many bytes it takes
abbrev pub mark_of : ℕ → ℕ → Option (Mark × ℕ)
mark_of first second =
    if first == 58 then (if second == 61 then Some (mark.Assign, 2) else Some (mark.Colon, 1)) else (
    if first == 60 then (if second == 61 then Some (mark.LessEqual, 2) else
    (if second == 62 then Some (mark.Different, 2) else Some (mark.Less, 1))) else (
    if first == 62 then (if second == 61 then Some (mark.GreaterEqual, 2) else Some (mark.Greater, 1)) else (
    if first == 44 then Some (mark.Comma, 1) else (
    if first == 46 then Some (mark.Dot, 1) else (
    if first == 40 then Some (mark.Open, 1) else (
    if first == 41 then Some (mark.Close, 1) else (
    if first == 91 then Some (mark.OpenList, 1) else (
    if first == 93 then Some (mark.CloseList, 1) else (
    if first == 61 then Some (mark.Equal, 1) else (
    if first == 43 then Some (mark.Plus, 1) else (
    if first == 45 then Some (mark.Minus, 1) else (
    if first == 38 then Some (mark.Join, 1) else (
    if first == 42 then Some (mark.Times, 1) else (
    if first == 47 then Some (mark.Divide, 1) else None))))))))))))))

-- the token's kind and how many bytes it takes, of a name: a word of the grammar is no name
abbrev pub named : Option Word → ℕ → Option (TokenKind × ℕ)
named None n = Some (kind.Lower, n)
named (Some w) n = Some (kind.Word w, n)

-- a name or a word in front, and how many bytes it takes
abbrev pub name_token : List ℕ → Bool → Option (TokenKind × ℕ)
name_token bytes upper =
    if nat_le (name_length bytes) 32 then
    (if upper then Some (kind.Upper, name_length bytes) else named (word_of (take (name_length bytes) bytes)) (name_length bytes))
    else None

-- a number in front, and how many bytes it takes
abbrev pub number_token : List ℕ → Option (TokenKind × ℕ)
number_token bytes = option_and_then (λ value. Some (kind.Int value, digit_count bytes)) (number_of (take (digit_count bytes) bytes))

-- a text of which these bytes stand behind the first quote, and how many bytes it takes with both
abbrev pub text_token : List ℕ → Option (TokenKind × ℕ)
text_token body = option_and_then (λ found. if nat_le found.1 1024 then Some (kind.Text, found.0 + 1) else None) (text_body false body)

-- a mark in front, which this byte begins, and how many bytes it takes
abbrev pub mark_token : ℕ → List ℕ → Option (TokenKind × ℕ)
mark_token first rest = option_and_then (λ found. Some (kind.Mark found.0, found.1)) (mark_of first (slice_index rest 0))

-- The token that begins with the first byte, and how many bytes it takes: as many as its form allows.
abbrev pub token_at : List ℕ → Option (TokenKind × ℕ)
token_at [] = None
token_at (b ∷ bytes) =
    if is_ascii_uppercase b then name_token (b ∷ bytes) true
    else (if is_ascii_lowercase b then name_token (b ∷ bytes) false
    else (if is_digit b then number_token (b ∷ bytes)
    else (if b == 34 then text_token bytes
    else mark_token b bytes)))

-- The bytes from one place up to another are blanks, and no blank follows them.
pub record AreBlanks (text : List ℕ) (from to : ℕ) : Type 0 where
  pub forward : from ≤ to
  pub within : to ≤ length text
  pub blank : (k : ℕ) → from ≤ k → k < to → is_blank (slice_index text k) ≡ true
  pub stops : to < length text → is_blank (slice_index text to) ≡ false

-- From one place on, the text has these tokens, with blanks or none before each, and behind such blanks comes the other place:
-- a byte that is no blank, or the text's end.
abbrev pub Leads : List ℕ → ℕ → List Token → ℕ → Type 0
Leads text from [] to = AreBlanks text from to
Leads text from (t ∷ ts) to =
    AreBlanks text from t.start × (t.start < length text) × (token_at (drop t.start text) ≡ Some (t.kind, t.end - t.start))
    × (t.start ≤ t.end) × Leads text t.end ts to

-- the whole text spells these tokens
abbrev pub SpellsTokens : List ℕ → List Token → Type 0
SpellsTokens text ts = Leads text 0 ts (length text)

-- No token begins at this place, behind tokens that the text has before it.
pub record Breaks (text : List ℕ) (place : ℕ) : Type 0 where
  pub before : List Token
  pub leads : Leads text 0 before place
  pub within : place < length text
  pub none : token_at (drop place text) ≡ None

-- what `tokens` answers
abbrev pub TokensAre : List ℕ → Result (Vec Token Global) ParseRefusal → Type 0
TokensAre text (Ok v) = SpellsTokens text v.items
TokensAre text (Err (BadToken place)) = Breaks text place
TokensAre text (Err (TooDeep place)) = ⊥
TokensAre text (Err OutOfMemory) = Unit {0}
