-- Single tokens: a mark or word that is wanted, a name, a number.
use Rattle.std.specs.Prelude.{ℕ, ◌-◌, List, [], ◌∷◌, take, drop, Option, Some, None, Err, if◌then◌else◌}
use denote.Enum.Bare.{sameb}
use Rattle.grammar.specs.Blocks.{◌>>◌}
use Rattle.grammar.specs.Depths.{Placed, At, bad, Looker, look_at, found_at}
use Rattle.grammar.specs.Grammar.{Grammar}
use Rattle.epl_syntax.specs.contracts.token.Mark.{the_type as the_marks}
use Rattle.epl_syntax.specs.contracts.word.Word.{the_type as the_words}
use Rattle.epl_syntax.specs.declared.token.Mark.{Mark}
use Rattle.epl_syntax.specs.declared.word.Word.{Word}
use Rattle.epl_syntax.specs.declared.token.Token.{Token}
use Rattle.epl_syntax.specs.declared.token.TokenKind.{TokenKind}
use Rattle.epl_syntax.specs.declared.token.TokenKind.TheVariants as kind
use Rattle.epl_syntax.specs.declared.tree.Name.{Name}
use Rattle.epl_syntax.specs.declared.tree.Number.{Number}

-- the bytes that stand at a token
abbrev pub bytes_at : List ℕ → Token → List ℕ
bytes_at bytes t = take (t.end - t.start) (drop t.start bytes)

-- the name that stands at a token
abbrev pub name_at : List ℕ → Token → Name
name_at bytes t = record { text = bytes_at bytes t; place = t.start }

-- ---- what a token is, by its kind: the token itself where it is this mark, and so on
-- a token of this kind, where that is the wanted mark
abbrev pub if_mark : Mark → Token → TokenKind → Option Token
if_mark m t (kind.Mark found) = if sameb the_marks found m then Some t else None
if_mark m t _ = None

-- a token that is the wanted mark
unfoldable pub the_mark : Mark → Token → Option Token
the_mark m t = if_mark m t t.kind

-- a token of this kind, where that is the wanted word
abbrev pub if_word : Word → Token → TokenKind → Option Token
if_word w t (kind.Word found) = if sameb the_words found w then Some t else None
if_word w t _ = None

-- a token that is the wanted word
unfoldable pub the_word : Word → Token → Option Token
the_word w t = if_word w t t.kind

-- the name at a token, where this is the kind of names with a small first letter
abbrev pub if_lower : List ℕ → Token → TokenKind → Option Name
if_lower bytes t kind.Lower = Some (name_at bytes t)
if_lower bytes t _ = None

-- the name at a token, where it has a small first letter
unfoldable pub the_lower : List ℕ → Token → Option Name
the_lower bytes t = if_lower bytes t t.kind

-- the name at a token, where this is the kind of names with a great first letter
abbrev pub if_upper : List ℕ → Token → TokenKind → Option Name
if_upper bytes t kind.Upper = Some (name_at bytes t)
if_upper bytes t _ = None

-- the name at a token, where it has a great first letter
unfoldable pub the_upper : List ℕ → Token → Option Name
the_upper bytes t = if_upper bytes t t.kind

-- the number at a token, with its place, where this is the kind of numbers
abbrev pub if_int : Token → TokenKind → Option Number
if_int t (kind.Int n) = Some (record { n = n; place = t.start })
if_int t _ = None

-- the number at a token, with its place, where it is one
unfoldable pub the_number : Token → Option Number
the_number t = if_int t t.kind

-- what f has for the first token
abbrev pub peeked : {A : Type 0} → (Token → Option A) → List Token → Option A
peeked f [] = None
peeked f (t ∷ ts) = f t

-- a reader of the first token, where this value was found for it
abbrev pub take_found : {A : Type 0} → ℕ → Option A → Looker Token A
take_found depth found [] = Err (bad 0)
take_found depth found (t ∷ ts) = found_at 32 (λ a. depth) found ts

-- one token at a depth, for which f has a value
abbrev pub OneAt : {A : Type 0} → ℕ → (Token → Option A) → Grammar (Placed Token) A
OneAt place f = At (λ a. place) f

-- how such a token is read: past depth 32 reading stops
abbrev pub look_one : {A : Type 0} → ℕ → (Token → Option A) → Looker Token A
look_one place f = look_at 32 (λ a. place) f

-- the name with a small first letter behind a word
unfoldable pub lower_behind : List ℕ → Word → ℕ → Looker Token Name
lower_behind bytes w d = do
  look_one d (the_word w)
  look_one d (the_lower bytes)

-- the number behind a word
unfoldable pub number_behind : Word → ℕ → Looker Token Number
number_behind w d = do
  look_one d (the_word w)
  look_one d the_number

-- a value with its token, where there is one
abbrev pub with_token : {A : Type 0} → Option A → Token → Option (A × Token)
with_token None t = None
with_token (Some a) t = Some (a, t)

-- what f has for a token's kind, with the token
abbrev pub headed : {A : Type 0} → (TokenKind → Option A) → Token → Option (A × Token)
headed f t = with_token (f t.kind) t
