-- What may follow what: tokens that begin statements or end blocks go on with nothing before them.
use Rattle.std.proofs.Common.{◌≡◌, List, ◌∷◌, Option, Some, None, refl, ap, ◌∙◌, arith}
use Rattle.grammar.proofs.Choices.{EndsBefore}
use Rattle.epl_syntax.specs.declared.token.Mark.{Mark}
use Rattle.epl_syntax.specs.declared.token.Token.{Token}
use Rattle.epl_syntax.specs.declared.token.TokenKind.{TokenKind}
use Rattle.epl_syntax.specs.declared.token.TokenKind.TheVariants as kind
use Rattle.epl_syntax.specs.declared.word.Word.{Word}
use Rattle.epl_syntax.specs.declared.word.Word.TheVariants as word
use Rattle.epl_parser.specs.declared.statement.StatementHead.{StatementHead}
use Rattle.epl_parser.specs.Heads.{ties}
use Rattle.epl_parser.specs.OneToken.{the_mark, the_word, with_token, headed}
use Rattle.epl_parser.specs.Statements.{statement_head}
use Rattle.epl_parser.specs.StatementReader.{unless, not_mark}
use Rattle.epl_parser.specs.ExpressionReader.{EndsExpression}
use Rattle.epl_parser.proofs.SingleTokens.{is_the_mark, is_the_word, is_headed}

-- ---- a token of which something is known is none of which something else is known
none_or : {A : Type 0} (o : Option A) → ((a : A) → o ≡ Some a → ⊥) → o ≡ None
none_or None h = refl
none_or (Some a) h = absurd (h a refl)

pub no_word : {A : Type 0} (w : Word) (f : TokenKind → Option A) (a : A) (t : Token) → f t.kind ≡ Some a → f (kind.Word w) ≡ None
    → the_word w t ≡ None
no_word w f a t e n = none_or (the_word w t) (λ u k. let same : f t.kind ≡ f (kind.Word w) = ap f (is_the_word w t u k).0 in absurd (cc))

pub no_mark : {A : Type 0} (m : Mark) (f : TokenKind → Option A) (a : A) (t : Token) → f t.kind ≡ Some a → f (kind.Mark m) ≡ None
    → the_mark m t ≡ None
no_mark m f a t e n = none_or (the_mark m t) (λ u k. let same : f t.kind ≡ f (kind.Mark m) = ap f (is_the_mark m t u k).0 in absurd (cc))

pub is_not : (m : Mark) (t : Token) → the_mark m t ≡ None → not_mark m t ≡ Some tt
is_not m t e = ap (λ o. unless o) e

-- ---- first tokens of statements
word_ties : (w : Word) (h : StatementHead) → statement_head (kind.Word w) ≡ Some h → ties (kind.Word w) ≡ 0
unfolding statement_head ties
word_ties word.Or h e = absurd (cc)
word_ties word.And h e = absurd (cc)
word_ties word.Mod h e = absurd (cc)
word_ties w h e = refl

statement_ties : (k : TokenKind) (h : StatementHead) → statement_head k ≡ Some h → ties k ≡ 0
unfolding statement_head ties
statement_ties kind.Upper h e = refl
statement_ties kind.Lower h e = refl
statement_ties (kind.Int n) h e = refl
statement_ties kind.Text h e = refl
statement_ties (kind.Mark m) h e = absurd (cc)
statement_ties (kind.Word w) h e = word_ties w h e

pub before_statement : (t : Token) (ts : List Token) (h : StatementHead × Token) → headed statement_head t ≡ Some h
    → EndsExpression (t ∷ ts)
before_statement t ts h e = let z = statement_ties t.kind h.0 (is_headed statement_head t h e).0 in omega arith

-- a word that ends what stands before it
pub before_word : (w : Word) → ties (kind.Word w) ≡ 0 → (t u : Token) (ts : List Token) → the_word w t ≡ Some u → EndsExpression (t ∷ ts)
before_word w z t u ts e = let same : ties t.kind ≡ ties (kind.Word w) = ap ties (is_the_word w t u e).0 in omega arith

pub before_mark : (m : Mark) → ties (kind.Mark m) ≡ 0 → (t u : Token) (ts : List Token) → the_mark m t ≡ Some u → EndsExpression (t ∷ ts)
before_mark m z t u ts e = let same : ties t.kind ≡ ties (kind.Mark m) = ap ties (is_the_mark m t u e).0 in omega arith

-- ---- what may follow a statement, and a block of them
abbrev pub EndsStatement : List Token → Type 0
EndsStatement v = EndsExpression v × EndsBefore (the_word word.Gives) v

abbrev pub EndsBlock : List Token → Type 0
EndsBlock v = EndsStatement v × EndsBefore (headed statement_head) v

pub statement_goes : (t : Token) (ts : List Token) (h : StatementHead × Token) → headed statement_head t ≡ Some h → EndsStatement (t ∷ ts)
unfolding statement_head
statement_goes t ts h e = (before_statement t ts h e, no_word word.Gives statement_head h.0 t (is_headed statement_head t h e).0 refl)

-- a word that begins no statement
pub no_head : (w : Word) → statement_head (kind.Word w) ≡ None → (t u : Token) → the_word w t ≡ Some u → headed statement_head t ≡ None
no_head w z t u e = ap (λ o. with_token o t) (ap statement_head (is_the_word w t u e).0 ∙ z)

pub is_headed_kind : (t : Token) (h : StatementHead × Token) → headed statement_head t ≡ Some h → statement_head t.kind ≡ Some h.0
is_headed_kind t h e = (is_headed statement_head t h e).0
