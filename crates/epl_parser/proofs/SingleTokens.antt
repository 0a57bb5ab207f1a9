-- A token that is found is the one that is wanted.
use Rattle.std.specs.Prelude.{if◌then◌else◌}
use Rattle.std.proofs.Common.{◌≡◌, Bool, true, false, Option, Some, None, refl, ap, ◌∙◌, rules}
use denote.Enum.Bare.{sameb, same_true, true_same}
use Rattle.epl_syntax.specs.contracts.token.Mark.{the_type as the_marks}
use Rattle.epl_syntax.specs.contracts.word.Word.{the_type as the_words}
use Rattle.epl_syntax.specs.declared.token.Mark.{Mark}
use Rattle.epl_syntax.specs.declared.word.Word.{Word}
use Rattle.epl_syntax.specs.declared.token.Token.{Token}
use Rattle.epl_syntax.specs.declared.token.TokenKind.{TokenKind}
use Rattle.epl_syntax.specs.declared.token.TokenKind.TheVariants as kind
use Rattle.epl_parser.specs.OneToken.{if_mark, the_mark, if_word, the_word, with_token, headed}

-- ---- marks
mark_by : (m found : Mark) (t u : Token) → t.kind ≡ kind.Mark found → (b : Bool) → sameb the_marks found m ≡ b
    → ◌≡◌ {A = Option Token} (if b then Some t else None) (Some u) → (t.kind ≡ kind.Mark m) × (t ≡ u)
mark_by m found t u k false e h = absurd (cc)
mark_by m found t u k true e h = (k ∙ ap kind.Mark (same_true the_marks (search rules) found m e), cc)

mark_in : (m : Mark) (t u : Token) (k : TokenKind) → t.kind ≡ k → if_mark m t k ≡ Some u → (t.kind ≡ kind.Mark m) × (t ≡ u)
mark_in m t u (kind.Mark found) e h = mark_by m found t u e (sameb the_marks found m) refl h
mark_in m t u kind.Upper e h = absurd (cc)
mark_in m t u kind.Lower e h = absurd (cc)
mark_in m t u (kind.Int n) e h = absurd (cc)
mark_in m t u kind.Text e h = absurd (cc)
mark_in m t u (kind.Word w) e h = absurd (cc)

pub is_the_mark : (m : Mark) (t u : Token) → the_mark m t ≡ Some u → (t.kind ≡ kind.Mark m) × (t ≡ u)
unfolding the_mark
is_the_mark m t u h = mark_in m t u t.kind refl h

pub the_mark_is : (m : Mark) (t : Token) → t.kind ≡ kind.Mark m → the_mark m t ≡ Some t
unfolding the_mark
the_mark_is m t e = ap (if_mark m t) e ∙ ap (λ (b : Bool). if b then Some t else None) (true_same the_marks m m refl)

-- ---- words
word_by : (w found : Word) (t u : Token) → t.kind ≡ kind.Word found → (b : Bool) → sameb the_words found w ≡ b
    → ◌≡◌ {A = Option Token} (if b then Some t else None) (Some u) → (t.kind ≡ kind.Word w) × (t ≡ u)
word_by w found t u k false e h = absurd (cc)
word_by w found t u k true e h = (k ∙ ap kind.Word (same_true the_words (search rules) found w e), cc)

word_in : (w : Word) (t u : Token) (k : TokenKind) → t.kind ≡ k → if_word w t k ≡ Some u → (t.kind ≡ kind.Word w) × (t ≡ u)
word_in w t u (kind.Word found) e h = word_by w found t u e (sameb the_words found w) refl h
word_in w t u kind.Upper e h = absurd (cc)
word_in w t u kind.Lower e h = absurd (cc)
word_in w t u (kind.Int n) e h = absurd (cc)
word_in w t u kind.Text e h = absurd (cc)
word_in w t u (kind.Mark m) e h = absurd (cc)

pub is_the_word : (w : Word) (t u : Token) → the_word w t ≡ Some u → (t.kind ≡ kind.Word w) × (t ≡ u)
unfolding the_word
is_the_word w t u h = word_in w t u t.kind refl h

pub the_word_is : (w : Word) (t : Token) → t.kind ≡ kind.Word w → the_word w t ≡ Some t
unfolding the_word
the_word_is w t e = ap (if_word w t) e ∙ ap (λ (b : Bool). if b then Some t else None) (true_same the_words w w refl)

-- ---- a kind of token, with the token
headed_by : {A : Type 0} (o : Option A) (t : Token) (a : A) (u : Token) → with_token o t ≡ Some (a, u) → (o ≡ Some a) × (t ≡ u)
headed_by None t a u h = absurd (cc)
headed_by {A} (Some b) t a u h = let p : ◌≡◌ {A = A × Token} (b, t) (a, u) = cc in (ap (λ x. Some x.0) p, ap (λ x. x.1) p)

pub is_headed : {A : Type 0} (f : TokenKind → Option A) (t : Token) (x : A × Token) → headed f t ≡ Some x → (f t.kind ≡ Some x.0)
    × (t ≡ x.1)
is_headed f t x h = headed_by (f t.kind) t x.0 x.1 h

pub headed_is : {A : Type 0} (f : TokenKind → Option A) (t : Token) (a : A) → f t.kind ≡ Some a → headed f t ≡ Some (a, t)
headed_is f t a e = ap (λ o. with_token o t) e
