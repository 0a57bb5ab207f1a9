-- What an expression begins with.
use Rattle.std.proofs.Common.{◌≡◌, ℕ, List, [], ◌∷◌, ◌++◌, Some, None, ◌⊎◌, inl, inr, refl, ap}
use Rattle.grammar.specs.Alternatives.{BeginsElse}
use Rattle.epl_syntax.specs.declared.token.Mark.TheVariants as mark
use Rattle.epl_syntax.specs.declared.word.Word.TheVariants as word
use Rattle.epl_syntax.specs.declared.token.Token.{Token}
use Rattle.epl_syntax.specs.declared.token.TokenKind.{TokenKind}
use Rattle.epl_syntax.specs.declared.token.TokenKind.TheVariants as kind
use Rattle.epl_parser.specs.declared.head.Level.TheVariants as level
use Rattle.epl_parser.specs.declared.head.PrimaryHead.{PrimaryHead}
use Rattle.epl_parser.specs.declared.head.PrimaryHead.TheVariants as head
use Rattle.epl_parser.specs.OneToken.{if_mark, the_mark, if_word, the_word}
use Rattle.epl_parser.specs.Heads.{primary_head}
use Rattle.epl_syntax.specs.Tree.{Expression}
use Rattle.epl_parser.specs.Expressions.{Parsed, IsChain, chain, conj, neg, term, unit, IsNeg, not_neg, cmp, IsCmp}
use Rattle.epl_parser.specs.Expressions.{sum, compared, IsUnit, minus, indexed, IsPrimary, int_operand, text_operand}
use Rattle.epl_parser.specs.Expressions.{bool_operand, none_operand, self_operand, name_operand, parens_operand}
use Rattle.epl_parser.specs.Expressions.{list_operand, empty_list_operand, builtin_operand, IsExpression}

-- the first token's kind is such
abbrev pub FirstIs : (TokenKind → Type 0) → List (Token × ℕ) → Type 0
FirstIs P [] = ⊥
FirstIs P (p ∷ ps) = P p.0.kind

abbrev pub BeginsPrimary : TokenKind → Type 0
BeginsPrimary k = (h : PrimaryHead) × (primary_head k ≡ Some h)

abbrev pub BeginsUnit : TokenKind → Type 0
BeginsUnit k = (k ≡ kind.Mark mark.Minus) ⊎ BeginsPrimary k

abbrev pub BeginsExpression : TokenKind → Type 0
BeginsExpression k = (k ≡ kind.Word word.Not) ⊎ BeginsUnit k

pub first_longer : (P : TokenKind → Type 0) (ps qs : List (Token × ℕ)) → FirstIs P ps → FirstIs P (ps ++ qs)
first_longer P [] qs h = absurd h
first_longer P (p ∷ ps) qs h = h

pub first_such : (P Q : TokenKind → Type 0) → ((k : TokenKind) → P k → Q k) → (ps : List (Token × ℕ)) → FirstIs P ps → FirstIs Q ps
first_such P Q f [] h = absurd h
first_such P Q f (p ∷ ps) h = f p.0.kind h

module _ (bytes : List ℕ) (outer : ℕ) where
  pub primary_first : (d : ℕ) (ps : List (Token × ℕ)) (x : Parsed) → IsPrimary bytes outer d ps x → FirstIs BeginsPrimary ps
  primary_first d ps x (int_operand {n = n} t e) = (head.Int n, e)
  primary_first d ps x (text_operand t e) = (head.Text, e)
  primary_first d ps x (bool_operand {b = b} t e) = (head.Bool b, e)
  primary_first d ps x (none_operand t e) = (head.Absent, e)
  primary_first d ps x (self_operand t e) = (head.Me, e)
  primary_first d ps x (name_operand t e) = (head.Name, e)
  primary_first d ps x (parens_operand t u e c f) = (head.Parens, e)
  primary_first d ps x (list_operand t u e i f) = (head.List, e)
  primary_first d ps x (empty_list_operand qs t o u e f k g) = (head.EmptyList, e)
  primary_first d ps x (builtin_operand {b = b} t o u e f i g) = (head.Apply b, e)

  pub unit_first : (d : ℕ) (ps : List (Token × ℕ)) (x : Parsed) → IsUnit bytes outer d ps x → FirstIs BeginsUnit ps
  unit_first d ps x (minus t e u) = inl e
  unit_first d ps x (indexed {ps = qs} {qs = rs} {x = y} p i) =
      first_longer BeginsUnit qs rs (first_such BeginsPrimary BeginsUnit (λ k h. inr h) qs (primary_first d qs y p))

  term_first : (d : ℕ) (ps : List (Token × ℕ)) (x : Parsed) → IsChain bytes outer level.Term d ps x → FirstIs BeginsUnit ps
  term_first d ps x (chain {ps = qs} {qs = rs} {x = y} (unit u) m) = first_longer BeginsUnit qs rs (unit_first d qs y u)

  sum_first : (d : ℕ) (ps : List (Token × ℕ)) (x : Parsed) → IsChain bytes outer level.Sum d ps x → FirstIs BeginsUnit ps
  sum_first d ps x (chain {ps = qs} {qs = rs} {x = y} (term c) m) = first_longer BeginsUnit qs rs (term_first d qs y c)

  pub cmp_first : (d : ℕ) (ps : List (Token × ℕ)) (x : Parsed) → IsCmp bytes outer d ps x → FirstIs BeginsUnit ps
  cmp_first d ps x (sum c) = sum_first d ps x c
  cmp_first d ps x (compared {ps = qs} {qs = rs} {x = y} t op c e b) = first_longer BeginsUnit qs _ (sum_first d qs y c)

  neg_first : (d : ℕ) (ps : List (Token × ℕ)) (x : Parsed) → IsNeg bytes outer d ps x → FirstIs BeginsExpression ps
  neg_first d ps x (not_neg t e n) = inl e
  neg_first d ps x (cmp c) = first_such BeginsUnit BeginsExpression (λ k h. inr h) ps (cmp_first d ps x c)

  conj_first : (d : ℕ) (ps : List (Token × ℕ)) (x : Parsed) → IsChain bytes outer level.And d ps x → FirstIs BeginsExpression ps
  conj_first d ps x (chain {ps = qs} {qs = rs} {x = y} (neg n) m) = first_longer BeginsExpression qs rs (neg_first d qs y n)

  expr_first : (d : ℕ) (ps : List (Token × ℕ)) (x : Parsed) → IsChain bytes outer level.Or d ps x → FirstIs BeginsExpression ps
  expr_first d ps x (chain {ps = qs} {qs = rs} {x = y} (conj c) m) = first_longer BeginsExpression qs rs (conj_first d qs y c)

  pub expression_first : (ps : List (Token × ℕ)) (e : Expression) → IsExpression bytes outer ps e → FirstIs BeginsExpression ps
  expression_first ps e i = expr_first 1 ps i.0 i.1

-- ---- such a token is no other
primary_not_word : (t : Token) (k : TokenKind) (h : PrimaryHead) → primary_head k ≡ Some h → if_word word.Not t k ≡ None
unfolding primary_head
primary_not_word t (kind.Word word.Not) h e = absurd (cc)
primary_not_word t _ h e = refl

primary_not_minus : (t : Token) (k : TokenKind) (h : PrimaryHead) → primary_head k ≡ Some h → if_mark mark.Minus t k ≡ None
unfolding primary_head
primary_not_minus t (kind.Mark mark.Minus) h e = absurd (cc)
primary_not_minus t _ h e = refl

unit_no_not : (t : Token) → BeginsUnit t.kind → the_word word.Not t ≡ None
unfolding the_word
unit_no_not t (inl e) = ap (if_word word.Not t) e
unit_no_not t (inr h) = primary_not_word t t.kind h.0 h.1

primary_no_minus : (t : Token) → BeginsPrimary t.kind → the_mark mark.Minus t ≡ None
unfolding the_mark
primary_no_minus t h = primary_not_minus t t.kind h.0 h.1

pub else_not : (ps : List (Token × ℕ)) → FirstIs BeginsUnit ps → BeginsElse (the_word word.Not) ps
else_not [] h = absurd h
else_not (p ∷ ps) h = unit_no_not p.0 h

pub else_minus : (ps : List (Token × ℕ)) → FirstIs BeginsPrimary ps → BeginsElse (the_mark mark.Minus) ps
else_minus [] h = absurd h
else_minus (p ∷ ps) h = primary_no_minus p.0 h

-- a closing parenthesis begins no expression
primary_not_close : (t : Token) (k : TokenKind) (h : PrimaryHead) → primary_head k ≡ Some h → if_mark mark.Close t k ≡ None
unfolding primary_head
primary_not_close t (kind.Mark mark.Close) h e = absurd (cc)
primary_not_close t _ h e = refl

close_by : (t : Token) → BeginsExpression t.kind → if_mark mark.Close t t.kind ≡ None
close_by t (inl e) = ap (if_mark mark.Close t) e
close_by t (inr (inl e)) = ap (if_mark mark.Close t) e
close_by t (inr (inr h)) = primary_not_close t t.kind h.0 h.1

pub no_close : (t : Token) → BeginsExpression t.kind → the_mark mark.Close t ≡ None
unfolding the_mark
no_close t h = close_by t h
