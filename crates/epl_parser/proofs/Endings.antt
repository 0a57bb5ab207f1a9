-- What may follow a part of an expression: a token that ties less closely than the part's own operators.
use Rattle.std.proofs.Common.{◌≡◌, ℕ, ◌<◌, ◌≤◌, List, [], ◌∷◌, Some, None, refl, ap, ◌∙◌, arith}
use Rattle.grammar.proofs.Choices.{EndsBefore}
use Rattle.epl_syntax.specs.declared.token.Mark.{Mark}
use Rattle.epl_syntax.specs.declared.token.Mark.TheVariants as mark
use Rattle.epl_syntax.specs.declared.word.Word.TheVariants as word
use Rattle.epl_syntax.specs.declared.token.Token.{Token}
use Rattle.epl_syntax.specs.declared.token.TokenKind.{TokenKind}
use Rattle.epl_syntax.specs.declared.token.TokenKind.TheVariants as kind
use Rattle.epl_syntax.specs.declared.tree.Operator.{Operator}
use Rattle.epl_parser.specs.declared.head.Level.{Level}
use Rattle.epl_parser.specs.declared.head.Level.TheVariants as level
use Rattle.epl_parser.specs.OneToken.{if_mark, the_mark}
use Rattle.epl_parser.specs.Heads.{operator_at, comparison, ties}
use Rattle.epl_parser.specs.ExpressionReader.{Ends}
use Rattle.epl_parser.proofs.SingleTokens.{is_the_mark}

-- how closely the operators of a level tie, and how closely a token may not tie behind one of its parts
abbrev pub rank : Level → ℕ
rank level.Or = 1
rank level.And = 2
rank level.Sum = 4
rank level.Term = 5

abbrev pub part_rank : Level → ℕ
part_rank level.Or = 2
part_rank level.And = 3
part_rank level.Sum = 5
part_rank level.Term = 6

pub rank_below : (l : Level) → rank l < part_rank l
rank_below level.Or = omega arith
rank_below level.And = omega arith
rank_below level.Sum = omega arith
rank_below level.Term = omega arith

pub less_ends : (m n : ℕ) → m ≤ n → (v : List Token) → Ends m v → Ends n v
less_ends m n le [] e = tt
less_ends m n le (t ∷ v) e = omega arith

-- ---- operators
no_operator : (l : Level) (k : TokenKind) → ties k < rank l → operator_at l k ≡ None
unfolding operator_at ties
no_operator level.Or (kind.Word word.Or) h = absurd (omega arith)
no_operator level.And (kind.Word word.And) h = absurd (omega arith)
no_operator level.Sum (kind.Mark mark.Plus) h = absurd (omega arith)
no_operator level.Sum (kind.Mark mark.Minus) h = absurd (omega arith)
no_operator level.Sum (kind.Mark mark.Join) h = absurd (omega arith)
no_operator level.Term (kind.Mark mark.Times) h = absurd (omega arith)
no_operator level.Term (kind.Mark mark.Divide) h = absurd (omega arith)
no_operator level.Term (kind.Word word.Mod) h = absurd (omega arith)
no_operator _ _ h = refl

pub operator_ties : (l : Level) (k : TokenKind) (op : Operator) → operator_at l k ≡ Some op → ties k ≡ rank l
unfolding operator_at ties
operator_ties level.Or (kind.Word word.Or) op e = refl
operator_ties level.And (kind.Word word.And) op e = refl
operator_ties level.Sum (kind.Mark mark.Plus) op e = refl
operator_ties level.Sum (kind.Mark mark.Minus) op e = refl
operator_ties level.Sum (kind.Mark mark.Join) op e = refl
operator_ties level.Term (kind.Mark mark.Times) op e = refl
operator_ties level.Term (kind.Mark mark.Divide) op e = refl
operator_ties level.Term (kind.Word word.Mod) op e = refl
operator_ties _ _ op e = absurd (cc)

pub ends_operators : (l : Level) (n : ℕ) → n ≤ rank l → (v : List Token) → Ends n v → EndsBefore (λ (t : Token). operator_at l t.kind) v
ends_operators l n le [] e = tt
ends_operators l n le (t ∷ v) e = no_operator l t.kind (omega arith)

-- ---- comparisons
no_comparison : (k : TokenKind) → ties k < 3 → comparison k ≡ None
unfolding comparison ties
no_comparison (kind.Mark mark.Equal) h = absurd (omega arith)
no_comparison (kind.Mark mark.Different) h = absurd (omega arith)
no_comparison (kind.Mark mark.Less) h = absurd (omega arith)
no_comparison (kind.Mark mark.LessEqual) h = absurd (omega arith)
no_comparison (kind.Mark mark.Greater) h = absurd (omega arith)
no_comparison (kind.Mark mark.GreaterEqual) h = absurd (omega arith)
no_comparison _ h = refl

pub comparison_ties : (k : TokenKind) (op : Operator) → comparison k ≡ Some op → ties k ≡ 3
unfolding comparison ties
comparison_ties (kind.Mark mark.Equal) op e = refl
comparison_ties (kind.Mark mark.Different) op e = refl
comparison_ties (kind.Mark mark.Less) op e = refl
comparison_ties (kind.Mark mark.LessEqual) op e = refl
comparison_ties (kind.Mark mark.Greater) op e = refl
comparison_ties (kind.Mark mark.GreaterEqual) op e = refl
comparison_ties _ op e = absurd (cc)

pub ends_comparison : (n : ℕ) → n ≤ 3 → (v : List Token) → Ends n v → EndsBefore (λ (t : Token). comparison t.kind) v
ends_comparison n le [] e = tt
ends_comparison n le (t ∷ v) e = no_comparison t.kind (omega arith)

-- ---- indices
no_open : (t : Token) (k : TokenKind) → ties k < 6 → if_mark mark.OpenList t k ≡ None
unfolding ties
no_open t (kind.Mark mark.OpenList) h = absurd (omega arith)
no_open t _ h = refl

pub ends_index : (n : ℕ) → n ≤ 6 → (v : List Token) → Ends n v → EndsBefore (the_mark mark.OpenList) v
unfolding the_mark
ends_index n le [] e = tt
ends_index n le (t ∷ v) e = no_open t t.kind (omega arith)

-- ---- commas and closing marks
-- behind an expression stands no operator where this mark stands
abbrev pub Parts : Mark → Type 0
Parts m = (t u : Token) (w : List Token) → the_mark m t ≡ Some u → Ends 1 (t ∷ w)

parts_by : (m : Mark) → ties (kind.Mark m) ≡ 0 → Parts m
parts_by m z t u w e = let i = is_the_mark m t u e in let h : ties t.kind ≡ 0 = ap ties i.0 ∙ z in omega arith

pub comma_parts : Parts mark.Comma
unfolding ties
comma_parts = parts_by mark.Comma refl

pub close_parts : Parts mark.Close
unfolding ties
close_parts = parts_by mark.Close refl

pub close_list_parts : Parts mark.CloseList
unfolding ties
close_list_parts = parts_by mark.CloseList refl
