-- What single tokens lead to in an expression.
use Rattle.std.specs.Prelude.{ℕ, nat_le, Bool, true, false, Option, Some, None, if◌then◌else◌, List, [], ◌∷◌, ◌==◌, ℤ, pos, neg_ℤ}
use Rattle.epl_syntax.specs.declared.token.Mark.TheVariants as mark
use Rattle.epl_syntax.specs.declared.word.Word.TheVariants as word
use Rattle.epl_syntax.specs.declared.token.TokenKind.{TokenKind}
use Rattle.epl_syntax.specs.declared.token.TokenKind.TheVariants as kind
use Rattle.epl_syntax.specs.declared.tree.Operator.{Operator}
use Rattle.epl_syntax.specs.declared.tree.Operator.TheVariants as operator
use Rattle.epl_syntax.specs.declared.tree.Builtin.TheVariants as builtin
use Rattle.epl_parser.specs.declared.head.Level.{Level}
use Rattle.epl_parser.specs.declared.head.Level.TheVariants as level
use Rattle.epl_parser.specs.declared.head.PrimaryHead.{PrimaryHead}
use Rattle.epl_parser.specs.declared.head.PrimaryHead.TheVariants as head
use Rattle.epl_parser.specs.declared.head.ConstantHead.{ConstantHead}
use Rattle.epl_parser.specs.declared.head.ConstantHead.TheVariants as first

-- the operators of each level that groups to the left
unfoldable pub operator_at : Level → TokenKind → Option Operator
operator_at level.Or (kind.Word word.Or) = Some operator.Or
operator_at level.And (kind.Word word.And) = Some operator.And
operator_at level.Sum (kind.Mark mark.Plus) = Some operator.Add
operator_at level.Sum (kind.Mark mark.Minus) = Some operator.Subtract
operator_at level.Sum (kind.Mark mark.Join) = Some operator.Join
operator_at level.Term (kind.Mark mark.Times) = Some operator.Multiply
operator_at level.Term (kind.Mark mark.Divide) = Some operator.Divide
operator_at level.Term (kind.Word word.Mod) = Some operator.Modulo
operator_at _ _ = None

-- the comparison that a token of this kind is
unfoldable pub comparison : TokenKind → Option Operator
comparison (kind.Mark mark.Equal) = Some operator.Equal
comparison (kind.Mark mark.Different) = Some operator.Different
comparison (kind.Mark mark.Less) = Some operator.Less
comparison (kind.Mark mark.LessEqual) = Some operator.LessEqual
comparison (kind.Mark mark.Greater) = Some operator.Greater
comparison (kind.Mark mark.GreaterEqual) = Some operator.GreaterEqual
comparison _ = None

-- what an operand without prefix begins with; a number that is too great is no INT
unfoldable pub primary_head : TokenKind → Option PrimaryHead
primary_head (kind.Int n) = if nat_le n 9223372036854775807 then Some (head.Int (pos n)) else None
primary_head kind.Text = Some head.Text
primary_head kind.Lower = Some head.Name
primary_head (kind.Word word.True) = Some (head.Bool true)
primary_head (kind.Word word.False) = Some (head.Bool false)
primary_head (kind.Word word.None) = Some head.Absent
primary_head (kind.Word word.Me) = Some head.Me
primary_head (kind.Mark mark.Open) = Some head.Parens
primary_head (kind.Mark mark.OpenList) = Some head.List
primary_head (kind.Word word.List) = Some head.EmptyList
primary_head (kind.Word word.Size) = Some (head.Apply builtin.Size)
primary_head (kind.Word word.Str) = Some (head.Apply builtin.Str)
primary_head (kind.Word word.Put) = Some (head.Apply builtin.Put)
primary_head (kind.Word word.Cut) = Some (head.Apply builtin.Cut)
primary_head (kind.Word word.Part) = Some (head.Apply builtin.Part)
primary_head (kind.Word word.Restrict) = Some (head.Apply builtin.Restrict)
primary_head _ = None

-- what the constant of a declaration begins with
unfoldable pub constant_head : TokenKind → Option ConstantHead
constant_head (kind.Int n) = if nat_le n 9223372036854775807 then Some (first.Int (pos n)) else None
constant_head (kind.Mark mark.Minus) = Some first.Minus
constant_head kind.Text = Some first.Text
constant_head (kind.Word word.True) = Some (first.Bool true)
constant_head (kind.Word word.False) = Some (first.Bool false)
constant_head (kind.Word word.None) = Some first.Absent
constant_head (kind.Word word.List) = Some first.EmptyList
constant_head _ = None

-- the number that INT makes behind a minus
unfoldable pub negated : TokenKind → Option ℤ
negated (kind.Int n) = if nat_le n 9223372036854775807 then Some (neg_ℤ (pos n)) else None
negated _ = None

-- How closely a token ties what stands behind it to the expression before it; 0 where it does not go on with it.
unfoldable pub ties : TokenKind → ℕ
ties (kind.Word word.Or) = 1
ties (kind.Word word.And) = 2
ties (kind.Mark mark.Equal) = 3
ties (kind.Mark mark.Different) = 3
ties (kind.Mark mark.Less) = 3
ties (kind.Mark mark.LessEqual) = 3
ties (kind.Mark mark.Greater) = 3
ties (kind.Mark mark.GreaterEqual) = 3
ties (kind.Mark mark.Plus) = 4
ties (kind.Mark mark.Minus) = 4
ties (kind.Mark mark.Join) = 4
ties (kind.Mark mark.Times) = 5
ties (kind.Mark mark.Divide) = 5
ties (kind.Word word.Mod) = 5
ties (kind.Mark mark.OpenList) = 6
ties _ = 0

-- what a text stands for, behind its first quote: a byte behind a backslash for itself
abbrev pub stands_for : Bool → List ℕ → List ℕ
stands_for escaped [] = []
stands_for true (b ∷ bs) = b ∷ stands_for false bs
stands_for false (b ∷ bs) = if b == 34 then [] else (if b == 92 then stands_for true bs else b ∷ stands_for false bs)
