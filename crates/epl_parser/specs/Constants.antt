-- The constant with which a variable starts: its grammar, and how it is read.
use Rattle.std.specs.Prelude.{◌≡◌, ℕ, List, [], ◌∷◌, ◌++◌, drop, Some, Bool, false, ℤ}
use Rattle.grammar.specs.Depths.{Looker, look_both, look_here, look_mapped}
use Rattle.grammar.specs.Separated.{look_closed}
use Rattle.epl_syntax.specs.declared.token.Mark.TheVariants as mark
use Rattle.epl_syntax.specs.declared.token.Token.{Token}
use Rattle.epl_syntax.specs.declared.token.TokenKind.TheVariants as kind
use Rattle.epl_parser.specs.declared.head.ConstantHead.{ConstantHead}
use Rattle.epl_parser.specs.declared.head.ConstantHead.TheVariants as first
use Rattle.epl_syntax.specs.Tree.{PlacedShape, Constant, integer, text, truth, absent, empty_list, Beginning}
use Rattle.epl_parser.specs.OneToken.{bytes_at, the_mark, headed, look_one}
use Rattle.epl_parser.specs.Heads.{constant_head, negated, stands_for}
use Rattle.epl_parser.specs.WrittenKinds.{IsWrittenKind, read_written_kind}

-- what a token TEXT stands for
abbrev pub text_at : List ℕ → Token → List ℕ
text_at bytes t = stands_for false (drop 1 (bytes_at bytes t))

-- what a variable starts with, where the constant begins with this token
abbrev pub begins_with : Constant → Token → Beginning
begins_with c t = record { value = c; place = t.start }

-- const = INT | "-" INT | TEXT | "true" | "false" | "none" | "list" "(" kind ")"
-- Its tokens have the depth that they have for other reasons, but for those of the kind.
pub data IsConstant (bytes : List ℕ) (outer : ℕ) : List (Token × ℕ) → Beginning → Type 0 where
  plain_int : {n : ℤ} (t : Token) → constant_head t.kind ≡ Some (first.Int n)
      → IsConstant bytes outer ((t, outer) ∷ []) (begins_with (integer n) t)
  minus_int : {n : ℤ} (t u : Token) → constant_head t.kind ≡ Some first.Minus → negated u.kind ≡ Some n
      → IsConstant bytes outer ((t, outer) ∷ (u, outer) ∷ []) (begins_with (integer n) t)
  plain_text : (t : Token) → constant_head t.kind ≡ Some first.Text
      → IsConstant bytes outer ((t, outer) ∷ []) (begins_with (text (text_at bytes t)) t)
  plain_truth : {b : Bool} (t : Token) → constant_head t.kind ≡ Some (first.Bool b)
      → IsConstant bytes outer ((t, outer) ∷ []) (begins_with (truth b) t)
  no_capability : (t : Token) → constant_head t.kind ≡ Some first.Absent → IsConstant bytes outer ((t, outer) ∷ []) (begins_with absent t)
  no_items : (ps : List (Token × ℕ)) {k : PlacedShape} (t u w : Token) → constant_head t.kind ≡ Some first.EmptyList
      → u.kind ≡ kind.Mark mark.Open → IsWrittenKind outer ps k → w.kind ≡ kind.Mark mark.Close
      → IsConstant bytes outer ((t, outer) ∷ (u, outer) ∷ (ps ++ (w, outer) ∷ [])) (begins_with (empty_list k) t)

-- ---- reading
-- a kind in parentheses
abbrev pub read_kind_in_parens : ℕ → Looker Token PlacedShape
read_kind_in_parens outer = look_both (look_one outer (the_mark mark.Open))
    (λ u. look_closed 32 outer (the_mark mark.Close) (read_written_kind outer))

-- a constant that has this head, behind its first token t
abbrev pub read_constant_rest : List ℕ → ℕ → ConstantHead → Token → Looker Token Beginning
read_constant_rest bytes outer (first.Int n) t = look_here (begins_with (integer n) t)
read_constant_rest bytes outer first.Minus t = look_mapped (λ n. begins_with (integer n) t) (look_one outer (λ u. negated u.kind))
read_constant_rest bytes outer first.Text t = look_here (begins_with (text (text_at bytes t)) t)
read_constant_rest bytes outer (first.Bool b) t = look_here (begins_with (truth b) t)
read_constant_rest bytes outer first.Absent t = look_here (begins_with absent t)
read_constant_rest bytes outer first.EmptyList t = look_mapped (λ k. begins_with (empty_list k) t) (read_kind_in_parens outer)

-- a constant with which a variable starts, its tokens at this depth or deeper
unfoldable pub read_constant : List ℕ → ℕ → Looker Token Beginning
read_constant bytes outer = look_both (look_one outer (headed constant_head)) (λ h. read_constant_rest bytes outer h.0 h.1)
