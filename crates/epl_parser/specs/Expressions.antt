-- The grammar of expressions.
use Rattle.std.specs.Prelude.{◌≡◌, ℕ, suc, max, ℤ, Bool, List, [], ◌∷◌, ◌++◌, Some}
use Rattle.grammar.specs.Grammar.{Grammar, Mapped}
use Rattle.grammar.specs.Depths.{Placed}
use Rattle.epl_syntax.specs.declared.token.Mark.TheVariants as mark
use Rattle.epl_syntax.specs.declared.word.Word.TheVariants as word
use Rattle.epl_syntax.specs.declared.token.Token.{Token}
use Rattle.epl_syntax.specs.declared.token.TokenKind.TheVariants as kind
use Rattle.epl_syntax.specs.declared.tree.Prefix.{Prefix}
use Rattle.epl_syntax.specs.declared.tree.Prefix.TheVariants as prefix
use Rattle.epl_syntax.specs.declared.tree.Operator.{Operator}
use Rattle.epl_syntax.specs.declared.tree.Builtin.{Builtin}
use Rattle.epl_parser.specs.declared.head.Level.{Level}
use Rattle.epl_parser.specs.declared.head.Level.TheVariants as level
use Rattle.epl_parser.specs.declared.head.PrimaryHead.TheVariants as head
use Rattle.epl_syntax.specs.Tree.{PlacedShape, integer, text, truth, absent, empty_list, Expression, Const_, Name_}
use Rattle.epl_syntax.specs.Tree.{Me, Unary, Binary, Index, ListOf, Apply, in_order}
use Rattle.epl_parser.specs.OneToken.{name_at}
use Rattle.epl_parser.specs.Heads.{operator_at, comparison, primary_head}
use Rattle.epl_parser.specs.WrittenKinds.{IsWrittenKind}
use Rattle.epl_parser.specs.Constants.{text_at}

-- An expression, the depth at its end, and the place of its first token. A token behind it that goes on with it is at least one deeper.
pub record Parsed : Type 0 where
  pub tree : Expression
  pub behind : ℕ
  pub begins : ℕ

-- an operator between two operands: it begins as the left one does, and is as deep at its end as the right one
abbrev pub joined : Operator → Parsed → Parsed → Parsed
joined op x y = record { tree = Binary op x.tree y.tree x.begins; behind = y.behind; begins = x.begins }

-- an operator before its operand: it begins with this token, and is as deep at its end as the operand
abbrev pub prefixed : Prefix → Token → Parsed → Parsed
prefixed p t x = record { tree = Unary p x.tree t.start; behind = x.behind; begins = t.start }

-- an expression with an index behind it: it begins as before, and is one deeper at its end
abbrev pub at_index : Parsed → Parsed → Parsed
at_index x y = record { tree = Index x.tree y.tree x.begins; behind = suc x.behind; begins = x.begins }

-- an operand that begins with this token, and is at this depth at its end
abbrev pub single : Expression → Token → ℕ → Parsed
single e t d = record { tree = e; behind = d; begins = t.start }

-- A token's depth is the number of expressions in which it stands, and of their operators and indices up to it, or
-- what it is for other reasons (outer).
mutual
  -- expr = conj { "or" conj }, conj = neg { "and" neg }, sum = term { ("+" | "-" | "&") term }, term = unit { ("*" | "/" | "mod") unit }
  pub data IsChain (bytes : List ℕ) (outer : ℕ) : Level → ℕ → List (Token × ℕ) → Parsed → Type 0 where
    chain : {l : Level} {d : ℕ} {ps qs : List (Token × ℕ)} {x y : Parsed} → IsPart bytes outer l d ps x → IsMore bytes outer l x qs y
        → IsChain bytes outer l d (ps ++ qs) y

  -- what stands between the operators of a level
  pub data IsPart (bytes : List ℕ) (outer : ℕ) : Level → ℕ → List (Token × ℕ) → Parsed → Type 0 where
    conj : {d : ℕ} {ps : List (Token × ℕ)} {x : Parsed} → IsChain bytes outer level.And d ps x → IsPart bytes outer level.Or d ps x
    neg : {d : ℕ} {ps : List (Token × ℕ)} {x : Parsed} → IsNeg bytes outer d ps x → IsPart bytes outer level.And d ps x
    term : {d : ℕ} {ps : List (Token × ℕ)} {x : Parsed} → IsChain bytes outer level.Term d ps x → IsPart bytes outer level.Sum d ps x
    unit : {d : ℕ} {ps : List (Token × ℕ)} {x : Parsed} → IsUnit bytes outer d ps x → IsPart bytes outer level.Term d ps x

  -- operators of a level, each with the part behind it, that go on with an expression; there may be none
  pub data IsMore (bytes : List ℕ) (outer : ℕ) : Level → Parsed → List (Token × ℕ) → Parsed → Type 0 where
    no_more : {l : Level} {x : Parsed} → IsMore bytes outer l x [] x
    more : {l : Level} {ps qs : List (Token × ℕ)} {x y z : Parsed} (t : Token) (op : Operator) → operator_at l t.kind ≡ Some op
        → IsPart bytes outer l (suc x.behind) ps y
        → IsMore bytes outer l (joined op x y) qs z → IsMore bytes outer l x ((t, max outer (suc x.behind)) ∷ (ps ++ qs)) z

  -- neg = "not" neg | cmp
  pub data IsNeg (bytes : List ℕ) (outer : ℕ) : ℕ → List (Token × ℕ) → Parsed → Type 0 where
    not_neg : {d : ℕ} {ps : List (Token × ℕ)} {x : Parsed} (t : Token) → t.kind ≡ kind.Word word.Not → IsNeg bytes outer (suc d) ps x
        → IsNeg bytes outer d ((t, max outer (suc d)) ∷ ps) (prefixed prefix.Not t x)
    cmp : {d : ℕ} {ps : List (Token × ℕ)} {x : Parsed} → IsCmp bytes outer d ps x → IsNeg bytes outer d ps x

  -- cmp = sum [ ("=" | "<>" | "<" | "<=" | ">" | ">=") sum ]
  pub data IsCmp (bytes : List ℕ) (outer : ℕ) : ℕ → List (Token × ℕ) → Parsed → Type 0 where
    sum : {d : ℕ} {ps : List (Token × ℕ)} {x : Parsed} → IsChain bytes outer level.Sum d ps x → IsCmp bytes outer d ps x
    compared : {d : ℕ} {ps qs : List (Token × ℕ)} {x y : Parsed} (t : Token) (op : Operator) → IsChain bytes outer level.Sum d ps x
        → comparison t.kind ≡ Some op
        → IsChain bytes outer level.Sum (suc x.behind) qs y → IsCmp bytes outer d (ps ++ (t, max outer (suc x.behind)) ∷ qs) (joined op x y)

  -- unit = "-" unit | prim { "[" expr "]" }
  pub data IsUnit (bytes : List ℕ) (outer : ℕ) : ℕ → List (Token × ℕ) → Parsed → Type 0 where
    minus : {d : ℕ} {ps : List (Token × ℕ)} {x : Parsed} (t : Token) → t.kind ≡ kind.Mark mark.Minus → IsUnit bytes outer (suc d) ps x
        → IsUnit bytes outer d ((t, max outer (suc d)) ∷ ps) (prefixed prefix.Negate t x)
    indexed : {d : ℕ} {ps qs : List (Token × ℕ)} {x y : Parsed} → IsPrimary bytes outer d ps x → IsIndices bytes outer x qs y
        → IsUnit bytes outer d (ps ++ qs) y

  -- { "[" expr "]" }, behind an operand
  pub data IsIndices (bytes : List ℕ) (outer : ℕ) : Parsed → List (Token × ℕ) → Parsed → Type 0 where
    no_index : {x : Parsed} → IsIndices bytes outer x [] x
    index : {ps qs : List (Token × ℕ)} {x y z : Parsed} (t u : Token) → t.kind ≡ kind.Mark mark.OpenList
        → IsChain bytes outer level.Or (suc (suc x.behind)) ps y → u.kind ≡ kind.Mark mark.CloseList
        → IsIndices bytes outer (at_index x y) qs z
        → IsIndices bytes outer x ((t, max outer (suc x.behind)) ∷ ((ps ++ (u, max outer (suc x.behind)) ∷ []) ++ qs)) z

  -- prim = INT | TEXT | "true" | "false" | "none" | "self" | LOWER | "(" expr ")" | "[" exprs "]" | "list" "(" kind ")"
  --     | builtin "(" exprs ")"
  pub data IsPrimary (bytes : List ℕ) (outer : ℕ) : ℕ → List (Token × ℕ) → Parsed → Type 0 where
    int_operand : {d : ℕ} {n : ℤ} (t : Token) → primary_head t.kind ≡ Some (head.Int n)
        → IsPrimary bytes outer d ((t, max outer d) ∷ []) (single (Const_ (integer n) t.start) t d)
    text_operand : {d : ℕ} (t : Token) → primary_head t.kind ≡ Some head.Text
        → IsPrimary bytes outer d ((t, max outer d) ∷ []) (single (Const_ (text (text_at bytes t)) t.start) t d)
    bool_operand : {d : ℕ} {b : Bool} (t : Token) → primary_head t.kind ≡ Some (head.Bool b)
        → IsPrimary bytes outer d ((t, max outer d) ∷ []) (single (Const_ (truth b) t.start) t d)
    none_operand : {d : ℕ} (t : Token) → primary_head t.kind ≡ Some head.Absent
        → IsPrimary bytes outer d ((t, max outer d) ∷ []) (single (Const_ absent t.start) t d)
    self_operand : {d : ℕ} (t : Token) → primary_head t.kind ≡ Some head.Me
        → IsPrimary bytes outer d ((t, max outer d) ∷ []) (single (Me t.start) t d)
    name_operand : {d : ℕ} (t : Token) → primary_head t.kind ≡ Some head.Name
        → IsPrimary bytes outer d ((t, max outer d) ∷ []) (single (Name_ (name_at bytes t)) t d)
    parens_operand : {d : ℕ} {ps : List (Token × ℕ)} {x : Parsed} (t u : Token) → primary_head t.kind ≡ Some head.Parens
        → IsChain bytes outer level.Or (suc d) ps x → u.kind ≡ kind.Mark mark.Close
        → IsPrimary bytes outer d ((t, max outer d) ∷ (ps ++ (u, max outer d) ∷ [])) (single x.tree t d)
    list_operand : {d : ℕ} {ps : List (Token × ℕ)} {es : List Expression} (t u : Token) → primary_head t.kind ≡ Some head.List
        → IsExprs bytes outer d ps es → u.kind ≡ kind.Mark mark.CloseList
        → IsPrimary bytes outer d ((t, max outer d) ∷ (ps ++ (u, max outer d) ∷ [])) (single (ListOf (in_order es) t.start) t d)
    empty_list_operand : {d : ℕ} (ps : List (Token × ℕ)) {k : PlacedShape} (t o u : Token) → primary_head t.kind ≡ Some head.EmptyList
        → o.kind ≡ kind.Mark mark.Open → IsWrittenKind (max outer d) ps k
        → u.kind ≡ kind.Mark mark.Close → IsPrimary bytes outer d ((t, max outer d) ∷ (o, max outer d)
        ∷ (ps ++ (u, max outer d) ∷ [])) (single (Const_ (empty_list k) t.start) t d)
    builtin_operand : {d : ℕ} {ps : List (Token × ℕ)} {es : List Expression} {b : Builtin} (t o u : Token)
        → primary_head t.kind ≡ Some (head.Apply b) → o.kind ≡ kind.Mark mark.Open → IsExprs bytes outer d ps es
        → u.kind ≡ kind.Mark mark.Close → IsPrimary bytes outer d ((t, max outer d) ∷ (o, max outer d)
        ∷ (ps ++ (u, max outer d) ∷ [])) (single (Apply b (in_order es) t.start) t d)

  -- exprs = expr { "," expr }
  pub data IsExprs (bytes : List ℕ) (outer : ℕ) : ℕ → List (Token × ℕ) → List Expression → Type 0 where
    last : {d : ℕ} {ps : List (Token × ℕ)} {x : Parsed} → IsChain bytes outer level.Or (suc d) ps x → IsExprs bytes outer d ps (x.tree ∷ [])
    and_then : {d : ℕ} {ps qs : List (Token × ℕ)} {x : Parsed} {es : List Expression} (t : Token)
        → IsChain bytes outer level.Or (suc d) ps x → t.kind ≡ kind.Mark mark.Comma → IsExprs bytes outer d qs es
        → IsExprs bytes outer d (ps ++ (t, max outer d) ∷ qs) (x.tree ∷ es)

-- an expression that stands in no other
abbrev pub IsExpression : List ℕ → ℕ → Grammar (Placed Token) Expression
IsExpression bytes outer = Mapped (λ (x : Parsed). x.tree) (IsChain bytes outer level.Or 1)
