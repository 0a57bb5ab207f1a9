-- The grammar of statements.
use Rattle.std.specs.Prelude.{◌≡◌, ℕ, suc, List, [], ◌∷◌, ◌++◌, Option, Some, None}
use Rattle.grammar.specs.Grammar.{Grammar, Nothing}
use Rattle.grammar.specs.Depths.{Placed, Perhaps}
use Rattle.grammar.specs.Separated.{Separated}
use Rattle.grammar.specs.Sequences.{◌>>=◌, ◌>>◌}
use Rattle.epl_syntax.specs.declared.token.Mark.TheVariants as mark
use Rattle.epl_syntax.specs.declared.token.Token.{Token}
use Rattle.epl_syntax.specs.declared.token.TokenKind.{TokenKind}
use Rattle.epl_syntax.specs.declared.token.TokenKind.TheVariants as kind
use Rattle.epl_syntax.specs.declared.tree.Name.{Name}
use Rattle.epl_syntax.specs.declared.tree.Target.{Target}
use Rattle.epl_syntax.specs.declared.tree.Target.TheVariants as target
use Rattle.epl_syntax.specs.declared.word.Word.TheVariants as word
use Rattle.epl_parser.specs.declared.statement.StatementHead.{StatementHead}
use Rattle.epl_parser.specs.declared.statement.StatementHead.TheVariants as head
use Rattle.epl_syntax.specs.Tree.{Expression, Statement, Statements, Assign, If, While, With, Wait, Signal, Yield}
use Rattle.epl_syntax.specs.Tree.{Deactivate, Checkpoint, Destroy, Create, Invoke, Return, no_statements}
use Rattle.epl_syntax.specs.Tree.{statement_and}
use Rattle.epl_parser.specs.OneToken.{name_at, the_mark, the_word, the_lower, the_upper, OneAt}
use Rattle.epl_parser.specs.Expressions.{IsExpression}

-- no statements stand in a statement with this head
abbrev pub IsPlain : StatementHead → Type 0
IsPlain head.If = ⊥
IsPlain head.While = ⊥
IsPlain head.With = ⊥
IsPlain _ = Unit {0}

-- which statement begins with a token of this kind
unfoldable pub statement_head : TokenKind → Option StatementHead
statement_head kind.Lower = Some head.Assign
statement_head (kind.Word word.If) = Some head.If
statement_head (kind.Word word.While) = Some head.While
statement_head (kind.Word word.With) = Some head.With
statement_head (kind.Word word.Wait) = Some head.Wait
statement_head (kind.Word word.Signal) = Some head.Signal
statement_head (kind.Word word.Yield) = Some head.Yield
statement_head (kind.Word word.Deactivate) = Some head.Deactivate
statement_head (kind.Word word.Checkpoint) = Some head.Checkpoint
statement_head (kind.Word word.Destroy) = Some head.Destroy
statement_head (kind.Word word.Create) = Some head.Create
statement_head (kind.Word word.Invoke) = Some head.Invoke
statement_head (kind.Word word.Return) = Some head.Return
statement_head _ = None

-- whom an invocation is sent to: LOWER | "self"
abbrev pub if_target : List ℕ → Token → TokenKind → Option Target
if_target bytes t kind.Lower = Some (target.Name (name_at bytes t))
if_target bytes t (kind.Word word.Me) = Some (target.Me t.start)
if_target bytes t _ = None

-- the target of an invocation that a token is, if it is one
unfoldable pub the_target : List ℕ → Token → Option Target
the_target bytes t = if_target bytes t t.kind

-- "(" [ list ] ")"
abbrev pub InParens : {A : Type 0} → ℕ → Grammar (Placed Token) (List A) → Grammar (Placed Token) (List A)
InParens d G = do
  OneAt d (the_mark mark.Open)
  items ← Perhaps [] G
  OneAt d (the_mark mark.Close)
  Nothing items

-- "gives" "(" LOWER { "," LOWER } ")"
abbrev pub IsGives : List ℕ → ℕ → Grammar (Placed Token) (List Name)
IsGives bytes d = do
  OneAt d (the_word word.Gives)
  OneAt d (the_mark mark.Open)
  names ← Separated d (the_mark mark.Comma) (OneAt d (the_lower bytes))
  OneAt d (the_mark mark.Close)
  Nothing names

-- no spelling
abbrev pub Nowhere : {A : Type 0} → Grammar (Placed Token) A
Nowhere ps a = ⊥

-- what stands behind the first token t of a statement in which no statements stand
abbrev pub PlainRest : List ℕ → ℕ → StatementHead → Token → Grammar (Placed Token) Statement
-- LOWER ":=" expr
PlainRest bytes d head.Assign t = do
  OneAt d (the_mark mark.Assign)
  value ← IsExpression bytes d
  Nothing (Assign (name_at bytes t) value)
-- "wait" LOWER
PlainRest bytes d head.Wait t = do
  condition ← OneAt d (the_lower bytes)
  Nothing (Wait condition t.start)
-- "signal" LOWER
PlainRest bytes d head.Signal t = do
  condition ← OneAt d (the_lower bytes)
  Nothing (Signal condition t.start)
-- "yield"
PlainRest bytes d head.Yield t = Nothing (Yield t.start)
-- "deactivate"
PlainRest bytes d head.Deactivate t = Nothing (Deactivate t.start)
-- "checkpoint" LOWER
PlainRest bytes d head.Checkpoint t = do
  status ← OneAt d (the_lower bytes)
  Nothing (Checkpoint status t.start)
-- "destroy" LOWER
PlainRest bytes d head.Destroy t = do
  status ← OneAt d (the_lower bytes)
  Nothing (Destroy status t.start)
-- "create" UPPER "status" LOWER "gives" "(" LOWER ")"
PlainRest bytes d head.Create t = do
  type_name ← OneAt d (the_upper bytes)
  OneAt d (the_word word.Status)
  status ← OneAt d (the_lower bytes)
  OneAt d (the_word word.Gives)
  OneAt d (the_mark mark.Open)
  gives ← OneAt d (the_lower bytes)
  OneAt d (the_mark mark.Close)
  Nothing (Create type_name status gives t.start)
-- "invoke" ( LOWER | "self" ) "." UPPER "(" [ exprs ] ")" "status" LOWER [ gives ]
PlainRest bytes d head.Invoke t = do
  whom ← OneAt d (the_target bytes)
  OneAt d (the_mark mark.Dot)
  operation ← OneAt d (the_upper bytes)
  args ← InParens d (Separated d (the_mark mark.Comma) (IsExpression bytes d))
  OneAt d (the_word word.Status)
  status ← OneAt d (the_lower bytes)
  gives ← Perhaps [] (IsGives bytes d)
  Nothing (Invoke whom operation args status gives t.start)
-- "return" "(" [ exprs ] ")"
PlainRest bytes d head.Return t = do
  results ← InParens d (Separated d (the_mark mark.Comma) (IsExpression bytes d))
  Nothing (Return results t.start)
PlainRest bytes d _ t = Nowhere

-- A token's depth is the number of statements in which it stands, and of an expression's token that of expressions where it is greater.
mutual
  -- a statement: one in which no statements stand, or an "if", a "while" or a "with"
  pub data IsStatement (bytes : List ℕ) : ℕ → List (Token × ℕ) → Statement → Type 0 where
    plain : {d : ℕ} {ps : List (Token × ℕ)} {s : Statement} (h : StatementHead) (t : Token) → statement_head t.kind ≡ Some h
        → PlainRest bytes d h t ps s → IsStatement bytes d ((t, d) ∷ ps) s
    -- "if" expr "then" { stmt } [ "else" { stmt } ] "end"
    tested : {d : ℕ} {ps qs rs : List (Token × ℕ)} {test : Expression} {so otherwise : Statements} (t u v : Token)
        → statement_head t.kind ≡ Some head.If → IsExpression bytes d ps test
        → u.kind ≡ kind.Word word.Then → IsBlock bytes (suc d) qs so → IsElse bytes d rs otherwise → v.kind ≡ kind.Word word.End
        → IsStatement bytes d ((t, d) ∷ (ps ++ (u, d) ∷ (qs ++ (rs ++ (v, d) ∷ [])))) (If test so otherwise t.start)
    -- "while" expr "do" { stmt } "end"
    repeated : {d : ℕ} {ps qs : List (Token × ℕ)} {test : Expression} {body : Statements} (t u v : Token)
        → statement_head t.kind ≡ Some head.While → IsExpression bytes d ps test
        → u.kind ≡ kind.Word word.Do → IsBlock bytes (suc d) qs body → v.kind ≡ kind.Word word.End
        → IsStatement bytes d ((t, d) ∷ (ps ++ (u, d) ∷ (qs ++ (v, d) ∷ []))) (While test body t.start)
    -- "with" UPPER "do" { stmt } "end"
    guarded : {d : ℕ} {ps : List (Token × ℕ)} {body : Statements} (t m u v : Token) → statement_head t.kind ≡ Some head.With
        → m.kind ≡ kind.Upper → u.kind ≡ kind.Word word.Do
        → IsBlock bytes (suc d) ps body → v.kind ≡ kind.Word word.End
        → IsStatement bytes d ((t, d) ∷ (m, d) ∷ (u, d) ∷ (ps ++ (v, d) ∷ [])) (With (name_at bytes m) body t.start)

  -- [ "else" { stmt } ]
  pub data IsElse (bytes : List ℕ) : ℕ → List (Token × ℕ) → Statements → Type 0 where
    no_else : {d : ℕ} → IsElse bytes d [] no_statements
    or_else : {d : ℕ} {ps : List (Token × ℕ)} {otherwise : Statements} (t : Token) → t.kind ≡ kind.Word word.Else
        → IsBlock bytes (suc d) ps otherwise → IsElse bytes d ((t, d) ∷ ps) otherwise

  -- { stmt }
  pub data IsBlock (bytes : List ℕ) : ℕ → List (Token × ℕ) → Statements → Type 0 where
    no_statement : {d : ℕ} → IsBlock bytes d [] no_statements
    and_statement : {d : ℕ} {ps qs : List (Token × ℕ)} {s : Statement} {rest : Statements} → IsStatement bytes d ps s
        → IsBlock bytes d qs rest → IsBlock bytes d (ps ++ qs) (statement_and s rest)
