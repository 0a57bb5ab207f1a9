-- How statements are read: a reader for each rule of their grammar.
use Rattle.std.specs.Prelude.{ℕ, zero, suc, List, [], Option, Some, None}
use Rattle.grammar.specs.Blocks.{◌>>=◌, ◌>>◌}
use Rattle.grammar.specs.Depths.{Looker, look_both, look_here, look_mapped, look_if}
use Rattle.grammar.specs.Separated.{look_closed, look_separated}
use Rattle.grammar.specs.Sequences.{look_row}
use Rattle.epl_syntax.specs.declared.token.Mark.TheVariants as mark
use Rattle.epl_syntax.specs.declared.token.Mark.{Mark}
use Rattle.epl_syntax.specs.declared.token.Token.{Token}
use Rattle.epl_syntax.specs.declared.tree.Name.{Name}
use Rattle.epl_syntax.specs.declared.word.Word.{Word}
use Rattle.epl_syntax.specs.declared.word.Word.TheVariants as word
use Rattle.epl_parser.specs.declared.statement.StatementHead.{StatementHead}
use Rattle.epl_parser.specs.declared.statement.StatementHead.TheVariants as head
use Rattle.epl_syntax.specs.Tree.{Expression, Statement, Statements, Assign, If, While, With, Wait, Signal, Yield}
use Rattle.epl_syntax.specs.Tree.{Deactivate, Checkpoint, Destroy, Create, Invoke, Return, no_statements, block_of}
use Rattle.epl_parser.specs.OneToken.{name_at, the_mark, the_word, the_lower, the_upper, headed, look_one, lower_behind}
use Rattle.epl_parser.specs.WrittenKinds.{out_of_steps}
use Rattle.epl_parser.specs.ExpressionReader.{read_expression}
use Rattle.epl_parser.specs.Statements.{statement_head, the_target}

-- a value where the other one is missing
abbrev pub unless : {A : Type 0} → Option A → Option (Unit {0})
unless None = Some tt
unless (Some a) = None

-- a value for each token but this mark
abbrev pub not_mark : Mark → Token → Option (Unit {0})
not_mark m t = unless (the_mark m t)

-- items in parentheses, which may be empty
abbrev pub look_in_parens : {A : Type 0} → ℕ → Looker Token (List A) → Looker Token (List A)
look_in_parens d read = do
  look_one d (the_mark mark.Open)
  items ← look_if (not_mark mark.Close) [] read
  look_one d (the_mark mark.Close)
  look_here items

module _ (bytes : List ℕ) (turns : ℕ) where
  -- at least one expression, with commas between each two
  unfoldable pub read_expressions : ℕ → Looker Token (List Expression)
  read_expressions d = look_separated 32 d (the_mark mark.Comma) turns (read_expression bytes turns d)

  -- at least one name with a small first letter, with commas between each two
  unfoldable pub read_names : ℕ → Looker Token (List Name)
  read_names d = look_separated 32 d (the_mark mark.Comma) turns (look_one d (the_lower bytes))

  -- the variables that take results, in parentheses behind "gives"
  unfoldable pub read_gives : ℕ → Looker Token (List Name)
  read_gives d = do
    look_one d (the_word word.Gives)
    look_one d (the_mark mark.Open)
    names ← read_names d
    look_one d (the_mark mark.Close)
    look_here names

  -- the statement that f makes of the name that comes
  abbrev pub read_name_for : (Name → Statement) → ℕ → Looker Token Statement
  read_name_for f d = do
    name ← look_one d (the_lower bytes)
    look_here (f name)

  -- an assignment, behind the token t with the variable's name
  unfoldable pub read_assign : ℕ → Token → Looker Token Statement
  read_assign d t = do
    look_one d (the_mark mark.Assign)
    value ← read_expression bytes turns d
    look_here (Assign (name_at bytes t) value)

  -- the one variable that takes a result, in parentheses behind "gives"
  unfoldable pub read_receiver : ℕ → Looker Token Name
  read_receiver d = do
    look_one d (the_word word.Gives)
    look_one d (the_mark mark.Open)
    name ← look_one d (the_lower bytes)
    look_one d (the_mark mark.Close)
    look_here name

  -- a creation, behind its first word t
  unfoldable pub read_create : ℕ → Token → Looker Token Statement
  read_create d t = do
    type_name ← look_one d (the_upper bytes)
    status ← lower_behind bytes word.Status d
    gives ← read_receiver d
    look_here (Create type_name status gives t.start)

  -- an operation and its arguments
  unfoldable pub read_request : ℕ → Looker Token (Name × List Expression)
  read_request d = do
    look_one d (the_mark mark.Dot)
    operation ← look_one d (the_upper bytes)
    args ← look_in_parens d (read_expressions d)
    look_here (operation, args)

  -- an invocation, behind its first word t
  unfoldable pub read_invoke : ℕ → Token → Looker Token Statement
  read_invoke d t = do
    whom ← look_one d (the_target bytes)
    r ← read_request d
    status ← lower_behind bytes word.Status d
    gives ← look_if (the_word word.Gives) [] (read_gives d)
    look_here (Invoke whom r.0 r.1 status gives t.start)

  -- a return, behind its first word t
  unfoldable pub read_return : ℕ → Token → Looker Token Statement
  read_return d t = do
    results ← look_in_parens d (read_expressions d)
    look_here (Return results t.start)

  -- a statement that has this head and in which no statements stand, behind its first token t
  abbrev pub read_plain_rest : ℕ → StatementHead → Token → Looker Token Statement
  read_plain_rest d head.Assign t = read_assign d t
  read_plain_rest d head.Wait t = read_name_for (λ name. Wait name t.start) d
  read_plain_rest d head.Signal t = read_name_for (λ name. Signal name t.start) d
  read_plain_rest d head.Yield t = look_here (Yield t.start)
  read_plain_rest d head.Deactivate t = look_here (Deactivate t.start)
  read_plain_rest d head.Checkpoint t = read_name_for (λ name. Checkpoint name t.start) d
  read_plain_rest d head.Destroy t = read_name_for (λ name. Destroy name t.start) d
  read_plain_rest d head.Create t = read_create d t
  read_plain_rest d head.Invoke t = read_invoke d t
  read_plain_rest d head.Return t = read_return d t
  read_plain_rest d _ t = out_of_steps

  -- ---- statements in statements, where block reads those inside
  -- the statements behind "else", or none where it does not come
  abbrev pub read_else_by : Looker Token Statements → ℕ → Looker Token Statements
  read_else_by block d =
      look_if (the_word word.Else) no_statements (do
        look_one d (the_word word.Else)
        block)

  -- the expression that is tested, before this word
  abbrev pub read_tested : Word → ℕ → Looker Token Expression
  read_tested w d = look_closed 32 d (the_word w) (read_expression bytes turns d)

  -- the statements behind "then" and those behind "else", up to the end
  abbrev pub read_branches_by : Looker Token Statements → ℕ → Looker Token (Statements × Statements)
  read_branches_by block d = do
    so ← block
    otherwise ← read_else_by block d
    look_one d (the_word word.End)
    look_here (so, otherwise)

  -- what stands behind "if", which is t
  abbrev pub read_if_by : Looker Token Statements → ℕ → Token → Looker Token Statement
  read_if_by block d t = do
    test ← read_tested word.Then d
    b ← read_branches_by block d
    look_here (If test b.0 b.1 t.start)

  -- what stands behind "while", which is t
  abbrev pub read_while_by : Looker Token Statements → ℕ → Token → Looker Token Statement
  read_while_by block d t = do
    test ← read_tested word.Do d
    body ← look_closed 32 d (the_word word.End) block
    look_here (While test body t.start)

  -- what stands behind "with", which is t
  abbrev pub read_with_by : Looker Token Statements → ℕ → Token → Looker Token Statement
  read_with_by block d t = do
    monitor ← look_one d (the_upper bytes)
    look_one d (the_word word.Do)
    body ← look_closed 32 d (the_word word.End) block
    look_here (With monitor body t.start)

  -- a statement that has this head, behind its first token t
  abbrev pub read_rest_by : Looker Token Statements → ℕ → StatementHead → Token → Looker Token Statement
  read_rest_by block d head.If t = read_if_by block d t
  read_rest_by block d head.While t = read_while_by block d t
  read_rest_by block d head.With t = read_with_by block d t
  read_rest_by block d h t = read_plain_rest d h t

  -- a statement from its first token on
  abbrev pub read_statement_by : Looker Token Statements → ℕ → Looker Token Statement
  read_statement_by block d = look_both (look_one d (headed statement_head)) (λ h. read_rest_by block d h.0 h.1)

  -- statements one behind another
  abbrev pub read_statements_by : Looker Token Statements → ℕ → Looker Token (List Statement)
  read_statements_by block d = look_row (headed statement_head) (read_statement_by block d) turns []

  -- the statements in a statement, at this depth, in which so many levels may stand
  unfoldable pub inner_block : ℕ → ℕ → Looker Token Statements
  inner_block zero d = out_of_steps
  inner_block (suc n) d = look_mapped block_of (read_statements_by (inner_block n (suc d)) d)

  -- ---- what the functions of the parser read, where so many levels may stand inside
  -- a statement at this depth
  unfoldable pub read_statement : ℕ → ℕ → Looker Token Statement
  read_statement n d = read_statement_by (inner_block n (suc d)) d

  -- statements at this depth, one behind another
  unfoldable pub read_statements : ℕ → ℕ → Looker Token (List Statement)
  read_statements n d = read_statements_by (inner_block n (suc d)) d

  -- what follows the first token of such a statement at this depth
  unfoldable pub read_plain : ℕ → StatementHead → Token → Looker Token Statement
  read_plain d h t = read_plain_rest d h t

  -- what "else" leads to at this depth, or no statements
  unfoldable pub read_else : ℕ → ℕ → Looker Token Statements
  read_else n d = read_else_by (inner_block n (suc d)) d

  -- both branches of an "if" at this depth, up to its end
  unfoldable pub read_branches : ℕ → ℕ → Looker Token (Statements × Statements)
  read_branches n d = read_branches_by (inner_block n (suc d)) d

  -- an "if" at this depth, behind its first word
  unfoldable pub read_if : ℕ → ℕ → Token → Looker Token Statement
  read_if n d t = read_if_by (inner_block n (suc d)) d t

  -- a "while" at this depth, behind its first word
  unfoldable pub read_while : ℕ → ℕ → Token → Looker Token Statement
  read_while n d t = read_while_by (inner_block n (suc d)) d t

  -- a "with" at this depth, behind its first word
  unfoldable pub read_with : ℕ → ℕ → Token → Looker Token Statement
  read_with n d t = read_with_by (inner_block n (suc d)) d t

  -- the statements of an operation or a process
  unfoldable pub read_body : Looker Token (List Statement)
  read_body = read_statements 32 1
