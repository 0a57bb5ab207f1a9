-- The readers of statements read their grammar.
use Rattle.std.proofs.Common.{◌≡◌, ℕ, zero, suc, ◌+◌, ◌≤◌, ◌<◌, List, [], ◌∷◌, ◌++◌, Some, None, refl, sym, subst, arith}
use Rattle.grammar.specs.Grammar.{Grammar, Nothing, Then, Mapped}
use Rattle.grammar.specs.Depths.{Placed, bare, Perhaps, Looker, look_both, look_here, look_if, Reads}
use Rattle.grammar.proofs.Lookers.{then_reads}
use Rattle.grammar.specs.Choices.{BeginsBy}
use Rattle.grammar.proofs.Choices.{Anything, same_reads, mapped_reads, before_less, at_reads, EndsBefore, if_reads}
use Rattle.grammar.proofs.Leads.{lead_reads}
use Rattle.grammar.specs.Sequences.{Row}
use Rattle.grammar.proofs.Sequences.{symbol_reads, and_reads, value_reads, then_begins, all_reads}
use Rattle.grammar.specs.Separated.{Separated, look_closed}
use Rattle.grammar.proofs.Separated.{separated_reads}
use Rattle.epl_syntax.specs.declared.token.Mark.TheVariants as mark
use Rattle.epl_syntax.specs.declared.token.Token.{Token}
use Rattle.epl_syntax.specs.declared.token.TokenKind.TheVariants as kind
use Rattle.epl_syntax.specs.declared.tree.Name.{Name}
use Rattle.epl_syntax.specs.declared.tree.Target.TheVariants as target
use Rattle.epl_syntax.specs.declared.word.Word.TheVariants as word
use Rattle.epl_parser.specs.declared.statement.StatementHead.{StatementHead}
use Rattle.epl_parser.specs.declared.statement.StatementHead.TheVariants as head
use Rattle.epl_syntax.specs.Tree.{Expression, Statement, Statements, Assign, If, While, With, Wait, Signal, Yield}
use Rattle.epl_syntax.specs.Tree.{Deactivate, Checkpoint, Destroy, Create, Invoke, Return, no_statements, block_of}
use Rattle.epl_parser.specs.Heads.{ties}
use Rattle.epl_parser.specs.OneToken.{name_at, the_mark, the_word, the_lower, the_upper, headed, OneAt, look_one}
use Rattle.epl_parser.specs.Expressions.{IsExpression}
use Rattle.epl_parser.specs.ExpressionReader.{read_expression, EndsExpression}
use Rattle.epl_parser.specs.Statements.{statement_head, the_target, InParens, IsGives, PlainRest, IsStatement, IsElse}
use Rattle.epl_parser.specs.Statements.{no_else, or_else, IsBlock, no_statement}
use Rattle.epl_parser.specs.StatementReader.{not_mark, look_in_parens, read_expressions, read_names, read_gives}
use Rattle.epl_parser.specs.StatementReader.{read_name_for, read_assign, read_receiver, read_create, read_request, read_invoke, read_return}
use Rattle.epl_parser.specs.StatementReader.{read_else_by, read_if_by, read_while_by, read_with_by, read_rest_by}
use Rattle.epl_parser.specs.StatementReader.{read_statement_by, read_statements_by, inner_block, read_statement}
use Rattle.epl_parser.specs.StatementReader.{read_statements}
use Rattle.epl_parser.proofs.KindReader.{sample}
use Rattle.epl_parser.proofs.Nested.{in_step, two_steps, three_steps, alike_reads}
use Rattle.epl_parser.proofs.SingleTokens.{the_mark_is, the_word_is}
use Rattle.epl_parser.proofs.Firsts.{FirstIs, BeginsExpression, expression_first, no_close}
use Rattle.epl_parser.proofs.Follows.{is_not, no_head, before_word, before_mark, EndsStatement, EndsBlock, statement_goes}
use Rattle.epl_parser.proofs.TokenReads.{word_reads, mark_reads, lower_reads, upper_reads, before_token, part_reads}
use Rattle.epl_parser.proofs.TokenReads.{lower_behind_reads, end_reads, other_mark, other_word, parens_reads, separated_begins}
use Rattle.epl_parser.proofs.StatementForms.{token_then, word_then, Rest, Form, to_statement, from_statement}
use Rattle.epl_parser.proofs.StatementForms.{to_block, from_block, ElseForm, to_else, from_else}

-- ---- what follows
pub end_block : (t u : Token) (w : List Token) → the_word word.End t ≡ Some u → EndsBlock (t ∷ w)
unfolding ties statement_head
end_block t u w e = ((before_word word.End refl t u w e, other_word word.End word.Gives (λ t. refl) t u e), no_head word.End refl t u e)

else_block : (t u : Token) (w : List Token) → the_word word.Else t ≡ Some u → EndsBlock (t ∷ w)
unfolding ties statement_head
else_block t u w e = ((before_word word.Else refl t u w e, other_word word.Else word.Gives (λ t. refl) t u e), no_head word.Else refl t u e)

then_ends : (t u : Token) (w : List Token) → the_word word.Then t ≡ Some u → EndsExpression (t ∷ w)
unfolding ties
then_ends t u w e = before_word word.Then refl t u w e

do_ends : (t u : Token) (w : List Token) → the_word word.Do t ≡ Some u → EndsExpression (t ∷ w)
unfolding ties
do_ends t u w e = before_word word.Do refl t u w e

comma_ends : (t : Token) (w : List Token) (u : Token) → the_mark mark.Comma t ≡ Some u → EndsExpression (t ∷ w)
unfolding ties
comma_ends t w u e = before_mark mark.Comma refl t u w e

close_ends : (t u : Token) (w : List Token) → the_mark mark.Close t ≡ Some u → EndsExpression (t ∷ w)
unfolding ties
close_ends t u w e = before_mark mark.Close refl t u w e

pub close_no_comma : (t u : Token) → the_mark mark.Close t ≡ Some u → the_mark mark.Comma t ≡ None
close_no_comma t u e = other_mark mark.Close mark.Comma (λ t. refl) t u e

module _ (bytes : List ℕ) (turns : ℕ) (reads : (outer : ℕ)
    → Reads 32 turns (IsExpression bytes outer) EndsExpression (read_expression bytes turns outer)) where
  -- ---- lists
  abbrev EndsList : List Token → Type 0
  EndsList v = EndsExpression v × EndsBefore (the_mark mark.Comma) v

  expressions_reads : (d : ℕ) → Reads 32 turns (Separated d (the_mark mark.Comma) (IsExpression bytes d)) EndsList
      (read_expressions bytes turns d)
  unfolding read_expressions
  expressions_reads d =
      separated_reads 32 turns d (the_mark mark.Comma) (IsExpression bytes d) EndsExpression EndsList (read_expression bytes turns d)
      (reads d) (λ v k. k.1) (λ v k. k.0) comma_ends
      (sample (kind.Mark mark.Comma)) (sample (kind.Mark mark.Comma)) (the_mark_is mark.Comma (sample (kind.Mark mark.Comma)) refl)

  expression_opens : (d : ℕ) (ps : List (Token × ℕ)) (e : Expression) → IsExpression bytes d ps e → BeginsBy (not_mark mark.Close) ps
  expression_opens d ps e x = opens ps (expression_first bytes d ps e x)
    where
      opens : (ps : List (Token × ℕ)) → FirstIs BeginsExpression ps → BeginsBy (not_mark mark.Close) ps
      opens [] h = absurd h
      opens (p ∷ ps) h = (tt, is_not mark.Close p.0 (no_close p.0 h))

  pub args_reads : (d : ℕ) {m : List Token → Type 0} → Reads 32 turns
      (InParens d (Separated d (the_mark mark.Comma) (IsExpression bytes d))) m (look_in_parens d (read_expressions bytes turns d))
  args_reads d {m = m} =
      parens_reads turns d (Separated d (the_mark mark.Comma) (IsExpression bytes d)) EndsList (read_expressions bytes turns d) m
      (expressions_reads d)
      (λ t u w e. (close_ends t u w e, close_no_comma t u e))
      (separated_begins d (the_mark mark.Comma) (not_mark mark.Close) (IsExpression bytes d) (expression_opens d))

  names_reads : (d : ℕ) → Reads 32 turns (Separated d (the_mark mark.Comma) (OneAt d (the_lower bytes)))
      (EndsBefore (the_mark mark.Comma)) (read_names bytes turns d)
  unfolding read_names the_lower
  names_reads d =
      separated_reads 32 turns d (the_mark mark.Comma) (OneAt d (the_lower bytes)) Anything (EndsBefore (the_mark mark.Comma))
      (look_one d (the_lower bytes))
      (at_reads 32 turns (λ n. d) (the_lower bytes) (sample kind.Lower) (name_at bytes (sample kind.Lower)) refl) (λ v k. k) (λ v k. tt)
      (λ t w u e. tt)
      (sample (kind.Mark mark.Comma)) (sample (kind.Mark mark.Comma)) (the_mark_is mark.Comma (sample (kind.Mark mark.Comma)) refl)

  gives_reads : (d : ℕ) {m : List Token → Type 0} → Reads 32 turns (IsGives bytes d) m (read_gives bytes turns d)
  unfolding read_gives
  gives_reads d =
      word_reads turns d word.Gives (λ g.
      mark_reads turns d mark.Open (λ o.
      part_reads turns d (the_mark mark.Close) (names_reads d) (λ t u w e. close_no_comma t u e) (λ names.
      mark_reads turns d mark.Close (λ c. value_reads 32 turns names))))

  -- ---- statements without statements
  name_for_reads : (d : ℕ) (f : Name → Statement) {m : List Token → Type 0}
      → Reads 32 turns (Then (OneAt d (the_lower bytes)) (λ n. Nothing (f n))) m (read_name_for bytes turns f d)
  name_for_reads d f = lower_reads turns d bytes (λ n. value_reads 32 turns (f n))

  assign_reads : (d : ℕ) (t : Token) → Reads 32 turns (PlainRest bytes d head.Assign t) EndsStatement (read_assign bytes turns d t)
  unfolding read_assign
  assign_reads d t = mark_reads turns d mark.Assign (λ a. end_reads turns (λ value. Assign (name_at bytes t) value) (reads d) (λ v k. k.0))

  create_reads : (d : ℕ) (t : Token) → Reads 32 turns (PlainRest bytes d head.Create t) EndsStatement (read_create bytes turns d t)
  unfolding read_create read_receiver
  create_reads d t =
      upper_reads turns d bytes (λ type_name.
      lower_behind_reads turns d word.Status bytes (λ status.
      alike_reads 32 turns
      (word_reads turns d word.Gives (λ g.
      mark_reads turns d mark.Open (λ o.
      lower_reads turns d bytes (λ gives.
      mark_reads turns d mark.Close (λ c. value_reads 32 turns (Create type_name status gives t.start))))))
      (in_step (look_one d (the_word word.Gives)) (λ g. look_both (look_one d (the_mark mark.Open))
      (λ o. look_both (look_one d (the_lower bytes)) (λ n. look_both (look_one d (the_mark mark.Close)) (λ c. look_here n)))) _
      (λ g. three_steps (look_one d (the_mark mark.Open)) (λ o. look_one d (the_lower bytes)) (λ o gives. look_one d (the_mark mark.Close))
      (λ o gives c. gives) _))))

  some_gives : (d : ℕ) → Reads 32 turns (Perhaps [] (IsGives bytes d)) EndsStatement
      (look_if (the_word word.Gives) [] (read_gives bytes turns d))
  some_gives d =
      if_reads 32 turns (the_word word.Gives) [] (IsGives bytes d) EndsStatement (read_gives bytes turns d) (gives_reads d)
      (λ ps b p. then_begins (λ u. d) (the_word word.Gives) _ ps b p) (λ v k. k.1)

  invoke_reads : (d : ℕ) (t : Token) → Reads 32 turns (PlainRest bytes d head.Invoke t) EndsStatement (read_invoke bytes turns d t)
  unfolding read_invoke read_request the_target
  invoke_reads d t =
      symbol_reads 32 turns (λ u. d) (the_target bytes) (sample (kind.Word word.Me)) (target.Me 0) refl (λ whom.
      alike_reads 32 turns
      (mark_reads turns d mark.Dot (λ dot.
      upper_reads turns d bytes (λ operation.
      and_reads 32 turns (args_reads d) (λ args.
      lower_behind_reads turns d word.Status bytes (λ status.
      end_reads turns (λ gives. Invoke whom operation args status gives t.start) (some_gives d) (λ v k. k))))))
      (three_steps (look_one d (the_mark mark.Dot)) (λ dot. look_one d (the_upper bytes))
      (λ dot operation. look_in_parens d (read_expressions bytes turns d)) (λ dot operation args. (operation, args)) _))

  return_reads : (d : ℕ) (t : Token) → Reads 32 turns (PlainRest bytes d head.Return t) EndsStatement (read_return bytes turns d t)
  unfolding read_return
  return_reads d t = and_reads 32 turns (args_reads d) (λ results. value_reads 32 turns (Return results t.start))

  -- ---- statements in statements
  module _ (d : ℕ) (block : Looker Token Statements) (k : Reads 32 turns (IsBlock bytes (suc d)) EndsBlock block) where
    abbrev EndsElse : List Token → Type 0
    EndsElse v = EndsBlock v × EndsBefore (the_word word.Else) v

    else_reads : Reads 32 turns (IsElse bytes d) EndsElse (read_else_by bytes turns block d)
    else_reads =
        same_reads 32 turns (ElseForm bytes d) (IsElse bytes d) EndsElse (read_else_by bytes turns block d) (to_else bytes d)
        (from_else bytes d)
        (if_reads 32 turns (the_word word.Else) no_statements (Then (OneAt d (the_word word.Else)) (λ u. IsBlock bytes (suc d))) EndsElse _
        (word_reads turns d word.Else (λ u. before_less 32 turns (IsBlock bytes (suc d)) EndsBlock EndsElse block (λ v h. h.0) k))
        (λ ps b p. then_begins (λ u. d) (the_word word.Else) _ ps b p) (λ v h. h.1))

    end_else : (t u : Token) (w : List Token) → the_word word.End t ≡ Some u → EndsElse (t ∷ w)
    end_else t u w e = (end_block t u w e, other_word word.End word.Else (λ t. refl) t u e)

    else_or_end : {B : Type 0} (H : Statements → Token → Grammar (Placed Token) B) (front back : List (Token × ℕ)) (o : Statements) (b : B)
        → IsElse bytes d front o → Then (OneAt d (the_word word.End)) (H o) back b
        → (v : List Token) → EndsBlock (bare (front ++ back) ++ v)
    else_or_end H front back o b no_else next v =
        before_token EndsBlock d (the_word word.End) (λ t u w e. end_block t u w e) (H o) back b next v
    else_or_end H front back o b (or_else {ps = qs} t e p) next v = else_block t t (bare (qs ++ back) ++ v) (the_word_is word.Else t e)

    if_rest_reads : (t : Token) → Reads 32 turns (Rest bytes d head.If t) EndsStatement (read_if_by bytes turns block d t)
    if_rest_reads t =
        alike_reads 32 turns
        (part_reads turns d (the_word word.Then) (reads d) then_ends (λ test.
        word_reads turns d word.Then (λ u.
        alike_reads 32 turns
        (then_reads 32 turns turns 0 (IsBlock bytes (suc d)) _ EndsBlock EndsStatement block _ k
        (λ ps so p. part_reads turns d (the_word word.End) else_reads end_else
        (λ otherwise. word_reads turns d word.End (λ v. value_reads 32 turns (If test so otherwise t.start))))
        (λ ps so p. omega arith) (omega arith)
        (λ ps so p qs s q v h. subst (λ l. EndsBlock (bare l ++ v)) (sym q.whole)
        (else_or_end (λ o u. Nothing (If test so o t.start)) q.front q.back q.first s q.begins q.goes_on v)))
        (three_steps block (λ so. read_else_by bytes turns block d) (λ so otherwise. look_one d (the_word word.End))
        (λ so otherwise u. (so, otherwise)) _))))
        (two_steps (read_expression bytes turns d) (λ test. look_one d (the_word word.Then)) (λ test u. test) _)

    -- the statements inside, up to the end
    ended_reads : (f : Statements → Statement)
        → Reads 32 turns (Then (IsBlock bytes (suc d)) (λ body. Then (OneAt d (the_word word.End)) (λ u. Nothing (f body)))) EndsStatement
        (look_both (look_closed 32 d (the_word word.End) block) (λ body. look_here (f body)))
    ended_reads f =
        alike_reads 32 turns
        (part_reads turns d (the_word word.End) k (λ t u w e. end_block t u w e) (λ body.
        word_reads turns d word.End (λ v. value_reads 32 turns (f body))))
        (two_steps block (λ body. look_one d (the_word word.End)) (λ body u. body) _)

    while_rest_reads : (t : Token) → Reads 32 turns (Rest bytes d head.While t) EndsStatement (read_while_by bytes turns block d t)
    while_rest_reads t =
        alike_reads 32 turns
        (part_reads turns d (the_word word.Do) (reads d) do_ends (λ test.
        word_reads turns d word.Do (λ u. ended_reads (λ body. While test body t.start))))
        (two_steps (read_expression bytes turns d) (λ test. look_one d (the_word word.Do)) (λ test u. test) _)

    with_rest_reads : (t : Token) → Reads 32 turns (Rest bytes d head.With t) EndsStatement (read_with_by bytes turns block d t)
    with_rest_reads t =
        upper_reads turns d bytes (λ monitor.
        word_reads turns d word.Do (λ u. ended_reads (λ body. With monitor body t.start)))

    rest_reads : (h : StatementHead) (t : Token) → Reads 32 turns (Rest bytes d h t) EndsStatement (read_rest_by bytes turns block d h t)
    rest_reads head.If t = if_rest_reads t
    rest_reads head.While t = while_rest_reads t
    rest_reads head.With t = with_rest_reads t
    rest_reads head.Assign t = assign_reads d t
    rest_reads head.Wait t = name_for_reads d (λ n. Wait n t.start)
    rest_reads head.Signal t = name_for_reads d (λ n. Signal n t.start)
    rest_reads head.Yield t = value_reads 32 turns (Yield t.start)
    rest_reads head.Deactivate t = value_reads 32 turns (Deactivate t.start)
    rest_reads head.Checkpoint t = name_for_reads d (λ n. Checkpoint n t.start)
    rest_reads head.Destroy t = name_for_reads d (λ n. Destroy n t.start)
    rest_reads head.Create t = create_reads d t
    rest_reads head.Invoke t = invoke_reads d t
    rest_reads head.Return t = return_reads d t

  -- ---- some statement of each form
  some_if : (d : ℕ) (t : Token) → (ps : List (Token × ℕ)) × (s : Statement) × Rest bytes d head.If t ps s
  some_if d t =
      let x = (reads d).made in
      let u = sample (kind.Word word.Then) in
      let v = sample (kind.Word word.End) in
      let s = If x.1 no_statements no_statements t.start in (
        x.0 ++ (u, d) ∷ (v, d) ∷ [],
        s,
        record {
          front = x.0;
          back = (u, d) ∷ (v, d) ∷ [];
          first = x.1;
          whole = refl;
          begins = x.2;
          goes_on =
              word_then d word.Then _ u refl ((v, d) ∷ []) s
              (record {
                front = [];
                back = (v, d) ∷ [];
                first = no_statements;
                whole = refl;
                begins = no_statement;
                goes_on =
                    record {
                      front = [];
                      back = (v, d) ∷ [];
                      first = no_statements;
                      whole = refl;
                      begins = no_else;
                      goes_on = word_then d word.End _ v refl [] s (refl, refl);
                    };
              });
        },
      )

  some_while : (d : ℕ) (t : Token) → (ps : List (Token × ℕ)) × (s : Statement) × Rest bytes d head.While t ps s
  some_while d t =
      let x = (reads d).made in
      let u = sample (kind.Word word.Do) in
      let v = sample (kind.Word word.End) in
      let s = While x.1 no_statements t.start in (
        x.0 ++ (u, d) ∷ (v, d) ∷ [],
        s,
        record {
          front = x.0;
          back = (u, d) ∷ (v, d) ∷ [];
          first = x.1;
          whole = refl;
          begins = x.2;
          goes_on =
              word_then d word.Do _ u refl ((v, d) ∷ []) s
              (record {
                front = [];
                back = (v, d) ∷ [];
                first = no_statements;
                whole = refl;
                begins = no_statement;
                goes_on = word_then d word.End _ v refl [] s (refl, refl);
              });
        },
      )

  some_with : (d : ℕ) (t : Token) → (ps : List (Token × ℕ)) × (s : Statement) × Rest bytes d head.With t ps s
  unfolding the_upper
  some_with d t =
      let m = sample kind.Upper in
      let u = sample (kind.Word word.Do) in
      let v = sample (kind.Word word.End) in
      let s = With (name_at bytes m) no_statements t.start in (
        (m, d) ∷ (u, d) ∷ (v, d) ∷ [],
        s,
        token_then d (the_upper bytes) _ m (name_at bytes m) refl ((u, d) ∷ (v, d) ∷ []) s
            (word_then d word.Do _ u refl ((v, d) ∷ []) s
            (record {
              front = [];
              back = (v, d) ∷ [];
              first = no_statements;
              whole = refl;
              begins = no_statement;
              goes_on = word_then d word.End _ v refl [] s (refl, refl);
            })),
      )

  some_rest : (d : ℕ) (h : StatementHead) (t : Token) → (ps : List (Token × ℕ)) × (s : Statement) × Rest bytes d h t ps s
  some_rest d head.If t = some_if d t
  some_rest d head.While t = some_while d t
  some_rest d head.With t = some_with d t
  some_rest d head.Assign t = (assign_reads d t).made
  some_rest d head.Wait t = (name_for_reads d (λ n. Wait n t.start) {m = Anything}).made
  some_rest d head.Signal t = (name_for_reads d (λ n. Signal n t.start) {m = Anything}).made
  some_rest d head.Yield t = ([], Yield t.start, (refl, refl))
  some_rest d head.Deactivate t = ([], Deactivate t.start, (refl, refl))
  some_rest d head.Checkpoint t = (name_for_reads d (λ n. Checkpoint n t.start) {m = Anything}).made
  some_rest d head.Destroy t = (name_for_reads d (λ n. Destroy n t.start) {m = Anything}).made
  some_rest d head.Create t = (create_reads d t).made
  some_rest d head.Invoke t = (invoke_reads d t).made
  some_rest d head.Return t = (return_reads d t).made

  -- ---- statements and blocks
  statement_reads_by : (d : ℕ) (block : Looker Token Statements) → (d ≤ 32 → Reads 32 turns (IsBlock bytes (suc d)) EndsBlock block)
      → Reads 32 turns (IsStatement bytes d) EndsStatement (read_statement_by bytes turns block d)
  unfolding statement_head
  statement_reads_by d block k =
      same_reads 32 turns (Form bytes d) (IsStatement bytes d) EndsStatement (read_statement_by bytes turns block d) (to_statement bytes d)
      (from_statement bytes d)
      (lead_reads 32 turns (λ h. d) (headed statement_head) (λ h. Rest bytes d h.0 h.1) EndsStatement
      (λ h. read_rest_by bytes turns block d h.0 h.1) (λ h. some_rest d h.0 h.1)
      (sample (kind.Word word.Yield)) (head.Yield, sample (kind.Word word.Yield)) refl (λ h fit. rest_reads d block (k fit) h.0 h.1))

  pub statement_begins : (d : ℕ) (ps : List (Token × ℕ)) (s : Statement) → IsStatement bytes d ps s → BeginsBy (headed statement_head) ps
  statement_begins d ps s p = then_begins (λ h. d) (headed statement_head) (λ h. Rest bytes d h.0 h.1) ps s (from_statement bytes d ps s p)

  row_of_reads : (d : ℕ) (block : Looker Token Statements)
      → Reads 32 turns (IsStatement bytes d) EndsStatement (read_statement_by bytes turns block d)
      → Reads 32 turns (Row (IsStatement bytes d)) EndsBlock (read_statements_by bytes turns block d)
  row_of_reads d block k =
      all_reads 32 turns (headed statement_head) (IsStatement bytes d) EndsStatement EndsBlock (read_statement_by bytes turns block d) k
      (statement_begins d) (λ v h. h.1) (λ v h. h.0) (λ t w h e. statement_goes t w h e)

  pub statement_reads : (n d : ℕ) → 32 < d + n → Reads 32 turns (IsStatement bytes d) EndsStatement (read_statement bytes turns n d)
  unfolding read_statement inner_block
  statement_reads zero d h = statement_reads_by d (inner_block bytes turns zero (suc d)) (λ fit. absurd (omega arith))
  statement_reads (suc n) d h =
      statement_reads_by d (inner_block bytes turns (suc n) (suc d))
      (λ fit.
      same_reads 32 turns (Mapped block_of (Row (IsStatement bytes (suc d)))) (IsBlock bytes (suc d)) EndsBlock
      (inner_block bytes turns (suc n) (suc d)) (to_block bytes (suc d)) (from_block bytes (suc d))
      (mapped_reads 32 turns block_of (Row (IsStatement bytes (suc d))) EndsBlock _
      (row_of_reads (suc d) (inner_block bytes turns n (suc (suc d))) (statement_reads n (suc d) (omega arith)))))

  pub statements_reads : (n d : ℕ) → 32 < d + n → Reads 32 turns (Row (IsStatement bytes d)) EndsBlock (read_statements bytes turns n d)
  unfolding read_statement read_statements
  statements_reads n d h = row_of_reads d (inner_block bytes turns n (suc d)) (statement_reads n d h)
