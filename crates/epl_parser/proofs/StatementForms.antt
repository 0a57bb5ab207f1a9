-- The grammar of statements in the form that readers are composed by: a first token, and what stands behind it.
use Rattle.std.proofs.Common.{◌≡◌, ℕ, suc, List, [], ◌∷◌, ◌++◌, Option, Some, refl, sym, ap, ◌∙◌, subst, inl, inr}
use Rattle.grammar.specs.Grammar.{Grammar, Nothing, Then, Mapped}
use Rattle.grammar.specs.Depths.{Placed, Perhaps}
use Rattle.grammar.proofs.Leads.{at_one}
use Rattle.grammar.specs.Sequences.{◌>>=◌, ◌>>◌, Row, no_more, one_more}
use Rattle.epl_syntax.specs.declared.token.Token.{Token}
use Rattle.epl_syntax.specs.declared.token.TokenKind.{TokenKind}
use Rattle.epl_syntax.specs.declared.token.TokenKind.TheVariants as kind
use Rattle.epl_syntax.specs.declared.word.Word.{Word}
use Rattle.epl_syntax.specs.declared.word.Word.TheVariants as word
use Rattle.epl_syntax.specs.declared.tree.Name.{Name}
use Rattle.epl_parser.specs.declared.statement.StatementHead.{StatementHead}
use Rattle.epl_parser.specs.declared.statement.StatementHead.TheVariants as head
use Rattle.epl_syntax.specs.Tree.{Statement, Statements, If, While, With, no_statements, statement_and, block_of}
use Rattle.epl_parser.specs.OneToken.{name_at, if_upper, the_word, the_upper, headed, OneAt}
use Rattle.epl_parser.specs.Expressions.{IsExpression}
use Rattle.epl_parser.specs.Statements.{statement_head, PlainRest, IsStatement, plain, tested, repeated, guarded}
use Rattle.epl_parser.specs.Statements.{IsElse, no_else, or_else, IsBlock, no_statement, and_statement}
use Rattle.epl_parser.proofs.SingleTokens.{is_the_word, the_word_is, is_headed, headed_is}

-- ---- one token, and what comes behind it
pub next_token : {A B : Type 0} (d : ℕ) (f : Token → Option A) (H : A → Grammar (Placed Token) B) (ps : List (Token × ℕ)) (b : B)
    → Then (OneAt d f) H ps b
    → (u : Token) × (a : A) × (f u ≡ Some a) × (back : List (Token × ℕ)) × (ps ≡ (u, d) ∷ back) × H a back b
next_token d f H ps b t =
    let o = at_one (λ a. d) f t.front t.first t.begins in
    (o.0, t.first, o.1, t.back, t.whole ∙ ap (λ l. l ++ t.back) o.2, t.goes_on)

pub next_word : {B : Type 0} (d : ℕ) (w : Word) (H : Token → Grammar (Placed Token) B) (ps : List (Token × ℕ)) (b : B)
    → Then (OneAt d (the_word w)) H ps b
    → (u : Token) × (u.kind ≡ kind.Word w) × (back : List (Token × ℕ)) × (ps ≡ (u, d) ∷ back) × H u back b
next_word d w H ps b t =
    let o = next_token d (the_word w) H ps b t in
    let is = is_the_word w o.0 o.1 o.2 in
    (o.0, is.0, o.3, o.4, subst (λ u. H u o.3 b) (sym is.1) o.5)

pub token_then : {A B : Type 0} (d : ℕ) (f : Token → Option A) (H : A → Grammar (Placed Token) B) (u : Token) (a : A) → f u ≡ Some a
    → (back : List (Token × ℕ)) (b : B) → H a back b
    → Then (OneAt d f) H ((u, d) ∷ back) b
token_then d f H u a e back b h = record { front = (u, d) ∷ []; back = back; first = a; whole = refl; begins = (refl, e); goes_on = h }

pub word_then : {B : Type 0} (d : ℕ) (w : Word) (H : Token → Grammar (Placed Token) B) (u : Token) → u.kind ≡ kind.Word w
    → (back : List (Token × ℕ)) (b : B) → H u back b
    → Then (OneAt d (the_word w)) H ((u, d) ∷ back) b
word_then d w H u e back b h = token_then d (the_word w) H u u (the_word_is w u e) back b h

-- ---- names
upper_in : (bytes : List ℕ) (t : Token) (k : TokenKind) (n : Name) → if_upper bytes t k ≡ Some n → (k ≡ kind.Upper) × (n ≡ name_at bytes t)
upper_in bytes t kind.Upper n e = (refl, let same : name_at bytes t ≡ n = cc in sym same)
upper_in bytes t kind.Lower n e = absurd (cc)
upper_in bytes t (kind.Int i) n e = absurd (cc)
upper_in bytes t kind.Text n e = absurd (cc)
upper_in bytes t (kind.Mark m) n e = absurd (cc)
upper_in bytes t (kind.Word w) n e = absurd (cc)

is_the_upper : (bytes : List ℕ) (t : Token) (n : Name) → the_upper bytes t ≡ Some n → (t.kind ≡ kind.Upper) × (n ≡ name_at bytes t)
unfolding the_upper
is_the_upper bytes t n e = upper_in bytes t t.kind n e

the_upper_is : (bytes : List ℕ) (t : Token) → t.kind ≡ kind.Upper → the_upper bytes t ≡ Some (name_at bytes t)
unfolding the_upper
the_upper_is bytes t e = ap (if_upper bytes t) e

module _ (bytes : List ℕ) where
  -- what stands behind the first token
  abbrev pub Rest : ℕ → StatementHead → Token → Grammar (Placed Token) Statement
  Rest d head.If t = do
    test ← IsExpression bytes d
    OneAt d (the_word word.Then)
    so ← IsBlock bytes (suc d)
    otherwise ← IsElse bytes d
    OneAt d (the_word word.End)
    Nothing (If test so otherwise t.start)
  Rest d head.While t = do
    test ← IsExpression bytes d
    OneAt d (the_word word.Do)
    body ← IsBlock bytes (suc d)
    OneAt d (the_word word.End)
    Nothing (While test body t.start)
  Rest d head.With t = do
    monitor ← OneAt d (the_upper bytes)
    OneAt d (the_word word.Do)
    body ← IsBlock bytes (suc d)
    OneAt d (the_word word.End)
    Nothing (With monitor body t.start)
  Rest d h t = PlainRest bytes d h t

  abbrev pub Form : ℕ → Grammar (Placed Token) Statement
  Form d = do
    h ← OneAt d (headed statement_head)
    Rest d h.0 h.1

  -- ---- from that form
  to_if : (d : ℕ) (t : Token) → statement_head t.kind ≡ Some head.If → (ps : List (Token × ℕ)) (s : Statement) → Rest d head.If t ps s
      → IsStatement bytes d ((t, d) ∷ ps) s
  to_if d t e ps s r =
      let u = next_word d word.Then _ r.back s r.goes_on in
      let so = u.4 in
      let other = so.goes_on in
      let v = next_word d word.End _ other.back s other.goes_on in
      let whole : ps ≡ r.front ++ (u.0, d) ∷ (so.front ++ (other.front ++ (v.0, d) ∷ [])) =
      r.whole ∙ ap (λ l. r.front ++ l) (u.3 ∙ ap (λ l. (u.0, d) ∷ l)
      (so.whole ∙ ap (λ l. so.front ++ l) (other.whole ∙ ap (λ l. other.front ++ l) (v.3 ∙ ap (λ l. (v.0, d) ∷ l) v.4.0)))) in
      subst (λ l. IsStatement bytes d ((t, d) ∷ l) s) (sym whole)
      (subst (λ x. IsStatement bytes d ((t, d) ∷ (r.front ++ (u.0, d) ∷ (so.front ++ (other.front ++ (v.0, d) ∷ [])))) x) (sym v.4.1)
      (tested t u.0 v.0 e r.begins u.1 so.begins other.begins v.1))

  to_while : (d : ℕ) (t : Token) → statement_head t.kind ≡ Some head.While → (ps : List (Token × ℕ)) (s : Statement)
      → Rest d head.While t ps s → IsStatement bytes d ((t, d) ∷ ps) s
  to_while d t e ps s r =
      let u = next_word d word.Do _ r.back s r.goes_on in
      let body = u.4 in
      let v = next_word d word.End _ body.back s body.goes_on in
      let whole : ps ≡ r.front ++ (u.0, d) ∷ (body.front ++ (v.0, d) ∷ []) =
      r.whole ∙ ap (λ l. r.front ++ l) (u.3 ∙ ap (λ l. (u.0, d) ∷ l)
      (body.whole ∙ ap (λ l. body.front ++ l) (v.3 ∙ ap (λ l. (v.0, d) ∷ l) v.4.0))) in
      subst (λ l. IsStatement bytes d ((t, d) ∷ l) s) (sym whole)
      (subst (λ x. IsStatement bytes d ((t, d) ∷ (r.front ++ (u.0, d) ∷ (body.front ++ (v.0, d) ∷ []))) x) (sym v.4.1)
      (repeated t u.0 v.0 e r.begins u.1 body.begins v.1))

  to_with : (d : ℕ) (t : Token) → statement_head t.kind ≡ Some head.With → (ps : List (Token × ℕ)) (s : Statement) → Rest d head.With t ps s
      → IsStatement bytes d ((t, d) ∷ ps) s
  to_with d t e ps s r =
      let m = next_token d (the_upper bytes) _ ps s r in
      let is = is_the_upper bytes m.0 m.1 m.2 in
      let u = next_word d word.Do _ m.3 s m.5 in
      let body = u.4 in
      let v = next_word d word.End _ body.back s body.goes_on in
      let whole : ps ≡ (m.0, d) ∷ (u.0, d) ∷ (body.front ++ (v.0, d) ∷ []) =
      m.4 ∙ ap (λ l. (m.0, d) ∷ l) (u.3 ∙ ap (λ l. (u.0, d) ∷ l)
      (body.whole ∙ ap (λ l. body.front ++ l) (v.3 ∙ ap (λ l. (v.0, d) ∷ l) v.4.0))) in
      subst (λ l. IsStatement bytes d ((t, d) ∷ l) s) (sym whole)
      (subst (λ x. IsStatement bytes d ((t, d) ∷ (m.0, d) ∷ (u.0, d) ∷ (body.front ++ (v.0, d) ∷ [])) x)
      (sym (v.4.1 ∙ ap (λ n. With n body.first t.start) is.1))
      (guarded t m.0 u.0 v.0 e is.0 u.1 body.begins v.1))

  to_rest : (d : ℕ) (t : Token) (h : StatementHead) → statement_head t.kind ≡ Some h → (ps : List (Token × ℕ)) (s : Statement)
      → Rest d h t ps s → IsStatement bytes d ((t, d) ∷ ps) s
  to_rest d t head.If e ps s r = to_if d t e ps s r
  to_rest d t head.While e ps s r = to_while d t e ps s r
  to_rest d t head.With e ps s r = to_with d t e ps s r
  to_rest d t head.Assign e ps s r = plain head.Assign t e r
  to_rest d t head.Wait e ps s r = plain head.Wait t e r
  to_rest d t head.Signal e ps s r = plain head.Signal t e r
  to_rest d t head.Yield e ps s r = plain head.Yield t e r
  to_rest d t head.Deactivate e ps s r = plain head.Deactivate t e r
  to_rest d t head.Checkpoint e ps s r = plain head.Checkpoint t e r
  to_rest d t head.Destroy e ps s r = plain head.Destroy t e r
  to_rest d t head.Create e ps s r = plain head.Create t e r
  to_rest d t head.Invoke e ps s r = plain head.Invoke t e r
  to_rest d t head.Return e ps s r = plain head.Return t e r

  pub to_statement : (d : ℕ) (ps : List (Token × ℕ)) (s : Statement) → Form d ps s → IsStatement bytes d ps s
  to_statement d ps s r =
      let o = next_token d (headed statement_head) _ ps s r in
      let is = is_headed statement_head o.0 o.1 o.2 in
      subst (λ l. IsStatement bytes d l s) (sym (o.4 ∙ ap (λ (t : Token). (t, d) ∷ o.3) is.1))
      (to_rest d o.1.1 o.1.0 (subst (λ (t : Token). statement_head t.kind ≡ Some o.1.0) is.1 is.0) o.3 s o.5)

  -- ---- to that form
  form : (d : ℕ) (h : StatementHead) (t : Token) → statement_head t.kind ≡ Some h → (ps : List (Token × ℕ)) (s : Statement)
      → Rest d h t ps s → Form d ((t, d) ∷ ps) s
  form d h t e ps s r = token_then d (headed statement_head) (λ x. Rest d x.0 x.1) t (h, t) (headed_is statement_head t h e) ps s r

  from_plain : (d : ℕ) (h : StatementHead) (t : Token) (ps : List (Token × ℕ)) (s : Statement) → PlainRest bytes d h t ps s
      → Rest d h t ps s
  from_plain d head.If t ps s r = absurd r
  from_plain d head.While t ps s r = absurd r
  from_plain d head.With t ps s r = absurd r
  from_plain d h t ps s r = r

  pub from_statement : (d : ℕ) (ps : List (Token × ℕ)) (s : Statement) → IsStatement bytes d ps s → Form d ps s
  from_statement d ps s (plain {ps = qs} h t e r) = form d h t e qs s (from_plain d h t qs s r)
  from_statement d ps s (tested {ps = as_} {qs = bs} {rs = cs} {test = test} {so = so} {otherwise = otherwise} t u v e x f b o g) =
      form d head.If t e (as_ ++ (u, d) ∷ (bs ++ (cs ++ (v, d) ∷ []))) s
      (record {
        front = as_;
        back = (u, d) ∷ (bs ++ (cs ++ (v, d) ∷ []));
        first = test;
        whole = refl;
        begins = x;
        goes_on =
            word_then d word.Then _ u f (bs ++ (cs ++ (v, d) ∷ [])) s
            (record {
              front = bs;
              back = cs ++ (v, d) ∷ [];
              first = so;
              whole = refl;
              begins = b;
              goes_on =
                  record {
                    front = cs;
                    back = (v, d) ∷ [];
                    first = otherwise;
                    whole = refl;
                    begins = o;
                    goes_on = word_then d word.End _ v g [] s (refl, refl);
                  };
            });
      })
  from_statement d ps s (repeated {ps = as_} {qs = bs} {test = test} {body = body} t u v e x f b g) =
      form d head.While t e (as_ ++ (u, d) ∷ (bs ++ (v, d) ∷ [])) s
      (record {
        front = as_;
        back = (u, d) ∷ (bs ++ (v, d) ∷ []);
        first = test;
        whole = refl;
        begins = x;
        goes_on =
            word_then d word.Do _ u f (bs ++ (v, d) ∷ []) s
            (record {
              front = bs;
              back = (v, d) ∷ [];
              first = body;
              whole = refl;
              begins = b;
              goes_on = word_then d word.End _ v g [] s (refl, refl);
            });
      })
  from_statement d ps s (guarded {ps = bs} {body = body} t m u v e n f b g) =
      form d head.With t e ((m, d) ∷ (u, d) ∷ (bs ++ (v, d) ∷ [])) s
      (token_then d (the_upper bytes) _ m (name_at bytes m) (the_upper_is bytes m n) ((u, d) ∷ (bs ++ (v, d) ∷ [])) s
      (word_then d word.Do _ u f (bs ++ (v, d) ∷ []) s
      (record {
        front = bs;
        back = (v, d) ∷ [];
        first = body;
        whole = refl;
        begins = b;
        goes_on = word_then d word.End _ v g [] s (refl, refl);
      })))

  -- ---- blocks
  row_block : (d : ℕ) (ps : List (Token × ℕ)) (ss : List Statement) → Row (IsStatement bytes d) ps ss → IsBlock bytes d ps (block_of ss)
  row_block d ps ss no_more = no_statement
  row_block d ps ss (one_more {back = back} {more = more} s r) = and_statement s (row_block d back more r)

  pub to_block : (d : ℕ) (ps : List (Token × ℕ)) (b : Statements) → Mapped block_of (Row (IsStatement bytes d)) ps b → IsBlock bytes d ps b
  to_block d ps b m = subst (λ x. IsBlock bytes d ps x) (sym m.2) (row_block d ps m.0 m.1)

  pub from_block : (d : ℕ) (ps : List (Token × ℕ)) (b : Statements) → IsBlock bytes d ps b
      → Mapped block_of (Row (IsStatement bytes d)) ps b
  from_block d ps b no_statement = ([], no_more, refl)
  from_block d ps b (and_statement {qs = qs} {s = s} {rest = rest} x r) =
      let m = from_block d qs rest r in
      (s ∷ m.0, one_more x m.1, ap (λ l. statement_and s l) m.2)

  abbrev pub ElseForm : ℕ → Grammar (Placed Token) Statements
  ElseForm d =
      Perhaps no_statements (do
        OneAt d (the_word word.Else)
        IsBlock bytes (suc d))

  pub to_else : (d : ℕ) (ps : List (Token × ℕ)) (b : Statements) → ElseForm d ps b → IsElse bytes d ps b
  to_else d ps b (inl e) = subst (λ l. IsElse bytes d l b) (sym e.0) (subst (λ x. IsElse bytes d [] x) (sym e.1) no_else)
  to_else d ps b (inr t) =
      let u = next_word d word.Else _ ps b t in
      subst (λ l. IsElse bytes d l b) (sym u.3) (or_else u.0 u.1 u.4)

  pub from_else : (d : ℕ) (ps : List (Token × ℕ)) (b : Statements) → IsElse bytes d ps b → ElseForm d ps b
  from_else d ps b no_else = inl (refl, refl)
  from_else d ps b (or_else {ps = qs} t e k) = inr (word_then d word.Else _ t e qs b k)
