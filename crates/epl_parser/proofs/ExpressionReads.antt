-- The reader of expressions reads their grammar.
use Rattle.std.proofs.Common.{◌≡◌, ℕ, zero, suc, ◌+◌, ◌<◌, ◌≤◌, List, [], ◌∷◌, ◌++◌, Option, Some, None, refl, sym}
use Rattle.std.proofs.Common.{ap, ◌∙◌, subst, arith, max, inl, inr}
use Rattle.grammar.specs.Grammar.{Mapped}
use Rattle.grammar.specs.Depths.{bare, Perhaps, Steps, no_step, step_on, look_both, look_mapped, look_if, Reads}
use Rattle.grammar.proofs.Lookers.{then_reads}
use Rattle.grammar.specs.Choices.{BeginsBy}
use Rattle.grammar.proofs.Choices.{Anything, same_reads, before_less, here_reads, mapped_reads, EndsBefore, if_reads}
use Rattle.grammar.proofs.InSteps.{many_reads}
use Rattle.grammar.specs.Alternatives.{BeginsElse, either_reads}
use Rattle.grammar.proofs.Leads.{at_one, lead_reads}
use Rattle.grammar.specs.Separated.{alone, look_closed}
use Rattle.grammar.proofs.Separated.{Closed, closed_reads, separated_reads}
use Rattle.epl_syntax.specs.declared.token.Mark.{Mark}
use Rattle.epl_syntax.specs.declared.token.Mark.TheVariants as mark
use Rattle.epl_syntax.specs.declared.word.Word.TheVariants as word
use Rattle.epl_syntax.specs.declared.token.Token.{Token}
use Rattle.epl_syntax.specs.declared.token.TokenKind.TheVariants as kind
use Rattle.epl_syntax.specs.declared.tree.Prefix.{Prefix}
use Rattle.epl_syntax.specs.declared.tree.Prefix.TheVariants as prefix
use Rattle.epl_syntax.specs.declared.tree.Operator.{Operator}
use Rattle.epl_syntax.specs.declared.tree.Operator.TheVariants as operator
use Rattle.epl_parser.specs.declared.head.Level.{Level}
use Rattle.epl_parser.specs.declared.head.Level.TheVariants as level
use Rattle.epl_parser.specs.declared.head.PrimaryHead.{PrimaryHead}
use Rattle.epl_parser.specs.declared.head.PrimaryHead.TheVariants as head
use Rattle.epl_syntax.specs.Tree.{integer, text, truth, absent, empty_list, Expression, Const_, Name_, Me, ListOf, Apply, in_order}
use Rattle.epl_parser.specs.OneToken.{name_at, if_mark, the_mark, the_word, headed, OneAt}
use Rattle.epl_parser.specs.Heads.{operator_at, comparison, primary_head, ties}
use Rattle.epl_parser.specs.Constants.{text_at, read_kind_in_parens}
use Rattle.epl_parser.specs.Expressions as rule
use Rattle.epl_parser.specs.Expressions.{Parsed, joined, prefixed, at_index, single, IsChain, IsPart, IsNeg, IsCmp}
use Rattle.epl_parser.specs.Expressions.{IsUnit, IsPrimary, IsExpression}
use Rattle.epl_parser.specs.ExpressionReader.{Ends, EndsExpression, Reader, Inner, read_step, read_steps, read_chain_by, read_compared}
use Rattle.epl_parser.specs.ExpressionReader.{read_prefixed, read_index, read_indices, read_exprs, read_exprs_to, read_args}
use Rattle.epl_parser.specs.ExpressionReader.{read_primary_rest, read_primary_by, unit_by, term_by, sum_by, cmp_by, neg_by, conj_by}
use Rattle.epl_parser.specs.ExpressionReader.{expr_by, inner, read_part, read_chain, read_indexed, read_expression, IsClosing}
use Rattle.epl_parser.proofs.SingleTokens.{the_word_is, is_the_mark, the_mark_is}
use Rattle.epl_parser.proofs.KindReader.{sample}
use Rattle.epl_parser.proofs.ConstantReads.{mark_reads, mark_one, one_closed, KindInParens, kind_in_parens_reads, some_kind_in_parens}
use Rattle.epl_parser.proofs.Endings.{rank, part_rank, rank_below, less_ends, operator_ties, ends_operators}
use Rattle.epl_parser.proofs.Endings.{comparison_ties, ends_comparison, ends_index, Parts, comma_parts, close_parts}
use Rattle.epl_parser.proofs.Endings.{close_list_parts}
use Rattle.epl_parser.proofs.Firsts.{BeginsPrimary, first_longer, primary_first, cmp_first, else_not, else_minus}
use Rattle.epl_parser.proofs.Growing.{grows_primary, grows_chain, grows_part}
use Rattle.epl_parser.proofs.ExpressionForms.{Step, ChainForm, to_chain, from_chain, Compared, CmpForm, to_cmp}
use Rattle.epl_parser.proofs.ExpressionForms.{from_cmp, Prefixed, NegForm, to_neg, from_neg, IndexStep, IndexedForm}
use Rattle.epl_parser.proofs.ExpressionForms.{UnitForm, to_unit, from_unit, Item, Items, ItemsTo, Args, PrimaryRest}
use Rattle.epl_parser.proofs.ExpressionForms.{PrimaryForm, to_primary, from_primary}

-- a comma does not stand where this mark does
abbrev NoComma : Mark → Type 0
NoComma m = (t u : Token) → the_mark m t ≡ Some u → the_mark mark.Comma t ≡ None

module _ (bytes : List ℕ) (turns outer : ℕ) where
  -- ---- some spelling of each rule
  some_primary : (d : ℕ) → (ps : List (Token × ℕ)) × (x : Parsed) × IsPrimary bytes outer d ps x
  unfolding primary_head
  some_primary d = (
    (sample kind.Lower, max outer d) ∷ [],
    single (Name_ (name_at bytes (sample kind.Lower))) (sample kind.Lower) d,
    rule.name_operand (sample kind.Lower) refl,
  )

  some_unit : (d : ℕ) → (ps : List (Token × ℕ)) × (x : Parsed) × IsUnit bytes outer d ps x
  some_unit d = let p = some_primary d in (p.0 ++ [], p.1, rule.indexed p.2 rule.no_index)

  some_part : (l : Level) (d : ℕ) → (ps : List (Token × ℕ)) × (x : Parsed) × IsPart bytes outer l d ps x
  some_part level.Term d = let u = some_unit d in (u.0, u.1, rule.unit u.2)
  some_part level.Sum d = let u = some_unit d in (u.0 ++ [], u.1, rule.term (rule.chain (rule.unit u.2) rule.no_more))
  some_part level.And d =
      let u = some_unit d in (
        (u.0 ++ []) ++ [],
        u.1,
        rule.neg (rule.cmp (rule.sum
            (rule.chain (rule.term (rule.chain (rule.unit u.2) rule.no_more)) rule.no_more))),
      )
  some_part level.Or d =
      let u = some_unit d in (
        ((u.0 ++ []) ++ []) ++ [],
        u.1,
        rule.conj (rule.chain
            (rule.neg (rule.cmp (rule.sum (rule.chain (rule.term (rule.chain (rule.unit u.2) rule.no_more)) rule.no_more)))) rule.no_more),
      )

  some_chain : (l : Level) (d : ℕ) → (ps : List (Token × ℕ)) × (x : Parsed) × IsChain bytes outer l d ps x
  some_chain l d = let p = some_part l d in (p.0 ++ [], p.1, rule.chain p.2 rule.no_more)

  some_neg : (d : ℕ) → (ps : List (Token × ℕ)) × (x : Parsed) × IsNeg bytes outer d ps x
  some_neg d = let c = some_chain level.Sum d in (c.0, c.1, rule.cmp (rule.sum c.2))

  some_items : (d : ℕ) → (ps : List (Token × ℕ)) × (es : List Expression) × Items bytes outer d ps es
  some_items d = let c = some_chain level.Or (suc d) in (c.0, c.1.tree ∷ [], alone (c.1, c.2, refl))

  some_rest : (d : ℕ) (h : PrimaryHead × Token) → (ps : List (Token × ℕ)) × (x : Parsed) × PrimaryRest bytes outer d h.0 h.1 ps x
  some_rest d (head.Int n, t) = ([], single (Const_ (integer n) t.start) t d, (refl, refl))
  some_rest d (head.Text, t) = ([], single (Const_ (text (text_at bytes t)) t.start) t d, (refl, refl))
  some_rest d (head.Bool b, t) = ([], single (Const_ (truth b) t.start) t d, (refl, refl))
  some_rest d (head.Absent, t) = ([], single (Const_ absent t.start) t d, (refl, refl))
  some_rest d (head.Me, t) = ([], single (Me t.start) t d, (refl, refl))
  some_rest d (head.Name, t) = ([], single (Name_ (name_at bytes t)) t d, (refl, refl))
  some_rest d (head.Parens, t) =
      let c = some_chain level.Or (suc d) in
      let u : Token = sample (kind.Mark mark.Close) in (
        c.0 ++ (u, max outer d) ∷ [],
        single c.1.tree t d,
        (
          c.1,
          one_closed (max outer d) mark.Close (IsChain bytes outer level.Or (suc d)) c.0 c.1 u c.2 refl,
          refl,
        ),
      )
  some_rest d (head.List, t) =
      let i = some_items d in
      let u : Token = sample (kind.Mark mark.CloseList) in (
        i.0 ++ (u, max outer d) ∷ [],
        single (ListOf (in_order i.1) t.start) t d,
        (i.1, one_closed (max outer d) mark.CloseList (Items bytes outer d) i.0 i.1 u i.2 refl, refl),
      )
  some_rest d (head.EmptyList, t) =
      let k = some_kind_in_parens (max outer d) in (k.0, single (Const_ (empty_list k.1) t.start) t d, (k.1, k.2, refl))
  some_rest d (head.Apply b, t) =
      let i = some_items d in
      let o : Token = sample (kind.Mark mark.Open) in
      let u : Token = sample (kind.Mark mark.Close) in (
        (o, max outer d) ∷ (i.0 ++ (u, max outer d) ∷ []),
        single (Apply b (in_order i.1) t.start) t d,
        (
          i.1,
          record {
            front = (o, max outer d) ∷ [];
            back = i.0 ++ (u, max outer d) ∷ [];
            first = o;
            whole = refl;
            begins = mark_one (max outer d) mark.Open o refl;
            goes_on = one_closed (max outer d) mark.Close (Items bytes outer d) i.0 i.1 u i.2 refl;
          },
          refl,
        ),
      )

  -- ---- what stands inside, where so many levels may
  record InnerReads (n : ℕ) (i : Inner) : Type 0 where
    unit : (d : ℕ) → 33 < d + n → d ≤ 33 → Reads 32 turns (IsUnit bytes outer d) (Ends 6) (i.unit d)
    neg : (d : ℕ) → 33 < d + n → d ≤ 33 → Reads 32 turns (IsNeg bytes outer d) (Ends 3) (i.neg d)
    expr : (d : ℕ) → 33 < d + n → d ≤ 33 → Reads 32 turns (IsChain bytes outer level.Or d) (Ends 1) (i.expr d)

  module _ (n : ℕ) (i : Inner) (r : InnerReads n i) where
    -- ---- operands
    item_reads : (d : ℕ) → d ≤ 32 → 32 < d + n → Reads 32 turns (Item bytes outer d) (Ends 1)
        (look_mapped (λ (x : Parsed). x.tree) (i.expr (suc d)))
    item_reads d le h =
        mapped_reads 32 turns (λ (x : Parsed). x.tree) (IsChain bytes outer level.Or (suc d)) (Ends 1) (i.expr (suc d))
        (r.expr (suc d) (omega arith) (omega arith))

    -- behind the last one stands what ends an expression and is no comma
    abbrev EndsItems : List Token → Type 0
    EndsItems v = Ends 1 v × EndsBefore (the_mark mark.Comma) v

    items_reads : (d : ℕ) → d ≤ 32 → 32 < d + n → Reads 32 turns (Items bytes outer d) EndsItems (read_exprs bytes turns outer i.expr d)
    items_reads d le h =
        separated_reads 32 turns (max outer d) (the_mark mark.Comma) (Item bytes outer d) (Ends 1) EndsItems
        (look_mapped (λ (x : Parsed). x.tree) (i.expr (suc d))) (item_reads d le h)
        (λ v e. e.1) (λ v e. e.0) (λ s w k e. comma_parts s k w e) (sample (kind.Mark mark.Comma)) (sample (kind.Mark mark.Comma))
        (the_mark_is mark.Comma (sample (kind.Mark mark.Comma)) refl)

    items_to_reads : (m : Mark) → Parts m → NoComma m → (d : ℕ) → d ≤ 32 → 32 < d + n
        → Reads 32 turns (ItemsTo bytes outer m d) Anything (read_exprs_to bytes turns outer m i.expr d)
    items_to_reads m parts bare_of d le h =
        closed_reads 32 turns (max outer d) (the_mark m) (Items bytes outer d) EndsItems (read_exprs bytes turns outer i.expr d)
        (items_reads d le h)
        (λ s w k e. (parts s k w e, bare_of s k e)) (sample (kind.Mark m)) (sample (kind.Mark m))
        (the_mark_is m (sample (kind.Mark m)) refl)

    no_comma_close : NoComma mark.Close
    unfolding the_mark
    no_comma_close t u e = ap (if_mark mark.Comma t) (is_the_mark mark.Close t u e).0

    no_comma_close_list : NoComma mark.CloseList
    unfolding the_mark
    no_comma_close_list t u e = ap (if_mark mark.Comma t) (is_the_mark mark.CloseList t u e).0

    args_reads : (d : ℕ) → d ≤ 32 → 32 < d + n → Reads 32 turns (Args bytes outer d) Anything (read_args bytes turns outer i.expr d)
    args_reads d le h =
        then_reads 32 turns turns 0 (OneAt (max outer d) (the_mark mark.Open)) (λ o. ItemsTo bytes outer mark.Close d) Anything Anything _ _
        (mark_reads turns (max outer d) mark.Open) (λ ps o p. items_to_reads mark.Close close_parts no_comma_close d le h)
        (λ ps o p. omega arith) (omega arith) (λ ps o p qs es q v f. tt)

    primary_rest_reads : (d : ℕ) → d ≤ 32 → 32 < d + n → (h : PrimaryHead) (t : Token)
        → Reads 32 turns (PrimaryRest bytes outer d h t) Anything (read_primary_rest bytes turns outer i.expr d h t)
    primary_rest_reads d le g (head.Int n) t = here_reads 32 turns (single (Const_ (integer n) t.start) t d)
    primary_rest_reads d le g head.Text t = here_reads 32 turns (single (Const_ (text (text_at bytes t)) t.start) t d)
    primary_rest_reads d le g (head.Bool b) t = here_reads 32 turns (single (Const_ (truth b) t.start) t d)
    primary_rest_reads d le g head.Absent t = here_reads 32 turns (single (Const_ absent t.start) t d)
    primary_rest_reads d le g head.Me t = here_reads 32 turns (single (Me t.start) t d)
    primary_rest_reads d le g head.Name t = here_reads 32 turns (single (Name_ (name_at bytes t)) t d)
    primary_rest_reads d le g head.Parens t =
        mapped_reads 32 turns (λ (x : Parsed). single x.tree t d)
        (Closed (max outer d) (the_mark mark.Close) (IsChain bytes outer level.Or (suc d))) Anything
        (look_closed 32 (max outer d) (the_mark mark.Close) (i.expr (suc d)))
        (closed_reads 32 turns (max outer d) (the_mark mark.Close) (IsChain bytes outer level.Or (suc d)) (Ends 1) (i.expr (suc d))
        (r.expr (suc d) (omega arith) (omega arith))
        (λ s w k e. close_parts s k w e) (sample (kind.Mark mark.Close)) (sample (kind.Mark mark.Close))
        (the_mark_is mark.Close (sample (kind.Mark mark.Close)) refl))
    primary_rest_reads d le g head.List t =
        mapped_reads 32 turns (λ es. single (ListOf (in_order es) t.start) t d) (ItemsTo bytes outer mark.CloseList d) Anything
        (read_exprs_to bytes turns outer mark.CloseList i.expr d)
        (items_to_reads mark.CloseList close_list_parts no_comma_close_list d le g)
    primary_rest_reads d le g head.EmptyList t =
        mapped_reads 32 turns (λ k. single (Const_ (empty_list k) t.start) t d) (KindInParens (max outer d)) Anything
        (read_kind_in_parens (max outer d)) (kind_in_parens_reads turns (max outer d))
    primary_rest_reads d le g (head.Apply b) t =
        mapped_reads 32 turns (λ es. single (Apply b (in_order es) t.start) t d) (Args bytes outer d) Anything
        (read_args bytes turns outer i.expr d) (args_reads d le g)

    primary_reads : (d : ℕ) → 32 < d + n → Reads 32 turns (IsPrimary bytes outer d) Anything (read_primary_by bytes turns outer i.expr d)
    unfolding primary_head
    primary_reads d g =
        same_reads 32 turns (PrimaryForm bytes outer d) (IsPrimary bytes outer d) Anything (read_primary_by bytes turns outer i.expr d)
        (to_primary bytes outer d) (from_primary bytes outer d)
        (lead_reads 32 turns (λ (h : PrimaryHead × Token). max outer d) (headed primary_head)
        (λ h. PrimaryRest bytes outer d h.0 h.1) Anything (λ h. read_primary_rest bytes turns outer i.expr d h.0 h.1) (some_rest d)
        (sample kind.Lower) (head.Name, sample kind.Lower) refl
        (λ h le. primary_rest_reads d (omega arith) g h.0 h.1))

    -- ---- an operator before its operand
    prefixed_reads : (p : Prefix) (f : Token → Option Token) (t : Token) → f t ≡ Some t
        → (G : ℕ → List (Token × ℕ) → Parsed → Type 0) (m : List Token → Type 0) (R : Reader)
        → ((d : ℕ) → (ps : List (Token × ℕ)) × (x : Parsed) × G d ps x) → ((d : ℕ) → 33 < d + n → d ≤ 33 → Reads 32 turns (G d) m (R d))
        → (d : ℕ) → 32 < d + n → Reads 32 turns (Prefixed bytes outer p f G d) m (read_prefixed bytes turns outer p f R d)
    prefixed_reads p f t e G m R some g d h =
        lead_reads 32 turns (λ (t : Token). max outer (suc d)) f (λ t. Mapped (prefixed p t) (G (suc d))) m
        (λ t. look_mapped (prefixed p t) (R (suc d)))
        (λ t. let s = some (suc d) in (s.0, prefixed p t s.1, (s.1, s.2, refl))) t t e
        (λ t le. mapped_reads 32 turns (prefixed p t) (G (suc d)) m (R (suc d)) (g (suc d) (omega arith) (omega arith)))

    prefixed_begins : (p : Prefix) (f : Token → Option Token) (G : ℕ → List (Token × ℕ) → Parsed → Type 0) (d : ℕ) (ps : List (Token × ℕ))
        (x : Parsed) → Prefixed bytes outer p f G d ps x → BeginsBy f ps
    prefixed_begins p f G d ps x q =
        let o = at_one (λ (t : Token). max outer (suc d)) f q.front q.first q.begins in
        subst (λ l. BeginsBy f l) (sym (q.whole ∙ ap (λ l. l ++ q.back) o.2)) (q.first, o.1)

    -- ---- indices
    index_reads : (x : Parsed) → 32 < x.behind + n → Reads 32 turns (IndexStep bytes outer x) Anything
        (read_index bytes turns outer i.expr x)
    index_reads x g =
        lead_reads 32 turns (λ (t : Token). max outer (suc x.behind)) (the_mark mark.OpenList)
        (λ t. Mapped (at_index x) (Closed (max outer (suc x.behind)) (the_mark mark.CloseList)
        (IsChain bytes outer level.Or (suc (suc x.behind))))) Anything
        (λ t. look_mapped (at_index x) (look_closed 32 (max outer (suc x.behind)) (the_mark mark.CloseList) (i.expr (suc (suc x.behind)))))
        (λ t. let c = some_chain level.Or (suc (suc x.behind)) in let u : Token = sample (kind.Mark mark.CloseList) in (
          c.0 ++ (u, max outer (suc x.behind)) ∷ [],
          at_index x c.1,
          (
            c.1,
            one_closed (max outer (suc x.behind)) mark.CloseList (IsChain bytes outer level.Or (suc (suc x.behind))) c.0 c.1 u c.2 refl,
            refl,
          ),
        ))
        (sample (kind.Mark mark.OpenList)) (sample (kind.Mark mark.OpenList))
        (the_mark_is mark.OpenList (sample (kind.Mark mark.OpenList)) refl)
        (λ t le. mapped_reads 32 turns (at_index x) (Closed (max outer (suc x.behind)) (the_mark mark.CloseList)
        (IsChain bytes outer level.Or (suc (suc x.behind)))) Anything
        (look_closed 32 (max outer (suc x.behind)) (the_mark mark.CloseList) (i.expr (suc (suc x.behind))))
        (closed_reads 32 turns (max outer (suc x.behind)) (the_mark mark.CloseList) (IsChain bytes outer level.Or (suc (suc x.behind)))
        (Ends 1) (i.expr (suc (suc x.behind)))
        (r.expr (suc (suc x.behind)) (omega arith) (omega arith))
        (λ s w k e. close_list_parts s k w e) (sample (kind.Mark mark.CloseList)) (sample (kind.Mark mark.CloseList))
        (the_mark_is mark.CloseList (sample (kind.Mark mark.CloseList)) refl)))

    index_begins : (x : Parsed) (ps : List (Token × ℕ)) (y : Parsed) → IndexStep bytes outer x ps y → BeginsBy (the_mark mark.OpenList) ps
    index_begins x ps y q =
        let o = at_one (λ (t : Token). max outer (suc x.behind)) (the_mark mark.OpenList) q.front q.first q.begins in
        subst (λ l. BeginsBy (the_mark mark.OpenList) l) (sym (q.whole ∙ ap (λ l. l ++ q.back) o.2)) (q.first, o.1)

    index_behind : (x : Parsed) (ps : List (Token × ℕ)) (y : Parsed) → IndexStep bytes outer x ps y → y.behind ≡ suc x.behind
    index_behind x ps y q = ap (λ (z : Parsed). z.behind) q.goes_on.2

    indices_reads : (x : Parsed) → 32 < x.behind + n → Reads 32 turns (Steps (IndexStep bytes outer) x) (Ends 6)
        (read_indices bytes turns outer i.expr turns x)
    indices_reads x g =
        many_reads 32 turns (the_mark mark.OpenList) (λ y. 32 < y.behind + n) (IndexStep bytes outer) Anything (Ends 6)
        (read_index bytes turns outer i.expr)
        (λ y h. index_reads y h) (λ y h ps z q. let b = index_behind y ps z q in omega arith) (λ y h. index_begins y)
        (λ v e. ends_index 6 (omega arith) v e) (λ v e. tt) (λ s w k e. tt) turns (omega arith) x g

    indexed_reads : (d : ℕ) → 32 < d + n → Reads 32 turns (IndexedForm bytes outer d) (Ends 6)
        (look_both (read_primary_by bytes turns outer i.expr d) (read_indices bytes turns outer i.expr turns))
    indexed_reads d g =
        then_reads 32 turns turns 0 (IsPrimary bytes outer d) (λ x. Steps (IndexStep bytes outer) x) Anything (Ends 6)
        (read_primary_by bytes turns outer i.expr d) (read_indices bytes turns outer i.expr turns)
        (primary_reads d g) (λ ps x p. let k = grows_primary bytes outer d ps x p in indices_reads x (omega arith)) (λ ps x p. omega arith)
        (omega arith) (λ ps x p qs y q v e. tt)

    unit_reads : (d : ℕ) → 32 < d + n → Reads 32 turns (IsUnit bytes outer d) (Ends 6) (unit_by bytes turns outer i d)
    unit_reads d g =
        same_reads 32 turns (UnitForm bytes outer d) (IsUnit bytes outer d) (Ends 6) (unit_by bytes turns outer i d) (to_unit bytes outer d)
        (from_unit bytes outer d)
        (either_reads 32 turns (the_mark mark.Minus) (Prefixed bytes outer prefix.Negate (the_mark mark.Minus) (IsUnit bytes outer) d)
        (IndexedForm bytes outer d) (Ends 6)
        (read_prefixed bytes turns outer prefix.Negate (the_mark mark.Minus) i.unit d)
        (look_both (read_primary_by bytes turns outer i.expr d) (read_indices bytes turns outer i.expr turns))
        (prefixed_reads prefix.Negate (the_mark mark.Minus) (sample (kind.Mark mark.Minus))
        (the_mark_is mark.Minus (sample (kind.Mark mark.Minus)) refl) (IsUnit bytes outer) (Ends 6) i.unit some_unit r.unit d g)
        (indexed_reads d g) (prefixed_begins prefix.Negate (the_mark mark.Minus) (IsUnit bytes outer) d) (indexed_else d))
      where
        indexed_else : (d : ℕ) (ps : List (Token × ℕ)) (x : Parsed) → IndexedForm bytes outer d ps x → BeginsElse (the_mark mark.Minus) ps
        indexed_else d ps x f =
            subst (λ l. BeginsElse (the_mark mark.Minus) l) (sym f.whole)
            (else_minus (f.front ++ f.back) (first_longer BeginsPrimary f.front f.back
            (primary_first bytes outer d f.front f.first f.begins)))

    -- ---- chains
    step_begins : (l : Level) (x : Parsed) (ps : List (Token × ℕ)) (y : Parsed) → Step bytes outer l x ps y
        → BeginsBy (λ (t : Token). operator_at l t.kind) ps
    step_begins l x ps y q =
        let o = at_one (λ (op : Operator). max outer (suc x.behind)) (λ (t : Token). operator_at l t.kind) q.front q.first q.begins in
        subst (λ w. BeginsBy (λ (t : Token). operator_at l t.kind) w) (sym (q.whole ∙ ap (λ w. w ++ q.back) o.2)) (q.first, o.1)

    some_operator : (l : Level) → (t : Token) × (op : Operator) × (operator_at l t.kind ≡ Some op)
    unfolding operator_at
    some_operator level.Or = (sample (kind.Word word.Or), operator.Or, refl)
    some_operator level.And = (sample (kind.Word word.And), operator.And, refl)
    some_operator level.Sum = (sample (kind.Mark mark.Plus), operator.Add, refl)
    some_operator level.Term = (sample (kind.Mark mark.Times), operator.Multiply, refl)

    module _ (l : Level) (part : Reader) (g : (d : ℕ) → 32 < d + n → Reads 32 turns (IsPart bytes outer l d) (Ends (part_rank l)) (part d))
      where
        step_reads : (x : Parsed) → 32 < x.behind + n → Reads 32 turns (Step bytes outer l x) (Ends (part_rank l))
            (read_step bytes turns outer l part x)
        step_reads x h =
            let o = some_operator l in
            lead_reads 32 turns (λ (op : Operator). max outer (suc x.behind)) (λ (t : Token). operator_at l t.kind)
            (λ op. Mapped (joined op x) (IsPart bytes outer l (suc x.behind))) (Ends (part_rank l))
            (λ op. look_mapped (joined op x) (part (suc x.behind)))
            (λ op. let p = some_part l (suc x.behind) in (p.0, joined op x p.1, (p.1, p.2, refl))) o.0 o.1 o.2
            (λ op le. mapped_reads 32 turns (joined op x) (IsPart bytes outer l (suc x.behind)) (Ends (part_rank l)) (part (suc x.behind))
            (g (suc x.behind) (omega arith)))

        step_behind : (x : Parsed) (ps : List (Token × ℕ)) (y : Parsed) → Step bytes outer l x ps y → x.behind < y.behind
        step_behind x ps y q =
            omega (arith, ap (λ (z : Parsed). z.behind) q.goes_on.2, grows_part bytes outer l (suc x.behind) q.back q.goes_on.0 q.goes_on.1)

        goes : (s : Token) (w : List Token) (op : Operator) → operator_at l s.kind ≡ Some op → Ends (part_rank l) (s ∷ w)
        goes s w op e = omega (arith, operator_ties l s.kind op e, rank_below l)

        last : (v : List Token) → Ends (rank l) v → Ends (part_rank l) v
        last v e = less_ends (rank l) (part_rank l) (omega (arith, rank_below l)) v e

        steps_reads : (x : Parsed) → 32 < x.behind + n → Reads 32 turns (Steps (Step bytes outer l) x) (Ends (rank l))
            (read_steps bytes turns outer l part turns x)
        steps_reads x h =
            many_reads 32 turns (λ (t : Token). operator_at l t.kind) (λ y. 32 < y.behind + n) (Step bytes outer l) (Ends (part_rank l))
            (Ends (rank l)) (read_step bytes turns outer l part)
            step_reads (λ y h ps z q. omega (arith, step_behind y ps z q)) (λ y h. step_begins l y)
            (λ v e. ends_operators l (rank l) (omega arith) v e) last goes turns (omega arith) x h

        chain_follow : (x : Parsed) (qs : List (Token × ℕ)) (y : Parsed) → Steps (Step bytes outer l) x qs y → (v : List Token)
            → Ends (rank l) v → Ends (part_rank l) (bare qs ++ v)
        chain_follow x qs y no_step v e = last v e
        chain_follow x qs y (step_on {b = b} {front = front} {back = back} q steps) v e =
            let o = at_one (λ (op : Operator). max outer (suc x.behind)) (λ (t : Token). operator_at l t.kind) q.front q.first q.begins in
            subst (λ w. Ends (part_rank l) (bare (w ++ back) ++ v)) (sym (q.whole ∙ ap (λ w. w ++ q.back) o.2))
            (goes o.0 (bare (q.back ++ back) ++ v) q.first o.1)

        chain_reads : (d : ℕ) → 32 < d + n → Reads 32 turns (IsChain bytes outer l d) (Ends (rank l))
            (read_chain_by bytes turns outer l part d)
        chain_reads d h =
            same_reads 32 turns (ChainForm bytes outer l d) (IsChain bytes outer l d) (Ends (rank l))
            (read_chain_by bytes turns outer l part d) (to_chain bytes outer l d) (from_chain bytes outer l d)
            (then_reads 32 turns turns 0 (IsPart bytes outer l d) (λ x. Steps (Step bytes outer l) x) (Ends (part_rank l)) (Ends (rank l))
            (part d) (read_steps bytes turns outer l part turns)
            (g d h) (λ ps x p. let k = grows_part bytes outer l d ps x p in steps_reads x (omega arith))
            (λ ps x p. omega arith) (omega arith)
            (λ ps x p qs y q v e. chain_follow x qs y q v e))

    -- the same spellings under another name of the rule
    part_term : (d : ℕ) → Reads 32 turns (IsUnit bytes outer d) (Ends 6) (unit_by bytes turns outer i d)
        → Reads 32 turns (IsPart bytes outer level.Term d) (Ends 6) (unit_by bytes turns outer i d)
    part_term d =
        same_reads 32 turns (IsUnit bytes outer d) (IsPart bytes outer level.Term d) (Ends 6) (unit_by bytes turns outer i d)
        (λ ps x u. rule.unit u) from
      where
        from : (ps : List (Token × ℕ)) (x : Parsed) → IsPart bytes outer level.Term d ps x → IsUnit bytes outer d ps x
        from ps x (rule.unit u) = u

    part_sum : (d : ℕ) → Reads 32 turns (IsChain bytes outer level.Term d) (Ends 5) (term_by bytes turns outer i d)
        → Reads 32 turns (IsPart bytes outer level.Sum d) (Ends 5) (term_by bytes turns outer i d)
    part_sum d =
        same_reads 32 turns (IsChain bytes outer level.Term d) (IsPart bytes outer level.Sum d) (Ends 5) (term_by bytes turns outer i d)
        (λ ps x c. rule.term c) from
      where
        from : (ps : List (Token × ℕ)) (x : Parsed) → IsPart bytes outer level.Sum d ps x → IsChain bytes outer level.Term d ps x
        from ps x (rule.term c) = c

    part_and : (d : ℕ) → Reads 32 turns (IsNeg bytes outer d) (Ends 3) (neg_by bytes turns outer i d)
        → Reads 32 turns (IsPart bytes outer level.And d) (Ends 3) (neg_by bytes turns outer i d)
    part_and d =
        same_reads 32 turns (IsNeg bytes outer d) (IsPart bytes outer level.And d) (Ends 3) (neg_by bytes turns outer i d)
        (λ ps x c. rule.neg c) from
      where
        from : (ps : List (Token × ℕ)) (x : Parsed) → IsPart bytes outer level.And d ps x → IsNeg bytes outer d ps x
        from ps x (rule.neg c) = c

    part_or : (d : ℕ) → Reads 32 turns (IsChain bytes outer level.And d) (Ends 2) (conj_by bytes turns outer i d)
        → Reads 32 turns (IsPart bytes outer level.Or d) (Ends 2) (conj_by bytes turns outer i d)
    part_or d =
        same_reads 32 turns (IsChain bytes outer level.And d) (IsPart bytes outer level.Or d) (Ends 2) (conj_by bytes turns outer i d)
        (λ ps x c. rule.conj c) from
      where
        from : (ps : List (Token × ℕ)) (x : Parsed) → IsPart bytes outer level.Or d ps x → IsChain bytes outer level.And d ps x
        from ps x (rule.conj c) = c

    sum_reads : (d : ℕ) → 32 < d + n → Reads 32 turns (IsChain bytes outer level.Sum d) (Ends 4) (sum_by bytes turns outer i d)
    sum_reads =
        chain_reads level.Sum (term_by bytes turns outer i) (λ d h.
        part_sum d (chain_reads level.Term (unit_by bytes turns outer i) (λ d h. part_term d (unit_reads d h)) d h))

    -- ---- comparisons
    compared_reads : (x : Parsed) → 32 < x.behind + n → Reads 32 turns (Compared bytes outer x) (Ends 3)
        (read_compared bytes turns outer (sum_by bytes turns outer i) x)
    unfolding comparison
    compared_reads x h =
        lead_reads 32 turns (λ (op : Operator). max outer (suc x.behind)) (λ (t : Token). comparison t.kind)
        (λ op. Mapped (joined op x) (IsChain bytes outer level.Sum (suc x.behind))) (Ends 3)
        (λ op. look_mapped (joined op x) (sum_by bytes turns outer i (suc x.behind)))
        (λ op. let c = some_chain level.Sum (suc x.behind) in (c.0, joined op x c.1, (c.1, c.2, refl)))
        (sample (kind.Mark mark.Equal)) operator.Equal refl
        (λ op le. before_less 32 turns (Mapped (joined op x) (IsChain bytes outer level.Sum (suc x.behind))) (Ends 4) (Ends 3)
        (look_mapped (joined op x) (sum_by bytes turns outer i (suc x.behind))) (λ v e. less_ends 3 4 (omega arith) v e)
        (mapped_reads 32 turns (joined op x) (IsChain bytes outer level.Sum (suc x.behind)) (Ends 4)
        (sum_by bytes turns outer i (suc x.behind)) (sum_reads (suc x.behind) (omega arith))))

    compared_begins : (x : Parsed) (ps : List (Token × ℕ)) (y : Parsed) → Compared bytes outer x ps y
        → BeginsBy (λ (t : Token). comparison t.kind) ps
    compared_begins x ps y q =
        let o = at_one (λ (op : Operator). max outer (suc x.behind)) (λ (t : Token). comparison t.kind) q.front q.first q.begins in
        subst (λ w. BeginsBy (λ (t : Token). comparison t.kind) w) (sym (q.whole ∙ ap (λ w. w ++ q.back) o.2)) (q.first, o.1)

    cmp_follow : (x : Parsed) (qs : List (Token × ℕ)) (y : Parsed) → Perhaps x (Compared bytes outer x) qs y → (v : List Token) → Ends 3 v
        → Ends 4 (bare qs ++ v)
    cmp_follow x qs y (inl e) v h = subst (λ w. Ends 4 (bare w ++ v)) (sym e.0) (less_ends 3 4 (omega arith) v h)
    cmp_follow x qs y (inr q) v h =
        let o = at_one (λ (op : Operator). max outer (suc x.behind)) (λ (t : Token). comparison t.kind) q.front q.first q.begins in
        let three : ties o.0.kind ≡ 3 = comparison_ties o.0.kind q.first o.1 in
        let four : ties o.0.kind < 4 = omega arith in
        subst (λ w. Ends 4 (bare w ++ v)) (sym (q.whole ∙ ap (λ w. w ++ q.back) o.2)) four

    cmp_reads : (d : ℕ) → 32 < d + n → Reads 32 turns (IsCmp bytes outer d) (Ends 3) (cmp_by bytes turns outer i d)
    cmp_reads d h =
        same_reads 32 turns (CmpForm bytes outer d) (IsCmp bytes outer d) (Ends 3) (cmp_by bytes turns outer i d) (to_cmp bytes outer d)
        (from_cmp bytes outer d)
        (then_reads 32 turns turns 0 (IsChain bytes outer level.Sum d) (λ x. Perhaps x (Compared bytes outer x)) (Ends 4) (Ends 3)
        (sum_by bytes turns outer i d)
        (λ x. look_if (λ (t : Token). comparison t.kind) x (read_compared bytes turns outer (sum_by bytes turns outer i) x))
        (sum_reads d h)
        (λ ps x p. let k = grows_chain bytes outer level.Sum d ps x p in
        if_reads 32 turns (λ (t : Token). comparison t.kind) x (Compared bytes outer x) (Ends 3)
        (read_compared bytes turns outer (sum_by bytes turns outer i) x) (compared_reads x (omega arith)) (compared_begins x)
        (λ v e. ends_comparison 3 (omega arith) v e))
        (λ ps x p. omega arith) (omega arith) (λ ps x p qs y q v e. cmp_follow x qs y q v e))

    neg_reads : (d : ℕ) → 32 < d + n → Reads 32 turns (IsNeg bytes outer d) (Ends 3) (neg_by bytes turns outer i d)
    neg_reads d h =
        same_reads 32 turns (NegForm bytes outer d) (IsNeg bytes outer d) (Ends 3) (neg_by bytes turns outer i d) (to_neg bytes outer d)
        (from_neg bytes outer d)
        (either_reads 32 turns (the_word word.Not) (Prefixed bytes outer prefix.Not (the_word word.Not) (IsNeg bytes outer) d)
        (IsCmp bytes outer d) (Ends 3)
        (read_prefixed bytes turns outer prefix.Not (the_word word.Not) i.neg d) (cmp_by bytes turns outer i d)
        (prefixed_reads prefix.Not (the_word word.Not) (sample (kind.Word word.Not))
        (the_word_is word.Not (sample (kind.Word word.Not)) refl) (IsNeg bytes outer) (Ends 3) i.neg some_neg r.neg d h)
        (cmp_reads d h) (prefixed_begins prefix.Not (the_word word.Not) (IsNeg bytes outer) d)
        (λ ps x c. else_not ps (cmp_first bytes outer d ps x c)))

    expr_reads : (d : ℕ) → 32 < d + n → Reads 32 turns (IsChain bytes outer level.Or d) (Ends 1) (expr_by bytes turns outer i d)
    expr_reads =
        chain_reads level.Or (conj_by bytes turns outer i) (λ d h.
        part_or d (chain_reads level.And (neg_by bytes turns outer i) (λ d h. part_and d (neg_reads d h)) d h))

  -- ---- all levels
  all_reads : (n : ℕ) → InnerReads n (inner bytes turns outer n)
  unfolding inner
  all_reads zero =
      record { unit = λ d h le. absurd (omega arith); neg = λ d h le. absurd (omega arith); expr = λ d h le. absurd (omega arith) }
  all_reads (suc n) = record {
    unit = λ d h le. unit_reads n (inner bytes turns outer n) (all_reads n) d (omega arith);
    neg = λ d h le. neg_reads n (inner bytes turns outer n) (all_reads n) d (omega arith);
    expr = λ d h le. expr_reads n (inner bytes turns outer n) (all_reads n) d (omega arith);
  }

  -- ---- where so many levels may stand inside
  pub level_reads : (l : Level) (n d : ℕ) → 32 < d + n
      → Reads 32 turns (IsChain bytes outer l d) (Ends (rank l)) (read_chain bytes turns outer l n d)
  unfolding read_chain read_part
  level_reads level.Or n d h = expr_reads n (inner bytes turns outer n) (all_reads n) d h
  level_reads level.And n d h =
      let i = inner bytes turns outer n in
      chain_reads n i (all_reads n) level.And (neg_by bytes turns outer i)
      (λ d h. part_and n i (all_reads n) d (neg_reads n i (all_reads n) d h)) d h
  level_reads level.Sum n d h = sum_reads n (inner bytes turns outer n) (all_reads n) d h
  level_reads level.Term n d h =
      let i = inner bytes turns outer n in
      chain_reads n i (all_reads n) level.Term (unit_by bytes turns outer i)
      (λ d h. part_term n i (all_reads n) d (unit_reads n i (all_reads n) d h)) d h

  pub index_row_reads : (n d : ℕ) → 32 < d + n → Reads 32 turns (IndexedForm bytes outer d) (Ends 6) (read_indexed bytes turns outer n d)
  unfolding read_indexed
  index_row_reads n d h = indexed_reads n (inner bytes turns outer n) (all_reads n) d h

  -- the expressions in a list or in parentheses, with the mark behind them
  pub part_row_reads : (m : Mark) → IsClosing m → (n d : ℕ) → d ≤ 32 → 32 < d + n
      → Reads 32 turns (ItemsTo bytes outer m d) Anything (read_exprs_to bytes turns outer m (inner bytes turns outer n).expr d)
  part_row_reads mark.Close k n d le h = let i = inner bytes turns outer n in items_to_reads n i (all_reads n) mark.Close close_parts
      (no_comma_close n i (all_reads n)) d le h
  part_row_reads mark.CloseList k n d le h = let i = inner bytes turns outer n in items_to_reads n i (all_reads n) mark.CloseList
      close_list_parts (no_comma_close_list n i (all_reads n)) d le h
  part_row_reads _ k n d le h = absurd k

  pub expression_reads : Reads 32 turns (IsExpression bytes outer) EndsExpression (read_expression bytes turns outer)
  unfolding read_expression read_chain read_part
  expression_reads =
      mapped_reads 32 turns (λ (x : Parsed). x.tree) (IsChain bytes outer level.Or 1) (Ends 1)
      (expr_by bytes turns outer (inner bytes turns outer 32) 1)
      (expr_reads 32 (inner bytes turns outer 32) (all_reads 32) 1 (omega arith))
