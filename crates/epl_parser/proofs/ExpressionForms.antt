-- The rules of expressions as grammars that are put together, each over the rules that stand in it.
use Rattle.std.proofs.Common.{◌≡◌, ℕ, suc, List, [], ◌∷◌, ◌++◌, Option, Some, inl, inr, refl, sym, ap, ◌∙◌, subst, max, append-nil}
use Rattle.grammar.specs.Grammar.{Grammar, Nothing, Then, Mapped}
use Rattle.grammar.specs.Depths.{Placed, At, Perhaps, Steps, no_step, step_on}
use Rattle.grammar.specs.Alternatives.{Either}
use Rattle.grammar.proofs.Leads.{at_one}
use Rattle.grammar.specs.Separated.{Separated, alone, apart}
use Rattle.grammar.proofs.Separated.{Closed}
use Rattle.epl_syntax.specs.declared.token.Mark.{Mark}
use Rattle.epl_syntax.specs.declared.token.Mark.TheVariants as mark
use Rattle.epl_syntax.specs.declared.word.Word.TheVariants as word
use Rattle.epl_syntax.specs.declared.token.Token.{Token}
use Rattle.epl_syntax.specs.declared.tree.Prefix.{Prefix}
use Rattle.epl_syntax.specs.declared.tree.Prefix.TheVariants as prefix
use Rattle.epl_syntax.specs.declared.tree.Operator.{Operator}
use Rattle.epl_parser.specs.declared.head.Level.{Level}
use Rattle.epl_parser.specs.declared.head.Level.TheVariants as level
use Rattle.epl_parser.specs.declared.head.PrimaryHead.{PrimaryHead}
use Rattle.epl_parser.specs.declared.head.PrimaryHead.TheVariants as head
use Rattle.epl_syntax.specs.Tree.{integer, text, truth, absent, empty_list, Expression, Const_, Name_, Me, ListOf, Apply, in_order}
use Rattle.epl_parser.specs.OneToken.{name_at, the_mark, the_word, headed, OneAt}
use Rattle.epl_parser.specs.Heads.{operator_at, comparison, primary_head}
use Rattle.epl_parser.specs.Constants.{text_at}
use Rattle.epl_parser.specs.Expressions as rule
use Rattle.epl_parser.specs.Expressions.{Parsed, joined, prefixed, at_index, single, IsChain, IsPart, IsMore, IsNeg}
use Rattle.epl_parser.specs.Expressions.{IsCmp, IsUnit, IsIndices, IsPrimary, IsExprs}
use Rattle.epl_parser.proofs.SingleTokens.{is_the_word, the_word_is, is_the_mark, the_mark_is, is_headed, headed_is}
use Rattle.epl_parser.proofs.ConstantReads.{one_mark, mark_one, closed_one, one_closed, KindInParens, parens_of, of_parens}

module _ (bytes : List ℕ) (outer : ℕ) where
  -- ---- operators of a level
  abbrev pub Step : Level → Parsed → Grammar (Placed Token) Parsed
  Step l x =
      Then (At (λ (op : Operator). max outer (suc x.behind)) (λ (t : Token). operator_at l t.kind))
      (λ op. Mapped (joined op x) (IsPart bytes outer l (suc x.behind)))

  to_more : (l : Level) (x : Parsed) (ps : List (Token × ℕ)) (y : Parsed) → Steps (Step l) x ps y → IsMore bytes outer l x ps y
  to_more l x ps y no_step = rule.no_more
  to_more l x ps y (step_on {b = z} {front = front} {back = back} q steps) =
      let o = at_one (λ (op : Operator). max outer (suc x.behind)) (λ (t : Token). operator_at l t.kind) q.front q.first q.begins in
      let next : IsMore bytes outer l (joined q.first x q.goes_on.0) back y =
      subst (λ b. IsMore bytes outer l b back y) q.goes_on.2 (to_more l z back y steps) in
      subst (λ f. IsMore bytes outer l x (f ++ back) y) (sym (q.whole ∙ ap (λ f. f ++ q.back) o.2))
      (rule.more o.0 q.first o.1 q.goes_on.1 next)

  from_more : (l : Level) (x : Parsed) (ps : List (Token × ℕ)) (y : Parsed) → IsMore bytes outer l x ps y → Steps (Step l) x ps y
  from_more l x ps y rule.no_more = no_step
  from_more l x ps z (rule.more {ps = qs} {qs = rs} {y = y} t op e p m) =
      step_on {front = (t, max outer (suc x.behind)) ∷ qs}
      (record {
        front = (t, max outer (suc x.behind)) ∷ [];
        back = qs;
        first = op;
        whole = refl;
        begins = (refl, e);
        goes_on = (y, p, refl);
      })
      (from_more l (joined op x y) rs z m)

  abbrev pub ChainForm : Level → ℕ → Grammar (Placed Token) Parsed
  ChainForm l d = Then (IsPart bytes outer l d) (λ x. Steps (Step l) x)

  pub to_chain : (l : Level) (d : ℕ) (ps : List (Token × ℕ)) (x : Parsed) → ChainForm l d ps x → IsChain bytes outer l d ps x
  to_chain l d ps x f = subst (λ w. IsChain bytes outer l d w x) (sym f.whole) (rule.chain f.begins (to_more l f.first f.back x f.goes_on))

  pub from_chain : (l : Level) (d : ℕ) (ps : List (Token × ℕ)) (x : Parsed) → IsChain bytes outer l d ps x → ChainForm l d ps x
  from_chain l d ps x (rule.chain {ps = qs} {qs = rs} {x = y} p m) =
      record { front = qs; back = rs; first = y; whole = refl; begins = p; goes_on = from_more l y rs x m }

  -- ---- comparisons
  abbrev pub Compared : Parsed → Grammar (Placed Token) Parsed
  Compared x =
      Then (At (λ (op : Operator). max outer (suc x.behind)) (λ (t : Token). comparison t.kind))
      (λ op. Mapped (joined op x) (IsChain bytes outer level.Sum (suc x.behind)))

  abbrev pub CmpForm : ℕ → Grammar (Placed Token) Parsed
  CmpForm d = Then (IsChain bytes outer level.Sum d) (λ x. Perhaps x (Compared x))

  to_cmp_rest : (d : ℕ) (ps : List (Token × ℕ)) (x : Parsed) → IsChain bytes outer level.Sum d ps x → (qs : List (Token × ℕ)) (y : Parsed)
      → Perhaps x (Compared x) qs y → IsCmp bytes outer d (ps ++ qs) y
  to_cmp_rest d ps x c qs y (inl e) =
      subst (λ w. IsCmp bytes outer d (ps ++ w) y) (sym e.0)
      (subst (λ w. IsCmp bytes outer d w y) (sym (append-nil ps)) (subst (λ z. IsCmp bytes outer d ps z) (sym e.1) (rule.sum c)))
  to_cmp_rest d ps x c qs y (inr q) =
      let o = at_one (λ (op : Operator). max outer (suc x.behind)) (λ (t : Token). comparison t.kind) q.front q.first q.begins in
      subst (λ w. IsCmp bytes outer d (ps ++ w) y) (sym (q.whole ∙ ap (λ f. f ++ q.back) o.2))
      (subst (λ z. IsCmp bytes outer d (ps ++ (o.0, max outer (suc x.behind)) ∷ q.back) z) (sym q.goes_on.2)
      (rule.compared o.0 q.first c o.1 q.goes_on.1))

  pub to_cmp : (d : ℕ) (ps : List (Token × ℕ)) (x : Parsed) → CmpForm d ps x → IsCmp bytes outer d ps x
  to_cmp d ps x f = subst (λ w. IsCmp bytes outer d w x) (sym f.whole) (to_cmp_rest d f.front f.first f.begins f.back x f.goes_on)

  pub from_cmp : (d : ℕ) (ps : List (Token × ℕ)) (x : Parsed) → IsCmp bytes outer d ps x → CmpForm d ps x
  from_cmp d ps x (rule.sum c) =
      record { front = ps; back = []; first = x; whole = sym (append-nil ps); begins = c; goes_on = inl (refl, refl) }
  from_cmp d ps z (rule.compared {ps = qs} {qs = rs} {x = x} {y = y} t op c e b) = record {
    front = qs;
    back = (t, max outer (suc x.behind)) ∷ rs;
    first = x;
    whole = refl;
    begins = c;
    goes_on =
        inr (record {
          front = (t, max outer (suc x.behind)) ∷ [];
          back = rs;
          first = op;
          whole = refl;
          begins = (refl, e);
          goes_on = (y, b, refl);
        });
  }

  -- ---- an operator before its operand
  abbrev pub Prefixed : Prefix → (Token → Option Token) → (ℕ → List (Token × ℕ) → Parsed → Type 0) → ℕ → Grammar (Placed Token) Parsed
  Prefixed p f G d = Then (OneAt (max outer (suc d)) f) (λ t. Mapped (prefixed p t) (G (suc d)))

  abbrev pub NegForm : ℕ → Grammar (Placed Token) Parsed
  NegForm d = Either (Prefixed prefix.Not (the_word word.Not) (IsNeg bytes outer) d) (IsCmp bytes outer d)

  pub to_neg : (d : ℕ) (ps : List (Token × ℕ)) (x : Parsed) → NegForm d ps x → IsNeg bytes outer d ps x
  to_neg d ps x (inl q) =
      let o = at_one (λ (t : Token). max outer (suc d)) (the_word word.Not) q.front q.first q.begins in
      let i = is_the_word word.Not o.0 q.first o.1 in
      subst (λ w. IsNeg bytes outer d w x) (sym (q.whole ∙ ap (λ f. f ++ q.back)
      (o.2 ∙ ap (λ (t : Token). (t, max outer (suc d)) ∷ []) i.1)))
      (subst (λ z. IsNeg bytes outer d ((q.first, max outer (suc d)) ∷ q.back) z) (sym q.goes_on.2)
      (rule.not_neg q.first (ap (λ (t : Token). t.kind) (sym i.1) ∙ i.0) q.goes_on.1))
  to_neg d ps x (inr c) = rule.cmp c

  pub from_neg : (d : ℕ) (ps : List (Token × ℕ)) (x : Parsed) → IsNeg bytes outer d ps x → NegForm d ps x
  from_neg d ps x (rule.not_neg {ps = qs} {x = y} t e n) =
      inl (record {
        front = (t, max outer (suc d)) ∷ [];
        back = qs;
        first = t;
        whole = refl;
        begins = (refl, the_word_is word.Not t e);
        goes_on = (y, n, refl);
      })
  from_neg d ps x (rule.cmp c) = inr c

  -- ---- indices
  abbrev pub IndexStep : Parsed → Grammar (Placed Token) Parsed
  IndexStep x =
      Then (OneAt (max outer (suc x.behind)) (the_mark mark.OpenList))
      (λ t. Mapped (at_index x) (Closed (max outer (suc x.behind)) (the_mark mark.CloseList)
      (IsChain bytes outer level.Or (suc (suc x.behind)))))

  to_indices : (x : Parsed) (ps : List (Token × ℕ)) (y : Parsed) → Steps IndexStep x ps y → IsIndices bytes outer x ps y
  to_indices x ps y no_step = rule.no_index
  to_indices x ps y (step_on {b = z} {front = front} {back = back} q steps) =
      let o = one_mark (max outer (suc x.behind)) mark.OpenList q.front q.first q.begins in
      let c = closed_one (max outer (suc x.behind)) mark.CloseList
      (IsChain bytes outer level.Or (suc (suc x.behind))) q.back q.goes_on.0 q.goes_on.1 in
      let next : IsIndices bytes outer (at_index x q.goes_on.0) back y =
      subst (λ b. IsIndices bytes outer b back y) q.goes_on.2 (to_indices z back y steps) in
      subst (λ f. IsIndices bytes outer x (f ++ back) y) (sym
      (q.whole ∙ ap (λ f. f ++ q.back) o.1 ∙ ap (λ f. (q.first, max outer (suc x.behind)) ∷ f) c.4))
      (rule.index q.first c.1 o.0 c.2 c.3 next)

  from_indices : (x : Parsed) (ps : List (Token × ℕ)) (y : Parsed) → IsIndices bytes outer x ps y → Steps IndexStep x ps y
  from_indices x ps y rule.no_index = no_step
  from_indices x ps z (rule.index {ps = qs} {qs = rs} {y = y} t u e c f i) =
      step_on {front = (t, max outer (suc x.behind)) ∷ (qs ++ (u, max outer (suc x.behind)) ∷ [])}
      (record {
        front = (t, max outer (suc x.behind)) ∷ [];
        back = qs ++ (u, max outer (suc x.behind)) ∷ [];
        first = t;
        whole = refl;
        begins = mark_one (max outer (suc x.behind)) mark.OpenList t e;
        goes_on =
            (y, one_closed (max outer (suc x.behind)) mark.CloseList (IsChain bytes outer level.Or (suc (suc x.behind))) qs y u c f, refl);
      })
      (from_indices (at_index x y) rs z i)

  -- ---- an operand, its indices, a minus
  abbrev pub IndexedForm : ℕ → Grammar (Placed Token) Parsed
  IndexedForm d = Then (IsPrimary bytes outer d) (λ x. Steps IndexStep x)

  abbrev pub UnitForm : ℕ → Grammar (Placed Token) Parsed
  UnitForm d = Either (Prefixed prefix.Negate (the_mark mark.Minus) (IsUnit bytes outer) d) (IndexedForm d)

  pub to_unit : (d : ℕ) (ps : List (Token × ℕ)) (x : Parsed) → UnitForm d ps x → IsUnit bytes outer d ps x
  to_unit d ps x (inl q) =
      let o = one_mark (max outer (suc d)) mark.Minus q.front q.first q.begins in
      subst (λ w. IsUnit bytes outer d w x) (sym (q.whole ∙ ap (λ f. f ++ q.back) o.1))
      (subst (λ z. IsUnit bytes outer d ((q.first, max outer (suc d)) ∷ q.back) z) (sym q.goes_on.2) (rule.minus q.first o.0 q.goes_on.1))
  to_unit d ps x (inr f) =
      subst (λ w. IsUnit bytes outer d w x) (sym f.whole) (rule.indexed f.begins (to_indices f.first f.back x f.goes_on))

  pub from_unit : (d : ℕ) (ps : List (Token × ℕ)) (x : Parsed) → IsUnit bytes outer d ps x → UnitForm d ps x
  from_unit d ps x (rule.minus {ps = qs} {x = y} t e u) =
      inl (record {
        front = (t, max outer (suc d)) ∷ [];
        back = qs;
        first = t;
        whole = refl;
        begins = mark_one (max outer (suc d)) mark.Minus t e;
        goes_on = (y, u, refl);
      })
  from_unit d ps x (rule.indexed {ps = qs} {qs = rs} {x = y} p i) =
      inr (record { front = qs; back = rs; first = y; whole = refl; begins = p; goes_on = from_indices y rs x i })

  -- ---- expressions with commas between them
  abbrev pub Item : ℕ → Grammar (Placed Token) Expression
  Item d = Mapped (λ (x : Parsed). x.tree) (IsChain bytes outer level.Or (suc d))

  abbrev pub Items : ℕ → Grammar (Placed Token) (List Expression)
  Items d = Separated (max outer d) (the_mark mark.Comma) (Item d)

  to_items : (d : ℕ) (ps : List (Token × ℕ)) (es : List Expression) → IsExprs bytes outer d ps es → Items d ps es
  to_items d ps es (rule.last {x = x} c) = alone (x, c, refl)
  to_items d ps es (rule.and_then {qs = qs} {x = x} {es = more} t c e i) =
      apart t t (x, c, refl) (the_mark_is mark.Comma t e) (to_items d qs more i)

  from_items : (d : ℕ) (ps : List (Token × ℕ)) (es : List Expression) → Items d ps es → IsExprs bytes outer d ps es
  from_items d ps es (alone {ps = qs} i) = subst (λ e. IsExprs bytes outer d qs (e ∷ [])) (sym i.2) (rule.last i.1)
  from_items d ps es (apart {ps = qs} {qs = rs} {more = more} s k i e rest) =
      subst (λ a. IsExprs bytes outer d (qs ++ (s, max outer d) ∷ rs) (a ∷ more)) (sym i.2)
      (rule.and_then s i.1 (is_the_mark mark.Comma s k e).0 (from_items d rs more rest))

  -- ---- operands
  abbrev pub ItemsTo : Mark → ℕ → Grammar (Placed Token) (List Expression)
  ItemsTo m d = Closed (max outer d) (the_mark m) (Items d)

  abbrev pub Args : ℕ → Grammar (Placed Token) (List Expression)
  Args d = Then (OneAt (max outer d) (the_mark mark.Open)) (λ o. ItemsTo mark.Close d)

  abbrev pub PrimaryRest : ℕ → PrimaryHead → Token → Grammar (Placed Token) Parsed
  PrimaryRest d (head.Int n) t = Nothing (single (Const_ (integer n) t.start) t d)
  PrimaryRest d head.Text t = Nothing (single (Const_ (text (text_at bytes t)) t.start) t d)
  PrimaryRest d (head.Bool b) t = Nothing (single (Const_ (truth b) t.start) t d)
  PrimaryRest d head.Absent t = Nothing (single (Const_ absent t.start) t d)
  PrimaryRest d head.Me t = Nothing (single (Me t.start) t d)
  PrimaryRest d head.Name t = Nothing (single (Name_ (name_at bytes t)) t d)
  PrimaryRest d head.Parens t =
      Mapped (λ (x : Parsed). single x.tree t d) (Closed (max outer d) (the_mark mark.Close) (IsChain bytes outer level.Or (suc d)))
  PrimaryRest d head.List t = Mapped (λ es. single (ListOf (in_order es) t.start) t d) (ItemsTo mark.CloseList d)
  PrimaryRest d head.EmptyList t = Mapped (λ k. single (Const_ (empty_list k) t.start) t d) (KindInParens (max outer d))
  PrimaryRest d (head.Apply b) t = Mapped (λ es. single (Apply b (in_order es) t.start) t d) (Args d)

  abbrev pub PrimaryForm : ℕ → Grammar (Placed Token) Parsed
  PrimaryForm d = Then (OneAt (max outer d) (headed primary_head)) (λ h. PrimaryRest d h.0 h.1)

  plain : (d : ℕ) (t : Token) (e : Expression) (back : List (Token × ℕ)) (x : Parsed) → Nothing (single e t d) back x
      → IsPrimary bytes outer d ((t, max outer d) ∷ []) (single e t d)
      → IsPrimary bytes outer d ((t, max outer d) ∷ back) x
  plain d t e back x r i =
      subst (λ l. IsPrimary bytes outer d ((t, max outer d) ∷ l) x) (sym r.0)
      (subst (λ y. IsPrimary bytes outer d ((t, max outer d) ∷ []) y) (sym r.1) i)

  -- a value made of what stands behind the token
  made : (d : ℕ) (t : Token) (back rest : List (Token × ℕ)) (x y : Parsed) → back ≡ rest → x ≡ y
      → IsPrimary bytes outer d ((t, max outer d) ∷ rest) y → IsPrimary bytes outer d ((t, max outer d) ∷ back) x
  made d t back rest x y e f i =
      subst (λ l. IsPrimary bytes outer d ((t, max outer d) ∷ l) x) (sym e)
      (subst (λ z. IsPrimary bytes outer d ((t, max outer d) ∷ rest) z) (sym f) i)

  to_primary_rest : (d : ℕ) (h : PrimaryHead) (t : Token) → primary_head t.kind ≡ Some h → (back : List (Token × ℕ)) (x : Parsed)
      → PrimaryRest d h t back x → IsPrimary bytes outer d ((t, max outer d) ∷ back) x
  to_primary_rest d (head.Int n) t e back x r = plain d t (Const_ (integer n) t.start) back x r (rule.int_operand t e)
  to_primary_rest d head.Text t e back x r = plain d t (Const_ (text (text_at bytes t)) t.start) back x r (rule.text_operand t e)
  to_primary_rest d (head.Bool b) t e back x r = plain d t (Const_ (truth b) t.start) back x r (rule.bool_operand t e)
  to_primary_rest d head.Absent t e back x r = plain d t (Const_ absent t.start) back x r (rule.none_operand t e)
  to_primary_rest d head.Me t e back x r = plain d t (Me t.start) back x r (rule.self_operand t e)
  to_primary_rest d head.Name t e back x r = plain d t (Name_ (name_at bytes t)) back x r (rule.name_operand t e)
  to_primary_rest d head.Parens t e back x r =
      let c = closed_one (max outer d) mark.Close (IsChain bytes outer level.Or (suc d)) back r.0 r.1 in
      made d t back (c.0 ++ (c.1, max outer d) ∷ []) x (single r.0.tree t d) c.4 r.2 (rule.parens_operand t c.1 e c.2 c.3)
  to_primary_rest d head.List t e back x r =
      let c = closed_one (max outer d) mark.CloseList (Items d) back r.0 r.1 in
      made d t back (c.0 ++ (c.1, max outer d) ∷ []) x (single (ListOf (in_order r.0) t.start) t d) c.4 r.2
      (rule.list_operand t c.1 e (from_items d c.0 r.0 c.2) c.3)
  to_primary_rest d head.EmptyList t e back x r =
      let p = parens_of (max outer d) back r.0 r.1 in
      made d t back ((p.0, max outer d) ∷ (p.2 ++ (p.1, max outer d) ∷ [])) x (single (Const_ (empty_list r.0) t.start) t d) p.6 r.2
      (rule.empty_list_operand p.2 t p.0 p.1 e p.3 p.4 p.5)
  to_primary_rest d (head.Apply b) t e back x r =
      let a : Args d back r.0 = r.1 in
      let o = one_mark (max outer d) mark.Open a.front a.first a.begins in
      let c = closed_one (max outer d) mark.Close (Items d) a.back r.0 a.goes_on in
      made d t back ((a.first, max outer d) ∷ (c.0 ++ (c.1, max outer d) ∷ [])) x (single (Apply b (in_order r.0) t.start) t d)
      (a.whole ∙ ap (λ l. l ++ a.back) o.1 ∙ ap (λ l. (a.first, max outer d) ∷ l) c.4) r.2
      (rule.builtin_operand t a.first c.1 e o.0 (from_items d c.0 r.0 c.2) c.3)

  pub to_primary : (d : ℕ) (ps : List (Token × ℕ)) (x : Parsed) → PrimaryForm d ps x → IsPrimary bytes outer d ps x
  to_primary d ps x f =
      let o = at_one (λ (h : PrimaryHead × Token). max outer d) (headed primary_head) f.front f.first f.begins in
      let i = is_headed primary_head o.0 f.first o.1 in
      let start : f.front ≡ (f.first.1, max outer d) ∷ [] = o.2 ∙ ap (λ (u : Token). (u, max outer d) ∷ []) i.1 in
      subst (λ l. IsPrimary bytes outer d l x) (sym (f.whole ∙ ap (λ l. l ++ f.back) start))
      (to_primary_rest d f.first.0 f.first.1 (ap (λ (u : Token). primary_head u.kind) (sym i.1) ∙ i.0) f.back x f.goes_on)

  form : (d : ℕ) (h : PrimaryHead) (t : Token) → primary_head t.kind ≡ Some h → (back : List (Token × ℕ)) (x : Parsed)
      → PrimaryRest d h t back x → PrimaryForm d ((t, max outer d) ∷ back) x
  form d h t e back x r =
      record {
        front = (t, max outer d) ∷ [];
        back = back;
        first = (h, t);
        whole = refl;
        begins = (refl, headed_is primary_head t h e);
        goes_on = r;
      }

  pub from_primary : (d : ℕ) (ps : List (Token × ℕ)) (x : Parsed) → IsPrimary bytes outer d ps x → PrimaryForm d ps x
  from_primary d ps x (rule.int_operand {n = n} t e) = form d (head.Int n) t e [] (single (Const_ (integer n) t.start) t d) (refl, refl)
  from_primary d ps x (rule.text_operand t e) = form d head.Text t e [] (single (Const_ (text (text_at bytes t)) t.start) t d) (refl, refl)
  from_primary d ps x (rule.bool_operand {b = b} t e) = form d (head.Bool b) t e [] (single (Const_ (truth b) t.start) t d) (refl, refl)
  from_primary d ps x (rule.none_operand t e) = form d head.Absent t e [] (single (Const_ absent t.start) t d) (refl, refl)
  from_primary d ps x (rule.self_operand t e) = form d head.Me t e [] (single (Me t.start) t d) (refl, refl)
  from_primary d ps x (rule.name_operand t e) = form d head.Name t e [] (single (Name_ (name_at bytes t)) t d) (refl, refl)
  from_primary d ps x (rule.parens_operand {ps = qs} {x = y} t u e c f) =
      form d head.Parens t e (qs ++ (u, max outer d) ∷ []) (single y.tree t d)
      (y, one_closed (max outer d) mark.Close (IsChain bytes outer level.Or (suc d)) qs y u c f, refl)
  from_primary d ps x (rule.list_operand {ps = qs} {es = es} t u e i f) =
      form d head.List t e (qs ++ (u, max outer d) ∷ []) (single (ListOf (in_order es) t.start) t d)
      (es, one_closed (max outer d) mark.CloseList (Items d) qs es u (to_items d qs es i) f, refl)
  from_primary d ps x (rule.empty_list_operand qs {k = k} t o u e f i g) =
      form d head.EmptyList t e ((o, max outer d) ∷ (qs ++ (u, max outer d) ∷ [])) (single (Const_ (empty_list k) t.start) t d)
      (k, of_parens (max outer d) qs k o u f i g, refl)
  from_primary d ps x (rule.builtin_operand {ps = qs} {es = es} {b = b} t o u e f i g) =
      form d (head.Apply b) t e ((o, max outer d) ∷ (qs ++ (u, max outer d) ∷ [])) (single (Apply b (in_order es) t.start) t d) (
        es,
        record {
          front = (o, max outer d) ∷ [];
          back = qs ++ (u, max outer d) ∷ [];
          first = o;
          whole = refl;
          begins = mark_one (max outer d) mark.Open o f;
          goes_on = one_closed (max outer d) mark.Close (Items d) qs es u (to_items d qs es i) g;
        },
        refl,
      )
