-- The readers of an Edentype read its grammar.
use Rattle.std.proofs.Common.{◌≡◌, ℕ, ◌+◌, Bool, true, false, List, [], ◌∷◌, ◌++◌, length, Option, Some, None, refl}
use Rattle.std.proofs.Common.{sym, ap, ◌∙◌, subst, arith}
use Rattle.grammar.specs.Grammar.{Grammar, Nothing, Then}
use Rattle.grammar.specs.Depths.{Placed, bare, Steps, no_step, step_on, look_both, look_here, Reads}
use Rattle.grammar.proofs.Lookers.{bare_before, then_reads}
use Rattle.grammar.specs.Choices.{BeginsBy}
use Rattle.grammar.proofs.Choices.{Anything, EndsBefore, if_reads}
use Rattle.grammar.proofs.InSteps.{begins_longer, begins_before, many_reads}
use Rattle.grammar.specs.Sequences.{Row}
use Rattle.grammar.proofs.Sequences.{symbol_reads, and_reads, value_reads, then_begins, all_reads, row_follows}
use Rattle.grammar.specs.Separated.{Separated}
use Rattle.grammar.proofs.Separated.{separated_reads}
use Rattle.eden_value.specs.Shape.{Shape}
use Rattle.epl_parser.specs.declared.head.KindHead.TheVariants as first
use Rattle.epl_syntax.specs.declared.token.Mark.TheVariants as mark
use Rattle.epl_syntax.specs.declared.token.Token.{Token}
use Rattle.epl_syntax.specs.declared.token.TokenKind.{TokenKind}
use Rattle.epl_syntax.specs.declared.token.TokenKind.TheVariants as kind
use Rattle.epl_syntax.specs.declared.tree.Name.{Name}
use Rattle.epl_syntax.specs.declared.word.Word.{Word}
use Rattle.epl_syntax.specs.declared.word.Word.TheVariants as word
use Rattle.epl_parser.specs.declared.statement.StatementHead.{StatementHead}
use Rattle.epl_parser.specs.declared.item.ItemHead.{ItemHead}
use Rattle.epl_parser.specs.declared.item.ItemHead.TheVariants as item
use Rattle.epl_parser.specs.declared.item.MemberHead.{MemberHead}
use Rattle.epl_parser.specs.declared.item.MemberHead.TheVariants as member
use Rattle.epl_syntax.specs.Tree.{PlacedShape, Local, Parameter, Statement, Upgrade, TypeTree}
use Rattle.epl_parser.specs.Heads.{ties}
use Rattle.epl_parser.specs.OneToken.{the_mark, if_mark, the_word, the_lower, if_lower, headed, OneAt, look_one}
use Rattle.epl_parser.specs.WrittenKinds.{kind_head, IsKind, int_kind, bool_kind, text_kind, cap_kind, list_kind}
use Rattle.epl_parser.specs.WrittenKinds.{IsWrittenKind, read_written_kind}
use Rattle.epl_parser.specs.ExpressionReader.{EndsExpression}
use Rattle.epl_parser.specs.Statements.{statement_head, InParens, IsStatement}
use Rattle.epl_parser.specs.StatementReader.{not_mark, read_body}
use Rattle.epl_parser.specs.Items.{with_variable, with_class, with_monitor, with_condition, with_operation}
use Rattle.epl_parser.specs.Items.{with_process, with_upgrades, without_items, declared, IsBinding, IsLocal}
use Rattle.epl_parser.specs.Items.{IsParameter, IsParameters, ClassRest, OperationRest, ProcessRest, member_head}
use Rattle.epl_parser.specs.Items.{MemberRest, IsMember, item_head, ItemRest, IsItem, IsChange, IsUpgrade, IsVersion}
use Rattle.epl_parser.specs.Items.{IsEdentype}
use Rattle.epl_parser.specs.ItemReader.{lower_kind, read_binding, read_local, read_locals, read_parameter}
use Rattle.epl_parser.specs.ItemReader.{read_parameters, read_parameter_list, read_kinds, read_results, read_class}
use Rattle.epl_parser.specs.ItemReader.{read_signature, read_code, read_operation, read_process, read_variable}
use Rattle.epl_parser.specs.ItemReader.{read_condition, read_member_rest}
use Rattle.epl_parser.specs.ItemReader.{read_member, read_members, read_monitor, read_item_rest, read_item}
use Rattle.epl_parser.specs.ItemReader.{read_items, read_change, read_changes, read_conversion, read_upgrade, read_upgrades}
use Rattle.epl_parser.specs.ItemReader.{read_version, read_edentype}
use Rattle.epl_parser.proofs.KindReader.{sample, written_kind_reads}
use Rattle.epl_parser.proofs.Nested.{three_steps, alike_reads}
use Rattle.epl_parser.proofs.SingleTokens.{the_mark_is, is_the_word}
use Rattle.epl_parser.proofs.ConstantReads.{constant_reads}
use Rattle.epl_parser.proofs.ExpressionReads.{expression_reads}
use Rattle.epl_parser.proofs.Follows.{is_not, no_mark, no_word, is_headed_kind, before_word, EndsBlock}
use Rattle.epl_parser.proofs.TokenReads.{word_reads, mark_reads, lower_reads, upper_reads, before_token}
use Rattle.epl_parser.proofs.TokenReads.{lower_behind_reads, number_behind_reads}
use Rattle.epl_parser.proofs.TokenReads.{part_reads, end_reads, other_word, parens_reads, separated_begins}
use Rattle.epl_parser.proofs.StatementReads.{end_block, close_no_comma, statement_begins, statements_reads}

-- ---- a name is nothing else
lower_in : (bytes : List ℕ) (t : Token) (k : TokenKind) (n : Name) → if_lower bytes t k ≡ Some n → k ≡ kind.Lower
lower_in bytes t kind.Lower n e = refl
lower_in bytes t kind.Upper n e = absurd (cc)
lower_in bytes t (kind.Int i) n e = absurd (cc)
lower_in bytes t kind.Text n e = absurd (cc)
lower_in bytes t (kind.Mark m) n e = absurd (cc)
lower_in bytes t (kind.Word w) n e = absurd (cc)

pub is_the_lower : (bytes : List ℕ) (t : Token) (n : Name) → the_lower bytes t ≡ Some n → t.kind ≡ kind.Lower
unfolding the_lower
is_the_lower bytes t n e = lower_in bytes t t.kind n e

lower_opens : (bytes : List ℕ) (t : Token) (n : Name) → the_lower bytes t ≡ Some n → not_mark mark.Close t ≡ Some tt
unfolding the_mark
lower_opens bytes t n e = is_not mark.Close t (ap (if_mark mark.Close t) (is_the_lower bytes t n e))

kind_ties : (k : TokenKind) (u : Unit {0}) → lower_kind k ≡ Some u → ties k ≡ 0
unfolding ties lower_kind
kind_ties kind.Lower u e = refl
kind_ties kind.Upper u e = absurd (cc)
kind_ties (kind.Int i) u e = absurd (cc)
kind_ties kind.Text u e = absurd (cc)
kind_ties (kind.Mark m) u e = absurd (cc)
kind_ties (kind.Word w) u e = absurd (cc)

lower_ends : (t : Token) (w : List Token) (u : Unit {0}) → lower_kind t.kind ≡ Some u → EndsExpression (t ∷ w)
lower_ends t w u e = let z = kind_ties t.kind u e in omega arith

lower_begins : (bytes : List ℕ) (ps : List (Token × ℕ)) → BeginsBy (the_lower bytes) ps → BeginsBy (λ (t : Token). lower_kind t.kind) ps
unfolding lower_kind
lower_begins bytes [] b = absurd b
lower_begins bytes (p ∷ ps) b = (tt, ap lower_kind (is_the_lower bytes p.0 b.0 b.1))

-- where f has a value for no token of this word
not_by : {A : Type 0} (f : TokenKind → Option A) (w : Word) → f (kind.Word w) ≡ None → (t u : Token) → the_word w t ≡ Some u
    → f t.kind ≡ None
not_by f w z t u e = ap f (is_the_word w t u e).0 ∙ z

begins_opens : {A : Type 0} (f : Token → Option A) → ((t : Token) (a : A) → f t ≡ Some a → not_mark mark.Close t ≡ Some tt)
    → (ps : List (Token × ℕ)) → BeginsBy f ps → BeginsBy (not_mark mark.Close) ps
begins_opens f opens [] b = absurd b
begins_opens f opens (p ∷ ps) b = (tt, opens p.0 b.0 b.1)

kind_token_opens : (t : Token) (h : _) → kind_head t.kind ≡ Some h → not_mark mark.Close t ≡ Some tt
unfolding kind_head
kind_token_opens t h e = is_not mark.Close t (no_mark mark.Close kind_head h t e refl)

kind_opens : (outer d : ℕ) (ps : List (Token × ℕ)) (s : Shape) → IsKind outer d ps s → BeginsBy (not_mark mark.Close) ps
kind_opens outer d ps s (int_kind t e) = (tt, kind_token_opens t first.Int e)
kind_opens outer d ps s (bool_kind t e) = (tt, kind_token_opens t first.Bool e)
kind_opens outer d ps s (text_kind t e) = (tt, kind_token_opens t first.Text e)
kind_opens outer d ps s (cap_kind t e) = (tt, kind_token_opens t first.Cap e)
kind_opens outer d ps s (list_kind t u e f k) = (tt, kind_token_opens t first.List e)

written_opens : (outer : ℕ) (ps : List (Token × ℕ)) (k : PlacedShape) → IsWrittenKind outer ps k → BeginsBy (not_mark mark.Close) ps
written_opens outer [] k m = absurd m.1
written_opens outer (p ∷ ps) k m = kind_opens outer 1 (p ∷ ps) m.0.0 m.1.0

-- what may follow steps: what begins another, or what may follow all
steps_follow : {A K : Type 0} (f : Token → Option K) (G : A → List (Token × ℕ) → A → Type 0) (n : List Token → Type 0)
    → ((a : A) (ps : List (Token × ℕ)) (b : A) → G a ps b → BeginsBy f ps)
    → ((t : Token) (w : List Token) (k : K) → f t ≡ Some k → n (t ∷ w)) → (a : A) (ps : List (Token × ℕ)) (b : A) → Steps G a ps b
    → (v : List Token) → n v → n (bare ps ++ v)
steps_follow f G n begins goes a ps b no_step v k = k
steps_follow f G n begins goes a ps b (step_on {b = c} {front = front} {back = back} p q) v k =
    begins_before f n goes (front ++ back) v (begins_longer f front back (begins a front c p))

module _ (bytes : List ℕ) (turns : ℕ) where
  -- ---- variables and parameters
  pub binding_reads : {m : List Token → Type 0} → Reads 32 turns (IsBinding bytes) m (read_binding bytes turns)
  unfolding read_binding read_parameter
  binding_reads =
      alike_reads 32 turns
      (lower_reads turns 0 bytes (λ name.
      mark_reads turns 0 mark.Colon (λ c.
      and_reads 32 turns (written_kind_reads 0 turns) (λ of_kind.
      mark_reads turns 0 mark.Equal (λ q. end_reads turns (λ start. record { name = name; kind = of_kind; start = start })
      (constant_reads bytes 0 turns) (λ v k. tt))))))
      (three_steps {D = Parameter} (look_one 0 (the_lower bytes)) (λ name. look_one 0 (the_mark mark.Colon))
      (λ name c. read_written_kind 0) (λ name c of_kind. record { name = name; kind = of_kind }) _)

  local_reads : Reads 32 turns (IsLocal bytes) Anything (read_local bytes turns)
  unfolding read_local
  local_reads = word_reads turns 0 word.Var (λ v. binding_reads)

  abbrev pub NoVar : List Token → Type 0
  NoVar = EndsBefore (the_word word.Var)

  pub locals_reads : Reads 32 turns (Row (IsLocal bytes)) NoVar (read_locals bytes turns)
  unfolding read_locals
  locals_reads =
      all_reads 32 turns (the_word word.Var) (IsLocal bytes) Anything NoVar (read_local bytes turns) local_reads
      (λ ps a p. then_begins (λ u. 0) (the_word word.Var) _ ps a p) (λ v k. k) (λ v k. tt) (λ t w k e. tt)

  pub parameter_reads : Reads 32 turns (IsParameter bytes) Anything (read_parameter bytes turns)
  unfolding read_parameter
  parameter_reads =
      lower_reads turns 0 bytes (λ name.
      mark_reads turns 0 mark.Colon (λ c. end_reads turns (λ of_kind. record { name = name; kind = of_kind }) (written_kind_reads 0 turns)
      (λ v k. tt)))

  parameters_reads : Reads 32 turns (Separated 0 (the_mark mark.Comma) (IsParameter bytes)) (EndsBefore (the_mark mark.Comma))
      (read_parameters bytes turns)
  unfolding read_parameters
  parameters_reads =
      separated_reads 32 turns 0 (the_mark mark.Comma) (IsParameter bytes) Anything (EndsBefore (the_mark mark.Comma))
      (read_parameter bytes turns) parameter_reads (λ v k. k) (λ v k. tt) (λ t w u e. tt)
      (sample (kind.Mark mark.Comma)) (sample (kind.Mark mark.Comma)) (the_mark_is mark.Comma (sample (kind.Mark mark.Comma)) refl)

  parameter_list_reads : {m : List Token → Type 0} → Reads 32 turns (IsParameters bytes) m (read_parameter_list bytes turns)
  unfolding read_parameter_list
  parameter_list_reads {m = m} =
      parens_reads turns 0 (Separated 0 (the_mark mark.Comma) (IsParameter bytes)) (EndsBefore (the_mark mark.Comma))
      (read_parameters bytes turns) m parameters_reads (λ t u w e. close_no_comma t u e)
      (separated_begins 0 (the_mark mark.Comma) (not_mark mark.Close) (IsParameter bytes)
      (λ ps a p. begins_opens (the_lower bytes) (lower_opens bytes) ps (then_begins (λ u. 0) (the_lower bytes) _ ps a p)))

  kinds_reads : Reads 32 turns (Separated 0 (the_mark mark.Comma) (IsWrittenKind 0)) (EndsBefore (the_mark mark.Comma))
      (read_kinds bytes turns)
  unfolding read_kinds
  kinds_reads =
      separated_reads 32 turns 0 (the_mark mark.Comma) (IsWrittenKind 0) Anything (EndsBefore (the_mark mark.Comma)) (read_written_kind 0)
      (written_kind_reads 0 turns) (λ v k. k) (λ v k. tt) (λ t w u e. tt)
      (sample (kind.Mark mark.Comma)) (sample (kind.Mark mark.Comma)) (the_mark_is mark.Comma (sample (kind.Mark mark.Comma)) refl)

  results_reads : {m : List Token → Type 0} → Reads 32 turns (InParens 0 (Separated 0 (the_mark mark.Comma) (IsWrittenKind 0))) m
      (read_results bytes turns)
  unfolding read_results
  results_reads {m = m} =
      parens_reads turns 0 (Separated 0 (the_mark mark.Comma) (IsWrittenKind 0)) (EndsBefore (the_mark mark.Comma))
      (read_kinds bytes turns) m kinds_reads (λ t u w e. close_no_comma t u e)
      (separated_begins 0 (the_mark mark.Comma) (not_mark mark.Close) (IsWrittenKind 0) (written_opens 0))

  -- ---- operations, processes and classes
  class_reads : {m : List Token → Type 0} → Reads 32 turns (ClassRest bytes) m (read_class bytes turns)
  unfolding read_class
  class_reads =
      lower_reads turns 0 bytes (λ name.
      number_behind_reads turns 0 word.Limit (λ limit. value_reads 32 turns (record { name = name; limit = limit })))

  body_reads : Reads 32 turns (Row (IsStatement bytes 1)) EndsBlock (read_body bytes turns)
  unfolding read_body
  body_reads = statements_reads bytes turns (expression_reads bytes turns) 32 1 (omega arith)

  no_var : (t : Token) (w : List Token) (h : StatementHead × Token) → headed statement_head t ≡ Some h → NoVar (t ∷ w)
  unfolding statement_head
  no_var t w h e = no_word word.Var statement_head h.0 t (is_headed_kind t h e) refl

  end_no_var : (t u : Token) (w : List Token) → the_word word.End t ≡ Some u → NoVar (t ∷ w)
  end_no_var t u w e = other_word word.End word.Var (λ t. refl) t u e

  -- a body and its end
  module _ {B : Type 0} (f : List Statement → B) where
    abbrev Ended : Grammar (Placed Token) B
    Ended = Then (Row (IsStatement bytes 1)) (λ body. Then (OneAt 0 (the_word word.End)) (λ e. Nothing (f body)))

    ended_reads : {m : List Token → Type 0} → Reads 32 turns Ended m
        (look_both (read_body bytes turns) (λ body. look_both (look_one 0 (the_word word.End)) (λ e. look_here (f body))))
    ended_reads =
        part_reads turns 0 (the_word word.End) body_reads (λ t u w e. end_block t u w e)
        (λ body. word_reads turns 0 word.End (λ e. value_reads 32 turns (f body)))

    ended_no_var : (qs : List (Token × ℕ)) (b : B) → Ended qs b → (v : List Token) → NoVar (bare qs ++ v)
    ended_no_var qs b q v =
        subst (λ l. NoVar (bare l ++ v)) (sym q.whole)
        (subst (λ l. NoVar l) (sym (bare_before q.front q.back v))
        (row_follows (headed statement_head) (IsStatement bytes 1) NoVar
        (statement_begins bytes turns (expression_reads bytes turns) 1) no_var q.front q.first q.begins (bare q.back ++ v)
        (before_token NoVar 0 (the_word word.End) end_no_var _ q.back b q.goes_on v)))

  code_reads : {B : Type 0} (f : List Local → List Statement → B) {m : List Token → Type 0}
      → Reads 32 turns (Then (Row (IsLocal bytes)) (λ locals. Ended (f locals))) m
      (look_both (read_code bytes turns) (λ c. look_here (f c.0 c.1)))
  unfolding read_code
  code_reads f {m = m} =
      alike_reads 32 turns
      (then_reads 32 turns turns 0 (Row (IsLocal bytes)) (λ locals. Ended (f locals)) NoVar m (read_locals bytes turns) _ locals_reads
      (λ ps locals p. ended_reads (f locals)) (λ ps locals p. omega arith) (omega arith)
      (λ ps locals p qs b q v k. ended_no_var (f locals) qs b q v))
      (three_steps (read_locals bytes turns) (λ locals. read_body bytes turns) (λ locals body. look_one 0 (the_word word.End))
      (λ locals body e. (locals, body)) _)

  operation_reads : {m : List Token → Type 0} → Reads 32 turns (OperationRest bytes) m (read_operation bytes turns)
  unfolding read_operation read_signature
  operation_reads =
      upper_reads turns 0 bytes (λ name.
      number_behind_reads turns 0 word.Needs (λ needs.
      lower_behind_reads turns 0 word.Class bytes (λ class.
      alike_reads 32 turns
      (and_reads 32 turns parameter_list_reads (λ params.
      word_reads turns 0 word.Returns (λ r.
      and_reads 32 turns results_reads (λ results.
      code_reads (λ locals body. record {
        name = name;
        needs = needs;
        class = class;
        params = params;
        results = results;
        locals = locals;
        body = body;
      })))))
      (three_steps (read_parameter_list bytes turns) (λ params. look_one 0 (the_word word.Returns)) (λ params r. read_results bytes turns)
      (λ params r results. (params, results)) _))))

  process_reads : {m : List Token → Type 0} → Reads 32 turns (ProcessRest bytes) m (read_process bytes turns)
  unfolding read_process
  process_reads = upper_reads turns 0 bytes (λ name. code_reads (λ locals body. record { name = name; locals = locals; body = body }))

  -- ---- parts of monitors
  variable_reads : (durable : Bool) (number : ℕ) (e : TypeTree)
      → Reads 32 turns (Then (IsBinding bytes) (λ x. Nothing (with_variable (declared durable number x) e))) Anything
      (read_variable bytes turns durable number e)
  unfolding read_variable
  variable_reads durable number e =
      end_reads turns (λ x. with_variable (declared durable number x) e) (binding_reads {m = Anything}) (λ v k. tt)

  member_rest_reads : (number : ℕ) (e : TypeTree) (h : MemberHead)
      → Reads 32 turns (MemberRest bytes number e h) Anything (read_member_rest bytes turns number e h)
  unfolding read_condition
  member_rest_reads number e member.Durable = variable_reads true number e
  member_rest_reads number e member.Working = variable_reads false number e
  member_rest_reads number e member.Condition =
      lower_reads turns 0 bytes (λ name. value_reads 32 turns (with_condition (record { name = name; monitor = number }) e))

  member_reads : (number : ℕ) (e : TypeTree) → Reads 32 turns (IsMember bytes number e) Anything (read_member bytes turns number e)
  unfolding read_member member_head
  member_reads number e =
      symbol_reads 32 turns (λ h. 0) (λ t. member_head t.kind) (sample (kind.Word word.Durable)) member.Durable refl
      (member_rest_reads number e)

  abbrev pub NoMember : List Token → Type 0
  NoMember = EndsBefore (λ (t : Token). member_head t.kind)

  pub members_reads : (number : ℕ) (e : TypeTree) → Reads 32 turns (Steps (IsMember bytes number) e) NoMember
      (read_members bytes turns number e)
  unfolding read_members
  members_reads number e =
      many_reads 32 turns (λ t. member_head t.kind) (λ x. Unit {0}) (IsMember bytes number) Anything NoMember
      (read_member bytes turns number) (λ a i. member_reads number a) (λ a i ps b p. tt)
      (λ a i ps b p. then_begins (λ h. 0) (λ t. member_head t.kind) (MemberRest bytes number a) ps b p) (λ v k. k) (λ v k. tt)
      (λ t w k h. tt) turns (omega arith) e tt

  end_no_member : (t u : Token) (w : List Token) → the_word word.End t ≡ Some u → NoMember (t ∷ w)
  unfolding member_head
  end_no_member t u w e = not_by member_head word.End refl t u e

  monitor_reads : (e : TypeTree) → Reads 32 turns (ItemRest bytes e item.Monitor) Anything (read_monitor bytes turns e)
  unfolding read_monitor
  monitor_reads e =
      upper_reads turns 0 bytes (λ name.
      part_reads turns 0 (the_word word.End) (members_reads (length e.monitors + 1) (with_monitor name e)) end_no_member (λ inside.
      word_reads turns 0 word.End (λ u. value_reads 32 turns inside)))

  -- ---- items
  item_rest_reads : (e : TypeTree) (h : ItemHead) → Reads 32 turns (ItemRest bytes e h) Anything (read_item_rest bytes turns e h)
  item_rest_reads e item.Durable = variable_reads true 0 e
  item_rest_reads e item.Working = variable_reads false 0 e
  item_rest_reads e item.Class = end_reads turns (λ c. with_class c e) (class_reads {m = Anything}) (λ v k. tt)
  item_rest_reads e item.Monitor = monitor_reads e
  item_rest_reads e item.Operation = end_reads turns (λ o. with_operation o e) (operation_reads {m = Anything}) (λ v k. tt)
  item_rest_reads e item.Process = end_reads turns (λ p. with_process p e) (process_reads {m = Anything}) (λ v k. tt)

  pub item_reads : (e : TypeTree) → Reads 32 turns (IsItem bytes e) Anything (read_item bytes turns e)
  unfolding read_item item_head
  item_reads e = symbol_reads 32 turns (λ h. 0) (λ t. item_head t.kind) (sample (kind.Word word.Class)) item.Class refl (item_rest_reads e)

  abbrev pub NoItem : List Token → Type 0
  NoItem = EndsBefore (λ (t : Token). item_head t.kind)

  item_begins : (e : TypeTree) (ps : List (Token × ℕ)) (b : TypeTree) → IsItem bytes e ps b → BeginsBy (λ (t : Token). item_head t.kind) ps
  item_begins e ps b p = then_begins (λ h. 0) (λ t. item_head t.kind) (ItemRest bytes e) ps b p

  pub items_reads : (e : TypeTree) → Reads 32 turns (Steps (IsItem bytes) e) NoItem (read_items bytes turns e)
  unfolding read_items
  items_reads e =
      many_reads 32 turns (λ t. item_head t.kind) (λ x. Unit {0}) (IsItem bytes) Anything NoItem (read_item bytes turns)
      (λ a i. item_reads a) (λ a i ps b p. tt) (λ a i ps b p. item_begins a ps b p) (λ v k. k) (λ v k. tt) (λ t w k h. tt)
      turns (omega arith) e tt

  -- ---- upgrades
  abbrev pub EndsChange : List Token → Type 0
  EndsChange v = EndsExpression v × EndsBefore (λ (t : Token). lower_kind t.kind) v

  change_reads : Reads 32 turns (IsChange bytes) EndsExpression (read_change bytes turns)
  unfolding read_change
  change_reads =
      lower_reads turns 0 bytes (λ name.
      mark_reads turns 0 mark.Assign (λ a. end_reads turns (λ value. record { name = name; value = value }) (expression_reads bytes turns 0)
      (λ v k. k)))

  pub changes_reads : Reads 32 turns (Row (IsChange bytes)) EndsChange (read_changes bytes turns)
  unfolding read_changes
  changes_reads =
      all_reads 32 turns (λ t. lower_kind t.kind) (IsChange bytes) EndsExpression EndsChange (read_change bytes turns) change_reads
      (λ ps a p. lower_begins bytes ps (then_begins (λ u. 0) (the_lower bytes) _ ps a p)) (λ v k. k.1) (λ v k. k.0) lower_ends

  end_change : (t u : Token) (w : List Token) → the_word word.End t ≡ Some u → EndsChange (t ∷ w)
  unfolding ties lower_kind
  end_change t u w e = (before_word word.End refl t u w e, not_by lower_kind word.End refl t u e)

  upgrade_reads : Reads 32 turns (IsUpgrade bytes) Anything (read_upgrade bytes turns)
  unfolding read_upgrade read_conversion
  upgrade_reads =
      word_reads turns 0 word.Upgrade (λ first.
      number_behind_reads turns 0 word.From (λ from.
      alike_reads 32 turns
      (and_reads 32 turns parameter_list_reads (λ params.
      part_reads turns 0 (the_word word.End) changes_reads end_change (λ changes.
      word_reads turns 0 word.End (λ u. value_reads 32 turns
      (record { from = from; params = params; changes = changes; place = first.start })))))
      (three_steps (read_parameter_list bytes turns) (λ params. read_changes bytes turns)
      (λ params changes. look_one 0 (the_word word.End)) (λ params changes u. (params, changes)) _)))

  abbrev pub NoUpgrade : List Token → Type 0
  NoUpgrade = EndsBefore (the_word word.Upgrade)

  upgrade_begins : (ps : List (Token × ℕ)) (u : Upgrade) → IsUpgrade bytes ps u → BeginsBy (the_word word.Upgrade) ps
  upgrade_begins ps u p = then_begins (λ x. 0) (the_word word.Upgrade) _ ps u p

  pub upgrades_reads : Reads 32 turns (Row (IsUpgrade bytes)) NoUpgrade (read_upgrades bytes turns)
  unfolding read_upgrades
  upgrades_reads =
      all_reads 32 turns (the_word word.Upgrade) (IsUpgrade bytes) Anything NoUpgrade
      (read_upgrade bytes turns) upgrade_reads upgrade_begins (λ v k. k) (λ v k. tt) (λ t w k e. tt)

  -- ---- the type
  abbrev NoVersion : List Token → Type 0
  NoVersion = EndsBefore (the_word word.Version)

  pub version_reads : Reads 32 turns IsVersion NoVersion read_version
  unfolding read_version
  version_reads =
      if_reads 32 turns (the_word word.Version) None _ NoVersion _
      (number_behind_reads turns 0 word.Version (λ number. value_reads 32 turns (Some number)))
      (λ ps b p. then_begins (λ u. 0) (the_word word.Version) _ ps b p) (λ v k. k)

  -- upgrades and the end of the type
  module _ (e : TypeTree) where
    abbrev Last : Grammar (Placed Token) TypeTree
    Last = Then (Row (IsUpgrade bytes)) (λ upgrades. Then (OneAt 0 (the_word word.Endtype)) (λ u. Nothing (with_upgrades upgrades e)))

    last_reads : Reads 32 turns Last Anything (look_both (read_upgrades bytes turns)
        (λ upgrades. look_both (look_one 0 (the_word word.Endtype)) (λ u. look_here (with_upgrades upgrades e))))
    last_reads =
        part_reads turns 0 (the_word word.Endtype) upgrades_reads (λ t u w h. other_word word.Endtype word.Upgrade (λ t. refl) t u h)
        (λ upgrades.
        word_reads turns 0 word.Endtype (λ u. value_reads 32 turns (with_upgrades upgrades e)))

    last_follows : (n : List Token → Type 0) → ((t u : Token) (w : List Token) → the_word word.Upgrade t ≡ Some u → n (t ∷ w))
        → ((t u : Token) (w : List Token) → the_word word.Endtype t ≡ Some u → n (t ∷ w))
        → (qs : List (Token × ℕ)) (b : TypeTree) → Last qs b → (v : List Token) → n (bare qs ++ v)
    last_follows n upgrade endtype qs b q v =
        subst (λ l. n (bare l ++ v)) (sym q.whole)
        (subst n (sym (bare_before q.front q.back v))
        (row_follows (the_word word.Upgrade) (IsUpgrade bytes) n upgrade_begins (λ t w u h. upgrade t u w h) q.front q.first q.begins
        (bare q.back ++ v) (before_token n 0 (the_word word.Endtype) endtype _ q.back b q.goes_on v)))

  item_no_version : (t : Token) (w : List Token) (h : ItemHead) → item_head t.kind ≡ Some h → NoVersion (t ∷ w)
  unfolding item_head
  item_no_version t w h e = no_word word.Version item_head h t e refl

  upgrade_no_item : (t u : Token) (w : List Token) → the_word word.Upgrade t ≡ Some u → NoItem (t ∷ w)
  unfolding item_head
  upgrade_no_item t u w e = not_by item_head word.Upgrade refl t u e

  endtype_no_item : (t u : Token) (w : List Token) → the_word word.Endtype t ≡ Some u → NoItem (t ∷ w)
  unfolding item_head
  endtype_no_item t u w e = not_by item_head word.Endtype refl t u e

  -- all items, the upgrades and the end
  module _ (start : TypeTree) where
    abbrev Inside : Grammar (Placed Token) TypeTree
    Inside = Then (Steps (IsItem bytes) start) (λ e. Last e)

    inside_reads : Reads 32 turns Inside Anything (look_both (read_items bytes turns start)
        (λ e. look_both (read_upgrades bytes turns) (λ upgrades.
        look_both (look_one 0 (the_word word.Endtype)) (λ u. look_here (with_upgrades upgrades e)))))
    inside_reads =
        then_reads 32 turns turns 0 (Steps (IsItem bytes) start) (λ e. Last e) NoItem Anything (read_items bytes turns start) _
        (items_reads start) (λ ps e p. last_reads e) (λ ps e p. omega arith) (omega arith)
        (λ ps e p qs b q v k. last_follows e NoItem upgrade_no_item endtype_no_item qs b q v)

    inside_no_version : (qs : List (Token × ℕ)) (b : TypeTree) → Inside qs b → (v : List Token) → NoVersion (bare qs ++ v)
    inside_no_version qs b q v =
        subst (λ l. NoVersion (bare l ++ v)) (sym q.whole)
        (subst NoVersion (sym (bare_before q.front q.back v))
        (steps_follow (λ t. item_head t.kind) (IsItem bytes) NoVersion item_begins item_no_version start q.front q.first q.begins
        (bare q.back ++ v)
        (last_follows q.first NoVersion (λ t u w h. other_word word.Upgrade word.Version (λ t. refl) t u h)
        (λ t u w h. other_word word.Endtype word.Version (λ t. refl) t u h) q.back b q.goes_on v)))

  pub edentype_reads : Reads 32 turns (IsEdentype bytes) Anything (read_edentype bytes turns)
  unfolding read_edentype
  edentype_reads =
      word_reads turns 0 word.Edentype (λ w.
      upper_reads turns 0 bytes (λ name.
      then_reads 32 turns turns 0 IsVersion (λ version. Inside (without_items name version)) NoVersion Anything read_version _ version_reads
      (λ ps version p. inside_reads (without_items name version))
      (λ ps version p. omega arith) (omega arith)
      (λ ps version p qs b q v k. inside_no_version (without_items name version) qs b q v)))
