-- The constants of a type that a text spells are values.
use Rattle.std.proofs.Common.{◌≡◌, ◌+◌, ℕ, ℤ, pos, neg_ℤ, zero, suc, Bool, true, false, cond, List, length, Some, None}
use Rattle.std.proofs.Common.{refl, sym, subst, arith}
use Rattle.std.specs.Prelude.{FitsSigned, nat_le}
use Rattle.std.specs.Int.{w64}
use Rattle.std.specs.List.{AllByRecursion}
use Rattle.std.proofs.lemmas.Bool.{leb-true}
use Rattle.grammar.specs.Grammar.{Grammar, Nothing, Then}
use Rattle.grammar.specs.Depths.{Placed, Steps, no_step, step_on}
use Rattle.grammar.specs.Sequences.{Row, no_more, one_more}
use Rattle.epl_syntax.specs.declared.token.Mark.TheVariants as mark
use Rattle.epl_syntax.specs.declared.token.Token.{Token}
use Rattle.epl_syntax.specs.declared.token.TokenKind.{TokenKind}
use Rattle.epl_syntax.specs.declared.token.TokenKind.TheVariants as kind
use Rattle.epl_syntax.specs.declared.word.Word.TheVariants as word
use Rattle.epl_syntax.specs.Tree.{Beginning, Local, Variable, Statement, Operation, Process, Upgrade, UpgradeAssignment, TypeTree}
use Rattle.epl_syntax.specs.Constants.{ConstantFits, ExpressionFits, StatementFits, LocalsFit, TreeFits}
use Rattle.epl_syntax.proofs.KeptTypes.{all_push}
use Rattle.epl_parser.specs.declared.head.ConstantHead.TheVariants as first
use Rattle.epl_parser.specs.declared.item.ItemHead.{ItemHead}
use Rattle.epl_parser.specs.declared.item.ItemHead.TheVariants as item
use Rattle.epl_parser.specs.declared.item.MemberHead.{MemberHead}
use Rattle.epl_parser.specs.declared.item.MemberHead.TheVariants as member
use Rattle.epl_parser.specs.Heads.{constant_head, negated}
use Rattle.epl_parser.specs.Constants.{IsConstant, plain_int, minus_int, plain_text, plain_truth, no_capability, no_items}
use Rattle.epl_parser.specs.Statements.{IsStatement}
use Rattle.epl_parser.specs.Items.{IsBinding, IsLocal, OperationRest, ProcessRest, MemberRest, IsMember, ItemRest, IsItem, IsChange}
use Rattle.epl_parser.specs.Items.{IsUpgrade, IsEdentype, declared, with_variable, with_class, with_monitor, with_condition, without_items}
use Rattle.epl_parser.specs.Program.{SpellsType}
use Rattle.epl_parser.proofs.TextTokens.{TextFits, texts_fit}
use Rattle.epl_parser.proofs.ExpressionConstants.{TextsFit, texts_placed, parted, number_in, no_number, expression_fits}
use Rattle.epl_parser.proofs.StatementConstants.{in_front, behind, statement_fits}

-- ---- the constants with which variables start
number_fits : (k : TokenKind) (m : ℤ) → constant_head k ≡ Some (first.Int m) → FitsSigned w64 m
unfolding constant_head
number_fits (kind.Int n) m e = number_in first.Int (λ x y s. cc) n m (nat_le n 9223372036854775807) refl e
number_fits (kind.Mark mark.Minus) m e = absurd cc
number_fits (kind.Word word.True) m e = absurd cc
number_fits _ m e = absurd (cc)

is_text : (k : TokenKind) → constant_head k ≡ Some first.Text → k ≡ kind.Text
unfolding constant_head
is_text kind.Text e = refl
is_text (kind.Int n) e = absurd (no_number first.Int first.Text (λ x s. absurd cc) n (nat_le n 9223372036854775807) e)
is_text (kind.Mark mark.Minus) e = absurd cc
is_text (kind.Word word.True) e = absurd cc
is_text _ e = absurd (cc)

below_zero : (n : ℕ) → nat_le n 9223372036854775807 ≡ true → FitsSigned w64 (neg_ℤ (pos n))
below_zero zero h = record { sfits = omega arith }
below_zero (suc n) h = let few = leb-true (suc n) 9223372036854775807 h in record { sfits = omega arith }

negated_in : (n : ℕ) (m : ℤ) (b : Bool) → nat_le n 9223372036854775807 ≡ b → cond b (Some (neg_ℤ (pos n))) None ≡ Some m
    → FitsSigned w64 m
negated_in n m false k e = absurd cc
negated_in n m true k e = let same : neg_ℤ (pos n) ≡ m = cc in subst (FitsSigned w64) same (below_zero n k)

negated_fits : (k : TokenKind) (m : ℤ) → negated k ≡ Some m → FitsSigned w64 m
unfolding negated
negated_fits (kind.Int n) m e = negated_in n m (nat_le n 9223372036854775807) refl e
negated_fits _ m e = absurd (cc)

constant_fits : (text : List ℕ) (outer : ℕ) (ps : List (Token × ℕ)) (x : Beginning) → IsConstant text outer ps x → TextsFit text ps
    → ConstantFits x.value
constant_fits text outer ps x (plain_int {n = n} t e) h = (tt, number_fits t.kind n e)
constant_fits text outer ps x (minus_int {n = n} t u e f) h = (tt, negated_fits u.kind n f)
constant_fits text outer ps x (plain_text t e) h = (h.0 (is_text t.kind e), tt)
constant_fits text outer ps x (plain_truth t e) h = (tt, tt)
constant_fits text outer ps x (no_capability t e) h = (tt, tt)
constant_fits text outer ps x (no_items qs t u w e f k g) h = ((omega arith, tt), tt)

-- the first value of a variable
abbrev StartFits : Local → Type 0
StartFits v = ConstantFits v.start.value

binding_fits : (text : List ℕ) (ps : List (Placed Token)) (v : Local) → IsBinding text ps v → TextsFit text ps → StartFits v
binding_fits text ps v x h =
    let colon = x.goes_on in
    let shape = colon.goes_on in
    let equal = shape.goes_on in
    let start = equal.goes_on in
    subst StartFits (sym start.goes_on.1)
    (constant_fits text 0 start.front start.first start.begins
    (in_front text start (behind text equal (behind text shape (behind text colon (behind text x h))))))

local_fits : (text : List ℕ) (ps : List (Placed Token)) (v : Local) → IsLocal text ps v → TextsFit text ps → StartFits v
local_fits text ps v x h = binding_fits text x.back v x.goes_on (behind text x h)

-- ---- rows
-- what each part of a row spells is so where its texts fit
row_fits : {A : Type 0} (text : List ℕ) (P : A → Type 0) (G : Grammar (Placed Token) A)
    → ((ps : List (Placed Token)) (a : A) → G ps a → TextsFit text ps → P a)
    → (ps : List (Placed Token)) (xs : List A) → Row G ps xs → TextsFit text ps → AllByRecursion P xs
row_fits text P G one ps xs no_more h = tt
row_fits text P G one ps xs (one_more {front = front} {back = back} {a = a} {more = more} g rest) h =
    let parts = parted text front back h in (one front a g parts.0, row_fits text P G one back more rest parts.1)

-- ---- bodies
-- the constants of an operation
abbrev OperationFits : Operation → Type 0
OperationFits o = LocalsFit o.locals × AllByRecursion StatementFits o.body

-- the constants of a process
abbrev ProcessFits : Process → Type 0
ProcessFits p = LocalsFit p.locals × AllByRecursion StatementFits p.body

-- the constants of an upgrade
abbrev UpgradeFits : Upgrade → Type 0
UpgradeFits u = AllByRecursion (λ c. ExpressionFits c.value) u.changes

module _ (text : List ℕ) where
  locals_fit : (ps : List (Placed Token)) (vs : List Local) → Row (IsLocal text) ps vs → TextsFit text ps → LocalsFit vs
  locals_fit ps vs x h = row_fits text StartFits (IsLocal text) (local_fits text) ps vs x h

  body_fits : (ps : List (Placed Token)) (ss : List Statement) → Row (IsStatement text 1) ps ss → TextsFit text ps
      → AllByRecursion StatementFits ss
  body_fits ps ss x h = row_fits text StatementFits (IsStatement text 1) (statement_fits text 1) ps ss x h

  operation_fits : (ps : List (Placed Token)) (o : Operation) → OperationRest text ps o → TextsFit text ps → OperationFits o
  operation_fits ps o x h =
      let needs = x.goes_on in
      let number = needs.goes_on in
      let class = number.goes_on in
      let name = class.goes_on in
      let params = name.goes_on in
      let returns = params.goes_on in
      let results = returns.goes_on in
      let locals = results.goes_on in
      let body = locals.goes_on in
      let at_params = behind text name (behind text class (behind text number (behind text needs (behind text x h)))) in
      let at_locals = behind text results (behind text returns (behind text params at_params)) in
      subst OperationFits (sym body.goes_on.goes_on.1) (
        locals_fit locals.front locals.first locals.begins (in_front text locals at_locals),
        body_fits body.front body.first body.begins (in_front text body (behind text locals at_locals)),
      )

  process_fits : (ps : List (Placed Token)) (p : Process) → ProcessRest text ps p → TextsFit text ps → ProcessFits p
  process_fits ps p x h =
      let locals = x.goes_on in
      let body = locals.goes_on in
      let at_locals = behind text x h in
      subst ProcessFits (sym body.goes_on.goes_on.1) (
        locals_fit locals.front locals.first locals.begins (in_front text locals at_locals),
        body_fits body.front body.first body.begins (in_front text body (behind text locals at_locals)),
      )

  change_fits : (ps : List (Placed Token)) (c : UpgradeAssignment) → IsChange text ps c → TextsFit text ps → ExpressionFits c.value
  change_fits ps c x h =
      let assign = x.goes_on in
      let value = assign.goes_on in
      subst (λ (c : UpgradeAssignment). ExpressionFits c.value) (sym value.goes_on.1)
      (expression_fits text 0 value.front value.first value.begins (in_front text value (behind text assign (behind text x h))))

  upgrade_fits : (ps : List (Placed Token)) (u : Upgrade) → IsUpgrade text ps u → TextsFit text ps → UpgradeFits u
  upgrade_fits ps u x h =
      let word = x.goes_on in
      let from = word.goes_on in
      let params = from.goes_on in
      let changes = params.goes_on in
      let at_changes = behind text params (behind text from (behind text word (behind text x h))) in
      subst UpgradeFits (sym changes.goes_on.goes_on.1)
      (row_fits text (λ (c : UpgradeAssignment). ExpressionFits c.value) (IsChange text) change_fits changes.front changes.first
      changes.begins (in_front text changes at_changes))

  -- ---- items
  -- one variable more
  variable_fits : (durable : Bool) (number : ℕ) (v : Local) (e : TypeTree) → StartFits v → TreeFits e
      → TreeFits (with_variable (declared durable number v) e)
  variable_fits durable number v e start h = record {
    vars = all_push (λ (w : Variable). ConstantFits w.start.value) e.vars (declared durable number v) h.vars start;
    operations = h.operations;
    processes = h.processes;
    upgrades = h.upgrades;
  }

  -- a type whose constants are as they were
  same_constants : (e f : TypeTree) → f.vars ≡ e.vars → f.operations ≡ e.operations → f.processes ≡ e.processes → f.upgrades ≡ e.upgrades
      → TreeFits e → TreeFits f
  same_constants e f vars operations processes upgrades h = record {
    vars = subst (AllByRecursion (λ (w : Variable). ConstantFits w.start.value)) (sym vars) h.vars;
    operations = subst (AllByRecursion OperationFits) (sym operations) h.operations;
    processes = subst (AllByRecursion ProcessFits) (sym processes) h.processes;
    upgrades = subst (AllByRecursion UpgradeFits) (sym upgrades) h.upgrades;
  }

  -- what makes of a type whose constants fit another keeps that
  abbrev KeepsFit : (TypeTree → Grammar (Placed Token) TypeTree) → Type 0
  KeepsFit G = (e : TypeTree) (ps : List (Placed Token)) (f : TypeTree) → G e ps f → TextsFit text ps → TreeFits e → TreeFits f

  steps_keep : (G : TypeTree → Grammar (Placed Token) TypeTree) → KeepsFit G → KeepsFit (Steps G)
  steps_keep G one e ps f no_step h fit = fit
  steps_keep G one e ps f (step_on {b = b} {front = front} {back = back} g more) h fit =
      let parts = parted text front back h in steps_keep G one b back f more parts.1 (one e front b g parts.0 fit)

  binding_keeps : (durable : Bool) (number : ℕ) (e : TypeTree) (ps : List (Placed Token)) (f : TypeTree)
      → Then (IsBinding text) (λ x. Nothing (with_variable (declared durable number x) e)) ps f → TextsFit text ps → TreeFits e → TreeFits f
  binding_keeps durable number e ps f x h fit =
      subst TreeFits (sym x.goes_on.1)
      (variable_fits durable number x.first e (binding_fits text x.front x.first x.begins (in_front text x h)) fit)

  member_rest : (number : ℕ) (h : MemberHead) → KeepsFit (λ e. MemberRest text number e h)
  member_rest number member.Durable e ps f x h fit = binding_keeps true number e ps f x h fit
  member_rest number member.Working e ps f x h fit = binding_keeps false number e ps f x h fit
  member_rest number member.Condition e ps f x h fit =
      let with_one = with_condition (record { name = x.first; monitor = number }) e in
      subst TreeFits (sym x.goes_on.1) (same_constants e with_one refl refl refl refl fit)

  member_keeps : (number : ℕ) → KeepsFit (IsMember text number)
  member_keeps number e ps f x h fit = member_rest number x.first e x.back f x.goes_on (behind text x h) fit

  item_rest : (h : ItemHead) → KeepsFit (λ e. ItemRest text e h)
  item_rest item.Durable e ps f x h fit = binding_keeps true 0 e ps f x h fit
  item_rest item.Working e ps f x h fit = binding_keeps false 0 e ps f x h fit
  item_rest item.Class e ps f x h fit =
      subst TreeFits (sym x.goes_on.1) (same_constants e (with_class x.first e) refl refl refl refl fit)
  item_rest item.Monitor e ps f x h fit =
      let inside = x.goes_on in
      subst TreeFits (sym inside.goes_on.goes_on.1)
      (steps_keep (IsMember text (length e.monitors + 1)) (member_keeps (length e.monitors + 1)) (with_monitor x.first e) inside.front
      inside.first inside.begins (in_front text inside (behind text x h))
      (same_constants e (with_monitor x.first e) refl refl refl refl fit))
  item_rest item.Operation e ps f x h fit =
      let one = operation_fits x.front x.first x.begins (in_front text x h) in
      subst TreeFits (sym x.goes_on.1) (record {
        vars = fit.vars;
        operations = all_push OperationFits e.operations x.first fit.operations one;
        processes = fit.processes;
        upgrades = fit.upgrades;
      })
  item_rest item.Process e ps f x h fit =
      let one = process_fits x.front x.first x.begins (in_front text x h) in
      subst TreeFits (sym x.goes_on.1) (record {
        vars = fit.vars;
        operations = fit.operations;
        processes = all_push ProcessFits e.processes x.first fit.processes one;
        upgrades = fit.upgrades;
      })

  item_keeps : KeepsFit (IsItem text)
  item_keeps e ps f x h fit = item_rest x.first e x.back f x.goes_on (behind text x h) fit

  -- ---- the type
  type_fits : (ps : List (Placed Token)) (e : TypeTree) → IsEdentype text ps e → TextsFit text ps → TreeFits e
  type_fits ps e x h =
      let name = x.goes_on in
      let version = name.goes_on in
      let items = version.goes_on in
      let upgrades = items.goes_on in
      let at_items = behind text version (behind text name (behind text x h)) in
      let begun = without_items name.first version.first in
      let fit = steps_keep (IsItem text) item_keeps begun items.front items.first items.begins (in_front text items at_items)
      (record { vars = tt; operations = tt; processes = tt; upgrades = tt }) in
      subst TreeFits (sym upgrades.goes_on.goes_on.1) (record {
        vars = fit.vars;
        operations = fit.operations;
        processes = fit.processes;
        upgrades = row_fits text UpgradeFits (IsUpgrade text) upgrade_fits upgrades.front upgrades.first upgrades.begins
            (in_front text upgrades (behind text items at_items));
      })

pub constants_fit : (text : List ℕ) (e : TypeTree) → SpellsType text e → TreeFits e
constants_fit text e h =
    let texts = texts_fit text 0 h.tokens (length text) h.spelled in
    type_fits text h.type.placed e h.type.member
    (texts_placed text h.type.placed (subst (AllByRecursion (TextFits text)) h.type.whole texts))
