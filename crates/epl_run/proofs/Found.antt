-- Names whose bindings are right, in the parts of statements and in bodies.
use Rattle.std.proofs.Common.{◌≡◌, ℕ, zero, suc, ◌+◌, ◌<◌, Bool, true, List, [], ◌∷◌, map, length, drop, Option, None}
use Rattle.std.proofs.Common.{Some, refl, ap, sym, ◌∙◌, subst, get_or, arith}
use Rattle.std.specs.Prelude.{◌&&◌, slice_get}
use Rattle.std.specs.List.{list_all}
use Rattle.std.proofs.lemmas.Iterator.Adapters.{position_from-zero}
use Rattle.eden_model.specs.Map.{with_item, same_text}
use Rattle.epl_syntax.specs.declared.tree.Name.{Name}
use Rattle.epl_syntax.specs.declared.tree.Program.{Program}
use Rattle.epl_syntax.specs.declared.tree.Stmt.{Stmt}
use Rattle.epl_syntax.specs.declared.tree.Expr.{Expr}
use Rattle.epl_syntax.specs.declared.tree.Assignment.{Assignment}
use Rattle.epl_syntax.specs.declared.binding.Binding.{Binding}
use Rattle.epl_syntax.specs.declared.binding.Binding.TheVariants.{Monitor, Condition}
use Rattle.epl_syntax.specs.Bindings.{Sort, variable, monitor, condition, place_of, is_right, binding_at, has_binding, names_seen}
use Rattle.epl_syntax.specs.Bindings.{each_of_expression, each_of_expressions, each_of_statement, each_of_block, operation_resolved}
use Rattle.epl_syntax.specs.Bindings.{process_resolved}
use Rattle.epl_syntax.specs.Bindings.{upgrade_resolved, is_resolved}
use Rattle.epl_syntax.specs.Statements as meaning
use Rattle.epl_syntax.specs.Tree.{TypeTree, Expression, Statement, If, While, With, Operation, Process, Upgrade, statement, statements}
use Rattle.epl_syntax.specs.Tree.{type_tree, change, expression, expressions}
use Rattle.epl_syntax.proofs.Bindings.{at_is, left_true, right_true, row_of_expressions, row_of_statements}
use Rattle.epl_values.specs.Variables.{names_in, is_found}
use Rattle.epl_values.specs.declared.variables.Owner.{Owner}
use Rattle.epl_values.specs.declared.variables.Owner.TheVariants as owner
use Rattle.epl_run.proofs.Counted.{same_position, place_in}
use Rattle.epl_run.specs.Blocks.{body_of}
use Rattle.epl_run.specs.Found.{each_in, each_change, AreOfBody}

-- ---- numbers of monitors and conditions
map_same : (ns : List Name) → map (λ n. n) ns ≡ ns
map_same [] = refl
map_same (n ∷ ns) = ap (λ l. n ∷ l) (map_same ns)

pub monitor_place : (p : Program) (body : Owner) (n : Name) (at : ℕ) → is_found p body monitor n ≡ true
    → binding_at p.bindings.items n.place ≡ Monitor at → place_of p.monitors.items n.text ≡ Some at
monitor_place p body n at h e =
    let names = names_in (type_tree p) body in
    at_is (place_of names.monitors n.text) at (sym (ap (is_right names monitor n.text) e) ∙ h)

pub monitor_within : (p : Program) (body : Owner) (n : Name) (at : ℕ) → is_found p body monitor n ≡ true
    → binding_at p.bindings.items n.place ≡ Monitor at → at < length p.monitors.items
monitor_within p body n at h e =
    place_in (λ (m : Name). m) p.monitors.items n.text at
    (ap (λ ns. place_of ns n.text) (map_same p.monitors.items) ∙ monitor_place p body n at h e)

pub monitor_at : (p : Program) (body : Owner) (n : Name) (at : ℕ) → is_found p body monitor n ≡ true
    → binding_at p.bindings.items n.place ≡ Monitor at → at + 1 ≡ meaning.monitor_number (type_tree p) n.text
monitor_at p body n at h e =
    sym (ap (λ o. with_item o (λ i. i + 1) 0)
    (position_from-zero (λ (m : Name). same_text m.text n.text) p.monitors.items ∙ monitor_place p body n at h e))

pub condition_place : (p : Program) (body : Owner) (n : Name) (at : ℕ) → is_found p body condition n ≡ true
    → binding_at p.bindings.items n.place ≡ Condition at → place_of (map (λ c. c.name) p.conditions.items) n.text ≡ Some at
condition_place p body n at h e =
    let names = names_in (type_tree p) body in
    at_is (place_of names.conditions n.text) at (sym (ap (is_right names condition n.text) e) ∙ h)

pub condition_within : (p : Program) (body : Owner) (n : Name) (at : ℕ) → is_found p body condition n ≡ true
    → binding_at p.bindings.items n.place ≡ Condition at → at < length p.conditions.items
condition_within p body n at h e = place_in (λ c. c.name) p.conditions.items n.text at (condition_place p body n at h e)

pub condition_at : (p : Program) (body : Owner) (n : Name) (at : ℕ) → is_found p body condition n ≡ true
    → binding_at p.bindings.items n.place ≡ Condition at → at ≡ meaning.condition_number (type_tree p) n.text
condition_at p body n at h e =
    sym (ap (λ o. with_item o (λ i. i) 0)
    (position_from-zero (λ c. same_text c.name.text n.text) p.conditions.items
    ∙ same_position (λ c. c.name) (λ m. same_text m.text n.text) p.conditions.items 0 ∙ condition_place p body n at h e))

-- ---- one of several
pub all_map : {X Y : Type 0} (f : X → Y) (test : Y → Bool) (xs : List X) → list_all (λ x. test (f x)) xs ≡ list_all test (map f xs)
all_map f test [] = refl
all_map f test (x ∷ xs) = ap (λ b. test (f x) && b) (all_map f test xs)

pub one_of : {X : Type 0} (test : X → Bool) (xs : List X) (i : ℕ) (x : X) → list_all test xs ≡ true → slice_get xs i ≡ Some x
    → test x ≡ true
one_of test [] i x h e = absurd cc
one_of test (y ∷ ys) zero x h e = let same : y ≡ x = cc in subst (λ z. test z ≡ true) same (left_true (test y) (list_all test ys) h)
one_of test (y ∷ ys) (suc i) x h e = one_of test ys i x (right_true (test y) (list_all test ys) h) e

pub there : {X : Type 0} (xs : List X) (i : ℕ) (x : X) → i < length xs → x ≡ get_or xs i x → slice_get xs i ≡ Some x
there [] i x h e = absurd (omega arith)
there (y ∷ ys) zero x h e = ap Some (sym e)
there (y ∷ ys) (suc i) x h e = there ys i x (omega arith) e

pub drop_get : {X : Type 0} (xs : List X) (i : ℕ) (d : X) → i < length xs → drop i xs ≡ get_or xs i d ∷ drop (i + 1) xs
drop_get [] i d h = absurd (omega arith)
drop_get (x ∷ xs) zero d h = refl
drop_get (x ∷ xs) (suc i) d h =
    let e : suc (i + 1) ≡ suc i + 1 = omega arith in
    drop_get xs i d (omega arith) ∙ ap (λ j. get_or xs i d ∷ drop j (x ∷ xs)) e

pub all_left : {X : Type 0} (test : X → Bool) (xs : List X) (i : ℕ) → list_all test xs ≡ true → list_all test (drop i xs) ≡ true
all_left test [] zero h = refl
all_left test [] (suc i) h = refl
all_left test (x ∷ xs) zero h = h
all_left test (x ∷ xs) (suc i) h = all_left test xs i (right_true (test x) (list_all test xs) h)

pub all_behind : {X : Type 0} (test : X → Bool) (xs : List X) (i : ℕ) → list_all test (drop i xs) ≡ true
    → list_all test (drop (i + 1) xs) ≡ true
all_behind test [] i h = none (i + 1)
  where
    none : (n : ℕ) → list_all test (drop n []) ≡ true
    none zero = refl
    none (suc n) = refl
all_behind test (x ∷ xs) zero h = right_true (test x) (list_all test xs) h
all_behind test (x ∷ xs) (suc i) h =
    let e : suc i + 1 ≡ suc (i + 1) = omega arith in
    ap (λ j. list_all test (drop j (x ∷ xs))) e ∙ all_behind test xs i h

-- ---- the statements in a statement
block_each : (test : Sort → Name → Bool) (ss : List Stmt) → each_of_block test (statements ss) ≡ true → each_in test ss ≡ true
block_each test ss h =
    all_map statement (each_of_statement test) ss ∙ sym (row_of_statements test (map statement ss)) ∙ h

module _ (test : Sort → Name → Bool) (s : Statement) (asked : Expression) (inside branch : List Stmt) (place : ℕ) where
  pub so_each : (otherwise : List Stmt) → s ≡ If asked (statements inside) (statements otherwise) place → branch ≡ inside
      → each_of_statement test s ≡ true → each_in test branch ≡ true
  so_each otherwise is same h =
      let so = each_of_expression test asked && each_of_block test (statements inside) in
      let both = left_true so (each_of_block test (statements otherwise)) (sym (ap (each_of_statement test) is) ∙ h) in
      ap (each_in test) same
      ∙ block_each test inside (right_true (each_of_expression test asked) (each_of_block test (statements inside)) both)

  pub otherwise_each : (so : List Stmt) → s ≡ If asked (statements so) (statements inside) place → branch ≡ inside
      → each_of_statement test s ≡ true → each_in test branch ≡ true
  otherwise_each so is same h =
      let both = each_of_expression test asked && each_of_block test (statements so) in
      ap (each_in test) same
      ∙ block_each test inside (right_true both (each_of_block test (statements inside)) (sym (ap (each_of_statement test) is) ∙ h))

  pub body_each : s ≡ While asked (statements inside) place → branch ≡ inside → each_of_statement test s ≡ true
      → each_in test branch ≡ true
  body_each is same h =
      ap (each_in test) same
      ∙ block_each test inside (right_true (each_of_expression test asked) (each_of_block test (statements inside))
      (sym (ap (each_of_statement test) is) ∙ h))

module _ (test : Sort → Name → Bool) (s : Statement) (name : Name) (inside : List Stmt) (place : ℕ)
    (is : s ≡ With name (statements inside) place) (h : each_of_statement test s ≡ true) where
  pub held_each : (branch : List Stmt) → branch ≡ inside → each_in test branch ≡ true
  held_each branch same =
      ap (each_in test) same
      ∙ block_each test inside (right_true (test monitor name) (each_of_block test (statements inside))
      (sym (ap (each_of_statement test) is) ∙ h))

  pub held_name : test monitor name ≡ true
  held_name = left_true (test monitor name) (each_of_block test (statements inside)) (sym (ap (each_of_statement test) is) ∙ h)

-- ---- expressions in a row
pub row_given : (test : Sort → Name → Bool) (es : List Expr) → list_all (each_of_expression test) (map expression es) ≡ true
    → each_of_expressions test (expressions es) ≡ true
row_given test es h = row_of_expressions test (map expression es) ∙ h

-- ---- the body of an operation or a process of a type that is resolved, and the assignments of an upgrade
module _ (bindings : List Binding) (t : TypeTree) where
  by_operation : (found : Option Operation) → ((o : Operation) → found ≡ Some o → operation_resolved bindings t o ≡ true)
      → list_all (each_of_statement (has_binding bindings
      (names_seen t (with_item found (λ o. o.params) []) (with_item found (λ o. o.locals) []))))
      (with_item found (λ o. o.body) []) ≡ true
  by_operation None h = refl
  by_operation (Some o) h = h o refl

  by_process : (found : Option Process) → ((q : Process) → found ≡ Some q → process_resolved bindings t q ≡ true)
      → list_all (each_of_statement (has_binding bindings (names_seen t [] (with_item found (λ q. q.locals) []))))
      (with_item found (λ q. q.body) []) ≡ true
  by_process None h = refl
  by_process (Some q) h = h q refl

pub body_found : (p : Program) → is_resolved p ≡ true → (body : Owner)
    → list_all (each_of_statement (is_found p body)) (body_of (type_tree p) body) ≡ true
unfolding is_resolved
body_found p h (owner.Operation at) =
    let t = type_tree p in
    let bindings = p.bindings.items in
    let operations = list_all (operation_resolved bindings t) t.operations in
    let processes = list_all (process_resolved bindings t) t.processes in
    let all = left_true operations processes (left_true (operations && processes) (list_all (upgrade_resolved bindings t) t.upgrades) h) in
    by_operation bindings t (slice_get t.operations at) (λ o e. one_of (operation_resolved bindings t) t.operations at o all e)
body_found p h (owner.Process at) =
    let t = type_tree p in
    let bindings = p.bindings.items in
    let operations = list_all (operation_resolved bindings t) t.operations in
    let processes = list_all (process_resolved bindings t) t.processes in
    let all = right_true operations processes (left_true (operations && processes) (list_all (upgrade_resolved bindings t) t.upgrades) h) in
    by_process bindings t (slice_get t.processes at) (λ q e. one_of (process_resolved bindings t) t.processes at q all e)
body_found p h (owner.Upgrade at) = refl
body_found p h owner.Nothing = refl

pub statements_found : (p : Program) (body : Owner) (ss : List Stmt) → map statement ss ≡ body_of (type_tree p) body → is_resolved p ≡ true
    → each_in (is_found p body) ss ≡ true
statements_found p body ss is h =
    all_map statement (each_of_statement (is_found p body)) ss ∙ ap (list_all (each_of_statement (is_found p body))) is
    ∙ body_found p h body

by_upgrade : (bindings : List Binding) (t : TypeTree) (found : Option Upgrade) (u : Upgrade)
    → found ≡ Some u → upgrade_resolved bindings t u ≡ true
    → each_change (has_binding bindings (names_seen t (with_item found (λ v. v.params) []) [])) u.changes ≡ true
by_upgrade bindings t None u e h = absurd cc
by_upgrade bindings t (Some v) u e h =
    let same : v ≡ u = cc in
    subst (λ w. each_change (has_binding bindings (names_seen t w.params [])) u.changes ≡ true) (sym same) h

pub changes_found : (p : Program) (at : ℕ) (u : Upgrade) → is_resolved p ≡ true → slice_get (type_tree p).upgrades at ≡ Some u
    → each_change (is_found p (owner.Upgrade at)) u.changes ≡ true
unfolding is_resolved
changes_found p at u h e =
    let t = type_tree p in
    let bindings = p.bindings.items in
    let bodies = list_all (operation_resolved bindings t) t.operations && list_all (process_resolved bindings t) t.processes in
    let all = right_true bodies (list_all (upgrade_resolved bindings t) t.upgrades) h in
    by_upgrade bindings t (slice_get t.upgrades at) u e (one_of (upgrade_resolved bindings t) t.upgrades at u all e)

-- the value of an assignment
pub value_of_change : (test : Sort → Name → Bool) (cs : List Assignment) (i : ℕ) (c : Assignment) → i < length cs → c ≡ get_or cs i c
    → each_change test (map change (drop i cs)) ≡ true → each_of_expression test (expression c.value) ≡ true
value_of_change test [] i c within at h = absurd (omega arith)
value_of_change test (x ∷ xs) zero c within at h =
    let value = each_of_expression test (expression x.value) in
    ap (λ y. each_of_expression test (expression y.value)) at
    ∙ right_true (test variable x.name) value (left_true (test variable x.name && value) (each_change test (map change xs)) h)
value_of_change test (x ∷ xs) (suc i) c within at h = value_of_change test xs i c (omega arith) at h

-- what is left to do of a body
pub of_body : (p : Program) (body : Owner) (ss : List Stmt) → map statement ss ≡ body_of (type_tree p) body → is_resolved p ≡ true
    → AreOfBody p ss
of_body p body ss is h = (body, statements_found p body ss is h)
