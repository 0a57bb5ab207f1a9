-- Names that are resolved.
use Rattle.std.proofs.Common.{◌≡◌, ℕ, Bool, true, false, List, [], ◌∷◌, Option, Some, None, refl, ap, ◌∙◌}
use Rattle.std.specs.Prelude.{◌&&◌}
use Rattle.std.specs.List.{list_all}
use Rattle.std.proofs.lemmas.Bool.Decides.{Decides-eqb}
use Rattle.epl_syntax.specs.declared.tree.Name.{Name}
use Rattle.epl_syntax.specs.declared.tree.Target.{Target}
use Rattle.epl_syntax.specs.declared.tree.Target.TheVariants as target
use Rattle.epl_syntax.specs.declared.tree.Program.{Program}
use Rattle.epl_syntax.specs.Tree.{Expression, Const_, Name_, Me, Unary, Binary, Index, ListOf, Apply, Expressions, no_expressions}
use Rattle.epl_syntax.specs.Tree.{expression_and, in_order, Statement, Assign, If, While, With, Wait, Signal, Yield, Deactivate, Checkpoint}
use Rattle.epl_syntax.specs.Tree.{Destroy, Create, Invoke, Return, Statements, no_statements, statement_and, block_of, TypeTree, type_tree}
use Rattle.epl_syntax.specs.Tree.{Operation, Process, Upgrade, UpgradeAssignment}
use Rattle.epl_syntax.specs.Bindings.{Sort, variable, monitor, condition, Names, is_at, has_binding, each_of_expression}
use Rattle.epl_syntax.specs.Bindings.{each_of_expressions}
use Rattle.epl_syntax.specs.Bindings.{each_of_target, each_of_statement, each_of_block, operation_resolved, process_resolved}
use Rattle.epl_syntax.specs.Bindings.{upgrade_resolved}
use Rattle.epl_syntax.specs.Bindings.{is_resolved, names_seen}

-- ---- both of two
pub left_true : (a b : Bool) → (a && b) ≡ true → a ≡ true
left_true true b h = refl
left_true false b h = absurd cc

pub right_true : (a b : Bool) → (a && b) ≡ true → b ≡ true
right_true true b h = h
right_true false b h = absurd cc

pub both_true : (a b : Bool) → a ≡ true → b ≡ true → (a && b) ≡ true
both_true true b h k = k
both_true false b h k = absurd cc

-- a place that is tested
pub at_is : (found : Option ℕ) (at : ℕ) → is_at found at ≡ true → found ≡ Some at
at_is None at h = absurd cc
at_is (Some i) at h = ap Some ((Decides-eqb i at).0 h)

-- ---- in a row
pub row_of_expressions : (test : Sort → Name → Bool) (es : List Expression)
    → each_of_expressions test (in_order es) ≡ list_all (each_of_expression test) es
row_of_expressions test [] = refl
row_of_expressions test (e ∷ es) = ap (λ b. each_of_expression test e && b) (row_of_expressions test es)

pub row_of_statements : (test : Sort → Name → Bool) (ss : List Statement)
    → each_of_block test (block_of ss) ≡ list_all (each_of_statement test) ss
row_of_statements test [] = refl
row_of_statements test (s ∷ ss) = ap (λ b. each_of_statement test s && b) (row_of_statements test ss)

-- ---- without a table each name is looked up
pub all_true : {X : Type 0} (test : X → Bool) (xs : List X) → ((x : X) → test x ≡ true) → list_all test xs ≡ true
all_true test [] h = refl
all_true test (x ∷ xs) h = both_true (test x) (list_all test xs) (h x) (all_true test xs h)

module _ (test : Sort → Name → Bool) (yes : (sort : Sort) (n : Name) → test sort n ≡ true) where
  mutual
    pub each_expression : (e : Expression) → each_of_expression test e ≡ true
    each_expression (Const_ value place) = refl
    each_expression (Name_ name) = yes variable name
    each_expression (Me place) = refl
    each_expression (Unary prefix of place) = each_expression of
    each_expression (Binary operator left right place) =
        both_true (each_of_expression test left) (each_of_expression test right) (each_expression left) (each_expression right)
    each_expression (Index of at place) =
        both_true (each_of_expression test of) (each_of_expression test at) (each_expression of) (each_expression at)
    each_expression (ListOf items place) = each_expressions items
    each_expression (Apply builtin args place) = each_expressions args

    pub each_expressions : (es : Expressions) → each_of_expressions test es ≡ true
    each_expressions no_expressions = refl
    each_expressions (expression_and e es) =
        both_true (each_of_expression test e) (each_of_expressions test es) (each_expression e) (each_expressions es)

  each_target : (t : Target) → each_of_target test t ≡ true
  each_target (target.Name name) = yes variable name
  each_target (target.Me place) = refl

  mutual
    pub each_statement : (s : Statement) → each_of_statement test s ≡ true
    each_statement (Assign name value) = both_true (test variable name) (each_of_expression test value) (yes variable name)
        (each_expression value)
    each_statement (If asked so otherwise place) =
        both_true (each_of_expression test asked && each_of_block test so) (each_of_block test otherwise)
        (both_true (each_of_expression test asked) (each_of_block test so) (each_expression asked) (each_block so))
        (each_block otherwise)
    each_statement (While asked body place) =
        both_true (each_of_expression test asked) (each_of_block test body) (each_expression asked) (each_block body)
    each_statement (With name body place) =
        both_true (test monitor name) (each_of_block test body) (yes monitor name) (each_block body)
    each_statement (Wait name place) = yes condition name
    each_statement (Signal name place) = yes condition name
    each_statement (Yield place) = refl
    each_statement (Deactivate place) = refl
    each_statement (Checkpoint status place) = yes variable status
    each_statement (Destroy status place) = yes variable status
    each_statement (Create type_name status gives place) =
        both_true (test variable status) (test variable gives) (yes variable status) (yes variable gives)
    each_statement (Invoke to operation args status gives place) =
        let sent = each_of_target test to && list_all (each_of_expression test) args in
        both_true (sent && test variable status) (list_all (test variable) gives)
        (both_true sent (test variable status)
        (both_true (each_of_target test to) (list_all (each_of_expression test) args) (each_target to)
        (all_true (each_of_expression test) args each_expression))
        (yes variable status))
        (all_true (test variable) gives (yes variable))
    each_statement (Return results place) = all_true (each_of_expression test) results each_expression

    pub each_block : (ss : Statements) → each_of_block test ss ≡ true
    each_block no_statements = refl
    each_block (statement_and s ss) =
        both_true (each_of_statement test s) (each_of_block test ss) (each_statement s) (each_block ss)

-- a name without a table
pub by_name : (names : Names) (sort : Sort) (n : Name) → has_binding [] names sort n ≡ true
by_name names variable n = refl
by_name names monitor n = refl
by_name names condition n = refl

-- a type without a table is resolved
pub without_table : (p : Program) → p.bindings.items ≡ [] → is_resolved p ≡ true
unfolding is_resolved
without_table p none =
    let t = type_tree p in
    ap (λ bindings. list_all (operation_resolved bindings t) t.operations && list_all (process_resolved bindings t) t.processes
    && list_all (upgrade_resolved bindings t) t.upgrades) none
    ∙ both_true (list_all (operation_resolved [] t) t.operations && list_all (process_resolved [] t) t.processes)
    (list_all (upgrade_resolved [] t) t.upgrades)
    (both_true (list_all (operation_resolved [] t) t.operations) (list_all (process_resolved [] t) t.processes)
    (all_true (operation_resolved [] t) t.operations (of_operation t)) (all_true (process_resolved [] t) t.processes (of_process t)))
    (all_true (upgrade_resolved [] t) t.upgrades (of_upgrade t))
  where
    of_operation : (t : TypeTree) (o : Operation) → operation_resolved [] t o ≡ true
    of_operation t o =
        let names = names_seen t o.params o.locals in
        all_true (each_of_statement (has_binding [] names)) o.body (each_statement (has_binding [] names) (by_name names))

    of_process : (t : TypeTree) (q : Process) → process_resolved [] t q ≡ true
    of_process t q =
        let names = names_seen t [] q.locals in
        all_true (each_of_statement (has_binding [] names)) q.body (each_statement (has_binding [] names) (by_name names))

    of_upgrade : (t : TypeTree) (u : Upgrade) → upgrade_resolved [] t u ≡ true
    of_upgrade t u =
        let test = has_binding [] (names_seen t u.params []) in
        all_true (λ (c : UpgradeAssignment). test variable c.name && each_of_expression test c.value) u.changes
        (λ c. both_true (test variable c.name) (each_of_expression test c.value) (by_name (names_seen t u.params []) variable c.name)
        (each_expression test (by_name (names_seen t u.params [])) c.value))
