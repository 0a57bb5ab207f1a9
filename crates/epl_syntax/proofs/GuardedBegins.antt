-- Operations and declared processes of a type that keeps the rules begin guarded.
use Rattle.std.proofs.Common.{◌≡◌, ℕ, Bool, true, false, cond, List, [], ◌∷◌, ◌++◌, map, Option, None, Some, refl, ap, subst}
use Rattle.std.specs.Prelude.{IfSome, find, flat_map}
use Rattle.std.specs.List.{AllByRecursion}
use Rattle.eden_value.specs.Datum.{Datum}
use Rattle.eden_model.specs.Map.{with_item, same_text}
use Rattle.epl_syntax.specs.declared.rule.Broken.{Broken}
use Rattle.epl_syntax.specs.declared.tree.Name.{Name}
use Rattle.epl_syntax.specs.Tree.{TypeTree, Operation, Process, Statement, block_of}
use Rattle.epl_syntax.specs.Rules.Scopes.{Scope, doubled, as_variables}
use Rattle.epl_syntax.specs.Rules.InStatements.{broken_block}
use Rattle.epl_syntax.specs.Rules.InItems.{names_of_vars, names_of_classes, names_of_params, names_of_locals, places_of, too_many}
use Rattle.epl_syntax.specs.Rules.InItems.{broken_names, scope_in, broken_version, broken_counts, broken_small_names, broken_great_names}
use Rattle.epl_syntax.specs.Rules.InItems.{broken_numbers, broken_var, broken_class, broken_head, broken_declared, broken_local}
use Rattle.epl_syntax.specs.Rules.InItems.{broken_operation, broken_process, broken_upgrade, broken_program}
use Rattle.epl_syntax.specs.Statements.{does, steps}
use Rattle.epl_syntax.specs.Turns.{left_of, nothing_left, process_left}
use Rattle.epl_syntax.specs.Monitors.{IsGuardedOf, OperationsBeginGuarded, ProcessesBeginGuarded}
use Rattle.epl_syntax.proofs.GuardedRules.{front_empty, back_empty}
use Rattle.epl_syntax.proofs.GuardedSteps.{AreKept, at_itself, block_kept}

-- ---- what is empty of a list of parts
found_empty : {X : Type 0} (test : X → Bool) (f : X → List Broken) (xs : List X) → flat_map f xs ≡ []
    → IfSome (find test xs) (λ x. f x ≡ [])
found_empty test f [] h = tt
found_empty test f (x ∷ xs) h = go (test x) (found_empty test f xs (back_empty (f x) (flat_map f xs) h))
  where
    go : (b : Bool) → IfSome (find test xs) (λ x. f x ≡ []) → IfSome (cond b (Some x) (find test xs)) (λ x. f x ≡ [])
    go true k = front_empty (f x) (flat_map f xs) h
    go false k = k

-- the rules of the operations and of the processes of a type
pub record KeepItems (earlier : List (List ℕ)) (t : TypeTree) : Type 0 where
  pub operations : flat_map (broken_operation t (t.name.text ∷ earlier)) t.operations ≡ []
  pub processes : flat_map (broken_process t (t.name.text ∷ earlier)) t.processes ≡ []

items_kept : (earlier : List (List ℕ)) (t : TypeTree) → broken_program earlier t ≡ [] → KeepItems earlier t
unfolding broken_program
items_kept earlier t h =
    let operations = flat_map (broken_operation t (t.name.text ∷ earlier)) t.operations in
    let processes = flat_map (broken_process t (t.name.text ∷ earlier)) t.processes in
    let upgrades = flat_map (broken_upgrade t (t.name.text ∷ earlier)) t.upgrades in
    let before = broken_version t.version ++ broken_counts t ++ broken_small_names t ++ broken_great_names t ++ broken_numbers t
    ++ flat_map broken_var t.vars ++ flat_map broken_class t.classes in
    let so_far : before ++ operations ++ processes ≡ [] = front_empty (before ++ operations ++ processes) upgrades h in
    record {
      operations = back_empty before operations (front_empty (before ++ operations) processes so_far);
      processes = back_empty (before ++ operations) processes so_far;
    }

-- ---- bodies
steps_of : (body : List Statement) → steps (block_of body) ++ [] ≡ map does body
steps_of [] = refl
steps_of (s ∷ ss) = ap (λ l. does s ∷ l) (steps_of ss)

body_kept : (scope : Scope) (body : List Statement) → broken_block scope None (block_of body) ≡ [] → AreKept scope None (map does body)
body_kept scope body h =
    subst (AreKept scope None) (steps_of body)
    (block_kept scope None (block_of body) [] h (record { rules = refl; within = tt; once = tt; at = refl }))

names_apart : (vars names : List Name) → broken_names vars names ≡ [] → as_variables vars names ≡ []
names_apart vars names h = back_empty (doubled names) (as_variables vars names) h

operation_guarded : (earlier : List (List ℕ)) (t : TypeTree) (o : Operation) (args : List Datum)
    → broken_operation t (t.name.text ∷ earlier) o ≡ []
    → IsGuardedOf earlier t (left_of o args)
operation_guarded earlier t o args h =
    let scope : Scope = scope_in t (t.name.text ∷ earlier) o.params o.locals (Some o.results) in
    let first = broken_head (names_of_classes t.classes) o in
    let second = broken_names (names_of_vars t.vars) (names_of_params o.params ++ names_of_locals o.locals) in
    let third = broken_declared o in
    let fourth = broken_block scope None (block_of o.body) in
    let before : first ++ second ++ third ≡ [] = front_empty (first ++ second ++ third) fourth h in
    let names : second ≡ [] = back_empty first second (front_empty (first ++ second) third before) in
    let body : AreKept scope None (map does o.body) = body_kept scope o.body (back_empty (first ++ second ++ third) fourth h) in
    record {
      scope = scope;
      is_scope = record {
        vars = refl;
        monitors = refl;
        conditions = refl;
        types = refl;
        results = refl;
        apart = names_apart (names_of_vars t.vars) (names_of_params o.params ++ names_of_locals o.locals) names;
      };
      guarded = record {
        keeps_rules = body.rules;
        within = (at_itself scope None (map does o.body) body).within;
        once = body.once;
        awaits = refl;
      };
    }

process_guarded : (earlier : List (List ℕ)) (t : TypeTree) (p : Process) → broken_process t (t.name.text ∷ earlier) p ≡ []
    → IsGuardedOf earlier t (process_left p)
process_guarded earlier t p h =
    let scope : Scope = scope_in t (t.name.text ∷ earlier) [] p.locals None in
    let first = too_many 32 (places_of (names_of_locals p.locals)) in
    let second = broken_names (names_of_vars t.vars) (names_of_locals p.locals) in
    let third = flat_map broken_local p.locals in
    let fourth = broken_block scope None (block_of p.body) in
    let before : first ++ second ++ third ≡ [] = front_empty (first ++ second ++ third) fourth h in
    let names : second ≡ [] = back_empty first second (front_empty (first ++ second) third before) in
    let body : AreKept scope None (map does p.body) = body_kept scope p.body (back_empty (first ++ second ++ third) fourth h) in
    record {
      scope = scope;
      is_scope = record {
        vars = refl;
        monitors = refl;
        conditions = refl;
        types = refl;
        results = refl;
        apart = names_apart (names_of_vars t.vars) (names_of_locals p.locals) names;
      };
      guarded = record {
        keeps_rules = body.rules;
        within = (at_itself scope None (map does p.body) body).within;
        once = body.once;
        awaits = refl;
      };
    }

-- where there is nothing to do, nothing breaks a rule
nothing_guarded : (earlier : List (List ℕ)) (t : TypeTree) → IsGuardedOf earlier t nothing_left
nothing_guarded earlier t = record {
  scope = scope_in t (t.name.text ∷ earlier) [] [] None;
  is_scope = record { vars = refl; monitors = refl; conditions = refl; types = refl; results = refl; apart = refl };
  guarded = record { keeps_rules = refl; within = tt; once = tt; awaits = refl };
}

pub operations_begin_guarded : OperationsBeginGuarded
operations_begin_guarded earlier t name args h =
    go (find (λ o. same_text o.name.text name) t.operations)
    (found_empty (λ o. same_text o.name.text name) (broken_operation t (t.name.text ∷ earlier)) t.operations
    (items_kept earlier t h).operations)
  where
    go : (o : Option Operation) → IfSome o (λ o. broken_operation t (t.name.text ∷ earlier) o ≡ [])
        → IsGuardedOf earlier t (with_item o (λ o. left_of o args) nothing_left)
    go None k = nothing_guarded earlier t
    go (Some o) k = operation_guarded earlier t o args k

each_guarded : (earlier : List (List ℕ)) (t : TypeTree) (ps : List Process) → flat_map (broken_process t (t.name.text ∷ earlier)) ps ≡ []
    → AllByRecursion (λ p. IsGuardedOf earlier t (process_left p)) ps
each_guarded earlier t [] h = tt
each_guarded earlier t (p ∷ ps) h =
    let this = broken_process t (t.name.text ∷ earlier) p in
    let others = flat_map (broken_process t (t.name.text ∷ earlier)) ps in
    (process_guarded earlier t p (front_empty this others h), each_guarded earlier t ps (back_empty this others h))

pub processes_begin_guarded : ProcessesBeginGuarded
processes_begin_guarded earlier t h = each_guarded earlier t t.processes (items_kept earlier t h).processes
