-- What the rules say of a name, a monitor and a condition, where none is broken.
use Rattle.std.proofs.Common.{◌≡◌, ℕ, zero, suc, ◌+◌, ◌<◌, ◌≤◌, Bool, true, false, cond, not, nat_lt, List, [], ◌∷◌, ◌++◌, map, length}
use Rattle.std.proofs.Common.{slice_get, Option, None, Some, option_map, refl, ap, sym, ◌∙◌, subst, arith, ltb-true, ltb-false, eqb-true}
use Rattle.std.specs.Prelude.{IfSome, find, position}
use Rattle.std.specs.List.{list_all, list_any, position_from, position_or_len}
use Rattle.std.proofs.lemmas.Bool.{not-false, and_from, cond_both}
use Rattle.std.proofs.lemmas.Iterator.Adapters.{position_from-zero}
use Rattle.std.proofs.lemmas.List.Folds.{find_at}
use Rattle.eden_model.specs.Map.{with_item, same_text}
use Rattle.epl_syntax.specs.declared.rule.Rule.{Rule}
use Rattle.epl_syntax.specs.declared.tree.Name.{Name}
use Rattle.epl_syntax.specs.declared.tree.CondDecl.{CondDecl}
use Rattle.epl_syntax.specs.Rules.First.{broken_if}
use Rattle.epl_syntax.specs.Rules.Scopes.{Scope, Seen, variable_named, number_in, monitor_named, monitor_of_condition, condition_named}
use Rattle.epl_syntax.specs.Rules.Scopes.{is_type}
use Rattle.epl_syntax.specs.Rules.InExpressions.{stands_in, is_guarded, broken_use_of, broken_use}
use Rattle.epl_syntax.specs.Rules.InStatements.{broken_uses, broken_type, broken_condition_of, broken_condition, unknown_if_none}
use Rattle.epl_syntax.specs.Rules.InStatements.{number_or_none}
use Rattle.epl_syntax.specs.Tree.{TypeTree}
use Rattle.epl_syntax.specs.Statements.{monitor_number, condition_number}
use Rattle.epl_syntax.specs.Monitors.{may_set, monitor_of}

pub front_empty : {A : Type 0} (xs ys : List A) → xs ++ ys ≡ [] → xs ≡ []
front_empty [] ys h = refl
front_empty (x ∷ xs) ys h = absurd cc

pub back_empty : {A : Type 0} (xs ys : List A) → xs ++ ys ≡ [] → ys ≡ []
back_empty [] ys h = h
back_empty (x ∷ xs) ys h = absurd cc

pub both_empty : {A : Type 0} (xs ys : List A) → xs ≡ [] → ys ≡ [] → xs ++ ys ≡ []
both_empty xs ys h k = ap (λ l. l ++ ys) h ∙ k

pub not_broken : (b : Bool) (rule : Rule) (place : ℕ) → broken_if b rule place ≡ [] → b ≡ false
not_broken true rule place h = absurd cc
not_broken false rule place h = refl

-- ---- names of variables
pub use_guarded : (scope : Scope) (held : Option ℕ) (name : Name) → broken_use scope held name ≡ [] → may_set scope held name.text ≡ true
use_guarded scope held name h = go (variable_named scope name.text) h
  where
    go : (o : Option Seen) → broken_use_of held o name.place ≡ [] → with_item o (λ v. is_guarded held v.monitor) false ≡ true
    go None k = absurd cc
    go (Some v) k = not-false (is_guarded held v.monitor) (not_broken (not (is_guarded held v.monitor)) _ name.place k)

pub uses_guarded : (scope : Scope) (held : Option ℕ) (names : List Name) → broken_uses scope held names ≡ []
    → list_all (may_set scope held) (map (λ n. n.text) names) ≡ true
uses_guarded scope held [] h = refl
uses_guarded scope held (n ∷ ns) h =
    let this = broken_use scope held n in
    and_from (may_set scope held n.text) (list_all (may_set scope held) (map (λ n. n.text) ns))
    (use_guarded scope held n (front_empty this (broken_uses scope held ns) h))
    (uses_guarded scope held ns (back_empty this (broken_uses scope held ns) h))

-- ---- places in a list
position_below : {A : Type 0} (test : A → Bool) (xs : List A) → IfSome (position test xs) (λ i. i < length xs)
position_below test xs = cond_both (nat_lt (position_or_len test xs) (length xs)) (Some (position_or_len test xs)) None
    (λ o. IfSome o (λ i. i < length xs))
    (λ e. ltb-true (position_or_len test xs) (length xs) e) (λ e. tt)

none_past : {A : Type 0} (xs : List A) (i : ℕ) → length xs ≤ i → slice_get xs i ≡ None
none_past [] i h = refl
none_past (x ∷ xs) zero h = absurd (omega arith)
none_past (x ∷ xs) (suc i) h = none_past xs i (omega arith)

-- ---- monitors: the rules count them as the steps do
numbers_from : (ms : List Name) (text : List ℕ) (i : ℕ)
    → number_in ms text i ≡ option_map (λ k. k + 1) (position_from (λ m. same_text m.text text) i ms)
numbers_from [] text i = refl
numbers_from (m ∷ ms) text i = go (same_text m.text text) (numbers_from ms text (i + 1))
  where
    go : (b : Bool) → number_in ms text (i + 1) ≡ option_map (λ k. k + 1) (position_from (λ m. same_text m.text text) (i + 1) ms)
        → cond b (Some (i + 1)) (number_in ms text (i + 1))
        ≡ option_map (λ k. k + 1) (cond b (Some i) (position_from (λ m. same_text m.text text) (i + 1) ms))
    go true h = refl
    go false h = h

monitor_at : (scope : Scope) (t : TypeTree) (text : List ℕ) → scope.monitors ≡ t.monitors
    → monitor_named scope text ≡ option_map (λ k. k + 1) (position (λ m. same_text m.text text) t.monitors)
unfolding monitor_named
monitor_at scope t text e =
    numbers_from scope.monitors text 0 ∙ ap (λ ms. option_map (λ k. k + 1) (position_from (λ m. same_text m.text text) 0 ms)) e
    ∙ ap (option_map (λ k. k + 1)) (sym (position_from-zero (λ m. same_text m.text text) t.monitors))

-- the monitor that a `with` names
pub record NamesMonitor (scope : Scope) (t : TypeTree) (text : List ℕ) : Type 0 where
  pub number : number_or_none (monitor_named scope text) ≡ monitor_number t text
  pub least : 1 ≤ monitor_number t text
  pub greatest : monitor_number t text ≤ length t.monitors

pub names_monitor : (scope : Scope) (t : TypeTree) (text : List ℕ) (place : ℕ) → scope.monitors ≡ t.monitors
    → unknown_if_none (monitor_named scope text) place ≡ [] → NamesMonitor scope t text
names_monitor scope t text place e h =
    go (position (λ m. same_text m.text text) t.monitors) (position_below (λ m. same_text m.text text) t.monitors)
    (ap (λ o. unknown_if_none o place) (sym (monitor_at scope t text e)) ∙ h) (ap number_or_none (monitor_at scope t text e)) refl
  where
    go : (o : Option ℕ) → IfSome o (λ i. i < length t.monitors) → unknown_if_none (option_map (λ k. k + 1) o) place ≡ []
        → number_or_none (monitor_named scope text) ≡ number_or_none (option_map (λ k. k + 1) o)
        → monitor_number t text ≡ with_item o (λ i. i + 1) 0
        → NamesMonitor scope t text
    go None below k is number = absurd cc
    go (Some i) below k is number = record {
      number = is ∙ sym number;
      least = subst (λ n. 1 ≤ n) (sym number) (omega arith);
      greatest = subst (λ n. n ≤ length t.monitors) (sym number) (omega arith);
    }

-- ---- conditions
conditions_found : (cs : List CondDecl) (text : List ℕ)
    → monitor_of_condition cs text ≡ option_map (λ c. c.monitor) (find (λ c. same_text c.name.text text) cs)
conditions_found [] text = refl
conditions_found (c ∷ cs) text = go (same_text c.name.text text) (conditions_found cs text)
  where
    go : (b : Bool) → monitor_of_condition cs text ≡ option_map (λ c. c.monitor) (find (λ c. same_text c.name.text text) cs)
        → cond b (Some c.monitor) (monitor_of_condition cs text)
        ≡ option_map (λ c. c.monitor) (cond b (Some c) (find (λ c. same_text c.name.text text) cs))
    go true h = refl
    go false h = h

-- the condition that a `wait` or a `signal` names, inside of its monitor
pub record NamesCondition (held : Option ℕ) (t : TypeTree) (text : List ℕ) : Type 0 where
  pub inside : held ≡ Some (monitor_of t (condition_number t text))
  pub below : condition_number t text < length t.conditions

stands_there : (held : Option ℕ) (monitor : ℕ) → stands_in held monitor ≡ true → held ≡ Some monitor
stands_there None monitor h = absurd cc
stands_there (Some h) monitor e = ap Some (eqb-true h monitor e)

condition_place : (test : CondDecl → Bool) (cs : List CondDecl) (c : CondDecl) → find test cs ≡ Some c
    → (slice_get cs (with_item (position test cs) (λ i. i) 0) ≡ Some c) × (with_item (position test cs) (λ i. i) 0 < length cs)
condition_place test cs c h = cond_both (nat_lt (position_or_len test cs) (length cs)) (Some (position_or_len test cs)) None
    (λ o. (slice_get cs (with_item o (λ i. i) 0) ≡ Some c) × (with_item o (λ i. i) 0 < length cs))
    (λ e. (sym (find_at test cs) ∙ h, ltb-true (position_or_len test cs) (length cs) e))
    (λ e. let is : slice_get cs (position_or_len test cs) ≡ Some c = sym (find_at test cs) ∙ h in
    let none : slice_get cs (position_or_len test cs) ≡ None = none_past cs (position_or_len test cs)
    (ltb-false (position_or_len test cs) (length cs) e) in
    absurd cc)

condition_at : (scope : Scope) (t : TypeTree) (text : List ℕ) → scope.conditions ≡ t.conditions
    → condition_named scope text ≡ option_map (λ c. c.monitor) (find (λ c. same_text c.name.text text) t.conditions)
unfolding condition_named
condition_at scope t text e = ap (λ cs. monitor_of_condition cs text) e ∙ conditions_found t.conditions text

pub names_condition : (scope : Scope) (t : TypeTree) (held : Option ℕ) (name : Name) (place : ℕ) → scope.conditions ≡ t.conditions
    → broken_condition scope held name place ≡ [] → NamesCondition held t name.text
names_condition scope t held name place e h =
    go (find (λ c. same_text c.name.text name.text) t.conditions) refl
    (ap (λ o. broken_condition_of held o name.place place) (sym (condition_at scope t name.text e)) ∙ h)
  where
    go : (o : Option CondDecl) → find (λ c. same_text c.name.text name.text) t.conditions ≡ o
        → broken_condition_of held (option_map (λ c. c.monitor) o) name.place place ≡ [] → NamesCondition held t name.text
    go None is k = absurd cc
    go (Some c) is k =
        let there = condition_place (λ c. same_text c.name.text name.text) t.conditions c is in
        let stands : held ≡ Some c.monitor = stands_there held c.monitor
        (not-false (stands_in held c.monitor) (not_broken (not (stands_in held c.monitor)) _ place k)) in
        record {
          inside = stands ∙ ap (λ o. Some (with_item o (λ it. it.monitor) 0)) (sym there.0);
          below = there.1;
        }

-- ---- types
pub names_type : (scope : Scope) (name : Name) → broken_type scope name ≡ [] → list_any (λ t. same_text t name.text) scope.types ≡ true
unfolding is_type
names_type scope name h = not-false (is_type scope name.text) (not_broken (not (is_type scope name.text)) _ name.place h)
