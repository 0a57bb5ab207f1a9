-- A turn of a process of a declared type leaves a guarded rest guarded, and its effect is one that may be and moves the process as told.
use Rattle.std.proofs.Common.{◌≡◌, ℕ, zero, suc, Bool, true, false, cond, List, [], ◌∷◌, ◌++◌, map, length, Option, None, Some, is_some}
use Rattle.std.proofs.Common.{Result, Ok, Err, refl, sym, ◌∙◌, subst}
use Rattle.std.specs.Prelude.{IfSome}
use Rattle.std.specs.List.{list_all, list_any}
use Rattle.std.proofs.lemmas.Bool.{and_from, cond_both}
use Rattle.capability.specs.declared.Cap.{Cap}
use Rattle.eden_model.specs.Map.{same_text}
use Rattle.eden_value.specs.Datum.{Datum, truth}
use Rattle.eden_value.specs.Shape.{Shape, ints, truths, caps}
use Rattle.epl_syntax.specs.declared.effect.Effect.{Effect}
use Rattle.epl_syntax.specs.declared.effect.Effect.TheVariants as effect
use Rattle.epl_syntax.specs.declared.effect.FaultCause.{FaultCause}
use Rattle.epl_syntax.specs.declared.effect.FaultCause.TheVariants.{NoReturn, Budget}
use Rattle.epl_syntax.specs.declared.tree.Name.{Name}
use Rattle.epl_syntax.specs.Rules.Scopes.{Scope, monitor_named}
use Rattle.epl_syntax.specs.Rules.KindsOf.{kind_named}
use Rattle.epl_syntax.specs.Rules.InExpressions.{misfit, broken_use}
use Rattle.epl_syntax.specs.Rules.First.{broken_if}
use Rattle.epl_syntax.specs.declared.rule.Rule.TheVariants.{Nested}
use Rattle.epl_syntax.specs.Rules.InStatements.{broken_as, broken_variable, broken_target, broken_expressions, broken_uses, broken_type}
use Rattle.epl_syntax.specs.Rules.InStatements.{broken_with, unknown_if_none, held_in, misreturned, broken_values, wanted_of}
use Rattle.epl_syntax.specs.Rules.InStatements.{broken_statement, broken_block}
use Rattle.epl_syntax.specs.Tree.{TypeTree, PlacedShape, Statement, Assign, If, While, With, Wait, Signal, Yield, Deactivate, Checkpoint}
use Rattle.epl_syntax.specs.Tree.{Destroy, Create, Invoke, Return, Statements, no_statements, statement_and, in_order}
use Rattle.epl_syntax.specs.Memory.{Held, Memory, set}
use Rattle.epl_syntax.specs.Expressions.{value_of, values_of}
use Rattle.epl_syntax.specs.Statements.{Step, does, leaves, steps, Awaited, no_answer, a_reply, Came, goes_on, ends, ends_in, faults}
use Rattle.epl_syntax.specs.Statements.{with_found, tested, target_of, monitor_number, condition_number, came_of}
use Rattle.epl_syntax.specs.Turns.{Left, told, onward, run, budget, seen_by, came_to, as_turn}
use Rattle.epl_syntax.specs.Monitors.{IsNumberIn, monitor_of, inside, broken_steps, LeavesOnce, awaited_names, may_set, IsGuarded}
use Rattle.epl_syntax.specs.Monitors.{IsScopeOf, Moves, IsAllowed, StaysGuarded, TurnStaysGuarded}
use Rattle.epl_syntax.proofs.Owned.{either}
use Rattle.epl_syntax.proofs.GuardedRules.{front_empty, back_empty, both_empty, not_broken, use_guarded, uses_guarded, NamesMonitor}
use Rattle.epl_syntax.proofs.GuardedRules.{names_monitor, NamesCondition, names_condition, names_type}

-- ---- the statements of a block before other steps
pub inside_block : (ss : Statements) (rest : List Step) → inside (steps ss ++ rest) ≡ inside rest
inside_block no_statements rest = refl
inside_block (statement_and s ss) rest = inside_block ss rest

once_block : (ss : Statements) (rest : List Step) → LeavesOnce rest → LeavesOnce (steps ss ++ rest)
once_block no_statements rest h = h
once_block (statement_and s ss) rest h = once_block ss rest h

block_keeps : (scope : Scope) (ss : Statements) (rest : List Step) → broken_block scope (inside rest) ss ≡ [] → broken_steps scope rest ≡ []
    → broken_steps scope (steps ss ++ rest) ≡ []
block_keeps scope no_statements rest h k = k
block_keeps scope (statement_and s ss) rest h k =
    let this = broken_statement scope (inside rest) s in
    let others = broken_block scope (inside rest) ss in
    both_empty (broken_statement scope (inside (steps ss ++ rest)) s) (broken_steps scope (steps ss ++ rest))
    (subst (λ held. broken_statement scope held s ≡ []) (sym (inside_block ss rest)) (front_empty this others h))
    (block_keeps scope ss rest (back_empty this others h) k)

-- steps that keep the rules, inside of this monitor
pub record AreKept (scope : Scope) (held : Option ℕ) (rest : List Step) : Type 0 where
  pub rules : broken_steps scope rest ≡ []
  pub within : IfSome held (IsNumberIn scope.monitors)
  pub once : LeavesOnce rest
  pub at : inside rest ≡ held

pub block_kept : (scope : Scope) (held : Option ℕ) (ss : Statements) (rest : List Step) → broken_block scope held ss ≡ []
    → AreKept scope held rest
    → AreKept scope held (steps ss ++ rest)
block_kept scope held ss rest h k = record {
  rules = block_keeps scope ss rest (subst (λ o. broken_block scope o ss ≡ []) (sym k.at) h) k.rules;
  within = k.within;
  once = once_block ss rest k.once;
  at = inside_block ss rest ∙ k.at;
}

-- and of where they are inside themselves
pub at_itself : (scope : Scope) (held : Option ℕ) (rest : List Step) → AreKept scope held rest → AreKept scope (inside rest) rest
at_itself scope held rest h = record {
  rules = h.rules;
  within = subst (λ o. IfSome o (IsNumberIn scope.monitors)) (sym h.at) h.within;
  once = h.once;
  at = refl;
}

-- ---- what a step comes to
-- an effect that may be, before steps that are kept
pub record Ends (scope : Scope) (earlier : List (List ℕ)) (t : TypeTree) (returns : Bool) (held : Option ℕ) (e : Effect)
    (awaits : Awaited) (rest : List Step) : Type 0 where
  pub rules : broken_steps scope rest ≡ []
  pub within : IfSome (inside rest) (IsNumberIn scope.monitors)
  pub once : LeavesOnce rest
  pub awaited : list_all (may_set scope (inside rest)) (awaited_names awaits) ≡ true
  pub moves : Moves t held e (inside rest)
  pub allowed : IsAllowed earlier t returns e

abbrev pub CameKept : Scope → List (List ℕ) → TypeTree → Bool → Option ℕ → Came → Type 0
CameKept scope earlier t returns held (goes_on m rest) = AreKept scope held rest
CameKept scope earlier t returns held (ends e m awaits rest) = Ends scope earlier t returns held e awaits rest

pub faults_kept : (scope : Scope) (earlier : List (List ℕ)) (t : TypeTree) (returns : Bool) (held : Option ℕ) (m : Memory)
    (cause : FaultCause)
    → CameKept scope earlier t returns held (faults m cause)
faults_kept scope earlier t returns held m cause = record { rules = refl; within = tt; once = tt; awaited = refl; moves = tt; allowed = tt }

found_kept : {X : Type 0} (scope : Scope) (earlier : List (List ℕ)) (t : TypeTree) (returns : Bool) (held : Option ℕ) (m : Memory)
    (r : Result X FaultCause) (f : X → Came) → ((x : X) → CameKept scope earlier t returns held (f x))
    → CameKept scope earlier t returns held (with_found m r f)
found_kept scope earlier t returns held m (Ok x) f h = h x
found_kept scope earlier t returns held m (Err cause) f h = faults_kept scope earlier t returns held m cause

tested_kept : (scope : Scope) (earlier : List (List ℕ)) (t : TypeTree) (returns : Bool) (held : Option ℕ) (m : Memory) (d : Datum)
    (so otherwise : List Step)
    → AreKept scope held so → AreKept scope held otherwise → CameKept scope earlier t returns held (tested m d so otherwise)
tested_kept scope earlier t returns held m (truth b) so otherwise h k = either (AreKept scope held) b so otherwise h k
tested_kept scope earlier t returns held m _ so otherwise h k = faults_kept scope earlier t returns held m _

-- ---- what statements that break no rule say
variable_kept : (scope : Scope) (wanted : Shape) (held : Option ℕ) (name : Name) → broken_variable wanted scope held name ≡ []
    → may_set scope held name.text ≡ true
variable_kept scope wanted held name h = use_guarded scope held name
    (front_empty (broken_use scope held name) (misfit wanted (kind_named scope name.text) name.place) h)

no_monitor : (held : Option ℕ) → is_some held ≡ false → held ≡ None
no_monitor None h = refl
no_monitor (Some k) h = absurd cc

returned : (o : Option (List PlacedShape)) (n place : ℕ) → misreturned o n place ≡ [] → is_some o ≡ true
returned None n place h = absurd cc
returned (Some wanted) n place h = refl

-- the steps of a `with` are inside of its monitor
with_kept : (scope : Scope) (earlier : List (List ℕ)) (t : TypeTree) (returns : Bool) (monitor : Name) (body : Statements) (place : ℕ)
    (m : Memory) (rest : List Step)
    → scope.monitors ≡ t.monitors → broken_statement scope (inside rest) (With monitor body place) ≡ [] → broken_steps scope rest ≡ []
    → CameKept scope earlier t returns (inside rest) (came_of t m (does (With monitor body place)) rest)
with_kept scope earlier t returns monitor body place m rest e h k =
    let n : ℕ = monitor_number t monitor.text in
    let head = broken_with scope (inside rest) monitor place in
    let nested = broken_if (is_some (inside rest)) Nested place in
    let unknown = unknown_if_none (monitor_named scope monitor.text) monitor.place in
    let in_head : head ≡ [] = front_empty head (broken_block scope (held_in scope monitor) body) h in
    let in_body : broken_block scope (held_in scope monitor) body ≡ [] = back_empty head
    (broken_block scope (held_in scope monitor) body) h in
    let outside : inside rest ≡ None = no_monitor (inside rest)
    (not_broken (is_some (inside rest)) Nested place (front_empty nested unknown in_head)) in
    let named : NamesMonitor scope t monitor.text = names_monitor scope t monitor.text monitor.place e
    (back_empty nested unknown in_head) in
    let number : IsNumberIn scope.monitors n = subst (λ ms. IsNumberIn ms n) (sym e) (named.least, named.greatest) in
    let left : AreKept scope (Some n) (leaves n ∷ rest) = record { rules = k; within = number; once = outside; at = refl } in
    let all : AreKept scope (Some n) (steps body ++ leaves n ∷ rest) =
    block_kept scope (Some n) body (leaves n ∷ rest) (subst (λ i. broken_block scope (Some i) body ≡ []) named.number in_body) left in
    record {
      rules = all.rules;
      within = (at_itself scope (Some n) (steps body ++ leaves n ∷ rest) all).within;
      once = all.once;
      awaited = refl;
      moves = (outside, all.at);
      allowed = (named.least, named.greatest);
    }

-- the monitor that steps are inside of has a number
number_there : (scope : Scope) (t : TypeTree) (held : Option ℕ) (k : ℕ) → scope.monitors ≡ t.monitors → held ≡ Some k
    → IfSome held (IsNumberIn scope.monitors) → IsNumberIn t.monitors k
number_there scope t held k e is h =
    subst (λ ms. IsNumberIn ms k) e (subst (λ o. IfSome o (IsNumberIn scope.monitors)) is h)

statement_kept : (scope : Scope) (earlier : List (List ℕ)) (t : TypeTree) (left : Left) → IsScopeOf scope earlier t left
    → (m : Memory) (s : Statement) (rest : List Step)
    → broken_statement scope (inside rest) s ≡ [] → AreKept scope (inside rest) rest
    → CameKept scope earlier t left.returns (inside rest) (came_of t m (does s) rest)
statement_kept scope earlier t left is m (Assign name value) rest h k =
    found_kept scope earlier t left.returns (inside rest) m (value_of m value) (λ d. goes_on (set name.text d m) rest) (λ d. k)
statement_kept scope earlier t left is m (If test so otherwise place) rest h k =
    let first = broken_as truths scope (inside rest) test in
    let second = broken_block scope (inside rest) so in
    let third = broken_block scope (inside rest) otherwise in
    let both : first ++ second ≡ [] = front_empty (first ++ second) third h in
    found_kept scope earlier t left.returns (inside rest) m (value_of m test) (λ d. tested m d (steps so ++ rest) (steps otherwise ++ rest))
    (λ d. tested_kept scope earlier t left.returns (inside rest) m d (steps so ++ rest) (steps otherwise ++ rest)
    (block_kept scope (inside rest) so rest (back_empty first second both) k)
    (block_kept scope (inside rest) otherwise rest (back_empty (first ++ second) third h) k))
statement_kept scope earlier t left is m (While test body place) rest h k =
    let again : List Step = does (While test body place) ∷ rest in
    let kept : AreKept scope (inside rest) again =
    record {
      rules = both_empty (broken_statement scope (inside rest) (While test body place)) (broken_steps scope rest) h k.rules;
      within = k.within;
      once = k.once;
      at = refl;
    } in
    found_kept scope earlier t left.returns (inside rest) m (value_of m test)
    (λ d. tested m d (steps body ++ does (While test body place) ∷ rest) rest)
    (λ d. tested_kept scope earlier t left.returns (inside rest) m d (steps body ++ does (While test body place) ∷ rest) rest
    (block_kept scope (inside rest) body (does (While test body place) ∷ rest)
    (back_empty (broken_as truths scope (inside rest) test) (broken_block scope (inside rest) body) h) kept) k)
statement_kept scope earlier t left is m (With monitor body place) rest h k =
    with_kept scope earlier t left.returns monitor body place m rest is.monitors h k.rules
statement_kept scope earlier t left is m (Wait condition place) rest h k =
    let named : NamesCondition (inside rest) t condition.text = names_condition scope t (inside rest) condition place is.conditions h in
    record {
      rules = k.rules;
      within = k.within;
      once = k.once;
      awaited = refl;
      moves = (named.inside, refl);
      allowed = (
        named.below,
        number_there scope t (inside rest)
            (monitor_of t (condition_number t condition.text)) is.monitors named.inside k.within,
      );
    }
statement_kept scope earlier t left is m (Signal condition place) rest h k =
    let named : NamesCondition (inside rest) t condition.text = names_condition scope t (inside rest) condition place is.conditions h in
    record {
      rules = k.rules;
      within = k.within;
      once = k.once;
      awaited = refl;
      moves = (named.inside, refl);
      allowed = (
        named.below,
        number_there scope t (inside rest)
            (monitor_of t (condition_number t condition.text)) is.monitors named.inside k.within,
      );
    }
statement_kept scope earlier t left is m (Yield place) rest h k =
    record { rules = k.rules; within = k.within; once = k.once; awaited = refl; moves = refl; allowed = tt }
statement_kept scope earlier t left is m (Deactivate place) rest h k =
    record { rules = k.rules; within = k.within; once = k.once; awaited = refl; moves = refl; allowed = tt }
statement_kept scope earlier t left is m (Checkpoint status place) rest h k = record {
  rules = k.rules;
  within = k.within;
  once = k.once;
  awaited = and_from (may_set scope (inside rest) status.text) true (variable_kept scope ints (inside rest) status h) refl;
  moves = refl;
  allowed = tt;
}
statement_kept scope earlier t left is m (Destroy status place) rest h k = record {
  rules = k.rules;
  within = k.within;
  once = k.once;
  awaited = and_from (may_set scope (inside rest) status.text) true (variable_kept scope ints (inside rest) status h) refl;
  moves = refl;
  allowed = tt;
}
statement_kept scope earlier t left is m (Create type_name status gives place) rest h k =
    let first = broken_type scope type_name in
    let second = broken_variable ints scope (inside rest) status in
    let third = broken_variable caps scope (inside rest) gives in
    let both : first ++ second ≡ [] = front_empty (first ++ second) third h in
    record {
      rules = k.rules;
      within = k.within;
      once = k.once;
      awaited = and_from (may_set scope (inside rest) status.text) (list_all (may_set scope (inside rest)) (gives.text ∷ []))
          (variable_kept scope ints (inside rest) status (back_empty first second both))
          (and_from (may_set scope (inside rest) gives.text) true
          (variable_kept scope caps (inside rest) gives (back_empty (first ++ second) third h)) refl);
      moves = refl;
      allowed = subst (λ ts. list_any (λ n. same_text n type_name.text) ts ≡ true) is.types
          (names_type scope type_name (front_empty first second both));
    }
statement_kept scope earlier t left is m (Invoke to operation args status gives place) rest h k =
    let first = broken_target scope (inside rest) to in
    let second = broken_expressions scope (inside rest) args in
    let third = broken_variable ints scope (inside rest) status in
    let fourth = broken_uses scope (inside rest) gives in
    let before : first ++ second ++ third ≡ [] = front_empty (first ++ second ++ third) fourth h in
    let end : (c : Cap) (ds : List Datum)
    → Ends scope earlier t left.returns (inside rest) (effect.Invoke c operation.text ds)
    (a_reply status.text (map (λ n. n.text) gives)) rest =
    λ c ds. record {
      rules = k.rules;
      within = k.within;
      once = k.once;
      awaited = and_from (may_set scope (inside rest) status.text) (list_all (may_set scope (inside rest)) (map (λ n. n.text) gives))
          (variable_kept scope ints (inside rest) status (back_empty (first ++ second) third before))
          (uses_guarded scope (inside rest) gives (back_empty (first ++ second ++ third) fourth h));
      moves = refl;
      allowed = tt;
    } in
    found_kept scope earlier t left.returns (inside rest) m (target_of m to)
    (λ c. with_found m (values_of m (in_order args))
    (λ ds. ends (effect.Invoke c operation.text ds) m (a_reply status.text (map (λ n. n.text) gives)) rest))
    (λ c. found_kept scope earlier t left.returns (inside rest) m (values_of m (in_order args))
    (λ ds. ends (effect.Invoke c operation.text ds) m (a_reply status.text (map (λ n. n.text) gives)) rest) (λ ds. end c ds))
statement_kept scope earlier t left is m (Return results place) rest h k =
    let first = misreturned scope.results (length results) place in
    let second = broken_values scope (inside rest) (wanted_of scope.results) results in
    found_kept scope earlier t left.returns (inside rest) m (values_of m (in_order results)) (λ ds. ends_in (effect.Return ds) m rest)
    (λ ds. record {
      rules = k.rules;
      within = k.within;
      once = k.once;
      awaited = refl;
      moves = tt;
      allowed = sym is.results ∙ returned scope.results (length results) place (front_empty first second h);
    })

none_once : (rest : List Step) → inside rest ≡ None → LeavesOnce rest
none_once [] h = tt
none_once (leaves k ∷ rest) h = absurd cc
none_once (does s ∷ rest) h = none_once rest h

pub came_kept : (scope : Scope) (earlier : List (List ℕ)) (t : TypeTree) (left : Left) → IsScopeOf scope earlier t left
    → (m : Memory) (s : Step) (rest : List Step)
    → AreKept scope (inside (s ∷ rest)) (s ∷ rest) → CameKept scope earlier t left.returns (inside (s ∷ rest)) (came_of t m s rest)
came_kept scope earlier t left is m (leaves k) rest h =
    record {
      rules = h.rules;
      within = subst (λ o. IfSome o (IsNumberIn scope.monitors)) (sym h.once) tt;
      once = none_once rest h.once;
      awaited = refl;
      moves = (refl, h.once);
      allowed = number_there scope t (Some k) k is.monitors refl h.within;
    }
came_kept scope earlier t left is m (does s) rest h =
    let this = broken_statement scope (inside rest) s in
    statement_kept scope earlier t left is m s rest (front_empty this (broken_steps scope rest) h.rules)
    (record { rules = back_empty this (broken_steps scope rest) h.rules; within = h.within; once = h.once; at = refl })

-- ---- a run, and a turn
onward_kept : (scope : Scope) (earlier : List (List ℕ)) (t : TypeTree) (returns : Bool) (held : Option ℕ) (c : Came)
    (go : Memory → List Step → Came)
    → CameKept scope earlier t returns held c
    → ((m : Memory) (rest : List Step) → AreKept scope (inside rest) rest → CameKept scope earlier t returns (inside rest) (go m rest))
    → CameKept scope earlier t returns held (onward c go)
onward_kept scope earlier t returns held (goes_on m rest) go h k =
    subst (λ o. CameKept scope earlier t returns o (go m rest)) h.at (k m rest (at_itself scope held rest h))
onward_kept scope earlier t returns held (ends e m awaits rest) go h k = h

end_kept : (scope : Scope) (earlier : List (List ℕ)) (t : TypeTree) (returns : Bool) (m : Memory)
    → CameKept scope earlier t returns None (cond returns (faults m NoReturn) (ends_in effect.End m []))
end_kept scope earlier t returns m = cond_both returns (faults m NoReturn) (ends_in effect.End m []) (CameKept scope earlier t returns None)
    (λ e. faults_kept scope earlier t returns None m NoReturn)
    (λ e. record { rules = refl; within = tt; once = tt; awaited = refl; moves = refl; allowed = e })

run_kept : (scope : Scope) (earlier : List (List ℕ)) (t : TypeTree) (left : Left) → IsScopeOf scope earlier t left
    → (n : ℕ) (m : Memory) (rest : List Step)
    → AreKept scope (inside rest) rest → CameKept scope earlier t left.returns (inside rest) (run n t left.returns m rest)
unfolding run
run_kept scope earlier t left is zero m [] h = end_kept scope earlier t left.returns m
run_kept scope earlier t left is (suc n) m [] h = end_kept scope earlier t left.returns m
run_kept scope earlier t left is zero m (s ∷ rest) h = faults_kept scope earlier t left.returns (inside (s ∷ rest)) m Budget
run_kept scope earlier t left is (suc n) m (s ∷ rest) h =
    onward_kept scope earlier t left.returns (inside (s ∷ rest)) (came_of t m s rest) (run n t left.returns)
    (came_kept scope earlier t left is m s rest h)
    (λ m rest k. run_kept scope earlier t left is n m rest k)

came_to_kept : (scope : Scope) (earlier : List (List ℕ)) (t : TypeTree) (left : Left) → IsScopeOf scope earlier t left
    → IsGuarded scope left
    → (before : Memory) (r : Result Memory FaultCause) → CameKept scope earlier t left.returns (inside left.steps) (came_to t left before r)
came_to_kept scope earlier t left is g before (Ok m) =
    run_kept scope earlier t left is budget m left.steps (record { rules = g.keeps_rules; within = g.within; once = g.once; at = refl })
came_to_kept scope earlier t left is g before (Err cause) = faults_kept scope earlier t left.returns (inside left.steps) before cause

-- the scope is that of the process, whatever it has done so far
scope_stays : (scope : Scope) (earlier : List (List ℕ)) (t : TypeTree) (left : Left) → IsScopeOf scope earlier t left
    → (rest : List Step) (own : List Held) (awaits : Awaited)
    → IsScopeOf scope earlier t (record { steps = rest; own = own; awaits = awaits; returns = left.returns })
scope_stays scope earlier t left is rest own awaits = record {
  vars = is.vars;
  monitors = is.monitors;
  conditions = is.conditions;
  types = is.types;
  results = is.results;
  apart = is.apart;
}

as_turn_kept : (scope : Scope) (earlier : List (List ℕ)) (t : TypeTree) (left : Left) → IsScopeOf scope earlier t left → (c : Came)
    → CameKept scope earlier t left.returns (inside left.steps) c
    → StaysGuarded earlier t left (as_turn left.returns c).1 (as_turn left.returns c).2
as_turn_kept scope earlier t left is (ends e m awaits rest) h = record {
  guarded = record {
    scope = scope;
    is_scope = scope_stays scope earlier t left is rest m.own awaits;
    guarded = record { keeps_rules = h.rules; within = h.within; once = h.once; awaits = h.awaited };
  };
  moves = h.moves;
  allowed = h.allowed;
  returns = refl;
}
as_turn_kept scope earlier t left is (goes_on m rest) h = record {
  guarded = record {
    scope = scope;
    is_scope = scope_stays scope earlier t left is rest m.own no_answer;
    guarded = record { keeps_rules = h.rules; within = (at_itself scope (inside left.steps) rest h).within; once = h.once; awaits = refl };
  };
  moves = h.at;
  allowed = tt;
  returns = refl;
}

pub turn_stays_guarded : TurnStaysGuarded
turn_stays_guarded earlier t left vars a me g =
    let m : Memory = seen_by t vars left me in
    as_turn_kept g.scope earlier t left g.is_scope (came_to t left m (told left.awaits a m))
    (came_to_kept g.scope earlier t left g.is_scope g.guarded m (told left.awaits a m))
