-- A turn of a process of a declared type neither changes a variable of a monitor that it is not inside of nor depends on one.
use Rattle.std.proofs.Common.{◌≡◌, ℕ, zero, suc, Bool, true, false, cond, List, [], ◌∷◌, ◌++◌, map, length, Option, Result, Ok, Err}
use Rattle.std.proofs.Common.{refl, ap, sym, ◌∙◌, subst}
use Rattle.std.specs.Prelude.{IfOk}
use Rattle.std.specs.List.{list_all}
use Rattle.std.proofs.lemmas.Bool.{and_parts}
use Rattle.eden_value.specs.Datum.{Datum, truth, cap}
use Rattle.eden_value.specs.Shape.{ints, truths, caps}
use Rattle.eden_value.specs.declared.status.Status.{Status}
use Rattle.eden_value.specs.declared.status.Status.TheVariants as status
use Rattle.epl_syntax.specs.declared.effect.Answer.{Answer}
use Rattle.epl_syntax.specs.declared.effect.Answer.TheVariants as answer
use Rattle.epl_syntax.specs.declared.effect.Effect.{Effect}
use Rattle.epl_syntax.specs.declared.effect.Effect.TheVariants as effect
use Rattle.epl_syntax.specs.declared.effect.FaultCause.{FaultCause}
use Rattle.epl_syntax.specs.declared.effect.FaultCause.TheVariants.{BadKind, NoReturn}
use Rattle.epl_syntax.specs.declared.tree.Target.{Target}
use Rattle.epl_syntax.specs.declared.tree.Target.TheVariants as target
use Rattle.epl_syntax.specs.Kinds.{have_shapes}
use Rattle.epl_syntax.specs.Rules.Scopes.{Scope, var_named}
use Rattle.epl_syntax.specs.Rules.KindsOf.{kind_named, kind_of}
use Rattle.epl_syntax.specs.Rules.InExpressions.{place_of, misfit, misfit_known, broken_use, broken_expression}
use Rattle.epl_syntax.specs.Rules.InStatements.{broken_as, broken_variable, broken_target, broken_expressions, broken_uses, misreturned}
use Rattle.epl_syntax.specs.Rules.InStatements.{wanted_of, broken_values, broken_statement, broken_block}
use Rattle.epl_syntax.specs.Tree.{TypeTree, Variable, Expression, Statement, Assign, If, While, With, Wait, Signal, Yield, Deactivate}
use Rattle.epl_syntax.specs.Tree.{Checkpoint, Destroy, Create, Invoke, Return, in_order}
use Rattle.epl_syntax.specs.Operators.{found}
use Rattle.epl_syntax.specs.Memory.{Held, Memory, set, set_each, variables}
use Rattle.epl_syntax.specs.Expressions.{value_of, values_of}
use Rattle.epl_syntax.specs.Statements.{Step, does, leaves, steps, Awaited, a_code, a_creation, a_reply, Came, goes_on, ends, ends_in}
use Rattle.epl_syntax.specs.Statements.{faults, with_found, tested, present, target_of, came_of}
use Rattle.epl_syntax.specs.Turns.{Left, code, kinds_as, taken, told, onward, run, budget, seen_by, values_in, came_to, as_turn}
use Rattle.epl_syntax.specs.Turns.{process_turn}
use Rattle.epl_syntax.specs.Monitors.{inside, broken_steps, awaited_names, may_set, IsGuarded, IsScopeOf, is_open, is_shut, SameWhere}
use Rattle.epl_syntax.specs.Monitors.{DoTheSame, TurnKeepsMonitors}
use Rattle.epl_syntax.proofs.Owned.{either}
use Rattle.epl_syntax.proofs.GuardedRules.{front_empty, back_empty, use_guarded}
use Rattle.epl_syntax.proofs.GuardedSteps.{AreKept, at_itself, CameKept, came_kept}
use Rattle.epl_syntax.proofs.GuardedNames.{IsOpenSeen, Opens, opens}
use Rattle.epl_syntax.proofs.GuardedValues.{AreLike, like_at_first, same_at_last, same_everywhere, values_back, with_shared, Agrees}
use Rattle.epl_syntax.proofs.GuardedValues.{set_agrees, set_agrees_too, set_each_agrees, set_keeps_shut, kinds_same, row_keeps}
use Rattle.epl_syntax.proofs.GuardedValues.{values_keep, value_as_same, value_same, row_same}

-- ---- steps from memories that agree
-- the other goes on so, too
pub record GoesOnSo (test : Variable → Bool) (t : TypeTree) (m : Memory) (rest : List Step) (other : Came) : Type 0 where
  pub others : List Held
  pub like : AreLike test t.vars m.shared others
  pub is : other ≡ goes_on (with_shared m others) rest

-- the other ends so, too
pub record EndsSo (test : Variable → Bool) (t : TypeTree) (e : Effect) (m : Memory) (awaits : Awaited) (rest : List Step)
    (other : Came) : Type 0 where
  pub others : List Held
  pub like : AreLike test t.vars m.shared others
  pub is : other ≡ ends e (with_shared m others) awaits rest

abbrev CameAgrees : (Variable → Bool) → TypeTree → Came → Came → Type 0
CameAgrees test t (goes_on m rest) other = GoesOnSo test t m rest other
CameAgrees test t (ends e m awaits rest) other = EndsSo test t e m awaits rest other

found_agrees : {X : Type 0} (test : Variable → Bool) (t : TypeTree) (m : Memory) (ys : List Held) → AreLike test t.vars m.shared ys
    → (r s : Result X FaultCause) (f g : X → Came) → s ≡ r → ((x : X) → CameAgrees test t (f x) (g x))
    → CameAgrees test t (with_found m r f) (with_found (with_shared m ys) s g)
found_agrees {X = X} test t m ys h r s f g e k =
    subst (λ q. CameAgrees test t (with_found m r f) (with_found (with_shared m ys) q g)) (sym e) (go r)
  where
    go : (q : Result X FaultCause) → CameAgrees test t (with_found m q f) (with_found (with_shared m ys) q g)
    go (Ok x) = k x
    go (Err cause) = record { others = ys; like = h; is = refl }

tested_agrees : (test : Variable → Bool) (t : TypeTree) (m : Memory) (ys : List Held) (d : Datum) (so otherwise : List Step)
    → AreLike test t.vars m.shared ys
    → CameAgrees test t (tested m d so otherwise) (tested (with_shared m ys) d so otherwise)
tested_agrees test t m ys (truth b) so otherwise h = record { others = ys; like = h; is = refl }
tested_agrees test t m ys _ so otherwise h = record { others = ys; like = h; is = refl }

target_same : (scope : Scope) (held : Option ℕ) (t : TypeTree) (m : Memory) (ys : List Held) → Opens scope held t
    → AreLike (is_open held) t.vars m.shared ys
    → (to : Target) → broken_target scope held to ≡ [] → target_of (with_shared m ys) to ≡ target_of m to
target_same scope held t m ys o h (target.Name name) k =
    ap (λ r. found r present) (value_as_same scope held t m ys name.text o h
    (use_guarded scope held name (front_empty (broken_use scope held name) (misfit caps (kind_named scope name.text) name.place) k)))
target_same scope held t m ys o h (target.Me place) k = refl

test_keeps : (scope : Scope) (held : Option ℕ) (e : Expression) → broken_as truths scope held e ≡ [] → broken_expression scope held e ≡ []
test_keeps scope held e h = front_empty (broken_expression scope held e) (misfit truths (kind_of scope e) (place_of e)) h

statement_agrees : (scope : Scope) (held : Option ℕ) (t : TypeTree) (m : Memory) (ys : List Held) → Opens scope held t
    → AreLike (is_open held) t.vars m.shared ys
    → (s : Statement) (rest : List Step) → broken_statement scope held s ≡ []
    → CameAgrees (is_open held) t (came_of t m (does s) rest) (came_of t (with_shared m ys) (does s) rest)
statement_agrees scope held t m ys o h (Assign name value) rest k =
    let first = broken_expression scope held value in
    let second = misfit_known (kind_named scope name.text) (kind_of scope value) (place_of value) in
    let kept : first ≡ [] = front_empty first second (back_empty (broken_use scope held name) (first ++ second) k) in
    found_agrees (is_open held) t m ys h (value_of m value) (value_of (with_shared m ys) value) (λ d. goes_on (set name.text d m) rest)
    (λ d. goes_on (set name.text d (with_shared m ys)) rest) (value_same scope held t m ys o h value kept)
    (λ d. let a = set_agrees (is_open held) t m ys name.text d h in
    record { others = a.others; like = a.like; is = ap (λ n. goes_on n rest) a.is })
statement_agrees scope held t m ys o h (If test so otherwise place) rest k =
    let first = broken_as truths scope held test in
    let second = broken_block scope held so in
    let third = broken_block scope held otherwise in
    found_agrees (is_open held) t m ys h (value_of m test) (value_of (with_shared m ys) test)
    (λ d. tested m d (steps so ++ rest) (steps otherwise ++ rest))
    (λ d. tested (with_shared m ys) d (steps so ++ rest) (steps otherwise ++ rest))
    (value_same scope held t m ys o h test (test_keeps scope held test (front_empty first second (front_empty (first ++ second) third k))))
    (λ d. tested_agrees (is_open held) t m ys d (steps so ++ rest) (steps otherwise ++ rest) h)
statement_agrees scope held t m ys o h (While test body place) rest k =
    found_agrees (is_open held) t m ys h (value_of m test) (value_of (with_shared m ys) test)
    (λ d. tested m d (steps body ++ does (While test body place) ∷ rest) rest)
    (λ d. tested (with_shared m ys) d (steps body ++ does (While test body place) ∷ rest) rest)
    (value_same scope held t m ys o h test
    (test_keeps scope held test (front_empty (broken_as truths scope held test) (broken_block scope held body) k)))
    (λ d. tested_agrees (is_open held) t m ys d (steps body ++ does (While test body place) ∷ rest) rest h)
statement_agrees scope held t m ys o h (With monitor body place) rest k = record { others = ys; like = h; is = refl }
statement_agrees scope held t m ys o h (Wait condition place) rest k = record { others = ys; like = h; is = refl }
statement_agrees scope held t m ys o h (Signal condition place) rest k = record { others = ys; like = h; is = refl }
statement_agrees scope held t m ys o h (Yield place) rest k = record { others = ys; like = h; is = refl }
statement_agrees scope held t m ys o h (Deactivate place) rest k = record { others = ys; like = h; is = refl }
statement_agrees scope held t m ys o h (Checkpoint status place) rest k = record { others = ys; like = h; is = refl }
statement_agrees scope held t m ys o h (Destroy status place) rest k = record { others = ys; like = h; is = refl }
statement_agrees scope held t m ys o h (Create type_name status gives place) rest k = record { others = ys; like = h; is = refl }
statement_agrees scope held t m ys o h (Invoke to operation args status gives place) rest k =
    let first = broken_target scope held to in
    let second = broken_expressions scope held args in
    let third = broken_variable ints scope held status in
    let fourth = broken_uses scope held gives in
    let both : first ++ second ≡ [] = front_empty (first ++ second) third (front_empty (first ++ second ++ third) fourth k) in
    found_agrees (is_open held) t m ys h (target_of m to) (target_of (with_shared m ys) to)
    (λ c. with_found m (values_of m (in_order args))
    (λ ds. ends (effect.Invoke c operation.text ds) m (a_reply status.text (map (λ n. n.text) gives)) rest))
    (λ c. with_found (with_shared m ys) (values_of (with_shared m ys) (in_order args))
    (λ ds. ends (effect.Invoke c operation.text ds) (with_shared m ys) (a_reply status.text (map (λ n. n.text) gives)) rest))
    (target_same scope held t m ys o h to (front_empty first second both))
    (λ c. found_agrees (is_open held) t m ys h (values_of m (in_order args)) (values_of (with_shared m ys) (in_order args))
    (λ ds. ends (effect.Invoke c operation.text ds) m (a_reply status.text (map (λ n. n.text) gives)) rest)
    (λ ds. ends (effect.Invoke c operation.text ds) (with_shared m ys) (a_reply status.text (map (λ n. n.text) gives)) rest)
    (row_same scope held t m ys o h (in_order args) (row_keeps scope held args (back_empty first second both)))
    (λ ds. record { others = ys; like = h; is = refl }))
statement_agrees scope held t m ys o h (Return results place) rest k =
    let first = misreturned scope.results (length results) place in
    let second = broken_values scope held (wanted_of scope.results) results in
    found_agrees (is_open held) t m ys h (values_of m (in_order results)) (values_of (with_shared m ys) (in_order results))
    (λ ds. ends_in (effect.Return ds) m rest) (λ ds. ends_in (effect.Return ds) (with_shared m ys) rest)
    (row_same scope held t m ys o h (in_order results)
    (values_keep scope held (wanted_of scope.results) results (back_empty first second k)))
    (λ ds. record { others = ys; like = h; is = refl })

-- of steps that are kept, the first keeps the rules
first_keeps : (scope : Scope) (held : Option ℕ) (s : Statement) (rest : List Step) → AreKept scope held (does s ∷ rest)
    → broken_statement scope held s ≡ []
first_keeps scope held s rest h =
    subst (λ o. broken_statement scope o s ≡ []) h.at
    (front_empty (broken_statement scope (inside rest) s) (broken_steps scope rest) h.rules)

step_agrees : (scope : Scope) (held : Option ℕ) (t : TypeTree) (m : Memory) (ys : List Held) → Opens scope held t
    → AreLike (is_open held) t.vars m.shared ys
    → (s : Step) (rest : List Step) → AreKept scope held (s ∷ rest)
    → CameAgrees (is_open held) t (came_of t m s rest) (came_of t (with_shared m ys) s rest)
step_agrees scope held t m ys o h (leaves n) rest k = record { others = ys; like = h; is = refl }
step_agrees scope held t m ys o h (does s) rest k = statement_agrees scope held t m ys o h s rest (first_keeps scope held s rest k)

-- what a step of a guarded rest comes to, inside of this monitor
step_kept : (scope : Scope) (earlier : List (List ℕ)) (t : TypeTree) (left : Left) (held : Option ℕ) → IsScopeOf scope earlier t left
    → (m : Memory) (s : Step) (rest : List Step)
    → AreKept scope held (s ∷ rest) → CameKept scope earlier t left.returns held (came_of t m s rest)
step_kept scope earlier t left held is m s rest h =
    subst (λ o. CameKept scope earlier t left.returns o (came_of t m s rest)) h.at
    (came_kept scope earlier t left is m s rest (at_itself scope held (s ∷ rest) h))

onward_agrees : (scope : Scope) (earlier : List (List ℕ)) (t : TypeTree) (returns : Bool) (held : Option ℕ) (c d : Came)
    (go : Memory → List Step → Came)
    → CameKept scope earlier t returns held c → CameAgrees (is_open held) t c d
    → ((m : Memory) (ys : List Held) (rest : List Step) → AreKept scope held rest → AreLike (is_open held) t.vars m.shared ys
    → CameAgrees (is_open held) t (go m rest) (go (with_shared m ys) rest))
    → CameAgrees (is_open held) t (onward c go) (onward d go)
onward_agrees scope earlier t returns held (goes_on m rest) d go h a k =
    subst (λ x. CameAgrees (is_open held) t (go m rest) (onward x go)) (sym a.is) (k m a.others rest h a.like)
onward_agrees scope earlier t returns held (ends e m awaits rest) d go h a k =
    subst (λ x. CameAgrees (is_open held) t (ends e m awaits rest) (onward x go)) (sym a.is)
    (record { others = a.others; like = a.like; is = refl })

end_agrees : (test : Variable → Bool) (t : TypeTree) (returns : Bool) (m : Memory) (ys : List Held) → AreLike test t.vars m.shared ys
    → CameAgrees test t (cond returns (faults m NoReturn) (ends_in effect.End m []))
    (cond returns (faults (with_shared m ys) NoReturn) (ends_in effect.End (with_shared m ys) []))
end_agrees test t true m ys h = record { others = ys; like = h; is = refl }
end_agrees test t false m ys h = record { others = ys; like = h; is = refl }

run_agrees : (scope : Scope) (earlier : List (List ℕ)) (t : TypeTree) (left : Left) (held : Option ℕ) → IsScopeOf scope earlier t left
    → Opens scope held t
    → (n : ℕ) (m : Memory) (ys : List Held) (rest : List Step) → AreKept scope held rest → AreLike (is_open held) t.vars m.shared ys
    → CameAgrees (is_open held) t (run n t left.returns m rest) (run n t left.returns (with_shared m ys) rest)
unfolding run
run_agrees scope earlier t left held is o zero m ys [] k h = end_agrees (is_open held) t left.returns m ys h
run_agrees scope earlier t left held is o (suc n) m ys [] k h = end_agrees (is_open held) t left.returns m ys h
run_agrees scope earlier t left held is o zero m ys (s ∷ rest) k h = record { others = ys; like = h; is = refl }
run_agrees scope earlier t left held is o (suc n) m ys (s ∷ rest) k h =
    onward_agrees scope earlier t left.returns held (came_of t m s rest) (came_of t (with_shared m ys) s rest) (run n t left.returns)
    (step_kept scope earlier t left held is m s rest k) (step_agrees scope held t m ys o h s rest k)
    (λ m ys rest k h. run_agrees scope earlier t left held is o n m ys rest k h)

-- ---- the answer
pub record IsToldSo (test : Variable → Bool) (t : TypeTree) (m : Memory) (other : Result Memory FaultCause) : Type 0 where
  pub others : List Held
  pub like : AreLike test t.vars m.shared others
  pub is : other ≡ Ok (with_shared m others)

abbrev ToldAgrees : (Variable → Bool) → TypeTree → Result Memory FaultCause → Result Memory FaultCause → Type 0
ToldAgrees test t (Ok m) other = IsToldSo test t m other
ToldAgrees test t (Err cause) other = other ≡ Err cause

ok_agrees : (test : Variable → Bool) (t : TypeTree) (m n : Memory) → Agrees test t m n → ToldAgrees test t (Ok m) (Ok n)
ok_agrees test t m n h = record { others = h.others; like = h.like; is = ap (λ k. Ok k) h.is }

taken_agrees : (test : Variable → Bool) (t : TypeTree) (gives : List (List ℕ)) (s : Status) (results : List Datum) (m n : Memory)
    → Agrees test t m n
    → ToldAgrees test t (taken gives s results m) (taken gives s results n)
taken_agrees test t gives status.Ok results m n h =
    subst (λ ks. ToldAgrees test t (cond (have_shapes results (kinds_as m gives)) (Ok (set_each gives results m)) (Err BadKind))
    (cond (have_shapes results ks) (Ok (set_each gives results n)) (Err BadKind)))
    (sym (ap (λ k. kinds_as k gives) h.is ∙ kinds_same test t m h.others gives h.like)) (go (have_shapes results (kinds_as m gives)))
  where
    go : (b : Bool)
        → ToldAgrees test t (cond b (Ok (set_each gives results m)) (Err BadKind)) (cond b (Ok (set_each gives results n)) (Err BadKind))
    go true = ok_agrees test t (set_each gives results m) (set_each gives results n) (set_each_agrees test t gives results m n h)
    go false = refl
taken_agrees test t gives _ results m n h = ok_agrees test t m n h

told_agrees : (test : Variable → Bool) (t : TypeTree) (awaits : Awaited) (a : Answer) (m : Memory) (ys : List Held)
    → AreLike test t.vars m.shared ys
    → ToldAgrees test t (told awaits a m) (told awaits a (with_shared m ys))
told_agrees test t (a_code x) (answer.Code s) m ys h = ok_agrees test t (set x (code s) m) (set x (code s) (with_shared m ys))
    (set_agrees test t m ys x (code s) h)
told_agrees test t (a_creation x y) (answer.Created s c) m ys h =
    ok_agrees test t (set y (cap c) (set x (code s) m)) (set y (cap c) (set x (code s) (with_shared m ys)))
    (set_agrees_too test t (set x (code s) m) (set x (code s) (with_shared m ys)) y (cap c) (set_agrees test t m ys x (code s) h))
told_agrees test t (a_reply x gives) (answer.Reply s results) m ys h =
    taken_agrees test t gives s results (set x (code s) m) (set x (code s) (with_shared m ys)) (set_agrees test t m ys x (code s) h)
told_agrees test t _ _ m ys h = record { others = ys; like = h; is = refl }

came_to_agrees : (scope : Scope) (earlier : List (List ℕ)) (t : TypeTree) (left : Left) → IsScopeOf scope earlier t left
    → IsGuarded scope left
    → (before : Memory) (ys : List Held) (r s : Result Memory FaultCause) → AreLike (is_open (inside left.steps)) t.vars before.shared ys
    → ToldAgrees (is_open (inside left.steps)) t r s
    → CameAgrees (is_open (inside left.steps)) t (came_to t left before r) (came_to t left (with_shared before ys) s)
came_to_agrees scope earlier t left is g before ys (Ok m) s h a =
    let held : Option ℕ = inside left.steps in
    subst (λ x. CameAgrees (is_open held) t (run budget t left.returns m left.steps) (came_to t left (with_shared before ys) x)) (sym a.is)
    (run_agrees scope earlier t left held is (opens scope earlier t left held is) budget m a.others left.steps
    (record { rules = g.keeps_rules; within = g.within; once = g.once; at = refl }) a.like)
came_to_agrees scope earlier t left is g before ys (Err cause) s h a =
    subst (λ x. CameAgrees (is_open (inside left.steps)) t (faults before cause) (came_to t left (with_shared before ys) x)) (sym a)
    (record { others = ys; like = h; is = refl })

as_turn_agrees : (test : Variable → Bool) (t : TypeTree) (returns : Bool) (c d : Came) → CameAgrees test t c d
    → DoTheSame test t (as_turn returns c) (as_turn returns d)
as_turn_agrees test t returns (goes_on m rest) d a =
    subst (λ x. DoTheSame test t (as_turn returns (goes_on m rest)) (as_turn returns x)) (sym a.is)
    (record { vars = same_at_last test t.vars m.shared a.others a.like; rest = refl; effect = refl })
as_turn_agrees test t returns (ends e m awaits rest) d a =
    subst (λ x. DoTheSame test t (as_turn returns (ends e m awaits rest)) (as_turn returns x)) (sym a.is)
    (record { vars = same_at_last test t.vars m.shared a.others a.like; rest = refl; effect = refl })

-- ---- what is not touched stays: `zs` are the variables of the type as they were before the turn
abbrev StaysShut : Option ℕ → TypeTree → List Held → Memory → Type 0
StaysShut held t zs m = AreLike (is_shut held) t.vars zs m.shared

abbrev CameShut : Option ℕ → TypeTree → List Held → Came → Type 0
CameShut held t zs (goes_on m rest) = StaysShut held t zs m
CameShut held t zs (ends e m awaits rest) = StaysShut held t zs m

found_shut : {X : Type 0} (held : Option ℕ) (t : TypeTree) (zs : List Held) (m : Memory) (r : Result X FaultCause) (f : X → Came)
    → StaysShut held t zs m
    → ((x : X) → CameShut held t zs (f x)) → CameShut held t zs (with_found m r f)
found_shut held t zs m (Ok x) f h k = k x
found_shut held t zs m (Err cause) f h k = h

tested_shut : (held : Option ℕ) (t : TypeTree) (zs : List Held) (m : Memory) (d : Datum) (so otherwise : List Step) → StaysShut held t zs m
    → CameShut held t zs (tested m d so otherwise)
tested_shut held t zs m (truth b) so otherwise h = h
tested_shut held t zs m _ so otherwise h = h

statement_shut : (scope : Scope) (held : Option ℕ) (t : TypeTree) (zs : List Held) (m : Memory) → Opens scope held t → StaysShut held t zs m
    → (s : Statement) (rest : List Step) → broken_statement scope held s ≡ [] → CameShut held t zs (came_of t m (does s) rest)
statement_shut scope held t zs m o h (Assign name value) rest k =
    let others = broken_expression scope held value ++ misfit_known (kind_named scope name.text) (kind_of scope value) (place_of value) in
    let open_ : IsOpenSeen held (var_named t.vars name.text) = o name.text
    (use_guarded scope held name (front_empty (broken_use scope held name) others k)) in
    found_shut held t zs m (value_of m value) (λ d. goes_on (set name.text d m) rest) h
    (λ d. set_keeps_shut held t zs m name.text d h open_)
statement_shut scope held t zs m o h (If test so otherwise place) rest k =
    found_shut held t zs m (value_of m test) (λ d. tested m d (steps so ++ rest) (steps otherwise ++ rest)) h
    (λ d. tested_shut held t zs m d (steps so ++ rest) (steps otherwise ++ rest) h)
statement_shut scope held t zs m o h (While test body place) rest k =
    found_shut held t zs m (value_of m test) (λ d. tested m d (steps body ++ does (While test body place) ∷ rest) rest) h
    (λ d. tested_shut held t zs m d (steps body ++ does (While test body place) ∷ rest) rest h)
statement_shut scope held t zs m o h (With monitor body place) rest k = h
statement_shut scope held t zs m o h (Wait condition place) rest k = h
statement_shut scope held t zs m o h (Signal condition place) rest k = h
statement_shut scope held t zs m o h (Yield place) rest k = h
statement_shut scope held t zs m o h (Deactivate place) rest k = h
statement_shut scope held t zs m o h (Checkpoint status place) rest k = h
statement_shut scope held t zs m o h (Destroy status place) rest k = h
statement_shut scope held t zs m o h (Create type_name status gives place) rest k = h
statement_shut scope held t zs m o h (Invoke to operation args status gives place) rest k =
    found_shut held t zs m (target_of m to)
    (λ c. with_found m (values_of m (in_order args))
    (λ ds. ends (effect.Invoke c operation.text ds) m (a_reply status.text (map (λ n. n.text) gives)) rest)) h
    (λ c. found_shut held t zs m (values_of m (in_order args))
    (λ ds. ends (effect.Invoke c operation.text ds) m (a_reply status.text (map (λ n. n.text) gives)) rest) h (λ ds. h))
statement_shut scope held t zs m o h (Return results place) rest k =
    found_shut held t zs m (values_of m (in_order results)) (λ ds. ends_in (effect.Return ds) m rest) h (λ ds. h)

step_shut : (scope : Scope) (held : Option ℕ) (t : TypeTree) (zs : List Held) (m : Memory) → Opens scope held t → StaysShut held t zs m
    → (s : Step) (rest : List Step) → AreKept scope held (s ∷ rest) → CameShut held t zs (came_of t m s rest)
step_shut scope held t zs m o h (leaves n) rest k = h
step_shut scope held t zs m o h (does s) rest k = statement_shut scope held t zs m o h s rest (first_keeps scope held s rest k)

onward_shut : (scope : Scope) (earlier : List (List ℕ)) (t : TypeTree) (returns : Bool) (held : Option ℕ) (zs : List Held) (c : Came)
    (go : Memory → List Step → Came)
    → CameKept scope earlier t returns held c → CameShut held t zs c
    → ((m : Memory) (rest : List Step) → AreKept scope held rest → StaysShut held t zs m → CameShut held t zs (go m rest))
    → CameShut held t zs (onward c go)
onward_shut scope earlier t returns held zs (goes_on m rest) go h a k = k m rest h a
onward_shut scope earlier t returns held zs (ends e m awaits rest) go h a k = a

run_shut : (scope : Scope) (earlier : List (List ℕ)) (t : TypeTree) (left : Left) (held : Option ℕ) → IsScopeOf scope earlier t left
    → Opens scope held t → (zs : List Held)
    → (n : ℕ) (m : Memory) (rest : List Step) → AreKept scope held rest → StaysShut held t zs m
    → CameShut held t zs (run n t left.returns m rest)
unfolding run
run_shut scope earlier t left held is o zs zero m [] k h = either (CameShut held t zs) left.returns (faults m NoReturn)
    (ends_in effect.End m []) h h
run_shut scope earlier t left held is o zs (suc n) m [] k h = either (CameShut held t zs) left.returns (faults m NoReturn)
    (ends_in effect.End m []) h h
run_shut scope earlier t left held is o zs zero m (s ∷ rest) k h = h
run_shut scope earlier t left held is o zs (suc n) m (s ∷ rest) k h =
    onward_shut scope earlier t left.returns held zs (came_of t m s rest) (run n t left.returns)
    (step_kept scope earlier t left held is m s rest k) (step_shut scope held t zs m o h s rest k)
    (λ m rest k h. run_shut scope earlier t left held is o zs n m rest k h)

set_each_shut : (scope : Scope) (held : Option ℕ) (t : TypeTree) (zs : List Held) (names : List (List ℕ)) (ds : List Datum) (m : Memory)
    → Opens scope held t
    → list_all (may_set scope held) names ≡ true → StaysShut held t zs m → StaysShut held t zs (set_each names ds m)
set_each_shut scope held t zs [] ds m o k h = h
set_each_shut scope held t zs (name ∷ names) [] m o k h = h
set_each_shut scope held t zs (name ∷ names) (d ∷ ds) m o k h =
    let parts = and_parts (may_set scope held name) (list_all (may_set scope held) names) k in
    set_each_shut scope held t zs names ds (set name d m) o parts.1 (set_keeps_shut held t zs m name d h (o name parts.0))

taken_shut : (scope : Scope) (held : Option ℕ) (t : TypeTree) (zs : List Held) (gives : List (List ℕ)) (s : Status) (results : List Datum)
    (m : Memory) → Opens scope held t
    → list_all (may_set scope held) gives ≡ true → StaysShut held t zs m → IfOk (taken gives s results m) (StaysShut held t zs)
taken_shut scope held t zs gives status.Ok results m o k h =
    either (λ r. IfOk r (StaysShut held t zs)) (have_shapes results (kinds_as m gives)) (Ok (set_each gives results m)) (Err BadKind)
    (set_each_shut scope held t zs gives results m o k h) tt
taken_shut scope held t zs gives _ results m o k h = h

told_shut : (scope : Scope) (held : Option ℕ) (t : TypeTree) (zs : List Held) (awaits : Awaited) (a : Answer) (m : Memory)
    → Opens scope held t
    → list_all (may_set scope held) (awaited_names awaits) ≡ true → StaysShut held t zs m → IfOk (told awaits a m) (StaysShut held t zs)
told_shut scope held t zs (a_code x) (answer.Code s) m o k h =
    set_keeps_shut held t zs m x (code s) h (o x (and_parts (may_set scope held x) true k).0)
told_shut scope held t zs (a_creation x y) (answer.Created s c) m o k h =
    let parts = and_parts (may_set scope held x) (list_all (may_set scope held) (y ∷ [])) k in
    set_keeps_shut held t zs (set x (code s) m) y (cap c) (set_keeps_shut held t zs m x (code s) h (o x parts.0))
    (o y (and_parts (may_set scope held y) true parts.1).0)
told_shut scope held t zs (a_reply x gives) (answer.Reply s results) m o k h =
    let parts = and_parts (may_set scope held x) (list_all (may_set scope held) gives) k in
    taken_shut scope held t zs gives s results (set x (code s) m) o parts.1 (set_keeps_shut held t zs m x (code s) h (o x parts.0))
told_shut scope held t zs _ _ m o k h = h

came_to_shut : (scope : Scope) (earlier : List (List ℕ)) (t : TypeTree) (left : Left) → IsScopeOf scope earlier t left
    → IsGuarded scope left → (zs : List Held)
    → (before : Memory) (r : Result Memory FaultCause) → StaysShut (inside left.steps) t zs before
    → IfOk r (StaysShut (inside left.steps) t zs)
    → CameShut (inside left.steps) t zs (came_to t left before r)
came_to_shut scope earlier t left is g zs before (Ok m) h a =
    let held : Option ℕ = inside left.steps in
    run_shut scope earlier t left held is (opens scope earlier t left held is) zs budget m left.steps
    (record { rules = g.keeps_rules; within = g.within; once = g.once; at = refl }) a
came_to_shut scope earlier t left is g zs before (Err cause) h a = h

as_turn_shut : (held : Option ℕ) (t : TypeTree) (zs : List Held) (returns : Bool) (c : Came) → CameShut held t zs c
    → SameWhere (is_shut held) t.vars (values_in zs) (as_turn returns c).0
as_turn_shut held t zs returns (goes_on m rest) h = same_at_last (is_shut held) t.vars zs m.shared h
as_turn_shut held t zs returns (ends e m awaits rest) h = same_at_last (is_shut held) t.vars zs m.shared h

-- ---- the turn
pub turn_keeps_monitors : TurnKeepsMonitors
turn_keeps_monitors earlier t left vars a me g fits =
    let held : Option ℕ = inside left.steps in
    let m : Memory = seen_by t vars left me in
    let zs : List Held = variables t.vars vars in
    let o : Opens g.scope held t = opens g.scope earlier t left held g.is_scope in
    let at_first : StaysShut held t zs m = like_at_first (is_shut held) t.vars vars vars
    (same_everywhere (is_shut held) t.vars vars fits) in
    record {
      changes_no_other = subst (λ ds. SameWhere (is_shut held) t.vars ds (process_turn t vars left a me).0) (values_back t.vars vars fits)
          (as_turn_shut held t zs left.returns (came_to t left m (told left.awaits a m))
          (came_to_shut g.scope earlier t left g.is_scope g.guarded zs m (told left.awaits a m) at_first
          (told_shut g.scope held t zs left.awaits a m o g.guarded.awaits at_first)));
      reads_no_other = λ others h.
          let ys : List Held = variables t.vars others in
          let like : AreLike (is_open held) t.vars zs ys = like_at_first (is_open held) t.vars vars others h in
          as_turn_agrees (is_open held) t left.returns (came_to t left m (told left.awaits a m))
          (came_to t left (with_shared m ys) (told left.awaits a (with_shared m ys)))
          (came_to_agrees g.scope earlier t left g.is_scope g.guarded m ys (told left.awaits a m)
          (told left.awaits a (with_shared m ys)) like
          (told_agrees (is_open held) t left.awaits a m ys like));
    }
