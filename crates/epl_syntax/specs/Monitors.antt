-- Monitors: a process touches a variable of a monitor only in its `with`, from the effect that locks the monitor to that which leaves it.
use Rattle.std.specs.Prelude.{◌≡◌, ℕ, ◌<◌, ◌≤◌, Bool, true, false, not, List, [], ◌∷◌, ◌++◌, length, slice_get, Option, None, Some}
use Rattle.std.specs.Prelude.{is_some, IfSome}
use Rattle.std.specs.List.{AllByRecursion, list_all, list_any}
use Rattle.capability.specs.declared.Uid.{Uid}
use Rattle.eden_value.specs.Datum.{Datum}
use Rattle.eden_model.specs.Map.{with_item, same_text}
use Rattle.epl_syntax.specs.declared.effect.Answer.{Answer}
use Rattle.epl_syntax.specs.declared.effect.Effect.{Effect}
use Rattle.epl_syntax.specs.declared.effect.Effect.TheVariants as effect
use Rattle.epl_syntax.specs.declared.rule.Broken.{Broken}
use Rattle.epl_syntax.specs.declared.tree.Name.{Name}
use Rattle.epl_syntax.specs.Rules.Scopes.{Scope, variable_named, as_variables}
use Rattle.epl_syntax.specs.Rules.InExpressions.{is_guarded}
use Rattle.epl_syntax.specs.Rules.InStatements.{broken_statement}
use Rattle.epl_syntax.specs.Rules.InItems.{names_of_vars, names_of_params, names_of_locals, broken_program}
use Rattle.epl_syntax.specs.Tree.{TypeTree, Variable}
use Rattle.epl_syntax.specs.Statements.{Step, does, leaves, Awaited, no_answer, a_code, a_creation, a_reply}
use Rattle.epl_syntax.specs.Turns.{Left, operation_left, process_left, process_turn}
use Rattle.epl_syntax.specs.Meaning.{Rest, of_native, of_declared}

-- the monitor that steps are inside of: that of the first effect that leaves one
abbrev pub inside : List Step → Option ℕ
inside [] = None
inside (leaves k ∷ rest) = Some k
inside (does s ∷ rest) = inside rest

-- a process of a native type is inside of none
abbrev pub inside_rest : Rest → Option ℕ
inside_rest (of_native stage) = None
inside_rest (of_declared left) = inside left.steps

-- what the statements of a rest break, each by the monitor that it is inside of
abbrev pub broken_steps : Scope → List Step → List Broken
broken_steps scope [] = []
broken_steps scope (leaves k ∷ rest) = broken_steps scope rest
broken_steps scope (does s ∷ rest) = broken_statement scope (inside rest) s ++ broken_steps scope rest

-- at most one monitor is left
abbrev pub LeavesOnce : List Step → Type 0
LeavesOnce [] = Unit {0}
LeavesOnce (leaves k ∷ rest) = inside rest ≡ None
LeavesOnce (does s ∷ rest) = LeavesOnce rest

-- the variables that the answer of the last effect sets
abbrev pub awaited_names : Awaited → List (List ℕ)
awaited_names no_answer = []
awaited_names (a_code status) = status ∷ []
awaited_names (a_creation status gives) = status ∷ gives ∷ []
awaited_names (a_reply status gives) = status ∷ gives

-- whether a variable of this name may be set by a process that holds this monitor, or none
abbrev pub may_set : Scope → Option ℕ → List ℕ → Bool
may_set scope held name = with_item (variable_named scope name) (λ v. is_guarded held v.monitor) false

-- the number is that of one of these monitors, which are counted from 1
abbrev pub IsNumberIn : List Name → ℕ → Type 0
IsNumberIn monitors k = (1 ≤ k) × (k ≤ length monitors)

-- The statements of what is left to do keep the rules, each by the monitor that it is inside of; that is one of the type; at most one
-- monitor is left; and the answer that is awaited sets only what may be touched there.
pub record IsGuarded (scope : Scope) (left : Left) : Type 0 where
  pub keeps_rules : broken_steps scope left.steps ≡ []
  pub within : IfSome (inside left.steps) (IsNumberIn scope.monitors)
  pub once : LeavesOnce left.steps
  pub awaits : list_all (may_set scope (inside left.steps)) (awaited_names left.awaits) ≡ true

-- What a scope says of a process of this type, where `earlier` are the names of the types before it: the names stand for what the type
-- declares; Ejects may be created of the types before and of the type itself; only an operation returns; and no variable of the process's
-- own has the name of one of the type.
pub record IsScopeOf (scope : Scope) (earlier : List (List ℕ)) (t : TypeTree) (left : Left) : Type 0 where
  pub vars : scope.vars ≡ t.vars
  pub monitors : scope.monitors ≡ t.monitors
  pub conditions : scope.conditions ≡ t.conditions
  pub types : scope.types ≡ t.name.text ∷ earlier
  pub results : is_some scope.results ≡ left.returns
  pub apart : as_variables (names_of_vars t.vars) (names_of_params scope.params ++ names_of_locals scope.locals) ≡ []

-- what is left to do of a process of this type is guarded in some scope of the type
pub record IsGuardedOf (earlier : List (List ℕ)) (t : TypeTree) (left : Left) : Type 0 where
  pub scope : Scope
  pub is_scope : IsScopeOf scope earlier t left
  pub guarded : IsGuarded scope left

-- the monitor of a condition
abbrev pub monitor_of : TypeTree → ℕ → ℕ
monitor_of t c = with_item (slice_get t.conditions c) (λ it. it.monitor) 0

-- where a process is inside, before an effect and behind it
abbrev pub Moves : TypeTree → Option ℕ → Effect → Option ℕ → Type 0
Moves t before (effect.Lock k) after = (before ≡ None) × (after ≡ Some k)
Moves t before (effect.Leave k) after = (before ≡ Some k) × (after ≡ None)
Moves t before (effect.Wait c) after = (before ≡ Some (monitor_of t c)) × (after ≡ before)
Moves t before (effect.Signal c) after = (before ≡ Some (monitor_of t c)) × (after ≡ before)
Moves t before effect.End after = before ≡ None
Moves t before (effect.Return results) after = Unit {0}
Moves t before (effect.Fault cause) after = Unit {0}
Moves t before _ after = after ≡ before

-- What an effect may be: it names a monitor of the type, a condition of one, or a type that it may create an Eject of; a process that
-- returns does not just end, and no other returns.
abbrev pub IsAllowed : List (List ℕ) → TypeTree → Bool → Effect → Type 0
IsAllowed earlier t returns (effect.Lock k) = IsNumberIn t.monitors k
IsAllowed earlier t returns (effect.Leave k) = IsNumberIn t.monitors k
IsAllowed earlier t returns (effect.Wait c) = (c < length t.conditions) × IsNumberIn t.monitors (monitor_of t c)
IsAllowed earlier t returns (effect.Signal c) = (c < length t.conditions) × IsNumberIn t.monitors (monitor_of t c)
IsAllowed earlier t returns (effect.Create name) = list_any (λ n. same_text n name) (t.name.text ∷ earlier) ≡ true
IsAllowed earlier t returns (effect.Return results) = returns ≡ true
IsAllowed earlier t returns effect.End = returns ≡ false
IsAllowed earlier t returns _ = Unit {0}

-- what becomes of a guarded rest in a turn: it stays guarded, and its effect is one that may be and moves the process as told
pub record StaysGuarded (earlier : List (List ℕ)) (t : TypeTree) (left after : Left) (e : Effect) : Type 0 where
  pub guarded : IsGuardedOf earlier t after
  pub moves : Moves t (inside left.steps) e (inside after.steps)
  pub allowed : IsAllowed earlier t left.returns e
  pub returns : after.returns ≡ left.returns

-- the same values at each variable that passes a test
abbrev pub SameWhere : (Variable → Bool) → List Variable → List Datum → List Datum → Type 0
SameWhere test [] [] [] = Unit {0}
SameWhere test (v ∷ vs) (a ∷ xs) (b ∷ ys) = (test v ≡ true → a ≡ b) × SameWhere test vs xs ys
SameWhere test _ _ _ = ⊥

-- whether a variable may be touched inside of this monitor, or of none
abbrev pub is_open : Option ℕ → Variable → Bool
is_open held v = is_guarded held v.monitor

-- whether a variable may not be touched there
abbrev pub is_shut : Option ℕ → Variable → Bool
is_shut held v = not (is_open held v)

-- two turns do the same: they come to the same rest and the same effect, and to the same values of the variables that pass a test
pub record DoTheSame (test : Variable → Bool) (t : TypeTree) (one other : List Datum × Left × Effect) : Type 0 where
  pub vars : SameWhere test t.vars one.0 other.0
  pub rest : other.1 ≡ one.1
  pub effect : other.2 ≡ one.2

-- A turn of a process whose rest is guarded neither changes a variable of a monitor that it is not inside of nor depends on one.
pub record TouchesNoOther (t : TypeTree) (left : Left) (vars : List Datum) (told : Answer) (me : Uid) : Type 0 where
  pub changes_no_other : SameWhere (is_shut (inside left.steps)) t.vars vars (process_turn t vars left told me).0
  pub reads_no_other : (others : List Datum) → SameWhere (is_open (inside left.steps)) t.vars vars others
      → DoTheSame (is_open (inside left.steps)) t (process_turn t vars left told me) (process_turn t others left told me)

-- ---- the laws, of a type that keeps the rules

-- an operation begins guarded; so does what is left to do where there is no operation of the name
abbrev pub OperationsBeginGuarded : Type 0
OperationsBeginGuarded = (earlier : List (List ℕ)) (t : TypeTree) (name : List ℕ) (args : List Datum) → broken_program earlier t ≡ []
    → IsGuardedOf earlier t (operation_left t name args)

-- each declared process begins guarded
abbrev pub ProcessesBeginGuarded : Type 0
ProcessesBeginGuarded = (earlier : List (List ℕ)) (t : TypeTree) → broken_program earlier t ≡ []
    → AllByRecursion (λ p. IsGuardedOf earlier t (process_left p)) t.processes

-- a turn leaves a guarded rest guarded
abbrev pub TurnStaysGuarded : Type 0
TurnStaysGuarded = (earlier : List (List ℕ)) (t : TypeTree) (left : Left) (vars : List Datum) (told : Answer) (me : Uid)
    → IsGuardedOf earlier t left
    → StaysGuarded earlier t left (process_turn t vars left told me).1 (process_turn t vars left told me).2

-- a turn of a guarded rest touches only the variables that it may
abbrev pub TurnKeepsMonitors : Type 0
TurnKeepsMonitors = (earlier : List (List ℕ)) (t : TypeTree) (left : Left) (vars : List Datum) (told : Answer) (me : Uid)
    → IsGuardedOf earlier t left
    → length vars ≡ length t.vars → TouchesNoOther t left vars told me
