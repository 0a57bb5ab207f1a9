-- What the names of a program stand for.
use Rattle.std.specs.Prelude.{ℕ, ◌+◌, Bool, ◌==◌, max, List, [], ◌∷◌, ◌++◌, Option, Some, None, if◌then◌else◌}
use Rattle.std.specs.List.{flat_map, list_any}
use Rattle.eden_value.specs.Shape.{Shape}
use Rattle.eden_model.specs.Map.{same_text}
use Rattle.epl_syntax.specs.declared.tree.Name.{Name}
use Rattle.epl_syntax.specs.declared.tree.Number.{Number}
use Rattle.epl_syntax.specs.declared.tree.CondDecl.{CondDecl}
use Rattle.epl_syntax.specs.Tree.{PlacedShape, Variable, Local, Parameter}
use Rattle.epl_syntax.specs.declared.rule.Broken.{Broken}
use Rattle.epl_syntax.specs.declared.rule.Rule.TheVariants.{Doubled}
use Rattle.epl_syntax.specs.Rules.First.{broken_if}

-- What the names in the body of an operation or process, or in an upgrade, stand for. A name that is declared twice
-- stands for its first declaration, and one of the body's own before one of the type.
pub record Scope : Type 0 where
  -- the body's own variables
  pub locals : List Local
  pub params : List Parameter
  -- what the type declares
  pub vars : List Variable
  pub monitors : List Name
  pub conditions : List CondDecl
  -- the names of the types of which Ejects may be created: the native ones, those before in the script, the type itself
  pub types : List (List ℕ)
  -- the kinds of an operation's results; a process has none, and returns nothing
  pub results : Option (List PlacedShape)

-- a variable, whose monitor has this number, or is none where it is 0
pub record Seen : Type 0 where
  pub kind : Shape
  pub monitor : ℕ

-- of two variables the first that is there
abbrev pub or_else : Option Seen → Option Seen → Option Seen
or_else None other = other
or_else (Some v) other = Some v

-- the variable of a body of this name
abbrev pub local_named : List Local → List ℕ → Option Seen
local_named [] text = None
local_named (v ∷ vs) text = if same_text v.name.text text then Some (record { kind = v.kind.shape; monitor = 0 }) else local_named vs text

-- the parameter of this name
abbrev pub param_named : List Parameter → List ℕ → Option Seen
param_named [] text = None
param_named (p ∷ ps) text = if same_text p.name.text text then Some (record { kind = p.kind.shape; monitor = 0 }) else param_named ps text

-- the variable of the type of this name
abbrev pub var_named : List Variable → List ℕ → Option Seen
var_named [] text = None
var_named (v ∷ vs) text =
    if same_text v.name.text text then Some (record { kind = v.kind.shape; monitor = v.monitor }) else var_named vs text

-- the variable of this name
unfoldable pub variable_named : Scope → List ℕ → Option Seen
variable_named scope text = or_else (param_named scope.params text) (or_else (local_named scope.locals text) (var_named scope.vars text))

-- the number of the first of these monitors that has this name, counted on from so many before them; None where none has it
abbrev pub number_in : List Name → List ℕ → ℕ → Option ℕ
number_in [] text before = None
number_in (m ∷ ms) text before = if same_text m.text text then Some (before + 1) else number_in ms text (before + 1)

-- the number of the monitor of this name, if the scope has one
unfoldable pub monitor_named : Scope → List ℕ → Option ℕ
monitor_named scope text = number_in scope.monitors text 0

-- the number of the monitor of the condition of this name
abbrev pub monitor_of_condition : List CondDecl → List ℕ → Option ℕ
monitor_of_condition [] text = None
monitor_of_condition (c ∷ cs) text = if same_text c.name.text text then Some c.monitor else monitor_of_condition cs text

-- the number of the monitor of the condition of this name, if the scope has one
unfoldable pub condition_named : Scope → List ℕ → Option ℕ
condition_named scope text = monitor_of_condition scope.conditions text

-- Ejects of the type of this name may be created
unfoldable pub is_type : Scope → List ℕ → Bool
is_type scope text = list_any (λ t. same_text t text) scope.types

-- the name is one of these
abbrev pub is_among : List Name → List ℕ → Bool
is_among names text = list_any (λ n. same_text n.text text) names

-- ---- names that are declared twice in one scope: the later one breaks the rule
-- what two names break that are the same, at the later of both places
abbrev pub clash : Name → Name → List Broken
clash n m = broken_if (same_text n.text m.text) Doubled (max n.place m.place)

-- what a name breaks that is among others, too
abbrev pub clashes : Name → List Name → List Broken
clashes n ns = flat_map (clash n) ns

-- names that stand twice
abbrev pub doubled : List Name → List Broken
doubled [] = []
doubled (n ∷ ns) = clashes n ns ++ doubled ns

-- a name of an operation, a process or an upgrade that a variable of the type has, too
abbrev pub as_variable : List Name → Name → List Broken
as_variable vars n = broken_if (is_among vars n.text) Doubled n.place

-- each of several names that a variable of the type has, too
abbrev pub as_variables : List Name → List Name → List Broken
as_variables vars ns = flat_map (as_variable vars) ns

-- two upgrades from one version: the later number breaks the rule
abbrev pub same_number : Number → Number → List Broken
same_number a b = broken_if (a.n == b.n) Doubled (max a.place b.place)

-- numbers that stand twice
abbrev pub doubled_numbers : List Number → List Broken
doubled_numbers [] = []
doubled_numbers (a ∷ ns) = flat_map (same_number a) ns ++ doubled_numbers ns
