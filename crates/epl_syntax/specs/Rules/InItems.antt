-- The rules that the items of a type break.
use Rattle.std.specs.Prelude.{ℕ, ◌-◌, ◌&&◌, not, nat_le, List, [], ◌∷◌, ◌++◌, map, drop, Option, Some, None, if◌then◌else◌}
use Rattle.std.specs.List.{flat_map}
use Rattle.eden_value.specs.Shape.{Shape}
use Rattle.eden_model.specs.Map.{same_text}
use Rattle.epl_syntax.specs.declared.tree.Name.{Name}
use Rattle.epl_syntax.specs.declared.tree.Number.{Number}
use Rattle.epl_syntax.specs.declared.tree.ClassDecl.{ClassDecl}
use Rattle.epl_syntax.specs.declared.tree.CondDecl.{CondDecl}
use Rattle.epl_syntax.specs.Tree.{PlacedShape, Beginning, Variable, Local, Parameter, Operation, Process, UpgradeAssignment, Upgrade}
use Rattle.epl_syntax.specs.Tree.{TypeTree, block_of}
use Rattle.epl_syntax.specs.declared.rule.Broken.{Broken}
use Rattle.epl_syntax.specs.declared.rule.Rule.TheVariants.{UnknownName, BadLimit}
use Rattle.epl_syntax.specs.Rules.First.{broken_if, broken_at}
use Rattle.epl_syntax.specs.Rules.Scopes.{Scope, is_among, doubled, as_variables, doubled_numbers}
use Rattle.epl_syntax.specs.Rules.KindsOf.{kind_of, kind_of_constant}
use Rattle.epl_syntax.specs.Rules.InExpressions.{place_of, misfit, misfit_known, broken_kind, broken_constant, broken_expression}
use Rattle.epl_syntax.specs.Rules.InStatements.{broken_block}

-- ---- limits

-- a number outside its limits
abbrev pub outside : ℕ → ℕ → Number → List Broken
outside low high number = broken_if (not (nat_le low number.n && nat_le number.n high)) BadLimit number.place

-- the first of what is too much
abbrev pub at_first : List ℕ → List Broken
at_first [] = []
at_first (place ∷ places) = broken_at BadLimit place ∷ []

-- more than so many things stand at these places
abbrev pub too_many : ℕ → List ℕ → List Broken
too_many limit places = at_first (drop limit places)

-- where names stand
abbrev pub places_of : List Name → List ℕ
places_of names = map (λ n. n.place) names

-- ---- declarations of variables

-- what a variable holds at first is of its kind
abbrev pub broken_start : PlacedShape → Beginning → List Broken
broken_start kind start = broken_constant start.value ++ misfit kind.shape (Some (kind_of_constant start.value)) start.place

-- what a variable of a type breaks
abbrev pub broken_var : Variable → List Broken
broken_var v = broken_kind v.kind ++ broken_start v.kind v.start

-- what a variable of a body breaks
abbrev pub broken_local : Local → List Broken
broken_local v = broken_kind v.kind ++ broken_start v.kind v.start

-- what a parameter breaks
abbrev pub broken_param : Parameter → List Broken
broken_param p = broken_kind p.kind

-- the names of variables of a type
abbrev pub names_of_vars : List Variable → List Name
names_of_vars vs = map (λ v. v.name) vs

-- the names of classes
abbrev pub names_of_classes : List ClassDecl → List Name
names_of_classes cs = map (λ c. c.name) cs

-- the names of conditions
abbrev pub names_of_conditions : List CondDecl → List Name
names_of_conditions cs = map (λ c. c.name) cs

-- the names of operations
abbrev pub names_of_operations : List Operation → List Name
names_of_operations os = map (λ o. o.name) os

-- the names of processes
abbrev pub names_of_processes : List Process → List Name
names_of_processes ps = map (λ p. p.name) ps

-- the names of parameters
abbrev pub names_of_params : List Parameter → List Name
names_of_params ps = map (λ p. p.name) ps

-- the names of variables of a body
abbrev pub names_of_locals : List Local → List Name
names_of_locals vs = map (λ v. v.name) vs

-- the names of assignments
abbrev pub names_of_changes : List UpgradeAssignment → List Name
names_of_changes cs = map (λ c. c.name) cs

-- the names of one body: each once, and none that is a variable of the type
abbrev pub broken_names : List Name → List Name → List Broken
broken_names vars names = doubled names ++ as_variables vars names

-- ---- classes, operations, processes

-- what a class breaks
abbrev pub broken_class : ClassDecl → List Broken
broken_class c = outside 1 16 c.limit

-- what the bodies in a type see
abbrev pub scope_in : TypeTree → List (List ℕ) → List Parameter → List Local → Option (List PlacedShape) → Scope
scope_in t types params locals results = record {
  locals = locals;
  params = params;
  vars = t.vars;
  monitors = t.monitors;
  conditions = t.conditions;
  types = types;
  results = results;
}

-- what an operation's head breaks: its rights, its class and its counts
abbrev pub broken_head : List Name → Operation → List Broken
broken_head classes o =
    outside 0 65535 o.needs ++ broken_if (not (is_among classes o.class.text)) UnknownName o.class.place
    ++ too_many 8 (places_of (names_of_params o.params)) ++ too_many 8 (map (λ k. k.place) o.results)
    ++ too_many 32 (places_of (names_of_locals o.locals))

-- what the parameters, results and variables of an operation break
abbrev pub broken_declared : Operation → List Broken
broken_declared o = flat_map broken_param o.params ++ flat_map broken_kind o.results ++ flat_map broken_local o.locals

-- what an operation breaks
abbrev pub broken_operation : TypeTree → List (List ℕ) → Operation → List Broken
broken_operation t types o =
    broken_head (names_of_classes t.classes) o ++ broken_names (names_of_vars t.vars) (names_of_params o.params ++ names_of_locals o.locals)
    ++ broken_declared o
    ++ broken_block (scope_in t types o.params o.locals (Some o.results)) None (block_of o.body)

-- what a process breaks
abbrev pub broken_process : TypeTree → List (List ℕ) → Process → List Broken
broken_process t types p =
    too_many 32 (places_of (names_of_locals p.locals)) ++ broken_names (names_of_vars t.vars) (names_of_locals p.locals)
    ++ flat_map broken_local p.locals ++ broken_block (scope_in t types [] p.locals None) None (block_of p.body)

-- ---- upgrades: their expressions see the parameters alone, and they give values to durable variables

-- the names that an upgrade may use
abbrev pub scope_of_upgrade : List (List ℕ) → List Parameter → Scope
scope_of_upgrade types params =
    record { locals = []; params = params; vars = []; monitors = []; conditions = []; types = types; results = None }

-- the kind of the durable variable of this name
abbrev pub durable_named : List Variable → List ℕ → Option Shape
durable_named [] text = None
durable_named (v ∷ vs) text = if v.durable && same_text v.name.text text then Some v.kind.shape else durable_named vs text

-- a name that no durable variable has
abbrev pub broken_durable : Option Shape → ℕ → List Broken
broken_durable None place = broken_at UnknownName place ∷ []
broken_durable (Some kind) place = []

-- what an assignment of an upgrade breaks
abbrev pub broken_change : Scope → List Variable → UpgradeAssignment → List Broken
broken_change scope vars change =
    let wanted = durable_named vars change.name.text in
    broken_durable wanted change.name.place ++ broken_expression scope None change.value
    ++ misfit_known wanted (kind_of scope change.value) (place_of change.value)

-- the number of the version, which is 1 where none is written
abbrev pub version_number : Option Number → ℕ
version_number None = 1
version_number (Some number) = number.n

-- what an upgrade breaks
abbrev pub broken_upgrade : TypeTree → List (List ℕ) → Upgrade → List Broken
broken_upgrade t types u =
    outside 1 (version_number t.version - 1) u.from
    ++ too_many 64 (places_of (names_of_params u.params)) ++ too_many 64 (places_of (names_of_changes u.changes))
    ++ broken_names (names_of_vars t.vars) (names_of_params u.params)
    ++ flat_map broken_param u.params ++ flat_map (broken_change (scope_of_upgrade types u.params) t.vars) u.changes

-- ---- the type

-- what a version breaks
abbrev pub broken_version : Option Number → List Broken
broken_version None = []
broken_version (Some number) = outside 1 65535 number

-- counts past their limits
abbrev pub broken_counts : TypeTree → List Broken
broken_counts t =
    too_many 64 (places_of (names_of_vars t.vars)) ++ too_many 16 (places_of (names_of_classes t.classes))
    ++ too_many 8 (places_of t.monitors) ++ too_many 32 (places_of (names_of_conditions t.conditions))
    ++ too_many 32 (places_of (names_of_operations t.operations)) ++ too_many 8 (places_of (names_of_processes t.processes))

-- names with a small first letter that are declared twice: of variables, conditions and classes
abbrev pub broken_small_names : TypeTree → List Broken
broken_small_names t = doubled (names_of_vars t.vars ++ names_of_conditions t.conditions ++ names_of_classes t.classes)

-- names with a great first letter that are declared twice: of operations, processes and monitors
abbrev pub broken_great_names : TypeTree → List Broken
broken_great_names t = doubled (names_of_operations t.operations ++ names_of_processes t.processes ++ t.monitors)

-- two upgrades from one version
abbrev pub broken_numbers : TypeTree → List Broken
broken_numbers t = doubled_numbers (map (λ u. u.from) t.upgrades)

-- Every broken rule of a type, with its place. `earlier` has the names of the native types and of the types before it.
unfoldable pub broken_program : List (List ℕ) → TypeTree → List Broken
broken_program earlier t =
    broken_version t.version ++ broken_counts t ++ broken_small_names t ++ broken_great_names t ++ broken_numbers t
    ++ flat_map broken_var t.vars ++ flat_map broken_class t.classes
    ++ flat_map (broken_operation t (t.name.text ∷ earlier)) t.operations
    ++ flat_map (broken_process t (t.name.text ∷ earlier)) t.processes
    ++ flat_map (broken_upgrade t (t.name.text ∷ earlier)) t.upgrades
