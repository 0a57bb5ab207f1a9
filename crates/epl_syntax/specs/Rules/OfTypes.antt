-- The types of a script, each of which keeps the rules.
use Rattle.std.specs.Prelude.{◌≡◌, ◌≤◌, ℕ, ◌-◌, List, [], ◌∷◌, ◌++◌, map, length, Option, None, nat_lt, slice_get, if◌then◌else◌}
use Rattle.std.specs.List.{AllByRecursion, IsDistinct, position}
use Rattle.eden_model.specs.Map.{same_text}
use Rattle.epl_syntax.specs.declared.rule.Broken.{Broken}
use Rattle.epl_syntax.specs.declared.types.Native.{Native}
use Rattle.epl_syntax.specs.Natives.{native_name, native_types}
use Rattle.epl_syntax.specs.declared.tree.Program.{Program}
use Rattle.epl_syntax.specs.Tree.{type_tree}
use Rattle.epl_syntax.specs.Rules.InItems.{broken_program}

-- the native types, and those that the script declares, in order
pub record TypeList : Type 0 where
  pub native : List Native
  pub declared : List Program

-- those of a script that declares none
abbrev pub native_only : TypeList
native_only = record { native = native_types; declared = [] }

-- the types with one more declared, behind the others
abbrev pub with_type : TypeList → Program → TypeList
with_type ts t = record { native = ts.native; declared = ts.declared ++ t ∷ [] }

-- the names of all of them, the native ones first
abbrev pub names_of : TypeList → List (List ℕ)
names_of ts = map native_name ts.native ++ map (λ t. t.name.text) ts.declared

-- no two of them have one name
abbrev pub NamesDiffer : TypeList → Type 0
NamesDiffer ts = IsDistinct same_text (names_of ts)

-- the place of the type of a name, where one has it: native types stand first, and places count from 0
abbrev pub place_named : TypeList → List ℕ → Option ℕ
place_named ts name = position (λ t. same_text t name) (names_of ts)

-- the native type at a place
abbrev pub native_at : TypeList → ℕ → Option Native
native_at ts place = slice_get ts.native place

-- the declared type at a place
abbrev pub declared_at : TypeList → ℕ → Option Program
declared_at ts place = if nat_lt place (length ts.native) then None else slice_get ts.declared (place - length ts.native)

-- what types break, of which each sees those before it
abbrev pub broken_types : List (List ℕ) → List Program → List Broken
broken_types earlier [] = []
broken_types earlier (t ∷ ts) = broken_program earlier (type_tree t) ++ broken_types (earlier ++ t.name.text ∷ []) ts

-- The types of a script keep the rules.
abbrev pub KeepRules : TypeList → Type 0
KeepRules ts = broken_types (map native_name ts.native) ts.declared ≡ []

-- A condition is of one of the monitors of its type, which are counted from 1. In a text it is that in which the condition stands.
abbrev pub HasMonitors : Program → Type 0
HasMonitors t = AllByRecursion (λ c. (1 ≤ c.monitor) × (c.monitor ≤ length t.monitors.items)) t.conditions.items

-- so it is with each type that the script declares
abbrev pub HaveMonitors : TypeList → Type 0
HaveMonitors ts = AllByRecursion HasMonitors ts.declared
