-- What the text of an Edentype declares.
use Rattle.std.specs.Prelude.{◌≡◌, ◌⊎◌, ℕ, Bool, ◌+◌, ◌==◌, ◌||◌, ◌&&◌, nat_lt, List, [], ◌∷◌, ◌++◌, length, map, drop, Option, Some, None}
use Rattle.std.specs.Prelude.{if◌then◌else◌}
use Rattle.std.specs.List.{take_while}
use Rattle.epl_syntax.specs.Natives.{native_name, native_types}
use Rattle.epl_syntax.specs.Rules.First.{broken_at, IsFirst}
use Rattle.epl_syntax.specs.Rules.InItems.{broken_program}
use Rattle.epl_syntax.specs.Rules.OfTypes.{TypeList}
use Rattle.epl_syntax.specs.Tree.{TypeTree, type_tree}
use Rattle.epl_syntax.specs.declared.rule.Rule.{Rule}
use Rattle.epl_syntax.specs.declared.types.Native.{Native}
use Rattle.epl_parser.specs.Program.{SpellsType, RefusesType}
pub use Rattle.journal.specs.Fit.{DECLARED_LIMIT}
use Rattle.script_words.specs.Form.{is_name_byte, is_upper}
use Rattle.eden_script.specs.declared.declared.Refused.{Refused}
use Rattle.eden_script.specs.declared.declared.Refused.TheVariants.{At, Memory}

-- the types of a script: the native ones, and those that it declares, in order
pub record Types : Type 0 where
  pub native : List Native
  pub declared : List TypeTree

-- the types before the first declaration
abbrev pub native_alone : Types
native_alone = record { native = native_types; declared = [] }

-- the types with one more declared, behind the others
abbrev pub with_declared : Types → TypeTree → Types
with_declared types t = record { native = types.native; declared = types.declared ++ t ∷ [] }

-- the types that the code keeps, without where they lie in memory
abbrev pub types_in : TypeList → Types
types_in types = record { native = types.native; declared = map type_tree types.declared }

-- the names of all types, the native ones first
abbrev pub type_names : Types → List (List ℕ)
type_names types = map native_name types.native ++ map (λ t. t.name.text) types.declared

-- a blank or a line feed, which part the tokens of a text
abbrev pub is_space : ℕ → Bool
is_space b = b == 32 || b == 10

-- how far the name of a text's type is from its beginning: behind `edentype` and what parts it from the name
abbrev pub name_place : List ℕ → ℕ
name_place text = 8 + length (take_while is_space (drop 8 text))

-- the name bytes at a place
abbrev pub name_at : List ℕ → ℕ → List ℕ
name_at text place = take_while is_name_byte (drop place text)

-- of a text that begins with `edentype`: the place and the bytes of its type's name, where a blank or line feed and a name come next
abbrev pub declared_name : List ℕ → Option (ℕ × List ℕ)
declared_name text =
    if nat_lt 8 (name_place text) && is_upper (name_at text (name_place text))
    then Some (name_place text, name_at text (name_place text))
    else None

-- The text spells this type, which keeps the rules behind these types.
pub record Declares (types : Types) (text : List ℕ) (t : TypeTree) : Type 0 where
  pub spelled : SpellsType text t
  pub keeps_rules : broken_program (type_names types) t ≡ []

-- The text spells a type that breaks a rule behind these types, and the first broken rule is broken here.
pub record BreaksRule (types : Types) (text : List ℕ) (place : ℕ) : Type 0 where
  pub value : TypeTree
  pub spelled : SpellsType text value
  pub rule : Rule
  pub first : IsFirst (broken_program (type_names types) value) (broken_at rule place)

-- The text is refused here: by the grammar, or, where it spells a type, by the rules.
abbrev pub RefusedAt : Types → List ℕ → ℕ → Type 0
RefusedAt types text place = RefusesType text place ⊎ BreaksRule types text place

-- why a text declares no type; want of memory says nothing of the text
abbrev pub IsRefused : Types → List ℕ → Refused → Type 0
IsRefused types text (At place) = RefusedAt types text place
IsRefused types text Memory = Unit {0}
