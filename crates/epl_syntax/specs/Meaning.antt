-- What the types of a script mean. Those above look at a type, and at what is left to do of a process, by these words alone.
use Rattle.std.specs.Prelude.{ℕ, Bool, true, cond, ◌==◌, ◌&&◌, List, [], ◌++◌, map, Option, None, Some, is_some, IsTrue}
use Rattle.std.specs.List.{find}
use Rattle.std.specs.Option.{option_map}
use Rattle.capability.specs.declared.Uid.{Uid}
use Rattle.eden_value.specs.Datum.{Datum}
use Rattle.eden_value.specs.Shape.{Shape}
use Rattle.eden_codec.specs.declared.rep.Rep.{Rep}
use Rattle.eden_model.specs.Map.{with_item, same_text}
use Rattle.eden_model.specs.Crew.{Setup}
use Rattle.epl_syntax.specs.declared.effect.Answer.{Answer}
use Rattle.epl_syntax.specs.declared.effect.Effect.{Effect}
use Rattle.epl_syntax.specs.declared.effect.Effect.TheVariants as effect
use Rattle.epl_syntax.specs.Kinds.{have_shapes}
pub use Rattle.epl_syntax.specs.Outline.{Operation}
use Rattle.epl_syntax.specs.Outline.{starts, kinds_kept, only_kept, with_kept}
pub use Rattle.epl_syntax.specs.Edentype.{Edentype}
use Rattle.epl_syntax.specs.Edentype.{native, declared as declared_type, outline_of}
use Rattle.epl_syntax.specs.Natives.{Stage, native_condition, first_stage, native_turn}
use Rattle.epl_syntax.specs.Turns.{Left, operation_left, process_left, process_turn}
use Rattle.epl_syntax.specs.Upgrades.{upgraded_by}
use Rattle.epl_syntax.specs.Rules.OfTypes.{TypeList}
use Rattle.epl_syntax.specs.Tree.{type_tree}

-- 1. Types

-- its name
abbrev pub name_of : Edentype → List ℕ
name_of t = (outline_of t).name

-- its version
abbrev pub version_of : Edentype → ℕ
version_of t = (outline_of t).version

-- the kinds of the durable variables, in order
abbrev pub durable_kinds : Edentype → List Shape
durable_kinds t = kinds_kept (outline_of t).slots

-- its operations, in order
abbrev pub operations_of : Edentype → List Operation
operations_of t = (outline_of t).operations

-- the limits of the classes, the number of declared processes and of monitors, and the monitors of the conditions
abbrev pub setup_of : Edentype → Setup
setup_of t = (outline_of t).setup

-- the values of all variables of a new Eject, in order of declaration
abbrev pub first_values : Edentype → List Datum
first_values t = starts (outline_of t).slots

-- the values of all variables of an Eject that starts from durable ones: the working ones start anew
abbrev pub values_from : Edentype → List Datum → List Datum
values_from t durable = with_kept (outline_of t).slots durable

-- the values of the durable variables, in order
abbrev pub durable_of : Edentype → List Datum → List Datum
durable_of t vars = only_kept (outline_of t).slots vars

-- what stored values of a native type have to meet besides their kinds
abbrev pub meets_condition : Edentype → List Datum → Bool
meets_condition (native n) durable = native_condition n durable
meets_condition (declared_type t) durable = true

-- the durable values that an upgrade from an earlier version gives, if there is one and it does not fault
abbrev pub upgraded : Edentype → Rep → Uid → Option (List Datum)
upgraded (native n) rep me = None
upgraded (declared_type t) rep me = option_map (durable_of (declared_type t)) (upgraded_by t rep me)

-- the types of a script: the native ones, and those that it declares, in order
abbrev pub types_in : TypeList → List Edentype
types_in ts = map native ts.native ++ map (λ p. declared_type (type_tree p)) ts.declared

-- the type of this name, if there is one
abbrev pub type_of : List Edentype → List ℕ → Option Edentype
type_of types name = find (λ t. same_text (name_of t) name) types

-- the operation of this name, if there is one
abbrev pub operation_of : Edentype → List ℕ → Option Operation
operation_of t name = find (λ o. same_text o.name name) (operations_of t)

-- 2. Representations

-- what is kept of an Eject with these values
abbrev pub rep_of : Edentype → List Datum → Rep
rep_of t vars = record { type_name = name_of t; version = version_of t; values = durable_of t vars }

-- a representation of this version of the type
abbrev pub is_current : Edentype → Rep → Bool
is_current t rep = (rep.version == version_of t) && (have_shapes rep.values (durable_kinds t) && meets_condition t rep.values)

-- the durable values with which an Eject of this type starts: those of the representation, or those that an upgrade makes of them
abbrev pub durable_from : Edentype → Rep → Uid → Option (List Datum)
durable_from t rep me = cond (is_current t rep) (Some rep.values) (upgraded t rep me)

-- the type of a representation, and the durable values with which the Eject starts
abbrev pub started_from : List Edentype → Rep → Uid → Option (Edentype × List Datum)
started_from types rep me =
    with_item (type_of types rep.type_name) (λ t. with_item (durable_from t rep me) (λ durable. Some (t, durable)) None) None

-- A representation fits: its type is one of these; and its version is that type's, its values are of the kinds of the durable variables
-- and meet the type's condition, or the type has an upgrade from its version that takes its values and does not fault.
abbrev pub Fits : Rep → List Edentype → Uid → Type 0
Fits rep types me = IsTrue (is_some (started_from types rep me))

-- 3. Processes

-- What is left to do of a process: of a native type, or of a declared one. None of those above looks inside.
pub data Rest : Type 0 where
  of_native : Stage → Rest
  of_declared : Left → Rest

-- what is left to do of an operation at its beginning
abbrev pub begin : Edentype → List ℕ → List Datum → Rest
begin (native n) operation args = of_native (first_stage n operation args)
begin (declared_type t) operation args = of_declared (operation_left t operation args)

-- what is left to do of the declared processes at their beginning, in order
abbrev pub declared : Edentype → List Rest
declared (native n) = []
declared (declared_type t) = map (λ p. of_declared (process_left p)) t.processes

-- what a turn comes to: the values of all variables after it, what is left to do, and the effect
pub record Turned : Type 0 where
  pub vars : List Datum
  pub rest : Rest
  pub effect : Effect

-- what a turn came to, of a native type or of a declared one
abbrev pub turned_as : {R : Type 0} → (R → Rest) → List Datum × R × Effect → Turned
turned_as of t = record { vars = t.0; rest = of t.1; effect = t.2 }

-- A turn of a process of the Eject `me`, up to its next effect: of its type, by the values of all variables, what is left
-- to do, and the answer to the effect before. What is left of a process of another type just ends.
abbrev pub turn : Edentype → List Datum → Rest → Answer → Uid → Turned
turn (native n) vars (of_native stage) answer me = turned_as of_native (native_turn n vars stage answer)
turn (declared_type t) vars (of_declared left) answer me = turned_as of_declared (process_turn t vars left answer me)
turn _ vars rest answer me = record { vars = vars; rest = rest; effect = effect.End }
