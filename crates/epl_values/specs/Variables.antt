-- The variables that a process of the code sees, as the meaning sees them.
use Rattle.std.specs.Prelude.{ℕ, Bool, List, [], ◌++◌, map, Option, None, Some, slice_get, slice_set}
use Rattle.std.specs.List.{zip}
use Rattle.std.specs.Borrow.{Bor}
use Rattle.std.specs.Option.{option_map}
use Rattle.eden_value.specs.Datum.{Datum}
use Rattle.eden_value.specs.Shape.{Shape, shape}
use Rattle.eden_value.specs.View.{datum}
use Rattle.eden_value.specs.declared.kind.Kind.{Kind}
use Rattle.eden_value.specs.declared.value.Value.{Value}
use Rattle.eden_model.specs.Map.{with_item}
use Rattle.epl_syntax.specs.declared.binding.Binding.{Binding}
use Rattle.epl_syntax.specs.declared.binding.Binding.TheVariants as binding
use Rattle.epl_syntax.specs.declared.tree.Name.{Name}
use Rattle.epl_syntax.specs.declared.tree.Program.{Program}
use Rattle.epl_syntax.specs.Bindings.{Sort, Names, place_of, names_seen, has_binding}
use Rattle.epl_syntax.specs.Tree.{TypeTree, Parameter, Local, type_tree}
use Rattle.epl_syntax.specs.Memory.{Memory, Held, held_as, arguments, variables}
use Rattle.epl_values.specs.declared.variables.Owner.{Owner}
use Rattle.epl_values.specs.declared.variables.Owner.TheVariants.{Operation, Process, Upgrade}
use Rattle.epl_values.specs.declared.variables.Variables.{Variables}

-- the parameters of a body
abbrev pub parameters_of : TypeTree → Owner → List Parameter
parameters_of t (Operation at) = with_item (slice_get t.operations at) (λ o. o.params) []
parameters_of t (Upgrade at) = with_item (slice_get t.upgrades at) (λ u. u.params) []
parameters_of t _ = []

-- its own variables
abbrev pub locals_of : TypeTree → Owner → List Local
locals_of t (Operation at) = with_item (slice_get t.operations at) (λ o. o.locals) []
locals_of t (Process at) = with_item (slice_get t.processes at) (λ p. p.locals) []
locals_of t _ = []

-- those with these values, in order
abbrev pub locals_with : List Local → List Datum → List Held
locals_with vs ds = map (λ p. record { name = p.0.name.text; kind = p.0.kind.shape; value = p.1 }) (zip vs ds)

-- what a body has of its own
abbrev pub own_of : TypeTree → Owner → List Datum → List Datum → List Held
own_of t owner params locals = arguments (parameters_of t owner) params ++ locals_with (locals_of t owner) locals

-- what a process sees
unfoldable pub memory : TypeTree → Variables → Memory
memory t v = record { own = own_of t v.owner v.params v.locals; shared = variables t.vars v.vars; me = v.me }

-- ---- the names that a body uses
-- the names that a body sees
abbrev pub names_in : TypeTree → Owner → Names
names_in t owner = names_seen t (parameters_of t owner) (locals_of t owner)

-- the binding at a name's place is right for it in a body
abbrev pub is_found : Program → Owner → Sort → Name → Bool
is_found p owner sort name = has_binding p.bindings.items (names_in (type_tree p) owner) sort name

-- the value for which a binding stands, if there is one
abbrev pub value_at : Variables → Binding → Option Datum
value_at v (binding.Parameter at) = slice_get v.params at
value_at v (binding.Local at) = slice_get v.locals at
value_at v (binding.Variable at) = slice_get v.vars at
value_at v s = None

-- the kind of what has a value at a place
abbrev pub kind_there : List Shape → List Datum → ℕ → Option Shape
kind_there kinds values i = with_item (slice_get values i) (λ d. slice_get kinds i) None

-- the kind of what has a value by a binding
abbrev pub kind_at : TypeTree → Variables → Binding → Option Shape
kind_at t v (binding.Parameter at) = kind_there (map (λ p. p.kind.shape) (parameters_of t v.owner)) v.params at
kind_at t v (binding.Local at) = kind_there (map (λ l. l.kind.shape) (locals_of t v.owner)) v.locals at
kind_at t v (binding.Variable at) = kind_there (map (λ x. x.kind.shape) t.vars) v.vars at
kind_at t v s = None

-- ---- what a name stands for
-- the value at the place of a name
abbrev pub value_in : List Name → List Datum → List ℕ → Option Datum
value_in names values text = with_item (place_of names text) (slice_get values) None

-- values with another one at the place of a name
abbrev pub values_with : List Name → List ℕ → Datum → List Datum → List Datum
values_with names text d values = with_item (place_of names text) (λ i. slice_set values i d) values

-- the kind of what has a value at the place of a name
abbrev pub kind_in : List Name → List Shape → List Datum → List ℕ → Option Shape
kind_in names kinds values text = with_item (place_of names text) (kind_there kinds values) None

-- the value of a variable, if there is one of this name
abbrev pub value_as_named : Memory → List ℕ → Option Datum
value_as_named m name = option_map (λ v. v.value) (held_as m name)

-- a value that is lent, if one is
abbrev pub lent : Option (Bor Value) → Option Datum
lent None = None
lent (Some v) = Some (datum v.now)

-- the kind of a variable, if there is one of this name
abbrev pub kind_as_named : Memory → List ℕ → Option Shape
kind_as_named m name = option_map (λ v. v.kind) (held_as m name)

-- a kind that is lent, if one is
abbrev pub lent_kind : Option (Bor Kind) → Option Shape
lent_kind None = None
lent_kind (Some k) = Some (shape k.now)
