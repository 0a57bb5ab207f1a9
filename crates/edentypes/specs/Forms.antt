-- The code's tables of native types, and the parts of declared ones, as the outlines of the definitions.
use Rattle.std.specs.Prelude.{◌≡◌, ◌≤◌, pos, true, false, map, [], ◌∷◌, None}
use Rattle.std.specs.List.{All}
use Rattle.coordinator.specs.declared.parts.Setup.{Setup as Layout}
use Rattle.eden_model.specs.Crew.{Setup}
use Rattle.eden_value.specs.Datum.{Datum, number, truth, text, cap, list, no_data}
use Rattle.eden_value.specs.Shape.{Shape, ints, truths, texts, caps, lists, shape}
use Rattle.epl_syntax.specs.declared.tree.VarDecl.{VarDecl}
use Rattle.epl_syntax.specs.declared.types.Native.{Native}
use Rattle.epl_syntax.specs.Edentype.{Edentype, native, declared}
use Rattle.epl_syntax.specs.Memory.{value_of_constant}
use Rattle.epl_syntax.specs.Natives.{rule_of}
use Rattle.epl_syntax.specs.Outline.{Slot, Operation}
use Rattle.epl_syntax.specs.Bindings.{is_resolved}
use Rattle.epl_syntax.specs.Rules.Limits.{IsWithinLimits}
use Rattle.epl_syntax.specs.Tree.{type_tree, constant}
use Rattle.transput.specs.View.{is_stream}
use Rattle.edentypes.specs.declared.form.Form.{Form}
use Rattle.edentypes.specs.declared.form.Form.TheVariants as form
use Rattle.edentypes.specs.declared.kinds.Plain.{Plain}
use Rattle.edentypes.specs.declared.kinds.Plain.TheVariants as plain
use Rattle.edentypes.specs.declared.native.First.{First}
use Rattle.edentypes.specs.declared.native.First.TheVariants as start
use Rattle.edentypes.specs.declared.native.Slot.{Slot as NativeSlot}
use Rattle.edentypes.specs.declared.native.Operation.{Operation as NativeOperation}

-- the type that one of the code is
abbrev pub form_of : Form → Edentype
form_of (form.Native n) = native n
form_of (form.Declared p) = declared (type_tree p.now)

-- the names of a declared type are resolved
abbrev pub IsResolved : Form → Type 0
IsResolved (form.Native n) = Unit {0}
IsResolved (form.Declared p) = is_resolved p.now ≡ true

-- a declared type is within the limits
abbrev pub IsLimited : Form → Type 0
IsLimited (form.Native n) = Unit {0}
IsLimited (form.Declared p) = IsWithinLimits p.now

-- the kind that one of the tables stands for
abbrev pub shape_of : Plain → Shape
shape_of plain.Int = ints
shape_of plain.Bool = truths
shape_of plain.Text = texts
shape_of plain.Cap = caps
shape_of plain.Texts = lists texts
shape_of plain.Caps = lists caps

-- the value that a variable of the tables holds at first
abbrev pub first_of : First → Datum
first_of start.Zero = number (pos 0)
first_of start.False = truth false
first_of start.True = truth true
first_of start.NoText = text []
first_of start.NoCap = cap None
first_of start.NoItems = list no_data

-- a variable of the tables
abbrev pub slot_of : NativeSlot → Slot
slot_of s = record { kind = shape_of s.kind; durable = s.durable; start = first_of s.first }

-- an operation of the tables, all of which are of class 0
abbrev pub operation_of : NativeOperation → Operation
operation_of o = record { name = o.name.now; needs = o.needs; class = 0; params = map shape_of o.params.now }

-- a variable of a declared type
abbrev pub slot_of_variable : VarDecl → Slot
slot_of_variable v = record { kind = shape v.kind.kind; durable = v.durable; start = value_of_constant (constant v.start.value) }

-- every native type is laid out so: of its one class one operation runs at a time
abbrev pub native_setup : Setup
native_setup = record { limits = 1 ∷ []; declared = 0; monitors = 0; conditions = [] }

-- at most 8 declared processes and 8 monitors, and each condition in one of them
abbrev pub IsBounded : Layout → Type 0
IsBounded s = (s.declared ≤ 8) × (s.monitors ≤ 8) × All (λ m. (1 ≤ m) × (m ≤ s.monitors)) s.conditions

-- the one is the other where it is a stream type, and each has the rule of the other
abbrev pub IsStreamOf : Native → Native → Type 0
IsStreamOf n s = (is_stream n ≡ true → s ≡ n) × (rule_of s ≡ rule_of n)
