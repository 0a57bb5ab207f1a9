-- What a process sees: its own variables, those of its Eject, and the Eject itself.
use Rattle.std.specs.Prelude.{ℕ, Bool, cond, List, [], ◌∷◌, ◌++◌, map, Option, None, Ok, Err}
use Rattle.std.specs.List.{find, list_any, zip}
use Rattle.capability.specs.declared.Uid.{Uid}
use Rattle.eden_value.specs.Datum.{Datum, number, truth, text, cap, list, no_data}
use Rattle.eden_value.specs.Shape.{Shape}
use Rattle.eden_model.specs.Map.{with_item, same_text}
use Rattle.epl_syntax.specs.declared.effect.FaultCause.TheVariants.{BadKind}
use Rattle.epl_syntax.specs.Tree.{Constant, integer, text as text_constant, truth as truth_constant, absent, empty_list, Variable, Local}
use Rattle.epl_syntax.specs.Tree.{Parameter}
use Rattle.epl_syntax.specs.Operators.{Found}

-- the value of a constant
abbrev pub value_of_constant : Constant → Datum
value_of_constant (integer n) = number n
value_of_constant (text_constant t) = text t
value_of_constant (truth_constant b) = truth b
value_of_constant absent = cap None
value_of_constant (empty_list k) = list no_data

-- a variable with its value
pub record Held : Type 0 where
  pub name : List ℕ
  pub kind : Shape
  pub value : Datum

-- the variables of the process, those of its Eject, and the Eject's uid, which is `self`
pub record Memory : Type 0 where
  pub own : List Held
  pub shared : List Held
  pub me : Uid

-- whether a variable has this name
abbrev pub is_called : List ℕ → Held → Bool
is_called name v = same_text v.name name

-- the variable that a name stands for: one of the process before one of the Eject
abbrev pub held_as : Memory → List ℕ → Option Held
held_as m name = find (is_called name) (m.own ++ m.shared)

-- the value of the variable that a name stands for; a name that stands for none is a fault
abbrev pub value_as : Memory → List ℕ → Found
value_as m name = with_item (held_as m name) (λ v. Ok v.value) (Err BadKind)

-- the first variable of this name gets the value
abbrev pub put_into : List ℕ → Datum → List Held → List Held
put_into name d [] = []
put_into name d (v ∷ vs) = cond (is_called name v) (record v { value = d } ∷ vs) (v ∷ put_into name d vs)

-- a variable gets a value, one of the process before one of the Eject
abbrev pub set : List ℕ → Datum → Memory → Memory
set name d m =
    cond (list_any (is_called name) m.own) (record m { own = put_into name d m.own }) (record m { shared = put_into name d m.shared })

-- several variables get a value each, from left to right
abbrev pub set_each : List (List ℕ) → List Datum → Memory → Memory
set_each [] ds m = m
set_each (name ∷ names) [] m = m
set_each (name ∷ names) (d ∷ ds) m = set_each names ds (set name d m)

-- ---- what is held at first
-- the variables of an Eject with these values, in order
abbrev pub variables : List Variable → List Datum → List Held
variables vs ds = map (λ p. record { name = p.0.name.text; kind = p.0.kind.shape; value = p.1 }) (zip vs ds)

-- the parameters of an operation or an upgrade with these values, in order
abbrev pub arguments : List Parameter → List Datum → List Held
arguments ps ds = map (λ p. record { name = p.0.name.text; kind = p.0.kind.shape; value = p.1 }) (zip ps ds)

-- the locals of an operation or a process, with their first values
abbrev pub locals : List Local → List Held
locals vs = map (λ v. record { name = v.name.text; kind = v.kind.shape; value = value_of_constant v.start.value }) vs
