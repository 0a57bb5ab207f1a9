-- A type of Ejects: a native one, or one that a script declares.
use Rattle.std.specs.Prelude.{List, map, length}
use Rattle.std.specs.List.{position}
use Rattle.eden_model.specs.Map.{with_item, same_text}
use Rattle.epl_syntax.specs.declared.types.Native.{Native}
use Rattle.epl_syntax.specs.declared.tree.ClassDecl.{ClassDecl}
use Rattle.epl_syntax.specs.Tree.{TypeTree, Variable, Operation as OperationTree}
use Rattle.epl_syntax.specs.Outline.{Operation, Slot, Outline}
use Rattle.epl_syntax.specs.Memory.{value_of_constant}
use Rattle.epl_syntax.specs.Natives.{native_outline}

-- a type: a native one, or a declared one by the tree that its text spells
pub data Edentype : Type 0 where
  native : Native → Edentype
  declared : TypeTree → Edentype

-- an operation of a type with these classes, which are counted from 0
abbrev pub declared_operation : List ClassDecl → OperationTree → Operation
declared_operation classes o = record {
  name = o.name.text;
  needs = o.needs.n;
  class = with_item (position (λ c. same_text c.name.text o.class.text) classes) (λ i. i) 0;
  params = map (λ p. p.kind.shape) o.params;
}

-- the variables of a declared type
abbrev pub slots_of : List Variable → List Slot
slots_of vs = map (λ v. record { kind = v.kind.shape; durable = v.durable; start = value_of_constant v.start.value }) vs

-- what is seen of a declared type; it has version 1 where its text names none
abbrev pub declared_outline : TypeTree → Outline
declared_outline t = record {
  name = t.name.text;
  version = with_item t.version (λ v. v.n) 1;
  slots = slots_of t.vars;
  operations = map (declared_operation t.classes) t.operations;
  setup = record {
    limits = map (λ c. c.limit.n) t.classes;
    declared = length t.processes;
    monitors = length t.monitors;
    conditions = map (λ c. c.monitor) t.conditions;
  };
}

-- what is seen of a type
abbrev pub outline_of : Edentype → Outline
outline_of (native n) = native_outline n
outline_of (declared t) = declared_outline t
