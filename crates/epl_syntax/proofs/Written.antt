-- Trees of types, written short, and turns in a row. Where a token stands says nothing of what it means, so each place is 0.
use Rattle.std.specs.Prelude.{ℕ, ℤ, pos, true, List, [], ◌∷◌, Option, codes}
use Rattle.capability.specs.declared.Uid.{Uid}
use Rattle.eden_value.specs.Datum.{Datum}
use Rattle.eden_value.specs.Shape.{ints}
use Rattle.epl_syntax.specs.declared.effect.Answer.{Answer}
use Rattle.epl_syntax.specs.declared.effect.Effect.{Effect}
use Rattle.epl_syntax.specs.declared.tree.Name.{Name}
use Rattle.epl_syntax.specs.declared.tree.Number.{Number}
use Rattle.epl_syntax.specs.declared.tree.Operator.{Operator}
use Rattle.epl_syntax.specs.Tree.{TypeTree, Variable, Parameter, Local, Operation, Upgrade, Statement, Expression, Const_, integer}
use Rattle.epl_syntax.specs.Tree.{Name_, Binary}
use Rattle.epl_syntax.specs.Edentype.{Edentype}
use Rattle.epl_syntax.specs.Meaning.{Rest, turn}

abbrev pub called : List ℕ → Name
called t = record { text = t; place = 0 }

abbrev pub numeral : ℕ → Number
numeral n = record { n = n; place = 0 }

-- a number, a variable, and an operator between two expressions
abbrev pub int : ℤ → Expression
int n = Const_ (integer n) 0

abbrev pub held_in : List ℕ → Expression
held_in t = Name_ (called t)

abbrev pub with_operator : Operator → Expression → Expression → Expression
with_operator o a b = Binary o a b 0

-- a durable integer, a parameter that is one, and a local that is one, 0 at first
abbrev pub durable_int : List ℕ → Variable
durable_int t = record {
  name = called t;
  kind = record { shape = ints; place = 0 };
  durable = true;
  start = record { value = integer (pos 0); place = 0 };
  monitor = 0;
}

abbrev pub int_parameter : List ℕ → Parameter
int_parameter t = record { name = called t; kind = record { shape = ints; place = 0 } }

abbrev pub int_local : List ℕ → Local
int_local t = record { name = called t; kind = record { shape = ints; place = 0 }; start = record { value = integer (pos 0); place = 0 } }

-- an operation that needs right 1 and returns an integer, in the one class of its type
abbrev pub operation : List ℕ → List Parameter → List Local → List Statement → Operation
operation name params locals body = record {
  name = called name;
  needs = numeral 1;
  class = called (codes "all");
  params = params;
  results = record { shape = ints; place = 0 } ∷ [];
  locals = locals;
  body = body;
}

-- a type with one class, no monitor and no process
abbrev pub simple_type : List ℕ → Option Number → List Variable → List Operation → List Upgrade → TypeTree
simple_type name version vars operations upgrades = record {
  name = called name;
  version = version;
  vars = vars;
  classes = record { name = called (codes "all"); limit = numeral 1 } ∷ [];
  monitors = [];
  conditions = [];
  operations = operations;
  processes = [];
  upgrades = upgrades;
}

-- the Eject whose turns are computed
abbrev pub me : Uid
me = record { node = 1; epoch = 1; serial = 1 }

-- the effects of a process's turns, one after the other, with these answers
abbrev pub effects : Edentype → List Datum → Rest → List Answer → List Effect
effects t vars rest [] = []
effects t vars rest (a ∷ answers) = let now = turn t vars rest a me in now.effect ∷ effects t now.vars now.rest answers
