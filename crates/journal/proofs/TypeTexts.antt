-- Types of worked histories, as the trees of their texts. No meaning looks at a place, so all places are 0.
use Rattle.std.proofs.Common.{ℕ, pos, true, false, List, [], ◌∷◌, map, None, Some, codes}
use Rattle.eden_value.specs.Shape.{Shape, ints, truths, caps}
use Rattle.epl_syntax.specs.declared.tree.Name.{Name}
use Rattle.epl_syntax.specs.declared.tree.Number.{Number}
use Rattle.epl_syntax.specs.declared.tree.Prefix.TheVariants.{Not}
use Rattle.epl_syntax.specs.declared.tree.Operator.{Operator}
use Rattle.epl_syntax.specs.declared.tree.Operator.TheVariants.{Add, Divide, Multiply, Less}
use Rattle.epl_syntax.specs.declared.tree.Builtin.TheVariants.{Restrict}
use Rattle.epl_syntax.specs.declared.tree.ClassDecl.{ClassDecl}
use Rattle.epl_syntax.specs.declared.tree.CondDecl.{CondDecl}
use Rattle.epl_syntax.specs.declared.tree.Target.TheVariants as target
use Rattle.epl_syntax.specs.Tree.{TypeTree, Operation, Process, Upgrade, Variable, Local, Parameter, PlacedShape, Beginning}
use Rattle.epl_syntax.specs.Tree.{Constant, integer, truth, absent, Expression, Const_, Name_, Unary, Binary, Apply, in_order}
use Rattle.epl_syntax.specs.Tree.{Statement, Assign, While, With, Wait, Signal, Checkpoint, Invoke, Return, block_of}

-- 1. Words for them

abbrev called : List ℕ → Name
called text = record { text = text; place = 0 }

abbrev written : ℕ → Number
written n = record { n = n; place = 0 }

abbrev of_kind : Shape → PlacedShape
of_kind s = record { shape = s; place = 0 }

abbrev from : Constant → Beginning
from c = record { value = c; place = 0 }

abbrev takes : List ℕ → Shape → Parameter
takes name kind = record { name = called name; kind = of_kind kind }

abbrev local : List ℕ → Shape → Constant → Local
local name kind start = record { name = called name; kind = of_kind kind; start = from start }

-- a variable of the type, in no monitor
abbrev durable : List ℕ → Shape → Constant → Variable
durable name kind start = record { name = called name; kind = of_kind kind; durable = true; start = from start; monitor = 0 }

-- a working variable of the first monitor
abbrev guarded : List ℕ → Shape → Constant → Variable
guarded name kind start = record { name = called name; kind = of_kind kind; durable = false; start = from start; monitor = 1 }

abbrev class : List ℕ → ℕ → ClassDecl
class name limit = record { name = called name; limit = written limit }

abbrev all_one : List ClassDecl
all_one = class (codes "all") 1 ∷ []

abbrev operation : List ℕ → ℕ → List ℕ → List Parameter → List Shape → List Local → List Statement → Operation
operation name needs class params results locals body = record {
  name = called name;
  needs = written needs;
  class = called class;
  params = params;
  results = map of_kind results;
  locals = locals;
  body = body;
}

-- a type with one monitor or none, and no upgrade
abbrev monitored : List ℕ → List Variable → List ClassDecl → List Name → List CondDecl → List Operation → List Process → TypeTree
monitored name vars classes monitors conditions operations processes = record {
  name = called name;
  version = None;
  vars = vars;
  classes = classes;
  monitors = monitors;
  conditions = conditions;
  operations = operations;
  processes = processes;
  upgrades = [];
}

abbrev simple : List ℕ → List Variable → List Operation → TypeTree
simple name vars operations = monitored name vars all_one [] [] operations []

abbrev number : ℕ → Expression
number n = Const_ (integer (pos n)) 0

abbrev var : List ℕ → Expression
var name = Name_ (called name)

abbrev by : Operator → Expression → Expression → Expression
by o a b = Binary o a b 0

abbrev sets : List ℕ → Expression → Statement
sets name e = Assign (called name) e

abbrev inside : List Statement → Statement
inside body = With (called (codes "M")) (block_of body) 0

abbrev looped : Expression → List Statement → Statement
looped test body = While test (block_of body) 0

abbrev checkpoints : List ℕ → Statement
checkpoints status = Checkpoint (called status) 0

abbrev gives_back : List Expression → Statement
gives_back es = Return es 0

-- 2. Callers of Pass wait until Open was called.

abbrev pub gate : TypeTree
gate = monitored (codes "Gate") (guarded (codes "free") truths (truth false) ∷ [])
    (class (codes "pass") 2 ∷ class (codes "one") 1 ∷ []) (called (codes "M") ∷ [])
    (record { name = called (codes "c"); monitor = 1 } ∷ [])
    (operation (codes "Pass") 1 (codes "pass") [] (ints ∷ []) (local (codes "r") ints (integer (pos 0)) ∷ [])
    (inside (looped (Unary Not (var (codes "free")) 0) (Wait (called (codes "c")) 0 ∷ []) ∷ sets (codes "r") (number 1) ∷ [])
    ∷ gives_back (var (codes "r") ∷ []) ∷ [])
    ∷ operation (codes "Open") 2 (codes "one") [] [] []
    (inside (sets (codes "free") (Const_ (truth true) 0) ∷ Signal (called (codes "c")) 0 ∷ []) ∷ gives_back [] ∷ []) ∷ []) []

-- 3. Poke asks the other Eject for the same.

abbrev pub peer : TypeTree
peer = simple (codes "Peer") []
    (operation (codes "Poke") 1 (codes "all") (takes (codes "other") caps ∷ takes (codes "back") caps ∷ []) (ints ∷ [])
    (local (codes "s") ints (integer (pos 0)) ∷ local (codes "r") ints (integer (pos 0)) ∷ [])
    (Invoke (target.Name (called (codes "other"))) (called (codes "Poke")) (var (codes "back") ∷ var (codes "other") ∷ [])
    (called (codes "s")) (called (codes "r") ∷ []) 0
    ∷ gives_back (var (codes "s") ∷ []) ∷ []) ∷ [])

-- 4. Part divides 10.

abbrev pub half : TypeTree
half = simple (codes "Half") []
    (operation (codes "Part") 1 (codes "all") (takes (codes "n") ints ∷ []) (ints ∷ []) []
    (gives_back (by Divide (number 10) (var (codes "n")) ∷ []) ∷ []) ∷ [])

-- 5. Run counts up to its argument.

abbrev pub spin : TypeTree
spin = simple (codes "Spin") []
    (operation (codes "Run") 1 (codes "all") (takes (codes "n") ints ∷ []) (ints ∷ []) (local (codes "i") ints (integer (pos 0)) ∷ [])
    (looped (by Less (var (codes "i")) (var (codes "n"))) (sets (codes "i") (by Add (var (codes "i")) (number 1)) ∷ [])
    ∷ gives_back (var (codes "i") ∷ []) ∷ []) ∷ [])

-- 6. A process that is declared writes what Read reads.

abbrev pub once : TypeTree
once = monitored (codes "Once") (guarded (codes "n") ints (integer (pos 0)) ∷ []) (class (codes "all") 2 ∷ []) (called (codes "M") ∷ []) []
    (operation (codes "Read") 1 (codes "all") [] (ints ∷ []) (local (codes "r") ints (integer (pos 0)) ∷ [])
    (inside (sets (codes "r") (var (codes "n")) ∷ []) ∷ gives_back (var (codes "r") ∷ []) ∷ []) ∷ [])
    (record { name = called (codes "P"); locals = []; body = inside (sets (codes "n") (number 7) ∷ []) ∷ [] } ∷ [])

-- 7. Add keeps a sum. Of the second version Both is asked, which starts from what the first kept by its upgrade.

abbrev pub tally : TypeTree
tally = simple (codes "Tally") (durable (codes "n") ints (integer (pos 0)) ∷ [])
    (operation (codes "Add") 1 (codes "all") (takes (codes "k") ints ∷ []) (ints ∷ []) (local (codes "s") ints (integer (pos 0)) ∷ [])
    (sets (codes "n") (by Add (var (codes "n")) (var (codes "k"))) ∷ checkpoints (codes "s") ∷ gives_back (var (codes "s") ∷ []) ∷ []) ∷ [])

-- with these upgrades
abbrev pub later_tally : List Upgrade → TypeTree
later_tally upgrades = record (simple (codes "Tally")
    (durable (codes "n") ints (integer (pos 0)) ∷ durable (codes "twice") ints (integer (pos 0)) ∷ [])
    (operation (codes "Both") 1 (codes "all") [] (ints ∷ ints ∷ []) []
    (gives_back (var (codes "n") ∷ var (codes "twice") ∷ []) ∷ []) ∷ [])) { version = Some (written 2); upgrades = upgrades }

-- n is the old value, and twice is made of it by this
abbrev pub from_first : Expression → Upgrade
from_first twice = record {
  from = written 1;
  params = takes (codes "old") ints ∷ [];
  changes = record { name = called (codes "n"); value = var (codes "old") } ∷ record { name = called (codes "twice"); value = twice } ∷ [];
  place = 0;
}

abbrev pub doubled : Expression
doubled = by Multiply (var (codes "old")) (number 2)

abbrev pub by_zero : Expression
by_zero = by Divide (var (codes "old")) (number 0)

-- 8. Keep keeps a capability, and Fetch gives it back.

abbrev pub box : TypeTree
box = simple (codes "Box") (durable (codes "held") caps absent ∷ [])
    (operation (codes "Keep") 1 (codes "all") (takes (codes "c") caps ∷ []) (ints ∷ []) (local (codes "s") ints (integer (pos 0)) ∷ [])
    (sets (codes "held") (Apply Restrict (in_order (var (codes "c") ∷ number 65535 ∷ [])) 0) ∷ checkpoints (codes "s")
    ∷ gives_back (var (codes "s") ∷ []) ∷ [])
    ∷ operation (codes "Fetch") 2 (codes "all") [] (caps ∷ []) [] (gives_back (var (codes "held") ∷ []) ∷ []) ∷ [])
