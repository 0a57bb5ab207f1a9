-- What the code's short forms stand for.
use Rattle.std.specs.Prelude.{Bool as Truth, true, false, nat_lt, ℕ, zero, suc, List, [], ◌∷◌, ◌++◌, map, Option, Some, None}
use Rattle.std.specs.Borrow.{Bor}
use Rattle.eden_value.specs.Shape.{Shape, shape}
use Rattle.eden_value.specs.declared.kind.Kind.{Kind}
use Rattle.epl_syntax.specs.declared.tree.WrittenKind.{WrittenKind}
use Rattle.epl_syntax.specs.Tree.{PlacedShape, written, variable, local_of, parameter}
use Rattle.epl_syntax.specs.Rules.OfTypes.{TypeList, names_of}
use Rattle.epl_check.specs.declared.scope.Scope.{Scope as Sight}
use Rattle.epl_check.specs.declared.scope.Variable.{Variable}
use Rattle.epl_syntax.specs.Tree.{Expression}
use Rattle.epl_syntax.specs.declared.rule.Broken.{Broken}
use Rattle.epl_syntax.specs.declared.tree.Name.{Name}
use Rattle.epl_syntax.specs.Rules.Scopes.{Scope, Seen, clashes}
use Rattle.epl_syntax.specs.Rules.InExpressions.{broken_expression}
use Rattle.epl_syntax.specs.Rules.InStatements.{broken_as}

-- a kind that is known or not
abbrev pub found : Option Kind → Option Shape
found None = None
found (Some k) = Some (shape k)

-- a variable that is there or not
abbrev pub seen_of : Option Variable → Option Seen
seen_of None = None
seen_of (Some v) = Some (record { kind = shape v.kind.now; monitor = v.monitor })

-- the kinds of an operation's results; a process and an upgrade have none
abbrev pub results_of : Option (Bor (List WrittenKind)) → Option (List PlacedShape)
results_of None = None
results_of (Some kinds) = Some (map written kinds.now)

-- the names of the types that a type sees: its own and those of the types before it
abbrev pub types_seen : Name → TypeList → List (List ℕ)
types_seen own earlier = own.text ∷ names_of earlier

-- the scope that the code's form of one stands for
unfoldable pub seen : Sight → Scope
seen s = record {
  locals = map local_of s.locals.items.now;
  params = map parameter s.params.items.now;
  vars = map variable s.vars.items.now;
  monitors = s.monitors.items.now;
  conditions = s.conditions.items.now;
  types = types_seen s.own.now s.earlier.now;
  results = results_of s.results;
}

-- the test at a place passes; behind the last one everything does
abbrev pub passes_at : List (Shape → Truth) → ℕ → Shape → Truth
passes_at [] i s = true
passes_at (t ∷ ts) zero s = t s
passes_at (t ∷ ts) (suc i) s = passes_at ts i s

-- of three truth values the one at a place, counted from 0; behind them it is true
abbrev pub at_place : ℕ → Truth → Truth → Truth → Truth
at_place zero first second third = first
at_place (suc zero) first second third = second
at_place (suc (suc zero)) first second third = third
at_place (suc (suc (suc i))) first second third = true

-- the first of several kinds, where so many came before this one
abbrev pub first_of : ℕ → Option Shape → Option Shape → Option Shape
first_of zero first this = this
first_of (suc i) first this = first

-- a kind that is wanted, with its place, or none
abbrev pub kind_wanted : Option (Bor WrittenKind) → Option PlacedShape
kind_wanted None = None
kind_wanted (Some k) = Some (written k.now)

-- what a value of a `return` breaks, by itself and by the kind that is wanted of it, if one is
abbrev pub broken_value : Scope → Option ℕ → Option PlacedShape → Expression → List Broken
broken_value scope held None e = broken_expression scope held e
broken_value scope held (Some k) e = broken_as k.shape scope held e

-- something before a place is told already
abbrev pub is_past : Option Broken → ℕ → Truth
is_past None place = false
is_past (Some b) place = nat_lt b.place place

-- names that stand again behind them, in their list or in what follows it
abbrev pub doubled_before : List Name → List Name → List Broken
doubled_before [] rest = []
doubled_before (n ∷ ns) rest = clashes n (ns ++ rest) ++ doubled_before ns rest

-- the kind that is written, if one is
abbrev pub kind_found : Option (Bor WrittenKind) → Option Shape
kind_found None = None
kind_found (Some k) = Some (shape k.now.kind)
