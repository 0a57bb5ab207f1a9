-- Variables and expressions make no capabilities.
use Rattle.std.proofs.Common.{ℕ, Bool, true, false, cond, List, [], ◌∷◌, ◌++◌, Option, None, Some, Result, Ok, Err}
use Rattle.std.specs.Prelude.{IfOk, IfSome}
use Rattle.std.specs.List.{find, list_any}
use Rattle.capability.specs.declared.Cap.{Cap}
use Rattle.capability.specs.Capability.{full}
use Rattle.eden_value.specs.Datum.{Datum}
use Rattle.eden_model.specs.Map.{with_item}
use Rattle.epl_syntax.specs.declared.effect.FaultCause.{FaultCause}
use Rattle.epl_syntax.specs.declared.effect.FaultCause.TheVariants.{BadKind}
use Rattle.epl_syntax.specs.Tree.{Constant, integer, text, truth, absent, empty_list, Expression, Const_, Name_, Me, Unary, Binary}
use Rattle.epl_syntax.specs.Tree.{Index, ListOf, Apply, Expressions, no_expressions, expression_and, Variable, Local, Parameter}
use Rattle.epl_syntax.specs.Operators.{found, before_operand, between, item_at, list_of, applied}
use Rattle.epl_syntax.specs.Memory.{value_of_constant, Held, Memory, is_called, held_as, value_as, put_into, set, set_each, variables}
use Rattle.epl_syntax.specs.Memory.{arguments, locals}
use Rattle.epl_syntax.specs.Expressions.{value_of, values_of}
use Rattle.epl_syntax.specs.Turns.{values_in}
use Rattle.epl_syntax.specs.Authority.{IsBelowOne}
use Rattle.epl_syntax.proofs.Owned.{Owned, AllOwned, found_through}
use Rattle.epl_syntax.proofs.Operands.{FoundOwned, before_owned, between_owned, item_at_owned, list_of_owned, applied_owned}

pub constant_owned : (held : List Cap) (c : Constant) → Owned held (value_of_constant c)
constant_owned held (integer n) = tt
constant_owned held (text t) = tt
constant_owned held (truth b) = tt
constant_owned held absent = tt
constant_owned held (empty_list k) = tt

-- the values of variables
abbrev pub VarsOwned : List Cap → List Held → Type 0
VarsOwned held [] = Unit {0}
VarsOwned held (v ∷ vs) = Owned held v.value × VarsOwned held vs

pub record MemoryOwned (held : List Cap) (m : Memory) : Type 0 where
  pub own : VarsOwned held m.own
  pub shared : VarsOwned held m.shared
  pub me : IsBelowOne (full m.me) held

append_vars : (held : List Cap) (xs ys : List Held) → VarsOwned held xs → VarsOwned held ys → VarsOwned held (xs ++ ys)
append_vars held [] ys h k = k
append_vars held (x ∷ xs) ys h k = (h.0, append_vars held xs ys h.1 k)

find_owned : (held : List Cap) (test : Held → Bool) (vs : List Held) → VarsOwned held vs → IfSome (find test vs) (λ v. Owned held v.value)
find_owned held test [] h = tt
find_owned held test (v ∷ vs) h = go (test v) (find_owned held test vs h.1)
  where
    go : (b : Bool) → IfSome (find test vs) (λ v. Owned held v.value) → IfSome (cond b (Some v) (find test vs)) (λ v. Owned held v.value)
    go true k = h.0
    go false k = k

pub value_as_owned : (held : List Cap) (m : Memory) (name : List ℕ) → MemoryOwned held m → FoundOwned held (value_as m name)
value_as_owned held m name h = go (held_as m name)
    (find_owned held (is_called name) (m.own ++ m.shared) (append_vars held m.own m.shared h.own h.shared))
  where
    go : (o : Option Held) → IfSome o (λ v. Owned held v.value) → FoundOwned held (with_item o (λ v. Ok v.value) (Err BadKind))
    go None k = tt
    go (Some v) k = k

put_owned : (held : List Cap) (name : List ℕ) (d : Datum) (vs : List Held) → Owned held d → VarsOwned held vs
    → VarsOwned held (put_into name d vs)
put_owned held name d [] h k = tt
put_owned held name d (v ∷ vs) h k = go (is_called name v) (put_owned held name d vs h k.1)
  where
    go : (b : Bool) → VarsOwned held (put_into name d vs) → VarsOwned held (cond b (record v { value = d } ∷ vs) (v ∷ put_into name d vs))
    go true x = (h, k.1)
    go false x = (k.0, x)

pub set_owned : (held : List Cap) (name : List ℕ) (d : Datum) (m : Memory) → Owned held d → MemoryOwned held m
    → MemoryOwned held (set name d m)
set_owned held name d m h k = go (list_any (is_called name) m.own)
  where
    go : (b : Bool) → MemoryOwned held (cond b (record m { own = put_into name d m.own }) (record m { shared = put_into name d m.shared }))
    go true = record { own = put_owned held name d m.own h k.own; shared = k.shared; me = k.me }
    go false = record { own = k.own; shared = put_owned held name d m.shared h k.shared; me = k.me }

pub set_each_owned : (held : List Cap) (names : List (List ℕ)) (ds : List Datum) (m : Memory) → AllOwned held ds → MemoryOwned held m
    → MemoryOwned held (set_each names ds m)
set_each_owned held [] ds m h k = k
set_each_owned held (name ∷ names) [] m h k = k
set_each_owned held (name ∷ names) (d ∷ ds) m h k = set_each_owned held names ds (set name d m) h.1 (set_owned held name d m h.0 k)

pub variables_owned : (held : List Cap) (vs : List Variable) (ds : List Datum) → AllOwned held ds → VarsOwned held (variables vs ds)
variables_owned held [] ds h = tt
variables_owned held (v ∷ vs) [] h = tt
variables_owned held (v ∷ vs) (d ∷ ds) h = (h.0, variables_owned held vs ds h.1)

pub arguments_owned : (held : List Cap) (ps : List Parameter) (ds : List Datum) → AllOwned held ds → VarsOwned held (arguments ps ds)
arguments_owned held [] ds h = tt
arguments_owned held (p ∷ ps) [] h = tt
arguments_owned held (p ∷ ps) (d ∷ ds) h = (h.0, arguments_owned held ps ds h.1)

pub locals_owned : (held : List Cap) (vs : List Local) → VarsOwned held (locals vs)
locals_owned held [] = tt
locals_owned held (v ∷ vs) = (constant_owned held v.start.value, locals_owned held vs)

pub body_owned : (held : List Cap) (xs ys : List Held) → VarsOwned held xs → VarsOwned held ys → VarsOwned held (xs ++ ys)
body_owned held xs ys h k = append_vars held xs ys h k

pub values_owned : (held : List Cap) (vs : List Held) → VarsOwned held vs → AllOwned held (values_in vs)
values_owned held [] h = tt
values_owned held (v ∷ vs) h = (h.0, values_owned held vs h.1)

-- what several expressions come to
abbrev pub AllFoundOwned : List Cap → Result (List Datum) FaultCause → Type 0
AllFoundOwned held r = IfOk r (AllOwned held)

mutual
  pub value_owned : (held : List Cap) (m : Memory) → MemoryOwned held m → (e : Expression) → FoundOwned held (value_of m e)
  value_owned held m h (Const_ value place) = constant_owned held value
  value_owned held m h (Name_ name) = value_as_owned held m name.text h
  value_owned held m h (Me place) = (h.me, tt)
  value_owned held m h (Unary prefix of place) = found_through (Owned held) (Owned held) (value_of m of) (before_operand prefix)
      (value_owned held m h of) (λ d k. before_owned held prefix d)
  value_owned held m h (Binary operator left right place) =
      found_through (Owned held) (Owned held) (value_of m left) (λ d. between operator d (value_of m right)) (value_owned held m h left)
      (λ d k. between_owned held operator d (value_of m right) k (value_owned held m h right))
  value_owned held m h (Index of at place) =
      found_through (Owned held) (Owned held) (value_of m of) (λ d. found (value_of m at) (item_at d)) (value_owned held m h of)
      (λ d k. found_through (Owned held) (Owned held) (value_of m at) (item_at d) (value_owned held m h at)
      (λ i x. item_at_owned held d i k))
  value_owned held m h (ListOf items place) =
      found_through (AllOwned held) (Owned held) (values_of m items) list_of (row_owned held m h items) (λ ds k. list_of_owned held ds k)
  value_owned held m h (Apply builtin args place) = found_through (AllOwned held) (Owned held) (values_of m args) (applied builtin)
      (row_owned held m h args) (λ ds k. applied_owned held builtin ds k)

  pub row_owned : (held : List Cap) (m : Memory) → MemoryOwned held m → (es : Expressions) → AllFoundOwned held (values_of m es)
  row_owned held m h no_expressions = tt
  row_owned held m h (expression_and e es) =
      found_through (Owned held) (AllOwned held) (value_of m e) (λ d. found (values_of m es) (λ ds. Ok (d ∷ ds))) (value_owned held m h e)
      (λ d k. found_through (AllOwned held) (AllOwned held) (values_of m es) (λ ds. Ok (d ∷ ds)) (row_owned held m h es) (λ ds x. (k, x)))
