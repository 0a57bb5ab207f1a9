-- Variables and expressions give values within the limits.
use Rattle.std.proofs.Common.{ℕ, Bool, true, false, cond, List, [], ◌∷◌, ◌++◌, Option, None, Some, Result, Ok, Err}
use Rattle.std.specs.Prelude.{IfOk, IfSome}
use Rattle.std.specs.List.{find, list_any}
use Rattle.capability.specs.Capability.{full}
use Rattle.eden_value.specs.Datum.{Datum, cap}
use Rattle.eden_model.specs.Map.{with_item}
use Rattle.epl_syntax.specs.Constants.{ExpressionFits, ExpressionsFit, LocalsFit}
use Rattle.epl_syntax.specs.Expressions.{value_of, values_of}
use Rattle.epl_syntax.specs.Memory.{Held, Memory, is_called, held_as, value_as, put_into, set, set_each, variables, arguments, locals}
use Rattle.epl_syntax.specs.Operators.{found, before_operand, between, item_at, list_of, applied}
use Rattle.epl_syntax.specs.Tree.{Expression, Const_, Name_, Me, Unary, Binary, Index, ListOf, Apply, Expressions, no_expressions}
use Rattle.epl_syntax.specs.Tree.{expression_and, Variable, Local, Parameter}
use Rattle.epl_syntax.specs.Turns.{values_in}
use Rattle.epl_syntax.specs.declared.effect.FaultCause.{FaultCause}
use Rattle.epl_syntax.specs.declared.effect.FaultCause.TheVariants.{BadKind}
use Rattle.value_laws.specs.Limited.{IsLimited, AreLimited}
use Rattle.value_laws.proofs.Operands.{FoundLimited, before_limited, between_limited, item_at_limited, list_of_limited, applied_limited}
use Rattle.value_laws.proofs.Values.{found_through}

-- the values of variables
abbrev pub VarsLimited : List Held → Type 0
VarsLimited [] = Unit {0}
VarsLimited (v ∷ vs) = IsLimited v.value × VarsLimited vs

pub record MemoryLimited (m : Memory) : Type 0 where
  pub own : VarsLimited m.own
  pub shared : VarsLimited m.shared
  pub me : IsLimited (cap (Some (full m.me)))

append_vars : (xs ys : List Held) → VarsLimited xs → VarsLimited ys → VarsLimited (xs ++ ys)
append_vars [] ys h k = k
append_vars (x ∷ xs) ys h k = (h.0, append_vars xs ys h.1 k)

find_limited : (test : Held → Bool) (vs : List Held) → VarsLimited vs → IfSome (find test vs) (λ v. IsLimited v.value)
find_limited test [] h = tt
find_limited test (v ∷ vs) h = go (test v) (find_limited test vs h.1)
  where
    go : (b : Bool) → IfSome (find test vs) (λ v. IsLimited v.value) → IfSome (cond b (Some v) (find test vs)) (λ v. IsLimited v.value)
    go true k = h.0
    go false k = k

pub value_as_limited : (m : Memory) (name : List ℕ) → MemoryLimited m → FoundLimited (value_as m name)
value_as_limited m name h = go (held_as m name)
    (find_limited (is_called name) (m.own ++ m.shared) (append_vars m.own m.shared h.own h.shared))
  where
    go : (o : Option Held) → IfSome o (λ v. IsLimited v.value) → FoundLimited (with_item o (λ v. Ok v.value) (Err BadKind))
    go None k = tt
    go (Some v) k = k

put_limited : (name : List ℕ) (d : Datum) (vs : List Held) → IsLimited d → VarsLimited vs
    → VarsLimited (put_into name d vs)
put_limited name d [] h k = tt
put_limited name d (v ∷ vs) h k = go (is_called name v) (put_limited name d vs h k.1)
  where
    go : (b : Bool) → VarsLimited (put_into name d vs) → VarsLimited (cond b (record v { value = d } ∷ vs) (v ∷ put_into name d vs))
    go true x = (h, k.1)
    go false x = (k.0, x)

pub set_limited : (name : List ℕ) (d : Datum) (m : Memory) → IsLimited d → MemoryLimited m
    → MemoryLimited (set name d m)
set_limited name d m h k = go (list_any (is_called name) m.own)
  where
    go : (b : Bool) → MemoryLimited (cond b (record m { own = put_into name d m.own }) (record m { shared = put_into name d m.shared }))
    go true = record { own = put_limited name d m.own h k.own; shared = k.shared; me = k.me }
    go false = record { own = k.own; shared = put_limited name d m.shared h k.shared; me = k.me }

pub set_each_limited : (names : List (List ℕ)) (ds : List Datum) (m : Memory) → AreLimited ds → MemoryLimited m
    → MemoryLimited (set_each names ds m)
set_each_limited [] ds m h k = k
set_each_limited (name ∷ names) [] m h k = k
set_each_limited (name ∷ names) (d ∷ ds) m h k = set_each_limited names ds (set name d m) h.1 (set_limited name d m h.0 k)

pub variables_limited : (vs : List Variable) (ds : List Datum) → AreLimited ds → VarsLimited (variables vs ds)
variables_limited [] ds h = tt
variables_limited (v ∷ vs) [] h = tt
variables_limited (v ∷ vs) (d ∷ ds) h = (h.0, variables_limited vs ds h.1)

pub arguments_limited : (ps : List Parameter) (ds : List Datum) → AreLimited ds → VarsLimited (arguments ps ds)
arguments_limited [] ds h = tt
arguments_limited (p ∷ ps) [] h = tt
arguments_limited (p ∷ ps) (d ∷ ds) h = (h.0, arguments_limited ps ds h.1)

pub locals_limited : (vs : List Local) → LocalsFit vs → VarsLimited (locals vs)
locals_limited [] h = tt
locals_limited (v ∷ vs) h = (h.0, locals_limited vs h.1)

pub body_limited : (xs ys : List Held) → VarsLimited xs → VarsLimited ys → VarsLimited (xs ++ ys)
body_limited xs ys h k = append_vars xs ys h k

pub values_limited : (vs : List Held) → VarsLimited vs → AreLimited (values_in vs)
values_limited [] h = tt
values_limited (v ∷ vs) h = (h.0, values_limited vs h.1)

-- what several expressions come to
abbrev pub AllFoundLimited : Result (List Datum) FaultCause → Type 0
AllFoundLimited r = IfOk r (AreLimited)

mutual
  pub value_limited : (m : Memory) → MemoryLimited m → (e : Expression) → ExpressionFits e → FoundLimited (value_of m e)
  value_limited m h (Const_ value place) f = f
  value_limited m h (Name_ name) f = value_as_limited m name.text h
  value_limited m h (Me place) f = h.me
  value_limited m h (Unary prefix of place) f = found_through IsLimited IsLimited (value_of m of) (before_operand prefix)
      (value_limited m h of f) (λ d k. before_limited prefix d)
  value_limited m h (Binary operator left right place) f =
      found_through IsLimited IsLimited (value_of m left) (λ d. between operator d (value_of m right)) (value_limited m h left f.0)
      (λ d k. between_limited operator d (value_of m right) k (value_limited m h right f.1))
  value_limited m h (Index of at place) f =
      found_through IsLimited IsLimited (value_of m of) (λ d. found (value_of m at) (item_at d)) (value_limited m h of f.0)
      (λ d k. found_through IsLimited IsLimited (value_of m at) (item_at d) (value_limited m h at f.1)
      (λ i x. item_at_limited d i k))
  value_limited m h (ListOf items place) f =
      found_through AreLimited IsLimited (values_of m items) list_of (row_limited m h items f) (λ ds k. list_of_limited ds k)
  value_limited m h (Apply builtin args place) f = found_through AreLimited IsLimited (values_of m args) (applied builtin)
      (row_limited m h args f) (λ ds k. applied_limited builtin ds k)

  pub row_limited : (m : Memory) → MemoryLimited m → (es : Expressions) → ExpressionsFit es → AllFoundLimited (values_of m es)
  row_limited m h no_expressions f = tt
  row_limited m h (expression_and e es) f =
      found_through IsLimited AreLimited (value_of m e) (λ d. found (values_of m es) (λ ds. Ok (d ∷ ds))) (value_limited m h e f.0)
      (λ d k. found_through AreLimited AreLimited (values_of m es) (λ ds. Ok (d ∷ ds)) (row_limited m h es f.1) (λ ds x. (k, x)))
