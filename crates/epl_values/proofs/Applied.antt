-- Built-in functions of their arguments, and expressions in a row.
use Rattle.std.proofs.Common.{◌≡◌, ◌≢◌, ℕ, zero, suc, ◌+◌, ◌<◌, ◌≤◌, List, [], ◌∷◌, ◌++◌, length, drop, get_or}
use Rattle.std.proofs.Common.{ℤ, Result, Ok, Err, refl, ap, sym}
use Rattle.std.proofs.Common.{◌∙◌, arith, subst, append_assoc}
use Rattle.eden_value.specs.Datum.{Datum, number}
use Rattle.eden_value.specs.View.{datum, datums}
use Rattle.eden_value.specs.declared.value.Value.{Value}
use Rattle.epl_syntax.specs.declared.effect.FaultCause.{FaultCause}
use Rattle.epl_syntax.specs.declared.effect.FaultCause.TheVariants.{BadKind}
use Rattle.epl_syntax.specs.declared.tree.Builtin.TheVariants.{Cut, Put}
use Rattle.epl_syntax.specs.declared.tree.Expr.{Expr}
use Rattle.epl_syntax.specs.declared.tree.Operator.{Operator}
use Rattle.epl_syntax.specs.declared.tree.Operator.TheVariants as operator
use Rattle.epl_syntax.specs.Tree.{Expression, Binary, expression, expressions}
use Rattle.epl_syntax.specs.Operators.{applied, found, between, of_both}
use Rattle.epl_syntax.specs.Memory.{Memory}
use Rattle.epl_syntax.specs.Expressions.{value_of, values_of}
use Rattle.epl_values.specs.Comes.{Stops, Comes, IsNumber}
use Rattle.epl_values.specs.declared.stop.Stop.{Stop}
use Rattle.epl_values.specs.declared.stop.Stop.TheVariants as halt
use Rattle.epl_values.proofs.Operands.{append_datums}

-- with another number of arguments they fault
pub cut_wrong : (vs : List Value) → length vs ≢ 2 → applied Cut (datums vs) ≡ Err BadKind
cut_wrong [] h = refl
cut_wrong (a ∷ []) h = refl
cut_wrong (a ∷ b ∷ []) h = absurd (h refl)
cut_wrong (a ∷ b ∷ c ∷ vs) h = refl

pub put_wrong : (vs : List Value) → length vs ≢ 3 → applied Put (datums vs) ≡ Err BadKind
put_wrong [] h = refl
put_wrong (a ∷ []) h = refl
put_wrong (a ∷ b ∷ []) h = refl
put_wrong (a ∷ b ∷ c ∷ []) h = absurd (h refl)
put_wrong (a ∷ b ∷ c ∷ d ∷ vs) h = refl

-- ---- an operator between two numbers
numbers_meet : (o : Operator) (a b : ℤ) → between o (number a) (Ok (number b)) ≡ of_both o (number a) (number b)
numbers_meet operator.Or a b = refl
numbers_meet operator.And a b = refl
numbers_meet operator.Equal a b = refl
numbers_meet operator.Different a b = refl
numbers_meet operator.Less a b = refl
numbers_meet operator.LessEqual a b = refl
numbers_meet operator.Greater a b = refl
numbers_meet operator.GreaterEqual a b = refl
numbers_meet operator.Add a b = refl
numbers_meet operator.Subtract a b = refl
numbers_meet operator.Join a b = refl
numbers_meet operator.Multiply a b = refl
numbers_meet operator.Divide a b = refl
numbers_meet operator.Modulo a b = refl

pub between_numbers : (m : Memory) (o : Operator) (left right : Expression) (place : ℕ) (e : Expression) (a b : ℤ) (r : Result Value Stop)
    → e ≡ Binary o left right place → IsNumber m left a → IsNumber m right b → Comes datum r (of_both o (number a) (number b))
    → Comes datum r (value_of m e)
between_numbers m o left right place e a b r is one other h =
    subst (Comes datum r)
    (sym
    (ap (value_of m) is
    ∙ ap (λ x. found x (λ d. between o d (value_of m right))) one
    ∙ ap (between o (number a)) other
    ∙ numbers_meet o a b))
    h

-- ---- rows of expressions
drop_one : (es : List Expr) (i : ℕ) (e : Expr) → i < length es → e ≡ get_or es i e → drop i es ≡ e ∷ drop (i + 1) es
drop_one [] i e h k = absurd (omega arith)
drop_one (x ∷ es) zero e h k = ap (λ y. y ∷ es) (sym k)
drop_one (x ∷ es) (suc i) e h k =
    let n : suc i + 1 ≡ suc (i + 1) = omega arith in
    drop_one es i e (omega arith) k ∙ ap (λ j. e ∷ drop j (x ∷ es)) (sym n)

-- what is left of a row, behind what is found
abbrev pub row_behind : Memory → List Value → List Expr → Result (List Datum) FaultCause
row_behind m vs es = found (values_of m (expressions es)) (λ ds. Ok (datums vs ++ ds))

one_more : (vs : List Value) (v : Value) (r : Result (List Datum) FaultCause)
    → found (found r (λ ds. Ok (datum v ∷ ds))) (λ ds. Ok (datums vs ++ ds)) ≡ found r (λ ds. Ok (datums (vs ++ v ∷ []) ++ ds))
one_more vs v (Err cause) = refl
one_more vs v (Ok ds) = ap Ok (sym (ap (λ xs. xs ++ ds) (append_datums vs (v ∷ [])) ∙ append_assoc (datums vs) (datum v ∷ []) ds))

pub row_next : (m : Memory) (vs new : List Value) (es : List Expr) (i : ℕ) (e : Expr) (v : Value) (whole : Result (List Datum) FaultCause)
    → i < length es → e ≡ get_or es i e → value_of m (expression e) ≡ Ok (datum v) → new ≡ vs ++ v ∷ []
    → row_behind m vs (drop i es) ≡ whole → row_behind m new (drop (i + 1) es) ≡ whole
row_next m vs new es i e v whole h k is made so_far =
    ap (λ xs. row_behind m xs (drop (i + 1) es)) made
    ∙ sym (one_more vs v (values_of m (expressions (drop (i + 1) es))))
    ∙ sym (ap (λ r. found (found r (λ d. found (values_of m (expressions (drop (i + 1) es))) (λ ds. Ok (d ∷ ds))))
    (λ ds. Ok (datums vs ++ ds))) is)
    ∙ sym (ap (row_behind m vs) (drop_one es i e h k)) ∙ so_far

pub row_stops : (m : Memory) (vs : List Value) (es : List Expr) (i : ℕ) (e : Expr) (stop : Stop) (whole : Result (List Datum) FaultCause)
    → i < length es → e ≡ get_or es i e → Stops stop (value_of m (expression e))
    → row_behind m vs (drop i es) ≡ whole → Stops stop whole
row_stops m vs es i e stop whole h k is so_far =
    subst (Stops stop) (sym (ap (row_behind m vs) (drop_one es i e h k)) ∙ so_far)
    (by stop (value_of m (expression e)) (values_of m (expressions (drop (i + 1) es))) is)
  where
    by : (stop : Stop) (r : Result Datum FaultCause) (more : Result (List Datum) FaultCause) → Stops stop r
        → Stops stop (found (found r (λ d. found more (λ ds. Ok (d ∷ ds)))) (λ ds. Ok (datums vs ++ ds)))
    by halt.Memory r more h = tt
    by (halt.Fault cause) r more h = ap (λ q. found (found q (λ d. found more (λ ds. Ok (d ∷ ds)))) (λ ds. Ok (datums vs ++ ds))) h

past : (es : List Expr) (i : ℕ) → length es ≤ i → drop i es ≡ []
past [] i h = drop_none i
  where
    drop_none : (i : ℕ) → drop {A = Expr} i [] ≡ []
    drop_none zero = refl
    drop_none (suc i) = refl
past (e ∷ es) zero h = absurd (omega arith)
past (e ∷ es) (suc i) h = past es i (omega arith)

append_nil : (ds : List Datum) → ds ++ [] ≡ ds
append_nil [] = refl
append_nil (d ∷ ds) = ap (λ xs. d ∷ xs) (append_nil ds)

-- a row that is over
pub row_done : (m : Memory) (vs : List Value) (es : List Expr) (i : ℕ) (whole : Result (List Datum) FaultCause) → length es ≤ i
    → row_behind m vs (drop i es) ≡ whole → whole ≡ Ok (datums vs)
row_done m vs es i whole h so_far = sym so_far ∙ ap (row_behind m vs) (past es i h) ∙ ap Ok (append_nil (datums vs))
