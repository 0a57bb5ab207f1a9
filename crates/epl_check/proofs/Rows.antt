-- The turns of loops over the rows of a tree.
use Rattle.std.proofs.Common.{◌≡◌, ℕ, zero, suc, ◌+◌, ◌<◌, ◌≤◌, Bool, true, refl, ap, sym, ◌∙◌, List, [], ◌∷◌, ◌++◌}
use Rattle.std.proofs.Common.{map, length, take, drop, get_or, Option, Some, None, arith}
use Rattle.eden_value.specs.Shape.{Shape}
use Rattle.epl_syntax.specs.Tree.{PlacedShape, written, Expression, Expressions, expression_and, expression}
use Rattle.epl_syntax.specs.Tree.{expressions, statement, statements}
use Rattle.epl_syntax.specs.declared.tree.Expr.{Expr}
use Rattle.epl_syntax.specs.declared.tree.Stmt.{Stmt}
use Rattle.epl_syntax.specs.declared.rule.Broken.{Broken}
use Rattle.epl_syntax.specs.Rules.First.{least}
use Rattle.epl_syntax.specs.Rules.Scopes.{Scope}
use Rattle.epl_syntax.specs.Rules.KindsOf.{kind_of, kind_of_first}
use Rattle.epl_syntax.specs.Rules.InExpressions.{place_of, failing, misfit_known, broken_expression, broken_items, broken_arguments, count}
use Rattle.std.specs.List.{flat_map}
use Rattle.std.specs.Prelude.{slice_get}
use Rattle.std.specs.Borrow.{Bor}
use Rattle.std.specs.Slice.{IsItemAt}
use Rattle.epl_syntax.specs.declared.tree.WrittenKind.{WrittenKind}
use Rattle.epl_syntax.specs.Rules.InStatements.{broken_statement, broken_block, broken_values}
use Rattle.epl_check.specs.View.{first_of, passes_at, kind_wanted, broken_value}
use Rattle.epl_check.proofs.Least.{least_append, drop_item}

pub count_is : (es : List Expr) → count (expressions es) ≡ length es
count_is [] = refl
count_is (e ∷ es) = omega (arith, count_is es)

-- ---- the kind of the first one
pub first_turn : (sc : Scope) (es : List Expr) (i : ℕ) (e : Expr) (first this : Option Shape) → i < length es → e ≡ get_or es i e
    → first ≡ kind_of_first sc (expressions (take i es)) → this ≡ kind_of sc (expression e)
    → first_of i first this ≡ kind_of_first sc (expressions (take (i + 1) es))
first_turn sc [] i e first this h k l m = absurd (omega arith)
first_turn sc (x ∷ es) zero e first this h k l m = m ∙ ap (λ y. kind_of sc (expression y)) k
first_turn sc (x ∷ es) (suc i) e first this h k l m =
    let n : suc i + 1 ≡ suc (i + 1) = omega arith in
    l ∙ ap (λ j. kind_of_first sc (expressions (take j (x ∷ es)))) (sym n)

pub first_whole : (sc : Scope) (es : List Expr) (i : ℕ) → i < length es
    → kind_of_first sc (expressions (take (i + 1) es)) ≡ kind_of_first sc (expressions es)
first_whole sc [] i h = absurd (omega arith)
first_whole sc (x ∷ es) i h =
    let n : i + 1 ≡ suc i = omega arith in
    ap (λ j. kind_of_first sc (expressions (take j (x ∷ es)))) n

-- ---- a turn of the items
pub items_turn : (sc : Scope) (held : Option ℕ) (es : List Expr) (i : ℕ) (e : Expr) (wanted : Option Shape) (o o1 o2 whole : Option Broken)
    → i < length es → e ≡ get_or es i e
    → o1 ≡ least o (broken_expression sc held (expression e))
    → o2 ≡ least o1 (misfit_known wanted (kind_of sc (expression e)) (place_of (expression e)))
    → least o (broken_items sc held wanted (expressions (drop i es))) ≡ whole
    → least o2 (broken_items sc held wanted (expressions (drop (i + 1) es))) ≡ whole
items_turn sc held es i e wanted o o1 o2 whole h k told fits w =
    let x = expression e in
    let rest = broken_items sc held wanted (expressions (drop (i + 1) es)) in
    let a = broken_expression sc held x in
    let b = misfit_known wanted (kind_of sc x) (place_of x) in
    ap (λ p. least p rest) (fits ∙ ap (λ p. least p b) told ∙ sym (least_append o a b))
    ∙ sym (least_append o (a ++ b) rest)
    ∙ sym (ap (λ l. least o (broken_items sc held wanted (expressions l))) (drop_item es i e h k))
    ∙ w

-- ---- a turn of the arguments
next_test : (ts : List (Shape → Bool)) (i : ℕ) → drop 1 (drop i ts) ≡ drop (i + 1) ts
next_test [] zero = refl
next_test [] (suc i) =
    let n : suc i + 1 ≡ suc (i + 1) = omega arith in
    ap (λ j. drop j []) (sym n)
next_test (t ∷ ts) zero = refl
next_test (t ∷ ts) (suc i) =
    let n : suc i + 1 ≡ suc (i + 1) = omega arith in
    next_test ts i ∙ ap (λ j. drop j (t ∷ ts)) (sym n)

this_test : (ts : List (Shape → Bool)) (i : ℕ) (s : Shape) → passes_at (drop i ts) 0 s ≡ passes_at ts i s
this_test [] zero s = refl
this_test [] (suc i) s = refl
this_test (t ∷ ts) zero s = refl
this_test (t ∷ ts) (suc i) s = this_test ts i s

append_nothing : {A : Type 0} (xs : List A) → xs ++ [] ≡ xs
append_nothing [] = refl
append_nothing (x ∷ xs) = ap (λ l. x ∷ l) (append_nothing xs)

any_fits : (k : Option Shape) (place : ℕ) → failing (λ s. true) k place ≡ []
any_fits None place = refl
any_fits (Some s) place = refl

one_argument : (sc : Scope) (held : Option ℕ) (ts : List (Shape → Bool)) (x : Expression) (xs : Expressions)
    → broken_arguments sc held ts (expression_and x xs)
    ≡ broken_expression sc held x ++ failing (passes_at ts 0) (kind_of sc x) (place_of x) ++ broken_arguments sc held (drop 1 ts) xs
one_argument sc held (t ∷ ts) x xs = refl
one_argument sc held [] x xs =
    sym (ap (λ l. l ++ broken_arguments sc held [] xs) (ap (λ l. broken_expression sc held x ++ l) (any_fits (kind_of sc x) (place_of x))
    ∙ append_nothing (broken_expression sc held x)))

same_failing : (f g : Shape → Bool) (k : Option Shape) (place : ℕ) → ((s : Shape) → f s ≡ g s) → failing f k place ≡ failing g k place
same_failing f g None place h = refl
same_failing f g (Some s) place h = ap (λ b. failing (λ t. b) (Some s) place) (h s)

pub arguments_turn : (sc : Scope) (held : Option ℕ) (es : List Expr) (i : ℕ) (e : Expr) (ts : List (Shape → Bool))
    (o o1 o2 whole : Option Broken)
    → i < length es → e ≡ get_or es i e
    → o1 ≡ least o (broken_expression sc held (expression e))
    → o2 ≡ least o1 (failing (passes_at ts i) (kind_of sc (expression e)) (place_of (expression e)))
    → least o (broken_arguments sc held (drop i ts) (expressions (drop i es))) ≡ whole
    → least o2 (broken_arguments sc held (drop (i + 1) ts) (expressions (drop (i + 1) es))) ≡ whole
arguments_turn sc held es i e ts o o1 o2 whole h k told fits w =
    let x = expression e in
    let rest = broken_arguments sc held (drop (i + 1) ts) (expressions (drop (i + 1) es)) in
    let a = broken_expression sc held x in
    let b = failing (passes_at (drop i ts) 0) (kind_of sc x) (place_of x) in
    let same : failing (passes_at ts i) (kind_of sc x) (place_of x) ≡ b =
    sym (same_failing (passes_at (drop i ts) 0) (passes_at ts i) (kind_of sc x) (place_of x) (this_test ts i)) in
    ap (λ p. least p rest) (fits ∙ ap (λ l. least o1 l) same ∙ ap (λ p. least p b) told ∙ sym (least_append o a b))
    ∙ sym (least_append o (a ++ b) rest)
    ∙ ap (λ l. least o (a ++ b ++ broken_arguments sc held l (expressions (drop (i + 1) es)))) (sym (next_test ts i))
    ∙ sym (ap (least o) (one_argument sc held (drop i ts) x (expressions (drop (i + 1) es))))
    ∙ sym (ap (λ l. least o (broken_arguments sc held (drop i ts) (expressions l))) (drop_item es i e h k))
    ∙ w

-- ---- whole loops, from what each step tells
pub items_step : (sc : Scope) (held : Option ℕ) (es : List Expr) (i : ℕ) (e : Expr) (first this now : Option Shape)
    (o o1 o2 whole : Option Broken)
    → i < length es → e ≡ get_or es i e
    → first ≡ kind_of_first sc (expressions (take i es)) → this ≡ kind_of sc (expression e) → now ≡ first_of i first this
    → o1 ≡ least o (broken_expression sc held (expression e))
    → o2 ≡ least o1 (misfit_known now this (place_of (expression e)))
    → least o (broken_items sc held (kind_of_first sc (expressions es)) (expressions (drop i es))) ≡ whole
    → (now ≡ kind_of_first sc (expressions (take (i + 1) es)))
    × (least o2 (broken_items sc held (kind_of_first sc (expressions es)) (expressions (drop (i + 1) es))) ≡ whole)
items_step sc held es i e first this now o o1 o2 whole h k f t n told fits w =
    let kind = n ∙ first_turn sc es i e first this h k f t in
    let x = expression e in
    let wanted = kind ∙ first_whole sc es i h in (
      kind,
      items_turn sc held es i e (kind_of_first sc (expressions es)) o o1 o2 whole h k told
          (fits ∙ ap (λ a. least o1 (misfit_known a this (place_of x))) wanted
          ∙ ap (λ a. least o1 (misfit_known (kind_of_first sc (expressions es)) a (place_of x))) t) w,
    )

pub arguments_step : (sc : Scope) (held : Option ℕ) (es : List Expr) (i : ℕ) (e : Expr) (tests : Option Shape → List (Shape → Bool))
    (first this now : Option Shape) (o o1 o2 whole : Option Broken)
    → i < length es → e ≡ get_or es i e
    → first ≡ kind_of_first sc (expressions (take i es)) → this ≡ kind_of sc (expression e) → now ≡ first_of i first this
    → o1 ≡ least o (broken_expression sc held (expression e))
    → o2 ≡ least o1 (failing (passes_at (tests now) i) this (place_of (expression e)))
    → least o (broken_arguments sc held (drop i (tests (kind_of_first sc (expressions es)))) (expressions (drop i es))) ≡ whole
    → (now ≡ kind_of_first sc (expressions (take (i + 1) es)))
    × (least o2 (broken_arguments sc held (drop (i + 1) (tests (kind_of_first sc (expressions es)))) (expressions (drop (i + 1) es)))
    ≡ whole)
arguments_step sc held es i e tests first this now o o1 o2 whole h k f t n told fits w =
    let kind = n ∙ first_turn sc es i e first this h k f t in
    let x = expression e in
    let wanted = kind ∙ first_whole sc es i h in (
      kind,
      arguments_turn sc held es i e (tests (kind_of_first sc (expressions es))) o o1 o2 whole h k told
          (fits ∙ ap (λ a. least o1 (failing (passes_at (tests a) i) this (place_of x))) wanted
          ∙ ap (λ a. least o1 (failing (passes_at (tests (kind_of_first sc (expressions es))) i) a (place_of x))) t) w,
    )

-- ---- turns of loops over statements and values
pub block_turn : (sc : Scope) (held : Option ℕ) (ss : List Stmt) (i : ℕ) (s : Stmt) (o o' whole : Option Broken)
    → i < length ss → s ≡ get_or ss i s → o' ≡ least o (broken_statement sc held (statement s))
    → least o (broken_block sc held (statements (drop i ss))) ≡ whole
    → least o' (broken_block sc held (statements (drop (i + 1) ss))) ≡ whole
block_turn sc held ss i s o o' whole h k told w =
    let rest = broken_block sc held (statements (drop (i + 1) ss)) in
    ap (λ p. least p rest) told
    ∙ sym (least_append o (broken_statement sc held (statement s)) rest)
    ∙ sym (ap (λ l. least o (broken_block sc held (statements l))) (drop_item ss i s h k))
    ∙ w

pub flat_map_map : {A B : Type 0} (f : B → List Broken) (g : A → B) (xs : List A) → flat_map f (map g xs) ≡ flat_map (λ x. f (g x)) xs
flat_map_map f g [] = refl
flat_map_map f g (x ∷ xs) = ap (λ l. f (g x) ++ l) (flat_map_map f g xs)

pub map_map : {A B C : Type 0} (f : B → C) (g : A → B) (xs : List A) → map f (map g xs) ≡ map (λ x. f (g x)) xs
map_map f g [] = refl
map_map f g (x ∷ xs) = ap (λ l. f (g x) ∷ l) (map_map f g xs)

-- ---- a turn of the values of a `return`
get_past : (ws : List WrittenKind) (i : ℕ) → length ws ≤ i → None ≡ slice_get (map written ws) i
get_past [] i h = refl
get_past (w ∷ ws) zero h = absurd (omega arith)
get_past (w ∷ ws) (suc i) h = get_past ws i (omega arith)

get_there : (ws : List WrittenKind) (i : ℕ) (w : WrittenKind) → i < length ws → w ≡ get_or ws i w
    → Some (written w) ≡ slice_get (map written ws) i
get_there [] i w h k = absurd (omega arith)
get_there (x ∷ ws) zero w h k = ap (λ y. Some (written y)) k
get_there (x ∷ ws) (suc i) w h k = get_there ws i w (omega arith) k

pub kind_at : (ws : List WrittenKind) (i : ℕ) (r : Option (Bor WrittenKind)) → IsItemAt ws i r
    → kind_wanted r ≡ slice_get (map written ws) i
kind_at ws i None h = get_past ws i h.3
kind_at ws i (Some k) h = get_there ws i k.now h.3.0 (h.3.1 k.now)

one_value : (sc : Scope) (held : Option ℕ) (ks : List PlacedShape) (e : Expression) (es : List Expression)
    → broken_values sc held ks (e ∷ es) ≡ broken_value sc held (slice_get ks 0) e ++ broken_values sc held (drop 1 ks) es
one_value sc held [] e es = refl
one_value sc held (k ∷ ks) e es = refl

this_kind : (ws : List WrittenKind) (i : ℕ) → slice_get (map written (drop i ws)) 0 ≡ slice_get (map written ws) i
this_kind [] zero = refl
this_kind [] (suc i) = refl
this_kind (w ∷ ws) zero = refl
this_kind (w ∷ ws) (suc i) = this_kind ws i

next_kinds : (ws : List WrittenKind) (i : ℕ) → drop 1 (map written (drop i ws)) ≡ map written (drop (i + 1) ws)
next_kinds [] zero = refl
next_kinds [] (suc i) =
    let n : suc i + 1 ≡ suc (i + 1) = omega arith in
    ap (λ j. map written (drop j [])) (sym n)
next_kinds (w ∷ ws) zero = refl
next_kinds (w ∷ ws) (suc i) =
    let n : suc i + 1 ≡ suc (i + 1) = omega arith in
    next_kinds ws i ∙ ap (λ j. map written (drop j (w ∷ ws))) (sym n)

pub values_turn : (sc : Scope) (held : Option ℕ) (ws : List WrittenKind) (es : List Expr) (i : ℕ) (e : Expr) (k : Option PlacedShape)
    (o o' whole : Option Broken)
    → i < length es → e ≡ get_or es i e → k ≡ slice_get (map written ws) i
    → o' ≡ least o (broken_value sc held k (expression e))
    → least o (broken_values sc held (map written (drop i ws)) (map expression (drop i es))) ≡ whole
    → least o' (broken_values sc held (map written (drop (i + 1) ws)) (map expression (drop (i + 1) es))) ≡ whole
values_turn sc held ws es i e k o o' whole h a b told w =
    let x = expression e in
    let xs = map expression (drop (i + 1) es) in
    let ks = map written (drop i ws) in
    let rest = broken_values sc held (map written (drop (i + 1) ws)) xs in
    let this = broken_value sc held (slice_get ks 0) x in
    ap (λ p. least p rest) (told ∙ ap (λ j. least o (broken_value sc held j x)) (b ∙ sym (this_kind ws i)))
    ∙ sym (least_append o this rest)
    ∙ ap (λ l. least o (this ++ broken_values sc held l xs)) (sym (next_kinds ws i))
    ∙ sym (ap (least o) (one_value sc held ks x xs))
    ∙ sym (ap (λ l. least o (broken_values sc held ks (map expression l))) (drop_item es i e h a))
    ∙ w
