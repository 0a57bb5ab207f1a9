-- The results of an invocation, and the variables that take them.
use Rattle.std.proofs.Common.{◌≡◌, ℕ, zero, suc, ◌+◌, ◌<◌, ◌≤◌, Bool, true, false, cond, ◌&&◌, ◌++◌, List, [], ◌∷◌, length, drop, map}
use Rattle.std.proofs.Common.{Option, Ok, Err, not}
use Rattle.std.proofs.Common.{Some, refl, ap, sym, ◌∙◌, arith, nat_le, get_or}
use Rattle.std.specs.Prelude.{slice_get}
use Rattle.std.specs.List.{find, list_any, cons_option}
use Rattle.std.specs.Option.{option_map}
use Rattle.std.proofs.lemmas.Bool.Decides.{nat_tests}
use Rattle.eden_value.specs.declared.status.Status.{Status}
use Rattle.eden_value.specs.declared.status.Status.TheVariants as status
use Rattle.eden_value.specs.declared.value.Value.{Value}
use Rattle.eden_value.specs.Datum.{Datum}
use Rattle.eden_value.specs.View.{datum, datums}
use Rattle.epl_syntax.specs.declared.effect.FaultCause.TheVariants.{BadKind}
use Rattle.eden_value.specs.Shape.{Shape, has_shape}
use Rattle.epl_syntax.specs.Kinds.{have_shapes}
use Rattle.epl_syntax.specs.declared.tree.Name.{Name}
use Rattle.epl_syntax.specs.Memory.{Memory, Held, is_called, put_into, set, set_each}
use Rattle.epl_syntax.specs.Turns.{kinds_as, taken}
use Rattle.epl_values.specs.Variables.{kind_as_named}

-- one more value and its kind
pub shapes_at : (rs : List Datum) (i : ℕ) (d : Datum) (k : Shape) (ks : List Shape) → slice_get rs i ≡ Some d
    → have_shapes (drop i rs) (k ∷ ks) ≡ (has_shape d k && have_shapes (drop (i + 1) rs) ks)
shapes_at [] i d k ks h = absurd cc
shapes_at (r ∷ rs) zero d k ks h = let same : r ≡ d = cc in ap (λ e. has_shape e k && have_shapes rs ks) same
shapes_at (r ∷ rs) (suc i) d k ks h =
    let e : suc i + 1 ≡ suc (i + 1) = omega arith in
    shapes_at rs i d k ks h ∙ ap (λ j. has_shape d k && have_shapes (drop j (r ∷ rs)) ks) (sym e)

-- no value for a kind
pub shapes_past : (rs : List Datum) (i : ℕ) (k : Shape) (ks : List Shape) → length rs ≤ i → have_shapes (drop i rs) (k ∷ ks) ≡ false
shapes_past [] zero k ks h = refl
shapes_past [] (suc i) k ks h = refl
shapes_past (r ∷ rs) zero k ks h = absurd (omega arith)
shapes_past (r ∷ rs) (suc i) k ks h = shapes_past rs i k ks (omega arith)

-- no kind is left
pub shapes_end : (rs : List Datum) (i : ℕ) → have_shapes (drop i rs) [] ≡ nat_le (length rs) i
shapes_end [] zero = grind (arith, nat_tests)
shapes_end [] (suc i) = grind (arith, nat_tests)
shapes_end (r ∷ rs) zero = grind (arith, nat_tests)
shapes_end (r ∷ rs) (suc i) = shapes_end rs i ∙ grind (arith, nat_tests)

-- the kind of one more name
pub kind_first : (m : Memory) (name : List ℕ) (names : List (List ℕ)) (k : Option Shape) → k ≡ kind_as_named m name
    → kinds_as m (name ∷ names) ≡ cons_option k (kinds_as m names)
kind_first m name names k h = ap (λ o. cons_option o (kinds_as m names)) (sym h)

-- ---- a value that is set leaves the kinds
put_kinds : (name text : List ℕ) (d : Datum) (vs ws : List Held)
    → option_map (λ v. v.kind) (find (is_called text) (put_into name d vs ++ ws))
    ≡ option_map (λ v. v.kind) (find (is_called text) (vs ++ ws))
put_kinds name text d [] ws = refl
put_kinds name text d (v ∷ vs) ws = by (is_called name v) (is_called text v) refl (put_kinds name text d vs ws)
  where
    by : (a b : Bool) → is_called text v ≡ b
        → option_map (λ v. v.kind) (find (is_called text) (put_into name d vs ++ ws))
        ≡ option_map (λ v. v.kind) (find (is_called text) (vs ++ ws))
        → option_map (λ v. v.kind) (find (is_called text) (cond a (record v { value = d } ∷ vs) (v ∷ put_into name d vs) ++ ws))
        ≡ option_map (λ v. v.kind) (find (is_called text) (v ∷ (vs ++ ws)))
    by true true e h =
        ap (λ b. option_map (λ v. v.kind) (cond b (Some (record v { value = d })) (find (is_called text) (vs ++ ws)))) e
        ∙ sym (ap (λ b. option_map (λ v. v.kind) (cond b (Some v) (find (is_called text) (vs ++ ws)))) e)
    by true false e h =
        ap (λ b. option_map (λ v. v.kind) (cond b (Some (record v { value = d })) (find (is_called text) (vs ++ ws)))) e
        ∙ sym (ap (λ b. option_map (λ v. v.kind) (cond b (Some v) (find (is_called text) (vs ++ ws)))) e)
    by false true e h =
        ap (λ b. option_map (λ v. v.kind) (cond b (Some v) (find (is_called text) (put_into name d vs ++ ws)))) e
        ∙ sym (ap (λ b. option_map (λ v. v.kind) (cond b (Some v) (find (is_called text) (vs ++ ws)))) e)
    by false false e h =
        ap (λ b. option_map (λ v. v.kind) (cond b (Some v) (find (is_called text) (put_into name d vs ++ ws)))) e ∙ h
        ∙ sym (ap (λ b. option_map (λ v. v.kind) (cond b (Some v) (find (is_called text) (vs ++ ws)))) e)

append_nil : (vs : List Held) → vs ++ [] ≡ vs
append_nil [] = refl
append_nil (v ∷ vs) = ap (λ xs. v ∷ xs) (append_nil vs)

behind_kinds : (name text : List ℕ) (d : Datum) (vs ws : List Held)
    → option_map (λ v. v.kind) (find (is_called text) (vs ++ put_into name d ws))
    ≡ option_map (λ v. v.kind) (find (is_called text) (vs ++ ws))
behind_kinds name text d [] ws =
    ap (λ xs. option_map (λ v. v.kind) (find (is_called text) xs)) (sym (append_nil (put_into name d ws))) ∙ put_kinds name text d ws []
    ∙ ap (λ xs. option_map (λ v. v.kind) (find (is_called text) xs)) (append_nil ws)
behind_kinds name text d (v ∷ vs) ws = by (is_called text v) (behind_kinds name text d vs ws)
  where
    by : (b : Bool)
        → option_map (λ v. v.kind) (find (is_called text) (vs ++ put_into name d ws))
        ≡ option_map (λ v. v.kind) (find (is_called text) (vs ++ ws))
        → option_map (λ v. v.kind) (cond b (Some v) (find (is_called text) (vs ++ put_into name d ws)))
        ≡ option_map (λ v. v.kind) (cond b (Some v) (find (is_called text) (vs ++ ws)))
    by true h = refl
    by false h = h

set_kind : (name text : List ℕ) (d : Datum) (m : Memory) → kind_as_named (set name d m) text ≡ kind_as_named m text
set_kind name text d m = by (list_any (is_called name) m.own)
  where
    by : (b : Bool)
        → kind_as_named (cond b (record m { own = put_into name d m.own }) (record m { shared = put_into name d m.shared })) text
        ≡ kind_as_named m text
    by true = put_kinds name text d m.own m.shared
    by false = behind_kinds name text d m.own m.shared

pub set_kinds : (name : List ℕ) (d : Datum) (m : Memory) (names : List (List ℕ)) → kinds_as (set name d m) names ≡ kinds_as m names
set_kinds name d m [] = refl
set_kinds name d m (text ∷ names) =
    ap (λ o. cons_option o (kinds_as (set name d m) names)) (set_kind name text d m)
    ∙ ap (cons_option (kind_as_named m text)) (set_kinds name d m names)

-- ---- each variable gets its value
pub each_first : (name : List ℕ) (names : List (List ℕ)) (d : Datum) (ds : List Datum) (m n : Memory) → n ≡ set name d m
    → set_each names ds n ≡ set_each (name ∷ names) (d ∷ ds) m
each_first name names d ds m n h = ap (set_each names ds) h

-- ---- results that are values of the code
datums_length : (vs : List Value) → length (datums vs) ≡ length vs
datums_length [] = refl
datums_length (v ∷ vs) = ap suc (datums_length vs)

value_at : (vs : List Value) (i : ℕ) (v : Value) → i < length vs → v ≡ get_or vs i v → slice_get (datums vs) i ≡ Some (datum v)
value_at [] i v h e = absurd (omega arith)
value_at (x ∷ vs) zero v h e = ap (λ y. Some (datum y)) (sym e)
value_at (x ∷ vs) (suc i) v h e = value_at vs i v (omega arith) e

-- one more result and its variable
pub one_more : (vs : List Value) (rs : List Datum) (i : ℕ) (m : Memory) (name : List ℕ) (names : List (List ℕ)) (v : Value) (k : Shape)
    (b : Bool) → datums vs ≡ rs → Some k ≡ kind_as_named m name → i < length vs → v ≡ get_or vs i v → b ≡ has_shape (datum v) k
    → have_shapes (drop i rs) (kinds_as m (name ∷ names)) ≡ (b && have_shapes (drop (i + 1) rs) (kinds_as m names))
one_more vs rs i m name names v k b is kind within at fits =
    ap (have_shapes (drop i rs)) (kind_first m name names (Some k) kind)
    ∙ shapes_at rs i (datum v) k (kinds_as m names) (ap (λ ds. slice_get ds i) (sym is) ∙ value_at vs i v within at)
    ∙ ap (λ c. c && have_shapes (drop (i + 1) rs) (kinds_as m names)) (sym fits)

names_past : (names : List Name) (j : ℕ) → length names ≤ j → drop j names ≡ []
names_past [] zero h = refl
names_past [] (suc j) h = refl
names_past (n ∷ names) zero h = absurd (omega arith)
names_past (n ∷ names) (suc j) h = names_past names j (omega arith)

-- no name is left
pub all_fit : (vs : List Value) (rs : List Datum) (i n : ℕ) (m : Memory) (names : List Name) (j : ℕ) → datums vs ≡ rs → n ≡ length vs
    → length names ≤ j → nat_le n i ≡ have_shapes (drop i rs) (kinds_as m (map (λ x. x.text) (drop j names)))
all_fit vs rs i n m names j is size past =
    ap (λ k. nat_le k i) (size ∙ sym (datums_length vs) ∙ ap length is) ∙ sym (shapes_end rs i)
    ∙ ap (λ ns. have_shapes (drop i rs) (kinds_as m (map (λ (x : Name). x.text) ns))) (sym (names_past names j past))

-- ---- a reply
pub not_false : (b : Bool) → false ≡ not b → b ≡ true
not_false true h = refl
not_false false h = absurd cc

taken_ok : (gives : List (List ℕ)) (s : Status) (results : List Datum) (m : Memory) (b : Bool) → s ≡ status.Ok
    → have_shapes results (kinds_as m gives) ≡ b → taken gives s results m ≡ cond b (Ok (set_each gives results m)) (Err BadKind)
taken_ok gives s results m b is fits =
    ap (λ c. taken gives c results m) is ∙ ap (λ c. cond c (Ok (set_each gives results m)) (Err BadKind)) fits

-- results that do not fit
pub refused : (gives : List (List ℕ)) (s : Status) (results : List Datum) (m n : Memory) → s ≡ status.Ok
    → kinds_as m gives ≡ kinds_as n gives → false ≡ have_shapes results (kinds_as n gives) → taken gives s results m ≡ Err BadKind
refused gives s results m n is kinds fits =
    taken_ok gives s results m false is (ap (have_shapes results) kinds ∙ sym fits)

-- and those that do
pub accepted : (gives : List (List ℕ)) (s : Status) (results : List Datum) (m n : Memory) → s ≡ status.Ok
    → kinds_as m gives ≡ kinds_as n gives → true ≡ have_shapes results (kinds_as n gives)
    → taken gives s results m ≡ Ok (set_each gives results m)
accepted gives s results m n is kinds fits =
    taken_ok gives s results m true is (ap (have_shapes results) kinds ∙ sym fits)

-- ---- one more variable gets its value
pub set_next : (names : List Name) (i : ℕ) (n : Name) (vs rest : List Value) (v : Value) (m new : Memory) → i < length names
    → n ≡ get_or names i n → 0 < length vs → v ≡ get_or vs 0 v → rest ≡ drop 1 vs → new ≡ set n.text (datum v) m
    → set_each (map (λ n. n.text) (drop (i + 1) names)) (datums rest) new ≡ set_each (map (λ n. n.text) (drop i names)) (datums vs) m
set_next [] i n vs rest v m new within at some first others is = absurd (omega arith)
set_next (x ∷ xs) i n [] rest v m new within at some first others is = absurd (omega arith)
set_next (x ∷ xs) zero n (y ∷ ys) rest v m new within at some first others is =
    ap (λ l. set_each (map (λ k. k.text) xs) (datums l) new) others
    ∙ ap (set_each (map (λ k. k.text) xs) (datums ys)) (is ∙ ap (λ k. set k.text (datum v) m) at ∙ ap (λ u. set x.text (datum u) m) first)
set_next (x ∷ xs) (suc i) n (y ∷ ys) rest v m new within at some first others is =
    let e : suc i + 1 ≡ suc (i + 1) = omega arith in
    ap (λ j. set_each (map (λ k. k.text) (drop j (x ∷ xs))) (datums rest) new) e
    ∙ set_next xs i n (y ∷ ys) rest v m new (omega arith) at some first others is
