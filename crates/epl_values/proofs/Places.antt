-- What a name stands for, in the lists of the code and in the memory of the meaning.
use Rattle.std.proofs.Common.{◌≡◌, ℕ, zero, suc, ◌+◌, ◌≤◌, Bool, true, false, cond, List, [], ◌∷◌, ◌++◌, map, length, Option, None, Some}
use Rattle.std.proofs.Common.{refl, ap, sym, ◌∙◌, arith}
use Rattle.std.specs.Prelude.{slice_get, slice_set, is_some, ◌||◌}
use Rattle.std.specs.List.{find, list_any, zip, position_from}
use Rattle.std.specs.Option.{option_map}
use Rattle.capability.specs.declared.Uid.{Uid}
use Rattle.eden_value.specs.Datum.{Datum}
use Rattle.eden_value.specs.Shape.{Shape, shape}
use Rattle.eden_model.specs.Map.{with_item, or_else, same_text}
use Rattle.epl_syntax.specs.declared.tree.Name.{Name}
use Rattle.epl_syntax.specs.declared.tree.ParDecl.{ParDecl}
use Rattle.epl_syntax.specs.declared.tree.LocalDecl.{LocalDecl}
use Rattle.epl_syntax.specs.declared.tree.VarDecl.{VarDecl}
use Rattle.epl_syntax.specs.Tree.{TypeTree, Parameter, Local, Variable, parameter, local_of, variable}
use Rattle.epl_syntax.specs.Memory.{Memory, Held, is_called, put_into, set, arguments, variables}
use Rattle.epl_syntax.specs.Bindings.{place_of}
use Rattle.epl_values.specs.Variables.{value_in, values_with, kind_in, value_as_named, kind_as_named, memory, locals_with}
use Rattle.epl_values.specs.Variables.{parameters_of, locals_of}
use Rattle.epl_values.specs.declared.variables.Variables.{Variables as Seen}

-- ---- names of declarations
pub param_names : (ps : List ParDecl) → map (λ p. p.name) (map parameter ps) ≡ map (λ p. p.name) ps
param_names [] = refl
param_names (p ∷ ps) = ap (λ ns. p.name ∷ ns) (param_names ps)

pub local_names : (vs : List LocalDecl) → map (λ v. v.name) (map local_of vs) ≡ map (λ v. v.name) vs
local_names [] = refl
local_names (v ∷ vs) = ap (λ ns. v.name ∷ ns) (local_names vs)

pub var_names : (vs : List VarDecl) → map (λ v. v.name) (map variable vs) ≡ map (λ v. v.name) vs
var_names [] = refl
var_names (v ∷ vs) = ap (λ ns. v.name ∷ ns) (var_names vs)

-- and their kinds
pub param_kinds : (ps : List ParDecl) → map (λ p. p.kind.shape) (map parameter ps) ≡ map (λ p. shape p.kind.kind) ps
param_kinds [] = refl
param_kinds (p ∷ ps) = ap (λ ns. shape p.kind.kind ∷ ns) (param_kinds ps)

pub local_kinds : (vs : List LocalDecl) → map (λ v. v.kind.shape) (map local_of vs) ≡ map (λ v. shape v.kind.kind) vs
local_kinds [] = refl
local_kinds (v ∷ vs) = ap (λ ns. shape v.kind.kind ∷ ns) (local_kinds vs)

pub var_kinds : (vs : List VarDecl) → map (λ v. v.kind.shape) (map variable vs) ≡ map (λ v. shape v.kind.kind) vs
var_kinds [] = refl
var_kinds (v ∷ vs) = ap (λ ns. shape v.kind.kind ∷ ns) (var_kinds vs)

-- ---- places
later : (t : Name → Bool) (i : ℕ) (ns : List Name) → position_from t (suc i) ns ≡ option_map suc (position_from t i ns)
later t i [] = refl
later t i (n ∷ ns) =
    let e : suc i + 1 ≡ suc (i + 1) = omega arith in
    by (t n) (ap (λ k. position_from t k ns) e ∙ later t (i + 1) ns)
  where
    by : (b : Bool) → position_from t (suc i + 1) ns ≡ option_map suc (position_from t (i + 1) ns)
        → cond b (Some (suc i)) (position_from t (suc i + 1) ns) ≡ option_map suc (cond b (Some i) (position_from t (i + 1) ns))
    by true h = refl
    by false h = h

later_place : {Y : Type 0} (f : ℕ → Option Y) (o : Option ℕ) → with_item (option_map suc o) f None ≡ with_item o (λ i. f (suc i)) None
later_place f None = refl
later_place f (Some i) = refl

no_place : {Y : Type 0} (o : Option ℕ) (f : ℕ → Option Y) → ((i : ℕ) → f i ≡ None) → None ≡ with_item o f None
no_place None f h = refl
no_place (Some i) f h = sym (h i)

same_places : {Y : Type 0} (o : Option ℕ) (f g : ℕ → Option Y) → ((i : ℕ) → f i ≡ g i) → with_item o f None ≡ with_item o g None
same_places None f g h = refl
same_places (Some i) f g h = h i

-- ---- one list of declarations with values, whatever they are
module _ {X : Type 0} (n : X → Name) (k : X → Shape) where
  abbrev pub held : List X → List Datum → List Held
  held xs ds = map (λ p. record { name = (n p.0).text; kind = k p.0; value = p.1 }) (zip xs ds)

  pub value_is : (xs : List X) (ds : List Datum) (text : List ℕ)
      → option_map (λ v. v.value) (find (is_called text) (held xs ds)) ≡ value_in (map n xs) ds text
  value_is [] ds text = refl
  value_is (x ∷ xs) [] text = no_place (place_of (map n (x ∷ xs)) text) (slice_get []) (λ i. refl)
  value_is (x ∷ xs) (d ∷ ds) text = by (same_text (n x).text text) (value_is xs ds text)
    where
      by : (b : Bool) → option_map (λ v. v.value) (find (is_called text) (held xs ds)) ≡ value_in (map n xs) ds text
          → option_map (λ v. v.value) (cond b (Some (record { name = (n x).text; kind = k x; value = d }))
          (find (is_called text) (held xs ds)))
          ≡ with_item (cond b (Some 0) (position_from (λ m. same_text m.text text) 1 (map n xs))) (slice_get (d ∷ ds)) None
      by true h = refl
      by false h =
          h
          ∙ sym (ap (λ o. with_item o (slice_get (d ∷ ds)) None) (later (λ m. same_text m.text text) 0 (map n xs))
          ∙ later_place (slice_get (d ∷ ds)) (place_of (map n xs) text))

  pub kind_is : (xs : List X) (ds : List Datum) (text : List ℕ)
      → option_map (λ v. v.kind) (find (is_called text) (held xs ds)) ≡ kind_in (map n xs) (map k xs) ds text
  kind_is [] ds text = refl
  kind_is (x ∷ xs) [] text =
      no_place (place_of (map n (x ∷ xs)) text) (λ i. with_item (slice_get {X = Datum} [] i) (λ d. slice_get (map k (x ∷ xs)) i) None)
      (λ i. refl)
  kind_is (x ∷ xs) (d ∷ ds) text = by (same_text (n x).text text) (kind_is xs ds text)
    where
      by : (b : Bool) → option_map (λ v. v.kind) (find (is_called text) (held xs ds)) ≡ kind_in (map n xs) (map k xs) ds text
          → option_map (λ v. v.kind) (cond b (Some (record { name = (n x).text; kind = k x; value = d }))
          (find (is_called text) (held xs ds)))
          ≡ with_item (cond b (Some 0) (position_from (λ m. same_text m.text text) 1 (map n xs)))
          (λ i. with_item (slice_get (d ∷ ds) i) (λ d. slice_get (map k (x ∷ xs)) i) None) None
      by true h = refl
      by false h =
          h
          ∙ sym (ap (λ o. with_item o (λ i. with_item (slice_get (d ∷ ds) i) (λ d. slice_get (map k (x ∷ xs)) i) None) None)
          (later (λ m. same_text m.text text) 0 (map n xs))
          ∙ later_place (λ i. with_item (slice_get (d ∷ ds) i) (λ d. slice_get (map k (x ∷ xs)) i) None) (place_of (map n xs) text))

  found_any : (text : List ℕ) (vs : List Held)
      → list_any (is_called text) vs ≡ is_some (option_map (λ v. v.value) (find (is_called text) vs))
  found_any text [] = refl
  found_any text (v ∷ vs) = by (is_called text v) (found_any text vs)
    where
      by : (b : Bool) → list_any (is_called text) vs ≡ is_some (option_map (λ v. v.value) (find (is_called text) vs))
          → (b || list_any (is_called text) vs) ≡ is_some (option_map (λ v. v.value) (cond b (Some v) (find (is_called text) vs)))
      by true h = refl
      by false h = h

  pub any_is : (xs : List X) (ds : List Datum) (text : List ℕ)
      → list_any (is_called text) (held xs ds) ≡ is_some (value_in (map n xs) ds text)
  any_is xs ds text = found_any text (held xs ds) ∙ ap is_some (value_is xs ds text)

  pub put_is : (xs : List X) (ds : List Datum) (text : List ℕ) (d : Datum)
      → put_into text d (held xs ds) ≡ held xs (values_with (map n xs) text d ds)
  put_is [] ds text d = refl
  put_is (x ∷ xs) [] text d = nothing (place_of (map n (x ∷ xs)) text)
    where
      nothing : (o : Option ℕ) → [] ≡ held (x ∷ xs) (with_item o (λ i. slice_set [] i d) [])
      nothing None = refl
      nothing (Some i) = refl
  put_is (x ∷ xs) (e ∷ ds) text d = by (same_text (n x).text text) (put_is xs ds text d)
    where
      behind : (o : Option ℕ) → record { name = (n x).text; kind = k x; value = e } ∷ held xs (with_item o (λ i. slice_set ds i d) ds)
          ≡ held (x ∷ xs) (with_item (option_map suc o) (λ i. slice_set (e ∷ ds) i d) (e ∷ ds))
      behind None = refl
      behind (Some i) = refl

      by : (b : Bool) → put_into text d (held xs ds) ≡ held xs (values_with (map n xs) text d ds)
          → cond b (record { name = (n x).text; kind = k x; value = d } ∷ held xs ds)
          (record { name = (n x).text; kind = k x; value = e } ∷ put_into text d (held xs ds))
          ≡ held (x ∷ xs)
          (with_item (cond b (Some 0) (position_from (λ m. same_text m.text text) 1 (map n xs))) (λ i. slice_set (e ∷ ds) i d) (e ∷ ds))
      by true h = refl
      by false h =
          ap (λ vs. record { name = (n x).text; kind = k x; value = e } ∷ vs) h
          ∙ behind (place_of (map n xs) text)
          ∙ sym (ap (λ o. held (x ∷ xs) (with_item o (λ i. slice_set (e ∷ ds) i d) (e ∷ ds)))
          (later (λ m. same_text m.text text) 0 (map n xs)))

-- ---- lists behind one another
find_append : (t : Held → Bool) (xs ys : List Held) → find t (xs ++ ys) ≡ or_else (find t xs) (find t ys)
find_append t [] ys = refl
find_append t (x ∷ xs) ys = by (t x) (find_append t xs ys)
  where
    by : (b : Bool) → find t (xs ++ ys) ≡ or_else (find t xs) (find t ys)
        → cond b (Some x) (find t (xs ++ ys)) ≡ or_else (cond b (Some x) (find t xs)) (find t ys)
    by true h = refl
    by false h = h

map_or : {Y : Type 0} (f : Held → Y) (a b : Option Held) → option_map f (or_else a b) ≡ or_else (option_map f a) (option_map f b)
map_or f None b = refl
map_or f (Some x) b = refl

find_three : {Y : Type 0} (f : Held → Y) (t : Held → Bool) (xs ys zs : List Held)
    → option_map f (find t ((xs ++ ys) ++ zs))
    ≡ or_else (option_map f (find t xs)) (or_else (option_map f (find t ys)) (option_map f (find t zs)))
find_three f t xs ys zs =
    ap (option_map f) (find_append t (xs ++ ys) zs ∙ ap (λ o. or_else o (find t zs)) (find_append t xs ys))
    ∙ grouped (find t xs) (find t ys) (find t zs)
  where
    grouped : (a b c : Option Held)
        → option_map f (or_else (or_else a b) c) ≡ or_else (option_map f a) (or_else (option_map f b) (option_map f c))
    grouped None b c = map_or f b c
    grouped (Some x) b c = refl

any_append : (t : Held → Bool) (xs ys : List Held) → list_any t (xs ++ ys) ≡ (list_any t xs || list_any t ys)
any_append t [] ys = refl
any_append t (x ∷ xs) ys = by (t x) (any_append t xs ys)
  where
    by : (b : Bool) → list_any t (xs ++ ys) ≡ (list_any t xs || list_any t ys)
        → (b || list_any t (xs ++ ys)) ≡ ((b || list_any t xs) || list_any t ys)
    by true h = refl
    by false h = h

put_append : (text : List ℕ) (d : Datum) (xs ys : List Held)
    → put_into text d (xs ++ ys) ≡ cond (list_any (is_called text) xs) (put_into text d xs ++ ys) (xs ++ put_into text d ys)
put_append text d [] ys = refl
put_append text d (x ∷ xs) ys = by (is_called text x) (put_append text d xs ys)
  where
    inner : (b : Bool) → x ∷ cond b (put_into text d xs ++ ys) (xs ++ put_into text d ys)
        ≡ cond b (x ∷ (put_into text d xs ++ ys)) (x ∷ (xs ++ put_into text d ys))
    inner true = refl
    inner false = refl

    by : (b : Bool)
        → put_into text d (xs ++ ys) ≡ cond (list_any (is_called text) xs) (put_into text d xs ++ ys) (xs ++ put_into text d ys)
        → cond b (record x { value = d } ∷ (xs ++ ys)) (x ∷ put_into text d (xs ++ ys))
        ≡ cond (b || list_any (is_called text) xs) (cond b (record x { value = d } ∷ xs) (x ∷ put_into text d xs) ++ ys)
        (x ∷ (xs ++ put_into text d ys))
    by true h = refl
    by false h = ap (λ vs. x ∷ vs) h ∙ inner (list_any (is_called text) xs)

-- ---- what a process sees
-- the value of a name
pub named_is : (t : TypeTree) (v : Seen) (text : List ℕ) → value_as_named (memory t v) text
    ≡ or_else (value_in (map (λ p. p.name) (parameters_of t v.owner)) v.params text)
    (or_else (value_in (map (λ l. l.name) (locals_of t v.owner)) v.locals text) (value_in (map (λ x. x.name) t.vars) v.vars text))
unfolding memory
named_is t v text =
    find_three (λ h. h.value) (is_called text) (arguments (parameters_of t v.owner) v.params) (locals_with (locals_of t v.owner) v.locals)
    (variables t.vars v.vars)
    ∙ ap (λ o. or_else o (or_else (option_map (λ h. h.value) (find (is_called text) (locals_with (locals_of t v.owner) v.locals)))
    (option_map (λ h. h.value) (find (is_called text) (variables t.vars v.vars)))))
    (value_is (λ (p : Parameter). p.name) (λ p. p.kind.shape) (parameters_of t v.owner) v.params text)
    ∙ ap (λ o. or_else (value_in (map (λ p. p.name) (parameters_of t v.owner)) v.params text)
    (or_else o (option_map (λ h. h.value) (find (is_called text) (variables t.vars v.vars)))))
    (value_is (λ (l : Local). l.name) (λ l. l.kind.shape) (locals_of t v.owner) v.locals text)
    ∙ ap (λ o. or_else (value_in (map (λ p. p.name) (parameters_of t v.owner)) v.params text)
    (or_else (value_in (map (λ l. l.name) (locals_of t v.owner)) v.locals text) o))
    (value_is (λ (x : Variable). x.name) (λ x. x.kind.shape) t.vars v.vars text)

-- its kind
pub kind_named_is : (t : TypeTree) (v : Seen) (text : List ℕ) → kind_as_named (memory t v) text
    ≡ or_else (kind_in (map (λ p. p.name) (parameters_of t v.owner)) (map (λ p. p.kind.shape) (parameters_of t v.owner)) v.params text)
    (or_else (kind_in (map (λ l. l.name) (locals_of t v.owner)) (map (λ l. l.kind.shape) (locals_of t v.owner)) v.locals text)
    (kind_in (map (λ x. x.name) t.vars) (map (λ x. x.kind.shape) t.vars) v.vars text))
unfolding memory
kind_named_is t v text =
    let ps = parameters_of t v.owner in
    let ls = locals_of t v.owner in
    find_three (λ h. h.kind) (is_called text) (arguments ps v.params) (locals_with ls v.locals) (variables t.vars v.vars)
    ∙ ap (λ o. or_else o (or_else (option_map (λ h. h.kind) (find (is_called text) (locals_with ls v.locals)))
    (option_map (λ h. h.kind) (find (is_called text) (variables t.vars v.vars)))))
    (kind_is (λ (p : Parameter). p.name) (λ p. p.kind.shape) ps v.params text)
    ∙ ap (λ o. or_else (kind_in (map (λ p. p.name) ps) (map (λ p. p.kind.shape) ps) v.params text)
    (or_else o (option_map (λ h. h.kind) (find (is_called text) (variables t.vars v.vars)))))
    (kind_is (λ (l : Local). l.name) (λ l. l.kind.shape) ls v.locals text)
    ∙ ap (λ o. or_else (kind_in (map (λ p. p.name) ps) (map (λ p. p.kind.shape) ps) v.params text)
    (or_else (kind_in (map (λ l. l.name) ls) (map (λ l. l.kind.shape) ls) v.locals text) o))
    (kind_is (λ (x : Variable). x.name) (λ x. x.kind.shape) t.vars v.vars text)

-- a memory of three lists
abbrev three : List Held → List Held → List Held → Uid → Memory
three args own shared me = record { own = args ++ own; shared = shared; me = me }

-- the first of the lists that has the name takes the value
abbrev set_in : Bool → Bool → List ℕ → Datum → List Held → List Held → List Held → Uid → Memory
set_in a b text d args own shared me =
    cond a (three (put_into text d args) own shared me)
    (cond b (three args (put_into text d own) shared me) (three args own (put_into text d shared) me))

set_by : (text : List ℕ) (d : Datum) (args own shared : List Held) (me : Uid) (a b : Bool)
    → list_any (is_called text) args ≡ a → list_any (is_called text) own ≡ b
    → set text d (three args own shared me) ≡ set_in a b text d args own shared me
set_by text d args own shared me a b h k =
    by (list_any (is_called text) (args ++ own)) (put_into text d (args ++ own)) a b
    (any_append (is_called text) args own ∙ ap (λ c. c || list_any (is_called text) own) h ∙ ap (λ c. a || c) k)
    (put_append text d args own ∙ ap (λ c. cond c (put_into text d args ++ own) (args ++ put_into text d own)) h)
  where
    by : (any : Bool) (put : List Held) (a b : Bool) → any ≡ (a || b)
        → put ≡ cond a (put_into text d args ++ own) (args ++ put_into text d own)
        → cond any (record { own = put; shared = shared; me = me }) (three args own (put_into text d shared) me)
        ≡ set_in a b text d args own shared me
    by any put true b h k =
        ap (λ c. cond c (record { own = put; shared = shared; me = me }) (three args own (put_into text d shared) me)) h
        ∙ ap (λ l. record { own = l; shared = shared; me = me }) k
    by any put false true h k =
        ap (λ c. cond c (record { own = put; shared = shared; me = me }) (three args own (put_into text d shared) me)) h
        ∙ ap (λ l. record { own = l; shared = shared; me = me }) k
    by any put false false h k =
        ap (λ c. cond c (record { own = put; shared = shared; me = me }) (three args own (put_into text d shared) me)) h

set_memory : (t : TypeTree) (v : Seen) (text : List ℕ) (d : Datum) (a b : Bool)
    → is_some (value_in (map (λ p. p.name) (parameters_of t v.owner)) v.params text) ≡ a
    → is_some (value_in (map (λ l. l.name) (locals_of t v.owner)) v.locals text) ≡ b
    → set text d (memory t v)
    ≡ set_in a b text d (arguments (parameters_of t v.owner) v.params) (locals_with (locals_of t v.owner) v.locals)
    (variables t.vars v.vars) v.me
unfolding memory
set_memory t v text d a b h k =
    set_by text d (arguments (parameters_of t v.owner) v.params) (locals_with (locals_of t v.owner) v.locals) (variables t.vars v.vars)
    v.me a b
    (any_is (λ (p : Parameter). p.name) (λ p. p.kind.shape) (parameters_of t v.owner) v.params text ∙ h)
    (any_is (λ (l : Local). l.name) (λ l. l.kind.shape) (locals_of t v.owner) v.locals text ∙ k)

-- a name gets a value: of a parameter
pub put_param : (t : TypeTree) (v : Seen) (text : List ℕ) (d : Datum) (new : List Datum)
    → is_some (value_in (map (λ p. p.name) (parameters_of t v.owner)) v.params text) ≡ true
    → new ≡ values_with (map (λ p. p.name) (parameters_of t v.owner)) text d v.params
    → memory t (record v { params = new }) ≡ set text d (memory t v)
unfolding memory
put_param t v text d new h e =
    ap (λ l. memory t (record v { params = l })) e
    ∙ ap (λ l. three l (locals_with (locals_of t v.owner) v.locals) (variables t.vars v.vars) v.me)
    (sym (put_is (λ (p : Parameter). p.name) (λ p. p.kind.shape) (parameters_of t v.owner) v.params text d))
    ∙ sym (set_memory t v text d true (is_some (value_in (map (λ l. l.name) (locals_of t v.owner)) v.locals text)) h refl)

-- of a variable of the body
pub put_local : (t : TypeTree) (v : Seen) (text : List ℕ) (d : Datum) (new : List Datum)
    → is_some (value_in (map (λ p. p.name) (parameters_of t v.owner)) v.params text) ≡ false
    → is_some (value_in (map (λ l. l.name) (locals_of t v.owner)) v.locals text) ≡ true
    → new ≡ values_with (map (λ l. l.name) (locals_of t v.owner)) text d v.locals
    → memory t (record v { locals = new }) ≡ set text d (memory t v)
unfolding memory
put_local t v text d new h k e =
    ap (λ l. memory t (record v { locals = l })) e
    ∙ ap (λ l. three (arguments (parameters_of t v.owner) v.params) l (variables t.vars v.vars) v.me)
    (sym (put_is (λ (l : Local). l.name) (λ l. l.kind.shape) (locals_of t v.owner) v.locals text d))
    ∙ sym (set_memory t v text d false true h k)

-- of a variable of the Eject
pub put_var : (t : TypeTree) (v : Seen) (text : List ℕ) (d : Datum) (new : List Datum)
    → is_some (value_in (map (λ p. p.name) (parameters_of t v.owner)) v.params text) ≡ false
    → is_some (value_in (map (λ l. l.name) (locals_of t v.owner)) v.locals text) ≡ false
    → new ≡ values_with (map (λ x. x.name) t.vars) text d v.vars
    → memory t (record v { vars = new }) ≡ set text d (memory t v)
unfolding memory
put_var t v text d new h k e =
    ap (λ l. memory t (record v { vars = l })) e
    ∙ ap (λ l. three (arguments (parameters_of t v.owner) v.params) (locals_with (locals_of t v.owner) v.locals) l v.me)
    (sym (put_is (λ (x : Variable). x.name) (λ x. x.kind.shape) t.vars v.vars text d))
    ∙ sym (set_memory t v text d false false h k)

-- where the declarations are those of the code
pub set_param : (t : TypeTree) (v : Seen) (text : List ℕ) (d : Datum) (ps : List ParDecl) (new : List Datum)
    → map parameter ps ≡ parameters_of t v.owner
    → is_some (value_in (map (λ p. p.name) (parameters_of t v.owner)) v.params text) ≡ true
    → new ≡ values_with (map (λ p. p.name) ps) text d v.params
    → memory t (record v { params = new }) ≡ set text d (memory t v)
set_param t v text d ps new is h e =
    let names : map (λ p. p.name) ps ≡ map (λ p. p.name) (parameters_of t v.owner) =
    sym (param_names ps) ∙ ap (λ (l : List Parameter). map (λ p. p.name) l) is in
    put_param t v text d new h (e ∙ ap (λ ns. values_with ns text d v.params) names)

pub set_local : (t : TypeTree) (v : Seen) (text : List ℕ) (d : Datum) (ls : List LocalDecl) (new : List Datum)
    → map local_of ls ≡ locals_of t v.owner
    → is_some (value_in (map (λ p. p.name) (parameters_of t v.owner)) v.params text) ≡ false
    → is_some (value_in (map (λ l. l.name) (locals_of t v.owner)) v.locals text) ≡ true
    → new ≡ values_with (map (λ l. l.name) ls) text d v.locals
    → memory t (record v { locals = new }) ≡ set text d (memory t v)
set_local t v text d ls new is h k e =
    let names : map (λ l. l.name) ls ≡ map (λ l. l.name) (locals_of t v.owner) =
    sym (local_names ls) ∙ ap (λ (l : List Local). map (λ p. p.name) l) is in
    put_local t v text d new h k (e ∙ ap (λ ns. values_with ns text d v.locals) names)

pub set_var : (t : TypeTree) (v : Seen) (text : List ℕ) (d : Datum) (vs : List VarDecl) (new : List Datum)
    → map variable vs ≡ t.vars
    → is_some (value_in (map (λ p. p.name) (parameters_of t v.owner)) v.params text) ≡ false
    → is_some (value_in (map (λ l. l.name) (locals_of t v.owner)) v.locals text) ≡ false
    → new ≡ values_with (map (λ x. x.name) vs) text d v.vars
    → memory t (record v { vars = new }) ≡ set text d (memory t v)
set_var t v text d vs new is h k e =
    let names : map (λ x. x.name) vs ≡ map (λ x. x.name) t.vars =
    sym (var_names vs) ∙ ap (λ (l : List Variable). map (λ p. p.name) l) is in
    put_var t v text d new h k (e ∙ ap (λ ns. values_with ns text d v.vars) names)

-- ---- a place that was found
pub put_there : {X : Type 0} (n : X → Name) (xs : List X) (ds : List Datum) (text : List ℕ) (d : Datum) (i : ℕ)
    → place_of (map n xs) text ≡ Some i → slice_set ds i d ≡ values_with (map n xs) text d ds
put_there n xs ds text d i h = sym (ap (λ o. with_item o (λ j. slice_set ds j d) ds) h)

pub value_there : {X : Type 0} (n : X → Name) (xs : List X) (ds : List Datum) (text : List ℕ) (i : ℕ)
    → place_of (map n xs) text ≡ Some i → slice_get ds i ≡ value_in (map n xs) ds text
value_there n xs ds text i h = sym (ap (λ o. with_item o (slice_get ds) None) h)

-- a value in a declared list is one in the list of the tree
pub in_params : (t : TypeTree) (v : Seen) (text : List ℕ) (ps : List ParDecl) (o : Option Datum)
    → map parameter ps ≡ parameters_of t v.owner → o ≡ value_in (map (λ p. p.name) ps) v.params text
    → is_some (value_in (map (λ p. p.name) (parameters_of t v.owner)) v.params text) ≡ is_some o
in_params t v text ps o is h =
    let names : map (λ p. p.name) ps ≡ map (λ p. p.name) (parameters_of t v.owner) =
    sym (param_names ps) ∙ ap (λ (l : List Parameter). map (λ p. p.name) l) is in
    ap is_some (sym (h ∙ ap (λ ns. value_in ns v.params text) names))

pub in_locals : (t : TypeTree) (v : Seen) (text : List ℕ) (ls : List LocalDecl) (o : Option Datum) → map local_of ls ≡ locals_of t v.owner
    → o ≡ value_in (map (λ l. l.name) ls) v.locals text
    → is_some (value_in (map (λ l. l.name) (locals_of t v.owner)) v.locals text) ≡ is_some o
in_locals t v text ls o is h =
    let names : map (λ l. l.name) ls ≡ map (λ l. l.name) (locals_of t v.owner) =
    sym (local_names ls) ∙ ap (λ (l : List Local). map (λ p. p.name) l) is in
    ap is_some (sym (h ∙ ap (λ ns. value_in ns v.locals text) names))

-- ---- the value before
or_some : (a b : Option Datum) → is_some a ≡ true → or_else a b ≡ a
or_some None b h = absurd cc
or_some (Some d) b h = refl

or_none : (a b : Option Datum) → is_some a ≡ false → or_else a b ≡ b
or_none None b h = refl
or_none (Some d) b h = absurd cc

-- of a parameter
pub old_param : (t : TypeTree) (v : Seen) (text : List ℕ) (ps : List ParDecl) → map parameter ps ≡ parameters_of t v.owner
    → is_some (value_in (map (λ p. p.name) (parameters_of t v.owner)) v.params text) ≡ true
    → value_in (map (λ p. p.name) ps) v.params text ≡ value_as_named (memory t v) text
old_param t v text ps is h =
    let names : map (λ p. p.name) ps ≡ map (λ p. p.name) (parameters_of t v.owner) =
    sym (param_names ps) ∙ ap (λ (l : List Parameter). map (λ p. p.name) l) is in
    let a = value_in (map (λ p. p.name) (parameters_of t v.owner)) v.params text in
    let b = value_in (map (λ l. l.name) (locals_of t v.owner)) v.locals text in
    let c = value_in (map (λ x. x.name) t.vars) v.vars text in
    ap (λ ns. value_in ns v.params text) names ∙ sym (or_some a (or_else b c) h) ∙ sym (named_is t v text)

-- of a variable of the body
pub old_local : (t : TypeTree) (v : Seen) (text : List ℕ) (ls : List LocalDecl) → map local_of ls ≡ locals_of t v.owner
    → is_some (value_in (map (λ p. p.name) (parameters_of t v.owner)) v.params text) ≡ false
    → is_some (value_in (map (λ l. l.name) (locals_of t v.owner)) v.locals text) ≡ true
    → value_in (map (λ l. l.name) ls) v.locals text ≡ value_as_named (memory t v) text
old_local t v text ls is h k =
    let names : map (λ l. l.name) ls ≡ map (λ l. l.name) (locals_of t v.owner) =
    sym (local_names ls) ∙ ap (λ (l : List Local). map (λ p. p.name) l) is in
    let a = value_in (map (λ p. p.name) (parameters_of t v.owner)) v.params text in
    let b = value_in (map (λ l. l.name) (locals_of t v.owner)) v.locals text in
    let c = value_in (map (λ x. x.name) t.vars) v.vars text in
    ap (λ ns. value_in ns v.locals text) names ∙ sym (or_some b c k) ∙ sym (or_none a (or_else b c) h) ∙ sym (named_is t v text)

-- of a variable of the Eject
pub old_var : (t : TypeTree) (v : Seen) (text : List ℕ) (vs : List VarDecl) → map variable vs ≡ t.vars
    → is_some (value_in (map (λ p. p.name) (parameters_of t v.owner)) v.params text) ≡ false
    → is_some (value_in (map (λ l. l.name) (locals_of t v.owner)) v.locals text) ≡ false
    → value_in (map (λ x. x.name) vs) v.vars text ≡ value_as_named (memory t v) text
old_var t v text vs is h k =
    let names : map (λ x. x.name) vs ≡ map (λ x. x.name) t.vars =
    sym (var_names vs) ∙ ap (λ (l : List Variable). map (λ p. p.name) l) is in
    let a = value_in (map (λ p. p.name) (parameters_of t v.owner)) v.params text in
    let b = value_in (map (λ l. l.name) (locals_of t v.owner)) v.locals text in
    let c = value_in (map (λ x. x.name) t.vars) v.vars text in
    ap (λ ns. value_in ns v.vars text) names ∙ sym (or_none b c k) ∙ sym (or_none a (or_else b c) h) ∙ sym (named_is t v text)

-- a place behind the last value changes none
pub put_past : (ds : List Datum) (i : ℕ) (d : Datum) → length ds ≤ i → slice_set ds i d ≡ ds
put_past [] i d h = refl
put_past (e ∷ ds) zero d h = absurd (omega arith)
put_past (e ∷ ds) (suc i) d h = ap (λ xs. e ∷ xs) (put_past ds i d (omega arith))

-- `self` is the Eject
pub me_is : (t : TypeTree) (v : Seen) → (memory t v).me ≡ v.me
unfolding memory
me_is t v = refl
