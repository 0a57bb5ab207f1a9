-- Memories that agree on some variables of the type: what is looked up and set in both, and the values of expressions.
use Rattle.std.proofs.Common.{◌≡◌, ℕ, Bool, true, false, cond, not, ◌==◌, List, [], ◌∷◌, ◌++◌, length, Option, None, Some, Ok, Err}
use Rattle.std.proofs.Common.{option_map, refl, ap, sym, ◌∙◌, subst}
use Rattle.std.specs.Prelude.{find}
use Rattle.std.specs.List.{list_any, cons_option}
use Rattle.eden_value.specs.Datum.{Datum}
use Rattle.eden_value.specs.Shape.{Shape, ints}
use Rattle.eden_model.specs.Map.{with_item, same_text}
use Rattle.epl_syntax.specs.declared.effect.FaultCause.TheVariants.{BadKind}
use Rattle.epl_syntax.specs.declared.rule.Rule.TheVariants.{KindDiffers}
use Rattle.epl_syntax.specs.Rules.First.{broken_if}
use Rattle.epl_syntax.specs.Rules.Scopes.{Scope, var_named}
use Rattle.epl_syntax.specs.Rules.KindsOf.{is_list, kind_of_prefix, kind_of, kind_of_first, argument_tests}
use Rattle.epl_syntax.specs.Rules.InExpressions.{count, place_of, failing, misfit, misfit_known, misfit_operands, is_guarded}
use Rattle.epl_syntax.specs.Rules.InExpressions.{broken_expression, broken_items, broken_arguments}
use Rattle.epl_syntax.specs.Rules.InStatements.{broken_as, broken_expressions, broken_values}
use Rattle.epl_syntax.specs.Tree.{PlacedShape, TypeTree, Variable, Expression, Const_, Name_, Me, Unary, Binary, Index, ListOf, Apply}
use Rattle.epl_syntax.specs.Tree.{Expressions, no_expressions, expression_and, in_order}
use Rattle.epl_syntax.specs.Operators.{found, before_operand, between, item_at, list_of, applied}
use Rattle.epl_syntax.specs.Memory.{Held, Memory, is_called, held_as, value_as, put_into, set, set_each, variables}
use Rattle.epl_syntax.specs.Expressions.{value_of, values_of}
use Rattle.epl_syntax.specs.Turns.{kinds_as, values_in}
use Rattle.epl_syntax.specs.Monitors.{may_set, is_open, is_shut, SameWhere}
use Rattle.epl_syntax.proofs.GuardedRules.{front_empty, back_empty, use_guarded}
use Rattle.epl_syntax.proofs.GuardedNames.{IsOpenSeen, Opens}

-- two variables of one name and kind, and of one value where a test passes
pub record IsLike (test : Variable → Bool) (v : Variable) (a b : Held) : Type 0 where
  pub one_name : a.name ≡ v.name.text
  pub other_name : b.name ≡ v.name.text
  pub kind : a.kind ≡ b.kind
  pub value : test v ≡ true → a.value ≡ b.value

-- so with each of two lists
abbrev pub AreLike : (Variable → Bool) → List Variable → List Held → List Held → Type 0
AreLike test [] [] [] = Unit {0}
AreLike test (v ∷ vs) (a ∷ xs) (b ∷ ys) = IsLike test v a b × AreLike test vs xs ys
AreLike test _ _ _ = ⊥

-- ---- at first, and at the end
pub like_at_first : (test : Variable → Bool) (vs : List Variable) (ds es : List Datum) → SameWhere test vs ds es
    → AreLike test vs (variables vs ds) (variables vs es)
like_at_first test [] [] [] h = tt
like_at_first test (v ∷ vs) (d ∷ ds) (e ∷ es) h =
    (record { one_name = refl; other_name = refl; kind = refl; value = h.0 }, like_at_first test vs ds es h.1)
like_at_first test [] (d ∷ ds) es h = absurd h
like_at_first test [] [] (e ∷ es) h = absurd h
like_at_first test (v ∷ vs) [] es h = absurd h
like_at_first test (v ∷ vs) (d ∷ ds) [] h = absurd h

pub same_at_last : (test : Variable → Bool) (vs : List Variable) (xs ys : List Held) → AreLike test vs xs ys
    → SameWhere test vs (values_in xs) (values_in ys)
same_at_last test [] [] [] h = tt
same_at_last test (v ∷ vs) (a ∷ xs) (b ∷ ys) h = (h.0.value, same_at_last test vs xs ys h.1)
same_at_last test [] (a ∷ xs) ys h = absurd h
same_at_last test [] [] (b ∷ ys) h = absurd h
same_at_last test (v ∷ vs) [] ys h = absurd h
same_at_last test (v ∷ vs) (a ∷ xs) [] h = absurd h

pub same_everywhere : (test : Variable → Bool) (vs : List Variable) (ds : List Datum) → length ds ≡ length vs → SameWhere test vs ds ds
same_everywhere test [] [] h = tt
same_everywhere test (v ∷ vs) (d ∷ ds) h = ((λ e. refl), same_everywhere test vs ds cc)
same_everywhere test [] (d ∷ ds) h = absurd cc
same_everywhere test (v ∷ vs) [] h = absurd cc

pub values_back : (vs : List Variable) (ds : List Datum) → length ds ≡ length vs → values_in (variables vs ds) ≡ ds
values_back [] [] h = refl
values_back (v ∷ vs) (d ∷ ds) h = ap (λ l. d ∷ l) (values_back vs ds cc)
values_back [] (d ∷ ds) h = absurd cc
values_back (v ∷ vs) [] h = absurd cc

-- ---- looking up
held_same : (a b : Held) → a.name ≡ b.name → a.kind ≡ b.kind → a.value ≡ b.value → a ≡ b
held_same a b n k d =
    ap (λ x. record { name = x; kind = a.kind; value = a.value }) n ∙ ap (λ x. record { name = b.name; kind = x; value = a.value }) k
    ∙ ap (λ x. record { name = b.name; kind = b.kind; value = x }) d

called : (name : List ℕ) (v : Variable) (a : Held) → a.name ≡ v.name.text → is_called name a ≡ same_text v.name.text name
called name v a e = ap (λ n. same_text n name) e

find_same : (held : Option ℕ) (vs : List Variable) (xs ys : List Held) (name : List ℕ) → AreLike (is_open held) vs xs ys
    → IsOpenSeen held (var_named vs name)
    → find (is_called name) ys ≡ find (is_called name) xs
find_same held [] [] [] name h o = refl
find_same held (v ∷ vs) (a ∷ xs) (b ∷ ys) name h o =
    ap (λ c. cond c (Some b) (find (is_called name) ys)) (called name v b h.0.other_name)
    ∙ go (same_text v.name.text name) o (λ k. find_same held vs xs ys name h.1 k)
    ∙ sym (ap (λ c. cond c (Some a) (find (is_called name) xs)) (called name v a h.0.one_name))
  where
    go : (c : Bool) → IsOpenSeen held (cond c (Some (record { kind = v.kind.shape; monitor = v.monitor })) (var_named vs name))
        → (IsOpenSeen held (var_named vs name) → find (is_called name) ys ≡ find (is_called name) xs)
        → cond c (Some b) (find (is_called name) ys) ≡ cond c (Some a) (find (is_called name) xs)
    go true k x = ap Some (sym (held_same a b (h.0.one_name ∙ sym h.0.other_name) h.0.kind (h.0.value k)))
    go false k x = x k
find_same held [] (a ∷ xs) ys name h o = absurd h
find_same held [] [] (b ∷ ys) name h o = absurd h
find_same held (v ∷ vs) [] ys name h o = absurd h
find_same held (v ∷ vs) (a ∷ xs) [] name h o = absurd h

find_behind : (own xs ys : List Held) (test : Held → Bool) → find test ys ≡ find test xs → find test (own ++ ys) ≡ find test (own ++ xs)
find_behind [] xs ys test h = h
find_behind (v ∷ own) xs ys test h = ap (λ o. cond (test v) (Some v) o) (find_behind own xs ys test h)

-- the memory with these variables of the type
abbrev pub with_shared : Memory → List Held → Memory
with_shared m ys = record m { shared = ys }

pub value_as_same : (scope : Scope) (held : Option ℕ) (t : TypeTree) (m : Memory) (ys : List Held) (name : List ℕ) → Opens scope held t
    → AreLike (is_open held) t.vars m.shared ys → may_set scope held name ≡ true → value_as (with_shared m ys) name ≡ value_as m name
value_as_same scope held t m ys name o h k =
    ap (λ f. with_item f (λ v. Ok v.value) (Err BadKind))
    (find_behind m.own m.shared ys (is_called name) (find_same held t.vars m.shared ys name h (o name k)))

-- ---- setting
put_like : (test : Variable → Bool) (vs : List Variable) (xs ys : List Held) (name : List ℕ) (d : Datum) → AreLike test vs xs ys
    → AreLike test vs (put_into name d xs) (put_into name d ys)
put_like test [] [] [] name d h = tt
put_like test (v ∷ vs) (a ∷ xs) (b ∷ ys) name d h =
    subst (λ c. AreLike test (v ∷ vs) (cond c (record a { value = d } ∷ xs) (a ∷ put_into name d xs)) (put_into name d (b ∷ ys)))
    (sym (called name v a h.0.one_name))
    (subst (λ c. AreLike test (v ∷ vs) (cond (same_text v.name.text name) (record a { value = d } ∷ xs) (a ∷ put_into name d xs))
    (cond c (record b { value = d } ∷ ys) (b ∷ put_into name d ys)))
    (sym (called name v b h.0.other_name)) (go (same_text v.name.text name) (put_like test vs xs ys name d h.1)))
  where
    go : (c : Bool) → AreLike test vs (put_into name d xs) (put_into name d ys)
        → AreLike test (v ∷ vs) (cond c (record a { value = d } ∷ xs) (a ∷ put_into name d xs))
        (cond c (record b { value = d } ∷ ys) (b ∷ put_into name d ys))
    go true x = (record { one_name = h.0.one_name; other_name = h.0.other_name; kind = h.0.kind; value = λ e. refl }, h.1)
    go false x = (h.0, x)
put_like test [] (a ∷ xs) ys name d h = absurd h
put_like test [] [] (b ∷ ys) name d h = absurd h
put_like test (v ∷ vs) [] ys name d h = absurd h
put_like test (v ∷ vs) (a ∷ xs) [] name d h = absurd h

not_both : (b : Bool) → b ≡ true → not b ≡ true → ⊥
not_both true h k = absurd cc
not_both false h k = absurd cc

-- only a variable that may be touched is changed
put_shut : (held : Option ℕ) (vs : List Variable) (zs xs : List Held) (name : List ℕ) (d : Datum) → AreLike (is_shut held) vs zs xs
    → IsOpenSeen held (var_named vs name) → AreLike (is_shut held) vs zs (put_into name d xs)
put_shut held [] [] [] name d h o = tt
put_shut held (v ∷ vs) (a ∷ zs) (b ∷ xs) name d h o =
    subst (λ c. AreLike (is_shut held) (v ∷ vs) (a ∷ zs) (cond c (record b { value = d } ∷ xs) (b ∷ put_into name d xs)))
    (sym (called name v b h.0.other_name)) (go (same_text v.name.text name) o (λ k. put_shut held vs zs xs name d h.1 k))
  where
    go : (c : Bool) → IsOpenSeen held (cond c (Some (record { kind = v.kind.shape; monitor = v.monitor })) (var_named vs name))
        → (IsOpenSeen held (var_named vs name) → AreLike (is_shut held) vs zs (put_into name d xs))
        → AreLike (is_shut held) (v ∷ vs) (a ∷ zs) (cond c (record b { value = d } ∷ xs) (b ∷ put_into name d xs))
    go true k x = (
      record {
        one_name = h.0.one_name;
        other_name = h.0.other_name;
        kind = h.0.kind;
        value = λ e. absurd (not_both (is_guarded held v.monitor) k e);
      },
      h.1,
    )
    go false k x = (h.0, x k)
put_shut held [] (a ∷ zs) xs name d h o = absurd h
put_shut held [] [] (b ∷ xs) name d h o = absurd h
put_shut held (v ∷ vs) [] xs name d h o = absurd h
put_shut held (v ∷ vs) (a ∷ zs) [] name d h o = absurd h

-- a memory whose variables of the type agree with others
pub record Agrees (test : Variable → Bool) (t : TypeTree) (m n : Memory) : Type 0 where
  pub others : List Held
  pub like : AreLike test t.vars m.shared others
  pub is : n ≡ with_shared m others

pub set_agrees : (test : Variable → Bool) (t : TypeTree) (m : Memory) (ys : List Held) (name : List ℕ) (d : Datum)
    → AreLike test t.vars m.shared ys
    → Agrees test t (set name d m) (set name d (with_shared m ys))
set_agrees test t m ys name d h = go (list_any (is_called name) m.own)
  where
    go : (b : Bool) → Agrees test t (cond b (record m { own = put_into name d m.own }) (record m { shared = put_into name d m.shared }))
        (cond b (record (with_shared m ys) { own = put_into name d m.own }) (record (with_shared m ys) { shared = put_into name d ys }))
    go true = record { others = ys; like = h; is = refl }
    go false = record { others = put_into name d ys; like = put_like test t.vars m.shared ys name d h; is = refl }

-- the same after one more that agrees already
pub set_agrees_too : (test : Variable → Bool) (t : TypeTree) (m n : Memory) (name : List ℕ) (d : Datum) → Agrees test t m n
    → Agrees test t (set name d m) (set name d n)
set_agrees_too test t m n name d h =
    subst (λ k. Agrees test t (set name d m) (set name d k)) (sym h.is) (set_agrees test t m h.others name d h.like)

pub set_each_agrees : (test : Variable → Bool) (t : TypeTree) (names : List (List ℕ)) (ds : List Datum) (m n : Memory) → Agrees test t m n
    → Agrees test t (set_each names ds m) (set_each names ds n)
set_each_agrees test t [] ds m n h = h
set_each_agrees test t (name ∷ names) [] m n h = h
set_each_agrees test t (name ∷ names) (d ∷ ds) m n h =
    set_each_agrees test t names ds (set name d m) (set name d n) (set_agrees_too test t m n name d h)

pub set_keeps_shut : (held : Option ℕ) (t : TypeTree) (zs : List Held) (m : Memory) (name : List ℕ) (d : Datum)
    → AreLike (is_shut held) t.vars zs m.shared
    → IsOpenSeen held (var_named t.vars name) → AreLike (is_shut held) t.vars zs (set name d m).shared
set_keeps_shut held t zs m name d h o = go (list_any (is_called name) m.own)
  where
    go : (b : Bool)
        → AreLike (is_shut held) t.vars zs
        (cond b (record m { own = put_into name d m.own }) (record m { shared = put_into name d m.shared })).shared
    go true = h
    go false = put_shut held t.vars zs m.shared name d h o

-- ---- kinds, which agree at every variable
kind_same : (test : Variable → Bool) (vs : List Variable) (xs ys : List Held) (name : List ℕ) → AreLike test vs xs ys
    → option_map (λ v. v.kind) (find (is_called name) ys) ≡ option_map (λ v. v.kind) (find (is_called name) xs)
kind_same test [] [] [] name h = refl
kind_same test (v ∷ vs) (a ∷ xs) (b ∷ ys) name h =
    ap (λ c. option_map (λ v. v.kind) (cond c (Some b) (find (is_called name) ys))) (called name v b h.0.other_name)
    ∙ go (same_text v.name.text name) (kind_same test vs xs ys name h.1)
    ∙ sym (ap (λ c. option_map (λ v. v.kind) (cond c (Some a) (find (is_called name) xs))) (called name v a h.0.one_name))
  where
    go : (c : Bool) → option_map (λ v. v.kind) (find (is_called name) ys) ≡ option_map (λ v. v.kind) (find (is_called name) xs)
        → option_map (λ v. v.kind) (cond c (Some b) (find (is_called name) ys)) ≡ option_map (λ v. v.kind)
        (cond c (Some a) (find (is_called name) xs))
    go true x = ap Some (sym h.0.kind)
    go false x = x
kind_same test [] (a ∷ xs) ys name h = absurd h
kind_same test [] [] (b ∷ ys) name h = absurd h
kind_same test (v ∷ vs) [] ys name h = absurd h
kind_same test (v ∷ vs) (a ∷ xs) [] name h = absurd h

kind_behind : (own xs ys : List Held) (test : Held → Bool)
    → option_map (λ v. v.kind) (find test ys) ≡ option_map (λ v. v.kind) (find test xs)
    → option_map (λ v. v.kind) (find test (own ++ ys)) ≡ option_map (λ v. v.kind) (find test (own ++ xs))
kind_behind [] xs ys test h = h
kind_behind (v ∷ own) xs ys test h = go (test v) (kind_behind own xs ys test h)
  where
    go : (c : Bool) → option_map (λ v. v.kind) (find test (own ++ ys)) ≡ option_map (λ v. v.kind) (find test (own ++ xs))
        → option_map (λ v. v.kind) (cond c (Some v) (find test (own ++ ys))) ≡ option_map (λ v. v.kind)
        (cond c (Some v) (find test (own ++ xs)))
    go true x = refl
    go false x = x

pub kinds_same : (test : Variable → Bool) (t : TypeTree) (m : Memory) (ys : List Held) (names : List (List ℕ))
    → AreLike test t.vars m.shared ys
    → kinds_as (with_shared m ys) names ≡ kinds_as m names
kinds_same test t m ys [] h = refl
kinds_same test t m ys (name ∷ names) h =
    let this : option_map (λ v. v.kind) (held_as (with_shared m ys) name) ≡ option_map (λ v. v.kind) (held_as m name) =
    kind_behind m.own m.shared ys (is_called name) (kind_same test t.vars m.shared ys name h) in
    ap (λ o. cons_option o (kinds_as (with_shared m ys) names)) this
    ∙ ap (cons_option (option_map (λ v. v.kind) (held_as m name))) (kinds_same test t m ys names h)

-- ---- expressions that break no rule
abbrev pub AllKeep : Scope → Option ℕ → Expressions → Type 0
AllKeep scope held no_expressions = Unit {0}
AllKeep scope held (expression_and e es) = (broken_expression scope held e ≡ []) × AllKeep scope held es

items_keep : (scope : Scope) (held : Option ℕ) (wanted : Option Shape) (es : Expressions) → broken_items scope held wanted es ≡ []
    → AllKeep scope held es
items_keep scope held wanted no_expressions h = tt
items_keep scope held wanted (expression_and e es) h =
    let first = broken_expression scope held e in
    let second = misfit_known wanted (kind_of scope e) (place_of e) in
    let third = broken_items scope held wanted es in (
      front_empty first second (front_empty (first ++ second) third h),
      items_keep scope held wanted es
          (back_empty (first ++ second) third h),
    )

arguments_keep : (scope : Scope) (held : Option ℕ) (tests : List (Shape → Bool)) (es : Expressions)
    → broken_arguments scope held tests es ≡ [] → AllKeep scope held es
arguments_keep scope held [] no_expressions h = tt
arguments_keep scope held (test ∷ tests) no_expressions h = tt
arguments_keep scope held [] (expression_and e es) h =
    let first = broken_expression scope held e in
    let second = broken_arguments scope held [] es in
    (front_empty first second h, arguments_keep scope held [] es (back_empty first second h))
arguments_keep scope held (test ∷ tests) (expression_and e es) h =
    let first = broken_expression scope held e in
    let second = failing test (kind_of scope e) (place_of e) in
    let third = broken_arguments scope held tests es in (
      front_empty first second (front_empty (first ++ second) third h),
      arguments_keep scope held tests es
          (back_empty (first ++ second) third h),
    )

pub row_keeps : (scope : Scope) (held : Option ℕ) (es : List Expression) → broken_expressions scope held es ≡ []
    → AllKeep scope held (in_order es)
row_keeps scope held [] h = tt
row_keeps scope held (e ∷ es) h =
    let first = broken_expression scope held e in
    let second = broken_expressions scope held es in
    (front_empty first second h, row_keeps scope held es (back_empty first second h))

pub values_keep : (scope : Scope) (held : Option ℕ) (wanted : List PlacedShape) (es : List Expression)
    → broken_values scope held wanted es ≡ [] → AllKeep scope held (in_order es)
values_keep scope held wanted [] h = tt
values_keep scope held [] (e ∷ es) h =
    let first = broken_expression scope held e in
    let second = broken_values scope held [] es in
    (front_empty first second h, values_keep scope held [] es (back_empty first second h))
values_keep scope held (k ∷ ks) (e ∷ es) h =
    let first = broken_as k.shape scope held e in
    let second = broken_values scope held ks es in (
      front_empty (broken_expression scope held e) (misfit k.shape (kind_of scope e) (place_of e)) (front_empty first second h),
      values_keep scope held ks es (back_empty first second h),
    )

-- ---- their values depend only on what may be touched
mutual
  pub value_same : (scope : Scope) (held : Option ℕ) (t : TypeTree) (m : Memory) (ys : List Held) → Opens scope held t
      → AreLike (is_open held) t.vars m.shared ys
      → (e : Expression) → broken_expression scope held e ≡ [] → value_of (with_shared m ys) e ≡ value_of m e
  value_same scope held t m ys o h (Const_ value place) k = refl
  value_same scope held t m ys o h (Name_ name) k = value_as_same scope held t m ys name.text o h (use_guarded scope held name k)
  value_same scope held t m ys o h (Me place) k = refl
  value_same scope held t m ys o h (Unary prefix of place) k =
      ap (λ r. found r (before_operand prefix))
      (value_same scope held t m ys o h of
      (front_empty (broken_expression scope held of) (misfit (kind_of_prefix prefix) (kind_of scope of) (place_of of)) k))
  value_same scope held t m ys o h (Binary operator left right place) k =
      let first = broken_expression scope held left in
      let second = broken_expression scope held right in
      let third = misfit_operands operator (kind_of scope left) (place_of left) (kind_of scope right) (place_of right) in
      let both : first ++ second ≡ [] = front_empty (first ++ second) third k in
      ap (λ r. found r (λ d. between operator d (value_of (with_shared m ys) right)))
      (value_same scope held t m ys o h left (front_empty first second both))
      ∙ ap (λ r. found (value_of m left) (λ d. between operator d r))
      (value_same scope held t m ys o h right (back_empty first second both))
  value_same scope held t m ys o h (Index of at place) k =
      let first = broken_expression scope held of in
      let second = failing is_list (kind_of scope of) (place_of of) in
      let third = broken_expression scope held at in
      let fourth = misfit ints (kind_of scope at) (place_of at) in
      let front : first ++ second ≡ [] = front_empty (first ++ second) (third ++ fourth) k in
      let back : third ++ fourth ≡ [] = back_empty (first ++ second) (third ++ fourth) k in
      ap (λ r. found r (λ d. found (value_of (with_shared m ys) at) (item_at d)))
      (value_same scope held t m ys o h of (front_empty first second front))
      ∙ ap (λ r. found (value_of m of) (λ d. found r (item_at d))) (value_same scope held t m ys o h at (front_empty third fourth back))
  value_same scope held t m ys o h (ListOf items place) k =
      ap (λ r. found r list_of) (row_same scope held t m ys o h items (items_keep scope held (kind_of_first scope items) items k))
  value_same scope held t m ys o h (Apply builtin args place) k =
      let first = broken_if (not (count args == length (argument_tests builtin None))) KindDiffers place in
      let second = broken_arguments scope held (argument_tests builtin (kind_of_first scope args)) args in
      ap (λ r. found r (applied builtin))
      (row_same scope held t m ys o h args
      (arguments_keep scope held (argument_tests builtin (kind_of_first scope args)) args (back_empty first second k)))

  pub row_same : (scope : Scope) (held : Option ℕ) (t : TypeTree) (m : Memory) (ys : List Held) → Opens scope held t
      → AreLike (is_open held) t.vars m.shared ys
      → (es : Expressions) → AllKeep scope held es → values_of (with_shared m ys) es ≡ values_of m es
  row_same scope held t m ys o h no_expressions k = refl
  row_same scope held t m ys o h (expression_and e es) k =
      ap (λ r. found r (λ d. found (values_of (with_shared m ys) es) (λ ds. Ok (d ∷ ds)))) (value_same scope held t m ys o h e k.0)
      ∙ ap (λ r. found (value_of m e) (λ d. found r (λ ds. Ok (d ∷ ds)))) (row_same scope held t m ys o h es k.1)
