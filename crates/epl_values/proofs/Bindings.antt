-- What a name stands for by a binding that is right for it.
use Rattle.std.proofs.Common.{◌≡◌, ℕ, zero, suc, ◌<◌, Bool, true, List, [], ◌∷◌, length, get_or, map, Option, None, Some}
use Rattle.std.proofs.Common.{refl, ap, sym, ◌∙◌, arith}
use Rattle.std.specs.Prelude.{slice_get, slice_set, is_some, ◌&&◌}
use Rattle.eden_value.specs.Datum.{Datum}
use Rattle.eden_value.specs.Shape.{Shape}
use Rattle.eden_model.specs.Map.{with_item, or_else}
use Rattle.epl_syntax.specs.declared.binding.Binding.{Binding}
use Rattle.epl_syntax.specs.declared.binding.Binding.TheVariants.{ByName, Parameter, Local, Variable, Monitor, Condition}
use Rattle.epl_syntax.specs.declared.tree.Builtin.{Builtin}
use Rattle.epl_syntax.specs.declared.tree.Expr.{Expr}
use Rattle.epl_syntax.specs.declared.tree.Name.{Name}
use Rattle.epl_syntax.specs.declared.tree.Program.{Program}
use Rattle.epl_syntax.specs.Memory.{set}
use Rattle.epl_syntax.specs.Bindings.{Sort, Names, variable, place_of, is_at, is_nowhere, is_right, binding_at, has_binding}
use Rattle.epl_syntax.specs.Bindings.{each_of_expression}
use Rattle.epl_syntax.specs.Bindings.{each_of_expressions}
use Rattle.epl_syntax.specs.Tree.{TypeTree, type_tree, Expression, Expressions, ListOf, Apply, expression, expressions}
use Rattle.epl_syntax.proofs.Bindings.{left_true, right_true, at_is, by_name, each_expression, each_expressions}
use Rattle.epl_values.specs.Variables.{value_in, values_with, kind_there, kind_in, value_as_named, kind_as_named, memory}
use Rattle.epl_values.specs.Variables.{parameters_of, locals_of, names_in, is_found, value_at, kind_at}
use Rattle.epl_values.specs.declared.variables.Owner.{Owner}
use Rattle.epl_values.specs.declared.variables.Variables.{Variables as Seen}
use Rattle.epl_values.proofs.Places.{named_is, kind_named_is, put_param, put_local, put_var}

-- ---- a place in one list
nowhere_is : (o : Option ℕ) → is_nowhere o ≡ true → o ≡ None
nowhere_is None h = refl
nowhere_is (Some i) h = absurd cc

module _ (names : List Name) (text : List ℕ) (values : List Datum) where
  value_at_place : (at : ℕ) → is_at (place_of names text) at ≡ true → value_in names values text ≡ slice_get values at
  value_at_place at h = ap (λ o. with_item o (slice_get values) None) (at_is (place_of names text) at h)

  no_value : is_nowhere (place_of names text) ≡ true → value_in names values text ≡ None
  no_value h = ap (λ o. with_item o (slice_get values) None) (nowhere_is (place_of names text) h)

  kind_at_place : (kinds : List Shape) (at : ℕ) → is_at (place_of names text) at ≡ true
      → kind_in names kinds values text ≡ kind_there kinds values at
  kind_at_place kinds at h = ap (λ o. with_item o (kind_there kinds values) None) (at_is (place_of names text) at h)

  no_kind : (kinds : List Shape) → is_nowhere (place_of names text) ≡ true → kind_in names kinds values text ≡ None
  no_kind kinds h = ap (λ o. with_item o (kind_there kinds values) None) (nowhere_is (place_of names text) h)

  put_at_place : (at : ℕ) (d : Datum) → is_at (place_of names text) at ≡ true → slice_set values at d ≡ values_with names text d values
  put_at_place at d h = sym (ap (λ o. with_item o (λ i. slice_set values i d) values) (at_is (place_of names text) at h))

-- the first of three
module _ {X : Type 0} (a b c : Option X) (x : X) where
  the_first : a ≡ Some x → or_else a (or_else b c) ≡ Some x
  the_first h = ap (λ o. or_else o (or_else b c)) h

  the_second : a ≡ None → b ≡ Some x → or_else a (or_else b c) ≡ Some x
  the_second h k = ap (λ o. or_else o (or_else b c)) h ∙ ap (λ o. or_else o c) k

  the_third : a ≡ None → b ≡ None → c ≡ Some x → or_else a (or_else b c) ≡ Some x
  the_third h k l = ap (λ o. or_else o (or_else b c)) h ∙ ap (λ o. or_else o c) k ∙ l

-- ---- what a process sees
-- what is right of a binding
module _ (names : Names) (text : List ℕ) (at : ℕ) where
  no_param : is_right names variable text (Local at) ≡ true → is_nowhere (place_of names.params text) ≡ true
  no_param h = left_true (is_nowhere (place_of names.params text)) (is_at (place_of names.locals text) at) h

  a_local : is_right names variable text (Local at) ≡ true → is_at (place_of names.locals text) at ≡ true
  a_local h = right_true (is_nowhere (place_of names.params text)) (is_at (place_of names.locals text) at) h

  neither : is_right names variable text (Variable at) ≡ true
      → (is_nowhere (place_of names.params text) && is_nowhere (place_of names.locals text)) ≡ true
  neither h =
      left_true (is_nowhere (place_of names.params text) && is_nowhere (place_of names.locals text)) (is_at (place_of names.vars text) at) h

  not_param : is_right names variable text (Variable at) ≡ true → is_nowhere (place_of names.params text) ≡ true
  not_param h = left_true (is_nowhere (place_of names.params text)) (is_nowhere (place_of names.locals text)) (neither h)

  not_local : is_right names variable text (Variable at) ≡ true → is_nowhere (place_of names.locals text) ≡ true
  not_local h = right_true (is_nowhere (place_of names.params text)) (is_nowhere (place_of names.locals text)) (neither h)

  a_var : is_right names variable text (Variable at) ≡ true → is_at (place_of names.vars text) at ≡ true
  a_var h =
      right_true (is_nowhere (place_of names.params text) && is_nowhere (place_of names.locals text)) (is_at (place_of names.vars text) at)
      h

-- the binding that was read is right for a name, where the one at the name's place is
pub right_at : (p : Program) (owner : Owner) (name : Name) (bindings : List Binding) (s r : Binding) → is_found p owner variable name ≡ true
    → bindings ≡ p.bindings.items → s ≡ binding_at bindings name.place → r ≡ s
    → is_right (names_in (type_tree p) owner) variable name.text r ≡ true
right_at p owner name bindings s r found are is same =
    let test = is_right (names_in (type_tree p) owner) variable name.text in
    ap test (same ∙ is) ∙ ap (λ ss. test (binding_at ss name.place)) are ∙ found

-- the value by a binding that is right for a name is that of the name
pub value_found : (t : TypeTree) (v : Seen) (text : List ℕ) (s : Binding) (d : Datum) → is_right (names_in t v.owner) variable text s ≡ true
    → Some d ≡ value_at v s → value_as_named (memory t v) text ≡ Some d
value_found t v text s d right is = named_is t v text ∙ by s right is
  where
    by : (s : Binding) → is_right (names_in t v.owner) variable text s ≡ true → Some d ≡ value_at v s
        → or_else (value_in (names_in t v.owner).params v.params text)
        (or_else (value_in (names_in t v.owner).locals v.locals text) (value_in (names_in t v.owner).vars v.vars text)) ≡ Some d
    by ByName h k = absurd cc
    by (Parameter at) h k =
        let names = names_in t v.owner in
        the_first (value_in names.params v.params text) (value_in names.locals v.locals text) (value_in names.vars v.vars text) d
        (value_at_place names.params text v.params at h ∙ sym k)
    by (Local at) h k =
        let names = names_in t v.owner in
        the_second (value_in names.params v.params text) (value_in names.locals v.locals text) (value_in names.vars v.vars text) d
        (no_value names.params text v.params (no_param names text at h))
        (value_at_place names.locals text v.locals at (a_local names text at h) ∙ sym k)
    by (Variable at) h k =
        let names = names_in t v.owner in
        the_third (value_in names.params v.params text) (value_in names.locals v.locals text) (value_in names.vars v.vars text) d
        (no_value names.params text v.params (not_param names text at h))
        (no_value names.locals text v.locals (not_local names text at h))
        (value_at_place names.vars text v.vars at (a_var names text at h) ∙ sym k)
    by (Monitor at) h k = absurd cc
    by (Condition at) h k = absurd cc

-- the kinds of what a body sees
abbrev of_params : TypeTree → Seen → List Shape
of_params t v = map (λ p. p.kind.shape) (parameters_of t v.owner)

abbrev of_locals : TypeTree → Seen → List Shape
of_locals t v = map (λ l. l.kind.shape) (locals_of t v.owner)

abbrev of_vars : TypeTree → List Shape
of_vars t = map (λ x. x.kind.shape) t.vars

-- and so is the kind
pub kind_found : (t : TypeTree) (v : Seen) (text : List ℕ) (s : Binding) (kind : Shape)
    → is_right (names_in t v.owner) variable text s ≡ true → Some kind ≡ kind_at t v s → kind_as_named (memory t v) text ≡ Some kind
kind_found t v text s kind right is = kind_named_is t v text ∙ by s right is
  where
    by : (s : Binding) → is_right (names_in t v.owner) variable text s ≡ true → Some kind ≡ kind_at t v s
        → or_else (kind_in (names_in t v.owner).params (of_params t v) v.params text)
        (or_else (kind_in (names_in t v.owner).locals (of_locals t v) v.locals text)
        (kind_in (names_in t v.owner).vars (of_vars t) v.vars text))
        ≡ Some kind
    by ByName h k = absurd cc
    by (Parameter at) h k =
        let names = names_in t v.owner in
        the_first (kind_in names.params (of_params t v) v.params text) (kind_in names.locals (of_locals t v) v.locals text)
        (kind_in names.vars (of_vars t) v.vars text) kind
        (kind_at_place names.params text v.params (of_params t v) at h ∙ sym k)
    by (Local at) h k =
        let names = names_in t v.owner in
        the_second (kind_in names.params (of_params t v) v.params text) (kind_in names.locals (of_locals t v) v.locals text)
        (kind_in names.vars (of_vars t) v.vars text) kind
        (no_kind names.params text v.params (of_params t v) (no_param names text at h))
        (kind_at_place names.locals text v.locals (of_locals t v) at (a_local names text at h) ∙ sym k)
    by (Variable at) h k =
        let names = names_in t v.owner in
        the_third (kind_in names.params (of_params t v) v.params text) (kind_in names.locals (of_locals t v) v.locals text)
        (kind_in names.vars (of_vars t) v.vars text) kind
        (no_kind names.params text v.params (of_params t v) (not_param names text at h))
        (no_kind names.locals text v.locals (of_locals t v) (not_local names text at h))
        (kind_at_place names.vars text v.vars (of_vars t) at (a_var names text at h) ∙ sym k)
    by (Monitor at) h k = absurd cc
    by (Condition at) h k = absurd cc

-- ---- another value by a binding that is right for a name
module _ (t : TypeTree) (v : Seen) (text : List ℕ) (at : ℕ) (old d : Datum) (new : List Datum) where
  pub set_at_param : is_right (names_in t v.owner) variable text (Parameter at) ≡ true → Some old ≡ slice_get v.params at
      → new ≡ slice_set v.params at d → memory t (record v { params = new }) ≡ set text d (memory t v)
  set_at_param h was is =
      let names = names_in t v.owner in
      put_param t v text d new (ap is_some (value_at_place names.params text v.params at h ∙ sym was))
      (is ∙ put_at_place names.params text v.params at d h)

  pub set_at_local : is_right (names_in t v.owner) variable text (Local at) ≡ true → Some old ≡ slice_get v.locals at
      → new ≡ slice_set v.locals at d → memory t (record v { locals = new }) ≡ set text d (memory t v)
  set_at_local h was is =
      let names = names_in t v.owner in
      let here = a_local names text at h in
      put_local t v text d new (ap is_some (no_value names.params text v.params (no_param names text at h)))
      (ap is_some (value_at_place names.locals text v.locals at here ∙ sym was))
      (is ∙ put_at_place names.locals text v.locals at d here)

  pub set_at_var : is_right (names_in t v.owner) variable text (Variable at) ≡ true → Some old ≡ slice_get v.vars at
      → new ≡ slice_set v.vars at d → memory t (record v { vars = new }) ≡ set text d (memory t v)
  set_at_var h was is =
      let names = names_in t v.owner in
      put_var t v text d new (ap is_some (no_value names.params text v.params (not_param names text at h)))
      (ap is_some (no_value names.locals text v.locals (not_local names text at h)))
      (is ∙ put_at_place names.vars text v.vars at d (a_var names text at h))

-- ---- the names of an expression in a row
pub in_list : (test : Sort → Name → Bool) (e : Expression) (items : Expressions) (place : ℕ) → e ≡ ListOf items place
    → each_of_expression test e ≡ true → each_of_expressions test items ≡ true
in_list test e items place is h = sym (ap (each_of_expression test) is) ∙ h

pub in_apply : (test : Sort → Name → Bool) (e : Expression) (builtin : Builtin) (args : Expressions) (place : ℕ)
    → e ≡ Apply builtin args place → each_of_expression test e ≡ true → each_of_expressions test args ≡ true
in_apply test e builtin args place is h = sym (ap (each_of_expression test) is) ∙ h

pub each_item : (test : Sort → Name → Bool) (es : List Expr) (i : ℕ) (e : Expr) → each_of_expressions test (expressions es) ≡ true
    → i < length es → e ≡ get_or es i e → each_of_expression test (expression e) ≡ true
each_item test [] i e h within is = absurd (omega arith)
each_item test (x ∷ es) zero e h within is =
    ap (λ y. each_of_expression test (expression y)) is
    ∙ left_true (each_of_expression test (expression x)) (each_of_expressions test (expressions es)) h
each_item test (x ∷ es) (suc i) e h within is =
    each_item test es i e (right_true (each_of_expression test (expression x)) (each_of_expressions test (expressions es)) h)
    (omega arith) is

-- ---- where a type has no table, each name is looked up
none_there : {X : Type 0} (xs : List X) → length xs ≡ 0 → xs ≡ []
none_there [] h = refl
none_there (x ∷ xs) h = absurd (omega (arith, h))

module _ (p : Program) (owner : Owner) (none : length p.bindings.items ≡ 0) where
  pub name_looked_up : (n : Name) → is_found p owner variable n ≡ true
  name_looked_up n = ap (λ bindings. has_binding bindings (names_in (type_tree p) owner) variable n) (none_there p.bindings.items none)

  pub expression_looked_up : (e : Expression) → each_of_expression (is_found p owner) e ≡ true
  expression_looked_up e =
      let names = names_in (type_tree p) owner in
      ap (λ bindings. each_of_expression (has_binding bindings names) e) (none_there p.bindings.items none)
      ∙ each_expression (has_binding [] names) (by_name names) e

  pub row_looked_up : (es : Expressions) → each_of_expressions (is_found p owner) es ≡ true
  row_looked_up es =
      let names = names_in (type_tree p) owner in
      ap (λ bindings. each_of_expressions (has_binding bindings names) es) (none_there p.bindings.items none)
      ∙ each_expressions (has_binding [] names) (by_name names) es
