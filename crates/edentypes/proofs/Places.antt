-- The place of a name in the list of all types.
use Rattle.std.proofs.Common.{◌≡◌, ℕ, suc, ◌+◌, Bool, true, false, cond, Option, None, Some, refl, ap, sym, ◌∙◌, List, [], ◌∷◌}
use Rattle.std.proofs.Common.{◌++◌, map, arith}
use Rattle.std.specs.Prelude.{slice_get}
use Rattle.std.specs.List.{find, position_from}
use Rattle.std.specs.Option.{option_map}
use Rattle.std.proofs.lemmas.Iterator.Adapters.{position_from-zero}
use Rattle.eden_model.specs.Map.{with_item, same_text}
use Rattle.epl_syntax.specs.declared.tree.Program.{Program}
use Rattle.epl_syntax.specs.declared.types.Native.{Native}
use Rattle.epl_syntax.specs.declared.types.Native.TheVariants.{Cell}
use Rattle.epl_syntax.specs.Edentype.{Edentype, native, declared}
use Rattle.epl_syntax.specs.Meaning.{name_of, type_of, types_in}
use Rattle.epl_syntax.specs.Natives.{native_name}
use Rattle.epl_syntax.specs.Rules.OfTypes.{TypeList, names_of, place_named}
use Rattle.epl_syntax.specs.Tree.{type_tree}
use Rattle.edentypes.specs.View.{type_at}

-- counted from one place further on
shift : {K : Type 0} (test : K → Bool) (i : ℕ) (xs : List K) → position_from test (suc i) xs ≡ option_map suc (position_from test i xs)
shift test i [] = refl
shift test i (x ∷ xs) = go (test x) (ap (λ n. position_from test n xs) (omega arith) ∙ shift test (i + 1) xs)
  where
    go : (b : Bool) → position_from test (suc i + 1) xs ≡ option_map suc (position_from test (i + 1) xs)
        → cond b (Some (suc i)) (position_from test (suc i + 1) xs) ≡ option_map suc (cond b (Some i) (position_from test (i + 1) xs))
    go true more = refl
    go false more = more

fused : {Y : Type 0} (o : Option ℕ) (f : ℕ → Option Y) → with_item (option_map suc o) f None ≡ with_item o (λ p. f (suc p)) None
fused None f = refl
fused (Some p) f = refl

-- the first of this name stands at the place of the name
found : (name : List ℕ) (ts : List Edentype) → with_item (position_from (λ t. same_text t name) 0 (map name_of ts)) (slice_get ts) None
    ≡ find (λ t. same_text (name_of t) name) ts
found name [] = refl
found name (t ∷ ts) = go (same_text (name_of t) name) (found name ts)
  where
    go : (b : Bool) → with_item (position_from (λ n. same_text n name) 0 (map name_of ts)) (slice_get ts) None
        ≡ find (λ u. same_text (name_of u) name) ts
        → with_item (cond b (Some 0) (position_from (λ n. same_text n name) 1 (map name_of ts))) (slice_get (t ∷ ts)) None
        ≡ cond b (Some t) (find (λ u. same_text (name_of u) name) ts)
    go true more = refl
    go false more =
        ap (λ o. with_item o (slice_get (t ∷ ts)) None) (shift (λ n. same_text n name) 0 (map name_of ts))
        ∙ fused (position_from (λ n. same_text n name) 0 (map name_of ts)) (slice_get (t ∷ ts)) ∙ more

-- where none has the name there is no place
nowhere : (name : List ℕ) (i : ℕ) (ts : List Edentype) → find (λ t. same_text (name_of t) name) ts ≡ None
    → position_from (λ t. same_text t name) i (map name_of ts) ≡ None
nowhere name i [] h = refl
nowhere name i (t ∷ ts) h = go (same_text (name_of t) name) (nowhere name (i + 1) ts) h
  where
    go : (b : Bool) → (find (λ u. same_text (name_of u) name) ts ≡ None
        → position_from (λ n. same_text n name) (i + 1) (map name_of ts) ≡ None)
        → cond b (Some t) (find (λ u. same_text (name_of u) name) ts) ≡ None
        → cond b (Some i) (position_from (λ n. same_text n name) (i + 1) (map name_of ts)) ≡ None
    go true more e = absurd cc
    go false more e = more e

names_behind : (ds : List Program) → map name_of (map (λ p. declared (type_tree p)) ds) ≡ map (λ t. t.name.text) ds
names_behind [] = refl
names_behind (d ∷ ds) = ap (λ l. d.name.text ∷ l) (names_behind ds)

names_are : (ns : List Native) (ds : List Program)
    → map name_of (map native ns ++ map (λ p. declared (type_tree p)) ds) ≡ map native_name ns ++ map (λ t. t.name.text) ds
names_are [] ds = names_behind ds
names_are (n ∷ ns) ds = ap (λ l. native_name n ∷ l) (names_are ns ds)

place_is : (ts : TypeList) (name : List ℕ) → position_from (λ t. same_text t name) 0 (map name_of (types_in ts)) ≡ place_named ts name
place_is ts name =
    ap (position_from (λ t. same_text t name) 0) (names_are ts.native ts.declared)
    ∙ sym (position_from-zero (λ t. same_text t name) (names_of ts))

-- no type has the name
pub no_name : (ts : TypeList) (name : List ℕ) (r : Option ℕ) → r ≡ place_named ts name → r ≡ None → None ≡ type_of (types_in ts) name
no_name ts name r is h =
    ap (λ o. with_item o (slice_get (types_in ts)) None) (sym h ∙ is ∙ sym (place_is ts name)) ∙ found name (types_in ts)

-- the type of the name stands at its place
pub at_name : (ts : TypeList) (name : List ℕ) (r : Option ℕ) (p : ℕ) → r ≡ place_named ts name → r ≡ Some p
    → Some (type_at ts p) ≡ type_of (types_in ts) name
at_name ts name r p is h = go (type_of (types_in ts) name) refl
  where
    at : Some p ≡ position_from (λ t. same_text t name) 0 (map name_of (types_in ts))
    at = sym h ∙ is ∙ sym (place_is ts name)

    got : slice_get (types_in ts) p ≡ type_of (types_in ts) name
    got = ap (λ o. with_item o (slice_get (types_in ts)) None) at ∙ found name (types_in ts)

    go : (o : Option Edentype) → type_of (types_in ts) name ≡ o → Some (type_at ts p) ≡ type_of (types_in ts) name
    go None e = let none : Some p ≡ None = at ∙ nowhere name 0 (types_in ts) e in absurd cc
    go (Some t) e = ap (λ o. Some (with_item o (λ u. u) (native Cell))) (got ∙ e) ∙ sym e
