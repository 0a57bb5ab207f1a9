-- Types that keep the rules, and one more.
use Rattle.std.proofs.Common.{◌≡◌, ℕ, suc, ◌+◌, Bool, true, false, cond, Option, None, Some, refl, ap, sym, ◌∙◌, subst, List, [], ◌∷◌}
use Rattle.std.proofs.Common.{◌++◌, length, map, append_assoc, arith}
use Rattle.std.specs.Prelude.{◌||◌}
use Rattle.std.specs.List.{AllByRecursion, IsDistinct, list_any, position_from}
use Rattle.std.proofs.lemmas.List.{length-map}
use Rattle.std.proofs.lemmas.Iterator.Adapters.{position_from-zero}
use Rattle.eden_model.specs.Map.{same_text}
use Rattle.epl_syntax.specs.declared.types.Native.{Native}
use Rattle.epl_syntax.specs.Natives.{native_name, native_types}
use Rattle.epl_syntax.specs.declared.rule.Broken.{Broken}
use Rattle.epl_syntax.specs.declared.tree.Program.{Program}
use Rattle.epl_syntax.specs.declared.checked.Checked.{Checked}
use Rattle.epl_syntax.specs.Tree.{type_tree}
use Rattle.epl_syntax.specs.Rules.InItems.{broken_program}
use Rattle.epl_syntax.specs.Rules.OfTypes.{TypeList, broken_types, place_named}

front_empty : (xs ys : List Broken) → xs ++ ys ≡ [] → xs ≡ []
front_empty [] ys h = refl
front_empty (x ∷ xs) ys h = absurd cc

both_empty : (xs ys : List Broken) → xs ≡ [] → ys ≡ [] → xs ++ ys ≡ []
both_empty xs ys h k = ap (λ l. l ++ ys) h ∙ k

back_empty : (xs ys : List Broken) → xs ++ ys ≡ [] → ys ≡ []
back_empty xs ys h = sym (ap (λ l. l ++ ys) (front_empty xs ys h)) ∙ h

append_nothing : {A : Type 0} (xs : List A) → xs ++ [] ≡ xs
append_nothing [] = refl
append_nothing (x ∷ xs) = ap (λ l. x ∷ l) (append_nothing xs)

-- the last of the types sees the names of all before it
one_more : (names : List (List ℕ)) (ts : List Program) (t : Program) → broken_types names ts ≡ []
    → broken_program (names ++ map (λ u. u.name.text) ts) (type_tree t) ≡ [] → broken_types names (ts ++ t ∷ []) ≡ []
one_more names [] t h k = both_empty (broken_program names (type_tree t)) []
    (ap (λ n. broken_program n (type_tree t)) (sym (append_nothing names)) ∙ k) refl
one_more names (u ∷ ts) t h k =
    let this = broken_program names (type_tree u) in
    let next = names ++ u.name.text ∷ [] in
    both_empty this (broken_types next (ts ++ t ∷ [])) (front_empty this (broken_types next ts) h)
    (one_more next ts t (back_empty this (broken_types next ts) h)
    (ap (λ n. broken_program n (type_tree t)) (append_assoc names (u.name.text ∷ []) (map (λ v. v.name.text) ts)) ∙ k))

map_push : (cs : List Checked) (c : Checked) → map (λ k. k.program) (cs ++ c ∷ []) ≡ map (λ k. k.program) cs ++ c.program ∷ []
map_push [] c = refl
map_push (d ∷ cs) c = ap (λ l. d.program ∷ l) (map_push cs c)

pub kept_with : (names : List (List ℕ)) (cs new : List Checked) (c : Checked) → broken_types names (map (λ k. k.program) cs) ≡ []
    → broken_program (names ++ map (λ u. u.name.text) (map (λ k. k.program) cs)) (type_tree c.program) ≡ []
    → new ≡ cs ++ c ∷ [] → broken_types names (map (λ k. k.program) new) ≡ []
kept_with names cs new c h k e =
    ap (λ l. broken_types names (map (λ x. x.program) l)) e ∙ ap (broken_types names) (map_push cs c)
    ∙ one_more names (map (λ x. x.program) cs) c.program h k

-- the names of declared types
abbrev pub texts_of : List Checked → List (List ℕ)
texts_of cs = map (λ p. p.name.text) (map (λ c. c.program) cs)

texts_push : (cs : List Checked) (c : Checked) → texts_of (cs ++ c ∷ []) ≡ texts_of cs ++ c.program.name.text ∷ []
texts_push [] c = refl
texts_push (d ∷ cs) c = ap (λ l. d.program.name.text ∷ l) (texts_push cs c)

both_false : (a b : Bool) → (a || b) ≡ false → (a ≡ false) × (b ≡ false)
both_false true b h = absurd cc
both_false false b h = (refl, h)

pub all_push : {K : Type 0} (P : K → Type 0) (xs : List K) (y : K) → AllByRecursion P xs → P y → AllByRecursion P (xs ++ y ∷ [])
all_push P [] y all here = (here, tt)
all_push P (x ∷ xs) y all here = (all.0, all_push P xs y all.1 here)

-- one more that none is equal to
pub distinct_push : {K : Type 0} (e : K → K → Bool) (xs : List K) (y : K) → IsDistinct e xs → list_any (λ x. e x y) xs ≡ false
    → IsDistinct e (xs ++ y ∷ [])
unfolding IsDistinct
distinct_push e [] y d none = (tt, tt)
distinct_push e (x ∷ xs) y d none =
    let b = both_false (e x y) (list_any (λ z. e z y) xs) none in
    (all_push (λ z. e x z ≡ false) xs y d.0 b.0, distinct_push e xs y d.1 b.1)

pub distinct_with : (names : List (List ℕ)) (cs new : List Checked) (c : Checked) → IsDistinct same_text (names ++ texts_of cs)
    → list_any (λ t. same_text t c.program.name.text) (names ++ texts_of cs) ≡ false → new ≡ cs ++ c ∷ []
    → IsDistinct same_text (names ++ texts_of new)
distinct_with names cs new c d none e =
    let text = c.program.name.text in
    let is : names ++ texts_of new ≡ (names ++ texts_of cs) ++ text ∷ [] =
    ap (λ l. names ++ texts_of l) e ∙ ap (λ l. names ++ l) (texts_push cs c) ∙ sym (append_assoc names (texts_of cs) (text ∷ [])) in
    subst (IsDistinct same_text) (sym is) (distinct_push same_text (names ++ texts_of cs) text d none)

-- the native types alone
pub native_kept : (ns : List Native) (cs : List Checked) → ns ≡ native_types → cs ≡ []
    → (broken_types (map native_name ns) (map (λ c. c.program) cs) ≡ []) × (ns ≡ native_types) × IsDistinct same_text
    (map native_name ns ++ texts_of cs)
unfolding IsDistinct
native_kept ns cs n c = (
  ap (λ l. broken_types (map native_name ns) (map (λ k. k.program) l)) c,
  n,
  subst (λ l. IsDistinct same_text (map native_name l ++ texts_of cs)) (sym n)
      (subst (λ l. IsDistinct same_text (map native_name native_types ++ texts_of l)) (sym c) alone),
)
  where
    alone : IsDistinct same_text (map native_name native_types ++ [])
    alone = (
      (refl, (refl, (refl, (refl, (refl, (refl, (refl, tt))))))),
      (
        (refl, (refl, (refl, (refl, (refl, (refl, tt)))))),
        (
          (refl, (refl, (refl, (refl, (refl, tt))))),
          (
            (refl, (refl, (refl, (refl, tt)))),
            (
              (refl, (refl, (refl, tt))),
              (
                (refl, (refl, tt)),
                (
                  (refl, tt),
                  (
                    tt,
                    tt,
                  ),
                ),
              ),
            ),
          ),
        ),
      ),
    )

-- what is not in the front is where it is behind it
position_behind : {K : Type 0} (test : K → Bool) (i : ℕ) (xs ys : List K) → position_from test i xs ≡ None
    → position_from test (i + length xs) ys ≡ position_from test i (xs ++ ys)
position_behind test i [] ys none = ap (λ n. position_from test n ys) (omega arith)
position_behind test i (x ∷ xs) ys none = go (test x) (λ h. position_behind test (i + 1) xs ys h) none
  where
    go : (b : Bool) → (position_from test (i + 1) xs ≡ None
        → position_from test (i + 1 + length xs) ys ≡ position_from test (i + 1) (xs ++ ys))
        → cond b (Some i) (position_from test (i + 1) xs) ≡ None
        → position_from test (i + suc (length xs)) ys ≡ cond b (Some i) (position_from test (i + 1) (xs ++ ys))
    go true more h = absurd cc
    go false more h = ap (λ n. position_from test n ys) (omega arith) ∙ more h

-- what is in the front is where it is there
position_in_front : {K : Type 0} (test : K → Bool) (i p : ℕ) (xs ys : List K)
    → position_from test i xs ≡ Some p → position_from test i (xs ++ ys) ≡ Some p
position_in_front test i p [] ys h = absurd cc
position_in_front test i p (x ∷ xs) ys h = go (test x) (λ h. position_in_front test (i + 1) p xs ys h) h
  where
    go : (b : Bool) → (position_from test (i + 1) xs ≡ Some p → position_from test (i + 1) (xs ++ ys) ≡ Some p)
        → cond b (Some i) (position_from test (i + 1) xs) ≡ Some p → cond b (Some i) (position_from test (i + 1) (xs ++ ys)) ≡ Some p
    go true more h = h
    go false more h = more h

-- a name that a native type has
pub found_native : (types : TypeList) (name : List ℕ) (ns : List Native) (cs : List Checked) (p : ℕ)
    → record { native = ns; declared = map (λ c. c.program) cs } ≡ types
    → position_from (λ t. same_text t name) 0 (map native_name ns) ≡ Some p → Some p ≡ place_named types name
found_native types name ns cs p view is =
    sym (position_in_front (λ t. same_text t name) 0 p (map native_name ns) (texts_of cs) is)
    ∙ sym (position_from-zero (λ t. same_text t name) (map native_name ns ++ texts_of cs)) ∙ ap (λ ts. place_named ts name) view

-- a name that no native type has
pub found_declared : (types : TypeList) (name : List ℕ) (ns : List Native) (cs : List Checked) (first : ℕ) (r : Option ℕ)
    → record { native = ns; declared = map (λ c. c.program) cs } ≡ types → first ≡ length ns
    → position_from (λ t. same_text t name) 0 (map native_name ns) ≡ None → r ≡ position_from (λ t. same_text t name) first (texts_of cs)
    → r ≡ place_named types name
found_declared types name ns cs first r view from none is =
    let at : first ≡ 0 + length (map native_name ns) = omega (arith, from, length-map ns native_name) in
    is ∙ ap (λ n. position_from (λ t. same_text t name) n (texts_of cs)) at
    ∙ position_behind (λ t. same_text t name) 0 (map native_name ns) (texts_of cs) none
    ∙ sym (position_from-zero (λ t. same_text t name) (map native_name ns ++ texts_of cs)) ∙ ap (λ ts. place_named ts name) view
