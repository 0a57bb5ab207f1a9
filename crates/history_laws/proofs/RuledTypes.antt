-- Where the types of a script keep the rules, each type of a world does, and whatever it creates is of a type that is there.
use Rattle.std.proofs.Common.{◌≡◌, ℕ, Bool, true, false, cond, ◌||◌, List, [], ◌∷◌, ◌++◌, map, Some, is_some, refl, sym, ◌∙◌, ap, subst}
use Rattle.std.proofs.Common.{append_assoc}
use Rattle.std.specs.Prelude.{IfSome}
use Rattle.std.specs.List.{AllByRecursion, find, list_any}
use Rattle.std.proofs.lemmas.List.Folds.{list_any-append}
use Rattle.eden_model.specs.Map.{same_text}
use Rattle.epl_syntax.specs.declared.rule.Broken.{Broken}
use Rattle.epl_syntax.specs.declared.tree.Program.{Program}
use Rattle.epl_syntax.specs.declared.types.Native.{Native}
use Rattle.epl_syntax.specs.Edentype.{Edentype, native, declared}
use Rattle.epl_syntax.specs.Natives.{native_name}
use Rattle.epl_syntax.specs.Tree.{type_tree}
use Rattle.epl_syntax.specs.Rules.InItems.{broken_program}
use Rattle.epl_syntax.specs.Rules.OfTypes.{TypeList, broken_types, KeepRules, HasMonitors, HaveMonitors}
use Rattle.epl_syntax.specs.Meaning.{name_of, types_in}
use Rattle.history_laws.proofs.Tasks.{AreKnown, IsRuledType, AreRuled}

-- 1. Names

both-none : (xs ys : List Broken) → xs ++ ys ≡ [] → (xs ≡ []) × (ys ≡ [])
both-none [] ys is = (refl, is)
both-none (x ∷ xs) ys is = absurd (cc is)

-- each of these names is one of those
abbrev Among : List (List ℕ) → List (List ℕ) → Type 0
Among few names = (name : List ℕ) → list_any (λ n. same_text n name) few ≡ true → list_any (λ n. same_text n name) names ≡ true

any-left : (a b : Bool) → a ≡ true → (a || b) ≡ true
any-left true b is = refl
any-left false b is = absurd (cc is)

any-right : (a b : Bool) → b ≡ true → (a || b) ≡ true
any-right true b is = refl
any-right false b is = is

any-either : (a b c : Bool) → (a || b) ≡ true → (a ≡ true → c ≡ true) → (b ≡ true → c ≡ true) → c ≡ true
any-either true b c is x y = x refl
any-either false b c is x y = y is

among-front : (xs ys : List (List ℕ)) → Among xs (xs ++ ys)
among-front xs ys name is = list_any-append (λ n. same_text n name) xs ys
    ∙ any-left (list_any (λ n. same_text n name) xs) (list_any (λ n. same_text n name) ys) is

-- the name of a type, and those before it
among-next : (xs : List (List ℕ)) (x : List ℕ) (ys : List (List ℕ)) → Among (x ∷ xs) (xs ++ x ∷ ys)
among-next xs x ys name is = list_any-append (λ n. same_text n name) xs (x ∷ ys)
    ∙ any-either (same_text x name) (list_any (λ n. same_text n name) xs) _ is
    (λ here. any-right (list_any (λ n. same_text n name) xs) _ (any-left (same_text x name) (list_any (λ n. same_text n name) ys) here))
    (λ before. any-left (list_any (λ n. same_text n name) xs) _ before)

-- the names of types are known
find-named : (types : List Edentype) (name : List ℕ) → list_any (λ n. same_text n name) (map name_of types) ≡ true
    → is_some (find (λ t. same_text (name_of t) name) types) ≡ true
find-named [] name is = absurd (cc is)
find-named (t ∷ ts) name is = go (same_text (name_of t) name) is (find-named ts name)
  where
    go : (b : Bool) → (b || list_any (λ n. same_text n name) (map name_of ts)) ≡ true
        → (list_any (λ n. same_text n name) (map name_of ts) ≡ true → is_some (find (λ t. same_text (name_of t) name) ts) ≡ true)
        → is_some (cond b (Some t) (find (λ t. same_text (name_of t) name) ts)) ≡ true
    go true is later = refl
    go false is later = later is

-- 2. The declared types

abbrev texts_of : List Program → List (List ℕ)
texts_of ps = map (λ p. p.name.text) ps

declared-ruled : (types : List Edentype) (earlier : List (List ℕ)) (ps : List Program) → broken_types earlier ps ≡ []
    → AllByRecursion HasMonitors ps → AreKnown types (earlier ++ texts_of ps)
    → AllByRecursion (IsRuledType types) (map (λ p. declared (type_tree p)) ps)
declared-ruled types earlier [] keeps monitors known = tt
declared-ruled types earlier (p ∷ ps) keeps monitors known =
    let parts = both-none (broken_program earlier (type_tree p)) (broken_types (earlier ++ p.name.text ∷ []) ps) keeps in (
      record {
        earlier = earlier;
        keeps = parts.0;
        known = λ name is. known name (among-next earlier p.name.text (texts_of ps) name is);
        monitors = monitors.0;
      },
      declared-ruled types (earlier ++ p.name.text ∷ []) ps parts.1 monitors.1
          (subst (AreKnown types) (sym (append_assoc earlier (p.name.text ∷ []) (texts_of ps))) known),
    )

natives-ruled : (types : List Edentype) (ns : List Native) (more : List Edentype) → AllByRecursion (IsRuledType types) more
    → AllByRecursion (IsRuledType types) (map native ns ++ more)
natives-ruled types [] more all = all
natives-ruled types (n ∷ ns) more all = (tt, natives-ruled types ns more all)

names-declared : (ps : List Program) → map name_of (map (λ p. declared (type_tree p)) ps) ≡ texts_of ps
names-declared [] = refl
names-declared (p ∷ ps) = ap (λ l. p.name.text ∷ l) (names-declared ps)

names-in : (ns : List Native) (more : List Edentype) → map name_of (map native ns ++ more) ≡ map native_name ns ++ map name_of more
names-in [] more = refl
names-in (n ∷ ns) more = ap (λ l. native_name n ∷ l) (names-in ns more)

found-all : (types : List Edentype) (P : Edentype → Type 0) (name : List ℕ) (t : Edentype) → AllByRecursion P types
    → find (λ t. same_text (name_of t) name) types ≡ Some t → P t
found-all [] P name t all is = absurd (cc is)
found-all (x ∷ xs) P name t all is = go (same_text (name_of x) name) is (found-all xs P name t all.1)
  where
    go : (b : Bool) → cond b (Some x) (find (λ t. same_text (name_of t) name) xs) ≡ Some t
        → (find (λ t. same_text (name_of t) name) xs ≡ Some t → P t) → P t
    go true is later = subst (λ o. IfSome o P) is all.0
    go false is later = later is

pub types-ruled : (ts : TypeList) → KeepRules ts → HaveMonitors ts → AreRuled (types_in ts)
types-ruled ts rules monitors name t is = found-all (types_in ts) (IsRuledType (types_in ts)) name t
    (natives-ruled (types_in ts) ts.native _ (declared-ruled (types_in ts) (map native_name ts.native) ts.declared rules monitors known)) is
  where
    names : map name_of (types_in ts) ≡ map native_name ts.native ++ texts_of ts.declared
    names = names-in ts.native (map (λ p. declared (type_tree p)) ts.declared)
        ∙ ap (λ l. map native_name ts.native ++ l) (names-declared ts.declared)

    known : AreKnown (types_in ts) (map native_name ts.native ++ texts_of ts.declared)
    known name is = find-named (types_in ts) name (subst (λ l. list_any (λ n. same_text n name) l ≡ true) (sym names) is)
