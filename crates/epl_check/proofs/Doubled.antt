-- Names that are declared twice.
use Rattle.std.proofs.Common.{◌≡◌, ℕ, zero, suc, ◌+◌, ◌-◌, ◌<◌, ◌≤◌, max, take, length-drop, true, refl, ap, sym, ◌∙◌}
use Rattle.std.proofs.Common.{List, [], ◌∷◌, ◌++◌, map, length, drop, get_or, Option, append_assoc, arith}
use Rattle.std.specs.List.{flat_map}
use Rattle.epl_syntax.specs.declared.tree.Name.{Name}
use Rattle.eden_model.specs.Map.{same_text}
use Rattle.epl_syntax.specs.declared.rule.Broken.{Broken}
use Rattle.epl_syntax.specs.declared.rule.Rule.TheVariants.{Doubled}
use Rattle.epl_syntax.specs.Rules.First.{least}
use Rattle.epl_syntax.specs.Rules.Scopes.{clash, clashes, doubled, is_among, as_variable}
use Rattle.epl_check.specs.View.{doubled_before, is_past}
use Rattle.epl_check.proofs.Least.{least_append, drop_item, past_one, past_all}

at_least : (a b : ℕ) → a ≤ max a b
at_least a b = omega arith

pub past_clashes : (o : Option Broken) (n : Name) (ns : List Name) → is_past o n.place ≡ true → o ≡ least o (clashes n ns)
past_clashes o n ns h =
    past_all (clash n) o (λ m. past_one o n.place (max n.place m.place) Doubled (same_text n.text m.text) h (at_least n.place m.place)) ns

pub past_variable : (o : Option Broken) (vars : List Name) (n : Name) → is_past o n.place ≡ true → o ≡ least o (as_variable vars n)
past_variable o vars n h = past_one o n.place n.place Doubled (is_among vars n.text) h (omega arith)

pub flat_append : {A : Type 0} (f : A → List Broken) (xs ys : List A) → flat_map f (xs ++ ys) ≡ flat_map f xs ++ flat_map f ys
flat_append f [] ys = refl
flat_append f (x ∷ xs) ys = ap (λ l. f x ++ l) (flat_append f xs ys) ∙ sym (append_assoc (f x) (flat_map f xs) (flat_map f ys))

-- one name has been compared with what is behind it
pub doubled_turn : {A : Type 0} (g : A → Name) (xs rest : List A) (more others : List Name) (i : ℕ) (x : A)
    (o o1 o2 o3 whole : Option Broken)
    → i < length xs → x ≡ get_or xs i x → rest ≡ drop (i + 1) xs
    → o1 ≡ least o (clashes (g x) (map g rest)) → o2 ≡ least o1 (clashes (g x) more) → o3 ≡ least o2 (clashes (g x) others)
    → least o (doubled_before (map g (drop i xs)) (more ++ others)) ≡ whole
    → least o3 (doubled_before (map g (drop (i + 1) xs)) (more ++ others)) ≡ whole
doubled_turn g xs rest more others i x o o1 o2 o3 whole h k r s t u w =
    let n = g x in
    let a = map g (drop (i + 1) xs) in
    let last = doubled_before a (more ++ others) in
    let all : clashes n (a ++ (more ++ others)) ≡ clashes n a ++ (clashes n more ++ clashes n others) =
    flat_append _ a (more ++ others) ∙ ap (λ l. clashes n a ++ l) (flat_append _ more others) in
    ap (λ p. least p last) (u ∙ ap (λ p. least p (clashes n others))
    (t ∙ ap (λ p. least p (clashes n more)) (s ∙ ap (λ l. least o (clashes n (map g l))) r)))
    ∙ ap (λ p. least p last) (sym (least_append (least o (clashes n a)) (clashes n more) (clashes n others))
    ∙ sym (least_append o (clashes n a) (clashes n more ++ clashes n others)) ∙ ap (least o) (sym all))
    ∙ sym (least_append o (clashes n (a ++ (more ++ others))) last)
    ∙ sym (ap (λ l. least o (doubled_before (map g l) (more ++ others))) (drop_item xs i x h k))
    ∙ w

-- ---- the names of several lists
pub doubled_append : (ns ms : List Name) → doubled (ns ++ ms) ≡ doubled_before ns ms ++ doubled ms
doubled_append [] ms = refl
doubled_append (n ∷ ns) ms =
    ap (λ l. clashes n (ns ++ ms) ++ l) (doubled_append ns ms)
    ∙ sym (append_assoc (clashes n (ns ++ ms)) (doubled_before ns ms) (doubled ms))

pub append_nothing : {A : Type 0} (xs : List A) → xs ++ [] ≡ xs
append_nothing [] = refl
append_nothing (x ∷ xs) = ap (λ l. x ∷ l) (append_nothing xs)

pub doubled_alone : (ns : List Name) → doubled ns ≡ doubled_before ns []
doubled_alone ns = ap doubled (sym (append_nothing ns)) ∙ doubled_append ns [] ∙ append_nothing (doubled_before ns [])

pub least_two : (o : Option Broken) (ns ms : List Name)
    → least (least o (doubled_before ns (ms ++ []))) (doubled_before ms ([] ++ [])) ≡ least o (doubled (ns ++ ms))
least_two o ns ms =
    ap (λ l. least (least o (doubled_before ns l)) (doubled_before ms [])) (append_nothing ms)
    ∙ sym (least_append o (doubled_before ns ms) (doubled_before ms []))
    ∙ ap (λ l. least o (doubled_before ns ms ++ l)) (sym (doubled_alone ms))
    ∙ ap (least o) (sym (doubled_append ns ms))

pub least_three : (o : Option Broken) (ns ms ks : List Name)
    → least (least (least o (doubled_before ns (ms ++ ks))) (doubled_before ms (ks ++ []))) (doubled_before ks ([] ++ []))
    ≡ least o (doubled (ns ++ ms ++ ks))
least_three o ns ms ks =
    least_two (least o (doubled_before ns (ms ++ ks))) ms ks
    ∙ sym (least_append o (doubled_before ns (ms ++ ks)) (doubled (ms ++ ks)))
    ∙ ap (least o) (sym (doubled_append ns (ms ++ ks)))
    ∙ ap (λ l. least o (doubled l)) (sym (append_assoc ns ms ks))

-- what stands behind a place
pub behind : {A : Type 0} (xs : List A) (j : ℕ) → take (length xs - j) (drop j xs) ≡ drop j xs
behind xs j = whole (drop j xs) (length xs - j) (sym (length-drop j xs))
  where
    whole : {A : Type 0} (ys : List A) (n : ℕ) → n ≡ length ys → take n ys ≡ ys
    whole [] zero h = refl
    whole [] (suc n) h = refl
    whole (y ∷ ys) zero h = absurd (omega (arith, h))
    whole (y ∷ ys) (suc n) h = ap (λ l. y ∷ l) (whole ys n (omega (arith, h)))

pub three_told : (o o1 o2 o3 : Option Broken) (ns ms ks : List Name)
    → o1 ≡ least o (doubled_before ns (ms ++ ks)) → o2 ≡ least o1 (doubled_before ms (ks ++ []))
    → o3 ≡ least o2 (doubled_before ks ([] ++ []))
    → o3 ≡ least o (doubled (ns ++ ms ++ ks))
three_told o o1 o2 o3 ns ms ks s t u =
    u ∙ ap (λ p. least p (doubled_before ks ([] ++ []))) (t ∙ ap (λ p. least p (doubled_before ms (ks ++ []))) s) ∙ least_three o ns ms ks
