-- What is found by a name.
use Rattle.std.proofs.Common.{◌≡◌, ℕ, zero, suc, ◌+◌, ◌-◌, ◌<◌, ◌≤◌, Bool, true, false, cond, List, [], ◌∷◌, map}
use Rattle.std.proofs.Common.{length, drop, get_or, Option, Some, None, refl, ap, sym, ◌∙◌, arith}
use Rattle.std.specs.Prelude.{slice_get, is_some, ◌||◌, Vec}
use Rattle.std.specs.Borrow.{Bor}
use Rattle.std.specs.declared.cmp.Ordering.{Ordering}
use Rattle.std.specs.declared.cmp.Ordering.TheVariants.{Less, Equal, Greater}
use Rattle.std.specs.declared.alloc.Global.{Global}
use Rattle.std.specs.Ordering.{nat_cmp, is_eq, ordering_reverse, match_ordering}
use Rattle.std.specs.Cmp.{eq_by_cmp_equiv}
use Rattle.std.specs.Cmp.Lexicographic.{slice_cmp, nat_list_cmp_total}
use Rattle.std.specs.Map.{lookup}
use Rattle.std.specs.BTreeMap.{BTreeMap, is_at, insert_entry}
use Rattle.std.proofs.lemmas.Map.Lookups.{exact_bytes}
use Rattle.std.specs.Slice.{IsItemAt}
use Rattle.std.specs.Option.{option_map, option_copied}
use Rattle.epl_syntax.specs.declared.tree.Name.{Name}
use Rattle.epl_syntax.specs.declared.tree.VarDecl.{VarDecl}
use Rattle.epl_syntax.specs.declared.tree.LocalDecl.{LocalDecl}
use Rattle.epl_syntax.specs.declared.tree.ParDecl.{ParDecl}
use Rattle.epl_syntax.specs.declared.tree.CondDecl.{CondDecl}
use Rattle.eden_value.specs.Shape.{shape}
use Rattle.eden_model.specs.Map.{same_text}
use Rattle.epl_syntax.specs.Tree.{variable, local_of, parameter}
use Rattle.epl_syntax.specs.Rules.Scopes.{Seen, var_named, local_named, param_named, monitor_of_condition, number_in, is_among}
use Rattle.epl_check.specs.Numbered.{at, first_named}
use Rattle.epl_check.proofs.Least.{drop_item}

-- what a variable is seen as
abbrev pub seen_par : ParDecl → Seen
seen_par p = record { kind = shape p.kind.kind; monitor = 0 }

abbrev pub seen_local : LocalDecl → Seen
seen_local v = record { kind = shape v.kind.kind; monitor = 0 }

abbrev pub seen_var : VarDecl → Seen
seen_var v = record { kind = shape v.kind.kind; monitor = v.monitor }

-- a choice made before or behind a function
chosen : {A B : Type 0} (f : A → B) (b : Bool) (x : A) (o : Option A) (p : Option B) → p ≡ option_map f o
    → cond b (Some (f x)) p ≡ option_map f (cond b (Some x) o)
chosen f true x o p h = refl
chosen f false x o p h = h

pub param_first : (ps : List ParDecl) (text : List ℕ) → param_named (map parameter ps) text
    ≡ option_map seen_par (first_named (λ p. p.name) ps text)
param_first [] text = refl
param_first (p ∷ ps) text = chosen seen_par (same_text p.name.text text) p _ _ (param_first ps text)

pub local_first : (vs : List LocalDecl) (text : List ℕ)
    → local_named (map local_of vs) text ≡ option_map seen_local (first_named (λ v. v.name) vs text)
local_first [] text = refl
local_first (v ∷ vs) text = chosen seen_local (same_text v.name.text text) v _ _ (local_first vs text)

pub var_first : (vs : List VarDecl) (text : List ℕ) → var_named (map variable vs) text
    ≡ option_map seen_var (first_named (λ v. v.name) vs text)
var_first [] text = refl
var_first (v ∷ vs) text = chosen seen_var (same_text v.name.text text) v _ _ (var_first vs text)

pub condition_first : (cs : List CondDecl) (text : List ℕ)
    → monitor_of_condition cs text ≡ option_map (λ c. c.monitor) (first_named (λ c. c.name) cs text)
condition_first [] text = refl
condition_first (c ∷ cs) text = chosen (λ (c : CondDecl). c.monitor) (same_text c.name.text text) c _ _ (condition_first cs text)

-- ---- numbers

alike : (o : Ordering) → is_eq o ≡ true → o ≡ Equal
alike Less h = absurd cc
alike Equal h = refl
alike Greater h = absurd cc

same_is : (a b : List ℕ) → same_text a b ≡ true → a ≡ b
same_is a b h = exact_bytes a b (alike (slice_cmp nat_cmp a b) h)

same_symm : (a b : List ℕ) → same_text a b ≡ same_text b a
same_symm a b = (eq_by_cmp_equiv nat_list_cmp_total).symm a b

not_above_itself : (o : Ordering) → o ≡ ordering_reverse o → o ≡ Greater → ⊥
not_above_itself Less h k = cc
not_above_itself Equal h k = cc
not_above_itself Greater h k = cc

-- what is found where an entry of an equal text takes a value
found_there : (v w : ℕ) (rest : Option ℕ) (t : Bool) → cond t (Some v) rest ≡ cond t (Some v) (cond t (Some w) rest)
found_there v w rest true = refl
found_there v w rest false = refl

-- what is found where a value comes behind an entry of a lesser text
found_behind : (k a text : List ℕ) (v w : ℕ) (rest : Option ℕ) (t u : Bool) → same_text text a ≡ t → same_text text k ≡ u
    → slice_cmp nat_cmp k a ≡ Greater
    → cond t (Some w) (cond u (Some v) rest) ≡ cond u (Some v) (cond t (Some w) rest)
found_behind k a text v w rest false u p q h = refl
found_behind k a text v w rest true false p q h = refl
found_behind k a text v w rest true true p q h =
    let e : a ≡ k = sym (same_is text a p) ∙ same_is text k q in
    absurd (not_above_itself (slice_cmp nat_cmp k k) (nat_list_cmp_total.antisymm k k) (ap (slice_cmp nat_cmp k) (sym e) ∙ h))

-- the number of a text among entries
abbrev in_entries : List ℕ → List (Vec ℕ Global × ℕ) → Option ℕ
in_entries text es = lookup (is_at (λ (q : Vec ℕ Global). slice_cmp nat_cmp text q.items)) es

abbrev with_entry : List (Vec ℕ Global × ℕ) → Vec ℕ Global → ℕ → List (Vec ℕ Global × ℕ)
with_entry es k v = insert_entry (λ (a b : Vec ℕ Global). slice_cmp nat_cmp a.items b.items) es k v

at_insert_by : (e : Vec ℕ Global × ℕ) (es : List (Vec ℕ Global × ℕ)) (k : Vec ℕ Global) (v : ℕ) (text : List ℕ) (o : Ordering)
    → slice_cmp nat_cmp k.items e.0.items ≡ o
    → in_entries text (with_entry es k v) ≡ cond (same_text text k.items) (Some v) (in_entries text es)
    → in_entries text (match_ordering o ((k, v) ∷ e ∷ es) ((e.0, v) ∷ es) (e ∷ with_entry es k v))
    ≡ cond (same_text text k.items) (Some v) (in_entries text (e ∷ es))
at_insert_by e es k v text Less c h = refl
at_insert_by e es k v text Equal c h =
    found_there v e.1 (in_entries text es) (same_text text e.0.items)
    ∙ ap (λ l. cond (same_text text l) (Some v) (in_entries text (e ∷ es))) (sym (exact_bytes k.items e.0.items c))
at_insert_by e es k v text Greater c h =
    ap (λ l. cond (same_text text e.0.items) (Some e.1) l) h
    ∙ found_behind k.items e.0.items text v e.1 (in_entries text es) (same_text text e.0.items) (same_text text k.items) refl refl c

at_insert : (es : List (Vec ℕ Global × ℕ)) (k : Vec ℕ Global) (v : ℕ) (text : List ℕ)
    → in_entries text (with_entry es k v) ≡ cond (same_text text k.items) (Some v) (in_entries text es)
at_insert [] k v text = refl
at_insert (e ∷ es) k v text = at_insert_by e es k v text (slice_cmp nat_cmp k.items e.0.items) refl (at_insert es k v text)

-- one more name has its number
pub index_turn : {A : Type 0} (g : A → Name) (xs : List A) (i j : ℕ) (x : A) (old new : BTreeMap (Vec ℕ Global) ℕ) (k : Vec ℕ Global)
    → i ≡ j + 1 → j < length xs → x ≡ get_or xs j x → k.items ≡ (g x).text
    → new.entries ≡ insert_entry (λ a b. slice_cmp nat_cmp a.items b.items) old.entries k i
    → ((text : List ℕ) → at old text ≡ number_in (map g (drop i xs)) text i)
    → (text : List ℕ) → at new text ≡ number_in (map g (drop j xs)) text j
index_turn g xs i j x old new k e h a t u w text =
    ap (λ es. lookup (is_at (λ (q : Vec ℕ Global). slice_cmp nat_cmp text q.items)) es) u
    ∙ at_insert old.entries k i text
    ∙ ap (λ s. cond s (Some i) (at old text)) (same_symm text k.items ∙ ap (λ s. same_text s text) t)
    ∙ ap (λ o. cond (same_text (g x).text text) (Some i) o) (w text)
    ∙ ap (λ m. cond (same_text (g x).text text) (Some m) (number_in (map g (drop m xs)) text m)) e
    ∙ sym (ap (λ l. number_in (map g l) text j) (drop_item xs j x h a))

-- what has the number of a name is the first that has the name
number_by : {A : Type 0} (g : A → Name) (x : A) (xs : List A) (text : List ℕ) (b n : ℕ) (t : Bool)
    → (number_in (map g xs) text (b + 1) ≡ Some n → (b + 1 < n) × (slice_get xs (n - (b + 1 + 1)) ≡ first_named g xs text))
    → cond t (Some (b + 1)) (number_in (map g xs) text (b + 1)) ≡ Some n
    → (b < n) × (slice_get (x ∷ xs) (n - (b + 1)) ≡ cond t (Some x) (first_named g xs text))
number_by g x xs text b n true again k =
    let e : b + 1 ≡ n = cc in
    let z : n - (b + 1) ≡ 0 = omega (arith, e) in
    (omega (arith, e), ap (λ m. slice_get (x ∷ xs) m) z)
number_by g x xs text b n false again k =
    let r = again k in
    let e : n - (b + 1) ≡ suc (n - (b + 1 + 1)) = omega (arith, r.0) in
    (omega (arith, r.0), ap (λ m. slice_get (x ∷ xs) m) e ∙ r.1)

pub named_at : {A : Type 0} (g : A → Name) (xs : List A) (text : List ℕ) (b n : ℕ) → number_in (map g xs) text b ≡ Some n
    → (b < n) × (slice_get xs (n - (b + 1)) ≡ first_named g xs text)
named_at g [] text b n h = absurd cc
named_at g (x ∷ xs) text b n h = number_by g x xs text b n (same_text (g x).text text) (λ k. named_at g xs text (b + 1) n k) h

-- where a name has no number, nothing has it
none_by : {A : Type 0} (g : A → Name) (x : A) (xs : List A) (text : List ℕ) (b : ℕ) (t : Bool)
    → (number_in (map g xs) text (b + 1) ≡ None → None ≡ first_named g xs text)
    → cond t (Some (b + 1)) (number_in (map g xs) text (b + 1)) ≡ None → None ≡ cond t (Some x) (first_named g xs text)
none_by g x xs text b true again k = absurd cc
none_by g x xs text b false again k = again k

pub none_at : {A : Type 0} (g : A → Name) (xs : List A) (text : List ℕ) (b : ℕ) → number_in (map g xs) text b ≡ None
    → None ≡ first_named g xs text
none_at g [] text b h = refl
none_at g (x ∷ xs) text b h = none_by g x xs text b (same_text (g x).text text) (λ k. none_at g xs text (b + 1) k) h

-- a name that has a number is one of the list
among_by : (ns : List Name) (text : List ℕ) (b : ℕ) (t : Bool) → is_some (number_in ns text (b + 1)) ≡ is_among ns text
    → is_some (cond t (Some (b + 1)) (number_in ns text (b + 1))) ≡ (t || is_among ns text)
among_by ns text b true h = refl
among_by ns text b false h = h

pub among_at : (ns : List Name) (text : List ℕ) (b : ℕ) → is_some (number_in ns text b) ≡ is_among ns text
among_at [] text b = refl
among_at (n ∷ ns) text b = among_by ns text b (same_text n.text text) (among_at ns text (b + 1))

-- ---- what `get` gives
past_items : {A : Type 0} (xs : List A) (i : ℕ) → length xs ≤ i → None ≡ slice_get xs i
past_items [] i h = refl
past_items (x ∷ xs) zero h = absurd (omega arith)
past_items (x ∷ xs) (suc i) h = past_items xs i (omega arith)

this_item : {A : Type 0} (xs : List A) (i : ℕ) (x : A) → i < length xs → x ≡ get_or xs i x → Some x ≡ slice_get xs i
this_item [] i x h k = absurd (omega arith)
this_item (y ∷ xs) zero x h k = ap Some k
this_item (y ∷ xs) (suc i) x h k = this_item xs i x (omega arith) k

pub item_at : {A : Type 0} (xs : List A) (i : ℕ) (r : Option (Bor A)) → IsItemAt xs i r → option_copied r ≡ slice_get xs i
item_at xs i None h = past_items xs i h.3
item_at xs i (Some k) h = this_item xs i k.now h.3.0 (h.3.1 k.now)
