-- Lists of Ejects in ascending order: what keeps the order, and how many there are.
use Rattle.std.proofs.Common.{◌≡◌, ◌==◌, ℕ, suc, Bool, true, false, cond, ◌&&◌, T, List, [], ◌∷◌, map, length, Option, None, Some, refl}
use Rattle.std.proofs.Common.{sym, ◌∙◌, ap, subst}
use Rattle.std.specs.List.{filter, filter_map, cons_option}
use Rattle.std.specs.Option.{option_map}
use Rattle.std.specs.Ordering.{eq_by_cmp, is_lt}
use Rattle.std.specs.FinMap.Entries.{is_sorted, below_all, is_sorted-put, same_entries}
use Rattle.capability.specs.declared.Uid.{Uid}
use Rattle.capability.proofs.Uids.{uid_cmp_total, uid_cmp-IsAntisymmetric}
use Rattle.eden_model.specs.Map.{with_item, uid_cmp, value_at, put_at, changed_at, each_value}
use Rattle.eden_model.proofs.Laws.{eq-same, value-changed}
use Rattle.journal.specs.World.{Eject, Active}
use Rattle.journal.specs.Ejects.{with_active, on_active, is_there}
use Rattle.journal.specs.Opening.{passive, passive_entry}
use Rattle.journal.specs.Sites.{InOrder}

-- 1. A change of values alone

abbrev keyed : (Uid × Eject → Eject) → List (Uid × Eject) → List (Uid × Eject)
keyed g es = map (λ e. (e.0, g e)) es

below-keyed : (x : Uid) (g : Uid × Eject → Eject) (es : List (Uid × Eject)) → below_all uid_cmp x (keyed g es) ≡ below_all uid_cmp x es
below-keyed x g [] = refl
below-keyed x g (e ∷ es) = ap (λ b. is_lt (uid_cmp x e.0) && b) (below-keyed x g es)

sorted-keyed : (g : Uid × Eject → Eject) (es : List (Uid × Eject)) → is_sorted uid_cmp (keyed g es) ≡ is_sorted uid_cmp es
sorted-keyed g [] = refl
sorted-keyed g (e ∷ es) = λ i. below-keyed e.0 g es i && sorted-keyed g es i

order-keyed : (g : Uid × Eject → Eject) (es : List (Uid × Eject)) → InOrder es → InOrder (keyed g es)
order-keyed g es h = subst T (sym (sorted-keyed g es)) h

pub order-each : (f : Eject → Eject) (es : List (Uid × Eject)) → InOrder es → InOrder (each_value f es)
order-each f es h = order-keyed (λ e. f e.1) es h

-- 2. A change at one uid

pub order-put : (u : Uid) (x : Eject) (es : List (Uid × Eject)) → InOrder es → InOrder (put_at uid_cmp u x es)
order-put u x es h = is_sorted-put uid_cmp uid_cmp_total u x es h

pub order-changed : (u : Uid) (f : Eject → Eject) (es : List (Uid × Eject)) → InOrder es → InOrder (changed_at uid_cmp u f es)
order-changed u f es h = go (value_at uid_cmp u es)
  where
    go : (o : Option Eject) → InOrder (with_item o (λ x. put_at uid_cmp u (f x) es) es)
    go None = h
    go (Some x) = order-put u (f x) es h

-- each entry of this uid changed
abbrev changed_entry : Uid → (Eject → Eject) → Uid × Eject → Eject
changed_entry u f e = cond (eq_by_cmp uid_cmp e.0 u) (f e.1) e.1

value-keyed : (q u : Uid) (f : Eject → Eject) (es : List (Uid × Eject))
    → value_at uid_cmp q (keyed (changed_entry u f) es) ≡ cond (eq_by_cmp uid_cmp q u) (option_map f (value_at uid_cmp q es))
    (value_at uid_cmp q es)
value-keyed q u f [] = none (eq_by_cmp uid_cmp q u)
  where
    none : (b : Bool) → None ≡ cond {A = Option Eject} b None None
    none true = refl
    none false = refl
value-keyed q u f (e ∷ es) = go (value-keyed q u f es) (eq_by_cmp uid_cmp q e.0) refl
  where
    here : (b : Bool) → Some (cond b (f e.1) e.1) ≡ cond b (Some (f e.1)) (Some e.1)
    here true = refl
    here false = refl

    go : value_at uid_cmp q (keyed (changed_entry u f) es) ≡ cond (eq_by_cmp uid_cmp q u) (option_map f (value_at uid_cmp q es))
        (value_at uid_cmp q es)
        → (b : Bool) → eq_by_cmp uid_cmp q e.0 ≡ b
        → value_at uid_cmp q (keyed (changed_entry u f) (e ∷ es)) ≡ cond (eq_by_cmp uid_cmp q u)
        (option_map f (value_at uid_cmp q (e ∷ es))) (value_at uid_cmp q (e ∷ es))
    go later false is = rw is later
    go later true is = let same : q ≡ e.0 = eq-same uid_cmp uid_cmp-IsAntisymmetric q e.0 is in
        rw is (rw same (here (eq_by_cmp uid_cmp e.0 u)))

changed-keyed : (u : Uid) (f : Eject → Eject) (es : List (Uid × Eject)) → InOrder es
    → changed_at uid_cmp u f es ≡ keyed (changed_entry u f) es
changed-keyed u f es h = same_entries uid_cmp uid_cmp_total uid_cmp-IsAntisymmetric (changed_at uid_cmp u f es)
    (keyed (changed_entry u f) es) (order-changed u f es h) (order-keyed (changed_entry u f) es h)
    (λ q. value-changed uid_cmp uid_cmp_total uid_cmp-IsAntisymmetric q u f es ∙ sym (value-keyed q u f es))

-- 3. How many pass a test

passing : (P : Eject → Bool) (u : Uid) (f : Eject → Eject) → ((e : Eject) → P (f e) ≡ P e) → (es : List (Uid × Eject))
    → length (filter (λ e. P e.1) (keyed (changed_entry u f) es)) ≡ length (filter (λ e. P e.1) es)
passing P u f same [] = refl
passing P u f same (e ∷ es) = go (passing P u f same es) (P (changed_entry u f e)) (P e.1) (one (eq_by_cmp uid_cmp e.0 u))
  where
    one : (b : Bool) → P (cond b (f e.1) e.1) ≡ P e.1
    one true = same e.1
    one false = refl

    go : length (filter (λ e. P e.1) (keyed (changed_entry u f) es)) ≡ length (filter (λ e. P e.1) es) → (a b : Bool) → a ≡ b
        → length (cond a ((e.0, changed_entry u f e) ∷ filter (λ e. P e.1) (keyed (changed_entry u f) es))
        (filter (λ e. P e.1) (keyed (changed_entry u f) es)))
        ≡ length (cond b (e ∷ filter (λ e. P e.1) es) (filter (λ e. P e.1) es))
    go later true true is = ap (λ n. suc n) later
    go later false false is = later
    go later true false is = absurd (cc is)
    go later false true is = absurd (cc is)

pub count-changed : (P : Eject → Bool) (u : Uid) (f : Eject → Eject) → ((e : Eject) → P (f e) ≡ P e) → (es : List (Uid × Eject))
    → InOrder es
    → length (filter (λ e. P e.1) (changed_at uid_cmp u f es)) ≡ length (filter (λ e. P e.1) es)
count-changed P u f same es h = ap (λ l. length (filter (λ e. P e.1) l)) (changed-keyed u f es h) ∙ passing P u f same es

pub there-active : (f : Active → Active) (e : Eject) → is_there (on_active f e) ≡ is_there e
there-active f e = go e.active refl
  where
    go : (o : Option Active) → e.active ≡ o → is_there (with_item e.active (λ it. with_active (Some (f it)) e) e) ≡ is_there e
    go None is = rw is refl
    go (Some it) is = rw is refl

-- 4. What an image holds

below-passive : (x : Uid) (kept : List (Uid × List ℕ)) → T (below_all uid_cmp x kept)
    → T (below_all uid_cmp x (filter_map passive_entry kept))
below-passive x [] h = tt
below-passive x (e ∷ es) h = split (e.0.serial == 0) (go (e.0.serial == 0) (is_lt (uid_cmp x e.0)) (below-passive x es) h)
  where
    split : (skipped : Bool) → T (cond skipped (below_all uid_cmp x (filter_map passive_entry es))
        (is_lt (uid_cmp x e.0) && below_all uid_cmp x (filter_map passive_entry es)))
        → T (below_all uid_cmp x (cons_option (cond skipped None (Some (e.0, passive e.1))) (filter_map passive_entry es)))
    split true h = h
    split false h = h

    go : (skipped b : Bool) → (T (below_all uid_cmp x es) → T (below_all uid_cmp x (filter_map passive_entry es)))
        → T (b && below_all uid_cmp x es)
        → T (cond skipped (below_all uid_cmp x (filter_map passive_entry es)) (b && below_all uid_cmp x (filter_map passive_entry es)))
    go true true later h = later h
    go false true later h = later h
    go skipped false later h = absurd h

pub order-passive : (kept : List (Uid × List ℕ)) → T (is_sorted uid_cmp kept) → InOrder (filter_map passive_entry kept)
order-passive [] h = tt
order-passive (e ∷ es) h = go (e.0.serial == 0) (below_all uid_cmp e.0 es) (order-passive es) (below-passive e.0 es) h
  where
    both : (b : Bool) → T b → InOrder (filter_map passive_entry es) → T (b && is_sorted uid_cmp (filter_map passive_entry es))
    both true x y = y
    both false x y = absurd x

    go : (skipped b : Bool) → (T (is_sorted uid_cmp es) → InOrder (filter_map passive_entry es))
        → (T b → T (below_all uid_cmp e.0 (filter_map passive_entry es))) → T (b && is_sorted uid_cmp es)
        → InOrder (cons_option (cond skipped None (Some (e.0, passive e.1))) (filter_map passive_entry es))
    go true true later below h = later h
    go false true later below h = both (below_all uid_cmp e.0 (filter_map passive_entry es)) (below tt) (later h)
    go skipped false later below h = absurd h
