-- The calls of the code and of the model, changed together.
use Rattle.std.proofs.Common.{subst, ◌≡◌, ◌≤◌, ◌<◌, ℕ, zero, suc, ◌+◌, ◌-◌, ◌==◌, Bool, true, false, cond, List, [], ◌∷◌, ◌++◌, map, length}
use Rattle.std.proofs.Common.{Option, None, Some, refl, sym, ◌∙◌, ap, arith}
use Rattle.std.specs.Prelude.{filter_map}
use Rattle.std.specs.List.{All}
use Rattle.std.proofs.lemmas.List.Elements.{All-head, All-tail}
use Rattle.std.specs.declared.cmp.Ordering.TheVariants.{Less, Equal, Greater}
use Rattle.std.specs.Ordering.{nat_cmp, eq_by_cmp}
use Rattle.eden_model.specs.Map.{each_value, with_item, value_at, put_at, changed_at}
use Rattle.eden_model.specs.Crew.{change}
use Rattle.eden_model.specs.Traffic as traffic
use Rattle.invocation.specs.declared.call.Call.{Call}
use Rattle.invocation.specs.Numbers.{numbers_where}
use Rattle.invocation.specs.Carries.{Same, Agree, is_awaited}
use Rattle.invocation.specs.Mail.{spent, let_go, number_of}
use Rattle.invocation.specs.declared.call.Message.{Message}
use Rattle.invocation.proofs.CarriesLaws.{apart-numbers, equal-numbers}

-- 1. Look-ups

less-than : (j n : ℕ) → j < n → nat_cmp j n ≡ Less
less-than j n h = grind (arith, h)

greater-than : (j n : ℕ) → n < j → nat_cmp j n ≡ Greater
greater-than j n h = grind (arith, h)

-- a number before the first is none
pub none-before : (n : ℕ) (cs : List Call) (es : List (ℕ × traffic.Call)) → Agree n cs es → (j : ℕ) → j < n → value_at nat_cmp j es ≡ None
none-before n [] [] h j before = refl
none-before n (c ∷ cs) (e ∷ es) h j before =
    rw (apart-numbers j e.0 (λ same. omega (arith, same, h.0, before))) (none-before (n + 1) cs es h.2 j (omega (arith, before)))
none-before n [] (e ∷ es) h j before = absurd h
none-before n (c ∷ cs) [] h j before = absurd h

-- 2. Changes

pub agree-each : (f : Call → Call) (g : traffic.Call → traffic.Call) → ((c : Call) (d : traffic.Call) → Same c d → Same (f c) (g d))
    → (n : ℕ) (cs : List Call) (es : List (ℕ × traffic.Call)) → Agree n cs es → Agree n (map f cs) (each_value g es)
agree-each f g both n [] [] h = tt
agree-each f g both n (c ∷ cs) (e ∷ es) h = (h.0, both c e.1 h.1, agree-each f g both (n + 1) cs es h.2)
agree-each f g both n [] (e ∷ es) h = absurd h
agree-each f g both n (c ∷ cs) [] h = absurd h

-- a call that is not the first
changed-later : (k : ℕ) (g : traffic.Call → traffic.Call) (e : ℕ × traffic.Call) (es : List (ℕ × traffic.Call)) → e.0 < k
    → changed_at nat_cmp k g (e ∷ es) ≡ e ∷ changed_at nat_cmp k g es
changed-later k g e es h = go (value_at nat_cmp k es) refl
  where
    other : eq_by_cmp nat_cmp k e.0 ≡ false
    other = apart-numbers k e.0 (λ same. omega (arith, same, h))

    more : nat_cmp k e.0 ≡ Greater
    more = greater-than k e.0 h

    go : (o : Option traffic.Call) → value_at nat_cmp k es ≡ o
        → with_item (cond (eq_by_cmp nat_cmp k e.0) (Some e.1) (value_at nat_cmp k es)) (λ x. put_at nat_cmp k (g x) (e ∷ es)) (e ∷ es)
        ≡ e ∷ with_item (value_at nat_cmp k es) (λ x. put_at nat_cmp k (g x) es) es
    go None is = rw (other, is) refl
    go (Some x) is = rw (other, is) (rw more refl)

changed-first : (k : ℕ) (g : traffic.Call → traffic.Call) (e : ℕ × traffic.Call) (es : List (ℕ × traffic.Call)) → nat_cmp k e.0 ≡ Equal
    → changed_at nat_cmp k g (e ∷ es) ≡ (e.0, g e.1) ∷ es
changed-first k g e es h = rw h refl

-- the call of this number is changed on both sides
abbrev Both : (f : Call → Call) (g : traffic.Call → traffic.Call) (k : ℕ) (es : List (ℕ × traffic.Call)) → Type 0
Both f g k es = (c : Call) (d : traffic.Call) → value_at nat_cmp k es ≡ Some d → Same c d → Same (f c) (g d)

pub agree-changed : (f : Call → Call) (g : traffic.Call → traffic.Call)
    → (k n : ℕ) (cs : List Call) (es : List (ℕ × traffic.Call)) → Both f g k es → n ≤ k → Agree n cs es
    → Agree n (change (k - n) f cs) (changed_at nat_cmp k g es)
agree-changed f g k n [] [] both from h = tt
agree-changed f g k n (c ∷ cs) (e ∷ es) both from h = go (n == k) refl (λ later more. agree-changed f g k (n + 1) cs es later more h.2)
  where
    go : (b : Bool) → (n == k) ≡ b → (Both f g k es → n + 1 ≤ k → Agree (n + 1) (change (k - (n + 1)) f cs) (changed_at nat_cmp k g es))
        → Agree n (change (k - n) f (c ∷ cs)) (changed_at nat_cmp k g (e ∷ es))
    go true is ih =
        let same : n ≡ k = grind arith in
        let none : k - n ≡ 0 = omega (arith, same) in
        let first = changed-first k g e es (equal-numbers k e.0 (sym same ∙ sym h.0)) in
        let here : value_at nat_cmp k (e ∷ es) ≡ Some e.1 = rw (equal-numbers k e.0 (sym same ∙ sym h.0)) refl in
        rw (none, first) (h.0, both c e.1 here h.1, h.2)
    go false is ih =
        let apart : n ≡ k → ⊥ = (λ same. let bad : true ≡ false = sym (grind (arith, same)) ∙ is in cc) in
        let more : n < k = omega (arith, apart, from) in
        let next : k - n ≡ suc (k - (n + 1)) = omega (arith, more) in
        let later = changed-later k g e es (omega (arith, more, h.0)) in
        let other : eq_by_cmp nat_cmp k e.0 ≡ false = apart-numbers k e.0 (λ same. apart (sym (same ∙ h.0))) in
        rw (next, later) (h.0, h.1, ih (λ x y found same. both x y (rw other found) same) (omega (arith, more)))
agree-changed f g k n [] (e ∷ es) both from h = absurd h
agree-changed f g k n (c ∷ cs) [] both from h = absurd h

change-none : (i : ℕ) (cs : List Call) → change i (λ c. c) cs ≡ cs
change-none i [] = refl
change-none zero (c ∷ cs) = refl
change-none (suc i) (c ∷ cs) = ap (λ l. c ∷ l) (change-none i cs)

-- the model's call alone is changed
pub agree-placed : (g : traffic.Call → traffic.Call) (k : ℕ) (cs : List Call) (es : List (ℕ × traffic.Call)) → Both (λ c. c) g k es → 1 ≤ k
    → Agree 1 cs es → Agree 1 cs (changed_at nat_cmp k g es)
agree-placed g k cs es both from h =
    let e = change-none (k - 1) cs in
    subst (λ l. Agree 1 l (changed_at nat_cmp k g es)) e (agree-changed (λ c. c) g k 1 cs es both from h)

pub agree-push : (c : Call) (d : traffic.Call) → Same c d → (n : ℕ) (cs : List Call) (es : List (ℕ × traffic.Call)) → Agree n cs es
    → Agree n (cs ++ c ∷ []) (put_at nat_cmp (n + length cs) d es)
agree-push c d same n [] [] h = let e : n + 0 ≡ n = omega arith in (e, same, tt)
agree-push c d same n (x ∷ cs) (e ∷ es) h =
    let more : nat_cmp (n + suc (length cs)) e.0 ≡ Greater = greater-than (n + suc (length cs)) e.0 (omega (arith, h.0)) in
    let next : n + 1 + length cs ≡ n + suc (length cs) = omega arith in
    rw more (h.0, h.1, subst (λ k. Agree (n + 1) (cs ++ c ∷ []) (put_at nat_cmp k d es)) next (agree-push c d same (n + 1) cs es h.2))
agree-push c d same n [] (e ∷ es) h = absurd h
agree-push c d same n (x ∷ cs) [] h = absurd h

-- 3. The numbers of those that pass

pub agree-numbers : (p : Call → Bool) (q : traffic.Call → Bool) → ((c : Call) (d : traffic.Call) → Same c d → q d ≡ p c)
    → (n : ℕ) (cs : List Call) (es : List (ℕ × traffic.Call)) → Agree n cs es
    → filter_map (λ (e : ℕ × traffic.Call). cond (q e.1) (Some e.0) None) es ≡ numbers_where p n cs
agree-numbers p q both n [] [] h = refl
agree-numbers p q both n (c ∷ cs) (e ∷ es) h = go (p c) refl (agree-numbers p q both (n + 1) cs es h.2)
  where
    is : q e.1 ≡ p c
    is = both c e.1 h.1

    go : (b : Bool) → p c ≡ b → filter_map (λ (e : ℕ × traffic.Call). cond (q e.1) (Some e.0) None) es ≡ numbers_where p (n + 1) cs
        → filter_map (λ (e : ℕ × traffic.Call). cond (q e.1) (Some e.0) None) (e ∷ es) ≡ cond (p c) (n ∷ numbers_where p (n + 1) cs)
        (numbers_where p (n + 1) cs)
    go true b ih = rw (is, b) (rw ih (ap (λ k. k ∷ numbers_where p (n + 1) cs) h.0))
    go false b ih = rw (is, b) ih
agree-numbers p q both n [] (e ∷ es) h = absurd h
agree-numbers p q both n (c ∷ cs) [] h = absurd h

-- 4. Arguments that are let go, of calls whose arguments are read no more

abbrev pub IsRead : ℕ → List (ℕ × traffic.Call) → Type 0
IsRead k es = (d : traffic.Call) → value_at nat_cmp k es ≡ Some d → is_awaited d.place ≡ false

spent-same : (c : Call) (d : traffic.Call) → is_awaited d.place ≡ false → Same c d → Same (spent c) d
spent-same c d read same = record {
  asker = same.asker;
  target = same.target;
  operation = same.operation;
  open_ = same.open_;
  args = λ awaited. let bad : true ≡ false = sym awaited ∙ read in cc;
}

agree-spent : (k n : ℕ) (cs : List Call) (es : List (ℕ × traffic.Call)) → IsRead k es → n ≤ k → Agree n cs es
    → Agree n (change (k - n) spent cs) es
agree-spent k n [] [] read from h = tt
agree-spent k n (c ∷ cs) (e ∷ es) read from h = go (n == k) refl (λ later more. agree-spent k (n + 1) cs es later more h.2)
  where
    go : (b : Bool) → (n == k) ≡ b → (IsRead k es → n + 1 ≤ k → Agree (n + 1) (change (k - (n + 1)) spent cs) es)
        → Agree n (change (k - n) spent (c ∷ cs)) (e ∷ es)
    go true is ih =
        let same : n ≡ k = grind arith in
        let none : k - n ≡ 0 = omega (arith, same) in
        let here : value_at nat_cmp k (e ∷ es) ≡ Some e.1 = rw (equal-numbers k e.0 (sym same ∙ sym h.0)) refl in
        rw none (h.0, spent-same c e.1 (read e.1 here) h.1, h.2)
    go false is ih =
        let apart : n ≡ k → ⊥ = (λ same. let bad : true ≡ false = sym (grind (arith, same)) ∙ is in cc) in
        let more : n < k = omega (arith, apart, from) in
        let next : k - n ≡ suc (k - (n + 1)) = omega (arith, more) in
        let other : eq_by_cmp nat_cmp k e.0 ≡ false = apart-numbers k e.0 (λ same. apart (sym (same ∙ h.0))) in
        rw next (h.0, h.1, ih (λ d found. read d (rw other found)) (omega (arith, more)))
agree-spent k n [] (e ∷ es) read from h = absurd h
agree-spent k n (c ∷ cs) [] read from h = absurd h

abbrev pub AllRead : List (ℕ × traffic.Call) → List Message → Type 0
AllRead es ms = All (λ m. (1 ≤ number_of m) × IsRead (number_of m) es) ms

pub agree-let_go : (ms : List Message) (cs : List Call) (es : List (ℕ × traffic.Call)) → AllRead es ms → Agree 1 cs es
    → Agree 1 (let_go ms cs) es
agree-let_go [] cs es all h = h
agree-let_go (m ∷ ms) cs es all h =
    let one = All-head (λ x. (1 ≤ number_of x) × IsRead (number_of x) es) m ms all in
    agree-let_go ms (change (number_of m - 1) spent cs) es (All-tail (λ x. (1 ≤ number_of x) × IsRead (number_of x) es) m ms all)
    (agree-spent (number_of m) 1 cs es one.1 one.0 h)
