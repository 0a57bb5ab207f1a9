-- What the calls tell of the traffic that they carry: laws for the crates above.
use Rattle.std.proofs.Common.{subst, ◌≡◌, ◌≤◌, ◌<◌, ℕ, zero, suc, ◌+◌, ◌-◌, Bool, true, false, cond, List, [], ◌∷◌, length, Option, None}
use Rattle.std.proofs.Common.{Some, refl, sym, ◌∙◌, ap, arith}
use Rattle.std.specs.Prelude.{slice_get, filter_map}
use Rattle.std.specs.List.{cons_option}
use Rattle.std.specs.declared.cmp.Ordering.TheVariants.{Equal}
use Rattle.std.specs.Ordering.{nat_cmp, eq_by_cmp}
use Rattle.eden_model.specs.Map.{value_at, with_item}
use Rattle.eden_model.specs.Lines.{has}
use Rattle.eden_model.proofs.Numbers.{same-true}
use Rattle.eden_model.specs.Traffic as traffic
use Rattle.eden_model.specs.Traffic.{Traffic, call_at, next_call, held, names_of, numbers_of, processes_of, shell_name, waiting_process}
use Rattle.invocation.specs.declared.call.Call.{Call}
use Rattle.invocation.specs.Numbers.{item_in}
use Rattle.invocation.specs.Mail.{Mail, IsGiven}
use Rattle.invocation.specs.Carries.{Same, Agree, Carries, is_sent}

pub agree-length : (n : ℕ) (cs : List Call) (es : List (ℕ × traffic.Call)) → Agree n cs es → length es ≡ length cs
agree-length n [] [] h = refl
agree-length n (c ∷ cs) (e ∷ es) h = ap suc (agree-length (n + 1) cs es h.2)
agree-length n [] (e ∷ es) h = absurd h
agree-length n (c ∷ cs) [] h = absurd h

pub apart-numbers : (j n : ℕ) → (j ≡ n → ⊥) → eq_by_cmp nat_cmp j n ≡ false
apart-numbers j n other = go (eq_by_cmp nat_cmp j n) refl
  where
    go : (b : Bool) → eq_by_cmp nat_cmp j n ≡ b → b ≡ false
    go true e = absurd (other (same-true j n e))
    go false e = refl

pub equal-numbers : (k n : ℕ) → k ≡ n → nat_cmp k n ≡ Equal
equal-numbers k n h = grind (arith, h)

pub record FoundCall (c : Call) (o : Option traffic.Call) : Type 0 where
  pub call : traffic.Call
  pub is : o ≡ Some call
  pub same : Same c call

pub found-at : (n : ℕ) (cs : List Call) (es : List (ℕ × traffic.Call)) → Agree n cs es → (i : ℕ) (c : Call) → slice_get cs i ≡ Some c
    → FoundCall c (value_at nat_cmp (n + i) es)
found-at n [] [] h i c e = absurd (let bad : None ≡ Some c = e in cc)
found-at n (x ∷ cs) (e ∷ es) h zero c is =
    let same : x ≡ c = cc in
    let n0 : n + 0 ≡ e.0 = omega (arith, h.0) in
    record { call = e.1; is = rw (equal-numbers (n + 0) e.0 n0) refl; same = subst (λ y. Same y e.1) same h.1 }
found-at n (x ∷ cs) (e ∷ es) h (suc i) c is =
    let next : n + 1 + i ≡ n + suc i = omega arith in
    let other : eq_by_cmp nat_cmp (n + suc i) e.0 ≡ false = apart-numbers (n + suc i) e.0 (λ same. omega (arith, same, h.0)) in
    let r : FoundCall c (value_at nat_cmp (n + suc i) es) = subst (λ k. FoundCall c (value_at nat_cmp k es)) next
    (found-at (n + 1) cs es h.2 i c is) in
    record { call = r.call; is = rw other r.is; same = r.same }
found-at n [] (e ∷ es) h i c is = absurd h
found-at n (x ∷ cs) [] h i c is = absurd h

-- the call of this number in the traffic is one of the code
pub record FoundItem (d : traffic.Call) (n k : ℕ) (cs : List Call) : Type 0 where
  pub call : Call
  pub from : n ≤ k
  pub is : slice_get cs (k - n) ≡ Some call
  pub same : Same call d

pub item-found : (n : ℕ) (cs : List Call) (es : List (ℕ × traffic.Call)) → Agree n cs es → (k : ℕ) (d : traffic.Call)
    → value_at nat_cmp k es ≡ Some d → FoundItem d n k cs
item-found n [] [] h k d is = absurd (let bad : None ≡ Some d = is in cc)
item-found n (c ∷ cs) (e ∷ es) h k d is = go (eq_by_cmp nat_cmp k e.0) refl is (item-found (n + 1) cs es h.2 k d)
  where
    go : (b : Bool) → eq_by_cmp nat_cmp k e.0 ≡ b → cond b (Some e.1) (value_at nat_cmp k es) ≡ Some d
        → (value_at nat_cmp k es ≡ Some d → FoundItem d (n + 1) k cs) → FoundItem d n k (c ∷ cs)
    go true same at ih =
        let number : k ≡ n = same-true k e.0 same ∙ h.0 in
        let none : k - n ≡ 0 = omega (arith, number) in
        let here : e.1 ≡ d = cc in
        record { call = c; from = omega (arith, number); is = rw none refl; same = subst (Same c) here h.1 }
    go false other at ih =
        let r = ih at in
        let next : k - n ≡ suc (k - (n + 1)) = omega (arith, r.from) in
        record { call = r.call; from = omega (arith, r.from); is = rw next r.is; same = r.same }
item-found n [] (e ∷ es) h k d is = absurd h
item-found n (c ∷ cs) [] h k d is = absurd h

-- the same, of a call by its number
pub record FoundAsked (m : Mail) (d : traffic.Call) (k : ℕ) : Type 0 where
  pub call : Call
  pub from : 1 ≤ k
  pub is : item_in k m.calls ≡ Some call
  pub same : Same call d

pub asked-call : (m : Mail) (t : Traffic) → Carries m t → (k : ℕ) (d : traffic.Call) → call_at t k ≡ Some d → FoundAsked m d k
asked-call m t carries zero d is = absurd (let r = item-found 1 m.calls t.calls carries.calls zero d is in omega (arith, r.from))
asked-call m t carries (suc k) d is =
    let r = item-found 1 m.calls t.calls carries.calls (suc k) d is in
    let e : suc k - 1 ≡ k = omega arith in
    record { call = r.call; from = r.from; is = ap (slice_get m.calls) (sym e) ∙ r.is; same = r.same }

-- the call of this number is one in the traffic
pub found-call : (m : Mail) (t : Traffic) → Carries m t → (k : ℕ) (c : Call) → item_in k m.calls ≡ Some c → FoundCall c (call_at t k)
found-call m t carries zero c is = absurd (let bad : None ≡ Some c = is in cc)
found-call m t carries (suc k) c is = let same : 1 + k ≡ suc k = omega arith in
    subst (λ j. FoundCall c (call_at t j)) same (found-at 1 m.calls t.calls carries.calls k c is)

-- the next number
pub next-number : (m : Mail) (t : Traffic) → Carries m t → next_call t ≡ length m.calls + 1
next-number m t carries = ap (λ n. n + 1) (agree-length 1 m.calls t.calls carries.calls)

item-given : {X : Type 0} (xs : List X) (k : ℕ) (x : X) → slice_get xs k ≡ Some x → k < length xs
item-given [] k x is = absurd (let bad : None ≡ Some x = is in cc)
item-given (y ∷ xs) zero x is = omega arith
item-given (y ∷ xs) (suc k) x is = omega (arith, item-given xs k x is)

-- a call that is found was given
pub given-call : (cs : List Call) (k : ℕ) (c : Call) → item_in k cs ≡ Some c → IsGiven cs k
given-call cs zero c is = absurd (let bad : None ≡ Some c = is in cc)
given-call cs (suc k) c is = (omega arith, omega (arith, item-given cs k c is))

-- no message of a call that is held at its target is on its way
pub held-not-sent : (m : Mail) (t : Traffic) → Carries m t → (k : ℕ) (c : traffic.Call) → call_at t k ≡ Some c → c.place ≡ held
    → has k t.transit ≡ false
held-not-sent m t carries k c is place = go (has k t.transit) refl
  where
    not_sent : is_sent t k ≡ false
    not_sent = rw (is, place) refl

    go : (b : Bool) → has k t.transit ≡ b → b ≡ false
    go false out = refl
    go true out = absurd (let bad : true ≡ false = sym (carries.sent k out) ∙ not_sent in cc)

pub none-after : (n : ℕ) (cs : List Call) (es : List (ℕ × traffic.Call)) → Agree n cs es → (j : ℕ) → n + length cs ≤ j
    → value_at nat_cmp j es ≡ None
none-after n [] [] h j after = refl
none-after n (c ∷ cs) (e ∷ es) h j after =
    rw (apart-numbers j e.0 (λ same. omega (arith, same, h.0, after))) (none-after (n + 1) cs es h.2 j (omega (arith, after)))
none-after n [] (e ∷ es) h j after = absurd h
none-after n (c ∷ cs) [] h j after = absurd h

-- no call has the next number
pub next-is-none : (m : Mail) (t : Traffic) → Carries m t → call_at t (next_call t) ≡ None
next-is-none m t carries = none-after 1 m.calls t.calls carries.calls (next_call t) (omega (arith, next-number m t carries))

-- what is told of the calls that pass a test, by their numbers
by-number : {Y : Type 0} (g : traffic.Call → Option Y) (hits : traffic.Call
    → Bool) (all : List (ℕ × traffic.Call)) (n : ℕ) (cs : List Call) (es : List (ℕ × traffic.Call)) → Agree n cs es
    → ((k : ℕ) → n ≤ k → value_at nat_cmp k all ≡ value_at nat_cmp k es)
    → filter_map (λ (e : ℕ × traffic.Call). cond (hits e.1) (g e.1) None) es
    ≡ filter_map (λ k. with_item (value_at nat_cmp k all) g None)
    (filter_map (λ (e : ℕ × traffic.Call). cond (hits e.1) (Some e.0) None) es)
by-number g hits all n [] [] h same = refl
by-number {Y} g hits all n (c ∷ cs) (e ∷ es) h same = go (hits e.1) refl (by-number g hits all (n + 1) cs es h.2 later)
  where
    later : (k : ℕ) → n + 1 ≤ k → value_at nat_cmp k all ≡ value_at nat_cmp k es
    later k le = same k (omega (arith, le)) ∙ rw (apart-numbers k e.0 (λ at. omega (arith, at, h.0, le))) refl

    here : value_at nat_cmp e.0 all ≡ Some e.1
    here = same e.0 (omega (arith, h.0)) ∙ rw (equal-numbers e.0 e.0 refl) refl

    go : (b : Bool) → hits e.1 ≡ b
        → filter_map (λ (e : ℕ × traffic.Call). cond (hits e.1) (g e.1) None) es ≡ filter_map
        (λ k. with_item (value_at nat_cmp k all) g None) (filter_map (λ (e : ℕ × traffic.Call). cond (hits e.1) (Some e.0) None) es)
        → filter_map (λ (e : ℕ × traffic.Call). cond (hits e.1) (g e.1) None) (e ∷ es) ≡ filter_map
        (λ k. with_item (value_at nat_cmp k all) g None) (filter_map (λ (e : ℕ × traffic.Call). cond (hits e.1) (Some e.0) None)
        (e ∷ es))
    go true is ih = rw (is, here) (told (g e.1))
      where
        told : (o : Option Y) → cons_option o (filter_map (λ (e : ℕ × traffic.Call). cond (hits e.1) (g e.1) None) es) ≡ cons_option o
            (filter_map (λ k. with_item (value_at nat_cmp k all) g None)
            (filter_map (λ (e : ℕ × traffic.Call). cond (hits e.1) (Some e.0) None) es))
        told None = ih
        told (Some y) = ap (λ l. y ∷ l) ih
    go false is ih = rw is ih
by-number g hits all n [] (e ∷ es) h same = absurd h
by-number g hits all n (c ∷ cs) [] h same = absurd h

pub names-by-number : (m : Mail) (t : Traffic) → Carries m t → (hits : traffic.Call → Bool)
    → names_of hits t ≡ filter_map (λ k. with_item (call_at t k) (λ c. shell_name c.asker) None) (numbers_of hits t)
names-by-number m t carries hits = by-number (λ c. shell_name c.asker) hits t.calls 1 m.calls t.calls carries.calls (λ k le. refl)

pub processes-by-number : (m : Mail) (t : Traffic) → Carries m t → (hits : traffic.Call → Bool)
    → processes_of hits t ≡ filter_map (λ k. with_item (call_at t k) (λ c. waiting_process c.asker) None) (numbers_of hits t)
processes-by-number m t carries hits = by-number (λ c. waiting_process c.asker) hits t.calls 1 m.calls t.calls carries.calls (λ k le. refl)
