-- No call is answered twice: what is answered was open, and is closed from then on.
use Rattle.std.proofs.Common.{◌≡◌, ◌≤◌, ℕ, zero, suc, ◌+◌, ◌-◌, ◌==◌, Bool, true, false, cond, not, ◌&&◌, ◌||◌, List, [], ◌∷◌, ◌++◌, map}
use Rattle.std.proofs.Common.{length, Option, None, Some, refl, sym, ◌∙◌, ap, arith}
use Rattle.std.specs.Prelude.{slice_get}
use Rattle.std.specs.Ordering.{nat_cmp, eq_by_cmp}
use Rattle.eden_value.specs.Datum.{Datum}
use Rattle.eden_value.specs.declared.status.Status.{Status}
use Rattle.eden_model.specs.Map.{with_item}
use Rattle.eden_model.specs.Crew.{change}
use Rattle.eden_model.specs.Lines.{has, Distinct}
use Rattle.eden_model.proofs.Numbers.{same-true, same-self}
use Rattle.eden_model.specs.Traffic.{asking_station}
use Rattle.invocation.specs.declared.call.Call.{Call}
use Rattle.invocation.specs.declared.call.Message.{Message}
use Rattle.invocation.specs.declared.call.Message.TheVariants.{Request, Reply}
use Rattle.invocation.specs.Queues.{sent_to, on_way, sent_from}
use Rattle.invocation.specs.Numbers.{item_in, numbers_where, passes_at}
use Rattle.invocation.specs.Mail.{Mail, queue_at, is_open, target_of, number_of, spent, over, received, with_reply, let_go, crashed_call}
use Rattle.invocation.specs.Mail.{closed_if, closed_where, asked_call, asked_by, crosses, enters, touches}
use Rattle.invocation.specs.Answered.{MailChange, asked, replied, delivered, lost, cut, crashed, changed, answered, answered_by}
use Rattle.invocation.specs.Answered.{all_answered, with_delivery}

-- a call that may still get an answer: it is open, or not asked yet
abbrev waits_in : List Call → ℕ → Bool
waits_in cs k = with_item (item_in k cs) is_open true

-- 1. Lists of numbers

has-one : (k j : ℕ) → has k (j ∷ []) ≡ true → k ≡ j
has-one k j h = go (eq_by_cmp nat_cmp k j) refl h
  where
    go : (b : Bool) → eq_by_cmp nat_cmp k j ≡ b → (b || false) ≡ true → k ≡ j
    go true e i = same-true k j e
    go false e i = absurd (let bad : false ≡ true = i in cc)

has-append : (xs ys : List ℕ) (k : ℕ) (b : Bool) → has k xs ≡ b → has k ys ≡ false → has k (xs ++ ys) ≡ b
has-append [] ys k b h none = none ∙ h
has-append (x ∷ xs) ys k b h none = go (eq_by_cmp nat_cmp k x) refl (has-append xs ys k (has k xs) refl none)
  where
    go : (e : Bool) → eq_by_cmp nat_cmp k x ≡ e → has k (xs ++ ys) ≡ has k xs → (eq_by_cmp nat_cmp k x || has k (xs ++ ys)) ≡ b
    go e is ih = ap (λ y. eq_by_cmp nat_cmp k x || y) ih ∙ h

distinct-append : (xs ys : List ℕ) → Distinct xs → Distinct ys → ((k : ℕ) → has k xs ≡ true → has k ys ≡ false) → Distinct (xs ++ ys)
distinct-append [] ys d e apart = e
distinct-append (x ∷ xs) ys d e apart = (
  has-append xs ys x false d.0 (apart x (rw (same-self x) refl)),
  distinct-append xs ys d.1 e
      (λ k there. apart k (rw there (or-true (eq_by_cmp nat_cmp k x)))),
)
  where
    or-true : (b : Bool) → (b || true) ≡ true
    or-true true = refl
    or-true false = refl

has-either : (xs ys : List ℕ) (k : ℕ) (P : Type 0) → has k (xs ++ ys) ≡ true → (has k xs ≡ true → P) → (has k ys ≡ true → P) → P
has-either [] ys k P h left right = right h
has-either (x ∷ xs) ys k P h left right = go (eq_by_cmp nat_cmp k x) refl h (λ i l. has-either xs ys k P i l right)
  where
    go : (b : Bool) → eq_by_cmp nat_cmp k x ≡ b → (b || has k (xs ++ ys)) ≡ true → (has k (xs ++ ys) ≡ true → (has k xs ≡ true → P) → P) → P
    go true e i ih = left (rw e refl)
    go false e i ih = ih i (λ there. left (rw e there))

-- the numbers of those that pass: each is of one that passes, and stands once
numbers-pass : {X : Type 0} (p : X → Bool) (n : ℕ) (xs : List X) (k : ℕ) → has k (numbers_where p n xs) ≡ true
    → (n ≤ k) × (with_item (slice_get xs (k - n)) p false ≡ true)
numbers-pass p n [] k h = absurd (let bad : false ≡ true = h in cc)
numbers-pass {X} p n (x ∷ xs) k h = go (p x) refl h (numbers-pass p (n + 1) xs k)
  where
    later : ((n + 1 ≤ k) × (with_item (slice_get xs (k - (n + 1))) p false ≡ true))
        → (n ≤ k) × (with_item (slice_get (x ∷ xs) (k - n)) p false ≡ true)
    later r = let e : k - n ≡ suc (k - (n + 1)) = omega (arith, r.0) in
        (omega (arith, r.0), ap (λ i. with_item (slice_get (x ∷ xs) i) p false) e ∙ r.1)

    here : p x ≡ true → (b : Bool) → eq_by_cmp nat_cmp k n ≡ b → (b || has k (numbers_where p (n + 1) xs)) ≡ true
        → (has k (numbers_where p (n + 1) xs) ≡ true → (n + 1 ≤ k) × (with_item (slice_get xs (k - (n + 1))) p false ≡ true))
        → (n ≤ k) × (with_item (slice_get (x ∷ xs) (k - n)) p false ≡ true)
    here is true e i ih = let same : k ≡ n = same-true k n e in let none : k - n ≡ 0 = omega (arith, same) in
        (omega (arith, same), ap (λ i. with_item (slice_get (x ∷ xs) i) p false) none ∙ is)
    here is false e i ih = later (ih i)

    go : (b : Bool) → p x ≡ b → has k (cond b (n ∷ numbers_where p (n + 1) xs) (numbers_where p (n + 1) xs)) ≡ true
        → (has k (numbers_where p (n + 1) xs) ≡ true → (n + 1 ≤ k) × (with_item (slice_get xs (k - (n + 1))) p false ≡ true))
        → (n ≤ k) × (with_item (slice_get (x ∷ xs) (k - n)) p false ≡ true)
    go true is i ih = here is (eq_by_cmp nat_cmp k n) refl i ih
    go false is i ih = later (ih i)

numbers-distinct : {X : Type 0} (p : X → Bool) (n : ℕ) (xs : List X) → Distinct (numbers_where p n xs)
numbers-distinct p n [] = tt
numbers-distinct {X} p n (x ∷ xs) = go (p x) (numbers-distinct p (n + 1) xs)
  where
    out : (b : Bool) → has n (numbers_where p (n + 1) xs) ≡ b → b ≡ false
    out true e = absurd (let r = numbers-pass p (n + 1) xs n e in omega (arith, r.0))
    out false e = refl

    go : (b : Bool) → Distinct (numbers_where p (n + 1) xs)
        → Distinct (cond b (n ∷ numbers_where p (n + 1) xs) (numbers_where p (n + 1) xs))
    go true ih = (out (has n (numbers_where p (n + 1) xs)) refl, ih)
    go false ih = ih

-- in terms of the items numbered from 1
number-passes : {X : Type 0} (p : X → Bool) (xs : List X) (k : ℕ) → has k (numbers_where p 1 xs) ≡ true
    → with_item (item_in k xs) p false ≡ true
number-passes p xs zero h = absurd (let r = numbers-pass p 1 xs zero h in omega (arith, r.0))
number-passes p xs (suc k) h = let e : suc k - 1 ≡ k = omega arith in
    ap (λ i. with_item (slice_get xs i) p false) (sym e) ∙ (numbers-pass p 1 xs (suc k) h).1

-- 2. What waits after a change waited before

push-waits : (cs : List Call) (x : Call) (k : ℕ) → waits_in (cs ++ x ∷ []) k ≡ true → waits_in cs k ≡ true
push-waits cs x zero h = refl
push-waits [] x (suc k) h = refl
push-waits (c ∷ cs) x (suc zero) h = h
push-waits (c ∷ cs) x (suc (suc k)) h = push-waits cs x (suc k) h

map-waits : (f : Call → Call) → ((c : Call) → is_open (f c) ≡ true → is_open c ≡ true) → (cs : List Call) (k : ℕ)
    → waits_in (map f cs) k ≡ true → waits_in cs k ≡ true
map-waits f opens cs zero h = refl
map-waits f opens [] (suc k) h = refl
map-waits f opens (c ∷ cs) (suc zero) h = opens c h
map-waits f opens (c ∷ cs) (suc (suc k)) h = map-waits f opens cs (suc k) h

closed-opens : (b : Bool) (c : Call) → is_open (closed_if b c) ≡ true → is_open c ≡ true
closed-opens true c h = absurd (let bad : false ≡ true = h in cc)
closed-opens false c h = h

crashed-opens : (n : ℕ) (c : Call) → is_open (crashed_call n c) ≡ true → is_open c ≡ true
crashed-opens n c = go (target_of c == n)
  where
    go : (b : Bool) → is_open (cond b (over c) (closed_if (touches n c) c)) ≡ true → is_open c ≡ true
    go true h = absurd (let bad : false ≡ true = h in cc)
    go false h = closed-opens (touches n c) c h

closed-waits : (test : Call → Bool) (cs : List Call) (k : ℕ) → waits_in (closed_where test cs) k ≡ true → waits_in cs k ≡ true
closed-waits test cs k h = map-waits (λ c. closed_if (test c) c) (λ c o. closed-opens (test c) c o) cs k h

-- arguments that are let go change nothing in this
spent-waits : (i : ℕ) (cs : List Call) (k : ℕ) → waits_in (change i spent cs) k ≡ waits_in cs k
spent-waits i cs zero = refl
spent-waits i [] (suc k) = refl
spent-waits zero (c ∷ cs) (suc zero) = refl
spent-waits zero (c ∷ cs) (suc (suc k)) = refl
spent-waits (suc i) (c ∷ cs) (suc zero) = refl
spent-waits (suc i) (c ∷ cs) (suc (suc k)) = spent-waits i cs (suc k)

let_go-waits : (ms : List Message) (cs : List Call) (k : ℕ) → waits_in (let_go ms cs) k ≡ waits_in cs k
let_go-waits [] cs k = refl
let_go-waits (m ∷ ms) cs k = let_go-waits ms (change (number_of m - 1) spent cs) k ∙ spent-waits (number_of m - 1) cs k

over-waits : (i : ℕ) (cs : List Call) (k : ℕ) → waits_in (change i over cs) k ≡ true → waits_in cs k ≡ true
over-waits i cs zero h = refl
over-waits i [] (suc k) h = refl
over-waits zero (c ∷ cs) (suc zero) h = absurd (let bad : false ≡ true = h in cc)
over-waits zero (c ∷ cs) (suc (suc k)) h = h
over-waits (suc i) (c ∷ cs) (suc zero) h = h
over-waits (suc i) (c ∷ cs) (suc (suc k)) h = over-waits i cs (suc k) h

reply-waits : (j : ℕ) (s : Status) (results : List Datum) (m : Mail) (k : ℕ)
    → waits_in (with_reply j s results m).calls k ≡ waits_in m.calls k
reply-waits j s results m k = go (item_in j m.calls)
  where
    go : (o : Option Call) → waits_in (with_item o (λ c. record {
      calls = change (j - 1) spent m.calls;
      queues = cond (is_open c) (sent_to (target_of c) (asking_station c.asker) (Reply j s results) m.queues) m.queues;
    }) m).calls k ≡ waits_in m.calls k
    go None = refl
    go (Some c) = spent-waits (j - 1) m.calls k

waited : (c : MailChange) (m : Mail) (k : ℕ) → waits_in (changed c m).calls k ≡ true → waits_in m.calls k ≡ true
waited (asked asker target operation args None) m k h = push-waits m.calls (asked_call asker target operation args false) k h
waited (asked asker target operation args (Some s)) m k h = push-waits m.calls (asked_call asker target operation args true) k h
waited (replied j s results) m k h = sym (reply-waits j s results m k) ∙ h
waited (delivered a b) m k h = go (queue_at a b m) h
  where
    one : (x : Message) → waits_in (received x m.calls) k ≡ true → waits_in m.calls k ≡ true
    one (Request j) i = i
    one (Reply j s results) i = over-waits (j - 1) m.calls k i

    go : (q : List Message) → waits_in (with_delivery a b q m).calls k ≡ true → waits_in m.calls k ≡ true
    go [] i = i
    go (x ∷ xs) i = one x i
waited (lost u) m k h = closed-waits (asked_by u) m.calls k h
waited (cut a b) m k h = closed-waits (crosses a b) m.calls k
    (sym (let_go-waits (on_way a b m.queues) (closed_where (crosses a b) m.calls) k) ∙ h)
waited (crashed n) m k h = map-waits (crashed_call n) (crashed-opens n) m.calls k
    (sym (let_go-waits (sent_from n 9 m.queues) (map (crashed_call n) m.calls) k) ∙ h)

-- 3. What is answered waited, and waits no more

past : (cs : List Call) → item_in (length cs + 1) cs ≡ None
past cs = let e : length cs + 1 ≡ suc (length cs) = omega arith in ap (λ k. item_in k cs) e ∙ go cs
  where
    go : (xs : List Call) → slice_get xs (length xs) ≡ None
    go [] = refl
    go (x ∷ xs) = go xs

last : (cs : List Call) (x : Call) → item_in (length cs + 1) (cs ++ x ∷ []) ≡ Some x
last cs x = let e : length cs + 1 ≡ suc (length cs) = omega arith in ap (λ k. item_in k (cs ++ x ∷ [])) e ∙ go cs
  where
    go : (xs : List Call) → slice_get (xs ++ x ∷ []) (length xs) ≡ Some x
    go [] = refl
    go (y ∷ xs) = go xs

pass-waits : (p : Call → Bool) (cs : List Call) (k : ℕ) → ((c : Call) → p c ≡ true → is_open c ≡ true)
    → with_item (item_in k cs) p false ≡ true → waits_in cs k ≡ true
pass-waits p cs k implies = go (item_in k cs)
  where
    go : (o : Option Call) → with_item o p false ≡ true → with_item o is_open true ≡ true
    go None h = refl
    go (Some c) h = implies c h

and-first : (a b : Bool) → (a && b) ≡ true → a ≡ true
and-first true b h = refl
and-first false b h = h

and-second : (a b : Bool) → (a && b) ≡ true → b ≡ true
and-second true b h = h
and-second false b h = absurd (let bad : false ≡ true = h in cc)

-- those that pass are closed
hit-closed : (p : Call → Bool) (f : Call → Call) → ((c : Call) → p c ≡ true → is_open (f c) ≡ false) → (cs : List Call) (k : ℕ)
    → with_item (item_in k cs) p false ≡ true → waits_in (map f cs) k ≡ false
hit-closed p f closes cs zero h = absurd (let bad : false ≡ true = h in cc)
hit-closed p f closes [] (suc k) h = absurd (let bad : false ≡ true = h in cc)
hit-closed p f closes (c ∷ cs) (suc zero) h = closes c h
hit-closed p f closes (c ∷ cs) (suc (suc k)) h = hit-closed p f closes cs (suc k) h

over-closed : (cs : List Call) (k : ℕ) → passes_at is_open cs k ≡ true → waits_in (change (k - 1) over cs) k ≡ false
over-closed cs zero h = absurd (let bad : false ≡ true = h in cc)
over-closed cs (suc k) h = let e : suc k - 1 ≡ k = omega arith in ap (λ i. waits_in (change i over cs) (suc k)) e ∙ go cs k h
  where
    go : (xs : List Call) (j : ℕ) → with_item (slice_get xs j) is_open false ≡ true
        → with_item (slice_get (change j over xs) j) is_open true ≡ false
    go [] j i = absurd (let bad : false ≡ true = i in cc)
    go (x ∷ xs) zero i = refl
    go (x ∷ xs) (suc j) i = go xs j i

crosses-closes : (a b : ℕ) (c : Call) → crosses a b c ≡ true → is_open (closed_if (crosses a b c) c) ≡ false
crosses-closes a b c h = rw h refl

enters-closes : (n : ℕ) (c : Call) → enters n c ≡ true → is_open (crashed_call n c) ≡ false
enters-closes n c h = let e = and-first (target_of c == n) (not (asking_station c.asker == n)) h in rw e refl

-- a call that is answered waited before, and waits no more
ends : (c : MailChange) (m : Mail) (k : ℕ) → has k (answered c m) ≡ true
    → (waits_in m.calls k ≡ true) × (waits_in (changed c m).calls k ≡ false)
ends (asked asker target operation args None) m k h = absurd (let bad : false ≡ true = h in cc)
ends (asked asker target operation args (Some s)) m k h =
    let e : k ≡ length m.calls + 1 = has-one k (length m.calls + 1) h in (
      ap (λ j. waits_in m.calls j) e ∙ ap (λ (o : Option Call). with_item o is_open true) (past m.calls),
      ap (λ j. waits_in (m.calls ++ asked_call asker target operation args true ∷ []) j) e
          ∙ ap (λ (o : Option Call). with_item o is_open true) (last m.calls (asked_call asker target operation args true)),
    )
ends (replied j s results) m k h = absurd (let bad : false ≡ true = h in cc)
ends (delivered a b) m k h = go (queue_at a b m) h
  where
    at : (j : ℕ) (s : Status) (results : List Datum) (xs : List Message) (b2 : Bool) → passes_at is_open m.calls j ≡ b2
        → has k (cond b2 (j ∷ []) []) ≡ true
        → (waits_in m.calls k ≡ true) × (waits_in (change (j - 1) over m.calls) k ≡ false)
    at j s results xs true e i =
        let same : k ≡ j = has-one k j i in (
          ap (waits_in m.calls) same ∙ pass-waits is_open m.calls j (λ c o. o) e,
          ap (waits_in (change (j - 1) over m.calls)) same
              ∙ over-closed m.calls j e,
        )
    at j s results xs false e i = absurd (let bad : false ≡ true = i in cc)

    go : (q : List Message) → has k (answered_by q m) ≡ true
        → (waits_in m.calls k ≡ true) × (waits_in (with_delivery a b q m).calls k ≡ false)
    go [] i = absurd (let bad : false ≡ true = i in cc)
    go (Request j ∷ xs) i = absurd (let bad : false ≡ true = i in cc)
    go (Reply j s results ∷ xs) i = at j s results xs (passes_at is_open m.calls j) refl i
ends (lost u) m k h = absurd (let bad : false ≡ true = h in cc)
ends (cut a b) m k h =
    let is = number-passes (λ c. is_open c && crosses a b c) m.calls k h in (
      pass-waits (λ c. is_open c && crosses a b c) m.calls k (λ c i. and-first (is_open c) (crosses a b c) i) is,
      let_go-waits (on_way a b m.queues) (closed_where (crosses a b) m.calls) k
          ∙ hit-closed (λ c. is_open c && crosses a b c) (λ c. closed_if (crosses a b c) c)
          (λ c i. crosses-closes a b c (and-second (is_open c) (crosses a b c) i)) m.calls k is,
    )
ends (crashed n) m k h =
    let is = number-passes (λ c. is_open c && enters n c) m.calls k h in (
      pass-waits (λ c. is_open c && enters n c) m.calls k (λ c i. and-first (is_open c) (enters n c) i) is,
      let_go-waits (sent_from n 9 m.queues) (map (crashed_call n) m.calls) k
          ∙ hit-closed (λ c. is_open c && enters n c) (crashed_call n) (λ c i. enters-closes n c (and-second (is_open c) (enters n c) i))
          m.calls k is,
    )

each-once : (c : MailChange) (m : Mail) → Distinct (answered c m)
each-once (asked asker target operation args None) m = tt
each-once (asked asker target operation args (Some s)) m = (refl, tt)
each-once (replied j s results) m = tt
each-once (delivered a b) m = go (queue_at a b m)
  where
    at : (j : ℕ) (x : Bool) → Distinct (cond x (j ∷ []) [])
    at j true = (refl, tt)
    at j false = tt

    go : (q : List Message) → Distinct (answered_by q m)
    go [] = tt
    go (Request j ∷ xs) = tt
    go (Reply j s results ∷ xs) = at j (passes_at is_open m.calls j)
each-once (lost u) m = tt
each-once (cut a b) m = numbers-distinct (λ c. is_open c && crosses a b c) 1 m.calls
each-once (crashed n) m = numbers-distinct (λ c. is_open c && enters n c) 1 m.calls

-- 4. Runs

run-waited : (cs : List MailChange) (m : Mail) (k : ℕ) → has k (all_answered m cs) ≡ true → waits_in m.calls k ≡ true
run-waited [] m k h = absurd (let bad : false ≡ true = h in cc)
run-waited (c ∷ cs) m k h =
    has-either (answered c m) (all_answered (changed c m) cs) k (waits_in m.calls k ≡ true) h (λ there. (ends c m k there).0)
    (λ there. waited c m k (run-waited cs (changed c m) k there))

pub answered-once : (cs : List MailChange) (m : Mail) → Distinct (all_answered m cs)
answered-once [] m = tt
answered-once (c ∷ cs) m =
    distinct-append (answered c m) (all_answered (changed c m) cs) (each-once c m) (answered-once cs (changed c m))
    (λ k there. go k there (has k (all_answered (changed c m) cs)) refl)
  where
    go : (k : ℕ) → has k (answered c m) ≡ true → (b : Bool) → has k (all_answered (changed c m) cs) ≡ b → b ≡ false
    go k there true e = let bad : true ≡ false = sym (run-waited cs (changed c m) k e) ∙ (ends c m k there).1 in cc
    go k there false e = refl
