-- The lists of the index, as calls change.
use Rattle.std.proofs.Common.{◌≡◌, ◌≢◌, ◌≤◌, ◌<◌, ℕ, zero, suc, ◌+◌, ◌-◌, ◌*◌, ◌==◌, Bool, true, false, cond, not, ◌&&◌, ◌||◌, List, []}
use Rattle.std.proofs.Common.{◌∷◌, ◌++◌, map, length, Option, refl, sym, subst, ◌∙◌, ap, arith}
use Rattle.std.specs.Prelude.{slice_get, nat_le}
use Rattle.std.specs.List.{All, filter}
use Rattle.std.proofs.lemmas.Bool.{eqb-true, leb-true, leb-false}
use Rattle.std.proofs.lemmas.List.{append-nil, length-map, length_push}
use Rattle.std.proofs.lemmas.List.Elements.{All-head, All-tail, All-push, All-weaker, All-filter, filter-append}
use Rattle.eden_value.specs.Datum.{Datum}
use Rattle.eden_model.specs.Map.{with_item}
use Rattle.eden_model.specs.Crew.{change}
use Rattle.eden_model.specs.Traffic.{asks, asking_station, is_link}
use Rattle.invocation.specs.declared.call.Call.{Call}
use Rattle.invocation.specs.declared.call.Message.{Message}
use Rattle.invocation.specs.declared.closing.Cause.{Cause}
use Rattle.invocation.specs.declared.closing.Cause.TheVariants.{Lost, Cut, Crash}
use Rattle.invocation.specs.declared.lists.Index.{Index}
use Rattle.invocation.specs.Mail.{IsGiven, is_open, target_of, spent, over, closed_if, let_go, number_of}
use Rattle.invocation.specs.Causes.{hits, ends, breaks, is_broken, closed_by}
use Rattle.invocation.specs.Numbers.{numbers_where, passes_at, changed_at_all}
use Rattle.invocation.specs.Listed.{is_live, concerns, numbers_at, link, IsListOf, AreLists, IsIndex}
use Rattle.invocation.proofs.Filters.{eq-apart}
use Rattle.invocation.proofs.Numbers.{Falls, Fixed, falls-map, falls-change, falls-trans, falls-pass, passed-before, passes-by}
use Rattle.invocation.proofs.Numbers.{numbers-same, numbers-push, filter-narrow, both-pass, changed-skip, all-changed, length-change}

-- 1. A list, as calls change

list-falls : (test : Call → Bool) (cs ds : List Call) (ks : List ℕ) → length cs ≤ length ds → Falls test cs ds → IsListOf test cs ks
    → IsListOf test ds ks
list-falls test cs ds ks more falls it = record {
  passed = sym (filter-narrow (passes_at test cs) (passes_at test ds) ks (passed-before test cs ds falls))
      ∙ ap (filter (passes_at test ds)) it.passed ∙ falls-pass test cs ds falls;
  given = All-weaker (IsGiven cs) (IsGiven ds) (λ k h. (h.0, omega (arith, h.1, more))) ks it.given;
}

-- a list may be cut down by a wider test
list-kept : (test wider : Call → Bool) → ((c : Call) → test c ≡ true → wider c ≡ true) → (cs : List Call) (ks : List ℕ)
    → IsListOf test cs ks → IsListOf test cs (filter (passes_at wider cs) ks)
list-kept test wider implies cs ks it = record {
  passed = filter-narrow (passes_at wider cs) (passes_at test cs) ks (passes-by test wider implies cs) ∙ it.passed;
  given = All-filter (passes_at wider cs) (IsGiven cs) ks it.given;
}

item-pushed : (test : Call → Bool) (cs : List Call) (x : Call) (k : ℕ) → IsGiven cs k
    → passes_at test (cs ++ x ∷ []) k ≡ passes_at test cs k
item-pushed test cs x zero h = absurd (omega (arith, h.0))
item-pushed test cs x (suc k) h = go cs k (omega (arith, h.1))
  where
    go : (ds : List Call) (i : ℕ) → i < length ds
        → with_item (slice_get (ds ++ x ∷ []) i) test false ≡ with_item (slice_get ds i) test false
    go [] i less = absurd (omega (arith, less))
    go (d ∷ ds) zero less = refl
    go (d ∷ ds) (suc i) less = go ds i (omega (arith, less))

last-pushed : (test : Call → Bool) (cs : List Call) (x : Call) → passes_at test (cs ++ x ∷ []) (length cs + 1) ≡ test x
last-pushed test cs x = let e : length cs + 1 ≡ suc (length cs) = omega arith in ap (passes_at test (cs ++ x ∷ [])) e ∙ go cs
  where
    go : (ds : List Call) → with_item (slice_get (ds ++ x ∷ []) (length ds)) test false ≡ test x
    go [] = refl
    go (d ∷ ds) = go ds

filter-where : (P : ℕ → Type 0) (f g : ℕ → Bool) (ks : List ℕ) → All P ks → ((k : ℕ) → P k → f k ≡ g k) → filter f ks ≡ filter g ks
filter-where P f g [] all same = refl
filter-where P f g (k ∷ ks) all same = rw (same k (All-head P k ks all), filter-where P f g ks (All-tail P k ks all) same) refl

given-pushed : (cs : List Call) (x : Call) (ks : List ℕ) → All (IsGiven cs) ks → All (IsGiven (cs ++ x ∷ [])) ks
given-pushed cs x ks all = All-weaker (IsGiven cs) (IsGiven (cs ++ x ∷ [])) (λ k h. (h.0, omega (arith, h.1, length_push cs x))) ks all

old-pushed : (test : Call → Bool) (cs : List Call) (x : Call) (ks : List ℕ) → IsListOf test cs ks
    → filter (passes_at test (cs ++ x ∷ [])) ks ≡ numbers_where test 1 cs
old-pushed test cs x ks it =
    filter-where (IsGiven cs) (passes_at test (cs ++ x ∷ [])) (passes_at test cs) ks it.given (item-pushed test cs x) ∙ it.passed

-- the number of a new call may be in any list
list-pushed : (test : Call → Bool) (cs : List Call) (x : Call) (ks : List ℕ) → IsListOf test cs ks
    → IsListOf test (cs ++ x ∷ []) (ks ++ (length cs + 1) ∷ [])
list-pushed test cs x ks it =
    let n : 1 + length cs ≡ length cs + 1 = omega arith in
    record {
      passed = filter-append (passes_at test (cs ++ x ∷ [])) ks ((length cs + 1) ∷ [])
          ∙ ap (λ b. filter (passes_at test (cs ++ x ∷ [])) ks ++ cond b ((length cs + 1) ∷ []) []) (last-pushed test cs x)
          ∙ ap (λ l. l ++ cond (test x) ((length cs + 1) ∷ []) []) (old-pushed test cs x ks it)
          ∙ ap (λ k. numbers_where test 1 cs ++ cond (test x) (k ∷ []) []) (sym n) ∙ sym (numbers-push test 1 cs x);
      given = All-push (IsGiven (cs ++ x ∷ [])) ks (length cs + 1) (given-pushed cs x ks it.given)
          (omega arith, omega (arith, length_push cs x));
    }

-- and in one of a test that it does not pass it need not be
list-other : (test : Call → Bool) (cs : List Call) (x : Call) (ks : List ℕ) → test x ≡ false → IsListOf test cs ks
    → IsListOf test (cs ++ x ∷ []) ks
list-other test cs x ks apart it = record {
  passed = old-pushed test cs x ks it ∙ sym (numbers-push test 1 cs x ∙ rw apart (append-nil (numbers_where test 1 cs)));
  given = given-pushed cs x ks it.given;
}

-- 2. Causes

and-none : (b : Bool) → false ≡ (b && false)
and-none true = refl
and-none false = refl

and-self : (b : Bool) → b ≡ (b && b)
and-self true = refl
and-self false = refl

or-both : (a b : Bool) → b ≡ ((a || b) && b)
or-both true b = refl
or-both false b = and-self b

or-left : (a b : Bool) → (a || false) ≡ ((a || b) && (a || false))
or-left true b = refl
or-left false b = and-none b

spent-falls : (c : Call) → is_live (spent c) ≡ (is_live c && is_live (spent c))
spent-falls c = or-left (is_open c) (not (length c.args == 0))

over-falls : (c : Call) → is_live (over c) ≡ (is_live c && is_live (over c))
over-falls c = and-none (is_live c)

shut-falls : (c : Call) → is_live (closed_if true c) ≡ (is_live c && is_live (closed_if true c))
shut-falls c = or-both (is_open c) (not (length c.args == 0))

from-implied : (a b : Bool) → (b ≡ true → a ≡ true) → b ≡ (a && b)
from-implied true b h = refl
from-implied false true h = sym (h refl)
from-implied false false h = refl

or-right : (a : Bool) → (a || true) ≡ true
or-right true = refl
or-right false = refl

or-wider : (a b c d : Bool) → (a ≡ true → c ≡ true) → (b ≡ true → d ≡ true) → (a || b) ≡ true → (c || d) ≡ true
or-wider true b c d f g r = rw (f refl) refl
or-wider false true c d f g r = rw (g refl) (or-right c)
or-wider false false c d f g r = absurd (let bad : false ≡ true = r in cc)

and-wider : (o o' h : Bool) → o' ≡ (o && o') → (o' && h) ≡ true → (o && h) ≡ true
and-wider true true h p r = r
and-wider true false h p r = absurd (let bad : false ≡ true = r in cc)
and-wider false true h p r = absurd (let bad : true ≡ false = p in cc)
and-wider false false h p r = r

hits-same : (cause : Cause) (c d : Call) → d.asker ≡ c.asker → d.target ≡ c.target → hits cause d ≡ hits cause c
hits-same (Lost u) c d a t = ap (asks u) a
hits-same (Cut x y) c d a t = rw (a, t) refl
hits-same (Crash n) c d a t = rw (a, t) refl

ends-same : (cause : Cause) (c d : Call) → d.target ≡ c.target → ends cause d ≡ ends cause c
ends-same (Lost u) c d t = refl
ends-same (Cut x y) c d t = refl
ends-same (Crash n) c d t = rw t refl

-- a call that a cause concerns now is one that it concerned
concerns-change : (cause : Cause) (c d : Call) → d.asker ≡ c.asker → d.target ≡ c.target → is_open d ≡ (is_open c && is_open d)
    → is_live d ≡ (is_live c && is_live d) → concerns cause d ≡ (concerns cause c && concerns cause d)
concerns-change cause c d a t opens lives =
    from-implied (concerns cause c) (concerns cause d)
    (or-wider (is_open d && hits cause d) (is_live d && ends cause d) (is_open c && hits cause c) (is_live c && ends cause c)
    (λ r. rw (hits-same cause c d a t) at (and-wider (is_open c) (is_open d) (hits cause d) opens r))
    (λ r. rw (ends-same cause c d t) at (and-wider (is_live c) (is_live d) (ends cause d) lives r)))

pub concerns-spent : (cause : Cause) (c : Call) → concerns cause (spent c) ≡ (concerns cause c && concerns cause (spent c))
concerns-spent cause c = concerns-change cause c (spent c) refl refl (and-self (is_open c)) (spent-falls c)

pub concerns-over : (cause : Cause) (c : Call) → concerns cause (over c) ≡ (concerns cause c && concerns cause (over c))
concerns-over cause c = concerns-change cause c (over c) refl refl (and-none (is_open c)) (over-falls c)

concerns-closing : (cause other : Cause) (c : Call)
    → concerns cause (closed_by other c) ≡ (concerns cause c && concerns cause (closed_by other c))
concerns-closing cause other c = go (ends other c) (hits other c)
  where
    go : (a b : Bool) → concerns cause (cond a (over c) (closed_if b c)) ≡
        (concerns cause c && concerns cause (cond a (over c) (closed_if b c)))
    go true b = concerns-over cause c
    go false true = concerns-change cause c (closed_if true c) refl refl (and-none (is_open c)) (shut-falls c)
    go false false = and-self (concerns cause c)

no-items : (xs : List Datum) → (length xs == 0) ≡ true → xs ≡ []
no-items [] h = refl
no-items (x ∷ xs) h = absurd (let e : suc (length xs) ≡ 0 = eqb-true (suc (length xs)) 0 h in omega (arith, e))

-- a call that is not live is closed and has no arguments
dead-closed : (c : Call) → is_live c ≡ false → (c.closed ≡ true) × (c.args ≡ [])
dead-closed c = go c.closed refl (length c.args == 0) refl
  where
    go : (a : Bool) → c.closed ≡ a → (b : Bool) → (length c.args == 0) ≡ b → (not a || not b) ≡ false → (c.closed ≡ true) × (c.args ≡ [])
    go true e true f h = (e, no-items c.args f)
    go true e false f h = absurd (let bad : true ≡ false = h in cc)
    go false e b f h = absurd (let bad : true ≡ false = h in cc)

-- a closed call stays as it is
shut-fixed : (c : Call) → is_open c ≡ false → closed_if true c ≡ c
shut-fixed c = go c.closed refl
  where
    go : (a : Bool) → c.closed ≡ a → not a ≡ false → closed_if true c ≡ c
    go true e h = ap (λ (x : Bool). record c { closed = x }) (sym e)
    go false e h = absurd (let bad : true ≡ false = h in cc)

none-of : (a b c d : Bool) → ((a && b) || (c && d)) ≡ false → (b ≡ true → a ≡ false) × (d ≡ true → c ≡ false)
none-of true true c d h = absurd (let bad : true ≡ false = h in cc)
none-of true false true true h = absurd (let bad : true ≡ false = h in cc)
none-of true false true false h = (λ e. absurd (let bad : false ≡ true = e in cc), λ e. absurd (let bad : false ≡ true = e in cc))
none-of true false false d h = (λ e. absurd (let bad : false ≡ true = e in cc), λ e. refl)
none-of false b true true h = absurd (let bad : true ≡ false = h in cc)
none-of false b true false h = (λ e. refl, λ e. absurd (let bad : false ≡ true = e in cc))
none-of false b false d h = (λ e. refl, λ e. refl)

closing-fixed : (cause : Cause) (c : Call) → concerns cause c ≡ false → closed_by cause c ≡ c
closing-fixed cause c free = go (ends cause c) refl (hits cause c) refl
  where
    go : (a : Bool) → ends cause c ≡ a → (b : Bool) → hits cause c ≡ b → cond a (over c) (closed_if b c) ≡ c
    go true e b f =
        let both : (c.closed ≡ true) × (c.args ≡ []) =
        dead-closed c ((none-of (is_open c) (hits cause c) (is_live c) (ends cause c) free).1 e) in
        ap (λ (x : List Datum). record c { args = x; closed = true }) (sym both.1) ∙ ap (λ (x : Bool). record c { closed = x }) (sym both.0)
    go false e true f = shut-fixed c ((none-of (is_open c) (hits cause c) (is_live c) (ends cause c) free).0 f)
    go false e false f = refl

-- it is enough to close those of the list
pub list-closed : (cause : Cause) (cs : List Call) (ks : List ℕ) → IsListOf (concerns cause) cs ks
    → changed_at_all (closed_by cause) 1 ks cs ≡ map (closed_by cause) cs
list-closed cause cs ks it =
    changed-skip (closed_by cause) (passes_at (concerns cause) cs) ks cs (All-weaker (IsGiven cs) (λ k. 1 ≤ k) (λ k h. h.0) ks it.given)
    fixed
    ∙ ap (λ l. changed_at_all (closed_by cause) 1 l cs) it.passed ∙ all-changed (concerns cause) (closed_by cause) 1 cs ∙ all cs
  where
    fixed : Fixed (closed_by cause) (passes_at (concerns cause) cs) cs
    fixed zero one free x is = absurd (omega (arith, one))
    fixed (suc k) one free x is =
        let e : suc k - 1 ≡ k = omega arith in
        closing-fixed cause x
        (sym (ap (λ (o : Option Call). with_item o (concerns cause) false) (ap (slice_get cs) (sym e) ∙ is)) ∙ free)

    one_of : (x : Call) (b : Bool) → concerns cause x ≡ b → cond b (closed_by cause x) x ≡ closed_by cause x
    one_of x true e = refl
    one_of x false e = sym (closing-fixed cause x e)

    all : (xs : List Call) → map (λ x. cond (concerns cause x) (closed_by cause x) x) xs ≡ map (closed_by cause) xs
    all [] = refl
    all (x ∷ xs) = rw (one_of x (concerns cause x) refl) (ap (λ l. closed_by cause x ∷ l) (all xs))

and-first : (a b : Bool) → (a && b) ≡ true → a ≡ true
and-first true b h = refl
and-first false b h = h

and-last : (a b : Bool) → (a && b) ≡ true → b ≡ true
and-last true b h = h
and-last false b h = absurd (let bad : false ≡ true = h in cc)

breaks-hits : (cause : Cause) (c : Call) → breaks cause c ≡ true → hits cause c ≡ true
breaks-hits (Lost u) c h = absurd (let bad : false ≡ true = h in cc)
breaks-hits (Cut a b) c h = h
breaks-hits (Crash n) c h = rw (and-first (target_of c == n) (not (asking_station c.asker == n)) h) refl

broken-concerned : (cause : Cause) (c : Call) → is_broken cause c ≡ true → concerns cause c ≡ true
broken-concerned cause c h =
    rw (and-first (is_open c) (breaks cause c) h, breaks-hits cause c (and-last (is_open c) (breaks cause c) h)) refl

and-implied : (a b : Bool) → (b ≡ true → a ≡ true) → (a && b) ≡ b
and-implied true b h = refl
and-implied false true h = h refl
and-implied false false h = refl

-- those that are answered `broken` are found in the list
pub list-broken : (cause : Cause) (cs : List Call) (ks : List ℕ) → IsListOf (concerns cause) cs ks
    → filter (passes_at (is_broken cause) cs) ks ≡ numbers_where (is_broken cause) 1 cs
list-broken cause cs ks it =
    sym (filter-narrow (passes_at (concerns cause) cs) (passes_at (is_broken cause) cs) ks
    (passes-by (is_broken cause) (concerns cause) (broken-concerned cause) cs))
    ∙ ap (filter (passes_at (is_broken cause) cs)) it.passed ∙ both-pass (concerns cause) (is_broken cause) cs
    ∙ numbers-same (λ x. concerns cause x && is_broken cause x) (is_broken cause)
    (λ x. and-implied (concerns cause x) (is_broken cause x) (broken-concerned cause x)) 1 cs

-- 3. The index, as calls change

index-falls : (cs ds : List Call) (it : Index) → length cs ≤ length ds → ((cause : Cause) → Falls (concerns cause) cs ds) → IsIndex cs it
    → IsIndex ds it
index-falls cs ds it more falls h = record {
  lists = h.lists;
  cuts = λ a b a8 b8.
      list-falls (concerns (Cut a b)) cs ds (numbers_at (link a b) it.links.items) more (falls (Cut a b)) (h.cuts a b a8 b8);
  crashes = λ n n8. list-falls (concerns (Crash n)) cs ds (numbers_at n it.nodes.items) more (falls (Crash n)) (h.crashes n n8);
}

pub index-change : (f : Call → Call) → ((cause : Cause) (c : Call) → concerns cause (f c) ≡ (concerns cause c && concerns cause (f c)))
    → (i : ℕ) (cs : List Call) (it : Index) → IsIndex cs it → IsIndex (change i f cs) it
index-change f falls i cs it h = index-falls cs (change i f cs) it (omega (arith, length-change f cs i))
    (λ cause. falls-change (concerns cause) f (falls cause) i cs) h

pub index-closing : (cause : Cause) (cs : List Call) (it : Index) → IsIndex cs it → IsIndex (map (closed_by cause) cs) it
index-closing cause cs it h = index-falls cs (map (closed_by cause) cs) it (omega (arith, length-map cs (closed_by cause)))
    (λ other. falls-map (concerns other) (closed_by cause) (concerns-closing other cause) cs) h

-- a call that nothing may become of any more
dead-free : (cause : Cause) (c : Call) → is_live c ≡ false → concerns cause c ≡ false
dead-free cause c = go (is_open c) (not (length c.args == 0))
  where
    go : (a b : Bool) → (a || b) ≡ false → ((a && hits cause c) || ((a || b) && ends cause c)) ≡ false
    go true b h = absurd (let bad : true ≡ false = h in cc)
    go false true h = absurd (let bad : true ≡ false = h in cc)
    go false false h = refl

pub index-dead : (cs : List Call) (x : Call) (it : Index) → is_live x ≡ false → IsIndex cs it → IsIndex (cs ++ x ∷ []) it
index-dead cs x it dead h = record {
  lists = h.lists;
  cuts = λ a b a8 b8.
      list-other (concerns (Cut a b)) cs x (numbers_at (link a b) it.links.items) (dead-free (Cut a b) x dead) (h.cuts a b a8 b8);
  crashes = λ n n8. list-other (concerns (Crash n)) cs x (numbers_at n it.nodes.items) (dead-free (Crash n) x dead) (h.crashes n n8);
}

-- the same numbers in each list
pub index-same : (cs : List Call) (old new : Index) → AreLists new → ((p : ℕ) → numbers_at p new.links.items ≡ numbers_at p old.links.items)
    → ((p : ℕ) → numbers_at p new.nodes.items ≡ numbers_at p old.nodes.items) → IsIndex cs old → IsIndex cs new
index-same cs old new lists links nodes h = record {
  lists = lists;
  cuts = λ a b a8 b8. subst (λ l. IsListOf (concerns (Cut a b)) cs l) (sym (links (link a b))) (h.cuts a b a8 b8);
  crashes = λ n n8. subst (λ l. IsListOf (concerns (Crash n)) cs l) (sym (nodes n)) (h.crashes n n8);
}

-- 4. A new call

pub link-both : (a b : ℕ) → link a b ≡ link b a
link-both a b = go (nat_le a b) refl (nat_le b a) refl
  where
    go : (x : Bool) → nat_le a b ≡ x → (y : Bool) → nat_le b a ≡ y
        → cond x (9 * a + b) (9 * b + a) ≡ cond y (9 * b + a) (9 * a + b)
    go true e true f = omega (arith, leb-true a b e, leb-true b a f)
    go true e false f = refl
    go false e true f = refl
    go false e false f = absurd (omega (arith, leb-false a b e, leb-false b a f))

-- a call over another link
other-link : (a b f t : ℕ) → link a b ≢ link f t → is_link a b f t ≡ false
other-link a b f t apart = go ((f == a) && (t == b)) refl ((f == b) && (t == a)) refl (not (f == t))
  where
    go : (x : Bool) → ((f == a) && (t == b)) ≡ x → (y : Bool) → ((f == b) && (t == a)) ≡ y → (z : Bool) → (z && (x || y)) ≡ false
    go true e y g z =
        let fa : f ≡ a = eqb-true f a (and-first (f == a) (t == b) e) in
        let tb : t ≡ b = eqb-true t b (and-last (f == a) (t == b) e) in
        absurd (apart (rw (fa, tb) refl))
    go false e true g z =
        let fb : f ≡ b = eqb-true f b (and-first (f == b) (t == a) g) in
        let ta : t ≡ a = eqb-true t a (and-last (f == b) (t == a) g) in
        absurd (apart (rw (fb, ta) (link-both a b)))
    go false e false g z = sym (and-none z)

other-one : (a b : ℕ) → a ≢ b → (a == b) ≡ false
other-one a b apart = go (a == b) refl
  where
    go : (z : Bool) → (a == b) ≡ z → z ≡ false
    go true e = absurd (apart (eqb-true a b e))
    go false e = refl

none-both : (a b h e : Bool) → h ≡ false → e ≡ false → ((a && h) || (b && e)) ≡ false
none-both true true h e p q = rw (p, q) refl
none-both true false h e p q = rw p refl
none-both false true h e p q = q
none-both false false h e p q = refl

module _ (cs : List Call) (x : Call) (f t : ℕ) (from : asking_station x.asker ≡ f) (to : target_of x ≡ t) (old new : Index)
    (lists : AreLists new)
    (over_link : numbers_at (link f t) new.links.items ≡ numbers_at (link f t) old.links.items ++ (length cs + 1) ∷ [])
    (other_links : (p : ℕ) → p ≢ link f t → numbers_at p new.links.items ≡ numbers_at p old.links.items)
    (at_asker : numbers_at f new.nodes.items ≡ numbers_at f old.nodes.items ++ (length cs + 1) ∷ [])
    (at_target : t ≢ f → numbers_at t new.nodes.items ≡ numbers_at t old.nodes.items ++ (length cs + 1) ∷ [])
    (other_nodes : (p : ℕ) → p ≢ f → p ≢ t → numbers_at p new.nodes.items ≡ numbers_at p old.nodes.items) where
  abbrev pub grown : List Call
  grown = cs ++ x ∷ []

  pushed : (test : Call → Bool) (ks js : List ℕ) → js ≡ ks ++ (length cs + 1) ∷ [] → IsListOf test cs ks → IsListOf test grown js
  pushed test ks js e h = subst (λ l. IsListOf test grown l) (sym e) (list-pushed test cs x ks h)

  left : (test : Call → Bool) (ks js : List ℕ) → js ≡ ks → test x ≡ false → IsListOf test cs ks → IsListOf test grown js
  left test ks js e free h = subst (λ l. IsListOf test grown l) (sym e) (list-other test cs x ks free h)

  cut : (a b : ℕ) → IsListOf (concerns (Cut a b)) cs (numbers_at (link a b) old.links.items)
      → IsListOf (concerns (Cut a b)) grown (numbers_at (link a b) new.links.items)
  cut a b h = go (link a b == link f t) refl
    where
      go : (z : Bool) → (link a b == link f t) ≡ z → IsListOf (concerns (Cut a b)) grown (numbers_at (link a b) new.links.items)
      go true e =
          let same : link a b ≡ link f t = eqb-true (link a b) (link f t) e in
          pushed (concerns (Cut a b)) (numbers_at (link a b) old.links.items) (numbers_at (link a b) new.links.items)
          (subst (λ p. numbers_at p new.links.items ≡ numbers_at p old.links.items ++ (length cs + 1) ∷ []) (sym same) over_link) h
      go false e =
          let apart : link a b ≢ link f t = eq-apart (link a b) (link f t) e in
          left (concerns (Cut a b)) (numbers_at (link a b) old.links.items) (numbers_at (link a b) new.links.items)
          (other_links (link a b) apart)
          (none-both (is_open x) (is_live x) (hits (Cut a b) x) false (subst (λ s. is_link a b s (target_of x) ≡ false) (sym from)
          (subst (λ s. is_link a b f s ≡ false) (sym to) (other-link a b f t apart))) refl) h

  crash : (n : ℕ) → IsListOf (concerns (Crash n)) cs (numbers_at n old.nodes.items)
      → IsListOf (concerns (Crash n)) grown (numbers_at n new.nodes.items)
  crash n h = go (n == f) refl (n == t) refl
    where
      go : (y : Bool) → (n == f) ≡ y → (z : Bool) → (n == t) ≡ z → IsListOf (concerns (Crash n)) grown (numbers_at n new.nodes.items)
      go true e z g =
          let same : n ≡ f = eqb-true n f e in
          pushed (concerns (Crash n)) (numbers_at n old.nodes.items) (numbers_at n new.nodes.items)
          (subst (λ p. numbers_at p new.nodes.items ≡ numbers_at p old.nodes.items ++ (length cs + 1) ∷ []) (sym same) at_asker) h
      go false e true g =
          let same : n ≡ t = eqb-true n t g in
          let apart : t ≢ f = (λ other. eq-apart n f e (same ∙ other)) in
          pushed (concerns (Crash n)) (numbers_at n old.nodes.items) (numbers_at n new.nodes.items)
          (subst (λ p. numbers_at p new.nodes.items ≡ numbers_at p old.nodes.items ++ (length cs + 1) ∷ []) (sym same) (at_target apart)) h
      go false e false g =
          let not_f : n ≢ f = eq-apart n f e in
          let not_t : n ≢ t = eq-apart n t g in
          let no_t : (target_of x == n) ≡ false = other-one (target_of x) n (λ same. not_t (sym same ∙ to)) in
          let no_f : (asking_station x.asker == n) ≡ false = other-one (asking_station x.asker) n (λ same. not_f (sym same ∙ from)) in
          left (concerns (Crash n)) (numbers_at n old.nodes.items) (numbers_at n new.nodes.items) (other_nodes n not_f not_t)
          (none-both (is_open x) (is_live x) (hits (Crash n) x) (ends (Crash n) x) (rw (no_t, no_f) refl) no_t) h

  pub index-noted : IsIndex cs old → IsIndex grown new
  index-noted h = record {
    lists = lists;
    cuts = λ a b a8 b8. cut a b (h.cuts a b a8 b8);
    crashes = λ n n8. crash n (h.crashes n n8);
  }

-- 5. What closes calls, once its list is cut down

open-of : (o l h : Bool) → ((o && h) || (l && false)) ≡ true → o ≡ true
open-of true l h r = refl
open-of false true h r = r
open-of false false h r = r

live-of : (o a h e : Bool) → ((o && h) || ((o || a) && e)) ≡ true → (o || a) ≡ true
live-of true a h e r = refl
live-of false true h e r = refl
live-of false false h e r = r

module _ (cs : List Call) (old new : Index) (lists : AreLists new) (h : IsIndex cs old) where
  pub index-cut : (a b : ℕ) → numbers_at (link a b) new.links.items ≡ filter (passes_at is_open cs) (numbers_at (link a b) old.links.items)
      → ((p : ℕ) → p ≢ link a b → numbers_at p new.links.items ≡ numbers_at p old.links.items)
      → ((p : ℕ) → numbers_at p new.nodes.items ≡ numbers_at p old.nodes.items) → IsIndex cs new
  index-cut a b here others nodes = record {
    lists = lists;
    cuts = λ c d c8 d8. go c d (h.cuts c d c8 d8) (link c d == link a b) refl;
    crashes = λ n n8. subst (λ l. IsListOf (concerns (Crash n)) cs l) (sym (nodes n)) (h.crashes n n8);
  }
    where
      go : (c d : ℕ) → IsListOf (concerns (Cut c d)) cs (numbers_at (link c d) old.links.items) → (z : Bool)
          → (link c d == link a b) ≡ z → IsListOf (concerns (Cut c d)) cs (numbers_at (link c d) new.links.items)
      go c d k true e =
          let same : link c d ≡ link a b = eqb-true (link c d) (link a b) e in
          subst (λ l. IsListOf (concerns (Cut c d)) cs l)
          (sym (subst (λ p. numbers_at p new.links.items ≡ filter (passes_at is_open cs) (numbers_at p old.links.items)) (sym same) here))
          (list-kept (concerns (Cut c d)) is_open (λ x. open-of (is_open x) (is_live x) (hits (Cut c d) x)) cs
          (numbers_at (link c d) old.links.items) k)
      go c d k false e = subst (λ l. IsListOf (concerns (Cut c d)) cs l)
          (sym (others (link c d) (eq-apart (link c d) (link a b) e))) k

  pub index-crash : (n : ℕ) → numbers_at n new.nodes.items ≡ filter (passes_at is_live cs) (numbers_at n old.nodes.items)
      → ((p : ℕ) → p ≢ n → numbers_at p new.nodes.items ≡ numbers_at p old.nodes.items)
      → ((p : ℕ) → numbers_at p new.links.items ≡ numbers_at p old.links.items) → IsIndex cs new
  index-crash n here others links = record {
    lists = lists;
    cuts = λ a b a8 b8. subst (λ l. IsListOf (concerns (Cut a b)) cs l) (sym (links (link a b))) (h.cuts a b a8 b8);
    crashes = λ m m8. go m (h.crashes m m8) (m == n) refl;
  }
    where
      go : (m : ℕ) → IsListOf (concerns (Crash m)) cs (numbers_at m old.nodes.items) → (z : Bool) → (m == n) ≡ z
          → IsListOf (concerns (Crash m)) cs (numbers_at m new.nodes.items)
      go m k true e =
          let same : m ≡ n = eqb-true m n e in
          subst (λ l. IsListOf (concerns (Crash m)) cs l)
          (sym (subst (λ p. numbers_at p new.nodes.items ≡ filter (passes_at is_live cs) (numbers_at p old.nodes.items)) (sym same) here))
          (list-kept (concerns (Crash m)) is_live
          (λ x. live-of (is_open x) (not (length x.args == 0)) (hits (Crash m) x) (ends (Crash m) x)) cs (numbers_at m old.nodes.items) k)
      go m k false e = subst (λ l. IsListOf (concerns (Crash m)) cs l) (sym (others m (eq-apart m n e))) k

-- 6. Arguments that are let go

pub length-let_go : (ms : List Message) (cs : List Call) → length (let_go ms cs) ≡ length cs
length-let_go [] cs = refl
length-let_go (m ∷ ms) cs = length-let_go ms (change (number_of m - 1) spent cs) ∙ length-change spent cs (number_of m - 1)

let_go-falls : (cause : Cause) (ms : List Message) (cs : List Call) → Falls (concerns cause) cs (let_go ms cs)
let_go-falls cause [] cs = self cs
  where
    self : (xs : List Call) → Falls (concerns cause) xs xs
    self [] = tt
    self (x ∷ xs) = (and-self (concerns cause x), self xs)
let_go-falls cause (m ∷ ms) cs =
    falls-trans (concerns cause) cs (change (number_of m - 1) spent cs) (let_go ms (change (number_of m - 1) spent cs))
    (falls-change (concerns cause) spent (concerns-spent cause) (number_of m - 1) cs)
    (let_go-falls cause ms (change (number_of m - 1) spent cs))

pub index-let_go : (ms : List Message) (cs : List Call) (it : Index) → IsIndex cs it → IsIndex (let_go ms cs) it
index-let_go ms cs it h = index-falls cs (let_go ms cs) it (omega (arith, length-let_go ms cs)) (λ cause. let_go-falls cause ms cs) h

pub let_go-append : (ms ns : List Message) (cs : List Call) → let_go (ms ++ ns) cs ≡ let_go ns (let_go ms cs)
let_go-append [] ns cs = refl
let_go-append (m ∷ ms) ns cs = let_go-append ms ns (change (number_of m - 1) spent cs)
