-- What is noted of each Eject, as calls change.
use Rattle.std.proofs.Common.{◌≡◌, ℕ, zero, suc, ◌+◌, ◌-◌, Bool, true, false, cond, not, ◌&&◌, List, [], ◌∷◌, ◌++◌, map, length, refl, sym}
use Rattle.std.proofs.Common.{◌∙◌, ap, arith}
use Rattle.std.specs.Prelude.{slice_get, Vec, Some}
use Rattle.std.specs.declared.alloc.Global.{Global}
use Rattle.std.specs.BTreeMap.{get, is_at}
use Rattle.std.specs.List.{filter}
use Rattle.std.proofs.lemmas.List.{append-nil}
use Rattle.std.proofs.lemmas.List.Elements.{filter-append}
use Rattle.capability.specs.declared.Uid.{Uid}
use Rattle.capability.specs.Uids.{uid_cmp}
use Rattle.capability.proofs.Uids.{uid_cmp-IsAntisymmetric}
use Rattle.eden_model.specs.Map.{with_item, same_uid}
use Rattle.eden_model.specs.Crew.{change}
use Rattle.eden_model.proofs.Laws.{eq-same}
use Rattle.invocation.specs.declared.call.Call.{Call}
use Rattle.invocation.specs.declared.call.Message.{Message}
use Rattle.invocation.specs.declared.call.Message.TheVariants.{Request, Reply}
use Rattle.invocation.specs.declared.closing.Cause.{Cause}
use Rattle.invocation.specs.declared.closing.Cause.TheVariants.{Lost}
use Rattle.invocation.specs.Mail.{is_open, asked_by, spent, over, closed_if, received, let_go, number_of}
use Rattle.invocation.specs.Causes.{hits, ends, closed_by}
use Rattle.invocation.specs.Numbers.{numbers_where, passes_at, changed_at_all}
use Rattle.invocation.specs.Made.{Made, is_own, made_by, AreMade}
use Rattle.invocation.proofs.Numbers.{Falls, falls-map, falls-change, falls-pass, passed-before, passes-by, numbers-push, filter-narrow}
use Rattle.invocation.proofs.Numbers.{all-changed}

-- 1. Calls that change

and-none : (b : Bool) → false ≡ (b && false)
and-none true = refl
and-none false = refl

and-self : (b : Bool) → b ≡ (b && b)
and-self true = refl
and-self false = refl

own-spent : (u : Uid) (c : Call) → is_own u (spent c) ≡ (is_own u c && is_own u (spent c))
own-spent u c = and-self (is_own u c)

own-over : (u : Uid) (c : Call) → is_own u (over c) ≡ (is_own u c && is_own u (over c))
own-over u c = and-none (is_own u c)

own-closed : (u : Uid) (b : Bool) (c : Call) → is_own u (closed_if b c) ≡ (is_own u c && is_own u (closed_if b c))
own-closed u true c = and-none (is_own u c)
own-closed u false c = and-self (is_own u c)

own-closing : (u : Uid) (cause : Cause) (c : Call) → is_own u (closed_by cause c) ≡ (is_own u c && is_own u (closed_by cause c))
own-closing u cause c = go (ends cause c)
  where
    go : (b : Bool) → is_own u (cond b (over c) (closed_if (hits cause c) c)) ≡
        (is_own u c && is_own u (cond b (over c) (closed_if (hits cause c) c)))
    go true = own-over u c
    go false = own-closed u (hits cause c) c

made-falls : (cs ds : List Call) (made : Made) → ((u : Uid) → Falls (is_own u) cs ds) → AreMade cs made → AreMade ds made
made-falls cs ds made falls it u =
    sym (filter-narrow (passes_at (is_own u) cs) (passes_at (is_own u) ds) (made_by u made) (passed-before (is_own u) cs ds (falls u)))
    ∙ ap (filter (passes_at (is_own u) ds)) (it u) ∙ falls-pass (is_own u) cs ds (falls u)

pub made-spent : (i : ℕ) (cs : List Call) (made : Made) → AreMade cs made → AreMade (change i spent cs) made
made-spent i cs made it = made-falls cs (change i spent cs) made (λ u. falls-change (is_own u) spent (own-spent u) i cs) it

pub made-closing : (cause : Cause) (cs : List Call) (made : Made) → AreMade cs made → AreMade (map (closed_by cause) cs) made
made-closing cause cs made it =
    made-falls cs (map (closed_by cause) cs) made (λ u. falls-map (is_own u) (closed_by cause) (own-closing u cause) cs) it

pub made-received : (m : Message) (cs : List Call) (made : Made) → AreMade cs made → AreMade (received m cs) made
made-received (Request k) cs made it = it
made-received (Reply k s results) cs made it =
    made-falls cs (change (k - 1) over cs) made (λ u. falls-change (is_own u) over (own-over u) (k - 1) cs) it

pub made-let_go : (ms : List Message) (cs : List Call) (made : Made) → AreMade cs made → AreMade (let_go ms cs) made
made-let_go [] cs made it = it
made-let_go (m ∷ ms) cs made it = made-let_go ms (change (number_of m - 1) spent cs) made (made-spent (number_of m - 1) cs made it)

-- 2. A new call

filter-each : (f g : ℕ → Bool) (ks : List ℕ) → ((k : ℕ) → f k ≡ g k) → filter f ks ≡ filter g ks
filter-each f g [] same = refl
filter-each f g (k ∷ ks) same = rw (same k, filter-each f g ks same) refl

-- two tests that agree where a third passes
filter-under : (f g p : ℕ → Bool) (ks : List ℕ) → ((k : ℕ) → p k ≡ true → f k ≡ g k) → filter f (filter p ks) ≡ filter g (filter p ks)
filter-under f g p [] same = refl
filter-under f g p (k ∷ ks) same = go (p k) refl (filter-under f g p ks same)
  where
    go : (b : Bool) → p k ≡ b → filter f (filter p ks) ≡ filter g (filter p ks)
        → filter f (cond (p k) (k ∷ filter p ks) (filter p ks)) ≡ filter g (cond (p k) (k ∷ filter p ks) (filter p ks))
    go true e ih = rw e (rw (same k e, ih) refl)
    go false e ih = rw e ih

other-pushed : (p : Call → Bool) (cs : List Call) (x : Call) → p x ≡ false → (k : ℕ) → passes_at p (cs ++ x ∷ []) k ≡ passes_at p cs k
other-pushed p cs x not_it zero = refl
other-pushed p cs x not_it (suc k) = go cs k
  where
    go : (ds : List Call) (i : ℕ) → with_item (slice_get (ds ++ x ∷ []) i) p false ≡ with_item (slice_get ds i) p false
    go [] zero = not_it
    go [] (suc i) = refl
    go (d ∷ ds) zero = refl
    go (d ∷ ds) (suc i) = go ds i

-- where an item stands already, a new one changes nothing
there-pushed : (p q : Call → Bool) (cs : List Call) (x : Call) (k : ℕ) → passes_at q cs k ≡ true
    → passes_at p (cs ++ x ∷ []) k ≡ passes_at p cs k
there-pushed p q cs x zero h = refl
there-pushed p q cs x (suc k) h = go cs k h
  where
    go : (ds : List Call) (i : ℕ) → with_item (slice_get ds i) q false ≡ true
        → with_item (slice_get (ds ++ x ∷ []) i) p false ≡ with_item (slice_get ds i) p false
    go [] i e = absurd (let bad : false ≡ true = e in cc)
    go (d ∷ ds) zero e = refl
    go (d ∷ ds) (suc i) e = go ds i e

last-pushed : (p : Call → Bool) (cs : List Call) (x : Call) → passes_at p (cs ++ x ∷ []) (length cs + 1) ≡ p x
last-pushed p cs x = let e : length cs + 1 ≡ suc (length cs) = omega arith in ap (passes_at p (cs ++ x ∷ [])) e ∙ go cs
  where
    go : (ds : List Call) → with_item (slice_get (ds ++ x ∷ []) (length ds)) p false ≡ p x
    go [] = refl
    go (d ∷ ds) = go ds

none-past : (p : Call → Bool) (cs : List Call) → passes_at p cs (length cs + 1) ≡ false
none-past p cs = let e : length cs + 1 ≡ suc (length cs) = omega arith in ap (passes_at p cs) e ∙ go cs
  where
    go : (ds : List Call) → with_item (slice_get ds (length ds)) p false ≡ false
    go [] = refl
    go (d ∷ ds) = go ds

and-first : (a b : Bool) → (a && b) ≡ true → a ≡ true
and-first true b h = refl
and-first false b h = h

-- of the open ones among some numbers, the same are an Eject's own
own-open : (u : Uid) (cs : List Call) (ks : List ℕ)
    → filter (passes_at (is_own u) cs) (filter (passes_at is_open cs) ks) ≡ filter (passes_at (is_own u) cs) ks
own-open u cs ks =
    filter-narrow (passes_at is_open cs) (passes_at (is_own u) cs) ks
    (passes-by (is_own u) is_open (λ c. and-first (is_open c) (asked_by u c)) cs)

-- what is noted of an Eject once a call is noted, of which it is told whether this Eject made it
abbrev pub noted_of : Uid → Bool → List Call → ℕ → Made → List ℕ
noted_of u own cs k made = cond own (filter (passes_at is_open cs) (made_by u made) ++ k ∷ []) (made_by u made)

-- a new call is noted
abbrev pub Notes : Call → List Call → Made → Made → Type 0
Notes x cs made new = (u : Uid) → made_by u new ≡ noted_of u (asked_by u x) cs (length cs + 1) made

pub made-other : (x : Call) (cs : List Call) (made : Made) → ((u : Uid) → is_own u x ≡ false) → AreMade cs made
    → AreMade (cs ++ x ∷ []) made
made-other x cs made none it u =
    filter-each (passes_at (is_own u) (cs ++ x ∷ [])) (passes_at (is_own u) cs) (made_by u made) (other-pushed (is_own u) cs x (none u))
    ∙ it u ∙ sym (numbers-push (is_own u) 1 cs x ∙ rw (none u) (append-nil (numbers_where (is_own u) 1 cs)))

pub made-noted : (x : Call) (cs : List Call) (made new : Made) → is_open x ≡ true → Notes x cs made new → AreMade cs made
    → AreMade (cs ++ x ∷ []) new
made-noted x cs made new opens notes it u = go (asked_by u x) refl
  where
    now : List Call
    now = cs ++ x ∷ []

    open_ones : List ℕ
    open_ones = filter (passes_at is_open cs) (made_by u made)

    is-own : (b : Bool) → asked_by u x ≡ b → is_own u x ≡ b
    is-own b e = rw (opens, e) refl

    go : (b : Bool) → asked_by u x ≡ b → filter (passes_at (is_own u) now) (made_by u new) ≡ numbers_where (is_own u) 1 now
    go true e =
        let n : 1 + length cs ≡ length cs + 1 = omega arith in
        let at : made_by u new ≡ open_ones ++ (length cs + 1) ∷ [] = notes u
        ∙ ap (λ b. cond b (open_ones ++ (length cs + 1) ∷ []) (made_by u made)) e in
        let last : passes_at (is_own u) now (length cs + 1) ≡ true = last-pushed (is_own u) cs x ∙ is-own true e in
        let one : filter (passes_at (is_own u) now) ((length cs + 1) ∷ []) ≡ (length cs + 1) ∷ [] =
        ap (λ b. cond b ((length cs + 1) ∷ []) []) last in
        let old : filter (passes_at (is_own u) now) open_ones ≡ numbers_where (is_own u) 1 cs =
        filter-under (passes_at (is_own u) now) (passes_at (is_own u) cs) (passes_at is_open cs) (made_by u made)
        (there-pushed (is_own u) is_open cs x)
        ∙ own-open u cs (made_by u made) ∙ it u in
        let pushed : numbers_where (is_own u) 1 now ≡ numbers_where (is_own u) 1 cs ++ (length cs + 1) ∷ [] =
        numbers-push (is_own u) 1 cs x ∙ ap (λ b. numbers_where (is_own u) 1 cs ++ cond b ((1 + length cs) ∷ []) []) (is-own true e)
        ∙ ap (λ k. numbers_where (is_own u) 1 cs ++ k ∷ []) n in
        ap (filter (passes_at (is_own u) now)) at ∙ filter-append (passes_at (is_own u) now) open_ones ((length cs + 1) ∷ [])
        ∙ ap (λ l. filter (passes_at (is_own u) now) open_ones ++ l) one ∙ ap (λ l. l ++ (length cs + 1) ∷ []) old ∙ sym pushed
    go false e =
        let at : made_by u new ≡ made_by u made = notes u ∙ ap (λ b. cond b (open_ones ++ (length cs + 1) ∷ []) (made_by u made)) e in
        ap (filter (passes_at (is_own u) now)) at
        ∙ filter-each (passes_at (is_own u) now) (passes_at (is_own u) cs) (made_by u made) (other-pushed (is_own u) cs x (is-own false e))
        ∙ it u ∙ sym (numbers-push (is_own u) 1 cs x ∙ rw (is-own false e) (append-nil (numbers_where (is_own u) 1 cs)))

-- a call that was noted, and was not made after all
pub made-given_up : (x : Call) (cs : List Call) (made new : Made) → Notes x cs made new → AreMade cs made → AreMade cs new
made-given_up x cs made new notes it u = go (asked_by u x) refl
  where
    open_ones : List ℕ
    open_ones = filter (passes_at is_open cs) (made_by u made)

    go : (b : Bool) → asked_by u x ≡ b → filter (passes_at (is_own u) cs) (made_by u new) ≡ numbers_where (is_own u) 1 cs
    go true e =
        let at : made_by u new ≡ open_ones ++ (length cs + 1) ∷ [] = notes u
        ∙ ap (λ b. cond b (open_ones ++ (length cs + 1) ∷ []) (made_by u made)) e in
        let none : filter (passes_at (is_own u) cs) ((length cs + 1) ∷ []) ≡ [] =
        ap (λ b. cond b ((length cs + 1) ∷ []) []) (none-past (is_own u) cs) in
        ap (filter (passes_at (is_own u) cs)) at ∙ filter-append (passes_at (is_own u) cs) open_ones ((length cs + 1) ∷ [])
        ∙ ap (λ l. filter (passes_at (is_own u) cs) open_ones ++ l) none ∙ append-nil (filter (passes_at (is_own u) cs) open_ones)
        ∙ own-open u cs (made_by u made) ∙ it u
    go false e =
        let at : made_by u new ≡ made_by u made = notes u ∙ ap (λ b. cond b (open_ones ++ (length cs + 1) ∷ []) (made_by u made)) e in
        ap (filter (passes_at (is_own u) cs)) at ∙ it u

-- the same is noted of each
pub made-same : (cs : List Call) (made new : Made) → ((u : Uid) → made_by u new ≡ made_by u made) → AreMade cs made → AreMade cs new
made-same cs made new same it u = ap (filter (passes_at (is_own u) cs)) (same u) ∙ it u

-- what is noted of one Eject is changed, and what is noted of others stays
pub noted-by : (u : Uid) (f : List ℕ → List ℕ) (made new : Made) (v : Vec ℕ Global) → v.items ≡ f (made_by u made)
    → ((q : Uid) → get uid_cmp new q ≡ cond (is_at (uid_cmp u) q) (Some v) (get uid_cmp made q))
    → (q : Uid) → made_by q new ≡ cond (same_uid u q) (f (made_by q made)) (made_by q made)
noted-by u f made new v is at q = go (same_uid u q) refl
  where
    by : (b : Bool) → same_uid u q ≡ b → made_by q new ≡ with_item (cond b (Some v) (get uid_cmp made q)) (λ w. w.items) []
    by b e = ap (λ o. with_item o (λ w. w.items) []) (at q ∙ ap (λ x. cond x (Some v) (get uid_cmp made q)) e)

    go : (b : Bool) → same_uid u q ≡ b → made_by q new ≡ cond (same_uid u q) (f (made_by q made)) (made_by q made)
    go true e = let same : u ≡ q = eq-same uid_cmp uid_cmp-IsAntisymmetric u q e in
        rw e (by true e ∙ is ∙ ap (λ z. f (made_by z made)) same)
    go false e = rw e (by false e)

pub unchanged-by : (u : Uid) (made new : Made) (v : Vec ℕ Global) → v.items ≡ made_by u made
    → ((q : Uid) → get uid_cmp new q ≡ cond (is_at (uid_cmp u) q) (Some v) (get uid_cmp made q)) → (q : Uid)
    → made_by q new ≡ made_by q made
unchanged-by u made new v is at q = noted-by u (λ l. l) made new v is at q ∙ both (same_uid u q)
  where
    both : (b : Bool) → cond b (made_by q made) (made_by q made) ≡ made_by q made
    both true = refl
    both false = refl

-- 3. An Eject that is lost

lost-fixed : (u : Uid) (c : Call) → is_own u c ≡ false → closed_by (Lost u) c ≡ c
lost-fixed u c = go c.closed refl (asked_by u c)
  where
    go : (a : Bool) → c.closed ≡ a → (b : Bool) → (not a && b) ≡ false → closed_if b c ≡ c
    go true e true h = ap (λ (x : Bool). record c { closed = x }) (sym e)
    go true e false h = refl
    go false e true h = absurd (let bad : true ≡ false = h in cc)
    go false e false h = refl

-- it is enough to close its open calls
pub lost-closed : (u : Uid) (cs : List Call) (ks : List ℕ) → ks ≡ numbers_where (is_own u) 1 cs
    → changed_at_all (closed_by (Lost u)) 1 ks cs ≡ map (closed_by (Lost u)) cs
lost-closed u cs ks is = ap (λ l. changed_at_all (closed_by (Lost u)) 1 l cs) is ∙ all-changed (is_own u) (closed_by (Lost u)) 1 cs ∙ all cs
  where
    one_of : (x : Call) (b : Bool) → is_own u x ≡ b → cond b (closed_by (Lost u) x) x ≡ closed_by (Lost u) x
    one_of x true e = refl
    one_of x false e = sym (lost-fixed u x e)

    all : (xs : List Call) → map (λ x. cond (is_own u x) (closed_by (Lost u) x) x) xs ≡ map (closed_by (Lost u)) xs
    all [] = refl
    all (x ∷ xs) = rw (one_of x (is_own u x) refl) (ap (λ l. closed_by (Lost u) x ∷ l) (all xs))

none-own : (u : Uid) (n : ℕ) (cs : List Call) → numbers_where (is_own u) n (map (closed_by (Lost u)) cs) ≡ []
none-own u n [] = refl
none-own u n (c ∷ cs) = rw (no-own (asked_by u c) refl, none-own u (n + 1) cs) refl
  where
    no-own : (b : Bool) → asked_by u c ≡ b → is_own u (closed_if b c) ≡ false
    no-own true e = refl
    no-own false e = rw e (sym (and-none (is_open c)))

pub made-lost : (u : Uid) (cs : List Call) (made new : Made) → ((q : Uid) → made_by q new ≡ cond (same_uid u q) [] (made_by q made))
    → AreMade cs made → AreMade (map (closed_by (Lost u)) cs) new
made-lost u cs made new at it q = go (same_uid u q) refl
  where
    now : List Call
    now = map (closed_by (Lost u)) cs

    go : (b : Bool) → same_uid u q ≡ b → filter (passes_at (is_own q) now) (made_by q new) ≡ numbers_where (is_own q) 1 now
    go true e =
        let same : u ≡ q = eq-same uid_cmp uid_cmp-IsAntisymmetric u q e in
        ap (filter (passes_at (is_own q) now)) (at q ∙ ap (λ b. cond b [] (made_by q made)) e)
        ∙ sym (ap (λ v. numbers_where (is_own v) 1 now) (sym same) ∙ none-own u 1 cs)
    go false e = ap (filter (passes_at (is_own q) now)) (at q ∙ ap (λ b. cond b [] (made_by q made)) e) ∙ made-closing (Lost u) cs made it q
