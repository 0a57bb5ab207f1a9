-- The model's queues, as messages are sent, delivered and lost.
use Rattle.std.proofs.Common.{subst, ◌≡◌, ℕ, ◌==◌, Bool, true, false, cond, ◌&&◌, [], ◌∷◌, ◌++◌, map, Option, None, Some, refl, sym, ◌∙◌}
use Rattle.std.proofs.Common.{ap, ◌⊎◌, inl, inr}
use Rattle.std.specs.List.{filter}
use Rattle.std.specs.Ordering.{nat_cmp, eq_by_cmp}
use Rattle.std.proofs.lemmas.Bool.{eqb-true}
use Rattle.std.proofs.lemmas.List.{map-append}
use Rattle.std.proofs.lemmas.List.Elements.{filter-append}
use Rattle.eden_model.specs.Map.{with_item}
use Rattle.eden_model.specs.Lines.{has, Distinct}
use Rattle.eden_model.specs.Traffic.{Traffic, Call, Place, asked, held, answered, done, call_at, goes, goes_by, queue, asking_station}
use Rattle.eden_model.specs.Traffic.{target_station, in_transit}
use Rattle.invocation.specs.Carries.{message_at, message_of, is_sent}
use Rattle.invocation.proofs.Filters.{filter-filter, map-same, has-filter, distinct-filter, filter-same, distinct-push, has-push, apart}

-- 1. What depends on the call alone

abbrev pub goes_of : Option Call → ℕ → ℕ → Bool
goes_of o a b = with_item o (λ c. goes_by c.place (asking_station c.asker) (target_station c) a b) false

pub same-goes : (t u : Traffic) (k a b : ℕ) → call_at u k ≡ call_at t k → goes u a b k ≡ goes t a b k
same-goes t u k a b e = ap (λ o. goes_of o a b) e

pub same-message : (t u : Traffic) (k : ℕ) → call_at u k ≡ call_at t k → message_of u k ≡ message_of t k
same-message t u k e = ap (λ o. with_item o (λ c. message_at k c.place) (message_at k asked)) e

pub same-sent : (t u : Traffic) (k : ℕ) → call_at u k ≡ call_at t k → is_sent u k ≡ is_sent t k
same-sent t u k e = ap (λ (o : Option Call). with_item o (λ c. in_transit c.place) false) e

-- 2. Some messages leave

module _ (t u : Traffic) (p : ℕ → Bool) (left : u.transit ≡ filter p t.transit) (same : (k : ℕ) → p k ≡ true
    → call_at u k ≡ call_at t k) where
  pub queue-left : (a b : ℕ) → queue u a b ≡ filter p (queue t a b)
  queue-left a b = ap (filter (goes u a b)) left ∙ filter-filter p (goes u a b) (goes t a b) t.transit
      (λ k is. same-goes t u k a b (same k is))

  pub messages-left : (a b : ℕ) → map (message_of u) (queue u a b) ≡ map (message_of t) (filter p (queue t a b))
  messages-left a b =
      ap (map (message_of u)) (queue-left a b)
      ∙ map-same (message_of u) (message_of t) (filter p (queue t a b))
      (λ k there. same-message t u k (same k (has-filter p (queue t a b) k there).1))

  pub once-left : Distinct t.transit → Distinct u.transit
  once-left once = subst Distinct (sym left) (distinct-filter p t.transit once)

  pub sent-left : ((k : ℕ) → has k t.transit ≡ true → is_sent t k ≡ true) → (k : ℕ) → has k u.transit ≡ true → is_sent u k ≡ true
  sent-left sent k there =
      let r = has-filter p t.transit k (ap (has k) (sym left) ∙ there) in
      same-sent t u k (same k r.1) ∙ sent k r.0

-- 3. One message comes

module _ (t u : Traffic) (k : ℕ) (came : u.transit ≡ t.transit ++ k ∷ []) (new : has k t.transit ≡ false) (same : (j : ℕ)
    → eq_by_cmp nat_cmp j k ≡ false → call_at u j ≡ call_at t j) where
  pub queue-came : (a b : ℕ) → queue u a b ≡ queue t a b ++ cond (goes u a b k) (k ∷ []) []
  queue-came a b =
      ap (filter (goes u a b)) came ∙ filter-append (goes u a b) t.transit (k ∷ [])
      ∙ ap (λ l. l ++ cond (goes u a b k) (k ∷ []) []) (filter-same (goes u a b) (goes t a b) t.transit
      (λ j there. same-goes t u j a b (same j (apart t.transit k j new there))))

  pub messages-came : (a b : ℕ) → map (message_of u) (queue u a b) ≡ map (message_of t) (queue t a b) ++ cond (goes u a b k)
      (message_of u k ∷ []) []
  messages-came a b =
      ap (map (message_of u)) (queue-came a b) ∙ map-append (message_of u) (queue t a b) (cond (goes u a b k) (k ∷ []) [])
      ∙ ap (λ l. l ++ map (message_of u) (cond (goes u a b k) (k ∷ []) [])) old
      ∙ ap (λ l. map (message_of t) (queue t a b) ++ l) (one (goes u a b k))
    where
      old : map (message_of u) (queue t a b) ≡ map (message_of t) (queue t a b)
      old = map-same (message_of u) (message_of t) (queue t a b)
          (λ j there. same-message t u j (same j (apart t.transit k j new (has-filter (goes t a b) t.transit j there).0)))

      one : (b : Bool) → map (message_of u) (cond b (k ∷ []) []) ≡ cond b (message_of u k ∷ []) []
      one true = refl
      one false = refl

  pub once-came : Distinct t.transit → Distinct u.transit
  once-came once = subst Distinct (sym came) (distinct-push t.transit k once new)

  pub sent-came : is_sent u k ≡ true → ((j : ℕ) → has j t.transit ≡ true → is_sent t j ≡ true) → (j : ℕ) → has j u.transit ≡ true
      → is_sent u j ≡ true
  sent-came here sent j there = go (has-push t.transit k j (ap (has j) (sym came) ∙ there))
    where
      go : ((has j t.transit ≡ true) ⊎ (j ≡ k)) → is_sent u j ≡ true
      go (inl old) = same-sent t u j (same j (apart t.transit k j new old)) ∙ sent j old
      go (inr e) = ap (is_sent u) e ∙ here

-- 4. One queue for each message

and-both : (a b : Bool) → (a && b) ≡ true → (a ≡ true) × (b ≡ true)
and-both true b h = (refl, h)
and-both false b h = absurd (let bad : false ≡ true = h in cc)

two-ways : (place : Place) (x y a b c d : ℕ) → goes_by place x y a b ≡ true → goes_by place x y c d ≡ true → (a ≡ c) × (b ≡ d)
two-ways asked x y a b c d p q =
    let r = and-both (x == a) (y == b) p in
    let s = and-both (x == c) (y == d) q in
    (sym (eqb-true x a r.0) ∙ eqb-true x c s.0, sym (eqb-true y b r.1) ∙ eqb-true y d s.1)
two-ways (answered s results) x y a b c d p q =
    let r = and-both (x == b) (y == a) p in
    let z = and-both (x == d) (y == c) q in
    (sym (eqb-true y a r.1) ∙ eqb-true y c z.1, sym (eqb-true x b r.0) ∙ eqb-true x d z.0)
two-ways held x y a b c d p q = absurd (let bad : false ≡ true = p in cc)
two-ways done x y a b c d p q = absurd (let bad : false ≡ true = p in cc)

pub one-way : (t : Traffic) (k a b c d : ℕ) → goes t a b k ≡ true → goes t c d k ≡ true → (a ≡ c) × (b ≡ d)
one-way t k a b c d = go (call_at t k)
  where
    go : (o : Option Call) → goes_of o a b ≡ true → goes_of o c d ≡ true → (a ≡ c) × (b ≡ d)
    go None p q = absurd (let bad : false ≡ true = p in cc)
    go (Some x) p q = two-ways x.place (asking_station x.asker) (target_station x) a b c d p q

-- the stations of a call whose message goes from c to d
stations-by : (place : Place) (x y c d : ℕ) → goes_by place x y c d ≡ true → ((x ≡ c) × (y ≡ d)) ⊎ ((x ≡ d) × (y ≡ c))
stations-by asked x y c d p = let r = and-both (x == c) (y == d) p in inl (eqb-true x c r.0, eqb-true y d r.1)
stations-by (answered s results) x y c d p = let r = and-both (x == d) (y == c) p in inr (eqb-true x d r.0, eqb-true y c r.1)
stations-by held x y c d p = absurd (let bad : false ≡ true = p in cc)
stations-by done x y c d p = absurd (let bad : false ≡ true = p in cc)

-- a test of both stations, in one order or the other, tells of the queue what it tells of its calls
pub tells-queue : (h : ℕ → ℕ → Bool) → ((x y : ℕ) → h x y ≡ h y x) → (t : Traffic) (k c d : ℕ) → goes t c d k ≡ true
    → with_item (call_at t k) (λ x. h (asking_station x.asker) (target_station x)) false ≡ h c d
tells-queue h both t k c d = go (call_at t k)
  where
    at : (x : Call) → (((asking_station x.asker ≡ c) × (target_station x ≡ d)) ⊎ ((asking_station x.asker ≡ d) × (target_station x ≡ c)))
        → h (asking_station x.asker) (target_station x) ≡ h c d
    at x (inl e) = ap (λ n. h n (target_station x)) e.0 ∙ ap (h c) e.1
    at x (inr e) = ap (λ n. h n (target_station x)) e.0 ∙ ap (h d) e.1 ∙ both d c

    go : (o : Option Call) → goes_of o c d ≡ true → with_item o (λ x. h (asking_station x.asker) (target_station x)) false ≡ h c d
    go None p = absurd (let bad : false ≡ true = p in cc)
    go (Some x) p = at x (stations-by x.place (asking_station x.asker) (target_station x) c d p)
