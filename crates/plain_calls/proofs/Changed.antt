-- Changes of the calls of the code are those of the definitions.
use Rattle.std.proofs.Common.{◌≡◌, ◌+◌, ◌<◌, ℕ, zero, suc, Bool, true, false, cond, List, [], ◌∷◌, ◌++◌, map, Option, None, Some, refl, sym}
use Rattle.std.proofs.Common.{◌∙◌, ap, slice_get}
use Rattle.std.proofs.Common.{length, slice_set, arith, not}
use Rattle.std.specs.Option.{option_map}
use Rattle.std.specs.List.{filter}
use Rattle.std.specs.Ordering.{nat_cmp}
use Rattle.std.proofs.lemmas.Option.{slice_get-map, slice_get_within}
use Rattle.eden_value.specs.Datum.{Datum}
use Rattle.eden_value.specs.declared.status.Status.{Status}
use Rattle.eden_model.specs.Map.{value_at, put_at, changed_at, each_value, with_item}
use Rattle.eden_model.specs.Traffic as traffic
use Rattle.plain_calls.specs.declared.call.Place.{Place}
use Rattle.plain_calls.specs.declared.call.Place.TheVariants.{Answered, Done}
use Rattle.plain_calls.specs.declared.call.Call.{Call}
use Rattle.plain_calls.specs.declared.closing.Cause.{Cause}
use Rattle.plain_calls.specs.View.{place_of, call_of, calls_of, numbered, at_number}
use Rattle.plain_calls.specs.Changes.{changed_in, placed, shut, hits_by, hits_number, goes_by_call, goes_number}
use Rattle.plain_calls.proofs.Numbered.{find-number, put-number, put-next, length-numbered, each-numbered}
use Rattle.plain_calls.proofs.Lists.{length-map, map-set}

-- 1. Looked up

at-map : {X Y : Type 0} (f : X → Y) (k : ℕ) (xs : List X) → at_number k (map f xs) ≡ option_map f (at_number k xs)
at-map f zero xs = refl
at-map f (suc k) xs = slice_get-map f xs k

-- the call of a number
pub find-call : (k : ℕ) (cs : List Call) → value_at nat_cmp k (calls_of cs) ≡ option_map call_of (at_number k cs)
find-call k cs = find-number k (map call_of cs) ∙ at-map call_of k cs

-- 2. One call changed

-- a change of the code that is one of the definitions
changed-call : (f : Call → Call) (g : traffic.Call → traffic.Call) → ((c : Call) → call_of (f c) ≡ g (call_of c)) → (n : ℕ) (cs : List Call)
    → calls_of (changed_in n f cs (slice_get cs n)) ≡ changed_at nat_cmp (suc n) g (calls_of cs)
changed-call f g same n cs = go (slice_get cs n) refl
  where
    go : (o : Option Call) → slice_get cs n ≡ o → calls_of (changed_in n f cs o) ≡ changed_at nat_cmp (suc n) g (calls_of cs)
    go None is = rw (find-call (suc n) cs, is) refl
    go (Some c) is = let less : n < length (map call_of cs) = omega (arith, length-map call_of cs, slice_get_within cs n c is) in
        rw (find-call (suc n) cs, is) (ap (numbered 1) (map-set call_of n (f c) cs ∙ ap (slice_set (map call_of cs) n) (same c))
        ∙ sym (put-number n (g (call_of c)) (map call_of cs) less))

none-zero : (g : traffic.Call → traffic.Call) (cs : List Call) → calls_of cs ≡ changed_at nat_cmp 0 g (calls_of cs)
none-zero g cs = rw (find-call 0 cs) refl

-- a call at another place
pub placed-call : (k : ℕ) (place : Place) (cs : List Call)
    → calls_of (placed k place cs) ≡ changed_at nat_cmp k (traffic.at_place (place_of place)) (calls_of cs)
placed-call zero place cs = none-zero (traffic.at_place (place_of place)) cs
placed-call (suc n) place cs = changed-call (λ c. record c { place = place }) (traffic.at_place (place_of place)) (λ c. refl) n cs

-- a call that is over
pub shut-call : (k : ℕ) (cs : List Call) → calls_of (shut k cs) ≡ changed_at nat_cmp k traffic.closed (calls_of cs)
shut-call zero cs = none-zero traffic.closed cs
shut-call (suc n) cs = changed-call (λ c. record c { «open» = false; place = Done }) traffic.closed (λ c. refl) n cs

-- 3. A reply

-- what a reply leaves, by the call of its number
abbrev pub replied_by : ℕ → Status → List Datum → List Call → List ℕ → Option Call → traffic.Traffic
replied_by k s vs cs ts None = record { calls = calls_of cs; transit = ts }
replied_by k s vs cs ts (Some c) = cond c.open (record { calls = calls_of (placed k (Answered s vs) cs); transit = ts ++ k ∷ [] })
    (record { calls = calls_of (placed k Done cs); transit = ts })

pub replied-as : (k : ℕ) (s : Status) (vs : List Datum) (cs : List Call) (ts : List ℕ)
    → replied_by k s vs cs ts (at_number k cs) ≡ traffic.replied s vs k (record { calls = calls_of cs; transit = ts })
replied-as k s vs cs ts = go (at_number k cs) (find-call k cs)
  where
    t : traffic.Traffic
    t = record { calls = calls_of cs; transit = ts }

    by_item : Option traffic.Call → traffic.Traffic
    by_item o = with_item o (λ c. cond c.open_ (traffic.sent k (traffic.answered s vs) t)
        (traffic.changed_call k (traffic.at_place traffic.done) t)) t

    by : (b : Bool) → cond b (record { calls = calls_of (placed k (Answered s vs) cs); transit = ts ++ k ∷ [] })
        (record { calls = calls_of (placed k Done cs); transit = ts })
        ≡ cond b (traffic.sent k (traffic.answered s vs) t) (traffic.changed_call k (traffic.at_place traffic.done) t)
    by true = ap (λ es. record { calls = es; transit = ts ++ k ∷ [] }) (placed-call k (Answered s vs) cs)
    by false = ap (λ es. record { calls = es; transit = ts }) (placed-call k Done cs)

    go : (o : Option Call) → value_at nat_cmp k (calls_of cs) ≡ option_map call_of o → replied_by k s vs cs ts o ≡ traffic.replied s vs k t
    go None is = sym (ap by_item is)
    go (Some c) is = by c.open ∙ sym (ap by_item is)

-- one that was waited for
pub replied-open : (k : ℕ) (s : Status) (vs : List Datum) (cs : List Call) (ts : List ℕ) (c : Call) → at_number k cs ≡ Some c
    → c.open ≡ true → record { calls = calls_of (placed k (Answered s vs) cs); transit = ts ++ k ∷ [] }
    ≡ traffic.replied s vs k (record { calls = calls_of cs; transit = ts })
replied-open k s vs cs ts c is waits = ap (λ b. cond b (record { calls = calls_of (placed k (Answered s vs) cs); transit = ts ++ k ∷ [] })
    (record { calls = calls_of (placed k Done cs); transit = ts })) (sym waits)
    ∙ (ap (replied_by k s vs cs ts) (sym is) ∙ replied-as k s vs cs ts)

-- and one that was not
pub replied-closed : (k : ℕ) (s : Status) (vs : List Datum) (cs : List Call) (ts : List ℕ) (c : Call) → at_number k cs ≡ Some c
    → c.open ≡ false → record {
      calls = calls_of (placed k Done cs);
      transit = ts;
    } ≡ traffic.replied s vs k (record { calls = calls_of cs; transit = ts })
replied-closed k s vs cs ts c is waits = ap (λ b. cond b (record { calls = calls_of (placed k (Answered s vs) cs); transit = ts ++ k ∷ [] })
    (record { calls = calls_of (placed k Done cs); transit = ts })) (sym waits)
    ∙ (ap (replied_by k s vs cs ts) (sym is) ∙ replied-as k s vs cs ts)

-- 4. Both parts of the calls

pub both : (es fs : List (ℕ × traffic.Call)) (ts us : List ℕ) → es ≡ fs → ts ≡ us
    → ◌≡◌ {A = traffic.Traffic} (record { calls = es; transit = ts }) (record { calls = fs; transit = us })
both es fs ts us a b = ap (λ l. record { calls = l; transit = ts }) a ∙ ap (λ l. record { calls = fs; transit = l }) b

-- how many calls there are
pub length-calls : (cs : List Call) → length (calls_of cs) ≡ length cs
length-calls cs = length-numbered 1 (map call_of cs) ∙ length-map call_of cs

map-append : {X Y : Type 0} (f : X → Y) (xs : List X) (x : X) → map f (xs ++ x ∷ []) ≡ map f xs ++ f x ∷ []
map-append f [] x = refl
map-append f (y ∷ ys) x = ap (λ l. f y ∷ l) (map-append f ys x)

-- one more call, under the next number
pub calls-more : (cs : List Call) (c : Call) (new : traffic.Call) → call_of c ≡ new
    → calls_of (cs ++ c ∷ []) ≡ put_at nat_cmp (length cs + 1) new (calls_of cs)
calls-more cs c new is = ap (numbered 1) (map-append call_of cs c ∙ ap (λ y. map call_of cs ++ y ∷ []) is)
    ∙ (sym (put-next new (map call_of cs)) ∙ ap (λ n. put_at nat_cmp (n + 1) new (calls_of cs)) (length-map call_of cs))

-- each call as a change leaves it
pub calls-each : (f : traffic.Call → traffic.Call) (cs ds : List Call) → map call_of ds ≡ map f (map call_of cs)
    → calls_of ds ≡ each_value f (calls_of cs)
calls-each f cs ds is = ap (numbered 1) is ∙ sym (each-numbered f 1 (map call_of cs))

-- 5. Messages by their calls

filter-same : {X : Type 0} (p q : X → Bool) → ((x : X) → p x ≡ q x) → (xs : List X) → filter p xs ≡ filter q xs
filter-same p q same [] = refl
filter-same p q same (x ∷ xs) = ap (λ b. cond b (x ∷ filter p xs) (filter p xs)) (same x)
    ∙ ap (λ l. cond (q x) (x ∷ l) l) (filter-same p q same xs)

by-call : (f : traffic.Call → Bool) (o : Option Call) → with_item o (λ c. f (call_of c)) false ≡ with_item (option_map call_of o) f false
by-call f None = refl
by-call f (Some c) = refl

-- a test of the call of a number
pub tests-call : (f : traffic.Call → Bool) (cs : List Call) (k : ℕ)
    → with_item (at_number k cs) (λ c. f (call_of c)) false ≡ with_item (value_at nat_cmp k (calls_of cs)) f false
tests-call f cs k = by-call f (at_number k cs) ∙ ap (λ o. with_item o f false) (sym (find-call k cs))

-- the messages that go from one station to another
pub queue-as : (a b : ℕ) (cs : List Call) (ts : List ℕ)
    → filter (goes_number a b cs) ts ≡ traffic.queue (record { calls = calls_of cs; transit = ts }) a b
queue-as a b cs ts = filter-same _ _ (tests-call (goes_by_call a b) cs) ts

-- the messages that are not lost
pub kept-as : (cause : Cause) (cs : List Call) (ts : List ℕ)
    → filter (λ k. not (hits_number cause cs k)) ts
    ≡ filter (λ k. not (with_item (value_at nat_cmp k (calls_of cs)) (hits_by cause) false)) ts
kept-as cause cs ts = filter-same _ _ (λ k. ap not (tests-call (hits_by cause) cs k)) ts
