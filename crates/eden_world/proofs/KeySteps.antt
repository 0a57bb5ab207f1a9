-- The loops over the stations, step by step.
use Rattle.std.proofs.Common.{◌≡◌, ℕ, zero, suc, ◌+◌, ◌-◌, ◌≤◌, ◌<◌, Bool, true, false, cond, ◌&&◌, List, [], ◌∷◌, ◌++◌, length, drop, map}
use Rattle.std.proofs.Common.{Option, None, Some, Continue, Break, refl, sym, ◌∙◌, ap, subst, arith}
use Rattle.std.proofs.Math.Nat.{mod-eq_of_lt, mod-eq-sub-mod, mod-lt}
use Rattle.std.specs.Prelude.{slice_get, ◌%◌}
use Rattle.std.specs.ControlFlow.{break_value, continue_value}
use Rattle.std.specs.declared.ops.ControlFlow.{ControlFlow}
use Rattle.std.specs.List.{find, flat_map}
use Rattle.std.proofs.lemmas.List.{drop_all}
use Rattle.eden_model.specs.Map.{or_else, first}
use Rattle.invocation.specs.Mail.{Mail, is_waiting}
use Rattle.journal.specs.declared.event.Key.{Key}
use Rattle.journal.specs.World.{World}
use Rattle.journal.specs.Enabled.{delivery, following, item, is_past}
use Rattle.agenda.specs.Places.{at_place}
use Rattle.agenda.proofs.AtPlaces.{then_at, at-next}
use Rattle.eden_world.specs.Listed.{keys_from, keys_at}
use Rattle.eden_world.specs.Worlds.{numbers_from}
use Rattle.eden_world.proofs.NodeKeys.{numbers-count}
use Rattle.eden_world.proofs.KeyLists.{stations-from, next-from, find-append, find-station, first-past}

-- no station is left
past-all : (c n : ℕ) → c ≤ n → drop n (numbers_from 0 c) ≡ []
past-all c n past = drop_all n (numbers_from 0 c) (subst (λ k. k ≤ n) (sym (numbers-count 0 c)) past)

-- 1. The first delivery

pub and-left : (a b : Bool) → a ≡ false → (a && b) ≡ false
and-left a b is = rw is refl

pub and-right : (a b : Bool) → b ≡ false → (a && b) ≡ false
and-right true b is = is
and-right false b is = refl

-- what is found of the deliveries from a station and those behind it
found-from : (P : Key → Bool) (m : Mail) (to c n : ℕ) → n < c → find P (keys_from m to (drop n (numbers_from 0 c)))
    ≡ cond (is_waiting n to m && P (delivery to n)) (Some (delivery to n)) (find P (keys_from m to (drop (n + 1) (numbers_from 0 c))))
found-from P m to c n few = ap (λ ns. find P (keys_from m to ns)) (stations-from c n few) ∙ next-from P m to n (drop (n + 1) (numbers_from 0 c))

pub delivery-found : (P : Key → Bool) (m : Mail) (to c n : ℕ) (x : Option Key) → n < c → is_waiting n to m ≡ true → P (delivery to n) ≡ true
    → find P (keys_from m to (drop n (numbers_from 0 c))) ≡ x → Some (delivery to n) ≡ x
delivery-found P m to c n x few waits past inv = sym (found-from P m to c n few ∙ (rw waits (rw past refl))) ∙ inv

pub delivery-none : (P : Key → Bool) (m : Mail) (to c n : ℕ) (x : Option Key) → n < c → (is_waiting n to m && P (delivery to n)) ≡ false
    → find P (keys_from m to (drop n (numbers_from 0 c))) ≡ x → find P (keys_from m to (drop (n + 1) (numbers_from 0 c))) ≡ x
delivery-none P m to c n x few not_it inv = sym (found-from P m to c n few ∙ (rw not_it refl)) ∙ inv

pub deliveries-end : (P : Key → Bool) (m : Mail) (to c n : ℕ) (x : Option Key) → c ≤ n
    → find P (keys_from m to (drop n (numbers_from 0 c))) ≡ x → None ≡ x
deliveries-end P m to c n x past inv = sym (ap (λ ns. find P (keys_from m to ns)) (past-all c n past)) ∙ inv

-- 2. The first key

pub station-found : (P : Key → Bool) (w : World) (c n : ℕ) (k : Key) (x : Option Key) → n < c → Some k ≡ find P (keys_at w n)
    → find P (flat_map (keys_at w) (drop n (numbers_from 0 c))) ≡ x → Some k ≡ x
station-found P w c n k x few is inv =
    ap (λ o. or_else o (find P (flat_map (keys_at w) (drop (n + 1) (numbers_from 0 c))))) is ∙ sym (find-station P w c n few) ∙ inv

pub station-none : (P : Key → Bool) (w : World) (c n : ℕ) (x : Option Key) → n < c → None ≡ find P (keys_at w n)
    → find P (flat_map (keys_at w) (drop n (numbers_from 0 c))) ≡ x → find P (flat_map (keys_at w) (drop (n + 1) (numbers_from 0 c))) ≡ x
station-none P w c n x few is inv =
    ap (λ o. or_else o (find P (flat_map (keys_at w) (drop (n + 1) (numbers_from 0 c))))) is ∙ sym (find-station P w c n few) ∙ inv

pub stations-end : (P : Key → Bool) (w : World) (c n : ℕ) (x : Option Key) → c ≤ n
    → find P (flat_map (keys_at w) (drop n (numbers_from 0 c))) ≡ x → None ≡ x
stations-end P w c n x past inv = sym (ap (λ ns. find P (flat_map (keys_at w) ns)) (past-all c n past)) ∙ inv

-- the first past the last one, or the first of all
pub follows-found : (last : Option Key) (keys : List Key) (k : Key) → Some k ≡ find (is_past last) keys → Some k ≡ following last keys
follows-found last keys k is = ap (λ o. or_else o (first keys)) is

pub follows-first : (last : Option Key) (keys : List Key) (r : Option Key) → None ≡ find (is_past last) keys → r ≡ find (is_past None) keys
    → r ≡ following last keys
follows-first last keys r none is = is ∙ first-past keys ∙ ap (λ o. or_else o (first keys)) none

-- 3. The key at a place

one-by-one : (m : Mail) (to n : ℕ) (ns : List ℕ) → keys_from m to (n ∷ ns) ≡ keys_from m to (n ∷ []) ++ keys_from m to ns
one-by-one m to n ns = go (is_waiting n to m) refl
  where
    go : (b : Bool) → is_waiting n to m ≡ b → keys_from m to (n ∷ ns) ≡ keys_from m to (n ∷ []) ++ keys_from m to ns
    go true at = rw at refl
    go false at = rw at refl

-- of the delivery from one station
pub one-at : (m : Mail) (to n i : ℕ) (r : ControlFlow Key ℕ) → is_waiting n to m ≡ true → r ≡ at_place (delivery to n ∷ []) i
    → r ≡ at_place (keys_from m to (n ∷ [])) i
one-at m to n i r waits is = is ∙ sym (ap (λ b. at_place (map (delivery to) (cond b (n ∷ []) [])) i) waits)

pub none-at : (m : Mail) (to n i : ℕ) → is_waiting n to m ≡ false → Continue i ≡ at_place (keys_from m to (n ∷ [])) i
none-at m to n i waits = sym (ap (λ b. at_place (map (delivery to) (cond b (n ∷ []) [])) i) waits)

-- the deliveries from the stations behind one
pub delivery-at : (m : Mail) (to c n i : ℕ) (r all : ControlFlow Key ℕ) → n < c → r ≡ at_place (keys_from m to (n ∷ [])) i
    → at_place (keys_from m to (drop n (numbers_from 0 c))) i ≡ all → then_at (keys_from m to (drop (n + 1) (numbers_from 0 c))) r ≡ all
delivery-at m to c n i r all few is inv =
    let rest = drop (n + 1) (numbers_from 0 c) in
    sym (at-next (keys_from m to (n ∷ [])) (keys_from m to rest) i r is)
    ∙ sym (ap (λ ks. at_place ks i) (ap (keys_from m to) (stations-from c n few) ∙ one-by-one m to n rest)) ∙ inv

pub deliveries-at-end : (m : Mail) (to c n i : ℕ) (all : ControlFlow Key ℕ) → c ≤ n
    → at_place (keys_from m to (drop n (numbers_from 0 c))) i ≡ all → Continue i ≡ all
deliveries-at-end m to c n i all past inv = sym (ap (λ ns. at_place (keys_from m to ns) i) (past-all c n past)) ∙ inv

-- the keys of the stations behind one
pub station-at : (w : World) (c n i : ℕ) (r all : ControlFlow Key ℕ) → n < c → r ≡ at_place (keys_at w n) i
    → at_place (flat_map (keys_at w) (drop n (numbers_from 0 c))) i ≡ all
    → then_at (flat_map (keys_at w) (drop (n + 1) (numbers_from 0 c))) r ≡ all
station-at w c n i r all few is inv =
    let rest = flat_map (keys_at w) (drop (n + 1) (numbers_from 0 c)) in
    sym (at-next (keys_at w n) rest i r is) ∙ sym (ap (λ ns. at_place (flat_map (keys_at w) ns) i) (stations-from c n few)) ∙ inv

pub stations-at-end : (w : World) (c n i : ℕ) (all : ControlFlow Key ℕ) → c ≤ n
    → at_place (flat_map (keys_at w) (drop n (numbers_from 0 c))) i ≡ all → Continue i ≡ all
stations-at-end w c n i all past inv = sym (ap (λ ns. at_place (flat_map (keys_at w) ns) i) (past-all c n past)) ∙ inv

-- the keys of a station, deliveries before its node's
pub behind-mail : (mail nodes all : List Key) (i : ℕ) (m r : ControlFlow Key ℕ) → m ≡ at_place mail i → r ≡ then_at nodes m
    → all ≡ mail ++ nodes → r ≡ at_place all i
behind-mail mail nodes all i m r first is keys = is ∙ sym (at-next mail nodes i m first) ∙ sym (ap (λ ks. at_place ks i) keys)

-- 4. The key at a place, counted round

there : (ks : List Key) (i : ℕ) (k : Key) → Break k ≡ at_place ks i → (i < length ks) × (slice_get ks i ≡ Some k)
there [] i k is = absurd (cc is)
there (x ∷ xs) zero k is = (omega arith, sym (ap break_value is))
there (x ∷ xs) (suc i) k is = let h = there xs i k is in (omega (arith, h.0), h.1)

past : (ks : List Key) (i l : ℕ) → Continue l ≡ at_place ks i → l + length ks ≡ i
past [] i l is = let e : Some l ≡ Some i = ap continue_value is in let n : l ≡ i = cc e in omega (arith, n)
past (x ∷ xs) zero l is = absurd (cc is)
past (x ∷ xs) (suc i) l is = omega (arith, past xs i l is)

found : (ks : List Key) (p : ℕ) → p < length ks → break_value (at_place ks p) ≡ slice_get ks p
found [] p few = absurd (omega (arith, few))
found (x ∷ xs) zero few = refl
found (x ∷ xs) (suc p) few = found xs p (omega (arith, few))

-- it stands among the keys
pub item-there : (ks : List Key) (i : ℕ) (k : Key) → Break k ≡ at_place ks i → Some k ≡ item i ks
item-there ks i k is = let h = there ks i k is in sym h.1 ∙ sym (ap (slice_get ks) (mod-eq_of_lt h.0))

-- there are no keys
pub item-none : (ks : List Key) (i l : ℕ) → Continue l ≡ at_place ks i → (0 < i - l → ⊥) → None ≡ item i ks
item-none [] i l is none = refl
item-none (x ∷ xs) i l is none = absurd (none (omega (arith, past (x ∷ xs) i l is)))

-- the place is past them all
pub item-round : (ks : List Key) (i l p : ℕ) (r : Option Key) → Continue l ≡ at_place ks i → 0 < i - l → p ≡ l % (i - l)
    → r ≡ break_value (at_place ks p) → r ≡ item i ks
item-round ks i l p r is some round at =
    let h = past ks i l is in
    let n : i - l ≡ length ks = omega (arith, h) in
    let left : l ≡ i - length ks = omega (arith, h) in
    let few : 0 < length ks = omega (arith, some, n) in
    let place : p ≡ i % length ks =
    round ∙ ap (λ m. l % m) n ∙ ap (λ m. m % length ks) left ∙ sym (mod-eq-sub-mod {n = i} {m = length ks} (omega (arith, h))) in
    let within : i % length ks < length ks = mod-lt i few in
    at ∙ ap (λ m. break_value (at_place ks m)) place ∙ found ks (i % length ks) within

-- 5. A station

pub delivery-first : (P : Key → Bool) (mail nodes all : List Key) (k : Key) → Some k ≡ find P mail → all ≡ mail ++ nodes
    → Some k ≡ find P all
delivery-first P mail nodes all k is keys =
    ap (λ o. or_else o (find P nodes)) is ∙ sym (find-append P mail nodes) ∙ ap (find P) (sym keys)

pub node-next : (P : Key → Bool) (mail nodes all : List Key) (r : Option Key) → None ≡ find P mail → r ≡ find P nodes → all ≡ mail ++ nodes
    → r ≡ find P all
node-next P mail nodes all r none is keys =
    is ∙ ap (λ o. or_else o (find P nodes)) none ∙ sym (find-append P mail nodes) ∙ ap (find P) (sym keys)
