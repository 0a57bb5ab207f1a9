-- Loops over calls.
use Rattle.std.proofs.Common.{◌≡◌, ◌+◌, ◌<◌, ℕ, zero, suc, List, [], ◌∷◌, ◌++◌, map, Option, None, Some, refl, ap, sym, ◌∙◌, arith}
use Rattle.std.proofs.Common.{append_assoc, drop, length, get_or, slice_set}
use Rattle.std.proofs.lemmas.List.{drop_more}
use Rattle.std.specs.List.{cons_option}
use Rattle.capability.specs.declared.Uid.{Uid}
use Rattle.eden_model.specs.Traffic as traffic
use Rattle.plain_calls.specs.declared.call.Among.{Among}
use Rattle.plain_calls.specs.declared.call.Call.{Call}
use Rattle.plain_calls.specs.View.{call_of, numbered, hits_of}
use Rattle.plain_calls.specs.Changes.{listed, name_among, process_among}

-- 1. Each of the first items changed

abbrev pub changed_front : {X : Type 0} → ℕ → (X → X) → List X → List X
changed_front zero f xs = xs
changed_front (suc k) f [] = []
changed_front (suc k) f (x ∷ xs) = f x ∷ changed_front k f xs

pub changed-all : {X : Type 0} (f : X → X) (xs : List X) → changed_front (length xs) f xs ≡ map f xs
changed-all f [] = refl
changed-all f (x ∷ xs) = ap (λ l. f x ∷ l) (changed-all f xs)

pub changed-more : {X : Type 0} (k : ℕ) (f : X → X) (d : X) (xs : List X) → k < length xs
    → slice_set (changed_front k f xs) k (f (get_or (changed_front k f xs) k d)) ≡ changed_front (suc k) f xs
changed-more k f d [] lt = absurd (omega (arith, lt))
changed-more zero f d (x ∷ xs) lt = refl
changed-more (suc k) f d (x ∷ xs) lt = ap (λ l. f x ∷ l) (changed-more k f d xs (omega (arith, lt)))

-- 2. What a loop over the calls has listed, and what is left

pub names-left : (among : Among) (k : ℕ) (c : traffic.Call) (cs : List traffic.Call) (t : List ℕ)
    → traffic.names_of (hits_of among) (record { calls = numbered k (c ∷ cs); transit = t })
    ≡ listed (name_among among c) ++ traffic.names_of (hits_of among) (record { calls = numbered (suc k) cs; transit = t })
names-left among k c cs t = go (name_among among c)
  where
    go : (o : Option (List ℕ)) → cons_option o (traffic.names_of (hits_of among) (record { calls = numbered (suc k) cs; transit = t }))
        ≡ listed o ++ traffic.names_of (hits_of among) (record { calls = numbered (suc k) cs; transit = t })
    go None = refl
    go (Some x) = refl

pub processes-left : (among : Among) (k : ℕ) (c : traffic.Call) (cs : List traffic.Call) (t : List ℕ)
    → traffic.processes_of (hits_of among) (record { calls = numbered k (c ∷ cs); transit = t })
    ≡ listed (process_among among c) ++ traffic.processes_of (hits_of among) (record { calls = numbered (suc k) cs; transit = t })
processes-left among k c cs t = go (process_among among c)
  where
    go : (o : Option (Uid × ℕ)) → cons_option o (traffic.processes_of (hits_of among) (record { calls = numbered (suc k) cs; transit = t }))
        ≡ listed o ++ traffic.processes_of (hits_of among) (record { calls = numbered (suc k) cs; transit = t })
    go None = refl
    go (Some x) = refl

-- 3. Each call closed

length-front : {X : Type 0} (k : ℕ) (f : X → X) (xs : List X) → length (changed_front k f xs) ≡ length xs
length-front zero f xs = refl
length-front (suc k) f [] = refl
length-front (suc k) f (x ∷ xs) = ap suc (length-front k f xs)

pub length-map : {X Y : Type 0} (f : X → Y) (xs : List X) → length (map f xs) ≡ length xs
length-map f [] = refl
length-map f (x ∷ xs) = ap suc (length-map f xs)

pub map-set : {X Y : Type 0} (f : X → Y) (n : ℕ) (x : X) (xs : List X) → map f (slice_set xs n x) ≡ slice_set (map f xs) n (f x)
map-set f n x [] = refl
map-set f zero x (y ∷ ys) = refl
map-set f (suc n) x (y ∷ ys) = ap (λ l. f y ∷ l) (map-set f n x ys)

get-map : {X Y : Type 0} (f : X → Y) (n : ℕ) (d : X) (xs : List X) → get_or (map f xs) n (f d) ≡ f (get_or xs n d)
get-map f n d [] = refl
get-map f zero d (x ∷ xs) = refl
get-map f (suc n) d (x ∷ xs) = get-map f n d xs

-- the list is as long as it was
pub as-long : {X Y : Type 0} (v : X → Y) (f : Y → Y) (k : ℕ) (xs start : List X) → map v xs ≡ changed_front k f (map v start)
    → length xs ≡ length start
as-long v f k xs start is = sym (length-map v xs) ∙ (ap length is ∙ (length-front k f (map v start) ∙ length-map v start))

-- one more is changed
pub one-more : {X Y : Type 0} (v : X → Y) (f : Y → Y) (k : ℕ) (xs start : List X) (old new : X) → map v xs ≡ changed_front k f (map v start)
    → old ≡ get_or xs k old → v new ≡ f (v old) → k < length start → map v (slice_set xs k new) ≡ changed_front (k + 1) f (map v start)
one-more v f k xs start old new is read same less =
    let e : suc k ≡ k + 1 = omega arith in
    let here : v old ≡ get_or (changed_front k f (map v start)) k (v old) =
    ap v read ∙ (sym (get-map v k old xs) ∙ ap (λ l. get_or l k (v old)) is) in
    map-set v k new xs ∙ (ap (λ l. slice_set l k (v new)) is ∙ (ap (slice_set (changed_front k f (map v start)) k) (same ∙ ap f here)
    ∙ (changed-more k f (v old) (map v start) (omega (arith, less, length-map v start)) ∙ ap (λ n. changed_front n f (map v start)) e)))

-- 4. One more call looked at

pub names-step : (among : Among) (k : ℕ) (cs : List Call) (c : Call) (so new all : List (List ℕ)) (t : List ℕ) → k < length cs
    → c ≡ get_or cs k c → new ≡ so ++ listed (name_among among (call_of c))
    → so ++ traffic.names_of (hits_of among) (record { calls = numbered (suc k) (map call_of (drop k cs)); transit = t }) ≡ all
    → new ++ traffic.names_of (hits_of among) (record { calls = numbered (suc (k + 1)) (map call_of (drop (k + 1) cs)); transit = t }) ≡ all
names-step among k cs c so new all t less read is sofar =
    let left : drop k cs ≡ c ∷ drop (k + 1) cs = drop_more cs k c less ∙ ap (λ x. x ∷ drop (k + 1) cs) (sym read) in
    let e : suc (suc k) ≡ suc (k + 1) = omega arith in
    let behind : List (List ℕ) = traffic.names_of (hits_of among)
    (record { calls = numbered (suc (k + 1)) (map call_of (drop (k + 1) cs)); transit = t }) in
    ap (λ l. l ++ behind) is ∙ (append_assoc so (listed (name_among among (call_of c))) behind ∙ (ap (λ l. so ++ l)
    (ap (λ n. listed (name_among among (call_of c)) ++ traffic.names_of (hits_of among)
    (record { calls = numbered n (map call_of (drop (k + 1) cs)); transit = t })) (sym e)
    ∙ (sym (names-left among (suc k) (call_of c) (map call_of (drop (k + 1) cs)) t)
    ∙ ap (λ l. traffic.names_of (hits_of among) (record { calls = numbered (suc k) (map call_of l); transit = t })) (sym left))) ∙ sofar))

pub processes-step : (among : Among) (k : ℕ) (cs : List Call) (c : Call) (so new all : List (Uid × ℕ)) (t : List ℕ) → k < length cs
    → c ≡ get_or cs k c → new ≡ so ++ listed (process_among among (call_of c))
    → so ++ traffic.processes_of (hits_of among) (record { calls = numbered (suc k) (map call_of (drop k cs)); transit = t }) ≡ all
    → new ++ traffic.processes_of (hits_of among) (record { calls = numbered (suc (k + 1)) (map call_of (drop (k + 1) cs)); transit = t })
    ≡ all
processes-step among k cs c so new all t less read is sofar =
    let left : drop k cs ≡ c ∷ drop (k + 1) cs = drop_more cs k c less ∙ ap (λ x. x ∷ drop (k + 1) cs) (sym read) in
    let e : suc (suc k) ≡ suc (k + 1) = omega arith in
    let behind : List (Uid × ℕ) = traffic.processes_of (hits_of among)
    (record { calls = numbered (suc (k + 1)) (map call_of (drop (k + 1) cs)); transit = t }) in
    ap (λ l. l ++ behind) is ∙ (append_assoc so (listed (process_among among (call_of c))) behind ∙ (ap (λ l. so ++ l)
    (ap (λ n. listed (process_among among (call_of c)) ++ traffic.processes_of (hits_of among)
    (record { calls = numbered n (map call_of (drop (k + 1) cs)); transit = t })) (sym e)
    ∙ (sym (processes-left among (suc k) (call_of c) (map call_of (drop (k + 1) cs)) t)
    ∙ ap (λ l. traffic.processes_of (hits_of among) (record { calls = numbered (suc k) (map call_of l); transit = t })) (sym left)))
    ∙ sofar))
