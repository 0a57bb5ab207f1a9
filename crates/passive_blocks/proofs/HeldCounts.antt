-- How often numbers stand on chains, and how many stand on them in all.
use Rattle.std.proofs.Common.{◌≡◌, ℕ, suc, zero, ◌+◌, ◌-◌, ◌≤◌, ◌<◌, ◌/◌, Bool, true, false, ◌||◌, ◌&&◌, ◌==◌, List, [], ◌∷◌}
use Rattle.std.proofs.Common.{◌++◌}
use Rattle.std.proofs.Common.{length, take, eq-eqb, refl, sym, ap, ◌∙◌, arith, inl, inr}
use Rattle.std.specs.Prelude.{filter, slice_index, nat_lt, max, sum_by, if◌then◌else◌}
use Rattle.std.proofs.lemmas.Bool.{false≢true, cases_eq, cases_lt, ne_eqb, or_left, or_right, lt-ltb, le-ltb}
use Rattle.std.proofs.lemmas.List.Sums.{sum_by-cons}
use Rattle.block_tables.specs.Blocks.{Head, numbers, has, is_data, data_count, blocks_of}
use Rattle.block_tables.specs.BlockState.{walk}
use Rattle.passive_blocks.specs.HeldState.{times, one_if, behind_walk, chain_by}

one_step : (x k : ℕ) (b : Bool) (ks : List ℕ) → length (if b then x ∷ ks else ks) ≡ one_if b + length ks
one_step x k true ks = omega arith
one_step x k false ks = omega arith

-- of a list with one more in front
pub times_step : (k x : ℕ) (xs : List ℕ) → times k (x ∷ xs) ≡ one_if (x == k) + times k xs
times_step k x xs = one_step x k (x == k) (filter (λ b. b == k) xs)

pub some_times : (k : ℕ) (xs : List ℕ) → has k xs ≡ true → 1 ≤ times k xs
some_times k [] there = absurd (false≢true there)
some_times k (x ∷ xs) there = go (x == k) refl (some_times k xs)
  where
    go : (b : Bool) → (x == k) ≡ b → (has k xs ≡ true → 1 ≤ times k xs) → 1 ≤ times k (x ∷ xs)
    go true is behind = omega (arith, times_step k x xs, ap one_if is)
    go false is behind =
        omega (arith, times_step k x xs, behind (sym (ap (λ c. c || has k xs) is) ∙ there))

pub no_times : (k : ℕ) (xs : List ℕ) → has k xs ≡ false → times k xs ≡ 0
no_times k [] none = omega arith
no_times k (x ∷ xs) none = go (x == k) refl (no_times k xs)
  where
    go : (b : Bool) → (x == k) ≡ b → (has k xs ≡ false → times k xs ≡ 0) → times k (x ∷ xs) ≡ 0
    go true is behind = absurd (false≢true (sym none ∙ ap (λ c. c || has k xs) is))
    go false is behind = omega (arith, times_step k x xs, ap one_if is, behind (sym (ap (λ c. c || has k xs) is) ∙ none))

pub has_times : (k : ℕ) (xs : List ℕ) → 1 ≤ times k xs → has k xs ≡ true
has_times k xs some = go (has k xs) refl
  where
    go : (b : Bool) → has k xs ≡ b → has k xs ≡ true
    go true is = is
    go false is = absurd (omega (arith, some, no_times k xs is))

-- what stands there at most once stands there once or not
pub once : (k : ℕ) (xs : List ℕ) → times k xs ≤ 1 → times k xs ≡ one_if (has k xs)
once k xs most = go (has k xs) refl
  where
    go : (b : Bool) → has k xs ≡ b → times k xs ≡ one_if (has k xs)
    go true is = omega (arith, most, some_times k xs is, ap one_if is)
    go false is = omega (arith, no_times k xs is, ap one_if is)

-- A walk depends on what stands behind its blocks alone.
pub walk_stays : (next new : List ℕ) (block n : ℕ) → ((k : ℕ) → has k (walk next block n) ≡ true → slice_index new k ≡ slice_index next k)
    → walk new block n ≡ walk next block n
unfolding walk
walk_stays next new block zero same = refl
walk_stays next new block (suc n) same =
    ap (λ b. block ∷ walk new b n) (same block (or_left (block == block) (has block (walk next (slice_index next block) n))
    (eq-eqb block block refl)))
    ∙ ap (λ bs. block ∷ bs) (walk_stays next new (slice_index next block) n (λ k there.
    same k (or_right (block == k) (has k (walk next (slice_index next block) n)) there)))

pub behind_stays : (next new : List ℕ) (block n : ℕ) → ((k : ℕ) → has k (walk next block n) ≡ true → slice_index new k ≡ slice_index next k)
    → behind_walk new block n ≡ behind_walk next block n
unfolding walk behind_walk
behind_stays next new block zero same = refl
behind_stays next new block (suc n) same =
    ap (λ b. behind_walk new b n) (same block (or_left (block == block) (has block (walk next (slice_index next block) n))
    (eq-eqb block block refl)))
    ∙ behind_stays next new (slice_index next block) n (λ k there.
    same k (or_right (block == k) (has k (walk next (slice_index next block) n)) there))

pub walk_long : (next : List ℕ) (block n : ℕ) → length (walk next block n) ≡ n
unfolding walk
walk_long next block zero = refl
walk_long next block (suc n) = ap suc (walk_long next (slice_index next block) n)

-- one step further
pub walk_further : (next : List ℕ) (block n : ℕ) → walk next block (suc n) ≡ walk next block n ++ behind_walk next block n ∷ []
unfolding walk behind_walk
walk_further next block zero = refl
walk_further next block (suc n) = ap (λ bs. block ∷ bs) (walk_further next (slice_index next block) n)

first_or : List ℕ → ℕ
first_or [] = 0
first_or (x ∷ xs) = x

rest_or : List ℕ → List ℕ
rest_or [] = []
rest_or (x ∷ xs) = xs

-- two lists of one length, each with one more behind it
pub same_parts : (xs ys : List ℕ) (x y : ℕ) → length xs ≡ length ys → xs ++ x ∷ [] ≡ ys ++ y ∷ [] → (xs ≡ ys) × (x ≡ y)
unfolding first_or rest_or
same_parts [] [] x y long same = (refl, ap first_or same)
same_parts [] (b ∷ ys) x y long same = absurd (omega (arith, long))
same_parts (a ∷ xs) [] x y long same = absurd (omega (arith, long))
same_parts (a ∷ xs) (b ∷ ys) x y long same =
    let rest = same_parts xs ys x y (omega (arith, long)) (ap rest_or same) in
    (ap (λ c. c ∷ xs) (ap first_or same) ∙ ap (λ cs. b ∷ cs) rest.0, rest.1)

pub sum_two : (f g : ℕ → ℕ) (ks : List ℕ) → sum_by (λ k. f k + g k) ks ≡ sum_by f ks + sum_by g ks
sum_two f g [] = omega arith
sum_two f g (k ∷ ks) =
    omega (arith, sum_two f g ks, sum_by-cons (λ j. f j + g j) k ks, sum_by-cons f k ks, sum_by-cons g k ks)

pub sum_same : (f g : ℕ → ℕ) (ks : List ℕ) → ((k : ℕ) → f k ≡ g k) → sum_by f ks ≡ sum_by g ks
sum_same f g [] same = refl
sum_same f g (k ∷ ks) same =
    sum_by-cons f k ks ∙ ap (λ n. n + sum_by f ks) (same k) ∙ ap (λ n. g k + n) (sum_same f g ks same) ∙ sym (sum_by-cons g k ks)

pub sum_ones : (p : ℕ → Bool) (ks : List ℕ) → sum_by (λ k. one_if (p k)) ks ≡ length (filter p ks)
sum_ones p [] = omega arith
sum_ones p (k ∷ ks) = omega (arith, sum_by-cons (λ j. one_if (p j)) k ks, one_step k k (p k) (filter p ks), sum_ones p ks)

sum_none : (ks : List ℕ) → sum_by (λ k. 0) ks ≡ 0
sum_none [] = omega arith
sum_none (k ∷ ks) = omega (arith, sum_by-cons (λ j. 0) k ks, sum_none ks)

-- so many numbers from one on: one of them stands there once
count_low : (x from n : ℕ) → x < from → length (filter (λ k. x == k) (numbers from n)) ≡ 0
unfolding numbers
count_low x from zero low = omega arith
count_low x from (suc n) low =
    omega (
      arith,
      one_step from from (x == from) (filter (λ k. x == k) (numbers (from + 1) n)),
      ap one_if (ne_eqb x from (λ same. omega (arith, same, low))),
      count_low x (from + 1) n (omega (arith, low)),
    )

count_one : (x from n : ℕ) → from ≤ x → x < from + n → length (filter (λ k. x == k) (numbers from n)) ≡ 1
unfolding numbers
count_one x from zero above below = absurd (omega (arith, above, below))
count_one x from (suc n) above below = elim (cases_eq x from) [
  | inl same ↦ omega (
    arith,
    one_step from from (x == from) (filter (λ k. x == k) (numbers (from + 1) n)),
    ap one_if (eq-eqb x from same),
    count_low x (from + 1) n (omega (arith, same)),
  )
  | inr other ↦ omega (
    arith,
    one_step from from (x == from) (filter (λ k. x == k) (numbers (from + 1) n)),
    ap one_if (ne_eqb x from other),
    count_one x (from + 1) n (omega (arith, above, other)) (omega (arith, below)),
  )
]

pub sum_times : (xs : List ℕ) (n : ℕ) → ((k : ℕ) → 1 ≤ times k xs → k < n) → sum_by (λ k. times k xs) (numbers 0 n) ≡ length xs
sum_times [] n within = sum_same (λ k. times k []) (λ k. 0) (numbers 0 n) (λ k. omega arith) ∙ sum_none (numbers 0 n)
sum_times (x ∷ xs) n within =
    let here : x < n = within x (omega (arith, times_step x x xs, ap one_if (eq-eqb x x refl))) in
    omega (
      arith,
      sum_same (λ k. times k (x ∷ xs)) (λ k. one_if (x == k) + times k xs) (numbers 0 n) (λ k. times_step k x xs),
      sum_two (λ k. one_if (x == k)) (λ k. times k xs) (numbers 0 n),
      sum_ones (λ k. x == k) (numbers 0 n),
      count_one x 0 n (omega arith) (omega (arith, here)),
      sum_times xs n (λ k some. within k (omega (arith, times_step k x xs, some))),
    )

-- of numbers up to one, how many are above another
count_between : (a b from n : ℕ) → from + n ≡ b → length (filter (λ k. nat_lt a k && nat_lt k b) (numbers from n)) ≡ b - max from (suc a)
unfolding numbers
count_between a b from zero long = omega (arith, long)
count_between a b from (suc n) long =
    let rest = count_between a b (from + 1) n (omega (arith, long)) in
    let below : nat_lt from b ≡ true = lt-ltb from b (omega (arith, long)) in
    elim (cases_lt a from) [
      | inl less ↦ omega (
        arith,
        one_step from from (nat_lt a from && nat_lt from b) (filter (λ k. nat_lt a k && nat_lt k b) (numbers (from + 1) n)),
        ap (λ c. one_if (c && nat_lt from b)) (lt-ltb a from less),
        ap one_if below,
        rest,
        long,
      )
      | inr more ↦ omega (
        arith,
        one_step from from (nat_lt a from && nat_lt from b) (filter (λ k. nat_lt a k && nat_lt k b) (numbers (from + 1) n)),
        ap (λ c. one_if (c && nat_lt from b)) (le-ltb a from more),
        rest,
        long,
      )
    ]

pub count_data : (size : ℕ) → length (filter (is_data size) (numbers 0 (size / 1024))) ≡ data_count size
count_data size = omega (arith, count_between (size / 32768) (size / 1024) 0 (size / 1024) (omega arith))

-- The same of the chains of some heads.
pub chains_stay : (next new : List ℕ) (hs : List Head)
    → ((k : ℕ) → 1 ≤ sum_by (λ (h : Head). times k (chain_by next h)) hs → slice_index new k ≡ slice_index next k) →
    (k : ℕ) → sum_by (λ (h : Head). times k (chain_by new h)) hs ≡ sum_by (λ (h : Head). times k (chain_by next h)) hs
chains_stay next new [] same k = refl
chains_stay next new (h ∷ hs) same k =
    let chain : chain_by new h ≡ chain_by next h =
    walk_stays next new h.first (blocks_of h.size) (λ j there.
    same j (omega (arith, sum_by-cons (λ (g : Head). times j (chain_by next g)) h hs, some_times j (chain_by next h) there))) in
    let rest = chains_stay next new hs (λ j some. same j (omega (
      arith,
      sum_by-cons (λ (g : Head). times j
          (chain_by next g)) h hs,
      some,
    ))) k in
    omega (
      arith,
      sum_by-cons (λ (g : Head). times k (chain_by new g)) h hs,
      sum_by-cons (λ (g : Head). times k (chain_by next g)) h hs,
      ap (times k) chain,
      rest,
    )

-- All blocks on the chains of some heads, where they are below a bound, are as many as their values take.
pub chains_count : (next : List ℕ) (hs : List Head) (n : ℕ) → ((k : ℕ) → 1 ≤ sum_by (λ (h : Head). times k (chain_by next h)) hs → k < n)
    → sum_by (λ k. sum_by (λ (h : Head). times k (chain_by next h)) hs) (numbers 0 n) ≡ sum_by (λ (h : Head). blocks_of h.size) hs
chains_count next [] n within = sum_same (λ k. sum_by (λ (h : Head). times k (chain_by next h)) []) (λ k. 0) (numbers 0 n)
    (λ k. omega arith)
    ∙ sum_none (numbers 0 n)
chains_count next (h ∷ hs) n within =
    omega (
      arith,
      sum_same (λ k. sum_by (λ (g : Head). times k (chain_by next g)) (h ∷ hs))
          (λ k. times k (chain_by next h) + sum_by (λ (g : Head). times k (chain_by next g)) hs) (numbers 0 n)
          (λ k. sum_by-cons (λ (g : Head). times k (chain_by next g)) h hs),
      sum_two (λ k. times k (chain_by next h)) (λ k. sum_by (λ (g : Head). times k (chain_by next g)) hs) (numbers 0 n),
      sum_times (chain_by next h) n (λ k some.
          within k (omega (arith, sum_by-cons (λ (g : Head). times k (chain_by next g)) h hs, some))),
      walk_long next h.first (blocks_of h.size),
      chains_count next hs n (λ k some. within k (omega (arith, sum_by-cons (λ (g : Head). times k (chain_by next g)) h hs, some))),
      sum_by-cons (λ (g : Head). blocks_of g.size) h hs,
    )

low_step : (k from : ℕ) (b : Bool) (rest : List ℕ) → k < from → times k rest ≡ 0 → times k (if b then from ∷ rest else rest) ≡ 0
low_step k from true rest low none =
    omega (arith, times_step k from rest, ap one_if (ne_eqb from k (λ same. omega (arith, same, low))), none)
low_step k from false rest low none = none

times_low : (p : ℕ → Bool) (k from n : ℕ) → k < from → times k (filter p (numbers from n)) ≡ 0
unfolding numbers
times_low p k from zero low = omega arith
times_low p k from (suc n) low =
    low_step k from (p from) (filter p (numbers (from + 1) n)) low (times_low p k (from + 1) n (omega (arith, low)))

among_step : (k from : ℕ) (b q : Bool) (rest : List ℕ) → (from ≡ k → (b ≡ q) × (times k rest ≡ 0)) → times k rest ≤ one_if q
    → times k (if b then from ∷ rest else rest) ≤ one_if q
among_step k from true q rest same less = elim (cases_eq from k) [
  | inl e ↦ omega (arith, times_step k from rest, ap one_if (eq-eqb from k e), (same e).1, ap one_if (same e).0)
  | inr other ↦ omega (arith, times_step k from rest, ap one_if (ne_eqb from k other), less)
]
among_step k from false q rest same less = less

-- of numbers that pass a test each stands there once, and no other does
pub times_among : (p : ℕ → Bool) (k from n : ℕ) → times k (filter p (numbers from n)) ≤ one_if (p k)
unfolding numbers
times_among p k from zero = omega arith
times_among p k from (suc n) =
    among_step k from (p from) (p k) (filter p (numbers (from + 1) n))
    (λ same. (ap p same, times_low p k (from + 1) n (omega (arith, same)))) (times_among p k (from + 1) n)

pub times_take : (k i : ℕ) (xs : List ℕ) → times k (take i xs) ≤ times k xs
times_take k zero [] = omega arith
times_take k zero (x ∷ xs) = omega arith
times_take k (suc i) [] = omega arith
times_take k (suc i) (x ∷ xs) = omega (arith, times_step k x (take i xs), times_step k x xs, times_take k i xs)
