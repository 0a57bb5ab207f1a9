-- Draws behind draws, and rounds behind rounds.
use Rattle.std.proofs.Common.{◌≡◌, ℕ, zero, suc, ◌+◌, ◌++◌, sym, ◌∙◌, ap, append_assoc, append-nil, add-one, add-suc, arith}
use Rattle.std.specs.List.{flat_map, range_with_len}
use Rattle.eden_gen.specs.Generated.{Text, after, random, picked, drawn, chosen_text, round_text, draws_in, draws_before}
use Rattle.eden_gen.specs.Generated.{rounds_text, creations_text, create_text}

-- the numbers behind a random number go on as those of the seed
pub random_behind : (seed k j : ℕ) → random (random seed k) j ≡ random seed (k + j)
random_behind seed k zero = ap (random seed) (let e : k ≡ k + 0 = omega arith in e)
random_behind seed k (suc j) = ap after (random_behind seed k j) ∙ sym (ap (random seed) (add-suc k j))

flat_map_last : (f : ℕ → Text) (a n : ℕ) → flat_map f (range_with_len a (suc n)) ≡ flat_map f (range_with_len a n) ++ f (a + n)
flat_map_last f a zero = append-nil (f a) ∙ ap f (let e : a ≡ a + 0 = omega arith in e)
flat_map_last f a (suc n) =
    ap (λ l. f a ++ l) (flat_map_last f (a + 1) n) ∙ sym (append_assoc (f a) (flat_map f (range_with_len (a + 1) n)) (f (a + 1 + n)))
    ∙ ap (λ m. (f a ++ flat_map f (range_with_len (a + 1) n)) ++ f m) (let e : a + 1 + n ≡ a + suc n = omega arith in e)

flat_map_front : (f : ℕ → Text) (n : ℕ) → flat_map f (range_with_len 0 (suc n)) ≡ flat_map f (range_with_len 0 n) ++ f n
flat_map_front f n = flat_map_last f 0 n ∙ ap (λ m. flat_map f (range_with_len 0 n) ++ f m) (let e : 0 + n ≡ n = omega arith in e)

pub creations_more : (old : Text) (n : ℕ) → (old ++ creations_text n) ++ create_text (n + 1) ≡ old ++ creations_text (n + 1)
unfolding creations_text
creations_more old n =
    append_assoc old (flat_map create_text (range_with_len 1 n)) (create_text (n + 1))
    ∙ ap (λ l. old ++ l) (ap (λ m. flat_map create_text (range_with_len 1 n) ++ create_text m) (let e : n + 1 ≡ 1 + n = omega arith in e)
    ∙ sym (flat_map_last create_text 1 n) ∙ ap (λ m. flat_map create_text (range_with_len 1 m)) (sym (add-one n)))

drawn_behind : (seed k j m : ℕ) → drawn (random seed k) j m ≡ drawn seed (k + j) m
drawn_behind seed k j m = ap (λ x. picked (after x) m) (random_behind seed k j)

chosen_alike : (round a b c v w : ℕ) → b ≡ c → v ≡ w → chosen_text round a (b + 1) v ≡ chosen_text round a (c + 1) w
chosen_alike round a b c v w p q = ap (λ x. chosen_text round a (x + 1) v) p ∙ ap (chosen_text round a (c + 1)) q

-- a round behind k draws is a first round of the random number that they leave
round_behind : (seed k round : ℕ) → round_text (random seed k) 0 round ≡ round_text seed k round
round_behind seed k round = chosen_alike round (drawn seed k 16) _ _ _ _ (drawn_behind seed k 1 6) (drawn_behind seed k 2 1000)

-- what the draws of a round leave
pub random_more : (seed n : ℕ) → let x = random seed (draws_before seed n) in
    random x (draws_in x 0) ≡ random seed (draws_before seed (n + 1))
random_more seed n =
    let k = draws_before seed n in
    random_behind seed k (draws_in seed k) ∙ ap (λ m. random seed (draws_before seed m)) (sym (add-one n))

pub rounds_none : (old : Text) (seed : ℕ) → old ++ rounds_text seed 0 ≡ old
unfolding rounds_text
rounds_none old seed = append-nil old

pub creations_none : (old : Text) → old ++ creations_text 0 ≡ old
unfolding creations_text
creations_none old = append-nil old

pub rounds_more : (old : Text) (seed n x : ℕ) → x ≡ random seed (draws_before seed n)
    → (old ++ rounds_text seed n) ++ round_text x 0 (n + 1) ≡ old ++ rounds_text seed (n + 1)
unfolding rounds_text
rounds_more old seed n x is =
    let f = λ (behind : ℕ). round_text seed (draws_before seed behind) (behind + 1) in
    let same : round_text x 0 (n + 1) ≡ f n = ap (λ y. round_text y 0 (n + 1)) is ∙ round_behind seed (draws_before seed n) (n + 1) in
    append_assoc old (flat_map f (range_with_len 0 n)) (round_text x 0 (n + 1))
    ∙ ap (λ l. old ++ l) (ap (λ l. flat_map f (range_with_len 0 n) ++ l) same ∙ sym (flat_map_front f n)
    ∙ ap (λ m. flat_map f (range_with_len 0 m)) (sym (add-one n)))
