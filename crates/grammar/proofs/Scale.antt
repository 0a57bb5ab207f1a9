-- Reading a number a byte at a time.
use Rattle.std.proofs.Common.{◌≡◌, ◌≢◌, ℕ, suc, ◌+◌, ◌-◌, ◌*◌, ◌/◌, ◌^◌, ◌<◌, ◌≤◌, List, [], ◌∷◌, length, get_or, take, drop}
use Rattle.std.proofs.Common.{if◌then◌else◌, Err, zero-le, refl, ap, sym, ◌∙◌, arith, subst}
use Rattle.std.proofs.Math.Nat.{pow-suc, mul-le-mul_left, mul-le-mul_right, pow-le-pow_right, div-lt_iff_lt-mul, le-div_iff_mul-le}
use Rattle.grammar.specs.Numbers.{number_from}
use Rattle.grammar.proofs.Numbers.{pow_above, test_true, test_false}

pub suc_of : (w : ℕ) → w ≢ 0 → w ≡ suc (w - 1)
suc_of w h = omega arith

pub pow_of : (w : ℕ) → w ≢ 0 → 256 ^ w ≡ 256 ^ (w - 1) * 256
pow_of w h = ap (λ n. 256 ^ n) (suc_of w h) ∙ pow-suc 256 (w - 1)

module _ (w v : ℕ) (h : w ≢ 0) (room : (v + 1) * 256 ^ w ≤ 2 ^ 64) where
  room_of : (v + 1) * (256 ^ (w - 1) * 256) ≤ 2 ^ 64
  room_of = subst (λ p. (v + 1) * p ≤ 2 ^ 64) (pow_of w h) room

  room_at : (p : ℕ) → 0 < p → (v + 1) * (p * 256) ≤ 2 ^ 64 → (v * 256 + 256 ≤ 2 ^ 64) × (p < 2 ^ 64)
  room_at p q r =
      let a : (v * 256 + 256) * 1 ≤ (v * 256 + 256) * p = mul-le-mul_left (v * 256 + 256) q in
      let b : 0 * p ≤ v * p = mul-le-mul_right p zero-le in
      (omega arith, omega arith)

  pub scale_fits : 256 ^ (w - 1) < 2 ^ 64
  scale_fits = (room_at (256 ^ (w - 1)) (pow_above (w - 1)) room_of).1

  pub next_fits : v * 256 + 256 ≤ 2 ^ 64
  next_fits = (room_at (256 ^ (w - 1)) (pow_above (w - 1)) room_of).0

  pub next_room : (b : ℕ) → b < 256 → (v * 256 + b + 1) * 256 ^ (w - 1) ≤ 2 ^ 64
  next_room b q =
      let m : suc b * 256 ^ (w - 1) ≤ 256 * 256 ^ (w - 1) = mul-le-mul_right (256 ^ (w - 1)) q in
      omega (arith, room_of)

-- the two tests of the code are that the next digits can be within the bounds
div_le : (a p b : ℕ) → 0 < p → b ≤ a / p → b * p ≤ a
div_le a p b q h = (le-div_iff_mul-le {k = p} q).0 h

le_div : (a p b : ℕ) → 0 < p → b * p ≤ a → b ≤ a / p
le_div a p b q h = (le-div_iff_mul-le {k = p} q).1 h

module _ (least most k v b : ℕ) (rest : List ℕ) where
  goes_on : b < 256 → v * 256 + b ≤ most / 256 ^ k → least / 256 ^ k ≤ v * 256 + b
      → number_from least most (suc k) v (b ∷ rest) ≡ number_from least most k (v * 256 + b) rest
  goes_on q high low =
      let p : 0 < 256 ^ k = pow_above k in
      let l : least < (v * 256 + b + 1) * 256 ^ k = (div-lt_iff_lt-mul {x = least} {y = v * 256 + b + 1} p).0 (omega arith) in
      ap (λ c. if c then number_from least most k (v * 256 + b) rest else Err (suc (length rest)))
      (test_true least most k v b q (div_le most (256 ^ k) (v * 256 + b) p high, l))

  stops : (v * 256 + b ≤ most / 256 ^ k → least / 256 ^ k ≤ v * 256 + b → ⊥)
      → number_from least most (suc k) v (b ∷ rest) ≡ Err (suc (length rest))
  stops fails =
      let p : 0 < 256 ^ k = pow_above k in
      ap (λ c. if c then number_from least most k (v * 256 + b) rest else Err (suc (length rest)))
      (test_false least most k v b (λ r. fails (le_div most (256 ^ k) (v * 256 + b) p r.0)
      (let l : least / 256 ^ k < v * 256 + b + 1 = (div-lt_iff_lt-mul {x = least} {y = v * 256 + b + 1} p).1 r.1 in omega arith)))

take_whole : (l : List ℕ) → take (length l) l ≡ l
take_whole [] = refl
take_whole (a ∷ l) = ap (λ m. a ∷ m) (take_whole l)

rest_is : (l : List ℕ) → take (suc (length l) - 1) l ≡ l
rest_is l = let e : suc (length l) - 1 ≡ length l = omega arith in ap (λ n. take n l) e ∙ take_whole l

module _ (least most w v b s : ℕ) (h : w ≢ 0) (e : s ≡ 256 ^ (w - 1)) where
  pub goes_on_at : (bytes : List ℕ) → 1 ≤ length bytes → b ≡ get_or bytes 0 0 → b < 256 → v * 256 + b ≤ most / s → least / s ≤ v * 256 + b
      → number_from least most w v bytes ≡ number_from least most (w - 1) (v * 256 + b) (take (length bytes - 1) (drop 1 bytes))
  goes_on_at [] l f q high low = absurd (omega arith)
  goes_on_at (a ∷ rest) l f q high low =
      ap (λ n. number_from least most n v (a ∷ rest)) (suc_of w h) ∙ ap (λ x. number_from least most (suc (w - 1)) v (x ∷ rest)) (sym f)
      ∙ goes_on least most (w - 1) v b rest q (subst (λ p. v * 256 + b ≤ most / p) e high) (subst (λ p. least / p ≤ v * 256 + b) e low)
      ∙ ap (λ l. number_from least most (w - 1) (v * 256 + b) l) (sym (rest_is rest))

  pub stops_at : (bytes : List ℕ) → 1 ≤ length bytes → b ≡ get_or bytes 0 0 → (v * 256 + b ≤ most / s → least / s ≤ v * 256 + b → ⊥)
      → number_from least most w v bytes ≡ Err (length bytes)
  stops_at [] l f fails = absurd (omega arith)
  stops_at (a ∷ rest) l f fails =
      ap (λ n. number_from least most n v (a ∷ rest)) (suc_of w h) ∙ ap (λ x. number_from least most (suc (w - 1)) v (x ∷ rest)) (sym f)
      ∙ stops least most (w - 1) v b rest (λ high low. fails (subst (λ p. v * 256 + b ≤ most / p) (sym e) high)
      (subst (λ p. least / p ≤ v * 256 + b) (sym e) low))

pub eight_bytes : (w : ℕ) → w ≤ 8 → (0 + 1) * 256 ^ w ≤ 2 ^ 64
eight_bytes w h =
    let m : 256 ^ w ≤ 256 ^ 8 = pow-le-pow_right {n = 256} (omega arith) h in
    omega arith
