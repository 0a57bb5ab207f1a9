-- Laws of the definitions of specs/Numbers.
use Rattle.std.specs.Prelude.{◌≡◌, ℕ, zero, suc, ◌+◌, ◌*◌, ◌/◌, ◌%◌, ◌^◌, ◌<◌, ◌≤◌, ◌&&◌, Bool, true, false, List, [], ◌∷◌, ◌++◌, length}
use Rattle.std.specs.Prelude.{Ok, Err, nat_lt, max, refl, if◌then◌else◌}
use Rattle.std.proofs.Common.{ap, sym, ◌∙◌, arith, subst}
use Rattle.std.proofs.lemmas.Bool.Decides.{nat_tests}
use Rattle.std.proofs.Math.Nat.{pow-succ', pow-suc, div-div-eq-div-mul, div-eq_of_lt-le, mul-le-mul_right}
use Rattle.std.specs.Int.{byte_at, bytes_high_first}
use Rattle.grammar.specs.Reading.{Reading}
use Rattle.grammar.specs.Grammar.{Begins}
use Rattle.grammar.proofs.Exact.{Taken, Stays, Stopped, Exact, ok_first, ok_rest}
use Rattle.grammar.specs.Numbers.{Digits, Number, NumberFrom, number_at, number_from, reaches}

-- ---- the digits of a number
-- the least and the greatest number that begin with v
bounds_step : (p v b : ℕ) → b < 256 → (v * (256 * p) ≤ (v * 256 + b) * p) × ((v * 256 + b + 1) * p ≤ (v + 1) * (256 * p))
bounds_step p v b h =
    let m : suc b * p ≤ 256 * p = mul-le-mul_right p h in
    (omega arith, omega arith)

Digits-bounds : (k v : ℕ) (bytes : List ℕ) (n : ℕ) → Digits k v bytes n → (v * 256 ^ k ≤ n) × (n < (v + 1) * 256 ^ k)
Digits-bounds zero v [] n d = (omega arith, omega arith)
Digits-bounds zero v (b ∷ bytes) n d = absurd d
Digits-bounds (suc k) v [] n d = absurd d
Digits-bounds (suc k) v (b ∷ bytes) n d =
    let s : (v * (256 * 256 ^ k) ≤ (v * 256 + b) * 256 ^ k)
    × ((v * 256 + b + 1) * 256 ^ k ≤ (v + 1) * (256 * 256 ^ k)) = bounds_step (256 ^ k) v b d.0 in
    let r : ((v * 256 + b) * 256 ^ k ≤ n) × (n < (v * 256 + b + 1) * 256 ^ k) = Digits-bounds k (v * 256 + b) bytes n d.1 in
    rw (pow-succ' 256 k) (omega arith, omega arith)

byte_is : (k n : ℕ) → byte_at k n ≡ n / 256 ^ k % 256
byte_is zero n = omega arith
byte_is (suc k) n = refl

above_byte : (k n : ℕ) → n / 256 ^ suc k * 256 + byte_at k n ≡ n / 256 ^ k
above_byte k n =
    let d : n / 256 ^ suc k ≡ n / 256 ^ k / 256 = ap (λ m. n / m) (pow-suc 256 k) ∙ sym (div-div-eq-div-mul n (256 ^ k) 256) in
    omega (arith, d, byte_is k n)

-- each number has its digits, behind what is left of them
pub has_digits : (k n : ℕ) → Digits k (n / 256 ^ k) (bytes_high_first k n) n
has_digits zero n = omega arith
has_digits (suc k) n = (
  omega (arith, byte_is k n),
  subst (λ v. Digits k v (bytes_high_first k n) n) (sym (above_byte k n)) (has_digits k n),
)

pub has_digits_from : (k v n : ℕ) → v * 256 ^ k ≤ n → n < (v + 1) * 256 ^ k → Digits k v (bytes_high_first k n) n
has_digits_from k v n low high = subst (λ u. Digits k u (bytes_high_first k n) n) (div-eq_of_lt-le (256 ^ k) low high) (has_digits k n)

first_digit : (b v q c : ℕ) → b < 256 → q ≡ v * 256 + b → c ≡ q % 256 → b ≡ c
first_digit b v q c h e f = omega arith

-- and no others
pub Digits-are : (k v : ℕ) (bytes : List ℕ) (n : ℕ) → Digits k v bytes n → bytes ≡ bytes_high_first k n
Digits-are zero v [] n d = refl
Digits-are zero v (b ∷ bytes) n d = absurd d
Digits-are (suc k) v [] n d = absurd d
Digits-are (suc k) v (b ∷ bytes) n d =
    let r : ((v * 256 + b) * 256 ^ k ≤ n) × (n < (v * 256 + b + 1) * 256 ^ k) = Digits-bounds k (v * 256 + b) bytes n d.1 in
    let q : n / 256 ^ k ≡ v * 256 + b = div-eq_of_lt-le (256 ^ k) r.0 r.1 in
    let e : b ≡ byte_at k n = first_digit b v (n / 256 ^ k) (byte_at k n) d.0 q (byte_is k n) in
    ap (λ c. c ∷ bytes) e ∙ ap (λ l. byte_at k n ∷ l) (Digits-are k (v * 256 + b) bytes n d.1)

-- ---- the reader is exact
-- v can begin a number within the bounds
abbrev pub Reaches : ℕ → ℕ → ℕ → ℕ → Type 0
Reaches least most k v = (v * 256 ^ k ≤ most) × (least < (v + 1) * 256 ^ k)

both_true : (a b : Bool) → (a && b) ≡ true → (a ≡ true) × (b ≡ true)
both_true true b e = (refl, e)
both_true false b e = absurd (cc)

true_both : (a b : Bool) → a ≡ true → b ≡ true → (a && b) ≡ true
true_both true b e f = f
true_both false b e f = absurd (cc)

reaches_means : (least most k v : ℕ) → reaches least most k v ≡ true → Reaches least most k v
reaches_means least most k v e = reaches_parts (v * 256 ^ k) most least ((v + 1) * 256 ^ k) (both_true _ _ e).0 (both_true _ _ e).1
  where
    reaches_parts : (a b c d : ℕ) → nat_lt a (suc b) ≡ true → nat_lt c d ≡ true → (a ≤ b) × (c < d)
    reaches_parts a b c d e f = (grind (arith, nat_tests), grind (arith, nat_tests))

reaches_holds : (least most k v : ℕ) → Reaches least most k v → reaches least most k v ≡ true
reaches_holds least most k v r = true_both _ _ (le_test (v * 256 ^ k) most r.0) (lt_test least ((v + 1) * 256 ^ k) r.1)
  where
    le_test : (a b : ℕ) → a ≤ b → nat_lt a (suc b) ≡ true
    le_test a b h = grind (arith, nat_tests)

    lt_test : (a b : ℕ) → a < b → nat_lt a b ≡ true
    lt_test a b h = grind (arith, nat_tests)

pub pow_above : (k : ℕ) → 0 < 256 ^ k
pow_above zero = omega arith
pow_above (suc k) = rw (pow-suc 256 k) (omega (arith, pow_above k))

next_above : (v p : ℕ) → 0 < p → v * p < (v + 1) * p
next_above v p h = omega arith

most_of : (a b c : ℕ) → a ≤ c → b ≤ c → max a b ≤ c
most_of a b c p q = omega arith

before_next : (a b c : ℕ) → a < c → b < c → max a b < c
before_next a b c p q = omega arith

pub test_true : (least most k v b : ℕ) → b < 256 → Reaches least most k (v * 256 + b)
    → (nat_lt b 256 && reaches least most k (v * 256 + b)) ≡ true
test_true least most k v b h r = let t : nat_lt b 256 ≡ true = grind (arith, nat_tests) in
    true_both _ _ t (reaches_holds least most k (v * 256 + b) r)

pub test_false : (least most k v b : ℕ) → (Reaches least most k (v * 256 + b) → ⊥)
    → (nat_lt b 256 && reaches least most k (v * 256 + b)) ≡ false
test_false least most k v b fails = not_true _ (λ e. fails (reaches_means least most k (v * 256 + b) (both_true _ _ e).1))
  where
    not_true : (c : Bool) → (c ≡ true → ⊥) → c ≡ false
    not_true true f = absurd (f refl)
    not_true false f = refl

module _ (least most : ℕ) (sound : least ≤ most) where
  number_begins : (k v : ℕ) → Reaches least most k v → Begins (NumberFrom least most k v) []
  number_begins k v r =
      let n : ℕ = max least (v * 256 ^ k) in
      record {
        more = bytes_high_first k n;
        value = n;
        spelled = (
          has_digits_from k v n (omega arith)
              (before_next least (v * 256 ^ k) ((v + 1) * 256 ^ k) r.1 (next_above v (256 ^ k) (pow_above k))),
          omega arith,
          most_of least (v * 256 ^ k) most sound r.0,
        );
      }

  -- the condition under which the next byte is read
  abbrev test : (k v b : ℕ) → Bool
  test k v b = nat_lt b 256 && reaches least most k (v * 256 + b)

  test_reaches : (k v b : ℕ) → test k v b ≡ true → Reaches least most k (v * 256 + b)
  test_reaches k v b e = reaches_means least most k (v * 256 + b) (both_true _ _ e).1

  test_byte : (k v b : ℕ) → test k v b ≡ true → b < 256
  test_byte k v b e = let t : nat_lt b 256 ≡ true = (both_true _ _ e).0 in grind (arith, nat_tests)

  test_holds : (k v b : ℕ) (bytes : List ℕ) (n : ℕ) → b < 256 → NumberFrom least most k (v * 256 + b) bytes n → test k v b ≡ true
  test_holds k v b bytes n h s =
      let r : ((v * 256 + b) * 256 ^ k ≤ n) × (n < (v * 256 + b + 1) * 256 ^ k) = Digits-bounds k (v * 256 + b) bytes n s.0 in
      let t : nat_lt b 256 ≡ true = grind (arith, nat_tests) in
      true_both _ _ t (reaches_holds least most k (v * 256 + b) (omega (arith, r.0, s.2), omega (arith, r.1, s.1)))

  abbrev read_test : (k v b : ℕ) (bytes : List ℕ) → Bool → Reading ℕ ℕ
  read_test k v b bytes c = if c then number_from least most k (v * 256 + b) bytes else Err (suc (length bytes))

  abbrev Takes : (k v : ℕ) → List ℕ → Type 0
  Takes k v bytes = (n : ℕ) (rest : List ℕ) → number_from least most k v bytes ≡ Ok (n, rest)
      → Taken (NumberFrom least most k v) bytes n rest

  test_takes : (k v b : ℕ) (bytes : List ℕ) → (Reaches least most k (v * 256 + b) → Takes k (v * 256 + b) bytes)
      → (n : ℕ) (rest : List ℕ) (c : Bool) → test k v b ≡ c → read_test k v b bytes c ≡ Ok (n, rest)
      → Taken (NumberFrom least most (suc k) v) (b ∷ bytes) n rest
  test_takes k v b bytes ih n rest false t e = absurd (cc)
  test_takes k v b bytes ih n rest true t e =
      let u : Taken (NumberFrom least most k (v * 256 + b)) bytes n rest = ih (test_reaches k v b t) n rest e in
      record {
        front = b ∷ u.front;
        whole = ap (λ l. b ∷ l) u.whole;
        spelled = ((test_byte k v b t, u.spelled.0), u.spelled.1, u.spelled.2);
      }

  number_takes : (k v : ℕ) → Reaches least most k v → (bytes : List ℕ) → Takes k v bytes
  number_takes zero v r bytes n rest e =
      let f : n ≡ v = sym (ok_first _ _ _ _ e) in
      record { front = []; whole = ok_rest _ _ _ _ e; spelled = (f, omega (arith, r.1), omega (arith, r.0)) }
  number_takes (suc k) v r [] n rest e = absurd (cc)
  number_takes (suc k) v r (b ∷ bytes) n rest e = test_takes k v b bytes (λ s. number_takes k (v * 256 + b) s bytes) n rest
      (test k v b) refl e

  number_again : (k v : ℕ) (front : List ℕ) (n : ℕ) (rest : List ℕ) → NumberFrom least most k v front n
      → number_from least most k v (front ++ rest) ≡ Ok (n, rest)
  number_again zero v [] n rest s = ap (λ m. Ok (m, rest)) (sym s.0)
  number_again zero v (b ∷ front) n rest s = absurd s.0
  number_again (suc k) v [] n rest s = absurd s.0
  number_again (suc k) v (b ∷ front) n rest s =
      ap (λ c. read_test k v b (front ++ rest) c) (test_holds k v b front n s.0.0 (s.0.1, s.1, s.2))
      ∙ number_again k (v * 256 + b) front n rest (s.0.1, s.1, s.2)

  later_stays : (k v b : ℕ) → test k v b ≡ true → (front rest : List ℕ) → Stays (number_from least most k (v * 256 + b)) front rest
      → Stays (number_from least most (suc k) v) (b ∷ front) rest
  later_stays k v b t front [] stays = tt
  later_stays k v b t front (a ∷ rest) stays = λ more. ap (λ c. read_test k v b (front ++ a ∷ more) c) t ∙ stays more

  abbrev Stops : (k v : ℕ) → List ℕ → Type 0
  Stops k v bytes = (left : ℕ) → number_from least most k v bytes ≡ Err left
      → Stopped (NumberFrom least most k v) (number_from least most k v) bytes left

  test_stops : (k v b : ℕ) → Reaches least most (suc k) v → (bytes : List ℕ)
      → (Reaches least most k (v * 256 + b) → Stops k (v * 256 + b) bytes) → (left : ℕ) (c : Bool) → test k v b ≡ c
      → read_test k v b bytes c ≡ Err left → Stopped (NumberFrom least most (suc k) v) (number_from least most (suc k) v) (b ∷ bytes) left
  test_stops k v b r bytes ih left false t e =
      record {
        front = [];
        rest = b ∷ bytes;
        whole = refl;
        left_is = cc;
        begins = number_begins (suc k) v r;
        stays = λ more. ap (λ c. read_test k v b more c) t;
      }
  test_stops k v b r bytes ih left true t e =
      let u : Stopped (NumberFrom least most k (v * 256 + b)) (number_from least most k (v * 256 + b)) bytes left = ih
      (test_reaches k v b t) left e in
      record {
        front = b ∷ u.front;
        rest = u.rest;
        whole = ap (λ l. b ∷ l) u.whole;
        left_is = u.left_is;
        begins = record {
          more = u.begins.more;
          value = u.begins.value;
          spelled = ((test_byte k v b t, u.begins.spelled.0), u.begins.spelled.1, u.begins.spelled.2);
        };
        stays = later_stays k v b t u.front u.rest u.stays;
      }

  number_stops : (k v : ℕ) → Reaches least most k v → (bytes : List ℕ) → Stops k v bytes
  number_stops zero v r bytes left e = absurd (cc)
  number_stops (suc k) v r [] left e = record {
    front = [];
    rest = [];
    whole = refl;
    left_is = cc;
    begins = number_begins (suc k) v r;
    stays = tt;
  }
  number_stops (suc k) v r (b ∷ bytes) left e = test_stops k v b r bytes (λ s. number_stops k (v * 256 + b) s bytes) left
      (test k v b) refl e

  pub number_exact : (k : ℕ) → least < 256 ^ k → Exact (Number k least most) (number_at k least most)
  number_exact k h =
      let r : Reaches least most k 0 = (omega arith, omega arith) in
      record { takes = number_takes k 0 r; again = number_again k 0; stops = number_stops k 0 r }

  pub begins_number : (k : ℕ) → least < 256 ^ k → Begins (Number k least most) []
  begins_number k h = number_begins k 0 (omega arith, omega arith)

-- ---- one spelling
pub number_is : (k least most : ℕ) (bytes : List ℕ) (n : ℕ) → Number k least most bytes n → bytes ≡ bytes_high_first k n
number_is k least most bytes n s = Digits-are k 0 bytes n s.0

pub number_spelled : (k least most n : ℕ) → n < 256 ^ k → least ≤ n → n ≤ most → Number k least most (bytes_high_first k n) n
number_spelled k least most n h low high = (has_digits_from k 0 n (omega arith) (omega arith), low, high)
