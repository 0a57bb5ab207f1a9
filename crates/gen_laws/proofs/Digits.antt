-- Numbers as they are written in decimal, and tests that all bytes pass.
use Rattle.std.proofs.Common.{◌≡◌, ℕ, ◌+◌, ◌-◌, ◌*◌, ◌/◌, ◌%◌, ◌^◌, ◌<◌, ◌≤◌, Bool, true, false, List}
use Rattle.std.proofs.Common.{[], ◌∷◌, ◌++◌, refl, ◌∙◌, ap, arith}
use Rattle.std.specs.List.{list_all}
use Rattle.std.specs.Fmt.{decimal}
use Rattle.std.proofs.lemmas.Bool.{and_parts, and_from, or_left, le-leb}
use Rattle.std.proofs.lemmas.Fmt.{decimal_by_steps}
use Rattle.std.proofs.lemmas.List.Folds.{list_all-append}
use Rattle.script_words.specs.Form.{starts_with, is_digit, is_name_byte, is_number, is_printable, number_of, decimal_from}
use Rattle.script_words.proofs.Padded.{decimal-append, digit_bounds}

-- ## Tests

-- what each byte that passes one test passes
pub all-pass : (p q : ℕ → Bool) → ((b : ℕ) → p b ≡ true → q b ≡ true) → (bs : List ℕ) → list_all p bs ≡ true → list_all q bs ≡ true
all-pass p q f [] h = refl
all-pass p q f (b ∷ bs) h = let x = and_parts _ _ h in and_from _ _ (f b x.0) (all-pass p q f bs x.1)

-- two pieces pass, and so do both together
pub both-pass : (p : ℕ → Bool) (xs ys : List ℕ) → list_all p xs ≡ true → list_all p ys ≡ true → list_all p (xs ++ ys) ≡ true
both-pass p xs ys h k = list_all-append p xs ys ∙ and_from _ _ h k

-- ## Decimals

-- these bytes are the digits of a number
pub record AreDigits (n : ℕ) (ds : List ℕ) : Type 0 where
  pub digits : list_all is_digit ds ≡ true
  pub first : starts_with is_digit ds ≡ true
  pub value : decimal_from 0 ds ≡ n

one-digit : (n : ℕ) → n < 10 → is_digit (48 + n) ≡ true
one-digit n few = and_from _ _ (le-leb 48 (48 + n) (omega arith)) (le-leb (48 + n) 57 (omega (arith, few)))

digits-one : (n : ℕ) → n < 10 → AreDigits n ((48 + n) ∷ [])
digits-one n few = record {
  digits = and_from _ _ (one-digit n few) refl;
  first = one-digit n few;
  value = let e : 0 * 10 + (48 + n - 48) ≡ n = omega arith in e;
}

first-more : (ds : List ℕ) (b : ℕ) → starts_with is_digit ds ≡ true → starts_with is_digit (ds ++ b ∷ []) ≡ true
first-more [] b h = absurd (let bad : false ≡ true = h in cc bad)
first-more (d ∷ ds) b h = h

digits-more : (n : ℕ) (ds : List ℕ) → 10 ≤ n → AreDigits (n / 10) ds → AreDigits n (ds ++ (48 + n % 10) ∷ [])
digits-more n ds many h = record {
  digits = both-pass is_digit ds ((48 + n % 10) ∷ []) h.digits (and_from _ _ (one-digit (n % 10) below) refl);
  first = first-more ds (48 + n % 10) h.first;
  value = decimal-append ds ((48 + n % 10) ∷ []) 0 ∙ ap (λ v. v * 10 + (48 + n % 10 - 48)) h.value ∙ whole;
}
  where
    below : n % 10 < 10
    below = omega arith

    whole : n / 10 * 10 + (48 + n % 10 - 48) ≡ n
    whole = omega arith

pub digits-of : (n : ℕ) → n < 2 ^ 64 → AreDigits n (decimal n)
digits-of n few = decimal_by_steps AreDigits digits-one digits-more n few

-- so they spell it
pub spells-number : (n : ℕ) (ds : List ℕ) → AreDigits n ds → (is_number ds ≡ true) × (number_of ds ≡ n)
spells-number n ds h = (and_from _ _ h.first h.digits, h.value)

-- ## What digits are besides

digit-prints : (b : ℕ) → is_digit b ≡ true → is_printable b ≡ true
digit-prints b h = let p = digit_bounds b h in and_from _ _ (le-leb 32 b (omega (arith, p.0))) (le-leb b 126 (omega (arith, p.1)))

pub digits-print : (n : ℕ) (ds : List ℕ) → AreDigits n ds → list_all is_printable ds ≡ true
digits-print n ds h = all-pass is_digit is_printable digit-prints ds h.digits

digit-is-name : (b : ℕ) → is_digit b ≡ true → is_name_byte b ≡ true
digit-is-name b h = or_left _ _ (or_left _ _ (or_left _ _ h))

pub digits-in-names : (n : ℕ) (ds : List ℕ) → AreDigits n ds → list_all is_name_byte ds ≡ true
digits-in-names n ds h = all-pass is_digit is_name_byte digit-is-name ds h.digits
