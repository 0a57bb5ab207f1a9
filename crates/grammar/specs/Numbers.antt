-- Numbers in so many bytes, the highest first, within bounds.
use Rattle.std.specs.Prelude.{◌≡◌, ℕ, zero, suc, ◌+◌, ◌*◌, ◌^◌, ◌<◌, ◌≤◌, ◌&&◌, Bool, List, [], ◌∷◌, length, Ok, Err, nat_lt, if◌then◌else◌}
use Rattle.grammar.specs.Reading.{Reader}
use Rattle.grammar.specs.Grammar.{Grammar}

-- the bytes are k more digits to base 256, the highest first, of n, which begins with v
abbrev pub Digits : (k : ℕ) → ℕ → List ℕ → ℕ → Type 0
Digits zero v [] n = n ≡ v
Digits zero v (b ∷ bytes) n = ⊥
Digits (suc k) v [] n = ⊥
Digits (suc k) v (b ∷ bytes) n = (b < 256) × Digits k (v * 256 + b) bytes n

-- the bytes are k more digits of a number within the bounds, which begins with v
abbrev pub NumberFrom : ℕ → ℕ → (k : ℕ) → ℕ → Grammar ℕ ℕ
NumberFrom least most k v bytes n = Digits k v bytes n × (least ≤ n) × (n ≤ most)

-- the bytes are the number, in k bytes
abbrev pub Number : ℕ → ℕ → ℕ → Grammar ℕ ℕ
Number k least most bytes n = NumberFrom least most k 0 bytes n

-- ---- reading
-- whether a number that begins with the digits of v, and has k more digits, can be within the bounds
abbrev pub reaches : ℕ → ℕ → ℕ → ℕ → Bool
reaches least most k v = nat_lt (v * 256 ^ k) (suc most) && nat_lt least ((v + 1) * 256 ^ k)

-- k more digits of a number that begins with v, the highest first
abbrev pub number_from : ℕ → ℕ → (k : ℕ) → ℕ → Reader ℕ ℕ
number_from least most zero v bytes = Ok (v, bytes)
number_from least most (suc k) v [] = Err 0
number_from least most (suc k) v (b ∷ bytes) =
    if nat_lt b 256 && reaches least most k (v * 256 + b) then number_from least most k (v * 256 + b) bytes else Err (suc (length bytes))

-- a number of so many bytes, within a least and a greatest one
abbrev pub number_at : ℕ → ℕ → ℕ → Reader ℕ ℕ
number_at k least most bytes = number_from least most k 0 bytes
