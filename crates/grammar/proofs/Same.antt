-- Bytes are digits of one number, and so many bytes are no more.
use Rattle.std.proofs.Common.{◌≡◌, ℕ, zero, suc, ◌+◌, ◌*◌, List, [], ◌∷◌, ◌++◌, refl, sym, ◌∙◌}
use Rattle.grammar.specs.Numbers.{Digits, Number}

same_digits : (k v : ℕ) (bytes : List ℕ) (m n : ℕ) → Digits k v bytes m → Digits k v bytes n → m ≡ n
same_digits zero v [] m n d e = d ∙ sym e
same_digits zero v (b ∷ bytes) m n d e = absurd d
same_digits (suc k) v [] m n d e = absurd d
same_digits (suc k) v (b ∷ bytes) m n d e = same_digits k (v * 256 + b) bytes m n d.1 e.1

pub same_number : (k least most m n : ℕ) (bytes : List ℕ) → Number k least most bytes m → Number k least most bytes n → m ≡ n
same_number k least most m n bytes s t = same_digits k 0 bytes m n s.0 t.0

more_digits : (k v w : ℕ) (front more : List ℕ) (m n : ℕ) → Digits k v front m → Digits k w (front ++ more) n → more ≡ []
more_digits zero v w [] [] m n d e = refl
more_digits zero v w [] (b ∷ more) m n d e = absurd e
more_digits zero v w (b ∷ front) more m n d e = absurd d
more_digits (suc k) v w [] more m n d e = absurd d
more_digits (suc k) v w (b ∷ front) more m n d e = more_digits k (v * 256 + b) (w * 256 + b) front more m n d.1 e.1

pub no_longer : (k least most m n : ℕ) (front more : List ℕ) → Number k least most front m → Number k least most (front ++ more) n
    → more ≡ []
no_longer k least most m n front more s t = more_digits k 0 0 front more m n s.0 t.0
