-- Parts of an image of bytes are of bytes, and numbers that four of them spell fit in four.
use Rattle.std.proofs.Common.{ℕ, suc, zero, ◌+◌, ◌<◌, ◌^◌, List, [], ◌∷◌, ◌++◌, take, drop, get_or, sym, subst, arith}
use Rattle.std.specs.Prelude.{All, slice_range, flat_map}
use Rattle.std.specs.Int.{w32, from_be_bytes}
use Rattle.std.proofs.lemmas.List.{get_or-drop}

-- each of these is a byte
abbrev pub AreBytes : List ℕ → Type 0
AreBytes bytes = (i : ℕ) → get_or bytes i 0 < 256

pub are_bytes : (bytes : List ℕ) → All (λ byte. byte < 256) bytes → AreBytes bytes
are_bytes [] all i = omega arith
are_bytes (x ∷ xs) all zero = all 0 0 (omega arith)
are_bytes (x ∷ xs) all (suc i) = are_bytes xs (λ k d h. all (suc k) d (omega (arith, h))) i

pub all_bytes : (bytes : List ℕ) → AreBytes bytes → All (λ byte. byte < 256) bytes
all_bytes [] are k d h = absurd (omega (arith, h))
all_bytes (x ∷ xs) are zero d h = are 0
all_bytes (x ∷ xs) are (suc k) d h = all_bytes xs (λ i. are (suc i)) k d (omega (arith, h))

pub taken_bytes : (n : ℕ) (bytes : List ℕ) → AreBytes bytes → AreBytes (take n bytes)
taken_bytes zero bytes are i = omega arith
taken_bytes (suc n) [] are i = omega arith
taken_bytes (suc n) (x ∷ xs) are zero = are 0
taken_bytes (suc n) (x ∷ xs) are (suc i) = taken_bytes n xs (λ k. are (suc k)) i

pub dropped_bytes : (n : ℕ) (bytes : List ℕ) → AreBytes bytes → AreBytes (drop n bytes)
dropped_bytes n bytes are i = subst (λ b. b < 256) (sym (get_or-drop n bytes i 0)) (are (n + i))

pub part_bytes : (from to : ℕ) (bytes : List ℕ) → AreBytes bytes → AreBytes (slice_range bytes from to)
part_bytes from to bytes are = taken_bytes _ (drop from bytes) (dropped_bytes from bytes are)

pub joined_bytes : (xs ys : List ℕ) → AreBytes xs → AreBytes ys → AreBytes (xs ++ ys)
joined_bytes [] ys are more i = more i
joined_bytes (x ∷ xs) ys are more zero = are 0
joined_bytes (x ∷ xs) ys are more (suc i) = joined_bytes xs ys (λ k. are (suc k)) more i

pub flat_bytes : (f : ℕ → List ℕ) (xs : List ℕ) → ((x : ℕ) → AreBytes (f x)) → AreBytes (flat_map f xs)
flat_bytes f [] each = λ i. omega arith
flat_bytes f (x ∷ xs) each = joined_bytes (f x) (flat_map f xs) (each x) (flat_bytes f xs each)

pub spelled_number : (bytes : List ℕ) → AreBytes bytes → from_be_bytes w32 bytes < 2 ^ 32
spelled_number bytes are = omega (arith, are 0, are 1, are 2, are 3)
