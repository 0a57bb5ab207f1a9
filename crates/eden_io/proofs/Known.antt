-- Known bytes that are taken or added in two parts.
use Rattle.std.proofs.Common.{ℕ, ◌+◌, ◌<◌, ◌≤◌, List, [], ◌++◌, length, take, drop, refl, sym, ap, ◌∙◌, append_assoc, arith, Option}
use Rattle.std.proofs.Common.{Some, None, ◌-◌, take-add, length-drop, length-append, length-take}
use Rattle.std.proofs.lemmas.List.{take_rest}
use Rattle.std.specs.Io.KnownBytes.{Consumes, Appends, Keeps}

pub Consumes-append : (a b c : Option (List ℕ)) (xs ys : List ℕ) → Consumes a b xs → Consumes b c ys → Consumes a c (xs ++ ys)
Consumes-append None b c xs ys p q = tt
Consumes-append (Some a) None c xs ys p q = absurd p
Consumes-append (Some a) (Some b) None xs ys p q = absurd q
Consumes-append (Some a) (Some b) (Some c) xs ys p q = p ∙ ap (λ z. xs ++ z) q ∙ sym (append_assoc xs ys c)

pub Consumes-keeps : (a b c : Option (List ℕ)) (xs : List ℕ) → Consumes a b xs → Keeps b c → Consumes a c xs
Consumes-keeps None b c xs p q = tt
Consumes-keeps (Some a) None c xs p q = absurd p
Consumes-keeps (Some a) (Some b) None xs p q = absurd q
Consumes-keeps (Some a) (Some b) (Some c) xs p q = p ∙ ap (λ z. xs ++ z) (sym q)

pub Appends-append : (a b c : Option (List ℕ)) (xs ys : List ℕ) → Appends a b xs → Appends b c ys → Appends a c (xs ++ ys)
Appends-append None b c xs ys p q = tt
Appends-append (Some a) None c xs ys p q = absurd p
Appends-append (Some a) (Some b) None xs ys p q = absurd q
Appends-append (Some a) (Some b) (Some c) xs ys p q = q ∙ ap (λ z. z ++ ys) p ∙ append_assoc a xs ys

pub Appends-keeps : (a b c : Option (List ℕ)) (xs : List ℕ) → Appends a b xs → Keeps b c → Appends a c xs
Appends-keeps None b c xs p q = tt
Appends-keeps (Some a) None c xs p q = absurd p
Appends-keeps (Some a) (Some b) None xs p q = absurd q
Appends-keeps (Some a) (Some b) (Some c) xs p q = q ∙ p

pub Consumes-none : (a : Option (List ℕ)) → Consumes a a []
Consumes-none None = tt
Consumes-none (Some a) = refl

-- a write of n bytes of what stands from `at` on
pub Appends-rest : (a b c : Option (List ℕ)) (bytes : List ℕ) (at n : ℕ) → Appends a b (take at bytes)
    → Appends b c (take n (take (length bytes - at) (drop at bytes))) → Appends a c (take (at + n) bytes)
Appends-rest a b c bytes at n p q = rw take-add (Appends-append a b c (take at bytes) (take n (drop at bytes)) p (rw take_rest at q))

pub within_rest : (bytes : List ℕ) (at n : ℕ) → at ≤ length bytes → n ≤ length (take (length bytes - at) (drop at bytes))
    → at + n ≤ length bytes
within_rest bytes at n h k = let j = rw take_rest at k in omega (arith, length-drop at bytes, j)

pub taken_more : (xs out : List ℕ) (n limit : ℕ) → n ≤ length out → limit < length xs + n → limit < length (xs ++ take n out)
taken_more xs out n limit h k = omega (arith, length-append xs (take n out), length-take n out)

pub taken_within : (xs out : List ℕ) (n limit : ℕ) → n ≤ length out → length xs + n ≤ limit → length (xs ++ take n out) ≤ limit
taken_within xs out n limit h k = omega (arith, length-append xs (take n out), length-take n out)
