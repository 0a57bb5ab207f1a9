-- Reading a value at a depth.
use Rattle.std.proofs.Common.{◌≡◌, ◌≢◌, ℕ, suc, ◌-◌, List, ap, arith}
use Rattle.grammar.specs.Reading.{read_then, one}
use Rattle.eden_codec.specs.Reading.{plain_of, plain_at, kind_of, any_at, value_at}

pub deeper : (depth : ℕ) → depth ≢ 0 → (bytes : List ℕ)
    → value_at depth bytes ≡ read_then (one kind_of bytes) (any_at (value_at (depth - 1)))
deeper depth h bytes = let e : depth ≡ suc (depth - 1) = omega arith in ap (λ n. value_at n bytes) e

pub flat : (depth : ℕ) → depth ≡ 0 → (bytes : List ℕ) → value_at depth bytes ≡ read_then (one plain_of bytes) plain_at
flat depth h bytes = ap (λ n. value_at n bytes) h
