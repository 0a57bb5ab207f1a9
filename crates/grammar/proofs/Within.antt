-- A number that was read lies within the bounds.
use Rattle.std.proofs.Common.{ℕ, ◌^◌, ◌≤◌, ◌<◌, List, Result, Ok, Err, IfOk}
use Rattle.grammar.specs.declared.stop.Stop.{Stop}
use Rattle.grammar.specs.Gives.{Gives}
use Rattle.grammar.specs.Numbers.{number_at}
use Rattle.grammar.proofs.Exact.{Taken}
use Rattle.grammar.specs.Numbers.{Number}
use Rattle.grammar.proofs.Numbers.{number_exact}

pub within_bounds : (least most : ℕ) → least ≤ most → (k : ℕ) → least < 256 ^ k → (bytes : List ℕ) → {X : Type 0}
    → (first : X → ℕ) (rest : X → List ℕ) (r : Result X Stop)
    → Gives (λ x. (first x, rest x)) r (number_at k least most bytes) → IfOk r (λ x. (least ≤ first x) × (first x ≤ most))
within_bounds least most sound k h bytes {X} first rest (Ok x) g =
    let t : Taken (Number k least most) bytes (first x) (rest x) = (number_exact least most sound k h).takes bytes (first x) (rest x) g in
    (t.spelled.1, t.spelled.2)
within_bounds least most sound k h bytes {X} first rest (Err e) g = tt
