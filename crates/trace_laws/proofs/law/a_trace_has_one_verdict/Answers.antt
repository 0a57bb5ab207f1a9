use Rattle.std.proofs.Common.{◌≡◌, ℕ, ◌<◌, List, refl, ap, arith, zero, suc}
use Rattle.journal.specs.declared.command.Script.{Script}
use Rattle.journal.specs.World.{World}
use Rattle.trace_laws.specs.Verdict.{Verdict, yes, none_from, IsVerdict}
use Rattle.trace_laws.proofs.law.a_trace_has_one_verdict.Goals as goal

data Order (k l : ℕ) : Type 0 where
  below : k < l → Order k l
  same : k ≡ l → Order k l
  above : l < k → Order k l

order : (k l : ℕ) → Order k l
order zero zero = same refl
order zero (suc l) = below (omega arith)
order (suc k) zero = above (omega arith)
order (suc k) (suc l) = go (order k l)
  where
    go : Order k l → Order (suc k) (suc l)
    go (below x) = below (omega (arith, x))
    go (same x) = same (ap suc x)
    go (above x) = above (omega (arith, x))

one : (opened : World) (script : Script) (trace : List ℕ) (v w : Verdict) → IsVerdict opened script trace v
    → IsVerdict opened script trace w → v ≡ w
one opened script trace yes yes x y = refl
one opened script trace yes (none_from k) x y = absurd (y.not_legal x)
one opened script trace (none_from k) yes x y = absurd (x.not_legal y)
one opened script trace (none_from k) (none_from l) x y = go (order k l)
  where
    go : Order k l → none_from k ≡ none_from l
    go (below lt) = absurd (x.none (y.before k x.counted lt))
    go (same e) = ap none_from e
    go (above lt) = absurd (y.none (x.before l y.counted lt))

pub returns : goal.returns
returns c = one
