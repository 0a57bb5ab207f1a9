-- The queues of a fresh crew are empty.
use Rattle.std.proofs.Common.{◌≡◌, ◌<◌, ◌≤◌, ℕ, zero, suc, ◌+◌, List, [], ◌∷◌, map, length, replicate, get_or, None, Some, refl, sym, ap}
use Rattle.std.proofs.Common.{arith}
use Rattle.std.specs.Prelude.{slice_get}
use Rattle.std.specs.List.{All}
use Rattle.eden_model.specs.Crew.{Process, Monitor, Condition, Waiting, declared_from, Setup, fresh_crew, quiet_at}
use Rattle.eden_model.specs.Lines.{AreLines, IsLine}

get-replicate : {X : Type 0} (n i : ℕ) (x y : X) → slice_get (replicate n x) i ≡ Some y → y ≡ x
get-replicate zero i x y h = cc
get-replicate (suc n) zero x y h = cc
get-replicate (suc n) (suc i) x y h = get-replicate n i x y h

get-quiet : (ms : List ℕ) (i : ℕ) (it : Condition) → slice_get (map quiet_at ms) i ≡ Some it → (it.waiters ≡ []) × (i < length ms)
    × (it.monitor ≡ get_or ms i 0)
get-quiet [] i it h = cc
get-quiet (m ∷ ms) zero it h = let e : quiet_at m ≡ it = cc in
    (ap (λ (c : Condition). c.waiters) (sym e), omega arith, ap (λ (c : Condition). c.monitor) (sym e))
get-quiet (m ∷ ms) (suc i) it h = let r = get-quiet ms i it h in (r.0, omega (arith, r.1), r.2)

empty-line : (ps : List (ℕ × Process)) (w : Waiting) (ns : List ℕ) → ns ≡ [] → IsLine ps w ns
empty-line ps w ns e = rw e (record { once = tt; wait = tt })

pub fresh-lines : (s : Setup) → AreLines (fresh_crew s)
fresh-lines s = record {
  entering = λ i it at. empty-line _ _ it.entering
      (ap (λ (m : Monitor). m.entering) (get-replicate s.monitors i (record { holder = None; entering = [] }) it at));
  waiting = λ i it at. empty-line _ _ it.waiters (get-quiet s.conditions i it at).0;
}

pub fresh-monitors : (n : ℕ) (ms : List ℕ) → All (λ m. (1 ≤ m) × (m ≤ n)) ms → (i : ℕ) (it : Condition)
    → slice_get (map quiet_at ms) i ≡ Some it → (1 ≤ it.monitor) × (it.monitor ≤ n)
fresh-monitors n ms all i it at = let r = get-quiet ms i it at in rw r.2 (all i 0 r.1)

pub length-declared : (k n : ℕ) → length (declared_from k n) ≡ n
length-declared k zero = refl
length-declared k (suc n) = ap suc (length-declared (k + 1) n)
