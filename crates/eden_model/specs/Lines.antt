-- Whoever stands in a queue waits for just that, and stands there once: so no queue is longer than there are processes.
use Rattle.std.specs.Prelude.{◌≡◌, ℕ, ◌+◌, Bool, false, ◌||◌, List, [], ◌∷◌, Some, slice_get}
use Rattle.std.specs.Ordering.{nat_cmp, eq_by_cmp}
use Rattle.eden_model.specs.Crew.{Crew, Process, Monitor, Condition, Waiting, entry, condition, waits_at}

-- x is in the list
abbrev pub has : ℕ → List ℕ → Bool
has x [] = false
has x (y ∷ ys) = eq_by_cmp nat_cmp x y || has x ys

-- each stands once
abbrev pub Distinct : List ℕ → Type 0
Distinct [] = Unit {0}
Distinct (x ∷ xs) = (has x xs ≡ false) × Distinct xs

-- each process of the list is there and waits for this
abbrev pub AllWait : List (ℕ × Process) → Waiting → List ℕ → Type 0
AllWait processes w [] = Unit {0}
AllWait processes w (p ∷ ps) = (waits_at p processes ≡ Some w) × AllWait processes w ps

-- the queue has no process twice, and each that stands there waits for just what it is the queue of
pub record IsLine (processes : List (ℕ × Process)) (w : Waiting) (line : List ℕ) : Type 0 where
  pub once : Distinct line
  pub wait : AllWait processes w line

-- the entry queue of each monitor is such a queue, and so are the waiters of each condition
pub record AreLines (crew : Crew) : Type 0 where
  pub entering : (i : ℕ) (it : Monitor) → slice_get crew.monitors i ≡ Some it → IsLine crew.processes (entry (i + 1)) it.entering
  pub waiting : (i : ℕ) (it : Condition) → slice_get crew.conditions i ≡ Some it → IsLine crew.processes (condition i) it.waiters

-- the process is in no queue
pub record IsOut (crew : Crew) (p : ℕ) : Type 0 where
  pub entering : (i : ℕ) (it : Monitor) → slice_get crew.monitors i ≡ Some it → has p it.entering ≡ false
  pub waiting : (i : ℕ) (it : Condition) → slice_get crew.conditions i ≡ Some it → has p it.waiters ≡ false
