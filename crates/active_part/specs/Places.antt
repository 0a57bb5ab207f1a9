-- Where the task of a process stands.
use Rattle.std.specs.Prelude.{◌≡◌, ◌<◌, ◌==◌, ℕ, Bool, List, [], ◌∷◌, map, length, slice_index_or}
use Rattle.std.specs.List.{list_any}
use Rattle.eden_model.specs.Crew.{Crew}

-- it stands at this place, behind those of lesser numbers
pub record StandsAt {X : Type 0} (process place : ℕ) (es : List (ℕ × X)) : Type 0 where
  pub within : place < length es
  pub before : (k : ℕ) (d : ℕ × X) → k < place → (slice_index_or es k d).0 < process
  pub here : (d : ℕ × X) → (slice_index_or es place d).0 ≡ process

-- the numbers under which entries stand
abbrev pub keys : {X : Type 0} → List (ℕ × X) → List ℕ
keys es = map (λ e. e.0) es

-- whether a number is among these
abbrev pub is_number_in : ℕ → List ℕ → Bool
is_number_in p ks = list_any (λ k. k == p) ks

-- they ascend from past n
abbrev pub Ascend : ℕ → List ℕ → Type 0
Ascend n [] = Unit {0}
Ascend n (k ∷ ks) = (n < k) × Ascend k ks

-- each process has a task, and no other number has one
abbrev pub HaveTasks : {X : Type 0} → List (ℕ × X) → Crew → Type 0
HaveTasks es crew = keys es ≡ keys crew.processes
