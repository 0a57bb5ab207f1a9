-- What holds of an Eject that wanders, after any steps.
use Rattle.std.specs.Prelude.{◌≡◌, ◌≢◌, ◌⊎◌, ℕ, ◌≤◌, true, List, None, Some}
use Rattle.eden_value.specs.Datum.{Datum}
use Rattle.move_laws.specs.Wander.{Record, Here, Lent, Gone, generation, Site, View, IsFresh, Steps, last_of, IsBlank}

-- some image that the disk of the node may leave has this record
abbrev pub MayHave : {V : Type 0} → Site V → Record V → Type 0
MayHave s r = (s.kept ≡ Some r) ⊎ (s.doubt ≡ Some r)

-- the record is here
abbrev pub IsHere : {V : Type 0} → Record V → Type 0
IsHere (Here g v) = Unit {0}
IsHere (Lent g to v) = ⊥
IsHere (Gone g to) = ⊥

-- at most one node has it active; what is here on one may be here on no other, and no other has a later generation; and
-- what is active or here has a value that was acknowledged last, or cut short since
pub record OneHolder {V : Type 0} (w : View V) : Type 0 where
  pub one_active : (n m : ℕ) → (w.site n).active ≡ true → (w.site m).active ≡ true → n ≡ m
  pub one_here : (n m g : ℕ) (v : V) (r : Record V) → MayHave (w.site n) (Here g v) → MayHave (w.site m) r → m ≢ n
      → (IsHere r → ⊥) × (generation (Some r) ≤ g)
  pub active_is_here : (n : ℕ) → (w.site n).active ≡ true → (g : ℕ) × (v : V) × ((w.site n).kept ≡ Some (Here g v)) ×
      ((w.site n).doubt ≡ None)
  -- what is in memory is what is kept
  pub memory : (n g : ℕ) (v : V) → (w.site n).memory ≡ Some (g, v) → ((w.site n).kept ≡ Some (Here g v)) × ((w.site n).doubt ≡ None)
  pub fresh : (n g : ℕ) (v : V) → MayHave (w.site n) (Here g v) → IsFresh w v

-- it is not lost: where any node keeps a record of it, one keeps its value, as here, or as lent with no doubt; and no other has a later
-- record
pub record NotLost {V : Type 0} (w : View V) : Type 0 where
  pub node : ℕ
  pub generation_is : ℕ
  pub value : V
  pub fresh : IsFresh w value
  pub kept : ((w.site node).kept ≡ Some (Here generation_is value))
      ⊎ ((to : ℕ) × ((w.site node).kept ≡ Some (Lent generation_is to value)) × ((w.site node).doubt ≡ None))
  pub latest : (m : ℕ) → m ≢ node → generation (w.site m).kept ≤ generation_is

-- it is so after any steps from where there is nothing
abbrev pub AlwaysOneHolder : Type 0
AlwaysOneHolder = (home : ℕ) (w : View Datum) (xs : List (View Datum)) → IsBlank w → Steps home w xs → OneHolder (last_of w xs)

-- nor is it ever lost
abbrev pub NeverLost : Type 0
NeverLost = (home : ℕ) (w : View Datum) (xs : List (View Datum)) → IsBlank w → Steps home w xs
    → (n : ℕ) → ((last_of w xs).site n).kept ≢ None → NotLost (last_of w xs)
